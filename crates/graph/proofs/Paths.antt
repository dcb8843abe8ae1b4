-- The chosen way: it goes from its first vertex to the goal, along links and within the room, each vertex one link nearer than the one
-- before it, so that none is met twice.
use Prim.Native.Nat.{ℕ, zero, suc, ◌-◌, ◌^◌, ◌≤◌, ◌<◌}
use mathlib.Core.Path.{◌≡◌, refl, sym, ap, subst}
use mathlib.Core.Logic.{◌⊎◌, inl, inr}
use mathlib.Core.Bool.{Bool, true, false}
use mathlib.Core.List.{List}
use native.Mathlib.Omega.{arith}
use lib.ListN.{length, get_or}
use lib.Bits.{bit_and}
use lib.Dec.{T, ltb}
use borrow.Author.Tests.{ltb-true, ltb-false}
use Rattle.rules.specs.Words.{bit, first_from, count_below}
use Rattle.rules.proofs.Tests.{and_both, and_left, and_right}
use Rattle.rules.proofs.Counts.{first-le, first_passes, first-least}
use Rattle.rules.proofs.Bits.{below_bits}
use Rattle.words.proofs.SlotWords.{and_at, no_bit}
use Rattle.graph.specs.Sets.{lowest}
use Rattle.graph.specs.Ways.{linked, Way}
use Rattle.graph.specs.Near.{near, joined, distance, way_from}
use Rattle.graph.proofs.Sets.{lowest_in}
use Rattle.graph.proofs.Ways.{Room, grown_cases, near-room, near_below, near-only, near-links, way-near}
use Rattle.graph.proofs.Settling.{new_below}

module _ (w : List ℕ) (room goal : ℕ) (R : Room w room goal) (few : length w ≤ 64) where
  -- the shortest way from a to the goal has k links
  pub record Away (k a : ℕ) : Type 0 where
    pub inside : T (bit (near w room goal k) a)
    pub least : (j : ℕ) → j < k → T (bit (near w room goal j) a) → ⊥

  pub away_same : (j k a : ℕ) → Away j a → Away k a → j ≡ k
  away_same j k a A B = go (ltb j k) refl (ltb k j) refl
    where
      go : (c : Bool) → ltb j k ≡ c → (d : Bool) → ltb k j ≡ d → j ≡ k
      go true e d f = absurd (B.least j (ltb-true j k e) A.inside)
      go false e true f = absurd (A.least k (ltb-true k j f) B.inside)
      go false e false f = let l = ltb-false j k e in let m = ltb-false k j f in omega arith

  pub distance_away : (a : ℕ) → T (bit (joined w room goal) a) → Away (distance w room goal a) a
  unfolding joined distance
  distance_away a t =
      record {
        inside = go (ltb d (length w)) refl;
        least = λ j l u. let m = first-least p j 0 (length w) (omega arith) (let b = first-le p 0 (length w) in omega arith) u in omega arith;
      }
    where
      p : ℕ → Bool
      p k = bit (near w room goal k) a

      d : ℕ
      d = first_from p 0 (length w)

      go : (c : Bool) → ltb d (length w) ≡ c → T (bit (near w room goal d) a)
      go true e = first_passes p 0 (length w) (let l = ltb-true d (length w) e in omega arith)
      go false e =
          let l = ltb-false d (length w) e in
          let b = first-le p 0 (length w) in
          let q : length w ≡ d = omega arith in
          subst (λ (k : ℕ). T (bit (near w room goal k) a)) q t

  -- no way has fewer links
  pub away_shortest : (j k a : ℕ) → Away k a → Way w room j a goal → k ≤ j
  away_shortest j k a A v = go (ltb j k) refl
    where
      go : (c : Bool) → ltb j k ≡ c → k ≤ j
      go true e = absurd (A.least j (ltb-true j k e) (way-near w room goal R v))
      go false e = ltb-false j k e

  -- ---- the next vertex
  next : ℕ → ℕ → ℕ
  next k a = lowest (bit_and (get_or w a 0) (near w room goal k))

  nexts : (k a : ℕ) → Away (suc k) a → T (linked w a (next k a)) × T (bit (near w room goal k) (next k a))
  unfolding next linked near
  nexts k a A = go (grown_cases w room (near w room goal k) a A.inside)
    where
      m : ℕ
      m = bit_and (get_or w a 0) (near w room goal k)

      small : m < 2 ^ 64
      small =
          below_bits 64 m
          (λ b t.
          let u = and_right (bit (get_or w a 0) b) (bit (near w room goal k) b) (subst T (and_at (get_or w a 0) (near w room goal k) b) t) in
          let l = near_below w room goal R k b u in
          omega arith)

      go :
          T (bit (near w room goal k) a) ⊎ (T (bit room a) × ((b : ℕ) × T (linked w a b) × T (bit (near w room goal k) b)))
          → T (linked w a (lowest m)) × T (bit (near w room goal k) (lowest m))
      go (inl t) = absurd (A.least k (omega arith) t)
      go (inr s) =
          let b = s.1.0 in
          let t : T (bit m b) = subst T (sym (and_at (get_or w a 0) (near w room goal k) b)) (and_both (bit (get_or w a 0) b) (bit (near w room goal k) b) s.1.1 s.1.2) in
          let u = lowest_in m small (λ z. no_bit b (subst (λ (x : ℕ). T (bit x b)) z t)) in
          let h = subst T (and_at (get_or w a 0) (near w room goal k) (lowest m)) u in
          (and_left (bit (get_or w a 0) (lowest m)) (bit (near w room goal k) (lowest m)) h, and_right (bit (get_or w a 0) (lowest m)) (bit (near w room goal k) (lowest m)) h)

  next_away : (k a : ℕ) → Away (suc k) a → Away k (next k a)
  next_away k a A =
      let n = nexts k a A in
      record {
        inside = n.1;
        least = λ j l t. A.least (suc j) (omega arith) (near-links w room goal R j a (next k a) (near-room w room goal R (suc k) a A.inside) n.0 t);
      }

  -- ---- along the way
  pub way-length : (k a : ℕ) → length (way_from w room goal k a) ≡ suc k
  unfolding way_from
  way-length zero a = refl
  way-length (suc k) a = ap suc (way-length k _)

  pub way-first : (k a : ℕ) → get_or (way_from w room goal k a) 0 0 ≡ a
  unfolding way_from
  way-first zero a = refl
  way-first (suc k) a = refl

  pub way_away : (k a i : ℕ) → Away k a → i ≤ k → Away (k - i) (get_or (way_from w room goal k a) i 0)
  unfolding way_from next
  way_away zero a zero A l = A
  way_away zero a (suc i) A l = absurd (omega arith)
  way_away (suc k) a zero A l = subst (λ (j : ℕ). Away j a) (let e : suc k ≡ suc k - 0 = omega arith in e) A
  way_away (suc k) a (suc i) A l =
      let e : k - i ≡ suc k - suc i = omega arith in
      subst (λ (j : ℕ). Away j (get_or (way_from w room goal k (next k a)) i 0)) e (way_away k (next k a) i (next_away k a A) (omega arith))

  pub way-linked : (k a i : ℕ) → Away k a → i < k → T (linked w (get_or (way_from w room goal k a) i 0) (get_or (way_from w room goal k a) (suc i) 0))
  unfolding way_from next
  way-linked zero a i A l = absurd (omega arith)
  way-linked (suc k) a zero A l = subst (λ (x : ℕ). T (linked w a x)) (sym (way-first k (next k a))) (nexts k a A).0
  way-linked (suc k) a (suc i) A l = way-linked k (next k a) i (next_away k a A) (omega arith)

  pub way-last : (k a : ℕ) → Away k a → get_or (way_from w room goal k a) k 0 ≡ goal
  way-last k a A =
      let e : k - k ≡ 0 = omega arith in
      near-only w room goal R _ (subst (λ (j : ℕ). Away j (get_or (way_from w room goal k a) k 0)) e (way_away k a k A (omega arith))).inside

  -- ---- the shortest way has at most as many vertices as the room
  pub away_most : (k a : ℕ) → Away k a → suc k ≤ count_below (length w) (bit room) ⊎ (k ≡ 0)
  away_most zero a A = inr refl
  away_most (suc k) a A = inl (new_below w room goal R k a A.inside (A.least k (omega arith)))
