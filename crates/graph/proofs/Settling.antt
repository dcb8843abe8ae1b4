-- As many links as there are vertices reach all that any way reaches: each link more reaches a vertex more, or non more ever.
use Prim.Native.Nat.{ℕ, zero, suc, ◌+◌, ◌-◌, ◌≤◌, ◌<◌}
use mathlib.Core.Path.{◌≡◌, refl, subst}
use mathlib.Core.Logic.{◌⊎◌, inl, inr}
use mathlib.Core.Bool.{Bool, true, false, ◌&&◌, not}
use mathlib.Core.List.{List}
use native.Mathlib.Omega.{arith}
use lib.ListN.{length}
use lib.Dec.{T, ltb}
use borrow.Author.Tests.{ltb-true, ltb-false}
use Rattle.rules.specs.Words.{bit, some_below, count_below}
use Rattle.rules.proofs.Tests.{and_both, and_left, and_right, true_is, false_is, not_make, not_use}
use Rattle.rules.proofs.Counts.{some_below→, →some_below, count-le, count_fewer}
use Rattle.graph.specs.Ways.{linked, Way}
use Rattle.graph.specs.Near.{near, joined}
use Rattle.graph.proofs.Counted.{count-more}
use Rattle.graph.proofs.Ways.{Room, grown_cases, room_below, near_goal, near-room, near_below, near-keeps, near-links, near_up, way-near, near-way}

module _ (w : List ℕ) (room goal : ℕ) (R : Room w room goal) where
  -- a link more than k reaches non vertex more
  abbrev Still : ℕ → Type 0
  Still k = (a : ℕ) → T (bit (near w room goal (suc k)) a) → T (bit (near w room goal k) a)

  still_on : (k : ℕ) → Still k → Still (suc k)
  unfolding near
  still_on k s a t = go (grown_cases w room (near w room goal (suc k)) a t)
    where
      go :
          T (bit (near w room goal (suc k)) a) ⊎ (T (bit room a) × ((b : ℕ) × T (linked w a b) × T (bit (near w room goal (suc k)) b)))
          → T (bit (near w room goal (suc k)) a)
      go (inl u) = u
      go (inr u) = near-links w room goal R k a u.1.0 u.0 u.1.1 (s u.1.0 u.1.2)

  still_all : (k i a : ℕ) → Still k → T (bit (near w room goal (k + i)) a) → T (bit (near w room goal k) a)
  still_all k zero a s t = subst (λ (j : ℕ). T (bit (near w room goal j) a)) (let e : k + 0 ≡ k = omega arith in e) t
  still_all k (suc i) a s t =
      s a (still_all (suc k) i a (still_on k s) (subst (λ (j : ℕ). T (bit (near w room goal j) a)) (let e : k + suc i ≡ suc k + i = omega arith in e) t))

  abbrev count : ℕ → ℕ
  count k = count_below (length w) (bit (near w room goal k))

  -- a vertex that is new after k links is one more
  pub new_more : (k a : ℕ) → T (bit (near w room goal (suc k)) a) → (T (bit (near w room goal k) a) → ⊥) → count k < count (suc k)
  new_more k a t non =
      count-more (length w) (bit (near w room goal k)) (bit (near w room goal (suc k))) a (λ i l. near-keeps w room goal R k i)
      (near_below w room goal R (suc k) a t) t non

  newer : ℕ → ℕ → Bool
  newer k a = bit (near w room goal (suc k)) a && not (bit (near w room goal k) a)

  -- a link more reaches nobody, or somebody
  moves : (k : ℕ) → Still k ⊎ (count k < count (suc k))
  unfolding newer
  moves k = go (some_below (length w) (newer k)) refl
    where
      go : (c : Bool) → some_below (length w) (newer k) ≡ c → Still k ⊎ (count k < count (suc k))
      go true e =
          let r = some_below→ (length w) (newer k) (true_is e) in
          let a = bit (near w room goal (suc k)) r.0 in
          let b = bit (near w room goal k) r.0 in
          inr (new_more k r.0 (and_left a (not b) r.2) (not_use b (and_right a (not b) r.2)))
      go false e = inl λ a t. still a t (bit (near w room goal k) a) refl
        where
          still : (a : ℕ) → T (bit (near w room goal (suc k)) a) → (d : Bool) → bit (near w room goal k) a ≡ d → T (bit (near w room goal k) a)
          still a t true h = true_is h
          still a t false h =
              absurd
              (false_is e
              (→some_below (length w) (newer k) a (near_below w room goal R (suc k) a t)
              (and_both (bit (near w room goal (suc k)) a) (not (bit (near w room goal k) a)) t (not_make (bit (near w room goal k) a) (false_is h)))))

  -- after k links there are more than k vertices, or all are reached
  pub filled : (k : ℕ) → (suc k ≤ count k) ⊎ Still k
  filled zero =
      inl
      (let m = count-more (length w) (λ i. false) (bit (near w room goal 0)) goal (λ i l t. absurd t) (room_below w room goal R goal R.inside) (near_goal w room goal R) (λ t. t) in
      omega arith)
  filled (suc k) = go (filled k) (moves k)
    where
      go : (suc k ≤ count k) ⊎ Still k → Still k ⊎ (count k < count (suc k)) → (suc (suc k) ≤ count (suc k)) ⊎ Still (suc k)
      go f (inl s) = inr (still_on k s)
      go (inr s) (inr l) = inr (still_on k s)
      go (inl f) (inr l) = inl (omega arith)

  pub all_still : Still (length w)
  all_still = go (filled (length w))
    where
      go : (suc (length w) ≤ count (length w)) ⊎ Still (length w) → Still (length w)
      go (inl l) = absurd (let m = count-le (length w) (bit (near w room goal (length w))) in omega arith)
      go (inr s) = s

  -- ---- who is joined to the goal
  pub way-joined : (k a : ℕ) → Way w room k a goal → T (bit (joined w room goal) a)
  unfolding joined
  way-joined k a v = go (ltb k (length w)) refl (way-near w room goal R v)
    where
      go : (c : Bool) → ltb k (length w) ≡ c → T (bit (near w room goal k) a) → T (bit (near w room goal (length w)) a)
      go true e t =
          let l = ltb-true k (length w) e in
          subst (λ (j : ℕ). T (bit (near w room goal j) a)) (let q : k + (length w - k) ≡ length w = omega arith in q) (near_up w room goal R k (length w - k) a t)
      go false e t =
          let l = ltb-false k (length w) e in
          still_all (length w) (k - length w) a all_still
          (subst (λ (j : ℕ). T (bit (near w room goal j) a)) (let q : k ≡ length w + (k - length w) = omega arith in q) t)

  pub joined-way : (a : ℕ) → T (bit (joined w room goal) a) → (j : ℕ) × Way w room j a goal
  unfolding joined
  joined-way a t = let v = near-way w room goal R (length w) a t in (v.0, v.2)

  -- who is new after k links has more than k vertices of the room behind it
  pub new_below : (k a : ℕ) → T (bit (near w room goal (suc k)) a) → (T (bit (near w room goal k) a) → ⊥) → suc (suc k) ≤ count_below (length w) (bit room)
  new_below k a t non = go (filled k)
    where
      go : (suc k ≤ count k) ⊎ Still k → suc (suc k) ≤ count_below (length w) (bit room)
      go (inl f) =
          let m = new_more k a t non in
          let r = count_fewer (length w) (bit (near w room goal (suc k))) (bit room) (λ i l. near-room w room goal R (suc k) i) in
          omega arith
      go (inr s) = absurd (non (s a t))
