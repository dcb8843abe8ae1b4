-- The vertices near a goal are those from which a way leads there: of at most k links, for each k.
use Prim.Native.Nat.{ℕ, zero, suc, ◌+◌, ◌^◌, ◌≤◌, ◌<◌}
use mathlib.Core.Path.{◌≡◌, refl, sym, subst}
use mathlib.Core.Logic.{◌⊎◌, inl, inr}
use mathlib.Core.Bool.{Bool, ◌&&◌, ◌||◌}
use mathlib.Core.List.{List}
use native.Mathlib.Omega.{arith}
use native.Mathlib.Numerals.{add-one}
use lib.ListN.{length, get_or}
use lib.Dec.{T}
use borrow.Author.Tests.{eq-eqb}
use Rattle.rules.specs.Words.{bit}
use Rattle.rules.proofs.Tests.{and_both, and_left, and_right, or_cases, or_left, or_right, true_is}
use Rattle.rules.proofs.Bits.{bit_below, one_bit_at}
use Rattle.words.proofs.SlotWords.{alone-only}
use Rattle.graph.specs.Sets.{meets}
use Rattle.graph.specs.Ways.{linked, Way, here, link}
use Rattle.graph.specs.Near.{grown, near}
use Rattle.graph.proofs.Sets.{those_pass, those_below, those_in, meets_at, at_meets}

-- a room of vertices, and a goal in it
pub record Room (w : List ℕ) (room goal : ℕ) : Type 0 where
  pub small : room < 2 ^ length w
  pub inside : T (bit room goal)

-- one link more, in the code's numbers
pub near-more : (w : List ℕ) (room goal k : ℕ) → near w room goal (k + 1) ≡ grown w room (near w room goal k)
unfolding near
near-more w room goal k = rw add-one

-- ---- what a set grows by
module _ (w : List ℕ) (room m : ℕ) where
  joining : ℕ → Bool
  joining a = bit m a || (bit room a && meets (get_or w a 0) m)

  pub grown_below : (a : ℕ) → T (bit (grown w room m) a) → a < length w
  unfolding grown
  grown_below a t = those_below (length w) _ a t

  pub grown_cases : (a : ℕ) → T (bit (grown w room m) a) → T (bit m a) ⊎ (T (bit room a) × ((b : ℕ) × T (linked w a b) × T (bit m b)))
  unfolding grown linked joining
  grown_cases a t = go (or_cases (bit m a) (bit room a && meets (get_or w a 0) m) (those_pass (length w) joining a t))
    where
      go :
          T (bit m a) ⊎ T (bit room a && meets (get_or w a 0) m)
          → T (bit m a) ⊎ (T (bit room a) × ((b : ℕ) × T (bit (get_or w a 0) b) × T (bit m b)))
      go (inl s) = inl s
      go (inr s) =
          inr
          (and_left (bit room a) (meets (get_or w a 0) m) s, meets_at (get_or w a 0) m (and_right (bit room a) (meets (get_or w a 0) m) s))

  pub grown-keeps : (a : ℕ) → a < length w → T (bit m a) → T (bit (grown w room m) a)
  unfolding grown joining
  grown-keeps a l t = those_in (length w) joining a l (or_left (bit m a) (bit room a && meets (get_or w a 0) m) t)

  pub grown-links : (a b : ℕ) → a < length w → T (bit room a) → T (linked w a b) → T (bit m b) → T (bit (grown w room m) a)
  unfolding grown joining linked
  grown-links a b l r e t =
      those_in (length w) joining a l
      (or_right (bit m a) (bit room a && meets (get_or w a 0) m)
      (and_both (bit room a) (meets (get_or w a 0) m) r (at_meets (get_or w a 0) m b e t)))

-- ---- near a goal
module _ (w : List ℕ) (room goal : ℕ) (R : Room w room goal) where
  pub room_below : (a : ℕ) → T (bit room a) → a < length w
  room_below a t = bit_below room a (length w) R.small t

  pub near_goal : T (bit (near w room goal 0) goal)
  unfolding near
  near_goal = subst T (sym (one_bit_at goal goal)) (true_is (eq-eqb goal goal refl))

  pub near-only : (a : ℕ) → T (bit (near w room goal 0) a) → a ≡ goal
  unfolding near
  near-only a t = alone-only goal a t

  -- every vertex near the goal is in the room
  pub near-room : (k a : ℕ) → T (bit (near w room goal k) a) → T (bit room a)
  unfolding near
  near-room zero a t = subst (λ (x : ℕ). T (bit room x)) (sym (near-only a t)) R.inside
  near-room (suc k) a t = go (grown_cases w room (near w room goal k) a t) (near-room k a)
    where
      go :
          T (bit (near w room goal k) a) ⊎ (T (bit room a) × ((b : ℕ) × T (linked w a b) × T (bit (near w room goal k) b)))
          → (T (bit (near w room goal k) a) → T (bit room a)) → T (bit room a)
      go (inl s) f = f s
      go (inr s) f = s.0

  pub near_below : (k a : ℕ) → T (bit (near w room goal k) a) → a < length w
  near_below k a t = room_below a (near-room k a t)

  -- one link more reaches no less
  pub near-keeps : (k a : ℕ) → T (bit (near w room goal k) a) → T (bit (near w room goal (suc k)) a)
  unfolding near
  near-keeps k a t = grown-keeps w room (near w room goal k) a (near_below k a t) t

  pub near-links : (k a b : ℕ) → T (bit room a) → T (linked w a b) → T (bit (near w room goal k) b) → T (bit (near w room goal (suc k)) a)
  unfolding near
  near-links k a b r e t = grown-links w room (near w room goal k) a b (room_below a r) r e t

  pub near_up : (j k a : ℕ) → T (bit (near w room goal j) a) → T (bit (near w room goal (j + k)) a)
  near_up j zero a t = subst (λ (i : ℕ). T (bit (near w room goal i) a)) (let e : j ≡ j + 0 = omega arith in e) t
  near_up j (suc k) a t =
      subst (λ (i : ℕ). T (bit (near w room goal i) a)) (let e : suc (j + k) ≡ j + suc k = omega arith in e)
      (near-keeps (j + k) a (near_up j k a t))

  -- a way of k links starts near
  pub way-near : {k a : ℕ} → Way w room k a goal → T (bit (near w room goal k) a)
  way-near (here r) = near_goal
  way-near (link {k} {a} {b} r e v) = near-links k a b r e (way-near v)

  -- and from each vertex near there is a way of no more links
  pub near-way : (k a : ℕ) → T (bit (near w room goal k) a) → (j : ℕ) × (j ≤ k) × Way w room j a goal
  unfolding near
  near-way zero a t = (0, (omega arith), subst (λ (x : ℕ). Way w room 0 x goal) (sym (near-only a t)) (here R.inside))
  near-way (suc k) a t = go (grown_cases w room (near w room goal k) a t) (near-way k)
    where
      go :
          T (bit (near w room goal k) a) ⊎ (T (bit room a) × ((b : ℕ) × T (linked w a b) × T (bit (near w room goal k) b)))
          → ((b : ℕ) → T (bit (near w room goal k) b) → (j : ℕ) × (j ≤ k) × Way w room j b goal)
          → (j : ℕ) × (j ≤ suc k) × Way w room j a goal
      go (inl s) f = let v = f a s in (v.0, (let l = v.1 in omega arith), v.2)
      go (inr s) f = let v = f s.1.0 s.1.2 in (suc v.0, (let l = v.1 in omega arith), link s.0 s.1.1 v.2)
