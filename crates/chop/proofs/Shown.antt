-- The circle that is shown is one: at its first piece a conflict and a siblings' link come together, and the way between goes along
-- links, past no piece twice.
use Prim.Native.Nat.{ℕ, zero, suc, ◌+◌, ◌-◌, ◌≤◌, ◌<◌}
use mathlib.Core.Path.{◌≡◌, refl, sym, ap, ◌∙◌, subst}
use mathlib.Core.Logic.{◌≢◌, ◌⊎◌, inl, inr}
use mathlib.Core.Bool.{true}
use mathlib.Core.List.{List, ◌∷◌}
use native.Mathlib.Omega.{arith}
use lib.ListN.{length, get_or}
use lib.Dec.{T}
use Rattle.rules.specs.Words.{bit, count_below}
use Rattle.rules.proofs.Tests.{or_left, or_right}
use Rattle.rules.proofs.Counts.{split-le, count-le}
use Rattle.graph.specs.Near.{distance, way_from, path}
use Rattle.graph.proofs.Counted.{count-more}
use Rattle.graph.proofs.Ways.{Room, near-only, near-room, near_below}
use Rattle.graph.proofs.Paths.{Away, away_same, distance_away, way-length, way-first, way_away, way-linked, way-last, away_most}
use Rattle.chop.specs.Pieces.{Piece, piece, most, siblings, conflict, joins}
use Rattle.chop.specs.Circles.{Circle, at, after}
use Rattle.chop.specs.Judgement.{links_of, others, circle_at}
use Rattle.chop.proofs.Joining.{sibling-other, sibling-same, sibling_turned, conflict-other, linked-joins, links-length, others_in, others-room}
use Rattle.chop.proofs.Closing.{goal_of, from_of, Closed}
use Rattle.chop.proofs.Around.{after-inside, after_last}

module _ (ps : List Piece) (few : length ps ≤ most) (b : ℕ) (known : b < length ps) (C : Closed ps few b) where
  abbrev w : List ℕ
  w = links_of ps

  abbrev room : ℕ
  room = others (length ps) b

  abbrev goal : ℕ
  goal = goal_of ps few b

  abbrev from : ℕ
  from = from_of ps few b

  R : Room w room goal
  R = others-room ps b goal C.goal_known (λ e. sibling-other ps b goal C.goal_sibling (sym e))

  short : length w ≤ 64
  short = let e = links-length ps in omega arith

  d : ℕ
  d = distance w room goal from

  way : List ℕ
  way = way_from w room goal d from

  A : Away w room goal R short d from
  unfolding d
  A = distance_away w room goal R short from C.reached

  along : (i : ℕ) → i ≤ d → Away w room goal R short (d - i) (get_or way i 0)
  unfolding way
  along i l = way_away w room goal R short d from i A l

  size : length way ≡ suc d
  unfolding way
  size = way-length w room goal R short d from

  starts : get_or way 0 0 ≡ from
  unfolding way
  starts = way-first w room goal R short d from

  ends : get_or way d 0 ≡ goal
  unfolding way
  ends = way-last w room goal R short d from A

  steps : (i : ℕ) → i < d → T (joins ps (get_or way i 0) (get_or way (suc i) 0))
  unfolding way
  steps i l = linked-joins ps _ _ (way-linked w room goal R short d from i A l)

  -- the conflicting piece is not the sibling
  far : d ≢ 0
  far z =
      let t = (subst (λ (k : ℕ). Away w room goal R short k from) z A).inside in
      let e = near-only w room goal R from t in
      conflict-other ps b from C.from_conflict
      (sibling-same ps b goal C.goal_sibling ∙ ap (λ (x : ℕ). (piece ps x).transaction) (sym e))

  -- each piece of the way is known, and is not b
  inside : (i : ℕ) → i ≤ d → (get_or way i 0 < length ps) × (get_or way i 0 ≢ b)
  inside i l =
      let t = (along i l).inside in (
        let m = near_below w room goal R (d - i) (get_or way i 0) t in let e = links-length ps in omega arith,
        others_in ps b (get_or way i 0) (near-room w room goal R (d - i) (get_or way i 0) t),
      )

  first : T (conflict ps b from)
  first = C.from_conflict

  last : T (siblings ps goal b)
  last = sibling_turned ps b goal C.goal_sibling

  next-first : after (b ∷ way) 0 ≡ from
  next-first = after-inside (b ∷ way) 0 (let z = size in let f = far in omega arith) ∙ starts

  next-inside : (i : ℕ) → i < d → after (b ∷ way) (suc i) ≡ get_or way (suc i) 0
  next-inside i l =
      after-inside (b ∷ way) (suc i) (let z = size in omega arith)
      ∙ ap (λ (n : ℕ). get_or (b ∷ way) n 0) (let e : suc i + 1 ≡ suc (suc i) = omega arith in e)

  next_last : after (b ∷ way) (suc d) ≡ b
  next_last = after_last (b ∷ way) (suc d) (let z = size in omega arith)

  all_known : (i : ℕ) → i < suc (length way) → at (b ∷ way) i < length ps
  all_known zero l = known
  all_known (suc i) l = (inside i (let z = size in omega arith)).0

  all_distinct : (i j : ℕ) → i < suc (length way) → j < suc (length way) → at (b ∷ way) i ≡ at (b ∷ way) j → i ≡ j
  all_distinct zero zero l m e = refl
  all_distinct zero (suc j) l m e = absurd ((inside j (let z = size in omega arith)).1 (sym e))
  all_distinct (suc i) zero l m e = absurd ((inside i (let z = size in omega arith)).1 e)
  all_distinct (suc i) (suc j) l m e =
      let z = size in
      let p : i ≤ d = omega arith in
      let q : j ≤ d = omega arith in
      let f = along i p in
      let g = along j q in
      let s = away_same w room goal R short (d - i) (d - j) (get_or way j 0)
      (subst (λ (x : ℕ). Away w room goal R short (d - i) x) e f) g in
      omega arith

  all_joined_lem : (i : ℕ) → i < suc (length way) → T (joins ps (at (b ∷ way) i) (after (b ∷ way) i))
  all_joined_lem zero l = rw next-first (or_right (siblings ps b from) (conflict ps b from) first)
  all_joined_lem (suc i) l = go (split-le i d (let z = size in omega arith))
    where
      go : (i < d) ⊎ (i ≡ d) → T (joins ps (get_or way i 0) (after (b ∷ way) (suc i)))
      go (inl m) = rw (next-inside i m) (steps i m)
      go (inr e) =
          subst (λ (x : ℕ). T (joins ps (get_or way x 0) (after (b ∷ way) (suc x)))) (sym e)
          (rw (next_last, ends) (or_left (siblings ps goal b) (conflict ps goal b) last))

  pub shown-circle : Circle ps (circle_at ps w b)
  unfolding circle_at path way d
  shown-circle =
      record {
        long = let z = size in let f = far in omega arith;
        known = all_known;
        distinct = all_distinct;
        joined = all_joined_lem;
        sibling = (suc d, (let z = size in omega arith), rw (next_last, ends) last);
        conflicting = (0, (let z = size in omega arith), rw next-first first);
      }

  pub shown-length : length (circle_at ps w b) ≡ distance w room goal from + 2
  unfolding circle_at path way d
  shown-length = let z = size in omega arith

  -- the circle has at most as many pieces as there are
  pub shown-fits : distance w room goal from + 2 ≤ length ps
  unfolding d
  shown-fits = go (away_most w room goal R short d from A)
    where
      go : suc d ≤ count_below (length w) (bit room) ⊎ (d ≡ 0) → d + 2 ≤ length ps
      go (inr z) = absurd (far z)
      go (inl l) =
          let e = links-length ps in
          let m = count-more (length w) (bit room) (λ i. true) b (λ i k t. tt) (omega arith) tt (λ t. others_in ps b b t refl) in
          let k = count-le (length w) (λ i. true) in
          omega arith
