-- The judgement by its ways: too many pieces, refused, accepted.
use Prim.Native.Nat.{ℕ, ◌≤◌, ◌<◌}
use mathlib.Core.Path.{◌≡◌, refl, sym}
use mathlib.Core.Logic.{◌≢◌}
use mathlib.Core.Bool.{Bool, true, false, not, cond}
use mathlib.Core.List.{List}
use native.Mathlib.Omega.{arith}
use lib.ListN.{length}
use lib.Dec.{eqb}
use borrow.Author.Tests.{lt-ltb, le-ltb, eqb-true, eqb-false}
use Rattle.std.specs.Prelude.{Some, None}
use Rattle.rules.specs.Words.{first_from}
use Rattle.rules.proofs.Tests.{ne_use, ne_make}
use Rattle.rules.proofs.Counts.{first_passes, first-least, first-le}
use Rattle.words.specs.Below.{found_below}
use Rattle.chop.specs.Pieces.{Piece, most}
use Rattle.chop.specs.Verdicts.{too_many_pieces, refused, accepted}
use Rattle.chop.specs.Judgement.{links_of, closing, turning, circle_at, verdict_at, verdict_by, judgement}

module _ (ps : List Piece) (w : List ℕ) where
  p : ℕ → Bool
  p b = not (eqb (closing ps w b) 0)

  -- at the piece that is found a circle closes
  pub turning_closes : turning ps w < length ps → closing ps w (turning ps w) ≢ 0
  unfolding turning p
  turning_closes l = ne_use (closing ps w (first_from p 0 (length ps))) 0 (first_passes p 0 (length ps) (let e = l in omega arith))

  -- and one is found where one closes
  pub closes_turning : (b : ℕ) → b < length ps → closing ps w b ≢ 0 → turning ps w < length ps
  unfolding turning p
  closes_turning b l d = let m = first-least p b 0 (length ps) (omega arith) (omega arith) (ne_make (closing ps w b) 0 d) in omega arith

  pub turning-le : turning ps w ≤ length ps
  unfolding turning p
  turning-le = let l = first-le p 0 (length ps) in omega arith

  pub verdict-refused : (b : ℕ) → b ≡ turning ps w → b < length ps → verdict_by ps w ≡ refused (circle_at ps w b)
  unfolding verdict_by verdict_at
  verdict-refused b e l = rw (sym e, lt-ltb b (length ps) l)

  pub verdict-accepted : (b : ℕ) → b ≡ turning ps w → length ps ≤ b → verdict_by ps w ≡ accepted
  unfolding verdict_by verdict_at
  verdict-accepted b e l = rw (sym e, le-ltb b (length ps) l)

pub judgement-many : (ps : List Piece) → most < length ps → judgement ps ≡ too_many_pieces
unfolding judgement
judgement-many ps l = rw (lt-ltb most (length ps) l)

pub judgement-few : (ps : List Piece) → length ps ≤ most → judgement ps ≡ verdict_by ps (links_of ps)
unfolding judgement
judgement-few ps l = rw (le-ltb most (length ps) l)

-- what a search below n found, or that it found nothing
pub found_some : (n i s : ℕ) → Some s ≡ found_below n i → (s ≡ i) × (i ≢ n)
unfolding found_below
found_some n i s e = go (eqb i n) refl e
  where
    go : (c : Bool) → eqb i n ≡ c → Some s ≡ cond c None (Some i) → (s ≡ i) × (i ≢ n)
    go true h e = grind arith
    go false h e = (grind arith, eqb-false i n h)

pub found_none : (n i : ℕ) → None ≡ found_below n i → i ≡ n
unfolding found_below
found_none n i e = go (eqb i n) refl e
  where
    go : (c : Bool) → eqb i n ≡ c → None ≡ cond c None (Some i) → i ≡ n
    go true h e = eqb-true i n h
    go false h e = grind arith
