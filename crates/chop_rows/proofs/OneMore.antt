-- Pieces that are being put together: the place of a row's piece, a row noted, and that pieces are never fewer.
use Prim.Native.Nat.{ℕ, zero, suc, ◌+◌, ◌-◌, ◌≤◌, ◌<◌}
use mathlib.Core.Path.{◌≡◌, refl, sym, ap, ◌∙◌}
use mathlib.Core.Bool.{Bool, true, false, cond}
use mathlib.Core.List.{List, [], ◌∷◌, ◌++◌}
use native.Mathlib.Omega.{arith}
use native.Mathlib.Numerals.{add-one}
use lib.ListN.{length, get_or, take, set, length-take, length-set, length-append}
use lib.Seq.{get_or-take, take-set-lt, take-suc-set}
use lib.Dec.{ltb}
use borrow.Author.Tests.{lt-ltb, le-ltb}
use Rattle.std.specs.Prelude.{Some, None}
use Rattle.rules.proofs.Counts.{first-le}
use Rattle.words.specs.Below.{found_below}
use Rattle.chop.proofs.Verdicts.{found_some, found_none}
use Rattle.chop_rows.specs.declared.Row.{Row}
use Rattle.chop_rows.specs.declared.Noted.{Noted}
use Rattle.chop_rows.specs.declared.Notes.{Notes}
use Rattle.chop.specs.Pieces.{most}
use Rattle.chop_rows.specs.RowPieces.{row_at, row_count, no_noted, is_of, noting, begun, place_in, noted_at, with_row, noted_by}
use Rattle.chop_rows.specs.Notes.{OneMore, NotesOf}

-- ---- the front of an array
pub front_length : {A : Type 0} (l : List A) (n : ℕ) → n ≤ length l → length (take n l) ≡ n
front_length l n h = simp length-take (omega arith)

-- ---- one row more
module _ (r : Row) (l : List Noted) (n k : ℕ) (room : length l ≡ most) (h : n ≤ most) (at : k ≡ place_in r (take n l)) where
  size : length (take n l) ≡ n
  size = front_length l n (omega arith)

  within : place_in r (take n l) ≤ length (take n l)
  unfolding place_in
  within = let m = first-le (λ j. is_of r (get_or (take n l) j no_noted)) 0 (length (take n l)) in omega arith

  -- a search found the piece, or did not
  pub place_some : (s : ℕ) → Some s ≡ found_below (length (take n l)) (place_in r (take n l)) → (s ≡ place_in r (take n l)) × (s < n)
  place_some s e =
      let f = found_some (length (take n l)) (place_in r (take n l)) s e in
      let p = f.0 in
      let d = f.1 in
      let m = within in
      let z = size in
      (p, omega arith)

  pub place_none : None ≡ found_below (length (take n l)) (place_in r (take n l)) → n ≤ k
  place_none e = let f = found_none (length (take n l)) (place_in r (take n l)) e in let z = size in omega arith

  -- the row's piece is there
  pub note_old : k < n → OneMore r (take n l) (record { count = n; pieces = set l k (noting r (get_or l k no_noted)) })
  unfolding with_row noted_at
  note_old i =
      let s = size in
      let e : with_row r (take n l) ≡ set (take n l) k (noting r (get_or l k no_noted)) =
      rw (sym at, lt-ltb k (length (take n l)) (omega arith)) (ap (λ (x : Noted). set (take n l) k (noting r x)) (get_or-take n l k no_noted i)) in
      record {
        count = sym (ap length e ∙ length-set (take n l) k (noting r (get_or l k no_noted)) ∙ s);
        pieces = λ m. take-set-lt n l k (noting r (get_or l k no_noted)) i ∙ sym e;
        room = length-set l k (noting r (get_or l k no_noted)) ∙ room;
      }

  new_is : n ≤ k → with_row r (take n l) ≡ take n l ++ (begun r ∷ [])
  unfolding with_row noted_at
  new_is i = let s = size in rw (sym at, le-ltb k (length (take n l)) (omega arith))

  new_count : n ≤ k → n + 1 ≡ length (with_row r (take n l))
  new_count i = let s = size in let a = length-append (take n l) (begun r ∷ []) in let e = ap length (new_is i) in omega arith

  -- the row begins a piece that has room
  pub note_new : n ≤ k → n < most → OneMore r (take n l) (record { count = n + 1; pieces = set l n (begun r) })
  note_new i f =
      record {
        count = new_count i;
        pieces = λ m. ap (λ (j : ℕ). take j (set l n (begun r))) (add-one n) ∙ take-suc-set l n (begun r) (omega arith) ∙ sym (new_is i);
        room = length-set l n (begun r) ∙ room;
      }

  -- it has none
  pub note_full : n ≤ k → most ≤ n → OneMore r (take n l) (record { count = n + 1; pieces = l })
  note_full i f = record { count = new_count i; pieces = λ m. absurd (omega arith); room = room }

-- ---- all rows
-- a row more never makes pieces fewer
row_keeps : (r : Row) (ps : List Noted) → length ps ≤ length (with_row r ps)
unfolding with_row noted_at
row_keeps r ps = go (ltb (place_in r ps) (length ps)) refl
  where
    go : (c : Bool) → ltb (place_in r ps) (length ps) ≡ c → length ps ≤ length (cond (ltb (place_in r ps) (length ps)) (set ps (place_in r ps) (noting r (get_or ps (place_in r ps) no_noted))) (ps ++ (begun r ∷ [])))
    go true e = rw (e, length-set ps (place_in r ps) (noting r (get_or ps (place_in r ps) no_noted))) (omega arith)
    go false e = rw (e, length-append ps (begun r ∷ [])) (omega arith)

pub rows_keep : (words : List ℕ) (j n : ℕ) → length (noted_by words n) ≤ length (noted_by words (n + j))
unfolding noted_by
rows_keep words zero n = let e : n + 0 ≡ n = omega arith in rw e (omega arith)
rows_keep words (suc j) n =
    let e : n + suc j ≡ suc (n + j) = omega arith in
    let h = rows_keep words j n in
    let g = row_keeps (row_at words (n + j)) (noted_by words (n + j)) in
    rw e (omega arith)

-- what the loop over the rows knows before row i
pub record Going (words : List ℕ) (n : Notes) (i : ℕ) : Type 0 where
  pub count : n.count ≤ most
  pub pieces : take n.count n.pieces ≡ noted_by words i
  pub room : length n.pieces ≡ most

pub noted_more : (words : List ℕ) (i : ℕ) → noted_by words (i + 1) ≡ with_row (row_at words i) (noted_by words i)
unfolding noted_by
noted_more words i = ap (noted_by words) (add-one i)

module _ (words : List ℕ) (n m : Notes) (i : ℕ) (G : Going words n i) (M : OneMore (row_at words i) (take n.count n.pieces) m) where
  is : with_row (row_at words i) (take n.count n.pieces) ≡ noted_by words (i + 1)
  is = ap (with_row (row_at words i)) G.pieces ∙ sym (noted_more words i)

  pub going_on : i < row_count words → m.count ≤ most → Going words m (i + 1)
  going_on l h = record { count = h; pieces = M.pieces h ∙ is; room = M.room }

  pub going_out : i < row_count words → most < m.count → NotesOf words m
  going_out l h =
      let c = M.count in
      let e = ap length is in
      let k = rows_keep words (row_count words - (i + 1)) (i + 1) in
      let q : i + 1 + (row_count words - (i + 1)) ≡ row_count words = omega arith in
      let z : length (noted_by words (i + 1 + (row_count words - (i + 1)))) ≡ length (noted_by words (row_count words)) = ap (λ (x : ℕ). length (noted_by words x)) q in
      record { many = λ t. omega arith; few = λ t. absurd (omega arith); room = M.room }

pub going_end : (words : List ℕ) (n : Notes) (i : ℕ) → Going words n i → i ≡ row_count words → NotesOf words n
going_end words n i G e =
    record { many = λ t. absurd (let c = G.count in omega arith); few = λ t. G.pieces ∙ ap (noted_by words) e; room = G.room }
