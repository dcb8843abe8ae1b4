-- Pieces written as rows of three words, and the judgement on rows of four words by its ways.
use Prim.Native.Nat.{ℕ, ◌+◌, ◌*◌, ◌/◌, ◌≤◌, ◌<◌}
use mathlib.Core.Path.{◌≡◌, sym, ap, ◌∙◌}
use mathlib.Core.Bool.{true, false}
use mathlib.Core.List.{List, map}
use native.Mathlib.Omega.{arith}
use borrow.Author.Count.{below_more}
use borrow.Author.Tests.{lt-ltb, le-ltb}
use lib.ListN.{length, get_or, take, set, length-set, length-map, get_or-map}
use lib.Seq.{get_or-set_same, get_or-set_other, get_or-take, ext_get_or}
use Rattle.chop_rows.specs.declared.Noted.{Noted}
use Rattle.chop_rows.specs.declared.Notes.{Notes}
use Rattle.chop.specs.Pieces.{most, no_piece, pieces_of}
use Rattle.chop.specs.Verdicts.{too_many_pieces, unknown_item, malformed}
use Rattle.chop.specs.Judgement.{judgement}
use Rattle.chop_rows.specs.RowPieces.{row_count, no_noted, piece_of, noted_by, row_pieces, some_unknown, some_malformed, rows_judgement}
use Rattle.chop_rows.specs.Notes.{NotesOf}
use Rattle.chop.proofs.InRows.{piece_in, length-pieces, piece_at}
use Rattle.chop_rows.proofs.OneMore.{front_length}

-- ---- three words written
abbrev pub put : List ℕ → ℕ → Noted → List ℕ
put out k p = set (set (set out (k * 3) p.transaction) (k * 3 + 1) p.reads) (k * 3 + 2) p.writes

pub put-length : (out : List ℕ) (k : ℕ) (p : Noted) → length (put out k p) ≡ length out
put-length out k p = simp length-set

untouched : (out : List ℕ) (k : ℕ) (p : Noted) (x : ℕ) → x < k * 3 → get_or (put out k p) x 0 ≡ get_or out x 0
untouched out k p x h =
    get_or-set_other (set (set out (k * 3) p.transaction) (k * 3 + 1) p.reads) (k * 3 + 2) x p.writes 0 (omega arith)
    ∙ get_or-set_other (set out (k * 3) p.transaction) (k * 3 + 1) x p.reads 0 (omega arith)
    ∙ get_or-set_other out (k * 3) x p.transaction 0 (omega arith)

put-before : (out : List ℕ) (k : ℕ) (p : Noted) (j : ℕ) → j < k → piece_in (put out k p) j ≡ piece_in out j
put-before out k p j h =
    let a = untouched out k p (j * 3) (omega arith) in
    let b = untouched out k p (j * 3 + 1) (omega arith) in
    let c = untouched out k p (j * 3 + 2) (omega arith) in
    λ i. record { transaction = a i; reads = b i; writes = c i }

put_here : (out : List ℕ) (k : ℕ) (p : Noted) → k * 3 + 2 < length out → piece_in (put out k p) k ≡ piece_of p
put_here out k p h =
    let s = set out (k * 3) p.transaction in
    let t = set s (k * 3 + 1) p.reads in
    let ls : length s ≡ length out = length-set out (k * 3) p.transaction in
    let lt : length t ≡ length s = length-set s (k * 3 + 1) p.reads in
    let a = get_or-set_other t (k * 3 + 2) (k * 3) p.writes 0 (omega arith) ∙ get_or-set_other s (k * 3 + 1) (k * 3) p.reads 0 (omega arith) ∙ get_or-set_same out (k * 3) p.transaction 0 (omega arith) in
    let b = get_or-set_other t (k * 3 + 2) (k * 3 + 1) p.writes 0 (omega arith) ∙ get_or-set_same s (k * 3 + 1) p.reads 0 (omega arith) in
    let c = get_or-set_same t (k * 3 + 2) p.writes 0 (omega arith) in
    λ i. record { transaction = a i; reads = b i; writes = c i }

-- what the loop knows: the pieces below k are written
pub record Written (pieces : List Noted) (out : List ℕ) (k : ℕ) : Type 0 where
  pub size : length out ≡ 96
  pub are : (j : ℕ) → j < k → piece_in out j ≡ piece_of (get_or pieces j no_noted)

pub write_turn : (pieces : List Noted) (out : List ℕ) (k : ℕ) → k < most → Written pieces out k → Written pieces (put out k (get_or pieces k no_noted)) (k + 1)
write_turn pieces out k h W =
    let p = get_or pieces k no_noted in
    let s = W.size in
    record {
      size = put-length out k p ∙ s;
      are =
          below_more (λ (j : ℕ). piece_in (put out k p) j ≡ piece_of (get_or pieces j no_noted)) k
          (λ j l. put-before out k p j l ∙ W.are j l) (put_here out k p (omega arith));
    }

pub write_end : (pieces : List Noted) (out : List ℕ) (n : ℕ) → n ≤ most → length pieces ≡ most → Written pieces out n → pieces_of (take (n * 3) out) ≡ map piece_of (take n pieces)
write_end pieces out n h z W =
    let s = W.size in
    let f : length (take (n * 3) out) ≡ n * 3 = front_length out (n * 3) (omega arith) in
    let l = length-pieces (take (n * 3) out) in
    let m : length (map piece_of (take n pieces)) ≡ n = length-map (take n pieces) piece_of ∙ front_length pieces n (omega arith) in
    let e : length (pieces_of (take (n * 3) out)) ≡ n = l ∙ (let q : length (take (n * 3) out) / 3 ≡ n = omega arith in q) in
    ext_get_or no_piece (pieces_of (take (n * 3) out)) (map piece_of (take n pieces)) (e ∙ sym m) (λ i b. each i (omega arith) f)
  where
    each : (i : ℕ) → i < n → length (take (n * 3) out) ≡ n * 3 → get_or (pieces_of (take (n * 3) out)) i no_piece ≡ get_or (map piece_of (take n pieces)) i no_piece
    each i b f =
        let a = get_or-take (n * 3) out (i * 3) 0 (omega arith) in
        let r = get_or-take (n * 3) out (i * 3 + 1) 0 (omega arith) in
        let w = get_or-take (n * 3) out (i * 3 + 2) 0 (omega arith) in
        let same : piece_in (take (n * 3) out) i ≡ piece_in out i = λ k. record { transaction = a k; reads = r k; writes = w k } in
        piece_at (take (n * 3) out) i (omega arith) ∙ same ∙ W.are i b
        ∙ ap piece_of (sym (get_or-take n pieces i no_noted b)) ∙ sym (get_or-map piece_of (take n pieces) i no_noted)

-- ---- the judgement on rows
module _ (words : List ℕ) where
  counted : length (row_pieces words) ≡ length (noted_by words (row_count words))
  unfolding row_pieces
  counted = length-map (noted_by words (row_count words)) piece_of

  pub rows-many : most < length (noted_by words (row_count words)) → rows_judgement words ≡ too_many_pieces
  unfolding rows_judgement
  rows-many h = rw (lt-ltb most (length (row_pieces words)) (let e = counted in omega arith))

  module _ (few : length (noted_by words (row_count words)) ≤ most) where
    enough : length (row_pieces words) ≤ most
    enough = let e = counted in let f = few in omega arith

    pub rows-unknown : some_unknown words ≡ true → rows_judgement words ≡ unknown_item
    unfolding rows_judgement
    rows-unknown u = rw (le-ltb most (length (row_pieces words)) enough, u)

    pub rows-malformed : some_unknown words ≡ false → some_malformed words ≡ true → rows_judgement words ≡ malformed
    unfolding rows_judgement
    rows-malformed u m = rw (le-ltb most (length (row_pieces words)) enough, u, m)

    pub rows-judged : some_unknown words ≡ false → some_malformed words ≡ false → rows_judgement words ≡ judgement (row_pieces words)
    unfolding rows_judgement
    rows-judged u m = rw (le-ltb most (length (row_pieces words)) enough, u, m)

-- the pieces that were noted are few
pub noted-few : (words : List ℕ) (n : Notes) → NotesOf words n → n.count ≤ most → length (noted_by words (row_count words)) ≤ most
noted-few words n N h =
    let e = ap length (N.few h) in
    let r = N.room in
    let f = front_length n.pieces n.count (omega arith) in
    omega arith
