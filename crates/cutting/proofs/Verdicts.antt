-- The verdict on what the lines say, and the line of it.
use Prim.Native.Nat.{ℕ, suc, ◌+◌, ◌*◌, ◌/◌, ◌<◌, ◌≤◌}
use mathlib.Core.Path.{◌≡◌, refl, sym, ap, ap₂, ◌∙◌}
use mathlib.Core.Bool.{true, false}
use mathlib.Core.List.{List, [], ◌∷◌, ◌++◌, append_assoc}
use native.Mathlib.Omega.{arith}
use lib.ListN.{length, get_or, length-append}
use lib.Seq.{get_or-append-add}
use borrow.Author.Tests.{lt-ltb, le-ltb}
use Rattle.rules.specs.Words.{some, tabulate_from}
use Rattle.rules.proofs.Circles.{length_tabulate}
use Rattle.piece_lines.specs.Says.{Piece}
use Rattle.line_words.specs.Said.{Said}
use Rattle.piece_lines.specs.Items.{unknown_in}
use Rattle.std.specs.Prelude.{Some, None}
use Rattle.told_lines.specs.Lines.{said_in, first_bad, bad_line, bad_text}
use Rattle.told_lines.proofs.Counting.{bad_some, bad_none}
use Rattle.chop.specs.Pieces as chop
use Rattle.chop.specs.Pieces.{pieces_of}
use Rattle.chop.specs.Verdicts.{too_many_pieces, unknown_item}
use Rattle.chop.specs.Judgement.{judgement}
use Rattle.finding_lines.specs.Lines.{verdict_line}
use Rattle.cutting.specs.Chopping.{chopped, verdict_on}
use Rattle.cutting.specs.Told.{line_of}
use Rattle.cutting.specs.Life.{row_words}

-- ---- rows of words, read as pieces

pub pieces-number : (words : List ℕ) → length (pieces_of words) ≡ length words / 3
unfolding pieces_of
pieces-number words = length_tabulate (length words / 3) 0 _

-- piece i of some words
piece_at : List ℕ → ℕ → chop.Piece
piece_at words i = record { transaction = get_or words (i * 3) 0; reads = get_or words (i * 3 + 1) 0; writes = get_or words (i * 3 + 2) 0 }

at_front : (front rest : List ℕ) (i k : ℕ) → length front ≡ i * 3 → get_or (front ++ rest) (i * 3 + k) 0 ≡ get_or rest k 0
at_front front rest i k e = ap (λ (n : ℕ). get_or (front ++ rest) (n + k) 0) (sym e) ∙ get_or-append-add front rest k 0

read_back : (qs : List chop.Piece) (front : List ℕ) (i : ℕ) → length front ≡ i * 3 → tabulate_from i (length qs) (piece_at (front ++ row_words qs)) ≡ qs
unfolding tabulate_from row_words piece_at
read_back [] front i e = refl
read_back (q ∷ qs) front i e =
    let three : List ℕ = q.transaction ∷ q.reads ∷ q.writes ∷ [] in
    let all : List ℕ = front ++ (three ++ row_words qs) in
    let here : piece_at all i ≡ q
    = λ j. record {
      transaction = (ap (λ (n : ℕ). get_or all n 0) (let z : i * 3 ≡ i * 3 + 0 = omega arith in z) ∙ at_front front (three ++ row_words qs) i 0 e) j;
      reads = at_front front (three ++ row_words qs) i 1 e j;
      writes = at_front front (three ++ row_words qs) i 2 e j;
    } in
    let longer : length (front ++ three) ≡ suc i * 3 = length-append front three ∙ (let z : length front + 3 ≡ suc i * 3 = omega arith in z) in
    let rest : tabulate_from (suc i) (length qs) (piece_at all) ≡ qs
    = ap (λ (l : List ℕ). tabulate_from (suc i) (length qs) (piece_at l)) (sym (append_assoc front three (row_words qs))) ∙ read_back qs (front ++ three) (suc i) longer in
    ap₂ (λ (x : chop.Piece) (xs : List chop.Piece). x ∷ xs) here rest

words-length : (qs : List chop.Piece) → length (row_words qs) ≡ length qs * 3
unfolding row_words
words-length [] = refl
words-length (q ∷ qs) = let r = words-length qs in omega arith

pub pieces-back : (qs : List chop.Piece) → pieces_of (row_words qs) ≡ qs
unfolding pieces_of piece_at
pieces-back qs =
    ap (λ (n : ℕ). tabulate_from 0 n (piece_at (row_words qs))) (let w = words-length qs in let z : length (row_words qs) / 3 ≡ length qs = omega arith in z)
    ∙ read_back qs [] 0 refl

-- ---- the verdict

module _ (ps : List Piece) where
  pub verdict-many : 32 < length ps → verdict_on ps ≡ too_many_pieces
  unfolding verdict_on
  verdict-many h = rw (lt-ltb 32 (length ps) h) refl

  pub verdict-unknown : length ps ≤ 32 → some unknown_in ps ≡ true → verdict_on ps ≡ unknown_item
  unfolding verdict_on
  verdict-unknown h e = rw (le-ltb 32 (length ps) h, e) refl

  pub verdict-judged : length ps ≤ 32 → some unknown_in ps ≡ false → verdict_on ps ≡ judgement (chopped ps)
  unfolding verdict_on
  verdict-judged h e = rw (le-ltb 32 (length ps) h, e) refl

-- ---- the line of all lines

pub line-bad : (ss : List (Said Piece)) (b : ℕ) → Some b ≡ bad_line (first_bad ss) → bad_text b ≡ line_of ss
unfolding line_of
line-bad ss b e =
    let k = bad_some (first_bad ss) e in
    rw (lt-ltb 0 (first_bad ss) k.0) (ap bad_text k.1)

pub line-good : (ss : List (Said Piece)) → None ≡ bad_line (first_bad ss) → verdict_line (verdict_on (said_in ss)) ≡ line_of ss
unfolding line_of
line-good ss e =
    let z = bad_none (first_bad ss) e in
    rw (le-ltb 0 (first_bad ss) (omega arith)) refl
