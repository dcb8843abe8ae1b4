-- The text of the pieces of operations that have names, read as a chopping.
use Prim.Native.Nat.{ℕ, zero, suc, ◌+◌, ◌<◌, ◌≤◌}
use mathlib.Core.Path.{◌≡◌, refl, ap, ◌∙◌}
use mathlib.Core.Bool.{Bool, true, false, cond}
use mathlib.Core.List.{List, [], ◌∷◌, ◌++◌, map}
use native.Mathlib.Omega.{arith}
use lib.ListN.{length, get_or}
use Rattle.numerals.specs.Print.{Words}
use Rattle.lines.specs.Lines.{lines_of}
use Rattle.lines.proofs.Cutting.{lines_none}
use Rattle.piece_lines.specs.Says.{Piece}
use Rattle.line_words.specs.Said.{Name}
use Rattle.piece_lines.specs.Read.{said}
use Rattle.line_words.specs.Said.{Said, comment, says, bad}
use Rattle.op_lines.specs.Says.{Operation}
use Rattle.op_lines.specs.Read as op
use Rattle.op_lines.proofs.Only.{said-says}
use Rattle.told_lines.specs.Lines.{said_in}
use Rattle.finest.specs.Operations as finest
use Rattle.finest.specs.Finest.{finest_cut}
use Rattle.finest.specs.Choppings.{together, passing, leads, leaders, piece_by}
use Rattle.cut_lines.specs.Text.{places_of, line_at, lines_at, cut_text}
use Rattle.fining.specs.Programs.{names_of, numbered}
use Rattle.fining.specs.Told as fine
use Rattle.fining.proofs.Words.{numbered-length}
use Rattle.accepted_cut.specs.Promises.{printed}
use Rattle.accepted_cut.proofs.Lines.{raised-words, line_read}

-- every operation that is said has a name
pub all_named : (ls : List (List ℕ)) (i : ℕ) → i < length (said_in (map op.said ls)) → Name (get_or (names_of (said_in (map op.said ls))) i [])
unfolding said_in
all_named [] i h = absurd (omega arith)
all_named (l ∷ ls) i h = go (op.said l) refl i h (all_named ls)
  where
    go : (s : Said Operation) → op.said l ≡ s → (i : ℕ) → i < length (said_in (s ∷ map op.said ls))
        → ((j : ℕ) → j < length (said_in (map op.said ls)) → Name (get_or (names_of (said_in (map op.said ls))) j []))
        → Name (get_or (names_of (said_in (s ∷ map op.said ls))) i [])
    go comment e i h f = f i h
    go (says o) e zero h f = (said-says l o e).named
    go (says o) e (suc i) h f = f i (omega arith)
    go bad e i h f = f i h

pub size : (os : List Operation) → length (numbered os) ≡ length os
unfolding numbered
size os = numbered-length os []

-- its name, its line without the places, its text from some operation on
abbrev name_of : List Operation → ℕ → List ℕ
name_of os i = get_or (names_of os) i []

abbrev cut_of : List Operation → List ℕ
cut_of os = finest_cut (numbered os)

places : (os : List Operation) → length os ≤ finest.most → (i : ℕ) → Words (places_of (numbered os) (cut_of os) i)
unfolding places_of
places os few i = raised-words (together (numbered os) (cut_of os) i) 0 (length (numbered os)) (omega (arith, size os))

-- one line
line_of_lem : (os : List Operation) → length os ≤ finest.most → (i : ℕ) → Name (name_of os i) → (rest : List ℕ) → map said (lines_of (line_at (name_of os) (numbered os) (cut_of os) i ++ rest)) ≡ says (printed os i) ∷ map said (lines_of rest)
unfolding line_at
line_of_lem os few i named rest =
    line_read (piece_by (numbered os) (cut_of os) i) (name_of os i) named (places_of (numbered os) (cut_of os) i) (places os few i) rest

module _ (os : List Operation) (few : length os ≤ finest.most) (named : (i : ℕ) → i < length os → Name (name_of os i)) where
  read-from : (p : ℕ → Bool) (i n : ℕ) → i + n ≤ length os → map said (lines_of (lines_at (name_of os) (numbered os) (cut_of os) (passing p i n))) ≡ map (λ k. says (printed os k)) (passing p i n)
  unfolding passing lines_at
  read-from p i zero h = ap (map said) lines_none
  read-from p i (suc n) h = go (p i) (read-from p (suc i) n (omega arith))
    where
      one : map said (lines_of (line_at (name_of os) (numbered os) (cut_of os) i ++ lines_at (name_of os) (numbered os) (cut_of os) (passing p (suc i) n))) ≡ says (printed os i) ∷ map said (lines_of (lines_at (name_of os) (numbered os) (cut_of os) (passing p (suc i) n)))
      one = line_of_lem os few i (named i (omega arith)) (lines_at (name_of os) (numbered os) (cut_of os) (passing p (suc i) n))

      go : (t : Bool)
          → map said (lines_of (lines_at (name_of os) (numbered os) (cut_of os) (passing p (suc i) n))) ≡ map (λ k. says (printed os k)) (passing p (suc i) n)
          → map said (lines_of (lines_at (name_of os) (numbered os) (cut_of os) (cond t (i ∷ passing p (suc i) n) (passing p (suc i) n)))) ≡ map (λ k. says (printed os k)) (cond t (i ∷ passing p (suc i) n) (passing p (suc i) n))
      go true e = one ∙ ap (λ (l : List (Said Piece)). says (printed os i) ∷ l) e
      go false e = e

  pub text_read : map said (lines_of (fine.pieces_text os)) ≡ map (λ k. says (printed os k)) (leaders (numbered os) (cut_of os))
  unfolding fine.pieces_text cut_text leaders
  text_read = read-from (leads (numbered os) (cut_of os)) 0 (length (numbered os)) (omega (arith, size os))
