-- What is put out of whole programs, read as a chopping, says the pieces of the finest cut, and is accepted.
use Prim.Native.Nat.{ℕ, suc}
use mathlib.Core.Path.{◌≡◌, refl, ap, ◌∙◌}
use mathlib.Core.Bool.{cond}
use mathlib.Core.List.{List, [], ◌∷◌, map}
use native.Mathlib.Omega.{arith}
use lib.Dec.{ltb}
use lib.ListN.{length}
use borrow.Author.Tests.{le-ltb}
use Rattle.lines.specs.Lines.{lines_of}
use Rattle.piece_lines.specs.Says.{Piece}
use Rattle.piece_lines.specs.Read.{said}
use Rattle.line_words.specs.Said.{says}
use Rattle.told_lines.specs.Lines.{said_in, bad_from, first_bad, capped, bad_text}
use Rattle.finest.specs.Operations as finest
use Rattle.finest.specs.Finest.{finest_cut}
use Rattle.finest.specs.Choppings.{leaders}
use Rattle.fining.specs.Programs as fining
use Rattle.fining.specs.Told as fine
use Rattle.cutting.specs.Chopping as cutting
use Rattle.finding_lines.specs.Lines.{verdict_line}
use Rattle.cutting.specs.Told as cut
use Rattle.accepted_cut.specs.Promises.{IsCut, printed, SaysThePieces, JudgedAccepted}
use Rattle.accepted_cut.proofs.Reading.{all_named, text_read}
use Rattle.accepted_cut.proofs.Judged.{lines-accepted}

-- what is put out of a text that is cut are its pieces
text_is : (input : List ℕ) → IsCut input → fine.put_out input ≡ fine.pieces_text (said_in (fining.said_lines input))
unfolding fine.put_out fine.text_of fine.found_text
text_is input k =
    rw (le-ltb 0 (first_bad (fining.said_lines input)) (omega (arith, k.good)), le-ltb finest.most (length (said_in (fining.said_lines input))) k.few, k.known) refl

pub says_the_pieces : SaysThePieces
unfolding cutting.said_lines fining.said_lines
says_the_pieces input k =
    ap (λ (t : List ℕ). map said (lines_of t)) (text_is input k) ∙ text_read (said_in (fining.said_lines input)) k.few (all_named (lines_of input))

-- ---- lines that say pieces alone

module _ (f : ℕ → Piece) where
  none_bad : (is : List ℕ) (k : ℕ) → bad_from k (map (λ i. says (f i)) is) ≡ 0
  unfolding bad_from
  none_bad [] k = refl
  none_bad (i ∷ is) k = none_bad is (suc k)

  all_said : (is : List ℕ) → said_in (map (λ i. says (f i)) is) ≡ map f is
  unfolding said_in
  all_said [] = refl
  all_said (i ∷ is) = ap (λ (ps : List Piece). f i ∷ ps) (all_said is)

  line_of_lem : (is : List ℕ) → cut.line_of (map (λ i. says (f i)) is) ≡ verdict_line (cutting.verdict_on (map f is))
  unfolding cut.line_of first_bad
  line_of_lem is =
      ap (λ (k : ℕ). cond (ltb 0 k) (bad_text (capped k)) (verdict_line (cutting.verdict_on (said_in (map (λ i. says (f i)) is))))) (none_bad is 0)
      ∙ ap (λ (ps : List Piece). verdict_line (cutting.verdict_on ps)) (all_said is)

pub judged-accepted : JudgedAccepted
unfolding cut.put_out verdict_line
judged-accepted input k =
    let os = said_in (fining.said_lines input) in
    ap cut.line_of (says_the_pieces input k)
    ∙ line_of_lem (printed os) (leaders (fining.numbered os) (finest_cut (fining.numbered os)))
    ∙ ap verdict_line (lines-accepted os k.few k.known)
