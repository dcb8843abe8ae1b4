-- Request E10: "so that `./keeper cut finest < FILE | ./keeper cut judge` says accepted". Each is proved in proofs/Theorems.
use Rattle.std.specs.Prelude.{ℕ, ◌≤◌, ◌≡◌, false, List, [], map, length, get_or}
use Rattle.rules.specs.Words.{some}
use Rattle.piece_lines.specs.Says.{Piece, piece}
use Rattle.line_words.specs.Said.{says}
use Rattle.op_lines.specs.Says.{Operation}
use Rattle.told_lines.specs.Lines.{said_in, first_bad}
use Rattle.finest.specs.Operations as finest
use Rattle.finest.specs.Finest.{finest_cut}
use Rattle.finest.specs.Choppings.{piece_by, leaders}
use Rattle.cut_lines.specs.Text.{items_in}
use Rattle.fining.specs.Programs as fining
use Rattle.fining.specs.Told as fine
use Rattle.cutting.specs.Chopping as cutting
use Rattle.finding_lines.specs.Lines.{accepted_words}
use Rattle.cutting.specs.Told as cut

-- the operations of a text that is cut: no line is bad, there are not too many, and no item is unknown
pub record IsCut (input : List ℕ) : Type 0 where
  pub good : first_bad (fining.said_lines input) ≡ 0
  pub few : length (said_in (fining.said_lines input)) ≤ finest.most
  pub known : some fining.unknown (said_in (fining.said_lines input)) ≡ false

-- the piece of operation i, as a line of a chopping says it: its program's name, and the items that it reads and writes
abbrev pub printed : List Operation → ℕ → Piece
printed os i =
    piece (get_or (fining.names_of os) i [])
    (items_in (piece_by (fining.numbered os) (finest_cut (fining.numbered os)) i).reads)
    (items_in (piece_by (fining.numbered os) (finest_cut (fining.numbered os)) i).writes)

-- what is put out, read as a chopping, says the pieces of the finest cut and nothing else
abbrev pub SaysThePieces : Type 0
SaysThePieces =
    (input : List ℕ) → IsCut input
    → let os = said_in (fining.said_lines input) in
    cutting.said_lines (fine.put_out input) ≡ map (λ i. says (printed os i)) (leaders (fining.numbered os) (finest_cut (fining.numbered os)))

-- "says accepted"
abbrev pub JudgedAccepted : Type 0
JudgedAccepted = (input : List ℕ) → IsCut input → cut.put_out (fine.put_out input) ≡ accepted_words
