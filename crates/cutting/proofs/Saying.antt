-- What the lines have come to says the line that is put out.
use Prim.Native.Nat.{ℕ, ◌*◌, ◌<◌, ◌≤◌}
use mathlib.Core.Path.{◌≡◌, sym, ap, ◌∙◌}
use mathlib.Core.Bool.{true, false}
use mathlib.Core.List.{List, []}
use native.Mathlib.Omega.{arith}
use lib.ListN.{length, take}
use Rattle.piece_lines.specs.Says.{Piece}
use Rattle.line_words.specs.Said.{Said}
use Rattle.line_words.proofs.Keeping.{counted-short, counted-long, short_or_long}
use Rattle.std.specs.Prelude.{None}
use Rattle.told_lines.specs.Lines.{said_in}
use Rattle.chop.specs.Pieces.{pieces_of}
use Rattle.chop.specs.Verdicts.{Verdict, too_many_pieces, unknown_item, shows, said}
use Rattle.chop.specs.Judgement.{judgement}
use Rattle.chop.specs.declared.Judged.{Judged}
use Rattle.chop.specs.declared.Finding.TheVariants.{TooManyPieces, UnknownItem}
use Rattle.cutting.specs.Chopping.{chopped_from, chopped, verdict_on}
use Rattle.finding_lines.specs.Lines.{line_for, verdict_line}
use Rattle.finding_lines.proofs.Printed.{line_for_lem}
use Rattle.cutting.specs.Told.{line_of}
use Rattle.cutting.specs.Life.{Holds, Counts}
use Rattle.cutting.specs.declared.pieces.Pieces.{Pieces}
use Rattle.cutting.specs.declared.tally.Tally.{Tally}
use Rattle.cutting.proofs.Verdicts.{pieces-back, verdict-many, verdict-unknown, verdict-judged, line-good}

-- the count tells whether there are too many
many : (ps : List Piece) (s : Pieces) → Holds ps s → 32 < s.count → 32 < length ps
many ps s k h = short_or_long (length ps) (λ l. absurd (omega (arith, k.count, counted-short (length ps) l))) (λ l. l)

few : (ps : List Piece) (s : Pieces) → Holds ps s → s.count ≤ 32 → (length ps ≤ 32) × (s.count ≡ length ps)
few ps s k h =
    short_or_long (length ps)
    (λ l. (l, k.count ∙ counted-short (length ps) l))
    (λ l. absurd (omega (arith, k.count, counted-long (length ps) l)))

-- the line of an answer
abbrev pub line_in : Judged → List ℕ
line_in j = line_for j.finding (take j.length j.circle)

module _ (ss : List (Said Piece)) (t : Tally) (k : Counts ss t) (good : t.bad ≡ None) where
  -- an answer that holds the verdict says the line
  as_said : (v : Verdict) → verdict_on (said_in ss) ≡ v → (j : Judged) → j ≡ said v → line_in j ≡ line_of ss
  as_said v e j q = ap line_in q ∙ line_for_lem v ∙ ap verdict_line (sym e) ∙ line-good ss (sym good ∙ k.bad)

  pub said-many : 32 < t.pieces.count → (j : Judged) → j ≡ shows TooManyPieces [] → line_in j ≡ line_of ss
  unfolding said
  said-many h = as_said too_many_pieces (verdict-many (said_in ss) (many (said_in ss) t.pieces k.kept h))

  module _ (h : t.pieces.count ≤ 32) where
    pub said-unknown : t.pieces.unknown ≡ true → (j : Judged) → j ≡ shows UnknownItem [] → line_in j ≡ line_of ss
    unfolding said
    said-unknown e = as_said unknown_item (verdict-unknown (said_in ss) (few (said_in ss) t.pieces k.kept h).0 (sym k.kept.unknown ∙ e))

    -- the rows are the pieces
    rows_are : pieces_of (take (t.pieces.count * 3) t.pieces.rows) ≡ chopped (said_in ss)
    unfolding chopped
    rows_are =
        let f = few (said_in ss) t.pieces k.kept h in
        ap pieces_of (ap (λ (n : ℕ). take (n * 3) t.pieces.rows) f.1 ∙ (k.kept.holding f.0).rows)
        ∙ pieces-back (chopped_from [] (said_in ss))

    pub said-judged : t.pieces.unknown ≡ false → (j : Judged) → j ≡ said (judgement (pieces_of (take (t.pieces.count * 3) t.pieces.rows))) → line_in j ≡ line_of ss
    said-judged e =
        as_said (judgement (pieces_of (take (t.pieces.count * 3) t.pieces.rows)))
        (verdict-judged (said_in ss) (few (said_in ss) t.pieces k.kept h).0 (sym k.kept.unknown ∙ e)
        ∙ ap judgement (sym rows_are))
