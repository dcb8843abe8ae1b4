-- The input so far, with a byte more and at its end: what the lines say is counted.
use Prim.Native.Nat.{ℕ}
use mathlib.Core.Path.{◌≡◌, refl, sym, subst, ◌∙◌}
use mathlib.Core.Bool.{true, false}
use mathlib.Core.List.{List, [], ◌∷◌, ◌++◌, map}
use native.Mathlib.Omega.{arith}
use lib.ListN.{length, length-append}
use borrow.Author.Tests.{eq-eqb, ne_eqb, lt-ltb}
use Rattle.piece_lines.specs.Says.{Piece}
use Rattle.piece_lines.specs.Read.{said}
use Rattle.line_words.specs.Said.{Said}
use Rattle.piece_lines.specs.Held.{Follows}
use Rattle.piece_lines.specs.declared.Line.{Line}
use Rattle.told_lines.specs.Seen.{Seen, see_byte, see, all_lines}
use Rattle.told_lines.proofs.Seeing.{all_seen, map_more}
use Rattle.cutting.specs.Chopping.{said_lines}
use Rattle.cutting.specs.Life.{Counts, Keeps}
use Rattle.cutting.specs.declared.tally.Tally.{Tally}
use Rattle.cutting.specs.declared.Cutting.{Cutting}

-- a line more is counted
one_more_lem : (ls : List (List ℕ)) (l : List ℕ) {tally : Tally} → Counts (map said ls ++ (said l ∷ [])) tally → Counts (map said (ls ++ (l ∷ []))) tally
one_more_lem ls l {tally} c = subst (λ (ss : List (Said Piece)). Counts ss tally) (sym (map_more said ls l)) c

-- ---- a byte more

module _ (k : Seen) (s : Cutting) (q : Keeps k s) (b : ℕ) where
  pub keeps_end : b ≡ 10 → {line : Line} {tally : Tally} → Follows [] line → Counts (map said k.lines ++ (said k.line ∷ [])) tally → Keeps (see_byte k b) (record { line = line; begun = false; tally = tally })
  unfolding see_byte
  keeps_end e f c = rw (eq-eqb b 10 e) (record { line = f; begun = refl; tally = one_more_lem k.lines k.line c })

  pub keeps_on : (b ≡ 10 → ⊥) → {line : Line} → Follows (k.line ++ (b ∷ [])) line → Keeps (see_byte k b) (record { line = line; begun = true; tally = s.tally })
  unfolding see_byte
  keeps_on d f =
      rw (ne_eqb b 10 d)
      (record {
        line = f;
        begun = sym (lt-ltb 0 (length (k.line ++ (b ∷ []))) (omega (arith, length-append k.line (b ∷ []))));
        tally = q.tally;
      })

-- ---- the end of the input

module _ (input : List ℕ) (s : Cutting) (q : Keeps (see input) s) where
  of_all : {tally : Tally} → Counts (map said (all_lines (see input))) tally → Counts (said_lines input) tally
  unfolding said_lines
  of_all {tally} c = subst (λ (ls : List (List ℕ)). Counts (map said ls) tally) (all_seen input) c

  pub last-begun : s.begun ≡ true → {tally : Tally} → Counts (map said (see input).lines ++ (said (see input).line ∷ [])) tally → Counts (said_lines input) tally
  unfolding all_lines
  last-begun e c = of_all (rw (sym q.begun ∙ e) (one_more_lem (see input).lines (see input).line c))

  pub last_none : s.begun ≡ false → Counts (said_lines input) s.tally
  unfolding all_lines
  last_none e = of_all (rw (sym q.begun ∙ e) q.tally)
