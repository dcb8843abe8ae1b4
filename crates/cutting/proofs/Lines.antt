-- What the lines that are ended have come to, with one more.
use Prim.Native.Nat.{ℕ, suc}
use mathlib.Core.Path.{◌≡◌, refl, sym, ◌∙◌}
use mathlib.Core.List.{List, [], ◌∷◌, ◌++◌}
use native.Mathlib.Omega.{arith}
use lib.ListN.{length}
use Rattle.piece_lines.specs.Says.{Piece}
use Rattle.line_words.specs.Said.{Name}
use Rattle.piece_lines.specs.Read.{said}
use Rattle.line_words.specs.Said.{Said, comment, says, bad}
use Rattle.piece_lines.specs.Held.{KeepsPiece, Tells}
use Rattle.piece_lines.specs.declared.Told.TheVariants.{Comment, Piece as APiece, Bad}
use Rattle.piece_lines.specs.declared.Ended.{Ended}
use Rattle.piece_lines.proofs.Only.{said-says}
use Rattle.std.specs.Prelude.{Option, Some}
use Rattle.std.specs.Option.{unwrap_or}
use Rattle.told_lines.specs.Lines.{said_in, capped}
use Rattle.told_lines.proofs.Counting.{tally-comment, tally-bad, tally-says}
use Rattle.cutting.specs.Life.{Holds, Counts}
use Rattle.cutting.specs.declared.pieces.Pieces.{Pieces}
use Rattle.cutting.specs.declared.tally.Tally.{Tally}

-- ---- the three are told apart

comment-piece : {A : Type 0} → Comment ≡ APiece → A
comment-piece e = let z : ◌≡◌ {A = ℕ} 0 1 = cc in absurd (omega arith)

comment-bad : {A : Type 0} → Comment ≡ Bad → A
comment-bad e = let z : ◌≡◌ {A = ℕ} 0 1 = cc in absurd (omega arith)

piece-bad : {A : Type 0} → APiece ≡ Bad → A
piece-bad e = let z : ◌≡◌ {A = ℕ} 0 1 = cc in absurd (omega arith)

module _ (ss : List (Said Piece)) (line : List ℕ) (t : Tally) (e : Ended) (k : Counts ss t) (q : Tells (said line) e) {n : ℕ} (next : n ≡ capped (suc (length ss))) where
  pub count-comment : e.told ≡ Comment → Counts (ss ++ (said line ∷ [])) (record { lines = n; bad = t.bad; pieces = t.pieces })
  count-comment f = go (said line) q
    where
      go : (s : Said Piece) → Tells s e → Counts (ss ++ (s ∷ [])) (record { lines = n; bad = t.bad; pieces = t.pieces })
      go comment r = tally-comment k next
      go (says p) r = comment-piece (sym f ∙ r.0)
      go bad r = comment-bad (sym f ∙ r)

  pub count-bad : e.told ≡ Bad → {b : Option ℕ} → b ≡ Some (unwrap_or t.bad n) → Counts (ss ++ (said line ∷ [])) (record { lines = n; bad = b; pieces = t.pieces })
  count-bad f {b} g = go (said line) q
    where
      go : (s : Said Piece) → Tells s e → Counts (ss ++ (s ∷ [])) (record { lines = n; bad = b; pieces = t.pieces })
      go comment r = comment-bad (sym r ∙ f)
      go (says p) r = piece-bad (sym r.0 ∙ f)
      go bad r = tally-bad k next g

  pub count-piece : e.told ≡ APiece → {r : Pieces} → ((ps : List Piece) (p : Piece) → Holds ps t.pieces → KeepsPiece p e.noted → Name p.name → Holds (ps ++ (p ∷ [])) r) → Counts (ss ++ (said line ∷ [])) (record { lines = n; bad = t.bad; pieces = r })
  count-piece f {r} add = go (said line) refl q
    where
      go : (s : Said Piece) → said line ≡ s → Tells s e → Counts (ss ++ (s ∷ [])) (record { lines = n; bad = t.bad; pieces = r })
      go comment h g = comment-piece (sym g ∙ f)
      go (says p) h g = tally-says k next p (add (said_in ss) p k.kept g.1 (said-says line p h).named)
      go bad h g = piece-bad (sym f ∙ g)
