-- What the lines that are ended have come to, with one more.
use Prim.Native.Nat.{ℕ, suc}
use mathlib.Core.Path.{◌≡◌, refl, sym, ◌∙◌}
use mathlib.Core.List.{List, [], ◌∷◌, ◌++◌}
use native.Mathlib.Omega.{arith}
use lib.ListN.{length}
use Rattle.line_words.specs.Said.{Name}
use Rattle.line_words.specs.Said.{Said, comment, says, bad}
use Rattle.op_lines.specs.Says.{Operation}
use Rattle.op_lines.specs.Read.{said}
use Rattle.op_lines.specs.Held.{KeepsOperation, Tells}
use Rattle.op_lines.specs.declared.Told.TheVariants.{Comment, Operation as AnOperation, Bad}
use Rattle.op_lines.specs.declared.Ended.{Ended}
use Rattle.op_lines.proofs.Only.{said-says}
use Rattle.std.specs.Prelude.{Option, Some}
use Rattle.std.specs.Option.{unwrap_or}
use Rattle.told_lines.specs.Lines.{said_in, capped}
use Rattle.told_lines.proofs.Counting.{tally-comment, tally-bad, tally-says}
use Rattle.fining.specs.Life.{Holds, Counts}
use Rattle.fining.specs.declared.operations.Operations.{Operations}
use Rattle.fining.specs.declared.tally.Tally.{Tally}

-- ---- the three are told apart

comment-operation : {A : Type 0} → Comment ≡ AnOperation → A
comment-operation e = let z : ◌≡◌ {A = ℕ} 0 1 = cc in absurd (omega arith)

comment-bad : {A : Type 0} → Comment ≡ Bad → A
comment-bad e = let z : ◌≡◌ {A = ℕ} 0 1 = cc in absurd (omega arith)

operation-bad : {A : Type 0} → AnOperation ≡ Bad → A
operation-bad e = let z : ◌≡◌ {A = ℕ} 0 1 = cc in absurd (omega arith)

module _ (ss : List (Said Operation)) (line : List ℕ) (t : Tally) (e : Ended) (k : Counts ss t) (q : Tells (said line) e) {n : ℕ} (next : n ≡ capped (suc (length ss))) where
  pub count-comment : e.told ≡ Comment → Counts (ss ++ (said line ∷ [])) (record { lines = n; bad = t.bad; operations = t.operations })
  count-comment f = go (said line) q
    where
      go : (s : Said Operation) → Tells s e → Counts (ss ++ (s ∷ [])) (record { lines = n; bad = t.bad; operations = t.operations })
      go comment r = tally-comment k next
      go (says o) r = comment-operation (sym f ∙ r.0)
      go bad r = comment-bad (sym f ∙ r)

  pub count-bad : e.told ≡ Bad → {b : Option ℕ} → b ≡ Some (unwrap_or t.bad n) → Counts (ss ++ (said line ∷ [])) (record { lines = n; bad = b; operations = t.operations })
  count-bad f {b} g = go (said line) q
    where
      go : (s : Said Operation) → Tells s e → Counts (ss ++ (s ∷ [])) (record { lines = n; bad = b; operations = t.operations })
      go comment r = comment-bad (sym r ∙ f)
      go (says o) r = operation-bad (sym r.0 ∙ f)
      go bad r = tally-bad k next g

  pub count-operation : e.told ≡ AnOperation → {r : Operations} → ((os : List Operation) (o : Operation) → Holds os t.operations → KeepsOperation o e.noted → Name o.name → Holds (os ++ (o ∷ [])) r) → Counts (ss ++ (said line ∷ [])) (record { lines = n; bad = t.bad; operations = r })
  count-operation f {r} add = go (said line) refl q
    where
      go : (s : Said Operation) → said line ≡ s → Tells s e → Counts (ss ++ (s ∷ [])) (record { lines = n; bad = t.bad; operations = r })
      go comment h g = comment-operation (sym g ∙ f)
      go (says o) h g = tally-says k next o (add (said_in ss) o k.kept g.1 (said-says line o h).named)
      go bad h g = operation-bad (sym f ∙ g)
