-- What a trial is: a script of calls, each with the four numbers that it must be answered.
use Rattle.std.specs.Prelude.{ℕ, Bool, true, ◌&&◌, List, [], ◌∷◌, T, eqb}
use Rattle.names.specs.declared.Answer.{Answer}
use Rattle.names.specs.declared.Sizes.{Sizes}
use Rattle.rules.specs.Tables.{Tables}
use Rattle.rules.specs.Answers.{Call}
use Rattle.rules.specs.Step.{step}

-- a line of a script: a call, and its answer's code, value, number and looked
pub record Line : Type 0 where
  pub call : Call
  pub code : ℕ
  pub value : ℕ
  pub number : ℕ
  pub looked : ℕ

infix 40 ◌⇒◌
abbrev pub ◌⇒◌ : Call → ℕ × ℕ × ℕ × ℕ → Line
c ⇒ a = record { call = c; code = a.0; value = a.1; number = a.2; looked = a.3 }

unfoldable pub answers : Line → Answer → Bool
answers l a =
    eqb l.code a.code && (eqb l.value a.value && (eqb l.number a.number && eqb l.looked a.looked))

-- each line is answered as it says, by a keeper of the sizes S, and the tables at the end pass a test
unfoldable pub passes : Sizes → List Line → (Tables → Bool) → Tables → Bool
passes S [] end G = end G
passes S (l ∷ ls) end G =
    let o = step S l.call G in
    let rest = passes S ls end o.after in
    answers l o.answer && rest

-- any tables will do at the end
abbrev pub any_end : Tables → Bool
any_end G = true

-- a trial: the tables that it starts from, its script, and a test of the tables at its end
pub record Trial : Type 0 where
  pub from : Tables
  pub script : List Line
  pub end : Tables → Bool

-- every trial of a list passes
pub data AllPass (S : Sizes) : List Trial → Type 0 where
  none : AllPass S []
  also : {x : Trial} {xs : List Trial} → T (passes S x.script x.end x.from) → AllPass S xs → AllPass S (x ∷ xs)
