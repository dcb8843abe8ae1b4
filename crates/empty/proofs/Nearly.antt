-- Each case has a program, so that the theorem speaks of something: one that is right in all that its case does not name. And the
-- promise can be met.
use Prim.Native.Nat.{ℕ}
use mathlib.Core.Path.{◌≡◌, refl}
use mathlib.Core.Bool.{Bool, true, false, not, cond}
use lib.Dec.{T}
use Rattle.names.specs.declared.Answer.{Answer}
use Rattle.names.specs.Sizes.{base}
use Rattle.rules.specs.Tables.{Tables, tables}
use Rattle.rules.specs.Versions.{newest}
use Rattle.rules.specs.Answers.{Outcome, granted, refuses, Deadlock}
use Rattle.empty.specs.Calls.{is_begin}
use Rattle.empty.specs.Programs.{Input, Meets}
use Rattle.empty.specs.Empty.{is_two_or_ten, Empty, answers_two_or_ten, grants_all, always_reads_zero, changes_nothing, stores_nowhere, makes_up_looked}
use Rattle.empty.proofs.Runs.{right}

pub rules_meet : Meets right
unfolding right
rules_meet i = refl

pub refuses_all : Empty (λ i. refuses Deadlock i.before)
unfolding is_two_or_ten
refuses_all = answers_two_or_ten λ i. tt

-- the right outcome with another answer; with other tables
abbrev answering : Outcome → Answer → Outcome
answering o a = record { answer = a; after = o.after }

abbrev leaving : Outcome → Tables → Outcome
leaving o G = record { answer = o.answer; after = G }

abbrev with_code : Answer → ℕ → Answer
with_code a k = record { code = k; value = a.value; number = a.number; looked = a.looked }

abbrev with_value : Answer → ℕ → Answer
with_value a v = record { code = a.code; value = v; number = a.number; looked = a.looked }

abbrev with_looked : Answer → ℕ → Answer
with_looked a k = record { code = a.code; value = a.value; number = a.number; looked = k }

pub grants : Empty (λ i. answering (right i) (with_code (right i).answer granted))
grants = grants_all λ i g. refl

pub reads_zero : Empty (λ i. answering (right i) (with_value (right i).answer 0))
reads_zero = always_reads_zero λ i r. refl

pub answers-only : Empty (λ i. leaving (right i) i.before)
answers-only = changes_nothing λ i. refl

-- a begin does what f does, which may copy all items; the version rows are else as they were
pub copies_at_begin :
    (f : Input → Tables)
    → Empty (λ i.
    leaving (right i)
    (cond (is_begin i.call) (f i)
    (tables (right i).after.txns (right i).after.locks i.before.versions)))
copies_at_begin f = stores_nowhere λ i l x. go i x (is_begin i.call) l
  where
    go :
        (i : Input) (x : ℕ) (z : Bool) → T (not z)
        → newest base
        (cond z (f i) (tables (right i).after.txns (right i).after.locks i.before.versions)).versions
        x
        ≡ newest base i.before.versions x
    go i x true l = elim l [ ]
    go i x false l = refl

pub always_looks_at_one : Empty (λ i. answering (right i) (with_looked (right i).answer 1))
always_looks_at_one = makes_up_looked (λ c G v. 1) λ i. refl
