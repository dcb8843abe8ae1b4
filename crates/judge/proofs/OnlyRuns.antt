-- Only the journals of runs are accepted.
use Prim.Native.Nat.{ℕ, suc, ◌<◌, ◌≤◌}
use mathlib.Core.Path.{◌≡◌, refl, sym, ap, ap₂, ◌∙◌}
use mathlib.Core.Logic.{⊎_elim}
use mathlib.Core.Bool.{Bool, true, false, cond, ◌&&◌, false≢true}
use mathlib.Core.List.{List, [], ◌∷◌}
use native.Mathlib.Omega.{arith}
use lib.Dec.{T, eqb, ltb}
use lib.ListN.{length, drop}
use borrow.Author.Tests.{eqb-true, ltb-true, ltb-false}
use Rattle.names.specs.Sizes.{base}
use Rattle.names.specs.declared.Answer.{Answer}
use Rattle.rules.specs.Tables.{Tables, fresh}
use Rattle.rules.specs.Step.{step}
use Rattle.rules.proofs.Tests.{and_left, and_right, true_is, is_true, same?}
use Rattle.call_words.specs.Calls.{is_call, call_in, fields_of}
use Rattle.call_words.specs.declared.Fields.{Fields}
use Rattle.call_words.proofs.Inverse.{fields_of-call_in}
use Rattle.journal.specs.Format.{journal_of, calls_of, answers_of, call_count, answers_place, answer_count, Every}
use Rattle.journal.specs.Words.{word_size}
use Rattle.journal.proofs.Sections.{length-calls_in, length-answers_in}
use Rattle.journal.proofs.Back.{journal_back}
use Rattle.judge.specs.Verdicts.{same_answer, right, wrong_from, first_wrong, verdict_on, answers_from, fields_of_all, calls_said}
use Rattle.judge.specs.Pieces.{spoken}
use Rattle.judge.specs.declared.Verdict.{Verdict}
use Rattle.judge.specs.declared.Verdict.TheVariants.{Accepted, Short, Unequal, LeftOver, Wrong}
use Rattle.judge.proofs.Speaking.{bytes, short, unequal, left_over_lem, whole-wrong}
use Rattle.judge.proofs.Said.{verdict-said}

-- ---- accepted: every point holds

abbrev accepts : Verdict → Bool
accepts Accepted = true
accepts Short = false
accepts Unequal = false
accepts LeftOver = false
accepts (Wrong k) = false

-- what is accepted is nothing else
not_both : (v w : Verdict) → accepts w ≡ false → v ≡ w → v ≡ Accepted → ⊥
not_both v w h e a = false≢true (sym (ap accepts e ∙ h) ∙ ap accepts a)

record Points (size n m w : ℕ) : Type 0 where
  size_is : size ≡ bytes n m
  counts : n ≡ m
  none : w ≡ 0

all_points : (size n m w : ℕ) → spoken size n m w ≡ Accepted → Points size n m w
all_points size n m w acc = go (ltb size (bytes n m)) (ltb (bytes n m) size) refl refl
  where
    go : (a b : Bool) → ltb size (bytes n m) ≡ a → ltb (bytes n m) size ≡ b → Points size n m w
    go true b e g = absurd (not_both (spoken size n m w) Short refl (short size n m w (ltb-true size (bytes n m) e)) acc)
    go false b e g =
        let h : bytes n m ≤ size = ltb-false size (bytes n m) e in
        ⊎_elim
        (λ i. equal b g i h)
        (λ d. absurd (not_both (spoken size n m w) Unequal refl (unequal size n m w h d) acc))
        (same? n m)
      where
        equal : (b : Bool) → ltb (bytes n m) size ≡ b → n ≡ m → bytes n m ≤ size → Points size n m w
        equal true g i h = absurd (not_both (spoken size n m w) LeftOver refl (left_over_lem size n m w (ltb-true (bytes n m) size g) i) acc)
        equal false g i h =
            let k : size ≤ bytes n m = ltb-false (bytes n m) size g in
            ⊎_elim
            (λ z. record { size_is = omega arith; counts = i; none = z })
            (λ d. absurd (not_both (spoken size n m w) (Wrong w) refl (whole-wrong size n m w (omega arith) i d) acc))
            (same? w 0)

-- ---- none wrong: the fields are those of calls, and the answers are theirs

same_is : (a b : Answer) → T (same_answer a b) → a ≡ b
unfolding same_answer
same_is a b h =
    let c : Bool = eqb a.code b.code in
    let v : Bool = eqb a.value b.value in
    let n : Bool = eqb a.number b.number in
    let l : Bool = eqb a.looked b.looked in
    let r : T (v && (n && l)) = and_right c (v && (n && l)) h in
    let s : T (n && l) = and_right v (n && l) r in
    λ i.
    record {
      code = eqb-true a.code b.code (is_true c (and_left c (v && (n && l)) h)) i;
      value = eqb-true a.value b.value (is_true v (and_left v (n && l) r)) i;
      number = eqb-true a.number b.number (is_true n (and_left n l s)) i;
      looked = eqb-true a.looked b.looked (is_true l (and_right n l s)) i;
    }

-- a right call's fields are the call's, and its answer is the one that document 01 gives
right-fields : (f : Fields) (a : Answer) (G : Tables) → T (right f a G) → fields_of (call_in f) ≡ f
unfolding right
right-fields f a G h = fields_of-call_in f (and_left (is_call f) (same_answer a (step base (call_in f) G).answer) h)

right_answer : (f : Fields) (a : Answer) (G : Tables) → T (right f a G) → (step base (call_in f) G).answer ≡ a
unfolding right
right_answer f a G h = sym (same_is a (step base (call_in f) G).answer (and_right (is_call f) (same_answer a (step base (call_in f) G).answer) h))

record RunFrom (G : Tables) (fs : List Fields) (rs : List Answer) : Type 0 where
  calls : fields_of_all (calls_said fs) ≡ fs
  answers : answers_from G (calls_said fs) ≡ rs

more-run : (f : Fields) (a : Answer) (G : Tables) (fs : List Fields) (rs : List Answer) →
    T (right f a G) → RunFrom (step base (call_in f) G).after fs rs → RunFrom G (f ∷ fs) (a ∷ rs)
unfolding fields_of_all calls_said answers_from
more-run f a G fs rs h r =
    record {
      calls = ap₂ (λ (x : Fields) (xs : List Fields). x ∷ xs) (right-fields f a G h) r.calls;
      answers = ap₂ (λ (x : Answer) (xs : List Answer). x ∷ xs) (right_answer f a G h) r.answers;
    }

all_right : (k : ℕ) (G : Tables) (fs : List Fields) (rs : List Answer) → length fs ≡ length rs → wrong_from k G fs rs ≡ 0 → RunFrom G fs rs
unfolding wrong_from fields_of_all calls_said answers_from
all_right k G [] [] l e = record { calls = refl; answers = refl }
all_right k G [] (a ∷ rs) l e = absurd (omega arith)
all_right k G (f ∷ fs) [] l e = absurd (omega arith)
all_right k G (f ∷ fs) (a ∷ rs) l e =
    go (all_right (suc k) (step base (call_in f) G).after fs rs (omega arith)) (right f a G) refl e
  where
    on : ℕ
    on = wrong_from (suc k) (step base (call_in f) G).after fs rs

    go : (on ≡ 0 → RunFrom (step base (call_in f) G).after fs rs) → (b : Bool) → right f a G ≡ b → cond b on (suc k) ≡ 0 → RunFrom G (f ∷ fs) (a ∷ rs)
    go rest true r z = more-run f a G fs rs (true_is r) (rest z)
    go rest false r z = absurd (omega arith)

-- ---- the file

calls-long : (file : List ℕ) → length (calls_of file) ≡ call_count file
unfolding calls_of
calls-long file = length-calls_in (call_count file) (drop word_size file)

answers-long : (file : List ℕ) → length (answers_of file) ≡ answer_count file
unfolding answers_of
answers-long file = length-answers_in (answer_count file) (drop (answers_place file) file)

-- Request E1, "It accepts exactly when ..": what is accepted is what a run gives, that of the calls that are read from it
pub only_runs : (file : List ℕ) → Every (λ (b : ℕ). b < 256) file → verdict_on file ≡ Accepted →
    file ≡ journal_of (fields_of_all (calls_said (calls_of file))) (answers_from (fresh base) (calls_said (calls_of file)))
unfolding first_wrong
only_runs file all acc =
    let p : Points (length file) (call_count file) (answer_count file) (first_wrong file) =
    all_points (length file) (call_count file) (answer_count file) (first_wrong file) (sym (verdict-said file) ∙ acc) in
    let r : RunFrom (fresh base) (calls_of file) (answers_of file) =
    all_right 0 (fresh base) (calls_of file) (answers_of file) (calls-long file ∙ p.counts ∙ sym (answers-long file)) p.none in
    sym (journal_back file all p.size_is) ∙ ap₂ journal_of (sym r.calls) (sym r.answers)
