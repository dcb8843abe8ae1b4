-- What is kept after a call and its answer, case by case.
use Prim.Native.Nat.{ℕ, ◌+◌, ◌<◌, ◌≤◌}
use mathlib.Core.Path.{◌≡◌, sym, ap, ◌∙◌}
use mathlib.Core.Logic.{◌≢◌}
use mathlib.Core.Bool.{Bool, true, false, cond, ◌&&◌}
use mathlib.Core.List.{List}
use borrow.Author.Tests.{lt-ltb, le-ltb, eq-eqb, ne_eqb}
use Rattle.names.specs.Sizes.{base}
use Rattle.names.specs.declared.Answer.{Answer}
use Rattle.rules.specs.Tables.{Tables, tables}
use Rattle.rules.specs.Answers.{Outcome, outcome}
use Rattle.rules.specs.Step.{step}
use Rattle.call_words.specs.Calls.{is_call, call_in}
use Rattle.call_words.specs.declared.Fields.{Fields}
use Rattle.journal.specs.Words.{greatest}
use Rattle.judge.specs.Verdicts.{same_answer, right}
use Rattle.judge.specs.Pieces.{Progress, progress, one_more, only_counted, replayed, no_call, seen_one}
use Rattle.judge.specs.declared.Judge.{Judge}

pub one_more_lem : (k : ℕ) → k < greatest → one_more k ≡ k + 1
unfolding one_more
one_more_lem k h = rw (lt-ltb k greatest h)

module _ (f : Fields) (a : Answer) (p : Progress) where
  pub counted : p.wrong ≢ 0 → seen_one f a p ≡ only_counted p
  unfolding seen_one
  counted d = rw (ne_eqb p.wrong 0 d)

  pub no_call_lem : p.wrong ≡ 0 → is_call f ≡ false → seen_one f a p ≡ no_call p
  unfolding seen_one
  no_call_lem e h = rw (eq-eqb p.wrong 0 e, h)

  pub made : p.wrong ≡ 0 → is_call f ≡ true → seen_one f a p ≡ replayed f a p
  unfolding seen_one
  made e h = rw (eq-eqb p.wrong 0 e, h)

-- ---- in the words of the code: s is what one more was found to be

module _ (f : Fields) (a : Answer) (j : Judge) (t l v : List ℕ) (s : ℕ) (es : s ≡ one_more j.seen) where
  pub skips : j.wrong ≢ 0 → progress (record { seen = s; wrong = j.wrong }) t l v ≡ seen_one f a (progress j t l v)
  skips d = ap (λ (n : ℕ). progress (record { seen = n; wrong = j.wrong }) t l v) es ∙ sym (counted f a (progress j t l v) d)

  pub refuses : j.wrong ≡ 0 → is_call f ≡ false → progress (record { seen = s; wrong = s }) t l v ≡ seen_one f a (progress j t l v)
  refuses e h = ap (λ (n : ℕ). progress (record { seen = n; wrong = n }) t l v) es ∙ sym (no_call_lem f a (progress j t l v) e h)

  pub replays :
      j.wrong ≡ 0 → is_call f ≡ true →
      (g : Answer) (same : Bool) (w : ℕ) (t' l' v' : List ℕ) →
      outcome g t' l' v' ≡ step base (call_in f) (tables t l v) →
      same ≡ same_answer a g →
      w ≡ cond same 0 s →
      progress (record { seen = s; wrong = w }) t' l' v' ≡ seen_one f a (progress j t l v)
  unfolding right
  replays e h g same w t' l' v' o es' ew =
      let G : Tables = tables t l v in
      let S : Outcome = step base (call_in f) G in
      let q : same ≡ right f a G = es' ∙ ap (λ (x : Outcome). same_answer a x.answer) o ∙ ap (λ (b : Bool). b && same_answer a S.answer) (sym h) in
      (λ i. record { seen = es i; wrong = (ew ∙ (λ k. cond (q k) 0 (es k))) i; left = (o i).after }) ∙ sym (made f a (progress j t l v) e h)
