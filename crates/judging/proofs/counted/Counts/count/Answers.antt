-- The first count, and then the second.
use Prim.Native.Nat.{ℕ, ◌≤◌, ◌<◌}
use mathlib.Core.Path.{◌≡◌, ap, ◌∙◌}
use mathlib.Core.List.{List}
use native.Mathlib.Omega.{arith}
use Rattle.journal.specs.Words.{word_size, word_at}
use Rattle.journal.specs.Format.{call_count, answer_count}
use Rattle.judging.specs.Counted.{part}
use Rattle.judging.proofs.Counting.{word-part}
use Rattle.judging.proofs.counted.Counts.count.Goals as goal

-- the word that was read is the one at the place that was asked for
asked : (file : List ℕ) (w at : ℕ) (bs : List ℕ) → w ≡ word_at 0 bs → bs ≡ part file at word_size → w ≡ word_at at file
asked file w at bs e p = e ∙ ap (word_at 0) p ∙ word-part file at

pub returns-then-wanted-eq2 : goal.returns-then-wanted-eq2
unfolding call_count
returns-then-wanted-eq2 c =
    let a = c.args in
    let two : a.self.wanted ≡ 2 = c.if-wanted-eq2.true in
    let less = c.first_is.ensures.result_bound in
    record {
      result_bound = omega arith;
      by_index = λ file h p.
          c.first_is.ensures.by_index file h
          (asked file c.word-count.result a.self.place a.word.now c.word-count.ensures p ∙ ap (λ (k : ℕ). word_at k file) (h.start two));
    }

pub returns : goal.returns
unfolding answer_count
returns c =
    let a = c.args in
    let some : 0 < a.self.wanted = c.requires.0 in
    let none = c.second_is.ensures.result_value in
    record {
      result_bound = omega arith;
      by_index = λ file h p.
          let most : a.self.wanted ≤ 2 = h.most in
          let one : a.self.wanted ≡ 1 = omega (arith, c.if-wanted-eq2.false) in
          c.second_is.ensures.by_index file h one
          (asked file c.word-count.result a.self.place a.word.now c.word-count.ensures p ∙ ap (λ (k : ℕ). word_at k file) (h.next one));
    }
