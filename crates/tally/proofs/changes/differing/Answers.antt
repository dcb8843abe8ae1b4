use Rattle.std.proofs.Common.{◌≡◌, ◌+◌, sym, ◌∙◌, arith}
use Rattle.tally.proofs.Passes.{other-passed, same-passed, all_passed}
use Rattle.tally.proofs.changes.differing.Goals as goal
use Rattle.tally.proofs.changes.differing.Goals.{then-x-word, else-x-word}

pub loop-k-preserved : goal.loop-k-preserved
loop-k-preserved c =
    elim c.if-x-word.branch [
      | then-x-word w ↦
          let more : _ ≡ c.loop-k.n + 1 = w.n-is ∙ omega arith in
          rw more (other-passed c.args.words.now c.args.others.now c.loop-k.n c.loop-k.k c.loop-k-test.true (λ e. w.if-x-word.true (e ∙ sym c.word.ensures)) c.loop-k.invariant)
      | else-x-word w ↦ rw w.n-is (same-passed c.args.words.now c.args.others.now c.loop-k.n c.loop-k.k c.loop-k-test.true (w.if-x-word.false ∙ c.word.ensures) c.loop-k.invariant)
    ]

pub returns-clause-value : goal.returns-clause-value
returns-clause-value c = all_passed _ _ _ _ (omega arith) c.loop-k.invariant
