use Prim.Native.Nat.{ℕ, ◌<◌}
use mathlib.Core.Path.{refl, ap, ◌∙◌}
use native.Mathlib.Omega.{arith}
use lib.ListN.{length}
use Rattle.journal.specs.Words.{word_size}
use Rattle.judging.specs.Counted.{wanted, part}
use Rattle.judging.proofs.Parts.{length_part}
use Rattle.handed.proofs.counts_of.Goals as goal

pub loop-word-init : goal.loop-word-init
loop-word-init c = c.new-counts.ensures c.args.file.now refl

pub count-counts-requires : goal.count-counts-requires
count-counts-requires c =
    let l = c.loop-word in
    let file = c.args.file.now in
    let some : 0 < wanted l.counts = omega (arith, c.loop-word-test.true, c.asks.ensures) in
    (some, ap length (c.part_of-word.ensures ∙ ap (λ (k : ℕ). part c.args.file.now k word_size) c.at.ensures) ∙ length_part file l.counts.place word_size (l.invariant.stands some))

pub loop-word-preserved : goal.loop-word-preserved
loop-word-preserved c =
    let l = c.loop-word in
    let file = c.args.file.now in
    c.count-counts.ensures.by_index file l.invariant (c.part_of-word.ensures ∙ ap (λ (k : ℕ). part c.args.file.now k word_size) c.at.ensures)

pub returns : goal.returns
returns c = (omega (arith, c.loop-word-test.false, c.asks.ensures), c.loop-word.invariant)
