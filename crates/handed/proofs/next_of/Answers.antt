-- What is asked for stands in the file.
use Prim.Native.Nat.{◌+◌, ◌-◌, ◌*◌}
use mathlib.Core.Path.{ap, ◌∙◌}
use native.Mathlib.Omega.{arith}
use lib.ListN.{length}
use Rattle.journal.specs.Words.{word_size}
use Rattle.journal.specs.Format.{record_size, call_count}
use Rattle.judging.specs.Counted.{part}
use Rattle.judging.specs.Handed.{bytes_next, calls_at, answers_at}
use Rattle.judging.proofs.Parts.{room, length_part}
use Rattle.handed.proofs.next_of.Goals as goal

pub overflow_sub-passed : goal.overflow_sub-passed
unfolding call_count
overflow_sub-passed c = omega (arith, (room c.args.file.now c.args.judging c.requires.0 c.requires.1), (c.word-first.ensures ∙ (room c.args.file.now c.args.judging c.requires.0 c.requires.1).0), c.asks.ensures)

pub overflow_mul-calls : goal.overflow_mul-calls
unfolding call_count
overflow_mul-calls c = omega (arith, (room c.args.file.now c.args.judging c.requires.0 c.requires.1), (c.word-first.ensures ∙ (room c.args.file.now c.args.judging c.requires.0 c.requires.1).0), c.asks.ensures)

pub overflow_add-calls : goal.overflow_add-calls
unfolding call_count
overflow_add-calls c = omega (arith, (room c.args.file.now c.args.judging c.requires.0 c.requires.1), (c.word-first.ensures ∙ (room c.args.file.now c.args.judging c.requires.0 c.requires.1).0), c.asks.ensures)

pub overflow_mul-answers-2 : goal.overflow_mul-answers-2
unfolding call_count
overflow_mul-answers-2 c = omega (arith, (room c.args.file.now c.args.judging c.requires.0 c.requires.1), (c.word-first.ensures ∙ (room c.args.file.now c.args.judging c.requires.0 c.requires.1).0), c.asks.ensures)

pub overflow_add-answers : goal.overflow_add-answers
unfolding call_count
overflow_add-answers c = omega (arith, (room c.args.file.now c.args.judging c.requires.0 c.requires.1), (c.word-first.ensures ∙ (room c.args.file.now c.args.judging c.requires.0 c.requires.1).0), c.asks.ensures)

pub overflow_mul-answers-3 : goal.overflow_mul-answers-3
unfolding call_count
overflow_mul-answers-3 c = omega (arith, (room c.args.file.now c.args.judging c.requires.0 c.requires.1), (c.word-first.ensures ∙ (room c.args.file.now c.args.judging c.requires.0 c.requires.1).0), c.asks.ensures)

pub overflow_add-answers-2 : goal.overflow_add-answers-2
unfolding call_count
overflow_add-answers-2 c = omega (arith, (room c.args.file.now c.args.judging c.requires.0 c.requires.1), (c.word-first.ensures ∙ (room c.args.file.now c.args.judging c.requires.0 c.requires.1).0), c.asks.ensures)

pub records-requires : goal.records-requires
unfolding call_count
records-requires c =
    let t = (room c.args.file.now c.args.judging c.requires.0 c.requires.1) in
    let j = c.args.judging in (
      ap length (c.part_of.ensures ∙ (λ i. part c.args.file.now (word_size + record_size * ((c.word-first.ensures ∙ (room c.args.file.now c.args.judging c.requires.0 c.requires.1).0) i - c.asks.ensures i)) (c.bytes-bytes.ensures i))) ∙ length_part c.args.file.now (calls_at j) (bytes_next j) (omega (arith, t)),
      ap length (c.part_of-2.ensures ∙ (λ i. part c.args.file.now (2 * word_size + record_size * (c.word-first.ensures ∙ (room c.args.file.now c.args.judging c.requires.0 c.requires.1).0) i + record_size * ((c.word-first.ensures ∙ (room c.args.file.now c.args.judging c.requires.0 c.requires.1).0) i - c.asks.ensures i)) (c.bytes-bytes.ensures i))) ∙ length_part c.args.file.now (answers_at j) (bytes_next j) (omega (arith, t)),
    )

pub returns : goal.returns
unfolding call_count
returns c =
    (omega (arith, c.records.ensures.result_value, c.requires.0), c.records.ensures.by_index c.args.file.now c.requires.1 (c.part_of.ensures ∙ (λ i. part c.args.file.now (word_size + record_size * ((c.word-first.ensures ∙ (room c.args.file.now c.args.judging c.requires.0 c.requires.1).0) i - c.asks.ensures i)) (c.bytes-bytes.ensures i))) (c.part_of-2.ensures ∙ (λ i. part c.args.file.now (2 * word_size + record_size * (c.word-first.ensures ∙ (room c.args.file.now c.args.judging c.requires.0 c.requires.1).0) i + record_size * ((c.word-first.ensures ∙ (room c.args.file.now c.args.judging c.requires.0 c.requires.1).0) i - c.asks.ensures i)) (c.bytes-bytes.ensures i))))
