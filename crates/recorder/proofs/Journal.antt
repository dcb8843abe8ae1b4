-- All that was put out is the journal of the run.
use Prim.Native.Nat.{ℕ, ◌-◌, ◌*◌, ◌≤◌}
use mathlib.Core.Path.{◌≡◌, ap, ◌∙◌}
use mathlib.Core.List.{List, ◌++◌}
use native.Mathlib.Omega.{arith}
use lib.ListN.{length, take}
use lib.Seq.{take_all}
use Rattle.names.specs.Sizes.{base}
use Rattle.rules.specs.Tables.{fresh}
use Rattle.call_words.specs.declared.Fields.{Fields}
use Rattle.journal.specs.Words.{word_bytes, greatest}
use Rattle.journal.specs.Format.{record_size, call_records, answer_records, journal_of}
use Rattle.journal.proofs.Sections.{length-call_records}
use Rattle.recording.specs.Records.{answers_to, piece_calls}
use Rattle.recording.proofs.Answering.{length-answers_to}
use Rattle.recorder.specs.First.{input_calls, count_of}
use Rattle.recorder.specs.Second.{run_journal, Answered}
use Rattle.recorder.specs.declared.second.Answering.{Answering}
use Rattle.recorder.proofs.Fitting.{input_fits}
use Rattle.recorder.proofs.Pieces.{piece_back}

count_exact : (input : List ℕ) → length (input_calls input) ≤ greatest → count_of input ≡ length (input_calls input)
unfolding count_of
count_exact input h = omega arith

pub filed : (input calls put : List ℕ) (a : Answering) → Answered input calls put a → a.left ≡ 0 → calls ≡ take (length calls) (call_records (input_calls input)) → length (input_calls input) ≤ greatest →
    {first : List ℕ} → first ≡ word_bytes (count_of input) →
    first ++ (calls ++ (word_bytes (count_of input) ++ put)) ≡ run_journal input
unfolding run_journal journal_of
filed input calls put a h l t s {first} f =
    let fs : List Fields = input_calls input in
    let n : count_of input ≡ length fs = count_exact input s in
    let c : a.count ≡ count_of input = h.count in
    let r : length calls ≡ record_size * (a.count - a.left) = h.read in
    let e : calls ≡ call_records fs = t ∙ take_all (length calls) (call_records fs) (omega (arith, length-call_records fs)) in
    let k : first ≡ word_bytes (length fs) = f ∙ ap word_bytes n in
    let again : piece_calls calls ≡ fs = ap (λ (bs : List ℕ). piece_calls bs) e ∙ piece_back (input_fits input) in
    let p : put ≡ answer_records (answers_to fs (fresh base)) = h.answers ∙ ap (λ (gs : List Fields). answer_records (answers_to gs (fresh base))) again in
    rw (k, n, e, p, length-answers_to fs (fresh base))
