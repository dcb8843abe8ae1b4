-- A journal that is written is read back as it was: its counts, its places, its calls and its answers.
use Prim.Native.Nat.{ℕ, ◌+◌, ◌*◌, ◌≤◌}
use mathlib.Core.Path.{◌≡◌, sym, ap, ap₂, ◌∙◌}
use mathlib.Core.List.{List, [], ◌++◌, append_assoc, append-nil}
use native.Mathlib.Omega.{arith}
use lib.ListN.{length, drop, length-append}
use lib.Seq.{drop_at, drop-drop}
use Rattle.names.specs.declared.Answer.{Answer}
use Rattle.call_words.specs.declared.Fields.{Fields}
use Rattle.journal.specs.Words.{word_size, word_bytes, word_at, greatest}
use Rattle.journal.specs.Format.{record_size, call_records, answer_records, journal_of, calls_in, answers_in, call_count, second_place, answers_place, answer_count, calls_of, answers_of, CallFits, AnswerFits, Every}
use Rattle.journal.proofs.WordLaws.{length-word_bytes, word_back, word-drop}
use Rattle.journal.proofs.Sections.{length-call_records, length-answer_records, calls_in-back, answers_in-back}

module _ (fs : List Fields) (rs : List Answer) where
  pub journal_length : length (journal_of fs rs) ≡ 2 * word_size + record_size * length fs + record_size * length rs
  unfolding journal_of
  journal_length =
      simp length-append
      (omega (arith, length-word_bytes (length fs), length-word_bytes (length rs), length-call_records fs, length-answer_records rs))

  -- ---- what stands behind the first count, behind the calls, and behind the second count

  behind-count : drop word_size (journal_of fs rs) ≡ call_records fs ++ (word_bytes (length rs) ++ answer_records rs)
  unfolding journal_of
  behind-count = drop_at (word_bytes (length fs)) _ word_size (length-word_bytes (length fs))

  behind-calls : drop (word_size + record_size * length fs) (journal_of fs rs) ≡ word_bytes (length rs) ++ answer_records rs
  unfolding journal_of
  behind-calls =
      rw (sym (append_assoc (word_bytes (length fs)) (call_records fs) (word_bytes (length rs) ++ answer_records rs)))
      (drop_at (word_bytes (length fs) ++ call_records fs) _ (word_size + record_size * length fs)
      (omega (arith, length-append (word_bytes (length fs)) (call_records fs), length-word_bytes (length fs), length-call_records fs)))

  behind_both : drop (word_size + record_size * length fs + word_size) (journal_of fs rs) ≡ answer_records rs
  behind_both =
      sym (drop-drop word_size (word_size + record_size * length fs) (journal_of fs rs))
      ∙ ap (drop word_size) behind-calls
      ∙ drop_at (word_bytes (length rs)) (answer_records rs) word_size (length-word_bytes (length rs))

  -- ---- the counts and the places

  pub call_count-back : length fs ≤ greatest → call_count (journal_of fs rs) ≡ length fs
  unfolding call_count journal_of
  call_count-back h = word_back (length fs) (call_records fs ++ (word_bytes (length rs) ++ answer_records rs)) h

  pub second_place-back : length fs ≤ greatest → second_place (journal_of fs rs) ≡ word_size + record_size * length fs
  unfolding second_place
  second_place-back h = ap (λ (n : ℕ). word_size + record_size * n) (call_count-back h)

  pub answers_place-back : length fs ≤ greatest → answers_place (journal_of fs rs) ≡ word_size + record_size * length fs + word_size
  unfolding answers_place
  answers_place-back h = ap (λ (n : ℕ). n + word_size) (second_place-back h)

  pub answer_count-back : length fs ≤ greatest → length rs ≤ greatest → answer_count (journal_of fs rs) ≡ length rs
  unfolding answer_count
  answer_count-back h g =
      ap (λ (at : ℕ). word_at at (journal_of fs rs)) (second_place-back h)
      ∙ word-drop (word_size + record_size * length fs) (journal_of fs rs)
      ∙ ap (word_at 0) behind-calls
      ∙ word_back (length rs) (answer_records rs) g

  -- ---- the calls and the answers

  pub calls_back : Every CallFits fs → length fs ≤ greatest → calls_of (journal_of fs rs) ≡ fs
  unfolding calls_of
  calls_back cs h =
      ap₂ calls_in (call_count-back h) behind-count ∙ calls_in-back (word_bytes (length rs) ++ answer_records rs) cs

  pub answers-back : Every AnswerFits rs → length fs ≤ greatest → length rs ≤ greatest → answers_of (journal_of fs rs) ≡ rs
  unfolding answers_of
  answers-back ws h g =
      ap₂ answers_in (answer_count-back h g)
      (ap (λ (at : ℕ). drop at (journal_of fs rs)) (answers_place-back h) ∙ behind_both ∙ sym (append-nil (answer_records rs)))
      ∙ answers_in-back [] ws
