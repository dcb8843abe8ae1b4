-- What the judge finds in a whole file.
use Prim.Native.Nat.{ℕ, ◌+◌, ◌*◌, ◌<◌, ◌≤◌}
use mathlib.Core.Path.{◌≡◌, sym, ap, ap₂, ◌∙◌}
use mathlib.Core.Bool.{false}
use mathlib.Core.List.{List}
use native.Mathlib.Omega.{arith}
use lib.ListN.{length, drop}
use Rattle.names.specs.Sizes.{base}
use Rattle.rules.specs.Tables.{tables, fresh}
use Rattle.journal.specs.Words.{word_size, word_at, greatest}
use Rattle.journal.specs.Format.{record_size, call_count, second_place, answers_place, answer_count}
use Rattle.judge.specs.Verdicts.{first_wrong, verdict_on}
use Rattle.judge.specs.Pieces.{progress, unseen, start, seen_all, Whole, calls_stand, spoken}
use Rattle.judge.specs.declared.Judge.{Judge}
use Rattle.judge.specs.declared.Verdict.TheVariants.{Short}
use Rattle.judge.proofs.Speaking.{bytes, short, stand_not}
use Rattle.judge.proofs.Said.{place, verdict-said, spoken_is}
use Rattle.judge.proofs.Streamed.{replay_is}

-- ---- the start

pub at_start : (j : Judge) (t l v : List ℕ) → j ≡ unseen → tables t l v ≡ fresh base → progress j t l v ≡ start
at_start j t l v e f = λ i. record { seen = (e i).seen; wrong = (e i).wrong; left = f i }

-- ---- the end, in the words of the code: n and m are the words found, w what the replay found

module _ (file : List ℕ) (n : ℕ) (en : n ≡ word_at 0 file) where
  pub says-short : calls_stand (length file) n ≡ false → Short ≡ verdict_on file
  unfolding call_count
  says-short e =
      let h : length file < 2 * word_size + record_size * n = stand_not (length file) n e in
      let k : n ≡ call_count file = en in
      sym (verdict-said file ∙ short (length file) (call_count file) (answer_count file) (first_wrong file) (omega arith))

  pub says : (m w : ℕ) → m ≡ word_at (word_size + record_size * n) file → n ≤ greatest →
      (n ≡ m → 2 * word_size + record_size * n + record_size * n ≡ length file →
      w ≡ (seen_all n (drop word_size file) (drop (2 * word_size + record_size * n) file) start).wrong) →
      spoken (length file) n m w ≡ verdict_on file
  unfolding call_count answer_count second_place
  says m w em h found =
      let kn : n ≡ call_count file = en in
      let km : m ≡ answer_count file = em ∙ ap (λ (k : ℕ). word_at (word_size + record_size * k) file) en in
      ap₂ (λ (a b : ℕ). spoken (length file) a b w) kn km ∙ spoken_is file w (again kn km)
    where
      again : n ≡ call_count file → m ≡ answer_count file → Whole file → w ≡ first_wrong file
      again kn km W =
          let s : length file ≡ bytes (call_count file) (answer_count file) = W.size in
          let c : call_count file ≡ answer_count file = W.counts in
          let p : 2 * word_size + record_size * n ≡ answers_place file = ap (λ (k : ℕ). 2 * word_size + record_size * k) kn ∙ sym (place file) in
          found (kn ∙ c ∙ sym km) (omega arith)
          ∙ ap₂ (λ (k d : ℕ). (seen_all k (drop word_size file) (drop d file) start).wrong) kn p
          ∙ replay_is file W (omega arith)
