-- The turns of the loop over records: what the ones to come make of what is kept is what all make of the start.
use Prim.Native.Nat.{ℕ, suc, ◌+◌, ◌-◌, ◌*◌, ◌<◌, ◌≤◌}
use mathlib.Core.Path.{◌≡◌, sym, ap, ap₂, ◌∙◌}
use mathlib.Core.List.{List}
use native.Mathlib.Omega.{arith}
use lib.ListN.{drop}
use lib.Seq.{drop-drop}
use Rattle.names.specs.declared.Answer.{Answer}
use Rattle.call_words.specs.declared.Fields.{Fields}
use Rattle.journal.specs.Format.{record_size, call_at, answer_at}
use Rattle.journal.proofs.RecordLaws.{call-drop, answer-drop}
use Rattle.judge.specs.Pieces.{Progress, seen_one, seen_all}

-- after k of so many records
pub record SoFar (cs rs : List ℕ) (from to count k : ℕ) (p₀ p : Progress) : Type 0 where
  pub within : k ≤ count
  pub rest : seen_all (count - k) (drop (from + record_size * k) cs) (drop (to + record_size * k) rs) p ≡ seen_all count (drop from cs) (drop to rs) p₀

module _ (cs rs : List ℕ) (from to count : ℕ) (p₀ : Progress) where
  pub none_yet : SoFar cs rs from to count 0 p₀ p₀
  none_yet =
      let n : count - 0 ≡ count = omega arith in
      let a : from + record_size * 0 ≡ from = omega arith in
      let b : to + record_size * 0 ≡ to = omega arith in
      record { within = omega arith; rest = λ i. seen_all (n i) (drop (a i) cs) (drop (b i) rs) p₀ }

  further : (at : ℕ) (k : ℕ) (bs : List ℕ) → drop (at + record_size * (k + 1)) bs ≡ drop record_size (drop (at + record_size * k) bs)
  further at k bs =
      let e : at + record_size * (k + 1) ≡ at + record_size * k + record_size = omega arith in
      ap (λ (n : ℕ). drop n bs) e ∙ sym (drop-drop record_size (at + record_size * k) bs)

  -- f and g are the records read
  pub one_further : (k : ℕ) (p q : Progress) (f : Fields) (g : Answer) → k < count →
      f ≡ call_at (from + record_size * k) cs → g ≡ answer_at (to + record_size * k) rs → q ≡ seen_one f g p →
      SoFar cs rs from to count k p₀ p → SoFar cs rs from to count (k + 1) p₀ q
  unfolding seen_all
  one_further k p q f g h ef eg e s =
      let n : suc (count - (k + 1)) ≡ count - k = omega arith in
      let a : ℕ = from + record_size * k in
      let b : ℕ = to + record_size * k in
      let o : q ≡ seen_one (call_at 0 (drop a cs)) (answer_at 0 (drop b rs)) p =
      e ∙ ap₂ (λ x y. seen_one x y p) (ef ∙ call-drop a cs) (eg ∙ answer-drop b rs) in
      record {
        within = omega arith;
        rest =
            (λ i. seen_all (count - (k + 1)) (further from k cs i) (further to k rs i) (o i))
            ∙ ap (λ (m : ℕ). seen_all m (drop a cs) (drop b rs) p) n
            ∙ s.rest;
      }

  pub all_seen : (k : ℕ) (p : Progress) → count ≤ k → SoFar cs rs from to count k p₀ p → p ≡ seen_all count (drop from cs) (drop to rs) p₀
  unfolding seen_all
  all_seen k p h s =
      let n : 0 ≡ count - k = omega arith in
      ap (λ (m : ℕ). seen_all m (drop (from + record_size * k) cs) (drop (to + record_size * k) rs) p) n ∙ s.rest
