-- A file's parts, and that what is asked for of a whole file stands there.
use Prim.Native.Nat.{ℕ, ◌+◌, ◌-◌, ◌*◌, ◌≤◌, ◌<◌}
use mathlib.Core.Path.{◌≡◌, sym, ap, ◌∙◌}
use mathlib.Core.List.{List, []}
use native.Mathlib.Omega.{arith}
use lib.ListN.{length, take, drop, length-drop, drop_of_length-le}
use lib.Seq.{take-nil, take_all, length-take-le}
use Rattle.journal.specs.Words.{word_size}
use Rattle.journal.specs.Format.{record_size, call_count, answer_count}
use Rattle.journal.proofs.Lists.{take_rest}
use Rattle.judging.specs.declared.lockstep.Judging.{Judging}
use Rattle.judging.specs.Counted.{part}
use Rattle.judging.specs.Handed.{Handed}

module _ (file : List ℕ) (at n : ℕ) where
  pub part_none : length file < at → [] ≡ part file at n
  part_none h = sym (ap (take n) (drop_of_length-le file {i = at} (omega arith)) ∙ take-nil n)

  pub part-rest : length file - at < n → take (length file - at) (drop at file) ≡ part file at n
  part-rest h = take_rest at file ∙ sym (take_all n (drop at file) (omega (arith, length-drop at file)))

  pub part_all : take (at + n - at) (drop at file) ≡ part file at n
  part_all = let e : at + n - at ≡ n = omega arith in ap (λ (k : ℕ). take k (drop at file)) e

  pub length_part : at + n ≤ length file → length (part file at n) ≡ n
  length_part h = length-take-le n (drop at file) (omega (arith, length-drop at file))

-- all calls and all answers are there
pub room : (file : List ℕ) (j : Judging) → 0 < j.left → Handed file j →
    (call_count file ≡ j.counts.first) × (j.left ≤ j.counts.first) × (2 * word_size + record_size * j.counts.first + record_size * j.counts.first ≡ length file)
room file j p h =
    let w = h.whole p in
    let q = h.seen w in
    let s : length file ≡ 2 * word_size + record_size * call_count file + record_size * answer_count file = w.size in
    let c : call_count file ≡ answer_count file = w.counts in
    let f : j.counts.first ≡ call_count file = q.count in
    (sym f, q.within, omega arith)
