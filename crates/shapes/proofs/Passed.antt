-- The pass over the transaction rows: what is known after some rows.
use Prim.Native.Nat.{ℕ, ◌+◌, ◌<◌}
use mathlib.Core.Path.{◌≡◌, refl, sym, ap, ap₂, ◌∙◌}
use mathlib.Core.Logic.{◌≢◌}
use mathlib.Core.Bool.{Bool, true, false, ◌&&◌, not}
use mathlib.Core.List.{List}
use native.Mathlib.Omega.{arith}
use lib.Bits.{bit_or}
use lib.Dec.{eqb}
use borrow.Author.Tests.{eq-eqb, ne_eqb}
use Rattle.names.specs.Sizes.{base}
use Rattle.rules.specs.Words.{every_below, slots_that}
use Rattle.rules.specs.Tables.{Txn, txn, live_update, live_settled, live_relaxed, no_lock}
use Rattle.rules.specs.Tested.{tops_most}
use Rattle.words.proofs.Turns.{every_more}
use Rattle.words.proofs.Slots.{slots_yes, slots_no}
use Rattle.words.proofs.SlotWords.{one_shifted}
use Rattle.shapes.specs.Shape.{row_good, waits, or_below}
use Rattle.shapes.specs.declared.Seen.{Seen}
use Rattle.shapes.proofs.Masks.{or_more}
use Rattle.shapes.proofs.Seeing.{and_true, free-idle, update-live, query-idle, free_unsettled, other_unsettled, settled-live, free_strict, other_strict, relaxed-live}

and_turn : (a b c : Bool) → ((a && b) && c) ≡ (a && (c && b))
and_turn false b c = refl
and_turn true true true = refl
and_turn true true false = refl
and_turn true false true = refl
and_turn true false false = refl

-- ---- what is known once the rows below i were seen
pub record Passed (t : List ℕ) (s : Seen) (i : ℕ) : Type 0 where
  pub shaped : s.ok ≡ (tops_most t && every_below i (λ s. row_good base t (txn t s)))
  pub of_updates : s.updates ≡ slots_that i (λ s. live_update (txn t s))
  pub of_waiting : s.waiting ≡ slots_that i (λ s. waits (txn t s))
  pub of_settled : s.settled ≡ slots_that i (λ s. live_settled (txn t s))
  pub of_relaxed : s.relaxed ≡ slots_that i (λ s. live_relaxed (txn t s))
  pub of_later : s.later ≡ or_below i (λ s. (txn t s).later_for)

pub passed_begin : (t : List ℕ) → Passed t (record { ok = tops_most t; updates = 0; waiting = 0; settled = 0; relaxed = 0; later = 0 }) 0
unfolding every_below slots_that or_below
passed_begin t = record { shaped = sym (and_true (tops_most t)); of_updates = refl; of_waiting = refl; of_settled = refl; of_relaxed = refl; of_later = refl }

-- the row of slot i is `at`
module _ (t : List ℕ) {o : Seen} {i : ℕ} (h : Passed t o i) (l : i < base.slots) (at : Txn) (is : at ≡ txn t i) where
  -- a slot more is in a word, or is not
  yes : (P : Txn → Bool) {m : ℕ} → m ≡ slots_that i (λ s. P (txn t s)) → P at ≡ true → bit_or m (one_shifted i) ≡ slots_that (i + 1) (λ s. P (txn t s))
  yes P e n = ap (λ (m : ℕ). bit_or m (one_shifted i)) e ∙ slots_yes i (λ s. P (txn t s)) (omega arith) (ap P (sym is) ∙ n)

  no : (P : Txn → Bool) {m : ℕ} → m ≡ slots_that i (λ s. P (txn t s)) → P at ≡ false → m ≡ slots_that (i + 1) (λ s. P (txn t s))
  no P e n = e ∙ slots_no i (λ s. P (txn t s)) (ap P (sym is) ∙ n)

  updates_no : live_update at ≡ false → o.updates ≡ slots_that (i + 1) (λ s. live_update (txn t s))
  updates_no = no live_update h.of_updates

  waiting_no : live_update at ≡ false → o.waiting ≡ slots_that (i + 1) (λ s. waits (txn t s))
  unfolding waits
  waiting_no n = no waits h.of_waiting (ap (λ (b : Bool). b && not (eqb at.awaited_lock no_lock)) n)

  settled_no : live_settled at ≡ false → o.settled ≡ slots_that (i + 1) (λ s. live_settled (txn t s))
  settled_no = no live_settled h.of_settled

  relaxed_no : live_relaxed at ≡ false → o.relaxed ≡ slots_that (i + 1) (λ s. live_relaxed (txn t s))
  relaxed_no = no live_relaxed h.of_relaxed

  -- c is what the row of slot i comes to
  module _ {c : Bool} (d : c ≡ row_good base t at) where
    -- the rows as far as they were tested
    grown : (o.ok && c) ≡ (tops_most t && every_below (i + 1) (λ s. row_good base t (txn t s)))
    grown =
        ap (λ (b : Bool). b && c) h.shaped
        ∙ and_turn (tops_most t) (every_below i (λ s. row_good base t (txn t s))) c
        ∙ ap (λ (b : Bool). tops_most t && (b && every_below i (λ s. row_good base t (txn t s)))) (d ∙ ap (row_good base t) is)
        ∙ ap (λ (b : Bool). tops_most t && b) (sym (every_more (λ s. row_good base t (txn t s)) i))

    -- what is seen with it, v, x, y and z being the four words of slots
    abbrev with : ℕ → ℕ → ℕ → ℕ → Seen
    with v x y z = record { ok = o.ok && c; updates = v; waiting = x; settled = y; relaxed = z; later = bit_or o.later at.later_for }

    seen :
        {v x y z : ℕ} → v ≡ slots_that (i + 1) (λ s. live_update (txn t s)) → x ≡ slots_that (i + 1) (λ s. waits (txn t s)) → y ≡ slots_that (i + 1) (λ s. live_settled (txn t s))
        → z ≡ slots_that (i + 1) (λ s. live_relaxed (txn t s)) → Passed t (with v x y z) (i + 1)
    seen a₁ a₂ a₃ a₄ =
        record {
          shaped = grown;
          of_updates = a₁;
          of_waiting = a₂;
          of_settled = a₃;
          of_relaxed = a₄;
          of_later = ap₂ (λ (m : ℕ) (x : Txn). bit_or m x.later_for) h.of_later is ∙ or_more i (λ s. (txn t s).later_for);
        }

    -- a free row
    pub passed-free : at.number ≡ 0 → Passed t (with o.updates o.waiting o.settled o.relaxed) (i + 1)
    passed-free n = seen (updates_no (free-idle at n)) (waiting_no (free-idle at n)) (settled_no (free_unsettled at n)) (relaxed_no (free_strict at n))

    module _ (n : at.number ≢ 0) where
      -- that of a query
      pub passed-query : at.kind ≢ 0 → at.kind ≢ 2 → at.kind ≢ 3 → Passed t (with o.updates o.waiting o.settled o.relaxed) (i + 1)
      passed-query k₀ k₂ k₃ =
          seen (updates_no (query-idle at n k₀)) (waiting_no (query-idle at n k₀)) (settled_no (other_unsettled at k₂)) (relaxed_no (other_strict at k₃))

      -- of one past its writing
      pub passed-settled : at.kind ≡ 2 → Passed t (with o.updates o.waiting (bit_or o.settled (one_shifted i)) o.relaxed) (i + 1)
      passed-settled k =
          seen (updates_no (query-idle at n (λ z. omega arith))) (waiting_no (query-idle at n (λ z. omega arith)))
          (yes live_settled h.of_settled (settled-live at n k)) (relaxed_no (other_strict at (λ z. omega arith)))

      -- of a relaxed query
      pub passed-relaxed : at.kind ≡ 3 → Passed t (with o.updates o.waiting o.settled (bit_or o.relaxed (one_shifted i))) (i + 1)
      passed-relaxed k =
          seen (updates_no (query-idle at n (λ z. omega arith))) (waiting_no (query-idle at n (λ z. omega arith)))
          (settled_no (other_unsettled at (λ z. omega arith))) (yes live_relaxed h.of_relaxed (relaxed-live at n k))

      -- of a live update, which does not wait, or does
      pub passed_still : at.kind ≡ 0 → at.awaited_lock ≡ 0 → Passed t (with (bit_or o.updates (one_shifted i)) o.waiting o.settled o.relaxed) (i + 1)
      unfolding waits
      passed_still k j =
          seen (yes live_update h.of_updates (update-live at n k))
          (no waits h.of_waiting (rw (update-live at n k, eq-eqb at.awaited_lock 0 j)))
          (settled_no (other_unsettled at (λ z. omega arith))) (relaxed_no (other_strict at (λ z. omega arith)))

      pub passed-waits :
          at.kind ≡ 0 → at.awaited_lock ≢ 0
          → Passed t (with (bit_or o.updates (one_shifted i)) (bit_or o.waiting (one_shifted i)) o.settled o.relaxed) (i + 1)
      unfolding waits
      passed-waits k j =
          seen (yes live_update h.of_updates (update-live at n k))
          (yes waits h.of_waiting (rw (update-live at n k, ne_eqb at.awaited_lock 0 j)))
          (settled_no (other_unsettled at (λ z. omega arith))) (relaxed_no (other_strict at (λ z. omega arith)))
