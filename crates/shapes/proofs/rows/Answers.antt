use Prim.Native.Nat.{ℕ}
use mathlib.Core.Path.{◌≡◌, ap, ◌∙◌}
use native.Mathlib.Omega.{arith}
use Rattle.names.specs.Sizes.{base}
use Rattle.rules.specs.Words.{every_below, slots_that}
use Rattle.rules.specs.Tables.{txn, live_update, live_settled, live_relaxed, relaxed_in}
use Rattle.rules.specs.Tested.{tops_most}
use mathlib.Core.Bool.{◌&&◌}
use mathlib.Core.Logic.{◌≢◌}
use Rattle.shapes.specs.Shape.{row_good, rows_good, updates_in, waiting_in, settled_in, later_in, or_below, waits, txn_of}
use Rattle.shapes.proofs.Seeing.{free-same, update_same, settled_same, relaxed-same, query-same}
use Rattle.shapes.proofs.Passed.{passed_begin, passed-free, passed-query, passed-settled, passed-relaxed, passed_still, passed-waits}
use Rattle.shapes.proofs.rows.Goals as goal
use Rattle.shapes.proofs.rows.Goals.{then-row-eq0, else-row-eq0+in-0+then-row-ne-NO_LOCK, else-row-eq0+in-0+else-row-ne-NO_LOCK, else-row-eq0+in-2, else-row-eq0+in-3, else-row-eq0+in_default}

pub loop-slot-init : goal.loop-slot-init
unfolding tops_most
loop-slot-init c = passed_begin _

pub loop-slot-preserved : goal.loop-slot-preserved
unfolding txn
loop-slot-preserved c =
    let t = c.args.txns.now in
    let r = txn_of c.row_at-row.result in
    let is = c.row_at-row.ensures in
    let h = c.loop-slot.invariant in
    let l = c.loop-slot-test.true in
    elim c.if-row-eq0.branch [
      | then-row-eq0 w ↦ rw w.seen-is (passed-free t h l r is (w.free_ok.ensures ∙ free-same t r w.if-row-eq0.true) w.if-row-eq0.true)
      | else-row-eq0+in-0+then-row-ne-NO_LOCK w ↦ rw w.seen-is (passed-waits t h l r is (w.update_ok.ensures ∙ update_same t r w.if-row-eq0.false w.in-0.is) w.if-row-eq0.false w.in-0.is w.if-row-ne-NO_LOCK.true)
      | else-row-eq0+in-0+else-row-ne-NO_LOCK w ↦ rw w.seen-is (passed_still t h l r is (w.update_ok.ensures ∙ update_same t r w.if-row-eq0.false w.in-0.is) w.if-row-eq0.false w.in-0.is w.if-row-ne-NO_LOCK.false)
      | else-row-eq0+in-2 w ↦ rw w.seen-is (passed-settled t h l r is (w.settled_ok.ensures ∙ settled_same t r w.if-row-eq0.false w.in-2.is) w.if-row-eq0.false w.in-2.is)
      | else-row-eq0+in-3 w ↦ rw w.seen-is (passed-relaxed t h l r is (w.relaxed_ok.ensures ∙ relaxed-same t r w.if-row-eq0.false w.in-3.is) w.if-row-eq0.false w.in-3.is)
      | else-row-eq0+in_default w ↦
          let k₀ : r.kind ≢ 0 = search in
          let k₂ : r.kind ≢ 2 = search in
          let k₃ : r.kind ≢ 3 = search in
          rw w.seen-is (passed-query t h l r is (w.query_ok.ensures ∙ query-same t r w.if-row-eq0.false k₀ k₂ k₃) w.if-row-eq0.false k₀ k₂ k₃)
    ]

pub returns : goal.returns
unfolding rows_good updates_in waiting_in settled_in relaxed_in later_in
returns c =
    let t = c.args.txns.now in
    let h = c.loop-slot.invariant in
    let e : c.loop-slot.slot ≡ base.slots = omega arith in
    let ok = h.shaped ∙ ap (λ (n : ℕ). tops_most t && every_below n (λ s. row_good base t (txn t s))) e in
    let updates = h.of_updates ∙ ap (λ (n : ℕ). slots_that n (λ s. live_update (txn t s))) e in
    let waiting = h.of_waiting ∙ ap (λ (n : ℕ). slots_that n (λ s. waits (txn t s))) e in
    let settled = h.of_settled ∙ ap (λ (n : ℕ). slots_that n (λ s. live_settled (txn t s))) e in
    let relaxed = h.of_relaxed ∙ ap (λ (n : ℕ). slots_that n (λ s. live_relaxed (txn t s))) e in
    let later = h.of_later ∙ ap (λ (n : ℕ). or_below n (λ s. (txn t s).later_for)) e in
    λ i. record { ok = ok i; updates = updates i; waiting = waiting i; settled = settled i; relaxed = relaxed i; later = later i }
