-- Each deed that ends a transaction, or its writing, from what its parts write: r, t', l' and v' are the answer and the tables afterwards.
use Prim.Native.Nat.{ℕ, ◌+◌}
use mathlib.Core.Path.{◌≡◌, ap}
use mathlib.Core.List.{List}
use lib.ListN.{set}
use Rattle.names.specs.Sizes.{base}
use Rattle.names.specs.Layout.{clock_at}
use Rattle.names.specs.Answers.{numbered, found, plain}
use Rattle.names.specs.declared.Answer.{Answer}
use Rattle.names.specs.declared.Slot.{Slot}
use Rattle.rules.specs.Tables.{tables, clock, txn, set_txn, no_txn, new_txn, readers, a_settled, release, unshare}
use Rattle.rules.specs.Waits.{closed_up}
use Rattle.rules.specs.Versions.{rewritten, revealed}
use Rattle.rules.specs.Answers.{Outcome, outcome, Commits, CommitsEmpty, Ends, Aborts, Settles, CommitsSettled, AbortsSettled}
use Rattle.rules.specs.Step.{done, forgotten, with_new, committed, committed_under, ended, aborted, settled, settled_committed, settled_aborted}

module _ (t l v : List ℕ) where
  pub ends-done :
      (s : Slot) {r : Answer} {t' v' : List ℕ} → t' ≡ set_txn (forgotten base s.0 t) s.0 no_txn
      → v' ≡ rewritten base (readers base (set_txn (forgotten base s.0 t) s.0 no_txn)) (λ x vs. revealed s.0 vs) v
      → {n w : ℕ} → n ≡ (txn t s.0).read_count → w ≡ (txn t s.0).weight_sum → r ≡ found w n
      → outcome r t' l v' ≡ done base (Ends s) (tables t l v)
  unfolding done ended
  ends-done s et ev en ew er = rw (er, et, ev, en, ew)

  pub commits-done :
      (s : Slot) {c m : ℕ} {r : Answer} {t' l' v' : List ℕ} → c ≡ clock t + 1 → m ≡ (txn t s.0).later_for
      → t' ≡ set_txn (set t clock_at c) s.0 no_txn → l' ≡ release base s.0 l
      → v' ≡ rewritten base (readers base (set_txn (set t clock_at c) s.0 no_txn)) (with_new l s.0 c m) v → r ≡ numbered c
      → outcome r t' l' v' ≡ done base (Commits s) (tables t l v)
  unfolding done committed committed_under
  commits-done s ec em et el ev er = rw (er, et, el, ev, em, ec)

  pub aborts_done :
      (s : Slot) {r : Answer} {t' l' : List ℕ} → t' ≡ set_txn (closed_up base t s.0) s.0 no_txn → l' ≡ release base s.0 l → r ≡ plain
      → outcome r t' l' v ≡ done base (Aborts s) (tables t l v)
  unfolding done aborted
  aborts_done s et el er = rw (er, et, el)

  -- request E7: what an abort leaves, and the clock is answered
  pub empty_done :
      (s : Slot) {n : ℕ} {r a : Answer} {t' l' : List ℕ} → n ≡ clock t → outcome a t' l' v ≡ done base (Aborts s) (tables t l v) → r ≡ numbered n
      → outcome r t' l' v ≡ done base (CommitsEmpty s) (tables t l v)
  unfolding done
  empty_done s en e er = rw (er, en) (ap (λ (o : Outcome). record { answer = numbered (clock t); after = o.after }) e)

  pub settles_done :
      (s : Slot) {c : ℕ} {r : Answer} {t' l' : List ℕ} → c ≡ clock t + 1
      → t' ≡ set_txn (set t clock_at c) s.0 (new_txn (txn t s.0).number a_settled c) → l' ≡ unshare base s.0 l → r ≡ numbered c
      → outcome r t' l' v ≡ done base (Settles s) (tables t l v)
  unfolding done settled
  settles_done s ec et el er = rw (er, et, el, ec)

  -- one past its writing
  pub settled-commits-done :
      (s : Slot) {c m : ℕ} {r : Answer} {t' l' v' : List ℕ} → c ≡ (txn t s.0).start → m ≡ (txn t s.0).later_for → t' ≡ set_txn t s.0 no_txn → l' ≡ release base s.0 l
      → v' ≡ rewritten base (readers base (set_txn t s.0 no_txn)) (with_new l s.0 c m) v → r ≡ numbered c
      → outcome r t' l' v' ≡ done base (CommitsSettled s) (tables t l v)
  unfolding done settled_committed committed_under
  settled-commits-done s ec em et el ev er = rw (er, et, el, ev, em, ec)

  pub settled_aborts_done :
      (s : Slot) {r : Answer} {t' l' v' : List ℕ} → t' ≡ set_txn t s.0 no_txn → l' ≡ release base s.0 l
      → v' ≡ rewritten base (readers base (set_txn t s.0 no_txn)) (λ x vs. vs) v → r ≡ plain
      → outcome r t' l' v' ≡ done base (AbortsSettled s) (tables t l v)
  unfolding done settled_aborted
  settled_aborts_done s et el ev er = rw (er, et, el, ev)
