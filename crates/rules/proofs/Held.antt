-- Two-phase locks: a granted read leaves its caller with a lock on the item, a granted write with the exclusive one, without the
-- shared bit and with the value that was written.
use Prim.Native.Nat.{ℕ, suc, ◌<◌}
use mathlib.Core.Path.{◌≡◌, refl, sym, ap, ◌∙◌, subst}
use native.Mathlib.Omega.{arith}
use lib.Dec.{T}
use Rattle.names.specs.declared.Sizes.{Sizes}
use Rattle.rules.specs.Words.{bit, with_bit}
use Rattle.rules.specs.Tables.{Tables, txn, shared_lock, exclusive_lock, live_update, is_reader, Lock, lock, holds, holds_shared, holds_exclusive}
use Rattle.rules.specs.Good.{Good}
use Rattle.rules.specs.Locks.{Asked, to_read, to_write}
use Rattle.rules.specs.Answers.{Read, Write, Outcome, Deed, granted}
use Rattle.rules.specs.Step.{step, judged, act, done, locked, locked_anew, shared_too, taken, replaced}
use Rattle.rules.specs.Conditions.{Caller}
use Rattle.rules.specs.Promises.{asking, HoldsFor, GrantedHolds}
use Rattle.rules.proofs.Tests.{or_left, or_right, true_is, eq_make}
use Rattle.rules.proofs.Bits.{with_bit_here, without_bit_here}
use Rattle.rules.proofs.Steps.{acts}
use Rattle.rules.proofs.Views.{lock-set_lock}
use Rattle.rules.proofs.Callers.{caller-found}
use Rattle.rules.proofs.RowKinds.{update_no_reader, settled-reads}
use Rattle.rules.proofs.Decisions.{never_both_lem}
use Rattle.rules.proofs.Ways.{refusal-code, Way, refused, waited, read_own, read_newest, read_shared, read_settled, read_version, wrote_own, wrote_settled, wrote_taken, kept_waiting}
use Rattle.rules.proofs.Judged.{way}
use Rattle.rules.proofs.Outcomes.{granted-good}

module _ (S : Sizes) (G : Tables) (g : Good S G) (n s : ℕ) (C : Caller S G n s) (up : T (live_update (txn G.txns s))) where
  -- a number is borne once
  same-slot : (r : ℕ) → Caller S G n r → r ≡ s
  same-slot r R = sym (caller-found S G g r n R.inside R.alive R.name) ∙ caller-found S G g s n C.inside C.alive C.name

  -- an update that writes reads no versions
  not_reader : T (is_reader (txn G.txns s)) → ⊥
  not_reader q = update_no_reader (txn G.txns s) up q

  -- the lock that was written is there
  written : (r x : ℕ) → x < S.items → (h : Lock) → lock (locked S r x h G).locks x ≡ h
  unfolding locked
  written r x known h = lock-set_lock G.locks x h S g.locks_exact known

  written_anew : (r k x : ℕ) → x < S.items → (h : Lock) → lock (locked_anew S r k x h G).locks x ≡ h
  unfolding locked_anew locked
  written_anew r k x known h = lock-set_lock G.locks x h S g.locks_exact known

  read-holds :
      (x : ℕ) (d : Deed) → Way S G (Read n x) d → (done S d G).answer.code ≡ granted → T (holds (lock (done S d G).after.locks x) s)
  unfolding done holds
  read-holds x d (refused r m) z = absurd (refusal-code r z)
  read-holds x d (waited r k y w) z = absurd (omega arith)
  read-holds x d (read_own m r y U h) z =
      subst (λ (i : ℕ). T (holds (lock G.locks x) i)) (same-slot r U.caller) (or_right (holds_shared (lock G.locks x) r) _ h)
  read-holds x d (read_newest m r y U h) z =
      subst (λ (i : ℕ). T (holds (lock G.locks x) i)) (same-slot r U.caller) (or_left (holds_shared (lock G.locks x) r) _ h)
  read-holds x d (read_shared m r y U h f) z =
      subst (λ (i : ℕ). T (holds (lock (locked_anew S r shared_lock x (shared_too (lock G.locks x) r) G).locks x) i)) (same-slot r U.caller)
      (rw (written_anew r shared_lock x U.known (shared_too (lock G.locks x) r))
      (unfold holds_shared in (or_left (bit (with_bit (lock G.locks x).shared r) r) _ (true_is (with_bit_here (lock G.locks x).shared r)))))
  read-holds x d (kept_waiting r D q) z = absurd (omega arith)
  read-holds x d (read_settled m r y D p i h) z = absurd (not_reader (subst (λ (j : ℕ). T (is_reader (txn G.txns j))) (same-slot r D) (settled-reads (txn G.txns r) p)))
  read-holds x d (read_version m r y D q i o b) z = absurd (not_reader (subst (λ (j : ℕ). T (is_reader (txn G.txns j))) (same-slot r D) q))

  -- what a write leaves the slot r
  abbrev Left : ℕ → ℕ → Outcome → ℕ → Type 0
  Left x v o r = HoldsFor to_write v (lock o.after.locks x) r

  write-holds : (x v : ℕ) (d : Deed) → Way S G (Write n x v) d → (done S d G).answer.code ≡ granted → Left x v (done S d G) s
  unfolding done
  write-holds x v d (refused r m) z = absurd (refusal-code r z)
  write-holds x v d (waited r k y w) z = absurd (omega arith)
  write-holds x v d (wrote_own m r y u U h) z =
      let e = written r x U.known (replaced (lock G.locks x) v) in
      subst (Left x v (done S d G)) (same-slot r U.caller)
      (rw e (unfold holds_exclusive in h), rw e (λ k. never_both_lem S G g x U.known r r h (unfold holds_shared in k)), ap (λ (h : Lock). h.working) e)
  write-holds x v d (kept_waiting r D q) z = absurd (omega arith)
  write-holds x v d (wrote_settled m r y u D p i h) z = absurd (not_reader (subst (λ (j : ℕ). T (is_reader (txn G.txns j))) (same-slot r D) (settled-reads (txn G.txns r) p)))
  write-holds x v d (wrote_taken m r y u U h alone room) z =
      let e = written_anew r exclusive_lock x U.known (taken (lock G.locks x) r v) in
      subst (Left x v (done S d G)) (same-slot r U.caller) (
        rw e (unfold holds_exclusive in (eq_make (suc r) (suc r) refl)),
        rw e (λ k. subst T (without_bit_here (lock G.locks x).shared r) (unfold holds_shared in k)),
        ap (λ (h : Lock). h.working) e,
      )

pub granted-holds : (S : Sizes) → GrantedHolds S
unfolding act
granted-holds S G a n s x v C up z = go a (granted-good S (asking a n x v) G z) z
  where
    go : (a : Asked) → Good S G → (step S (asking a n x v) G).answer.code ≡ granted → HoldsFor a v (lock (step S (asking a n x v) G).after.locks x) s
    go to_read g z = rw (acts S (Read n x) G g) (read-holds S G g n s C up x (judged S (Read n x) G) (way S G g (Read n x)) (rw (acts S (Read n x) G g) at z))
    go to_write g z = rw (acts S (Write n x v) G g) (write-holds S G g n s C up x v (judged S (Write n x v) G) (way S G g (Write n x v)) (rw (acts S (Write n x v) G g) at z))
