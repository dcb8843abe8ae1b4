-- What the invariant says of a slot that did not call stays true, whatever the order and the logs become, as long as they are the same
-- for this slot (`Unmoved`).
use Prim.Native.Nat.{ℕ, ◌+◌, ◌*◌, ◌≤◌, ◌<◌}
use mathlib.Core.Path.{◌≡◌, refl, sym, ◌∙◌, subst}
use mathlib.Core.Logic.{◌≢◌}
use mathlib.Core.Bool.{Bool, true, false, cond}
use mathlib.Core.List.{List}
use native.Mathlib.Omega.{arith}
use lib.Dec.{T}
use Rattle.rules.specs.Tables.{an_update, a_query, a_settled, a_relaxed}
use Rattle.rules.proofs.Tests.{true_is}
use Rattle.history.specs.Happened.{Access}
use Rattle.history.specs.Serial.{Entry, numbers_of, Absent}
use Rattle.history.proofs.Replay.{Within, within-map, local_agrees}
use Rattle.history.proofs.Order.{All, all_map, array_at}
use Rattle.history.proofs.Invariant.{View, Fair, Row, Locks, Sees, Pending, Free, Own, Slot, settled}

module _ (items : ℕ) (W W' : View) (r : ℕ) (L : Locks items W W' r) where
  -- what is free of its items stays so
  pub free-kept : (l : List Access) → Within (Free items W r) l → Within (Free items W' r) l
  free-kept l w = within-map _ _ (λ y h. (h.0, λ z. h.1 (subst T (L.same_writes y h.0) z))) l w

  -- its working value, where it holds
  pub chosen : (x : ℕ) → x < items → (c : ℕ) → cond (W.writes r x) (W.working x) c ≡ cond (W'.writes r x) (W'.working x) c
  chosen x b c = rw (L.same_writes x b) (go (W.writes r x) refl)
    where
      go : (z : Bool) → W.writes r x ≡ z → cond z (W.working x) c ≡ cond z (W'.working x) c
      go true e = sym (L.same-working x b (true_is e))
      go false e = refl

  -- an update: what it holds is as it was
  pub pending_kept :
      (l : List Access) → ((x : ℕ) → x < items → T (W.holds r x) → W'.current x ≡ W.current x) → Pending items W r l → Pending items W' r l
  pending_kept l same p =
      record {
        within = within-map _ _ (λ x h. (h.0, L.still_holds x h.0 h.1)) l p.within;
        reads =
            local_agrees (λ x. (x < items) × T (W.holds r x)) l W.current W'.current (λ y h. sym (same y h.0 h.1)) p.within p.reads;
      }

-- ---- the order and the logs, es and log before, are the same for slot r
pub record Unmoved (items : ℕ) (es es' : List Entry) (log log' : ℕ → List Access) (W W' : View) (r : ℕ) : Type 0 where
  pub log_is : log' (W.number r) ≡ log (W.number r)
  pub absent : Absent (W.number r) (numbers_of es) → Absent (W.number r) (numbers_of es')
  pub current : (x : ℕ) → x < items → T (W.holds r x) → W'.current x ≡ W.current x
  pub arrays : (p : ℕ) → p ≤ 2 * W.clock + 1 → array_at p es' log' ≡ array_at p es log
  pub vacant : W.kind r ≡ a_settled → All (λ p n. p ≢ 2 * W.start r) es → All (λ p n. p ≢ 2 * W.start r) es'
  pub clear :
      W.kind r ≡ a_settled → All (λ p n. 2 * W.start r < p → Within (Free items W r) (log n)) es
      → All (λ p n. 2 * W.start r < p → Within (Free items W r) (log' n)) es'
  pub placed :
      W.kind r ≡ a_query → All (λ p n. n ≡ W.number r → p ≡ 2 * W.start r + 1) es → All (λ p n. n ≡ W.number r → p ≡ 2 * W.start r + 1) es'

module _
    (items : ℕ) (es es' : List Entry) (log log' : ℕ → List Access) (W W' : View) (F : Fair items W)
    (r : ℕ) (R : Row W W' r) (L : Locks items W W' r) (a : W.alive r) (U : Unmoved items es es' log log' W W' r)
  where
    own_kept : W.kind r ≡ a_settled → Own items es log W r → Own items es' log' W' r
    own_kept k o =
        let l = F.low r (a, λ z. omega arith, λ z. omega arith) in
        let same : array_at (2 * W.start r) es' log' ≡ array_at (2 * W.start r) es log = U.arrays (2 * W.start r) (omega arith) in
        record {
          vacant = rw R.start_is (U.vacant k o.vacant);
          reads = rw (R.start_is, R.number_is, U.log_is, same) o.reads;
          clear = rw R.start_is (all_map _ _ (λ p n h m. free-kept items W W' r L _ (h m)) es' (U.clear k o.clear));
        }

    pub slot_kept : Sees items W W' r → Slot items es log W r → Slot items es' log' W' r
    slot_kept sees S =
        record {
          waiting = λ k. rw R.number_is (U.absent (S.waiting (λ z. k (R.kind_is ∙ z))));
          ends = λ k c x b. rw (R.number_is, U.log_is) (S.ends (λ z. k (R.kind_is ∙ z)) c x b ∙ chosen items W W' r L x b (c x));
          pending = λ k.
              rw (R.number_is, U.log_is)
              (pending_kept items W W' r L (log (W.number r)) U.current (S.pending (sym R.kind_is ∙ k)));
          own = λ k. own_kept (sym R.kind_is ∙ k) (S.own (sym R.kind_is ∙ k));
          snapped = λ k j x b.
              let k' : W.kind r ≢ an_update = λ z. k (R.kind_is ∙ z) in
              let j' : W.kind r ≢ a_relaxed = λ z. j (R.kind_is ∙ z) in
              let l = F.low r (a, k', j') in
              rw (R.start_is, U.arrays (2 * W.start r + 1) (omega arith)) (S.snapped k' j' x b ∙ sym (sees x b (R.lives_on a, k, j)));
          placed = λ k. rw (R.start_is, R.number_is) (U.placed (sym R.kind_is ∙ k) (S.placed (sym R.kind_is ∙ k)));
        }

-- ---- two of them, past their writing
pub clear_kept :
    (items : ℕ) (log log' : ℕ → List Access) (W W' : View) (s r : ℕ) → Row W W' s → Row W W' r → Locks items W W' s
    → log' (W.number r) ≡ log (W.number r)
    → ((settled W s → settled W r → W.start s < W.start r → Within (Free items W s) (log (W.number r))))
    → settled W' s → settled W' r → W'.start s < W'.start r → Within (Free items W' s) (log' (W'.number r))
clear_kept items log log' W W' s r P R L e h a b l =
    rw (R.number_is, e)
    (free-kept items W W' s L _
    (h (P.was a.0, sym P.kind_is ∙ a.1) (R.was b.0, sym R.kind_is ∙ b.1)
    (let p = P.start_is in let q = R.start_is in omega arith)))
