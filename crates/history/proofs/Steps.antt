-- The invariant is kept where nothing is placed and nothing is logged: a refusal, a wait, an update's begin, a settle, and whoever ends
-- without a commit.
use Prim.Native.Nat.{ℕ, ◌+◌, ◌*◌, ◌≤◌, ◌<◌}
use mathlib.Core.Path.{◌≡◌, refl, sym, ap, ◌∙◌, subst}
use mathlib.Core.Logic.{◌≢◌, ◌⊎◌, inl, inr}
use mathlib.Core.Bool.{Bool, true, false, cond}
use mathlib.Core.List.{List}
use native.Mathlib.Omega.{arith}
use Rattle.rules.specs.Tables.{an_update, a_query, a_settled, a_relaxed}
use Rattle.rules.proofs.Tests.{true_is, same?}
use Rattle.history.specs.Happened.{Access}
use Rattle.history.specs.Serial.{Entry, one_by_one}
use Rattle.history.proofs.Plain.{zeros, agrees, final}
use Rattle.history.proofs.Replay.{Within, within-map, within_none, local_agrees}
use Rattle.history.proofs.Order.{all_map, below, below_same, array_at}
use Rattle.history.proofs.Invariant.{View, Fair, Row, Locks, Sees, Pending, Free, Own, Slot, Inv, settled}
use Rattle.history.proofs.Turns.{Same, New, Left, Settles}
use Rattle.history.proofs.Kept.{Unmoved, slot_kept, clear_kept, free-kept}

-- an update names only what it holds, so nothing that one past its writing holds
pub pending_free :
    (items : ℕ) (W : View) → Fair items W → (r s : ℕ) (l : List Access) → r ≢ s → Pending items W s l → Within (Free items W r) l
pending_free items W F r s l d p = within-map _ _ (λ x h. (h.0, λ w. F.alone r s x h.0 d w h.1)) l p.within

module _ (items : ℕ) (es : List Entry) (log : ℕ → List Access) (W W' : View) (F : Fair items W) (J : Inv items es log W) where
  -- a clock that moves on sees the same
  pub top : (q : ℕ) → 2 * W.clock + 2 ≤ q → below q es ≡ below (2 * W.clock + 2) es
  top q l = below_same q (2 * W.clock + 2) es (all_map _ _ (λ p n h. (λ z. omega arith, λ z. omega arith)) es J.most)

  pub top_array : (q : ℕ) → 2 * W.clock + 2 ≤ q → (x : ℕ) → x < items → array_at q es log x ≡ W.current x
  top_array q l x b = ap (λ (ns : List ℕ). final (one_by_one log ns) zeros x) (top q l) ∙ J.now x b

  same_step :
      ((x : ℕ) → x < items → W'.current x ≡ W.current x) → W.last ≤ W'.last → W.clock ≤ W'.clock
      → ((s : ℕ) → W'.alive s → Slot items es log W' s)
      → ((s r : ℕ) → settled W' s → settled W' r → W'.start s < W'.start r → Within (Free items W' s) (log (W'.number r)))
      → Inv items es log W'
  same_step cur last clk slots clear =
      record {
        sorted = J.sorted;
        most = all_map _ _ (λ p n h. omega arith) es J.most;
        told = J.told;
        still = J.still;
        now = λ x b. top_array (2 * W'.clock + 2) (omega arith) x b ∙ sym (cur x b);
        named = J.named;
        once = J.once;
        unplaced = λ n h. J.unplaced n (omega arith);
        unlogged = λ n h. J.unlogged n (omega arith);
        slots = slots;
        clear = clear;
      }

  unmoved : (r : ℕ) → ((x : ℕ) → x < items → W'.current x ≡ W.current x) → Unmoved items es es log log W W' r
  unmoved r cur =
      record {
        log_is = refl;
        absent = λ h. h;
        current = λ x b h. cur x b;
        arrays = λ p l. refl;
        vacant = λ k h. h;
        clear = λ k h. h;
        placed = λ k h. h;
      }

  -- ---- who lives afterwards is as before
  kept_step :
      ((r : ℕ) → W'.alive r → Row W W' r) → ((r : ℕ) → W'.alive r → Locks items W W' r) → ((r : ℕ) → W'.alive r → Sees items W W' r)
      → ((x : ℕ) → x < items → W'.current x ≡ W.current x) → W'.last ≡ W.last → W'.clock ≡ W.clock → Inv items es log W'
  kept_step rows locks sees cur last clk =
      same_step cur (omega arith) (omega arith)
      (λ r a.
      let R = rows r a in
      slot_kept items es es log log W W' F r R (locks r a) (R.was a) (unmoved r cur) (sees r a) (J.slots r (R.was a)))
      (λ s r a b l. clear_kept items log log W W' s r (rows s a.0) (rows r b.0) (locks s a.0) refl (J.clear s r) a b l)

  pub quiet_step : Same items W W' → Inv items es log W'
  quiet_step A = kept_step (λ r a. A.rows r) (λ r a. A.locks r) (λ r a. A.sees r) A.current A.last A.clock

  pub left_step :
      (s : ℕ) → Left items W W' s → ((r : ℕ) → r ≢ s → Sees items W W' r) → ((x : ℕ) → x < items → W'.current x ≡ W.current x)
      → W'.clock ≡ W.clock → Inv items es log W'
  left_step s L sees cur clk =
      kept_step (λ r a. L.rows r (stays r a)) (λ r a. L.locks r (stays r a)) (λ r a. sees r (stays r a)) cur L.last clk
    where
      stays : (r : ℕ) → W'.alive r → r ≢ s
      stays r a e = L.gone (subst (λ (m : ℕ). W'.alive m) e a)

  -- ---- an update begins, in slot s, or a relaxed query
  module _ (s : ℕ) (B : New items W W' s) (k : (W'.kind s ≡ an_update) ⊎ (W'.kind s ≡ a_relaxed)) (free : (x : ℕ) → x < items → W'.writes s x ≡ false) where
    new : W.last < W'.number s
    new = omega (arith, B.number)

    not_settled : W'.kind s ≢ a_settled
    not_settled z = go k
      where
        go : (W'.kind s ≡ an_update) ⊎ (W'.kind s ≡ a_relaxed) → ⊥
        go (inl e) = omega arith
        go (inr e) = omega arith

    not_query : W'.kind s ≢ a_query
    not_query z = go k
      where
        go : (W'.kind s ≡ an_update) ⊎ (W'.kind s ≡ a_relaxed) → ⊥
        go (inl e) = omega arith
        go (inr e) = omega arith

    no_reader : W'.kind s ≢ an_update → W'.kind s ≢ a_relaxed → ⊥
    no_reader z j = go k
      where
        go : (W'.kind s ≡ an_update) ⊎ (W'.kind s ≡ a_relaxed) → ⊥
        go (inl e) = z e
        go (inr e) = j e

    new_slot : Slot items es log W' s
    unfolding agrees final
    new_slot =
        record {
          waiting = λ z. J.unplaced (W'.number s) new;
          ends = λ z a x b. rw (J.unlogged (W'.number s) new, free x b);
          pending = λ z. rw (J.unlogged (W'.number s) new) (record { within = within_none _; reads = tt });
          own = λ z. absurd (not_settled z);
          snapped = λ z j. absurd (no_reader z j);
          placed = λ z. absurd (not_query z);
        }

    other : (r : ℕ) → settled W' r → r ≢ s
    other r a e = not_settled (sym (ap W'.kind e) ∙ a.1)

    pub begin_unplaced_step : Inv items es log W'
    begin_unplaced_step =
        same_step B.current (let l = B.last in omega arith) (let c = B.clock in omega arith) (λ r a. go r a (same? r s))
        (λ q r a b l. clear_kept items log log W W' q r (B.rows q (other q a)) (B.rows r (other r b)) (B.locks q (other q a)) refl (J.clear q r) a b l)
      where
        go : (r : ℕ) → W'.alive r → (r ≡ s) ⊎ (r ≢ s) → Slot items es log W' r
        go r a (inl e) = subst (λ (m : ℕ). Slot items es log W' m) (sym e) new_slot
        go r a (inr d) =
            let R = B.rows r d in
            slot_kept items es es log log W W' F r R (B.locks r d) (R.was a) (unmoved r B.current) (B.sees r d) (J.slots r (R.was a))

  -- ---- the update in slot s ends its writing: its place is behind all who stand there, where the array is the newest values
  module _ (s : ℕ) (B : Settles items W W' s) where
    abbrev P : Pending items W s (log (W.number s))
    P = (J.slots s B.update.0).pending B.update.1

    at_place : (x : ℕ) → x < items → array_at (2 * (W.clock + 1)) es log x ≡ W.current x
    at_place = top_array (2 * (W.clock + 1)) (omega arith)

    working_on : (x : ℕ) → x < items → (c : ℕ) → cond (W.writes s x) (W.working x) c ≡ cond (W'.writes s x) (W'.working x) c
    working_on x b c = rw (B.writes_on x b) (go (W.writes s x) refl)
      where
        go : (z : Bool) → W.writes s x ≡ z → cond z (W.working x) c ≡ cond z (W'.working x) c
        go true e = sym (B.working_on x b (true_is e))
        go false e = refl

    settled_own : Own items es log W' s
    settled_own =
        record {
          vacant = rw B.start (all_map _ _ (λ p n h z. omega arith) es J.most);
          reads =
              rw (B.number, B.start)
              (local_agrees (λ x. x < items) (log (W.number s)) W.current (array_at (2 * (W.clock + 1)) es log) (λ y b. sym (at_place y b)) (J.named (W.number s))
              P.reads);
          clear = rw B.start (all_map _ _ (λ p n h l. absurd (omega arith)) es J.most);
        }

    settled-slot : Slot items es log W' s
    settled-slot =
        record {
          waiting = λ z. rw B.number ((J.slots s B.update.0).waiting (λ q. let k = B.update.1 in omega arith));
          ends = λ z a x b.
              rw B.number ((J.slots s B.update.0).ends (λ q. let k = B.update.1 in omega arith) a x b ∙ working_on x b (a x));
          pending = λ z. absurd (let k = B.kind in omega arith);
          own = λ z. settled_own;
          snapped = λ z j x b. rw B.start (top_array (2 * (W.clock + 1) + 1) (omega arith) x b ∙ sym (B.snapshot x b));
          placed = λ z. absurd (let k = B.kind in omega arith);
        }

    pub settle_step : Inv items es log W'
    settle_step =
        same_step B.current (let l = B.last in omega arith) (let c = B.clock in omega arith) (λ r a. go r a (same? r s))
        (λ q r a b l. clear q r a b l (same? q s) (same? r s))
      where
        go : (r : ℕ) → W'.alive r → (r ≡ s) ⊎ (r ≢ s) → Slot items es log W' r
        go r a (inl e) = subst (λ (m : ℕ). Slot items es log W' m) (sym e) settled-slot
        go r a (inr d) =
            let R = B.rows r d in
            slot_kept items es es log log W W' F r R (B.locks r d) (R.was a) (unmoved r B.current) (B.sees r d) (J.slots r (R.was a))

        clear :
            (q r : ℕ) → settled W' q → settled W' r → W'.start q < W'.start r → (q ≡ s) ⊎ (q ≢ s) → (r ≡ s) ⊎ (r ≢ s)
            → Within (Free items W' q) (log (W'.number r))
        -- its stamp is above all others
        clear q r a b l (inl e) (inl f) = absurd (let z : W'.start q ≡ W'.start r = ap W'.start (e ∙ sym f) in omega arith)
        clear q r a b l (inl e) (inr d) =
            absurd
            (let R = B.rows r d in
            let z : W'.start q ≡ W'.start s = ap W'.start e in
            let c = B.start in
            let m = F.low r (R.was b.0, λ k. let i = R.kind_is in let j = b.1 in omega arith, λ k. let i = R.kind_is in let j = b.1 in omega arith) in
            let o = R.start_is in
            omega arith)
        -- and it names only what it held
        clear q r a b l (inr d) (inl f) =
            rw (f, B.number)
            (free-kept items W W' q (B.locks q d) _ (pending_free items W F q s (log (W.number s)) d P))
        clear q r a b l (inr d) (inr c) = clear_kept items log log W W' q r (B.rows q d) (B.rows r c) (B.locks q d) refl (J.clear q r) a b l
