-- The invariant is kept where somebody is placed behind all others: a query at its begin, an update at its commit, with a stamp of its own or
-- (request E7) without one.
use Prim.Native.Nat.{ℕ, ◌+◌, ◌*◌, ◌≤◌, ◌<◌}
use mathlib.Core.Path.{◌≡◌, refl, sym, ap, ◌∙◌, subst, fun_ext}
use mathlib.Core.Logic.{◌≢◌, ◌⊎◌, inl, inr}
use mathlib.Core.Bool.{Bool, true, false, cond}
use mathlib.Core.List.{List, [], ◌∷◌, ◌++◌}
use native.Mathlib.Omega.{arith}
use lib.Dec.{T, ltb}
use borrow.Author.Tests.{ltb-true, ltb-false}
use Rattle.rules.specs.Tables.{an_update, a_settled}
use Rattle.rules.proofs.Tests.{true_is, same?}
use Rattle.history.specs.Happened.{Access}
use Rattle.history.specs.Serial.{Entry, insert, one_by_one, Absent, numbers_of}
use Rattle.history.proofs.Plain.{Array, zeros, agrees, final}
use Rattle.history.proofs.Replay.{Within, within_none, local_agrees, local_final, untouched, final-append, all_more}
use Rattle.history.proofs.Order.{All, all_map, all_both, all_insert, absent_all, absent_insert, once-insert, sorted_insert, below, below_insert, below_last}
use Rattle.history.proofs.Order.{array_at, skip_odd}
use Rattle.history.proofs.Invariant.{View, Fair, Sees, Pending, Free, Slot, Inv, settled, query}
use Rattle.history.proofs.Turns.{New, Left}
use Rattle.history.proofs.Kept.{Unmoved, slot_kept, clear_kept}
use Rattle.history.proofs.Steps.{pending_free, top, top_array}

module _ (items : ℕ) (es : List Entry) (log : ℕ → List Access) (W W' : View) (F : Fair items W) (J : Inv items es log W) where
  -- ---- the entry e comes behind all others
  module _ (e : Entry) (behind : 2 * W.clock + 1 ≤ e.place) where
    -- the array at a place that was there is as before
    arrays : (p : ℕ) → p ≤ 2 * W.clock + 1 → array_at p (insert e es) log ≡ array_at p es log
    arrays p l = ap (λ (ns : List ℕ). final (one_by_one log ns) zeros) (below_insert p e (omega arith) es)

    -- what all see: the newest values, and then what e does
    whole : (q : ℕ) → e.place < q → 2 * W.clock + 2 ≤ q → array_at q (insert e es) log ≡ final (log e.number) (array_at (2 * W.clock + 2) es log)
    whole q l m =
        ap (λ (ns : List ℕ). final (one_by_one log ns) zeros)
        (below_last q e l es (all_map _ _ (λ p n h. omega arith) es J.most) ∙ ap (λ (ns : List ℕ). ns ++ (e.number ∷ [])) (top items es log W W' F J q m))
        ∙ ap (λ (k : List Access). final k zeros) (all_more log (below (2 * W.clock + 2) es) e.number)
        ∙ final-append (one_by_one log (below (2 * W.clock + 2) es)) (log e.number) zeros

    told_on : T (agrees (log e.number) (array_at e.place es log)) → All (λ p n. T (agrees (log n) (array_at p (insert e es) log))) (insert e es)
    told_on h =
        all_insert _ e
        (subst (λ (a : Array). T (agrees (log e.number) a)) (sym (ap (λ (ns : List ℕ). final (one_by_one log ns) zeros) (below_insert e.place e (omega arith) es))) h)
        es (all_both _ _ _ (λ p n l t. subst (λ (a : Array). T (agrees (log n) a)) (sym (arrays p l)) t) es J.most J.told)

    unmoved :
        (r : ℕ) → e.number ≢ W.number r → (W.kind r ≡ a_settled → e.place ≢ 2 * W.start r)
        → (W.kind r ≡ a_settled → Within (Free items W r) (log e.number))
        → ((x : ℕ) → x < items → T (W.holds r x) → W'.current x ≡ W.current x) → Unmoved items es (insert e es) log log W W' r
    unmoved r d v w cur =
        record {
          log_is = refl;
          absent = λ h. absent_insert (W.number r) e d es h;
          current = cur;
          arrays = arrays;
          vacant = λ k h. all_insert _ e (v k) es h;
          clear = λ k h. all_insert _ e (λ l. w k) es h;
          placed = λ k h. all_insert _ e (λ z. absurd (d z)) es h;
        }

  -- behind all updates with stamps up to the clock are the newest values
  newest : (x : ℕ) → x < items → array_at (2 * W.clock + 1) es log x ≡ W.current x
  newest x b = sym (ap (λ (a : Array). a x) (skip_odd log (2 * W.clock + 1) (omega arith) es zeros J.still)) ∙ top_array items es log W W' F J (2 * W.clock + 1 + 1) (omega arith) x b

  -- ---- a query begins, in slot s
  module _ (s : ℕ) (B : New items W W' s) (q : query W' s) (st : W'.start s ≡ W.clock) (sees : (x : ℕ) → x < items → W'.snapshot s x ≡ W.current x) where
    abbrev e : Entry
    e = record { place = 2 * W.clock + 1; number = W'.number s }

    new : W.last < W'.number s
    new = omega (arith, B.number)

    empty : log (W'.number s) ≡ []
    empty = J.unlogged (W'.number s) new

    nowhere : Absent (W'.number s) (numbers_of es)
    nowhere = J.unplaced (W'.number s) new

    query-slot : Slot items (insert e es) log W' s
    query-slot =
        record {
          waiting = λ z. absurd (z q.1);
          ends = λ z. absurd (z q.1);
          pending = λ z. absurd (let k = q.1 in omega arith);
          own = λ z. absurd (let k = q.1 in omega arith);
          snapped = λ z j x b.
              rw st
              (ap (λ (a : Array). a x) (arrays e (omega arith) (2 * W.clock + 1) (omega arith)) ∙ newest x b ∙ sym (sees x b));
          placed = λ z.
              rw st
              (all_insert (λ p n. n ≡ W'.number s → p ≡ 2 * W.clock + 1) e (λ i. refl) es
              (all_map _ _ (λ p n d i. absurd (d i)) es (absent_all (W'.number s) es nowhere)));
        }

    pub begin_query_step : Inv items (insert e es) log W'
    unfolding agrees final
    begin_query_step =
        record {
          sorted = sorted_insert e es J.sorted (inl (omega arith));
          most = let c = B.clock in all_insert (λ p n. p ≤ 2 * W'.clock + 1) e (omega arith) es (all_map _ _ (λ p n h. omega arith) es J.most);
          told = told_on e (omega arith) (rw empty tt);
          still = all_insert _ e (λ o a. rw empty) es J.still;
          now = λ x b.
              let c = B.clock in
              ap (λ (a : Array). a x) (whole e (omega arith) (2 * W'.clock + 2) (omega arith) (omega arith))
              ∙ rw empty (J.now x b ∙ sym (B.current x b));
          named = J.named;
          once = once-insert e es J.once nowhere;
          unplaced = λ n h. let l = B.last in absent_insert n e (λ z. let m = B.number in omega arith) es (J.unplaced n (omega arith));
          unlogged = λ n h. let l = B.last in J.unlogged n (omega arith);
          slots = λ r a. go r a (same? r s);
          clear = λ p r a b l. clear_kept items log log W W' p r (B.rows p (other p a)) (B.rows r (other r b)) (B.locks p (other p a)) refl (J.clear p r) a b l;
        }
      where
        other : (r : ℕ) → settled W' r → r ≢ s
        other r a f = let z : W'.kind r ≡ W'.kind s = ap W'.kind f in let b = a.1 in let k = q.1 in omega arith

        go : (r : ℕ) → W'.alive r → (r ≡ s) ⊎ (r ≢ s) → Slot items (insert e es) log W' r
        go r a (inl f) = subst (λ (m : ℕ). Slot items (insert e es) log W' m) (sym f) query-slot
        go r a (inr d) =
            let R = B.rows r d in
            slot_kept items es (insert e es) log log W W' F r R (B.locks r d) (R.was a)
            (unmoved e (omega arith) r (λ z. let k = F.known r (R.was a) in let z' : W'.number s ≡ W.number r = z in omega (arith, new)) (λ k z. omega arith) (λ k. rw empty (within_none _)) (λ x b h. B.current x b))
            (B.sees r d) (J.slots r (R.was a))

  -- ---- an update commits, in slot s
  module _
      (s : ℕ) (k : W.kind s ≡ an_update) (L : Left items W W' s) (sees : (r : ℕ) → r ≢ s → Sees items W W' r)
      (cur : (x : ℕ) → x < items → W'.current x ≡ cond (W.writes s x) (W.working x) (W.current x)) (clk : W'.clock ≡ W.clock + 1)
    where
      abbrev E : Entry
      E = record { place = 2 * (W.clock + 1); number = W.number s }

      abbrev P : Pending items W s (log (W.number s))
      P = (J.slots s L.alive).pending k

      absent : Absent (W.number s) (numbers_of es)
      absent = (J.slots s L.alive).waiting (λ z. omega arith)

      at_place : (x : ℕ) → x < items → array_at (2 * (W.clock + 1)) es log x ≡ W.current x
      at_place = top_array items es log W W' F J (2 * (W.clock + 1)) (omega arith)

      still : (r : ℕ) → r ≢ s → (x : ℕ) → x < items → T (W.holds r x) → W'.current x ≡ W.current x
      still r d x b h = go (W.writes s x) refl
        where
          go : (w : Bool) → W.writes s x ≡ w → W'.current x ≡ W.current x
          go true f = absurd (F.alone s r x b (λ z. d (sym z)) (true_is f) h)
          go false f = cur x b ∙ rw f

      stays : (r : ℕ) → W'.alive r → r ≢ s
      stays r a f = L.gone (subst (λ (m : ℕ). W'.alive m) f a)

      pub commit-step : Inv items (insert E es) log W'
      commit-step =
          record {
            sorted = sorted_insert E es J.sorted (inr (all_map _ _ (λ p n h z. omega arith) es J.most));
            most = all_insert (λ p n. p ≤ 2 * W'.clock + 1) E (omega arith) es (all_map _ _ (λ p n h. omega arith) es J.most);
            told =
                told_on E (omega arith)
                (local_agrees (λ x. x < items) (log (W.number s)) W.current (array_at (2 * (W.clock + 1)) es log) (λ y b. sym (at_place y b)) (J.named (W.number s)) P.reads);
            still = all_insert _ E (λ o. absurd (omega arith)) es J.still;
            now = λ x b.
                ap (λ (a : Array). a x) (whole E (omega arith) (2 * W'.clock + 2) (omega arith) (omega arith))
                ∙ local_final (λ x. x < items) (log (W.number s)) (array_at (2 * W.clock + 2) es log) W.current J.now x b
                ∙ (J.slots s L.alive).ends (λ z. omega arith) W.current x b ∙ sym (cur x b);
            named = J.named;
            once = once-insert E es J.once absent;
            unplaced = λ n h.
                let l = L.last in
                absent_insert n E (λ z. let m = F.known s L.alive in let z' : W.number s ≡ n = z in omega arith) es (J.unplaced n (omega arith));
            unlogged = λ n h. let l = L.last in J.unlogged n (omega arith);
            slots = λ r a. go r a (stays r a);
            clear = λ p r a b l.
                let d = stays p a.0 in
                clear_kept items log log W W' p r (L.rows p d) (L.rows r (stays r b.0)) (L.locks p d) refl (J.clear p r) a b l;
          }
        where
          go : (r : ℕ) → W'.alive r → r ≢ s → Slot items (insert E es) log W' r
          go r a d =
              let R = L.rows r d in
              slot_kept items es (insert E es) log log W W' F r R (L.locks r d) (R.was a)
              (unmoved E (omega arith) r (F.apart s r L.alive (R.was a) (λ z. d (sym z)))
              (λ k z. let l = F.low r (R.was a, λ i. omega arith, λ i. omega arith) in let z' : 2 * (W.clock + 1) ≡ 2 * W.start r = z in omega arith)
              (λ k. pending_free items W F r s (log (W.number s)) d P) (still r d))
              (sees r d) (J.slots r (R.was a))

  -- ---- an update that holds nothing exclusively commits, in slot s: it stands where a query would that begins now
  module _
      (s : ℕ) (k : W.kind s ≡ an_update) (none : (x : ℕ) → x < items → W.writes s x ≡ false) (L : Left items W W' s)
      (sees : (r : ℕ) → r ≢ s → Sees items W W' r) (cur : (x : ℕ) → x < items → W'.current x ≡ W.current x) (clk : W'.clock ≡ W.clock)
    where
      abbrev D : Entry
      D = record { place = 2 * W.clock + 1; number = W.number s }

      abbrev N : Pending items W s (log (W.number s))
      N = (J.slots s L.alive).pending k

      outside : Absent (W.number s) (numbers_of es)
      outside = (J.slots s L.alive).waiting (λ z. omega arith)

      -- it changes nothing
      idle : (a : Array) → final (log (W.number s)) a ≡ a
      idle a = fun_ext (λ x. go x (ltb x items) refl)
        where
          go : (x : ℕ) (c : Bool) → ltb x items ≡ c → final (log (W.number s)) a x ≡ a x
          go x true e = let b = ltb-true x items e in (J.slots s L.alive).ends (λ z. omega arith) a x b ∙ rw (none x b)
          go x false e = untouched (λ y. y < items) (log (W.number s)) a (J.named (W.number s)) x (λ b. let l = ltb-false x items e in omega arith)

      remains : (r : ℕ) → W'.alive r → r ≢ s
      remains r a f = L.gone (subst (λ (m : ℕ). W'.alive m) f a)

      pub empty_commit_step : Inv items (insert D es) log W'
      empty_commit_step =
          record {
            sorted = sorted_insert D es J.sorted (inl (omega arith));
            most = all_insert (λ p n. p ≤ 2 * W'.clock + 1) D (omega arith) es (all_map _ _ (λ p n h. omega arith) es J.most);
            told =
                told_on D (omega arith)
                (local_agrees (λ x. x < items) (log (W.number s)) W.current (array_at (2 * W.clock + 1) es log) (λ y b. sym (newest y b)) (J.named (W.number s)) N.reads);
            still = all_insert _ D (λ o. idle) es J.still;
            now = λ x b.
                ap (λ (a : Array). a x) (whole D (omega arith) (2 * W'.clock + 2) (omega arith) (omega arith) ∙ idle _) ∙ J.now x b ∙ sym (cur x b);
            named = J.named;
            once = once-insert D es J.once outside;
            unplaced = λ n h.
                let l = L.last in
                absent_insert n D (λ z. let m = F.known s L.alive in let z' : W.number s ≡ n = z in omega arith) es (J.unplaced n (omega arith));
            unlogged = λ n h. let l = L.last in J.unlogged n (omega arith);
            slots = λ r a. go r a (remains r a);
            clear = λ p r a b l.
                let d = remains p a.0 in
                clear_kept items log log W W' p r (L.rows p d) (L.rows r (remains r b.0)) (L.locks p d) refl (J.clear p r) a b l;
          }
        where
          go : (r : ℕ) → W'.alive r → r ≢ s → Slot items (insert D es) log W' r
          go r a d =
              let R = L.rows r d in
              slot_kept items es (insert D es) log log W W' F r R (L.locks r d) (R.was a)
              (unmoved D (omega arith) r (F.apart s r L.alive (R.was a) (λ z. d (sym z))) (λ k z. omega arith)
              (λ k. pending_free items W F r s (log (W.number s)) d N) (λ x b h. cur x b))
              (sees r d) (J.slots r (R.was a))
