-- The invariant is kept where one past its writing commits: it comes to stand at its place, with others behind it. They name no item that
-- it holds, so for them nothing changes; whoever sees a place behind it sees its working values.
use Prim.Native.Nat.{ℕ, ◌+◌, ◌*◌, ◌≤◌, ◌<◌}
use mathlib.Core.Path.{◌≡◌, refl, sym, ap, ◌∙◌, subst}
use mathlib.Core.Logic.{◌≢◌, inr}
use mathlib.Core.Bool.{Bool, true, false, ◌&&◌, cond}
use mathlib.Core.List.{List}
use native.Mathlib.Omega.{arith}
use lib.Dec.{T, leb, ltb}
use borrow.Author.Tests.{leb-true, leb-false, ltb-true, ltb-false}
use Rattle.rules.specs.Tables.{an_update, a_settled, a_relaxed}
use Rattle.rules.proofs.Tests.{true_is, false_is, is_false}
use Rattle.history.specs.Happened.{Access}
use Rattle.history.specs.Serial.{Entry, insert, one_by_one, Absent, numbers_of}
use Rattle.history.proofs.Plain.{Array, zeros, agrees, final}
use Rattle.history.proofs.Replay.{Within, local_agrees}
use Rattle.history.proofs.Order.{all_map, all_both, all_insert, absent_insert, once-insert, sorted_insert, below_insert, array_at, insert_array}
use Rattle.history.proofs.Invariant.{View, Fair, Row, Locks, Free, Own, Slot, Inv, reader}
use Rattle.history.proofs.Turns.{Left}
use Rattle.history.proofs.Kept.{free-kept, chosen, pending_kept, clear_kept}

module _
    (items : ℕ) (es : List Entry) (log : ℕ → List Access) (W W' : View) (F : Fair items W) (J : Inv items es log W)
    (s : ℕ) (k : W.kind s ≡ a_settled) (L : Left items W W' s)
    (snap :
    (r x : ℕ) → r ≢ s → x < items → reader W' r
    → W'.snapshot r x ≡ cond (W.writes s x && leb (W.start s) (W.start r)) (W.working x) (W.snapshot r x))
    (cur : (x : ℕ) → x < items → W'.current x ≡ cond (W.writes s x) (W.working x) (W.current x)) (clk : W'.clock ≡ W.clock)
  where
    abbrev t : ℕ
    t = W.start s

    abbrev e : Entry
    e = record { place = 2 * t; number = W.number s }

    abbrev D : ℕ → Type 0
    D = Free items W s

    abbrev O : Own items es log W s
    O = (J.slots s L.alive).own k

    low : t ≤ W.clock
    low = F.low s (L.alive, λ z. omega arith, λ z. omega arith)

    ends : (a : Array) (x : ℕ) → x < items → final (log (W.number s)) a x ≡ cond (W.writes s x) (W.working x) (a x)
    ends = (J.slots s L.alive).ends (λ z. omega arith)

    absent : Absent (W.number s) (numbers_of es)
    absent = (J.slots s L.alive).waiting (λ z. omega arith)

    -- ---- the arrays: ahead of it as before; behind it as before, but for what it holds
    ahead : (q : ℕ) → q ≤ 2 * t → array_at q (insert e es) log ≡ array_at q es log
    ahead q l = ap (λ (ns : List ℕ). final (one_by_one log ns) zeros) (below_insert q e l es)

    unchanged : (y : ℕ) → D y → final (log (W.number s)) (array_at (2 * t) es log) y ≡ array_at (2 * t) es log y
    unchanged y d = ends (array_at (2 * t) es log) y d.0 ∙ rw (is_false (W.writes s y) d.1)

    behind :
        (q : ℕ) → 2 * t < q
        → ((y : ℕ) → D y → array_at q (insert e es) log y ≡ array_at q es log y)
        × ((y : ℕ) → (D y → ⊥) → array_at q (insert e es) log y ≡ final (log (W.number s)) (array_at (2 * t) es log) y)
    behind q l = insert_array D log e q l es zeros J.sorted O.vacant O.clear unchanged

    after : (q : ℕ) → 2 * t < q → (x : ℕ) → x < items → array_at q (insert e es) log x ≡ cond (W.writes s x) (W.working x) (array_at q es log x)
    after q l x b = go (W.writes s x) refl
      where
        go : (w : Bool) → W.writes s x ≡ w → array_at q (insert e es) log x ≡ cond w (W.working x) (array_at q es log x)
        go true f = (behind q l).1 x (λ d. d.1 (true_is f)) ∙ ends (array_at (2 * t) es log) x b ∙ rw f
        go false f = (behind q l).0 x (b, false_is f)

    -- what names nothing that it holds agrees as before
    agrees_on : (q : ℕ) (l : List Access) → (2 * t < q → Within D l) → T (agrees l (array_at q es log)) → T (agrees l (array_at q (insert e es) log))
    agrees_on q l w h = go (ltb (2 * t) q) refl
      where
        go : (b : Bool) → ltb (2 * t) q ≡ b → T (agrees l (array_at q (insert e es) log))
        go true f =
            let m : 2 * t < q = ltb-true (2 * t) q f in
            local_agrees D l (array_at q es log) (array_at q (insert e es) log) (λ y d. sym ((behind q m).0 y d)) (w m) h
        go false f = subst (λ (a : Array). T (agrees l a)) (sym (ahead q (ltb-false (2 * t) q f))) h

    -- ---- the others
    module _ (r : ℕ) (d : r ≢ s) (a : W.alive r) where
      abbrev R : Row W W' r
      R = L.rows r d

      abbrev K : Locks items W W' r
      K = L.locks r d

      abbrev old : Slot items es log W r
      old = J.slots r a

      other : W.number s ≢ W.number r
      other = F.apart s r L.alive a (λ z. d (sym z))

      still : (x : ℕ) → x < items → T (W.holds r x) → W'.current x ≡ W.current x
      still x b h = go (W.writes s x) refl
        where
          go : (w : Bool) → W.writes s x ≡ w → W'.current x ≡ W.current x
          go true f = absurd (F.alone s r x b (λ z. d (sym z)) (true_is f) h)
          go false f = cur x b ∙ rw f

      -- another past its writing
      module _ (i : W.kind r ≡ a_settled) where
        abbrev o : Own items es log W r
        o = old.own i

        abbrev l : List Access
        l = log (W.number r)

        apart : t ≢ W.start r
        apart = F.stamps-apart s r (L.alive, k) (a, i) (λ z. d (sym z))

        names : 2 * t < 2 * W.start r → Within D l
        names m = J.clear s r (L.alive, k) (a, i) (omega arith)

        own_on : Own items (insert e es) log W' r
        own_on =
            record {
              vacant = rw R.start_is (all_insert (λ p n. p ≢ 2 * W.start r) e (λ z. apart (let z' : 2 * t ≡ 2 * W.start r = z in omega arith)) es o.vacant);
              reads = rw (R.start_is, R.number_is) (agrees_on (2 * W.start r) l names o.reads);
              clear =
                  rw R.start_is
                  (all_map (λ p n. 2 * W.start r < p → Within (Free items W r) (log n)) _ (λ p n h m. free-kept items W W' r K _ (h m)) (insert e es)
                  (all_insert (λ p n. 2 * W.start r < p → Within (Free items W r) (log n)) e (λ m. J.clear r s (a, i) (L.alive, k) (let m' : 2 * W.start r < 2 * t = m in omega arith)) es o.clear));
            }

      -- what it sees
      snapped_on : W'.alive r → W'.kind r ≢ an_update → W'.kind r ≢ a_relaxed → (x : ℕ) → x < items → array_at (2 * W.start r + 1) (insert e es) log x ≡ W'.snapshot r x
      snapped_on a' j i x b = go (leb t (W.start r)) refl ∙ sym (snap r x d b (a', j, i))
        where
          seen : array_at (2 * W.start r + 1) es log x ≡ W.snapshot r x
          seen = old.snapped (λ z. j (R.kind_is ∙ z)) (λ z. i (R.kind_is ∙ z)) x b

          both : (w : Bool) → cond w (W.working x) (W.snapshot r x) ≡ cond (w && true) (W.working x) (W.snapshot r x)
          both true = refl
          both false = refl

          neither : (w : Bool) → W.snapshot r x ≡ cond (w && false) (W.working x) (W.snapshot r x)
          neither true = refl
          neither false = refl

          go : (z : Bool) → leb t (W.start r) ≡ z → array_at (2 * W.start r + 1) (insert e es) log x ≡ cond (W.writes s x && z) (W.working x) (W.snapshot r x)
          go true f =
              let m = leb-true t (W.start r) f in
              after (2 * W.start r + 1) (omega arith) x b ∙ ap (cond (W.writes s x) (W.working x)) seen ∙ both (W.writes s x)
          go false f =
              let m = leb-false t (W.start r) f in
              ap (λ (a : Array). a x) (ahead (2 * W.start r + 1) (omega arith)) ∙ seen ∙ neither (W.writes s x)

      other-slot : W'.alive r → Slot items (insert e es) log W' r
      other-slot a' =
          record {
            waiting = λ j. rw R.number_is (absent_insert (W.number r) e other es (old.waiting (λ z. j (R.kind_is ∙ z))));
            ends = λ j c x b. rw R.number_is (old.ends (λ z. j (R.kind_is ∙ z)) c x b ∙ chosen items W W' r K x b (c x));
            pending = λ j.
                rw R.number_is
                (pending_kept items W W' r K (log (W.number r)) still (old.pending (sym R.kind_is ∙ j)));
            own = λ j. own_on (sym R.kind_is ∙ j);
            snapped = λ j i x b. rw R.start_is (snapped_on a' j i x b);
            placed = λ j.
                rw (R.start_is, R.number_is)
                (all_insert (λ p n. n ≡ W.number r → p ≡ 2 * W.start r + 1) e (λ z. absurd (other z)) es (old.placed (sym R.kind_is ∙ j)));
          }

    stays : (r : ℕ) → W'.alive r → r ≢ s
    stays r a f = L.gone (subst (λ (m : ℕ). W'.alive m) f a)

    pub settled-commit-step : Inv items (insert e es) log W'
    settled-commit-step =
        record {
          sorted = sorted_insert e es J.sorted (inr O.vacant);
          most = all_insert (λ p n. p ≤ 2 * W'.clock + 1) e (let l = low in omega arith) es (all_map _ _ (λ p n h. omega arith) es J.most);
          told =
              all_insert (λ p n. T (agrees (log n) (array_at p (insert e es) log))) e
              (subst (λ (a : Array). T (agrees (log (W.number s)) a)) (sym (ahead (2 * t) (omega arith))) O.reads) es
              (all_both _ _ _ (λ p n w h. agrees_on p (log n) w h) es O.clear J.told);
          still = all_insert _ e (λ o. absurd (omega arith)) es J.still;
          now = λ x b.
              rw clk
              (after (2 * W.clock + 2) (let l = low in omega arith) x b ∙ ap (cond (W.writes s x) (W.working x)) (J.now x b) ∙ sym (cur x b));
          named = J.named;
          once = once-insert e es J.once absent;
          unplaced = λ n h.
              let l = L.last in
              absent_insert n e (λ z. let m = F.known s L.alive in let z' : W.number s ≡ n = z in omega arith) es (J.unplaced n (omega arith));
          unlogged = λ n h. let l = L.last in J.unlogged n (omega arith);
          slots = λ r a. let d = stays r a in other-slot r d ((L.rows r d).was a) a;
          clear = λ p r a b l.
              let d = stays p a.0 in
              clear_kept items log log W W' p r (L.rows p d) (L.rows r (stays r b.0)) (L.locks p d) refl (J.clear p r) a b l;
        }
