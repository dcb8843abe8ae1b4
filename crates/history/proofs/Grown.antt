-- The invariant is kept where the log of the caller grows by one access: every granted read and write.
use Prim.Native.Nat.{ℕ, ◌+◌, ◌*◌, ◌≤◌, ◌<◌, ◌%◌}
use mathlib.Core.Path.{◌≡◌, sym, ap, ◌∙◌, subst}
use mathlib.Core.Logic.{◌≢◌, ◌⊎◌, inl, inr}
use mathlib.Core.Bool.{false, cond}
use mathlib.Core.List.{List, [], ◌∷◌, ◌++◌}
use native.Mathlib.Omega.{arith}
use lib.Dec.{T}
use Rattle.rules.specs.Tables.{an_update, a_query, a_settled, a_relaxed}
use Rattle.rules.proofs.Tests.{is_true, is_false, same?}
use Rattle.history.specs.Happened.{Access, got, put}
use Rattle.history.specs.Serial.{Entry, one_by_one, Absent, numbers_of}
use Rattle.history.proofs.Plain.{Array, zeros, agrees, final}
use Rattle.history.proofs.Replay.{Within, within-map, within-append, within-got, within-put, within_added, local_agrees, final-append, agrees-append, agrees-got}
use Rattle.history.proofs.Replay.{store_here, store_there, added, added_here, added_there, added_absent, final-read, final_all_read}
use Rattle.history.proofs.Order.{All, all_map, all_both, absent_all, below, below_same, below_absent, array_at, strictly}
use Rattle.history.proofs.Invariant.{View, Fair, Row, Locks, Sees, Pending, Free, Own, Slot, Inv, settled}
use Rattle.history.proofs.Turns.{Same, Puts}
use Rattle.history.proofs.Kept.{slot_kept, clear_kept, free-kept, chosen, pending_kept}

module _ (items : ℕ) (es : List Entry) (log : ℕ → List Access) (W W' : View) (F : Fair items W) (J : Inv items es log W) (s : ℕ) (alive : W.alive s) where
  abbrev n : ℕ
  n = W.number s

  abbrev old : Slot items es log W s
  old = J.slots s alive

  -- ---- the access c is granted, and leaves the rest as it was
  module _
      (c : Access) (named : Within (λ x. x < items) (c ∷ [])) (rows : (r : ℕ) → Row W W' r) (locks : (r : ℕ) → r ≢ s → Locks items W W' r)
      (sees : (r : ℕ) → Sees items W W' r) (cur : (x : ℕ) → x < items → W'.current x ≡ W.current x) (last : W'.last ≡ W.last)
      (clk : W'.clock ≡ W.clock)
    where
      abbrev log' : ℕ → List Access
      log' = added log n c

      abbrev Clear : ℕ → (ℕ → List Access) → Type 0
      Clear r k = All (λ p m. 2 * W.start r < p → Within (Free items W r) (k m)) es

      other_log : (r : ℕ) → r ≢ s → W.alive r → log' (W.number r) ≡ log (W.number r)
      other_log r d a = added_there log n c (W.number r) (F.apart r s a alive d)

      grown :
          ((p : ℕ) → array_at p es log' ≡ array_at p es log)
          → All (λ p m. T (agrees (log' m) (array_at p es log'))) es
          → All (λ p m. p % 2 ≡ 1 → (a : Array) → final (log' m) a ≡ a) es
          → ((r : ℕ) → r ≢ s → settled W r → Clear r log → Clear r log')
          → Slot items es log' W' s
          → ((r : ℕ) → r ≢ s → settled W r → settled W s → W.start r < W.start s → Within (Free items W r) (log' n))
          → (settled W s → (y : ℕ) → y < items → T (W'.writes s y) → T (W.writes s y))
          → Inv items es log' W'
      grown arrays told still clear mine ahead fewer =
          record {
            sorted = J.sorted;
            most = all_map _ _ (λ p m h. omega arith) es J.most;
            told = told;
            still = still;
            now = λ x b. rw clk (ap (λ (a : Array). a x) (arrays (2 * W.clock + 2)) ∙ J.now x b ∙ sym (cur x b));
            named = within_added (λ y. y < items) log n c J.named named;
            once = J.once;
            unplaced = λ m h. J.unplaced m (omega arith);
            unlogged = λ m h. added_there log n c m (λ z. let k = F.known s alive in omega arith) ∙ J.unlogged m (omega arith);
            slots = λ r a. slot r a (same? r s);
            clear = λ q r a b l. pair q r a b l (same? q s) (same? r s);
          }
        where
          slot : (r : ℕ) → W'.alive r → (r ≡ s) ⊎ (r ≢ s) → Slot items es log' W' r
          slot r a (inl e) = subst (λ (m : ℕ). Slot items es log' W' m) (sym e) mine
          slot r a (inr d) =
              let a' = (rows r).was a in
              slot_kept items es es log log' W W' F r (rows r) (locks r d) a'
              (record {
                log_is = other_log r d a';
                absent = λ h. h;
                current = λ x b h. cur x b;
                arrays = λ p l. arrays p;
                vacant = λ k h. h;
                clear = λ k h. clear r d (a', k) h;
                placed = λ k h. h;
              })
              (sees r) (J.slots r a')

          was : (r : ℕ) → settled W' r → settled W r
          was r a = ((rows r).was a.0, sym (rows r).kind_is ∙ a.1)

          pair :
              (q r : ℕ) → settled W' q → settled W' r → W'.start q < W'.start r → (q ≡ s) ⊎ (q ≢ s) → (r ≡ s) ⊎ (r ≢ s)
              → Within (Free items W' q) (log' (W'.number r))
          pair q r a b l (inl e) (inl f) = absurd (let z : W'.start q ≡ W'.start r = ap W'.start (e ∙ sym f) in omega arith)
          pair q r a b l (inl e) (inr d) =
              let a' = was q a in
              let b' = was r b in
              let h = J.clear q r a' b' (let p = (rows q).start_is in let o = (rows r).start_is in omega arith) in
              let keep : (y : ℕ) → Free items W q y → Free items W' q y =
              λ y g. (g.0, λ w. g.1 (subst (λ (m : ℕ). T (W'.writes m y) → T (W.writes m y)) (sym e) (fewer (subst (λ (m : ℕ). settled W m) e a') y g.0) w)) in
              rw ((rows r).number_is, other_log r d b'.0) (within-map _ _ keep _ h)
          pair q r a b l (inr d) (inl f) =
              let z : W.start q < W.start s =
              let p = (rows q).start_is in let o = (rows s).start_is in let g : W'.start r ≡ W'.start s = ap W'.start f in omega arith in
              rw (f, (rows s).number_is) (free-kept items W W' q (locks q d) _ (ahead q d (was q a) (subst (λ (m : ℕ). settled W m) f (was r b)) z))
          pair q r a b l (inr d) (inr g) =
              clear_kept items log log' W W' q r (rows q) (rows r) (locks q d) (other_log r g ((rows r).was b.0)) (J.clear q r) a b l

      -- ---- of an update, past its writing or not: it does not yet stand in the order
      module _ (writer : W.kind s ≢ a_query) where
        nowhere : Absent n (numbers_of es)
        nowhere = old.waiting writer

        arrays : (p : ℕ) → array_at p es log' ≡ array_at p es log
        arrays p = ap (λ (k : List Access). final k zeros) (added_absent log n c (below p es) (below_absent n p es nowhere))

        absent_grown :
            Slot items es log' W' s
            → ((r : ℕ) → r ≢ s → settled W r → settled W s → W.start r < W.start s → Within (Free items W r) (log' n))
            → (settled W s → (y : ℕ) → y < items → T (W'.writes s y) → T (W.writes s y))
            → Inv items es log' W'
        absent_grown =
            grown arrays
            (all_both (λ p m. m ≢ n) (λ p m. T (agrees (log m) (array_at p es log))) (λ p m. T (agrees (log' m) (array_at p es log')))
            (λ p m d h. rw (added_there log n c m d, arrays p) h) es (absent_all n es nowhere) J.told)
            (all_both (λ p m. m ≢ n) (λ p m. p % 2 ≡ 1 → (a : Array) → final (log m) a ≡ a) (λ p m. p % 2 ≡ 1 → (a : Array) → final (log' m) a ≡ a)
            (λ p m d h. rw (added_there log n c m d) h) es (absent_all n es nowhere) J.still)
            (λ r d a h.
            all_both (λ p m. m ≢ n) (λ p m. 2 * W.start r < p → Within (Free items W r) (log m)) (λ p m. 2 * W.start r < p → Within (Free items W r) (log' m))
            (λ p m z w. rw (added_there log n c m z) w) es (absent_all n es nowhere) h)

        -- what it ends in
        abbrev Ends : Type 0
        Ends = (a : Array) (x : ℕ) → x < items → final (log n ++ (c ∷ [])) a x ≡ cond (W'.writes s x) (W'.working x) (a x)

        -- an update that still writes
        update-grown : W.kind s ≡ an_update → Ends → Pending items W' s (log n ++ (c ∷ [])) → Inv items es log' W'
        update-grown k ends p =
            absent_grown
            (record {
              waiting = λ z. rw (rows s).number_is nowhere;
              ends = λ z a x b. rw ((rows s).number_is, added_here log n c) (ends a x b);
              pending = λ z. rw ((rows s).number_is, added_here log n c) p;
              own = λ z. absurd (let i = (rows s).kind_is in omega arith);
              snapped = λ z j. absurd (z ((rows s).kind_is ∙ k));
              placed = λ z. absurd (let i = (rows s).kind_is in omega arith);
            })
            (λ r d a b l. absurd (let z = b.1 in omega arith)) (λ b. absurd (let z = b.1 in omega arith))

        -- a relaxed query
        relaxed-grown : W.kind s ≡ a_relaxed → Ends → Inv items es log' W'
        relaxed-grown k ends =
            absent_grown
            (record {
              waiting = λ z. rw (rows s).number_is nowhere;
              ends = λ z a x b. rw ((rows s).number_is, added_here log n c) (ends a x b);
              pending = λ z. absurd (let i = (rows s).kind_is in omega arith);
              own = λ z. absurd (let i = (rows s).kind_is in omega arith);
              snapped = λ z j. absurd (j ((rows s).kind_is ∙ k));
              placed = λ z. absurd (let i = (rows s).kind_is in omega arith);
            })
            (λ r d a b l. absurd (let z = b.1 in omega arith)) (λ b. absurd (let z = b.1 in omega arith))

        -- one past its writing
        abbrev A : Array
        A = array_at (2 * W.start s) es log

        settled-grown :
            (k : W.kind s ≡ a_settled) → Ends → T (agrees (c ∷ []) (final (log n) A))
            → ((r : ℕ) → r ≢ s → settled W r → W.start r < W.start s → Within (Free items W r) (c ∷ []))
            → ((y : ℕ) → y < items → T (W'.writes s y) → T (W.writes s y)) → Inv items es log' W'
        settled-grown k ends agree ahead fewer =
            absent_grown
            (record {
              waiting = λ z. rw (rows s).number_is nowhere;
              ends = λ z a x b. rw ((rows s).number_is, added_here log n c) (ends a x b);
              pending = λ z. absurd (let i = (rows s).kind_is in omega arith);
              own = λ z. own;
              snapped = λ z j x b.
                  rw ((rows s).start_is, arrays (2 * W.start s + 1))
                  (old.snapped (λ i. omega arith) (λ i. omega arith) x b ∙ sym (sees s x b ((rows s).lives_on alive, z, j)));
              placed = λ z. absurd (let i = (rows s).kind_is in omega arith);
            })
            (λ r d a b l.
            rw (added_here log n c) (within-append (Free items W r) (log n) (c ∷ []) (J.clear r s a b l) (ahead r d a l)))
            (λ b. fewer)
          where
            O : Own items es log W s
            O = old.own k

            own : Own items es log' W' s
            own =
                record {
                  vacant = rw (rows s).start_is O.vacant;
                  reads =
                      rw ((rows s).start_is, (rows s).number_is, added_here log n c, arrays (2 * W.start s))
                      (agrees-append (log n) (c ∷ []) A O.reads agree);
                  clear =
                      rw (rows s).start_is
                      (all_both _ _ _ (λ p m d h l. rw (added_there log n c m d) (within-map _ _ (λ y g. (g.0, λ w. g.1 (fewer y g.0 w))) (log m) (h l))) es (absent_all n es nowhere) O.clear);
                }

  -- ---- reads. Nothing else changes
  module _ (x v : ℕ) (bx : x < items) (S : Same items W W') where
    abbrev Next : Type 0
    Next = Inv items es (added log n (got x v)) W'

    item : Within (λ y. y < items) (got x v ∷ [])
    item = within-got (λ y. y < items) x v bx

    -- a read changes nothing
    ends_on : W.kind s ≢ a_query → (a : Array) (y : ℕ) → y < items → final (log n ++ (got x v ∷ [])) a y ≡ cond (W'.writes s y) (W'.working y) (a y)
    unfolding final
    ends_on k a y b =
        ap (λ (c : Array). c y) (final-append (log n) (got x v ∷ []) a) ∙ old.ends k a y b ∙ chosen items W W' s (S.locks s) y b (a y)

    -- under a lock
    pub lock-read-step : W.kind s ≡ an_update → T (W'.holds s x) → v ≡ cond (W'.writes s x) (W'.working x) (W'.current x) → Next
    lock-read-step k hx is =
        update-grown (got x v) item S.rows (λ r d. S.locks r) S.sees S.current S.last S.clock (λ z. omega arith) k (ends_on (λ z. omega arith))
        (record {
          within = within-append _ (log n) (got x v ∷ []) P.within (within-got _ x v (bx, hx));
          reads =
              agrees-append (log n) (got x v ∷ []) W'.current P.reads
              (agrees-got (final (log n) W'.current) x v
              (old.ends (λ z. omega arith) W'.current x bx ∙ chosen items W W' s (S.locks s) x bx (W'.current x) ∙ sym is));
        })
      where
        P : Pending items W' s (log n)
        P = pending_kept items W W' s (S.locks s) (log n) (λ y b h. S.current y b) (old.pending k)

    -- past its writing: what its log ends in at its place
    settled-read-step :
        (k : W.kind s ≡ a_settled) → final (log n) (array_at (2 * W.start s) es log) x ≡ v
        → ((r : ℕ) → r ≢ s → settled W r → W.start r < W.start s → T (W.writes r x) → ⊥) → Next
    settled-read-step k is free =
        settled-grown (got x v) item S.rows (λ r d. S.locks r) S.sees S.current S.last S.clock (λ z. omega arith) k (ends_on (λ z. omega arith))
        (agrees-got (final (log n) (array_at (2 * W.start s) es log)) x v is)
        (λ r d a l. within-got _ x v (bx, free r d a l))
        (λ y b w. subst T ((S.locks s).same_writes y b) w)

    pub own_read-step : W.kind s ≡ a_settled → T (W.writes s x) → v ≡ W.working x → Next
    own_read-step k w is =
        settled-read-step k (old.ends (λ z. omega arith) (array_at (2 * W.start s) es log) x bx ∙ rw (is_true (W.writes s x) w) (sym is))
        (λ r d a l u. F.alone r s x bx d u (F.written_held s x w))

    -- by a relaxed query, which stands nowhere
    pub relaxed-read-step : W.kind s ≡ a_relaxed → Next
    relaxed-read-step k =
        relaxed-grown (got x v) item S.rows (λ r d. S.locks r) S.sees S.current S.last S.clock (λ z. omega arith) k (ends_on (λ z. omega arith))

    -- by a start, where nobody past its writing holds it back
    module _ (held : (r : ℕ) → settled W r → W.start r ≤ W.start s → T (W.writes r x) → ⊥) (is : v ≡ W.snapshot s x) where
      pub start-read-step : W.kind s ≡ a_settled → Next
      start-read-step k =
          settled-read-step k (old.ends (λ z. omega arith) (array_at (2 * W.start s) es log) x bx ∙ rw is_not (at_place ∙ old.snapped (λ z. omega arith) (λ z. omega arith) x bx ∙ sym is))
          (λ r d a l. held r a (omega arith))
        where
          is_not : W.writes s x ≡ false
          is_not = is_false (W.writes s x) (held s (alive, k) (omega arith))

          -- nobody stands at its place
          at_place : array_at (2 * W.start s) es log x ≡ array_at (2 * W.start s + 1) es log x
          at_place =
              ap (λ (ns : List ℕ). final (one_by_one log ns) zeros x)
              (below_same (2 * W.start s) (2 * W.start s + 1) es
              (all_map _ _ (λ p m d. (λ l. omega arith, λ l. strictly p (2 * W.start s) (omega arith) d)) es (old.own k).vacant))

      -- a query stands in the order, and its log grows there
      pub query-read-step : W.kind s ≡ a_query → Next
      query-read-step k =
          grown (got x v) item S.rows (λ r d. S.locks r) S.sees S.current S.last S.clock arrays
          (all_both _ _ _ (λ p m f h. one p m f.0 f.1 h) es (all_both _ _ (λ p m. (m ≡ n → p ≡ 2 * W.start s + 1) × (p % 2 ≡ 1 → (a : Array) → final (log m) a ≡ a)) (λ p m f h. (f, h)) es (old.placed k) J.still) J.told)
          (all_map _ _ (λ p m h o a. final-read log n x v m a ∙ h o a) es J.still)
          (λ r d a h. all_both _ _ _ (λ p m f w l. behind r a p m f (w l) l (same? m n)) es (old.placed k) h)
          (record {
            waiting = λ z. absurd (z ((S.rows s).kind_is ∙ k));
            ends = λ z. absurd (z ((S.rows s).kind_is ∙ k));
            pending = λ z. absurd (let i = (S.rows s).kind_is in omega arith);
            own = λ z. absurd (let i = (S.rows s).kind_is in omega arith);
            snapped = λ z j y b.
                rw ((S.rows s).start_is, arrays (2 * W.start s + 1))
                (old.snapped (λ i. omega arith) (λ i. omega arith) y b ∙ sym (S.sees s y b ((S.rows s).lives_on alive, z, j)));
            placed = λ z. rw ((S.rows s).start_is, (S.rows s).number_is) (old.placed k);
          })
          (λ r d a b l. absurd (let z = b.1 in omega arith)) (λ b. absurd (let z = b.1 in omega arith))
        where
          arrays : (p : ℕ) → array_at p es (added log n (got x v)) ≡ array_at p es log
          arrays p = final_all_read log n x v (below p es) zeros

          one :
              (p m : ℕ) → (m ≡ n → p ≡ 2 * W.start s + 1) → (p % 2 ≡ 1 → (a : Array) → final (log m) a ≡ a)
              → T (agrees (log m) (array_at p es log)) → T (agrees (added log n (got x v) m) (array_at p es (added log n (got x v))))
          one p m place still h = rw (arrays p) (go (same? m n))
            where
              go : (m ≡ n) ⊎ (m ≢ n) → T (agrees (added log n (got x v) m) (array_at p es log))
              go (inl e) =
                  let f = place e in
                  let value : final (log n) (array_at p es log) x ≡ v =
                  ap (λ (a : Array). a x) (subst (λ (j : ℕ). final (log j) (array_at p es log) ≡ array_at p es log) e (still (omega arith) (array_at p es log)))
                  ∙ ap (λ (q : ℕ). array_at q es log x) f ∙ old.snapped (λ z. omega arith) (λ z. omega arith) x bx ∙ sym is in
                  subst (λ (j : ℕ). T (agrees (added log n (got x v) j) (array_at p es log))) (sym e)
                  (rw (added_here log n (got x v))
                  (agrees-append (log n) (got x v ∷ []) (array_at p es log) (subst (λ (j : ℕ). T (agrees (log j) (array_at p es log))) e h)
                  (agrees-got (final (log n) (array_at p es log)) x v value)))
              go (inr d) = rw (added_there log n (got x v) m d) h

          behind :
              (r : ℕ) → settled W r → (p m : ℕ) → (m ≡ n → p ≡ 2 * W.start s + 1) → Within (Free items W r) (log m) → 2 * W.start r < p
              → (m ≡ n) ⊎ (m ≢ n) → Within (Free items W r) (added log n (got x v) m)
          behind r a p m place w l (inl e) =
              let f = place e in
              subst (λ (j : ℕ). Within (Free items W r) (added log n (got x v) j)) (sym e)
              (rw (added_here log n (got x v))
              (within-append (Free items W r) (log n) (got x v ∷ []) (subst (λ (j : ℕ). Within (Free items W r) (log j)) e w)
              (within-got _ x v (bx, held r a (omega arith)))))
          behind r a p m place w l (inr d) = rw (added_there log n (got x v) m d) w

  -- ---- writes
  module _ (x v : ℕ) (bx : x < items) (Q : Puts items W W' s x v) where
    written : (a : Array) (l : List Access) (y : ℕ) → y < items → (y ≡ x) ⊎ (y ≢ x)
        → final l a y ≡ cond (W.writes s y) (W.working y) (a y)
        → final (l ++ (put x v ∷ [])) a y ≡ cond (W'.writes s y) (W'.working y) (a y)
    unfolding final
    written a l y b (inl e) h =
        ap (λ (a : Array). a y) (final-append l (put x v ∷ []) a)
        ∙ rw (e, Q.writes_it, Q.value) (store_here (final l a) x v)
    written a l y b (inr d) h =
        ap (λ (a : Array). a y) (final-append l (put x v ∷ []) a)
        ∙ store_there (final l a) x v y d ∙ h ∙ rw (Q.writes_on y b d, Q.working_on y b d)

    pub write_step : Inv items es (added log n (put x v)) W'
    unfolding agrees
    write_step = go Q.may
      where
        item : Within (λ y. y < items) (put x v ∷ [])
        item = within-put (λ y. y < items) x v bx

        fewer : T (W.writes s x) → (y : ℕ) → y < items → T (W'.writes s y) → (y ≡ x) ⊎ (y ≢ x) → T (W.writes s y)
        fewer u y b w (inl e) = rw e u
        fewer u y b w (inr d) = subst T (Q.writes_on y b d) w

        go : (W.kind s ≡ an_update) ⊎ ((W.kind s ≡ a_settled) × T (W.writes s x)) → Inv items es (added log n (put x v)) W'
        go (inl k) =
            update-grown (put x v) item Q.rows Q.locks Q.sees Q.current Q.last Q.clock (λ z. omega arith) k
            (λ a y b. written a (log n) y b (same? y x) (old.ends (λ z. omega arith) a y b))
            (record {
              within = within-append _ (log n) (put x v ∷ []) (within-map _ _ (λ y h. (h.0, Q.held y h.0 h.1)) (log n) P.within) (within-put _ x v (bx, Q.holds_it));
              reads = agrees-append (log n) (put x v ∷ []) W'.current
                  (local_agrees (λ y. y < items) (log n) W.current W'.current (λ y b. sym (Q.current y b)) (J.named n) P.reads) tt;
            })
          where
            P : Pending items W s (log n)
            P = old.pending k
        go (inr h) =
            settled-grown (put x v) item Q.rows Q.locks Q.sees Q.current Q.last Q.clock (λ z. let k = h.0 in omega arith) h.0
            (λ a y b. written a (log n) y b (same? y x) (old.ends (λ z. let k = h.0 in omega arith) a y b)) tt
            (λ r d a l. within-put _ x v (bx, λ w. F.alone r s x bx d w (F.written_held s x h.1)))
            (λ y b w. fewer h.1 y b w (same? y x))
