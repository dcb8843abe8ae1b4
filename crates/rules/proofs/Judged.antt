-- The walk over the tests of every call, made once: which way the call goes, and that its code is that of the first refusal, in the
-- document's order, whose condition holds.
use Prim.Native.Nat.{ℕ, ◌<◌}
use mathlib.Core.Path.{◌≡◌, refl, sym, subst}
use mathlib.Core.Logic.{◌≢◌, ◌⊎◌, inl, inr, ⊎_elim}
use mathlib.Core.Bool.{Bool, true, false, not}
use mathlib.Core.List.{[], ◌∷◌}
use native.Mathlib.Omega.{arith}
use lib.Dec.{T, eqb}
use borrow.Author.Tests.{eqb-true, eqb-false, leb-false, not-false}
use Rattle.names.specs.declared.Sizes.{Sizes}
use Rattle.names.specs.Sizes.{last_word}
use Rattle.rules.specs.Tables.{Tables, clock, txn, no_lock, shared_lock, exclusive_lock, an_update, a_settled, query_kind, some_relaxed}
use Rattle.rules.specs.Tables.{live_update, live_settled, live_relaxed, any_query, is_reader, Lock, lock, holds, holds_shared, holds_exclusive, exclusives_of, slot_of}
use Rattle.rules.specs.Good.{Good}
use Rattle.rules.specs.Locks.{to_read, to_write, Cell, held_by, decide, decision}
use Rattle.rules.specs.Answers.{Call, BeginUpdate, BeginQuery, Read, Write, Commit, Abort, Settle, BeginRelaxed, granted, code}
use Rattle.rules.specs.Answers.{Wait, Deadlock, UnknownTransaction, UnknownItem, QueryMayNotWrite, StillWaiting}
use Rattle.rules.specs.Answers.{ClockSpent, BadTables, QuotaSpent, PastWriting, KeptApart, Deed, Replaces, as_slot, as_item}
use Rattle.rules.specs.Step.{judged, done, read_by, write_by, commit_update, commit_by, abort_by, settle_by, access, cell_deed, awaits_other, holds_back, held_back, start_read, writes_past, writes_further, version_read}
use Rattle.rules.specs.Conditions.{IsSettle, CallerIn, NeedsLock, ConflictIn, HeldBackIn, When, then_tested, order}
use Rattle.rules.proofs.Tests.{and_both, or_left, or_right, is_true, true_is, false_is, not_make, ne_make, ne_use}
use Rattle.rules.proofs.Counts.{some_below→, →some_below}
use Rattle.rules.proofs.RowKinds.{update-live, settled-reads, any-query-reads, update_no_reader}
use Rattle.rules.proofs.EqualSets.{some_relaxed_lem, relaxed_some}
use Rattle.rules.proofs.Quotas.{has_room}
use Rattle.rules.proofs.Steps.{cond_case}
use Rattle.rules.proofs.Callers.{caller_in, is_query, is_update, is_writer, is_reader_lem, is_settled, any-query-kind, settled-kind, reader-holds, held_by_start}
use Rattle.rules.proofs.Decisions.{wanted-lock, never_both_lem, none_excludes, none_holds, blocked_for}
use Rattle.rules.proofs.Decisions.{CellIs, own_cell, newest_cell, share_cell, replace_cell, exchange_cell, exclude_cell, read_conflict, write_conflict, cell}
use Rattle.rules.proofs.Ways.{Updater, Way, waited, read_own, read_newest, read_shared, read_settled, read_version}
use Rattle.rules.proofs.Ways.{wrote_own, wrote_settled, wrote_taken, committed_update, committed_empty, committed_settled, committed_query, aborted_update, aborted_settled, aborted_query, settled_update}
use Rattle.rules.proofs.Testing.{Goes, tests, skips, grants, begins-update, begins-query, begins-relaxed, unblocked, held_back_lem, here, names_tests, at_caller, no_clock}
use Rattle.rules.proofs.Testing.{items_tests, waits_tests, past_tests, quota_tests, free, conflicting}

-- the calls that are no settles
read_no_settle : {n x : ℕ} → IsSettle (Read n x) → ⊥
read_no_settle (m, e) = let z : ◌≡◌ {A = ℕ} 0 1 = cc in omega arith

write_no_settle : {n x v : ℕ} → IsSettle (Write n x v) → ⊥
write_no_settle (m, e) = let z : ◌≡◌ {A = ℕ} 0 1 = cc in omega arith

commit_no_settle : {n : ℕ} → IsSettle (Commit n) → ⊥
commit_no_settle (m, e) = let z : ◌≡◌ {A = ℕ} 0 1 = cc in omega arith

-- who holds the item exclusively replaces its value
replaces : (S : Sizes) (G : Tables) (s x v : ℕ) → T (holds_exclusive (lock G.locks x) s) → access S to_write s x v G ≡ Replaces (as_slot s) (as_item x) v
unfolding access decision held_by decide cell_deed
replaces S G s x v h = rw (is_true (holds_exclusive (lock G.locks x) s) h)

-- ---- each call on good tables
module _ (S : Sizes) (G : Tables) (g : Good S G) where
  -- the test of a query's kind
  no_query : (i : ℕ) → query_kind (txn G.txns i).kind ≡ false → T (any_query (txn G.txns i)) → ⊥
  no_query i q w = false_is q (true_is (any-query-kind G.txns i w))

  reads :
      (n x : ℕ) → Goes S (Read n x) G
      (UnknownTransaction ∷ UnknownItem ∷ QueryMayNotWrite ∷ StillWaiting ∷ PastWriting ∷ QuotaSpent ∷ Deadlock ∷ Wait ∷ []) (read_by S n x G)
  unfolding read_by start_read held_back When done version_read
  reads n x =
      names_tests S G g c n refl only _ _ (λ e. let C = here S G g c n refl only e in
      items_tests S G g c n refl only to_read x (refl, refl) asks _ _ (λ f.
      skips S c G QueryMayNotWrite _ _ (λ w. no_write w.3)
      (waits_tests S G g c n refl only to_read x (refl, refl) asks _ _ C (λ h.
      skips S c G PastWriting _ _ (λ w. no_write (⊎_elim (λ z. inl (z.0, z.1)) inr w.3))
      (skips S c G QuotaSpent _ _ (λ w. let q = w.4.0 in omega arith)
      (cond_case (Goes S c G (Deadlock ∷ Wait ∷ [])) (eqb (txn G.txns i).kind an_update) _ _
      (λ q. accessed e C h (is_writer G.txns i C.alive q) (leb-false S.items x f))
      (λ q. started e C (is_reader_lem G.txns i C.alive q) (leb-false S.items x f))))))))
    where
      c : Call
      c = Read n x

      i : ℕ
      i = slot_of S G.txns n

      only : (m : ℕ) → n ≡ m → m ≡ n
      only m e = sym e

      asks : (k y : ℕ) → (k ≡ shared_lock) × (x ≡ y) → (k ≡ shared_lock) × (y ≡ x)
      asks k y w = (w.0, sym w.1)

      no_write : ((y : ℕ) × ((exclusive_lock ≡ shared_lock) × (x ≡ y))) ⊎ IsSettle c → ⊥
      no_write (inl w) = let q = w.1.0 in omega arith
      no_write (inr w) = read_no_settle w

      -- who reads versions is in no conflict
      no_update : T (is_reader (txn G.txns i)) → (r k y : ℕ) → ConflictIn c S G r k y → ⊥
      no_update q r k y K =
          update_no_reader (txn G.txns i) (at_caller S G g c n refl only (λ (r : ℕ). T (live_update (txn G.txns r))) r K.caller K.update) q

      -- its own working value, or a wait for one past its writing, or the version that it may read
      started :
          eqb i S.slots ≡ false → CallerIn c S G i → T (is_reader (txn G.txns i)) → x < S.items
          → Goes S c G (Deadlock ∷ Wait ∷ []) (start_read S i x G)
      started e C q known =
          cond_case (Goes S c G (Deadlock ∷ Wait ∷ [])) (holds_exclusive (lock G.locks x) i) _ _
          (λ o. unblocked S c G _ (no_update q) (λ r y K. own o r y K)
          (read_settled n i x (caller_in S G n e) (reader-holds S G g i C.inside q x known (true_is o)) known (true_is o)) refl)
          (λ o. cond_case (Goes S c G (Deadlock ∷ Wait ∷ [])) (held_back S G.txns G.locks x i) _ _
          (λ b. let w = some_below→ S.slots (holds_back G.txns G.locks x i) (true_is b) in
          held_back_lem S c G i x (no_update q)
          (record { caller = C; reader = held_by_start S G g i C.inside q x w.0 w.1 w.2; wants = (refl, refl); not_own = λ z. false_is o z; other = w.0; other_inside = w.1; other_holds = w.2 }))
          (λ b. unblocked S c G _ (no_update q) (λ r y K. nobody b r y K)
          (read_version n i x (caller_in S G n e) q known (λ z. false_is o z) b) refl))
        where
          own : holds_exclusive (lock G.locks x) i ≡ true → (r y : ℕ) → HeldBackIn c S G r y → ⊥
          own o r y K =
              subst (λ (z : ℕ). T (holds_exclusive (lock G.locks z) i) → ⊥) (sym K.wants.1)
              (at_caller S G g c n refl only (λ (r : ℕ). T (holds_exclusive (lock G.locks y) r) → ⊥) r K.caller K.not_own) (true_is o)

          nobody : held_back S G.txns G.locks x i ≡ false → (r y : ℕ) → HeldBackIn c S G r y → ⊥
          nobody b r y K =
              false_is b
              (→some_below S.slots (holds_back G.txns G.locks x i) K.other K.other_inside
              (subst (λ (z : ℕ). T (holds_back G.txns G.locks z i K.other)) (sym K.wants.1)
              (at_caller S G g c n refl only (λ (r : ℕ). T (holds_back G.txns G.locks y r K.other)) r K.caller K.other_holds)))

      accessed :
          eqb i S.slots ≡ false → CallerIn c S G i → awaits_other G.txns i shared_lock x ≡ false → T (live_update (txn G.txns i)) → x < S.items
          → Goes S c G (Deadlock ∷ Wait ∷ []) (access S to_read i x 0 G)
      accessed e C w up known = unfold access in (go (decision S to_read G.txns G.locks x i) (cell S G g x known i to_read))
        where
          h : Lock
          h = lock G.locks x

          U : Updater S G n i shared_lock x
          U = record { caller = caller_in S G n e; update = up; known = known; free = w }

          granted-free : (d : Deed) → (NeedsLock h shared_lock i → T (blocked_for S G.txns G.locks shared_lock x i) → ⊥) → Way S G c d → (done S d G).answer.code ≡ granted → Goes S c G (Deadlock ∷ Wait ∷ []) d
          granted-free = free S G g c n refl only to_read x (refl, refl) asks C up known

          go : (d : Cell) → CellIs S G.txns G.locks x i to_read d → Goes S c G (Deadlock ∷ Wait ∷ []) (cell_deed S i shared_lock x 0 G d)
          go d (own_cell o) = unfold cell_deed done in (granted-free _ (λ n b. n.0 o) (read_own n i x U o) refl)
          go d (newest_cell o) = unfold cell_deed done in (granted-free _ (λ n b. n.1 refl o) (read_newest n i x U o) refl)
          go d (share_cell o b) =
              unfold cell_deed done in
              (granted-free _ (λ n. b)
              (read_shared n i x U o (none_excludes S G g x known i shared_lock (λ k. o (unfold holds in (or_right (holds_shared h i) _ k))) b)) refl)
          go d (read_conflict o b) =
              unfold cell_deed in
              (conflicting S G g c n refl only to_read x (refl, refl) asks C up known
              (λ k. o (unfold holds in (or_right (holds_shared h i) _ k)), λ z k. o (unfold holds in (or_left (holds_shared h i) _ k))) b
              (λ z. waited i shared_lock x
              (record {
                caller = C;
                update = up;
                wants = (refl, refl);
                some = wanted-lock to_read;
                free = w;
                may = record { listed = omega arith; known = λ e. known; none = λ e. absurd (omega arith); shared = λ e. o; exclusive = λ e. absurd (omega arith); room = λ e. absurd (omega arith) };
                circle = z;
              })))

  writes :
      (n x v : ℕ) → Goes S (Write n x v) G
      (UnknownTransaction ∷ UnknownItem ∷ QueryMayNotWrite ∷ StillWaiting ∷ PastWriting ∷ QuotaSpent ∷ Deadlock ∷ Wait ∷ []) (write_by S n x v G)
  unfolding write_by writes_past When
  writes n x v =
      names_tests S G g c n refl only _ _ (λ e. let C = here S G g c n refl only e in
      items_tests S G g c n refl only to_write x (refl, refl) asks _ _ (λ f.
      tests S c G QueryMayNotWrite _ (query_kind (txn G.txns i).kind) _ (λ z. omega arith, λ z. omega arith)
      (λ q. (i, C, is_query G.txns i C.alive q, inl (x, (refl, refl))))
      (λ q w. no_query i q (at_caller S G g c n refl only (λ (r : ℕ). T (any_query (txn G.txns r))) w.0 w.1 w.2))
      (λ q. waits_tests S G g c n refl only to_write x (refl, refl) asks _ _ C (λ h.
      past_tests S G g c n refl only to_write x (refl, refl) asks _ _ refl C write_no_settle (λ p.
      quota_tests S G g c n refl only to_write x (refl, refl) asks _ _ refl C (λ o. writer C q p o (eqb (txn G.txns i).kind a_settled) refl) (λ m.
      both e C h q p m (leb-false S.items x f) (eqb (txn G.txns i).kind a_settled) refl))))))
    where
      c : Call
      c = Write n x v

      i : ℕ
      i = slot_of S G.txns n

      only : (m : ℕ) → n ≡ m → m ≡ n
      only m e = sym e

      asks : (k y : ℕ) → (k ≡ exclusive_lock) × (x ≡ y) → (k ≡ exclusive_lock) × (y ≡ x)
      asks k y w = (w.0, sym w.1)

      -- past its writing it holds the item
      own : writes_past G.txns G.locks i x ≡ false → eqb (txn G.txns i).kind a_settled ≡ true → T (holds_exclusive (lock G.locks x) i)
      own p z = go (holds_exclusive (lock G.locks x) i) refl
        where
          go : (b : Bool) → holds_exclusive (lock G.locks x) i ≡ b → T (holds_exclusive (lock G.locks x) i)
          go true o = true_is o
          go false o = absurd (false_is p (and_both (eqb (txn G.txns i).kind a_settled) _ (true_is z) (not_make (holds_exclusive (lock G.locks x) i) (λ k. false_is o k))))

      writer :
          CallerIn c S G i → query_kind (txn G.txns i).kind ≡ false → writes_past G.txns G.locks i x ≡ false
          → (T (holds_exclusive (lock G.locks x) i) → ⊥) → (b : Bool) → eqb (txn G.txns i).kind a_settled ≡ b → T (live_update (txn G.txns i))
      writer C q p o true z = absurd (o (own p z))
      writer C q p o false z = is_update S G g i C.inside C.alive q z

      accessed :
          eqb i S.slots ≡ false → CallerIn c S G i → awaits_other G.txns i exclusive_lock x ≡ false → T (live_update (txn G.txns i)) → x < S.items
          → writes_further S G.locks i x ≡ false → Goes S c G (Deadlock ∷ Wait ∷ []) (access S to_write i x v G)
      accessed e C w up known m = unfold access in (go (decision S to_write G.txns G.locks x i) (cell S G g x known i to_write))
        where
          h : Lock
          h = lock G.locks x

          U : Updater S G n i exclusive_lock x
          U = record { caller = caller_in S G n e; update = up; known = known; free = w }

          granted-free : (d : Deed) → (NeedsLock h exclusive_lock i → T (blocked_for S G.txns G.locks exclusive_lock x i) → ⊥) → Way S G c d → (done S d G).answer.code ≡ granted → Goes S c G (Deadlock ∷ Wait ∷ []) d
          granted-free = free S G g c n refl only to_write x (refl, refl) asks C up known

          -- not held exclusively, so there is room for it
          room : (T (holds_exclusive h i) → ⊥) → exclusives_of S G.locks i ≢ S.quota
          room o = has_room S G.locks i x m o

          go : (d : Cell) → CellIs S G.txns G.locks x i to_write d → Goes S c G (Deadlock ∷ Wait ∷ []) (cell_deed S i exclusive_lock x v G d)
          go d (replace_cell o) = unfold cell_deed done in (granted-free _ (λ n b. n.0 o) (wrote_own n i x v U o) refl)
          go d (exchange_cell o b) =
              unfold cell_deed done in
              (granted-free _ (λ n. b) (wrote_taken n i x v U (inl o) (none_holds S G g x known i b) (room (λ k. never_both_lem S G g x known i i k o))) refl)
          go d (exclude_cell o b) =
              unfold cell_deed done in
              (granted-free _ (λ n. b) (wrote_taken n i x v U (inr o) (none_holds S G g x known i b) (room (λ k. o (unfold holds in (or_right (holds_shared h i) _ k))))) refl)
          go d (write_conflict o b) =
              unfold cell_deed in
              (conflicting S G g c n refl only to_write x (refl, refl) asks C up known (o, λ z. absurd (omega arith)) b
              (λ z. waited i exclusive_lock x
              (record {
                caller = C;
                update = up;
                wants = (refl, refl);
                some = wanted-lock to_write;
                free = w;
                may = record { listed = omega arith; known = λ e. known; none = λ e. absurd (omega arith); shared = λ e. absurd (omega arith); exclusive = λ e. o; room = λ e. room o };
                circle = z;
              })))

      both :
          eqb i S.slots ≡ false → CallerIn c S G i → awaits_other G.txns i exclusive_lock x ≡ false → query_kind (txn G.txns i).kind ≡ false
          → writes_past G.txns G.locks i x ≡ false → writes_further S G.locks i x ≡ false → x < S.items
          → (b : Bool) → eqb (txn G.txns i).kind a_settled ≡ b → Goes S c G (Deadlock ∷ Wait ∷ []) (access S to_write i x v G)
      both e C h q p m known false z = accessed e C h (is_update S G g i C.inside C.alive q z) known m
      both e C h q p m known true z =
          subst (λ (d : Deed). Goes S c G (Deadlock ∷ Wait ∷ []) d) (sym (replaces S G i x v (own p z)))
          (unblocked S c G _
          (λ r k y K. past_not_writes C z r K.caller K.update)
          (λ r y K. let k = K.wants.0 in absurd (omega arith))
          (wrote_settled n i x v (caller_in S G n e) (is_settled G.txns i C.alive z) known (own p z)) (unfold done in refl))
        where
          past_not_writes : CallerIn c S G i → eqb (txn G.txns i).kind a_settled ≡ true → (r : ℕ) → CallerIn c S G r → T (live_update (txn G.txns r)) → ⊥
          past_not_writes C z r D up =
              let k = settled-kind G.txns i (is_settled G.txns i C.alive z) in
              let m = (update-live (txn G.txns i) (at_caller S G g c n refl only (λ (r : ℕ). T (live_update (txn G.txns r))) r D up)).1 in
              absurd (omega arith)

  commits : (n : ℕ) → Goes S (Commit n) G (UnknownTransaction ∷ StillWaiting ∷ ClockSpent ∷ []) (commit_by S n G)
  unfolding commit_by commit_update When done
  commits n =
      names_tests S G g c n refl only _ _ (λ e. let C = here S G g c n refl only e in
      tests S c G StillWaiting _ (not (eqb (txn G.txns i).awaited_lock no_lock)) _ (λ z. omega arith, λ z. omega arith)
      (λ f. (i, C, ne_use _ no_lock (true_is f), λ w. w))
      (λ f w. false_is f (ne_make _ no_lock (at_caller S G g c n refl only (λ (r : ℕ). (txn G.txns r).awaited_lock ≢ no_lock) w.0 w.1 w.2)))
      (λ f. cond_case (Goes S c G (ClockSpent ∷ [])) (query_kind (txn G.txns i).kind) _ _
      (λ q. let k = is_query G.txns i C.alive q in
      skips S c G ClockSpent _ _ (no_clock S G g c n refl only (any-query-reads (txn G.txns i) k)) (grants S c G _ (committed_query n i (caller_in S G n e) k) refl))
      (λ q. cond_case (Goes S c G (ClockSpent ∷ [])) (eqb (txn G.txns i).kind a_settled) _ _
      (λ z. let k = is_settled G.txns i C.alive z in
      skips S c G ClockSpent _ _ (no_clock S G g c n refl only (settled-reads (txn G.txns i) k)) (grants S c G _ (committed_settled n i (caller_in S G n e) k) refl))
      (λ z. let up = is_update S G g i C.inside C.alive q z in
      let free = eqb-true (txn G.txns i).awaited_lock no_lock (not-false _ f) in
      cond_case (Goes S c G (ClockSpent ∷ [])) (eqb (exclusives_of S G.locks i) 0) _ _
      (λ h. let none = eqb-true (exclusives_of S G.locks i) 0 h in
      skips S c G ClockSpent _ _ (λ w. no_stamp (at_caller S G g c n refl only (λ (r : ℕ). (exclusives_of S G.locks r ≢ 0) ⊎ IsSettle c) w.0 w.1 w.4) none)
      (grants S c G _ (committed_empty n i (caller_in S G n e) up free none) refl))
      (λ h. let some = eqb-false (exclusives_of S G.locks i) 0 h in
      tests S c G ClockSpent _ (eqb (clock G.txns) last_word) _ (λ z. omega arith, λ z. omega arith)
      (λ h. (i, C, up, eqb-true (clock G.txns) last_word h, inl some))
      (λ h w. eqb-false (clock G.txns) last_word h w.3)
      (λ h. grants S c G _ (committed_update n i (caller_in S G n e) up free (eqb-false (clock G.txns) last_word h) some) refl))))))
    where
      c : Call
      c = Commit n

      i : ℕ
      i = slot_of S G.txns n

      only : (m : ℕ) → n ≡ m → m ≡ n
      only m e = sym e

      -- a commit that asks for no stamp
      no_stamp : (exclusives_of S G.locks i ≢ 0) ⊎ IsSettle c → exclusives_of S G.locks i ≡ 0 → ⊥
      no_stamp (inl d) e = d e
      no_stamp (inr h) e = absurd (commit_no_settle h)

  aborts : (n : ℕ) → Goes S (Abort n) G (UnknownTransaction ∷ []) (abort_by S n G)
  unfolding abort_by done
  aborts n =
      names_tests S G g c n refl only _ _ (λ e. let C = caller_in S G n e in
      cond_case (Goes S c G []) (query_kind (txn G.txns i).kind) _ _
      (λ q. grants S c G _ (aborted_query n i C (is_query G.txns i C.alive q)) refl)
      (λ q. cond_case (Goes S c G []) (eqb (txn G.txns i).kind a_settled) _ _
      (λ z. grants S c G _ (aborted_settled n i C (is_settled G.txns i C.alive z)) refl)
      (λ z. grants S c G _ (aborted_update n i C (is_update S G g i C.inside C.alive q z)) refl)))
    where
      c : Call
      c = Abort n

      i : ℕ
      i = slot_of S G.txns n

      only : (m : ℕ) → n ≡ m → m ≡ n
      only m e = sym e

  settles : (n : ℕ) → Goes S (Settle n) G (UnknownTransaction ∷ QueryMayNotWrite ∷ PastWriting ∷ StillWaiting ∷ ClockSpent ∷ KeptApart ∷ []) (settle_by S n G)
  unfolding settle_by When done
  settles n =
      names_tests S G g c n refl only _ _ (λ e. let C = here S G g c n refl only e in
      tests S c G QueryMayNotWrite _ (query_kind (txn G.txns i).kind) _ (λ z. omega arith, λ z. omega arith)
      (λ q. (i, C, is_query G.txns i C.alive q, inr (n, refl)))
      (λ q w. no_query i q (at_caller S G g c n refl only (λ (r : ℕ). T (any_query (txn G.txns r))) w.0 w.1 w.2))
      (λ q. tests S c G PastWriting _ (eqb (txn G.txns i).kind a_settled) _ (λ z. omega arith, λ z. omega arith)
      (λ z. (i, C, is_settled G.txns i C.alive z, inr (n, refl)))
      (λ z w. eqb-false (txn G.txns i).kind a_settled z
      (settled-kind G.txns i (at_caller S G g c n refl only (λ (r : ℕ). T (live_settled (txn G.txns r))) w.0 w.1 w.2)))
      (λ z. let up = is_update S G g i C.inside C.alive q z in
      tests S c G StillWaiting _ (not (eqb (txn G.txns i).awaited_lock no_lock)) _ (λ z. omega arith, λ z. omega arith)
      (λ f. (i, C, ne_use _ no_lock (true_is f), λ w. w))
      (λ f w. false_is f (ne_make _ no_lock (at_caller S G g c n refl only (λ (r : ℕ). (txn G.txns r).awaited_lock ≢ no_lock) w.0 w.1 w.2)))
      (λ f. tests S c G ClockSpent _ (eqb (clock G.txns) last_word) _ (λ z. omega arith, λ z. omega arith)
      (λ h. (i, C, up, eqb-true (clock G.txns) last_word h, inr (n, refl)))
      (λ h w. eqb-false (clock G.txns) last_word h w.3)
      (λ h. tests S c G KeptApart _ (some_relaxed S G.txns) _ (λ z. omega arith, λ z. omega arith)
      (λ m. inl ((n, refl), some_relaxed_lem S G.txns (true_is m)))
      (λ m w. settle-apart m w)
      (λ m. grants S c G _
      (settled_update n i (caller_in S G n e) up (eqb-true (txn G.txns i).awaited_lock no_lock (not-false _ f)) (eqb-false (clock G.txns) last_word h)
      (λ q j k. false_is m (relaxed_some S G.txns q j k))) refl))))))
    where
      settle-apart :
          some_relaxed S G.txns ≡ false
          → (IsSettle (Settle n) × ((q : ℕ) × (q < S.slots) × T (live_relaxed (txn G.txns q))))
          ⊎ ((Settle n ≡ BeginRelaxed) × ((s : ℕ) × (s < S.slots) × T (live_settled (txn G.txns s)))) → ⊥
      settle-apart m (inl (z, (q, j, k))) = false_is m (relaxed_some S G.txns q j k)
      settle-apart m (inr (z, k)) = let y : ◌≡◌ {A = ℕ} 0 1 = cc in omega arith

      c : Call
      c = Settle n

      i : ℕ
      i = slot_of S G.txns n

      only : (m : ℕ) → n ≡ m → m ≡ n
      only m e = sym e

  tested : (c : Call) → Goes S c G (then_tested c) (judged S c G)
  unfolding judged then_tested
  tested BeginUpdate = begins-update S G
  tested BeginQuery = begins-query S G
  tested (Read n x) = reads n x
  tested (Write n x v) = writes n x v
  tested (Commit n) = commits n
  tested (Abort n) = aborts n
  tested (Settle n) = settles n
  tested BeginRelaxed = begins-relaxed S G

  pub goes : (c : Call) → Goes S c G (order c) (judged S c G)
  unfolding order When
  goes c = skips S c G BadTables _ _ (λ w. w g) (tested c)

  -- the way that a call goes
  pub way : (c : Call) → Way S G c (judged S c G)
  way c = (goes c).0
