-- The tests of one transaction row and of one lock say what GoodTxn and GoodLock say.
use Prim.Native.Nat.{ℕ, suc, ◌^◌, ◌≤◌, ◌<◌}
use mathlib.Core.Path.{◌≡◌, refl, sym, subst}
use mathlib.Core.Logic.{◌≢◌, ◌⊎◌, inl, inr, ⊎_elim}
use mathlib.Core.Bool.{Bool, ◌&&◌, ◌||◌, not, cond}
use mathlib.Core.List.{List}
use native.Mathlib.Omega.{arith}
use lib.Dec.{T, eqb, leb, ltb, eqb→eq, leb→le, le→leb, ltb→lt, lt→ltb}
use borrow.Author.Tests.{eq-eqb, ne_eqb}
use Rattle.names.specs.declared.Sizes.{Sizes}
use Rattle.names.specs.Sizes.{last_word}
use Rattle.rules.specs.Words.{implies}
use Rattle.rules.specs.Tables.{last_number, clock, Txn, txn, no_txn, live, live_update, live_settled, live_relaxed, may_hold, by_start, is_reader}
use Rattle.rules.specs.Tables.{an_update, a_query, a_settled, a_relaxed, no_lock, shared_lock, exclusive_lock, Lock, lock, holds_shared, holds_exclusive, holds}
use Rattle.rules.specs.Good.{GoodReads, GoodNotes, GoodTxn, GoodLock}
use Rattle.rules.specs.Tested.{all_zero, free_zero, listed, start_good, awaited_good, reads_good, notes_good, awaiter_good, txn_good, holders_live, lock_good}
use Rattle.rules.proofs.Tests.{and_left, and_right, and_both, or_cases, or_left, or_right, implies_use, implies_make}
use Rattle.rules.proofs.Tests.{not_make, not_use, eq_make, ne_make, ne_use, same?}
use Rattle.rules.proofs.Counts.{every_below→, →every_below}
pub use Rattle.rules.proofs.RowKinds.{free_or_live, live-number, free-number, number-live, update-live, live-update, query-live, live-query}
pub use Rattle.rules.proofs.RowKinds.{settled-live, live-settled, holder_live, update-holds, settled-holds, reader-live, live-reader, query-reads, settled-reads}
use Rattle.rules.proofs.Bits.{bit_below, below_bits}

-- ---- request E8: the read count and the weight sum of a row
module _ (r : Txn) where
  reads→Good : T (reads_good r) → GoodReads r
  unfolding reads_good
  reads→Good a =
      let a₁ = and_right (leb r.read_count last_word) _ a in
      let none = and_right (leb r.weight_sum last_word) _ a₁ in
      record {
        count_most = leb→le r.read_count last_word (and_left (leb r.read_count last_word) _ a);
        sum_most = leb→le r.weight_sum last_word (and_left (leb r.weight_sum last_word) _ a₁);
        update_count = λ h. eqb→eq r.read_count 0 (and_left (eqb r.read_count 0) _ (implies_use (may_hold r) _ none h));
        update_sum = λ h. eqb→eq r.weight_sum 0 (and_right (eqb r.read_count 0) _ (implies_use (may_hold r) _ none h));
      }

  Good→reads : GoodReads r → T (reads_good r)
  unfolding reads_good
  Good→reads g =
      and_both (leb r.read_count last_word) _ (le→leb r.read_count last_word g.count_most)
      (and_both (leb r.weight_sum last_word) _ (le→leb r.weight_sum last_word g.sum_most)
      (implies_make (may_hold r) _ (λ h. and_both (eqb r.read_count 0) _ (eq_make r.read_count 0 (g.update_count h)) (eq_make r.weight_sum 0 (g.update_sum h)))))

-- ---- request E11: the items read and the sets joined of a row
module _ (S : Sizes) (r : Txn) where
  notes→Good : T (notes_good S r) → GoodNotes S r
  unfolding notes_good
  notes→Good a =
      let a₁ = and_right (ltb r.items_read (2 ^ S.items)) _ a in
      let one = implies (not (live_relaxed r)) (eqb r.items_read 0) in
      record {
        items_most = ltb→lt r.items_read (2 ^ S.items) (and_left (ltb r.items_read (2 ^ S.items)) _ a);
        only_relaxed = λ n. eqb→eq r.items_read 0 (implies_use (not (live_relaxed r)) _ (and_left one _ a₁) (not_make (live_relaxed r) n));
        only_updates = λ n. eqb→eq r.later_for 0 (implies_use (not (live_update r)) _ (and_right one _ a₁) (not_make (live_update r) n));
      }

  Good→notes : GoodNotes S r → T (notes_good S r)
  unfolding notes_good
  Good→notes g =
      and_both (ltb r.items_read (2 ^ S.items)) _ (lt→ltb r.items_read (2 ^ S.items) g.items_most)
      (and_both (implies (not (live_relaxed r)) (eqb r.items_read 0)) _
      (implies_make (not (live_relaxed r)) _ (λ n. eq_make r.items_read 0 (g.only_relaxed (not_use (live_relaxed r) n))))
      (implies_make (not (live_update r)) _ (λ n. eq_make r.later_for 0 (g.only_updates (not_use (live_update r) n)))))

-- ---- a transaction row
module _ (S : Sizes) (t l : List ℕ) (s : ℕ) (r : Txn) where
  abbrev h : Lock
  h = lock l r.awaited_item

  pub txn→Good : T (txn_good S t l s r) → GoodTxn S t l s r
  unfolding txn_good free_zero all_zero listed start_good awaited_good awaiter_good live
  txn→Good a =
      let a₁ = and_right (free_zero r) _ a in
      let a₂ = and_right (leb r.number (last_number t)) _ a₁ in
      let a₃ = and_right (listed r) _ a₂ in
      let a₄ = and_right (start_good (clock t) r) _ a₃ in
      let b₁ = and_left (listed r) _ a₂ in
      let b₂ = and_left (start_good (clock t) r) _ a₃ in
      let b₃ = and_left (awaited_good S r) _ a₄ in
      let a₅ = and_right (awaited_good S r) _ a₄ in
      let a₆ = and_right (reads_good r) _ a₅ in
      let b₄ = and_right (notes_good S r) _ a₆ in
      let none = implies (live_update r || live_relaxed r) (eqb r.start 0) in
      let started = and_right none _ b₂ in
      let most = implies (by_start r) (leb r.start (clock t)) in
      let idle = and_right most _ started in
      let rests = implies (is_reader r) (eqb r.awaited_lock no_lock) in
      let u = implies (eqb r.awaited_lock shared_lock) (not (holds h s)) in
      record {
        free = λ e. zeros e (implies_use (not (live r)) _ (and_left (free_zero r) _ a) (not_make (live r) (λ z. ne_use r.number 0 z e)));
        given = leb→le r.number (last_number t) (and_left (leb r.number (last_number t)) _ a₁);
        kind_listed = four r.kind (leb→le r.kind a_relaxed (and_left (leb r.kind a_relaxed) _ b₁));
        lock_listed = leb→le r.awaited_lock exclusive_lock (and_right (leb r.kind a_relaxed) _ b₁);
        update_start = λ z. eqb→eq r.start 0 (implies_use (live_update r || live_relaxed r) _ (and_left none _ b₂) (or_left (live_update r) _ z));
        relaxed_start = λ z. eqb→eq r.start 0 (implies_use (live_update r || live_relaxed r) _ (and_left none _ b₂) (or_right (live_update r) _ z));
        reader_start = λ z. leb→le r.start (clock t) (implies_use (by_start r) _ (and_left most _ started) z);
        reader_idle = λ z. eqb→eq r.awaited_lock no_lock (implies_use (is_reader r) _ (and_left rests _ idle) z);
        settled_start = λ z. leb→le 1 r.start (implies_use (live_settled r) _ (and_right rests _ idle) z);
        item_known = λ d. ltb→lt r.awaited_item S.items (rw (ne_eqb r.awaited_lock no_lock d) at b₃);
        item_unused = λ e. eqb→eq r.awaited_item 0 (and_left (eqb r.awaited_item 0) _ (rw (eq-eqb r.awaited_lock no_lock e) at b₃));
        rank_unused = λ e. eqb→eq r.rank 0 (and_right (eqb r.awaited_item 0) _ (rw (eq-eqb r.awaited_lock no_lock e) at b₃));
        reads_good = reads→Good r (and_left (reads_good r) _ a₅);
        notes_good = notes→Good S r (and_left (notes_good S r) _ a₆);
        awaits_shared = λ e. not_use (holds h s) (implies_use (eqb r.awaited_lock shared_lock) _ (and_left u _ b₄) (eq_make r.awaited_lock shared_lock e));
        awaits_exclusive = λ e. not_use (holds_exclusive h s) (implies_use (eqb r.awaited_lock exclusive_lock) _ (and_right u _ b₄) (eq_make r.awaited_lock exclusive_lock e));
      }
    where
      four : (k : ℕ) → k ≤ a_relaxed → (k ≡ an_update) ⊎ ((k ≡ a_query) ⊎ ((k ≡ a_settled) ⊎ (k ≡ a_relaxed)))
      four k b = go (same? k an_update) (same? k a_query) (same? k a_settled)
        where
          go :
              (k ≡ an_update) ⊎ (k ≢ an_update) → (k ≡ a_query) ⊎ (k ≢ a_query) → (k ≡ a_settled) ⊎ (k ≢ a_settled)
              → (k ≡ an_update) ⊎ ((k ≡ a_query) ⊎ ((k ≡ a_settled) ⊎ (k ≡ a_relaxed)))
          go (inl e) z y = inl e
          go (inr d) (inl e) y = inr (inl e)
          go (inr d) (inr f) (inl e) = inr (inr (inl e))
          go (inr d) (inr f) (inr e) = inr (inr (inr (omega arith)))

      zeros : r.number ≡ 0 → T (all_zero r) → r ≡ no_txn
      zeros e z =
          let z₁ = and_right (eqb r.kind 0) _ z in
          let z₂ = and_right (eqb r.start 0) _ z₁ in
          let k = eqb→eq r.kind 0 (and_left (eqb r.kind 0) _ z) in
          let q = eqb→eq r.start 0 (and_left (eqb r.start 0) _ z₁) in
          let a = eqb→eq r.awaited_lock 0 (and_left (eqb r.awaited_lock 0) _ z₂) in
          let z₃ = and_right (eqb r.awaited_lock 0) _ z₂ in
          let x = eqb→eq r.awaited_item 0 (and_left (eqb r.awaited_item 0) _ z₃) in
          let z₄ = and_right (eqb r.awaited_item 0) _ z₃ in
          let p = eqb→eq r.rank 0 (and_left (eqb r.rank 0) _ z₄) in
          let z₅ = and_right (eqb r.rank 0) _ z₄ in
          let n = eqb→eq r.read_count 0 (and_left (eqb r.read_count 0) _ z₅) in
          let z₆ = and_right (eqb r.read_count 0) _ z₅ in
          let w = eqb→eq r.weight_sum 0 (and_left (eqb r.weight_sum 0) _ z₆) in
          let z₇ = and_right (eqb r.weight_sum 0) _ z₆ in
          let y = eqb→eq r.items_read 0 (and_left (eqb r.items_read 0) _ z₇) in
          let m = eqb→eq r.later_for 0 (and_right (eqb r.items_read 0) _ z₇) in
          λ i. record { number = e i; kind = k i; start = q i; awaited_lock = a i; awaited_item = x i; rank = p i; read_count = n i; weight_sum = w i; items_read = y i; later_for = m i }

  pub Good→txn : GoodTxn S t l s r → T (txn_good S t l s r)
  unfolding txn_good free_zero all_zero listed start_good awaited_good awaiter_good live
  Good→txn g =
      and_both (free_zero r) _ free
      (and_both (leb r.number (last_number t)) _ (le→leb r.number (last_number t) g.given)
      (and_both (listed r) _
      (and_both (leb r.kind a_relaxed) _ (le→leb r.kind a_relaxed (kinds g.kind_listed)) (le→leb r.awaited_lock exclusive_lock g.lock_listed))
      (and_both (start_good (clock t) r) _
      (and_both (implies (live_update r || live_relaxed r) (eqb r.start 0)) _
      (implies_make (live_update r || live_relaxed r) _ (λ z. eq_make r.start 0 (⊎_elim g.update_start g.relaxed_start (or_cases (live_update r) _ z))))
      (and_both (implies (by_start r) (leb r.start (clock t))) _
      (implies_make (by_start r) _ (λ z. le→leb r.start (clock t) (g.reader_start z)))
      (and_both (implies (is_reader r) (eqb r.awaited_lock no_lock)) _
      (implies_make (is_reader r) _ (λ z. eq_make r.awaited_lock no_lock (g.reader_idle z)))
      (implies_make (live_settled r) _ (λ z. le→leb 1 r.start (g.settled_start z))))))
      (and_both (awaited_good S r) _ (awaited (same? r.awaited_lock no_lock))
      (and_both (reads_good r) _ (Good→reads r g.reads_good)
      (and_both (notes_good S r) _ (Good→notes S r g.notes_good)
      (and_both (implies (eqb r.awaited_lock shared_lock) (not (holds h s))) _
      (implies_make (eqb r.awaited_lock shared_lock) _ (λ z. not_make (holds h s) (g.awaits_shared (eqb→eq r.awaited_lock shared_lock z))))
      (implies_make (eqb r.awaited_lock exclusive_lock) _ (λ z. not_make (holds_exclusive h s) (g.awaits_exclusive (eqb→eq r.awaited_lock exclusive_lock z)))))))))))
    where
      kinds : (r.kind ≡ an_update) ⊎ ((r.kind ≡ a_query) ⊎ ((r.kind ≡ a_settled) ⊎ (r.kind ≡ a_relaxed))) → r.kind ≤ a_relaxed
      kinds (inl e) = omega arith
      kinds (inr (inl e)) = omega arith
      kinds (inr (inr (inl e))) = omega arith
      kinds (inr (inr (inr e))) = omega arith

      free : T (implies (not (not (eqb r.number 0))) (all_zero r))
      free = implies_make (not (not (eqb r.number 0))) _ (λ z. go (same? r.number 0) z)
        where
          go : (r.number ≡ 0) ⊎ (r.number ≢ 0) → T (not (not (eqb r.number 0))) → T (all_zero r)
          go (inl e) z = subst (λ (w : Txn). T (all_zero w)) (sym (g.free e)) tt
          go (inr d) z = absurd (not_use (not (eqb r.number 0)) z (ne_make r.number 0 d))

      awaited : (r.awaited_lock ≡ no_lock) ⊎ (r.awaited_lock ≢ no_lock) → T (cond (eqb r.awaited_lock no_lock) (eqb r.awaited_item 0 && eqb r.rank 0) (ltb r.awaited_item S.items))
      awaited (inl e) =
          rw (eq-eqb r.awaited_lock no_lock e)
          (and_both (eqb r.awaited_item 0) _ (eq_make r.awaited_item 0 (g.item_unused e)) (eq_make r.rank 0 (g.rank_unused e)))
      awaited (inr d) = rw (ne_eqb r.awaited_lock no_lock d) (lt→ltb r.awaited_item S.items (g.item_known d))

-- ---- a lock
-- whoever holds it may hold one
pub holder : (S : Sizes) (t : List ℕ) (o : Lock) → GoodLock S t o → (s : ℕ) → T (holds o s) → (s < S.slots) × T (may_hold (txn t s))
unfolding holds
holder S t o g s h = go (or_cases (holds_shared o s) (holds_exclusive o s) h)
  where
    go : T (holds_shared o s) ⊎ T (holds_exclusive o s) → (s < S.slots) × T (may_hold (txn t s))
    go (inl a) = let b = g.sharers s a in (b.0, update-holds (txn t s) b.1)
    go (inr a) = g.excluders s a

module _ (S : Sizes) (t : List ℕ) (o : Lock) where
  abbrev held : ℕ → Bool
  held s = implies (holds_shared o s) (live_update (txn t s)) && implies (holds_exclusive o s) (may_hold (txn t s))

  pub lock→Good : T (lock_good S t o) → GoodLock S t o
  unfolding lock_good holders_live holds holds_shared holds_exclusive
  lock→Good a =
      let a₁ = and_right (holders_live S t o) _ a in
      let b = and_left (holders_live S t o) _ a in
      let b₁ = and_right (ltb o.shared (2 ^ S.slots)) _ b in
      let b₂ = and_right (leb o.exclusive S.slots) _ b₁ in
      record {
        sharers = λ s h.
            let i = bit_below o.shared s S.slots (ltb→lt o.shared (2 ^ S.slots) (and_left (ltb o.shared (2 ^ S.slots)) _ b)) h in
            (i, implies_use (holds_shared o s) _ (and_left (implies (holds_shared o s) (live_update (txn t s))) _ (every_below→ S.slots held b₂ s i)) h);
        excluders = λ s h.
            let i : s < S.slots = (let e = eqb→eq o.exclusive (suc s) h in let q = leb→le o.exclusive S.slots (and_left (leb o.exclusive S.slots) _ b₁) in omega arith) in
            (i, implies_use (holds_exclusive o s) _ (and_right (implies (holds_shared o s) (live_update (txn t s))) _ (every_below→ S.slots held b₂ s i)) h);
        never_both = either (or_cases (eqb o.shared 0) _ (and_left (eqb o.shared 0 || eqb o.exclusive 0) _ a₁));
        no_working = λ e. eqb→eq o.working 0 (implies_use (eqb o.exclusive 0) _ (and_right (eqb o.shared 0 || eqb o.exclusive 0) _ a₁) (eq_make o.exclusive 0 e));
      }
    where
      either : T (eqb o.shared 0) ⊎ T (eqb o.exclusive 0) → (o.shared ≡ 0) ⊎ (o.exclusive ≡ 0)
      either (inl h) = inl (eqb→eq o.shared 0 h)
      either (inr h) = inr (eqb→eq o.exclusive 0 h)

  pub Good→lock : GoodLock S t o → T (lock_good S t o)
  unfolding lock_good holders_live holds holds_shared holds_exclusive
  Good→lock g =
      and_both (holders_live S t o) _
      (and_both (ltb o.shared (2 ^ S.slots)) _
      (lt→ltb o.shared (2 ^ S.slots) (below_bits S.slots o.shared (λ b h. (g.sharers b h).0)))
      (and_both (leb o.exclusive S.slots) _
      (le→leb o.exclusive S.slots (few o.exclusive refl))
      (→every_below S.slots held
      (λ s i.
      and_both (implies (holds_shared o s) (live_update (txn t s))) _ (implies_make (holds_shared o s) _ (λ h. (g.sharers s h).1))
      (implies_make (holds_exclusive o s) _ (λ h. (g.excluders s h).1))))))
      (and_both (eqb o.shared 0 || eqb o.exclusive 0) _ (either g.never_both)
      (implies_make (eqb o.exclusive 0) _ (λ h. eq_make o.working 0 (g.no_working (eqb→eq o.exclusive 0 h)))))
    where
      few : (e : ℕ) → o.exclusive ≡ e → e ≤ S.slots
      few ℕ.zero q = omega arith
      few (suc b) q = (g.excluders b (eq_make o.exclusive (suc b) q)).0

      either : (o.shared ≡ 0) ⊎ (o.exclusive ≡ 0) → T (eqb o.shared 0 || eqb o.exclusive 0)
      either (inl e) = or_left (eqb o.shared 0) _ (eq_make o.shared 0 e)
      either (inr e) = or_right (eqb o.shared 0) _ (eq_make o.exclusive 0 e)
