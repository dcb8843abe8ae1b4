-- What is known of the tables once the rows and the locks passed.
use Prim.Native.Nat.{ℕ, suc, ◌<◌}
use mathlib.Core.Path.{◌≡◌, refl, sym, ap, subst}
use mathlib.Core.Logic.{◌≢◌, ◌⊎◌, inl, inr}
use mathlib.Core.Bool.{Bool, true, false, ◌&&◌, not}
use mathlib.Core.List.{List, []}
use lib.ListN.{length}
use lib.Dec.{T, eqb, leb, eqb-zero-suc}
use Rattle.names.specs.Sizes.{base}
use Rattle.rules.specs.Words.{bit, implies}
use Rattle.rules.specs.Tables.{txn_words, lock_words, last_number, clock, Txn, txn, live, live_update, an_update, a_query, a_settled, a_relaxed, no_lock, shared_lock, exclusive_lock}
use Rattle.rules.specs.Tables.{lock, holds, holds_shared, holds_exclusive}
use Rattle.rules.specs.Good.{GoodTxn}
use Rattle.rules.specs.Tested.{tops_most, free_zero, listed, start_good, awaited_good, reads_good, notes_good, awaiter_good, txn_good, lock_good}
use Rattle.rules.proofs.Tests.{and_right, and_both, or_cases, or_right, not_make, implies_make, ne_make, false_is}
use Rattle.rules.proofs.Counts.{every_below→}
use Rattle.rules.proofs.Bits.{bit_none, slots_at, slots_lt}
use Rattle.rules.proofs.RowKinds.{free_or_live, live-update, live-query, live-settled, live-relaxed, query-reads, settled-reads, relaxed-reads}
use Rattle.rules.proofs.EqualRows.{txn→Good, lock→Good, holder}
use Rattle.shapes.specs.Shape.{row_good, rows_good, waits, waiting_in}
use Rattle.holdings.specs.Holding.{locks_good}
use Rattle.waiting.specs.Waiting.{Readable, Awaiting}

-- ---- the rules' test of a row, in two parts
and_out : (a b c d e f g h : Bool) → (a && (b && (c && (d && (e && (f && (g && h))))))) ≡ ((a && (b && (c && (d && (e && (f && g)))))) && h)
and_out false b c d e f g h = refl
and_out true false c d e f g h = refl
and_out true true false d e f g h = refl
and_out true true true false e f g h = refl
and_out true true true true false f g h = refl
and_out true true true true true false g h = refl
and_out true true true true true true g h = refl

pub row_parts : (t l : List ℕ) (s : ℕ) (r : Txn) → txn_good base t l s r ≡ (row_good base t r && awaiter_good s r (lock l r.awaited_item))
unfolding txn_good row_good
row_parts t l s r = and_out (free_zero r) (leb r.number (last_number t)) (listed r) (start_good (clock t) r) (awaited_good base r) (reads_good r) (notes_good base r) (awaiter_good s r (lock l r.awaited_item))

-- nobody holds a lock in no words
unheld : (s x : ℕ) → T (holds (lock [] x) s) → ⊥
unfolding holds holds_shared holds_exclusive lock
unheld s x h = go (or_cases (bit 0 s) _ h)
  where
    go : T (bit 0 s) ⊎ T (eqb 0 (suc s)) → ⊥
    go (inl k) = false_is (bit_none s) k
    go (inr k) = false_is (eqb-zero-suc s) k

-- so a row that passes alone is good without locks
pub row→Good : (t : List ℕ) (s : ℕ) (r : Txn) → T (row_good base t r) → GoodTxn base t [] s r
unfolding awaiter_good holds
row→Good t s r h =
    txn→Good base t [] s r
    (subst T (sym (row_parts t [] s r))
    (and_both (row_good base t r) _ h
    (and_both (implies (eqb r.awaited_lock shared_lock) (not (holds (lock [] r.awaited_item) s))) _
    (implies_make (eqb r.awaited_lock shared_lock) _ (λ e. not_make (holds (lock [] r.awaited_item) s) (unheld s r.awaited_item)))
    (implies_make (eqb r.awaited_lock exclusive_lock) _ (λ e. not_make (holds_exclusive (lock [] r.awaited_item) s) (λ k. unheld s r.awaited_item (both k)))))))
  where
    both : T (holds_exclusive (lock [] r.awaited_item) s) → T (holds (lock [] r.awaited_item) s)
    both k = or_right (holds_shared (lock [] r.awaited_item) s) _ k

-- who awaits a lock is a live update
pub awaits-live : (t : List ℕ) (s : ℕ) (r : Txn) → GoodTxn base t [] s r → r.awaited_lock ≢ no_lock → T (waits r)
unfolding waits
awaits-live t s r g d = and_both (live_update r) _ (go (free_or_live r)) (ne_make r.awaited_lock no_lock d)
  where
    kind : T (live r) → (r.kind ≡ an_update) ⊎ ((r.kind ≡ a_query) ⊎ ((r.kind ≡ a_settled) ⊎ (r.kind ≡ a_relaxed))) → T (live_update r)
    kind a (inl e) = live-update r a e
    kind a (inr (inl e)) = absurd (d (g.reader_idle (query-reads r (live-query r a e))))
    kind a (inr (inr (inl e))) = absurd (d (g.reader_idle (settled-reads r (live-settled r a e))))
    kind a (inr (inr (inr e))) = absurd (d (g.reader_idle (relaxed-reads r (live-relaxed r a e))))

    go : (r.number ≡ 0) ⊎ T (live r) → T (live_update r)
    go (inl e) = absurd (d (ap (λ (q : Txn). q.awaited_lock) (g.free e)))
    go (inr a) = kind a g.kind_listed

-- ---- all rows and all locks
module _ (t : List ℕ) (h : T (rows_good base t)) where
  row_at : (s : ℕ) → s < base.slots → GoodTxn base t [] s (txn t s)
  unfolding rows_good
  row_at s i = row→Good t s (txn t s) (every_below→ base.slots (λ s. row_good base t (txn t s)) (and_right (tops_most t) _ h) s i)

  pub awaiting : Awaiting t (waiting_in base t)
  unfolding waiting_in
  awaiting =
      record {
        small = slots_lt base.slots (λ s. waits (txn t s));
        all = λ s i d. subst T (sym (slots_at base.slots (λ s. waits (txn t s)) s i)) (awaits-live t s (txn t s) (row_at s i) d);
      }

  pub readable : (l : List ℕ) → length t ≡ txn_words base → length l ≡ lock_words base → T (locks_good base t l) → Readable t l
  unfolding locks_good
  readable l zt zl k =
      record {
        txns_exact = zt;
        locks_exact = zl;
        lock_listed = λ s i. (row_at s i).lock_listed;
        item_known = λ s i. (row_at s i).item_known;
        inside = λ x i b a. (holder base t (lock l x) (lock→Good base t (lock l x) (every_below→ base.items (λ x. lock_good base t (lock l x)) k x i)) b a).0;
      }
