-- Which words of the transactions and of the locks a begin, a wait, a grant, an abort write, and that no other word changes.
use Prim.Native.Nat.{ℕ, zero, suc, ◌+◌, ◌*◌, ◌≤◌, ◌<◌}
use mathlib.Core.Path.{◌≡◌, refl, sym, ap, ◌∙◌, subst}
use mathlib.Core.Logic.{◌≢◌, ◌⊎◌, inl, inr}
use mathlib.Core.Bool.{Bool, true, false, ◌&&◌, not, cond}
use mathlib.Core.List.{List}
use native.Mathlib.Omega.{arith}
use native.Mathlib.Nat.{add-zero}
use lib.ListN.{length, get_or, set, length-set}
use lib.Seq.{get_or-set_same, get_or-set_other}
use lib.Bits.{bit_or}
use lib.Dec.{T, eqb, ltb, eqb→eq}
use borrow.Author.Tests.{ltb-true, ltb-false}
use Rattle.names.specs.declared.Sizes.{Sizes}
use Rattle.names.specs.Layout.{last_number_at, clock_at, txn_head, txn_lock_at, txn_item_at, txn_rank_at, txn_later_for_at, txn_row}
use Rattle.rules.specs.Words.{bit, without_bit}
use Rattle.rules.specs.Tables.{Tables, txn_at, txn_words, lock_row, lock_words, last_number, clock, Txn, txn, set_txn, set_awaited, set_later_for, with_later_for, no_txn, new_txn, live_settled, a_settled}
use Rattle.rules.specs.Tables.{no_lock, shared_lock, exclusive_lock, Lock, lock, set_lock, holds, holds_shared, holds_exclusive, released, release, unshared, unshare}
use Rattle.rules.specs.Waits.{awaits, awaits_on, lowered, closed_up}
use Rattle.rules.specs.Good.{Good}
use Rattle.rules.specs.Changed.{Elsewhere, RowChanged, WordAndRowChanged, AwaitedChanged, RowAndRanksChanged, NoRank, leaving, LockChanged, LocksReleased, newcomer, Begun, sets_after, Locked, Aborted, SharesGone, Settled}
use Rattle.rules.specs.Step.{begun, joined, grant_joins, cleared, locked, locked_anew, aborted, settled, awaits_other, replaced, with_txns, with_locks}
use Rattle.rules.proofs.Tests.{and_left, and_right, and_both, or_left, or_right, is_false, false_is, not_make, ne_make, same?}
use Rattle.rules.proofs.RowKinds.{settled-reads}
use Rattle.rules.proofs.Joined.{joined_length, joined_here, joined_same}
use Rattle.rules.proofs.EqualRanks.{awaits→}
use Rattle.rules.proofs.Noting.{closed-length, closed-row, closed-word, closed_none}
use Rattle.rules.proofs.Views.{length-set_txn, outside-set_txn, txn-set_txn, set_awaited-same, lock-set_lock, length-set_lock, lock-release, length-release, lock-unshare, length-unshare}

-- ---- rows of the transactions
module _ (S : Sizes) (t : List ℕ) (exact : length t ≡ txn_words S) (s : ℕ) (inside : s < S.slots) where
  elsewhere : (u : List ℕ) (r : Txn) (j : ℕ) → Elsewhere s j → get_or (set_txn u s r) j 0 ≡ get_or u j 0
  elsewhere u r j o = outside-set_txn u s r j o

  pub set_txn-changes : (r : Txn) → RowChanged s r t (set_txn t s r)
  set_txn-changes r = record { size = length-set_txn t s r; here = txn-set_txn t s r S exact inside; others = elsewhere t r }

  -- with one of the two words before the rows
  pub top-changes : (w v : ℕ) → w < txn_head → (r : Txn) → WordAndRowChanged w v s r t (set_txn (set t w v) s r)
  top-changes w v h r =
      record {
        size = length-set_txn (set t w v) s r ∙ length-set t w v;
        word = elsewhere (set t w v) r w (inl (omega arith)) ∙ get_or-set_same t w v 0 (omega arith);
        here = txn-set_txn (set t w v) s r S (length-set t w v ∙ exact) inside;
        others = λ j d e. elsewhere (set t w v) r j e ∙ get_or-set_other t w j v 0 d;
      }

  -- ---- the awaited fields written in u, which is t but for its ranks
  module _ (u : List ℕ) (f : Txn → ℕ) (size : length u ≡ length t)
      (ranks : (r : ℕ) → r < S.slots → (txn u r).rank ≡ f (txn t r)) (others : (j : ℕ) → NoRank S.slots j → get_or u j 0 ≡ get_or t j 0)
    where
      pub awaited-changes : (k x p : ℕ) → AwaitedChanged S s k x p (txn t s).later_for f t (set_awaited u s k x p)
      unfolding set_awaited txn
      awaited-changes k x p =
          record {
            size = simp length-set size;
            awaited_lock =
                rw (get_or-set_other _ (txn_at s + txn_rank_at) (txn_at s + txn_lock_at) p 0 (omega arith), get_or-set_other _ (txn_at s + txn_item_at) (txn_at s + txn_lock_at) x 0 (omega arith))
                (get_or-set_same u (txn_at s + txn_lock_at) k 0 (omega arith));
            awaited_item =
                rw (get_or-set_other _ (txn_at s + txn_rank_at) (txn_at s + txn_item_at) p 0 (omega arith))
                (get_or-set_same (set u (txn_at s + txn_lock_at) k) (txn_at s + txn_item_at) x 0 (simp length-set (omega arith)));
            rank = get_or-set_same (set (set u (txn_at s + txn_lock_at) k) (txn_at s + txn_item_at) x) (txn_at s + txn_rank_at) p 0 (simp length-set (omega arith));
            later_for =
                rw (
                  get_or-set_other _ (txn_at s + txn_rank_at) (txn_at s + txn_later_for_at) p 0 (omega arith),
                  get_or-set_other _ (txn_at s + txn_item_at) (txn_at s + txn_later_for_at) x 0 (omega arith),
                  get_or-set_other _ (txn_at s + txn_lock_at) (txn_at s + txn_later_for_at) k 0 (omega arith),
                )
                (others (txn_at s + txn_later_for_at) (λ r i e. omega arith));
            ranks = λ r i d.
                rw (
                  get_or-set_other _ (txn_at s + txn_rank_at) (txn_at r + txn_rank_at) p 0 (omega arith),
                  get_or-set_other _ (txn_at s + txn_item_at) (txn_at r + txn_rank_at) x 0 (omega arith),
                  get_or-set_other _ (txn_at s + txn_lock_at) (txn_at r + txn_rank_at) k 0 (omega arith),
                )
                (ranks r i);
            others = λ j m n l o.
                get_or-set_other (set (set u (txn_at s + txn_lock_at) k) (txn_at s + txn_item_at) x) (txn_at s + txn_rank_at) j p 0 (o s inside)
                ∙ get_or-set_other (set u (txn_at s + txn_lock_at) k) (txn_at s + txn_item_at) j x 0 n
                ∙ get_or-set_other u (txn_at s + txn_lock_at) j k 0 m
                ∙ others j o;
          }

      -- the row written
      pub row-changes : (r : Txn) → RowAndRanksChanged S s r f t (set_txn u s r)
      unfolding txn
      row-changes r =
          record {
            size = length-set_txn u s r ∙ size;
            here = unfold txn in (txn-set_txn u s r S (size ∙ exact) inside);
            words = λ q i d. outside-set_txn u s r (txn_at q + txn_rank_at) (beside q d) ∙ ranks q i;
            others = λ j e o. outside-set_txn u s r j e ∙ others j o;
          }
        where
          beside : (q : ℕ) → q ≢ s → (txn_at q + txn_rank_at < txn_at s) ⊎ (txn_at s + txn_row ≤ txn_at q + txn_rank_at)
          beside q d = go (ltb q s) refl
            where
              go : (b : Bool) → ltb q s ≡ b → (txn_at q + txn_rank_at < txn_at s) ⊎ (txn_at s + txn_row ≤ txn_at q + txn_rank_at)
              go true e = let l = ltb-true q s e in inl (omega arith)
              go false e = let l = ltb-false q s e in inr (omega arith)

  pub cleared-changes : AwaitedChanged S s no_lock 0 0 (txn t s).later_for (leaving t s) t (cleared S t s)
  unfolding cleared
  cleared-changes =
      awaited-changes (closed_up S t s) (leaving t s) (closed-length S t s) (λ r i. ap (λ (w : Txn). w.rank) (closed-row S t s exact r i)) (closed-word S t s) no_lock 0 0

  pub closed-changes : (r : Txn) → RowAndRanksChanged S s r (leaving t s) t (set_txn (closed_up S t s) s r)
  closed-changes r =
      row-changes (closed_up S t s) (leaving t s) (closed-length S t s) (λ r i. ap (λ (w : Txn). w.rank) (closed-row S t s exact r i)) (closed-word S t s) r

-- ---- request E11: sets are joined besides
-- afterwards
pub joined-after :
    (S : Sizes) (s k x p m w : ℕ) (f : Txn → ℕ) (t u : List ℕ) → length t ≡ txn_words S → s < S.slots
    → AwaitedChanged S s k x p m f t u → AwaitedChanged S s k x p (bit_or m w) f t (joined u s w)
unfolding joined set_later_for txn
joined-after S s k x p m w f t u exact inside a =
    record {
      size = length-set u (txn_at s + txn_later_for_at) _ ∙ a.size;
      awaited_lock = get_or-set_other u (txn_at s + txn_later_for_at) (txn_at s + txn_lock_at) _ 0 (omega arith) ∙ a.awaited_lock;
      awaited_item = get_or-set_other u (txn_at s + txn_later_for_at) (txn_at s + txn_item_at) _ 0 (omega arith) ∙ a.awaited_item;
      rank = get_or-set_other u (txn_at s + txn_later_for_at) (txn_at s + txn_rank_at) _ 0 (omega arith) ∙ a.rank;
      later_for =
          get_or-set_same u (txn_at s + txn_later_for_at) (bit_or (get_or u (txn_at s + txn_later_for_at) 0) w) 0 (let e = a.size in omega arith)
          ∙ ap (λ (j : ℕ). bit_or j w) a.later_for;
      ranks = λ r i d. get_or-set_other u (txn_at s + txn_later_for_at) (txn_at r + txn_rank_at) _ 0 (omega arith) ∙ a.ranks r i d;
      others = λ j c d l n. get_or-set_other u (txn_at s + txn_later_for_at) j _ 0 l ∙ a.others j c d l n;
    }

-- before, in what leaves a line
joined-before :
    (S : Sizes) (s k x p m w : ℕ) (t u : List ℕ) → length t ≡ txn_words S → s < S.slots
    → AwaitedChanged S s k x p m (leaving (joined t s w) s) (joined t s w) u → AwaitedChanged S s k x p m (leaving t s) t u
joined-before S s k x p m w t u exact inside a =
    record {
      size = a.size ∙ joined_length t s w;
      awaited_lock = a.awaited_lock;
      awaited_item = a.awaited_item;
      rank = a.rank;
      later_for = a.later_for;
      ranks = λ r i d. a.ranks r i d ∙ lines r;
      others = λ j c d l n. a.others j c d l n ∙ (unfold joined set_later_for in (get_or-set_other t (txn_at s + txn_later_for_at) j _ 0 l));
    }
  where
    same : {A : Type 0} (h : Txn → A) → ((r : Txn) (v : ℕ) → h (with_later_for r v) ≡ h r) → (r : ℕ) → h (txn (joined t s w) r) ≡ h (txn t r)
    same = joined_same t s w S exact inside

    -- the line that s leaves is the same
    place : Txn → Txn → ℕ
    place q r = cond (awaits q) (lowered q.awaited_item q.rank r) r.rank

    lines : (r : ℕ) → leaving (joined t s w) s (txn (joined t s w) r) ≡ leaving t s (txn t r)
    lines r =
        unfold awaits lowered awaits_on in
        (same (λ (q : Txn). place q (txn (joined t s w) r)) (λ q v. refl) s ∙ same (λ (q : Txn). place (txn t s) q) (λ q v. refl) r)

-- where nothing is awaited there is nothing to clear
pub cleared-same : (S : Sizes) (t : List ℕ) (s : ℕ) → (txn t s).awaited_lock ≡ no_lock → (txn t s).awaited_item ≡ 0 → (txn t s).rank ≡ 0 → cleared S t s ≡ t
unfolding cleared
cleared-same S t s e f p =
    ap (λ (u : List ℕ). set_awaited u s no_lock 0 0) (closed_none S t s (λ h. awaits→ (txn t s) h e))
    ∙ ap (λ (k : ℕ). set_awaited t s k 0 0) (sym e)
    ∙ ap (λ (x : ℕ). set_awaited t s (txn t s).awaited_lock x 0) (sym f)
    ∙ ap (λ (q : ℕ). set_awaited t s (txn t s).awaited_lock (txn t s).awaited_item q) (sym p)
    ∙ set_awaited-same t s

-- ---- locks
pub set_lock-changes :
    (S : Sizes) (l : List ℕ) → length l ≡ lock_words S → (x : ℕ) → x < S.items → (h : Lock) → LockChanged x h l (set_lock l x h)
unfolding set_lock
set_lock-changes S l e x known h =
    record { size = length-set_lock l x h; here = lock-set_lock l x h S e known; others = out }
  where
    apart : (j : ℕ) → j ≢ 3 * x → j ≢ 3 * x + 1 → j ≢ 3 * x + 2 → get_or (set_lock l x h) j 0 ≡ get_or l j 0
    apart j a b c = rw (get_or-set_other _ (3 * x + 2) j h.working 0 c, get_or-set_other _ (3 * x + 1) j h.exclusive 0 b, get_or-set_other _ (3 * x) j h.shared 0 a)

    out : (j : ℕ) → (j < lock_row * x) ⊎ (lock_row * x + lock_row ≤ j) → get_or (set_lock l x h) j 0 ≡ get_or l j 0
    out j (inl b) = apart j (omega arith) (omega arith) (omega arith)
    out j (inr b) = apart j (omega arith) (omega arith) (omega arith)

-- a lock that s does not hold stays as it is
pub released-other : (s : ℕ) (h : Lock) → (T (holds h s) → ⊥) → released s h ≡ h
unfolding released without_bit holds holds_shared
released-other s h n =
    let e : holds_exclusive h s ≡ false = is_false (holds_exclusive h s) (λ a. n (or_right (bit h.shared s) _ a)) in
    let f : bit h.shared s ≡ false = is_false (bit h.shared s) (λ a. n (or_left (bit h.shared s) _ a)) in
    rw (e, f)

-- equal locks are equal words
lock-word : (l l' : List ℕ) (x k : ℕ) → k < lock_row → lock l' x ≡ lock l x → get_or l' (lock_row * x + k) 0 ≡ get_or l (lock_row * x + k) 0
unfolding lock
lock-word l l' x zero b e = rw add-zero (ap (λ (h : Lock). h.shared) e)
lock-word l l' x (suc zero) b e = ap (λ (h : Lock). h.exclusive) e
lock-word l l' x (suc (suc zero)) b e = ap (λ (h : Lock). h.working) e
lock-word l l' x (suc (suc (suc k))) b e = absurd (omega arith)

pub release-changes : (S : Sizes) (s : ℕ) (l : List ℕ) → length l ≡ lock_words S → LocksReleased S s l (release S s l)
release-changes S s l e =
    record {
      size = length-release S s l e ∙ sym e;
      each = lock-release S s l e;
      others = λ x k i b n. lock-word l (release S s l) x k b (lock-release S s l e x i ∙ released-other s (lock l x) n);
    }

-- a lock that s does not share stays as it is
unshared-other : (s : ℕ) (h : Lock) → (T (holds_shared h s) → ⊥) → unshared s h ≡ h
unfolding without_bit holds_shared
unshared-other s h n = let f : bit h.shared s ≡ false = is_false (bit h.shared s) n in rw f

unshare-changes : (S : Sizes) (s : ℕ) (l : List ℕ) → length l ≡ lock_words S → SharesGone S s l (unshare S s l)
unshare-changes S s l e =
    record {
      size = length-unshare S s l e ∙ sym e;
      each = lock-unshare S s l e;
      others = λ x k i b n. lock-word l (unshare S s l) x k b (lock-unshare S s l e x i ∙ unshared-other s (lock l x) n);
    }

-- ---- the calls' own
module _ (S : Sizes) (G : Tables) (g : Good S G) (s : ℕ) (inside : s < S.slots) where
  pub begun-changes : (k q : ℕ) → Begun s k q G (begun k q s G)
  unfolding begun
  begun-changes k q =
      record {
        txns = top-changes S G.txns g.txns_exact s inside last_number_at (last_number G.txns + 1) (omega arith) (newcomer G k q);
        locks = refl;
        versions = refl;
      }

  pub anew_changes : (k x : ℕ) → x < S.items → (h : Lock) → Locked S s x (sets_after S G s k x) h G (locked_anew S s k x h G)
  unfolding locked_anew locked
  anew_changes k x known h =
      let w = grant_joins S G k x in
      let u = joined G.txns s w in
      record {
        txns =
            joined-before S s no_lock 0 0 _ w G.txns (cleared S u s) g.txns_exact inside
            (subst (λ (m : ℕ). AwaitedChanged S s no_lock 0 0 m (leaving u s) u (cleared S u s))
            (ap (λ (r : Txn). r.later_for) (joined_here G.txns s w S g.txns_exact inside))
            (cleared-changes S u (joined_length G.txns s w ∙ g.txns_exact) s inside));
        locks = set_lock-changes S G.locks g.locks_exact x known h;
        versions = refl;
      }

  pub aborted-changes : Aborted S s G (aborted S s G)
  unfolding aborted
  aborted-changes =
      record {
        txns = closed-changes S G.txns g.txns_exact s inside no_txn;
        locks = release-changes S s G.locks g.locks_exact;
        versions = refl;
      }

  -- ---- who holds an item and may call awaits nothing: its awaited lock would be the one that it has
  module _ (x : ℕ) (known : x < S.items) where
    -- a caller that passes test 6 awaits nothing or this very lock
    awaits_this :
        (k : ℕ) → awaits_other G.txns s k x ≡ false
        → ((txn G.txns s).awaited_lock ≢ no_lock → (txn G.txns s).awaited_lock ≡ k → (txn G.txns s).awaited_item ≡ x → ⊥)
        → cleared S G.txns s ≡ G.txns
    unfolding awaits_other
    awaits_this k e n = go (same? m no_lock)
      where
        m : ℕ
        m = (txn G.txns s).awaited_lock

        y : ℕ
        y = (txn G.txns s).awaited_item

        other : m ≢ no_lock → T (eqb m k && eqb y x) → ⊥
        other d t =
            n d (eqb→eq m k (and_left (eqb m k) (eqb y x) t))
            (eqb→eq y x (and_right (eqb m k) (eqb y x) t))

        go : (m ≡ no_lock) ⊎ (m ≢ no_lock) → cleared S G.txns s ≡ G.txns
        go (inl z) = cleared-same S G.txns s z ((g.txn_good s inside).item_unused z) ((g.txn_good s inside).rank_unused z)
        go (inr d) =
            absurd (false_is e (and_both (not (eqb m no_lock)) _ (ne_make m no_lock d) (not_make (eqb m k && eqb y x) (other d))))

    abbrev h : Lock
    h = lock G.locks x

    read-idle : T (holds (lock G.locks x) s) → awaits_other G.txns s shared_lock x ≡ false → cleared S G.txns s ≡ G.txns
    read-idle a e =
        awaits_this shared_lock e
        (λ d q z. (g.txn_good s inside).awaits_shared q (subst (λ (y : ℕ). T (holds (lock G.locks y) s)) (sym z) a))

    write-idle : T (holds_exclusive (lock G.locks x) s) → awaits_other G.txns s exclusive_lock x ≡ false → cleared S G.txns s ≡ G.txns
    write-idle a e =
        awaits_this exclusive_lock e
        (λ d q z. (g.txn_good s inside).awaits_exclusive q (subst (λ (y : ℕ). T (holds_exclusive (lock G.locks y) s)) (sym z) a))

    -- a granted read of an item that the caller holds leaves the very same tables
    pub own_unchanged :
        T (holds (lock G.locks x) s) → awaits_other G.txns s shared_lock x ≡ false → with_txns G (cleared S G.txns s) ≡ G
    own_unchanged a e = ap (with_txns G) (read-idle a e)

    -- and a granted write of one that it holds exclusively writes the working value alone
    pub replace_unchanged :
        (v : ℕ) → T (holds_exclusive (lock G.locks x) s) → awaits_other G.txns s exclusive_lock x ≡ false
        → locked S s x (replaced (lock G.locks x) v) G ≡ with_locks G G.txns (set_lock G.locks x (replaced (lock G.locks x) v))
    unfolding locked
    replace_unchanged v a e = ap (λ (t : List ℕ). with_locks G t (set_lock G.locks x (replaced h v))) (write-idle a e)

  -- ---- request E6: one past its writing awaits nothing
  module _ (past : T (live_settled (txn G.txns s))) where
    past-idle : cleared S G.txns s ≡ G.txns
    past-idle =
        let o = g.txn_good s inside in
        let z = o.reader_idle (settled-reads (txn G.txns s) past) in
        cleared-same S G.txns s z (o.item_unused z) (o.rank_unused z)

    pub past-unchanged : with_txns G (cleared S G.txns s) ≡ G
    past-unchanged = ap (with_txns G) past-idle

    pub past-replaced :
        (x v : ℕ) → locked S s x (replaced (lock G.locks x) v) G ≡ with_locks G G.txns (set_lock G.locks x (replaced (lock G.locks x) v))
    unfolding locked
    past-replaced x v = ap (λ (t : List ℕ). with_locks G t (set_lock G.locks x (replaced (lock G.locks x) v))) past-idle

  -- "the clock moves there, .. and its shared locks go. Its row then has kind 2 and that stamp as start."
  pub settled-changes : Settled S s G (settled S s G)
  unfolding settled
  settled-changes =
      record {
        txns = top-changes S G.txns g.txns_exact s inside clock_at (clock G.txns + 1) (omega arith) (new_txn (txn G.txns s).number a_settled (clock G.txns + 1));
        locks = unshare-changes S s G.locks g.locks_exact;
        versions = refl;
      }
