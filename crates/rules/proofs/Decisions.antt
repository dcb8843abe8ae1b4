-- The table of six cells against the conflict of wanted and held locks, on good tables.
use Prim.Native.Nat.{ℕ, zero, suc, ◌<◌}
use mathlib.Core.Path.{◌≡◌, refl, sym, ap, ◌∙◌, subst}
use mathlib.Core.Logic.{◌≢◌, ◌⊎◌, inl, inr, ◌↔◌, ⊎_elim}
use mathlib.Core.Bool.{Bool, true, false, ◌&&◌, ◌||◌, not, cond}
use mathlib.Core.List.{List}
use native.Mathlib.Omega.{arith}
use lib.Dec.{T, eqb, eqb→eq}
use Rattle.names.specs.declared.Sizes.{Sizes}
use Rattle.rules.specs.Words.{bit, without_bit}
use Rattle.rules.specs.Tables.{Tables, txn, Lock, lock, holds, holds_shared, holds_exclusive, no_lock, shared_lock, exclusive_lock}
use Rattle.rules.specs.Waits.{rank_for, conflicts, ahead, blocks, blocked}
use Rattle.rules.specs.Good.{Good}
use Rattle.rules.specs.Locks.{Asked, to_read, to_write, wanted, exclusively, sharing, nothing, held_by, decide, decision}
use Rattle.rules.specs.Locks.{Cell, OwnValue, ReplaceValue, NewestValue, ExchangeLock, TakeShared, TakeExclusive, Conflict}
use Rattle.rules.specs.Locks.{another_shares, another_excludes, another_ahead}
use Rattle.rules.specs.Answers.{granted}
use Rattle.rules.specs.Step.{cell_deed, conflicted, access, done}
use Rattle.rules.specs.Conditions.{NeedsLock}
use Rattle.rules.proofs.EqualRows.{holder}
use Rattle.rules.proofs.Tests.{and_left, and_right, and_both, or_cases, or_left, or_right, true_is, false_is, ne_make, ne_use, eq_make, is_false, same?}
use Rattle.rules.proofs.Counts.{some_below→, →some_below}
use Rattle.rules.proofs.Walks.{blocks→, →blocks}
use Rattle.rules.proofs.Bits.{bit_none, no_bits, without_bit_here, without_bit_there}

-- a wanted lock is a lock
pub wanted-lock : (a : Asked) → wanted a ≢ no_lock
wanted-lock to_read e = omega arith
wanted-lock to_write e = omega arith

-- ---- who is in the way of a request by slot s, at the rank that it has
abbrev pub blocked_for : Sizes → List ℕ → List ℕ → ℕ → ℕ → ℕ → Bool
blocked_for S t l k x s = blocked S t l k x (rank_for S t l s x) s

pub blocked-other :
    (S : Sizes) (t l : List ℕ) (k x s : ℕ) → T (blocked_for S t l k x s) ↔ ((b : ℕ) × (b < S.slots) × T (blocks t l k x (rank_for S t l s x) s b))
unfolding blocked
blocked-other S t l k x s =
    (some_below→ S.slots (blocks t l k x (rank_for S t l s x) s), λ r. →some_below S.slots (blocks t l k x (rank_for S t l s x) s) r.0 r.1 r.2)

-- the two ways to hold in conflict
pub conflicts_cases : (h : Lock) (k b : ℕ) → T (conflicts h k b) → T (holds_exclusive h b) ⊎ ((k ≡ exclusive_lock) × T (holds_shared h b))
unfolding conflicts
conflicts_cases h k b t = go (or_cases (holds_exclusive h b) (eqb k exclusive_lock && holds_shared h b) t)
  where
    go :
        T (holds_exclusive h b) ⊎ T (eqb k exclusive_lock && holds_shared h b)
        → T (holds_exclusive h b) ⊎ ((k ≡ exclusive_lock) × T (holds_shared h b))
    go (inl e) = inl e
    go (inr e) = inr (eqb→eq k exclusive_lock (and_left (eqb k exclusive_lock) _ e), and_right (eqb k exclusive_lock) _ e)

-- ---- the three tests of the table are the conflict
-- what the table asks of the others, for a call to read and for a call to write
unfoldable against : Asked → Bool → Bool → Bool → Bool
against to_read shares excludes earlier = excludes || earlier
against to_write shares excludes earlier = shares || (excludes || earlier)

module _ (S : Sizes) (t l : List ℕ) (x s : ℕ) where
  abbrev o : Lock
  o = lock l x

  another_shares_lem : (b : ℕ) → b < S.slots → s ≢ b → T (holds_shared (lock l x) b) → T (another_shares S (lock l x) s)
  unfolding another_shares
  another_shares_lem b i d h =
      →some_below S.slots (λ b. not (eqb s b) && holds_shared o b) b i (and_both (not (eqb s b)) _ (ne_make s b d) h)

  another_excludes_lem : (b : ℕ) → b < S.slots → s ≢ b → T (holds_exclusive (lock l x) b) → T (another_excludes S (lock l x) s)
  unfolding another_excludes
  another_excludes_lem b i d h =
      →some_below S.slots (λ b. not (eqb s b) && holds_exclusive o b) b i (and_both (not (eqb s b)) _ (ne_make s b d) h)

  another_ahead_lem : (k b : ℕ) → b < S.slots → s ≢ b → T (ahead x k (rank_for S t l s x) (txn t b)) → T (another_ahead S t l k x s)
  unfolding another_ahead
  another_ahead_lem k b i d h =
      →some_below S.slots (λ b. not (eqb s b) && ahead x k (rank_for S t l s x) (txn t b)) b i (and_both (not (eqb s b)) _ (ne_make s b d) h)

  shares_another : T (another_shares S (lock l x) s) → (b : ℕ) × (b < S.slots) × (s ≢ b) × T (holds_shared (lock l x) b)
  unfolding another_shares
  shares_another h =
      let r = some_below→ S.slots (λ b. not (eqb s b) && holds_shared o b) h in
      (r.0, r.1, ne_use s r.0 (and_left (not (eqb s r.0)) _ r.2), and_right (not (eqb s r.0)) _ r.2)

  excludes_another : T (another_excludes S (lock l x) s) → (b : ℕ) × (b < S.slots) × (s ≢ b) × T (holds_exclusive (lock l x) b)
  unfolding another_excludes
  excludes_another h =
      let r = some_below→ S.slots (λ b. not (eqb s b) && holds_exclusive o b) h in
      (r.0, r.1, ne_use s r.0 (and_left (not (eqb s r.0)) _ r.2), and_right (not (eqb s r.0)) _ r.2)

  ahead_another : (k : ℕ) → T (another_ahead S t l k x s) → (b : ℕ) × (b < S.slots) × (s ≢ b) × T (ahead x k (rank_for S t l s x) (txn t b))
  unfolding another_ahead
  ahead_another k h =
      let r = some_below→ S.slots (λ b. not (eqb s b) && ahead x k (rank_for S t l s x) (txn t b)) h in
      (r.0, r.1, ne_use s r.0 (and_left (not (eqb s r.0)) _ r.2), and_right (not (eqb s r.0)) _ r.2)

  blocked_against : (a : Asked) → T (blocked_for S t l (wanted a) x s) → T (against a (another_shares S (lock l x) s) (another_excludes S (lock l x) s) (another_ahead S t l (wanted a) x s))
  blocked_against a h = go a ((blocked-other S t l (wanted a) x s).0 h)
    where
      go :
          (a : Asked) → ((b : ℕ) × (b < S.slots) × T (blocks t l (wanted a) x (rank_for S t l s x) s b))
          → T (against a (another_shares S o s) (another_excludes S o s) (another_ahead S t l (wanted a) x s))
      go a (b, i, u) = pick a b i (blocks→ t l (wanted a) x (rank_for S t l s x) s b u)
        where
          pick :
              (a : Asked) (b : ℕ) → b < S.slots → (s ≢ b) × (T (conflicts o (wanted a) b) ⊎ T (ahead x (wanted a) (rank_for S t l s x) (txn t b)))
              → T (against a (another_shares S o s) (another_excludes S o s) (another_ahead S t l (wanted a) x s))
          pick to_read b i (d, inr c) = unfold against in or_right (another_excludes S o s) _ (another_ahead_lem shared_lock b i d c)
          pick to_write b i (d, inr c) =
              unfold against in or_right (another_shares S o s) _ (or_right (another_excludes S o s) _ (another_ahead_lem exclusive_lock b i d c))
          pick to_read b i (d, inl c) = held (conflicts_cases o shared_lock b c)
            where
              held : T (holds_exclusive o b) ⊎ ((shared_lock ≡ exclusive_lock) × T (holds_shared o b)) → T (against to_read (another_shares S o s) (another_excludes S o s) (another_ahead S t l shared_lock x s))
              held (inl e) = unfold against in or_left (another_excludes S o s) _ (another_excludes_lem b i d e)
              held (inr e) = absurd (let q = e.0 in omega arith)
          pick to_write b i (d, inl c) = held (conflicts_cases o exclusive_lock b c)
            where
              held : T (holds_exclusive o b) ⊎ ((exclusive_lock ≡ exclusive_lock) × T (holds_shared o b)) → T (against to_write (another_shares S o s) (another_excludes S o s) (another_ahead S t l exclusive_lock x s))
              held (inl e) = unfold against in or_right (another_shares S o s) _ (or_left (another_excludes S o s) _ (another_excludes_lem b i d e))
              held (inr e) = unfold against in or_left (another_shares S o s) _ (another_shares_lem b i d e.1)

  excludes_blocked : (k : ℕ) → T (another_excludes S (lock l x) s) → T (blocked_for S t l k x s)
  excludes_blocked k h =
      let r = excludes_another h in
      (blocked-other S t l k x s).1
      (r.0, r.1, →blocks t l k x (rank_for S t l s x) s r.0 r.2 (inl (unfold conflicts in (or_left (holds_exclusive o r.0) _ r.3))))

  shares-blocked : T (another_shares S (lock l x) s) → T (blocked_for S t l exclusive_lock x s)
  shares-blocked h =
      let r = shares_another h in
      (blocked-other S t l exclusive_lock x s).1
      (r.0, r.1, →blocks t l exclusive_lock x (rank_for S t l s x) s r.0 r.2 (inl (unfold conflicts in (or_right (holds_exclusive o r.0) _ r.3))))

  ahead-blocked : (k : ℕ) → T (another_ahead S t l k x s) → T (blocked_for S t l k x s)
  ahead-blocked k h =
      let r = ahead_another k h in
      (blocked-other S t l k x s).1 (r.0, r.1, →blocks t l k x (rank_for S t l s x) s r.0 r.2 (inr r.3))

-- ---- on good tables
-- who holds exclusively is alone
pub exclusive_one : (h : Lock) (a b : ℕ) → T (holds_exclusive h a) → T (holds_exclusive h b) → a ≡ b
unfolding holds_exclusive
exclusive_one h a b e f =
    let p : h.exclusive ≡ suc a = eqb→eq h.exclusive (suc a) e in
    let q : h.exclusive ≡ suc b = eqb→eq h.exclusive (suc b) f in
    omega arith

-- "a row has shared holders or an exclusive one, never both"
pub never_both_lem :
    (S : Sizes) (G : Tables) → Good S G
    → (x : ℕ) → x < S.items → (a b : ℕ) → T (holds_exclusive (lock G.locks x) a) → T (holds_shared (lock G.locks x) b) → ⊥
unfolding holds_exclusive holds_shared
never_both_lem S G g x i a b e f = go (g.lock_good x i).never_both
  where
    h : Lock
    h = lock G.locks x

    go : (h.shared ≡ 0) ⊎ (h.exclusive ≡ 0) → ⊥
    go (inl z) = subst T (bit_none b) (subst (λ (w : ℕ). T (bit w b)) z f)
    go (inr z) = let p : h.exclusive ≡ suc a = eqb→eq h.exclusive (suc a) e in omega arith

pub holder_alone :
    (S : Sizes) (G : Tables) → Good S G
    → (x : ℕ) → x < S.items → (a b : ℕ) → T (holds_exclusive (lock G.locks x) a) → T (holds (lock G.locks x) b) → a ≡ b
unfolding holds
holder_alone S G g x i a b e f = go (or_cases (holds_shared (lock G.locks x) b) (holds_exclusive (lock G.locks x) b) f)
  where
    go : T (holds_shared (lock G.locks x) b) ⊎ T (holds_exclusive (lock G.locks x) b) → a ≡ b
    go (inl t) = absurd (never_both_lem S G g x i a b e t)
    go (inr t) = exclusive_one (lock G.locks x) a b e t

-- a cell that grants is not the conflict
unfoldable grants : Cell → Bool
grants OwnValue = true
grants ReplaceValue = true
grants NewestValue = true
grants ExchangeLock = true
grants TakeShared = true
grants TakeExclusive = true
grants Conflict = false

grants? : {d : Cell} → T (grants d) → d ≡ Conflict → ⊥
unfolding grants
grants? t e = subst (λ (d : Cell). T (grants d)) e t

-- ---- the six cells: what each says of the caller's holding and of the others. d is what is decided for slot s that asks a
pub data CellIs (S : Sizes) (t l : List ℕ) (x s : ℕ) : Asked → Cell → Type 0 where
  own_cell : T (holds_exclusive (lock l x) s) → CellIs S t l x s to_read OwnValue
  replace_cell : T (holds_exclusive (lock l x) s) → CellIs S t l x s to_write ReplaceValue
  newest_cell : T (holds_shared (lock l x) s) → CellIs S t l x s to_read NewestValue
  exchange_cell : T (holds_shared (lock l x) s) → (T (blocked_for S t l exclusive_lock x s) → ⊥) → CellIs S t l x s to_write ExchangeLock
  share_cell : (T (holds (lock l x) s) → ⊥) → (T (blocked_for S t l shared_lock x s) → ⊥) → CellIs S t l x s to_read TakeShared
  exclude_cell : (T (holds (lock l x) s) → ⊥) → (T (blocked_for S t l exclusive_lock x s) → ⊥) → CellIs S t l x s to_write TakeExclusive
  read_conflict : (T (holds (lock l x) s) → ⊥) → T (blocked_for S t l shared_lock x s) → CellIs S t l x s to_read Conflict
  write_conflict : (T (holds_exclusive (lock l x) s) → ⊥) → T (blocked_for S t l exclusive_lock x s) → CellIs S t l x s to_write Conflict

module _ (S : Sizes) (G : Tables) (g : Good S G) (x : ℕ) (known : x < S.items) (s : ℕ) where
  abbrev t : List ℕ
  t = G.txns

  abbrev l : List ℕ
  l = G.locks

  abbrev h : Lock
  h = lock l x

  -- beside who shares nobody holds exclusively
  shared_open : T (holds_shared (lock G.locks x) s) → T (another_excludes S (lock G.locks x) s) → ⊥
  shared_open e u =
      let r = excludes_another S t l x s u in
      never_both_lem S G g x known r.0 s r.3 e

  -- the decision is that of one of the cells
  pub cell : (a : Asked) → CellIs S G.txns G.locks x s a (decision S a G.txns G.locks x s)
  unfolding decision held_by decide
  cell a = go a (holds_exclusive h s) (holds_shared h s) (another_shares S h s) (another_excludes S h s) (another_ahead S t l (wanted a) x s) refl refl refl refl refl
    where
      neither : holds_exclusive h s ≡ false → holds_shared h s ≡ false → T (holds h s) → ⊥
      neither e w u = unfold holds in ⊎_elim (λ c. false_is w c) (λ c. false_is e c) (or_cases (holds_shared h s) (holds_exclusive h s) u)

      unread : (T (another_excludes S h s) → ⊥) → (T (another_ahead S t l shared_lock x s) → ⊥) → T (blocked_for S t l shared_lock x s) → ⊥
      unread m n u = unfold against in ⊎_elim m n (or_cases (another_excludes S h s) (another_ahead S t l shared_lock x s) (blocked_against S t l x s to_read u))

      unwritten :
          (T (another_shares S h s) → ⊥) → (T (another_excludes S h s) → ⊥) → (T (another_ahead S t l exclusive_lock x s) → ⊥) → T (blocked_for S t l exclusive_lock x s) → ⊥
      unwritten k m n u =
          unfold against in
          ⊎_elim k (λ v. ⊎_elim m n (or_cases (another_excludes S h s) (another_ahead S t l exclusive_lock x s) v))
          (or_cases (another_shares S h s) _ (blocked_against S t l x s to_write u))

      go :
          (a : Asked) (e w o p q : Bool) → holds_exclusive h s ≡ e → holds_shared h s ≡ w → another_shares S h s ≡ o
          → another_excludes S h s ≡ p → another_ahead S t l (wanted a) x s ≡ q
          → CellIs S t l x s a (decide a (cond e exclusively (cond w sharing nothing)) o p q)
      go to_read true w o p q e f m n k = own_cell (true_is e)
      go to_write true w o p q e f m n k = replace_cell (true_is e)
      go to_read false true o p q e f m n k = newest_cell (true_is f)
      go to_write false true true p q e f m n k = write_conflict (false_is e) (shares-blocked S t l x s (true_is m))
      go to_write false true false p true e f m n k = write_conflict (false_is e) (ahead-blocked S t l x s exclusive_lock (true_is k))
      go to_write false true false p false e f m n k = exchange_cell (true_is f) (unwritten (false_is m) (shared_open (true_is f)) (false_is k))
      go to_read false false o true q e f m n k = read_conflict (neither e f) (excludes_blocked S t l x s shared_lock (true_is n))
      go to_read false false o false true e f m n k = read_conflict (neither e f) (ahead-blocked S t l x s shared_lock (true_is k))
      go to_read false false o false false e f m n k = share_cell (neither e f) (unread (false_is n) (false_is k))
      go to_write false false true p q e f m n k = write_conflict (false_is e) (shares-blocked S t l x s (true_is m))
      go to_write false false false true q e f m n k = write_conflict (false_is e) (excludes_blocked S t l x s exclusive_lock (true_is n))
      go to_write false false false false true e f m n k = write_conflict (false_is e) (ahead-blocked S t l x s exclusive_lock (true_is k))
      go to_write false false false false false e f m n k = exclude_cell (neither e f) (unwritten (false_is m) (false_is n) (false_is k))

  -- the table says conflict exactly where a further lock is needed and somebody is in the way
  pub decision-conflict :
      (a : Asked) → (decision S a G.txns G.locks x s ≡ Conflict) ↔ (NeedsLock (lock G.locks x) (wanted a) s × T (blocked_for S G.txns G.locks (wanted a) x s))
  unfolding grants
  decision-conflict a = go a (decision S a t l x s) (cell a)
    where
      go : (a : Asked) (d : Cell) → CellIs S t l x s a d → (d ≡ Conflict) ↔ (NeedsLock h (wanted a) s × T (blocked_for S t l (wanted a) x s))
      go a d (own_cell e) = (λ q. absurd (grants? tt q), λ u. absurd (u.0.0 e))
      go a d (replace_cell e) = (λ q. absurd (grants? tt q), λ u. absurd (u.0.0 e))
      go a d (newest_cell e) = (λ q. absurd (grants? tt q), λ u. absurd (u.0.1 refl e))
      go a d (exchange_cell e n) = (λ q. absurd (grants? tt q), λ u. absurd (n u.1))
      go a d (share_cell e n) = (λ q. absurd (grants? tt q), λ u. absurd (n u.1))
      go a d (exclude_cell e n) = (λ q. absurd (grants? tt q), λ u. absurd (n u.1))
      go a d (read_conflict e u) = (
        λ q. ((λ c. e (unfold holds in (or_right (holds_shared h s) _ c)), λ z c. e (unfold holds in (or_left (holds_shared h s) _ c))), u),
        λ v. refl,
      )
      go a d (write_conflict e u) = (λ q. ((e, λ z. absurd (omega arith)), u), λ v. refl)

  -- ---- so a call is granted, or carried on as a conflict
  pub access-conflict :
      (a : Asked) (v : ℕ) → NeedsLock (lock G.locks x) (wanted a) s → T (blocked_for S G.txns G.locks (wanted a) x s)
      → access S a s x v G ≡ conflicted S s (wanted a) x G
  unfolding access cell_deed
  access-conflict a v n u = ap (cell_deed S s (wanted a) x v G) ((decision-conflict a).1 (n, u))

  pub access-free :
      (a : Asked) (v : ℕ) → (NeedsLock (lock G.locks x) (wanted a) s → T (blocked_for S G.txns G.locks (wanted a) x s) → ⊥)
      → (done S (access S a s x v G) G).answer.code ≡ granted
  unfolding access cell_deed done
  access-free a v n = go (decision S a t l x s) refl
    where
      go : (d : Cell) → decision S a t l x s ≡ d → (done S (cell_deed S s (wanted a) x v G d) G).answer.code ≡ granted
      go OwnValue e = refl
      go ReplaceValue e = refl
      go NewestValue e = refl
      go ExchangeLock e = refl
      go TakeShared e = refl
      go TakeExclusive e = refl
      go Conflict e = let c = (decision-conflict a).0 e in absurd (n c.0 c.1)

  -- ---- what a lock that is not in the way looks like
  -- without a conflict, and not held exclusively by s, it is held exclusively by nobody
  pub none_excludes :
      (k : ℕ) → (T (holds_exclusive (lock G.locks x) s) → ⊥) → (T (blocked_for S G.txns G.locks k x s) → ⊥)
      → (lock G.locks x).exclusive ≡ 0
  unfolding holds_exclusive holds
  none_excludes k m n = go h.exclusive refl
    where
      go : (w : ℕ) → h.exclusive ≡ w → h.exclusive ≡ 0
      go zero e = e
      go (suc b) e =
          let u : T (holds_exclusive h b) = eq_make h.exclusive (suc b) e in
          let i : b < S.slots = ((g.lock_good x known).excluders b u).0 in
          absurd (n (excludes_blocked S t l x s k (another_excludes_lem S t l x s b i (λ q. m (subst (λ (c : ℕ). T (holds_exclusive h c)) (sym q) u)) u)))

  -- without a conflict for exclusive, nobody but s holds it
  pub none_holds :
      (T (blocked_for S G.txns G.locks exclusive_lock x s) → ⊥) → (r : ℕ) → r ≢ s → T (holds (lock G.locks x) r) → ⊥
  unfolding holds
  none_holds n r d u =
      ⊎_elim (λ a. n (shares-blocked S t l x s (another_shares_lem S t l x s r i (λ q. d (sym q)) a)))
      (λ a. n (excludes_blocked S t l x s exclusive_lock (another_excludes_lem S t l x s r i (λ q. d (sym q)) a)))
      (or_cases (holds_shared h r) (holds_exclusive h r) u)
    where
      i : r < S.slots
      i = (holder S G.txns h (g.lock_good x known) r u).0
