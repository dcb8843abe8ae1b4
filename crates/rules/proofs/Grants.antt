-- A grant leaves good tables: the awaited fields cleared, then the lock of one item changed for the caller alone.
use Prim.Native.Nat.{ℕ, suc, ◌≤◌, ◌<◌}
use mathlib.Core.Path.{◌≡◌, refl, sym, ap, ◌∙◌, subst}
use mathlib.Core.Logic.{◌≢◌, ◌⊎◌, inl, inr}
use mathlib.Core.Bool.{Bool, true, false, ◌&&◌, ◌||◌}
use mathlib.Core.List.{List}
use native.Mathlib.Omega.{arith}
use lib.Dec.{T, eqb, eqb→eq}
use Rattle.names.specs.declared.Sizes.{Sizes}
use Rattle.rules.specs.Words.{bit, with_bit, without_bit}
use Rattle.rules.specs.Tables.{Tables, tables, Txn, txn, with_rank, live_update, live_settled, no_lock, Lock, lock, set_lock, holds_shared, holds_exclusive, holds, exclusives_of}
use Rattle.rules.specs.Waits.{awaits, conflicts, waits_for}
use Rattle.rules.specs.Changed.{leaving}
use Rattle.rules.specs.Versions.{hidden_now}
use Rattle.rules.specs.Good.{Good, GoodTxn, GoodLock, GoodQuota, GoodSets}
use Rattle.rules.specs.Step.{with_txns, cleared, locked, shared_too, taken, replaced}
use Rattle.rules.proofs.Tests.{and_left, and_right, and_both, or_cases, or_left, or_right, same?, is_false, true_is, false_is, iff_eq}
use Rattle.rules.proofs.Bits.{with_bit_there, without_bit_here, without_bit_there, no_bits}
use Rattle.rules.proofs.Views.{lock-set_lock, lock-set_lock-other, length-set_lock}
use Rattle.rules.proofs.Carried.{NoMore, no_more_holds, no_more_same, txn_carried, lock_carried, settled_carried}
use Rattle.rules.proofs.Quotas.{exclusives_fewer, exclusives_one_more, quota_carried}
use Rattle.rules.proofs.EqualRows.{update-live, settled-live, update-holds}
use Rattle.rules.proofs.EqualRanks.{awaits→}
use Rattle.rules.proofs.Lines.{same-leaving, left-ranks, left-links}
use Rattle.rules.proofs.Walks.{waits-for→}
use Rattle.rules.proofs.Deadlock.{grant_no_circle}
use Rattle.rules.proofs.Waited.{cleared-good, cleared_here, cleared-keeps, cleared-update, cleared_holder}

-- who holds no more conflicts with no more
pub conflicts_fewer : (k b : ℕ) (h h' : Lock) → NoMore b h h' → T (conflicts h' k b) → T (conflicts h k b)
unfolding conflicts
conflicts_fewer k b h h' n a = go (or_cases (holds_exclusive h' b) (eqb k 2 && holds_shared h' b) a)
  where
    go : T (holds_exclusive h' b) ⊎ T (eqb k 2 && holds_shared h' b) → T (holds_exclusive h b || (eqb k 2 && holds_shared h b))
    go (inl c) = or_left (holds_exclusive h b) _ (n.exclusive c)
    go (inr c) =
        or_right (holds_exclusive h b) _
        (and_both (eqb k 2) _ (and_left (eqb k 2) _ c) (n.shared (and_right (eqb k 2) _ c)))

-- slot s holds the item x exclusively, or may take a further one
abbrev pub Room : Sizes → List ℕ → ℕ → ℕ → Type 0
Room S l s x = T (holds_exclusive (lock l x) s) ⊎ (exclusives_of S l s ≢ S.quota)

-- request E11: slot s, which holds h' of the item x, is in the sets in which this has it
pub record InSets (S : Sizes) (G : Tables) (s x : ℕ) (h' : Lock) : Type 0 where
  pub hidden : T (holds h' s) → (q : ℕ) → T (bit (hidden_now S G.versions x) q) → T (bit (txn G.txns s).later_for q)
  pub read : T (holds_exclusive h' s) → (q : ℕ) → q < S.slots → T (bit (txn G.txns q).items_read x) → T (bit (txn G.txns s).later_for q)

-- it is if it holds no more than it did
pub in_sets_lem : (S : Sizes) (G : Tables) → Good S G → (s x : ℕ) → x < S.items → (h' : Lock) → NoMore s (lock G.locks x) h' → InSets S G s x h'
in_sets_lem S G g s x i h' n =
    record {
      hidden = λ h q b. g.sets_good.holds_hidden x s q i (no_more_holds s _ _ n h) b;
      read = λ h q j b. g.sets_good.holds_read x s q i j (n.exclusive h) b;
    }

-- ---- the lock of item x becomes h'; slot s awaits nothing, and has room where it holds the item exclusively now and did not before, which
-- it does not past its writing, and is in the sets that this asks for; the other slots hold no more of it than before, and share it as before
module _ (S : Sizes) (G : Tables) (g : Good S G) (s x : ℕ) (known : x < S.items) (idle : (txn G.txns s).awaited_lock ≡ no_lock)
    (h' : Lock) (good' : GoodLock S G.txns h') (others : (r : ℕ) → r ≢ s → NoMore r (lock G.locks x) h')
    (keeps : (r : ℕ) → r ≢ s → T (holds_shared (lock G.locks x) r) → T (holds_shared h' r)) (holder_inside : s < S.slots)
    (room : T (holds_exclusive h' s) → Room S G.locks s x)
    (past : T (live_settled (txn G.txns s)) → T (holds_exclusive h' s) → T (holds_exclusive (lock G.locks x) s))
    (sets : InSets S G s x h') where
  abbrev t : List ℕ
  t = G.txns

  abbrev l : List ℕ
  l = G.locks

  abbrev l' : List ℕ
  l' = set_lock l x h'

  here : lock l' x ≡ h'
  here = lock-set_lock l x h' S g.locks_exact known

  there : (y : ℕ) → y ≢ x → lock l' y ≡ lock l y
  there y d = lock-set_lock-other l x h' y d

  fewer : (r : ℕ) → r ≢ s → (y : ℕ) → NoMore r (lock l y) (lock l' y)
  fewer r d y = go (same? y x)
    where
      go : (y ≡ x) ⊎ (y ≢ x) → NoMore r (lock l y) (lock l' y)
      go (inl e) = subst (λ (z : ℕ). NoMore r (lock l z) (lock l' z)) (sym e) (subst (λ (o : Lock). NoMore r (lock l x) o) (sym here) (others r d))
      go (inr e) = no_more_same r (there y e)

  rows : (r : ℕ) → r < S.slots → GoodTxn S t l' r (txn t r)
  rows r i = txn_carried S t t l l' r (txn t r) (omega arith) (omega arith) (λ w. fewer r (λ e. w (ap (λ (m : ℕ). (txn t m).awaited_lock) e ∙ idle)) _) (g.txn_good r i)

  locks : (y : ℕ) → y < S.items → GoodLock S t (lock l' y)
  locks y i = go (same? y x)
    where
      go : (y ≡ x) ⊎ (y ≢ x) → GoodLock S t (lock l' y)
      go (inl e) = subst (λ (o : Lock). GoodLock S t o) (sym (ap (lock l') e ∙ here)) good'
      go (inr d) = subst (λ (o : Lock). GoodLock S t o) (sym (there y d)) (g.lock_good y i)

  -- what slot s holds exclusively of an item, it held before, but perhaps of x
  mine_there : (y : ℕ) → y ≢ x → T (holds_exclusive (lock l' y) s) → T (holds_exclusive (lock l y) s)
  mine_there y d h = subst (λ (o : Lock). T (holds_exclusive o s)) (there y d) h

  most : exclusives_of S l s ≤ S.quota → exclusives_of S l' s ≤ S.quota
  most q = go (holds_exclusive h' s) refl
    where
      no_more : (T (holds_exclusive h' s) → T (holds_exclusive (lock l x) s)) → exclusives_of S l' s ≤ S.quota
      no_more f = omega (arith, exclusives_fewer S l l' s (λ y i. pick y (same? y x)))
        where
          pick : (y : ℕ) → (y ≡ x) ⊎ (y ≢ x) → T (holds_exclusive (lock l' y) s) → T (holds_exclusive (lock l y) s)
          pick y (inl e) h = subst (λ (z : ℕ). T (holds_exclusive (lock l z) s)) (sym e) (f (subst (λ (o : Lock). T (holds_exclusive o s)) (ap (lock l') e ∙ here) h))
          pick y (inr d) h = mine_there y d h

      by : T (holds_exclusive (lock l x) s) ⊎ (exclusives_of S l s ≢ S.quota) → exclusives_of S l' s ≤ S.quota
      by (inl h) = no_more (λ k. h)
      by (inr d) = omega (arith, exclusives_one_more S l l' s x (λ y i e. mine_there y e))

      go : (b : Bool) → holds_exclusive h' s ≡ b → exclusives_of S l' s ≤ S.quota
      go true e = by (room (true_is e))
      go false e = no_more (λ h. absurd (false_is e h))

  quotas : (r : ℕ) → r < S.slots → GoodQuota S l' r (txn t r)
  quotas r i = go (same? r s)
    where
      mine : s < S.slots → GoodQuota S l' s (txn t s)
      mine j = record { most = λ u. most ((g.quota_good s j).most u); full_idle = λ u e d. absurd (let z = idle in omega arith) }

      go : (r ≡ s) ⊎ (r ≢ s) → GoodQuota S l' r (txn t r)
      go (inl e) = subst (λ (m : ℕ). GoodQuota S l' m (txn t m)) (sym e) (mine (omega arith))
      go (inr d) = quota_carried S l l' r (txn t r) (exclusives_fewer S l l' r (λ y k. (fewer r d y).exclusive)) (g.quota_good r i)

  no_wait : T (awaits (txn t s)) → ⊥
  no_wait h = awaits→ (txn t s) h idle

  stay : (r : ℕ) → r < S.slots → r ≢ s → txn t r ≡ with_rank (txn t r) (leaving t s (txn t r))
  stay r i d = same-leaving t t s r no_wait refl

  links : (a b : ℕ) → b ≢ s → T (waits_for t l' a b) → T (waits_for t l a b)
  links a b d h =
      let i = holder_inside in
      left-links S t t l s i stay no_wait g.ranks_good l' g.txns_exact a b (λ w k c. conflicts_fewer k b _ _ (fewer b d (txn t a).awaited_item) c) h

  -- others share what they shared
  shares : (y r : ℕ) → r ≢ s → holds_shared (lock l' y) r ≡ holds_shared (lock l y) r
  shares y r d = go (same? y x)
    where
      go : (y ≡ x) ⊎ (y ≢ x) → holds_shared (lock l' y) r ≡ holds_shared (lock l y) r
      go (inl e) =
          ap (λ (z : ℕ). holds_shared (lock l' z) r) e ∙ ap (λ (o : Lock). holds_shared o r) here
          ∙ iff_eq (holds_shared h' r) (holds_shared (lock l x) r) (others r d).shared (keeps r d)
          ∙ ap (λ (z : ℕ). holds_shared (lock l z) r) (sym e)
      go (inr n) = ap (λ (o : Lock). holds_shared o r) (there y n)

  pub relocked_good : Good S (tables G.txns (set_lock G.locks x h') G.versions)
  relocked_good =
      record {
        txns_exact = g.txns_exact;
        locks_exact = length-set_lock l x h' ∙ g.locks_exact;
        versions_exact = g.versions_exact;
        last_most = g.last_most;
        clock_most = g.clock_most;
        txn_good = rows;
        distinct = g.distinct;
        lock_good = locks;
        quota_good = quotas;
        versions_good = g.versions_good;
        ranks_good = left-ranks S t t l s holder_inside stay no_wait g.ranks_good l' shares;
        settled_good = settled_carried S G (tables t l' G.versions) (λ r i h. (h, refl)) (λ r y i j a h. (settled r y a h (same? r s) (same? y x), refl)) g.settled_good;
        sets_good = joins;
        no_circle = grant_no_circle S G g s t l' (λ b h. (waits-for→ t l' s b h).0 idle) links;
      }
    where
      joins : GoodSets S (tables t l' G.versions)
      joins =
          record {
            apart = g.sets_good.apart;
            of_relaxed = g.sets_good.of_relaxed;
            holds_read = λ y r q i j e b. read y r q i j e b (same? r s) (same? y x);
            holds_hidden = λ y r q i h b. hidden y r q i h b (same? r s) (same? y x);
          }
        where
          read :
              (y r q : ℕ) → y < S.items → q < S.slots → T (holds_exclusive (lock l' y) r) → T (bit (txn t q).items_read y)
              → (r ≡ s) ⊎ (r ≢ s) → (y ≡ x) ⊎ (y ≢ x) → T (bit (txn t r).later_for q)
          read y r q i j e b (inr d) z = g.sets_good.holds_read y r q i j ((fewer r d y).exclusive e) b
          read y r q i j e b (inl d) (inr n) = g.sets_good.holds_read y r q i j (subst (λ (o : Lock). T (holds_exclusive o r)) (there y n) e) b
          read y r q i j e b (inl d) (inl z) =
              subst (λ (m : ℕ). T (bit (txn t m).later_for q)) (sym d)
              (sets.read
              (subst (λ (m : ℕ). T (holds_exclusive h' m)) d (subst (λ (o : Lock). T (holds_exclusive o r)) (ap (lock l') z ∙ here) e)) q j
              (subst (λ (u : ℕ). T (bit (txn t q).items_read u)) z b))

          hidden :
              (y r q : ℕ) → y < S.items → T (holds (lock l' y) r) → T (bit (hidden_now S G.versions y) q)
              → (r ≡ s) ⊎ (r ≢ s) → (y ≡ x) ⊎ (y ≢ x) → T (bit (txn t r).later_for q)
          hidden y r q i h b (inr d) z = g.sets_good.holds_hidden y r q i (no_more_holds r _ _ (fewer r d y) h) b
          hidden y r q i h b (inl d) (inr n) = g.sets_good.holds_hidden y r q i (subst (λ (o : Lock). T (holds o r)) (there y n) h) b
          hidden y r q i h b (inl d) (inl z) =
              subst (λ (m : ℕ). T (bit (txn t m).later_for q)) (sym d)
              (sets.hidden
              (subst (λ (m : ℕ). T (holds h' m)) d (subst (λ (o : Lock). T (holds o r)) (ap (lock l') z ∙ here) h)) q
              (subst (λ (u : ℕ). T (bit (hidden_now S G.versions u) q)) z b))

      settled : (r y : ℕ) → T (live_settled (txn t r)) → T (holds_exclusive (lock l' y) r) → (r ≡ s) ⊎ (r ≢ s) → (y ≡ x) ⊎ (y ≢ x) → T (holds_exclusive (lock l y) r)
      settled r y a h (inr d) e = (fewer r d y).exclusive h
      settled r y a h (inl d) (inr e) = subst (λ (o : Lock). T (holds_exclusive o r)) (there y e) h
      settled r y a h (inl d) (inl e) =
          subst (λ (m : ℕ). T (holds_exclusive (lock l y) m)) (sym d)
          (subst (λ (z : ℕ). T (holds_exclusive (lock l z) s)) (sym e)
          (past (subst (λ (m : ℕ). T (live_settled (txn t m))) d a)
          (subst (λ (o : Lock). T (holds_exclusive o s)) here (subst (λ (z : ℕ). T (holds_exclusive (lock l' z) s)) e (subst (λ (m : ℕ). T (holds_exclusive (lock l' y) m)) d h)))))

-- ---- the locks that a grant leaves
pub replaced-others : (h : Lock) (v r : ℕ) → NoMore r h (replaced h v)
unfolding holds_shared holds_exclusive
replaced-others h v r = record { shared = λ a. a; exclusive = λ a. a }

pub replaced-keeps : (h : Lock) (v r : ℕ) → T (holds_shared h r) → T (holds_shared (replaced h v) r)
unfolding holds_shared
replaced-keeps h v r a = a

-- "replace the working value", where slot s holds exclusively
pub replaced_too : (S : Sizes) (t : List ℕ) (h : Lock) → GoodLock S t h → (s v : ℕ) → T (holds_exclusive h s) → GoodLock S t (replaced h v)
unfolding holds_shared holds_exclusive
replaced_too S t h g s v own =
    record {
      sharers = g.sharers;
      excluders = g.excluders;
      never_both = g.never_both;
      no_working = λ e. absurd (let a = eqb→eq h.exclusive (suc s) own in omega arith);
    }

module _ (S : Sizes) (t : List ℕ) (h : Lock) (g : GoodLock S t h) (s : ℕ) (inside : s < S.slots) (update : T (live_update (txn t s))) where
  -- "take shared", where nobody holds exclusively
  pub shared_too_lem : h.exclusive ≡ 0 → GoodLock S t (shared_too h s)
  unfolding holds_shared holds_exclusive
  shared_too_lem free =
      record {
        sharers = λ r a. go r a (same? r s);
        excluders = g.excluders;
        never_both = inr free;
        no_working = g.no_working;
      }
    where
      go : (r : ℕ) → T (bit (with_bit h.shared s) r) → (r ≡ s) ⊎ (r ≢ s) → (r < S.slots) × T (live_update (txn t r))
      go r a (inl e) = rw e (inside, update)
      go r a (inr d) = g.sharers r (subst T (with_bit_there h.shared s r d) a)

  pub shared-others : (r : ℕ) → r ≢ s → NoMore r h (shared_too h s)
  unfolding holds_shared holds_exclusive
  shared-others r d = record { shared = λ a. subst T (with_bit_there h.shared s r d) a; exclusive = λ a. a }

  pub shared_keeps : (r : ℕ) → r ≢ s → T (holds_shared h r) → T (holds_shared (shared_too h s) r)
  unfolding holds_shared
  shared_keeps r d a = subst T (sym (with_bit_there h.shared s r d)) a

  -- "A taken exclusive lock", where nobody else holds
  module _ (alone : (r : ℕ) → r ≢ s → T (holds h r) → ⊥) (v : ℕ) where
    no_shared : (r : ℕ) → bit (without_bit h.shared s) r ≡ false
    unfolding holds holds_shared
    no_shared r = go (same? r s)
      where
        go : (r ≡ s) ⊎ (r ≢ s) → bit (without_bit h.shared s) r ≡ false
        go (inl e) = rw e (without_bit_here h.shared s)
        go (inr d) = without_bit_there h.shared s r d ∙ is_false (bit h.shared r) (λ a. alone r d (or_left (bit h.shared r) _ a))

    own : (r : ℕ) → T (eqb (suc s) (suc r)) → r ≡ s
    own r a = let e = eqb→eq (suc s) (suc r) a in omega arith

    pub taken-good : GoodLock S t (taken h s v)
    unfolding holds holds_shared holds_exclusive
    taken-good =
        record {
          sharers = λ r a. absurd (subst T (no_shared r) a);
          excluders = λ r a. rw (own r a) (inside, update-holds (txn t s) update);
          never_both = inl (no_bits (without_bit h.shared s) no_shared);
          no_working = λ e. absurd (omega arith);
        }

    pub taken-others : (r : ℕ) → r ≢ s → NoMore r h (taken h s v)
    unfolding holds_shared holds_exclusive
    taken-others r d =
        record { shared = λ a. absurd (subst T (no_shared r) a); exclusive = λ a. absurd (d (own r a)) }

    pub taken-keeps : (r : ℕ) → r ≢ s → T (holds_shared h r) → T (holds_shared (taken h s v) r)
    taken-keeps r d a = absurd (alone r d (unfold holds in (or_left (holds_shared h r) _ a)))

-- ---- the whole grant to the update in slot s: the lock h' on item x
pub locked-good :
    (S : Sizes) (G : Tables) → Good S G → (s x : ℕ) → s < S.slots → T (live_update (txn G.txns s)) → x < S.items → (h' : Lock)
    → GoodLock S G.txns h' → ((r : ℕ) → r ≢ s → NoMore r (lock G.locks x) h')
    → ((r : ℕ) → r ≢ s → T (holds_shared (lock G.locks x) r) → T (holds_shared h' r)) → (T (holds_exclusive h' s) → Room S G.locks s x)
    → InSets S G s x h' → Good S (locked S s x h' G)
unfolding locked
locked-good S G g s x inside update known h' good' others keeps room sets =
    relocked_good S (with_txns G (cleared S G.txns s)) (cleared-good S G g s inside update) s x known
    (ap (λ (w : Txn). w.awaited_lock) (cleared_here S G.txns g.txns_exact s inside)) h'
    (lock_carried S G.txns (cleared S G.txns s) h' (λ r a u. subst T (sym (cleared-update S G.txns g.txns_exact s inside r (good'.sharers r a).0)) u)
    (λ r a u. subst T (sym (cleared_holder S G.txns g.txns_exact s inside r (good'.excluders r a).0)) u) good')
    others keeps inside room
    (λ a b. absurd (let k = (settled-live _ a).1 in let m = (update-live _ (subst T (sym (cleared-update S G.txns g.txns_exact s inside s inside)) update)).1 in omega arith))
    (record {
      hidden = λ h q b. subst (λ (w : ℕ). T (bit w q)) (sym (later s inside)) (sets.hidden h q b);
      read = λ h q j b.
          subst (λ (w : ℕ). T (bit w q)) (sym (later s inside))
          (sets.read h q j (subst (λ (w : ℕ). T (bit w x)) (cleared-keeps S G.txns g.txns_exact s inside (λ (r : Txn). r.items_read) (λ r k x p. refl) (λ r p. refl) q j) b));
    })
  where
    later : (r : ℕ) → r < S.slots → (txn (cleared S G.txns s) r).later_for ≡ (txn G.txns r).later_for
    later = cleared-keeps S G.txns g.txns_exact s inside (λ (r : Txn). r.later_for) (λ r k x p. refl) (λ r p. refl)
