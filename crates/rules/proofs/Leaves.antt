-- A transaction that leaves: its locks go, then its row, and good tables stay good.
use Prim.Native.Nat.{ℕ, suc, ◌≤◌, ◌<◌}
use mathlib.Core.Path.{◌≡◌, refl, sym, ap, ◌∙◌, subst}
use mathlib.Core.Logic.{◌≢◌, ◌⊎◌, inl, inr}
use mathlib.Core.Bool.{Bool, true, false}
use mathlib.Core.List.{List}
use native.Mathlib.Omega.{arith}
use lib.ListN.{length}
use lib.Dec.{T, eqb, eqb-zero-suc}
use Rattle.names.specs.declared.Sizes.{Sizes}
use Rattle.names.specs.Sizes.{last_word}
use Rattle.rules.specs.Words.{bit, without_bit, row}
use Rattle.rules.specs.Tables.{Tables, tables, txn_words, version_words, version_row, last_number, clock, Txn, txn, set_txn, no_txn, with_rank, live}
use Rattle.rules.specs.Tables.{live_update, live_settled, live_relaxed, may_hold, no_lock, Lock, lock, holds_shared, holds_exclusive, holds, released, release}
use Rattle.rules.specs.Versions.{versions_of, stamp_at, hidden_now}
use Rattle.rules.specs.Waits.{awaits, awaits_on, waits_for}
use Rattle.rules.specs.Changed.{leaving}
use Rattle.rules.specs.Good.{Good, GoodReads, GoodNotes, GoodTxn, GoodLock, GoodQuota, GoodVersions, GoodRanks, GoodSets}
use Rattle.rules.proofs.Tests.{or_cases, or_left, or_right, same?, false_is}
use Rattle.rules.proofs.Bits.{without_bit_here, without_bit_there, bit_none, no_bits}
use Rattle.rules.proofs.Views.{length-set_txn, last_number-set_txn, clock-set_txn, txn-set_txn, txn-set_txn-other, lock-release, length-release}
use Rattle.rules.proofs.RowKinds.{live-number, settled-live, relaxed-live}
use Rattle.rules.proofs.Carried.{free-row, NoMore, no_more_same, txn_carried, lock_carried, settled_carried, sets_carried}
use Rattle.rules.proofs.Notes.{noting, Beside, beside_same, same_beside, noting-row, ranks-beside, links-beside}
use Rattle.rules.proofs.Quotas.{exclusives_fewer, free_quota, quota_carried}
use Rattle.rules.proofs.EqualRanks.{awaits→, awaits_on→, waiter_inside}
use Rattle.rules.proofs.Lines.{same-leaving, left-ranks, left-links}
use Rattle.rules.proofs.Deadlock.{fewer_no_circle}
use Rattle.rules.proofs.Grants.{conflicts_fewer}

-- ---- one lock without the slot s
module _ (s : ℕ) (h : Lock) where
  -- of a slot that does not hold it exclusively nothing but the bit goes
  released-kept : holds_exclusive h s ≡ false → released s h ≡ record { shared = without_bit h.shared s; exclusive = h.exclusive; working = h.working }
  unfolding released
  released-kept e = rw e

  released-gone : holds_exclusive h s ≡ true → released s h ≡ record { shared = without_bit h.shared s; exclusive = 0; working = 0 }
  unfolding released
  released-gone e = rw e

  released-shared : (released s h).shared ≡ without_bit h.shared s
  released-shared = go (holds_exclusive h s) refl
    where
      go : (b : Bool) → holds_exclusive h s ≡ b → (released s h).shared ≡ without_bit h.shared s
      go true e = ap (λ (o : Lock). o.shared) (released-gone e)
      go false e = ap (λ (o : Lock). o.shared) (released-kept e)

  released-exclusive : (r : ℕ) → T (holds_exclusive (released s h) r) → T (holds_exclusive h r) × (holds_exclusive h s ≡ false)
  unfolding holds_exclusive
  released-exclusive r c = go (holds_exclusive h s) refl
    where
      go : (b : Bool) → holds_exclusive h s ≡ b → T (eqb h.exclusive (suc r)) × (holds_exclusive h s ≡ false)
      go true e = absurd (false_is (eqb-zero-suc r) (subst (λ (o : Lock). T (eqb o.exclusive (suc r))) (released-gone e) c))
      go false e = (subst (λ (o : Lock). T (eqb o.exclusive (suc r))) (released-kept e) c, e)

  pub released_none : T (holds (released s h) s) → ⊥
  unfolding holds holds_shared
  released_none a = go (or_cases (bit (released s h).shared s) _ a)
    where
      go : T (bit (released s h).shared s) ⊎ T (holds_exclusive (released s h) s) → ⊥
      go (inl c) = subst T (ap (λ (w : ℕ). bit w s) released-shared ∙ without_bit_here h.shared s) c
      go (inr c) = let e = released-exclusive s c in false_is e.1 e.0

  pub released_fewer : (r : ℕ) → NoMore r h (released s h)
  unfolding holds_shared holds
  released_fewer r = record { shared = shared (same? r s); exclusive = λ c. (released-exclusive r c).0 }
    where
      shared : (r ≡ s) ⊎ (r ≢ s) → T (bit (released s h).shared r) → T (bit h.shared r)
      shared (inl e) c = absurd (released_none (subst (λ (m : ℕ). T (holds (released s h) m)) e (or_left (bit (released s h).shared r) _ c)))
      shared (inr d) c = subst T (without_bit_there h.shared s r d) (subst (λ (w : ℕ). T (bit w r)) released-shared c)

  pub released-shares : (r : ℕ) → r ≢ s → holds_shared (released s h) r ≡ holds_shared h r
  unfolding holds_shared
  released-shares r d = ap (λ (w : ℕ). bit w r) released-shared ∙ without_bit_there h.shared s r d

  pub released-lock : (S : Sizes) (t : List ℕ) → GoodLock S t h → GoodLock S t (released s h)
  released-lock S t g =
      record {
        sharers = λ r a. g.sharers r ((released_fewer r).shared a);
        excluders = λ r a. g.excluders r ((released_fewer r).exclusive a);
        never_both = both (holds_exclusive h s) refl g.never_both;
        no_working = working (holds_exclusive h s) refl;
      }
    where
      both : (b : Bool) → holds_exclusive h s ≡ b → (h.shared ≡ 0) ⊎ (h.exclusive ≡ 0) → ((released s h).shared ≡ 0) ⊎ ((released s h).exclusive ≡ 0)
      both true e o = inr (ap (λ (o : Lock). o.exclusive) (released-gone e))
      both false e (inr z) = inr (ap (λ (o : Lock). o.exclusive) (released-kept e) ∙ z)
      both false e (inl z) = inl (released-shared ∙ no_bits (without_bit h.shared s) (λ r. none r (same? r s)))
        where
          none : (r : ℕ) → (r ≡ s) ⊎ (r ≢ s) → bit (without_bit h.shared s) r ≡ false
          none r (inl q) = rw q (without_bit_here h.shared s)
          none r (inr d) = without_bit_there h.shared s r d ∙ ap (λ (w : ℕ). bit w r) z ∙ bit_none r

      working : (b : Bool) → holds_exclusive h s ≡ b → (released s h).exclusive ≡ 0 → (released s h).working ≡ 0
      working true e z = ap (λ (o : Lock). o.working) (released-gone e)
      working false e z = ap (λ (o : Lock). o.working) (released-kept e) ∙ g.no_working (sym (ap (λ (o : Lock). o.exclusive) (released-kept e)) ∙ z)

-- ---- all locks of the slot s go
module _ (S : Sizes) (G : Tables) (g : Good S G) (s : ℕ) (within : s < S.slots) (resting : (txn G.txns s).awaited_lock ≡ no_lock) where
  abbrev t : List ℕ
  t = G.txns

  abbrev l : List ℕ
  l = G.locks

  abbrev l' : List ℕ
  l' = release S s l

  freed : (x : ℕ) → x < S.items → lock l' x ≡ released s (lock l x)
  freed x i = lock-release S s l g.locks_exact x i

  fewer : (r x : ℕ) → x < S.items → NoMore r (lock l x) (lock l' x)
  fewer r x i = subst (λ (o : Lock). NoMore r (lock l x) o) (sym (freed x i)) (released_fewer s (lock l x) r)

  waiter : (a : ℕ) → (txn t a).awaited_lock ≢ no_lock → (txn t a).awaited_item < S.items
  waiter a d = (g.txn_good a (waiter_inside S t g.txns_exact a d)).item_known d

  no_wait : T (awaits (txn t s)) → ⊥
  no_wait h = awaits→ (txn t s) h resting

  stay : (r : ℕ) → r < S.slots → r ≢ s → txn t r ≡ with_rank (txn t r) (leaving t s (txn t r))
  stay r i d = same-leaving t t s r no_wait refl

  links : (a b : ℕ) → T (waits_for t l' a b) → T (waits_for t l a b)
  links a b h =
      left-links S t t l s within stay no_wait g.ranks_good l' g.txns_exact a b
      (λ w k c. conflicts_fewer k b _ _ (fewer b (txn t a).awaited_item (waiter a (awaits→ (txn t a) w))) c) h

  -- the ranks: a waiter shares what it shared
  ranked : GoodRanks S t l'
  ranked =
      record {
        least = g.ranks_good.least;
        most = g.ranks_good.most;
        apart = g.ranks_good.apart;
        exchangers = λ x a b i j h k c n.
            let w = item x a h in
            g.ranks_good.exchangers x a b i j h k ((fewer a x w).shared c)
            (λ z. n (subst T (sym (shared_still x w b (λ e. no_wait (subst (λ (m : ℕ). T (awaits (txn t m))) e (awaits_on→ x (txn t b) k).0)))) z));
      }
    where
      item : (x a : ℕ) → T (awaits_on x (txn t a)) → x < S.items
      item x a h = let w = awaits_on→ x (txn t a) h in subst (λ (y : ℕ). y < S.items) w.1 (waiter a (awaits→ (txn t a) w.0))

      shared_still : (x : ℕ) → x < S.items → (r : ℕ) → r ≢ s → holds_shared (lock l' x) r ≡ holds_shared (lock l x) r
      shared_still x i r d = ap (λ (o : Lock). holds_shared o r) (freed x i) ∙ released-shares s (lock l x) r d

  pub released-good : Good S (tables G.txns (release S s G.locks) G.versions)
  released-good =
      record {
        txns_exact = g.txns_exact;
        locks_exact = length-release S s l g.locks_exact;
        versions_exact = g.versions_exact;
        last_most = g.last_most;
        clock_most = g.clock_most;
        txn_good = λ r i. txn_carried S t t l l' r (txn t r) (omega arith) (omega arith) (λ d. fewer r _ ((g.txn_good r i).item_known d)) (g.txn_good r i);
        distinct = g.distinct;
        lock_good = λ x i. subst (λ (o : Lock). GoodLock S t o) (sym (freed x i)) (released-lock s (lock l x) S t (g.lock_good x i));
        quota_good = λ r i. quota_carried S l l' r (txn t r) (exclusives_fewer S l l' r (λ x k. (fewer r x k).exclusive)) (g.quota_good r i);
        versions_good = g.versions_good;
        ranks_good = ranked;
        settled_good = settled_carried S G (tables t l' G.versions) (λ r i h. (h, refl)) (λ r x i j a h. ((fewer r x j).exclusive h, refl)) g.settled_good;
        sets_good = sets_carried S G (tables t l' G.versions) g g.sets_good.apart (λ q i h. h) (λ r i. refl) (λ q x i b. b) fewer (λ x q i b. b);
        no_circle = fewer_no_circle S G g t l' links;
      }

  -- what another holds exclusively afterwards, s did not hold
  pub released-other : (r x : ℕ) → x < S.items → T (holds_exclusive (lock (release S s G.locks) x) r) → holds_exclusive (lock G.locks x) s ≡ false
  released-other r x i a = (released-exclusive s (lock l x) r (subst (λ (o : Lock). T (holds_exclusive o r)) (freed x i) a)).1

  -- what another shares afterwards it shared
  pub released_shares_still : (r x : ℕ) → x < S.items → T (holds_shared (lock (release S s G.locks) x) r) → T (holds_shared (lock G.locks x) r)
  released_shares_still r x i a = (fewer r x i).shared a

  pub released-holds : (x : ℕ) → x < S.items → T (holds (lock (release S s G.locks) x) s) → ⊥
  released-holds x i a = released_none s (lock l x) (subst (λ (o : Lock). T (holds o s)) (freed x i) a)

-- ---- the row of slot s, which holds nothing, goes; u has the rows of before but for their notes, and its clock may be later; the versions
-- are others, but for the newest of what is held by one past its writing
module _
    (S : Sizes) (G : Tables) (g : Good S G) (s : ℕ) (inside : s < S.slots)
    (empty : (x : ℕ) → x < S.items → T (holds (lock G.locks x) s) → ⊥)
    (resting : (txn G.txns s).awaited_lock ≡ no_lock)
    (u : List ℕ) (size : length u ≡ txn_words S) (beside : (r : ℕ) → r ≢ s → Beside (txn G.txns r) (txn u r))
    (free : (r : ℕ) → r ≢ s → (txn G.txns r).number ≡ 0 → txn u r ≡ txn G.txns r)
    (reads : (r : ℕ) → r < S.slots → r ≢ s → GoodReads (txn u r)) (notes : (r : ℕ) → r < S.slots → r ≢ s → GoodNotes S (txn u r))
    (last : last_number u ≡ last_number G.txns) (later : clock G.txns ≤ clock u) (most : clock u ≤ last_word)
    (v' : List ℕ) (vsize : length v' ≡ version_words S)
    (rows' : (x : ℕ) → x < S.items → GoodVersions S (set_txn u s no_txn) (row (version_row S) x v'))
    (tops :
    (r x : ℕ) → r < S.slots → x < S.items → T (live_settled (txn G.txns r)) → T (holds_exclusive (lock G.locks x) r)
    → stamp_at (versions_of S v' x) 0 ≡ stamp_at (versions_of S G.versions x) 0)
    (sets : GoodSets S (tables (set_txn u s no_txn) G.locks v'))
  where
    abbrev t₀ : List ℕ
    t₀ = G.txns

    -- with the row gone alone, and with the notes changed too
    abbrev t₁ : List ℕ
    t₁ = set_txn t₀ s no_txn

    abbrev t' : List ℕ
    t' = set_txn u s no_txn

    here₁ : txn t₁ s ≡ no_txn
    here₁ = txn-set_txn t₀ s no_txn S g.txns_exact inside

    here : txn t' s ≡ no_txn
    here = txn-set_txn u s no_txn S size inside

    there : (r : ℕ) → r ≢ s → Beside (txn t₀ r) (txn t' r)
    there r d = subst (Beside (txn t₀ r)) (sym (txn-set_txn-other u s no_txn r d)) (beside r d)

    -- of the other rows all but the notes is as it was
    other : {A : Type 0} (h : Txn → A) → ((r : Txn) (n w i m : ℕ) → h (noting r n w i m) ≡ h r) → (r : ℕ) → r ≢ s → h (txn t' r) ≡ h (txn t₀ r)
    other h e r d = beside_same h e (txn t₀ r) (txn t' r) (there r d)

    number' : (r : ℕ) → r ≢ s → (txn t' r).number ≡ (txn t₀ r).number
    number' = other (λ (r : Txn). r.number) (λ r n w i m. refl)

    live' : (r : ℕ) → r ≢ s → live (txn t' r) ≡ live (txn t₀ r)
    unfolding live
    live' = other live (λ r n w i m. refl)

    update' : (r : ℕ) → r ≢ s → live_update (txn t' r) ≡ live_update (txn t₀ r)
    unfolding live_update live
    update' = other live_update (λ r n w i m. refl)

    settled' : (r : ℕ) → r ≢ s → live_settled (txn t' r) ≡ live_settled (txn t₀ r)
    unfolding live_settled live
    settled' = other live_settled (λ r n w i m. refl)

    holder' : (r : ℕ) → r ≢ s → may_hold (txn t' r) ≡ may_hold (txn t₀ r)
    unfolding may_hold live_update live_settled live
    holder' = other may_hold (λ r n w i m. refl)

    not_here : (r : ℕ) → T (live (txn t' r)) → r ≢ s
    not_here r h e = live-number (txn t' r) h (ap (λ (m : ℕ). (txn t' m).number) e ∙ ap (λ (w : Txn). w.number) here)

    last' : last_number t' ≡ last_number t₀
    last' = last_number-set_txn u s no_txn ∙ last

    clock' : clock t' ≡ clock u
    clock' = clock-set_txn u s no_txn

    rows : (r : ℕ) → r < S.slots → GoodTxn S t' G.locks r (txn t' r)
    rows r i = go (same? r s)
      where
        go : (r ≡ s) ⊎ (r ≢ s) → GoodTxn S t' G.locks r (txn t' r)
        go (inl e) = subst (λ (m : ℕ). GoodTxn S t' G.locks m (txn t' m)) (sym e) (subst (λ (w : Txn). GoodTxn S t' G.locks s w) (sym here) (free-row S t' G.locks s))
        go (inr d) =
            let z = txn-set_txn-other u s no_txn r d in
            subst (λ (w : Txn). GoodTxn S t' G.locks r w) (sym (there r d))
            (noting-row S t' G.locks r _ _ _ _ (txn t₀ r)
            (λ e. sym (there r d) ∙ z ∙ free r d e ∙ (g.txn_good r i).free e)
            (subst GoodReads (sym z ∙ there r d) (reads r i d)) (subst (GoodNotes S) (sym z ∙ there r d) (notes r i d))
            (txn_carried S t₀ t' G.locks G.locks r (txn t₀ r) (let a = last' in omega arith) (let a = clock' in omega arith) (λ w. no_more_same r refl) (g.txn_good r i)))

    quotas : (r : ℕ) → r < S.slots → GoodQuota S G.locks r (txn t' r)
    quotas r i = go (same? r s)
      where
        go : (r ≡ s) ⊎ (r ≢ s) → GoodQuota S G.locks r (txn t' r)
        go (inl e) = subst (λ (m : ℕ). GoodQuota S G.locks m (txn t' m)) (sym e) (subst (λ (w : Txn). GoodQuota S G.locks s w) (sym here) (free_quota S G.locks s))
        go (inr d) =
            let o = g.quota_good r i in
            record {
              most = λ a. o.most (subst T (holder' r d) a);
              full_idle = λ a e k. o.full_idle (subst T (holder' r d) a) e (sym (other (λ (r : Txn). r.awaited_lock) (λ r n w i m. refl) r d) ∙ k);
            }

    apart : (a b : ℕ) → a < S.slots → b < S.slots → a ≢ b → T (live (txn t' b)) → (txn t' a).number ≢ (txn t' b).number
    apart a b i j d h = go (same? a s)
      where
        e : b ≢ s
        e = not_here b h

        go : (a ≡ s) ⊎ (a ≢ s) → (txn t' a).number ≢ (txn t' b).number
        go (inl f) = λ z. live-number (txn t' b) h (sym z ∙ ap (λ (m : ℕ). (txn t' m).number) f ∙ ap (λ (w : Txn). w.number) here)
        go (inr f) = λ z. g.distinct a b i j d (subst T (live' b e) h) (sym (number' a f) ∙ z ∙ number' b e)

    none : T (awaits (txn t₀ s)) → ⊥
    none h = awaits→ (txn t₀ s) h resting

    others : (r : ℕ) → r < S.slots → r ≢ s → txn t₁ r ≡ with_rank (txn t₀ r) (leaving t₀ s (txn t₀ r))
    others r i d = same-leaving t₀ t₁ s r none (txn-set_txn-other t₀ s no_txn r d)

    gone : T (awaits (txn t₁ s)) → ⊥
    gone h = awaits→ (txn t₁ s) h (ap (λ (w : Txn). w.awaited_lock) here₁)

    -- the notes alone
    further : (r : ℕ) → Beside (txn t₁ r) (txn t' r)
    further r = go (same? r s)
      where
        go : (r ≡ s) ⊎ (r ≢ s) → Beside (txn t₁ r) (txn t' r)
        go (inl e) = same_beside (txn t₁ r) (txn t' r) (ap (txn t') e ∙ here ∙ sym (ap (txn t₁) e ∙ here₁))
        go (inr d) = subst (λ (w : Txn). Beside w (txn t' r)) (sym (txn-set_txn-other t₀ s no_txn r d)) (there r d)

    links' : (a b : ℕ) → T (waits_for t' G.locks a b) → T (waits_for t₀ G.locks a b)
    links' a b h =
        left-links S t₀ t₁ G.locks s inside others gone g.ranks_good G.locks (length-set_txn t₀ s no_txn ∙ g.txns_exact) a b (λ w k c. c)
        (subst T (links-beside S t₁ t' G.locks further a b) h)

    -- whoever holds an item is not s
    holder_other : (x r : ℕ) → x < S.items → T (holds (lock G.locks x) r) → r ≢ s
    holder_other x r i h e = empty x i (subst (λ (m : ℕ). T (holds (lock G.locks x) m)) e h)

    pub left-noted-good : Good S (tables (set_txn u s no_txn) G.locks v')
    left-noted-good =
        record {
          txns_exact = length-set_txn u s no_txn ∙ size;
          locks_exact = g.locks_exact;
          versions_exact = vsize;
          last_most = let a = last' in let b = g.last_most in omega arith;
          clock_most = let a = clock' in omega arith;
          txn_good = rows;
          distinct = apart;
          lock_good = λ x i. lock_carried S t₀ t' (lock G.locks x)
              (λ r h q. subst T (sym (update' r (holder_other x r i (unfold holds in (or_left (holds_shared (lock G.locks x) r) _ h))))) q)
              (λ r h q. subst T (sym (holder' r (holder_other x r i (unfold holds in (or_right (holds_shared (lock G.locks x) r) _ h))))) q) (g.lock_good x i);
          quota_good = quotas;
          versions_good = rows';
          ranks_good = ranks-beside S t₁ t' G.locks further (left-ranks S t₀ t₁ G.locks s inside others gone g.ranks_good G.locks (λ x r d. refl));
          settled_good = settled_carried S G (tables t' G.locks v')
              (λ r i h. let d = not_here r (settled-live (txn t' r) h).0 in (subst T (settled' r d) h, other (λ (r : Txn). r.start) (λ r n w i m. refl) r d))
              (λ r x i j a h. (h, tops r x i j a h)) g.settled_good;
          sets_good = sets;
          no_circle = fewer_no_circle S G g t' G.locks links';
        }

-- ---- the same where the other rows are the very same, and s is no relaxed query
module _
    (S : Sizes) (G : Tables) (g : Good S G) (s : ℕ) (inside : s < S.slots)
    (empty : (x : ℕ) → x < S.items → T (holds (lock G.locks x) s) → ⊥)
    (resting : (txn G.txns s).awaited_lock ≡ no_lock) (strict : T (live_relaxed (txn G.txns s)) → ⊥)
    (u : List ℕ) (size : length u ≡ txn_words S) (same : (r : ℕ) → r ≢ s → txn u r ≡ txn G.txns r)
    (last : last_number u ≡ last_number G.txns) (later : clock G.txns ≤ clock u) (most : clock u ≤ last_word)
    (v' : List ℕ) (vsize : length v' ≡ version_words S)
    (rows' : (x : ℕ) → x < S.items → GoodVersions S (set_txn u s no_txn) (row (version_row S) x v'))
    (tops :
    (r x : ℕ) → r < S.slots → x < S.items → T (live_settled (txn G.txns r)) → T (holds_exclusive (lock G.locks x) r)
    → stamp_at (versions_of S v' x) 0 ≡ stamp_at (versions_of S G.versions x) 0)
    (shown : (x r q : ℕ) → x < S.items → T (holds (lock G.locks x) r) → T (bit (hidden_now S v' x) q) → T (bit (hidden_now S G.versions x) q))
  where
    abbrev w : List ℕ
    w = set_txn u s no_txn

    home : txn w s ≡ no_txn
    home = txn-set_txn u s no_txn S size inside

    away : (r : ℕ) → r ≢ s → txn w r ≡ txn G.txns r
    away r d = txn-set_txn-other u s no_txn r d ∙ same r d

    -- who is live is not s
    away_live : (r : ℕ) → T (live (txn w r)) → r ≢ s
    away_live r h e = live-number (txn w r) h (ap (λ (m : ℕ). (txn w m).number) e ∙ ap (λ (v : Txn). v.number) home)

    stays : (q : ℕ) → T (live_relaxed (txn G.txns q)) → T (live_relaxed (txn w q))
    stays q h = subst (λ (v : Txn). T (live_relaxed v)) (sym (away q (λ e. strict (subst (λ (m : ℕ). T (live_relaxed (txn G.txns m))) e h)))) h

    left_sets : GoodSets S (tables w G.locks v')
    left_sets =
        let o = g.sets_good in
        record {
          apart = λ a b i j h m.
              o.apart a b i j
              (subst (λ (v : Txn). T (live_settled v)) (away a (away_live a (settled-live (txn w a) h).0)) h)
              (subst (λ (v : Txn). T (live_relaxed v)) (away b (away_live b (relaxed-live (txn w b) m).0)) m);
          of_relaxed = λ r q i b. let k = o.of_relaxed r q i (later_for_lem r q b (same? r s)) in (k.0, stays q k.1);
          holds_read = λ x r q i j e b. keeps r q (other-holds x r i (unfold holds in (or_right (holds_shared (lock G.locks x) r) _ e))) (o.holds_read x r q i j e (read q x b (same? q s)));
          holds_hidden = λ x r q i h b. keeps r q (other-holds x r i h) (o.holds_hidden x r q i h (shown x r q i h b));
        }
      where
        later_for_lem : (r q : ℕ) → T (bit (txn w r).later_for q) → (r ≡ s) ⊎ (r ≢ s) → T (bit (txn G.txns r).later_for q)
        later_for_lem r q b (inl e) = absurd (false_is (bit_none q) (subst (λ (v : Txn). T (bit v.later_for q)) (ap (txn w) e ∙ home) b))
        later_for_lem r q b (inr d) = subst (λ (v : Txn). T (bit v.later_for q)) (away r d) b

        read : (q x : ℕ) → T (bit (txn w q).items_read x) → (q ≡ s) ⊎ (q ≢ s) → T (bit (txn G.txns q).items_read x)
        read q x b (inl e) = absurd (false_is (bit_none x) (subst (λ (v : Txn). T (bit v.items_read x)) (ap (txn w) e ∙ home) b))
        read q x b (inr d) = subst (λ (v : Txn). T (bit v.items_read x)) (away q d) b

        other-holds : (x r : ℕ) → x < S.items → T (holds (lock G.locks x) r) → r ≢ s
        other-holds x r i h e = empty x i (subst (λ (m : ℕ). T (holds (lock G.locks x) m)) e h)

        keeps : (r q : ℕ) → r ≢ s → T (bit (txn G.txns r).later_for q) → T (bit (txn w r).later_for q)
        keeps r q d b = subst (λ (v : Txn). T (bit v.later_for q)) (sym (away r d)) b

    pub left-good : Good S (tables (set_txn u s no_txn) G.locks v')
    left-good =
        left-noted-good S G g s inside empty resting u size (λ r d. same_beside (txn G.txns r) (txn u r) (same r d)) (λ r d e. same r d)
        (λ r i d. subst GoodReads (sym (same r d)) (g.txn_good r i).reads_good) (λ r i d. subst (GoodNotes S) (sym (same r d)) (g.txn_good r i).notes_good)
        last later most v' vsize rows' tops left_sets
