-- Request E6: a settle leaves good tables. Its shared bits go first, then its row changes its kind and gets the stamp after the clock.
use Prim.Native.Nat.{ℕ, ◌+◌, ◌≤◌, ◌<◌}
use mathlib.Core.Path.{◌≡◌, refl, sym, ap, ◌∙◌, subst}
use mathlib.Core.Logic.{◌≢◌, ◌⊎◌, inl, inr}
use mathlib.Core.Bool.{false}
use mathlib.Core.List.{List}
use native.Mathlib.Omega.{arith}
use lib.ListN.{length, get_or, set, length-set}
use lib.Seq.{get_or-set_same, get_or-set_other}
use lib.Dec.{T, le→leb}
use Rattle.names.specs.declared.Sizes.{Sizes}
use Rattle.names.specs.Sizes.{last_word}
use Rattle.names.specs.Layout.{clock_at}
use Rattle.rules.specs.Words.{row, bit, without_bit}
use Rattle.rules.specs.Tables.{Tables, tables, txn_words, version_row, last_number, clock, Txn, txn, set_txn, new_txn, with_rank, live, live_update, live_settled, live_relaxed, may_hold, is_reader}
use Rattle.rules.specs.Tables.{a_settled, no_lock, Reader, up_to, reader_in, Lock, lock, holds_shared, holds_exclusive, unshared, unshare}
use Rattle.rules.specs.Versions.{Version, no_version, versions_in, versions_of, stamp_at, hidden_now, sees}
use Rattle.rules.specs.Waits.{awaits, awaits_on, waits_for}
use Rattle.rules.specs.Changed.{leaving}
use Rattle.rules.specs.Good.{Good, GoodTxn, GoodLock, GoodQuota, GoodRanks, GoodSettled, GoodSets}
use Rattle.rules.specs.Step.{settled}
use Rattle.rules.proofs.Tests.{same?, false_is}
use Rattle.rules.proofs.Bits.{without_bit_here, without_bit_there, bit_none, no_bits}
use Rattle.rules.proofs.Views.{length-set_txn, last_number-set_txn, clock-set_txn, txn-set_txn, txn-set_txn-other, txn-top, lock-unshare, length-unshare}
use Rattle.rules.proofs.RowKinds.{update-live, relaxed-live, update-holds, settled-holds, live-settled, settled-starts, live-number, number-live, update_no_reader, reads_up_to}
use Rattle.rules.proofs.Carried.{NoMore, no_reads, no_notes, no_more_same, reads-alike, txn_carried, lock_carried, versions_carried, settled_carried, sets_carried}
use Rattle.rules.proofs.Quotas.{exclusives_fewer, quota_carried, quotas_but}
use Rattle.rules.proofs.EqualRanks.{awaits→, awaits_on→, waiter_inside}
use Rattle.rules.proofs.Lines.{same-leaving, left-ranks, left-links}
use Rattle.rules.proofs.Deadlock.{fewer_no_circle}
use Rattle.rules.proofs.Grants.{conflicts_fewer}
use Rattle.rules.proofs.Taken.{reader-relaxed}

-- ---- one lock without the shared bit of slot s
module _ (s : ℕ) (h : Lock) where
  pub unshared_none : T (holds_shared (unshared s h) s) → ⊥
  unfolding holds_shared
  unshared_none a = subst T (without_bit_here h.shared s) a

  pub unshared-shares : (r : ℕ) → r ≢ s → holds_shared (unshared s h) r ≡ holds_shared h r
  unfolding holds_shared
  unshared-shares r d = without_bit_there h.shared s r d

  pub unshared_fewer : (r : ℕ) → NoMore r h (unshared s h)
  unfolding holds_exclusive
  unshared_fewer r = record { shared = go (same? r s); exclusive = λ a. a }
    where
      go : (r ≡ s) ⊎ (r ≢ s) → T (holds_shared (unshared s h) r) → T (holds_shared h r)
      go (inl e) a = absurd (unshared_none (subst (λ (m : ℕ). T (holds_shared (unshared s h) m)) e a))
      go (inr d) a = subst T (unshared-shares r d) a

  unshared-lock : (S : Sizes) (t : List ℕ) → GoodLock S t h → GoodLock S t (unshared s h)
  unshared-lock S t g =
      record {
        sharers = λ r a. g.sharers r ((unshared_fewer r).shared a);
        excluders = λ r a. g.excluders r ((unshared_fewer r).exclusive a);
        never_both = both g.never_both;
        no_working = g.no_working;
      }
    where
      both : (h.shared ≡ 0) ⊎ (h.exclusive ≡ 0) → (without_bit h.shared s ≡ 0) ⊎ (h.exclusive ≡ 0)
      both (inr z) = inr z
      both (inl z) = inl (no_bits (without_bit h.shared s) (λ r. none r (same? r s)))
        where
          none : (r : ℕ) → (r ≡ s) ⊎ (r ≢ s) → bit (without_bit h.shared s) r ≡ false
          none r (inl q) = rw q (without_bit_here h.shared s)
          none r (inr d) = without_bit_there h.shared s r d ∙ ap (λ (w : ℕ). bit w r) z ∙ bit_none r

-- ---- the shared bits of slot s, which awaits nothing, go
module _ (S : Sizes) (G : Tables) (g : Good S G) (s : ℕ) (within : s < S.slots) (resting : (txn G.txns s).awaited_lock ≡ no_lock) where
  abbrev t : List ℕ
  t = G.txns

  abbrev l : List ℕ
  l = G.locks

  abbrev l' : List ℕ
  l' = unshare S s l

  freed : (x : ℕ) → x < S.items → lock l' x ≡ unshared s (lock l x)
  freed x i = lock-unshare S s l g.locks_exact x i

  fewer : (r x : ℕ) → x < S.items → NoMore r (lock l x) (lock l' x)
  fewer r x i = subst (λ (o : Lock). NoMore r (lock l x) o) (sym (freed x i)) (unshared_fewer s (lock l x) r)

  waiter : (a : ℕ) → (txn t a).awaited_lock ≢ no_lock → (txn t a).awaited_item < S.items
  waiter a d = (g.txn_good a (waiter_inside S t g.txns_exact a d)).item_known d

  no_wait : T (awaits (txn t s)) → ⊥
  no_wait h = awaits→ (txn t s) h resting

  stay : (r : ℕ) → r < S.slots → r ≢ s → txn t r ≡ with_rank (txn t r) (leaving t s (txn t r))
  stay r i d = same-leaving t t s r no_wait refl

  links : (a b : ℕ) → T (waits_for t l' a b) → T (waits_for t l a b)
  links a b h =
      left-links S t t l s within stay no_wait g.ranks_good l' g.txns_exact a b
      (λ w k c. conflicts_fewer k b _ _ (fewer b (txn t a).awaited_item (waiter a (awaits→ (txn t a) w))) c) h

  ranked : GoodRanks S t l'
  ranked =
      record {
        least = g.ranks_good.least;
        most = g.ranks_good.most;
        apart = g.ranks_good.apart;
        exchangers = λ x a b i j h k c n.
            let w = item x a h in
            g.ranks_good.exchangers x a b i j h k ((fewer a x w).shared c)
            (λ z. n (subst T (sym (shared_still x w b (λ e. no_wait (subst (λ (m : ℕ). T (awaits (txn t m))) e (awaits_on→ x (txn t b) k).0)))) z));
      }
    where
      item : (x a : ℕ) → T (awaits_on x (txn t a)) → x < S.items
      item x a h = let w = awaits_on→ x (txn t a) h in subst (λ (y : ℕ). y < S.items) w.1 (waiter a (awaits→ (txn t a) w.0))

      shared_still : (x : ℕ) → x < S.items → (r : ℕ) → r ≢ s → holds_shared (lock l' x) r ≡ holds_shared (lock l x) r
      shared_still x i r d = ap (λ (o : Lock). holds_shared o r) (freed x i) ∙ unshared-shares s (lock l x) r d

  pub unshared-good : Good S (tables G.txns (unshare S s G.locks) G.versions)
  unshared-good =
      record {
        txns_exact = g.txns_exact;
        locks_exact = length-unshare S s l g.locks_exact;
        versions_exact = g.versions_exact;
        last_most = g.last_most;
        clock_most = g.clock_most;
        txn_good = λ r i. txn_carried S t t l l' r (txn t r) (omega arith) (omega arith) (λ d. fewer r _ ((g.txn_good r i).item_known d)) (g.txn_good r i);
        distinct = g.distinct;
        lock_good = λ x i. subst (λ (o : Lock). GoodLock S t o) (sym (freed x i)) (unshared-lock s (lock l x) S t (g.lock_good x i));
        quota_good = λ r i. quota_carried S l l' r (txn t r) (exclusives_fewer S l l' r (λ x k. (fewer r x k).exclusive)) (g.quota_good r i);
        versions_good = g.versions_good;
        ranks_good = ranked;
        settled_good = settled_carried S G (tables t l' G.versions) (λ r i h. (h, refl)) (λ r x i j a h. ((fewer r x j).exclusive h, refl)) g.settled_good;
        sets_good = sets_carried S G (tables t l' G.versions) g g.sets_good.apart (λ q i h. h) (λ r i. refl) (λ q x i b. b) fewer (λ x q i b. b);
        no_circle = fewer_no_circle S G g t l' links;
      }

  pub unshared-holds : (x : ℕ) → x < S.items → T (holds_shared (lock (unshare S s G.locks) x) s) → ⊥
  unshared-holds x i a = unshared_none s (lock l x) (subst (λ (o : Lock). T (holds_shared o s)) (freed x i) a)

-- ---- the row of slot s, an update that shares nothing and awaits nothing, becomes that of one past its writing; no relaxed query lives
module _
    (S : Sizes) (G : Tables) (g : Good S G) (s : ℕ) (inside : s < S.slots) (update : T (live_update (txn G.txns s)))
    (resting : (txn G.txns s).awaited_lock ≡ no_lock) (unspent : clock G.txns ≢ last_word)
    (sharing : (x : ℕ) → x < S.items → T (holds_shared (lock G.locks x) s) → ⊥)
    (alone : (q : ℕ) → q < S.slots → T (live_relaxed (txn G.txns q)) → ⊥)
  where
    abbrev t₀ : List ℕ
    t₀ = G.txns

    abbrev c : ℕ
    c = clock t₀ + 1

    abbrev R : Txn
    R = new_txn (txn t₀ s).number a_settled c

    abbrev u : List ℕ
    u = set t₀ clock_at c

    abbrev t' : List ℕ
    t' = set_txn u s R

    size : length u ≡ txn_words S
    size = length-set t₀ clock_at c ∙ g.txns_exact

    here : txn t' s ≡ R
    here = txn-set_txn u s R S size inside

    there : (r : ℕ) → r ≢ s → txn t' r ≡ txn t₀ r
    there r d = txn-set_txn-other u s R r d ∙ txn-top t₀ clock_at c r (omega arith)

    last' : last_number t' ≡ last_number t₀
    last' = last_number-set_txn u s R ∙ get_or-set_other t₀ clock_at 0 c 0 (omega arith)

    clock' : clock t' ≡ c
    clock' = clock-set_txn u s R ∙ get_or-set_same t₀ clock_at c 0 (omega (arith, g.txns_exact))

    alive : T (live (txn t₀ s))
    alive = (update-live (txn t₀ s) update).0

    new_row : GoodTxn S t' G.locks s R
    new_row =
        record {
          free = λ e. absurd (live-number (txn t₀ s) alive e);
          given = let a = last' in let b = (g.txn_good s inside).given in omega arith;
          kind_listed = inr (inr (inl refl));
          lock_listed = omega arith;
          update_start = λ h. absurd (let a = (update-live R h).1 in omega arith);
          relaxed_start = λ h. absurd (let a = (relaxed-live R h).1 in omega arith);
          reader_start = λ h. let a = clock' in omega arith;
          reader_idle = λ h. refl;
          settled_start = λ h. omega arith;
          item_known = λ d. absurd (d refl);
          item_unused = λ e. refl;
          rank_unused = λ e. refl;
          reads_good = no_reads R refl refl;
          notes_good = no_notes S R refl refl;
          awaits_shared = λ e. absurd (omega arith);
          awaits_exclusive = λ e. absurd (omega arith);
        }

    rows : (r : ℕ) → r < S.slots → GoodTxn S t' G.locks r (txn t' r)
    rows r i = go (same? r s)
      where
        go : (r ≡ s) ⊎ (r ≢ s) → GoodTxn S t' G.locks r (txn t' r)
        go (inl e) = subst (λ (m : ℕ). GoodTxn S t' G.locks m (txn t' m)) (sym e) (subst (λ (w : Txn). GoodTxn S t' G.locks s w) (sym here) new_row)
        go (inr d) =
            subst (λ (w : Txn). GoodTxn S t' G.locks r w) (sym (there r d))
            (txn_carried S t₀ t' G.locks G.locks r (txn t₀ r) (let a = last' in omega arith) (let a = clock' in omega arith) (λ w. no_more_same r refl) (g.txn_good r i))

    number' : (r : ℕ) → (txn t' r).number ≡ (txn t₀ r).number
    number' r = go (same? r s)
      where
        go : (r ≡ s) ⊎ (r ≢ s) → (txn t' r).number ≡ (txn t₀ r).number
        go (inl e) = ap (λ (m : ℕ). (txn t' m).number) e ∙ ap (λ (w : Txn). w.number) here ∙ ap (λ (m : ℕ). (txn t₀ m).number) (sym e)
        go (inr d) = ap (λ (w : Txn). w.number) (there r d)

    new_quota : GoodQuota S G.locks s R
    new_quota =
        record {
          most = λ h. (g.quota_good s inside).most (update-holds (txn t₀ s) update);
          full_idle = λ h e d. absurd (omega arith);
        }

    -- whoever holds may hold afterwards
    holds' : (r : ℕ) → T (may_hold (txn t₀ r)) → T (may_hold (txn t' r))
    holds' r h = go (same? r s)
      where
        go : (r ≡ s) ⊎ (r ≢ s) → T (may_hold (txn t' r))
        go (inl e) = subst (λ (m : ℕ). T (may_hold (txn t' m))) (sym e) (subst (λ (w : Txn). T (may_hold w)) (sym here) (settled-holds R (live-settled R (number-live R (live-number (txn t₀ s) alive)) refl)))
        go (inr d) = subst (λ (w : Txn). T (may_hold w)) (sym (there r d)) h

    -- a reader of before is another's row; one of afterwards that was none may read every newest version, since its stamp is above
    reader-stays : (r : ℕ) → T (is_reader (txn t₀ r)) → T (is_reader (txn t' r)) × (reader_in t' r ≡ reader_in t₀ r)
    reader-stays r h =
        let e = there r (λ z. update_no_reader (txn t₀ s) update (subst (λ (m : ℕ). T (is_reader (txn t₀ m))) z h)) in
        (subst (λ (w : Txn). T (is_reader w)) (sym e) h, reads-alike t₀ t' r e)

    reader_new :
        (x : ℕ) → x < S.items → (r : ℕ) → T (is_reader (txn t' r))
        → (T (is_reader (txn t₀ r)) × (reader_in t' r ≡ reader_in t₀ r)) ⊎ T (sees (reader_in t' r) (get_or (versions_in S (row (version_row S) x G.versions)) 0 no_version))
    unfolding sees stamp_at
    reader_new x i r h = go (same? r s)
      where
        vs : List Version
        vs = versions_in S (row (version_row S) x G.versions)

        up : reader_in t' s ≡ up_to c
        up = reads_up_to t' s (λ e. let k = ap (λ (w : Txn). w.kind) here in absurd (omega arith)) ∙ ap (λ (w : Txn). up_to w.start) here

        go : (r ≡ s) ⊎ (r ≢ s) → (T (is_reader (txn t₀ r)) × (reader_in t' r ≡ reader_in t₀ r)) ⊎ T (sees (reader_in t' r) (get_or vs 0 no_version))
        go (inl e) =
            inr (subst (λ (p : Reader). T (sees p (get_or vs 0 no_version))) (sym (ap (reader_in t') e ∙ up))
            (le→leb (stamp_at vs 0) c (let a = (g.versions_good x i).first in omega arith)))
        go (inr d) = inl (subst (λ (w : Txn). T (is_reader w)) (there r d) h, reads-alike t₀ t' r (there r d))

    -- ---- where no relaxed query lives, there are no sets
    relaxed_not : (q : ℕ) → q < S.slots → T (live_relaxed (txn t' q)) → ⊥
    relaxed_not q i h = go (same? q s)
      where
        go : (q ≡ s) ⊎ (q ≢ s) → ⊥
        go (inl e) = let k = (relaxed-live R (subst (λ (w : Txn). T (live_relaxed w)) (ap (txn t') e ∙ here) h)).1 in omega arith
        go (inr d) = alone q i (subst (λ (w : Txn). T (live_relaxed w)) (there q d) h)

    sets : GoodSets S (tables t' G.locks G.versions)
    unfolding hidden_now versions_of
    sets =
        record {
          apart = λ a b i j h m. relaxed_not b j m;
          of_relaxed = λ r q i b. absurd (later_not r q i b (same? r s));
          holds_read = λ x r q i j e b. absurd (read_not q x j b (same? q s));
          holds_hidden = λ x r q i h b. absurd (let m = (g.versions_good x i).from_relaxed 0 q b in alone q m.0 m.1);
        }
      where
        later_not : (r q : ℕ) → r < S.slots → T (bit (txn t' r).later_for q) → (r ≡ s) ⊎ (r ≢ s) → ⊥
        later_not r q i b (inl e) = false_is (bit_none q) (subst (λ (w : Txn). T (bit w.later_for q)) (ap (txn t') e ∙ here) b)
        later_not r q i b (inr d) = let m = g.sets_good.of_relaxed r q i (subst (λ (w : Txn). T (bit w.later_for q)) (there r d) b) in alone q m.0 m.1

        read_not : (q x : ℕ) → q < S.slots → T (bit (txn t' q).items_read x) → (q ≡ s) ⊎ (q ≢ s) → ⊥
        read_not q x i b (inl e) = false_is (bit_none x) (subst (λ (w : Txn). T (bit w.items_read x)) (ap (txn t') e ∙ here) b)
        read_not q x i b (inr d) = alone q i (reader-relaxed S G g q x i (subst (λ (w : Txn). T (bit w.items_read x)) (there q d) b))

    none : T (awaits (txn t₀ s)) → ⊥
    none h = awaits→ (txn t₀ s) h resting

    others : (r : ℕ) → r < S.slots → r ≢ s → txn t' r ≡ with_rank (txn t₀ r) (leaving t₀ s (txn t₀ r))
    others r i d = same-leaving t₀ t' s r none (there r d)

    idle : T (awaits (txn t' s)) → ⊥
    idle h = awaits→ (txn t' s) h (ap (λ (w : Txn). w.awaited_lock) here)

    links' : (a b : ℕ) → T (waits_for t' G.locks a b) → T (waits_for t₀ G.locks a b)
    links' a b h =
        left-links S t₀ t' G.locks s inside others idle g.ranks_good G.locks (length-set_txn u s R ∙ size) a b (λ w k z. z) h

    -- no version is later than the clock
    newest_old : (x : ℕ) → x < S.items → stamp_at (versions_of S G.versions x) 0 ≤ clock t₀
    unfolding versions_of
    newest_old x i = (g.versions_good x i).first

    -- its stamp is above all
    stamped : GoodSettled S (tables t' G.locks G.versions)
    stamped =
        record {
          apart = λ a b i j d h k. pick a b i j d h k (same? a s) (same? b s);
          above = λ r x i j h k. over r x i j h k (same? r s);
        }
      where
        new_start : (r : ℕ) → r ≡ s → (txn t' r).start ≡ c
        new_start r e = ap (λ (m : ℕ). (txn t' m).start) e ∙ ap (λ (w : Txn). w.start) here

        old : (r : ℕ) → r < S.slots → r ≢ s → T (live_settled (txn t' r)) → T (live_settled (txn t₀ r)) × ((txn t' r).start ≡ (txn t₀ r).start) × ((txn t₀ r).start ≤ clock t₀)
        old r i d h =
            let k = subst (λ (w : Txn). T (live_settled w)) (there r d) h in
            (k, ap (λ (w : Txn). w.start) (there r d), (g.txn_good r i).reader_start (settled-starts (txn t₀ r) k))

        pick :
            (a b : ℕ) → a < S.slots → b < S.slots → a ≢ b → T (live_settled (txn t' a)) → T (live_settled (txn t' b)) → (a ≡ s) ⊎ (a ≢ s) → (b ≡ s) ⊎ (b ≢ s)
            → (txn t' a).start ≢ (txn t' b).start
        pick a b i j d h k (inl e) (inl f) = absurd (d (e ∙ sym f))
        pick a b i j d h k (inl e) (inr f) = λ z. let p = new_start a e in let q = old b j f k in let v = q.1 in let w = q.2 in absurd (omega arith)
        pick a b i j d h k (inr e) (inl f) = λ z. let p = new_start b f in let q = old a i e h in let v = q.1 in let w = q.2 in absurd (omega arith)
        pick a b i j d h k (inr e) (inr f) = λ z. let p = old a i e h in let q = old b j f k in g.settled_good.apart a b i j d p.0 q.0 (sym p.1 ∙ z ∙ q.1)

        over :
            (r x : ℕ) → r < S.slots → x < S.items → T (live_settled (txn t' r)) → T (holds_exclusive (lock G.locks x) r) → (r ≡ s) ⊎ (r ≢ s)
            → stamp_at (versions_of S G.versions x) 0 < (txn t' r).start
        over r x i j h k (inl e) = let a = newest_old x j in let b = new_start r e in omega arith
        over r x i j h k (inr d) = let p = old r i d h in let a = g.settled_good.above r x i j p.0 k in let b = p.1 in omega arith

    pub settled-row-good : Good S (tables (set_txn (set G.txns clock_at (clock G.txns + 1)) s (new_txn (txn G.txns s).number a_settled (clock G.txns + 1))) G.locks G.versions)
    settled-row-good =
        record {
          txns_exact = length-set_txn u s R ∙ size;
          locks_exact = g.locks_exact;
          versions_exact = g.versions_exact;
          last_most = let a = last' in let b = g.last_most in omega arith;
          clock_most = let a = clock' in let b = g.clock_most in omega arith;
          txn_good = rows;
          distinct = λ a b i j d h e. g.distinct a b i j d (number-live (txn t₀ b) (λ z. live-number (txn t' b) h (number' b ∙ z))) (sym (number' a) ∙ e ∙ number' b);
          lock_good = λ x i. lock_carried S t₀ t' (lock G.locks x)
              (λ r h q. subst (λ (w : Txn). T (live_update w)) (sym (there r (λ e. sharing x i (subst (λ (m : ℕ). T (holds_shared (lock G.locks x) m)) e h)))) q)
              (λ r h q. holds' r q) (g.lock_good x i);
          quota_good = quotas_but S G.locks t₀ t' s there (subst (λ (w : Txn). GoodQuota S G.locks s w) (sym here) new_quota) g.quota_good;
          versions_good = λ x i. versions_carried S t₀ t' _ (let a = clock' in omega arith) (λ r j h. reader-stays r h) (λ r j h. reader_new x i r h)
              (λ q j h. absurd (alone q j h)) (g.versions_good x i);
          ranks_good = left-ranks S t₀ t' G.locks s inside others idle g.ranks_good G.locks (λ x r d. refl);
          settled_good = stamped;
          sets_good = sets;
          no_circle = fewer_no_circle S G g t' G.locks links';
        }

-- ---- both together
pub settled-good :
    (S : Sizes) (G : Tables) → Good S G → (s : ℕ) → s < S.slots → T (live_update (txn G.txns s)) → (txn G.txns s).awaited_lock ≡ no_lock
    → clock G.txns ≢ last_word → ((q : ℕ) → q < S.slots → T (live_relaxed (txn G.txns q)) → ⊥) → Good S (settled S s G)
unfolding settled
settled-good S G g s inside update resting unspent alone =
    settled-row-good S (tables G.txns (unshare S s G.locks) G.versions) (unshared-good S G g s inside resting) s inside update resting unspent
    (unshared-holds S G g s inside resting) alone
