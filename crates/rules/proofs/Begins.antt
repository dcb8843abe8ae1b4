-- Begin leaves good tables.
use Prim.Native.Nat.{ℕ, ◌+◌, ◌≤◌, ◌<◌}
use mathlib.Core.Path.{◌≡◌, refl, sym, ap, ◌∙◌, subst}
use mathlib.Core.Logic.{◌≢◌, ◌⊎◌, inl, inr}
use mathlib.Core.List.{List}
use native.Mathlib.Omega.{arith}
use lib.ListN.{length, get_or, set, length-set}
use lib.Seq.{get_or-set_same, get_or-set_other}
use lib.Dec.{T, le→leb}
use Rattle.names.specs.declared.Sizes.{Sizes}
use Rattle.names.specs.Sizes.{last_word}
use Rattle.rules.specs.Words.{row, bit}
use Rattle.rules.specs.Tables.{new_txn, no_txn, Tables, txn_words, version_row, last_number, clock, Txn, txn, set_txn, with_rank, live, live_settled, live_relaxed, is_reader}
use Rattle.rules.specs.Tables.{an_update, a_query, a_settled, a_relaxed, Reader, up_to, reader_in, lock}
use Rattle.rules.specs.Versions.{Version, no_version, versions_in, stamp_at, hidden_at, sees}
use Rattle.rules.specs.Waits.{awaits, waits_for}
use Rattle.rules.specs.Changed.{leaving}
use Rattle.rules.specs.Good.{Good, GoodTxn, GoodQuota}
use Rattle.rules.specs.Step.{begun}
use Rattle.rules.proofs.Tests.{same?, not_make, false_is}
use Rattle.rules.proofs.Bits.{bit_none}
use Rattle.rules.proofs.Views.{length-set_txn, last_number-set_txn, clock-set_txn, txn-set_txn, txn-set_txn-other, txn-top}
use Rattle.rules.proofs.RowKinds.{update-live, settled-live, relaxed-live, holder_live, reader-live, free-number, reads_up_to, reads-outside}
use Rattle.rules.proofs.Quotas.{exclusives_none, quotas_but}
use Rattle.rules.proofs.Carried.{no_reads, no_notes, no_more_same, reads-alike, txn_carried, lock_carried, versions_carried, settled_carried, sets_carried}
use Rattle.rules.proofs.EqualRanks.{awaits→}
use Rattle.rules.proofs.Lines.{same-leaving, left-ranks, left-links}
use Rattle.rules.proofs.Deadlock.{fewer_no_circle}

-- who may begin: an update, a query that starts at the clock, a relaxed query while nobody is past its writing
pub data Beginner (S : Sizes) (G : Tables) (k q : ℕ) : Type 0 where
  updates : k ≡ an_update → q ≡ 0 → Beginner S G k q
  queries : k ≡ a_query → q ≡ clock G.txns → Beginner S G k q
  relaxes : k ≡ a_relaxed → q ≡ 0 → ((r : ℕ) → r < S.slots → T (live_settled (txn G.txns r)) → ⊥) → Beginner S G k q

-- a row of the kind k with the start q in the free slot s
module _ (S : Sizes) (G : Tables) (g : Good S G) (k q s : ℕ) (inside : s < S.slots) (unused : T (live (txn G.txns s)) → ⊥)
    (room : last_number G.txns < last_word) (kinds : Beginner S G k q) where
  abbrev t : List ℕ
  t = G.txns

  abbrev n : ℕ
  n = last_number t + 1

  abbrev R : Txn
  R = new_txn n k q

  abbrev t' : List ℕ
  t' = set_txn (set t 0 n) s R

  size : length (set t 0 n) ≡ txn_words S
  size = length-set t 0 n ∙ g.txns_exact

  last' : last_number t' ≡ n
  last' = last_number-set_txn (set t 0 n) s R ∙ get_or-set_same t 0 n 0 (omega (arith, g.txns_exact))

  clock' : clock t' ≡ clock t
  clock' = clock-set_txn (set t 0 n) s R ∙ get_or-set_other t 0 1 n 0 (omega arith)

  here : txn t' s ≡ R
  here = txn-set_txn (set t 0 n) s R S size inside

  there : (r : ℕ) → r ≢ s → txn t' r ≡ txn t r
  there r d = txn-set_txn-other (set t 0 n) s R r d ∙ txn-top t 0 n r (omega arith)

  kind-listed : Beginner S G k q → (k ≡ an_update) ⊎ ((k ≡ a_query) ⊎ ((k ≡ a_settled) ⊎ (k ≡ a_relaxed)))
  kind-listed (updates e f) = inl e
  kind-listed (queries e f) = inr (inl e)
  kind-listed (relaxes e f n) = inr (inr (inr e))

  not_settled : Beginner S G k q → k ≢ a_settled
  not_settled (updates e f) z = absurd (omega arith)
  not_settled (queries e f) z = absurd (omega arith)
  not_settled (relaxes e f n) z = absurd (omega arith)

  no_start : Beginner S G k q → k ≢ a_query → q ≡ 0
  no_start (updates e f) d = f
  no_start (queries e f) d = absurd (d e)
  no_start (relaxes e f n) d = f

  most-start : Beginner S G k q → q ≤ clock t
  most-start (updates e f) = omega arith
  most-start (queries e f) = omega arith
  most-start (relaxes e f n) = omega arith

  new_row : GoodTxn S t' G.locks s R
  new_row =
      record {
        free = λ e. absurd (omega arith);
        given = let a = last' in omega arith;
        kind_listed = kind-listed kinds;
        lock_listed = omega arith;
        update_start = λ h. no_start kinds (λ z. let a = (update-live R h).1 in omega arith);
        relaxed_start = λ h. no_start kinds (λ z. let a = (relaxed-live R h).1 in omega arith);
        reader_start = λ h. let a = most-start kinds in let b = clock' in omega arith;
        reader_idle = λ h. refl;
        settled_start = λ h. absurd (not_settled kinds (settled-live R h).1);
        item_known = λ d. absurd (d refl);
        item_unused = λ e. refl;
        rank_unused = λ e. refl;
        reads_good = no_reads R refl refl;
        notes_good = no_notes S R refl refl;
        awaits_shared = λ e. absurd (omega arith);
        awaits_exclusive = λ e. absurd (omega arith);
      }

  rows : (r : ℕ) → r < S.slots → GoodTxn S t' G.locks r (txn t' r)
  rows r i = go (same? r s)
    where
      go : (r ≡ s) ⊎ (r ≢ s) → GoodTxn S t' G.locks r (txn t' r)
      go (inl e) = subst (λ (m : ℕ). GoodTxn S t' G.locks m (txn t' m)) (sym e) (subst (λ (w : Txn). GoodTxn S t' G.locks s w) (sym here) new_row)
      go (inr d) =
          subst (λ (w : Txn). GoodTxn S t' G.locks r w) (sym (there r d))
          (txn_carried S t t' G.locks G.locks r (txn t r) (let a = last' in omega arith) (let a = clock' in omega arith) (λ w. no_more_same r refl) (g.txn_good r i))

  -- who was not there holds nothing
  new_quota : GoodQuota S G.locks s R
  new_quota =
      record {
        most = λ u. let a = exclusives_none S t G.locks g.lock_good s (λ h. unused (holder_live (txn t s) h).0) in omega arith;
        full_idle = λ u e d. absurd (omega arith);
      }

  quotas : (r : ℕ) → r < S.slots → GoodQuota S G.locks r (txn t' r)
  quotas = quotas_but S G.locks t t' s there (subst (λ (w : Txn). GoodQuota S G.locks s w) (sym here) new_quota) g.quota_good

  apart : (a b : ℕ) → a < S.slots → b < S.slots → a ≢ b → T (live (txn t' b)) → (txn t' a).number ≢ (txn t' b).number
  apart a b i j d = go (same? a s) (same? b s)
    where
      below : (r : ℕ) → r < S.slots → (txn t r).number < n
      below r c = let e = (g.txn_good r c).given in omega arith

      go : (a ≡ s) ⊎ (a ≢ s) → (b ≡ s) ⊎ (b ≢ s) → T (live (txn t' b)) → (txn t' a).number ≢ (txn t' b).number
      go (inl e) (inl f) h z = absurd (d (e ∙ sym f))
      go (inl e) (inr f) h z =
          let u : (txn t' a).number ≡ n = ap (λ (m : ℕ). (txn t' m).number) e ∙ ap (λ (w : Txn). w.number) here in
          let v : (txn t' b).number ≡ (txn t b).number = ap (λ (w : Txn). w.number) (there b f) in
          let c = below b j in absurd (omega arith)
      go (inr e) (inl f) h z =
          let u : (txn t' b).number ≡ n = ap (λ (m : ℕ). (txn t' m).number) f ∙ ap (λ (w : Txn). w.number) here in
          let v : (txn t' a).number ≡ (txn t a).number = ap (λ (w : Txn). w.number) (there a e) in
          let c = below a i in absurd (omega arith)
      go (inr e) (inr f) h z =
          g.distinct a b i j d (subst (λ (w : Txn). T (live w)) (there b f) h)
          (ap (λ (w : Txn). w.number) (sym (there a e)) ∙ z ∙ ap (λ (w : Txn). w.number) (there b f))

  -- who lived in another slot lives there as before
  alive : (r : ℕ) → T (live (txn t r)) → txn t' r ≡ txn t r
  alive r h = there r (λ e. unused (subst (λ (m : ℕ). T (live (txn t m))) e h))

  -- who read there reads as before; the newcomer, if it reads, may read the newest version of every row
  reader-stays : (r : ℕ) → T (is_reader (txn t r)) → T (is_reader (txn t' r)) × (reader_in t' r ≡ reader_in t r)
  reader-stays r h = let e = alive r (reader-live (txn t r) h).0 in (subst (λ (w : Txn). T (is_reader w)) (sym e) h, reads-alike t t' r e)

  first-seen : (x : ℕ) → x < S.items → T (is_reader R) → T (sees (reader_in t' s) (get_or (versions_in S (row (version_row S) x G.versions)) 0 no_version))
  unfolding stamp_at hidden_at sees
  first-seen x i h = go kinds
    where
      vs : List Version
      vs = versions_in S (row (version_row S) x G.versions)

      by_start_lem : k ≢ a_relaxed → clock t ≤ q → T (sees (reader_in t' s) (get_or vs 0 no_version))
      by_start_lem d l =
          subst (λ (p : Reader). T (sees p (get_or vs 0 no_version)))
          (sym (reads_up_to t' s (λ e. d (sym (ap (λ (w : Txn). w.kind) here) ∙ e)) ∙ ap (λ (w : Txn). up_to w.start) here))
          (le→leb (stamp_at vs 0) q (let a = (g.versions_good x i).first in omega arith))

      go : Beginner S G k q → T (sees (reader_in t' s) (get_or vs 0 no_version))
      go (updates e f) = absurd ((reader-live R h).1 e)
      go (queries e f) = by_start_lem (λ z. absurd (omega arith)) (omega arith)
      go (relaxes e f n) =
          subst (λ (p : Reader). T (sees p (get_or vs 0 no_version)))
          (sym (reads-outside t' s (ap (λ (w : Txn). w.kind) here ∙ e)))
          (not_make (bit (hidden_at vs 0) s) (λ b. unused (relaxed-live (txn t s) ((g.versions_good x i).from_relaxed 0 s b).1).0))

  reader_new :
      (x : ℕ) → x < S.items → (r : ℕ) → T (is_reader (txn t' r))
      → (T (is_reader (txn t r)) × (reader_in t' r ≡ reader_in t r)) ⊎ T (sees (reader_in t' r) (get_or (versions_in S (row (version_row S) x G.versions)) 0 no_version))
  reader_new x i r h = go (same? r s)
    where
      go : (r ≡ s) ⊎ (r ≢ s) → (T (is_reader (txn t r)) × (reader_in t' r ≡ reader_in t r)) ⊎ T (sees (reader_in t' r) (get_or (versions_in S (row (version_row S) x G.versions)) 0 no_version))
      go (inl e) =
          inr (subst (λ (m : ℕ). T (sees (reader_in t' m) (get_or (versions_in S (row (version_row S) x G.versions)) 0 no_version))) (sym e)
          (first-seen x i (subst (λ (w : Txn). T (is_reader w)) (ap (txn t') e ∙ here) h)))
      go (inr d) = inl (subst (λ (w : Txn). T (is_reader w)) (there r d) h, reads-alike t t' r (there r d))

  relaxed-stays : (r : ℕ) → T (live_relaxed (txn t r)) → T (live_relaxed (txn t' r))
  relaxed-stays r h = subst (λ (w : Txn). T (live_relaxed w)) (sym (alive r (relaxed-live (txn t r) h).0)) h

  -- the newcomer waits for nobody, and nobody waits for it
  no_wait : T (awaits (txn t s)) → ⊥
  no_wait h = awaits→ (txn t s) h (ap (λ (w : Txn). w.awaited_lock) ((g.txn_good s inside).free (free-number (txn t s) unused)))

  rows' : (r : ℕ) → r < S.slots → r ≢ s → txn t' r ≡ with_rank (txn t r) (leaving t s (txn t r))
  rows' r i d = same-leaving t t' s r no_wait (there r d)

  idle : T (awaits (txn t' s)) → ⊥
  idle h = awaits→ (txn t' s) h (ap (λ (w : Txn). w.awaited_lock) here)

  links : (a b : ℕ) → T (waits_for t' G.locks a b) → T (waits_for t G.locks a b)
  links a b h =
      left-links S t t' G.locks s inside rows' idle g.ranks_good G.locks (length-set_txn (set t 0 n) s R ∙ size) a b (λ w k c. c) h

  pub begun-good : Good S (begun k q s G)
  unfolding begun
  begun-good =
      record {
        txns_exact = length-set_txn (set t 0 n) s R ∙ size;
        locks_exact = g.locks_exact;
        versions_exact = g.versions_exact;
        last_most = let a = last' in omega arith;
        clock_most = let a = clock' in let b = g.clock_most in omega arith;
        txn_good = rows;
        distinct = apart;
        lock_good = λ x i. lock_carried S t t' (lock G.locks x) (λ r h u. rw (alive r (update-live (txn t r) u).0) u)
            (λ r h u. rw (alive r (holder_live (txn t r) u).0) u) (g.lock_good x i);
        quota_good = quotas;
        versions_good = λ x i. versions_carried S t t' _ (let a = clock' in omega arith) (λ r j h. reader-stays r h) (λ r j h. reader_new x i r h) (λ r j h. relaxed-stays r h) (g.versions_good x i);
        ranks_good = left-ranks S t t' G.locks s inside rows' idle g.ranks_good G.locks (λ x r d. refl);
        settled_good = settled_carried S G (begun k q s G) settled (λ r x i j a h. (h, refl)) g.settled_good;
        sets_good = sets_carried S G (begun k q s G) g kept-apart (λ r i h. relaxed-stays r h) (λ r i. sets r (same? r s)) (λ r x i b. read r x (same? r s) b)
            (λ r x i. no_more_same r refl) (λ x r i b. b);
        no_circle = fewer_no_circle S G g t' G.locks links;
      }
    where
      -- the newcomer is none of those past their writing
      settled : (r : ℕ) → r < S.slots → T (live_settled (txn t' r)) → T (live_settled (txn t r)) × ((txn t' r).start ≡ (txn t r).start)
      settled r i h = go (same? r s)
        where
          go : (r ≡ s) ⊎ (r ≢ s) → T (live_settled (txn t r)) × ((txn t' r).start ≡ (txn t r).start)
          go (inl e) = absurd (not_settled kinds (settled-live R (subst (λ (w : Txn). T (live_settled w)) (ap (txn t') e ∙ here) h)).1)
          go (inr d) = (subst (λ (w : Txn). T (live_settled w)) (there r d) h, ap (λ (w : Txn). w.start) (there r d))

      -- the newcomer is in no set, as nobody was there, and has read nothing
      nobody : txn t s ≡ no_txn
      nobody = (g.txn_good s inside).free (free-number (txn t s) unused)

      sets : (r : ℕ) → (r ≡ s) ⊎ (r ≢ s) → (txn t' r).later_for ≡ (txn t r).later_for
      sets r (inl e) = ap (λ (m : ℕ). (txn t' m).later_for) e ∙ ap (λ (w : Txn). w.later_for) here ∙ sym (ap (λ (m : ℕ). (txn t m).later_for) e ∙ ap (λ (w : Txn). w.later_for) nobody)
      sets r (inr d) = ap (λ (w : Txn). w.later_for) (there r d)

      read : (r x : ℕ) → (r ≡ s) ⊎ (r ≢ s) → T (bit (txn t' r).items_read x) → T (bit (txn t r).items_read x)
      read r x (inl e) b = absurd (false_is (bit_none x) (subst (λ (w : Txn). T (bit w.items_read x)) (ap (txn t') e ∙ here) b))
      read r x (inr d) b = subst (λ (w : Txn). T (bit w.items_read x)) (there r d) b

      -- whoever is relaxed was so, or is the newcomer, beside whom nobody is past its writing
      kept-apart : (a b : ℕ) → a < S.slots → b < S.slots → T (live_settled (txn t' a)) → T (live_relaxed (txn t' b)) → ⊥
      kept-apart a b i j h m = go (same? b s)
        where
          lone : Beginner S G k q → T (live_relaxed R) → ⊥
          lone (updates e f) z = let u = (relaxed-live R z).1 in omega arith
          lone (queries e f) z = let u = (relaxed-live R z).1 in omega arith
          lone (relaxes e f n) z = n a i (settled a i h).0

          go : (b ≡ s) ⊎ (b ≢ s) → ⊥
          go (inl e) = lone kinds (subst (λ (w : Txn). T (live_relaxed w)) (ap (txn t') e ∙ here) m)
          go (inr d) = g.sets_good.apart a b i j (settled a i h).0 (subst (λ (w : Txn). T (live_relaxed w)) (there b d) m)
