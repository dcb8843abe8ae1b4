-- The awaited fields of a live update written, as a wait and a grant do, leave good tables.
use Prim.Native.Nat.{ℕ, ◌≤◌, ◌<◌}
use mathlib.Core.Path.{◌≡◌, refl, sym, ap, ◌∙◌, subst}
use mathlib.Core.Logic.{◌≢◌, ◌⊎◌, inl, inr}
use mathlib.Core.List.{List}
use native.Mathlib.Omega.{arith}
use lib.ListN.{length}
use lib.Dec.{T}
use Rattle.names.specs.declared.Sizes.{Sizes}
use Rattle.rules.specs.Words.{bit}
use Rattle.rules.specs.Tables.{Tables, txn_words, last_number, clock, Txn, txn, with_rank, live, live_update, live_settled, live_relaxed, may_hold, is_reader, reader_in}
use Rattle.rules.specs.Tables.{no_lock, shared_lock, exclusive_lock, lock, holds, holds_exclusive, exclusives_of}
use Rattle.rules.specs.Waits.{waits_for, Walk}
use Rattle.rules.specs.Good.{Good, GoodTxn, GoodQuota, GoodRanks}
use Rattle.rules.specs.Step.{with_txns}
use Rattle.rules.proofs.Tests.{same?}
use Rattle.rules.proofs.Views.{awaiting}
use Rattle.rules.proofs.RowKinds.{live-number, update-live, settled-live, relaxed-live, reader-live, start-reads, update-holds}
use Rattle.rules.proofs.Carried.{same_reads, same_notes, no_more_same, reads_by, txn_carried, row-reranked, lock_carried, versions-same, settled_carried, sets_carried}
use Rattle.rules.proofs.Quotas.{quotas_but_rank}

-- what may be written: nothing awaited, or a lock on a known item that the slot does not hold, an exclusive one if it has room for it
pub record MayAwait (S : Sizes) (G : Tables) (s k x : ℕ) : Type 0 where
  pub listed : k ≤ exclusive_lock
  pub known : k ≢ no_lock → x < S.items
  pub none : k ≡ no_lock → x ≡ 0
  pub shared : k ≡ shared_lock → T (holds (lock G.locks x) s) → ⊥
  pub exclusive : k ≡ exclusive_lock → T (holds_exclusive (lock G.locks x) s) → ⊥
  pub room : k ≡ exclusive_lock → exclusives_of S G.locks s ≢ S.quota

-- ---- the awaited fields of slot s are written, and the others have other ranks, f says which: 0 where nothing is awaited
module _
    (S : Sizes) (G : Tables) (g : Good S G) (s k x p : ℕ) (inside : s < S.slots) (update : T (live_update (txn G.txns s)))
    (may : MayAwait S G s k x) (t' : List ℕ) (size : length t' ≡ txn_words S)
    (last' : last_number t' ≡ last_number G.txns) (clock' : clock t' ≡ clock G.txns)
    (here : txn t' s ≡ awaiting (txn G.txns s) k x p) (unused : k ≡ no_lock → p ≡ 0)
    (f : Txn → ℕ) (there : (r : ℕ) → r < S.slots → r ≢ s → txn t' r ≡ with_rank (txn G.txns r) (f (txn G.txns r)))
    (kept : (r : Txn) → r.awaited_lock ≡ no_lock → f r ≡ r.rank)
  where
    abbrev t : List ℕ
    t = G.txns

    abbrev R : Txn
    R = awaiting (txn t s) k x p

    -- number, kind and start of every row are as they were
    same : {A : Type 0} (h : Txn → A) → ((r : Txn) (k x p : ℕ) → h (awaiting r k x p) ≡ h r) → ((r : Txn) (p : ℕ) → h (with_rank r p) ≡ h r) → (r : ℕ) → r < S.slots → h (txn t' r) ≡ h (txn t r)
    same h a b r i = go (same? r s)
      where
        go : (r ≡ s) ⊎ (r ≢ s) → h (txn t' r) ≡ h (txn t r)
        go (inl q) = ap (λ (m : ℕ). h (txn t' m)) q ∙ ap h here ∙ a (txn t s) k x p ∙ ap (λ (m : ℕ). h (txn t m)) (sym q)
        go (inr d) = ap h (there r i d) ∙ b (txn t r) (f (txn t r))

    number' : (r : ℕ) → r < S.slots → (txn t' r).number ≡ (txn t r).number
    number' = same (λ (w : Txn). w.number) (λ w k x p. refl) (λ w p. refl)

    live' : (r : ℕ) → r < S.slots → live (txn t' r) ≡ live (txn t r)
    unfolding live
    live' = same live (λ w k x p. refl) (λ w p. refl)

    update' : (r : ℕ) → r < S.slots → live_update (txn t' r) ≡ live_update (txn t r)
    unfolding live_update live
    update' = same live_update (λ w k x p. refl) (λ w p. refl)

    holder' : (r : ℕ) → r < S.slots → may_hold (txn t' r) ≡ may_hold (txn t r)
    unfolding may_hold live_update live_settled live
    holder' = same may_hold (λ w k x p. refl) (λ w p. refl)

    reader' : (r : ℕ) → r < S.slots → is_reader (txn t' r) ≡ is_reader (txn t r)
    unfolding is_reader live
    reader' = same is_reader (λ w k x p. refl) (λ w p. refl)

    relaxed' : (r : ℕ) → r < S.slots → live_relaxed (txn t' r) ≡ live_relaxed (txn t r)
    unfolding live_relaxed live
    relaxed' = same live_relaxed (λ w k x p. refl) (λ w p. refl)

    settled' : (r : ℕ) → r < S.slots → live_settled (txn t' r) ≡ live_settled (txn t r)
    unfolding live_settled live
    settled' = same live_settled (λ w k x p. refl) (λ w p. refl)

    start' : (r : ℕ) → r < S.slots → (txn t' r).start ≡ (txn t r).start
    start' = same (λ (w : Txn). w.start) (λ w k x p. refl) (λ w p. refl)

    how' : (r : ℕ) → r < S.slots → reader_in t' r ≡ reader_in t r
    how' r i = reads_by t t' r (same (λ (w : Txn). w.kind) (λ w k x p. refl) (λ w p. refl) r i) (start' r i)

    sets' : (r : ℕ) → r < S.slots → (txn t' r).later_for ≡ (txn t r).later_for
    sets' = same (λ (w : Txn). w.later_for) (λ w k x p. refl) (λ w p. refl)

    items' : (r : ℕ) → r < S.slots → (txn t' r).items_read ≡ (txn t r).items_read
    items' = same (λ (w : Txn). w.items_read) (λ w k x p. refl) (λ w p. refl)

    new_row : GoodTxn S t' G.locks s R
    unfolding live_update may_hold live_settled live_relaxed live
    new_row =
        let o = g.txn_good s inside in
        let a = update-live (txn t s) update in
        record {
          free = λ e. absurd (live-number (txn t s) a.0 e);
          given = let b = o.given in omega arith;
          kind_listed = inl a.1;
          lock_listed = may.listed;
          update_start = λ h. o.update_start update;
          relaxed_start = λ h. absurd (let b = (relaxed-live R h).1 in let c = a.1 in omega arith);
          reader_start = λ h. absurd ((reader-live R (start-reads R h)).1 a.1);
          reader_idle = λ h. absurd ((reader-live R h).1 a.1);
          settled_start = λ h. absurd (let b = (settled-live R h).1 in let c = a.1 in omega arith);
          item_known = may.known;
          item_unused = may.none;
          rank_unused = unused;
          reads_good = same_reads (txn t s) R refl refl refl o.reads_good;
          notes_good = same_notes S (txn t s) R refl refl refl refl o.notes_good;
          awaits_shared = may.shared;
          awaits_exclusive = may.exclusive;
        }

    rows : (r : ℕ) → r < S.slots → GoodTxn S t' G.locks r (txn t' r)
    rows r i = go (same? r s)
      where
        go : (r ≡ s) ⊎ (r ≢ s) → GoodTxn S t' G.locks r (txn t' r)
        go (inl e) = subst (λ (m : ℕ). GoodTxn S t' G.locks m (txn t' m)) (sym e) (subst (λ (w : Txn). GoodTxn S t' G.locks s w) (sym here) new_row)
        go (inr d) =
            subst (λ (w : Txn). GoodTxn S t' G.locks r w) (sym (there r i d))
            (row-reranked S t' G.locks r (f (txn t r)) (txn t r) (λ e. kept (txn t r) e ∙ (g.txn_good r i).rank_unused e)
            (txn_carried S t t' G.locks G.locks r (txn t r) (let a = last' in omega arith) (let a = clock' in omega arith) (λ w. no_more_same r refl) (g.txn_good r i)))

    new_quota : GoodQuota S G.locks s R
    new_quota = record { most = λ u. (g.quota_good s inside).most (update-holds (txn t s) update); full_idle = λ u e d. may.room d e }

    quotas : (r : ℕ) → r < S.slots → GoodQuota S G.locks r (txn t' r)
    quotas = quotas_but_rank S G.locks t t' s f there (subst (λ (w : Txn). GoodQuota S G.locks s w) (sym here) new_quota) g.quota_good

    pub awaiting_good : GoodRanks S t' G.locks → ((a : ℕ) → Walk (waits_for t' G.locks) a a → ⊥) → Good S (with_txns G t')
    awaiting_good ranked uncircled =
        record {
          txns_exact = size;
          locks_exact = g.locks_exact;
          versions_exact = g.versions_exact;
          last_most = let a = last' in let b = g.last_most in omega arith;
          clock_most = let a = clock' in let b = g.clock_most in omega arith;
          txn_good = rows;
          distinct = λ a b i j d h e. g.distinct a b i j d (subst T (live' b j) h) (sym (number' a i) ∙ e ∙ number' b j);
          lock_good = λ y i. lock_carried S t t' (lock G.locks y) (λ r h u. subst T (sym (update' r ((g.lock_good y i).sharers r h).0)) u)
              (λ r h u. subst T (sym (holder' r ((g.lock_good y i).excluders r h).0)) u) (g.lock_good y i);
          quota_good = quotas;
          versions_good = λ x i. versions-same S t t' _ clock' reader' how' relaxed' (g.versions_good x i);
          ranks_good = ranked;
          settled_good = settled_carried S G (with_txns G t') (λ r i h. (subst T (settled' r i) h, start' r i)) (λ r x i j a h. (h, refl)) g.settled_good;
          sets_good = sets_carried S G (with_txns G t') g (λ a b i j h m. g.sets_good.apart a b i j (subst T (settled' a i) h) (subst T (relaxed' b j) m))
              (λ q i h. subst T (sym (relaxed' q i)) h) sets' (λ q x i b. subst (λ (w : ℕ). T (bit w x)) (items' q i) b) (λ r x i. no_more_same r refl) (λ x q i b. b);
          no_circle = uncircled;
        }
