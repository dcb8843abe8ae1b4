-- What is noted in a row beside its number, kind, start and wait: the read count and the weight sum of request E8, the items read and the
-- sets joined of request E11. Where these alone change, and in good order, tables stay good.
use Prim.Native.Nat.{ℕ, ◌<◌}
use mathlib.Core.Path.{◌≡◌, refl, sym, ap, ap₂, ◌∙◌, subst}
use mathlib.Core.Logic.{◌≢◌, ◌⊎◌, inl, inr}
use mathlib.Core.Bool.{Bool, ◌&&◌, ◌||◌, not}
use mathlib.Core.List.{List}
use native.Mathlib.Omega.{arith}
use lib.ListN.{length, set}
use lib.Dec.{T, eqb}
use Rattle.names.specs.declared.Sizes.{Sizes}
use Rattle.names.specs.Layout.{txn_count_at, txn_sum_at, txn_items_read_at, txn_later_for_at}
use Rattle.rules.specs.Tables.{Tables, txn_words, last_number, clock, Txn, txn_in, txn_words_of, txn, set_txn, no_txn, live, live_update, live_settled, live_relaxed, may_hold, by_start, is_reader, reader_in, lock}
use Rattle.rules.specs.Waits.{awaits, awaits_on, waiters_on, conflicts, ahead, blocks, waits_for}
use Rattle.rules.specs.Good.{Good, GoodReads, GoodNotes, GoodTxn, GoodQuota, GoodRanks, GoodSets}
use Rattle.rules.specs.Step.{with_txns}
use Rattle.rules.proofs.Tests.{same?}
use Rattle.rules.proofs.Views.{txn-set_txn, txn-set_txn-other}
use Rattle.rules.proofs.Carried.{no_more_same, reads_by, txn_carried, lock_carried, versions-same, settled_carried}
use Rattle.rules.proofs.Lines.{counts_equal_lem}
use Rattle.rules.proofs.Deadlock.{fewer_no_circle}

-- the row r with other such words
abbrev pub noting : Txn → ℕ → ℕ → ℕ → ℕ → Txn
noting r n w i m = txn_in (set (set (set (set (txn_words_of r) txn_count_at n) txn_sum_at w) txn_items_read_at i) txn_later_for_at m)

-- the row q is the row r but for them
abbrev pub Beside : Txn → Txn → Type 0
Beside r q = q ≡ noting r q.read_count q.weight_sum q.items_read q.later_for

-- what does not go by them is as it was
pub beside_same :
    {A : Type 0} (h : Txn → A) → ((r : Txn) (n w i m : ℕ) → h (noting r n w i m) ≡ h r) → (r q : Txn) → Beside r q → h q ≡ h r
beside_same h e r q b = ap h b ∙ e r q.read_count q.weight_sum q.items_read q.later_for

pub beside_on : (r q p : Txn) → Beside r q → Beside q p → Beside r p
beside_on r q p a b = b ∙ ap (λ (v : Txn). noting v p.read_count p.weight_sum p.items_read p.later_for) a

-- the same row, and one written into a table
pub same_beside : (r q : Txn) → q ≡ r → Beside r q
same_beside r q e = subst (Beside r) (sym e) refl

pub written-beside :
    (S : Sizes) (t : List ℕ) (s : ℕ) (q : Txn) → length t ≡ txn_words S → s < S.slots → Beside (txn t s) q
    → (r : ℕ) → Beside (txn t r) (txn (set_txn t s q) r)
written-beside S t s q e i b r = go (same? r s)
  where
    go : (r ≡ s) ⊎ (r ≢ s) → Beside (txn t r) (txn (set_txn t s q) r)
    go (inl z) =
        subst (λ (m : ℕ). Beside (txn t m) (txn (set_txn t s q) m)) (sym z) (subst (Beside (txn t s)) (sym (txn-set_txn t s q S e i)) b)
    go (inr d) = same_beside (txn t r) (txn (set_txn t s q) r) (txn-set_txn-other t s q r d)

-- a good row with others in good order is a good one
pub noting-row :
    (S : Sizes) (t l : List ℕ) (s n w i m : ℕ) (r : Txn) → (r.number ≡ 0 → noting r n w i m ≡ no_txn) → GoodReads (noting r n w i m)
    → GoodNotes S (noting r n w i m) → GoodTxn S t l s r → GoodTxn S t l s (noting r n w i m)
unfolding by_start is_reader live_settled live_relaxed live_update live
noting-row S t l s n w i m r z a b g =
    record {
      free = z;
      given = g.given;
      kind_listed = g.kind_listed;
      lock_listed = g.lock_listed;
      update_start = g.update_start;
      relaxed_start = g.relaxed_start;
      reader_start = g.reader_start;
      reader_idle = g.reader_idle;
      settled_start = g.settled_start;
      item_known = g.item_known;
      item_unused = g.item_unused;
      rank_unused = g.rank_unused;
      reads_good = a;
      notes_good = b;
      awaits_shared = g.awaits_shared;
      awaits_exclusive = g.awaits_exclusive;
    }

-- ---- who waits waits as before
module _ (S : Sizes) (t t' l : List ℕ) (rows : (r : ℕ) → Beside (txn t r) (txn t' r)) where
  rank-beside : (r : ℕ) → (txn t' r).rank ≡ (txn t r).rank
  rank-beside r = beside_same (λ (r : Txn). r.rank) (λ r n w i m. refl) (txn t r) (txn t' r) (rows r)

  awaits-beside : (r : ℕ) → awaits (txn t' r) ≡ awaits (txn t r)
  unfolding awaits
  awaits-beside r = beside_same awaits (λ r n w i m. refl) (txn t r) (txn t' r) (rows r)

  on_beside : (x r : ℕ) → awaits_on x (txn t' r) ≡ awaits_on x (txn t r)
  unfolding awaits_on awaits
  on_beside x r = beside_same (awaits_on x) (λ r n w i m. refl) (txn t r) (txn t' r) (rows r)

  as_many : (x : ℕ) → waiters_on S t' x ≡ waiters_on S t x
  unfolding waiters_on
  as_many x = counts_equal_lem S.slots (λ b. awaits_on x (txn t' b)) (λ b. awaits_on x (txn t b)) (λ r i. on_beside x r)

  pub ranks-beside : GoodRanks S t l → GoodRanks S t' l
  ranks-beside o =
      record {
        least = λ s i w. let k = o.least s i (subst T (awaits-beside s) w) in let e = rank-beside s in omega arith;
        most = λ s i w.
            let k = o.most s i (subst T (awaits-beside s) w) in
            let e = rank-beside s in
            let f = as_many (txn t' s).awaited_item ∙ ap (waiters_on S t) (beside_same (λ (r : Txn). r.awaited_item) (λ r n w i m. refl) (txn t s) (txn t' s) (rows s)) in
            omega arith;
        apart = λ x r s i j d a b e. o.apart x r s i j d (subst T (on_beside x r) a) (subst T (on_beside x s) b) (sym (rank-beside r) ∙ e ∙ rank-beside s);
        exchangers = λ x r s i j a b h k.
            let q = o.exchangers x r s i j (subst T (on_beside x r) a) (subst T (on_beside x s) b) h k in
            let e = rank-beside r in let f = rank-beside s in omega arith;
      }

  -- who waits for whom, by their rows p and q
  abbrev link : ℕ → ℕ → Txn → Txn → Bool
  link a b p q =
      awaits p && (not (eqb a b) && (conflicts (lock l p.awaited_item) p.awaited_lock b || ahead p.awaited_item p.awaited_lock p.rank q))

  pub links-beside : (a b : ℕ) → waits_for t' l a b ≡ waits_for t l a b
  unfolding waits_for blocks awaits ahead awaits_on
  links-beside a b = ap₂ (link a b) (rows a) (rows b)

module _
    (S : Sizes) (G : Tables) (g : Good S G) (t' : List ℕ) (size : length t' ≡ txn_words S)
    (last' : last_number t' ≡ last_number G.txns) (clock' : clock t' ≡ clock G.txns)
    (rows : (r : ℕ) → Beside (txn G.txns r) (txn t' r))
  where
    abbrev t₀ : List ℕ
    t₀ = G.txns

    abbrev locks : List ℕ
    locks = G.locks

    same : {A : Type 0} (h : Txn → A) → ((r : Txn) (n w i m : ℕ) → h (noting r n w i m) ≡ h r) → (r : ℕ) → h (txn t' r) ≡ h (txn t₀ r)
    same h e r = beside_same h e (txn t₀ r) (txn t' r) (rows r)

    number' : (r : ℕ) → (txn t' r).number ≡ (txn t₀ r).number
    number' = same (λ (r : Txn). r.number) (λ r n w i m. refl)

    start' : (r : ℕ) → (txn t' r).start ≡ (txn t₀ r).start
    start' = same (λ (r : Txn). r.start) (λ r n w i m. refl)

    live' : (r : ℕ) → live (txn t' r) ≡ live (txn t₀ r)
    unfolding live
    live' = same live (λ r n w i m. refl)

    update' : (r : ℕ) → live_update (txn t' r) ≡ live_update (txn t₀ r)
    unfolding live_update live
    update' = same live_update (λ r n w i m. refl)

    holder' : (r : ℕ) → may_hold (txn t' r) ≡ may_hold (txn t₀ r)
    unfolding may_hold live_update live_settled live
    holder' = same may_hold (λ r n w i m. refl)

    settled' : (r : ℕ) → live_settled (txn t' r) ≡ live_settled (txn t₀ r)
    unfolding live_settled live
    settled' = same live_settled (λ r n w i m. refl)

    pub relaxed-beside : (r : ℕ) → live_relaxed (txn t' r) ≡ live_relaxed (txn G.txns r)
    unfolding live_relaxed live
    relaxed-beside = same live_relaxed (λ r n w i m. refl)

    reader' : (r : ℕ) → is_reader (txn t' r) ≡ is_reader (txn t₀ r)
    unfolding is_reader live
    reader' = same is_reader (λ r n w i m. refl)

    pub apart-beside : (a b : ℕ) → a < S.slots → b < S.slots → T (live_settled (txn t' a)) → T (live_relaxed (txn t' b)) → ⊥
    apart-beside a b i j h m = g.sets_good.apart a b i j (subst T (settled' a) h) (subst T (relaxed-beside b) m)

    pub how_beside : (r : ℕ) → reader_in t' r ≡ reader_in G.txns r
    how_beside r = reads_by t₀ t' r (same (λ (r : Txn). r.kind) (λ r n w i m. refl) r) (start' r)

    module _
        (free : (r : ℕ) → (txn G.txns r).number ≡ 0 → txn t' r ≡ txn G.txns r)
        (reads : (r : ℕ) → r < S.slots → GoodReads (txn t' r)) (notes : (r : ℕ) → r < S.slots → GoodNotes S (txn t' r))
        (sets : GoodSets S (with_txns G t'))
      where
        good_row : (r : ℕ) → r < S.slots → GoodTxn S t' locks r (txn t' r)
        good_row r i =
            subst (λ (w : Txn). GoodTxn S t' locks r w) (sym (rows r))
            (noting-row S t' locks r _ _ _ _ (txn t₀ r)
            (λ e. sym (rows r) ∙ free r e ∙ (g.txn_good r i).free e)
            (subst GoodReads (rows r) (reads r i)) (subst (GoodNotes S) (rows r) (notes r i))
            (txn_carried S t₀ t' locks locks r (txn t₀ r) (let a = last' in omega arith) (let a = clock' in omega arith) (λ d. no_more_same r refl) (g.txn_good r i)))

        quota : (r : ℕ) → r < S.slots → GoodQuota S locks r (txn t' r)
        quota r i =
            let o = g.quota_good r i in
            record {
              most = λ u. o.most (subst T (holder' r) u);
              full_idle = λ u e d. o.full_idle (subst T (holder' r) u) e (sym (same (λ (r : Txn). r.awaited_lock) (λ r n w i m. refl) r) ∙ d);
            }

        pub beside-good : Good S (with_txns G t')
        beside-good =
            record {
              txns_exact = size;
              locks_exact = g.locks_exact;
              versions_exact = g.versions_exact;
              last_most = let a = last' in let b = g.last_most in omega arith;
              clock_most = let a = clock' in let b = g.clock_most in omega arith;
              txn_good = good_row;
              distinct = λ a b i j d h e. g.distinct a b i j d (subst T (live' b) h) (sym (number' a) ∙ e ∙ number' b);
              lock_good = λ x i. lock_carried S t₀ t' (lock locks x) (λ r h u. subst T (sym (update' r)) u) (λ r h u. subst T (sym (holder' r)) u) (g.lock_good x i);
              quota_good = quota;
              versions_good = λ x i. versions-same S t₀ t' _ clock' (λ r i. reader' r) (λ r i. how_beside r) (λ r i. relaxed-beside r) (g.versions_good x i);
              ranks_good = ranks-beside S t₀ t' locks rows g.ranks_good;
              settled_good = settled_carried S G (with_txns G t') (λ r i h. (subst T (settled' r) h, start' r)) (λ r x i j a h. (h, refl)) g.settled_good;
              sets_good = sets;
              no_circle = fewer_no_circle S G g t' locks (λ a b h. subst T (links-beside S t₀ t' locks rows a b) h);
            }
