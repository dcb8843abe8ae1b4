-- What a clause of good tables needs of other tables, to hold there too.
use Prim.Native.Nat.{ℕ, ◌-◌, ◌≤◌, ◌<◌}
use mathlib.Core.Path.{◌≡◌, refl, sym, ap, ap₂, ◌∙◌, subst}
use mathlib.Core.Logic.{◌≢◌, ◌⊎◌, inl, inr}
use mathlib.Core.Bool.{cond}
use mathlib.Core.List.{List}
use native.Mathlib.Omega.{arith}
use lib.ListN.{length, get_or}
use lib.Pow.{pow_pos}
use lib.Dec.{T, eqb}
use Rattle.names.specs.declared.Sizes.{Sizes}
use Rattle.rules.specs.Words.{bit}
use Rattle.rules.specs.Tables.{Tables, last_number, clock, Txn, txn, no_txn, with_rank, live, live_update, live_settled, live_relaxed, may_hold, by_start, is_reader, a_relaxed, Lock, lock}
use Rattle.rules.specs.Tables.{holds_shared, holds_exclusive, holds, no_lock, Reader, up_to, outside, reader_in}
use Rattle.rules.specs.Versions.{Version, no_version, versions_in, versions_of, stamp_at, hidden_now, sees, place}
use Rattle.rules.specs.Good.{GoodReads, GoodNotes, GoodTxn, GoodLock, GoodVersions, GoodSettled, GoodSets, Good}
use Rattle.rules.proofs.Tests.{or_cases, or_left, or_right}
use Rattle.rules.proofs.Choice.{Falls, Nests, length-versions_in, older_seen}
use Rattle.rules.proofs.Reading.{reads-newest}
use Rattle.rules.proofs.EqualRows.{holder}

-- request E8: a row with no reads, and one with the reads of another that may hold where it may
pub no_reads : (r : Txn) → r.read_count ≡ 0 → r.weight_sum ≡ 0 → GoodReads r
no_reads r n w = record { count_most = omega arith; sum_most = omega arith; update_count = λ h. n; update_sum = λ h. w }

pub same_reads : (r q : Txn) → q.read_count ≡ r.read_count → q.weight_sum ≡ r.weight_sum → may_hold q ≡ may_hold r → GoodReads r → GoodReads q
same_reads r q n w e g =
    record {
      count_most = let a = g.count_most in omega arith;
      sum_most = let a = g.sum_most in omega arith;
      update_count = λ h. n ∙ g.update_count (subst T e h);
      update_sum = λ h. w ∙ g.update_sum (subst T e h);
    }

-- request E11: a row with no notes, and one with the notes of another that is of the same kind
pub no_notes : (S : Sizes) (r : Txn) → r.items_read ≡ 0 → r.later_for ≡ 0 → GoodNotes S r
no_notes S r n m = record { items_most = let p = pow_pos S.items in omega arith; only_relaxed = λ h. n; only_updates = λ h. m }

pub same_notes :
    (S : Sizes) (r q : Txn) → q.items_read ≡ r.items_read → q.later_for ≡ r.later_for → live_relaxed q ≡ live_relaxed r → live_update q ≡ live_update r
    → GoodNotes S r → GoodNotes S q
same_notes S r q n m e f g =
    record {
      items_most = let a = g.items_most in omega arith;
      only_relaxed = λ h. n ∙ g.only_relaxed (λ k. h (subst T (sym e) k));
      only_updates = λ h. m ∙ g.only_updates (λ k. h (subst T (sym f) k));
    }

-- a free row is a good one, whatever stands in the tables
pub free-row : (S : Sizes) (t l : List ℕ) (s : ℕ) → GoodTxn S t l s no_txn
unfolding by_start live_settled live_relaxed live_update live
free-row S t l s =
    record {
      free = λ e. refl;
      given = omega arith;
      kind_listed = inl refl;
      lock_listed = omega arith;
      update_start = λ h. refl;
      relaxed_start = λ h. refl;
      reader_start = λ h. absurd h;
      reader_idle = λ h. refl;
      settled_start = λ h. absurd h;
      item_known = λ d. absurd (d refl);
      item_unused = λ e. refl;
      rank_unused = λ e. refl;
      reads_good = no_reads no_txn refl refl;
      notes_good = no_notes S no_txn refl refl;
      awaits_shared = λ e. absurd (omega arith);
      awaits_exclusive = λ e. absurd (omega arith);
    }

-- a good row with another rank is a good one, if it is 0 where nothing is awaited
pub row-reranked : (S : Sizes) (t l : List ℕ) (s p : ℕ) (r : Txn) → (r.awaited_lock ≡ no_lock → p ≡ 0) → GoodTxn S t l s r → GoodTxn S t l s (with_rank r p)
unfolding by_start is_reader may_hold live_settled live_relaxed live_update live
row-reranked S t l s p r z g =
    record {
      free = λ e. let f = g.free e in λ i. record { number = (f i).number; kind = (f i).kind; start = (f i).start; awaited_lock = (f i).awaited_lock; awaited_item = (f i).awaited_item; rank = z (ap (λ (w : Txn). w.awaited_lock) f) i; read_count = (f i).read_count; weight_sum = (f i).weight_sum; items_read = (f i).items_read; later_for = (f i).later_for };
      given = g.given;
      kind_listed = g.kind_listed;
      lock_listed = g.lock_listed;
      update_start = g.update_start;
      relaxed_start = g.relaxed_start;
      reader_start = g.reader_start;
      reader_idle = g.reader_idle;
      settled_start = g.settled_start;
      item_known = g.item_known;
      item_unused = g.item_unused;
      rank_unused = z;
      reads_good = same_reads r (with_rank r p) refl refl refl g.reads_good;
      notes_good = same_notes S r (with_rank r p) refl refl refl refl g.notes_good;
      awaits_shared = g.awaits_shared;
      awaits_exclusive = g.awaits_exclusive;
    }

-- slot s holds no more of the lock h' than of the lock h
pub record NoMore (s : ℕ) (h h' : Lock) : Type 0 where
  pub shared : T (holds_shared h' s) → T (holds_shared h s)
  pub exclusive : T (holds_exclusive h' s) → T (holds_exclusive h s)

pub no_more_holds : (s : ℕ) (h h' : Lock) → NoMore s h h' → T (holds h' s) → T (holds h s)
unfolding holds
no_more_holds s h h' n a = go (or_cases (holds_shared h' s) (holds_exclusive h' s) a)
  where
    go : T (holds_shared h' s) ⊎ T (holds_exclusive h' s) → T (holds h s)
    go (inl b) = or_left (holds_shared h s) _ (n.shared b)
    go (inr b) = or_right (holds_shared h s) _ (n.exclusive b)

pub no_more_same : (s : ℕ) {h h' : Lock} → h' ≡ h → NoMore s h h'
no_more_same s e =
    record { shared = λ a. subst (λ (o : Lock). T (holds_shared o s)) e a; exclusive = λ a. subst (λ (o : Lock). T (holds_exclusive o s)) e a }

-- a row of the same kind and with the same start reads in the same way
pub reads_by : (t t' : List ℕ) (s : ℕ) → (txn t' s).kind ≡ (txn t s).kind → (txn t' s).start ≡ (txn t s).start → reader_in t' s ≡ reader_in t s
unfolding reader_in
reads_by t t' s e f = ap₂ (λ (k q : ℕ). cond (eqb k a_relaxed) (outside s) (up_to q)) e f

pub reads-alike : (t t' : List ℕ) (s : ℕ) → txn t' s ≡ txn t s → reader_in t' s ≡ reader_in t s
reads-alike t t' s e = reads_by t t' s (ap (λ (w : Txn). w.kind) e) (ap (λ (w : Txn). w.start) e)

module _ (S : Sizes) (t t' : List ℕ) where
  -- a row: the last number and the clock did not fall, and what its slot holds of the item that it awaits did not grow
  pub txn_carried :
      (l l' : List ℕ) (s : ℕ) (r : Txn) → last_number t ≤ last_number t' → clock t ≤ clock t'
      → (r.awaited_lock ≢ no_lock → NoMore s (lock l r.awaited_item) (lock l' r.awaited_item))
      → GoodTxn S t l s r → GoodTxn S t' l' s r
  txn_carried l l' s r a b n g =
      record {
        free = g.free;
        given = let c = g.given in omega arith;
        kind_listed = g.kind_listed;
        lock_listed = g.lock_listed;
        update_start = g.update_start;
        relaxed_start = g.relaxed_start;
        reader_start = λ z. let c = g.reader_start z in omega arith;
        reader_idle = g.reader_idle;
        settled_start = g.settled_start;
        item_known = g.item_known;
        item_unused = g.item_unused;
        rank_unused = g.rank_unused;
        reads_good = g.reads_good;
        notes_good = g.notes_good;
        awaits_shared = λ e h. g.awaits_shared e (no_more_holds s _ _ (n (λ z. absurd (omega arith))) h);
        awaits_exclusive = λ e h. g.awaits_exclusive e ((n (λ z. absurd (omega arith))).exclusive h);
      }

  -- a lock: its holders live on
  pub lock_carried :
      (h : Lock) → ((s : ℕ) → T (holds_shared h s) → T (live_update (txn t s)) → T (live_update (txn t' s)))
      → ((s : ℕ) → T (holds_exclusive h s) → T (may_hold (txn t s)) → T (may_hold (txn t' s))) → GoodLock S t h → GoodLock S t' h
  lock_carried h f e g =
      record {
        sharers = λ s a. let b = g.sharers s a in (b.0, f s a b.1);
        excluders = λ s a. let b = g.excluders s a in (b.0, e s a b.1);
        never_both = g.never_both;
        no_working = g.no_working;
      }

  -- a row of versions: the clock did not fall, the readers live on and read as they did, and a new one may read the newest version
  pub versions_carried :
      (r : List ℕ) → clock t ≤ clock t'
      → ((s : ℕ) → s < S.slots → T (is_reader (txn t s)) → T (is_reader (txn t' s)) × (reader_in t' s ≡ reader_in t s))
      → ((s : ℕ) → s < S.slots → T (is_reader (txn t' s))
      → (T (is_reader (txn t s)) × (reader_in t' s ≡ reader_in t s)) ⊎ T (sees (reader_in t' s) (get_or (versions_in S r) 0 no_version)))
      → ((q : ℕ) → q < S.slots → T (live_relaxed (txn t q)) → T (live_relaxed (txn t' q)))
      → GoodVersions S t r → GoodVersions S t' r
  unfolding Falls Nests
  versions_carried r up kept new relaxed g =
      record {
        count_least = g.count_least;
        count_most = g.count_most;
        unused = g.unused;
        unhidden = g.unhidden;
        fall = g.fall;
        nest = g.nest;
        from_relaxed = λ k q b. let m = g.from_relaxed k q b in (m.0, relaxed q m.0 m.1);
        first = let c = g.first in omega arith;
        last = λ s i q. old s i (new s i q);
        reads = λ k pos. (λ there. here k ((g.reads k pos).0 there), λ w. back k pos w.0 w.1 w.3 (new w.0 w.1 w.2));
      }
    where
      vs : List Version
      vs = versions_in S r

      some : 0 < length vs
      some = let e = length-versions_in S r in let a = g.count_least in omega arith

      Same : ℕ → Type 0
      Same s = T (is_reader (txn t s)) × (reader_in t' s ≡ reader_in t s)

      old : (s : ℕ) → s < S.slots → Same s ⊎ T (sees (reader_in t' s) (get_or vs 0 no_version)) → T (sees (reader_in t' s) (get_or vs (length vs - 1) no_version))
      old s i (inl e) = rw e.1 (g.last s i e.0)
      old s i (inr b) = older_seen vs g.fall g.nest (reader_in t' s) 0 (length vs - 1) (omega arith) (let z = some in omega arith) b

      here : (k : ℕ) → ((s : ℕ) × (s < S.slots) × T (is_reader (txn t s)) × (place (reader_in t s) vs ≡ k)) → ((s : ℕ) × (s < S.slots) × T (is_reader (txn t' s)) × (place (reader_in t' s) vs ≡ k))
      here k (s, i, q, e) = let f = kept s i q in (s, i, f.0, ap (λ (p : Reader). place p vs) f.1 ∙ e)

      back : (k : ℕ) → 0 < k → (s : ℕ) → s < S.slots → place (reader_in t' s) vs ≡ k → Same s ⊎ T (sees (reader_in t' s) (get_or vs 0 no_version)) → k < length vs
      back k pos s i e (inl f) = (g.reads k pos).1 (s, i, f.0, ap (λ (p : Reader). place p vs) (sym f.1) ∙ e)
      back k pos s i e (inr b) = absurd (let c = reads-newest (reader_in t' s) vs some b in omega arith)

  -- where every row reads as it did, and is relaxed if it was
  pub versions-same :
      (r : List ℕ) → clock t' ≡ clock t → ((s : ℕ) → s < S.slots → is_reader (txn t' s) ≡ is_reader (txn t s)) → ((s : ℕ) → s < S.slots → reader_in t' s ≡ reader_in t s)
      → ((s : ℕ) → s < S.slots → live_relaxed (txn t' s) ≡ live_relaxed (txn t s)) → GoodVersions S t r → GoodVersions S t' r
  versions-same r c reads how relaxed g =
      versions_carried r (omega arith) (λ s i h. (subst T (sym (reads s i)) h, how s i)) (λ s i h. inl (subst T (reads s i) h, how s i))
      (λ q i h. subst T (sym (relaxed q i)) h) g

-- those past their writing: whoever is one was one, with the same stamp; it holds exclusively no more than it held, and of that the newest
-- version is the same
pub settled_carried :
    (S : Sizes) (G G' : Tables)
    → ((s : ℕ) → s < S.slots → T (live_settled (txn G'.txns s)) → T (live_settled (txn G.txns s)) × ((txn G'.txns s).start ≡ (txn G.txns s).start))
    → ((s x : ℕ) → s < S.slots → x < S.items → T (live_settled (txn G.txns s)) → T (holds_exclusive (lock G'.locks x) s)
    → T (holds_exclusive (lock G.locks x) s) × (stamp_at (versions_of S G'.versions x) 0 ≡ stamp_at (versions_of S G.versions x) 0))
    → GoodSettled S G → GoodSettled S G'
settled_carried S G G' was held g =
    record {
      apart = λ r s i j d a b e.
          let p = was r i a in
          let q = was s j b in
          g.apart r s i j d p.0 q.0 (sym p.1 ∙ e ∙ q.1);
      above = λ s x i j a b.
          let p = was s i a in
          let q = held s x i j p.0 b in
          let k = g.above s x i j p.0 q.0 in
          let e = p.1 in
          let f = q.1 in
          omega arith;
    }

-- request E11: no relaxed query beside one past its writing; those that there were live on; every slot is in the sets in which it was, has
-- read no more, and holds no more than before, and of no item is the newest version hidden from more
pub sets_carried :
    (S : Sizes) (G G' : Tables) → Good S G
    → ((r s : ℕ) → r < S.slots → s < S.slots → T (live_settled (txn G'.txns r)) → T (live_relaxed (txn G'.txns s)) → ⊥)
    → ((q : ℕ) → q < S.slots → T (live_relaxed (txn G.txns q)) → T (live_relaxed (txn G'.txns q)))
    → ((s : ℕ) → s < S.slots → (txn G'.txns s).later_for ≡ (txn G.txns s).later_for)
    → ((q x : ℕ) → q < S.slots → T (bit (txn G'.txns q).items_read x) → T (bit (txn G.txns q).items_read x))
    → ((s x : ℕ) → x < S.items → NoMore s (lock G.locks x) (lock G'.locks x))
    → ((x q : ℕ) → x < S.items → T (bit (hidden_now S G'.versions x) q) → T (bit (hidden_now S G.versions x) q))
    → GoodSets S G'
sets_carried S G G' g apart stays sets reads held hid =
    record {
      apart = apart;
      of_relaxed = λ s q i b.
          let m = g.sets_good.of_relaxed s q i (subst (λ (w : ℕ). T (bit w q)) (sets s i) b) in
          (m.0, stays q m.0 m.1);
      holds_read = λ x s q i j e b.
          let o = (held s x i).exclusive e in
          subst (λ (w : ℕ). T (bit w q)) (sym (sets s ((g.lock_good x i).excluders s o).0)) (g.sets_good.holds_read x s q i j o (reads q x j b));
      holds_hidden = λ x s q i h b.
          let o = no_more_holds s _ _ (held s x i) h in
          subst (λ (w : ℕ). T (bit w q)) (sym (sets s (holder S G.txns (lock G.locks x) (g.lock_good x i) s o).0))
          (g.sets_good.holds_hidden x s q i o (hid x q i b));
    }
