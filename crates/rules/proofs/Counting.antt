-- Request E8: what a read of a version leaves counted. A query's is counted in two words of its row, another's in none; the tables stay
-- good.
use Prim.Native.Nat.{ℕ, ◌+◌, ◌≤◌, ◌<◌}
use mathlib.Core.Path.{◌≡◌, refl, sym, ap, ◌∙◌, subst}
use mathlib.Core.Logic.{◌≢◌, ◌⊎◌, inl, inr}
use mathlib.Core.Bool.{Bool, true, false, cond}
use mathlib.Core.List.{List}
use native.Mathlib.Omega.{arith}
use lib.ListN.{length, set, length-set}
use lib.Seq.{get_or-set_same, get_or-set_other}
use lib.Dec.{T, ltb}
use borrow.Author.Tests.{le-ltb, ltb-true, ltb-false}
use Rattle.names.specs.declared.Sizes.{Sizes}
use Rattle.names.specs.Sizes.{last_word}
use Rattle.names.specs.Words.{held_at_last}
use Rattle.names.specs.Layout.{txn_count_at, txn_sum_at}
use Rattle.rules.specs.Words.{bit}
use Rattle.rules.specs.Tables.{Tables, txn_at, txn_words, last_number, clock, Txn, txn, set_txn, set_reads, query_kind, live, live_update, live_query, live_settled, live_relaxed, any_query, may_hold}
use Rattle.rules.specs.Good.{Good, GoodReads, GoodNotes}
use Rattle.rules.specs.Step.{counted, with_txns}
use Rattle.rules.specs.Changed.{ReadsChanged, Counted}
use Rattle.rules.proofs.Tests.{same?, true_is, and_both}
use Rattle.rules.proofs.Views.{reading, set_txn-same, set_reads-row, length-set_txn, last_number-set_txn, clock-set_txn, txn-set_txn, txn-set_txn-other}
use Rattle.rules.proofs.RowKinds.{live-number, query-live, settled-live, relaxed-live, holder_live, holder_no_query}
use Rattle.rules.proofs.Carried.{no_more_same, same_notes, sets_carried}
use Rattle.rules.proofs.Notes.{Beside, written-beside, relaxed-beside, apart-beside, beside-good}

-- ---- a number held at the last word
pub held-most : (n : ℕ) → held_at_last n ≤ last_word
unfolding held_at_last
held-most n = go (ltb last_word n) refl
  where
    go : (b : Bool) → ltb last_word n ≡ b → cond b last_word n ≤ last_word
    go true e = omega arith
    go false e = ltb-false last_word n e

-- up to there it is itself, from there on it stays
held_low : (n : ℕ) → n ≤ last_word → held_at_last n ≡ n
unfolding held_at_last
held_low n l = rw (le-ltb last_word n l)

held_high : (n : ℕ) → last_word ≤ n → held_at_last n ≡ last_word
unfolding held_at_last
held_high n l = go (ltb last_word n) refl
  where
    go : (b : Bool) → ltb last_word n ≡ b → cond b last_word n ≡ last_word
    go true e = refl
    go false e = let k = ltb-false last_word n e in omega arith

-- so what is held may be summed up further: held is what the whole sum is
pub held_on : (n k : ℕ) → held_at_last (held_at_last n + k) ≡ held_at_last (n + k)
held_on n k = go (ltb n last_word) refl
  where
    go : (b : Bool) → ltb n last_word ≡ b → held_at_last (held_at_last n + k) ≡ held_at_last (n + k)
    go true e = let l = ltb-true n last_word e in ap (λ (m : ℕ). held_at_last (m + k)) (held_low n (omega arith))
    go false e = let l = ltb-false n last_word e in ap (λ (m : ℕ). held_at_last (m + k)) (held_high n l) ∙ held_high (last_word + k) (omega arith) ∙ sym (held_high (n + k) (omega arith))

-- ---- the row r with a read counted that looked at k versions, if it is a query's
abbrev pub tallied : Txn → ℕ → Txn
tallied r k =
    reading r (cond (query_kind r.kind) (held_at_last (r.read_count + 1)) r.read_count)
    (cond (query_kind r.kind) (held_at_last (r.weight_sum + k)) r.weight_sum)

-- whoever may hold is no query
holder_kind : (r : Txn) → T (may_hold r) → query_kind r.kind ≡ true → ⊥
holder_kind r h e =
    holder_no_query r h (unfold any_query in (and_both (live r) _ (holder_live r h).0 (true_is e)))

tallied_reads : (r : Txn) (k : ℕ) → GoodReads r → GoodReads (tallied r k)
unfolding may_hold live_update live_settled live
tallied_reads r k g = go (query_kind r.kind) refl
  where
    go :
        (b : Bool) → query_kind r.kind ≡ b
        → GoodReads (reading r (cond b (held_at_last (r.read_count + 1)) r.read_count) (cond b (held_at_last (r.weight_sum + k)) r.weight_sum))
    go true e =
        record {
          count_most = held-most (r.read_count + 1);
          sum_most = held-most (r.weight_sum + k);
          update_count = λ h. absurd (holder_kind r h e);
          update_sum = λ h. absurd (holder_kind r h e);
        }
    go false e = record { count_most = g.count_most; sum_most = g.sum_most; update_count = g.update_count; update_sum = g.update_sum }

-- ---- the transactions after such a read by slot s
module _ (t : List ℕ) (s k : ℕ) where
  pub counted-row : counted t s k ≡ set_txn t s (tallied (txn t s) k)
  unfolding counted
  counted-row = go (query_kind (txn t s).kind)
    where
      go :
          (b : Bool)
          → cond b (set_reads t s (held_at_last ((txn t s).read_count + 1)) (held_at_last ((txn t s).weight_sum + k))) t
          ≡ set_txn t s (reading (txn t s) (cond b (held_at_last ((txn t s).read_count + 1)) (txn t s).read_count) (cond b (held_at_last ((txn t s).weight_sum + k)) (txn t s).weight_sum))
      go true = set_reads-row t s (held_at_last ((txn t s).read_count + 1)) (held_at_last ((txn t s).weight_sum + k))
      go false = sym (set_txn-same t s)

  pub counted-length : length (counted t s k) ≡ length t
  counted-length = ap length counted-row ∙ length-set_txn t s (tallied (txn t s) k)

  pub counted-last : last_number (counted t s k) ≡ last_number t
  counted-last = ap last_number counted-row ∙ last_number-set_txn t s (tallied (txn t s) k)

  pub counted-clock : clock (counted t s k) ≡ clock t
  counted-clock = ap clock counted-row ∙ clock-set_txn t s (tallied (txn t s) k)

  pub counted_there : (r : ℕ) → r ≢ s → txn (counted t s k) r ≡ txn t r
  counted_there r d = ap (λ (u : List ℕ). txn u r) counted-row ∙ txn-set_txn-other t s (tallied (txn t s) k) r d

  -- one past its writing, and whoever else is no query, is not counted
  pub counted_none : query_kind (txn t s).kind ≡ false → counted t s k ≡ t
  unfolding counted
  counted_none d = rw d

  pub counted-query : query_kind (txn t s).kind ≡ true → counted t s k ≡ set_reads t s (held_at_last ((txn t s).read_count + 1)) (held_at_last ((txn t s).weight_sum + k))
  unfolding counted
  counted-query e = rw e

  module _ (S : Sizes) (exact : length t ≡ txn_words S) (inside : s < S.slots) where
    pub counted_here : txn (counted t s k) s ≡ tallied (txn t s) k
    counted_here = ap (λ (u : List ℕ). txn u s) counted-row ∙ txn-set_txn t s (tallied (txn t s) k) S exact inside

    -- of every row all but the two words is as it was
    pub counted-beside : (r : ℕ) → Beside (txn t r) (txn (counted t s k) r)
    counted-beside r =
        subst (λ (u : List ℕ). Beside (txn t r) (txn u r)) (sym counted-row) (written-beside S t s (tallied (txn t s) k) exact inside refl r)

    pub counted_same : {A : Type 0} (h : Txn → A) → ((r : Txn) (n w : ℕ) → h (reading r n w) ≡ h r) → (r : ℕ) → h (txn (counted t s k) r) ≡ h (txn t r)
    counted_same h e r = go (same? r s)
      where
        go : (r ≡ s) ⊎ (r ≢ s) → h (txn (counted t s k) r) ≡ h (txn t r)
        go (inl q) =
            ap (λ (m : ℕ). h (txn (counted t s k) m)) q ∙ ap h counted_here ∙ e (txn t s) _ _ ∙ ap (λ (m : ℕ). h (txn t m)) (sym q)
        go (inr d) = ap h (counted_there r d)

    -- "a read count and a weight sum": these two words of a query's row, and no other
    pub reads_change : query_kind (txn t s).kind ≡ true → ReadsChanged s (held_at_last ((txn t s).read_count + 1)) (held_at_last ((txn t s).weight_sum + k)) t (counted t s k)
    reads_change q = subst (ReadsChanged s n w t) (sym (counted-query q)) written
      where
        n : ℕ
        n = held_at_last ((txn t s).read_count + 1)

        w : ℕ
        w = held_at_last ((txn t s).weight_sum + k)

        written : ReadsChanged s n w t (set_reads t s n w)
        written =
            unfold set_reads in
            (record {
              size = length-set (set t (txn_at s + txn_count_at) n) (txn_at s + txn_sum_at) w ∙ length-set t (txn_at s + txn_count_at) n;
              count =
                  get_or-set_other (set t (txn_at s + txn_count_at) n) (txn_at s + txn_sum_at) (txn_at s + txn_count_at) w 0 (omega arith)
                  ∙ get_or-set_same t (txn_at s + txn_count_at) n 0 (omega arith);
              sum = get_or-set_same (set t (txn_at s + txn_count_at) n) (txn_at s + txn_sum_at) w 0 (simp length-set (omega arith));
              others = λ j c d.
                  get_or-set_other (set t (txn_at s + txn_count_at) n) (txn_at s + txn_sum_at) j w 0 d
                  ∙ get_or-set_other t (txn_at s + txn_count_at) j n 0 c;
            })

-- the kinds of the two, and of a strict query
pub strict_counted : (r : Txn) → T (live_query r) → query_kind r.kind ≡ true
unfolding query_kind
strict_counted r h = rw (query-live r h).1 refl

pub relaxed-counted : (r : Txn) → T (live_relaxed r) → query_kind r.kind ≡ true
unfolding query_kind
relaxed-counted r h = rw (relaxed-live r h).1 refl

pub settled_not_counted : (r : Txn) → T (live_settled r) → query_kind r.kind ≡ false
unfolding query_kind
settled_not_counted r h = rw (settled-live r h).1 refl

-- ---- on good tables
module _ (S : Sizes) (G : Tables) (g : Good S G) (s : ℕ) (inside : s < S.slots) (alive : T (live (txn G.txns s))) (k : ℕ) where
  abbrev t : List ℕ
  t = G.txns

  abbrev t' : List ℕ
  t' = counted t s k

  beside : (r : ℕ) → Beside (txn t r) (txn t' r)
  beside = counted-beside t s k S g.txns_exact inside

  same : {A : Type 0} (h : Txn → A) → ((r : Txn) (n w : ℕ) → h (reading r n w) ≡ h r) → (r : ℕ) → h (txn t' r) ≡ h (txn t r)
  same = counted_same t s k S g.txns_exact inside

  reads : (r : ℕ) → r < S.slots → GoodReads (txn t' r)
  reads r i = go (same? r s)
    where
      go : (r ≡ s) ⊎ (r ≢ s) → GoodReads (txn t' r)
      go (inl e) =
          subst (λ (m : ℕ). GoodReads (txn t' m)) (sym e)
          (subst GoodReads (sym (counted_here t s k S g.txns_exact inside)) (tallied_reads (txn t s) k (g.txn_good s inside).reads_good))
      go (inr d) = subst GoodReads (sym (counted_there t s k r d)) (g.txn_good r i).reads_good

  notes : (r : ℕ) → r < S.slots → GoodNotes S (txn t' r)
  unfolding live_relaxed live_update live
  notes r i =
      same_notes S (txn t r) (txn t' r) (same (λ (r : Txn). r.items_read) (λ r n w. refl) r) (same (λ (r : Txn). r.later_for) (λ r n w. refl) r)
      (same live_relaxed (λ r n w. refl) r) (same live_update (λ r n w. refl) r) (g.txn_good r i).notes_good

  free : (r : ℕ) → (txn t r).number ≡ 0 → txn t' r ≡ txn t r
  free r e = counted_there t s k r (λ z. live-number (txn t s) alive (ap (λ (m : ℕ). (txn t m).number) (sym z) ∙ e))

  pub counted-good : Good S (with_txns G (counted G.txns s k))
  counted-good =
      beside-good S G g t' (counted-length t s k ∙ g.txns_exact) (counted-last t s k) (counted-clock t s k) beside free reads notes
      (sets_carried S G (with_txns G t') g
      (apart-beside S G g t' (counted-length t s k ∙ g.txns_exact) (counted-last t s k) (counted-clock t s k) beside)
      (λ q i h. subst T (sym (relaxed-beside S G g t' (counted-length t s k ∙ g.txns_exact) (counted-last t s k) (counted-clock t s k) beside q)) h)
      (λ r i. same (λ (r : Txn). r.later_for) (λ r n w. refl) r)
      (λ q x i b. subst (λ (w : ℕ). T (bit w x)) (same (λ (r : Txn). r.items_read) (λ r n w. refl) q) b)
      (λ r x i. no_more_same r refl) (λ x q i b. b))

  -- a query's read, told as the words that it changes; and that of one past its writing, which changes none
  pub query-counted : T (live_query (txn G.txns s)) → Counted s k G (with_txns G (counted G.txns s k))
  query-counted q = record { txns = reads_change t s k S g.txns_exact inside (strict_counted (txn t s) q); locks = refl; versions = refl }

  pub settled-uncounted : T (live_settled (txn G.txns s)) → with_txns G (counted G.txns s k) ≡ G
  settled-uncounted p = ap (with_txns G) (counted_none t s k (settled_not_counted (txn t s) p))
