-- A query's end, relaxed or not, leaves good tables.
use Prim.Native.Nat.{ℕ, ◌≤◌, ◌<◌}
use mathlib.Core.Path.{◌≡◌, refl, sym, ap, ◌∙◌, subst}
use mathlib.Core.Logic.{◌≢◌, ◌⊎◌, inl, inr}
use mathlib.Core.Bool.{Bool, true, false}
use mathlib.Core.List.{List}
use native.Mathlib.Omega.{arith}
use lib.ListN.{length, get_or}
use lib.Dec.{T, ltb}
use borrow.Author.Tests.{ltb-true, ltb-false}
use Rattle.names.specs.declared.Sizes.{Sizes}
use Rattle.rules.specs.Words.{row, bit, without_bit}
use Rattle.rules.specs.Tables.{Tables, tables, txn_words, version_row, clock, Txn, txn, set_txn, no_txn, with_later_for, no_lock, live}
use Rattle.rules.specs.Tables.{live_update, live_settled, live_relaxed, any_query, may_hold, readers, lock, holds, holds_shared, holds_exclusive}
use Rattle.rules.specs.Versions.{Version, no_version, versions_in, versions_of, stamp_at, hidden_at, hidden_now, rewritten, revealed}
use Rattle.rules.specs.Good.{Good, GoodReads, GoodNotes, GoodSets}
use Rattle.rules.specs.Step.{forgotten, ended}
use Rattle.rules.proofs.Tests.{same?, false_is, or_right}
use Rattle.rules.proofs.Bits.{bit_none, without_none, without-bit, bit-without}
use Rattle.rules.proofs.Views.{txn-set_txn-other}
use Rattle.rules.proofs.RowKinds.{settled-live, relaxed-live, any-query-reads, holder_no_query}
use Rattle.rules.proofs.EqualRows.{holder}
use Rattle.rules.proofs.Revealed.{bare, get_d_revealed}
use Rattle.rules.proofs.Carried.{same_reads}
use Rattle.rules.proofs.Notes.{Beside, beside_same}
use Rattle.rules.proofs.Joined.{forgotten-length, forgotten-last, forgotten-clock, forgotten-row, forgotten-beside, forgotten-out}
use Rattle.rules.proofs.Ready.{gone_here, gone_there, gone-live, gone-relaxed, Ready, revealed_ready, rewritten-size, rewritten-good, rewritten-top}
use Rattle.rules.proofs.Leaves.{left-noted-good}

-- ---- "A query only ends.", relaxed or not: its bit goes everywhere, then its row
module _ (S : Sizes) (enough : S.slots ≤ S.places) (G : Tables) (g : Good S G) (s : ℕ) (inside : s < S.slots) (query : T (any_query (txn G.txns s))) where
  abbrev t : List ℕ
  t = G.txns

  abbrev u : List ℕ
  u = forgotten S s t

  abbrev w : List ℕ
  w = set_txn u s no_txn

  usize : length u ≡ txn_words S
  usize = forgotten-length S s t ∙ g.txns_exact

  beside : (r : ℕ) → r ≢ s → Beside (txn t r) (txn u r)
  beside r d = forgotten-beside S s t g.txns_exact r

  later : clock t ≤ clock u
  later = let e = forgotten-clock S s t in omega arith

  holds-nothing : (x : ℕ) → x < S.items → T (holds (lock G.locks x) s) → ⊥
  holds-nothing x i h = holder_no_query (txn t s) (holder S t (lock G.locks x) (g.lock_good x i) s h).1 query

  rests : (txn t s).awaited_lock ≡ no_lock
  rests = (g.txn_good s inside).reader_idle (any-query-reads (txn t s) query)

  -- a row with another's notes, but out of the set
  row_out : (r : ℕ) → r < S.slots → txn u r ≡ with_later_for (txn t r) (without_bit (txn t r).later_for s)
  row_out = forgotten-row S s t g.txns_exact

  same : {A : Type 0} (h : Txn → A) → ((r : Txn) (v : ℕ) → h (with_later_for r v) ≡ h r) → (r : ℕ) → r < S.slots → h (txn u r) ≡ h (txn t r)
  same h e r i = ap h (row_out r i) ∙ e (txn t r) (without_bit (txn t r).later_for s)

  sets_left : (r : ℕ) → r < S.slots → (txn u r).later_for ≡ without_bit (txn t r).later_for s
  sets_left r i = ap (λ (v : Txn). v.later_for) (row_out r i)

  reads : (r : ℕ) → r < S.slots → r ≢ s → GoodReads (txn u r)
  unfolding may_hold live_update live_settled live
  reads r i d =
      same_reads (txn t r) (txn u r) (same (λ (v : Txn). v.read_count) (λ v m. refl) r i) (same (λ (v : Txn). v.weight_sum) (λ v m. refl) r i)
      (same may_hold (λ v m. refl) r i) (g.txn_good r i).reads_good

  notes : (r : ℕ) → r < S.slots → r ≢ s → GoodNotes S (txn u r)
  unfolding live_update live_relaxed live
  notes r i d =
      let o = (g.txn_good r i).notes_good in
      let z = same (λ (v : Txn). v.items_read) (λ v m. refl) r i in
      record {
        items_most = let a = o.items_most in omega arith;
        only_relaxed = λ n. z ∙ o.only_relaxed (λ h. n (subst T (sym (same live_relaxed (λ v m. refl) r i)) h));
        only_updates = λ n.
            let e = o.only_updates (λ h. n (subst T (sym (same live_update (λ v m. refl) r i)) h)) in
            sets_left r i ∙ ap (λ (m : ℕ). without_bit m s) e ∙ without_none 0 s (false_is (bit_none s));
      }

  free : (r : ℕ) → r ≢ s → (txn t r).number ≡ 0 → txn u r ≡ txn t r
  free r d e = go (ltb r S.slots) refl
    where
      go : (b : Bool) → ltb r S.slots ≡ b → txn u r ≡ txn t r
      go true k =
          let i = ltb-true r S.slots k in
          let z : (txn t r).later_for ≡ 0 = ap (λ (v : Txn). v.later_for) ((g.txn_good r i).free e) in
          row_out r i ∙ ap (λ (m : ℕ). with_later_for (txn t r) m) (without_none (txn t r).later_for s (λ b. false_is (bit_none s) (subst (λ (m : ℕ). T (bit m s)) z b)))
      go false k = forgotten-out S s t r (ltb-false r S.slots k)

  ready : (x : ℕ) → x < S.items → Ready S enough G g s inside u usize beside later (revealed s (versions_in S (row (version_row S) x G.versions)))
  ready x i = revealed_ready S enough G g s inside u usize beside later (row (version_row S) x G.versions) (g.versions_good x i)

  abbrev v' : List ℕ
  v' = rewritten S (readers S w) (λ x vs. revealed s vs) G.versions

  top : (x : ℕ) → x < S.items → get_or (versions_of S v' x) 0 no_version ≡ bare s (get_or (versions_of S G.versions x) 0 no_version)
  top x i =
      rewritten-top S enough G g s inside u usize beside later (λ x vs. revealed s vs) ready x i ∙ get_d_revealed s (versions_of S G.versions x) 0

  -- ---- the sets afterwards
  home : txn w s ≡ no_txn
  home = gone_here S t u s inside usize beside

  away : (r : ℕ) → r ≢ s → txn w r ≡ txn u r
  away r d = txn-set_txn-other u s no_txn r d

  away_live : (r : ℕ) → T (live (txn w r)) → r ≢ s
  away_live = gone-live S t u s inside usize beside

  relaxed' : (r : ℕ) → r ≢ s → live_relaxed (txn w r) ≡ live_relaxed (txn t r)
  relaxed' = gone-relaxed S t u s inside usize beside

  settled' : (r : ℕ) → r ≢ s → live_settled (txn w r) ≡ live_settled (txn t r)
  unfolding live_settled live
  settled' r d = beside_same live_settled (λ r n w i m. refl) (txn t r) (txn w r) (gone_there S t u s inside usize beside r d)

  -- who is in a set is so still, unless it was that of s
  keeps : (r q : ℕ) → r < S.slots → r ≢ s → q ≢ s → T (bit (txn t r).later_for q) → T (bit (txn w r).later_for q)
  keeps r q i d e b =
      subst (λ (v : Txn). T (bit v.later_for q)) (sym (away r d))
      (subst (λ (m : ℕ). T (bit m q)) (sym (sets_left r i)) (bit-without (txn t r).later_for s q e b))

  was : (r q : ℕ) → r < S.slots → T (bit (txn w r).later_for q) → (q ≢ s) × T (bit (txn t r).later_for q)
  was r q i b = go (same? r s)
    where
      go : (r ≡ s) ⊎ (r ≢ s) → (q ≢ s) × T (bit (txn t r).later_for q)
      go (inl e) = absurd (false_is (bit_none q) (subst (λ (v : Txn). T (bit v.later_for q)) (ap (txn w) e ∙ home) b))
      go (inr d) =
          without-bit (txn t r).later_for s q
          (subst (λ (m : ℕ). T (bit m q)) (sets_left r i) (subst (λ (v : Txn). T (bit v.later_for q)) (away r d) b))

  -- what has been read was read by another
  read : (q x : ℕ) → q < S.slots → T (bit (txn w q).items_read x) → (q ≢ s) × T (bit (txn t q).items_read x)
  read q x i b = go (same? q s)
    where
      go : (q ≡ s) ⊎ (q ≢ s) → (q ≢ s) × T (bit (txn t q).items_read x)
      go (inl e) = absurd (false_is (bit_none x) (subst (λ (v : Txn). T (bit v.items_read x)) (ap (txn w) e ∙ home) b))
      go (inr d) =
          (d, subst (λ (m : ℕ). T (bit m x)) (same (λ (v : Txn). v.items_read) (λ v m. refl) q i) (subst (λ (v : Txn). T (bit v.items_read x)) (away q d) b))

  hidden : (x q : ℕ) → x < S.items → T (bit (hidden_now S v' x) q) → (q ≢ s) × T (bit (hidden_now S G.versions x) q)
  unfolding hidden_now hidden_at
  hidden x q i b = without-bit _ s q (subst (λ (v : Version). T (bit v.hidden q)) (top x i) b)

  holder_away : (x r : ℕ) → x < S.items → T (holds (lock G.locks x) r) → (r < S.slots) × (r ≢ s)
  holder_away x r i h =
      ((holder S t (lock G.locks x) (g.lock_good x i) r h).0, λ e. holds-nothing x i (subst (λ (m : ℕ). T (holds (lock G.locks x) m)) e h))

  sets : GoodSets S (tables w G.locks v')
  sets =
      let o = g.sets_good in
      record {
        apart = λ a b i j h m.
            o.apart a b i j (subst T (settled' a (away_live a (settled-live (txn w a) h).0)) h) (subst T (relaxed' b (away_live b (relaxed-live (txn w b) m).0)) m);
        of_relaxed = λ r q i b.
            let k = was r q i b in
            let m = o.of_relaxed r q i k.1 in
            (m.0, subst T (sym (relaxed' q k.0)) m.1);
        holds_read = λ x r q i j e b.
            let a = holder_away x r i (exclusive-holds x r e) in
            let k = read q x j b in
            keeps r q a.0 a.1 k.0 (o.holds_read x r q i j e k.1);
        holds_hidden = λ x r q i h b.
            let a = holder_away x r i h in
            let k = hidden x q i b in
            keeps r q a.0 a.1 k.0 (o.holds_hidden x r q i h k.1);
      }
    where
      exclusive-holds : (x r : ℕ) → T (holds_exclusive (lock G.locks x) r) → T (holds (lock G.locks x) r)
      exclusive-holds x r e = unfold holds in (or_right (holds_shared (lock G.locks x) r) _ e)

  pub ended-good : Good S (ended S s G)
  unfolding ended
  ended-good =
      left-noted-good S G g s inside holds-nothing rests u usize beside free reads notes (forgotten-last S s t) later
      (let e = forgotten-clock S s t in let m = g.clock_most in omega arith)
      v' (rewritten-size S enough G g s inside u usize beside later (λ x vs. revealed s vs) ready)
      (rewritten-good S enough G g s inside u usize beside later (λ x vs. revealed s vs) ready)
      (λ r x i j a h. unfold stamp_at in (ap (λ (v : Version). v.stamp) (top x j)))
      sets
