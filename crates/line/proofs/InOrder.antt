-- Whoever waits keeps its place: after each way that a call can go, those who stand in a line stood there in the same order.
use Prim.Native.Nat.{ℕ, ◌≤◌, ◌<◌}
use mathlib.Core.Path.{◌≡◌, refl, sym, ap, ◌∙◌, subst}
use mathlib.Core.Logic.{◌≢◌, ◌⊎◌, inl, inr}
use mathlib.Core.Bool.{Bool, true, false}
use mathlib.Core.List.{List}
use native.Mathlib.Omega.{arith}
use lib.ListN.{set, length, length-set}
use lib.Dec.{T, ltb}
use borrow.Author.Tests.{ltb-true, ltb-false}
use Rattle.names.specs.declared.Sizes.{Sizes}
use Rattle.names.specs.Layout.{txn_head, last_number_at, clock_at}
use Rattle.rules.specs.Tables.{Tables, tables, txn_words, Txn, txn, set_txn, no_txn, no_lock, shared_lock, exclusive_lock, live_update, lock}
use Rattle.rules.specs.Waits.{awaits, awaits_on, noted, closed_up}
use Rattle.rules.specs.Good.{Good}
use Rattle.rules.specs.Answers.{Outcome, Call, Deed}
use Rattle.rules.specs.Step.{act, judged, done, version_read, begun, counted, read_noted, joined, joining, grant_joins, asking_joins, cleared, locked, locked_anew, forgotten, committed_under, committed, settled_committed, ended, aborted, settled_aborted, settled}
use Rattle.rules.specs.Changed.{looked_at}
use Rattle.rules.specs.Promises.{after}
use Rattle.rules.proofs.Tests.{true_is, false_is, same?}
use Rattle.rules.proofs.EqualRanks.{awaits→, awaits_on→}
use Rattle.rules.proofs.Views.{txn-set_txn, txn-set_txn-other, txn-top}
use Rattle.rules.proofs.Noting.{noted-known, noted-size, closed-length, closed-row}
use Rattle.rules.proofs.Notes.{Beside, beside_same, beside_on, same_beside}
use Rattle.rules.proofs.Joined.{joined-beside, joined_same, forgotten-length, forgotten-beside}
use Rattle.rules.proofs.ReadNoted.{read_length, read-beside, holder_inside}
use Rattle.rules.proofs.Counting.{counted-beside}
use Rattle.rules.proofs.Taken.{anew_joined}
use Rattle.rules.proofs.Waited.{only_this, cleared_there, cleared-idle}
use Rattle.rules.proofs.Judged.{way}
use Rattle.rules.proofs.Keeps.{keeps}
use Rattle.rules.proofs.Steps.{acts}
use Rattle.rules.proofs.Ways.{Way, Waiter, refused, waited, began_update, began_query, began_relaxed, read_own, read_newest, read_shared, read_settled, read_version}
use Rattle.rules.proofs.Ways.{wrote_own, wrote_settled, wrote_taken, committed_update, committed_empty, committed_settled, committed_query, aborted_update, aborted_settled, aborted_query, settled_update, kept_waiting}
use Rattle.line.specs.InOrder.{OrderKept}
use Rattle.line.proofs.Kept.{same-locks, rows-kept, left-kept, came_kept}

-- ---- two slots that wait on the item x in the good tables G
module _
    (S : Sizes) (G : Tables) (g : Good S G) (x a b : ℕ) (i : a < S.slots) (j : b < S.slots)
    (h : T (awaits_on x (txn G.txns a))) (k : T (awaits_on x (txn G.txns b)))
  where
    abbrev t : List ℕ
    t = G.txns

    -- if both wait there with the words t', then whoever of them stands ahead stood ahead
    abbrev Stood : List ℕ → Type 0
    Stood t' =
        T (awaits_on x (txn t' a)) → T (awaits_on x (txn t' b)) → (txn t' b).rank < (txn t' a).rank → (txn t b).rank < (txn t a).rank

    abbrev with : List ℕ → Tables
    with t' = tables t' G.locks G.versions

    -- a row that awaits nothing is neither's
    idle-apart : (t' : List ℕ) (r : ℕ) → (T (awaits (txn t' r)) → ⊥) → (m : ℕ) → T (awaits_on x (txn t' m)) → m ≢ r
    idle-apart t' r n m v e = n (subst (λ (q : ℕ). T (awaits (txn t' q))) e (awaits_on→ x (txn t' m) v).0)

    -- ---- slot r has a new row, which awaits nothing
    module _ (u : List ℕ) (r : ℕ) (Q : Txn) (size : length u ≡ txn_words S) (inside : r < S.slots) (none : Q.awaited_lock ≡ no_lock) where
      idle : T (awaits (txn (set_txn u r Q) r)) → ⊥
      idle v = awaits→ (txn (set_txn u r Q) r) v (ap (λ (w : Txn). w.awaited_lock) (txn-set_txn u r Q S size inside) ∙ none)

      -- the others are as they were
      written : ((m : ℕ) → txn u m ≡ txn t m) → Stood (set_txn u r Q)
      written rows v w o =
          (rows-kept S G (with (set_txn u r Q)) g x r inside (λ m d. txn-set_txn-other u r Q m d ∙ rows m) (λ m d. same-locks (lock G.locks x) m)).order a b i j
          (idle-apart (set_txn u r Q) r idle a v) (idle-apart (set_txn u r Q) r idle b w) h k o

    headed : (r : ℕ) (Q : Txn) (w v : ℕ) → r < S.slots → w < txn_head → Q.awaited_lock ≡ no_lock → Stood (set_txn (set t w v) r Q)
    headed r Q w v inside head none = written (set t w v) r Q (length-set t w v ∙ g.txns_exact) inside none (λ m. txn-top t w v m head)

    gone : (r : ℕ) → r < S.slots → Stood (set_txn t r no_txn)
    gone r inside = written t r no_txn g.txns_exact inside refl (λ m. refl)

    -- ---- slot r leaves its line, if it stands in one
    clears : (r : ℕ) → r < S.slots → Stood (cleared S t r)
    clears r inside v w o =
        let n = cleared-idle S t g.txns_exact r inside in
        (left-kept S G (with (cleared S t r)) g x r inside (cleared_there S t g.txns_exact r inside) n (λ m d. same-locks (lock G.locks x) m)).order a b i j
        (idle-apart (cleared S t r) r n a v) (idle-apart (cleared S t r) r n b w) h k o

    aborts : (r : ℕ) → r < S.slots → Stood (set_txn (closed_up S t r) r no_txn)
    aborts r inside v w o =
        let u = closed_up S t r in
        let n = idle u r no_txn (closed-length S t r ∙ g.txns_exact) inside refl in
        (left-kept S G (with (set_txn u r no_txn)) g x r inside (λ m l d. txn-set_txn-other u r no_txn m d ∙ closed-row S t r g.txns_exact m l) n
        (λ m d. same-locks (lock G.locks x) m)).order a b i j
        (idle-apart (set_txn u r no_txn) r n a v) (idle-apart (set_txn u r no_txn) r n b w) h k o

    -- ---- slot r comes into a line, or stands there
    comes : (c : Call) (r q y : ℕ) → Waiter c S G r q y → Stood (noted S t G.locks r q y)
    comes c r q y w = go (awaits_on y (txn t r)) refl
      where
        go : (e : Bool) → awaits_on y (txn t r) ≡ e → Stood (noted S t G.locks r q y)
        go true e = subst Stood (sym (noted-known S t G.locks r q y (true_is e))) (λ v z o. o)
        go false e =
            let n : T (awaits (txn t r)) → ⊥ = λ f. false_is e (only_this t r q y w.free f).1 in
            λ v z o. (came_kept S G g x r q y w.caller.inside w.some n G.versions).order a b i j (idle-apart t r n a h) (idle-apart t r n b k) h k o

    -- ---- notes move no rank: u' has other ones than t'
    beside : (t' u' : List ℕ) → ((m : ℕ) → Beside (txn t' m) (txn u' m)) → Stood t' → Stood u'
    unfolding awaits_on awaits
    beside t' u' B f v w o =
        let same : (m : ℕ) → awaits_on x (txn u' m) ≡ awaits_on x (txn t' m) = λ m. beside_same (awaits_on x) (λ r n w i m. refl) (txn t' m) (txn u' m) (B m) in
        let ea = beside_same (λ (r : Txn). r.rank) (λ r n w i m. refl) (txn t' a) (txn u' a) (B a) in
        let eb = beside_same (λ (r : Txn). r.rank) (λ r n w i m. refl) (txn t' b) (txn u' b) (B b) in
        f (subst T (same a) v) (subst T (same b) w) (omega arith)

    reads : (r y : ℕ) → r < S.slots → y < S.items → Stood (counted (read_noted t G.locks r y) r (looked_at S G r y))
    reads r y inside known =
        beside t (counted (read_noted t G.locks r y) r (looked_at S G r y))
        (λ m.
        beside_on (txn t m) (txn (read_noted t G.locks r y) m) (txn (counted (read_noted t G.locks r y) r (looked_at S G r y)) m)
        (read-beside S t G.locks r y g.txns_exact inside (holder_inside S G g r inside y known) m)
        (counted-beside (read_noted t G.locks r y) r (looked_at S G r y) S (read_length S t G.locks r y g.txns_exact inside (holder_inside S G g r inside y known) ∙ g.txns_exact) inside m))
        (λ v w o. o)

    waits : (c : Call) (r q y m : ℕ) → Waiter c S G r q y → Stood (joined (noted S t G.locks r q y) r m)
    waits c r q y m w =
        beside (noted S t G.locks r q y) (joined (noted S t G.locks r q y) r m)
        (joined-beside (noted S t G.locks r q y) r m S (noted-size S t G.locks r q y ∙ g.txns_exact) w.caller.inside) (comes c r q y w)

    ends : (r : ℕ) → r < S.slots → Stood (set_txn (forgotten S r t) r no_txn)
    ends r inside = beside (set_txn t r no_txn) (set_txn (forgotten S r t) r no_txn) (λ m. row m (same? m r)) (gone r inside)
      where
        row : (m : ℕ) → (m ≡ r) ⊎ (m ≢ r) → Beside (txn (set_txn t r no_txn) m) (txn (set_txn (forgotten S r t) r no_txn) m)
        row m (inl e) =
            subst (λ (k : ℕ). Beside (txn (set_txn t r no_txn) k) (txn (set_txn (forgotten S r t) r no_txn) k)) (sym e)
            (same_beside _ _ (txn-set_txn (forgotten S r t) r no_txn S (forgotten-length S r t ∙ g.txns_exact) inside ∙ sym (txn-set_txn t r no_txn S g.txns_exact inside)))
        row m (inr d) =
            subst (λ (w : Txn). Beside w (txn (set_txn (forgotten S r t) r no_txn) m)) (sym (txn-set_txn-other t r no_txn m d))
            (subst (Beside (txn t m)) (sym (txn-set_txn-other (forgotten S r t) r no_txn m d)) (forgotten-beside S r t g.txns_exact m))

-- ---- the sets are joined before a further lock is taken
module _
    (S : Sizes) (G : Tables) (g : Good S G) (x a b : ℕ) (i : a < S.slots) (j : b < S.slots)
    (h : T (awaits_on x (txn G.txns a))) (k : T (awaits_on x (txn G.txns b)))
  where
    joins : (r q y : ℕ) → r < S.slots → T (live_update (txn G.txns r)) → y < S.items → Stood S G g x a b i j h k (cleared S (joined G.txns r (grant_joins S G q y)) r)
    unfolding awaits_on awaits
    joins r q y inside u known v w o =
        let m = grant_joins S G q y in
        let g₁ = anew_joined S G g r q y inside u known in
        let same : (z : ℕ) → awaits_on x (txn (joined G.txns r m) z) ≡ awaits_on x (txn G.txns z) = joined_same G.txns r m S g.txns_exact inside (awaits_on x) (λ r v. refl) in
        let rank : (z : ℕ) → (txn (joined G.txns r m) z).rank ≡ (txn G.txns z).rank = joined_same G.txns r m S g.txns_exact inside (λ (q : Txn). q.rank) (λ r v. refl) in
        let f = clears S (joining r m G) g₁ x a b i j (subst T (sym (same a)) h) (subst T (sym (same b)) k) r inside v w o in
        let ea = rank a in
        let eb = rank b in
        omega arith

    -- ---- every way
    stood : (c : Call) (d : Deed) → Way S G c d → Stood S G g x a b i j h k (done S d G).after.txns
    unfolding done version_read begun locked locked_anew committed_under committed settled_committed ended aborted settled_aborted settled
    stood c d (refused r m) v w o = o
    stood c d (waited r q y z) v w o = waits S G g x a b i j h k c r q y (asking_joins S G.txns q y) z v w o
    stood c d (began_update r F l) v w o = headed S G g x a b i j h k r _ last_number_at _ F.inside (omega arith) refl v w o
    stood c d (began_query r F l) v w o = headed S G g x a b i j h k r _ last_number_at _ F.inside (omega arith) refl v w o
    stood c d (began_relaxed r F l y) v w o = headed S G g x a b i j h k r _ last_number_at _ F.inside (omega arith) refl v w o
    stood c d (read_own n r y U e) v w o = clears S G g x a b i j h k r U.caller.inside v w o
    stood c d (read_newest n r y U e) v w o = clears S G g x a b i j h k r U.caller.inside v w o
    stood c d (read_shared n r y U e f) v w o = joins r shared_lock y U.caller.inside U.update U.known v w o
    stood c d (kept_waiting r C q) v w o = o
    stood c d (read_settled n r y C p l e) v w o = clears S G g x a b i j h k r C.inside v w o
    stood c d (read_version n r y C q l e f) v w o = reads S G g x a b i j h k r y C.inside l v w o
    stood c d (wrote_own n r y z U e) v w o = clears S G g x a b i j h k r U.caller.inside v w o
    stood c d (wrote_settled n r y z C p l e) v w o = clears S G g x a b i j h k r C.inside v w o
    stood c d (wrote_taken n r y z U e f m) v w o = joins r exclusive_lock y U.caller.inside U.update U.known v w o
    stood c d (committed_update n r C u e l q) v w o = headed S G g x a b i j h k r no_txn clock_at _ C.inside (omega arith) refl v w o
    stood c d (committed_settled n r C p) v w o = gone S G g x a b i j h k r C.inside v w o
    stood c d (committed_query n r C q) v w o = ends S G g x a b i j h k r C.inside v w o
    stood c d (aborted_update n r C u) v w o = aborts S G g x a b i j h k r C.inside v w o
    stood c d (committed_empty n r C u p q) v w o = aborts S G g x a b i j h k r C.inside v w o
    stood c d (aborted_settled n r C p) v w o = gone S G g x a b i j h k r C.inside v w o
    stood c d (aborted_query n r C q) v w o = ends S G g x a b i j h k r C.inside v w o
    stood c d (settled_update n r C u e l y) v w o = headed S G g x a b i j h k r _ clock_at _ C.inside (omega arith) refl v w o

-- no two have one rank, so who stood ahead stands ahead
pub order-kept : (S : Sizes) → S.slots ≤ S.places → OrderKept S
unfolding act
order-kept S fits c G x a b g i j h k v w low = go (ltb ra rb) refl
  where
    t' : List ℕ
    t' = (after S c G).txns

    ra : ℕ
    ra = (txn t' a).rank

    rb : ℕ
    rb = (txn t' b).rank

    back : rb < ra → (txn G.txns b).rank < (txn G.txns a).rank
    back =
        subst (λ (o : Outcome). Stood S G g x a b i j h k o.after.txns) (sym (acts S c G g)) (stood S G g x a b i j h k c (judged S c G) (way S G g c)) v w

    apart : ra ≢ rb
    apart = (keeps S fits c G g).ranks_good.apart x a b i j (λ e. let f = ap (λ (m : ℕ). (txn G.txns m).rank) e in omega arith) v w

    go : (e : Bool) → ltb ra rb ≡ e → ra < rb
    go true e = ltb-true ra rb e
    go false e = absurd (let l = ltb-false ra rb e in let f = back (omega (arith, apart)) in omega arith)
