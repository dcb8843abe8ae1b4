-- A waiting transaction stays so: calls by others leave every live row as it is, its own awaited call made again closes no circle.
use Prim.Native.Nat.{ℕ, ◌<◌}
use mathlib.Core.Path.{◌≡◌, refl, sym, ap, ◌∙◌, subst}
use mathlib.Core.Logic.{◌≢◌, ◌⊎◌, inl, inr}
use mathlib.Core.Bool.{Bool, true, false}
use mathlib.Core.List.{List}
use native.Mathlib.Omega.{arith}
use lib.Dec.{T}
use lib.ListN.{set}
use Rattle.names.specs.declared.Sizes.{Sizes}
use Rattle.names.specs.Layout.{txn_head, last_number_at, clock_at}
use Rattle.rules.specs.Tables.{Tables, Txn, txn, set_txn, with_rank, with_later_for, no_txn, live, is_reader, by_start, no_lock}
use Rattle.rules.specs.Waits.{awaits_on, noted, closed_up}
use Rattle.rules.specs.Good.{Good}
use Rattle.rules.specs.Answers.{Outcome, Call, BeginUpdate, BeginQuery, Read, Write, Commit, Abort, Settle, BeginRelaxed, Deed, granted, code}
use Rattle.rules.specs.Answers.{Wait, Deadlock}
use Rattle.rules.specs.Step.{act, step, judged, done, begun, cleared, joined, joining, asking_joins, read_noted, counted, forgotten, locked, locked_anew, committed_under, committed, settled_committed, ended}
use Rattle.rules.specs.Step.{aborted, settled_aborted, settled, awaits_other, version_read, with_txns}
use Rattle.rules.specs.Conditions.{Caller, Free, Updater, CallerIn, ConflictIn, Names, Wants, Circle, When, order}
use Rattle.rules.specs.Changed.{looked_at}
use Rattle.rules.specs.Promises.{code_of, after, SameButRank, StaysWaiting, OthersLeave, RepeatedWaits}
use Rattle.rules.proofs.Tests.{false_is, true_is, ne_make, same?}
use Rattle.rules.proofs.Views.{txn-set_txn-other, txn-top}
use Rattle.rules.proofs.RowKinds.{any-query-reads, settled-reads, start-reads}
use Rattle.rules.proofs.EqualRanks.{→awaits, awaits_on→, →awaits_on}
use Rattle.rules.proofs.Noting.{noted-known, noted_there, closed-row}
use Rattle.rules.proofs.Joined.{joined_length, joined_there, joined_here, forgotten-row}
use Rattle.rules.proofs.ReadNoted.{holder_inside, read-other}
use Rattle.rules.proofs.Waited.{only_this, cleared_there}
use Rattle.rules.proofs.Counting.{counted_there}
use Rattle.rules.proofs.Steps.{acts}
use Rattle.rules.proofs.Callers.{caller-found}
use Rattle.rules.proofs.Deadlock.{repeated}
use Rattle.rules.proofs.Judged.{way}
use Rattle.rules.proofs.Ways.{Way, refused, waited, began_update, began_query, began_relaxed, read_own, read_newest, read_shared, read_settled, read_version}
use Rattle.rules.proofs.Ways.{wrote_own, wrote_settled, wrote_taken, committed_update, committed_empty, committed_settled, committed_query, aborted_update, aborted_settled, aborted_query, settled_update, kept_waiting}
use Rattle.rules.proofs.Refused.{NotedDown, HeldSilently, wait_is}
use Rattle.rules.proofs.Answered.{answered, answered_when}

-- ---- a call names one transaction at most, and wants one lock
pub named? : (c : Call) (m : ℕ) → Names c m ⊎ (Names c m → ⊥)
named? BeginUpdate m = inr (λ h. h)
named? BeginQuery m = inr (λ h. h)
named? (Read n x) m = same? n m
named? (Write n x v) m = same? n m
named? (Commit n) m = same? n m
named? (Abort n) m = same? n m
named? (Settle n) m = same? n m
named? BeginRelaxed m = inr (λ h. h)

one_name : (c : Call) (m n : ℕ) → Names c m → Names c n → m ≡ n
one_name BeginUpdate m n a b = absurd a
one_name BeginQuery m n a b = absurd a
one_name (Read i x) m n a b = sym a ∙ b
one_name (Write i x v) m n a b = sym a ∙ b
one_name (Commit i) m n a b = sym a ∙ b
one_name (Abort i) m n a b = sym a ∙ b
one_name (Settle i) m n a b = sym a ∙ b
one_name BeginRelaxed m n a b = absurd a

pub one_want : (c : Call) (j k x y : ℕ) → Wants c j x → Wants c k y → (j ≡ k) × (x ≡ y)
one_want BeginUpdate j k x y a b = absurd a
one_want BeginQuery j k x y a b = absurd a
one_want (Read i z) j k x y a b = (a.0 ∙ sym b.0, sym a.1 ∙ b.1)
one_want (Write i z v) j k x y a b = (a.0 ∙ sym b.0, sym a.1 ∙ b.1)
one_want (Commit i) j k x y a b = absurd a
one_want (Abort i) j k x y a b = absurd a
one_want (Settle i) j k x y a b = absurd a
one_want BeginRelaxed j k x y a b = absurd a

-- and has one caller
pub one_caller : (S : Sizes) (G : Tables) → Good S G → (c : Call) (r s : ℕ) → CallerIn c S G r → CallerIn c S G s → r ≡ s
one_caller S G g c r s C D =
    let e = one_name c (txn G.txns r).number (txn G.txns s).number C.named D.named in
    sym (caller-found S G g r (txn G.txns s).number C.inside C.alive e)
    ∙ caller-found S G g s (txn G.txns s).number D.inside D.alive refl

-- the same row; one with another rank; one in other sets; one after the other
pub same_row : {q r : Txn} → q ≡ r → SameButRank q r
same_row {q} {r} e = e ∙ ap (λ (w : Txn). with_later_for (with_rank r w.rank) w.later_for) (sym e)

pub but_rank : (r : Txn) {q : Txn} {p : ℕ} → q ≡ with_rank r p → SameButRank q r
but_rank r {q} {p} e = e ∙ ap (λ (w : Txn). with_later_for (with_rank r w.rank) w.later_for) (sym e)

pub but_sets : (r : Txn) {q : Txn} {m : ℕ} → q ≡ with_later_for r m → SameButRank q r
but_sets r {q} {m} e = e ∙ ap (λ (w : Txn). with_later_for (with_rank r w.rank) w.later_for) (sym e)

pub same_on : (p r : Txn) {q : Txn} → SameButRank q p → SameButRank p r → SameButRank q r
same_on p r {q} a b = a ∙ ap (λ (w : Txn). with_later_for (with_rank w q.rank) q.later_for) b

module _ (S : Sizes) (G : Tables) (g : Good S G) (s : ℕ) (inside : s < S.slots) where
  abbrev t : List ℕ
  t = G.txns

  abbrev R : Txn
  R = txn t s

  -- ---- a deed writes one row at most, that of its slot r, and ranks
  module _ (r : ℕ) (d : s ≢ r) where
    noted_other : r < S.slots → (k x : ℕ) → SameButRank (txn (noted S t G.locks r k x) s) R
    noted_other i k x = go (awaits_on x (txn t r)) refl
      where
        go : (b : Bool) → awaits_on x (txn t r) ≡ b → SameButRank (txn (noted S t G.locks r k x) s) R
        go true e = same_row (ap (λ (u : List ℕ). txn u s) (noted-known S t G.locks r k x (true_is e)))
        go false e = but_rank R (noted_there S t G.locks r k x (false_is e) g.txns_exact s inside d)

    cleared-other : r < S.slots → SameButRank (txn (cleared S t r) s) R
    cleared-other i = but_rank R (cleared_there S t g.txns_exact r i s inside d)

    left_other : (w v : ℕ) → w < txn_head → (Q : Txn) → SameButRank (txn (set_txn (set t w v) r Q) s) R
    left_other w v h Q = same_row (txn-set_txn-other (set t w v) r Q s d ∙ txn-top t w v s h)

    gone-other : (Q : Txn) → SameButRank (txn (set_txn t r Q) s) R
    gone-other Q = same_row (txn-set_txn-other t r Q s d)

    -- request E11: another joins sets besides, or nobody is in the set of r any more
    waited-other : r < S.slots → (k x : ℕ) → SameButRank (txn (joined (noted S t G.locks r k x) r (asking_joins S t k x)) s) R
    waited-other i k x = same_on (txn (noted S t G.locks r k x) s) R (same_row (joined_there (noted S t G.locks r k x) r (asking_joins S t k x) s d)) (noted_other i k x)

    anew_other : r < S.slots → (m : ℕ) → SameButRank (txn (cleared S (joined t r m) r) s) R
    anew_other i m =
        same_on (txn (joined t r m) s) R (but_rank (txn (joined t r m) s) (cleared_there S (joined t r m) (joined_length t r m ∙ g.txns_exact) r i s inside d)) (same_row (joined_there t r m s d))

    read-row : r < S.slots → (x : ℕ) → x < S.items → SameButRank (txn (counted (read_noted t G.locks r x) r (looked_at S G r x)) s) R
    read-row i x j =
        same_on (txn (read_noted t G.locks r x) s) R (same_row (counted_there (read_noted t G.locks r x) r (looked_at S G r x) s d))
        (but_sets R (read-other S t G.locks r x g.txns_exact i (holder_inside S G g r i x j) s d))

    ended-other : (Q : Txn) → SameButRank (txn (set_txn (forgotten S r t) r Q) s) R
    ended-other Q = but_sets R (txn-set_txn-other (forgotten S r t) r Q s d ∙ forgotten-row S r t g.txns_exact s inside)

    aborted-other : (Q : Txn) → SameButRank (txn (set_txn (closed_up S t r) r Q) s) R
    aborted-other Q = but_rank R (txn-set_txn-other (closed_up S t r) r Q s d ∙ closed-row S t r g.txns_exact s inside)

  abbrev Same : Deed → Type 0
  Same d = SameButRank (txn (done S d G).after.txns s) R

  -- ---- calls by others
  module _ (lives : T (live R)) where
    apart : (c : Call) → (Names c R.number → ⊥) → (r : ℕ) → Names c (txn t r).number → s ≢ r
    apart c o r h e = o (subst (λ (m : ℕ). Names c (txn t m).number) (sym e) h)

    new : (r : ℕ) → Free S t r → s ≢ r
    new r F e = F.free (subst (λ (m : ℕ). T (live (txn t m))) e lives)

    named : (c : Call) → (Names c R.number → ⊥) → (n r : ℕ) → Names c n → Caller S G n r → s ≢ r
    named c o n r h C = apart c o r (subst (Names c) (sym C.name) h)

    other_row : (c : Call) (d : Deed) → Way S G c d → (Names c R.number → ⊥) → Same d
    unfolding done version_read begun locked locked_anew committed_under committed settled_committed ended aborted settled_aborted settled
    other_row c d (refused r m) o = same_row refl
    other_row c d (waited r k x w) o = waited-other r (apart c o r w.caller.named) w.caller.inside k x
    other_row c d (began_update r F l) o = left_other r (new r F) last_number_at _ (omega arith) _
    other_row c d (began_query r F l) o = left_other r (new r F) last_number_at _ (omega arith) _
    other_row c d (began_relaxed r F l a) o = left_other r (new r F) last_number_at _ (omega arith) _
    other_row c d (read_own n r x U h) o = cleared-other r (named c o n r refl U.caller) U.caller.inside
    other_row c d (read_newest n r x U h) o = cleared-other r (named c o n r refl U.caller) U.caller.inside
    other_row c d (read_shared n r x U h f) o = anew_other r (named c o n r refl U.caller) U.caller.inside _
    other_row c d (kept_waiting r C q) o = same_row refl
    other_row c d (read_settled n r x C p i h) o = cleared-other r (named c o n r refl C) C.inside
    other_row c d (read_version n r x C q i b e) o = read-row r (named c o n r refl C) C.inside x i
    other_row c d (wrote_own n r x v U h) o = cleared-other r (named c o n r refl U.caller) U.caller.inside
    other_row c d (wrote_settled n r x v C p i h) o = cleared-other r (named c o n r refl C) C.inside
    other_row c d (wrote_taken n r x v U h f m) o = anew_other r (named c o n r refl U.caller) U.caller.inside _
    other_row c d (committed_empty n r C u i e) o = aborted-other r (named c o n r refl C) no_txn
    other_row c d (committed_update n r C u i l w) o = left_other r (named c o n r refl C) clock_at _ (omega arith) no_txn
    other_row c d (committed_settled n r C p) o = gone-other r (named c o n r refl C) no_txn
    other_row c d (committed_query n r C q) o = ended-other r (named c o n r refl C) no_txn
    other_row c d (aborted_update n r C u) o = aborted-other r (named c o n r refl C) no_txn
    other_row c d (aborted_settled n r C p) o = gone-other r (named c o n r refl C) no_txn
    other_row c d (aborted_query n r C q) o = ended-other r (named c o n r refl C) no_txn
    other_row c d (settled_update n r C u i l a) o = left_other r (named c o n r refl C) clock_at _ (omega arith) _

  -- ---- its own calls, while it awaits
  module _ (awaits' : R.awaited_lock ≢ no_lock) where
    alive : T (live R)
    unfolding live
    alive = ne_make R.number 0 (λ e. awaits' (ap (λ (Q : Txn). Q.awaited_lock) ((g.txn_good s inside).free e)))

    -- test 6 lets the awaited call pass, and none but it
    this : (k x : ℕ) → awaits_other t s k x ≡ false → (R.awaited_lock ≡ k) × (R.awaited_item ≡ x)
    this k x e = let w = only_this t s k x e (→awaits R awaits') in (w.0, (awaits_on→ x R w.1).1)

    abbrev Stays : Call → Deed → Type 0
    Stays c d =
        Same d
        ⊎ ((Names c R.number × Wants c R.awaited_lock R.awaited_item × ((done S d G).answer.code ≡ granted)) ⊎ (c ≡ Abort R.number))

    -- whoever bears its number is it
    here : (n r : ℕ) → n ≡ R.number → Caller S G n r → r ≡ s
    here n r e C = sym (caller-found S G g r n C.inside C.alive C.name) ∙ caller-found S G g s n inside alive (sym e)

    module _ (n r : ℕ) (e : n ≡ R.number) where
      it : {k x : ℕ} → Updater S G n r k x → (R.awaited_lock ≡ k) × (R.awaited_item ≡ x)
      it {k} {x} U = this k x (subst (λ (m : ℕ). awaits_other t m k x ≡ false) (here n r e U.caller) U.free)

      busy : Caller S G n r → (txn t r).awaited_lock ≡ no_lock → ⊥
      busy C i = awaits' (subst (λ (m : ℕ). (txn t m).awaited_lock ≡ no_lock) (here n r e C) i)

      idle : Caller S G n r → T (is_reader (txn t r)) → ⊥
      idle C q = busy C ((g.txn_good r C.inside).reader_idle q)

    own_row : (c : Call) (d : Deed) → Way S G c d → Names c R.number → Stays c d
    unfolding done
    own_row c d (refused r m) e = inl (same_row refl)
    own_row c d (waited r k x w) e = inl (noted' r k x (stands c r w.caller e) w.free)
      where
        noted' : (r k x : ℕ) → r ≡ s → awaits_other t r k x ≡ false → SameButRank (txn (joined (noted S t G.locks r k x) r (asking_joins S t k x)) s) R
        noted' r k x q f =
            let w = only_this t s k x (subst (λ (m : ℕ). awaits_other t m k x ≡ false) q f) (→awaits R awaits') in
            let m = asking_joins S t k x in
            same_on (txn (joined t s m) s) R
            (same_row (ap (λ (j : ℕ). txn (joined (noted S t G.locks j k x) j m) s) q ∙ ap (λ (u : List ℕ). txn (joined u s m) s) (noted-known S t G.locks s k x w.1)))
            (but_sets R (joined_here t s m S g.txns_exact inside))

        -- the caller of a call that names it
        stands : (c : Call) (r : ℕ) → CallerIn c S G r → Names c R.number → r ≡ s
        stands c r C e = one_caller S G g c r s C (record { inside = inside; alive = alive; named = e })
    own_row c d (read_own n r x U h) e = let p = it n r e U in inr (inl (e, (p.0, sym p.1), refl))
    own_row c d (read_newest n r x U h) e = let p = it n r e U in inr (inl (e, (p.0, sym p.1), refl))
    own_row c d (read_shared n r x U h f) e = let p = it n r e U in inr (inl (e, (p.0, sym p.1), refl))
    own_row c d (kept_waiting r C q) e = inl (same_row refl)
    own_row c d (read_settled n r x C p i h) e = absurd (idle n r e C (settled-reads (txn t r) p))
    own_row c d (read_version n r x C q i o b) e = absurd (idle n r e C q)
    own_row c d (wrote_own n r x v U h) e = let p = it n r e U in inr (inl (e, (p.0, sym p.1), refl))
    own_row c d (wrote_settled n r x v C p i h) e = absurd (idle n r e C (settled-reads (txn t r) p))
    own_row c d (wrote_taken n r x v U h f m) e = let p = it n r e U in inr (inl (e, (p.0, sym p.1), refl))
    own_row c d (committed_empty n r C u i w) e = absurd (busy n r e C i)
    own_row c d (committed_update n r C u i l w) e = absurd (busy n r e C i)
    own_row c d (committed_settled n r C p) e = absurd (idle n r e C (settled-reads (txn t r) p))
    own_row c d (committed_query n r C q) e = absurd (idle n r e C (any-query-reads (txn t r) q))
    own_row c d (aborted_update n r C u) e = inr (inr (ap Abort e))
    own_row c d (aborted_settled n r C p) e = inr (inr (ap Abort e))
    own_row c d (aborted_query n r C q) e = absurd (idle n r e C (any-query-reads (txn t r) q))
    own_row c d (settled_update n r C u i l a) e = absurd (busy n r e C i)
    own_row _ _ (began_update _ _ _) e = elim e [ ]
    own_row _ _ (began_query _ _ _) e = elim e [ ]
    own_row _ _ (began_relaxed _ _ _ _) e = elim e [ ]

-- ---- told of `step`
pub others_leave : (S : Sizes) → OthersLeave S
unfolding act
others_leave S c G s g inside lives others =
    subst (λ (o : Outcome). SameButRank (txn o.after.txns s) (txn G.txns s)) (sym (acts S c G g))
    (other_row S G g s inside lives c (judged S c G) (way S G g c) others)

-- what is shown of the outcome o
abbrev Shown : Tables → ℕ → Call → Outcome → Type 0
Shown G s c o =
    SameButRank (txn o.after.txns s) (txn G.txns s)
    ⊎ ((Names c (txn G.txns s).number × Wants c (txn G.txns s).awaited_lock (txn G.txns s).awaited_item × (o.answer.code ≡ granted))
    ⊎ (c ≡ Abort (txn G.txns s).number))

pub stays_waiting : (S : Sizes) → StaysWaiting S
unfolding act
stays_waiting S c G s g inside awaits = subst (Shown G s c) (sym (acts S c G g)) (go (named? c (txn G.txns s).number))
  where
    go : Names c (txn G.txns s).number ⊎ (Names c (txn G.txns s).number → ⊥) → Shown G s c (done S (judged S c G) G)
    go (inl e) = own_row S G g s inside awaits c (judged S c G) (way S G g c) e
    go (inr d) = inl (other_row S G g s inside (alive S G g s inside awaits) c (judged S c G) (way S G g c) d)

-- ---- the awaited call made again
-- a call that is answered 2 is in a conflict, and its wait would close a circle
pub repeated_waits : (S : Sizes) → RepeatedWaits S
unfolding When
repeated_waits S c G s g C awaits wants = (λ e. never (answered_when S c G Deadlock (order c) (code_of S c G) (answered S c G) e), again)
  where
    R : Txn
    R = txn G.txns s

    stands : T (awaits_on R.awaited_item R)
    stands = →awaits_on R.awaited_item R (→awaits R awaits) refl

    never : ((r : ℕ) × (k : ℕ) × (x : ℕ) × ConflictIn c S G r k x × Circle S G r k x) → ⊥
    never w =
        let K = w.3 in
        let q = one_want c w.1 R.awaited_lock w.2 R.awaited_item K.wants wants in
        repeated S G g s w.1 R.awaited_item stands
        (subst (λ (y : ℕ). Circle S G s w.1 y) q.1 (subst (λ (r : ℕ). Circle S G r w.1 w.2) (one_caller S G g c w.0 s K.caller C) w.4))

    again : code_of S c G ≡ code Wait → after S c G ≡ joining s (asking_joins S G.txns R.awaited_lock R.awaited_item) G
    again e = go (wait_is S c G e)
      where
        waits : ℕ → ℕ → ℕ → Tables
        waits r k x = with_txns G (joined (noted S G.txns G.locks r k x) r (asking_joins S G.txns k x))

        go : NotedDown S c G (step S c G) ⊎ HeldSilently S c G (step S c G) → after S c G ≡ joining s (asking_joins S G.txns R.awaited_lock R.awaited_item) G
        go (inr h) =
            let q = one_caller S G g c h.0.0 s h.0.1 C in
            absurd (awaits ((g.txn_good s C.inside).reader_idle (start-reads R (subst (λ (r : ℕ). T (by_start (txn G.txns r))) q h.0.2))))
        go (inl w) =
            let q = one_want c w.1 R.awaited_lock w.2 R.awaited_item w.4 wants in
            w.6
            ∙ ap (λ (r : ℕ). waits r w.1 w.2) (one_caller S G g c w.0 s w.3 C)
            ∙ ap (λ (k : ℕ). waits s k w.2) q.0
            ∙ ap (waits s R.awaited_lock) q.1
            ∙ ap (λ (u : List ℕ). with_txns G (joined u s (asking_joins S G.txns R.awaited_lock R.awaited_item))) (noted-known S G.txns G.locks s R.awaited_lock R.awaited_item stands)
