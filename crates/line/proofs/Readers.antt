-- Request E6: a reader that is held back is served too. Who settles later has a stamp above its start, and who is past its writing takes no
-- further item: so only those hold it back who did so at first, and when they have ended it reads.
use Prim.Native.Nat.{ℕ, ◌≤◌, ◌<◌}
use mathlib.Core.Path.{◌≡◌, refl, sym, ap, ◌∙◌, subst}
use mathlib.Core.Logic.{◌≢◌, ◌⊎◌, inl, inr, ⊎_elim}
use mathlib.Core.Bool.{Bool, true, false, not, cond}
use mathlib.Core.List.{List, [], ◌∷◌}
use native.Mathlib.Omega.{arith}
use lib.Dec.{T, eqb, leb, leb→le, eqb→eq}
use borrow.Author.Tests.{eq-eqb, ne_eqb, leb-true, leb-false}
use Rattle.names.specs.declared.Sizes.{Sizes}
use Rattle.rules.specs.Tables.{Tables, txn, by_start, live_settled, an_update, a_settled, a_relaxed, shared_lock, lock, holds_shared, holds_exclusive, holds}
use Rattle.rules.specs.Good.{Good}
use Rattle.rules.specs.Locks.{Asked, to_read, to_write}
use Rattle.rules.specs.Answers.{Call, BeginUpdate, BeginQuery, Read, Write, Commit, Abort, Settle, BeginRelaxed, Outcome, granted, code}
use Rattle.rules.specs.Answers.{Wait, Deadlock, UnknownTransaction, UnknownItem, QueryMayNotWrite, StillWaiting, BadTables, QuotaSpent, PastWriting}
use Rattle.rules.specs.Step.{step, held_back, holds_back}
use Rattle.rules.specs.Conditions.{Caller, CallerIn, HeldBackIn, Names, When, then_tested, order, Answered}
use Rattle.rules.specs.Promises.{code_of, after, asking}
use Rattle.rules.proofs.Tests.{true_is, is_false, and_left, and_right, or_right, not_use, same?}
use Rattle.rules.proofs.Counts.{some_below→}
use Rattle.rules.proofs.EqualRows.{settled-live, update-live, reader-live, live-reader}
use Rattle.rules.proofs.Answered.{code_exactly}
use Rattle.rules.proofs.Calls.{version_reads}
use Rattle.rules.proofs.RowKinds.{start-reads, start_not_relaxed}
use Rattle.rules.proofs.Keeps.{keeps}
use Rattle.rules.proofs.Waiting.{one_caller}
use Rattle.history.specs.Runs.{end_of}
use Rattle.history.specs.Happened.{Happening, update_began, query_began, relaxed_began, accessed, update_committed, empty_committed, settled_under, only_ended, nothing, did, told, names}
use Rattle.history.proofs.Invariant.{View, Fair, Row, Locks, settled}
use Rattle.history.proofs.Turns.{Same, New, Puts, Left, Settles, Turn, quiet, update_begins, query_begins, relaxed_begins, reads, writes, commits, commits_empty, settles, commits_settled, ends}
use Rattle.history.proofs.Seen.{seen, seen_fair}
use Rattle.history.proofs.Happens.{Happens, step_happens, good-run}
use Rattle.line.specs.Served.{Before, Gone, EveryCall, Supposed}

-- ---- the reader n in slot s is held back from the item x by nobody but those of whom D holds
pub record Back (D : ℕ → Type 0) (n s x : ℕ) (W : View) : Type 0 where
  pub alive : W.alive s
  pub reader : W.kind s ≢ an_update
  pub strict : W.kind s ≢ a_relaxed
  pub name : W.number s ≡ n
  pub not_own : T (W.writes s x) → ⊥
  pub only : (b : ℕ) → b ≢ s → settled W b → W.start b ≤ W.start s → T (W.writes b x) → D (W.number b)

-- something happened
abbrev Something : Happening → Type 0
Something nothing = ⊥
Something (update_began n) = T true
Something (query_began n) = T true
Something (relaxed_began n) = T true
Something (accessed n a) = T true
Something (update_committed n c) = T true
Something (empty_committed n c) = T true
Something (settled_under n c) = T true
Something (only_ended n) = T true

module _ (D : ℕ → Type 0) (n s x items : ℕ) (known : x < items) (W W' : View) (F : Fair items W) (B : Back D n s x W) where
  -- its row stays, and whoever holds it back did so before
  carried :
      Row W W' s → (T (W'.writes s x) → T (W.writes s x))
      → ((b : ℕ) → b ≢ s → settled W' b → W'.start b ≤ W'.start s → T (W'.writes b x) → Row W W' b × T (W.writes b x)) → Back D n s x W'
  carried R own others =
      record {
        alive = R.lives_on B.alive;
        reader = λ e. B.reader (sym R.kind_is ∙ e);
        strict = λ e. B.strict (sym R.kind_is ∙ e);
        name = R.number_is ∙ B.name;
        not_own = λ h. B.not_own (own h);
        only = λ b d p l h.
            let Q = others b d p l h in
            subst D (sym Q.0.number_is)
            (B.only b d (Q.0.was p.0, sym Q.0.kind_is ∙ p.1) (let i = Q.0.start_is in let j = R.start_is in omega arith) Q.1);
      }

  -- the locks of slot b stay
  wrote : (b : ℕ) → Locks items W W' b → T (W'.writes b x) → T (W.writes b x)
  wrote b L h = subst T (L.same_writes x known) h

  same : Same items W W' → Back D n s x W'
  same A = carried (A.rows s) (wrote s (A.locks s)) (λ b d p l h. (A.rows b, wrote b (A.locks b) h))

  -- another comes, goes or settles, in slot r, and is not one that holds back
  but :
      (r : ℕ) → s ≢ r → ((b : ℕ) → b ≢ r → Row W W' b) → ((b : ℕ) → b ≢ r → Locks items W W' b)
      → (settled W' r → W'.start r ≤ W.start s → ⊥) → Back D n s x W'
  but r d rows locks none = carried (rows s d) (wrote s (locks s d)) (λ b e p l h. go b p l h (same? b r))
    where
      go :
          (b : ℕ) → settled W' b → W'.start b ≤ W'.start s → T (W'.writes b x) → (b ≡ r) ⊎ (b ≢ r) → Row W W' b × T (W.writes b x)
      go b p l h (inl e) =
          absurd
          (none (subst (λ (m : ℕ). settled W' m) e p)
          (let i = (rows s d).start_is in let j : W'.start b ≡ W'.start r = ap W'.start e in omega arith))
      go b p l h (inr e) = (rows b e, wrote b (locks b e) h)

  begun : (r : ℕ) → New items W W' r → W'.kind r ≢ a_settled → Back D n s x W'
  begun r N k = but r (λ e. N.free (subst (λ (m : ℕ). W.alive m) e B.alive)) N.rows N.locks (λ p l. k p.1)

  left : (r : ℕ) → s ≢ r → Left items W W' r → Back D n s x W'
  left r d L = but r d L.rows L.locks (λ p l. L.gone p.0)

  settling : (r : ℕ) → Settles items W W' r → Back D n s x W'
  settling r Q =
      but r (λ e. B.reader (ap W.kind e ∙ Q.update.1)) Q.rows Q.locks
      (λ p l. let i = F.low s (B.alive, B.reader, B.strict) in let j = Q.start in omega arith)

  -- who takes an item is not past its writing
  putting : (r y v : ℕ) → Puts items W W' r y v → Back D n s x W'
  putting r y v P = carried (P.rows s) (λ h. held s (λ e. B.reader e) h) (λ b d p l h. (P.rows b, held b (λ e. absurd (no b p e)) h))
    where
      no : (b : ℕ) → settled W' b → W.kind b ≡ an_update → ⊥
      no b p e = let i = (P.rows b).kind_is in let j = p.1 in omega arith

      held : (b : ℕ) → W.kind b ≢ an_update → T (W'.writes b x) → T (W.writes b x)
      held b k h = go (same? b r) (same? x y)
        where
          may : b ≡ r → x ≡ y → (W.kind r ≡ an_update) ⊎ ((W.kind r ≡ a_settled) × T (W.writes r y)) → T (W.writes b x)
          may e f (inl u) = absurd (k (ap W.kind e ∙ u))
          may e f (inr u) = subst (λ (m : ℕ). T (W.writes m x)) (sym e) (subst (λ (z : ℕ). T (W.writes r z)) (sym f) u.1)

          go : (b ≡ r) ⊎ (b ≢ r) → (x ≡ y) ⊎ (x ≢ y) → T (W.writes b x)
          go (inl e) (inl f) = may e f P.may
          go (inl e) (inr f) =
              subst (λ (m : ℕ). T (W.writes m x)) (sym e) (subst T (P.writes_on x known f) (subst (λ (m : ℕ). T (W'.writes m x)) e h))
          go (inr e) f = wrote b (P.locks b e) h

  -- ---- every turn that is not its own end
  turned : {c : Call} {h : Happening} → Turn items W W' c h → (T (names n c) → Something h → ⊥) → Back D n s x W'
  turned (quiet A) mine = same A
  turned (update_begins r N k e) mine = begun r N (λ z. omega arith)
  turned (query_begins r N q z e) mine = begun r N (λ i. let j = q.1 in omega arith)
  turned (relaxed_begins r N q e) mine = begun r N (λ i. let j = q.1 in omega arith)
  turned (reads m r y v e b A g) mine = same A
  turned (writes m r y v e b P) mine = putting r y v P
  turned {c} (commits m r e a u L o i k) mine =
      left r (λ d. mine (subst (λ (j : ℕ). T (names j c)) (sym e ∙ ap W.number (sym d) ∙ B.name) a) tt) L
  turned {c} (commits_empty m r e a u w L o i k) mine =
      left r (λ d. mine (subst (λ (j : ℕ). T (names j c)) (sym e ∙ ap W.number (sym d) ∙ B.name) a) tt) L
  turned (settles m r e Q) mine = settling r Q
  turned {c} (commits_settled m r e a u L o i k) mine =
      left r (λ d. mine (subst (λ (j : ℕ). T (names j c)) (sym e ∙ ap W.number (sym d) ∙ B.name) a) tt) L
  turned {c} (ends m r e a L o i k) mine =
      left r (λ d. mine (subst (λ (j : ℕ). T (names j c)) (sym e ∙ ap W.number (sym d) ∙ B.name) a) tt) L

-- ---- along a run
-- the call names it, said once as a test and once as a fact
named : (n : ℕ) (c : Call) → T (names n c) → Names c n
unfolding names
named n BeginUpdate h = h
named n BeginQuery h = h
named n (Read m y) h = eqb→eq m n h
named n (Write m y v) h = eqb→eq m n h
named n (Commit m) h = eqb→eq m n h
named n (Abort m) h = eqb→eq m n h
named n (Settle m) h = eqb→eq m n h
named n BeginRelaxed h = h

module _ (S : Sizes) (enough : S.slots ≤ S.places) (D : ℕ → Type 0) (n s x : ℕ) (known : x < S.items) where
  -- at a call that is not granted nothing happens
  silent : (c : Call) (G : Tables) (o : Outcome) (Q : Happens S G c o) → o.answer.code ≢ granted → Q.what ≡ nothing
  silent c G o Q d = Q.silence d

  one_call : (c : Call) (G : Tables) → Good S G → Back D n s x (seen S G) → (Names c n → code_of S c G ≢ granted) → Back D n s x (seen S (after S c G))
  one_call c G g B quiet' =
      let Q = step_happens S enough c G g in
      turned D n s x S.items known (seen S G) (seen S (after S c G)) (seen_fair S G g) B Q.turn
      (λ h z. subst Something (silent c G (step S c G) Q (quiet' (named n c h))) z)

  run-keeps :
      (cs : List Call) (G : Tables) → Good S G → Back D n s x (seen S G) → EveryCall S (λ c H. Names c n → code_of S c H ≢ granted) cs G
      → Back D n s x (seen S (end_of S cs G))
  unfolding end_of EveryCall
  run-keeps [] G g B p = B
  run-keeps (c ∷ cs) G g B p = run-keeps cs (after S c G) (keeps S enough c G g) (one_call c G g B p.0) p.1

  -- ---- where nobody of those is left, it reads
  served : (G : Tables) → Good S G → Back D n s x (seen S G) → ((m : ℕ) → D m → Gone S G m) → code_of S (Read n x) G ≡ granted
  unfolding held_back holds_back
  served G g B gone =
      ap (λ (o : Outcome). o.answer.code)
      (version_reads S G g n s (record { inside = B.alive.0; alive = B.alive.1; name = B.name }) (live-reader (txn G.txns s) B.alive.1 B.reader) x known B.not_own
      (is_false (held_back S G.txns G.locks x s) (λ h. none (some_below→ S.slots (holds_back G.txns G.locks x s) h))))
    where
      none : (b : ℕ) × (b < S.slots) × T (holds_back G.txns G.locks x s b) → ⊥
      none (b, i, h) =
          let d : s ≢ b = λ e. not_use (eqb s b) (and_left (not (eqb s b)) _ h) (subst (λ (m : ℕ). T (eqb s m)) e (true_is (eq-eqb s s refl))) in
          let w = and_right (not (eqb s b)) _ h in
          let p = and_right (holds_exclusive (lock G.locks x) b) _ w in
          let k = settled-live (txn G.txns b) (and_left (live_settled (txn G.txns b)) _ p) in
          gone (txn G.txns b).number
          (B.only b (λ e. d (sym e)) ((i, k.0), k.1) (leb→le _ _ (and_right (live_settled (txn G.txns b)) _ p)) (and_left (holds_exclusive (lock G.locks x) b) _ w)) b
          (record { inside = i; alive = k.0; name = refl })

-- ---- the answer 1 to a reader
-- what was tested before
tested :
    (S : Sizes) (G : Tables) (c : Call)
    → Answered S c G (BadTables ∷ UnknownTransaction ∷ UnknownItem ∷ QueryMayNotWrite ∷ StillWaiting ∷ PastWriting ∷ QuotaSpent ∷ Deadlock ∷ Wait ∷ []) (code Wait)
    → (When S c G UnknownItem → ⊥) × When S c G Wait
unfolding Answered
tested S G c (inl p) = absurd (let e = p.1 in omega arith)
tested S G c (inr (a, inl p)) = absurd (let e = p.1 in omega arith)
tested S G c (inr (a, inr (b, inl p))) = absurd (let e = p.1 in omega arith)
tested S G c (inr (a, inr (b, inr (d, inl p)))) = absurd (let e = p.1 in omega arith)
tested S G c (inr (a, inr (b, inr (d, inr (e, inl p))))) = absurd (let z = p.1 in omega arith)
tested S G c (inr (a, inr (b, inr (d, inr (e, inr (f, inl p)))))) = absurd (let z = p.1 in omega arith)
tested S G c (inr (a, inr (b, inr (d, inr (e, inr (f, inr (h, inl p))))))) = absurd (let z = p.1 in omega arith)
tested S G c (inr (a, inr (b, inr (d, inr (e, inr (f, inr (h, inr (i, inl p)))))))) = absurd (let z = p.1 in omega arith)
tested S G c (inr (a, inr (b, inr (d, inr (e, inr (f, inr (h, inr (i, inr (j, inl p))))))))) = (d, p.0)
tested S G c (inr (a, inr (b, inr (d, inr (e, inr (f, inr (h, inr (i, inr (j, inr (k, p)))))))))) = absurd (omega arith)

-- those who hold it back then are before it
first : (S : Sizes) (G : Tables) (n s x : ℕ) → Back (λ m. T true) n s x (seen S G) → Back (Before S G s x) n s x (seen S G)
unfolding holds
first S G n s x B =
    record {
      alive = B.alive;
      reader = B.reader;
      strict = B.strict;
      name = B.name;
      not_own = B.not_own;
      only = λ b d p l h.
          record {
            slot = b;
            caller = record { inside = p.0.0; alive = p.0.1; name = refl };
            other = d;
            there = inl (or_right (holds_shared (lock G.locks x) b) _ h);
          };
    }

module _ (S : Sizes) (enough : S.slots ≤ S.places) (G : Tables) (g : Good S G) (n s x : ℕ) (C : Caller S G n s) (q : T (by_start (txn G.txns s))) where
  -- no update calls
  held : (c : Call) → Names c n → When S c G Wait → (y : ℕ) × HeldBackIn c S G s y
  unfolding When
  held c m = λ w. ⊎_elim
      (λ p. absurd ((reader-live (txn G.txns s) (start-reads (txn G.txns s) q)).1 (ap (λ (r : ℕ). (txn G.txns r).kind) (sym (here p.0 p.3.caller)) ∙ (update-live (txn G.txns p.0) p.3.update).1)))
      (λ p. (p.1, subst (λ (r : ℕ). HeldBackIn c S G r p.1) (here p.0 p.2.caller) p.2))
      w
    where
      here : (r : ℕ) → CallerIn c S G r → r ≡ s
      here r R = one_caller S G g c r s R (record { inside = C.inside; alive = C.alive; named = subst (Names c) (sym C.name) m })

  -- a write never is held back
  only-reads : (u : ℕ) → code_of S (Write n x u) G ≡ code Wait → ⊥
  unfolding order then_tested
  only-reads u z =
      let h = held (Write n x u) refl (tested S G (Write n x u) ((code_exactly S (Write n x u) G (code Wait)).0 z)).1 in
      let e = h.1.wants.0 in
      omega arith

  module _ (z : code_of S (Read n x) G ≡ code Wait) where
    facts : (When S (Read n x) G UnknownItem → ⊥) × When S (Read n x) G Wait
    unfolding order then_tested
    facts = tested S G (Read n x) ((code_exactly S (Read n x) G (code Wait)).0 z)

    known : x < S.items
    unfolding When
    known = go (leb S.items x) refl
      where
        go : (b : Bool) → leb S.items x ≡ b → x < S.items
        go true e = absurd (facts.0 (shared_lock, x, (refl, refl), leb-true S.items x e))
        go false e = leb-false S.items x e

    back : Back (λ m. T true) n s x (seen S G)
    back =
        let h = held (Read n x) refl facts.1 in
        record {
          alive = (C.inside, C.alive);
          reader = (reader-live (txn G.txns s) (start-reads (txn G.txns s) q)).1;
          strict = start_not_relaxed (txn G.txns s) q;
          name = C.name;
          not_own = λ w. h.1.not_own (subst (λ (y : ℕ). T (holds_exclusive (lock G.locks y) s)) h.1.wants.1 w);
          only = λ b d p l w. tt;
        }

    read-served : (cs : List Call) → let H = after S (Read n x) G in Supposed S H n s x cs → code_of S (Read n x) (end_of S cs H) ≡ granted
    read-served cs p =
        let H = after S (Read n x) G in
        let D = Before S H s x in
        let h = keeps S enough (Read n x) G g in
        let B = first S H n s x (one_call S enough (λ m. T true) n s x known (Read n x) G g back (λ m e. omega arith)) in
        served S enough D n s x known (end_of S cs H) (good-run S enough cs H h) (run-keeps S enough D n s x known cs H h B p.waits) p.ended

  pub reader-served :
      (a : Asked) (u v : ℕ) (cs : List Call) → code_of S (asking a n x u) G ≡ code Wait → let H = after S (asking a n x u) G in Supposed S H n s x cs
      → code_of S (asking a n x v) (end_of S cs H) ≡ granted
  reader-served to_read u v cs z p = read-served z cs p
  reader-served to_write u v cs z p = absurd (only-reads u z)
