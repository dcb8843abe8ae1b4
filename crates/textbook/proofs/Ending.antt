-- The nodes are told by the tables before each call: a live query's row has the start that its begin gave it.
use Prim.Native.Nat.{ℕ, ◌+◌, ◌≤◌}
use mathlib.Core.Path.{◌≡◌, refl, sym, ap, ◌∙◌, subst}
use mathlib.Core.Logic.{◌≢◌, ◌⊎◌, inl, inr}
use mathlib.Core.Bool.{Bool, false, cond}
use mathlib.Core.List.{List, [], ◌∷◌, ◌++◌, append_assoc}
use native.Mathlib.Omega.{arith}
use lib.Dec.{T, eqb}
use borrow.Author.Tests.{eq-eqb, ne_eqb}
use Rattle.names.specs.declared.Sizes.{Sizes}
use Rattle.names.specs.declared.Answer.{Answer}
use Rattle.rules.specs.Tables.{Tables, clock, Txn, txn, slot_of, an_update, a_query, a_settled, a_relaxed, fresh, any_query, live_query, live_relaxed}
use Rattle.rules.specs.Good.{Good}
use Rattle.rules.specs.Answers.{Call, BeginUpdate, BeginQuery, Read, Write, Commit, Abort, Settle, BeginRelaxed, granted, Deed}
use Rattle.rules.specs.Step.{done, step, version_read}
use Rattle.rules.specs.Conditions.{Caller}
use Rattle.rules.proofs.Tests.{same?}
use Rattle.rules.proofs.RowKinds.{update-live, query-live, settled-live, relaxed-live, query_cases}
use Rattle.rules.proofs.Callers.{caller-found}
use Rattle.rules.proofs.Keeps.{keeps}
use Rattle.rules.proofs.Fresh.{fresh-good}
use Rattle.rules.proofs.Ways.{refusal-code, Way, refused, waited, kept_waiting, began_update, began_query, began_relaxed, read_own, read_newest, read_shared, read_settled, read_version}
use Rattle.rules.proofs.Ways.{wrote_own, wrote_settled, wrote_taken, committed_update, committed_empty, committed_settled, committed_query, aborted_update, aborted_settled, aborted_query, settled_update}
use Rattle.history.specs.Runs.{run, end_of}
use Rattle.history.specs.Happened.{SoFar, none_so_far, Happening, happened, begun_with, clock_after, happenings_after, happenings}
use Rattle.history.specs.Serial.{Entry}
use Rattle.history.proofs.Order.{All, all_map, all_absent}
use Rattle.history.proofs.Invariant.{View, Fair, Row, query}
use Rattle.history.proofs.Turns.{New, Left, Turn, quiet, update_begins, query_begins, relaxed_begins, reads, writes, commits, commits_empty, settles, commits_settled, ends, clock_on}
use Rattle.history.proofs.Marked.{Known}
use Rattle.history.proofs.Tables.{fresh-clock}
use Rattle.history.proofs.Seen.{seen, seen_fair}
use Rattle.history.proofs.Happens.{silent, grants, plainly, commits_as, happens, step-known, step_turn, nobody, fresh-known}
use Rattle.textbook.specs.Nodes.{under_stamp, after_stamp, queries_with, bearing, node_of, nodes_from, nodes}
use Rattle.textbook.specs.Ending.{of_query, of_update, of_commit, ending, endings}
use Rattle.textbook.specs.Promises.{ToldByTables}
use Rattle.textbook.proofs.Steps.{by_way}
use Rattle.textbook.proofs.Once.{bearing_none}

-- ---- what is known of the queries that began, of the view W
pub record Rows (qs : List Entry) (W : View) : Type 0 where
  pub given : All (λ p n. n ≤ W.last) qs
  -- a live query is among them, at its start; nobody else who lives is
  pub asks : (s : ℕ) → W.alive s → W.kind s ≡ a_query → bearing (W.number s) qs ≡ after_stamp (W.number s) (W.start s) ∷ []
  pub others : (s : ℕ) → W.alive s → W.kind s ≢ a_query → bearing (W.number s) qs ≡ []

module _ (items : ℕ) (W W' : View) (F : Fair items W) (qs : List Entry) (B : Rows qs W) where
  given_on : W.last ≤ W'.last → All (λ p n. n ≤ W'.last) qs
  given_on l = all_map _ _ (λ p n h. let a : n ≤ W.last = h in omega arith) qs B.given

  -- a slot whose row stays
  asks_on : (r : ℕ) → Row W W' r → W'.alive r → W'.kind r ≡ a_query → bearing (W'.number r) qs ≡ after_stamp (W'.number r) (W'.start r) ∷ []
  asks_on r R a k =
      ap (λ (n : ℕ). bearing n qs) R.number_is ∙ B.asks r (R.was a) (sym R.kind_is ∙ k)
      ∙ (λ i. after_stamp (sym R.number_is i) (sym R.start_is i) ∷ [])

  others_on : (r : ℕ) → Row W W' r → W'.alive r → W'.kind r ≢ a_query → bearing (W'.number r) qs ≡ []
  others_on r R a k = ap (λ (n : ℕ). bearing n qs) R.number_is ∙ B.others r (R.was a) (λ z. k (R.kind_is ∙ z))

  all_stay : W.last ≤ W'.last → ((r : ℕ) → Row W W' r) → Rows qs W'
  all_stay l R = record { given = given_on l; asks = λ r. asks_on r (R r); others = λ r. others_on r (R r) }

  one_leaves : (s : ℕ) → Left items W W' s → Rows qs W'
  one_leaves s L =
      record {
        given = given_on (let a = L.last in omega arith);
        asks = λ r a k. asks_on r (L.rows r (still r a)) a k;
        others = λ r a k. others_on r (L.rows r (still r a)) a k;
      }
    where
      still : (r : ℕ) → W'.alive r → r ≢ s
      still r a e = L.gone (subst (λ (m : ℕ). W'.alive m) e a)

  -- one that is no query, in slot s, with a row of its own
  one_else : (s : ℕ) → W.last ≤ W'.last → ((r : ℕ) → r ≢ s → Row W W' r) → W'.kind s ≢ a_query → bearing (W'.number s) qs ≡ [] → Rows qs W'
  one_else s l R k e = record { given = given_on l; asks = λ r a z. asked r (same? r s) a z; others = λ r a z. else r (same? r s) a z }
    where
      asked : (r : ℕ) → (r ≡ s) ⊎ (r ≢ s) → W'.alive r → W'.kind r ≡ a_query → bearing (W'.number r) qs ≡ after_stamp (W'.number r) (W'.start r) ∷ []
      asked r (inl y) a z = absurd (k (sym (ap W'.kind y) ∙ z))
      asked r (inr d) a z = asks_on r (R r d) a z

      else : (r : ℕ) → (r ≡ s) ⊎ (r ≢ s) → W'.alive r → W'.kind r ≢ a_query → bearing (W'.number r) qs ≡ []
      else r (inl y) a z = ap (λ (m : ℕ). bearing (W'.number m) qs) y ∙ e
      else r (inr d) a z = others_on r (R r d) a z

  new_none : (s : ℕ) → New items W W' s → bearing (W'.number s) qs ≡ []
  new_none s N =
      ap (λ (n : ℕ). bearing n qs) N.number
      ∙ bearing_none (W.last + 1) qs (all_absent (W.last + 1) qs (all_map _ _ (λ p n h z. let a : n ≤ W.last = h in omega arith) qs B.given))

  -- a query begins, in slot s
  one_asks : (s : ℕ) → New items W W' s → query W' s → W'.start s ≡ W.clock → Rows (after_stamp (W.last + 1) W.clock ∷ qs) W'
  unfolding All bearing
  one_asks s N q z =
      record {
        given = (let a = N.last in omega arith, given_on (let a = N.last in omega arith));
        asks = λ r a k. asked r (same? r s) a k;
        others = λ r a k. else r (same? r s) a k;
      }
    where
      apart : (r : ℕ) → r ≢ s → W'.alive r → eqb (W.last + 1) (W'.number r) ≡ false
      apart r d a = ne_eqb (W.last + 1) (W'.number r) (λ y. let b = F.known r ((N.rows r d).was a) in let c = (N.rows r d).number_is in omega arith)

      asked : (r : ℕ) → (r ≡ s) ⊎ (r ≢ s) → W'.alive r → W'.kind r ≡ a_query
          → cond (eqb (W.last + 1) (W'.number r)) (after_stamp (W.last + 1) W.clock ∷ bearing (W'.number r) qs) (bearing (W'.number r) qs) ≡ after_stamp (W'.number r) (W'.start r) ∷ []
      asked r (inl y) a k =
          let e : W'.number r ≡ W.last + 1 = ap W'.number y ∙ N.number in
          rw (eq-eqb (W.last + 1) (W'.number r) (sym e))
          (ap (λ (l : List Entry). after_stamp (W.last + 1) W.clock ∷ l) (ap (λ (m : ℕ). bearing (W'.number m) qs) y ∙ new_none s N)
          ∙ (λ i. after_stamp (sym e i) ((sym (ap W'.start y ∙ z)) i) ∷ []))
      asked r (inr d) a k = rw (apart r d a) (asks_on r (N.rows r d) a k)

      else : (r : ℕ) → (r ≡ s) ⊎ (r ≢ s) → W'.alive r → W'.kind r ≢ a_query
          → cond (eqb (W.last + 1) (W'.number r)) (after_stamp (W.last + 1) W.clock ∷ bearing (W'.number r) qs) (bearing (W'.number r) qs) ≡ []
      else r (inl y) a k = absurd (k (ap W'.kind y ∙ q.1))
      else r (inr d) a k = rw (apart r d a) (others_on r (N.rows r d) a k)

  rows_on : {c : Call} {h : Happening} → Turn items W W' c h → Rows (queries_with W.clock h qs) W'
  unfolding queries_with
  rows_on (quiet A) = all_stay (let a = A.last in omega arith) A.rows
  rows_on (update_begins s N k f) = one_else s (let a = N.last in omega arith) N.rows (λ z. omega arith) (new_none s N)
  rows_on (query_begins s N q z f) = one_asks s N q z
  rows_on (relaxed_begins s N q f) = one_else s (let a = N.last in omega arith) N.rows (λ z. let k = q.1 in omega arith) (new_none s N)
  rows_on (reads n s x v e b A g) = all_stay (let a = A.last in omega arith) A.rows
  rows_on (writes n s x v e b P) = all_stay (let a = P.last in omega arith) P.rows
  rows_on (commits n s e a u L o f t) = one_leaves s L
  rows_on (commits_empty n s e a u w L o f t) = one_leaves s L
  rows_on (settles n s e P) =
      one_else s (let a = P.last in omega arith) P.rows (λ z. let k = P.kind in omega arith)
      (ap (λ (m : ℕ). bearing m qs) P.number ∙ B.others s P.update.0 (λ z. let k = P.update.1 in omega arith))
  rows_on (commits_settled n s e a u L o f t) = one_leaves s L
  rows_on (ends n s e a L o f t) = one_leaves s L

-- ---- the definition, by kinds
query-commit : (n : ℕ) (o : Txn) (c d : ℕ) → o.kind ≡ a_query → of_commit n o c d ≡ after_stamp n o.start ∷ []
unfolding of_commit of_query
query-commit n o c d k = rw (eq-eqb o.kind a_query k)

relaxed-commit : (n : ℕ) (o : Txn) (c d : ℕ) → o.kind ≡ a_relaxed → of_commit n o c d ≡ []
unfolding of_commit of_query
relaxed-commit n o c d k = rw (ne_eqb o.kind a_query (λ z. omega arith), eq-eqb o.kind a_relaxed k)

update-commit : (n : ℕ) (o : Txn) (c d : ℕ) → o.kind ≡ an_update → of_commit n o c d ≡ cond (eqb d c) (after_stamp n d ∷ []) (under_stamp n d ∷ [])
unfolding of_commit of_update
update-commit n o c d k =
    rw (ne_eqb o.kind a_query (λ z. omega arith), ne_eqb o.kind a_relaxed (λ z. omega arith), eq-eqb o.kind an_update k)

past-commit : (n : ℕ) (o : Txn) (c d : ℕ) → o.kind ≡ a_settled → of_commit n o c d ≡ under_stamp n d ∷ []
unfolding of_commit of_update
past-commit n o c d k =
    rw (ne_eqb o.kind a_query (λ z. omega arith), ne_eqb o.kind a_relaxed (λ z. omega arith), ne_eqb o.kind an_update (λ z. omega arith))

query_end : (n : ℕ) (o : Txn) → o.kind ≡ a_query → of_query n o ≡ after_stamp n o.start ∷ []
unfolding of_query
query_end n o k = rw (eq-eqb o.kind a_query k)

else_end : (n : ℕ) (o : Txn) → o.kind ≢ a_query → of_query n o ≡ []
unfolding of_query
else_end n o k = rw (ne_eqb o.kind a_query k)

-- ---- every way that a call can go
module _ (S : Sizes) (enough : S.slots ≤ S.places) (G : Tables) (g : Good S G) (qs : List Entry) (B : Rows qs (seen S G)) where
  abbrev t : List ℕ
  t = G.txns

  not_granted : (c : Call) (r : Answer) → r.code ≢ granted → [] ≡ ending S G c r
  unfolding ending
  not_granted (Commit n) r d = sym (ap (λ (b : Bool). cond b (of_commit n (txn t (slot_of S t n)) (clock t) r.number) []) (ne_eqb r.code granted d))
  not_granted (Abort n) r d = sym (ap (λ (b : Bool). cond b (of_query n (txn t (slot_of S t n))) []) (ne_eqb r.code granted d))
  not_granted BeginUpdate r d = refl
  not_granted BeginQuery r d = refl
  not_granted BeginRelaxed r d = refl
  not_granted (Read n x) r d = refl
  not_granted (Write n x v) r d = refl
  not_granted (Settle n) r d = refl

  -- the row of the caller
  module _ (n s : ℕ) (C : Caller S G n s) where
    at_slot : txn t s ≡ txn t (slot_of S t n)
    at_slot = ap (txn t) (sym (caller-found S G g s n C.inside C.alive C.name))

    commit_is : (d : ℕ) (l : List Entry) → of_commit n (txn t s) (clock t) d ≡ l → l ≡ of_commit n (txn t (slot_of S t n)) (clock t) d
    commit_is d l e = sym e ∙ ap (λ (o : Txn). of_commit n o (clock t) d) at_slot

    end_is : (l : List Entry) → of_query n (txn t s) ≡ l → l ≡ of_query n (txn t (slot_of S t n))
    end_is l e = sym e ∙ ap (of_query n) at_slot

    asked : (txn t s).kind ≡ a_query → bearing n qs ≡ after_stamp n (txn t s).start ∷ []
    asked k =
        ap (λ (m : ℕ). bearing m qs) (sym C.name) ∙ B.asks s (C.inside, C.alive) k ∙ ap (λ (m : ℕ). after_stamp m (txn t s).start ∷ []) C.name

    unasked : (txn t s).kind ≢ a_query → bearing n qs ≡ []
    unasked k = ap (λ (m : ℕ). bearing m qs) (sym C.name) ∙ B.others s (C.inside, C.alive) k

    query-commits : (d : ℕ) → T (any_query (txn t s)) → bearing n qs ≡ of_commit n (txn t (slot_of S t n)) (clock t) d
    query-commits d q = go (query_cases (txn t s) q)
      where
        go : T (live_query (txn t s)) ⊎ T (live_relaxed (txn t s)) → bearing n qs ≡ of_commit n (txn t (slot_of S t n)) (clock t) d
        go (inl a) = let k = (query-live (txn t s) a).1 in asked k ∙ commit_is d _ (query-commit n (txn t s) (clock t) d k)
        go (inr a) =
            let k = (relaxed-live (txn t s) a).1 in
            unasked (λ z. omega arith) ∙ commit_is d _ (relaxed-commit n (txn t s) (clock t) d k)

    query_aborts : T (any_query (txn t s)) → bearing n qs ≡ of_query n (txn t (slot_of S t n))
    query_aborts q = go (query_cases (txn t s) q)
      where
        go : T (live_query (txn t s)) ⊎ T (live_relaxed (txn t s)) → bearing n qs ≡ of_query n (txn t (slot_of S t n))
        go (inl a) = let k = (query-live (txn t s) a).1 in asked k ∙ end_is _ (query_end n (txn t s) k)
        go (inr a) =
            let k = (relaxed-live (txn t s) a).1 in
            unasked (λ z. omega arith) ∙ end_is [] (else_end n (txn t s) (λ z. omega arith))

    else_aborts : (txn t s).kind ≢ a_query → bearing n qs ≡ of_query n (txn t (slot_of S t n))
    else_aborts k = unasked k ∙ end_is [] (else_end n (txn t s) k)

  way-ends : (c : Call) (d : Deed) (w : Way S G c d) → node_of qs (happens S enough G g c d w).what ≡ ending S G c (done S d G).answer
  unfolding happens silent grants plainly commits_as done version_read node_of ending
  way-ends c d (refused r m) = not_granted c _ (refusal-code r)
  way-ends c d (waited r k x w) = not_granted c _ (λ z. omega arith)
  way-ends c d (kept_waiting r C q) = not_granted c _ (λ z. omega arith)
  way-ends c d (began_update r F l) = refl
  way-ends c d (began_query r F l) = refl
  way-ends c d (began_relaxed r F l a) = refl
  way-ends c d (read_own n s x U h) = refl
  way-ends c d (read_newest n s x U h) = refl
  way-ends c d (read_shared n s x U h e) = refl
  way-ends c d (read_settled n s x C p i h) = refl
  way-ends c d (read_version n s x C q i o e) = refl
  way-ends c d (wrote_own n r x v U e) = refl
  way-ends c d (wrote_settled n r x v C p i e) = refl
  way-ends c d (wrote_taken n r x v U e a q) = refl
  way-ends c d (committed_update n s C u i l w) =
      commit_is n s C (clock t + 1) _ (update-commit n (txn t s) (clock t) (clock t + 1) (update-live (txn t s) u).1 ∙ rw (ne_eqb (clock t + 1) (clock t) (λ z. omega arith)))
  way-ends c d (committed_empty n s C u i e) =
      commit_is n s C (clock t) _ (update-commit n (txn t s) (clock t) (clock t) (update-live (txn t s) u).1 ∙ rw (eq-eqb (clock t) (clock t) refl))
  way-ends c d (committed_settled n s C p) = commit_is n s C (txn t s).start _ (past-commit n (txn t s) (clock t) (txn t s).start (settled-live (txn t s) p).1)
  way-ends c d (committed_query n s C q) = query-commits n s C _ q
  way-ends c d (aborted_update n s C u) = else_aborts n s C (λ z. let k = (update-live (txn t s) u).1 in omega arith)
  way-ends c d (aborted_settled n s C p) = else_aborts n s C (λ z. let k = (settled-live (txn t s) p).1 in omega arith)
  way-ends c d (aborted_query n s C q) = query_aborts n s C q
  way-ends c d (settled_update n s C u i l a) = refl

  step-ends : (c : Call) (us : SoFar) → Known S.items us (seen S G) → node_of qs (happened us c (step S c G).answer) ≡ ending S G c (step S c G).answer
  step-ends = by_way S enough G g (λ c h o. node_of qs h ≡ ending S G c o.answer) way-ends

-- ---- of every run
module _ (S : Sizes) (enough : S.slots ≤ S.places) where
  ends-from :
      (cs : List Call) (us : SoFar) (qs : List Entry) (G : Tables) → Good S G → Known S.items us (seen S G) → Rows qs (seen S G)
      → nodes_from (clock G.txns) qs (happenings_after us (run S cs G)) ≡ endings S cs G
  unfolding run happenings_after nodes_from endings
  ends-from [] us qs G g K B = refl
  ends-from (c ∷ cs) us qs G g K B =
      let h = happened us c (step S c G).answer in
      let G' = (step S c G).after in
      let tr = step_turn S enough c G g us K in
      let F = seen_fair S G g in
      let hs = happenings_after (begun_with h us) (run S cs G') in
      ap (λ (l : List Entry). l ++ nodes_from (clock_after (clock G.txns) h) (queries_with (clock G.txns) h qs) hs) (step-ends S enough G g qs B c us K)
      ∙ ap (λ (l : List Entry). ending S G c (step S c G).answer ++ l)
      (ap (λ (k : ℕ). nodes_from k (queries_with (clock G.txns) h qs) hs) (sym (clock_on S.items (seen S G) (seen S G') F tr))
      ∙ ends-from cs (begun_with h us) (queries_with (clock G.txns) h qs) G' (keeps S enough c G g) (step-known S enough c G g us K)
      (rows_on S.items (seen S G) (seen S G') F qs B tr))

  pub told_by_tables : (room : 1 ≤ S.places) (cs : List Call) → ToldByTables S cs
  unfolding nodes happenings All
  told_by_tables room cs =
      ap (λ (k : ℕ). nodes_from k [] (happenings_after none_so_far (run S cs (fresh S)))) (sym (fresh-clock S))
      ∙ ends-from cs none_so_far [] (fresh S) (fresh-good S room) (fresh-known S enough room)
      (record { given = tt; asks = λ s a k. absurd (nobody S enough room s a.0 a.1); others = λ s a k. absurd (nobody S enough room s a.0 a.1) })

-- one list of calls after another
pub endings-append : (S : Sizes) (cs ds : List Call) (G : Tables) → endings S (cs ++ ds) G ≡ endings S cs G ++ endings S ds (end_of S cs G)
unfolding endings end_of
endings-append S [] ds G = refl
endings-append S (c ∷ cs) ds G =
    let o = step S c G in
    ap (λ (l : List Entry). ending S G c o.answer ++ l) (endings-append S cs ds o.after)
    ∙ sym (append_assoc (ending S G c o.answer) (endings S cs o.after) (endings S ds (end_of S cs o.after)))
