-- What a query's end answers: its row holds the count and the sum of the reads that were granted to it since its begin (`Tally`), whatever
-- others call, until it ends.
use Prim.Native.Nat.{ℕ, ◌+◌, ◌≤◌, ◌<◌}
use mathlib.Core.Path.{◌≡◌, refl, sym, ap, ◌∙◌, subst}
use mathlib.Core.Logic.{◌≢◌, ◌⊎◌, inl, inr, ⊎_elim}
use mathlib.Core.Bool.{Bool, true, false, ◌&&◌, cond}
use mathlib.Core.List.{List, [], ◌∷◌}
use native.Mathlib.Omega.{arith}
use native.Mathlib.Nat.{add-zero, add_assoc}
use lib.ListN.{length}
use lib.Dec.{T, eqb}
use borrow.Author.Tests.{eq-eqb, ne_eqb}
use Rattle.names.specs.declared.Sizes.{Sizes}
use Rattle.names.specs.declared.Answer.{Answer}
use Rattle.names.specs.Answers.{found}
use Rattle.names.specs.Sizes.{first_stamp}
use Rattle.names.specs.Words.{held_at_last}
use Rattle.rules.specs.Tables.{Tables, txn_words, with_later_for, last_number, clock, Txn, txn, new_txn, live, live_update, any_query, live_settled, query_kind, an_update, a_query, a_settled, a_relaxed, fresh}
use Rattle.rules.specs.Good.{Good}
use Rattle.rules.specs.Answers.{Call, BeginUpdate, BeginQuery, Read, Write, Commit, Abort, Settle, BeginRelaxed, Outcome, refuses, granted, code, UnknownTransaction, Deed, Wait}
use Rattle.rules.specs.Step.{begun, version_read, with_txns, counted, read_noted, ended, judged, done, act, step}
use Rattle.rules.specs.Conditions.{Names, CallerIn}
use Rattle.rules.specs.Changed.{looked_at}
use Rattle.rules.specs.Promises.{SameButRank}
use Rattle.rules.proofs.Tests.{eq_make, and_both, true_is, false_is}
use Rattle.rules.proofs.Steps.{acts}
use Rattle.rules.proofs.Views.{reading}
use Rattle.rules.proofs.EqualRows.{live-number, number-live, update-live, settled-live}
use Rattle.rules.proofs.Callers.{Caller, Free, caller-found}
use Rattle.rules.proofs.Counting.{held_on, tallied, counted_same, counted_here}
use Rattle.rules.proofs.ReadNoted.{with_items, read_length, read_keeps, holder_inside}
use Rattle.rules.proofs.Calls.{query-commits, query_aborts}
use Rattle.rules.proofs.Keeps.{keeps}
use Rattle.rules.proofs.Waiting.{named?, one_caller, same_row, others_leave}
use Rattle.rules.proofs.Judged.{way}
use Rattle.rules.proofs.Ways.{refusal-code, Way, refused, waited, kept_waiting, began_update, began_query, began_relaxed, read_own, read_newest, read_shared, read_settled, read_version}
use Rattle.rules.proofs.Ways.{wrote_own, wrote_settled, wrote_taken, committed_update, committed_empty, committed_settled, committed_query, aborted_update, aborted_settled, aborted_query, settled_update}
use Rattle.history.specs.Runs.{Event, run, end_of}
use Rattle.history.specs.Happened.{names}
use Rattle.history.specs.Weighed.{asks_to_read, granted_read, counts, weighs, sum_over, EndWeighs}
use Rattle.history.proofs.Tables.{begun_here}
use Rattle.history.proofs.Seen.{seen, seen_fair}
use Rattle.history.proofs.Endings.{end_turn}
use Rattle.history.proofs.Happens.{good-run, run-good}
use Rattle.history.proofs.Standing.{Unknown, over-unknown}
use Rattle.history.proofs.Replies.{unknown-answer, unknown-step}

-- the query n in slot s was granted a reads so far, which weigh b
pub record Tally (S : Sizes) (n s a b : ℕ) (G : Tables) : Type 0 where
  pub caller : Caller S G n s
  pub query : query_kind (txn G.txns s).kind ≡ true
  pub count : (txn G.txns s).read_count ≡ held_at_last a
  pub sum : (txn G.txns s).weight_sum ≡ held_at_last b

-- the call with its answer
abbrev event : Call → Outcome → Event
event c o = record { call = c; answer = o.answer }

and_no : (a : Bool) → (a && false) ≡ false
and_no true = refl
and_no false = refl

-- ---- what is no granted read of n counts nothing
module _ (n : ℕ) where
  -- a call that does not name it; one that is not granted
  asks-other : (c : Call) → (Names c n → ⊥) → asks_to_read n c ≡ false
  unfolding asks_to_read
  asks-other BeginUpdate d = refl
  asks-other BeginQuery d = refl
  asks-other (Read m x) d = ne_eqb m n d
  asks-other (Write m x v) d = refl
  asks-other (Commit m) d = refl
  asks-other (Abort m) d = refl
  asks-other (Settle m) d = refl
  asks-other BeginRelaxed d = refl

  read-other : (c : Call) (o : Outcome) → (Names c n → ⊥) → granted_read n (event c o) ≡ false
  unfolding granted_read
  read-other c o d = rw (asks-other c d)

  read-refused : (c : Call) (o : Outcome) → o.answer.code ≢ granted → granted_read n (event c o) ≡ false
  unfolding granted_read
  read-refused c o d = ap (λ (b : Bool). asks_to_read n c && b) (ne_eqb o.answer.code granted d) ∙ and_no (asks_to_read n c)

  read-granted : (x : ℕ) (o : Outcome) → o.answer.code ≡ granted → granted_read n (event (Read n x) o) ≡ true
  unfolding granted_read asks_to_read
  read-granted x o e = rw (eq-eqb n n refl, eq-eqb o.answer.code granted e)

-- ---- over a call
module _ (S : Sizes) (enough : S.slots ≤ S.places) (n s a b : ℕ) (G : Tables) (g : Good S G) (Y : Tally S n s a b G) where
  abbrev t : List ℕ
  t = G.txns

  -- it lives on, with one read more where one was granted to it, or it ended
  abbrev After : Call → Outcome → Type 0
  After c o = Tally S n s (a + counts n (event c o)) (b + weighs n (event c o)) o.after ⊎ Unknown n (seen S o.after)

  -- nothing is counted, and of its row all is as it was but for the rank
  uncounted : (c : Call) (o : Outcome) → granted_read n (event c o) ≡ false → SameButRank (txn o.after.txns s) (txn t s) → After c o
  unfolding counts weighs
  uncounted c o e r =
      inl
      (rw (e, add-zero a, add-zero b)
      (record {
        caller =
            record {
              inside = Y.caller.inside;
              alive = number-live (txn o.after.txns s) (λ z. live-number (txn t s) Y.caller.alive (sym (ap (λ (w : Txn). w.number) r) ∙ z));
              name = ap (λ (w : Txn). w.number) r ∙ Y.caller.name;
            };
        query = ap (λ (w : Txn). query_kind w.kind) r ∙ Y.query;
        count = ap (λ (w : Txn). w.read_count) r ∙ Y.count;
        sum = ap (λ (w : Txn). w.weight_sum) r ∙ Y.sum;
      }))

  -- whoever bears its number is it, and a query
  no_query : {j k : ℕ} → j ≡ k → query_kind k ≡ false → query_kind j ≡ true → ⊥
  no_query {j} e a b = false_is (ap query_kind e ∙ a) (true_is b)

  it : (m r : ℕ) → m ≡ n → Caller S G m r → r ≡ s
  it m r e C =
      sym (caller-found S G g r m C.inside C.alive C.name)
      ∙ caller-found S G g s m Y.caller.inside Y.caller.alive (Y.caller.name ∙ sym e)

  no_update : (m r : ℕ) → m ≡ n → Caller S G m r → T (live_update (txn t r)) → ⊥
  no_update m r e C u =
      let k = subst (λ (j : ℕ). (txn t j).kind ≡ an_update) (it m r e C) (update-live (txn t r) u).1 in
      no_query k (unfold query_kind in refl) Y.query

  no_settled : (m r : ℕ) → m ≡ n → Caller S G m r → T (live_settled (txn t r)) → ⊥
  no_settled m r e C u =
      let k = subst (λ (j : ℕ). (txn t j).kind ≡ a_settled) (it m r e C) (settled-live (txn t r) u).1 in
      no_query k (unfold query_kind in refl) Y.query

  -- its read is counted
  read_on : (x : ℕ) → x < S.items → After (Read n x) (version_read S s x G)
  unfolding version_read counts weighs
  read_on x known = inl (rw (read-granted n x (version_read S s x G) refl) more)
    where
      k : ℕ
      k = looked_at S G s x

      -- what is noted besides is not counted
      u : List ℕ
      u = read_noted t G.locks s x

      usize : length (read_noted t G.locks s x) ≡ txn_words S
      usize = read_length S t G.locks s x g.txns_exact Y.caller.inside (holder_inside S G g s Y.caller.inside x known) ∙ g.txns_exact

      unnoted :
          {A : Type 0} (h : Txn → A) → ((r : Txn) (v : ℕ) → h (with_later_for r v) ≡ h r) → ((r : Txn) (v : ℕ) → h (with_items r v) ≡ h r)
          → h (txn (read_noted t G.locks s x) s) ≡ h (txn t s)
      unnoted h e f = read_keeps S t G.locks s x g.txns_exact Y.caller.inside (holder_inside S G g s Y.caller.inside x known) h e f s

      same :
          {A : Type 0} (h : Txn → A) → ((r : Txn) (n w : ℕ) → h (reading r n w) ≡ h r) → ((r : Txn) (v : ℕ) → h (with_later_for r v) ≡ h r)
          → ((r : Txn) (v : ℕ) → h (with_items r v) ≡ h r) → h (txn (counted (read_noted t G.locks s x) s k) s) ≡ h (txn t s)
      same h e f i = counted_same u s k S usize Y.caller.inside h e s ∙ unnoted h f i

      here : txn (counted (read_noted t G.locks s x) s k) s ≡ tallied (txn (read_noted t G.locks s x) s) k
      here = counted_here u s k S usize Y.caller.inside

      query : query_kind (txn u s).kind ≡ true
      query = unnoted (λ (r : Txn). query_kind r.kind) (λ r v. refl) (λ r v. refl) ∙ Y.query

      more : Tally S n s (a + 1) (b + k) (with_txns G (counted (read_noted t G.locks s x) s k))
      more =
          record {
            caller =
                record {
                  inside = Y.caller.inside;
                  alive = number-live (txn (counted u s k) s) (λ z. live-number (txn t s) Y.caller.alive (sym (same (λ (r : Txn). r.number) (λ r n w. refl) (λ r v. refl) (λ r v. refl)) ∙ z));
                  name = same (λ (r : Txn). r.number) (λ r n w. refl) (λ r v. refl) (λ r v. refl) ∙ Y.caller.name;
                };
            query = same (λ (r : Txn). query_kind r.kind) (λ r n w. refl) (λ r v. refl) (λ r v. refl) ∙ Y.query;
            count =
                ap (λ (r : Txn). r.read_count) here
                ∙ ap (λ (c : Bool). cond c (held_at_last ((txn u s).read_count + 1)) (txn u s).read_count) query
                ∙ ap (λ (m : ℕ). held_at_last (m + 1)) (unnoted (λ (r : Txn). r.read_count) (λ r v. refl) (λ r v. refl) ∙ Y.count)
                ∙ held_on a 1;
            sum =
                ap (λ (r : Txn). r.weight_sum) here
                ∙ ap (λ (c : Bool). cond c (held_at_last ((txn u s).weight_sum + k)) (txn u s).weight_sum) query
                ∙ ap (λ (m : ℕ). held_at_last (m + k)) (unnoted (λ (r : Txn). r.weight_sum) (λ r v. refl) (λ r v. refl) ∙ Y.sum)
                ∙ held_on b k;
          }

  -- its end
  end_on : (m r : ℕ) (c : Call) → m ≡ n → Caller S G m r → T (names m c) → Unknown n (seen S (ended S r G))
  end_on m r c e C i =
      subst (λ (j : ℕ). Unknown j (seen S (ended S r G))) e
      (over-unknown S.items (seen S G) (seen S (ended S r G)) m (seen_fair S G g) 0 false false (end_turn S G g enough m r C {c = c} i))

  -- ---- its own calls
  own_call : (c : Call) (d : Deed) → Way S G c d → Names c n → After c (done S d G)
  unfolding done names
  own_call c d (refused r m) e = uncounted c (refuses r G) (read-refused n c (refuses r G) (refusal-code r)) (same_row refl)
  own_call c d (waited r k x w) e =
      absurd
      (let z = one_caller S G g c r s w.caller (record { inside = Y.caller.inside; alive = Y.caller.alive; named = subst (Names c) (sym Y.caller.name) e }) in
      let u = subst (λ (j : ℕ). (txn t j).kind ≡ an_update) z (update-live (txn t r) w.update).1 in
      no_query u (unfold query_kind in refl) Y.query)
  own_call c d (kept_waiting r C q) e = uncounted c (refuses Wait G) (read-refused n c (refuses Wait G) (refusal-code Wait)) (same_row refl)
  own_call c d (began_update r f l) e = absurd e
  own_call c d (began_query r f l) e = absurd e
  own_call c d (began_relaxed r f l a) e = absurd e
  own_call c d (read_own m r x U h) e = absurd (no_update m r e U.caller U.update)
  own_call c d (read_newest m r x U h) e = absurd (no_update m r e U.caller U.update)
  own_call c d (read_shared m r x U h f) e = absurd (no_update m r e U.caller U.update)
  own_call c d (read_settled m r x C p i h) e = absurd (no_settled m r e C p)
  own_call c d (read_version m r x C q i o b) e =
      subst (λ (j : ℕ). After (Read j x) (version_read S r x G)) (sym e)
      (subst (λ (j : ℕ). After (Read n x) (version_read S j x G)) (sym (it m r e C)) (read_on x i))
  own_call c d (wrote_own m r x v U h) e = absurd (no_update m r e U.caller U.update)
  own_call c d (wrote_settled m r x v C p i h) e = absurd (no_settled m r e C p)
  own_call c d (wrote_taken m r x v U h f q) e = absurd (no_update m r e U.caller U.update)
  own_call c d (committed_update m r C u i l w) e = absurd (no_update m r e C u)
  own_call c d (committed_empty m r C u i w) e = absurd (no_update m r e C u)
  own_call c d (committed_settled m r C p) e = absurd (no_settled m r e C p)
  own_call c d (committed_query m r C q) e = inr (end_on m r c e C (eq_make m m refl))
  own_call c d (aborted_update m r C u) e = absurd (no_update m r e C u)
  own_call c d (aborted_settled m r C p) e = absurd (no_settled m r e C p)
  own_call c d (aborted_query m r C q) e = inr (end_on m r c e C (eq_make m m refl))
  own_call c d (settled_update m r C u i l a) e = absurd (no_update m r e C u)

  pub tally-step : (c : Call) → After c (step S c G)
  unfolding act
  tally-step c = go (named? c n)
    where
      go : Names c n ⊎ (Names c n → ⊥) → After c (step S c G)
      go (inl e) = subst (After c) (sym (acts S c G g)) (own_call c (judged S c G) (way S G g c) e)
      go (inr d) =
          uncounted c (step S c G) (read-other n c (step S c G) d)
          (others_leave S c G s g Y.caller.inside Y.caller.alive (λ z. d (subst (Names c) Y.caller.name z)))

-- ---- over a run
module _ (S : Sizes) (enough : S.slots ≤ S.places) (n s : ℕ) where
  tally-run :
      (cs : List Call) (a b : ℕ) (G : Tables) → Good S G → Tally S n s a b G ⊎ Unknown n (seen S G)
      → Tally S n s (a + sum_over (counts n) (run S cs G)) (b + sum_over (weighs n) (run S cs G)) (end_of S cs G) ⊎ Unknown n (seen S (end_of S cs G))
  unfolding run end_of sum_over
  tally-run [] a b G g h = rw (add-zero a, add-zero b) h
  tally-run (c ∷ cs) a b G g h =
      let e = event c (step S c G) in
      let G' = (step S c G).after in
      let k = sum_over (counts n) (run S cs G') in
      let w = sum_over (weighs n) (run S cs G') in
      subst (λ (i : ℕ). Tally S n s i (b + (weighs n e + w)) (end_of S cs G') ⊎ Unknown n (seen S (end_of S cs G')))
      (let z : a + counts n e + k ≡ a + (counts n e + k) = omega arith in z)
      (subst (λ (i : ℕ). Tally S n s (a + counts n e + k) i (end_of S cs G') ⊎ Unknown n (seen S (end_of S cs G')))
      (let z : b + weighs n e + w ≡ b + (weighs n e + w) = omega arith in z)
      (tally-run cs (a + counts n e) (b + weighs n e) G' (keeps S enough c G g) (go h)))
    where
      go : Tally S n s a b G ⊎ Unknown n (seen S G) → Tally S n s (a + counts n (event c (step S c G))) (b + weighs n (event c (step S c G))) (step S c G).after ⊎ Unknown n (seen S (step S c G).after)
      go (inl Y) = tally-step S enough n s a b G g Y c
      go (inr U) = inr (unknown-step S enough n c G g U)

  -- a query's end answers what its row holds
  tally_end :
      (a b : ℕ) (G : Tables) → Good S G → Tally S n s a b G ⊎ Unknown n (seen S G) → (c : Call) → (c ≡ Commit n) ⊎ (c ≡ Abort n)
      → (step S c G).answer.code ≡ granted → (step S c G).answer ≡ found (held_at_last b) (held_at_last a)
  unfolding names
  tally_end a b G g (inl Y) c w e = go w
    where
      q : T (any_query (txn G.txns s))
      q = unfold any_query in and_both (live (txn G.txns s)) _ Y.caller.alive (true_is Y.query)

      row : found (txn G.txns s).weight_sum (txn G.txns s).read_count ≡ found (held_at_last b) (held_at_last a)
      row = rw (Y.sum, Y.count)

      go : (c ≡ Commit n) ⊎ (c ≡ Abort n) → (step S c G).answer ≡ found (held_at_last b) (held_at_last a)
      go (inl z) = ap (λ (d : Call). (step S d G).answer) z ∙ ap (λ (o : Outcome). o.answer) (query-commits S G g n s Y.caller q) ∙ row
      go (inr z) = ap (λ (d : Call). (step S d G).answer) z ∙ ap (λ (o : Outcome). o.answer) (query_aborts S G g n s Y.caller q) ∙ row
  tally_end a b G g (inr U) c w e =
      absurd
      (let z : (step S c G).answer.code ≡ code UnknownTransaction = ap (λ (o : Outcome). o.answer.code) (unknown-answer S enough n G g U c (called w)) in
      omega arith)
    where
      called : (c ≡ Commit n) ⊎ (c ≡ Abort n) → T (names n c)
      called (inl z) = subst (λ (d : Call). T (names n d)) (sym z) (eq_make n n refl)
      called (inr z) = subst (λ (d : Call). T (names n d)) (sym z) (eq_make n n refl)

-- ---- at its begin it was granted none
module _ (S : Sizes) (G : Tables) (g : Good S G) (n : ℕ) where
  abbrev Begins : Outcome → Type 0
  Begins o = o.answer.code ≡ granted → o.answer.number ≡ n → (s : ℕ) × Tally S n s 0 0 o.after

  -- a row of the kind k with the start q
  begun-tally : (k q s : ℕ) → Free S G.txns s → query_kind k ≡ true → last_number G.txns + 1 ≡ n → Tally S n s 0 0 (begun k q s G)
  unfolding held_at_last
  begun-tally k q s f j e =
      record {
        caller =
            record {
              inside = f.inside;
              alive = number-live (txn (begun k q s G).txns s) (λ w. let v = ap (λ (r : Txn). r.number) here in omega arith);
              name = ap (λ (r : Txn). r.number) here ∙ e;
            };
        query = ap (λ (r : Txn). query_kind r.kind) here ∙ j;
        count = ap (λ (r : Txn). r.read_count) here;
        sum = ap (λ (r : Txn). r.weight_sum) here;
      }
    where
      here : txn (begun k q s G).txns s ≡ new_txn (last_number G.txns + 1) k q
      here = begun_here S G g k q s f.inside

  query-tally : (d : Deed) → Way S G BeginQuery d → Begins (done S d G)
  unfolding done
  query-tally d (refused r m) z e = absurd (refusal-code r z)
  query-tally d (waited s k x w) z e = absurd (refusal-code Wait z)
  query-tally d (kept_waiting s C q) z e = absurd (refusal-code Wait z)
  query-tally d (began_query s f l) z e = (s, begun-tally a_query (clock G.txns) s f (unfold query_kind in refl) e)

  relaxed-tally : (d : Deed) → Way S G BeginRelaxed d → Begins (done S d G)
  unfolding done
  relaxed-tally d (refused r m) z e = absurd (refusal-code r z)
  relaxed-tally d (waited s k x w) z e = absurd (refusal-code Wait z)
  relaxed-tally d (kept_waiting s C q) z e = absurd (refusal-code Wait z)
  relaxed-tally d (began_relaxed s f l a) z e = (s, begun-tally a_relaxed first_stamp s f (unfold query_kind in refl) e)

  begin_tally : (b : Call) → (b ≡ BeginQuery) ⊎ (b ≡ BeginRelaxed) → Begins (step S b G)
  unfolding act
  begin_tally b (inl z) =
      subst (λ (c : Call). Begins (step S c G)) (sym z)
      (subst Begins (sym (acts S BeginQuery G g)) (query-tally (judged S BeginQuery G) (way S G g BeginQuery)))
  begin_tally b (inr z) =
      subst (λ (c : Call). Begins (step S c G)) (sym z)
      (subst Begins (sym (acts S BeginRelaxed G g)) (relaxed-tally (judged S BeginRelaxed G) (way S G g BeginRelaxed)))

pub end_weighs : (S : Sizes) → S.slots ≤ S.places → 1 ≤ S.places → EndWeighs S
unfolding EndWeighs
end_weighs S enough room before cs n b c how w z e =
    tally_end S enough n begin.0 (sum_over (counts n) (run S cs H)) (sum_over (weighs n) (run S cs H)) (end_of S cs H)
    (good-run S enough cs H h) told c w
  where
    G : Tables
    G = end_of S before (fresh S)

    g : Good S G
    g = run-good S enough room before

    H : Tables
    H = (step S b G).after

    h : Good S H
    h = keeps S enough b G g

    begin : (s : ℕ) × Tally S n s 0 0 H
    begin = begin_tally S G g n b how z e

    none : (k : ℕ) → 0 + k ≡ k
    none k = omega arith

    told : Tally S n begin.0 (sum_over (counts n) (run S cs H)) (sum_over (weighs n) (run S cs H)) (end_of S cs H) ⊎ Unknown n (seen S (end_of S cs H))
    told =
        subst (λ (i : ℕ). Tally S n begin.0 i (sum_over (weighs n) (run S cs H)) (end_of S cs H) ⊎ Unknown n (seen S (end_of S cs H))) (none (sum_over (counts n) (run S cs H)))
        (subst (λ (i : ℕ). Tally S n begin.0 (0 + sum_over (counts n) (run S cs H)) i (end_of S cs H) ⊎ Unknown n (seen S (end_of S cs H))) (none (sum_over (weighs n) (run S cs H)))
        (tally-run S enough n begin.0 cs 0 0 H h (inl begin.1)))
