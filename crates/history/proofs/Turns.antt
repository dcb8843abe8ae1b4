-- A turn: what a call leaves of the view W, the view W' afterwards, one constructor for each happening. Every theorem about runs goes by
-- these. Then who lived before (`Old`), the updates begun so far (`Begun`), and the clock (`clock-on`), over a turn.
use Prim.Native.Nat.{ℕ, ◌+◌, ◌≤◌, ◌<◌}
use mathlib.Core.Path.{◌≡◌, sym, ap, ◌∙◌, subst}
use mathlib.Core.Logic.{◌≢◌, ◌⊎◌, inl, inr}
use mathlib.Core.Bool.{true, false, ◌&&◌, ◌||◌, cond}
use mathlib.Core.List.{List, ◌∷◌}
use native.Mathlib.Omega.{arith}
use lib.Dec.{T, eqb, leb, eqb→eq}
use borrow.Author.Tests.{le-leb, lt-leb}
use Rattle.rules.specs.Words.{some}
use Rattle.rules.specs.Tables.{an_update, a_query, a_settled, a_relaxed}
use Rattle.rules.specs.Answers.{Call}
use Rattle.rules.proofs.Tests.{or_cases, or_left, or_right, eq_make, same?}
use Rattle.history.specs.Happened.{got, put, Happening, update_began, query_began, relaxed_began, accessed, update_committed, empty_committed, settled_under, only_ended, nothing}
use Rattle.history.specs.Happened.{SoFar, begun_with, clock_after, names}
use Rattle.history.proofs.Invariant.{View, Fair, Row, Locks, Sees, update, query, settled, relaxed, reader, Asks}

module _ (items : ℕ) (W W' : View) where
  -- ---- what a call can leave
  -- everybody, and the newest values, the last number and the clock, as they were
  pub record Same : Type 0 where
    pub rows : (r : ℕ) → Row W W' r
    pub locks : (r : ℕ) → Locks items W W' r
    pub sees : (r : ℕ) → Sees items W W' r
    pub current : (x : ℕ) → x < items → W'.current x ≡ W.current x
    pub last : W'.last ≡ W.last
    pub clock : W'.clock ≡ W.clock

  -- one more, in slot s, with the next number
  pub record New (s : ℕ) : Type 0 where
    pub rows : (r : ℕ) → r ≢ s → Row W W' r
    pub locks : (r : ℕ) → r ≢ s → Locks items W W' r
    pub sees : (r : ℕ) → r ≢ s → Sees items W W' r
    pub current : (x : ℕ) → x < items → W'.current x ≡ W.current x
    pub free : W.alive s → ⊥
    pub number : W'.number s ≡ W.last + 1
    pub last : W'.last ≡ W.last + 1
    pub clock : W'.clock ≡ W.clock

  -- slot s gets the number v of item x: an update its own working value or the newest value, and it holds the item afterwards; one past
  -- its writing its own working value; who reads by a start what it sees, and nobody past its writing, whose stamp is up to that
  -- start, holds the item; a relaxed query what it is shown
  pub data Gets (s x v : ℕ) : Type 0 where
    by_lock : update W s → T (W'.holds s x) → v ≡ cond (W'.writes s x) (W'.working x) (W'.current x) → Gets s x v
    by_own : settled W s → T (W.writes s x) → v ≡ W.working x → Gets s x v
    by_start :
        reader W s → ((r : ℕ) → settled W r → W.start r ≤ W.start s → T (W.writes r x) → ⊥) → v ≡ W.snapshot s x → Gets s x v
    by_set : relaxed W s → v ≡ W.shown s x → Gets s x v

  -- the update in slot s holds item x exclusively afterwards, with the working value v; past its writing it held it before
  pub record Puts (s x v : ℕ) : Type 0 where
    pub alive : W.alive s
    pub may : (W.kind s ≡ an_update) ⊎ ((W.kind s ≡ a_settled) × T (W.writes s x))
    pub rows : (r : ℕ) → Row W W' r
    pub locks : (r : ℕ) → r ≢ s → Locks items W W' r
    pub sees : (r : ℕ) → Sees items W W' r
    pub current : (y : ℕ) → y < items → W'.current y ≡ W.current y
    pub last : W'.last ≡ W.last
    pub clock : W'.clock ≡ W.clock
    pub held : (y : ℕ) → y < items → T (W.holds s y) → T (W'.holds s y)
    pub holds_it : T (W'.holds s x)
    pub writes_it : W'.writes s x ≡ true
    pub value : W'.working x ≡ v
    pub writes_on : (y : ℕ) → y < items → y ≢ x → W'.writes s y ≡ W.writes s y
    pub working_on : (y : ℕ) → y < items → y ≢ x → W'.working y ≡ W.working y

  -- nobody is in slot s any more
  pub record Left (s : ℕ) : Type 0 where
    pub alive : W.alive s
    pub gone : W'.alive s → ⊥
    pub rows : (r : ℕ) → r ≢ s → Row W W' r
    pub locks : (r : ℕ) → r ≢ s → Locks items W W' r
    pub last : W'.last ≡ W.last

  -- the update in slot s ends its writing
  pub record Settles (s : ℕ) : Type 0 where
    pub update : update W s
    pub rows : (r : ℕ) → r ≢ s → Row W W' r
    pub locks : (r : ℕ) → r ≢ s → Locks items W W' r
    pub sees : (r : ℕ) → r ≢ s → Sees items W W' r
    pub current : (x : ℕ) → x < items → W'.current x ≡ W.current x
    pub last : W'.last ≡ W.last
    pub clock : W'.clock ≡ W.clock + 1
    pub lives : W'.alive s
    pub number : W'.number s ≡ W.number s
    pub kind : W'.kind s ≡ a_settled
    pub start : W'.start s ≡ W.clock + 1
    pub writes_on : (x : ℕ) → x < items → W'.writes s x ≡ W.writes s x
    pub working_on : (x : ℕ) → x < items → T (W.writes s x) → W'.working x ≡ W.working x
    pub snapshot : (x : ℕ) → x < items → W'.snapshot s x ≡ W.current x

  -- ---- the turn of a call, by what happened
  pub data Turn : Call → Happening → Type 0 where
    quiet : {c : Call} → Same → Turn c nothing
    update_begins :
        {c : Call} (s : ℕ) → New s → W'.kind s ≡ an_update → ((x : ℕ) → x < items → W'.writes s x ≡ false)
        → Turn c (update_began (W.last + 1))
    query_begins :
        {c : Call} (s : ℕ) → New s → query W' s → W'.start s ≡ W.clock → ((x : ℕ) → x < items → W'.snapshot s x ≡ W.current x)
        → Turn c (query_began (W.last + 1))
    relaxed_begins :
        {c : Call} (s : ℕ) → New s → relaxed W' s → ((x : ℕ) → x < items → W'.writes s x ≡ false) → Turn c (relaxed_began (W.last + 1))
    reads : {c : Call} (n s x v : ℕ) → W.number s ≡ n → x < items → Same → Gets s x v → Turn c (accessed n (got x v))
    writes : {c : Call} (n s x v : ℕ) → W.number s ≡ n → x < items → Puts s x v → Turn c (accessed n (put x v))
    commits :
        {c : Call} (n s : ℕ) → W.number s ≡ n → T (names n c) → W.kind s ≡ an_update → Left s → ((r : ℕ) → r ≢ s → Sees items W W' r)
        → ((x : ℕ) → x < items → W'.current x ≡ cond (W.writes s x) (W.working x) (W.current x)) → W'.clock ≡ W.clock + 1
        → Turn c (update_committed n (W.clock + 1))
    -- without a stamp of its own (request E7): it holds nothing exclusively
    commits_empty :
        {c : Call} (n s : ℕ) → W.number s ≡ n → T (names n c) → W.kind s ≡ an_update → ((x : ℕ) → x < items → W.writes s x ≡ false) → Left s
        → ((r : ℕ) → r ≢ s → Sees items W W' r) → ((x : ℕ) → x < items → W'.current x ≡ W.current x) → W'.clock ≡ W.clock
        → Turn c (empty_committed n W.clock)
    settles : {c : Call} (n s : ℕ) → W.number s ≡ n → Settles s → Turn c (settled_under n (W.clock + 1))
    -- those who read by a later start see what it wrote
    commits_settled :
        {c : Call} (n s : ℕ) → W.number s ≡ n → T (names n c) → W.kind s ≡ a_settled → Left s
        → ((r x : ℕ) → r ≢ s → x < items → reader W' r
        → W'.snapshot r x ≡ cond (W.writes s x && leb (W.start s) (W.start r)) (W.working x) (W.snapshot r x))
        → ((x : ℕ) → x < items → W'.current x ≡ cond (W.writes s x) (W.working x) (W.current x)) → W'.clock ≡ W.clock
        → Turn c (update_committed n (W.start s))
    ends :
        {c : Call} (n s : ℕ) → W.number s ≡ n → T (names n c) → Left s → ((r : ℕ) → r ≢ s → Sees items W W' r)
        → ((x : ℕ) → x < items → W'.current x ≡ W.current x) → W'.clock ≡ W.clock
        → Turn c (only_ended n)

  -- ---- whoever lives afterwards lived before, by the same number; who was no query, is none, and a query stays one
  pub record Old (r : ℕ) : Type 0 where
    pub alive : W.alive r
    pub number : W'.number r ≡ W.number r
    pub query→ : Asks (W'.kind r) → Asks (W.kind r)
    pub query← : Asks (W.kind r) → Asks (W'.kind r)

  pub row_old : (r : ℕ) → Row W W' r → W'.alive r → Old r
  row_old r R a = record { alive = R.was a; number = R.number_is; query→ = λ k. subst Asks R.kind_is k; query← = λ k. subst Asks (sym R.kind_is) k }

  pub left_old : (s : ℕ) → Left s → (r : ℕ) → W'.alive r → Old r
  left_old s L r a = go (same? r s)
    where
      go : (r ≡ s) ⊎ (r ≢ s) → Old r
      go (inl e) = absurd (L.gone (subst (λ (m : ℕ). W'.alive m) e a))
      go (inr d) = row_old r (L.rows r d) a

  pub settles_old : (s : ℕ) → Settles s → (r : ℕ) → W'.alive r → Old r
  settles_old s B r a = go (same? r s)
    where
      past : (k : ℕ) → k ≡ a_settled → Asks k → ⊥
      past k e (inl z) = omega arith
      past k e (inr z) = omega arith

      writing : (k : ℕ) → k ≡ an_update → Asks k → ⊥
      writing k e (inl z) = omega arith
      writing k e (inr z) = omega arith

      go : (r ≡ s) ⊎ (r ≢ s) → Old r
      go (inl e) =
          rw e
          (record {
            alive = B.update.0;
            number = B.number;
            query→ = λ k. absurd (past (W'.kind s) B.kind k);
            query← = λ k. absurd (writing (W.kind s) B.update.1 k);
          })
      go (inr d) = row_old r (B.rows r d) a

-- ---- the live updates are among us, the live queries are not, and all of us were given
pub record Begun (us : List ℕ) (W : View) : Type 0 where
  pub updates : (s : ℕ) → W.alive s → (Asks (W.kind s) → ⊥) → T (some (eqb (W.number s)) us)
  pub queries : (s : ℕ) → W.alive s → Asks (W.kind s) → T (some (eqb (W.number s)) us) → ⊥
  pub given : (n : ℕ) → T (some (eqb n) us) → n ≤ W.last

module _ (items : ℕ) (W W' : View) (F : Fair items W) (so : SoFar) (K : Begun so.updates W) where
  abbrev us : List ℕ
  us = so.updates

  old_known : ((r : ℕ) → W'.alive r → Old items W W' r) → W'.last ≡ W.last → Begun us W'
  old_known O l =
      record {
        updates = λ s a k. let o = O s a in rw o.number (K.updates s o.alive (λ z. k (o.query← z)));
        queries = λ s a q m. let o = O s a in K.queries s o.alive (o.query→ q) (rw o.number at m);
        given = λ n a. let b = K.given n a in omega arith;
      }

  abbrev N : ℕ
  N = W.last + 1

  new_update : (s : ℕ) → New items W W' s → W'.kind s ≡ an_update → Begun (N ∷ us) W'
  unfolding some
  new_update s B nq =
      record {
        updates = λ r u k. updates r u k (same? r s);
        queries = λ r b q a. queries r b q (same? r s) (or_cases (eqb (W'.number r) N) _ a);
        given = λ n a. given n (or_cases (eqb n N) _ a);
      }
    where
      updates :
          (r : ℕ) → W'.alive r → (Asks (W'.kind r) → ⊥) → (r ≡ s) ⊎ (r ≢ s) → T (eqb (W'.number r) N || some (eqb (W'.number r)) us)
      updates r u k (inl e) = or_left (eqb (W'.number r) N) _ (eq_make _ N (ap W'.number e ∙ B.number))
      updates r u k (inr d) =
          let R = B.rows r d in
          or_right (eqb (W'.number r) N) _ (rw R.number_is (K.updates r (R.was u) (λ z. k (subst Asks (sym R.kind_is) z))))

      writing : (k : ℕ) → k ≡ an_update → Asks k → ⊥
      writing k e (inl z) = omega arith
      writing k e (inr z) = omega arith

      queries : (r : ℕ) → W'.alive r → Asks (W'.kind r) → (r ≡ s) ⊎ (r ≢ s) → T (eqb (W'.number r) N) ⊎ T (some (eqb (W'.number r)) us) → ⊥
      queries r b q (inl e) a = writing (W'.kind r) (ap W'.kind e ∙ nq) q
      queries r b q (inr d) (inl a) =
          let b = F.known r ((B.rows r d).was b) in
          let m = (B.rows r d).number_is in
          let z = eqb→eq (W'.number r) N a in
          omega arith
      queries r b q (inr d) (inr a) =
          let R = B.rows r d in
          K.queries r (R.was b) (subst Asks R.kind_is q) (rw R.number_is at a)

      given : (n : ℕ) → T (eqb n N) ⊎ T (some (eqb n) us) → n ≤ W'.last
      given n (inl a) = let b = eqb→eq n N a in let l = B.last in omega arith
      given n (inr a) = let b = K.given n a in let l = B.last in omega arith

  new_query : (s : ℕ) → New items W W' s → Asks (W'.kind s) → Begun us W'
  new_query s B nu =
      record {
        updates = λ r u k. updates r u k (same? r s);
        queries = λ r b q a. queries r b q (same? r s) a;
        given = λ n a. let b = K.given n a in let l = B.last in omega arith;
      }
    where
      updates : (r : ℕ) → W'.alive r → (Asks (W'.kind r) → ⊥) → (r ≡ s) ⊎ (r ≢ s) → T (some (eqb (W'.number r)) us)
      updates r u k (inl e) = absurd (k (subst (λ (m : ℕ). Asks (W'.kind m)) (sym e) nu))
      updates r u k (inr d) = let R = B.rows r d in rw R.number_is (K.updates r (R.was u) (λ z. k (subst Asks (sym R.kind_is) z)))

      queries : (r : ℕ) → W'.alive r → Asks (W'.kind r) → (r ≡ s) ⊎ (r ≢ s) → T (some (eqb (W'.number r)) us) → ⊥
      queries r b q (inl e) a =
          let b = K.given (W'.number r) a in
          let c : W'.number r ≡ W'.number s = ap W'.number e in
          let l = B.number in
          omega arith
      queries r b q (inr d) a = let R = B.rows r d in K.queries r (R.was b) (subst Asks R.kind_is q) (rw R.number_is at a)

  pub begun_on : {c : Call} {h : Happening} → Turn items W W' c h → Begun (begun_with h so).updates W'
  unfolding begun_with
  begun_on (quiet A) = old_known (λ r. row_old items W W' r (A.rows r)) A.last
  begun_on (update_begins s B k e) = new_update s B k
  begun_on (query_begins s B q z e) = new_query s B (inl q.1)
  begun_on (relaxed_begins s B q e) = new_query s B (inr q.1)
  begun_on (reads n s x v m b A g) = old_known (λ r. row_old items W W' r (A.rows r)) A.last
  begun_on (writes n s x v m b P) = old_known (λ r. row_old items W W' r (P.rows r)) P.last
  begun_on (commits n s m a u L o e k) = old_known (left_old items W W' s L) L.last
  begun_on (commits_empty n s m a u w L o e k) = old_known (left_old items W W' s L) L.last
  begun_on (settles n s m B) = old_known (settles_old items W W' s B) B.last
  begun_on (commits_settled n s m a u L o e k) = old_known (left_old items W W' s L) L.last
  begun_on (ends n s m a L o e k) = old_known (left_old items W W' s L) L.last

-- ---- the clock is the greatest stamp given
pub clock_on : (items : ℕ) (W W' : View) → Fair items W → {c : Call} {h : Happening} → Turn items W W' c h → W'.clock ≡ clock_after W.clock h
unfolding clock_after
clock_on items W W' F (quiet A) = A.clock
clock_on items W W' F (update_begins s B k e) = B.clock
clock_on items W W' F (query_begins s B q z e) = B.clock
clock_on items W W' F (relaxed_begins s B q e) = B.clock
clock_on items W W' F (reads n s x v m b A g) = A.clock
clock_on items W W' F (writes n s x v m b P) = P.clock
clock_on items W W' F (commits n s m a u L o e k) = k ∙ rw (lt-leb (W.clock + 1) W.clock (omega arith))
clock_on items W W' F (commits_empty n s m a u w L o e k) = k
clock_on items W W' F (settles n s m B) = B.clock
clock_on items W W' F (commits_settled n s m a u L o e k) =
    let l = F.low s (L.alive, λ z. omega arith, λ z. omega arith) in
    k ∙ rw (le-leb (W.start s) W.clock l)
clock_on items W W' F (ends n s m a L o e k) = k
