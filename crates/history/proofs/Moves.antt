-- Each way that a call can go on good tables is a turn of what is seen of them: reads, writes, begins and whatever changes nothing. The
-- ends, commits and settles are in Endings.
use Prim.Native.Nat.{ℕ, suc, ◌+◌, ◌≤◌, ◌<◌}
use mathlib.Core.Path.{◌≡◌, refl, sym, ap, ◌∙◌, subst}
use mathlib.Core.Logic.{◌≢◌, ◌⊎◌, inl, inr}
use mathlib.Core.Bool.{true, false, not, ◌||◌, cond}
use mathlib.Core.List.{List}
use native.Mathlib.Omega.{arith}
use lib.Dec.{T, eqb, eqb→eq, eqb-zero-suc}
use borrow.Author.Tests.{eq-eqb, le-leb}
use Rattle.names.specs.declared.Sizes.{Sizes}
use Rattle.rules.specs.Words.{bit, with_bit}
use Rattle.rules.specs.Tables.{Tables, tables, last_number, clock, Txn, txn, live, live_update, live_settled, is_reader}
use Rattle.rules.specs.Tables.{an_update, a_query, a_settled, a_relaxed, Reader, reader_in, shared_lock, exclusive_lock, Lock, lock, set_lock, holds, holds_shared, holds_exclusive}
use Rattle.rules.specs.Versions.{versions_of, newest, choice}
use Rattle.rules.specs.Waits.{noted}
use Rattle.rules.specs.Good.{Good}
use Rattle.rules.specs.Answers.{Call}
use Rattle.rules.specs.Step.{with_txns, begun, counted, read_noted, joined, grant_joins, cleared, locked, locked_anew, replaced, shared_too, taken, holds_back, held_back}
use Rattle.rules.proofs.Tests.{or_left, or_right, and_both, ne_make, is_true, is_false, true_is, false_is, same?}
use Rattle.rules.proofs.Counts.{→some_below}
use Rattle.rules.proofs.Bits.{with_bit_here}
use Rattle.rules.proofs.Joined.{joined_length}
use Rattle.rules.proofs.Noting.{noted-size}
use Rattle.rules.proofs.ReadNoted.{read_length, holder_inside}
use Rattle.rules.proofs.RowKinds.{reads_up_to, reads-outside}
use Rattle.rules.proofs.Views.{lock-set_lock, lock-set_lock-other}
use Rattle.rules.proofs.EqualRows.{number-live, update-live, settled-live, live-settled, reader-live, holder_live}
use Rattle.rules.proofs.Callers.{Caller, Free}
use Rattle.rules.proofs.Decisions.{never_both_lem}
use Rattle.history.specs.Happened.{got, put, Happening, update_began, query_began, relaxed_began, accessed, nothing}
use Rattle.history.proofs.Invariant.{Row, Sees}
use Rattle.history.proofs.Turns.{Same, New, Gets, by_lock, by_own, by_start as by_start_lem, by_set, Turn, quiet, update_begins, query_begins, relaxed_begins, reads, writes}
use Rattle.history.proofs.Tables.{same_row, Quiet, quiet_on, noted_quiet, joined_quiet, read_quiet, counted_quiet, cleared_quiet, begun_here, begun_there, begun-last, begun-clock}
use Rattle.history.proofs.Tables.{SameHold, same_hold, shared_hold, replaced_hold, taken_hold}
use Rattle.history.proofs.Leaving.{read_at, shown_of, reads-newest}
use Rattle.history.proofs.Seen.{seen, row_by, locks_by, sees_by}

module _ (S : Sizes) (G : Tables) (g : Good S G) where
  abbrev t : List ℕ
  t = G.txns

  abbrev l : List ℕ
  l = G.locks

  abbrev v : List ℕ
  v = G.versions

  abbrev TurnTo : Tables → Call → Happening → Type 0
  TurnTo G' c h = Turn S.items (seen S G) (seen S G') c h

  abbrev SameIn : Tables → Type 0
  SameIn G' = Same S.items (seen S G) (seen S G')

  still : (r y : ℕ) → y < S.items → SameHold (lock l y) (lock l y) r
  still r y b = same_hold (lock l y) (lock l y) r refl

  -- ---- nothing is changed
  unchanged : SameIn G
  unchanged =
      record {
        rows = λ r. row_by S G G r (same_row refl);
        locks = λ r. locks_by S G G r (still r);
        sees = λ r. sees_by S G G r g (same_row refl) (λ y b i q. refl);
        current = λ y b. refl;
        last = refl;
        clock = refl;
      }

  pub refused_turn : {c : Call} → TurnTo G c nothing
  refused_turn = quiet unchanged

  -- ---- the awaited fields are not seen, nor what is counted of reads
  module _ (t' : List ℕ) (q : Quiet t t') (l' : List ℕ) where
    abbrev G₁ : Tables
    G₁ = tables t' l' v

    awaited-row : (r : ℕ) → Row (seen S G) (seen S (tables t' l' v)) r
    awaited-row r = row_by S G G₁ r (q.rows r)

    awaited-sees : (r : ℕ) → Sees S.items (seen S G) (seen S (tables t' l' v)) r
    awaited-sees r = sees_by S G G₁ r g (q.rows r) (λ y b i h. refl)

    awaited-same : ((r y : ℕ) → y < S.items → SameHold (lock l y) (lock l' y) r) → SameIn (tables t' l' v)
    awaited-same L =
        record {
          rows = awaited-row;
          locks = λ r. locks_by S G G₁ r (L r);
          sees = awaited-sees;
          current = λ y b. refl;
          last = q.last;
          clock = q.clock_is;
        }

  pub wait_turn : {c : Call} (s k x m : ℕ) → s < S.slots → TurnTo (with_txns G (joined (noted S t l s k x) s m)) c nothing
  wait_turn s k x m i =
      quiet
      (awaited-same (joined (noted S t l s k x) s m)
      (quiet_on (noted_quiet S t g.txns_exact s i l k x) (joined_quiet S (noted S t l s k x) (noted-size S t l s k x ∙ g.txns_exact) s i m)) l still)

  -- ---- a read of a version, which looks at k of them
  pub version_read_turn :
      {c : Call} (n s x k : ℕ) → Caller S G n s → T (is_reader (txn t s)) → x < S.items → (T (holds_exclusive (lock l x) s) → ⊥)
      → held_back S t l x s ≡ false
      → TurnTo (with_txns G (counted (read_noted t l s x) s k)) c (accessed n (got x (choice (reader_in t s) (versions_of S v x)).value))
  unfolding held_back holds_back
  version_read_turn n s x k C q b own free = reads n s x _ C.name b (awaited-same (counted (read_noted t l s x) s k) noted_so l still) (gets (same? (txn t s).kind a_relaxed))
    where
      inner : Quiet t (read_noted t l s x)
      inner = read_quiet S t g.txns_exact s C.inside l x (holder_inside S G g s C.inside x b)

      noted_so : Quiet t (counted (read_noted t l s x) s k)
      noted_so = quiet_on inner
          (counted_quiet S (read_noted t l s x) (read_length S t l s x g.txns_exact C.inside (holder_inside S G g s C.inside x b) ∙ g.txns_exact) s C.inside k)

      other :
          (r : ℕ) → ((r < S.slots) × T (live (txn t r))) × ((txn t r).kind ≡ a_settled) → (txn t r).start ≤ (txn t s).start
          → T (holds_exclusive (lock l x) r) → (r ≡ s) ⊎ (r ≢ s) → ⊥
      other r a m w (inl e) = own (subst (λ (j : ℕ). T (holds_exclusive (lock l x) j)) e w)
      other r a m w (inr d) =
          false_is free
          (→some_below S.slots (holds_back t l x s) r a.0.0
          (and_both (not (eqb s r)) _ (ne_make s r (λ e. d (sym e)))
          (and_both (holds_exclusive (lock l x) r) _ w
          (and_both (live_settled (txn t r)) _ (live-settled (txn t r) a.0.1 a.1) (true_is (le-leb (txn t r).start (txn t s).start m))))))

      gets :
          ((txn t s).kind ≡ a_relaxed) ⊎ ((txn t s).kind ≢ a_relaxed)
          → Gets S.items (seen S G) (seen S (tables (counted (read_noted t l s x) s k) l v)) s x (choice (reader_in t s) (versions_of S v x)).value
      gets (inl e) = by_set ((C.inside, C.alive), e) (ap (λ (o : Reader). (choice o (versions_of S v x)).value) (reads-outside t s e) ∙ unfold shown_of in refl)
      gets (inr d) =
          let z = reader-live (txn t s) q in
          by_start_lem ((C.inside, z.0), z.1, d) (λ r a m w. other r a m w (same? r s))
          (ap (λ (o : Reader). (choice o (versions_of S v x)).value) (reads_up_to t s d) ∙ unfold read_at in refl)

  -- ---- reads and writes of what is locked
  module _ (n s x : ℕ) (C : Caller S G n s) (b : x < S.items) where
    abbrev h : Lock
    h = lock l x

    abbrev inside : s < S.slots
    inside = C.inside

    abbrev alive : (s < S.slots) × T (live (txn t s))
    alive = (C.inside, C.alive)

    cleared_is : Quiet t (cleared S t s)
    cleared_is = cleared_quiet S t g.txns_exact s inside

    abbrev Gives : ℕ → Tables → Call → Type 0
    Gives w G' c = TurnTo G' c (accessed n (got x w))

    abbrev Takes : ℕ → Tables → Call → Type 0
    Takes w G' c = TurnTo G' c (accessed n (put x w))

    -- a further lock joins sets
    joined_is : (m : ℕ) → Quiet t (cleared S (joined t s m) s)
    joined_is m = quiet_on (joined_quiet S t g.txns_exact s inside m) (cleared_quiet S (joined t s m) (joined_length t s m ∙ g.txns_exact) s inside)

    cleared-same : SameIn (with_txns G (cleared S t s))
    cleared-same = awaited-same (cleared S t s) cleared_is l still

    -- past its writing: its own working value
    pub past_turn : {c : Call} → T (live_settled (txn t s)) → T (holds_exclusive h s) → Gives h.working (with_txns G (cleared S t s)) c
    past_turn u a = reads n s x h.working C.name b cleared-same (by_own (alive, (settled-live (txn t s) u).1) a refl)

    -- the lock of item x becomes h'
    module _ (h' : Lock) where
      abbrev l' : List ℕ
      l' = set_lock l x h'

      here : lock l' x ≡ h'
      here = lock-set_lock l x h' S g.locks_exact b

      there : (y : ℕ) → y ≢ x → lock l' y ≡ lock l y
      there y d = lock-set_lock-other l x h' y d

      relocked : (r : ℕ) → SameHold h h' r → (y : ℕ) → y < S.items → SameHold (lock l y) (lock l' y) r
      relocked r L y b = go (same? y x)
        where
          go : (y ≡ x) ⊎ (y ≢ x) → SameHold (lock l y) (lock l' y) r
          go (inl e) = rw (e, here) L
          go (inr d) = same_hold (lock l y) (lock l' y) r (there y d)

      -- a lock taken exclusively, or held so and given another working value
      write_turn :
          {c : Call} (t₁ : List ℕ) → Quiet t t₁ → (w : ℕ) → ((txn t s).kind ≡ an_update) ⊎ (((txn t s).kind ≡ a_settled) × T (holds_exclusive h s))
          → h'.exclusive ≡ suc s → h'.working ≡ w → ((r : ℕ) → r ≢ s → SameHold h h' r) → Takes w (tables t₁ (set_lock l x h') v) c
      unfolding holds holds_exclusive
      write_turn t₁ q₁ w may own is others =
          writes n s x w C.name b
          (record {
            alive = alive;
            may = may;
            rows = awaited-row t₁ q₁ l';
            locks = λ r d. locks_by S G (tables t₁ l' v) r (relocked r (others r d));
            sees = awaited-sees t₁ q₁ l';
            current = λ y b. refl;
            last = q₁.last;
            clock = q₁.clock_is;
            held = λ y b a. mine y (same? y x) a;
            holds_it = rw here held;
            writes_it = rw here mine_here;
            value = ap (λ (o : Lock). o.working) here ∙ is;
            writes_on = λ y b d. ap (λ (o : Lock). holds_exclusive o s) (there y d);
            working_on = λ y b d. ap (λ (o : Lock). o.working) (there y d);
          })
        where
          mine_here : eqb h'.exclusive (suc s) ≡ true
          mine_here = eq-eqb h'.exclusive (suc s) own

          held : T (holds_shared h' s || eqb h'.exclusive (suc s))
          held = or_right (holds_shared h' s) _ (true_is mine_here)

          mine : (y : ℕ) → (y ≡ x) ⊎ (y ≢ x) → T (holds (lock l y) s) → T (holds (lock l' y) s)
          mine y (inl e) a = rw (e, here) held
          mine y (inr d) a = subst (λ (o : Lock). T (holds o s)) (sym (there y d)) a

    own_write : {c : Call} (w : ℕ) → ((txn t s).kind ≡ an_update) ⊎ (((txn t s).kind ≡ a_settled) × T (holds_exclusive h s)) → T (holds_exclusive h s) → Takes w (locked S s x (replaced h w) G) c
    unfolding holds_exclusive locked
    own_write w may a = write_turn (replaced h w) (cleared S t s) cleared_is w may (eqb→eq h.exclusive (suc s) a) refl (λ r d. replaced_hold h s w r a d)

    pub past_write_turn : {c : Call} (w : ℕ) → T (live_settled (txn t s)) → T (holds_exclusive h s) → Takes w (locked S s x (replaced h w) G) c
    past_write_turn w u a = own_write w (inr ((settled-live (txn t s) u).1, a)) a

    -- an update that still writes
    module _ (u : T (live_update (txn t s))) where
      kind : (txn t s).kind ≡ an_update
      kind = (update-live (txn t s) u).1

      -- a read under a lock that is there: only the awaited fields are cleared
      held_turn : {c : Call} (w : ℕ) → T (holds h s) → w ≡ cond (holds_exclusive h s) h.working (newest S v x) → Gives w (with_txns G (cleared S t s)) c
      held_turn w a e = reads n s x w C.name b cleared-same (by_lock (alive, kind) a e)

      pub own_turn : {c : Call} → T (holds_exclusive h s) → Gives h.working (with_txns G (cleared S t s)) c
      unfolding holds
      own_turn a = held_turn h.working (or_right (holds_shared h s) _ a) (rw (is_true (holds_exclusive h s) a))

      pub newest_turn : {c : Call} → T (holds_shared h s) → Gives (newest S v x) (with_txns G (cleared S t s)) c
      unfolding holds
      newest_turn a =
          held_turn (newest S v x) (or_left (holds_shared h s) _ a)
          (rw (is_false (holds_exclusive h s) (λ w. never_both_lem S G g x b s s w a)))

      pub shared_turn : {c : Call} → h.exclusive ≡ 0 → Gives (newest S v x) (locked_anew S s shared_lock x (shared_too h s) G) c
      unfolding locked_anew locked holds holds_shared holds_exclusive
      shared_turn none =
          reads n s x (newest S v x) C.name b
          (awaited-same (cleared S (joined t s (grant_joins S G shared_lock x)) s) (joined_is (grant_joins S G shared_lock x)) (set_lock l x (shared_too h s)) (λ r. relocked (shared_too h s) r (shared_hold h s r)))
          (by_lock (alive, kind)
          (rw (here (shared_too h s)) (or_left (bit (with_bit h.shared s) s) _ (true_is (with_bit_here h.shared s))))
          (rw (here (shared_too h s), none, eqb-zero-suc s)))

      pub own_write_turn : {c : Call} (w : ℕ) → T (holds_exclusive h s) → Takes w (locked S s x (replaced h w) G) c
      own_write_turn w a = own_write w (inl kind) a

      pub taken_turn : {c : Call} (w : ℕ) → ((r : ℕ) → r ≢ s → T (holds h r) → ⊥) → Takes w (locked_anew S s exclusive_lock x (taken h s w) G) c
      unfolding locked_anew locked
      taken_turn w alone =
          write_turn (taken h s w) (cleared S (joined t s (grant_joins S G exclusive_lock x)) s) (joined_is (grant_joins S G exclusive_lock x)) w (inl kind) refl refl (λ r d. taken_hold h s w r alone d)

  -- ---- begin
  module _ (k q s : ℕ) (free : Free S t s) where
    abbrev B : Tables
    B = begun k q s G

    number_is : (txn B.txns s).number ≡ last_number t + 1
    number_is = ap (λ (o : Txn). o.number) (begun_here S G g k q s free.inside)

    kind_is : (txn B.txns s).kind ≡ k
    kind_is = ap (λ (o : Txn). o.kind) (begun_here S G g k q s free.inside)

    start_is : (txn B.txns s).start ≡ q
    start_is = ap (λ (o : Txn). o.start) (begun_here S G g k q s free.inside)

    begun_new : New S.items (seen S G) (seen S B) s
    unfolding begun
    begun_new =
        record {
          rows = λ r d. row_by S G B r (same_row (begun_there S G g k q s free.inside r d));
          locks = λ r d. locks_by S G B r (still r);
          sees = λ r d. sees_by S G B r g (same_row (begun_there S G g k q s free.inside r d)) (λ x b i h. refl);
          current = λ x b. refl;
          free = λ a. free.free a.1;
          number = number_is;
          last = begun-last S G g k q s free.inside;
          clock = begun-clock S G g k q s free.inside;
        }

    -- a free slot holds nothing
    nothing-held : (x : ℕ) → x < S.items → holds_exclusive (lock l x) s ≡ false
    nothing-held x b =
        is_false (holds_exclusive (lock l x) s)
        (λ h. free.free (holder_live (txn t s) ((g.lock_good x b).excluders s h).1).0)

    pub begin_update_turn : {c : Call} → k ≡ an_update → TurnTo B c (update_began (last_number t + 1))
    begin_update_turn e = update_begins s begun_new (kind_is ∙ e) (unfold begun in nothing-held)

    pub begin_relaxed_turn : {c : Call} → k ≡ a_relaxed → TurnTo B c (relaxed_began (last_number t + 1))
    begin_relaxed_turn e =
        relaxed_begins s begun_new
        ((free.inside, number-live (txn B.txns s) (λ z. let m = number_is in omega arith)), kind_is ∙ e) (unfold begun in nothing-held)

    pub begin_query_turn : {c : Call} → k ≡ a_query → q ≡ clock t → TurnTo B c (query_began (last_number t + 1))
    unfolding begun
    begin_query_turn e f =
        query_begins s begun_new
        ((free.inside, number-live (txn B.txns s) (λ z. let m = number_is in omega arith)), kind_is ∙ e) (start_is ∙ f)
        (λ x b. ap (λ (m : ℕ). read_at S v m x) (start_is ∙ f) ∙ reads-newest S G g (clock t) (omega arith) x b)
