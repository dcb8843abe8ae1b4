-- The run once more, with stamps for values: a version's value is its stamp, and a working value the stamp under which its holder will
-- commit, which `st` foretells. To such a view every call is a turn as before, so that all that history shows of values holds of stamps: what a
-- read gives is what the serial order leaves, that is, the stamp of the last writer ahead of the reader.
use Prim.Native.Nat.{ℕ, zero, suc, ◌+◌, ◌-◌, ◌≤◌, ◌<◌}
use mathlib.Core.Path.{◌≡◌, refl, sym, ap, ◌∙◌, subst}
use mathlib.Core.Logic.{◌≢◌, ◌⊎◌, inl, inr}
use mathlib.Core.Bool.{Bool, true, false, ◌&&◌, cond}
use mathlib.Core.List.{List}
use native.Mathlib.Omega.{arith}
use lib.Dec.{T, leb, eqb→eq}
use borrow.Author.Tests.{eq-eqb, eqb-true, lt-leb}
use Rattle.names.specs.declared.Sizes.{Sizes}
use Rattle.rules.specs.Tables.{Tables, last_number, clock, txn, live, Lock, lock, holds, holds_exclusive, by_start}
use Rattle.rules.specs.Good.{Good}
use Rattle.rules.specs.Answers.{Call}
use Rattle.rules.proofs.Tests.{true_is, same?}
use Rattle.history.specs.Happened.{got, put, Happening, update_began, query_began, relaxed_began, accessed, update_committed, empty_committed, settled_under, only_ended, nothing}
use Rattle.history.proofs.Invariant.{View, Fair, Row, Locks, Sees, update, settled, relaxed, reader}
use Rattle.history.proofs.Turns.{Same, New, Gets, by_lock, by_own, by_start as by_start_lem, by_set, Puts, Left, Settles, Turn, quiet, update_begins, query_begins, relaxed_begins, reads, writes, commits, commits_empty, settles, commits_settled, ends}
use Rattle.history.proofs.Seen.{seen, seen_fair, reads_by_start_lem}
use Rattle.textbook.specs.Marks.{Source, none, version}
use Rattle.textbook.proofs.Stamps.{top_stamp, stamp_up_to, stamp_outside, reads-top, Trims, Adds}

-- ---- a happening with stamps for values: n read the version with this stamp, or its own working value, or wrote it
unfoldable pub stamp_from : (ℕ → ℕ) → ℕ → Source → ℕ
stamp_from st n none = st n
stamp_from st n (version d) = d

unfoldable pub retold : (ℕ → ℕ) → Happening → Source → Happening
retold st (accessed n (got x v)) d = accessed n (got x (stamp_from st n d))
retold st (accessed n (put x v)) d = accessed n (put x (st n))
retold st (update_began n) d = update_began n
retold st (query_began n) d = query_began n
retold st (relaxed_began n) d = relaxed_began n
retold st (update_committed n c) d = update_committed n c
retold st (empty_committed n c) d = empty_committed n c
retold st (settled_under n c) d = settled_under n c
retold st (only_ended n) d = only_ended n
retold st nothing d = nothing

module _ (S : Sizes) (st : ℕ → ℕ) where
  -- the stamp under which the holder of item x will commit
  unfoldable pub holder_stamp : Tables → ℕ → ℕ
  holder_stamp G x = st (txn G.txns ((lock G.locks x).exclusive - 1)).number

  abbrev pub traced : Tables → View
  traced G =
      record {
        current = top_stamp S G.versions;
        last = last_number G.txns;
        clock = clock G.txns;
        alive = λ s. (s < S.slots) × T (live (txn G.txns s));
        number = λ s. (txn G.txns s).number;
        kind = λ s. (txn G.txns s).kind;
        start = λ s. (txn G.txns s).start;
        writes = λ s x. holds_exclusive (lock G.locks x) s;
        holds = λ s x. holds (lock G.locks x) s;
        working = holder_stamp G;
        snapshot = λ s x. stamp_up_to S G.versions (txn G.txns s).start x;
        shown = λ s x. stamp_outside S G.versions s x;
      }

  pub traced_fair : (G : Tables) → Good S G → Fair S.items (traced G)
  traced_fair G g =
      let F = seen_fair S G g in
      record {
        known = F.known;
        apart = F.apart;
        listed = F.listed;
        low = F.low;
        stamps-apart = F.stamps-apart;
        alone = F.alone;
        written_held = F.written_held;
      }

  held-stamp : (G : Tables) (r x : ℕ) → T (holds_exclusive (lock G.locks x) r) → holder_stamp G x ≡ st (txn G.txns r).number
  unfolding holder_stamp holds_exclusive
  held-stamp G r x h =
      let e : (lock G.locks x).exclusive ≡ suc r = eqb→eq (lock G.locks x).exclusive (suc r) h in
      let z : (lock G.locks x).exclusive - 1 ≡ r = omega arith in
      ap (λ (m : ℕ). st (txn G.txns m).number) z

  -- whom nobody's holding tells apart
  same_holder : (h h' : Lock) → ((r : ℕ) → holds_exclusive h' r ≡ holds_exclusive h r) → h'.exclusive ≡ h.exclusive
  unfolding holds_exclusive
  same_holder h h' f = go h'.exclusive refl h.exclusive refl
    where
      go : (a : ℕ) → h'.exclusive ≡ a → (b : ℕ) → h.exclusive ≡ b → h'.exclusive ≡ h.exclusive
      go (suc a) e b k = e ∙ sym (eqb-true h.exclusive (suc a) (sym (f a) ∙ eq-eqb h'.exclusive (suc a) e))
      go zero e (suc b) k = eqb-true h'.exclusive (suc b) (f b ∙ eq-eqb h.exclusive (suc b) k) ∙ sym k
      go zero e zero k = e ∙ sym k

  module _ (G G' : Tables) (g : Good S G) (g' : Good S G') where
    -- the slot s is that of n
    abbrev Is : ℕ → ℕ → Type 0
    Is s n = ((s < S.slots) × T (live (txn G.txns s))) × ((txn G.txns s).number ≡ n)

    -- what slot s gets of the item x is the stamp d, whichever way it reads
    pub record Finds (n s x d : ℕ) : Type 0 where
      pub shared : update (seen S G) s → d ≡ cond (holds_exclusive (lock G'.locks x) s) (st n) (top_stamp S G'.versions x)
      pub own : settled (seen S G) s → T (holds_exclusive (lock G.locks x) s) → d ≡ st n
      pub start :
          reader (seen S G) s → (settled (seen S G) s → T (holds_exclusive (lock G.locks x) s) → ⊥)
          → d ≡ stamp_up_to S G.versions (txn G.txns s).start x
      pub set : relaxed (seen S G) s → d ≡ stamp_outside S G.versions s x

    -- what is asked of the versions, by what happened
    unfoldable pub Stamped : Happening → Source → Type 0
    Stamped (update_committed n k) d = (st n ≡ k) × ((s : ℕ) → Is s n → Adds S G G' s k)
    Stamped (only_ended n) d = (s : ℕ) → Is s n → Trims S G G' s
    Stamped (accessed n (got x v)) d = (G'.versions ≡ G.versions) × ((s : ℕ) → Is s n → Finds n s x (stamp_from st n d))
    Stamped (accessed n (put x v)) d = G'.versions ≡ G.versions
    Stamped (update_began n) d = G'.versions ≡ G.versions
    Stamped (query_began n) d = G'.versions ≡ G.versions
    Stamped (relaxed_began n) d = G'.versions ≡ G.versions
    Stamped (empty_committed n k) d = G'.versions ≡ G.versions
    Stamped (settled_under n k) d = G'.versions ≡ G.versions
    Stamped nothing d = G'.versions ≡ G.versions

    -- ---- rows and locks
    row : (r : ℕ) → Row (seen S G) (seen S G') r → Row (traced G) (traced G') r
    row r R = record { was = R.was; lives_on = R.lives_on; number_is = R.number_is; kind_is = R.kind_is; start_is = R.start_is }

    locks : (r : ℕ) → Row (seen S G) (seen S G') r → Locks S.items (seen S G) (seen S G') r → Locks S.items (traced G) (traced G') r
    locks r R L =
        record {
          still_holds = L.still_holds;
          same_writes = L.same_writes;
          same-working = λ x i w. held-stamp G' r x (subst T (sym (L.same_writes x i)) w) ∙ ap st R.number_is ∙ sym (held-stamp G r x w);
        }

    module _ (e : G'.versions ≡ G.versions) where
      top-same : (x : ℕ) → x < S.items → top_stamp S G'.versions x ≡ top_stamp S G.versions x
      top-same x i = ap (λ (v : List ℕ). top_stamp S v x) e

      sees-same : (r : ℕ) → Row (seen S G) (seen S G') r → Sees S.items (traced G) (traced G') r
      sees-same r R x i a =
          ap (λ (v : List ℕ). stamp_up_to S v (txn G'.txns r).start x) e ∙ ap (λ (m : ℕ). stamp_up_to S G.versions m x) R.start_is

      same : Same S.items (seen S G) (seen S G') → Same S.items (traced G) (traced G')
      same A =
          record {
            rows = λ r. row r (A.rows r);
            locks = λ r. locks r (A.rows r) (A.locks r);
            sees = λ r. sees-same r (A.rows r);
            current = top-same;
            last = A.last;
            clock = A.clock;
          }

      new : (s : ℕ) → New S.items (seen S G) (seen S G') s → New S.items (traced G) (traced G') s
      new s B =
          record {
            rows = λ r d. row r (B.rows r d);
            locks = λ r d. locks r (B.rows r d) (B.locks r d);
            sees = λ r d. sees-same r (B.rows r d);
            current = top-same;
            free = B.free;
            number = B.number;
            last = B.last;
            clock = B.clock;
          }

      -- who begins to read by a start that is the clock, or later, reads what is newest
      starts-top : (s q : ℕ) → (txn G'.txns s).start ≡ q → clock G.txns ≤ q → (x : ℕ) → x < S.items → stamp_up_to S G'.versions (txn G'.txns s).start x ≡ top_stamp S G.versions x
      starts-top s q z l x i =
          ap (λ (v : List ℕ). stamp_up_to S v (txn G'.txns s).start x) e ∙ ap (λ (m : ℕ). stamp_up_to S G.versions m x) z ∙ reads-top S G g q l x i

      gets : (n s x v d : ℕ) → (txn G.txns s).number ≡ n → ((r : ℕ) → Row (seen S G) (seen S G') r) → ((s : ℕ) → Is s n → Finds n s x d) → Gets S.items (seen S G) (seen S G') s x v → Gets S.items (traced G) (traced G') s x d
      gets n s x v d name R F (by_lock u h is) =
          by_lock u h ((F s (u.0, name)).shared u ∙ pick (holds_exclusive (lock G'.locks x) s) refl)
        where
          pick : (b : Bool) → holds_exclusive (lock G'.locks x) s ≡ b → cond b (st n) (top_stamp S G'.versions x) ≡ cond b (holder_stamp G' x) (top_stamp S G'.versions x)
          pick true z = sym (held-stamp G' s x (true_is z) ∙ ap st ((R s).number_is ∙ name))
          pick false z = refl
      gets n s x v d name R F (by_own u w is) = by_own u w ((F s (u.0, name)).own u w ∙ sym (held-stamp G s x w ∙ ap st name))
      gets n s x v d name R F (by_start_lem q held is) = by_start_lem q held ((F s (q.0, name)).start q (λ k w. held s k (omega arith) w))
      gets n s x v d name R F (by_set q is) = by_set q ((F s (q.0, name)).set q)

      written : (n s x v : ℕ) → (txn G.txns s).number ≡ n → Puts S.items (seen S G) (seen S G') s x v → Puts S.items (traced G) (traced G') s x (st n)
      written n s x v name P =
          record {
            alive = P.alive;
            may = P.may;
            rows = λ r. row r (P.rows r);
            locks = λ r d. locks r (P.rows r) (P.locks r d);
            sees = λ r. sees-same r (P.rows r);
            current = top-same;
            last = P.last;
            clock = P.clock;
            held = P.held;
            holds_it = P.holds_it;
            writes_it = P.writes_it;
            value = held-stamp G' s x (true_is P.writes_it) ∙ ap st ((P.rows s).number_is ∙ name);
            writes_on = P.writes_on;
            working_on = λ y i d. unfold holder_stamp in (let k = same_holder (lock G.locks y) (lock G'.locks y) (λ r. on y i d r (same? r s)) in
                ap (λ (m : ℕ). st (txn G'.txns (m - 1)).number) k ∙ ap st (P.rows ((lock G.locks y).exclusive - 1)).number_is);
          }
        where
          on : (y : ℕ) → y < S.items → y ≢ x → (r : ℕ) → (r ≡ s) ⊎ (r ≢ s) → holds_exclusive (lock G'.locks y) r ≡ holds_exclusive (lock G.locks y) r
          on y i d r (inl z) = rw z (P.writes_on y i d)
          on y i d r (inr z) = (P.locks r z).same_writes y i

      settles_on : (s : ℕ) → Settles S.items (seen S G) (seen S G') s → Settles S.items (traced G) (traced G') s
      settles_on s B =
          record {
            update = B.update;
            rows = λ r d. row r (B.rows r d);
            locks = λ r d. locks r (B.rows r d) (B.locks r d);
            sees = λ r d. sees-same r (B.rows r d);
            current = top-same;
            last = B.last;
            clock = B.clock;
            lives = B.lives;
            number = B.number;
            kind = B.kind;
            start = B.start;
            writes_on = B.writes_on;
            working_on = λ x i w. held-stamp G' s x (subst T (sym (B.writes_on x i)) w) ∙ ap st B.number ∙ sym (held-stamp G s x w);
            snapshot = starts-top s (clock G.txns + 1) B.start (omega arith);
          }

    -- ---- who leaves
    left : (s : ℕ) → Left S.items (seen S G) (seen S G') s → Left S.items (traced G) (traced G') s
    left s L =
        record {
          alive = L.alive;
          gone = L.gone;
          rows = λ r d. row r (L.rows r d);
          locks = λ r d. locks r (L.rows r d) (L.locks r d);
          last = L.last;
        }

    by : (r : ℕ) → reader (seen S G') r → T (by_start (txn G'.txns r))
    by r a = reads_by_start_lem S G' g' r a

    trims_sees : (s r : ℕ) → Trims S G G' s → Row (seen S G) (seen S G') r → Sees S.items (traced G) (traced G') r
    trims_sees s r X R x i a =
        ap (λ (m : ℕ). stamp_up_to S G'.versions m x) R.start_is ∙ X.starts r x (txn G.txns r).start a.0.0 (by r a) R.start_is i

    -- the version in front has the stamp under which its holder was to commit
    module _ (n s k : ℕ) (name : (txn G.txns s).number ≡ n) (fore : st n ≡ k) (X : Adds S G G' s k) where
      front : (x t : ℕ) (c : Bool) (b : Bool) → holds_exclusive (lock G.locks x) s ≡ b → cond (b && c) k t ≡ cond (b && c) (holder_stamp G x) t
      front x t true true z = sym (held-stamp G s x (true_is z) ∙ ap st name ∙ fore)
      front x t false true z = refl
      front x t c false z = refl

      plain : (x t : ℕ) (b : Bool) → holds_exclusive (lock G.locks x) s ≡ b → cond b k t ≡ cond b (holder_stamp G x) t
      plain x t true z = sym (held-stamp G s x (true_is z) ∙ ap st name ∙ fore)
      plain x t false z = refl

      adds_top : (x : ℕ) → x < S.items → top_stamp S G'.versions x ≡ cond (holds_exclusive (lock G.locks x) s) (holder_stamp G x) (top_stamp S G.versions x)
      adds_top x i = X.top x i ∙ plain x (top_stamp S G.versions x) (holds_exclusive (lock G.locks x) s) refl

      adds-sees :
          (r x : ℕ) → Row (seen S G) (seen S G') r → x < S.items → reader (seen S G') r
          → stamp_up_to S G'.versions (txn G'.txns r).start x
          ≡ cond (holds_exclusive (lock G.locks x) s && leb k (txn G.txns r).start) (holder_stamp G x) (stamp_up_to S G.versions (txn G.txns r).start x)
      adds-sees r x R i a =
          ap (λ (m : ℕ). stamp_up_to S G'.versions m x) R.start_is ∙ X.starts r x (txn G.txns r).start a.0.0 (by r a) R.start_is i
          ∙ front x (stamp_up_to S G.versions (txn G.txns r).start x) (leb k (txn G.txns r).start) (holds_exclusive (lock G.locks x) s) refl

      -- a stamp above every start is read by nobody
      above : clock G.txns < k → (r x : ℕ) → Row (seen S G) (seen S G') r → x < S.items → reader (seen S G') r → stamp_up_to S G'.versions (txn G'.txns r).start x ≡ stamp_up_to S G.versions (txn G.txns r).start x
      above l r x R i a =
          let low = (seen_fair S G g).low r (R.was a.0, λ z. a.1 (R.kind_is ∙ z), λ z. a.2 (R.kind_is ∙ z)) in
          adds-sees r x R i a ∙ rw (lt-leb k (txn G.txns r).start (omega arith)) (neither (holds_exclusive (lock G.locks x) s) _ _)
        where
          neither : (w : Bool) (a b : ℕ) → cond (w && false) a b ≡ b
          neither true a b = refl
          neither false a b = refl

    pub retrace : {c : Call} {h : Happening} (d : Source) → Turn S.items (seen S G) (seen S G') c h → Stamped h d → Turn S.items (traced G) (traced G') c (retold st h d)
    unfolding Stamped retold
    retrace d (quiet A) X = quiet (same X A)
    retrace d (update_begins s B k f) X = update_begins s (new X s B) k f
    retrace d (query_begins s B q z f) X = query_begins s (new X s B) q z (starts-top X s (clock G.txns) z (omega arith))
    retrace d (relaxed_begins s B q f) X = relaxed_begins s (new X s B) q f
    retrace d (reads n s x v e b A k) X = reads n s x (stamp_from st n d) e b (same X.0 A) (gets X.0 n s x v (stamp_from st n d) e A.rows X.1 k)
    retrace d (writes n s x v e b P) X = writes n s x (st n) e b (written X n s x v e P)
    retrace d (commits n s e a k L sees cur t) X =
        let Y = X.1 s (L.alive, e) in
        commits n s e a k (left s L) (λ r z x i q. above n s (clock G.txns + 1) e X.0 Y (omega arith) r x (L.rows r z) i q) (adds_top n s (clock G.txns + 1) e X.0 Y) t
    retrace d (commits_empty n s e a k w L sees cur t) X = commits_empty n s e a k w (left s L) (λ r z. sees-same X r (L.rows r z)) (top-same X) t
    retrace d (settles n s e B) X = settles n s e (settles_on X s B)
    retrace d (commits_settled n s e a k L snap cur t) X =
        let Y = X.1 s (L.alive, e) in
        commits_settled n s e a k (left s L) (λ r x z i q. adds-sees n s (txn G.txns s).start e X.0 Y r x (L.rows r z) i q) (adds_top n s (txn G.txns s).start e X.0 Y) t
    retrace d (ends n s e a L sees cur t) X =
        let Y = X s (L.alive, e) in
        ends n s e a (left s L) (λ r z. trims_sees s r Y (L.rows r z)) Y.top t
