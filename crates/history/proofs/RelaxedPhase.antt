-- Request E11: how a run stands to a relaxed query q: before its begin, while it lives, and when it has ended. What is carried along, and what
-- a turn makes of the updates that committed outside its set.
--
-- Why it holds. Who is in the set has the query's bit in its row, and its versions have it in their masks; a committed update never joins, so
-- what is outside stays outside. The query is shown, of each item, the version of the last one that committed it outside the set. One
-- outside that commits holds no item that the query has read, for it would have joined: so the numbers that were read stay.
use Prim.Native.Nat.{ℕ, ◌+◌, ◌≤◌, ◌<◌}
use mathlib.Core.Path.{◌≡◌, refl, sym, ap, ◌∙◌, subst}
use mathlib.Core.Logic.{◌⊎◌, inl, inr}
use mathlib.Core.Bool.{Bool, true, false, ◌||◌, ◌&&◌, not, cond}
use mathlib.Core.List.{List, [], ◌∷◌, ◌++◌, append-nil}
use native.Mathlib.Omega.{arith}
use lib.ListN.{length}
use lib.Dec.{T, eqb, eqb→eq}
use Rattle.names.specs.declared.Sizes.{Sizes}
use Rattle.rules.specs.Words.{some, bit}
use Rattle.rules.specs.Tables.{Tables, last_number, clock, txn, live, live_update, live_relaxed}
use Rattle.rules.specs.Versions.{versions_of, newest, stamp_at, hidden_at}
use Rattle.rules.specs.Good.{Good}
use Rattle.rules.specs.Answers.{Call}
use Rattle.rules.specs.Conditions.{Caller}
use Rattle.rules.proofs.Tests.{and_left, and_right, and_both, or_cases, or_left, or_right, eq_make, is_false}
use Rattle.rules.proofs.Counts.{some_below→, →some_below}
use Rattle.rules.proofs.RowKinds.{relaxed-live}
use Rattle.history.specs.Happened.{Access, Happening, all_of}
use Rattle.history.specs.Serial.{access_of, granted_to, one_by_one}
use Rattle.history.specs.Relaxed.{later_for, in_set, until_end, committer, those, commits_under, committed_under, is_relaxed}
use Rattle.history.proofs.Plain.{Array, zeros, agrees, final}
use Rattle.history.proofs.Replay.{Within, final-append, all_more}
use Rattle.history.proofs.Turns.{Turn}
use Rattle.history.proofs.Leaving.{shown_of}
use Rattle.history.proofs.Seen.{seen, seen_fair}
use Rattle.history.proofs.Standing.{Unknown, unknown_on}
use Rattle.history.proofs.Follows.{unknown_quiet}
use Rattle.history.proofs.RelaxedLists.{or_none, some_append, those-append, those-same, in_those, all_of-append, under_append, under_one, ended}
use Rattle.history.proofs.RelaxedTurns.{grows, committed-unknown, under_low}

-- ---- the set, in the tables G: the query in slot s, the update in slot b
pub record Joined (S : Sizes) (G : Tables) (q u : ℕ) : Type 0 where
  pub slot : ℕ
  pub other : ℕ
  pub slot_inside : slot < S.slots
  pub other_inside : other < S.slots
  pub relaxed : T (live_relaxed (txn G.txns slot))
  pub query : (txn G.txns slot).number ≡ q
  pub alive : T (live (txn G.txns other))
  pub number : (txn G.txns other).number ≡ u
  pub member : T (bit (txn G.txns other).later_for slot)

pub in-set→ : (S : Sizes) (G : Tables) (q u : ℕ) → T (in_set S G q u) → Joined S G q u
unfolding in_set later_for
in-set→ S G q u h =
    let a = some_below→ S.slots _ h in
    let s = a.0 in
    let head = and_left (live_relaxed (txn G.txns s) && eqb (txn G.txns s).number q) _ a.2 in
    let b = some_below→ S.slots _ (and_right (live_relaxed (txn G.txns s) && eqb (txn G.txns s).number q) _ a.2) in
    let r = b.0 in
    let row = and_left (live (txn G.txns r) && eqb (txn G.txns r).number u) _ b.2 in
    record {
      slot = s;
      other = r;
      slot_inside = a.1;
      other_inside = b.1;
      relaxed = and_left (live_relaxed (txn G.txns s)) _ head;
      query = eqb→eq (txn G.txns s).number q (and_right (live_relaxed (txn G.txns s)) _ head);
      alive = and_left (live (txn G.txns r)) _ row;
      number = eqb→eq (txn G.txns r).number u (and_right (live (txn G.txns r)) _ row);
      member = and_right (live (txn G.txns r) && eqb (txn G.txns r).number u) _ b.2;
    }

pub →in-set : (S : Sizes) (G : Tables) (q u : ℕ) → Joined S G q u → T (in_set S G q u)
unfolding in_set later_for
→in-set S G q u j =
    →some_below S.slots _ j.slot j.slot_inside
    (and_both (live_relaxed (txn G.txns j.slot) && eqb (txn G.txns j.slot).number q) _
    (and_both (live_relaxed (txn G.txns j.slot)) _ j.relaxed (eq_make (txn G.txns j.slot).number q j.query))
    (→some_below S.slots _ j.other j.other_inside
    (and_both (live (txn G.txns j.other) && eqb (txn G.txns j.other).number u) _
    (and_both (live (txn G.txns j.other)) _ j.alive (eq_make (txn G.txns j.other).number u j.number)) j.member)))

-- who is unknown is in no set, and nobody is in that of an unknown query, or of one that has not begun
pub unknown-out : (S : Sizes) (G : Tables) (q u : ℕ) → Unknown u (seen S G) → in_set S G q u ≡ false
unknown-out S G q u U =
    is_false (in_set S G q u) (λ h. let j = in-set→ S G q u h in U.nobody j.other (j.other_inside, j.alive) j.number)

pub query-unknown : (S : Sizes) (G : Tables) (q u : ℕ) → Unknown q (seen S G) → in_set S G q u ≡ false
query-unknown S G q u U =
    is_false (in_set S G q u)
    (λ h. let j = in-set→ S G q u h in U.nobody j.slot (j.slot_inside, (relaxed-live (txn G.txns j.slot) j.relaxed).0) j.query)

pub query_unborn : (S : Sizes) (G : Tables) → Good S G → (q u : ℕ) → last_number G.txns < q → in_set S G q u ≡ false
query_unborn S G g q u l =
    is_false (in_set S G q u) (λ h. let j = in-set→ S G q u h in let k = (g.txn_good j.slot j.slot_inside).given in let e = j.query in omega arith)

-- ---- transactions with the same logs
pub one_same : (f k : ℕ → List Access) (ns : List ℕ) → ((n : ℕ) → T (some (eqb n) ns) → f n ≡ k n) → one_by_one f ns ≡ one_by_one k ns
unfolding one_by_one some
one_same f k [] e = refl
one_same f k (n ∷ ns) e =
    ap (λ (l : List Access). l ++ one_by_one f ns) (e n (or_left (eqb n n) _ (eq_make n n refl)))
    ∙ ap (λ (l : List Access). k n ++ l) (one_same f k ns (λ m h. e m (or_right (eqb m n) _ h)))

-- ---- the happenings hs, and who was ever in the set
abbrev pub kept : (ℕ → Bool) → List Happening → List ℕ
kept ever hs = those (λ n. not (ever n)) (all_of committer hs)

abbrev pub log_of : List Happening → ℕ → List Access
log_of hs n = granted_to n hs

-- the array that those leave who committed outside
abbrev pub array_of : (ℕ → Bool) → List Happening → Array
array_of ever hs = final (one_by_one (log_of hs) (kept ever hs)) zeros

module _ (S : Sizes) (q : ℕ) where
  pub record Common (G : Tables) (hs : List Happening) (ever : ℕ → Bool) : Type 0 where
    -- who committed is unknown
    pub dead : (u : ℕ) → T (some (eqb u) (all_of committer hs)) → Unknown u (seen S G)
    -- stamps so far are up to the clock
    pub low : (u d : ℕ) → T (committed_under u d hs) → (d ≤ clock G.txns) × T (some (eqb u) (all_of committer hs))
    -- numbers so far were given
    pub given : (u : ℕ) → T (ever u) → u ≤ last_number G.txns

  -- ---- it has not begun
  pub record Before (G : Tables) (hs : List Happening) (ever : ℕ → Bool) : Type 0 where
    pub common : Common G hs ever
    pub fresh : last_number G.txns < q
    pub none : (u : ℕ) → ever u ≡ false
    pub unborn : is_relaxed q hs ≡ false
    pub unended : ended q hs ≡ false
    pub now : (x : ℕ) → x < S.items → array_of ever hs x ≡ newest S G.versions x

  -- ---- it lives, in slot s
  pub record During (G : Tables) (hs : List Happening) (ever : ℕ → Bool) (s : ℕ) : Type 0 where
    pub common : Common G hs ever
    pub caller : Caller S G q s
    pub relaxed : T (live_relaxed (txn G.txns s))
    pub unended : ended q hs ≡ false
    -- who writes has the bit exactly if it is in the set
    pub member : (b : ℕ) → b < S.slots → T (live_update (txn G.txns b)) → ever (txn G.txns b).number ≡ bit (txn G.txns b).later_for s
    -- and a version has it exactly if its creator is
    pub hidden :
        (x k u : ℕ) → x < S.items → k < length (versions_of S G.versions x) → T (committed_under u (stamp_at (versions_of S G.versions x) k) hs)
        → ever u ≡ bit (hidden_at (versions_of S G.versions x) k) s
    -- what it is shown
    pub now : (x : ℕ) → x < S.items → array_of ever hs x ≡ shown_of S G.versions s x
    -- what it has read it would read now
    pub read : Within (λ x. (x < S.items) × T (bit (txn G.txns s).items_read x)) (log_of hs q)
    pub agree : T (agrees (log_of hs q) (shown_of S G.versions s))

  -- ---- it has ended
  pub record Over (G : Tables) (hs : List Happening) (ever : ℕ → Bool) : Type 0 where
    pub over : ended q hs ≡ true
    pub unknown : Unknown q (seen S G)
    pub dead : (u : ℕ) → T (some (eqb u) (all_of committer (until_end q hs))) → Unknown u (seen S G)
    pub named : Within (λ x. x < S.items) (log_of (until_end q hs) q)
    pub agree : T (agrees (log_of (until_end q hs) q) (array_of ever (until_end q hs)))

  -- ---- no relaxed query has that number
  pub record Else (G : Tables) (hs : List Happening) : Type 0 where
    pub unborn : is_relaxed q hs ≡ false
    pub given : q ≤ last_number G.txns

  pub data Phase (G : Tables) (hs : List Happening) (ever : ℕ → Bool) : Type 0 where
    before : Before G hs ever → Phase G hs ever
    during : (s : ℕ) → During G hs ever s → Phase G hs ever
    over : Over G hs ever → Phase G hs ever
    else : Else G hs → Phase G hs ever

  -- ---- over a turn
  module _
      (G G' : Tables) (g : Good S G) (g' : Good S G') {c : Call} (h : Happening) (t : Turn S.items (seen S G) (seen S G') c h)
      (hs : List Happening) (ever : ℕ → Bool) (C : Common G hs ever)
    where
      abbrev pub hs' : List Happening
      hs' = hs ++ (h ∷ [])

      abbrev pub ever' : ℕ → Bool
      ever' u = ever u || in_set S G' q u

      abbrev ks : List ℕ
      ks = all_of committer hs

      ks_more : all_of committer (hs ++ (h ∷ [])) ≡ all_of committer hs ++ committer h
      unfolding all_of
      ks_more = all_of-append committer hs (h ∷ []) ∙ ap (λ (l : List ℕ). all_of committer hs ++ l) (append-nil (committer h))

      pub log_more : (n : ℕ) → granted_to n (hs ++ (h ∷ [])) ≡ granted_to n hs ++ access_of n h
      unfolding granted_to all_of
      log_more n = all_of-append (access_of n) hs (h ∷ []) ∙ ap (λ (l : List Access). granted_to n hs ++ l) (append-nil (access_of n h))

      pub dead_on : (u : ℕ) → T (some (eqb u) (all_of committer hs)) → Unknown u (seen S G')
      dead_on u m = unknown_on S.items (seen S G) (seen S G') u t (C.dead u m)

      -- who is unknown afterwards does not join
      pub never_joins : (u : ℕ) → Unknown u (seen S G') → ever' u ≡ ever u
      never_joins u U = or_none (ever u) (in_set S G' q u) (unknown-out S G' q u U)

      pub common_on : Common G' (hs ++ (h ∷ [])) (λ u. ever u || in_set S G' q u)
      common_on =
          record {
            dead = λ u m. dead u (or_cases (some (eqb u) ks) _ (subst T (ap (some (eqb u)) ks_more ∙ some_append (eqb u) ks (committer h)) m));
            low = λ u d m. low u d (or_cases (committed_under u d hs) _ (subst T (under_append u d hs (h ∷ []) ∙ ap (λ (b : Bool). committed_under u d hs || b) (under_one u d h)) m));
            given = λ u m. given u (or_cases (ever u) _ m);
          }
        where
          up : (last_number G.txns ≤ last_number G'.txns) × (clock G.txns ≤ clock G'.txns)
          up = grows S.items (seen S G) (seen S G') (seen_fair S G g) t

          dead : (u : ℕ) → T (some (eqb u) ks) ⊎ T (some (eqb u) (committer h)) → Unknown u (seen S G')
          dead u (inl m) = dead_on u m
          dead u (inr m) = committed-unknown S.items (seen S G) (seen S G') (seen_fair S G g) u t m

          more : (u : ℕ) → T (some (eqb u) ks) ⊎ T (some (eqb u) (committer h)) → T (some (eqb u) (all_of committer hs'))
          more u (inl m) = subst T (sym (ap (some (eqb u)) ks_more ∙ some_append (eqb u) ks (committer h))) (or_left (some (eqb u) ks) _ m)
          more u (inr m) = subst T (sym (ap (some (eqb u)) ks_more ∙ some_append (eqb u) ks (committer h))) (or_right (some (eqb u) ks) _ m)

          low : (u d : ℕ) → T (committed_under u d hs) ⊎ T (commits_under u d h) → (d ≤ clock G'.txns) × T (some (eqb u) (all_of committer hs'))
          low u d (inl m) = let r = C.low u d m in ((let a = r.0 in let b = up.1 in omega arith), more u (inl r.1))
          low u d (inr m) = let r = under_low S.items (seen S G) (seen S G') (seen_fair S G g) u d t m in (r.0, more u (inr r.1))

          given : (u : ℕ) → T (ever u) ⊎ T (in_set S G' q u) → u ≤ last_number G'.txns
          given u (inl m) = let a = C.given u m in let b = up.0 in omega arith
          given u (inr m) = let j = in-set→ S G' q u m in let k = (g'.txn_good j.other j.other_inside).given in let e = j.number in omega arith

      -- ---- those outside who committed before
      pub kept_old : those (λ n. not (ever' n)) (all_of committer hs) ≡ kept ever hs
      kept_old = those-same (λ n. not (ever' n)) (λ n. not (ever n)) ks (λ n m. ap not (never_joins n (dead_on n m)))

      pub kept_more : kept ever' (hs ++ (h ∷ [])) ≡ kept ever hs ++ those (λ n. not (ever' n)) (committer h)
      kept_more =
          ap (those (λ n. not (ever' n))) ks_more ∙ those-append (λ n. not (ever' n)) ks (committer h)
          ∙ ap (λ (l : List ℕ). l ++ those (λ n. not (ever' n)) (committer h)) kept_old

      pub same_log : (u : ℕ) → T (some (eqb u) (all_of committer hs)) → granted_to u (hs ++ (h ∷ [])) ≡ granted_to u hs
      same_log u m =
          log_more u
          ∙ ap (λ (l : List Access). granted_to u hs ++ l) (unknown_quiet S.items (seen S G) (seen S G') (seen_fair S G g) u (C.dead u m) t).1 ∙ append-nil (granted_to u hs)

      old_run : one_by_one (log_of (hs ++ (h ∷ []))) (kept ever hs) ≡ one_by_one (log_of hs) (kept ever hs)
      old_run = one_same (log_of hs') (log_of hs) (kept ever hs) (λ n m. same_log n (in_those (λ n. not (ever n)) n ks m).0)

      -- ---- the array: as before where nobody commits
      pub array_none : committer h ≡ [] → array_of ever' (hs ++ (h ∷ [])) ≡ array_of ever hs
      unfolding those
      array_none e =
          ap (λ (ns : List ℕ). final (one_by_one (log_of hs') ns) zeros)
          (kept_more ∙ ap (λ (l : List ℕ). kept ever hs ++ those (λ n. not (ever' n)) l) e ∙ append-nil (kept ever hs))
          ∙ ap (λ (l : List Access). final l zeros) old_run

      -- and with one who commits
      pub array_one :
          (n : ℕ) → committer h ≡ n ∷ []
          → array_of ever' (hs ++ (h ∷ [])) ≡ cond (not (ever' n)) (final (granted_to n (hs ++ (h ∷ []))) (array_of ever hs)) (array_of ever hs)
      unfolding those
      array_one n e =
          ap (λ (ns : List ℕ). final (one_by_one (log_of hs') ns) zeros) (kept_more ∙ ap (λ (l : List ℕ). kept ever hs ++ those (λ n. not (ever' n)) l) e)
          ∙ go (not (ever' n))
        where
          go :
              (b : Bool)
              → final (one_by_one (log_of hs') (kept ever hs ++ cond b (n ∷ []) [])) zeros ≡ cond b (final (granted_to n hs') (array_of ever hs)) (array_of ever hs)
          go true =
              ap (λ (l : List Access). final l zeros) (all_more (log_of hs') (kept ever hs) n)
              ∙ final-append (one_by_one (log_of hs') (kept ever hs)) (granted_to n hs') zeros
              ∙ ap (λ (l : List Access). final (granted_to n hs') (final l zeros)) old_run
          go false =
              ap (λ (ns : List ℕ). final (one_by_one (log_of hs') ns) zeros) (append-nil (kept ever hs)) ∙ ap (λ (l : List Access). final l zeros) old_run
