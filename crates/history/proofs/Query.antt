-- What a query reads: the newest version stamped up to its start (`reads-as-begun`), whatever others call (`undisturbed`).
use Prim.Native.Nat.{ℕ, ◌≤◌, ◌<◌}
use mathlib.Core.Path.{◌≡◌, refl, sym, subst}
use mathlib.Core.Logic.{◌⊎◌, inl, inr}
use mathlib.Core.Bool.{Bool, true, false, ◌&&◌, cond}
use mathlib.Core.List.{List, [], ◌∷◌, ◌++◌}
use Rattle.names.specs.declared.Sizes.{Sizes}
use Rattle.rules.specs.Words.{some_below}
use Rattle.rules.specs.Tables.{Tables, txn, live_settled, lock, holds_exclusive, fresh}
use Rattle.rules.specs.Good.{Good}
use Rattle.rules.specs.Versions.{newest}
use Rattle.rules.specs.Answers.{Call, BeginQuery, Read, granted}
use Rattle.rules.specs.Step.{step}
use Rattle.rules.proofs.Tests.{true_is, false_is, is_false, and_left, and_right, and_both}
use Rattle.rules.proofs.Counts.{some_below→, →some_below}
use Rattle.rules.proofs.EqualRows.{settled-live, live-settled}
use Rattle.rules.proofs.Keeps.{keeps}
use Rattle.rules.proofs.Fresh.{fresh-good}
use Rattle.history.specs.Runs.{Event, run, end_of, Every}
use Rattle.history.specs.Happened.{SoFar, none_so_far, Access, Happening, query_began, did, happened, begun_with, happenings_after, happenings}
use Rattle.history.specs.Serial.{Entry, granted_to}
use Rattle.history.specs.Undisturbed.{commit_of, commit_in, last_put, left_by, PastIn, PastOn, Gives, ReadsUpTo, ReadsAsBegun, Alike, Undisturbed}
use Rattle.history.proofs.Invariant.{Inv, settled}
use Rattle.history.proofs.Turns.{Turn}
use Rattle.history.proofs.Marked.{Known}
use Rattle.history.proofs.Preserved.{turn_step}
use Rattle.history.proofs.Tables.{inside?}
use Rattle.history.proofs.Seen.{seen, seen_fair}
use Rattle.history.proofs.Happens.{step_turn, granted_turn, step-known, run-good, run-known, fresh-known}
use Rattle.history.proofs.Theorem.{after-fresh}
use Rattle.history.proofs.Reading.{Open}
use Rattle.history.proofs.Follows.{commit-unknown, begin_open, begin_fixed, outside-run, fixed_run, unknown_end, outcome, outcome_on, open_run}

-- ---- events
every_map : (P Q : Event → Type 0) → ((e : Event) → P e → Q e) → (es : List Event) → Every P es → Every Q es
unfolding Every
every_map P Q f [] h = tt
every_map P Q f (e ∷ es) h = (f e h.0, every_map P Q f es h.1)

every_all : (P : ℕ → Event → Type 0) (es : List Event) → ((x : ℕ) → Every (P x) es) → Every (λ e. (x : ℕ) → P x e) es
unfolding Every
every_all P [] h = tt
every_all P (e ∷ es) h = (λ x. (h x).0, every_all P es (λ x. (h x).1))

module _ (S : Sizes) (enough : S.slots ≤ S.places) where
  abbrev after : Call → Tables → Tables
  after c G = (step S c G).after

  -- the turn of a query's begin
  begin_turn :
      (n : ℕ) (G : Tables) → Good S G → (us : SoFar) → Known S.items us (seen S G) → (step S BeginQuery G).answer.code ≡ granted
      → (step S BeginQuery G).answer.number ≡ n → Turn S.items (seen S G) (seen S (after BeginQuery G)) BeginQuery (query_began n)
  unfolding did
  begin_turn n G g us K e m =
      subst (λ (j : ℕ). Turn S.items (seen S G) (seen S (after BeginQuery G)) BeginQuery (query_began j)) m
      (granted_turn S enough BeginQuery G g us K e)

  past-settled : (G : Tables) (b : ℕ) → PastIn S G b → settled (seen S G) b
  past-settled G b p = let k = settled-live (txn G.txns b) p.1 in ((p.0, k.0), k.1)

  -- ---- after the calls `before`, which leave one past its writing on the item x
  module _ (cs : List Call) (n x : ℕ) (bx : x < S.items) where
    held-run :
        (before : List Call) (us : SoFar) (es : List Entry) (log : ℕ → List Access) (G : Tables) → Good S G → Known S.items us (seen S G)
        → Inv S.items es log (seen S G)
        → let H = end_of S before G in
        let o = step S BeginQuery H in
        o.answer.code ≡ granted → o.answer.number ≡ n
        → (b : ℕ) → PastOn S H x b
        → Every
        (Gives n x
        (outcome S enough (txn H.txns b).number n x (newest S H.versions x) (log (txn H.txns b).number)
        (happenings_after us (run S (before ++ (BeginQuery ∷ cs)) G))))
        (run S cs o.after)
    unfolding end_of run happenings_after
    held-run [] us es log G g K J e i b p =
        subst (λ (k : ℕ). Every (Gives n x k) (run S cs (after BeginQuery G)))
        (outcome_on S enough m n x v (log m) h hs (is_false (commit_of m h) (λ z. (commit-unknown S.items (seen S G) (seen S G') (seen_fair S G g) m t z).nobody O.holder O.past.0 O.name)))
        (open_run S enough m n x v bx cs _ _ _ G' (keeps S enough BeginQuery G g) (step-known S enough BeginQuery G g us K)
        (turn_step S.items es log (seen S G) (seen S G') (seen_fair S G g) J t) O)
      where
        m : ℕ
        m = (txn G.txns b).number

        v : ℕ
        v = newest S G.versions x

        G' : Tables
        G' = (step S BeginQuery G).after

        h : Happening
        h = happened us BeginQuery (step S BeginQuery G).answer

        hs : List Happening
        hs = happenings_after (begun_with (happened us BeginQuery (step S BeginQuery G).answer) us) (run S cs (step S BeginQuery G).after)

        t : Turn S.items (seen S G) (seen S (step S BeginQuery G).after) BeginQuery (happened us BeginQuery (step S BeginQuery G).answer)
        t = step_turn S enough BeginQuery G g us K

        O : Open n x (txn G.txns b).number (newest S G.versions x) (seen S (step S BeginQuery G).after)
        O =
            begin_open S.items x bx (seen S G) (seen S (step S BeginQuery G).after) (seen_fair S G g) (begin_turn n G g us K e i) b (past-settled G b p.0) p.1
    held-run (c ∷ before) us es log G g K J e i b p =
        subst (λ (k : ℕ). Every (Gives n x k) (run S cs (step S BeginQuery H).after))
        (outcome_on S enough m n x v (log m) (happened us c (step S c G).answer) _
        (is_false (commit_of m (happened us c (step S c G).answer))
        (λ z.
        (unknown_end S enough m before (after c G) (keeps S enough c G g)
        (commit-unknown S.items (seen S G) (seen S (after c G)) (seen_fair S G g) m (step_turn S enough c G g us K) z)
        ).nobody b (past-settled H b p.0).0 refl)))
        (held-run before _ _ _ (after c G) (keeps S enough c G g) (step-known S enough c G g us K)
        (turn_step S.items es log (seen S G) (seen S (after c G)) (seen_fair S G g) J (step_turn S enough c G g us K)) e i b p)
      where
        H : Tables
        H = end_of S before (step S c G).after

        m : ℕ
        m = (txn (end_of S before (step S c G).after).txns b).number

        v : ℕ
        v = newest S (end_of S before (step S c G).after).versions x

  module _ (room : 1 ≤ S.places) where
    -- the tables that the calls `before` leave, on which the query begins; and the tables then
    abbrev left : List Call → Tables
    left before = end_of S before (fresh S)

    abbrev since : List Call → Tables
    since before = (step S BeginQuery (left before)).after

    pub reads_as_begun : ReadsAsBegun S
    unfolding ReadsAsBegun left_by happenings
    reads_as_begun before cs n x e m =
        record {
          free = λ none. free none (inside? x S.items);
          held = λ b p. held b p (inside? x S.items);
        }
      where
        G : Tables
        G = left before

        g : Good S (left before)
        g = run-good S enough room before

        us : SoFar
        us = (run-known S enough room before).0

        K : Known S.items (run-known S enough room before).0 (seen S (left before))
        K = (run-known S enough room before).1

        outside : (v : ℕ) → S.items ≤ x → Every (Gives n x v) (run S cs (since before))
        outside v o =
            outside-run S enough n x v o cs _ (since before) (keeps S enough BeginQuery G g) (step-known S enough BeginQuery G g us K)

        free :
            ((b : ℕ) → PastOn S (left before) x b → ⊥) → (x < S.items) ⊎ (S.items ≤ x)
            → Every (Gives n x (newest S (left before).versions x)) (run S cs (since before))
        free none (inl bx) =
            fixed_run S enough n x (newest S G.versions x) bx cs _ (since before) (keeps S enough BeginQuery G g) (step-known S enough BeginQuery G g us K)
            (begin_fixed S.items x bx (seen S G) (seen S (since before)) (seen_fair S G g) (begin_turn n G g us K e m)
            (λ b p w. none b ((p.0.0, live-settled (txn G.txns b) p.0.1 p.1), w)))
        free none (inr o) = outside _ o

        held :
            (b : ℕ) → PastOn S (left before) x b → (x < S.items) ⊎ (S.items ≤ x)
            → Every
            (Gives n x (left_by (txn (left before).txns b).number (happenings S (before ++ (BeginQuery ∷ cs))) x (newest S (left before).versions x)))
            (run S cs (since before))
        held b p (inl bx) =
            held-run cs n x bx before none_so_far [] (λ j. []) (fresh S) (fresh-good S room) (fresh-known S enough room) (after-fresh S enough room) e m b p
        held b p (inr o) = outside _ o

    -- ---- whatever others call
    -- somebody past its writing holds the item, or nobody
    past? : (G : Tables) (x : ℕ) → ((b : ℕ) × PastOn S G x b) ⊎ ((b : ℕ) → PastOn S G x b → ⊥)
    past? G x = go (some_below S.slots on) refl
      where
        on : ℕ → Bool
        on b = live_settled (txn G.txns b) && holds_exclusive (lock G.locks x) b

        go : (z : Bool) → some_below S.slots (λ b. live_settled (txn G.txns b) && holds_exclusive (lock G.locks x) b) ≡ z
            → ((b : ℕ) × PastOn S G x b) ⊎ ((b : ℕ) → PastOn S G x b → ⊥)
        go true e =
            let o = some_below→ S.slots on (true_is e) in
            let b = o.0 in
            inl (b, ((o.1, and_left (live_settled (txn G.txns b)) _ o.2), and_right (live_settled (txn G.txns b)) _ o.2))
        go false e =
            inr (λ b p. false_is e (→some_below S.slots on b p.0.0 (and_both (live_settled (txn G.txns b)) _ p.0.1 p.1)))

    -- what it leaves is the same in both
    left-alike : (G : Tables) (hs ks : List Happening) → Alike S G hs ks → (b : ℕ) → PastIn S G b → (x v : ℕ)
        → left_by (txn G.txns b).number hs x v ≡ left_by (txn G.txns b).number ks x v
    unfolding Alike left_by
    left-alike G hs ks alike b p x v = go (commit_in m hs) refl (commit_in m ks) refl
      where
        m : ℕ
        m = (txn G.txns b).number

        go :
            (y : Bool) → commit_in (txn G.txns b).number hs ≡ y → (z : Bool) → commit_in (txn G.txns b).number ks ≡ z
            → cond y (last_put x (granted_to (txn G.txns b).number hs) v) v ≡ cond z (last_put x (granted_to (txn G.txns b).number ks) v) v
        go true e true f = (alike b p (inl (true_is e))).2 x v
        go true e false f = absurd (false_is f (alike b p (inl (true_is e))).1)
        go false e true f = absurd (false_is e (alike b p (inr (true_is f))).0)
        go false e false f = refl

    pub undisturbed : Undisturbed S
    unfolding Undisturbed
    undisturbed before cs ds n e m alike = every_all (λ x f. f.call ≡ Read n x → f.answer.code ≡ granted → Every (Gives n x f.answer.value) (run S ds (since before))) (run S cs (since before)) (λ x. go x (past? G x))
      where
        G : Tables
        G = left before

        all :
            (cs : List Call) (x : ℕ)
            → ReadsUpTo S (left before) (happenings S (before ++ (BeginQuery ∷ cs))) (run S cs (since before)) n x
        all cs x = unfold ReadsAsBegun in reads_as_begun before cs n x e m

        -- both give v
        both :
            (x v : ℕ) → Every (Gives n x v) (run S cs (since before))
            → Every (Gives n x v) (run S ds (since before))
            → Every
            (λ f. f.call ≡ Read n x → f.answer.code ≡ granted → Every (Gives n x f.answer.value) (run S ds (since before)))
            (run S cs (since before))
        both x v one other =
            every_map (Gives n x v) _ (λ f h i j. subst (λ (k : ℕ). Every (Gives n x k) (run S ds (since before))) (sym (h i j)) other) (run S cs (since before)) one

        go :
            (x : ℕ) → ((b : ℕ) × PastOn S (left before) x b) ⊎ ((b : ℕ) → PastOn S (left before) x b → ⊥)
            → Every
            (λ f. f.call ≡ Read n x → f.answer.code ≡ granted → Every (Gives n x f.answer.value) (run S ds (since before)))
            (run S cs (since before))
        go x (inl p) =
            both x _ ((all cs x).held p.0 p.1)
            (subst (λ (k : ℕ). Every (Gives n x k) (run S ds (since before))) (sym (left-alike G _ _ alike p.0 p.1.0 x (newest S G.versions x)))
            ((all ds x).held p.0 p.1))
        go x (inr none) = both x _ ((all cs x).free none) ((all ds x).free none)
