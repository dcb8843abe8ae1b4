-- A query is followed through a run by how it stands to an item (Reading): what its granted reads of that item give.
use Prim.Native.Nat.{ℕ, ◌≤◌, ◌<◌}
use mathlib.Core.Path.{◌≡◌, refl, sym, ap, ◌∙◌, subst}
use mathlib.Core.Logic.{◌⊎◌, inl, inr}
use mathlib.Core.Bool.{true, false, cond}
use mathlib.Core.List.{List, [], ◌∷◌, ◌++◌, append_assoc, append-nil}
use native.Mathlib.Omega.{arith}
use lib.Dec.{T, eqb, eqb→eq}
use borrow.Author.Tests.{ne_eqb}
use Rattle.names.specs.declared.Sizes.{Sizes}
use Rattle.rules.specs.Words.{some}
use Rattle.rules.specs.Tables.{Tables}
use Rattle.rules.specs.Good.{Good}
use Rattle.rules.specs.Answers.{Call, Read, Outcome, granted, code}
use Rattle.rules.specs.Step.{step}
use Rattle.rules.proofs.Tests.{is_true, is_false, eq_make}
use Rattle.rules.proofs.Keeps.{keeps}
use Rattle.history.specs.Runs.{run, end_of, Every}
use Rattle.history.specs.Happened.{SoFar, Access, got, put, Happening, query_began, accessed, did, happened, begun_with, happenings_after, all_of, names}
use Rattle.history.specs.Serial.{Entry, access_of, granted_to}
use Rattle.history.specs.Undisturbed.{commit_of, commit_in, last_put, Gives}
use Rattle.history.proofs.Plain.{Array, store, final}
use Rattle.history.proofs.Invariant.{View, Fair, Inv, settled}
use Rattle.history.proofs.Turns.{Gets, by_lock, by_own, by_start, by_set, Turn, quiet, update_begins, query_begins, relaxed_begins, reads, writes, commits, commits_empty, settles, commits_settled, ends}
use Rattle.history.proofs.Marked.{Known}
use Rattle.history.proofs.Preserved.{turn_step}
use Rattle.history.proofs.Seen.{seen, seen_fair}
use Rattle.history.proofs.Happens.{step_turn, granted_turn, step-known}
use Rattle.history.proofs.Standing.{Unknown, left-unknown}
use Rattle.history.proofs.Replies.{unknown-answer, unknown-step}
use Rattle.history.proofs.Reading.{Fixed, Open, began_open, began_fixed, fixed_read, open_read, fixed_on, Next, open_on, over, stays, aborted, committed}

-- ---- the last number put to an item is what the accesses end in
last-put : (l : List Access) (a : Array) (x : ℕ) → final l a x ≡ last_put x l (a x)
unfolding final store last_put
last-put [] a x = refl
last-put (got y v ∷ l) a x = last-put l a x
last-put (put y v ∷ l) a x = last-put l (store a y v) x

-- ---- turns
module _ (items : ℕ) (W W' : View) (F : Fair items W) (m : ℕ) where
  -- who commits is unknown afterwards
  pub commit-unknown : {c : Call} {h : Happening} → Turn items W W' c h → T (commit_of m h) → Unknown m W'
  unfolding commit_of
  commit-unknown (quiet A) t = absurd t
  commit-unknown (update_begins s B k f) t = absurd t
  commit-unknown (query_begins s B q z e) t = absurd t
  commit-unknown (relaxed_begins s B q e) t = absurd t
  commit-unknown (reads n s x v e b A g) t = absurd t
  commit-unknown (writes n s x v e b P) t = absurd t
  commit-unknown (commits n s e a k L o f i) t = left-unknown items W W' m F s (e ∙ eqb→eq n m t) L
  commit-unknown (commits_empty n s e a k w L o f i) t = left-unknown items W W' m F s (e ∙ eqb→eq n m t) L
  commit-unknown (settles n s e B) t = absurd t
  commit-unknown (commits_settled n s e a k L o f i) t = left-unknown items W W' m F s (e ∙ eqb→eq n m t) L
  commit-unknown (ends n s e a L o f i) t = absurd t

  -- an unknown one neither commits nor is granted anything
  caller : (s x v : ℕ) → Gets items W W' s x v → W.alive s
  caller s x v (by_lock u h is) = u.0
  caller s x v (by_own u w is) = u.0
  caller s x v (by_start u h is) = u.0
  caller s x v (by_set u is) = u.0

  not_it : Unknown m W → (s n : ℕ) → W.number s ≡ n → W.alive s → eqb n m ≡ false
  not_it U s n e a = ne_eqb n m (λ z. U.nobody s a (e ∙ z))

  pub unknown_quiet : {c : Call} {h : Happening} → Unknown m W → Turn items W W' c h → (commit_of m h ≡ false) × (access_of m h ≡ [])
  unfolding commit_of access_of
  unknown_quiet U (quiet A) = (refl, refl)
  unknown_quiet U (update_begins s B k f) = (refl, refl)
  unknown_quiet U (query_begins s B q z e) = (refl, refl)
  unknown_quiet U (relaxed_begins s B q e) = (refl, refl)
  unknown_quiet U (reads n s x v e b A g) = (refl, rw (not_it U s n e (caller s x v g)))
  unknown_quiet U (writes n s x v e b P) = (refl, rw (not_it U s n e P.alive))
  unknown_quiet U (commits n s e a k L o f i) = (not_it U s n e L.alive, refl)
  unknown_quiet U (commits_empty n s e a k w L o f i) = (not_it U s n e L.alive, refl)
  unknown_quiet U (settles n s e B) = (refl, refl)
  unknown_quiet U (commits_settled n s e a k L o f i) = (not_it U s n e L.alive, refl)
  unknown_quiet U (ends n s e a L o f i) = (refl, refl)

-- only items are read
item-read : (items : ℕ) (W W' : View) (x : ℕ) {c : Call} {n v : ℕ} → Turn items W W' c (accessed n (got x v)) → x < items
item-read items W W' x (reads n s y v e b A g) = b

-- a query begins
module _ (items x : ℕ) (bx : x < items) (W W' : View) (F : Fair items W) where
  pub begin_open :
      {c : Call} {n : ℕ} → Turn items W W' c (query_began n) → (b : ℕ) → settled W b → T (W.writes b x) → Open n x (W.number b) (W.current x) W'
  begin_open (query_begins s B q z sees) = began_open items x bx W W' F s B q z sees

  pub begin_fixed : {c : Call} {n : ℕ} → Turn items W W' c (query_began n) → ((b : ℕ) → settled W b → T (W.writes b x) → ⊥) → Fixed n x (W.current x) W'
  begin_fixed (query_begins s B q z sees) = began_fixed items x bx W W' F s B q z sees

-- ---- a run, of the calls cs
module _ (S : Sizes) (enough : S.slots ≤ S.places) where
  abbrev after : Call → Tables → Tables
  after c G = (step S c G).after

  -- the turn of a granted read
  read_turn :
      (n x : ℕ) (c : Call) (G : Tables) → Good S G → (us : SoFar) → Known S.items us (seen S G) → c ≡ Read n x → (step S c G).answer.code ≡ granted
      → Turn S.items (seen S G) (seen S (after c G)) c (accessed n (got x (step S c G).answer.value))
  unfolding did
  read_turn n x c G g us K e z =
      subst (λ (h : Happening). Turn S.items (seen S G) (seen S (after c G)) c h)
      (ap (λ (d : Call). did (some (λ n. names n c) us.updates) (some (λ n. names n c) us.stamped) d (step S c G).answer) e) (granted_turn S enough c G g us K z)

  module _ (n x : ℕ) where
    pub outside-run : (v : ℕ) → S.items ≤ x → (cs : List Call) (us : SoFar) (G : Tables) → Good S G → Known S.items us (seen S G) → Every (Gives n x v) (run S cs G)
    unfolding run Every
    outside-run v o [] us G g K = tt
    outside-run v o (c ∷ cs) us G g K = (
      λ e z. absurd (let b = item-read S.items (seen S G) (seen S (after c G)) x (read_turn n x c G g us K e z) in omega arith),
      outside-run v o cs _ (after c G) (keeps S enough c G g) (step-known S enough c G g us K),
    )

    unknown-run : (v : ℕ) (cs : List Call) (G : Tables) → Good S G → Unknown n (seen S G) → Every (Gives n x v) (run S cs G)
    unfolding run Every names
    unknown-run v [] G g U = tt
    unknown-run v (c ∷ cs) G g U = (
      λ e z.
          absurd
          (let a = ap (λ (o : Outcome). o.answer.code) (unknown-answer S enough n G g U c (subst (λ (d : Call). T (names n d)) (sym e) (eq_make n n refl))) in
          omega arith),
      unknown-run v cs (after c G) (keeps S enough c G g) (unknown-step S enough n c G g U),
    )

    pub fixed_run :
        (v : ℕ) → x < S.items → (cs : List Call) (us : SoFar) (G : Tables) → Good S G → Known S.items us (seen S G) → Fixed n x v (seen S G)
        → Every (Gives n x v) (run S cs G)
    unfolding run Every
    fixed_run v bx [] us G g K H = tt
    fixed_run v bx (c ∷ cs) us G g K H = (
      λ e z. fixed_read S.items (seen S G) (seen S (after c G)) (seen_fair S G g) n x bx H (read_turn n x c G g us K e z),
      go (fixed_run v bx cs _ (after c G) (keeps S enough c G g) (step-known S enough c G g us K))
          (fixed_on S.items (seen S G) (seen S (after c G)) (seen_fair S G g) n x bx H (step_turn S enough c G g us K)),
    )
      where
        go :
            (Fixed n x v (seen S (after c G)) → Every (Gives n x v) (run S cs (after c G))) → Unknown n (seen S (after c G)) ⊎ Fixed n x v (seen S (after c G))
            → Every (Gives n x v) (run S cs (after c G))
        go rest (inl U) = unknown-run v cs (after c G) (keeps S enough c G g) U
        go rest (inr H) = rest H

  -- ---- of an unknown one nothing happens
  module _ (m : ℕ) where
    gone-run :
        (cs : List Call) (us : SoFar) (G : Tables) → Good S G → Known S.items us (seen S G) → Unknown m (seen S G)
        → (commit_in m (happenings_after us (run S cs G)) ≡ false) × (granted_to m (happenings_after us (run S cs G)) ≡ [])
    unfolding run happenings_after commit_in granted_to all_of
    gone-run [] us G g K U = (refl, refl)
    gone-run (c ∷ cs) us G g K U =
        let o = unknown_quiet S.items (seen S G) (seen S (after c G)) (seen_fair S G g) m U (step_turn S enough c G g us K) in
        let rest = gone-run cs _ (after c G) (keeps S enough c G g) (step-known S enough c G g us K) (unknown-step S enough m c G g U) in
        (rw (o.0, rest.0), rw (o.1, rest.1))

    pub unknown_end : (cs : List Call) (G : Tables) → Good S G → Unknown m (seen S G) → Unknown m (seen S (end_of S cs G))
    unfolding end_of
    unknown_end [] G g U = U
    unknown_end (c ∷ cs) G g U = unknown_end cs (after c G) (keeps S enough c G g) (unknown-step S enough m c G g U)

    -- ---- what a read of item x gives, m being the one that holds it, l what was granted to it so far, and hs what happens
    module _ (n x v : ℕ) where
      abbrev pub outcome : List Access → List Happening → ℕ
      outcome l hs = cond (commit_in m hs) (last_put x (l ++ granted_to m hs) v) v

      -- one happening more, that is no commit of it
      pub outcome_on : (l : List Access) (h : Happening) (hs : List Happening) → commit_of m h ≡ false → outcome (l ++ access_of m h) hs ≡ outcome l (h ∷ hs)
      unfolding commit_in granted_to all_of
      outcome_on l h hs e = rw e (ap (λ (k : List Access). cond (commit_in m hs) (last_put x k v) v) (append_assoc l (access_of m h) (granted_to m hs)))

      -- nothing that commits it
      outcome_none : (l : List Access) (h : Happening) (hs : List Happening) → commit_of m h ≡ false → commit_in m hs ≡ false → v ≡ outcome l (h ∷ hs)
      unfolding commit_in
      outcome_none l h hs e f = rw (e, f)

      -- its commit, and nothing after it
      outcome-commit :
          (l : List Access) (h : Happening) (hs : List Happening) → commit_of m h ≡ true → access_of m h ≡ [] → granted_to m hs ≡ []
          → last_put x l v ≡ outcome l (h ∷ hs)
      unfolding commit_in granted_to all_of
      outcome-commit l h hs e a f = rw (e, a, f) (ap (λ (k : List Access). last_put x k v) (sym (append-nil l)))

      pub open_run :
          x < S.items → (cs : List Call) (us : SoFar) (es : List Entry) (log : ℕ → List Access) (G : Tables) → Good S G → Known S.items us (seen S G)
          → Inv S.items es log (seen S G) → Open n x m v (seen S G)
          → Every (Gives n x (outcome (log m) (happenings_after us (run S cs G)))) (run S cs G)
      unfolding run Every happenings_after
      open_run bx [] us es log G g K J H = tt
      open_run bx (c ∷ cs) us es log G g K J H = (
        λ e z. absurd (open_read S.items (seen S G) (seen S (after c G)) (seen_fair S G g) n x bx H (read_turn n x c G g us K e z)),
        go (open_run bx cs _ _ _ (after c G) g' K' (turn_step S.items es log (seen S G) (seen S (after c G)) (seen_fair S G g) J t))
            (open_on S.items (seen S G) (seen S (after c G)) (seen_fair S G g) n x bx H t),
      )
        where
          h : Happening
          h = happened us c (step S c G).answer

          t : Turn S.items (seen S G) (seen S (after c G)) c (happened us c (step S c G).answer)
          t = step_turn S enough c G g us K

          g' : Good S (after c G)
          g' = keeps S enough c G g

          K' : Known S.items (begun_with (happened us c (step S c G).answer) us) (seen S (after c G))
          K' = step-known S enough c G g us K

          hs : List Happening
          hs = happenings_after (begun_with (happened us c (step S c G).answer) us) (run S cs (after c G))

          rest_as : {k : ℕ} → k ≡ outcome (log m) (h ∷ hs) → Every (Gives n x k) (run S cs (after c G)) → Every (Gives n x (outcome (log m) (h ∷ hs))) (run S cs (after c G))
          rest_as e r = subst (λ (k : ℕ). Every (Gives n x k) (run S cs (after c G))) e r

          go :
              (Open n x m v (seen S (after c G)) → Every (Gives n x (outcome (log m ++ access_of m h) hs)) (run S cs (after c G)))
              → Next S.items (seen S G) (seen S (after c G)) (seen_fair S G g) n x bx m v h
              → Every (Gives n x (outcome (log m) (h ∷ hs))) (run S cs (after c G))
          go rest (over U) = unknown-run n x _ cs (after c G) g' U
          go rest (stays O) =
              rest_as
              (outcome_on (log m) h hs
              (is_false (commit_of m h)
              (λ z. (commit-unknown S.items (seen S G) (seen S (after c G)) (seen_fair S G g) m t z).nobody O.holder O.past.0 O.name)))
              (rest O)
          go rest (aborted U H e) = rest_as (outcome_none (log m) h hs e (gone-run cs _ (after c G) g' K' U).0) (fixed_run n x v bx cs _ (after c G) g' K' H)
          go rest (committed b p name w U H e a) =
              rest_as
              (sym
              (sym (last-put (log m) (λ y. v) x)
              ∙ subst (λ (j : ℕ). final (log j) (λ y. v) x ≡ (seen S G).working x) name
              ((J.slots b p.0).ends (λ z. let k = p.1 in omega arith) (λ y. v) x bx ∙ rw (is_true ((seen S G).writes b x) w)))
              ∙ outcome-commit (log m) h hs e a (gone-run cs _ (after c G) g' K' U).1)
              (fixed_run n x _ bx cs _ (after c G) g' K' H)
