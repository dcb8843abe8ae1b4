-- No transaction is a node twice: whoever ends is known no more.
use Prim.Native.Nat.{ℕ, ◌+◌, ◌≤◌}
use mathlib.Core.Path.{◌≡◌, refl, sym, ap, ◌∙◌, subst}
use mathlib.Core.Logic.{◌≢◌, ◌⊎◌, inl, inr}
use mathlib.Core.Bool.{Bool, true, false, cond}
use mathlib.Core.List.{List, [], ◌∷◌, ◌++◌}
use native.Mathlib.Omega.{arith}
use lib.Dec.{eqb}
use borrow.Author.Tests.{eqb-true, ne_eqb}
use Rattle.names.specs.declared.Sizes.{Sizes}
use Rattle.rules.specs.Tables.{Tables, fresh}
use Rattle.rules.specs.Good.{Good}
use Rattle.rules.specs.Answers.{Call}
use Rattle.rules.specs.Step.{step}
use Rattle.rules.proofs.Keeps.{keeps}
use Rattle.rules.proofs.Fresh.{fresh-good}
use Rattle.history.specs.Runs.{run}
use Rattle.history.specs.Happened.{SoFar, none_so_far, Happening, happened, begun_with, clock_after, happenings_after, happenings}
use Rattle.history.specs.Serial.{Entry, numbers_of, Absent, Once}
use Rattle.history.proofs.Order.{All, all_map, all_absent}
use Rattle.history.proofs.Invariant.{View, Fair}
use Rattle.history.proofs.Turns.{Turn, quiet, update_begins, query_begins, relaxed_begins, reads, writes, commits, commits_empty, settles, commits_settled, ends}
use Rattle.history.proofs.Standing.{Unknown, unknown_on, left-unknown}
use Rattle.history.proofs.Marked.{Known}
use Rattle.history.proofs.Seen.{seen, seen_fair}
use Rattle.history.proofs.Happens.{step_turn, step-known, fresh-known}
use Rattle.textbook.specs.Nodes.{queries_with, bearing, node_of, nodes_from, nodes}

-- ---- of queries that bear different numbers one bears n, or none
pub bearing_none : (n : ℕ) (qs : List Entry) → Absent n (numbers_of qs) → bearing n qs ≡ []
unfolding bearing Absent numbers_of
bearing_none n [] a = refl
bearing_none n (q ∷ qs) a = rw (ne_eqb q.number n a.0) (bearing_none n qs a.1)

abbrev Bears : ℕ → List Entry → Type 0
Bears n qs = (bearing n qs ≡ []) ⊎ ((e : Entry) × (bearing n qs ≡ e ∷ []) × (e.number ≡ n))

bearing_one : (n : ℕ) (qs : List Entry) → Once (numbers_of qs) → Bears n qs
unfolding bearing Once numbers_of
bearing_one n [] o = inl refl
bearing_one n (q ∷ qs) o = go (eqb q.number n) refl (bearing_one n qs o.1)
  where
    go :
        (b : Bool) → eqb q.number n ≡ b → Bears n qs
        → (cond b (q ∷ bearing n qs) (bearing n qs) ≡ []) ⊎ ((e : Entry) × (cond b (q ∷ bearing n qs) (bearing n qs) ≡ e ∷ []) × (e.number ≡ n))
    go true z ih =
        let y = eqb-true q.number n z in
        inr (q, ap (λ (l : List Entry). q ∷ l) (bearing_none n qs (subst (λ (k : ℕ). Absent k (numbers_of qs)) y o.0)), y)
    go false z ih = ih

-- ---- what is known of the queries that began
pub record Asked (qs : List Entry) (W : View) : Type 0 where
  pub given : All (λ p n. n ≤ W.last) qs
  pub apart : Once (numbers_of qs)

module _ (items : ℕ) (W W' : View) (F : Fair items W) (qs : List Entry) (A : Asked qs W) where
  still_asked : W.last ≤ W'.last → Asked qs W'
  still_asked l = record { given = all_map _ _ (λ p n h. let a : n ≤ W.last = h in omega arith) qs A.given; apart = A.apart }

  asked_on : {c : Call} {h : Happening} (k : ℕ) → Turn items W W' c h → Asked (queries_with k h qs) W'
  unfolding queries_with All Once numbers_of
  asked_on k (query_begins s B q z f) =
      record {
        given = (let a = B.last in omega arith, (still_asked (let a = B.last in omega arith)).given);
        apart = (all_absent (W.last + 1) qs (all_map _ _ (λ p n h z. let a : n ≤ W.last = h in omega arith) qs A.given), A.apart);
      }
  asked_on k (quiet S) = still_asked (let a = S.last in omega arith)
  asked_on k (update_begins s B q f) = still_asked (let a = B.last in omega arith)
  asked_on k (relaxed_begins s B q f) = still_asked (let a = B.last in omega arith)
  asked_on k (reads n s x v e b S g) = still_asked (let a = S.last in omega arith)
  asked_on k (writes n s x v e b P) = still_asked (let a = P.last in omega arith)
  asked_on k (commits n s e a u L o f t) = still_asked (let a = L.last in omega arith)
  asked_on k (commits_empty n s e a u w L o f t) = still_asked (let a = L.last in omega arith)
  asked_on k (settles n s e B) = still_asked (let a = B.last in omega arith)
  asked_on k (commits_settled n s e a u L o f t) = still_asked (let a = L.last in omega arith)
  asked_on k (ends n s e a L o f t) = still_asked (let a = L.last in omega arith)

  -- ---- who becomes a node was known, and is known no more
  data Becomes (ns : List Entry) : Type 0 where
    nobody : ns ≡ [] → Becomes ns
    somebody : (e : Entry) → ns ≡ e ∷ [] → Unknown e.number W' → ((m : ℕ) → Unknown m W → e.number ≢ m) → Becomes ns

  becomes : {c : Call} {h : Happening} → Turn items W W' c h → Becomes (node_of qs h)
  unfolding node_of
  becomes (quiet S) = nobody refl
  becomes (update_begins s B q f) = nobody refl
  becomes (query_begins s B q z f) = nobody refl
  becomes (relaxed_begins s B q f) = nobody refl
  becomes (reads n s x v e b S g) = nobody refl
  becomes (writes n s x v e b P) = nobody refl
  becomes (settles n s e B) = nobody refl
  becomes (commits n s e a u L o f t) = somebody _ refl (left-unknown items W W' n F s e L) (λ m U z. U.nobody s L.alive (e ∙ z))
  becomes (commits_empty n s e a u w L o f t) = somebody _ refl (left-unknown items W W' n F s e L) (λ m U z. U.nobody s L.alive (e ∙ z))
  becomes (commits_settled n s e a u L o f t) = somebody _ refl (left-unknown items W W' n F s e L) (λ m U z. U.nobody s L.alive (e ∙ z))
  becomes (ends n s e a L o f t) = go (bearing_one n qs A.apart)
    where
      go : Bears n qs → Becomes (bearing n qs)
      go (inl z) = nobody z
      go (inr (q, z, y)) =
          somebody q z (subst (λ (m : ℕ). Unknown m W') (sym y) (left-unknown items W W' n F s e L)) (λ m U w. U.nobody s L.alive (e ∙ sym y ∙ w))

-- ---- of every run
module _ (S : Sizes) (enough : S.slots ≤ S.places) where
  abbrev Ends : ℕ → List Entry → List Happening → Tables → Type 0
  Ends k qs hs G = Once (numbers_of (nodes_from k qs hs)) × ((m : ℕ) → Unknown m (seen S G) → Absent m (numbers_of (nodes_from k qs hs)))

  once-from :
      (cs : List Call) (us : SoFar) (k : ℕ) (qs : List Entry) (G : Tables) → Good S G → Known S.items us (seen S G) → Asked qs (seen S G)
      → Ends k qs (happenings_after us (run S cs G)) G
  unfolding run happenings_after nodes_from numbers_of Once Absent
  once-from [] us k qs G g K A = (tt, λ m U. tt)
  once-from (c ∷ cs) us k qs G g K A =
      let h = happened us c (step S c G).answer in
      let G' = (step S c G).after in
      let t = step_turn S enough c G g us K in
      let F = seen_fair S G g in
      go (becomes S.items (seen S G) (seen S G') F qs A t)
      (once-from cs (begun_with h us) (clock_after k h) (queries_with k h qs) G' (keeps S enough c G g) (step-known S enough c G g us K)
      (asked_on S.items (seen S G) (seen S G') F qs A k t))
      (λ m. unknown_on S.items (seen S G) (seen S G') m t)
    where
      R : List Entry
      R =
          nodes_from (clock_after k (happened us c (step S c G).answer)) (queries_with k (happened us c (step S c G).answer) qs)
          (happenings_after (begun_with (happened us c (step S c G).answer) us) (run S cs (step S c G).after))

      go :
          {ns : List Entry} → Becomes S.items (seen S G) (seen S (step S c G).after) (seen_fair S G g) qs A ns
          → Once (numbers_of R) × ((m : ℕ) → Unknown m (seen S (step S c G).after) → Absent m (numbers_of R))
          → ((m : ℕ) → Unknown m (seen S G) → Unknown m (seen S (step S c G).after))
          → Once (numbers_of (ns ++ R)) × ((m : ℕ) → Unknown m (seen S G) → Absent m (numbers_of (ns ++ R)))
      go (nobody z) ih on = rw z (ih.0, λ m U. ih.1 m (on m U))
      go (somebody e z U apart) ih on = rw z ((ih.1 e.number U, ih.0), λ m V'. (apart m V', ih.1 m (on m V')))

  module _ (room : 1 ≤ S.places) where
    pub nodes-once : (cs : List Call) → Once (numbers_of (nodes (happenings S cs)))
    unfolding nodes happenings All Once numbers_of
    nodes-once cs = (once-from cs none_so_far 0 [] (fresh S) (fresh-good S room) (fresh-known S enough room) (record { given = tt; apart = tt })).0
