-- The nodes are those who committed as updates, and those who began as strict queries and ended.
use Prim.Native.Nat.{ℕ, ◌+◌, ◌≤◌}
use mathlib.Core.Path.{◌≡◌, refl, sym, ap, ◌∙◌, subst}
use mathlib.Core.Logic.{◌≢◌, ◌⊎◌, inl, inr}
use mathlib.Core.Bool.{Bool, true, false, ◌&&◌, ◌||◌, cond}
use mathlib.Core.List.{List, [], ◌∷◌, ◌++◌}
use native.Mathlib.Omega.{arith}
use lib.Dec.{T, eqb, eqb→eq}
use borrow.Author.Tests.{eq-eqb, ne_eqb}
use Rattle.names.specs.declared.Sizes.{Sizes}
use Rattle.rules.specs.Words.{some}
use Rattle.rules.specs.Tables.{Tables, fresh, last_number}
use Rattle.rules.specs.Good.{Good}
use Rattle.rules.specs.Answers.{Call}
use Rattle.rules.specs.Step.{step}
use Rattle.rules.proofs.Tests.{same?}
use Rattle.rules.proofs.Keeps.{keeps}
use Rattle.rules.proofs.Fresh.{fresh-good}
use Rattle.history.specs.Runs.{run}
use Rattle.history.specs.Happened.{SoFar, none_so_far, Happening, update_began, query_began, relaxed_began, accessed, update_committed, empty_committed, settled_under, only_ended, nothing}
use Rattle.history.specs.Happened.{happened, begun_with, clock_after, happenings_after, happenings}
use Rattle.history.specs.Serial.{Entry, numbers_of}
use Rattle.history.specs.Undisturbed.{commit_of, commit_in}
use Rattle.history.specs.Relaxed.{ends_it}
use Rattle.history.proofs.Invariant.{View, Fair}
use Rattle.history.proofs.Turns.{Turn, quiet, update_begins, query_begins, relaxed_begins, reads, writes, commits, commits_empty, settles, commits_settled, ends}
use Rattle.history.proofs.Marked.{Known}
use Rattle.history.proofs.Seen.{seen, seen_fair}
use Rattle.history.proofs.Happens.{step_turn, step-known, fresh-known}
use Rattle.textbook.specs.Nodes.{queries_with, bearing, node_of, nodes_from, nodes, asks, committed_or_ended}
use Rattle.textbook.specs.Promises.{Exactly}

eqb_turn : (a b : ℕ) → eqb a b ≡ eqb b a
eqb_turn a b = go (same? a b)
  where
    go : (a ≡ b) ⊎ (a ≢ b) → eqb a b ≡ eqb b a
    go (inl e) = eq-eqb a b e ∙ sym (eq-eqb b a (sym e))
    go (inr d) = ne_eqb a b d ∙ sym (ne_eqb b a (λ z. d (sym z)))

-- those of the list who bear m, if n is one of them it is m
bearing_some : (n m : ℕ) (qs : List Entry) → some (eqb n) (numbers_of (bearing m qs)) ≡ (eqb m n && some (eqb n) (numbers_of qs))
unfolding some numbers_of bearing
bearing_some n m [] = none (eqb m n)
  where
    none : (b : Bool) → false ≡ (b && false)
    none true = refl
    none false = refl
bearing_some n m (q ∷ qs) = go (same? q.number m) (bearing_some n m qs)
  where
    k : ℕ
    k = q.number

    here : (a b c : Bool) → a ≡ b → (a || (b && c)) ≡ (b && (a || c))
    here true true c e = refl
    here false false c e = refl
    here true false c e = absurd (subst T e tt)
    here false true c e = absurd (subst T (sym e) tt)

    there : (b a c : Bool) → (T b → a ≡ false) → (b && c) ≡ (b && (a || c))
    there true a c f = sym (ap (λ (z : Bool). z || c) (f tt))
    there false a c f = refl

    go :
        (q.number ≡ m) ⊎ (q.number ≢ m) → some (eqb n) (numbers_of (bearing m qs)) ≡ (eqb m n && some (eqb n) (numbers_of qs))
        → some (eqb n) (numbers_of (cond (eqb q.number m) (q ∷ bearing m qs) (bearing m qs))) ≡ (eqb m n && (eqb n q.number || some (eqb n) (numbers_of qs)))
    go (inl e) ih =
        rw (eq-eqb k m e)
        (ap (λ (b : Bool). eqb n k || b) ih ∙ here (eqb n k) (eqb m n) (some (eqb n) (numbers_of qs)) (eqb_turn n k ∙ ap (λ (j : ℕ). eqb j n) e))
    go (inr d) ih = rw (ne_eqb k m d) (ih ∙ there (eqb m n) (eqb n k) (some (eqb n) (numbers_of qs)) (λ t. ne_eqb n k (λ z. d (sym (eqb→eq m n t ∙ z)))))

-- ---- a query that begins later bears a greater number
module _ (items : ℕ) (W W' : View) where
  later : {c : Call} {h : Happening} (n : ℕ) → Turn items W W' c h → n ≤ W.last → (asks n h ≡ false) × (n ≤ W'.last)
  unfolding asks
  later n (query_begins s B q z f) l = (ne_eqb (W.last + 1) n (λ y. omega arith), let a = B.last in omega arith)
  later n (quiet A) l = (refl, let a = A.last in omega arith)
  later n (update_begins s B k f) l = (refl, let a = B.last in omega arith)
  later n (relaxed_begins s B q f) l = (refl, let a = B.last in omega arith)
  later n (reads m s x v e b A g) l = (refl, let a = A.last in omega arith)
  later n (writes m s x v e b P) l = (refl, let a = P.last in omega arith)
  later n (commits m s e a u L o f t) l = (refl, let a = L.last in omega arith)
  later n (commits_empty m s e a u w L o f t) l = (refl, let a = L.last in omega arith)
  later n (settles m s e B) l = (refl, let a = B.last in omega arith)
  later n (commits_settled m s e a u L o f t) l = (refl, let a = L.last in omega arith)
  later n (ends m s e a L o f t) l = (refl, let a = L.last in omega arith)

  -- whoever ends was given its number
  ended-given : Fair items W → {c : Call} {h : Happening} (n : ℕ) → Turn items W W' c h → T (ends_it n h) → n ≤ W'.last
  unfolding ends_it
  ended-given F n (ends m s e a L o f t) z = go (same? m n)
    where
      go : (m ≡ n) ⊎ (m ≢ n) → n ≤ W'.last
      go (inl y) = let b = F.known s L.alive in let c = L.last in omega arith
      go (inr d) = absurd (subst T (ne_eqb m n d) z)
  ended-given F n (quiet A) z = absurd z
  ended-given F n (update_begins s B k f) z = absurd z
  ended-given F n (query_begins s B q y f) z = absurd z
  ended-given F n (relaxed_begins s B q f) z = absurd z
  ended-given F n (reads m s x v e b A g) z = absurd z
  ended-given F n (writes m s x v e b P) z = absurd z
  ended-given F n (commits m s e a u L o f t) z = absurd z
  ended-given F n (commits_empty m s e a u w L o f t) z = absurd z
  ended-given F n (settles m s e B) z = absurd z
  ended-given F n (commits_settled m s e a u L o f t) z = absurd z

-- ---- one happening: a says that n is a query that began before, k that it is one that begins later, c that it commits later, e that it ends
-- later
abbrev Then : Bool → Bool → Bool → Bool → Bool
Then a k c e = c || ((a || k) && e)

commits_so : (n m : ℕ) (c r : Bool) → ((eqb n m || false) || (c || r)) ≡ ((eqb m n || c) || r)
commits_so n m c r = ap (λ (b : Bool). (b || false) || (c || r)) (eqb_turn n m) ∙ go (eqb m n)
  where
    go : (b : Bool) → ((b || false) || (c || r)) ≡ ((b || c) || r)
    go true = refl
    go false = refl

one_more_lem :
    (n k : ℕ) (qs : List Entry) (h : Happening) (later commit end : Bool) → (T (ends_it n h) → later ≡ false)
    → (some (eqb n) (numbers_of (node_of qs h)) || Then (some (eqb n) (numbers_of (queries_with k h qs))) later commit end)
    ≡ Then (some (eqb n) (numbers_of qs)) (asks n h || later) (commit_of n h || commit) (ends_it n h || end)
unfolding node_of queries_with asks commit_of ends_it some numbers_of
one_more_lem n k qs (update_began m) l c e f = refl
one_more_lem n k qs (relaxed_began m) l c e f = refl
one_more_lem n k qs (accessed m a) l c e f = refl
one_more_lem n k qs (settled_under m d) l c e f = refl
one_more_lem n k qs nothing l c e f = refl
one_more_lem n k qs (update_committed m d) l c e f = commits_so n m c _
one_more_lem n k qs (empty_committed m d) l c e f = commits_so n m c _
one_more_lem n k qs (query_began m) l c e f = begins_so (eqb n m) (eqb m n) (some (eqb n) (numbers_of qs)) l c e (eqb_turn n m)
  where
    begins_so : (a b q l c e : Bool) → a ≡ b → Then (a || q) l c e ≡ Then q (b || l) c e
    begins_so true true true l c e z = refl
    begins_so true true false l c e z = refl
    begins_so false false q l c e z = refl
    begins_so true false q l c e z = absurd (subst T z tt)
    begins_so false true q l c e z = absurd (subst T (sym z) tt)
one_more_lem n k qs (only_ended m) l c e f =
    ap (λ (b : Bool). b || Then (some (eqb n) (numbers_of qs)) l c e) (bearing_some n m qs) ∙ ends_so (eqb m n) (some (eqb n) (numbers_of qs)) l c e f
  where
    ends_so : (b q l c e : Bool) → (T b → l ≡ false) → ((b && q) || Then q l c e) ≡ Then q l c (b || e)
    ends_so false q l c e f = refl
    ends_so true true l true e f = refl
    ends_so true true l false e f = refl
    ends_so true false true c e f = absurd (subst T (f tt) tt)
    ends_so true false false true e f = refl
    ends_so true false false false e f = refl

-- ---- of every run
module _ (S : Sizes) (enough : S.slots ≤ S.places) where
  none_later : (cs : List Call) (us : SoFar) (G : Tables) → Good S G → Known S.items us (seen S G) → (n : ℕ) → n ≤ last_number G.txns → some (asks n) (happenings_after us (run S cs G)) ≡ false
  unfolding run happenings_after some
  none_later [] us G g K n l = refl
  none_later (c ∷ cs) us G g K n l =
      let h = happened us c (step S c G).answer in
      let G' = (step S c G).after in
      let p = later S.items (seen S G) (seen S G') n (step_turn S enough c G g us K) l in
      ap (λ (b : Bool). b || some (asks n) (happenings_after (begun_with h us) (run S cs G'))) p.0
      ∙ none_later cs (begun_with h us) G' (keeps S enough c G g) (step-known S enough c G g us K) n p.1

  some_both : (p : ℕ → Bool) (es ds : List Entry) → some p (numbers_of (es ++ ds)) ≡ (some p (numbers_of es) || some p (numbers_of ds))
  unfolding some numbers_of
  some_both p [] ds = refl
  some_both p (e ∷ es) ds = ap (λ (b : Bool). p e.number || b) (some_both p es ds) ∙ assoc (p e.number) _ _
    where
      assoc : (a b c : Bool) → (a || (b || c)) ≡ ((a || b) || c)
      assoc true b c = refl
      assoc false b c = refl

  exact-from :
      (cs : List Call) (us : SoFar) (k : ℕ) (qs : List Entry) (G : Tables) → Good S G → Known S.items us (seen S G) → (n : ℕ)
      → some (eqb n) (numbers_of (nodes_from k qs (happenings_after us (run S cs G))))
      ≡ Then (some (eqb n) (numbers_of qs)) (some (asks n) (happenings_after us (run S cs G))) (commit_in n (happenings_after us (run S cs G))) (some (ends_it n) (happenings_after us (run S cs G)))
  unfolding run happenings_after nodes_from commit_in some numbers_of
  exact-from [] us k qs G g K n = none (some (eqb n) (numbers_of qs))
    where
      none : (a : Bool) → false ≡ Then a false false false
      none true = refl
      none false = refl
  exact-from (c ∷ cs) us k qs G g K n =
      let h = happened us c (step S c G).answer in
      let G' = (step S c G).after in
      let hs = happenings_after (begun_with h us) (run S cs G') in
      let K' = step-known S enough c G g us K in
      let g' = keeps S enough c G g in
      some_both (eqb n) (node_of qs h) (nodes_from (clock_after k h) (queries_with k h qs) hs)
      ∙ ap (λ (b : Bool). some (eqb n) (numbers_of (node_of qs h)) || b) (exact-from cs (begun_with h us) (clock_after k h) (queries_with k h qs) G' g' K' n)
      ∙ one_more_lem n k qs h (some (asks n) hs) (commit_in n hs) (some (ends_it n) hs)
      (λ t. none_later cs (begun_with h us) G' g' K' n (ended-given S.items (seen S G) (seen S G') (seen_fair S G g) n (step_turn S enough c G g us K) t))

  pub exactly : (room : 1 ≤ S.places) (cs : List Call) → Exactly S cs
  unfolding nodes happenings committed_or_ended some numbers_of
  exactly room cs n = exact-from cs none_so_far 0 [] (fresh S) (fresh-good S room) (fresh-known S enough room) n
