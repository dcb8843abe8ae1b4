-- Request E11: the definitions of demand 3 for relaxed queries over one list behind another: more calls, and more happenings.
use Prim.Native.Nat.{ℕ, ◌≤◌}
use mathlib.Core.Path.{◌≡◌, refl, sym, ap, ◌∙◌, subst}
use mathlib.Core.Logic.{◌⊎◌, inl, inr}
use mathlib.Core.Bool.{Bool, true, false, ◌||◌, not, cond}
use mathlib.Core.List.{List, [], ◌∷◌, ◌++◌, append_assoc}
use lib.Dec.{T, eqb, eqb→eq}
use Rattle.names.specs.declared.Sizes.{Sizes}
use Rattle.rules.specs.Words.{some}
use Rattle.rules.specs.Tables.{Tables}
use Rattle.rules.specs.Good.{Good}
use Rattle.rules.specs.Answers.{Call}
use Rattle.rules.specs.Step.{step}
use Rattle.rules.proofs.Tests.{or_cases, or_left, or_right, eq_make, true_is, false_is}
use Rattle.rules.proofs.Keeps.{keeps}
use Rattle.history.specs.Runs.{run, end_of}
use Rattle.history.specs.Happened.{SoFar, Happening, happened, begun_with, happenings_after, all_of}
use Rattle.history.specs.Relaxed.{in_set, ever_in_set, ends_it, until_end, those, commits_under, committed_under, began_relaxed, is_relaxed}
use Rattle.history.proofs.Marked.{Known}
use Rattle.history.proofs.Seen.{seen}
use Rattle.history.proofs.Happens.{Happens, step-known}

-- ---- tests
pub or_none : (a b : Bool) → b ≡ false → (a || b) ≡ a
or_none true b e = refl
or_none false b e = e

or_again : (a b c : Bool) → (a || (b || c)) ≡ ((a || b) || c)
or_again true b c = refl
or_again false b c = refl

or_false : (a : Bool) → (a || false) ≡ a
or_false true = refl
or_false false = refl

-- ---- lists of numbers
pub some_append : (p : ℕ → Bool) (ms ns : List ℕ) → some p (ms ++ ns) ≡ (some p ms || some p ns)
unfolding some
some_append p [] ns = refl
some_append p (m ∷ ms) ns = ap (λ (b : Bool). p m || b) (some_append p ms ns) ∙ or_again (p m) (some p ms) (some p ns)

pub those-append : (p : ℕ → Bool) (ms ns : List ℕ) → those p (ms ++ ns) ≡ those p ms ++ those p ns
unfolding those
those-append p [] ns = refl
those-append p (m ∷ ms) ns = go (p m) (those-append p ms ns)
  where
    go :
        (b : Bool) → those p (ms ++ ns) ≡ those p ms ++ those p ns
        → cond b (m ∷ those p (ms ++ ns)) (those p (ms ++ ns)) ≡ cond b (m ∷ those p ms) (those p ms) ++ those p ns
    go true e = ap (λ (l : List ℕ). m ∷ l) e
    go false e = e

-- what holds of every member
pub those-same : (p r : ℕ → Bool) (ns : List ℕ) → ((n : ℕ) → T (some (eqb n) ns) → p n ≡ r n) → those p ns ≡ those r ns
unfolding those some
those-same p r [] f = refl
those-same p r (n ∷ ns) f =
    ap (λ (b : Bool). cond b (n ∷ those p ns) (those p ns)) (f n (or_left (eqb n n) _ (here n)))
    ∙ ap (λ (l : List ℕ). cond (r n) (n ∷ l) l) (those-same p r ns (λ m h. f m (or_right (eqb m n) _ h)))
  where
    here : (m : ℕ) → T (eqb m m)
    here m = eq_make m m refl

pub in_those : (p : ℕ → Bool) (n : ℕ) (ns : List ℕ) → T (some (eqb n) (those p ns)) → T (some (eqb n) ns) × T (p n)
unfolding those some
in_those p n [] h = absurd h
in_those p n (m ∷ ns) h = go (p m) refl h (in_those p n ns)
  where
    on : T (some (eqb n) ns) × T (p n) → T (eqb n m || some (eqb n) ns) × T (p n)
    on r = (or_right (eqb n m) _ r.0, r.1)

    go :
        (b : Bool) → p m ≡ b → T (some (eqb n) (cond b (m ∷ those p ns) (those p ns))) → (T (some (eqb n) (those p ns)) → T (some (eqb n) ns) × T (p n))
        → T (eqb n m || some (eqb n) ns) × T (p n)
    go true e k ih = split (or_cases (eqb n m) _ k)
      where
        split : T (eqb n m) ⊎ T (some (eqb n) (those p ns)) → T (eqb n m || some (eqb n) ns) × T (p n)
        split (inl z) = (or_left (eqb n m) _ z, subst (λ (j : ℕ). T (p j)) (sym (eqb→eq n m z)) (true_is e))
        split (inr z) = on (ih z)
    go false e k ih = on (ih k)

pub those_in : (p : ℕ → Bool) (n : ℕ) (ns : List ℕ) → T (some (eqb n) ns) → T (p n) → T (some (eqb n) (those p ns))
unfolding those some
those_in p n [] h k = absurd h
those_in p n (m ∷ ns) h k = go (p m) refl (or_cases (eqb n m) _ h) (λ z. those_in p n ns z k)
  where
    go :
        (b : Bool) → p m ≡ b → T (eqb n m) ⊎ T (some (eqb n) ns) → (T (some (eqb n) ns) → T (some (eqb n) (those p ns)))
        → T (some (eqb n) (cond b (m ∷ those p ns) (those p ns)))
    go true e (inl z) ih = or_left (eqb n m) _ z
    go true e (inr z) ih = or_right (eqb n m) _ (ih z)
    go false e (inl z) ih = absurd (false_is e (subst (λ (j : ℕ). T (p j)) (eqb→eq n m z) k))
    go false e (inr z) ih = ih z

-- ---- lists of happenings
pub all_of-append : {A : Type 0} (f : Happening → List A) (hs ks : List Happening) → all_of f (hs ++ ks) ≡ all_of f hs ++ all_of f ks
unfolding all_of
all_of-append f [] ks = refl
all_of-append f (h ∷ hs) ks = ap (λ (l : List _). f h ++ l) (all_of-append f hs ks) ∙ sym (append_assoc (f h) (all_of f hs) (all_of f ks))

pub under_append : (u d : ℕ) (hs ks : List Happening) → committed_under u d (hs ++ ks) ≡ (committed_under u d hs || committed_under u d ks)
unfolding committed_under
under_append u d [] ks = refl
under_append u d (h ∷ hs) ks = ap (λ (b : Bool). commits_under u d h || b) (under_append u d hs ks) ∙ or_again (commits_under u d h) (committed_under u d hs) (committed_under u d ks)

pub under_one : (u d : ℕ) (h : Happening) → committed_under u d (h ∷ []) ≡ commits_under u d h
unfolding committed_under
under_one u d h = or_false (commits_under u d h)

pub relaxed-append : (q : ℕ) (hs ks : List Happening) → is_relaxed q (hs ++ ks) ≡ (is_relaxed q hs || is_relaxed q ks)
unfolding is_relaxed
relaxed-append q [] ks = refl
relaxed-append q (h ∷ hs) ks = ap (λ (b : Bool). began_relaxed q h || b) (relaxed-append q hs ks) ∙ or_again (began_relaxed q h) (is_relaxed q hs) (is_relaxed q ks)

pub relaxed_one : (q : ℕ) (h : Happening) → is_relaxed q (h ∷ []) ≡ began_relaxed q h
unfolding is_relaxed
relaxed_one q h = or_false (began_relaxed q h)

-- q ended in the list
unfoldable pub ended : ℕ → List Happening → Bool
ended q [] = false
ended q (h ∷ hs) = ends_it q h || ended q hs

pub ended-append : (q : ℕ) (hs ks : List Happening) → ended q (hs ++ ks) ≡ (ended q hs || ended q ks)
unfolding ended
ended-append q [] ks = refl
ended-append q (h ∷ hs) ks = ap (λ (b : Bool). ends_it q h || b) (ended-append q hs ks) ∙ or_again (ends_it q h) (ended q hs) (ended q ks)

pub ended_one : (q : ℕ) (h : Happening) → ended q (h ∷ []) ≡ ends_it q h
unfolding ended
ended_one q h = or_false (ends_it q h)

-- as long as it did not, all happenings count; afterwards none
pub until_open : (q : ℕ) (hs ks : List Happening) → ended q hs ≡ false → until_end q (hs ++ ks) ≡ hs ++ until_end q ks
unfolding until_end ended
until_open q [] ks e = refl
until_open q (h ∷ hs) ks e = go (ends_it q h) e (until_open q hs ks)
  where
    go :
        (b : Bool) → (b || ended q hs) ≡ false → (ended q hs ≡ false → until_end q (hs ++ ks) ≡ hs ++ until_end q ks)
        → cond b [] (h ∷ until_end q (hs ++ ks)) ≡ h ∷ (hs ++ until_end q ks)
    go true f ih = absurd (false_is f tt)
    go false f ih = ap (λ (l : List Happening). h ∷ l) (ih f)

pub until_all : (q : ℕ) (hs : List Happening) → ended q hs ≡ false → until_end q hs ≡ hs
unfolding until_end ended
until_all q [] e = refl
until_all q (h ∷ hs) e = go (ends_it q h) e (until_all q hs)
  where
    go : (b : Bool) → (b || ended q hs) ≡ false → (ended q hs ≡ false → until_end q hs ≡ hs) → cond b [] (h ∷ until_end q hs) ≡ h ∷ hs
    go true f ih = absurd (false_is f tt)
    go false f ih = ap (λ (l : List Happening). h ∷ l) (ih f)

pub until-over : (q : ℕ) (hs ks : List Happening) → ended q hs ≡ true → until_end q (hs ++ ks) ≡ until_end q hs
unfolding until_end ended
until-over q [] ks e = absurd (false_is (sym e) tt)
until-over q (h ∷ hs) ks e = go (ends_it q h) e (until-over q hs ks)
  where
    go :
        (b : Bool) → (b || ended q hs) ≡ true → (ended q hs ≡ true → until_end q (hs ++ ks) ≡ until_end q hs)
        → cond b [] (h ∷ until_end q (hs ++ ks)) ≡ cond b [] (h ∷ until_end q hs)
    go true f ih = refl
    go false f ih = ap (λ (l : List Happening). h ∷ l) (ih f)

-- ---- more calls
module _ (S : Sizes) where
  pub end_append : (cs ds : List Call) (G : Tables) → end_of S (cs ++ ds) G ≡ end_of S ds (end_of S cs G)
  unfolding end_of
  end_append [] ds G = refl
  end_append (c ∷ cs) ds G = end_append cs ds (step S c G).after

  -- joined after the tables G
  unfoldable pub joins_after : List Call → Tables → ℕ → ℕ → Bool
  joins_after [] G q u = false
  joins_after (c ∷ cs) G q u = in_set S (step S c G).after q u || joins_after cs (step S c G).after q u

  pub ever_is : (cs : List Call) (G : Tables) (q u : ℕ) → ever_in_set S cs G q u ≡ (in_set S G q u || joins_after cs G q u)
  unfolding ever_in_set joins_after
  ever_is [] G q u = sym (or_false (in_set S G q u))
  ever_is (c ∷ cs) G q u = ap (λ (b : Bool). in_set S G q u || b) (ever_is cs (step S c G).after q u)

  pub ever_append : (cs ds : List Call) (G : Tables) (q u : ℕ) → ever_in_set S (cs ++ ds) G q u ≡ (ever_in_set S cs G q u || joins_after ds (end_of S cs G) q u)
  unfolding ever_in_set end_of
  ever_append [] ds G q u = ever_is ds G q u
  ever_append (c ∷ cs) ds G q u =
      ap (λ (b : Bool). in_set S G q u || b) (ever_append cs ds (step S c G).after q u)
      ∙ or_again (in_set S G q u) (ever_in_set S cs (step S c G).after q u) (joins_after ds (end_of S cs (step S c G).after) q u)

  pub ever_one : (cs : List Call) (c : Call) (G : Tables) (q u : ℕ) → ever_in_set S (cs ++ (c ∷ [])) G q u ≡ (ever_in_set S cs G q u || in_set S (step S c (end_of S cs G)).after q u)
  unfolding joins_after
  ever_one cs c G q u =
      ever_append cs (c ∷ []) G q u
      ∙ ap (λ (b : Bool). ever_in_set S cs G q u || b) (or_false (in_set S (step S c (end_of S cs G)).after q u))

  pub ever_more : (cs ds : List Call) (G : Tables) (q u : ℕ) → T (ever_in_set S cs G q u) → T (ever_in_set S (cs ++ ds) G q u)
  ever_more cs ds G q u h = subst T (sym (ever_append cs ds G q u)) (or_left (ever_in_set S cs G q u) _ h)

  -- ---- what happens at one call more
  module _ (enough : S.slots ≤ S.places) where
    pub happens_more :
        (cs : List Call) (us : SoFar) (G : Tables) → Good S G → Known S.items us (seen S G) → (c : Call) (H : Happens S (end_of S cs G) c (step S c (end_of S cs G)))
        → happenings_after us (run S (cs ++ (c ∷ [])) G) ≡ happenings_after us (run S cs G) ++ (H.what ∷ [])
    unfolding run end_of happenings_after
    happens_more [] us G g K c H = ap (λ (h : Happening). h ∷ []) (H.begun us K)
    happens_more (b ∷ cs) us G g K c H =
        let h = happened us b (step S b G).answer in
        ap (λ (l : List Happening). h ∷ l)
        (happens_more cs (begun_with h us) (step S b G).after (keeps S enough b G g) (step-known S enough b G g us K) c H)

  pub happenings-more :
      (cs ds : List Call) (us : SoFar) (G : Tables) → (more : List Happening) × (happenings_after us (run S (cs ++ ds) G) ≡ happenings_after us (run S cs G) ++ more)
  unfolding run happenings_after
  happenings-more [] ds us G = (happenings_after us (run S ds G), refl)
  happenings-more (b ∷ cs) ds us G =
      let h = happened us b (step S b G).answer in
      let m = happenings-more cs ds (begun_with h us) (step S b G).after in
      (m.0, ap (λ (l : List Happening). h ∷ l) m.1)
