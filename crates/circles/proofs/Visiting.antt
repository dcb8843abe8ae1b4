-- One visit of the search, in terms of walks.
use Prim.Native.Nat.{ℕ, ◌+◌, ◌-◌, ◌^◌, ◌≤◌, ◌<◌}
use mathlib.Core.Path.{◌≡◌, refl, sym, subst}
use mathlib.Core.Logic.{◌≢◌, ◌⊎◌, inl, inr, ⊎_elim, ◌↔◌}
use mathlib.Core.Bool.{Bool, true, false, not}
use mathlib.Core.List.{List}
use native.Mathlib.Omega.{arith}
use lib.ListN.{get_or}
use lib.Bits.{bit_and, bit_or, bit_xor, or_lt, xor_lt, and_lt}
use lib.Pow.{pow-lt}
use lib.Count.{ones, ones-le}
use lib.Dec.{T}
use Rattle.names.specs.Sizes.{base}
use Rattle.rules.specs.Words.{bit}
use Rattle.rules.specs.Waits.{Walk, one, more}
use Rattle.rules.proofs.Tests.{and_left, and_right, and_both, or_cases, or_left, or_right, is_false, not_make, not_use}
use Rattle.rules.proofs.Walks.{join}
use Rattle.circles.specs.Links.{linked, LinkWords, Leads}
use Rattle.circles.specs.Visits.{Open}
use Rattle.words.proofs.SlotWords.{or_at, sans_at, no_bit, alone-only, ones-more}
use Rattle.circles.proofs.Within.{word_small}

-- the search begins with nothing done
pub opening : (w : List ℕ) (from goal : ℕ) → from < 2 ^ base.slots → Open w 0 from goal
opening w from goal h = record {
  done_small = omega arith;
  todo_small = h;
  apart = λ a t d. no_bit a d;
  goal_out = λ d. no_bit goal d;
  leads = λ a b d e. absurd (no_bit a d);
}

-- nothing is to do: nothing leads to the goal
pub nothing_todo : (w : List ℕ) (todo goal : ℕ) → todo ≡ 0 → T false ↔ Leads w todo goal
unfolding Leads
nothing_todo w todo goal z = (λ f. absurd f, λ s. no_bit s.0 (subst (λ (m : ℕ). T (bit m s.0)) z s.1))

-- the goal itself is to do
pub goal_met : (w : List ℕ) (todo goal i : ℕ) → T (bit todo i) → i ≡ goal → T true ↔ Leads w todo goal
unfolding Leads
goal_met w todo goal i t e = (λ _. (i, t, inl e), λ _. tt)

-- a walk from a slot that is done stays among those, or passes one to do
leaves :
    (w : List ℕ) (done todo goal : ℕ) → Open w done todo goal → {a b : ℕ} → T (bit done a) → Walk (linked w) a b
    → T (bit done b) ⊎ ((c : ℕ) × T (bit todo c) × ((c ≡ b) ⊎ Walk (linked w) c b))
leaves w done todo goal o d (one {a} {b} e) = ⊎_elim (λ x. inl x) (λ x. inr (b, x, inl refl)) (o.leads a b d e)
leaves w done todo goal o d (more {a} {b} {c} v e) = go (leaves w done todo goal o d v)
  where
    go :
        T (bit done b) ⊎ ((x : ℕ) × T (bit todo x) × ((x ≡ b) ⊎ Walk (linked w) x b))
        → T (bit done c) ⊎ ((x : ℕ) × T (bit todo x) × ((x ≡ c) ⊎ Walk (linked w) x c))
    go (inl x) = ⊎_elim (λ y. inl y) (λ y. inr (c, y, inl refl)) (o.leads b c x e)
    go (inr (x, t, inl q)) = inr (x, t, inr (subst (λ (y : ℕ). Walk (linked w) y c) (sym q) (one e)))
    go (inr (x, t, inr u)) = inr (x, t, inr (more u e))

-- ---- slot i of `todo` is visited
module _ (w : List ℕ) (done todo goal i : ℕ) (g : LinkWords w) (o : Open w done todo goal) (l : i < base.slots) (t : T (bit todo i)) where
  abbrev seen : ℕ
  seen = bit_or done (2 ^ i)

  abbrev met : ℕ
  met = bit_or todo (get_or w i 0)

  abbrev next : ℕ
  next = bit_xor met (bit_and met seen)

  seen-small : seen < 2 ^ base.slots
  seen-small = or_lt base.slots done (2 ^ i) o.done_small (pow-lt l)

  -- one slot less is left to visit
  pub fewer : base.slots - ones seen < base.slots - ones done
  fewer =
      let e : ones seen ≡ ones done + 1 = ones-more done i (is_false (bit done i) (o.apart i t)) in
      let b : ones seen ≤ base.slots = ones-le base.slots seen seen-small in
      omega arith

  -- what is seen was done, or is the slot
  seen_cases : (a : ℕ) → T (bit seen a) → T (bit done a) ⊎ (a ≡ i)
  seen_cases a s =
      ⊎_elim (λ d. inl d) (λ p. inr (alone-only i a p)) (or_cases (bit done a) (bit (2 ^ i) a) (subst T (or_at done (2 ^ i) a) s))

  done-seen : (a : ℕ) → T (bit done a) → T (bit seen a)
  done-seen a d = subst T (sym (or_at done (2 ^ i) a)) (or_left (bit done a) (bit (2 ^ i) a) d)

  goal_unseen : i ≢ goal → T (bit seen goal) → ⊥
  goal_unseen n s = ⊎_elim (λ d. o.goal_out d) (λ (q : goal ≡ i). n (sym q)) (seen_cases goal s)

  -- what is met is seen, or to do next
  met_cases : (a : ℕ) → T (bit met a) → T (bit seen a) ⊎ T (bit next a)
  met_cases a m = go (bit seen a) refl
    where
      go : (c : Bool) → bit seen a ≡ c → T (bit seen a) ⊎ T (bit next a)
      go true e = inl (subst T (sym e) tt)
      go false e =
          inr (subst T (sym (sans_at met seen a))
          (and_both (bit met a) (not (bit seen a)) m (not_make (bit seen a) (λ s. subst T e s))))

  todo_met : (a : ℕ) → T (bit todo a) → T (bit met a)
  todo_met a d = subst T (sym (or_at todo (get_or w i 0) a)) (or_left (bit todo a) (bit (get_or w i 0) a) d)

  link_met : (a : ℕ) → T (linked w i a) → T (bit met a)
  unfolding linked
  link_met a e = subst T (sym (or_at todo (get_or w i 0) a)) (or_right (bit todo a) (bit (get_or w i 0) a) e)

  pub visited : i ≢ goal → Open w seen next goal
  visited n = record {
    done_small = seen-small;
    todo_small = xor_lt base.slots met (bit_and met seen) met_small (and_lt base.slots met seen met_small seen-small);
    apart = λ a h. not_use (bit seen a) (and_right (bit met a) (not (bit seen a)) (subst T (sans_at met seen a) h));
    goal_out = goal_unseen n;
    leads = λ a b s e. on a b e (seen_cases a s);
  }
    where
      met_small : met < 2 ^ base.slots
      met_small = or_lt base.slots todo (get_or w i 0) o.todo_small (word_small g i)

      on : (a b : ℕ) → T (linked w a b) → T (bit done a) ⊎ (a ≡ i) → T (bit seen b) ⊎ T (bit next b)
      on a b e (inl d) = ⊎_elim (λ x. inl (done-seen b x)) (λ x. met_cases b (todo_met b x)) (o.leads a b d e)
      on a b e (inr q) = met_cases b (link_met b (subst (λ (x : ℕ). T (linked w x b)) q e))

  -- the answer for what is to do next is the answer
  pub visit : i ≢ goal → (r : Bool) → T r ↔ Leads w next goal → T r ↔ Leads w todo goal
  unfolding Leads linked
  visit n r h = (λ x. back (h.0 x), λ x. h.1 (forth x))
    where
      on : (b : ℕ) → T (linked w i b) → (b ≡ goal) ⊎ Walk (linked w) b goal → Walk (linked w) i goal
      on b e (inl q) = subst (λ (x : ℕ). Walk (linked w) i x) q (one e)
      on b e (inr v) = join (one e) v

      back : Leads w next goal → Leads w todo goal
      back (b, m, s) =
          let u : T (bit met b) = and_left (bit met b) (not (bit seen b)) (subst T (sans_at met seen b) m) in
          ⊎_elim (λ d. (b, d, s)) (λ e. (i, t, inr (on b e s)))
          (or_cases (bit todo b) (bit (get_or w i 0) b) (subst T (or_at todo (get_or w i 0) b) u))

      forth : Leads w todo goal → Leads w next goal
      forth (b, d, s) = ⊎_elim (λ x. past x s) (λ x. (b, x, s)) (met_cases b (todo_met b d))
        where
          past : T (bit seen b) → (b ≡ goal) ⊎ Walk (linked w) b goal → Leads w next goal
          past x (inl q) = absurd (goal_unseen n (subst (λ (y : ℕ). T (bit seen y)) q x))
          past x (inr v) = ⊎_elim (λ y. absurd (goal_unseen n y)) (λ y. y) (leaves w seen next goal (visited n) x v)
