-- Tests as facts: T b says that b is true.
use Prim.Native.Nat.{ℕ}
use mathlib.Core.Path.{◌≡◌, refl, sym, subst}
use mathlib.Core.Logic.{◌≢◌, ◌⊎◌, inl, inr}
use mathlib.Core.Bool.{Bool, true, false, ◌&&◌, ◌||◌, not}
use lib.Dec.{T, eqb}
use borrow.Author.Tests.{eqb-true, eqb-false, ne_eqb, eq-eqb}
use Rattle.rules.specs.Words.{implies}

-- two tests that say the same are equal
pub iff_eq : (a b : Bool) → (T a → T b) → (T b → T a) → a ≡ b
iff_eq true true f g = refl
iff_eq true false f g = absurd (f tt)
iff_eq false true f g = absurd (g tt)
iff_eq false false f g = refl

-- ---- both, either
pub and_left : (a b : Bool) → T (a && b) → T a
and_left true b t = tt
and_left false b t = t

pub and_right : (a b : Bool) → T (a && b) → T b
and_right true b t = t
and_right false b t = absurd t

pub and_both : (a b : Bool) → T a → T b → T (a && b)
and_both true b h k = k
and_both false b h k = h

-- a test beside one that passes
pub and_also : (a b : Bool) → T b → a ≡ (a && b)
and_also a true h = and_true a
  where
    and_true : (a : Bool) → a ≡ (a && true)
    and_true true = refl
    and_true false = refl
and_also a false h = absurd h

pub or_cases : (a b : Bool) → T (a || b) → T a ⊎ T b
or_cases true b t = inl tt
or_cases false b t = inr t

pub or_left : (a b : Bool) → T a → T (a || b)
or_left true b t = tt
or_left false b t = absurd t

pub or_right : (a b : Bool) → T b → T (a || b)
or_right true b t = tt
or_right false b t = t

pub or_map₂ : (a b c : Bool) → (T b → T c) → T (a || b) → T (a || c)
or_map₂ true b c f h = h
or_map₂ false b c f h = f h

-- ---- if .. then
pub implies_use : (a b : Bool) → T (implies a b) → T a → T b
unfolding implies
implies_use true b h k = h
implies_use false b h k = absurd k

pub implies_make : (a b : Bool) → (T a → T b) → T (implies a b)
unfolding implies
implies_make true b f = f tt
implies_make false b f = tt

-- ---- a test and an equation
pub is_true : (b : Bool) → T b → b ≡ true
is_true true h = refl
is_true false h = absurd h

pub is_false : (b : Bool) → (T b → ⊥) → b ≡ false
is_false true h = absurd (h tt)
is_false false h = refl

pub true_is : {b : Bool} → b ≡ true → T b
true_is e = subst T (sym e) tt

pub false_is : {b : Bool} → b ≡ false → T b → ⊥
false_is e t = subst T e t

pub not_make : (b : Bool) → (T b → ⊥) → T (not b)
not_make true f = f tt
not_make false f = tt

pub not_use : (b : Bool) → T (not b) → T b → ⊥
not_use true h k = h
not_use false h k = k

-- ---- numbers
pub eq_make : (a b : ℕ) → a ≡ b → T (eqb a b)
eq_make a b e = true_is (eq-eqb a b e)

pub ne_make : (a b : ℕ) → a ≢ b → T (not (eqb a b))
ne_make a b d = rw (ne_eqb a b d) tt

pub ne_use : (a b : ℕ) → T (not (eqb a b)) → a ≢ b
ne_use a b h e = not_use (eqb a b) h (eq_make a b e)

pub same? : (a b : ℕ) → (a ≡ b) ⊎ (a ≢ b)
same? a b = go (eqb a b) refl
  where
    go : (c : Bool) → eqb a b ≡ c → (a ≡ b) ⊎ (a ≢ b)
    go true e = inl (eqb-true a b e)
    go false e = inr (eqb-false a b e)
