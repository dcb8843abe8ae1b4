-- A word with a byte more at its end, and laws of both and either.
use Prim.Native.Nat.{ℕ, suc, ◌+◌, ◌-◌, ◌*◌}
use mathlib.Core.Path.{◌≡◌, refl, sym, ap, ◌∙◌}
use mathlib.Core.Bool.{Bool, true, false, ◌&&◌, ◌||◌}
use mathlib.Core.List.{List, [], ◌∷◌, ◌++◌}
use native.Mathlib.Omega.{arith}
use lib.Dec.{eqb}
use lib.ListN.{length, length-append}
use borrow.Author.Tests.{ne_eqb}
use Rattle.rules.specs.Words.{every, some}
use Rattle.numerals.specs.Numbers.{worth}
use Rattle.line_words.specs.Words.{hash}

-- ---- both, either

pub and_true : (a : Bool) → (a && true) ≡ a
and_true true = refl
and_true false = refl

pub and_false : (a : Bool) → (a && false) ≡ false
and_false true = refl
and_false false = refl

pub and_assoc : (a b c : Bool) → (a && (b && c)) ≡ ((a && b) && c)
and_assoc true b c = refl
and_assoc false b c = refl

pub or_false : (a : Bool) → (a || false) ≡ a
or_false true = refl
or_false false = refl

pub or_true : (a : Bool) → (a || true) ≡ true
or_true true = refl
or_true false = refl

pub or_assoc : (a b c : Bool) → (a || (b || c)) ≡ ((a || b) || c)
or_assoc true b c = refl
or_assoc false b c = refl

-- the middle one put last
pub or_swap : (a b c : Bool) → ((a || c) || b) ≡ ((a || b) || c)
or_swap true b c = refl
or_swap false true true = refl
or_swap false true false = refl
or_swap false false true = refl
or_swap false false false = refl

-- ---- one more

pub longer : (w : List ℕ) (b : ℕ) → length (w ++ (b ∷ [])) ≡ length w + 1
longer w b = length-append w (b ∷ [])

pub every_snoc : {A : Type 0} (p : A → Bool) (w : List A) (b : A) → every p (w ++ (b ∷ [])) ≡ (every p w && p b)
unfolding every
every_snoc p [] b = and_true (p b)
every_snoc p (x ∷ xs) b = ap (λ (t : Bool). p x && t) (every_snoc p xs b) ∙ and_assoc (p x) (every p xs) (p b)

pub some_snoc : {A : Type 0} (p : A → Bool) (w : List A) (b : A) → some p (w ++ (b ∷ [])) ≡ (some p w || p b)
unfolding some
some_snoc p [] b = or_false (p b)
some_snoc p (x ∷ xs) b = ap (λ (t : Bool). p x || t) (some_snoc p xs b) ∙ or_assoc (p x) (some p xs) (p b)

pub worth_snoc : (w : List ℕ) (v b : ℕ) → worth v (w ++ (b ∷ [])) ≡ worth v w * 10 + (b - 48)
unfolding worth
worth_snoc [] v b = refl
worth_snoc (d ∷ ds) v b = worth_snoc ds (v * 10 + (d - 48)) b

-- only the first byte can make it a comment
pub hash_snoc : (w : List ℕ) (b : ℕ) → hash w ≡ false → hash (w ++ (b ∷ [])) ≡ (eqb (length w) 0 && eqb b 35)
unfolding hash
hash_snoc [] b e = refl
hash_snoc (x ∷ xs) b e = e ∙ sym (ap (λ (t : Bool). t && eqb b 35) (ne_eqb (suc (length xs)) 0 (λ z. omega arith)))
