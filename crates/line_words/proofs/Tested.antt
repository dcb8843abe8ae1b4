-- A name and an item, as tests and as facts.
use Prim.Native.Nat.{ℕ, suc, ◌≤◌}
use mathlib.Core.Path.{◌≡◌, refl, ap₂}
use mathlib.Core.Bool.{Bool, true, false, ◌&&◌}
use mathlib.Core.List.{List, [], ◌∷◌}
use native.Mathlib.Omega.{arith}
use lib.Dec.{eqb, leb, ltb}
use lib.ListN.{length}
use borrow.Author.Tests.{lt-ltb, le-leb, ltb-true, leb-true, eqb-true}
use Rattle.rules.specs.Words.{every}
use Rattle.numerals.specs.Numbers.{digit, worth, greatest, Digits, Numeral}
use Rattle.numerals.proofs.Scans.{and_left, and_right}
use Rattle.line_words.specs.Words.{is_name, is_item, name_byte, longest_name}
use Rattle.line_words.specs.Said.{Name}

-- a test that is passed, or not
pub passed : {A : Type 0} (t : Bool) → (t ≡ true → A) → (t ≡ false → A) → A
passed true a b = a refl
passed false a b = b refl

pub no_bytes : (w : List ℕ) → eqb (length w) 0 ≡ true → w ≡ []
no_bytes [] e = refl
no_bytes (b ∷ bs) e = let z : suc (length bs) ≡ 0 = eqb-true (suc (length bs)) 0 e in absurd (omega arith)

pub name_tested : (w : List ℕ) → Name w → is_name w ≡ true
unfolding is_name
name_tested w n = ap₂ ◌&&◌ (ap₂ ◌&&◌ (lt-ltb 0 (length w) n.some) (le-leb (length w) longest_name n.most)) n.bytes

pub tested_name : (w : List ℕ) → is_name w ≡ true → Name w
unfolding is_name
tested_name w e =
    let a : (ltb 0 (length w) && leb (length w) longest_name) ≡ true = and_left (ltb 0 (length w) && leb (length w) longest_name) (every name_byte w) e in
    record {
      some = ltb-true 0 (length w) (and_left (ltb 0 (length w)) (leb (length w) longest_name) a);
      most = leb-true (length w) longest_name (and_right (ltb 0 (length w)) (leb (length w) longest_name) a);
      bytes = and_right (ltb 0 (length w) && leb (length w) longest_name) (every name_byte w) e;
    }

digits_tested : {w : List ℕ} → Digits w → every digit w ≡ true
unfolding every
digits_tested Digits.none = refl
digits_tested (Digits.more {d} {ds} e r) = ap₂ ◌&&◌ e (digits_tested r)

tested_digits : (w : List ℕ) → every digit w ≡ true → Digits w
unfolding every
tested_digits [] e = Digits.none
tested_digits (d ∷ ds) e = Digits.more (and_left (digit d) (every digit ds) e) (tested_digits ds (and_right (digit d) (every digit ds) e))

pub item_tested : (w : List ℕ) {n : ℕ} → Numeral w n → is_item w ≡ true
unfolding is_item
item_tested w m =
    ap₂ ◌&&◌ (lt-ltb 0 (length w) m.some) (ap₂ ◌&&◌ (digits_tested m.digits) (le-leb (worth 0 w) greatest (omega (arith, m.value, m.fits))))

pub tested_item : (w : List ℕ) → is_item w ≡ true → Numeral w (worth 0 w)
unfolding is_item
tested_item w e =
    let r : (every digit w && leb (worth 0 w) greatest) ≡ true = and_right (ltb 0 (length w)) (every digit w && leb (worth 0 w) greatest) e in
    record {
      some = ltb-true 0 (length w) (and_left (ltb 0 (length w)) (every digit w && leb (worth 0 w) greatest) e);
      digits = tested_digits w (and_left (every digit w) (leb (worth 0 w) greatest) r);
      value = refl;
      fits = leb-true (worth 0 w) greatest (and_right (every digit w) (leb (worth 0 w) greatest) r);
    }

pub name-most : (w : List ℕ) → is_name w ≡ true → length w ≤ longest_name
unfolding is_name
name-most w e = leb-true (length w) longest_name (and_right (ltb 0 (length w)) _ (and_left (ltb 0 (length w) && leb (length w) longest_name) _ e))

pub item-right : (w : List ℕ) → is_item w ≡ true → (every digit w && leb (worth 0 w) greatest) ≡ true
unfolding is_item
item-right w e = and_right (ltb 0 (length w)) _ e
