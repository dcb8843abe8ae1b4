-- A line of decimal numbers with one space before each but the first is read as these numbers.
use Prim.Native.Nat.{ℕ, ◌+◌, ◌-◌, ◌*◌, ◌<◌, ◌≤◌}
use mathlib.Core.Path.{◌≡◌, refl, ap, ◌∙◌}
use mathlib.Core.Bool.{Bool, true, false}
use mathlib.Core.List.{List, [], ◌∷◌, ◌++◌, append_assoc}
use native.Mathlib.Omega.{arith}
use lib.ListN.{length, length-append}
use borrow.Author.Tests.{le-leb, lt-ltb, ne_eqb}
use Rattle.numerals.specs.Numbers.{digit, greatest, worth, Digits, Numeral, Numbers}
use Rattle.lines.specs.Lines.{Plain}
use Rattle.numerals.proofs.Scans.{digit_low}
use Rattle.number_lines.specs.Lines.{Held, reads, digit_after, ends, after, read_on, gather}
use Rattle.number_lines.specs.Lines as lines

-- the code goes along a line to its byte 10
pub gather-line : {l : List ℕ} → Plain l → (room : ℕ) (h : Held) (rest : List ℕ) → gather room h (l ++ (10 ∷ rest)) ≡ lines.ended (read_on room h l) rest
unfolding gather read_on
gather-line Plain.bare room h rest = refl
gather-line (Plain.with_byte {b} {l} d p) room h rest = rw (ne_eqb b 10 d) (gather-line p room (after room h b) rest)

-- ---- the digits of a number

worth_grows : (ds : List ℕ) (v : ℕ) → v ≤ worth v ds
unfolding worth
worth_grows [] v = omega arith
worth_grows (d ∷ ds) v = omega (arith, worth_grows ds (v * 10 + (d - 48)))

module _ (room : ℕ) (ns : List ℕ) where
  after-digit : (v b : ℕ) (g : Bool) → digit b ≡ true → v * 10 + (b - 48) ≤ greatest → after room (reads ns v g) b ≡ reads ns (v * 10 + (b - 48)) true
  unfolding after digit_after
  after-digit v b g e h = rw (ne_eqb b 32 (λ s. omega (arith, digit_low b e)), e, le-leb (v * 10 + (b - 48)) greatest h)

  digits_on : {ds : List ℕ} → Digits ds → (v : ℕ) (rest : List ℕ) → worth v ds ≤ greatest → read_on room (reads ns v true) (ds ++ rest) ≡ read_on room (reads ns (worth v ds) true) rest
  unfolding read_on worth
  digits_on Digits.none v rest h = refl
  digits_on (Digits.more {d} {ds} e r) v rest h =
      ap (λ (k : Held). read_on room k (ds ++ rest)) (after-digit v d true e (omega (arith, worth_grows ds (v * 10 + (d - 48)))))
      ∙ digits_on r (v * 10 + (d - 48)) rest h

  first_on : {ds : List ℕ} → Digits ds → 0 < length ds → (rest : List ℕ) → worth 0 ds ≤ greatest → read_on room (reads ns 0 false) (ds ++ rest) ≡ read_on room (reads ns (worth 0 ds) true) rest
  unfolding read_on worth
  first_on Digits.none s rest h = absurd (omega arith)
  first_on (Digits.more {d} {ds} e r) s rest h =
      ap (λ (k : Held). read_on room k (ds ++ rest)) (after-digit 0 d false e (omega (arith, worth_grows ds (0 * 10 + (d - 48)))))
      ∙ digits_on r (0 * 10 + (d - 48)) rest h

  numeral_on : {ds : List ℕ} {n : ℕ} → Numeral ds n → (rest : List ℕ) → read_on room (reads ns 0 false) (ds ++ rest) ≡ read_on room (reads ns n true) rest
  numeral_on {ds} {n} m rest =
      first_on m.digits m.some rest (omega (arith, m.value, m.fits))
      ∙ ap (λ (v : ℕ). read_on room (reads ns v true) rest) m.value

  -- the number ends
  ends_on : (v : ℕ) → length ns < room → ends room (reads ns v true) ≡ reads (ns ++ (v ∷ [])) 0 false
  unfolding ends
  ends_on v h = rw (lt-ltb (length ns) room h)

-- ---- number after number

numbers_on : {bs ms : List ℕ} → Numbers bs ms → (room : ℕ) (ks : List ℕ) (v : ℕ) → length ks + 1 + length ms ≤ room → ends room (read_on room (reads ks v true) bs) ≡ reads (ks ++ (v ∷ ms)) 0 false
unfolding read_on after
numbers_on Numbers.none room ks v h = ends_on room ks v (omega arith)
numbers_on (Numbers.more {ds} {rest} {ns} {n} m r) room ks v h =
    let one = ks ++ (v ∷ []) in
    let e : read_on room (ends room (reads ks v true)) (ds ++ rest) ≡ read_on room (reads one n true) rest
    = ap (λ (k : Held). read_on room k (ds ++ rest)) (ends_on room ks v (omega arith)) ∙ numeral_on room one m rest in
    ap (λ (k : Held). ends room k) e
    ∙ numbers_on r room one n (omega (arith, h, length-append ks (v ∷ [])))
    ∙ ap (λ (l : List ℕ). reads l 0 false) (append_assoc ks (v ∷ []) (n ∷ ns))

-- a number, and numbers with one space before each
pub line_read : {ds rest ms : List ℕ} {n : ℕ} → Numeral ds n → Numbers rest ms → (room : ℕ) → 1 + length ms ≤ room → ends room (read_on room (reads [] 0 false) (ds ++ rest)) ≡ reads (n ∷ ms) 0 false
line_read {ds} {rest} {ms} {n} m r room h =
    ap (λ (k : Held). ends room k) (numeral_on room [] m rest) ∙ numbers_on r room [] n (omega (arith, h))
