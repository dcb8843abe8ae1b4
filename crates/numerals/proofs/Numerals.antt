-- Numbers as they are read are numbers as they are written, both ways.
use Prim.Native.Nat.{ℕ, ◌+◌, ◌-◌, ◌*◌, ◌<◌, ◌≤◌}
use mathlib.Core.Path.{◌≡◌, refl, ap, ap₂, ◌∙◌}
use mathlib.Core.Bool.{Bool, true, false}
use mathlib.Core.List.{List, [], ◌∷◌, ◌++◌}
use native.Mathlib.Omega.{arith}
use lib.Dec.{eqb, leb}
use lib.ListN.{length}
use borrow.Author.Tests.{le-leb, leb-true, eqb-true}
use Rattle.numerals.specs.Numbers.{upto, no, digit, worth, Digits, Numeral, Numbers, digits_from, some_digits, number, greatest}

-- the front byte, if any, is no digit
pub data Stops : List ℕ → Type 0 where
  end : Stops []
  other : {b : ℕ} {bs : List ℕ} → digit b ≡ false → Stops (b ∷ bs)

pub worth_grows : (ds : List ℕ) (v : ℕ) → v ≤ worth v ds
unfolding worth
worth_grows [] v = omega arith
worth_grows (d ∷ ds) v = omega (arith, worth_grows ds (v * 10 + (d - 48)))

-- ---- written, then read

pub digits-read : {ds : List ℕ} (v : ℕ) (rest : List ℕ) → Digits ds → Stops rest → worth v ds ≤ greatest → digits_from v (ds ++ rest) ≡ upto (worth v ds) rest
unfolding digits_from worth
digits-read v rest Digits.none end f = refl
digits-read v rest Digits.none (other e) f = rw e
digits-read v rest (Digits.more {d} {ds} e r) s f =
    rw (e, le-leb (v * 10 + (d - 48)) greatest (omega (arith, worth_grows ds (v * 10 + (d - 48))))) (digits-read (v * 10 + (d - 48)) rest r s f)

some_read : {n : ℕ} (xs rest : List ℕ) → 0 < length xs → Digits xs → Stops rest → worth 0 xs ≡ n → n ≤ greatest → some_digits (xs ++ rest) ≡ upto n rest
unfolding some_digits
some_read [] rest p d s w f = absurd (omega arith)
some_read (x ∷ xs) rest p d s w f = rw (front d) (digits-read 0 rest d s (omega arith) ∙ ap (λ (m : ℕ). upto m rest) w)
  where
    front : Digits (x ∷ xs) → digit x ≡ true
    front (Digits.more e r) = e

pub number_read : {ds : List ℕ} {n : ℕ} (rest : List ℕ) → Numeral ds n → Stops rest → number (32 ∷ (ds ++ rest)) ≡ upto n rest
unfolding number
number_read {ds} {n} rest m s = some_read ds rest m.some m.digits s m.value m.fits

-- the bytes of numbers start with a space or are none
pub stops : {bs ns : List ℕ} → Numbers bs ns → Stops bs
stops Numbers.none = end
stops (Numbers.more m r) = other refl

-- ---- read, then written

pub record Taken (v : ℕ) (bs : List ℕ) (n : ℕ) (rest : List ℕ) : Type 0 where
  pub ds : List ℕ
  pub all : bs ≡ ds ++ rest
  pub digits : Digits ds
  pub value : worth v ds ≡ n
  pub fits : n ≤ greatest

module _ (n : ℕ) (rest : List ℕ) where
  same-upto : (m : ℕ) (cs : List ℕ) → upto m cs ≡ upto n rest → (m ≡ n) × (cs ≡ rest)
  same-upto m cs e = (cc, cc)

  never : no ≡ upto n rest → ⊥
  never e = let z : ◌≡◌ {A = ℕ} 0 1 = cc in omega arith

  -- after a digit the number is read on from what it is worth by then, which fits
  after-digit : (b : ℕ) (bs : List ℕ) (v : ℕ) → digit b ≡ true → digits_from v (b ∷ bs) ≡ upto n rest → (v * 10 + (b - 48) ≤ greatest) × (digits_from (v * 10 + (b - 48)) bs ≡ upto n rest)
  unfolding digits_from
  after-digit b bs v d e = go (leb (v * 10 + (b - 48)) greatest) refl
    where
      go : (g : Bool) → leb (v * 10 + (b - 48)) greatest ≡ g → (v * 10 + (b - 48) ≤ greatest) × (digits_from (v * 10 + (b - 48)) bs ≡ upto n rest)
      go true l = (leb-true (v * 10 + (b - 48)) greatest l, rw (d, l) at e)
      go false l = absurd (never (rw (d, l) at e))

  at_other : (b : ℕ) (bs : List ℕ) (v : ℕ) → digit b ≡ false → digits_from v (b ∷ bs) ≡ upto n rest → (v ≡ n) × ((b ∷ bs) ≡ rest)
  unfolding digits_from
  at_other b bs v d e = same-upto v (b ∷ bs) (rw d at e)

  longer : (b : ℕ) (bs : List ℕ) (v : ℕ) → digit b ≡ true → Taken (v * 10 + (b - 48)) bs n rest → Taken v (b ∷ bs) n rest
  unfolding worth
  longer b bs v d t =
      record { ds = b ∷ t.ds; all = ap (λ (xs : List ℕ). b ∷ xs) t.all; digits = Digits.more d t.digits; value = t.value; fits = t.fits }

  pub taken : (bs : List ℕ) (v : ℕ) → v ≤ greatest → digits_from v bs ≡ upto n rest → Taken v bs n rest
  unfolding digits_from worth
  taken [] v f e =
      let q = same-upto v [] e in
      record { ds = []; all = q.1; digits = Digits.none; value = q.0; fits = omega arith }
  taken (b ∷ bs) v f e = go (λ a r. taken bs (v * 10 + (b - 48)) a r) (digit b) refl
    where
      go : (v * 10 + (b - 48) ≤ greatest → digits_from (v * 10 + (b - 48)) bs ≡ upto n rest → Taken (v * 10 + (b - 48)) bs n rest) → (g : Bool) → digit b ≡ g → Taken v (b ∷ bs) n rest
      go again true d = let a = after-digit b bs v d e in longer b bs v d (again a.0 a.1)
      go again false d =
          let q = at_other b bs v d e in
          record { ds = []; all = q.1; digits = Digits.none; value = q.0; fits = omega arith }

-- what `number` takes is a space and a numeral
pub record Spaced (bs : List ℕ) (n : ℕ) (rest : List ℕ) : Type 0 where
  pub ds : List ℕ
  pub all : bs ≡ 32 ∷ (ds ++ rest)
  pub numeral : Numeral ds n

some_taken : (n : ℕ) (rest cs : List ℕ) → some_digits cs ≡ upto n rest → (ds : List ℕ) × (cs ≡ ds ++ rest) × Numeral ds n
unfolding some_digits worth
some_taken n rest [] h = absurd (never n rest h)
some_taken n rest (d ∷ cs) h = go (digit d) refl
  where
    go : (g : Bool) → digit d ≡ g → (ds : List ℕ) × ((d ∷ cs) ≡ ds ++ rest) × Numeral ds n
    go false e = absurd (never n rest (rw e at h))
    go true e =
        let a = after-digit n rest d cs 0 e (rw e at h) in
        let t = taken n rest cs (0 * 10 + (d - 48)) a.0 a.1 in
        (d ∷ t.ds, ap (λ (xs : List ℕ). d ∷ xs) t.all, record { some = omega arith; digits = Digits.more e t.digits; value = t.value; fits = t.fits })

pub spaced : (bs : List ℕ) (n : ℕ) (rest : List ℕ) → number bs ≡ upto n rest → Spaced bs n rest
unfolding number
spaced [] n rest e = absurd (never n rest e)
spaced (s ∷ bs) n rest e = space (eqb s 32) refl
  where
    space : (g : Bool) → eqb s 32 ≡ g → Spaced (s ∷ bs) n rest
    space false h = absurd (never n rest (rw h at e))
    space true h =
        let t = some_taken n rest bs (rw h at e) in
        record { ds = t.0; all = ap₂ (λ (x : ℕ) (xs : List ℕ). x ∷ xs) (eqb-true s 32 h) t.1; numeral = t.2 }
