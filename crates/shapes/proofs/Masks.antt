-- Words of rows, built row by row: the or of what they have.
use Prim.Native.Nat.{ℕ, zero, suc, ◌+◌, ◌<◌}
use mathlib.Core.Path.{◌≡◌, sym, ap, subst}
use mathlib.Core.Logic.{⊎_elim}
use native.Mathlib.Numerals.{add-one}
use native.Mathlib.Omega.{arith}
use lib.Bits.{bit_or}
use lib.Dec.{T}
use Rattle.rules.specs.Words.{bit, every_below, contains}
use Rattle.rules.proofs.Tests.{iff_eq}
use Rattle.rules.proofs.Counts.{every_below→, →every_below, split-le}
use Rattle.rules.proofs.Bits.{or_in, or_in_left, or_in_right, contains→, →contains}
pub use Rattle.rules.proofs.Bits.{slots_lt, slots_at}
use Rattle.words.proofs.SlotWords.{no_bit}
use Rattle.shapes.specs.Shape.{or_below}

-- one row more
pub or_more : (n : ℕ) (f : ℕ → ℕ) → bit_or (or_below n f) (f n) ≡ or_below (n + 1) f
unfolding or_below
or_more n f = ap (λ (m : ℕ). or_below m f) (sym (add-one n))

-- a bit of one of them
pub or_below_lem : (n : ℕ) (f : ℕ → ℕ) (s i : ℕ) → s < n → T (bit (f s) i) → T (bit (or_below n f) i)
unfolding or_below
or_below_lem zero f s i h k = absurd (omega arith)
or_below_lem (suc n) f s i h k =
    ⊎_elim
    (λ (q : s < n). or_in_left (or_below n f) (f n) i (or_below_lem n f s i q k))
    (λ (q : s ≡ n). or_in_right (or_below n f) (f n) i (subst (λ (s : ℕ). T (bit (f s) i)) q k))
    (split-le s n h)

-- and no other
pub or_of : (n : ℕ) (f : ℕ → ℕ) (i : ℕ) → T (bit (or_below n f) i) → (s : ℕ) × (s < n) × T (bit (f s) i)
unfolding or_below
or_of zero f i k = absurd (no_bit i k)
or_of (suc n) f i k =
    ⊎_elim
    (λ (q : T (bit (or_below n f) i)). let r = or_of n f i q in (r.0, (let l = r.1 in omega arith), r.2))
    (λ (q : T (bit (f n) i)). (n, omega arith, q))
    (or_in (or_below n f) (f n) i k)

-- each is within a word where their or is
pub within_or : (m n : ℕ) (f : ℕ → ℕ) → contains m (or_below n f) ≡ every_below n (λ s. contains m (f s))
within_or m n f =
    iff_eq (contains m (or_below n f)) (every_below n (λ s. contains m (f s)))
    (λ h. →every_below n (λ s. contains m (f s)) (λ s l. →contains m (f s) (λ i k. contains→ m (or_below n f) h i (or_below_lem n f s i l k))))
    (λ h. →contains m (or_below n f) (λ i k. let r = or_of n f i k in contains→ m (f r.0) (every_below→ n (λ s. contains m (f s)) h r.0 r.1) i r.2))
