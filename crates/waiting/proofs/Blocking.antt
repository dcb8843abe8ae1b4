-- The word of those who block a request, built as the code builds it.
use Prim.Native.Nat.{ℕ, zero, suc, ◌-◌, ◌^◌, ◌<◌, ◌≤◌}
use mathlib.Core.Path.{◌≡◌, refl, sym, ap, ap₂, ◌∙◌, subst}
use mathlib.Core.Logic.{◌≢◌, ◌⊎◌, inl, inr}
use mathlib.Core.Bool.{Bool, true, false, ◌&&◌, ◌||◌, not}
use mathlib.Core.List.{List}
use native.Mathlib.Omega.{arith}
use lib.Bits.{bit_and, bit_or, bit_xor}
use lib.Dec.{T, eqb, eqb-suc-suc, eqb-zero-suc, eqb→eq}
use borrow.Author.Tests.{eq-eqb, ne_eqb}
use Rattle.names.specs.Sizes.{base}
use Rattle.rules.specs.Words.{bit}
use Rattle.rules.specs.Tables.{txn, Lock, lock, exclusive_lock, holds_shared, holds_exclusive}
use Rattle.rules.specs.Waits.{conflicts, ahead, blocks}
use Rattle.rules.proofs.Tests.{and_left, and_right, or_cases}
use Rattle.rules.proofs.Bits.{bit_none, bit_below, below_bits, one_bit_at}
use Rattle.words.proofs.SlotWords.{or_at, sans_at, shifted}
use Rattle.waiting.specs.Waiting.{Holders, Ahead, Blockers}
use Rattle.words.proofs.SlotWords.{one_shifted}

-- the word w holds the exclusive holder
abbrev pub Owner : ℕ → ℕ → Type 0
Owner x w = (b : ℕ) → bit w b ≡ eqb x (suc b)

pub owner_some : (x : ℕ) → x ≤ base.slots → x ≢ 0 → {w : ℕ} → w ≡ one_shifted (x - 1) → Owner x w
owner_some zero h n e = absurd (n refl)
owner_some (suc y) h n {w} e =
    let d : suc y - 1 ≡ y = omega arith in
    let p : w ≡ 2 ^ y = e ∙ ap one_shifted d ∙ shifted y (omega arith) in
    λ b. ap (λ (m : ℕ). bit m b) p ∙ one_bit_at y b ∙ sym (eqb-suc-suc y b)

pub owner_none : (x : ℕ) → x ≡ 0 → {w : ℕ} → w ≡ 0 → Owner x w
owner_none x h {w} e =
    λ b. ap (λ (m : ℕ). bit m b) e ∙ bit_none b ∙ sym (ap (λ (m : ℕ). eqb m (suc b)) h ∙ eqb-zero-suc b)

-- the word w holds those in conflict with a request of kind k
abbrev pub Conflicting : ℕ → ℕ → ℕ → ℕ → Type 0
Conflicting s x k w = (b : ℕ) → bit w b ≡ (eqb x (suc b) || (eqb k exclusive_lock && bit s b))

pub conflicting_all : (s x k v : ℕ) → k ≡ exclusive_lock → {w : ℕ} → Owner x v → w ≡ bit_or v s → Conflicting s x k w
conflicting_all s x k v h {w} o e =
    λ b. ap (λ (m : ℕ). bit m b) e ∙ or_at v s b ∙ ap (λ (c : Bool). c || bit s b) (o b) ∙ rw (eq-eqb k exclusive_lock h)

or_false : (b : Bool) → b ≡ (b || false)
or_false true = refl
or_false false = refl

pub conflicting_one : (s x k v : ℕ) → k ≢ exclusive_lock → {w : ℕ} → Owner x v → w ≡ v → Conflicting s x k w
conflicting_one s x k v h {w} o e =
    λ b. ap (λ (m : ℕ). bit m b) e ∙ o b ∙ rw (ne_eqb k exclusive_lock h) (or_false (eqb x (suc b)))

-- those in conflict are slots
pub holders_of : (h : Lock) (k w : ℕ) → h.shared < 2 ^ base.slots → h.exclusive ≤ base.slots → Conflicting h.shared h.exclusive k w → Holders h k w
unfolding conflicts holds_shared holds_exclusive
holders_of h k w ls lx o = record { small = below_bits base.slots w within; at = o }
  where
    holder : (b : ℕ) → T (eqb h.exclusive (suc b)) ⊎ T (eqb k exclusive_lock && bit h.shared b) → b < base.slots
    holder b (inl p) = let e = eqb→eq h.exclusive (suc b) p in omega arith
    holder b (inr p) = bit_below h.shared b base.slots ls (and_right (eqb k exclusive_lock) _ p)

    within : (b : ℕ) → T (bit w b) → b < base.slots
    within b p = holder b (or_cases (eqb h.exclusive (suc b)) _ (subst T (o b) p))

and_swap : (a b : Bool) → (a && b) ≡ (b && a)
and_swap true true = refl
and_swap true false = refl
and_swap false true = refl
and_swap false false = refl

-- holders and earlier waiters, without the slot itself
pub blockers_of :
    (t l : List ℕ) (k x p i v w : ℕ) → i < base.slots → Holders (lock l x) k v → Ahead t k x p w
    → Blockers t l k x p i (bit_xor (bit_or v w) (bit_and (bit_or v w) (one_shifted i)))
unfolding blocks
blockers_of t l k x p i v w li h o =
    rw (shifted i (omega arith)) (record { small = below_bits base.slots (bit_xor (bit_or v w) (bit_and (bit_or v w) (2 ^ i))) within; at = at })
  where
    both : (b : ℕ) → bit (bit_or v w) b ≡ (conflicts (lock l x) k b || ahead x k p (txn t b))
    both b = or_at v w b ∙ ap₂ ◌||◌ (h.at b) (o.at b)

    at : (b : ℕ) → bit (bit_xor (bit_or v w) (bit_and (bit_or v w) (2 ^ i))) b ≡ (not (eqb i b) && (conflicts (lock l x) k b || ahead x k p (txn t b)))
    at b =
        sans_at (bit_or v w) (2 ^ i) b
        ∙ ap₂ (λ (c d : Bool). c && not d) (both b) (one_bit_at i b)
        ∙ and_swap (conflicts (lock l x) k b || ahead x k p (txn t b)) (not (eqb i b))

    slot : (b : ℕ) → T (bit v b) ⊎ T (bit w b) → b < base.slots
    slot b (inl q) = bit_below v b base.slots h.small q
    slot b (inr q) = bit_below w b base.slots o.small q

    within : (b : ℕ) → T (bit (bit_xor (bit_or v w) (bit_and (bit_or v w) (2 ^ i))) b) → b < base.slots
    within b q =
        slot b (or_cases (bit v b) (bit w b) (subst T (or_at v w b) (and_left (bit (bit_or v w) b) (not (bit (2 ^ i) b)) (subst T (sans_at (bit_or v w) (2 ^ i) b) q))))
