-- The pass over the rows that await a lock: the words that it leaves say whom each slot waits for.
use Prim.Native.Nat.{ℕ, zero, suc, ◌+◌, ◌/◌, ◌%◌, ◌^◌, ◌<◌, ◌≤◌}
use mathlib.Core.Path.{◌≡◌, refl, sym, ap, ap₂, ◌∙◌, subst}
use mathlib.Core.Logic.{◌≢◌, ◌⊎◌, inl, inr, ⊎_elim}
use mathlib.Core.Bool.{Bool, true, false, ◌&&◌, ◌||◌, not}
use mathlib.Core.List.{List}
use native.Mathlib.Omega.{arith}
use native.Mathlib.Numerals.{add-one}
use native.Mathlib.Nat.{mod-lt}
use lib.ListN.{get_or, set, length, length-set, replicate}
use lib.Seq.{get_or-set_same, get_or-set_other}
use lib.Dec.{T, eqb, ltb}
use borrow.Author.Tests.{eq-eqb, ne_eqb, ltb-true, ltb-false}
use Rattle.names.specs.Sizes.{base}
use Rattle.rules.specs.Words.{bit, implies, every_below}
use Rattle.rules.specs.Tables.{Txn, txn, Lock, lock, no_lock, shared_lock, exclusive_lock, holds, holds_shared, holds_exclusive}
use Rattle.rules.specs.Waits.{awaits, blocks, waits_for}
use Rattle.rules.specs.Tested.{awaiter_good}
use Rattle.rules.proofs.Tests.{or_left, or_right, eq_make, same?}
use Rattle.rules.proofs.Counts.{split-le}
use Rattle.rules.proofs.Bits.{bit_none, below_bits}
use Rattle.rules.proofs.Views.{beyond}
use Rattle.rules.proofs.Walks.{waits-within}
use Rattle.words.proofs.Turns.{every_more}
use Rattle.words.proofs.ZeroWords.{no_word}
use Rattle.waiting.specs.Waiting.{Readable, Blockers, Links, awaiters_good, awaiter_ok}

-- ---- the test of one who awaits
not_one : (z : ℕ) → eqb (z % 2) 0 ≡ not (eqb (z % 2) 1)
not_one z = go (z % 2) (mod-lt z (omega arith))
  where
    go : (m : ℕ) → m < 2 → eqb m 0 ≡ not (eqb m 1)
    go zero h = refl
    go (suc zero) h = refl
    go (suc (suc m)) h = absurd (omega arith)

shared_law : (x b : Bool) → (not x && not b) ≡ (not (b || x) && true)
shared_law true true = refl
shared_law true false = refl
shared_law false true = refl
shared_law false false = refl

and_true : (b : Bool) → (b && true) ≡ b
and_true true = refl
and_true false = refl

module _ (s : ℕ) (r : Txn) (h : Lock) where
  -- who awaits nothing passes
  pub awaiter_none : r.awaited_lock ≡ no_lock → awaiter_good s r h ≡ true
  unfolding awaiter_good implies
  awaiter_none e = rw (ne_eqb r.awaited_lock shared_lock (λ z. omega arith), ne_eqb r.awaited_lock exclusive_lock (λ z. omega arith))

  pub awaiter_same : r.awaited_lock ≢ no_lock → r.awaited_lock ≤ exclusive_lock → awaiter_ok h.shared h.exclusive r.awaited_lock s ≡ awaiter_good s r h
  unfolding awaiter_good implies holds holds_shared holds_exclusive bit
  awaiter_same d l = rw (add-one s, not_one (h.shared / 2 ^ s)) (go (same? r.awaited_lock shared_lock))
    where
      go : (r.awaited_lock ≡ shared_lock) ⊎ (r.awaited_lock ≢ shared_lock) → (not (eqb h.exclusive (suc s)) && (not (eqb r.awaited_lock shared_lock) || not (eqb (h.shared / 2 ^ s % 2) 1))) ≡ awaiter_good s r h
      go (inl e) =
          rw (eq-eqb r.awaited_lock shared_lock e, ne_eqb r.awaited_lock exclusive_lock (λ z. omega arith))
          (shared_law (eqb h.exclusive (suc s)) (eqb (h.shared / 2 ^ s % 2) 1))
      go (inr n) =
          rw (ne_eqb r.awaited_lock shared_lock n, eq-eqb r.awaited_lock exclusive_lock (omega arith)) (and_true (not (eqb h.exclusive (suc s))))

-- ---- whom one waits for
module _ (t l : List ℕ) (a b : ℕ) where
  pub waits_none : (txn t a).awaited_lock ≡ no_lock → waits_for t l a b ≡ false
  unfolding waits_for awaits
  waits_none e = rw (eq-eqb (txn t a).awaited_lock no_lock e)

  waits_some : (txn t a).awaited_lock ≢ no_lock → waits_for t l a b ≡ blocks t l (txn t a).awaited_lock (txn t a).awaited_item (txn t a).rank a b
  unfolding waits_for awaits
  waits_some d = rw (ne_eqb (txn t a).awaited_lock no_lock d)

-- ---- locks that can be read
module _ (t l : List ℕ) (o : Readable t l) (x : ℕ) (i : x < base.items) where
  pub shared-small : (lock l x).shared < 2 ^ base.slots
  unfolding holds holds_shared
  shared-small = below_bits base.slots (lock l x).shared (λ b p. o.inside x i b (or_left (bit (lock l x).shared b) _ p))

  pub exclusive-small : (lock l x).exclusive ≤ base.slots
  unfolding holds holds_exclusive
  exclusive-small = go (lock l x).exclusive refl
    where
      go : (e : ℕ) → (lock l x).exclusive ≡ e → e ≤ base.slots
      go zero q = omega arith
      go (suc b) q = o.inside x i b (or_right (holds_shared (lock l x) b) _ (eq_make (lock l x).exclusive (suc b) q))

-- ---- what is known once the slots below i were passed
pub record Linking (t l w : List ℕ) (ok : Bool) (i : ℕ) : Type 0 where
  pub size : length w ≡ base.slots
  pub right : ok ≡ every_below i (λ s. awaiter_good s (txn t s) (lock l (txn t s).awaited_item))
  pub at : (a : ℕ) → a < i → (b : ℕ) → bit (get_or w a 0) b ≡ waits_for t l a b
  pub rest : (a : ℕ) → i ≤ a → get_or w a 0 ≡ 0

pub linking_begin : (t l : List ℕ) → Linking t l (replicate base.slots 0) true 0
unfolding every_below
linking_begin t l =
    record { size = refl; right = refl; at = λ a k. absurd (omega arith); rest = λ a k. no_word base.slots a }

module _ (t l w : List ℕ) (ok : Bool) (i : ℕ) (k : i < base.slots) (h : Linking t l w ok i) where
  abbrev test : ℕ → Bool
  test s = awaiter_good s (txn t s) (lock l (txn t s).awaited_item)

  -- slot i awaits nothing
  pub linking_still : (txn t i).awaited_lock ≡ no_lock → {w' : List ℕ} {ok' : Bool} → w' ≡ w → ok' ≡ ok → Linking t l w' ok' (i + 1)
  linking_still z {w'} {ok'} p q =
      rw (p, q)
      (record {
        size = h.size;
        right =
            h.right
            ∙ sym (every_more test i ∙ ap (λ (b : Bool). b && every_below i test) (awaiter_none i (txn t i) (lock l (txn t i).awaited_item) z));
        at = λ a m b. ⊎_elim
            (λ (x : a < i). h.at a x b)
            (λ (x : a ≡ i).
            ap (λ (v : ℕ). bit v b) (h.rest a (omega arith)) ∙ bit_none b ∙ sym (waits_none t l a b (ap (λ (m : ℕ). (txn t m).awaited_lock) x ∙ z)))
            (split-le a i (let g : a < suc i = omega arith in g));
        rest = λ a m. h.rest a (omega arith);
      })

  -- slot i awaits a lock
  pub linking_waits :
      (txn t i).awaited_lock ≢ no_lock → {c : Bool} {v : ℕ} → c ≡ awaiter_good i (txn t i) (lock l (txn t i).awaited_item)
      → Blockers t l (txn t i).awaited_lock (txn t i).awaited_item (txn t i).rank i v
      → {w' : List ℕ} {ok' : Bool} → w' ≡ set w i v → ok' ≡ (c && ok) → Linking t l w' ok' (i + 1)
  linking_waits d {c} {v} e g {w'} {ok'} p q =
      let z = h.size in
      rw (p, q)
      (record {
        size = length-set w i v ∙ h.size;
        right = ap₂ ◌&&◌ e h.right ∙ sym (every_more test i);
        at = λ a m b. ⊎_elim
            (λ (x : a < i). rw (get_or-set_other w i a v 0 (λ y. omega arith)) (h.at a x b))
            (λ (x : a ≡ i).
            subst (λ (a : ℕ). bit (get_or (set w i v) a 0) b ≡ waits_for t l a b) (sym x)
            (rw (get_or-set_same w i v 0 (omega arith)) (g.at b ∙ sym (waits_some t l i b d))))
            (split-le a i (let n : a < suc i = omega arith in n));
        rest = λ a m. get_or-set_other w i a v 0 (λ y. omega arith) ∙ h.rest a (omega arith);
      })

-- ---- once all were passed
pub linking_end : (t l w : List ℕ) (ok : Bool) → Readable t l → Linking t l w ok base.slots → Links t l w
linking_end t l w ok o h =
    record {
      size = h.size;
      small = λ a. below_bits base.slots (get_or w a 0) (λ b p. waits-within base t l o.txns_exact o.item_known o.inside a b (subst T (all a b) p));
      at = all;
    }
  where
    all : (a b : ℕ) → bit (get_or w a 0) b ≡ waits_for t l a b
    all a b = go (ltb a base.slots) refl
      where
        go : (c : Bool) → ltb a base.slots ≡ c → bit (get_or w a 0) b ≡ waits_for t l a b
        go true e = h.at a (ltb-true a base.slots e) b
        go false e =
            let m = ltb-false a base.slots e in
            ap (λ (v : ℕ). bit v b) (h.rest a m) ∙ bit_none b ∙ sym (waits_none t l a b (beyond base t o.txns_exact a m))

pub linking_right : (t l w : List ℕ) (ok : Bool) → Linking t l w ok base.slots → ok ≡ awaiters_good base t l
unfolding awaiters_good
linking_right t l w ok h = h.right
