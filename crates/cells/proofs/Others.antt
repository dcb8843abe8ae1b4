-- The tests of the lock decision, as the code makes them.
use Prim.Native.Nat.{ℕ, zero, suc, ◌+◌, ◌<◌}
use mathlib.Core.Path.{◌≡◌, refl, sym, ap, ◌∙◌, subst}
use mathlib.Core.Logic.{◌≢◌}
use mathlib.Core.Bool.{Bool, false, ◌&&◌, not}
use mathlib.Core.List.{List}
use native.Mathlib.Omega.{arith}
use lib.Dec.{T, eqb, eqb→eq}
use Rattle.names.specs.Sizes.{base}
use Rattle.rules.specs.Words.{bit, some_below, without_bit}
use Rattle.rules.specs.Tables.{tables, txn, Lock, lock, holds_shared, holds_exclusive}
use Rattle.rules.specs.Good.{Good}
use Rattle.rules.specs.Waits.{awaits_on, ahead, rank_for}
use Rattle.rules.specs.Locks.{Asked, to_read, to_write, Held, exclusively, sharing, nothing, decide, another_shares, another_excludes, another_ahead}
use Rattle.rules.proofs.Tests.{and_left, and_right, and_both, ne_make, ne_use, eq_make, is_false, false_is}
use Rattle.rules.proofs.Counts.{some_below→, →some_below}
use Rattle.rules.proofs.Bits.{bit_none, bit_below, below_power, without_bit_here, without_bit_there}
use Rattle.words.proofs.SlotWords.{has_bit}
use Rattle.words.proofs.Turns.{iff_eq}
use Rattle.ranks.specs.Lines.{somebody_on}
use Rattle.waiting.specs.Waiting.{Ahead}
use Rattle.waiting.proofs.Handed.{good_readable}
use Rattle.waiting.proofs.Linking.{shared-small, exclusive-small}
use Rattle.cells.specs.Cells.{needs_lock, SlotsOnly}

-- ---- the tests on the others
module _ (h : Lock) (s : ℕ) (k : SlotsOnly h) where
  -- a shared bit besides that of s
  pub shares_is : not (eqb (without_bit h.shared s) 0) ≡ another_shares base h s
  unfolding another_shares holds_shared
  shares_is = iff_eq (not (eqb w 0)) (another_shares base h s) forth back
    where
      w : ℕ
      w = without_bit h.shared s

      other : (b : ℕ) → T (bit w b) → s ≢ b
      other b t e = false_is (without_bit_here h.shared s) (subst (λ (m : ℕ). T (bit w m)) (sym e) t)

      forth : T (not (eqb w 0)) → T (another_shares base h s)
      forth t =
          let r = has_bit w w (below_power w) (ne_use w 0 t) in
          let b : ℕ = r.0 in
          let d = other b r.2 in
          let f : T (bit h.shared b) = subst T (without_bit_there h.shared s b (λ e. d (sym e))) r.2 in
          →some_below base.slots (λ b. not (eqb s b) && bit h.shared b) b (bit_below h.shared b base.slots k.shared f)
          (and_both (not (eqb s b)) _ (ne_make s b d) f)

      back : T (another_shares base h s) → T (not (eqb w 0))
      back t =
          let r = some_below→ base.slots (λ b. not (eqb s b) && bit h.shared b) t in
          let b : ℕ = r.0 in
          let d = ne_use s b (and_left (not (eqb s b)) _ r.2) in
          let f = and_right (not (eqb s b)) _ r.2 in
          ne_make w 0
          (λ e. false_is (ap (λ (m : ℕ). bit m b) e ∙ bit_none b) (subst T (sym (without_bit_there h.shared s b (λ e. d (sym e)))) f))

  -- an exclusive holder besides s
  pub excludes_is : (not (eqb h.exclusive 0) && not (eqb h.exclusive (s + 1))) ≡ another_excludes base h s
  unfolding another_excludes holds_exclusive
  excludes_is = iff_eq (not (eqb h.exclusive 0) && not (eqb h.exclusive (s + 1))) (another_excludes base h s) forth back
    where
      some : (e : ℕ) → h.exclusive ≡ e → e ≢ 0 → e ≢ s + 1 → T (another_excludes base h s)
      some zero q n d = absurd (n refl)
      some (suc b) q n d =
          let l = k.exclusive in
          →some_below base.slots (λ b. not (eqb s b) && eqb h.exclusive (suc b)) b (omega arith)
          (and_both (not (eqb s b)) _ (ne_make s b (λ e. d (omega arith))) (eq_make h.exclusive (suc b) q))

      forth : T (not (eqb h.exclusive 0) && not (eqb h.exclusive (s + 1))) → T (another_excludes base h s)
      forth t =
          some h.exclusive refl (ne_use h.exclusive 0 (and_left (not (eqb h.exclusive 0)) _ t))
          (ne_use h.exclusive (s + 1) (and_right (not (eqb h.exclusive 0)) _ t))

      back : T (another_excludes base h s) → T (not (eqb h.exclusive 0) && not (eqb h.exclusive (s + 1)))
      back t =
          let r = some_below→ base.slots (λ b. not (eqb s b) && eqb h.exclusive (suc b)) t in
          let b : ℕ = r.0 in
          let d = ne_use s b (and_left (not (eqb s b)) _ r.2) in
          let e : h.exclusive ≡ suc b = eqb→eq h.exclusive (suc b) (and_right (not (eqb s b)) _ r.2) in
          and_both (not (eqb h.exclusive 0)) _ (ne_make h.exclusive 0 (λ z. omega arith)) (ne_make h.exclusive (s + 1) (λ z. d (omega arith)))

-- an earlier waiter besides s
pub ahead_is :
    (t l : List ℕ) (k x s w : ℕ) → Ahead t k x (rank_for base t l s x) w → not (eqb (without_bit w s) 0) ≡ another_ahead base t l k x s
unfolding another_ahead
ahead_is t l k x s w h = iff_eq (not (eqb v 0)) (some_below base.slots p) forth back
  where
    v : ℕ
    v = without_bit w s

    p : ℕ → Bool
    p b = not (eqb s b) && ahead x k (rank_for base t l s x) (txn t b)

    other : (b : ℕ) → T (bit v b) → s ≢ b
    other b u e = false_is (without_bit_here w s) (subst (λ (m : ℕ). T (bit v m)) (sym e) u)

    forth : T (not (eqb v 0)) → T (some_below base.slots p)
    forth u =
        let r = has_bit v v (below_power v) (ne_use v 0 u) in
        let b : ℕ = r.0 in
        let d = other b r.2 in
        let g : T (bit w b) = subst T (without_bit_there w s b (λ e. d (sym e))) r.2 in
        →some_below base.slots p b (bit_below w b base.slots h.small g) (and_both (not (eqb s b)) _ (ne_make s b d) (subst T (h.at b) g))

    back : T (some_below base.slots p) → T (not (eqb v 0))
    back u =
        let r = some_below→ base.slots p u in
        let b : ℕ = r.0 in
        let d = ne_use s b (and_left (not (eqb s b)) _ r.2) in
        let g : T (bit w b) = subst T (sym (h.at b)) (and_right (not (eqb s b)) _ r.2) in
        ne_make v 0 (λ e. false_is (ap (λ (m : ℕ). bit m b) e ∙ bit_none b) (subst T (sym (without_bit_there w s b (λ e. d (sym e)))) g))

-- where nobody waits on the item, nobody is ahead
pub none_ahead : (t l : List ℕ) (k x s : ℕ) → somebody_on base t x ≡ false → another_ahead base t l k x s ≡ false
unfolding somebody_on another_ahead ahead
none_ahead t l k x s e =
    is_false (another_ahead base t l k x s)
    (λ u.
    let r = some_below→ base.slots (λ b. not (eqb s b) && ahead x k (rank_for base t l s x) (txn t b)) u in
    let b : ℕ = r.0 in
    false_is e
    (→some_below base.slots (λ b. awaits_on x (txn t b)) b r.1 (and_left (awaits_on x (txn t b)) _ (and_right (not (eqb s b)) _ r.2))))

-- ---- who needs no further lock: its cell is the same, whoever waits
pub no_line : (a : Asked) (h : Held) (s e r : Bool) → needs_lock a h ≡ false → decide a h s e false ≡ decide a h s e r
unfolding decide
no_line to_read exclusively s e r n = refl
no_line to_write exclusively s e r n = refl
no_line to_read sharing s e r n = refl
no_line to_write sharing s e r n = absurd (false_is n tt)
no_line to_read nothing s e r n = absurd (false_is n tt)
no_line to_write nothing s e r n = absurd (false_is n tt)

-- ---- on good tables
pub lock_slots : (t l v : List ℕ) → Good base (tables t l v) → (x : ℕ) → x < base.items → SlotsOnly (lock l x)
lock_slots t l v g x i =
    let o = good_readable t l v g in
    record { shared = shared-small t l o x i; exclusive = exclusive-small t l o x i }
