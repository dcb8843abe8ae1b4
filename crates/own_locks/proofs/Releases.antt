-- Locks released, or unshared, item by item, from the first.
use Prim.Native.Nat.{ℕ, zero, suc, ◌+◌, ◌*◌, ◌/◌, ◌%◌, ◌≤◌, ◌<◌}
use mathlib.Core.Path.{◌≡◌, refl, sym, ap, ◌∙◌, subst}
use mathlib.Core.Logic.{◌≢◌, ◌⊎◌, inl, inr}
use mathlib.Core.List.{List}
use native.Mathlib.Omega.{arith}
use lib.ListN.{length, get_or}
use lib.Seq.{ext_get_or}
use Rattle.names.specs.Sizes.{base}
use Rattle.names.specs.declared.Sizes.{Sizes}
use Rattle.rules.specs.Tables.{lock_row, lock_words, Lock, lock, set_lock}
use Rattle.rules.proofs.Tests.{same?}
use Rattle.rules.proofs.Views.{lock-set_lock, lock-set_lock-other, length-set_lock}

-- two lock tables with the same locks are the same
pub locks-same :
    (S : Sizes) (l m : List ℕ) → length l ≡ lock_words S → length m ≡ lock_words S
    → ((x : ℕ) → x < S.items → lock l x ≡ lock m x) → l ≡ m
locks-same S l m e f h = ext_get_or 0 l m (e ∙ sym f) (λ j b. word j (omega arith) (j % 3) refl)
  where
    at : (j : ℕ) → j < lock_words S → lock l (j / 3) ≡ lock m (j / 3)
    at j b = h (j / 3) (omega arith)

    word : (j : ℕ) → j < lock_words S → (k : ℕ) → j % 3 ≡ k → get_or l j 0 ≡ get_or m j 0
    word j b zero q =
        let p : lock_row * (j / 3) ≡ j = omega arith in
        subst (λ (i : ℕ). get_or l i 0 ≡ get_or m i 0) p (unfold lock in (ap (λ (o : Lock). o.shared) (at j b)))
    word j b (suc zero) q =
        let p : lock_row * (j / 3) + 1 ≡ j = omega arith in
        subst (λ (i : ℕ). get_or l i 0 ≡ get_or m i 0) p (unfold lock in (ap (λ (o : Lock). o.exclusive) (at j b)))
    word j b (suc (suc zero)) q =
        let p : lock_row * (j / 3) + 2 ≡ j = omega arith in
        subst (λ (i : ℕ). get_or l i 0 ≡ get_or m i 0) p (unfold lock in (ap (λ (o : Lock). o.working) (at j b)))
    word j b (suc (suc (suc k))) q = absurd (omega arith)

-- the locks of the items below x are as f makes them, the others are as they were
pub record Released (f : Lock → Lock) (before after : List ℕ) (x : ℕ) : Type 0 where
  pub within : x ≤ base.items
  pub size : length after ≡ lock_words base
  pub done : (y : ℕ) → y < x → lock after y ≡ f (lock before y)
  pub left : (y : ℕ) → x ≤ y → lock after y ≡ lock before y

pub none_released : (f : Lock → Lock) (l : List ℕ) → length l ≡ lock_words base → Released f l l 0
none_released f l e = record { within = omega arith; size = e; done = λ y b. absurd (omega arith); left = λ y b. refl }

pub one_released :
    (f : Lock → Lock) (before after : List ℕ) (x : ℕ) (h : Lock) → x < base.items → Released f before after x → h ≡ f (lock after x)
    → Released f before (set_lock after x h) (x + 1)
one_released f before after x h i r e =
    record {
      within = omega arith;
      size = length-set_lock after x h ∙ r.size;
      done = λ y b. go y b (same? y x);
      left = λ y b. lock-set_lock-other after x h y (λ q. omega arith) ∙ r.left y (omega arith);
    }
  where
    go : (y : ℕ) → y < x + 1 → (y ≡ x) ⊎ (y ≢ x) → lock (set_lock after x h) y ≡ f (lock before y)
    go y b (inl q) =
        subst (λ (z : ℕ). lock (set_lock after x h) z ≡ f (lock before z)) (sym q)
        (lock-set_lock after x h base r.size i ∙ e ∙ ap f (r.left x (omega arith)))
    go y b (inr d) = lock-set_lock-other after x h y d ∙ r.done y (omega arith)

-- a lock that is already as f makes it
pub one_kept :
    (f : Lock → Lock) (before after : List ℕ) (x : ℕ) → x < base.items → Released f before after x → lock after x ≡ f (lock after x)
    → Released f before after (x + 1)
one_kept f before after x i r e =
    record { within = omega arith; size = r.size; done = λ y b. go y b (same? y x); left = λ y b. r.left y (omega arith) }
  where
    go : (y : ℕ) → y < x + 1 → (y ≡ x) ⊎ (y ≢ x) → lock after y ≡ f (lock before y)
    go y b (inl q) = subst (λ (z : ℕ). lock after z ≡ f (lock before z)) (sym q) (e ∙ ap f (r.left x (omega arith)))
    go y b (inr d) = r.done y (omega arith)

-- a lock written back as it stands changes nothing
pub lock-back : (l : List ℕ) (x : ℕ) → length l ≡ lock_words base → x < base.items → set_lock l x (lock l x) ≡ l
lock-back l x e i =
    locks-same base (set_lock l x (lock l x)) l (length-set_lock l x (lock l x) ∙ e) e (λ y b. go y (same? y x))
  where
    go : (y : ℕ) → (y ≡ x) ⊎ (y ≢ x) → lock (set_lock l x (lock l x)) y ≡ lock l y
    go y (inl q) = subst (λ (z : ℕ). lock (set_lock l x (lock l x)) z ≡ lock l z) (sym q) (lock-set_lock l x (lock l x) base e i)
    go y (inr d) = lock-set_lock-other l x (lock l x) y d
