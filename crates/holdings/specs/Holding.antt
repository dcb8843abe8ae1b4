-- What the locks are tested for, and how many each slot holds exclusively.
use Rattle.std.specs.Prelude.{ℕ, ◌*◌, ◌/◌, ◌%◌, ◌^◌, ◌≤◌, ◌<◌, ◌≡◌, Bool, ◌&&◌, not, cond, List, get_or, length, eqb, leb}
use Rattle.std.specs.Int.Bits.{bit_and}
use Rattle.names.specs.declared.Sizes.{Sizes}
use Rattle.names.specs.Sizes.{base}
use Rattle.rules.specs.Words.{every_below}
use Rattle.rules.specs.Tables.{Lock, lock, lock_words, txn, exclusive_lock, exclusives_of}
use Rattle.rules.specs.Tested.{lock_good, quota_good}

unfoldable pub locks_good : Sizes → List ℕ → List ℕ → Bool
locks_good S t l = every_below S.items (λ x. lock_good S t (lock l x))

unfoldable pub quotas_good : Sizes → List ℕ → List ℕ → Bool
quotas_good S t l = every_below S.slots (λ s. quota_good S l s (txn t s))

-- ---- a lock as the code tests it, where the word u holds the slots of live updates, who may share, and w those
-- of all who may hold exclusively; a shift is by less than 64
unfoldable pub lock_ok : ℕ → ℕ → Lock → Bool
lock_ok u w h =
    cond (eqb h.exclusive 0)
    (eqb h.working 0 && eqb (bit_and h.shared u) h.shared)
    (eqb h.shared 0 && leb h.exclusive base.slots && eqb (w * 2 / 2 ^ (h.exclusive % 64) % 2) 1)

unfoldable pub locks_ok : ℕ → ℕ → List ℕ → Bool
locks_ok u w l = every_below base.items (λ x. lock_ok u w (lock l x))

-- no lock word is set
unfoldable pub nothing_held : List ℕ → Bool
nothing_held l = every_below (lock_words base) (λ k. eqb (get_or l k 0) 0)

-- ---- the words c say how many items each slot holds exclusively, and no count is above `most`
pub record Counted (l c : List ℕ) (most : ℕ) : Type 0 where
  pub size : length c ≡ base.slots
  pub at : (s : ℕ) → s < base.slots → get_or c s 0 ≡ exclusives_of base l s
  pub bound : (s : ℕ) → s < base.slots → get_or c s 0 ≤ most

-- one slot as the code tests it, by what it holds exclusively and the lock that it awaits. It does not ask who may
-- hold any: once the locks are good, nobody else does
abbrev pub quota_ok : ℕ → ℕ → Bool
quota_ok held wanted = leb held base.quota && not (eqb held base.quota && eqb wanted exclusive_lock)

unfoldable pub quotas_ok : List ℕ → List ℕ → Bool
quotas_ok t c = every_below base.slots (λ s. quota_ok (get_or c s 0) (txn t s).awaited_lock)
