-- Whom each slot waits for, as words of slots, and what waiting rows are tested for.
use Rattle.std.specs.Prelude.{ℕ, ◌+◌, ◌/◌, ◌%◌, ◌^◌, ◌≤◌, ◌<◌, ◌≡◌, ◌≢◌, Bool, ◌&&◌, ◌||◌, not, List, get_or, length, T, eqb}
use Rattle.names.specs.declared.Sizes.{Sizes}
use Rattle.names.specs.Sizes.{base}
use Rattle.rules.specs.Words.{bit, every_below}
use Rattle.rules.specs.Tables.{txn, txn_words, Lock, lock, lock_words, holds, no_lock, shared_lock, exclusive_lock}
use Rattle.rules.specs.Waits.{conflicts, ahead, blocks, waits_for}
use Rattle.rules.specs.Tested.{awaiter_good}

-- ---- what is known of the tables when the waits are read
pub record Readable (t l : List ℕ) : Type 0 where
  pub txns_exact : length t ≡ txn_words base
  pub locks_exact : length l ≡ lock_words base
  pub lock_listed : (s : ℕ) → s < base.slots → (txn t s).awaited_lock ≤ exclusive_lock
  pub item_known : (s : ℕ) → s < base.slots → (txn t s).awaited_lock ≢ no_lock → (txn t s).awaited_item < base.items
  pub inside : (x : ℕ) → x < base.items → (b : ℕ) → T (holds (lock l x) b) → b < base.slots

-- the word holds everybody who awaits a lock, and slots only
pub record Awaiting (t : List ℕ) (waiting : ℕ) : Type 0 where
  pub small : waiting < 2 ^ base.slots
  pub all : (s : ℕ) → s < base.slots → (txn t s).awaited_lock ≢ no_lock → T (bit waiting s)

-- ---- the answers
-- the word w holds the slots whose hold on a lock conflicts with a request for one of kind k
pub record Holders (h : Lock) (k w : ℕ) : Type 0 where
  pub small : w < 2 ^ base.slots
  pub at : (b : ℕ) → bit w b ≡ conflicts h k b

-- the word w holds the slots that wait on item x before the rank p, in conflict with a request for a lock of kind k
pub record Ahead (t : List ℕ) (k x p w : ℕ) : Type 0 where
  pub small : w < 2 ^ base.slots
  pub at : (b : ℕ) → bit w b ≡ ahead x k p (txn t b)

-- the word w holds the slots that block slot s's request, at the rank p, for a lock of kind k on item x
pub record Blockers (t l : List ℕ) (k x p s w : ℕ) : Type 0 where
  pub small : w < 2 ^ base.slots
  pub at : (b : ℕ) → bit w b ≡ blocks t l k x p s b

-- the words w say whom each slot waits for
pub record Links (t l w : List ℕ) : Type 0 where
  pub size : length w ≡ base.slots
  pub small : (a : ℕ) → get_or w a 0 < 2 ^ base.slots
  pub at : (a b : ℕ) → bit (get_or w a 0) b ≡ waits_for t l a b

-- "who awaits shared holds nothing on that item, who awaits exclusive does not hold it exclusively"
unfoldable pub awaiters_good : Sizes → List ℕ → List ℕ → Bool
awaiters_good S t l = every_below S.slots (λ s. awaiter_good s (txn t s) (lock l (txn t s).awaited_item))

-- ---- as the code tests it, by words
abbrev pub awaiter_ok : ℕ → ℕ → ℕ → ℕ → Bool
awaiter_ok shared exclusive wanted slot =
    not (eqb exclusive (slot + 1)) && (not (eqb wanted shared_lock) || eqb (shared / 2 ^ slot % 2) 0)
