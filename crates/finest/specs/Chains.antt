-- Request E10, in a sentence: two blocks of a program are joined when a chain of conflicts leads from one to the other through other
-- programs taken whole; pieces are the classes.
use Rattle.std.specs.Prelude.{ℕ, ◌<◌, ◌≡◌, ◌≢◌, List, length, T}
use Rattle.finest.specs.Operations.{Operation, program_of, one_block, conflicting}

-- a chain of conflicts through programs other than t, each taken whole: from an operation of the first to one of the last
pub data Chain (os : List Operation) (t : ℕ) : ℕ → ℕ → Type 0 where
  within : {a b : ℕ} → a < length os → b < length os → program_of os a ≢ t → program_of os a ≡ program_of os b → Chain os t a b
  on : {a b c d : ℕ} → Chain os t a b → d < length os → program_of os d ≢ t → T (conflicting os b c) → c < length os → program_of os c ≡ program_of os d → Chain os t a d

-- the blocks of operations i and j, of program t, are joined: the chain starts at a conflict of the one and ends at one of the other
pub record Joined (os : List Operation) (t i j : ℕ) : Type 0 where
  pub leaves : ℕ
  pub first : ℕ
  pub last : ℕ
  pub enters : ℕ
  pub known : (leaves < length os) × (enters < length os) × (j < length os)
  pub of_program : (program_of os i ≡ t) × (program_of os j ≡ t)
  pub from_block : T (one_block os i leaves)
  pub out : T (conflicting os leaves first)
  pub chain : Chain os t first last
  pub back : T (conflicting os last enters)
  pub to_block : T (one_block os enters j)

-- the classes: i and j are of one block, or one joined block after the other leads from i to j
pub data Class (os : List Operation) (t : ℕ) : ℕ → ℕ → Type 0 where
  block : {i j : ℕ} → j < length os → program_of os i ≡ t → T (one_block os i j) → Class os t i j
  next : {i j k : ℕ} → Class os t i j → Joined os t j k → Class os t i k
