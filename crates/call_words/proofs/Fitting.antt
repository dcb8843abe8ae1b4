-- What bounds a call's numbers bounds its four words, and what bounds these bounds what it asks to be stored.
use Prim.Native.Nat.{ℕ, ◌≤◌}
use mathlib.Core.List.{List, [], ◌∷◌}
use native.Mathlib.Omega.{arith}
use Rattle.rules.specs.Answers.{Call, BeginUpdate, BeginQuery, Read, Write, Commit, Abort, Settle, BeginRelaxed}
use Rattle.rules.proofs.Bounded.{Asks}
use Rattle.call_words.specs.Calls.{fields_of, numbers_of, last_kind}
use Rattle.call_words.specs.declared.Fields.{Fields}

-- each of some numbers is at most B
pub data Most (B : ℕ) : List ℕ → Type 0 where
  none : Most B []
  more : {n : ℕ} {ns : List ℕ} → n ≤ B → Most B ns → Most B (n ∷ ns)

-- and each of four words
pub record FieldsMost (B : ℕ) (f : Fields) : Type 0 where
  pub kind : f.kind ≤ B
  pub number : f.number ≤ B
  pub item : f.item ≤ B
  pub value : f.value ≤ B

pub fields-most : (B : ℕ) (c : Call) → last_kind ≤ B → Most B (numbers_of c) → FieldsMost B (fields_of c)
unfolding fields_of
fields-most B BeginUpdate k m = record { kind = omega arith; number = omega arith; item = omega arith; value = omega arith }
fields-most B BeginQuery k m = record { kind = omega arith; number = omega arith; item = omega arith; value = omega arith }
fields-most B (Read n x) k (more a (more b m)) = record { kind = omega arith; number = a; item = b; value = omega arith }
fields-most B (Write n x v) k (more a (more b (more d m))) = record { kind = omega arith; number = a; item = b; value = d }
fields-most B (Commit n) k (more a m) = record { kind = omega arith; number = a; item = omega arith; value = omega arith }
fields-most B (Abort n) k (more a m) = record { kind = omega arith; number = a; item = omega arith; value = omega arith }
fields-most B (Settle n) k (more a m) = record { kind = omega arith; number = a; item = omega arith; value = omega arith }
fields-most B BeginRelaxed k m = record { kind = omega arith; number = omega arith; item = omega arith; value = omega arith }

pub fields-asks : (B : ℕ) (c : Call) → FieldsMost B (fields_of c) → Asks B c
unfolding fields_of Asks
fields-asks B BeginUpdate f = tt
fields-asks B BeginQuery f = tt
fields-asks B (Read n x) f = tt
fields-asks B (Write n x v) f = f.value
fields-asks B (Commit n) f = tt
fields-asks B (Abort n) f = tt
fields-asks B (Settle n) f = tt
fields-asks B BeginRelaxed f = tt
