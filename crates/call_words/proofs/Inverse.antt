-- Words are a call exactly where they are some call's: `call_of-fields_of` and `fields_of-call_of`.
use Prim.Native.Nat.{ℕ}
use mathlib.Core.Path.{◌≡◌, refl, sym, subst}
use mathlib.Core.Bool.{Bool, true, false}
use native.Mathlib.Omega.{arith}
use lib.Dec.{T, eqb}
use borrow.Author.Tests.{eqb-true, eq-eqb}
use Rattle.rules.specs.Answers.{Call, BeginUpdate, BeginQuery, Read, Write, Commit, Abort, Settle, BeginRelaxed}
use Rattle.rules.proofs.Tests.{and_left, and_right, is_true}
use Rattle.call_words.specs.declared.Fields.{Fields}
use Rattle.std.proofs.Common.{Some, None}
use Rattle.call_words.specs.Calls.{fields_of, call_in, same_fields, is_call, call_of}

-- ---- the same fields

same_self : (f : Fields) → same_fields f f ≡ true
unfolding same_fields
same_self f =
    rw (eq-eqb f.kind f.kind refl, eq-eqb f.number f.number refl, eq-eqb f.item f.item refl, eq-eqb f.value f.value refl)

equal : (a b : ℕ) → T (eqb a b) → a ≡ b
equal a b h = eqb-true a b (is_true (eqb a b) h)

same_is : (f g : Fields) → T (same_fields f g) → f ≡ g
unfolding same_fields
same_is f g h =
    let tail = and_right (eqb f.kind g.kind) _ h in
    let last = and_right (eqb f.number g.number) _ tail in
    let k = equal f.kind g.kind (and_left (eqb f.kind g.kind) _ h) in
    let n = equal f.number g.number (and_left (eqb f.number g.number) _ tail) in
    let x = equal f.item g.item (and_left (eqb f.item g.item) _ last) in
    let v = equal f.value g.value (and_right (eqb f.item g.item) _ last) in
    λ i. record { kind = k i; number = n i; item = x i; value = v i }

-- ---- a call's fields say the call

pub call_in-fields_of : (c : Call) → call_in (fields_of c) ≡ c
unfolding call_in fields_of
call_in-fields_of BeginUpdate = refl
call_in-fields_of BeginQuery = refl
call_in-fields_of (Read n x) = refl
call_in-fields_of (Write n x v) = refl
call_in-fields_of (Commit n) = refl
call_in-fields_of (Abort n) = refl
call_in-fields_of (Settle n) = refl
call_in-fields_of BeginRelaxed = refl

pub is_call-fields_of : (c : Call) → is_call (fields_of c) ≡ true
unfolding is_call
is_call-fields_of c = rw (call_in-fields_of c) (same_self (fields_of c))

pub call_of-fields_of : (c : Call) → call_of (fields_of c) ≡ Some c
unfolding call_of
call_of-fields_of c = rw (is_call-fields_of c, call_in-fields_of c)

-- ---- and fields that are a call say a call whose fields they are

pub fields_of-call_in : (f : Fields) → T (is_call f) → fields_of (call_in f) ≡ f
unfolding is_call
fields_of-call_in f h = sym (same_is f (fields_of (call_in f)) h)

-- what is known of words that are a call, and of words that are none
pub known : (f : Fields) (c : Call) → call_of f ≡ Some c → (is_call f ≡ true) × (call_in f ≡ c)
unfolding call_of
known f c e = go (is_call f) refl
  where
    go : (b : Bool) → is_call f ≡ b → (is_call f ≡ true) × (call_in f ≡ c)
    go true h = let k : Some (call_in f) ≡ Some c = rw h at e in (h, (cc))
    go false h = let k : None ≡ Some c = rw h at e in let z : ◌≡◌ {A = ℕ} 0 1 = cc in absurd (omega arith)

pub unknown : (f : Fields) → call_of f ≡ None → is_call f ≡ false
unfolding call_of
unknown f e = go (is_call f) refl
  where
    go : (b : Bool) → is_call f ≡ b → is_call f ≡ false
    go true h = let k : Some (call_in f) ≡ None = rw h at e in let z : ◌≡◌ {A = ℕ} 0 1 = cc in absurd (omega arith)
    go false h = h

pub fields_of-call_of : (f : Fields) (c : Call) → call_of f ≡ Some c → fields_of c ≡ f
fields_of-call_of f c e =
    let k = known f c e in
    rw (sym k.1) (fields_of-call_in f (subst T (sym k.0) tt))
