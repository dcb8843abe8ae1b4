-- What the calls that name a number are answered where nobody has it: 3. One clause a call.
use Prim.Native.Nat.{ℕ, ◌≤◌}
use mathlib.Core.Path.{◌≡◌, refl, ap, ◌∙◌}
use mathlib.Core.Bool.{Bool, true, false}
use mathlib.Core.List.{List}
use lib.Dec.{T, eqb, eqb→eq}
use Rattle.names.specs.declared.Sizes.{Sizes}
use Rattle.rules.specs.Words.{some}
use Rattle.rules.specs.Tables.{Tables, slot_of}
use Rattle.rules.specs.Good.{Good}
use Rattle.rules.specs.Answers.{Call, BeginUpdate, BeginQuery, Read, Write, Commit, Abort, Settle, BeginRelaxed, granted, refuses, UnknownTransaction, Refused}
use Rattle.rules.specs.Step.{read_by, write_by, commit_by, abort_by, settle_by, judged, done, act, step}
use Rattle.rules.proofs.Callers.{caller_in}
use Rattle.rules.proofs.Steps.{acts}
use Rattle.history.specs.Happened.{SoFar, names, did}
use Rattle.history.proofs.Marked.{Known}
use Rattle.history.proofs.Seen.{seen, seen_fair}
use Rattle.history.proofs.Happens.{step_happens, granted_turn}
use Rattle.history.proofs.Standing.{Unknown, unknown_on, over-unknown}

-- ---- it is answered 3
module _ (S : Sizes) (n : ℕ) (G : Tables) (g : Good S G) (U : Unknown n (seen S G)) where
  nowhere : eqb (slot_of S G.txns n) S.slots ≡ true
  nowhere = go (eqb (slot_of S G.txns n) S.slots) refl
    where
      s : ℕ
      s = slot_of S G.txns n

      go : (b : Bool) → eqb (slot_of S G.txns n) S.slots ≡ b → eqb (slot_of S G.txns n) S.slots ≡ true
      go true e = e
      go false e = let C = caller_in S G n e in absurd (U.nobody s (C.inside, C.alive) C.name)

  unknown-judged : (c : Call) → T (names n c) → judged S c G ≡ Refused UnknownTransaction
  unfolding judged names read_by write_by commit_by abort_by settle_by
  unknown-judged BeginUpdate a = absurd a
  unknown-judged BeginQuery a = absurd a
  unknown-judged BeginRelaxed a = absurd a
  unknown-judged (Read m x) a = rw (eqb→eq m n a, nowhere)
  unknown-judged (Write m x v) a = rw (eqb→eq m n a, nowhere)
  unknown-judged (Commit m) a = rw (eqb→eq m n a, nowhere)
  unknown-judged (Abort m) a = rw (eqb→eq m n a, nowhere)
  unknown-judged (Settle m) a = rw (eqb→eq m n a, nowhere)

module _ (S : Sizes) (enough : S.slots ≤ S.places) where
  pub unknown-answer : (n : ℕ) (G : Tables) → Good S G → Unknown n (seen S G) → (c : Call) → T (names n c) → step S c G ≡ refuses UnknownTransaction G
  unfolding act done
  unknown-answer n G g U c a = acts S c G g ∙ ap (λ d. done S d G) (unknown-judged S n G g U c a)

  pub unknown-step : (n : ℕ) (c : Call) (G : Tables) → Good S G → Unknown n (seen S G) → Unknown n (seen S (step S c G).after)
  unknown-step n c G g U = unknown_on S.items (seen S G) _ n (step_happens S enough c G g).turn U

  -- ---- a granted commit or abort
  module _ (n : ℕ) (G : Tables) (g : Good S G) (us : SoFar) (K : Known S.items us (seen S G)) where
    pub commit-over : (step S (Commit n) G).answer.code ≡ granted → Unknown n (seen S (step S (Commit n) G).after)
    unfolding did
    commit-over e =
        over-unknown S.items (seen S G) _ n (seen_fair S G g) (step S (Commit n) G).answer.number (some (λ m. names m (Commit n)) us.updates)
        (some (λ m. names m (Commit n)) us.stamped)
        (granted_turn S enough (Commit n) G g us K e)

    pub abort-over : (step S (Abort n) G).answer.code ≡ granted → Unknown n (seen S (step S (Abort n) G).after)
    unfolding did
    abort-over e = over-unknown S.items (seen S G) _ n (seen_fair S G g) 0 false false (granted_turn S enough (Abort n) G g us K e)
