-- Demand 2: an update's read or write that passes the earlier tests is granted exactly where no other holder's lock conflicts, and
-- answered deadlock exactly where its wait would close a circle.
use Prim.Native.Nat.{ℕ}
use mathlib.Core.Path.{◌≡◌, refl, sym, ap, ◌∙◌}
use mathlib.Core.Logic.{◌⊎◌, inl, inr, ◌↔◌}
use mathlib.Core.Bool.{Bool, true, false}
use native.Mathlib.Omega.{arith}
use lib.Dec.{T}
use Rattle.names.specs.declared.Sizes.{Sizes}
use Rattle.rules.specs.Tables.{Tables}
use Rattle.rules.specs.Waits.{noted, circle_at}
use Rattle.rules.specs.Good.{Good}
use Rattle.rules.specs.Locks.{Asked, to_read, to_write, wanted, decision, Cell}
use Rattle.rules.specs.Locks.{OwnValue, ReplaceValue, NewestValue, ExchangeLock, TakeShared, TakeExclusive, Conflict}
use Rattle.rules.specs.Answers.{Deed, Outcome, granted, code, Wait, Deadlock}
use Rattle.rules.specs.Step.{access, conflicted, done}
use Rattle.rules.specs.Conditions.{Circle}
use Rattle.rules.specs.Promises.{code_of, asking, Passes, Conflicting, GrantedExactly, DeadlockExactly, WaitExactly}
use Rattle.rules.proofs.Tests.{true_is, false_is}
use Rattle.rules.proofs.Deadlock.{circle_is}
use Rattle.rules.proofs.Decisions.{blocked-other, wanted-lock, decision-conflict, access-conflict, access-free}
use Rattle.rules.proofs.Calls.{update-reads, update-writes}

module _ (S : Sizes) (G : Tables) (n s x v : ℕ) (g : Good S G) where
  -- the value that the cell is asked with: a read has none
  abbrev carried : Asked → ℕ
  carried to_read = 0
  carried to_write = v

  -- the call comes to what the cell of the table says
  asked : (a : Asked) → Passes S G a n s x → code_of S (asking a n x v) G ≡ (done S (access S a s x (carried a) G) G).answer.code
  asked to_read P = let U = P.asks in ap (λ (o : Outcome). o.answer.code) (update-reads S G g n s U.caller U.update x U.known U.free)
  asked to_write P =
      let U = P.asks in
      ap (λ (o : Outcome). o.answer.code) (update-writes S G g n s U.caller U.update x v U.known U.free (P.room refl))

  module _ (a : Asked) (P : Passes S G a n s x) where
    abbrev answers : ℕ
    answers = code_of S (asking a n x v) G

    -- ---- what is computed
    abbrev turns : Bool
    turns = circle_at S (noted S G.txns G.locks s (wanted a) x) G.locks s

    -- a conflict, or none
    abbrev Stuck : Type 0
    Stuck = decision S a G.txns G.locks x s ≡ Conflict

    others : Stuck ↔ Conflicting S G a s x
    others =
        let d = decision-conflict S G g x P.asks.known s a in
        let b = blocked-other S G.txns G.locks (wanted a) x s in
        (λ q. let c = d.0 q in (c.0, b.0 c.1), λ c. d.1 (c.0, b.1 c.1))

    free-code : (Conflicting S G a s x → ⊥) → answers ≡ granted
    free-code n =
        asked a P ∙ access-free S G g x P.asks.known s a (carried a) (λ k u. n (k, (blocked-other S G.txns G.locks (wanted a) x s).0 u))

    conflict-code : Conflicting S G a s x → answers ≡ (done S (conflicted S s (wanted a) x G) G).answer.code
    conflict-code c =
        asked a P
        ∙ ap (λ (d : Deed). (done S d G).answer.code)
        (access-conflict S G g x P.asks.known s a (carried a) c.0 ((blocked-other S G.txns G.locks (wanted a) x s).1 c.1))

    circle-code : Conflicting S G a s x → turns ≡ true → answers ≡ code Deadlock
    unfolding conflicted done
    circle-code c f = conflict-code c ∙ rw f

    wait_code : Conflicting S G a s x → turns ≡ false → answers ≡ code Wait
    unfolding conflicted done
    wait_code c f = conflict-code c ∙ rw f

    circles : T turns ↔ Circle S G s (wanted a) x
    circles = circle_is S G g s (wanted a) x P.asks.caller.inside P.asks.known (wanted-lock a)

    -- a conflict or not
    conflict? : Conflicting S G a s x ⊎ (Conflicting S G a s x → ⊥)
    conflict? = go (decision S a G.txns G.locks x s) refl
      where
        no : (d : Cell) → decision S a G.txns G.locks x s ≡ d → (d ≡ Conflict → ⊥) → Conflicting S G a s x ⊎ (Conflicting S G a s x → ⊥)
        no d e n = inr (λ c. n (sym e ∙ others.1 c))

        go : (d : Cell) → decision S a G.txns G.locks x s ≡ d → Conflicting S G a s x ⊎ (Conflicting S G a s x → ⊥)
        go Conflict e = inl (others.0 e)
        go OwnValue e = no OwnValue e (λ q. let z : ◌≡◌ {A = ℕ} 0 1 = cc in omega arith)
        go ReplaceValue e = no ReplaceValue e (λ q. let z : ◌≡◌ {A = ℕ} 0 1 = cc in omega arith)
        go NewestValue e = no NewestValue e (λ q. let z : ◌≡◌ {A = ℕ} 0 1 = cc in omega arith)
        go ExchangeLock e = no ExchangeLock e (λ q. let z : ◌≡◌ {A = ℕ} 0 1 = cc in omega arith)
        go TakeShared e = no TakeShared e (λ q. let z : ◌≡◌ {A = ℕ} 0 1 = cc in omega arith)
        go TakeExclusive e = no TakeExclusive e (λ q. let z : ◌≡◌ {A = ℕ} 0 1 = cc in omega arith)

    granted_here : (answers ≡ granted) ↔ (Conflicting S G a s x → ⊥)
    granted_here = go conflict? turns refl
      where
        go : Conflicting S G a s x ⊎ (Conflicting S G a s x → ⊥) → (z : Bool) → turns ≡ z → (answers ≡ granted) ↔ (Conflicting S G a s x → ⊥)
        go (inl c) true f = (λ q. absurd (let e = circle-code c f in omega arith), λ n. absurd (n c))
        go (inl c) false f = (λ q. absurd (let e = wait_code c f in omega arith), λ n. absurd (n c))
        go (inr n) z f = (λ q. n, λ m. free-code m)

    deadlock_here : (answers ≡ code Deadlock) ↔ (Conflicting S G a s x × Circle S G s (wanted a) x)
    deadlock_here = go conflict? turns refl
      where
        go : Conflicting S G a s x ⊎ (Conflicting S G a s x → ⊥) → (z : Bool) → turns ≡ z → (answers ≡ code Deadlock) ↔ (Conflicting S G a s x × Circle S G s (wanted a) x)
        go (inl c) true f = (λ q. (c, circles.0 (true_is f)), λ m. circle-code c f)
        go (inl c) false f = (λ q. absurd (let e = wait_code c f in omega arith), λ m. absurd (false_is f (circles.1 m.1)))
        go (inr n) z f = (λ q. absurd (let e = free-code n in omega arith), λ m. absurd (n m.0))

    wait_here : (answers ≡ code Wait) ↔ (Conflicting S G a s x × (Circle S G s (wanted a) x → ⊥))
    wait_here = go conflict? turns refl
      where
        go : Conflicting S G a s x ⊎ (Conflicting S G a s x → ⊥) → (z : Bool) → turns ≡ z → (answers ≡ code Wait) ↔ (Conflicting S G a s x × (Circle S G s (wanted a) x → ⊥))
        go (inl c) true f = (λ q. absurd (let e = circle-code c f in omega arith), λ m. absurd (m.1 (circles.0 (true_is f))))
        go (inl c) false f = (λ q. (c, λ w. false_is f (circles.1 w)), λ m. wait_code c f)
        go (inr n) z f = (λ q. absurd (let e = free-code n in omega arith), λ m. absurd (n m.0))

pub granted_exactly : (S : Sizes) → GrantedExactly S
granted_exactly S G a n s x v g P = granted_here S G n s x v g a P

pub deadlock_exactly : (S : Sizes) → DeadlockExactly S
deadlock_exactly S G a n s x v g P = deadlock_here S G n s x v g a P

pub wait_exactly : (S : Sizes) → WaitExactly S
wait_exactly S G a n s x v g P = wait_here S G n s x v g a P
