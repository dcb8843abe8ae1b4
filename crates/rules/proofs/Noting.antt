-- The rows after a wait was noted, and after one left its line.
use Prim.Native.Nat.{ℕ, suc, ◌≤◌, ◌<◌}
use mathlib.Core.Path.{◌≡◌, refl, sym, ap, ◌∙◌}
use mathlib.Core.Logic.{◌≢◌, ◌⊎◌, inl, inr, ⊎_elim}
use mathlib.Core.Bool.{Bool, true, false, ◌&&◌, cond}
use mathlib.Core.List.{List}
use native.Mathlib.Omega.{arith}
use lib.ListN.{length, get_or}
use lib.Dec.{T}
use Rattle.names.specs.declared.Sizes.{Sizes}
use Rattle.names.specs.Layout.{last_number_at, clock_at, txn_rank_at}
use Rattle.rules.specs.Tables.{txn_words, last_number, clock, Txn, txn, set_txn, set_awaited, with_rank, reranked, lock, holds_shared}
use Rattle.rules.specs.Waits.{awaits, awaits_on, waiters_on, exchangers_on, rank_for, raised, lowered, noted, closed_up}
use Rattle.rules.specs.Changed.{NoRank, leaving}
use Rattle.rules.proofs.Tests.{true_is, is_true, is_false, false_is, and_left, same?}
use Rattle.rules.proofs.Counts.{count_fewer}
use Rattle.rules.proofs.Views.{awaiting, set_awaited-row, length-set_txn, txn-set_txn, txn-set_txn-other, last_number-set_txn, clock-set_txn, length-reworded, word-reworded, head_reworded, txn-reworded, txn-reworded-out}

-- ---- a request's rank, where it stands in no line yet
module _ (S : Sizes) (t l : List ℕ) (s x : ℕ) (new : T (awaits_on x (txn t s)) → ⊥) where
  pub rank-shared : T (holds_shared (lock l x) s) → rank_for S t l s x ≡ suc (exchangers_on S t l x)
  unfolding rank_for
  rank-shared h = rw (is_false (awaits_on x (txn t s)) new, is_true (holds_shared (lock l x) s) h)

  pub rank-last : (T (holds_shared (lock l x) s) → ⊥) → rank_for S t l s x ≡ suc (waiters_on S t x)
  unfolding rank_for
  rank-last n = rw (is_false (awaits_on x (txn t s)) new, is_false (holds_shared (lock l x) s) n)

  rank_is : (rank_for S t l s x ≡ suc (exchangers_on S t l x)) ⊎ (rank_for S t l s x ≡ suc (waiters_on S t x))
  rank_is = go (holds_shared (lock l x) s) refl
    where
      go : (b : Bool) → holds_shared (lock l x) s ≡ b → (rank_for S t l s x ≡ suc (exchangers_on S t l x)) ⊎ (rank_for S t l s x ≡ suc (waiters_on S t x))
      go true e = inl (rank-shared (true_is e))
      go false e = inr (rank-last (false_is e))

  pub rank-least : 1 ≤ rank_for S t l s x
  rank-least = ⊎_elim (λ e. omega arith) (λ e. omega arith) rank_is

  -- who waits to exchange waits
  pub exchangers_wait : exchangers_on S t l x ≤ waiters_on S t x
  unfolding exchangers_on waiters_on
  exchangers_wait = count_fewer S.slots (λ b. awaits_on x (txn t b) && holds_shared (lock l x) b) (λ b. awaits_on x (txn t b)) (λ b i h. and_left (awaits_on x (txn t b)) _ h)

  pub rank_most : rank_for S t l s x ≤ suc (waiters_on S t x)
  rank_most = let m = exchangers_wait in ⊎_elim (λ e. omega arith) (λ e. omega arith) rank_is

-- where it stands in line already
pub rank-known : (S : Sizes) (t l : List ℕ) (s x : ℕ) → T (awaits_on x (txn t s)) → rank_for S t l s x ≡ (txn t s).rank
unfolding rank_for
rank-known S t l s x h = rw (is_true (awaits_on x (txn t s)) h)

-- ---- a noted wait
module _ (S : Sizes) (t l : List ℕ) (s k x : ℕ) where
  -- one that waits there already is noted
  pub noted-known : T (awaits_on x (txn t s)) → noted S t l s k x ≡ t
  unfolding noted
  noted-known h = rw (is_true (awaits_on x (txn t s)) h)

  module _ (new : T (awaits_on x (txn t s)) → ⊥) where
    abbrev p : ℕ
    p = rank_for S t l s x

    abbrev u : List ℕ
    u = reranked S.slots (raised x p) t

    pub noted_new : noted S t l s k x ≡ set_awaited (reranked S.slots (raised x (rank_for S t l s x)) t) s k x (rank_for S t l s x)
    unfolding noted
    noted_new = rw (is_false (awaits_on x (txn t s)) new)

    is : noted S t l s k x ≡ set_txn u s (awaiting (txn u s) k x p)
    is = noted_new ∙ set_awaited-row u s k x p

    pub noted-length : length (noted S t l s k x) ≡ length t
    noted-length = ap length is ∙ length-set_txn u s (awaiting (txn u s) k x p) ∙ length-reworded txn_rank_at (omega arith) S.slots (raised x p) t

    pub noted-last : last_number (noted S t l s k x) ≡ last_number t
    noted-last = ap last_number is ∙ last_number-set_txn u s (awaiting (txn u s) k x p) ∙ head_reworded txn_rank_at (omega arith) S.slots (raised x p) t last_number_at (omega arith)

    pub noted-clock : clock (noted S t l s k x) ≡ clock t
    noted-clock = ap clock is ∙ clock-set_txn u s (awaiting (txn u s) k x p) ∙ head_reworded txn_rank_at (omega arith) S.slots (raised x p) t clock_at (omega arith)

    module _ (size : length t ≡ txn_words S) where
      pub noted_there : (r : ℕ) → r < S.slots → r ≢ s → txn (noted S t l s k x) r ≡ with_rank (txn t r) (raised x (rank_for S t l s x) (txn t r))
      noted_there r i d =
          ap (λ (v : List ℕ). txn v r) is ∙ txn-set_txn-other u s (awaiting (txn u s) k x p) r d ∙ txn-reworded txn_rank_at (omega arith) S t size S.slots (omega arith) (raised x p) r i

      -- past the rows all is as it was
      pub noted-out : (r : ℕ) → S.slots ≤ r → r ≢ s → txn (noted S t l s k x) r ≡ txn t r
      noted-out r h d = ap (λ (v : List ℕ). txn v r) is ∙ txn-set_txn-other u s (awaiting (txn u s) k x p) r d ∙ txn-reworded-out txn_rank_at (omega arith) S.slots (raised x p) t r h

      pub noted_here : s < S.slots → txn (noted S t l s k x) s ≡ awaiting (txn t s) k x (rank_for S t l s x)
      noted_here i =
          ap (λ (v : List ℕ). txn v s) is
          ∙ txn-set_txn u s (awaiting (txn u s) k x p) S (length-reworded txn_rank_at (omega arith) S.slots (raised x p) t ∙ size) i
          ∙ ap (λ (w : Txn). awaiting w k x p) (txn-reworded txn_rank_at (omega arith) S t size S.slots (omega arith) (raised x p) s i)

-- the table is as long as it was
pub noted-size : (S : Sizes) (t l : List ℕ) (s k x : ℕ) → length (noted S t l s k x) ≡ length t
noted-size S t l s k x = go (awaits_on x (txn t s)) refl
  where
    go : (b : Bool) → awaits_on x (txn t s) ≡ b → length (noted S t l s k x) ≡ length t
    go true e = ap length (noted-known S t l s k x (true_is e))
    go false e = noted-length S t l s k x (false_is e)

-- what does not go by the awaited fields is as it was, whoever is noted
pub noted-keeps :
    (S : Sizes) (t l : List ℕ) (s k x : ℕ) → length t ≡ txn_words S → s < S.slots
    → {A : Type 0} (h : Txn → A) → ((r : Txn) (k x p : ℕ) → h (awaiting r k x p) ≡ h r) → ((r : Txn) (p : ℕ) → h (with_rank r p) ≡ h r)
    → (r : ℕ) → r < S.slots → h (txn (noted S t l s k x) r) ≡ h (txn t r)
noted-keeps S t l s k x size inside h a b r i = go (awaits_on x (txn t s)) refl (same? r s)
  where
    go : (c : Bool) → awaits_on x (txn t s) ≡ c → (r ≡ s) ⊎ (r ≢ s) → h (txn (noted S t l s k x) r) ≡ h (txn t r)
    go true e z = ap (λ (u : List ℕ). h (txn u r)) (noted-known S t l s k x (true_is e))
    go false e (inl z) =
        ap (λ (m : ℕ). h (txn (noted S t l s k x) m)) z ∙ ap h (noted_here S t l s k x (false_is e) size inside)
        ∙ a (txn t s) k x (rank_for S t l s x) ∙ ap (λ (m : ℕ). h (txn t m)) (sym z)
    go false e (inr d) = ap h (noted_there S t l s k x (false_is e) size r i d) ∙ b (txn t r) (raised x (rank_for S t l s x) (txn t r))

-- ---- a line closed up
module _ (S : Sizes) (t : List ℕ) (s : ℕ) where
  abbrev f : Txn → ℕ
  f = lowered (txn t s).awaited_item (txn t s).rank

  pub closed-length : length (closed_up S t s) ≡ length t
  unfolding closed_up
  closed-length = go (awaits (txn t s))
    where
      go : (b : Bool) → length (cond b (reranked S.slots f t) t) ≡ length t
      go true = length-reworded txn_rank_at (omega arith) S.slots f t
      go false = refl

  closed_head : (v : List ℕ → ℕ) → (v (reranked S.slots f t) ≡ v t) → v (closed_up S t s) ≡ v t
  unfolding closed_up
  closed_head v e = go (awaits (txn t s))
    where
      go : (b : Bool) → v (cond b (reranked S.slots f t) t) ≡ v t
      go true = e
      go false = refl

  pub closed_none : (T (awaits (txn t s)) → ⊥) → closed_up S t s ≡ t
  unfolding closed_up
  closed_none n = rw (is_false (awaits (txn t s)) n)

  pub closed-word : (j : ℕ) → NoRank S.slots j → get_or (closed_up S t s) j 0 ≡ get_or t j 0
  closed-word j o = closed_head (λ (u : List ℕ). get_or u j 0) (word-reworded txn_rank_at (omega arith) S.slots f t j o)

  pub closed-last : last_number (closed_up S t s) ≡ last_number t
  closed-last = closed_head last_number (head_reworded txn_rank_at (omega arith) S.slots f t last_number_at (omega arith))

  pub closed-clock : clock (closed_up S t s) ≡ clock t
  closed-clock = closed_head clock (head_reworded txn_rank_at (omega arith) S.slots f t clock_at (omega arith))

  pub closed-out : (r : ℕ) → S.slots ≤ r → txn (closed_up S t s) r ≡ txn t r
  unfolding closed_up
  closed-out r h = go (awaits (txn t s))
    where
      go : (b : Bool) → txn (cond b (reranked S.slots f t) t) r ≡ txn t r
      go true = txn-reworded-out txn_rank_at (omega arith) S.slots f t r h
      go false = refl

  pub closed-row : length t ≡ txn_words S → (r : ℕ) → r < S.slots → txn (closed_up S t s) r ≡ with_rank (txn t r) (leaving t s (txn t r))
  unfolding closed_up
  closed-row size r i = go (awaits (txn t s))
    where
      go : (b : Bool) → txn (cond b (reranked S.slots f t) t) r ≡ with_rank (txn t r) (cond b (f (txn t r)) (txn t r).rank)
      go true = txn-reworded txn_rank_at (omega arith) S t size S.slots (omega arith) f r i
      go false = refl
