-- Request E4: the ranks of those who wait on an item are 1, 2 and so on to as many as they are, and one at most waits to exchange, first.
use Prim.Native.Nat.{ℕ, zero, suc, ◌+◌, ◌-◌, ◌≤◌, ◌<◌}
use mathlib.Core.Path.{◌≡◌, refl, sym, ap, ◌∙◌, subst}
use mathlib.Core.Logic.{◌≢◌, ◌⊎◌, inl, inr}
use mathlib.Core.Bool.{Bool, true, false, ◌&&◌}
use native.Mathlib.Omega.{arith}
use lib.Dec.{T, eqb, leb, eqb→eq, leb→le, le→leb}
use Rattle.names.specs.declared.Sizes.{Sizes}
use Rattle.rules.specs.Words.{count_below, some_below}
use Rattle.rules.specs.Tables.{Tables, txn, lock, holds, holds_shared, shared_lock, exclusive_lock}
use Rattle.rules.specs.Waits.{awaits, awaits_on, waiters_on, conflicts, waits_for, one, more}
use Rattle.rules.specs.Good.{Good}
use Rattle.rules.specs.Promises.{RanksExactly, OneExchanger, ExchangerFirst}
use Rattle.rules.proofs.Tests.{true_is, false_is, and_left, and_right, and_both, or_left, eq_make, same?}
use Rattle.rules.proofs.Counts.{some_below→, →some_below, count_fewer, count_one_more, count_none}
use Rattle.rules.proofs.EqualRanks.{awaits→, awaits_on→}
use Rattle.rules.proofs.Walks.{→waits-for}
use Rattle.rules.proofs.Waited.{shared-conflicts}

-- ---- those who pass p bear different numbers f, from 1 on: where a number is missing, fewer than m bear one up to m
module _
    (n : ℕ) (p : ℕ → Bool) (f : ℕ → ℕ) (least : (i : ℕ) → i < n → T (p i) → 1 ≤ f i)
    (apart : (i j : ℕ) → i < n → j < n → i ≢ j → T (p i) → T (p j) → f i ≢ f j)
  where
    -- who bears a number up to m
    abbrev up_to : ℕ → ℕ → Bool
    up_to m i = p i && leb (f i) m

    -- who bears m
    abbrev bears : ℕ → ℕ → Bool
    bears m i = p i && eqb (f i) m

    -- who bears a number up to m + 1, and another than that
    lower : (m i : ℕ) → T (up_to (suc m) i) → f i ≢ suc m → T (up_to m i)
    lower m i u d =
        and_both (p i) _ (and_left (p i) _ u) (le→leb (f i) m (let k : f i ≤ suc m = leb→le (f i) (suc m) (and_right (p i) _ u) in omega arith))

    unborne : (m : ℕ) → (T (some_below n (bears (suc m))) → ⊥) → count_below n (up_to (suc m)) ≤ count_below n (up_to m)
    unborne m none =
        count_fewer n (up_to (suc m)) (up_to m)
        (λ i h u. lower m i u (λ e. none (→some_below n (bears (suc m)) i h (and_both (p i) _ (and_left (p i) _ u) (eq_make (f i) (suc m) e)))))

    one_bears : (m : ℕ) → count_below n (up_to (suc m)) ≤ suc (count_below n (up_to m))
    one_bears m = go (some_below n (bears (suc m))) refl
      where
        go : (b : Bool) → some_below n (bears (suc m)) ≡ b → count_below n (up_to (suc m)) ≤ suc (count_below n (up_to m))
        go false e = let k = unborne m (false_is e) in omega arith
        go true e =
            let r = some_below→ n (bears (suc m)) (true_is e) in
            let has : f r.0 ≡ suc m = eqb→eq (f r.0) (suc m) (and_right (p r.0) _ r.2) in
            count_one_more n (up_to (suc m)) (up_to m) r.0
            (λ i h d u. lower m i u (λ q. apart i r.0 h r.1 d (and_left (p i) _ u) (and_left (p r.0) _ r.2) (q ∙ sym has)))

    few : (m : ℕ) → count_below n (up_to m) ≤ m
    few zero =
        let e = count_none n (up_to 0) (λ i h u. let a = least i h (and_left (p i) _ u) in let b : f i ≤ 0 = leb→le (f i) 0 (and_right (p i) _ u) in omega arith) in
        omega arith
    few (suc m) = let a = few m in let b = one_bears m in omega arith

    -- the same, wherever k is m
    at : (k m : ℕ) → k ≡ m → count_below n (up_to k) ≡ count_below n (up_to m)
    at k m e = ap (λ (j : ℕ). count_below n (up_to j)) e

    fewer : (m : ℕ) → (T (some_below n (bears (suc m))) → ⊥) → (d : ℕ) → count_below n (up_to (d + suc m)) ≤ d + m
    fewer m none zero = let a = few m in let b = unborne m none in let c = at (0 + suc m) (suc m) (omega arith) in omega arith
    fewer m none (suc d) = let a = fewer m none d in let b = one_bears (d + suc m) in let c = at (suc d + suc m) (suc (d + suc m)) (omega arith) in omega arith

    -- so where all numbers are at most as many as bear one, each of these is borne
    pub all_borne : ((i : ℕ) → i < n → T (p i) → f i ≤ count_below n p) → (m : ℕ) → m < count_below n p → (i : ℕ) × (i < n) × T (p i) × (f i ≡ suc m)
    all_borne most m h = go (some_below n (bears (suc m))) refl
      where
        go : (b : Bool) → some_below n (bears (suc m)) ≡ b → (i : ℕ) × (i < n) × T (p i) × (f i ≡ suc m)
        go true e = let r = some_below→ n (bears (suc m)) (true_is e) in (r.0, r.1, and_left (p r.0) _ r.2, eqb→eq (f r.0) (suc m) (and_right (p r.0) _ r.2))
        go false e =
            let d = count_below n p - suc m in
            let a = fewer m (false_is e) d in
            let b = count_fewer n p (up_to (count_below n p)) (λ i l t. and_both (p i) _ t (le→leb (f i) (count_below n p) (most i l t))) in
            let c = at (count_below n p) (d + suc m) (omega arith) in
            absurd (omega arith)

-- ---- "from 1 without gaps"
pub ranks_exactly : (S : Sizes) → RanksExactly S
unfolding waiters_on
ranks_exactly S G x r g = (λ h. there r h.0 h.1, λ w. within w.0 w.1 w.2 w.3)
  where
    R : ℕ → ℕ
    R s = (txn G.txns s).rank

    most : (s : ℕ) → s < S.slots → T (awaits_on x (txn G.txns s)) → R s ≤ waiters_on S G.txns x
    most s i h = let w = awaits_on→ x (txn G.txns s) h in subst (λ (y : ℕ). R s ≤ waiters_on S G.txns y) w.1 (g.ranks_good.most s i w.0)

    least : (s : ℕ) → s < S.slots → T (awaits_on x (txn G.txns s)) → 1 ≤ R s
    least s i h = g.ranks_good.least s i (awaits_on→ x (txn G.txns s) h).0

    there : (r : ℕ) → 1 ≤ r → r ≤ waiters_on S G.txns x → (s : ℕ) × (s < S.slots) × T (awaits_on x (txn G.txns s)) × (R s ≡ r)
    there zero a b = absurd (omega arith)
    there (suc m) a b = all_borne S.slots (λ s. awaits_on x (txn G.txns s)) R least (λ i j h k d. g.ranks_good.apart x i j h k d) most m b

    within : (s : ℕ) → s < S.slots → T (awaits_on x (txn G.txns s)) → R s ≡ r → (1 ≤ r) × (r ≤ waiters_on S G.txns x)
    within s i h e = let a = least s i h in let b = most s i h in (omega arith, omega arith)

-- ---- who waits to exchange
-- it wants the item exclusively
exchanger-wants :
    (S : Sizes) (G : Tables) → Good S G → (x s : ℕ) → s < S.slots → T (awaits_on x (txn G.txns s)) → T (holds_shared (lock G.locks x) s)
    → (txn G.txns s).awaited_lock ≡ exclusive_lock
exchanger-wants S G g x s i w h = go (same? (txn G.txns s).awaited_lock shared_lock)
  where
    go : ((txn G.txns s).awaited_lock ≡ shared_lock) ⊎ ((txn G.txns s).awaited_lock ≢ shared_lock) → (txn G.txns s).awaited_lock ≡ exclusive_lock
    go (inl e) =
        absurd ((g.txn_good s i).awaits_shared e
        (subst (λ (y : ℕ). T (holds (lock G.locks y) s)) (sym (awaits_on→ x (txn G.txns s) w).1) (unfold holds in (or_left (holds_shared (lock G.locks x) s) _ h))))
    go (inr n) = let a = (g.txn_good s i).lock_listed in let b = awaits→ (txn G.txns s) (awaits_on→ x (txn G.txns s) w).0 in omega arith

-- and waits for every other that shares it
exchanger-waits :
    (S : Sizes) (G : Tables) → Good S G → (x s b : ℕ) → s < S.slots → T (awaits_on x (txn G.txns s)) → T (holds_shared (lock G.locks x) s)
    → s ≢ b → T (holds_shared (lock G.locks x) b) → T (waits_for G.txns G.locks s b)
exchanger-waits S G g x s b i w h d k =
    →waits-for G.txns G.locks s b (awaits→ (txn G.txns s) v.0) d
    (inl (subst (λ (y : ℕ). T (conflicts (lock G.locks y) (txn G.txns s).awaited_lock b)) (sym v.1)
    (subst (λ (j : ℕ). T (conflicts (lock G.locks x) j b)) (sym (exchanger-wants S G g x s i w h)) (shared-conflicts (lock G.locks x) b k))))
  where
    v : T (awaits (txn G.txns s)) × ((txn G.txns s).awaited_item ≡ x)
    v = awaits_on→ x (txn G.txns s) w

-- two would wait for each other
pub one_exchanger : (S : Sizes) → OneExchanger S
one_exchanger S G x r s g i j a b h k = go (same? r s)
  where
    go : (r ≡ s) ⊎ (r ≢ s) → r ≡ s
    go (inl e) = e
    go (inr d) =
        absurd (g.no_circle r (more (one (exchanger-waits S G g x r s i a h d k)) (exchanger-waits S G g x s r j b k (λ e. d (sym e)) h)))

-- who has the rank 1 is it, for else it would stand ahead of that one
pub exchanger-first : (S : Sizes) → ExchangerFirst S
exchanger-first S G x s g i a h = go (same? (R s) 1)
  where
    R : ℕ → ℕ
    R q = (txn G.txns q).rank

    here : (1 ≤ R s) × (R s ≤ waiters_on S G.txns x)
    here = (ranks_exactly S G x (R s) g).1 (s, i, a, refl)

    first : (b : ℕ) × (b < S.slots) × T (awaits_on x (txn G.txns b)) × (R b ≡ 1)
    first = (ranks_exactly S G x 1 g).0 (omega arith, let l = here.0 in let m = here.1 in omega arith)

    go : (R s ≡ 1) ⊎ (R s ≢ 1) → R s ≡ 1
    go (inl e) = e
    go (inr d) =
        let b = first.0 in
        let e : R b ≡ 1 = first.3 in
        let low = g.ranks_good.exchangers x s b i first.1 a first.2 h (λ k. d (ap R (one_exchanger S G x s b g i first.1 a first.2 h k) ∙ e)) in
        let l = here.0 in
        absurd (omega arith)
