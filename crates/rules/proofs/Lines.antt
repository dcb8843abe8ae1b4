-- Request E4: those who wait on an item, counted, and one who leaves the line. The ranks stay good, and among the others nobody waits
-- for anybody new.
use Prim.Native.Nat.{ℕ, zero, suc, ◌-◌, ◌≤◌, ◌<◌}
use mathlib.Core.Path.{◌≡◌, refl, sym, ap, ◌∙◌, subst}
use mathlib.Core.Logic.{◌≢◌, ◌⊎◌, inl, inr}
use mathlib.Core.Bool.{Bool, true, false, not, ◌&&◌, cond}
use mathlib.Core.List.{List}
use native.Mathlib.Omega.{arith}
use lib.ListN.{length}
use lib.Dec.{T, eqb, ltb}
use borrow.Author.Tests.{eq-eqb, ltb-true, ltb-false}
use Rattle.names.specs.declared.Sizes.{Sizes}
use Rattle.rules.specs.Words.{count_below}
use Rattle.rules.specs.Tables.{Txn, txn, txn_words, with_rank, lock, holds_shared, no_lock, exclusive_lock}
use Rattle.rules.specs.Waits.{awaits, awaits_on, waiters_on, lowered, conflicts, ahead, waits_for}
use Rattle.rules.specs.Good.{GoodRanks}
use Rattle.rules.specs.Changed.{leaving}
use Rattle.rules.proofs.Tests.{true_is, false_is, is_true, is_false, same?, and_right, and_both, and_also, not_use, ne_make, eq_make}
use Rattle.rules.proofs.Counts.{count_fewer}
use Rattle.rules.proofs.EqualRanks.{awaits→, →awaits, awaits_on→, →awaits_on, waiter_inside}
use Rattle.rules.proofs.Walks.{ahead→, →ahead, waits-for→, →waits-for}

-- ---- how many pass, where the same pass
pub counts_equal_lem : (n : ℕ) (p q : ℕ → Bool) → ((i : ℕ) → i < n → p i ≡ q i) → count_below n p ≡ count_below n q
unfolding count_below
counts_equal_lem zero p q f = refl
counts_equal_lem (suc n) p q f = rw (f n (omega arith)) (step (q n) (counts_equal_lem n p q (λ i l. f i (omega arith))))
  where
    step : (b : Bool) → count_below n p ≡ count_below n q → cond b (suc (count_below n p)) (count_below n p) ≡ cond b (suc (count_below n q)) (count_below n q)
    step true e = ap suc e
    step false e = e

-- ---- how many pass, where one that passed passes no more
pub count_one_less :
    (n : ℕ) (p q : ℕ → Bool) (s : ℕ) → s < n → T (p s) → (T (q s) → ⊥) → ((i : ℕ) → i < n → i ≢ s → q i ≡ p i) → suc (count_below n q) ≡ count_below n p
unfolding count_below
count_one_less zero p q s h a b f = absurd (omega arith)
count_one_less (suc n) p q s h a b f = go (same? n s) (λ l. count_one_less n p q s l a b (λ i k. f i (omega arith)))
  where
    same : n ≡ s → count_below n q ≡ count_below n p
    same e = counts_equal_lem n q p (λ i k. f i (omega arith) (λ z. omega arith))

    go : (n ≡ s) ⊎ (n ≢ s) → (s < n → suc (count_below n q) ≡ count_below n p) → suc (cond (q n) (suc (count_below n q)) (count_below n q)) ≡ cond (p n) (suc (count_below n p)) (count_below n p)
    go (inl e) r =
        rw (is_true (p n) (subst (λ (m : ℕ). T (p m)) (sym e) a), is_false (q n) (λ z. b (subst (λ (m : ℕ). T (q m)) e z))) (ap suc (same e))
    go (inr d) r = rw (f n (omega arith) d) (step (p n) (r (omega arith)))
      where
        step : (b : Bool) → suc (count_below n q) ≡ count_below n p → suc (cond b (suc (count_below n q)) (count_below n q)) ≡ cond b (suc (count_below n p)) (count_below n p)
        step true e = ap suc e
        step false e = e

-- more pass where one passes besides
pub count-more :
    (n : ℕ) (p q : ℕ → Bool) (s : ℕ) → s < n → T (p s) → (T (q s) → ⊥) → ((i : ℕ) → i < n → T (q i) → T (p i))
    → count_below n q < count_below n p
count-more n p q s h a b f =
    let few = count_fewer n q others (λ i l u. and_both (p i) _ (f i l u) (ne_make i s (λ e. b (subst (λ (m : ℕ). T (q m)) e u)))) in
    let one = count_one_less n p others s h a (λ u. not_use (eqb s s) (and_right (p s) _ u) (eq_make s s refl)) (λ i l d. sym (and_also (p i) (not (eqb i s)) (ne_make i s d))) in
    omega arith
  where
    others : ℕ → Bool
    others i = p i && not (eqb i s)

-- a rank changes nothing of what is awaited
pub awaits_on-rank : (x p : ℕ) (r : Txn) → awaits_on x (with_rank r p) ≡ awaits_on x r
unfolding awaits_on awaits
awaits_on-rank x p r = refl

-- who stands in no line leaves all as they are
pub leaving_none : (t : List ℕ) (s : ℕ) → (T (awaits (txn t s)) → ⊥) → (r : Txn) → leaving t s r ≡ r.rank
leaving_none t s n r = ap (λ (b : Bool). cond b (lowered (txn t s).awaited_item (txn t s).rank r) r.rank) (is_false (awaits (txn t s)) n)

pub same-leaving : (t t' : List ℕ) (s r : ℕ) → (T (awaits (txn t s)) → ⊥) → txn t' r ≡ txn t r → txn t' r ≡ with_rank (txn t r) (leaving t s (txn t r))
same-leaving t t' s r n e = e ∙ ap (with_rank (txn t r)) (sym (leaving_none t s n (txn t r)))

-- and whose rank is 0 where nothing is awaited keeps it so
pub leaving-idle : (t : List ℕ) (s : ℕ) (r : Txn) → r.awaited_lock ≡ no_lock → leaving t s r ≡ r.rank
unfolding lowered awaits_on awaits
leaving-idle t s r e = go (awaits (txn t s))
  where
    go : (b : Bool) → cond b (cond ((not (eqb r.awaited_lock no_lock) && eqb r.awaited_item (txn t s).awaited_item) && ltb (txn t s).rank r.rank) (r.rank - 1) r.rank) r.rank ≡ r.rank
    go true = rw (eq-eqb r.awaited_lock no_lock e)
    go false = refl

-- ---- slot s leaves its line, if it stands in one; all others are as they were but for their ranks
module _
    (S : Sizes) (t t' l : List ℕ) (s : ℕ) (inside : s < S.slots)
    (rows : (r : ℕ) → r < S.slots → r ≢ s → txn t' r ≡ with_rank (txn t r) (leaving t s (txn t r)))
    (idle : T (awaits (txn t' s)) → ⊥)
    (g : GoodRanks S t l)
  where
    abbrev x₀ : ℕ
    x₀ = (txn t s).awaited_item

    abbrev q : ℕ
    q = (txn t s).rank

    on : (x r : ℕ) → r < S.slots → r ≢ s → awaits_on x (txn t' r) ≡ awaits_on x (txn t r)
    on x r i d = ap (awaits_on x) (rows r i d) ∙ awaits_on-rank x (leaving t s (txn t r)) (txn t r)

    rank' : (r : ℕ) → r < S.slots → r ≢ s → (txn t' r).rank ≡ leaving t s (txn t r)
    rank' r i d = ap (λ (w : Txn). w.rank) (rows r i d)

    other : (x r : ℕ) → T (awaits_on x (txn t' r)) → r ≢ s
    other x r h e = idle (subst (λ (m : ℕ). T (awaits (txn t' m))) e (awaits_on→ x (txn t' r) h).0)

    was : (x r : ℕ) → r < S.slots → T (awaits_on x (txn t' r)) → T (awaits_on x (txn t r))
    was x r i h = subst T (on x r i (other x r h)) h

    -- how a waiter on item x moved: s stood on the same item, before it or behind it, or it did not
    pub data Moved (x r : ℕ) : Type 0 where
      behind : T (awaits_on x (txn t s)) → q < (txn t r).rank → (txn t' r).rank ≡ (txn t r).rank - 1 → Moved x r
      before : T (awaits_on x (txn t s)) → (txn t r).rank < q → (txn t' r).rank ≡ (txn t r).rank → Moved x r
      apart : (T (awaits_on x (txn t s)) → ⊥) → (txn t' r).rank ≡ (txn t r).rank → Moved x r

    moved : (x r : ℕ) → r < S.slots → r ≢ s → T (awaits_on x (txn t r)) → Moved x r
    unfolding lowered
    moved x r i d h = go (awaits (txn t s)) refl
      where
        w : T (awaits (txn t r)) × ((txn t r).awaited_item ≡ x)
        w = awaits_on→ x (txn t r) h

        go : (b : Bool) → awaits (txn t s) ≡ b → Moved x r
        go false e =
            apart (λ k. false_is e (awaits_on→ x (txn t s) k).0)
            (rank' r i d ∙ ap (λ (b : Bool). cond b (lowered x₀ q (txn t r)) (txn t r).rank) e)
        go true e = line (awaits_on x₀ (txn t r)) refl
          where
            is : (txn t' r).rank ≡ cond (awaits_on x₀ (txn t r) && ltb q (txn t r).rank) ((txn t r).rank - 1) (txn t r).rank
            is = rank' r i d ∙ ap (λ (b : Bool). cond b (lowered x₀ q (txn t r)) (txn t r).rank) e

            line : (b : Bool) → awaits_on x₀ (txn t r) ≡ b → Moved x r
            line false f =
                apart (λ k. false_is f (→awaits_on x₀ (txn t r) w.0 (w.1 ∙ sym (awaits_on→ x (txn t s) k).1)))
                (is ∙ ap (λ (b : Bool). cond (b && ltb q (txn t r).rank) ((txn t r).rank - 1) (txn t r).rank) f)
            line true f = side (ltb q (txn t r).rank) refl
              where
                same : T (awaits_on x (txn t s))
                same = →awaits_on x (txn t s) (true_is e) (sym (awaits_on→ x₀ (txn t r) (true_is f)).1 ∙ w.1)

                side : (b : Bool) → ltb q (txn t r).rank ≡ b → Moved x r
                side true k =
                    behind same (ltb-true q (txn t r).rank k)
                    (is ∙ ap (λ (b : Bool). cond (b && ltb q (txn t r).rank) ((txn t r).rank - 1) (txn t r).rank) f ∙ ap (λ (b : Bool). cond b ((txn t r).rank - 1) (txn t r).rank) k)
                side false k =
                    before same (let m = ltb-false q (txn t r).rank k in let n = g.apart x r s i inside d h same in omega arith)
                    (is ∙ ap (λ (b : Bool). cond (b && ltb q (txn t r).rank) ((txn t r).rank - 1) (txn t r).rank) f ∙ ap (λ (b : Bool). cond b ((txn t r).rank - 1) (txn t r).rank) k)

    -- those who wait on an item: one less, or as many
    one_less : (x : ℕ) → T (awaits_on x (txn t s)) → suc (waiters_on S t' x) ≡ waiters_on S t x
    unfolding waiters_on
    one_less x h =
        count_one_less S.slots (λ b. awaits_on x (txn t b)) (λ b. awaits_on x (txn t' b)) s inside h (λ k. other x s k refl) (λ r i d. on x r i d)

    as_many : (x : ℕ) → (T (awaits_on x (txn t s)) → ⊥) → waiters_on S t' x ≡ waiters_on S t x
    unfolding waiters_on
    as_many x n = counts_equal_lem S.slots (λ b. awaits_on x (txn t' b)) (λ b. awaits_on x (txn t b)) (λ r i. go r i (same? r s))
      where
        go : (r : ℕ) → r < S.slots → (r ≡ s) ⊎ (r ≢ s) → awaits_on x (txn t' r) ≡ awaits_on x (txn t r)
        go r i (inr d) = on x r i d
        go r i (inl e) =
            is_false (awaits_on x (txn t' r)) (λ k. other x r k e)
            ∙ sym (is_false (awaits_on x (txn t r)) (λ k. n (subst (λ (m : ℕ). T (awaits_on x (txn t m))) e k)))

    least' : (x r : ℕ) → r < S.slots → T (awaits_on x (txn t' r)) → 1 ≤ (txn t' r).rank
    least' x r i h = go (moved x r i (other x r h) (was x r i h))
      where
        o : 1 ≤ (txn t r).rank
        o = g.least r i (awaits_on→ x (txn t r) (was x r i h)).0

        go : Moved x r → 1 ≤ (txn t' r).rank
        go (behind k b e) = let m = g.least s inside (awaits_on→ x (txn t s) k).0 in omega arith
        go (before k b e) = let m = o in omega arith
        go (apart k e) = let m = o in omega arith

    most' : (x r : ℕ) → r < S.slots → T (awaits_on x (txn t' r)) → (txn t' r).rank ≤ waiters_on S t' x
    most' x r i h = go (moved x r i (other x r h) (was x r i h))
      where
        o : (txn t r).rank ≤ waiters_on S t x
        o = let w = awaits_on→ x (txn t r) (was x r i h) in subst (λ (y : ℕ). (txn t r).rank ≤ waiters_on S t y) w.1 (g.most r i w.0)

        top : T (awaits_on x (txn t s)) → q ≤ waiters_on S t x
        top k = let w = awaits_on→ x (txn t s) k in subst (λ (y : ℕ). q ≤ waiters_on S t y) w.1 (g.most s inside w.0)

        go : Moved x r → (txn t' r).rank ≤ waiters_on S t' x
        go (behind k b e) = let m = o in let n = one_less x k in omega arith
        go (before k b e) = let m = top k in let n = one_less x k in omega arith
        go (apart k e) = let m = o in let n = as_many x k in omega arith

    -- the order of two others stays
    order : (x a b : ℕ) → Moved x a → Moved x b → (txn t a).rank < (txn t b).rank → (txn t' a).rank < (txn t' b).rank
    order x a b (behind k p e) (behind m o f) h = omega arith
    order x a b (behind k p e) (before m o f) h = absurd (omega arith)
    order x a b (behind k p e) (apart n f) h = absurd (n k)
    order x a b (before k p e) (behind m o f) h = omega arith
    order x a b (before k p e) (before m o f) h = omega arith
    order x a b (before k p e) (apart n f) h = absurd (n k)
    order x a b (apart n e) (behind m o f) h = absurd (n m)
    order x a b (apart n e) (before m o f) h = absurd (n m)
    order x a b (apart n e) (apart m f) h = omega arith

    order-back : (x a b : ℕ) → Moved x a → Moved x b → (txn t' a).rank < (txn t' b).rank → (txn t a).rank < (txn t b).rank
    order-back x a b (behind k p e) (behind m o f) h = omega arith
    order-back x a b (behind k p e) (before m o f) h = absurd (omega arith)
    order-back x a b (behind k p e) (apart n f) h = absurd (n k)
    order-back x a b (before k p e) (behind m o f) h = omega arith
    order-back x a b (before k p e) (before m o f) h = omega arith
    order-back x a b (before k p e) (apart n f) h = absurd (n k)
    order-back x a b (apart n e) (behind m o f) h = absurd (n m)
    order-back x a b (apart n e) (before m o f) h = absurd (n m)
    order-back x a b (apart n e) (apart m f) h = omega arith

    -- the ranks stay good, where the others share what they shared
    pub left-ranks :
        (l' : List ℕ) → ((x r : ℕ) → r ≢ s → holds_shared (lock l' x) r ≡ holds_shared (lock l x) r) → GoodRanks S t' l'
    left-ranks l' shares =
        record {
          least = λ r i w. least' (txn t' r).awaited_item r i (→awaits_on _ (txn t' r) w refl);
          most = λ r i w. most' (txn t' r).awaited_item r i (→awaits_on _ (txn t' r) w refl);
          apart = λ x a b i j d h k e.
              split x a b i j d h k
              (g.apart x a b i j d (was x a i h) (was x b j k)) e;
          exchangers = λ x a b i j h k c n.
              order x a b (moved x a i (other x a h) (was x a i h)) (moved x b j (other x b k) (was x b j k))
              (g.exchangers x a b i j (was x a i h) (was x b j k) (subst T (shares x a (other x a h)) c) (λ z. n (subst T (sym (shares x b (other x b k))) z)));
        }
      where
        split :
            (x a b : ℕ) → a < S.slots → b < S.slots → a ≢ b → T (awaits_on x (txn t' a)) → T (awaits_on x (txn t' b))
            → (txn t a).rank ≢ (txn t b).rank → (txn t' a).rank ≢ (txn t' b).rank
        split x a b i j d h k n e = go (ltb (txn t a).rank (txn t b).rank) refl
          where
            A : Moved x a
            A = moved x a i (other x a h) (was x a i h)

            B : Moved x b
            B = moved x b j (other x b k) (was x b j k)

            go : (c : Bool) → ltb (txn t a).rank (txn t b).rank ≡ c → ⊥
            go true c = let m = order x a b A B (ltb-true (txn t a).rank (txn t b).rank c) in omega arith
            go false c = let o = ltb-false (txn t a).rank (txn t b).rank c in let m = order x b a B A (omega arith) in omega arith

    -- among the others no earlier waiter is new
    pub left-ahead :
        (x k a b : ℕ) → a < S.slots → b < S.slots → a ≢ s → T (awaits_on x (txn t a)) → T (ahead x k (txn t' a).rank (txn t' b))
        → T (ahead x k (txn t a).rank (txn t b))
    left-ahead x k a b i j d h u =
        let v = ahead→ x k (txn t' a).rank (txn t' b) u in
        let f = other x b v.0 in
        let w = was x b j v.0 in
        →ahead x k (txn t a).rank (txn t b) w
        (order-back x b a (moved x b j f w) (moved x a i d h) v.1)
        (go (ap (λ (r : Txn). r.awaited_lock) (rows b j f)) v.2)
      where
        go :
            (txn t' b).awaited_lock ≡ (txn t b).awaited_lock
            → (k ≡ exclusive_lock) ⊎ ((txn t' b).awaited_lock ≡ exclusive_lock) → (k ≡ exclusive_lock) ⊎ ((txn t b).awaited_lock ≡ exclusive_lock)
        go e (inl p) = inl p
        go e (inr p) = inr (sym e ∙ p)

    -- who waits for b waited for it before, where b's lock blocks no more than it did
    pub left-links :
        (l' : List ℕ) → length t' ≡ txn_words S → (a b : ℕ)
        → (T (awaits (txn t a)) → (k : ℕ) → T (conflicts (lock l' (txn t a).awaited_item) k b) → T (conflicts (lock l (txn t a).awaited_item) k b))
        → T (waits_for t' l' a b) → T (waits_for t l a b)
    left-links l' size a b fewer u = go v.2
      where
        v :
            ((txn t' a).awaited_lock ≢ no_lock) × (a ≢ b)
            × (T (conflicts (lock l' (txn t' a).awaited_item) (txn t' a).awaited_lock b)
            ⊎ T (ahead (txn t' a).awaited_item (txn t' a).awaited_lock (txn t' a).rank (txn t' b)))
        v = waits-for→ t' l' a b u

        i : a < S.slots
        i = waiter_inside S t' size a v.0

        d : a ≢ s
        d e = idle (subst (λ (m : ℕ). T (awaits (txn t' m))) e (→awaits (txn t' a) v.0))

        x : ℕ
        x = (txn t a).awaited_item

        k : ℕ
        k = (txn t a).awaited_lock

        item : (txn t' a).awaited_item ≡ x
        item = ap (λ (w : Txn). w.awaited_item) (rows a i d)

        kind : (txn t' a).awaited_lock ≡ k
        kind = ap (λ (w : Txn). w.awaited_lock) (rows a i d)

        waits : k ≢ no_lock
        waits e = v.0 (kind ∙ e)

        go :
            T (conflicts (lock l' (txn t' a).awaited_item) (txn t' a).awaited_lock b)
            ⊎ T (ahead (txn t' a).awaited_item (txn t' a).awaited_lock (txn t' a).rank (txn t' b))
            → T (waits_for t l a b)
        go (inl c) =
            →waits-for t l a b waits v.1
            (inl (fewer (→awaits (txn t a) waits) k (subst (λ (j : ℕ). T (conflicts (lock l' x) j b)) kind (subst (λ (y : ℕ). T (conflicts (lock l' y) (txn t' a).awaited_lock b)) item c))))
        go (inr c) =
            let c' = subst (λ (j : ℕ). T (ahead x j (txn t' a).rank (txn t' b))) kind (subst (λ (y : ℕ). T (ahead y (txn t' a).awaited_lock (txn t' a).rank (txn t' b))) item c) in
            let j = waiter_inside S t' size b (awaits→ (txn t' b) (awaits_on→ x (txn t' b) (ahead→ x k (txn t' a).rank (txn t' b) c').0).0) in
            →waits-for t l a b waits v.1 (inr (left-ahead x k a b i j d (→awaits_on x (txn t a) (→awaits (txn t a) waits) refl) c'))
