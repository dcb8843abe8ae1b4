-- Request E4: one comes into the line of an item. The ranks stay good, and among the others nobody waits for anybody new.
use Prim.Native.Nat.{ℕ, suc, ◌+◌, ◌≤◌, ◌<◌}
use mathlib.Core.Path.{◌≡◌, refl, sym, ap, ◌∙◌, subst}
use mathlib.Core.Logic.{◌≢◌, ◌⊎◌, inl, inr}
use mathlib.Core.Bool.{Bool, true, false, ◌&&◌, cond}
use mathlib.Core.List.{List}
use native.Mathlib.Omega.{arith}
use lib.Dec.{T, leb, ltb}
use borrow.Author.Tests.{leb-true, leb-false, ltb-true, ltb-false}
use Rattle.names.specs.declared.Sizes.{Sizes}
use Rattle.rules.specs.Tables.{Txn, txn, with_rank, lock, holds_shared, exclusive_lock}
use Rattle.rules.specs.Waits.{awaits, awaits_on, waiters_on, raised, ahead}
use Rattle.rules.specs.Good.{GoodRanks}
use Rattle.rules.proofs.Tests.{true_is, false_is, is_true, is_false, same?}
use Rattle.rules.proofs.EqualRanks.{awaits_on→, →awaits_on}
use Rattle.rules.proofs.Walks.{ahead→, →ahead}
use Rattle.rules.proofs.Lines.{counts_equal_lem, count_one_less, awaits_on-rank}

-- ---- slot s, which stood in no line, comes into that of item x at the rank p
module _
    (S : Sizes) (t t' l : List ℕ) (s x p : ℕ) (inside : s < S.slots)
    (rows : (r : ℕ) → r < S.slots → r ≢ s → txn t' r ≡ with_rank (txn t r) (raised x p (txn t r)))
    (new : T (awaits (txn t s)) → ⊥) (waits : T (awaits (txn t' s))) (item : (txn t' s).awaited_item ≡ x) (rank : (txn t' s).rank ≡ p)
    (g : GoodRanks S t l) (low : 1 ≤ p) (high : p ≤ suc (waiters_on S t x))
  where
    here : T (awaits_on x (txn t' s))
    here = →awaits_on x (txn t' s) waits item

    on' : (y r : ℕ) → r < S.slots → r ≢ s → awaits_on y (txn t' r) ≡ awaits_on y (txn t r)
    on' y r i d = ap (awaits_on y) (rows r i d) ∙ awaits_on-rank y (raised x p (txn t r)) (txn t r)

    was' : (y r : ℕ) → r < S.slots → r ≢ s → T (awaits_on y (txn t' r)) → T (awaits_on y (txn t r))
    was' y r i d h = subst T (on' y r i d) h

    not_there : (y : ℕ) → T (awaits_on y (txn t s)) → ⊥
    not_there y h = new (awaits_on→ y (txn t s) h).0

    -- how a waiter on item y moved
    data Risen (y r : ℕ) : Type 0 where
      up : y ≡ x → p ≤ (txn t r).rank → (txn t' r).rank ≡ (txn t r).rank + 1 → Risen y r
      stays : y ≡ x → (txn t r).rank < p → (txn t' r).rank ≡ (txn t r).rank → Risen y r
      elsewhere : y ≢ x → (txn t' r).rank ≡ (txn t r).rank → Risen y r

    risen : (y r : ℕ) → r < S.slots → r ≢ s → T (awaits_on y (txn t r)) → Risen y r
    unfolding raised
    risen y r i d h = line (awaits_on x (txn t r)) refl
      where
        w : T (awaits (txn t r)) × ((txn t r).awaited_item ≡ y)
        w = awaits_on→ y (txn t r) h

        is : (txn t' r).rank ≡ cond (awaits_on x (txn t r) && leb p (txn t r).rank) ((txn t r).rank + 1) (txn t r).rank
        is = ap (λ (w : Txn). w.rank) (rows r i d)

        line : (b : Bool) → awaits_on x (txn t r) ≡ b → Risen y r
        line false f =
            elsewhere (λ e. false_is f (→awaits_on x (txn t r) w.0 (w.1 ∙ e)))
            (is ∙ ap (λ (b : Bool). cond (b && leb p (txn t r).rank) ((txn t r).rank + 1) (txn t r).rank) f)
        line true f = side (leb p (txn t r).rank) refl
          where
            same : y ≡ x
            same = sym w.1 ∙ (awaits_on→ x (txn t r) (true_is f)).1

            at : (b : Bool) → leb p (txn t r).rank ≡ b → (txn t' r).rank ≡ cond b ((txn t r).rank + 1) (txn t r).rank
            at b k =
                is ∙ ap (λ (c : Bool). cond (c && leb p (txn t r).rank) ((txn t r).rank + 1) (txn t r).rank) f
                ∙ ap (λ (c : Bool). cond c ((txn t r).rank + 1) (txn t r).rank) k

            side : (b : Bool) → leb p (txn t r).rank ≡ b → Risen y r
            side true k = up same (leb-true p (txn t r).rank k) (at true k)
            side false k = stays same (leb-false p (txn t r).rank k) (at false k)

    one_more_lem : suc (waiters_on S t x) ≡ waiters_on S t' x
    unfolding waiters_on
    one_more_lem =
        count_one_less S.slots (λ b. awaits_on x (txn t' b)) (λ b. awaits_on x (txn t b)) s inside here (not_there x) (λ r i d. sym (on' x r i d))

    as_many' : (y : ℕ) → y ≢ x → waiters_on S t' y ≡ waiters_on S t y
    unfolding waiters_on
    as_many' y n = counts_equal_lem S.slots (λ b. awaits_on y (txn t' b)) (λ b. awaits_on y (txn t b)) (λ r i. go r i (same? r s))
      where
        go : (r : ℕ) → r < S.slots → (r ≡ s) ⊎ (r ≢ s) → awaits_on y (txn t' r) ≡ awaits_on y (txn t r)
        go r i (inr d) = on' y r i d
        go r i (inl e) =
            is_false (awaits_on y (txn t' r))
            (λ k. n (sym (awaits_on→ y (txn t' r) k).1 ∙ ap (λ (m : ℕ). (txn t' m).awaited_item) e ∙ item))
            ∙ sym (is_false (awaits_on y (txn t r)) (λ k. not_there y (subst (λ (m : ℕ). T (awaits_on y (txn t m))) e k)))

    order' : (y a b : ℕ) → Risen y a → Risen y b → (txn t a).rank < (txn t b).rank → (txn t' a).rank < (txn t' b).rank
    order' y a b (up e l u) (up f m v) h = omega arith
    order' y a b (up e l u) (stays f m v) h = absurd (omega arith)
    order' y a b (up e l u) (elsewhere n v) h = absurd (n e)
    order' y a b (stays e l u) (up f m v) h = omega arith
    order' y a b (stays e l u) (stays f m v) h = omega arith
    order' y a b (stays e l u) (elsewhere n v) h = absurd (n e)
    order' y a b (elsewhere n u) (up f m v) h = absurd (n f)
    order' y a b (elsewhere n u) (stays f m v) h = absurd (n f)
    order' y a b (elsewhere n u) (elsewhere m v) h = omega arith

    order_back' : (y a b : ℕ) → Risen y a → Risen y b → (txn t' a).rank < (txn t' b).rank → (txn t a).rank < (txn t b).rank
    order_back' y a b (up e l u) (up f m v) h = omega arith
    order_back' y a b (up e l u) (stays f m v) h = absurd (omega arith)
    order_back' y a b (up e l u) (elsewhere n v) h = absurd (n e)
    order_back' y a b (stays e l u) (up f m v) h = omega arith
    order_back' y a b (stays e l u) (stays f m v) h = omega arith
    order_back' y a b (stays e l u) (elsewhere n v) h = absurd (n e)
    order_back' y a b (elsewhere n u) (up f m v) h = absurd (n f)
    order_back' y a b (elsewhere n u) (stays f m v) h = absurd (n f)
    order_back' y a b (elsewhere n u) (elsewhere m v) h = omega arith

    -- nobody else has the rank p on item x, and who stood at p or behind it stands behind s
    beside : (r : ℕ) → r < S.slots → r ≢ s → T (awaits_on x (txn t r)) → (txn t' r).rank ≢ p
    beside r i d h e = go (risen x r i d h)
      where
        go : Risen x r → ⊥
        go (up a b c) = omega arith
        go (stays a b c) = omega arith
        go (elsewhere n c) = n refl

    -- an item's waiter is s, and then it is x
    on_item_lem : (y : ℕ) → T (awaits_on y (txn t' s)) → y ≡ x
    on_item_lem y h = sym (awaits_on→ y (txn t' s) h).1 ∙ item

    -- the ranks stay good, where s stands ahead of those who hold nothing if it shares the item, and else behind those who share it
    module _
        (front : (r : ℕ) → r < S.slots → r ≢ s → T (awaits_on x (txn t r)) → T (holds_shared (lock l x) s) → p ≤ (txn t r).rank)
        (back : (r : ℕ) → r < S.slots → r ≢ s → T (awaits_on x (txn t r)) → (T (holds_shared (lock l x) s) → ⊥) → (txn t r).rank < p)
      where
        least'' : (y r : ℕ) → r < S.slots → T (awaits_on y (txn t' r)) → 1 ≤ (txn t' r).rank
        least'' y r i h = go (same? r s)
          where
            o : r ≢ s → 1 ≤ (txn t r).rank
            o d = g.least r i (awaits_on→ y (txn t r) (was' y r i d h)).0

            by : 1 ≤ (txn t r).rank → Risen y r → 1 ≤ (txn t' r).rank
            by m (up a b c) = omega arith
            by m (stays a b c) = omega arith
            by m (elsewhere n c) = omega arith

            go : (r ≡ s) ⊎ (r ≢ s) → 1 ≤ (txn t' r).rank
            go (inl e) = subst (λ (m : ℕ). 1 ≤ (txn t' m).rank) (sym e) (omega arith)
            go (inr d) = by (o d) (risen y r i d (was' y r i d h))

        most'' : (y r : ℕ) → r < S.slots → T (awaits_on y (txn t' r)) → (txn t' r).rank ≤ waiters_on S t' y
        most'' y r i h = go (same? r s)
          where
            o : r ≢ s → (txn t r).rank ≤ waiters_on S t y
            o d = let w = awaits_on→ y (txn t r) (was' y r i d h) in subst (λ (z : ℕ). (txn t r).rank ≤ waiters_on S t z) w.1 (g.most r i w.0)

            more : y ≡ x → waiters_on S t' y ≡ suc (waiters_on S t y)
            more e = ap (waiters_on S t') e ∙ sym one_more_lem ∙ ap (λ (z : ℕ). suc (waiters_on S t z)) (sym e)

            by : (txn t r).rank ≤ waiters_on S t y → Risen y r → (txn t' r).rank ≤ waiters_on S t' y
            by m (up a b c) = let n = more a in omega arith
            by m (stays a b c) = let n = more a in omega arith
            by m (elsewhere n c) = let k = as_many' y n in omega arith

            go : (r ≡ s) ⊎ (r ≢ s) → (txn t' r).rank ≤ waiters_on S t' y
            go (inl e) =
                let f = on_item_lem y (subst (λ (m : ℕ). T (awaits_on y (txn t' m))) e h) in
                subst (λ (m : ℕ). (txn t' m).rank ≤ waiters_on S t' y) (sym e)
                (subst (λ (z : ℕ). (txn t' s).rank ≤ waiters_on S t' z) (sym f) (let n = one_more_lem in omega arith))
            go (inr d) = by (o d) (risen y r i d (was' y r i d h))

        apart'' :
            (y a b : ℕ) → a < S.slots → b < S.slots → a ≢ b → T (awaits_on y (txn t' a)) → T (awaits_on y (txn t' b))
            → (txn t' a).rank ≢ (txn t' b).rank
        apart'' y a b i j d h k = go (same? a s) (same? b s)
          where
            -- s and another
            with_s : (r : ℕ) → r < S.slots → r ≢ s → T (awaits_on y (txn t' r)) → y ≡ x → (txn t' r).rank ≢ (txn t' s).rank
            with_s r i d h f e = beside r i d (was' x r i d (subst (λ (z : ℕ). T (awaits_on z (txn t' r))) f h)) (e ∙ rank)

            go : (a ≡ s) ⊎ (a ≢ s) → (b ≡ s) ⊎ (b ≢ s) → (txn t' a).rank ≢ (txn t' b).rank
            go (inl e) (inl f) z = absurd (d (e ∙ sym f))
            go (inl e) (inr f) z =
                with_s b j f k (on_item_lem y (subst (λ (m : ℕ). T (awaits_on y (txn t' m))) e h)) (sym z ∙ ap (λ (m : ℕ). (txn t' m).rank) e)
            go (inr e) (inl f) z =
                with_s a i e h (on_item_lem y (subst (λ (m : ℕ). T (awaits_on y (txn t' m))) f k)) (z ∙ ap (λ (m : ℕ). (txn t' m).rank) f)
            go (inr e) (inr f) z = two (ltb (txn t a).rank (txn t b).rank) refl
              where
                A : Risen y a
                A = risen y a i e (was' y a i e h)

                B : Risen y b
                B = risen y b j f (was' y b j f k)

                two : (c : Bool) → ltb (txn t a).rank (txn t b).rank ≡ c → ⊥
                two true c = let m = order' y a b A B (ltb-true (txn t a).rank (txn t b).rank c) in omega arith
                two false c =
                    let o = ltb-false (txn t a).rank (txn t b).rank c in
                    let n = g.apart y a b i j d (was' y a i e h) (was' y b j f k) in
                    let m = order' y b a B A (omega arith) in omega arith

        exchangers'' :
            (y a b : ℕ) → a < S.slots → b < S.slots → T (awaits_on y (txn t' a)) → T (awaits_on y (txn t' b))
            → T (holds_shared (lock l y) a) → (T (holds_shared (lock l y) b) → ⊥) → (txn t' a).rank < (txn t' b).rank
        exchangers'' y a b i j h k c n = go (same? a s) (same? b s)
          where
            behind_s : (r : ℕ) → r < S.slots → r ≢ s → T (awaits_on x (txn t r)) → p ≤ (txn t r).rank → p < (txn t' r).rank
            behind_s r i d h o = by (risen x r i d h)
              where
                by : Risen x r → p < (txn t' r).rank
                by (up a b c) = omega arith
                by (stays a b c) = absurd (omega arith)
                by (elsewhere n c) = absurd (n refl)

            before_s : (r : ℕ) → r < S.slots → r ≢ s → T (awaits_on x (txn t r)) → (txn t r).rank < p → (txn t' r).rank < p
            before_s r i d h o = by (risen x r i d h)
              where
                by : Risen x r → (txn t' r).rank < p
                by (up a b c) = absurd (omega arith)
                by (stays a b c) = omega arith
                by (elsewhere n c) = absurd (n refl)

            go : (a ≡ s) ⊎ (a ≢ s) → (b ≡ s) ⊎ (b ≢ s) → (txn t' a).rank < (txn t' b).rank
            go (inl e) (inl f) = absurd (n (subst (λ (m : ℕ). T (holds_shared (lock l y) m)) (e ∙ sym f) c))
            go (inl e) (inr f) =
                let q = on_item_lem y (subst (λ (m : ℕ). T (awaits_on y (txn t' m))) e h) in
                let w = was' x b j f (subst (λ (z : ℕ). T (awaits_on z (txn t' b))) q k) in
                let o = front b j f w (subst (λ (z : ℕ). T (holds_shared (lock l z) s)) q (subst (λ (m : ℕ). T (holds_shared (lock l y) m)) e c)) in
                let u = behind_s b j f w o in
                subst (λ (m : ℕ). (txn t' m).rank < (txn t' b).rank) (sym e) (omega arith)
            go (inr e) (inl f) =
                let q = on_item_lem y (subst (λ (m : ℕ). T (awaits_on y (txn t' m))) f k) in
                let w = was' x a i e (subst (λ (z : ℕ). T (awaits_on z (txn t' a))) q h) in
                let o = back a i e w (λ z. n (subst (λ (m : ℕ). T (holds_shared (lock l y) m)) (sym f) (subst (λ (v : ℕ). T (holds_shared (lock l v) s)) (sym q) z))) in
                let u = before_s a i e w o in
                subst (λ (m : ℕ). (txn t' a).rank < (txn t' m).rank) (sym f) (omega arith)
            go (inr e) (inr f) =
                order' y a b (risen y a i e (was' y a i e h)) (risen y b j f (was' y b j f k)) (g.exchangers y a b i j (was' y a i e h) (was' y b j f k) c n)

        pub come_ranks : GoodRanks S t' l
        come_ranks =
            record {
              least = λ r i w. least'' (txn t' r).awaited_item r i (→awaits_on _ (txn t' r) w refl);
              most = λ r i w. most'' (txn t' r).awaited_item r i (→awaits_on _ (txn t' r) w refl);
              apart = apart'';
              exchangers = exchangers'';
            }

    -- among the others no earlier waiter is new
    pub come_ahead :
        (y k a b : ℕ) → a < S.slots → b < S.slots → a ≢ s → b ≢ s → T (awaits_on y (txn t a)) → T (ahead y k (txn t' a).rank (txn t' b))
        → T (ahead y k (txn t a).rank (txn t b))
    come_ahead y k a b i j d f h u =
        let v = ahead→ y k (txn t' a).rank (txn t' b) u in
        let w = was' y b j f v.0 in
        →ahead y k (txn t a).rank (txn t b) w
        (order_back' y b a (risen y b j f w) (risen y a i d h) v.1)
        (go (ap (λ (r : Txn). r.awaited_lock) (rows b j f)) v.2)
      where
        go :
            (txn t' b).awaited_lock ≡ (txn t b).awaited_lock
            → (k ≡ exclusive_lock) ⊎ ((txn t' b).awaited_lock ≡ exclusive_lock) → (k ≡ exclusive_lock) ⊎ ((txn t b).awaited_lock ≡ exclusive_lock)
        go e (inl q) = inl q
        go e (inr q) = inr (sym e ∙ q)
