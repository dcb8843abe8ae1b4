-- The neighbours of a stamp: with one start more, and what they say of the starts between two stamps.
use Prim.Native.Nat.{ℕ, suc, ◌≤◌, ◌<◌}
use mathlib.Core.Path.{◌≡◌, refl, ◌∙◌}
use mathlib.Core.Logic.{◌⊎◌, inl, inr, ⊎_elim}
use mathlib.Core.Bool.{Bool, true, false, ◌&&◌, ◌||◌}
use mathlib.Core.List.{List, [], ◌∷◌, ◌++◌}
use mathlib.Core.List.Memᴰ
use mathlib.Core.List.{Memᴰ}
use native.Mathlib.Omega.{arith}
use lib.Dec.{T, leb, ltb, leb→le, le→leb, ltb→lt, lt→ltb}
use borrow.Author.Tests.{ltb-true, ltb-false}
use Rattle.rules.proofs.Tests.{iff_eq, and_left, and_right, and_both, or_cases, or_left, or_right}
use Rattle.rules.proofs.Counts.{some_mem, mem_some}
use Rattle.starts.specs.Ordered.{guard}
use Rattle.starts.specs.Beside.{Beside}
use Rattle.starts.proofs.Split.{within}

pub none_beside : (stamp : ℕ) → Beside [] stamp 0 guard
none_beside stamp =
    record {
      lower = λ q m. absurd (Memᴰ.not-nil m);
      below_is = inl refl;
      upper = λ q m. absurd (Memᴰ.not-nil m);
      next_is = inl refl;
    }

-- one start more: a neighbour is the one of before, or the new start
pub one_beside :
    (qs : List ℕ) (stamp below next start : ℕ) {b n : ℕ} → Beside qs stamp below next
    → below ≤ b → (start < stamp → start < b) → (b ≡ below) ⊎ ((start < stamp) × (b ≡ suc start))
    → n ≤ next → (stamp ≤ start → n ≤ start) → (n ≡ next) ⊎ ((stamp ≤ start) × (n ≡ start))
    → Beside (qs ++ (start ∷ [])) stamp b n
one_beside qs stamp below next start {b} {n} k lb sb eb ln sn en =
    record {
      lower = λ q m l. ⊎_elim (λ (x : Memᴰ q qs). let y = k.lower q x l in omega arith) (λ (x : Memᴰ q (start ∷ [])). let y = Memᴰ.eq_of_singleton x in let z = sb (omega arith) in omega arith) (Memᴰ.append_cases qs m);
      below_is = low k.below_is eb;
      upper = λ q m l. ⊎_elim (λ (x : Memᴰ q qs). let y = k.upper q x l in omega arith) (λ (x : Memᴰ q (start ∷ [])). let y = Memᴰ.eq_of_singleton x in let z = sn (omega arith) in omega arith) (Memᴰ.append_cases qs m);
      next_is = high k.next_is en;
    }
  where
    low :
        (below ≡ 0) ⊎ ((q : ℕ) × Memᴰ q qs × (q < stamp) × (below ≡ suc q)) → (b ≡ below) ⊎ ((start < stamp) × (b ≡ suc start))
        → (b ≡ 0) ⊎ ((q : ℕ) × Memᴰ q (qs ++ (start ∷ [])) × (q < stamp) × (b ≡ suc q))
    low x (inr y) = inr (start, Memᴰ.append_right qs (Memᴰ.head refl), y.0, y.1)
    low (inl z) (inl y) = inl (y ∙ z)
    low (inr z) (inl y) = inr (z.0, Memᴰ.append_left (start ∷ []) z.1, z.2, y ∙ z.3)

    high :
        (next ≡ guard) ⊎ (Memᴰ next qs × (stamp ≤ next)) → (n ≡ next) ⊎ ((stamp ≤ start) × (n ≡ start))
        → (n ≡ guard) ⊎ (Memᴰ n (qs ++ (start ∷ [])) × (stamp ≤ n))
    high x (inr y) = inr (Memᴰ.append_right qs (Memᴰ.head y.1), (let a = y.0 in let b = y.1 in omega arith))
    high (inl z) (inl y) = inl (y ∙ z)
    high (inr z) (inl y) = inr (Memᴰ.append_left (start ∷ []) (Memᴰ.cast y z.0), (let a = z.1 in omega arith))

module _ (qs : List ℕ) (stamp below next : ℕ) (k : Beside qs stamp below next) where
  -- one that is within lo and hi, from what is known of it
  found : (lo hi q : ℕ) → Memᴰ q qs → lo ≤ q → q < hi → T (within qs lo hi)
  unfolding within
  found lo hi q m a b = some_mem (λ q. leb lo q && ltb q hi) m (and_both (leb lo q) (ltb q hi) (le→leb lo q a) (lt→ltb q hi b))

  finds : (lo hi : ℕ) → T (within qs lo hi) → (q : ℕ) × Memᴰ q qs × (lo ≤ q) × (q < hi)
  unfolding within
  finds lo hi t =
      let m = mem_some (λ q. leb lo q && ltb q hi) qs t in
      let q = m.0 in
      (q, m.1, leb→le lo q (and_left (leb lo q) (ltb q hi) m.2), ltb→lt q hi (and_right (leb lo q) (ltb q hi) m.2))

  -- the one before the stamp tells of those below it
  below_tells : (lo : ℕ) → lo < below → (q : ℕ) × Memᴰ q qs × (lo ≤ q) × (q < stamp)
  below_tells lo h = go k.below_is
    where
      go :
          (below ≡ 0) ⊎ ((q : ℕ) × Memᴰ q qs × (q < stamp) × (below ≡ suc q))
          → (q : ℕ) × Memᴰ q qs × (lo ≤ q) × (q < stamp)
      go (inl e) = absurd (omega arith)
      go (inr e) = (e.0, e.1, (let z = e.3 in omega arith), e.2)

  -- the starts from lo on and below the stamp
  pub within_below : (lo : ℕ) → within qs lo stamp ≡ ltb lo below
  within_below lo = iff_eq (within qs lo stamp) (ltb lo below) to from
    where
      to : T (within qs lo stamp) → T (ltb lo below)
      to t = let f = finds lo stamp t in let a = k.lower f.0 f.1 f.3 in lt→ltb lo below (let b = f.2 in omega arith)

      from : T (ltb lo below) → T (within qs lo stamp)
      from t = let f = below_tells lo (ltb→lt lo below t) in found lo stamp f.0 f.1 f.2 f.3

  -- the starts on both sides of the stamp
  pub within_both : (lo hi : ℕ) → lo ≤ stamp → stamp < hi → hi ≤ guard → within qs lo hi ≡ (ltb lo below || ltb next hi)
  within_both lo hi a b g = iff_eq (within qs lo hi) (ltb lo below || ltb next hi) to from
    where
      to : T (within qs lo hi) → T (ltb lo below || ltb next hi)
      to t = let f = finds lo hi t in side f.0 f.1 f.2 f.3 (ltb f.0 stamp) refl
        where
          side : (q : ℕ) → Memᴰ q qs → lo ≤ q → q < hi → (c : Bool) → ltb q stamp ≡ c → T (ltb lo below || ltb next hi)
          side q m x y true e =
              let z = k.lower q m (ltb-true q stamp e) in
              or_left (ltb lo below) (ltb next hi) (lt→ltb lo below (omega arith))
          side q m x y false e =
              let z = k.upper q m (ltb-false q stamp e) in
              or_right (ltb lo below) (ltb next hi) (lt→ltb next hi (omega arith))

      next_tells : next < hi → (next ≡ guard) ⊎ (Memᴰ next qs × (stamp ≤ next)) → T (within qs lo hi)
      next_tells h (inl e) = absurd (omega arith)
      next_tells h (inr e) = found lo hi next e.0 (let z = e.1 in omega arith) h

      from : T (ltb lo below || ltb next hi) → T (within qs lo hi)
      from t =
          ⊎_elim
          (λ (x : T (ltb lo below)). let f = below_tells lo (ltb→lt lo below x) in found lo hi f.0 f.1 f.2 (let z = f.3 in omega arith))
          (λ (x : T (ltb next hi)). next_tells (ltb→lt next hi x) k.next_is)
          (or_cases (ltb lo below) (ltb next hi) t)
