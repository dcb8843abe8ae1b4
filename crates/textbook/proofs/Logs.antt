-- What a list of accesses makes of one item, and the last writer below a place.
use Prim.Native.Nat.{ℕ, ◌≤◌, ◌<◌, ◌%◌}
use mathlib.Core.Path.{◌≡◌, refl, sym, ap, ◌∙◌, subst}
use mathlib.Core.Logic.{◌≢◌, ◌⊎◌, inl, inr}
use mathlib.Core.Bool.{Bool, true, false, cond}
use mathlib.Core.List.Memᴰ
use mathlib.Core.List.{List, [], ◌∷◌, Memᴰ}
use native.Mathlib.Omega.{arith}
use lib.Dec.{ltb}
use borrow.Author.Tests.{ltb-true, ltb-false}
use Rattle.rules.proofs.Tests.{same?}
use Rattle.history.specs.Happened.{Access, got, put}
use Rattle.history.specs.Serial.{Entry, one_by_one}
use Rattle.history.proofs.Plain.{Array, store, final}
use Rattle.history.proofs.Replay.{store_here, store_there, final-append}
use Rattle.history.proofs.Order.{Sorted, below, array_from}
use Rattle.textbook.proofs.Members.{all_at}

-- ---- a write in a list
abbrev pub Puts : ℕ → ℕ → List Access → Type 0
Puts x v l = Memᴰ (put x v) l

-- an item ends as it was, where nothing was written to it, or as something was written
abbrev pub Unput : ℕ → List Access → Type 0
Unput x l = (v : ℕ) → Puts x v l → ⊥

pub ends_at : (l : List Access) (a : Array) (x : ℕ) → ((final l a x ≡ a x) × Unput x l) ⊎ Puts x (final l a x) l
unfolding final
ends_at [] a x = inl (refl, λ v m. Memᴰ.not-nil m)
ends_at (got y v ∷ l) a x = on (ends_at l a x)
  where
    on : ((final l a x ≡ a x) × Unput x l) ⊎ Puts x (final l a x) l → ((final l a x ≡ a x) × Unput x (got y v ∷ l)) ⊎ Puts x (final l a x) (got y v ∷ l)
    on (inl p) = inl (p.0, λ w m. not w (Memᴰ.cases_cons m))
      where
        not : (w : ℕ) → (put x w ≡ got y v) ⊎ Puts x w l → ⊥
        not w (inl e) = let z : ◌≡◌ {A = ℕ} 0 1 = cc in omega arith
        not w (inr k) = p.1 w k
    on (inr p) = inr (Memᴰ.tail p)
ends_at (put y v ∷ l) a x = on (ends_at l (store a y v) x) (same? x y)
  where
    f : ℕ
    f = final l (store a y v) x

    on : ((final l (store a y v) x ≡ store a y v x) × Unput x l) ⊎ Puts x (final l (store a y v) x) l → (x ≡ y) ⊎ (x ≢ y) → ((final l (store a y v) x ≡ a x) × Unput x (put y v ∷ l)) ⊎ Puts x (final l (store a y v) x) (put y v ∷ l)
    on (inr p) z = inr (Memᴰ.tail p)
    on (inl p) (inl z) = inr (Memᴰ.head (ap (λ (k : ℕ). put k f) z ∙ ap (put y) (p.0 ∙ ap (store a y v) z ∙ store_here a y v)))
    on (inl p) (inr z) = inl (p.0 ∙ store_there a y v x z, λ w m. not w (Memᴰ.cases_cons m))
      where
        not : (w : ℕ) → (put x w ≡ put y v) ⊎ Puts x w l → ⊥
        not w (inl e) = let q : x ≡ y = cc in z q
        not w (inr k) = p.1 w k

-- ---- the last writer below a place
module _ (log : ℕ → List Access) (q x : ℕ) where
  -- e stands below, and wrote v; f is not behind it
  pub record Last (es : List Entry) (v : ℕ) : Type 0 where
    pub entry : Entry
    pub there : Memᴰ entry es
    pub low : entry.place < q
    pub wrote_it : Puts x v (log entry.number)
    pub latest : (f : Entry) → Memᴰ f es → f.place < q → (w : ℕ) → Puts x w (log f.number) → f.place ≤ entry.place

  abbrev pub Nobody : List Entry → Type 0
  Nobody es = (f : Entry) → Memᴰ f es → f.place < q → (w : ℕ) → Puts x w (log f.number) → ⊥

  pub last_writer : (es : List Entry) (a : Array) → Sorted es → ((array_from q es log a x ≡ a x) × Nobody es) ⊎ Last es (array_from q es log a x)
  unfolding below one_by_one final Sorted
  last_writer [] a s = inl (refl, λ f m l w p. Memᴰ.not-nil m)
  last_writer (e ∷ es) a s = go (ltb e.place q) refl (λ b. last_writer es b s.1)
    where
      first : (f : Entry) → Memᴰ f es → e.place ≤ f.place
      first f m = (all_at (λ p n. (e.place ≤ p) × (e.place ≡ p → p % 2 ≡ 1)) m s.0).0

      Goal : Array → Type 0
      Goal b = ((b x ≡ a x) × Nobody (e ∷ es)) ⊎ Last (e ∷ es) (b x)

      -- the rest has a writer
      rest : {v : ℕ} → Last es v → Last (e ∷ es) v
      rest L =
          record {
            entry = L.entry;
            there = Memᴰ.tail L.there;
            low = L.low;
            wrote_it = L.wrote_it;
            latest = λ f m l w p. at f (Memᴰ.cases_cons m) l w p;
          }
        where
          at : (f : Entry) → (f ≡ e) ⊎ Memᴰ f es → f.place < q → (w : ℕ) → Puts x w (log f.number) → f.place ≤ L.entry.place
          at f (inl z) l w p = subst (λ (k : Entry). k.place ≤ L.entry.place) (sym z) (first L.entry L.there)
          at f (inr m) l w p = L.latest f m l w p

      skip : q ≤ e.place → ((array_from q es log a x ≡ a x) × Nobody es) ⊎ Last es (array_from q es log a x) → Goal (array_from q es log a)
      skip h (inl p) = inl (p.0, λ f m l w k. at f (Memᴰ.cases_cons m) l w k)
        where
          at : (f : Entry) → (f ≡ e) ⊎ Memᴰ f es → f.place < q → (w : ℕ) → Puts x w (log f.number) → ⊥
          at f (inl z) l w k = let y : f.place ≡ e.place = ap (λ (k : Entry). k.place) z in omega arith
          at f (inr m) l w k = p.1 f m l w k
      skip h (inr L) = inr (rest L)

      take : e.place < q → ((array_from q es log (final (log e.number) a) x ≡ final (log e.number) a x) × Nobody es) ⊎ Last es (array_from q es log (final (log e.number) a) x) → Goal (array_from q es log (final (log e.number) a))
      take h (inr L) = inr (rest L)
      take h (inl p) = own (ends_at (log e.number) a x)
        where
          own : ((final (log e.number) a x ≡ a x) × Unput x (log e.number)) ⊎ Puts x (final (log e.number) a x) (log e.number) → Goal (array_from q es log (final (log e.number) a))
          own (inl k) = inl (p.0 ∙ k.0, λ f m l w z. at f (Memᴰ.cases_cons m) l w z)
            where
              at : (f : Entry) → (f ≡ e) ⊎ Memᴰ f es → f.place < q → (w : ℕ) → Puts x w (log f.number) → ⊥
              at f (inl y) l w z = k.1 w (subst (λ (j : Entry). Puts x w (log j.number)) y z)
              at f (inr m) l w z = p.1 f m l w z
          own (inr k) =
              inr
              (record {
                entry = e;
                there = Memᴰ.head refl;
                low = h;
                wrote_it = subst (λ (v : ℕ). Puts x v (log e.number)) (sym p.0) k;
                latest = λ f m l w z. at f (Memᴰ.cases_cons m) l w z;
              })
            where
              at : (f : Entry) → (f ≡ e) ⊎ Memᴰ f es → f.place < q → (w : ℕ) → Puts x w (log f.number) → f.place ≤ e.place
              at f (inl y) l w z = subst (λ (j : Entry). j.place ≤ e.place) (sym y) (omega arith)
              at f (inr m) l w z = absurd (p.1 f m l w z)

      go : (b : Bool) → ltb e.place q ≡ b → ((b : Array) → ((array_from q es log b x ≡ b x) × Nobody es) ⊎ Last es (array_from q es log b x)) → Goal (final (one_by_one log (cond b (e.number ∷ below q es) (below q es))) a)
      go true z ih = subst Goal (sym (final-append (log e.number) (one_by_one log (below q es)) a)) (take (ltb-true e.place q z) (ih (final (log e.number) a)))
      go false z ih = skip (ltb-false e.place q z) (ih a)
