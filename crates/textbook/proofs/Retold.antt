-- What was granted to a transaction, retold with stamps for values: a write of its own stamp for each item that it wrote.
use Prim.Native.Nat.{ℕ}
use mathlib.Core.Path.{◌≡◌, refl, sym, ap, ◌∙◌, subst}
use mathlib.Core.Logic.{◌⊎◌, inl, inr}
use mathlib.Core.Bool.{Bool, true, false, cond}
use mathlib.Core.List.Memᴰ
use mathlib.Core.List.{List, [], ◌∷◌, ◌++◌, Memᴰ}
use native.Mathlib.Omega.{arith}
use lib.Dec.{T, eqb, eqb→eq}
use borrow.Author.Tests.{eqb-true}
use Rattle.rules.proofs.Tests.{eq_make}
use Rattle.rules.proofs.Counts.{some_mem, mem_some}
use Rattle.history.specs.Happened.{Access, got, put, Happening, update_began, query_began, relaxed_began, accessed, update_committed, empty_committed, settled_under, only_ended, nothing, all_of}
use Rattle.history.specs.Serial.{access_of, granted_to}
use Rattle.textbook.specs.Marks.{Source, Mark, whats}
use Rattle.textbook.specs.Graph.{puts, wrote}
use Rattle.textbook.proofs.Traced.{stamp_from, retold}
use Rattle.textbook.proofs.Run.{retold_all}
use Rattle.textbook.proofs.Logs.{Puts}

module _ (st : ℕ → ℕ) (n : ℕ) where
  -- ---- one happening
  pub put_at : (x v : ℕ) (h : Happening) (d : Source) → Puts x v (access_of n (retold st h d)) → (v ≡ st n) × ((w : ℕ) × Puts x w (access_of n h))
  unfolding access_of retold
  put_at x v (accessed m (got y w)) d p = go (eqb m n) p
    where
      go : (b : Bool) → Puts x v (cond b (got y (stamp_from st m d) ∷ []) []) → (v ≡ st n) × ((u : ℕ) × Puts x u (cond b (got y w ∷ []) []))
      go true p = absurd (let e = Memᴰ.eq_of_singleton p in let z : ◌≡◌ {A = ℕ} 0 1 = cc in omega arith)
      go false p = absurd (Memᴰ.not-nil p)
  put_at x v (accessed m (put y w)) d p = go (eqb m n) refl p
    where
      go : (b : Bool) → eqb m n ≡ b → Puts x v (cond b (put y (st m) ∷ []) []) → (v ≡ st n) × ((u : ℕ) × Puts x u (cond b (put y w ∷ []) []))
      go true z p =
          let e = Memᴰ.eq_of_singleton p in
          let q : v ≡ st m = cc in
          let r : x ≡ y = cc in
          (q ∙ ap st (eqb-true m n z), (w, Memᴰ.head (ap (λ (k : ℕ). put k w) r)))
      go false z p = absurd (Memᴰ.not-nil p)
  put_at x v (update_began m) d p = absurd (Memᴰ.not-nil p)
  put_at x v (query_began m) d p = absurd (Memᴰ.not-nil p)
  put_at x v (relaxed_began m) d p = absurd (Memᴰ.not-nil p)
  put_at x v (update_committed m k) d p = absurd (Memᴰ.not-nil p)
  put_at x v (empty_committed m k) d p = absurd (Memᴰ.not-nil p)
  put_at x v (settled_under m k) d p = absurd (Memᴰ.not-nil p)
  put_at x v (only_ended m) d p = absurd (Memᴰ.not-nil p)
  put_at x v nothing d p = absurd (Memᴰ.not-nil p)

  at_put : (x w : ℕ) (h : Happening) (d : Source) → Puts x w (access_of n h) → Puts x (st n) (access_of n (retold st h d))
  unfolding access_of retold
  at_put x w (accessed m (got y v)) d p = go (eqb m n) p
    where
      go : (b : Bool) → Puts x w (cond b (got y v ∷ []) []) → Puts x (st n) (cond b (got y (stamp_from st m d) ∷ []) [])
      go true p = absurd (let e = Memᴰ.eq_of_singleton p in let z : ◌≡◌ {A = ℕ} 0 1 = cc in omega arith)
      go false p = absurd (Memᴰ.not-nil p)
  at_put x w (accessed m (put y v)) d p = go (eqb m n) refl p
    where
      go : (b : Bool) → eqb m n ≡ b → Puts x w (cond b (put y v ∷ []) []) → Puts x (st n) (cond b (put y (st m) ∷ []) [])
      go true z p =
          let e = Memᴰ.eq_of_singleton p in
          let r : x ≡ y = cc in
          Memᴰ.head (ap (λ (k : ℕ). put k (st n)) r ∙ ap (λ (k : ℕ). put y (st k)) (sym (eqb-true m n z)))
      go false z p = absurd (Memᴰ.not-nil p)
  at_put x w (update_began m) d p = absurd (Memᴰ.not-nil p)
  at_put x w (query_began m) d p = absurd (Memᴰ.not-nil p)
  at_put x w (relaxed_began m) d p = absurd (Memᴰ.not-nil p)
  at_put x w (update_committed m k) d p = absurd (Memᴰ.not-nil p)
  at_put x w (empty_committed m k) d p = absurd (Memᴰ.not-nil p)
  at_put x w (settled_under m k) d p = absurd (Memᴰ.not-nil p)
  at_put x w (only_ended m) d p = absurd (Memᴰ.not-nil p)
  at_put x w nothing d p = absurd (Memᴰ.not-nil p)

  -- ---- all of them
  put_of : (x v : ℕ) (ms : List Mark) → Puts x v (granted_to n (retold_all st ms)) → (v ≡ st n) × ((w : ℕ) × Puts x w (granted_to n (whats ms)))
  unfolding granted_to all_of retold_all whats
  put_of x v [] p = absurd (Memᴰ.not-nil p)
  put_of x v (m ∷ ms) p = go (put_of x v ms) (Memᴰ.append_cases (access_of n (retold st m.what m.from)) p)
    where
      go :
          (Puts x v (all_of (access_of n) (retold_all st ms)) → (v ≡ st n) × ((w : ℕ) × Puts x w (all_of (access_of n) (whats ms))))
          → Puts x v (access_of n (retold st m.what m.from)) ⊎ Puts x v (all_of (access_of n) (retold_all st ms))
          → (v ≡ st n) × ((w : ℕ) × Puts x w (access_of n m.what ++ all_of (access_of n) (whats ms)))
      go ih (inl q) = let r = put_at x v m.what m.from q in (r.0, (r.1.0, Memᴰ.append_left _ r.1.1))
      go ih (inr q) = let r = ih q in (r.0, (r.1.0, Memᴰ.append_right (access_of n m.what) r.1.1))

  of_put : (x w : ℕ) (ms : List Mark) → Puts x w (granted_to n (whats ms)) → Puts x (st n) (granted_to n (retold_all st ms))
  unfolding granted_to all_of retold_all whats
  of_put x w [] p = absurd (Memᴰ.not-nil p)
  of_put x w (m ∷ ms) p = go (of_put x w ms) (Memᴰ.append_cases (access_of n m.what) p)
    where
      go :
          (Puts x w (all_of (access_of n) (whats ms)) → Puts x (st n) (all_of (access_of n) (retold_all st ms)))
          → Puts x w (access_of n m.what) ⊎ Puts x w (all_of (access_of n) (whats ms))
          → Puts x (st n) (access_of n (retold st m.what m.from) ++ all_of (access_of n) (retold_all st ms))
      go ih (inl q) = Memᴰ.append_left _ (at_put x w m.what m.from q)
      go ih (inr q) = Memᴰ.append_right (access_of n (retold st m.what m.from)) (ih q)

  -- a write is one of the own stamp, and was granted; what was granted is there
  pub put-wrote : (x v : ℕ) (ms : List Mark) → Puts x v (granted_to n (retold_all st ms)) → (v ≡ st n) × T (wrote ms n x)
  unfolding wrote puts
  put-wrote x v ms p = let r = put_of x v ms p in (r.0, some_mem (puts x) r.1.1 (eq_make x x refl))

  pub wrote-put : (x : ℕ) (ms : List Mark) → T (wrote ms n x) → Puts x (st n) (granted_to n (retold_all st ms))
  unfolding wrote puts
  wrote-put x ms t = let r = mem_some (puts x) (granted_to n (whats ms)) t in go r.0 r.1 r.2
    where
      go : (a : Access) → Memᴰ a (granted_to n (whats ms)) → T (puts x a) → Puts x (st n) (granted_to n (retold_all st ms))
      go (got y v) m z = absurd z
      go (put y v) m z = of_put x v ms (subst (λ (k : ℕ). Puts k v (granted_to n (whats ms))) (eqb→eq y x z) m)
