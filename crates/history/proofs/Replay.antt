-- Running accesses on an array, one transaction after another.
use Prim.Native.Nat.{ℕ}
use mathlib.Core.Path.{◌≡◌, refl, sym, ap, ◌∙◌, subst}
use mathlib.Core.Logic.{◌≢◌}
use mathlib.Core.Bool.{Bool, true, false, cond}
use mathlib.Core.List.{List, [], ◌∷◌, ◌++◌, append_assoc, append-nil}
use lib.Dec.{T, eqb}
use borrow.Author.Tests.{eq-eqb, ne_eqb}
use Rattle.rules.proofs.Tests.{and_left, and_right, and_both}
use Rattle.rules.proofs.Tests.{true_is}
use Rattle.history.specs.Happened.{Access, got, put}
use Rattle.history.specs.Serial.{one_by_one, Absent}
use Rattle.history.proofs.Plain.{Array, store, agrees, final}

-- ---- one list after the other
pub final-append : (l k : List Access) (a : Array) → final (l ++ k) a ≡ final k (final l a)
unfolding final
final-append [] k a = refl
final-append (got x v ∷ l) k a = final-append l k a
final-append (put x v ∷ l) k a = final-append l k (store a x v)

pub agrees-append : (l k : List Access) (a : Array) → T (agrees l a) → T (agrees k (final l a)) → T (agrees (l ++ k) a)
unfolding agrees final
agrees-append [] k a h g = g
agrees-append (got x v ∷ l) k a h g = and_both (eqb (a x) v) _ (and_left (eqb (a x) v) _ h) (agrees-append l k a (and_right (eqb (a x) v) _ h) g)
agrees-append (put x v ∷ l) k a h g = agrees-append l k (store a x v) h g

pub agrees-got : (a : Array) (x v : ℕ) → a x ≡ v → T (agrees (got x v ∷ []) a)
unfolding agrees
agrees-got a x v e = and_both (eqb (a x) v) _ (true_is (eq-eqb (a x) v e)) tt

-- ---- stores
pub store_here : (a : Array) (x v : ℕ) → store a x v x ≡ v
unfolding store
store_here a x v = rw (eq-eqb x x refl)

pub store_there : (a : Array) (x v y : ℕ) → y ≢ x → store a x v y ≡ a y
unfolding store
store_there a x v y d = rw (ne_eqb y x d)

-- ---- only named items matter
unfoldable pub Within : (ℕ → Type 0) → List Access → Type 0
Within D [] = T true
Within D (got x v ∷ l) = D x × Within D l
Within D (put x v ∷ l) = D x × Within D l

pub within-map : (D R : ℕ → Type 0) → ((x : ℕ) → D x → R x) → (l : List Access) → Within D l → Within R l
unfolding Within
within-map D R f [] w = tt
within-map D R f (got x v ∷ l) w = (f x w.0, within-map D R f l w.1)
within-map D R f (put x v ∷ l) w = (f x w.0, within-map D R f l w.1)

pub within-append : (D : ℕ → Type 0) (l k : List Access) → Within D l → Within D k → Within D (l ++ k)
unfolding Within
within-append D [] k w u = u
within-append D (got x v ∷ l) k w u = (w.0, within-append D l k w.1 u)
within-append D (put x v ∷ l) k w u = (w.0, within-append D l k w.1 u)

pub within-got : (D : ℕ → Type 0) (x v : ℕ) → D x → Within D (got x v ∷ [])
unfolding Within
within-got D x v h = (h, tt)

pub within-put : (D : ℕ → Type 0) (x v : ℕ) → D x → Within D (put x v ∷ [])
unfolding Within
within-put D x v h = (h, tt)

pub within_none : (D : ℕ → Type 0) → Within D []
unfolding Within
within_none D = tt

module _ (D : ℕ → Type 0) where
  stores : (a b : Array) (x v : ℕ) → ((y : ℕ) → D y → a y ≡ b y) → (y : ℕ) → D y → store a x v y ≡ store b x v y
  unfolding store
  stores a b x v h y s = ap (cond (eqb y x) v) (h y s)

  pub local_agrees : (l : List Access) (a b : Array) → ((y : ℕ) → D y → a y ≡ b y) → Within D l → T (agrees l a) → T (agrees l b)
  unfolding agrees Within
  local_agrees [] a b h w t = tt
  local_agrees (got x v ∷ l) a b h w t =
      and_both (eqb (b x) v) _ (subst (λ (m : ℕ). T (eqb m v)) (h x w.0) (and_left (eqb (a x) v) _ t)) (local_agrees l a b h w.1 (and_right (eqb (a x) v) _ t))
  local_agrees (put x v ∷ l) a b h w t = local_agrees l (store a x v) (store b x v) (stores a b x v h) w.1 t

  pub local_final : (l : List Access) (a b : Array) → ((y : ℕ) → D y → a y ≡ b y) → (y : ℕ) → D y → final l a y ≡ final l b y
  unfolding final
  local_final [] a b h y s = h y s
  local_final (got x v ∷ l) a b h y s = local_final l a b h y s
  local_final (put x v ∷ l) a b h y s = local_final l (store a x v) (store b x v) (stores a b x v h) y s

  pub untouched : (l : List Access) (a : Array) → Within D l → (y : ℕ) → (D y → ⊥) → final l a y ≡ a y
  unfolding final Within
  untouched [] a w y n = refl
  untouched (got x v ∷ l) a w y n = untouched l a w.1 y n
  untouched (put x v ∷ l) a w y n = untouched l (store a x v) w.1 y n ∙ store_there a x v y (λ e. n (subst D (sym e) w.0))

-- ---- the order
pub all_more : (log : ℕ → List Access) (ns : List ℕ) (n : ℕ) → one_by_one log (ns ++ (n ∷ [])) ≡ one_by_one log ns ++ log n
unfolding one_by_one
all_more log [] n = append-nil (log n)
all_more log (m ∷ ns) n = ap (λ (l : List Access). log m ++ l) (all_more log ns n) ∙ sym (append_assoc (log m) (one_by_one log ns) (log n))

-- ---- one access more in the log of n
unfoldable pub added : (ℕ → List Access) → ℕ → Access → ℕ → List Access
added log n c m = log m ++ cond (eqb n m) (c ∷ []) []

pub added_here : (log : ℕ → List Access) (n : ℕ) (c : Access) → added log n c n ≡ log n ++ (c ∷ [])
unfolding added
added_here log n c = rw (eq-eqb n n refl)

pub added_there : (log : ℕ → List Access) (n : ℕ) (c : Access) (m : ℕ) → m ≢ n → added log n c m ≡ log m
unfolding added
added_there log n c m d = rw (ne_eqb n m (λ e. d (sym e))) (append-nil (log m))

module _ (log : ℕ → List Access) (n : ℕ) (c : Access) where
  pub added_absent : (ns : List ℕ) → Absent n ns → one_by_one (added log n c) ns ≡ one_by_one log ns
  unfolding one_by_one Absent
  added_absent [] h = refl
  added_absent (m ∷ ns) h = rw (added_there log n c m h.0, added_absent ns h.1)

-- a read more in the log of n changes no array
module _ (log : ℕ → List Access) (n x v : ℕ) where
  pub final-read : (m : ℕ) (a : Array) → final (added log n (got x v) m) a ≡ final (log m) a
  unfolding added final
  final-read m a = final-append (log m) (cond (eqb n m) (got x v ∷ []) []) a ∙ go (eqb n m)
    where
      go : (b : Bool) → final (cond b (got x v ∷ []) []) (final (log m) a) ≡ final (log m) a
      go true = refl
      go false = refl

  pub final_all_read : (ns : List ℕ) (a : Array) → final (one_by_one (added log n (got x v)) ns) a ≡ final (one_by_one log ns) a
  unfolding one_by_one final
  final_all_read [] a = refl
  final_all_read (m ∷ ns) a =
      final-append (added log n (got x v) m) (one_by_one (added log n (got x v)) ns) a
      ∙ ap (final (one_by_one (added log n (got x v)) ns)) (final-read m a)
      ∙ final_all_read ns (final (log m) a)
      ∙ sym (final-append (log m) (one_by_one log ns) a)

-- ---- every log within D
pub within_added : (D : ℕ → Type 0) (log : ℕ → List Access) (n : ℕ) (c : Access) → ((m : ℕ) → Within D (log m)) → Within D (c ∷ []) → (m : ℕ) → Within D (added log n c m)
unfolding added
within_added D log n c f w m = within-append D (log m) (cond (eqb n m) (c ∷ []) []) (f m) (go (eqb n m))
  where
    go : (b : Bool) → Within D (cond b (c ∷ []) [])
    go true = w
    go false = within_none D

pub within_all : (D : ℕ → Type 0) (log : ℕ → List Access) → ((m : ℕ) → Within D (log m)) → (ns : List ℕ) → Within D (one_by_one log ns)
unfolding one_by_one
within_all D log f [] = within_none D
within_all D log f (n ∷ ns) = within-append D (log n) (one_by_one log ns) (f n) (within_all D log f ns)
