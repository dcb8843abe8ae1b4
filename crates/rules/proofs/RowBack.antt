-- The versions of a good row, written back, are its words.
use Prim.Native.Nat.{ℕ, zero, suc, ◌+◌, ◌-◌, ◌*◌, ◌≤◌, ◌<◌}
use mathlib.Core.Path.{◌≡◌, refl, sym, ap, ap₂, ◌∙◌, subst}
use mathlib.Core.List.{List, [], ◌∷◌, ◌++◌}
use native.Mathlib.Omega.{arith}
use native.Mathlib.Nat.{mul-le-mul_left}
use lib.ListN.{length, get_or, take, drop, replicate, length-replicate, get_or-replicate, length-drop, take-append-drop}
use lib.Seq.{ext_get_or, length-take-le, get_or-drop, drop-drop}
use Rattle.names.specs.declared.Sizes.{Sizes}
use Rattle.rules.specs.Words.{row}
use Rattle.rules.specs.Tables.{version_row, masks_at}
use Rattle.rules.specs.Versions.{versions_from, pair_words, mask_words, versions_in, row_of}
use Rattle.rules.proofs.Rows.{row_word}
use Rattle.rules.proofs.Choice.{length-versions_in}

-- n versions read off the words l and m: their words are the first of these
pairs_read : (n : ℕ) (l m : List ℕ) → 2 * n ≤ length l → pair_words (versions_from n l m) ≡ take (2 * n) l
unfolding versions_from pair_words
pairs_read zero l m h = refl
pairs_read (suc n) [] m h = absurd (omega arith)
pairs_read (suc n) (a ∷ []) m h = absurd (omega arith)
pairs_read (suc n) (a ∷ b ∷ l) m h =
    ap (λ (r : List ℕ). a ∷ b ∷ r) (pairs_read n l (drop 1 m) (omega arith))
    ∙ ap (λ (k : ℕ). take k (a ∷ b ∷ l)) (let e : suc (suc (2 * n)) ≡ 2 * suc n = omega arith in e)

masks_read : (n : ℕ) (l m : List ℕ) → n ≤ length m → mask_words (versions_from n l m) ≡ take n m
unfolding versions_from mask_words
masks_read zero l m h = refl
masks_read (suc n) l [] h = absurd (omega arith)
masks_read (suc n) l (a ∷ m) h = ap {B = List ℕ} (λ r. a ∷ r) (masks_read n (drop 2 l) m (omega arith))

-- words of which the first are zeros
zeros-ahead : (n : ℕ) (l : List ℕ) → n ≤ length l → ((k : ℕ) → k < n → get_or l k 0 ≡ 0) → replicate n 0 ++ drop n l ≡ l
zeros-ahead zero l h z = refl
zeros-ahead (suc n) [] h z = absurd (omega arith)
zeros-ahead (suc n) (a ∷ l) h z = ap₂ {C = List ℕ} ◌∷◌ (sym (z 0 (omega arith))) (zeros-ahead n l (omega arith) (λ k b. z (suc k) (omega arith)))

-- words that are all zeros
zeros-whole : (n : ℕ) (l : List ℕ) → length l ≡ n → ((k : ℕ) → get_or l k 0 ≡ 0) → replicate n 0 ≡ l
zeros-whole n l e z =
    ext_get_or 0 (replicate n 0) l (length-replicate n 0 ∙ sym e)
    (λ i b. get_or-replicate n i 0 0 (subst (λ (n : ℕ). i < n) (length-replicate n 0) b) ∙ sym (z i))

pub row_of-versions_in :
    (S : Sizes) (r : List ℕ) → length r ≡ version_row S → get_or r 0 0 ≤ S.places
    → ((k : ℕ) → 2 * get_or r 0 0 < k → k < masks_at S → get_or r k 0 ≡ 0) → ((k : ℕ) → get_or r 0 0 ≤ k → get_or r (masks_at S + k) 0 ≡ 0)
    → row_of S (versions_in S r) ≡ r
unfolding row_of versions_in
row_of-versions_in S [] e most z y = absurd (omega arith)
row_of-versions_in S (c ∷ l) e most z y =
    rw (length-versions_in S (c ∷ l))
    (ap {B = List ℕ} (λ w. c ∷ w)
    (ap₂ (λ (a b : List ℕ). a ++ (replicate (2 * (S.places - c)) 0 ++ (b ++ replicate (S.places - c) 0)))
    (pairs_read c l (drop (masks_at S) (c ∷ l)) (omega arith))
    (masks_read c l (drop (masks_at S) (c ∷ l)) (rw length-drop (omega arith)))
    ∙ ap (λ (b : List ℕ). take (2 * c) l ++ (replicate (2 * (S.places - c)) 0 ++ b)) masks
    ∙ ap (λ (b : List ℕ). take (2 * c) l ++ b) unused
    ∙ take-append-drop (2 * c) l))
  where
    m : List ℕ
    m = drop (masks_at S) (c ∷ l)

    masks : take c m ++ replicate (S.places - c) 0 ≡ m
    masks =
        ap (λ (b : List ℕ). take c m ++ b)
        (zeros-whole (S.places - c) (drop c m) (rw (length-drop, length-drop) (omega arith))
        (λ k.
        get_or-drop c m k 0 ∙ get_or-drop (masks_at S) (c ∷ l) (c + k) 0 ∙ y (c + k) (omega arith)))
        ∙ take-append-drop c m

    behind : drop (2 * (S.places - c)) (drop (2 * c) l) ≡ m
    behind = drop-drop (2 * (S.places - c)) (2 * c) l ∙ sym (ap (λ (k : ℕ). drop k (c ∷ l)) (let f : masks_at S ≡ suc (2 * c + 2 * (S.places - c)) = omega arith in f))

    unused : replicate (2 * (S.places - c)) 0 ++ m ≡ drop (2 * c) l
    unused =
        ap (λ (b : List ℕ). replicate (2 * (S.places - c)) 0 ++ b) (sym behind)
        ∙ zeros-ahead (2 * (S.places - c)) (drop (2 * c) l) (rw length-drop (omega arith))
        (λ k h. get_or-drop (2 * c) l k 0 ∙ z (suc (2 * c + k)) (omega arith) (omega arith))

-- rows of the whole table are whole
pub length-row : (w x n : ℕ) (l : List ℕ) → length l ≡ w * n → x < n → length (row w x l) ≡ w
unfolding row
length-row w x n l e h =
    length-take-le w (drop (w * x) l)
    (rw length-drop (let a : w * suc x ≤ w * n = mul-le-mul_left w h in omega arith))

-- equal rows are equal words
pub row_words :
    (w x : ℕ) (v v' : List ℕ) → row w x v' ≡ row w x v → (j : ℕ) → j < w → get_or v' (w * x + j) 0 ≡ get_or v (w * x + j) 0
row_words w x v v' e j h =
    sym (row_word w x j v' h) ∙ ap (λ (r : List ℕ). get_or r j 0) e ∙ row_word w x j v h
