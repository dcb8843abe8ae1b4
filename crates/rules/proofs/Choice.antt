-- The words of a row of versions, falling stamps and nested sets, and the version that a reader reads.
use Prim.Native.Nat.{ℕ, zero, suc, ◌+◌, ◌-◌, ◌*◌, ◌≤◌, ◌<◌}
use mathlib.Core.Path.{◌≡◌, refl, sym, ap, ap₂, ◌∙◌, subst}
use mathlib.Core.Logic.{◌⊎◌, inl, inr}
use mathlib.Core.Bool.{Bool, true, false, cond}
use mathlib.Core.List.{List, [], ◌∷◌, ◌++◌, append_assoc}
use native.Mathlib.Omega.{arith}
use native.Mathlib.Nat.{not-suc-le-zero, le_of_suc-le-suc, eq-or-lt_of_le}
use lib.ListN.{length, get_or, drop, replicate, length-append, length-replicate, get_or-append}
use lib.Seq.{get_or-append-add, drop_at}
use lib.Dec.{T, eqb, ltb, ltb→lt, lt→ltb, leb→le, le→leb, eqb→eq}
use Rattle.names.specs.declared.Sizes.{Sizes}
use Rattle.rules.specs.Words.{every, bit, contains}
use Rattle.rules.specs.Tables.{version_row, masks_at, Reader, up_to, outside}
use Rattle.rules.specs.Versions.{Version, no_version, versions_from, versions_in, pair_words, mask_words, row_of, stamp_at, hidden_at, sees, place, choice}
use Rattle.rules.specs.Tested.{falls, nests}
use Rattle.rules.proofs.Tests.{and_left, and_right, and_both, eq_make, is_true, true_is, false_is, not_make, not_use}
use Rattle.rules.proofs.Bits.{contains→, →contains}

-- ---- the words of a row
pub length-pair_words : (vs : List Version) → length (pair_words vs) ≡ 2 * length vs
unfolding pair_words
length-pair_words [] = refl
length-pair_words (v ∷ vs) = let h = length-pair_words vs in omega arith

pub length-mask_words : (vs : List Version) → length (mask_words vs) ≡ length vs
unfolding mask_words
length-mask_words [] = refl
length-mask_words (v ∷ vs) = ap suc (length-mask_words vs)

-- the words before the masks, and the masks
module _ (S : Sizes) (vs : List Version) where
  abbrev left : ℕ
  left = S.places - length vs

  abbrev pub front : List ℕ
  front = length vs ∷ (pair_words vs ++ replicate (2 * (S.places - length vs)) 0)

  abbrev pub masks : List ℕ
  masks = mask_words vs ++ replicate (S.places - length vs) 0

  pub row_of_parts : row_of S vs ≡ front ++ masks
  unfolding row_of
  row_of_parts = ap {B = List ℕ} (λ l. length vs ∷ l) (sym (append_assoc (pair_words vs) (replicate (2 * left) 0) masks))

  module _ (room : length vs ≤ S.places) where
    pub length_front : length front ≡ masks_at S
    length_front = rw (length-append, length-pair_words, length-replicate) (omega arith)

    length_masks : length masks ≡ S.places
    length_masks = rw (length-append, length-mask_words, length-replicate) (omega arith)

    pub length-row_of : length (row_of S vs) ≡ version_row S
    length-row_of = ap length row_of_parts ∙ rw (length-append front masks, length_front, length_masks) refl

    pub drop-row_of : drop (masks_at S) (row_of S vs) ≡ masks
    drop-row_of = ap (drop (masks_at S)) row_of_parts ∙ drop_at front masks (masks_at S) length_front

from-words : (vs : List Version) (l m : List ℕ) → versions_from (length vs) (pair_words vs ++ l) (mask_words vs ++ m) ≡ vs
unfolding versions_from pair_words mask_words
from-words [] l m = refl
from-words (v ∷ vs) l m = ap {B = List Version} (λ x. v ∷ x) (from-words vs l m)

-- what is written into a row is read back
pub versions_in-row_of : (S : Sizes) (vs : List Version) → length vs ≤ S.places → versions_in S (row_of S vs) ≡ vs
unfolding versions_in
versions_in-row_of S vs room =
    ap (versions_from (get_or (row_of S vs) 0 0) (drop 1 (row_of S vs))) (drop-row_of S vs room)
    ∙ (unfold row_of in from-words vs (replicate (2 * (S.places - length vs)) 0 ++ masks S vs) (replicate (S.places - length vs) 0))

length_from : (n : ℕ) (l m : List ℕ) → length (versions_from n l m) ≡ n
unfolding versions_from
length_from zero l m = refl
length_from (suc n) l m = ap suc (length_from n (drop 2 l) (drop 1 m))

pub length-versions_in : (S : Sizes) (r : List ℕ) → length (versions_in S r) ≡ get_or r 0 0
unfolding versions_in
length-versions_in S r = length_from (get_or r 0 0) (drop 1 r) (drop (masks_at S) r)

pub get_d_zeros : (m n : ℕ) → ◌≡◌ {A = ℕ} (get_or (replicate m 0) n 0) 0
get_d_zeros zero n = refl
get_d_zeros (suc m) zero = refl
get_d_zeros (suc m) (suc n) = get_d_zeros m n

-- behind the count and the pairs there are zeros, and so behind the masks
pub row_of-unused : (S : Sizes) (vs : List Version) → length vs ≤ S.places → (k : ℕ) → 2 * length vs < k → k < masks_at S → get_or (row_of S vs) k 0 ≡ 0
row_of-unused S vs room k h l =
    ap (λ (r : List ℕ). get_or r k 0) (row_of_parts S vs)
    ∙ get_or-append (front S vs) (masks S vs) 0 k (let e = length_front S vs room in omega arith)
    ∙ behind k h
  where
    behind : (k : ℕ) → 2 * length vs < k → get_or (front S vs) k 0 ≡ 0
    behind zero h = absurd (not-suc-le-zero h)
    behind (suc k) h =
        let n = 2 * (S.places - length vs) in
        let e : k ≡ length (pair_words vs) + (k - 2 * length vs) = omega (arith, length-pair_words vs) in
        ap (λ (j : ℕ). get_or (pair_words vs ++ replicate n 0) j 0) e
        ∙ get_or-append-add (pair_words vs) (replicate n 0) (k - 2 * length vs) 0
        ∙ get_d_zeros n (k - 2 * length vs)

pub row_of-unhidden : (S : Sizes) (vs : List Version) → length vs ≤ S.places → (k : ℕ) → length vs ≤ k → get_or (row_of S vs) (masks_at S + k) 0 ≡ 0
row_of-unhidden S vs room k h =
    let n = S.places - length vs in
    let e : masks_at S + k ≡ length (front S vs) + k = omega (arith, length_front S vs room) in
    let f : k ≡ length (mask_words vs) + (k - length vs) = omega (arith, length-mask_words vs) in
    ap (λ (r : List ℕ). get_or r (masks_at S + k) 0) (row_of_parts S vs)
    ∙ ap (λ (j : ℕ). get_or (front S vs ++ masks S vs) j 0) e
    ∙ get_or-append-add (front S vs) (masks S vs) k 0
    ∙ ap (λ (j : ℕ). get_or (masks S vs) j 0) f
    ∙ get_or-append-add (mask_words vs) (replicate n 0) (k - length vs) 0
    ∙ get_d_zeros n (k - length vs)

-- ---- words that are all zero
pub zero_each : (l : List ℕ) → T (every (λ w. eqb w 0) l) → (j : ℕ) → get_or l j 0 ≡ 0
unfolding every
zero_each [] h j = refl
zero_each (w ∷ l) h zero = eqb→eq w 0 (and_left (eqb w 0) (every (λ w. eqb w 0) l) h)
zero_each (w ∷ l) h (suc j) = zero_each l (and_right (eqb w 0) (every (λ w. eqb w 0) l) h) j

pub zero_all : (l : List ℕ) → ((j : ℕ) → get_or l j 0 ≡ 0) → T (every (λ w. eqb w 0) l)
unfolding every
zero_all [] f = tt
zero_all (w ∷ l) f = and_both (eqb w 0) (every (λ w. eqb w 0) l) (eq_make w 0 (f 0)) (zero_all l (λ j. f (suc j)))

-- ---- stamps fall strictly, as a proposition: the earlier in the row, the later the stamp
unfoldable pub Falls : List Version → Type 0
Falls vs = (i j : ℕ) → i < j → j < length vs → stamp_at vs j < stamp_at vs i

falls_head : (v : Version) (vs : List Version) → T (falls (v ∷ vs)) → (j : ℕ) → j < length vs → stamp_at vs j < v.stamp
unfolding falls stamp_at
falls_head v [] t j h = absurd (not-suc-le-zero h)
falls_head v (w ∷ vs) t zero h = ltb→lt w.stamp v.stamp (and_left (ltb w.stamp v.stamp) (falls (w ∷ vs)) t)
falls_head v (w ∷ vs) t (suc j) h =
    let a = falls_head w vs (and_right (ltb w.stamp v.stamp) (falls (w ∷ vs)) t) j (le_of_suc-le-suc h) in
    let b = ltb→lt w.stamp v.stamp (and_left (ltb w.stamp v.stamp) (falls (w ∷ vs)) t) in
    omega arith

pub falls_tail : (v : Version) (vs : List Version) → T (falls (v ∷ vs)) → T (falls vs)
unfolding falls
falls_tail v [] t = tt
falls_tail v (w ∷ vs) t = and_right (ltb w.stamp v.stamp) (falls (w ∷ vs)) t

pub falls→Falls : (vs : List Version) → T (falls vs) → Falls vs
unfolding Falls stamp_at
falls→Falls [] t i j l h = absurd (not-suc-le-zero h)
falls→Falls (v ∷ vs) t i zero l h = absurd (not-suc-le-zero l)
falls→Falls (v ∷ vs) t zero (suc j) l h = falls_head v vs t j (le_of_suc-le-suc h)
falls→Falls (v ∷ vs) t (suc i) (suc j) l h =
    falls→Falls vs (falls_tail v vs t) i j (le_of_suc-le-suc l) (le_of_suc-le-suc h)

pub Falls→falls : (vs : List Version) → Falls vs → T (falls vs)
unfolding falls Falls stamp_at
Falls→falls [] f = tt
Falls→falls (v ∷ []) f = tt
Falls→falls (v ∷ w ∷ vs) f =
    and_both (ltb w.stamp v.stamp) (falls (w ∷ vs))
    (lt→ltb w.stamp v.stamp (f 0 1 (omega arith) (omega arith)))
    (Falls→falls (w ∷ vs) (λ i j l h. f (suc i) (suc j) (omega arith) (omega arith)))

-- ---- sets are nested, as a proposition: from whom a version is hidden, from them whatever is newer
unfoldable pub Nests : List Version → Type 0
Nests vs = (i j : ℕ) → i < j → j < length vs → (q : ℕ) → T (bit (hidden_at vs j) q) → T (bit (hidden_at vs i) q)

nests_head :
    (v : Version) (vs : List Version) → T (nests (v ∷ vs)) → (j : ℕ) → j < length vs → (q : ℕ) → T (bit (hidden_at vs j) q) → T (bit v.hidden q)
unfolding nests hidden_at
nests_head v [] t j h q b = absurd (not-suc-le-zero h)
nests_head v (w ∷ vs) t zero h q b = contains→ v.hidden w.hidden (and_left (contains v.hidden w.hidden) (nests (w ∷ vs)) t) q b
nests_head v (w ∷ vs) t (suc j) h q b =
    contains→ v.hidden w.hidden (and_left (contains v.hidden w.hidden) (nests (w ∷ vs)) t) q
    (nests_head w vs (and_right (contains v.hidden w.hidden) (nests (w ∷ vs)) t) j (le_of_suc-le-suc h) q b)

pub nests_tail : (v : Version) (vs : List Version) → T (nests (v ∷ vs)) → T (nests vs)
unfolding nests
nests_tail v [] t = tt
nests_tail v (w ∷ vs) t = and_right (contains v.hidden w.hidden) (nests (w ∷ vs)) t

pub nests→Nests : (vs : List Version) → T (nests vs) → Nests vs
unfolding Nests hidden_at
nests→Nests [] t i j l h q b = absurd (not-suc-le-zero h)
nests→Nests (v ∷ vs) t i zero l h q b = absurd (not-suc-le-zero l)
nests→Nests (v ∷ vs) t zero (suc j) l h q b = nests_head v vs t j (le_of_suc-le-suc h) q b
nests→Nests (v ∷ vs) t (suc i) (suc j) l h q b =
    nests→Nests vs (nests_tail v vs t) i j (le_of_suc-le-suc l) (le_of_suc-le-suc h) q b

pub Nests→nests : (vs : List Version) → Nests vs → T (nests vs)
unfolding nests Nests hidden_at
Nests→nests [] f = tt
Nests→nests (v ∷ []) f = tt
Nests→nests (v ∷ w ∷ vs) f =
    and_both (contains v.hidden w.hidden) (nests (w ∷ vs))
    (→contains v.hidden w.hidden (f 0 1 (omega arith) (omega arith)))
    (Nests→nests (w ∷ vs) (λ i j l h. f (suc i) (suc j) (omega arith) (omega arith)))

-- ---- the one law of what a reader may read: who may read a version may read the older ones
pub older_seen :
    (vs : List Version) → Falls vs → Nests vs → (q : Reader) (i j : ℕ) → i ≤ j → j < length vs
    → T (sees q (get_or vs i no_version)) → T (sees q (get_or vs j no_version))
unfolding Falls Nests stamp_at hidden_at sees
older_seen vs f n q i j l h k = go q (eq-or-lt_of_le l) k
  where
    go : (q : Reader) → (i ≡ j) ⊎ (i < j) → T (sees q (get_or vs i no_version)) → T (sees q (get_or vs j no_version))
    go q (inl e) k = subst (λ (m : ℕ). T (sees q (get_or vs m no_version))) e k
    go (up_to c) (inr m) k =
        let a = leb→le (get_or vs i no_version).stamp c k in
        let b = f i j m h in
        le→leb (get_or vs j no_version).stamp c (omega arith)
    go (outside s) (inr m) k = not_make (bit (get_or vs j no_version).hidden s) (λ b. not_use (bit (get_or vs i no_version).hidden s) k (n i j m h s b))

-- ---- the place that a reader chooses
pub place_hit : (q : Reader) (v : Version) (vs : List Version) → sees q v ≡ true → place q (v ∷ vs) ≡ 0
unfolding place
place_hit q v vs e = rw e

pub place_miss : (q : Reader) (v : Version) (vs : List Version) → sees q v ≡ false → place q (v ∷ vs) ≡ suc (place q vs)
unfolding place
place_miss q v vs e = rw e

pub choice_hit : (q : Reader) (v : Version) (vs : List Version) → sees q v ≡ true → choice q (v ∷ vs) ≡ v
unfolding choice
choice_hit q v vs e = ap (λ (k : ℕ). get_or (v ∷ vs) k no_version) (place_hit q v vs e)

pub choice_miss : (q : Reader) (v : Version) (vs : List Version) → sees q v ≡ false → choice q (v ∷ vs) ≡ choice q vs
unfolding choice
choice_miss q v vs e = ap (λ (k : ℕ). get_or (v ∷ vs) k no_version) (place_miss q v vs e)

-- every earlier version is not for it
pub place_above : (q : Reader) (vs : List Version) (k : ℕ) → k < place q vs → T (sees q (get_or vs k no_version)) → ⊥
unfolding place
place_above q [] k h = absurd (not-suc-le-zero h)
place_above q (v ∷ vs) k h = go (sees q v) refl k h (place_above q vs)
  where
    go :
        (b : Bool) → sees q v ≡ b → (k : ℕ) → k < cond b 0 (suc (place q vs))
        → ((j : ℕ) → j < place q vs → T (sees q (get_or vs j no_version)) → ⊥) → T (sees q (get_or (v ∷ vs) k no_version)) → ⊥
    go true e k h f = absurd (not-suc-le-zero h)
    go false e zero h f = false_is e
    go false e (suc k) h f = f k (le_of_suc-le-suc h)

-- the version there is
pub place-fits : (q : Reader) (vs : List Version) → place q vs < length vs → T (sees q (get_or vs (place q vs) no_version))
unfolding place
place-fits q [] h = absurd (not-suc-le-zero h)
place-fits q (v ∷ vs) h = go (sees q v) refl h (place-fits q vs)
  where
    go :
        (b : Bool) → sees q v ≡ b → cond b 0 (suc (place q vs)) < suc (length vs)
        → (place q vs < length vs → T (sees q (get_or vs (place q vs) no_version))) → T (sees q (get_or (v ∷ vs) (cond b 0 (suc (place q vs))) no_version))
    go true e h f = true_is e
    go false e h f = f (le_of_suc-le-suc h)

pub place-le : (q : Reader) (vs : List Version) → place q vs ≤ length vs
unfolding place
place-le q [] = omega arith
place-le q (v ∷ vs) = go (sees q v) (place-le q vs)
  where
    go : (b : Bool) → place q vs ≤ length vs → cond b 0 (suc (place q vs)) ≤ suc (length vs)
    go true h = omega arith
    go false h = omega arith

-- no version before it is
pub place-least : (q : Reader) (vs : List Version) (k : ℕ) → k < length vs → T (sees q (get_or vs k no_version)) → place q vs ≤ k
unfolding place
place-least q [] k h l = absurd (not-suc-le-zero h)
place-least q (v ∷ vs) zero h l = let e = place_hit q v vs (is_true (sees q v) l) in omega arith
place-least q (v ∷ vs) (suc k) h l = go (sees q v) (place-least q vs k (le_of_suc-le-suc h) l)
  where
    go : (b : Bool) → place q vs ≤ k → cond b 0 (suc (place q vs)) ≤ suc k
    go true m = omega arith
    go false m = omega arith

-- if the last version is, one is chosen
pub place_exists :
    (q : Reader) (vs : List Version) → 0 < length vs → T (sees q (get_or vs (length vs - 1) no_version)) → place q vs < length vs
place_exists q vs h l = let a = place-least q vs (length vs - 1) (omega arith) l in omega arith

-- what a reader finds depends on what it may read of each version
pub place_same :
    (q r : Reader) (vs ws : List Version) → length vs ≡ length ws
    → ((k : ℕ) → k < length vs → sees q (get_or vs k no_version) ≡ sees r (get_or ws k no_version)) → place q vs ≡ place r ws
unfolding place
place_same q r [] [] e f = refl
place_same q r [] (w ∷ ws) e f = absurd (omega arith)
place_same q r (v ∷ vs) [] e f = absurd (omega arith)
place_same q r (v ∷ vs) (w ∷ ws) e f =
    ap₂ (λ (b : Bool) (n : ℕ). cond b 0 (suc n)) (f 0 (omega arith)) (place_same q r vs ws (omega arith) (λ k l. f (suc k) (omega arith)))
