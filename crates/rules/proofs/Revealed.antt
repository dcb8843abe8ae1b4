-- Request E11: versions with nothing hidden from slot s any more. For the others who read nothing changes.
use Prim.Native.Nat.{ℕ, zero, suc}
use mathlib.Core.Path.{◌≡◌, refl, sym, ap, ap₂, ◌∙◌, subst}
use mathlib.Core.Logic.{◌≢◌}
use mathlib.Core.Bool.{Bool, true, false, not, cond, ◌||◌}
use mathlib.Core.List.{List, [], ◌∷◌, Memᴰ}
use native.Mathlib.Omega.{arith}
use lib.ListN.{length, get_or}
use lib.Dec.{T, eqb}
use Rattle.rules.specs.Words.{some, bit, without_bit}
use Rattle.rules.specs.Tables.{Reader, up_to, outside}
use Rattle.rules.specs.Versions.{Version, no_version, stamp_at, hidden_at, sees, place, choice, read_by_some, kept_from, kept, revealed}
use Rattle.rules.proofs.Tests.{false_is}
use Rattle.rules.proofs.Bits.{bit_none, without_bit_there, without_none, without-bit, bit-without}
use Rattle.rules.proofs.Choice.{Falls, Nests, place_same}

-- one version of them
abbrev pub bare : ℕ → Version → Version
bare s v = record { stamp = v.stamp; value = v.value; hidden = without_bit v.hidden s }

-- a reader that is not the relaxed query in slot s
abbrev pub NotOf : ℕ → Reader → Type 0
NotOf s (up_to q) = Unit {0}
NotOf s (outside r) = r ≢ s

module _ (s : ℕ) where
  pub length-revealed : (vs : List Version) → length (revealed s vs) ≡ length vs
  unfolding revealed
  length-revealed [] = refl
  length-revealed (v ∷ vs) = ap suc (length-revealed vs)

  pub get_d_revealed : (vs : List Version) (k : ℕ) → get_or (revealed s vs) k no_version ≡ bare s (get_or vs k no_version)
  unfolding revealed
  get_d_revealed [] k = ap (λ (h : ℕ). record { stamp = 0; value = 0; hidden = h }) (sym (without_none 0 s (false_is (bit_none s))))
  get_d_revealed (v ∷ vs) zero = refl
  get_d_revealed (v ∷ vs) (suc k) = get_d_revealed vs k

  pub stamp-revealed : (vs : List Version) (k : ℕ) → stamp_at (revealed s vs) k ≡ stamp_at vs k
  unfolding stamp_at
  stamp-revealed vs k = ap (λ (v : Version). v.stamp) (get_d_revealed vs k)

  pub hidden-revealed : (vs : List Version) (k : ℕ) → hidden_at (revealed s vs) k ≡ without_bit (hidden_at vs k) s
  unfolding hidden_at
  hidden-revealed vs k = ap (λ (v : Version). v.hidden) (get_d_revealed vs k)

  -- where nothing is hidden from it nothing changes
  pub revealed_none : (vs : List Version) → ((k : ℕ) → T (bit (hidden_at vs k) s) → ⊥) → revealed s vs ≡ vs
  unfolding revealed hidden_at
  revealed_none [] n = refl
  revealed_none (v ∷ vs) n =
      ap₂ {C = List Version} ◌∷◌
      (ap (λ (h : ℕ). record { stamp = v.stamp; value = v.value; hidden = h }) (without_none v.hidden s (n 0)))
      (revealed_none vs (λ k. n (suc k)))

  -- ---- the order stays
  pub revealed-falls : (vs : List Version) → Falls vs → Falls (revealed s vs)
  unfolding Falls
  revealed-falls vs f i j l h =
      let a = stamp-revealed vs i in
      let b = stamp-revealed vs j in
      let c = f i j l (let e = length-revealed vs in omega arith) in
      omega arith

  pub revealed-nests : (vs : List Version) → Nests vs → Nests (revealed s vs)
  unfolding Nests
  revealed-nests vs f i j l h q b =
      let k = without-bit (hidden_at vs j) s q (subst (λ (w : ℕ). T (bit w q)) (hidden-revealed vs j) b) in
      subst (λ (w : ℕ). T (bit w q)) (sym (hidden-revealed vs i))
      (bit-without (hidden_at vs i) s q k.0 (f i j l (let e = length-revealed vs in omega arith) q k.1))

  -- ---- another reader reads as before
  pub sees-revealed : (q : Reader) → NotOf s q → (v : Version) → sees q (bare s v) ≡ sees q v
  unfolding sees
  sees-revealed (up_to c) n v = refl
  sees-revealed (outside r) n v = ap not (without_bit_there v.hidden s r n)

  pub sees_there : (q : Reader) → NotOf s q → (vs : List Version) (k : ℕ) → sees q (get_or (revealed s vs) k no_version) ≡ sees q (get_or vs k no_version)
  sees_there q n vs k = ap (sees q) (get_d_revealed vs k) ∙ sees-revealed q n (get_or vs k no_version)

  pub place-revealed : (q : Reader) → NotOf s q → (vs : List Version) → place q (revealed s vs) ≡ place q vs
  place-revealed q n vs = place_same q q (revealed s vs) vs (length-revealed vs) (λ k l. sees_there q n vs k)

  pub choice-revealed : (q : Reader) → NotOf s q → (vs : List Version) → choice q (revealed s vs) ≡ bare s (choice q vs)
  unfolding choice
  choice-revealed q n vs = ap (λ (k : ℕ). get_or (revealed s vs) k no_version) (place-revealed q n vs) ∙ get_d_revealed vs (place q vs)

  -- ---- and the same versions are kept
  module _ (qs : List Reader) (others : (q : Reader) → Memᴰ q qs → NotOf s q) where
    same_some : (f g : Reader → Bool) (ps : List Reader) → ((q : Reader) → Memᴰ q ps → f q ≡ g q) → some f ps ≡ some g ps
    unfolding some
    same_some f g [] e = refl
    same_some f g (p ∷ ps) e = ap₂ ◌||◌ (e p (Memᴰ.head refl)) (same_some f g ps (λ q m. e q (Memᴰ.tail m)))

    read-revealed : (vs : List Version) (k : ℕ) → read_by_some qs (revealed s vs) k ≡ read_by_some qs vs k
    unfolding read_by_some
    read-revealed vs k =
        same_some (λ q. eqb (place q (revealed s vs)) k) (λ q. eqb (place q vs) k) qs
        (λ q m. ap (λ (j : ℕ). eqb j k) (place-revealed q (others q m) vs))

    kept-revealed-from : (vs : List Version) (k : ℕ) (rest : List Version) → kept_from qs (revealed s vs) k (revealed s rest) ≡ revealed s (kept_from qs vs k rest)
    unfolding kept_from revealed
    kept-revealed-from vs k [] = refl
    kept-revealed-from vs k (w ∷ rest) =
        ap₂ (λ (b : Bool) (l : List Version). cond b (bare s w ∷ l) l) (ap (λ (b : Bool). eqb k 0 || b) (read-revealed vs k)) (kept-revealed-from vs (suc k) rest)
        ∙ go (eqb k 0 || read_by_some qs vs k)
      where
        go :
            (b : Bool) → cond b (bare s w ∷ revealed s (kept_from qs vs (suc k) rest)) (revealed s (kept_from qs vs (suc k) rest))
            ≡ revealed s (cond b (w ∷ kept_from qs vs (suc k) rest) (kept_from qs vs (suc k) rest))
        go true = refl
        go false = refl

    pub kept-revealed : (vs : List Version) → kept qs (revealed s vs) ≡ revealed s (kept qs vs)
    unfolding kept
    kept-revealed vs = kept-revealed-from vs 0 vs
