-- The words of a row as versions.
use Prim.Native.Nat.{ℕ, zero, suc, ◌+◌, ◌*◌, ◌/◌, ◌%◌, ◌^◌, ◌<◌}
use mathlib.Core.Path.{◌≡◌, refl, sym, ap, ◌∙◌}
use mathlib.Core.Bool.{not}
use mathlib.Core.List.{List}
use native.Mathlib.Omega.{arith}
use native.Mathlib.Nat.{not-suc-le-zero, le_of_suc-le-suc}
use lib.ListN.{get_or, drop}
use lib.Seq.{get_or-drop}
use lib.Dec.{leb, ltb, eqb, ltb→lt, lt→ltb}
use Rattle.std.proofs.Math.Facts.{leb_no, no_leb}
use Rattle.std.proofs.Math.Bool.{not-not}
use Rattle.rules.proofs.Tests.{iff_eq}
use Rattle.names.specs.Sizes.{base}
use Rattle.rules.specs.Words.{bit}
use Rattle.rules.specs.Tables.{masks_at, up_to, outside}
use Rattle.rules.specs.Versions.{Version, no_version, versions_from, versions_in, stamp_at, hidden_at, sees}
use Rattle.choices.specs.Pairs.{count_in, stamp_in, value_in, hidden_in}

-- ---- the version at place k is the pair behind the count and k pairs, and the word behind all pairs and k words
abbrev pub version_at : List ℕ → ℕ → Version
version_at r k = record { stamp = stamp_in r k; value = value_in r k; hidden = hidden_in r k }

versions_at :
    (n : ℕ) (l m : List ℕ) (k : ℕ) → k < n
    → get_or (versions_from n l m) k no_version ≡ record { stamp = get_or l (k * 2) 0; value = get_or l (k * 2 + 1) 0; hidden = get_or m k 0 }
unfolding versions_from
versions_at zero l m k h = absurd (not-suc-le-zero h)
versions_at (suc n) l m zero h = refl
versions_at (suc n) l m (suc k) h =
    versions_at n (drop 2 l) (drop 1 m) k (le_of_suc-le-suc h)
    ∙ (λ i.
    record {
      stamp = (get_or-drop 2 l (k * 2) 0 ∙ ap (λ (m : ℕ). get_or l m 0) (let e : 2 + k * 2 ≡ suc k * 2 = omega arith in e)) i;
      value = (get_or-drop 2 l (k * 2 + 1) 0 ∙ ap (λ (m : ℕ). get_or l m 0) (let e : 2 + (k * 2 + 1) ≡ suc k * 2 + 1 = omega arith in e)) i;
      hidden = (get_or-drop 1 m k 0 ∙ ap (λ (j : ℕ). get_or m j 0) (let e : 1 + k ≡ suc k = omega arith in e)) i;
    })

pub version_in : (r : List ℕ) (k : ℕ) → k < count_in r → get_or (versions_in base r) k no_version ≡ version_at r k
unfolding versions_in
version_in r k h =
    versions_at (count_in r) (drop 1 r) (drop (masks_at base) r) k h
    ∙ (λ i.
    record {
      stamp = (get_or-drop 1 r (k * 2) 0 ∙ ap (λ (m : ℕ). get_or r m 0) (let e : 1 + k * 2 ≡ k * 2 + 1 = omega arith in e)) i;
      value = (get_or-drop 1 r (k * 2 + 1) 0 ∙ ap (λ (m : ℕ). get_or r m 0) (let e : 1 + (k * 2 + 1) ≡ k * 2 + 2 = omega arith in e)) i;
      hidden = (get_or-drop (masks_at base) r k 0) i;
    })

pub stamp_in_lem : (r : List ℕ) (k : ℕ) → k < count_in r → stamp_at (versions_in base r) k ≡ stamp_in r k
unfolding stamp_at
stamp_in_lem r k h = ap (λ (v : Version). v.stamp) (version_in r k h)

pub hidden_in_lem : (r : List ℕ) (k : ℕ) → k < count_in r → hidden_at (versions_in base r) k ≡ hidden_in r k
unfolding hidden_at
hidden_in_lem r k h = ap (λ (v : Version). v.hidden) (version_in r k h)

pub value_in_lem : (r : List ℕ) (k : ℕ) → k < count_in r → (get_or (versions_in base r) k no_version).value ≡ value_in r k
value_in_lem r k h = ap (λ (v : Version). v.value) (version_in r k h)

-- ---- who may read it, by its words
pub seen_up_to : (r : List ℕ) (k q : ℕ) → k < count_in r → sees (up_to q) (get_or (versions_in base r) k no_version) ≡ leb (stamp_in r k) q
unfolding sees
seen_up_to r k q h = ap (λ (v : Version). leb v.stamp q) (version_in r k h)

pub seen-outside : (r : List ℕ) (k s : ℕ) → k < count_in r → sees (outside s) (get_or (versions_in base r) k no_version) ≡ not (bit (hidden_in r k) s)
unfolding sees
seen-outside r k s h = ap (λ (v : Version). not (bit v.hidden s)) (version_in r k h)

-- who may not, as the code tests it
later : (a b : ℕ) → ltb a b ≡ not (leb b a)
later a b = iff_eq (ltb a b) (not (leb b a)) (λ t. no_leb (ltb→lt a b t)) (λ t. lt→ltb a b (leb_no t))

pub too_late : (r : List ℕ) (k q : ℕ) → k < count_in r → ltb q (stamp_in r k) ≡ not (sees (up_to q) (get_or (versions_in base r) k no_version))
too_late r k q h = later q (stamp_in r k) ∙ ap not (sym (seen_up_to r k q h))

pub hidden-from :
    (r : List ℕ) (k s : ℕ) → k < count_in r → eqb (hidden_in r k / 2 ^ s % 2) 1 ≡ not (sees (outside s) (get_or (versions_in base r) k no_version))
unfolding bit
hidden-from r k s h = sym (not-not (bit (hidden_in r k) s)) ∙ ap not (sym (seen-outside r k s h))
