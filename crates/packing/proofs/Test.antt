-- The tests by which a version stays or goes, on the words of the row.
use Prim.Native.Nat.{ℕ, ◌+◌, ◌-◌, ◌*◌, ◌≤◌, ◌<◌}
use mathlib.Core.Path.{◌≡◌, sym, ap, ap₂, ◌∙◌, subst}
use mathlib.Core.Logic.{◌⊎◌, inl, inr}
use mathlib.Core.Bool.{Bool, true, false, ◌||◌, not, cond}
use mathlib.Core.List.{List}
use native.Mathlib.Omega.{arith}
use native.Mathlib.Nat.{eq-zero-or-pos}
use lib.ListN.{length, get_or}
use lib.Dec.{T, eqb, ltb}
use borrow.Author.Tests.{eq-eqb, ne_eqb}
use Rattle.names.specs.Sizes.{base}
use Rattle.rules.specs.Tables.{masks_at, up_to}
use Rattle.rules.specs.Versions.{Version, no_version, versions_in, stamp_at, hidden_at, sees, place}
use Rattle.rules.proofs.Choice.{length-versions_in, place-fits}
use Rattle.rules.proofs.Reading.{place_is}
use Rattle.choices.specs.Pairs.{count_in, stamp_in}
use Rattle.choices.proofs.Read.{stamp_in_lem, hidden_in_lem}
use Rattle.choices.proofs.Halved.{too_new, old_enough_lem}
use Rattle.packing.specs.Changed.{TidyRow, stays, needed, without, left_by}

-- the version that was the newest stays
pub first-stays :
    (r : List ℕ) → TidyRow r → (below stamp value hidden : ℕ)
    → (ltb (get_or r 1 0) below || not (eqb (get_or r (masks_at base) 0) hidden)) ≡ stays below (record { stamp = stamp; value = value; hidden = hidden }) (versions_in base r)
unfolding stays
first-stays r t below stamp value hidden =
    ap₂ (λ (a b : ℕ). ltb a below || not (eqb b hidden)) (sym (stamp_in_lem r 0 t.sound.least)) (sym (hidden_in_lem r 0 t.sound.least))

-- ---- the words of the version at place k and of the one before it
module _ (r : List ℕ) (k : ℕ) (behind : 0 < k) (inside : k < count_in r) where
  pub own_stamp : get_or r (k * 2 + 1) 0 ≡ stamp_at (versions_in base r) k
  own_stamp = sym (stamp_in_lem r k inside)

  pub stamp-before : get_or r (k * 2 + 1 - 2) 0 ≡ stamp_at (versions_in base r) (k - 1)
  stamp-before = ap (λ (i : ℕ). get_or r i 0) (let e : k * 2 + 1 - 2 ≡ (k - 1) * 2 + 1 = omega arith in e) ∙ sym (stamp_in_lem r (k - 1) (omega arith))

  pub own_hidden : get_or r (masks_at base + k) 0 ≡ hidden_at (versions_in base r) k
  own_hidden = sym (hidden_in_lem r k inside)

  pub hidden_before : get_or r (masks_at base + k - 1) 0 ≡ hidden_at (versions_in base r) (k - 1)
  hidden_before =
      ap (λ (i : ℕ). get_or r i 0) (let e : masks_at base + k - 1 ≡ masks_at base + (k - 1) = omega arith in e) ∙ sym (hidden_in_lem r (k - 1) (omega arith))

-- ---- one who read by the start s leaves
module _ (r : List ℕ) (t : TidyRow r) (s below next : ℕ) where
  abbrev vs : List Version
  vs = versions_in base r

  -- the newest is read: nothing goes
  pub newest-stays : stamp_in r 0 ≤ s → left_by s below next (versions_in base r) ≡ versions_in base r
  unfolding needed
  newest-stays h =
      let n = length-versions_in base r in
      let l = t.sound.least in
      let e : place (up_to s) vs ≡ 0 = place_is (up_to s) vs 0 (omega arith) (old_enough_lem r s 0 (omega arith) h) (λ i a. absurd (omega arith)) in
      rw (eq-eqb (place (up_to s) vs) 0 e)

  module _ (found : place (up_to s) (versions_in base r) < length (versions_in base r)) (older : s < stamp_in r 0) (k : ℕ) (is : k ≡ place (up_to s) (versions_in base r)) where
    pub inside : k < count_in r
    inside = let n = length-versions_in base r in omega arith

    pub behind : 0 < k
    behind = go (eq-zero-or-pos k)
      where
        go : (k ≡ 0) ⊎ (0 < k) → 0 < k
        go (inl e) =
            let z : place (up_to s) vs ≡ 0 = sym is ∙ e in
            absurd (too_new r s 0 (let l = t.sound.least in omega arith) older (subst (λ (j : ℕ). T (sees (up_to s) (get_or vs j no_version))) z (place-fits (up_to s) vs found)))
        go (inr l) = l

    abbrev test : Bool
    test =
        ltb (get_or r (k * 2 + 1) 0) below
        || (ltb next (get_or r (k * 2 + 1 - 2) 0) || not (eqb (get_or r (masks_at base + k - 1) 0) (get_or r (masks_at base + k) 0)))

    test_is : test ≡ needed s below next (versions_in base r)
    unfolding needed
    test_is =
        rw (own_stamp r k behind inside, stamp-before r k behind inside, hidden_before r k behind inside, own_hidden r k behind inside, ← is, ne_eqb k 0 (λ e. let b = behind in omega arith))

    pub all_stay :
        (ltb (get_or r (k * 2 + 1) 0) below
        || (ltb next (get_or r (k * 2 + 1 - 2) 0) || not (eqb (get_or r (masks_at base + k - 1) 0) (get_or r (masks_at base + k) 0)))) ≡ true
        → left_by s below next (versions_in base r) ≡ versions_in base r
    all_stay e = ap (λ (b : Bool). cond b vs (without (place (up_to s) vs) vs)) (sym test_is ∙ e)

    pub one_goes :
        (ltb (get_or r (k * 2 + 1) 0) below
        || (ltb next (get_or r (k * 2 + 1 - 2) 0) || not (eqb (get_or r (masks_at base + k - 1) 0) (get_or r (masks_at base + k) 0)))) ≡ false
        → left_by s below next (versions_in base r) ≡ without k (versions_in base r)
    one_goes e = ap (λ (b : Bool). cond b vs (without (place (up_to s) vs) vs)) (sym test_is ∙ e) ∙ ap (λ (j : ℕ). without j vs) (sym is)
