-- How far a reader looks: to the newest version that it may read, and at most 2 plus the number of others that are relaxed or start later,
-- or, if it is relaxed itself, of all others.
use Prim.Native.Nat.{ℕ, suc, ◌+◌, ◌-◌, ◌≤◌, ◌<◌}
use mathlib.Core.Path.{◌≡◌, refl, sym, ap, subst}
use mathlib.Core.Bool.{Bool, true, false, ◌&&◌, cond}
use mathlib.Core.List.{List, [], ◌∷◌}
use native.Mathlib.Omega.{arith}
use lib.ListN.{length, get_or}
use lib.Dec.{T, eqb, leb→le, lt→ltb}
use borrow.Author.Tests.{leb-false}
use Rattle.names.specs.declared.Sizes.{Sizes}
use Rattle.rules.specs.Words.{some}
use Rattle.rules.specs.Tables.{Reader, up_to, outside, txn, is_reader, reader_in, readers}
use Rattle.rules.specs.Versions.{Version, no_version, versions_in, sees, place}
use Rattle.rules.specs.Good.{GoodVersions}
use Rattle.rules.specs.Tested.{all_read}
pub use Rattle.rules.specs.Promises.{may_pass, later}
use Rattle.rules.proofs.Tests.{and_both, eq_make, ne_make, is_false}
use Rattle.rules.proofs.Counts.{some_mem}
use Rattle.rules.proofs.Choice.{length-versions_in, place_above, place-fits, place-le, place-least, place_exists}
use Rattle.rules.proofs.Passing.{tally, counted, passing_all, passing_some}
use Rattle.rules.proofs.Trim.{reader}
use Rattle.rules.proofs.EqualVersions.{Good→read}

-- the others are counted as others are
later-counted : (q : Reader) (qs : List Reader) → later q qs ≡ counted (may_pass q) qs
unfolding later counted tally
later-counted q [] = refl
later-counted q (r ∷ qs) = go (may_pass q r) (later-counted q qs)
  where
    go : (b : Bool) → later q qs ≡ counted (may_pass q) qs → cond b (suc (later q qs)) (later q qs) ≡ tally b (counted (may_pass q) qs)
    go true e = ap suc e
    go false e = e

-- one that may read a version which q may not is such another
pub passes : (q r : Reader) (v : Version) → T (sees r v) → (T (sees q v) → ⊥) → T (may_pass q r)
unfolding may_pass sees
passes (up_to q) (up_to r) v a b =
    let k = leb→le v.stamp r a in
    let l = leb-false v.stamp q (is_false _ b) in
    lt→ltb q r (omega arith)
passes (up_to q) (outside s) v a b = tt
passes (outside s) (up_to r) v a b = tt
passes (outside s) (outside r) v a b = ne_make s r (λ e. b (subst (λ (m : ℕ). T (sees (outside m) v)) (sym e) a))

-- each version between the newest and the chosen one has a reader of its own
pub looked-most : (qs : List Reader) (vs : List Version) (q : Reader) → T (all_read qs vs 0 vs) → suc (place q vs) ≤ 2 + later q qs
looked-most qs vs q h =
    let n = place q vs - 1 in
    let e = later-counted q qs in
    let a = passing_all (λ i. some (λ s. may_pass q s && eqb (place s vs) i) qs) 1 n each in
    let b = passing_some (may_pass q) (λ s. place s vs) qs 1 n in
    omega arith
  where
    each : (i : ℕ) → 1 ≤ i → i < 1 + (place q vs - 1) → T (some (λ s. may_pass q s && eqb (place s vs) i) qs)
    each i z l =
        let m : i < length vs = omega (arith, place-le q vs) in
        let s = reader qs vs h i z m in
        let old : T (sees s.0 (get_or vs i no_version)) =
        subst (λ (k : ℕ). T (sees s.0 (get_or vs k no_version))) s.2 (place-fits s.0 vs (let e = s.2 in omega arith)) in
        some_mem (λ s. may_pass q s && eqb (place s vs) i) s.1
        (and_both (may_pass q s.0) (eqb (place s.0 vs) i) (passes q s.0 (get_or vs i no_version) old (place_above q vs i (omega arith)))
        (eq_make (place s.0 vs) i s.2))

module _ (S : Sizes) (t r : List ℕ) (g : GoodVersions S t r) where
  abbrev vs : List Version
  vs = versions_in S r

  -- in a good row, for any reader
  pub looked-good : (q : Reader) → suc (place q (versions_in S r)) ≤ 2 + later q (readers S t)
  looked-good q = looked-most (readers S t) vs q (Good→read S t r g)

  module _ (s : ℕ) (inside : s < S.slots) (reads : T (is_reader (txn t s))) where
    abbrev q : Reader
    q = reader_in t s

    -- a reader finds a version, that it may read, and may read none before it
    pub looked-chosen :
        (place q vs < length vs) × T (sees q (get_or vs (place q vs) no_version)) × ((k : ℕ) → k < length vs → T (sees q (get_or vs k no_version)) → place q vs ≤ k)
    looked-chosen = (found, place-fits q vs found, λ k l o. place-least q vs k l o)
      where
        found : place q vs < length vs
        found = place_exists q vs (let e = length-versions_in S r in let a = g.count_least in omega arith) (g.last s inside reads)
