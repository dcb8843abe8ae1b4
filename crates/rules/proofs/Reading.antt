-- Whom a version has for readers: those who may read it, and not the one before it.
use Prim.Native.Nat.{ℕ, suc, ◌<◌, ◌≤◌}
use mathlib.Core.Path.{◌≡◌, sym, ap, subst, fun_ext}
use mathlib.Core.Logic.{◌⊎◌, inl, inr}
use mathlib.Core.Bool.{Bool, ◌&&◌, not}
use mathlib.Core.List.{List}
use native.Mathlib.Omega.{arith}
use native.Mathlib.Nat.{eq-or-lt_of_le}
use lib.ListN.{length, get_or}
use lib.Dec.{T, eqb, eqb→eq}
use Rattle.rules.specs.Words.{some}
use Rattle.rules.specs.Tables.{Reader}
use Rattle.rules.specs.Versions.{Version, no_version, sees, place, read_by_some}
use Rattle.rules.proofs.Tests.{iff_eq, and_left, and_right, and_both, not_make, not_use, eq_make}
use Rattle.rules.proofs.Choice.{place_above, place-fits, place-least}

-- some reader may read the one version and not the other
unfoldable pub between : List Reader → Version → Version → Bool
between qs older newer = some (λ q. sees q older && not (sees q newer)) qs

-- the version at a place
abbrev at : List Version → ℕ → Version
at vs k = get_or vs k no_version

-- a reader reads the version at place j if it may, and may read none before it
pub place_is :
    (q : Reader) (vs : List Version) (j : ℕ) → j < length vs → T (sees q (get_or vs j no_version))
    → ((i : ℕ) → i < j → T (sees q (get_or vs i no_version)) → ⊥) → place q vs ≡ j
place_is q vs j h o f = go (eq-or-lt_of_le (place-least q vs j h o))
  where
    go : (place q vs ≡ j) ⊎ (place q vs < j) → place q vs ≡ j
    go (inl e) = e
    go (inr l) = absurd (f (place q vs) l (place-fits q vs (omega arith)))

-- the newest is read by whoever may read it
pub reads-newest : (q : Reader) (vs : List Version) → 0 < length vs → T (sees q (get_or vs 0 no_version)) → place q vs ≡ 0
reads-newest q vs h o = place_is q vs 0 h o (λ i l. absurd (omega arith))

pub read-newest :
    (qs : List Reader) (vs : List Version) → 0 < length vs → read_by_some qs vs 0 ≡ some (λ q. sees q (get_or vs 0 no_version)) qs
unfolding read_by_some
read-newest qs vs h = ap (λ (p : Reader → Bool). some p qs) (fun_ext λ q. iff_eq (eqb (place q vs) 0) (sees q (at vs 0)) (to q) (from q))
  where
    to : (q : Reader) → T (eqb (place q vs) 0) → T (sees q (at vs 0))
    to q t = let e = eqb→eq (place q vs) 0 t in subst (λ (k : ℕ). T (sees q (at vs k))) e (place-fits q vs (omega arith))

    from : (q : Reader) → T (sees q (at vs 0)) → T (eqb (place q vs) 0)
    from q t = eq_make (place q vs) 0 (reads-newest q vs h t)

-- another by those who may not read the one before it, where who may read an earlier one may read that one
module _
    (vs : List Version) (j : ℕ) (inside : suc j < length vs)
    (closed : (q : Reader) (i : ℕ) → i < j → T (sees q (get_or vs i no_version)) → T (sees q (get_or vs j no_version)))
  where
    pub reads-between :
        (q : Reader) → T (sees q (get_or vs (suc j) no_version)) → (T (sees q (get_or vs j no_version)) → ⊥) → place q vs ≡ suc j
    reads-between q a b = place_is q vs (suc j) inside a (λ i l. newer i (eq-or-lt_of_le (let z : i ≤ j = omega arith in z)))
      where
        newer : (i : ℕ) → (i ≡ j) ⊎ (i < j) → T (sees q (at vs i)) → ⊥
        newer i (inl e) = subst (λ (n : ℕ). T (sees q (at vs n)) → ⊥) (sym e) b
        newer i (inr l) = λ z. b (closed q i l z)

    pub between-reads :
        (q : Reader) → place q vs ≡ suc j → T (sees q (get_or vs (suc j) no_version)) × (T (sees q (get_or vs j no_version)) → ⊥)
    between-reads q e =
        (subst (λ (k : ℕ). T (sees q (at vs k))) e (place-fits q vs (omega arith)), place_above q vs j (omega arith))

    pub read_between : (qs : List Reader) → read_by_some qs vs (suc j) ≡ between qs (get_or vs (suc j) no_version) (get_or vs j no_version)
    unfolding read_by_some between
    read_between qs =
        ap (λ (p : Reader → Bool). some p qs)
        (fun_ext λ q. iff_eq (eqb (place q vs) (suc j)) (sees q (at vs (suc j)) && not (sees q (at vs j))) (to q) (from q))
      where
        to : (q : Reader) → T (eqb (place q vs) (suc j)) → T (sees q (at vs (suc j)) && not (sees q (at vs j)))
        to q t =
            let b = between-reads q (eqb→eq (place q vs) (suc j) t) in
            and_both (sees q (at vs (suc j))) _ b.0 (not_make (sees q (at vs j)) b.1)

        from : (q : Reader) → T (sees q (at vs (suc j)) && not (sees q (at vs j))) → T (eqb (place q vs) (suc j))
        from q t =
            eq_make (place q vs) (suc j)
            (reads-between q (and_left (sees q (at vs (suc j))) _ t) (not_use (sees q (at vs j)) (and_right (sees q (at vs (suc j))) _ t)))
