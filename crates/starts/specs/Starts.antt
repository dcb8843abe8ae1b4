-- The starts of those who read by one, and all who read versions: these and the relaxed queries.
use Rattle.std.specs.Prelude.{ℕ, zero, suc, ◌≡◌, ◌⊎◌, Bool, ◌&&◌, not, cond, T, eqb, Option, Some, None}
use mathlib.Core.List.{List, [], ◌∷◌, Memᴰ}
use Rattle.names.specs.declared.Sizes.{Sizes}
use Rattle.rules.specs.Words.{bit}
use Rattle.rules.specs.Tables.{Txn, txn, live, an_update, a_relaxed, Reader, up_to, outside}

-- whoever reads versions and is no relaxed query reads by its start: on good tables these are the `by_start` of the rules, and on any they
-- are those for whom the rules' `readers` have a start
unfoldable pub reads_by_start : Txn → Bool
reads_by_start r = live r && (not (eqb r.kind an_update) && not (eqb r.kind a_relaxed))

-- the start of such a one
unfoldable pub start_of : Txn → Option ℕ
start_of r = cond (reads_by_start r) (Some r.start) None

-- their starts, in n slots from slot s on; in all slots
unfoldable pub starts_from : List ℕ → ℕ → ℕ → List ℕ
starts_from t s zero = []
starts_from t s (suc n) =
    let rest = starts_from t (suc s) n in
    cond (reads_by_start (txn t s)) ((txn t s).start ∷ rest) rest

unfoldable pub starts : Sizes → List ℕ → List ℕ
starts S t = starts_from t 0 S.slots

-- the readers qs are those with the starts us and the relaxed queries in the slots of the word m
pub record Split (qs : List Reader) (us : List ℕ) (m : ℕ) : Type 0 where
  pub start : (u : ℕ) → Memᴰ u us → Memᴰ (up_to u) qs
  pub relaxed : (s : ℕ) → T (bit m s) → Memᴰ (outside s) qs
  pub only :
      (q : Reader) → Memᴰ q qs
      → ((u : ℕ) × Memᴰ u us × (q ≡ up_to u)) ⊎ ((s : ℕ) × T (bit m s) × (q ≡ outside s))
