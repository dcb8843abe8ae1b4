-- A row of versions as it is rewritten: with a new version in front, with one less, and with less hidden.
use Rattle.std.specs.Prelude.{ℕ, suc, ◌+◌, ◌-◌, ◌*◌, ◌≤◌, ◌<◌, ◌≡◌, Bool, ◌||◌, not, cond, List, ◌∷◌, ◌++◌, get_or, length, take, drop, T, eqb, ltb}
use Rattle.names.specs.Sizes.{base}
use Rattle.rules.specs.Tables.{version_row, masks_at, up_to, outside}
use Rattle.rules.specs.Versions.{Version, versions_in, stamp_at, hidden_at, place, revealed}
use Rattle.choices.specs.Pairs.{count_in}
use Rattle.choices.specs.SoundRow.{SoundRow}
use Rattle.starts.specs.Ordered.{between}

-- a whole row, sound, and zero behind its versions: good rows are such
pub record TidyRow (r : List ℕ) : Type 0 where
  pub size : length r ≡ version_row base
  pub sound : SoundRow r
  pub unused : (k : ℕ) → 2 * count_in r < k → k < masks_at base → get_or r k 0 ≡ 0
  pub unhidden : (k : ℕ) → count_in r ≤ k → get_or r (masks_at base + k) 0 ≡ 0

-- v comes in front of vs, below being one more than the greatest start below its stamp: that start reads the first of vs, or v is hidden
-- from a relaxed query that reads it
unfoldable pub stays : ℕ → Version → List Version → Bool
stays below v vs = ltb (stamp_at vs 0) below || not (eqb (hidden_at vs 0) v.hidden)

-- so the first of vs stays behind v, or v takes its place
abbrev pub fronted : ℕ → Version → List Version → List Version
fronted below v vs = v ∷ cond (stays below v vs) vs (drop 1 vs)

-- vs without the version at place k
abbrev pub without : ℕ → List Version → List Version
without k vs = take k vs ++ drop (suc k) vs

-- one who reads by the start s leaves; of those who stay, below is one more than the greatest start below s, next the least of
-- the others: the version that was read is the newest, or one of the two reads it, or a relaxed query does, from which the one before
-- it is hidden
unfoldable pub needed : ℕ → ℕ → ℕ → List Version → Bool
needed s below next vs =
    let k = place (up_to s) vs in
    eqb k 0 || (ltb (stamp_at vs k) below || (ltb next (stamp_at vs (k - 1)) || not (eqb (hidden_at vs (k - 1)) (hidden_at vs k))))

-- what is left of vs
abbrev pub left_by : ℕ → ℕ → ℕ → List Version → List Version
left_by s below next vs = cond (needed s below next vs) vs (without (place (up_to s) vs) vs)

-- the version at place k of vs is the newest, or has a reader, q being the starts of the readers in order
unfoldable pub read_there : List ℕ → List Version → ℕ → Bool
read_there q vs k = eqb k 0 || (between q (stamp_at vs k) (stamp_at vs (k - 1)) || not (eqb (hidden_at vs (k - 1)) (hidden_at vs k)))

-- the relaxed query in slot s leaves, and q are the starts in order: what is left of vs
abbrev pub shown_to : ℕ → List ℕ → List Version → List Version
shown_to s q vs =
    cond (read_there q (revealed s vs) (place (outside s) vs)) (revealed s vs) (without (place (outside s) vs) (revealed s vs))

-- a row that has room for a version in front
pub record Frontable (r : List ℕ) (below stamp value hidden : ℕ) : Type 0 where
  pub tidy : TidyRow r
  pub room : T (stays below (record { stamp = stamp; value = value; hidden = hidden }) (versions_in base r)) → count_in r < base.places
