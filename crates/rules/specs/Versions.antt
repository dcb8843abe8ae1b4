-- The versions in a row: which one a reader reads, and which are kept.
use Rattle.std.specs.Prelude.{ℕ, zero, suc, ◌-◌, ◌*◌, Bool, ◌||◌, not, cond, List, [], ◌∷◌, ◌++◌, get_or, drop, length, replicate, eqb, leb}
use Rattle.names.specs.declared.Sizes.{Sizes}
use Rattle.rules.specs.Words.{some, row, map_rows, bit, without_bit}
use Rattle.rules.specs.Tables.{version_row, masks_at, Reader, up_to, outside}

-- a stamp, a value and, since request E11, the relaxed queries from which it is hidden, bit q for slot q: its creator is in their sets
pub record Version : Type 0 where
  pub stamp : ℕ
  pub value : ℕ
  pub hidden : ℕ

abbrev pub no_version : Version
no_version = record { stamp = 0; value = 0; hidden = 0 }

-- ---- "a count, then 16 pairs of stamp and value, newest first", 32 since request E5; request E11: then a word for each pair. n versions,
-- the words of the pairs being l and the others m
unfoldable pub versions_from : ℕ → List ℕ → List ℕ → List Version
versions_from zero l m = []
versions_from (suc n) l m = record { stamp = get_or l 0 0; value = get_or l 1 0; hidden = get_or m 0 0 } ∷ versions_from n (drop 2 l) (drop 1 m)

-- the versions that the words of a row hold
unfoldable pub versions_in : Sizes → List ℕ → List Version
versions_in S r = versions_from (get_or r 0 0) (drop 1 r) (drop (masks_at S) r)

-- the versions of item x
unfoldable pub versions_of : Sizes → List ℕ → ℕ → List Version
versions_of S v x = versions_in S (row (version_row S) x v)

unfoldable pub pair_words : List Version → List ℕ
pair_words [] = []
pair_words (v ∷ vs) = v.stamp ∷ v.value ∷ pair_words vs

unfoldable pub mask_words : List Version → List ℕ
mask_words [] = []
mask_words (v ∷ vs) = v.hidden ∷ mask_words vs

-- the words of a row that holds these versions: "unused pairs zero"
unfoldable pub row_of : Sizes → List Version → List ℕ
row_of S vs =
    let left = S.places - length vs in
    length vs ∷ (pair_words vs ++ (replicate (2 * left) 0 ++ (mask_words vs ++ replicate left 0)))

-- the stamp at a place, from 0, and from whom the version there is hidden
unfoldable pub stamp_at : List Version → ℕ → ℕ
stamp_at vs k = (get_or vs k no_version).stamp

unfoldable pub hidden_at : List Version → ℕ → ℕ
hidden_at vs k = (get_or vs k no_version).hidden

-- the newest value of item x, "newest first", and from whom the newest version is hidden
unfoldable pub newest : Sizes → List ℕ → ℕ → ℕ
newest S v x = (get_or (versions_of S v x) 0 no_version).value

unfoldable pub hidden_now : Sizes → List ℕ → ℕ → ℕ
hidden_now S v x = hidden_at (versions_of S v x) 0

-- ---- who may read a version: "whose stamp is at most its start"; request E11: "whose creator is not in the set"
unfoldable pub sees : Reader → Version → Bool
sees (up_to q) v = leb v.stamp q
sees (outside s) v = not (bit v.hidden s)

-- "the newest version" of these: its place from 0, and the version
unfoldable pub place : Reader → List Version → ℕ
place q [] = 0
place q (v ∷ vs) = let older = suc (place q vs) in cond (sees q v) 0 older

unfoldable pub choice : Reader → List Version → Version
choice q vs = get_or vs (place q vs) no_version

-- one of the readers qs reads the version at place k
unfoldable pub read_by_some : List Reader → List Version → ℕ → Bool
read_by_some qs vs k = some (λ q. eqb (place q vs) k) qs

-- ---- "every row keeps its newest version and those that some live query reads, and no others"
unfoldable pub kept_from : List Reader → List Version → ℕ → List Version → List Version
kept_from qs vs k [] = []
kept_from qs vs k (v ∷ rest) =
    let older = kept_from qs vs (suc k) rest in
    cond (eqb k 0 || read_by_some qs vs k) (v ∷ older) older

unfoldable pub kept : List Reader → List Version → List Version
kept qs vs = kept_from qs vs 0 vs

-- every row of the table with other versions, those kept that qs asks for
unfoldable pub rewritten : Sizes → List Reader → (ℕ → List Version → List Version) → List ℕ → List ℕ
rewritten S qs f v = map_rows S.items (version_row S) (λ x r. row_of S (kept qs (f x (versions_in S r)))) 0 v

-- ---- request E11: the set of the relaxed query in slot s is no more, so nothing is hidden from it
unfoldable pub revealed : ℕ → List Version → List Version
revealed s [] = []
revealed s (v ∷ vs) = record { stamp = v.stamp; value = v.value; hidden = without_bit v.hidden s } ∷ revealed s vs
