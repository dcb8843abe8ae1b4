-- A row of versions as the code tests it: by its words, against the starts in order and the slots of relaxed queries.
use Rattle.std.specs.Prelude.{ℕ, ◌+◌, ◌-◌, ◌*◌, Bool, ◌&&◌, ◌||◌, not, cond, List, get_or, eqb, leb, ltb}
use Rattle.std.specs.Int.Bits.{bit_or}
use Rattle.names.specs.Sizes.{base}
use Rattle.names.specs.Layout.{version_stamp_at, version_pair}
use Rattle.rules.specs.Words.{every_below, row, contains}
use Rattle.rules.specs.Tables.{version_row, masks_at}
use Rattle.choices.specs.Pairs.{count_in, stamp_in, hidden_in}
use Rattle.words.specs.Zeros.{zero_words}
use Rattle.starts.specs.Ordered.{between}

-- the words of a row's pairs
abbrev pub pairs_wide : ℕ
pairs_wide = version_pair * base.places

-- the stamp of the version before place m
abbrev pub place_before : ℕ → ℕ
place_before m = m * version_pair + version_stamp_at - version_pair

abbrev pub stamp_before : List ℕ → ℕ → ℕ
stamp_before r m = get_or r (place_before m) 0

-- the version at place j + 1 of the row r is read by one of the starts q
unfoldable pub read_at : List ℕ → List ℕ → ℕ → Bool
read_at q r j = between q (stamp_in r (j + 1)) (stamp_in r j)

-- the last of m versions is old enough, and each but the newest is read
unfoldable pub read_in : List ℕ → List ℕ → ℕ → Bool
read_in q r m = leb (stamp_before r m) (get_or q 0 0) && every_below (m - 1) (read_at q r)

-- ---- request E11: where versions are hidden from relaxed queries
-- a version and the one before it: their stamps, from whom they are hidden, and whether a start reads the older one
abbrev pub step_ok : ℕ → ℕ → ℕ → ℕ → Bool → Bool
step_ok older newer hidden before read = ltb older newer && (eqb (bit_or before hidden) before && (read || not (eqb before hidden)))

-- the version at place j + 1, and the one before it
unfoldable pub step_at : List ℕ → List ℕ → ℕ → Bool
step_at q r j =
    step_ok (stamp_in r (j + 1)) (stamp_in r j) (hidden_in r (j + 1)) (hidden_in r j) (between q (stamp_in r (j + 1)) (stamp_in r j))

-- the last of m versions is old enough, and hidden from nobody; each but the newest is older than the one before it, hidden from no more, and
-- read
unfoldable pub walk_in : List ℕ → List ℕ → ℕ → Bool
walk_in q r m = leb (stamp_before r m) (get_or q 0 0) && (eqb (hidden_in r (m - 1)) 0 && every_below (m - 1) (step_at q r))

-- and only from relaxed queries, whose slots are w; behind the m versions nothing is hidden
unfoldable pub walk_ok : List ℕ → ℕ → List ℕ → ℕ → Bool
walk_ok q w r m = contains w (hidden_in r 0) && (zero_words r (masks_at base + m) (base.places - m) && walk_in q r m)

-- the pairs behind m versions are zero
unfoldable pub unused_ok : List ℕ → ℕ → Bool
unused_ok r m = zero_words r (version_stamp_at + m * version_pair) (pairs_wide - m * version_pair)

-- a row with another count than 1, but for its newest stamp
unfoldable pub many_ok : List ℕ → List ℕ → ℕ → Bool
many_ok r q w =
    not (eqb (count_in r) 0)
    && (not (ltb base.places (count_in r)) && (walk_ok q w r (count_in r) && unused_ok r (count_in r)))

-- a row with one version: all words behind it are zero
unfoldable pub one_ok : ℕ → List ℕ → List ℕ → Bool
one_ok clock q r =
    zero_words r (version_stamp_at + version_pair) (version_row base - (version_stamp_at + version_pair))
    && leb (stamp_in r 0) clock
    && leb (stamp_in r 0) (get_or q 0 0)

unfoldable pub row_ok : ℕ → List ℕ → ℕ → List ℕ → Bool
row_ok clock q w r = cond (eqb (count_in r) 1) (one_ok clock q r) (leb (stamp_in r 0) clock && many_ok r q w)

unfoldable pub rows_ok : ℕ → List ℕ → ℕ → List ℕ → Bool
rows_ok clock q w v = every_below base.items (λ i. row_ok clock q w (row (version_row base) i v))
