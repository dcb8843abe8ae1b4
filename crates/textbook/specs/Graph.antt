-- The multiversion serialization graph of source document 000, section 3.1, over marks.
use Rattle.std.specs.Prelude.{ℕ, ◌*◌, Bool, false, ◌&&◌, ◌||◌, not, cond, List, [], ◌∷◌, ◌++◌, eqb, ltb}
use Rattle.rules.specs.Words.{some}
use Rattle.history.specs.Happened.{Access, got, put, Happening, update_began, query_began, relaxed_began, accessed, update_committed, empty_committed, settled_under, only_ended, nothing}
use Rattle.history.specs.Serial.{Entry, granted_to}
use Rattle.textbook.specs.Marks.{Source, none, version, Mark, whats}
use Rattle.textbook.specs.Nodes.{nodes}

-- ---- "each operation r_i[x] is mapped into r_i[x_k], for some k": the version of the item with this stamp
pub record Got : Type 0 where
  pub item : ℕ
  pub stamp : ℕ

unfoldable pub got_from : ℕ → Source → List Got
got_from x none = []
got_from x (version d) = record { item = x; stamp = d } ∷ []

-- what the transaction n read at this mark
unfoldable pub read_at : ℕ → Happening → Source → List Got
read_at n (accessed m (got x v)) d = let rest = got_from x d in cond (eqb m n) rest []
read_at n (accessed m (put x v)) d = []
read_at n (update_began m) d = []
read_at n (query_began m) d = []
read_at n (relaxed_began m) d = []
read_at n (update_committed m c) d = []
read_at n (empty_committed m c) d = []
read_at n (settled_under m c) d = []
read_at n (only_ended m) d = []
read_at n nothing d = []

-- the versions that n was granted reads of
unfoldable pub reads_of : ℕ → List Mark → List Got
reads_of n [] = []
reads_of n (m ∷ ms) = read_at n m.what m.from ++ reads_of n ms

-- it was granted a write of the item x
unfoldable pub puts : ℕ → Access → Bool
puts x (got y v) = false
puts x (put y v) = eqb y x

unfoldable pub wrote : List Mark → ℕ → ℕ → Bool
wrote ms n x = some (puts x) (granted_to n (whats ms))

-- "x_i represents the version of x created by" the node i: it is the version that r is of
unfoldable pub is_of : List Mark → Entry → Got → Bool
is_of ms i r = wrote ms i.number r.item && eqb i.place (2 * r.stamp)

-- the node i has a version of that item, and the version that r is of comes before it; it comes before that
unfoldable pub writes_later : List Mark → Entry → Got → Bool
writes_later ms i r = wrote ms i.number r.item && ltb (2 * r.stamp) i.place

unfoldable pub writes_earlier : List Mark → Entry → Got → Bool
writes_earlier ms i r = wrote ms i.number r.item && ltb i.place (2 * r.stamp)

-- ---- the links
-- they join different transactions
unfoldable pub different : Entry → Entry → Bool
different e f = not (eqb e.number f.number)

-- "(i) .. T_j reads-x-from T_i"
unfoldable pub reads_from : List Mark → Entry → Entry → Bool
reads_from ms i j = some (is_of ms i) (reads_of j.number ms)

-- "(ii) for some x and T_k, T_i reads-x-from T_k and x_k << x_j". T_k may be nobody: the starting zero
unfoldable pub reads_before : List Mark → Entry → Entry → Bool
reads_before ms i j = some (writes_later ms j) (reads_of i.number ms)

-- "(iii) for some x and T_k, T_k reads-x-from T_j and x_i << x_j": T_k being one of the nodes ns, and neither of the two
unfoldable pub writes_before : List Entry → List Mark → Entry → Entry → Bool
writes_before ns ms i j =
    some
    (λ k. (different k i && different k j) && some (λ r. is_of ms j r && writes_earlier ms i r) (reads_of k.number ms)) ns

-- two nodes, of which ns are all, are linked
unfoldable pub linked : List Entry → List Mark → Entry → Entry → Bool
linked ns ms i j = different i j && (reads_from ms i j || (reads_before ms i j || writes_before ns ms i j))

-- so are the transactions with these numbers
unfoldable pub link_among : List Entry → List Mark → ℕ → ℕ → Bool
link_among ns ms m n =
    some (λ i. eqb i.number m && some (λ j. eqb j.number n && linked ns ms i j) ns) ns

unfoldable pub link : List Mark → ℕ → ℕ → Bool
link ms = link_among (nodes (whats ms)) ms
