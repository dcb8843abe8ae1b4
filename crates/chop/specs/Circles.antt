-- Request E9: "a circle of distinct pieces has at least one link of each kind".
use Rattle.std.specs.Prelude.{ℕ, ◌+◌, ◌%◌, ◌≤◌, ◌<◌, ◌≡◌, List, get_or, length, T}
use Rattle.chop.specs.Pieces.{Piece, siblings, conflict, joins}

-- the piece at place i of a circle, and the one after it: after the last comes the first
abbrev pub at : List ℕ → ℕ → ℕ
at l i = get_or l i 0

abbrev pub after : List ℕ → ℕ → ℕ
after l i = get_or l ((i + 1) % length l) 0

-- a circle of distinct pieces with at least one link of each kind; two pieces have one link only, so it has three or more
pub record Circle (ps : List Piece) (l : List ℕ) : Type 0 where
  pub long : 3 ≤ length l
  pub known : (i : ℕ) → i < length l → at l i < length ps
  pub distinct : (i j : ℕ) → i < length l → j < length l → at l i ≡ at l j → i ≡ j
  pub joined : (i : ℕ) → i < length l → T (joins ps (at l i) (after l i))
  pub sibling : (i : ℕ) × (i < length l) × T (siblings ps (at l i) (after l i))
  pub conflicting : (i : ℕ) × (i < length l) × T (conflict ps (at l i) (after l i))
