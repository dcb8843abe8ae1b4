-- Which vertices are near a goal, and the shortest way to it that is chosen: computed with sets of vertices.
use Rattle.std.specs.Prelude.{ℕ, zero, suc, ◌^◌, ◌&&◌, ◌||◌, List, [], ◌∷◌, get_or, length}
use Rattle.std.specs.Int.Bits.{bit_and}
use Rattle.rules.specs.Words.{bit, first_from}
use Rattle.graph.specs.Sets.{those, meets, lowest}

-- the vertices of m, and those of the room that are linked to one of m
unfoldable pub grown : List ℕ → ℕ → ℕ → ℕ
grown w room m = those (length w) (λ a. bit m a || (bit room a && meets (get_or w a 0) m))

-- the vertices from which a way of at most k links leads to the goal, within the room
unfoldable pub near : List ℕ → ℕ → ℕ → ℕ → ℕ
near w room goal zero = 2 ^ goal
near w room goal (suc k) = grown w room (near w room goal k)

-- the vertices from which any way leads there: as many links as there are vertices are enough
unfoldable pub joined : List ℕ → ℕ → ℕ → ℕ
joined w room goal = near w room goal (length w)

-- how many links the shortest way from a to the goal has
unfoldable pub distance : List ℕ → ℕ → ℕ → ℕ → ℕ
distance w room goal a = first_from (λ k. bit (near w room goal k) a) 0 (length w)

-- the chosen way of k links from a: each next vertex is the lowest linked one that is one link nearer to the goal
unfoldable pub way_from : List ℕ → ℕ → ℕ → ℕ → ℕ → List ℕ
way_from w room goal zero a = a ∷ []
way_from w room goal (suc k) a = a ∷ way_from w room goal k (lowest (bit_and (get_or w a 0) (near w room goal k)))

-- the chosen shortest way from a to the goal
unfoldable pub path : List ℕ → ℕ → ℕ → ℕ → List ℕ
path w room goal a = way_from w room goal (distance w room goal a) a
