-- Links among vertices, as one set of vertices for each vertex, and ways along them that stay in a room, a set of vertices.
use Rattle.std.specs.Prelude.{ℕ, zero, suc, Bool, List, get_or, T}
use Rattle.rules.specs.Words.{bit}

-- vertex a is linked to vertex b
unfoldable pub linked : List ℕ → ℕ → ℕ → Bool
linked w a b = bit (get_or w a 0) b

-- a way of k links from one vertex to another, all of whose vertices are in the room
pub data Way (w : List ℕ) (room : ℕ) : ℕ → ℕ → ℕ → Type 0 where
  here : {a : ℕ} → T (bit room a) → Way w room zero a a
  link : {k a b c : ℕ} → T (bit room a) → T (linked w a b) → Way w room k b c → Way w room (suc k) a c
