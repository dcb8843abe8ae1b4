-- "committed updates and ended strict queries": the nodes, told by what happened, in the order in which they ended.
use Rattle.std.specs.Prelude.{ℕ, ◌+◌, ◌*◌, Bool, false, ◌&&◌, ◌||◌, cond, List, [], ◌∷◌, ◌++◌, eqb}
use Rattle.rules.specs.Words.{some}
use Rattle.history.specs.Happened.{Happening, update_began, query_began, relaxed_began, accessed, update_committed, empty_committed, settled_under, only_ended, nothing, clock_after}
use Rattle.history.specs.Serial.{Entry}
use Rattle.history.specs.Undisturbed.{commit_in}
use Rattle.history.specs.Relaxed.{ends_it}

-- a node, or a query that may become one, with its position: "by stamp, queries and E7's empty commits after the update of their stamp".
-- So an update that took a stamp stands at twice that stamp; a query stands one behind twice its start, and an empty commit one behind twice
-- the clock that it was answered
abbrev pub under_stamp : ℕ → ℕ → Entry
under_stamp n d = record { place = 2 * d; number = n }

abbrev pub after_stamp : ℕ → ℕ → Entry
after_stamp n d = record { place = 2 * d + 1; number = n }

-- the strict queries that began so far, qs before this, c being the greatest stamp given so far: "A query's start is the clock."
unfoldable pub queries_with : ℕ → Happening → List Entry → List Entry
queries_with c (query_began n) qs = after_stamp n c ∷ qs
queries_with c (update_began n) qs = qs
queries_with c (relaxed_began n) qs = qs
queries_with c (accessed n a) qs = qs
queries_with c (update_committed n d) qs = qs
queries_with c (empty_committed n d) qs = qs
queries_with c (settled_under n d) qs = qs
queries_with c (only_ended n) qs = qs
queries_with c nothing qs = qs

-- those that bear the number n
unfoldable pub bearing : ℕ → List Entry → List Entry
bearing n [] = []
bearing n (e ∷ es) = let rest = bearing n es in cond (eqb e.number n) (e ∷ rest) rest

-- who becomes a node by this happening, qs being the strict queries that began. A query ends by commit or by abort alike; an aborted update and
-- a relaxed query, which end so too, are not among qs
unfoldable pub node_of : List Entry → Happening → List Entry
node_of qs (update_committed n d) = under_stamp n d ∷ []
node_of qs (empty_committed n d) = after_stamp n d ∷ []
node_of qs (only_ended n) = bearing n qs
node_of qs (update_began n) = []
node_of qs (query_began n) = []
node_of qs (relaxed_began n) = []
node_of qs (accessed n a) = []
node_of qs (settled_under n d) = []
node_of qs nothing = []

-- c is the greatest stamp given so far, and qs are the strict queries that began so far
unfoldable pub nodes_from : ℕ → List Entry → List Happening → List Entry
nodes_from c qs [] = []
nodes_from c qs (h ∷ hs) = node_of qs h ++ nodes_from (clock_after c h) (queries_with c h qs) hs

unfoldable pub nodes : List Happening → List Entry
nodes hs = nodes_from 0 [] hs

-- ---- the same in one sentence: the transaction n committed as an update, or began as a strict query and ended
unfoldable pub asks : ℕ → Happening → Bool
asks n (query_began m) = eqb m n
asks n (update_began m) = false
asks n (relaxed_began m) = false
asks n (accessed m a) = false
asks n (update_committed m d) = false
asks n (empty_committed m d) = false
asks n (settled_under m d) = false
asks n (only_ended m) = false
asks n nothing = false

unfoldable pub committed_or_ended : ℕ → List Happening → Bool
committed_or_ended n hs = commit_in n hs || (some (asks n) hs && some (ends_it n) hs)
