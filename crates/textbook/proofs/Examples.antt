-- The order of nodes that ended in another: by stamp, behind the update of the stamp, then by number.
use mathlib.Core.List.{List, [], ◌∷◌}
use mathlib.Core.Path.{◌≡◌, refl}
use Rattle.history.specs.Happened.{Happening, update_began, query_began, relaxed_began, update_committed, empty_committed, settled_under, only_ended, clock_after}
use Rattle.history.specs.Serial.{numbers_of}
use Rattle.textbook.specs.Nodes.{queries_with, bearing, node_of, nodes_from, nodes}
use Rattle.textbook.specs.Ordered.{before, put_in, put_all, in_order, printed}

-- query 2 starts at 0; 3 settles under stamp 1; query 4 starts there, and so do 5 and 6; update 1 commits under stamp 2; the empty commit 7 is
-- answered 2; update 8 aborts, and relaxed query 9 ends
ended : List Happening
ended =
    update_began 1 ∷ query_began 2 ∷ update_began 3 ∷ settled_under 3 1 ∷ query_began 4 ∷ query_began 5 ∷ query_began 6 ∷ update_committed 1 2 ∷ update_began 7
    ∷ update_began 8 ∷ relaxed_began 9 ∷ empty_committed 7 2 ∷ only_ended 8 ∷ only_ended 6 ∷ only_ended 9 ∷ only_ended 4 ∷ update_committed 3 1 ∷ only_ended 2 ∷ []

in_time : numbers_of (nodes ended) ≡ 1 ∷ 7 ∷ 6 ∷ 4 ∷ 3 ∷ 2 ∷ []
unfolding ended nodes nodes_from node_of bearing queries_with clock_after numbers_of
in_time = refl

in_order_lem : printed ended ≡ 2 ∷ 3 ∷ 4 ∷ 6 ∷ 1 ∷ 7 ∷ []
unfolding ended printed in_order put_all put_in before nodes nodes_from node_of bearing queries_with clock_after numbers_of
in_order_lem = refl
