-- Request E13, "The graph of the textbooks": "build it from committed updates and ended strict queries, with reads-from links and
-- version-order links (the starting zeros are each item's first version), and show that it has no circle."
--
-- How it is said here.
-- * A run is told by marks (Marks): what happened at each call, and for a granted read which version the rules chose. A link goes by that
--   version and by no value: two versions may hold the same number.
-- * Nodes (Nodes) are committed updates, past their writing or not, also those that wrote nothing (request E7), and strict queries that
--   ended, by commit or by abort. Who lives, an aborted update and a relaxed query are none. A node is told when it ends, by the calls and
--   answers so far alone.
-- * The versions of an item x: the starting zero, which has the stamp 0 and no node, and one for each node that was granted a write of x,
--   under the node's stamp. Several writes of x by one node make one version. The order of versions is that of stamps.
-- * A read of the own working value is of no version, so it makes no link. What a node reads before it writes the item itself is a read like
--   any other, and so is what one past its writing reads by its stamp.
-- * Links (Graph), after source document 000, section 3.1: for a read of the version x_j by T_k, T_j -> T_k; for every further writer T_i of
--   x, T_i -> T_j if x_i comes before x_j, else T_k -> T_i. They join different transactions only: taken literally, an update that reads the
--   starting zero of x and then writes x would be linked to itself. A read of the starting zero makes a link of the last kind alone.
-- * A node's position is history's place: twice its stamp for an update that took one, twice its start, or the clock that it was answered,
--   and one more for a query and for a commit without a stamp. The stamp alone would not do: a query may read from the update whose stamp is
--   its start.
-- * The printed order (Ordered) is by position, then by number.
pub mod Marks
pub mod Nodes
pub mod Ending
pub mod Graph
pub mod Ordered
pub mod Promises
