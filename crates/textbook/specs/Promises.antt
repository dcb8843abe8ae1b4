-- What is shown of the graph of every run.
use Rattle.std.specs.Prelude.{ℕ, ◌<◌, ◌≡◌, ◌⊎◌, T, eqb}
use mathlib.Core.List.{List, Memᴰ}
use Rattle.names.specs.declared.Sizes.{Sizes}
use Rattle.rules.specs.Words.{some}
use Rattle.rules.specs.Tables.{fresh}
use Rattle.rules.specs.Waits.{Walk}
use Rattle.rules.specs.Answers.{Call}
use Rattle.history.specs.Happened.{happenings}
use Rattle.history.specs.Serial.{Entry, numbers_of, Once}
use Rattle.textbook.specs.Marks.{Mark, marks, whats}
use Rattle.textbook.specs.Nodes.{nodes, committed_or_ended}
use Rattle.textbook.specs.Ending.{endings}
use Rattle.textbook.specs.Graph.{Got, reads_of, wrote, is_of, linked, link}
use Rattle.textbook.specs.Ordered.{in_order, printed, Rising, ahead}

-- ---- "Over any run from fresh tables": of the marks ms, whose nodes are ns
pub record Textbook (ns : List Entry) (ms : List Mark) : Type 0 where
  -- no transaction is two nodes
  pub once : Once (numbers_of ns)
  -- "for each object x, there is a total order on all transactions that write x": no two who wrote stand at one place, since they have
  -- different stamps
  pub total :
      (i j : Entry) (x y : ℕ) → Memᴰ i ns → Memᴰ j ns → T (wrote ms i.number x) → T (wrote ms j.number y)
      → i.place ≡ j.place → i.number ≡ j.number
  -- a version that a node read is the starting zero, or the version of another node, which is linked to it for that: no read is without its
  -- link
  pub sourced :
      (k : Entry) (r : Got) → Memᴰ k ns → Memᴰ r (reads_of k.number ms)
      → (r.stamp ≡ 0) ⊎ ((i : Entry) × Memᴰ i ns × T (is_of ms i r) × T (linked ns ms i k))
  -- each link leads from a smaller to a larger position
  pub forward : (i j : Entry) → Memᴰ i ns → Memᴰ j ns → T (linked ns ms i j) → i.place < j.place
  -- "show that it has no circle"
  pub no_circle : (n : ℕ) → Walk (link ms) n n → ⊥

abbrev pub TextbookRun : Sizes → List Call → Type 0
TextbookRun S cs = Textbook (nodes (whats (marks S cs))) (marks S cs)

-- what happened is what history tells of the calls and answers alone
abbrev pub Told : Sizes → List Call → Type 0
Told S cs = whats (marks S cs) ≡ happenings S cs

-- "committed updates and ended strict queries": these are the nodes, and nobody else
abbrev pub Exactly : Sizes → List Call → Type 0
Exactly S cs = (n : ℕ) → some (eqb n) (numbers_of (nodes (happenings S cs))) ≡ committed_or_ended n (happenings S cs)

-- the nodes are told by the tables before each call too
abbrev pub ToldByTables : Sizes → List Call → Type 0
ToldByTables S cs = nodes (happenings S cs) ≡ endings S cs (fresh S)

-- ---- the printed order
pub record Respects (S : Sizes) (cs : List Call) : Type 0 where
  -- each node once, and nobody else
  pub once : Once (printed (happenings S cs))
  pub all : (n : ℕ) → some (eqb n) (printed (happenings S cs)) ≡ some (eqb n) (numbers_of (nodes (happenings S cs)))
  -- each at the position that it has as a node
  pub placed : (e : Entry) → Memᴰ e (nodes (happenings S cs)) → Memᴰ e (in_order (happenings S cs))
  -- "by stamp, queries and E7's empty commits after the update of their stamp, then by number"
  pub rising : Rising (in_order (happenings S cs))
  -- "an order that respects it"
  pub respects : (m n : ℕ) → T (link (marks S cs) m n) → T (ahead m n (printed (happenings S cs)))

-- ---- all of it
pub record Shown (S : Sizes) (cs : List Call) : Type 0 where
  pub told : Told S cs
  pub exactly : Exactly S cs
  pub by_tables : ToldByTables S cs
  pub textbook : TextbookRun S cs
  pub respects : Respects S cs
