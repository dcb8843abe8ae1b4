-- Who becomes a node by a call, told by the tables before it and by its answer: what a program that makes the calls again has at hand.
use Rattle.std.specs.Prelude.{ℕ, cond, List, [], ◌∷◌, ◌++◌, eqb}
use Rattle.names.specs.declared.Sizes.{Sizes}
use Rattle.names.specs.declared.Answer.{Answer}
use Rattle.rules.specs.Tables.{Tables, clock, Txn, txn, slot_of, an_update, a_query, a_relaxed}
use Rattle.rules.specs.Answers.{Call, BeginUpdate, BeginQuery, Read, Write, Commit, Abort, Settle, BeginRelaxed, granted}
use Rattle.rules.specs.Step.{step}
use Rattle.history.specs.Serial.{Entry}
use Rattle.textbook.specs.Nodes.{under_stamp, after_stamp}

-- a query, by the start in its row o; a relaxed one is no node
unfoldable pub of_query : ℕ → Txn → List Entry
of_query n o = cond (eqb o.kind a_query) (after_stamp n o.start ∷ []) []

-- an update, which was answered d at the clock c. Request E7: one that still wrote and was answered the clock itself took no stamp
unfoldable pub of_update : ℕ → Txn → ℕ → ℕ → List Entry
of_update n o c d = cond (eqb o.kind an_update) (cond (eqb d c) (after_stamp n d ∷ []) (under_stamp n d ∷ [])) (under_stamp n d ∷ [])

-- the transaction n in the row o commits
unfoldable pub of_commit : ℕ → Txn → ℕ → ℕ → List Entry
of_commit n o c d = cond (eqb o.kind a_query) (of_query n o) (cond (eqb o.kind a_relaxed) [] (of_update n o c d))

-- at the call on the tables G, with the answer r
unfoldable pub ending : Sizes → Tables → Call → Answer → List Entry
ending S G (Commit n) r = cond (eqb r.code granted) (of_commit n (txn G.txns (slot_of S G.txns n)) (clock G.txns) r.number) []
ending S G (Abort n) r = cond (eqb r.code granted) (of_query n (txn G.txns (slot_of S G.txns n))) []
ending S G BeginUpdate r = []
ending S G BeginQuery r = []
ending S G BeginRelaxed r = []
ending S G (Read n x) r = []
ending S G (Write n x v) r = []
ending S G (Settle n) r = []

-- at the calls cs made from the tables G
unfoldable pub endings : Sizes → List Call → Tables → List Entry
endings S [] G = []
endings S (c ∷ cs) G = let o = step S c G in ending S G c o.answer ++ endings S cs o.after
