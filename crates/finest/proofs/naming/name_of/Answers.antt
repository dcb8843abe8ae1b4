-- `finest::naming::name_of` meets its contract.
use Prim.Native.Nat.{ℕ, ◌*◌}
use mathlib.Core.Path.{sym, ap, ap₂, ◌∙◌}
use mathlib.Core.List.{List}
use native.Mathlib.Omega.{arith}
use lib.ListN.{length, get_or}
use lib.Bits.{bit_and}
use Rattle.graph.specs.Sets.{lowest}
use Rattle.graph.specs.Near.{joined}
use Rattle.finest.specs.Rows.{operations_in}
use Rattle.finest.proofs.InRows.{length-operations}
use Rattle.finest.proofs.Linking.{links-length}
use Rattle.finest.proofs.Writing.{piece-words}
use Rattle.finest.proofs.naming.name_of.Goals as goal

pub slice_bounds-joined-end : goal.slice_bounds-joined-end
slice_bounds-joined-end c =
    let a = c.args in
    let words = a.words.now in
    sym (ap length c.links_for-links.ensures ∙ links-length (operations_in words) (get_or words (a.i * 4) 0) ∙ length-operations words)

pub joined-reached-requires : goal.joined-reached-requires
joined-reached-requires c =
    let s = c in
    let words = s.args.words.now in
    let e = ap length c.links_for-links.ensures ∙ links-length (operations_in words) (get_or words (s.args.i * 4) 0) ∙ length-operations words in
    let m = s.requires.1 in
    let l = s.requires.0 in
    (omega arith, omega arith)

pub returns : goal.returns
returns c =
    let s = c in
    let words = s.args.words.now in
    let i = s.args.i in
    let reached =
    c.joined-reached.ensures
    ∙ ap₂ (λ (w : List ℕ) (room : ℕ). joined w room i) c.links_for-links.ensures c.all.ensures in
    c.lowest.ensures ∙ ap lowest (ap₂ bit_and c.program_of.ensures reached ∙ piece-words words i s.requires.0)
