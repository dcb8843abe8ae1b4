-- The name and the row are put behind the others, where there is room.
use borrow.Author.Rules.{rules}
use mathlib.Core.Path.{◌≡◌}
use native.Mathlib.Omega.{arith}
use lib.ListN.{length}
use Rattle.fining.proofs.Rows.{add_full, add-room}
use Rattle.fining.proofs.operations.Operations.add.Goals as goal

pub returns-then-at-ge-MOST : goal.returns-then-at-ge-MOST
returns-then-at-ge-MOST c = λ os o k q named. add_full os o c.args.self.now k c.args.noted q named c.if-at-ge-MOST.true

pub put_text-self-requires : goal.put_text-self-requires
put_text-self-requires c =
    let size : length c.args.self.now.names ≡ 1024 = search rules in
    let wide : length c.args.noted.name ≡ 32 = search rules in
    omega arith

pub put_row-requires : goal.put_row-requires
put_row-requires c =
    let size : length c.args.self.now.rows ≡ 128 = search rules in
    (omega arith, omega arith)

pub returns : goal.returns
returns c =
    λ os o k q named.
    let a = c.args in
    let size : length a.self.now.names ≡ 1024 = search rules in
    let wide : length a.self.now.rows ≡ 128 = search rules in
    add-room os o a.self.now k a.noted q named c.if-at-ge-MOST.false size wide c.place-program.ensures c.word.ensures c.word-2.ensures c.put_text-self.ensures.bytes c.put_row.ensures
