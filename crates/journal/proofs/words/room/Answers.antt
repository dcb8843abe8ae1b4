-- A place and a need, within a size or not.
use Prim.Native.Nat.{◌+◌}
use mathlib.Core.Path.{sym}
use native.Mathlib.Omega.{arith}
use borrow.Author.Tests.{lt-leb}
use Rattle.texts.proofs.Buffers.{room-left}
use Rattle.journal.proofs.words.room.Goals as goal

pub returns-then-size-at : goal.returns-then-size-at
returns-then-size-at c =
    let a = c.args in
    sym (lt-leb (a.at + a.need) a.size (omega arith))

pub returns : goal.returns
returns c =
    let a = c.args in
    room-left a.need a.size a.at c.if-size-at.false
