-- The slot's digit goes.
use Rattle.rows.proofs.Bits.{digit-le, digit_shifted, cleared_is}
use Rattle.rows.proofs.slots.without_bit.Goals as goal

pub overflow_sub-result : goal.overflow_sub-result
overflow_sub-result c =
    let a = c.args in
    rw (digit_shifted a.word a.slot.0 c.requires) (digit-le a.word a.slot.0)

pub returns : goal.returns
returns c =
    let a = c.args in
    rw (digit_shifted a.word a.slot.0 c.requires, cleared_is a.word a.slot.0)
