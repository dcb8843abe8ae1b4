-- Where there is room, the eight bytes from the place on are filled.
use Prim.Native.Nat.{◌+◌, ◌<◌, ◌≤◌}
use mathlib.Core.Path.{◌≡◌, sym, ap, ◌∙◌}
use native.Mathlib.Omega.{arith}
use lib.ListN.{length}
use borrow.Author.Tests.{leb-true, leb-false}
use Rattle.journal.specs.Words.{word_size, word_bytes}
use Rattle.journal.proofs.WordLaws.{length-word_bytes, word-as_le}
use Rattle.texts.proofs.Buffers.{put_full, put-part}
use Rattle.journal.proofs.words.put_word.Goals as goal

pub returns-then-not-room : goal.returns-then-not-room
returns-then-not-room c =
    let a = c.args in
    let h : length a.out.now < a.at + word_size
    = leb-false (a.at + word_size) (length a.out.now) (sym c.room.ensures ∙ c.if-not-room.true) in
    sym (put_full a.out.now (word_bytes a.w) a.at (omega (arith, length-word_bytes a.w)))

pub overflow_add-end : goal.overflow_add-end
overflow_add-end c =
    let h : c.args.at + word_size ≤ length c.args.out.now = leb-true _ _ (sym c.room.ensures ∙ c.if-not-room.false) in
    omega arith

pub slice_bounds-copy_from_slice-end : goal.slice_bounds-copy_from_slice-end
slice_bounds-copy_from_slice-end c =
    let h : c.args.at + word_size ≤ length c.args.out.now = leb-true _ _ (sym c.room.ensures ∙ c.if-not-room.false) in
    omega arith

pub returns : goal.returns
returns c =
    let a = c.args in
    let fits : a.at + word_size ≤ length a.out.now
    = leb-true (a.at + word_size) (length a.out.now) (sym c.room.ensures ∙ c.if-not-room.false) in
    let whole : c.to_le_bytes.result ≡ word_bytes a.w = c.to_le_bytes.ensures ∙ word-as_le _ ∙ ap word_bytes (omega arith) in
    rw (c.copy_from_slice.ensures.after ∙ whole)
    (put-part a.out.now (word_bytes a.w) a.at word_size (length-word_bytes a.w) fits)
