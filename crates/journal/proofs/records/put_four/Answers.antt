-- Where there is room, four words, each behind the one before.
use Prim.Native.Nat.{◌+◌, ◌<◌, ◌≤◌}
use mathlib.Core.Path.{sym, ap, ◌∙◌}
use native.Mathlib.Omega.{arith}
use lib.ListN.{length}
use borrow.Author.Tests.{leb-true, leb-false}
use Rattle.journal.specs.Words.{word_bytes}
use Rattle.journal.specs.Format.{record_size}
use Rattle.texts.specs.Written.{put}
use Rattle.journal.proofs.RecordLaws.{four_words, length_four}
use Rattle.texts.proofs.Buffers.{put_full, put_four}
use Rattle.journal.proofs.records.put_four.Goals as goal

pub returns-then-not-room : goal.returns-then-not-room
returns-then-not-room c =
    let a = c.args in
    let h : length a.out.now < a.at + record_size
    = leb-false (a.at + record_size) (length a.out.now) (sym c.room.ensures ∙ c.if-not-room.true) in
    sym (put_full a.out.now (four_words a.a a.b a.c a.d) a.at (omega (arith, length_four a.a a.b a.c a.d)))

pub returns : goal.returns
returns c =
    let a = c.args in
    let h : a.at + record_size ≤ length a.out.now
    = leb-true (a.at + record_size) (length a.out.now) (sym c.room.ensures ∙ c.if-not-room.false) in
    let one = c.put_word-second.ensures in
    let two = c.put_word-third.ensures ∙ ap (put (word_bytes a.b)) one in
    let three = c.put_word-fourth.ensures ∙ ap (put (word_bytes a.c)) two in
    let four = c.put_word.ensures ∙ ap (put (word_bytes a.d)) three in
    four
    ∙ put_four a.out.now (word_bytes a.a) (word_bytes a.b) (word_bytes a.c) (word_bytes a.d) a.at
    (omega (arith, length_four a.a a.b a.c a.d))
