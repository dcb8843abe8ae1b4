-- Zeros behind bytes change no word.
use Prim.Native.Nat.{ℕ, ◌-◌}
use lib.ListN.{length}
use Rattle.journal.specs.Words.{word_size}
use Rattle.journal.proofs.WordLaws.{word-zeros}
use Rattle.std.proofs.lemmas.List.{drop-replicate}
use Rattle.journal.proofs.words.filled_up.Goals as goal

pub returns : goal.returns
returns c =
    let bs = c.args.bytes.now in
    let n = length bs in
    rw (c.copy_from_slice.ensures.after, drop-replicate {X = ℕ} n word_size 0) (word-zeros (word_size - n) bs)
