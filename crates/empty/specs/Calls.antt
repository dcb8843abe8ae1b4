-- What is told of a call: whether its words are 64-bit words, whether it reads, whether it begins. One clause a call.
use Rattle.std.specs.Prelude.{ℕ, Bool, true, false, ◌&&◌, leb}
use Rattle.rules.specs.Answers.{Call, BeginUpdate, BeginQuery, Read, Write, Commit, Abort, Settle, BeginRelaxed}

-- "Values are any 64-bit number."
abbrev pub greatest_word : ℕ
greatest_word = 18446744073709551615

unfoldable pub is_word : ℕ → Bool
is_word w = leb w greatest_word

unfoldable pub call_of_words : Call → Bool
call_of_words BeginUpdate = true
call_of_words BeginQuery = true
call_of_words (Read n x) = is_word n && is_word x
call_of_words (Write n x v) = is_word n && is_word x && is_word v
call_of_words (Commit n) = is_word n
call_of_words (Abort n) = is_word n
call_of_words (Settle n) = is_word n
call_of_words BeginRelaxed = true

-- the calls that read
unfoldable pub is_read : Call → Bool
is_read BeginUpdate = false
is_read BeginQuery = false
is_read (Read n x) = true
is_read (Write n x v) = false
is_read (Commit n) = false
is_read (Abort n) = false
is_read (Settle n) = false
is_read BeginRelaxed = false

-- the three begins
unfoldable pub is_begin : Call → Bool
is_begin BeginUpdate = true
is_begin BeginQuery = true
is_begin (Read n x) = false
is_begin (Write n x v) = false
is_begin (Commit n) = false
is_begin (Abort n) = false
is_begin (Settle n) = false
is_begin BeginRelaxed = true
