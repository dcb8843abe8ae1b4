-- A comment says nothing: neither a line that is one, nor what follows on any line.
use Prim.Native.Nat.{ℕ}
use mathlib.Core.Path.{◌≡◌, ap}
use mathlib.Core.List.{List, [], ◌∷◌, ◌++◌}
use Rattle.piece_lines.specs.Read.{onward, noted, hear, hear_all, silence, said_at, said_of, said}
use Rattle.line_words.specs.Said.{comment}
use Rattle.line_words.proofs.Hearing.{words-behind, words_of_comment, words_of_nothing}

-- "what follows ` #` on a line", and the ` #` with it, says nothing
pub comment-behind : (l c : List ℕ) → said (l ++ (32 ∷ 35 ∷ c)) ≡ said l
unfolding said
comment-behind l c = ap (λ (ws : List (List ℕ)). said_of (hear_all silence ws)) (words-behind l c)

-- "A line that begins with `#` .. and an empty line are comments"
pub comment-line : (c : List ℕ) → said (35 ∷ c) ≡ comment
unfolding said said_of said_at hear_all silence
comment-line c = ap (λ (ws : List (List ℕ)). said_of (hear_all silence ws)) (words_of_comment c)

pub empty_line : said [] ≡ comment
unfolding said said_of said_at hear_all hear silence onward noted
empty_line = ap (λ (ws : List (List ℕ)). said_of (hear_all silence ws)) words_of_nothing
