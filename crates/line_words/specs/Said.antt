-- What a line can say, of whatever kind: a name in it, a comment, and a thing that is said.
use Rattle.std.specs.Prelude.{ℕ, ◌<◌, ◌≤◌, ◌≡◌, true, List, [], ◌∷◌, length}
use Rattle.rules.specs.Words.{every}
use Rattle.line_words.specs.Words.{words_of, uncommented, name_byte, longest_name}

-- what a line says: a thing of some kind, nothing, or nothing that is allowed
pub data Said (A : Type 0) : Type 0 where
  comment : Said A
  says : A → Said A
  bad : Said A

-- "letters, digits, `_`, `-`; at most 32 bytes"
pub record Name (w : List ℕ) : Type 0 where
  pub some : 0 < length w
  pub most : length w ≤ longest_name
  pub bytes : every name_byte w ≡ true

-- "A line that begins with `#` .. and an empty line are comments": no word, or an empty one
pub data Comment (line : List ℕ) : Type 0 where
  no_word : uncommented (words_of line) ≡ [] → Comment line
  empty_word : uncommented (words_of line) ≡ [] ∷ [] → Comment line
