-- The words of the script, as bytes: document 01's six, `settle` of request E6 and `relaxed` of request E11.
use Rattle.std.specs.Prelude.{ℕ, Bool, true, false, ◌&&◌, List, [], ◌∷◌, eqb}

abbrev pub update : List ℕ
update = 117 ∷ 112 ∷ 100 ∷ 97 ∷ 116 ∷ 101 ∷ []

abbrev pub query : List ℕ
query = 113 ∷ 117 ∷ 101 ∷ 114 ∷ 121 ∷ []

abbrev pub read : List ℕ
read = 114 ∷ 101 ∷ 97 ∷ 100 ∷ []

abbrev pub write : List ℕ
write = 119 ∷ 114 ∷ 105 ∷ 116 ∷ 101 ∷ []

abbrev pub commit : List ℕ
commit = 99 ∷ 111 ∷ 109 ∷ 109 ∷ 105 ∷ 116 ∷ []

abbrev pub abort : List ℕ
abort = 97 ∷ 98 ∷ 111 ∷ 114 ∷ 116 ∷ []

abbrev pub settle : List ℕ
settle = 115 ∷ 101 ∷ 116 ∷ 116 ∷ 108 ∷ 101 ∷ []

abbrev pub relaxed : List ℕ
relaxed = 114 ∷ 101 ∷ 108 ∷ 97 ∷ 120 ∷ 101 ∷ 100 ∷ []

-- the bytes start with those of the word
unfoldable pub starts : List ℕ → List ℕ → Bool
starts [] bs = true
starts (w ∷ ws) [] = false
starts (w ∷ ws) (b ∷ bs) = eqb b w && starts ws bs
