-- The words of a line that is not ended yet, byte after byte.
use Rattle.std.specs.Prelude.{ℕ, cond, List, [], ◌∷◌, ◌++◌, eqb}
use Rattle.line_words.specs.Words.{hash}

-- the words that are ended, and the one that is not; or, once a comment has begun, those before it
pub data Words : Type 0 where
  speaking : List (List ℕ) → List ℕ → Words
  commented : List (List ℕ) → Words

-- a byte more: a space ends a word, and a word that begins with `#` begins a comment
unfoldable pub after : Words → ℕ → Words
after (speaking ws w) b =
    cond (eqb b 32) (speaking (ws ++ (w ∷ [])) []) (cond (hash (w ++ (b ∷ []))) (commented ws) (speaking ws (w ++ (b ∷ []))))
after (commented ws) b = commented ws

unfoldable pub after_all : Words → List ℕ → Words
after_all k [] = k
after_all k (b ∷ bs) = after_all (after k b) bs

-- of a line's bytes so far
unfoldable pub spoken : List ℕ → Words
spoken line = after_all (speaking [] []) line

unfoldable pub ended_in : Words → List (List ℕ)
ended_in (speaking ws w) = ws
ended_in (commented ws) = ws

-- the line ends
unfoldable pub closed : Words → List (List ℕ)
closed (speaking ws w) = ws ++ (w ∷ [])
closed (commented ws) = ws
