-- Only a line with no word, or with an empty one, is read as a comment.
use Prim.Native.Nat.{ℕ}
use mathlib.Core.Path.{◌≡◌, refl, sym, ap, ap₂, ◌∙◌}
use mathlib.Core.Bool.{Bool, true, false, cond, false≢true}
use mathlib.Core.List.{List, [], ◌∷◌}
use mathlib.Core.Logic.{◌⊎◌, inl, inr, ⊎_elim}
use native.Mathlib.Omega.{arith}
use lib.Dec.{eqb}
use lib.ListN.{length}
use Rattle.line_words.specs.Words.{words_of, uncommented, is_name, is_item, same, reads, writes}
use Rattle.piece_lines.specs.Says.{Piece, piece}
use Rattle.line_words.specs.Said.{Comment, no_word, empty_word}
use Rattle.piece_lines.specs.Read.{onward, Heard, hear, hear_all, silence, said_at, said_of, said}
use Rattle.line_words.specs.Said.{Said, comment, says, bad}
use Rattle.piece_lines.specs.declared.stages.Stage.{Stage}
use Rattle.piece_lines.specs.declared.stages.Stage.TheVariants.{Nothing, Blank, Named, ToRead, Reading, ToWrite, Writing, Wrong}
use Rattle.piece_lines.proofs.Only.{hear_empty, hear-named, hear-other, blank_only}
use Rattle.line_words.proofs.Tested.{passed, no_bytes}

-- ---- whatever has a first word says something

talks : Stage → Bool
talks Nothing = false
talks Blank = false
talks Named = true
talks ToRead = true
talks Reading = true
talks ToWrite = true
talks Writing = true
talks Wrong = true

either : (t : Bool) (a b : Stage) → talks a ≡ true → talks b ≡ true → talks (cond t a b) ≡ true
either true a b f g = f
either false a b f g = g

talks_on : (s : Stage) (w : List ℕ) → talks s ≡ true → talks (onward s w) ≡ true
unfolding onward talks
talks_on Nothing w e = absurd (false≢true e)
talks_on Blank w e = absurd (false≢true e)
talks_on Named w e = either (same w reads) ToRead (cond (same w writes) ToWrite Wrong) refl (either (same w writes) ToWrite Wrong refl refl)
talks_on ToRead w e = either (is_item w) Reading Wrong refl refl
talks_on Reading w e = either (is_item w) Reading (cond (same w writes) ToWrite Wrong) refl (either (same w writes) ToWrite Wrong refl refl)
talks_on ToWrite w e = either (is_item w) Writing Wrong refl refl
talks_on Writing w e = either (is_item w) Writing Wrong refl refl
talks_on Wrong w e = refl

clash : (p : Piece) → says p ≡ comment → ⊥
clash p e = let z : ◌≡◌ {A = ℕ} 0 1 = cc in omega arith

clash-bad : ◌≡◌ {A = Said Piece} bad comment → ⊥
clash-bad e = let z : ◌≡◌ {A = ℕ} 0 1 = cc in omega arith

tells : (s : Stage) (p : Piece) → talks s ≡ true → said_at s p ≡ comment → ⊥
unfolding said_at talks
tells Nothing p e f = false≢true e
tells Blank p e f = false≢true e
tells Named p e f = clash p f
tells ToRead p e f = clash-bad f
tells Reading p e f = clash p f
tells ToWrite p e f = clash-bad f
tells Writing p e f = clash p f
tells Wrong p e f = clash-bad f

no_comment : (ws : List (List ℕ)) (h : Heard) → talks h.stage ≡ true → said_of (hear_all h ws) ≡ comment → ⊥
unfolding hear_all said_of hear
no_comment [] h e f = tells h.stage h.piece e f
no_comment (w ∷ ws) h e f = no_comment ws (hear h w) (talks_on h.stage w e) f

-- ---- a whole line

first-comment : (ws : List (List ℕ)) → said_of (hear_all silence ws) ≡ comment → (ws ≡ []) ⊎ (ws ≡ [] ∷ [])
unfolding hear_all talks
first-comment [] e = inl refl
first-comment (w ∷ ws) e =
    passed (eqb (length w) 0)
    (λ t.
    ⊎_elim
    (λ c. inr (ap₂ (λ (v : List ℕ) (vs : List (List ℕ)). v ∷ vs) (no_bytes w t) c.0))
    (λ b. absurd (clash-bad (sym b)))
    (blank_only ws (piece [] [] []) comment (sym (ap (λ (h : Heard). said_of (hear_all h ws)) (hear_empty w t)) ∙ e)))
    (λ t.
    passed (is_name w)
    (λ u. absurd (no_comment ws (hear silence w) (ap (λ (h : Heard). talks h.stage) (hear-named w t u)) e))
    (λ u. absurd (no_comment ws (hear silence w) (ap (λ (h : Heard). talks h.stage) (hear-other w t u)) e)))

pub said-comment : (line : List ℕ) → said line ≡ comment → Comment line
unfolding said
said-comment line e = ⊎_elim (λ a. no_word a) (λ a. empty_word a) (first-comment (uncommented (words_of line)) e)
