-- A line that is not ended yet: what is kept of it with a byte more, and what it says once it is ended.
use Prim.Native.Nat.{ℕ}
use mathlib.Core.Path.{◌≡◌, refl, sym, ap, subst, ◌∙◌}
use mathlib.Core.Bool.{true, false, not, ◌&&◌}
use mathlib.Core.List.{List, [], ◌∷◌, ◌++◌}
use lib.Dec.{eqb}
use Rattle.line_words.specs.Words.{words_of, uncommented}
use Rattle.line_words.specs.Speech.{spoken, ended_in}
use Rattle.op_lines.specs.Read.{Heard, hear, hear_all, silence, onward, noted, said_at, said_of, said}
use Rattle.line_words.specs.Held.{KeepsWord, Hears}
use Rattle.op_lines.specs.Held.{told_at, KeepsOperation, KeepsHeard, Follows, Tells}
use Rattle.line_words.specs.declared.speech.Speech.{Speech}
use Rattle.op_lines.specs.declared.stages.Noted.{Noted}
use Rattle.op_lines.specs.declared.stages.Stage.{Stage}
use Rattle.op_lines.specs.declared.stages.Stage.TheVariants.{Nothing, Blank, Named, Doing, Touched, Marked, Wrong}
use Rattle.op_lines.specs.declared.Line.{Line}
use Rattle.op_lines.specs.declared.Told.{Told}
use Rattle.line_words.proofs.Hearing.{Ends, hears_end, hears_on, ends-over, ends-word}

-- ---- a word ends

pub word-heard : (h : Heard) (w : List ℕ) (s : Line) → KeepsHeard h s → KeepsWord w s.speech.word → {stage : Stage} {n : Noted} → stage ≡ onward s.stage w → (stage ≡ onward s.stage w → KeepsWord w s.speech.word → KeepsOperation h.operation s.noted → KeepsOperation (noted stage w h.operation) n) → KeepsHeard (hear h w) (record { speech = s.speech; stage = stage; noted = n })
unfolding hear
word-heard h w s k q e f =
    let g = e ∙ ap (λ (x : Stage). onward x w) k.stage in
    record { stage = g; operation = rw g at (f e q k.operation) }

hear_snoc : (ws : List (List ℕ)) (h : Heard) (w : List ℕ) → hear_all h (ws ++ (w ∷ [])) ≡ hear (hear_all h ws) w
unfolding hear_all
hear_snoc [] h w = refl
hear_snoc (v ∷ vs) h w = hear_snoc vs (hear h v) w

-- what is heard with the word that ends
module _ (ws vs : List (List ℕ)) (s : Line) (k : KeepsHeard (hear_all silence ws) s) (e : Ends ws vs s.speech) where
  heard-more : {r : Line} → ((h : Heard) (w : List ℕ) → KeepsHeard h s → KeepsWord w s.speech.word → KeepsHeard (hear h w) r) → KeepsHeard (hear_all silence vs) r
  heard-more {r} f = subst (λ (h : Heard). KeepsHeard h r) (sym (ap (hear_all silence) e.more ∙ hear_snoc ws silence e.word)) (f (hear_all silence ws) e.word k e.kept)

-- ---- a byte more

module _ (line : List ℕ) (s : Line) (q : Follows line s) (b : ℕ) {speech : Speech} (next : Hears (line ++ (b ∷ [])) speech) where
  pub follows_end : (not s.speech.over && eqb b 32) ≡ true → {r : Line} → ((h : Heard) (w : List ℕ) → KeepsHeard h s → KeepsWord w s.speech.word → KeepsHeard (hear h w) r) → Follows (line ++ (b ∷ [])) (record { speech = speech; stage = r.stage; noted = r.noted })
  follows_end e {r} f =
      let g = heard-more (ended_in (spoken line)) (ended_in (spoken (line ++ (b ∷ [])))) s q.heard (hears_end line s.speech q.words b e) {r = r} f in
      record { words = next; heard = record { stage = g.stage; operation = g.operation } }

  pub follows_on : (not s.speech.over && eqb b 32) ≡ false → Follows (line ++ (b ∷ [])) (record { speech = speech; stage = s.stage; noted = s.noted })
  follows_on e =
      let g : KeepsHeard (hear_all silence (ended_in (spoken (line ++ (b ∷ []))))) s
      = subst (λ (ws : List (List ℕ)). KeepsHeard (hear_all silence ws) s) (sym (hears_on line s.speech q.words b e)) q.heard in
      record { words = next; heard = record { stage = g.stage; operation = g.operation } }

-- ---- the line ends

tells : (h : Heard) (stage : Stage) (n : Noted) (t : Told) → stage ≡ h.stage → KeepsOperation h.operation n → t ≡ told_at stage → Tells (said_of h) (record { told = t; noted = n })
unfolding said_of said_at
tells h stage n t e k q = go h.stage e
  where
    go : (s : Stage) → stage ≡ s → Tells (said_at s h.operation) (record { told = t; noted = n })
    go Nothing f = q ∙ ap told_at f
    go Blank f = q ∙ ap told_at f
    go Named f = q ∙ ap told_at f
    go Doing f = q ∙ ap told_at f
    go Touched f = (q ∙ ap told_at f, k)
    go Marked f = (q ∙ ap told_at f, k)
    go Wrong f = q ∙ ap told_at f

module _ (line : List ℕ) (s : Line) (q : Follows line s) where
  pub ended-over : s.speech.over ≡ true → {t : Told} → t ≡ told_at s.stage → Tells (said line) (record { told = t; noted = s.noted })
  unfolding said
  ended-over o {t} e =
      let g : KeepsHeard (hear_all silence (uncommented (words_of line))) s
      = subst (λ (ws : List (List ℕ)). KeepsHeard (hear_all silence ws) s) (ends-over line s.speech q.words o) q.heard in
      tells (hear_all silence (uncommented (words_of line))) s.stage s.noted t g.stage g.operation e

  pub ended_open : s.speech.over ≡ false → {r : Line} → ((h : Heard) (w : List ℕ) → KeepsHeard h s → KeepsWord w s.speech.word → KeepsHeard (hear h w) r) → {t : Told} → t ≡ told_at r.stage → Tells (said line) (record { told = t; noted = r.noted })
  unfolding said
  ended_open o {r} f {t} e =
      let g = heard-more (ended_in (spoken line)) (uncommented (words_of line)) s q.heard (ends-word line s.speech q.words o) {r = r} f in
      tells (hear_all silence (uncommented (words_of line))) r.stage r.noted t g.stage g.operation e
