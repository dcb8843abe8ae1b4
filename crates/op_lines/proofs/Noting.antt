-- What a word must be to lead to a stage, and what is noted there.
use Prim.Native.Nat.{ℕ}
use mathlib.Core.Path.{◌≡◌, refl, sym, ap, ◌∙◌}
use mathlib.Core.Bool.{Bool, true, false, cond, ◌||◌}
use mathlib.Core.List.{List}
use lib.Dec.{eqb}
use lib.ListN.{length}
use Rattle.line_words.specs.Words.{is_name, is_item, same, reads, writes}
use Rattle.line_words.specs.Held.{KeepsWord}
use Rattle.line_words.specs.declared.word.Word.{Word}
use Rattle.std.specs.Prelude.{Option}
use Rattle.std.specs.Option.{unwrap_or}
use Rattle.line_words.proofs.Tested.{name-most, item-right}
use Rattle.line_words.proofs.Keeping.{number}
use Rattle.op_lines.specs.Says.{Operation, bang}
use Rattle.op_lines.specs.Read.{onward, noted}
use Rattle.op_lines.specs.Held.{KeepsOperation}
use Rattle.op_lines.specs.declared.stages.Noted.{Noted}
use Rattle.op_lines.specs.declared.stages.Stage.{Stage}
use Rattle.op_lines.specs.declared.stages.Stage.TheVariants.{Nothing, Blank, Named, Doing, Touched, Marked, Wrong}

-- a name leads to the name's stage, and an item to the item's
unfoldable pub fitting : Stage → List ℕ → Bool
fitting Nothing w = true
fitting Blank w = true
fitting Named w = is_name w
fitting Doing w = true
fitting Touched w = is_item w
fitting Marked w = true
fitting Wrong w = true

either : (w : List ℕ) (t : Bool) (a b : Stage) → (t ≡ true → fitting a w ≡ true) → fitting b w ≡ true → fitting (cond t a b) w ≡ true
either w true a b f g = f refl
either w false a b f g = g

fits : (s : Stage) (w : List ℕ) → fitting (onward s w) w ≡ true
unfolding onward fitting
fits Nothing w =
    either w (eqb (length w) 0) Blank (cond (is_name w) Named Wrong) (λ _. refl) (either w (is_name w) Named Wrong (λ e. e) refl)
fits Blank w = refl
fits Named w = either w (same w reads || same w writes) Doing Wrong (λ _. refl) refl
fits Doing w = either w (is_item w) Touched Wrong (λ e. e) refl
fits Touched w = either w (same w bang) Marked Wrong (λ _. refl) refl
fits Marked w = refl
fits Wrong w = refl

module _ {w : List ℕ} {o : Operation} {word : Word} {before : Noted} (k : KeepsWord w word) (b : KeepsOperation o before) where
  pub note_name : (s : Stage) → Named ≡ onward s w → KeepsOperation (noted Named w o) (record { name = word.kept.bytes; item = before.item; writes = before.writes; marked = before.marked })
  unfolding noted fitting
  note_name s e =
      let f : is_name w ≡ true = rw (sym e) at (fits s w) in
      record { name = k.bytes.bytes (name-most w f); item = b.item; writes = b.writes; marked = b.marked }

  pub note_doing : {t : Bool} → t ≡ same w writes → KeepsOperation (noted Doing w o) (record { name = before.name; item = before.item; writes = t; marked = before.marked })
  unfolding noted
  note_doing e = record { name = b.name; item = b.item; writes = e; marked = b.marked }

  pub note_item : {v : ℕ} → v ≡ unwrap_or word.digits.value 0 → (s : Stage) → Touched ≡ onward s w → KeepsOperation (noted Touched w o) (record { name = before.name; item = v; writes = before.writes; marked = before.marked })
  unfolding noted fitting
  note_item v s e =
      let f : is_item w ≡ true = rw (sym e) at (fits s w) in
      record { name = b.name; item = v ∙ ap (λ (o : Option ℕ). unwrap_or o 0) (k.digits.value ∙ number w (item-right w f)); writes = b.writes; marked = b.marked }

  pub note_mark : KeepsOperation (noted Marked w o) (record { name = before.name; item = before.item; writes = before.writes; marked = true })
  unfolding noted
  note_mark = record { name = b.name; item = b.item; writes = b.writes; marked = refl }
