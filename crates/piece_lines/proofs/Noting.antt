-- What a word must be to lead to a stage, and what is noted there.
use Prim.Native.Nat.{ℕ}
use mathlib.Core.Path.{◌≡◌, refl, sym, ap, ap₂, ◌∙◌}
use mathlib.Core.Bool.{Bool, true, false, cond, ◌||◌}
use mathlib.Core.List.{List, [], ◌∷◌}
use lib.Dec.{eqb, ltb}
use lib.ListN.{length}
use Rattle.numerals.specs.Numbers.{worth}
use Rattle.line_words.specs.Words.{is_name, is_item, same, reads, writes}
use Rattle.std.specs.Prelude.{Option}
use Rattle.std.specs.Option.{unwrap_or}
use Rattle.line_words.proofs.Tested.{name-most, item-right}
use Rattle.line_words.proofs.Keeping.{number}
use Rattle.piece_lines.specs.Says.{Piece}
use Rattle.piece_lines.specs.Read.{onward, noted}
use Rattle.piece_lines.specs.Items.{unknown, word_with, unknown_in}
use Rattle.piece_lines.specs.Held.{KeepsPiece}
use Rattle.line_words.specs.Held.{KeepsWord}
use Rattle.line_words.specs.declared.word.Word.{Word}
use Rattle.piece_lines.specs.declared.stages.Noted.{Noted}
use Rattle.piece_lines.specs.declared.stages.Stage.{Stage}
use Rattle.piece_lines.specs.declared.stages.Stage.TheVariants.{Nothing, Blank, Named, ToRead, Reading, ToWrite, Writing, Wrong}
use Rattle.piece_lines.proofs.Items.{word_of_snoc, unknown-read, unknown-written}

-- ---- which words lead to a stage

-- a name leads to the name's stage, and an item to those behind a part's word
unfoldable pub fitting : Stage → List ℕ → Bool
fitting Nothing w = true
fitting Blank w = true
fitting Named w = is_name w
fitting ToRead w = true
fitting Reading w = is_item w
fitting ToWrite w = true
fitting Writing w = is_item w
fitting Wrong w = true

either : (w : List ℕ) (t : Bool) (a b : Stage) → (t ≡ true → fitting a w ≡ true) → fitting b w ≡ true → fitting (cond t a b) w ≡ true
either w true a b f g = f refl
either w false a b f g = g

pub fits : (s : Stage) (w : List ℕ) → fitting (onward s w) w ≡ true
unfolding onward fitting
fits Nothing w =
    either w (eqb (length w) 0) Blank (cond (is_name w) Named Wrong) (λ _. refl) (either w (is_name w) Named Wrong (λ e. e) refl)
fits Blank w = refl
fits Named w =
    either w (same w reads) ToRead (cond (same w writes) ToWrite Wrong) (λ _. refl) (either w (same w writes) ToWrite Wrong (λ _. refl) refl)
fits ToRead w = either w (is_item w) Reading Wrong (λ e. e) refl
fits Reading w =
    either w (is_item w) Reading (cond (same w writes) ToWrite Wrong) (λ e. e) (either w (same w writes) ToWrite Wrong (λ _. refl) refl)
fits ToWrite w = either w (is_item w) Writing Wrong (λ e. e) refl
fits Writing w = either w (is_item w) Writing Wrong (λ e. e) refl
fits Wrong w = refl

pub read-item : (s : Stage) (w : List ℕ) → Reading ≡ onward s w → is_item w ≡ true
unfolding fitting
read-item s w e = rw (sym e) at (fits s w)

pub written-item : (s : Stage) (w : List ℕ) → Writing ≡ onward s w → is_item w ≡ true
unfolding fitting
written-item s w e = rw (sym e) at (fits s w)

-- ---- what is noted

module _ {w : List ℕ} {p : Piece} {word : Word} {before : Noted} (k : KeepsWord w word) (b : KeepsPiece p before) where
  pub note_name : (s : Stage) → Named ≡ onward s w → KeepsPiece (noted Named w p) (record { name = word.kept.bytes; reads = before.reads; writes = before.writes; unknown = before.unknown })
  unfolding noted fitting unknown_in
  note_name s e =
      let f : is_name w ≡ true = rw (sym e) at (fits s w) in
      record { name = k.bytes.bytes (name-most w f); reads = b.reads; writes = b.writes; unknown = b.unknown }

  module _ (right : is_item w ≡ true) where
    value_is : {v : ℕ} → v ≡ unwrap_or word.digits.value 0 → v ≡ worth 0 w
    value_is e = e ∙ ap (λ (o : Option ℕ). unwrap_or o 0) (k.digits.value ∙ number w (item-right w right))

    pub note_read : {n v : ℕ} → v ≡ unwrap_or word.digits.value 0 → n ≡ word_with before.reads (v ∷ []) → KeepsPiece (noted Reading w p) (record { name = before.name; reads = n; writes = before.writes; unknown = before.unknown || ltb 63 v })
    unfolding noted
    note_read v e =
        record {
          name = b.name;
          reads = e ∙ ap₂ (λ (h i : ℕ). word_with h (i ∷ [])) b.reads (value_is v) ∙ sym (word_of_snoc p.reads (worth 0 w));
          writes = b.writes;
          unknown = ap₂ (λ (t : Bool) (i : ℕ). t || unknown i) b.unknown (value_is v) ∙ sym (unknown-read p.name p.reads p.writes (worth 0 w));
        }

    pub note_written : {n v : ℕ} → v ≡ unwrap_or word.digits.value 0 → n ≡ word_with before.writes (v ∷ []) → KeepsPiece (noted Writing w p) (record { name = before.name; reads = before.reads; writes = n; unknown = before.unknown || ltb 63 v })
    unfolding noted
    note_written v e =
        record {
          name = b.name;
          reads = b.reads;
          writes = e ∙ ap₂ (λ (h i : ℕ). word_with h (i ∷ [])) b.writes (value_is v) ∙ sym (word_of_snoc p.writes (worth 0 w));
          unknown = ap₂ (λ (t : Bool) (i : ℕ). t || unknown i) b.unknown (value_is v) ∙ sym (unknown-written p.name p.reads p.writes (worth 0 w));
        }
