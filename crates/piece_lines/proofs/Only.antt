-- Only a line that says a piece is read as that piece: the second half of "both ways".
use Prim.Native.Nat.{ℕ}
use mathlib.Core.Path.{◌≡◌, refl, sym, ap, ap₂, subst, ◌∙◌}
use mathlib.Core.Bool.{true, false}
use mathlib.Core.List.{List, [], ◌∷◌, ◌++◌, append-nil, append_assoc}
use mathlib.Core.Logic.{◌⊎◌, inl, inr, ⊎_elim}
use native.Mathlib.Omega.{arith}
use lib.Dec.{eqb}
use lib.ListN.{length}
use Rattle.numerals.specs.Numbers.{worth}
use Rattle.line_words.specs.Words.{words_of, uncommented, is_name, is_item, same, reads, writes}
use Rattle.line_words.proofs.Tested.{passed}
use Rattle.piece_lines.specs.Says.{Piece, piece, Items, part, Says}
use Rattle.line_words.specs.Said.{Name}
use Rattle.piece_lines.specs.Read.{onward, noted, Heard, heard, hear, hear_all, silence, said_at, said_of, said}
use Rattle.line_words.specs.Said.{Said, comment, says, bad}
use Rattle.piece_lines.specs.declared.stages.Stage.TheVariants.{Blank, Named, ToRead, Reading, ToWrite, Writing, Wrong}
use Rattle.line_words.proofs.Sameness.{same_equal}
use Rattle.piece_lines.proofs.Spoken.{hear-written, hear-first-written, hear-read, hear-first-read}
use Rattle.line_words.proofs.Tested.{tested_name, tested_item}

-- ---- a line that is wrong stays so

hear-wrong : (p : Piece) (w : List ℕ) → hear (heard Wrong p) w ≡ heard Wrong p
unfolding hear onward noted
hear-wrong p w = refl

pub wrong_on : (ws : List (List ℕ)) (p : Piece) → said_of (hear_all (heard Wrong p) ws) ≡ bad
unfolding hear_all said_of said_at
wrong_on [] p = refl
wrong_on (w ∷ ws) p = ap (λ (h : Heard). said_of (hear_all h ws)) (hear-wrong p w) ∙ wrong_on ws p

never : {A : Type 0} (p : Piece) → bad ≡ says p → A
never p e = let z : ◌≡◌ {A = ℕ} 0 1 = cc in absurd (omega arith)

never_comment : {A : Type 0} (p : Piece) → comment ≡ says p → A
never_comment p e = let z : ◌≡◌ {A = ℕ} 0 1 = cc in absurd (omega arith)

-- what is heard after a word is wrong
lost : {A : Type 0} (q p : Piece) (h : Heard) (ws : List (List ℕ)) → h ≡ heard Wrong q → said_of (hear_all h ws) ≡ says p → A
lost q p h ws f e = never p (sym (ap (λ (k : Heard). said_of (hear_all k ws)) f ∙ wrong_on ws q) ∙ e)

-- ---- what a word leads to that is no item

module _ (q : Piece) (w : List ℕ) where
  hear_writing_off : is_item w ≡ false → hear (heard Writing q) w ≡ heard Wrong q
  unfolding hear onward noted
  hear_writing_off e = rw e refl

  hear_to_write_off : is_item w ≡ false → hear (heard ToWrite q) w ≡ heard Wrong q
  unfolding hear onward noted
  hear_to_write_off e = rw e refl

  hear_to_read_off : is_item w ≡ false → hear (heard ToRead q) w ≡ heard Wrong q
  unfolding hear onward noted
  hear_to_read_off e = rw e refl

  hear-reading-writes : is_item w ≡ false → same w writes ≡ true → hear (heard Reading q) w ≡ heard ToWrite q
  unfolding hear onward noted
  hear-reading-writes e f = rw (e, f) refl

  hear_reading_off : is_item w ≡ false → same w writes ≡ false → hear (heard Reading q) w ≡ heard Wrong q
  unfolding hear onward noted
  hear_reading_off e f = rw (e, f) refl

  hear-named-reads : same w reads ≡ true → hear (heard Named q) w ≡ heard ToRead q
  unfolding hear onward noted
  hear-named-reads e = rw e refl

  hear-named-writes : same w reads ≡ false → same w writes ≡ true → hear (heard Named q) w ≡ heard ToWrite q
  unfolding hear onward noted
  hear-named-writes e f = rw (e, f) refl

  hear_named_off : same w reads ≡ false → same w writes ≡ false → hear (heard Named q) w ≡ heard Wrong q
  unfolding hear onward noted
  hear_named_off e f = rw (e, f) refl

-- what is heard may be replaced by what it is
heard_as : {p : Piece} (h k : Heard) (ws : List (List ℕ)) → h ≡ k → said_of (hear_all h ws) ≡ says p → said_of (hear_all k ws) ≡ says p
heard_as h k ws f e = sym (ap (λ (x : Heard). said_of (hear_all x ws)) f) ∙ e

same-says : (p q : Piece) → says p ≡ says q → p ≡ q
same-says p q e = cc

with_more : (r ns : List ℕ) (i : ℕ) → (r ++ (i ∷ [])) ++ ns ≡ r ++ (i ∷ ns)
with_more r ns i = append_assoc r (i ∷ []) ns

-- ---- items written, up to the end

-- the words are items, and the piece is what was said with them
pub record Writes (n r x : List ℕ) (ws : List (List ℕ)) (p : Piece) : Type 0 where
  pub items : List ℕ
  pub each : Items ws items
  pub all : p ≡ piece n r (x ++ items)

one_written : (n r x : List ℕ) (w : List ℕ) (ws : List (List ℕ)) (p : Piece) → is_item w ≡ true → Writes n r (x ++ (worth 0 w ∷ [])) ws p → Writes n r x (w ∷ ws) p
one_written n r x w ws p e s =
    record { items = worth 0 w ∷ s.items; each = Items.more (tested_item w e) s.each; all = s.all ∙ ap (piece n r) (with_more x s.items (worth 0 w)) }

module _ (n r : List ℕ) (p : Piece) where
  writing_only : (ws : List (List ℕ)) (x : List ℕ) → said_of (hear_all (heard Writing (piece n r x)) ws) ≡ says p → Writes n r x ws p
  unfolding hear_all said_of said_at
  writing_only [] x e = record { items = []; each = Items.none; all = sym (same-says (piece n r x) p e) ∙ ap (piece n r) (sym (append-nil x)) }
  writing_only (w ∷ ws) x e =
      passed (is_item w)
      (λ t. one_written n r x w ws p t (writing_only ws (x ++ (worth 0 w ∷ [])) (heard_as (hear (heard Writing (piece n r x)) w) (heard Writing (piece n r (x ++ (worth 0 w ∷ [])))) ws (hear-written n r x w t) e)))
      (λ t. lost (piece n r x) p (hear (heard Writing (piece n r x)) w) ws (hear_writing_off (piece n r x) w t) e)

  -- behind `writes` there is one at least
  to_write_only : (ws : List (List ℕ)) (x : List ℕ) → said_of (hear_all (heard ToWrite (piece n r x)) ws) ≡ says p → Writes n r x ws p × (part writes ws ≡ writes ∷ ws)
  unfolding hear_all said_of said_at part
  to_write_only [] x e = never p e
  to_write_only (w ∷ ws) x e =
      passed (is_item w)
      (λ t. (one_written n r x w ws p t (writing_only ws (x ++ (worth 0 w ∷ [])) (heard_as (hear (heard ToWrite (piece n r x)) w) (heard Writing (piece n r (x ++ (worth 0 w ∷ [])))) ws (hear-first-written n r x w t) e)), refl))
      (λ t. lost (piece n r x) p (hear (heard ToWrite (piece n r x)) w) ws (hear_to_write_off (piece n r x) w t) e)

-- ---- items read, and then the other part

pub record Reads (n r : List ℕ) (ws : List (List ℕ)) (p : Piece) : Type 0 where
  pub read : List (List ℕ)
  pub written : List (List ℕ)
  pub items-read : List ℕ
  pub items-written : List ℕ
  pub cut : ws ≡ read ++ part writes written
  pub each_read : Items read items-read
  pub each-written : Items written items-written
  pub all : p ≡ piece n (r ++ items-read) items-written

one_read : (n r : List ℕ) (w : List ℕ) (ws : List (List ℕ)) (p : Piece) → is_item w ≡ true → Reads n (r ++ (worth 0 w ∷ [])) ws p → Reads n r (w ∷ ws) p
one_read n r w ws p e s =
    record {
      read = w ∷ s.read;
      written = s.written;
      items-read = worth 0 w ∷ s.items-read;
      items-written = s.items-written;
      cut = ap (λ (vs : List (List ℕ)). w ∷ vs) s.cut;
      each_read = Items.more (tested_item w e) s.each_read;
      each-written = s.each-written;
      all = s.all ∙ ap (λ (l : List ℕ). piece n l s.items-written) (with_more r s.items-read (worth 0 w));
    }

none_read : (n r : List ℕ) (w : List ℕ) (ws : List (List ℕ)) (p : Piece) → same w writes ≡ true → Writes n r [] ws p × (part writes ws ≡ writes ∷ ws) → Reads n r (w ∷ ws) p
none_read n r w ws p e s =
    record {
      read = [];
      written = ws;
      items-read = [];
      items-written = s.0.items;
      cut = ap (λ (v : List ℕ). v ∷ ws) (same_equal w writes e) ∙ sym s.1;
      each_read = Items.none;
      each-written = s.0.each;
      all = s.0.all ∙ ap (λ (l : List ℕ). piece n l s.0.items) (sym (append-nil r));
    }

module _ (n : List ℕ) (p : Piece) where
  reading-only : (ws : List (List ℕ)) (r : List ℕ) → said_of (hear_all (heard Reading (piece n r [])) ws) ≡ says p → Reads n r ws p
  unfolding hear_all said_of said_at part
  reading-only [] r e =
      record {
        read = [];
        written = [];
        items-read = [];
        items-written = [];
        cut = refl;
        each_read = Items.none;
        each-written = Items.none;
        all = sym (same-says (piece n r []) p e) ∙ ap (λ (l : List ℕ). piece n l []) (sym (append-nil r));
      }
  reading-only (w ∷ ws) r e =
      passed (is_item w)
      (λ t. one_read n r w ws p t (reading-only ws (r ++ (worth 0 w ∷ [])) (heard_as (hear (heard Reading (piece n r [])) w) (heard Reading (piece n (r ++ (worth 0 w ∷ [])) [])) ws (hear-read n r [] w t) e)))
      (λ t.
      passed (same w writes)
      (λ u. none_read n r w ws p u (to_write_only n r p ws [] (heard_as (hear (heard Reading (piece n r [])) w) (heard ToWrite (piece n r [])) ws (hear-reading-writes (piece n r []) w t u) e)))
      (λ u. lost (piece n r []) p (hear (heard Reading (piece n r [])) w) ws (hear_reading_off (piece n r []) w t u) e))

  -- behind `reads` there is one at least
  to_read-only : (ws : List (List ℕ)) → said_of (hear_all (heard ToRead (piece n [] [])) ws) ≡ says p → (s : Reads n [] ws p) × (part reads s.read ≡ reads ∷ s.read)
  unfolding hear_all said_of said_at part one_read
  to_read-only [] e = never p e
  to_read-only (w ∷ ws) e =
      passed (is_item w)
      (λ t. (one_read n [] w ws p t (reading-only ws (worth 0 w ∷ []) (heard_as (hear (heard ToRead (piece n [] [])) w) (heard Reading (piece n (worth 0 w ∷ []) [])) ws (hear-first-read n [] [] w t) e)), refl))
      (λ t. lost (piece n [] []) p (hear (heard ToRead (piece n [] [])) w) ws (hear_to_read_off (piece n [] []) w t) e)

-- ---- behind the name

pub record Parts (n : List ℕ) (ws : List (List ℕ)) (p : Piece) : Type 0 where
  pub read : List (List ℕ)
  pub written : List (List ℕ)
  pub items-read : List ℕ
  pub items-written : List ℕ
  pub cut : ws ≡ part reads read ++ part writes written
  pub each_read : Items read items-read
  pub each-written : Items written items-written
  pub all : p ≡ piece n items-read items-written

module _ (n : List ℕ) (p : Piece) where
  both_parts : (w : List ℕ) (ws : List (List ℕ)) → same w reads ≡ true → (s : Reads n [] ws p) × (part reads s.read ≡ reads ∷ s.read) → Parts n (w ∷ ws) p
  both_parts w ws e s =
      record {
        read = s.0.read;
        written = s.0.written;
        items-read = s.0.items-read;
        items-written = s.0.items-written;
        cut = ap₂ (λ (v : List ℕ) (vs : List (List ℕ)). v ∷ vs) (same_equal w reads e) s.0.cut ∙ ap (λ (vs : List (List ℕ)). vs ++ part writes s.0.written) (sym s.1);
        each_read = s.0.each_read;
        each-written = s.0.each-written;
        all = s.0.all;
      }

  one_part : (w : List ℕ) (ws : List (List ℕ)) → same w writes ≡ true → Writes n [] [] ws p × (part writes ws ≡ writes ∷ ws) → Parts n (w ∷ ws) p
  unfolding part
  one_part w ws e s =
      record {
        read = [];
        written = ws;
        items-read = [];
        items-written = s.0.items;
        cut = ap (λ (v : List ℕ). v ∷ ws) (same_equal w writes e) ∙ sym s.1;
        each_read = Items.none;
        each-written = s.0.each;
        all = s.0.all;
      }

  named-only : (ws : List (List ℕ)) → said_of (hear_all (heard Named (piece n [] [])) ws) ≡ says p → Parts n ws p
  unfolding hear_all said_of said_at part
  named-only [] e =
      record {
        read = [];
        written = [];
        items-read = [];
        items-written = [];
        cut = refl;
        each_read = Items.none;
        each-written = Items.none;
        all = sym (same-says (piece n [] []) p e);
      }
  named-only (w ∷ ws) e =
      passed (same w reads)
      (λ t. both_parts w ws t (to_read-only n p ws (heard_as (hear (heard Named (piece n [] [])) w) (heard ToRead (piece n [] [])) ws (hear-named-reads (piece n [] []) w t) e)))
      (λ t.
      passed (same w writes)
      (λ u. one_part w ws u (to_write_only n [] p ws [] (heard_as (hear (heard Named (piece n [] [])) w) (heard ToWrite (piece n [] [])) ws (hear-named-writes (piece n [] []) w t u) e)))
      (λ u. lost (piece n [] []) p (hear (heard Named (piece n [] [])) w) ws (hear_named_off (piece n [] []) w t u) e))

-- ---- a whole line

pub hear_empty : (w : List ℕ) → eqb (length w) 0 ≡ true → hear silence w ≡ heard Blank (piece [] [] [])
unfolding hear silence onward noted
hear_empty w e = rw e refl

pub hear-named : (w : List ℕ) → eqb (length w) 0 ≡ false → is_name w ≡ true → hear silence w ≡ heard Named (piece w [] [])
unfolding hear silence onward noted
hear-named w e f = rw (e, f) refl

pub hear-other : (w : List ℕ) → eqb (length w) 0 ≡ false → is_name w ≡ false → hear silence w ≡ heard Wrong (piece [] [] [])
unfolding hear silence onward noted
hear-other w e f = rw (e, f) refl

hear_blank : (q : Piece) (w : List ℕ) → hear (heard Blank q) w ≡ heard Wrong q
unfolding hear onward noted
hear_blank q w = refl

-- behind an empty word there is none
pub blank_only : (ws : List (List ℕ)) (q : Piece) (s : Said Piece) → said_of (hear_all (heard Blank q) ws) ≡ s → ((ws ≡ []) × (s ≡ comment)) ⊎ (s ≡ bad)
unfolding hear_all said_of said_at
blank_only [] q s e = inl (refl, sym e)
blank_only (w ∷ ws) q s e = inr (sym e ∙ ap (λ (h : Heard). said_of (hear_all h ws)) (hear_blank q w) ∙ wrong_on ws q)

-- a name, and its parts
first-only : (p : Piece) (ws : List (List ℕ)) → said_of (hear_all silence ws) ≡ says p → (n : List ℕ) × (vs : List (List ℕ)) × (ws ≡ n ∷ vs) × Name n × Parts n vs p
unfolding hear_all silence said_of said_at
first-only p [] e = never_comment p e
first-only p (w ∷ ws) e =
    passed (eqb (length w) 0)
    (λ t. ⊎_elim (λ c. never_comment p (sym c.1)) (λ b. never p (sym b)) (blank_only ws (piece [] [] []) (says p) (heard_as (hear silence w) (heard Blank (piece [] [] [])) ws (hear_empty w t) e)))
    (λ t.
    passed (is_name w)
    (λ u. (w, ws, refl, tested_name w u, named-only w p ws (heard_as (hear silence w) (heard Named (piece w [] [])) ws (hear-named w t u) e)))
    (λ u. lost (piece [] [] []) p (hear silence w) ws (hear-other w t u) e))

-- ONLY WHAT A LINE SAYS IS READ
pub said-says : (line : List ℕ) (p : Piece) → said line ≡ says p → Says line p
unfolding said
said-says line p e =
    let f = first-only p (uncommented (words_of line)) e in
    let s = f.4 in
    let q : p.name ≡ f.0 = ap (λ (x : Piece). x.name) s.all in
    record {
      read = s.read;
      written = s.written;
      words = f.2 ∙ ap₂ (λ (n : List ℕ) (vs : List (List ℕ)). n ∷ vs) (sym q) s.cut;
      named = subst Name (sym q) f.3;
      items-read = subst (Items s.read) (sym (ap (λ (x : Piece). x.reads) s.all)) s.each_read;
      items-written = subst (Items s.written) (sym (ap (λ (x : Piece). x.writes) s.all)) s.each-written;
    }
