-- Only a line that says an operation is read as that operation: the second half of "both ways"; and only one with no word, or with an
-- empty one, as a comment.
use Prim.Native.Nat.{ℕ}
use mathlib.Core.Path.{◌≡◌, refl, sym, ap, ap₂, subst, ◌∙◌}
use mathlib.Core.Bool.{Bool, true, false, ◌||◌, false≢true}
use mathlib.Core.List.{List, [], ◌∷◌}
use mathlib.Core.Logic.{◌⊎◌, inl, inr, ⊎_elim}
use native.Mathlib.Omega.{arith}
use lib.Dec.{eqb}
use lib.ListN.{length}
use Rattle.numerals.specs.Numbers.{worth}
use Rattle.line_words.specs.Words.{words_of, uncommented, is_name, is_item, same, reads, writes}
use Rattle.line_words.specs.Said.{Name, Comment, no_word, empty_word}
use Rattle.line_words.specs.Said.{Said, comment, says, bad}
use Rattle.line_words.proofs.Sameness.{same_equal}
use Rattle.line_words.proofs.Tested.{tested_name, tested_item}
use Rattle.line_words.proofs.Tested.{passed, no_bytes}
use Rattle.op_lines.specs.Says.{Operation, operation, verb, bang, mark, Says}
use Rattle.op_lines.specs.Read.{onward, noted, Heard, heard, hear, hear_all, silence, said_at, said_of, said}
use Rattle.op_lines.specs.declared.stages.Stage.TheVariants.{Blank, Named, Doing, Touched, Marked, Wrong}
use Rattle.op_lines.proofs.Spoken.{hear-item}

-- ---- a line that is wrong stays so

hear-wrong : (o : Operation) (w : List ℕ) → hear (heard Wrong o) w ≡ heard Wrong o
unfolding hear onward noted
hear-wrong o w = refl

wrong_on : (ws : List (List ℕ)) (o : Operation) → said_of (hear_all (heard Wrong o) ws) ≡ bad
unfolding hear_all said_of said_at
wrong_on [] o = refl
wrong_on (w ∷ ws) o = ap (λ (h : Heard). said_of (hear_all h ws)) (hear-wrong o w) ∙ wrong_on ws o

-- what is heard after a word is wrong
is_bad : (o : Operation) (h : Heard) (ws : List (List ℕ)) {s : Said Operation} → h ≡ heard Wrong o → said_of (hear_all h ws) ≡ s → s ≡ bad
is_bad o h ws f e = sym e ∙ ap (λ (k : Heard). said_of (hear_all k ws)) f ∙ wrong_on ws o

never : {A : Type 0} (p : Operation) → says p ≡ bad → A
never p e = let z : ◌≡◌ {A = ℕ} 0 1 = cc in absurd (omega arith)

never_comment : {A : Type 0} (p : Operation) → says p ≡ comment → A
never_comment p e = let z : ◌≡◌ {A = ℕ} 0 1 = cc in absurd (omega arith)

never_both_lem : {A : Type 0} → ◌≡◌ {A = Said Operation} comment bad → A
never_both_lem e = let z : ◌≡◌ {A = ℕ} 0 1 = cc in absurd (omega arith)

same-says : (o p : Operation) → says o ≡ says p → o ≡ p
same-says o p e = cc

-- what is heard may be replaced by what it is
heard_as : {s : Said Operation} (h k : Heard) (ws : List (List ℕ)) → h ≡ k → said_of (hear_all h ws) ≡ s → said_of (hear_all k ws) ≡ s
heard_as h k ws f e = sym (ap (λ (x : Heard). said_of (hear_all x ws)) f) ∙ e

module _ (o : Operation) (w : List ℕ) where
  marked_off : hear (heard Marked o) w ≡ heard Wrong o
  unfolding hear onward noted
  marked_off = refl

  touched-mark : same w bang ≡ true → hear (heard Touched o) w ≡ heard Marked (operation o.name o.item o.writes true)
  unfolding hear onward noted
  touched-mark e = rw e refl

  touched_off : same w bang ≡ false → hear (heard Touched o) w ≡ heard Wrong o
  unfolding hear onward noted
  touched_off e = rw e refl

  doing_off : is_item w ≡ false → hear (heard Doing o) w ≡ heard Wrong o
  unfolding hear onward noted
  doing_off e = rw e refl

  named-verb : (same w reads || same w writes) ≡ true → hear (heard Named o) w ≡ heard Doing (operation o.name o.item (same w writes) o.marked)
  unfolding hear onward noted
  named-verb e = rw e refl

  named_off : (same w reads || same w writes) ≡ false → hear (heard Named o) w ≡ heard Wrong o
  unfolding hear onward noted
  named_off e = rw e refl

  blank_off : hear (heard Blank o) w ≡ heard Wrong o
  unfolding hear onward noted
  blank_off = refl

-- ---- behind the item

marked-only : (ws : List (List ℕ)) (o p : Operation) → said_of (hear_all (heard Marked o) ws) ≡ says p → (ws ≡ []) × (p ≡ o)
unfolding hear_all said_of said_at
marked-only [] o p e = (refl, same-says p o (sym e))
marked-only (w ∷ ws) o p e = never p (is_bad o (hear (heard Marked o) w) ws (marked_off o w) e)

-- a mark, or nothing
pub record Marks (o p : Operation) (ws : List (List ℕ)) : Type 0 where
  pub marked : Bool
  pub words : ws ≡ mark marked
  pub all : p ≡ operation o.name o.item o.writes marked

touched-only : (ws : List (List ℕ)) (o p : Operation) → o.marked ≡ false → said_of (hear_all (heard Touched o) ws) ≡ says p → Marks o p ws
unfolding hear_all said_of said_at
touched-only [] o p f e =
    record { marked = false; words = refl; all = same-says p o (sym e) ∙ ap (operation o.name o.item o.writes) f }
touched-only (w ∷ ws) o p f e =
    passed (same w bang)
    (λ t.
    let m = marked-only ws (operation o.name o.item o.writes true) p (heard_as (hear (heard Touched o) w) (heard Marked (operation o.name o.item o.writes true)) ws (touched-mark o w t) e) in
    record { marked = true; words = ap₂ (λ (v : List ℕ) (vs : List (List ℕ)). v ∷ vs) (same_equal w bang t) m.0; all = m.1 })
    (λ t. never p (is_bad o (hear (heard Touched o) w) ws (touched_off o w t) e))

-- ---- behind the name

-- which verb a word is
verb_is : (w : List ℕ) → (same w reads || same w writes) ≡ true → w ≡ verb (same w writes)
verb_is w e = go (same w writes) refl (same w reads) refl
  where
    go : (t : Bool) → same w writes ≡ t → (u : Bool) → same w reads ≡ u → w ≡ verb t
    go true f u g = same_equal w writes f
    go false f true g = same_equal w reads g
    go false f false g = absurd (false≢true (sym (ap₂ ◌||◌ g f) ∙ e))

pub record Parts (n : List ℕ) (p : Operation) (ws : List (List ℕ)) : Type 0 where
  pub writes : Bool
  pub digits : List ℕ
  pub item : is_item digits ≡ true
  pub marked : Bool
  pub words : ws ≡ verb writes ∷ digits ∷ mark marked
  pub all : p ≡ operation n (worth 0 digits) writes marked

doing_only : (n : List ℕ) (t : Bool) (ws : List (List ℕ)) (p : Operation) → said_of (hear_all (heard Doing (operation n 0 t false)) ws) ≡ says p → Parts n p (verb t ∷ ws)
unfolding hear_all said_of said_at
doing_only n t [] p e = never p (sym e)
doing_only n t (w ∷ ws) p e =
    passed (is_item w)
    (λ u.
    let m = touched-only ws (operation n (worth 0 w) t false) p refl (heard_as (hear (heard Doing (operation n 0 t false)) w) (heard Touched (operation n (worth 0 w) t false)) ws (hear-item n t w u) e) in
    record { writes = t; digits = w; item = u; marked = m.marked; words = ap (λ (vs : List (List ℕ)). verb t ∷ w ∷ vs) m.words; all = m.all })
    (λ u. never p (is_bad (operation n 0 t false) (hear (heard Doing (operation n 0 t false)) w) ws (doing_off (operation n 0 t false) w u) e))

named-only : (n : List ℕ) (ws : List (List ℕ)) (p : Operation) → said_of (hear_all (heard Named (operation n 0 false false)) ws) ≡ says p → Parts n p ws
unfolding hear_all said_of said_at
named-only n [] p e = never p (sym e)
named-only n (w ∷ ws) p e =
    passed (same w reads || same w writes)
    (λ u.
    subst (λ (v : List ℕ). Parts n p (v ∷ ws)) (sym (verb_is w u))
    (doing_only n (same w writes) ws p (heard_as (hear (heard Named (operation n 0 false false)) w) (heard Doing (operation n 0 (same w writes) false)) ws (named-verb (operation n 0 false false) w u) e)))
    (λ u. never p (is_bad (operation n 0 false false) (hear (heard Named (operation n 0 false false)) w) ws (named_off (operation n 0 false false) w u) e))

-- ---- a whole line

nothing : Operation
nothing = operation [] 0 false false

hear_empty : (w : List ℕ) → eqb (length w) 0 ≡ true → hear silence w ≡ heard Blank nothing
unfolding hear silence onward noted nothing
hear_empty w e = rw e refl

hear-named : (w : List ℕ) → eqb (length w) 0 ≡ false → is_name w ≡ true → hear silence w ≡ heard Named (operation w 0 false false)
unfolding hear silence onward noted
hear-named w e f = rw (e, f) refl

hear-other : (w : List ℕ) → eqb (length w) 0 ≡ false → is_name w ≡ false → hear silence w ≡ heard Wrong nothing
unfolding hear silence onward noted nothing
hear-other w e f = rw (e, f) refl

-- behind an empty word there is none
blank_only : (ws : List (List ℕ)) (o : Operation) (s : Said Operation) → said_of (hear_all (heard Blank o) ws) ≡ s → ((ws ≡ []) × (s ≡ comment)) ⊎ (s ≡ bad)
unfolding hear_all said_of said_at
blank_only [] o s e = inl (refl, sym e)
blank_only (w ∷ ws) o s e = inr (is_bad o (hear (heard Blank o) w) ws (blank_off o w) e)

first-only : (p : Operation) (ws : List (List ℕ)) → said_of (hear_all silence ws) ≡ says p → (n : List ℕ) × (vs : List (List ℕ)) × (ws ≡ n ∷ vs) × Name n × Parts n p vs
unfolding hear_all silence said_of said_at
first-only p [] e = never_comment p (sym e)
first-only p (w ∷ ws) e =
    passed (eqb (length w) 0)
    (λ t. ⊎_elim (λ c. never_comment p c.1) (λ b. never p b) (blank_only ws nothing (says p) (heard_as (hear silence w) (heard Blank nothing) ws (hear_empty w t) e)))
    (λ t.
    passed (is_name w)
    (λ u. (w, ws, refl, tested_name w u, named-only w ws p (heard_as (hear silence w) (heard Named (operation w 0 false false)) ws (hear-named w t u) e)))
    (λ u. never p (is_bad nothing (hear silence w) ws (hear-other w t u) e)))

-- ONLY WHAT A LINE SAYS IS READ
pub said-says : (line : List ℕ) (o : Operation) → said line ≡ says o → Says line o
unfolding said
said-says line o e =
    let f = first-only o (uncommented (words_of line)) e in
    let s = f.4 in
    subst (Says line) (sym s.all)
    (record {
      digits = s.digits;
      words = f.2 ∙ ap (λ (vs : List (List ℕ)). f.0 ∷ vs) s.words;
      named = f.3;
      item = tested_item s.digits s.item;
    })

-- ---- comments

doing_item : (o : Operation) (w : List ℕ) → is_item w ≡ true → hear (heard Doing o) w ≡ heard Touched (noted Touched w o)
unfolding hear onward
doing_item o w e = rw e refl

-- whatever has a name says something
named_talks : (n : List ℕ) (ws : List (List ℕ)) → said_of (hear_all (heard Named (operation n 0 false false)) ws) ≡ comment → ⊥
unfolding hear_all said_of said_at
named_talks n [] e = never_both_lem (sym e)
named_talks n (w ∷ ws) e =
    passed (same w reads || same w writes)
    (λ u. doing_talks (operation n 0 (same w writes) false) ws (heard_as (hear (heard Named (operation n 0 false false)) w) (heard Doing (operation n 0 (same w writes) false)) ws (named-verb (operation n 0 false false) w u) e))
    (λ u. never_both_lem (is_bad (operation n 0 false false) (hear (heard Named (operation n 0 false false)) w) ws (named_off (operation n 0 false false) w u) e))
  where
    marked_talks : (o : Operation) (vs : List (List ℕ)) → said_of (hear_all (heard Marked o) vs) ≡ comment → ⊥
    marked_talks o [] f = never_comment o f
    marked_talks o (v ∷ vs) f = never_both_lem (is_bad o (hear (heard Marked o) v) vs (marked_off o v) f)

    touched_talks : (o : Operation) (vs : List (List ℕ)) → said_of (hear_all (heard Touched o) vs) ≡ comment → ⊥
    touched_talks o [] f = never_comment o f
    touched_talks o (v ∷ vs) f =
        passed (same v bang)
        (λ u. marked_talks (operation o.name o.item o.writes true) vs (heard_as (hear (heard Touched o) v) (heard Marked (operation o.name o.item o.writes true)) vs (touched-mark o v u) f))
        (λ u. never_both_lem (is_bad o (hear (heard Touched o) v) vs (touched_off o v u) f))

    doing_talks : (o : Operation) (vs : List (List ℕ)) → said_of (hear_all (heard Doing o) vs) ≡ comment → ⊥
    doing_talks o [] f = never_both_lem (sym f)
    doing_talks o (v ∷ vs) f =
        passed (is_item v)
        (λ u. touched_talks (noted Touched v o) vs (heard_as (hear (heard Doing o) v) (heard Touched (noted Touched v o)) vs (doing_item o v u) f))
        (λ u. never_both_lem (is_bad o (hear (heard Doing o) v) vs (doing_off o v u) f))

first-comment : (ws : List (List ℕ)) → said_of (hear_all silence ws) ≡ comment → (ws ≡ []) ⊎ (ws ≡ [] ∷ [])
unfolding hear_all
first-comment [] e = inl refl
first-comment (w ∷ ws) e =
    passed (eqb (length w) 0)
    (λ t.
    ⊎_elim
    (λ c. inr (ap₂ (λ (v : List ℕ) (vs : List (List ℕ)). v ∷ vs) (no_bytes w t) c.0))
    (λ b. never_both_lem b)
    (blank_only ws nothing comment (heard_as (hear silence w) (heard Blank nothing) ws (hear_empty w t) e)))
    (λ t.
    passed (is_name w)
    (λ u. absurd (named_talks w ws (heard_as (hear silence w) (heard Named (operation w 0 false false)) ws (hear-named w t u) e)))
    (λ u. never_both_lem (is_bad nothing (hear silence w) ws (hear-other w t u) e)))

pub said-comment : (line : List ℕ) → said line ≡ comment → Comment line
unfolding said
said-comment line e = ⊎_elim (λ a. no_word a) (λ a. empty_word a) (first-comment (uncommented (words_of line)) e)
