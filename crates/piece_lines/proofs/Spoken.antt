-- A line that says a piece is read as that piece: the first half of "both ways".
use Prim.Native.Nat.{ℕ}
use mathlib.Core.Path.{◌≡◌, refl, sym, ap, ◌∙◌}
use mathlib.Core.Bool.{true}
use mathlib.Core.List.{List, [], ◌∷◌, ◌++◌, append-nil, append_assoc}
use native.Mathlib.Omega.{arith}
use lib.ListN.{length}
use borrow.Author.Tests.{ne_eqb}
use Rattle.rules.specs.Words.{every}
use Rattle.numerals.specs.Numbers.{worth}
use Rattle.line_words.specs.Words.{is_item, same, reads, writes}
use Rattle.line_words.proofs.Tested.{name_tested, item_tested}
use Rattle.piece_lines.specs.Says.{Piece, piece, Items, part, Says}
use Rattle.line_words.specs.Said.{Name, Comment, no_word, empty_word}
use Rattle.piece_lines.specs.Read.{onward, noted, Heard, heard, hear, hear_all, silence, said_at, said_of, said}
use Rattle.line_words.specs.Said.{comment, says}
use Rattle.piece_lines.specs.declared.stages.Stage.{Stage}
use Rattle.piece_lines.specs.declared.stages.Stage.TheVariants.{Named, ToRead, Reading, ToWrite, Writing}

-- ---- what a word leads to

module _ (n r x : List ℕ) where
  pub hear-reads : hear (heard Named (piece n r x)) reads ≡ heard ToRead (piece n r x)
  unfolding hear onward noted same
  hear-reads = refl

  pub hear-writes : hear (heard Named (piece n r x)) writes ≡ heard ToWrite (piece n r x)
  unfolding hear onward noted same
  hear-writes = refl

  pub hear_then_writes : hear (heard Reading (piece n r x)) writes ≡ heard ToWrite (piece n r x)
  unfolding hear onward noted same is_item every
  hear_then_writes = refl

  module _ (w : List ℕ) (e : is_item w ≡ true) where
    pub hear-read : hear (heard Reading (piece n r x)) w ≡ heard Reading (piece n (r ++ (worth 0 w ∷ [])) x)
    unfolding hear onward noted
    hear-read = rw e refl

    pub hear-first-read : hear (heard ToRead (piece n r x)) w ≡ heard Reading (piece n (r ++ (worth 0 w ∷ [])) x)
    unfolding hear onward noted
    hear-first-read = rw e refl

    pub hear-written : hear (heard Writing (piece n r x)) w ≡ heard Writing (piece n r (x ++ (worth 0 w ∷ [])))
    unfolding hear onward noted
    hear-written = rw e refl

    pub hear-first-written : hear (heard ToWrite (piece n r x)) w ≡ heard Writing (piece n r (x ++ (worth 0 w ∷ [])))
    unfolding hear onward noted
    hear-first-written = rw e refl

pub hear-name : (w : List ℕ) → Name w → hear silence w ≡ heard Named (piece w [] [])
unfolding hear silence onward noted
hear-name w n = rw (ne_eqb (length w) 0 (λ z. omega (arith, n.some, z)), name_tested w n) refl

-- ---- items

with_more : (r ns : List ℕ) (i : ℕ) → (r ++ (i ∷ [])) ++ ns ≡ r ++ (i ∷ ns)
with_more r ns i = append_assoc r (i ∷ []) ns

read_on : {ws : List (List ℕ)} {ns : List ℕ} (n r x : List ℕ) (rest : List (List ℕ)) → Items ws ns → hear_all (heard Reading (piece n r x)) (ws ++ rest) ≡ hear_all (heard Reading (piece n (r ++ ns) x)) rest
unfolding hear_all
read_on n r x rest Items.none = ap (λ (l : List ℕ). hear_all (heard Reading (piece n l x)) rest) (sym (append-nil r))
read_on n r x rest (Items.more {w} {i} {ws} {is = ns} m is) =
    ap (λ (h : Heard). hear_all h (ws ++ rest)) (hear-read n r x w (item_tested w m) ∙ ap (λ (v : ℕ). heard Reading (piece n (r ++ (v ∷ [])) x)) m.value)
    ∙ read_on n (r ++ (i ∷ [])) x rest is
    ∙ ap (λ (l : List ℕ). hear_all (heard Reading (piece n l x)) rest) (with_more r ns i)

write_on : {ws : List (List ℕ)} {ns : List ℕ} (n r x : List ℕ) → Items ws ns → hear_all (heard Writing (piece n r x)) ws ≡ heard Writing (piece n r (x ++ ns))
unfolding hear_all
write_on n r x Items.none = ap (λ (l : List ℕ). heard Writing (piece n r l)) (sym (append-nil x))
write_on n r x (Items.more {w} {i} {ws} {is = ns} m is) =
    ap (λ (h : Heard). hear_all h ws) (hear-written n r x w (item_tested w m) ∙ ap (λ (v : ℕ). heard Writing (piece n r (x ++ (v ∷ [])))) m.value)
    ∙ write_on n r (x ++ (i ∷ [])) is
    ∙ ap (λ (l : List ℕ). heard Writing (piece n r l)) (with_more x ns i)

-- ---- parts

-- `writes` and its items, where they may come
module _ (n r : List ℕ) where
  written-part : {ws : List (List ℕ)} {ns : List ℕ} (s : Stage) → hear (heard s (piece n r [])) writes ≡ heard ToWrite (piece n r []) → said_at s (piece n r []) ≡ says (piece n r []) → Items ws ns → said_of (hear_all (heard s (piece n r [])) (part writes ws)) ≡ says (piece n r ns)
  unfolding part hear_all said_of said_at
  written-part s e f Items.none = f
  written-part s e f (Items.more {w} {i} {ws} {is = ns} m is) =
      ap (λ (h : Heard). said_of (hear_all h ws)) (ap (λ (h : Heard). hear h w) e ∙ hear-first-written n r [] w (item_tested w m) ∙ ap (λ (v : ℕ). heard Writing (piece n r (v ∷ []))) m.value)
      ∙ ap said_of (write_on n r (i ∷ []) is)

parts : {rs ws : List (List ℕ)} {ns ms : List ℕ} (n : List ℕ) → Items rs ns → Items ws ms → said_of (hear_all (heard Named (piece n [] [])) (part reads rs ++ part writes ws)) ≡ says (piece n ns ms)
unfolding part hear_all said_at
parts {ws = ws} n Items.none js = written-part n [] Named (hear-writes n [] []) refl js
parts {ws = ws} n (Items.more {w} {i} {ws = vs} {is = ns} m is) js =
    ap (λ (h : Heard). said_of (hear_all h (vs ++ part writes ws))) (ap (λ (h : Heard). hear h w) (hear-reads n [] []) ∙ hear-first-read n [] [] w (item_tested w m) ∙ ap (λ (v : ℕ). heard Reading (piece n (v ∷ []) [])) m.value)
    ∙ ap said_of (read_on n (i ∷ []) [] (part writes ws) is)
    ∙ written-part n (i ∷ ns) Reading (hear_then_writes n (i ∷ ns) []) refl js

-- WHAT A LINE SAYS IS READ
pub says-said : {line : List ℕ} {p : Piece} → Says line p → said line ≡ says p
unfolding said hear_all
says-said {line} {p} s =
    ap (λ (ws : List (List ℕ)). said_of (hear_all silence ws)) s.words
    ∙ ap (λ (h : Heard). said_of (hear_all h (part reads s.read ++ part writes s.written))) (hear-name p.name s.named)
    ∙ parts p.name s.items-read s.items-written

-- no line says two pieces
same-piece : (p q : Piece) → says p ≡ says q → p ≡ q
same-piece p q e = cc

pub says-once : {line : List ℕ} {p q : Piece} → Says line p → Says line q → p ≡ q
says-once {line} {p} {q} s t = same-piece p q (sym (says-said s) ∙ says-said t)

pub comment-said : {line : List ℕ} → Comment line → said line ≡ comment
unfolding said hear_all said_of silence hear onward noted said_at
comment-said (no_word e) = ap (λ (ws : List (List ℕ)). said_of (hear_all silence ws)) e
comment-said (empty_word e) = ap (λ (ws : List (List ℕ)). said_of (hear_all silence ws)) e
