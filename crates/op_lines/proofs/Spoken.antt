-- A line that says an operation is read as that operation: the first half of "both ways".
use Prim.Native.Nat.{ℕ}
use mathlib.Core.Path.{◌≡◌, refl, sym, ap, ◌∙◌}
use mathlib.Core.Bool.{Bool, true, false}
use mathlib.Core.List.{List}
use native.Mathlib.Omega.{arith}
use lib.ListN.{length}
use borrow.Author.Tests.{ne_eqb}
use Rattle.numerals.specs.Numbers.{worth}
use Rattle.line_words.specs.Words.{is_item, same}
use Rattle.line_words.specs.Said.{Name, Comment, no_word, empty_word}
use Rattle.line_words.specs.Said.{comment, says}
use Rattle.line_words.proofs.Tested.{name_tested, item_tested}
use Rattle.op_lines.specs.Says.{Operation, operation, verb, bang, mark, Says}
use Rattle.op_lines.specs.Read.{onward, noted, Heard, heard, hear, hear_all, silence, said_at, said_of, said}
use Rattle.op_lines.specs.declared.stages.Stage.TheVariants.{Named, Doing, Touched, Marked}

-- ---- what a word leads to

pub hear-name : (w : List ℕ) → Name w → hear silence w ≡ heard Named (operation w 0 false false)
unfolding hear silence onward noted
hear-name w n = rw (ne_eqb (length w) 0 (λ z. omega (arith, n.some, z)), name_tested w n) refl

pub hear-verb : (n : List ℕ) (t : Bool) → hear (heard Named (operation n 0 false false)) (verb t) ≡ heard Doing (operation n 0 t false)
unfolding hear onward noted same
hear-verb n true = refl
hear-verb n false = refl

pub hear-item : (n : List ℕ) (t : Bool) (w : List ℕ) → is_item w ≡ true → hear (heard Doing (operation n 0 t false)) w ≡ heard Touched (operation n (worth 0 w) t false)
unfolding hear onward noted
hear-item n t w e = rw e refl

pub hear-mark : (o : Operation) → hear (heard Touched o) bang ≡ heard Marked (operation o.name o.item o.writes true)
unfolding hear onward noted same
hear-mark o = refl

marks : (n : List ℕ) (i : ℕ) (t m : Bool) → said_of (hear_all (heard Touched (operation n i t false)) (mark m)) ≡ says (operation n i t m)
unfolding hear_all said_of said_at
marks n i t true = ap said_of (hear-mark (operation n i t false))
marks n i t false = refl

-- WHAT A LINE SAYS IS READ
pub says-said : {line : List ℕ} {o : Operation} → Says line o → said line ≡ says o
unfolding said hear_all
says-said {line} {o} s =
    let rest = mark o.marked in
    ap (λ (ws : List (List ℕ)). said_of (hear_all silence ws)) s.words
    ∙ ap (λ (h : Heard). said_of (hear_all (hear (hear h (verb o.writes)) s.digits) rest)) (hear-name o.name s.named)
    ∙ ap (λ (h : Heard). said_of (hear_all (hear h s.digits) rest)) (hear-verb o.name o.writes)
    ∙ ap (λ (h : Heard). said_of (hear_all h rest)) (hear-item o.name o.writes s.digits (item_tested s.digits s.item))
    ∙ ap (λ (v : ℕ). said_of (hear_all (heard Touched (operation o.name v o.writes false)) rest)) s.item.value
    ∙ marks o.name o.item o.writes o.marked

-- no line says two operations
same_operation : (o p : Operation) → says o ≡ says p → o ≡ p
same_operation o p e = cc

pub says-once : {line : List ℕ} {o p : Operation} → Says line o → Says line p → o ≡ p
says-once {line} {o} {p} s t = same_operation o p (sym (says-said s) ∙ says-said t)

pub comment-said : {line : List ℕ} → Comment line → said line ≡ comment
unfolding said hear_all said_of silence hear onward noted said_at
comment-said (no_word e) = ap (λ (ws : List (List ℕ)). said_of (hear_all silence ws)) e
comment-said (empty_word e) = ap (λ (ws : List (List ℕ)). said_of (hear_all silence ws)) e
