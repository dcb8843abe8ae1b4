-- Whatever pieces the input comes in: at any time what comes of the bytes so far, and in the end the answers to its lines.
use Prim.Native.Nat.{ℕ, ◌+◌, ◌*◌, ◌-◌}
use mathlib.Core.Path.{◌≡◌, refl, sym, ap, ap₂, ◌∙◌}
use mathlib.Core.Bool.{Bool, true, false, cond, ◌&&◌}
use mathlib.Core.List.{List, [], ◌∷◌, ◌++◌, map, append-nil, append_assoc}
use native.Mathlib.Omega.{arith}
use lib.Dec.{eqb, leb, ltb}
use lib.ListN.{length, length-append}
use borrow.Author.Tests.{lt-ltb}
use Rattle.numerals.specs.Numbers.{digit, greatest}
use Rattle.lines.specs.Lines.{joined, lines_from, lines_of}
use Rattle.number_lines.specs.Lines.{Held, reads, spoilt, digit_after, ends, after, read_on, begun}
use Rattle.cases.specs.Cases.{most_numbers}
use Rattle.case_lines.specs.Answers.{unread, answer_at_end, answer_of, answers_of}
use Rattle.answering.specs.Life.{answers_in, left, answers_at_end, left_by, answers_in_all, put_out, SoFar, Lived}

-- ---- a line is begun where it has a byte

begun-cond : (g : Bool) (h k : Held) → begun h ≡ true → begun k ≡ true → begun (cond g h k) ≡ true
begun-cond true h k a b = a
begun-cond false h k a b = b

ends-begun : (room : ℕ) (h : Held) → begun (ends room h) ≡ true
unfolding begun ends
ends-begun room (reads ns v true) =
    begun-cond (ltb (length ns) room) (reads (ns ++ (v ∷ [])) 0 false) spoilt (lt-ltb 0 (length (ns ++ (v ∷ []))) (simp length-append (omega arith))) refl
ends-begun room (reads ns v false) = refl
ends-begun room spoilt = refl

digit-begun : (b : ℕ) (h : Held) → begun (digit_after b h) ≡ true
unfolding begun digit_after
digit-begun b (reads ns v g) = begun-cond (digit b && leb (v * 10 + (b - 48)) greatest) (reads ns (v * 10 + (b - 48)) true) spoilt refl refl
digit-begun b spoilt = refl

on_begun : (bs : List ℕ) (room b : ℕ) (h : Held) → begun (read_on room (after room h b) bs) ≡ true
unfolding read_on after
on_begun [] room b h = begun-cond (eqb b 32) (ends room h) (digit_after b h) (ends-begun room h) (digit-begun b h)
on_begun (d ∷ bs) room b h = on_begun bs room d (after room h b)

begun-read : (l : List ℕ) → begun (read_on most_numbers unread l) ≡ ltb 0 (length l)
unfolding read_on begun
begun-read [] = refl
begun-read (b ∷ l) = on_begun l most_numbers b unread ∙ sym (lt-ltb 0 (length (b ∷ l)) (omega arith))

-- ---- the whole input as one piece

read_more : (l : List ℕ) (room b : ℕ) (h : Held) → after room (read_on room h l) b ≡ read_on room h (l ++ (b ∷ []))
unfolding read_on
read_more [] room b h = refl
read_more (d ∷ l) room b h = read_more l room b (after room h d)

-- the machine has read l of a line
abbrev read : List ℕ → Held
read l = read_on most_numbers unread l

alone : (g : Bool) (l : List ℕ) → cond g (answer_of l) [] ≡ joined (map answer_of (cond {A = List (List ℕ)} g (l ∷ []) []))
unfolding joined
alone true l = sym (append-nil (answer_of l))
alone false l = refl

whole : (bs l : List ℕ) → answers_in (read l) bs ++ answers_at_end (left (read l) bs) ≡ joined (map answer_of (lines_from l bs))
unfolding answers_in left answers_at_end lines_from answer_of joined read_on
whole [] l = rw (begun-read l) (alone (ltb 0 (length l)) l)
whole (b ∷ bs) l = go (eqb b 10) refl (whole bs []) (whole bs (l ++ (b ∷ [])))
  where
    go : (g : Bool)
        → eqb b 10 ≡ g
        → answers_in (read []) bs ++ answers_at_end (left (read []) bs) ≡ joined (map answer_of (lines_from [] bs))
        → answers_in (read (l ++ (b ∷ []))) bs ++ answers_at_end (left (read (l ++ (b ∷ []))) bs) ≡ joined (map answer_of (lines_from (l ++ (b ∷ [])) bs))
        → answers_in (read l) (b ∷ bs) ++ answers_at_end (left (read l) (b ∷ bs)) ≡ joined (map answer_of (lines_from l (b ∷ bs)))
    go true e next on =
        rw e (append_assoc (answer_at_end (read l)) (answers_in unread bs) (answers_at_end (left unread bs)) ∙ ap (λ (x : List ℕ). answer_at_end (read l) ++ x) next)
    go false e next on = rw (e, read_more l most_numbers b unread) on

-- ---- piece after piece

answers-append : (bs cs : List ℕ) (h : Held) → answers_in h (bs ++ cs) ≡ answers_in h bs ++ answers_in (left h bs) cs
unfolding answers_in left
answers-append [] cs h = refl
answers-append (b ∷ bs) cs h = go (eqb b 10) refl (answers-append bs cs unread) (answers-append bs cs (after most_numbers h b))
  where
    go : (g : Bool)
        → eqb b 10 ≡ g
        → answers_in unread (bs ++ cs) ≡ answers_in unread bs ++ answers_in (left unread bs) cs
        → answers_in (after most_numbers h b) (bs ++ cs) ≡ answers_in (after most_numbers h b) bs ++ answers_in (left (after most_numbers h b) bs) cs
        → answers_in h (b ∷ (bs ++ cs)) ≡ answers_in h (b ∷ bs) ++ answers_in (left h (b ∷ bs)) cs
    go true e next on =
        rw e (ap (λ (x : List ℕ). answer_at_end h ++ x) next ∙ sym (append_assoc (answer_at_end h) (answers_in unread bs) (answers_in (left unread bs) cs)))
    go false e next on = rw e on

left-append : (bs cs : List ℕ) (h : Held) → left h (bs ++ cs) ≡ left (left h bs) cs
unfolding left
left-append [] cs h = refl
left-append (b ∷ bs) cs h = go (eqb b 10) refl (left-append bs cs unread) (left-append bs cs (after most_numbers h b))
  where
    go : (g : Bool)
        → eqb b 10 ≡ g
        → left unread (bs ++ cs) ≡ left (left unread bs) cs
        → left (after most_numbers h b) (bs ++ cs) ≡ left (left (after most_numbers h b) bs) cs
        → left h (b ∷ (bs ++ cs)) ≡ left (left h (b ∷ bs)) cs
    go true e next on = rw e next
    go false e next on = rw e on

left_all : (cs : List (List ℕ)) (h : Held) → left_by h cs ≡ left h (joined cs)
unfolding left_by joined left
left_all [] h = refl
left_all (c ∷ cs) h = left_all cs (left h c) ∙ sym (left-append c (joined cs) h)

answers_all : (cs : List (List ℕ)) (h : Held) → answers_in_all h cs ≡ answers_in h (joined cs)
unfolding answers_in_all joined answers_in
answers_all [] h = refl
answers_all (c ∷ cs) h = ap (λ (x : List ℕ). answers_in h c ++ x) (answers_all cs (left h c)) ∙ sym (answers-append c (joined cs) h)

pub so_far : SoFar
unfolding SoFar
so_far pieces = (left_all pieces unread, answers_all pieces unread)

pub lived : Lived
unfolding Lived put_out answers_of lines_of read_on
lived pieces =
    ap₂ (λ (x : List ℕ) (h : Held). x ++ answers_at_end h) (answers_all pieces unread) (left_all pieces unread) ∙ whole (joined pieces) []
