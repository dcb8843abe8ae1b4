-- What is found shows a circle that fits, and its line; how long a line is; places counted from 1.
use Prim.Native.Nat.{ℕ, suc, ◌+◌, ◌-◌, ◌<◌, ◌≤◌}
use mathlib.Core.Path.{◌≡◌, refl, sym, ap, ap₂, subst, ◌∙◌}
use mathlib.Core.List.{List, [], ◌∷◌, ◌++◌, map}
use native.Mathlib.Numerals.{add-one}
use native.Mathlib.Omega.{arith}
use lib.ListN.{length, get_or, take, set, replicate, length-append, length-take, get_or-append}
use lib.Seq.{take_at, take-suc-set}
use Rattle.texts.proofs.Written.{text_next}
use Rattle.numerals.proofs.Decimals.{length-spaced}
use Rattle.chop.specs.Pieces as chop
use Rattle.chop.specs.Verdicts.{Verdict, too_many_pieces, unknown_item, malformed, refused, accepted, shows, said}
use Rattle.chop.specs.Judgement.{judgement}
use Rattle.chop.specs.declared.Judged.{Judged}
use Rattle.chop.specs.declared.Finding.{Finding}
use Rattle.chop.specs.declared.Finding.TheVariants.{TooManyPieces, UnknownItem, Malformed, Refused, Accepted}
use Rattle.chop.proofs.Theorems.{shows-circle, circle-fits}
use Rattle.finding_lines.specs.Lines.{refused_line, line_for, verdict_line, longest_line, Shown}

-- ---- what is shown

-- with no circle
pub shown-plain : (f : Finding) (j : Judged) → j ≡ shows f [] → Shown j
unfolding shows
shown-plain f j e = subst Shown (sym e) (record { most = omega arith; places = λ k l. absurd (omega arith) })

pub shown : (ps : List chop.Piece) (j : Judged) → j ≡ said (judgement ps) → length ps ≤ 32 → Shown j
unfolding said shows
shown ps j e h = subst Shown (sym e) (go (judgement ps) refl)
  where
    circle : (l : List ℕ) → judgement ps ≡ refused l → Shown (shows Refused l)
    circle l q = record {
      most = circle-fits ps l q;
      places = λ k b. let c = shows-circle ps l q in let g = c.known k b in rw (get_or-append l (replicate (32 - length l) 0) 0 k b) (omega arith);
    }

    go : (v : Verdict) → judgement ps ≡ v → Shown (said v)
    go too_many_pieces q = shown-plain TooManyPieces (shows TooManyPieces []) refl
    go unknown_item q = shown-plain UnknownItem (shows UnknownItem []) refl
    go malformed q = shown-plain Malformed (shows Malformed []) refl
    go (refused l) q = circle l q
    go accepted q = shown-plain Accepted (shows Accepted []) refl

pub line_for_lem : (v : Verdict) → line_for (said v).finding (take (said v).length (said v).circle) ≡ verdict_line v
unfolding said shows verdict_line
line_for_lem too_many_pieces = refl
line_for_lem unknown_item = refl
line_for_lem malformed = refl
line_for_lem (refused l) = ap refused_line (take_at l (replicate (32 - length l) 0) (length l) refl)
line_for_lem accepted = refl

-- ---- how long a line is

pub map-length : (l : List ℕ) → length (map suc l) ≡ length l
map-length [] = refl
map-length (x ∷ xs) = ap suc (map-length xs)

pub refused-most : (l : List ℕ) → length l ≤ 32 → length (refused_line l) ≤ longest_line
unfolding refused_line
refused-most l h = simp length-append (omega (arith, length-spaced (map suc l), map-length l))

pub line-most : (f : Finding) (l : List ℕ) → length l ≤ 32 → length (line_for f l) ≤ longest_line
line-most TooManyPieces l h = omega arith
line-most UnknownItem l h = omega arith
line-most Malformed l h = omega arith
line-most Refused l h = refused-most l h
line-most Accepted l h = omega arith

pub line-fits : (j : Judged) → Shown j → length (line_for j.finding (take j.length j.circle)) ≤ longest_line
line-fits j s = line-most j.finding (take j.length j.circle) (simp length-take (omega (arith, s.most)))

-- ---- places counted from 1

map_snoc : (l : List ℕ) (x : ℕ) → map suc (l ++ (x ∷ [])) ≡ map suc l ++ (suc x ∷ [])
map_snoc [] x = refl
map_snoc (y ∷ ys) x = ap (λ (k : List ℕ). suc y ∷ k) (map_snoc ys x)

pub one_place : (circle places : List ℕ) (k : ℕ) → k < length circle → k < length places → take k places ≡ map suc (take k circle) → take (k + 1) (set places k (get_or circle k 0 + 1)) ≡ map suc (take (k + 1) circle)
one_place circle places k h g e =
    ap (λ (n : ℕ). take n (set places k (get_or circle k 0 + 1))) (add-one k)
    ∙ take-suc-set places k (get_or circle k 0 + 1) g
    ∙ ap₂ (λ (l : List ℕ) (x : ℕ). l ++ (x ∷ [])) e (add-one (get_or circle k 0))
    ∙ sym (map_snoc (take k circle) (get_or circle k 0))
    ∙ ap (map suc) (text_next circle k h)
