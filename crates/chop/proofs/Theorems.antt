-- The promises of request E9, proved.
use Prim.Native.Nat.{ℕ, ◌≤◌, ◌<◌}
use mathlib.Core.Path.{◌≡◌, refl, sym, ◌∙◌, subst}
use mathlib.Core.Logic.{◌≢◌, ◌⊎◌, inl, inr}
use mathlib.Core.Bool.{Bool, true, false}
use mathlib.Core.List.{List}
use native.Mathlib.Omega.{arith}
use lib.ListN.{length}
use lib.Bits.{bit_and, bit_or}
use lib.Dec.{T, ltb}
use borrow.Author.Tests.{ltb-true, ltb-false}
use Rattle.rules.specs.Words.{bit}
use Rattle.rules.proofs.Tests.{and_both, and_left, and_right, or_cases, or_left, or_right}
use Rattle.words.proofs.SlotWords.{and_at, or_at}
use Rattle.graph.proofs.Sets.{meets_at, at_meets}
use Rattle.graph.proofs.Settling.{joined-way}
use Rattle.chop.specs.Pieces.{Piece, most, touched, clash}
use Rattle.chop.specs.Circles.{Circle}
use Rattle.chop.specs.Verdicts.{too_many_pieces, refused, accepted}
use Rattle.chop.specs.Judgement.{links_of, others, closing, turning, circle_at, judgement}
use Rattle.chop.specs.Promises.{RefusedExactly, ShowsCircle, CircleFits, Meeting, ClosesExactly, AcceptedExactly, TooManyExactly, AnswerTells, OneOutcome, Common, ClashExactly}
use Rattle.chop.proofs.Joining.{sibling-other, others-room}
use Rattle.chop.proofs.Closing.{goal_of, from_of, closed, closes}
use Rattle.chop.proofs.Shown.{shown-circle, shown-length, shown-fits}
use Rattle.chop.proofs.Found.{found}
use Rattle.chop.proofs.Told.{said_tells}
use Rattle.chop.proofs.Verdicts.{turning_closes, closes_turning, verdict-refused, verdict-accepted, judgement-many, judgement-few}

-- ---- the three ways of a judgement, and what is known in each
pub data Ways (ps : List Piece) : Type 0 where
  many : most < length ps → judgement ps ≡ too_many_pieces → Ways ps
  shows : length ps ≤ most → (l : List ℕ) → Circle ps l → length l ≤ most → judgement ps ≡ refused l → Ways ps
  none : length ps ≤ most → ((l : List ℕ) → Circle ps l → ⊥) → judgement ps ≡ accepted → Ways ps

ways : (ps : List Piece) → Ways ps
ways ps = count (ltb most (length ps)) refl
  where
    here : length ps ≤ most → (c : Bool) → ltb (turning ps (links_of ps)) (length ps) ≡ c → Ways ps
    here few true e =
        let b = turning ps (links_of ps) in
        let l = ltb-true b (length ps) e in
        let C = closed ps few b (turning_closes ps (links_of ps) l) in
        let n = shown-length ps few b l C in
        let m = shown-fits ps few b l C in
        shows few (circle_at ps (links_of ps) b) (shown-circle ps few b l C) (omega arith)
        (judgement-few ps few ∙ verdict-refused ps (links_of ps) b refl l)
    here few false e =
        let b = turning ps (links_of ps) in
        let m = ltb-false b (length ps) e in
        none few
        (λ l C.
        let f = found ps few l C in
        let t = closes_turning ps (links_of ps) f.0 f.1 f.2 in
        omega arith)
        (judgement-few ps few ∙ verdict-accepted ps (links_of ps) b refl m)

    count : (c : Bool) → ltb most (length ps) ≡ c → Ways ps
    count true e = let l = ltb-true most (length ps) e in many l (judgement-many ps l)
    count false e = here (ltb-false most (length ps) e) (ltb (turning ps (links_of ps)) (length ps)) refl

-- ---- verdicts differ
differ_many : (l : List ℕ) → too_many_pieces ≡ refused l → ⊥
differ_many l e = let z : ◌≡◌ {A = ℕ} 0 1 = cc in omega arith

differ_none : (l : List ℕ) → accepted ≡ refused l → ⊥
differ_none l e = let z : ◌≡◌ {A = ℕ} 0 1 = cc in omega arith

differ_accepted : too_many_pieces ≡ accepted → ⊥
differ_accepted e = let z : ◌≡◌ {A = ℕ} 0 1 = cc in omega arith

same-circle : (l k : List ℕ) → refused l ≡ refused k → l ≡ k
same-circle l k e = cc

-- ---- the promises
pub refused_exactly : RefusedExactly
refused_exactly ps few = (λ r. go r (ways ps), λ r. back r (ways ps))
  where
    go : (l : List ℕ) × (judgement ps ≡ refused l) → Ways ps → (l : List ℕ) × Circle ps l
    go r (many l e) = absurd (omega arith)
    go r (shows f l C m e) = (l, C)
    go r (none f n e) = absurd (differ_none r.0 (sym e ∙ r.1))

    back : (l : List ℕ) × Circle ps l → Ways ps → (l : List ℕ) × (judgement ps ≡ refused l)
    back r (many l e) = absurd (omega arith)
    back r (shows f l C m e) = (l, e)
    back r (none f n e) = absurd (n r.0 r.1)

pub shows-circle : ShowsCircle
shows-circle ps l e = go (ways ps)
  where
    go : Ways ps → Circle ps l
    go (many m f) = absurd (differ_many l (sym f ∙ e))
    go (shows f k C m g) = subst (Circle ps) (same-circle k l (sym g ∙ e)) C
    go (none f n g) = absurd (differ_none l (sym g ∙ e))

pub circle-fits : CircleFits
circle-fits ps l e = go (ways ps)
  where
    go : Ways ps → length l ≤ most
    go (many m f) = absurd (differ_many l (sym f ∙ e))
    go (shows f k C m g) = subst (λ (x : List ℕ). length x ≤ most) (same-circle k l (sym g ∙ e)) m
    go (none f n g) = absurd (differ_none l (sym g ∙ e))

pub accepted_exactly : AcceptedExactly
accepted_exactly ps = (λ e. go e (ways ps), λ r. back r (ways ps))
  where
    go : judgement ps ≡ accepted → Ways ps → (length ps ≤ most) × ((l : List ℕ) → Circle ps l → ⊥)
    go e (many m f) = absurd (differ_accepted (sym f ∙ e))
    go e (shows f l C m g) = absurd (differ_none l (sym e ∙ g))
    go e (none f n g) = (f, n)

    back : (length ps ≤ most) × ((l : List ℕ) → Circle ps l → ⊥) → Ways ps → judgement ps ≡ accepted
    back r (many m f) = let l = r.0 in absurd (omega arith)
    back r (shows f l C m g) = absurd (r.1 l C)
    back r (none f n g) = g

pub too_many_exactly : TooManyExactly
too_many_exactly ps = (λ e. go e (ways ps), judgement-many ps)
  where
    go : judgement ps ≡ too_many_pieces → Ways ps → most < length ps
    go e (many m f) = m
    go e (shows f l C m g) = absurd (differ_many l (sym e ∙ g))
    go e (none f n g) = absurd (differ_accepted (sym e ∙ g))

pub closes_exactly : ClosesExactly
closes_exactly ps b few = (there, back)
  where
    there : closing ps (links_of ps) b ≢ 0 → Meeting ps b
    there d =
        let C = closed ps few b d in
        let a = goal_of ps few b in
        let c = from_of ps few b in
        let R = others-room ps b a C.goal_known (λ e. sibling-other ps b a C.goal_sibling (sym e)) in
        let v = joined-way (links_of ps) (others (length ps) b) a R c C.reached in
        record {
          sibling = a;
          other = c;
          links = v.0;
          sibling_known = C.goal_known;
          other_known = C.from_known;
          sibling_is = C.goal_sibling;
          other_is = C.from_conflict;
          way = v.1;
        }

    back : Meeting ps b → closing ps (links_of ps) b ≢ 0
    back M = closes ps few b M.sibling M.other M.links M.sibling_known M.other_known M.sibling_is M.other_is M.way

pub answer_tells : AnswerTells
answer_tells = said_tells

pub one_outcome : OneOutcome
one_outcome ps v e = answer_tells v (judgement ps) e

-- ---- a clash is a common item
pub clash_exactly : ClashExactly
clash_exactly p q = (λ t. there t, λ r. back r.0 r.1)
  where
    there : T (clash p q) → (x : ℕ) × Common p q x
    there t =
        let m = meets_at (bit_and (touched p) (touched q)) (bit_or p.writes q.writes) t in
        let x = m.0 in
        let c = subst T (and_at (touched p) (touched q) x) m.1 in (
          x,
          record {
            here = or_cases (bit p.reads x) (bit p.writes x) (subst T (or_at p.reads p.writes x) (and_left (bit (touched p) x) (bit (touched q) x) c));
            there = or_cases (bit q.reads x) (bit q.writes x) (subst T (or_at q.reads q.writes x) (and_right (bit (touched p) x) (bit (touched q) x) c));
            written = or_cases (bit p.writes x) (bit q.writes x) (subst T (or_at p.writes q.writes x) m.2);
          },
        )

    either : (a b x : ℕ) → T (bit a x) ⊎ T (bit b x) → T (bit (bit_or a b) x)
    either a b x (inl t) = subst T (sym (or_at a b x)) (or_left (bit a x) (bit b x) t)
    either a b x (inr t) = subst T (sym (or_at a b x)) (or_right (bit a x) (bit b x) t)

    back : (x : ℕ) → Common p q x → T (clash p q)
    back x C =
        at_meets (bit_and (touched p) (touched q)) (bit_or p.writes q.writes) x
        (subst T (sym (and_at (touched p) (touched q) x))
        (and_both (bit (touched p) x) (bit (touched q) x) (either p.reads p.writes x C.here) (either q.reads q.writes x C.there)))
        (either p.writes q.writes x C.written)
