-- The refusal as the code makes it: the ways that it asks for fit, and the circle with zeros behind it is the one that is shown.
use Prim.Native.Nat.{ℕ, zero, suc, ◌+◌, ◌-◌, ◌≤◌, ◌<◌}
use mathlib.Core.Path.{◌≡◌, sym, ap, ap₂, ◌∙◌, subst}
use mathlib.Core.Logic.{◌≢◌}
use mathlib.Core.List.{List, [], ◌∷◌, ◌++◌, append-nil}
use native.Mathlib.Omega.{arith}
use native.Mathlib.Nat.{sub-zero, zero-sub}
use lib.ListN.{length, drop, replicate}
use Rattle.graph.specs.Sets.{lowest}
use Rattle.graph.specs.Near.{distance, way_from, path}
use Rattle.chop.specs.declared.Finding.TheVariants.{Refused}
use Rattle.chop.specs.Pieces.{Piece, most, pieces_of}
use Rattle.chop.specs.Verdicts.{shows}
use Rattle.chop.specs.Judgement.{siblings_of, others, closing, circle_at}
use Rattle.chop.specs.Linked.{Linked}
use Rattle.chop.proofs.Closing.{Closed, closed}
use Rattle.chop.proofs.Shown.{shown-length, shown-fits}
use Rattle.chop.proofs.Linking.{as_many, few-pieces}

-- zeros, and fewer of them
abbrev zeros : ℕ → List ℕ
zeros n = replicate n 0

drop-zeros : (k n : ℕ) → drop k (zeros n) ≡ zeros (n - k)
drop-zeros zero n = ap zeros (sym (sub-zero n))
drop-zeros (suc k) zero = ap zeros (sym (zero-sub (suc k)))
drop-zeros (suc k) (suc n) = drop-zeros k n ∙ ap zeros (let e : n - k ≡ suc n - suc k = omega arith in e)

module _ (words links : List ℕ) (L : Linked words links) (b : ℕ) (known : b < length links) (some : closing (pieces_of words) links b ≢ 0) where
  abbrev ps : List Piece
  ps = pieces_of words

  few : length (pieces_of words) ≤ most
  few = few-pieces words links L

  C : Closed (pieces_of words) few b
  C = closed ps few b (subst (λ (w : List ℕ). closing ps w b ≢ 0) L.are some)

  inside : b < length (pieces_of words)
  inside = subst (λ (n : ℕ). b < n) (as_many words links L) known

  goal_fits : lowest (siblings_of ps b) < 64
  goal_fits = let g = C.goal_known in let f = few in omega arith

  from-fits : lowest (closing ps links b) < 64
  from-fits =
      subst (λ (w : List ℕ). lowest (closing ps w b) < 64) (sym L.are)
      (let g = C.from_known in let f = few in omega arith)

  count_fits : distance links (others (length ps) b) (lowest (siblings_of ps b)) (lowest (closing ps links b)) + 2 ≤ most
  count_fits =
      subst (λ (w : List ℕ). distance w (others (length ps) b) (lowest (siblings_of ps b)) (lowest (closing ps w b)) + 2 ≤ most) (sym L.are)
      (let g = shown-fits ps few b inside C in let f = few in omega arith)

  size : length (circle_at ps links b) ≡ distance links (others (length ps) b) (lowest (siblings_of ps b)) (lowest (closing ps links b)) + 2
  size =
      subst (λ (w : List ℕ). length (circle_at ps w b) ≡ distance w (others (length ps) b) (lowest (siblings_of ps b)) (lowest (closing ps w b)) + 2) (sym L.are)
      (shown-length ps few b inside C)

  -- what the code computes on its way
  pub record Asked (room goal from count : ℕ) : Type 0 where
    pub room_is : room ≡ others (length links) b
    pub goal_is : goal ≡ lowest (siblings_of ps b)
    pub from_is : from ≡ lowest (closing ps links b)
    pub count_is : count ≡ distance links room goal from

  pub goal_small : (goal : ℕ) → goal ≡ lowest (siblings_of ps b) → goal < 64
  goal_small goal e = let g = goal_fits in omega arith

  pub from-small : (from : ℕ) → from ≡ lowest (closing ps links b) → from < 64
  from-small from e = let g = from-fits in omega arith

  module _ (room goal from count : ℕ) (A : Asked room goal from count) where
    room_is_lem : room ≡ others (length ps) b
    room_is_lem = A.room_is ∙ ap (λ (n : ℕ). others n b) (as_many words links L)

    count_is_lem : count ≡ distance links (others (length ps) b) (lowest (siblings_of ps b)) (lowest (closing ps links b))
    count_is_lem = A.count_is ∙ ap₂ (λ (r g : ℕ). distance links r g from) room_is_lem A.goal_is ∙ ap (distance links (others (length ps) b) (lowest (siblings_of ps b))) A.from_is

    pub count_small : count + 2 ≤ most
    count_small = let f = count_fits in let e = count_is_lem in omega arith

    way_is : b ∷ way_from links room goal count from ≡ circle_at ps links b
    unfolding circle_at path
    way_is =
        ap₂ (λ (r g : ℕ). b ∷ way_from links r g count from) room_is_lem A.goal_is
        ∙ ap₂ (λ (k f : ℕ). b ∷ way_from links (others (length ps) b) (lowest (siblings_of ps b)) k f) count_is_lem A.from_is

    long : length (circle_at ps links b) ≡ count + 2
    long = let s = size in let e = count_is_lem in omega arith

    pub refusal_is :
        (x : List ℕ) → x ≡ way_from links room goal count from ++ drop (count + 1) (zeros 31)
        → record { finding = Refused; length = count + 2; circle = b ∷ (x ++ []) } ≡ shows Refused (circle_at ps links b)
    unfolding shows
    refusal_is x e =
        let z : zeros (31 - (count + 1)) ≡ zeros (most - length (circle_at ps links b)) = ap zeros (let s = long in let t : 31 - (count + 1) ≡ 32 - length (circle_at ps links b) = omega arith in t) in
        let p : b ∷ (x ++ []) ≡ circle_at ps links b ++ zeros (most - length (circle_at ps links b)) =
        ap (λ (l : List ℕ). b ∷ l) (append-nil x ∙ e ∙ ap (λ (l : List ℕ). way_from links room goal count from ++ l) (drop-zeros (count + 1) 31 ∙ z))
        ∙ ap (λ (l : List ℕ). l ++ zeros (most - length (circle_at ps links b))) way_is in
        λ i. record { finding = Refused; length = sym long i; circle = p i }
