-- A way that is put into a list, a vertex a turn: what the loop knows before each.
use Prim.Native.Nat.{ℕ, suc, ◌+◌, ◌-◌, ◌<◌}
use mathlib.Core.Path.{◌≡◌, refl, sym, ap, ◌∙◌}
use mathlib.Core.List.{List, [], ◌∷◌, ◌++◌, append_assoc}
use native.Mathlib.Omega.{arith}
use native.Mathlib.Numerals.{add-one}
use lib.ListN.{length, take, drop, get_or, set, length-set}
use lib.Seq.{take-suc-set, drop-set-lt, drop-drop, set_split}
use lib.Bits.{bit_and}
use Rattle.graph.specs.Sets.{lowest}
use Rattle.graph.specs.Near.{near, way_from}

module _ (w : List ℕ) (room goal from count : ℕ) (old : List ℕ) where
  -- what is laid before `place`, and the way that is left, is the whole way; from `place` on nothing was changed
  pub record Laying (out : List ℕ) (at place : ℕ) : Type 0 where
    pub size : length out ≡ length old
    pub laid : take place out ++ way_from w room goal (count - place) at ≡ way_from w room goal count from
    pub rest : drop place out ≡ drop place old

  pub lay_start : Laying old from 0
  lay_start = record { size = refl; laid = ap (λ (k : ℕ). way_from w room goal k from) (let e : count - 0 ≡ count = omega arith in e); rest = refl }

  pub lay_step :
      (out : List ℕ) (at place next : ℕ) → count < length old → place < count
      → next ≡ lowest (bit_and (get_or w at 0) (near w room goal (count - place - 1))) → Laying out at place
      → Laying (set out place at) next (place + 1)
  unfolding way_from
  lay_step out at place next fits l n L =
      let k = count - place - 1 in
      let q : count - place ≡ suc k = omega arith in
      let q2 : count - (place + 1) ≡ k = omega arith in
      let b : place < length out = (let z = L.size in omega arith) in
      let tail = way_from w room goal k next in
      record {
        size = length-set out place at ∙ L.size;
        laid =
            ap (λ (j : ℕ). take (place + 1) (set out place at) ++ way_from w room goal j next) q2
            ∙ ap (λ (n : ℕ). take n (set out place at) ++ tail) (add-one place)
            ∙ ap (λ (xs : List ℕ). xs ++ tail) (take-suc-set out place at b)
            ∙ append_assoc (take place out) (at ∷ []) tail
            ∙ ap (λ (x : ℕ). take place out ++ (at ∷ way_from w room goal k x)) n
            ∙ ap (λ (j : ℕ). take place out ++ way_from w room goal j at) (sym q)
            ∙ L.laid;
        rest =
            drop-set-lt (place + 1) out place at (omega arith)
            ∙ sym (drop-drop 1 place out)
            ∙ ap (drop 1) L.rest
            ∙ drop-drop 1 place old;
      }

  pub lay_end :
      (out : List ℕ) (at place : ℕ) → count < length old → place ≡ count → Laying out at place
      → set out count at ≡ way_from w room goal count from ++ drop (count + 1) old
  unfolding way_from
  lay_end out at place fits p L =
      let z : count - place ≡ 0 = omega arith in
      let b : place < length out = (let z = L.size in omega arith) in
      let r : drop (suc place) out ≡ drop (suc place) old =
      ap (λ (n : ℕ). drop n out) (sym (add-one place)) ∙ sym (drop-drop 1 place out) ∙ ap (drop 1) L.rest ∙ drop-drop 1 place old ∙ ap (λ (n : ℕ). drop n old) (add-one place) in
      let e : take place out ++ (at ∷ []) ≡ way_from w room goal count from = ap (λ (n : ℕ). take place out ++ way_from w room goal n at) (sym z) ∙ L.laid in
      ap (λ (n : ℕ). set out n at) (sym p)
      ∙ set_split out place at b
      ∙ sym (append_assoc (take place out) (at ∷ []) (drop (suc place) out))
      ∙ ap (λ (xs : List ℕ). xs ++ drop (suc place) out) e
      ∙ ap (λ (xs : List ℕ). way_from w room goal count from ++ xs) (r ∙ ap (λ (n : ℕ). drop n old) (let f : suc place ≡ count + 1 = omega arith in f))
