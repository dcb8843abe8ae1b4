-- What the search for a circle is handed: how many, and that they are few; links that a loop writes down one by one.
use Prim.Native.Nat.{ℕ, zero, suc, ◌+◌, ◌/◌, ◌≤◌, ◌<◌}
use mathlib.Core.Path.{◌≡◌, sym, ap, ◌∙◌, subst}
use mathlib.Core.List.{List, [], ◌∷◌, ◌++◌}
use native.Mathlib.Nat.{add-zero, suc-add, add-suc, zero-add}
use native.Mathlib.Numerals.{add-one}
use lib.ListN.{length, take, set}
use lib.Seq.{take-suc-set}
use Rattle.rules.specs.Words.{tabulate_from}
use Rattle.chop.specs.Pieces.{most, pieces_of}
use Rattle.chop.specs.Linked.{Linked}
use Rattle.chop.proofs.InRows.{length-pieces}
use Rattle.chop.proofs.Joining.{links-length}

module _ (words links : List ℕ) (L : Linked words links) where
  -- as many links as pieces
  pub as_many : length links ≡ length (pieces_of words)
  as_many = ap length L.are ∙ links-length (pieces_of words)

  pub as_rows : length links ≡ length words / 3
  as_rows = as_many ∙ length-pieces words

  pub few-pieces : length (pieces_of words) ≤ most
  few-pieces = subst (λ (n : ℕ). n ≤ most) as_many L.few

-- a list of one more
tabulate_more : {A : Type 0} (n i : ℕ) (f : ℕ → A) → tabulate_from i (suc n) f ≡ tabulate_from i n f ++ (f (i + n) ∷ [])
unfolding tabulate_from
tabulate_more zero i f = ap (λ (k : ℕ). f k ∷ []) (sym (add-zero i))
tabulate_more (suc n) i f =
    ap (λ l. f i ∷ l) (tabulate_more n (suc i) f ∙ ap (λ (k : ℕ). tabulate_from (suc i) n f ++ (f k ∷ [])) (suc-add i n ∙ sym (add-suc i n)))

-- one turn of a loop that writes f 0, f 1, .. into a list
pub tabulate_turn :
    (f : ℕ → ℕ) (n x : ℕ) (out : List ℕ) → n < length out → take n out ≡ tabulate_from 0 n f → x ≡ f n
    → take (n + 1) (set out n x) ≡ tabulate_from 0 (n + 1) f
tabulate_turn f n x out l e q =
    ap (λ (k : ℕ). take k (set out n x)) (add-one n)
    ∙ take-suc-set out n x l
    ∙ ap (λ (xs : List ℕ). xs ++ (x ∷ [])) e
    ∙ ap (λ (y : ℕ). tabulate_from 0 n f ++ (y ∷ [])) (q ∙ ap f (sym (zero-add n)))
    ∙ sym (tabulate_more n 0 f)
    ∙ ap (λ (k : ℕ). tabulate_from 0 k f) (sym (add-one n))
