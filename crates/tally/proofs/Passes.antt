-- The count of differing words, word by word from the left.
use Rattle.std.proofs.Common.{◌≡◌, ℕ, suc, ◌+◌, ◌<◌, ◌≤◌, Bool, cond, eqb, List, [], length, get_or, drop, sym, ap, ◌∙◌, add-one, arith, drop_of_length-le, get_or-drop, drop-cons, drop-drop, eq-eqb, ne_eqb}
use Rattle.tally.specs.Counts.{differing}

-- n is the count of the words below k
pub record Passed (words others : List ℕ) (n k : ℕ) : Type 0 where
  pub within : k ≤ length words
  pub few : n ≤ k
  pub rest : n + differing (drop k words) (drop k others) ≡ differing words others

-- whether a word counts
abbrev one : ℕ → ℕ → ℕ
one x y = cond (eqb x y) 0 1

first : (l : List ℕ) (k : ℕ) → get_or (drop k l) 0 0 ≡ get_or l k 0
first l k =
    let z : k + 0 ≡ k = omega arith in
    get_or-drop k l 0 0 ∙ ap (λ (j : ℕ). get_or l j 0) z

here :
    (words others : List ℕ) (k : ℕ) → k < length words
    → differing (drop k words) (drop k others) ≡ one (get_or words k 0) (get_or others k 0) + differing (drop (k + 1) words) (drop (k + 1) others)
unfolding differing
here words others k h =
    ap (λ (l : List ℕ). differing l (drop k others)) (drop-cons words k 0 h)
    ∙ ap (λ (y : ℕ). one (get_or words k 0) y + differing (drop (suc k) words) (drop 1 (drop k others))) (first others k)
    ∙ ap (λ (ys : List ℕ). one (get_or words k 0) (get_or others k 0) + differing (drop (suc k) words) ys) (drop-drop 1 k others)
    ∙ ap (λ (z : ℕ). one (get_or words k 0) (get_or others k 0) + differing (drop z words) (drop (k + 1) others)) (sym (add-one k))

pub other-passed : (words others : List ℕ) (n k : ℕ) → k < length words → (get_or words k 0 ≡ get_or others k 0 → ⊥) → Passed words others n k
    → Passed words others (n + 1) (k + 1)
other-passed words others n k h d p =
    let e = here words others k h in
    let q : one (get_or words k 0) (get_or others k 0) ≡ 1 = ap (λ (b : Bool). cond b 0 1) (ne_eqb (get_or words k 0) (get_or others k 0) d) in
    let r = p.rest in
    record { within = omega arith; few = (let f = p.few in omega arith); rest = omega arith }

pub same-passed : (words others : List ℕ) (n k : ℕ) → k < length words → get_or words k 0 ≡ get_or others k 0 → Passed words others n k
    → Passed words others n (k + 1)
same-passed words others n k h d p =
    let e = here words others k h in
    let q : one (get_or words k 0) (get_or others k 0) ≡ 0 = ap (λ (b : Bool). cond b 0 1) (eq-eqb (get_or words k 0) (get_or others k 0) d) in
    let r = p.rest in
    record { within = omega arith; few = (let f = p.few in omega arith); rest = omega arith }

pub all_passed : (words others : List ℕ) (n k : ℕ) → length words ≤ k → Passed words others n k → n ≡ differing words others
unfolding differing
all_passed words others n k h p =
    let e : drop k words ≡ [] = drop_of_length-le words {i = k} h in
    let r : n + differing [] (drop k others) ≡ differing words others = rw e at p.rest in
    omega arith
