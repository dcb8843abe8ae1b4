-- Words of bytes that end neither a line nor a word and begin no comment, with a space before each: they are read back.
use Prim.Native.Nat.{ℕ}
use mathlib.Core.Path.{◌≡◌, refl, sym, ap, ap₂, ◌∙◌}
use mathlib.Core.Bool.{Bool, true, false, not, cond, ◌&&◌, false≢true}
use mathlib.Core.List.{List, [], ◌∷◌, ◌++◌, append-nil, append_assoc}
use lib.Dec.{eqb}
use borrow.Author.Tests.{ne_eqb, not-true}
use Rattle.rules.specs.Words.{every}
use Rattle.numerals.proofs.Scans.{and_left, and_right}
use Rattle.lines.specs.Lines.{Plain, bare, with_byte}
use Rattle.line_words.specs.Words.{words_from, words_of, hash, uncommented}

unfoldable pub clean : ℕ → Bool
clean b = not (eqb b 10) && (not (eqb b 32) && not (eqb b 35))

module _ (b : ℕ) (e : clean b ≡ true) where
  pub no_end : eqb b 10 ≡ false
  unfolding clean
  no_end = not-true (eqb b 10) (and_left (not (eqb b 10)) (not (eqb b 32) && not (eqb b 35)) e)

  others : (not (eqb b 32) && not (eqb b 35)) ≡ true
  unfolding clean
  others = and_right (not (eqb b 10)) (not (eqb b 32) && not (eqb b 35)) e

  pub no_space : eqb b 32 ≡ false
  no_space = not-true (eqb b 32) (and_left (not (eqb b 32)) (not (eqb b 35)) others)

  pub no_hash : eqb b 35 ≡ false
  no_hash = not-true (eqb b 35) (and_right (not (eqb b 32)) (not (eqb b 35)) others)

-- whatever test the three do not pass
module _ (q : ℕ → Bool) (x : q 10 ≡ false) (y : q 32 ≡ false) (z : q 35 ≡ false) where
  apart : (b k : ℕ) → q k ≡ false → q b ≡ true → b ≡ k → ⊥
  apart b k f e s = false≢true (sym f ∙ ap q (sym s) ∙ e)

  clean_byte : (b : ℕ) → q b ≡ true → clean b ≡ true
  unfolding clean
  clean_byte b e =
      ap₂ (λ (s t : Bool). not s && t) (ne_eqb b 10 (apart b 10 x e))
      (ap₂ (λ (s t : Bool). not s && not t) (ne_eqb b 32 (apart b 32 y e)) (ne_eqb b 35 (apart b 35 z e)))

  pub clean_by : (w : List ℕ) → every q w ≡ true → every clean w ≡ true
  unfolding every
  clean_by [] e = refl
  clean_by (b ∷ bs) e = ap₂ ◌&&◌ (clean_byte b (and_left (q b) (every q bs) e)) (clean_by bs (and_right (q b) (every q bs) e))

pub both_clean : {A : Type 0} (q : A → Bool) (l m : List A) → every q l ≡ true → every q m ≡ true → every q (l ++ m) ≡ true
unfolding every
both_clean q [] m e f = f
both_clean q (x ∷ xs) m e f = ap₂ ◌&&◌ (and_left (q x) (every q xs) e) (both_clean q xs m (and_right (q x) (every q xs) e) f)

-- ---- no line ends in them

pub plain_both : {l m : List ℕ} → Plain l → Plain m → Plain (l ++ m)
plain_both bare q = q
plain_both (with_byte d p) q = with_byte d (plain_both p q)

pub plain_clean : (w : List ℕ) → every clean w ≡ true → Plain w
unfolding every
plain_clean [] e = bare
plain_clean (b ∷ bs) e =
    with_byte
    (λ z. false≢true (sym (no_end b (and_left (clean b) (every clean bs) e)) ∙ ap (λ (k : ℕ). eqb k 10) z))
    (plain_clean bs (and_right (clean b) (every clean bs) e))

-- ---- a space before each

unfoldable pub spread : List (List ℕ) → List ℕ
spread [] = []
spread (w ∷ ws) = 32 ∷ (w ++ spread ws)

pub spread-append : (vs ws : List (List ℕ)) → spread (vs ++ ws) ≡ spread vs ++ spread ws
unfolding spread
spread-append [] ws = refl
spread-append (v ∷ vs) ws =
    ap (λ (l : List ℕ). 32 ∷ (v ++ l)) (spread-append vs ws) ∙ ap (λ (l : List ℕ). 32 ∷ l) (sym (append_assoc v (spread vs) (spread ws)))

space_no_end : ◌≡◌ {A = ℕ} 32 10 → ⊥
space_no_end e = false≢true (ap (λ (k : ℕ). eqb k 32) (sym e))

pub plain-spread : (ws : List (List ℕ)) → every (every clean) ws ≡ true → Plain (spread ws)
unfolding every spread
plain-spread [] e = bare
plain-spread (w ∷ ws) e =
    with_byte space_no_end
    (plain_both (plain_clean w (and_left (every clean w) (every (every clean) ws) e)) (plain-spread ws (and_right (every clean w) (every (every clean) ws) e)))

-- ---- they are the words

-- along a word, where what follows is known
along : (tail : List ℕ) (ws : List (List ℕ)) → ((u : List ℕ) → words_from u tail ≡ u ∷ ws) → (w u : List ℕ) → every clean w ≡ true → words_from u (w ++ tail) ≡ (u ++ w) ∷ ws
unfolding words_from every
along tail ws f [] u e = f u ∙ ap (λ (l : List ℕ). l ∷ ws) (sym (append-nil u))
along tail ws f (b ∷ bs) u e =
    let c = no_space b (and_left (clean b) (every clean bs) e) in
    ap (λ (t : Bool). cond t (u ∷ words_from [] (bs ++ tail)) (words_from (u ++ (b ∷ [])) (bs ++ tail))) c
    ∙ along tail ws f bs (u ++ (b ∷ [])) (and_right (clean b) (every clean bs) e)
    ∙ ap (λ (l : List ℕ). l ∷ ws) (append_assoc u (b ∷ []) bs)

spread-words : (ws : List (List ℕ)) → every (every clean) ws ≡ true → (u : List ℕ) → words_from u (spread ws) ≡ u ∷ ws
unfolding words_from spread every
spread-words [] e u = refl
spread-words (w ∷ ws) e u =
    ap (λ (l : List (List ℕ)). u ∷ l)
    (along (spread ws) ws (spread-words ws (and_right (every clean w) (every (every clean) ws) e)) w [] (and_left (every clean w) (every (every clean) ws) e))

no_comment : (w : List ℕ) → every clean w ≡ true → hash w ≡ false
unfolding hash every
no_comment [] e = refl
no_comment (b ∷ bs) e = no_hash b (and_left (clean b) (every clean bs) e)

all_count : (ws : List (List ℕ)) → every (every clean) ws ≡ true → uncommented ws ≡ ws
unfolding uncommented every
all_count [] e = refl
all_count (w ∷ ws) e =
    ap₂ (λ (t : Bool) (l : List (List ℕ)). cond t [] (w ∷ l)) (no_comment w (and_left (every clean w) (every (every clean) ws) e)) (all_count ws (and_right (every clean w) (every (every clean) ws) e))

-- THE WORDS ARE READ BACK
pub words_back : (w : List ℕ) (ws : List (List ℕ)) → every clean w ≡ true → every (every clean) ws ≡ true → uncommented (words_of (w ++ spread ws)) ≡ w ∷ ws
unfolding words_of every
words_back w ws e f = ap uncommented (along (spread ws) ws (spread-words ws f) w [] e) ∙ all_count (w ∷ ws) (ap₂ ◌&&◌ e f)
