-- Names with zeros behind them, compared; and the place of the first that is the same.
use Prim.Native.Nat.{ℕ, zero, suc, ◌+◌, ◌-◌, ◌*◌, ◌<◌, ◌≤◌}
use mathlib.Core.Path.{◌≡◌, refl, sym, ap, ap₂, ◌∙◌}
use mathlib.Core.Bool.{Bool, true, false, cond, ◌&&◌, false≢true}
use mathlib.Core.List.{List, [], ◌∷◌, ◌++◌, append-nil, append_assoc}
use mathlib.Core.Logic.{⊎_elim}
use native.Mathlib.Nat.{eq-or-lt_of_le}
use native.Mathlib.Omega.{arith}
use lib.ListN.{length, get_or, take, drop, replicate, length-append, length-replicate}
use borrow.Author.Tests.{eq-eqb, ne_eqb}
use Rattle.rules.specs.Words.{every, row, first_from}
use Rattle.numerals.proofs.Scans.{and_left, and_right}
use Rattle.line_words.specs.Words.{name_byte, same}
use Rattle.line_words.specs.Said.{Name}
use Rattle.line_words.specs.Held.{padded}
use Rattle.line_words.proofs.Sameness.{same_refl, same_equal}
use Rattle.line_words.proofs.Snoc.{every_snoc}
use Rattle.texts.specs.Written.{written}
use Rattle.texts.proofs.Written.{text_next}
use Rattle.texts.proofs.Places.{ended, opened}
use Rattle.told_lines.specs.Names.{place_of, first_row, unpadded, KeepsNames}
use Rattle.told_lines.proofs.Texts.{part-before, part_here}

-- ---- zeros behind a name tell nothing

zero_no_name : (b : ℕ) → name_byte b ≡ true → b ≡ 0 → ⊥
zero_no_name b e z = let f : name_byte 0 ≡ true = rw z at e in false≢true f

trim_zeros : (k : ℕ) → unpadded (replicate k 0) ≡ []
unfolding unpadded
trim_zeros zero = refl
trim_zeros (suc k) = refl

trim_name : (n : List ℕ) (k : ℕ) → every name_byte n ≡ true → unpadded (n ++ replicate k 0) ≡ n
unfolding unpadded every
trim_name [] k e = trim_zeros k
trim_name (b ∷ bs) k e =
    rw (ne_eqb b 0 (zero_no_name b (and_left (name_byte b) (every name_byte bs) e)))
    (ap (λ (l : List ℕ). b ∷ l) (trim_name bs k (and_right (name_byte b) (every name_byte bs) e)))

pub unpadded-padded : (n : List ℕ) → every name_byte n ≡ true → unpadded (padded n) ≡ n
unfolding padded
unpadded-padded n e = trim_name n (32 - length n) e

pub padded-same : (m n : List ℕ) → every name_byte m ≡ true → every name_byte n ≡ true → same (padded m) (padded n) ≡ same m n
unfolding padded
padded-same m n p q = go (same m n) refl (same (padded m) (padded n)) refl
  where
    go : (t : Bool) → same m n ≡ t → (u : Bool) → same (padded m) (padded n) ≡ u → same (padded m) (padded n) ≡ same m n
    go true e u f = ap (λ (l : List ℕ). same (padded l) (padded n)) (same_equal m n e) ∙ same_refl (padded n) ∙ sym e
    go false e false f = f ∙ sym e
    go false e true f =
        let z : m ≡ n = sym (trim_name m (32 - length m) p) ∙ ap unpadded (same_equal (padded m) (padded n) f) ∙ trim_name n (32 - length n) q in
        absurd (false≢true (sym e ∙ ap (λ (l : List ℕ). same l n) z ∙ same_refl n))

-- ---- the first that is the same

pub plain_at : (ns : List (List ℕ)) (i : ℕ) → every (every name_byte) ns ≡ true → i < length ns → every name_byte (get_or ns i []) ≡ true
unfolding every
plain_at [] i e h = absurd (omega arith)
plain_at (n ∷ ns) zero e h = and_left (every name_byte n) (every (every name_byte) ns) e
plain_at (n ∷ ns) (suc i) e h = plain_at ns i (and_right (every name_byte n) (every (every name_byte) ns) e) (omega arith)

first-place : (ns : List (List ℕ)) (q : ℕ → Bool) (n : List ℕ) (s : ℕ) → ((i : ℕ) → i < length ns → q (s + i) ≡ same (get_or ns i []) n) → first_from q s (length ns) ≡ s + place_of n ns
unfolding first_from place_of
first-place [] q n s h = omega arith
first-place (m ∷ ms) q n s h =
    go (same m n) refl
    (first-place ms q n (suc s) (λ i l. ap q (let e : suc s + i ≡ s + suc i = omega arith in e) ∙ h (suc i) (omega arith)))
  where
    here : q s ≡ same m n
    here = ap q (let e : s ≡ s + 0 = omega arith in e) ∙ h 0 (omega arith)

    go : (t : Bool) → same m n ≡ t → first_from q (suc s) (length ms) ≡ suc s + place_of n ms → cond (q s) s (first_from q (suc s) (length ms)) ≡ s + cond (same m n) 0 (suc (place_of n ms))
    go true e r = rw (here, e) (let z : s ≡ s + 0 = omega arith in z)
    go false e r = rw (here, e) (r ∙ (let z : suc s + place_of n ms ≡ s + suc (place_of n ms) = omega arith in z))

-- the rows are the names: the first row that is this name's is the place of the name
pub place_is : (ns : List (List ℕ)) (names n : List ℕ) → KeepsNames ns names → every name_byte n ≡ true → first_row (padded n) names (length ns) ≡ place_of n ns
unfolding first_row
place_is ns names n k f =
    first-place ns (λ i. same (row 32 i names) (padded n)) n 0 each ∙ (let z : 0 + place_of n ns ≡ place_of n ns = omega arith in z)
  where
    each : (i : ℕ) → i < length ns → same (row 32 (0 + i) names) (padded n) ≡ same (get_or ns i []) n
    each i l =
        ap (λ (j : ℕ). same (row 32 j names) (padded n)) (let z : 0 + i ≡ i = omega arith in z)
        ∙ ap (λ (r : List ℕ). same r (padded n)) (k.rows i l)
        ∙ padded-same (get_or ns i []) n (plain_at ns i k.plain l) f

-- ---- a name more

pub get_d_early : {A : Type 0} (ns : List A) (n d : A) (i : ℕ) → i < length ns → get_or (ns ++ (n ∷ [])) i d ≡ get_or ns i d
get_d_early [] n d i h = absurd (omega arith)
get_d_early (m ∷ ms) n d zero h = refl
get_d_early (m ∷ ms) n d (suc i) h = get_d_early ms n d i (omega arith)

pub get_d_last : {A : Type 0} (ns : List A) (n d : A) → get_or (ns ++ (n ∷ [])) (length ns) d ≡ n
get_d_last [] n d = refl
get_d_last (m ∷ ms) n d = get_d_last ms n d

padded-length : (n : List ℕ) → length n ≤ 32 → length (padded n) ≡ 32
unfolding padded
padded-length n h =
    length-append n (replicate (32 - length n) 0) ∙ (let r = length-replicate {A = ℕ} (32 - length n) 0 in omega arith)

module _ (ns : List (List ℕ)) (names : List ℕ) (k : KeepsNames ns names) (n : List ℕ) (named : Name n) (size : length names ≡ 1024) (room : length ns < 32) where
  pub names_more : KeepsNames (ns ++ (n ∷ [])) (written names (length ns * 32) (padded n))
  unfolding row
  names_more =
      record {
        plain = every_snoc (every name_byte) ns n ∙ ap₂ ◌&&◌ k.plain named.bytes;
        rows = λ i h.
            ⊎_elim
            (λ (e : i ≡ length ns).
            let z : 32 * i ≡ length ns * 32 = omega arith in
            ap (λ (c : ℕ). take 32 (drop c (written names (length ns * 32) (padded n)))) z
            ∙ part_here names (padded n) (length ns * 32) 32 (padded-length n named.most) (omega arith)
            ∙ ap padded (sym (ap (λ (j : ℕ). get_or (ns ++ (n ∷ [])) j []) e ∙ get_d_last ns n [])))
            (λ (l : i < length ns).
            part-before names (padded n) (length ns * 32) 32 (padded-length n named.most) (omega arith) (32 * i) (omega arith)
            ∙ k.rows i l
            ∙ ap padded (sym (get_d_early ns n [] i l)))
            (eq-or-lt_of_le (let g : i ≤ length ns = omega (arith, length-append ns (n ∷ [])) in g));
      }

-- a part of the names is a row of them
pub row-part : (names : List ℕ) (i : ℕ) → take (i * 32 + 32 - i * 32) (drop (i * 32) names) ≡ row 32 i names
unfolding row
row-part names i =
    ap₂ (λ (w a : ℕ). take w (drop a names)) (let z : i * 32 + 32 - i * 32 ≡ 32 = omega arith in z) (let z : i * 32 ≡ 32 * i = omega arith in z)

-- for the search
pub ruleset parts = (row-part)

-- ---- a row's bytes in front of the first zero, byte by byte

module _ (l : List ℕ) (k : ℕ) where
  pub unpadded_zero : k < length l → get_or l k 0 ≡ 0 → unpadded l ≡ take k l ++ unpadded (drop k l) → take k l ≡ unpadded l
  unfolding unpadded
  unpadded_zero h z e =
      sym (e ∙ ap (λ (r : List ℕ). take k l ++ unpadded r) (opened l k h) ∙ rw (eq-eqb (get_or l k 0) 0 z) (append-nil (take k l)))

  pub unpadded-next : k < length l → (get_or l k 0 ≡ 0 → ⊥) → unpadded l ≡ take k l ++ unpadded (drop k l) → unpadded l ≡ take (k + 1) l ++ unpadded (drop (k + 1) l)
  unfolding unpadded
  unpadded-next h d e =
      e
      ∙ ap (λ (r : List ℕ). take k l ++ unpadded r) (opened l k h)
      ∙ ap (λ (t : Bool). take k l ++ cond t [] (get_or l k 0 ∷ unpadded (drop (k + 1) l))) (ne_eqb (get_or l k 0) 0 d)
      ∙ sym (append_assoc (take k l) (get_or l k 0 ∷ []) (unpadded (drop (k + 1) l)))
      ∙ ap (λ (r : List ℕ). r ++ unpadded (drop (k + 1) l)) (text_next l k h)

  pub unpadded_end : length l ≤ k → unpadded l ≡ take k l ++ unpadded (drop k l) → take k l ≡ unpadded l
  unfolding unpadded
  unpadded_end h e = sym (e ∙ ap (λ (r : List ℕ). take k l ++ unpadded r) (ended l k h) ∙ append-nil (take k l))
