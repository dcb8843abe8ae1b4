-- The line of a piece, read as a line of a chopping, says the piece.
use Prim.Native.Nat.{ℕ, zero, suc, ◌+◌, ◌≤◌}
use mathlib.Core.Path.{◌≡◌, refl, sym, ap, ap₂, ◌∙◌}
use mathlib.Core.Bool.{Bool, true, false, cond, ◌&&◌}
use mathlib.Core.List.{List, [], ◌∷◌, ◌++◌, map, append_assoc}
use native.Mathlib.Omega.{arith}
use Rattle.rules.specs.Words.{every, bit}
use Rattle.numerals.specs.Numbers.{digit, greatest}
use Rattle.numerals.specs.Print.{decimal, spaced, Words}
use Rattle.numerals.proofs.Decimals.{decimal_numeral}
use Rattle.numerals.proofs.Scans.{and_left}
use Rattle.lines.specs.Lines.{Plain, with_byte, lines_of}
use Rattle.lines.proofs.Cutting.{lines_end}
use Rattle.line_words.specs.Words.{name_byte, reads, writes}
use Rattle.piece_lines.specs.Says.{piece, Items, part, Says}
use Rattle.line_words.specs.Said.{Name}
use Rattle.piece_lines.specs.Read.{said}
use Rattle.line_words.specs.Said.{Said, says}
use Rattle.line_words.proofs.Tested.{item-right}
use Rattle.piece_lines.proofs.Spoken.{says-said}
use Rattle.line_words.proofs.Tested.{item_tested}
use Rattle.piece_lines.proofs.Whole.{comment-behind}
use Rattle.chop.specs.Pieces as chop
use Rattle.finest.specs.Choppings.{passing}
use Rattle.cut_lines.specs.Text.{items_in, part_text, items_text, places_text, piece_line}
use Rattle.accepted_cut.proofs.Clean.{clean, clean_by, both_clean, plain_both, plain_clean, spread, spread-append, plain-spread, words_back}

-- ---- numbers

pub passing-words : (p : ℕ → Bool) (i n : ℕ) → i + n ≤ 64 → Words (passing p i n)
unfolding passing
passing-words p i zero h = Words.none
passing-words p i (suc n) h = go (p i) (passing-words p (suc i) n (omega arith))
  where
    go : (t : Bool) → Words (passing p (suc i) n) → Words (cond t (i ∷ passing p (suc i) n) (passing p (suc i) n))
    go true r = Words.more {n = i} (omega arith) r
    go false r = r

pub raised-words : (p : ℕ → Bool) (i n : ℕ) → i + n ≤ 64 → Words (map suc (passing p i n))
unfolding passing
raised-words p i zero h = Words.none
raised-words p i (suc n) h = go (p i) (raised-words p (suc i) n (omega arith))
  where
    go : (t : Bool) → Words (map suc (passing p (suc i) n)) → Words (map suc (cond t (i ∷ passing p (suc i) n) (passing p (suc i) n)))
    go true r = Words.more {n = suc i} (omega arith) r
    go false r = r

decimal_clean : (n : ℕ) → n ≤ greatest → every clean (decimal n) ≡ true
decimal_clean n h =
    clean_by digit refl refl refl (decimal n) (and_left (every digit (decimal n)) _ (item-right (decimal n) (item_tested (decimal n) (decimal_numeral n h))))

decimals_clean : {ns : List ℕ} → Words ns → every (every clean) (map decimal ns) ≡ true
unfolding every
decimals_clean Words.none = refl
decimals_clean (Words.more {n} {ns} h r) = ap₂ ◌&&◌ (decimal_clean n h) (decimals_clean r)

numerals : {ns : List ℕ} → Words ns → Items (map decimal ns) ns
numerals Words.none = Items.none
numerals (Words.more {n} {ns} h r) = Items.more (decimal_numeral n h) (numerals r)

spaced-spread : (ns : List ℕ) → spaced ns ≡ spread (map decimal ns)
unfolding spaced spread
spaced-spread [] = refl
spaced-spread (n ∷ ns) = ap (λ (l : List ℕ). 32 ∷ (decimal n ++ l)) (spaced-spread ns)

-- ---- parts

part-spread : (word ns : List ℕ) → part_text word ns ≡ spread (part word (map decimal ns))
unfolding part_text part spread
part-spread word [] = refl
part-spread word (n ∷ ns) = ap (λ (l : List ℕ). 32 ∷ (word ++ l)) (spaced-spread (n ∷ ns))

part_clean : (word : List ℕ) {ns : List ℕ} → every clean word ≡ true → Words ns → every (every clean) (part word (map decimal ns)) ≡ true
unfolding part every
part_clean word e Words.none = refl
part_clean word e (Words.more {n} {ns} h r) = ap₂ ◌&&◌ e (ap₂ ◌&&◌ (decimal_clean n h) (decimals_clean r))

module _ (p : chop.Piece) where
  rs : List ℕ
  rs = items_in p.reads

  ws : List ℕ
  ws = items_in p.writes

  words : List (List ℕ)
  words = part reads (map decimal rs) ++ part writes (map decimal ws)

  items-words : (s : ℕ) → Words (items_in s)
  unfolding items_in
  items-words s = passing-words (bit s) 0 64 (omega arith)

  items-spread : items_text p ≡ spread words
  unfolding items_text words rs ws
  items-spread =
      ap₂ ◌++◌ (part-spread reads (items_in p.reads)) (part-spread writes (items_in p.writes))
      ∙ sym (spread-append (part reads (map decimal (items_in p.reads))) (part writes (map decimal (items_in p.writes))))

  words_clean : every (every clean) words ≡ true
  unfolding words rs ws every clean
  words_clean =
      both_clean (every clean) (part reads (map decimal (items_in p.reads))) (part writes (map decimal (items_in p.writes)))
      (part_clean reads refl (items-words p.reads)) (part_clean writes refl (items-words p.writes))

  module _ (name : List ℕ) (named : Name name) where
    name_clean : every clean name ≡ true
    name_clean = clean_by name_byte refl refl refl name named.bytes

    front_says : Says (name ++ items_text p) (piece name rs ws)
    unfolding words rs ws
    front_says =
        record {
          read = map decimal (items_in p.reads);
          written = map decimal (items_in p.writes);
          words = rw items-spread (words_back name words name_clean words_clean);
          named = named;
          items-read = numerals (items-words p.reads);
          items-written = numerals (items-words p.writes);
        }

    module _ (places : List ℕ) (small : Words places) where
      -- the line without its end
      body : List ℕ
      body = (name ++ items_text p) ++ (32 ∷ 35 ∷ spaced places)

      body_says : said body ≡ says (piece name (items_in p.reads) (items_in p.writes))
      unfolding body rs ws
      body_says = comment-behind (name ++ items_text p) (spaced places) ∙ says-said front_says

      body_plain : Plain body
      unfolding body
      body_plain =
          plain_both
          (plain_both (plain_clean name name_clean) (rw items-spread (plain-spread words words_clean)))
          (with_byte (λ z. omega arith) (with_byte (λ z. omega arith) (rw (spaced-spread places) (plain-spread (map decimal places) (decimals_clean small)))))

      line_is : (rest : List ℕ) → piece_line name p places ++ rest ≡ body ++ (10 ∷ rest)
      unfolding piece_line places_text body
      line_is rest = simp append_assoc

      -- the line is read, and then the rest
      pub line_read : (rest : List ℕ) → map said (lines_of (piece_line name p places ++ rest)) ≡ says (piece name (items_in p.reads) (items_in p.writes)) ∷ map said (lines_of rest)
      line_read rest =
          ap (λ (l : List ℕ). map said (lines_of l)) (line_is rest)
          ∙ ap (map said) (lines_end rest body_plain)
          ∙ ap (λ (s : Said _). s ∷ map said (lines_of rest)) body_says
