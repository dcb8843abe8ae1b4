-- What the structs keep of the words of a line that is not ended yet.
use Rattle.std.specs.Prelude.{ℕ, ◌-◌, ◌≤◌, ◌≡◌, true, false, cond, ◌&&◌, List, ◌++◌, leb, length, replicate, Option, Some, None}
use Rattle.rules.specs.Words.{every}
use Rattle.numerals.specs.Numbers.{digit, worth, greatest}
use Rattle.line_words.specs.Words.{hash, name_byte, longest_name}
use Rattle.line_words.specs.Speech.{Words, speaking, commented, spoken}
use Rattle.line_words.specs.declared.kept.Kept.{Kept}
use Rattle.line_words.specs.declared.digits.Digits.{Digits}
use Rattle.line_words.specs.declared.word.Word.{Word}
use Rattle.line_words.specs.declared.speech.Speech.{Speech}

-- zeros behind a word, up to 32 bytes
unfoldable pub padded : List ℕ → List ℕ
padded w = w ++ replicate (longest_name - length w) 0

-- one more than the most, where there are too many to be kept
unfoldable pub counted : ℕ → ℕ
counted n = cond (leb n longest_name) n 33

pub record KeepsBytes (w : List ℕ) (s : Kept) : Type 0 where
  pub count : s.count ≡ counted (length w)
  pub bytes : length w ≤ longest_name → s.bytes ≡ padded w

-- what a word's bytes are worth, where they are all digits of a number that is not too great
unfoldable pub number_in : List ℕ → Option ℕ
number_in w = cond (every digit w && leb (worth 0 w) greatest) (Some (worth 0 w)) None

pub record KeepsDigits (w : List ℕ) (s : Digits) : Type 0 where
  pub value : s.value ≡ number_in w

pub record KeepsWord (w : List ℕ) (s : Word) : Type 0 where
  pub bytes : KeepsBytes w s.kept
  pub plain : s.plain ≡ every name_byte w
  pub digits : KeepsDigits w s.digits

-- of the word that is not ended
pub record KeepsSpeaking (w : List ℕ) (s : Speech) : Type 0 where
  pub over : s.over ≡ false
  pub word : KeepsWord w s.word
  pub plain : hash w ≡ false

unfoldable pub KeepsWords : Words → Speech → Type 0
KeepsWords (speaking ws w) s = KeepsSpeaking w s
KeepsWords (commented ws) s = s.over ≡ true

abbrev pub Hears : List ℕ → Speech → Type 0
Hears line s = KeepsWords (spoken line) s
