-- A line is read as a call exactly if it says that call and has at most 80 bytes (`parsed-sound`, `parsed-complete`), and no line
-- says two calls (`says-once`).
use Prim.Native.Nat.{ℕ, ◌≤◌}
use mathlib.Core.Path.{◌≡◌, refl, sym, ap, ap₂, subst, ◌∙◌}
use mathlib.Core.Bool.{Bool, true, false, false≢true}
use mathlib.Core.List.{List, [], ◌∷◌, ◌++◌}
use native.Mathlib.Omega.{arith}
use lib.Dec.{eqb, leb}
use lib.ListN.{length, drop}
use borrow.Author.Tests.{le-leb, leb-true, eqb-true}
use Rattle.rules.specs.Answers as rules
use Rattle.call_words.specs.Calls.{numbers_of}
use Rattle.numerals.specs.Numbers.{Read, upto, no, number, Numbers}
use Rattle.numerals.proofs.Scans.{and_left, and_right}
use Rattle.numerals.proofs.Numerals.{Spaced, spaced, number_read, stops}
use Rattle.script.specs.Words.{starts}
use Rattle.script.specs.Says.{Says, word_of}
use Rattle.script.specs.Parse.{bare_of, and_then, one_of, two_of, three_of, Spelled, spelled, first_of, spoken, parsed}
use Rattle.std.proofs.Common.{Option, Some, None}

-- ---- a line that says a call is read so

-- one number more
then_read : {bs : List ℕ} {n : ℕ} {ns : List ℕ} → Numbers bs (n ∷ ns) → (rest : List ℕ) × (number bs ≡ upto n rest) × Numbers rest ns
then_read (Numbers.more {ds} {rest} m r) = (rest, number_read rest m (stops r), r)

then_is : {bs ns : List ℕ} {n : ℕ} (f : ℕ → List ℕ → Option rules.Call) (p : Option rules.Call) → Numbers bs (n ∷ ns) → ((rest : List ℕ) → Numbers rest ns → f n rest ≡ p) → and_then (number bs) f ≡ p
then_is f p r g = let t = then_read r in rw t.1 (g t.0 t.2)

none_read : {bs : List ℕ} (c : rules.Call) → Numbers bs [] → bare_of c bs ≡ Some c
unfolding bare_of
none_read c Numbers.none = refl

one_read : {bs : List ℕ} (c : ℕ → rules.Call) (n : ℕ) → Numbers bs (n ∷ []) → one_of c bs ≡ Some (c n)
unfolding one_of
one_read c n r = then_is _ _ r (λ rest q. none_read (c n) q)

two_read : {bs : List ℕ} (c : ℕ → ℕ → rules.Call) (n x : ℕ) → Numbers bs (n ∷ x ∷ []) → two_of c bs ≡ Some (c n x)
unfolding two_of
two_read c n x r = then_is _ _ r (λ rest q. one_read (c n) x q)

three_read : {bs : List ℕ} (c : ℕ → ℕ → ℕ → rules.Call) (n x v : ℕ) → Numbers bs (n ∷ x ∷ v ∷ []) → three_of c bs ≡ Some (c n x v)
unfolding three_of
three_read c n x v r = then_is _ _ r (λ rest q. two_read (c n) x v q)

pub spoken_complete : (line : List ℕ) (c : rules.Call) → Says line c → spoken line ≡ Some c
unfolding spoken first_of starts
spoken_complete line rules.BeginUpdate s = rw s.word (none_read rules.BeginUpdate s.numbers)
spoken_complete line rules.BeginQuery s = rw s.word (none_read rules.BeginQuery s.numbers)
spoken_complete line (rules.Read n x) s = rw s.word (two_read (λ n x. rules.Read n x) n x s.numbers)
spoken_complete line (rules.Write n x v) s = rw s.word (three_read (λ n x v. rules.Write n x v) n x v s.numbers)
spoken_complete line (rules.Commit n) s = rw s.word (one_read (λ n. rules.Commit n) n s.numbers)
spoken_complete line (rules.Abort n) s = rw s.word (one_read (λ n. rules.Abort n) n s.numbers)
spoken_complete line (rules.Settle n) s = rw s.word (one_read (λ n. rules.Settle n) n s.numbers)
spoken_complete line rules.BeginRelaxed s = rw s.word (none_read rules.BeginRelaxed s.numbers)

-- ---- a line that is read as a call says it

starts_is : (ws bs : List ℕ) → starts ws bs ≡ true → bs ≡ ws ++ drop (length ws) bs
unfolding starts
starts_is [] bs e = refl
starts_is (w ∷ ws) [] e = absurd (false≢true e)
starts_is (w ∷ ws) (b ∷ bs) e =
    ap₂ (λ (x : ℕ) (xs : List ℕ). x ∷ xs) (eqb-true b w (and_left (eqb b w) (starts ws bs) e)) (starts_is ws bs (and_right (eqb b w) (starts ws bs) e))

bad_never : (c : rules.Call) → None ≡ Some c → ⊥
bad_never c e = let z : ◌≡◌ {A = ℕ} 0 1 = cc in omega arith

-- what follows a word is the call's numbers, and the word is the call's
record Sound (w : Spelled) : Type 0 where
  word : (c : rules.Call) (bs : List ℕ) → w.rest bs ≡ Some c → word_of c ≡ w.word
  numbers : (c : rules.Call) (bs : List ℕ) → w.rest bs ≡ Some c → Numbers bs (numbers_of c)

more_numbers : {bs rest ns : List ℕ} {n : ℕ} → Spaced bs n rest → Numbers rest ns → Numbers bs (n ∷ ns)
more_numbers {bs} {rest} {ns} {n} s r = subst (λ (l : List ℕ). Numbers l (n ∷ ns)) (sym s.all) (Numbers.more s.numeral r)

module _ (c : rules.Call) (bs : List ℕ) where
  none_sound : (d : rules.Call) → bare_of d bs ≡ Some c → (d ≡ c) × Numbers bs []
  unfolding bare_of
  none_sound d e = go bs refl
    where
      go : (l : List ℕ) → bs ≡ l → (d ≡ c) × Numbers bs []
      go [] h = let k : Some d ≡ Some c = rw h at e in ((cc), rw h Numbers.none)
      go (b ∷ l) h = absurd (bad_never c (rw h at e))

then_sound : (c : rules.Call) (bs : List ℕ) (f : ℕ → List ℕ → Option rules.Call) → and_then (number bs) f ≡ Some c → (n : ℕ) × (rest : List ℕ) × Spaced bs n rest × (f n rest ≡ Some c)
then_sound c bs f e = go (number bs) refl
  where
    go : (r : Read) → number bs ≡ r → (n : ℕ) × (rest : List ℕ) × Spaced bs n rest × (f n rest ≡ Some c)
    go (upto n rest) h = (n, rest, spaced bs n rest h, rw h at e)
    go no h = absurd (bad_never c (rw h at e))

one_sound : (c : rules.Call) (bs : List ℕ) (d : ℕ → rules.Call) → one_of d bs ≡ Some c → (n : ℕ) × (d n ≡ c) × Numbers bs (n ∷ [])
unfolding one_of
one_sound c bs d e =
    let t = then_sound c bs _ e in
    let b = none_sound c t.1 (d t.0) t.3 in
    (t.0, b.0, more_numbers t.2 b.1)

two_sound : (c : rules.Call) (bs : List ℕ) (d : ℕ → ℕ → rules.Call) → two_of d bs ≡ Some c → (n x : ℕ) × (d n x ≡ c) × Numbers bs (n ∷ x ∷ [])
unfolding two_of
two_sound c bs d e =
    let t = then_sound c bs _ e in
    let b = one_sound c t.1 (d t.0) t.3 in
    (t.0, b.0, b.1, more_numbers t.2 b.2)

three_sound : (c : rules.Call) (bs : List ℕ) (d : ℕ → ℕ → ℕ → rules.Call) → three_of d bs ≡ Some c → (n x v : ℕ) × (d n x v ≡ c) × Numbers bs (n ∷ x ∷ v ∷ [])
unfolding three_of
three_sound c bs d e =
    let t = then_sound c bs _ e in
    let b = two_sound c t.1 (d t.0) t.3 in
    (t.0, b.0, b.1, b.2, more_numbers t.2 b.3)

-- each of the eight
data AllSound : List Spelled → Type 0 where
  done : AllSound []
  also : {w : Spelled} {ws : List Spelled} → Sound w → AllSound ws → AllSound (w ∷ ws)

by_none : (d : rules.Call) → numbers_of d ≡ [] → Sound (record { word = word_of d; rest = bare_of d })
by_none d z =
    record {
      word = λ c bs e. ap word_of (sym (none_sound c bs d e).0);
      numbers = λ c bs e. let b = none_sound c bs d e in subst (λ (m : rules.Call). Numbers bs (numbers_of m)) b.0 (rw z b.1);
    }

by_one : (w : List ℕ) (d : ℕ → rules.Call) → ((n : ℕ) → (word_of (d n) ≡ w) × (numbers_of (d n) ≡ n ∷ [])) → Sound (record { word = w; rest = one_of d })
by_one w d z =
    record {
      word = λ c bs e. let b = one_sound c bs d e in ap word_of (sym b.1) ∙ (z b.0).0;
      numbers = λ c bs e. let b = one_sound c bs d e in subst (λ (m : rules.Call). Numbers bs (numbers_of m)) b.1 (rw (z b.0).1 b.2);
    }

by_two : (w : List ℕ) (d : ℕ → ℕ → rules.Call) → ((n x : ℕ) → (word_of (d n x) ≡ w) × (numbers_of (d n x) ≡ n ∷ x ∷ [])) → Sound (record { word = w; rest = two_of d })
by_two w d z =
    record {
      word = λ c bs e. let b = two_sound c bs d e in ap word_of (sym b.2) ∙ (z b.0 b.1).0;
      numbers = λ c bs e. let b = two_sound c bs d e in subst (λ (m : rules.Call). Numbers bs (numbers_of m)) b.2 (rw (z b.0 b.1).1 b.3);
    }

by_three : (w : List ℕ) (d : ℕ → ℕ → ℕ → rules.Call) → ((n x v : ℕ) → (word_of (d n x v) ≡ w) × (numbers_of (d n x v) ≡ n ∷ x ∷ v ∷ [])) → Sound (record { word = w; rest = three_of d })
by_three w d z =
    record {
      word = λ c bs e. let b = three_sound c bs d e in ap word_of (sym b.3) ∙ (z b.0 b.1 b.2).0;
      numbers = λ c bs e. let b = three_sound c bs d e in subst (λ (m : rules.Call). Numbers bs (numbers_of m)) b.3 (rw (z b.0 b.1 b.2).1 b.4);
    }

all_sound : AllSound spelled
all_sound =
    also (by_none rules.BeginUpdate refl)
    (also (by_none rules.BeginQuery refl)
    (also (by_two _ (λ n x. rules.Read n x) (λ n x. (refl, refl)))
    (also (by_three _ (λ n x v. rules.Write n x v) (λ n x v. (refl, refl)))
    (also (by_one _ (λ n. rules.Commit n) (λ n. (refl, refl)))
    (also (by_one _ (λ n. rules.Abort n) (λ n. (refl, refl)))
    (also (by_one _ (λ n. rules.Settle n) (λ n. (refl, refl)))
    (also (by_none rules.BeginRelaxed refl) done)))))))

first-sound : {ws : List Spelled} (line : List ℕ) (c : rules.Call) → AllSound ws → first_of ws line ≡ Some c → Says line c
unfolding first_of
first-sound line c done e = absurd (bad_never c e)
first-sound line c (also {w} {ws} s r) e = go (starts w.word line) refl (λ f. first-sound line c r f)
  where
    go : (g : Bool) → starts w.word line ≡ g → (first_of ws line ≡ Some c → Says line c) → Says line c
    go true h on =
        let rest = drop (length w.word) line in
        let q : w.rest rest ≡ Some c = rw h at e in
        record { rest = rest; word = rw (s.word c rest q) (starts_is w.word line h); numbers = s.numbers c rest q }
    go false h on = on (rw h at e)

pub spoken-sound : (line : List ℕ) (c : rules.Call) → spoken line ≡ Some c → Says line c
unfolding spoken
spoken-sound line c e = first-sound line c all_sound e

-- ---- with the length

pub parsed-sound : (line : List ℕ) (c : rules.Call) → parsed line ≡ Some c → Says line c × (length line ≤ 80)
unfolding parsed
parsed-sound line c e = go (leb (length line) 80) refl
  where
    go : (g : Bool) → leb (length line) 80 ≡ g → Says line c × (length line ≤ 80)
    go true h = (spoken-sound line c (rw h at e), leb-true (length line) 80 h)
    go false h = absurd (bad_never c (rw h at e))

pub parsed_complete : (line : List ℕ) (c : rules.Call) → Says line c → length line ≤ 80 → parsed line ≡ Some c
unfolding parsed
parsed_complete line c s h = rw (le-leb (length line) 80 h) (spoken_complete line c s)

-- no line says two calls
pub says-once : (line : List ℕ) (x y : rules.Call) → Says line x → Says line y → x ≡ y
says-once line x y p q =
    let a : spoken line ≡ Some x = spoken_complete line x p in
    let b : spoken line ≡ Some y = spoken_complete line y q in
    cc
