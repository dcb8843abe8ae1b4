-- The words of a line that is not ended yet, with a byte more, and once it ends: in the end those in front of a comment.
use Prim.Native.Nat.{ℕ}
use mathlib.Core.Path.{◌≡◌, refl, sym, ap, subst, ◌∙◌}
use mathlib.Core.Bool.{Bool, true, false, not, ◌&&◌, cond, false≢true}
use mathlib.Core.List.{List, [], ◌∷◌, ◌++◌, append-nil, append_assoc}
use lib.Dec.{eqb}
use lib.ListN.{length}
use borrow.Author.Tests.{eq-eqb, ne_eqb, not-true}
use Rattle.numerals.proofs.Scans.{and_left, and_right}
use Rattle.line_words.specs.Words.{words_from, words_of, hash, uncommented}
use Rattle.line_words.specs.Speech.{Words, speaking, commented, after, after_all, spoken, ended_in, closed}
use Rattle.line_words.specs.Held.{KeepsWord, KeepsSpeaking, KeepsWords, Hears}
use Rattle.line_words.specs.declared.word.Word.{Word}
use Rattle.line_words.specs.declared.speech.Speech.{Speech}
use Rattle.line_words.proofs.Snoc.{hash_snoc}

-- ---- a byte more

after_snoc : (line : List ℕ) (k : Words) (b : ℕ) → after (after_all k line) b ≡ after_all k (line ++ (b ∷ []))
unfolding after_all
after_snoc [] k b = refl
after_snoc (x ∷ xs) k b = after_snoc xs (after k x) b

pub spoken-more : (line : List ℕ) (b : ℕ) → after (spoken line) b ≡ spoken (line ++ (b ∷ []))
unfolding spoken
spoken-more line b = after_snoc line (speaking [] []) b

pub hears_more : (line : List ℕ) (b : ℕ) (r : Speech) → KeepsWords (after (spoken line) b) r → Hears (line ++ (b ∷ [])) r
hears_more line b r q = subst (λ (k : Words). KeepsWords k r) (spoken-more line b) q

module _ (k : Words) (s : Speech) (b : ℕ) where
  pub push_over : s.over ≡ true → KeepsWords k s → KeepsWords (after k b) s
  unfolding after KeepsWords
  push_over = go k
    where
      go : (k : Words) → s.over ≡ true → KeepsWords k s → KeepsWords (after k b) s
      go (speaking ws w) o q = absurd (false≢true (sym q.over ∙ o))
      go (commented ws) o q = q

  pub push_space : {r : Speech} → s.over ≡ false → b ≡ 32 → KeepsSpeaking [] r → KeepsWords k s → KeepsWords (after k b) r
  unfolding after KeepsWords
  push_space {r} = go k
    where
      go : (k : Words) → s.over ≡ false → b ≡ 32 → KeepsSpeaking [] r → KeepsWords k s → KeepsWords (after k b) r
      go (speaking ws w) o e f q = rw (eq-eqb b 32 e) f
      go (commented ws) o e f q = absurd (false≢true (sym o ∙ q))

  module _ (o : s.over ≡ false) (d : b ≡ 32 → ⊥) {t : Bool} (empty : (w : List ℕ) → KeepsWord w s.word → t ≡ eqb (length w) 0) where
    begins : (w : List ℕ) → KeepsSpeaking w s → hash (w ++ (b ∷ [])) ≡ (t && eqb b 35)
    begins w q = hash_snoc w b q.plain ∙ ap (λ (x : Bool). x && eqb b 35) (sym (empty w q.word))

    pub push_hash : (t && eqb b 35) ≡ true → KeepsWords k s → KeepsWords (after k b) (record { over = true; word = s.word })
    unfolding after KeepsWords
    push_hash = go k
      where
        go : (k : Words) → (t && eqb b 35) ≡ true → KeepsWords k s → KeepsWords (after k b) (record { over = true; word = s.word })
        go (speaking ws w) e q = rw (ne_eqb b 32 d, begins w q, e) refl
        go (commented ws) e q = absurd (false≢true (sym o ∙ q))

    pub push_byte : {word : Word} → (t && eqb b 35) ≡ false → ((w : List ℕ) → KeepsWord w s.word → KeepsWord (w ++ (b ∷ [])) word) → KeepsWords k s → KeepsWords (after k b) (record { over = s.over; word = word })
    unfolding after KeepsWords
    push_byte {word} = go k
      where
        go : (k : Words) → (t && eqb b 35) ≡ false → ((w : List ℕ) → KeepsWord w s.word → KeepsWord (w ++ (b ∷ [])) word) → KeepsWords k s → KeepsWords (after k b) (record { over = s.over; word = word })
        go (speaking ws w) e f q = rw (ne_eqb b 32 d, begins w q, e) (record { over = o; word = f w q.word; plain = begins w q ∙ e })
        go (commented ws) e f q = absurd (false≢true (sym o ∙ q))

-- ---- the words that are ended

-- a word that ends: which it was, and that it stands behind the others
pub record Ends (before after : List (List ℕ)) (s : Speech) : Type 0 where
  pub word : List ℕ
  pub kept : KeepsWord word s.word
  pub more : after ≡ before ++ (word ∷ [])

module _ (k : Words) (s : Speech) (b : ℕ) where
  word-ends : (not s.over && eqb b 32) ≡ true → KeepsWords k s → Ends (ended_in k) (ended_in (after k b)) s
  unfolding after KeepsWords ended_in
  word-ends = go k
    where
      go : (k : Words) → (not s.over && eqb b 32) ≡ true → KeepsWords k s → Ends (ended_in k) (ended_in (after k b)) s
      go (speaking ws w) e q =
          let f : eqb b 32 ≡ true = and_right (not s.over) (eqb b 32) e in
          record { word = w; kept = q.word; more = rw f refl }
      go (commented ws) e q = absurd (false≢true (sym (not-true s.over (and_left (not s.over) (eqb b 32) e)) ∙ q))

  word_goes_on : (not s.over && eqb b 32) ≡ false → KeepsWords k s → ended_in (after k b) ≡ ended_in k
  unfolding after KeepsWords ended_in
  word_goes_on = go k
    where
      either : (t : Bool) (ws : List (List ℕ)) (w : List ℕ) → ended_in (cond t (commented ws) (speaking ws w)) ≡ ws
      either true ws w = refl
      either false ws w = refl

      go : (k : Words) → (not s.over && eqb b 32) ≡ false → KeepsWords k s → ended_in (after k b) ≡ ended_in k
      go (speaking ws w) e q =
          let f : eqb b 32 ≡ false = rw q.over at e in
          rw f (either (hash (w ++ (b ∷ []))) ws (w ++ (b ∷ [])))
      go (commented ws) e q = refl

module _ (line : List ℕ) (s : Speech) (q : Hears line s) where
  pub hears_end : (b : ℕ) → (not s.over && eqb b 32) ≡ true → Ends (ended_in (spoken line)) (ended_in (spoken (line ++ (b ∷ [])))) s
  hears_end b e = subst (λ (k : Words). Ends (ended_in (spoken line)) (ended_in k) s) (spoken-more line b) (word-ends (spoken line) s b e q)

  pub hears_on : (b : ℕ) → (not s.over && eqb b 32) ≡ false → ended_in (spoken (line ++ (b ∷ []))) ≡ ended_in (spoken line)
  hears_on b e = ap ended_in (sym (spoken-more line b)) ∙ word_goes_on (spoken line) s b e q

-- ---- a word that begins with `#` begins a comment

hash_on : (w : List ℕ) (b : ℕ) → hash w ≡ true → hash (w ++ (b ∷ [])) ≡ true
unfolding hash
hash_on [] b e = absurd (false≢true e)
hash_on (x ∷ xs) b e = e

pub nothing_left : (bs w : List ℕ) → hash w ≡ true → uncommented (words_from w bs) ≡ []
unfolding words_from uncommented
nothing_left [] w e = rw e refl
nothing_left (b ∷ bs) w e = go (eqb b 32) (nothing_left bs (w ++ (b ∷ [])) (hash_on w b e))
  where
    go : (t : Bool) → uncommented (words_from (w ++ (b ∷ [])) bs) ≡ [] → uncommented (cond t (w ∷ words_from [] bs) (words_from (w ++ (b ∷ [])) bs)) ≡ []
    go true r = rw e refl
    go false r = r

front : (w : List ℕ) (ws : List (List ℕ)) → hash w ≡ false → uncommented (w ∷ ws) ≡ w ∷ uncommented ws
unfolding uncommented
front w ws e = rw e refl

-- ---- the line ends

none : hash [] ≡ false
unfolding hash
none = refl

stays : (bs : List ℕ) (ws : List (List ℕ)) → after_all (commented ws) bs ≡ commented ws
unfolding after_all after
stays [] ws = refl
stays (b ∷ bs) ws = stays bs ws

speaks_on : (bs w : List ℕ) (ws : List (List ℕ)) → hash w ≡ false → closed (after_all (speaking ws w) bs) ≡ ws ++ uncommented (words_from w bs)
unfolding after_all after closed words_from uncommented
speaks_on [] w ws e = sym (ap (λ (vs : List (List ℕ)). ws ++ vs) (front w [] e))
speaks_on (b ∷ bs) w ws e =
    go (eqb b 32) (hash (w ++ (b ∷ []))) refl (speaks_on bs [] (ws ++ (w ∷ [])) none) (λ f. speaks_on bs (w ++ (b ∷ [])) ws f)
  where
    go : (t u : Bool)
        → hash (w ++ (b ∷ [])) ≡ u
        → closed (after_all (speaking (ws ++ (w ∷ [])) []) bs) ≡ (ws ++ (w ∷ [])) ++ uncommented (words_from [] bs)
        → (hash (w ++ (b ∷ [])) ≡ false → closed (after_all (speaking ws (w ++ (b ∷ []))) bs) ≡ ws ++ uncommented (words_from (w ++ (b ∷ [])) bs))
        → closed (after_all (cond t (speaking (ws ++ (w ∷ [])) []) (cond u (commented ws) (speaking ws (w ++ (b ∷ []))))) bs)
        ≡ ws ++ uncommented (cond t (w ∷ words_from [] bs) (words_from (w ++ (b ∷ [])) bs))
    go true u f next on =
        next
        ∙ append_assoc ws (w ∷ []) (uncommented (words_from [] bs))
        ∙ ap (λ (vs : List (List ℕ)). ws ++ vs) (sym (front w (words_from [] bs) e))
    go false true f next on =
        ap closed (stays bs ws)
        ∙ sym (ap (λ (vs : List (List ℕ)). ws ++ vs) (nothing_left bs (w ++ (b ∷ [])) f) ∙ append-nil ws)
    go false false f next on = on f

-- THE WORDS OF A LINE, BYTE BY BYTE, ARE THOSE IN FRONT OF ITS COMMENT
pub words_are : (line : List ℕ) → closed (spoken line) ≡ uncommented (words_of line)
unfolding spoken words_of hash
words_are line = speaks_on line [] [] refl

module _ (k : Words) (s : Speech) where
  closes_over : s.over ≡ true → KeepsWords k s → ended_in k ≡ closed k
  unfolding KeepsWords ended_in closed
  closes_over = go k
    where
      go : (k : Words) → s.over ≡ true → KeepsWords k s → ended_in k ≡ closed k
      go (speaking ws w) o q = absurd (false≢true (sym q.over ∙ o))
      go (commented ws) o q = refl

  closes_word : s.over ≡ false → KeepsWords k s → Ends (ended_in k) (closed k) s
  unfolding KeepsWords ended_in closed
  closes_word = go k
    where
      go : (k : Words) → s.over ≡ false → KeepsWords k s → Ends (ended_in k) (closed k) s
      go (speaking ws w) o q = record { word = w; kept = q.word; more = refl }
      go (commented ws) o q = absurd (false≢true (sym o ∙ q))

module _ (line : List ℕ) (s : Speech) (q : Hears line s) where
  pub ends-over : s.over ≡ true → ended_in (spoken line) ≡ uncommented (words_of line)
  ends-over o = closes_over (spoken line) s o q ∙ words_are line

  pub ends-word : s.over ≡ false → Ends (ended_in (spoken line)) (uncommented (words_of line)) s
  ends-word o = subst (λ (ws : List (List ℕ)). Ends (ended_in (spoken line)) ws s) (words_are line) (closes_word (spoken line) s o q)

-- ---- what follows a comment's beginning

after-comment : (l c w : List ℕ) → uncommented (words_from w (l ++ (32 ∷ 35 ∷ c))) ≡ uncommented (words_from w l)
unfolding words_from uncommented hash
after-comment [] c w = ap (λ (ws : List (List ℕ)). cond {A = List (List ℕ)} (hash w) [] (w ∷ ws)) (nothing_left c (35 ∷ []) refl)
after-comment (b ∷ bs) c w = go (eqb b 32) (after-comment bs c []) (after-comment bs c (w ++ (b ∷ [])))
  where
    go : (t : Bool)
        → uncommented (words_from [] (bs ++ (32 ∷ 35 ∷ c))) ≡ uncommented (words_from [] bs)
        → uncommented (words_from (w ++ (b ∷ [])) (bs ++ (32 ∷ 35 ∷ c))) ≡ uncommented (words_from (w ++ (b ∷ [])) bs)
        → uncommented (cond t (w ∷ words_from [] (bs ++ (32 ∷ 35 ∷ c))) (words_from (w ++ (b ∷ [])) (bs ++ (32 ∷ 35 ∷ c))))
        ≡ uncommented (cond t (w ∷ words_from [] bs) (words_from (w ++ (b ∷ [])) bs))
    go true next on = ap (λ (ws : List (List ℕ)). cond {A = List (List ℕ)} (hash w) [] (w ∷ ws)) next
    go false next on = on

-- "what follows ` #` on a line", and the ` #` with it, is no word
pub words-behind : (l c : List ℕ) → uncommented (words_of (l ++ (32 ∷ 35 ∷ c))) ≡ uncommented (words_of l)
unfolding words_of
words-behind l c = after-comment l c []

-- "A line that begins with `#`" has no word, "an empty line" an empty one
pub words_of_comment : (c : List ℕ) → uncommented (words_of (35 ∷ c)) ≡ []
unfolding words_of words_from hash
words_of_comment c = nothing_left c (35 ∷ []) refl

pub words_of_nothing : uncommented (words_of []) ≡ [] ∷ []
unfolding words_of words_from uncommented hash
words_of_nothing = refl
