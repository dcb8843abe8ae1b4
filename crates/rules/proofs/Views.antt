-- The records that the tables' words are read as, after rows were written. The laws of a row are those of its words, however
-- many they are: a word more in a row changes nothing here.
use Prim.Native.Nat.{ℕ, zero, suc, ◌+◌, ◌*◌, ◌≤◌, ◌<◌}
use mathlib.Core.Path.{◌≡◌, refl, sym, ap, ap₂, ◌∙◌}
use mathlib.Core.Logic.{◌≢◌, ◌⊎◌, inl, inr, ⊎_elim}
use mathlib.Core.Bool.{Bool, true, false}
use mathlib.Core.List.{List, [], ◌∷◌}
use native.Mathlib.Omega.{arith}
use native.Mathlib.Nat.{add-zero, zero-add}
use lib.ListN.{length, get_or, set, replicate, length-set, get_or-eq_default}
use lib.Seq.{get_or-set_same, get_or-set_other, set-get_or, set-set, set_comm, ext_get_or}
use lib.Dec.{ltb}
use borrow.Author.Tests.{ltb-true, ltb-false}
use Rattle.names.specs.declared.Sizes.{Sizes}
use Rattle.names.specs.Layout.{txn_head, txn_number_at, txn_kind_at, txn_start_at, txn_lock_at, txn_item_at, txn_rank_at, txn_count_at, txn_sum_at, txn_row}
use Rattle.rules.specs.Words.{row}
use Rattle.rules.specs.Tables.{behind, words_from, put_from, Txn, txn_in, txn_words_of, txn, set_txn, no_txn, new_txn, txn_at, txn_words, last_number, clock, set_awaited, set_reads, with_word, reworded}
use Rattle.rules.specs.Tables.{Lock, lock, set_lock, lock_row, lock_words, lock_in, lock_words_of, released, release, unshared, unshare}
use Rattle.rules.specs.Changed.{NoWord}
use Rattle.rules.proofs.Rows.{row_word, row-map_rows, length-map_rows}

below? : (a b : ℕ) → (a < b) ⊎ (b ≤ a)
below? a b = go (ltb a b) refl
  where
    go : (c : Bool) → ltb a b ≡ c → (a < b) ⊎ (b ≤ a)
    go true e = inl (ltb-true a b e)
    go false e = inr (ltb-false a b e)

-- ---- words behind b, written one after the other from the k-th on, and read
module _ (b : ℕ) where
  behind_is : (k : ℕ) → behind b k ≡ b + k
  behind_is zero = sym (add-zero b)
  behind_is (suc k) = refl

  length-put : (ws l : List ℕ) (k : ℕ) → length (put_from l b k ws) ≡ length l
  length-put [] l k = refl
  length-put (w ∷ ws) l k = length-put ws (set l (behind b k) w) (suc k) ∙ length-set l (behind b k) w

  -- a word that is none of them
  put-out : (ws l : List ℕ) (k j : ℕ) → (j < b + k) ⊎ (b + k + length ws ≤ j) → get_or (put_from l b k ws) j 0 ≡ get_or l j 0
  put-out [] l k j o = refl
  put-out (w ∷ ws) l k j o =
      put-out ws (set l (behind b k) w) (suc k) j (⊎_elim (λ h. inl (omega arith)) (λ h. inr (omega arith)) o)
      ∙ get_or-set_other l (behind b k) j w 0 (λ e. ⊎_elim (λ h. omega (arith, behind_is k)) (λ h. omega (arith, behind_is k)) o)

  -- they are read back
  words-put : (ws l : List ℕ) (k : ℕ) → b + k + length ws ≤ length l → words_from (put_from l b k ws) b k (length ws) ≡ ws
  words-put [] l k f = refl
  words-put (w ∷ ws) l k f =
      ap₂ {C = List ℕ} ◌∷◌
      (put-out ws (set l (behind b k) w) (suc k) (behind b k) (inl (omega (arith, behind_is k)))
      ∙ get_or-set_same l (behind b k) w 0 (omega (arith, behind_is k)))
      (words-put ws (set l (behind b k) w) (suc k) (simp length-set (omega arith)))

  -- to write what is there changes nothing
  put-words : (n : ℕ) (l : List ℕ) (k : ℕ) → put_from l b k (words_from l b k n) ≡ l
  put-words zero l k = refl
  put-words (suc n) l k =
      ap (λ (u : List ℕ). put_from u b (suc k) (words_from l b (suc k) n)) (set-get_or l (behind b k) 0) ∙ put-words n l (suc k)

  -- a word that was written before, and one of them that is changed
  put-after : (ws l : List ℕ) (k j v : ℕ) → j < b + k → put_from (set l j v) b k ws ≡ set (put_from l b k ws) j v
  put-after [] l k j v h = refl
  put-after (w ∷ ws) l k j v h =
      ap (λ (u : List ℕ). put_from u b (suc k) ws) (set_comm l j (behind b k) v w (λ e. omega (arith, behind_is k)))
      ∙ put-after ws (set l (behind b k) w) (suc k) j v (omega arith)

  put-set : (ws l : List ℕ) (k m v : ℕ) → m < length ws → put_from l b k (set ws m v) ≡ set (put_from l b k ws) (b + (k + m)) v
  put-set [] l k m v h = absurd (omega arith)
  put-set (w ∷ ws) l k zero v h =
      ap (λ (u : List ℕ). put_from u b (suc k) ws) (sym (set-set l (behind b k) w v))
      ∙ put-after ws (set l (behind b k) w) (suc k) (behind b k) v (omega (arith, behind_is k))
      ∙ ap (λ (j : ℕ). set (put_from (set l (behind b k) w) b (suc k) ws) j v) (behind_is k ∙ ap (λ (j : ℕ). b + j) (sym (add-zero k)))
  put-set (w ∷ ws) l k (suc m) v h =
      put-set ws (set l (behind b k) w) (suc k) m v (omega arith)
      ∙ ap (λ (j : ℕ). set (put_from (set l (behind b k) w) b (suc k) ws) (b + j) v) (let e : suc k + m ≡ k + suc m = omega arith in e)

  -- zeros, one more
  pub put-more : (n : ℕ) (l : List ℕ) (k : ℕ) → put_from l b k (replicate (suc n) 0) ≡ set (put_from l b k (replicate n 0)) (b + (k + n)) 0
  put-more zero l k = ap (λ (j : ℕ). set l j 0) (behind_is k ∙ ap (λ (j : ℕ). b + j) (sym (add-zero k)))
  put-more (suc n) l k =
      put-more n (set l (behind b k) 0) (suc k)
      ∙ ap (λ (j : ℕ). set (put_from (set l (behind b k) 0) b (suc k) (replicate n 0)) (b + j) 0) (let e : suc k + n ≡ k + suc n = omega arith in e)

-- words behind b and words behind c that are the same
words_same :
    (n b c k : ℕ) (l m : List ℕ) → ((i : ℕ) → i < k + n → get_or l (b + i) 0 ≡ get_or m (c + i) 0) → words_from l b k n ≡ words_from m c k n
words_same zero b c k l m f = refl
words_same (suc n) b c k l m f =
    ap₂ {C = List ℕ} ◌∷◌
    (ap (λ (j : ℕ). get_or l j 0) (behind_is b k) ∙ f k (omega arith) ∙ ap (λ (j : ℕ). get_or m j 0) (sym (behind_is c k)))
    (words_same n b c (suc k) l m (λ i h. f i (omega arith)))

-- ---- rows of the transactions
module _ (t : List ℕ) (s : ℕ) (r : Txn) where
  pub length-set_txn : length (set_txn t s r) ≡ length t
  unfolding set_txn
  length-set_txn = length-put (txn_at s) (txn_words_of r) t 0

  -- a word that is not of row s
  pub outside-set_txn : (j : ℕ) → (j < txn_at s) ⊎ (txn_at s + txn_row ≤ j) → get_or (set_txn t s r) j 0 ≡ get_or t j 0
  unfolding set_txn
  outside-set_txn j o = put-out (txn_at s) (txn_words_of r) t 0 j (⊎_elim (λ h. inl (omega arith)) (λ h. inr (omega arith)) o)

  pub last_number-set_txn : last_number (set_txn t s r) ≡ last_number t
  last_number-set_txn = outside-set_txn _ (inl (omega arith))

  pub clock-set_txn : clock (set_txn t s r) ≡ clock t
  clock-set_txn = outside-set_txn _ (inl (omega arith))

  pub txn-set_txn-other : (q : ℕ) → q ≢ s → txn (set_txn t s r) q ≡ txn t q
  unfolding txn
  txn-set_txn-other q d =
      ap txn_in
      (words_same txn_row (txn_at q) (txn_at q) 0 (set_txn t s r) t
      (λ i h. outside-set_txn (txn_at q + i) (⊎_elim (λ (l : q < s). inl (omega arith)) (λ (l : s ≤ q). inr (omega arith)) (below? q s))))

  pub txn-set_txn : (S : Sizes) → length t ≡ txn_words S → s < S.slots → txn (set_txn t s r) s ≡ r
  unfolding txn set_txn
  txn-set_txn S e h = ap txn_in (words-put (txn_at s) (txn_words_of r) t 0 (omega arith))

-- a free row is zeros; the row of one that begins is a free row with three words written
pub set_txn_none : (t : List ℕ) (s : ℕ) → set_txn t s no_txn ≡ put_from t (txn_at s) 0 (replicate txn_row 0)
unfolding set_txn
set_txn_none t s = refl

pub set_txn_new :
    (t : List ℕ) (s n k q : ℕ)
    → set_txn t s (new_txn n k q) ≡ set (set (set (set_txn t s no_txn) (txn_at s) n) (txn_at s + txn_kind_at) k) (txn_at s + txn_start_at) q
unfolding set_txn
set_txn_new t s n k q =
    put-set (txn_at s) (set (set free txn_number_at n) txn_kind_at k) t 0 txn_start_at q (omega arith)
    ∙ ap (λ (u : List ℕ). set u (txn_at s + txn_start_at) q)
    (put-set (txn_at s) (set free txn_number_at n) t 0 txn_kind_at k (omega arith)
    ∙ ap (λ (u : List ℕ). set u (txn_at s + txn_kind_at) k)
    (put-set (txn_at s) free t 0 txn_number_at n (omega arith)
    ∙ ap (λ (j : ℕ). set (put_from t (txn_at s) 0 free) j n) (add-zero (txn_at s))))
  where
    free : List ℕ
    free = txn_words_of no_txn

-- the row with other awaited fields
abbrev pub awaiting : Txn → ℕ → ℕ → ℕ → Txn
awaiting r k x p = txn_in (set (set (set (txn_words_of r) txn_lock_at k) txn_item_at x) txn_rank_at p)

-- to write the awaited fields is to write the row with these fields
pub set_awaited-row : (t : List ℕ) (s k x p : ℕ) → set_awaited t s k x p ≡ set_txn t s (awaiting (txn t s) k x p)
unfolding set_awaited set_txn txn
set_awaited-row t s k x p =
    sym
    (put-set (txn_at s) (set (set ws txn_lock_at k) txn_item_at x) t 0 txn_rank_at p (omega arith)
    ∙ ap (λ (u : List ℕ). set u (txn_at s + txn_rank_at) p)
    (put-set (txn_at s) (set ws txn_lock_at k) t 0 txn_item_at x (omega arith)
    ∙ ap (λ (u : List ℕ). set u (txn_at s + txn_item_at) x)
    (put-set (txn_at s) ws t 0 txn_lock_at k (omega arith)
    ∙ ap (λ (u : List ℕ). set u (txn_at s + txn_lock_at) k) (put-words (txn_at s) txn_row t 0))))
  where
    ws : List ℕ
    ws = words_from t (txn_at s) 0 txn_row

-- to write a row back changes nothing
pub set_txn-same : (t : List ℕ) (s : ℕ) → set_txn t s (txn t s) ≡ t
unfolding set_txn txn
set_txn-same t s = put-words (txn_at s) txn_row t 0

-- request E8: the row with another read count and weight sum, and that to write these two is to write that row
abbrev pub reading : Txn → ℕ → ℕ → Txn
reading r n w = txn_in (set (set (txn_words_of r) txn_count_at n) txn_sum_at w)

pub set_reads-row : (t : List ℕ) (s n w : ℕ) → set_reads t s n w ≡ set_txn t s (reading (txn t s) n w)
unfolding set_reads set_txn txn
set_reads-row t s n w =
    sym
    (put-set (txn_at s) (set ws txn_count_at n) t 0 txn_sum_at w (omega arith)
    ∙ ap (λ (u : List ℕ). set u (txn_at s + txn_sum_at) w)
    (put-set (txn_at s) ws t 0 txn_count_at n (omega arith)
    ∙ ap (λ (u : List ℕ). set u (txn_at s + txn_count_at) n) (put-words (txn_at s) txn_row t 0)))
  where
    ws : List ℕ
    ws = words_from t (txn_at s) 0 txn_row

-- to write back what is there changes nothing
pub set_awaited-same : (t : List ℕ) (s : ℕ) → set_awaited t s (txn t s).awaited_lock (txn t s).awaited_item (txn t s).rank ≡ t
unfolding set_awaited txn
set_awaited-same t s =
    rw (set-get_or t (txn_at s + txn_lock_at) 0, set-get_or t (txn_at s + txn_item_at) 0, set-get_or t (txn_at s + txn_rank_at) 0)

-- ---- one word of each row, that at the place k
-- the words of a row, read and written back
length-words : (n b k : ℕ) (l : List ℕ) → length (words_from l b k n) ≡ n
length-words zero b k l = refl
length-words (suc n) b k l = ap suc (length-words n b (suc k) l)

words_at : (n b k : ℕ) (l : List ℕ) (i : ℕ) → i < n → get_or (words_from l b k n) i 0 ≡ get_or l (b + (k + i)) 0
words_at zero b k l i h = absurd (omega arith)
words_at (suc n) b k l zero h = ap (λ (j : ℕ). get_or l j 0) (behind_is b k ∙ ap (λ (j : ℕ). b + j) (sym (add-zero k)))
words_at (suc n) b k l (suc i) h =
    words_at n b (suc k) l i (omega arith) ∙ ap (λ (j : ℕ). get_or l (b + j) 0) (let e : suc k + i ≡ k + suc i = omega arith in e)

words_back : (ws : List ℕ) → length ws ≡ txn_row → txn_words_of (txn_in ws) ≡ ws
words_back ws e =
    ext_get_or 0 (words_from ws 0 0 txn_row) ws (length-words txn_row 0 0 ws ∙ sym e)
    (λ i h. words_at txn_row 0 0 ws i (omega (arith, length-words txn_row 0 0 ws)) ∙ ap (λ (j : ℕ). get_or ws j 0) (let z : 0 + (0 + i) ≡ i = omega arith in z))

module _ (k : ℕ) (within : k < txn_row) where
  -- to write it is to write the row with it
  pub word_row : (t : List ℕ) (s w : ℕ) → set t (txn_at s + k) w ≡ set_txn t s (with_word k (txn t s) w)
  unfolding set_txn txn
  word_row t s w =
      sym
      (ap (λ (vs : List ℕ). put_from t (txn_at s) 0 vs) (words_back (set ws k w) (length-set ws k w))
      ∙ put-set (txn_at s) ws t 0 k w within
      ∙ ap (λ (j : ℕ). set (put_from t (txn_at s) 0 ws) (txn_at s + j) w) (zero-add k)
      ∙ ap (λ (u : List ℕ). set u (txn_at s + k) w) (put-words (txn_at s) txn_row t 0))
    where
      ws : List ℕ
      ws = words_from t (txn_at s) 0 txn_row

  pub length-reworded : (n : ℕ) (f : Txn → ℕ) (t : List ℕ) → length (reworded k n f t) ≡ length t
  unfolding reworded
  length-reworded zero f t = refl
  length-reworded (suc n) f t = length-set (reworded k n f t) (txn_at n + k) (f (txn t n)) ∙ length-reworded n f t

  -- a word that is none of them
  pub word-reworded : (n : ℕ) (f : Txn → ℕ) (t : List ℕ) (j : ℕ) → NoWord k n j → get_or (reworded k n f t) j 0 ≡ get_or t j 0
  unfolding reworded
  word-reworded zero f t j d = refl
  word-reworded (suc n) f t j d =
      get_or-set_other (reworded k n f t) (txn_at n + k) j (f (txn t n)) 0 (d n (omega arith)) ∙ word-reworded n f t j (λ r h. d r (omega arith))

  -- the head is none of them
  pub head_reworded : (n : ℕ) (f : Txn → ℕ) (t : List ℕ) (j : ℕ) → j < txn_head → get_or (reworded k n f t) j 0 ≡ get_or t j 0
  head_reworded n f t j h = word-reworded n f t j (λ r i e. omega arith)

  -- a row behind them, and one of them
  pub txn-reworded-out : (n : ℕ) (f : Txn → ℕ) (t : List ℕ) (s : ℕ) → n ≤ s → txn (reworded k n f t) s ≡ txn t s
  unfolding reworded
  txn-reworded-out zero f t s h = refl
  txn-reworded-out (suc n) f t s h =
      ap (λ (u : List ℕ). txn u s) (word_row (reworded k n f t) n (f (txn t n)))
      ∙ txn-set_txn-other (reworded k n f t) n (with_word k (txn (reworded k n f t) n) (f (txn t n))) s (λ e. omega arith)
      ∙ txn-reworded-out n f t s (omega arith)

  pub txn-reworded :
      (S : Sizes) (t : List ℕ) → length t ≡ txn_words S → (n : ℕ) → n ≤ S.slots → (f : Txn → ℕ) (s : ℕ) → s < n
      → txn (reworded k n f t) s ≡ with_word k (txn t s) (f (txn t s))
  unfolding reworded
  txn-reworded S t e zero m f s h = absurd (omega arith)
  txn-reworded S t e (suc n) m f s h =
      ap (λ (u : List ℕ). txn u s) (word_row (reworded k n f t) n (f (txn t n))) ∙ go (below? s n) (txn-reworded S t e n (omega arith) f s)
    where
      v : Txn
      v = with_word k (txn (reworded k n f t) n) (f (txn t n))

      go : (s < n) ⊎ (n ≤ s) → (s < n → txn (reworded k n f t) s ≡ with_word k (txn t s) (f (txn t s))) → txn (set_txn (reworded k n f t) n v) s ≡ with_word k (txn t s) (f (txn t s))
      go (inl l) r = txn-set_txn-other (reworded k n f t) n v s (λ q. omega arith) ∙ r l
      go (inr l) r =
          let q : s ≡ n = omega arith in
          ap (λ (m : ℕ). txn (set_txn (reworded k n f t) n v) m) q
          ∙ txn-set_txn (reworded k n f t) n v S (length-reworded n f t ∙ e) (omega arith)
          ∙ ap (λ (w : Txn). with_word k w (f (txn t n))) (txn-reworded-out n f t n (omega arith))
          ∙ ap (λ (m : ℕ). with_word k (txn t m) (f (txn t m))) (sym q)

  -- where each row has the word already, nothing changes
  pub reworded-same : (n : ℕ) (f : Txn → ℕ) (t : List ℕ) → ((s : ℕ) → s < n → f (txn t s) ≡ get_or t (txn_at s + k) 0) → reworded k n f t ≡ t
  unfolding reworded
  reworded-same zero f t e = refl
  reworded-same (suc n) f t e =
      ap (λ (u : List ℕ). set u (txn_at n + k) (f (txn t n))) (reworded-same n f t (λ s h. e s (omega arith)))
      ∙ ap (set t (txn_at n + k)) (e n (omega arith)) ∙ set-get_or t (txn_at n + k) 0

-- a word before the rows changes no row
pub txn-top : (t : List ℕ) (j w q : ℕ) → j < txn_head → txn (set t j w) q ≡ txn t q
unfolding txn
txn-top t j w q h =
    ap txn_in (words_same txn_row (txn_at q) (txn_at q) 0 (set t j w) t (λ i _. get_or-set_other t j (txn_at q + i) w 0 (omega arith)))

-- past the rows there is nothing
pub beyond : (S : Sizes) (t : List ℕ) → length t ≡ txn_words S → (a : ℕ) → S.slots ≤ a → (txn t a).awaited_lock ≡ 0
unfolding txn
beyond S t e a h = get_or-eq_default t 0 (omega arith)

-- ---- locks
module _ (l : List ℕ) (x : ℕ) (r : Lock) where
  pub lock-set_lock-other : (y : ℕ) → y ≢ x → lock (set_lock l x r) y ≡ lock l y
  unfolding lock set_lock
  lock-set_lock-other y d =
      ap lock_in
      (words_same lock_row (lock_row * y) (lock_row * y) 0 (set_lock l x r) l
      (λ i h.
      put-out (lock_row * x) (lock_words_of r) l 0 (lock_row * y + i)
      (⊎_elim (λ (k : y < x). inl (omega arith)) (λ (k : x ≤ y). inr (omega arith)) (below? y x))))

  pub lock-set_lock : (S : Sizes) → length l ≡ lock_words S → x < S.items → lock (set_lock l x r) x ≡ r
  unfolding lock set_lock
  lock-set_lock S e h = ap lock_in (words-put (lock_row * x) (lock_words_of r) l 0 (omega arith))

pub length-set_lock : (l : List ℕ) (x : ℕ) (h : Lock) → length (set_lock l x h) ≡ length l
unfolding set_lock
length-set_lock l x h = length-put (lock_row * x) (lock_words_of h) l 0

-- ---- locks read off a row's words
lock-row : (l : List ℕ) (x : ℕ) → lock_in (row lock_row x l) ≡ lock l x
unfolding lock
lock-row l x =
    ap lock_in
    (words_same lock_row 0 (lock_row * x) 0 (row lock_row x l) l
    (λ i h. ap (λ (j : ℕ). get_or (row lock_row x l) j 0) (let e : 0 + i ≡ i = omega arith in e) ∙ row_word lock_row x i l (omega arith)))

pub lock-release : (S : Sizes) (s : ℕ) (l : List ℕ) → length l ≡ lock_words S → (x : ℕ) → x < S.items → lock (release S s l) x ≡ released s (lock l x)
unfolding release
lock-release S s l e x h =
    sym (lock-row (release S s l) x)
    ∙ ap lock_in (row-map_rows lock_row (λ x r. lock_words_of (released s (lock_in r))) (λ i r k. refl) S.items 0 l (omega arith) x h)
    ∙ ap (released s) (lock-row l x)

pub length-release : (S : Sizes) (s : ℕ) (l : List ℕ) → length l ≡ lock_words S → length (release S s l) ≡ lock_words S
unfolding release
length-release S s l e =
    length-map_rows lock_row (λ x r. lock_words_of (released s (lock_in r))) (λ x r k. refl) S.items 0 l (omega arith) ∙ e

-- request E6: the locks without the shared bits of slot s
pub lock-unshare : (S : Sizes) (s : ℕ) (l : List ℕ) → length l ≡ lock_words S → (x : ℕ) → x < S.items → lock (unshare S s l) x ≡ unshared s (lock l x)
unfolding unshare
lock-unshare S s l e x h =
    sym (lock-row (unshare S s l) x)
    ∙ ap lock_in (row-map_rows lock_row (λ x r. lock_words_of (unshared s (lock_in r))) (λ i r k. refl) S.items 0 l (omega arith) x h)
    ∙ ap (unshared s) (lock-row l x)

pub length-unshare : (S : Sizes) (s : ℕ) (l : List ℕ) → length l ≡ lock_words S → length (unshare S s l) ≡ lock_words S
unfolding unshare
length-unshare S s l e =
    length-map_rows lock_row (λ x r. lock_words_of (unshared s (lock_in r))) (λ x r k. refl) S.items 0 l (omega arith) ∙ e
