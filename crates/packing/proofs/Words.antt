-- The words of a row that is rewritten: with a version in front, and with one taken out.
use Prim.Native.Nat.{ℕ, zero, suc, ◌+◌, ◌-◌, ◌*◌, ◌≤◌, ◌<◌}
use mathlib.Core.Path.{◌≡◌, refl, sym, ap, ◌∙◌, subst}
use mathlib.Core.Logic.{◌≢◌, ◌⊎◌, inl, inr, ⊎_elim}
use mathlib.Core.Bool.{Bool, true, false}
use mathlib.Core.List.{List, ◌∷◌}
use native.Mathlib.Omega.{arith}
use native.Mathlib.Nat.{eq-or-lt_of_le}
use lib.ListN.{length, get_or, set, take, drop, length-set, length-append, length-drop, get_or-append}
use lib.Seq.{ext_get_or, get_or-set_same, get_or-set_other, get_or-take, get_or-drop, get_or-append-add, length-take-le}
use lib.Dec.{ltb}
use borrow.Author.Tests.{ltb-true, ltb-false}
use Rattle.names.specs.Sizes.{base}
use Rattle.rules.specs.Tables.{version_row, masks_at}
use Rattle.rules.specs.Versions.{Version, no_version, versions_in, row_of}
use Rattle.rules.proofs.Choice.{length-versions_in}
use Rattle.rules.proofs.RowBack.{row_of-versions_in}
use Rattle.choices.specs.Pairs.{count_in, stamp_in, value_in, hidden_in}
use Rattle.choices.proofs.Read.{version_at, version_in}
use Rattle.packing.specs.Changed.{TidyRow, without}
use Rattle.packing.specs.Moved.{MovedBack, MovedUp}

-- words that have these versions, and zeros behind them, are the row of these versions
pub row_is :
    (w : List ℕ) (vs : List Version) → length w ≡ version_row base → count_in w ≡ length vs → length vs ≤ base.places
    → ((k : ℕ) → k < length vs → version_at w k ≡ get_or vs k no_version)
    → ((k : ℕ) → 2 * length vs < k → k < masks_at base → get_or w k 0 ≡ 0)
    → ((k : ℕ) → length vs ≤ k → get_or w (masks_at base + k) 0 ≡ 0) → w ≡ row_of base vs
row_is w vs l c m p z y =
    sym (row_of-versions_in base w l (omega arith) (λ k h b. z k (omega arith) b) (λ k h. y k (omega arith)))
    ∙ ap (row_of base)
    (ext_get_or no_version (versions_in base w) vs (length-versions_in base w ∙ c)
    (λ k h. let n = length-versions_in base w in version_in w k (omega arith) ∙ p k (omega arith)))

-- a row that is left as it is
pub row_same : (r : List ℕ) → TidyRow r → r ≡ row_of base (versions_in base r)
row_same r t = sym (row_of-versions_in base r t.size t.sound.most t.unused t.unhidden)

-- the words of two places, one by one
pub three_words :
    (w r : List ℕ) (j k : ℕ) → stamp_in w j ≡ stamp_in r k → value_in w j ≡ value_in r k → hidden_in w j ≡ hidden_in r k → version_at w j ≡ version_at r k
three_words w r j k a b c = λ i. record { stamp = a i; value = b i; hidden = c i }

-- ---- a version written in front of those that stand from the second place on
module _ (stamp value hidden : ℕ) (m : List ℕ) (vs : List Version) where
  abbrev new : Version
  new = record { stamp = stamp; value = value; hidden = hidden }

  abbrev paired : List ℕ
  paired = set (set m 1 stamp) 2 value

  abbrev w : List ℕ
  w = set paired (masks_at base) hidden

  long : length (set (set m 1 stamp) 2 value) ≡ length m
  long = length-set (set m 1 stamp) 2 value ∙ length-set m 1 stamp

  other : (i : ℕ) → i ≢ 1 → i ≢ 2 → i ≢ masks_at base → get_or w i 0 ≡ get_or m i 0
  other i a b c =
      get_or-set_other paired (masks_at base) i hidden 0 c ∙ get_or-set_other (set m 1 stamp) 2 i value 0 b ∙ get_or-set_other m 1 i stamp 0 a

  front_is :
      length m ≡ version_row base → get_or m 0 0 ≡ suc (length vs) → length vs < base.places
      → ((k : ℕ) → k < length vs → version_at m (suc k) ≡ get_or vs k no_version)
      → ((k : ℕ) → 2 * suc (length vs) < k → k < masks_at base → get_or m k 0 ≡ 0)
      → ((k : ℕ) → suc (length vs) ≤ k → get_or m (masks_at base + k) 0 ≡ 0) → w ≡ row_of base (new ∷ vs)
  front_is l c n p z y =
      row_is w (new ∷ vs) (length-set paired (masks_at base) hidden ∙ long ∙ l)
      (other 0 (λ e. omega arith) (λ e. omega arith) (λ e. omega arith) ∙ c)
      n one
      (λ k h b. other k (λ e. omega arith) (λ e. omega arith) (λ e. omega arith) ∙ z k h b)
      (λ k h. other (masks_at base + k) (λ e. omega arith) (λ e. omega arith) (λ e. omega arith) ∙ y k h)
    where
      one : (k : ℕ) → k < suc (length vs) → version_at w k ≡ get_or (new ∷ vs) k no_version
      one zero h = λ i.
          record {
            stamp =
                (get_or-set_other paired (masks_at base) 1 hidden 0 (λ e. omega arith)
                ∙ get_or-set_other (set m 1 stamp) 2 1 value 0 (λ e. omega arith)
                ∙ get_or-set_same m 1 stamp 0 (omega arith)) i;
            value =
                (get_or-set_other paired (masks_at base) 2 hidden 0 (λ e. omega arith)
                ∙ get_or-set_same (set m 1 stamp) 2 value 0 (let e = length-set m 1 stamp in omega arith)) i;
            hidden = (get_or-set_same paired (masks_at base) hidden 0 (let e = long in omega arith)) i;
          }
      one (suc k) h =
          three_words w m (suc k) (suc k)
          (other (suc k * 2 + 1) (λ e. omega arith) (λ e. omega arith) (λ e. omega arith))
          (other (suc k * 2 + 2) (λ e. omega arith) (λ e. omega arith) (λ e. omega arith))
          (other (masks_at base + suc k) (λ e. omega arith) (λ e. omega arith) (λ e. omega arith))
          ∙ p k (omega arith)

module _ (r : List ℕ) (t : TidyRow r) (stamp value hidden : ℕ) where
  -- it takes the place of the newest
  pub front_instead :
      set (set (set r 1 stamp) 2 value) (masks_at base) hidden
      ≡ row_of base (record { stamp = stamp; value = value; hidden = hidden } ∷ drop 1 (versions_in base r))
  front_instead =
      let n = length-versions_in base r in
      let least = t.sound.least in
      let most = t.sound.most in
      let d = length-drop 1 (versions_in base r) in
      front_is stamp value hidden r (drop 1 (versions_in base r)) t.size (omega arith) (omega arith)
      (λ k h.
      sym
      (get_or-drop 1 (versions_in base r) k no_version ∙ version_in r (1 + k) (omega arith) ∙ ap (version_at r) (let e : 1 + k ≡ suc k = omega arith in e)))
      (λ k h b. t.unused k (omega arith) b)
      (λ k h. t.unhidden k (omega arith))

  -- all others are moved, and counted with it
  pub front_of_all :
      (m m' : List ℕ) → MovedBack r m 1 (1 + count_in r * 2) 2 → MovedBack m m' (masks_at base) (masks_at base + count_in r) 1 → count_in r < base.places
      → set (set (set (set m' 0 (count_in r + 1)) 1 stamp) 2 value) (masks_at base) hidden
      ≡ row_of base (record { stamp = stamp; value = value; hidden = hidden } ∷ versions_in base r)
  front_of_all m m' b b' room =
      let n = length-versions_in base r in
      front_is stamp value hidden out (versions_in base r) (length-set m' 0 (count_in r + 1) ∙ b'.size ∙ b.size ∙ t.size)
      (get_or-set_same m' 0 (count_in r + 1) 0 (let e = b.size in let f = b'.size in let g = t.size in omega arith)
      ∙ (let e : count_in r + 1 ≡ suc (length (versions_in base r)) = omega arith in e))
      (omega arith)
      (λ k h.
      three_words out r (suc k) k
      (pair (k * 2 + 1) (omega arith) (omega arith) (omega arith))
      (pair (k * 2 + 2) (omega arith) (omega arith) (omega arith))
      (mask k (omega arith))
      ∙ sym (version_in r k (omega arith)))
      (λ k h c. other' k (omega arith) ∙ b'.before k (omega arith) ∙ b.behind k (omega arith) ∙ t.unused k (omega arith) c)
      (λ k h.
      other' (masks_at base + k) (omega arith)
      ∙ b'.behind (masks_at base + k) (omega arith)
      ∙ b.behind (masks_at base + k) (omega arith)
      ∙ t.unhidden k (omega arith))
    where
      out : List ℕ
      out = set m' 0 (count_in r + 1)

      other' : (i : ℕ) → 0 < i → get_or out i 0 ≡ get_or m' i 0
      other' i h = get_or-set_other m' 0 i (count_in r + 1) 0 (λ e. omega arith)

      pair : (i : ℕ) {j : ℕ} → 1 ≤ i → i < 1 + count_in r * 2 → j ≡ i + 2 → get_or out j 0 ≡ get_or r i 0
      pair i {j} a h e =
          other' j (omega arith) ∙ b'.before j (omega arith) ∙ ap (λ (j : ℕ). get_or m j 0) e ∙ b.moved i a h

      mask : (k : ℕ) → k < count_in r → get_or out (masks_at base + suc k) 0 ≡ get_or r (masks_at base + k) 0
      mask k h =
          other' (masks_at base + suc k) (omega arith)
          ∙ ap (λ (j : ℕ). get_or m' j 0) (let e : masks_at base + suc k ≡ masks_at base + k + 1 = omega arith in e)
          ∙ b'.moved (masks_at base + k) (omega arith) (omega arith)
          ∙ b.behind (masks_at base + k) (omega arith)

-- ---- the version at place k taken out
module _ (r : List ℕ) (t : TidyRow r) (k : ℕ) (inside : k < count_in r) where
  abbrev vs : List Version
  vs = versions_in base r

  abbrev last : ℕ
  last = count_in r - 1

  length_without : length (without k (versions_in base r)) ≡ count_in r - 1
  length_without =
      let n = length-versions_in base r in
      length-append (take k vs) (drop (suc k) vs)
      ∙ (let a = length-take-le k vs (omega arith) in let d = length-drop (suc k) vs in omega arith)

  without-before : (j : ℕ) → j < k → get_or (without k (versions_in base r)) j no_version ≡ get_or (versions_in base r) j no_version
  without-before j h =
      get_or-append (take k vs) (drop (suc k) vs) no_version j
      (let n = length-versions_in base r in let a = length-take-le k vs (omega arith) in omega arith)
      ∙ get_or-take k vs j no_version h

  without-behind : (j : ℕ) → k ≤ j → get_or (without k (versions_in base r)) j no_version ≡ get_or (versions_in base r) (suc j) no_version
  without-behind j h =
      let n = length-versions_in base r in
      let a = length-take-le k vs (omega arith) in
      ap (λ (i : ℕ). get_or (without k vs) i no_version) (let e : j ≡ length (take k vs) + (j - k) = omega arith in e)
      ∙ get_or-append-add (take k vs) (drop (suc k) vs) (j - k) no_version
      ∙ get_or-drop (suc k) vs (j - k) no_version
      ∙ ap (λ (i : ℕ). get_or vs i no_version) (let e : suc k + (j - k) ≡ suc j = omega arith in e)

  module _
      (m m' : List ℕ) (u : MovedUp r m (k * 2 + 1) ((count_in r - 1) * 2 + 1) 2)
      (u' : MovedUp m m' (masks_at base + k) (masks_at base + (count_in r - 1)) 1)
    where
      abbrev counted : List ℕ
      counted = set m' 0 (count_in r - 1)

      abbrev cleared : List ℕ
      cleared = set (set counted (last * 2 + 1) 0) (last * 2 + 2) 0

      abbrev out : List ℕ
      out = set cleared (masks_at base + last) 0

      whole : length m' ≡ version_row base
      whole = u'.size ∙ u.size ∙ t.size

      counted-long : length counted ≡ version_row base
      counted-long = length-set m' 0 (count_in r - 1) ∙ whole

      cleared-long : length cleared ≡ version_row base
      cleared-long = length-set (set counted (last * 2 + 1) 0) (last * 2 + 2) 0 ∙ length-set counted (last * 2 + 1) 0 ∙ counted-long

      word : (i : ℕ) → i ≢ 0 → i ≢ last * 2 + 1 → i ≢ last * 2 + 2 → i ≢ masks_at base + last → get_or out i 0 ≡ get_or m' i 0
      word i z a b c =
          get_or-set_other cleared (masks_at base + last) i 0 0 c
          ∙ get_or-set_other (set counted (last * 2 + 1) 0) (last * 2 + 2) i 0 0 b
          ∙ get_or-set_other counted (last * 2 + 1) i 0 0 a
          ∙ get_or-set_other m' 0 i (count_in r - 1) 0 z

      -- a word of a pair, and a mask, of those that are left
      pair : (i : ℕ) → 0 < i → i < last * 2 + 1 → get_or out i 0 ≡ get_or m i 0
      pair i z h =
          let most = t.sound.most in
          word i (λ e. omega arith) (λ e. omega arith) (λ e. omega arith) (λ e. omega arith) ∙ u'.before i (omega arith)

      mask : (j : ℕ) → j < last → get_or out (masks_at base + j) 0 ≡ get_or m' (masks_at base + j) 0
      mask j h =
          let most = t.sound.most in
          word (masks_at base + j) (λ e. omega arith) (λ e. omega arith) (λ e. omega arith) (λ e. omega arith)

      pub gap_closed :
          set (set (set (set m' 0 (count_in r - 1)) ((count_in r - 1) * 2 + 1) 0) ((count_in r - 1) * 2 + 2) 0) (masks_at base + (count_in r - 1)) 0
          ≡ row_of base (without k (versions_in base r))
      gap_closed =
          let n = length_without in
          let most = t.sound.most in
          row_is out (without k vs) (length-set cleared (masks_at base + last) 0 ∙ cleared-long)
          (get_or-set_other cleared (masks_at base + last) 0 0 0 (λ e. omega arith)
          ∙ get_or-set_other (set counted (last * 2 + 1) 0) (last * 2 + 2) 0 0 0 (λ e. omega arith)
          ∙ get_or-set_other counted (last * 2 + 1) 0 0 0 (λ e. omega arith)
          ∙ get_or-set_same m' 0 (count_in r - 1) 0 (let e = whole in omega arith)
          ∙ sym n)
          (omega arith)
          (λ j h. one j (omega arith) (ltb j k) refl)
          (λ i h b. unused i (omega arith) b (eq-or-lt_of_le (let e : last * 2 + 1 ≤ i = omega arith in e)))
          (λ j h. unhidden j (eq-or-lt_of_le (let e : last ≤ j = omega arith in e)))
        where
          one : (j : ℕ) → j < count_in r - 1 → (b : Bool) → ltb j k ≡ b → version_at out j ≡ get_or (without k vs) j no_version
          one j h true e =
              let l = ltb-true j k e in
              let most = t.sound.most in
              three_words out r j j
              (pair (j * 2 + 1) (omega arith) (omega arith) ∙ u.before (j * 2 + 1) (omega arith))
              (pair (j * 2 + 2) (omega arith) (omega arith) ∙ u.before (j * 2 + 2) (omega arith))
              (mask j h ∙ u'.before (masks_at base + j) (omega arith) ∙ u.behind (masks_at base + j) (omega arith))
              ∙ sym (version_in r j (omega arith))
              ∙ sym (without-before j l)
          one j h false e =
              let l = ltb-false j k e in
              let most = t.sound.most in
              three_words out r j (suc j)
              (pair (j * 2 + 1) (omega arith) (omega arith)
              ∙ u.moved (j * 2 + 1) (omega arith) (omega arith)
              ∙ ap (λ (i : ℕ). get_or r i 0) (let z : j * 2 + 1 + 2 ≡ suc j * 2 + 1 = omega arith in z))
              (pair (j * 2 + 2) (omega arith) (omega arith)
              ∙ u.moved (j * 2 + 2) (omega arith) (omega arith)
              ∙ ap (λ (i : ℕ). get_or r i 0) (let z : j * 2 + 2 + 2 ≡ suc j * 2 + 2 = omega arith in z))
              (mask j h
              ∙ u'.moved (masks_at base + j) (omega arith) (omega arith)
              ∙ u.behind (masks_at base + j + 1) (omega arith)
              ∙ ap (λ (i : ℕ). get_or r i 0) (let z : masks_at base + j + 1 ≡ masks_at base + suc j = omega arith in z))
              ∙ sym (version_in r (suc j) (omega arith))
              ∙ sym (without-behind j l)

          unused : (i : ℕ) → 2 * last < i → i < masks_at base → (last * 2 + 1 ≡ i) ⊎ (last * 2 + 1 < i) → get_or out i 0 ≡ 0
          unused i h b (inl e) =
              let most = t.sound.most in
              subst (λ (i : ℕ). get_or out i 0 ≡ 0) e
              (get_or-set_other cleared (masks_at base + last) (last * 2 + 1) 0 0 (λ z. omega arith)
              ∙ get_or-set_other (set counted (last * 2 + 1) 0) (last * 2 + 2) (last * 2 + 1) 0 0 (λ z. omega arith)
              ∙ get_or-set_same counted (last * 2 + 1) 0 0 (let a = counted-long in omega arith))
          unused i h b (inr l) =
              let most = t.sound.most in
              ⊎_elim
              (λ (e : last * 2 + 2 ≡ i). subst (λ (i : ℕ). get_or out i 0 ≡ 0) e
              (get_or-set_other cleared (masks_at base + last) (last * 2 + 2) 0 0 (λ z. omega arith)
              ∙ get_or-set_same (set counted (last * 2 + 1) 0) (last * 2 + 2) 0 0 (let a = length-set counted (last * 2 + 1) 0 in let c = counted-long in omega arith)))
              (λ (e : last * 2 + 2 < i).
              word i (λ z. omega arith) (λ z. omega arith) (λ z. omega arith) (λ z. omega arith)
              ∙ u'.before i (omega arith)
              ∙ u.behind i (omega arith)
              ∙ t.unused i (omega arith) b)
              (eq-or-lt_of_le (let z : last * 2 + 2 ≤ i = omega arith in z))

          unhidden : (j : ℕ) → (last ≡ j) ⊎ (last < j) → get_or out (masks_at base + j) 0 ≡ 0
          unhidden j (inl e) =
              let most = t.sound.most in
              subst (λ (j : ℕ). get_or out (masks_at base + j) 0 ≡ 0) e
              (get_or-set_same cleared (masks_at base + last) 0 0 (let a = cleared-long in omega arith))
          unhidden j (inr l) =
              let most = t.sound.most in
              word (masks_at base + j) (λ z. omega arith) (λ z. omega arith) (λ z. omega arith) (λ z. omega arith)
              ∙ u'.behind (masks_at base + j) (omega arith)
              ∙ u.behind (masks_at base + j) (omega arith)
              ∙ t.unhidden j (omega arith)
