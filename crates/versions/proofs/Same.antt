-- What the code tests of a row of versions is what the rules say of it, and so for all rows.
use Prim.Native.Nat.{ℕ, zero, suc, ◌+◌, ◌-◌, ◌*◌, ◌<◌, ◌≤◌}
use mathlib.Core.Path.{◌≡◌, refl, sym, ap, ◌∙◌, subst}
use mathlib.Core.Logic.{◌⊎◌, inl, inr}
use mathlib.Core.Bool.{Bool, true, false, ◌&&◌, ◌||◌}
use mathlib.Core.List.{List, Memᴰ}
use native.Mathlib.Omega.{arith}
use native.Mathlib.Nat.{not-suc-le-zero, zero-add, eq-or-lt_of_le}
use lib.ListN.{get_or, length, take, drop, length-drop, length-take, get_or-eq_default}
use lib.Seq.{get_or-take, get_or-drop}
use lib.Bits.{bit_or}
use lib.Dec.{T, eqb, leb, ltb, leb→le, le→leb, ltb→lt, lt→ltb, eqb→eq}
use borrow.Author.Tests.{ltb-true, ltb-false}
use Rattle.names.specs.Sizes.{base}
use Rattle.names.specs.Layout.{version_stamp_at, version_pair}
use Rattle.rules.specs.Words.{every, every_below, every_row, row, bit, contains}
use Rattle.rules.specs.Tables.{version_row, version_words, masks_at, Reader}
use Rattle.rules.specs.Versions.{Version, no_version, versions_in, stamp_at, hidden_at, sees, read_by_some}
use Rattle.rules.specs.Tested.{falls, nests, last_seen, all_read, versions_good}
use Rattle.rules.proofs.Tests.{and_left, and_right, and_both, or_cases, or_right, eq_make, false_is}
use Rattle.rules.proofs.Counts.{every_below→, →every_below, every_mem, mem_every}
use Rattle.rules.proofs.Rows.{every_row→, →every_row}
use Rattle.rules.proofs.Bits.{bit_none, contains→, →contains}
use Rattle.rules.proofs.Choice.{length-versions_in, zero_each, zero_all, Falls, falls→Falls, Falls→falls, Nests, nests→Nests, Nests→nests}
use Rattle.rules.proofs.Trim.{all_read→, →all_read}
use Rattle.choices.specs.Pairs.{count_in, hidden_in}
use Rattle.choices.proofs.Read.{stamp_in_lem, hidden_in_lem}
use Rattle.words.proofs.Turns.{iff_eq}
use Rattle.starts.specs.Starts.{Split}
use Rattle.starts.specs.Ordered.{lanes, guard, InOrder, between}
use Rattle.starts.proofs.Split.{split-seen}
use Rattle.starts.proofs.Between.{read_same, first-most, first-known}
use Rattle.versions.specs.Rows.{place_before, stamp_before, step_ok, step_at, row_ok, rows_ok}
use Rattle.versions.proofs.Rowed.{Row, row_ok→, →row_ok}

-- stamps that fall from place to place fall, and sets that are nested so are nested
falling : (f : ℕ → ℕ) (n : ℕ) → ((j : ℕ) → suc j < n → f (suc j) < f j) → (i j : ℕ) → i < j → j < n → f j < f i
falling f n h i zero l b = absurd (not-suc-le-zero l)
falling f n h i (suc j) l b = go (eq-or-lt_of_le (let k : i ≤ j = omega arith in k)) (λ w. falling f n h i j w (omega arith))
  where
    go : (i ≡ j) ⊎ (i < j) → (i < j → f j < f i) → f (suc j) < f i
    go (inl e) g = subst (λ (k : ℕ). f (suc j) < f k) (sym e) (h j b)
    go (inr l) g = let x = h j b in let y = g l in omega arith

nesting :
    (f : ℕ → ℕ) (n : ℕ) → ((j : ℕ) → suc j < n → (s : ℕ) → T (bit (f (suc j)) s) → T (bit (f j) s)) → (i j : ℕ) → i < j → j < n
    → (s : ℕ) → T (bit (f j) s) → T (bit (f i) s)
nesting f n h i zero l b = absurd (not-suc-le-zero l)
nesting f n h i (suc j) l b = go (eq-or-lt_of_le (let k : i ≤ j = omega arith in k)) (λ w. nesting f n h i j w (omega arith))
  where
    go : (i ≡ j) ⊎ (i < j) → (i < j → (s : ℕ) → T (bit (f j) s) → T (bit (f i) s)) → (s : ℕ) → T (bit (f (suc j)) s) → T (bit (f i) s)
    go (inl e) g = subst (λ (k : ℕ). (s : ℕ) → T (bit (f (suc j)) s) → T (bit (f k) s)) (sym e) (h j b)
    go (inr l) g = λ s t. g l s (h j b s t)

module _
    (now : ℕ) (qs : List Reader) (us q : List ℕ) (w : ℕ) (r : List ℕ) (clocked : now ≤ guard) (size : length r ≡ version_row base)
    (ordered : InOrder us q) (split : Split qs us w)
  where
    abbrev vs : List Version
    vs = versions_in base r

    abbrev m : ℕ
    m = count_in r

    abbrev last : Version
    last = get_or vs (length vs - 1) no_version

    long : length vs ≡ m
    long = length-versions_in base r

    -- the words that a place is tested by are those of the versions there
    step_words :
        (j : ℕ) → suc j < m
        → step_at q r j
        ≡ step_ok (stamp_at vs (suc j)) (stamp_at vs j) (hidden_at vs (suc j)) (hidden_at vs j) (between q (stamp_at vs (suc j)) (stamp_at vs j))
    unfolding step_at
    step_words j h =
        let e : j + 1 ≡ suc j = omega arith in
        rw (e, ← stamp_in_lem r (suc j) h, ← stamp_in_lem r j (omega arith), ← hidden_in_lem r (suc j) h, ← hidden_in_lem r j (omega arith)) refl

    last-stamp : 1 ≤ m → last.stamp ≡ stamp_before r m
    last-stamp l =
        (unfold stamp_at in
        (ap (λ (k : ℕ). stamp_at vs (k - 1)) long
        ∙ stamp_in_lem r (m - 1) (omega arith)
        ∙ ap (λ (k : ℕ). get_or r k 0) (let e : (m - 1) * version_pair + version_stamp_at ≡ place_before m = omega arith in e)))

    last-hidden : 1 ≤ m → last.hidden ≡ hidden_in r (m - 1)
    last-hidden l = (unfold hidden_at in (ap (λ (k : ℕ). hidden_at vs (k - 1)) long ∙ hidden_in_lem r (m - 1) (omega arith)))

    abbrev pairs_zero : Bool
    pairs_zero = every (λ x. eqb x 0) (drop (1 + 2 * m) (take (masks_at base) r))

    abbrev masks_zero : Bool
    masks_zero = every (λ x. eqb x 0) (drop (masks_at base + m) r)

    abbrev in_sets : Bool
    in_sets = contains w (hidden_at vs 0)

    row→ : Row now q w r → T (versions_good base now qs w r)
    unfolding versions_good last_seen
    row→ g =
        and_both (leb 1 m) _ (le→leb 1 m g.least)
        (and_both (leb m base.places) _ (le→leb m base.places g.most)
        (and_both pairs_zero _
        (zero_all (drop (1 + 2 * m) (take (masks_at base) r))
        (λ j. get_or-drop (1 + 2 * m) (take (masks_at base) r) j 0 ∙ before (1 + 2 * m + j) (omega arith) (ltb (1 + 2 * m + j) (masks_at base)) refl))
        (and_both masks_zero _
        (zero_all (drop (masks_at base + m) r)
        (λ j.
        get_or-drop (masks_at base + m) r j 0
        ∙ ap (λ (k : ℕ). get_or r k 0) (let e : masks_at base + m + j ≡ masks_at base + (m + j) = omega arith in e)
        ∙ behind (m + j) (omega arith) (ltb (m + j) base.places) refl))
        (and_both (falls vs) _ (Falls→falls vs fall)
        (and_both (nests vs) _ (Nests→nests vs nest)
        (and_both in_sets _ (subst (λ (x : ℕ). T (contains w x)) (sym top) g.known)
        (and_both (leb (stamp_at vs 0) now) _ (le→leb (stamp_at vs 0) now first)
        (and_both (every (λ p. sees p last) qs) (all_read qs vs 0 vs)
        (subst T (sym (split-seen qs us w split last (λ i b. absurd (false_is (bit_none i) (subst (λ (x : ℕ). T (bit x i)) (last-hidden g.least ∙ g.shown) b)))))
        (and_both (every (λ u. leb last.stamp u) us) _
        (mem_every (λ u. leb last.stamp u) us (λ s i. le→leb last.stamp s (old s (ordered.all s i))))
        (eq_make last.hidden 0 (last-hidden g.least ∙ g.shown))))
        (→all_read qs vs 0 vs (λ j b. rw zero-add (each j b)))))))))))
      where
        before : (k : ℕ) → 2 * m < k → (b : Bool) → ltb k (masks_at base) ≡ b → get_or (take (masks_at base) r) k 0 ≡ 0
        before k l true e = let h = ltb-true k (masks_at base) e in get_or-take (masks_at base) r k 0 h ∙ g.unused k l h
        before k l false e = get_or-eq_default (take (masks_at base) r) 0 (let h = ltb-false k (masks_at base) e in rw length-take (omega arith))

        behind : (k : ℕ) → m ≤ k → (b : Bool) → ltb k base.places ≡ b → get_or r (masks_at base + k) 0 ≡ 0
        behind k l true e = g.unhidden k l (ltb-true k base.places e)
        behind k l false e = get_or-eq_default r 0 {n = masks_at base + k} (let h = ltb-false k base.places e in omega arith)

        step : (j : ℕ) → suc j < m → T (step_ok (stamp_at vs (suc j)) (stamp_at vs j) (hidden_at vs (suc j)) (hidden_at vs j) (between q (stamp_at vs (suc j)) (stamp_at vs j)))
        step j h = subst T (step_words j h) (g.step j (omega arith))

        top : hidden_at vs 0 ≡ hidden_in r 0
        top = hidden_in_lem r 0 g.least

        fall : Falls vs
        fall =
            unfold Falls in
            λ i j a b.
            let z = long in
            falling (stamp_at vs) m (λ k h. ltb→lt (stamp_at vs (suc k)) (stamp_at vs k) (and_left (ltb (stamp_at vs (suc k)) (stamp_at vs k)) _ (step k h))) i j a (omega arith)

        nest : Nests vs
        nest =
            unfold Nests contains in
            λ i j a b.
            let z = long in
            nesting (hidden_at vs) m
            (λ k h. contains→ (hidden_at vs k) (hidden_at vs (suc k)) (and_left (eqb (bit_or (hidden_at vs k) (hidden_at vs (suc k))) (hidden_at vs k)) _ (and_right (ltb (stamp_at vs (suc k)) (stamp_at vs k)) _ (step k h))))
            i j a (omega arith)

        first : stamp_at vs 0 ≤ now
        first = let a = stamp_in_lem r 0 g.least in let b = g.new in omega arith

        old : (s : ℕ) → (k : ℕ) × (k < lanes) × (get_or q k 0 ≡ s) → last.stamp ≤ s
        old s k =
            let a = last-stamp g.least in
            let b = g.old in
            let d = ordered.order.rises 0 k.0 (omega arith) k.1 in
            let e = k.2 in
            omega arith

        each : (j : ℕ) → j < length vs → T (eqb j 0 || read_by_some qs vs j)
        each zero b = tt
        each (suc j) b =
            let z = long in
            or_right (eqb (suc j) 0) (read_by_some qs vs (suc j))
            (subst T
            (sym
            (read_same qs us w split vs fall nest (contains→ w (hidden_at vs 0) (subst (λ (x : ℕ). T (contains w x)) (sym top) g.known)) q ordered
            (let f = first in omega arith) j b))
            (and_right (eqb (bit_or (hidden_at vs j) (hidden_at vs (suc j))) (hidden_at vs j)) _ (and_right (ltb (stamp_at vs (suc j)) (stamp_at vs j)) _ (step j (omega arith)))))

    →row : T (versions_good base now qs w r) → Row now q w r
    unfolding versions_good last_seen
    →row t =
        record {
          least = least;
          most = leb→le m base.places (and_left (leb m base.places) _ t₁);
          unused =
              λ k l b.
              sym (get_or-take (masks_at base) r k 0 b)
              ∙ ap (λ (j : ℕ). get_or (take (masks_at base) r) j 0) (let e : k ≡ (1 + 2 * m) + (k - (1 + 2 * m)) = omega arith in e)
              ∙ sym (get_or-drop (1 + 2 * m) (take (masks_at base) r) (k - (1 + 2 * m)) 0)
              ∙ zero_each (drop (1 + 2 * m) (take (masks_at base) r)) (and_left pairs_zero _ t₂) (k - (1 + 2 * m));
          unhidden =
              λ k l b.
              ap (λ (j : ℕ). get_or r j 0) (let e : masks_at base + k ≡ (masks_at base + m) + (k - m) = omega arith in e)
              ∙ sym (get_or-drop (masks_at base + m) r (k - m) 0)
              ∙ zero_each (drop (masks_at base + m) r) (and_left masks_zero _ t₃) (k - m);
          known = subst (λ (x : ℕ). T (contains w x)) (hidden_in_lem r 0 least) (and_left in_sets _ t₆);
          new = let a = stamp_in_lem r 0 least in let b = first in omega arith;
          old = old (ordered.only 0 (omega arith));
          shown = sym (last-hidden least) ∙ eqb→eq last.hidden 0 (and_right (every (λ u. leb last.stamp u) us) _ seen);
          step = λ j b. steps j (omega arith);
        }
      where
        t₁ : T (leb m base.places && (pairs_zero && (masks_zero && (falls vs && (nests vs && (in_sets && (leb (stamp_at vs 0) now && (every (λ p. sees p last) qs && all_read qs vs 0 vs))))))))
        t₁ = and_right (leb 1 m) _ t

        t₂ : T (pairs_zero && (masks_zero && (falls vs && (nests vs && (in_sets && (leb (stamp_at vs 0) now && (every (λ p. sees p last) qs && all_read qs vs 0 vs)))))))
        t₂ = and_right (leb m base.places) _ t₁

        t₃ : T (masks_zero && (falls vs && (nests vs && (in_sets && (leb (stamp_at vs 0) now && (every (λ p. sees p last) qs && all_read qs vs 0 vs))))))
        t₃ = and_right pairs_zero _ t₂

        t₄ : T (falls vs && (nests vs && (in_sets && (leb (stamp_at vs 0) now && (every (λ p. sees p last) qs && all_read qs vs 0 vs)))))
        t₄ = and_right masks_zero _ t₃

        t₅ : T (nests vs && (in_sets && (leb (stamp_at vs 0) now && (every (λ p. sees p last) qs && all_read qs vs 0 vs))))
        t₅ = and_right (falls vs) _ t₄

        t₆ : T (in_sets && (leb (stamp_at vs 0) now && (every (λ p. sees p last) qs && all_read qs vs 0 vs)))
        t₆ = and_right (nests vs) _ t₅

        t₇ : T (leb (stamp_at vs 0) now && (every (λ p. sees p last) qs && all_read qs vs 0 vs))
        t₇ = and_right in_sets _ t₆

        t₈ : T (every (λ p. sees p last) qs && all_read qs vs 0 vs)
        t₈ = and_right (leb (stamp_at vs 0) now) _ t₇

        least : 1 ≤ m
        least = leb→le 1 m (and_left (leb 1 m) _ t)

        first : stamp_at vs 0 ≤ now
        first = leb→le (stamp_at vs 0) now (and_left (leb (stamp_at vs 0) now) _ t₇)

        fall : Falls vs
        fall = falls→Falls vs (and_left (falls vs) _ t₄)

        nest : Nests vs
        nest = nests→Nests vs (and_left (nests vs) _ t₅)

        known : (i : ℕ) → T (bit (hidden_at vs 0) i) → T (bit w i)
        known = contains→ w (hidden_at vs 0) (and_left in_sets _ t₆)

        -- the last is hidden from relaxed queries at most, so from none; and every start is from its stamp on
        seen : T (every (λ u. leb last.stamp u) us && eqb last.hidden 0)
        seen =
            subst T (split-seen qs us w split last of) (and_left (every (λ p. sees p last) qs) (all_read qs vs 0 vs) t₈)
          where
            of : (i : ℕ) → T (bit last.hidden i) → T (bit w i)
            of i b = (unfold hidden_at in (first-known vs nest w known (length vs - 1) (let l = least in let z = long in omega arith) i b))

        -- the guard is not below the newest stamp, nor below any
        lowest : last.stamp ≤ guard
        lowest = (unfold stamp_at in (first-most vs fall guard (let f = first in omega arith) (length vs - 1) (let l = least in let z = long in omega arith)))

        old : (get_or q 0 0 ≡ guard) ⊎ Memᴰ (get_or q 0 0) us → stamp_before r m ≤ get_or q 0 0
        old (inl e) = let a = last-stamp least in let b = lowest in omega arith
        old (inr i) =
            let a = last-stamp least in
            let b =
            leb→le last.stamp (get_or q 0 0)
            (every_mem (λ u. leb last.stamp u) (and_left (every (λ u. leb last.stamp u) us) _ seen) i) in
            omega arith

        reads : (j : ℕ) → suc j < m → T (read_by_some qs vs (suc j))
        reads j b = go (or_cases (eqb (suc j) 0) (read_by_some qs vs (suc j)) (rw zero-add at (all_read→ qs vs 0 vs (and_right (every (λ p. sees p last) qs) (all_read qs vs 0 vs) t₈) (suc j) (let l = long in omega arith))))
          where
            go : T (eqb (suc j) 0) ⊎ T (read_by_some qs vs (suc j)) → T (read_by_some qs vs (suc j))
            go (inl x) = absurd (let e = eqb→eq (suc j) 0 x in omega arith)
            go (inr x) = x

        steps : (j : ℕ) → suc j < m → T (step_at q r j)
        steps j b =
            subst T (sym (step_words j b))
            (and_both (ltb (stamp_at vs (suc j)) (stamp_at vs j)) _ (lt→ltb (stamp_at vs (suc j)) (stamp_at vs j) (falls_here j b))
            (and_both (eqb (bit_or (hidden_at vs j) (hidden_at vs (suc j))) (hidden_at vs j)) _ (nests_here j b)
            (subst T (read_same qs us w split vs fall nest known q ordered (let f = first in omega arith) j (let l = long in omega arith)) (reads j b))))
          where
            falls_here : (j : ℕ) → suc j < m → stamp_at vs (suc j) < stamp_at vs j
            falls_here j b = (unfold Falls in (fall j (suc j) (omega arith) (let l = long in omega arith)))

            nests_here : (j : ℕ) → suc j < m → T (eqb (bit_or (hidden_at vs j) (hidden_at vs (suc j))) (hidden_at vs j))
            nests_here j b = (unfold Nests contains in (→contains (hidden_at vs j) (hidden_at vs (suc j)) (nest j (suc j) (omega arith) (let l = long in omega arith))))

    -- one row
    pub row_same : row_ok now q w r ≡ versions_good base now qs w r
    row_same = iff_eq (row_ok now q w r) (versions_good base now qs w r) (λ t. row→ (row_ok→ now q w r t)) (λ t. →row_ok now q w r (→row t))

-- all rows
pub rows_same :
    (now : ℕ) (qs : List Reader) (us q : List ℕ) (w : ℕ) (v : List ℕ) → now ≤ guard → length v ≡ version_words base → InOrder us q → Split qs us w
    → rows_ok now q w v ≡ every_row base.items (version_row base) (λ x r. versions_good base now qs w r) 0 v
unfolding rows_ok row
rows_same now qs us q w v c l h s =
    iff_eq (every_below base.items test) (every_row base.items (version_row base) good 0 v)
    (λ t. →every_row base.items (version_row base) good 0 v (λ k b. subst T (each k b) (every_below→ base.items test t k b)))
    (λ t. →every_below base.items test (λ k b. subst T (sym (each k b)) (every_row→ base.items (version_row base) good 0 v t k b)))
  where
    test : ℕ → Bool
    test i = row_ok now q w (row (version_row base) i v)

    good : ℕ → List ℕ → Bool
    good x r = versions_good base now qs w r

    each : (k : ℕ) → k < base.items → test k ≡ versions_good base now qs w (row (version_row base) k v)
    each k b = row_same now qs us q w (row (version_row base) k v) c (simp (length-take, length-drop) (omega arith)) h s
