-- One row more keeps what is known of the pieces, so it holds of the pieces of all rows: the promises.
use Prim.Native.Nat.{ℕ, zero, suc, ◌+◌, ◌<◌}
use mathlib.Core.Path.{◌≡◌, refl, sym, ap, ◌∙◌, subst}
use mathlib.Core.Logic.{◌≢◌, ◌⊎◌, inl, inr}
use mathlib.Core.Bool.{Bool, true, false}
use mathlib.Core.List.{List, [], ◌∷◌, ◌++◌}
use native.Mathlib.Omega.{arith}
use lib.ListN.{length, get_or, set, length-set, length-append, get_or-append}
use lib.Seq.{get_or-set_same, get_or-set_other, get_or-append_seam}
use lib.Dec.{T, eqb, ltb, eqb→eq}
use borrow.Author.Tests.{ltb-true, ltb-false}
use Rattle.rules.proofs.Tests.{and_both, and_left, and_right, eq_make, same?}
use Rattle.rules.proofs.Counts.{split-le, first_passes, first-least}
use Rattle.chop_rows.specs.declared.Row.{Row}
use Rattle.chop_rows.specs.declared.Noted.{Noted}
use Rattle.chop_rows.specs.RowPieces.{row_at, row_count, read_mode, write_mode, no_noted, is_of, noting, begun, place_in, noted_at, with_row, noted_by}
use Rattle.chop_rows.specs.Promises.{EachRow, EachPiece, PairsDistinct, InOrder, ItemsExactly}
use Rattle.chop_rows.proofs.Gathered.{Says, says_other, says-more, says_none, Gathered}

-- ---- a row of a piece
of_make : (r : Row) (p : Noted) → r.transaction ≡ p.transaction → r.number ≡ p.number → T (is_of r p)
of_make r p a b =
    and_both (eqb r.transaction p.transaction) (eqb r.number p.number) (eq_make r.transaction p.transaction a) (eq_make r.number p.number b)

of_transaction : (r : Row) (p : Noted) → T (is_of r p) → r.transaction ≡ p.transaction
of_transaction r p t = eqb→eq r.transaction p.transaction (and_left (eqb r.transaction p.transaction) (eqb r.number p.number) t)

of_number : (r : Row) (p : Noted) → T (is_of r p) → r.number ≡ p.number
of_number r p t = eqb→eq r.number p.number (and_right (eqb r.transaction p.transaction) (eqb r.number p.number) t)

-- a piece's sets, with what the first n rows say of its pair
abbrev Right : List ℕ → ℕ → Noted → Type 0
Right words n p =
    Says words n p.transaction p.number read_mode n p.reads × Says words n p.transaction p.number write_mode n p.writes

module _ (words : List ℕ) (n : ℕ) (ps : List Noted) (G : Gathered words n ps) where
  abbrev r : Row
  r = row_at words n

  abbrev at : ℕ → Noted
  at k = get_or ps k no_noted

  right-other : (k : ℕ) → k < length ps → (T (is_of r (at k)) → ⊥) → Right words (suc n) (at k)
  right-other k l d = (
    says_other words n (at k).transaction (at k).number read_mode (at k).reads (λ a b. d (of_make r (at k) a b)) (G.reads k l),
    says_other words n (at k).transaction (at k).number write_mode (at k).writes (λ a b. d (of_make r (at k) a b)) (G.writes k l),
  )

  -- ---- the row's piece is there
  module _ (k : ℕ) (l : k < length ps) (t : T (is_of r (at k))) where
    abbrev qs : List Noted
    qs = set ps k (noting r (at k))

    size : length (set ps k (noting (row_at words n) (get_or ps k no_noted))) ≡ length ps
    size = length-set ps k (noting r (at k))

    here : get_or qs k no_noted ≡ noting r (at k)
    here = get_or-set_same ps k (noting r (at k)) no_noted l

    there : (j : ℕ) → j ≢ k → get_or qs j no_noted ≡ at j
    there j d = get_or-set_other ps k j (noting r (at k)) no_noted d

    -- a piece keeps its pair
    pair : (j : ℕ) → ((get_or qs j no_noted).transaction ≡ (at j).transaction) × ((get_or qs j no_noted).number ≡ (at j).number)
    pair j = go (same? j k)
      where
        go : (j ≡ k) ⊎ (j ≢ k) → ((get_or qs j no_noted).transaction ≡ (at j).transaction) × ((get_or qs j no_noted).number ≡ (at j).number)
        go (inl e) =
            subst (λ (x : ℕ). ((get_or qs x no_noted).transaction ≡ (at x).transaction) × ((get_or qs x no_noted).number ≡ (at x).number)) (sym e)
            (ap (λ (p : Noted). p.transaction) here, ap (λ (p : Noted). p.number) here)
        go (inr d) = (ap (λ (p : Noted). p.transaction) (there j d), ap (λ (p : Noted). p.number) (there j d))

    onto : (i j : ℕ) → T (is_of (row_at words i) (at j)) → T (is_of (row_at words i) (get_or qs j no_noted))
    onto i j u =
        of_make (row_at words i) (get_or qs j no_noted) (of_transaction (row_at words i) (at j) u ∙ sym (pair j).0) (of_number (row_at words i) (at j) u ∙ sym (pair j).1)

    back : (i j : ℕ) → T (is_of (row_at words i) (get_or qs j no_noted)) → T (is_of (row_at words i) (at j))
    back i j u =
        of_make (row_at words i) (at j) (of_transaction (row_at words i) (get_or qs j no_noted) u ∙ (pair j).0) (of_number (row_at words i) (get_or qs j no_noted) u ∙ (pair j).1)

    right_here : Right words (suc n) (noting r (at k))
    right_here = (
      says-more words n (at k).transaction (at k).number read_mode (at k).reads (of_transaction r (at k) t) (of_number r (at k) t) (G.reads k l),
      says-more words n (at k).transaction (at k).number write_mode (at k).writes (of_transaction r (at k) t) (of_number r (at k) t) (G.writes k l),
    )

    right : (j : ℕ) → j < length ps → Right words (suc n) (get_or qs j no_noted)
    right j m = go (same? j k)
      where
        go : (j ≡ k) ⊎ (j ≢ k) → Right words (suc n) (get_or qs j no_noted)
        go (inl e) = subst (λ (x : ℕ). Right words (suc n) (get_or qs x no_noted)) (sym e) (subst (Right words (suc n)) (sym here) right_here)
        go (inr d) =
            subst (Right words (suc n)) (sym (there j d))
            (right-other j m
            (λ u.
            d
            (G.apart j k m l (sym (of_transaction r (at j) u) ∙ of_transaction r (at k) t) (sym (of_number r (at j) u) ∙ of_number r (at k) t))))

    old_rows : (i : ℕ) → i < suc n → (j : ℕ) × (j < length qs) × T (is_of (row_at words i) (get_or qs j no_noted))
    old_rows i h = go (split-le i n h)
      where
        go : (i < n) ⊎ (i ≡ n) → (j : ℕ) × (j < length qs) × T (is_of (row_at words i) (get_or qs j no_noted))
        go (inl m) = let g = G.rows i m in (g.0, (let z = size in let b = g.1 in omega arith), onto i g.0 g.2)
        go (inr e) =
            (k, (let z = size in omega arith), subst (λ (x : ℕ). T (is_of (row_at words x) (get_or qs k no_noted))) (sym e) (onto n k t))

    old_order : (j m i : ℕ) → j < m → m < length qs → i < suc n → T (is_of (row_at words i) (get_or qs m no_noted)) → (h : ℕ) × (h < i) × T (is_of (row_at words h) (get_or qs j no_noted))
    old_order j m i a b c u = go (split-le i n c)
      where
        go : (i < n) ⊎ (i ≡ n) → (h : ℕ) × (h < i) × T (is_of (row_at words h) (get_or qs j no_noted))
        go (inl x) = let g = G.order j m i a (let z = size in omega arith) x (back i m u) in (g.0, g.1, onto g.0 j g.2)
        go (inr e) = let g = G.pieces j (let z = size in omega arith) in (g.0, (let x = g.1 in omega arith), onto g.0 j g.2)

    pub step_old : Gathered words (suc n) qs
    step_old =
        record {
          rows = old_rows;
          pieces = λ j m. let g = G.pieces j (let z = size in omega arith) in (g.0, (let x = g.1 in omega arith), onto g.0 j g.2);
          apart = λ i j a b e f. let z = size in G.apart i j (omega arith) (omega arith) (sym (pair i).0 ∙ e ∙ (pair j).0) (sym (pair i).1 ∙ f ∙ (pair j).1);
          order = old_order;
          reads = λ j m. (right j (let z = size in omega arith)).0;
          writes = λ j m. (right j (let z = size in omega arith)).1;
        }

  -- ---- the row begins a piece
  module _ (none : (k : ℕ) → k < length ps → T (is_of r (at k)) → ⊥) where
    abbrev qs' : List Noted
    qs' = ps ++ (begun r ∷ [])

    longer : length (ps ++ (begun (row_at words n) ∷ [])) ≡ length ps + 1
    longer = length-append ps (begun r ∷ [])

    early : (j : ℕ) → j < length ps → get_or qs' j no_noted ≡ at j
    early j l = get_or-append ps (begun r ∷ []) no_noted j l

    last : get_or qs' (length ps) no_noted ≡ begun r
    last = get_or-append_seam ps (begun r) [] no_noted

    cases : (j : ℕ) → j < length qs' → (j < length ps) ⊎ (j ≡ length ps)
    cases j l = split-le j (length ps) (let z = longer in omega arith)

    own : T (is_of r (begun r))
    own = of_make r (begun r) refl refl

    -- no row before is of the new pair
    fresh : (i : ℕ) → i < n → T (is_of (row_at words i) (begun r)) → ⊥
    fresh i l u =
        let g = G.rows i l in
        none g.0 g.1
        (of_make r (at g.0) (sym (of_transaction (row_at words i) (begun r) u) ∙ of_transaction (row_at words i) (at g.0) g.2)
        (sym (of_number (row_at words i) (begun r) u) ∙ of_number (row_at words i) (at g.0) g.2))

    right_new : Right words (suc n) (begun r)
    right_new = (
      says-more words n r.transaction r.number read_mode 0 refl refl
          (says_none words n r.transaction r.number read_mode (λ i l a b. fresh i l (of_make (row_at words i) (begun r) a b))),
      says-more words n r.transaction r.number write_mode 0 refl refl
          (says_none words n r.transaction r.number write_mode (λ i l a b. fresh i l (of_make (row_at words i) (begun r) a b))),
    )

    new_right : (j : ℕ) → j < length qs' → Right words (suc n) (get_or qs' j no_noted)
    new_right j l = go (cases j l)
      where
        go : (j < length ps) ⊎ (j ≡ length ps) → Right words (suc n) (get_or qs' j no_noted)
        go (inl m) = subst (Right words (suc n)) (sym (early j m)) (right-other j m (none j m))
        go (inr e) = subst (λ (x : ℕ). Right words (suc n) (get_or qs' x no_noted)) (sym e) (subst (Right words (suc n)) (sym last) right_new)

    early_of : (i j : ℕ) → j < length ps → T (is_of (row_at words i) (at j)) → T (is_of (row_at words i) (get_or qs' j no_noted))
    early_of i j l u = subst (λ (p : Noted). T (is_of (row_at words i) p)) (sym (early j l)) u

    last_of : (j : ℕ) → j ≡ length ps → T (is_of r (get_or qs' j no_noted))
    last_of j e = subst (λ (x : ℕ). T (is_of r (get_or qs' x no_noted))) (sym e) (subst (λ (p : Noted). T (is_of r p)) (sym last) own)

    new_rows : (i : ℕ) → i < suc n → (j : ℕ) × (j < length qs') × T (is_of (row_at words i) (get_or qs' j no_noted))
    new_rows i h = go (split-le i n h)
      where
        go : (i < n) ⊎ (i ≡ n) → (j : ℕ) × (j < length qs') × T (is_of (row_at words i) (get_or qs' j no_noted))
        go (inl m) = let g = G.rows i m in (g.0, (let z = longer in let b = g.1 in omega arith), early_of i g.0 g.1 g.2)
        go (inr e) = (
          length ps,
          (let z = longer in omega arith),
          subst (λ (x : ℕ). T (is_of (row_at words x) (get_or qs' (length ps) no_noted))) (sym e) (last_of (length ps) refl),
        )

    new_pieces : (j : ℕ) → j < length qs' → (i : ℕ) × (i < suc n) × T (is_of (row_at words i) (get_or qs' j no_noted))
    new_pieces j l = go (cases j l)
      where
        go : (j < length ps) ⊎ (j ≡ length ps) → (i : ℕ) × (i < suc n) × T (is_of (row_at words i) (get_or qs' j no_noted))
        go (inl m) = let g = G.pieces j m in (g.0, (let x = g.1 in omega arith), early_of g.0 j m g.2)
        go (inr e) = (n, (omega arith), last_of j e)

    -- an early piece is not of the new pair
    strange : (i j : ℕ) → i < length ps → j ≡ length ps → (get_or qs' i no_noted).transaction ≡ (get_or qs' j no_noted).transaction → (get_or qs' i no_noted).number ≡ (get_or qs' j no_noted).number → ⊥
    strange i j l e a b =
        let u = last_of j e in
        let q = early i l in
        none i l
        (of_make r (at i) (of_transaction r (get_or qs' j no_noted) u ∙ sym a ∙ ap (λ (p : Noted). p.transaction) q)
        (of_number r (get_or qs' j no_noted) u ∙ sym b ∙ ap (λ (p : Noted). p.number) q))

    new_apart :
        (i j : ℕ) → i < length qs' → j < length qs' → (get_or qs' i no_noted).transaction ≡ (get_or qs' j no_noted).transaction
        → (get_or qs' i no_noted).number ≡ (get_or qs' j no_noted).number → i ≡ j
    new_apart i j a b e f = go (cases i a) (cases j b)
      where
        go : (i < length ps) ⊎ (i ≡ length ps) → (j < length ps) ⊎ (j ≡ length ps) → i ≡ j
        go (inl x) (inl y) =
            let p = early i x in
            let q = early j y in
            G.apart i j x y (ap (λ (z : Noted). z.transaction) (sym p) ∙ e ∙ ap (λ (z : Noted). z.transaction) q) (ap (λ (z : Noted). z.number) (sym p) ∙ f ∙ ap (λ (z : Noted). z.number) q)
        go (inl x) (inr y) = absurd (strange i j x y e f)
        go (inr x) (inl y) = absurd (strange j i y x (sym e) (sym f))
        go (inr x) (inr y) = x ∙ sym y

    new_order : (j m i : ℕ) → j < m → m < length qs' → i < suc n → T (is_of (row_at words i) (get_or qs' m no_noted)) → (h : ℕ) × (h < i) × T (is_of (row_at words h) (get_or qs' j no_noted))
    new_order j m i a b c u = go (cases m b) (split-le i n c)
      where
        before : (h : ℕ) × (h < n) × T (is_of (row_at words h) (at j)) → i ≡ n → j < length ps → (h : ℕ) × (h < i) × T (is_of (row_at words h) (get_or qs' j no_noted))
        before g e l = (g.0, (let x = g.1 in omega arith), early_of g.0 j l g.2)

        go : (m < length ps) ⊎ (m ≡ length ps) → (i < n) ⊎ (i ≡ n) → (h : ℕ) × (h < i) × T (is_of (row_at words h) (get_or qs' j no_noted))
        go (inl x) (inl y) =
            let g = G.order j m i a x y (subst (λ (p : Noted). T (is_of (row_at words i) p)) (early m x) u) in
            (g.0, g.1, early_of g.0 j (omega arith) g.2)
        go (inl x) (inr y) = before (G.pieces j (omega arith)) y (omega arith)
        go (inr x) (inl y) =
            absurd
            (fresh i y (subst (λ (p : Noted). T (is_of (row_at words i) p)) (ap (λ (z : ℕ). get_or qs' z no_noted) x ∙ last) u))
        go (inr x) (inr y) = before (G.pieces j (omega arith)) y (omega arith)

    pub step_new : Gathered words (suc n) qs'
    step_new =
        record {
          rows = new_rows;
          pieces = new_pieces;
          apart = new_apart;
          order = new_order;
          reads = λ j m. (new_right j m).0;
          writes = λ j m. (new_right j m).1;
        }

  -- ---- either way
  pub step_row : Gathered words (suc n) (with_row r ps)
  unfolding with_row noted_at place_in
  step_row = go (ltb (place_in r ps) (length ps)) refl
    where
      p : ℕ → Bool
      p k = is_of r (at k)

      go : (c : Bool) → ltb (place_in r ps) (length ps) ≡ c → Gathered words (suc n) (with_row r ps)
      go true e = rw e (step_old (place_in r ps) (ltb-true (place_in r ps) (length ps) e) (first_passes p 0 (length ps) (let l = ltb-true (place_in r ps) (length ps) e in omega arith)))
      go false e =
          rw e
          (step_new
          (λ k l t. let a = first-least p k 0 (length ps) (omega arith) (omega arith) t in let b = ltb-false (place_in r ps) (length ps) e in omega arith))

-- ---- all rows
pub gathered : (words : List ℕ) (n : ℕ) → Gathered words n (noted_by words n)
unfolding noted_by
gathered words zero =
    record {
      rows = λ i l. absurd (omega arith);
      pieces = λ k l. absurd (omega arith);
      apart = λ j k a b e f. absurd (omega arith);
      order = λ j k i a b c t. absurd (omega arith);
      reads = λ k l. absurd (omega arith);
      writes = λ k l. absurd (omega arith);
    }
gathered words (suc n) = step_row words n (noted_by words n) (gathered words n)

pub each_row : EachRow
each_row words = (gathered words (row_count words)).rows

pub each-piece : EachPiece
each-piece words = (gathered words (row_count words)).pieces

pub pairs_distinct : PairsDistinct
pairs_distinct words = (gathered words (row_count words)).apart

pub in_order_lem : InOrder
in_order_lem words = (gathered words (row_count words)).order

pub items_exactly : ItemsExactly
items_exactly words k x l = ((gathered words (row_count words)).reads k l x, (gathered words (row_count words)).writes k l x)
