-- The pieces of any chopping, as request E9's judge takes them: which are siblings, and that they are in conflict exactly if two of
-- their operations are.
use Prim.Native.Nat.{ℕ, zero, suc, ◌<◌}
use mathlib.Core.Path.{◌≡◌, refl, sym, ap, ◌∙◌, subst}
use mathlib.Core.Logic.{◌≢◌, ◌⊎◌, inl, inr}
use mathlib.Core.Bool.{Bool, true, false, ◌&&◌, ◌||◌, not, cond}
use mathlib.Core.List.{List, [], ◌∷◌, map}
use native.Mathlib.Omega.{arith}
use lib.ListN.{length, get_or, length-map}
use lib.Dec.{T, eqb, eqb→eq}
use Rattle.rules.specs.Words.{bit}
use Rattle.rules.proofs.Tests.{and_both, and_left, and_right, or_cases, or_left, or_right, eq_make, ne_make, ne_use, not_make, true_is, false_is}
use Rattle.rules.proofs.Counts.{some_below→, →some_below}
use Rattle.graph.proofs.Sets.{those_in, those_pass}
use Rattle.chop.specs.Pieces.{Piece, piece, no_piece, siblings, clash, conflict}
use Rattle.chop.specs.Promises.{Common}
use Rattle.chop.proofs.Theorems.{clash_exactly}
use Rattle.finest.specs.Operations.{Operation, items, operation, program_of, same_program, conflicting, Fits}
use Rattle.finest.specs.Choppings.{together, leaders, touched, touches, piece_by, pieces_under}
use Rattle.finest.proofs.Linking.{conflict-apart}
use Rattle.finest.proofs.Together.{together-program, head}

-- an element of a mapped list
get_d_mapped : {A : Type 0} (f : ℕ → A) (l : List ℕ) (d : A) (k : ℕ) → k < length l → get_or (map f l) k d ≡ f (get_or l k 0)
get_d_mapped f [] d k h = absurd (omega arith)
get_d_mapped f (x ∷ xs) d zero h = refl
get_d_mapped f (x ∷ xs) d (suc k) h = get_d_mapped f xs d k (omega arith)

module _ (os : List Operation) (c : List ℕ) where
  -- ---- what a piece touches
  abbrev how : Bool → ℕ → Bool
  how w j = cond w (operation os j).writes (not (operation os j).writes)

  record Touch (w : Bool) (i x : ℕ) : Type 0 where
    pub by : ℕ
    pub known : by < length os
    pub inside : T (together os c i by)
    pub item : (operation os by).item ≡ x
    pub so : T (how w by)

  touch_in : (w : Bool) (i x : ℕ) → T (bit (touches os c w i) x) → Touch w i x
  unfolding touches touched
  touch_in w i x t =
      let s = some_below→ (length os) _ (those_pass items _ x t) in
      let j = s.0 in
      let u = s.2 in
      let v = and_right (together os c i j) _ u in
      record {
        by = j;
        known = s.1;
        inside = and_left (together os c i j) _ u;
        item = eqb→eq _ _ (and_left (eqb (operation os j).item x) _ v);
        so = and_right (eqb (operation os j).item x) _ v;
      }

  in_touch : (w : Bool) (i x : ℕ) → x < items → Touch w i x → T (bit (touches os c w i) x)
  unfolding touches touched
  in_touch w i x l H =
      those_in items _ x l
      (→some_below (length os) _ H.by H.known
      (and_both (together os c i H.by) _ H.inside (and_both (eqb (operation os H.by).item x) _ (eq_make _ _ H.item) H.so)))

  -- ---- two operations in conflict, of the pieces of i and of j
  pub record Clash (i j : ℕ) : Type 0 where
    pub here : ℕ
    pub there : ℕ
    pub here_known : here < length os
    pub there_known : there < length os
    pub here_inside : T (together os c i here)
    pub there_inside : T (together os c j there)
    pub clashes : T (conflicting os here there)

  conflict_make :
      (y z x : ℕ) → program_of os y ≢ program_of os z → (operation os y).item ≡ x → (operation os z).item ≡ x
      → T ((operation os y).writes || (operation os z).writes) → T (conflicting os y z)
  unfolding conflicting
  conflict_make y z x d e f w =
      and_both (not (same_program os y z)) _ (ne_make _ _ d)
      (and_both (eqb (operation os y).item (operation os z).item) _ (eq_make _ _ (e ∙ sym f)) w)

  common_clash : (i j x : ℕ) → program_of os i ≢ program_of os j → Common (piece_by os c i) (piece_by os c j) x → Clash i j
  unfolding piece_by
  common_clash i j x d C = go C.written
    where
      any : (k : ℕ) → T (bit (touches os c false k) x) ⊎ T (bit (touches os c true k) x) → (w : Bool) × Touch w k x
      any k (inl t) = (false, touch_in false k x t)
      any k (inr t) = (true, touch_in true k x t)

      make : {v w : Bool} (H : Touch v i x) (K : Touch w j x) → T ((operation os H.by).writes || (operation os K.by).writes) → Clash i j
      make H K u =
          record {
            here = H.by;
            there = K.by;
            here_known = H.known;
            there_known = K.known;
            here_inside = H.inside;
            there_inside = K.inside;
            clashes = conflict_make H.by K.by x
                (λ e. d (together-program os c i H.by H.inside ∙ e ∙ sym (together-program os c j K.by K.inside))) H.item K.item u;
          }

      go : T (bit (touches os c true i) x) ⊎ T (bit (touches os c true j) x) → Clash i j
      go (inl t) =
          let H = touch_in true i x t in
          let K = any j C.there in
          make H K.1 (or_left (operation os H.by).writes _ H.so)
      go (inr t) =
          let H = any i C.here in
          let K = touch_in true j x t in
          make H.1 K (or_right (operation os H.1.by).writes _ K.so)

  clash_common : Fits os → (i j : ℕ) → (K : Clash i j) → Common (piece_by os c i) (piece_by os c j) (operation os K.here).item
  unfolding piece_by conflicting
  clash_common F i j K =
      record { here = any i K.here K.here_known K.here_inside refl; there = any j K.there K.there_known K.there_inside (sym same); written = go (or_cases (operation os K.here).writes (operation os K.there).writes (and_right (eqb (operation os K.here).item (operation os K.there).item) _ parts)) }
    where
      parts : T (eqb (operation os K.here).item (operation os K.there).item && ((operation os K.here).writes || (operation os K.there).writes))
      parts = and_right (not (same_program os K.here K.there)) _ K.clashes

      same : (operation os K.here).item ≡ (operation os K.there).item
      same = eqb→eq _ _ (and_left (eqb (operation os K.here).item (operation os K.there).item) _ parts)

      touched : (w : Bool) (k y : ℕ) → y < length os → T (together os c k y) → (operation os y).item ≡ (operation os K.here).item → T (how w y) → T (bit (touches os c w k) (operation os K.here).item)
      touched w k y l t e s = in_touch w k (operation os K.here).item (F.known K.here K.here_known) (record { by = y; known = l; inside = t; item = e; so = s })

      any :
          (k y : ℕ) → y < length os → T (together os c k y) → (operation os y).item ≡ (operation os K.here).item
          → T (bit (touches os c false k) (operation os K.here).item) ⊎ T (bit (touches os c true k) (operation os K.here).item)
      any k y l t e = choose (operation os y).writes refl
        where
          choose : (b : Bool) → (operation os y).writes ≡ b → T (bit (touches os c false k) (operation os K.here).item) ⊎ T (bit (touches os c true k) (operation os K.here).item)
          choose true h = inr (touched true k y l t e (true_is h))
          choose false h = inl (touched false k y l t e (not_make (operation os y).writes (false_is h)))

      go :
          T (operation os K.here).writes ⊎ T (operation os K.there).writes
          → T (bit (touches os c true i) (operation os K.here).item) ⊎ T (bit (touches os c true j) (operation os K.here).item)
      go (inl t) = inl (touched true i K.here K.here_known K.here_inside refl t)
      go (inr t) = inr (touched true j K.there K.there_known K.there_inside (sym same) t)

  -- ---- the pieces by their places
  pub pieces-length : length (pieces_under os c) ≡ length (leaders os c)
  unfolding pieces_under
  pieces-length = length-map (leaders os c) (piece_by os c)

  pub piece_is : (k : ℕ) → k < length (leaders os c) → piece (pieces_under os c) k ≡ piece_by os c (head os c k)
  unfolding pieces_under
  piece_is k l = get_d_mapped (piece_by os c) (leaders os c) no_piece k l

  pub piece-program : (k : ℕ) → k < length (leaders os c) → (piece (pieces_under os c) k).transaction ≡ program_of os (head os c k)
  unfolding piece_by
  piece-program k l = ap (λ (p : Piece). p.transaction) (piece_is k l)

  pub siblings_make :
      (j k : ℕ) → j < length (leaders os c) → k < length (leaders os c) → j ≢ k → program_of os (head os c j) ≡ program_of os (head os c k)
      → T (siblings (pieces_under os c) j k)
  siblings_make j k l m d e =
      and_both (not (eqb j k)) _ (ne_make j k d) (eq_make _ _ (piece-program j l ∙ e ∙ sym (piece-program k m)))

  pub siblings-are :
      (j k : ℕ) → j < length (leaders os c) → k < length (leaders os c) → T (siblings (pieces_under os c) j k)
      → (j ≢ k) × (program_of os (head os c j) ≡ program_of os (head os c k))
  siblings-are j k l m t =
      (ne_use j k (and_left (not (eqb j k)) _ t), sym (piece-program j l) ∙ eqb→eq _ _ (and_right (not (eqb j k)) _ t) ∙ piece-program k m)

  pub conflict-clash :
      (j k : ℕ) → j < length (leaders os c) → k < length (leaders os c) → T (conflict (pieces_under os c) j k)
      → Clash (head os c j) (head os c k)
  conflict-clash j k l m t =
      let ps = pieces_under os c in
      let d = ne_use (piece ps j).transaction (piece ps k).transaction (and_left (not (eqb (piece ps j).transaction (piece ps k).transaction)) _ t) in
      let u : T (clash (piece ps j) (piece ps k)) = and_right (not (eqb (piece ps j).transaction (piece ps k).transaction)) _ t in
      let r = (clash_exactly (piece ps j) (piece ps k)).0 u in
      common_clash (head os c j) (head os c k) r.0
      (λ e. d (piece-program j l ∙ e ∙ sym (piece-program k m)))
      (subst (λ (q : Piece). Common (piece_by os c (head os c j)) q r.0) (piece_is k m)
      (subst (λ (p : Piece). Common p (piece ps k) r.0) (piece_is j l) r.1))

  pub clash-conflict :
      Fits os → (j k : ℕ) → j < length (leaders os c) → k < length (leaders os c) → Clash (head os c j) (head os c k)
      → T (conflict (pieces_under os c) j k)
  clash-conflict F j k l m K =
      let ps = pieces_under os c in
      let C = clash_common F (head os c j) (head os c k) K in
      let D = subst (λ (q : Piece). Common (piece ps j) q (operation os K.here).item) (sym (piece_is k m))
      (subst (λ (p : Piece). Common p (piece_by os c (head os c k)) (operation os K.here).item) (sym (piece_is j l)) C) in
      and_both (not (eqb (piece ps j).transaction (piece ps k).transaction)) _
      (ne_make _ _
      (λ e.
      conflict-apart os K.here K.there K.clashes
      (sym (together-program os c (head os c j) K.here K.here_inside) ∙ sym (piece-program j l) ∙ e ∙ piece-program k m ∙ together-program os c (head os c k) K.there K.there_inside)))
      ((clash_exactly (piece ps j) (piece ps k)).1 ((operation os K.here).item, D))
