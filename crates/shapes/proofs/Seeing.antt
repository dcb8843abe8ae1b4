-- The pass over the transaction rows: what each kind of row is tested for.
use Prim.Native.Nat.{ℕ, ◌^◌}
use mathlib.Core.Path.{◌≡◌, refl, sym, ap, ap₂, ◌∙◌}
use mathlib.Core.Logic.{◌≢◌, ◌⊎◌, inl, inr}
use mathlib.Core.Bool.{Bool, true, false, ◌&&◌, ◌||◌, not, cond}
use mathlib.Core.List.{List}
use native.Mathlib.Omega.{arith}
use lib.Dec.{T, eqb, leb, ltb, eqb→eq, leb→le, ltb→lt}
use borrow.Author.Tests.{eq-eqb, ne_eqb, eqb-true, le-leb, lt-leb, lt-ltb}
use Rattle.names.specs.Sizes.{base, last_word}
use Rattle.rules.specs.Words.{implies}
use Rattle.rules.specs.Tables.{last_number, clock, Txn, txn, live, live_update, live_settled, live_relaxed, may_hold, by_start, is_reader, a_relaxed, exclusive_lock}
use Rattle.rules.specs.Tested.{all_zero, free_zero, listed, start_good, awaited_good, reads_good, notes_good}
use Rattle.rules.proofs.Tests.{iff_eq, is_true, is_false, true_is, and_left, and_right, and_both, implies_make, same?}
use Rattle.rules.proofs.Counts.{→every_below}
use Rattle.rules.proofs.EqualRows.{live-number}
use Rattle.shapes.specs.Shape.{row_good, every_item, free_ok, update_ok, query_ok, relaxed_ok, settled_ok, apart_from, distinct_at}

-- ---- truth tables
free_law :
    (k₀ s₀ a₀ x p c w i j k₁ a₂ xᵢ R N : Bool) → (k₀ ≡ true → k₁ ≡ true) → (a₀ ≡ true → a₂ ≡ true) → ((c && w) ≡ true → R ≡ true)
    → ((i && j) ≡ true → N ≡ true)
    → (k₀ && s₀ && a₀ && (x && p) && (c && w) && (i && j))
    ≡ ((k₀ && (s₀ && (a₀ && (x && (p && (c && (w && (i && j)))))))) && ((k₁ && a₂) && (cond a₀ (x && p) xᵢ && (R && N))))
free_law false s₀ a₀ x p c w i j k₁ a₂ xᵢ R N f g h n = refl
free_law true false a₀ x p c w i j k₁ a₂ xᵢ R N f g h n = refl
free_law true true false x p c w i j k₁ a₂ xᵢ R N f g h n = refl
free_law true true true false p c w i j k₁ a₂ xᵢ R N f g h n = refl
free_law true true true true false c w i j k₁ a₂ xᵢ R N f g h n = refl
free_law true true true true true false w i j k₁ a₂ xᵢ R N f g h n = refl
free_law true true true true true true false i j k₁ a₂ xᵢ R N f g h n = refl
free_law true true true true true true true false j k₁ a₂ xᵢ R N f g h n = refl
free_law true true true true true true true true false k₁ a₂ xᵢ R N f g h n = refl
free_law true true true true true true true true true k₁ a₂ xᵢ R N f g h n = rw (f refl, g refl, h refl, n refl)

update_law : (n s₀ a₂ xᵢ a₀ x₀ : Bool) → (x₀ ≡ true → xᵢ ≡ true) → (n && s₀ && a₂ && xᵢ && (not a₀ || x₀)) ≡ (n && (a₂ && ((s₀ && true) && cond a₀ x₀ xᵢ)))
update_law false s₀ a₂ xᵢ a₀ x₀ f = refl
update_law true false true xᵢ a₀ x₀ f = refl
update_law true false false xᵢ a₀ x₀ f = refl
update_law true true false xᵢ a₀ x₀ f = refl
update_law true true true false true true f = f refl
update_law true true true false true false f = refl
update_law true true true false false x₀ f = refl
update_law true true true true true x₀ f = refl
update_law true true true true false x₀ f = refl

-- of a query, s being what is asked of its start
query_law : (n s a₀ x₀ a₂ xᵢ : Bool) → (a₀ ≡ true → a₂ ≡ true) → (n && s && a₀ && x₀) ≡ (n && (a₂ && ((s && (a₀ && true)) && cond a₀ x₀ xᵢ)))
query_law false s a₀ x₀ a₂ xᵢ f = refl
query_law true false a₀ x₀ true xᵢ f = refl
query_law true false a₀ x₀ false xᵢ f = refl
query_law true true false x₀ true xᵢ f = refl
query_law true true false x₀ false xᵢ f = refl
query_law true true true x₀ a₂ xᵢ f = rw (f refl)

settled_law : (n p s a₀ x₀ a₂ xᵢ : Bool) → (a₀ ≡ true → a₂ ≡ true) → (n && (p && s) && a₀ && x₀) ≡ (n && (a₂ && ((s && (a₀ && p)) && cond a₀ x₀ xᵢ)))
settled_law false p s a₀ x₀ a₂ xᵢ f = refl
settled_law true false s a₀ x₀ true xᵢ f = go s a₀
  where
    go : (s a₀ : Bool) → false ≡ ((s && (a₀ && false)) && cond a₀ x₀ xᵢ)
    go false a₀ = refl
    go true false = refl
    go true true = refl
settled_law true false s a₀ x₀ false xᵢ f = refl
settled_law true true false a₀ x₀ true xᵢ f = refl
settled_law true true false a₀ x₀ false xᵢ f = refl
settled_law true true true false x₀ true xᵢ f = refl
settled_law true true true false x₀ false xᵢ f = refl
settled_law true true true true x₀ a₂ xᵢ f = rw (f refl)

kind_law : (n s a₀ x₀ z : Bool) → (n && false && s && a₀ && x₀ && z) ≡ (n && false)
kind_law true s a₀ x₀ z = refl
kind_law false s a₀ x₀ z = refl

-- the reads and the notes come last: what is asked of a live row but for them, and of them
reads-last : (n l s a R : Bool) → (n && (l && (s && (a && R)))) ≡ ((n && (l && (s && a))) && R)
reads-last false l s a R = refl
reads-last true false s a R = refl
reads-last true true false a R = refl
reads-last true true true a R = refl

pub and_true : (b : Bool) → (b && true) ≡ b
and_true true = refl
and_true false = refl

-- ---- request E8: the read count and the weight sum of a row
module _ (r : Txn) where
  zero_most : (n : ℕ) → T (eqb n 0) → T (leb n last_word)
  zero_most n h = true_is (le-leb n last_word (let z = eqb→eq n 0 h in omega arith))

  -- no reads are within every bound
  within :
      T (eqb r.read_count 0 && eqb r.weight_sum 0)
      → T (leb r.read_count last_word && (leb r.weight_sum last_word && (eqb r.read_count 0 && eqb r.weight_sum 0)))
  within h =
      and_both (leb r.read_count last_word) _ (zero_most r.read_count (and_left (eqb r.read_count 0) _ h))
      (and_both (leb r.weight_sum last_word) _ (zero_most r.weight_sum (and_right (eqb r.read_count 0) _ h)) h)

  zero_reads : (eqb r.read_count 0 && eqb r.weight_sum 0) ≡ true → reads_good r ≡ true
  unfolding reads_good
  zero_reads e =
      let w = within (true_is e) in
      let v = and_right (leb r.read_count last_word) _ w in
      is_true (reads_good r)
      (and_both (leb r.read_count last_word) _ (and_left (leb r.read_count last_word) _ w)
      (and_both (leb r.weight_sum last_word) _ (and_left (leb r.weight_sum last_word) _ v) (implies_make (may_hold r) _ (λ z. true_is e))))

  holder_reads : may_hold r ≡ true → (eqb r.read_count 0 && eqb r.weight_sum 0) ≡ reads_good r
  unfolding reads_good implies
  holder_reads e =
      rw e
      (iff_eq _ _ within
      (λ h. and_right (leb r.weight_sum last_word) _ (and_right (leb r.read_count last_word) _ h)))

  other-reads : may_hold r ≡ false → (leb r.read_count last_word && leb r.weight_sum last_word) ≡ reads_good r
  unfolding reads_good implies
  other-reads e = rw e (ap (λ (b : Bool). leb r.read_count last_word && b) (sym (and_true (leb r.weight_sum last_word))))

-- ---- request E11: the items read and the sets of a row
module _ (r : Txn) where
  zero_item : T (eqb r.items_read 0) → T (ltb r.items_read (2 ^ base.items))
  zero_item h = true_is (lt-ltb r.items_read (2 ^ base.items) (let z = eqb→eq r.items_read 0 h in omega arith))

  zero_notes : (eqb r.items_read 0 && eqb r.later_for 0) ≡ true → notes_good base r ≡ true
  unfolding notes_good
  zero_notes e =
      let a = and_left (eqb r.items_read 0) _ (true_is e) in
      let b = and_right (eqb r.items_read 0) _ (true_is e) in
      is_true (notes_good base r)
      (and_both (ltb r.items_read (2 ^ base.items)) _ (zero_item a)
      (and_both (implies (not (live_relaxed r)) (eqb r.items_read 0)) _ (implies_make (not (live_relaxed r)) _ (λ z. a)) (implies_make (not (live_update r)) _ (λ z. b))))

  -- of an update, of a relaxed query, and of the others
  update_notes : live_relaxed r ≡ false → live_update r ≡ true → eqb r.items_read 0 ≡ notes_good base r
  unfolding notes_good implies
  update_notes e f =
      rw (e, f)
      (iff_eq _ _
      (λ h. and_both (ltb r.items_read (2 ^ base.items)) _ (zero_item h) (and_both (eqb r.items_read 0) true h tt))
      (λ h. and_left (eqb r.items_read 0) true (and_right (ltb r.items_read (2 ^ base.items)) _ h)))

  relaxed_notes : live_relaxed r ≡ true → live_update r ≡ false → (leb r.items_read every_item && eqb r.later_for 0) ≡ notes_good base r
  unfolding notes_good implies
  relaxed_notes e f =
      rw (e, f)
      (ap (λ (b : Bool). b && eqb r.later_for 0)
      (iff_eq (leb r.items_read every_item) (ltb r.items_read (2 ^ base.items))
      (λ h. true_is (lt-ltb r.items_read (2 ^ base.items) (let l = leb→le r.items_read every_item h in omega arith)))
      (λ h. true_is (le-leb r.items_read every_item (let l = ltb→lt r.items_read (2 ^ base.items) h in omega arith)))))

  other_notes : live_relaxed r ≡ false → live_update r ≡ false → (eqb r.items_read 0 && eqb r.later_for 0) ≡ notes_good base r
  unfolding notes_good implies
  other_notes e f =
      rw (e, f)
      (iff_eq _ _
      (λ h. and_both (ltb r.items_read (2 ^ base.items)) _ (zero_item (and_left (eqb r.items_read 0) _ h)) h)
      (λ h. and_right (ltb r.items_read (2 ^ base.items)) _ h))

-- who may hold: an update, past its writing or not, and no other
module _ (r : Txn) (d : r.number ≢ 0) where
  update-holds : r.kind ≡ 0 → may_hold r ≡ true
  unfolding may_hold live_update live
  update-holds e = rw (ne_eqb r.number 0 d, eq-eqb r.kind 0 e)

  settled-holds : r.kind ≡ 2 → may_hold r ≡ true
  unfolding may_hold live_update live_settled live
  settled-holds e = rw (ne_eqb r.number 0 d, ne_eqb r.kind 0 (λ z. omega arith), eq-eqb r.kind 2 e)

  none_holds : r.kind ≢ 0 → r.kind ≢ 2 → may_hold r ≡ false
  unfolding may_hold live_update live_settled live
  none_holds e f = rw (ne_eqb r.number 0 d, ne_eqb r.kind 0 e, ne_eqb r.kind 2 f)

-- ---- which rows are those of live updates
module _ (r : Txn) where
  pub free-idle : r.number ≡ 0 → live_update r ≡ false
  unfolding live_update live
  free-idle e = rw (eq-eqb r.number 0 e)

  pub update-live : r.number ≢ 0 → r.kind ≡ 0 → live_update r ≡ true
  unfolding live_update live
  update-live d e = rw (ne_eqb r.number 0 d, eq-eqb r.kind 0 e)

  pub query-idle : r.number ≢ 0 → r.kind ≢ 0 → live_update r ≡ false
  unfolding live_update live
  query-idle d e = rw (ne_eqb r.number 0 d, ne_eqb r.kind 0 e)

  -- and which is past its writing
  pub free_unsettled : r.number ≡ 0 → live_settled r ≡ false
  unfolding live_settled live
  free_unsettled e = rw (eq-eqb r.number 0 e)

  pub other_unsettled : r.kind ≢ 2 → live_settled r ≡ false
  unfolding live_settled
  other_unsettled e = is_false (live_settled r) (λ h. e (eqb-true r.kind 2 (is_true _ (and_right (live r) _ h))))

  pub settled-live : r.number ≢ 0 → r.kind ≡ 2 → live_settled r ≡ true
  unfolding live_settled live
  settled-live d e = rw (ne_eqb r.number 0 d, eq-eqb r.kind 2 e)

  -- and which a relaxed query's
  pub free_strict : r.number ≡ 0 → live_relaxed r ≡ false
  unfolding live_relaxed live
  free_strict e = rw (eq-eqb r.number 0 e)

  pub other_strict : r.kind ≢ 3 → live_relaxed r ≡ false
  unfolding live_relaxed
  other_strict e = is_false (live_relaxed r) (λ h. e (eqb-true r.kind 3 (is_true _ (and_right (live r) _ h))))

  pub relaxed-live : r.number ≢ 0 → r.kind ≡ 3 → live_relaxed r ≡ true
  unfolding live_relaxed live
  relaxed-live d e = rw (ne_eqb r.number 0 d, eq-eqb r.kind 3 e)

-- ---- the kinds of rows
module _ (t : List ℕ) (r : Txn) where
  small : r.awaited_lock ≡ 0 → leb r.awaited_lock exclusive_lock ≡ true
  small e = le-leb r.awaited_lock exclusive_lock (omega arith)

  -- what is awaited, as the rules test it; that it is none
  abbrev awaited : Bool
  awaited = cond (eqb r.awaited_lock 0) (eqb r.awaited_item 0 && eqb r.rank 0) (ltb r.awaited_item base.items)

  abbrev unranked : Bool
  unranked = eqb r.awaited_item 0 && eqb r.rank 0

  -- the reads and the notes
  abbrev rest : Bool
  rest = reads_good r && notes_good base r

  -- what is asked of a live row but for them, and of them
  both :
      (s : Bool) {a c d : Bool} → a ≡ (leb r.number (last_number t) && (leb r.awaited_lock exclusive_lock && (s && awaited))) → c ≡ reads_good r → d ≡ notes_good base r
      → (a && (c && d)) ≡ (leb r.number (last_number t) && (leb r.awaited_lock exclusive_lock && (s && (awaited && rest))))
  both s e f g =
      ap₂ ◌&&◌ e (ap₂ ◌&&◌ f g) ∙ sym (reads-last (leb r.number (last_number t)) (leb r.awaited_lock exclusive_lock) s awaited rest)

  pub free-same :
      r.number ≡ 0
      → free_ok r ≡ row_good base t r
  unfolding row_good free_zero all_zero listed start_good awaited_good live live_update live_settled live_relaxed by_start is_reader implies
  free-same e =
      rw (eq-eqb r.number 0 e, le-leb r.number (last_number t) (omega arith))
      (free_law (eqb r.kind 0) (eqb r.start 0) (eqb r.awaited_lock 0) (eqb r.awaited_item 0) (eqb r.rank 0) (eqb r.read_count 0) (eqb r.weight_sum 0)
      (eqb r.items_read 0) (eqb r.later_for 0)
      (leb r.kind a_relaxed) (leb r.awaited_lock exclusive_lock) (ltb r.awaited_item base.items) (reads_good r) (notes_good base r)
      (λ z. le-leb r.kind a_relaxed (let k = eqb-true r.kind 0 z in omega arith))
      (λ z. small (eqb-true r.awaited_lock 0 z))
      (zero_reads r)
      (zero_notes r))

  pub update_same :
      r.number ≢ 0 → r.kind ≡ 0
      → update_ok (last_number t) r ≡ row_good base t r
  unfolding row_good free_zero listed start_good awaited_good live live_update live_settled live_relaxed by_start is_reader implies
  update_same d e =
      rw (ne_eqb r.number 0 d, eq-eqb r.kind 0 e, ne_eqb r.kind 1 (λ z. omega arith), ne_eqb r.kind 2 (λ z. omega arith), le-leb r.kind a_relaxed (omega arith))
      (both (eqb r.start 0 && true)
      (update_law (leb r.number (last_number t)) (eqb r.start 0) (leb r.awaited_lock exclusive_lock) (ltb r.awaited_item base.items) (eqb r.awaited_lock 0) unranked
      (λ z. lt-ltb r.awaited_item base.items (let k = eqb-true r.awaited_item 0 (is_true (eqb r.awaited_item 0) (and_left (eqb r.awaited_item 0) (eqb r.rank 0) (true_is z))) in omega arith)))
      (holder_reads r (update-holds r d e))
      (update_notes r (other_strict r (λ z. omega arith)) (update-live r d e)))

  pub settled_same :
      r.number ≢ 0 → r.kind ≡ 2
      → settled_ok (last_number t) (clock t) r ≡ row_good base t r
  unfolding row_good free_zero listed start_good awaited_good live live_update live_settled live_relaxed by_start is_reader implies
  settled_same d e =
      rw (ne_eqb r.number 0 d, ne_eqb r.kind 0 (λ z. omega arith), ne_eqb r.kind 1 (λ z. omega arith), eq-eqb r.kind 2 e, ne_eqb r.kind 3 (λ z. omega arith), le-leb r.kind a_relaxed (omega arith))
      (both (leb r.start (clock t) && (eqb r.awaited_lock 0 && leb 1 r.start))
      (settled_law (leb r.number (last_number t)) (leb 1 r.start) (leb r.start (clock t)) (eqb r.awaited_lock 0) unranked (leb r.awaited_lock exclusive_lock) (ltb r.awaited_item base.items)
      (λ z. small (eqb-true r.awaited_lock 0 z)))
      (holder_reads r (settled-holds r d e))
      (other_notes r (other_strict r (λ z. omega arith)) (query-idle r d (λ z. omega arith))))

  pub relaxed-same :
      r.number ≢ 0 → r.kind ≡ 3
      → relaxed_ok (last_number t) r ≡ row_good base t r
  unfolding row_good free_zero listed start_good awaited_good live live_update live_settled live_relaxed by_start is_reader implies
  relaxed-same d e =
      rw (ne_eqb r.number 0 d, ne_eqb r.kind 0 (λ z. omega arith), ne_eqb r.kind 1 (λ z. omega arith), ne_eqb r.kind 2 (λ z. omega arith), eq-eqb r.kind 3 e, le-leb r.kind a_relaxed (omega arith))
      (both (eqb r.start 0 && (eqb r.awaited_lock 0 && true))
      (query_law (leb r.number (last_number t)) (eqb r.start 0) (eqb r.awaited_lock 0) unranked (leb r.awaited_lock exclusive_lock) (ltb r.awaited_item base.items)
      (λ z. small (eqb-true r.awaited_lock 0 z)))
      (other-reads r (none_holds r d (λ z. omega arith) (λ z. omega arith)))
      (relaxed_notes r (relaxed-live r d e) (query-idle r d (λ z. omega arith))))

  pub query-same :
      r.number ≢ 0 → r.kind ≢ 0 → r.kind ≢ 2 → r.kind ≢ 3
      → query_ok (last_number t) (clock t) r ≡ row_good base t r
  unfolding row_good free_zero listed start_good awaited_good live live_update live_settled live_relaxed by_start is_reader implies
  query-same d e f g = go (same? r.kind 1)
    where
      go :
          (r.kind ≡ 1) ⊎ (r.kind ≢ 1)
          → query_ok (last_number t) (clock t) r ≡ row_good base t r
      go (inl q) =
          rw (ne_eqb r.number 0 d, ne_eqb r.kind 0 e, eq-eqb r.kind 1 q, ne_eqb r.kind 2 f, ne_eqb r.kind 3 g, le-leb r.kind a_relaxed (omega arith))
          (both (leb r.start (clock t) && (eqb r.awaited_lock 0 && true))
          (ap (λ (n : Bool). n && leb r.start (clock t) && eqb r.awaited_lock 0 && unranked) (and_true (leb r.number (last_number t)))
          ∙ query_law (leb r.number (last_number t)) (leb r.start (clock t)) (eqb r.awaited_lock 0) unranked (leb r.awaited_lock exclusive_lock) (ltb r.awaited_item base.items)
          (λ z. small (eqb-true r.awaited_lock 0 z)))
          (other-reads r (none_holds r d e f))
          (other_notes r (other_strict r g) (query-idle r d e)))
      go (inr q) =
          rw (ne_eqb r.number 0 d, ne_eqb r.kind 1 q, lt-leb r.kind a_relaxed (omega arith))
          (kind_law (leb r.number (last_number t)) (leb r.start (clock t)) (eqb r.awaited_lock 0) unranked (leb r.read_count last_word && leb r.weight_sum last_word && (eqb r.items_read 0 && eqb r.later_for 0)))

-- ---- the number of a slot, against those below
module _ (t : List ℕ) (s : ℕ) where
  pub free-apart : (txn t s).number ≡ 0 → true ≡ distinct_at t s
  unfolding distinct_at
  free-apart e =
      sym (is_true (distinct_at t s) (→every_below s (λ r. implies (live (txn t s)) (not (eqb (txn t r).number (txn t s).number)))
      (λ r b. implies_make (live (txn t s)) _ (λ a. absurd (live-number (txn t s) a e)))))

  pub live-apart : (txn t s).number ≢ 0 → apart_from t s (txn t s).number ≡ distinct_at t s
  unfolding apart_from distinct_at live implies
  live-apart d = rw (ne_eqb (txn t s).number 0 d)
