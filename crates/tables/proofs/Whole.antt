-- The test of all tables, put together from what its parts say.
use Prim.Native.Nat.{ℕ, ◌≤◌, ◌<◌}
use mathlib.Core.Path.{◌≡◌, sym, ap, ◌∙◌, subst}
use mathlib.Core.Bool.{Bool, false, ◌&&◌}
use mathlib.Core.List.{List}
use lib.ListN.{get_or, length}
use lib.Dec.{T, eqb, eqb→eq}
use Rattle.names.specs.Sizes.{base}
use Rattle.rules.specs.Words.{every_below, every_row, row}
use Rattle.rules.specs.Tables.{tables, txn_words, lock_words, version_words, version_row, clock, Reader, readers, relaxed_in, txn, lock}
use Rattle.rules.specs.Versions.{versions_in, hidden_at, hidden_now}
use Rattle.rules.specs.Waits.{no_circle}
use Rattle.rules.specs.Tested.{good, sizes_exact, tops_most, txn_good, awaiter_good, distinct, lock_good, quota_good, versions_good, ranks_good, settled_good, sets_good, holders_joined}
use Rattle.rules.proofs.Tests.{and_left, and_right, and_both, is_false, eq_make}
use Rattle.rules.proofs.Counts.{every_below→, →every_below}
use Rattle.rules.proofs.Rows.{every_row→}
use Rattle.rules.proofs.EqualVersions.{versions→Good}
use Rattle.words.proofs.Turns.{iff_eq}
use Rattle.starts.specs.Starts.{starts, Split}
use Rattle.starts.specs.Ordered.{InOrder}
use Rattle.starts.proofs.Split.{readers-split}
use Rattle.shapes.specs.Shape.{row_good, rows_good}
use Rattle.holdings.specs.Holding.{locks_good, quotas_good}
use Rattle.waiting.specs.Waiting.{awaiters_good}
use Rattle.sets.specs.Joined.{sets_test}
use Rattle.sets.proofs.Tied.{sets_same, rows_apart}
use Rattle.tables.proofs.Reading.{row_parts}

-- the test of the versions, as the rules make it
abbrev pub versions_test : List ℕ → List ℕ → Bool
versions_test t v = every_row base.items (version_row base) (λ x r. versions_good base (clock t) (readers base t) (relaxed_in base t) r) 0 v

-- that of those who hold the items, and both as the rules make them
abbrev pub holders_test : List ℕ → List ℕ → List ℕ → Bool
holders_test t l v = every_below base.items (λ x. holders_joined base t x (lock l x) (hidden_now base v x))

abbrev rows_test : List ℕ → List ℕ → List ℕ → Bool
rows_test t l v =
    every_row base.items (version_row base)
    (λ x r.
    versions_good base (clock t) (readers base t) (relaxed_in base t) r && holders_joined base t x (lock l x) (hidden_at (versions_in base r) 0))
    0
    v

-- what the parts say
pub record Parts (t l v : List ℕ) : Type 0 where
  pub txns_exact : length t ≡ txn_words base
  pub locks_exact : length l ≡ lock_words base
  pub versions_exact : length v ≡ version_words base
  pub rows : T (rows_good base t)
  pub locks : T (locks_good base t l)
  pub quotas : T (quotas_good base t l)
  pub numbers : T (distinct base t)
  pub awaiters : T (awaiters_good base t l)
  pub ranks : T (ranks_good base t l)
  pub settled : T (settled_good base (tables t l v))
  pub sets : T (sets_good base t)
  pub holders : T (holders_test t l v)
  pub free : T (no_circle base t l)
  pub versions : T (versions_test t v)

module _ (t l v : List ℕ) where
  abbrev row_test : ℕ → Bool
  row_test s = txn_good base t l s (txn t s)

  abbrev awaiter_test : ℕ → Bool
  awaiter_test s = awaiter_good s (txn t s) (lock l (txn t s).awaited_item)

  abbrev quota_test : ℕ → Bool
  quota_test s = quota_good base l s (txn t s)

  pub parts : T (good base (tables t l v)) → Parts t l v
  unfolding good sizes_exact rows_good locks_good quotas_good awaiters_good
  parts h =
      let h₁ = and_right (sizes_exact base (tables t l v)) _ h in
      let h₂ = and_right (tops_most t) _ h₁ in
      let h₃ = and_right (every_below base.slots row_test) _ h₂ in
      let h₄ = and_right (distinct base t) _ h₃ in
      let h₅ = and_right (every_below base.items (λ x. lock_good base t (lock l x))) _ h₄ in
      let h₆ = and_right (every_below base.slots quota_test) _ h₅ in
      let h₇ = and_right (rows_test t l v) _ h₆ in
      let h₈ = and_right (ranks_good base t l) _ h₇ in
      let h₉ = and_right (settled_good base (tables t l v)) _ h₈ in
      let rows : T (versions_test t v && holders_test t l v)
      = subst T (rows_apart t l v (clock t) (readers base t) (relaxed_in base t)) (and_left (rows_test t l v) _ h₆) in
      let a = and_left (sizes_exact base (tables t l v)) _ h in
      let b = and_right (eqb (length t) (txn_words base)) _ a in
      let both : (s : ℕ) → s < base.slots → T (row_good base t (txn t s) && awaiter_test s)
      = λ s i. subst T (row_parts t l s (txn t s)) (every_below→ base.slots row_test (and_left (every_below base.slots row_test) _ h₂) s i) in
      record {
        txns_exact = eqb→eq (length t) (txn_words base) (and_left (eqb (length t) (txn_words base)) _ a);
        locks_exact = eqb→eq (length l) (lock_words base) (and_left (eqb (length l) (lock_words base)) _ b);
        versions_exact = eqb→eq (length v) (version_words base) (and_right (eqb (length l) (lock_words base)) _ b);
        rows = and_both (tops_most t) _ (and_left (tops_most t) _ h₁) (→every_below base.slots (λ s. row_good base t (txn t s)) (λ s i. and_left (row_good base t (txn t s)) _ (both s i)));
        locks = and_left (every_below base.items (λ x. lock_good base t (lock l x))) _ h₄;
        quotas = and_left (every_below base.slots quota_test) _ h₅;
        numbers = and_left (distinct base t) _ h₃;
        awaiters = →every_below base.slots awaiter_test (λ s i. and_right (row_good base t (txn t s)) _ (both s i));
        ranks = and_left (ranks_good base t l) _ h₇;
        settled = and_left (settled_good base (tables t l v)) _ h₈;
        sets = and_left (sets_good base t) _ h₉;
        holders = and_right (versions_test t v) _ rows;
        free = and_right (sets_good base t) _ h₉;
        versions = and_left (versions_test t v) _ rows;
      }

  pub whole : Parts t l v → T (good base (tables t l v))
  unfolding good sizes_exact rows_good locks_good quotas_good awaiters_good
  whole p =
      and_both (sizes_exact base (tables t l v)) _
      (and_both (eqb (length t) (txn_words base)) _ (eq_make (length t) (txn_words base) p.txns_exact)
      (and_both (eqb (length l) (lock_words base)) _ (eq_make (length l) (lock_words base) p.locks_exact) (eq_make (length v) (version_words base) p.versions_exact)))
      (and_both (tops_most t) _ (and_left (tops_most t) _ p.rows)
      (and_both (every_below base.slots row_test) _
      (→every_below base.slots row_test (λ s i.
      subst T (sym (row_parts t l s (txn t s)))
      (and_both (row_good base t (txn t s)) _
      (every_below→ base.slots (λ s. row_good base t (txn t s)) (and_right (tops_most t) _ p.rows) s i)
      (every_below→ base.slots awaiter_test p.awaiters s i))))
      (and_both (distinct base t) _ p.numbers
      (and_both (every_below base.items (λ x. lock_good base t (lock l x))) _ p.locks
      (and_both (every_below base.slots quota_test) _ p.quotas
      (and_both (rows_test t l v) _
      (subst T (sym (rows_apart t l v (clock t) (readers base t) (relaxed_in base t))) (and_both (versions_test t v) _ p.versions p.holders))
      (and_both (ranks_good base t l) _ p.ranks
      (and_both (settled_good base (tables t l v)) _ p.settled (and_both (sets_good base t) _ p.sets p.free)))))))))

  -- one part that fails
  pub fails : (Parts t l v → ⊥) → false ≡ good base (tables t l v)
  fails f = sym (is_false (good base (tables t l v)) (λ h. f (parts h)))

  -- every part passed but that of those past their writing: that decides
  pub decides : {r : Bool} → r ≡ settled_good base (tables t l v) → (T (settled_good base (tables t l v)) → Parts t l v) → r ≡ good base (tables t l v)
  decides e f = e ∙ iff_eq (settled_good base (tables t l v)) (good base (tables t l v)) (λ x. whole (f x)) (λ x. (parts x).settled)

-- a test of the versions for whichever readers have the starts in order is that for the readers there are
pub versions-are :
    (t v q : List ℕ) {m : ℕ} {r : Bool} → m ≡ relaxed_in base t → InOrder (starts base t) q
    → ((qs : List Reader) (us : List ℕ) → InOrder us q → Split qs us m → r ≡ every_row base.items (version_row base) (λ x w. versions_good base (clock t) qs m w) 0 v)
    → r ≡ versions_test t v
versions-are t v q e o f =
    f (readers base t) (starts base t) o (subst (λ (n : ℕ). Split (readers base t) (starts base t) n) (sym e) (readers-split base t))
    ∙ ap (λ (n : ℕ). every_row base.items (version_row base) (λ x w. versions_good base (clock t) (readers base t) n w) 0 v) e

-- versions that pass, row by row
pub each-good :
    (t v : List ℕ) → T (versions_test t v) → (x : ℕ) → x < base.items
    → T (versions_good base (clock t) (readers base t) (relaxed_in base t) (row (version_row base) x v))
each-good t v h x i = every_row→ base.items (version_row base) (λ x r. versions_good base (clock t) (readers base t) (relaxed_in base t) r) 0 v h x i

-- so each item has one
pub each_has : (t v : List ℕ) → T (versions_test t v) → (x : ℕ) → x < base.items → 1 ≤ get_or (row (version_row base) x v) 0 0
each_has t v h x i = (versions→Good base t (row (version_row base) x v) (each-good t v h x i)).count_least

-- and the test of the sets is what the rules ask of these and of those who hold
pub sets_are :
    (t l v : List ℕ) → T (rows_good base t) → T (versions_test t v) → sets_test base t l v ≡ (sets_good base t && holders_test t l v)
sets_are t l v rows versions = sets_same t l v rows (clock t) (readers base t) (each-good t v versions)
