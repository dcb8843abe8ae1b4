-- The test of all tables says what Good says.
use Prim.Native.Nat.{ℕ, ◌<◌}
use mathlib.Core.Path.{◌≡◌, refl, sym, subst}
use mathlib.Core.Logic.{◌≢◌, ◌⊎◌, inl, inr, ◌↔◌}
use mathlib.Core.Bool.{Bool, true, false, ◌&&◌, not}
use mathlib.Core.List.{List}
use native.Mathlib.Omega.{arith}
use native.Mathlib.Nat.{zero-add}
use lib.ListN.{length}
use lib.Dec.{T, eqb, leb, ltb, eqb→eq, leb→le, le→leb}
use borrow.Author.Tests.{ltb-true, ltb-false}
use Rattle.names.specs.declared.Sizes.{Sizes}
use Rattle.names.specs.Sizes.{last_word}
use Rattle.rules.specs.Words.{implies, every_below, every_row, row}
use Rattle.rules.specs.Tables.{Tables, txn_words, lock_words, version_words, version_row, last_number, clock, txn, live, readers, relaxed_in, lock}
use Rattle.rules.specs.Versions.{versions_in, hidden_at}
use Rattle.rules.specs.Waits.{no_circle}
use Rattle.rules.specs.Good.{Good, GoodTxn, GoodLock}
use Rattle.rules.specs.Tested.{sizes_exact, tops_most, txn_good, distinct, lock_good, quota_good, versions_good, holders_joined, ranks_good, settled_good, sets_good, good}
use Rattle.rules.proofs.Tests.{and_left, and_right, and_both, implies_use, implies_make, ne_make, ne_use, eq_make}
use Rattle.rules.proofs.Counts.{every_below→, →every_below}
use Rattle.rules.proofs.Rows.{every_row→, →every_row}
use Rattle.rules.proofs.EqualRows.{txn→Good, Good→txn, lock→Good, Good→lock, holder, live-number, number-live}
use Rattle.rules.proofs.EqualRanks.{ranks→Good, Good→ranks}
use Rattle.rules.proofs.EqualSettled.{settled→Good, Good→settled}
use Rattle.rules.proofs.EqualSets.{sets→Good, Good→sets, Good→joined}
use Rattle.rules.proofs.Quotas.{quota→Good, Good→quota}
use Rattle.rules.proofs.EqualVersions.{versions→Good, Good→versions}
use Rattle.rules.proofs.Walks.{no-circle→, →no-circle}

module _ (S : Sizes) (G : Tables) where
  abbrev t : List ℕ
  t = G.txns

  abbrev l : List ℕ
  l = G.locks

  -- the tests, as they are put together
  abbrev rows_test : Bool
  rows_test = every_below S.slots (λ s. txn_good S t l s (txn t s))

  abbrev locks_test : Bool
  locks_test = every_below S.items (λ x. lock_good S t (lock l x))

  abbrev quotas_test : Bool
  quotas_test = every_below S.slots (λ s. quota_good S l s (txn t s))

  -- of the row r of item x
  abbrev version_test : List ℕ → Bool
  version_test r = versions_good S (clock t) (readers S t) (relaxed_in S t) r

  abbrev item_test : ℕ → List ℕ → Bool
  item_test x r = version_test r && holders_joined S t x (lock l x) (hidden_at (versions_in S r) 0)

  abbrev versions_test : Bool
  versions_test = every_row S.items (version_row S) item_test 0 G.versions

  -- two slots: which of them is the higher
  order : (r s : ℕ) → r ≢ s → (r < s) ⊎ (s < r)
  order r s d = go (ltb r s) refl
    where
      go : (b : Bool) → ltb r s ≡ b → (r < s) ⊎ (s < r)
      go true e = inl (ltb-true r s e)
      go false e = inr (let k = ltb-false r s e in omega arith)

  apart : T (distinct S t) → (r s : ℕ) → r < s → s < S.slots → T (live (txn t s)) → (txn t r).number ≢ (txn t s).number
  unfolding distinct
  apart h r s k i a =
      ne_use (txn t r).number (txn t s).number
      (implies_use (live (txn t s)) _
      (every_below→ s (λ r. implies (live (txn t s)) (not (eqb (txn t r).number (txn t s).number)))
      (every_below→ S.slots (λ s. every_below s (λ r. implies (live (txn t s)) (not (eqb (txn t r).number (txn t s).number)))) h s i)
      r k) a)

  pub good→Good : T (good S G) → Good S G
  unfolding good sizes_exact tops_most
  good→Good h =
      let h₁ = and_right (sizes_exact S G) _ h in
      let h₂ = and_right (tops_most t) _ h₁ in
      let h₃ = and_right rows_test _ h₂ in
      let h₄ = and_right (distinct S t) _ h₃ in
      let h₅ = and_right locks_test _ h₄ in
      let h₆ = and_right quotas_test _ h₅ in
      let h₇ = and_right versions_test _ h₆ in
      let h₈ = and_right (ranks_good S t l) _ h₇ in
      let h₉ = and_right (settled_good S G) _ h₈ in
      let h₁₀ = and_right (sets_good S t) _ h₉ in
      let a = and_left (sizes_exact S G) _ h in
      let b = and_right (eqb (length t) (txn_words S)) _ a in
      let c = and_left (tops_most t) _ h₁ in
      let size = eqb→eq (length t) (txn_words S) (and_left (eqb (length t) (txn_words S)) _ a) in
      let rows : (s : ℕ) → s < S.slots → GoodTxn S t l s (txn t s)
      = λ s i. txn→Good S t l s (txn t s) (every_below→ S.slots (λ s. txn_good S t l s (txn t s)) (and_left rows_test _ h₂) s i) in
      let locks : (x : ℕ) → x < S.items → GoodLock S t (lock l x)
      = λ x i. lock→Good S t (lock l x) (every_below→ S.items (λ x. lock_good S t (lock l x)) (and_left locks_test _ h₄) x i) in
      record {
        txns_exact = size;
        locks_exact = eqb→eq (length l) (lock_words S) (and_left (eqb (length l) (lock_words S)) _ b);
        versions_exact = eqb→eq (length G.versions) (version_words S) (and_right (eqb (length l) (lock_words S)) _ b);
        last_most = leb→le (last_number t) last_word (and_left (leb (last_number t) last_word) _ c);
        clock_most = leb→le (clock t) last_word (and_right (leb (last_number t) last_word) _ c);
        txn_good = rows;
        distinct = λ r s j i d a. pick (and_left (distinct S t) _ h₃) r s j i a (order r s d);
        lock_good = locks;
        quota_good = λ s i. quota→Good S l s (txn t s) (every_below→ S.slots (λ s. quota_good S l s (txn t s)) (and_left quotas_test _ h₅) s i);
        versions_good = λ x i. versions→Good S t (row (version_row S) x G.versions) (and_left (version_test (row (version_row S) x G.versions)) _ (items (and_left versions_test _ h₆) x i));
        ranks_good = ranks→Good S t l (and_left (ranks_good S t l) _ h₇);
        settled_good = settled→Good S G (and_left (settled_good S G) _ h₈);
        sets_good = sets→Good S G locks (and_left (sets_good S t) _ h₉) (λ x i. and_right (version_test (row (version_row S) x G.versions)) _ (items (and_left versions_test _ h₆) x i));
        no_circle = no-circle→ S t l size (λ s i. (rows s i).item_known) (λ x i b h. (holder S t (lock l x) (locks x i) b h).0) h₁₀;
      }
    where
      items : T versions_test → (x : ℕ) → x < S.items → T (item_test x (row (version_row S) x G.versions))
      items k x i = subst (λ (y : ℕ). T (item_test y (row (version_row S) x G.versions))) (zero-add x) (every_row→ S.items (version_row S) item_test 0 G.versions k x i)

      pick : T (distinct S t) → (r s : ℕ) → r < S.slots → s < S.slots → T (live (txn t s)) → (r < s) ⊎ (s < r) → (txn t r).number ≢ (txn t s).number
      pick h r s j i a (inl k) = apart h r s k i a
      pick h r s j i a (inr k) =
          λ e. apart h s r k j (number-live (txn t r) (λ z. live-number (txn t s) a (omega arith))) (sym e)

  pub Good→good : Good S G → T (good S G)
  unfolding good sizes_exact tops_most distinct
  Good→good g =
      and_both (sizes_exact S G) _
      (and_both (eqb (length t) (txn_words S)) _ (eq_make (length t) (txn_words S) g.txns_exact)
      (and_both (eqb (length l) (lock_words S)) _ (eq_make (length l) (lock_words S) g.locks_exact) (eq_make (length G.versions) (version_words S) g.versions_exact)))
      (and_both (tops_most t) _
      (and_both (leb (last_number t) last_word) _ (le→leb (last_number t) last_word g.last_most) (le→leb (clock t) last_word g.clock_most))
      (and_both rows_test _ (→every_below S.slots (λ s. txn_good S t l s (txn t s)) (λ s i. Good→txn S t l s (txn t s) (g.txn_good s i)))
      (and_both (distinct S t) _
      (→every_below S.slots _ (λ s i. →every_below s (λ r. implies (live (txn t s)) (not (eqb (txn t r).number (txn t s).number)))
      (λ r k. implies_make (live (txn t s)) _ (λ a. ne_make (txn t r).number (txn t s).number (g.distinct r s (omega arith) i (omega arith) a)))))
      (and_both locks_test _ (→every_below S.items (λ x. lock_good S t (lock l x)) (λ x i. Good→lock S t (lock l x) (g.lock_good x i)))
      (and_both quotas_test _ (→every_below S.slots (λ s. quota_good S l s (txn t s)) (λ s i. Good→quota S l s (txn t s) (g.quota_good s i)))
      (and_both versions_test _
      (→every_row S.items (version_row S) item_test 0 G.versions
      (λ x i.
      subst (λ (y : ℕ). T (item_test y (row (version_row S) x G.versions))) (sym (zero-add x))
      (and_both (version_test (row (version_row S) x G.versions)) _ (Good→versions S t (row (version_row S) x G.versions) (g.versions_good x i)) (Good→joined S G g.sets_good x i))))
      (and_both (ranks_good S t l) _ (Good→ranks S t l g.ranks_good)
      (and_both (settled_good S G) _ (Good→settled S G g.settled_good)
      (and_both (sets_good S t) _ (Good→sets S G g.sets_good)
      (→no-circle S t l g.txns_exact (λ s i. (g.txn_good s i).item_known) (λ x i b h. (holder S t (lock l x) (g.lock_good x i) b h).0) g.no_circle))))))))))

-- the computed test and the document's sentences
pub good↔Good : (S : Sizes) (G : Tables) → T (good S G) ↔ Good S G
good↔Good S G = (good→Good S G, Good→good S G)
