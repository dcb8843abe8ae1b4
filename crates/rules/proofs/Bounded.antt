-- Numbers stay within a bound: where the values of writes are at most B, so are the values in the tables and every number of an
-- answer. With the greatest word for B: what the keeper answers can be written in words.
use Prim.Native.Nat.{ℕ, zero, suc, ◌+◌, ◌*◌, ◌≤◌, ◌<◌}
use mathlib.Core.Path.{sym, ap, ◌∙◌, subst}
use mathlib.Core.Logic.{⊎_elim}
use mathlib.Core.Bool.{true, ◌||◌}
use mathlib.Core.List.{List, [], ◌∷◌}
use native.Mathlib.Omega.{arith}
use lib.Dec.{T, eqb}
use lib.ListN.{get_or}
use Rattle.names.specs.declared.Sizes.{Sizes}
use Rattle.names.specs.declared.Answer.{Answer}
use Rattle.names.specs.Sizes.{last_word}
use Rattle.rules.specs.Words.{row}
use Rattle.rules.specs.Tables.{Tables, last_number, clock, txn, live_update, live_settled, shared_lock, exclusive_lock, Reader, reader_in, Lock, lock_row, lock_words, lock, set_lock, holds_exclusive, released, release, readers, version_row, fresh}
use Rattle.rules.specs.Versions.{Version, no_version, versions_from, versions_in, versions_of, newest, place, choice, read_by_some, kept_from, kept, revealed}
use Rattle.rules.specs.Good.{Good}
use Rattle.rules.specs.Answers.{Call, BeginUpdate, BeginQuery, Read, Write, Commit, Abort, Settle, BeginRelaxed, Outcome, Refusal, code, Deed}
use Rattle.rules.specs.Answers.{Wait}
use Rattle.rules.specs.Step.{locked, locked_anew, replaced, taken, with_new, committed_under, committed, settled_committed, ended, aborted, settled_aborted, settled, begun, version_read, judged, done, act, step}
use Rattle.rules.proofs.Tests.{same?}
use Rattle.rules.proofs.Choice.{length-versions_in, place-le}
use Rattle.rules.proofs.Views.{lock-set_lock, lock-set_lock-other, lock-release, lock-unshare}
use Rattle.rules.proofs.Steps.{acts, cond_case}
use Rattle.rules.proofs.Fresh.{zeros, fresh-row, fresh_row_zero}
use Rattle.rules.proofs.ChangedVersions.{ended-versions, committed-versions, settled-commit-versions, settled-abort-versions}
use Rattle.rules.proofs.RowKinds.{settled-starts}
use Rattle.rules.proofs.Judged.{way}
use Rattle.rules.proofs.Ways.{refusal-most, Way, refused, waited, began_update, began_query, began_relaxed, read_own, read_newest, read_shared, read_settled, read_version}
use Rattle.rules.proofs.Ways.{wrote_own, wrote_settled, wrote_taken, committed_update, committed_empty, committed_settled, committed_query, aborted_update, aborted_settled, aborted_query, settled_update, kept_waiting}

-- the value of a write, if it is one, is at most B
unfoldable pub Asks : ℕ → Call → Type 0
Asks B (Write n x v) = v ≤ B
Asks B BeginUpdate = T true
Asks B BeginQuery = T true
Asks B (Read n x) = T true
Asks B (Commit n) = T true
Asks B (Abort n) = T true
Asks B (Settle n) = T true
Asks B BeginRelaxed = T true

pub record Within (B : ℕ) (a : Answer) : Type 0 where
  pub code : a.code ≤ B
  pub value : a.value ≤ B
  pub number : a.number ≤ B
  pub looked : a.looked ≤ B

-- the values of versions
pub data Values (B : ℕ) : List Version → Type 0 where
  none : Values B []
  more : {w : Version} {ws : List Version} → w.value ≤ B → Values B ws → Values B (w ∷ ws)

pub record Bounded (B : ℕ) (S : Sizes) (G : Tables) : Type 0 where
  pub working : (x : ℕ) → x < S.items → (lock G.locks x).working ≤ B
  pub values : (x : ℕ) → x < S.items → Values B (versions_of S G.versions x)

module _ (B : ℕ) where
  -- ---- versions
  value_at : (vs : List Version) → Values B vs → (k : ℕ) → (get_or vs k no_version).value ≤ B
  value_at [] none k = omega arith
  value_at (w ∷ ws) (more h r) zero = h
  value_at (w ∷ ws) (more h r) (suc k) = value_at ws r k

  kept_from_values : (qs : List Reader) (vs : List Version) (k : ℕ) (ws : List Version) → Values B ws → Values B (kept_from qs vs k ws)
  unfolding kept_from
  kept_from_values qs vs k [] none = none
  kept_from_values qs vs k (w ∷ ws) (more h r) =
      cond_case (Values B) (eqb k 0 || read_by_some qs vs k) _ _
      (λ e. more h (kept_from_values qs vs (suc k) ws r)) (λ e. kept_from_values qs vs (suc k) ws r)

  kept_values : (qs : List Reader) (vs : List Version) → Values B vs → Values B (kept qs vs)
  unfolding kept
  kept_values qs vs b = kept_from_values qs vs 0 vs b

  revealed_values : (s : ℕ) (vs : List Version) → Values B vs → Values B (revealed s vs)
  unfolding revealed
  revealed_values s [] none = none
  revealed_values s (w ∷ ws) (more h r) = more h (revealed_values s ws r)

  new_values : (l : List ℕ) (s c m x : ℕ) (vs : List Version) → (lock l x).working ≤ B → Values B vs → Values B (with_new l s c m x vs)
  unfolding with_new
  new_values l s c m x vs h b = cond_case (Values B) (holds_exclusive (lock l x) s) _ _ (λ e. more h b) (λ e. b)

  -- ---- locks
  released-working : (s : ℕ) (h : Lock) → h.working ≤ B → (released s h).working ≤ B
  unfolding released
  released-working s h b = cond_case (λ (k : Lock). k.working ≤ B) (holds_exclusive h s) _ _ (λ e. omega arith) (λ e. b)

  module _ (S : Sizes) (G : Tables) (g : Good S G) (b : Bounded B S G) where
    locked_bounded : (s x : ℕ) → x < S.items → (h : Lock) → h.working ≤ B → Bounded B S (locked S s x h G)
    unfolding locked
    locked_bounded s x i h w =
        record {
          working = λ y j. ⊎_elim
              (λ e. subst (λ (k : Lock). k.working ≤ B) (sym (ap (λ (m : ℕ). lock (set_lock G.locks x h) m) e ∙ lock-set_lock G.locks x h S g.locks_exact i)) w)
              (λ d. subst (λ (k : Lock). k.working ≤ B) (sym (lock-set_lock-other G.locks x h y d)) (b.working y j))
              (same? y x);
          values = b.values;
        }

    released_all : (s x : ℕ) → x < S.items → (lock (release S s G.locks) x).working ≤ B
    released_all s x i =
        subst (λ (k : Lock). k.working ≤ B) (sym (lock-release S s G.locks g.locks_exact x i)) (released-working s (lock G.locks x) (b.working x i))

    anew_bounded : (s k x : ℕ) → x < S.items → (h : Lock) → h.working ≤ B → Bounded B S (locked_anew S s k x h G)
    unfolding locked_anew locked
    anew_bounded s k x i h w =
        record {
          working = λ y j. ⊎_elim
              (λ e. subst (λ (k : Lock). k.working ≤ B) (sym (ap (λ (m : ℕ). lock (set_lock G.locks x h) m) e ∙ lock-set_lock G.locks x h S g.locks_exact i)) w)
              (λ d. subst (λ (k : Lock). k.working ≤ B) (sym (lock-set_lock-other G.locks x h y d)) (b.working y j))
              (same? y x);
          values = b.values;
        }

    aborted_bounded : (s : ℕ) → Bounded B S (aborted S s G)
    unfolding aborted
    aborted_bounded s = record { working = released_all s; values = b.values }

    module _ (enough : S.slots ≤ S.places) where
      ended_bounded : (s : ℕ) → s < S.slots → Bounded B S (ended S s G)
      ended_bounded s i =
          record {
            working = unfold ended in b.working;
            values = λ x j. subst (Values B) (sym (ended-versions S G g enough s i x j)) (kept_values (readers S (ended S s G).txns) (revealed s (versions_of S G.versions x)) (revealed_values s (versions_of S G.versions x) (b.values x j)));
          }

      committed_bounded : (s : ℕ) → s < S.slots → T (live_update (txn G.txns s)) → Bounded B S (committed S s G)
      committed_bounded s i u =
          record {
            working = unfold committed committed_under in (released_all s);
            values = λ x j.
                subst (Values B) (sym (committed-versions S G g enough s i u x j))
                (kept_values (readers S G.txns) (with_new G.locks s (clock G.txns + 1) (txn G.txns s).later_for x (versions_of S G.versions x))
                (new_values G.locks s (clock G.txns + 1) (txn G.txns s).later_for x (versions_of S G.versions x) (b.working x j) (b.values x j)));
          }

      -- request E6
      settled_commit_bounded : (s : ℕ) → s < S.slots → T (live_settled (txn G.txns s)) → Bounded B S (settled_committed S s G)
      settled_commit_bounded s i p =
          record {
            working = unfold settled_committed committed_under in (released_all s);
            values = λ x j.
                subst (Values B) (sym (settled-commit-versions S G g enough s i p x j))
                (kept_values (readers S (settled_committed S s G).txns) (with_new G.locks s (txn G.txns s).start 0 x (versions_of S G.versions x))
                (new_values G.locks s (txn G.txns s).start 0 x (versions_of S G.versions x) (b.working x j) (b.values x j)));
          }

      settled_abort_bounded : (s : ℕ) → s < S.slots → Bounded B S (settled_aborted S s G)
      settled_abort_bounded s i =
          record {
            working = unfold settled_aborted in (released_all s);
            values = λ x j. subst (Values B) (sym (settled-abort-versions S G g enough s i x j)) (kept_values (readers S (settled_aborted S s G).txns) (versions_of S G.versions x) (b.values x j));
          }

      settled_bounded : (s : ℕ) → Bounded B S (settled S s G)
      unfolding settled
      settled_bounded s =
          record {
            working = λ x i. subst (λ (k : Lock). k.working ≤ B) (sym (lock-unshare S s G.locks g.locks_exact x i)) (b.working x i);
            values = b.values;
          }

      -- ---- each way that a call can go
      module _ (words : last_word + 1 ≤ B) (places : S.places + 1 ≤ B) where
        abbrev Both : Outcome → Type 0
        Both o = Within B o.answer × Bounded B S o.after

        bare : (n : ℕ) → n ≤ last_word + 1 → Within B (record { code = 0; value = 0; number = n; looked = 0 })
        bare n h = record { code = omega arith; value = omega arith; number = omega arith; looked = omega arith }

        found : (n k : ℕ) → n ≤ B → k ≤ B → Within B (record { code = 0; value = n; number = 0; looked = k })
        found n k h m = record { code = omega arith; value = h; number = omega arith; looked = m }

        -- request E8: the two numbers that a query's end answers, each for itself: whichever stands where
        totals : (s : ℕ) → s < S.slots → ((txn G.txns s).weight_sum ≤ B) × ((txn G.txns s).read_count ≤ B)
        totals s i =
            let o = (g.txn_good s i).reads_good in
            let n = o.count_most in
            let w = o.sum_most in
            (omega arith, omega arith)

        no : (r : Refusal) → Within B (record { code = code r; value = 0; number = 0; looked = 0 })
        no r = record { code = let m = refusal-most r in omega arith; value = omega arith; number = omega arith; looked = omega arith }

        newest-bound : (x : ℕ) → x < S.items → newest S G.versions x ≤ B
        unfolding newest
        newest-bound x i = value_at (versions_of S G.versions x) (b.values x i) 0

        place-bound : (q : Reader) (x : ℕ) → x < S.items → suc (place q (versions_of S G.versions x)) ≤ B
        unfolding versions_of
        place-bound q x i =
            let r = row (version_row S) x G.versions in
            let m = (g.versions_good x i).count_most in
            let e = length-versions_in S r in
            let p = place-le q (versions_in S r) in
            omega arith

        way_bounded : (c : Call) (d : Deed) → Asks B c → Way S G c d → Both (done S d G)
        unfolding done version_read choice begun Asks
        way_bounded c d a (refused r l) = (no r, b)
        way_bounded c d a (waited s k x w) = (no Wait, record { working = b.working; values = b.values })
        way_bounded c d a (began_update s free l) = (bare (last_number G.txns + 1) (let m = g.last_most in omega arith), record { working = b.working; values = b.values })
        way_bounded c d a (began_query s free l) = (bare (last_number G.txns + 1) (let m = g.last_most in omega arith), record { working = b.working; values = b.values })
        way_bounded c d a (began_relaxed s free l z) = (bare (last_number G.txns + 1) (let m = g.last_most in omega arith), record { working = b.working; values = b.values })
        way_bounded c d a (read_own n s x u h) = (found _ 0 (b.working x u.known) (omega arith), record { working = b.working; values = b.values })
        way_bounded c d a (read_newest n s x u h) = (found _ 1 (newest-bound x u.known) (omega arith), record { working = b.working; values = b.values })
        way_bounded c d a (read_shared n s x u h f) =
            (found _ 1 (newest-bound x u.known) (omega arith), anew_bounded s shared_lock x u.known _ (b.working x u.known))
        way_bounded c d a (kept_waiting s C q) = (no Wait, b)
        way_bounded c d a (read_settled n s x C p i h) = (found _ 0 (b.working x i) (omega arith), record { working = b.working; values = b.values })
        way_bounded c d a (read_version n s x C q i o k) =
            let start = reader_in G.txns s in
            let vs = versions_of S G.versions x in
            (found _ _ (value_at vs (b.values x i) (place start vs)) (place-bound start x i), record { working = b.working; values = b.values })
        way_bounded c d a (wrote_own n s x v u h) = (bare 0 (omega arith), locked_bounded s x u.known (replaced (lock G.locks x) v) a)
        way_bounded c d a (wrote_settled n s x v C p i h) = (bare 0 (omega arith), locked_bounded s x i (replaced (lock G.locks x) v) a)
        way_bounded c d a (wrote_taken n s x v u h f r) = (bare 0 (omega arith), anew_bounded s exclusive_lock x u.known (taken (lock G.locks x) s v) a)
        way_bounded c d a (committed_empty n s C u i e) = (bare (clock G.txns) (let m = g.clock_most in omega arith), aborted_bounded s)
        way_bounded c d a (committed_update n s C u i l w) = (bare (clock G.txns + 1) (let m = g.clock_most in omega arith), committed_bounded s C.inside u)
        way_bounded c d a (committed_settled n s C p) = (bare (txn G.txns s).start (let k = (g.txn_good s C.inside).reader_start (settled-starts (txn G.txns s) p) in let m = g.clock_most in omega arith), settled_commit_bounded s C.inside p)
        way_bounded c d a (committed_query n s C q) =
            let (m, k) = totals s C.inside in
            (record { code = omega arith; value = omega arith; number = omega arith; looked = omega arith }, ended_bounded s C.inside)
        way_bounded c d a (aborted_update n s C u) = (bare 0 (omega arith), aborted_bounded s)
        way_bounded c d a (aborted_settled n s C p) = (bare 0 (omega arith), settled_abort_bounded s C.inside)
        way_bounded c d a (aborted_query n s C q) =
            let (m, k) = totals s C.inside in
            (record { code = omega arith; value = omega arith; number = omega arith; looked = omega arith }, ended_bounded s C.inside)
        way_bounded c d a (settled_update n s C u i l z) = (bare (clock G.txns + 1) (let m = g.clock_most in omega arith), settled_bounded s)

        -- a call whose value is within the bound is answered so, and leaves the tables so
        pub step_bounded : (c : Call) → Asks B c → Both (step S c G)
        unfolding act
        step_bounded c a =
            subst Both (sym (acts S c G g)) (way_bounded c (judged S c G) a (way S G g c))

-- fresh tables hold zeros
pub fresh_bounded : (B : ℕ) (S : Sizes) → Bounded B S (fresh S)
unfolding fresh lock versions_of versions_in versions_from
fresh_bounded B S =
    record {
      working = λ x i. let z = zeros (lock_words S) (lock_row * x + 2) in omega arith;
      values = λ x i.
          subst (λ (r : List ℕ). Values B (versions_in S r)) (sym (fresh-row S x i))
          (more (let z = fresh_row_zero S x 1 in omega arith) none);
    }
