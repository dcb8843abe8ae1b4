-- Fresh tables are good.
use Prim.Native.Nat.{ℕ, zero, suc, ◌+◌, ◌*◌, ◌≤◌, ◌<◌}
use mathlib.Core.Path.{◌≡◌, refl, sym, ap, ◌∙◌, subst}
use mathlib.Core.Logic.{inl, ⊎_elim}
use mathlib.Core.Bool.{Bool, true, false}
use mathlib.Core.List.{List, ◌∷◌}
use native.Mathlib.Omega.{arith}
use native.Mathlib.Nat.{not-suc-le-zero}
use lib.ListN.{length, get_or, take, drop, replicate, length-replicate, length-drop, length-take, get_or-eq_default}
use lib.Seq.{get_or-drop, get_or-take}
use lib.Dec.{T, ltb, eqb-zero-suc}
use borrow.Author.Tests.{ltb-true, ltb-false}
use Rattle.names.specs.declared.Sizes.{Sizes}
use Rattle.rules.specs.Words.{row, bit}
use Rattle.rules.specs.Tables.{with_counts, txn_at, txn_words, lock_words, lock_row, version_words, version_row, masks_at, Txn, txn, no_txn, live, live_settled, is_reader}
use Rattle.rules.specs.Tables.{Lock, lock, holds, holds_shared, holds_exclusive, fresh}
use Rattle.rules.specs.Versions.{versions_in, versions_from, stamp_at, hidden_at}
use Rattle.rules.specs.Waits.{awaits, waits_for, Walk, one, more}
use Rattle.rules.specs.Good.{Good, GoodTxn, GoodLock, GoodQuota, GoodVersions}
use Rattle.rules.proofs.Tests.{or_cases, false_is}
use Rattle.rules.proofs.Bits.{bit_none}
use Rattle.rules.proofs.Rows.{length-map_rows, row-map_rows}
use Rattle.rules.proofs.RowKinds.{live-number, settled-live, reader-live}
use Rattle.rules.proofs.Quotas.{free_quota}
use Rattle.rules.proofs.Carried.{free-row}
use Rattle.rules.proofs.EqualRanks.{awaits→, awaits_on→}
use Rattle.rules.proofs.Walks.{waits-for→}

-- every word of n zeros is 0, and so is what is read past them
pub zeros : (n j : ℕ) → get_or {A = ℕ} (replicate n 0) j 0 ≡ 0
zeros zero j = refl
zeros (suc n) zero = refl
zeros (suc n) (suc j) = zeros n j

length-zeros : (n : ℕ) → length {A = ℕ} (replicate n 0) ≡ n
length-zeros n = length-replicate {A = ℕ} n 0

-- and so is every word of a row of them
zero_row : (w x : ℕ) (l : List ℕ) → ((j : ℕ) → get_or l j 0 ≡ 0) → (j : ℕ) → get_or (row w x l) j 0 ≡ 0
unfolding row
zero_row w x l z j = go (ltb j w) refl
  where
    go : (b : Bool) → ltb j w ≡ b → get_or (take w (drop (w * x) l)) j 0 ≡ 0
    go true e = let h = ltb-true j w e in rw (get_or-take, get_or-drop) (z (w * x + j))
    go false e = get_or-eq_default (take w (drop (w * x) l)) 0 (let h = ltb-false j w e in let a = length-take w (drop (w * x) l) in omega arith)

module _ (S : Sizes) (v : List ℕ) (size : length v ≡ version_words S) where
  long : (x : ℕ) (r : List ℕ) → length r ≡ version_row S → length (1 ∷ drop 1 r) ≡ version_row S
  long x r e = let a = length-drop 1 r in omega arith

  pub length-with_counts : length (with_counts S v) ≡ version_words S
  length-with_counts = length-map_rows (version_row S) (λ x r. 1 ∷ drop 1 r) long S.items 0 v (omega arith) ∙ size

  pub row-with_counts : (x : ℕ) → x < S.items → row (version_row S) x (with_counts S v) ≡ 1 ∷ drop 1 (row (version_row S) x v)
  row-with_counts x i = row-map_rows (version_row S) (λ x r. 1 ∷ drop 1 r) long S.items 0 v (omega arith) x i

-- a fresh version row: the count 1, and zeros
pub behind_count : Sizes → ℕ → List ℕ
behind_count S x = drop 1 (row (version_row S) x (replicate (version_words S) 0))

pub fresh-row : (S : Sizes) (x : ℕ) → x < S.items → row (version_row S) x (fresh S).versions ≡ 1 ∷ behind_count S x
unfolding fresh behind_count
fresh-row S x i = row-with_counts S (replicate (version_words S) 0) (length-zeros (version_words S)) x i

pub fresh_row_zero : (S : Sizes) (x j : ℕ) → get_or (behind_count S x) j 0 ≡ 0
unfolding behind_count
fresh_row_zero S x j =
    get_or-drop 1 (row (version_row S) x (replicate (version_words S) 0)) j 0
    ∙ zero_row (version_row S) x (replicate (version_words S) 0) (zeros (version_words S)) (1 + j)

-- ---- fresh tables
module _ (S : Sizes) (room : 1 ≤ S.places) where
  txn-free : (s : ℕ) → txn (fresh S).txns s ≡ no_txn
  unfolding fresh txn
  txn-free s =
      let n = txn_words S in
      λ i.
      record {
        number = zeros n (txn_at s) i;
        kind = zeros n (txn_at s + 1) i;
        start = zeros n (txn_at s + 2) i;
        awaited_lock = zeros n (txn_at s + 3) i;
        awaited_item = zeros n (txn_at s + 4) i;
        rank = zeros n (txn_at s + 5) i;
        read_count = zeros n (txn_at s + 6) i;
        weight_sum = zeros n (txn_at s + 7) i;
        items_read = zeros n (txn_at s + 8) i;
        later_for = zeros n (txn_at s + 9) i;
      }

  not_live : (s : ℕ) → T (live (txn (fresh S).txns s)) → ⊥
  not_live s h = live-number (txn (fresh S).txns s) h (ap (λ (r : Txn). r.number) (txn-free s))

  not_reader : (s : ℕ) → T (is_reader (txn (fresh S).txns s)) → ⊥
  not_reader s h = not_live s (reader-live (txn (fresh S).txns s) h).0

  not_settled : (s : ℕ) → T (live_settled (txn (fresh S).txns s)) → ⊥
  not_settled s h = not_live s (settled-live (txn (fresh S).txns s) h).0

  lock-free : (x : ℕ) → lock (fresh S).locks x ≡ record { shared = 0; exclusive = 0; working = 0 }
  unfolding fresh lock
  lock-free x =
      let n = lock_words S in
      λ i. record { shared = zeros n (lock_row * x) i; exclusive = zeros n (lock_row * x + 1) i; working = zeros n (lock_row * x + 2) i }

  free-lock : GoodLock S (fresh S).txns (record { shared = 0; exclusive = 0; working = 0 })
  unfolding holds holds_shared holds_exclusive
  free-lock =
      record {
        sharers = λ s h. absurd (false_is (bit_none s) h);
        excluders = λ s h. absurd (false_is (eqb-zero-suc s) h);
        never_both = inl refl;
        no_working = λ e. refl;
      }

  no_holder : (x s : ℕ) → T (holds (lock (fresh S).locks x) s) → ⊥
  unfolding holds holds_shared holds_exclusive
  no_holder x s h =
      ⊎_elim (λ k. false_is (bit_none s) k) (λ k. false_is (eqb-zero-suc s) k)
      (or_cases (bit 0 s) _ (subst (λ (o : Lock). T (holds o s)) (lock-free x) h))

  -- a row of words that are zero behind its count of 1
  module _ (ws : List ℕ) (z : (j : ℕ) → get_or ws j 0 ≡ 0) where
    behind : (k : ℕ) → 0 < k → get_or (1 ∷ ws) k 0 ≡ 0
    behind zero l = absurd (not-suc-le-zero l)
    behind (suc k) l = z k

    -- its one version is hidden from nobody
    shown : (k : ℕ) → hidden_at (versions_in S (1 ∷ ws)) k ≡ 0
    unfolding versions_in versions_from hidden_at
    shown zero = get_or-drop (masks_at S) (1 ∷ ws) 0 0 ∙ behind (masks_at S + 0) (omega arith)
    shown (suc k) = refl

    first-row : GoodVersions S (fresh S).txns (1 ∷ ws)
    unfolding versions_in versions_from stamp_at
    first-row =
        record {
          count_least = omega arith;
          count_most = room;
          unused = λ k l m. behind k (omega arith);
          unhidden = λ k l. behind (masks_at S + k) (omega arith);
          fall = λ i j l h. absurd (omega arith);
          nest = λ i j l h. absurd (omega arith);
          from_relaxed = λ k q b. absurd (false_is (bit_none q) (subst (λ (m : ℕ). T (bit m q)) (shown k) b));
          first = let a = z 0 in omega arith;
          last = λ s i q. absurd (not_reader s q);
          reads = λ k p. (λ h. absurd (omega arith), λ m. absurd (not_reader m.0 m.2));
        }

  -- nobody waits
  no_wait : (s : ℕ) → T (awaits (txn (fresh S).txns s)) → ⊥
  no_wait s w = awaits→ (txn (fresh S).txns s) w (ap (λ (r : Txn). r.awaited_lock) (txn-free s))

  no_link : (a b : ℕ) → T (waits_for (fresh S).txns (fresh S).locks a b) → ⊥
  no_link a b e = (waits-for→ (fresh S).txns (fresh S).locks a b e).0 (ap (λ (r : Txn). r.awaited_lock) (txn-free a))

  no_walk : {a b : ℕ} → Walk (waits_for (fresh S).txns (fresh S).locks) a b → ⊥
  no_walk (one {a} {b} e) = no_link a b e
  no_walk (more {a} {b} {c} w e) = no_link b c e

  pub fresh-good : Good S (fresh S)
  unfolding fresh
  fresh-good =
      record {
        txns_exact = length-zeros (txn_words S);
        locks_exact = length-zeros (lock_words S);
        versions_exact = length-with_counts S (replicate (version_words S) 0) (length-zeros (version_words S));
        last_most = let a = zeros (txn_words S) 0 in omega arith;
        clock_most = let a = zeros (txn_words S) 1 in omega arith;
        txn_good = λ s i. subst (λ (r : Txn). GoodTxn S (fresh S).txns (fresh S).locks s r) (sym (txn-free s)) (free-row S (fresh S).txns (fresh S).locks s);
        distinct = λ r s i j d h. absurd (not_live s h);
        lock_good = λ x i. subst (λ (h : Lock). GoodLock S (fresh S).txns h) (sym (lock-free x)) free-lock;
        quota_good = λ s i. subst (λ (r : Txn). GoodQuota S (fresh S).locks s r) (sym (txn-free s)) (free_quota S (fresh S).locks s);
        versions_good = λ x i. subst (λ (r : List ℕ). GoodVersions S (fresh S).txns r) (sym (fresh-row S x i)) (first-row (behind_count S x) (fresh_row_zero S x));
        ranks_good =
            record {
              least = λ s i w. absurd (no_wait s w);
              most = λ s i w. absurd (no_wait s w);
              apart = λ x r s i j d a b. absurd (no_wait r (awaits_on→ x (txn (fresh S).txns r) a).0);
              exchangers = λ x r s i j a b c n. absurd (no_wait r (awaits_on→ x (txn (fresh S).txns r) a).0);
            };
        settled_good = record { apart = λ r s i j d a b. absurd (not_settled r a); above = λ s x i j a b. absurd (not_settled s a) };
        sets_good =
            record {
              apart = λ r s i j a b. not_settled r a;
              of_relaxed = λ s q i b. absurd (false_is (bit_none q) (subst (λ (r : Txn). T (bit r.later_for q)) (txn-free s) b));
              holds_read = λ x s q i j e b. absurd (false_is (bit_none x) (subst (λ (r : Txn). T (bit r.items_read x)) (txn-free q) b));
              holds_hidden = λ x s q i h b. absurd (no_holder x s h);
            };
        no_circle = λ a w. no_walk w;
      }
