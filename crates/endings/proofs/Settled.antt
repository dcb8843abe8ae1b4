-- One past its writing commits: once it left as a reader, the tables can be committed to, and what comes of that is what comes of
-- committing to the tables as they were.
use Prim.Native.Nat.{ℕ, ◌<◌}
use mathlib.Core.Path.{◌≡◌, refl, ap, ◌∙◌, subst}
use mathlib.Core.Bool.{Bool, true, false}
use mathlib.Core.List.{List}
use native.Mathlib.Omega.{arith}
use lib.ListN.{length}
use lib.Dec.{T}
use Rattle.names.specs.Sizes.{base}
use Rattle.rules.specs.Words.{bit}
use Rattle.rules.specs.Tables.{Tables, txn, set_txn, no_txn, Reader, readers, relaxed_in, live_settled, lock, holds, holds_shared, holds_exclusive}
use Rattle.rules.specs.Versions.{Version, versions_of, stamp_at, hidden_at, hidden_now, kept, rewritten}
use Rattle.rules.specs.Good.{Good}
use Rattle.rules.specs.Step.{with_new, settled_aborted}
use Rattle.rules.proofs.Tests.{true_is, or_right}
use Rattle.rules.proofs.Trim.{kept_top, kept-newest, kept_fixed, kept_read}
use Rattle.rules.proofs.Leaving.{over, new_over_kept}
use Rattle.rules.proofs.Rewrites.{rewritten_twice, versions-rewritten}
use Rattle.rules.proofs.ChangedVersions.{left-readers}
use Rattle.rules.proofs.Ends.{settled-abort-good}
use Rattle.starts.specs.Starts.{starts}
use Rattle.starts.specs.Beside.{Beside}
use Rattle.starts.proofs.Split.{readers-split}
use Rattle.rewrites.specs.Written.{Committable, Reading}
use Rattle.rewrites.proofs.Handed.{good-commits, good-reading}
use Rattle.endings.specs.Asked.{Gone}

module _ (G : Tables) (g : Good base G) (s : ℕ) (inside : s < base.slots) (past : T (live_settled (txn G.txns s))) where
  abbrev gone : List ℕ
  gone = set_txn G.txns s no_txn

  abbrev left : List Reader
  left = readers base gone

  abbrev stamp : ℕ
  stamp = (txn G.txns s).start

  abbrev sets : ℕ
  sets = (txn G.txns s).later_for

  abbrev trimmed : List ℕ
  trimmed = rewritten base left (λ x vs. vs) G.versions

  few : length (readers base (set_txn G.txns s no_txn)) < base.places
  few = let a = left-readers base G.txns g.txns_exact s inside in omega arith

  -- its stamp is above the versions of what it holds, before and after
  newer : (x : ℕ) → x < base.items → T (holds_exclusive (lock G.locks x) s) → stamp_at (versions_of base G.versions x) 0 < (txn G.txns s).start
  newer x i h = g.settled_good.above s x inside i past h

  -- and it is in the sets from which they are hidden
  joins :
      (x : ℕ) → x < base.items → T (holds_exclusive (lock G.locks x) s)
      → (i : ℕ) → T (bit (hidden_at (versions_of base G.versions x) 0) i) → T (bit (txn G.txns s).later_for i)
  unfolding hidden_now holds
  joins x k h i b = g.sets_good.holds_hidden x s i k (or_right (holds_shared (lock G.locks x) s) _ h) b

  -- no relaxed query lives beside it, so that it is in no set
  known : (i : ℕ) → T (bit (txn G.txns s).later_for i) → T (bit (relaxed_in base gone) i)
  known i b = let k = g.sets_good.of_relaxed s i inside b in absurd (g.sets_good.apart s i inside k.0 past k.1)

  first : (x : ℕ) → x < base.items → versions_of base trimmed x ≡ kept left (versions_of base G.versions x)
  first x i = versions-rewritten base left (λ x vs. vs) G.versions few g.versions_exact x i

  still : (x : ℕ) → x < base.items → stamp_at (versions_of base trimmed x) 0 ≡ stamp_at (versions_of base G.versions x) 0
  still x i = ap (λ (vs : List Version). stamp_at vs 0) (first x i) ∙ kept-newest left (versions_of base G.versions x)

  hides : (x : ℕ) → x < base.items → hidden_at (versions_of base trimmed x) 0 ≡ hidden_at (versions_of base G.versions x) 0
  unfolding hidden_at
  hides x i =
      ap (λ (vs : List Version). hidden_at vs 0) (first x i)
      ∙ ap (λ (v : Version). v.hidden) (kept_top left (versions_of base G.versions x))

  module _
      (below next : ℕ) (b : Beside (starts base (set_txn G.txns s no_txn)) (txn G.txns s).start below next)
    where
      settled-commits :
          Committable (rewritten base (readers base (set_txn G.txns s no_txn)) (λ x vs. vs) G.versions) G.locks s (txn G.txns s).start (txn G.txns s).later_for below
      unfolding settled_aborted
      settled-commits =
          good-commits (settled_aborted base s G) (settled-abort-good base (omega arith) G g s inside past) left refl (starts base gone) (relaxed_in base gone) (readers-split base gone) few stamp sets below next b known
          G.locks g.locks_exact s inside (λ x i h. let e = still x i in let m = newer x i h in omega arith)
          (λ x k h i d. joins x k h i (subst (λ (n : ℕ). T (bit n i)) (hides x k) d))

      settled-reading :
          Reading (rewritten base (readers base (set_txn G.txns s no_txn)) (λ x vs. vs) G.versions) (readers base (set_txn G.txns s no_txn)) (txn G.txns s).start (txn G.txns s).later_for below
      unfolding settled_aborted
      settled-reading =
          good-reading (settled_aborted base s G) (settled-abort-good base (omega arith) G g s inside past) left refl (starts base gone) (relaxed_in base gone) (readers-split base gone) few stamp sets below next b known

  -- what was trimmed first makes no difference
  twice :
      rewritten base (readers base (set_txn G.txns s no_txn)) (with_new G.locks s (txn G.txns s).start (txn G.txns s).later_for)
      (rewritten base (readers base (set_txn G.txns s no_txn)) (λ x vs. vs) G.versions)
      ≡ rewritten base (readers base (set_txn G.txns s no_txn)) (with_new G.locks s (txn G.txns s).start (txn G.txns s).later_for) G.versions
  unfolding with_new
  twice =
      rewritten_twice base left (with_new G.locks s stamp sets) G.versions few g.versions_exact
      (λ x i. go x i (holds_exclusive (lock G.locks x) s) refl)
    where
      go :
          (x : ℕ) → x < base.items → (h : Bool) → holds_exclusive (lock G.locks x) s ≡ h
          → kept left (with_new G.locks s stamp sets x (kept left (versions_of base G.versions x)))
          ≡ kept left (with_new G.locks s stamp sets x (versions_of base G.versions x))
      go x i true e =
          let new : Version = record { stamp = stamp; value = (lock G.locks x).working; hidden = sets } in
          rw e (new_over_kept left new (versions_of base G.versions x) (over new (versions_of base G.versions x) (newer x i (true_is e)) (joins x i (true_is e))))
      go x i false e = rw e (kept_fixed left (kept left (versions_of base G.versions x)) (kept_read left (versions_of base G.versions x)))

  -- once it left: what can be committed to, for whom, and what comes of that
  module _ {t' v' : List ℕ} {q below next m : ℕ} (k : Gone G.txns G.versions s t' v' q below next) (e : m ≡ (txn G.txns s).later_for) where
    beside : Beside (starts base gone) stamp below next
    beside = subst (λ (n : ℕ). Beside (starts base gone) n below next) k.was k.beside

    pub gone-commits : Committable v' G.locks s q m below
    gone-commits = rw (k.versions, k.was, e) (settled-commits below next beside)

    pub gone-reading : Reading v' (readers base (set_txn G.txns s no_txn)) q m below
    gone-reading = rw (k.versions, k.was, e) (settled-reading below next beside)

    pub gone-committed :
        {w : List ℕ} → w ≡ rewritten base (readers base (set_txn G.txns s no_txn)) (with_new G.locks s q m) v'
        → w ≡ rewritten base (readers base (set_txn G.txns s no_txn)) (with_new G.locks s q m) G.versions
    gone-committed h = h ∙ rw (k.versions, k.was, e) twice
