-- "Every call on good tables leaves good tables.": every way of going.
use Prim.Native.Nat.{ℕ, ◌≤◌, ◌<◌}
use mathlib.Core.Path.{refl, sym, subst}
use mathlib.Core.Logic.{◌≢◌, inl, inr}
use mathlib.Core.List.{List}
use native.Mathlib.Omega.{arith}
use lib.Dec.{T}
use Rattle.names.specs.declared.Sizes.{Sizes}
use Rattle.names.specs.Sizes.{last_word}
use Rattle.rules.specs.Tables.{Tables, last_number, txn, live, shared_lock, exclusive_lock, lock, holds, holds_shared, holds_exclusive}
use Rattle.rules.specs.Good.{Good}
use Rattle.rules.specs.Answers.{Call, Outcome, Deed}
use Rattle.rules.specs.Step.{with_txns, act, judged, done, read_noted, version_read}
use Rattle.rules.specs.Changed.{looked_at}
use Rattle.rules.specs.Promises.{StaysGood}
use Rattle.rules.proofs.Tests.{or_right}
use Rattle.rules.proofs.Steps.{acts}
use Rattle.rules.proofs.Begins.{begun-good, updates, queries, relaxes}
use Rattle.rules.proofs.Waited.{only_this, waited-good, cleared-good}
use Rattle.rules.proofs.Grants.{in_sets_lem, relocked_good, locked-good, shared_too_lem, shared-others, shared_keeps, replaced_too, replaced-others, replaced-keeps, taken-good, taken-others, taken-keeps}
use Rattle.rules.proofs.Taken.{waits-joined-good, anew_good}
use Rattle.rules.proofs.QueryEnds.{ended-good}
use Rattle.rules.proofs.Ends.{aborted-good, committed-good, settled-commit-good, settled-abort-good}
use Rattle.rules.proofs.Settles.{settled-good}
use Rattle.rules.proofs.ReadNoted.{holder_inside, read_same, read-noted-good}
use Rattle.rules.proofs.Counting.{counted-good}
use Rattle.rules.proofs.RowKinds.{settled-reads}
use Rattle.rules.proofs.Changes.{past-unchanged, past-replaced}
use Rattle.rules.proofs.Judged.{way}
use Rattle.rules.proofs.Ways.{Way, refused, waited, began_update, began_query, began_relaxed, read_own, read_newest, read_shared, read_settled, read_version}
use Rattle.rules.proofs.Ways.{wrote_own, wrote_settled, wrote_taken, committed_update, committed_empty, committed_settled, committed_query, aborted_update, aborted_settled, aborted_query, settled_update, kept_waiting}

module _ (S : Sizes) (enough : S.slots ≤ S.places) (G : Tables) (g : Good S G) where
  abbrev t : List ℕ
  t = G.txns

  abbrev l : List ℕ
  l = G.locks

  -- a number is left
  more_left : last_number t ≢ last_word → last_number t < last_word
  more_left d = let m = g.last_most in omega arith

  -- who reads lives while its read is noted
  still_live : (s x : ℕ) → s < S.slots → x < S.items → T (live (txn t s)) → T (live (txn (read_noted t l s x) s))
  unfolding live
  still_live s x i j h = subst T (sym (read_same S t l s x g.txns_exact i (holder_inside S G g s i x j) live (λ r n w i m. refl) s)) h

  way-keeps : (c : Call) (d : Deed) → Way S G c d → Good S (done S d G).after
  unfolding done version_read
  way-keeps c d (refused r m) = g
  way-keeps c d (waited s k x w) =
      waits-joined-good S G g s k x w.caller.inside w.update
      (waited-good S G g s w.caller.inside w.update k x w.some w.may w.circle (λ h. (only_this t s k x w.free h).1))
  way-keeps c d (began_update s f n) = begun-good S G g _ _ s f.inside f.free (more_left n) (updates refl refl)
  way-keeps c d (began_query s f n) = begun-good S G g _ _ s f.inside f.free (more_left n) (queries refl refl)
  way-keeps c d (began_relaxed s f n a) = begun-good S G g _ _ s f.inside f.free (more_left n) (relaxes refl refl a)
  way-keeps c d (read_own n s x U h) = cleared-good S G g s U.caller.inside U.update
  way-keeps c d (read_newest n s x U h) = cleared-good S G g s U.caller.inside U.update
  way-keeps c d (read_shared n s x U h f) =
      anew_good S G g s shared_lock x U.caller.inside U.update U.known _
      (shared_too_lem S t (lock l x) (g.lock_good x U.known) s U.caller.inside U.update f)
      (shared-others S t (lock l x) (g.lock_good x U.known) s U.caller.inside U.update)
      (shared_keeps S t (lock l x) (g.lock_good x U.known) s U.caller.inside U.update)
      (λ k. inl (unfold holds_exclusive in k))
      (λ k. absurd (h (unfold holds in (or_right (holds_shared (lock l x) s) _ (unfold holds_exclusive in k)))))
  way-keeps c d (kept_waiting s C q) = g
  way-keeps c d (read_settled n s x C p i h) = subst (Good S) (sym (past-unchanged S G g s C.inside p)) g
  way-keeps c d (read_version n s x C q i o b) =
      counted-good S (with_txns G (read_noted t l s x)) (read-noted-good S G g s C.inside x i) s C.inside (still_live s x C.inside i C.alive) (looked_at S G s x)
  way-keeps c d (wrote_own n s x v U h) =
      locked-good S G g s x U.caller.inside U.update U.known _
      (replaced_too S t (lock l x) (g.lock_good x U.known) s v h)
      (λ r e. replaced-others (lock l x) v r)
      (λ r e. replaced-keeps (lock l x) v r)
      (λ k. inl h)
      (in_sets_lem S G g s x U.known _ (replaced-others (lock l x) v s))
  way-keeps c d (wrote_settled n s x v C p i h) =
      subst (Good S) (sym (past-replaced S G g s C.inside p x v))
      (relocked_good S G g s x i ((g.txn_good s C.inside).reader_idle (settled-reads (txn t s) p)) _
      (replaced_too S t (lock l x) (g.lock_good x i) s v h)
      (λ r e. replaced-others (lock l x) v r) (λ r e. replaced-keeps (lock l x) v r) C.inside (λ k. inl h) (λ a k. h)
      (in_sets_lem S G g s x i _ (replaced-others (lock l x) v s)))
  way-keeps c d (wrote_taken n s x v U h alone room) =
      anew_good S G g s exclusive_lock x U.caller.inside U.update U.known _
      (taken-good S t (lock l x) (g.lock_good x U.known) s U.caller.inside U.update alone v)
      (taken-others S t (lock l x) (g.lock_good x U.known) s U.caller.inside U.update alone v)
      (taken-keeps S t (lock l x) (g.lock_good x U.known) s U.caller.inside U.update alone v)
      (λ k. inr room)
      (λ k. refl)
  way-keeps c d (committed_update n s C u i m w) = committed-good S enough G g s C.inside u i m
  way-keeps c d (committed_empty n s C u i e) = aborted-good S enough G g s C.inside u
  way-keeps c d (committed_settled n s C p) = settled-commit-good S enough G g s C.inside p
  way-keeps c d (committed_query n s C q) = ended-good S enough G g s C.inside q
  way-keeps c d (aborted_update n s C u) = aborted-good S enough G g s C.inside u
  way-keeps c d (aborted_settled n s C p) = settled-abort-good S enough G g s C.inside p
  way-keeps c d (aborted_query n s C q) = ended-good S enough G g s C.inside q
  way-keeps c d (settled_update n s C u i m a) = settled-good S G g s C.inside u i m a

pub keeps : (S : Sizes) → S.slots ≤ S.places → StaysGood S
unfolding act
keeps S enough c G g =
    subst (λ (o : Outcome). Good S o.after) (sym (acts S c G g))
    (way-keeps S enough G g c (judged S c G) (way S G g c))
