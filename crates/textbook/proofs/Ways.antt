-- Every way that a call can go is a turn of the view with stamps for values.
use Prim.Native.Nat.{ℕ, ◌+◌, ◌≤◌, ◌<◌}
use mathlib.Core.Path.{◌≡◌, refl, sym, ap, ◌∙◌, subst}
use mathlib.Core.Logic.{◌≢◌}
use mathlib.Core.Bool.{false, cond}
use mathlib.Core.List.{List}
use native.Mathlib.Omega.{arith}
use lib.Dec.{T, eqb-zero-suc}
use Rattle.names.specs.declared.Sizes.{Sizes}
use Rattle.rules.specs.Tables.{Tables, clock, txn, live, an_update, a_settled, Reader, reader_in, Lock, lock, holds_exclusive}
use Rattle.rules.specs.Versions.{versions_of, stamp_at, place, choice}
use Rattle.rules.specs.Good.{Good}
use Rattle.rules.specs.Answers.{Call, Outcome, Deed}
use Rattle.rules.specs.Step.{begun, shared_too, locked, locked_anew, version_read, committed, settled_committed, ended, aborted, settled_aborted, settled, done, step}
use Rattle.rules.specs.Conditions.{Caller}
use Rattle.rules.proofs.Tests.{is_true, is_false}
use Rattle.rules.proofs.Views.{lock-set_lock}
use Rattle.rules.proofs.RowKinds.{update-live, settled-live, reader-live, reads_up_to, reads-outside}
use Rattle.rules.proofs.Callers.{caller-found}
use Rattle.rules.proofs.Decisions.{never_both_lem}
use Rattle.rules.proofs.Keeps.{keeps}
use Rattle.rules.proofs.Ways.{Way, refused, waited, kept_waiting, began_update, began_query, began_relaxed, read_own, read_newest, read_shared, read_settled, read_version}
use Rattle.rules.proofs.Ways.{wrote_own, wrote_settled, wrote_taken, committed_update, committed_empty, committed_settled, committed_query, aborted_update, aborted_settled, aborted_query, settled_update}
use Rattle.history.specs.Happened.{Happening, update_committed, SoFar, happened}
use Rattle.history.proofs.Invariant.{update}
use Rattle.history.proofs.Turns.{Turn}
use Rattle.history.proofs.Marked.{Known}
use Rattle.history.proofs.Seen.{seen}
use Rattle.history.proofs.Happens.{silent, grants, plainly, commits_as, happens}
use Rattle.textbook.specs.Marks.{source, looked_up}
use Rattle.textbook.proofs.Steps.{by_way}
use Rattle.textbook.proofs.Stamps.{top_stamp, stamp_up_to, stamp_outside, Trims, Adds, ended_trims, dropped_trims, past_adds, commit_adds}
use Rattle.textbook.proofs.Traced.{stamp_from, retold, traced, Finds, Stamped, retrace}

-- the stamps that st foretells are those of the commits
abbrev pub Foretells : (ℕ → ℕ) → Happening → Type 0
Foretells st h = (n k : ℕ) → h ≡ update_committed n k → st n ≡ k

-- nobody holds it exclusively
pub not_held : (h : Lock) (r : ℕ) → h.exclusive ≡ 0 → holds_exclusive h r ≡ false
unfolding holds_exclusive
not_held h r e = rw (e, eqb-zero-suc r)

module _ (S : Sizes) (enough : S.slots ≤ S.places) (st : ℕ → ℕ) (G : Tables) (g : Good S G) where
  abbrev t : List ℕ
  t = G.txns

  -- whoever bears the number is the caller
  one : (n s r : ℕ) → Caller S G n s → ((r < S.slots) × T (live (txn G.txns r))) × ((txn G.txns r).number ≡ n) → s ≡ r
  one n s r C a =
      sym (caller-found S G g s n C.inside C.alive C.name) ∙ caller-found S G g r n a.0.0 a.0.1 a.1

  -- ---- what is found by a read
  module _ (n s x : ℕ) (C : Caller S G n s) where
    found-by :
        {G' : Tables} (g' : Good S G') (d : ℕ) → Finds S st G G' g g' n s x d → (r : ℕ) → ((r < S.slots) × T (live (txn G.txns r))) × ((txn G.txns r).number ≡ n) → Finds S st G G' g g' n r x d
    found-by {G'} g' d F r a = subst (λ (m : ℕ). Finds S st G G' g g' n m x d) (one n s r C a) F

    -- an update that still writes
    locked_finds : {G' : Tables} (g' : Good S G') (d : ℕ) → (txn G.txns s).kind ≡ an_update → d ≡ cond (holds_exclusive (lock G'.locks x) s) (st n) (top_stamp S G'.versions x) → Finds S st G G' g g' n s x d
    locked_finds g' d k e =
        record {
          shared = λ u. e;
          own = λ u w. absurd (let z = u.1 in omega arith);
          start = λ u w. absurd (u.1 k);
          set = λ u. absurd (let z = u.1 in omega arith);
        }

    own_finds : {G' : Tables} (g' : Good S G') → (txn G.txns s).kind ≡ a_settled → T (holds_exclusive (lock G.locks x) s) → Finds S st G G' g g' n s x (st n)
    own_finds g' k h =
        record {
          shared = λ u. absurd (let z = u.1 in omega arith);
          own = λ u w. refl;
          start = λ u w. absurd (w (u.0, k) h);
          set = λ u. absurd (let z = u.1 in omega arith);
        }

    version-finds :
        {G' : Tables} (g' : Good S G') → (txn G.txns s).kind ≢ an_update → (T (holds_exclusive (lock G.locks x) s) → ⊥)
        → Finds S st G G' g g' n s x (stamp_at (versions_of S G.versions x) (place (reader_in G.txns s) (versions_of S G.versions x)))
    unfolding stamp_at stamp_up_to stamp_outside choice
    version-finds g' k own =
        record {
          shared = λ u. absurd (k u.1);
          own = λ u w. absurd (own w);
          start = λ u w. ap at (reads_up_to t s u.2);
          set = λ u. ap at (reads-outside t s u.1);
        }
      where
        at : Reader → ℕ
        at q = stamp_at (versions_of S G.versions x) (place q (versions_of S G.versions x))

  way-stamped :
      (c : Call) (d : Deed) (w : Way S G c d) (g' : Good S (done S d G).after) → Foretells st (happens S enough G g c d w).what
      → Stamped S st G (done S d G).after g g' (happens S enough G g c d w).what (source S G c (done S d G).answer)
  unfolding happens silent grants plainly commits_as done version_read begun locked locked_anew aborted settled Stamped source looked_up stamp_from
  way-stamped c d (refused r m) g' f = refl
  way-stamped c d (waited r k x w) g' f = refl
  way-stamped c d (kept_waiting r C q) g' f = refl
  way-stamped c d (began_update r F l) g' f = refl
  way-stamped c d (began_query r F l) g' f = refl
  way-stamped c d (began_relaxed r F l a) g' f = refl
  way-stamped c d (read_own n s x U h) g' f =
      (refl, found-by n s x U.caller g' (st n) (locked_finds n s x U.caller g' (st n) (update-live (txn t s) U.update).1 (rw (is_true (holds_exclusive (lock G.locks x) s) h))))
  way-stamped c d (read_newest n s x U h) g' f = (
    refl,
    found-by n s x U.caller g' _
        (locked_finds n s x U.caller g' _ (update-live (txn t s) U.update).1
        (rw (is_false (holds_exclusive (lock G.locks x) s) (λ w. never_both_lem S G g x U.known s s w h)) (unfold top_stamp in refl))),
  )
  way-stamped c d (read_shared n s x U h e) g' f = (
    refl,
    found-by n s x U.caller g' _ (locked_finds n s x U.caller g' _ (update-live (txn t s) U.update).1
        (let z = ap (λ (o : Lock). holds_exclusive o s) (lock-set_lock G.locks x (shared_too (lock G.locks x) s) S g.locks_exact U.known) ∙ not_held (shared_too (lock G.locks x) s) s e in
        rw z (unfold top_stamp in refl))),
  )
  way-stamped c d (read_settled n s x C p i h) g' f = (refl, found-by n s x C g' (st n) (own_finds n s x C g' (settled-live (txn t s) p).1 h))
  way-stamped c d (read_version n s x C q i o e) g' f = (refl, found-by n s x C g' _ (version-finds n s x C g' (reader-live (txn t s) q).1 o))
  way-stamped c d (wrote_own n r x v U e) g' f = refl
  way-stamped c d (wrote_settled n r x v C p i e) g' f = refl
  way-stamped c d (wrote_taken n r x v U e a q) g' f = refl
  way-stamped c d (committed_update n s C u i l w) g' f =
      (f n _ refl, λ r a. subst (λ (m : ℕ). Adds S G (committed S s G) m (clock t + 1)) (one n s r C a) (commit_adds S enough G g s C.inside u))
  way-stamped c d (committed_empty n r C u i e) g' f = refl
  way-stamped c d (committed_settled n s C p) g' f =
      (f n _ refl, λ r a. subst (λ (m : ℕ). Adds S G (settled_committed S s G) m (txn t s).start) (one n s r C a) (past_adds S enough G g s C.inside p))
  way-stamped c d (committed_query n s C q) g' f = λ r a. subst (λ (m : ℕ). Trims S G (ended S s G) m) (one n s r C a) (ended_trims S enough G g s C.inside)
  way-stamped c d (aborted_update n s C u) g' f = λ r a. record { top = λ x i. refl; starts = λ r x q j h e i. refl }
  way-stamped c d (aborted_settled n s C p) g' f = λ r a. subst (λ (m : ℕ). Trims S G (settled_aborted S s G) m) (one n s r C a) (dropped_trims S enough G g s C.inside)
  way-stamped c d (aborted_query n s C q) g' f = λ r a. subst (λ (m : ℕ). Trims S G (ended S s G) m) (one n s r C a) (ended_trims S enough G g s C.inside)
  way-stamped c d (settled_update n s C u i l a) g' f = refl

  -- ---- a step
  abbrev Moved : Call → Happening → Outcome → Type 0
  Moved c h o =
      Good S o.after → Foretells st h → Turn S.items (traced S st G) (traced S st o.after) c (retold st h (source S G c o.answer))

  way-moved : (c : Call) (d : Deed) (w : Way S G c d) → Moved c (happens S enough G g c d w).what (done S d G)
  way-moved c d w g' f =
      retrace S st G (done S d G).after g g' (source S G c (done S d G).answer) (happens S enough G g c d w).turn (way-stamped c d w g' f)

  pub step-traced :
      (c : Call) (us : SoFar) → Known S.items us (seen S G) → Foretells st (happened us c (step S c G).answer)
      → Turn S.items (traced S st G) (traced S st (step S c G).after) c
      (retold st (happened us c (step S c G).answer) (source S G c (step S c G).answer))
  step-traced c us K f = by_way S enough G g Moved way-moved c us K (keeps S enough c G g) f
