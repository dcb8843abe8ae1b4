-- What the keeper knows once the tables are tested: that they are good, or not; and that a judged deed can be done.
use mathlib.Core.Path.{◌≡◌, sym, ap, ◌∙◌, subst}
use mathlib.Core.Bool.{Bool, true, false, not}
use borrow.Author.Tests.{not-true, not-false}
use Rattle.names.specs.Sizes.{base}
use Rattle.rules.specs.Tables.{Tables}
use Rattle.rules.specs.Good.{Good}
use Rattle.rules.specs.Tested.{good}
use Rattle.rules.specs.Answers.{Call, Deed, Outcome}
use Rattle.rules.specs.Step.{judged, done, act, step}
use Rattle.rules.proofs.Tests.{true_is}
use Rattle.rules.proofs.Equal.{good→Good}
use Rattle.rules.proofs.Steps.{acts}
use Rattle.rules.proofs.Judged.{way}
use Rattle.rules.proofs.Ways.{Way, refused, waited, kept_waiting, began_update, began_query, began_relaxed, read_own, read_newest, read_shared, read_settled, read_version}
use Rattle.rules.proofs.Ways.{wrote_own, wrote_settled, wrote_taken, committed_update, committed_empty, committed_settled, committed_query, aborted_update, aborted_settled, aborted_query, settled_update}
use Rattle.done.specs.Able.{Able}

-- the test of all tables passed, or not
pub admitted : (G : Tables) (r : Bool) → r ≡ good base G → not r ≡ false → Good base G
admitted G r e h = good→Good base G (true_is (sym e ∙ not-false r h))

pub turned_away : (G : Tables) (r : Bool) → r ≡ good base G → not r ≡ true → good base G ≡ false
turned_away G r e h = sym e ∙ not-true r h

-- every way leads to a deed that can be done
way_able : (G : Tables) (c : Call) (d : Deed) → Way base G c d → Able G d
way_able G c d (refused r m) = tt
way_able G c d (kept_waiting s C b) = tt
way_able G c d (waited s k x w) = (w.caller.inside, w.may.known w.some)
way_able G c d (began_update s f l) = f.inside
way_able G c d (began_query s f l) = f.inside
way_able G c d (began_relaxed s f l n) = f.inside
way_able G c d (read_own n s x U h) = (U.caller.inside, U.known)
way_able G c d (read_newest n s x U h) = (U.caller.inside, U.known)
way_able G c d (read_shared n s x U h f) = (U.caller.inside, U.known)
way_able G c d (read_settled n s x C p i h) = (C.inside, i)
way_able G c d (read_version n s x C b i h f) = (C.inside, i, b)
way_able G c d (wrote_own n s x v U h) = (U.caller.inside, U.known)
way_able G c d (wrote_settled n s x v C p i h) = (C.inside, i)
way_able G c d (wrote_taken n s x v U h f r) = (U.caller.inside, U.known)
way_able G c d (committed_update n s C u i l w) = (C.inside, u)
way_able G c d (committed_empty n s C u i e) = C.inside
way_able G c d (committed_settled n s C p) = (C.inside, p)
way_able G c d (committed_query n s C q) = (C.inside, q)
way_able G c d (aborted_update n s C u) = C.inside
way_able G c d (aborted_settled n s C p) = (C.inside, p)
way_able G c d (aborted_query n s C q) = (C.inside, q)
way_able G c d (settled_update n s C u i l r) = C.inside

pub judged_able : (G : Tables) → Good base G → (c : Call) {d : Deed} → d ≡ judged base c G → Able G d
judged_able G g c {d} e = subst (Able G) (sym e) (way_able G c (judged base c G) (way base G g c))

-- what is done of the judged deed is the step
pub judged-done : (G : Tables) → Good base G → (c : Call) {d : Deed} {o : Outcome} → d ≡ judged base c G → o ≡ done base d G → o ≡ step base c G
unfolding act
judged-done G g c {d} {o} e f =
    f ∙ ap (λ (d : Deed). done base d G) e ∙ sym (acts base c G g)
