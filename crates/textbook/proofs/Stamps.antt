-- The stamps of the versions that are newest, or that a reader reads, and what an end or a commit leaves of them.
use Prim.Native.Nat.{ℕ, ◌+◌, ◌≤◌, ◌<◌}
use mathlib.Core.Path.{◌≡◌, refl, ap, ◌∙◌, subst}
use mathlib.Core.Bool.{Bool, true, false, ◌&&◌, cond}
use mathlib.Core.List.{List, [], ◌∷◌, Memᴰ}
use native.Mathlib.Omega.{arith}
use lib.Dec.{T, leb}
use borrow.Author.Tests.{le-leb}
use Rattle.names.specs.declared.Sizes.{Sizes}
use Rattle.rules.specs.Words.{row}
use Rattle.rules.specs.Tables.{Tables, fresh, version_row, clock, txn, live_update, live_settled, by_start, Reader, up_to, outside, readers, lock, holds_exclusive}
use Rattle.rules.specs.Versions.{Version, versions_from, versions_in, versions_of, stamp_at, sees, place, choice, kept}
use Rattle.rules.specs.Good.{Good}
use Rattle.rules.specs.Step.{with_new, committed, settled_committed, settled_aborted, ended}
use Rattle.rules.proofs.Choice.{choice_hit, choice_miss}
use Rattle.rules.proofs.Trim.{kept-newest, kept-choice}
use Rattle.rules.proofs.Revealed.{stamp-revealed, choice-revealed}
use Rattle.rules.proofs.ChangedVersions.{ended-versions, settled-abort-versions, committed-readers, committed-versions, settled-commit-versions}
use Rattle.rules.proofs.Fresh.{fresh-row, fresh_row_zero}
use Rattle.history.proofs.Leaving.{start_in_lem}

-- the stamp of the newest version of item x; of the one that who reads up to q reads; of the one that the relaxed query in slot s reads
unfoldable pub top_stamp : Sizes → List ℕ → ℕ → ℕ
top_stamp S v x = stamp_at (versions_of S v x) 0

unfoldable pub stamp_up_to : Sizes → List ℕ → ℕ → ℕ → ℕ
stamp_up_to S v q x = (choice (up_to q) (versions_of S v x)).stamp

unfoldable pub stamp_outside : Sizes → List ℕ → ℕ → ℕ → ℕ
stamp_outside S v s x = (choice (outside s) (versions_of S v x)).stamp

-- one whose start is the clock, or later, reads the newest version
first_read : (q : ℕ) (vs : List Version) → stamp_at vs 0 ≤ q → (choice (up_to q) vs).stamp ≡ stamp_at vs 0
unfolding stamp_at
first_read q [] h = unfold choice place in refl
first_read q (v ∷ vs) h = ap (λ (w : Version). w.stamp) (choice_hit (up_to q) v vs (unfold sees in le-leb v.stamp q h))

pub reads-top : (S : Sizes) (G : Tables) → Good S G → (q : ℕ) → clock G.txns ≤ q → (x : ℕ) → x < S.items → stamp_up_to S G.versions q x ≡ top_stamp S G.versions x
unfolding stamp_up_to top_stamp versions_of
reads-top S G g q l x i =
    first_read q (versions_in S (row (version_row S) x G.versions)) (let a = (g.versions_good x i).first in omega arith)

-- no version has been put
pub fresh-top : (S : Sizes) (x : ℕ) → x < S.items → top_stamp S (fresh S).versions x ≡ 0
unfolding top_stamp stamp_at versions_of versions_in versions_from
fresh-top S x i = ap (λ (r : List ℕ). stamp_at (versions_in S r) 0) (fresh-row S x i) ∙ fresh_row_zero S x 0

-- ---- the versions afterwards are what is kept of us for the readers qs
module _ (S : Sizes) (v : List ℕ) (x : ℕ) (qs : List Reader) (us : List Version) (e : versions_of S v x ≡ kept qs us) where
  top_kept : top_stamp S v x ≡ stamp_at us 0
  unfolding top_stamp
  top_kept = ap (λ (vs : List Version). stamp_at vs 0) e ∙ kept-newest qs us

  up_kept : (q : ℕ) → Memᴰ (up_to q) qs → stamp_up_to S v q x ≡ (choice (up_to q) us).stamp
  unfolding stamp_up_to
  up_kept q m = ap (λ (vs : List Version). (choice (up_to q) vs).stamp) e ∙ ap (λ (w : Version). w.stamp) (kept-choice qs us (up_to q) m)

-- ---- a new version in front is the newest, and is read by the starts from its stamp on
new_top : (b : Bool) (w : Version) (vs : List Version) → stamp_at (cond b (w ∷ vs) vs) 0 ≡ cond b w.stamp (stamp_at vs 0)
unfolding stamp_at
new_top true w vs = refl
new_top false w vs = refl

new_choice :
    (b : Bool) (q : ℕ) (w : Version) (vs : List Version)
    → (choice (up_to q) (cond b (w ∷ vs) vs)).stamp ≡ cond (b && leb w.stamp q) w.stamp (choice (up_to q) vs).stamp
new_choice false q w vs = refl
new_choice true q w vs = go (leb w.stamp q) refl
  where
    go : (c : Bool) → leb w.stamp q ≡ c → (choice (up_to q) (w ∷ vs)).stamp ≡ cond c w.stamp (choice (up_to q) vs).stamp
    go true e = ap (λ (o : Version). o.stamp) (choice_hit (up_to q) w vs (unfold sees in e))
    go false e = ap (λ (o : Version). o.stamp) (choice_miss (up_to q) w vs (unfold sees in e))

module _ (S : Sizes) (G : Tables) (s k m : ℕ) (v : List ℕ) (qs : List Reader) (x : ℕ) (e : versions_of S v x ≡ kept qs (with_new G.locks s k m x (versions_of S G.versions x))) where
  new_top_is : top_stamp S v x ≡ cond (holds_exclusive (lock G.locks x) s) k (top_stamp S G.versions x)
  unfolding with_new
  new_top_is = top_kept S v x qs _ e ∙ new_top (holds_exclusive (lock G.locks x) s) _ _ ∙ unfold top_stamp in refl

  new-up-is :
      (q : ℕ) → Memᴰ (up_to q) qs
      → stamp_up_to S v q x ≡ cond (holds_exclusive (lock G.locks x) s && leb k q) k (stamp_up_to S G.versions q x)
  unfolding with_new
  new-up-is q i = up_kept S v x qs _ e q i ∙ new_choice (holds_exclusive (lock G.locks x) s) q _ _ ∙ unfold stamp_up_to in refl

-- ---- what a call in slot s leaves of the stamps of G, in G': all as they were; or the version with the stamp k in front, where s held the item
module _ (S : Sizes) (G G' : Tables) (s : ℕ) where
  pub record Trims : Type 0 where
    pub top : (x : ℕ) → x < S.items → top_stamp S G'.versions x ≡ top_stamp S G.versions x
    pub starts :
        (r x q : ℕ) → r < S.slots → T (by_start (txn G'.txns r)) → (txn G'.txns r).start ≡ q → x < S.items
        → stamp_up_to S G'.versions q x ≡ stamp_up_to S G.versions q x

  pub record Adds (k : ℕ) : Type 0 where
    pub top : (x : ℕ) → x < S.items → top_stamp S G'.versions x ≡ cond (holds_exclusive (lock G.locks x) s) k (top_stamp S G.versions x)
    pub starts :
        (r x q : ℕ) → r < S.slots → T (by_start (txn G'.txns r)) → (txn G'.txns r).start ≡ q → x < S.items
        → stamp_up_to S G'.versions q x ≡ cond (holds_exclusive (lock G.locks x) s && leb k q) k (stamp_up_to S G.versions q x)

module _ (S : Sizes) (enough : S.slots ≤ S.places) (G : Tables) (g : Good S G) (s : ℕ) (inside : s < S.slots) where
  in_start : (t : List ℕ) (r q : ℕ) → r < S.slots → T (by_start (txn t r)) → (txn t r).start ≡ q → Memᴰ (up_to q) (readers S t)
  in_start t r q i h e = subst (λ (o : ℕ). Memᴰ (up_to o) (readers S t)) e (start_in_lem S t r i h)

  pub ended_trims : Trims S G (ended S s G) s
  unfolding stamp_up_to top_stamp
  ended_trims =
      record {
        top = λ x i. top_kept S (ended S s G).versions x _ _ (ended-versions S G g enough s inside x i) ∙ stamp-revealed s (versions_of S G.versions x) 0;
        starts = λ r x q j h e i.
            up_kept S (ended S s G).versions x _ _ (ended-versions S G g enough s inside x i) q (in_start (ended S s G).txns r q j h e)
            ∙ ap (λ (w : Version). w.stamp) (choice-revealed s (up_to q) tt (versions_of S G.versions x));
      }

  pub dropped_trims : Trims S G (settled_aborted S s G) s
  unfolding stamp_up_to top_stamp
  dropped_trims =
      record {
        top = λ x i. top_kept S (settled_aborted S s G).versions x _ _ (settled-abort-versions S G g enough s inside x i);
        starts = λ r x q j h e i.
            up_kept S (settled_aborted S s G).versions x _ _ (settled-abort-versions S G g enough s inside x i) q (in_start (settled_aborted S s G).txns r q j h e);
      }

  pub past_adds : T (live_settled (txn G.txns s)) → Adds S G (settled_committed S s G) s (txn G.txns s).start
  past_adds k =
      record {
        top = λ x i. new_top_is S G s _ 0 (settled_committed S s G).versions _ x (settled-commit-versions S G g enough s inside k x i);
        starts = λ r x q j h e i.
            new-up-is S G s _ 0 (settled_committed S s G).versions _ x (settled-commit-versions S G g enough s inside k x i) q
            (in_start (settled_committed S s G).txns r q j h e);
      }

  pub commit_adds : T (live_update (txn G.txns s)) → Adds S G (committed S s G) s (clock G.txns + 1)
  commit_adds k =
      record {
        top = λ x i. new_top_is S G s _ _ (committed S s G).versions _ x (committed-versions S G g enough s inside k x i);
        starts = λ r x q j h e i.
            new-up-is S G s _ _ (committed S s G).versions _ x (committed-versions S G g enough s inside k x i) q
            (subst (λ (qs : List Reader). Memᴰ (up_to q) qs) (committed-readers S G g enough s inside k) (in_start (committed S s G).txns r q j h e));
      }
