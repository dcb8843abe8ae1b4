-- Laws of tables that belong to the crate `rules`: what a start reads, and what the end, the commit or the settle of a transaction leaves.
use Prim.Native.Nat.{ℕ, ◌+◌, ◌≤◌, ◌<◌}
use mathlib.Core.Path.{◌≡◌, refl, ap, ◌∙◌, subst}
use mathlib.Core.Logic.{◌≢◌}
use mathlib.Core.Bool.{Bool, true, false, ◌&&◌, cond}
use mathlib.Core.List.{List, [], ◌∷◌, Memᴰ}
use native.Mathlib.Omega.{arith}
use lib.ListN.{length, get_or, set, length-set}
use lib.Seq.{get_or-set_same, get_or-set_other}
use lib.Dec.{T, leb}
use borrow.Author.Tests.{le-leb}
use Rattle.names.specs.declared.Sizes.{Sizes}
use Rattle.rules.specs.Words.{row}
use Rattle.rules.specs.Tables.{Tables, txn_words, version_row, last_number, clock, Txn, txn, set_txn, no_txn, new_txn, a_settled, by_start, Reader, up_to, outside, readers}
use Rattle.rules.specs.Tables.{lock, holds_exclusive}
use Rattle.rules.specs.Versions.{Version, no_version, versions_in, versions_of, stamp_at, newest, sees, place, choice, kept}
use Rattle.rules.specs.Waits.{closed_up}
use Rattle.rules.specs.Good.{Good}
use Rattle.rules.specs.Step.{with_new, committed_under, committed, settled_committed, aborted, settled_aborted, settled, forgotten, ended}
use Rattle.rules.proofs.Views.{last_number-set_txn, clock-set_txn, txn-set_txn, txn-set_txn-other, txn-top}
use Rattle.rules.proofs.Choice.{choice_hit, choice_miss}
use Rattle.rules.proofs.Trim.{kept_top, kept-choice}
use Rattle.rules.proofs.Revealed.{get_d_revealed, choice-revealed}
use Rattle.rules.proofs.Readers.{reader_in_lem}
use Rattle.rules.proofs.RowKinds.{start_not_relaxed, start-reads, reads_up_to}
use Rattle.rules.proofs.Notes.{beside_same}
use Rattle.rules.proofs.Joined.{forgotten-length, forgotten-last, forgotten-clock, forgotten-beside}
use Rattle.rules.proofs.Ready.{gone_there}
use Rattle.rules.proofs.ChangedVersions.{ended-versions, settled-abort-versions}
use Rattle.rules.proofs.Noting.{closed-length, closed-last, closed-clock}
use Rattle.history.proofs.Tables.{SameRow, closed_there}

-- ---- the value that a reader of start q reads of item x
unfoldable pub read_at : Sizes → List ℕ → ℕ → ℕ → ℕ
read_at S v q x = (choice (up_to q) (versions_of S v x)).value

-- and that which the relaxed query in slot s reads
unfoldable pub shown_of : Sizes → List ℕ → ℕ → ℕ → ℕ
shown_of S v s x = (choice (outside s) (versions_of S v x)).value

-- one whose start is at least the first stamp reads the first version
first_read : (q : ℕ) (vs : List Version) → stamp_at vs 0 ≤ q → choice (up_to q) vs ≡ get_or vs 0 no_version
unfolding stamp_at
first_read q [] h = unfold choice place in refl
first_read q (v ∷ vs) h = choice_hit (up_to q) v vs (unfold sees in le-leb v.stamp q h)

-- one whose start is the clock, or later, reads the newest value
pub reads-newest :
    (S : Sizes) (G : Tables) → Good S G → (q : ℕ) → clock G.txns ≤ q → (x : ℕ) → x < S.items
    → read_at S G.versions q x ≡ newest S G.versions x
unfolding read_at newest versions_of
reads-newest S G g q l x i =
    ap (λ (o : Version). o.value)
    (first_read q (versions_in S (row (version_row S) x G.versions)) (let a = (g.versions_good x i).first in omega arith))

-- ---- the versions afterwards are what is kept of us for the readers qs
module _ (S : Sizes) (v : List ℕ) (x : ℕ) (qs : List Reader) (us : List Version) (e : versions_of S v x ≡ kept qs us) where
  kept-newest : newest S v x ≡ (get_or us 0 no_version).value
  unfolding newest
  kept-newest = ap (λ (vs : List Version). (get_or vs 0 no_version).value) e ∙ ap (λ (w : Version). w.value) (kept_top qs us)

  kept-reads : (q : ℕ) → Memᴰ (up_to q) qs → read_at S v q x ≡ (choice (up_to q) us).value
  unfolding read_at
  kept-reads q m = ap (λ (vs : List Version). (choice (up_to q) vs).value) e ∙ ap (λ (w : Version). w.value) (kept-choice qs us (up_to q) m)

-- who reads by a start is one of the readers
pub start_in_lem : (S : Sizes) (t : List ℕ) (r : ℕ) → r < S.slots → T (by_start (txn t r)) → Memᴰ (up_to (txn t r).start) (readers S t)
start_in_lem S t r i h =
    subst (λ (o : Reader). Memᴰ o (readers S t)) (reads_up_to t r (start_not_relaxed (txn t r) h)) (reader_in_lem S t r i (start-reads (txn t r) h))

-- a new version in front is the newest, and is read by the starts from its stamp on
new_newest : (b : Bool) (w : Version) (vs : List Version) → (get_or (cond b (w ∷ vs) vs) 0 no_version).value ≡ cond b w.value (get_or vs 0 no_version).value
new_newest true w vs = refl
new_newest false w vs = refl

new_choice :
    (b : Bool) (q : ℕ) (w : Version) (vs : List Version)
    → (choice (up_to q) (cond b (w ∷ vs) vs)).value ≡ cond (b && leb w.stamp q) w.value (choice (up_to q) vs).value
new_choice false q w vs = refl
new_choice true q w vs = go (leb w.stamp q) refl
  where
    go : (c : Bool) → leb w.stamp q ≡ c → (choice (up_to q) (w ∷ vs)).value ≡ cond c w.value (choice (up_to q) vs).value
    go true e = ap (λ (o : Version). o.value) (choice_hit (up_to q) w vs (unfold sees in e))
    go false e = ap (λ (o : Version). o.value) (choice_miss (up_to q) w vs (unfold sees in e))

-- ---- a commit under the stamp c: the row of slot s goes, u has the others, and the new versions are kept for the readers qs
module _ (S : Sizes) (G : Tables) (g : Good S G) (s : ℕ) (inside : s < S.slots) (u : List ℕ) (size : length u ≡ txn_words S) (c : ℕ) where
  pub under_here : txn (committed_under S s c u G).txns s ≡ no_txn
  unfolding committed_under
  under_here = txn-set_txn u s no_txn S size inside

  pub under_there : ((r : ℕ) → r ≢ s → txn u r ≡ txn G.txns r) → (r : ℕ) → r ≢ s → txn (committed_under S s c u G).txns r ≡ txn G.txns r
  unfolding committed_under
  under_there same r d = txn-set_txn-other u s no_txn r d ∙ same r d

  module _
      (v : List ℕ) (m : ℕ) (qs : List Reader) (x : ℕ) (e : versions_of S v x ≡ kept qs (with_new G.locks s c m x (versions_of S G.versions x)))
    where
      pub under_newest : newest S v x ≡ cond (holds_exclusive (lock G.locks x) s) (lock G.locks x).working (newest S G.versions x)
      unfolding with_new newest
      under_newest = kept-newest S v x qs _ e ∙ new_newest (holds_exclusive (lock G.locks x) s) _ _

      pub under_reads :
          (q : ℕ) → Memᴰ (up_to q) qs
          → read_at S v q x
          ≡ cond (holds_exclusive (lock G.locks x) s && leb c q) (lock G.locks x).working (read_at S G.versions q x)
      unfolding with_new read_at
      under_reads q i = kept-reads S v x qs _ e q i ∙ new_choice (holds_exclusive (lock G.locks x) s) q _ _

-- ---- an update's abort
module _ (S : Sizes) (G : Tables) (g : Good S G) (s : ℕ) (inside : s < S.slots) where
  pub aborted_here : txn (aborted S s G).txns s ≡ no_txn
  unfolding aborted
  aborted_here = txn-set_txn (closed_up S G.txns s) s no_txn S (closed-length S G.txns s ∙ g.txns_exact) inside

  pub aborted_there : (r : ℕ) → r ≢ s → SameRow G.txns (aborted S s G).txns r
  unfolding aborted
  aborted_there r d =
      let c = closed_there S G.txns g.txns_exact s inside r in
      let e = txn-set_txn-other (closed_up S G.txns s) s no_txn r d in
      record {
        number_is = ap (λ (o : Txn). o.number) e ∙ c.number_is;
        kind_is = ap (λ (o : Txn). o.kind) e ∙ c.kind_is;
        start_is = ap (λ (o : Txn). o.start) e ∙ c.start_is;
      }

  pub aborted-last : last_number (aborted S s G).txns ≡ last_number G.txns
  unfolding aborted
  aborted-last = last_number-set_txn (closed_up S G.txns s) s no_txn ∙ closed-last S G.txns s

  pub aborted-clock : clock (aborted S s G).txns ≡ clock G.txns
  unfolding aborted
  aborted-clock = clock-set_txn (closed_up S G.txns s) s no_txn ∙ closed-clock S G.txns s

-- ---- the end of a query
module _ (S : Sizes) (enough : S.slots ≤ S.places) (G : Tables) (g : Good S G) (s : ℕ) (inside : s < S.slots) where
  abbrev u : List ℕ
  u = forgotten S s G.txns

  usize : length u ≡ txn_words S
  usize = forgotten-length S s G.txns ∙ g.txns_exact

  pub ended_here : txn (ended S s G).txns s ≡ no_txn
  unfolding ended
  ended_here = txn-set_txn u s no_txn S usize inside

  pub ended_there : (r : ℕ) → r ≢ s → SameRow G.txns (ended S s G).txns r
  unfolding ended
  ended_there r d =
      let b = gone_there S G.txns u s inside usize (λ r d. forgotten-beside S s G.txns g.txns_exact r) r d in
      record {
        number_is = beside_same (λ (o : Txn). o.number) (λ o n w i m. refl) (txn G.txns r) (txn (set_txn u s no_txn) r) b;
        kind_is = beside_same (λ (o : Txn). o.kind) (λ o n w i m. refl) (txn G.txns r) (txn (set_txn u s no_txn) r) b;
        start_is = beside_same (λ (o : Txn). o.start) (λ o n w i m. refl) (txn G.txns r) (txn (set_txn u s no_txn) r) b;
      }

  pub ended-last : last_number (ended S s G).txns ≡ last_number G.txns
  unfolding ended
  ended-last = last_number-set_txn u s no_txn ∙ forgotten-last S s G.txns

  pub ended-clock : clock (ended S s G).txns ≡ clock G.txns
  unfolding ended
  ended-clock = clock-set_txn u s no_txn ∙ forgotten-clock S s G.txns

  pub ended-newest : (x : ℕ) → x < S.items → newest S (ended S s G).versions x ≡ newest S G.versions x
  ended-newest x i =
      kept-newest S (ended S s G).versions x _ _ (ended-versions S G g enough s inside x i)
      ∙ ap (λ (w : Version). w.value) (get_d_revealed s (versions_of S G.versions x) 0) ∙ unfold newest in refl

  pub ended-reads :
      (r : ℕ) → r < S.slots → T (by_start (txn (ended S s G).txns r)) → r ≢ s → (x : ℕ) → x < S.items
      → read_at S (ended S s G).versions (txn G.txns r).start x ≡ read_at S G.versions (txn G.txns r).start x
  unfolding read_at
  ended-reads r j h d x i =
      let q = (txn G.txns r).start in
      let m : Memᴰ (up_to q) (readers S (ended S s G).txns) =
      subst (λ (o : ℕ). Memᴰ (up_to o) (readers S (ended S s G).txns)) (ended_there r d).start_is (start_in_lem S (ended S s G).txns r j h) in
      kept-reads S (ended S s G).versions x _ _ (ended-versions S G g enough s inside x i) q m
      ∙ ap (λ (w : Version). w.value) (choice-revealed s (up_to q) tt (versions_of S G.versions x))

-- ---- the end of one past its writing that is aborted
module _ (S : Sizes) (enough : S.slots ≤ S.places) (G : Tables) (g : Good S G) (s : ℕ) (inside : s < S.slots) where
  pub dropped_here : txn (settled_aborted S s G).txns s ≡ no_txn
  unfolding settled_aborted
  dropped_here = txn-set_txn G.txns s no_txn S g.txns_exact inside

  pub dropped_there : (r : ℕ) → r ≢ s → txn (settled_aborted S s G).txns r ≡ txn G.txns r
  unfolding settled_aborted
  dropped_there r d = txn-set_txn-other G.txns s no_txn r d

  pub dropped_last : last_number (settled_aborted S s G).txns ≡ last_number G.txns
  unfolding settled_aborted
  dropped_last = last_number-set_txn G.txns s no_txn

  pub dropped_clock : clock (settled_aborted S s G).txns ≡ clock G.txns
  unfolding settled_aborted
  dropped_clock = clock-set_txn G.txns s no_txn

  pub dropped_newest : (x : ℕ) → x < S.items → newest S (settled_aborted S s G).versions x ≡ newest S G.versions x
  dropped_newest x i = kept-newest S (settled_aborted S s G).versions x _ _ (settled-abort-versions S G g enough s inside x i) ∙ unfold newest in refl

  pub dropped_reads :
      (r : ℕ) → r < S.slots → T (by_start (txn (settled_aborted S s G).txns r)) → r ≢ s → (x : ℕ) → x < S.items
      → read_at S (settled_aborted S s G).versions (txn G.txns r).start x ≡ read_at S G.versions (txn G.txns r).start x
  unfolding read_at
  dropped_reads r j h d x i =
      let q = (txn G.txns r).start in
      let m : Memᴰ (up_to q) (readers S (settled_aborted S s G).txns) =
      subst (λ (o : Txn). Memᴰ (up_to o.start) (readers S (settled_aborted S s G).txns)) (dropped_there r d) (start_in_lem S (settled_aborted S s G).txns r j h) in
      kept-reads S (settled_aborted S s G).versions x _ _ (settled-abort-versions S G g enough s inside x i) q m

-- ---- the rows of one past its writing that commits
module _ (S : Sizes) (G : Tables) (g : Good S G) (s : ℕ) (inside : s < S.slots) where
  pub settled-commit-last : last_number (settled_committed S s G).txns ≡ last_number G.txns
  unfolding settled_committed committed_under
  settled-commit-last = last_number-set_txn G.txns s no_txn

  pub settled-commit-clock : clock (settled_committed S s G).txns ≡ clock G.txns
  unfolding settled_committed committed_under
  settled-commit-clock = clock-set_txn G.txns s no_txn

-- ---- the clock moves on by one: an update's commit, and a settle
module _ (S : Sizes) (G : Tables) (g : Good S G) (s : ℕ) (inside : s < S.slots) where
  abbrev c : ℕ
  c = clock G.txns + 1

  abbrev pub ticked : List ℕ
  ticked = set G.txns 1 c

  pub ticked_size : length ticked ≡ txn_words S
  ticked_size = length-set G.txns 1 c ∙ g.txns_exact

  pub ticked_rows : (r : ℕ) → r ≢ s → txn ticked r ≡ txn G.txns r
  ticked_rows r d = txn-top G.txns 1 c r (omega arith)

  ticked_last : last_number ticked ≡ last_number G.txns
  ticked_last = get_or-set_other G.txns 1 0 c 0 (omega arith)

  ticked_clock : clock ticked ≡ c
  ticked_clock = get_or-set_same G.txns 1 c 0 (omega (arith, g.txns_exact))

  pub committed-last : last_number (committed S s G).txns ≡ last_number G.txns
  unfolding committed committed_under
  committed-last = last_number-set_txn ticked s no_txn ∙ ticked_last

  pub committed-clock : clock (committed S s G).txns ≡ c
  unfolding committed committed_under
  committed-clock = clock-set_txn ticked s no_txn ∙ ticked_clock

  abbrev R : Txn
  R = new_txn (txn G.txns s).number a_settled c

  pub settled_here : txn (settled S s G).txns s ≡ R
  unfolding settled
  settled_here = txn-set_txn ticked s R S ticked_size inside

  pub settled_there : (r : ℕ) → r ≢ s → txn (settled S s G).txns r ≡ txn G.txns r
  unfolding settled
  settled_there r d = txn-set_txn-other ticked s R r d ∙ ticked_rows r d

  pub settled-last : last_number (settled S s G).txns ≡ last_number G.txns
  unfolding settled
  settled-last = last_number-set_txn ticked s R ∙ ticked_last

  pub settled-clock : clock (settled S s G).txns ≡ c
  unfolding settled
  settled-clock = clock-set_txn ticked s R ∙ ticked_clock
