-- Request E11: what a call leaves of the versions that a relaxed query is shown, told along with what happens at the call.
use Prim.Native.Nat.{ℕ, zero, suc, ◌+◌, ◌≤◌, ◌<◌}
use mathlib.Core.Path.{◌≡◌, refl, sym, ap, ◌∙◌, subst}
use mathlib.Core.Logic.{◌≢◌, ◌⊎◌, inl, inr}
use mathlib.Core.Bool.{Bool, true, false, cond}
use mathlib.Core.List.{List, ◌∷◌, Memᴰ}
use native.Mathlib.Omega.{arith}
use lib.ListN.{length, get_or}
use lib.Dec.{T}
use Rattle.names.specs.declared.Sizes.{Sizes}
use Rattle.rules.specs.Words.{bit}
use Rattle.rules.specs.Tables.{Tables, clock, Txn, txn, live_update, live_relaxed, Reader, outside, readers, lock, holds_exclusive}
use Rattle.rules.specs.Versions.{Version, no_version, versions_of, stamp_at, hidden_at, sees, choice, revealed}
use Rattle.rules.specs.Good.{Good}
use Rattle.rules.specs.Answers.{Call, Deed, Outcome}
use Rattle.rules.specs.Step.{done, act, step, judged, version_read, begun, locked, locked_anew, with_new, committed, ended, aborted, settled}
use Rattle.rules.specs.Conditions.{Caller}
use Rattle.rules.proofs.Tests.{is_true, not_make, iff_eq}
use Rattle.rules.proofs.Bits.{without-bit, bit-without}
use Rattle.rules.proofs.RowKinds.{relaxed-live, relaxed-reads, reads-outside, live-number}
use Rattle.rules.proofs.Readers.{reader_in_lem}
use Rattle.rules.proofs.Choice.{choice_hit}
use Rattle.rules.proofs.Trim.{kept_of, kept-choice}
use Rattle.rules.proofs.Revealed.{length-revealed, get_d_revealed, choice-revealed}
use Rattle.rules.proofs.ChangedVersions.{ended-versions, committed-versions}
use Rattle.rules.proofs.Queries.{committed-keeps}
use Rattle.rules.proofs.Steps.{acts}
use Rattle.rules.proofs.Judged.{way}
use Rattle.rules.proofs.Ways.{Way, refused, waited, kept_waiting, began_update, began_query, began_relaxed, read_own, read_newest, read_shared, read_settled, read_version}
use Rattle.rules.proofs.Ways.{wrote_own, wrote_settled, wrote_taken, committed_update, committed_empty, committed_settled, committed_query, aborted_update, aborted_settled, aborted_query, settled_update}
use Rattle.history.specs.Happened.{Happening, update_committed}
use Rattle.history.specs.Relaxed.{commits_under}
use Rattle.history.proofs.Leaving.{shown_of, ended_here}
use Rattle.history.proofs.Happens.{Happens, silent, grants, plainly, commits_as, happens}

-- ---- from the tables G to the tables G', for the relaxed query in slot s
module _ (S : Sizes) (G G' : Tables) (s : ℕ) where
  abbrev vs : ℕ → List Version
  vs x = versions_of S G.versions x

  abbrev vs' : ℕ → List Version
  vs' x = versions_of S G'.versions x

  -- it is shown the same
  abbrev SameShown : Type 0
  SameShown = (x : ℕ) → x < S.items → shown_of S G'.versions s x ≡ shown_of S G.versions s x

  -- the version at the place k was there, and hidden from it as it is now
  abbrev Old : ℕ → ℕ → Type 0
  Old x k = (j : ℕ) × (j < length (vs x)) × (stamp_at (vs' x) k ≡ stamp_at (vs x) j) × (bit (hidden_at (vs' x) k) s ≡ bit (hidden_at (vs x) j) s)

  -- or it is new, of slot b
  abbrev New : ℕ → ℕ → ℕ → Type 0
  New b x k = (stamp_at (vs' x) k ≡ clock G.txns + 1) × (bit (hidden_at (vs' x) k) s ≡ bit (txn G.txns b).later_for s)

  pub data Shift : Happening → Type 0 where
    -- nobody commits under a stamp
    quiet : {h : Happening} → ((u d : ℕ) → commits_under u d h ≡ false) → SameShown → ((x k : ℕ) → x < S.items → k < length (vs' x) → Old x k) → Shift h
    -- the update n does, in slot b: if it is in the set its versions are hidden, else they are shown
    stamped :
        (n b : ℕ) → Caller S G n b → T (live_update (txn G.txns b)) → (T (bit (txn G.txns b).later_for s) → SameShown)
        → ((T (bit (txn G.txns b).later_for s) → ⊥)
        → (x : ℕ) → x < S.items
        → shown_of S G'.versions s x ≡ cond (holds_exclusive (lock G.locks x) b) (lock G.locks x).working (shown_of S G.versions s x))
        → ((x k : ℕ) → x < S.items → k < length (vs' x) → Old x k ⊎ New b x k) → Shift (update_committed n (clock G.txns + 1))

-- ---- every way that a call can go while the query lives
module _
    (S : Sizes) (enough : S.slots ≤ S.places) (G : Tables) (g : Good S G) (s : ℕ) (inside : s < S.slots) (relaxed : T (live_relaxed (txn G.txns s)))
  where
    abbrev t : List ℕ
    t = G.txns

    reads : readers S t ≡ readers S t → Memᴰ (outside s) (readers S t)
    reads e =
        subst (λ (o : Reader). Memᴰ o (readers S t)) (reads-outside t s (relaxed-live (txn t s) relaxed).1) (reader_in_lem S t s inside (relaxed-reads (txn t s) relaxed))

    -- the versions are those of before
    same : (G' : Tables) {h : Happening} → G'.versions ≡ G.versions → ((u d : ℕ) → commits_under u d h ≡ false) → Shift S G G' s h
    same G' e n =
        quiet n (λ x i. ap (λ (v : List ℕ). shown_of S v s x) e)
        (λ x k i l.
        let z : versions_of S G'.versions x ≡ versions_of S G.versions x = ap (λ (v : List ℕ). versions_of S v x) e in
        (k, subst (λ (w : List Version). k < length w) z l, ap (λ (w : List Version). stamp_at w k) z, ap (λ (w : List Version). bit (hidden_at w k) s) z))

    -- ---- another query ends, in slot r
    module _ (r : ℕ) (i : r < S.slots) (lives : T (live_relaxed (txn (ended S r G).txns s))) where
      apart : s ≢ r
      apart e =
          live-number (txn (ended S r G).txns s) (relaxed-live (txn (ended S r G).txns s) lives).0
          (ap (λ (m : ℕ). (txn (ended S r G).txns m).number) e ∙ ap (λ (o : Txn). o.number) (ended_here S enough G g r i))

      mine : Memᴰ (outside s) (readers S (ended S r G).txns)
      mine =
          subst (λ (o : Reader). Memᴰ o (readers S (ended S r G).txns)) (reads-outside (ended S r G).txns s (relaxed-live (txn (ended S r G).txns s) lives).1)
          (reader_in_lem S (ended S r G).txns s inside (relaxed-reads (txn (ended S r G).txns s) lives))

      end : {h : Happening} → ((u d : ℕ) → commits_under u d h ≡ false) → Shift S G (ended S r G) s h
      unfolding shown_of stamp_at hidden_at
      end n =
          quiet n
          (λ x k.
          let e = ended-versions S G g enough r i x k in
          ap (λ (w : List Version). (choice (outside s) w).value) e
          ∙ ap (λ (w : Version). w.value) (kept-choice (readers S (ended S r G).txns) (revealed r (versions_of S G.versions x)) (outside s) mine)
          ∙ ap (λ (w : Version). w.value) (choice-revealed r (outside s) apart (versions_of S G.versions x)))
          (λ x k j l.
          let e = ended-versions S G g enough r i x j in
          let us = versions_of S G.versions x in
          let w = kept_of (readers S (ended S r G).txns) (revealed r us) k (subst (λ (w : List Version). k < length w) e l) in
          let y = ap (λ (w : List Version). get_or w k no_version) e ∙ w.2 ∙ get_d_revealed r us w.0 in (
            w.0,
            subst (λ (m : ℕ). w.0 < m) (length-revealed r us) w.1,
            ap (λ (v : Version). v.stamp) y,
            ap (λ (v : Version). bit v.hidden s) y
                ∙ iff_eq _ _ (λ b. (without-bit (get_or us w.0 no_version).hidden r s b).1) (λ b. bit-without (get_or us w.0 no_version).hidden r s apart b),
          ))

    -- ---- an update commits, in slot b
    module _ (n b : ℕ) (C : Caller S G n b) (u : T (live_update (txn t b))) where
      abbrev m : ℕ
      m = (txn t b).later_for

      abbrev front : ℕ → Version
      front x = record { stamp = clock t + 1; value = (lock G.locks x).working; hidden = m }

      hidden_on : T (bit (txn t b).later_for s) → SameShown S G (committed S b G) s
      unfolding shown_of
      hidden_on h x i =
          let e = committed-keeps S enough G b s g C.inside u inside (relaxed-reads (txn t s) relaxed) x i (inr (inl h)) in
          ap (λ (w : Version). w.value)
          (subst (λ (o : Reader). choice o (versions_of S (committed S b G).versions x) ≡ choice o (versions_of S G.versions x)) (reads-outside t s (relaxed-live (txn t s) relaxed).1) e)

      shown_on :
          (T (bit (txn t b).later_for s) → ⊥) → (x : ℕ) → x < S.items
          → shown_of S (committed S b G).versions s x ≡ cond (holds_exclusive (lock G.locks x) b) (lock G.locks x).working (shown_of S G.versions s x)
      unfolding shown_of with_new
      shown_on out x i =
          ap (λ (w : List Version). (choice (outside s) w).value) (committed-versions S G g enough b C.inside u x i)
          ∙ ap (λ (w : Version). w.value) (kept-choice (readers S t) (with_new G.locks b (clock t + 1) m x (versions_of S G.versions x)) (outside s) (reads refl))
          ∙ go (holds_exclusive (lock G.locks x) b)
        where
          go : (c : Bool) → (choice (outside s) (cond c (front x ∷ versions_of S G.versions x) (versions_of S G.versions x))).value
              ≡ cond c (lock G.locks x).working (choice (outside s) (versions_of S G.versions x)).value
          go true =
              ap (λ (w : Version). w.value)
              (choice_hit (outside s) (front x) (versions_of S G.versions x) (unfold sees in is_true _ (not_make (bit m s) out)))
          go false = refl

      come : (x k : ℕ) → x < S.items → k < length (versions_of S (committed S b G).versions x) → Old S G (committed S b G) s x k ⊎ New S G (committed S b G) s b x k
      unfolding with_new stamp_at hidden_at
      come x k i l =
          let e = committed-versions S G g enough b C.inside u x i in
          let w = kept_of (readers S t) (with_new G.locks b (clock t + 1) m x us) k (subst (λ (w : List Version). k < length w) e l) in
          go (holds_exclusive (lock G.locks x) b) w.0 w.1 (ap (λ (w : List Version). get_or w k no_version) e ∙ w.2)
        where
          us : List Version
          us = versions_of S G.versions x

          go :
              (c : Bool) (j : ℕ) → j < length (cond c (front x ∷ us) us)
              → get_or (versions_of S (committed S b G).versions x) k no_version ≡ get_or (cond c (front x ∷ us) us) j no_version
              → Old S G (committed S b G) s x k ⊎ New S G (committed S b G) s b x k
          go true zero q y = inr (ap (λ (v : Version). v.stamp) y, ap (λ (v : Version). bit v.hidden s) y)
          go true (suc j) q y = inl (j, omega arith, ap (λ (v : Version). v.stamp) y, ap (λ (v : Version). bit v.hidden s) y)
          go false j q y = inl (j, q, ap (λ (v : Version). v.stamp) y, ap (λ (v : Version). bit v.hidden s) y)

      commit : Shift S G (committed S b G) s (update_committed n (clock t + 1))
      commit = stamped n b C u hidden_on shown_on come

    way_shift :
        (c : Call) (d : Deed) (w : Way S G c d) → T (live_relaxed (txn (done S d G).after.txns s))
        → Shift S G (done S d G).after s (happens S enough G g c d w).what
    unfolding happens silent grants plainly commits_as done version_read begun locked locked_anew aborted settled commits_under
    way_shift c d (refused r m) h = same G refl (λ u d. refl)
    way_shift c d (waited r k x w) h = same _ refl (λ u d. refl)
    way_shift c d (kept_waiting r C q) h = same G refl (λ u d. refl)
    way_shift c d (began_update r F l) h = same _ refl (λ u d. refl)
    way_shift c d (began_query r F l) h = same _ refl (λ u d. refl)
    way_shift c d (began_relaxed r F l a) h = same _ refl (λ u d. refl)
    way_shift c d (read_own n r x U e) h = same _ refl (λ u d. refl)
    way_shift c d (read_newest n r x U e) h = same _ refl (λ u d. refl)
    way_shift c d (read_shared n r x U e f) h = same _ refl (λ u d. refl)
    way_shift c d (read_settled n r x C p i e) h = same _ refl (λ u d. refl)
    way_shift c d (read_version n r x C q i o f) h = same _ refl (λ u d. refl)
    way_shift c d (wrote_own n r x v U e) h = same _ refl (λ u d. refl)
    way_shift c d (wrote_settled n r x v C p i e) h = same _ refl (λ u d. refl)
    way_shift c d (wrote_taken n r x v U e f q) h = same _ refl (λ u d. refl)
    way_shift c d (committed_update n r C u i l w) h = commit n r C u
    way_shift c d (committed_empty n r C u i e) h = same _ refl (λ u d. refl)
    way_shift c d (committed_settled n r C p) h = absurd (g.sets_good.apart r s C.inside inside p relaxed)
    way_shift c d (committed_query n r C q) h = end r C.inside h (λ u d. refl)
    way_shift c d (aborted_update n r C u) h = same _ refl (λ u d. refl)
    way_shift c d (aborted_settled n r C p) h = absurd (g.sets_good.apart r s C.inside inside p relaxed)
    way_shift c d (aborted_query n r C q) h = end r C.inside h (λ u d. refl)
    way_shift c d (settled_update n r C u i l a) h = same _ refl (λ u d. refl)

    -- ---- a step: what happens, and what it leaves of the versions
    abbrev pub Moved : Call → Outcome → Type 0
    Moved c o = (H : Happens S G c o) × (T (live_relaxed (txn o.after.txns s)) → Shift S G o.after s H.what)

    pub step-moved : (c : Call) → Moved c (step S c G)
    unfolding act
    step-moved c =
        subst (Moved c) (sym (acts S c G g))
        (happens S enough G g c (judged S c G) (way S G g c), way_shift c (judged S c G) (way S G g c))
