-- Request E11: where the versions come from that are there after a call, and from whom they are hidden.
use Prim.Native.Nat.{ℕ, zero, suc, ◌+◌, ◌≤◌, ◌<◌}
use mathlib.Core.Path.{◌≡◌, refl, sym, ap, ◌∙◌, subst}
use mathlib.Core.Logic.{◌≢◌, ◌⊎◌, inl, inr}
use mathlib.Core.Bool.{Bool, true, false}
use mathlib.Core.List.{List, ◌∷◌}
use native.Mathlib.Omega.{arith}
use lib.ListN.{length, get_or}
use lib.Dec.{T}
use Rattle.names.specs.declared.Sizes.{Sizes}
use Rattle.rules.specs.Words.{bit}
use Rattle.rules.specs.Tables.{Tables, clock, Txn, txn, no_txn, live, live_relaxed, Reader, readers, lock, holds_exclusive}
use Rattle.rules.specs.Versions.{Version, no_version, versions_of, hidden_at, kept, revealed}
use Rattle.rules.specs.Good.{Good}
use Rattle.rules.specs.Answers.{Outcome, Call, Commit, Deed}
use Rattle.rules.specs.Step.{act, judged, done, begun, forgotten, locked, locked_anew, committed, settled_committed, ended, aborted, settled_aborted, settled, version_read, with_new}
use Rattle.rules.specs.Conditions.{Caller}
use Rattle.rules.specs.Promises.{OldVersion, NewVersion, VersionsCome}
use Rattle.rules.proofs.Tests.{true_is}
use Rattle.rules.proofs.Bits.{without-bit, bit-without}
use Rattle.rules.proofs.Views.{txn-set_txn}
use Rattle.rules.proofs.Trim.{kept_of}
use Rattle.rules.proofs.Revealed.{length-revealed, get_d_revealed}
use Rattle.rules.proofs.Joined.{forgotten-length}
use Rattle.rules.proofs.ChangedVersions.{ended-versions, committed-versions, settled-commit-versions, settled-abort-versions, settled-alone}
use Rattle.rules.proofs.Steps.{acts}
use Rattle.rules.proofs.Judged.{way}
use Rattle.rules.proofs.Keeps.{keeps}
use Rattle.rules.proofs.Ways.{Way, refused, waited, began_update, began_query, began_relaxed, read_own, read_newest, read_shared, read_settled, read_version}
use Rattle.rules.proofs.Ways.{wrote_own, wrote_settled, wrote_taken, committed_update, committed_empty, committed_settled, committed_query, aborted_update, aborted_settled, aborted_query, settled_update, kept_waiting}

module _ (S : Sizes) (enough : S.slots ≤ S.places) (G : Tables) (g : Good S G) (x : ℕ) (known : x < S.items) where
  abbrev vs : List Version
  vs = versions_of S G.versions x

  -- the versions afterwards
  abbrev vs' : Tables → List Version
  vs' H = versions_of S H.versions x

  -- good tables hide from relaxed queries that live
  lives : (H : Tables) → Good S H → (k q : ℕ) → T (bit (hidden_at (vs' H) k) q) → T (live_relaxed (txn H.txns q))
  unfolding versions_of
  lives H h k q b = ((h.versions_good x known).from_relaxed k q b).1

  -- the version that is at the place k now was at the place j, hidden from whom it is hidden now, but for those who live no more
  old :
      (H : Tables) → Good S H → (k j : ℕ) → j < length vs → (get_or (vs' H) k no_version).stamp ≡ (get_or vs j no_version).stamp
      → (get_or (vs' H) k no_version).value ≡ (get_or vs j no_version).value
      → ((q : ℕ) → T (bit (hidden_at (vs' H) k) q) → T (bit (hidden_at vs j) q))
      → ((q : ℕ) → T (live_relaxed (txn H.txns q)) → T (bit (hidden_at vs j) q) → T (bit (hidden_at (vs' H) k) q))
      → OldVersion S G H x (get_or (vs' H) k no_version)
  unfolding hidden_at
  old H h k j i a b to from =
      record { place = j; there = i; stamp = a; value = b; hidden = λ q. (λ z. (to q z, lives H h k q z), λ z. from q z.1 z.0) }

  same : (H : Tables) → Good S H → (k j : ℕ) → j < length vs → get_or (vs' H) k no_version ≡ get_or vs j no_version → OldVersion S G H x (get_or (vs' H) k no_version)
  unfolding hidden_at
  same H h k j i e =
      old H h k j i (ap (λ (v : Version). v.stamp) e) (ap (λ (v : Version). v.value) e)
      (λ q b. subst (λ (v : Version). T (bit v.hidden q)) e b) (λ q l b. subst (λ (v : Version). T (bit v.hidden q)) (sym e) b)

  -- ---- what is shown of every way
  abbrev Comes : Call → Tables → Type 0
  Comes c H = (k : ℕ) → k < length (vs' H) → OldVersion S G H x (get_or (vs' H) k no_version) ⊎ NewVersion S c G x (get_or (vs' H) k no_version)

  -- no version changes
  stay : (c : Call) (H : Tables) → Good S H → H.versions ≡ G.versions → Comes c H
  stay c H h e k i =
      let z : vs' H ≡ vs = ap (λ (v : List ℕ). versions_of S v x) e in
      inl (same H h k k (subst (λ (l : List Version). k < length l) z i) (ap (λ (l : List Version). get_or l k no_version) z))

  -- some go
  trim : (c : Call) (H : Tables) → Good S H → vs' H ≡ kept (readers S H.txns) vs → Comes c H
  trim c H h e k i =
      let w = kept_of (readers S H.txns) vs k (subst (λ (l : List Version). k < length l) e i) in
      inl (same H h k w.0 w.1 (ap (λ (l : List Version). get_or l k no_version) e ∙ w.2))

  module _ (n s : ℕ) (C : Caller S G n s) where
    -- a commit under the stamp c: the new one is in front
    new :
        (H : Tables) → Good S H → (c : ℕ) → (qs : List Reader)
        → vs' H ≡ kept qs (with_new G.locks s c (txn G.txns s).later_for x vs) → Comes (Commit n) H
    unfolding with_new
    new H h c qs e k i = go (holds_exclusive (lock G.locks x) s) refl
      where
        m : ℕ
        m = (txn G.txns s).later_for

        front : Version
        front = record { stamp = c; value = (lock G.locks x).working; hidden = m }

        go : (b : Bool) → holds_exclusive (lock G.locks x) s ≡ b → OldVersion S G H x (get_or (vs' H) k no_version) ⊎ NewVersion S (Commit n) G x (get_or (vs' H) k no_version)
        go false z = trimmed (rw z at e)
          where
            trimmed : vs' H ≡ kept qs vs → OldVersion S G H x (get_or (vs' H) k no_version) ⊎ NewVersion S (Commit n) G x (get_or (vs' H) k no_version)
            trimmed e' =
                let w = kept_of qs vs k (subst (λ (l : List Version). k < length l) e' i) in
                inl (same H h k w.0 w.1 (ap (λ (l : List Version). get_or l k no_version) e' ∙ w.2))
        go true z = written (rw z at e)
          where
            written : vs' H ≡ kept qs (front ∷ vs) → OldVersion S G H x (get_or (vs' H) k no_version) ⊎ NewVersion S (Commit n) G x (get_or (vs' H) k no_version)
            written e' =
                let w = kept_of qs (front ∷ vs) k (subst (λ (l : List Version). k < length l) e' i) in
                at w.0 w.1 (ap (λ (l : List Version). get_or l k no_version) e' ∙ w.2)
              where
                at : (j : ℕ) → j < suc (length vs) → get_or (vs' H) k no_version ≡ get_or (front ∷ vs) j no_version → OldVersion S G H x (get_or (vs' H) k no_version) ⊎ NewVersion S (Commit n) G x (get_or (vs' H) k no_version)
                at (suc j) l y = inl (same H h k j (omega arith) y)
                at zero l y =
                    inr
                    (record {
                      slot = s;
                      number = n;
                      caller = C;
                      commits = refl;
                      held = true_is z;
                      value = ap (λ (v : Version). v.value) y;
                      hidden = ap (λ (v : Version). v.hidden) y;
                    })

    -- a query's end: its row goes, and what was hidden from it is shown
    gone : (q : ℕ) → T (live_relaxed (txn (ended S s G).txns q)) → q ≢ s
    unfolding ended live_relaxed live
    gone q l z =
        subst (λ (r : Txn). T (live_relaxed r)) (txn-set_txn (forgotten S s G.txns) s no_txn S (forgotten-length S s G.txns ∙ g.txns_exact) C.inside)
        (subst (λ (m : ℕ). T (live_relaxed (txn (ended S s G).txns m))) z l)

    end : (c : Call) → Good S (ended S s G) → Comes c (ended S s G)
    unfolding hidden_at
    end c h k i =
        let e = ended-versions S G g enough s C.inside x known in
        let w = kept_of (readers S (ended S s G).txns) (revealed s vs) k (subst (λ (l : List Version). k < length l) e i) in
        let y = ap (λ (l : List Version). get_or l k no_version) e ∙ w.2 ∙ get_d_revealed s vs w.0 in
        inl
        (old (ended S s G) h k w.0 (subst (λ (m : ℕ). w.0 < m) (length-revealed s vs) w.1) (ap (λ (v : Version). v.stamp) y) (ap (λ (v : Version). v.value) y)
        (λ q b. (without-bit (hidden_at vs w.0) s q (subst (λ (v : Version). T (bit v.hidden q)) y b)).1)
        (λ q l b. subst (λ (v : Version). T (bit v.hidden q)) (sym y) (bit-without (hidden_at vs w.0) s q (gone q l) b)))

  abbrev After : Deed → Tables
  After d = (done S d G).after

  way_comes : (c : Call) (d : Deed) → Way S G c d → Good S (After d) → Comes c (After d)
  unfolding done version_read begun locked locked_anew aborted settled
  way_comes c d (refused r m) h = stay c (After d) h refl
  way_comes c d (waited s k y w) h = stay c (After d) h refl
  way_comes c d (kept_waiting s C b) h = stay c (After d) h refl
  way_comes c d (began_update s F n) h = stay c (After d) h refl
  way_comes c d (began_query s F n) h = stay c (After d) h refl
  way_comes c d (began_relaxed s F n a) h = stay c (After d) h refl
  way_comes c d (read_own n s y U e) h = stay c (After d) h refl
  way_comes c d (read_newest n s y U e) h = stay c (After d) h refl
  way_comes c d (read_shared n s y U e f) h = stay c (After d) h refl
  way_comes c d (read_settled n s y C p i e) h = stay c (After d) h refl
  way_comes c d (read_version n s y C q i o b) h = stay c (After d) h refl
  way_comes c d (wrote_own n s y v U e) h = stay c (After d) h refl
  way_comes c d (wrote_settled n s y v C p i e) h = stay c (After d) h refl
  way_comes c d (wrote_taken n s y v U e f m) h = stay c (After d) h refl
  way_comes c d (committed_update n s C u i v w) h =
      new n s C (committed S s G) h (clock G.txns + 1) (readers S G.txns) (committed-versions S G g enough s C.inside u x known)
  way_comes c d (committed_empty n s C u i e) h = stay c (After d) h refl
  way_comes c d (committed_settled n s C p) h =
      new n s C (settled_committed S s G) h (txn G.txns s).start (readers S (settled_committed S s G).txns)
      (settled-commit-versions S G g enough s C.inside p x known
      ∙ ap (λ (m : ℕ). kept (readers S (settled_committed S s G).txns) (with_new G.locks s (txn G.txns s).start m x vs))
      (sym (settled-alone S G g enough s C.inside p)))
  way_comes c d (committed_query n s C q) h = end n s C c h
  way_comes c d (aborted_update n s C u) h = stay c (After d) h refl
  way_comes c d (aborted_settled n s C p) h = trim c (settled_aborted S s G) h (settled-abort-versions S G g enough s C.inside x known)
  way_comes c d (aborted_query n s C q) h = end n s C c h
  way_comes c d (settled_update n s C u i v a) h = stay c (After d) h refl

-- ---- told of `step`
pub versions_come : (S : Sizes) → S.slots ≤ S.places → VersionsCome S
unfolding act
versions_come S enough c G g x k known =
    subst (λ (o : Outcome). Good S o.after → k < length (versions_of S o.after.versions x) → OldVersion S G o.after x (get_or (versions_of S o.after.versions x) k no_version) ⊎ NewVersion S c G x (get_or (versions_of S o.after.versions x) k no_version))
    (sym (acts S c G g)) (λ h. way_comes S enough G g x known c (judged S c G) (way S G g c) h k) (keeps S enough c G g)
