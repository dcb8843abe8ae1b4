-- An update's abort and commit, and the end of one past its writing, leave good tables.
use Prim.Native.Nat.{ℕ, suc, ◌+◌, ◌≤◌, ◌<◌}
use mathlib.Core.Path.{◌≡◌, refl, sym, ap, ◌∙◌, subst}
use mathlib.Core.Logic.{◌≢◌, ◌⊎◌, inl, inr}
use mathlib.Core.Bool.{false}
use mathlib.Core.List.{List}
use native.Mathlib.Omega.{arith}
use lib.ListN.{length, get_or, set, length-set}
use lib.Seq.{get_or-set_same, get_or-set_other}
use lib.Dec.{T, eqb→eq}
use Rattle.names.specs.declared.Sizes.{Sizes}
use Rattle.names.specs.Sizes.{last_word}
use Rattle.rules.specs.Words.{row, bit}
use Rattle.rules.specs.Tables.{Tables, tables, txn_words, version_row, last_number, clock, Txn, txn, set_txn, no_txn, no_lock}
use Rattle.rules.specs.Tables.{live_update, live_settled, live_relaxed, is_reader, readers, lock, holds, holds_shared, holds_exclusive, release}
use Rattle.rules.specs.Versions.{Version, no_version, versions_in, versions_of, stamp_at, hidden_at, hidden_now, rewritten}
use Rattle.rules.specs.Waits.{closed_up}
use Rattle.rules.specs.Good.{Good}
use Rattle.rules.specs.Step.{with_txns, cleared, committed_under, committed, settled_committed, aborted, settled_aborted, with_new}
use Rattle.rules.proofs.Tests.{is_false, false_is, or_cases, or_right}
use Rattle.rules.proofs.Bits.{bit_none}
use Rattle.rules.proofs.Views.{clock-set_txn, txn-top}
use Rattle.rules.proofs.RowKinds.{update-live, settled-live, relaxed-live, settled-reads, settled-starts, update_no_reader}
use Rattle.rules.proofs.Carried.{versions_carried}
use Rattle.rules.proofs.Notes.{Beside, same_beside}
use Rattle.rules.proofs.Noting.{closed-length, closed-last, closed-clock}
use Rattle.rules.proofs.Waited.{cleared-good, cleared_here, cleared-last, cleared-clock, cleared-update, cleared_as_closed}
use Rattle.rules.proofs.Leaves.{released-good, released-other, released-holds, released_shares_still, left-good}
use Rattle.rules.proofs.Ready.{gone-reads, gone_how, gone_lives, gone-relaxed, Ready, old_ready, committed_ready, rewritten-size, rewritten-good, rewritten-top}

-- who does not hold an item exclusively puts no version there
pub not_new : (l : List ℕ) (s c m x : ℕ) (vs : List Version) → holds_exclusive (lock l x) s ≡ false → with_new l s c m x vs ≡ vs
unfolding with_new
not_new l s c m x vs e = rw e

-- ---- whoever holds an item after slot s let its locks go: s did not hold that exclusively
left_other :
    (S : Sizes) (G : Tables) (g : Good S G) (s : ℕ) (inside : s < S.slots) (rests : (txn G.txns s).awaited_lock ≡ no_lock) (r x : ℕ) → x < S.items
    → T (holds (lock (release S s G.locks) x) r) → holds_exclusive (lock G.locks x) s ≡ false
unfolding holds
left_other S G g s inside rests r x i h = go (or_cases (holds_shared (lock (release S s G.locks) x) r) _ h)
  where
    go :
        T (holds_shared (lock (release S s G.locks) x) r) ⊎ T (holds_exclusive (lock (release S s G.locks) x) r)
        → holds_exclusive (lock G.locks x) s ≡ false
    go (inr e) = released-other S G g s inside rests r x i e
    go (inl a) =
        let b = released_shares_still S G g s inside rests r x i a in
        is_false (holds_exclusive (lock G.locks x) s) (λ e. never b e (g.lock_good x i).never_both)
      where
        never :
            T (holds_shared (lock G.locks x) r) → T (holds_exclusive (lock G.locks x) s)
            → ((lock G.locks x).shared ≡ 0) ⊎ ((lock G.locks x).exclusive ≡ 0) → ⊥
        never b e (inl z) = false_is (bit_none r) (subst (λ (m : ℕ). T (bit m r)) z (unfold holds_shared in b))
        never b e (inr z) = let k = eqb→eq (lock G.locks x).exclusive (suc s) (unfold holds_exclusive in e) in absurd (omega arith)

module _ (S : Sizes) (enough : S.slots ≤ S.places) (G : Tables) (g : Good S G) (s : ℕ) (inside : s < S.slots) where
  -- ---- "Abort removes locks, working values and the row"
  pub aborted-good : T (live_update (txn G.txns s)) → Good S (aborted S s G)
  unfolding aborted
  aborted-good update =
      left-good S (tables t₁ (release S s G.locks) G.versions) (released-good S H h s inside rests) s inside (released-holds S H h s inside rests) rests strict
      u usize same (closed-last S G.txns s ∙ sym (h_last)) (let a = h_clock in let b = closed-clock S G.txns s in omega arith)
      (let b = closed-clock S G.txns s in let c = g.clock_most in omega arith) G.versions g.versions_exact
      (λ x i. versions_carried S t₁ (set_txn u s no_txn) _ (let a = clock-set_txn u s no_txn in let b = closed-clock S G.txns s in let c = h_clock in omega arith)
      (λ r j q. let d = reader-other r q in (subst T (sym (gone-reads S t₁ u s inside usize beside r d)) q, gone_how S t₁ u s inside usize beside r d))
      (λ r j q. inl (let k = gone_lives S t₁ u s inside usize beside r q in (k.1, gone_how S t₁ u s inside usize beside r k.0)))
      (λ r j q. subst T (sym (gone-relaxed S t₁ u s inside usize beside r (λ e. strict (subst (λ (m : ℕ). T (live_relaxed (txn t₁ m))) e q)))) q)
      (h.versions_good x i))
      (λ r x i j a h. refl)
      (λ x r q i k b. b)
    where
      -- its wait is cleared first, then its locks go, then its row
      t₁ : List ℕ
      t₁ = cleared S G.txns s

      u : List ℕ
      u = closed_up S G.txns s

      usize : length u ≡ txn_words S
      usize = closed-length S G.txns s ∙ g.txns_exact

      H : Tables
      H = with_txns G t₁

      h : Good S H
      h = cleared-good S G g s inside update

      rests : (txn t₁ s).awaited_lock ≡ no_lock
      rests = ap (λ (w : Txn). w.awaited_lock) (cleared_here S G.txns g.txns_exact s inside)

      h_last : last_number t₁ ≡ last_number G.txns
      h_last = cleared-last S G.txns g.txns_exact s inside

      h_clock : clock t₁ ≡ clock G.txns
      h_clock = cleared-clock S G.txns g.txns_exact s inside

      same : (r : ℕ) → r ≢ s → txn u r ≡ txn t₁ r
      same r d = sym (cleared_as_closed S G.txns g.txns_exact s inside r d)

      beside : (r : ℕ) → r ≢ s → Beside (txn t₁ r) (txn u r)
      beside r d = same_beside (txn t₁ r) (txn u r) (same r d)

      writes : T (live_update (txn t₁ s))
      writes = subst T (sym (cleared-update S G.txns g.txns_exact s inside s inside)) update

      strict : T (live_relaxed (txn t₁ s)) → ⊥
      strict q = let a = (relaxed-live (txn t₁ s) q).1 in let b = (update-live (txn t₁ s) writes).1 in omega arith

      reader-other : (r : ℕ) → T (is_reader (txn t₁ r)) → r ≢ s
      reader-other r q e = update_no_reader (txn t₁ s) writes (subst (λ (m : ℕ). T (is_reader (txn t₁ m))) e q)

  -- ---- whoever is no relaxed query goes with its locks, and the versions are rewritten: of item x what f gives, before they are trimmed
  module _
      (rests : (txn G.txns s).awaited_lock ≡ no_lock) (strict : T (live_relaxed (txn G.txns s)) → ⊥)
      (u : List ℕ) (usize : length u ≡ txn_words S) (same : (r : ℕ) → r ≢ s → txn u r ≡ txn G.txns r)
      (last : last_number u ≡ last_number G.txns) (later : clock G.txns ≤ clock u) (most : clock u ≤ last_word)
      (f : ℕ → List Version → List Version)
      (ready :
      (x : ℕ) → x < S.items
      → Ready S enough G g s inside u usize (λ r d. same_beside (txn G.txns r) (txn u r) (same r d)) later (f x (versions_in S (row (version_row S) x G.versions))))
      (still : (x : ℕ) → holds_exclusive (lock G.locks x) s ≡ false → f x (versions_of S G.versions x) ≡ versions_of S G.versions x)
    where
      abbrev Bs : (r : ℕ) → r ≢ s → Beside (txn G.txns r) (txn u r)
      Bs r d = same_beside (txn G.txns r) (txn u r) (same r d)

      abbrev v' : List ℕ
      v' = rewritten S (readers S (set_txn u s no_txn)) f G.versions

      -- the newest version of what another holds stays
      top : (r x : ℕ) → x < S.items → T (holds (lock (release S s G.locks) x) r) → get_or (versions_of S v' x) 0 no_version ≡ get_or (versions_of S G.versions x) 0 no_version
      top r x i h =
          rewritten-top S enough G g s inside u usize Bs later f ready x i
          ∙ ap (λ (vs : List Version). get_or vs 0 no_version) (still x (left_other S G g s inside rests r x i h))

      exclusive-holds : (x r : ℕ) → T (holds_exclusive (lock (release S s G.locks) x) r) → T (holds (lock (release S s G.locks) x) r)
      unfolding holds
      exclusive-holds x r e = or_right (holds_shared (lock (release S s G.locks) x) r) _ e

      rewritten-ends : Good S (tables (set_txn u s no_txn) (release S s G.locks) (rewritten S (readers S (set_txn u s no_txn)) f G.versions))
      rewritten-ends =
          left-good S (tables G.txns (release S s G.locks) G.versions) (released-good S G g s inside rests) s inside (released-holds S G g s inside rests) rests strict
          u usize same last later most v'
          (rewritten-size S enough G g s inside u usize Bs later f ready)
          (rewritten-good S enough G g s inside u usize Bs later f ready)
          (λ r x i j a h. unfold stamp_at in (ap (λ (v : Version). v.stamp) (top r x j (exclusive-holds x r h))))
          (λ x r q i h b. unfold hidden_now hidden_at in (subst (λ (v : Version). T (bit v.hidden q)) (top r x i h) (unfold hidden_now hidden_at in b)))

  -- ---- "An update takes clock plus 1"
  module _ (update : T (live_update (txn G.txns s))) (resting : (txn G.txns s).awaited_lock ≡ no_lock) (unspent : clock G.txns ≢ last_word) where
    abbrev c : ℕ
    c = clock G.txns + 1

    abbrev m : ℕ
    m = (txn G.txns s).later_for

    abbrev u : List ℕ
    u = set G.txns 1 c

    u_size : length u ≡ txn_words S
    u_size = length-set G.txns 1 c ∙ g.txns_exact

    u_rows : (r : ℕ) → r ≢ s → txn u r ≡ txn G.txns r
    u_rows r d = txn-top G.txns 1 c r (omega arith)

    u_clock : clock u ≡ c
    u_clock = get_or-set_same G.txns 1 c 0 (omega (arith, g.txns_exact))

    u_later : clock G.txns ≤ clock u
    u_later = let a = u_clock in omega arith

    writes_not : T (live_relaxed (txn G.txns s)) → ⊥
    writes_not q = let a = (relaxed-live (txn G.txns s) q).1 in let b = (update-live (txn G.txns s) update).1 in omega arith

    above : (x : ℕ) → x < S.items → T (holds_exclusive (lock G.locks x) s) → stamp_at (versions_of S G.versions x) 0 < c
    unfolding versions_of
    above x i h = let a = (g.versions_good x i).first in omega arith

    pub committed-good : Good S (committed S s G)
    unfolding committed committed_under
    committed-good =
        rewritten-ends resting writes_not u u_size u_rows (get_or-set_other G.txns 1 0 c 0 (omega arith)) u_later (let a = u_clock in let b = g.clock_most in omega arith)
        (with_new G.locks s c m)
        (committed_ready S enough G g s inside u u_size (λ r d. same_beside (txn G.txns r) (txn u r) (u_rows r d)) u_later writes_not c m above (let a = u_clock in omega arith)
        (λ x q i h b. g.sets_good.holds_hidden x s q i (unfold holds in (or_right (holds_shared (lock G.locks x) s) _ h)) b)
        (λ q b. g.sets_good.of_relaxed s q inside b))
        (λ x e. not_new G.locks s c m x (versions_of S G.versions x) e)

  -- ---- request E6: "Its commit puts versions under that stamp"; "its abort trims rows as a query's end does"
  module _ (past : T (live_settled (txn G.txns s))) where
    past_rests : (txn G.txns s).awaited_lock ≡ no_lock
    past_rests = (g.txn_good s inside).reader_idle (settled-reads (txn G.txns s) past)

    past_not : T (live_relaxed (txn G.txns s)) → ⊥
    past_not q = let a = (relaxed-live (txn G.txns s) q).1 in let b = (settled-live (txn G.txns s) past).1 in omega arith

    abbrev q : ℕ
    q = (txn G.txns s).start

    pub settled-commit-good : Good S (settled_committed S s G)
    unfolding settled_committed committed_under
    settled-commit-good =
        rewritten-ends past_rests past_not G.txns g.txns_exact (λ r d. refl) refl (omega arith) g.clock_most
        (with_new G.locks s q (txn G.txns s).later_for)
        (committed_ready S enough G g s inside G.txns g.txns_exact (λ r d. same_beside (txn G.txns r) (txn G.txns r) refl) (omega arith) past_not q (txn G.txns s).later_for
        (λ x i h. g.settled_good.above s x inside i past h) ((g.txn_good s inside).reader_start (settled-starts (txn G.txns s) past))
        (λ x p i h b. g.sets_good.holds_hidden x s p i (unfold holds in (or_right (holds_shared (lock G.locks x) s) _ h)) b)
        (λ p b. g.sets_good.of_relaxed s p inside b))
        (λ x e. not_new G.locks s q (txn G.txns s).later_for x (versions_of S G.versions x) e)

    pub settled-abort-good : Good S (settled_aborted S s G)
    unfolding settled_aborted
    settled-abort-good =
        rewritten-ends past_rests past_not G.txns g.txns_exact (λ r d. refl) refl (omega arith) g.clock_most
        (λ x vs. vs)
        (λ x i. old_ready S enough G g s inside G.txns g.txns_exact (λ r d. same_beside (txn G.txns r) (txn G.txns r) refl) (omega arith) past_not (row (version_row S) x G.versions) (g.versions_good x i))
        (λ x e. refl)
