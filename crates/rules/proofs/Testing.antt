-- One test of a call after another: each that is passed is no reason to refuse, the first that is not is the reason. `Goes` says of a
-- deed which way it is and that its code is that of the first refusal in a list whose condition holds.
use Prim.Native.Nat.{ℕ, ◌<◌}
use mathlib.Core.Path.{◌≡◌, refl, sym, subst}
use mathlib.Core.Logic.{◌≢◌, ◌⊎◌, inl, inr, ⊎_elim, ◌↔◌}
use mathlib.Core.Bool.{Bool, true, false, ◌&&◌, not, cond}
use mathlib.Core.List.{List, [], ◌∷◌}
use native.Mathlib.Omega.{arith}
use lib.Dec.{T, eqb, leb, eqb→eq}
use borrow.Author.Tests.{eqb-true, eqb-false, leb-true, leb-false}
use Rattle.names.specs.declared.Sizes.{Sizes}
use Rattle.names.specs.Sizes.{first_stamp, last_word}
use Rattle.rules.specs.Tables.{Tables, last_number, clock, txn, an_update, a_query, a_settled, a_relaxed, no_lock, exclusive_lock, is_reader, live_relaxed, some_settled}
use Rattle.rules.specs.Tables.{live_update, live_settled, by_start, lock, holds_exclusive, exclusives_of, slot_of, free_slot}
use Rattle.rules.specs.Waits.{rank_for, blocks, noted, circle_at}
use Rattle.rules.specs.Good.{Good}
use Rattle.rules.specs.Locks.{Asked, wanted}
use Rattle.rules.specs.Answers.{Call, BeginUpdate, BeginQuery, BeginRelaxed, granted, code, Refusal, as_slot, as_item, as_stamp}
use Rattle.rules.specs.Answers.{Wait, Deadlock, UnknownTransaction, UnknownItem, StillWaiting}
use Rattle.rules.specs.Answers.{NoSlot, NumbersSpent, ClockSpent, QuotaSpent, PastWriting, KeptApart, Deed, Refused, Begins, Waits}
use Rattle.rules.specs.Step.{done, meets_settled, begin_by, conflicted, awaits_other, writes_past, writes_further}
use Rattle.rules.specs.Conditions.{Names, Wants, IsSettle, CallerIn, NeedsLock, ConflictIn, HeldBackIn, Circle, When, Answered}
use Rattle.rules.proofs.Tests.{and_left, and_right, and_both, is_true, true_is, false_is, not_make, not_use, ne_make, ne_use, eq_make}
use Rattle.rules.proofs.Quotas.{has_room, further→}
use Rattle.rules.proofs.RowKinds.{update-live, reader-live, start-reads, update_no_reader}
use Rattle.rules.proofs.Deadlock.{circle_is}
use Rattle.rules.proofs.Callers.{caller_is, caller_none, caller-found, Free, free-found, free_none, is_settled, settled-kind}
use Rattle.rules.proofs.Decisions.{blocked_for, blocked-other, wanted-lock}
use Rattle.rules.proofs.Ways.{Mere, Way, refused, kept_waiting, began_update, began_query, began_relaxed}
use Rattle.rules.proofs.EqualSets.{some_settled_lem, settled_some}

module _ (S : Sizes) (c : Call) (G : Tables) where
  -- the code of the deed is that of the first of these whose condition holds
  abbrev pub Says : List Refusal → Deed → Type 0
  Says rs d = Answered S c G rs (done S d G).answer.code

  -- which way the deed is, and its code
  abbrev pub Goes : List Refusal → Deed → Type 0
  Goes rs d = Way S G c d × Says rs d

  -- one test of a call
  pub tests :
      (r : Refusal) (rs : List Refusal) (z : Bool) (d : Deed) → Mere r → (z ≡ true → When S c G r) → (z ≡ false → When S c G r → ⊥)
      → (z ≡ false → Goes rs d) → Goes (r ∷ rs) (cond z (Refused r) d)
  unfolding Answered done
  tests r rs true d m f n k = (refused r m, inl (f refl, refl))
  tests r rs false d m f n k = ((k refl).0, inr (n refl, (k refl).1))

  -- a refusal that cannot be here
  pub skips : (r : Refusal) (rs : List Refusal) (d : Deed) → (When S c G r → ⊥) → Goes rs d → Goes (r ∷ rs) d
  unfolding Answered
  skips r rs d n h = (h.0, inr (n, h.1))

  -- none is left
  pub grants : (d : Deed) → Way S G c d → (done S d G).answer.code ≡ granted → Goes [] d
  unfolding Answered
  grants d w e = (w, e)

  -- ---- begin: rs is what is tested of the kind k last
  pub begins :
      (k q : ℕ) (rs : List Refusal)
      → ((s : ℕ) → Free S G.txns s → last_number G.txns ≢ last_word
      → Goes rs (cond (meets_settled S G.txns k) (Refused KeptApart) (Begins (as_slot s) k (as_stamp q))))
      → Goes (NoSlot ∷ NumbersSpent ∷ rs) (begin_by S k q G)
  unfolding begin_by When
  begins k q rs w =
      tests NoSlot _ (eqb (free_slot S G.txns) S.slots) _ (λ z. omega arith, λ z. omega arith) (λ e. free_none S G.txns e)
      (λ e w. let f = free-found S G.txns e in f.free (w (free_slot S G.txns) f.inside))
      (λ e. tests NumbersSpent _ (eqb (last_number G.txns) last_word) _ (λ z. omega arith, λ z. omega arith)
      (λ f. eqb-true (last_number G.txns) last_word f)
      (λ f w. eqb-false (last_number G.txns) last_word f w)
      (λ f. w (free_slot S G.txns) (free-found S G.txns e) (eqb-false (last_number G.txns) last_word f)))

  -- where there is no conflict and nobody is held back, the call is granted
  pub unblocked :
      (d : Deed) → ((r j y : ℕ) → ConflictIn c S G r j y → ⊥) → ((r y : ℕ) → HeldBackIn c S G r y → ⊥) → Way S G c d
      → (done S d G).answer.code ≡ granted → Goes (Deadlock ∷ Wait ∷ []) d
  unfolding When
  unblocked d f h w e =
      skips Deadlock (Wait ∷ []) d (λ w. f w.0 w.1 w.2 w.3)
      (skips Wait [] d (⊎_elim (λ w. f w.0 w.1 w.2 w.3) (λ w. h w.0 w.1 w.2)) (grants d w e))

  -- where a reader is held back, it waits
  pub held_back_lem :
      (s x : ℕ) → ((r j y : ℕ) → ConflictIn c S G r j y → ⊥) → HeldBackIn c S G s x → Goes (Deadlock ∷ Wait ∷ []) (Refused Wait)
  unfolding When Answered done
  held_back_lem s x f K =
      skips Deadlock (Wait ∷ []) (Refused Wait) (λ w. f w.0 w.1 w.2 w.3)
      (kept_waiting s K.caller K.reader, inl (inr (s, x, K), refl))

-- ---- the three begins
module _ (S : Sizes) (G : Tables) where
  pub begins-update : Goes S BeginUpdate G (NoSlot ∷ NumbersSpent ∷ []) (begin_by S an_update first_stamp G)
  unfolding meets_settled done
  begins-update = begins S BeginUpdate G an_update first_stamp [] (λ s f n. grants S BeginUpdate G _ (began_update s f n) refl)

  pub begins-query : Goes S BeginQuery G (NoSlot ∷ NumbersSpent ∷ []) (begin_by S a_query (clock G.txns) G)
  unfolding meets_settled done
  begins-query = begins S BeginQuery G a_query (clock G.txns) [] (λ s f n. grants S BeginQuery G _ (began_query s f n) refl)

  pub begins-relaxed : Goes S BeginRelaxed G (NoSlot ∷ NumbersSpent ∷ KeptApart ∷ []) (begin_by S a_relaxed first_stamp G)
  unfolding meets_settled When done
  begins-relaxed =
      begins S BeginRelaxed G a_relaxed first_stamp (KeptApart ∷ [])
      (λ s f n.
      tests S BeginRelaxed G KeptApart [] (some_settled S G.txns) _ (λ z. omega arith, λ z. omega arith)
      (λ e. inr (refl, some_settled_lem S G.txns (true_is e)))
      (λ e w. apart e w)
      (λ e. grants S BeginRelaxed G _ (began_relaxed s f n (λ r i h. false_is e (settled_some S G.txns r i h))) refl))
    where
      apart :
          some_settled S G.txns ≡ false
          → (IsSettle BeginRelaxed × ((q : ℕ) × (q < S.slots) × T (live_relaxed (txn G.txns q))))
          ⊎ ((BeginRelaxed ≡ BeginRelaxed) × ((s : ℕ) × (s < S.slots) × T (live_settled (txn G.txns s)))) → ⊥
      apart e (inl ((m, z), k)) = let y : ◌≡◌ {A = ℕ} 0 1 = cc in omega arith
      apart e (inr (z, (r, i, h))) = false_is e (settled_some S G.txns r i h)

-- ---- the calls that name a transaction: c names n and no other
module _ (S : Sizes) (G : Tables) (g : Good S G) (c : Call) (n : ℕ) (says-n : Names c n) (only-n : (m : ℕ) → Names c m → m ≡ n) where
  abbrev s : ℕ
  s = slot_of S G.txns n

  pub here : eqb s S.slots ≡ false → CallerIn c S G s
  here e = caller_is S G c n says-n e

  -- the caller is in the slot that is found
  there : (r : ℕ) → CallerIn c S G r → s ≡ r
  there r C = caller-found S G g r n C.inside C.alive (only-n _ C.named)

  pub names_tests :
      (rs : List Refusal) (d : Deed) → (eqb s S.slots ≡ false → Goes S c G rs d)
      → Goes S c G (UnknownTransaction ∷ rs) (cond (eqb s S.slots) (Refused UnknownTransaction) d)
  unfolding When
  names_tests rs d k =
      tests S c G UnknownTransaction rs (eqb s S.slots) d (λ z. omega arith, λ z. omega arith)
      (λ e r C. caller_none S G.txns n e r C.inside C.alive (only-n _ C.named))
      (λ e w. w s (here e))
      k

  -- a condition on the caller's row, brought to the slot that is found
  pub at_caller : (P : ℕ → Type 0) (r : ℕ) → CallerIn c S G r → P r → P s
  at_caller P r C h = subst P (sym (there r C)) h

  pub no_clock : T (is_reader (txn G.txns s)) → When S c G ClockSpent → ⊥
  unfolding When
  no_clock q w =
      (reader-live (txn G.txns s) q).1
      (update-live (txn G.txns s) (at_caller (λ (r : ℕ). T (live_update (txn G.txns r))) w.0 w.1 w.2)).1

  -- ---- read and write: c asks for a lock on x and no other
  module _ (a : Asked) (x : ℕ) (asks : Wants c (wanted a) x) (only-asks : (k y : ℕ) → Wants c k y → (k ≡ wanted a) × (y ≡ x)) where
    pub items_tests :
        (rs : List Refusal) (d : Deed) → (leb S.items x ≡ false → Goes S c G rs d)
        → Goes S c G (UnknownItem ∷ rs) (cond (leb S.items x) (Refused UnknownItem) d)
    unfolding When
    items_tests rs d h =
        tests S c G UnknownItem rs (leb S.items x) d (λ z. omega arith, λ z. omega arith)
        (λ e. (wanted a, x, asks, leb-true S.items x e))
        (λ e w. let l = leb-false S.items x e in let m = w.3 in let q = (only-asks w.0 w.1 w.2).1 in omega arith)
        h

    pub waits_tests :
        (rs : List Refusal) (d : Deed) → CallerIn c S G s → (awaits_other G.txns s (wanted a) x ≡ false → Goes S c G rs d)
        → Goes S c G (StillWaiting ∷ rs) (cond (awaits_other G.txns s (wanted a) x) (Refused StillWaiting) d)
    unfolding When awaits_other
    waits_tests rs d C h = tests S c G StillWaiting rs (awaits_other G.txns s (wanted a) x) d (λ z. omega arith, λ z. omega arith) yes no h
      where
        k : ℕ
        k = (txn G.txns s).awaited_lock

        y : ℕ
        y = (txn G.txns s).awaited_item

        same : Bool
        same = eqb k (wanted a) && eqb y x

        yes : awaits_other G.txns s (wanted a) x ≡ true → When S c G StillWaiting
        yes e = (
          s,
          C,
          ne_use k no_lock (and_left (not (eqb k no_lock)) (not same) (true_is e)),
          λ w. not_use same (and_right (not (eqb k no_lock)) (not same) (true_is e))
              (and_both (eqb k (wanted a)) (eqb y x) (eq_make k (wanted a) (only-asks k y w).0) (eq_make y x (only-asks k y w).1)),
        )

        again : T same → Wants c k y
        again t =
            subst (λ (j : ℕ). Wants c j y) (sym (eqb→eq k (wanted a) (and_left (eqb k (wanted a)) (eqb y x) t)))
            (subst (λ (z : ℕ). Wants c (wanted a) z) (sym (eqb→eq y x (and_right (eqb k (wanted a)) (eqb y x) t))) asks)

        no : awaits_other G.txns s (wanted a) x ≡ false → When S c G StillWaiting → ⊥
        no e w =
            let d = at_caller (λ (r : ℕ). (txn G.txns r).awaited_lock ≢ no_lock) w.0 w.1 w.2 in
            let m = at_caller (λ (r : ℕ). Wants c (txn G.txns r).awaited_lock (txn G.txns r).awaited_item → ⊥) w.0 w.1 w.3 in
            false_is e (and_both (not (eqb k no_lock)) (not same) (ne_make k no_lock d) (not_make same (λ t. m (again t))))

    -- a write past the writing, of what is not held
    pub past_tests :
        (rs : List Refusal) (d : Deed) → wanted a ≡ exclusive_lock → CallerIn c S G s → (IsSettle c → ⊥)
        → (writes_past G.txns G.locks s x ≡ false → Goes S c G rs d)
        → Goes S c G (PastWriting ∷ rs) (cond (writes_past G.txns G.locks s x) (Refused PastWriting) d)
    unfolding When writes_past
    past_tests rs d w C no-settle h =
        tests S c G PastWriting rs (writes_past G.txns G.locks s x) d (λ z. omega arith, λ z. omega arith)
        (λ e. (
          s,
          C,
          is_settled G.txns s C.alive (is_true _ (and_left (eqb (txn G.txns s).kind a_settled) _ (true_is e))),
          inl (x, subst (λ (k : ℕ). Wants c k x) w asks, not_use (holds_exclusive (lock G.locks x) s) (and_right (eqb (txn G.txns s).kind a_settled) _ (true_is e))),
        ))
        (λ e m. no e m.0 m.1 m.2 m.3)
        h
      where
        no :
            writes_past G.txns G.locks s x ≡ false → (r : ℕ) → CallerIn c S G r → T (live_settled (txn G.txns r))
            → ((y : ℕ) × Wants c exclusive_lock y × (T (holds_exclusive (lock G.locks y) r) → ⊥)) ⊎ IsSettle c → ⊥
        no e r D p (inr z) = no-settle z
        no e r D p (inl (y, m, n)) =
            false_is e
            (and_both (eqb (txn G.txns s).kind a_settled) _
            (eq_make _ a_settled (settled-kind G.txns s (at_caller (λ (i : ℕ). T (live_settled (txn G.txns i))) r D p)))
            (not_make (holds_exclusive (lock G.locks x) s)
            (subst (λ (z : ℕ). T (holds_exclusive (lock G.locks z) s) → ⊥) (only-asks exclusive_lock y m).1
            (at_caller (λ (i : ℕ). T (holds_exclusive (lock G.locks y) i) → ⊥) r D n))))

    -- an update's write of a further item
    pub quota_tests :
        (rs : List Refusal) (d : Deed) → wanted a ≡ exclusive_lock → CallerIn c S G s
        → ((T (holds_exclusive (lock G.locks x) s) → ⊥) → T (live_update (txn G.txns s)))
        → (writes_further S G.locks s x ≡ false → Goes S c G rs d)
        → Goes S c G (QuotaSpent ∷ rs) (cond (writes_further S G.locks s x) (Refused QuotaSpent) d)
    unfolding When
    quota_tests rs d w C up h =
        tests S c G QuotaSpent rs (writes_further S G.locks s x) d (λ z. omega arith, λ z. omega arith)
        (λ e. let f = further→ S G.locks s x e in (s, x, C, up f.1, subst (λ (k : ℕ). Wants c k x) w asks, f.0, f.1))
        (λ e m. no e m.0 m.1 m.2 m.4 m.5 m.6)
        h
      where
        no :
            writes_further S G.locks s x ≡ false → (r y : ℕ) → CallerIn c S G r → Wants c exclusive_lock y → exclusives_of S G.locks r ≡ S.quota
            → (T (holds_exclusive (lock G.locks y) r) → ⊥) → ⊥
        no e r y D m q d =
            has_room S G.locks s x e
            (subst (λ (z : ℕ). T (holds_exclusive (lock G.locks z) s) → ⊥) (only-asks exclusive_lock y m).1
            (at_caller (λ (i : ℕ). T (holds_exclusive (lock G.locks y) i) → ⊥) r D d))
            (at_caller (λ (i : ℕ). exclusives_of S G.locks i ≡ S.quota) r D q)

    -- whoever is in conflict is the caller, with what it asks for
    conflict_here : (r k y : ℕ) → ConflictIn c S G r k y → NeedsLock (lock G.locks x) (wanted a) s × T (blocked_for S G.txns G.locks (wanted a) x s)
    conflict_here r k y C =
        let p = only-asks k y C.wants in
        let e = there r C.caller in (
          subst (λ (z : ℕ). NeedsLock (lock G.locks z) (wanted a) s) p.1
              (subst (λ (z : ℕ). NeedsLock (lock G.locks y) z s) p.0 (subst (λ (z : ℕ). NeedsLock (lock G.locks y) k z) (sym e) C.further)),
          (blocked-other S G.txns G.locks (wanted a) x s).1 (
            C.other,
            C.other_inside,
            subst (λ (z : ℕ). T (blocks G.txns G.locks (wanted a) z (rank_for S G.txns G.locks s z) s C.other)) p.1
                (subst (λ (z : ℕ). T (blocks G.txns G.locks z y (rank_for S G.txns G.locks s y) s C.other)) p.0
                (subst (λ (z : ℕ). T (blocks G.txns G.locks k y (rank_for S G.txns G.locks z y) z C.other)) (sym e) C.other_blocks)),
          ),
        )

    circle_here : (r k y : ℕ) → ConflictIn c S G r k y → Circle S G r k y → Circle S G s (wanted a) x
    circle_here r k y C w =
        let p = only-asks k y C.wants in
        let e = there r C.caller in
        subst (λ (z : ℕ). Circle S G s (wanted a) z) p.1
        (subst (λ (z : ℕ). Circle S G s z y) p.0 (subst (λ (z : ℕ). Circle S G z k y) (sym e) w))

    -- an update in no conflict is granted; one in conflict waits, or is refused where its wait would close a circle
    module _ (C : CallerIn c S G s) (up : T (live_update (txn G.txns s))) (known : x < S.items) where
      pub free :
          (d : Deed) → (NeedsLock (lock G.locks x) (wanted a) s → T (blocked_for S G.txns G.locks (wanted a) x s) → ⊥)
          → Way S G c d → (done S d G).answer.code ≡ granted → Goes S c G (Deadlock ∷ Wait ∷ []) d
      free d b w e =
          unblocked S c G d (λ r k y K. let m = conflict_here r k y K in b m.0 m.1)
          (λ r y K. writer_here r K.caller K.reader) w e
        where
          -- an update that writes reads by no start
          writer_here : (r : ℕ) → CallerIn c S G r → T (by_start (txn G.txns r)) → ⊥
          writer_here r D h = update_no_reader (txn G.txns s) up (start-reads (txn G.txns s) (at_caller (λ (i : ℕ). T (by_start (txn G.txns i))) r D h))

      pub conflicting :
          NeedsLock (lock G.locks x) (wanted a) s → T (blocked_for S G.txns G.locks (wanted a) x s)
          → ((Circle S G s (wanted a) x → ⊥) → Way S G c (Waits (as_slot s) (wanted a) (as_item x)))
          → Goes S c G (Deadlock ∷ Wait ∷ []) (conflicted S s (wanted a) x G)
      unfolding conflicted When Answered done
      conflicting n t w =
          tests S c G Deadlock (Wait ∷ []) (circle_at S (noted S G.txns G.locks s (wanted a) x) G.locks s) _ (λ z. omega arith, λ z. omega arith)
          (λ e. (s, wanted a, x, K, I.0 (true_is e)))
          (λ e w. false_is e (I.1 (circle_here w.0 w.1 w.2 w.3 w.4)))
          (λ e. (w (λ z. false_is e (I.1 z)), inl (inl (s, wanted a, x, K, λ w. false_is e (I.1 w)), refl)))
        where
          I : T (circle_at S (noted S G.txns G.locks s (wanted a) x) G.locks s) ↔ Circle S G s (wanted a) x
          I = circle_is S G g s (wanted a) x C.inside known (wanted-lock a)

          K : ConflictIn c S G s (wanted a) x
          K =
              let o = (blocked-other S G.txns G.locks (wanted a) x s).0 t in
              record { caller = C; update = up; wants = asks; further = n; other = o.0; other_inside = o.1; other_blocks = o.2 }
