-- Request E11: an update is in a set after a call exactly if it was in it, and the query lives on, or it joined in one of the three ways.
use Prim.Native.Nat.{ℕ, suc, ◌+◌, ◌≤◌, ◌<◌}
use mathlib.Core.Path.{◌≡◌, refl, sym, ap, ◌∙◌, subst}
use mathlib.Core.Logic.{◌≢◌, ◌⊎◌, inl, inr, ⊎_elim}
use mathlib.Core.List.{List}
use native.Mathlib.Omega.{arith}
use lib.ListN.{length, set, length-set}
use lib.Bits.{bit_or}
use lib.Dec.{T, eqb→eq}
use Rattle.names.specs.declared.Sizes.{Sizes}
use Rattle.names.specs.Layout.{txn_head, last_number_at, clock_at}
use Rattle.rules.specs.Words.{bit, without_bit}
use Rattle.rules.specs.Tables.{Tables, txn_words, clock, Txn, txn, set_txn, new_txn, no_txn, live, live_update, live_settled, live_relaxed, is_reader}
use Rattle.rules.specs.Tables.{a_settled, a_relaxed, shared_lock, exclusive_lock, lock, holds, holds_shared, holds_exclusive}
use Rattle.rules.specs.Versions.{hidden_now}
use Rattle.rules.specs.Waits.{noted, closed_up}
use Rattle.rules.specs.Good.{Good}
use Rattle.rules.specs.Answers.{Outcome, Call, Read, Deed, granted, code, Wait}
use Rattle.rules.specs.Step.{act, step, judged, done, begun, cleared, joined, asking_joins, grant_joins, read_noted, counted, forgotten, locked, locked_anew, committed_under, committed, settled_committed, ended}
use Rattle.rules.specs.Step.{aborted, settled_aborted, settled, version_read}
use Rattle.rules.specs.Conditions.{Caller, Free, CallerIn, Names, Wants}
use Rattle.rules.specs.Changed.{looked_at}
use Rattle.rules.specs.Promises.{JoinsExactly}
use Rattle.rules.proofs.Tests.{same?, or_left, or_right, eq_make}
use Rattle.rules.proofs.Bits.{or_in, or_in_left, or_in_right, without-bit, bit-without}
use Rattle.rules.proofs.Views.{txn-set_txn, txn-set_txn-other, txn-top}
use Rattle.rules.proofs.RowKinds.{update-live, settled-live, relaxed-live, live-relaxed, relaxed-reads, settled-reads, start-reads, update_no_reader}
use Rattle.rules.proofs.Noting.{noted-size, noted-keeps, closed-length, closed-row}
use Rattle.rules.proofs.EqualSets.{read→, →read}
use Rattle.rules.proofs.Joined.{joined_length, joined_grows, joined_in, joined-only, forgotten-length, forgotten-row}
use Rattle.rules.proofs.ReadNoted.{noted_none, holder_inside, read_length, read_sets, read-joins, read_grows}
use Rattle.rules.proofs.Taken.{asking_sets, asking_in}
use Rattle.rules.proofs.Waited.{cleared-keeps}
use Rattle.rules.proofs.Counting.{counted_same}
use Rattle.rules.proofs.Steps.{acts}
use Rattle.rules.proofs.Judged.{way}
use Rattle.rules.proofs.Keeps.{keeps}
use Rattle.rules.proofs.Waiting.{one_want, one_caller}
use Rattle.rules.proofs.Ways.{refusal-code, Way, refused, waited, began_update, began_query, began_relaxed, read_own, read_newest, read_shared, read_settled, read_version}
use Rattle.rules.proofs.Ways.{wrote_own, wrote_settled, wrote_taken, committed_update, committed_empty, committed_settled, committed_query, aborted_update, aborted_settled, aborted_query, settled_update, kept_waiting}

module _
    (S : Sizes) (G : Tables) (g : Good S G) (s q : ℕ) (inside : s < S.slots) (inside' : q < S.slots) (update : T (live_update (txn G.txns s)))
  where
    abbrev t : List ℕ
    t = G.txns

    abbrev l : List ℕ
    l = G.locks

    -- slot s is in the set of slot q, before and after
    abbrev In : List ℕ → Type 0
    In u = T (bit (txn u s).later_for q)

    -- the three ways to join, of a call that is answered k
    abbrev Asks : Call → ℕ → Type 0
    Asks c k =
        (x : ℕ) × CallerIn c S G s × Wants c exclusive_lock x × ((k ≡ granted) ⊎ (k ≡ code Wait)) × T (bit (txn t q).items_read x)

    abbrev Reads : Call → ℕ → Type 0
    Reads c k =
        (x : ℕ) × CallerIn c S G q × T (live_relaxed (txn t q)) × Wants c shared_lock x × (k ≡ granted) × T (holds_exclusive (lock l x) s)

    abbrev Meets : Call → ℕ → Type 0
    Meets c k = (j : ℕ) × (x : ℕ) × CallerIn c S G s × Wants c j x × (k ≡ granted) × T (bit (hidden_now S G.versions x) q)

    abbrev Joins : Call → ℕ → Type 0
    Joins c k = Asks c k ⊎ (Reads c k ⊎ Meets c k)

    -- what is shown of every way: c is answered k and leaves the transactions u
    record Moves (c : Call) (k : ℕ) (u : List ℕ) : Type 0 where
      pub only : In u → In t ⊎ Joins c k
      pub stays : In t → T (live_relaxed (txn u q)) → In u
      pub joins : Joins c k → In u

    -- ---- who joins calls, or is the query that does
    wants : {c : Call} {k : ℕ} → Joins c k → (j : ℕ) × (x : ℕ) × Wants c j x
    wants {c} {k} (inl a) = (exclusive_lock, a.0, a.2)
    wants {c} {k} (inr (inl a)) = (shared_lock, a.0, a.3)
    wants {c} {k} (inr (inr a)) = (a.0, a.1, a.3)

    -- of an asking that is not granted, none but who asks to write what was read
    mere : {c : Call} {k : ℕ} → k ≢ granted → Joins c k → Asks c k × (k ≡ code Wait)
    mere {c} {k} n (inl a) = (a, ⊎_elim (λ e. absurd (n e)) (λ e. e) a.3)
    mere {c} {k} n (inr (inl a)) = absurd (n a.4)
    mere {c} {k} n (inr (inr a)) = absurd (n a.4)

    -- of a caller r that is not relaxed
    abbrev Cause : Call → Type 0
    Cause c =
        ((x : ℕ) × Wants c exclusive_lock x × T (bit (txn t q).items_read x))
        ⊎ ((j : ℕ) × (x : ℕ) × Wants c j x × T (bit (hidden_now S G.versions x) q))

    caller-joins : (c : Call) (k r : ℕ) → CallerIn c S G r → (T (live_relaxed (txn t r)) → ⊥) → Joins c k → (s ≡ r) × Cause c
    caller-joins c k r C n (inl a) = (one_caller S G g c s r a.1 C, inl (a.0, a.2, a.4))
    caller-joins c k r C n (inr (inl a)) = absurd (n (subst (λ (m : ℕ). T (live_relaxed (txn t m))) (one_caller S G g c q r a.1 C) a.2))
    caller-joins c k r C n (inr (inr a)) = (one_caller S G g c s r a.2 C, inr (a.0, a.1, a.3, a.5))

    -- who reads versions, is past its writing or waits silently is no update, and joins nothing by itself
    reader_not : (r : ℕ) → T (is_reader (txn t r)) → s ≢ r
    reader_not r h e = update_no_reader (txn t r) (subst (λ (m : ℕ). T (live_update (txn t m))) e update) h

    writer_strict : (r : ℕ) → T (live_update (txn t r)) → T (live_relaxed (txn t r)) → ⊥
    writer_strict r u h = update_no_reader (txn t r) u (relaxed-reads (txn t r) h)

    settled_strict : (r : ℕ) → T (live_settled (txn t r)) → T (live_relaxed (txn t r)) → ⊥
    settled_strict r p h = let a = (settled-live (txn t r) p).1 in let b = (relaxed-live (txn t r) h).1 in omega arith

    in_call : (c : Call) (n r : ℕ) → Names c n → Caller S G n r → CallerIn c S G r
    in_call c n r e C = record { inside = C.inside; alive = C.alive; named = subst (Names c) (sym C.name) e }

    -- one past its writing joins nothing
    past : (c : Call) (n r : ℕ) → Names c n → Caller S G n r → T (live_settled (txn t r)) → Joins c granted → In t
    past c n r e C p J =
        absurd (reader_not r (settled-reads (txn t r) p) (caller-joins c granted r (in_call c n r e C) (settled_strict r p) J).0)

    either : (x r : ℕ) → T (holds_exclusive (lock l x) r) → T (holds (lock l x) r)
    unfolding holds
    either x r e = or_right (holds_shared (lock l x) r) _ e

    -- ---- the row of s keeps its sets, and whatever is a cause to join finds it joined
    quiet : (c : Call) (k : ℕ) (u : List ℕ) → (txn u s).later_for ≡ (txn t s).later_for → (Joins c k → In t) → Moves c k u
    quiet c k u e f =
        let there : In t → In u = λ b. subst (λ (w : ℕ). T (bit w q)) (sym e) b in
        record { only = λ b. inl (subst (λ (w : ℕ). T (bit w q)) e b); stays = λ b h. there b; joins = λ j. there (f j) }

    -- the row of s is as it was
    same : (c : Call) (k : ℕ) (u : List ℕ) → txn u s ≡ txn t s → (Joins c k → In t) → Moves c k u
    same c k u e f = quiet c k u (ap (λ (r : Txn). r.later_for) e) f

    -- ---- each kind of change
    cleared_moves : (c : Call) (k r : ℕ) → r < S.slots → (Joins c k → In t) → Moves c k (cleared S t r)
    cleared_moves c k r i f =
        quiet c k (cleared S t r) (cleared-keeps S t g.txns_exact r i (λ (r : Txn). r.later_for) (λ r k x p. refl) (λ r p. refl) s inside) f

    -- a row that is written at a begin, or goes, is not that of an update that lives on
    other : (u : List ℕ) (r : ℕ) (R : Txn) → length u ≡ txn_words S → r < S.slots → (T (live_update R) → ⊥) → T (live_update (txn (set_txn u r R) s)) → s ≢ r
    other u r R size i n h e =
        n
        (subst (λ (w : Txn). T (live_update w)) (txn-set_txn u r R S size i)
        (subst (λ (m : ℕ). T (live_update (txn (set_txn u r R) m))) e h))

    gone : T (live_update no_txn) → ⊥
    unfolding live_update live
    gone h = h

    past_no_update : (n q : ℕ) → T (live_update (new_txn n a_settled q)) → ⊥
    past_no_update n q h = let e = (update-live (new_txn n a_settled q) h).1 in omega arith

    written_moves :
        (c : Call) (k : ℕ) (u : List ℕ) (r : ℕ) (R : Txn) → length u ≡ txn_words S → r < S.slots → (T (live_update R) → ⊥)
        → (txn u s).later_for ≡ (txn t s).later_for → (Joins c k → In t) → T (live_update (txn (set_txn u r R) s)) → Moves c k (set_txn u r R)
    written_moves c k u r R size i n e f h =
        quiet c k (set_txn u r R) (ap (λ (w : Txn). w.later_for) (txn-set_txn-other u r R s (other u r R size i n h)) ∙ e) f

    top_moves :
        (c : Call) (k w v r : ℕ) (R : Txn) → w < txn_head → r < S.slots → (T (live_update R) → ⊥) → (Joins c k → In t)
        → T (live_update (txn (set_txn (set t w v) r R) s)) → Moves c k (set_txn (set t w v) r R)
    top_moves c k w v r R a i n f h =
        written_moves c k (set t w v) r R (length-set t w v ∙ g.txns_exact) i n (ap (λ (r : Txn). r.later_for) (txn-top t w v s a)) f h

    -- a new row in a free slot
    begun_moves : (c : Call) (k r w : ℕ) (R : Txn) → Free S t r → (Joins c k → In t) → Moves c k (set_txn (set t last_number_at w) r R)
    begun_moves c k r w R F f =
        same c k (set_txn (set t last_number_at w) r R)
        (txn-set_txn-other (set t last_number_at w) r R s (λ e. F.free (subst (λ (m : ℕ). T (live (txn t m))) e (update-live (txn t s) update).0))
        ∙ txn-top t last_number_at w s (omega arith)) f

    aborted_moves :
        (c : Call) (k r : ℕ) → r < S.slots → (Joins c k → In t) → T (live_update (txn (set_txn (closed_up S t r) r no_txn) s)) → Moves c k (set_txn (closed_up S t r) r no_txn)
    aborted_moves c k r i f h =
        written_moves c k (closed_up S t r) r no_txn (closed-length S t r ∙ g.txns_exact) i gone
        (ap (λ (r : Txn). r.later_for) (closed-row S t r g.txns_exact s inside)) f h

    -- slot r joins the sets of m
    joined_moves :
        (c : Call) (k : ℕ) (u : List ℕ) (r m : ℕ) → length u ≡ txn_words S → r < S.slots → (txn u s).later_for ≡ (txn t s).later_for
        → (s ≡ r → T (bit m q) → Joins c k) → (Joins c k → (s ≡ r) × T (bit m q)) → Moves c k (joined u r m)
    joined_moves c k u r m size i e to from =
        record {
          only = λ b. ⊎_elim (λ a. inl (subst (λ (w : ℕ). T (bit w q)) e a)) (λ a. inr (to a.0 a.1)) (joined-only u r m S size i s q b);
          stays = λ b h. joined_grows u r m S size i s q (subst (λ (w : ℕ). T (bit w q)) (sym e) b);
          joins = λ j.
              let a = from j in
              subst (λ (w : ℕ). T (bit (txn (joined u r m) w).later_for q)) (sym a.0) (joined_in u r m S size i q a.1);
        }

    -- and then the awaited fields are cleared
    then_cleared : (c : Call) (k : ℕ) (u : List ℕ) (r : ℕ) → length u ≡ txn_words S → r < S.slots → Moves c k u → Moves c k (cleared S u r)
    unfolding live_relaxed live
    then_cleared c k u r size i M =
        let e = cleared-keeps S u size r i (λ (r : Txn). r.later_for) (λ r k x p. refl) (λ r p. refl) s inside in
        let e' = cleared-keeps S u size r i live_relaxed (λ r k x p. refl) (λ r p. refl) q inside' in
        let back : In u → In (cleared S u r) = λ b. subst (λ (w : ℕ). T (bit w q)) (sym e) b in
        record {
          only = λ b. M.only (subst (λ (w : ℕ). T (bit w q)) e b);
          stays = λ b h. back (M.stays b (subst T e' h));
          joins = λ j. back (M.joins j);
        }

    -- ---- the update r that wants a lock of kind j on the item x
    module _ (c : Call) (k r j x : ℕ) (C : CallerIn c S G r) (u : T (live_update (txn t r))) (w : Wants c j x) where
      -- it is in the sets already that it might join
      held : (T (holds (lock l x) r)) → (j ≡ exclusive_lock → T (holds_exclusive (lock l x) r)) → x < S.items → Joins c k → In t
      held h e i J = go (caller-joins c k r C (writer_strict r u) J)
        where
          go : (s ≡ r) × Cause c → In t
          go (z, inl a) =
              let p = one_want c j exclusive_lock x a.0 w a.1 in
              g.sets_good.holds_read x s q i inside' (subst (λ (m : ℕ). T (holds_exclusive (lock l x) m)) (sym z) (e p.0))
              (subst (λ (y : ℕ). T (bit (txn t q).items_read y)) (sym p.1) a.2)
          go (z, inr a) =
              let p = one_want c j a.0 x a.1 w a.2 in
              g.sets_good.holds_hidden x s q i (subst (λ (m : ℕ). T (holds (lock l x) m)) (sym z) h)
              (subst (λ (y : ℕ). T (bit (hidden_now S G.versions y) q)) (sym p.1) a.3)

      here : s ≡ r → CallerIn c S G s
      here z = subst (CallerIn c S G) (sym z) C

      -- what it joins where it asks to write
      asks : (k ≡ granted) ⊎ (k ≡ code Wait) → s ≡ r → T (bit (asking_joins S t j x) q) → Asks c k
      asks a z b =
          let p = asking_sets S t j x q b in
          (x, here z, subst (λ (m : ℕ). Wants c m x) p.0 w, a, (read→ S t x q p.1).1)

      asked : ((y : ℕ) × Wants c exclusive_lock y × T (bit (txn t q).items_read y)) → T (bit (asking_joins S t j x) q)
      asked a =
          let p = one_want c j exclusive_lock x a.0 w a.1 in
          asking_in S t j x q p.0 (→read S t x q inside' (subst (λ (y : ℕ). T (bit (txn t q).items_read y)) (sym p.1) a.2))

      -- a wait
      waited_moves : k ≡ code Wait → Moves c k (joined (noted S t l r j x) r (asking_joins S t j x))
      waited_moves e =
          joined_moves c k (noted S t l r j x) r (asking_joins S t j x) (noted-size S t l r j x ∙ g.txns_exact) C.inside
          (noted-keeps S t l r j x g.txns_exact C.inside (λ (r : Txn). r.later_for) (λ r k x p. refl) (λ r p. refl) s inside)
          (λ z b. inl (asks (inr e) z b))
          (λ J. let a = (mere (λ z. omega arith) J).0 in (one_caller S G g c s r a.1 C, asked (a.0, a.2, a.4)))

      -- a grant of a further lock
      anew_moves : k ≡ granted → Moves c k (cleared S (joined t r (grant_joins S G j x)) r)
      unfolding grant_joins
      anew_moves e =
          then_cleared c k (joined t r (grant_joins S G j x)) r (joined_length t r (grant_joins S G j x) ∙ g.txns_exact) C.inside
          (joined_moves c k t r (grant_joins S G j x) g.txns_exact C.inside refl
          (λ z b. ⊎_elim
          (λ a. inl (asks (inl e) z a))
          (λ a. inr (inr (j, x, here z, w, e, a)))
          (or_in (asking_joins S t j x) (hidden_now S G.versions x) q b))
          (λ J. let p = caller-joins c k r C (writer_strict r u) J in (p.0, to p.1)))
        where
          to : Cause c → T (bit (bit_or (asking_joins S t j x) (hidden_now S G.versions x)) q)
          to (inl a) = or_in_left (asking_joins S t j x) (hidden_now S G.versions x) q (asked a)
          to (inr a) =
              let p = one_want c j a.0 x a.1 w a.2 in
              or_in_right (asking_joins S t j x) (hidden_now S G.versions x) q
              (subst (λ (y : ℕ). T (bit (hidden_now S G.versions y) q)) (sym p.1) a.3)

    -- ---- a read of a version, by the query or the one past its writing in slot r
    read_moves :
        (n r x v : ℕ) → Caller S G n r → T (is_reader (txn t r)) → x < S.items → Moves (Read n x) granted (counted (read_noted t l r x) r v)
    unfolding holds_exclusive
    read_moves n r x v C reads i = go (same? (txn t r).kind a_relaxed)
      where
        u : List ℕ
        u = read_noted t l r x

        C' : CallerIn (Read n x) S G r
        C' = in_call (Read n x) n r refl C

        size : length u ≡ txn_words S
        size = read_length S t l r x g.txns_exact C.inside (holder_inside S G g r C.inside x i) ∙ g.txns_exact

        counts : (txn (counted u r v) s).later_for ≡ (txn u s).later_for
        counts = counted_same u r v S size C.inside (λ (r : Txn). r.later_for) (λ r n w. refl) s

        back : In u → In (counted u r v)
        back b = subst (λ (w : ℕ). T (bit w q)) (sym counts) b

        go : ((txn t r).kind ≡ a_relaxed) ⊎ ((txn t r).kind ≢ a_relaxed) → Moves (Read n x) granted (counted (read_noted t l r x) r v)
        go (inr d) =
            quiet (Read n x) granted (counted u r v) (counts ∙ ap (λ (w : List ℕ). (txn w s).later_for) (noted_none t l r x d))
            (λ J. absurd (reader_not r reads (caller-joins (Read n x) granted r C' (λ h. d (relaxed-live (txn t r) h).1) J).0))
        go (inl z) =
            record {
              only = λ b. ⊎_elim
                  (λ a. inl a)
                  (λ a.
                  inr
                  (inr
                  (inl (x, subst (CallerIn (Read n x) S G) (sym a.1) C', subst (λ (m : ℕ). T (live_relaxed (txn t m))) (sym a.1) (live-relaxed (txn t r) C.alive z), (refl, refl), refl, eq_make (lock l x).exclusive (suc s) a.0))))
                  (read_sets S t l r x g.txns_exact C.inside (holder_inside S G g r C.inside x i) z s q (subst (λ (w : ℕ). T (bit w q)) counts b));
              stays = λ b h. back (read_grows S t l r x g.txns_exact C.inside (holder_inside S G g r C.inside x i) s q b);
              joins = met;
            }
          where
            met : Joins (Read n x) granted → In (counted u r v)
            met (inl a) = absurd (let e = a.2.0 in omega arith)
            met (inr (inr a)) = absurd (reader_not r reads (one_caller S G g (Read n x) s r a.2 C'))
            met (inr (inl a)) =
                let e = eqb→eq (lock l a.0).exclusive (suc s) a.5 in
                back
                (subst (λ (m : ℕ). T (bit (txn u s).later_for m)) (sym (one_caller S G g (Read n x) q r a.1 C'))
                (read-joins S t l r x g.txns_exact C.inside (holder_inside S G g r C.inside x i) z s (ap (λ (y : ℕ). (lock l y).exclusive) a.3.1 ∙ e)))

    -- ---- a query's end: nobody is in its set any more
    ended_moves :
        (c : Call) (k r : ℕ) → r < S.slots → (Joins c k → ⊥) → T (live_update (txn (set_txn (forgotten S r t) r no_txn) s)) → Moves c k (set_txn (forgotten S r t) r no_txn)
    unfolding live_relaxed live
    ended_moves c k r i n h =
        record {
          only = λ b. inl (without-bit (txn t s).later_for r q (subst (λ (w : ℕ). T (bit w q)) row b)).1;
          stays = λ b a.
              subst (λ (w : ℕ). T (bit w q)) (sym row)
              (bit-without (txn t s).later_for r q
              (λ e. subst (λ (w : Txn). T (live_relaxed w)) (txn-set_txn u r no_txn S size i) (subst (λ (m : ℕ). T (live_relaxed (txn (set_txn u r no_txn) m))) e a)) b);
          joins = λ J. absurd (n J);
        }
      where
        u : List ℕ
        u = forgotten S r t

        size : length u ≡ txn_words S
        size = forgotten-length S r t ∙ g.txns_exact

        row : (txn (set_txn u r no_txn) s).later_for ≡ without_bit (txn t s).later_for r
        row =
            ap (λ (w : Txn). w.later_for) (txn-set_txn-other u r no_txn s (other u r no_txn size i gone h))
            ∙ ap (λ (w : Txn). w.later_for) (forgotten-row S r t g.txns_exact s inside)

    -- ---- every way
    abbrev After : Deed → List ℕ
    After d = (done S d G).after.txns

    way_moves : (c : Call) (d : Deed) → Way S G c d → T (live_update (txn (After d) s)) → Moves c (done S d G).answer.code (After d)
    unfolding done version_read begun locked locked_anew committed_under committed settled_committed ended aborted settled_aborted settled live_update live
    way_moves c d (refused r m) h = same c (code r) t refl (λ J. absurd (m.1 (mere (refusal-code r) J).1))
    way_moves c d (kept_waiting r C b) h =
        same c (code Wait) t refl (λ J. absurd (reader_not r (start-reads (txn t r) b) (one_caller S G g c s r (mere (refusal-code Wait) J).0.1 C)))
    way_moves c d (waited r k x w) h = waited_moves c (code Wait) r k x w.caller w.update w.wants refl
    way_moves c d (began_update r F n) h = begun_moves c granted r _ _ F (λ J. absurd (wants J).2)
    way_moves c d (began_query r F n) h = begun_moves c granted r _ _ F (λ J. absurd (wants J).2)
    way_moves c d (began_relaxed r F n a) h = begun_moves c granted r _ _ F (λ J. absurd (wants J).2)
    way_moves c d (read_own n r x U e) h =
        cleared_moves c granted r U.caller.inside
        (held c granted r shared_lock x (in_call c n r refl U.caller) U.update (refl, refl) (either x r e) (λ z. absurd (omega arith)) U.known)
    way_moves c d (read_newest n r x U e) h =
        cleared_moves c granted r U.caller.inside
        (held c granted r shared_lock x (in_call c n r refl U.caller) U.update (refl, refl) (unfold holds in (or_left (holds_shared (lock l x) r) _ e)) (λ z. absurd (omega arith)) U.known)
    way_moves c d (read_shared n r x U e f) h = anew_moves c granted r shared_lock x (in_call c n r refl U.caller) U.update (refl, refl) refl
    way_moves c d (read_settled n r x C p i e) h = cleared_moves c granted r C.inside (past c n r refl C p)
    way_moves c d (read_version n r x C q i o b) h = read_moves n r x (looked_at S G r x) C q i
    way_moves c d (wrote_own n r x v U e) h =
        cleared_moves c granted r U.caller.inside
        (held c granted r exclusive_lock x (in_call c n r refl U.caller) U.update (refl, refl) (either x r e) (λ z. e) U.known)
    way_moves c d (wrote_settled n r x v C p i e) h = cleared_moves c granted r C.inside (past c n r refl C p)
    way_moves c d (wrote_taken n r x v U e f m) h = anew_moves c granted r exclusive_lock x (in_call c n r refl U.caller) U.update (refl, refl) refl
    way_moves c d (committed_empty n r C u i e) h = aborted_moves c granted r C.inside (λ J. absurd (wants J).2) h
    way_moves c d (committed_update n r C u i v w) h = top_moves c granted clock_at _ r no_txn (omega arith) C.inside gone (λ J. absurd (wants J).2) h
    way_moves c d (committed_settled n r C p) h = written_moves c granted t r no_txn g.txns_exact C.inside gone refl (λ J. absurd (wants J).2) h
    way_moves c d (committed_query n r C q) h = ended_moves c granted r C.inside (λ J. (wants J).2) h
    way_moves c d (aborted_update n r C u) h = aborted_moves c granted r C.inside (λ J. absurd (wants J).2) h
    way_moves c d (aborted_settled n r C p) h = written_moves c granted t r no_txn g.txns_exact C.inside gone refl (λ J. absurd (wants J).2) h
    way_moves c d (aborted_query n r C q) h = ended_moves c granted r C.inside (λ J. (wants J).2) h
    way_moves c d (settled_update n r C u i v a) h =
        top_moves c granted clock_at _ r _ (omega arith) C.inside (past_no_update (txn t r).number (clock t + 1)) (λ J. absurd (wants J).2) h

-- ---- told of `step`
pub joins_exactly : (S : Sizes) → S.slots ≤ S.places → JoinsExactly S
unfolding act
joins_exactly S enough c G s q g inside inside' update update' = (
  λ b. ⊎_elim (λ a. inl (a, ((keeps S enough c G g).sets_good.of_relaxed s q inside b).1)) (λ j. inr j) (M.only b),
  λ w. ⊎_elim (λ a. M.stays a.0 a.1) (λ j. M.joins j) w,
)
  where
    M : Moves S G g s q inside inside' update c (step S c G).answer.code (step S c G).after.txns
    M =
        subst (λ (o : Outcome). Moves S G g s q inside inside' update c o.answer.code o.after.txns) (sym (acts S c G g))
        (way_moves S G g s q inside inside' update c (judged S c G) (way S G g c)
        (subst (λ (o : Outcome). T (live_update (txn o.after.txns s))) (acts S c G g) update'))
