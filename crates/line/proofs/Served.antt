-- Who waits in line is served: the invariant holds where the request waits first, every call carries it on, and where all who were before
-- have ended it leaves nobody in the way.
use Prim.Native.Nat.{ℕ, ◌≤◌, ◌<◌}
use mathlib.Core.Path.{◌≡◌, refl, sym, ap, ◌∙◌, subst}
use mathlib.Core.Logic.{◌≢◌, ◌⊎◌, inl, inr}
use mathlib.Core.Bool.{Bool, true, false, ◌&&◌, not}
use mathlib.Core.List.{List, [], ◌∷◌}
use native.Mathlib.Omega.{arith}
use lib.Dec.{T, eqb, ltb}
use borrow.Author.Tests.{ltb-true, ltb-false, ne_eqb}
use Rattle.names.specs.declared.Sizes.{Sizes}
use Rattle.rules.specs.Tables.{Tables, Txn, txn, live, live_update, is_reader, by_start, an_update, a_relaxed, no_lock, lock, holds, exclusives_of, fresh}
use Rattle.rules.specs.Waits.{awaits, awaits_on, rank_for, conflicts, ahead, noted}
use Rattle.rules.specs.Good.{Good}
use Rattle.rules.specs.Locks.{Asked, to_read, to_write, wanted}
use Rattle.rules.specs.Answers.{Call, Abort, Outcome, granted, code}
use Rattle.rules.specs.Step.{act, step, judged, awaits_other, writes_further, with_txns, joined, asking_joins}
use Rattle.rules.specs.Conditions.{CallerIn, Names, Wants}
use Rattle.rules.specs.Promises.{code_of, after, asking, Passes, SameButRank}
use Rattle.rules.proofs.Tests.{true_is, false_is, is_false, and_right, and_both, not_use, eq_make, ne_make, same?}
use Rattle.rules.proofs.EqualRows.{holder, holder_live, update-live, update-holds, reader-live}
use Rattle.rules.proofs.Callers.{is_writer, is_reader_lem}
use Rattle.rules.proofs.EqualRanks.{awaits→, awaits_on→}
use Rattle.rules.proofs.Walks.{ahead→, blocks→, conflicts→holds}
use Rattle.rules.proofs.RowKinds.{start-reads, live-relaxed}
use Rattle.rules.proofs.Joined.{joined-beside}
use Rattle.rules.proofs.Relaxed.{relaxed_never_waits}
use Rattle.rules.proofs.Noting.{rank-known, noted-known, noted_here, noted-size}
use Rattle.rules.proofs.Views.{awaiting}
use Rattle.rules.proofs.Waited.{only_this}
use Rattle.rules.proofs.Refused.{NotedDown, HeldSilently, wait_is}
use Rattle.rules.proofs.Granted.{granted_exactly}
use Rattle.rules.proofs.Calls.{update_aborts}
use Rattle.rules.proofs.Decisions.{wanted-lock}
use Rattle.rules.proofs.Judged.{way}
use Rattle.rules.proofs.Keeps.{keeps}
use Rattle.rules.proofs.Steps.{acts}
use Rattle.rules.proofs.Waiting.{stays_waiting, one_caller, one_want}
use Rattle.history.specs.Runs.{end_of}
use Rattle.history.proofs.Seen.{reads_by_start_lem}
use Rattle.history.proofs.Happens.{good-run, run-good}
use Rattle.line.specs.Served.{Waiting, Before, Gone, Exchange, EveryCall, Served, WaitsOn, WaitsFrom, ServedInRuns}
use Rattle.line.proofs.Outsiders.{Outside, Inv, wait_beside, waits_here, same_wait}
use Rattle.line.proofs.Turns.{turn}
use Rattle.line.proofs.Readers.{reader-served}

-- who waits for an item lives
waiter_lives : (S : Sizes) (G : Tables) → Good S G → (b : ℕ) → b < S.slots → T (awaits (txn G.txns b)) → T (live (txn G.txns b))
unfolding live
waiter_lives S G g b i h =
    ne_make (txn G.txns b).number 0 (λ e. awaits→ (txn G.txns b) h (ap (λ (r : Txn). r.awaited_lock) ((g.txn_good b i).free e)))

-- ---- where it waits first
module _ (S : Sizes) (G : Tables) (g : Good S G) (a : Asked) (n s x : ℕ) (w : Waiting S G a n s x) where
  abbrev D : ℕ → Type 0
  D = Before S G s x

  first : Inv S (Before S G s x) a n s x G
  first = record { waiting = w; harmless = λ b o. record { free = free b o; behind = λ h. behind b o h (ltb (txn G.txns s).rank (txn G.txns b).rank) refl } }
    where
      before : (b : ℕ) → Outside S D a n s x G b → T (holds (lock G.locks x) b) ⊎ (T (awaits_on x (txn G.txns b)) × ((txn G.txns b).rank < (txn G.txns s).rank)) → ⊥
      before b o h =
          o.out (record { slot = b; caller = record { inside = o.inside; alive = o.alive; name = refl }; other = o.other; there = h })

      free : (b : ℕ) → Outside S D a n s x G b → T (conflicts (lock G.locks x) (wanted a) b) → ⊥
      free b o c = before b o (inl (conflicts→holds (lock G.locks x) (wanted a) b c))

      behind :
          (b : ℕ) → Outside S D a n s x G b → T (awaits_on x (txn G.txns b)) → (c : Bool)
          → ltb (txn G.txns s).rank (txn G.txns b).rank ≡ c → (txn G.txns s).rank < (txn G.txns b).rank
      behind b o h true e = ltb-true (txn G.txns s).rank (txn G.txns b).rank e
      behind b o h false e =
          let l : (txn G.txns b).rank ≤ (txn G.txns s).rank = ltb-false (txn G.txns s).rank (txn G.txns b).rank e in
          let d = g.ranks_good.apart x b s o.inside w.caller.inside o.other h (waits_here S D a n s x G w) in
          absurd (before b o (inr (h, omega arith)))

-- ---- where nobody of those before it is left
module _ (S : Sizes) (D : ℕ → Type 0) (a : Asked) (n s x : ℕ) (G : Tables) (g : Good S G) (w : Waiting S G a n s x) where
  abbrev R : Txn
  R = txn G.txns s

  stands : T (awaits_on x (txn G.txns s))
  stands = waits_here S D a n s x G w

  known : x < S.items
  known = subst (λ (y : ℕ). y < S.items) w.item ((g.txn_good s w.caller.inside).item_known (awaits→ R (awaits_on→ x R stands).0))

  update : T (live_update (txn G.txns s))
  update =
      is_writer G.txns s w.caller.alive
      (go (eqb R.kind an_update) refl)
    where
      go : (b : Bool) → eqb R.kind an_update ≡ b → eqb R.kind an_update ≡ true
      go true e = e
      go false e = absurd (awaits→ R (awaits_on→ x R stands).0 ((g.txn_good s w.caller.inside).reader_idle (is_reader_lem G.txns s w.caller.alive e)))

  nothing_else : awaits_other G.txns s (wanted a) x ≡ false
  unfolding awaits_other
  nothing_else =
      is_false _ (λ h. not_use (eqb R.awaited_lock (wanted a) && eqb R.awaited_item x) (and_right (not (eqb R.awaited_lock no_lock)) _ h)
      (and_both (eqb R.awaited_lock (wanted a)) _ (eq_make R.awaited_lock (wanted a) w.lock_kind) (eq_make R.awaited_item x w.item)))

  passes : Passes S G a n s x
  passes =
      record {
        asks = record { caller = w.caller; update = update; known = known; free = nothing_else };
        room = λ e. unfold writes_further in (rw (ne_eqb (exclusives_of S G.locks s) S.quota (λ q. (g.quota_good s w.caller.inside).full_idle (update-holds R update) q (w.lock_kind ∙ ap wanted e))));
      }

  served : Inv S D a n s x G → ((m : ℕ) → D m → Gone S G m) → (v : ℕ) → code_of S (asking a n x v) G ≡ granted
  served I gone v = (granted_exactly S G a n s x v g passes).1 (λ c. clear c.1.0 c.1.1 (blocks→ G.txns G.locks (wanted a) x (rank_for S G.txns G.locks s x) s c.1.0 c.1.2))
    where
      outside : (b : ℕ) → b < S.slots → s ≢ b → T (live (txn G.txns b)) → Outside S D a n s x G b
      outside b i d h =
          record { inside = i; other = λ e. d (sym e); alive = h; out = λ m. gone (txn G.txns b).number m b (record { inside = i; alive = h; name = refl }) }

      clear : (b : ℕ) → b < S.slots → (s ≢ b) × (T (conflicts (lock G.locks x) (wanted a) b) ⊎ T (ahead x (wanted a) (rank_for S G.txns G.locks s x) (txn G.txns b))) → ⊥
      clear b i (d, inl c) =
          (I.harmless b (outside b i d (holder_live (txn G.txns b) (holder S G.txns (lock G.locks x) (g.lock_good x known) b (conflicts→holds (lock G.locks x) (wanted a) b c)).1).0)).free c
      clear b i (d, inr c) =
          let u = ahead→ x (wanted a) (rank_for S G.txns G.locks s x) (txn G.txns b) c in
          let l = u.1 in
          let m = (I.harmless b (outside b i d (waiter_lives S G g b i (awaits_on→ x (txn G.txns b) u.0).0))).behind u.0 in
          let q = rank-known S G.txns G.locks s x stands in
          omega arith

-- ---- along a run
module _ (S : Sizes) (enough : S.slots ≤ S.places) (D : ℕ → Type 0) (a : Asked) (n s x : ℕ) where
  one_call :
      (c : Call) (G : Tables) → Good S G → Inv S D a n s x G → (Names c n → code_of S c G ≢ granted) → ((m : ℕ) → Exchange S G x c m → (m ≡ n) ⊎ D m)
      → Inv S D a n s x (after S c G)
  unfolding act
  one_call c G g I quiet none =
      let e = acts S c G g in
      subst (λ (o : Outcome). Inv S D a n s x o.after) (sym e)
      (turn S D a n s x G g I (known S D a n s x G g I.waiting) c (judged S c G) (way S G g c) e quiet none
      (subst (λ (o : Outcome). Good S o.after) e (keeps S enough c G g)))

  run-keeps :
      (cs : List Call) (G : Tables) → Good S G → Inv S D a n s x G → EveryCall S (λ c H. Names c n → code_of S c H ≢ granted) cs G
      → EveryCall S (λ c H. (m : ℕ) → Exchange S H x c m → (m ≡ n) ⊎ D m) cs G → Inv S D a n s x (end_of S cs G)
  unfolding end_of EveryCall
  run-keeps [] G g I p q = I
  run-keeps (c ∷ cs) G g I p q = run-keeps cs (after S c G) (keeps S enough c G g) (one_call c G g I p.0 q.0) p.1 q.1

-- ---- the request waits until a call of its own is granted
still_waits :
    (S : Sizes) (c : Call) (G : Tables) → Good S G → (a : Asked) (n s x : ℕ) → Waiting S G a n s x → (Names c n → code_of S c G ≢ granted)
    → Waiting S (after S c G) a n s x
still_waits S c G g a n s x w quiet = go (stays_waiting S c G s g w.caller.inside (λ e. wanted-lock a (sym w.lock_kind ∙ e)))
  where
    R : Txn
    R = txn G.txns s

    go :
        SameButRank (txn (after S c G).txns s) R
        ⊎ ((Names c R.number × Wants c R.awaited_lock R.awaited_item × (code_of S c G ≡ granted)) ⊎ (c ≡ Abort R.number))
        → Waiting S (after S c G) a n s x
    go (inl e) = same_wait S G (after S c G) a n s x w e
    go (inr (inl (h, j, z))) = absurd (quiet (subst (Names c) w.caller.name h) z)
    go (inr (inr e)) =
        let q : c ≡ Abort n = e ∙ ap Abort w.caller.name in
        absurd (quiet (subst (λ (d : Call). Names d n) (sym q) refl)
        (subst (λ (d : Call). code_of S d G ≡ granted) (sym q) (ap (λ (o : Outcome). o.answer.code) (update_aborts S G g n s w.caller (update S (λ m. ⊥) a n s x G g w)))))

-- ---- and from the answer 1 on
asking-names : (a : Asked) (n x v : ℕ) → Names (asking a n x v) n
asking-names to_read n x v = refl
asking-names to_write n x v = refl

asking-wants : (a : Asked) (n x v : ℕ) → Wants (asking a n x v) (wanted a) x
asking-wants to_read n x v = (refl, refl)
asking-wants to_write n x v = (refl, refl)

pub waits-from : (S : Sizes) → WaitsFrom S
waits-from S G a n s x v g C p z = noted_down (wait_is S (asking a n x v) G z)
  where
    t : List ℕ
    t = G.txns

    c : Call
    c = asking a n x v

    caller : CallerIn (asking a n x v) S G s
    caller = record { inside = C.inside; alive = C.alive; named = subst (Names c) (sym C.name) (asking-names a n x v) }

    noted_down : NotedDown S c G (step S c G) ⊎ HeldSilently S c G (step S c G) → Waiting S (after S c G) a n s x
    -- it is no reader
    noted_down (inr h) =
        let q = (reader-live (txn t h.0.0) (start-reads (txn t h.0.0) h.0.2)).1 in
        let e = one_caller S G g c h.0.0 s h.0.1 caller in
        absurd (q (ap (λ (r : ℕ). (txn t r).kind) e ∙ (update-live (txn t s) p).1))
    noted_down (inl W) =
        subst (λ (H : Tables). Waiting S H a n s x) (sym is)
        (wait_beside S (λ m. ⊥) a n s x (with_txns G (noted S t G.locks s (wanted a) x)) (joined (noted S t G.locks s (wanted a) x) s (asking_joins S t (wanted a) x))
        (joined-beside (noted S t G.locks s (wanted a) x) s (asking_joins S t (wanted a) x) S (noted-size S t G.locks s (wanted a) x ∙ g.txns_exact) C.inside)
        (go (awaits_on x (txn t s)) refl))
      where
        slot : W.0 ≡ s
        slot = one_caller S G g c W.0 s W.3 caller

        want : (W.1 ≡ wanted a) × (W.2 ≡ x)
        want = one_want c W.1 (wanted a) W.2 x W.4 (asking-wants a n x v)

        free : awaits_other t s (wanted a) x ≡ false
        free =
            subst (λ (j : ℕ). awaits_other t j (wanted a) x ≡ false) slot
            (subst (λ (j : ℕ). awaits_other t W.0 j x ≡ false) want.0 (subst (λ (j : ℕ). awaits_other t W.0 W.1 j ≡ false) want.1 W.5))

        J : ℕ → ℕ → ℕ → Tables
        J j k y = with_txns G (joined (noted S t G.locks j k y) j (asking_joins S t k y))

        is : after S c G ≡ with_txns G (joined (noted S t G.locks s (wanted a) x) s (asking_joins S t (wanted a) x))
        is =
            W.6 ∙ ap (λ (j : ℕ). J j W.1 W.2) slot ∙ ap (λ (j : ℕ). J s j W.2) want.0 ∙ ap (λ (j : ℕ). J s (wanted a) j) want.1

        go : (b : Bool) → awaits_on x (txn t s) ≡ b → Waiting S (with_txns G (noted S t G.locks s (wanted a) x)) a n s x
        go true e =
            let h = true_is e in
            subst (λ (u : List ℕ). Waiting S (with_txns G u) a n s x) (sym (noted-known S t G.locks s (wanted a) x h))
            (record { caller = C; lock_kind = (only_this t s (wanted a) x free (awaits_on→ x (txn t s) h).0).0; item = (awaits_on→ x (txn t s) h).1 })
        go false e =
            let here : txn (noted S t G.locks s (wanted a) x) s ≡ awaiting (txn t s) (wanted a) x (rank_for S t G.locks s x) =
            noted_here S t G.locks s (wanted a) x (false_is e) g.txns_exact C.inside in
            record {
              caller =
                  record {
                    inside = C.inside;
                    alive = subst (λ (r : Txn). T (live r)) (sym here) (unfold live in C.alive);
                    name = ap (λ (r : Txn). r.number) here ∙ C.name;
                  };
              lock_kind = ap (λ (r : Txn). r.awaited_lock) here;
              item = ap (λ (r : Txn). r.awaited_item) here;
            }

-- ---- the promise
module _ (S : Sizes) (enough : S.slots ≤ S.places) where
  pub served_in_line : Served S
  served_in_line G cs a n s x v g w p =
      let D = Before S G s x in
      let I = run-keeps S enough D a n s x cs G g (first S G g a n s x w) p.waits p.unchanged in
      served S D a n s x (end_of S cs G) (good-run S enough cs G g) I.waiting I p.ended v

  pub waits_on : WaitsOn S
  unfolding end_of EveryCall
  waits_on G [] a n s x g w p = w
  waits_on G (c ∷ cs) a n s x g w p = waits_on (after S c G) cs a n s x (keeps S enough c G g) (still_waits S c G g a n s x w p.0) p.1

  pub served_in_runs : 1 ≤ S.places → ServedInRuns S
  served_in_runs room before cs a n s x u v C z p = go (eqb (txn (end_of S before (fresh S)).txns s).kind an_update) refl
    where
      H : Tables
      H = end_of S before (fresh S)

      g : Good S (end_of S before (fresh S))
      g = run-good S enough room before

      go : (b : Bool) → eqb (txn H.txns s).kind an_update ≡ b → code_of S (asking a n x v) (end_of S cs (after S (asking a n x u) H)) ≡ granted
      go true e =
          served_in_line (after S (asking a n x u) H) cs a n s x v (keeps S enough (asking a n x u) H g)
          (waits-from S H a n s x u g C (is_writer H.txns s C.alive e) z) p
      -- a relaxed query never waits
      go false e =
          reader-served S enough H g n s x C
          (starts (is_reader_lem H.txns s C.alive e) (same? (txn H.txns s).kind a_relaxed)) a u v cs z p
        where
          asker : CallerIn (asking a n x u) S H s
          asker = record { inside = C.inside; alive = C.alive; named = subst (Names (asking a n x u)) (sym C.name) (asking-names a n x u) }

          starts : T (is_reader (txn H.txns s)) → ((txn H.txns s).kind ≡ a_relaxed) ⊎ ((txn H.txns s).kind ≢ a_relaxed) → T (by_start (txn H.txns s))
          starts r (inl k) = absurd ((relaxed_never_waits S (asking a n x u) H s asker (live-relaxed (txn H.txns s) C.alive k)).0 z)
          starts r (inr k) = reads_by_start_lem S H g s ((C.inside, C.alive), (reader-live (txn H.txns s) r).1, k)
