-- Every way that a call can go leaves those outside harmless: a case for each.
use Prim.Native.Nat.{ℕ, suc, ◌+◌, ◌<◌}
use mathlib.Core.Path.{◌≡◌, refl, sym, ap, ◌∙◌, subst}
use mathlib.Core.Logic.{◌≢◌, ◌⊎◌, inl, inr, ⊎_elim}
use mathlib.Core.Bool.{Bool, true, false, ◌&&◌, cond}
use mathlib.Core.List.{List}
use native.Mathlib.Omega.{arith}
use lib.ListN.{set, length-set}
use lib.Dec.{T, leb, eqb→eq}
use borrow.Author.Tests.{lt-leb, ne_eqb}
use Rattle.names.specs.declared.Sizes.{Sizes}
use Rattle.names.specs.Layout.{clock_at}
use Rattle.rules.specs.Tables.{Tables, tables, Txn, txn, live, by_start, Lock, lock, set_lock, holds, holds_shared, holds_exclusive}
use Rattle.rules.specs.Tables.{clock, set_txn, new_txn, a_settled, no_lock, shared_lock, exclusive_lock, exclusives_of, unshare}
use Rattle.rules.specs.Waits.{awaits, awaits_on, rank_for, raised, noted, conflicts}
use Rattle.rules.specs.Good.{Good}
use Rattle.rules.specs.Locks.{Asked, to_read, to_write, wanted}
use Rattle.rules.specs.Answers.{Outcome, Call, BeginUpdate, BeginQuery, Read, Write, Commit, Abort, Settle, BeginRelaxed, Deed, granted, code, Wait}
use Rattle.rules.specs.Step.{step, done, cleared, locked, replaced, shared_too, taken, version_read, with_txns, counted, read_noted, joined, asking_joins, grant_joins, joining, locked_anew, writes_further, settled}
use Rattle.rules.specs.Conditions.{Caller, Updater, Names, Wants}
use Rattle.rules.specs.Changed.{looked_at}
use Rattle.rules.specs.Promises.{code_of, after, Conflicting}
use Rattle.rules.proofs.Tests.{true_is, false_is, or_left, or_right, same?}
use Rattle.rules.proofs.Carried.{NoMore}
use Rattle.rules.proofs.Callers.{caller-found}
use Rattle.rules.proofs.EqualRanks.{awaits→, awaits_on→}
use Rattle.rules.proofs.Views.{awaiting, reading, lock-set_lock, lock-unshare, txn-set_txn, txn-set_txn-other, txn-top}
use Rattle.rules.proofs.Walks.{→ahead, →blocks}
use Rattle.rules.proofs.Decisions.{conflicts_cases}
use Rattle.rules.proofs.Grants.{conflicts_fewer, shared-others, replaced-others, taken-others}
use Rattle.rules.proofs.Noting.{noted-known, noted_there, noted_here}
use Rattle.rules.proofs.Waited.{only_this}
use Rattle.rules.proofs.Granted.{granted_exactly}
use Rattle.rules.proofs.InOrder.{raised-before}
use Rattle.rules.proofs.Settles.{unshared_fewer}
use Rattle.rules.proofs.Notes.{Beside, beside_on}
use Rattle.rules.proofs.Joined.{joined-beside}
use Rattle.rules.proofs.ReadNoted.{read_length, read-beside, holder_inside}
use Rattle.rules.proofs.Counting.{counted-beside}
use Rattle.rules.proofs.Taken.{anew_joined}
use Rattle.rules.proofs.Noting.{noted-size}
use Rattle.rules.proofs.Waited.{waited-good}
use Rattle.rules.proofs.Ways.{Way, Waiter, refused, waited, began_update, began_query, began_relaxed, read_own, read_newest, read_shared, read_settled, read_version}
use Rattle.rules.proofs.Ways.{wrote_own, wrote_settled, wrote_taken, committed_update, committed_empty, committed_settled, committed_query, aborted_update, aborted_settled, aborted_query, settled_update, kept_waiting}
use Rattle.line.specs.Served.{Exchange}
use Rattle.line.proofs.Kept.{Kept, same-locks, set_other, rows-kept, left-kept, came_kept}
use Rattle.line.proofs.Ends.{begins, commits, settled-commits, query-ends, aborts, settled_aborts}
use Rattle.line.proofs.Outsiders.{Outside, Harmless, Inv, out-beside, inv_beside, waits_here, asks-behind, carried}
use Rattle.line.proofs.Locking.{no_more, as_before, clears_only, same_item, locks, was-out, idle_now, lock_now}

-- a call for an exclusive lock is a write
writes : (c : Call) (m k y : ℕ) → Names c m → Wants c k y → k ≡ exclusive_lock → (v : ℕ) × (c ≡ Write m y v)
writes BeginUpdate m k y h w e = absurd h
writes BeginQuery m k y h w e = absurd h
writes (Read i z) m k y h w e = absurd (let q = w.0 in omega arith)
writes (Write i z v) m k y h w e = (v, ap (λ (j : ℕ). Write j z v) h ∙ ap (λ (j : ℕ). Write m j v) w.1)
writes (Commit i) m k y h w e = absurd w
writes (Abort i) m k y h w e = absurd w
writes (Settle i) m k y h w e = absurd w
writes BeginRelaxed m k y h w e = absurd w

-- a request is to read or to write
kinds : (a : Asked) → (wanted a ≡ shared_lock) ⊎ (wanted a ≡ exclusive_lock)
kinds to_read = inl refl
kinds to_write = inr refl

-- ---- the call c on the good tables G, in which the transaction n waits, in slot s, for the item x
module _
    (S : Sizes) (D : ℕ → Type 0) (a : Asked) (n s x : ℕ) (G : Tables) (g : Good S G) (I : Inv S D a n s x G) (known : x < S.items)
  where
    abbrev t : List ℕ
    t = G.txns

    abbrev l : List ℕ
    l = G.locks

    abbrev J : Tables → Type 0
    J = Inv S D a n s x

    abbrev O : Tables → ℕ → Type 0
    O = Outside S D a n s x

    abbrev H : Tables → ℕ → Type 0
    H = Harmless S D a n s x

    -- whoever bears the number n is in slot s
    is_s : (m r : ℕ) → m ≡ n → Caller S G m r → r ≡ s
    is_s m r e C =
        let W = I.waiting.caller in
        sym (caller-found S G g r m C.inside C.alive C.name) ∙ caller-found S G g s m W.inside W.alive (W.name ∙ sym e)

    -- ---- what the call c of another is answered
    module _ (c : Call) (quiet : Names c n → code_of S c G ≢ granted) (none : (m : ℕ) → Exchange S G x c m → (m ≡ n) ⊎ D m) where
      -- a granted call is another's
      apart : (m r : ℕ) → Names c m → Caller S G m r → code_of S c G ≡ granted → s ≢ r
      apart m r h C z e =
          quiet (subst (Names c) (sym C.name ∙ ap (λ (i : ℕ). (txn t i).number) (sym e) ∙ I.waiting.caller.name) h) z

      -- who is outside exchanges nothing
      no_exchange : (m r v : ℕ) → O G r → Caller S G m r → c ≡ Write m x v → (code_of S c G ≡ granted) ⊎ (code_of S c G ≡ code Wait) → T (holds_shared (lock l x) r) → ⊥
      no_exchange m r v o C e z h =
          ⊎_elim (λ q. o.other (is_s m r q C)) (λ d. o.out (subst D (sym C.name) d))
          (none m (record { slot = r; value = v; caller = C; shares = h; asks = e; heard = z }))

    -- ---- a request from outside, of one that holds nothing on the item, is in conflict with the one that waits, if one of them writes
    stopped : (r : ℕ) → O G r → (b : Asked) → (T (holds (lock l x) r) → ⊥) → (wanted b ≡ exclusive_lock) ⊎ (wanted a ≡ exclusive_lock) → Conflicting S G b r x
    stopped r o b h w = (
      (λ e. h (unfold holds in (or_right (holds_shared (lock l x) r) _ e)), λ q e. h (unfold holds in (or_left (holds_shared (lock l x) r) _ e))),
      (
        s,
        I.waiting.caller.inside,
        →blocks t l (wanted b) x (rank_for S t l r x) r s o.other
            (inr (→ahead x (wanted b) (rank_for S t l r x) (txn t s) (waits_here S D a n s x G I.waiting)
            (asks-behind S D a n s x G g I r o (λ e. h (unfold holds in (or_left (holds_shared (lock l x) r) _ e))))
            (⊎_elim (λ q. inl q) (λ q. inr (I.waiting.lock_kind ∙ q)) w))),
      ),
    )

    -- ---- a wait
    module _
        (c : Call) (quiet : Names c n → code_of S c G ≢ granted) (none : (m : ℕ) → Exchange S G x c m → (m ≡ n) ⊎ D m)
        (r k y : ℕ) (w : Waiter c S G r k y) (z : code_of S c G ≡ code Wait) (g' : Good S (with_txns G (noted S t l r k y)))
      where
        abbrev t' : List ℕ
        t' = noted S t l r k y

        -- it stood in no line
        module _ (new : T (awaits_on y (txn t r)) → ⊥) where
          idle : T (awaits (txn t r)) → ⊥
          idle h = new (only_this t r k y w.free h).1

          d : s ≢ r
          d e = idle (subst (λ (m : ℕ). T (awaits (txn t m))) e (awaits_on→ x (txn t s) (waits_here S D a n s x G I.waiting)).0)

          here : txn t' r ≡ awaiting (txn t r) k y (rank_for S t l r y)
          here = noted_here S t l r k y new g.txns_exact w.caller.inside

          was : O (with_txns G t') r → O G r
          unfolding live
          was o =
              record {
                inside = o.inside;
                other = o.other;
                alive = subst (λ (w : Txn). T (live w)) here o.alive;
                out = λ q. o.out (subst D (sym (ap (λ (w : Txn). w.number) here)) q);
              }

          -- one that shares the item would wait to exchange
          not_sharing : O G r → y ≡ x → T (holds_shared (lock l x) r) → ⊥
          not_sharing o e h =
              let C : Caller S G (txn t r).number r = record { inside = w.caller.inside; alive = w.caller.alive; name = refl } in
              let q = writes c (txn t r).number k y w.caller.named w.wants exclusive in
              no_exchange c quiet none (txn t r).number r q.0 o C (q.1 ∙ ap (λ (j : ℕ). Write (txn t r).number j q.0) e) (inr z) h
            where
              exclusive : k ≡ exclusive_lock
              exclusive = go (same? k shared_lock)
                where
                  go : (k ≡ shared_lock) ⊎ (k ≢ shared_lock) → k ≡ exclusive_lock
                  go (inl q) =
                      absurd (w.may.shared q (subst (λ (j : ℕ). T (holds (lock l j) r)) (sym e) (unfold holds in (or_left (holds_shared (lock l x) r) _ h))))
                  go (inr q) = let i = w.may.listed in let j = w.some in omega arith

          comes : J (with_txns G t')
          comes =
              carried S D a n s x G (with_txns G t') g' I r d (came_kept S G g x r k y w.caller.inside w.some idle G.versions)
              (λ o. record {
                free = λ u. (I.harmless r (was o)).free u;
                behind = λ v.
                    let e : y ≡ x = sym (ap (λ (w : Txn). w.awaited_item) here) ∙ (awaits_on→ x (txn t' r) v).1 in
                    let low : (txn t s).rank < rank_for S t l r y = subst (λ (j : ℕ). (txn t s).rank < rank_for S t l r j) (sym e) (asks-behind S D a n s x G g I r (was o) (not_sharing (was o) e)) in
                    let its : (txn t' r).rank ≡ rank_for S t l r y = ap (λ (w : Txn). w.rank) here in
                    let ours : (txn t' s).rank ≡ (txn t s).rank =
                    ap (λ (w : Txn). w.rank) (noted_there S t l r k y new g.txns_exact s I.waiting.caller.inside d) ∙ raised-before y (rank_for S t l r y) (txn t s) low in
                    omega arith;
              })

        waits : J (with_txns G (noted S t l r k y))
        waits = go (awaits_on y (txn t r)) refl
          where
            go : (b : Bool) → awaits_on y (txn t r) ≡ b → J (with_txns G t')
            go true e = subst (λ (u : List ℕ). J (with_txns G u)) (sym (noted-known S t l r k y (true_is e))) I
            go false e = comes (false_is e)

    -- ---- a shared lock is taken
    shares : (m r y : ℕ) → Updater S G m r shared_lock y → (T (holds (lock l y) r) → ⊥) → (lock l y).exclusive ≡ 0 → code_of S (Read m y) G ≡ granted
        → s ≢ r → Good S (locked_anew S r shared_lock y (shared_too (lock l y) r) G) → J (locked_anew S r shared_lock y (shared_too (lock l y) r) G)
    unfolding locked_anew
    shares m r y U h f z d g' =
        locks S D a n s x G₁ g₁ I₁ known r i y h' U.known others d g'
        (λ e o. record {
          free = λ c. own e o (kinds a) (subst (λ (w : Lock). T (conflicts w (wanted a) r)) (lock_now S D a n s x G₁ g₁ I₁ known r i y h' U.known others e) c);
          behind = λ v. absurd (idle_now S D a n s x G₁ g₁ I₁ known r i y h' U.known others v);
        })
      where
        i : r < S.slots
        i = U.caller.inside

        h' : Lock
        h' = shared_too (lock l y) r

        -- the sets are joined first
        G₁ : Tables
        G₁ = joining r (grant_joins S G shared_lock y) G

        beside : (b : ℕ) → Beside (txn t b) (txn (joined t r (grant_joins S G shared_lock y)) b)
        beside = joined-beside t r (grant_joins S G shared_lock y) S g.txns_exact i

        g₁ : Good S (joining r (grant_joins S G shared_lock y) G)
        g₁ = anew_joined S G g r shared_lock y i U.update U.known

        I₁ : J (joining r (grant_joins S G shared_lock y) G)
        I₁ = inv_beside S D a n s x G (joined t r (grant_joins S G shared_lock y)) beside I

        others : (b : ℕ) → b ≢ r → NoMore b (lock l y) h'
        others = shared-others S t (lock l y) (g.lock_good y U.known) r i U.update

        -- nobody holds it exclusively
        unheld : T (holds_exclusive h' r) → ⊥
        unheld c = let e : (lock l y).exclusive ≡ suc r = unfold holds_exclusive in (eqb→eq (lock l y).exclusive (suc r) c) in omega arith

        own : x ≡ y → O (locked S r y h' G₁) r → (wanted a ≡ shared_lock) ⊎ (wanted a ≡ exclusive_lock) → T (conflicts h' (wanted a) r) → ⊥
        own e o (inl q) c = ⊎_elim unheld (λ p. let j = p.0 in omega arith) (conflicts_cases h' (wanted a) r c)
        own e o (inr q) c =
            (granted_exactly S G to_read m r x 0 g
            (record { asks = subst (λ (j : ℕ). Updater S G m r shared_lock j) (sym e) U; room = λ p. absurd (let j : ◌≡◌ {A = ℕ} 0 1 = cc in omega arith) })
            ).0 (subst (λ (j : ℕ). code_of S (Read m j) G ≡ granted) (sym e) z)
            (stopped r (out-beside S D a n s x G G₁.txns beside r (was-out S D a n s x G₁ g₁ I₁ known r i y h' U.known others o)) to_read (subst (λ (j : ℕ). T (holds (lock l j) r) → ⊥) (sym e) h) (inr q))

    -- ---- an exclusive lock is taken: if on this item, by none outside
    takes :
        (m r y v : ℕ) → Updater S G m r exclusive_lock y → T (holds_shared (lock l y) r) ⊎ (T (holds (lock l y) r) → ⊥)
        → ((b : ℕ) → b ≢ r → T (holds (lock l y) b) → ⊥) → exclusives_of S l r ≢ S.quota → code_of S (Write m y v) G ≡ granted
        → (Names (Write m y v) n → code_of S (Write m y v) G ≢ granted) → ((i : ℕ) → Exchange S G x (Write m y v) i → (i ≡ n) ⊎ D i)
        → s ≢ r → Good S (locked_anew S r exclusive_lock y (taken (lock l y) r v) G) → J (locked_anew S r exclusive_lock y (taken (lock l y) r v) G)
    unfolding locked_anew
    takes m r y v U h alone room z quiet none d g' =
        locks S D a n s x G₁ g₁ I₁ known r i y h' U.known others d g'
        (λ e o. absurd (never e (out-beside S D a n s x G G₁.txns beside r (was-out S D a n s x G₁ g₁ I₁ known r i y h' U.known others o)) h))
      where
        i : r < S.slots
        i = U.caller.inside

        h' : Lock
        h' = taken (lock l y) r v

        G₁ : Tables
        G₁ = joining r (grant_joins S G exclusive_lock y) G

        beside : (b : ℕ) → Beside (txn t b) (txn (joined t r (grant_joins S G exclusive_lock y)) b)
        beside = joined-beside t r (grant_joins S G exclusive_lock y) S g.txns_exact i

        g₁ : Good S (joining r (grant_joins S G exclusive_lock y) G)
        g₁ = anew_joined S G g r exclusive_lock y i U.update U.known

        I₁ : J (joining r (grant_joins S G exclusive_lock y) G)
        I₁ = inv_beside S D a n s x G (joined t r (grant_joins S G exclusive_lock y)) beside I

        others : (b : ℕ) → b ≢ r → NoMore b (lock l y) h'
        others = taken-others S t (lock l y) (g.lock_good y U.known) r i U.update alone v

        never : x ≡ y → O G r → T (holds_shared (lock l y) r) ⊎ (T (holds (lock l y) r) → ⊥) → ⊥
        never e o (inl p) =
            no_exchange (Write m y v) quiet none m r v o U.caller (ap (λ (j : ℕ). Write m j v) (sym e)) (inl z)
            (subst (λ (j : ℕ). T (holds_shared (lock l j) r)) (sym e) p)
        never e o (inr p) =
            (granted_exactly S G to_write m r x v g
            (record { asks = subst (λ (j : ℕ). Updater S G m r exclusive_lock j) (sym e) U; room = λ q. unfold writes_further in (rw (ne_eqb (exclusives_of S l r) S.quota room)) })
            ).0 (subst (λ (j : ℕ). code_of S (Write m j v) G ≡ granted) (sym e) z)
            (stopped r o to_write (subst (λ (j : ℕ). T (holds (lock l j) r) → ⊥) (sym e) p) (inl refl))

    -- ---- a working value is replaced
    replaces : (r y v : ℕ) → r < S.slots → y < S.items → s ≢ r → Good S (locked S r y (replaced (lock l y) v) G) → J (locked S r y (replaced (lock l y) v) G)
    replaces r y v i there d g' =
        locks S D a n s x G g I known r i y h' there (λ b e. no b) d g' (λ e o. unfold locked in (as_before S D a n s x G g I known r i (set_lock l y h') (own e) o))
      where
        h' : Lock
        h' = replaced (lock l y) v

        no : (b : ℕ) → NoMore b (lock l y) h'
        no b = replaced-others (lock l y) v b

        own : x ≡ y → NoMore r (lock l x) (lock (set_lock l y h') x)
        own e = subst (NoMore r (lock l x)) (sym (same_item S D a n s x G g I known r i y h' there (λ b d. no b) e)) (subst (λ (j : ℕ). NoMore r (lock l j) h') (sym e) (no r))

    -- ---- one settles: it awaits nothing and holds no more
    settles : (r : ℕ) → r < S.slots → s ≢ r → Good S (settled S r G) → J (settled S r G)
    unfolding settled
    settles r i d g' =
        carried S D a n s x G (settled S r G) g' I r d
        (rows-kept S G (settled S r G) g x r i (λ b e. txn-set_txn-other u' r Q b e ∙ txn-top t clock_at (clock t + 1) b (omega arith)) (λ b e. fewer' b))
        (no_more S D a n s x G g I known (settled S r G) r (ap (λ (w : Txn). w.number) here') (λ h. unfold live in (subst (λ (w : Txn). T (live w)) here' h))
        (λ v. awaits→ (txn (set_txn u' r Q) r) v (ap (λ (w : Txn). w.awaited_lock) here')) (fewer' r))
      where
        u' : List ℕ
        u' = set t clock_at (clock t + 1)

        Q : Txn
        Q = new_txn (txn t r).number a_settled (clock t + 1)

        here' : txn (set_txn u' r Q) r ≡ Q
        here' = txn-set_txn u' r Q S (length-set t clock_at (clock t + 1) ∙ g.txns_exact) i

        fewer' : (b : ℕ) → NoMore b (lock l x) (lock (unshare S r l) x)
        fewer' b = subst (NoMore b (lock l x)) (sym (lock-unshare S r l g.locks_exact x known)) (unshared_fewer r (lock l x) b)

    -- ---- every way
    pub turn :
        (c : Call) (d : Deed) → Way S G c d → step S c G ≡ done S d G → (Names c n → code_of S c G ≢ granted)
        → ((m : ℕ) → Exchange S G x c m → (m ≡ n) ⊎ D m) → Good S (done S d G).after → Inv S D a n s x (done S d G).after
    unfolding done version_read
    turn c d (refused r m) e quiet none g' = I
    turn c d (waited r k y w) e quiet none g' =
        inv_beside S D a n s x (with_txns G (noted S t l r k y)) (joined (noted S t l r k y) r (asking_joins S t k y))
        (joined-beside (noted S t l r k y) r (asking_joins S t k y) S (noted-size S t l r k y ∙ g.txns_exact) w.caller.inside)
        (waits c quiet none r k y w (ap (λ (o : Outcome). o.answer.code) e)
        (waited-good S G g r w.caller.inside w.update k y w.some w.may w.circle (λ h. (only_this t r k y w.free h).1)))
    turn c d (began_update r F l) e quiet none g' = begins S D a n s x G g I known r F _ _ g'
    turn c d (began_query r F l) e quiet none g' = begins S D a n s x G g I known r F _ _ g'
    turn c d (began_relaxed r F l v) e quiet none g' = begins S D a n s x G g I known r F _ _ g'
    turn c d (read_own m r y U h) e quiet none g' =
        clears_only S D a n s x G g I known r U.caller.inside (apart c quiet none m r refl U.caller (ap (λ (o : Outcome). o.answer.code) e)) g'
    turn c d (read_newest m r y U h) e quiet none g' =
        clears_only S D a n s x G g I known r U.caller.inside (apart c quiet none m r refl U.caller (ap (λ (o : Outcome). o.answer.code) e)) g'
    turn c d (read_shared m r y U h f) e quiet none g' =
        let z = ap (λ (o : Outcome). o.answer.code) e in
        shares m r y U h f z (apart c quiet none m r refl U.caller z) g'
    turn c d (kept_waiting r C q) e quiet none g' = I
    turn c d (read_settled m r y C p i h) e quiet none g' =
        clears_only S D a n s x G g I known r C.inside (apart c quiet none m r refl C (ap (λ (o : Outcome). o.answer.code) e)) g'
    turn c d (read_version m r y C q i h f) e quiet none g' =
        inv_beside S D a n s x G (counted (read_noted t l r y) r (looked_at S G r y))
        (λ b.
        beside_on (txn t b) (txn (read_noted t l r y) b) (txn (counted (read_noted t l r y) r (looked_at S G r y)) b)
        (read-beside S t l r y g.txns_exact C.inside (holder_inside S G g r C.inside y i) b)
        (counted-beside (read_noted t l r y) r (looked_at S G r y) S (read_length S t l r y g.txns_exact C.inside (holder_inside S G g r C.inside y i) ∙ g.txns_exact) C.inside b))
        I
    turn c d (wrote_own m r y v U h) e quiet none g' =
        replaces r y v U.caller.inside U.known (apart c quiet none m r refl U.caller (ap (λ (o : Outcome). o.answer.code) e)) g'
    turn c d (wrote_settled m r y v C p i h) e quiet none g' =
        replaces r y v C.inside i (apart c quiet none m r refl C (ap (λ (o : Outcome). o.answer.code) e)) g'
    turn c d (wrote_taken m r y v U h alone room) e quiet none g' =
        let z = ap (λ (o : Outcome). o.answer.code) e in
        takes m r y v U h alone room z quiet none (apart c quiet none m r refl U.caller z) g'
    turn c d (committed_update m r C u i f k) e quiet none g' =
        commits S D a n s x G g I known r C.inside (apart c quiet none m r refl C (ap (λ (o : Outcome). o.answer.code) e)) g'
    turn c d (committed_settled m r C p) e quiet none g' =
        settled-commits S D a n s x G g I known r C.inside (apart c quiet none m r refl C (ap (λ (o : Outcome). o.answer.code) e)) g'
    turn c d (committed_query m r C q) e quiet none g' =
        query-ends S D a n s x G g I known r C.inside (apart c quiet none m r refl C (ap (λ (o : Outcome). o.answer.code) e)) g'
    turn c d (aborted_update m r C u) e quiet none g' =
        aborts S D a n s x G g I known r C.inside (apart c quiet none m r refl C (ap (λ (o : Outcome). o.answer.code) e)) g'
    turn c d (committed_empty m r C u i h) e quiet none g' =
        aborts S D a n s x G g I known r C.inside (apart c quiet none m r refl C (ap (λ (o : Outcome). o.answer.code) e)) g'
    turn c d (aborted_settled m r C p) e quiet none g' =
        settled_aborts S D a n s x G g I known r C.inside (apart c quiet none m r refl C (ap (λ (o : Outcome). o.answer.code) e)) g'
    turn c d (settled_update m r C u i f v) e quiet none g' =
        settles r C.inside (apart c quiet none m r refl C (ap (λ (o : Outcome). o.answer.code) e)) g'
    turn c d (aborted_query m r C q) e quiet none g' =
        query-ends S D a n s x G g I known r C.inside (apart c quiet none m r refl C (ap (λ (o : Outcome). o.answer.code) e)) g'
