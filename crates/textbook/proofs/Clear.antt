-- Who reads a version has not written the item: it would have read its own working value. So what it reads is what the order has at its
-- place, and never its own version.
use Prim.Native.Nat.{ℕ, ◌≤◌, ◌<◌}
use mathlib.Core.Path.{◌≡◌, refl, sym, ap, ◌∙◌, subst}
use mathlib.Core.Logic.{◌≢◌, ◌⊎◌, inl, inr}
use mathlib.Core.Bool.{Bool, true, false, cond}
use mathlib.Core.List.Memᴰ
use mathlib.Core.List.{List, [], ◌∷◌, ◌++◌, append_assoc, Memᴰ}
use native.Mathlib.Omega.{arith}
use lib.Dec.{T, eqb, eqb→eq}
use borrow.Author.Tests.{eqb-true}
use Rattle.names.specs.declared.Sizes.{Sizes}
use Rattle.rules.specs.Words.{some}
use Rattle.rules.specs.Tables.{Tables, txn, a_query, lock, holds_exclusive, fresh}
use Rattle.rules.specs.Good.{Good}
use Rattle.rules.specs.Answers.{Call, Deed}
use Rattle.rules.specs.Step.{done, step, version_read, begun, locked, locked_anew, aborted, settled}
use Rattle.rules.specs.Conditions.{Caller}
use Rattle.rules.proofs.Tests.{and_left, and_right, or_left, or_right, eq_make, is_false, false_is, same?}
use Rattle.rules.proofs.RowKinds.{holder_live}
use Rattle.rules.proofs.Decisions.{never_both_lem}
use Rattle.rules.proofs.Keeps.{keeps}
use Rattle.rules.proofs.Fresh.{fresh-good}
use Rattle.rules.proofs.Ways.{Way, refused, waited, kept_waiting, began_update, began_query, began_relaxed, read_own, read_newest, read_shared, read_settled, read_version}
use Rattle.rules.proofs.Ways.{wrote_own, wrote_settled, wrote_taken, committed_update, committed_empty, committed_settled, committed_query, aborted_update, aborted_settled, aborted_query, settled_update}
use Rattle.history.specs.Runs.{run}
use Rattle.history.specs.Happened.{SoFar, none_so_far, Access, got, put, Happening, update_began, query_began, relaxed_began, accessed, update_committed, empty_committed, settled_under, only_ended, nothing}
use Rattle.history.specs.Happened.{happened, begun_with, happenings_after, happenings, all_of}
use Rattle.history.specs.Serial.{Entry, access_of, granted_to}
use Rattle.history.proofs.Plain.{Array, store, agrees, final}
use Rattle.history.proofs.Replay.{store_here, local_final}
use Rattle.history.proofs.Marked.{Marks, Known}
use Rattle.history.proofs.Seen.{seen}
use Rattle.history.proofs.Happens.{silent, grants, plainly, commits_as, happens, step-known, fresh-known}
use Rattle.textbook.specs.Marks.{Source, none, version, source, looked_up, Mark, marks_after, marks}
use Rattle.textbook.specs.Graph.{Got, got_from, read_at, reads_of}
use Rattle.textbook.proofs.Steps.{by_way}
use Rattle.textbook.proofs.Traced.{retold, stamp_from, holder_stamp}
use Rattle.textbook.proofs.Ways.{not_held}
use Rattle.textbook.proofs.Run.{retold_all, AllForetold, Holds, inv-step, after-fresh}
use Rattle.textbook.proofs.Logs.{Puts, Unput, ends_at}
use Rattle.textbook.proofs.Retold.{put_at}

-- ---- the caller does not hold what it reads a version of
pub record Unheld (S : Sizes) (G : Tables) (n x : ℕ) : Type 0 where
  pub slot : ℕ
  pub caller : Caller S G n slot
  pub known : x < S.items
  pub free : T (holds_exclusive (lock G.locks x) slot) → ⊥

module _ (S : Sizes) (enough : S.slots ≤ S.places) (G : Tables) (g : Good S G) where
  abbrev Reads : Happening → Source → Type 0
  Reads h d = (n x v k : ℕ) → h ≡ accessed n (got x v) → d ≡ version k → Unheld S G n x

  no_read : {h : Happening} {d : Source} → ((n x v : ℕ) → h ≡ accessed n (got x v) → ◌≡◌ {A = ℕ} 0 1) → Reads h d
  no_read f n x v k e z = absurd (let y = f n x v e in omega arith)

  no_version_lem : {h : Happening} → Reads h none
  no_version_lem n x v k e z = absurd (let y : ◌≡◌ {A = ℕ} 0 1 = cc in omega arith)

  it_reads : (m s y w : ℕ) (d : Source) → Caller S G m s → y < S.items → (T (holds_exclusive (lock G.locks y) s) → ⊥) → Reads (accessed m (got y w)) d
  it_reads m s y w d C b f n x v k e z =
      let p : m ≡ n = cc in
      let q : y ≡ x = cc in
      subst (λ (j : ℕ). Unheld S G j x) p (subst (Unheld S G m) q (record { slot = s; caller = C; known = b; free = f }))

  way-reads : (c : Call) (d : Deed) (w : Way S G c d) → Reads (happens S enough G g c d w).what (source S G c (done S d G).answer)
  unfolding happens silent grants plainly commits_as done version_read begun locked locked_anew aborted settled source looked_up
  way-reads c d (refused r m) = no_read (λ n x v e. cc)
  way-reads c d (waited r k x w) = no_read (λ n x v e. cc)
  way-reads c d (kept_waiting r C q) = no_read (λ n x v e. cc)
  way-reads c d (began_update r F l) = no_read (λ n x v e. cc)
  way-reads c d (began_query r F l) = no_read (λ n x v e. cc)
  way-reads c d (began_relaxed r F l a) = no_read (λ n x v e. cc)
  way-reads c d (read_own n s x U h) = no_version_lem
  way-reads c d (read_newest n s x U h) = it_reads n s x _ _ U.caller U.known (λ w. never_both_lem S G g x U.known s s w h)
  way-reads c d (read_shared n s x U h e) = it_reads n s x _ _ U.caller U.known (false_is (not_held (lock G.locks x) s e))
  way-reads c d (read_settled n s x C p i h) = no_version_lem
  way-reads c d (read_version n s x C q i o e) = it_reads n s x _ _ C i o
  way-reads c d (wrote_own n r x v U e) = no_read (λ n x v e. cc)
  way-reads c d (wrote_settled n r x v C p i e) = no_read (λ n x v e. cc)
  way-reads c d (wrote_taken n r x v U e a q) = no_read (λ n x v e. cc)
  way-reads c d (committed_update n s C u i l w) = no_read (λ n x v e. cc)
  way-reads c d (committed_empty n r C u i e) = no_read (λ n x v e. cc)
  way-reads c d (committed_settled n s C p) = no_read (λ n x v e. cc)
  way-reads c d (committed_query n s C q) = no_read (λ n x v e. cc)
  way-reads c d (aborted_update n s C u) = no_read (λ n x v e. cc)
  way-reads c d (aborted_settled n s C p) = no_read (λ n x v e. cc)
  way-reads c d (aborted_query n s C q) = no_read (λ n x v e. cc)
  way-reads c d (settled_update n s C u i l a) = no_read (λ n x v e. cc)

  step-reads : (c : Call) (us : SoFar) → Known S.items us (seen S G) → Reads (happened us c (step S c G).answer) (source S G c (step S c G).answer)
  step-reads = by_way S enough G g (λ c h o. Reads h (source S G c o.answer)) way-reads

-- ---- whoever wrote is marked
stamped-more : (h : Happening) (us : SoFar) (n : ℕ) → T (some (eqb n) us.stamped) → T (some (eqb n) (begun_with h us).stamped)
unfolding begun_with some
stamped-more (update_began m) us n t = t
stamped-more (query_began m) us n t = t
stamped-more (relaxed_began m) us n t = t
stamped-more (accessed m (got x v)) us n t = t
stamped-more (accessed m (put x v)) us n t = or_right (eqb n m) _ t
stamped-more (update_committed m c) us n t = t
stamped-more (empty_committed m c) us n t = t
stamped-more (settled_under m c) us n t = or_right (eqb n m) _ t
stamped-more (only_ended m) us n t = t
stamped-more nothing us n t = t

put-stamped : (h : Happening) (us : SoFar) (n x w : ℕ) → Puts x w (access_of n h) → T (some (eqb n) (begun_with h us).stamped)
unfolding begun_with some access_of
put-stamped (accessed m (put y v)) us n x w p = go (eqb m n) refl p
  where
    go : (b : Bool) → eqb m n ≡ b → Puts x w (cond b (put y v ∷ []) []) → T (some (eqb n) (m ∷ us.stamped))
    go true z p = or_left (eqb n m) _ (eq_make n m (sym (eqb-true m n z)))
    go false z p = absurd (Memᴰ.not-nil p)
put-stamped (accessed m (got y v)) us n x w p = go (eqb m n) p
  where
    go : (b : Bool) → Puts x w (cond b (got y v ∷ []) []) → T (some (eqb n) us.stamped)
    go true p = absurd (let e = Memᴰ.eq_of_singleton p in let z : ◌≡◌ {A = ℕ} 0 1 = cc in omega arith)
    go false p = absurd (Memᴰ.not-nil p)
put-stamped (update_began m) us n x w p = absurd (Memᴰ.not-nil p)
put-stamped (query_began m) us n x w p = absurd (Memᴰ.not-nil p)
put-stamped (relaxed_began m) us n x w p = absurd (Memᴰ.not-nil p)
put-stamped (update_committed m c) us n x w p = absurd (Memᴰ.not-nil p)
put-stamped (empty_committed m c) us n x w p = absurd (Memᴰ.not-nil p)
put-stamped (settled_under m c) us n x w p = absurd (Memᴰ.not-nil p)
put-stamped (only_ended m) us n x w p = absurd (Memᴰ.not-nil p)
put-stamped nothing us n x w p = absurd (Memᴰ.not-nil p)

-- ---- what is written does not go by what was before
put_fixes : (l : List Access) (a b : Array) (x w : ℕ) → Puts x w l → final l a x ≡ final l b x
unfolding final
put_fixes [] a b x w p = absurd (Memᴰ.not-nil p)
put_fixes (got y v ∷ l) a b x w p = go (put_fixes l a b x w) (Memᴰ.cases_cons p)
  where
    go : (Puts x w l → final l a x ≡ final l b x) → (put x w ≡ got y v) ⊎ Puts x w l → final l a x ≡ final l b x
    go ih (inl e) = absurd (let z : ◌≡◌ {A = ℕ} 0 1 = cc in omega arith)
    go ih (inr q) = ih q
put_fixes (put y v ∷ l) a b x w p = go (put_fixes l (store a y v) (store b y v) x w) (Memᴰ.cases_cons p)
  where
    here : (z : ℕ) → z ≡ y → store a y v z ≡ store b y v z
    here z e = ap (store a y v) e ∙ store_here a y v ∙ sym (ap (store b y v) e ∙ store_here b y v)

    go : (Puts x w l → final l (store a y v) x ≡ final l (store b y v) x) → (put x w ≡ put y v) ⊎ Puts x w l → final l (store a y v) x ≡ final l (store b y v) x
    go ih (inl e) = local_final (λ z. z ≡ y) l (store a y v) (store b y v) here x (let q : x ≡ y = cc in q)
    go ih (inr q) = ih q

unput_still : (l : List Access) (x : ℕ) → ((a : Array) → final l a x ≡ a x) → Unput x l
unput_still l x f w p =
    let e = put_fixes l (λ y. 0) (λ y. 1) x w p in
    let c = f (λ y. 0) in
    let d = f (λ y. 1) in
    omega arith

-- ---- of every run. log is what was granted before the marks
unfoldable pub Clear : (ℕ → ℕ) → (ℕ → List Access) → List Mark → Type 0
Clear st log [] = T true
Clear st log (m ∷ ms) =
    ((n x v k : ℕ) → m.what ≡ accessed n (got x v) → m.from ≡ version k → Unput x (log n))
    × Clear st (λ n. log n ++ access_of n (retold st m.what m.from)) ms

module _ (S : Sizes) (enough : S.slots ≤ S.places) (st : ℕ → ℕ) where
  abbrev Written : SoFar → (ℕ → List Access) → Type 0
  Written us log = (n x w : ℕ) → Puts x w (log n) → T (some (eqb n) us.stamped)

  unput : (us : SoFar) (es : List Entry) (log : ℕ → List Access) (G : Tables) → Good S G → Known S.items us (seen S G) → Holds S enough st es log G → Written us log → (n x : ℕ) → Unheld S G n x → Unput x (log n)
  unput us es log G g K J Q n x U = go (same? (txn G.txns U.slot).kind a_query)
    where
      s : ℕ
      s = U.slot

      name : (txn G.txns U.slot).number ≡ n
      name = U.caller.name

      free : holds_exclusive (lock G.locks x) U.slot ≡ false
      free = is_false _ U.free

      -- a query is not marked
      not_marked : (txn G.txns U.slot).kind ≡ a_query → Marks S.items (seen S G) U.slot → ⊥
      not_marked k (inl z) = omega arith
      not_marked k (inr (y, b, h)) = (holder_live (txn G.txns s) ((g.lock_good y b).excluders s h).1).1 k

      go : ((txn G.txns U.slot).kind ≡ a_query) ⊎ ((txn G.txns U.slot).kind ≢ a_query) → Unput x (log n)
      go (inl k) =
          λ w p. not_marked k
          (K.marked.only s (U.caller.inside, U.caller.alive) (subst (λ (m : ℕ). T (some (eqb m) us.stamped)) (sym name) (Q n x w p)))
      go (inr d) =
          subst (λ (m : ℕ). Unput x (log m)) name
          (unput_still (log (txn G.txns s).number) x
          (λ a. (J.slots s (U.caller.inside, U.caller.alive)).ends d a x U.known ∙ ap (λ (b : Bool). cond b (holder_stamp S st G x) (a x)) free))

  clear-from :
      (cs : List Call) (us : SoFar) (es : List Entry) (log : ℕ → List Access) (G : Tables) → Good S G → Known S.items us (seen S G)
      → AllForetold st (happenings_after us (run S cs G)) → Holds S enough st es log G → Written us log → Clear st log (marks_after S us cs G)
  unfolding run happenings_after marks_after AllForetold Clear
  clear-from [] us es log G g K f J Q = tt
  clear-from (c ∷ cs) us es log G g K f J Q = (
    λ n x v k e z. unput us es log G g K J Q n x (step-reads S enough G g c us K n x v k e z),
    clear-from cs (begun_with h us) _ (λ n. log n ++ access_of n (retold st h d)) (step S c G).after (keeps S enough c G g) (step-known S enough c G g us K) f.1
        (inv-step S enough st c us es log G g K f.0 J) (λ n x w p. written n x w (Memᴰ.append_cases (log n) p)),
  )
    where
      h : Happening
      h = happened us c (step S c G).answer

      d : Source
      d = source S G c (step S c G).answer

      written :
          (n x w : ℕ) → Puts x w (log n) ⊎ Puts x w (access_of n (retold st (happened us c (step S c G).answer) (source S G c (step S c G).answer)))
          → T (some (eqb n) (begun_with (happened us c (step S c G).answer) us).stamped)
      written n x w (inl p) = stamped-more h us n (Q n x w p)
      written n x w (inr p) = let r = put_at st n x w h d p in put-stamped h us n x r.1.0 r.1.1

  pub clear_run : (room : 1 ≤ S.places) (cs : List Call) → AllForetold st (happenings S cs) → Clear st (λ n. []) (marks S cs)
  unfolding happenings marks
  clear_run room cs f =
      clear-from cs none_so_far [] (λ n. []) (fresh S) (fresh-good S room) (fresh-known S enough room) f (after-fresh S enough st room)
      (λ n x w p. absurd (Memᴰ.not-nil p))

-- ---- so a read gives what the array had at first
agrees-next : (l k : List Access) (a : Array) (x d : ℕ) → T (agrees (l ++ (got x d ∷ k)) a) → final l a x ≡ d
unfolding agrees final
agrees-next [] k a x d t = eqb→eq (a x) d (and_left (eqb (a x) d) _ t)
agrees-next (got y v ∷ l) k a x d t = agrees-next l k a x d (and_right (eqb (a y) v) _ t)
agrees-next (put y v ∷ l) k a x d t = agrees-next l k (store a y v) x d t

unput_final : (l : List Access) (a : Array) (x : ℕ) → Unput x l → final l a x ≡ a x
unput_final l a x u = go (ends_at l a x)
  where
    go : ((final l a x ≡ a x) × Unput x l) ⊎ Puts x (final l a x) l → final l a x ≡ a x
    go (inl p) = p.0
    go (inr p) = absurd (u _ p)

module _ (st : ℕ → ℕ) (n : ℕ) where
  -- who reads a version at a mark is told to have got its stamp
  record Seen (h : Happening) (d : Source) (r : Got) : Type 0 where
    value : ℕ
    is : h ≡ accessed n (got r.item value)
    from : d ≡ version r.stamp
    log : access_of n (retold st h d) ≡ got r.item r.stamp ∷ []

  at_read : (h : Happening) (d : Source) (r : Got) → Memᴰ r (read_at n h d) → Seen h d r
  unfolding read_at got_from access_of retold stamp_from
  at_read (accessed m (got x v)) none r p = go (eqb m n) p
    where
      go : (b : Bool) → Memᴰ r (cond b [] []) → Seen (accessed m (got x v)) none r
      go true p = absurd (Memᴰ.not-nil p)
      go false p = absurd (Memᴰ.not-nil p)
  at_read (accessed m (got x v)) (version k) r p = go (eqb m n) refl p
    where
      go : (b : Bool) → eqb m n ≡ b → Memᴰ r (cond b (record { item = x; stamp = k } ∷ []) []) → Seen (accessed m (got x v)) (version k) r
      go false z p = absurd (Memᴰ.not-nil p)
      go true z p =
          let e = Memᴰ.eq_of_singleton p in
          let i : x ≡ r.item = ap (λ (g : Got). g.item) (sym e) in
          let j : k ≡ r.stamp = ap (λ (g : Got). g.stamp) (sym e) in
          record {
            value = v;
            is = ap (λ (b : ℕ). accessed b (got x v)) (eqb-true m n z) ∙ ap (λ (b : ℕ). accessed n (got b v)) i;
            from = ap version j;
            log =
                ap (λ (b : Bool). cond b (got x k ∷ []) []) z
                ∙ ap (λ (b : ℕ). got b k ∷ []) i ∙ ap (λ (b : ℕ). got r.item b ∷ []) j;
          }
  at_read (accessed m (put x v)) d r p = absurd (Memᴰ.not-nil p)
  at_read (update_began m) d r p = absurd (Memᴰ.not-nil p)
  at_read (query_began m) d r p = absurd (Memᴰ.not-nil p)
  at_read (relaxed_began m) d r p = absurd (Memᴰ.not-nil p)
  at_read (update_committed m k) d r p = absurd (Memᴰ.not-nil p)
  at_read (empty_committed m k) d r p = absurd (Memᴰ.not-nil p)
  at_read (settled_under m k) d r p = absurd (Memᴰ.not-nil p)
  at_read (only_ended m) d r p = absurd (Memᴰ.not-nil p)
  at_read nothing d r p = absurd (Memᴰ.not-nil p)

  pub read_first :
      (a : Array) (log : ℕ → List Access) (ms : List Mark) (r : Got) → Clear st log ms → T (agrees (log n ++ granted_to n (retold_all st ms)) a)
      → Memᴰ r (reads_of n ms) → a r.item ≡ r.stamp
  unfolding granted_to all_of retold_all reads_of Clear
  read_first a log [] r C t p = absurd (Memᴰ.not-nil p)
  read_first a log (m ∷ ms) r C t p =
      go
      (read_first a (λ k. log k ++ access_of k (retold st m.what m.from)) ms r C.1
      (subst (λ (l : List Access). T (agrees l a)) (sym (append_assoc (log n) (access_of n (retold st m.what m.from)) (all_of (access_of n) (retold_all st ms)))) t))
      (Memᴰ.append_cases (read_at n m.what m.from) p)
    where
      rest : List Access
      rest = all_of (access_of n) (retold_all st ms)

      here : Seen m.what m.from r → a r.item ≡ r.stamp
      here s =
          sym (unput_final (log n) a r.item (C.0 n r.item s.value r.stamp s.is s.from))
          ∙ agrees-next (log n) rest a r.item r.stamp (subst (λ (l : List Access). T (agrees (log n ++ (l ++ rest)) a)) s.log t)

      go : (Memᴰ r (reads_of n ms) → a r.item ≡ r.stamp) → Memᴰ r (read_at n m.what m.from) ⊎ Memᴰ r (reads_of n ms) → a r.item ≡ r.stamp
      go ih (inl q) = here (at_read m.what m.from r q)
      go ih (inr q) = ih q
