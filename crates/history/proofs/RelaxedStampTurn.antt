-- Request E11: both orders grow alike while nobody is past its writing: whoever is placed comes last.
use Prim.Native.Nat.{ℕ, ◌+◌, ◌*◌, ◌≤◌, ◌<◌}
use mathlib.Core.Path.{◌≡◌, refl, sym, ap, ◌∙◌, subst}
use mathlib.Core.Logic.{◌⊎◌, inl, inr}
use mathlib.Core.Bool.{Bool, true, false, ◌||◌, not, cond}
use mathlib.Core.List.{List, [], ◌∷◌, ◌++◌, append-nil}
use native.Mathlib.Omega.{arith}
use lib.Dec.{T, eqb, eqb→eq}
use Rattle.names.specs.declared.Sizes.{Sizes}
use Rattle.rules.specs.Words.{some}
use Rattle.rules.specs.Tables.{Tables, last_number, clock}
use Rattle.rules.specs.Good.{Good}
use Rattle.rules.specs.Answers.{Call}
use Rattle.rules.proofs.Tests.{or_cases, is_true, is_false}
use Rattle.history.specs.Happened.{Access, Happening, all_of}
use Rattle.history.specs.Serial.{Entry, place_of, insert_all, entries_from, numbers_of, order, one_by_one, granted_to, Absent}
use Rattle.history.specs.Relaxed.{in_set, committer, those}
use Rattle.history.proofs.Plain.{Array, zeros, final}
use Rattle.history.proofs.Replay.{final-append, all_more, local_final}
use Rattle.history.proofs.Order.{all_map}
use Rattle.history.proofs.Invariant.{Inv, settled}
use Rattle.history.proofs.Turns.{Turn, quiet, update_begins, query_begins, relaxed_begins, reads, writes, commits, commits_empty, settles, commits_settled, ends}
use Rattle.history.proofs.Seen.{seen}
use Rattle.history.proofs.RelaxedLists.{or_none, those-append, those-same, some_append, in_those}
use Rattle.history.proofs.RelaxedPhase.{one_same, kept, log_of, array_of, Common, kept_more, same_log, array_none, array_one}
use Rattle.history.proofs.RelaxedTurns.{only_one, one_in}
use Rattle.history.proofs.RelaxedStamps.{by_stamp, stamp_array, clock_of, entries_more, insert-last}

absent_some : (n : ℕ) (ns : List ℕ) → Absent n ns → T (some (eqb n) ns) → ⊥
unfolding Absent some
absent_some n [] a h = h
absent_some n (m ∷ ns) a h = go (or_cases (eqb n m) _ h) (absent_some n ns a.1)
  where
    go : T (eqb n m) ⊎ T (some (eqb n) ns) → (T (some (eqb n) ns) → ⊥) → ⊥
    go (inl e) f = a.0 (sym (eqb→eq n m e))
    go (inr e) f = f e

module _
    (S : Sizes) (q : ℕ) (G G' : Tables) (g : Good S G) (g' : Good S G') {c : Call} (h : Happening) (t : Turn S.items (seen S G) (seen S G') c h)
    (hs : List Happening) (ever : ℕ → Bool) (C : Common S q G hs ever) (J : Inv S.items (entries_from 0 [] hs) (log_of hs) (seen S G))
    (clk : clock_of 0 hs ≡ clock G.txns)
  where
    abbrev es : List Entry
    es = entries_from 0 [] hs

    abbrev hs' : List Happening
    hs' = hs ++ (h ∷ [])

    abbrev ever' : ℕ → Bool
    ever' u = ever u || in_set S G' q u

    abbrev K : List ℕ
    K = kept ever hs

    abbrev f : ℕ → Bool
    f n = some (eqb n) (kept ever hs)

    -- who is outside and committed lives no more
    in_kept : (n : ℕ) → T (some (eqb n) (kept ever hs)) → T (some (eqb n) (all_of committer hs))
    in_kept n m = (in_those (λ n. not (ever n)) n (all_of committer hs) m).0

    -- ---- what is added to the orders
    pub data Adds : Happening → Type 0 where
      nought : {k : Happening} → place_of (clock G.txns) k ≡ [] → committer k ≡ [] → Adds k
      asks :
          {k : Happening} (p n : ℕ) → place_of (clock G.txns) k ≡ record { place = p; number = n } ∷ [] → committer k ≡ [] → 2 * clock G.txns + 1 ≤ p
          → (T (some (eqb n) (kept ever hs)) → ⊥) → Adds k
      adds :
          {k : Happening} (p n : ℕ) → place_of (clock G.txns) k ≡ record { place = p; number = n } ∷ [] → committer k ≡ n ∷ [] → 2 * clock G.txns + 1 ≤ p
          → Absent n (numbers_of (entries_from 0 [] hs)) → (T (some (eqb n) (kept ever hs)) → ⊥) → Adds k

    -- a live number is not among them, nor one that was not given
    live_out : (n s : ℕ) → (seen S G).alive s → (seen S G).number s ≡ n → T (some (eqb n) (kept ever hs)) → ⊥
    live_out n s a e m = (C.dead n (in_kept n m)).nobody s a e

    new_out : (n : ℕ) → last_number G.txns < n → T (some (eqb n) (kept ever hs)) → ⊥
    new_out n l m = let a = (C.dead n (in_kept n m)).given in omega arith

    pub adds_of : ((b : ℕ) → settled (seen S G) b → ⊥) → {d : Call} {k : Happening} → Turn S.items (seen S G) (seen S G') d k → Adds k
    unfolding place_of committer
    adds_of calm (quiet A) = nought refl refl
    adds_of calm (update_begins s B k e) = nought refl refl
    adds_of calm (query_begins s B k z e) = asks (2 * clock G.txns + 1) (last_number G.txns + 1) refl refl (omega arith) (new_out _ (omega arith))
    adds_of calm (relaxed_begins s B k e) = nought refl refl
    adds_of calm (reads n s x v m b A k) = nought refl refl
    adds_of calm (writes n s x v m b P) = nought refl refl
    adds_of calm (commits n s m a k L o e i) =
        adds (2 * (clock G.txns + 1)) n refl refl (omega arith)
        (subst (λ (j : ℕ). Absent j (numbers_of es)) m ((J.slots s L.alive).waiting (λ z. omega arith))) (live_out n s L.alive m)
    adds_of calm (commits_empty n s m a k w L o e i) =
        adds (2 * clock G.txns + 1) n refl refl (omega arith)
        (subst (λ (j : ℕ). Absent j (numbers_of es)) m ((J.slots s L.alive).waiting (λ z. omega arith))) (live_out n s L.alive m)
    adds_of calm (settles n s m B) = nought refl refl
    adds_of calm (commits_settled n s m a k L o e i) = absurd (calm s (L.alive, k))
    adds_of calm (ends n s m a L o e k) = nought refl refl

    -- ---- the order
    order-more : order (hs ++ (h ∷ [])) ≡ numbers_of (insert_all (place_of (clock G.txns) h) (entries_from 0 [] hs))
    unfolding order
    order-more = ap numbers_of (entries_more 0 [] hs h ∙ ap (λ (k : ℕ). insert_all (place_of k h) es) clk)

    order_none : place_of (clock G.txns) h ≡ [] → order (hs ++ (h ∷ [])) ≡ order hs
    unfolding insert_all order
    order_none e = order-more ∙ ap (λ (l : List Entry). numbers_of (insert_all l es)) e

    order_one : (p n : ℕ) → place_of (clock G.txns) h ≡ record { place = p; number = n } ∷ [] → 2 * clock G.txns + 1 ≤ p → order (hs ++ (h ∷ [])) ≡ order hs ++ (n ∷ [])
    unfolding insert_all order
    order_one p n e l =
        order-more ∙ ap (λ (l : List Entry). numbers_of (insert_all l es)) e
        ∙ insert-last (record { place = p; number = n }) es (all_map _ _ (λ r m z. let a : r ≤ 2 * clock G.txns + 1 = z in omega arith) es J.most)

    -- ---- the logs of those outside stay
    old_run : one_by_one (log_of (hs ++ (h ∷ []))) (by_stamp ever hs) ≡ one_by_one (log_of hs) (by_stamp ever hs)
    old_run = one_same (log_of hs') (log_of hs) (by_stamp ever hs) (λ n m. same_log S q G G' g g' h t hs ever C n (in_kept n (in_those f n (order hs) m).1))

    same_kept : committer h ≡ [] → kept ever' (hs ++ (h ∷ [])) ≡ kept ever hs
    unfolding those
    same_kept e = kept_more S q G G' g g' h t hs ever C ∙ ap (λ (l : List ℕ). K ++ those (λ n. not (ever' n)) l) e ∙ append-nil K

    stamp-same : by_stamp ever' (hs ++ (h ∷ [])) ≡ by_stamp ever hs → stamp_array ever' (hs ++ (h ∷ [])) ≡ stamp_array ever hs
    stamp-same e = ap (λ (ns : List ℕ). final (one_by_one (log_of hs') ns) zeros) e ∙ ap (λ (l : List Access). final l zeros) old_run

    -- ---- both grow alike
    pub alike_on :
        Adds h → ((x : ℕ) → x < S.items → stamp_array ever hs x ≡ array_of ever hs x) → (x : ℕ) → x < S.items
        → stamp_array ever' (hs ++ (h ∷ [])) x ≡ array_of ever' (hs ++ (h ∷ [])) x
    unfolding those
    alike_on more same x i = go more
      where
        go : Adds h → stamp_array ever' (hs ++ (h ∷ [])) x ≡ array_of ever' (hs ++ (h ∷ [])) x
        go (nought e z) =
            ap (λ (a : Array). a x)
            (stamp-same (ap (λ (ks : List ℕ). those (λ n. some (eqb n) ks) (order hs')) (same_kept z) ∙ ap (those f) (order_none e)))
            ∙ same x i ∙ sym (ap (λ (a : Array). a x) (array_none S q G G' g g' h t hs ever C z))
        go (asks p n e z l out) =
            ap (λ (a : Array). a x)
            (stamp-same
            (ap (λ (ks : List ℕ). those (λ n. some (eqb n) ks) (order hs')) (same_kept z) ∙ ap (those f) (order_one p n e l) ∙ those-append f (order hs) (n ∷ [])
            ∙ ap (λ (b : Bool). by_stamp ever hs ++ cond b (n ∷ []) []) (is_false (f n) out) ∙ append-nil (by_stamp ever hs)))
            ∙ same x i ∙ sym (ap (λ (a : Array). a x) (array_none S q G G' g g' h t hs ever C z))
        go (adds p n e z l absent out) =
            ap (λ (ns : List ℕ). final (one_by_one (log_of hs') ns) zeros x) list
            ∙ last (not (ever' n))
            ∙ sym (ap (λ (a : Array). a x) (array_one S q G G' g g' h t hs ever C n z))
          where
            f' : ℕ → Bool
            f' m = some (eqb m) (kept ever' (hs ++ (h ∷ [])))

            f_more : (m : ℕ) → f' m ≡ (f m || some (eqb m) (those (λ n. not (ever' n)) (n ∷ [])))
            f_more m =
                ap (some (eqb m)) (kept_more S q G G' g g' h t hs ever C ∙ ap (λ (l : List ℕ). K ++ those (λ n. not (ever' n)) l) z)
                ∙ some_append (eqb m) K (those (λ n. not (ever' n)) (n ∷ []))

            is_n : (m : ℕ) → T (some (eqb m) (those (λ n. not (ever' n)) (n ∷ []))) → m ≡ n
            is_n m w = at (in_those (λ n. not (ever' n)) m (n ∷ []) w).0
              where
                at : T (some (eqb m) (n ∷ [])) → m ≡ n
                at v = only_one m n v

            old : those f' (order hs) ≡ by_stamp ever hs
            old =
                those-same f' f (order hs)
                (λ m w. f_more m ∙ or_none (f m) _ (is_false _ (λ v. absent_some n (order hs) (unfold order in absent) (subst (λ (j : ℕ). T (some (eqb j) (order hs))) (is_n m v) w))))

            new : f' n ≡ not (ever' n)
            new = f_more n ∙ ap (λ (b : Bool). b || some (eqb n) (those (λ n. not (ever' n)) (n ∷ []))) (is_false (f n) out) ∙ pick (not (ever' n))
              where
                pick : (b : Bool) → some (eqb n) (cond b (n ∷ []) []) ≡ b
                pick true = is_true _ (one_in n)
                pick false = unfold some in refl

            list : by_stamp ever' (hs ++ (h ∷ [])) ≡ by_stamp ever hs ++ cond (not (ever' n)) (n ∷ []) []
            list =
                ap (those f') (order_one p n e l) ∙ those-append f' (order hs) (n ∷ []) ∙ ap (λ (l : List ℕ). l ++ those f' (n ∷ [])) old
                ∙ ap (λ (b : Bool). by_stamp ever hs ++ cond b (n ∷ []) []) new

            last :
                (b : Bool)
                → final (one_by_one (log_of (hs ++ (h ∷ []))) (by_stamp ever hs ++ cond b (n ∷ []) [])) zeros x
                ≡ cond b (final (granted_to n (hs ++ (h ∷ []))) (array_of ever hs)) (array_of ever hs) x
            last true =
                ap (λ (l : List Access). final l zeros x) (all_more (log_of hs') (by_stamp ever hs) n)
                ∙ ap (λ (a : Array). a x) (final-append (one_by_one (log_of hs') (by_stamp ever hs)) (granted_to n hs') zeros)
                ∙ ap (λ (l : List Access). final (granted_to n hs') (final l zeros) x) old_run
                ∙ local_final (λ x. x < S.items) (granted_to n hs') (stamp_array ever hs) (array_of ever hs) same x i
            last false =
                ap (λ (ns : List ℕ). final (one_by_one (log_of hs') ns) zeros x) (append-nil (by_stamp ever hs))
                ∙ ap (λ (l : List Access). final l zeros x) old_run ∙ same x i
