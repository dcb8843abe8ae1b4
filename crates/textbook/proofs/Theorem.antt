-- Each link leads forward, so the graph has no circle.
--
-- A read by T_k of the version x_d, T_k standing at the place p: T_k has not written x, so the version is what the serial order has at p, that
-- of the last writer of x ahead of p (Found). So T_d stands ahead of T_k; and a writer whose version comes behind x_d does not stand ahead of p, nor
-- at p, where nobody else who took a stamp stands.
use Prim.Native.Nat.{ℕ, ◌+◌, ◌*◌, ◌/◌, ◌%◌, ◌≤◌, ◌<◌}
use mathlib.Core.Path.{◌≡◌, refl, sym, ap, ◌∙◌, subst}
use mathlib.Core.Logic.{◌≢◌, ◌⊎◌, inl, inr}
use mathlib.Core.Bool.{Bool, true, false, ◌&&◌, ◌||◌}
use mathlib.Core.List.{List, [], Memᴰ}
use native.Mathlib.Omega.{arith}
use lib.Dec.{T, eqb, ltb, eqb→eq}
use borrow.Author.Tests.{ltb-true, ltb-false}
use Rattle.names.specs.declared.Sizes.{Sizes}
use Rattle.rules.specs.Words.{some}
use Rattle.rules.specs.Tables.{fresh}
use Rattle.rules.specs.Waits.{Walk, one, more}
use Rattle.rules.specs.Answers.{Call}
use Rattle.rules.proofs.Tests.{and_left, and_right, and_both, or_cases, or_left, is_true, ne_make, ne_use, eq_make, same?}
use Rattle.rules.proofs.Counts.{some_mem, mem_some}
use Rattle.history.specs.Runs.{end_of}
use Rattle.history.specs.Happened.{Access, Happening, happenings}
use Rattle.history.specs.Serial.{Entry, granted_to, entries_from, numbers_of, Once}
use Rattle.history.proofs.Plain.{Array, zeros, agrees, final}
use Rattle.history.proofs.Order.{array_at, strictly}
use Rattle.history.proofs.Invariant.{Inv}
use Rattle.history.proofs.Theorem.{run_inv}
use Rattle.textbook.specs.Marks.{Mark, marks, whats}
use Rattle.textbook.specs.Nodes.{nodes}
use Rattle.textbook.specs.Graph.{Got, reads_of, wrote, is_of, writes_later, writes_earlier, reads_from, reads_before, different, writes_before, linked, link_among, link}
use Rattle.textbook.specs.Promises.{TextbookRun}
use Rattle.textbook.proofs.Traced.{traced}
use Rattle.textbook.proofs.Run.{retold_all, AllForetold, whats-told, traced-inv}
use Rattle.textbook.proofs.Members.{all_at, even_one, place_in, place_in_lem}
use Rattle.textbook.proofs.Logs.{Puts, ends_at, Last, Nobody, last_writer}
use Rattle.textbook.proofs.Retold.{put-wrote, wrote-put}
use Rattle.textbook.proofs.Clear.{clear_run, read_first}
use Rattle.textbook.proofs.Placed.{nodes_in_lem, even_in, stamp_in, foretold}
use Rattle.textbook.proofs.Once.{nodes-once}

module _ (S : Sizes) (enough : S.slots ≤ S.places) (room : 1 ≤ S.places) (cs : List Call) where
  abbrev hs : List Happening
  hs = happenings S cs

  abbrev ms : List Mark
  ms = marks S cs

  -- history's order, whose members are more than the nodes: queries that live, too
  abbrev es : List Entry
  es = entries_from 0 [] (happenings S cs)

  abbrev st : ℕ → ℕ
  st = stamp_in (entries_from 0 [] (happenings S cs))

  abbrev log : ℕ → List Access
  log n = granted_to n (retold_all (stamp_in (entries_from 0 [] (happenings S cs))) (marks S cs))

  foreseen : AllForetold st hs
  foreseen = foretold hs (run_inv S enough room cs).once

  J : Inv S.items es log (traced S st (end_of S cs (fresh S)))
  J = traced-inv S enough st room cs foreseen

  -- ---- who wrote took a stamp, and wrote under it
  even : (e : Entry) (x : ℕ) → Memᴰ e es → T (wrote ms e.number x) → e.place % 2 ≡ 0
  even e x m w = go (same? (e.place % 2) 1)
    where
      p : Puts x (st e.number) (log e.number)
      p = wrote-put st e.number x ms w

      -- nothing changes at an odd place
      a : Array
      a y = st e.number + 1

      odd : e.place % 2 ≡ 1 → ⊥
      odd z = no (ends_at (log e.number) a x)
        where
          f : final (log e.number) a x ≡ st e.number + 1
          f = ap (λ (b : Array). b x) (all_at (λ q n. q % 2 ≡ 1 → (a : Array) → final (log n) a ≡ a) m J.still z a)

          no : ((final (log e.number) a x ≡ a x) × ((v : ℕ) → Puts x v (log e.number) → ⊥)) ⊎ Puts x (final (log e.number) a x) (log e.number) → ⊥
          no (inl k) = k.1 (st e.number) p
          no (inr k) = let v = (put-wrote st e.number x _ ms k).0 in let u = f in omega arith

      go : (e.place % 2 ≡ 1) ⊎ (e.place % 2 ≢ 1) → e.place % 2 ≡ 0
      go (inl z) = absurd (odd z)
      go (inr z) = omega arith

  stamp_of_lem : (e : Entry) → Memᴰ e es → st e.number ≡ e.place / 2
  stamp_of_lem e m = ap (λ (q : ℕ). q / 2) (place_in_lem e es J.once m)

  -- what e put is its stamp
  under : (e : Entry) (x v : ℕ) → Memᴰ e es → Puts x v (log e.number) → (e.place ≡ 2 * v) × T (wrote ms e.number x)
  under e x v m p =
      let r = put-wrote st e.number x v ms p in
      let z = even e x m r.1 in
      let y = stamp_of_lem e m in
      let w = r.0 in
      (omega arith, r.1)

  -- ---- what a member of the order read: of the last writer ahead of it, or nobody wrote ahead of it, and it is the starting zero
  pub record Found (k : Entry) (r : Got) : Type 0 where
    pub from : (r.stamp ≡ 0) ⊎ ((i : Entry) × Memᴰ i es × (i.place ≡ 2 * r.stamp) × (i.place < k.place) × T (wrote ms i.number r.item))
    pub latest : (f : Entry) → Memᴰ f es → f.place < k.place → T (wrote ms f.number r.item) → f.place ≤ 2 * r.stamp

  fact : (k : Entry) (r : Got) → Memᴰ k es → Memᴰ r (reads_of k.number ms) → Found k r
  fact k r m i = go (last_writer log k.place x es zeros J.sorted)
    where
      x : ℕ
      x = r.item

      -- it has not written the item, so it got what the order has at its place
      e : array_at k.place es log r.item ≡ r.stamp
      e =
          read_first st k.number (array_at k.place es log) (λ n. []) ms r (clear_run S enough st room cs foreseen)
          (all_at (λ p n. T (agrees (log n) (array_at p es log))) m J.told) i

      go :
          ((array_at k.place es log r.item ≡ 0) × Nobody log k.place r.item es) ⊎ Last log k.place r.item es (array_at k.place es log r.item)
          → Found k r
      go (inl q) =
          record {
            from = inl (sym e ∙ q.0);
            latest = λ f n l w. absurd (q.1 f n l (st f.number) (wrote-put st f.number x ms w));
          }
      go (inr L) =
          let u = under L.entry x _ L.there L.wrote_it in
          let y : L.entry.place ≡ 2 * r.stamp = u.0 ∙ ap (λ (v : ℕ). 2 * v) e in
          record {
            from = inr (L.entry, L.there, y, L.low, u.1);
            latest = λ f n l w. subst (λ (q : ℕ). f.place ≤ q) y (L.latest f n l (st f.number) (wrote-put st f.number x ms w));
          }

  -- ---- two different ones, the second of which wrote, do not stand at one place
  apart : (i j : Entry) (x : ℕ) → i.number ≢ j.number → Memᴰ i es → Memᴰ j es → T (wrote ms j.number x) → i.place ≢ j.place
  apart i j x d a b w e =
      d (ap (λ (k : Entry). k.number) (even_one i j es J.sorted a b e (ap (λ (q : ℕ). q % 2) e ∙ even j x b w)))

  -- ---- each link
  module _ (i j : Entry) (a : Memᴰ i es) (b : Memᴰ j es) (d : i.number ≢ j.number) where
    from_first : (r : Got) → Memᴰ r (reads_of j.number ms) → T (is_of ms i r) → i.place < j.place
    unfolding is_of
    from_first r m t = found (fact j r b m).from
      where
        w : T (wrote ms i.number r.item)
        w = and_left (wrote ms i.number r.item) _ t

        e : i.place ≡ 2 * r.stamp
        e = eqb→eq i.place (2 * r.stamp) (and_right (wrote ms i.number r.item) _ t)

        not_same : j.place ≢ i.place
        not_same = apart j i r.item (λ z. d (sym z)) b a w

        found : (r.stamp ≡ 0) ⊎ ((k : Entry) × Memᴰ k es × (k.place ≡ 2 * r.stamp) × (k.place < j.place) × T (wrote ms k.number r.item)) → i.place < j.place
        found (inl z) = strictly i.place j.place (let y = e in omega arith) (λ q. not_same (sym q))
        found (inr (k, n, p, l, v)) = let y = e in omega arith

    before-later : (r : Got) → Memᴰ r (reads_of i.number ms) → T (writes_later ms j r) → i.place < j.place
    unfolding writes_later
    before-later r m t = found (fact i r a m).latest (ltb j.place i.place) refl
      where
        w : T (wrote ms j.number r.item)
        w = and_left (wrote ms j.number r.item) _ t

        e : 2 * r.stamp < j.place
        e = ltb-true (2 * r.stamp) j.place (is_true _ (and_right (wrote ms j.number r.item) _ t))

        found : ((f : Entry) → Memᴰ f es → f.place < i.place → T (wrote ms f.number r.item) → f.place ≤ 2 * r.stamp) → (c : Bool) → ltb j.place i.place ≡ c → i.place < j.place
        found latest true z = absurd (let l = latest j b (ltb-true j.place i.place z) w in let y = e in omega arith)
        found latest false z = strictly i.place j.place (ltb-false j.place i.place z) (apart i j r.item d a b w)

    earlier_first : (r : Got) → T (is_of ms j r && writes_earlier ms i r) → i.place < j.place
    unfolding is_of writes_earlier
    earlier_first r t =
        let p = and_left (wrote ms j.number r.item && eqb j.place (2 * r.stamp)) _ t in
        let q = and_right (wrote ms j.number r.item && eqb j.place (2 * r.stamp)) _ t in
        let e = eqb→eq j.place (2 * r.stamp) (and_right (wrote ms j.number r.item) _ p) in
        let l = ltb-true i.place (2 * r.stamp) (is_true _ (and_right (wrote ms i.number r.item) _ q)) in
        omega arith

  -- "T_k being one of the nodes": which ones they are does not matter here
  pub leads : (ns : List Entry) (i j : Entry) → Memᴰ i es → Memᴰ j es → T (linked ns ms i j) → i.place < j.place
  unfolding linked reads_from reads_before writes_before different
  leads ns i j a b t = go (or_cases (reads_from ms i j) _ (and_right (different i j) _ t))
    where
      d : i.number ≢ j.number
      d = ne_use i.number j.number (and_left (different i j) _ t)

      second : T (reads_before ms i j) ⊎ T (writes_before ns ms i j) → i.place < j.place
      second (inl h) = let r = mem_some (writes_later ms j) (reads_of i.number ms) h in before-later i j a b d r.0 r.1 r.2
      second (inr h) =
          let k = mem_some _ ns h in
          let r = mem_some _ (reads_of k.0.number ms) (and_right (different k.0 i && different k.0 j) _ k.2) in
          earlier_first i j a b d r.0 r.2

      go : T (reads_from ms i j) ⊎ T (reads_before ms i j || writes_before ns ms i j) → i.place < j.place
      go (inl h) = let r = mem_some (is_of ms i) (reads_of j.number ms) h in from_first i j a b d r.0 r.1 r.2
      go (inr h) = second (or_cases (reads_before ms i j) _ h)

  -- ---- nodes
  abbrev ns : List Entry
  ns = nodes (whats (marks S cs))

  in_order_lem : (e : Entry) → Memᴰ e ns → Memᴰ e es
  in_order_lem e m = nodes_in_lem hs e (subst (λ (l : List Happening). Memᴰ e (nodes l)) (whats-told S cs) m)

  as_node : (e : Entry) → e.place % 2 ≡ 0 → Memᴰ e es → Memᴰ e ns
  as_node e z m = subst (λ (l : List Happening). Memᴰ e (nodes l)) (sym (whats-told S cs)) (even_in hs e z m)

  once_so : Once (numbers_of ns)
  once_so = subst (λ (l : List Happening). Once (numbers_of (nodes l))) (sym (whats-told S cs)) (nodes-once S enough room cs)

  pub forward_so : (i j : Entry) → Memᴰ i ns → Memᴰ j ns → T (linked ns ms i j) → i.place < j.place
  forward_so i j a b t = leads ns i j (in_order_lem i a) (in_order_lem j b) t

  sourced_so : (k : Entry) (r : Got) → Memᴰ k ns → Memᴰ r (reads_of k.number ms) → (r.stamp ≡ 0) ⊎ ((i : Entry) × Memᴰ i ns × T (is_of ms i r) × T (linked ns ms i k))
  unfolding linked reads_from different
  sourced_so k r m n = go (fact k r (in_order_lem k m) n).from
    where
      -- it stands elsewhere, so it is another
      other : (i : Entry) → Memᴰ i es → i.place < k.place → i.number ≢ k.number
      other i a l z =
          let p = place_in_lem i es J.once a in
          let q = place_in_lem k es J.once (in_order_lem k m) in
          let y : place_in i.number es ≡ place_in k.number es = ap (λ (j : ℕ). place_in j es) z in
          omega arith

      is_of_lem : (i : Entry) → T (wrote ms i.number r.item) → i.place ≡ 2 * r.stamp → T (is_of ms i r)
      is_of_lem i w p = unfold is_of in and_both (wrote ms i.number r.item) _ w (eq_make i.place (2 * r.stamp) p)

      go :
          (r.stamp ≡ 0) ⊎ ((i : Entry) × Memᴰ i es × (i.place ≡ 2 * r.stamp) × (i.place < k.place) × T (wrote ms i.number r.item))
          → (r.stamp ≡ 0) ⊎ ((i : Entry) × Memᴰ i ns × T (is_of ms i r) × T (different i k && (reads_from ms i k || (reads_before ms i k || writes_before ns ms i k))))
      go (inl z) = inl z
      go (inr (i, a, p, l, w)) =
          let t = is_of_lem i w p in
          inr (i, as_node i (omega arith) a, t, and_both (different i k) _ (ne_make i.number k.number (other i a l)) (or_left (reads_from ms i k) _ (some_mem (is_of ms i) n t)))

  -- ---- a walk leads forward
  pub record Joins (m n : ℕ) : Type 0 where
    pub first : Entry
    pub second : Entry
    pub first_in : Memᴰ first ns
    pub second_in : Memᴰ second ns
    pub first_is : first.number ≡ m
    pub second_is : second.number ≡ n
    pub rises : first.place < second.place

  pub joins : (m n : ℕ) → T (link ms m n) → Joins m n
  unfolding link link_among
  joins m n t =
      let i = mem_some (λ (i : Entry). eqb i.number m && some (λ (j : Entry). eqb j.number n && linked ns ms i j) ns) ns t in
      let j = mem_some (λ (j : Entry). eqb j.number n && linked ns ms i.0 j) ns (and_right (eqb i.0.number m) _ i.2) in
      record {
        first = i.0;
        second = j.0;
        first_in = i.1;
        second_in = j.1;
        first_is = eqb→eq i.0.number m (and_left (eqb i.0.number m) _ i.2);
        second_is = eqb→eq j.0.number n (and_left (eqb j.0.number n) _ j.2);
        rises = forward_so i.0 j.0 i.1 j.1 (and_right (eqb j.0.number n) _ j.2);
      }

  link-rises : (m n : ℕ) → T (link ms m n) → place_in m ns < place_in n ns
  link-rises m n t =
      let L = joins m n t in
      let p : place_in m ns ≡ L.first.place = ap (λ (k : ℕ). place_in k ns) (sym L.first_is) ∙ place_in_lem L.first ns once_so L.first_in in
      let q : place_in n ns ≡ L.second.place = ap (λ (k : ℕ). place_in k ns) (sym L.second_is) ∙ place_in_lem L.second ns once_so L.second_in in
      let l = L.rises in
      omega arith

  walk_rises : {m n : ℕ} → Walk (link ms) m n → place_in m ns < place_in n ns
  walk_rises (one {a} {b} t) = link-rises a b t
  walk_rises (more {a} {b} {c} w t) = let p = walk_rises w in let q = link-rises b c t in omega arith

  pub textbook : TextbookRun S cs
  textbook =
      record {
        once = once_so;
        total = λ i j x y a b v w e.
            ap (λ (k : Entry). k.number) (even_one i j es J.sorted (in_order_lem i a) (in_order_lem j b) e (even i x (in_order_lem i a) v));
        sourced = sourced_so;
        forward = forward_so;
        no_circle = λ n w. let l = walk_rises w in omega arith;
      }
