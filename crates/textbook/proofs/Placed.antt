-- Nodes stand in history's order at their places, and whoever took a stamp and stands there is a node. So the stamps can be foretold.
use Prim.Native.Nat.{ℕ, ◌+◌, ◌*◌, ◌/◌, ◌%◌}
use mathlib.Core.Path.{◌≡◌, refl, sym, ap, subst}
use mathlib.Core.Logic.{◌⊎◌, inl, inr}
use mathlib.Core.Bool.{Bool, true, false, cond}
use mathlib.Core.List.{List, [], ◌∷◌, ◌++◌, Memᴰ}
use native.Mathlib.Omega.{arith}
use lib.Dec.{eqb}
use Rattle.history.specs.Happened.{Happening, update_began, query_began, relaxed_began, accessed, update_committed, empty_committed, settled_under, only_ended, nothing, clock_after}
use Rattle.history.specs.Serial.{Entry, place_of, insert, insert_all, entries_from, numbers_of, Once}
use Rattle.textbook.specs.Nodes.{under_stamp, after_stamp, queries_with, bearing, node_of, nodes_from, nodes}
use Rattle.textbook.proofs.Ways.{Foretells}
use Rattle.textbook.proofs.Run.{AllForetold}
use Rattle.textbook.proofs.Members.{place_in, place_in_lem, in_insert, inserted, insert_in, in_entries}

-- ---- nodes stand in the order
abbrev Among : List Entry → List Entry → Type 0
Among qs es = (e : Entry) → Memᴰ e qs → Memᴰ e es

bearing_in : (n : ℕ) (qs : List Entry) → Among (bearing n qs) qs
unfolding bearing
bearing_in n [] e m = m
bearing_in n (q ∷ qs) e m = go (eqb q.number n) (bearing_in n qs e) m
  where
    on : (Memᴰ e (bearing n qs) → Memᴰ e qs) → (e ≡ q) ⊎ Memᴰ e (bearing n qs) → Memᴰ e (q ∷ qs)
    on ih (inl z) = mathlib.Core.List.Memᴰ.head z
    on ih (inr z) = mathlib.Core.List.Memᴰ.tail (ih z)

    go : (b : Bool) → (Memᴰ e (bearing n qs) → Memᴰ e qs) → Memᴰ e (cond b (q ∷ bearing n qs) (bearing n qs)) → Memᴰ e (q ∷ qs)
    go true ih m = on ih (mathlib.Core.List.Memᴰ.cases_cons m)
    go false ih m = mathlib.Core.List.Memᴰ.tail (ih m)

node-placed : (c : ℕ) (qs es : List Entry) (h : Happening) → Among qs es → Among (node_of qs h) (insert_all (place_of c h) es)
unfolding node_of place_of insert_all
node-placed c qs es (update_committed n d) a e m = inserted (under_stamp n d) es (mathlib.Core.List.Memᴰ.eq_of_singleton m)
node-placed c qs es (empty_committed n d) a e m = inserted (after_stamp n d) es (mathlib.Core.List.Memᴰ.eq_of_singleton m)
node-placed c qs es (only_ended n) a e m = a e (bearing_in n qs e m)
node-placed c qs es (update_began n) a e m = absurd (mathlib.Core.List.Memᴰ.not-nil m)
node-placed c qs es (query_began n) a e m = absurd (mathlib.Core.List.Memᴰ.not-nil m)
node-placed c qs es (relaxed_began n) a e m = absurd (mathlib.Core.List.Memᴰ.not-nil m)
node-placed c qs es (accessed n b) a e m = absurd (mathlib.Core.List.Memᴰ.not-nil m)
node-placed c qs es (settled_under n d) a e m = absurd (mathlib.Core.List.Memᴰ.not-nil m)
node-placed c qs es nothing a e m = absurd (mathlib.Core.List.Memᴰ.not-nil m)

queries_placed : (c : ℕ) (qs es : List Entry) (h : Happening) → Among qs es → Among (queries_with c h qs) (insert_all (place_of c h) es)
unfolding queries_with place_of insert_all
queries_placed c qs es (query_began n) a e m = go (mathlib.Core.List.Memᴰ.cases_cons m)
  where
    go : (e ≡ after_stamp n c) ⊎ Memᴰ e qs → Memᴰ e (insert (after_stamp n c) es)
    go (inl z) = inserted (after_stamp n c) es z
    go (inr z) = in_insert (after_stamp n c) es (a e z)
queries_placed c qs es (update_committed n d) a e m = in_insert (under_stamp n d) es (a e m)
queries_placed c qs es (empty_committed n d) a e m = in_insert (after_stamp n d) es (a e m)
queries_placed c qs es (only_ended n) a e m = a e m
queries_placed c qs es (update_began n) a e m = a e m
queries_placed c qs es (relaxed_began n) a e m = a e m
queries_placed c qs es (accessed n b) a e m = a e m
queries_placed c qs es (settled_under n d) a e m = a e m
queries_placed c qs es nothing a e m = a e m

nodes-among : (c : ℕ) (qs es : List Entry) (hs : List Happening) → Among qs es → Among (nodes_from c qs hs) (entries_from c es hs)
unfolding nodes_from entries_from
nodes-among c qs es [] a e m = absurd (mathlib.Core.List.Memᴰ.not-nil m)
nodes-among c qs es (h ∷ hs) a e m =
    go (nodes-among (clock_after c h) (queries_with c h qs) (insert_all (place_of c h) es) hs (queries_placed c qs es h a) e) (mathlib.Core.List.Memᴰ.append_cases (node_of qs h) m)
  where
    Later : Type 0
    Later = Memᴰ e (entries_from (clock_after c h) (insert_all (place_of c h) es) hs)

    go : (Memᴰ e (nodes_from (clock_after c h) (queries_with c h qs) hs) → Later) → Memᴰ e (node_of qs h) ⊎ Memᴰ e (nodes_from (clock_after c h) (queries_with c h qs) hs) → Later
    go ih (inl k) = in_entries (clock_after c h) (insert_all (place_of c h) es) hs (node-placed c qs es h a e k)
    go ih (inr k) = ih k

pub nodes_in_lem : (hs : List Happening) (e : Entry) → Memᴰ e (nodes hs) → Memᴰ e (entries_from 0 [] hs)
unfolding nodes
nodes_in_lem hs e m = nodes-among 0 [] [] hs (λ e m. m) e m

-- ---- whoever stands at an even place is a node
even-node : (c : ℕ) (qs es : List Entry) (h : Happening) (e : Entry) → e.place % 2 ≡ 0 → Memᴰ e (insert_all (place_of c h) es) → Memᴰ e es ⊎ Memᴰ e (node_of qs h)
unfolding node_of place_of insert_all
even-node c qs es (update_committed n d) e z m = go (insert_in (under_stamp n d) es m)
  where
    go : (e ≡ under_stamp n d) ⊎ Memᴰ e es → Memᴰ e es ⊎ Memᴰ e (under_stamp n d ∷ [])
    go (inl k) = inr (mathlib.Core.List.Memᴰ.head k)
    go (inr k) = inl k
even-node c qs es (empty_committed n d) e z m = go (insert_in (after_stamp n d) es m)
  where
    go : (e ≡ after_stamp n d) ⊎ Memᴰ e es → Memᴰ e es ⊎ Memᴰ e (after_stamp n d ∷ [])
    go (inl k) = inr (mathlib.Core.List.Memᴰ.head k)
    go (inr k) = inl k
even-node c qs es (query_began n) e z m = go (insert_in (after_stamp n c) es m)
  where
    go : (e ≡ after_stamp n c) ⊎ Memᴰ e es → Memᴰ e es ⊎ Memᴰ e []
    go (inl k) = absurd (let y : e.place ≡ 2 * c + 1 = ap (λ (f : Entry). f.place) k in omega arith)
    go (inr k) = inl k
even-node c qs es (only_ended n) e z m = inl m
even-node c qs es (update_began n) e z m = inl m
even-node c qs es (relaxed_began n) e z m = inl m
even-node c qs es (accessed n b) e z m = inl m
even-node c qs es (settled_under n d) e z m = inl m
even-node c qs es nothing e z m = inl m

even-nodes : (c : ℕ) (qs es : List Entry) (hs : List Happening) (e : Entry) → e.place % 2 ≡ 0 → Memᴰ e (entries_from c es hs) → Memᴰ e es ⊎ Memᴰ e (nodes_from c qs hs)
unfolding nodes_from entries_from
even-nodes c qs es [] e z m = inl m
even-nodes c qs es (h ∷ hs) e z m = go (even-nodes (clock_after c h) (queries_with c h qs) (insert_all (place_of c h) es) hs e z m)
  where
    rest : List Entry
    rest = nodes_from (clock_after c h) (queries_with c h qs) hs

    on : Memᴰ e es ⊎ Memᴰ e (node_of qs h) → Memᴰ e es ⊎ Memᴰ e (node_of qs h ++ nodes_from (clock_after c h) (queries_with c h qs) hs)
    on (inl k) = inl k
    on (inr k) = inr (mathlib.Core.List.Memᴰ.append_left rest k)

    go :
        Memᴰ e (insert_all (place_of c h) es) ⊎ Memᴰ e (nodes_from (clock_after c h) (queries_with c h qs) hs)
        → Memᴰ e es ⊎ Memᴰ e (node_of qs h ++ nodes_from (clock_after c h) (queries_with c h qs) hs)
    go (inl k) = on (even-node c qs es h e z k)
    go (inr k) = inr (mathlib.Core.List.Memᴰ.append_right (node_of qs h) k)

pub even_in : (hs : List Happening) (e : Entry) → e.place % 2 ≡ 0 → Memᴰ e (entries_from 0 [] hs) → Memᴰ e (nodes hs)
unfolding nodes
even_in hs e z m = go (even-nodes 0 [] [] hs e z m)
  where
    go : Memᴰ e [] ⊎ Memᴰ e (nodes_from 0 [] hs) → Memᴰ e (nodes_from 0 [] hs)
    go (inl k) = absurd (mathlib.Core.List.Memᴰ.not-nil k)
    go (inr k) = k

-- ---- the stamps, foretold by the order at the end
abbrev pub stamp_in : List Entry → ℕ → ℕ
stamp_in es n = place_in n es / 2

foretold_from : (E : List Entry) → Once (numbers_of E) → (c : ℕ) (es : List Entry) (hs : List Happening) → entries_from c es hs ≡ E → AllForetold (stamp_in E) hs
unfolding AllForetold entries_from
foretold_from E o c es [] z = tt
foretold_from E o c es (h ∷ hs) z = (fore, foretold_from E o (clock_after c h) (insert_all (place_of c h) es) hs z)
  where
    fore : Foretells (stamp_in E) h
    fore n k y =
        let m : Memᴰ (under_stamp n k) (insert_all (place_of c (update_committed n k)) es) = unfold place_of insert_all in inserted (under_stamp n k) es refl in
        let i = subst (λ (l : List Entry). Memᴰ (under_stamp n k) l) z
        (in_entries (clock_after c h) (insert_all (place_of c h) es) hs (subst (λ (g : Happening). Memᴰ (under_stamp n k) (insert_all (place_of c g) es)) (sym y) m)) in
        let p : place_in n E ≡ 2 * k = place_in_lem (under_stamp n k) E o i in
        omega arith

pub foretold : (hs : List Happening) → Once (numbers_of (entries_from 0 [] hs)) → AllForetold (stamp_in (entries_from 0 [] hs)) hs
foretold hs o = foretold_from (entries_from 0 [] hs) o 0 [] hs refl
