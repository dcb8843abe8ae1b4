-- Document 01, "Waits", and request E4, the line of waiters: who stands where on an item, who waits for whom, and walks along the
-- waits.
use Rattle.std.specs.Prelude.{ℕ, zero, suc, ◌+◌, ◌-◌, Bool, false, ◌&&◌, ◌||◌, not, cond, List, get_or, T, eqb, leb, ltb}
use Rattle.names.specs.declared.Sizes.{Sizes}
use Rattle.rules.specs.Words.{some_below, every_below, count_below, tabulate_from}
use Rattle.rules.specs.Tables.{no_lock, exclusive_lock, Txn, txn, set_awaited, reranked, Lock, lock, holds_shared, holds_exclusive}

-- ---- request E4: "Waiters on an item now stand in the order of their first wait."

-- the transaction awaits something; it awaits the item x
unfoldable pub awaits : Txn → Bool
awaits r = not (eqb r.awaited_lock no_lock)

unfoldable pub awaits_on : ℕ → Txn → Bool
awaits_on x r = awaits r && eqb r.awaited_item x

-- how many wait on item x; how many of them share it, and so wait to exchange
unfoldable pub waiters_on : Sizes → List ℕ → ℕ → ℕ
waiters_on S t x = count_below S.slots (λ b. awaits_on x (txn t b))

unfoldable pub exchangers_on : Sizes → List ℕ → List ℕ → ℕ → ℕ
exchangers_on S t l x = count_below S.slots (λ b. awaits_on x (txn t b) && holds_shared (lock l x) b)

-- the rank of a request by slot s on item x: its own if it already waits there; else behind all who wait to exchange, if it shares the
-- item itself ("A holder of shared that asks for exclusive stands ahead of all who hold nothing there."); else behind all
unfoldable pub rank_for : Sizes → List ℕ → List ℕ → ℕ → ℕ → ℕ
rank_for S t l s x =
    cond (awaits_on x (txn t s)) (txn t s).rank
    (suc (cond (holds_shared (lock l x) s) (exchangers_on S t l x) (waiters_on S t x)))

-- "ranks behind a newcomer or a leaver move": those on item x from rank p on, and those behind rank p
unfoldable pub raised : ℕ → ℕ → Txn → ℕ
raised x p r = cond (awaits_on x r && leb p r.rank) (r.rank + 1) r.rank

unfoldable pub lowered : ℕ → ℕ → Txn → ℕ
lowered x p r = cond (awaits_on x r && ltb p r.rank) (r.rank - 1) r.rank

-- the transactions with the wait of slot s for a lock of kind k on item x noted. One that waits there already is noted
unfoldable pub noted : Sizes → List ℕ → List ℕ → ℕ → ℕ → ℕ → List ℕ
noted S t l s k x =
    let p = rank_for S t l s x in
    cond (awaits_on x (txn t s)) t (set_awaited (reranked S.slots (raised x p) t) s k x p)

-- the transactions with the ranks moved up that stand behind slot s, which leaves its line; if it stands in none, as they are
unfoldable pub closed_up : Sizes → List ℕ → ℕ → List ℕ
closed_up S t s = cond (awaits (txn t s)) (reranked S.slots (lowered (txn t s).awaited_item (txn t s).rank) t) t

-- ---- who blocks whom

-- slot b holds the lock in conflict with a wanted lock of kind k: an exclusive lock conflicts with both kinds, a shared one with
-- an exclusive one
unfoldable pub conflicts : Lock → ℕ → ℕ → Bool
conflicts h k b = holds_exclusive h b || (eqb k exclusive_lock && holds_shared h b)

-- request E4, "an earlier waiter whose wanted lock conflicts": r waits on item x before the rank p, and one of the two wants the
-- item exclusively
unfoldable pub ahead : ℕ → ℕ → ℕ → Txn → Bool
ahead x k p r = awaits_on x r && (ltb r.rank p && (eqb k exclusive_lock || eqb r.awaited_lock exclusive_lock))

-- slot b is another that conflicts with slot s's request, at the rank p, for a lock of kind k on item x: as a holder or as an
-- earlier waiter
unfoldable pub blocks : List ℕ → List ℕ → ℕ → ℕ → ℕ → ℕ → ℕ → Bool
blocks t l k x p s b = not (eqb s b) && (conflicts (lock l x) k b || ahead x k p (txn t b))

-- some other conflicts
unfoldable pub blocked : Sizes → List ℕ → List ℕ → ℕ → ℕ → ℕ → ℕ → Bool
blocked S t l k x p s = some_below S.slots (blocks t l k x p s)

-- "A conflicting call waits for every other holder that conflicts", and for every such waiter. "Its waits are read off the present
-- holders.": a waits for b
unfoldable pub waits_for : List ℕ → List ℕ → ℕ → ℕ → Bool
waits_for t l a b =
    awaits (txn t a) && blocks t l (txn t a).awaited_lock (txn t a).awaited_item (txn t a).rank a b

-- "walk .. waiting transaction to holder": one wait or more
pub data Walk (E : ℕ → ℕ → Bool) : ℕ → ℕ → Type 0 where
  one : {a b : ℕ} → T (E a b) → Walk E a b
  more : {a b c : ℕ} → Walk E a b → T (E b c) → Walk E a c

-- ---- the same, computed: marks on n slots, spread n times along the links
unfoldable pub marked : List Bool → ℕ → Bool
marked m b = get_or m b false

unfoldable pub spread : ℕ → (ℕ → ℕ → Bool) → List Bool → List Bool
spread n E m = tabulate_from 0 n (λ b. marked m b || some_below n (λ a. marked m a && E a b))

unfoldable pub rounds : ℕ → (ℕ → ℕ → Bool) → ℕ → List Bool → List Bool
rounds n E zero m = m
rounds n E (suc k) m = rounds n E k (spread n E m)

unfoldable pub reached : ℕ → (ℕ → ℕ → Bool) → ℕ → List Bool
reached n E a = rounds n E n (tabulate_from 0 n (E a))

-- one can walk from slot a back to slot a
unfoldable pub circle_at : Sizes → List ℕ → List ℕ → ℕ → Bool
circle_at S t l a = awaits (txn t a) && marked (reached S.slots (waits_for t l) a) a

unfoldable pub no_circle : Sizes → List ℕ → List ℕ → Bool
no_circle S t l = every_below S.slots (λ a. not (circle_at S t l a))
