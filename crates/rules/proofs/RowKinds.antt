-- What the kind of a row says: who lives, who may hold, who reads and how.
use Prim.Native.Nat.{ℕ}
use mathlib.Core.Path.{◌≡◌, ap}
use mathlib.Core.Logic.{◌≢◌, ◌⊎◌, inl, inr}
use mathlib.Core.Bool.{Bool, not, cond}
use mathlib.Core.List.{List}
use native.Mathlib.Omega.{arith}
use lib.Dec.{T, eqb, eqb→eq}
use borrow.Author.Tests.{eq-eqb, ne_eqb}
use Rattle.rules.specs.Tables.{Txn, txn, live, live_update, live_query, live_settled, live_relaxed, query_kind, any_query, may_hold, is_reader, by_start}
use Rattle.rules.specs.Tables.{an_update, a_query, a_settled, a_relaxed, up_to, outside, reader_in}
use Rattle.rules.proofs.Tests.{and_left, and_right, and_both, or_cases, or_left, or_right, eq_make, ne_make, ne_use, same?}

-- a row is free or live
pub free_or_live : (r : Txn) → (r.number ≡ 0) ⊎ T (live r)
unfolding live
free_or_live r = go (same? r.number 0)
  where
    go : (r.number ≡ 0) ⊎ (r.number ≢ 0) → (r.number ≡ 0) ⊎ T (not (eqb r.number 0))
    go (inl e) = inl e
    go (inr d) = inr (ne_make r.number 0 d)

pub live-number : (r : Txn) → T (live r) → r.number ≢ 0
unfolding live
live-number r h = ne_use r.number 0 h

pub free-number : (r : Txn) → (T (live r) → ⊥) → r.number ≡ 0
free-number r n = go (same? r.number 0)
  where
    go : (r.number ≡ 0) ⊎ (r.number ≢ 0) → r.number ≡ 0
    go (inl e) = e
    go (inr d) = absurd (n (unfold live in (ne_make r.number 0 d)))

pub number-live : (r : Txn) → r.number ≢ 0 → T (live r)
unfolding live
number-live r d = ne_make r.number 0 d

pub update-live : (r : Txn) → T (live_update r) → T (live r) × (r.kind ≡ an_update)
unfolding live_update
update-live r h = (and_left (live r) _ h, eqb→eq r.kind an_update (and_right (live r) _ h))

pub live-update : (r : Txn) → T (live r) → r.kind ≡ an_update → T (live_update r)
unfolding live_update
live-update r h e = and_both (live r) _ h (eq_make r.kind an_update e)

pub query-live : (r : Txn) → T (live_query r) → T (live r) × (r.kind ≡ a_query)
unfolding live_query
query-live r h = (and_left (live r) _ h, eqb→eq r.kind a_query (and_right (live r) _ h))

pub live-query : (r : Txn) → T (live r) → r.kind ≡ a_query → T (live_query r)
unfolding live_query
live-query r h e = and_both (live r) _ h (eq_make r.kind a_query e)

pub settled-live : (r : Txn) → T (live_settled r) → T (live r) × (r.kind ≡ a_settled)
unfolding live_settled
settled-live r h = (and_left (live r) _ h, eqb→eq r.kind a_settled (and_right (live r) _ h))

pub live-settled : (r : Txn) → T (live r) → r.kind ≡ a_settled → T (live_settled r)
unfolding live_settled
live-settled r h e = and_both (live r) _ h (eq_make r.kind a_settled e)

pub relaxed-live : (r : Txn) → T (live_relaxed r) → T (live r) × (r.kind ≡ a_relaxed)
unfolding live_relaxed
relaxed-live r h = (and_left (live r) _ h, eqb→eq r.kind a_relaxed (and_right (live r) _ h))

pub live-relaxed : (r : Txn) → T (live r) → r.kind ≡ a_relaxed → T (live_relaxed r)
unfolding live_relaxed
live-relaxed r h e = and_both (live r) _ h (eq_make r.kind a_relaxed e)

-- ---- who may hold is no query
pub update-holds : (r : Txn) → T (live_update r) → T (may_hold r)
unfolding may_hold
update-holds r u = or_left (live_update r) _ u

pub settled-holds : (r : Txn) → T (live_settled r) → T (may_hold r)
unfolding may_hold
settled-holds r u = or_right (live_update r) _ u

pub holder_cases : (r : Txn) → T (may_hold r) → T (live_update r) ⊎ T (live_settled r)
unfolding may_hold
holder_cases r h = or_cases (live_update r) _ h

pub holder_live : (r : Txn) → T (may_hold r) → T (live r) × (r.kind ≢ a_query)
holder_live r h = go (holder_cases r h)
  where
    go : T (live_update r) ⊎ T (live_settled r) → T (live r) × (r.kind ≢ a_query)
    go (inl u) = let k = update-live r u in (k.0, λ e. (let z = k.1 in omega arith))
    go (inr u) = let k = settled-live r u in (k.0, λ e. (let z = k.1 in omega arith))

-- ---- the queries, relaxed or not
pub query_cases : (r : Txn) → T (any_query r) → T (live_query r) ⊎ T (live_relaxed r)
unfolding any_query query_kind
query_cases r h = go (or_cases (eqb r.kind a_query) _ (and_right (live r) _ h))
  where
    go : T (eqb r.kind a_query) ⊎ T (eqb r.kind a_relaxed) → T (live_query r) ⊎ T (live_relaxed r)
    go (inl e) = inl (live-query r (and_left (live r) _ h) (eqb→eq r.kind a_query e))
    go (inr e) = inr (live-relaxed r (and_left (live r) _ h) (eqb→eq r.kind a_relaxed e))

pub strict_query : (r : Txn) → T (live_query r) → T (any_query r)
unfolding any_query query_kind
strict_query r h = let k = query-live r h in and_both (live r) _ k.0 (or_left (eqb r.kind a_query) _ (eq_make r.kind a_query k.1))

pub relaxed-query : (r : Txn) → T (live_relaxed r) → T (any_query r)
unfolding any_query query_kind
relaxed-query r h = let k = relaxed-live r h in and_both (live r) _ k.0 (or_right (eqb r.kind a_query) _ (eq_make r.kind a_relaxed k.1))

pub holder_no_query : (r : Txn) → T (may_hold r) → T (any_query r) → ⊥
holder_no_query r h q = go (holder_cases r h) (query_cases r q)
  where
    go : T (live_update r) ⊎ T (live_settled r) → T (live_query r) ⊎ T (live_relaxed r) → ⊥
    go (inl u) (inl v) = let a = (update-live r u).1 in let b = (query-live r v).1 in omega arith
    go (inl u) (inr v) = let a = (update-live r u).1 in let b = (relaxed-live r v).1 in omega arith
    go (inr u) (inl v) = let a = (settled-live r u).1 in let b = (query-live r v).1 in omega arith
    go (inr u) (inr v) = let a = (settled-live r u).1 in let b = (relaxed-live r v).1 in omega arith

-- ---- who reads versions is no update that writes
pub reader-live : (r : Txn) → T (is_reader r) → T (live r) × (r.kind ≢ an_update)
unfolding is_reader
reader-live r h = (and_left (live r) _ h, ne_use r.kind an_update (and_right (live r) _ h))

pub live-reader : (r : Txn) → T (live r) → r.kind ≢ an_update → T (is_reader r)
unfolding is_reader
live-reader r h d = and_both (live r) _ h (ne_make r.kind an_update d)

pub update_no_reader : (r : Txn) → T (live_update r) → T (is_reader r) → ⊥
update_no_reader r u h = (reader-live r h).1 (update-live r u).1

pub query-reads : (r : Txn) → T (live_query r) → T (is_reader r)
query-reads r u = let k = query-live r u in live-reader r k.0 (λ e. let z = k.1 in omega arith)

pub settled-reads : (r : Txn) → T (live_settled r) → T (is_reader r)
settled-reads r u = let k = settled-live r u in live-reader r k.0 (λ e. let z = k.1 in omega arith)

pub relaxed-reads : (r : Txn) → T (live_relaxed r) → T (is_reader r)
relaxed-reads r u = let k = relaxed-live r u in live-reader r k.0 (λ e. let z = k.1 in omega arith)

pub any-query-reads : (r : Txn) → T (any_query r) → T (is_reader r)
any-query-reads r h = go (query_cases r h)
  where
    go : T (live_query r) ⊎ T (live_relaxed r) → T (is_reader r)
    go (inl q) = query-reads r q
    go (inr q) = relaxed-reads r q

-- ---- who reads by a start
pub start_cases : (r : Txn) → T (by_start r) → T (live_query r) ⊎ T (live_settled r)
unfolding by_start
start_cases r h = go (or_cases (eqb r.kind a_query) _ (and_right (live r) _ h))
  where
    go : T (eqb r.kind a_query) ⊎ T (eqb r.kind a_settled) → T (live_query r) ⊎ T (live_settled r)
    go (inl e) = inl (live-query r (and_left (live r) _ h) (eqb→eq r.kind a_query e))
    go (inr e) = inr (live-settled r (and_left (live r) _ h) (eqb→eq r.kind a_settled e))

pub query-starts : (r : Txn) → T (live_query r) → T (by_start r)
unfolding by_start
query-starts r h = let k = query-live r h in and_both (live r) _ k.0 (or_left (eqb r.kind a_query) _ (eq_make r.kind a_query k.1))

pub settled-starts : (r : Txn) → T (live_settled r) → T (by_start r)
unfolding by_start
settled-starts r h = let k = settled-live r h in and_both (live r) _ k.0 (or_right (eqb r.kind a_query) _ (eq_make r.kind a_settled k.1))

pub start-reads : (r : Txn) → T (by_start r) → T (is_reader r)
start-reads r h = go (start_cases r h)
  where
    go : T (live_query r) ⊎ T (live_settled r) → T (is_reader r)
    go (inl q) = query-reads r q
    go (inr q) = settled-reads r q

pub start_not_relaxed : (r : Txn) → T (by_start r) → r.kind ≢ a_relaxed
start_not_relaxed r h e = go (start_cases r h)
  where
    go : T (live_query r) ⊎ T (live_settled r) → ⊥
    go (inl q) = let k = (query-live r q).1 in omega arith
    go (inr q) = let k = (settled-live r q).1 in omega arith

-- ---- how the reader in slot s reads
pub reads_up_to : (t : List ℕ) (s : ℕ) → (txn t s).kind ≢ a_relaxed → reader_in t s ≡ up_to (txn t s).start
unfolding reader_in
reads_up_to t s d = ap (λ (b : Bool). cond b (outside s) (up_to (txn t s).start)) (ne_eqb (txn t s).kind a_relaxed d)

pub reads-outside : (t : List ℕ) (s : ℕ) → (txn t s).kind ≡ a_relaxed → reader_in t s ≡ outside s
unfolding reader_in
reads-outside t s e = ap (λ (b : Bool). cond b (outside s) (up_to (txn t s).start)) (eq-eqb (txn t s).kind a_relaxed e)
