-- A query of either kind leaves.
use Prim.Native.Nat.{ℕ, ◌<◌}
use mathlib.Core.Path.{◌≡◌, sym, ap, ◌∙◌}
use mathlib.Core.Logic.{◌≢◌, ◌⊎◌, inl, inr}
use mathlib.Core.List.{List}
use native.Mathlib.Omega.{arith}
use lib.ListN.{length}
use lib.Dec.{T}
use Rattle.names.specs.Sizes.{base}
use Rattle.rules.specs.Tables.{Tables, txn_words, Txn, txn, set_txn, no_txn, readers, a_relaxed, live_query, live_relaxed, any_query, by_start}
use Rattle.rules.specs.Versions.{rewritten, revealed}
use Rattle.rules.specs.Good.{Good}
use Rattle.rules.specs.Step.{forgotten}
use Rattle.rules.proofs.RowKinds.{query-live, relaxed-live, query_cases, query-starts, start_not_relaxed}
use Rattle.rules.proofs.Joined.{forgotten-length, forgotten_none, forgotten-beside}
use Rattle.starts.specs.Starts.{starts}
use Rattle.starts.specs.Ordered.{InOrder}
use Rattle.rewrites.specs.Written.{Showing, Revealable}
use Rattle.rewrites.proofs.Handed.{good-showing, good_reveals, good-unhidden}
use Rattle.endings.specs.Asked.{Gone, QueryGone}

-- which of the two it is, by its kind
pub query-relaxed : (r : Txn) → T (any_query r) → r.kind ≡ a_relaxed → T (live_relaxed r)
query-relaxed r q e = go (query_cases r q)
  where
    go : T (live_query r) ⊎ T (live_relaxed r) → T (live_relaxed r)
    go (inl h) = absurd (let k = (query-live r h).1 in omega arith)
    go (inr h) = h

pub query_by_start : (r : Txn) → T (any_query r) → r.kind ≢ a_relaxed → T (by_start r)
query_by_start r q d = go (query_cases r q)
  where
    go : T (live_query r) ⊎ T (live_relaxed r) → T (by_start r)
    go (inl h) = query-starts r h
    go (inr h) = absurd (d (relaxed-live r h).1)

module _ (G : Tables) (g : Good base G) (s : ℕ) (inside : s < base.slots) where
  -- ---- a relaxed one: whoever was in its set is in it no more, and the others read as before
  module _ (relaxed : T (live_relaxed (txn G.txns s))) (q : List ℕ) (o : InOrder (starts base (set_txn (forgotten base s G.txns) s no_txn)) q) where
    size : length (forgotten base s G.txns) ≡ txn_words base
    size = forgotten-length base s G.txns ∙ g.txns_exact

    pub relaxed-showing : Showing G.versions (readers base (set_txn (forgotten base s G.txns) s no_txn)) s q
    relaxed-showing = good-showing G g s inside (forgotten base s G.txns) size (λ r d. forgotten-beside base s G.txns g.txns_exact r) relaxed q o

    pub relaxed_reveals : Revealable G.versions s q
    relaxed_reveals = good_reveals G g s inside (forgotten base s G.txns) size (λ r d. forgotten-beside base s G.txns g.txns_exact r) relaxed q o

  -- ---- one that reads by a start: nobody is in a set of its slot, and nothing is hidden from it
  module _ (start : T (by_start (txn G.txns s))) where
    no_set : forgotten base s G.txns ≡ G.txns
    no_set =
        forgotten_none base s G.txns
        (λ r i b. start_not_relaxed (txn G.txns s) start (relaxed-live (txn G.txns s) (g.sets_good.of_relaxed r s i b).1).1)

    pub start-gone : {t' v' : List ℕ} {q below next : ℕ} → Gone G.txns G.versions s t' v' q below next → QueryGone G.txns G.versions s t' v'
    start-gone k =
        record {
          txns = k.txns ∙ ap (λ (t : List ℕ). set_txn t s no_txn) (sym no_set);
          versions =
              k.versions
              ∙ sym (good-unhidden G g s start (readers base (set_txn G.txns s no_txn)))
              ∙ ap (λ (t : List ℕ). rewritten base (readers base (set_txn t s no_txn)) (λ x vs. revealed s vs) G.versions) (sym no_set);
        }
