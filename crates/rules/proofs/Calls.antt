-- What each call does where nothing refuses it, as one equation.
use Prim.Native.Nat.{ℕ, ◌+◌, ◌<◌}
use mathlib.Core.Path.{◌≡◌, ◌∙◌}
use mathlib.Core.Logic.{◌≢◌}
use mathlib.Core.Bool.{true, false}
use native.Mathlib.Omega.{arith}
use lib.Dec.{T, eqb}
use borrow.Author.Tests.{ne_eqb, eq-eqb, lt-leb}
use Rattle.names.specs.declared.Sizes.{Sizes}
use Rattle.names.specs.Sizes.{last_word}
use Rattle.rules.specs.Tables.{Tables, last_number, clock, txn, live_update, any_query, is_reader, query_kind, an_update, a_query, a_settled, a_relaxed, no_lock, shared_lock, exclusive_lock, some_settled}
use Rattle.rules.specs.Tables.{slot_of, free_slot, lock, holds_exclusive, exclusives_of}
use Rattle.rules.specs.Good.{Good}
use Rattle.rules.specs.Locks.{to_read, to_write}
use Rattle.rules.specs.Answers.{Call, BeginUpdate, BeginQuery, Read, Write, Commit, Abort, BeginRelaxed, says, granted, refuses, QuotaSpent}
use Rattle.rules.specs.Step.{step, act, judged, done, meets_settled, begin_by, begun, read_by, write_by, commit_update, commit_by, abort_by, version_read, access, awaits_other, held_back, start_read, writes_past, writes_further}
use Rattle.rules.specs.Step.{with_txns, read_noted, counted, committed, ended, aborted}
use Rattle.rules.specs.Changed.{looked_at, chosen}
use Rattle.rules.proofs.Steps.{acts}
use Rattle.rules.proofs.Callers.{Caller, caller-found, is_query, any-query-kind, update-kind}
use Rattle.rules.proofs.RowKinds.{reader-live, any-query-reads, holder_no_query, update-holds}
use Rattle.rules.proofs.Tests.{is_true, is_false}

module _ (S : Sizes) (G : Tables) (g : Good S G) where
  on_good : (c : Call) → step S c G ≡ act S c G
  on_good c = acts S c G g

  -- ---- begin
  module _ (room : free_slot S G.txns < S.slots) (left : last_number G.txns ≢ last_word) where
    pub update-begins :
        step S BeginUpdate G ≡ says granted 0 (last_number G.txns + 1) 0 (begun an_update 0 (free_slot S G.txns) G)
    unfolding act judged done begin_by meets_settled
    update-begins =
        on_good BeginUpdate
        ∙ rw (ne_eqb (free_slot S G.txns) S.slots (omega arith), ne_eqb (last_number G.txns) last_word left)

    pub query-begins :
        step S BeginQuery G
        ≡ says granted 0 (last_number G.txns + 1) 0 (begun a_query (clock G.txns) (free_slot S G.txns) G)
    unfolding act judged done begin_by meets_settled
    query-begins =
        on_good BeginQuery
        ∙ rw (ne_eqb (free_slot S G.txns) S.slots (omega arith), ne_eqb (last_number G.txns) last_word left)

    -- request E11: while nobody is past its writing
    pub relaxed-begins :
        some_settled S G.txns ≡ false
        → step S BeginRelaxed G ≡ says granted 0 (last_number G.txns + 1) 0 (begun a_relaxed 0 (free_slot S G.txns) G)
    unfolding act judged done begin_by meets_settled
    relaxed-begins none =
        on_good BeginRelaxed
        ∙ rw (ne_eqb (free_slot S G.txns) S.slots (omega arith), ne_eqb (last_number G.txns) last_word left, none)

  -- ---- the transaction with the number n, in slot s
  module _ (n s : ℕ) (C : Caller S G n s) where
    found : slot_of S G.txns n ≡ s
    found = caller-found S G g s n C.inside C.alive C.name

    within : eqb s S.slots ≡ false
    within = ne_eqb s S.slots (let i = C.inside in omega arith)

    -- ---- a query, or one past its writing, which reads what it does not hold and nobody holds back
    pub version_reads :
        T (is_reader (txn G.txns s)) → (x : ℕ) → x < S.items → (T (holds_exclusive (lock G.locks x) s) → ⊥) → held_back S G.txns G.locks x s ≡ false
        → step S (Read n x) G
        ≡ says granted (chosen S G s x).value 0 (looked_at S G s x)
        (with_txns G (counted (read_noted G.txns G.locks s x) s (looked_at S G s x)))
    unfolding act judged done read_by start_read version_read awaits_other
    version_reads reader x known other free =
        on_good (Read n x)
        ∙ rw (
          found,
          within,
          lt-leb S.items x known,
          eq-eqb (txn G.txns s).awaited_lock no_lock ((g.txn_good s C.inside).reader_idle reader),
          ne_eqb (txn G.txns s).kind an_update (reader-live (txn G.txns s) reader).1,
          is_false (holds_exclusive (lock G.locks x) s) other,
          free,
        )

    -- ---- a query, relaxed or not
    module _ (query : T (any_query (txn G.txns s))) where
      a_query_lem : query_kind (txn G.txns s).kind ≡ true
      a_query_lem = any-query-kind G.txns s query

      none : eqb (txn G.txns s).awaited_lock no_lock ≡ true
      none = eq-eqb (txn G.txns s).awaited_lock no_lock ((g.txn_good s C.inside).reader_idle (any-query-reads (txn G.txns s) query))

      pub query-commits : step S (Commit n) G ≡ says granted (txn G.txns s).weight_sum 0 (txn G.txns s).read_count (ended S s G)
      unfolding act judged done commit_by
      query-commits = on_good (Commit n) ∙ rw (found, within, none, a_query_lem)

      pub query_aborts : step S (Abort n) G ≡ says granted (txn G.txns s).weight_sum 0 (txn G.txns s).read_count (ended S s G)
      unfolding act judged done abort_by
      query_aborts = on_good (Abort n) ∙ rw (found, within, a_query_lem)

    -- ---- an update
    module _ (update : T (live_update (txn G.txns s))) where
      no_query : query_kind (txn G.txns s).kind ≡ false
      no_query =
          is_false (query_kind (txn G.txns s).kind)
          (λ k. holder_no_query (txn G.txns s) (update-holds (txn G.txns s) update) (is_query G.txns s C.alive (is_true _ k)))

      not_past : eqb (txn G.txns s).kind a_settled ≡ false
      not_past = ne_eqb (txn G.txns s).kind a_settled (λ e. let u = update-kind G.txns s update in omega arith)

      a_writer : eqb (txn G.txns s).kind an_update ≡ true
      a_writer = eq-eqb (txn G.txns s).kind an_update (update-kind G.txns s update)

      -- what the cell of the table comes to, done
      pub update-reads :
          (x : ℕ) → x < S.items → awaits_other G.txns s shared_lock x ≡ false
          → step S (Read n x) G ≡ done S (access S to_read s x 0 G) G
      unfolding act judged done read_by
      update-reads x known free = on_good (Read n x) ∙ rw (found, within, lt-leb S.items x known, free, a_writer)

      pub update-writes :
          (x v : ℕ) → x < S.items → awaits_other G.txns s exclusive_lock x ≡ false → writes_further S G.locks s x ≡ false
          → step S (Write n x v) G ≡ done S (access S to_write s x v G) G
      unfolding act judged done write_by writes_past
      update-writes x v known free room =
          on_good (Write n x v) ∙ rw (found, within, lt-leb S.items x known, no_query, free, not_past, room)

      -- request E2: the quota is spent
      pub update_spent :
          (x v : ℕ) → x < S.items → awaits_other G.txns s exclusive_lock x ≡ false → writes_further S G.locks s x ≡ true
          → step S (Write n x v) G ≡ refuses QuotaSpent G
      unfolding act judged done write_by writes_past
      update_spent x v known free full =
          on_good (Write n x v) ∙ rw (found, within, lt-leb S.items x known, no_query, free, not_past, full)

      pub update-commits :
          (txn G.txns s).awaited_lock ≡ no_lock → exclusives_of S G.locks s ≢ 0 → clock G.txns ≢ last_word
          → step S (Commit n) G ≡ says granted 0 (clock G.txns + 1) 0 (committed S s G)
      unfolding act judged done commit_by commit_update
      update-commits idle some left =
          on_good (Commit n)
          ∙ rw (found, within, eq-eqb (txn G.txns s).awaited_lock no_lock idle, no_query, not_past, ne_eqb (exclusives_of S G.locks s) 0 some, ne_eqb (clock G.txns) last_word left)

      pub update_aborts : step S (Abort n) G ≡ says granted 0 0 0 (aborted S s G)
      unfolding act judged done abort_by
      update_aborts = on_good (Abort n) ∙ rw (found, within, no_query, not_past)
