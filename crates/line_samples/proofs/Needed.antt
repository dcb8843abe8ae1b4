-- The promise is false without each of its suppositions: an update waits to read item 5, which update 1 wrote, asks again and is not granted.
use Prim.Native.Nat.{ℕ, ◌<◌}
use mathlib.Core.List.{List, [], ◌∷◌}
use mathlib.Core.Bool.{Bool, ◌&&◌}
use mathlib.Core.Logic.{◌⊎◌, inl, inr}
use mathlib.Core.Path.{◌≡◌, refl, sym, ap, subst, ◌∙◌}
use native.Mathlib.Omega.{arith}
use lib.Dec.{T, eqb, eqb→eq}
use Rattle.names.specs.Sizes.{base}
use Rattle.rules.specs.Tables.{Tables, fresh, txn, live, live_settled, slot_of, lock, holds, holds_exclusive, shared_lock}
use Rattle.rules.specs.Waits.{awaits_on}
use Rattle.rules.specs.Good.{Good}
use Rattle.rules.specs.Locks.{to_read}
use Rattle.rules.specs.Answers.{Call, Read, Write, Commit, Abort, Settle, Outcome, code, Wait, UnknownTransaction}
use Rattle.rules.specs.Step.{act}
use Rattle.rules.specs.Promises.{code_of}
use Rattle.rules.proofs.Tests.{and_left, and_right}
use Rattle.rules.proofs.EqualRanks.{awaits_on→}
use Rattle.rules.proofs.Decisions.{holder_alone}
use Rattle.rules.proofs.Callers.{caller-found}
use Rattle.rules.proofs.Steps.{acts}
use Rattle.history.specs.Runs.{end_of}
use Rattle.history.proofs.Happens.{run-good, good-run}
use Rattle.history.proofs.Played.{played_end}
use Rattle.line.specs.Served.{Waiting, Before, Gone, EveryCall, StillWaits, AllEnded, NoneExchanges}
use Rattle.line_samples.specs.Samples.{held, settle, queued, exchange, given_up, AllPast, HoldersEnded, EndsNeeded, PastTooLittle, WaitersNeeded, ExchangesNeeded, WaitNeeded}
use Rattle.line_samples.proofs.Computed.{computed, end_so, ends_so}

-- ---- what is computed of tables, each time as one test: that the update n, in slot s, waits to read item 5, which update 1 holds
-- exclusively, in slot 0, and has the rank p
unfoldable waits_at : ℕ → ℕ → ℕ → Tables → Bool
waits_at n s p G =
    (live (txn G.txns s) && eqb (txn G.txns s).number n)
    && ((eqb (txn G.txns s).awaited_lock shared_lock && eqb (txn G.txns s).awaited_item 5)
    && (eqb (txn G.txns s).rank p && (eqb (txn G.txns 0).number 1 && holds_exclusive (lock G.locks 5) 0)))

-- that 1 is found no more, and n's asking is answered k
unfoldable asks_at : ℕ → ℕ → Tables → Bool
asks_at n k G = eqb (slot_of base G.txns 1) base.slots && eqb (code_of base (Read n 5) G) k

-- the same, as it is computed: the asking of tables that are good, so without the test of them
unfoldable acts_at : ℕ → ℕ → Tables → Bool
acts_at n k G = eqb (slot_of base G.txns 1) base.slots && eqb (act base (Read n 5) G).answer.code k

waits_so : (n s p : ℕ) (cs : List Call) → T (waits_at n s p (played_end base cs (fresh base))) → T (waits_at n s p (end_of base cs (fresh base)))
waits_so n s p cs h = subst (λ (G : Tables). T (waits_at n s p G)) (sym (end_so cs)) h

asks_so :
    (n k : ℕ) (cs ds : List Call)
    → T (acts_at n k (played_end base ds (played_end base cs (fresh base))))
    → T (asks_at n k (end_of base ds (end_of base cs (fresh base))))
unfolding asks_at acts_at
asks_so n k cs ds h =
    let E = end_of base ds (end_of base cs (fresh base)) in
    let g : Good base E = good-run base (omega arith) ds (end_of base cs (fresh base)) (run-good base (omega arith) (omega arith) cs) in
    subst (λ (o : Outcome). T (eqb (slot_of base E.txns 1) base.slots && eqb o.answer.code k)) (sym (acts base (Read n 5) E g))
    (subst (λ (G : Tables). T (acts_at n k G)) (sym (ends_so cs ds)) h)

module _ (n s p : ℕ) (G : Tables) (inside : s < base.slots) (h : T (waits_at n s p G)) where
  abbrev A : Bool
  A = live (txn G.txns s) && eqb (txn G.txns s).number n

  abbrev B : Bool
  B = eqb (txn G.txns s).awaited_lock shared_lock && eqb (txn G.txns s).awaited_item 5

  abbrev P : Bool
  P = eqb (txn G.txns s).rank p

  abbrev O : Bool
  O = eqb (txn G.txns 0).number 1

  parts : T A × T B × T P × T O × T (holds_exclusive (lock G.locks 5) 0)
  unfolding waits_at
  parts =
      let r = and_right A _ h in let q = and_right B _ r in let o = and_right P _ q in
      (and_left A _ h, and_left B _ r, and_left P _ q, and_left O _ o, and_right O _ o)

  waits : Waiting base G to_read n s 5
  waits =
      record {
        caller = record { inside = inside; alive = and_left (live (txn G.txns s)) _ parts.0; name = eqb→eq (txn G.txns s).number n (and_right (live (txn G.txns s)) _ parts.0) };
        lock_kind = eqb→eq (txn G.txns s).awaited_lock shared_lock (and_left (eqb (txn G.txns s).awaited_lock shared_lock) _ parts.1);
        item = eqb→eq (txn G.txns s).awaited_item 5 (and_right (eqb (txn G.txns s).awaited_lock shared_lock) _ parts.1);
      }

  rank : (txn G.txns s).rank ≡ p
  rank = eqb→eq (txn G.txns s).rank p parts.2

  -- only update 1 holds the item
  holder_is : Good base G → (m b : ℕ) → (txn G.txns b).number ≡ m → T (holds (lock G.locks 5) b) → m ≡ 1
  holder_is g m b e u =
      sym e ∙ ap (λ (c : ℕ). (txn G.txns c).number) (sym (holder_alone base G g 5 (omega arith) 0 b parts.4 u))
      ∙ eqb→eq (txn G.txns 0).number 1 parts.3

module _ (n k : ℕ) (G : Tables) (h : T (asks_at n k G)) where
  asks : code_of base (Read n 5) G ≡ k
  unfolding asks_at
  asks = eqb→eq (code_of base (Read n 5) G) k (and_right (eqb (slot_of base G.txns 1) base.slots) _ h)

  gone : Good base G → (m : ℕ) → m ≡ 1 → Gone base G m
  unfolding asks_at
  gone g m e b C =
      let z = eqb→eq (slot_of base G.txns 1) base.slots (and_left (eqb (slot_of base G.txns 1) base.slots) _ h) in
      let q = caller-found base G g b 1 C.inside C.alive (C.name ∙ e) in
      let i = C.inside in omega arith

-- a commit, an abort and a settle are no writes
no_write : {n m x v : ℕ} → Commit n ≡ Write m x v → ⊥
no_write e = let z : ◌≡◌ {A = ℕ} 0 1 = cc in omega arith

not_written : {n m x v : ℕ} → Abort n ≡ Write m x v → ⊥
not_written e = let z : ◌≡◌ {A = ℕ} 0 1 = cc in omega arith

not_settled : {n m x v : ℕ} → Settle n ≡ Write m x v → ⊥
not_settled e = let z : ◌≡◌ {A = ℕ} 0 1 = cc in omega arith

-- ---- update 2 waits for update 1
abbrev G : Tables
G = end_of base held (fresh base)

good-G : Good base G
good-G = run-good base (omega arith) (omega arith) held

held_so : T (waits_at 2 1 1 G)
unfolding computed waits_at
held_so = waits_so 2 1 1 held tt

two_waits : Waiting base G to_read 2 1 5
two_waits = waits 2 1 1 G (omega arith) held_so

-- 1 alone is before it: nobody has a smaller rank
only_one : (m : ℕ) → Before base G 1 5 m → m ≡ 1
only_one m B = first B.there
  where
    first :
        T (holds (lock G.locks 5) B.slot) ⊎ (T (awaits_on 5 (txn G.txns B.slot)) × ((txn G.txns B.slot).rank < (txn G.txns 1).rank))
        → m ≡ 1
    first (inl h) = holder_is 2 1 1 G (omega arith) held_so good-G m B.slot B.caller.name h
    first (inr (h, l)) =
        let k = good-G.ranks_good.least B.slot B.caller.inside (awaits_on→ 5 (txn G.txns B.slot) h).0 in
        let e = rank 2 1 1 G (omega arith) held_so in absurd (omega arith)

-- ---- 1 has not ended
not_yet : code_of base (Read 2 5) G ≡ code Wait
unfolding computed
not_yet =
    ap (λ (o : Outcome). o.answer.code) (acts base (Read 2 5) G good-G)
    ∙ ap (λ (H : Tables). (act base (Read 2 5) H).answer.code) (end_so held) ∙ refl

pub ends-needed : EndsNeeded
unfolding EveryCall end_of
ends-needed P = let z = P G [] to_read 2 1 5 0 good-G two_waits (tt, tt) in let w = not_yet in omega arith

-- ---- 1 is past its writing: it is found in slot 0, and 2's asking is answered 1
unfoldable past_at : Tables → Bool
past_at H = eqb (slot_of base H.txns 1) 0 && (live_settled (txn H.txns 0) && eqb (act base (Read 2 5) H).answer.code (code Wait))

abbrev K : Tables
K = end_of base settle G

good-K : Good base K
good-K = good-run base (omega arith) settle G good-G

past_so : T (past_at K)
unfolding computed past_at
past_so = subst (λ (H : Tables). T (past_at H)) (sym (ends_so held settle)) tt

past-waits : code_of base (Read 2 5) K ≡ code Wait
unfolding past_at
past-waits =
    ap (λ (o : Outcome). o.answer.code) (acts base (Read 2 5) K good-K)
    ∙ eqb→eq _ (code Wait) (and_right (live_settled (txn K.txns 0)) _ (and_right (eqb (slot_of base K.txns 1) 0) _ past_so))

all_past : AllPast G 1 5 settle
unfolding past_at
all_past m b B C =
    let f : slot_of base K.txns 1 ≡ 0 = eqb→eq (slot_of base K.txns 1) 0 (and_left (eqb (slot_of base K.txns 1) 0) _ past_so) in
    let q = caller-found base K good-K b 1 C.inside C.alive (C.name ∙ only_one m B) in
    subst (λ (r : ℕ). T (live_settled (txn K.txns r))) (sym f ∙ q)
    (and_left (live_settled (txn K.txns 0)) _ (and_right (eqb (slot_of base K.txns 1) 0) _ past_so))

pub past_too_little : PastTooLittle
past_too_little h =
    let z = h G settle to_read 2 1 5 0 good-G two_waits (past_still, all_past, past_exchanges) in
    let w = past-waits in omega arith
  where
    past_still : StillWaits base G 2 settle
    past_still = unfold EveryCall settle in (λ e. absurd (omega arith), tt)

    past_exchanges : NoneExchanges base G 2 1 5 settle
    past_exchanges = unfold EveryCall settle in (λ m X. absurd (not_settled X.asks), tt)

-- ---- 1 has ended, and 3 exchanged
exchanged_so : T (asks_at 2 (code Wait) (end_of base exchange G))
unfolding computed acts_at
exchanged_so = asks_so 2 (code Wait) held exchange tt

still : StillWaits base G 2 exchange
unfolding EveryCall exchange
still = (λ e. absurd (omega arith), (λ e. absurd e, (λ e. absurd (omega arith), (λ e. absurd (omega arith), tt))))

pub exchanges_needed : ExchangesNeeded
exchanges_needed P =
    let E = end_of base exchange G in
    let ended : AllEnded base G 1 5 exchange = λ m B. gone 2 (code Wait) E exchanged_so (good-run base (omega arith) exchange G good-G) m (only_one m B) in
    let z = P G exchange to_read 2 1 5 0 good-G two_waits (still, ended) in
    let w = asks 2 (code Wait) E exchanged_so in omega arith

-- ---- 1 has ended, and 2 was aborted
aborted_so : T (asks_at 2 (code UnknownTransaction) (end_of base given_up G))
unfolding computed acts_at
aborted_so = asks_so 2 (code UnknownTransaction) held given_up tt

none_exchanges : NoneExchanges base G 2 1 5 given_up
unfolding EveryCall given_up
none_exchanges = (λ m X. absurd (no_write X.asks), (λ m X. absurd (not_written X.asks), tt))

pub wait_needed : WaitNeeded
wait_needed P =
    let L = end_of base given_up G in
    let ended : AllEnded base G 1 5 given_up = λ m B. gone 2 (code UnknownTransaction) L aborted_so (good-run base (omega arith) given_up G good-G) m (only_one m B) in
    let z = P G given_up to_read 2 1 5 0 good-G two_waits (ended, none_exchanges) in
    let w = asks 2 (code UnknownTransaction) L aborted_so in omega arith

-- ---- 1 has ended, and 2 waits before 3
abbrev Q : Tables
Q = end_of base queued (fresh base)

good-Q : Good base Q
good-Q = run-good base (omega arith) (omega arith) queued

queued_so : T (waits_at 3 2 2 Q)
unfolding computed waits_at
queued_so = waits_so 3 2 2 queued tt

ended_so : T (asks_at 3 (code Wait) (end_of base (Commit 1 ∷ []) Q))
unfolding computed acts_at
ended_so = asks_so 3 (code Wait) queued (Commit 1 ∷ []) tt

pub waiters_needed : WaitersNeeded
unfolding EveryCall
waiters_needed P =
    let R = end_of base (Commit 1 ∷ []) Q in
    let ended : HoldersEnded Q 2 5 (Commit 1 ∷ []) = λ m b C d h. gone 3 (code Wait) R ended_so (good-run base (omega arith) (Commit 1 ∷ []) Q good-Q) m (holder_is 3 2 2 Q (omega arith) queued_so good-Q m b C.name h) in
    let z = P Q (Commit 1 ∷ []) to_read 3 2 5 0 good-Q (waits 3 2 2 Q (omega arith) queued_so) ((λ e. absurd (omega arith), tt), ended, (λ m X. absurd (no_write X.asks), tt)) in
    let w = asks 3 (code Wait) R ended_so in omega arith
