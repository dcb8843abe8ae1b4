-- The test of all tables: each part that fails makes them bad, and where all others pass those past their writing decide.
use Prim.Native.Nat.{ℕ, ◌^◌, ◌<◌}
use mathlib.Core.Path.{◌≡◌, sym, ap, ◌∙◌, subst}
use mathlib.Core.Bool.{◌&&◌, true}
use mathlib.Core.List.{List}
use lib.ListN.{length}
use lib.Dec.{T}
use Rattle.names.specs.Sizes.{base}
use Rattle.rules.specs.Tables.{tables, txn_words, lock_words, version_words}
use Rattle.rules.specs.Tested.{distinct, ranks_good, settled_good, sets_good}
use Rattle.rules.specs.Waits.{no_circle}
use Rattle.rules.proofs.Tests.{and_left, and_right, and_both, is_true, true_is, false_is}
use Rattle.shapes.specs.declared.Seen.{Seen}
use Rattle.shapes.specs.Shape.{seen, rows_good}
use Rattle.holdings.specs.Holding.{locks_good, quotas_good}
use Rattle.waiting.specs.Waiting.{Readable, Awaiting, awaiters_good}
use Rattle.holdings.proofs.Holders.{updates-lt, settled-lt}
use Rattle.stamps.proofs.Stamps.{none_stamped}
use Rattle.tables.proofs.Reading.{awaiting, readable}
use Rattle.waiting.proofs.Rounds.{none_awaits, none_ranked, none_circles}
use Rattle.tables.proofs.Whole.{Parts, versions_test, holders_test, fails, decides, versions-are, each_has, sets_are}
use Rattle.tables.proofs.parts_good.Goals as goal
use Rattle.tables.proofs.parts_good.Goals.{then-waiting-ne0+else-not-waits_pass, else-waiting-ne0}

-- the rows passed
rows_passed : (t : List ℕ) (s : Seen) → s ≡ seen base t → s.ok ≡ true → T (rows_good base t)
rows_passed t s e h = true_is (sym (ap (λ (r : Seen). r.ok) e) ∙ h)

-- all that is asked of the waits
abbrev Waits : List ℕ → List ℕ → Type 0
Waits t l = T (awaiters_good base t l && (ranks_good base t l && no_circle base t l))

-- where nobody waits, it holds
nobody_waits : (t l : List ℕ) (s : Seen) → s ≡ seen base t → T (rows_good base t) → Readable t l → s.waiting ≡ 0 → Waits t l
nobody_waits t l s e rows can z =
    let none : Awaiting t 0 = subst (λ (u : ℕ). Awaiting t u) (sym (ap (λ (r : Seen). r.waiting) e) ∙ z) (awaiting t rows) in
    and_both (awaiters_good base t l) _ (none_awaits t l can none) (and_both (ranks_good base t l) _ (none_ranked t l can none) (none_circles t l can none))

-- what was seen of the words t, l and v, before those past their writing are looked at
record Passed (t l v : List ℕ) : Type 0 where
  pub txns_exact : length t ≡ txn_words base
  pub locks_exact : length l ≡ lock_words base
  pub versions_exact : length v ≡ version_words base
  pub rows : T (rows_good base t)
  pub held : T (locks_good base t l && quotas_good base t l)
  pub numbers : T (distinct base t)
  pub waits : Waits t l
  pub sets : T (sets_good base t && holders_test t l v)
  pub versions : T (versions_test t v)

-- so those past their writing decide
parts_here : (t l v : List ℕ) → Passed t l v → T (settled_good base (tables t l v)) → Parts t l v
parts_here t l v p x =
    record {
      txns_exact = p.txns_exact;
      locks_exact = p.locks_exact;
      versions_exact = p.versions_exact;
      rows = p.rows;
      locks = and_left (locks_good base t l) _ p.held;
      quotas = and_right (locks_good base t l) _ p.held;
      numbers = p.numbers;
      awaiters = and_left (awaiters_good base t l) _ p.waits;
      ranks = and_left (ranks_good base t l) _ (and_right (awaiters_good base t l) _ p.waits);
      free = and_right (ranks_good base t l) _ (and_right (awaiters_good base t l) _ p.waits);
      settled = x;
      sets = and_left (sets_good base t) _ p.sets;
      holders = and_right (sets_good base t) _ p.sets;
      versions = p.versions;
    }

pub returns-then-not-ok : goal.returns-then-not-ok
returns-then-not-ok c = fails _ _ _ (λ p. false_is (sym (ap (λ (s : Seen). s.ok) c.rows-ok.ensures) ∙ c.if-not-ok.true) p.rows)

pub locks_pass-requires : goal.locks_pass-requires
locks_pass-requires c =
    let e = ap (λ (s : Seen). s.updates) c.rows-ok.ensures in
    let f = ap (λ (s : Seen). s.settled) c.rows-ok.ensures in (
      subst (λ (u : ℕ). u < 2 ^ base.slots) (sym e) (updates-lt c.args.txns.now),
      subst (λ (u : ℕ). u < 2 ^ base.slots) (sym f) (settled-lt c.args.txns.now),
    )

pub returns-then-not-locks_pass : goal.returns-then-not-locks_pass
returns-then-not-locks_pass c =
    let e = ap (λ (s : Seen). s.updates) c.rows-ok.ensures in
    let f = ap (λ (s : Seen). s.settled) c.rows-ok.ensures in
    fails _ _ _ (λ p. false_is (sym (c.locks_pass.ensures e f) ∙ c.if-not-locks_pass.true) (and_both (locks_good base _ _) _ p.locks p.quotas))

pub returns-then-not-distinct : goal.returns-then-not-distinct
returns-then-not-distinct c = fails _ _ _ (λ p. false_is (sym c.distinct.ensures ∙ c.if-not-distinct.true) p.numbers)

pub waits_pass-requires : goal.waits_pass-requires
waits_pass-requires c =
    let t = c.args.txns.now in
    let l = c.args.locks.now in
    let rows = rows_passed t _ c.rows-ok.ensures c.if-not-ok.false in
    let held : T (locks_good base t l && quotas_good base t l) = true_is (sym (c.locks_pass.ensures (ap (λ (s : Seen). s.updates) c.rows-ok.ensures) (ap (λ (s : Seen). s.settled) c.rows-ok.ensures)) ∙ c.if-not-locks_pass.false) in
    let can : Readable t l = readable t rows l c.told-txns c.told-locks (and_left (locks_good base t l) _ held) in
    (can, subst (λ (u : ℕ). Awaiting t u) (sym (ap (λ (s : Seen). s.waiting) c.rows-ok.ensures)) (awaiting t rows))

pub returns-then-not-waits_pass : goal.returns-then-not-waits_pass
returns-then-not-waits_pass c =
    fails _ _ _
    (λ p. false_is (sym c.waits_pass.ensures ∙ c.if-not-waits_pass.true) (and_both (awaiters_good base _ _) _ p.awaiters (and_both (ranks_good base _ _) _ p.ranks p.free)))

pub returns-then-not-all_good : goal.returns-then-not-all_good
returns-then-not-all_good c =
    let t = c.args.txns.now in
    let e = ap (λ (s : Seen). s.relaxed) c.rows-ok.ensures in
    fails _ _ _
    (λ p. false_is (sym (versions-are t _ _ e c.starts_in_order-starts.ensures c.all_good.ensures) ∙ c.if-not-all_good.true) p.versions)

pub sets_pass-requires : goal.sets_pass-requires
sets_pass-requires c =
    let seen = c.rows-ok.ensures in (
      ap (λ (s : Seen). s.settled) seen,
      ap (λ (s : Seen). s.relaxed) seen,
      ap (λ (s : Seen). s.later) seen,
    )

pub returns-then-not-sets_pass : goal.returns-then-not-sets_pass
returns-then-not-sets_pass c =
    let t = c.args.txns.now in
    let l = c.args.locks.now in
    let v = c.args.versions.now in
    let rows = rows_passed t _ c.rows-ok.ensures c.if-not-ok.false in
    let vs : T (versions_test t v) = true_is (sym (versions-are t _ _ (ap (λ (s : Seen). s.relaxed) c.rows-ok.ensures) c.starts_in_order-starts.ensures c.all_good.ensures) ∙ c.if-not-all_good.false) in
    fails _ _ _
    (λ p. false_is (sym (c.sets_pass.ensures ∙ sets_are t l v rows vs) ∙ c.if-not-sets_pass.true) (and_both (sets_good base _) _ p.sets p.holders))

pub returns-then-settled-eq0 : goal.returns-then-settled-eq0
returns-then-settled-eq0 c =
    let t = c.args.txns.now in
    let l = c.args.locks.now in
    let v = c.args.versions.now in
    let rows = rows_passed t _ c.rows-ok.ensures c.if-not-ok.false in
    let vs : T (versions_test t v) = true_is (sym (versions-are t _ _ (ap (λ (s : Seen). s.relaxed) c.rows-ok.ensures) c.starts_in_order-starts.ensures c.all_good.ensures) ∙ c.if-not-all_good.false) in
    let held : T (locks_good base t l && quotas_good base t l) = true_is (sym (c.locks_pass.ensures (ap (λ (s : Seen). s.updates) c.rows-ok.ensures) (ap (λ (s : Seen). s.settled) c.rows-ok.ensures)) ∙ c.if-not-locks_pass.false) in
    let can : Readable t l = readable t rows l c.told-txns c.told-locks (and_left (locks_good base t l) _ held) in
    let waits : Waits t l = elim c.if-waiting-ne0.branch [ then-waiting-ne0+else-not-waits_pass w ↦ true_is (sym w.waits_pass.ensures ∙ w.if-not-waits_pass.false) | else-waiting-ne0 w ↦ nobody_waits t l _ c.rows-ok.ensures rows can w.if-waiting-ne0.false ] in
    let passed : Passed t l v = record {
      txns_exact = c.told-txns;
      locks_exact = c.told-locks;
      versions_exact = c.told-versions;
      rows = rows;
      held = held;
      numbers = true_is (sym c.distinct.ensures ∙ c.if-not-distinct.false);
      waits = waits;
      sets = true_is (sym (c.sets_pass.ensures ∙ sets_are t l v rows vs) ∙ c.if-not-sets_pass.false);
      versions = vs;
    } in
    let x = none_stamped (tables t l v) (sym (ap (λ (s : Seen). s.settled) c.rows-ok.ensures) ∙ c.if-settled-eq0.true) in
    decides _ _ _ (sym (is_true (settled_good base (tables t l v)) x)) (parts_here t l v passed)

pub stamps_pass-requires : goal.stamps_pass-requires
stamps_pass-requires c =
    let t = c.args.txns.now in
    let l = c.args.locks.now in
    let v = c.args.versions.now in
    let rows = rows_passed t _ c.rows-ok.ensures c.if-not-ok.false in
    let vs : T (versions_test t v) = true_is (sym (versions-are t _ _ (ap (λ (s : Seen). s.relaxed) c.rows-ok.ensures) c.starts_in_order-starts.ensures c.all_good.ensures) ∙ c.if-not-all_good.false) in (
      record {
        txns_exact = c.told-txns;
        seen = ap (λ (s : Seen). s.settled) c.rows-ok.ensures;
      },
      record {
        locks_exact = c.told-locks;
        versions_exact = c.told-versions;
        some = each_has t v vs;
      },
    )

pub returns : goal.returns
returns c =
    let t = c.args.txns.now in
    let l = c.args.locks.now in
    let v = c.args.versions.now in
    let rows = rows_passed t _ c.rows-ok.ensures c.if-not-ok.false in
    let vs : T (versions_test t v) = true_is (sym (versions-are t _ _ (ap (λ (s : Seen). s.relaxed) c.rows-ok.ensures) c.starts_in_order-starts.ensures c.all_good.ensures) ∙ c.if-not-all_good.false) in
    let held : T (locks_good base t l && quotas_good base t l) = true_is (sym (c.locks_pass.ensures (ap (λ (s : Seen). s.updates) c.rows-ok.ensures) (ap (λ (s : Seen). s.settled) c.rows-ok.ensures)) ∙ c.if-not-locks_pass.false) in
    let can : Readable t l = readable t rows l c.told-txns c.told-locks (and_left (locks_good base t l) _ held) in
    let waits : Waits t l = elim c.if-waiting-ne0.branch [ then-waiting-ne0+else-not-waits_pass w ↦ true_is (sym w.waits_pass.ensures ∙ w.if-not-waits_pass.false) | else-waiting-ne0 w ↦ nobody_waits t l _ c.rows-ok.ensures rows can w.if-waiting-ne0.false ] in
    let passed : Passed t l v = record {
      txns_exact = c.told-txns;
      locks_exact = c.told-locks;
      versions_exact = c.told-versions;
      rows = rows;
      held = held;
      numbers = true_is (sym c.distinct.ensures ∙ c.if-not-distinct.false);
      waits = waits;
      sets = true_is (sym (c.sets_pass.ensures ∙ sets_are t l v rows vs) ∙ c.if-not-sets_pass.false);
      versions = vs;
    } in
    decides _ _ _ c.stamps_pass.ensures (parts_here t l v passed)
