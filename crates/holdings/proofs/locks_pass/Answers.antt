-- The rules' test of the locks and of the quota, by way of the live updates and of all who may hold.
use Prim.Native.Nat.{ℕ}
use mathlib.Core.Path.{◌≡◌, sym, ap, ap₂, ◌∙◌}
use mathlib.Core.Bool.{Bool, ◌&&◌}
use mathlib.Core.List.{List}
use native.Mathlib.Omega.{arith}
use lib.Bits.{bit_or, or_add_and, and_le_l, and_le_r, or_lt}
use Rattle.names.specs.Sizes.{base}
use Rattle.shapes.specs.Shape.{updates_in, settled_in}
use Rattle.holdings.specs.Holding.{locks_good, quotas_good, locks_ok, quotas_ok}
use Rattle.holdings.proofs.Holders.{locks-same, none_held_same}
use Rattle.holdings.proofs.Quotas.{counted_same, counted-few, idle-few}
use Rattle.holdings.proofs.locks_pass.Goals as goal

-- the pass with the words that the rows gave is the rules' test
passed : (t l : List ℕ) (u w : ℕ) → u ≡ updates_in base t → w ≡ settled_in base t → locks_ok u (bit_or u w) l ≡ locks_good base t l
passed t l u w e f = ap₂ (λ (u w : ℕ). locks_ok u (bit_or u w) l) e f ∙ locks-same t l

pub returns-then-holders-eq0 : goal.returns-then-holders-eq0
returns-then-holders-eq0 c =
    let t = c.args.txns.now in
    let l = c.args.locks.now in
    let u = c.args.updates in
    let w = c.args.settled in
    let z : bit_or u w ≡ 0 = c.if-holders-eq0.true in
    let z₁ : u ≡ 0 = omega (arith, or_add_and u w, and_le_r u w, and_le_l u w) in
    λ e f. c.none_held.ensures ∙ none_held_same l ∙ ap₂ (λ (u w : ℕ). locks_ok u w l) (sym z₁) (sym z) ∙ passed t l u w e f ∙ idle-few t l (sym (ap₂ bit_or e f) ∙ z)

pub locks_ok-requires : goal.locks_ok-requires
locks_ok-requires c = or_lt base.slots _ _ c.requires.0 c.requires.1

pub returns-in_default : goal.returns-in_default
returns-in_default c =
    let t = c.args.txns.now in
    let l = c.args.locks.now in
    λ e f. ap (λ (b : Bool). b && quotas_good base t l) (sym c.in_default.ensures.refused ∙ passed t l _ _ e f)

pub returns-then-held-lt-QUOTA : goal.returns-then-held-lt-QUOTA
returns-then-held-lt-QUOTA c =
    let t = c.args.txns.now in
    let l = c.args.locks.now in
    let h = c.in-Some.ensures.counted in
    λ e f. sym h.0 ∙ passed t l _ _ e f ∙ counted-few t l _ _ h.1 c.if-held-lt-QUOTA.true

pub returns : goal.returns
returns c =
    let t = c.args.txns.now in
    let l = c.args.locks.now in
    let h = c.in-Some.ensures.counted in
    λ e f. c.quotas_ok.ensures ∙ ap (λ (b : Bool). b && quotas_ok t c.in-Some.held.counts) (sym h.0 ∙ passed t l _ _ e f) ∙ counted_same t l _ _ h.1
