-- Without a relaxed query nothing is hidden, and the starts are all; with one the row is walked whole.
use Prim.Native.Nat.{ℕ, ◌+◌, ◌-◌}
use mathlib.Core.Path.{◌≡◌, sym, ap, ◌∙◌, subst}
use mathlib.Core.Bool.{Bool, true, false, ◌&&◌}
use native.Mathlib.Omega.{arith}
use borrow.Author.Tests.{eq-eqb, ne_eqb}
use lib.ListN.{get_or}
use lib.Bits.{bit_or}
use lib.Dec.{eqb}
use Rattle.names.specs.Sizes.{base}
use Rattle.rules.specs.Words.{contains}
use Rattle.rules.specs.Tables.{masks_at}
use Rattle.words.specs.Zeros.{zero_words}
use Rattle.versions.specs.Rows.{read_in, walk_ok}
use Rattle.versions.proofs.NoneHidden.{none_hidden}
use Rattle.versions.proofs.walk_ok.Goals as goal

pub returns-then-not-zeros : goal.returns-then-not-zeros
returns-then-not-zeros c =
    let a = c.args in
    let p = c.requires in
    let r = a.row.now in
    let q = a.starts.now in
    let z : zero_words r (masks_at base) base.places ≡ false = sym c.zeros.ensures ∙ c.if-not-zeros.true in
    subst (λ (w : ℕ). false ≡ walk_ok q w r a.m) (sym c.if-relaxed-eq0.true)
    (sym (ap (λ (b : Bool). b && read_in q r a.m) z) ∙ none_hidden q r a.m (let l = p.0 in omega arith) p.1)

pub returns-then-relaxed-eq0 : goal.returns-then-relaxed-eq0
returns-then-relaxed-eq0 c =
    let a = c.args in
    let p = c.requires in
    let r = a.row.now in
    let q = a.starts.now in
    let z : zero_words r (masks_at base) base.places ≡ true = sym c.zeros.ensures ∙ c.if-not-zeros.false in
    subst (λ (w : ℕ). c.all_read.result ≡ walk_ok q w r a.m) (sym c.if-relaxed-eq0.true)
    (c.all_read.ensures ∙ sym (ap (λ (b : Bool). b && read_in q r a.m) z) ∙ none_hidden q r a.m (let l = p.0 in omega arith) p.1)

pub returns-then-relaxed-row : goal.returns-then-relaxed-row
unfolding walk_ok contains
returns-then-relaxed-row c =
    let a = c.args in
    let e : eqb (bit_or a.relaxed (get_or a.row.now (masks_at base) 0)) a.relaxed ≡ false = ne_eqb _ _ c.if-relaxed-row.true in
    sym (rw e)

pub returns-then-not-zeros-2 : goal.returns-then-not-zeros-2
unfolding walk_ok contains
returns-then-not-zeros-2 c =
    let a = c.args in
    let r = a.row.now in
    let e : eqb (bit_or a.relaxed (get_or r (masks_at base) 0)) a.relaxed ≡ true = eq-eqb _ _ c.if-relaxed-row.false in
    let z : zero_words r (masks_at base + a.m) (base.places - a.m) ≡ false = sym c.zeros-2.ensures ∙ c.if-not-zeros-2.true in
    sym (rw (e, z))

pub returns : goal.returns
unfolding walk_ok contains
returns c =
    let a = c.args in
    let r = a.row.now in
    let e : eqb (bit_or a.relaxed (get_or r (masks_at base) 0)) a.relaxed ≡ true = eq-eqb _ _ c.if-relaxed-row.false in
    let z : zero_words r (masks_at base + a.m) (base.places - a.m) ≡ true = sym c.zeros-2.ensures ∙ c.if-not-zeros-2.false in
    rw (e, z) c.all_seen.ensures
