-- A relaxed query reads outside of its set, another up to its start.
use mathlib.Core.Path.{sym, ap, ◌∙◌, subst}
use Rattle.names.specs.Sizes.{base}
use Prim.Native.Nat.{ℕ, suc}
use Rattle.rules.specs.Tables.{Reader, up_to}
use Rattle.rules.specs.Versions.{versions_of, place, choice}
use Rattle.rules.proofs.RowKinds.{reads_up_to, reads-outside}
use Rattle.choices.specs.Choosable.{Choosable}
use Rattle.deeds.proofs.reads.choose.Goals as goal

pub chosen_outside-requires : goal.chosen_outside-requires
chosen_outside-requires c =
    let a = c.args in
    (subst (Choosable a.versions.now a.item.0) (reads-outside a.txns.now a.slot.0 (sym c.kind-kind.ensures ∙ c.if-kind-eq-RELAXED_KIND.true)) c.requires.1, c.requires.0)

pub returns-then-kind-eq-RELAXED_KIND : goal.returns-then-kind-eq-RELAXED_KIND
returns-then-kind-eq-RELAXED_KIND c =
    let a = c.args in
    let vs = versions_of base a.versions.now a.item.0 in
    let q = reads-outside a.txns.now a.slot.0 (sym c.kind-kind.ensures ∙ c.if-kind-eq-RELAXED_KIND.true) in record {
      value = c.chosen_outside.ensures.value ∙ ap (λ (q : Reader). (choice q vs).value) (sym q);
      looked = c.chosen_outside.ensures.looked ∙ ap (λ (q : Reader). suc (place q vs)) (sym q);
    }

pub chosen-requires : goal.chosen-requires
chosen-requires c =
    let a = c.args in
    subst (Choosable a.versions.now a.item.0) (reads_up_to a.txns.now a.slot.0 (λ e. c.if-kind-eq-RELAXED_KIND.false (c.kind-kind.ensures ∙ e)) ∙ ap (λ (u : ℕ). up_to u) (sym c.start-start.ensures)) c.requires.1

pub returns : goal.returns
returns c =
    let a = c.args in
    let vs = versions_of base a.versions.now a.item.0 in
    let q = reads_up_to a.txns.now a.slot.0 (λ e. c.if-kind-eq-RELAXED_KIND.false (c.kind-kind.ensures ∙ e)) ∙ ap (λ (u : ℕ). up_to u) (sym c.start-start.ensures) in record {
      value = c.chosen.ensures.value ∙ ap (λ (q : Reader). (choice q vs).value) (sym q);
      looked = c.chosen.ensures.looked ∙ ap (λ (q : Reader). suc (place q vs)) (sym q);
    }
