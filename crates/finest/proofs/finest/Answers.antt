-- `finest::finest` meets its contract.
use mathlib.Core.Path.{sym, ap, ◌∙◌}
use native.Mathlib.Omega.{arith}
use Rattle.finest.specs.Rows.{said}
use Rattle.finest.proofs.Writing.{named_is, rows-many, rows-unknown, rows-malformed, rows_cut_lem}
use Rattle.finest.proofs.finest.Goals as goal

pub returns-then-count-gt-MOST : goal.returns-then-count-gt-MOST
unfolding said
returns-then-count-gt-MOST c = c.plain.ensures ∙ ap said (sym (rows-many c.args.words.now (omega arith)))

pub returns-then-some_unknown : goal.returns-then-some_unknown
unfolding said
returns-then-some_unknown c =
    c.plain-then-some_unknown.ensures
    ∙ ap said (sym (rows-unknown c.args.words.now (omega arith) (sym c.some_unknown.ensures ∙ c.if-some_unknown.true)))

pub returns-then-some_malformed : goal.returns-then-some_malformed
unfolding said
returns-then-some_malformed c =
    c.plain-then-some_malformed.ensures
    ∙ ap said
    (sym (rows-malformed c.args.words.now (omega arith) (sym c.some_unknown.ensures ∙ c.if-some_unknown.false) (sym c.some_malformed.ensures ∙ c.if-some_malformed.true)))

pub returns : goal.returns
unfolding said
returns c =
    let words = c.args.words.now in
    named_is words c.names_of-names.result c.names_of-names.ensures
    ∙ ap said
    (sym (rows_cut_lem words (omega arith) (sym c.some_unknown.ensures ∙ c.if-some_unknown.false) (sym c.some_malformed.ensures ∙ c.if-some_malformed.false)))
