use Prim.Native.Nat.{◌+◌}
use mathlib.Core.Path.{◌≡◌, refl, sym, ap, ◌∙◌}
use lib.ListN.{drop}
use native.Mathlib.Omega.{arith}
use Rattle.std.proofs.lemmas.Option.{none-some}
use Rattle.lines.specs.Lines.{Held, held_by, gather, found_by}
use Rattle.lines.proofs.Holding.{gather_none, gather_end, gather_on}
use Rattle.lines.proofs.Lines.next.Goals as goal

pub loop-k-init : goal.loop-k-init
loop-k-init c = refl

pub returns-then-byte-eq-LINE_END : goal.returns-then-byte-eq-LINE_END
unfolding found_by
returns-then-byte-eq-LINE_END c =
    let l = c.args.chunk.now in
    let k = c.loop-k.k in
    record {
      found = sym (gather_end (held_by c.loop-k.lines) l k c.loop-k-test.true c.if-byte-eq-LINE_END.true) ∙ c.loop-k.invariant;
      onward = λ j e.
          let q : k + 1 ≡ j = cc in
          (omega arith, omega arith);
    }

pub loop-k-preserved : goal.loop-k-preserved
loop-k-preserved c =
    let l = c.args.chunk.now in
    let k = c.loop-k.k in
    ap (λ (h : Held). gather h (drop (k + 1) l)) c.push-lines.ensures ∙ sym (gather_on (held_by c.loop-k.lines) l k c.loop-k-test.true c.if-byte-eq-LINE_END.false) ∙ c.loop-k.invariant

pub returns : goal.returns
unfolding found_by
returns c =
    let l = c.args.chunk.now in
    record {
      found = sym (gather_none (held_by c.loop-k.lines) l c.loop-k.k c.loop-k-test.false) ∙ c.loop-k.invariant;
      onward = λ j e. absurd (none-some j e);
    }
