use Prim.Native.Nat.{ℕ, ◌+◌}
use mathlib.Core.Path.{◌≡◌, refl, sym, ap, ◌∙◌}
use lib.ListN.{length, drop, get_or}
use native.Mathlib.Omega.{arith}
use Rattle.std.proofs.lemmas.Option.{none-some}
use Rattle.number_lines.specs.Lines.{Held, held_by, after, gather, found_by}
use Rattle.number_lines.proofs.Scanned.{gather_none, gather_end, gather_on}
use Rattle.number_lines.proofs.scan.Scan.next.Goals as goal

pub loop-k-init : goal.loop-k-init
loop-k-init c = (refl, refl)

pub returns-then-byte-eq-LINE_END : goal.returns-then-byte-eq-LINE_END
unfolding found_by
returns-then-byte-eq-LINE_END c =
    let a = c.args in
    let l = c.loop-k in
    record {
      found = sym (gather_end (length a.words.now) (held_by l.words l.scan) a.chunk.now l.k c.loop-k-test.true c.if-byte-eq-LINE_END.true) ∙ l.invariant.1;
      onward = λ j e.
          let q : l.k + 1 ≡ j = cc in
          (omega arith, omega arith);
    }

pub loop-k-preserved : goal.loop-k-preserved
loop-k-preserved c =
    let a = c.args in
    let l = c.loop-k in
    let n = length a.words.now in
    let e : held_by c.push-scan.new.words c.push-scan.result ≡ after n (held_by l.words l.scan) (get_or a.chunk.now l.k 0)
    = c.push-scan.ensures ∙ ap (λ (m : ℕ). after m (held_by l.words l.scan) (get_or a.chunk.now l.k 0)) l.invariant.0 in
    (omega arith, ap (λ (h : Held). gather n h (drop (l.k + 1) a.chunk.now)) e ∙ sym (gather_on n (held_by l.words l.scan) a.chunk.now l.k c.loop-k-test.true c.if-byte-eq-LINE_END.false) ∙ l.invariant.1)

pub returns : goal.returns
unfolding found_by
returns c =
    let a = c.args in
    let l = c.loop-k in
    record {
      found = sym (gather_none (length a.words.now) (held_by l.words l.scan) a.chunk.now l.k c.loop-k-test.false) ∙ l.invariant.1;
      onward = λ j e. absurd (none-some j e);
    }
