-- The zero words behind m pairs, in two parts.
use mathlib.Core.Path.{◌≡◌, sym, ap, ap₂, ◌∙◌}
use Prim.Native.Nat.{ℕ, ◌-◌, ◌+◌, ◌*◌}
use mathlib.Core.Bool.{◌&&◌}
use native.Mathlib.Omega.{arith}
use Rattle.names.specs.Layout.{version_stamp_at, version_pair}
use Rattle.versions.specs.Rows.{pairs_wide, unused_ok}
use Rattle.words.specs.Zeros.{zero_words}
use Rattle.words.proofs.ZeroWords.{zero_split}
use Rattle.versions.proofs.unused_in.Goals as goal

pub returns : goal.returns
unfolding unused_ok
returns c =
    let a = c.args in
    let w = a.m * version_pair in
    let e : (a.part - w) + (pairs_wide - a.part) ≡ pairs_wide - w = omega arith in
    let f : version_stamp_at + w + (a.part - w) ≡ version_stamp_at + a.part = omega arith in
    ap₂ ◌&&◌ c.zeros.ensures (c.zeros-2.ensures ∙ ap (λ (n : ℕ). zero_words a.row.now n (pairs_wide - a.part)) (sym f))
    ∙ sym (zero_split a.row.now (version_stamp_at + w) (a.part - w) (pairs_wide - a.part))
    ∙ ap (zero_words a.row.now (version_stamp_at + w)) e
