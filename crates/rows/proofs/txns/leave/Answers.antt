-- The words of the row are filled with zeros, which is the row of nobody.
use Prim.Native.Nat.{ℕ, zero, suc, ◌+◌, ◌-◌, ◌≤◌}
use mathlib.Core.Path.{◌≡◌, refl, sym, ap, ◌∙◌}
use mathlib.Core.List.{List, [], ◌++◌, append-nil}
use native.Mathlib.Omega.{arith}
use lib.ListN.{length, take, drop, set, replicate}
use lib.Seq.{paste}
use Rattle.std.proofs.lemmas.List.Edits.{fill_from_more}
use Rattle.std.proofs.lemmas.Slice.{put_mid-paste}
use Rattle.std.proofs.Common.{rules, length-take-le}
use Rattle.std.proofs.lemmas.List.{take-append-drop}
use native.Mathlib.Nat.{add-zero, zero-add}
use lib.ListN.{length-drop}
use borrow.Rule.Slice.PartMut.{mid_of}
use Rattle.names.specs.Layout.{txn_row}
use Rattle.rules.specs.Tables.{put_from, txn_at}
use Rattle.rules.proofs.Views.{put-more, set_txn_none}
use Rattle.rows.proofs.txns.leave.Goals as goal

-- words pasted are words put one after another
cleared : (t : List ℕ) (b n : ℕ) → b + n ≤ length t → paste t b (replicate n 0) n ≡ put_from t b 0 (replicate n 0)
cleared t b zero l = ap (λ (n : ℕ). take b t ++ [] ++ drop n t) (add-zero b) ∙ ap (λ (u : List ℕ). u ++ drop b t) (append-nil (take b t)) ∙ take-append-drop b t
cleared t b (suc n) l =
    sym (ap (λ k. paste t b (replicate k 0) k) (let e : n + 1 ≡ suc n = omega arith in e))
    ∙ sym (fill_from_more t b n 0 (omega arith))
    ∙ ap (λ (u : List ℕ). set u (b + n) 0) (cleared t b n (omega arith))
    ∙ ap (λ (k : ℕ). set (put_from t b 0 (replicate n 0)) (b + k) 0) (sym (zero-add n))
    ∙ sym (put-more b n t 0)

pub returns : goal.returns
returns c =
    let t = c.args.txns.now in
    let b = txn_at c.args.slot.0 in
    let len : length (mid_of b (b + txn_row - b) t) ≡ txn_row = search (rules, length-take-le, length-drop) in
    put_mid-paste b (b + txn_row - b) t c.fill.new.self (replicate txn_row 0) txn_row (c.fill.ensures.after (λ y e. e) ∙ ap (λ (n : ℕ). replicate n 0) len) (omega arith) refl
    ∙ cleared t b txn_row (omega arith)
    ∙ sym (set_txn_none t c.args.slot.0)
