-- `chop_rows::note` meets its contract.
use Prim.Native.Nat.{◌+◌}
use mathlib.Core.Path.{refl, sym, subst}
use native.Mathlib.Omega.{arith}
use lib.ListN.{take, set}
use Rattle.chop_rows.specs.declared.Noted.{Noted}
use Rattle.chop_rows.specs.Notes.{OneMore}
use Rattle.chop_rows.specs.RowPieces.{place_in}
use Rattle.chop_rows.proofs.OneMore.{place_some, place_none, note_old, note_new, note_full}
use Rattle.chop_rows.proofs.note.Goals as goal

pub bounds-pieces-at : goal.bounds-pieces-at
bounds-pieces-at c =
    let a = c.args in
    let f = (place_some a.row a.notes.pieces a.notes.count _ c.requires.1 c.requires.0 refl c.in-Some.at c.in-Some.ensures).1 in
    omega arith

pub offset_bounds-pieces-at : goal.offset_bounds-pieces-at
offset_bounds-pieces-at c =
    let a = c.args in
    let f = (place_some a.row a.notes.pieces a.notes.count _ c.requires.1 c.requires.0 refl c.in-Some.at c.in-Some.ensures).1 in
    omega arith

pub returns-in-Some : goal.returns-in-Some
returns-in-Some c =
    let a = c.args in
    let l = a.notes.pieces in
    let n = a.notes.count in
    let at = c.in-Some.at in
    let f = place_some a.row l n _ c.requires.1 c.requires.0 refl at c.in-Some.ensures in
    subst (λ (x : Noted). OneMore a.row (take n l) (record { count = n; pieces = set l at x })) (sym c.noting.ensures)
    (note_old a.row l n at c.requires.1 c.requires.0 f.0 f.1)

pub returns-then-count-lt-MOST : goal.returns-then-count-lt-MOST
returns-then-count-lt-MOST c =
    let a = c.args in
    let l = a.notes.pieces in
    let n = a.notes.count in
    subst (λ (x : Noted). OneMore a.row (take n l) (record { count = n + 1; pieces = set l n x })) (sym c.begun.ensures)
    (note_new a.row l n (place_in a.row (take n l)) c.requires.1 c.requires.0 refl (place_none a.row l n _ c.requires.1 c.requires.0 refl c.in_default.ensures) c.if-count-lt-MOST.true)

pub returns : goal.returns
returns c =
    let a = c.args in
    let l = a.notes.pieces in
    let n = a.notes.count in
    note_full a.row l n (place_in a.row (take n l)) c.requires.1 c.requires.0 refl (place_none a.row l n _ c.requires.1 c.requires.0 refl c.in_default.ensures) c.if-count-lt-MOST.false
