-- Request E9's judge accepts exactly if at no piece a sibling and a conflicting piece meet.
use Prim.Native.Nat.{ℕ, ◌≤◌, ◌<◌}
use mathlib.Core.Path.{◌≡◌, refl, ◌∙◌}
use mathlib.Core.Bool.{Bool, true, false}
use mathlib.Core.List.{List}
use native.Mathlib.Omega.{arith}
use lib.ListN.{length}
use lib.Dec.{ltb}
use borrow.Author.Tests.{ltb-true, ltb-false}
use Rattle.chop.specs.Pieces.{Piece, most}
use Rattle.chop.specs.Verdicts.{Verdict, refused, accepted}
use Rattle.chop.specs.Judgement.{links_of, turning, circle_at, judgement}
use Rattle.chop.specs.Promises.{Meeting}
use Rattle.chop.proofs.Theorems.{accepted_exactly, closes_exactly}
use Rattle.chop.proofs.Verdicts.{turning_closes, closes_turning, verdict-refused, verdict-accepted, judgement-few}

differ : (v : Verdict) (l : List ℕ) → v ≡ accepted → v ≡ refused l → ⊥
differ v l e f = let z : ◌≡◌ {A = ℕ} 0 1 = cc in omega arith

pub no_meeting : (ps : List Piece) → judgement ps ≡ accepted → (b : ℕ) → b < length ps → Meeting ps b → ⊥
no_meeting ps e b l M =
    let few = ((accepted_exactly ps).0 e).0 in
    let t = closes_turning ps (links_of ps) b l ((closes_exactly ps b few).1 M) in
    differ (judgement ps) (circle_at ps (links_of ps) (turning ps (links_of ps))) e
    (judgement-few ps few ∙ verdict-refused ps (links_of ps) (turning ps (links_of ps)) refl t)

pub no_meeting_accepted : (ps : List Piece) → length ps ≤ most → ((b : ℕ) → b < length ps → Meeting ps b → ⊥) → judgement ps ≡ accepted
no_meeting_accepted ps few none = go (ltb (turning ps (links_of ps)) (length ps)) refl
  where
    go : (c : Bool) → ltb (turning ps (links_of ps)) (length ps) ≡ c → judgement ps ≡ accepted
    go true e =
        let l = ltb-true (turning ps (links_of ps)) (length ps) e in
        absurd (none (turning ps (links_of ps)) l ((closes_exactly ps (turning ps (links_of ps)) few).0 (turning_closes ps (links_of ps) l)))
    go false e = judgement-few ps few ∙ verdict-accepted ps (links_of ps) (turning ps (links_of ps)) refl (ltb-false (turning ps (links_of ps)) (length ps) e)
