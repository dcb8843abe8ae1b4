-- Small choppings, each with its verdict: the examples of source document 004, section 3, and both sides of each limit.
use Rattle.std.specs.Prelude.{ℕ, ◌-◌, ◌^◌, ◌≡◌, cond, List, [], ◌∷◌, ◌++◌, ltb}
use Rattle.std.specs.Int.Bits.{bit_or}
use Rattle.rules.specs.Words.{tabulate_from}
use Rattle.chop.specs.Pieces.{Piece}
use Rattle.chop.specs.Verdicts.{Verdict, too_many_pieces, refused, accepted}
use Rattle.chop.specs.Judgement.{judgement}

pub record Sample : Type 0 where
  pub pieces : List Piece
  pub verdict : Verdict

-- a piece of transaction t, with the items that it reads and writes
unfoldable pub set_of : List ℕ → ℕ
set_of [] = 0
set_of (x ∷ xs) = bit_or (2 ^ x) (set_of xs)

unfoldable pub piece : ℕ → List ℕ → List ℕ → Piece
piece t rs ws = record { transaction = t; reads = set_of rs; writes = set_of ws }

-- it reads and writes the items; it reads them
abbrev RW : ℕ → List ℕ → Piece
RW t xs = piece t xs xs

abbrev R : ℕ → List ℕ → Piece
R t xs = piece t xs []

abbrev W : ℕ → List ℕ → Piece
W t xs = piece t [] xs

abbrev says : Verdict → List Piece → Sample
says v ps = record { pieces = ps; verdict = v }

-- n pieces in a ring: 0 and 1 are siblings, each further one is in conflict with the one before it, and the last with 0
unfoldable pub ring : ℕ → List Piece
ring n = W 1 (n ∷ []) ∷ W 1 (1 ∷ []) ∷ tabulate_from 2 (n - 2) (λ i. W i ((i - 1) ∷ cond (ltb i (n - 1)) i n ∷ []))

-- n pieces of different transactions that touch nothing
unfoldable pub idle : ℕ → List Piece
idle n = tabulate_from 0 n (λ i. R i [])

unfoldable pub samples : List Sample
samples =
    -- Chopping Graph Example 1: x is 0, y is 1
    says accepted (RW 1 (0 ∷ []) ∷ RW 1 (1 ∷ []) ∷ RW 2 (0 ∷ []) ∷ RW 3 (1 ∷ []) ∷ [])
    -- Example 2: R(x) and W(x) cut apart
    ∷ says (refused (0 ∷ 3 ∷ 1 ∷ [])) (R 1 (0 ∷ []) ∷ W 1 (0 ∷ []) ∷ RW 1 (1 ∷ []) ∷ RW 2 (0 ∷ []) ∷ RW 3 (1 ∷ []) ∷ [])
    -- Example 3: D11, D12, D13, D21, D22, B1, B2 are 0 to 6; T6 is cut by branch
    ∷ says accepted
    (RW 1 (0 ∷ 5 ∷ []) ∷ RW 2 (2 ∷ 5 ∷ []) ∷ RW 3 (3 ∷ 6 ∷ []) ∷ R 4 (1 ∷ []) ∷ R 5 (3 ∷ []) ∷ R 6 (0 ∷ 1 ∷ 2 ∷ 5 ∷ []) ∷ R 6 (3 ∷ 4 ∷ 6 ∷ []) ∷ [])
    -- Example 5: T1 is cut
    ∷ says (refused (0 ∷ 6 ∷ 1 ∷ []))
    (RW 1 (0 ∷ []) ∷ RW 1 (5 ∷ []) ∷ RW 2 (2 ∷ 5 ∷ []) ∷ RW 3 (3 ∷ 6 ∷ []) ∷ R 4 (1 ∷ []) ∷ R 5 (3 ∷ []) ∷ R 6 (0 ∷ 1 ∷ 2 ∷ 5 ∷ 3 ∷ 4 ∷ 6 ∷ []) ∷ [])
    -- the remark about order: R(A) and R(B) cut apart; A is 0, B is 1
    ∷ says accepted (R 1 (0 ∷ []) ∷ R 1 (1 ∷ []) ∷ RW 2 (0 ∷ []) ∷ RW 3 (1 ∷ []) ∷ [])
    -- no two siblings are joined by conflicts alone, and there is a circle
    ∷ says (refused (0 ∷ 2 ∷ 3 ∷ 1 ∷ [])) (W 1 (0 ∷ []) ∷ W 1 (1 ∷ []) ∷ W 2 (0 ∷ []) ∷ W 2 (1 ∷ []) ∷ [])
    -- circles of one kind of link alone
    ∷ says accepted (W 1 (0 ∷ []) ∷ W 2 (0 ∷ []) ∷ W 3 (0 ∷ []) ∷ [])
    ∷ says accepted (W 1 (0 ∷ []) ∷ W 1 (0 ∷ []) ∷ W 1 (0 ∷ []) ∷ [])
    -- the way back would pass the same piece twice
    ∷ says accepted (W 1 (0 ∷ []) ∷ W 1 (1 ∷ []) ∷ W 2 (0 ∷ []) ∷ W 3 (0 ∷ []) ∷ [])
    -- who only reads a common item is in no conflict
    ∷ says accepted (R 1 (0 ∷ []) ∷ R 1 (0 ∷ []) ∷ R 2 (0 ∷ []) ∷ [])
    ∷ says (refused (0 ∷ 2 ∷ 1 ∷ [])) (R 1 (0 ∷ []) ∷ R 1 (0 ∷ []) ∷ W 2 (0 ∷ []) ∷ [])
    -- items 0 and 63
    ∷ says (refused (0 ∷ 2 ∷ 1 ∷ [])) (R 1 (0 ∷ []) ∷ R 1 (63 ∷ []) ∷ W 2 (0 ∷ 63 ∷ []) ∷ [])
    -- few pieces
    ∷ says accepted []
    ∷ says accepted (RW 1 (0 ∷ []) ∷ [])
    ∷ says accepted (RW 1 (0 ∷ []) ∷ RW 2 (0 ∷ []) ∷ [])
    ∷ says accepted (RW 1 (0 ∷ []) ∷ RW 1 (0 ∷ []) ∷ [])
    -- 32 and 33 pieces: apart, in one ring, and with a small circle among them
    ∷ says accepted (idle 32)
    ∷ says too_many_pieces (idle 33)
    ∷ says (refused (0 ∷ 31 ∷ 30 ∷ 29 ∷ 28 ∷ 27 ∷ 26 ∷ 25 ∷ 24 ∷ 23 ∷ 22 ∷ 21 ∷ 20 ∷ 19 ∷ 18 ∷ 17 ∷ 16 ∷ 15 ∷ 14 ∷ 13 ∷ 12 ∷ 11 ∷ 10 ∷ 9 ∷ 8 ∷ 7 ∷ 6 ∷ 5 ∷ 4 ∷ 3 ∷ 2 ∷ 1 ∷ [])) (ring 32)
    ∷ says too_many_pieces (ring 33)
    ∷ says (refused (29 ∷ 31 ∷ 30 ∷ [])) (idle 29 ++ (R 99 (0 ∷ []) ∷ W 99 (0 ∷ []) ∷ RW 100 (0 ∷ []) ∷ []))
    ∷ says too_many_pieces (idle 30 ++ (R 99 (0 ∷ []) ∷ W 99 (0 ∷ []) ∷ RW 100 (0 ∷ []) ∷ []))
    ∷ []

-- each has its verdict
pub data AllAsSaid : List Sample → Type 0 where
  none : AllAsSaid []
  also : {s : Sample} {ss : List Sample} → judgement s.pieces ≡ s.verdict → AllAsSaid ss → AllAsSaid (s ∷ ss)
