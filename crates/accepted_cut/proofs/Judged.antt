-- The pieces that are printed are joined as those of the finest cut are, and so judged the same.
use Prim.Native.Nat.{ℕ, zero, suc, ◌<◌, ◌≤◌}
use mathlib.Core.Path.{◌≡◌, refl, sym, ap, ap₂, ◌∙◌}
use mathlib.Core.Bool.{Bool, false, not, ◌&&◌, ◌||◌}
use mathlib.Core.List.{List, [], ◌∷◌, ◌++◌, map}
use native.Mathlib.Omega.{arith}
use lib.Bits.{bit_and, bit_or}
use lib.Dec.{eqb}
use lib.ListN.{length, get_or, length-map}
use Rattle.rules.specs.Words.{some}
use Rattle.graph.specs.Sets.{meets}
use Rattle.line_words.specs.Words.{same}
use Rattle.piece_lines.specs.Says.{Piece, piece}
use Rattle.piece_lines.specs.Items.{word_of, unknown_in}
use Rattle.op_lines.specs.Says.{Operation}
use Rattle.chop.specs.Pieces as chop
use Rattle.chop.specs.Judgement.{judgement}
use Rattle.chop.specs.Verdicts.{accepted}
use Rattle.finest.specs.Operations as finest
use Rattle.finest.specs.Finest.{finest_cut}
use Rattle.finest.specs.Choppings.{leads, leaders, touched, touches, piece_by, pieces_under}
use Rattle.finest.proofs.Passing.{passing_at, passing-few}
use Rattle.finest.proofs.Theorems.{ours_accepted}
use Rattle.fining.specs.Programs as fining
use Rattle.fining.specs.Programs.{numbered}
use Rattle.fining.proofs.Rows.{names-length}
use Rattle.fining.proofs.Words.{item-known}
use Rattle.cutting.specs.Chopping.{chopped_from, chopped, verdict_on}
use Rattle.cutting.specs.Life.{names_of}
use Rattle.cutting.proofs.Verdicts.{verdict-judged}
use Rattle.accepted_cut.specs.Promises.{printed}
use Rattle.accepted_cut.proofs.Sets.{items_back, items-known}
use Rattle.accepted_cut.proofs.Numbers.{same_number, operation-number, piece-number}
use Rattle.accepted_cut.proofs.Relinked.{judged-same}
use Rattle.accepted_cut.proofs.Reading.{size}

-- ---- lists by their elements

get_d_map : {A B : Type 0} (f : A → B) (l : List A) (a : A) (b : B) (i : ℕ) → i < length l → get_or (map f l) i b ≡ f (get_or l i a)
get_d_map f [] a b i h = absurd (omega arith)
get_d_map f (x ∷ xs) a b zero h = refl
get_d_map f (x ∷ xs) a b (suc i) h = get_d_map f xs a b i (omega arith)

abbrev no_piece : Piece
no_piece = piece [] [] []

chopped-length : (ps : List Piece) (ns : List (List ℕ)) → length (chopped_from ns ps) ≡ length ps
unfolding chopped_from
chopped-length [] ns = refl
chopped-length (p ∷ ps) ns = ap suc (chopped-length ps (ns ++ (p.name ∷ [])))

chopped-reads : (ps : List Piece) (ns : List (List ℕ)) (i : ℕ) → i < length ps → (chop.piece (chopped_from ns ps) i).reads ≡ word_of (get_or ps i no_piece).reads
unfolding chopped_from
chopped-reads [] ns i h = absurd (omega arith)
chopped-reads (p ∷ ps) ns zero h = refl
chopped-reads (p ∷ ps) ns (suc i) h = chopped-reads ps (ns ++ (p.name ∷ [])) i (omega arith)

chopped-writes : (ps : List Piece) (ns : List (List ℕ)) (i : ℕ) → i < length ps → (chop.piece (chopped_from ns ps) i).writes ≡ word_of (get_or ps i no_piece).writes
unfolding chopped_from
chopped-writes [] ns i h = absurd (omega arith)
chopped-writes (p ∷ ps) ns zero h = refl
chopped-writes (p ∷ ps) ns (suc i) h = chopped-writes ps (ns ++ (p.name ∷ [])) i (omega arith)

-- ---- the two lists of pieces

-- the first operations of the pieces, the pieces that are printed, and those of the finest cut
abbrev firsts : List Operation → List ℕ
firsts os = leaders (numbered os) (finest_cut (numbered os))

abbrev lines : List Operation → List Piece
lines os = map (printed os) (firsts os)

abbrev ours : List Operation → List chop.Piece
ours os = map (piece_by (numbered os) (finest_cut (numbered os))) (firsts os)

-- a clash goes by the items
abbrev clash_by : ℕ → ℕ → ℕ → ℕ → Bool
clash_by r w s x = meets (bit_and (bit_or r w) (bit_or s x)) (bit_or w x)

module _ (os : List Operation) where
  first_below : (k : ℕ) → k < length (firsts os) → get_or (firsts os) k 0 < length os
  unfolding leaders
  first_below k h =
      let a = passing_at (leads (numbered os) (finest_cut (numbered os))) 0 (length (numbered os)) k h in
      let b = a.2 in
      omega (arith, size os)

  firsts_few : length (firsts os) ≤ length (numbered os)
  unfolding leaders
  firsts_few = passing-few (leads (numbered os) (finest_cut (numbered os))) 0 (length (numbered os))

  lines-length : length (lines os) ≡ length (firsts os)
  lines-length = length-map (firsts os) (printed os)

  ours_length : length (ours os) ≡ length (firsts os)
  ours_length = length-map (firsts os) (piece_by (numbered os) (finest_cut (numbered os)))

  module _ (k : ℕ) (h : k < length (firsts os)) where
    line_at : get_or (lines os) k no_piece ≡ printed os (get_or (firsts os) k 0)
    line_at = get_d_map (printed os) (firsts os) 0 no_piece k h

    ours_at : chop.piece (ours os) k ≡ piece_by (numbered os) (finest_cut (numbered os)) (get_or (firsts os) k 0)
    ours_at = get_d_map (piece_by (numbered os) (finest_cut (numbered os))) (firsts os) 0 chop.no_piece k h

    reads_same : (chop.piece (chopped (lines os)) k).reads ≡ (chop.piece (ours os) k).reads
    unfolding chopped piece_by touches
    reads_same =
        chopped-reads (lines os) [] k (omega (arith, lines-length))
        ∙ ap (λ (p : Piece). word_of p.reads) line_at
        ∙ items_back (touched (numbered os) (finest_cut (numbered os)) false (get_or (firsts os) k 0))
        ∙ sym (ap (λ (p : chop.Piece). p.reads) ours_at)

    writes-same : (chop.piece (chopped (lines os)) k).writes ≡ (chop.piece (ours os) k).writes
    unfolding chopped piece_by touches
    writes-same =
        chopped-writes (lines os) [] k (omega (arith, lines-length))
        ∙ ap (λ (p : Piece). word_of p.writes) line_at
        ∙ items_back (touched (numbered os) (finest_cut (numbered os)) _ (get_or (firsts os) k 0))
        ∙ sym (ap (λ (p : chop.Piece). p.writes) ours_at)

    -- the name of the piece is its first operation's
    name_at : get_or (names_of (lines os)) k [] ≡ get_or (fining.names_of os) (get_or (firsts os) k 0) []
    name_at = get_d_map (λ (p : Piece). p.name) (lines os) no_piece [] k (omega (arith, lines-length)) ∙ ap (λ (p : Piece). p.name) line_at

    program_at : (chop.piece (ours os) k).transaction ≡ finest.program_of (numbered os) (get_or (firsts os) k 0)
    unfolding piece_by
    program_at = ap (λ (p : chop.Piece). p.transaction) ours_at

  module _ (a b : ℕ) (h : a < length (firsts os)) (l : b < length (firsts os)) where
    of_lines : eqb (chop.piece (chopped (lines os)) a).transaction (chop.piece (chopped (lines os)) b).transaction ≡ same (get_or (fining.names_of os) (get_or (firsts os) a 0) []) (get_or (fining.names_of os) (get_or (firsts os) b 0) [])
    of_lines =
        let n = length-map (lines os) (λ (p : Piece). p.name) in
        ap₂ eqb (piece-number (lines os) a (omega (arith, lines-length))) (piece-number (lines os) b (omega (arith, lines-length)))
        ∙ same_number (names_of (lines os)) a b (omega (arith, lines-length, n)) (omega (arith, lines-length, n))
        ∙ ap₂ same (name_at a h) (name_at b l)

    of_ours : eqb (chop.piece (ours os) a).transaction (chop.piece (ours os) b).transaction ≡ same (get_or (fining.names_of os) (get_or (firsts os) a 0) []) (get_or (fining.names_of os) (get_or (firsts os) b 0) [])
    of_ours =
        let x = first_below a h in
        let y = first_below b l in
        ap₂ eqb (program_at a h ∙ operation-number os (get_or (firsts os) a 0) x) (program_at b l ∙ operation-number os (get_or (firsts os) b 0) y)
        ∙ same_number (fining.names_of os) (get_or (firsts os) a 0) (get_or (firsts os) b 0) (omega (arith, names-length os)) (omega (arith, names-length os))

    transactions_same : eqb (chop.piece (chopped (lines os)) a).transaction (chop.piece (chopped (lines os)) b).transaction ≡ eqb (chop.piece (ours os) a).transaction (chop.piece (ours os) b).transaction
    transactions_same = of_lines ∙ sym of_ours

    siblings-same : chop.siblings (chopped (lines os)) a b ≡ chop.siblings (ours os) a b
    siblings-same = ap (λ (t : Bool). not (eqb a b) && t) transactions_same

    conflicts-same : chop.conflict (chopped (lines os)) a b ≡ chop.conflict (ours os) a b
    conflicts-same = λ i. not (transactions_same i) && clash_by (reads_same a h i) (writes-same a h i) (reads_same b l i) (writes-same b l i)

  none_unknown : (is : List ℕ) → some unknown_in (map (printed os) is) ≡ false
  unfolding some unknown_in
  none_unknown [] = refl
  none_unknown (i ∷ is) = ap₂ ◌||◌ (ap₂ ◌||◌ (items-known _) (items-known _)) (none_unknown is)

  module _ (few : length os ≤ finest.most) (known : some fining.unknown os ≡ false) where
    fits : finest.Fits (numbered os)
    unfolding numbered
    fits = record { few = omega (arith, size os); known = λ i h. item-known os [] i known h }

    chopped-size : length (chopped (lines os)) ≡ length (firsts os)
    unfolding chopped
    chopped-size = chopped-length (lines os) [] ∙ lines-length

    judged : judgement (chopped (lines os)) ≡ accepted
    unfolding pieces_under
    judged =
        judged-same (chopped (lines os)) (ours os) (chopped-size ∙ sym ours_length)
        (λ a b h l. siblings-same a b (omega (arith, chopped-size)) (omega (arith, chopped-size)))
        (λ a b h l. conflicts-same a b (omega (arith, chopped-size)) (omega (arith, chopped-size)))
        ∙ ours_accepted (numbered os) fits

    -- THE PIECES THAT ARE PRINTED ARE ACCEPTED
    pub lines-accepted : verdict_on (lines os) ≡ accepted
    lines-accepted = verdict-judged (lines os) (omega (arith, lines-length, firsts_few, size os)) (none_unknown (firsts os)) ∙ judged
