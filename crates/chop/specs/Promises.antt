-- What is promised of the judgement, a statement for each sentence of request E9. Each is proved in proofs/Theorems.
use Rattle.std.specs.Prelude.{ℕ, ◌≤◌, ◌<◌, ◌≡◌, ◌≢◌, ◌⊎◌, ◌↔◌, List, length, T}
use Rattle.rules.specs.Words.{bit}
use Rattle.graph.specs.Ways.{Way}
use Rattle.chop.specs.Pieces.{Piece, most, siblings, clash, conflict}
use Rattle.chop.specs.Circles.{Circle}
use Rattle.chop.specs.Verdicts.{Verdict, too_many_pieces, refused, accepted, said}
use Rattle.chop.specs.Judgement.{links_of, others, closing, judgement}

-- "A chopping is refused exactly if a circle of distinct pieces has at least one link of each kind"
abbrev pub RefusedExactly : Type 0
RefusedExactly =
    (ps : List Piece) → length ps ≤ most → ((l : List ℕ) × (judgement ps ≡ refused l)) ↔ ((l : List ℕ) × Circle ps l)

-- "and the refusal shows such a circle"
abbrev pub ShowsCircle : Type 0
ShowsCircle = (ps : List Piece) (l : List ℕ) → judgement ps ≡ refused l → Circle ps l

-- the circle has its places in the answer
abbrev pub CircleFits : Type 0
CircleFits = (ps : List Piece) (l : List ℕ) → judgement ps ≡ refused l → length l ≤ most

-- at piece b a sibling and a conflicting piece come together, and a way from the one to the other avoids b
pub record Meeting (ps : List Piece) (b : ℕ) : Type 0 where
  pub sibling : ℕ
  pub other : ℕ
  pub links : ℕ
  pub sibling_known : sibling < length ps
  pub other_known : other < length ps
  pub sibling_is : T (siblings ps b sibling)
  pub other_is : T (conflict ps b other)
  pub way : Way (links_of ps) (others (length ps) b) links other sibling

-- a circle closes at b, by b's lowest sibling, exactly if any sibling makes one: so the circle that is shown starts at the lowest
-- piece at which there is one
abbrev pub ClosesExactly : Type 0
ClosesExactly = (ps : List Piece) (b : ℕ) → length ps ≤ most → (closing ps (links_of ps) b ≢ 0) ↔ Meeting ps b

-- what is not refused is accepted
abbrev pub AcceptedExactly : Type 0
AcceptedExactly = (ps : List Piece) → (judgement ps ≡ accepted) ↔ ((length ps ≤ most) × ((l : List ℕ) → Circle ps l → ⊥))

-- "More than 32 pieces .. have refusals of their own", whatever else holds
abbrev pub TooManyExactly : Type 0
TooManyExactly = (ps : List Piece) → (judgement ps ≡ too_many_pieces) ↔ (most < length ps)

-- an answer tells its verdict, whichever it is, with every piece of the circle
abbrev pub AnswerTells : Type 0
AnswerTells = (u v : Verdict) → said u ≡ said v → u ≡ v

-- so no second outcome fits: the judge answers `said (judgement ps)`
abbrev pub OneOutcome : Type 0
OneOutcome = (ps : List Piece) (v : Verdict) → said v ≡ said (judgement ps) → v ≡ judgement ps

-- item x is in the set
abbrev pub Has : ℕ → ℕ → Type 0
Has s x = T (bit s x)

-- an item that both pieces touch and at least one of them writes
pub record Common (p q : Piece) (x : ℕ) : Type 0 where
  pub here : Has p.reads x ⊎ Has p.writes x
  pub there : Has q.reads x ⊎ Has q.writes x
  pub written : Has p.writes x ⊎ Has q.writes x

-- "when they touch a common item and at least one writes it": the words say so
abbrev pub ClashExactly : Type 0
ClashExactly = (p q : Piece) → T (clash p q) ↔ ((x : ℕ) × Common p q x)
