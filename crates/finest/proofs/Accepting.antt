-- The finest cut is accepted: at no piece a sibling and a conflicting piece meet. The way between them, with the other programs taken whole,
-- would be a chain that joins the piece with another of its program.
use Prim.Native.Nat.{ℕ, ◌<◌}
use mathlib.Core.Path.{◌≡◌, sym, ◌∙◌}
use mathlib.Core.Logic.{◌≢◌, ◌⊎◌, inl, inr}
use mathlib.Core.List.{List}
use native.Mathlib.Omega.{arith}
use lib.ListN.{length}
use lib.Dec.{T}
use Rattle.rules.specs.Words.{bit}
use mathlib.Core.Bool.{not}
use lib.Dec.{eqb}
use Rattle.rules.proofs.Tests.{or_cases, same?}
use Rattle.graph.proofs.Sets.{those_below}
use Rattle.graph.specs.Ways.{Way, here, link}
use Rattle.chop.specs.Pieces.{Piece, siblings, conflict, joins}
use Rattle.chop.specs.Judgement.{links_of, others}
use Rattle.chop.specs.Promises.{Meeting}
use Rattle.chop.proofs.Joining.{linked-joins, others_in}
use Rattle.finest.specs.Operations.{Operation, program_of, Fits}
use Rattle.finest.specs.Finest.{finest_cut}
use Rattle.finest.specs.Choppings.{leaders, pieces_under, Accepted}
use Rattle.finest.proofs.Linking.{linked-conflict, linked-whole, reached, reached_on}
use Rattle.finest.proofs.Together.{together-program, together_turned, together_on, head, head_known, heads_apart, leaders-few}
use Rattle.finest.proofs.Pieces.{Clash, pieces-length, siblings-are, conflict-clash}
use Rattle.finest.proofs.Reached.{together_of, of_together, conflict_turned}
use Rattle.finest.proofs.Judging.{no_meeting_accepted}

-- who is among the others is known
others_below : (n b k : ℕ) → T (bit (others n b) k) → k < n
unfolding others
others_below n b k s = those_below n (λ a. not (eqb a b)) k s

module _ (os : List Operation) (F : Fits os) (b : ℕ) (l : b < length (leaders os (finest_cut os))) where
  abbrev cut : List ℕ
  cut = finest_cut os

  abbrev pieces : List Piece
  pieces = pieces_under os cut

  -- the first operation of the piece at place k
  abbrev first : ℕ → ℕ
  first k = head os cut k

  abbrev t : ℕ
  t = program_of os (first b)

  -- operation z is reached from the piece at b
  abbrev Reach : ℕ → Type 0
  Reach z = T (reached os t (first b) z)

  -- the piece at place p is of another program than the one at b, and reached from it
  record Out (p : ℕ) : Type 0 where
    pub seen : p < length (leaders os cut)
    pub other : program_of os (first p) ≢ t
    pub reach : Reach (first p)

  by_whole : (y z : ℕ) → y < length os → z < length os → program_of os y ≡ program_of os z → program_of os y ≢ t → Reach z → Reach y
  by_whole y z m n e d r = reached_on os t (first b) y z (head_known os cut b l) m n (linked-whole os t y z e d) r

  -- the other end of a conflict with an operation that is reached; with it its whole program
  across : (p q : ℕ) → q < length (leaders os cut) → q ≢ b → (K : Clash os cut (first p) (first q)) → Reach K.here → Out q
  across p q m n K r = go (same? (program_of os (first q)) t)
    where
      s : Reach K.there
      s =
          reached_on os t (first b) K.there K.here (head_known os cut b l) K.there_known K.here_known
          (linked-conflict os t K.there K.here (conflict_turned os K.here K.there K.clashes)) r

      e : program_of os (first q) ≡ program_of os K.there
      e = together-program os cut (first q) K.there K.there_inside

      go : (program_of os (first q) ≡ t) ⊎ (program_of os (first q) ≢ t) → Out q
      go (inl f) =
          let u = of_together os F (first b) K.there (head_known os cut b l) (record { known = K.there_known; program = sym f ∙ e; reach = s }) in
          let v = together_turned os cut (first q) K.there K.there_inside in
          absurd (n (sym (heads_apart os cut b q l m (together_on os cut (first b) K.there (first q) u v))))
      go (inr d) = record { seen = m; other = d; reach = by_whole (first q) K.there (head_known os cut q m) K.there_known e d s }

  -- one link on
  on : (p q : ℕ) → q < length (leaders os cut) → q ≢ b → T (joins pieces p q) → Out p → Out q
  on p q m n j O = go (or_cases (siblings pieces p q) (conflict pieces p q) j)
    where
      go : T (siblings pieces p q) ⊎ T (conflict pieces p q) → Out q
      go (inl s) =
          let e = (siblings-are os cut p q O.seen m s).1 in
          let d : program_of os (first q) ≢ t = λ f. O.other (e ∙ f) in
          record { seen = m; other = d; reach = by_whole (first q) (first p) (head_known os cut q m) (head_known os cut p O.seen) (sym e) d O.reach }
      go (inr s) =
          let K = conflict-clash os cut p q O.seen m s in
          let e = together-program os cut (first p) K.here K.here_inside in
          across p q m n K (by_whole K.here (first p) K.here_known (head_known os cut p O.seen) (sym e) (λ f. O.other (e ∙ f)) O.reach)

  known : (k : ℕ) → T (bit (others (length pieces) b) k) → k < length (leaders os cut)
  known k s = let e = pieces-length os cut in let m = others_below (length pieces) b k s in omega arith

  start : {k p a : ℕ} → Way (links_of pieces) (others (length pieces) b) k p a → T (bit (others (length pieces) b) p)
  start (here r) = r
  start (link r e v) = r

  -- no way leads from outside into the program of b
  ended : {k p a : ℕ} → Way (links_of pieces) (others (length pieces) b) k p a → Out p → Out a
  ended (here r) O = O
  ended (link {k} {a = p} {b = q} r e v) O = ended v (on p q (known q (start v)) (others_in pieces b q (start v)) (linked-joins pieces p q e) O)

  pub no_meeting_at : Meeting pieces b → ⊥
  no_meeting_at M =
      let o = M.other in
      let m = known o (start M.way) in
      let K = conflict-clash os cut b o l m M.other_is in
      let O = across b o m (others_in pieces b o (start M.way)) K (together_of os F (first b) K.here (head_known os cut b l) K.here_known K.here_inside).reach in
      let A = ended M.way O in
      A.other (sym (siblings-are os cut b M.sibling l A.seen M.sibling_is).1)

pub accepting : (os : List Operation) → Fits os → Accepted os (finest_cut os)
accepting os F =
    no_meeting_accepted (pieces_under os (finest_cut os))
    (let e = pieces-length os (finest_cut os) in let m = leaders-few os (finest_cut os) in let f = F.few in omega arith)
    (λ b l M. no_meeting_at os F b (let e = pieces-length os (finest_cut os) in omega arith) M)
