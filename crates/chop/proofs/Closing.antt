-- Where a circle closes: what is known of a piece with pieces that close a circle, and that a way between a sibling and a conflicting
-- piece makes one.
use Prim.Native.Nat.{ℕ, suc, ◌^◌, ◌≤◌, ◌<◌}
use mathlib.Core.Path.{◌≡◌, sym, subst}
use mathlib.Core.Logic.{◌≢◌, ◌⊎◌, inl, inr}
use mathlib.Core.List.{List}
use native.Mathlib.Omega.{arith}
use lib.ListN.{length}
use lib.Bits.{bit_and}
use lib.Pow.{pow_mono}
use lib.Dec.{T}
use borrow.Author.Tests.{ne_eqb}
use Rattle.rules.specs.Words.{bit}
use Rattle.rules.proofs.Tests.{and_both, and_left, and_right, or_left, same?}
use Rattle.rules.proofs.Bits.{below_bits}
use Rattle.words.proofs.SlotWords.{and_at, no_bit}
use Rattle.graph.specs.Sets.{lowest}
use Rattle.graph.specs.Ways.{linked, Way, here, link}
use Rattle.graph.specs.Near.{joined}
use Rattle.graph.proofs.Sets.{lowest_in}
use Rattle.graph.proofs.Ways.{Room}
use Rattle.graph.proofs.Settling.{way-joined}
use Rattle.chop.specs.Pieces.{Piece, most, siblings, conflict}
use Rattle.chop.specs.Judgement.{siblings_of, conflicts_of, links_of, others, closing}
use Rattle.chop.proofs.Joining.{sibling-other, siblings_of_one, in_siblings, siblings_in, siblings-small, in_conflicts, conflicts_in, joins-linked, in_others, others-room}

-- a word with a bit is not 0
bit_some : (m i : ℕ) → T (bit m i) → m ≢ 0
bit_some m i t z = no_bit i (subst (λ (x : ℕ). T (bit x i)) z t)

-- a way goes on by one link
way_on : {w : List ℕ} {room k a b : ℕ} (c : ℕ) → Way w room k a b → T (linked w b c) → T (bit room c) → Way w room (suc k) a c
way_on c (here r) e s = link r e (here s)
way_on c (link r f v) e s = link r f (way_on c v e s)

module _ (ps : List Piece) (few : length ps ≤ most) (b : ℕ) where
  abbrev pub goal_of : ℕ
  goal_of = lowest (siblings_of ps b)

  abbrev pub reached_of : ℕ
  reached_of = joined (links_of ps) (others (length ps) b) goal_of

  abbrev pub from_of : ℕ
  from_of = lowest (closing ps (links_of ps) b)

  -- the lowest sibling of a piece that has one
  pub goal_sibling_lem : siblings_of ps b ≢ 0 → (goal_of < length ps) × T (siblings ps b goal_of)
  goal_sibling_lem d =
      let p : 2 ^ length ps ≤ 2 ^ 64 = pow_mono {i = length ps} {j = 64} (omega arith) in
      let s = siblings-small ps b in
      siblings_in ps b goal_of (lowest_in (siblings_of ps b) (omega arith) d)

  pub closing_is : siblings_of ps b ≢ 0 → closing ps (links_of ps) b ≡ bit_and (conflicts_of ps b) reached_of
  unfolding closing
  closing_is d = rw (ne_eqb (siblings_of ps b) 0 d)

  pub closing_none : siblings_of ps b ≡ 0 → closing ps (links_of ps) b ≡ 0
  unfolding closing
  closing_none z = rw z

  pub record Closed : Type 0 where
    pub goal_known : goal_of < length ps
    pub goal_sibling : T (siblings ps b goal_of)
    pub from_known : from_of < length ps
    pub from_conflict : T (conflict ps b from_of)
    pub reached : T (bit reached_of from_of)

  pub closed : closing ps (links_of ps) b ≢ 0 → Closed
  closed d = go (same? (siblings_of ps b) 0)
    where
      go : (siblings_of ps b ≡ 0) ⊎ (siblings_of ps b ≢ 0) → Closed
      go (inl z) = absurd (d (closing_none z))
      go (inr n) =
          let e = closing_is n in
          let g = goal_sibling_lem n in
          let small : closing ps (links_of ps) b < 2 ^ 64 =
          below_bits 64 (closing ps (links_of ps) b)
          (λ i t.
          let u = subst T (and_at (conflicts_of ps b) reached_of i) (subst (λ (m : ℕ). T (bit m i)) e t) in
          let l = (conflicts_in ps b i (and_left (bit (conflicts_of ps b) i) (bit reached_of i) u)).0 in
          omega arith) in
          let t = lowest_in (closing ps (links_of ps) b) small d in
          let u = subst T (and_at (conflicts_of ps b) reached_of from_of) (subst (λ (m : ℕ). T (bit m from_of)) e t) in
          let c = conflicts_in ps b from_of (and_left (bit (conflicts_of ps b) from_of) (bit reached_of from_of) u) in
          record {
            goal_known = g.0;
            goal_sibling = g.1;
            from_known = c.0;
            from_conflict = c.1;
            reached = and_right (bit (conflicts_of ps b) from_of) (bit reached_of from_of) u;
          }

  -- a way from a conflicting piece to a sibling closes a circle
  pub closes :
      (a c k : ℕ) → a < length ps → c < length ps → T (siblings ps b a) → T (conflict ps b c)
      → Way (links_of ps) (others (length ps) b) k c a → closing ps (links_of ps) b ≢ 0
  closes a c k la lc s t v =
      let some = bit_some (siblings_of ps b) a (in_siblings ps b a la s) in
      let g = goal_sibling_lem some in
      let R = others-room ps b goal_of g.0 (λ e. sibling-other ps b goal_of g.1 (sym e)) in
      let j : T (bit reached_of c) = go (same? a goal_of) g.0 g.1 R in
      let u = subst T (sym (and_at (conflicts_of ps b) reached_of c)) (and_both (bit (conflicts_of ps b) c) (bit reached_of c) (in_conflicts ps b c lc t) j) in
      bit_some (closing ps (links_of ps) b) c (subst (λ (m : ℕ). T (bit m c)) (sym (closing_is some)) u)
    where
      go : (a ≡ goal_of) ⊎ (a ≢ goal_of) → goal_of < length ps → T (siblings ps b goal_of) → Room (links_of ps) (others (length ps) b) goal_of → T (bit reached_of c)
      go (inl e) l g R = way-joined (links_of ps) (others (length ps) b) goal_of R k c (subst (λ (x : ℕ). Way (links_of ps) (others (length ps) b) k c x) e v)
      go (inr d) l g R =
          way-joined (links_of ps) (others (length ps) b) goal_of R (suc k) c
          (way_on goal_of v
          (joins-linked ps a goal_of la l (or_left (siblings ps a goal_of) (conflict ps a goal_of) (siblings_of_one ps a b goal_of s g d)))
          (in_others ps b goal_of l (λ e. sibling-other ps b goal_of g (sym e))))
