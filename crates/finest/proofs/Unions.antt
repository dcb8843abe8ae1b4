-- In an accepted chopping that respects rollback the operations that reach each other are together: a way of links that leaves the piece
-- of i and comes back to another piece of its program would make a sibling and a conflicting piece meet at the piece of i.
use Prim.Native.Nat.{ℕ, suc, ◌<◌}
use mathlib.Core.Path.{◌≡◌, refl, sym, ◌∙◌, subst}
use mathlib.Core.Logic.{◌≢◌, ◌⊎◌, inl, inr}
use mathlib.Core.Bool.{Bool, true, false}
use mathlib.Core.List.{List}
use native.Mathlib.Omega.{arith}
use lib.ListN.{length}
use lib.Dec.{T}
use Rattle.rules.specs.Words.{bit}
use Rattle.rules.proofs.Tests.{or_left, or_right, true_is, false_is, same?}
use Rattle.graph.specs.Ways.{linked, Way, here, link}
use Rattle.chop.specs.Pieces.{siblings, conflict, joins}
use Rattle.chop.specs.Judgement.{links_of, others}
use Rattle.chop.specs.Promises.{Meeting}
use Rattle.chop.proofs.Joining.{joins-linked, in_others}
use Rattle.finest.specs.Operations.{Operation, program_of, conflicting, Fits}
use Rattle.finest.specs.Finest.{links_for, all}
use Rattle.finest.specs.Choppings.{together, leaders, pieces_under, Accepted, RespectsRollback}
use Rattle.finest.proofs.Linking.{Linked, by_conflict, by_whole, by_block, conflict-apart, linked_is, links_in, all_in}
use Rattle.finest.proofs.Together.{together-program, together_self, together_turned, together_on, head, home}
use Rattle.finest.proofs.Pieces.{pieces-length, siblings_make, clash-conflict}
use Rattle.finest.proofs.Reached.{conflict_turned}
use Rattle.finest.proofs.Judging.{no_meeting}

-- a way goes on by one link
way_on : {w : List ℕ} {room k a b : ℕ} (c : ℕ) → Way w room k a b → T (linked w b c) → T (bit room c) → Way w room (suc k) a c
way_on c (here r) e s = link r e (here s)
way_on c (link r f v) e s = link r f (way_on c v e s)

module _ (os : List Operation) (F : Fits os) (c : List ℕ) (respects : RespectsRollback os c) (ok : Accepted os c) (i : ℕ) (known : i < length os) where
  -- the place of a known operation's piece
  at : (z : ℕ) → z < length os → ℕ
  at z l = (home os c z l).0

  at_known : (z : ℕ) (l : z < length os) → at z l < length (leaders os c)
  unfolding at
  at_known z l = (home os c z l).1

  at_with : (z : ℕ) (l : z < length os) → T (together os c (head os c (at z l)) z)
  unfolding at
  at_with z l = (home os c z l).2

  -- the place of the piece of i
  mine : ℕ
  mine = at i known

  seen : (k : ℕ) → k < length (leaders os c) → k < length (pieces_under os c)
  seen k l = let e = pieces-length os c in omega arith

  -- an operation of another piece has another place
  other_place : (z : ℕ) (l : z < length os) → (T (together os c i z) → ⊥) → at z l ≢ mine
  unfolding mine
  other_place z l d e =
      d
      (together_on os c i (head os c mine) z (together_turned os c (head os c mine) i (at_with i known))
      (subst (λ (k : ℕ). T (together os c (head os c k) z)) e (at_with z l)))

  conflict-places : (y z : ℕ) (l : y < length os) (m : z < length os) → T (conflicting os y z) → T (conflict (pieces_under os c) (at y l) (at z m))
  conflict-places y z l m u =
      clash-conflict os c F (at y l) (at z m) (at_known y l) (at_known z m)
      (record { here = y; there = z; here_known = l; there_known = m; here_inside = at_with y l; there_inside = at_with z m; clashes = u })

  -- the piece at place p is met on a way that left the piece of i by a conflict and has not come back to it
  record Outside (p : ℕ) : Type 0 where
    pub other : ℕ
    pub links : ℕ
    pub other_known : other < length (leaders os c)
    pub other_is : T (conflict (pieces_under os c) mine other)
    pub way : Way (links_of (pieces_under os c)) (others (length (pieces_under os c)) mine) links other p

  data Met (z : ℕ) (l : z < length os) : Type 0 where
    inside : T (together os c i z) → Met z l
    outside : program_of os z ≢ program_of os i → Outside (at z l) → Met z l

  on : (p q : ℕ) → p < length (leaders os c) → q < length (leaders os c) → q ≢ mine → T (joins (pieces_under os c) p q) → Outside p → Outside q
  on p q l m d j O =
      record {
        other = O.other;
        links = suc O.links;
        other_known = O.other_known;
        other_is = O.other_is;
        way = way_on q O.way (joins-linked (pieces_under os c) p q (seen p l) (seen q m) j) (in_others (pieces_under os c) mine q (seen q m) d);
      }

  -- back in the program of i, it is back in the piece of i
  back : (p z : ℕ) (m : z < length os) → p < length (leaders os c) → program_of os z ≡ program_of os i → T (conflict (pieces_under os c) p (at z m)) → Outside p → T (together os c i z)
  unfolding mine
  back p z m l e u O = go (together os c i z) refl
    where
      go : (b : Bool) → together os c i z ≡ b → T (together os c i z)
      go true h = true_is h
      go false h =
          let ps = pieces_under os c in
          let q = at z m in
          let d = other_place z m (false_is h) in
          let P = on p q l (at_known z m) d (or_right (siblings ps p q) (conflict ps p q) u) O in
          let M : Meeting ps mine =
          record {
            sibling = q;
            other = P.other;
            links = P.links;
            sibling_known = seen q (at_known z m);
            other_known = seen P.other P.other_known;
            sibling_is = siblings_make os c mine q (at_known i known) (at_known z m) (λ s. d (sym s))
                (together-program os c (head os c mine) i (at_with i known) ∙ sym e ∙ sym (together-program os c (head os c q) z (at_with z m)));
            other_is = P.other_is;
            way = P.way;
          } in
          absurd (no_meeting ps ok mine (seen mine (at_known i known)) M)

  -- ---- one link
  stranger : (z : ℕ) → program_of os z ≢ program_of os i → T (together os c i z) → ⊥
  stranger z d t = d (sym (together-program os c i z t))

  leave : (y z : ℕ) (l : y < length os) (m : z < length os) → T (together os c i z) → Linked os (program_of os i) y z → Met y l
  unfolding mine
  leave y z l m t (by_conflict u) =
      let d : program_of os y ≢ program_of os i = λ e. conflict-apart os y z u (e ∙ together-program os c i z t) in
      let p = at y l in
      outside d
      (record {
        other = p;
        links = 0;
        other_known = at_known y l;
        other_is = clash-conflict os c F mine p (at_known i known) (at_known y l)
            (record {
              here = z;
              there = y;
              here_known = m;
              there_known = l;
              here_inside = together_on os c (head os c mine) i z (at_with i known) t;
              there_inside = at_with y l;
              clashes = conflict_turned os y z u;
            });
        way = here (in_others (pieces_under os c) mine p (seen p (at_known y l)) (other_place y l (stranger y d)));
      })
  leave y z l m t (by_whole e d) = absurd (d (e ∙ sym (together-program os c i z t)))
  leave y z l m t (by_block e u) = inside (together_on os c i z y t (together_turned os c y z (respects y z l m u)))

  stay : (y z : ℕ) (l : y < length os) (m : z < length os) → program_of os z ≢ program_of os i → program_of os y ≡ program_of os z → Outside (at z m) → Met y l
  stay y z l m d e O = go (same? (at z m) (at y l))
    where
      f : program_of os y ≢ program_of os i
      f q = d (sym e ∙ q)

      go : (at z m ≡ at y l) ⊎ (at z m ≢ at y l) → Met y l
      go (inl q) = outside f (subst Outside q O)
      go (inr n) =
          outside f
          (on (at z m) (at y l) (at_known z m) (at_known y l) (other_place y l (stranger y f))
          (or_left (siblings (pieces_under os c) (at z m) (at y l)) (conflict (pieces_under os c) (at z m) (at y l))
          (siblings_make os c (at z m) (at y l) (at_known z m) (at_known y l) n
          (together-program os c (head os c (at z m)) z (at_with z m) ∙ sym e ∙ sym (together-program os c (head os c (at y l)) y (at_with y l)))))
          O)

  further : (y z : ℕ) (l : y < length os) (m : z < length os) → program_of os z ≢ program_of os i → Outside (at z m) → Linked os (program_of os i) y z → Met y l
  further y z l m d O (by_conflict u) = go (same? (program_of os y) (program_of os i))
    where
      k : T (conflict (pieces_under os c) (at z m) (at y l))
      k = conflict-places z y m l (conflict_turned os y z u)

      go : (program_of os y ≡ program_of os i) ⊎ (program_of os y ≢ program_of os i) → Met y l
      go (inl e) = inside (back (at z m) y l (at_known z m) e k O)
      go (inr f) =
          outside f
          (on (at z m) (at y l) (at_known z m) (at_known y l) (other_place y l (stranger y f))
          (or_right (siblings (pieces_under os c) (at z m) (at y l)) (conflict (pieces_under os c) (at z m) (at y l)) k) O)
  further y z l m d O (by_whole e f) = stay y z l m d e O
  further y z l m d O (by_block e u) = stay y z l m d e O

  -- ---- all links
  walked : {k z : ℕ} → Way (links_for os (program_of os i)) (all (length os)) k z i → (l : z < length os) × Met z l
  walked (here r) = (all_in os (program_of os i) _ r, inside (together_self os c i))
  walked (link {k} {a = y} {b = z} r e v) = go (walked v)
    where
      go : (l : z < length os) × Met z l → (l : y < length os) × Met y l
      go w = (all_in os (program_of os i) y r, met w.0 w.1)
        where
          s : Linked os (program_of os i) y z
          s = linked_is os (program_of os i) y z (links_in os (program_of os i) y z (all_in os (program_of os i) y r) e)

          met : (m : z < length os) → Met z m → Met y (all_in os (program_of os i) y r)
          met m (inside t) = leave y z (all_in os (program_of os i) y r) m t s
          met m (outside d O) = further y z (all_in os (program_of os i) y r) m d O s

  -- who is reached from i, in its program, is together with it
  pub way-together : {k z : ℕ} → Way (links_for os (program_of os i)) (all (length os)) k z i → program_of os i ≡ program_of os z → T (together os c i z)
  way-together {k} {z} v e = go (walked v)
    where
      pick : (l : z < length os) → Met z l → T (together os c i z)
      pick l (inside t) = t
      pick l (outside d O) = absurd (d (sym e))

      go : (l : z < length os) × Met z l → T (together os c i z)
      go w = pick w.0 w.1
