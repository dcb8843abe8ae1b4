-- The walk of a row beside the starts in order, where versions are hidden from relaxed queries.
use Prim.Native.Nat.{ℕ, ◌+◌, ◌-◌, ◌*◌, ◌<◌, ◌≤◌}
use mathlib.Core.Path.{◌≡◌, refl, sym, ap, ◌∙◌, subst}
use mathlib.Core.Logic.{◌≢◌}
use mathlib.Core.Bool.{Bool, true, false}
use mathlib.Core.List.{List}
use native.Mathlib.Omega.{arith}
use lib.ListN.{get_or}
use lib.Dec.{T, eqb, leb, ltb, ltb→lt}
use borrow.Author.Tests.{eq-eqb, ne_eqb, ltb-true, ltb-false, le-leb, lt-leb}
use Rattle.names.specs.Layout.{version_stamp_at, version_pair}
use Rattle.rules.specs.Words.{every_below}
use Rattle.rules.proofs.Tests.{is_true, true_is, and_left}
use Rattle.rules.proofs.Counts.{→every_below}
use Rattle.choices.specs.Pairs.{stamp_in, hidden_in}
use Rattle.starts.specs.Ordered.{Rises, Skipped}
use Rattle.versions.specs.Rows.{place_before, stamp_before, step_ok, step_at, walk_in}
use Rattle.versions.proofs.Merge.{First, between_first}
use Rattle.words.proofs.Turns.{every_false}

-- what the loop knows: the version at place j is the next to be held against the one before it, those behind it have been
pub record Seeing (q r : List ℕ) (m p j : ℕ) : Type 0 where
  pub high : j + 1 ≤ m
  pub first : First q (stamp_in r j) p
  pub done : (i : ℕ) → j ≤ i → i < m - 1 → T (step_at q r i)
  pub old : leb (stamp_before r m) (get_or q 0 0) ≡ true
  pub shown : eqb (hidden_in r (m - 1)) 0 ≡ true

module _ (q r : List ℕ) (m : ℕ) where
  abbrev old_enough : Bool
  old_enough = leb (stamp_before r m) (get_or q 0 0)

  abbrev shown_last : Bool
  shown_last = eqb (hidden_in r (m - 1)) 0

  -- the last is too new, or hidden
  pub too_new : get_or q 0 0 < stamp_before r m → false ≡ walk_in q r m
  unfolding walk_in
  too_new h = sym (rw (lt-leb (stamp_before r m) (get_or q 0 0) h))

  pub last-hidden : stamp_before r m ≤ get_or q 0 0 → hidden_in r (m - 1) ≢ 0 → false ≡ walk_in q r m
  unfolding walk_in
  last-hidden h d = sym (rw (le-leb (stamp_before r m) (get_or q 0 0) h, ne_eqb (hidden_in r (m - 1)) 0 d))

  pub begin : 1 ≤ m → stamp_before r m ≤ get_or q 0 0 → hidden_in r (m - 1) ≡ 0 → Seeing q r m 0 (m - 1)
  begin h l e =
      let x : (m - 1) * version_pair + version_stamp_at ≡ place_before m = omega arith in
      record {
        high = omega arith;
        first = record { within = omega arith; here = rw x l; less = λ k b. absurd (omega arith) };
        done = λ i a b. absurd (omega arith);
        old = le-leb (stamp_before r m) (get_or q 0 0) l;
        shown = eq-eqb (hidden_in r (m - 1)) 0 e;
      }

  module _ (p j : ℕ) (rises : Rises q) (g : Seeing q r m p j) where
    -- the version before, by its words
    module _ (some : 0 < j) where
      abbrev next_ok : Bool
      next_ok =
          step_ok (stamp_in r (j - 1 + 1)) (stamp_in r (j - 1)) (hidden_in r (j - 1 + 1)) (hidden_in r (j - 1)) (ltb (get_or q p 0) (stamp_in r (j - 1)))

      next_is : step_at q r (j - 1) ≡ next_ok
      unfolding step_at
      next_is =
          let a : (j - 1 + 1) * version_pair + version_stamp_at ≡ j * version_pair + version_stamp_at = omega arith in
          ap (step_ok (stamp_in r (j - 1 + 1)) (stamp_in r (j - 1)) (hidden_in r (j - 1 + 1)) (hidden_in r (j - 1)))
          (rw a (between_first q (stamp_in r j) (stamp_in r (j - 1)) p rises g.first))

      -- the row is not good
      pub fails :
          step_ok (stamp_in r (j - 1 + 1)) (stamp_in r (j - 1)) (hidden_in r (j - 1 + 1)) (hidden_in r (j - 1)) (ltb (get_or q p 0) (stamp_in r (j - 1))) ≡ false → false ≡ walk_in q r m
      unfolding walk_in
      fails n =
          let k = g.high in
          let e : every_below (m - 1) (step_at q r) ≡ false = every_false (step_at q r) (m - 1) (j - 1) (omega arith) (next_is ∙ n) in
          rw (g.old, g.shown, e)

      -- it is so far: the first start that is at least the stamp before is found from p on
      pub next :
          step_ok (stamp_in r (j - 1 + 1)) (stamp_in r (j - 1)) (hidden_in r (j - 1 + 1)) (hidden_in r (j - 1)) (ltb (get_or q p 0) (stamp_in r (j - 1))) ≡ true → (k : ℕ) → Skipped q p (stamp_in r (j - 1)) k → Seeing q r m k (j - 1)
      next n k z =
          let h = g.high in
          record {
            high = omega arith;
            first = record { within = z.within; here = z.reached; less = λ i c. below i c (ltb i p) refl };
            done = λ i c d. more i c d (ltb (j - 1) i) refl;
            old = g.old;
            shown = g.shown;
          }
        where
          falls : stamp_in r j < stamp_in r (j - 1)
          falls =
              let a : j - 1 + 1 ≡ j = omega arith in
              subst (λ (k : ℕ). stamp_in r k < stamp_in r (j - 1)) a
              (ltb→lt (stamp_in r (j - 1 + 1)) (stamp_in r (j - 1)) (and_left (ltb (stamp_in r (j - 1 + 1)) (stamp_in r (j - 1))) _ (true_is n)))

          below : (i : ℕ) → i < k → (t : Bool) → ltb i p ≡ t → get_or q i 0 < stamp_in r (j - 1)
          below i c true e = let f = g.first.less i (ltb-true i p e) in let w = falls in omega arith
          below i c false e = z.less i (ltb-false i p e) c

          more : (i : ℕ) → j - 1 ≤ i → i < m - 1 → (t : Bool) → ltb (j - 1) i ≡ t → T (step_at q r i)
          more i c d true e = let o : j - 1 < i = ltb-true (j - 1) i e in g.done i (omega arith) d
          more i c d false e =
              let o : i ≤ j - 1 = ltb-false (j - 1) i e in
              let x : i ≡ j - 1 = omega arith in
              subst T (sym (ap (step_at q r) x ∙ next_is ∙ n)) tt

    -- the newest is reached
    pub ends : j ≤ 0 → true ≡ walk_in q r m
    unfolding walk_in
    ends h =
        let e : every_below (m - 1) (step_at q r) ≡ true = is_true _ (→every_below (m - 1) (step_at q r) (λ i b. g.done i (omega arith) b)) in
        rw (g.old, g.shown, e)
