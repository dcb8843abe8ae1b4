-- The walk of a row beside the starts in order.
use Prim.Native.Nat.{ℕ, ◌+◌, ◌-◌, ◌*◌, ◌<◌, ◌≤◌}
use mathlib.Core.Path.{◌≡◌, refl, sym, ap, ◌∙◌, subst}
use mathlib.Core.Bool.{Bool, true, false, ◌&&◌}
use mathlib.Core.List.{List}
use native.Mathlib.Omega.{arith}
use lib.ListN.{get_or}
use lib.Dec.{T, leb, ltb, ltb→lt, lt→ltb, leb→le, le→leb}
use borrow.Author.Tests.{ltb-true, ltb-false, lt-ltb, le-ltb, le-leb}
use Rattle.names.specs.Sizes.{base}
use Rattle.names.specs.Layout.{version_stamp_at, version_pair}
use Rattle.rules.proofs.Tests.{and_left, and_right, and_both}
use Rattle.rules.proofs.Counts.{some_below→, →some_below, every_below→, →every_below}
use Rattle.rules.specs.Words.{some_below, every_below}
use Rattle.choices.specs.Pairs.{stamp_in}
use Rattle.starts.specs.Ordered.{lanes, Rises, Skipped}
use Rattle.starts.specs.Ordered.{between}
use Rattle.versions.specs.Rows.{place_before, stamp_before, read_at, read_in}
use Rattle.words.proofs.Turns.{iff_eq, every_false}

-- place p is the first start that is at least lo
pub record First (q : List ℕ) (lo p : ℕ) : Type 0 where
  pub within : p ≤ base.slots
  pub here : lo ≤ get_or q p 0
  pub less : (k : ℕ) → k < p → get_or q k 0 < lo

-- then some start lies between lo and hi exactly if that one is below hi
pub between_first : (q : List ℕ) (lo hi p : ℕ) → Rises q → First q lo p → between q lo hi ≡ ltb (get_or q p 0) hi
unfolding between
between_first q lo hi p s f = iff_eq (some_below lanes (λ k. leb lo (get_or q k 0) && ltb (get_or q k 0) hi)) (ltb (get_or q p 0) hi)
    (λ t.
    let w = some_below→ lanes (λ k. leb lo (get_or q k 0) && ltb (get_or q k 0) hi) t in
    let k = w.0 in
    let a : lo ≤ get_or q k 0 = leb→le lo (get_or q k 0) (and_left (leb lo (get_or q k 0)) (ltb (get_or q k 0) hi) w.2) in
    let b : get_or q k 0 < hi = ltb→lt (get_or q k 0) hi (and_right (leb lo (get_or q k 0)) (ltb (get_or q k 0) hi) w.2) in
    lt→ltb (get_or q p 0) hi (go k w.1 a b (ltb k p) refl))
    (λ t. →some_below lanes (λ k. leb lo (get_or q k 0) && ltb (get_or q k 0) hi) p (let h = f.within in omega arith)
    (and_both (leb lo (get_or q p 0)) (ltb (get_or q p 0) hi) (le→leb lo (get_or q p 0) f.here) t))
  where
    go : (k : ℕ) → k < lanes → lo ≤ get_or q k 0 → get_or q k 0 < hi → (c : Bool) → ltb k p ≡ c → get_or q p 0 < hi
    go k h a b true e = absurd (let l = f.less k (ltb-true k p e) in omega arith)
    go k h a b false e = let l = s.rises p k (ltb-false k p e) h in omega arith

-- what the loop knows: the version at place j is the next to be tested, those behind it are read
pub record Merging (q r : List ℕ) (m p j : ℕ) : Type 0 where
  pub low : 1 ≤ j
  pub high : j + 1 ≤ m
  pub first : First q (stamp_in r j) p
  pub done : (i : ℕ) → j ≤ i → i < m - 1 → T (read_at q r i)
  pub old : leb (stamp_before r m) (get_or q 0 0) ≡ true

pub begin : (q r : List ℕ) (m : ℕ) → 2 ≤ m → ltb (get_or q 0 0) (stamp_before r m) ≡ false → Merging q r m 0 (m - 1)
begin q r m h e =
    let l : stamp_before r m ≤ get_or q 0 0 = ltb-false (get_or q 0 0) (stamp_before r m) e in
    let x : (m - 1) * version_pair + version_stamp_at ≡ place_before m = omega arith in
    record {
      low = omega arith;
      high = omega arith;
      first = record { within = omega arith; here = rw x l; less = λ k b. absurd (omega arith) };
      done = λ i a b. absurd (omega arith);
      old = le-leb (stamp_before r m) (get_or q 0 0) l;
    }

-- the next version is read exactly if the first start is below the stamp before it
pub read_next : (q r : List ℕ) (m p j : ℕ) → Rises q → Merging q r m p j → read_at q r (j - 1) ≡ ltb (get_or q p 0) (stamp_in r (j - 1))
unfolding read_at
read_next q r m p j s g =
    let l = g.low in
    let a : (j - 1 + 1) * version_pair + version_stamp_at ≡ j * version_pair + version_stamp_at = omega arith in
    rw a (between_first q (stamp_in r j) (stamp_in r (j - 1)) p s g.first)

-- it is not: the row is not
pub fails : (q r : List ℕ) (m p j : ℕ) → Rises q → Merging q r m p j → stamp_in r (j - 1) ≤ get_or q p 0 → false ≡ read_in q r m
unfolding read_in
fails q r m p j s g h =
    let l = g.low in
    let k = g.high in
    let e : every_below (m - 1) (read_at q r) ≡ false =
    every_false (read_at q r) (m - 1) (j - 1) (omega arith) (read_next q r m p j s g ∙ le-ltb (get_or q p 0) (stamp_in r (j - 1)) h) in
    rw (g.old, e)

-- it is: the next first start is found from p + 1 on
pub next :
    (q r : List ℕ) (m p j k : ℕ) → Rises q → Merging q r m p j → 1 < j → get_or q p 0 < stamp_in r (j - 1)
    → Skipped q (p + 1) (stamp_in r (j - 1)) k → Merging q r m k (j - 1)
next q r m p j k s g h b z =
    let l = g.low in
    let u = g.high in
    record {
      low = omega arith;
      high = omega arith;
      first = record { within = z.within; here = z.reached; less = λ i c. below i c (ltb p i) refl };
      done = λ i c d. more i c d (ltb (j - 1) i) refl;
      old = g.old;
    }
  where
    below : (i : ℕ) → i < k → (t : Bool) → ltb p i ≡ t → get_or q i 0 < stamp_in r (j - 1)
    below i c true e = let o : p < i = ltb-true p i e in z.less i (omega arith) c
    below i c false e = let o : i ≤ p = ltb-false p i e in let w = g.first.within in let f = s.rises i p o (omega arith) in omega arith

    more : (i : ℕ) → j - 1 ≤ i → i < m - 1 → (t : Bool) → ltb (j - 1) i ≡ t → T (read_at q r i)
    more i c d true e = let o : j - 1 < i = ltb-true (j - 1) i e in g.done i (omega arith) d
    more i c d false e =
        let o : i ≤ j - 1 = ltb-false (j - 1) i e in
        let x : i ≡ j - 1 = omega arith in
        subst T (sym (ap (read_at q r) x ∙ read_next q r m p j s g ∙ lt-ltb (get_or q p 0) (stamp_in r (j - 1)) b)) tt

-- the end: only the version behind the newest is left
pub ends : (q r : List ℕ) (m p j : ℕ) → Rises q → Merging q r m p j → j ≤ 1 → ltb (get_or q p 0) (stamp_in r 0) ≡ read_in q r m
unfolding read_in
ends q r m p j s g h =
    let l = g.low in
    let u = g.high in
    let x : j ≡ 1 = omega arith in
    let z : j - 1 ≡ 0 = omega arith in
    let e : read_at q r 0 ≡ ltb (get_or q p 0) (stamp_in r 0) = sym (ap (read_at q r) z) ∙ read_next q r m p j s g ∙ ap (λ (n : ℕ). ltb (get_or q p 0) (stamp_in r n)) z in
    rw g.old (iff_eq (ltb (get_or q p 0) (stamp_in r 0)) (every_below (m - 1) (read_at q r))
    (λ t. →every_below (m - 1) (read_at q r) (λ i b. all i b (ltb 0 i) refl (subst T (sym e) t)))
    (λ t. subst T e (every_below→ (m - 1) (read_at q r) t 0 (omega arith))))
  where
    all : (i : ℕ) → i < m - 1 → (t : Bool) → ltb 0 i ≡ t → T (read_at q r 0) → T (read_at q r i)
    all i b true e w = let o : 0 < i = ltb-true 0 i e in g.done i (omega arith) b
    all i b false e w = let o : i ≤ 0 = ltb-false 0 i e in let x : i ≡ 0 = omega arith in subst (λ (n : ℕ). T (read_at q r n)) (sym x) w
