-- The search by halving for the version that a reader reads, and the words of that version in the table.
use Prim.Native.Nat.{ℕ, zero, suc, ◌+◌, ◌-◌, ◌*◌, ◌/◌, ◌<◌, ◌≤◌}
use mathlib.Core.Path.{◌≡◌, refl, sym, ap, ◌∙◌, subst}
use mathlib.Core.Bool.{Bool, true, false, ◌&&◌, not}
use mathlib.Core.List.{List}
use native.Mathlib.Omega.{arith}
use native.Mathlib.Nat.{not-suc-le-zero}
use lib.ListN.{get_or, take, drop}
use lib.Dec.{T, ltb, leb→le, le→leb}
use borrow.Author.Tests.{ltb-false}
use Rattle.names.specs.Sizes.{base}
use Rattle.rules.specs.Words.{row}
use Rattle.rules.specs.Tables.{version_row, Reader, up_to}
use Rattle.rules.specs.Versions.{Version, no_version, versions_in, versions_of, sees, place, choice}
use Rattle.rules.proofs.Tests.{true_is, false_is, and_both}
use Rattle.rules.proofs.Choice.{Falls, Nests, length-versions_in, older_seen, place-fits}
use Rattle.rules.proofs.Reading.{place_is}
use Rattle.choices.specs.Pairs.{count_in, stamp_in}
use Rattle.choices.specs.Choosable.{Choosable, ChoosableIn}
use Rattle.choices.specs.Looks.{halvings, most_looks}
use Rattle.choices.proofs.Lent.{lent, length-row}
use Rattle.choices.proofs.Halvings.{fewer, at_most}
use Rattle.choices.proofs.Read.{seen_up_to}

-- ---- in one row
abbrev at : List ℕ → ℕ → Version
at r k = get_or (versions_in base r) k no_version

-- what the loop knows: the chosen place is one of lo .. hi
pub record Halved (r : List ℕ) (q : Reader) (lo hi : ℕ) : Type 0 where
  pub order : lo ≤ hi
  pub inside : hi < count_in r
  pub newer : (i : ℕ) → i < lo → T (sees q (get_or (versions_in base r) i no_version)) → ⊥
  pub old : T (sees q (get_or (versions_in base r) hi no_version))

module _ (r : List ℕ) (q : Reader) (f : ChoosableIn r q) where
  -- the chosen version is in the row
  pub within : place q (versions_in base r) < count_in r
  within = let a = f.found in omega (arith, length-versions_in base r)

  -- the loop begins with all places but one to leave out, and no look
  pub few_looks : halvings base.places (count_in r - 1 - 0) + 0 ≤ most_looks
  few_looks = let h = at_most base.places most_looks (count_in r - 1 - 0) (let a = f.sound.most in omega arith) in omega arith

  -- who may read a version may read the older ones
  older : (i j : ℕ) → i ≤ j → j < count_in r → T (sees q (at r i)) → T (sees q (at r j))
  unfolding Falls Nests
  older i j l h = older_seen (versions_in base r) f.sound.fall f.sound.nest q i j l (omega (arith, length-versions_in base r))

  -- at first these are all places: the last version is the oldest, so whoever finds one may read it
  pub begin : Halved r q 0 (count_in r - 1)
  begin =
      record {
        order = omega arith;
        inside = omega (arith, within);
        newer = λ i h. absurd (not-suc-le-zero h);
        old = older (place q (versions_in base r)) (count_in r - 1) (omega (arith, within)) (omega (arith, within)) (place-fits q (versions_in base r) f.found);
      }

  module _ (lo hi : ℕ) (h : Halved r q lo hi) where
    -- where the version in the middle is not for it, none before it is
    right : (mid : ℕ) → mid < hi → (T (sees q (at r mid)) → ⊥) → {next : ℕ} → next ≤ mid + 1 → Halved r q next hi
    right mid l n {next} m =
        record {
          order = omega arith;
          inside = h.inside;
          newer = λ i b t. n (older i mid (omega arith) (let a = h.inside in omega arith) t);
          old = h.old;
        }

    -- where it is, it or one before it is chosen
    left : (mid : ℕ) → lo ≤ mid → mid < hi → T (sees q (at r mid)) → Halved r q lo mid
    left mid o l n = let a = h.inside in record { order = o; inside = omega arith; newer = h.newer; old = n }

    -- either way at most half of the other places are left
    less : lo < hi → {n : ℕ} → n ≤ (hi - lo) / 2 → halvings base.places n < halvings base.places (hi - lo)
    less l {n} m =
        let a = h.inside in
        let b = f.sound.most in
        fewer base.places n (hi - lo) m (omega arith) (omega arith)

    -- a turn: one look less, and half of the places
    pub turned_right :
        lo < hi → (looks : ℕ) → halvings base.places (hi - lo) + looks ≤ most_looks
        → (T (sees q (get_or (versions_in base r) ((lo + hi) / 2) no_version)) → ⊥)
        → {l u : ℕ} → l ≡ (lo + hi) / 2 + 1 → u ≡ hi → Halved r q l u × (halvings base.places (u - l) + (looks + 1) ≤ most_looks)
    turned_right o looks m n {l} {u} e f =
        let z : u - l ≤ (hi - lo) / 2 = omega arith in
        let y = less o z in (
          subst (λ (j : ℕ). Halved r q l j) (sym f) (right ((lo + hi) / 2) (omega arith) n (let z : l ≤ (lo + hi) / 2 + 1 = omega arith in z)),
          omega arith,
        )

    pub turned_left :
        lo < hi → (looks : ℕ) → halvings base.places (hi - lo) + looks ≤ most_looks
        → T (sees q (get_or (versions_in base r) ((lo + hi) / 2) no_version))
        → {l u : ℕ} → l ≡ lo → u ≡ (lo + hi) / 2 → Halved r q l u × (halvings base.places (u - l) + (looks + 1) ≤ most_looks)
    turned_left o looks m n {l} {u} e f =
        let z : u - l ≤ (hi - lo) / 2 = omega arith in
        let y = less o z in (
          subst (λ (j : ℕ). Halved r q j u) (sym e) (subst (λ (j : ℕ). Halved r q lo j) (sym f) (left ((lo + hi) / 2) (omega arith) (omega arith) n)),
          omega arith,
        )

    -- where one place is left, it is the chosen one
    pub done : hi ≤ lo → lo ≡ place q (versions_in base r)
    done l =
        let a = h.inside in
        let o = h.order in
        let e : hi ≡ lo = omega arith in
        sym
        (place_is q (versions_in base r) lo (omega (arith, length-versions_in base r))
        (subst (λ (k : ℕ). T (sees q (at r k))) e h.old)
        h.newer)

-- the word in the middle, for one that reads by a start and for one that reads outside a set
pub too_new : (r : List ℕ) (q k : ℕ) → k < count_in r → q < stamp_in r k → T (sees (up_to q) (get_or (versions_in base r) k no_version)) → ⊥
too_new r q k h l t = let m = leb→le (stamp_in r k) q (subst T (seen_up_to r k q h) t) in absurd (omega arith)

pub old_enough_lem : (r : List ℕ) (q k : ℕ) → k < count_in r → stamp_in r k ≤ q → T (sees (up_to q) (get_or (versions_in base r) k no_version))
old_enough_lem r q k h l = subst T (sym (seen_up_to r k q h)) (le→leb (stamp_in r k) q l)

-- what is not too new may be read
pub seen_lem : (b : Bool) → false ≡ not b → T b
seen_lem true e = tt
seen_lem false e = absurd (subst T (sym e) tt)

-- the loop ends where one place is left, or no look: then too one place is left
pub looked_enough :
    (lo hi looks : ℕ) → halvings base.places (hi - lo) + looks ≤ most_looks → (ltb lo hi && ltb looks most_looks) ≡ false → hi ≤ lo
looked_enough lo hi looks m e = go (ltb lo hi) refl (ltb looks most_looks) refl
  where
    none : (n : ℕ) → halvings base.places n ≤ 0 → n ≡ 0
    none zero h = refl
    none (suc n) h = absurd (unfold halvings in (omega arith))

    go : (a : Bool) → ltb lo hi ≡ a → (b : Bool) → ltb looks most_looks ≡ b → hi ≤ lo
    go false f b g = ltb-false lo hi f
    go true f false g = let l = ltb-false looks most_looks g in let z = none (hi - lo) (omega arith) in omega arith
    go true f true g = absurd (false_is e (and_both (ltb lo hi) (ltb looks most_looks) (true_is f) (true_is g)))

-- ---- in the table
pub found_in : (v : List ℕ) (x : ℕ) (q : Reader) → Choosable v x q → ChoosableIn (row (version_row base) x v) q
unfolding versions_of
found_in v x q f =
    record { size = length-row x v f.size f.known; sound = f.sound; found = f.found }

-- what is known of the place that the search finds in the part of the table that is lent
pub record Placed (v : List ℕ) (x : ℕ) (q : Reader) (k : ℕ) : Type 0 where
  pub is : k ≡ place q (versions_of base v x)
  pub counted : k < count_in (row (version_row base) x v)
  pub room : k < base.places

pub placed :
    (v : List ℕ) (x : ℕ) (q : Reader) → Choosable v x q → (k : ℕ)
    → k ≡ place q (versions_in base (take ((version_row base * x + version_row base) - version_row base * x) (drop (version_row base * x) v)))
    → Placed v x q k
unfolding versions_of
placed v x q f k e =
    let i : k ≡ place q (versions_of base v x) = e ∙ ap (λ (r : List ℕ). place q (versions_in base r)) (lent x v) in
    let c : k < count_in (row (version_row base) x v) = omega (arith, within (row (version_row base) x v) q (found_in v x q f)) in
    record { is = i; counted = c; room = let m = f.sound.most in omega arith }

-- the place that the search finds is one of the row's
pub in_row : (r : List ℕ) (q : Reader) → ChoosableIn r q → (k : ℕ) → k ≡ place q (versions_in base r) → (k < count_in r) × (k < base.places)
in_row r q f k e = let i = within r q f in let m = f.sound.most in (omega arith, omega arith)

module _ (v : List ℕ) (x : ℕ) (q : Reader) (r : List ℕ) (is : r ≡ row (version_row base) x v) where
  -- the row that is lent for an item is as the search asks
  pub lent_choosable : Choosable v x q → ChoosableIn r q
  lent_choosable f = subst (λ (r : List ℕ). ChoosableIn r q) (sym is) (found_in v x q f)

  -- what it finds there is the version of the item that q reads
  pub chosen-place : (k : ℕ) → k ≡ place q (versions_in base r) → k ≡ place q (versions_of base v x)
  unfolding versions_of
  chosen-place k e = e ∙ ap (λ (r : List ℕ). place q (versions_in base r)) is

  pub chosen-value :
      (k : ℕ) → k ≡ place q (versions_in base r) → (get_or (versions_in base r) k no_version).value ≡ (choice q (versions_of base v x)).value
  unfolding versions_of choice
  chosen-value k e =
      ap (λ (j : ℕ). (get_or (versions_in base r) j no_version).value) e
      ∙ ap (λ (r : List ℕ). (get_or (versions_in base r) (place q (versions_in base r)) no_version).value) is
