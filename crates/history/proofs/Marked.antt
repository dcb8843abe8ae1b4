-- What is known of a run's calls and answers so far, over a turn: who began as an update (Turns), and who was granted a write or settled
-- (`Marked`): the live ones who hold something exclusively, or are past their writing. Locks are kept to the end, so that is the same.
use Prim.Native.Nat.{ℕ, ◌+◌, ◌≤◌, ◌<◌}
use mathlib.Core.Path.{◌≡◌, sym, ap, ◌∙◌, subst}
use mathlib.Core.Logic.{◌≢◌, ◌⊎◌, inl, inr}
use mathlib.Core.Bool.{Bool, true, false, ◌||◌}
use mathlib.Core.List.{List, [], ◌∷◌}
use native.Mathlib.Omega.{arith}
use lib.Dec.{T, eqb, eqb→eq}
use Rattle.rules.specs.Words.{some}
use Rattle.rules.specs.Tables.{an_update, a_query, a_settled}
use Rattle.rules.specs.Answers.{Call}
use Rattle.rules.proofs.Tests.{or_cases, or_left, or_right, eq_make, true_is, same?}
use Rattle.history.specs.Happened.{Happening, SoFar, begun_with}
use Rattle.history.proofs.Invariant.{View, Fair, Row, Locks}
use Rattle.history.proofs.Turns.{New, Puts, Left, Settles, Begun, begun_on}
use Rattle.history.proofs.Turns.{Turn, quiet, update_begins, query_begins, relaxed_begins, reads, writes, commits, commits_empty, settles, commits_settled, ends}

-- slot s is past its writing, or holds an item exclusively
abbrev pub Marks : ℕ → View → ℕ → Type 0
Marks items W s = (W.kind s ≡ a_settled) ⊎ ((x : ℕ) × (x < items) × T (W.writes s x))

pub record Marked (items : ℕ) (ws : List ℕ) (W : View) : Type 0 where
  pub there : (s : ℕ) → W.alive s → W.kind s ≢ a_query → Marks items W s → T (some (eqb (W.number s)) ws)
  pub only : (s : ℕ) → W.alive s → T (some (eqb (W.number s)) ws) → Marks items W s
  pub given : (n : ℕ) → T (some (eqb n) ws) → n ≤ W.last

module _ (items : ℕ) (W W' : View) (F : Fair items W) (ws : List ℕ) (M : Marked items ws W) where
  -- ---- who did not call is marked as before
  row_there : (r : ℕ) → Row W W' r → Locks items W W' r → W'.alive r → W'.kind r ≢ a_query → Marks items W' r → T (some (eqb (W'.number r)) ws)
  row_there r R L a k m = rw R.number_is (M.there r (R.was a) (λ z. k (R.kind_is ∙ z)) (back m))
    where
      back : Marks items W' r → Marks items W r
      back (inl e) = inl (sym R.kind_is ∙ e)
      back (inr (x, b, w)) = inr (x, b, subst T (L.same_writes x b) w)

  row-only : (r : ℕ) → Row W W' r → Locks items W W' r → W'.alive r → T (some (eqb (W'.number r)) ws) → Marks items W' r
  row-only r R L a h = on (M.only r (R.was a) (rw R.number_is at h))
    where
      on : Marks items W r → Marks items W' r
      on (inl e) = inl (R.kind_is ∙ e)
      on (inr (x, b, w)) = inr (x, b, subst T (sym (L.same_writes x b)) w)

  kept : ((r : ℕ) → W'.alive r → Row W W' r) → ((r : ℕ) → W'.alive r → Locks items W W' r) → W'.last ≡ W.last → Marked items ws W'
  kept rows locks l =
      record {
        there = λ r a. row_there r (rows r a) (locks r a) a;
        only = λ r a. row-only r (rows r a) (locks r a) a;
        given = λ n a. let b = M.given n a in omega arith;
      }

  left : (s : ℕ) → Left items W W' s → Marked items ws W'
  left s L = kept (λ r a. L.rows r (stays r a)) (λ r a. L.locks r (stays r a)) L.last
    where
      stays : (r : ℕ) → W'.alive r → r ≢ s
      stays r a e = L.gone (subst (λ (m : ℕ). W'.alive m) e a)

  -- one more, who is not marked: its number is above all that were given
  new : (s : ℕ) → New items W W' s → (W'.kind s ≢ a_query → Marks items W' s → ⊥) → Marked items ws W'
  new s B none =
      record {
        there = λ r a k m. there r a k m (same? r s);
        only = λ r a h. only r a h (same? r s);
        given = λ n a. let b = M.given n a in let l = B.last in omega arith;
      }
    where
      there : (r : ℕ) → W'.alive r → W'.kind r ≢ a_query → Marks items W' r → (r ≡ s) ⊎ (r ≢ s) → T (some (eqb (W'.number r)) ws)
      there r a k m (inl e) = absurd (none (subst (λ (j : ℕ). W'.kind j ≢ a_query) e k) (subst (λ (j : ℕ). Marks items W' j) e m))
      there r a k m (inr d) = row_there r (B.rows r d) (B.locks r d) a k m

      only : (r : ℕ) → W'.alive r → T (some (eqb (W'.number r)) ws) → (r ≡ s) ⊎ (r ≢ s) → Marks items W' r
      only r a h (inl e) =
          let b = M.given (W'.number r) h in
          let c : W'.number r ≡ W'.number s = ap W'.number e in
          let l = B.number in
          absurd (omega arith)
      only r a h (inr d) = row-only r (B.rows r d) (B.locks r d) a h

  -- slot s comes to be marked, with the number n
  marks :
      (n s : ℕ) → W.number s ≡ n → W.alive s → W'.number s ≡ W.number s → Marks items W' s → ((r : ℕ) → r ≢ s → Row W W' r)
      → ((r : ℕ) → r ≢ s → Locks items W W' r) → W'.last ≡ W.last → Marked items (n ∷ ws) W'
  unfolding some
  marks n s e alive same mark rows locks l =
      record {
        there = λ r a k m. there r a k m (same? r s);
        only = λ r a h. only r a h (same? r s);
        given = λ m h. given m (or_cases (eqb m n) _ h);
      }
    where
      there : (r : ℕ) → W'.alive r → W'.kind r ≢ a_query → Marks items W' r → (r ≡ s) ⊎ (r ≢ s) → T (eqb (W'.number r) n || some (eqb (W'.number r)) ws)
      there r a k m (inl z) = or_left (eqb (W'.number r) n) _ (eq_make (W'.number r) n (ap W'.number z ∙ same ∙ e))
      there r a k m (inr d) = or_right (eqb (W'.number r) n) _ (row_there r (rows r d) (locks r d) a k m)

      only : (r : ℕ) → W'.alive r → T (eqb (W'.number r) n || some (eqb (W'.number r)) ws) → (r ≡ s) ⊎ (r ≢ s) → Marks items W' r
      only r a h (inl z) = subst (λ (j : ℕ). Marks items W' j) (sym z) mark
      only r a h (inr d) = go (or_cases (eqb (W'.number r) n) _ h)
        where
          go : T (eqb (W'.number r) n) ⊎ T (some (eqb (W'.number r)) ws) → Marks items W' r
          go (inl q) =
              let R = rows r d in
              absurd (F.apart r s (R.was a) alive d (sym R.number_is ∙ eqb→eq (W'.number r) n q ∙ sym e))
          go (inr q) = row-only r (rows r d) (locks r d) a q

      given : (m : ℕ) → T (eqb m n) ⊎ T (some (eqb m) ws) → m ≤ W'.last
      given m (inl q) = let b = F.known s alive in let z = eqb→eq m n q in omega arith
      given m (inr q) = let b = M.given m q in omega arith

-- ---- both together
pub record Known (items : ℕ) (so : SoFar) (W : View) : Type 0 where
  pub begun : Begun so.updates W
  pub marked : Marked items so.stamped W

module _ (items : ℕ) (W W' : View) (F : Fair items W) (so : SoFar) (K : Known items so W) where
  abbrev ws : List ℕ
  ws = so.stamped

  abbrev M : Marked items ws W
  M = K.marked

  -- who begins holds nothing
  none : (s : ℕ) {k : ℕ} → W'.kind s ≡ k → k ≢ a_settled → ((x : ℕ) → x < items → W'.writes s x ≡ false) → Marks items W' s → ⊥
  none s e d free (inl z) = d (sym e ∙ z)
  none s e d free (inr (x, b, w)) = subst T (free x b) w

  marked_on : {c : Call} {h : Happening} → Turn items W W' c h → Marked items (begun_with h so).stamped W'
  unfolding begun_with
  marked_on (quiet A) = kept items W W' F ws M (λ r a. A.rows r) (λ r a. A.locks r) A.last
  marked_on (update_begins s B k free) = new items W W' F ws M s B (λ z m. none s k (λ e. omega arith) free m)
  marked_on (query_begins s B q z e) = new items W W' F ws M s B (λ d m. d q.1)
  marked_on (relaxed_begins s B q free) = new items W W' F ws M s B (λ z m. none s q.1 (λ e. omega arith) free m)
  marked_on (reads n s x v m b A g) = kept items W W' F ws M (λ r a. A.rows r) (λ r a. A.locks r) A.last
  marked_on (writes n s x v m b P) =
      marks items W W' F ws M n s m P.alive (P.rows s).number_is (inr (x, b, true_is P.writes_it)) (λ r d. P.rows r) P.locks P.last
  marked_on (commits n s m a u L o e k) = left items W W' F ws M s L
  marked_on (commits_empty n s m a u w L o e k) = left items W W' F ws M s L
  marked_on (settles n s m B) = marks items W W' F ws M n s m B.update.0 B.number (inl B.kind) B.rows B.locks B.last
  marked_on (commits_settled n s m a u L o e k) = left items W W' F ws M s L
  marked_on (ends n s m a L o e k) = left items W W' F ws M s L

  pub known_on : {c : Call} {h : Happening} → Turn items W W' c h → Known items (begun_with h so) W'
  known_on t = record { begun = begun_on items W W' F so K.begun t; marked = marked_on t }
