-- Who settled, and under which stamp, over a turn: those who settled so far are known (`Past`), and whoever took a stamp keeps it
-- (`Took`).
use Prim.Native.Nat.{ℕ, ◌≤◌}
use mathlib.Core.Path.{◌≡◌, sym, ap, ◌∙◌, subst}
use mathlib.Core.Logic.{◌≢◌, ◌⊎◌, inl, inr}
use mathlib.Core.Bool.{◌||◌}
use mathlib.Core.List.{List, ◌∷◌}
use native.Mathlib.Omega.{arith}
use lib.Dec.{T, eqb, eqb→eq}
use Rattle.rules.specs.Words.{some}
use Rattle.rules.specs.Tables.{a_settled}
use Rattle.rules.specs.Answers.{Call}
use Rattle.rules.proofs.Tests.{or_cases, or_left, or_right, eq_make, same?}
use Rattle.history.specs.Happened.{Happening, update_committed, empty_committed, settled_under}
use Rattle.history.specs.Numbers.{settled_with}
use Rattle.history.proofs.Invariant.{View, Fair, Row, settled}
use Rattle.history.proofs.Turns.{New, Left, Settles, Turn, quiet, update_begins, query_begins, relaxed_begins, reads, writes, commits, commits_empty, settles, commits_settled, ends}
use Rattle.history.proofs.Standing.{Unknown, left-unknown}

-- ---- those past their writing are among ss, the others are not, and all of ss were given
pub record Past (ss : List ℕ) (W : View) : Type 0 where
  pub past : (s : ℕ) → settled W s → T (some (eqb (W.number s)) ss)
  pub others : (s : ℕ) → W.alive s → W.kind s ≢ a_settled → T (some (eqb (W.number s)) ss) → ⊥
  pub given : (n : ℕ) → T (some (eqb n) ss) → n ≤ W.last

module _ (items : ℕ) (W W' : View) (F : Fair items W) where
  module _ (ss : List ℕ) (P : Past ss W) where
    row-past : (r : ℕ) → Row W W' r → settled W' r → T (some (eqb (W'.number r)) ss)
    row-past r R a = rw R.number_is (P.past r (R.was a.0, sym R.kind_is ∙ a.1))

    row_other : (r : ℕ) → Row W W' r → W'.alive r → W'.kind r ≢ a_settled → T (some (eqb (W'.number r)) ss) → ⊥
    row_other r R a k z = P.others r (R.was a) (λ e. k (R.kind_is ∙ e)) (rw R.number_is at z)

    kept-past : ((r : ℕ) → W'.alive r → Row W W' r) → W'.last ≡ W.last → Past ss W'
    kept-past rows l =
        record {
          past = λ r a. row-past r (rows r a.0) a;
          others = λ r a. row_other r (rows r a) a;
          given = λ n a. let b = P.given n a in omega arith;
        }

    new_past : (s : ℕ) → New items W W' s → W'.kind s ≢ a_settled → Past ss W'
    new_past s B k =
        record {
          past = λ r a. past r a (same? r s);
          others = λ r a i z. others r a i z (same? r s);
          given = λ n a. let b = P.given n a in let l = B.last in omega arith;
        }
      where
        past : (r : ℕ) → settled W' r → (r ≡ s) ⊎ (r ≢ s) → T (some (eqb (W'.number r)) ss)
        past r a (inl e) = absurd (k (ap W'.kind (sym e) ∙ a.1))
        past r a (inr d) = row-past r (B.rows r d) a

        -- its number is above all that were given
        others : (r : ℕ) → W'.alive r → W'.kind r ≢ a_settled → T (some (eqb (W'.number r)) ss) → (r ≡ s) ⊎ (r ≢ s) → ⊥
        others r a i z (inl e) =
            let b = P.given (W'.number r) z in
            let c : W'.number r ≡ W'.number s = ap W'.number e in
            let l = B.number in
            omega arith
        others r a i z (inr d) = row_other r (B.rows r d) a i z

    left-past : (s : ℕ) → Left items W W' s → Past ss W'
    left-past s L = kept-past (λ r a. L.rows r (λ e. L.gone (subst (λ (m : ℕ). W'.alive m) e a))) L.last

    settles_past : (n s : ℕ) → W.number s ≡ n → Settles items W W' s → Past (n ∷ ss) W'
    unfolding some
    settles_past n s e B =
        record {
          past = λ r a. past r a (same? r s);
          others = λ r a i z. others r a i (or_cases (eqb (W'.number r) n) _ z) (same? r s);
          given = λ j a. given j (or_cases (eqb j n) _ a);
        }
      where
        past : (r : ℕ) → settled W' r → (r ≡ s) ⊎ (r ≢ s) → T (eqb (W'.number r) n || some (eqb (W'.number r)) ss)
        past r a (inl f) = or_left (eqb (W'.number r) n) _ (eq_make (W'.number r) n (ap W'.number f ∙ B.number ∙ e))
        past r a (inr d) = or_right (eqb (W'.number r) n) _ (row-past r (B.rows r d) a)

        others :
            (r : ℕ) → W'.alive r → W'.kind r ≢ a_settled → T (eqb (W'.number r) n) ⊎ T (some (eqb (W'.number r)) ss) → (r ≡ s) ⊎ (r ≢ s) → ⊥
        others r a i z (inl f) = i (ap W'.kind f ∙ B.kind)
        others r a i (inl z) (inr d) =
            let R = B.rows r d in
            F.apart r s (R.was a) B.update.0 d (sym R.number_is ∙ eqb→eq (W'.number r) n z ∙ sym e)
        others r a i (inr z) (inr d) = row_other r (B.rows r d) a i z

        given : (j : ℕ) → T (eqb j n) ⊎ T (some (eqb j) ss) → j ≤ W'.last
        given j (inl a) = let b = F.known s B.update.0 in let z = eqb→eq j n a in let l = B.last in omega arith
        given j (inr a) = let b = P.given j a in let l = B.last in omega arith

    pub past_on : {c : Call} {h : Happening} → Turn items W W' c h → Past (settled_with h ss) W'
    unfolding settled_with
    past_on (quiet A) = kept-past (λ r a. A.rows r) A.last
    past_on (update_begins s B k f) = new_past s B (λ z. omega arith)
    past_on (query_begins s B q z f) = new_past s B (λ e. let k = q.1 in omega arith)
    past_on (relaxed_begins s B q f) = new_past s B (λ e. let k = q.1 in omega arith)
    past_on (reads n s x v e b A g) = kept-past (λ r a. A.rows r) A.last
    past_on (writes n s x v e b Q) = kept-past (λ r a. Q.rows r) Q.last
    past_on (commits n s e a k L o f i) = left-past s L
    past_on (commits_empty n s e a k w L o f i) = left-past s L
    past_on (settles n s e B) = settles_past n s e B
    past_on (commits_settled n s e a k L o f i) = left-past s L
    past_on (ends n s e a L o f i) = left-past s L

-- ---- the update n is past its writing, under the stamp d
pub record Took (n d : ℕ) (W : View) : Type 0 where
  pub slot : ℕ
  pub past : settled W slot
  pub name : W.number slot ≡ n
  pub stamp : W.start slot ≡ d

-- from its settle on
pub took : (items : ℕ) (W W' : View) {c : Call} {n d : ℕ} → Turn items W W' c (settled_under n d) → Took n d W'
took items W W' (settles n s e B) = record { slot = s; past = (B.lives, B.kind); name = B.number ∙ e; stamp = B.start }

module _ (items : ℕ) (W W' : View) (F : Fair items W) (n d : ℕ) (H : Took n d W) where
  its_slot : (s : ℕ) → W.number s ≡ n → W.alive s → s ≡ H.slot
  its_slot s e a = go (same? s H.slot)
    where
      go : (s ≡ H.slot) ⊎ (s ≢ H.slot) → s ≡ H.slot
      go (inl z) = z
      go (inr c) = absurd (F.apart s H.slot a H.past.0 c (e ∙ sym H.name))

  -- its commit is under it
  pub took_commit : {c : Call} {k : ℕ} → Turn items W W' c (update_committed n k) → k ≡ d
  took_commit (commits m s e a i L o f j) =
      absurd (let z : W.kind s ≡ W.kind H.slot = ap W.kind (its_slot s e L.alive) in let k = H.past.1 in omega arith)
  took_commit (commits_settled m s e a i L o f j) = ap W.start (its_slot s e L.alive) ∙ H.stamp

  -- and never one of nothing
  pub took_full : {c : Call} {k : ℕ} → Turn items W W' c (empty_committed n k) → ⊥
  took_full (commits_empty m s e a i w L o f j) =
      let z : W.kind s ≡ W.kind H.slot = ap W.kind (its_slot s e L.alive) in let k = H.past.1 in omega arith

  row_took : Row W W' H.slot → Took n d W'
  row_took R =
      record {
        slot = H.slot;
        past = (R.lives_on H.past.0, R.kind_is ∙ H.past.1);
        name = R.number_is ∙ H.name;
        stamp = R.start_is ∙ H.stamp;
      }

  left_took : (s : ℕ) → Left items W W' s → Took n d W' ⊎ Unknown n W'
  left_took s L = go (same? H.slot s)
    where
      go : (H.slot ≡ s) ⊎ (H.slot ≢ s) → Took n d W' ⊎ Unknown n W'
      go (inl e) = inr (left-unknown items W W' n F s (ap W.number (sym e) ∙ H.name) L)
      go (inr c) = inl (row_took (L.rows H.slot c))

  new_took : (s : ℕ) → New items W W' s → Took n d W'
  new_took s B = row_took (B.rows H.slot (λ e. B.free (subst (λ (m : ℕ). W.alive m) e H.past.0)))

  pub took_on : {c : Call} {h : Happening} → Turn items W W' c h → Took n d W' ⊎ Unknown n W'
  took_on (quiet A) = inl (row_took (A.rows H.slot))
  took_on (update_begins s B k f) = inl (new_took s B)
  took_on (query_begins s B q z f) = inl (new_took s B)
  took_on (relaxed_begins s B q f) = inl (new_took s B)
  took_on (reads m s x v e b A g) = inl (row_took (A.rows H.slot))
  took_on (writes m s x v e b Q) = inl (row_took (Q.rows H.slot))
  took_on (commits m s e a k L o f i) = left_took s L
  took_on (commits_empty m s e a k w L o f i) = left_took s L
  took_on (settles m s e B) =
      inl (row_took (B.rows H.slot (λ z. let i : W.kind H.slot ≡ W.kind s = ap W.kind z in let j = H.past.1 in let k = B.update.1 in omega arith)))
  took_on (commits_settled m s e a k L o f i) = left_took s L
  took_on (ends m s e a L o f i) = left_took s L
