-- How a number stands, seen in the view: nobody has it any more (`Unknown`). What a turn makes of this.
use Prim.Native.Nat.{ℕ, ◌≤◌}
use mathlib.Core.Path.{◌≡◌, sym, ap, ◌∙◌, subst}
use mathlib.Core.Logic.{◌≢◌, ◌⊎◌, inl, inr}
use mathlib.Core.Bool.{Bool, true, false, cond}
use native.Mathlib.Omega.{arith}
use Rattle.rules.specs.Answers.{Call}
use Rattle.rules.proofs.Tests.{same?}
use Rattle.history.specs.Happened.{Happening, update_committed, empty_committed, only_ended}
use Rattle.history.proofs.Invariant.{View, Fair}
use Rattle.history.proofs.Turns.{Old, row_old, left_old, settles_old, New, Left, Turn, quiet, update_begins, query_begins, relaxed_begins, reads, writes}
use Rattle.history.proofs.Turns.{commits, commits_empty, settles, commits_settled, ends}

-- ---- nobody has the number n, and it was given (or a later one was)
pub record Unknown (n : ℕ) (W : View) : Type 0 where
  pub nobody : (s : ℕ) → W.alive s → W.number s ≢ n
  pub given : n ≤ W.last

module _ (items : ℕ) (W W' : View) (n : ℕ) where
  -- ---- it stays so
  old_unknown : Unknown n W → ((r : ℕ) → W'.alive r → Old items W W' r) → W'.last ≡ W.last → Unknown n W'
  old_unknown U O l =
      record {
        nobody = λ r a e. let o = O r a in U.nobody r o.alive (sym o.number ∙ e);
        given = let a = U.given in omega arith;
      }

  -- the new number is above
  new_unknown : Unknown n W → (s : ℕ) → New items W W' s → Unknown n W'
  new_unknown U s B =
      record {
        nobody = λ r a. go r a (same? r s);
        given = let a = U.given in let b = B.last in omega arith;
      }
    where
      go : (r : ℕ) → W'.alive r → (r ≡ s) ⊎ (r ≢ s) → W'.number r ≢ n
      go r a (inl e) f =
          let g = U.given in
          let b : W'.number r ≡ W'.number s = ap W'.number e in
          let c = B.number in
          omega arith
      go r a (inr d) f = let R = B.rows r d in U.nobody r (R.was a) (sym R.number_is ∙ f)

  pub unknown_on : {c : Call} {h : Happening} → Turn items W W' c h → Unknown n W → Unknown n W'
  unknown_on (quiet A) U = old_unknown U (λ r. row_old items W W' r (A.rows r)) A.last
  unknown_on (update_begins s B q f) U = new_unknown U s B
  unknown_on (query_begins s B q u e) U = new_unknown U s B
  unknown_on (relaxed_begins s B q e) U = new_unknown U s B
  unknown_on (reads m s x v e b A g) U = old_unknown U (λ r. row_old items W W' r (A.rows r)) A.last
  unknown_on (writes m s x v e b P) U = old_unknown U (λ r. row_old items W W' r (P.rows r)) P.last
  unknown_on (commits m s e a u L o f k) U = old_unknown U (left_old items W W' s L) L.last
  unknown_on (commits_empty m s e a u w L o f k) U = old_unknown U (left_old items W W' s L) L.last
  unknown_on (settles m s e B) U = old_unknown U (settles_old items W W' s B) B.last
  unknown_on (commits_settled m s e a u L o f k) U = old_unknown U (left_old items W W' s L) L.last
  unknown_on (ends m s e a L o f k) U = old_unknown U (left_old items W W' s L) L.last

  -- ---- who leaves is unknown
  module _ (F : Fair items W) where
    pub left-unknown : (s : ℕ) → W.number s ≡ n → Left items W W' s → Unknown n W'
    left-unknown s e L =
        record {
          nobody = λ r a f.
              let o = left_old items W W' s L r a in
              F.apart r s o.alive L.alive (λ z. L.gone (subst (λ (m : ℕ). W'.alive m) z a)) (sym o.number ∙ f ∙ sym e);
          given = let b = F.known s L.alive in let l = L.last in omega arith;
        }

    pub over-unknown :
        {c : Call} (k : ℕ) (b w : Bool) → Turn items W W' c (cond b (cond w (update_committed n k) (empty_committed n k)) (only_ended n)) → Unknown n W'
    over-unknown k true true t = committed t
      where
        committed : {c : Call} {j : ℕ} → Turn items W W' c (update_committed n j) → Unknown n W'
        committed (commits m s e a u L o f i) = left-unknown s e L
        committed (commits_settled m s e a u L o f i) = left-unknown s e L
    over-unknown k true false t = emptied t
      where
        emptied : {c : Call} {j : ℕ} → Turn items W W' c (empty_committed n j) → Unknown n W'
        emptied (commits_empty m s e a u w L o f i) = left-unknown s e L
    over-unknown k false w t = ended t
      where
        ended : {c : Call} → Turn items W W' c (only_ended n) → Unknown n W'
        ended (ends m s e a L o f i) = left-unknown s e L
