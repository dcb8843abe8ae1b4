-- What the answers say of links that are not words: of all of them, and of those that one more wait would add.
use Prim.Native.Nat.{ℕ}
use mathlib.Core.Path.{◌≡◌, sym, subst}
use mathlib.Core.Logic.{◌≢◌, ◌⊎◌, inl, inr, ⊎_elim, ◌↔◌}
use mathlib.Core.Bool.{Bool}
use mathlib.Core.List.{List}
use lib.Dec.{T}
use Rattle.rules.specs.Words.{bit}
use Rattle.rules.specs.Waits.{Walk, one, more}
use Rattle.rules.proofs.Tests.{same?}
use Rattle.rules.proofs.Walks.{join, walk_map}
use Rattle.circles.specs.Links.{linked, NoCircle, Leads}
use Rattle.circles.proofs.Within.{first_step}

-- the words have the same links: the same circles
pub no_circle-same :
    (w : List ℕ) (F : ℕ → ℕ → Bool) → ((a b : ℕ) → F a b ≡ linked w a b) → NoCircle w ↔ ((a : ℕ) → Walk F a a → ⊥)
unfolding NoCircle
no_circle-same w F same =
    (λ n a v. n a (walk_map (λ a b e. subst T (same a b) e) v), λ n a v. n a (walk_map (λ a b e. subst T (sym (same a b)) e) v))

-- F has the links of E, but for those from s: a walk along F up to where it comes to s is a walk along E
module _ (E F : ℕ → ℕ → Bool) (s : ℕ) (same : (a b : ℕ) → a ≢ s → F a b ≡ E a b) where
  until : {a b : ℕ} → Walk F a b → (a ≡ s) ⊎ (Walk E a s ⊎ Walk E a b)
  until (one {a} {b} e) = ⊎_elim (λ q. inl q) (λ (d : a ≢ s). inr (inr (one (subst T (same a b d) e)))) (same? a s)
  until (more {a} {b} {c} v e) = go (until v)
    where
      go : (a ≡ s) ⊎ (Walk E a s ⊎ Walk E a b) → (a ≡ s) ⊎ (Walk E a s ⊎ Walk E a c)
      go (inl q) = inl q
      go (inr (inl u)) = inr (inl u)
      go (inr (inr u)) =
          ⊎_elim (λ (q : b ≡ s). inr (inl (subst (λ (x : ℕ). Walk E a x) q u)))
          (λ (d : b ≢ s). inr (inr (more u (subst T (same b c d) e)))) (same? b s)

  -- to s itself one can walk along the one just where one can along the other
  comes : {a : ℕ} → (a ≡ s) ⊎ Walk F a s → (a ≡ s) ⊎ Walk E a s
  comes (inl q) = inl q
  comes (inr v) = ⊎_elim (λ q. inl q) (λ u. inr (⊎_elim (λ x. x) (λ x. x) u)) (until v)

-- s would wait for the slots of `from`, and all others wait as before: s is then on a circle exactly if `from` leads to s
pub closes :
    (w : List ℕ) (F : ℕ → ℕ → Bool) (from s : ℕ) → ((b : ℕ) → F s b ≡ bit from b)
    → ((a b : ℕ) → a ≢ s → F a b ≡ linked w a b) → Walk F s s ↔ Leads w from s
unfolding Leads
closes w F from s new same = (forth, back)
  where
    forth : Walk F s s → Leads w from s
    forth v = let x = first_step v in (x.0, subst T (new x.0) x.1, comes (linked w) F s same x.2)

    back : Leads w from s → Walk F s s
    back (b, t, l) =
        let e : T (F s b) = subst T (sym (new b)) t in
        ⊎_elim (λ (q : b ≡ s). subst (λ (x : ℕ). Walk F s x) q (one e)) (λ v. join (one e) v)
        (comes F (linked w) s (λ a c d. sym (same a c d)) l)
