-- A text put out part by part, from the start of a buffer on: what stands of it, and what is left.
use Prim.Native.Nat.{ℕ, ◌+◌, ◌≤◌}
use mathlib.Core.Path.{◌≡◌, refl, sym, ap, ◌∙◌}
use mathlib.Core.List.{List, [], ◌++◌, append-nil, append_assoc}
use native.Mathlib.Omega.{arith}
use lib.ListN.{length, take, drop, take-append-drop}
use lib.Seq.{take_at}
use Rattle.texts.specs.Written.{written, Wrote}
use Rattle.texts.proofs.Written.{wrote_more}

-- `after` is `before` with the text written over it but for the rest
pub record Putting (text rest before after : List ℕ) (used : ℕ) : Type 0 where
  pub done : List ℕ
  pub wrote : Wrote before 0 done after used
  pub total : done ++ rest ≡ text

pub putting_first : (text l : List ℕ) → Putting text text l l 0
unfolding written
putting_first text l = record { done = []; wrote = record { bytes = sym (take-append-drop 0 l); index = refl }; total = refl }

-- a part more
pub putting_on : {text rest part more l m n : List ℕ} {used next : ℕ} → used ≤ length l → rest ≡ part ++ more → Putting text rest l m used → Wrote m used part n next → Putting text more l n next
putting_on {part = part} {more} h e p w =
    record {
      done = p.done ++ part;
      wrote = wrote_more (omega (arith, h, p.wrote.index)) p.wrote w;
      total = append_assoc p.done part more ∙ ap (λ (x : List ℕ). p.done ++ x) (sym e) ∙ p.total;
    }

-- nothing is left
pub putting_end : {text rest l m : List ℕ} {used : ℕ} → rest ≡ [] → Putting text rest l m used → Wrote l 0 text m used
putting_end e p = rw (sym (append-nil p.done) ∙ ap (λ (x : List ℕ). p.done ++ x) (sym e) ∙ p.total) at p.wrote

-- what is written from the start on stands at the front
pub front : {text l m : List ℕ} {used : ℕ} → Wrote l 0 text m used → take used m ≡ text
unfolding written
front {text} {l} {m} {used} w = rw w.bytes (take_at text (drop (0 + length text) l) used (omega (arith, w.index)))
