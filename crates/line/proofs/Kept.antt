-- What a call leaves of the transactions that do not make it: their rows but for the ranks, at most the locks that they held on the item
-- x, and their order in its line.
use Prim.Native.Nat.{ℕ, ◌<◌}
use mathlib.Core.Path.{◌≡◌, refl, sym, ap, ◌∙◌, subst}
use mathlib.Core.Logic.{◌≢◌, inl}
use mathlib.Core.List.{List}
use lib.Dec.{T}
use Rattle.names.specs.declared.Sizes.{Sizes}
use Rattle.rules.specs.Tables.{Tables, Txn, txn, with_rank, with_later_for, Lock, lock, set_lock, exclusive_lock, no_lock}
use Rattle.rules.specs.Waits.{awaits, awaits_on, rank_for, raised, noted}
use Rattle.rules.specs.Good.{Good}
use Rattle.rules.specs.Changed.{leaving}
use Rattle.rules.specs.Promises.{SameButRank}
use Rattle.rules.proofs.Carried.{NoMore}
use Rattle.rules.proofs.EqualRanks.{→awaits, awaits_on→}
use Rattle.rules.proofs.Views.{awaiting, lock-set_lock-other}
use Rattle.rules.proofs.Walks.{ahead→, →ahead}
use Rattle.rules.proofs.Lines.{awaits_on-rank, left-ahead}
use Rattle.rules.proofs.Joins.{come_ahead}
use Rattle.rules.proofs.Noting.{rank-least, rank_most, noted_there, noted_here}
use Rattle.rules.proofs.Waiting.{same_row, but_rank, but_sets}

-- from the tables G to the tables G' at most slot r changed more than that
pub record Kept (S : Sizes) (G G' : Tables) (x r : ℕ) : Type 0 where
  pub rows : (b : ℕ) → b < S.slots → b ≢ r → SameButRank (txn G'.txns b) (txn G.txns b)
  pub locks : (b : ℕ) → b ≢ r → NoMore b (lock G.locks x) (lock G'.locks x)
  -- who stands before another stood before it
  pub order :
      (a b : ℕ) → a < S.slots → b < S.slots → a ≢ r → b ≢ r → T (awaits_on x (txn G.txns a)) → T (awaits_on x (txn G.txns b))
      → (txn G'.txns b).rank < (txn G'.txns a).rank → (txn G.txns b).rank < (txn G.txns a).rank

-- ---- the locks
pub same-locks : (h : Lock) (b : ℕ) → NoMore b h h
same-locks h b = record { shared = λ u. u; exclusive = λ u. u }

-- that of another item is written
pub set_other : (l : List ℕ) (x y : ℕ) (h : Lock) → x ≢ y → (b : ℕ) → NoMore b (lock l x) (lock (set_lock l y h) x)
set_other l x y h d b = subst (NoMore b (lock l x)) (sym (lock-set_lock-other l y h x d)) (same-locks (lock l x) b)

-- ---- the rows
module _ (S : Sizes) (G G' : Tables) (g : Good S G) (x r : ℕ) (inside : r < S.slots) where
  -- all others are as they were
  pub rows-kept :
      ((b : ℕ) → b ≢ r → txn G'.txns b ≡ txn G.txns b) → ((b : ℕ) → b ≢ r → NoMore b (lock G.locks x) (lock G'.locks x))
      → Kept S G G' x r
  rows-kept rows locks =
      record {
        rows = λ b i d. same_row (rows b d);
        locks = locks;
        order = λ a b i j d e h k u. subst (λ (w : Txn). (txn G.txns b).rank < w.rank) (rows a d) (subst (λ (w : Txn). w.rank < (txn G'.txns a).rank) (rows b e) u);
      }

  -- all others are as they were, but for their sets
  pub sets_kept :
      ((b : ℕ) → b < S.slots → b ≢ r → (m : ℕ) × (txn G'.txns b ≡ with_later_for (txn G.txns b) m))
      → ((b : ℕ) → b ≢ r → NoMore b (lock G.locks x) (lock G'.locks x)) → Kept S G G' x r
  sets_kept rows locks =
      record {
        rows = λ b i d. but_sets (txn G.txns b) (rows b i d).1;
        locks = locks;
        order = λ a b i j d e h k u.
            subst (λ (w : ℕ). (txn G.txns b).rank < w) (ap (λ (w : Txn). w.rank) (rows a i d).1)
            (subst (λ (w : ℕ). w < (txn G'.txns a).rank) (ap (λ (w : Txn). w.rank) (rows b j e).1) u);
      }

  -- r left its line, if it stood in one
  pub left-kept :
      ((b : ℕ) → b < S.slots → b ≢ r → txn G'.txns b ≡ with_rank (txn G.txns b) (leaving G.txns r (txn G.txns b)))
      → (T (awaits (txn G'.txns r)) → ⊥) → ((b : ℕ) → b ≢ r → NoMore b (lock G.locks x) (lock G'.locks x)) → Kept S G G' x r
  left-kept rows idle locks =
      record {
        rows = λ b i d. but_rank (txn G.txns b) (rows b i d);
        locks = locks;
        order = λ a b i j d e h k u.
            (ahead→ x exclusive_lock (txn G.txns a).rank (txn G.txns b)
            (left-ahead S G.txns G'.txns G.locks r inside rows idle g.ranks_good x exclusive_lock a b i j d h
            (→ahead x exclusive_lock (txn G'.txns a).rank (txn G'.txns b)
            (subst T (sym (ap (awaits_on x) (rows b j e) ∙ awaits_on-rank x (leaving G.txns r (txn G.txns b)) (txn G.txns b))) k) u (inl refl)))).1;
      }

-- r came into the line of the item y
module _ (S : Sizes) (G : Tables) (g : Good S G) (x r k y : ℕ) (inside : r < S.slots) (some : k ≢ no_lock) (idle : T (awaits (txn G.txns r)) → ⊥) where
  abbrev t : List ℕ
  t = G.txns

  abbrev t' : List ℕ
  t' = noted S t G.locks r k y

  new : T (awaits_on y (txn t r)) → ⊥
  new h = idle (awaits_on→ y (txn t r) h).0

  there : (b : ℕ) → b < S.slots → b ≢ r → txn t' b ≡ with_rank (txn t b) (raised y (rank_for S t G.locks r y) (txn t b))
  there = noted_there S t G.locks r k y new g.txns_exact

  here : txn t' r ≡ awaiting (txn t r) k y (rank_for S t G.locks r y)
  here = noted_here S t G.locks r k y new g.txns_exact inside

  pub came_kept : (v : List ℕ) → Kept S G (record { txns = noted S G.txns G.locks r k y; locks = G.locks; versions = v }) x r
  came_kept v =
      record {
        rows = λ b i d. but_rank (txn t b) (there b i d);
        locks = λ b d. same-locks (lock G.locks x) b;
        order = λ a b i j d e h w u.
            (ahead→ x exclusive_lock (txn t a).rank (txn t b)
            (come_ahead S t t' G.locks r y (rank_for S t G.locks r y) inside there idle (→awaits (txn t' r) (λ e. some (sym (ap (λ (w : Txn). w.awaited_lock) here) ∙ e)))
            (ap (λ (w : Txn). w.awaited_item) here) (ap (λ (w : Txn). w.rank) here) g.ranks_good (rank-least S t G.locks r y new) (rank_most S t G.locks r y new)
            x exclusive_lock a b i j d e h
            (→ahead x exclusive_lock (txn t' a).rank (txn t' b)
            (subst T (sym (ap (awaits_on x) (there b j e) ∙ awaits_on-rank x (raised y (rank_for S t G.locks r y) (txn t b)) (txn t b))) w) u (inl refl)))).1;
      }
