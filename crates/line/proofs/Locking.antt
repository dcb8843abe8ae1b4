-- What a grant to a slot leaves: its wait is cleared, a lock may change, and those outside stay harmless if the slot is.
use Prim.Native.Nat.{ℕ, ◌<◌}
use mathlib.Core.Path.{◌≡◌, sym, ap, ◌∙◌, subst}
use mathlib.Core.Logic.{◌≢◌, ◌⊎◌, inl, inr}
use mathlib.Core.List.{List}
use lib.Dec.{T}
use Rattle.names.specs.declared.Sizes.{Sizes}
use Rattle.rules.specs.Tables.{Tables, tables, Txn, txn, live, no_lock, Lock, lock, set_lock}
use Rattle.rules.specs.Waits.{awaits, awaits_on}
use Rattle.rules.specs.Good.{Good}
use Rattle.rules.specs.Locks.{Asked, wanted}
use Rattle.rules.specs.Step.{cleared, locked, with_txns}
use Rattle.rules.proofs.Tests.{same?}
use Rattle.rules.proofs.Carried.{NoMore}
use Rattle.rules.proofs.EqualRanks.{awaits_on→}
use Rattle.rules.proofs.Views.{awaiting, lock-set_lock}
use Rattle.rules.proofs.Grants.{conflicts_fewer}
use Rattle.rules.proofs.Waited.{cleared_here, cleared_there, cleared-idle}
use Rattle.line.proofs.Kept.{Kept, same-locks, set_other, left-kept}
use Rattle.line.proofs.Outsiders.{Outside, Harmless, Inv, carried}

-- ---- on the good tables G, in which the transaction n waits, in slot s, for the item x
module _
    (S : Sizes) (D : ℕ → Type 0) (a : Asked) (n s x : ℕ) (G : Tables) (g : Good S G) (I : Inv S D a n s x G) (known : x < S.items)
  where
    abbrev t : List ℕ
    t = G.txns

    abbrev l : List ℕ
    l = G.locks

    abbrev J : Tables → Type 0
    J = Inv S D a n s x

    abbrev O : Tables → ℕ → Type 0
    O = Outside S D a n s x

    abbrev H : Tables → ℕ → Type 0
    H = Harmless S D a n s x

    -- ---- what a slot r outside, that calls, holds and awaits afterwards
    -- it awaits nothing, bears the same number and holds no more
    pub no_more : (G' : Tables) (r : ℕ) → (txn G'.txns r).number ≡ (txn t r).number → (T (live (txn G'.txns r)) → T (live (txn t r)))
        → (T (awaits (txn G'.txns r)) → ⊥) → NoMore r (lock l x) (lock G'.locks x) → O G' r → H G' r
    no_more G' r e v idle m o =
        record {
          free = λ c.
              (I.harmless r (record { inside = o.inside; other = o.other; alive = v o.alive; out = λ z. o.out (subst D (sym e) z) })).free
              (conflicts_fewer (wanted a) r (lock l x) (lock G'.locks x) m c);
          behind = λ u. absurd (idle (awaits_on→ x (txn G'.txns r) u).0);
        }

    -- ---- a grant to slot r: its wait is cleared, and the lock of item y is h'
    module _ (r : ℕ) (inside : r < S.slots) where
      abbrev u : List ℕ
      u = cleared S t r

      row : txn (cleared S t r) r ≡ awaiting (txn t r) no_lock 0 0
      row = cleared_here S t g.txns_exact r inside

      clears : (l' : List ℕ) → ((b : ℕ) → b ≢ r → NoMore b (lock l x) (lock l' x)) → Kept S G (tables (cleared S t r) l' G.versions) x r
      clears l' m =
          left-kept S G (tables u l' G.versions) g x r inside (cleared_there S t g.txns_exact r inside) (cleared-idle S t g.txns_exact r inside) m

      -- the caller is as it was outside, and holds no more
      pub as_before : (l' : List ℕ) → NoMore r (lock l x) (lock l' x) → let G' = tables (cleared S t r) l' G.versions in O G' r → H G' r
      as_before l' m = no_more (tables u l' G.versions) r (ap (λ (w : Txn). w.number) row) (λ h. unfold live in (subst (λ (w : Txn). T (live w)) row h)) (cleared-idle S t g.txns_exact r inside) m

      -- no lock changes
      pub clears_only : s ≢ r → Good S (with_txns G (cleared S t r)) → J (with_txns G (cleared S t r))
      clears_only d g' = carried S D a n s x G (with_txns G u) g' I r d (clears l (λ b e. same-locks (lock l x) b)) (as_before l (same-locks (lock l x) r))

      module _ (y : ℕ) (h' : Lock) (there : y < S.items) (others : (b : ℕ) → b ≢ r → NoMore b (lock l y) h') where
        pub same_item : x ≡ y → lock (set_lock l y h') x ≡ h'
        same_item e = ap (lock (set_lock l y h')) e ∙ lock-set_lock l y h' S g.locks_exact there

        fewer : (b : ℕ) → b ≢ r → NoMore b (lock l x) (lock (set_lock l y h') x)
        fewer b d = go (same? x y)
          where
            go : (x ≡ y) ⊎ (x ≢ y) → NoMore b (lock l x) (lock (set_lock l y h') x)
            go (inl e) = subst (NoMore b (lock l x)) (sym (same_item e)) (subst (λ (z : ℕ). NoMore b (lock l z) h') (sym e) (others b d))
            go (inr n) = set_other l x y h' n b

        -- the caller must be harmless where the lock is that of the item x
        pub locks : s ≢ r → Good S (locked S r y h' G) → (x ≡ y → O (locked S r y h' G) r → H (locked S r y h' G) r) → J (locked S r y h' G)
        unfolding locked
        locks d g' own = carried S D a n s x G (locked S r y h' G) g' I r d (clears (set_lock l y h') fewer) (λ o. go o (same? x y))
          where
            go : O (locked S r y h' G) r → (x ≡ y) ⊎ (x ≢ y) → H (locked S r y h' G) r
            go o (inl e) = own e o
            go o (inr n) = as_before (set_lock l y h') (set_other l x y h' n r) o

        -- a caller outside afterwards was outside before
        pub was-out : O (locked S r y h' G) r → O G r
        unfolding locked live
        was-out o =
            record {
              inside = inside;
              other = o.other;
              alive = subst (λ (w : Txn). T (live w)) row o.alive;
              out = λ z. o.out (subst D (sym (ap (λ (w : Txn). w.number) row)) z);
            }

        -- and awaits nothing now
        pub idle_now : T (awaits_on x (txn (locked S r y h' G).txns r)) → ⊥
        unfolding locked
        idle_now v = cleared-idle S t g.txns_exact r inside (awaits_on→ x (txn u r) v).0

        pub lock_now : x ≡ y → lock (locked S r y h' G).locks x ≡ h'
        unfolding locked
        lock_now e = same_item e
