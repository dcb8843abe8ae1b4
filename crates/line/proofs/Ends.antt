-- A begin and an end leave those outside harmless: who is new holds nothing, and who ends is in nobody's way.
use Prim.Native.Nat.{ℕ, ◌+◌, ◌<◌}
use mathlib.Core.Path.{◌≡◌, refl, sym, ap, ◌∙◌, subst}
use mathlib.Core.Logic.{◌≢◌}
use mathlib.Core.List.{List}
use native.Mathlib.Omega.{arith}
use lib.ListN.{set, length, length-set}
use lib.Dec.{T}
use Rattle.names.specs.declared.Sizes.{Sizes}
use Rattle.names.specs.Layout.{last_number_at, clock_at}
use Rattle.rules.specs.Tables.{Tables, tables, txn_words, last_number, clock, Txn, txn, set_txn, new_txn, no_txn, live, lock, release}
use Rattle.rules.specs.Waits.{closed_up}
use Rattle.rules.specs.Good.{Good}
use Rattle.rules.specs.Locks.{Asked, wanted}
use Rattle.rules.specs.Words.{without_bit}
use Rattle.rules.specs.Step.{begun, forgotten, committed_under, committed, settled_committed, ended, aborted, settled_aborted}
use Rattle.rules.specs.Conditions.{Free}
use Rattle.rules.proofs.EqualRows.{holder, holder_live}
use Rattle.rules.proofs.EqualRanks.{awaits→, awaits_on→}
use Rattle.rules.proofs.Views.{txn-set_txn, txn-set_txn-other, txn-top, lock-release}
use Rattle.rules.proofs.Walks.{conflicts→holds}
use Rattle.rules.proofs.Carried.{NoMore}
use Rattle.rules.proofs.Leaves.{released_fewer}
use Rattle.rules.proofs.Noting.{closed-length, closed-row}
use Rattle.rules.proofs.Joined.{forgotten-length, forgotten-row}
use Rattle.line.proofs.Kept.{same-locks, rows-kept, sets_kept, left-kept}
use Rattle.line.proofs.Outsiders.{Outside, Harmless, Inv, carried}

-- ---- on the good tables G, in which the transaction n waits, in slot s, for the item x
module _
    (S : Sizes) (D : ℕ → Type 0) (a : Asked) (n s x : ℕ) (G : Tables) (g : Good S G) (I : Inv S D a n s x G) (known : x < S.items)
  where
    abbrev t : List ℕ
    t = G.txns

    abbrev l : List ℕ
    l = G.locks

    abbrev J : Tables → Type 0
    J = Inv S D a n s x

    abbrev O : Tables → ℕ → Type 0
    O = Outside S D a n s x

    abbrev H : Tables → ℕ → Type 0
    H = Harmless S D a n s x

    -- ---- the row is gone
    gone : (G' : Tables) (r : ℕ) → txn G'.txns r ≡ no_txn → O G' r → H G' r
    gone G' r e o = absurd (unfold live in (subst (λ (w : Txn). T (live w)) e o.alive))

    -- ---- a begin
    module _ (r : ℕ) (F : Free S t r) where
      begin_apart : s ≢ r
      begin_apart e = F.free (subst (λ (m : ℕ). T (live (txn t m))) e I.waiting.caller.alive)

      pub begins : (k q : ℕ) → Good S (begun k q r G) → J (begun k q r G)
      unfolding begun
      begins k q g' =
          carried S D a n s x G (begun k q r G) g' I r begin_apart
          (rows-kept S G (begun k q r G) g x r F.inside (λ b d. txn-set_txn-other u r Q b d ∙ txn-top t last_number_at m b (omega arith)) (λ b d. same-locks (lock l x) b))
          (λ o. record {
            free = λ c. F.free (holder_live (txn t r) (holder S t (lock l x) (g.lock_good x known) r (conflicts→holds (lock l x) (wanted a) r c)).1).0;
            behind = λ v. absurd (awaits→ (txn (set_txn u r Q) r) (awaits_on→ x (txn (set_txn u r Q) r) v).0 (ap (λ (w : Txn). w.awaited_lock) (txn-set_txn u r Q S (length-set t last_number_at m ∙ g.txns_exact) F.inside)));
          })
        where
          m : ℕ
          m = last_number t + 1

          u : List ℕ
          u = set t last_number_at m

          Q : Txn
          Q = new_txn m k q

    -- ---- an end: the row of slot r goes, and the others are as they were
    ends : (r : ℕ) → r < S.slots → s ≢ r → (t' l' v : List ℕ) → length t' ≡ txn_words S → ((b : ℕ) → b ≢ r → txn t' b ≡ txn t b)
        → ((b : ℕ) → b ≢ r → NoMore b (lock l x) (lock l' x)) → let G' = tables (set_txn t' r no_txn) l' v in Good S G' → J G'
    ends r i d t' l' v size rows m g' =
        let G' = tables (set_txn t' r no_txn) l' v in
        carried S D a n s x G G' g' I r d
        (rows-kept S G G' g x r i (λ b e. txn-set_txn-other t' r no_txn b e ∙ rows b e) m)
        (gone G' r (txn-set_txn t' r no_txn S size i))

    released : (r b : ℕ) → NoMore b (lock l x) (lock (release S r l) x)
    released r b = subst (NoMore b (lock l x)) (sym (lock-release S r l g.locks_exact x known)) (released_fewer r (lock l x) b)

    pub commits : (r : ℕ) → r < S.slots → s ≢ r → Good S (committed S r G) → J (committed S r G)
    unfolding committed_under committed
    commits r i d g' =
        ends r i d (set t clock_at (clock t + 1)) (release S r l) _ (length-set t clock_at (clock t + 1) ∙ g.txns_exact) (λ b e. txn-top t clock_at (clock t + 1) b (omega arith))
        (λ b e. released r b) g'

    -- one past its writing, either way
    pub settled-commits : (r : ℕ) → r < S.slots → s ≢ r → Good S (settled_committed S r G) → J (settled_committed S r G)
    unfolding committed_under settled_committed
    settled-commits r i d g' = ends r i d t (release S r l) _ g.txns_exact (λ b e. refl) (λ b e. released r b) g'

    pub settled_aborts : (r : ℕ) → r < S.slots → s ≢ r → Good S (settled_aborted S r G) → J (settled_aborted S r G)
    unfolding settled_aborted
    settled_aborts r i d g' = ends r i d t (release S r l) _ g.txns_exact (λ b e. refl) (λ b e. released r b) g'

    pub query-ends : (r : ℕ) → r < S.slots → s ≢ r → Good S (ended S r G) → J (ended S r G)
    unfolding ended
    query-ends r i d g' =
        carried S D a n s x G (ended S r G) g' I r d
        (sets_kept S G (ended S r G) g x r i
        (λ b j e. (without_bit (txn t b).later_for r, txn-set_txn-other (forgotten S r t) r no_txn b e ∙ forgotten-row S r t g.txns_exact b j))
        (λ b e. same-locks (lock l x) b))
        (gone (ended S r G) r (txn-set_txn (forgotten S r t) r no_txn S (forgotten-length S r t ∙ g.txns_exact) i))

    pub aborts : (r : ℕ) → r < S.slots → s ≢ r → Good S (aborted S r G) → J (aborted S r G)
    unfolding aborted
    aborts r i d g' =
        carried S D a n s x G (aborted S r G) g' I r d
        (left-kept S G (aborted S r G) g x r i
        (λ b j e. txn-set_txn-other (closed_up S t r) r no_txn b e ∙ closed-row S t r g.txns_exact b j)
        (λ h. awaits→ (txn (set_txn (closed_up S t r) r no_txn) r) h (ap (λ (w : Txn). w.awaited_lock) free)) (λ b e. released r b))
        (gone (aborted S r G) r free)
      where
        free : txn (set_txn (closed_up S t r) r no_txn) r ≡ no_txn
        free = txn-set_txn (closed_up S t r) r no_txn S (closed-length S t r ∙ g.txns_exact) i
