-- What is carried along a run: whoever is not before the request is not in its way, and stands behind it.
use Prim.Native.Nat.{ℕ, ◌≤◌, ◌<◌}
use mathlib.Core.Path.{◌≡◌, refl, sym, ap, ◌∙◌, subst}
use mathlib.Core.Logic.{◌≢◌, ◌⊎◌, inl, inr}
use mathlib.Core.Bool.{Bool, true, false}
use mathlib.Core.List.{List}
use native.Mathlib.Omega.{arith}
use lib.Dec.{T, ltb}
use borrow.Author.Tests.{ltb-true, ltb-false}
use Rattle.names.specs.declared.Sizes.{Sizes}
use Rattle.rules.specs.Tables.{Tables, Txn, txn, live, lock, holds_shared}
use Rattle.rules.specs.Waits.{awaits, awaits_on, waiters_on, rank_for, conflicts}
use Rattle.rules.specs.Good.{Good}
use Rattle.rules.specs.Locks.{Asked, wanted}
use Rattle.rules.specs.Step.{with_txns}
use Rattle.rules.specs.Promises.{SameButRank}
use Rattle.rules.proofs.Notes.{noting, Beside, beside_same}
use Rattle.rules.proofs.Tests.{true_is, false_is, same?}
use Rattle.rules.proofs.Grants.{conflicts_fewer}
use Rattle.rules.proofs.EqualRanks.{→awaits, awaits_on→, →awaits_on}
use Rattle.rules.proofs.Noting.{rank-known, rank-last}
use Rattle.rules.proofs.Decisions.{wanted-lock}
use Rattle.line.specs.Served.{Waiting}
use Rattle.line.proofs.Kept.{Kept}

-- ---- a row with another rank
module _ (q r : Txn) (e : SameButRank q r) where
  pub same_number : q.number ≡ r.number
  same_number = ap (λ (w : Txn). w.number) e

  pub same_live : T (live q) → T (live r)
  unfolding live
  same_live h = subst (λ (w : Txn). T (live w)) e h

  pub same_on : (x : ℕ) → T (awaits_on x q) → T (awaits_on x r)
  unfolding awaits_on awaits
  same_on x h = subst (λ (w : Txn). T (awaits_on x w)) e h

-- so the request waits on
pub same_wait :
    (S : Sizes) (G G' : Tables) (a : Asked) (n s x : ℕ) → Waiting S G a n s x → SameButRank (txn G'.txns s) (txn G.txns s)
    → Waiting S G' a n s x
same_wait S G G' a n s x w e =
    record {
      caller =
          record {
            inside = w.caller.inside;
            alive = subst (λ (r : Txn). T (live r)) (sym e) (unfold live in w.caller.alive);
            name = ap (λ (r : Txn). r.number) e ∙ w.caller.name;
          };
      lock_kind = ap (λ (r : Txn). r.awaited_lock) e ∙ w.lock_kind;
      item = ap (λ (r : Txn). r.awaited_item) e ∙ w.item;
    }

-- ---- D holds of the numbers that are before the request of the transaction n, in slot s, for the item x
module _ (S : Sizes) (D : ℕ → Type 0) (a : Asked) (n s x : ℕ) where
  -- slot b bears another transaction, and not one of those
  pub record Outside (G : Tables) (b : ℕ) : Type 0 where
    pub inside : b < S.slots
    pub other : b ≢ s
    pub alive : T (live (txn G.txns b))
    pub out : D (txn G.txns b).number → ⊥

  -- it holds nothing on the item, or the request is to read and it shares the item; and if it waits there it stands behind
  pub record Harmless (G : Tables) (b : ℕ) : Type 0 where
    pub free : T (conflicts (lock G.locks x) (wanted a) b) → ⊥
    pub behind : T (awaits_on x (txn G.txns b)) → (txn G.txns s).rank < (txn G.txns b).rank

  pub record Inv (G : Tables) : Type 0 where
    pub waiting : Waiting S G a n s x
    pub harmless : (b : ℕ) → Outside G b → Harmless G b

  -- ---- notes are made in the rows, which are as they were else
  module _ (G : Tables) (u : List ℕ) (beside : (r : ℕ) → Beside (txn G.txns r) (txn u r)) where
    same : {A : Type 0} (h : Txn → A) → ((r : Txn) (n w i m : ℕ) → h (noting r n w i m) ≡ h r) → (r : ℕ) → h (txn u r) ≡ h (txn G.txns r)
    same h e r = beside_same h e (txn G.txns r) (txn u r) (beside r)

    pub out-beside : (b : ℕ) → Outside (with_txns G u) b → Outside G b
    unfolding live
    out-beside b o =
        record {
          inside = o.inside;
          other = o.other;
          alive = subst T (same live (λ r n w i m. refl) b) o.alive;
          out = λ z. o.out (subst D (sym (same (λ (r : Txn). r.number) (λ r n w i m. refl) b)) z);
        }

    pub wait_beside : Waiting S G a n s x → Waiting S (with_txns G u) a n s x
    unfolding live
    wait_beside w =
        record {
          caller =
              record {
                inside = w.caller.inside;
                alive = subst T (sym (same live (λ r n w i m. refl) s)) w.caller.alive;
                name = same (λ (r : Txn). r.number) (λ r n w i m. refl) s ∙ w.caller.name;
              };
          lock_kind = same (λ (r : Txn). r.awaited_lock) (λ r n w i m. refl) s ∙ w.lock_kind;
          item = same (λ (r : Txn). r.awaited_item) (λ r n w i m. refl) s ∙ w.item;
        }

    pub inv_beside : Inv G → Inv (with_txns G u)
    unfolding awaits_on awaits
    inv_beside I =
        record {
          waiting = wait_beside I.waiting;
          harmless = λ b o.
              let h = I.harmless b (out-beside b o) in
              record {
                free = h.free;
                behind = λ w.
                    let k = h.behind (subst T (same (awaits_on x) (λ r n w i m. refl) b) w) in
                    let p = same (λ (r : Txn). r.rank) (λ r n w i m. refl) s in
                    let q = same (λ (r : Txn). r.rank) (λ r n w i m. refl) b in
                    omega arith;
              };
        }

  -- ---- the request waits on the item
  module _ (G : Tables) (w : Waiting S G a n s x) where
    pub waits_here : T (awaits_on x (txn G.txns s))
    waits_here = →awaits_on x (txn G.txns s) (→awaits (txn G.txns s) (λ e. wanted-lock a (sym w.lock_kind ∙ e))) w.item

    pub rank-within : Good S G → (txn G.txns s).rank ≤ waiters_on S G.txns x
    rank-within g =
        subst (λ (y : ℕ). (txn G.txns s).rank ≤ waiters_on S G.txns y) w.item
        (g.ranks_good.most s w.caller.inside (awaits_on→ x (txn G.txns s) waits_here).0)

  -- who is outside and does not share the item asks behind it
  pub asks-behind :
      (G : Tables) → Good S G → Inv G → (r : ℕ) → Outside G r → (T (holds_shared (lock G.locks x) r) → ⊥)
      → (txn G.txns s).rank < rank_for S G.txns G.locks r x
  asks-behind G g I r o n = go (awaits_on x (txn G.txns r)) refl
    where
      go : (b : Bool) → awaits_on x (txn G.txns r) ≡ b → (txn G.txns s).rank < rank_for S G.txns G.locks r x
      go true e =
          let k = (I.harmless r o).behind (true_is e) in
          let q = rank-known S G.txns G.locks r x (true_is e) in
          omega arith
      go false e =
          let k = rank-within G I.waiting g in
          let q = rank-last S G.txns G.locks r x (false_is e) n in
          omega arith

  -- ---- slot r calls, and the others are kept
  module _ (G G' : Tables) (g' : Good S G') (I : Inv G) (r : ℕ) (apart : s ≢ r) (k : Kept S G G' x r) where
    waits_on : Waiting S G' a n s x
    waits_on = same_wait S G G' a n s x I.waiting (k.rows s I.waiting.caller.inside apart)

    kept_harmless : (b : ℕ) → b ≢ r → Outside G' b → Harmless G' b
    kept_harmless b d o =
        record {
          free = λ c. H.free (conflicts_fewer (wanted a) b (lock G.locks x) (lock G'.locks x) (k.locks b d) c);
          behind = λ u. go u (ltb (txn G'.txns s).rank (txn G'.txns b).rank) refl;
        }
      where
        e : SameButRank (txn G'.txns b) (txn G.txns b)
        e = k.rows b o.inside d

        H : Harmless G b
        H = I.harmless b (record { inside = o.inside; other = o.other; alive = same_live (txn G'.txns b) (txn G.txns b) e o.alive; out = λ z. o.out (subst D (sym (same_number (txn G'.txns b) (txn G.txns b) e)) z) })

        go : T (awaits_on x (txn G'.txns b)) → (c : Bool) → ltb (txn G'.txns s).rank (txn G'.txns b).rank ≡ c → (txn G'.txns s).rank < (txn G'.txns b).rank
        go u true c = ltb-true (txn G'.txns s).rank (txn G'.txns b).rank c
        go u false c =
            let l : (txn G'.txns b).rank ≤ (txn G'.txns s).rank = ltb-false (txn G'.txns s).rank (txn G'.txns b).rank c in
            let m = g'.ranks_good.apart x b s o.inside I.waiting.caller.inside o.other u (waits_here G' waits_on) in
            let p = k.order s b I.waiting.caller.inside o.inside apart d (waits_here G I.waiting) (same_on (txn G'.txns b) (txn G.txns b) e x u) (omega arith) in
            let q = H.behind (same_on (txn G'.txns b) (txn G.txns b) e x u) in
            absurd (omega arith)

    pub carried : (Outside G' r → Harmless G' r) → Inv G'
    carried f = record { waiting = waits_on; harmless = λ b o. go b o (same? b r) }
      where
        go : (b : ℕ) → Outside G' b → (b ≡ r) ⊎ (b ≢ r) → Harmless G' b
        go b o (inl e) = subst (Harmless G') (sym e) (f (subst (Outside G') e o))
        go b o (inr d) = kept_harmless b d o
