-- What the serial proof sees of good tables (`seen`), that they are fair, and when a slot is kept.
use Prim.Native.Nat.{ℕ, ◌<◌}
use mathlib.Core.Path.{◌≡◌, sym, ap, ◌∙◌, subst}
use mathlib.Core.Logic.{◌≢◌, ◌⊎◌, inl, inr}
use lib.Dec.{T}
use Rattle.names.specs.declared.Sizes.{Sizes}
use Rattle.rules.specs.Tables.{Tables, last_number, clock, Txn, txn, no_txn, live, by_start, an_update, a_query, a_settled, a_relaxed}
use Rattle.rules.specs.Tables.{lock, holds, holds_shared, holds_exclusive}
use Rattle.rules.specs.Versions.{newest}
use Rattle.rules.specs.Good.{Good}
use Rattle.rules.proofs.Tests.{or_right}
use Rattle.rules.proofs.EqualRows.{live-number, live-query, live-settled}
use Rattle.rules.proofs.RowKinds.{query-starts, settled-starts}
use Rattle.rules.proofs.Decisions.{holder_alone}
use Rattle.history.proofs.Invariant.{View, Fair, Row, Locks, Sees, reader}
use Rattle.history.proofs.Tables.{SameRow, SameHold}
use Rattle.history.proofs.Leaving.{read_at, shown_of}

abbrev pub seen : Sizes → Tables → View
seen S G =
    record {
      current = newest S G.versions;
      last = last_number G.txns;
      clock = clock G.txns;
      alive = λ s. (s < S.slots) × T (live (txn G.txns s));
      number = λ s. (txn G.txns s).number;
      kind = λ s. (txn G.txns s).kind;
      start = λ s. (txn G.txns s).start;
      writes = λ s x. holds_exclusive (lock G.locks x) s;
      holds = λ s x. holds (lock G.locks x) s;
      working = λ x. (lock G.locks x).working;
      snapshot = λ s x. read_at S G.versions (txn G.txns s).start x;
      shown = λ s x. shown_of S G.versions s x;
    }

-- who is no update that writes, and no relaxed query, reads by a start
abbrev Listed : ℕ → Type 0
Listed k = (k ≡ an_update) ⊎ ((k ≡ a_query) ⊎ ((k ≡ a_settled) ⊎ (k ≡ a_relaxed)))

by_kind : (r : Txn) → T (live r) → Listed r.kind → r.kind ≢ an_update → r.kind ≢ a_relaxed → T (by_start r)
by_kind r h (inl e) a b = absurd (a e)
by_kind r h (inr (inl e)) a b = query-starts r (live-query r h e)
by_kind r h (inr (inr (inl e))) a b = settled-starts r (live-settled r h e)
by_kind r h (inr (inr (inr e))) a b = absurd (b e)

pub reads_by_start_lem : (S : Sizes) (G : Tables) → Good S G → (s : ℕ) → reader (seen S G) s → T (by_start (txn G.txns s))
reads_by_start_lem S G g s a = by_kind (txn G.txns s) a.0.1 (g.txn_good s a.0.0).kind_listed a.1 a.2

pub seen_fair : (S : Sizes) (G : Tables) → Good S G → Fair S.items (seen S G)
unfolding holds
seen_fair S G g =
    record {
      known = λ s a. (g.txn_good s a.0).given;
      apart = λ s r a b d. g.distinct s r a.0 b.0 d b.1;
      listed = λ s a. (g.txn_good s a.0).kind_listed;
      low = λ s a. (g.txn_good s a.0.0).reader_start (reads_by_start_lem S G g s a);
      stamps-apart = λ s r a b d.
          g.settled_good.apart s r a.0.0 b.0.0 d (live-settled (txn G.txns s) a.0.1 a.1) (live-settled (txn G.txns r) b.0.1 b.1);
      alone = λ s r x i d w h. d (holder_alone S G g x i s r w h);
      written_held = λ s x w. or_right (holds_shared (lock G.locks x) s) _ w;
    }

-- ---- a slot whose row, locks and reads stay
module _ (S : Sizes) (G G' : Tables) (r : ℕ) where
  pub row_by : SameRow G.txns G'.txns r → Row (seen S G) (seen S G') r
  unfolding live
  row_by R =
      record {
        was = λ a. (a.0, rw R.number_is at a.1);
        lives_on = λ a. (a.0, rw R.number_is a.1);
        number_is = R.number_is;
        kind_is = R.kind_is;
        start_is = R.start_is;
      }

  pub locks_by : ((x : ℕ) → x < S.items → SameHold (lock G.locks x) (lock G'.locks x) r) → Locks S.items (seen S G) (seen S G') r
  locks_by L =
      record {
        still_holds = λ x i h. (L x i).holds_on h;
        same_writes = λ x i. (L x i).writes_on;
        same-working = λ x i w. (L x i).working_on w;
      }

  -- who reads by a start
  pub by_start_lem : Good S G → SameRow G.txns G'.txns r → reader (seen S G') r → (r < S.slots) × T (by_start (txn G'.txns r))
  by_start_lem g R a =
      (a.0.0, by_kind (txn G'.txns r) a.0.1 (subst Listed (sym R.kind_is) (g.txn_good r a.0.0).kind_listed) a.1 a.2)

  pub sees_by :
      Good S G → SameRow G.txns G'.txns r
      → ((x : ℕ) → x < S.items → r < S.slots → T (by_start (txn G'.txns r))
      → read_at S G'.versions (txn G.txns r).start x ≡ read_at S G.versions (txn G.txns r).start x)
      → Sees S.items (seen S G) (seen S G') r
  sees_by g R v x i a =
      ap (λ (m : ℕ). read_at S G'.versions m x) R.start_is ∙ v x i (by_start_lem g R a).0 (by_start_lem g R a).1

-- nobody lives in a free row
pub free_dead : {r : Txn} → r ≡ no_txn → T (live r) → ⊥
free_dead {r} e h = live-number r h (ap (λ (o : Txn). o.number) e)
