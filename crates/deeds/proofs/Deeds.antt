-- Each deed that begins, reads, writes or waits from what its parts write: r, t', l' and v' are the answer and the tables afterwards.
use Prim.Native.Nat.{ℕ, suc, ◌+◌, ◌≤◌, ◌<◌}
use mathlib.Core.Path.{◌≡◌, sym, ap, ◌∙◌}
use mathlib.Core.List.{List}
use lib.ListN.{set}
use lib.Bits.{bit_or, or_zero_l}
use Rattle.names.specs.Sizes.{base}
use Rattle.names.specs.Layout.{last_number_at}
use Rattle.names.specs.Answers.{refusal, numbered, found, plain}
use Rattle.names.specs.declared.Answer.{Answer}
use Rattle.names.specs.declared.Slot.{Slot}
use Rattle.names.specs.declared.Item.{Item}
use Rattle.names.specs.declared.Stamp.{Stamp}
use Rattle.rules.specs.Tables.{Tables, tables, last_number, set_txn, new_txn, reader_in, Lock, lock, have_read}
use Rattle.rules.specs.Waits.{noted}
use Rattle.rules.specs.Versions.{versions_of, newest, hidden_now, place, choice}
use Rattle.rules.specs.Good.{Good}
use Rattle.rules.specs.Answers.{Outcome, outcome, Wait, Deed, Waits, Begins, ReadsVersion, ReadsOwn, ReadsNewest, TakesShared, Replaces, TakesExclusive}
use Rattle.rules.specs.Step.{done, begun, counted, cleared, joined, asking_joins, grant_joins, locked, locked_anew, replaced, shared_too, taken, version_read, read_noted}
use Rattle.ranks.specs.Lines.{RanksSmall}
use Rattle.ranks.proofs.Ranks.{ranks-small}
use Rattle.choices.proofs.Handed.{good-least}
use Rattle.cells.proofs.Others.{lock_slots}
use Rattle.deeds.specs.Asked.{Lockable, HasNewest, GrantedTo}

-- the deed that was told
pub told : (G : Tables) {d e : Deed} {o : Outcome} → d ≡ e → o ≡ done base e G → o ≡ done base d G
told G {d} {e} {o} p q = q ∙ ap (λ (d : Deed). done base d G) (sym p)

-- on good tables
pub lockable : (G : Tables) → Good base G → (s x : ℕ) → s < base.slots → x < base.items → Lockable G.txns G.locks s x
lockable G g s x i k = record { txns_exact = g.txns_exact; locks_exact = g.locks_exact; inside = i; known = k }

pub waitable : (G : Tables) → Good base G → (s x : ℕ) → s < base.slots → x < base.items → Lockable G.txns G.locks s x × RanksSmall G.txns
waitable G g s x i k = (lockable G g s x i k, ranks-small G g)

pub has_newest : (G : Tables) → Good base G → (x : ℕ) → x < base.items → HasNewest G.versions x
has_newest G g x k = record { versions_exact = g.versions_exact; known = k; some = good-least G g x k }

pub holder_inside : (G : Tables) → Good base G → (x : ℕ) → x < base.items → (lock G.locks x).exclusive ≤ base.slots
holder_inside G g x k = (lock_slots G.txns G.locks G.versions g x k).exclusive

module _ (t l v : List ℕ) where
  pub begins-done :
      (s : Slot) (k : ℕ) (q : Stamp) {n : ℕ} {r : Answer} {t' : List ℕ} → n ≡ last_number t + 1
      → t' ≡ set_txn (set t last_number_at n) s.0 (new_txn n k q.0) → r ≡ numbered n → outcome r t' l v ≡ done base (Begins s k q) (tables t l v)
  unfolding done begun
  begins-done s k q en et er = rw (er, et, en)

  pub waits-done :
      (s : Slot) (k : ℕ) (x : Item) {m : ℕ} {r : Answer} {u t' : List ℕ} → m ≡ asking_joins base t k x.0 → u ≡ noted base t l s.0 k x.0
      → t' ≡ joined u s.0 m → r ≡ refusal Wait → outcome r t' l v ≡ done base (Waits s k x) (tables t l v)
  unfolding done
  waits-done s k x em eu et er = rw (er, et, eu, em)

  pub version_done :
      (s : Slot) (x : Item) {w j : ℕ} {r : Answer} {u t' : List ℕ} → w ≡ (choice (reader_in t s.0) (versions_of base v x.0)).value
      → j ≡ suc (place (reader_in t s.0) (versions_of base v x.0)) → u ≡ read_noted t l s.0 x.0 → t' ≡ counted u s.0 j → r ≡ found w j
      → outcome r t' l v ≡ done base (ReadsVersion s x) (tables t l v)
  unfolding done version_read
  version_done s x ew ej eu et er = rw (er, et, eu, ew, ej)

  pub own_done :
      (s : Slot) (x : Item) {w : ℕ} {r : Answer} {t' : List ℕ} → t' ≡ cleared base t s.0 → w ≡ (lock l x.0).working → r ≡ found w 0
      → outcome r t' l v ≡ done base (ReadsOwn s x) (tables t l v)
  unfolding done
  own_done s x et ew er = rw (er, et, ew)

  pub newest-done :
      (s : Slot) (x : Item) {w : ℕ} {r : Answer} {t' : List ℕ} → t' ≡ cleared base t s.0 → w ≡ newest base v x.0 → r ≡ found w 1
      → outcome r t' l v ≡ done base (ReadsNewest s x) (tables t l v)
  unfolding done
  newest-done s x et ew er = rw (er, et, ew)

  pub replaced-done :
      (s : Slot) (x : Item) {h : Lock} {t' l' : List ℕ} → GrantedTo s.0 x.0 h t l t' l' → (w : ℕ) {r : Answer} → h ≡ replaced (lock l x.0) w → r ≡ plain
      → outcome r t' l' v ≡ done base (Replaces s x w) (tables t l v)
  unfolding done locked
  replaced-done s x g w eh er = rw (er, g.txns, g.locks, eh)

  -- a further lock, by the sets m that its taker joins
  module _ (s : Slot) (x : Item) {h : Lock} {m : ℕ} {t' l' : List ℕ} (g : GrantedTo s.0 x.0 h (joined t s.0 m) l t' l') where
    pub shared-done :
        {w : ℕ} {r : Answer} → h ≡ shared_too (lock l x.0) s.0 → m ≡ hidden_now base v x.0 → w ≡ newest base v x.0 → r ≡ found w 1
        → outcome r t' l' v ≡ done base (TakesShared s x) (tables t l v)
    unfolding done locked_anew locked grant_joins asking_joins
    shared-done eh em ew er = rw (er, ew, g.txns, g.locks, eh, em, or_zero_l (hidden_now base v x.0))

    pub taken-done :
        (w : ℕ) {a b : ℕ} {r : Answer} → h ≡ taken (lock l x.0) s.0 w → m ≡ bit_or a b → a ≡ have_read base t x.0 → b ≡ hidden_now base v x.0 → r ≡ plain
        → outcome r t' l' v ≡ done base (TakesExclusive s x w) (tables t l v)
    unfolding done locked_anew locked grant_joins asking_joins
    taken-done w eh em ea eb er = rw (er, g.txns, g.locks, eh, em, ea, eb)
