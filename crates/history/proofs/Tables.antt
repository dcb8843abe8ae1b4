-- Laws of tables that belong to the crate `rules`: rows and locks that others keep, and fresh values.
use Prim.Native.Nat.{ℕ, suc, ◌+◌, ◌≤◌, ◌<◌}
use mathlib.Core.Path.{◌≡◌, refl, sym, ap, ◌∙◌, subst}
use mathlib.Core.Logic.{◌≢◌, ◌⊎◌, inl, inr}
use mathlib.Core.Bool.{Bool, true, false, ◌||◌, cond}
use mathlib.Core.List.{List}
use native.Mathlib.Omega.{arith}
use lib.ListN.{length, get_or, set, length-set}
use lib.Seq.{get_or-set_same, get_or-set_other}
use lib.Dec.{T, eqb, ltb, eqb→eq, eqb-zero-suc}
use borrow.Author.Tests.{ne_eqb, eqb-true, ltb-true, ltb-false}
use Rattle.names.specs.declared.Sizes.{Sizes}
use Rattle.rules.specs.Words.{bit, with_bit, without_bit}
use Rattle.rules.specs.Tables.{Tables, txn_words, last_number, clock, Txn, txn, new_txn, with_rank}
use Rattle.rules.specs.Tables.{Lock, lock, holds, holds_shared, holds_exclusive, released, release, unshared, fresh}
use Rattle.rules.specs.Versions.{no_version, versions_from, versions_in, versions_of, newest}
use Rattle.rules.specs.Waits.{awaits_on, rank_for, raised, noted, closed_up}
use Rattle.rules.specs.Good.{Good}
use Rattle.rules.specs.Changed.{leaving}
use Rattle.rules.specs.Step.{shared_too, replaced, taken, begun, counted, cleared, joined, read_noted}
use Rattle.rules.proofs.Tests.{or_cases, or_left, or_right, is_false, true_is, false_is, same?}
use Rattle.rules.proofs.Bits.{with_bit_here, with_bit_there, without_bit_there}
use Rattle.rules.proofs.Views.{awaiting, last_number-set_txn, clock-set_txn, txn-set_txn, txn-set_txn-other, txn-top, lock-release}
use Rattle.rules.proofs.Counting.{counted_same, counted-last, counted-clock}
use Rattle.rules.proofs.Joined.{joined_same, joined-last, joined-clock}
use Rattle.rules.proofs.ReadNoted.{read_same, read-last, read-clock}
use Rattle.rules.proofs.Noting.{noted-known, noted-last, noted-clock, noted_there, noted-out, noted_here, closed-row, closed-out}
use Rattle.rules.proofs.Waited.{cleared-last, cleared-clock, cleared_here, cleared_as_closed}
use Rattle.rules.proofs.Decisions.{exclusive_one}
use Rattle.rules.proofs.Fresh.{zeros, fresh-row, fresh_row_zero}

-- ---- rows: number, kind and start of a slot as they were
pub record SameRow (t t' : List ℕ) (r : ℕ) : Type 0 where
  pub number_is : (txn t' r).number ≡ (txn t r).number
  pub kind_is : (txn t' r).kind ≡ (txn t r).kind
  pub start_is : (txn t' r).start ≡ (txn t r).start

pub same_row : {t t' : List ℕ} {r : ℕ} → txn t' r ≡ txn t r → SameRow t t' r
same_row e = record { number_is = ap (λ (o : Txn). o.number) e; kind_is = ap (λ (o : Txn). o.kind) e; start_is = ap (λ (o : Txn). o.start) e }

pub same_but_rank : {t t' : List ℕ} {r : ℕ} (p : ℕ) → txn t' r ≡ with_rank (txn t r) p → SameRow t t' r
same_but_rank p e = record { number_is = ap (λ (o : Txn). o.number) e; kind_is = ap (λ (o : Txn). o.kind) e; start_is = ap (λ (o : Txn). o.start) e }

same_but_wait : {t t' : List ℕ} {r : ℕ} (k x p : ℕ) → txn t' r ≡ awaiting (txn t r) k x p → SameRow t t' r
same_but_wait k x p e = record { number_is = ap (λ (o : Txn). o.number) e; kind_is = ap (λ (o : Txn). o.kind) e; start_is = ap (λ (o : Txn). o.start) e }

-- ---- a wait is noted or cleared, a read is counted or noted, an update joins sets: nothing of this is seen
pub record Quiet (t t' : List ℕ) : Type 0 where
  pub rows : (r : ℕ) → SameRow t t' r
  pub last : last_number t' ≡ last_number t
  pub clock_is : clock t' ≡ clock t

pub quiet_on : {t u w : List ℕ} → Quiet t u → Quiet u w → Quiet t w
quiet_on p q =
    record {
      rows = λ r.
          record {
            number_is = (q.rows r).number_is ∙ (p.rows r).number_is;
            kind_is = (q.rows r).kind_is ∙ (p.rows r).kind_is;
            start_is = (q.rows r).start_is ∙ (p.rows r).start_is;
          };
      last = q.last ∙ p.last;
      clock_is = q.clock_is ∙ p.clock_is;
    }

pub inside? : (r n : ℕ) → (r < n) ⊎ (n ≤ r)
inside? r n = go (ltb r n) refl
  where
    go : (b : Bool) → ltb r n ≡ b → (r < n) ⊎ (n ≤ r)
    go true e = inl (ltb-true r n e)
    go false e = inr (ltb-false r n e)

module _ (S : Sizes) (t : List ℕ) (size : length t ≡ txn_words S) (s : ℕ) (inside : s < S.slots) where
  pub noted_quiet : (l : List ℕ) (k x : ℕ) → Quiet t (noted S t l s k x)
  noted_quiet l k x = go (awaits_on x (txn t s)) refl
    where
      new : (T (awaits_on x (txn t s)) → ⊥) → (r : ℕ) → (r ≡ s) ⊎ (r ≢ s) → (r < S.slots) ⊎ (S.slots ≤ r) → SameRow t (noted S t l s k x) r
      new n r (inl e) o = subst (λ (m : ℕ). SameRow t (noted S t l s k x) m) (sym e) (same_but_wait k x (rank_for S t l s x) (noted_here S t l s k x n size inside))
      new n r (inr d) (inl i) = same_but_rank (raised x (rank_for S t l s x) (txn t r)) (noted_there S t l s k x n size r i d)
      new n r (inr d) (inr h) = same_row (noted-out S t l s k x n size r h d)

      go : (b : Bool) → awaits_on x (txn t s) ≡ b → Quiet t (noted S t l s k x)
      go true e = subst (Quiet t) (sym (noted-known S t l s k x (true_is e))) (record { rows = λ r. same_row refl; last = refl; clock_is = refl })
      go false e =
          record {
            rows = λ r. new (false_is e) r (same? r s) (inside? r S.slots);
            last = noted-last S t l s k x (false_is e);
            clock_is = noted-clock S t l s k x (false_is e);
          }

  -- request E11
  pub joined_quiet : (m : ℕ) → Quiet t (joined t s m)
  joined_quiet m =
      record {
        rows = λ r.
            record {
              number_is = joined_same t s m S size inside (λ (o : Txn). o.number) (λ o v. refl) r;
              kind_is = joined_same t s m S size inside (λ (o : Txn). o.kind) (λ o v. refl) r;
              start_is = joined_same t s m S size inside (λ (o : Txn). o.start) (λ o v. refl) r;
            };
        last = joined-last t s m;
        clock_is = joined-clock t s m;
      }

  pub read_quiet : (l : List ℕ) (x : ℕ) → ((b : ℕ) → (lock l x).exclusive ≡ suc b → b < S.slots) → Quiet t (read_noted t l s x)
  read_quiet l x h =
      record {
        rows = λ r.
            record {
              number_is = read_same S t l s x size inside h (λ (o : Txn). o.number) (λ o n w i m. refl) r;
              kind_is = read_same S t l s x size inside h (λ (o : Txn). o.kind) (λ o n w i m. refl) r;
              start_is = read_same S t l s x size inside h (λ (o : Txn). o.start) (λ o n w i m. refl) r;
            };
        last = read-last S t l s x size inside h;
        clock_is = read-clock S t l s x size inside h;
      }

  -- request E8
  pub counted_quiet : (k : ℕ) → Quiet t (counted t s k)
  counted_quiet k =
      record {
        rows = λ r.
            record {
              number_is = counted_same t s k S size inside (λ (o : Txn). o.number) (λ o n w. refl) r;
              kind_is = counted_same t s k S size inside (λ (o : Txn). o.kind) (λ o n w. refl) r;
              start_is = counted_same t s k S size inside (λ (o : Txn). o.start) (λ o n w. refl) r;
            };
        last = counted-last t s k;
        clock_is = counted-clock t s k;
      }

  closed_same : (r : ℕ) → (r < S.slots) ⊎ (S.slots ≤ r) → SameRow t (closed_up S t s) r
  closed_same r (inl i) = same_but_rank (leaving t s (txn t r)) (closed-row S t s size r i)
  closed_same r (inr h) = same_row (closed-out S t s r h)

  pub closed_there : (r : ℕ) → SameRow t (closed_up S t s) r
  closed_there r = closed_same r (inside? r S.slots)

  pub cleared_quiet : Quiet t (cleared S t s)
  cleared_quiet =
      record {
        rows = λ r. go r (same? r s);
        last = cleared-last S t size s inside;
        clock_is = cleared-clock S t size s inside;
      }
    where
      go : (r : ℕ) → (r ≡ s) ⊎ (r ≢ s) → SameRow t (cleared S t s) r
      go r (inl e) = subst (λ (m : ℕ). SameRow t (cleared S t s) m) (sym e) (same_but_wait 0 0 0 (cleared_here S t size s inside))
      go r (inr d) =
          let c = closed_there r in
          let e = cleared_as_closed S t size s inside r d in
          record {
            number_is = ap (λ (o : Txn). o.number) e ∙ c.number_is;
            kind_is = ap (λ (o : Txn). o.kind) e ∙ c.kind_is;
            start_is = ap (λ (o : Txn). o.start) e ∙ c.start_is;
          }

-- a row begun in slot s
module _ (S : Sizes) (G : Tables) (g : Good S G) (k q s : ℕ) (inside : s < S.slots) where
  abbrev n : ℕ
  n = last_number G.txns + 1

  abbrev R : Txn
  R = new_txn n k q

  pub begun_here : txn (begun k q s G).txns s ≡ R
  unfolding begun
  begun_here = txn-set_txn (set G.txns 0 n) s R S (length-set G.txns 0 n ∙ g.txns_exact) inside

  pub begun_there : (r : ℕ) → r ≢ s → txn (begun k q s G).txns r ≡ txn G.txns r
  unfolding begun
  begun_there r d = txn-set_txn-other (set G.txns 0 n) s R r d ∙ txn-top G.txns 0 n r (omega arith)

  pub begun-last : last_number (begun k q s G).txns ≡ n
  unfolding begun
  begun-last = last_number-set_txn (set G.txns 0 n) s R ∙ get_or-set_same G.txns 0 n 0 (omega (arith, g.txns_exact))

  pub begun-clock : clock (begun k q s G).txns ≡ clock G.txns
  unfolding begun
  begun-clock = clock-set_txn (set G.txns 0 n) s R ∙ get_or-set_other G.txns 0 1 n 0 (omega arith)

-- ---- locks: what slot r has of a lock stays
pub record SameHold (h h' : Lock) (r : ℕ) : Type 0 where
  pub holds_on : T (holds h r) → T (holds h' r)
  pub writes_on : holds_exclusive h' r ≡ holds_exclusive h r
  pub working_on : T (holds_exclusive h r) → h'.working ≡ h.working

pub same_hold : (h h' : Lock) (r : ℕ) → h' ≡ h → SameHold h h' r
same_hold h h' r e =
    record {
      holds_on = λ a. subst (λ (o : Lock). T (holds o r)) (sym e) a;
      writes_on = ap (λ (o : Lock). holds_exclusive o r) e;
      working_on = λ a. ap (λ (o : Lock). o.working) e;
    }

-- another's shared lock: everybody's stay
pub shared_hold : (h : Lock) (s r : ℕ) → SameHold h (shared_too h s) r
unfolding holds holds_shared holds_exclusive
shared_hold h s r =
    record { holds_on = λ a. turned (or_cases (bit h.shared r) _ a); writes_on = refl; working_on = λ a. refl }
  where
    bits : (r ≡ s) ⊎ (r ≢ s) → T (bit h.shared r) → T (bit (with_bit h.shared s) r)
    bits (inl e) a = rw e (true_is (with_bit_here h.shared s))
    bits (inr d) a = rw (with_bit_there h.shared s r d) a

    turned : T (bit h.shared r) ⊎ T (eqb h.exclusive (suc r)) → T (bit (with_bit h.shared s) r || eqb h.exclusive (suc r))
    turned (inl a) = or_left (bit (with_bit h.shared s) r) _ (bits (same? r s) a)
    turned (inr a) = or_right (bit (with_bit h.shared s) r) _ a

-- an exclusive holder's new working value
pub replaced_hold : (h : Lock) (s v r : ℕ) → T (holds_exclusive h s) → r ≢ s → SameHold h (replaced h v) r
unfolding holds holds_shared holds_exclusive
replaced_hold h s v r own d =
    record { holds_on = λ a. a; writes_on = refl; working_on = λ a. absurd (d (exclusive_one h r s a own)) }

-- a lock taken exclusively, where nobody else holds
pub taken_hold : (h : Lock) (s v r : ℕ) → ((r : ℕ) → r ≢ s → T (holds h r) → ⊥) → r ≢ s → SameHold h (taken h s v) r
unfolding holds holds_exclusive
taken_hold h s v r alone d =
    record {
      holds_on = λ a. absurd (alone r d a);
      writes_on = ne_eqb (suc s) (suc r) (λ z. d (omega arith)) ∙ sym (is_false (eqb h.exclusive (suc r)) (λ a. alone r d (or_right (holds_shared h r) _ a)));
      working_on = λ a. absurd (alone r d (or_right (holds_shared h r) _ a));
    }

-- a lock without slot s: the others' stay
pub released_hold : (s : ℕ) (h : Lock) (r : ℕ) → r ≢ s → SameHold h (released s h) r
unfolding holds holds_shared holds_exclusive released
released_hold s h r d = go (eqb h.exclusive (suc s)) refl
  where
    o : Bool → Lock
    o b = cond b (record { shared = without_bit h.shared s; exclusive = 0; working = 0 }) (record { shared = without_bit h.shared s; exclusive = h.exclusive; working = h.working })

    bits : T (bit h.shared r) → T (bit (without_bit h.shared s) r)
    bits a = rw (without_bit_there h.shared s r d) a

    none : eqb h.exclusive (suc s) ≡ true → T (eqb h.exclusive (suc r)) → ⊥
    none e a = let p = eqb-true h.exclusive (suc s) e in let q = eqb→eq h.exclusive (suc r) a in d (omega arith)

    keep : T (bit h.shared r) ⊎ T (eqb h.exclusive (suc r)) → T (bit (without_bit h.shared s) r || eqb h.exclusive (suc r))
    keep (inl a) = or_left (bit (without_bit h.shared s) r) _ (bits a)
    keep (inr a) = or_right (bit (without_bit h.shared s) r) _ a

    drop-exclusive : eqb h.exclusive (suc s) ≡ true → T (bit h.shared r) ⊎ T (eqb h.exclusive (suc r)) → T (bit (without_bit h.shared s) r || eqb 0 (suc r))
    drop-exclusive e (inl a) = or_left (bit (without_bit h.shared s) r) _ (bits a)
    drop-exclusive e (inr a) = absurd (none e a)

    go : (b : Bool) → eqb h.exclusive (suc s) ≡ b → SameHold h (o b) r
    go true e =
        record {
          holds_on = λ a. drop-exclusive e (or_cases (bit h.shared r) _ a);
          writes_on = eqb-zero-suc r ∙ sym (is_false (eqb h.exclusive (suc r)) (none e));
          working_on = λ a. absurd (none e a);
        }
    go false e = record { holds_on = λ a. keep (or_cases (bit h.shared r) _ a); writes_on = refl; working_on = λ a. refl }

pub release_hold : (S : Sizes) (G : Tables) → Good S G → (s r x : ℕ) → x < S.items → r ≢ s → SameHold (lock G.locks x) (lock (release S s G.locks) x) r
release_hold S G g s r x i d =
    subst (λ (o : Lock). SameHold (lock G.locks x) o r) (sym (lock-release S s G.locks g.locks_exact x i)) (released_hold s (lock G.locks x) r d)

-- a lock without the share of slot s (request E6: "and its shared locks go"): the others' stay, and what s holds exclusively
pub unshared_hold : (s : ℕ) (h : Lock) (r : ℕ) → r ≢ s → SameHold h (unshared s h) r
unfolding holds holds_shared holds_exclusive
unshared_hold s h r d =
    record { holds_on = λ a. keep (or_cases (bit h.shared r) _ a); writes_on = refl; working_on = λ a. refl }
  where
    keep : T (bit h.shared r) ⊎ T (eqb h.exclusive (suc r)) → T (bit (without_bit h.shared s) r || eqb h.exclusive (suc r))
    keep (inl a) = or_left (bit (without_bit h.shared s) r) _ (rw (without_bit_there h.shared s r d) a)
    keep (inr a) = or_right (bit (without_bit h.shared s) r) _ a

-- ---- fresh tables: no number and no stamp was given, and every newest value is 0
pub fresh-last : (S : Sizes) → last_number (fresh S).txns ≡ 0
unfolding fresh
fresh-last S = zeros (txn_words S) 0

pub fresh-clock : (S : Sizes) → clock (fresh S).txns ≡ 0
unfolding fresh
fresh-clock S = zeros (txn_words S) 1

pub fresh-newest : (S : Sizes) (x : ℕ) → x < S.items → newest S (fresh S).versions x ≡ 0
unfolding newest versions_of versions_in versions_from
fresh-newest S x i = ap (λ (r : List ℕ). (get_or (versions_in S r) 0 no_version).value) (fresh-row S x i) ∙ fresh_row_zero S x 1
