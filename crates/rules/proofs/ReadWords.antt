-- Request E11: which words a relaxed query's read changes.
use Prim.Native.Nat.{ℕ, zero, suc, ◌+◌, ◌^◌, ◌<◌}
use mathlib.Core.Path.{◌≡◌, refl, ap, ◌∙◌, subst}
use mathlib.Core.Logic.{◌≢◌}
use mathlib.Core.List.{List}
use native.Mathlib.Omega.{arith}
use lib.ListN.{length, get_or}
use lib.Seq.{get_or-set_same, get_or-set_other}
use lib.Bits.{bit_or}
use lib.Dec.{T, eqb→eq}
use Rattle.names.specs.declared.Sizes.{Sizes}
use Rattle.names.specs.Words.{held_at_last}
use Rattle.names.specs.Layout.{txn_items_read_at, txn_later_for_at}
use Rattle.rules.specs.Words.{with_bit}
use Rattle.rules.specs.Tables.{Tables, txn_at, txn_words, Txn, txn, set_items_read, set_later_for, with_later_for, live_relaxed, query_kind, lock, holds_exclusive}
use Rattle.rules.specs.Good.{Good}
use Rattle.rules.specs.Step.{with_txns, joined, holder_joins, read_noted, counted}
use Rattle.rules.specs.Changed.{ReadsChanged, RelaxedCounted}
use Rattle.rules.proofs.Tests.{eq_make}
use Rattle.rules.proofs.RowKinds.{relaxed-live}
use Rattle.rules.proofs.ReadNoted.{with_items, held-length, noted-relaxed, read_length, read_keeps, holder_inside}
use Rattle.rules.proofs.Counting.{relaxed-counted, reads_change}

-- ---- the holder's word, and every other
module _ (S : Sizes) (t : List ℕ) (q : ℕ) (exact : length t ≡ txn_words S) where
  holder_word : (e b : ℕ) → e ≡ suc b → b < S.slots → get_or (holder_joins e q t) (txn_at b + txn_later_for_at) 0 ≡ bit_or (txn t b).later_for (2 ^ q)
  unfolding holder_joins joined set_later_for
  holder_word zero b z i = absurd (omega arith)
  holder_word (suc a) b z i =
      subst (λ (j : ℕ). get_or (joined t a (2 ^ q)) (txn_at j + txn_later_for_at) 0 ≡ bit_or (txn t j).later_for (2 ^ q)) (let y : a ≡ b = omega arith in y)
      (get_or-set_same t (txn_at a + txn_later_for_at) (bit_or (txn t a).later_for (2 ^ q)) 0 (omega arith))

  other_word : (e j : ℕ) → ((b : ℕ) → e ≡ suc b → j ≢ txn_at b + txn_later_for_at) → get_or (holder_joins e q t) j 0 ≡ get_or t j 0
  unfolding holder_joins joined set_later_for
  other_word zero j n = refl
  other_word (suc a) j n = get_or-set_other t (txn_at a + txn_later_for_at) j _ 0 (n a refl)

module _ (S : Sizes) (G : Tables) (g : Good S G) (s : ℕ) (inside : s < S.slots) (relaxed : T (live_relaxed (txn G.txns s))) (x : ℕ) (known : x < S.items) (k : ℕ) where
  abbrev t : List ℕ
  t = G.txns

  abbrev l : List ℕ
  l = G.locks

  abbrev e : ℕ
  e = (lock l x).exclusive

  abbrev u : List ℕ
  u = holder_joins e s t

  abbrev w : ℕ
  w = with_bit (txn t s).items_read x

  abbrev t₂ : List ℕ
  t₂ = read_noted t l s x

  is : t₂ ≡ set_items_read u s w
  is = noted-relaxed t l s x (relaxed-live (txn t s) relaxed).1

  size₂ : length t₂ ≡ length t
  size₂ = read_length S t l s x g.txns_exact inside (holder_inside S G g s inside x known)

  same : {A : Type 0} (h : Txn → A) → ((r : Txn) (v : ℕ) → h (with_later_for r v) ≡ h r) → ((r : Txn) (v : ℕ) → h (with_items r v) ≡ h r) → (r : ℕ) → h (txn t₂ r) ≡ h (txn t r)
  same = read_keeps S t l s x g.txns_exact inside (holder_inside S G g s inside x known)

  changed : ReadsChanged s (held_at_last ((txn t₂ s).read_count + 1)) (held_at_last ((txn t₂ s).weight_sum + k)) t₂ (counted t₂ s k)
  changed =
      reads_change t₂ s k S (size₂ ∙ g.txns_exact) inside
      (ap query_kind (same (λ (r : Txn). r.kind) (λ r v. refl) (λ r v. refl) s) ∙ relaxed-counted (txn t s) relaxed)

  -- a word that is not the one of the items read
  word₂ : (j : ℕ) → j ≢ txn_at s + txn_items_read_at → get_or t₂ j 0 ≡ get_or u j 0
  word₂ j d = ap (λ (v : List ℕ). get_or v j 0) is ∙ (unfold set_items_read in (get_or-set_other u (txn_at s + txn_items_read_at) j w 0 d))

  u_size : length u ≡ txn_words S
  u_size = held-length s t e ∙ g.txns_exact

  pub relaxed-counted-words : RelaxedCounted s x k G (with_txns G (counted (read_noted G.txns G.locks s x) s k))
  unfolding holds_exclusive
  relaxed-counted-words =
      record {
        size = changed.size ∙ size₂;
        count = changed.count ∙ ap (λ (n : ℕ). held_at_last (n + 1)) (same (λ (r : Txn). r.read_count) (λ r v. refl) (λ r v. refl) s);
        sum = changed.sum ∙ ap (λ (n : ℕ). held_at_last (n + k)) (same (λ (r : Txn). r.weight_sum) (λ r v. refl) (λ r v. refl) s);
        items =
            changed.others (txn_at s + txn_items_read_at) (omega arith) (omega arith)
            ∙ ap (λ (v : List ℕ). get_or v (txn_at s + txn_items_read_at) 0) is
            ∙ (unfold set_items_read in (get_or-set_same u (txn_at s + txn_items_read_at) w 0 (let a = u_size in omega arith)));
        joins = λ b h.
            changed.others (txn_at b + txn_later_for_at) (omega arith) (omega arith)
            ∙ word₂ (txn_at b + txn_later_for_at) (omega arith)
            ∙ holder_word S t s g.txns_exact e b (eqb→eq e (suc b) h) (holder_inside S G g s inside x known b (eqb→eq e (suc b) h));
        others = λ j a b c n. changed.others j a b ∙ word₂ j c ∙ other_word S t s g.txns_exact e j (λ b z. n b (eq_make e (suc b) z));
        locks = refl;
        versions = refl;
      }
