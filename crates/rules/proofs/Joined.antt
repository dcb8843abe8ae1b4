-- Request E11: an update joins sets of later updates, a relaxed query notes what it has read. Which words change, and that tables stay good.
use Prim.Native.Nat.{ℕ, ◌+◌, ◌≤◌, ◌<◌}
use mathlib.Core.Path.{◌≡◌, refl, sym, ap, ◌∙◌, subst}
use mathlib.Core.Logic.{◌≢◌, ◌⊎◌, inl, inr, ⊎_elim}
use mathlib.Core.Bool.{Bool, true, false}
use mathlib.Core.List.{List}
use native.Mathlib.Omega.{arith}
use lib.ListN.{length, get_or}
use lib.Bits.{bit_or}
use lib.Dec.{T, ltb}
use borrow.Author.Tests.{ltb-true, ltb-false}
use Rattle.names.specs.declared.Sizes.{Sizes}
use Rattle.names.specs.Layout.{last_number_at, clock_at, txn_later_for_at}
use Rattle.rules.specs.Words.{bit, without_bit}
use Rattle.rules.specs.Tables.{Tables, txn_at, txn_words, last_number, clock, Txn, txn, set_txn, set_later_for, with_word, with_later_for, reworded, live, live_update, live_settled, live_relaxed, may_hold}
use Rattle.rules.specs.Good.{Good, GoodReads, GoodNotes, GoodSets}
use Rattle.rules.specs.Changed.{NoWord}
use Rattle.rules.specs.Step.{with_txns, joined, joining, forgotten}
use Rattle.rules.proofs.Tests.{same?}
use Rattle.rules.proofs.Bits.{or_in, or_in_left, or_in_right, without_none}
use Rattle.rules.proofs.Views.{word_row, length-set_txn, last_number-set_txn, clock-set_txn, txn-set_txn, txn-set_txn-other}
use Rattle.rules.proofs.Views.{length-reworded, word-reworded, head_reworded, txn-reworded, txn-reworded-out, reworded-same}
use Rattle.rules.proofs.RowKinds.{live-number, update-live}
use Rattle.rules.proofs.Carried.{same_reads}
use Rattle.rules.proofs.Notes.{Beside, same_beside, written-beside, apart-beside, beside-good}

-- ---- one row gets another word at the place k, which is one of its notes
module _
    (k : ℕ) (t : List ℕ) (s w : ℕ) (note : Beside (txn t s) (with_word k (txn t s) w)) (u : List ℕ) (is : u ≡ set_txn t s (with_word k (txn t s) w))
  where
    abbrev R : Txn
    R = with_word k (txn t s) w

    pub word-length : length u ≡ length t
    word-length = ap length is ∙ length-set_txn t s R

    pub word-last : last_number u ≡ last_number t
    word-last = ap last_number is ∙ last_number-set_txn t s R

    pub word-clock : clock u ≡ clock t
    word-clock = ap clock is ∙ clock-set_txn t s R

    pub word_there : (r : ℕ) → r ≢ s → txn u r ≡ txn t r
    word_there r d = ap (λ (v : List ℕ). txn v r) is ∙ txn-set_txn-other t s R r d

    module _ (S : Sizes) (exact : length t ≡ txn_words S) (inside : s < S.slots) where
      pub word_here : txn u s ≡ with_word k (txn t s) w
      word_here = ap (λ (v : List ℕ). txn v s) is ∙ txn-set_txn t s R S exact inside

      pub word-beside : (r : ℕ) → Beside (txn t r) (txn u r)
      word-beside r = subst (λ (v : List ℕ). Beside (txn t r) (txn v r)) (sym is) (written-beside S t s R exact inside note r)

      -- what is told by no note, and by another
      pub word_same : {A : Type 0} (h : Txn → A) → ((r : Txn) → h (with_word k r w) ≡ h r) → (r : ℕ) → h (txn u r) ≡ h (txn t r)
      word_same h e r = go (same? r s)
        where
          go : (r ≡ s) ⊎ (r ≢ s) → h (txn u r) ≡ h (txn t r)
          go (inl q) = ap (λ (m : ℕ). h (txn u m)) q ∙ ap h word_here ∙ e (txn t s) ∙ ap (λ (m : ℕ). h (txn t m)) (sym q)
          go (inr d) = ap h (word_there r d)

-- ---- slot s joins the sets of the word m
module _ (t : List ℕ) (s m : ℕ) where
  abbrev w : ℕ
  w = bit_or (txn t s).later_for m

  pub joined-row : joined t s m ≡ set_txn t s (with_later_for (txn t s) (bit_or (txn t s).later_for m))
  unfolding joined set_later_for
  joined-row = word_row txn_later_for_at (omega arith) t s w

  pub joined_length : length (joined t s m) ≡ length t
  joined_length = word-length txn_later_for_at t s w refl (joined t s m) joined-row

  pub joined-last : last_number (joined t s m) ≡ last_number t
  joined-last = word-last txn_later_for_at t s w refl (joined t s m) joined-row

  pub joined-clock : clock (joined t s m) ≡ clock t
  joined-clock = word-clock txn_later_for_at t s w refl (joined t s m) joined-row

  pub joined_there : (r : ℕ) → r ≢ s → txn (joined t s m) r ≡ txn t r
  joined_there = word_there txn_later_for_at t s w refl (joined t s m) joined-row

  module _ (S : Sizes) (exact : length t ≡ txn_words S) (inside : s < S.slots) where
    pub joined_here : txn (joined t s m) s ≡ with_later_for (txn t s) (bit_or (txn t s).later_for m)
    joined_here = word_here txn_later_for_at t s w refl (joined t s m) joined-row S exact inside

    pub joined-beside : (r : ℕ) → Beside (txn t r) (txn (joined t s m) r)
    joined-beside = word-beside txn_later_for_at t s w refl (joined t s m) joined-row S exact inside

    -- what does not go by the sets is as it was
    pub joined_same : {A : Type 0} (h : Txn → A) → ((r : Txn) (v : ℕ) → h (with_later_for r v) ≡ h r) → (r : ℕ) → h (txn (joined t s m) r) ≡ h (txn t r)
    joined_same h e = word_same txn_later_for_at t s w refl (joined t s m) joined-row S exact inside h (λ r. e r w)

    -- every slot is in the sets in which it was; and s in those of m, and in no others
    pub joined_grows : (r q : ℕ) → T (bit (txn t r).later_for q) → T (bit (txn (joined t s m) r).later_for q)
    joined_grows r q b = go (same? r s)
      where
        go : (r ≡ s) ⊎ (r ≢ s) → T (bit (txn (joined t s m) r).later_for q)
        go (inl e) =
            subst (λ (j : ℕ). T (bit (txn (joined t s m) j).later_for q)) (sym e)
            (subst (λ (v : Txn). T (bit v.later_for q)) (sym joined_here)
            (or_in_left (txn t s).later_for m q (subst (λ (j : ℕ). T (bit (txn t j).later_for q)) e b)))
        go (inr d) = subst (λ (v : Txn). T (bit v.later_for q)) (sym (joined_there r d)) b

    pub joined_in : (q : ℕ) → T (bit m q) → T (bit (txn (joined t s m) s).later_for q)
    joined_in q b = subst (λ (v : Txn). T (bit v.later_for q)) (sym joined_here) (or_in_right (txn t s).later_for m q b)

    pub joined-only : (r q : ℕ) → T (bit (txn (joined t s m) r).later_for q) → T (bit (txn t r).later_for q) ⊎ ((r ≡ s) × T (bit m q))
    joined-only r q b = go (same? r s)
      where
        go : (r ≡ s) ⊎ (r ≢ s) → T (bit (txn t r).later_for q) ⊎ ((r ≡ s) × T (bit m q))
        go (inr d) = inl (subst (λ (v : Txn). T (bit v.later_for q)) (joined_there r d) b)
        go (inl e) = ⊎_elim
            (λ k. inl (subst (λ (j : ℕ). T (bit (txn t j).later_for q)) (sym e) k))
            (λ k. inr (e, k))
            (or_in (txn t s).later_for m q
            (subst (λ (v : Txn). T (bit v.later_for q)) joined_here (subst (λ (j : ℕ). T (bit (txn (joined t s m) j).later_for q)) e b)))

-- an update joins sets of relaxed queries
module _
    (S : Sizes) (G : Tables) (g : Good S G) (s : ℕ) (inside : s < S.slots) (update : T (live_update (txn G.txns s))) (m : ℕ)
    (relaxed : (q : ℕ) → T (bit m q) → (q < S.slots) × T (live_relaxed (txn G.txns q)))
  where
    abbrev t : List ℕ
    t = G.txns

    abbrev t' : List ℕ
    t' = joined t s m

    same : {A : Type 0} (h : Txn → A) → ((r : Txn) (v : ℕ) → h (with_later_for r v) ≡ h r) → (r : ℕ) → h (txn t' r) ≡ h (txn t r)
    same = joined_same t s m S g.txns_exact inside

    beside : (r : ℕ) → Beside (txn t r) (txn t' r)
    beside = joined-beside t s m S g.txns_exact inside

    relaxed' : (q : ℕ) → live_relaxed (txn t' q) ≡ live_relaxed (txn t q)
    unfolding live_relaxed live
    relaxed' = same live_relaxed (λ r v. refl)

    free : (r : ℕ) → (txn t r).number ≡ 0 → txn t' r ≡ txn t r
    free r e = joined_there t s m r (λ z. live-number (txn t s) (update-live (txn t s) update).0 (ap (λ (j : ℕ). (txn t j).number) (sym z) ∙ e))

    reads : (r : ℕ) → r < S.slots → GoodReads (txn t' r)
    unfolding may_hold live_update live_settled live
    reads r i =
        same_reads (txn t r) (txn t' r) (same (λ (r : Txn). r.read_count) (λ r v. refl) r) (same (λ (r : Txn). r.weight_sum) (λ r v. refl) r)
        (same may_hold (λ r v. refl) r) (g.txn_good r i).reads_good

    notes : (r : ℕ) → r < S.slots → GoodNotes S (txn t' r)
    unfolding live_update live
    notes r i = go (same? r s)
      where
        go : (r ≡ s) ⊎ (r ≢ s) → GoodNotes S (txn t' r)
        go (inr d) = subst (GoodNotes S) (sym (joined_there t s m r d)) (g.txn_good r i).notes_good
        go (inl e) =
            let o = (g.txn_good r i).notes_good in
            let z = same (λ (r : Txn). r.items_read) (λ r v. refl) r in
            record {
              items_most = let a = o.items_most in omega arith;
              only_relaxed = λ n. z ∙ o.only_relaxed (λ h. n (subst T (sym (relaxed' r)) h));
              only_updates = λ n. absurd (n (subst T (sym (same live_update (λ r v. refl) r)) (subst (λ (j : ℕ). T (live_update (txn t j))) (sym e) update)));
            }

    sets : GoodSets S (with_txns G t')
    sets =
        let o = g.sets_good in
        record {
          apart = apart-beside S G g t' (joined_length t s m ∙ g.txns_exact) (joined-last t s m) (joined-clock t s m) beside;
          of_relaxed = λ r q i b.
              let k = ⊎_elim (λ a. o.of_relaxed r q i a) (λ a. relaxed q a.1) (joined-only t s m S g.txns_exact inside r q b) in
              (k.0, subst T (sym (relaxed' q)) k.1);
          holds_read = λ x r q i j e b.
              joined_grows t s m S g.txns_exact inside r q
              (o.holds_read x r q i j e (subst (λ (v : ℕ). T (bit v x)) (same (λ (r : Txn). r.items_read) (λ r v. refl) q) b));
          holds_hidden = λ x r q i h b. joined_grows t s m S g.txns_exact inside r q (o.holds_hidden x r q i h b);
        }

    pub joined-good : Good S (joining s m G)
    joined-good =
        beside-good S G g t' (joined_length t s m ∙ g.txns_exact) (joined-last t s m) (joined-clock t s m) beside free reads notes sets

-- ---- nobody is in the set of slot q any more
module _ (S : Sizes) (q : ℕ) (t : List ℕ) where
  abbrev left : Txn → ℕ
  left r = without_bit r.later_for q

  pub forgotten-length : length (forgotten S q t) ≡ length t
  unfolding forgotten
  forgotten-length = length-reworded txn_later_for_at (omega arith) S.slots left t

  pub forgotten-last : last_number (forgotten S q t) ≡ last_number t
  unfolding forgotten
  forgotten-last = head_reworded txn_later_for_at (omega arith) S.slots left t last_number_at (omega arith)

  pub forgotten-clock : clock (forgotten S q t) ≡ clock t
  unfolding forgotten
  forgotten-clock = head_reworded txn_later_for_at (omega arith) S.slots left t clock_at (omega arith)

  pub forgotten-word : (j : ℕ) → NoWord txn_later_for_at S.slots j → get_or (forgotten S q t) j 0 ≡ get_or t j 0
  unfolding forgotten
  forgotten-word j n = word-reworded txn_later_for_at (omega arith) S.slots left t j n

  -- where nobody was in it nothing changes
  pub forgotten_none : ((r : ℕ) → r < S.slots → T (bit (txn t r).later_for q) → ⊥) → forgotten S q t ≡ t
  unfolding forgotten txn
  forgotten_none n = reworded-same txn_later_for_at (omega arith) S.slots left t (λ r i. without_none (get_or t (txn_at r + txn_later_for_at) 0) q (n r i))

  -- past the rows all is as it was
  pub forgotten-out : (r : ℕ) → S.slots ≤ r → txn (forgotten S q t) r ≡ txn t r
  unfolding forgotten
  forgotten-out r h = txn-reworded-out txn_later_for_at (omega arith) S.slots left t r h

  module _ (exact : length t ≡ txn_words S) where
    pub forgotten-row : (r : ℕ) → r < S.slots → txn (forgotten S q t) r ≡ with_later_for (txn t r) (without_bit (txn t r).later_for q)
    unfolding forgotten
    forgotten-row r i = txn-reworded txn_later_for_at (omega arith) S t exact S.slots (omega arith) left r i

    pub forgotten-beside : (r : ℕ) → Beside (txn t r) (txn (forgotten S q t) r)
    unfolding forgotten
    forgotten-beside r = go (ltb r S.slots) refl
      where
        go : (b : Bool) → ltb r S.slots ≡ b → Beside (txn t r) (txn (reworded txn_later_for_at S.slots left t) r)
        go true e = subst (Beside (txn t r)) (sym (forgotten-row r (ltb-true r S.slots e))) refl
        go false e = same_beside (txn t r) _ (forgotten-out r (ltb-false r S.slots e))
