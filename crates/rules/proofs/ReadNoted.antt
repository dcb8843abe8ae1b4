-- Request E11: a relaxed query's read is noted, the item as read, and whoever holds it exclusively as a later one. Which words change, and
-- that tables stay good.
use Prim.Native.Nat.{ℕ, zero, suc, ◌^◌, ◌<◌}
use mathlib.Core.Path.{◌≡◌, refl, sym, ap, ◌∙◌, subst}
use mathlib.Core.Logic.{◌≢◌, ◌⊎◌, inl, inr, ⊎_elim}
use mathlib.Core.List.{List}
use native.Mathlib.Omega.{arith}
use lib.ListN.{length}
use lib.Dec.{T, eqb→eq}
use borrow.Author.Tests.{eq-eqb, ne_eqb}
use Rattle.names.specs.declared.Sizes.{Sizes}
use Rattle.names.specs.Layout.{txn_items_read_at}
use Rattle.rules.specs.Words.{bit, with_bit}
use Rattle.rules.specs.Tables.{Tables, txn_words, last_number, clock, Txn, txn, set_txn, set_items_read, with_word, with_later_for, a_relaxed, live, live_update, live_settled, live_relaxed, may_hold, lock, holds_exclusive}
use Rattle.rules.specs.Good.{Good, GoodReads, GoodNotes, GoodSets}
use Rattle.rules.specs.Step.{with_txns, joined, holder_joins, read_noted}
use Rattle.rules.proofs.Tests.{same?, eq_make}
use Rattle.rules.proofs.Bits.{with_bit_there, one_bit_at, bit_below, below_bits}
use Rattle.rules.proofs.Views.{word_row}
use Rattle.rules.proofs.RowKinds.{live-number, number-live, relaxed-live, live-relaxed, holder_cases}
use Rattle.rules.proofs.Carried.{same_reads}
use Rattle.rules.proofs.Notes.{noting, Beside, beside_on, beside_same, apart-beside, beside-good}
use Rattle.rules.proofs.Joined.{word-length, word-last, word-clock, word_there, word_here, word-beside, word_same}
use Rattle.rules.proofs.Joined.{joined_length, joined-last, joined-clock, joined_there, joined_here, joined-beside, joined_same, joined_grows, joined_in, joined-only, joined-good}

-- a row with other items read
abbrev pub with_items : Txn → ℕ → Txn
with_items r w = with_word txn_items_read_at r w

-- ---- slot s has read the items of the word w
module _ (t : List ℕ) (s w : ℕ) where
  pub items-row : set_items_read t s w ≡ set_txn t s (with_items (txn t s) w)
  unfolding set_items_read
  items-row = word_row txn_items_read_at (omega arith) t s w

  items-length : length (set_items_read t s w) ≡ length t
  items-length = word-length txn_items_read_at t s w refl (set_items_read t s w) items-row

  items-last : last_number (set_items_read t s w) ≡ last_number t
  items-last = word-last txn_items_read_at t s w refl (set_items_read t s w) items-row

  items-clock : clock (set_items_read t s w) ≡ clock t
  items-clock = word-clock txn_items_read_at t s w refl (set_items_read t s w) items-row

  items_there : (r : ℕ) → r ≢ s → txn (set_items_read t s w) r ≡ txn t r
  items_there = word_there txn_items_read_at t s w refl (set_items_read t s w) items-row

  module _ (S : Sizes) (exact : length t ≡ txn_words S) (inside : s < S.slots) where
    items_here : txn (set_items_read t s w) s ≡ with_items (txn t s) w
    items_here = word_here txn_items_read_at t s w refl (set_items_read t s w) items-row S exact inside

    items-beside : (r : ℕ) → Beside (txn t r) (txn (set_items_read t s w) r)
    items-beside = word-beside txn_items_read_at t s w refl (set_items_read t s w) items-row S exact inside

    items-same : {A : Type 0} (h : Txn → A) → ((r : Txn) (v : ℕ) → h (with_items r v) ≡ h r) → (r : ℕ) → h (txn (set_items_read t s w) r) ≡ h (txn t r)
    items-same h e = word_same txn_items_read_at t s w refl (set_items_read t s w) items-row S exact inside h (λ r. e r w)

-- a relaxed query has read the item x, and who holds it exclusively is in its set
module _
    (S : Sizes) (G : Tables) (g : Good S G) (s : ℕ) (inside : s < S.slots) (relaxed : T (live_relaxed (txn G.txns s))) (x : ℕ) (known : x < S.items)
    (held : (b : ℕ) → T (holds_exclusive (lock G.locks x) b) → T (bit (txn G.txns b).later_for s))
  where
    abbrev t : List ℕ
    t = G.txns

    abbrev old : ℕ
    old = (txn t s).items_read

    abbrev t' : List ℕ
    t' = set_items_read t s (with_bit old x)

    same : {A : Type 0} (h : Txn → A) → ((r : Txn) (v : ℕ) → h (with_items r v) ≡ h r) → (r : ℕ) → h (txn t' r) ≡ h (txn t r)
    same = items-same t s (with_bit old x) S g.txns_exact inside

    beside : (r : ℕ) → Beside (txn t r) (txn t' r)
    beside = items-beside t s (with_bit old x) S g.txns_exact inside

    free : (r : ℕ) → (txn t r).number ≡ 0 → txn t' r ≡ txn t r
    free r e = items_there t s (with_bit old x) r (λ z. live-number (txn t s) (relaxed-live (txn t s) relaxed).0 (ap (λ (j : ℕ). (txn t j).number) (sym z) ∙ e))

    -- a bit of the new word is the item's, or an old one
    bits : (y : ℕ) → T (bit (with_bit old x) y) → (y ≡ x) ⊎ T (bit old y)
    bits y b = go (same? y x)
      where
        go : (y ≡ x) ⊎ (y ≢ x) → (y ≡ x) ⊎ T (bit old y)
        go (inl e) = inl e
        go (inr d) = inr (subst T (with_bit_there old x y d) b)

    reads : (r : ℕ) → r < S.slots → GoodReads (txn t' r)
    unfolding may_hold live_update live_settled live
    reads r i =
        same_reads (txn t r) (txn t' r) (same (λ (r : Txn). r.read_count) (λ r v. refl) r) (same (λ (r : Txn). r.weight_sum) (λ r v. refl) r)
        (same may_hold (λ r v. refl) r) (g.txn_good r i).reads_good

    relaxed' : (q : ℕ) → live_relaxed (txn t' q) ≡ live_relaxed (txn t q)
    unfolding live_relaxed live
    relaxed' = same live_relaxed (λ r v. refl)

    notes : (r : ℕ) → r < S.slots → GoodNotes S (txn t' r)
    unfolding live_update live
    notes r i = go (same? r s)
      where
        go : (r ≡ s) ⊎ (r ≢ s) → GoodNotes S (txn t' r)
        go (inr d) = subst (GoodNotes S) (sym (items_there t s (with_bit old x) r d)) (g.txn_good r i).notes_good
        go (inl e) =
            let o = (g.txn_good r i).notes_good in
            let z : (txn t' r).items_read ≡ with_bit old x =
            ap (λ (j : ℕ). (txn t' j).items_read) e ∙ ap (λ (v : Txn). v.items_read) (items_here t s (with_bit old x) S g.txns_exact inside) in
            let m = most (bits_most o e) in
            record {
              items_most = omega arith;
              only_relaxed = λ n. absurd (n (subst T (sym (relaxed' r)) (subst (λ (j : ℕ). T (live_relaxed (txn t j))) (sym e) relaxed)));
              only_updates = λ n.
                  same (λ (r : Txn). r.later_for) (λ r v. refl) r
                  ∙ o.only_updates (λ h. n (subst T (sym (same live_update (λ r v. refl) r)) h));
            }
          where
            bits_most : GoodNotes S (txn t r) → r ≡ s → old < 2 ^ S.items
            bits_most o e = subst (λ (j : ℕ). (txn t j).items_read < 2 ^ S.items) e o.items_most

            most : old < 2 ^ S.items → with_bit old x < 2 ^ S.items
            most l = below_bits S.items (with_bit old x) (λ y b. ⊎_elim (λ z. omega arith) (λ k. bit_below old y S.items l k) (bits y b))

    sets : GoodSets S (with_txns G t')
    sets =
        let o = g.sets_good in
        record {
          apart = apart-beside S G g t' (items-length t s (with_bit old x) ∙ g.txns_exact) (items-last t s (with_bit old x)) (items-clock t s (with_bit old x)) beside;
          of_relaxed = λ r q i b.
              let k = o.of_relaxed r q i (subst (λ (v : ℕ). T (bit v q)) (same (λ (r : Txn). r.later_for) (λ r v. refl) r) b) in
              (k.0, subst T (sym (relaxed' q)) k.1);
          holds_read = λ y r q i j e b. subst (λ (v : ℕ). T (bit v q)) (sym (same (λ (r : Txn). r.later_for) (λ r v. refl) r)) (read y r q i j e b (same? q s));
          holds_hidden = λ y r q i h b. subst (λ (v : ℕ). T (bit v q)) (sym (same (λ (r : Txn). r.later_for) (λ r v. refl) r)) (o.holds_hidden y r q i h b);
        }
      where
        read :
            (y r q : ℕ) → y < S.items → q < S.slots → T (holds_exclusive (lock G.locks y) r) → T (bit (txn t' q).items_read y) → (q ≡ s) ⊎ (q ≢ s)
            → T (bit (txn t r).later_for q)
        read y r q i j e b (inr d) = g.sets_good.holds_read y r q i j e (subst (λ (v : Txn). T (bit v.items_read y)) (items_there t s (with_bit old x) q d) b)
        read y r q i j e b (inl z) =
            subst (λ (p : ℕ). T (bit (txn t r).later_for p)) (sym z)
            (⊎_elim
            (λ k. held r (subst (λ (u : ℕ). T (holds_exclusive (lock G.locks u) r)) k e))
            (λ k. g.sets_good.holds_read y r s i inside e k)
            (bits y (subst (λ (v : Txn). T (bit v.items_read y)) (ap (txn t') z ∙ items_here t s (with_bit old x) S g.txns_exact inside) b)))

    items-good : Good S (with_txns G (set_items_read G.txns s (with_bit (txn G.txns s).items_read x)))
    items-good =
        beside-good S G g t' (items-length t s (with_bit old x) ∙ g.txns_exact) (items-last t s (with_bit old x)) (items-clock t s (with_bit old x)) beside free reads notes sets

-- ---- the holder joins, if there is one: e is its slot plus 1
module _ (q : ℕ) (t : List ℕ) where
  pub held-length : (e : ℕ) → length (holder_joins e q t) ≡ length t
  unfolding holder_joins
  held-length zero = refl
  held-length (suc b) = joined_length t b (2 ^ q)

  held-last : (e : ℕ) → last_number (holder_joins e q t) ≡ last_number t
  unfolding holder_joins
  held-last zero = refl
  held-last (suc b) = joined-last t b (2 ^ q)

  held-clock : (e : ℕ) → clock (holder_joins e q t) ≡ clock t
  unfolding holder_joins
  held-clock zero = refl
  held-clock (suc b) = joined-clock t b (2 ^ q)

  module _ (S : Sizes) (exact : length t ≡ txn_words S) where
    held-beside : (e : ℕ) → ((b : ℕ) → e ≡ suc b → b < S.slots) → (r : ℕ) → Beside (txn t r) (txn (holder_joins e q t) r)
    unfolding holder_joins
    held-beside zero h r = refl
    held-beside (suc b) h r = joined-beside t b (2 ^ q) S exact (h b refl) r

    held_same :
        (e : ℕ) → ((b : ℕ) → e ≡ suc b → b < S.slots) → {A : Type 0} (h : Txn → A) → ((r : Txn) (v : ℕ) → h (with_later_for r v) ≡ h r)
        → (r : ℕ) → h (txn (holder_joins e q t) r) ≡ h (txn t r)
    unfolding holder_joins
    held_same zero h f a r = refl
    held_same (suc b) h f a r = joined_same t b (2 ^ q) S exact (h b refl) f a r

    held-other : (e : ℕ) → ((b : ℕ) → e ≡ suc b → b < S.slots) → (r : ℕ) → txn (holder_joins e q t) r ≡ with_later_for (txn t r) (txn (holder_joins e q t) r).later_for
    unfolding holder_joins
    held-other zero h r = refl
    held-other (suc b) h r = go (same? r b)
      where
        u : List ℕ
        u = joined t b (2 ^ q)

        go : (r ≡ b) ⊎ (r ≢ b) → txn u r ≡ with_later_for (txn t r) (txn u r).later_for
        go (inl z) =
            subst (λ (j : ℕ). txn u j ≡ with_later_for (txn t j) (txn u j).later_for) (sym z)
            (subst (λ (p : Txn). p ≡ with_later_for (txn t b) p.later_for) (sym (joined_here t b (2 ^ q) S exact (h b refl))) refl)
        go (inr d) = subst (λ (p : Txn). p ≡ with_later_for (txn t r) p.later_for) (sym (joined_there t b (2 ^ q) r d)) refl

    -- it is in the set of q, and nobody else joined
    held_in : (e : ℕ) → ((b : ℕ) → e ≡ suc b → b < S.slots) → (b : ℕ) → e ≡ suc b → T (bit (txn (holder_joins e q t) b).later_for q)
    unfolding holder_joins
    held_in zero h b z = absurd (omega arith)
    held_in (suc a) h b z =
        subst (λ (m : ℕ). T (bit (txn (joined t a (2 ^ q)) m).later_for q)) (let y : a ≡ b = omega arith in y)
        (joined_in t a (2 ^ q) S exact (h a refl) q (subst T (sym (one_bit_at q q)) (eq_make q q refl)))

    held-only :
        (e : ℕ) → ((b : ℕ) → e ≡ suc b → b < S.slots) → (r p : ℕ) → T (bit (txn (holder_joins e q t) r).later_for p)
        → T (bit (txn t r).later_for p) ⊎ ((e ≡ suc r) × (p ≡ q))
    unfolding holder_joins
    held-only zero h r p b = inl b
    held-only (suc a) h r p b = ⊎_elim
        (λ k. inl k)
        (λ k. inr (ap suc (sym k.0), sym (eqb→eq q p (subst T (one_bit_at q p) k.1))))
        (joined-only t a (2 ^ q) S exact (h a refl) r p b)

    held_grows : (e : ℕ) → ((b : ℕ) → e ≡ suc b → b < S.slots) → (r p : ℕ) → T (bit (txn t r).later_for p) → T (bit (txn (holder_joins e q t) r).later_for p)
    unfolding holder_joins
    held_grows zero h r p b = b
    held_grows (suc a) h r p b = joined_grows t a (2 ^ q) S exact (h a refl) r p b

-- ---- the whole note
-- nothing is noted of who is no relaxed query
pub noted_none : (t l : List ℕ) (s x : ℕ) → (txn t s).kind ≢ a_relaxed → read_noted t l s x ≡ t
unfolding read_noted
noted_none t l s x d = rw (ne_eqb (txn t s).kind a_relaxed d)

pub noted-relaxed :
    (t l : List ℕ) (s x : ℕ) → (txn t s).kind ≡ a_relaxed
    → read_noted t l s x ≡ set_items_read (holder_joins (lock l x).exclusive s t) s (with_bit (txn t s).items_read x)
unfolding read_noted
noted-relaxed t l s x e = rw (eq-eqb (txn t s).kind a_relaxed e)

module _
    (S : Sizes) (t l : List ℕ) (s x : ℕ) (exact : length t ≡ txn_words S) (inside : s < S.slots)
    (holders : (b : ℕ) → (lock l x).exclusive ≡ suc b → b < S.slots)
  where
    abbrev e : ℕ
    e = (lock l x).exclusive

    abbrev u : List ℕ
    u = holder_joins e s t

    abbrev w : ℕ
    w = with_bit (txn t s).items_read x

    -- relaxed or not
    either : (P : List ℕ → Type 0) → P t → P (set_items_read u s w) → P (read_noted t l s x)
    either P a b = go (same? (txn t s).kind a_relaxed)
      where
        go : ((txn t s).kind ≡ a_relaxed) ⊎ ((txn t s).kind ≢ a_relaxed) → P (read_noted t l s x)
        go (inl z) = subst P (sym (noted-relaxed t l s x z)) b
        go (inr d) = subst P (sym (noted_none t l s x d)) a

    pub read_length : length (read_noted t l s x) ≡ length t
    read_length = either (λ v. length v ≡ length t) refl (items-length u s w ∙ held-length s t e)

    pub read-last : last_number (read_noted t l s x) ≡ last_number t
    read-last = either (λ v. last_number v ≡ last_number t) refl (items-last u s w ∙ held-last s t e)

    pub read-clock : clock (read_noted t l s x) ≡ clock t
    read-clock = either (λ v. clock v ≡ clock t) refl (items-clock u s w ∙ held-clock s t e)

    pub read-beside : (r : ℕ) → Beside (txn t r) (txn (read_noted t l s x) r)
    read-beside r =
        either (λ v. Beside (txn t r) (txn v r)) refl
        (beside_on (txn t r) (txn u r) (txn (set_items_read u s w) r) (held-beside s t S exact e holders r)
        (items-beside u s w S (held-length s t e ∙ exact) inside r))

    -- of what is no note all is as it was
    pub read_same : {A : Type 0} (h : Txn → A) → ((r : Txn) (n w i m : ℕ) → h (noting r n w i m) ≡ h r) → (r : ℕ) → h (txn (read_noted t l s x) r) ≡ h (txn t r)
    read_same h z r = beside_same h z (txn t r) (txn (read_noted t l s x) r) (read-beside r)

    -- nor is a note of another kind
    pub read_keeps :
        {A : Type 0} (h : Txn → A) → ((r : Txn) (v : ℕ) → h (with_later_for r v) ≡ h r) → ((r : Txn) (v : ℕ) → h (with_items r v) ≡ h r)
        → (r : ℕ) → h (txn (read_noted t l s x) r) ≡ h (txn t r)
    read_keeps h a b r =
        either (λ v. h (txn v r) ≡ h (txn t r)) refl
        (items-same u s w S (held-length s t e ∙ exact) inside h b r ∙ held_same s t S exact e holders h a r)

    -- of another's row nothing but the sets changes
    pub read-other : (r : ℕ) → r ≢ s → txn (read_noted t l s x) r ≡ with_later_for (txn t r) (txn (read_noted t l s x) r).later_for
    read-other r d =
        either (λ v. txn v r ≡ with_later_for (txn t r) (txn v r).later_for) refl
        (subst (λ (q : Txn). q ≡ with_later_for (txn t r) q.later_for) (sym (items_there u s w r d)) (held-other s t S exact e holders r))

    -- who is in which set, if s is relaxed
    pub read_sets :
        (txn t s).kind ≡ a_relaxed → (r p : ℕ) → T (bit (txn (read_noted t l s x) r).later_for p)
        → T (bit (txn t r).later_for p) ⊎ (((lock l x).exclusive ≡ suc r) × (p ≡ s))
    read_sets z r p b =
        held-only s t S exact e holders r p
        (subst (λ (v : ℕ). T (bit v p))
        (ap (λ (v : List ℕ). (txn v r).later_for) (noted-relaxed t l s x z) ∙ items-same u s w S (held-length s t e ∙ exact) inside (λ (v : Txn). v.later_for) (λ v w. refl) r) b)

    pub read-joins : (txn t s).kind ≡ a_relaxed → (b : ℕ) → (lock l x).exclusive ≡ suc b → T (bit (txn (read_noted t l s x) b).later_for s)
    read-joins z b k =
        subst (λ (v : ℕ). T (bit v s))
        (sym (ap (λ (v : List ℕ). (txn v b).later_for) (noted-relaxed t l s x z) ∙ items-same u s w S (held-length s t e ∙ exact) inside (λ (v : Txn). v.later_for) (λ v w. refl) b))
        (held_in s t S exact e holders b k)

    pub read_grows : (r p : ℕ) → T (bit (txn t r).later_for p) → T (bit (txn (read_noted t l s x) r).later_for p)
    read_grows r p b =
        either (λ v. T (bit (txn v r).later_for p)) b
        (subst (λ (v : ℕ). T (bit v p)) (sym (items-same u s w S (held-length s t e ∙ exact) inside (λ (v : Txn). v.later_for) (λ v w. refl) r))
        (held_grows s t S exact e holders r p b))

-- on good tables: the holder is an update, since nobody is past its writing beside a relaxed query
module _ (S : Sizes) (G : Tables) (g : Good S G) (s : ℕ) (inside : s < S.slots) (x : ℕ) (known : x < S.items) where
  abbrev t₀ : List ℕ
  t₀ = G.txns

  abbrev e₀ : ℕ
  e₀ = (lock G.locks x).exclusive

  holds : (b : ℕ) → (lock G.locks x).exclusive ≡ suc b → T (holds_exclusive (lock G.locks x) b)
  unfolding holds_exclusive
  holds b z = eq_make e₀ (suc b) z

  pub holder_inside : (b : ℕ) → (lock G.locks x).exclusive ≡ suc b → b < S.slots
  holder_inside b z = ((g.lock_good x known).excluders b (holds b z)).0

  held-good : T (live_relaxed (txn t₀ s)) → Good S (with_txns G (holder_joins e₀ s t₀))
  unfolding holder_joins
  held-good relaxed = go e₀ refl
    where
      go : (a : ℕ) → e₀ ≡ a → Good S (with_txns G (holder_joins a s t₀))
      go zero z = g
      go (suc b) z =
          joined-good S G g b (holder_inside b z) (writes (holder_cases (txn t₀ b) ((g.lock_good x known).excluders b (holds b z)).1)) (2 ^ s)
          (λ q k. let y = eqb→eq s q (subst T (one_bit_at s q) k) in subst (λ (j : ℕ). (j < S.slots) × T (live_relaxed (txn t₀ j))) y (inside, relaxed))
        where
          writes : T (live_update (txn t₀ b)) ⊎ T (live_settled (txn t₀ b)) → T (live_update (txn t₀ b))
          writes (inl u) = u
          writes (inr p) = absurd (g.sets_good.apart b s (holder_inside b z) inside p relaxed)

  pub read-noted-good : Good S (with_txns G (read_noted G.txns G.locks s x))
  unfolding live_relaxed live
  read-noted-good = go (same? (txn t₀ s).kind a_relaxed)
    where
      u : List ℕ
      u = holder_joins e₀ s t₀

      items : (txn u s).items_read ≡ (txn t₀ s).items_read
      items = held_same s t₀ S g.txns_exact e₀ holder_inside (λ (r : Txn). r.items_read) (λ r v. refl) s

      relaxing : T (live_relaxed (txn t₀ s)) → Good S (with_txns G (set_items_read u s (with_bit (txn t₀ s).items_read x)))
      relaxing h =
          subst (λ (v : ℕ). Good S (with_txns G (set_items_read u s (with_bit v x)))) items
          (items-good S (with_txns G u) (held-good h) s inside
          (subst T (sym (beside_same live_relaxed (λ r n w i m. refl) (txn t₀ s) (txn u s) (held-beside s t₀ S g.txns_exact e₀ holder_inside s))) h) x known
          (λ b k. held_in s t₀ S g.txns_exact e₀ holder_inside b (unfold holds_exclusive in (eqb→eq e₀ (suc b) k))))

      alive : (txn t₀ s).kind ≡ a_relaxed → T (live_relaxed (txn t₀ s))
      alive z = live-relaxed (txn t₀ s) (number-live (txn t₀ s) (λ n. let k = ap (λ (r : Txn). r.kind) ((g.txn_good s inside).free n) in omega arith)) z

      go : ((txn t₀ s).kind ≡ a_relaxed) ⊎ ((txn t₀ s).kind ≢ a_relaxed) → Good S (with_txns G (read_noted t₀ G.locks s x))
      go (inl z) = subst (λ (v : List ℕ). Good S (with_txns G v)) (sym (noted-relaxed t₀ G.locks s x z)) (relaxing (alive z))
      go (inr d) = subst (λ (v : List ℕ). Good S (with_txns G v)) (sym (noted_none t₀ G.locks s x d)) g
