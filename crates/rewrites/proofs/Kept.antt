-- What the row writer leaves of a row is what the rules keep of it.
use Prim.Native.Nat.{ℕ, zero, suc, ◌+◌, ◌-◌, ◌*◌, ◌≤◌, ◌<◌}
use mathlib.Core.Path.{◌≡◌, refl, sym, ap, ap₂, ◌∙◌, subst, fun_ext}
use mathlib.Core.Logic.{◌≢◌, ◌⊎◌, inl, inr}
use mathlib.Core.Bool.{Bool, true, false, ◌||◌, not, cond}
use mathlib.Core.List.{List, ◌∷◌, Memᴰ}
use native.Mathlib.Omega.{arith}
use native.Mathlib.Numerals.{add-one}
use lib.ListN.{get_or, length, drop}
use lib.Dec.{T, eqb, ltb, leb→le, eqb→eq}
use borrow.Author.Tests.{ne_eqb, leb-false}
use Rattle.names.specs.Sizes.{base}
use Rattle.names.specs.Layout.{lock_exclusive_at, lock_working_at}
use Rattle.rules.specs.Words.{bit}
use Rattle.rules.specs.Tables.{lock_row, lock, holds_exclusive, Reader, up_to, outside}
use Rattle.rules.specs.Versions.{Version, no_version, stamp_at, hidden_at, sees, place, read_by_some, kept, revealed}
use Rattle.rules.specs.Step.{with_new}
use Rattle.rules.specs.Tested.{all_read}
use Rattle.rules.proofs.Tests.{iff_eq, is_true, is_false, eq_make}
use Rattle.rules.proofs.Counts.{some_mem, mem_some}
use Rattle.rules.proofs.Bits.{without-bit}
use Rattle.rules.proofs.Choice.{Falls, Nests, place-fits, place_above}
use Rattle.rules.proofs.Trim.{length-kept}
use Rattle.rules.proofs.Leaving.{over, one_may_go, reader-leaves, new_comes}
use Rattle.rules.proofs.Revealed.{NotOf, length-revealed, stamp-revealed, hidden-revealed, revealed-falls, revealed-nests, place-revealed}
use Rattle.rules.proofs.Reading.{between}
use Rattle.starts.specs.Starts.{Split}
use Rattle.starts.specs.Ordered.{guard, InOrder}
use Rattle.starts.specs.Beside.{Beside}
use Rattle.starts.proofs.Split.{split_between}
use Rattle.starts.proofs.Between.{first-most, read-within, read_same}
use Rattle.starts.proofs.Tells.{within_below, within_both}
use Rattle.packing.specs.Changed.{stays, fronted, needed, without, left_by, read_there, shown_to}
use Rattle.rewrites.specs.Written.{claimed}

or_assoc : (a b c : Bool) → ((a || b) || c) ≡ (a || (b || c))
or_assoc true b c = refl
or_assoc false b c = refl

turned : (a b : ℕ) → eqb a b ≡ eqb b a
turned a b = iff_eq (eqb a b) (eqb b a) (λ t. eq_make b a (sym (eqb→eq a b t))) (λ t. eq_make a b (sym (eqb→eq b a t)))

-- ---- one leaves who read by a start: by its neighbours, and by the sets, one knows whether another reads the version that it read
module _
    (qs : List Reader) (us : List ℕ) (m : ℕ) (split : Split qs us m) (s below next : ℕ) (b : Beside us s below next)
    (vs : List Version) (fall : Falls vs) (nest : Nests vs) (known : (i : ℕ) → T (bit (hidden_at vs 0) i) → T (bit m i))
    (low : stamp_at vs 0 ≤ guard) (found : place (up_to s) vs < length vs)
  where
    asked : (k : ℕ) → place (up_to s) vs ≡ k → (eqb k 0 || read_by_some qs vs k) ≡ needed s below next vs
    unfolding needed
    asked zero e = rw e
    asked (suc j) e =
        let pred : suc j - 1 ≡ j = omega arith in
        let differ = not (eqb (hidden_at vs j) (hidden_at vs (suc j))) in
        rw (e, ne_eqb (suc j) 0 (λ z. omega arith), pred)
        (read-within qs us m split vs fall nest known j (omega arith)
        ∙ ap (λ (c : Bool). c || differ)
        (within_both us s below next b (stamp_at vs (suc j)) (stamp_at vs j) own before (first-most vs fall guard low j (omega arith)))
        ∙ or_assoc (ltb (stamp_at vs (suc j)) below) (ltb next (stamp_at vs j)) differ)
      where
        own : stamp_at vs (suc j) ≤ s
        own = unfold sees stamp_at in leb→le (get_or vs (suc j) no_version).stamp s (subst (λ (k : ℕ). T (sees (up_to s) (get_or vs k no_version))) e (place-fits (up_to s) vs found))

        before : s < stamp_at vs j
        before = unfold sees stamp_at in leb-false (get_or vs j no_version).stamp s (is_false _ (place_above (up_to s) vs j (omega arith)))

    pub left-kept :
        ((k : ℕ) → 0 < k → k < length vs → (place (up_to s) vs ≡ k) ⊎ T (read_by_some qs vs k))
        → left_by s below next vs ≡ kept qs vs
    left-kept read =
        ap (λ (c : Bool). cond c vs (without (place (up_to s) vs) vs)) (sym (asked (place (up_to s) vs) refl)) ∙ sym (reader-leaves (up_to s) qs vs read)

-- ---- a relaxed query leaves
module _
    (qs : List Reader) (us : List ℕ) (m : ℕ) (split : Split qs us m) (q : List ℕ) (ordered : InOrder us q) (s : ℕ) (gone : T (bit m s) → ⊥)
    (vs : List Version) (fall : Falls vs) (nest : Nests vs) (known : (i : ℕ) → i ≢ s → T (bit (hidden_at vs 0) i) → T (bit m i))
    (low : stamp_at vs 0 ≤ guard) (found : place (outside s) vs < length vs)
  where
    abbrev ws : List Version
    ws = revealed s vs

    -- those who stay are others
    others : (r : Reader) → Memᴰ r qs → NotOf s r
    others r h = go (split.only r h)
      where
        go : ((u : ℕ) × Memᴰ u us × (r ≡ up_to u)) ⊎ ((i : ℕ) × T (bit m i) × (r ≡ outside i)) → NotOf s r
        go (inl k) = subst (NotOf s) (sym k.2) tt
        go (inr k) = subst (NotOf s) (sym k.2) (λ e. gone (subst (λ (i : ℕ). T (bit m i)) e k.1))

    still : (k : ℕ) → T (read_by_some qs vs k) → T (read_by_some qs ws k)
    unfolding read_by_some
    still k t =
        let f = mem_some (λ r. eqb (place r vs) k) qs t in
        some_mem (λ r. eqb (place r ws) k) f.1
        (eq_make (place f.0 ws) k (place-revealed s f.0 (others f.0 f.1) vs ∙ eqb→eq (place f.0 vs) k f.2))

    here : (k : ℕ) → k < length vs → read_there q ws k ≡ (eqb k 0 || read_by_some qs ws k)
    unfolding read_there
    here zero l = refl
    here (suc j) l =
        let pred : suc j - 1 ≡ j = omega arith in
        rw (ne_eqb (suc j) 0 (λ z. omega arith), pred)
        (sym
        (read_same qs us m split ws (revealed-falls s vs fall) (revealed-nests s vs nest)
        (λ i h. let k = without-bit (hidden_at vs 0) s i (subst (λ (w : ℕ). T (bit w i)) (hidden-revealed s vs 0) h) in known i k.0 k.1)
        q ordered (let e = stamp-revealed s vs 0 in omega arith) j (let e = length-revealed s vs in omega arith)))

    pub shown-kept :
        ((k : ℕ) → 0 < k → k < length vs → (place (outside s) vs ≡ k) ⊎ T (read_by_some qs vs k))
        → shown_to s q vs ≡ kept qs (revealed s vs)
    shown-kept read =
        ap (λ (c : Bool). cond c ws (without (place (outside s) vs) ws)) (here (place (outside s) vs) found)
        ∙ sym (one_may_go qs ws (place (outside s) vs) (λ k z l. go k (read k z (let e = length-revealed s vs in omega arith))))
      where
        go : (k : ℕ) → (place (outside s) vs ≡ k) ⊎ T (read_by_some qs vs k) → (place (outside s) vs ≡ k) ⊎ T (read_by_some qs ws k)
        go k (inl e) = inl e
        go k (inr t) = inr (still k t)

-- ---- a new version comes
module _
    (qs : List Reader) (us : List ℕ) (m : ℕ) (split : Split qs us m) (new : Version) (below next : ℕ) (b : Beside us new.stamp below next)
    (known : (i : ℕ) → T (bit new.hidden i) → T (bit m i)) (vs : List Version) (some : 0 < length vs) (trimmed : T (all_read qs vs 0 vs))
    (newer : stamp_at vs 0 < new.stamp) (joined : (i : ℕ) → T (bit (hidden_at vs 0) i) → T (bit new.hidden i))
  where
    -- some reader may read the newest of before, and not the new one
    told : between qs (get_or vs 0 no_version) new ≡ stays below new vs
    unfolding stays stamp_at hidden_at
    told =
        split_between qs us m split (get_or vs 0 no_version) new joined known
        ∙ ap₂ ◌||◌ (within_below us new.stamp below next b (get_or vs 0 no_version).stamp) (ap not (turned new.hidden (get_or vs 0 no_version).hidden))

    pub front_kept : fronted below new vs ≡ kept qs (new ∷ vs)
    front_kept =
        ap {B = List Version} (λ c. new ∷ cond c vs (drop 1 vs)) (sym told)
        ∙ sym (new_comes qs new vs trimmed (over new vs newer joined) some)

    -- there is room for it
    pub front_room : length qs < base.places → T (stays below new vs) → length vs < base.places
    front_room few h =
        let e : kept qs (new ∷ vs) ≡ new ∷ vs = sym front_kept ∙ rw (is_true (stays below new vs) h) in
        let l = length-kept qs (new ∷ vs) in
        let n : length (kept qs (new ∷ vs)) ≡ suc (length vs) = ap length e in
        omega arith

-- the working values that a commit puts in front
pub claimed_is : (l : List ℕ) (s c m : ℕ) → claimed l (s + 1) c m ≡ with_new l s c m
unfolding with_new holds_exclusive lock
claimed_is l s c m =
    fun_ext λ x. fun_ext λ vs.
    ap (λ (n : ℕ). cond (eqb (get_or l (lock_row * x + lock_exclusive_at) 0) n) (record { stamp = c; value = get_or l (lock_row * x + lock_working_at) 0; hidden = m } ∷ vs) vs) (add-one s)
