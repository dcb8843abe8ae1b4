-- A row of slot s goes: who reads afterwards, and a table of versions rewritten for them has good rows.
use Prim.Native.Nat.{ℕ, zero, suc, ◌-◌, ◌≤◌, ◌<◌}
use mathlib.Core.Path.{◌≡◌, refl, sym, ap, ◌∙◌, subst}
use mathlib.Core.Logic.{◌≢◌, ◌⊎◌, inl, inr}
use mathlib.Core.Bool.{Bool, true, false, cond}
use mathlib.Core.List.{List, [], ◌∷◌, Memᴰ}
use native.Mathlib.Omega.{arith}
use lib.ListN.{length, get_or}
use lib.Dec.{T}
use Rattle.names.specs.declared.Sizes.{Sizes}
use Rattle.rules.specs.Words.{row, bit}
use Rattle.rules.specs.Tables.{Tables, txn_words, version_words, version_row, clock, Txn, txn, set_txn, no_txn, live, live_relaxed, is_reader, a_relaxed, Reader, reader_in, readers, relaxed_in, lock, holds_exclusive}
use Rattle.rules.specs.Versions.{Version, no_version, versions_in, versions_of, stamp_at, hidden_at, hidden_now, sees, row_of, kept, rewritten, revealed}
use Rattle.rules.specs.Good.{Good, GoodVersions}
use Rattle.rules.specs.Tested.{last_seen, versions_good}
use Rattle.rules.specs.Step.{with_new}
use Rattle.rules.proofs.Tests.{same?, true_is}
use Rattle.rules.proofs.Counts.{mem_every}
use Rattle.rules.proofs.Bits.{→contains, without-bit}
use Rattle.rules.proofs.Views.{txn-set_txn, txn-set_txn-other, clock-set_txn}
use Rattle.rules.proofs.RowKinds.{live-number, reads_up_to, reads-outside}
use Rattle.rules.proofs.Choice.{length-versions_in, Falls, Falls→falls, Nests, Nests→nests}
use Rattle.rules.proofs.Trim.{kept_top}
use Rattle.rules.proofs.Trimmed.{row_of-good}
use Rattle.rules.proofs.Revealed.{NotOf, length-revealed, stamp-revealed, hidden-revealed, revealed-falls, revealed-nests, sees_there}
use Rattle.rules.proofs.Readers.{in_reader, readers-lt}
use Rattle.rules.proofs.Rewrites.{length-rewritten, row-rewritten, versions-rewritten}
use Rattle.rules.proofs.EqualVersions.{versions→Good, →relaxed}
use Rattle.rules.proofs.Carried.{reads_by}
use Rattle.rules.proofs.Notes.{Beside, beside_same}

-- ---- the rows afterwards: that of slot s is free, the others are as they were but for their notes
module _
    (S : Sizes) (t u : List ℕ) (s : ℕ) (inside : s < S.slots) (size : length u ≡ txn_words S) (beside : (r : ℕ) → r ≢ s → Beside (txn t r) (txn u r))
  where
    abbrev t' : List ℕ
    t' = set_txn u s no_txn

    pub gone_here : txn t' s ≡ no_txn
    gone_here = txn-set_txn u s no_txn S size inside

    pub gone_there : (r : ℕ) → r ≢ s → Beside (txn t r) (txn t' r)
    gone_there r d = subst (Beside (txn t r)) (sym (txn-set_txn-other u s no_txn r d)) (beside r d)

    pub gone-reader : is_reader (txn t' s) ≡ false
    unfolding is_reader live
    gone-reader = rw gone_here

    -- who is live is not s
    pub gone-live : (r : ℕ) → T (live (txn t' r)) → r ≢ s
    gone-live r h e = live-number (txn t' r) h (ap (λ (m : ℕ). (txn t' m).number) e ∙ ap (λ (w : Txn). w.number) gone_here)

    -- the others read, and are relaxed, as they were
    pub gone-reads : (r : ℕ) → r ≢ s → is_reader (txn t' r) ≡ is_reader (txn t r)
    unfolding is_reader live
    gone-reads r d = beside_same is_reader (λ r n w i m. refl) (txn t r) (txn t' r) (gone_there r d)

    pub gone-relaxed : (r : ℕ) → r ≢ s → live_relaxed (txn t' r) ≡ live_relaxed (txn t r)
    unfolding live_relaxed live
    gone-relaxed r d = beside_same live_relaxed (λ r n w i m. refl) (txn t r) (txn t' r) (gone_there r d)

    pub gone_how : (r : ℕ) → r ≢ s → reader_in t' r ≡ reader_in t r
    gone_how r d =
        reads_by t t' r (beside_same (λ (r : Txn). r.kind) (λ r n w i m. refl) (txn t r) (txn t' r) (gone_there r d))
        (beside_same (λ (r : Txn). r.start) (λ r n w i m. refl) (txn t r) (txn t' r) (gone_there r d))

    -- a reader that lives afterwards lived before
    pub gone_lives : (r : ℕ) → T (is_reader (txn t' r)) → (r ≢ s) × T (is_reader (txn t r))
    gone_lives r h = go (same? r s)
      where
        go : (r ≡ s) ⊎ (r ≢ s) → (r ≢ s) × T (is_reader (txn t r))
        go (inl e) = absurd (subst T (ap (λ (m : ℕ). is_reader (txn t' m)) e ∙ gone-reader) h)
        go (inr d) = (d, subst T (gone-reads r d) h)

    -- none of them is the relaxed query of slot s
    pub gone-others : (q : Reader) → Memᴰ q (readers S t') → NotOf s q
    gone-others q m =
        let i = in_reader S t' q m in
        subst (NotOf s) i.3 (of i.0 (gone_lives i.0 i.2).0 (same? (txn t' i.0).kind a_relaxed))
      where
        of : (r : ℕ) → r ≢ s → ((txn t' r).kind ≡ a_relaxed) ⊎ ((txn t' r).kind ≢ a_relaxed) → NotOf s (reader_in t' r)
        of r d (inl e) = subst (NotOf s) (sym (reads-outside t' r e)) d
        of r d (inr e) = subst (NotOf s) (sym (reads_up_to t' r e)) tt

    -- at most one reader less than there are slots is left
    pub gone-room : length (readers S t') < S.slots
    gone-room = readers-lt S t' s inside gone-reader

-- ---- a table of versions rewritten for the readers that are left
module _
    (S : Sizes) (enough : S.slots ≤ S.places) (G : Tables) (g : Good S G) (s : ℕ) (inside : s < S.slots)
    (u : List ℕ) (size : length u ≡ txn_words S) (beside : (r : ℕ) → r ≢ s → Beside (txn G.txns r) (txn u r)) (later : clock G.txns ≤ clock u)
  where
    abbrev w : List ℕ
    w = set_txn u s no_txn

    abbrev qs : List Reader
    qs = readers S w

    abbrev last_of : List Version → Version
    last_of vs = get_or vs (length vs - 1) no_version

    room : length qs < S.places
    room = let a = gone-room S G.txns u s inside size beside in omega arith

    clock_is : clock w ≡ clock u
    clock_is = clock-set_txn u s no_txn

    -- what a row asks, of the versions vs that are to be trimmed
    pub record Ready (vs : List Version) : Type 0 where
      pub some : 0 < length vs
      pub fall : Falls vs
      pub nest : Nests vs
      pub from_relaxed : (q : ℕ) → T (bit (hidden_at vs 0) q) → (q < S.slots) × T (live_relaxed (txn w q))
      pub first : stamp_at vs 0 ≤ clock u
      pub last : (q : Reader) → Memᴰ q qs → T (sees q (last_of vs))

    -- a relaxed query that is not s lives on
    relaxed_on : (q : ℕ) → q ≢ s → T (live_relaxed (txn G.txns q)) → T (live_relaxed (txn w q))
    relaxed_on q d h = subst T (sym (gone-relaxed S G.txns u s inside size beside q d)) h

    -- the readers that are left may read the last of a good row, as they could before
    last-seen : (r : List ℕ) → GoodVersions S G.txns r → (q : Reader) → Memᴰ q qs → T (sees q (last_of (versions_in S r)))
    last-seen r h q m =
        let i = in_reader S w q m in
        let a = gone_lives S G.txns u s inside size beside i.0 i.2 in
        subst (λ (p : Reader). T (sees p (last_of (versions_in S r)))) (sym (gone_how S G.txns u s inside size beside i.0 a.0) ∙ i.3)
        (h.last i.0 i.1 a.1)

    -- the versions of a good row with nothing hidden from s are ready
    pub revealed_ready : (r : List ℕ) → GoodVersions S G.txns r → Ready (revealed s (versions_in S r))
    unfolding Falls Nests
    revealed_ready r h =
        let vs = versions_in S r in
        let e = length-revealed s vs in
        record {
          some = let a = length-versions_in S r in let b = h.count_least in omega arith;
          fall = revealed-falls s vs h.fall;
          nest = revealed-nests s vs h.nest;
          from_relaxed = λ q b.
              let k = without-bit (hidden_at vs 0) s q (subst (λ (m : ℕ). T (bit m q)) (hidden-revealed s vs 0) b) in
              let m = h.from_relaxed 0 q k.1 in
              (m.0, relaxed_on q k.0 m.1);
          first = let a = h.first in let f = stamp-revealed s vs 0 in omega arith;
          last = λ q m.
              subst T (sym (sees_there s q (gone-others S G.txns u s inside size beside q m) vs (length (revealed s vs) - 1)))
              (subst (λ (n : ℕ). T (sees q (get_or vs (n - 1) no_version))) (sym e) (last-seen r h q m));
        }

    -- the versions of a good row are ready where s is no relaxed query
    module _ (strict : T (live_relaxed (txn G.txns s)) → ⊥) where
      other : (q : ℕ) → T (live_relaxed (txn G.txns q)) → q ≢ s
      other q h e = strict (subst (λ (m : ℕ). T (live_relaxed (txn G.txns m))) e h)

      pub old_ready : (r : List ℕ) → GoodVersions S G.txns r → Ready (versions_in S r)
      unfolding Falls Nests
      old_ready r h =
          record {
            some = let a = length-versions_in S r in let b = h.count_least in omega arith;
            fall = h.fall;
            nest = h.nest;
            from_relaxed = λ q b. let m = h.from_relaxed 0 q b in (m.0, relaxed_on q (other q m.1) m.1);
            first = let a = h.first in omega arith;
            last = last-seen r h;
          }

      -- a new version in front of a good row: its stamp is above the newest and at most the clock, and it is hidden from whom that is hidden
      pub new_ready :
          (v : Version) (r : List ℕ) → GoodVersions S G.txns r → stamp_at (versions_in S r) 0 < v.stamp → v.stamp ≤ clock u
          → ((q : ℕ) → T (bit (hidden_at (versions_in S r) 0) q) → T (bit v.hidden q))
          → ((q : ℕ) → T (bit v.hidden q) → (q < S.slots) × T (live_relaxed (txn G.txns q)))
          → Ready (v ∷ versions_in S r)
      unfolding Falls Nests stamp_at hidden_at
      new_ready v r h above most over relaxed = go (versions_in S r) (old_ready r h) above over
        where
          go :
              (vs : List Version) → Ready vs → stamp_at vs 0 < v.stamp → ((q : ℕ) → T (bit (hidden_at vs 0) q) → T (bit v.hidden q)) → Ready (v ∷ vs)
          go [] o b c = absurd (let a = o.some in omega arith)
          go (x ∷ xs) o b c =
              record {
                some = omega arith;
                fall = fall;
                nest = nest;
                from_relaxed = λ q k. let m = relaxed q k in (m.0, relaxed_on q (other q m.1) m.1);
                first = most;
                last = λ q m.
                    subst (λ (k : ℕ). T (sees q (get_or (v ∷ x ∷ xs) k no_version)))
                    (let e : suc (length (x ∷ xs) - 1) ≡ length (v ∷ x ∷ xs) - 1 = omega arith in e) (o.last q m);
              }
            where
              fall : (i j : ℕ) → i < j → j < length (v ∷ x ∷ xs) → stamp_at (v ∷ x ∷ xs) j < stamp_at (v ∷ x ∷ xs) i
              fall zero zero l k = absurd (omega arith)
              fall (suc i) zero l k = absurd (omega arith)
              fall zero (suc zero) l k = omega arith
              fall zero (suc (suc j)) l k = let a = o.fall 0 (suc j) (omega arith) (omega arith) in omega arith
              fall (suc i) (suc j) l k = o.fall i j (omega arith) (omega arith)

              nest : (i j : ℕ) → i < j → j < length (v ∷ x ∷ xs) → (q : ℕ) → T (bit (hidden_at (v ∷ x ∷ xs) j) q) → T (bit (hidden_at (v ∷ x ∷ xs) i) q)
              nest zero zero l k q b = absurd (omega arith)
              nest (suc i) zero l k q b = absurd (omega arith)
              nest zero (suc zero) l k q b = c q b
              nest zero (suc (suc j)) l k q b = c q (o.nest 0 (suc j) (omega arith) (omega arith) q b)
              nest (suc i) (suc j) l k q b = o.nest i j (omega arith) (omega arith) q b

      -- so are the versions of each item after a commit of slot s under the stamp c, whose sets are m
      pub committed_ready :
          (c m : ℕ) → ((x : ℕ) → x < S.items → T (holds_exclusive (lock G.locks x) s) → stamp_at (versions_of S G.versions x) 0 < c) → c ≤ clock u
          → ((x q : ℕ) → x < S.items → T (holds_exclusive (lock G.locks x) s) → T (bit (hidden_now S G.versions x) q) → T (bit m q))
          → ((q : ℕ) → T (bit m q) → (q < S.slots) × T (live_relaxed (txn G.txns q)))
          → (x : ℕ) → x < S.items → Ready (with_new G.locks s c m x (versions_in S (row (version_row S) x G.versions)))
      unfolding with_new versions_of hidden_now
      committed_ready c m above most over relaxed x i = pick (holds_exclusive (lock G.locks x) s) refl
        where
          r : List ℕ
          r = row (version_row S) x G.versions

          pick :
              (b : Bool) → holds_exclusive (lock G.locks x) s ≡ b
              → Ready (cond b (record { stamp = c; value = (lock G.locks x).working; hidden = m } ∷ versions_in S r) (versions_in S r))
          pick true e =
              new_ready (record { stamp = c; value = (lock G.locks x).working; hidden = m }) r (g.versions_good x i) (above x i (true_is e)) most
              (λ q b. over x q i (true_is e) b) relaxed
          pick false e = old_ready r (g.versions_good x i)

    trimmed : (vs : List Version) → Ready vs → T (versions_good S (clock w) qs (relaxed_in S w) (row_of S (kept qs vs)))
    unfolding stamp_at hidden_at last_seen
    trimmed [] h = absurd (let a = h.some in omega arith)
    trimmed (v ∷ vs) h =
        row_of-good S (clock w) qs (relaxed_in S w) v vs (Falls→falls (v ∷ vs) h.fall) (Nests→nests (v ∷ vs) h.nest)
        (→contains (relaxed_in S w) v.hidden (λ q b. let m = h.from_relaxed q b in →relaxed S w q m.0 m.1))
        (let a = h.first in let b = clock_is in omega arith)
        (mem_every (λ q. sees q (last_of (v ∷ vs))) qs h.last)
        room

    module _ (f : ℕ → List Version → List Version) (ready : (x : ℕ) → x < S.items → Ready (f x (versions_in S (row (version_row S) x G.versions)))) where
      pub rewritten-size : length (rewritten S qs f G.versions) ≡ version_words S
      rewritten-size = length-rewritten S qs f G.versions room g.versions_exact

      pub rewritten-good : (x : ℕ) → x < S.items → GoodVersions S w (row (version_row S) x (rewritten S qs f G.versions))
      rewritten-good x i =
          subst (λ (r : List ℕ). GoodVersions S w r) (sym (row-rewritten S qs f G.versions room g.versions_exact x i))
          (versions→Good S w _ (trimmed (f x (versions_in S (row (version_row S) x G.versions))) (ready x i)))

      -- the newest version of item x is the first of those that f gives
      pub rewritten-top :
          (x : ℕ) → x < S.items
          → get_or (versions_of S (rewritten S qs f G.versions) x) 0 no_version ≡ get_or (f x (versions_of S G.versions x)) 0 no_version
      rewritten-top x i =
          ap (λ (vs : List Version). get_or vs 0 no_version) (versions-rewritten S qs f G.versions room g.versions_exact x i)
          ∙ kept_top qs (f x (versions_of S G.versions x))
