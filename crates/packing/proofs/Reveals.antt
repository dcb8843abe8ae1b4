-- A relaxed query leaves: the row with nothing hidden from it any more, and the version that it read.
use Prim.Native.Nat.{ℕ, ◌+◌, ◌-◌, ◌*◌, ◌≤◌, ◌<◌}
use mathlib.Core.Path.{◌≡◌, refl, sym, ap, ◌∙◌, subst}
use mathlib.Core.Bool.{Bool, true, false, ◌||◌, not, cond}
use mathlib.Core.List.{List}
use native.Mathlib.Omega.{arith}
use lib.ListN.{length, get_or}
use lib.Dec.{T, eqb, ltb}
use borrow.Author.Tests.{eq-eqb, ne_eqb, ltb-true, ltb-false}
use Rattle.names.specs.Sizes.{base}
use Rattle.rules.specs.Words.{bit, without_bit}
use Rattle.rules.specs.Tables.{masks_at, outside}
use Rattle.rules.specs.Versions.{Version, no_version, versions_in, hidden_at, sees, place, revealed, row_of}
use Rattle.rules.proofs.Tests.{not_make, not_use}
use Rattle.rules.proofs.Bits.{without_none}
use Rattle.rules.proofs.Choice.{Falls, Nests, length-versions_in, versions_in-row_of, length-row_of, row_of-unused, row_of-unhidden, older_seen, place-fits, place_above}
use Rattle.rules.proofs.Revealed.{length-revealed, get_d_revealed, revealed_none, revealed-falls, revealed-nests}
use Rattle.rules.proofs.EqualVersions.{unhidden-past}
use Rattle.choices.specs.Pairs.{count_in, hidden_in}
use Rattle.choices.proofs.Read.{version_at, version_in, hidden_in_lem}
use Rattle.starts.specs.Ordered.{between}
use Rattle.packing.specs.Changed.{TidyRow, without, read_there, shown_to}
use Rattle.packing.specs.Moved.{Shown}
use Rattle.packing.proofs.Words.{row_is}
use Rattle.packing.proofs.Test.{own_stamp, stamp-before, own_hidden, hidden_before}

-- the row of versions that fall and are nested is tidy
pub tidy-row :
    (ws : List Version) → 1 ≤ length ws → length ws ≤ base.places → Falls ws → Nests ws → TidyRow (row_of base ws)
unfolding Falls Nests
tidy-row ws least most fall nest =
    let e = versions_in-row_of base ws most in
    let c = count in
    record {
      size = length-row_of base ws most;
      sound = record { least = omega arith; most = omega arith; fall = rw e fall; nest = rw e nest };
      unused = λ k h b. row_of-unused base ws most k (omega arith) b;
      unhidden = λ k h. row_of-unhidden base ws most k (omega arith);
    }
  where
    count : count_in (row_of base ws) ≡ length ws
    count = unfold row_of in refl

module _ (r : List ℕ) (t : TidyRow r) (s : ℕ) (found : place (outside s) (versions_in base r) < length (versions_in base r)) (k : ℕ) (is : k ≡ place (outside s) (versions_in base r)) where
  abbrev vs : List Version
  vs = versions_in base r

  fall : Falls vs
  unfolding Falls
  fall = t.sound.fall

  nest : Nests vs
  unfolding Nests
  nest = t.sound.nest

  pub read-inside : k < count_in r
  read-inside = let n = length-versions_in base r in omega arith

  -- what is newer than the version that it reads is hidden from it, the others are not
  hidden-newer : (i : ℕ) → i < k → T (bit (hidden_at vs i) s)
  unfolding sees hidden_at
  hidden-newer i h = go (bit (get_or vs i no_version).hidden s) refl
    where
      go : (b : Bool) → bit (get_or vs i no_version).hidden s ≡ b → T b
      go true e = tt
      go false e = absurd (place_above (outside s) vs i (omega arith) (not_make (bit (get_or vs i no_version).hidden s) (λ t. subst T e t)))

  shown_older : (i : ℕ) → k ≤ i → T (bit (hidden_at vs i) s) → ⊥
  unfolding sees hidden_at
  shown_older i h b =
      let l : i < length vs = past i b in
      not_use (bit (get_or vs i no_version).hidden s)
      (older_seen vs fall nest (outside s) (place (outside s) vs) i (omega arith) l (place-fits (outside s) vs found)) b
    where
      past : (i : ℕ) → T (bit (get_or vs i no_version).hidden s) → i < length vs
      past i b = unhidden-past vs i s b

  pub masks_set : (i : ℕ) → i < k → T (bit (get_or r (masks_at base + i) 0) s)
  masks_set i h = let n = read-inside in subst (λ (w : ℕ). T (bit w s)) (hidden_in_lem r i (omega arith)) (hidden-newer i h)

  -- it reads the newest: nothing is hidden from it
  pub none_hidden : k ≡ 0 → (q : List ℕ) → shown_to s q (versions_in base r) ≡ versions_in base r
  unfolding read_there
  none_hidden e q =
      rw (eq-eqb (place (outside s) vs) 0 (sym is ∙ e)) (revealed_none s vs (λ i b. shown_older i (omega arith) b))

  -- the masks of the newer ones are cleared
  module _ (w : List ℕ) (u : Shown r w s k) where
    pub shown-row : w ≡ row_of base (revealed s (versions_in base r))
    shown-row =
        let n = length-versions_in base r in
        let m = length-revealed s vs in
        let most = t.sound.most in
        row_is w (revealed s vs) (u.size ∙ t.size)
        (u.before 0 (omega arith) ∙ sym n ∙ sym m)
        (omega arith)
        (λ j h. one j (omega arith) (ltb j k) refl)
        (λ i h b. u.before i b ∙ t.unused i (omega arith) b)
        (λ i h. u.behind i (let z = read-inside in omega arith) ∙ t.unhidden i (omega arith))
      where
        mask : (j : ℕ) → j < count_in r → (b : Bool) → ltb j k ≡ b → hidden_in w j ≡ without_bit (hidden_in r j) s
        mask j h true e = u.shown j (ltb-true j k e)
        mask j h false e =
            let l = ltb-false j k e in
            u.behind j l
            ∙ sym (without_none (hidden_in r j) s (λ b. shown_older j l (subst (λ (w : ℕ). T (bit w s)) (sym (hidden_in_lem r j h)) b)))

        one : (j : ℕ) → j < count_in r → (b : Bool) → ltb j k ≡ b → version_at w j ≡ get_or (revealed s vs) j no_version
        one j h b e =
            let most = t.sound.most in
            (λ i.
            record {
              stamp = (u.before (j * 2 + 1) (omega arith)) i;
              value = (u.before (j * 2 + 2) (omega arith)) i;
              hidden = (mask j h b e) i;
            })
            ∙ sym (get_d_revealed s vs j ∙ ap (λ (v : Version). record { stamp = v.stamp; value = v.value; hidden = without_bit v.hidden s }) (version_in r j h))

    pub shown-tidy : TidyRow w
    shown-tidy =
        let n = length-versions_in base r in
        let m = length-revealed s vs in
        let a = t.sound.least in
        let b = t.sound.most in
        subst TidyRow (sym shown-row) (tidy-row (revealed s vs) (omega arith) (omega arith) (revealed-falls s vs fall) (revealed-nests s vs nest))

    pub shown-versions : versions_in base w ≡ revealed s (versions_in base r)
    shown-versions =
        let n = length-versions_in base r in
        let m = length-revealed s vs in
        let b = t.sound.most in
        ap (versions_in base) shown-row ∙ versions_in-row_of base (revealed s vs) (omega arith)

    pub shown-inside : k < count_in w
    shown-inside = let e = u.before 0 (omega arith) in let n = read-inside in omega arith

    -- the test on the words
    module _ (behind : 0 < k) (q : List ℕ) where
      abbrev test : Bool
      test =
          between q (get_or w (k * 2 + 1) 0) (get_or w (k * 2 + 1 - 2) 0)
          || not (eqb (get_or w (masks_at base + k - 1) 0) (get_or w (masks_at base + k) 0))

      test_is : test ≡ read_there q (revealed s (versions_in base r)) (place (outside s) (versions_in base r))
      unfolding read_there
      test_is =
          rw (own_stamp w k behind shown-inside, stamp-before w k behind shown-inside, hidden_before w k behind shown-inside, own_hidden w k behind shown-inside, shown-versions, ← is, ne_eqb k 0 (λ e. omega arith))

      pub shown_all :
          (between q (get_or w (k * 2 + 1) 0) (get_or w (k * 2 + 1 - 2) 0)
          || not (eqb (get_or w (masks_at base + k - 1) 0) (get_or w (masks_at base + k) 0))) ≡ true
          → w ≡ row_of base (shown_to s q (versions_in base r))
      shown_all e =
          shown-row ∙ sym (ap (λ (b : Bool). row_of base (cond b (revealed s vs) (without (place (outside s) vs) (revealed s vs)))) (sym test_is ∙ e))

      pub shown-less :
          (between q (get_or w (k * 2 + 1) 0) (get_or w (k * 2 + 1 - 2) 0)
          || not (eqb (get_or w (masks_at base + k - 1) 0) (get_or w (masks_at base + k) 0))) ≡ false
          → row_of base (without k (versions_in base w)) ≡ row_of base (shown_to s q (versions_in base r))
      shown-less e =
          ap (λ (ws : List Version). row_of base (without k ws)) shown-versions
          ∙ ap (λ (j : ℕ). row_of base (without j (revealed s vs))) is
          ∙ sym (ap (λ (b : Bool). row_of base (cond b (revealed s vs) (without (place (outside s) vs) (revealed s vs)))) (sym test_is ∙ e))
