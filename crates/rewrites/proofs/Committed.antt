-- An update commits: the rows passed have the new versions and what the starts ask for, the others are as they were.
use Prim.Native.Nat.{ℕ, ◌+◌, ◌*◌, ◌<◌, ◌≤◌}
use mathlib.Core.Path.{◌≡◌, refl, sym, ap, ◌∙◌, subst}
use mathlib.Core.Bool.{Bool, true, false, cond}
use mathlib.Core.List.{List, ◌∷◌}
use native.Mathlib.Omega.{arith}
use lib.ListN.{length, get_or}
use lib.Dec.{T, eqb}
use Rattle.names.specs.Sizes.{base}
use Rattle.names.specs.Layout.{lock_exclusive_at, lock_working_at}
use Rattle.rules.specs.Words.{row, bit}
use Rattle.rules.specs.Tables.{version_row, lock_row, Reader}
use Rattle.rules.specs.Versions.{Version, versions_in, versions_of, stamp_at, hidden_at, row_of, kept, rewritten}
use Rattle.rules.specs.Tested.{all_read}
use Rattle.rules.specs.Step.{with_new}
use Rattle.rules.proofs.Choice.{length-versions_in}
use Rattle.rules.proofs.Trim.{kept_fixed}
use Rattle.packing.specs.Changed.{TidyRow, Frontable, fronted}
use Rattle.packing.proofs.Words.{row_same}
use Rattle.rewrites.specs.Written.{with_row, claimed, Reading, Committable}
use Rattle.rewrites.proofs.Table.{so_far, none_yet, all_done, row_so_far, one_more_lem, row_back}
use Rattle.rewrites.proofs.Kept.{front_kept, front_room, claimed_is}

-- the rows of cur below i
abbrev pub Committed : List ℕ → List ℕ → ℕ → ℕ → ℕ → ℕ → List ℕ → ℕ → Type 0
Committed v l owner stamp hidden below cur i = (qs : List Reader) → Reading v qs stamp hidden below → cur ≡ so_far qs (claimed l owner stamp hidden) v i

pub none_committed : (v l : List ℕ) (owner stamp hidden below : ℕ) → Committed v l owner stamp hidden below v 0
none_committed v l owner stamp hidden below = λ qs k. sym (none_yet qs (claimed l owner stamp hidden) v)

module _
    (v l : List ℕ) (s stamp hidden below : ℕ) (p : Committable v l s stamp hidden below) (cur : List ℕ) (i : ℕ)
    (f : Committed v l (s + 1) stamp hidden below cur i)
  where
    abbrev new : ℕ → List Version → List Version
    new = claimed l (s + 1) stamp hidden

    is : cur ≡ so_far p.readers new v i
    is = f p.readers p.reading

    pub all_committed :
        i ≤ base.items → base.items ≤ i → (qs : List Reader) → Reading v qs stamp hidden below → cur ≡ rewritten base qs (with_new l s stamp hidden) v
    all_committed a b qs k =
        f qs k
        ∙ ap (so_far qs new v) (let e : i ≡ base.items = omega arith in e)
        ∙ all_done qs new v
        ∙ ap (λ (g : ℕ → List Version → List Version). rewritten base qs g v) (claimed_is l s stamp hidden)

    module _ (inside : i < base.items) where
      next_row : row (version_row base) i cur ≡ row (version_row base) i v
      next_row = row_so_far p.readers new v p.reading.few p.tidy.size i inside cur is

      abbrev r : List ℕ
      r = row (version_row base) i cur

      abbrev vs : List Version
      vs = versions_in base r

      tidy : TidyRow (row (version_row base) i cur)
      tidy = subst TidyRow (sym next_row) (p.tidy.rows i inside)

      some : 0 < length (versions_in base (row (version_row base) i cur))
      some = let n = length-versions_in base r in let m = tidy.sound.least in omega arith

      abbrev held : Bool
      held = eqb (get_or l (lock_row * i + lock_exclusive_at) 0) (s + 1)

      newer : held ≡ true → stamp_at (versions_in base (row (version_row base) i cur)) 0 < stamp
      unfolding versions_of
      newer e = subst (λ (r : List ℕ). stamp_at (versions_in base r) 0 < stamp) (sym next_row) (p.newer i inside e)

      joined : held ≡ true → (i₁ : ℕ) → T (bit (hidden_at (versions_in base (row (version_row base) i cur)) 0) i₁) → T (bit hidden i₁)
      unfolding versions_of
      joined e = subst (λ (r : List ℕ). (i₁ : ℕ) → T (bit (hidden_at (versions_in base r) 0) i₁) → T (bit hidden i₁)) (sym next_row) (p.joined i inside e)

      trimmed : (qs : List Reader) → Reading v qs stamp hidden below → T (all_read qs (versions_in base (row (version_row base) i cur)) 0 (versions_in base (row (version_row base) i cur)))
      unfolding versions_of
      trimmed qs k = subst (λ (r : List ℕ). T (all_read qs (versions_in base r) 0 (versions_in base r))) (sym next_row) (k.read i inside)

      pub next_frontable : eqb (get_or l (lock_row * i + lock_exclusive_at) 0) (s + 1) ≡ true → (value : ℕ) → Frontable (row (version_row base) i cur) below stamp value hidden
      next_frontable e value =
          record {
            tidy = tidy;
            room = λ h.
                let n = length-versions_in base r in
                let k = p.reading in
                let m = front_room p.readers k.starts k.relaxed k.split (record { stamp = stamp; value = value; hidden = hidden }) below k.next k.beside k.known vs some (trimmed p.readers k) (newer e) (joined e) k.few h in
                omega arith;
          }

      module _ (value : ℕ) where
        abbrev pair : Version
        pair = record { stamp = stamp; value = value; hidden = hidden }

        -- with a new version and without
        one : (qs : List Reader) → Reading v qs stamp hidden below → (b : Bool) → (b ≡ true → stamp_at (versions_in base (row (version_row base) i cur)) 0 < stamp)
            → (b ≡ true → (i₁ : ℕ) → T (bit (hidden_at (versions_in base (row (version_row base) i cur)) 0) i₁) → T (bit hidden i₁))
            → cond b (with_row i (row_of base (fronted below pair vs)) cur) cur ≡ with_row i (row_of base (kept qs (cond b (pair ∷ vs) vs))) cur
        one qs k true n j =
            ap (λ (l : List Version). with_row i (row_of base l) cur) (front_kept qs k.starts k.relaxed k.split pair below k.next k.beside k.known vs some (trimmed qs k) (n refl) (j refl))
        one qs k false n j =
            sym
            (ap (λ (l : List Version). with_row i (row_of base l) cur) (kept_fixed qs vs (trimmed qs k))
            ∙ ap (λ (ws : List ℕ). with_row i ws cur) (sym (row_same r tidy))
            ∙ row_back i cur)

      pub one_committed :
          {next : List ℕ}
          → next
          ≡ cond (eqb (get_or l (lock_row * i + lock_exclusive_at) 0) (s + 1))
          (with_row i (row_of base (fronted below (record { stamp = stamp; value = get_or l (lock_row * i + lock_working_at) 0; hidden = hidden }) (versions_in base (row (version_row base) i cur)))) cur)
          cur
          → Committed v l (s + 1) stamp hidden below next (i + 1)
      one_committed e =
          λ qs k.
          e
          ∙ one (get_or l (lock_row * i + lock_working_at) 0) qs k (eqb (get_or l (lock_row * i + lock_exclusive_at) 0) (s + 1)) newer joined
          ∙ one_more_lem qs new v k.few p.tidy.size i inside cur (f qs k)
