-- What is kept of a row is in order as it was, every reader may still read the last of it, and its words are a good row.
use Prim.Native.Nat.{ℕ, suc, ◌+◌, ◌-◌, ◌*◌, ◌≤◌, ◌<◌}
use mathlib.Core.Path.{◌≡◌, refl, sym, ap, ◌∙◌, subst}
use mathlib.Core.Bool.{Bool, true, false, ◌||◌, cond}
use mathlib.Core.List.{List, [], ◌∷◌, Memᴰ}
use native.Mathlib.Omega.{arith}
use lib.ListN.{length, get_or, take, drop, length-take, get_or-eq_default}
use lib.Seq.{get_or-drop, get_or-take}
use lib.Dec.{T, eqb, leb, ltb, ltb→lt, lt→ltb, le→leb}
use borrow.Author.Tests.{ltb-true, ltb-false}
use Rattle.names.specs.declared.Sizes.{Sizes}
use Rattle.rules.specs.Words.{every, contains}
use Rattle.rules.specs.Tables.{Reader, masks_at}
use Rattle.rules.specs.Versions.{Version, no_version, versions_in, row_of, stamp_at, hidden_at, sees, place, read_by_some, kept_from, kept}
use Rattle.rules.specs.Tested.{falls, nests, last_seen, versions_good}
use Rattle.rules.proofs.Tests.{and_left, and_right, and_both}
use Rattle.rules.proofs.Bits.{contains→, →contains}
use Rattle.rules.proofs.Counts.{every_mem, mem_every}
use Rattle.rules.proofs.Choice.{versions_in-row_of, row_of-unused, row_of-unhidden, zero_all, falls→Falls, nests→Nests, older_seen, place-fits, place_exists}
use Rattle.rules.proofs.Trim.{kept-first, kept-found, kept_read, length-kept}

-- ---- stamps still fall
falls_skip : (v w : Version) (rest : List Version) → T (falls (v ∷ w ∷ rest)) → T (falls (v ∷ rest))
unfolding falls
falls_skip v w [] h = tt
falls_skip v w (u ∷ rest) h =
    let a = ltb→lt w.stamp v.stamp (and_left (ltb w.stamp v.stamp) (falls (w ∷ u ∷ rest)) h) in
    let k = and_right (ltb w.stamp v.stamp) (falls (w ∷ u ∷ rest)) h in
    let b = ltb→lt u.stamp w.stamp (and_left (ltb u.stamp w.stamp) (falls (u ∷ rest)) k) in
    and_both (ltb u.stamp v.stamp) (falls (u ∷ rest))
    (lt→ltb u.stamp v.stamp (omega arith))
    (and_right (ltb u.stamp w.stamp) (falls (u ∷ rest)) k)

module _ (qs : List Reader) (vs : List Version) where
  kept-falls-from : (k : ℕ) (v : Version) (rest : List Version) → T (falls (v ∷ rest)) → T (falls (v ∷ kept_from qs vs k rest))
  unfolding kept_from falls
  kept-falls-from k v [] h = tt
  kept-falls-from k v (w ∷ rest) h =
      go (eqb k 0 || read_by_some qs vs k)
      (kept-falls-from (suc k) w rest (and_right (ltb w.stamp v.stamp) (falls (w ∷ rest)) h))
      (kept-falls-from (suc k) v rest (falls_skip v w rest h))
    where
      rest' : List Version
      rest' = kept_from qs vs (suc k) rest

      go : (b : Bool) → T (falls (w ∷ rest')) → T (falls (v ∷ rest')) → T (falls (v ∷ cond b (w ∷ rest') rest'))
      go true x y =
          and_both (ltb w.stamp v.stamp) (falls (w ∷ rest'))
          (and_left (ltb w.stamp v.stamp) (falls (w ∷ rest)) h)
          x
      go false x y = y

pub kept-falls : (qs : List Reader) (vs : List Version) → T (falls vs) → T (falls (kept qs vs))
unfolding kept kept_from
kept-falls qs [] d = d
kept-falls qs (v ∷ vs) d = kept-falls-from qs (v ∷ vs) 1 v vs d

-- ---- sets stay nested
nests_skip : (v w : Version) (rest : List Version) → T (nests (v ∷ w ∷ rest)) → T (nests (v ∷ rest))
unfolding nests
nests_skip v w [] h = tt
nests_skip v w (u ∷ rest) h =
    let a = contains→ v.hidden w.hidden (and_left (contains v.hidden w.hidden) (nests (w ∷ u ∷ rest)) h) in
    let k = and_right (contains v.hidden w.hidden) (nests (w ∷ u ∷ rest)) h in
    let b = contains→ w.hidden u.hidden (and_left (contains w.hidden u.hidden) (nests (u ∷ rest)) k) in
    and_both (contains v.hidden u.hidden) (nests (u ∷ rest))
    (→contains v.hidden u.hidden (λ q z. a q (b q z)))
    (and_right (contains w.hidden u.hidden) (nests (u ∷ rest)) k)

module _ (qs : List Reader) (vs : List Version) where
  kept-nests-from : (k : ℕ) (v : Version) (rest : List Version) → T (nests (v ∷ rest)) → T (nests (v ∷ kept_from qs vs k rest))
  unfolding kept_from nests
  kept-nests-from k v [] h = tt
  kept-nests-from k v (w ∷ rest) h =
      go (eqb k 0 || read_by_some qs vs k)
      (kept-nests-from (suc k) w rest (and_right (contains v.hidden w.hidden) (nests (w ∷ rest)) h))
      (kept-nests-from (suc k) v rest (nests_skip v w rest h))
    where
      rest' : List Version
      rest' = kept_from qs vs (suc k) rest

      go : (b : Bool) → T (nests (w ∷ rest')) → T (nests (v ∷ rest')) → T (nests (v ∷ cond b (w ∷ rest') rest'))
      go true x y =
          and_both (contains v.hidden w.hidden) (nests (w ∷ rest'))
          (and_left (contains v.hidden w.hidden) (nests (w ∷ rest)) h)
          x
      go false x y = y

pub kept-nests : (qs : List Reader) (vs : List Version) → T (nests vs) → T (nests (kept qs vs))
unfolding kept kept_from
kept-nests qs [] d = d
kept-nests qs (v ∷ vs) d = kept-nests-from qs (v ∷ vs) 1 v vs d

-- ---- every reader may read the last: said by what each finds
pub seen→found :
    (qs : List Reader) (vs : List Version) → 0 < length vs → T (last_seen qs vs) → (q : Reader) → Memᴰ q qs → place q vs < length vs
unfolding last_seen
seen→found qs vs h o q m = place_exists q vs h (every_mem (λ q. sees q (get_or vs (length vs - 1) no_version)) o m)

pub found→seen :
    (qs : List Reader) (vs : List Version) → T (falls vs) → T (nests vs) → ((q : Reader) → Memᴰ q qs → place q vs < length vs) → T (last_seen qs vs)
unfolding last_seen
found→seen qs vs d n f =
    mem_every (λ q. sees q (get_or vs (length vs - 1) no_version)) qs
    (λ q m.
    let l = f q m in
    older_seen vs (falls→Falls vs d) (nests→Nests vs n) q (place q vs) (length vs - 1) (omega arith) (omega arith) (place-fits q vs l))

pub kept_seen :
    (qs : List Reader) (v : Version) (vs : List Version) → T (falls (v ∷ vs)) → T (nests (v ∷ vs)) → T (last_seen qs (v ∷ vs))
    → T (last_seen qs (kept qs (v ∷ vs)))
kept_seen qs v vs d n o =
    found→seen qs (kept qs (v ∷ vs)) (kept-falls qs (v ∷ vs) d) (kept-nests qs (v ∷ vs) n)
    (λ q m. kept-found qs (v ∷ vs) q m (seen→found qs (v ∷ vs) (omega arith) o q m))

-- ---- the words of what is kept are a good row
module _ (S : Sizes) (vs : List Version) (room : length vs ≤ S.places) where
  unused : T (every (λ w. eqb w 0) (drop (1 + 2 * length vs) (take (masks_at S) (row_of S vs))))
  unused =
      let n = 1 + 2 * length vs in
      zero_all (drop n (take (masks_at S) (row_of S vs)))
      (λ j. get_or-drop n (take (masks_at S) (row_of S vs)) j 0 ∙ before (n + j) (omega arith))
    where
      before : (k : ℕ) → 2 * length vs < k → get_or (take (masks_at S) (row_of S vs)) k 0 ≡ 0
      before k h = go (ltb k (masks_at S)) refl
        where
          go : (b : Bool) → ltb k (masks_at S) ≡ b → get_or (take (masks_at S) (row_of S vs)) k 0 ≡ 0
          go true e = let l = ltb-true k (masks_at S) e in get_or-take (masks_at S) (row_of S vs) k 0 l ∙ row_of-unused S vs room k h l
          go false e =
              get_or-eq_default (take (masks_at S) (row_of S vs)) 0
              (let l = ltb-false k (masks_at S) e in rw length-take (omega arith))

  unhidden : T (every (λ w. eqb w 0) (drop (masks_at S + length vs) (row_of S vs)))
  unhidden =
      let n = masks_at S + length vs in
      zero_all (drop n (row_of S vs))
      (λ j.
      get_or-drop n (row_of S vs) j 0
      ∙ ap (λ (k : ℕ). get_or (row_of S vs) k 0) (let e : n + j ≡ masks_at S + (length vs + j) = omega arith in e)
      ∙ row_of-unhidden S vs room (length vs + j) (omega arith))

module _ (S : Sizes) (now : ℕ) (qs : List Reader) (m : ℕ) (v : Version) (vs : List Version) where
  abbrev all : List Version
  all = v ∷ vs

  pub row_of-good :
      T (falls (v ∷ vs)) → T (nests (v ∷ vs)) → T (contains m v.hidden) → v.stamp ≤ now → T (last_seen qs (v ∷ vs)) → length qs < S.places
      → T (versions_good S now qs m (row_of S (kept qs (v ∷ vs))))
  unfolding versions_good stamp_at hidden_at
  row_of-good d e h n o f =
      let k = kept qs all in
      let r = row_of S k in
      let c = kept-first qs v vs in
      let s : length k ≡ suc (length (kept_from qs all 1 vs)) = ap length c in
      let b = length-kept qs all in
      let room : length k ≤ S.places = omega arith in
      let i : versions_in S r ≡ k = versions_in-row_of S k room in
      let g : get_or r 0 0 ≡ length k = count k in
      and_both (leb 1 (get_or r 0 0)) _ (le→leb 1 (get_or r 0 0) (omega arith))
      (and_both (leb (get_or r 0 0) S.places) _ (le→leb (get_or r 0 0) S.places (omega arith))
      (and_both (every (λ w. eqb w 0) (drop (1 + 2 * get_or r 0 0) (take (masks_at S) r))) _ (rw g (unused S k room))
      (and_both (every (λ w. eqb w 0) (drop (masks_at S + get_or r 0 0) r)) _ (rw g (unhidden S k room))
      (rw i
      (and_both (falls k) _ (kept-falls qs all d)
      (and_both (nests k) _ (kept-nests qs all e)
      (and_both (contains m (hidden_at k 0)) _ (subst (λ (l : List Version). T (contains m (hidden_at l 0))) (sym c) h)
      (and_both (leb (stamp_at k 0) now) _
      (le→leb (stamp_at k 0) now (subst (λ (l : List Version). stamp_at l 0 ≤ now) (sym c) n))
      (and_both (last_seen qs k) _ (kept_seen qs v vs d e o) (kept_read qs all))))))))))
    where
      count : (l : List Version) → get_or (row_of S l) 0 0 ≡ length l
      count l = unfold row_of in refl
