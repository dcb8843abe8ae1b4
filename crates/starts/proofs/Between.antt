-- Which versions are read, where the starts are in order: one whose stamp a start has between it and the stamp before it, or that is
-- hidden from fewer than the one before it.
use Prim.Native.Nat.{ℕ, zero, suc, ◌<◌, ◌≤◌}
use mathlib.Core.Path.{◌≡◌, ap, ◌∙◌}
use mathlib.Core.Logic.{◌⊎◌, inl, inr}
use mathlib.Core.Bool.{Bool, ◌&&◌, ◌||◌, not}
use mathlib.Core.List.{List, Memᴰ}
use native.Mathlib.Omega.{arith}
use lib.ListN.{get_or, length}
use lib.Dec.{T, eqb, leb, ltb, ltb→lt}
use Rattle.rules.specs.Words.{some, some_below, bit}
use Rattle.rules.specs.Tables.{Reader}
use Rattle.rules.specs.Versions.{Version, no_version, stamp_at, hidden_at, read_by_some}
use Rattle.rules.proofs.Tests.{iff_eq, and_right}
use Rattle.rules.proofs.Counts.{some_mem, mem_some, some_below→, →some_below}
use Rattle.rules.proofs.Choice.{Falls, Nests, older_seen}
use Rattle.rules.proofs.Reading.{read_between}
use Rattle.starts.specs.Starts.{Split}
use Rattle.starts.specs.Ordered.{lanes, guard, InOrder, between}
use Rattle.starts.proofs.Split.{within, split_between}

-- the guards are no starts, but nothing is above them
pub in_order_lem : (us q : List ℕ) → InOrder us q → (lo hi : ℕ) → hi ≤ guard → within us lo hi ≡ between q lo hi
unfolding within between
in_order_lem us q ordered lo hi g = iff_eq (some inside us) (some_below lanes (λ k. inside (get_or q k 0))) to from
  where
    inside : ℕ → Bool
    inside s = leb lo s && ltb s hi

    to : T (some inside us) → T (some_below lanes (λ k. inside (get_or q k 0)))
    to t =
        let m = mem_some inside us t in
        let k = ordered.all m.0 m.1 in
        →some_below lanes (λ k. inside (get_or q k 0)) k.0 k.1 (rw k.2 m.2)

    from : T (some_below lanes (λ k. inside (get_or q k 0))) → T (some inside us)
    from t = let m = some_below→ lanes (λ k. inside (get_or q k 0)) t in go (get_or q m.0 0) m.2 (ordered.only m.0 m.1)
      where
        go : (s : ℕ) → T (inside s) → (s ≡ guard) ⊎ Memᴰ s us → T (some inside us)
        go s h (inl e) = absurd (let a = ltb→lt s hi (and_right (leb lo s) (ltb s hi) h) in omega arith)
        go s h (inr m) = some_mem inside m h

-- no stamp of a row that falls is above its first
pub first-most : (vs : List Version) → Falls vs → (top : ℕ) → stamp_at vs 0 ≤ top → (j : ℕ) → j < length vs → stamp_at vs j ≤ top
unfolding Falls
first-most vs fall top low zero h = low
first-most vs fall top low (suc j) h = let a = fall 0 (suc j) (omega arith) h in omega arith

-- what is hidden from relaxed queries alone in front is so throughout
pub first-known :
    (vs : List Version) → Nests vs → (m : ℕ) → ((i : ℕ) → T (bit (hidden_at vs 0) i) → T (bit m i)) → (j : ℕ) → j < length vs
    → (i : ℕ) → T (bit (hidden_at vs j) i) → T (bit m i)
unfolding Nests
first-known vs nest m known zero h i b = known i b
first-known vs nest m known (suc j) h i b = known i (nest 0 (suc j) (omega arith) h i b)

module _
    (qs : List Reader) (us : List ℕ) (m : ℕ) (split : Split qs us m) (vs : List Version) (fall : Falls vs) (nest : Nests vs)
    (known : (i : ℕ) → T (bit (hidden_at vs 0) i) → T (bit m i))
  where
    -- a version behind the newest has a reader
    pub read-within :
        (j : ℕ) → suc j < length vs
        → read_by_some qs vs (suc j) ≡ (within us (stamp_at vs (suc j)) (stamp_at vs j) || not (eqb (hidden_at vs j) (hidden_at vs (suc j))))
    unfolding Nests stamp_at hidden_at
    read-within j h =
        read_between vs j h (λ q i l. older_seen vs fall nest q i j (omega arith) (omega arith)) qs
        ∙ split_between qs us m split (get_or vs (suc j) no_version) (get_or vs j no_version) (nest j (suc j) (omega arith) h) (first-known vs nest m known j (omega arith))

    pub read_same :
        (q : List ℕ) → InOrder us q → stamp_at vs 0 ≤ guard → (j : ℕ) → suc j < length vs
        → read_by_some qs vs (suc j) ≡ (between q (stamp_at vs (suc j)) (stamp_at vs j) || not (eqb (hidden_at vs j) (hidden_at vs (suc j))))
    read_same q ordered low j h =
        read-within j h
        ∙ ap (λ (b : Bool). b || not (eqb (hidden_at vs j) (hidden_at vs (suc j))))
        (in_order_lem us q ordered (stamp_at vs (suc j)) (stamp_at vs j) (first-most vs fall guard low j (omega arith)))
