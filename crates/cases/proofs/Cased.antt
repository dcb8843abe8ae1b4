-- What the numbers of a case give: its tables and their lengths.
use Prim.Native.Nat.{ℕ, ◌+◌, ◌-◌, ◌*◌, ◌<◌, ◌≤◌}
use mathlib.Core.Path.{◌≡◌, refl}
use mathlib.Core.Bool.{Bool, true, false, ◌&&◌}
use mathlib.Core.List.{List}
use native.Mathlib.Omega.{arith}
use lib.Dec.{eqb, leb}
use lib.ListN.{length, take, drop, get_or}
use borrow.Author.Tests.{leb-true, eqb-true, le-leb, lt-leb}
use Rattle.rules.specs.Tables.{tables}
use Rattle.call_words.specs.Calls.{known_kind}
use Rattle.numerals.proofs.Scans.{and_left, and_right}
use Rattle.cases.specs.Cases.{head_numbers, txns_room, locks_room, versions_room, number_bytes, longest_answer, tables_of, txns_length, locks_length, versions_length, is_case, Fits}

-- ---- the test

module _ (ns : List ℕ) where
  -- the kind, and the number of words
  abbrev pub rest_of : Bool → Bool
  rest_of kind = kind && eqb (head_numbers + txns_length ns + locks_length ns + versions_length ns) (length ns)

  abbrev rest : Bool
  rest = rest_of (known_kind (get_or ns 0 0))

  pub short_case : length ns < head_numbers → false ≡ is_case ns
  unfolding is_case
  short_case h = rw (lt-leb head_numbers (length ns) h)

  pub long-txns : head_numbers ≤ length ns → txns_room < txns_length ns → false ≡ is_case ns
  unfolding is_case
  long-txns h a = rw (le-leb head_numbers (length ns) h, lt-leb (txns_length ns) txns_room a)

  pub long-locks : head_numbers ≤ length ns → txns_length ns ≤ txns_room → locks_room < locks_length ns → false ≡ is_case ns
  unfolding is_case
  long-locks h a b = rw (le-leb head_numbers (length ns) h, le-leb (txns_length ns) txns_room a, lt-leb (locks_length ns) locks_room b)

  pub long-versions : head_numbers ≤ length ns → txns_length ns ≤ txns_room → locks_length ns ≤ locks_room → versions_room < versions_length ns → false ≡ is_case ns
  unfolding is_case
  long-versions h a b c = rw (le-leb head_numbers (length ns) h, le-leb (txns_length ns) txns_room a, le-leb (locks_length ns) locks_room b, lt-leb (versions_length ns) versions_room c)

  pub fitting : head_numbers ≤ length ns → txns_length ns ≤ txns_room → locks_length ns ≤ locks_room → versions_length ns ≤ versions_room → rest ≡ is_case ns
  unfolding is_case
  fitting h a b c = rw (le-leb head_numbers (length ns) h, le-leb (txns_length ns) txns_room a, le-leb (locks_length ns) locks_room b, le-leb (versions_length ns) versions_room c)

-- what the test says
pub record Case (ns : List ℕ) : Type 0 where
  pub head : head_numbers ≤ length ns
  pub txns : txns_length ns ≤ txns_room
  pub locks : locks_length ns ≤ locks_room
  pub versions : versions_length ns ≤ versions_room
  pub all : head_numbers + txns_length ns + locks_length ns + versions_length ns ≡ length ns

pub case_is : (ns : List ℕ) → is_case ns ≡ true → Case ns
unfolding is_case
case_is ns e =
    let a = leb head_numbers (length ns) in
    let b = leb (txns_length ns) txns_room in
    let c = leb (locks_length ns) locks_room in
    let d = leb (versions_length ns) versions_room in
    let abcd : (a && b && c && d) ≡ true = and_left (a && b && c && d) (rest ns) e in
    let abc : (a && b && c) ≡ true = and_left (a && b && c) d abcd in
    let ab : (a && b) ≡ true = and_left (a && b) c abc in
    let r : rest ns ≡ true = and_right (a && b && c && d) (rest ns) e in
    record {
      head = leb-true head_numbers (length ns) (and_left a b ab);
      txns = leb-true (txns_length ns) txns_room (and_right a b ab);
      locks = leb-true (locks_length ns) locks_room (and_right (a && b) c abc);
      versions = leb-true (versions_length ns) versions_room (and_right (a && b && c) d abcd);
      all = eqb-true (head_numbers + txns_length ns + locks_length ns + versions_length ns) (length ns) (and_right (known_kind (get_or ns 0 0)) (eqb (head_numbers + txns_length ns + locks_length ns + versions_length ns) (length ns)) r);
    }

-- three tables of these lengths, and the room for the answer line
pub fits_case : (ns : List ℕ) (at room : ℕ) → Case ns → {t l v : List ℕ} → length t ≡ txns_length ns → length l ≡ locks_length ns → length v ≡ versions_length ns → at + longest_answer ≤ room → Fits ns t l v × (at + number_bytes * length ns ≤ room)
fits_case ns at room k {t} {l} {v} a b c h =
    (record { txns = a; locks = b; versions = c; all = omega (arith, a, b, c, k.all) }, omega (arith, h, k.txns, k.locks, k.versions, k.all))

-- ---- the tables

module _ (ns t l v : List ℕ) (f : Fits ns t l v) where
  pub filled :
      {t' l' v' : List ℕ}
      → t' ≡ take ((head_numbers + length t) - head_numbers) (drop head_numbers ns)
      → l' ≡ take ((head_numbers + length t + length l) - (head_numbers + length t)) (drop (head_numbers + length t) ns)
      → v' ≡ take (length ns - (head_numbers + length t + length l)) (drop (head_numbers + length t + length l) ns)
      → tables t' l' v' ≡ tables_of ns
  unfolding tables_of
  filled a b c =
      let d : (head_numbers + length t) - head_numbers ≡ txns_length ns = omega (arith, f.txns) in
      let e : (head_numbers + length t + length l) - (head_numbers + length t) ≡ locks_length ns = omega (arith, f.locks) in
      let g : length ns - (head_numbers + length t + length l) ≡ versions_length ns = omega (arith, f.versions, f.all) in
      rw (a, b, c, d, e, g, f.txns, f.locks) refl
