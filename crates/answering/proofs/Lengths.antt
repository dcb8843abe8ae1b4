-- How long an answer is: a call leaves the lengths of its tables, so an answer has as many numbers as its case.
use Prim.Native.Nat.{ℕ, ◌+◌, ◌-◌, ◌*◌, ◌<◌, ◌≤◌}
use mathlib.Core.Path.{◌≡◌, refl, sym, subst, ◌∙◌}
use mathlib.Core.Bool.{Bool, true, false, cond, ◌&&◌}
use mathlib.Core.List.{List, [], ◌∷◌, ◌++◌}
use native.Mathlib.Omega.{arith}
use lib.Dec.{T, eqb, leb, ltb}
use lib.ListN.{length, take, drop, length-append, length-take}
use Rattle.names.specs.Sizes.{base}
use Rattle.rules.specs.Tables.{Tables}
use Rattle.rules.specs.Answers.{Call, Outcome}
use Rattle.rules.specs.Good.{Good}
use Rattle.rules.specs.Tested.{good}
use Rattle.rules.specs.Step.{step}
use Rattle.rules.proofs.Equal.{good→Good}
use Rattle.rules.proofs.Steps.{step-bad}
use Rattle.rules.proofs.Keeps.{keeps}
use Rattle.numerals.specs.Numbers.{digit, greatest}
use Rattle.numerals.specs.Print.{bad_line}
use Rattle.numerals.proofs.Decimals.{length-decimal, length-spaced}
use Rattle.number_lines.specs.Lines.{Held, reads, spoilt, digit_after, ends, after, held_by}
use Rattle.number_lines.specs.declared.scan.Scan.{Scan}
use Rattle.number_lines.specs.declared.scan.Scan.TheVariants.{Reads, Spoilt}
use Rattle.std.proofs.Common.{Some, None}
use Rattle.cases.specs.Cases.{head_numbers, most_numbers, number_bytes, call_of, tables_of, txns_length, locks_length, versions_length, is_case}
use Rattle.case_lines.specs.Answers.{tables_line, outcome_line, case_line, answer_to, answer_at, answer_at_end}
use Rattle.cases.proofs.Cased.{Case, case_is}

-- ---- the tables that a call leaves

pub record SameLengths (G H : Tables) : Type 0 where
  pub txns : length H.txns ≡ length G.txns
  pub locks : length H.locks ≡ length G.locks
  pub versions : length H.versions ≡ length G.versions

step_lengths : (m : Call) (G : Tables) → SameLengths G (step base m G).after
step_lengths m G = go (good base G) refl
  where
    go : (g : Bool) → good base G ≡ g → SameLengths G (step base m G).after
    go true e =
        let old : Good base G = good→Good base G (subst T (sym e) tt) in
        let new : Good base (step base m G).after = keeps base (omega arith) m G old in
        record { txns = new.txns_exact ∙ sym old.txns_exact; locks = new.locks_exact ∙ sym old.locks_exact; versions = new.versions_exact ∙ sym old.versions_exact }
    go false e = rw (step-bad base m G e) (record { txns = refl; locks = refl; versions = refl })

-- ---- an answer

outcome-most : (o : Outcome) → length (outcome_line o) ≤ number_bytes * (head_numbers + length o.after.txns + length o.after.locks + length o.after.versions)
unfolding outcome_line tables_line
outcome-most o =
    let t = o.after.txns in
    let l = o.after.locks in
    let v = o.after.versions in
    let head = o.answer.value ∷ o.answer.number ∷ o.answer.looked ∷ length t ∷ length l ∷ length v ∷ [] in
    simp length-append (omega (arith, length-decimal o.answer.code, length-spaced head, length-spaced t, length-spaced l, length-spaced v))

table_most : (n : ℕ) (ns : List ℕ) → length (take n ns) ≤ n
table_most n ns = omega (arith, length-take n ns)

case_most : (ns : List ℕ) → is_case ns ≡ true → length (case_line ns) ≤ number_bytes * length ns
unfolding case_line tables_of
case_most ns e =
    let k : Case ns = case_is ns e in
    let G = tables_of ns in
    let s = step_lengths (call_of ns) G in
    omega
    (arith, outcome-most (step base (call_of ns) G), s.txns, s.locks, s.versions, k.all, table_most (txns_length ns) (drop head_numbers ns), table_most (locks_length ns) (drop (head_numbers + txns_length ns) ns), table_most (versions_length ns) (drop (head_numbers + txns_length ns + locks_length ns) ns))

answer-most : (ns : List ℕ) → 0 < length ns → length (answer_to ns) ≤ number_bytes * length ns
unfolding answer_to
answer-most ns h = go (is_case ns) refl
  where
    go : (g : Bool) → is_case ns ≡ g → length (cond (is_case ns) (case_line ns) bad_line) ≤ number_bytes * length ns
    go true e = rw e (case_most ns e)
    go false e = rw e (omega arith)

-- ---- what is read of a line

-- the numbers that are ended
unfoldable pub numbers : Held → ℕ
numbers (reads ns v g) = length ns
numbers spoilt = 0

numbers-cond : (g : Bool) (h k : Held) (n : ℕ) → numbers h ≤ n → numbers k ≤ n → numbers (cond g h k) ≤ n
numbers-cond true h k n a b = a
numbers-cond false h k n a b = b

ends-most : (room : ℕ) (h : Held) → numbers (ends room h) ≤ numbers h + 1
unfolding numbers ends
ends-most room (reads ns v true) = numbers-cond (ltb (length ns) room) (reads (ns ++ (v ∷ [])) 0 false) spoilt (length ns + 1) (simp length-append (omega arith)) (omega arith)
ends-most room (reads ns v false) = omega arith
ends-most room spoilt = omega arith

digit-most : (b : ℕ) (h : Held) → numbers (digit_after b h) ≤ numbers h + 1
unfolding numbers digit_after
digit-most b (reads ns v g) = numbers-cond (digit b && leb (v * 10 + (b - 48)) greatest) (reads ns (v * 10 + (b - 48)) true) spoilt (length ns + 1) (omega arith) (omega arith)
digit-most b spoilt = omega arith

-- a byte ends one number at most
pub after-most : (room b : ℕ) (h : Held) → numbers (after room h b) ≤ numbers h + 1
unfolding after
after-most room b h = numbers-cond (eqb b 32) (ends room h) (digit_after b h) (numbers h + 1) (ends-most room h) (digit-most b h)

-- no more are kept than there are words
pub held-most : (words : List ℕ) (s : Scan) → numbers (held_by words s) ≤ length words
unfolding held_by numbers
held-most words (Reads (Some v) n) = omega (arith, length-take n words)
held-most words (Reads None n) = omega (arith, length-take n words)
held-most words Spoilt = omega arith

-- the end of a line ends one more
kept-most : (g : Bool) (ns : List ℕ) (v : ℕ) → length (answer_at (cond g (reads (ns ++ (v ∷ [])) 0 false) spoilt)) ≤ number_bytes * (length ns + 1)
unfolding answer_at
kept-most true ns v = let n = length-append ns (v ∷ []) in omega (arith, answer-most (ns ++ (v ∷ [])) (omega arith))
kept-most false ns v = omega arith

pub end_most : (h : Held) → length (answer_at_end h) ≤ number_bytes * (numbers h + 1)
unfolding answer_at_end numbers ends answer_at
end_most (reads ns v true) = kept-most (ltb (length ns) most_numbers) ns v
end_most (reads ns v false) = omega arith
end_most spoilt = omega arith
