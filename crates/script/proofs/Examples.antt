-- Lines of both kinds, computed.
use mathlib.Core.Path.{◌≡◌, refl}
use mathlib.Core.List.{[], ◌∷◌}
use Rattle.rules.specs.Answers as rules
use Rattle.script.specs.Words.{starts}
use Rattle.numerals.specs.Numbers.{digits_from, some_digits, number}
use Rattle.script.specs.Parse.{bare_of, one_of, two_of, three_of, first_of, spoken, parsed}
use Rattle.std.proofs.Common.{Some, None}

-- `update`
an_update_lem : parsed (117 ∷ 112 ∷ 100 ∷ 97 ∷ 116 ∷ 101 ∷ []) ≡ Some rules.BeginUpdate
unfolding parsed spoken starts first_of bare_of one_of two_of three_of number some_digits digits_from
an_update_lem = refl

-- `query`
a_query_lem : parsed (113 ∷ 117 ∷ 101 ∷ 114 ∷ 121 ∷ []) ≡ Some rules.BeginQuery
unfolding parsed spoken starts first_of bare_of one_of two_of three_of number some_digits digits_from
a_query_lem = refl

-- `read 2 5`
a_read : parsed (114 ∷ 101 ∷ 97 ∷ 100 ∷ 32 ∷ 50 ∷ 32 ∷ 53 ∷ []) ≡ Some (rules.Read 2 5)
unfolding parsed spoken starts first_of bare_of one_of two_of three_of number some_digits digits_from
a_read = refl

-- `write 1 5 77`
a_write : parsed (119 ∷ 114 ∷ 105 ∷ 116 ∷ 101 ∷ 32 ∷ 49 ∷ 32 ∷ 53 ∷ 32 ∷ 55 ∷ 55 ∷ []) ≡ Some (rules.Write 1 5 77)
unfolding parsed spoken starts first_of bare_of one_of two_of three_of number some_digits digits_from
a_write = refl

-- `commit 1`
a_commit : parsed (99 ∷ 111 ∷ 109 ∷ 109 ∷ 105 ∷ 116 ∷ 32 ∷ 49 ∷ []) ≡ Some (rules.Commit 1)
unfolding parsed spoken starts first_of bare_of one_of two_of three_of number some_digits digits_from
a_commit = refl

-- `abort 0017`
an_abort : parsed (97 ∷ 98 ∷ 111 ∷ 114 ∷ 116 ∷ 32 ∷ 48 ∷ 48 ∷ 49 ∷ 55 ∷ []) ≡ Some (rules.Abort 17)
unfolding parsed spoken starts first_of bare_of one_of two_of three_of number some_digits digits_from
an_abort = refl

-- `settle 3`
a_settle : parsed (115 ∷ 101 ∷ 116 ∷ 116 ∷ 108 ∷ 101 ∷ 32 ∷ 51 ∷ []) ≡ Some (rules.Settle 3)
unfolding parsed spoken starts first_of bare_of one_of two_of three_of number some_digits digits_from
a_settle = refl

-- `relaxed`
a_relaxed_lem : parsed (114 ∷ 101 ∷ 108 ∷ 97 ∷ 120 ∷ 101 ∷ 100 ∷ []) ≡ Some rules.BeginRelaxed
unfolding parsed spoken starts first_of bare_of one_of two_of three_of number some_digits digits_from
a_relaxed_lem = refl

-- `relaxed 1`
relaxed-numbered : parsed (114 ∷ 101 ∷ 108 ∷ 97 ∷ 120 ∷ 101 ∷ 100 ∷ 32 ∷ 49 ∷ []) ≡ None
unfolding parsed spoken starts first_of bare_of one_of two_of three_of number some_digits digits_from
relaxed-numbered = refl

-- `relax`
relaxed-cut : parsed (114 ∷ 101 ∷ 108 ∷ 97 ∷ 120 ∷ []) ≡ None
unfolding parsed spoken starts first_of bare_of one_of two_of three_of number some_digits digits_from
relaxed-cut = refl

-- `commit 18446744073709551615`
greatest-value : parsed (99 ∷ 111 ∷ 109 ∷ 109 ∷ 105 ∷ 116 ∷ 32 ∷ 49 ∷ 56 ∷ 52 ∷ 52 ∷ 54 ∷ 55 ∷ 52 ∷ 52 ∷ 48 ∷ 55 ∷ 51 ∷ 55 ∷ 48 ∷ 57 ∷ 53 ∷ 53 ∷ 49 ∷ 54 ∷ 49 ∷ 53 ∷ []) ≡ Some (rules.Commit 18446744073709551615)
unfolding parsed spoken starts first_of bare_of one_of two_of three_of number some_digits digits_from
greatest-value = refl

-- `commit 18446744073709551616`
one_above : parsed (99 ∷ 111 ∷ 109 ∷ 109 ∷ 105 ∷ 116 ∷ 32 ∷ 49 ∷ 56 ∷ 52 ∷ 52 ∷ 54 ∷ 55 ∷ 52 ∷ 52 ∷ 48 ∷ 55 ∷ 51 ∷ 55 ∷ 48 ∷ 57 ∷ 53 ∷ 53 ∷ 49 ∷ 54 ∷ 49 ∷ 54 ∷ []) ≡ None
unfolding parsed spoken starts first_of bare_of one_of two_of three_of number some_digits digits_from
one_above = refl

-- `80 bytes: commit 00..07`
eighty_bytes : parsed (99 ∷ 111 ∷ 109 ∷ 109 ∷ 105 ∷ 116 ∷ 32 ∷ 48 ∷ 48 ∷ 48 ∷ 48 ∷ 48 ∷ 48 ∷ 48 ∷ 48 ∷ 48 ∷ 48 ∷ 48 ∷ 48 ∷ 48 ∷ 48 ∷ 48 ∷ 48 ∷ 48 ∷ 48 ∷ 48 ∷ 48 ∷ 48 ∷ 48 ∷ 48 ∷ 48 ∷ 48 ∷ 48 ∷ 48 ∷ 48 ∷ 48 ∷ 48 ∷ 48 ∷ 48 ∷ 48 ∷ 48 ∷ 48 ∷ 48 ∷ 48 ∷ 48 ∷ 48 ∷ 48 ∷ 48 ∷ 48 ∷ 48 ∷ 48 ∷ 48 ∷ 48 ∷ 48 ∷ 48 ∷ 48 ∷ 48 ∷ 48 ∷ 48 ∷ 48 ∷ 48 ∷ 48 ∷ 48 ∷ 48 ∷ 48 ∷ 48 ∷ 48 ∷ 48 ∷ 48 ∷ 48 ∷ 48 ∷ 48 ∷ 48 ∷ 48 ∷ 48 ∷ 48 ∷ 48 ∷ 48 ∷ 48 ∷ 55 ∷ []) ≡ Some (rules.Commit 7)
unfolding parsed spoken starts first_of bare_of one_of two_of three_of number some_digits digits_from
eighty_bytes = refl

-- `81 bytes: commit 00..07`
eighty_one_bytes : parsed (99 ∷ 111 ∷ 109 ∷ 109 ∷ 105 ∷ 116 ∷ 32 ∷ 48 ∷ 48 ∷ 48 ∷ 48 ∷ 48 ∷ 48 ∷ 48 ∷ 48 ∷ 48 ∷ 48 ∷ 48 ∷ 48 ∷ 48 ∷ 48 ∷ 48 ∷ 48 ∷ 48 ∷ 48 ∷ 48 ∷ 48 ∷ 48 ∷ 48 ∷ 48 ∷ 48 ∷ 48 ∷ 48 ∷ 48 ∷ 48 ∷ 48 ∷ 48 ∷ 48 ∷ 48 ∷ 48 ∷ 48 ∷ 48 ∷ 48 ∷ 48 ∷ 48 ∷ 48 ∷ 48 ∷ 48 ∷ 48 ∷ 48 ∷ 48 ∷ 48 ∷ 48 ∷ 48 ∷ 48 ∷ 48 ∷ 48 ∷ 48 ∷ 48 ∷ 48 ∷ 48 ∷ 48 ∷ 48 ∷ 48 ∷ 48 ∷ 48 ∷ 48 ∷ 48 ∷ 48 ∷ 48 ∷ 48 ∷ 48 ∷ 48 ∷ 48 ∷ 48 ∷ 48 ∷ 48 ∷ 48 ∷ 48 ∷ 48 ∷ 55 ∷ []) ≡ None
unfolding parsed spoken starts first_of bare_of one_of two_of three_of number some_digits digits_from
eighty_one_bytes = refl

-- ``
empty_line : parsed ([]) ≡ None
unfolding parsed spoken starts first_of bare_of one_of two_of three_of number some_digits digits_from
empty_line = refl

-- `query `
trailing : parsed (113 ∷ 117 ∷ 101 ∷ 114 ∷ 121 ∷ 32 ∷ []) ≡ None
unfolding parsed spoken starts first_of bare_of one_of two_of three_of number some_digits digits_from
trailing = refl

-- `read 2  5`
double : parsed (114 ∷ 101 ∷ 97 ∷ 100 ∷ 32 ∷ 50 ∷ 32 ∷ 32 ∷ 53 ∷ []) ≡ None
unfolding parsed spoken starts first_of bare_of one_of two_of three_of number some_digits digits_from
double = refl

-- `read 2<9>5`
tabbed : parsed (114 ∷ 101 ∷ 97 ∷ 100 ∷ 32 ∷ 50 ∷ 9 ∷ 53 ∷ []) ≡ None
unfolding parsed spoken starts first_of bare_of one_of two_of three_of number some_digits digits_from
tabbed = refl

-- `query<13>`
returned : parsed (113 ∷ 117 ∷ 101 ∷ 114 ∷ 121 ∷ 13 ∷ []) ≡ None
unfolding parsed spoken starts first_of bare_of one_of two_of three_of number some_digits digits_from
returned = refl

-- `commit +1`
signed : parsed (99 ∷ 111 ∷ 109 ∷ 109 ∷ 105 ∷ 116 ∷ 32 ∷ 43 ∷ 49 ∷ []) ≡ None
unfolding parsed spoken starts first_of bare_of one_of two_of three_of number some_digits digits_from
signed = refl

-- `Query`
upper : parsed (81 ∷ 117 ∷ 101 ∷ 114 ∷ 121 ∷ []) ≡ None
unfolding parsed spoken starts first_of bare_of one_of two_of three_of number some_digits digits_from
upper = refl

-- `write 1 5`
too_few : parsed (119 ∷ 114 ∷ 105 ∷ 116 ∷ 101 ∷ 32 ∷ 49 ∷ 32 ∷ 53 ∷ []) ≡ None
unfolding parsed spoken starts first_of bare_of one_of two_of three_of number some_digits digits_from
too_few = refl

-- `commit 1 2`
too_many_lem : parsed (99 ∷ 111 ∷ 109 ∷ 109 ∷ 105 ∷ 116 ∷ 32 ∷ 49 ∷ 32 ∷ 50 ∷ []) ≡ None
unfolding parsed spoken starts first_of bare_of one_of two_of three_of number some_digits digits_from
too_many_lem = refl

-- `commit1`
no_space : parsed (99 ∷ 111 ∷ 109 ∷ 109 ∷ 105 ∷ 116 ∷ 49 ∷ []) ≡ None
unfolding parsed spoken starts first_of bare_of one_of two_of three_of number some_digits digits_from
no_space = refl

-- `commit`
word-only : parsed (99 ∷ 111 ∷ 109 ∷ 109 ∷ 105 ∷ 116 ∷ []) ≡ None
unfolding parsed spoken starts first_of bare_of one_of two_of three_of number some_digits digits_from
word-only = refl

-- ` query`
before : parsed (32 ∷ 113 ∷ 117 ∷ 101 ∷ 114 ∷ 121 ∷ []) ≡ None
unfolding parsed spoken starts first_of bare_of one_of two_of three_of number some_digits digits_from
before = refl
