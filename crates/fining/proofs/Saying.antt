-- What the lines have come to says the text that is put out.
use Prim.Native.Nat.{ℕ, zero, suc, ◌+◌, ◌-◌, ◌*◌, ◌<◌, ◌≤◌}
use mathlib.Core.Path.{◌≡◌, refl, sym, ap, ap₂, ◌∙◌}
use mathlib.Core.Bool.{Bool, true, false, cond}
use mathlib.Core.List.{List, [], ◌∷◌, ◌++◌}
use native.Mathlib.Omega.{arith}
use lib.ListN.{length, get_or, take, replicate}
use lib.Seq.{take_at}
use borrow.Author.Tests.{lt-ltb, le-ltb}
use Rattle.rules.specs.Words.{some}
use Rattle.line_words.specs.Said.{Said}
use Rattle.line_words.proofs.Keeping.{counted-short, counted-long, short_or_long}
use Rattle.op_lines.specs.Says.{Operation}
use Rattle.std.specs.Prelude.{Some, None}
use Rattle.told_lines.specs.Lines.{said_in, first_bad, bad_line, bad_text, unknown_words}
use Rattle.told_lines.specs.Names.{unpadded, KeepsNames}
use Rattle.told_lines.proofs.Counting.{bad_some, bad_none}
use Rattle.told_lines.proofs.Names.{unpadded-padded, plain_at}
use Rattle.finest.specs.Operations as finest
use Rattle.finest.specs.Finest.{finest_cut}
use Rattle.finest.specs.Choppings.{passing, leads, leaders, piece_by}
use Rattle.finest.specs.Rows.{operations_in, cut, rows_cut, shows, said}
use Rattle.finest.specs.declared.Named.{Named}
use Rattle.finest.proofs.Writing.{rows_cut_lem, length_cut}
use Rattle.cut_lines.specs.Text.{line_at, lines_at, cut_text, piece_line, places_of}
use Rattle.cut_lines.specs.Given.{name_in}
use Rattle.fining.specs.Programs.{unknown, names_of, numbered_from, numbered}
use Rattle.fining.specs.Told.{too_many_words, pieces_text, found_text, text_of}
use Rattle.fining.specs.Life.{row_words, Holds, Counts}
use Rattle.fining.specs.declared.operations.Operations.{Operations}
use Rattle.fining.specs.declared.tally.Tally.{Tally}
use Rattle.fining.proofs.Rows.{names-length}
use Rattle.fining.proofs.Words.{rows-number, operations-back, not_malformed, not_unknown, numbered-length}

-- ---- names as rows

-- the same names make the same text
lines-named : (f g : ℕ → List ℕ) (os : List finest.Operation) (c : List ℕ) (p : ℕ → Bool) (i n : ℕ) → ((x : ℕ) → i ≤ x → x < i + n → f x ≡ g x) → lines_at f os c (passing p i n) ≡ lines_at g os c (passing p i n)
unfolding passing lines_at line_at
lines-named f g os c p i zero h = refl
lines-named f g os c p i (suc n) h = go (p i) (h i (omega arith) (omega arith)) (lines-named f g os c p (suc i) n (λ x a b. h x (omega arith) (omega arith)))
  where
    go : (t : Bool) → f i ≡ g i → lines_at f os c (passing p (suc i) n) ≡ lines_at g os c (passing p (suc i) n)
        → lines_at f os c (cond t (i ∷ passing p (suc i) n) (passing p (suc i) n)) ≡ lines_at g os c (cond t (i ∷ passing p (suc i) n) (passing p (suc i) n))
    go true e r = ap₂ ◌++◌ (ap (λ (l : List ℕ). piece_line l (piece_by os c i) (places_of os c i)) e) r
    go false e r = r

name_is : (ns : List (List ℕ)) (names : List ℕ) → KeepsNames ns names → (i : ℕ) → i < length ns → name_in names i ≡ get_or ns i []
unfolding name_in
name_is ns names k i h = ap unpadded (k.rows i h) ∙ unpadded-padded (get_or ns i []) (plain_at ns i k.plain h)

cut-named : (os : List Operation) (names : List ℕ) → KeepsNames (names_of os) names → cut_text (name_in names) (numbered os) (finest_cut (numbered os)) ≡ pieces_text os
unfolding cut_text pieces_text leaders numbered
cut-named os names k =
    let qs = numbered_from [] os in
    lines-named (name_in names) (λ i. get_or (names_of os) i []) qs (finest_cut qs) (leads qs (finest_cut qs)) 0 (length qs)
    (λ x a b. name_is (names_of os) names k x (omega (arith, numbered-length os [], names-length os)))

-- ---- the finest cut of the rows

module _ (os : List Operation) (few : length os ≤ finest.most) (known : some unknown os ≡ false) where
  cut_is : rows_cut (row_words (numbered os)) ≡ cut (finest_cut (numbered os))
  unfolding numbered
  cut_is =
      rows_cut_lem (row_words (numbered_from [] os)) (omega (arith, rows-number (numbered_from [] os), numbered-length os [])) (not_unknown os known) (not_malformed (numbered_from [] os))
      ∙ ap (λ (qs : List finest.Operation). cut (finest_cut qs)) (operations-back (numbered_from [] os))

  names-are : (n : Named) → n ≡ said (rows_cut (row_words (numbered os))) → take (length os) n.names ≡ finest_cut (numbered os)
  unfolding said shows numbered
  names-are n e =
      ap (λ (m : Named). take (length os) m.names) (e ∙ ap said cut_is)
      ∙ take_at (finest_cut (numbered os)) (replicate (finest.most - length (finest_cut (numbered os))) 0) (length os) (length_cut (numbered os) ∙ numbered-length os [])

-- ---- the count

pub many : (os : List Operation) (s : Operations) → Holds os s → 32 < s.count → 32 < length os
many os s k h = short_or_long (length os) (λ l. absurd (omega (arith, k.count, counted-short (length os) l))) (λ l. l)

pub few : (os : List Operation) (s : Operations) → Holds os s → s.count ≤ 32 → (length os ≤ 32) × (s.count ≡ length os)
few os s k h =
    short_or_long (length os)
    (λ l. (l, k.count ∙ counted-short (length os) l))
    (λ l. absurd (omega (arith, k.count, counted-long (length os) l)))

-- ---- what is said

pub text_bad : (ss : List (Said Operation)) (b : ℕ) → Some b ≡ bad_line (first_bad ss) → bad_text b ≡ text_of ss
unfolding text_of
text_bad ss b e =
    let k = bad_some (first_bad ss) e in
    rw (lt-ltb 0 (first_bad ss) k.0) (ap bad_text k.1)

text_good : (ss : List (Said Operation)) → None ≡ bad_line (first_bad ss) → found_text (said_in ss) ≡ text_of ss
unfolding text_of
text_good ss e =
    let z = bad_none (first_bad ss) e in
    rw (le-ltb 0 (first_bad ss) (omega arith)) refl

module _ (ss : List (Said Operation)) (t : Tally) (k : Counts ss t) (good : t.bad ≡ None) where
  pub said-many : 32 < t.operations.count → too_many_words ≡ text_of ss
  unfolding found_text
  said-many h =
      let m = many (said_in ss) t.operations k.kept h in
      sym (ap (λ (b : Bool). cond b too_many_words (cond (some unknown (said_in ss)) unknown_words (pieces_text (said_in ss)))) (lt-ltb 32 (length (said_in ss)) m))
      ∙ text_good ss (sym good ∙ k.bad)

  module _ (h : t.operations.count ≤ 32) where
    small : length (said_in ss) ≤ 32
    small = (few (said_in ss) t.operations k.kept h).0

    pub said-unknown : t.operations.unknown ≡ true → unknown_words ≡ text_of ss
    unfolding found_text
    said-unknown e =
        sym (ap₂ (λ (b c : Bool). cond b too_many_words (cond c unknown_words (pieces_text (said_in ss)))) (le-ltb 32 (length (said_in ss)) small) (sym k.kept.unknown ∙ e))
        ∙ text_good ss (sym good ∙ k.bad)

    rows_are : take (t.operations.count * 4) t.operations.rows ≡ row_words (numbered (said_in ss))
    unfolding numbered
    rows_are =
        let f = few (said_in ss) t.operations k.kept h in
        ap (λ (n : ℕ). take (n * 4) t.operations.rows) f.1 ∙ (k.kept.holding f.0).rows

    pub said-cut : t.operations.unknown ≡ false → (n : Named) → n ≡ said (rows_cut (take (t.operations.count * 4) t.operations.rows)) → cut_text (name_in t.operations.names) (operations_in (take (t.operations.count * 4) t.operations.rows)) (take t.operations.count n.names) ≡ text_of ss
    unfolding found_text
    said-cut e n q =
        let os = said_in ss in
        let f = few os t.operations k.kept h in
        let u : some unknown os ≡ false = sym k.kept.unknown ∙ e in
        let c : take t.operations.count n.names ≡ finest_cut (numbered os)
        = ap (λ (m : ℕ). take m n.names) f.1 ∙ names-are os f.0 u n (q ∙ ap (λ (ws : List ℕ). said (rows_cut ws)) rows_are) in
        ap₂ (λ (ws c : List ℕ). cut_text (name_in t.operations.names) (operations_in ws) c) rows_are c
        ∙ ap (λ (qs : List finest.Operation). cut_text (name_in t.operations.names) qs (finest_cut (numbered os))) (operations-back (numbered os))
        ∙ cut-named os t.operations.names (k.kept.holding f.0).names
        ∙ sym (ap₂ (λ (b c : Bool). cond b too_many_words (cond c unknown_words (pieces_text os))) (le-ltb 32 (length os) f.0) u)
        ∙ text_good ss (sym good ∙ k.bad)
