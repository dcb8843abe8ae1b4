-- The operations that are kept, with one more.
use Prim.Native.Nat.{ℕ, suc, ◌+◌, ◌*◌, ◌<◌, ◌≤◌}
use mathlib.Core.Path.{◌≡◌, refl, sym, ap, ap₂, subst, subst₂, ◌∙◌}
use mathlib.Core.Bool.{Bool, ◌||◌}
use mathlib.Core.List.{List, [], ◌∷◌, ◌++◌, append-nil, append_assoc}
use native.Mathlib.Omega.{arith}
use lib.Dec.{leb}
use lib.ListN.{length, take, set, length-append}
use Rattle.rules.specs.Words.{some}
use Rattle.texts.specs.Written.{written}
use Rattle.texts.proofs.Written.{written_byte, written-more, length-written}
use Rattle.line_words.specs.Said.{Name}
use Rattle.line_words.specs.Held.{padded}
use Rattle.line_words.proofs.Keeping.{counted-short, counted-long, short_or_long}
use Rattle.op_lines.specs.Says.{Operation}
use Rattle.op_lines.specs.Held.{KeepsOperation}
use Rattle.op_lines.specs.declared.stages.Noted.{Noted}
use Rattle.told_lines.specs.Names.{place_of, first_row, KeepsNames}
use Rattle.told_lines.proofs.Seeing.{map_more}
use Rattle.told_lines.proofs.Texts.{front_here, three_written}
use Rattle.told_lines.proofs.Names.{place_is, names_more}
use Rattle.line_words.proofs.Snoc.{some_snoc}
use Rattle.finest.specs.Operations as finest
use Rattle.fining.specs.Programs.{unknown, names_of, row_of, numbered_from}
use Rattle.fining.specs.Life.{word_for, row_words, Holding, Holds}
use Rattle.fining.specs.declared.operations.Operations.{Operations}

-- ---- lists of operations with one more

one_more_lem : (os : List Operation) (o : Operation) → length (os ++ (o ∷ [])) ≡ suc (length os)
one_more_lem os o = length-append os (o ∷ []) ∙ omega arith

numbered_more : (os : List Operation) (ns : List (List ℕ)) (o : Operation) → numbered_from ns (os ++ (o ∷ [])) ≡ numbered_from ns os ++ (row_of (ns ++ names_of os) o ∷ [])
unfolding numbered_from
numbered_more [] ns o = ap (λ (ms : List (List ℕ)). row_of ms o ∷ []) (sym (append-nil ns))
numbered_more (p ∷ ps) ns o =
    ap (λ (l : List finest.Operation). row_of ns p ∷ l)
    (numbered_more ps (ns ++ (p.name ∷ [])) o
    ∙ ap (λ (ms : List (List ℕ)). numbered_from (ns ++ (p.name ∷ [])) ps ++ (row_of ms o ∷ [])) (append_assoc ns (p.name ∷ []) (names_of ps)))

words_more : (qs : List finest.Operation) (q : finest.Operation) → row_words (qs ++ (q ∷ [])) ≡ row_words qs ++ (q.program ∷ q.item ∷ word_for q.writes ∷ word_for q.marked ∷ [])
unfolding row_words
words_more [] q = refl
words_more (r ∷ rs) q = ap (λ (l : List ℕ). r.program ∷ r.item ∷ word_for r.writes ∷ word_for r.marked ∷ l) (words_more rs q)

pub names-length : (os : List Operation) → length (names_of os) ≡ length os
names-length [] = refl
names-length (o ∷ os) = ap suc (names-length os)

-- four words, one after the other
pub four_written : (l : List ℕ) (a w x y z : ℕ) → a + 4 ≤ length l → set (set (set (set l a w) (a + 1) x) (a + 2) y) (a + 3) z ≡ written l a (w ∷ x ∷ y ∷ z ∷ [])
four_written l a w x y z h =
    let m : List ℕ = written l a (w ∷ x ∷ y ∷ []) in
    let three : length m ≡ length l = length-written l a (w ∷ x ∷ y ∷ []) (omega arith) in
    ap (λ (k : List ℕ). set k (a + 3) z) (three_written l a w x y (omega arith))
    ∙ written_byte m (a + 3) z (omega arith)
    ∙ written-more l a (w ∷ x ∷ y ∷ []) (z ∷ []) (omega arith)

-- ---- an operation more

module _ (os : List Operation) (o : Operation) (s : Operations) (k : Holds os s) (n : Noted) (q : KeepsOperation o n) (named : Name o.name) where
  unknown-more : (s.unknown || leb finest.items n.item) ≡ some unknown (os ++ (o ∷ []))
  unknown-more = ap₂ (λ (t : Bool) (i : ℕ). t || leb finest.items i) k.unknown q.item ∙ sym (some_snoc unknown os o)

  -- there are too many already
  pub add_full : 32 ≤ s.count → Holds (os ++ (o ∷ [])) (record { count = 33; unknown = s.unknown || leb finest.items n.item; names = s.names; rows = s.rows })
  add_full h =
      let m : 32 < length (os ++ (o ∷ []))
      = short_or_long (length os) (λ l. omega (arith, k.count, counted-short (length os) l, one_more_lem os o)) (λ l. omega (arith, one_more_lem os o)) in
      record { count = sym (counted-long (length (os ++ (o ∷ []))) m); unknown = unknown-more; holding = λ l. absurd (omega arith) }

  module _ (room : s.count < 32) where
    count_is_lem : s.count ≡ length os
    count_is_lem =
        short_or_long (length os)
        (λ l. k.count ∙ counted-short (length os) l)
        (λ l. absurd (omega (arith, k.count, counted-long (length os) l)))

    held : Holding os s
    held = k.holding (omega (arith, count_is_lem))

    names-kept : length s.names ≡ 1024 → KeepsNames (names_of (os ++ (o ∷ []))) (written s.names (s.count * 32) n.name)
    names-kept size =
        subst (λ (ns : List (List ℕ)). KeepsNames ns (written s.names (s.count * 32) n.name)) (sym (map_more (λ p. p.name) os o))
        (subst₂ (λ (c : ℕ) (x : List ℕ). KeepsNames (names_of os ++ (o.name ∷ [])) (written s.names (c * 32) x)) (names-length os ∙ sym count_is_lem) (sym q.name)
        (names_more (names_of os) s.names held.names o.name named size (omega (arith, names-length os, count_is_lem))))

    rows_more : (t : ℕ) → length s.rows ≡ 128 → t ≡ place_of o.name (names_of os) → take (length (os ++ (o ∷ [])) * 4) (written s.rows (s.count * 4) (t ∷ n.item ∷ word_for n.writes ∷ word_for n.marked ∷ [])) ≡ row_words (numbered_from [] (os ++ (o ∷ [])))
    rows_more t size e =
        let fits : s.count * 4 + 4 ≤ length s.rows = omega arith in
        let z : length (os ++ (o ∷ [])) * 4 ≡ s.count * 4 + 4 = omega (arith, one_more_lem os o, count_is_lem) in
        ap (λ (m : ℕ). take m (written s.rows (s.count * 4) (t ∷ n.item ∷ word_for n.writes ∷ word_for n.marked ∷ []))) z
        ∙ front_here s.rows (t ∷ n.item ∷ word_for n.writes ∷ word_for n.marked ∷ []) (s.count * 4) 4 refl fits
        ∙ ap₂ ◌++◌ (ap (λ (m : ℕ). take (m * 4) s.rows) count_is_lem ∙ held.rows) (λ i. e i ∷ q.item i ∷ word_for (q.writes i) ∷ word_for (q.marked i) ∷ [])
        ∙ sym (words_more (numbered_from [] os) (row_of (names_of os) o))
        ∙ ap row_words (sym (numbered_more os [] o))

    pub add-room : length s.names ≡ 1024 → length s.rows ≡ 128 → {t w m : ℕ} {names rows : List ℕ} → t ≡ first_row n.name s.names s.count → w ≡ word_for n.writes → m ≡ word_for n.marked → names ≡ written s.names (s.count * 32) n.name → rows ≡ written s.rows (s.count * 4) (t ∷ n.item ∷ w ∷ m ∷ []) → Holds (os ++ (o ∷ [])) (record { count = s.count + 1; unknown = s.unknown || leb finest.items n.item; names = names; rows = rows })
    add-room size wide {t} {w} {m} {names} {rows} e ew em f g =
        let place : t ≡ place_of o.name (names_of os)
        = e ∙ ap₂ (λ (x : List ℕ) (c : ℕ). first_row x s.names c) q.name count_is_lem ∙ ap (first_row (padded o.name) s.names) (sym (names-length os)) ∙ place_is (names_of os) s.names o.name held.names named.bytes in
        record {
          count = omega (arith, one_more_lem os o, count_is_lem, counted-short (length (os ++ (o ∷ []))) (omega (arith, one_more_lem os o, count_is_lem)));
          unknown = unknown-more;
          holding = λ _. record {
            names = subst (KeepsNames (names_of (os ++ (o ∷ [])))) (sym f) (names-kept size);
            rows = ap (take (length (os ++ (o ∷ [])) * 4)) (g ∙ ap₂ (λ (x y : ℕ). written s.rows (s.count * 4) (t ∷ n.item ∷ x ∷ y ∷ [])) ew em) ∙ rows_more t wide place;
          };
        }
