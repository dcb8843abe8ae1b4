-- The pieces that are kept, with one more.
use Prim.Native.Nat.{ℕ, suc, ◌+◌, ◌*◌, ◌<◌, ◌≤◌}
use mathlib.Core.Path.{◌≡◌, refl, sym, ap, ap₂, subst, subst₂, ◌∙◌}
use mathlib.Core.Bool.{◌||◌}
use mathlib.Core.List.{List, [], ◌∷◌, ◌++◌, append-nil, append_assoc}
use native.Mathlib.Omega.{arith}
use lib.ListN.{length, take, length-append}
use Rattle.rules.specs.Words.{some}
use Rattle.texts.specs.Written.{written}
use Rattle.piece_lines.specs.Says.{Piece}
use Rattle.line_words.specs.Said.{Name}
use Rattle.piece_lines.specs.Items.{unknown_in}
use Rattle.piece_lines.specs.Held.{KeepsPiece}
use Rattle.line_words.specs.Held.{padded}
use Rattle.piece_lines.specs.declared.stages.Noted.{Noted}
use Rattle.line_words.proofs.Snoc.{some_snoc}
use Rattle.line_words.proofs.Keeping.{counted-short, counted-long, short_or_long}
use Rattle.told_lines.specs.Names.{place_of, first_row, KeepsNames}
use Rattle.told_lines.proofs.Seeing.{map_more}
use Rattle.told_lines.proofs.Texts.{front_here}
use Rattle.told_lines.proofs.Names.{place_is, names_more}
use Rattle.chop.specs.Pieces as chop
use Rattle.cutting.specs.Chopping.{row_of, chopped_from}
use Rattle.cutting.specs.Life.{names_of, row_words, Holding, Holds}
use Rattle.cutting.specs.declared.pieces.Pieces.{Pieces}

-- ---- lists of pieces with one more

pub one_more_lem : (ps : List Piece) (p : Piece) → length (ps ++ (p ∷ [])) ≡ suc (length ps)
one_more_lem ps p = length-append ps (p ∷ []) ∙ omega arith

chopped-more : (ps : List Piece) (ns : List (List ℕ)) (p : Piece) → chopped_from ns (ps ++ (p ∷ [])) ≡ chopped_from ns ps ++ (row_of (ns ++ names_of ps) p ∷ [])
unfolding chopped_from
chopped-more [] ns p = ap (λ (ms : List (List ℕ)). row_of ms p ∷ []) (sym (append-nil ns))
chopped-more (q ∷ qs) ns p =
    ap (λ (l : List chop.Piece). row_of ns q ∷ l)
    (chopped-more qs (ns ++ (q.name ∷ [])) p
    ∙ ap (λ (ms : List (List ℕ)). chopped_from (ns ++ (q.name ∷ [])) qs ++ (row_of ms p ∷ [])) (append_assoc ns (q.name ∷ []) (names_of qs)))

words_more : (qs : List chop.Piece) (q : chop.Piece) → row_words (qs ++ (q ∷ [])) ≡ row_words qs ++ (q.transaction ∷ q.reads ∷ q.writes ∷ [])
unfolding row_words
words_more [] q = refl
words_more (r ∷ rs) q = ap (λ (l : List ℕ). r.transaction ∷ r.reads ∷ r.writes ∷ l) (words_more rs q)

names_snoc : (ps : List Piece) (p : Piece) → names_of (ps ++ (p ∷ [])) ≡ names_of ps ++ (p.name ∷ [])
names_snoc ps p = map_more (λ q. q.name) ps p

names-length : (ps : List Piece) → length (names_of ps) ≡ length ps
names-length [] = refl
names-length (p ∷ ps) = ap suc (names-length ps)

-- ---- a piece more

module _ (ps : List Piece) (p : Piece) (s : Pieces) (k : Holds ps s) (n : Noted) (q : KeepsPiece p n) (named : Name p.name) where
  unknown-more : (s.unknown || n.unknown) ≡ some unknown_in (ps ++ (p ∷ []))
  unknown-more = ap₂ ◌||◌ k.unknown q.unknown ∙ sym (some_snoc unknown_in ps p)

  -- there are too many already
  pub add_full : 32 ≤ s.count → Holds (ps ++ (p ∷ [])) (record { count = 33; unknown = s.unknown || n.unknown; names = s.names; rows = s.rows })
  add_full h =
      let m : 32 < length (ps ++ (p ∷ []))
      = short_or_long (length ps) (λ l. omega (arith, k.count, counted-short (length ps) l, one_more_lem ps p)) (λ l. omega (arith, one_more_lem ps p)) in
      record {
        count = sym (counted-long (length (ps ++ (p ∷ []))) m);
        unknown = unknown-more;
        holding = λ l. absurd (omega arith);
      }

  module _ (room : s.count < 32) where
    pub count_is_lem : s.count ≡ length ps
    count_is_lem =
        short_or_long (length ps)
        (λ l. k.count ∙ counted-short (length ps) l)
        (λ l. absurd (omega (arith, k.count, counted-long (length ps) l)))

    held : Holding ps s
    held = k.holding (omega (arith, count_is_lem))

    names-kept : length s.names ≡ 1024 → KeepsNames (names_of (ps ++ (p ∷ []))) (written s.names (s.count * 32) n.name)
    names-kept size =
        subst (λ (ns : List (List ℕ)). KeepsNames ns (written s.names (s.count * 32) n.name)) (sym (names_snoc ps p))
        (subst₂ (λ (c : ℕ) (x : List ℕ). KeepsNames (names_of ps ++ (p.name ∷ [])) (written s.names (c * 32) x)) (names-length ps ∙ sym count_is_lem) (sym q.name)
        (names_more (names_of ps) s.names held.names p.name named size (omega (arith, names-length ps, count_is_lem))))

    rows_more : (t : ℕ) → length s.rows ≡ 96 → t ≡ place_of p.name (names_of ps) → take (length (ps ++ (p ∷ [])) * 3) (written s.rows (s.count * 3) (t ∷ n.reads ∷ n.writes ∷ [])) ≡ row_words (chopped_from [] (ps ++ (p ∷ [])))
    rows_more t size e =
        let fits : s.count * 3 + 3 ≤ length s.rows = omega arith in
        let z : length (ps ++ (p ∷ [])) * 3 ≡ s.count * 3 + 3 = omega (arith, one_more_lem ps p, count_is_lem) in
        ap (λ (m : ℕ). take m (written s.rows (s.count * 3) (t ∷ n.reads ∷ n.writes ∷ []))) z
        ∙ front_here s.rows (t ∷ n.reads ∷ n.writes ∷ []) (s.count * 3) 3 refl fits
        ∙ ap₂ ◌++◌ (ap (λ (m : ℕ). take (m * 3) s.rows) count_is_lem ∙ held.rows) (λ i. e i ∷ q.reads i ∷ q.writes i ∷ [])
        ∙ sym (words_more (chopped_from [] ps) (row_of (names_of ps) p))
        ∙ ap row_words (sym (chopped-more ps [] p))

    pub add-room : length s.names ≡ 1024 → length s.rows ≡ 96 → {t : ℕ} {names rows : List ℕ} → t ≡ first_row n.name s.names s.count → names ≡ written s.names (s.count * 32) n.name → rows ≡ written s.rows (s.count * 3) (t ∷ n.reads ∷ n.writes ∷ []) → Holds (ps ++ (p ∷ [])) (record { count = s.count + 1; unknown = s.unknown || n.unknown; names = names; rows = rows })
    add-room size wide {t} {names} {rows} e f g =
        let place : t ≡ place_of p.name (names_of ps)
        = e ∙ ap₂ (λ (x : List ℕ) (m : ℕ). first_row x s.names m) q.name count_is_lem ∙ ap (first_row (padded p.name) s.names) (sym (names-length ps)) ∙ place_is (names_of ps) s.names p.name held.names named.bytes in
        record {
          count = omega (arith, one_more_lem ps p, count_is_lem, counted-short (length (ps ++ (p ∷ []))) (omega (arith, one_more_lem ps p, count_is_lem)));
          unknown = unknown-more;
          holding = λ _. record {
            names = subst (KeepsNames (names_of (ps ++ (p ∷ [])))) (sym f) (names-kept size);
            rows = ap (take (length (ps ++ (p ∷ [])) * 3)) g ∙ rows_more t wide place;
          };
        }
