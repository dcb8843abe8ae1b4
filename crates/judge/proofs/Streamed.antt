-- A file that is seen in pieces gets the verdict on the whole.
use Prim.Native.Nat.{ℕ, zero, suc, ◌+◌, ◌-◌, ◌*◌, ◌/◌, ◌%◌, ◌^◌, ◌<◌, ◌≤◌, min}
use mathlib.Core.Path.{◌≡◌, refl, sym, ap, ap₂, ◌∙◌}
use mathlib.Core.List.{List, [], ◌∷◌, ◌++◌}
use native.Mathlib.Nat.{zero-add, suc-add, pow-suc}
use native.Mathlib.Omega.{arith}
use lib.ListN.{length, take, drop, length-append, length-drop}
use lib.Seq.{length-take-le, take_at, drop_at}
use Rattle.names.specs.Sizes.{base}
use Rattle.rules.specs.Tables.{fresh}
use Rattle.journal.specs.Words.{word_size, number_in, word_at, greatest}
use Rattle.journal.specs.Format.{record_size, call_at, answer_at, call_count, answers_place, answer_count, calls_of, answers_of, calls_in, answers_in, Every}
use Rattle.journal.proofs.Lists.{drop-take}
use Rattle.journal.proofs.Sections.{behind}
use Rattle.journal.proofs.RecordLaws.{call-piece, answer-piece}
use Rattle.judge.specs.Verdicts.{wrong_from, first_wrong, verdict_on}
use Rattle.judge.specs.Pieces.{Progress, start, seen_one, seen_all, seen_piece, Piece, fed, Even, all_calls, all_answers, CutFrom, Whole, spoken}
use Rattle.judge.proofs.Lockstep.{lockstep}
use Rattle.judge.proofs.Said.{spoken_is}

-- ---- records of a list and of its start, and records behind records

pub seen_start : (n k : ℕ) (cs rs : List ℕ) (p : Progress) → record_size * n ≤ k → seen_all n (take k cs) (take k rs) p ≡ seen_all n cs rs p
unfolding seen_all
seen_start zero k cs rs p h = refl
seen_start (suc n) k cs rs p h =
    let q : Progress = seen_one (call_at 0 cs) (answer_at 0 rs) p in
    (λ i. seen_all n (drop-take record_size k cs i) (drop-take record_size k rs i) (seen_one (call-piece 0 k cs (omega arith) i) (answer-piece 0 k rs (omega arith) i) p))
    ∙ seen_start n (k - record_size) (drop record_size cs) (drop record_size rs) q (omega arith)

pub seen_more : (n m : ℕ) (cs rs : List ℕ) (p : Progress) →
    seen_all (n + m) cs rs p ≡ seen_all m (drop (record_size * n) cs) (drop (record_size * n) rs) (seen_all n cs rs p)
unfolding seen_all
seen_more zero m cs rs p = ap (λ (k : ℕ). seen_all k cs rs p) (zero-add m)
seen_more (suc n) m cs rs p =
    let q : Progress = seen_one (call_at 0 cs) (answer_at 0 rs) p in
    ap (λ (k : ℕ). seen_all k cs rs p) (suc-add n m)
    ∙ seen_more n m (drop record_size cs) (drop record_size rs) q
    ∙ ap₂ (λ (xs ys : List ℕ). seen_all m xs ys (seen_all n (drop record_size cs) (drop record_size rs) q)) (behind n cs) (behind n rs)

-- ---- pieces

-- how many records all the pieces have
unfoldable pub records : List Piece → ℕ
records [] = 0
records (c ∷ cs) = length c.calls / record_size + records cs

pub all_long : {ps : List Piece} → Every Even ps → length (all_calls ps) ≡ record_size * records ps
unfolding all_calls records
all_long Every.none = refl
all_long (Every.more {x} {xs} h hs) =
    let e : length x.calls % record_size ≡ 0 = h.whole in
    omega (arith, length-append x.calls (all_calls xs), all_long hs, e)

-- the records of one piece
piece-seen : (c : Piece) (p : Progress) → Even c → seen_piece c.calls c.answers p ≡ seen_all (length c.calls / record_size) c.calls c.answers p
unfolding seen_piece
piece-seen c p h =
    let s : length c.calls ≡ length c.answers = h.same in
    let e : min (length c.calls) (length c.answers) ≡ length c.calls = omega arith in
    ap (λ (n : ℕ). seen_all (n / record_size) c.calls c.answers p) e

-- all of them, one piece after another
pub fed_is : {ps : List Piece} (p : Progress) → Every Even ps → fed ps p ≡ seen_all (records ps) (all_calls ps) (all_answers ps) p
unfolding fed records all_calls all_answers seen_all
fed_is p Every.none = refl
fed_is p (Every.more {x} {xs} h hs) =
    let k : ℕ = length x.calls / record_size in
    let s : length x.calls ≡ length x.answers = h.same in
    let e : length x.calls % record_size ≡ 0 = h.whole in
    let lc : length x.calls ≡ record_size * k = omega arith in
    let la : length x.answers ≡ record_size * k = omega arith in
    let bc : List ℕ = x.calls ++ all_calls xs in
    let ba : List ℕ = x.answers ++ all_answers xs in
    let first : seen_all k x.calls x.answers p ≡ seen_all k bc ba p =
    ap₂ (λ (a b : List ℕ). seen_all k a b p) (sym (take_at x.calls (all_calls xs) (record_size * k) lc)) (sym (take_at x.answers (all_answers xs) (record_size * k) la))
    ∙ seen_start k (record_size * k) bc ba p (omega arith) in
    fed_is (seen_piece x.calls x.answers p) hs
    ∙ ap (seen_all (records xs) (all_calls xs) (all_answers xs)) (piece-seen x p h ∙ first)
    ∙ ap₂ (λ (a b : List ℕ). seen_all (records xs) a b (seen_all k bc ba p)) (sym (drop_at x.calls (all_calls xs) (record_size * k) lc)) (sym (drop_at x.answers (all_answers xs) (record_size * k) la))
    ∙ sym (seen_more k (records xs) bc ba p)

-- ---- the file

module _ (file : List ℕ) where
  -- a whole file's calls and answers, seen one after another from fresh tables
  pub replay_is : Whole file → call_count file ≤ greatest →
      (seen_all (call_count file) (drop word_size file) (drop (answers_place file) file) start).wrong ≡ first_wrong file
  unfolding first_wrong calls_of answers_of
  replay_is w h =
      lockstep (call_count file) (drop word_size file) (drop (answers_place file) file) start (omega arith) refl
      ∙ ap (λ (m : ℕ). wrong_from 0 (fresh base) (calls_in (call_count file) (drop word_size file)) (answers_in m (drop (answers_place file) file))) w.counts

  fed-file : (ps : List Piece) → Whole file → CutFrom file ps → call_count file ≤ greatest → (fed ps start).wrong ≡ first_wrong file
  fed-file ps w cut h =
      let n : ℕ = call_count file in
      let cs : List ℕ = drop word_size file in
      let rs : List ℕ = drop (answers_place file) file in
      let s : length file ≡ 2 * word_size + record_size * n + record_size * answer_count file = w.size in
      let l : length cs ≡ length file - word_size = length-drop word_size file in
      let t : length (take (record_size * n) cs) ≡ record_size * n = length-take-le (record_size * n) cs (omega arith) in
      let g : length (all_calls ps) ≡ length (take (record_size * n) cs) = ap length cut.calls in
      let k : records ps ≡ n = omega (arith, all_long cut.even) in
      let same : record_size * answer_count file ≡ record_size * n = ap (λ (m : ℕ). record_size * m) (sym w.counts) in
      ap (λ (q : Progress). q.wrong)
      (fed_is start cut.even
      ∙ (λ i. seen_all (k i) (cut.calls i) ((cut.answers ∙ ap (λ (m : ℕ). take m rs) same) i) start)
      ∙ seen_start n (record_size * n) cs rs start (omega arith))
      ∙ replay_is w h

  -- Request E1: "read a call at a time": whatever the pieces, the verdict is the one on the whole file. Pieces that are not cut
  -- from the file do no harm where the file is not whole, since the verdict does not go by its calls then.
  pub streamed : (ps : List Piece) → (Whole file → CutFrom file ps) → call_count file ≤ greatest →
      spoken (length file) (call_count file) (answer_count file) (fed ps start).wrong ≡ verdict_on file
  streamed ps cut h = spoken_is file (fed ps start).wrong (λ w. fed-file ps w (cut w) h)

-- ---- bytes

small : (n : ℕ) {bs : List ℕ} → Every (λ (b : ℕ). b < 256) bs → number_in n bs < 256 ^ n
unfolding number_in
small zero all = omega arith
small (suc n) Every.none = omega (arith, small n Every.none, pow-suc 256 n)
small (suc n) (Every.more h hs) = omega (arith, h, small n hs, pow-suc 256 n)

-- a count that is read from bytes is a word
pub count_small : (file : List ℕ) → Every (λ (b : ℕ). b < 256) file → call_count file ≤ greatest
unfolding call_count word_at
count_small file all = omega (arith, small word_size all)
