-- The records, piece by piece, and what is said at the end.
use Prim.Native.Nat.{ℕ, ◌+◌, ◌-◌, ◌*◌, ◌/◌, ◌≤◌, ◌<◌, min}
use mathlib.Core.Path.{◌≡◌, refl, sym, ap, subst, ◌∙◌}
use mathlib.Core.Logic.{◌≢◌, ⊎_elim}
use mathlib.Core.Bool.{Bool, true, false}
use mathlib.Core.List.{List}
use native.Mathlib.Omega.{arith}
use lib.Dec.{ltb}
use lib.ListN.{length, take, drop}
use lib.Seq.{drop-drop}
use borrow.Author.Tests.{ltb-true, ltb-false}
use Rattle.rules.proofs.Tests.{same?}
use Rattle.journal.specs.Words.{word_size, greatest}
use Rattle.journal.specs.Format.{record_size, call_count, answers_place, answer_count}
use Rattle.judge.specs.Verdicts.{verdict_on, first_wrong}
use Rattle.judge.specs.Pieces.{Progress, start, seen_all, seen_piece, Whole, spoken}
use Rattle.judge.specs.declared.Verdict.{Verdict}
use Rattle.judge.specs.declared.Verdict.TheVariants.{Accepted, Short, Unequal, LeftOver, Wrong}
use Rattle.judge.proofs.Speaking.{bytes, short, unequal, left_over_lem, whole}
use Rattle.judge.proofs.Said.{place, spoken_is}
use Rattle.judge.proofs.Streamed.{seen_start, seen_more, replay_is}
use Rattle.judging.specs.declared.counted.Counts.{Counts}
use Rattle.judging.specs.declared.lockstep.Judging.{Judging}
use Rattle.judging.specs.Counted.{part, Counted, records_by}
use Rattle.judging.specs.Handed.{records_next, bytes_next, passed, calls_at, answers_at, progress_of, Seen, Handed}

-- ---- only a whole file's counts are accepted

accepted-whole : (size n m : ℕ) → spoken size n m 0 ≡ Accepted → (size ≡ bytes n m) × (n ≡ m)
accepted-whole size n m e = go (ltb size (bytes n m)) (ltb (bytes n m) size) refl refl
  where
    go : (a b : Bool) → ltb size (bytes n m) ≡ a → ltb (bytes n m) size ≡ b → (size ≡ bytes n m) × (n ≡ m)
    go true b p q =
        let s : spoken size n m 0 ≡ Short = short size n m 0 (ltb-true size (bytes n m) p) in
        let z : ◌≡◌ {A = ℕ} 0 1 = cc in
        absurd (let no : ⊥ = omega arith in no)
    go false b p q = ⊎_elim (same b q) other (same? n m)
      where
        enough : bytes n m ≤ size
        enough = ltb-false size (bytes n m) p

        other : n ≢ m → (size ≡ bytes n m) × (n ≡ m)
        other d =
            let s : spoken size n m 0 ≡ Unequal = unequal size n m 0 enough d in
            let z : ◌≡◌ {A = ℕ} 0 1 = cc in
            absurd (let no : ⊥ = omega arith in no)

        same : (b : Bool) → ltb (bytes n m) size ≡ b → n ≡ m → (size ≡ bytes n m) × (n ≡ m)
        same true q i =
            let s : spoken size n m 0 ≡ LeftOver = left_over_lem size n m 0 (ltb-true (bytes n m) size q) i in
            let z : ◌≡◌ {A = ℕ} 0 1 = cc in
            absurd (let no : ⊥ = omega arith in no)
        same false q i =
            let most : size ≤ bytes n m = ltb-false (bytes n m) size q in
            (omega (arith, enough), i)

some_accepted : (v : Verdict) (n : ℕ) → 0 < records_by v n → v ≡ Accepted
unfolding records_by
some_accepted Accepted n h = refl
some_accepted Short n h = absurd (let no : ⊥ = omega arith in no)
some_accepted Unequal n h = absurd (let no : ⊥ = omega arith in no)
some_accepted LeftOver n h = absurd (let no : ⊥ = omega arith in no)
some_accepted (Wrong k) n h = absurd (let no : ⊥ = omega arith in no)

-- ---- birth

module _ (file : List ℕ) (j : Judging) where
  pub born : Counted file j.counts → j.counts.wanted ≡ 0 →
      j.left ≡ records_by (spoken j.counts.size j.counts.first j.counts.second 0) j.counts.first →
      progress_of j ≡ start → Handed file j
  unfolding records_by seen_all
  born h o l p = record { counted = h; over = o; whole = all; seen = seen }
    where
      all : 0 < j.left → Whole file
      all s =
          let v : Verdict = spoken j.counts.size j.counts.first j.counts.second 0 in
          let some : 0 < records_by v j.counts.first = omega arith in
          let w = accepted-whole (length file) (call_count file) (answer_count file) (sym (h.said o 0) ∙ some_accepted v j.counts.first some) in
          record { size = w.0; counts = w.1 }

      seen : Whole file → Seen file j
      seen w =
          let s : length file ≡ 2 * word_size + record_size * call_count file + record_size * answer_count file = w.size in
          let c : call_count file ≡ answer_count file = w.counts in
          let ok : spoken j.counts.size j.counts.first j.counts.second 0 ≡ Accepted
          = h.said o 0 ∙ whole (length file) (call_count file) (answer_count file) 0 (omega arith) c refl in
          let all : j.left ≡ j.counts.first = l ∙ ap (λ (v : Verdict). records_by v j.counts.first) ok in
          let none : passed j ≡ 0 = omega arith in
          record {
            count = h.whole o w;
            within = omega arith;
            kept = p ∙ ap (λ (k : ℕ). seen_all k (drop word_size file) (drop (answers_place file) file) start) (sym none);
          }

-- ---- a piece of the calls and of the answers

-- what stands some records behind a place
part-behind : (file : List ℕ) (at n size : ℕ) → part file (at + record_size * n) size ≡ take size (drop (record_size * n) (drop at file))
part-behind file at n size = ap (take size) (sym (drop-drop (record_size * n) at file))

-- records of pieces are records of the lists that they are cut from
pub piece-seen : (k size : ℕ) {cs rs : List ℕ} (us vs : List ℕ) (p : Progress) → size ≡ k * record_size → length cs ≡ size → length rs ≡ size →
    cs ≡ take size us → rs ≡ take size vs → seen_piece cs rs p ≡ seen_all k us vs p
unfolding seen_piece
piece-seen k size {cs} {rs} us vs p e lc lr c r =
    let n : min (length cs) (length rs) / record_size ≡ k = omega arith in
    (λ i. seen_all (n i) (c i) (r i) p) ∙ seen_start k size us vs p (omega arith)

module _ (file : List ℕ) (j : Judging) (h : Handed file j) (cs rs : List ℕ) (r : Judging)
    (c : r.counts ≡ j.counts) (l : r.left ≡ j.left - records_next j)
    (lc : length cs ≡ bytes_next j) (lr : length rs ≡ bytes_next j)
    (s : progress_of r ≡ seen_piece cs rs (progress_of j))
    (pc : cs ≡ part file (calls_at j) (bytes_next j)) (pr : rs ≡ part file (answers_at j) (bytes_next j)) where
  seen_next : Whole file → Seen file r
  seen_next w =
      let q = h.seen w in
      let first : r.counts.first ≡ j.counts.first = ap (λ (x : Counts). x.first) c in
      let cf : j.counts.first ≡ call_count file = q.count in
      let wi : j.left ≤ j.counts.first = q.within in
      let n : ℕ = passed j in
      let k : ℕ = records_next j in
      let us : List ℕ = drop word_size file in
      let vs : List ℕ = drop (answers_place file) file in
      let at : 2 * word_size + record_size * j.counts.first ≡ answers_place file = ap (λ (m : ℕ). 2 * word_size + record_size * m) cf ∙ sym (place file) in
      let ec : cs ≡ take (bytes_next j) (drop (record_size * n) us) = pc ∙ part-behind file word_size n (bytes_next j) in
      let er : rs ≡ take (bytes_next j) (drop (record_size * n) vs)
      = pr ∙ part-behind file (2 * word_size + record_size * j.counts.first) n (bytes_next j) ∙ ap (λ (m : ℕ). take (bytes_next j) (drop (record_size * n) (drop m file))) at in
      let more : n + k ≡ passed r = omega arith in
      record {
        count = first ∙ cf;
        within = omega arith;
        kept =
            s
            ∙ piece-seen k (bytes_next j) (drop (record_size * n) us) (drop (record_size * n) vs) (progress_of j) refl lc lr ec er
            ∙ ap (seen_all k (drop (record_size * n) us) (drop (record_size * n) vs)) q.kept
            ∙ sym (seen_more n k us vs start)
            ∙ ap (λ (m : ℕ). seen_all m us vs start) more;
      }

  pub next : Handed file r
  next =
      record {
        counted = subst (λ (x : Counts). Counted file x) (sym c) h.counted;
        over = ap (λ (x : Counts). x.wanted) c ∙ h.over;
        whole = λ s. h.whole (omega arith);
        seen = seen_next;
      }

-- ---- the end

pub said : (file : List ℕ) (j : Judging) → Handed file j → j.left ≡ 0 →
    spoken j.counts.size j.counts.first j.counts.second j.judge.wrong ≡ verdict_on file
said file j h l = h.counted.said h.over j.judge.wrong ∙ spoken_is file j.judge.wrong right
  where
    right : Whole file → j.judge.wrong ≡ first_wrong file
    right w =
        let q = h.seen w in
        let s : length file ≡ 2 * word_size + record_size * call_count file + record_size * answer_count file = w.size in
        let z : j.counts.size ≡ length file = h.counted.size in
        let f : j.counts.size ≤ greatest = h.counted.fits in
        let cf : j.counts.first ≡ call_count file = q.count in
        let all : passed j ≡ call_count file = omega arith in
        ap (λ (p : Progress). p.wrong) (q.kept ∙ ap (λ (n : ℕ). seen_all n (drop word_size file) (drop (answers_place file) file) start) all)
        ∙ replay_is file w (omega arith)
