-- Records one after another: their length, that they are read back, and which bytes they are read from.
use Prim.Native.Nat.{ℕ, zero, suc, ◌+◌, ◌-◌, ◌*◌, ◌≤◌}
use mathlib.Core.Path.{◌≡◌, refl, ap, ap₂, ◌∙◌}
use mathlib.Core.List.{List, [], ◌∷◌, ◌++◌, append_assoc}
use native.Mathlib.Nat.{zero-add, suc-add}
use native.Mathlib.Omega.{arith}
use lib.ListN.{length, take, drop, length-append}
use lib.Seq.{drop_at, drop-drop}
use Rattle.names.specs.declared.Answer.{Answer}
use Rattle.call_words.specs.declared.Fields.{Fields}
use Rattle.journal.specs.Format.{record_size, call_bytes, answer_bytes, call_at, answer_at, call_records, answer_records, calls_in, answers_in, CallFits, AnswerFits, Every}
use Rattle.journal.proofs.Lists.{drop-take}
use Rattle.journal.proofs.RecordLaws.{length-call_bytes, length-answer_bytes, call_back, answer_back, call-piece, answer-piece}

-- ---- the length

pub length-call_records : (fs : List Fields) → length (call_records fs) ≡ record_size * length fs
unfolding call_records
length-call_records [] = refl
length-call_records (f ∷ fs) =
    omega (arith, length-append (call_bytes f) (call_records fs), length-call_bytes f, length-call_records fs)

pub length-answer_records : (rs : List Answer) → length (answer_records rs) ≡ record_size * length rs
unfolding answer_records
length-answer_records [] = refl
length-answer_records (a ∷ rs) =
    omega (arith, length-append (answer_bytes a) (answer_records rs), length-answer_bytes a, length-answer_records rs)

pub length-calls_in : (n : ℕ) (bs : List ℕ) → length (calls_in n bs) ≡ n
unfolding calls_in
length-calls_in zero bs = refl
length-calls_in (suc n) bs = ap suc (length-calls_in n (drop record_size bs))

pub length-answers_in : (n : ℕ) (bs : List ℕ) → length (answers_in n bs) ≡ n
unfolding answers_in
length-answers_in zero bs = refl
length-answers_in (suc n) bs = ap suc (length-answers_in n (drop record_size bs))

-- ---- what is written is read back, whatever stands behind it

pub calls_in-back : {fs : List Fields} (rest : List ℕ) → Every CallFits fs → calls_in (length fs) (call_records fs ++ rest) ≡ fs
unfolding calls_in call_records
calls_in-back rest Every.none = refl
calls_in-back rest (Every.more {x} {xs} h hs) =
    rw (append_assoc (call_bytes x) (call_records xs) rest, drop_at (call_bytes x) (call_records xs ++ rest) record_size (length-call_bytes x))
    (ap₂ (λ (f : Fields) (fs : List Fields). f ∷ fs) (call_back x (call_records xs ++ rest) h) (calls_in-back rest hs))

pub answers_in-back : {rs : List Answer} (rest : List ℕ) → Every AnswerFits rs → answers_in (length rs) (answer_records rs ++ rest) ≡ rs
unfolding answers_in answer_records
answers_in-back rest Every.none = refl
answers_in-back rest (Every.more {x} {xs} h hs) =
    rw (append_assoc (answer_bytes x) (answer_records xs) rest, drop_at (answer_bytes x) (answer_records xs ++ rest) record_size (length-answer_bytes x))
    (ap₂ (λ (a : Answer) (rs : List Answer). a ∷ rs) (answer_back x (answer_records xs ++ rest) h) (answers_in-back rest hs))

-- ---- the bytes that records are read from

-- a piece is enough

pub calls-piece : (n k : ℕ) (bs : List ℕ) → record_size * n ≤ k → calls_in n (take k bs) ≡ calls_in n bs
unfolding calls_in
calls-piece zero k bs h = refl
calls-piece (suc n) k bs h =
    ap₂ (λ (f : Fields) (fs : List Fields). f ∷ fs)
    (call-piece 0 k bs (omega arith))
    (rw (drop-take record_size k bs) (calls-piece n (k - record_size) (drop record_size bs) (omega arith)))

pub answers-piece : (n k : ℕ) (bs : List ℕ) → record_size * n ≤ k → answers_in n (take k bs) ≡ answers_in n bs
unfolding answers_in
answers-piece zero k bs h = refl
answers-piece (suc n) k bs h =
    ap₂ (λ (a : Answer) (rs : List Answer). a ∷ rs)
    (answer-piece 0 k bs (omega arith))
    (rw (drop-take record_size k bs) (answers-piece n (k - record_size) (drop record_size bs) (omega arith)))

-- some records, and then more

pub behind : (n : ℕ) (bs : List ℕ) → drop (record_size * n) (drop record_size bs) ≡ drop (record_size * suc n) bs
behind n bs =
    let e : record_size + record_size * n ≡ record_size * suc n = omega arith in
    drop-drop (record_size * n) record_size bs ∙ ap (λ (k : ℕ). drop k bs) e

pub calls-more : (n m : ℕ) (bs : List ℕ) → calls_in (n + m) bs ≡ calls_in n bs ++ calls_in m (drop (record_size * n) bs)
unfolding calls_in
calls-more zero m bs = rw (zero-add m)
calls-more (suc n) m bs =
    rw (suc-add n m)
    (ap (λ (fs : List Fields). call_at 0 bs ∷ fs)
    (calls-more n m (drop record_size bs) ∙ ap (λ (cs : List ℕ). calls_in n (drop record_size bs) ++ calls_in m cs) (behind n bs)))

pub answers-more : (n m : ℕ) (bs : List ℕ) → answers_in (n + m) bs ≡ answers_in n bs ++ answers_in m (drop (record_size * n) bs)
unfolding answers_in
answers-more zero m bs = rw (zero-add m)
answers-more (suc n) m bs =
    rw (suc-add n m)
    (ap (λ (rs : List Answer). answer_at 0 bs ∷ rs)
    (answers-more n m (drop record_size bs) ∙ ap (λ (cs : List ℕ). answers_in n (drop record_size bs) ++ answers_in m cs) (behind n bs)))
