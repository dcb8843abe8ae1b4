-- Whatever pieces of whole records the calls are handed over in, their answers are put out.
use Prim.Native.Nat.{ℕ, ◌+◌, ◌-◌, ◌*◌, ◌/◌, ◌≤◌}
use mathlib.Core.Path.{◌≡◌, refl, sym, ap, ap₂, ◌∙◌}
use mathlib.Core.List.{List, [], ◌∷◌, ◌++◌, append-nil, append_assoc}
use native.Mathlib.Omega.{arith}
use lib.ListN.{length, take, drop, length-append}
use lib.Seq.{take_at, drop_at}
use Rattle.names.specs.Sizes.{base}
use Rattle.names.specs.declared.Answer.{Answer}
use Rattle.rules.specs.Tables.{Tables, tables, fresh}
use Rattle.call_words.specs.declared.Fields.{Fields}
use Rattle.journal.specs.Format.{record_size, calls_in, answer_bytes, call_records, answer_records, CallFits, Every}
use Rattle.journal.proofs.Sections.{length-call_records, length-answer_records, length-calls_in, calls_in-back, calls-piece, calls-more}
use Rattle.texts.specs.Written.{buffer, put}
use Rattle.recording.specs.Records.{answers_to, after_calls, piece_calls}
use Rattle.recording.proofs.Answering.{answers-append, after-append, length-answers_to}
use Rattle.recorder.specs.First.{count_of}
use Rattle.recorder.specs.Second.{records_next, bytes_next, Answered}
use Rattle.recorder.specs.declared.second.Answering.{Answering}
use Rattle.recorder.proofs.Input.{put_front}

piece-append : (p q : List ℕ) (n : ℕ) → length p ≡ record_size * n → piece_calls (p ++ q) ≡ piece_calls p ++ piece_calls q
unfolding piece_calls
piece-append p q n e =
    let s : length (p ++ q) / record_size ≡ n + length q / record_size = omega (arith, e, length-append p q) in
    let k : length p / record_size ≡ n = omega (arith, e) in
    let front : calls_in n (p ++ q) ≡ calls_in n p
    = sym (calls-piece n (length p) (p ++ q) (omega (arith, e))) ∙ ap (λ (l : List ℕ). calls_in n l) (take_at p q (length p) refl) in
    let back : drop (record_size * n) (p ++ q) ≡ q = drop_at p q (record_size * n) e in
    rw (s, k) (calls-more n (length q / record_size) (p ++ q) ∙ rw (front, back))

answers_records : (a b : List Answer) → answer_records (a ++ b) ≡ answer_records a ++ answer_records b
unfolding answer_records
answers_records [] b = refl
answers_records (r ∷ a) b = ap (λ (l : List ℕ). answer_bytes r ++ l) (answers_records a b) ∙ sym (append_assoc (answer_bytes r) (answer_records a) (answer_records b))

-- records are read back as they were written
pub piece_back : {fs : List Fields} → Every CallFits fs → piece_calls (call_records fs) ≡ fs
unfolding piece_calls
piece_back {fs} h =
    let n : length (call_records fs) / record_size ≡ length fs = omega (arith, length-call_records fs) in
    rw n (ap (λ (l : List ℕ). calls_in (length fs) l) (sym (append-nil (call_records fs))) ∙ calls_in-back [] h)

-- ---- birth

pub born : (input : List ℕ) (a : Answering) → a.count ≡ count_of input → a.left ≡ a.count → tables a.txns a.locks a.versions ≡ fresh base → Answered input [] [] a
unfolding piece_calls calls_in answers_to answer_records after_calls
born input a c l f =
    record {
      count = c;
      within = omega arith;
      read = omega arith;
      answers = refl;
      after = f;
    }

-- ---- a piece

-- the answers to a piece take as many bytes as its calls
length_answered : (piece : List ℕ) (k : ℕ) (G : Tables) → length piece ≡ k * record_size → length (answer_records (answers_to (piece_calls piece) G)) ≡ length piece
unfolding piece_calls
length_answered piece k G e =
    omega (arith, e, length-answer_records (answers_to (piece_calls piece) G), length-answers_to (piece_calls piece) G, length-calls_in (length piece / record_size) piece)

module _ (input calls out : List ℕ) (a : Answering) (h : Answered input calls out a) (piece l m : List ℕ) (used : ℕ) (r : Answering)
    (c : r.count ≡ a.count) (s : r.left ≡ a.left - records_next a) (lp : length piece ≡ bytes_next a) (room : length piece ≤ length l)
    (w : buffer m used ≡ put (answer_records (answers_to (piece_calls piece) (tables a.txns a.locks a.versions))) (buffer l 0))
    (t : tables r.txns r.locks r.versions ≡ after_calls (piece_calls piece) (tables a.txns a.locks a.versions)) where
  G : Tables
  G = tables a.txns a.locks a.versions

  said : List ℕ
  said = answer_records (answers_to (piece_calls piece) G)

  pub next : Answered input (calls ++ piece) (out ++ take (length piece) m) r
  unfolding G said
  next =
      let wi : a.left ≤ a.count = h.within in
      let rd : length calls ≡ record_size * (a.count - a.left) = h.read in
      let n : length said ≡ length piece = length_answered piece (records_next a) G lp in
      let f = put_front l said (omega arith) w in
      let here : take (length piece) m ≡ said = ap (λ (k : ℕ). take k m) (sym n ∙ sym f.1) ∙ f.0 in
      let more : piece_calls (calls ++ piece) ≡ piece_calls calls ++ piece_calls piece = piece-append calls piece (a.count - a.left) rd in
      let before : G ≡ after_calls (piece_calls calls) (fresh base) = h.after in
      let fs : List Fields = piece_calls calls in
      let gs : List Fields = piece_calls piece in
      record {
        count = c ∙ h.count;
        within = omega arith;
        read = omega (arith, length-append calls piece);
        answers =
            ap₂ (λ (x y : List ℕ). x ++ y) h.answers (here ∙ ap (λ (H : Tables). answer_records (answers_to gs H)) before)
            ∙ sym (answers_records (answers_to fs (fresh base)) (answers_to gs (after_calls fs (fresh base))))
            ∙ ap (λ (rs : List Answer). answer_records rs) (sym (answers-append fs gs (fresh base)))
            ∙ ap (λ (qs : List Fields). answer_records (answers_to qs (fresh base))) (sym more);
        after =
            t
            ∙ ap (after_calls gs) before
            ∙ sym (after-append fs gs (fresh base))
            ∙ ap (λ (qs : List Fields). after_calls qs (fresh base)) (sym more);
      }
