-- The answers to calls, one after another, and to a piece's call by call.
use Prim.Native.Nat.{ℕ, suc, ◌+◌, ◌-◌, ◌/◌, ◌<◌, ◌≤◌}
use mathlib.Core.Path.{◌≡◌, refl, sym, ap, ap₂, ◌∙◌}
use mathlib.Core.List.{List, [], ◌∷◌, ◌++◌}
use native.Mathlib.Omega.{arith}
use lib.ListN.{length, drop, length-drop}
use lib.Seq.{drop-drop}
use Rattle.names.specs.Sizes.{base}
use Rattle.names.specs.declared.Answer.{Answer}
use Rattle.rules.specs.Tables.{Tables}
use Rattle.rules.specs.Step.{step}
use Rattle.call_words.specs.Calls.{call_in}
use Rattle.call_words.specs.declared.Fields.{Fields}
use Rattle.journal.specs.Format.{record_size, call_at, calls_in, answer_bytes, answer_records}
use Rattle.texts.specs.Written.{Buffer, buffer, put}
use Rattle.journal.proofs.RecordLaws.{call-drop, length-answer_bytes}
use Rattle.texts.proofs.Buffers.{put-more}
use Rattle.journal.proofs.Sections.{length-calls_in, length-answer_records}
use Rattle.recording.specs.Records.{answers_to, after_calls, piece_calls}
use Rattle.texts.proofs.Buffers.{put_none, put_next}

-- ---- calls one after another

pub answers-append : (a b : List Fields) (G : Tables) → answers_to (a ++ b) G ≡ answers_to a G ++ answers_to b (after_calls a G)
unfolding answers_to after_calls
answers-append [] b G = refl
answers-append (f ∷ a) b G = ap (λ (r : List Answer). (step base (call_in f) G).answer ∷ r) (answers-append a b (step base (call_in f) G).after)

pub after-append : (a b : List Fields) (G : Tables) → after_calls (a ++ b) G ≡ after_calls b (after_calls a G)
unfolding after_calls
after-append [] b G = refl
after-append (f ∷ a) b G = after-append a b (step base (call_in f) G).after

pub length-answers_to : (fs : List Fields) (G : Tables) → length (answers_to fs G) ≡ length fs
unfolding answers_to
length-answers_to [] G = refl
length-answers_to (f ∷ fs) G = ap suc (length-answers_to fs (step base (call_in f) G).after)

-- ---- a piece

piece-more : (bs : List ℕ) → record_size ≤ length bs → piece_calls bs ≡ call_at 0 bs ∷ piece_calls (drop record_size bs)
unfolding piece_calls calls_in
piece-more bs h =
    let n : length bs / record_size ≡ suc (length (drop record_size bs) / record_size) = omega (arith, h, length-drop record_size bs) in
    rw n

piece_none : (bs : List ℕ) → length bs < record_size → piece_calls bs ≡ []
unfolding piece_calls calls_in
piece_none bs h = let n : length bs / record_size ≡ 0 = omega (arith, h) in rw n

length-piece_calls : (bs : List ℕ) → length (piece_calls bs) ≡ length bs / record_size
unfolding piece_calls
length-piece_calls bs = length-calls_in (length bs / record_size) bs

-- ---- a piece from an index on

abbrev pub answered_from : List ℕ → ℕ → Tables → List ℕ
answered_from piece at G = answer_records (answers_to (piece_calls (drop at piece)) G)

abbrev pub after_from : List ℕ → ℕ → Tables → Tables
after_from piece at G = after_calls (piece_calls (drop at piece)) G

module _ (piece : List ℕ) (at : ℕ) (G H : Tables) (h : record_size ≤ length piece - at) (s : H ≡ (step base (call_in (call_at at piece)) G).after) where
  next-calls : piece_calls (drop at piece) ≡ call_at at piece ∷ piece_calls (drop (at + record_size) piece)
  next-calls =
      let d : drop record_size (drop at piece) ≡ drop (at + record_size) piece = drop-drop record_size at piece in
      piece-more (drop at piece) (omega (arith, h, length-drop at piece)) ∙ rw (d, call-drop at piece)

  call-after : after_from piece (at + record_size) H ≡ after_from piece at G
  unfolding after_calls
  call-after = rw (s, next-calls)

  call_answered : answered_from piece at G ≡ answer_bytes (step base (call_in (call_at at piece)) G).answer ++ answered_from piece (at + record_size) H
  unfolding answers_to answer_records
  call_answered = rw (s, next-calls)

  module _ (l : List ℕ) {m : List ℕ} {next : ℕ} (w : buffer m next ≡ put (answer_bytes (step base (call_in (call_at at piece)) G).answer) (buffer l at)) (room : length piece ≤ length l) where
    pub answer-next : next ≡ at + record_size
    answer-next =
        let b = length-answer_bytes (step base (call_in (call_at at piece)) G).answer in
        omega (arith, b, put_next l (answer_bytes (step base (call_in (call_at at piece)) G).answer) at w (omega (arith, b, h, room)))

    fits : at + length (answer_bytes (step base (call_in (call_at at piece)) G).answer ++ answered_from piece (at + record_size) H) ≤ length l
    fits =
        let e = ap (λ (t : List ℕ). length t) call_answered in
        omega
        (arith, e, h, room, length-answer_records (answers_to (piece_calls (drop at piece)) G), length-answers_to (piece_calls (drop at piece)) G, length-piece_calls (drop at piece), length-drop at piece)

    pub answer_turn : put (answered_from piece next H) (buffer m next) ≡ put (answered_from piece at G) (buffer l at)
    answer_turn =
        ap₂ (λ (k : ℕ) (b : Buffer). put (answered_from piece k H) b) answer-next w
        ∙ put-more l (answer_bytes (step base (call_in (call_at at piece)) G).answer) (answered_from piece (at + record_size) H) at fits
        ∙ ap (λ (t : List ℕ). put t (buffer l at)) (sym call_answered)

    pub after_turn : after_from piece next H ≡ after_from piece at G
    after_turn = ap (λ (k : ℕ). after_from piece k H) answer-next ∙ call-after

-- less than a record is left
module _ (piece : List ℕ) (at : ℕ) (G : Tables) (h : length piece - at < record_size) where
  left_none : piece_calls (drop at piece) ≡ []
  left_none = piece_none (drop at piece) (omega (arith, h, length-drop at piece))

  pub end_answered : (l : List ℕ) (used : ℕ) → put (answered_from piece at G) (buffer l used) ≡ buffer l used
  unfolding answers_to answer_records
  end_answered l used = rw left_none (put_none l used)

  pub end_after : after_from piece at G ≡ G
  unfolding after_calls
  end_after = rw left_none
