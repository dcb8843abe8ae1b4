-- Whatever chunks the input comes in, the records of its lines' calls are put out.
use Prim.Native.Nat.{ℕ, ◌+◌, ◌*◌, ◌%◌, ◌≤◌}
use mathlib.Core.Path.{◌≡◌, refl, sym, ap, ◌∙◌}
use mathlib.Core.Bool.{Bool, true, false, cond}
use mathlib.Core.List.{List, [], ◌∷◌, ◌++◌, append-nil, append_assoc}
use native.Mathlib.Omega.{arith}
use lib.ListN.{length, take, drop, length-append}
use lib.Seq.{take_at}
use Rattle.call_words.specs.declared.Fields.{Fields}
use Rattle.lines.specs.Lines.{Held, short, begun, left, joined}
use Rattle.script.specs.Inputs.{read_as, reads, last, chunked}
use Rattle.rules.specs.Answers.{Call}
use Rattle.std.proofs.Common.{Option}
use Rattle.script.proofs.Chunks.{chunks}
use Rattle.journal.specs.Format.{record_size, call_records}
use Rattle.journal.proofs.Sections.{length-call_records}
use Rattle.texts.specs.Written.{Buffer, written, buffer, put}
use Rattle.texts.proofs.Buffers.{put-room}
use Rattle.recording.specs.Records.{script_calls, count_with}
use Rattle.recording.proofs.Taking.{records_append, calls-append, calls-most, taken-most}
use Rattle.recorder.specs.First.{input_calls, count_of, Taken, none, more}

-- ---- a text that is put at the start of a buffer stands there

pub put_front : (l text : List ℕ) {m : List ℕ} {next : ℕ} → length text ≤ length l → buffer m next ≡ put text (buffer l 0) → (take next m ≡ text) × (next ≡ length text)
unfolding written
put_front l text {m} {next} h e =
    let w : buffer m next ≡ buffer (written l 0 text) (0 + length text) = e ∙ put-room l text 0 (omega arith) in
    let n : next ≡ 0 + length text = ap (λ (b : Buffer). b.next) w in
    let k : next ≡ length text = omega arith in
    ((λ i. take (k i) (w i).bytes) ∙ take_at text (drop (0 + length text) l) (length text) refl, k)

-- ---- the calls

-- chunk by chunk, and at the end of the input
unfoldable taken_all : Held → List (List ℕ) → List ℕ
taken_all h [] = call_records (script_calls (last h))
taken_all h (c ∷ cs) = call_records (script_calls (reads h c)) ++ taken_all (left h c) cs

taken-chunked : (cs : List (List ℕ)) (h : Held) → taken_all h cs ≡ call_records (script_calls (chunked h cs))
unfolding taken_all chunked
taken-chunked [] h = refl
taken-chunked (c ∷ cs) h =
    ap (λ (r : List ℕ). call_records (script_calls (reads h c)) ++ r) (taken-chunked cs (left h c))
    ∙ sym (records_append (script_calls (reads h c)) (script_calls (chunked (left h c) cs)))
    ∙ ap (λ (fs : List Fields). call_records fs) (sym (calls-append (reads h c) (chunked (left h c) cs)))

taken_input : (cs : List (List ℕ)) → taken_all (short []) cs ≡ call_records (input_calls (joined cs))
unfolding input_calls
taken_input cs = taken-chunked cs (short []) ∙ ap (λ (ps : List (Option Call)). call_records (script_calls ps)) (chunks cs)

-- what was put out, and what will be, of whatever comes
all_taken : {input put : List ℕ} {h : Held} → Taken input put h → (cs : List (List ℕ)) → put ++ taken_all h cs ≡ call_records (input_calls (input ++ joined cs))
unfolding taken_all joined
all_taken none cs = taken_input cs
all_taken (more {input} {put} {h} t c) cs =
    append_assoc put (call_records (script_calls (reads h c))) (taken_all (left h c) cs)
    ∙ all_taken t (c ∷ cs)
    ∙ ap (λ (bs : List ℕ). call_records (input_calls bs)) (sym (append_assoc input c (joined cs)))

pub end_taken : {input put : List ℕ} {h : Held} → Taken input put h → put ++ call_records (script_calls (last h)) ≡ call_records (input_calls input)
unfolding taken_all joined
end_taken {input} t = all_taken t [] ∙ ap (λ (bs : List ℕ). call_records (input_calls bs)) (append-nil input)

-- ---- how many

pub whole_records : {input put : List ℕ} {h : Held} → Taken input put h → length put % record_size ≡ 0
whole_records none = omega arith
whole_records (more {input} {put} {h} t c) =
    omega (arith, whole_records t, length-append put (call_records (script_calls (reads h c))), length-call_records (script_calls (reads h c)))

-- those before and those of so many whole records
pub count-more : (before : List ℕ) (fs : List Fields) (used : ℕ) → used ≡ length (call_records fs) →
    count_with (count_with 0 (length before)) used ≡ count_with 0 (length (before ++ call_records fs))
unfolding count_with
count-more before fs used e = omega (arith, e, length-append before (call_records fs), length-call_records fs)

pub count_all : (input bytes : List ℕ) → bytes ≡ call_records (input_calls input) → count_with 0 (length bytes) ≡ count_of input
unfolding count_with count_of
count_all input bytes e = omega (arith, ap (λ (bs : List ℕ). length bs) e, length-call_records (input_calls input))

-- ---- there is room

pub chunk_room : (h : Held) (chunk : List ℕ) → length (call_records (script_calls (reads h chunk))) ≤ record_size * length chunk
chunk_room h chunk = omega (arith, taken-most h chunk 0)

last-most : (h : Held) → length (last h) ≤ 1
unfolding last
last-most h = go (begun h)
  where
    go : (b : Bool) → length (cond {A = List (Option Call)} b (read_as h ∷ []) []) ≤ 1
    go true = omega arith
    go false = omega arith

pub last-room : (h : Held) → length (call_records (script_calls (last h))) ≤ record_size
last-room h = omega (arith, length-call_records (script_calls (last h)), calls-most (last h), last-most h)
