-- The lines that end in a piece, answered one after another: what the loop knows before each.
use Prim.Native.Nat.{ℕ, ◌+◌, ◌*◌, ◌<◌, ◌≤◌}
use mathlib.Core.Path.{◌≡◌, refl, sym, ap, ◌∙◌}
use mathlib.Core.Bool.{Bool, true, false}
use mathlib.Core.List.{List, [], ◌∷◌, ◌++◌}
use native.Mathlib.Omega.{arith}
use lib.Dec.{eqb}
use lib.ListN.{length, drop, length-drop, drop_of_length-le}
use Rattle.std.proofs.Common.{Some, None}
use Rattle.texts.specs.Written.{Wrote}
use Rattle.texts.proofs.Parts.{Putting, putting_first, putting_on, putting_end}
use Rattle.number_lines.specs.Lines.{Held, ends, after, held_by, ended, unended, gather, found_by, Goes}
use Rattle.number_lines.specs.declared.scan.Next.{Next}
use Rattle.cases.specs.Cases.{most_numbers, number_bytes, longest_answer}
use Rattle.case_lines.specs.Answers.{unread, answer_at, answer_at_end}
use Rattle.answering.specs.Life.{answers_in, left, room_for}
use Rattle.answering.proofs.Lengths.{numbers, after-most, end_most}

-- ---- one line

-- its last number is ended, and it is answered
pub answered : (h : Held) {most at next : ℕ} {k : Held} {l m : List ℕ} → most ≡ most_numbers → k ≡ ends most h → Wrote l at (answer_at k) m next → Wrote l at (answer_at_end h) m next
unfolding answer_at_end
answered h {most} {at} {next} {k} all e w = let f : k ≡ ends most_numbers h = rw all at e in rw f at w

-- ---- what `next` finds in a piece

-- a line ends: k is what is read of it, and rest is left
pub record Ended (h k : Held) (bs rest : List ℕ) : Type 0 where
  pub answers : answers_in h bs ≡ answer_at_end k ++ answers_in unread rest
  pub after : left h bs ≡ left unread rest
  pub few : numbers k + length rest < numbers h + length bs

gather-ended : (bs : List ℕ) (h k : Held) (rest : List ℕ) → gather most_numbers h bs ≡ ended k rest → Ended h k bs rest
unfolding gather answers_in left
gather-ended [] h k rest e = let z : ◌≡◌ {A = ℕ} 0 1 = cc in absurd (omega arith)
gather-ended (b ∷ bs) h k rest e = go (eqb b 10) refl (λ f. gather-ended bs (after most_numbers h b) k rest f)
  where
    go : (g : Bool) → eqb b 10 ≡ g → (gather most_numbers (after most_numbers h b) bs ≡ ended k rest → Ended (after most_numbers h b) k bs rest) → Ended h k (b ∷ bs) rest
    go true q on =
        let f : ended h bs ≡ ended k rest = rw q at e in
        let x : h ≡ k = cc in
        let y : bs ≡ rest = cc in
        record { answers = rw (q, x, y) refl; after = rw (q, y) refl; few = rw (x, y) (omega arith) }
    go false q on =
        let r = on (rw q at e) in
        record { answers = rw q r.answers; after = rw q r.after; few = omega (arith, r.few, after-most most_numbers b h) }

-- no line ends
pub record Unended (h k : Held) (bs : List ℕ) : Type 0 where
  pub answers : answers_in h bs ≡ []
  pub after : left h bs ≡ k
  pub few : numbers k ≤ numbers h + length bs

gather-unended : (bs : List ℕ) (h k : Held) → gather most_numbers h bs ≡ unended k → Unended h k bs
unfolding gather answers_in left
gather-unended [] h k e =
    let x : h ≡ k = cc in
    record { answers = refl; after = x; few = rw x (omega arith) }
gather-unended (b ∷ bs) h k e = go (eqb b 10) refl (λ f. gather-unended bs (after most_numbers h b) k f)
  where
    go : (g : Bool) → eqb b 10 ≡ g → (gather most_numbers (after most_numbers h b) bs ≡ unended k → Unended (after most_numbers h b) k bs) → Unended h k (b ∷ bs)
    go true q on =
        let f : ended h bs ≡ unended k = rw q at e in
        let z : ◌≡◌ {A = ℕ} 0 1 = cc in
        absurd (omega arith)
    go false q on =
        let r = on (rw q at e) in
        record { answers = rw q r.answers; after = rw q r.after; few = omega (arith, r.few, after-most most_numbers b h) }

-- ---- line after line

-- the lines before `at` are answered: with what is left of the piece, state and output come to those of the whole piece
pub record Going (piece : List ℕ) (h₀ : Held) (out₀ : List ℕ) (h : Held) (out : List ℕ) (used at : ℕ) : Type 0 where
  pub within : at ≤ length piece
  pub small : used + number_bytes * numbers h ≤ longest_answer + number_bytes * at
  pub size : length out ≡ length out₀
  pub after : left h (drop at piece) ≡ left h₀ piece
  pub put : Putting (answers_in h₀ piece) (answers_in h (drop at piece)) out₀ out used

pub going_first : (piece : List ℕ) (h : Held) (out : List ℕ) → numbers h ≤ most_numbers → Going piece h out h out 0 0
going_first piece h out n =
    record { within = omega arith; small = omega (arith, n); size = refl; after = refl; put = putting_first (answers_in h piece) out }

module _ {piece : List ℕ} {h₀ : Held} {out₀ : List ℕ} {h : Held} {out : List ℕ} {used at : ℕ}
    (room : room_for (length piece) ≤ length out₀) (i : Going piece h₀ out₀ h out used at) where
  pub end_used : used ≤ length out₀
  end_used = omega (arith, room, i.small, i.within)

  pub room-left : used + longest_answer ≤ length out
  room-left = omega (arith, room, i.small, i.size, i.within)

  module _ {most : ℕ} {words : List ℕ} (r : Next) (all : most ≡ most_numbers) (g : Goes most h piece at words r) where
    -- a line ends and is answered
    module _ {end : ℕ} (e : r.at ≡ Some end) {k : Held} (n : k ≡ unread) {m : List ℕ} {next : ℕ} (w : Wrote out used (answer_at_end (held_by words r.scan)) m next) (z : length m ≡ length out) where
      line-ended : Ended h (held_by words r.scan) (drop at piece) (drop end piece)
      unfolding found_by
      line-ended = gather-ended (drop at piece) h (held_by words r.scan) (drop end piece) (rw all at (sym g.found) ∙ rw e refl)

      pub going_on : Going piece h₀ out₀ k m next end
      unfolding numbers
      going_on =
          let o = g.onward end e in
          let l = line-ended in
          let text = answer_at_end (held_by words r.scan) in
          let next_is : next ≡ used + length text = w.index in
          let none : numbers k ≡ 0 = ap numbers n in
          record {
            within = o.1;
            small = omega (arith, i.small, end_most (held_by words r.scan), next_is, l.few, none, o.0, o.1, length-drop at piece, length-drop end piece);
            size = z ∙ i.size;
            after = ap (λ (x : Held). left x (drop end piece)) n ∙ sym l.after ∙ i.after;
            put = putting_on end_used (l.answers ∙ ap (λ (x : Held). text ++ answers_in x (drop end piece)) (sym n)) i.put w;
          }

    -- no line ends in the rest of the piece
    module _ (e : r.at ≡ None) where
      line-unended : Unended h (held_by words r.scan) (drop at piece)
      unfolding found_by
      line-unended = gather-unended (drop at piece) h (held_by words r.scan) (rw all at (sym g.found) ∙ rw e refl)

      pub going_past : Going piece h₀ out₀ (held_by words r.scan) out used (length piece)
      unfolding answers_in left
      going_past =
          let l = line-unended in
          let past : drop (length piece) piece ≡ [] = drop_of_length-le piece {i = length piece} (omega arith) in
          record {
            within = omega arith;
            small = omega (arith, i.small, l.few, i.within, length-drop at piece);
            size = i.size;
            after = rw past (sym l.after ∙ i.after);
            put = rw past (rw l.answers at i.put);
          }

  -- the piece ends
  module _ (past : length piece ≤ at) where
    gone : drop at piece ≡ []
    gone = drop_of_length-le piece past

    pub end_left : h ≡ left h₀ piece
    unfolding left
    end_left = rw gone at i.after

    no_answers : answers_in h (drop at piece) ≡ []
    unfolding answers_in
    no_answers = rw gone

    pub end_wrote : Wrote out₀ 0 (answers_in h₀ piece) out used
    end_wrote = putting_end no_answers i.put
