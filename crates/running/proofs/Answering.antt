-- The lines that end in a piece, answered one after another: what the loop knows before each.
use Prim.Native.Nat.{ℕ, ◌+◌, ◌*◌, ◌<◌, ◌≤◌}
use mathlib.Core.Path.{◌≡◌, refl, sym, ap, ap₂, ◌∙◌}
use mathlib.Core.List.{List, [], ◌++◌}
use native.Mathlib.Omega.{arith}
use lib.ListN.{length, drop}
use Rattle.rules.specs.Tables.{Tables}
use Rattle.texts.specs.Written.{Wrote}
use Rattle.texts.proofs.Parts.{Putting, putting_first, putting_on, putting_end}
use Rattle.lines.specs.Lines.{Held, short, held_by, Goes}
use Rattle.lines.specs.declared.Next.{Next}
use Rattle.script.specs.Inputs.{read_as}
use Rattle.std.proofs.Common.{Option, Some, None}
use Rattle.rules.specs.Answers.{Call}
use Rattle.script.proofs.Turns.{line_reads, line-left, end_reads, end_left, none_reads, none_left}
use Rattle.running.specs.Replies.{reply_to, after_line, after_all, replies_to, longest_reply}
use Rattle.running.specs.Life.{State, state, replies_in, after_piece}
use Rattle.running.proofs.Replied.{reply_most}

-- the lines before `at` are answered: with what is left of the piece, state and output come to those of the whole piece
pub record Going (piece : List ℕ) (s₀ : State) (out₀ : List ℕ) (s : State) (out : List ℕ) (used at : ℕ) : Type 0 where
  pub within : at ≤ length piece
  pub small : used ≤ longest_reply * at
  pub size : length out ≡ length out₀
  pub after : after_piece (drop at piece) s ≡ after_piece piece s₀
  pub put : Putting (replies_in piece s₀) (replies_in (drop at piece) s) out₀ out used

pub going_first : (piece : List ℕ) (s : State) (out : List ℕ) → Going piece s out s out 0 0
going_first piece s out =
    record { within = omega arith; small = omega arith; size = refl; after = refl; put = putting_first (replies_in piece s) out }

module _ {piece : List ℕ} {s₀ : State} {out₀ : List ℕ} {h : Held} {G : Tables} {out : List ℕ} {used at : ℕ}
    (room : longest_reply * length piece ≤ length out₀) (i : Going piece s₀ out₀ (state h G) out used at) where
  pub end_used : used ≤ length out₀
  end_used = omega (arith, room, i.small, i.within)

  pub room-left : at < length piece → used + longest_reply ≤ length out
  room-left l = omega (arith, room, i.small, i.size, l)

  -- a line ends and is answered
  module _ {k : Held} {H : Tables} {m : List ℕ} {next end : ℕ} {p : Option Call} (r : Next) (g : Goes h piece at r) (e : r.at ≡ Some end) (n : k ≡ short []) (q : p ≡ read_as (held_by r.lines))
      (w : Wrote out used (reply_to p G) m next) (a : H ≡ after_line p G) (z : length m ≡ length out) where
    line_replies : replies_in (drop at piece) (state h G) ≡ reply_to p G ++ replies_in (drop end piece) (state k H)
    unfolding replies_in replies_to
    line_replies = rw (a, q, line_reads r n g e) refl

    line_after : after_piece (drop end piece) (state k H) ≡ after_piece (drop at piece) (state h G)
    unfolding after_piece after_all
    line_after = ap₂ state (line-left r n g e) (rw (a, q, line_reads r n g e) refl)

    pub going_on : Going piece s₀ out₀ (state k H) m next end
    going_on =
        let o = g.onward end e in
        let next_is : next ≡ used + length (reply_to p G) = w.index in
        record {
          within = o.1;
          small = omega (arith, i.small, reply_most p G, next_is, o.0);
          size = z ∙ i.size;
          after = line_after ∙ i.after;
          put = putting_on end_used line_replies i.put w;
        }

  -- no line ends in the rest of the piece
  module _ (r : Next) (g : Goes h piece at r) (e : r.at ≡ None) where
    none_after : after_piece (drop (length piece) piece) (state (held_by r.lines) G) ≡ after_piece (drop at piece) (state h G)
    unfolding after_piece
    none_after = ap₂ state (none_left r g e) (ap (λ (ps : List (Option Call)). after_all ps G) (none_reads r g e))

    none_replies : replies_in (drop (length piece) piece) (state (held_by r.lines) G) ≡ replies_in (drop at piece) (state h G)
    unfolding replies_in
    none_replies = ap (λ (ps : List (Option Call)). replies_to ps G) (none_reads r g e)

    pub going_past : Going piece s₀ out₀ (state (held_by r.lines) G) out used (length piece)
    going_past =
        record {
          within = omega arith;
          small = omega (arith, i.small, i.within);
          size = i.size;
          after = none_after ∙ i.after;
          put = rw (sym none_replies) at i.put;
        }

  -- the piece ends
  module _ (past : length piece ≤ at) where
    pub end_after : state h G ≡ after_piece piece s₀
    unfolding after_piece after_all
    end_after = sym (ap₂ state (end_left h piece at past) (rw (end_reads h piece at past) refl)) ∙ i.after

    no_replies : replies_in (drop at piece) (state h G) ≡ []
    unfolding replies_in replies_to
    no_replies = rw (end_reads h piece at past)

    pub end_wrote : Wrote out₀ 0 (replies_in piece s₀) out used
    end_wrote = putting_end no_replies i.put
