-- Whatever pieces the input comes in: at any time what comes of the bytes so far, and in the end the replies to its lines.
use Prim.Native.Nat.{ℕ}
use mathlib.Core.Path.{◌≡◌, refl, sym, ap, ap₂, ◌∙◌}
use mathlib.Core.List.{List, [], ◌∷◌, ◌++◌, append-nil, append_assoc}
use Rattle.names.specs.Sizes.{base}
use Rattle.rules.specs.Tables.{Tables, fresh}
use Rattle.lines.specs.Lines.{short, left, joined}
use Rattle.script.specs.Inputs.{reads, last, chunked, parsed_lines}
use Rattle.rules.specs.Answers.{Call}
use Rattle.std.proofs.Common.{Option}
use Rattle.script.proofs.Chunks.{reads-append, left-append, chunks}
use Rattle.running.specs.Replies.{reply_to, after_line, after_all, replies_to, replies_of}
use Rattle.running.specs.Life.{State, state, born, replies_in, after_piece, replies_at_end, after_pieces, replies_in_all, put_out, SoFar, Lived}

-- ---- lines behind lines

replies_append : (ps qs : List (Option Call)) (G : Tables) → replies_to (ps ++ qs) G ≡ replies_to ps G ++ replies_to qs (after_all ps G)
unfolding replies_to after_all
replies_append [] qs G = refl
replies_append (p ∷ ps) qs G =
    ap (λ (l : List ℕ). reply_to p G ++ l) (replies_append ps qs (after_line p G))
    ∙ sym (append_assoc (reply_to p G) (replies_to ps (after_line p G)) (replies_to qs (after_all ps (after_line p G))))

after-append : (ps qs : List (Option Call)) (G : Tables) → after_all (ps ++ qs) G ≡ after_all qs (after_all ps G)
unfolding after_all
after-append [] qs G = refl
after-append (p ∷ ps) qs G = after-append ps qs (after_line p G)

-- ---- two pieces are one

module _ (bs cs : List ℕ) (s : State) where
  two_after : after_piece cs (after_piece bs s) ≡ after_piece (bs ++ cs) s
  unfolding after_piece
  two_after =
      sym
      (ap₂ state (left-append bs cs s.line) (ap (λ (ps : List (Option Call)). after_all ps s.tables) (reads-append bs cs s.line) ∙ after-append (reads s.line bs) (reads (left s.line bs) cs) s.tables))

  two_replies : replies_in bs s ++ replies_in cs (after_piece bs s) ≡ replies_in (bs ++ cs) s
  unfolding after_piece replies_in
  two_replies =
      sym
      (ap (λ (ps : List (Option Call)). replies_to ps s.tables) (reads-append bs cs s.line) ∙ replies_append (reads s.line bs) (reads (left s.line bs) cs) s.tables)

-- ---- all pieces are one

after_all_lem : (cs : List (List ℕ)) (s : State) → after_pieces cs s ≡ after_piece (joined cs) s
unfolding after_pieces after_piece joined reads left after_all
after_all_lem [] s = refl
after_all_lem (c ∷ cs) s = after_all_lem cs (after_piece c s) ∙ two_after c (joined cs) s

replies_all : (cs : List (List ℕ)) (s : State) → replies_in_all cs s ≡ replies_in (joined cs) s
unfolding replies_in_all replies_in joined reads replies_to
replies_all [] s = refl
replies_all (c ∷ cs) s = ap (λ (l : List ℕ). replies_in c s ++ l) (replies_all cs (after_piece c s)) ∙ two_replies c (joined cs) s

pub so_far : SoFar
unfolding SoFar
so_far pieces = (after_all_lem pieces born, replies_all pieces born)

-- ---- one piece, and the end

-- the input as one chunk
one_chunk : (input : List ℕ) → reads (short []) input ++ last (left (short []) input) ≡ parsed_lines input
unfolding chunked joined
one_chunk input = chunks (input ∷ []) ∙ ap parsed_lines (append-nil input)

one_piece : (input : List ℕ) → replies_in input born ++ replies_at_end (after_piece input born) ≡ replies_of input
unfolding replies_in after_piece replies_at_end born replies_of
one_piece input =
    sym (replies_append (reads (short []) input) (last (left (short []) input)) (fresh base))
    ∙ ap (λ (ps : List (Option Call)). replies_to ps (fresh base)) (one_chunk input)

pub lived : Lived
unfolding Lived put_out
lived pieces =
    ap₂ (λ (l : List ℕ) (s : State). l ++ replies_at_end s) (replies_all pieces born) (after_all_lem pieces born) ∙ one_piece (joined pieces)
