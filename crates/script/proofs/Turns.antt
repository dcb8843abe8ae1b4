-- A chunk from an index on, a line at a turn: what its lines are read as, and what is kept at its end.
use Prim.Native.Nat.{ℕ, ◌≤◌}
use mathlib.Core.Path.{◌≡◌, refl, sym, ◌∙◌}
use mathlib.Core.List.{List, [], ◌∷◌}
use native.Mathlib.Omega.{arith}
use lib.ListN.{length, drop, drop_of_length-le}
use Rattle.lines.specs.Lines.{Held, short, held_by, gather, ends, unended, found_by, Goes, left}
use Rattle.script.specs.Inputs.{read_as, reads}
use Rattle.rules.specs.Answers.{Call}
use Rattle.std.proofs.Common.{Option, Some, None}
use Rattle.lines.specs.declared.Next.{Next}
use Rattle.script.proofs.Chunks.{gather-reads, gather-left}

abbrev pub left_from : Held → List ℕ → ℕ → Held
left_from h chunk at = left h (drop at chunk)

abbrev pub reads_from : Held → List ℕ → ℕ → List (Option Call)
reads_from h chunk at = reads h (drop at chunk)

-- ---- a line ends

ended : {h : Held} {chunk : List ℕ} {from at : ℕ} (r : Next) → Goes h chunk from r → r.at ≡ Some at → gather h (drop from chunk) ≡ ends (held_by r.lines) (drop at chunk)
unfolding found_by
ended r g e = sym g.found ∙ rw e refl

-- k is what is kept then: nothing
module _ {h k : Held} {chunk : List ℕ} {from at : ℕ} (r : Next) (n : k ≡ short []) (g : Goes h chunk from r) (e : r.at ≡ Some at) where
  pub line_reads : reads_from h chunk from ≡ read_as (held_by r.lines) ∷ reads_from k chunk at
  line_reads = rw n (gather-reads (drop from chunk) h (held_by r.lines) (drop at chunk) (ended r g e)).0

  pub line-left : left_from k chunk at ≡ left_from h chunk from
  line-left = rw n (sym (gather-reads (drop from chunk) h (held_by r.lines) (drop at chunk) (ended r g e)).1)

-- ---- the chunk ends

pub end_reads : (h : Held) (chunk : List ℕ) (at : ℕ) → length chunk ≤ at → reads_from h chunk at ≡ []
unfolding reads
end_reads h chunk at k = rw (drop_of_length-le chunk k)

pub end_left : (h : Held) (chunk : List ℕ) (at : ℕ) → length chunk ≤ at → left_from h chunk at ≡ h
unfolding left
end_left h chunk at k = rw (drop_of_length-le chunk k)

module _ {h : Held} {chunk : List ℕ} {from : ℕ} (r : Next) (g : Goes h chunk from r) (e : r.at ≡ None) where
  unended' : gather h (drop from chunk) ≡ unended (held_by r.lines)
  unfolding found_by
  unended' = sym g.found ∙ rw e refl

  pub none_reads : reads_from (held_by r.lines) chunk (length chunk) ≡ reads_from h chunk from
  none_reads = end_reads (held_by r.lines) chunk (length chunk) (omega arith) ∙ sym (gather-left (drop from chunk) h (held_by r.lines) unended').0

  pub none_left : left_from (held_by r.lines) chunk (length chunk) ≡ left_from h chunk from
  none_left = end_left (held_by r.lines) chunk (length chunk) (omega arith) ∙ sym (gather-left (drop from chunk) h (held_by r.lines) unended').1
