-- What the search for a circle is handed: the links of the pieces, of which there are not too many.
use Rattle.std.specs.Prelude.{ℕ, ◌≤◌, ◌≡◌, List, length}
use Rattle.chop.specs.Pieces.{most, pieces_of}
use Rattle.chop.specs.Judgement.{links_of}

pub record Linked (words links : List ℕ) : Type 0 where
  pub are : links ≡ links_of (pieces_of words)
  pub few : length links ≤ most
