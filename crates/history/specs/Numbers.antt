-- Numbers and stamps are given one by one, upward.
use Rattle.std.specs.Prelude.{ℕ, suc, true, cond, List, [], ◌∷◌, ◌++◌, ◌≡◌, T, eqb}
use Rattle.names.specs.declared.Sizes.{Sizes}
use Rattle.rules.specs.Words.{some}
use Rattle.rules.specs.Answers.{Call}
use Rattle.history.specs.Happened.{Happening, update_began, query_began, relaxed_began, accessed, update_committed, empty_committed, settled_under, only_ended, nothing}
use Rattle.history.specs.Happened.{happenings, all_of}

-- the number that a begin gives
unfoldable pub number_of : Happening → List ℕ
number_of (update_began n) = n ∷ []
number_of (query_began n) = n ∷ []
number_of (relaxed_began n) = n ∷ []
number_of (accessed n a) = []
number_of (update_committed n c) = []
number_of (empty_committed n c) = []
number_of (settled_under n c) = []
number_of (only_ended n) = []
number_of nothing = []

-- the updates that ended their writing so far, ss before this
unfoldable pub settled_with : Happening → List ℕ → List ℕ
settled_with (settled_under n d) ss = n ∷ ss
settled_with (update_committed n d) ss = ss
settled_with (empty_committed n d) ss = ss
settled_with (update_began n) ss = ss
settled_with (query_began n) ss = ss
settled_with (relaxed_began n) ss = ss
settled_with (accessed n a) ss = ss
settled_with (only_ended n) ss = ss
settled_with nothing ss = ss

-- the stamp that is given: at a settle, or at the commit of an update that did not settle (request E6: who did "takes no new one")
unfoldable pub stamp_of : List ℕ → Happening → List ℕ
stamp_of ss (settled_under n d) = d ∷ []
stamp_of ss (update_committed n d) = cond (some (eqb n) ss) [] (d ∷ [])
stamp_of ss (empty_committed n d) = []
stamp_of ss (update_began n) = []
stamp_of ss (query_began n) = []
stamp_of ss (relaxed_began n) = []
stamp_of ss (accessed n a) = []
stamp_of ss (only_ended n) = []
stamp_of ss nothing = []

unfoldable pub stamps_after : List ℕ → List Happening → List ℕ
stamps_after ss [] = []
stamps_after ss (h ∷ hs) = stamp_of ss h ++ stamps_after (settled_with h ss) hs

-- the update n, if it commits, does so under the stamp d, and not as one that took none (request E7)
unfoldable pub CommitsUnder : ℕ → ℕ → List Happening → Type 0
CommitsUnder n d [] = T true
CommitsUnder n d (h ∷ hs) = ((c : ℕ) → h ≡ update_committed n c → c ≡ d) × ((c : ℕ) → h ≡ empty_committed n c → ⊥) × CommitsUnder n d hs

-- request E6, "Its commit puts versions under that stamp, answers it": whoever settles commits under the stamp that it took then
unfoldable pub StampsKept : List Happening → Type 0
StampsKept [] = T true
StampsKept (h ∷ hs) = ((n d : ℕ) → h ≡ settled_under n d → CommitsUnder n d hs) × StampsKept hs

-- the list is k, k + 1, k + 2 and so on
unfoldable pub CountsFrom : ℕ → List ℕ → Type 0
CountsFrom k [] = T true
CountsFrom k (n ∷ ns) = (n ≡ k) × CountsFrom (suc k) ns

-- "Transaction numbers run from 1 .. and are never given twice"; the stamps given are 1, 2, 3 and so on
pub record Upward (S : Sizes) (cs : List Call) : Type 0 where
  pub numbers : CountsFrom 1 (all_of number_of (happenings S cs))
  pub stamps : CountsFrom 1 (stamps_after [] (happenings S cs))
  pub kept : StampsKept (happenings S cs)
