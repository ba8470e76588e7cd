-- What storing a part of a text does to the room.
use Rattle.std.specs.Prelude.{◌≡◌, List, ℕ, ◌+◌, ◌≤◌, length}
use Rattle.std.proofs.lemmas.List.Edits.{sets}

-- a text of at most some bytes stands from a place on, and ends at another
pub record Stored (room : List ℕ) (at : ℕ) (text : List ℕ) (most : ℕ) (end : ℕ) (after : List ℕ) : Type 0 where
  pub is : after ≡ sets room at text
  pub behind : end ≡ at + length text
  pub short : end ≤ at + most
