-- An answer in a run (request Eleven): refusal (1), CID (1), ATC (2) and IAD (32), the fields not given being zero.
use Rattle.std.specs.Prelude.{ℕ, ◌+◌, ◌/◌, ◌%◌, cond, List, [], ◌∷◌, ◌++◌, leb, length, replicate}
use Rattle.std.proofs.lemmas.List.Edits.{sets}
use Rattle.refusal.specs.Refusal.{refusal_number}
use Rattle.iad.specs.Iad.{written}
use Rattle.state.specs.State.{cid_of}
use Rattle.state.specs.declared.Answer.{Answer}
use Rattle.state.specs.declared.Answer.TheVariants.{Refused, Started, Given, Done}

abbrev pub size : ℕ
size = 36

-- the ATC's high byte first
abbrev pub head_of : (refusal cid atc : ℕ) → List ℕ
head_of refusal cid atc = refusal ∷ cid ∷ atc / 256 ∷ atc % 256 ∷ []

abbrev pub no_iad : List ℕ
no_iad = replicate 32 0

unfoldable pub answer_bytes : Answer → List ℕ
answer_bytes (Refused refusal) = head_of (refusal_number refusal) 0 0 ++ no_iad
answer_bytes (Started atc visits) = head_of 0 0 atc ++ no_iad
answer_bytes (Given kind atc iad) = head_of 0 (cid_of kind) atc ++ written iad no_iad
answer_bytes Done = head_of 0 0 0 ++ no_iad

-- from a place of the room on, where it has so many bytes
abbrev pub placed : (room : List ℕ) (at : ℕ) (bytes : List ℕ) → List ℕ
placed room at bytes = cond (leb (at + size) (length room)) (sets room at bytes) room
