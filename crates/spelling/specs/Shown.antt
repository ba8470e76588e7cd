-- The fields of an answer's line (document 01, "A sitting in full"; docs/PAPERS.md, "Lines").
use Rattle.std.specs.Prelude.{[], ◌∷◌, ℕ, zero, suc, ◌<◌, replicate}
use Rattle.refusal.specs.Refusal.{refusal_number}
use Rattle.iad.specs.Iad.{written}
use Rattle.state.specs.declared.Answer.{Answer}
use Rattle.state.specs.declared.Answer.TheVariants.{Refused, Started, Given, Done}
use Rattle.state.specs.declared.Kind.TheVariants.{Aac, Tc, Arqc}
use Rattle.readback.specs.WellFormed.{Writable, OfBytes}
use Rattle.readback.specs.Fields.{Fields, Two, Three, Four, Five}

-- any refusal: record number, refusal; Start: 0, ATC, and the entries visited where there are any; First and Second: 0, CID (TC 40, ARQC 80,
-- AAC 00), ATC, the IAD; a script that is done: 0
abbrev pub shown : (number : ℕ) → Answer → Fields
shown number (Refused refusal) = Two number (refusal_number refusal)
shown number (Started atc zero) = Three number 0 atc
shown number (Started atc (suc visits)) = Four number 0 atc (suc visits)
shown number (Given Aac atc iad) = Five number 0 (0x00 ∷ []) atc (written iad (replicate 32 0))
shown number (Given Tc atc iad) = Five number 0 (0x40 ∷ []) atc (written iad (replicate 32 0))
shown number (Given Arqc atc iad) = Five number 0 (0x80 ∷ []) atc (written iad (replicate 32 0))
shown number Done = Two number 0

-- the widths of an answer's fields; of every answer `written_out` in `demands` says the rest
abbrev pub Sized : Answer → Type 0
Sized (Refused refusal) = Unit
Sized (Started atc visits) = (atc < 100_000) × (visits < 100_000)
Sized (Given kind atc iad) = (atc < 100_000) × Writable iad × OfBytes iad
Sized Done = Unit
