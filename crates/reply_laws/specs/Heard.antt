-- What is heard of an answer from its printed line (document 01, "A sitting in full").
use Rattle.std.specs.Prelude.{◌<◌, None, Option, Some}
use Rattle.state.specs.declared.Answer.{Answer}
use Rattle.state.specs.declared.Answer.TheVariants.{Refused, Started, Given, Done}
use Rattle.journal.specs.Logged.{cryptogram}
use Rattle.readback.specs.WellFormed.{Writable, OfBytes}
use Rattle.journal.specs.declared.Cryptogram.{Cryptogram}

-- a cryptogram, as far as a log listens; of any other answer nothing
abbrev pub heard_reply : Answer → Option Cryptogram
heard_reply (Refused refusal) = None
heard_reply (Started atc visits) = None
heard_reply (Given kind atc iad) = Some (cryptogram kind atc iad)
heard_reply Done = None

-- a cryptogram is heard whole where its ATC has at most five digits and its IAD is one that writing takes, with fields that are bytes
abbrev pub Legible : Answer → Type 0
Legible (Refused refusal) = Unit
Legible (Started atc visits) = Unit
Legible (Given kind atc iad) = (atc < 100_000) × Writable iad × OfBytes iad
Legible Done = Unit
