-- The sitting that document 01 prints in full ("A sitting in full"): its set-up's body, its commands and its lines.
use Rattle.std.specs.Prelude.{ℕ, List, [], ◌∷◌, ◌++◌, replicate, false, None, Some}
use Rattle.cpace.specs.declared.Cvm.TheVariants.{NoCvm}
use Rattle.refusal.specs.Refusal.{refusal_number}
use Rattle.iad.specs.Iad.{iad_bytes}
use Rattle.card.specs.Message.{Message, StartCommand, FirstCommand, SecondCommand}
use Rattle.state.specs.declared.Answer.{Answer}
use Rattle.state.specs.declared.Answer.TheVariants.{Refused, Started, Given, Done}
use Rattle.state.specs.State.{cid_of}
use Rattle.demands.specs.Conversation.{Exchange}

abbrev zeros : ℕ → List ℕ
zeros n = replicate n 0

-- key 01, PIN 3, not required, p 1, c 0, ATC 0, no go online next; accumulator 1 in 0978 from 0, three more; four counters
abbrev head : List ℕ
head = 0x01 ∷ 3 ∷ 0 ∷ 1 ∷ 0 ∷ 0 ∷ 0 ∷ 0 ∷ 0x09 ∷ 0x78 ∷ zeros 8 ++ zeros 30 ++ zeros 4

-- profile 1; Online 64, Decline 1024, Default 1024; MTA off
abbrev profile_head : List ℕ
profile_head = 1 ∷ 0 ∷ 0 ∷ 0 ∷ 0x40 ∷ 0 ∷ 0 ∷ 0x04 ∷ 0x00 ∷ 0 ∷ 0 ∷ 0x04 ∷ 0x00 ∷ zeros 11

-- accumulator 1: switches 7, lower 5000, upper 10000; three more
abbrev accumulators : List ℕ
accumulators = 7 ∷ zeros 6 ++ 0x13 ∷ 0x88 ∷ zeros 6 ++ 0x27 ∷ 0x10 ∷ zeros 51

-- counter 1: switches 3, limits 255; three more; accumulator 1 sent, counters 1 and 0 sent
abbrev counters : List ℕ
counters = 3 ∷ 255 ∷ 255 ∷ zeros 9 ++ 1 ∷ 1 ∷ 0 ∷ []

unfoldable pub body : List ℕ
body = head ++ profile_head ++ accumulators ++ counters

abbrev pub start : Message
start = StartCommand (record { interface = 0; chosen = Some (record { profile = 1; visits = 0 }) })

-- TC requested, in 0978, terminal 22 hex
abbrev pub first : ℕ → Message
first amount =
    FirstCommand (record {
      amount = record { 0 = amount };
      currency = 0x0978;
      requested = 1;
      terminal = 0x22;
      when = None;
      cvm = NoCvm;
      cashback = false;
    })

-- TC requested after Y3, issuer data 0, CSU zeros
abbrev pub second : Message
second = SecondCommand (record { csu = 0; code = 0x5933; requested = 1; issuer = 0 })

unfoldable pub commands : List Message
commands = start ∷ first 5000 ∷ start ∷ first 1 ∷ second ∷ start ∷ first 5000 ∷ second ∷ []

-- a line: the refusal; after Start the ATC; after First or Second the CID, the ATC and the IAD; after a script nothing more
abbrev pub line_of : Answer → List ℕ
line_of (Refused refusal) = refusal_number refusal ∷ []
line_of (Started atc visits) = 0 ∷ atc ∷ []
line_of (Given kind atc iad) = 0 ∷ cid_of kind ∷ atc ∷ iad_bytes iad
line_of Done = 0 ∷ []

abbrev pub lines_of : List Exchange → List (List ℕ)
lines_of [] = []
lines_of (exchange ∷ older) = lines_of older ++ line_of exchange.answer ∷ []

unfoldable pub lines : List (List ℕ)
lines =
    (0 ∷ 1 ∷ [])
    ∷ (0 ∷ 0x40 ∷ 1 ∷ 0x0F ∷ 0xA5 ∷ 0x01 ∷ 0x90 ∷ 0x30 ∷ 0x00 ∷ 0x00 ∷ 0x00
    ∷ 0x00 ∷ 0x00 ∷ 0x00 ∷ 0x00 ∷ 0x50 ∷ 0x00 ∷ 0x01 ∷ 0x00 ∷ 0x0F ∷ 0x01 ∷ zeros 14)
    ∷ (0 ∷ 2 ∷ [])
    ∷ (0 ∷ 0x80 ∷ 2 ∷ 0x0F ∷ 0xA5 ∷ 0x01 ∷ 0xA0 ∷ 0x30 ∷ 0x20 ∷ 0x00 ∷ 0x00
    ∷ 0x00 ∷ 0x00 ∷ 0x00 ∷ 0x00 ∷ 0x50 ∷ 0x00 ∷ 0x01 ∷ 0x00 ∷ 0x0F ∷ 0x01 ∷ zeros 14)
    ∷ (0 ∷ 0x40 ∷ 2 ∷ 0x0F ∷ 0xA5 ∷ 0x01 ∷ 0x62 ∷ 0x30 ∷ 0x20 ∷ 0x01 ∷ 0x00
    ∷ 0x00 ∷ 0x00 ∷ 0x00 ∷ 0x00 ∷ 0x50 ∷ 0x01 ∷ 0x02 ∷ 0x00 ∷ 0x0F ∷ 0x01 ∷ zeros 14)
    ∷ (0 ∷ 3 ∷ [])
    ∷ (0 ∷ 0x00 ∷ 3 ∷ 0x0F ∷ 0xA5 ∷ 0x01 ∷ 0x82 ∷ 0x31 ∷ 0x30 ∷ 0x00 ∷ 0x00
    ∷ 0x00 ∷ 0x00 ∷ 0x00 ∷ 0x00 ∷ 0x50 ∷ 0x01 ∷ 0x02 ∷ 0x00 ∷ 0x0F ∷ 0x01 ∷ zeros 14)
    ∷ (2 ∷ [])
    ∷ []
