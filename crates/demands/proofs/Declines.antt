-- An AAC at First and a counter, by cases: what the card then holds and what its IAD shows. Assumes nothing.
use mathlib.Core.Bool.{Bool, true, false, ◌&&◌}
use mathlib.Core.List.{List, [], ◌∷◌, ◌++◌}
use Prim.Native.Nat.{ℕ, ◌^◌}
use lib.Dec.{T, eqb}
use lib.ListN.{replicate}
use Rattle.cpace.specs.declared.Cvm.TheVariants.{NoCvm}
use Rattle.card.specs.Message.{Message, StartCommand, FirstCommand}
use Rattle.state.specs.declared.Answer.{Answer}
use Rattle.state.specs.declared.Answer.TheVariants.{Refused, Started, Given, Done}
use Rattle.state.specs.declared.Kind.TheVariants.{Aac, Tc, Arqc}
use Rattle.state.specs.declared.Outcome.{Outcome}
use Rattle.demands.specs.Setup.{Setup}
use Rattle.purchase.specs.Meter.{counter, value_of}
use Rattle.demands.specs.Conversation.{next}
use Rattle.demands.proofs.Computed.{computed}
use Rattle.std.specs.Prelude.{None, Some}

abbrev zeros : ℕ → List ℕ
zeros n = replicate n 0

-- a set-up of zeros but for profile 1 and its counter 1, which is sent
abbrev body : (value switches lower : ℕ) → Setup
body value switches lower =
    record {
      bytes = zeros 3 ++ 1 ∷ zeros 44 ++ value ∷ zeros 3 ++ 1 ∷ zeros 91 ++ switches ∷ lower ∷ 255 ∷ zeros 9 ++ 0 ∷ 1 ∷ 0 ∷ [];
      tail = [];
      family = [];
      syllabus = 0;
      unnamed = 2 ^ 22;
      written = [];
    }

abbrev start : Message
start = StartCommand (record { interface = 0; chosen = Some (record { profile = 1; visits = 0 }) })

-- an AAC requested
abbrev first : Message
first =
    FirstCommand (record {
      amount = record { 0 = 1 };
      currency = 0x0978;
      requested = 0;
      terminal = 0x22;
      when = None;
      cvm = NoCvm;
      cashback = false;
    })

abbrev outcome : Setup → Outcome
outcome setup = next setup (start ∷ []) first

-- an AAC, the IAD's counter and CVR byte 3
abbrev shows : Answer → (count limits : ℕ) → Bool
shows (Refused refusal) count limits = false
shows (Started atc visits) count limits = false
shows (Given Aac atc iad) count limits = eqb iad.first count && eqb iad.cvr.byte3 limits
shows (Given Tc atc iad) count limits = false
shows (Given Arqc atc iad) count limits = false
shows Done count limits = false

pub record Row : Type 0 where
  pub value : ℕ
  pub switches : ℕ
  pub lower : ℕ
  pub result : ℕ
  pub limits : ℕ

abbrev row : (value switches lower result limits : ℕ) → Row
row value switches lower result limits = record { value = value; switches = switches; lower = lower; result = result; limits = limits }

unfoldable pub holds : Row → Bool
holds r =
    let after = outcome (body r.value r.switches r.lower) in
    eqb (value_of after.state.values (counter 0)) r.result && shows after.answer r.result r.limits

-- active, allowed and with declines; at 255; without declines, without "allow", not active; and the lower limit that only the old
-- value is within
unfoldable pub table : List Row
table =
    row 4 0x0B 255 5 0
    ∷ row 255 0x0B 255 255 0
    ∷ row 4 0x03 255 4 0
    ∷ row 4 0x09 255 4 0
    ∷ row 4 0x0A 255 4 0
    ∷ row 4 0x0B 4 5 0
    ∷ row 5 0x0B 4 6 0x80
    ∷ []

unfoldable pub all : List Row → Bool
all [] = true
all (r ∷ rows) = holds r && all rows

pub declines : T (all table)
unfolding all table holds computed
declines = tt
