-- The premises of demand 3's theorems are met: by the set-up of the printed sitting, in which a guarding profile approves, and by one with
-- dates; so are those of the two families' likeness; and the sitting's lines are those that document 01 prints. Assumes nothing.
use mathlib.Core.Path.{◌≡◌, refl}
use mathlib.Core.Bool.{Bool, true, false, ◌&&◌}
use mathlib.Core.List.{List, [], ◌∷◌}
use Prim.Native.Nat.{ℕ, zero, suc, ◌^◌, ◌≤◌, ◌<◌}
use native.Mathlib.Omega.{arith}
use borrow.Author.Tests.{ltb-true}
use lib.Dec.{ltb}
use Rattle.wire.specs.Wire.{byte}
use Rattle.ranges.specs.Ranges.{is_setup}
use Rattle.tails.specs.Tails.{are_cycles, is_family}
use Rattle.cpace.specs.declared.Cvm.TheVariants.{OnlinePin, Signature, NoCvm}
use Rattle.card.specs.Message.{Message}
use Rattle.auditor.specs.Template.{InRange}
use Rattle.demands.specs.Setup.{Setup, IsCpa, AcceptedSetup}
use Rattle.purchase.specs.Meter.{Meter, accumulator, cyclic, value_of}
use Rattle.demands.specs.Conversation.{told, sat, next, Spoken}
use Rattle.demands.specs.Audit.{upper_of, takes_part, bought, in_force, place_by, approves}
use Rattle.demands.specs.Guards.{Guards}
use Rattle.demands.specs.Printed.{body, start, first, second, commands, lines_of, lines}
use Rattle.demands.specs.Alike.{AlikeSetups, AlikeCommands, starts, firsts, seconds, AllAlike, nothing, more}
use Rattle.demands.proofs.Computed.{computed}
use Rattle.demands.proofs.Sittings.{zeros, spending, dual, start_on, first_by, first_on, on_day, limit, template_of, script}
use Rattle.std.specs.Prelude.{None, Some}

abbrev are_bytes : List ℕ → Bool
are_bytes [] = true
are_bytes (b ∷ s) = ltb b 256 && are_bytes s

bytes_of : (s : List ℕ) → are_bytes s ≡ true → (i : ℕ) → byte s i < 256
bytes_of [] e i = omega arith
bytes_of (b ∷ s) e zero = ltb-true b 256 (left (ltb b 256) (are_bytes s) e) where
  left : (x y : Bool) → (x && y) ≡ true → x ≡ true
  left true y e = refl
  left false y e = e
bytes_of (b ∷ s) e (suc i) = bytes_of s (right (ltb b 256) (are_bytes s) e) i where
  right : (x y : Bool) → (x && y) ≡ true → y ≡ true
  right true y e = e
  right false y e = cc

accepted_of : (setup : Setup) → are_bytes setup.bytes ≡ true → are_bytes setup.tail ≡ true → are_bytes setup.family ≡ true
    → is_setup setup.bytes setup.unnamed ≡ true → are_cycles setup.tail ≡ true → is_family setup.family ≡ true → InRange setup.written → AcceptedSetup setup
accepted_of setup base tail family taken tail-taken family-taken written =
    record {
      bytes = record { below = bytes_of setup.bytes base };
      tail-bytes = record { below = bytes_of setup.tail tail };
      family-bytes = record { below = bytes_of setup.family family };
      taken = taken;
      tail-taken = tail-taken;
      family-taken = family-taken;
      written-taken = written;
    }

-- of version 01
abbrev pub setup : Setup
setup = record { bytes = body; tail = []; family = []; syllabus = 0; unnamed = 2 ^ 22; written = [] }

pub good : AcceptedSetup setup
unfolding body computed InRange
good = accepted_of setup refl refl refl refl refl refl tt

-- THE PRINTED SITTING
pub printed : lines_of (sat setup commands).log ≡ lines
unfolding body commands lines computed
printed = refl

-- an approval happens on a CPA card: the answer approves a purchase in which the meter takes part, the value is what it is after it, and the profile guards the
-- meter against its upper limit
pub record Approval (setup : Setup) (meter : Meter) (before : List Message) (command : Message) (value upper : ℕ) : Type 0 where
  pub cpa : IsCpa setup
  pub spoken : Spoken before
  pub guards : Guards (in_force setup (sat setup before).log) (place_by setup (sat setup before).log) meter
  pub approves_it : approves command (next setup before command).answer ≡ true
  pub takes_part_lem : takes_part (bought setup (told (sat setup before) command).log) meter ≡ true
  pub value-is : value_of (next setup before command).state.values meter ≡ value
  pub upper_is : upper_of (in_force setup (sat setup before).log) (place_by setup (sat setup before).log) meter ≡ upper

-- APPROVALS UNDER A GUARDING PROFILE, at First and at Second after Y3
pub at_first : Approval setup (accumulator 0) (start ∷ []) (first 5000) 5000 10000
unfolding body computed
at_first =
    record {
      cpa = refl;
      spoken = (tt, tt);
      guards = record { active = refl; included = refl; decline = refl; default = refl };
      approves_it = refl;
      takes_part_lem = refl;
      value-is = refl;
      upper_is = refl;
    }

pub at_second : Approval setup (accumulator 0) (start ∷ first 5000 ∷ start ∷ first 1 ∷ []) second 5001 10000
unfolding body computed
at_second =
    record {
      cpa = refl;
      spoken = (tt, (tt, (tt, (tt, tt))));
      guards = record { active = refl; included = refl; decline = refl; default = refl };
      approves_it = refl;
      takes_part_lem = refl;
      value-is = refl;
      upper_is = refl;
    }

-- with an upper limit that a script wrote, between First and Second: 6,000 in place of 10,000
pub at_changed_limit : Approval setup (accumulator 0) (start ∷ first 5001 ∷ script (limit 1 0x50 0x00 0x60 0x00 ∷ []) ∷ []) second 5001 6000
unfolding body computed
at_changed_limit =
    record {
      cpa = refl;
      spoken = (tt, (tt, (bytes_of (template_of (limit 1 0x50 0x00 0x60 0x00 ∷ [])) refl, tt)));
      guards = record { active = refl; included = refl; decline = refl; default = refl };
      approves_it = refl;
      takes_part_lem = refl;
      value-is = refl;
      upper_is = refl;
    }

-- and of a cyclic accumulator, whose day begins at First: 1000 were spent the day before
abbrev pub dated-setup : Setup
dated-setup = spending 1 7 0x03 0xE8

pub dated-good : AcceptedSetup dated-setup
unfolding spending computed InRange
dated-good = accepted_of dated-setup refl refl refl refl refl refl tt

pub in_a_cycle : Approval dated-setup (cyclic 0) (start ∷ []) (first_on (on_day 0x00 0x07 0x16) 900 0x0978 1) 900 1000
unfolding spending computed
in_a_cycle =
    record {
      cpa = refl;
      spoken = (tt, tt);
      guards = record { active = refl; included = refl; decline = refl; default = refl };
      approves_it = refl;
      takes_part_lem = refl;
      value-is = refl;
      upper_is = refl;
    }

-- A CPACE CARD that closes accumulator 1 to a transaction without CVM, and counter 1 to one with online PIN or signature
pub dual_good : AcceptedSetup (dual 0 0 1 6 1)
unfolding dual computed InRange
dual_good = accepted_of (dual 0 0 1 6 1) refl refl refl refl refl refl tt

-- THE TWO FAMILIES: the printed sitting's set-up, and the same of a CPACE card, one profile, controls and cashback switch 0
abbrev pub cpace-setup : Setup
cpace-setup = record { bytes = body; tail = []; family = 1 ∷ zeros 9; syllabus = 0; unnamed = 2 ^ 26; written = [] }

pub cpace-good : AcceptedSetup cpace-setup
unfolding body computed InRange
cpace-good = accepted_of cpace-setup refl refl refl refl refl refl tt

all_zero : (n i : ℕ) → byte (zeros n) i ≡ 0
all_zero zero i = refl
all_zero (suc n) zero = refl
all_zero (suc n) (suc i) = all_zero n i

pub alike_setups : AlikeSetups setup cpace-setup
alike_setups = record { bytes = refl; tail = refl; syllabus = refl; none = refl; zeros = all_zero 9; written = refl }

-- contactless Starts, an online PIN and a signature, cashback
pub alike_commands : AllAlike commands
    (start_on 1 1 ∷ first_by OnlinePin true None 5000 0x0978 1 ∷ start ∷ first_by Signature false None 1 0x0978 1 ∷ second
    ∷ start_on 1 1
    ∷ first 5000
    ∷ second
    ∷ [])
unfolding commands
alike_commands =
    let opens : (interface : ℕ) → interface ≤ 1 → AlikeCommands start (start_on interface 1) = λ i l. starts (Some (record { profile = 1; visits = 0 })) 0 i (omega arith) l in
    more (opens 1 (omega arith)) (more (firsts _ OnlinePin true) (more (opens 0 (omega arith)) (more (firsts _ Signature false) (more (seconds _)
    (more (opens 1 (omega arith)) (more (firsts _ NoCvm false) (more (seconds _) nothing)))))))
