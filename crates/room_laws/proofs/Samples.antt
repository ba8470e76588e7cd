-- `room-kept`, computed for a few sittings: of a wrong card the statement itself is then shown to be false. Assumes nothing.
use mathlib.Core.Bool.{Bool, cond, not, ◌&&◌}
use mathlib.Core.List.{List, [], ◌∷◌, ◌++◌}
use Prim.Native.Nat.{ℕ, ◌+◌, ◌*◌}
use lib.Dec.{T, eqb, leb}
use lib.ListN.{get_or}
use Rattle.purchase.specs.Meter.{accumulator}
use Rattle.rooms.specs.Rooms.{no_rooms, left_in, cell_set, column_set, column_renewed, filled, renewed, room_left, room_number}
use Rattle.keeper.specs.Keeper.{rooms_after}
use Rattle.card.specs.Message.{Message}
use Rattle.demands.specs.Setup.{Setup}
use Rattle.demands.specs.Conversation.{rules_by}
use Rattle.demands.specs.Audit.{in_force, upper_of, audited}
use Rattle.demands.proofs.Computed.{computed}
use Rattle.demands.proofs.Sittings.{counting, limiting, answered, approvals, limits, resets, first, value, limit, script}
use Rattle.room_laws.specs.Kept.{rooms_over, rooms_sat}

abbrev is_left : (room value upper : ℕ) → Bool
is_left room value upper = cond (leb value upper) (eqb (room + value) upper) (eqb room 0)

-- of accumulator i + 1 of profile p + 1
unfoldable pub keeps : Setup → List Message → (p i : ℕ) → Bool
keeps setup commands p i =
    let log = (computed setup commands).log in
    is_left (get_or (rooms_sat setup commands no_rooms) (4 * p + i) 0) (audited setup log (accumulator i))
    (upper_of (in_force setup log) (52 + 107 * p) (accumulator i))

pub record Samples : Type 0 where
  -- right after the set-up, in each profile, active or not; a value above its limit
  pub set_up_lem : T (keeps counting [] 0 0 && keeps counting [] 1 0 && keeps counting [] 1 2)
  pub above-limit : T (keeps (limiting 1 0x17 0x70) [] 0 0)
  -- an approval, in the profile that was opened and in the other one
  pub approved : T (keeps counting (answered 1) 0 0)
  pub other-profile : T (keeps counting (answered 1) 1 0)
  -- refused, the cells stay
  pub refused : T (keeps counting (answered 1 ++ first 1 0x0978 1 ∷ []) 0 0)
  -- set to the limits by the issuer's order, and reset
  pub limited : T (keeps counting limits 0 0)
  pub reset : T (keeps counting resets 0 0)
  -- a limit that a script writes, below the value too; a value
  pub limit-written : T (keeps counting (script (limit 1 0 0 0 0x99 ∷ []) ∷ []) 1 0)
  pub limit-below : T (keeps counting (answered 1 ++ script (limit 1 0 0 0 0 ∷ []) ∷ []) 0 0)
  pub value_written_lem : T (keeps counting (script (value 1 0 0x99 ∷ []) ∷ []) 0 0)
  -- `room-unknown`: asked for accumulator 0 of a profile that the set-up lacks, it is 3 and not 6
  pub unknown-first : T (eqb (room_number (room_left (rules_by counting) no_rooms 9 0)) 3)

pub samples : Samples
unfolding counting limiting answered approvals limits resets keeps computed rooms_over rooms_after filled renewed column_set column_renewed cell_set left_in
    room_left
samples =
    record {
      set_up_lem = tt;
      above-limit = tt;
      approved = tt;
      other-profile = tt;
      refused = tt;
      limited = tt;
      reset = tt;
      limit-written = tt;
      limit-below = tt;
      value_written_lem = tt;
      unknown-first = tt;
    }
