-- What a record that is taken over keeps, and what the set-up's own definitions read in the room (document 02, request Two).
use Rattle.std.specs.Prelude.{◌≡◌, true, List, ℕ, ◌≤◌, pos, length, drop}
use Rattle.std.specs.Float.{binary64}
use Rattle.std.specs.Float.Ieee.{of_int}
use Rattle.wire.specs.Wire.{number}
use Rattle.money.specs.Money.{max}
use Rattle.rate.specs.Taken.{Taken}
use Rattle.ranges.specs.Ranges.{is_conversion}
use Rattle.setup.specs.Setup.{rate_in}
use Rattle.import.specs.declared.OldRecord.{OldRecord}
use Rattle.import.specs.declared.NewRecord.{NewRecord}
use Rattle.import.specs.Import.{are_currencies, old_record, imported}

-- the codes are kept, digits and shift are the rate's as the request takes it, and the MTA is the same number
pub record Moved (old : OldRecord) (new : NewRecord) : Type 0 where
  pub codes : are_currencies old.from old.to ≡ true
  pub from : new.conversion.from ≡ old.from
  pub to : new.conversion.to ≡ old.to
  pub taken : Taken old.rate new.conversion.digits new.conversion.shift
  pub same : old.mta ≡ of_int binary64 (pos new.mta.0)
  pub most : new.mta.0 ≤ max

-- the first 7 bytes are a conversion that a set-up may hold, and it reads as the new record's; the next 8 are its MTA; no byte behind them moves
pub record Read (old room : List ℕ) : Type 0 where
  pub new : NewRecord
  pub moved : Moved (old_record old) new
  pub accepted : is_conversion (imported old room) 0 ≡ true
  pub conversion : rate_in (imported old room) 0 ≡ new.conversion
  pub amount : number (imported old room) 7 8 ≡ new.mta.0
  pub behind : drop 15 (imported old room) ≡ drop 15 room
  pub size : length (imported old room) ≡ length room
