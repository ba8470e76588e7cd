-- A date error over a paper's bytes: First leaves the last date, Y3 too, and the issuer's approval recovers it. Assumes nothing.
use mathlib.Core.Path.{◌≡◌, refl}
use mathlib.Core.Bool.{false}
use mathlib.Core.List.{List}
use Prim.Native.Nat.{ℕ}
use lib.Dec.{lit≤}
use lib.ListN.{length, take}
use Rattle.wire.specs.Wire.{number}
use Rattle.calendar.specs.declared.Date.{Date}
use Rattle.purchase.specs.declared.Timing.TheVariants.{InOrder, DateError}
use Rattle.purchase.specs.Meter.{cyclic}
use Rattle.shape.specs.declared.Shape.{Shape}
use Rattle.shape.specs.Shape.{based, dates}
use Rattle.demands.specs.Conversation.{Exchange}
use Rattle.demands.specs.Audit.{bought, last_date, audited}
use Rattle.demands.proofs.Computed.{computed}
use Rattle.spelling.specs.Spelling.{Bytes, big, record_of}
use Rattle.spelling.specs.Faults.{Opens}
use Rattle.spelling.specs.Sitting.{SetUp}
use Rattle.spelling.proofs.Computed.{begun}
use Rattle.papers.specs.Papers.{entries_long, setup_of, manner_of, Accepted, front_of, meant, walk, walked, commands_of, faulty}
use Rattle.papers.specs.Talk.{talk, newest}
use Rattle.papers.specs.Late.{late, late_body, late_rest}
use Rattle.papers.proofs.Events.{accepted_if_taken}
use Rattle.papers.proofs.Witness.{said_in, are_bytes, bytes_of}
use Rattle.std.specs.Prelude.{Some}
use Rattle.shape.specs.Shape.{span}

bytes : Bytes late
unfolding late are_bytes
bytes = bytes_of late refl

opens : Opens late 4 late_body late_rest
unfolding late record_of big
opens = record { is = refl; least = lit≤ tt; most = lit≤ tt; short = lit≤ tt }

abbrev shaped : Shape
shaped = dates (based 159) (Some (span 161 207))

set_up_lem : SetUp 4 late_body shaped
unfolding late begun
set_up_lem = record { shape_is = refl; base = refl; log = refl }

pub accepted : Accepted late
accepted = accepted_if_taken late bytes 4 late_body late_rest opens shaped set_up_lem

-- 17 commands, and no fault
pub its-commands : (length (commands_of late) ≡ 17) × (faulty late ≡ false)
unfolding late manner_of entries_long number front_of meant walk walked
its-commands = (refl, refl)

-- ---- what the conversation says behind so many answers

abbrev log : (n : ℕ) → List Exchange
log n = newest (take n (said_in late))

-- a day of July 2005
abbrev july : ℕ → Date
july day = record { year = 0x05; month = 0x07; day = day }

-- THE LAST DATE: the set-up's; an error leaves it; the issuer's approval recovers; a later date moves it on; Y3 in an error leaves it; an approval
-- with an order recovers again
pub record LastDates : Type 0 where
  pub begins : last_date (setup_of late) (log 1) ≡ july 0x25
  pub in_error : (bought (setup_of late) (log 2)).timing ≡ DateError (july 0x24)
  pub left : last_date (setup_of late) (log 2) ≡ july 0x25
  pub recovered : last_date (setup_of late) (log 3) ≡ july 0x24
  pub in_order : (bought (setup_of late) (log 5)).timing ≡ InOrder
  pub moved_on : last_date (setup_of late) (log 7) ≡ july 0x25
  pub unable : last_date (setup_of late) (log 10) ≡ july 0x25
  pub again : last_date (setup_of late) (log 13) ≡ july 0x24

pub last-dates : LastDates
unfolding late setup_of manner_of entries_long number front_of meant walk walked talk computed
last-dates =
    record {
      begins = refl;
      in_error = refl;
      left = refl;
      recovered = refl;
      in_order = refl;
      moved_on = refl;
      unable = refl;
      again = refl;
    }

-- THE CYCLIC ACCUMULATOR: 500, of which nothing is added in an error; 400 in order; the order takes the limit; another 0 leaves it
pub record Amounts : Type 0 where
  pub begins : audited (setup_of late) (log 1) (cyclic 0) ≡ 500
  pub uncounted : audited (setup_of late) (log 3) (cyclic 0) ≡ 500
  pub counted : audited (setup_of late) (log 7) (cyclic 0) ≡ 900
  pub unable : audited (setup_of late) (log 10) (cyclic 0) ≡ 900
  pub limited : audited (setup_of late) (log 13) (cyclic 0) ≡ 1000
  pub ends : audited (setup_of late) (log 17) (cyclic 0) ≡ 1000

pub amounts : Amounts
unfolding late setup_of manner_of entries_long number front_of meant walk walked talk computed
amounts =
    record {
      begins = refl;
      uncounted = refl;
      counted = refl;
      unable = refl;
      limited = refl;
      ends = refl;
    }
