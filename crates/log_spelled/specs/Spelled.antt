-- What a set-up says of its log, by the fields that it is spelled from (docs/PAPERS.md, "Tail of version 07"; document 02, Eight): no reader is here.
use Rattle.std.specs.Prelude.{ℕ, ◌+◌, ◌<◌, ◌≡◌, Bool, true, false, List, length, get_or}
use Rattle.wire.specs.Wire.{byte}
use Rattle.rows.specs.Rows.{Profile, Setup, Dates, undated, dated, Families, cpa, cpace}
use Rattle.rows.specs.Tails.{Log as Fields, Logs, unlogged, logged, log_bytes, Tail, dates_of, families_of, logs_of}
use Rattle.rows.specs.Said.{yes_if_one}
use Rattle.journal.specs.Journal.{is_logging}
use Rattle.paper_log.specs.declared.Log.{Log}
use Rattle.paper_log.specs.Log.{tail_at}

abbrev pub has_dates : Dates → Bool
has_dates undated = false
has_dates (dated cycles) = true

abbrev pub has_controls : Families → Bool
has_controls cpa = false
has_controls (cpace controls) = true

-- what its lines must know of the set-up
pub record FormSaid (x : Setup) (dates : Dates) (families : Families) (log : Log) : Type 0 where
  pub profiles : log.form.profiles ≡ length x.profiles
  pub dated-is : log.form.dated ≡ has_dates dates
  pub cpace-is : log.form.cpace ≡ has_controls families

-- ON: the ring's size, the switches, and each profile, by its number, as its byte says, 3 + j for profile j + 1; the tail is read where it was spelled
pub record On (x : Setup) (fields : Fields) (paper : List ℕ) (log : Log) : Type 0 where
  pub size : log.logging.size ≡ fields.size
  pub switches : log.logging.switches ≡ fields.switches
  pub logs : (j : ℕ) → j < length x.profiles → (d : Profile)
      → is_logging log.logging (get_or x.profiles j d).number ≡ yes_if_one (byte (log_bytes fields) (3 + j))
  pub tail : tail_at paper log.start log.end ≡ log_bytes fields

-- OFF: a ring without a slot, and no profile logs
pub record Off (log : Log) : Type 0 where
  pub no_slot : log.logging.size ≡ 0
  pub no_profile_lem : (profile : ℕ) → is_logging log.logging profile ≡ false

abbrev pub LogsSaid : Setup → Logs → (paper : List ℕ) → Log → Type 0
LogsSaid x unlogged paper log = Off log
LogsSaid x (logged fields) paper log = On x fields paper log

-- THE LOG of a paper whose set-up is spelled from these fields and this tail
pub record LogSaid (x : Setup) (tail : Tail) (paper : List ℕ) (log : Log) : Type 0 where
  pub form : FormSaid x (dates_of tail) (families_of tail) log
  pub logs : LogsSaid x (logs_of tail) paper log
