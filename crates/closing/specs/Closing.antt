-- A transaction closed: its answer, the last date, and the issuer's order (document 01, "Second: the answer"; document 02, Five).
use Rattle.std.specs.Prelude.{ℕ, ◌%◌, Bool, true, false, cond, eqb}
use Rattle.calendar.specs.declared.Date.{Date}
use Rattle.rules.specs.declared.Place.{Place}
use Rattle.rules.specs.declared.Values.{Values}
use Rattle.rules.specs.Rules.{Rules}
use Rattle.purchase.specs.declared.Timing.{Timing}
use Rattle.purchase.specs.declared.Timing.TheVariants.{Undated, InOrder, DateError}
use Rattle.purchase.specs.declared.Purchase.{Purchase}
use Rattle.meters.specs.declared.Change.{Change}
use Rattle.meters.specs.declared.Change.TheVariants.{Approve, SetToLimits, Clear}
use Rattle.meters.specs.Meters.{applied}
use Rattle.state.specs.declared.History.{History}
use Rattle.state.specs.declared.Answer.TheVariants.{Given}
use Rattle.cryptogram.specs.declared.Issuer.{Issuer}
use Rattle.state.specs.declared.Kind.{Kind}
use Rattle.state.specs.declared.Kind.TheVariants.{Aac, Tc, Arqc}
use Rattle.cryptogram.specs.declared.Later.{Later}
use Rattle.cryptogram.specs.declared.Later.TheVariants.{Aac as LaterAac, Tc as LaterTc}
use Rattle.state.specs.declared.Pending.{Pending}
use Rattle.state.specs.declared.Phase.TheVariants.{Idle}
use Rattle.state.specs.declared.Outcome.{Outcome}
use Rattle.marks.specs.declared.Scripts.{Scripts}
use Rattle.cryptogram.specs.Cryptogram.{verification, sent_iad}

abbrev pub closing_kind : Bool → Kind
closing_kind true = Tc
closing_kind false = Aac

abbrev pub later_kind : Bool → Later
later_kind true = LaterTc
later_kind false = LaterAac

-- closes the transaction; the CVR is First's but for second type, b2 and b1 of byte 1, and b1 of byte 4
unfoldable pub closed : Rules → ℕ → Pending → Bool → Values → (last : Date) → History → Scripts → Issuer → Outcome
closed rules atc pending approves values last history scripts issuer =
    record {
      state = record { values = values; phase = Idle; atc = atc; last = last; history = history; scripts = scripts };
      answer =
          Given (closing_kind approves) atc
          (sent_iad rules pending.place values
          (verification rules pending.history pending.limits pending.scripts Arqc (later_kind approves) issuer));
    }

-- Annex I's recovery: in a date error a TC, but for one after Y3 or Z3, makes the transaction's date the last one
abbrev pub recovered : Timing → (approves : Bool) → (last : Date) → Date
recovered Undated approves last = last
recovered InOrder approves last = last
recovered (DateError date) approves last = cond approves date last

-- CSU byte 2 b2-b1: 00 nothing, 01 upper limits, 10 zero, 11 add as in an offline approval
abbrev pub ordered_change : ℕ → Purchase → Change
ordered_change order purchase = cond (eqb order 1) SetToLimits (cond (eqb order 2) Clear (Approve purchase))

unfoldable pub ordered : Rules → Place → Values → Purchase → ℕ → Values
ordered rules place values purchase update =
    cond (eqb (update % 4) 0) values (applied rules place values (ordered_change (update % 4) purchase))
