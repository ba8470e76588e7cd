-- What goes out with a cryptogram (document 01, "CVR and IAD").
use Rattle.std.specs.Prelude.{ℕ, ◌+◌, ◌-◌, ◌*◌, false, cond, ◌||◌, List, get_or, eqb, ltb}
use Rattle.money.specs.declared.AccumulatorAmount.{AccumulatorAmount}
use Rattle.iad.specs.declared.Cvr.{Cvr}
use Rattle.iad.specs.declared.Iad.{Iad}
use Rattle.rules.specs.declared.Place.{Place}
use Rattle.rules.specs.declared.Values.{Values}
use Rattle.rules.specs.Rules.{Rules, profile_at}
use Rattle.limits.specs.Limits.{bit}
use Rattle.checks.specs.Checks.{meets_mask, accumulators_lower_group, accumulators_upper_group, date_error, counters_lower_group, counters_upper_group}
use Rattle.marks.specs.declared.Scripts.{Scripts}
use Rattle.marks.specs.Marks.{marks_of}
use Rattle.state.specs.declared.History.{History}
use Rattle.cryptogram.specs.declared.Issuer.{Issuer}
use Rattle.state.specs.declared.Kind.{Kind}
use Rattle.state.specs.declared.Kind.TheVariants.{Aac, Tc, Arqc}
use Rattle.cryptogram.specs.declared.Later.{Later}
use Rattle.cryptogram.specs.declared.Later.TheVariants.{Aac as LaterAac, Tc as LaterTc, NotRequested}

-- first type: 00 AAC, 01 TC, 10 ARQC
abbrev pub kind_code : Kind → ℕ
kind_code Aac = 0
kind_code Tc = 1
kind_code Arqc = 2

-- second type: 00 AAC, 01 TC, 10 not requested
abbrev pub later_code : Later → ℕ
later_code LaterAac = 0
later_code LaterTc = 1
later_code NotRequested = 2

-- byte 3, of the decision bits: b8 any counter lower, b7 upper, b6 any accumulator lower, b5 upper, b2 a date error (request Five)
unfoldable pub limits_byte : ℕ → ℕ
limits_byte adr =
    bit (meets_mask adr counters_lower_group) * 128 + bit (meets_mask adr counters_upper_group) * 64
    + bit (meets_mask adr accumulators_lower_group) * 32
    + bit (meets_mask adr accumulators_upper_group) * 16
    + bit (meets_mask adr date_error) * 2

-- byte 1: b8-b7 second type, b6-b5 first type, b2 issuer authentication not performed, b1 failed.
-- byte 2: high nibble PIN tries, b2 set when they are 0, b1 last online not completed at First.
-- byte 3: the limits exceeded. byte 4: b8-b5 the script commands done and b4 whether one failed, at First (request Twelve), b2 go online next
-- at First, b1 unable to go online in this transaction.
unfoldable pub verification : Rules → History → (limits : ℕ) → Scripts → Kind → Later → Issuer → Cvr
verification rules history limits scripts first later issuer =
    record {
      byte1 = later_code later * 64 + kind_code first * 16 + bit issuer.unperformed * 2 + bit issuer.failed;
      byte2 = rules.pin * 16 + bit (eqb rules.pin 0) * 2 + bit history.uncompleted;
      byte3 = limits;
      byte4 = marks_of scripts + bit history.online * 2 + bit issuer.unable;
      byte5 = 0;
    }

-- at First, b2 of byte 1 is history bit 3 or 4, b1 history bit 2
abbrev pub issuer_before : History → Issuer
issuer_before history = record { unperformed = history.unable || history.missing; failed = history.failed; unable = false }

-- what is sent of four: the one of a number from 1 to 4, or none
abbrev pub sent_of : {A : Type 0} → List A → A → ℕ → A
sent_of values none number = cond (eqb number 0 || ltb 4 number) none (get_or values (number - 1) none)

-- "none sent" is zeros
abbrev pub sent_amount : List AccumulatorAmount → ℕ → AccumulatorAmount
sent_amount values number = sent_of values (record { 0 = 0 }) number

abbrev pub sent_count : List ℕ → ℕ → ℕ
sent_count values number = sent_of values 0 number

-- key index, CVR, accumulator sent, two counters sent, profile; values are those after the step
unfoldable pub sent_iad : Rules → Place → Values → Cvr → Iad
sent_iad rules place values cvr =
    let sent = (profile_at rules place).sent in
    record {
      accumulator = sent_amount values.accumulators sent.accumulator;
      key = rules.key;
      cvr = cvr;
      first = sent_count values.counters sent.first;
      second = sent_count values.counters sent.second;
      profile = (profile_at rules place).number;
    }
