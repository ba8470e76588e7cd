-- The card's last date and the purchase of its open transaction are those that the conversation says. Assumes nothing.
use mathlib.Core.Path.{◌≡◌, refl, sym, ap, ap₂, subst, ◌∙◌}
use mathlib.Core.Bool.{Bool, true, false, cond, not, ◌&&◌}
use mathlib.Core.List.{List, [], ◌∷◌}
use mathlib.Core.Logic.{inl, inr}
use Prim.Native.Nat.{ℕ, ◌≤◌, ◌<◌}
use native.Mathlib.Omega.{arith}
use lib.Dec.{eqb}
use lib.ListN.{length}
use Rattle.wire.specs.Wire.{byte}
use Rattle.calendar.specs.declared.Date.{Date}
use Rattle.calendar.specs.Calendar.{date_at}
use Rattle.calendar.specs.Almanac.{date_after}
use Rattle.calendar.proofs.Dates.{calendar_days}
use Rattle.money.specs.Money.{max}
use Rattle.refusal.specs.declared.Refusal.{Refusal}
use Rattle.iad.specs.declared.Cvr.{Cvr}
use Rattle.rules.specs.declared.Place.{Place}
use Rattle.rules.specs.declared.Values.{Values}
use Rattle.rules.specs.Rules.{Rules}
use Rattle.tails.proofs.Accepted.{CyclesAccepted}
use Rattle.setup.specs.Setup.{fresh_in, read_setup}
use Rattle.command.specs.declared.First.{First}
use Rattle.command.specs.declared.Second.{Second}
use Rattle.card.specs.Message.{Message, StartCommand, FirstCommand, SecondCommand, ScriptCommand}
use Rattle.purchase.specs.declared.Timing.{Timing}
use Rattle.purchase.specs.declared.Timing.TheVariants.{Undated, InOrder, DateError}
use Rattle.purchase.specs.declared.Purchase.{Purchase}
use Rattle.purchase.specs.Meter.{Meter, IsMeter, value_of}
use Rattle.element.specs.declared.Write.{Write}
use Rattle.meters.specs.Meters.{moved}
use Rattle.marks.specs.declared.Scripts.{Scripts}
use Rattle.state.specs.declared.History.{History}
use Rattle.cryptogram.specs.declared.Issuer.{Issuer}
use Rattle.state.specs.declared.Kind.{Kind}
use Rattle.state.specs.declared.Kind.TheVariants.{Aac, Tc, Arqc}
use Rattle.state.specs.declared.Pending.{Pending}
use Rattle.state.specs.declared.Phase.{Phase}
use Rattle.state.specs.declared.Phase.TheVariants.{Idle, Opened, Asked}
use Rattle.state.specs.declared.State.{State}
use Rattle.state.specs.declared.Outcome.{Outcome}
use Rattle.cycles.specs.Cycles.{timing_of, dated}
use Rattle.first.specs.First.{purchase_of, first_kind, first_performed, first_answered, settled, asked, concluded}
use Rattle.closing.specs.Closing.{closed, recovered as card_recovered}
use Rattle.second.specs.Second.{is_unable, unable_performed, verified_performed, failed_performed, absent_performed, second_performed}
use Rattle.state.specs.Ruling.{refused}
use Rattle.scripting.specs.Scripting.{script_performed}
use Rattle.fresh.specs.Fresh.{fresh_state}
use Rattle.card.specs.Card.{is_dated}
use Rattle.demands.specs.Setup.{Setup, AcceptedSetup}
use Rattle.demands.specs.Conversation.{Exchange, Sitting, after, run, rules_by, sat, Spoken}
use Rattle.demands.specs.Scripts.{remembered, trial_of}
use Rattle.demands.specs.Audit.{cap_of, timed, latest, recovered, brought, bought, last_date, Dealing, dealing, with_writes, in_force}
use Rattle.demands.specs.Audit.{begun as enters_begun}
use Rattle.demands.proofs.Step.{Did, refused_it, started_it, took_first, took_second, took_script}
use Rattle.demands.proofs.Run.{Ruled, ruled_keeps, did_by, tail_stays}
use Rattle.demands.proofs.Bytes.{fits-tail, all_fit_lem}
use Rattle.demands.proofs.Dated.{Lasting, a_day, none_yet, OnDay, timing-is, on-day, still_lasting, last-is, begun-moves}

-- what an open ARQC remembers of its purchase
abbrev pub Remembers : Purchase → Phase → Type 0
Remembers purchase Idle = Unit
Remembers purchase (Opened place) = Unit
Remembers purchase (Asked pending) = (pending.purchase ≡ purchase) × (purchase.amount.0 ≤ max)

pub record Dealt (now : Setup) (said : Dealing) (state : State) : Type 0 where
  pub last-date-is : state.last ≡ said.last
  pub lasting : Lasting now said.last
  pub error_day : OnDay said.purchase.timing
  pub remembers : Remembers said.purchase state.phase

abbrev pub Deals : Setup → Sitting → Type 0
Deals setup sitting = Dealt (in_force setup sitting.log) (dealing setup sitting.log) sitting.state

module _ (setup : Setup) (sitting : Sitting) (ruled : Ruled setup sitting) (deals : Deals setup sitting) where
  abbrev state : State
  state = sitting.state

  abbrev log : List Exchange
  log = sitting.log

  abbrev now : Setup
  now = in_force setup log

  abbrev rules : Rules
  rules = rules_by now

  abbrev last : Date
  last = last_date setup log

  refused_deals : (command : Message) (r : Refusal) → Deals setup (after sitting command (refused state r))
  unfolding dealing in_force
  refused_deals (StartCommand start) r = deals
  refused_deals (FirstCommand first) r = deals
  refused_deals (SecondCommand second) r = deals
  refused_deals (ScriptCommand result template) r = deals

  -- a script leaves the tail
  written_lasts : (writes : List Write) {last : Date} → Lasting now last → Lasting (with_writes now writes) last
  written_lasts writes (a_day day) = a_day day
  written_lasts writes (none_yet off) = none_yet off

  -- ---- First

  module _ (first : First) (small : first.amount.0 ≤ max) (day : is_dated first.when ≡ true) where
    abbrev begun : State
    begun = dated rules state first.when

    abbrev timing : Timing
    timing = timing_of state.last first.when

    timed_as : timing ≡ timed last first.when
    timed_as = ap (λ l. timing_of l first.when) deals.last-date-is ∙ timing-is now ruled.good last deals.lasting first.when day

    pub brought_as : purchase_of first timing ≡ brought last first
    brought_as = ap (purchase_of first) timed_as

    -- what the date moves
    state_lasts : Lasting now state.last
    state_lasts = subst (Lasting now) (sym deals.last-date-is) deals.lasting

    pub begun_then : (meter : Meter) → IsMeter meter
        → value_of begun.values meter ≡ moved (cap_of meter) (value_of state.values meter) (enters_begun now last first.when meter)
    begun_then meter l =
        begun-moves now ruled.good state state_lasts first.when day meter l
        ∙ ap (λ before. moved (cap_of meter) (value_of state.values meter) (enters_begun now before first.when meter)) deals.last-date-is

    last_then : begun.last ≡ latest last first.when
    last_then =
        last-is now ruled.good state state_lasts first.when day
        ∙ ap (λ l. latest l first.when) deals.last-date-is

    concluded_deals : (place : Place) (limits : ℕ) (cvr : Cvr) (kind : Kind)
        → Deals setup (after sitting (FirstCommand first) (concluded rules begun place (purchase_of first timing) limits cvr kind))
    unfolding dealing in_force settled asked concluded
    concluded_deals place limits cvr kind = by kind where
      lasts : Lasting now (latest last first.when)
      lasts = still_lasting now ruled.good last deals.lasting first.when day

      errs : OnDay (timed last first.when)
      errs = on-day now ruled.good last deals.lasting first.when day

      by : (kind : Kind)
          → Deals setup (after sitting (FirstCommand first) (concluded rules begun place (purchase_of first timing) limits cvr kind))
      by Tc = record { last-date-is = last_then; lasting = lasts; error_day = errs; remembers = tt }
      by Aac = record { last-date-is = last_then; lasting = lasts; error_day = errs; remembers = tt }
      by Arqc = record { last-date-is = last_then; lasting = lasts; error_day = errs; remembers = (brought_as, small) }

  -- ---- Second

  -- a date error's date is the last one where a TC recovers from it
  module _ (second : Second) (pending : Pending) (is : state.phase ≡ Asked pending) where
    abbrev timing_then : Timing
    timing_then = (bought setup log).timing

    recovers : (timing : Timing) (b : Bool) → card_recovered timing b last ≡ cond b (recovered timing last) last
    recovers Undated true = refl
    recovers Undated false = refl
    recovers InOrder true = refl
    recovers InOrder false = refl
    recovers (DateError date) b = refl

    still : (timing : Timing) → OnDay timing → (b : Bool) → Lasting now (cond b (recovered timing last) last)
    still Undated day true = deals.lasting
    still InOrder day true = deals.lasting
    still (DateError date) day true = a_day day
    still timing day false = deals.lasting

    unless : (b u : Bool) (x y : Date) → cond u y (cond b x y) ≡ cond (b && not u) x y
    unless true true x y = refl
    unless true false x y = refl
    unless false true x y = refl
    unless false false x y = refl

    closed_deals : (approves : Bool) (values : Values) (then : Date) (history : History) (scripts : Scripts) (issuer : Issuer)
        → then ≡ cond (is_unable second.code) last (cond approves (recovered timing_then last) last)
        → Deals setup (after sitting (SecondCommand second) (closed rules state.atc pending approves values then history scripts issuer))
    unfolding dealing in_force closed
    closed_deals true values then history scripts issuer e =
        let unable = is_unable second.code in
        record {
          last-date-is = e ∙ unless true unable (recovered timing_then last) last;
          lasting = still timing_then deals.error_day (not unable);
          error_day = deals.error_day;
          remembers = tt;
        }
    closed_deals false values then history scripts issuer e =
        record {
          last-date-is = e ∙ unless false (is_unable second.code) (recovered timing_then last) last;
          lasting = deals.lasting;
          error_day = deals.error_day;
          remembers = tt;
        }

    recovering : (approves : Bool) → card_recovered pending.purchase.timing approves state.last ≡ cond approves (recovered timing_then last) last
    recovering approves =
        let bought-is = (subst (Remembers (bought setup log)) is deals.remembers).0 in
        ap₂ (λ (purchase : Purchase) l. card_recovered purchase.timing approves l) bought-is deals.last-date-is ∙ recovers timing_then approves

    second_deals : Deals setup (after sitting (SecondCommand second) (second_performed rules state second pending))
    unfolding second_performed unable_performed verified_performed failed_performed absent_performed
    second_deals = by (is_unable second.code) refl (eqb second.issuer 1) (eqb second.issuer 2) where
      by : (u : Bool) → is_unable second.code ≡ u → (v f : Bool)
          → Deals setup (after sitting (SecondCommand second) (cond u (unable_performed rules state second.requested pending)
          (cond v (verified_performed rules state second pending)
          (cond f (failed_performed rules state pending) (absent_performed rules state second.requested pending)))))
      by true u v f = closed_deals _ _ _ _ _ _ (rw u deals.last-date-is)
      by false u true f = closed_deals _ _ _ _ _ _ (rw u (recovering _))
      by false u false true = closed_deals _ _ _ _ _ _ (rw u deals.last-date-is)
      by false u false false = closed_deals _ _ _ _ _ _ (rw u (recovering _))

  pub did_deals : {command : Message} {outcome : Outcome} → Did rules state command outcome → Deals setup (after sitting command outcome)
  unfolding dealing in_force first_performed first_answered script_performed
  did_deals {command} (refused_it r wrote) = refused_deals command r
  did_deals (started_it start place holds) =
      record { last-date-is = deals.last-date-is; lasting = deals.lasting; error_day = deals.error_day; remembers = tt }
  did_deals (took_first first place is type small day) =
      concluded_deals first small day place _ _ (first_kind rules (begun first small day) place first (timing first small day))
  did_deals (took_second second pending is type issuer) = second_deals second pending is
  did_deals (took_script result template sound wrote) =
      record {
        last-date-is = deals.last-date-is;
        lasting = written_lasts (trial_of result template (remembered setup log)).writes deals.lasting;
        error_day = deals.error_day;
        remembers = deals.remembers;
      }

module _ (setup : Setup) (good : AcceptedSetup setup) where
  -- a fresh card's last date
  begin_lasting : Lasting setup (last_date setup [])
  unfolding dealing date_at
  begin_lasting = by (fits-tail good) where
    empty : (t : List ℕ) → length t ≡ 0 → t ≡ []
    empty [] e = refl
    empty (b ∷ t) e = absurd (omega arith)

    by : CyclesAccepted setup.tail → Lasting setup (last_date setup [])
    by (inl none) =
        let off = empty setup.tail none in
        subst (λ t. Lasting setup (record { year = byte t 1; month = byte t 2; day = byte t 3 })) (sym off) (none_yet off)
    by (inr ranges) = a_day ranges.last

  pub begin_deals : Deals setup (sat setup [])
  unfolding run fresh_state read_setup fresh_in dealing in_force date_at
  begin_deals = rw (all_fit_lem good) (record { last-date-is = refl; lasting = begin_lasting; error_day = tt; remembers = tt })

  module _ (commands : List Message) (spoken : Spoken commands) where
    pub always_deals : Deals setup (sat setup commands)
    always_deals =
        ruled_keeps setup good (Deals setup) (λ sitting ruled h command s. did_deals setup sitting ruled h (did_by setup sitting ruled command))
        begin_deals commands spoken

    -- THE LAST DATE, whichever commands carry one: before the first, on a card without dates, both calendars put 000000 before every day
    pub last-date : (sat setup commands).state.last ≡ last_date setup (sat setup commands).log
    last-date = always_deals.last-date-is

    -- which is a calendar day where dates are on
    pub last-day : 0 < length setup.tail → (n : ℕ) × (n < 36525) × (last_date setup (sat setup commands).log ≡ date_after n)
    last-day on = by always_deals.lasting where
      by : {last : Date} → Lasting (in_force setup (sat setup commands).log) last → (n : ℕ) × (n < 36525) × (last ≡ date_after n)
      by {last} (a_day day) = (calendar_days last).0 day
      by (none_yet off) = let none = ap length (sym (tail_stays setup (sat setup commands).log) ∙ off) in absurd (omega arith)
