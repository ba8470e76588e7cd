-- What First and Second answer, over every list of commands: the kind, the CVR and the rest of the IAD, by the conversation and the
-- set-up's bytes. Assumes nothing.
use mathlib.Core.Path.{◌≡◌, refl, sym, ap, ap₂, ◌∙◌, subst, subst₂, subst₃}
use mathlib.Core.Bool.{Bool, true, false, cond, not, ◌&&◌, ◌||◌}
use mathlib.Core.List.{List, [], ◌∷◌}
use Prim.Native.Nat.{ℕ, zero, suc, ◌+◌, ◌/◌, ◌%◌, ◌≤◌}
use native.Mathlib.Omega.{arith}
use borrow.Author.Tests.{leb-true, leb-false, eq-eqb, ne_eqb}
use lib.Dec.{leb, eqb}
use Rattle.calendar.specs.declared.Date.{Date}
use Rattle.money.specs.Money.{max}
use Rattle.refusal.specs.declared.Refusal.{Refusal}
use Rattle.iad.specs.declared.Cvr.{Cvr}
use Rattle.rules.specs.declared.Place.{Place}
use Rattle.rules.specs.declared.Values.{Values}
use Rattle.rules.specs.declared.Masks.{Masks}
use Rattle.rules.specs.Rules.{Rules, index_of, profile_at}
use Rattle.setup.specs.Setup.{profile_in}
use Rattle.selection.specs.Selection.{profile_of, visits_of}
use Rattle.command.specs.declared.First.{First}
use Rattle.command.specs.declared.Second.{Second}
use Rattle.card.specs.Message.{Message, StartCommand, FirstCommand, SecondCommand, ScriptCommand}
use Rattle.purchase.specs.declared.Timing.{Timing}
use Rattle.purchase.specs.declared.Purchase.{Purchase}
use Rattle.marks.specs.declared.Scripts.{Scripts}
use Rattle.state.specs.declared.History.{History}
use Rattle.checks.specs.Checks.{meets_mask}
use Rattle.state.specs.declared.Answer.{Answer}
use Rattle.state.specs.declared.Answer.TheVariants.{Refused, Started, Given, Done}
use Rattle.cryptogram.specs.declared.Issuer.{Issuer}
use Rattle.state.specs.declared.Kind.{Kind}
use Rattle.state.specs.declared.Kind.TheVariants.{Aac, Tc, Arqc}
use Rattle.cryptogram.specs.declared.Later.TheVariants.{NotRequested}
use Rattle.state.specs.declared.Pending.{Pending}
use Rattle.state.specs.declared.Phase.{Phase}
use Rattle.state.specs.declared.Phase.TheVariants.{Idle, Opened, Asked}
use Rattle.state.specs.declared.State.{State}
use Rattle.state.specs.declared.Outcome.{Outcome}
use Rattle.cryptogram.specs.Cryptogram.{limits_byte, later_code, verification, issuer_before, sent_iad}
use Rattle.cycles.specs.Cycles.{timing_of, dated}
use Rattle.first.specs.First.{purchase_of, first_bits, first_kind, first_performed, first_answered, settled, asked, concluded}
use Rattle.state.specs.State.{unable_in}
use Rattle.closing.specs.Closing.{closing_kind, later_kind, closed}
use Rattle.second.specs.Second.{is_unable, unable_bits, issuer_unable, unable_performed, verified_performed}
use Rattle.second.specs.Second.{failed_performed, absent_performed, second_performed, update_byte}
use Rattle.state.specs.Ruling.{refused}
use Rattle.scripting.specs.Scripting.{script_performed}
use Rattle.fresh.specs.Fresh.{fresh_state}
use Rattle.card.specs.Card.{is_dated}
use Rattle.demands.specs.Setup.{Setup, byte_at, number_at, AcceptedSetup}
use Rattle.purchase.specs.Meter.{Meter, value_of}
use Rattle.demands.specs.Conversation.{Exchange, Sitting, after, told, run, rules_by, sat, next, IsSpoken, Spoken}
use Rattle.demands.specs.Scripts.{Remembered, trial_of, remembered}
use Rattle.demands.specs.Audit.{is_on, named, brought, bought, last_date, dealing, in_force, place_by, audited, tested}
use Rattle.demands.specs.Past.{past, before_first}
use Rattle.demands.specs.Rows.{InSetup}
use Rattle.demands.specs.Decision.{flags, meets}
use Rattle.demands.specs.Verification.{Issuing, Verifies, type_of, not_requested, issuing_at_first, issuing_at_second, second_approves, with_unable}
use Rattle.demands.specs.Verification.{FirstGives, SecondGives, Gives}
use Rattle.demands.proofs.Step.{Did, refused_it, started_it, took_first, took_second, took_script}
use Rattle.demands.proofs.Run.{Ruled, ruled_keeps, always_ruled, did_by, pin_stays, not_required}
use Rattle.demands.proofs.Ends.{second-closes}
use Rattle.demands.proofs.Refusal.{in_rules, in_bytes}
use Rattle.demands.proofs.Written.{place-written}
use Rattle.demands.proofs.Bytes.{fits, Stands, pin-is, required-is, masks-are, number-there}
use Rattle.demands.proofs.Dated.{same-history, same-scripts}
use Rattle.demands.proofs.Scripts.{Keeps}
use Rattle.demands.proofs.Deals.{Remembers, Deals, brought_as, did_deals, begin_deals}
use Rattle.demands.proofs.Total.{Agrees, Holding, begun-values, did_holds, begin_holds}
use Rattle.demands.proofs.Past.{Recalls, did_keeps, begin_recalls}
use Rattle.demands.proofs.Decision.{met-is}
use Rattle.demands.proofs.First.{flags-same, kind-answers}
use Rattle.demands.proofs.Verification.{limits-are, limits_by, limits-audited, verifies, same_cvr, sends-audited}
use Rattle.std.specs.Prelude.{None, Option, Some}
use Rattle.selection.specs.declared.Selected.{Selected}

-- what the card keeps of First for Second's CVR
pub record Pends (setup : Setup) (before : List Exchange) (at : ℕ) (purchase : Purchase) (pending : Pending) : Type 0 where
  pub history-is : pending.history ≡ past setup before
  pub limits-is : pending.limits ≡ limits_by (in_force setup before) at purchase (audited setup before)
  pub scripts-are : Keeps (remembered setup before) pending.scripts

abbrev pub PendsIn : Setup → List Exchange → (at : ℕ) → Purchase → Phase → Type 0
PendsIn setup before at purchase Idle = Unit
PendsIn setup before at purchase (Opened place) = Unit
PendsIn setup before at purchase (Asked pending) = Pends setup before at purchase pending

abbrev pub Keeping : Setup → Sitting → Type 0
Keeping setup sitting =
    PendsIn setup (before_first sitting.log) (place_by setup sitting.log) (bought setup sitting.log) sitting.state.phase

pub record Knows (setup : Setup) (sitting : Sitting) : Type 0 where
  pub deals : Deals setup sitting
  pub holding : Holding setup sitting
  pub recalls : Recalls setup sitting
  pub keeps : Keeping setup sitting

module _ (setup : Setup) (sitting : Sitting) (ruled : Ruled setup sitting) (knows : Knows setup sitting) where
  abbrev state : State
  state = sitting.state

  abbrev log : List Exchange
  log = sitting.log

  abbrev now : Setup
  now = in_force setup log

  abbrev rules : Rules
  rules = rules_by now

  abbrev at : ℕ
  at = place_by setup log

  good : AcceptedSetup now
  good = ruled.good

  -- the profile of an open transaction is in the set-up
  standing : (place : Place) → Stands now place at → InSetup now (named log)
  standing place stands =
      record {
        index = index_of place;
        there = stands.there;
        its = ap (byte_at now) (sym stands.offset) ∙ number-there now good (named log) place stands;
      }

  -- ---- First

  module _ (first : First) (place : Place) (stands : Stands now place at) (type : first.requested ≤ 2) (small : first.amount.0 ≤ max)
      (day : is_dated first.when ≡ true) where
    -- the card when the tests come, and what they see
    abbrev begun : State
    begun = dated rules state first.when

    abbrev timing : Timing
    timing = timing_of state.last first.when

    abbrev purchase : Purchase
    purchase = brought (last_date setup log) first

    abbrev value : Meter → ℕ
    value = tested setup log first

    abbrev limits : ℕ
    limits = limits_byte (first_bits rules begun place first timing)

    limits_now : limits ≡ limits_by now at purchase value
    limits_now =
        limits-are now good place at stands begun.values (purchase_of first timing) small begun.history
        ∙ limits-audited now at (purchase_of first timing) (value_of begun.values) value
        (begun-values setup sitting ruled knows.deals knows.holding first small day)
        ∙ ap (λ p. limits_by now at p value) (brought_as setup sitting ruled knows.deals first small day)

    history_then : begun.history ≡ past setup log
    history_then = same-history rules state first.when ∙ knows.recalls.history-is

    scripts_then : Keeps (remembered setup log) begun.scripts
    scripts_then = subst (Keeps (remembered setup log)) (sym (same-scripts rules state first.when)) ruled.scripts-are

    abbrev cvr_of_lem : Kind → Cvr
    cvr_of_lem kind = verification rules begun.history limits begun.scripts kind NotRequested (issuer_before begun.history)

    cvr_verifies : (kind : Kind)
        → Verifies now at purchase value (past setup log) (remembered setup log) not_requested (type_of kind) (issuing_at_first (past setup log)) (cvr_of_lem kind)
    cvr_verifies kind =
        let memory = remembered setup log in
        subst (λ history. Verifies now at purchase value history memory not_requested (type_of kind) (issuing_at_first history) (cvr_of_lem kind)) history_then
        (verifies now at purchase value begun.history memory begun.scripts scripts_then limits limits_now kind NotRequested
        (issuer_before begun.history))

    abbrev outcome_of_lem : Kind → Outcome
    outcome_of_lem kind = concluded rules begun place (purchase_of first timing) limits (cvr_of_lem kind) kind

    concluded_iad : (kind : Kind) → (outcome_of_lem kind).answer ≡ Given kind begun.atc (sent_iad rules place (outcome_of_lem kind).state.values (cvr_of_lem kind))
    unfolding settled asked concluded
    concluded_iad Aac = refl
    concluded_iad Tc = refl
    concluded_iad Arqc = refl

    concluded_knows : (kind : Kind) → Keeping setup (after sitting (FirstCommand first) (outcome_of_lem kind))
    unfolding settled asked concluded before_first named dealing in_force
    concluded_knows Aac = tt
    concluded_knows Tc = tt
    concluded_knows Arqc = record { history-is = history_then; limits-is = limits_now; scripts-are = scripts_then }

    -- the parts of an answer are those of the answer that it equals
    first_gives : Holding setup (after sitting (FirstCommand first) (outcome_of_lem (first_kind rules begun place first timing)))
        → Gives setup log (FirstCommand first) (outcome_of_lem (first_kind rules begun place first timing))
    unfolding sent_iad
    first_gives held kind atc iad e =
        let decided = first_kind rules begun place first timing in
        let given = sym (concluded_iad decided) ∙ e in
        let same : decided ≡ kind = cc in
        let sent : sent_iad rules place (outcome_of_lem decided).state.values (cvr_of_lem decided) ≡ iad = cc in
        let exchange : Exchange = record { command = FirstCommand first; answer = (outcome_of_lem decided).answer } in
        let parts : FirstGives setup log (exchange ∷ log) first decided (sent_iad rules place (outcome_of_lem decided).state.values (cvr_of_lem decided)) =
        record {
          known = standing place stands;
          decides = kind-answers setup sitting ruled knows.deals knows.holding knows.recalls.history-is first place stands type small day;
          verifies = cvr_verifies decided;
          sends = sends-audited now good (named log) place stands (outcome_of_lem decided).state.values (cvr_of_lem decided) _ held.values;
        } in
        subst₂ (FirstGives setup log (exchange ∷ log) first) same sent parts

  -- ---- Second

  module _ (second : Second) (pending : Pending) (is : state.phase ≡ Asked pending) (type : second.requested ≤ 1) where
    stands-there : Stands now pending.place at
    stands-there = subst (Agrees now (named log)) is knows.holding.agrees

    purchase-is : pending.purchase ≡ bought setup log
    purchase-is = (subst (Remembers (bought setup log)) is knows.deals.remembers).0

    no_more : pending.purchase.amount.0 ≤ max
    no_more = subst (λ (p : Purchase). p.amount.0 ≤ max) (sym purchase-is) (subst (Remembers (bought setup log)) is knows.deals.remembers).1

    kept : Pends setup (before_first log) at (bought setup log) pending
    kept = subst (PendsIn setup (before_first log) at (bought setup log)) is knows.keeps

    -- the set-up, the values and the history at First
    abbrev first-setup : Setup
    first-setup = in_force setup (before_first log)

    abbrev first-values : Meter → ℕ
    first-values = audited setup (before_first log)

    abbrev first_past : History
    first_past = past setup (before_first log)

    abbrev first_memory : Remembered
    first_memory = remembered setup (before_first log)

    abbrev fs : List Bool
    fs = flags now at (bought setup log) (audited setup log) (with_unable first_past)

    abbrev Given-by : Outcome → Type 0
    Given-by outcome = Holding setup (after sitting (SecondCommand second) outcome) → Gives setup log (SecondCommand second) outcome

    abbrev issuing_of : Issuer → Issuing
    issuing_of issuer = record { unperformed = issuer.unperformed; failed = issuer.failed; unable = issuer.unable }

    closing_is : (approves : Bool) → closing_kind approves ≡ cond approves Tc Aac
    closing_is true = refl
    closing_is false = refl

    later_is : (approves : Bool) → later_code (later_kind approves) ≡ type_of (closing_kind approves)
    later_is true = refl
    later_is false = refl

    same-pin : (rules_by first-setup).pin ≡ rules.pin
    same-pin = pin-is first-setup ∙ pin_stays setup (before_first log) ∙ sym (pin-is now ∙ pin_stays setup log)

    cvr_closed : (approves : Bool) (issuer : Issuer)
        → Verifies first-setup at (bought setup log) first-values first_past first_memory (type_of (closing_kind approves)) (type_of Arqc) (issuing_of issuer)
        (verification rules pending.history pending.limits pending.scripts Arqc (later_kind approves) issuer)
    cvr_closed approves issuer =
        let later = later_kind approves in
        subst₃ (λ history second cvr. Verifies first-setup at (bought setup log) first-values history first_memory second (type_of Arqc) (issuing_of issuer) cvr)
        kept.history-is (later_is approves)
        (same_cvr (rules_by first-setup) rules same-pin pending.history pending.limits pending.scripts Arqc later issuer)
        (verifies first-setup at (bought setup log) first-values pending.history first_memory pending.scripts kept.scripts-are pending.limits
        kept.limits-is Arqc later issuer)

    closed_gives : (approves : Bool) (values : Values) (last : Date) (history : History) (scripts : Scripts) (issuer : Issuer)
        → approves ≡ second_approves now at fs second → issuing_of issuer ≡ issuing_at_second second first_past
        → Given-by (closed rules state.atc pending approves values last history scripts issuer)
    unfolding closed sent_iad
    closed_gives approves values last history scripts issuer right issuing held kind atc iad e =
        let cvr = verification rules pending.history pending.limits pending.scripts Arqc (later_kind approves) issuer in
        let answer = (closed rules state.atc pending approves values last history scripts issuer).answer in
        let exchange : Exchange = record { command = SecondCommand second; answer = answer } in
        let same : closing_kind approves ≡ kind = cc in
        let sent : sent_iad rules pending.place values cvr ≡ iad = cc in
        let parts : SecondGives setup log (exchange ∷ log) second (closing_kind approves) (sent_iad rules pending.place values cvr) =
        record {
          known = standing pending.place stands-there;
          decides = closing_is approves ∙ ap (λ b. cond b Tc Aac) right;
          verifies =
              subst (λ i. Verifies first-setup at (bought setup log) first-values first_past first_memory (type_of (closing_kind approves)) (type_of Arqc) i cvr)
              issuing
              (cvr_closed approves issuer);
          sends = sends-audited now good (named log) pending.place stands-there values cvr _ held.values;
        } in
        subst₂ (SecondGives setup log (exchange ∷ log) second) same sent parts

    abbrev default-mask : ℕ
    default-mask = (profile_at rules pending.place).masks.default

    abbrev meets-default : Bool
    meets-default = meets_mask (unable_bits rules state pending) default-mask

    default-met : meets-default ≡ meets fs (number_at now (at + 9) 4)
    unfolding profile_in
    default-met =
        let history = unable_in pending.history in
        let stands = stands-there in
        met-is now good pending.place at stands state.values pending.purchase no_more history default-mask
        ∙ ap (λ f. meets f default-mask)
        (flags-same now at pending.purchase (value_of state.values) (audited setup log) history knows.holding.values
        ∙ ap₂ (λ purchase h. flags now at purchase (audited setup log) (with_unable h)) purchase-is kept.history-is)
        ∙ ap (λ (m : Masks). meets fs m.default) (masks-are now pending.place at stands)

    unable_right : (r : ℕ) → r ≤ 1 → (m : Bool) → not (eqb r 0 || m) ≡ (eqb r 1 && not m)
    unable_right zero l m = refl
    unable_right (suc zero) l m = refl
    unable_right (suc (suc r)) l m = absurd (omega arith)

    unable_gives : is_unable second.code ≡ true → (values : Values) (last : Date) (history : History) (scripts : Scripts)
        → Given-by (closed rules state.atc pending (not (eqb second.requested 0 || meets-default)) values last history scripts
        (issuer_unable pending.history))
    unable_gives u values last history scripts = closed_gives _ values last history scripts (issuer_unable pending.history) right issuing where
      issuing : issuing_of (issuer_unable pending.history) ≡ issuing_at_second second first_past
      issuing = rw u (ap (λ (h : History). record { unperformed = true; failed = h.failed; unable = true }) kept.history-is)

      right : not (eqb second.requested 0 || meets-default) ≡ second_approves now at fs second
      right = rw u (ap (λ m. not (eqb second.requested 0 || m)) default-met ∙ unable_right second.requested type (meets fs (number_at now (at + 9) 4)))

    b8 : (n : ℕ) → leb 128 (n % 256) ≡ is_on n 128
    b8 n = by (leb 128 (n % 256)) refl where
      by : (b : Bool) → leb 128 (n % 256) ≡ b → b ≡ eqb (n / 128 % 2) 1
      by true e = let h = leb-true 128 (n % 256) e in sym (eq-eqb (n / 128 % 2) 1 (omega arith))
      by false e = let h = leb-false 128 (n % 256) e in sym (ne_eqb (n / 128 % 2) 1 (λ z. omega arith))

    module _ (u : is_unable second.code ≡ false) (values : Values) (last : Date) (history : History) (scripts : Scripts) where
      verified_gives : eqb second.issuer 1 ≡ true
          → Given-by (closed rules state.atc pending (eqb second.requested 1 && leb 128 (update_byte second.csu)) values last history scripts
          (record { unperformed = false; failed = false; unable = false }))
      verified_gives v =
          closed_gives (eqb second.requested 1 && leb 128 (update_byte second.csu)) values last history scripts
          (record { unperformed = false; failed = false; unable = false })
          (rw (u, v) (ap (λ b. eqb second.requested 1 && b) (b8 (second.csu / 65536)))) (rw (u, v))

      failed_gives : eqb second.issuer 1 ≡ false → eqb second.issuer 2 ≡ true
          → Given-by (closed rules state.atc pending false values last history scripts
          (record { unperformed = (issuer_before pending.history).unperformed; failed = true; unable = false }))
      failed_gives v f =
          closed_gives false values last history scripts (record { unperformed = (issuer_before pending.history).unperformed; failed = true; unable = false })
          (rw (u, v, f))
          (rw (u, v, f) (ap (λ (h : History). record { unperformed = h.unable || h.missing; failed = true; unable = false }) kept.history-is))

      absent_gives : eqb second.issuer 1 ≡ false → eqb second.issuer 2 ≡ false
          → Given-by (closed rules state.atc pending (eqb second.requested 1 && not rules.required) values last history scripts
          (record { unperformed = true; failed = pending.history.failed; unable = false }))
      absent_gives v f =
          closed_gives (eqb second.requested 1 && not rules.required) values last history scripts
          (record { unperformed = true; failed = pending.history.failed; unable = false })
          (rw (u, v, f) (ap (λ b. eqb second.requested 1 && b) (ap not (required-is now) ∙ not_required (byte_at now 2) (fits good).required)))
          (rw (u, v, f) (ap (λ (h : History). record { unperformed = true; failed = h.failed; unable = false }) kept.history-is))

    second_gives : Given-by (second_performed rules state second pending)
    unfolding second_performed unable_performed verified_performed failed_performed absent_performed
    second_gives = by (is_unable second.code) refl (eqb second.issuer 1) refl (eqb second.issuer 2) refl where
      by : (u : Bool) → is_unable second.code ≡ u → (v : Bool) → eqb second.issuer 1 ≡ v → (f : Bool) → eqb second.issuer 2 ≡ f
          → Given-by (cond u (unable_performed rules state second.requested pending)
          (cond v (verified_performed rules state second pending)
          (cond f (failed_performed rules state pending) (absent_performed rules state second.requested pending))))
      by true u v p f q = unable_gives u _ _ _ _
      by false u true p f q = verified_gives u _ _ _ _ p
      by false u false p true q = failed_gives u _ _ _ _ p q
      by false u false p false q = absent_gives u _ _ _ _ p q

  -- ---- every step

  -- what a Start's answer says
  abbrev said_atc : Answer → ℕ
  said_atc (Refused refusal) = 0
  said_atc (Started atc visits) = atc
  said_atc (Given kind atc iad) = 0
  said_atc Done = 0

  abbrev said_visits : Answer → ℕ
  said_visits (Refused refusal) = 0
  said_visits (Started atc visits) = visits
  said_visits (Given kind atc iad) = 0
  said_visits Done = 0

  selected : (chosen : Option Selected) → 1 ≤ profile_of chosen → chosen ≡ Some (record { profile = profile_of chosen; visits = visits_of chosen })
  selected (Some chosen) some = refl
  selected None some = absurd (omega arith)

  refused-kept : (command : Message) (r : Refusal) → Keeping setup (after sitting command (refused state r))
  unfolding before_first named dealing in_force
  refused-kept (StartCommand start) r = knows.keeps
  refused-kept (FirstCommand first) r = knows.keeps
  refused-kept (SecondCommand second) r = knows.keeps
  refused-kept (ScriptCommand result template) r = knows.keeps

  refused_gives : (command : Message) (r : Refusal) → Gives setup log command (refused state r)
  refused_gives (StartCommand start) r = λ atc visits e. let z : ◌≡◌ {A = ℕ} 0 1 = cc in absurd (omega arith)
  refused_gives (FirstCommand first) r = λ kind atc iad e. let z : ◌≡◌ {A = ℕ} 0 1 = cc in absurd (omega arith)
  refused_gives (SecondCommand second) r = λ kind atc iad e. let z : ◌≡◌ {A = ℕ} 0 1 = cc in absurd (omega arith)
  refused_gives (ScriptCommand result template) r = tt

  stood : (place : Place) → state.phase ≡ Opened place → Stands now place at
  stood place is = subst (Agrees now (named log)) is knows.holding.agrees

  did_kept : {command : Message} {outcome : Outcome} → Did rules state command outcome → Keeping setup (after sitting command outcome)
  unfolding first_performed first_answered before_first named dealing in_force script_performed
  did_kept {command} (refused_it r wrote) = refused-kept command r
  did_kept (started_it start place holds) = tt
  did_kept (took_first first place is type small day) =
      concluded_knows first place (stood place is) type small day
      (first_kind rules (dated rules state first.when) place first (timing_of state.last first.when))
  did_kept (took_second second pending is type issuer) =
      subst (PendsIn setup _ _ _) (sym (second-closes rules state second pending).idle) tt
  did_kept (took_script result template sound wrote) =
      let wrote = (trial_of result template (remembered setup log)).writes in
      subst (λ here. PendsIn setup (before_first log) here (bought setup log) state.phase) (sym (place-written now wrote (named log))) knows.keeps

  did_gives : {command : Message} {outcome : Outcome} → Did rules state command outcome → Holding setup (after sitting command outcome)
      → Gives setup log command outcome
  unfolding first_performed first_answered
  did_gives {command} (refused_it r wrote) held = refused_gives command r
  did_gives (started_it start place holds) held = λ atc visits e.
      record {
        counts = sym (ap said_atc e) ∙ ap (λ n. n + 1) knows.recalls.atc-is;
        chose = selected start.chosen holds.some ∙ ap ((λ visits. Some (record { profile = profile_of start.chosen; visits = visits }))) (ap said_visits e);
        known = in_bytes now good _ (in_rules rules _ place holds);
      }
  did_gives (took_first first place is type small day) held = first_gives first place (stood place is) type small day held
  did_gives (took_second second pending is type issuer) held = second_gives second pending is type held
  did_gives (took_script result template sound wrote) held = tt

module _ (setup : Setup) where
  told_knows : (sitting : Sitting) → Ruled setup sitting → Knows setup sitting → (command : Message) → IsSpoken command → Knows setup (told sitting command)
  told_knows sitting ruled knows command spoken =
      let step = did_by setup sitting ruled command in
      record {
        deals = did_deals setup sitting ruled knows.deals step;
        holding = did_holds setup sitting ruled knows.deals knows.holding spoken step;
        recalls = (did_keeps setup sitting knows.recalls step).recalls;
        keeps = did_kept setup sitting ruled knows step;
      }

  begin_knows : AcceptedSetup setup → Knows setup (sat setup [])
  unfolding run fresh_state
  begin_knows good = record { deals = begin_deals setup good; holding = begin_holds setup good; recalls = begin_recalls setup good; keeps = tt }

  -- of a script nothing is said
  unless-script : (before : List Exchange) (command : Message) (outcome : Outcome) → (IsSpoken command → Gives setup before command outcome)
      → Gives setup before command outcome
  unless-script before (StartCommand start) outcome gives = gives tt
  unless-script before (FirstCommand first) outcome gives = gives tt
  unless-script before (SecondCommand second) outcome gives = gives tt
  unless-script before (ScriptCommand result template) outcome gives = tt

  -- WHAT FIRST AND SECOND ANSWER
  pub gives : AcceptedSetup setup → (commands : List Message) → Spoken commands → (command : Message)
      → Gives setup (sat setup commands).log command (next setup commands command)
  gives good commands spoken command =
      let sitting = sat setup commands in
      let ruled = always_ruled setup good commands spoken in
      let knows = ruled_keeps setup good (Knows setup) told_knows (begin_knows good) commands spoken in
      let step = did_by setup sitting ruled command in
      unless-script sitting.log command (next setup commands command)
      (λ bytes. did_gives setup sitting ruled knows step (did_holds setup sitting ruled knows.deals knows.holding bytes step))
