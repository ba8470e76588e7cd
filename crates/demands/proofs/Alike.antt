-- A CPACE card that closes no slot and checks no cashback answers as the CPA card does, byte for byte. Assumes nothing.
use mathlib.Core.Path.{◌≡◌, refl, sym, ap, ap₂, ◌∙◌, subst}
use mathlib.Core.Bool.{Bool, true, false, cond, not, ◌&&◌, ◌||◌}
use mathlib.Core.List.{List, [], ◌∷◌, ◌++◌}
use Prim.Native.Nat.{ℕ, suc, ◌+◌, ◌/◌, ◌%◌}
use borrow.Author.Tests.{le-ltb, ltb-true, ltb-false}
use lib.Dec.{ltb, eqb, leb}
use Rattle.wire.specs.Wire.{byte}
use Rattle.cpace.specs.declared.Cvm.{Cvm}
use Rattle.cpace.specs.declared.Cvm.TheVariants.{OnlinePin, Signature, NoCvm}
use Rattle.cpace.specs.Cpace.{closes}
use Rattle.refusal.specs.declared.Refusal.{Refusal}
use Rattle.refusal.specs.declared.Refusal.TheVariants.{OutOfTurn, BadType, OutOfRange}
use Rattle.selection.specs.Selection.{visits_of}
use Rattle.iad.specs.declared.Cvr.{Cvr}
use Rattle.rules.specs.declared.Place.{Place}
use Rattle.rules.specs.declared.Values.{Values}
use Rattle.rules.specs.Rules.{Rules, two, four, index_of, profile_at, control_at, checks_cashback}
use Rattle.rules.proofs.Places.{four-at, eight-at, eight-past}
use Rattle.setup.specs.Setup.{rules_in, fresh_in, read_setup}
use Rattle.command.specs.declared.First.{First}
use Rattle.command.specs.declared.Second.{Second}
use Rattle.element.specs.declared.Write.{Write}
use Rattle.script.specs.Script.{heard, rules_after}
use Rattle.script.proofs.Stays.{rules_stay}
use Rattle.rules.proofs.Limits.{Stays}
use Rattle.card.specs.Message.{Message, message_step, message_writes}
use Rattle.purchase.specs.declared.Timing.{Timing}
use Rattle.purchase.specs.declared.Purchase.{Purchase}
use Rattle.purchase.specs.Meter.{Meter, accumulator, counter, cyclic, amount_at, count_at, cyclic_at, counter_cap, worth, cyclic_worth, is_date_error, is_open}
use Rattle.meters.specs.declared.Change.TheVariants.{Approve, SetToLimits, Clear}
use Rattle.meters.specs.Meters.{moved, offline, entered, amount_moved, applied}
use Rattle.limits.specs.Limits.{exceeds_lower, exceeds_upper, accumulators_lower, accumulators_upper, counters_lower, counters_upper, dating_flags}
use Rattle.checks.specs.Checks.{maximum_exceeded, cashback_found}
use Rattle.limits.specs.Limits.{packed}
use Rattle.checks.specs.Checks.{history_flags, decision_bits, meets_mask}
use Rattle.state.specs.declared.History.{History}
use Rattle.state.specs.declared.Answer.TheVariants.{Given}
use Rattle.state.specs.declared.Kind.{Kind}
use Rattle.state.specs.declared.Kind.TheVariants.{Aac, Tc, Arqc}
use Rattle.state.specs.declared.Pending.{Pending}
use Rattle.state.specs.declared.Phase.{Phase}
use Rattle.state.specs.declared.Phase.TheVariants.{Idle, Opened, Asked}
use Rattle.state.specs.declared.State.{State}
use Rattle.state.specs.declared.Outcome.{Outcome}
use Rattle.state.specs.State.{unable_in}
use Rattle.cryptogram.specs.declared.Later.TheVariants.{NotRequested}
use Rattle.cryptogram.specs.Cryptogram.{limits_byte, verification, issuer_before, sent_iad}
use Rattle.cycles.specs.Cycles.{timing_of, dated}
use Rattle.first.specs.First.{decision, settled, concluded, purchase_of, first_bits, first_answered, first_performed}
use Rattle.first.specs.First as issuing
use Rattle.closing.specs.Closing.{closed, recovered, ordered}
use Rattle.second.specs.Second.{is_unable, unable_bits, issuer_unable, unable_performed, update_byte}
use Rattle.second.specs.Second.{verified_performed, failed_performed, absent_performed, second_performed}
use Rattle.state.specs.Ruling.{Ruling, refuse, take, refused, carried}
use Rattle.fresh.specs.Fresh.{fresh_state}
use Rattle.card.specs.Card.{rule_chosen, rule_first_fields, start_performed, start_step, first_step, second_step}
use Rattle.scripting.specs.Scripting.{rule_script_fields, script_performed, script_step, script_writes}
use Rattle.demands.specs.Setup.{Setup, AcceptedSetup}
use Rattle.demands.specs.Conversation.{Exchange, Sitting, run, rules_written, rules_by, sat}
use Rattle.demands.specs.Alike.{AlikeSetups, first_with, purchase_with, pending_with, AlikeCommands, starts, firsts, seconds, scripts, AllAlike}
use Rattle.demands.specs.Alike.{nothing, more}
use Rattle.demands.specs.Alike.{AlikePhases, idle, opened, asked, AlikeStates, answers_of, AlikeSittings}
use Rattle.demands.proofs.Found.{below-four}
use Rattle.demands.proofs.Written.{stays}
use Rattle.demands.proofs.Bytes.{all_fit_lem}

record AlikeOutcomes (a b : Outcome) : Type 0 where
  answer : a.answer ≡ b.answer
  state : AlikeStates a.state b.state

abbrev in_phase : State → Phase → State
in_phase state phase =
    record { values = state.values; phase = phase; atc = state.atc; last = state.last; history = state.history; scripts = state.scripts }

-- all is alike itself
itself_phase : (phase : Phase) → AlikePhases phase phase
itself_phase Idle = idle
itself_phase (Opened place) = opened place
itself_phase (Asked pending) = asked pending pending.purchase.cvm pending.purchase.cashback

itself_state : (state : State) → AlikeStates state state
itself_state state = record { values = refl; phase = itself_phase state.phase; atc = refl; last = refl; history = refl; scripts = refl }

itself : (outcome : Outcome) → AlikeOutcomes outcome outcome
itself outcome = record { answer = refl; state = itself_state outcome.state }

in_phases : (state : State) {p q : Phase} → AlikePhases p q → AlikeStates (in_phase state p) (in_phase state q)
in_phases state phases = record { values = refl; phase = phases; atc = refl; last = refl; history = refl; scripts = refl }

-- rules that close no slot and check no cashback
record Plain (rules : Rules) : Type 0 where
  open_all : (slot : ℕ) → control_at rules slot ≡ 0
  unchecked : (place : Place) → checks_cashback rules place ≡ false

module _ (rules : Rules) (plain : Plain rules) where
  -- ---- by them a purchase's CVM and cashback do not matter

  module _ (cvm : Cvm) (cashback : Bool) (purchase : Purchase) where
    abbrev other : Purchase
    other = purchase_with cvm cashback purchase

    open_to : (slot : ℕ) (method : Cvm) → not (closes (control_at rules slot) method) ≡ true
    open_to slot method = ap (λ control. not (closes control method)) (plain.open_all slot) ∙ by method where
      by : (method : Cvm) → not (closes 0 method) ≡ true
      by OnlinePin = refl
      by Signature = refl
      by NoCvm = refl

    slot_same : (slot : ℕ) → is_open rules other slot ≡ is_open rules purchase slot
    unfolding is_open
    slot_same slot = open_to slot cvm ∙ sym (open_to slot purchase.cvm)

    module _ (place : Place) (values : Values) where
      entered-same : (meter : Meter) → entered rules place (Approve other) meter ≡ entered rules place (Approve purchase) meter
      unfolding worth cyclic_worth
      entered-same (accumulator i) = simp (slot_same i)
      entered-same (counter i) = simp (slot_same (4 + i))
      entered-same (cyclic i) = refl

      approved-same : applied rules place values (Approve other) ≡ applied rules place values (Approve purchase)
      unfolding applied
      approved-same =
          λ k. record {
            accumulators = four (λ i. amount_moved (amount_at values i) (entered-same (accumulator i) k));
            counters = four (λ i. moved counter_cap (count_at values i) (entered-same (counter i) k));
            cyclic = two (λ i. amount_moved (cyclic_at values i) (entered-same (cyclic i) k));
          }

      offline-same : (approves : Bool) → applied rules place values (offline approves other) ≡ applied rules place values (offline approves purchase)
      offline-same true = approved-same
      offline-same false = refl

      ordered_same : (update : ℕ) → ordered rules place values other update ≡ ordered rules place values purchase update
      unfolding ordered
      ordered_same update = by (eqb (update % 4) 0) (eqb (update % 4) 1) (eqb (update % 4) 2) where
        by : (a b c : Bool) → cond a values (applied rules place values (cond b SetToLimits (cond c Clear (Approve other))))
            ≡ cond a values (applied rules place values (cond b SetToLimits (cond c Clear (Approve purchase))))
        by true b c = refl
        by false true c = refl
        by false false true = refl
        by false false false = approved-same

      lower-same : (meter : Meter) → exceeds_lower rules place values other meter ≡ exceeds_lower rules place values purchase meter
      unfolding worth cyclic_worth
      lower-same (accumulator i) = simp (slot_same i)
      lower-same (counter i) = simp (slot_same (4 + i))
      lower-same (cyclic i) = refl

      upper-same : (meter : Meter) → exceeds_upper rules place values other meter ≡ exceeds_upper rules place values purchase meter
      unfolding worth cyclic_worth
      upper-same (accumulator i) = simp (slot_same i)
      upper-same (counter i) = simp (slot_same (4 + i))
      upper-same (cyclic i) = refl

      bits-same : (history : History) → decision_bits rules place values other history ≡ decision_bits rules place values purchase history
      unfolding decision_bits accumulators_lower accumulators_upper counters_lower counters_upper dating_flags maximum_exceeded
      bits-same history =
          let found : cashback_found rules place other ≡ cashback_found rules place purchase = simp (plain.unchecked place) in
          λ k. packed
          (history_flags history ++ maximum_exceeded rules place purchase ∷ four (λ i. lower-same (accumulator i) k)
          ++ four (λ i. upper-same (accumulator i) k) ++ four (λ i. lower-same (counter i) k) ++ four (λ i. upper-same (counter i) k)
          ++ (upper-same (cyclic 0) k ∷ upper-same (cyclic 1) k ∷ is_date_error purchase.timing ∷ []) ++ found k ∷ [])

  -- ---- First

  module _ (cvm : Cvm) (cashback : Bool) where
    concluded_alike : (state : State) (place : Place) (purchase : Purchase) (limits : ℕ) (cvr : Cvr) (kind : Kind)
        → AlikeOutcomes (concluded rules state place purchase limits cvr kind) (concluded rules state place (other cvm cashback purchase) limits cvr kind)
    unfolding concluded settled issuing.asked
    concluded_alike state place purchase limits cvr Arqc =
        record {
          answer = refl;
          state =
              record {
                values = refl;
                phase =
                    asked (record { purchase = purchase; limits = limits; place = place; history = state.history; scripts = state.scripts }) cvm cashback;
                atc = refl;
                last = refl;
                history = refl;
                scripts = refl;
              };
        }
    concluded_alike state place purchase limits cvr Aac = itself (concluded rules state place purchase limits cvr Aac)
    concluded_alike state place purchase limits cvr Tc =
        let same = sym (approved-same cvm cashback purchase place state.values) in
        record {
          answer = ap (λ values. Given Tc state.atc (sent_iad rules place values cvr)) same;
          state = record { values = same; phase = idle; atc = refl; last = refl; history = refl; scripts = refl };
        }

    answered_alike : (state : State) (first : First) (place : Place) (timing : Timing)
        → AlikeOutcomes (first_answered rules state first place timing) (first_answered rules state (first_with cvm cashback first) place timing)
    unfolding first_answered
    answered_alike state first place timing =
        let kind : ℕ → Kind = λ bits. decision first.requested bits (profile_at rules place).masks first.terminal in
        let cvr : ℕ → Cvr =
        λ bits. verification rules state.history (limits_byte bits) state.scripts (kind bits) NotRequested (issuer_before state.history) in
        let bits = first_bits rules state place first timing in
        subst
        (λ b. AlikeOutcomes (first_answered rules state first place timing)
        (concluded rules state place (other cvm cashback (purchase_of first timing)) (limits_byte b) (cvr b) (kind b)))
        (sym (bits-same cvm cashback (purchase_of first timing) place state.values state.history))
        (concluded_alike state place (purchase_of first timing) (limits_byte bits) (cvr bits) (kind bits))

    first_alike : (state : State) (first : First) (place : Place)
        → AlikeOutcomes (first_performed rules state first place) (first_performed rules state (first_with cvm cashback first) place)
    unfolding first_performed
    first_alike state first place = answered_alike (dated rules state first.when) first place (timing_of state.last first.when)

    -- ---- Second

    module _ (state : State) (second : Second) (pending : Pending) where
      abbrev asks : Pending
      asks = pending_with cvm cashback pending

      unable-same : unable_performed rules state second.requested asks ≡ unable_performed rules state second.requested pending
      unfolding unable_performed closed
      unable-same =
          let place = pending.place in
          let approves : ℕ → Bool = λ bits. not (eqb second.requested 0 || meets_mask bits (profile_at rules place).masks.default) in
          let ends : Bool → Values → Outcome =
          λ b values. closed rules state.atc pending b values state.last (unable_in state.history) state.scripts (issuer_unable pending.history) in
          let moves : Bool → Values = λ b. applied rules place state.values (offline b (other cvm cashback pending.purchase)) in
          ap (λ bits. ends (approves bits) (moves (approves bits))) (bits-same cvm cashback pending.purchase place state.values (unable_in pending.history))
          ∙ ap (ends (approves (unable_bits rules state pending)))
          (offline-same cvm cashback pending.purchase place state.values (approves (unable_bits rules state pending)))

      verified_same : verified_performed rules state second asks ≡ verified_performed rules state second pending
      unfolding verified_performed closed
      verified_same =
          let update = update_byte second.csu in
          let approves = eqb second.requested 1 && leb 128 update in
          ap (λ values. closed rules state.atc pending approves values (recovered pending.purchase.timing approves state.last)
          (record { uncompleted = false; online = eqb (update / 8 % 2) 1; failed = false; unable = false; missing = false })
          (heard state.scripts) (record { unperformed = false; failed = false; unable = false }))
          (ordered_same cvm cashback pending.purchase pending.place state.values update)

      second-same : second_performed rules state second asks ≡ second_performed rules state second pending
      unfolding second_performed failed_performed absent_performed closed
      second-same =
          λ k. cond (is_unable second.code) (unable-same k)
          (cond (eqb second.issuer 1) (verified_same k)
          (cond (eqb second.issuer 2) (failed_performed rules state pending) (absent_performed rules state second.requested pending)))

  -- ---- one command

  module _ (state : State) where
    -- a ruling refuses both or takes both
    carried_alike : {A : Type 0} {p q : Phase} → AlikePhases p q → (f g : A → Outcome) → ((what : A) → AlikeOutcomes (f what) (g what))
        → (ruling : Ruling A) → AlikeOutcomes (carried (in_phase state p) f ruling) (carried (in_phase state q) g ruling)
    carried_alike phases f g alike (refuse refusal) = record { answer = refl; state = in_phases state phases }
    carried_alike phases f g alike (take what) = alike what

    start_alike : {p q : Phase} → AlikePhases p q → (visits : ℕ) (place : Place)
        → AlikeOutcomes (start_performed (in_phase state p) visits place) (start_performed (in_phase state q) visits place)
    start_alike phases visits place =
        record { answer = refl; state = record { values = refl; phase = opened place; atc = refl; last = refl; history = refl; scripts = refl } }

    refused_alike : {p q : Phase} → AlikePhases p q → (refusal : Refusal) → AlikeOutcomes (refused (in_phase state p) refusal) (refused (in_phase state q) refusal)
    refused_alike phases refusal = record { answer = refl; state = in_phases state phases }

    first_step_lem : {p q : Phase} → AlikePhases p q → (first : First) (cvm : Cvm) (cashback : Bool)
        → AlikeOutcomes (first_step rules (in_phase state p) first) (first_step rules (in_phase state q) (first_with cvm cashback first))
    unfolding first_step
    first_step_lem idle first cvm cashback = refused_alike idle OutOfTurn
    first_step_lem (opened place) first cvm cashback =
        carried_alike (opened place) _ _ (first_alike cvm cashback (in_phase state (Opened place)) first) (rule_first_fields first place)
    first_step_lem (asked pending c b) first cvm cashback = refused_alike (asked pending c b) OutOfTurn

    -- Second asks for no phase
    unread : (p q : Phase) (second : Second) (pending : Pending)
        → second_performed rules (in_phase state p) second pending ≡ second_performed rules (in_phase state q) second pending
    unfolding second_performed unable_performed verified_performed failed_performed absent_performed
    unread p q second pending = refl

    -- by its two tests
    abbrev second-by : Second → Pending → (a b : Bool) → Outcome
    second-by second pending a b =
        carried (in_phase state (Asked pending)) (second_performed rules (in_phase state (Asked pending)) second)
        (cond a (refuse BadType) (cond b (refuse OutOfRange) (take pending)))

    second-step : {p q : Phase} → AlikePhases p q → (second : Second)
        → AlikeOutcomes (second_step rules (in_phase state p) second) (second_step rules (in_phase state q) second)
    unfolding second_step
    second-step idle second = refused_alike idle OutOfTurn
    second-step (opened place) second = refused_alike (opened place) OutOfTurn
    second-step (asked pending cvm cashback) second = by (ltb 1 second.requested) (ltb 2 second.issuer) where
      by : (a b : Bool) → AlikeOutcomes (second-by second pending a b) (second-by second (pending_with cvm cashback pending) a b)
      by true b = refused_alike (asked pending cvm cashback) BadType
      by false true = refused_alike (asked pending cvm cashback) OutOfRange
      by false false =
          let asks = pending_with cvm cashback pending in
          let before = in_phase state (Asked asks) in
          subst (AlikeOutcomes (second_performed rules (in_phase state (Asked pending)) second pending))
          (unread (Asked pending) (Asked asks) second pending ∙ sym (second-same cvm cashback before second pending))
          (itself (second_performed rules (in_phase state (Asked pending)) second pending))

    script_alike : {p q : Phase} → AlikePhases p q → (template : List ℕ) (verified : Bool)
        → AlikeOutcomes (script_performed (in_phase state p) template verified) (script_performed (in_phase state q) template verified)
    unfolding script_performed
    script_alike phases template verified =
        record { answer = refl; state = record { values = refl; phase = phases; atc = refl; last = refl; history = refl; scripts = refl } }

    script-step : {p q : Phase} → AlikePhases p q → (result : ℕ) (template : List ℕ)
        → AlikeOutcomes (script_step (in_phase state p) result template) (script_step (in_phase state q) result template)
    unfolding script_step
    script-step idle result template = carried_alike idle _ _ (script_alike idle template) (rule_script_fields result template)
    script-step (opened place) result template = refused_alike (opened place) OutOfTurn
    script-step (asked pending cvm cashback) result template =
        let phases = asked pending cvm cashback in
        carried_alike phases _ _ (script_alike phases template) (rule_script_fields result template)

    step_alike : {p q : Phase} → AlikePhases p q → {a b : Message} → AlikeCommands a b
        → AlikeOutcomes (message_step rules (in_phase state p) a) (message_step rules (in_phase state q) b)
    unfolding message_step start_step
    step_alike phases (starts chosen i j near far) =
        rw (le-ltb 1 i near, le-ltb 1 j far)
        (carried_alike phases _ _ (start_alike phases (visits_of chosen)) (rule_chosen rules state.atc chosen))
    step_alike phases (firsts first cvm cashback) = first_step_lem phases first cvm cashback
    step_alike phases (seconds second) = second-step phases second
    step_alike phases (scripts result template) = script-step phases result template

    -- and both write the same
    write_alike : {p q : Phase} → AlikePhases p q → {a b : Message} → AlikeCommands a b → message_writes (in_phase state p) a ≡ message_writes (in_phase state q) b
    unfolding message_writes script_writes
    write_alike phases (starts chosen i j near far) = refl
    write_alike phases (firsts first cvm cashback) = refl
    write_alike phases (seconds second) = refl
    write_alike idle (scripts result template) = refl
    write_alike (opened place) (scripts result template) = refl
    write_alike (asked pending cvm cashback) (scripts result template) = refl

  -- ---- over two lists of commands

  record Told (s t : State) (a b : Message) : Type 0 where
    outcomes : AlikeOutcomes (message_step rules s a) (message_step rules t b)
    writes : message_writes s a ≡ message_writes t b

  told_alike : {s t : State} → AlikeStates s t → {a b : Message} → AlikeCommands a b → Told s t a b
  told_alike {s} {t} same {a} {b} commands =
      let is : in_phase s t.phase ≡ t =
      λ k. record {
        values = same.values k;
        phase = t.phase;
        atc = same.atc k;
        last = same.last k;
        history = same.history k;
        scripts = same.scripts k;
      } in
      subst (λ u. Told s u a b) is (record { outcomes = step_alike s same.phase commands; writes = write_alike s same.phase commands })

-- what is written leaves the rules plain
still_plain : (rules after : Rules) → Stays rules after → Plain rules → Plain after
still_plain rules after stay plain =
    record { open_all = λ slot. stay.control slot ∙ plain.open_all slot; unchecked = λ place. stay.cashback place ∙ plain.unchecked place }

run_alike : {ms ns : List Message} → AllAlike ms ns → (rules : Rules) → Plain rules → (s t : State) → AlikeStates s t → (p q : List Exchange)
    → answers_of p ≡ answers_of q
    → AlikeSittings (run (record { rules = rules; state = s; log = p }) ms) (run (record { rules = rules; state = t; log = q }) ns)
unfolding run
run_alike nothing rules plain s t states p q answers = record { answers = answers; states = states }
run_alike (more {a} {b} {ms} {ns} command commands) rules plain s t states p q answers =
    let both = told_alike rules plain states command in
    let step = both.outcomes in
    let ws = message_writes s a in
    let one : Exchange = record { command = a; answer = (message_step rules s a).answer } in
    let other : Exchange = record { command = b; answer = (message_step rules t b).answer } in
    let then : List Write → State → List Exchange → Sitting = λ vs state log. record { rules = rules_after rules vs; state = state; log = log } in
    subst (λ vs. AlikeSittings (run (then ws (message_step rules s a).state (one ∷ p)) ms) (run (then vs (message_step rules t b).state (other ∷ q)) ns))
    both.writes
    (run_alike commands (rules_after rules ws) (still_plain rules (rules_after rules ws) (rules_stay rules ws) plain) _ _ step.state _ _
    (ap₂ ◌∷◌ step.answer answers))

-- ---- the rules of the two set-ups

-- those of a CPA card are plain, and so are those of a CPACE card whose tail is zero
plain-rules : (s t : List ℕ) (syllabus : ℕ) → Plain (rules_in s t [] syllabus)
unfolding rules_in
plain-rules s t syllabus =
    record { open_all = λ slot. by slot (ltb slot 8) refl; unchecked = λ place. four-at (λ j. false) false (index_of place) (below-four place) }
  where
    by : (slot : ℕ) (b : Bool) → ltb slot 8 ≡ b → control_at (rules_in s t [] syllabus) slot ≡ 0
    by slot true e = eight-at (λ i. 0) 0 slot (ltb-true slot 8 e)
    by slot false e = eight-past (λ i. 0) 0 slot (ltb-false slot 8 e)

zeros-unread : (s t f : List ℕ) (syllabus : ℕ) → ((i : ℕ) → byte f (suc i) ≡ 0) → rules_in s t f syllabus ≡ rules_in s t [] syllabus
unfolding rules_in
zeros-unread s t f syllabus z = rw (z 0, z 1, z 2, z 3, z 4, z 5, z 6, z 7, z 8, z 9, z 10, z 11)

-- A CPACE CARD WHOSE CONTROLS ARE ALL 00 AND WHOSE CASHBACK SWITCHES ARE OFF ANSWERS AS THE CPA CARD DOES
pub alike : (cpa cpace : Setup) → AcceptedSetup cpa → AcceptedSetup cpace → AlikeSetups cpa cpace → (said told : List Message) → AllAlike said told
    → AlikeSittings (sat cpa said) (sat cpace told)
unfolding read_setup
alike cpa cpace good good' same said told all =
    let s = cpace.bytes in
    let t = cpace.tail in
    let base = rules_in s t [] cpace.syllabus in
    let ws = cpace.written in
    let rules = rules_written base ws in
    let fresh = fresh_state (fresh_in s t) in
    let begins : Rules → State → Sitting = λ r state. record { rules = r; state = state; log = [] } in
    let one : rules_by cpa ≡ rules =
    λ k. rules_written (rules_in (same.bytes k) (same.tail k) (same.none k) (same.syllabus k)) (same.written k) in
    let other : rules_by cpace ≡ rules = ap (λ r. rules_written r ws) (zeros-unread s t cpace.family cpace.syllabus same.zeros) in
    let starts : fresh_state (fresh_in cpa.bytes cpa.tail) ≡ fresh = λ k. fresh_state (fresh_in (same.bytes k) (same.tail k)) in
    rw (all_fit_lem good, all_fit_lem good', one, other, starts)
    (run_alike all rules (still_plain base rules (stays base ws) (plain-rules s t cpace.syllabus)) fresh fresh (itself_state fresh) [] [] refl)
