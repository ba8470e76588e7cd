-- WHAT A PAPER ADDS is what its lines show and what its auditor approves; and all of it has a cell. Assumes nothing.
use mathlib.Core.Path.{◌≡◌, refl, sym, ap, ap₂, subst, ◌∙◌}
use mathlib.Core.Bool.{Bool, true, false, cond, ◌&&◌}
use mathlib.Core.List.{List, [], ◌∷◌, ◌++◌, append_assoc}
use Prim.Native.Nat.{ℕ, ◌≤◌}
use native.Mathlib.Omega.{arith}
use lib.ListN.{replicate}
use Rattle.refusal.specs.declared.Refusal.{Refusal}
use Rattle.refusal.specs.declared.Refusal.TheVariants.{BadSetup, OutOfTurn, UnknownProfile, AtcUsedUp, BadType, OutOfRange, RoomTooSmall, NotAnIad}
use Rattle.refusal.specs.declared.Refusal.TheVariants.{Unreadable, BadRate, BadMta, NotSelected, NotADay, PastData, TooManyCurrencies, TooManyPapers}
use Rattle.refusal.specs.declared.Refusal.TheVariants.{NoRoomForAnswers, Malformed, TooDeep}
use Rattle.refusal.specs.Refusal.{refusal_number}
use Rattle.iad.specs.declared.Iad.{Iad}
use Rattle.rules.specs.Rules.{blank_words}
use Rattle.purchase.specs.declared.Purchase.{Purchase}
use Rattle.readback.specs.WellFormed.{Profile}
use Rattle.state.specs.declared.Answer.{Answer}
use Rattle.state.specs.declared.Answer.TheVariants.{Refused, Started, Given, Done}
use Rattle.state.specs.declared.Kind.{Kind}
use Rattle.state.specs.declared.Kind.TheVariants.{Aac, Tc, Arqc}
use Rattle.state.specs.State.{cid_of}
use Rattle.card.specs.Card.{answer_number}
use Rattle.card.specs.Message.{Message, StartCommand, FirstCommand, SecondCommand, ScriptCommand}
use Rattle.records.specs.declared.Event.{Event}
use Rattle.records.specs.declared.Event.TheVariants.{Refused as EndRefused}
use Rattle.conversation.specs.Events.{events_of}
use Rattle.demands.specs.Setup.{Setup}
use Rattle.demands.specs.Conversation.{Exchange}
use Rattle.demands.specs.Audit.{is_tc, approves, bought_by, dealing, bought, last_date}
use Rattle.demands.specs.Due.{InKind}
use Rattle.spelling.specs.Spelling.{Bytes}
use Rattle.spelling.specs.Sitting.{said_of}
use Rattle.papers.specs.Papers.{setup_of, Accepted, commands_of, faulty}
use Rattle.papers.specs.Talk.{all_answered, talk, ending, Heard, unread, not_set_up, past_data, heard}
use Rattle.papers.proofs.Events.{every_paper}
use Rattle.tallies.specs.declared.Sale.{Sale}
use Rattle.tallies.specs.Tallies.{Tally, answered, refused, approved, answer_tallies}
use Rattle.sales.specs.Sales.{is_offline, sale_by, no_sale, tallies_from}
use Rattle.class_sheet.specs.ClassSheet.{paper_tallies}
use Rattle.class_papers.specs.Adds as A
use Rattle.class_papers.specs.Adds.{profile_shown, kind_shown, line_counts, approval, added_by, fault_counts, Adds, InPlace, AllInPlace, none, next}
use Rattle.class_papers.proofs.Fine.{Fine, AllFine, none_said, one-said, paper-fine}

-- ---- what the transaction's First asked is the auditor's purchase

abbrev sale_of : Purchase → Sale
sale_of purchase = record { amount = purchase.amount.0; currency = purchase.currency }

sale_by_lem : (setup : Setup) (older : List Exchange) (command : Message) (answer : Answer) → (answer_number answer ≡ 0 → InKind command answer)
    → sale_by (said_of command) answer (sale_of (bought setup older)) ≡ sale_of (bought_by command answer (last_date setup older) (bought setup older))
unfolding sale_by
sale_by_lem setup older (StartCommand start) answer taken = refl
sale_by_lem setup older (FirstCommand first) (Refused refusal) taken = refl
sale_by_lem setup older (FirstCommand first) (Started atc visits) taken = absurd (taken refl)
sale_by_lem setup older (FirstCommand first) (Given kind atc iad) taken = refl
sale_by_lem setup older (FirstCommand first) Done taken = absurd (taken refl)
sale_by_lem setup older (SecondCommand second) answer taken = refl
sale_by_lem setup older (ScriptCommand result template) answer taken = refl

sale_is : (setup : Setup) (older : List Exchange) (exchange : Exchange) → Fine exchange
    → sale_by (said_of exchange.command) exchange.answer (sale_of (bought setup older)) ≡ sale_of (bought setup (exchange ∷ older))
unfolding dealing
sale_is setup older exchange fine = sale_by_lem setup older exchange.command exchange.answer fine.taken

-- ---- what an answer adds

abbrev Shows : Answer → Type 0
Shows answer = (kind : Kind) (atc : ℕ) (iad : Iad) → answer ≡ Given kind atc iad → profile_shown iad ≡ iad.profile

answer-adds : (offline : Bool) (sale : Sale) (answer : Answer) → Shows answer
    → answer_tallies offline sale answer
    ≡ line_counts answer ++ cond (offline && is_tc answer) (approved sale.currency sale.amount ∷ []) []
unfolding answer_tallies
answer-adds true sale (Refused refusal) shows = refl
answer-adds true sale (Started atc visits) shows = refl
answer-adds true sale (Given Tc atc iad) shows =
    ap (λ (p : ℕ). answered p 0 ∷ approved sale.currency sale.amount ∷ []) (sym (shows Tc atc iad refl))
answer-adds true sale (Given Aac atc iad) shows = ap (λ (p : ℕ). answered p 1 ∷ []) (sym (shows Aac atc iad refl))
answer-adds true sale (Given Arqc atc iad) shows = ap (λ (p : ℕ). answered p 2 ∷ []) (sym (shows Arqc atc iad refl))
answer-adds true sale Done shows = refl
answer-adds false sale (Refused refusal) shows = refl
answer-adds false sale (Started atc visits) shows = refl
answer-adds false sale (Given Tc atc iad) shows = ap (λ (p : ℕ). answered p 0 ∷ []) (sym (shows Tc atc iad refl))
answer-adds false sale (Given Aac atc iad) shows = ap (λ (p : ℕ). answered p 1 ∷ []) (sym (shows Aac atc iad refl))
answer-adds false sale (Given Arqc atc iad) shows = ap (λ (p : ℕ). answered p 2 ∷ []) (sym (shows Arqc atc iad refl))
answer-adds false sale Done shows = refl

-- a TC decided offline is what the auditor calls an offline approval
approves-is : (command : Message) (answer : Answer) → (is_offline (said_of command) && is_tc answer) ≡ approves command answer
approves-is (StartCommand start) answer = refl
approves-is (FirstCommand first) answer = refl
approves-is (SecondCommand second) answer = refl
approves-is (ScriptCommand result template) answer = refl

module _ (setup : Setup) (older : List Exchange) (exchange : Exchange) (fine : Fine exchange) where
  abbrev sale : Sale
  sale = sale_of (bought setup (exchange ∷ older))

  exchange_adds : answer_tallies (is_offline (said_of exchange.command)) sale exchange.answer
      ≡ line_counts exchange.answer ++ approval setup older exchange
  exchange_adds =
      answer-adds (is_offline (said_of exchange.command)) sale exchange.answer (λ kind atc iad e. (fine.sent kind atc iad e).1.profile)
      ∙ ap (λ (b : Bool). line_counts exchange.answer ++ cond b (approved sale.currency sale.amount ∷ []) [])
      (approves-is exchange.command exchange.answer)

-- ---- what all that is said adds

said-adds : (setup : Setup) (fault : Bool) (older said : List Exchange) → AllFine said
    → tallies_from (sale_of (bought setup older)) (all_answered said ++ ending fault) ≡ added_by setup older said ++ fault_counts fault
unfolding tallies_from added_by
said-adds setup true older [] none_said = refl
said-adds setup false older [] none_said = refl
said-adds setup fault older (exchange ∷ said) (one-said fine rest) =
    let offline = is_offline (said_of exchange.command) in
    ap (λ (s : Sale). answer_tallies offline s exchange.answer ++ tallies_from s (all_answered said ++ ending fault)) (sale_is setup older exchange fine)
    ∙ ap₂ ◌++◌ (exchange_adds setup older exchange fine) (said-adds setup fault (exchange ∷ older) said rest)
    ∙ sym (append_assoc (line_counts exchange.answer ++ approval setup older exchange) (added_by setup (exchange ∷ older) said) (fault_counts fault))

one-adds : (paper : List ℕ) (refusal : Refusal) → events_of blank_words paper ≡ EndRefused refusal ∷ []
    → paper_tallies paper ≡ refused (refusal_number refusal) ∷ []
unfolding paper_tallies tallies_from
one-adds paper refusal e = ap (tallies_from no_sale) e

heard-adds : (paper : List ℕ) → Bytes paper → Heard blank_words paper → Adds paper
unfolding paper_tallies tallies_from dealing
heard-adds paper bytes (unread f e) = A.unread f (one-adds paper Unreadable e)
heard-adds paper bytes (not_set_up version body rest o n refusal one e) =
    A.not_set_up version body rest o n (one-adds paper refusal e ∙ ap (λ (k : ℕ). refused k ∷ []) one)
heard-adds paper bytes (past_data version body rest o p e) = A.past_data version body rest o p (one-adds paper PastData e)
heard-adds paper bytes (heard a e) =
    let setup = setup_of paper in
    A.heard a (ap (tallies_from no_sale) e ∙ said-adds setup (faulty paper) [] (talk setup (commands_of paper)) (paper-fine paper bytes a))

-- EVERY PAPER
pub paper-adds : (paper : List ℕ) → Bytes paper → Adds paper
paper-adds paper bytes = heard-adds paper bytes (every_paper blank_words paper refl bytes)

-- ---- all of it has a cell

refusal_in_place : (refusal : Refusal) → (1 ≤ refusal_number refusal) × (refusal_number refusal ≤ 19)
refusal_in_place BadSetup = (omega arith, omega arith)
refusal_in_place OutOfTurn = (omega arith, omega arith)
refusal_in_place UnknownProfile = (omega arith, omega arith)
refusal_in_place AtcUsedUp = (omega arith, omega arith)
refusal_in_place BadType = (omega arith, omega arith)
refusal_in_place OutOfRange = (omega arith, omega arith)
refusal_in_place RoomTooSmall = (omega arith, omega arith)
refusal_in_place NotAnIad = (omega arith, omega arith)
refusal_in_place Unreadable = (omega arith, omega arith)
refusal_in_place BadRate = (omega arith, omega arith)
refusal_in_place BadMta = (omega arith, omega arith)
refusal_in_place NotSelected = (omega arith, omega arith)
refusal_in_place NotADay = (omega arith, omega arith)
refusal_in_place PastData = (omega arith, omega arith)
refusal_in_place TooManyCurrencies = (omega arith, omega arith)
refusal_in_place TooManyPapers = (omega arith, omega arith)
refusal_in_place NoRoomForAnswers = (omega arith, omega arith)
refusal_in_place Malformed = (omega arith, omega arith)
refusal_in_place TooDeep = (omega arith, omega arith)

kind_in_place : (kind : Kind) → kind_shown (cid_of kind) ≤ 2
kind_in_place Tc = omega arith
kind_in_place Aac = omega arith
kind_in_place Arqc = omega arith

place_both : {s t : List Tally} → AllInPlace s → AllInPlace t → AllInPlace (s ++ t)
place_both none q = q
place_both (next p ps) q = next p (place_both ps q)

line_in_place : (answer : Answer)
    → ((kind : Kind) (atc : ℕ) (iad : Iad) → answer ≡ Given kind atc iad → Profile (profile_shown iad)) → AllInPlace (line_counts answer)
line_in_place (Refused refusal) shown = next {tally = refused (refusal_number refusal)} (refusal_in_place refusal) none
line_in_place (Started atc visits) shown = none
line_in_place (Given kind atc iad) shown =
    let profile = shown kind atc iad refl in
    next {tally = answered (profile_shown iad) (kind_shown (cid_of kind))} (profile.least, profile.most, kind_in_place kind) none
line_in_place Done shown = none

approval_in_place : (approves : Bool) (currency amount : ℕ) → AllInPlace (cond approves (approved currency amount ∷ []) [])
approval_in_place true currency amount = next {tally = approved currency amount} tt none
approval_in_place false currency amount = none

profile_in_place : (exchange : Exchange) → Fine exchange → (kind : Kind) (atc : ℕ) (iad : Iad) → exchange.answer ≡ Given kind atc iad
    → Profile (profile_shown iad)
profile_in_place exchange fine kind atc iad e =
    let (can, lies) = fine.sent kind atc iad e in
    subst Profile (sym lies.profile) can.profile

said_in_place : (setup : Setup) (older said : List Exchange) → AllFine said → AllInPlace (added_by setup older said)
unfolding added_by
said_in_place setup older [] none_said = none
said_in_place setup older (exchange ∷ said) (one-said fine rest) =
    let purchase = bought setup (exchange ∷ older) in
    place_both
    (place_both (line_in_place exchange.answer (profile_in_place exchange fine))
    (approval_in_place (approves exchange.command exchange.answer) purchase.currency purchase.amount.0))
    (said_in_place setup (exchange ∷ older) said rest)

fault_in_place : (fault : Bool) → AllInPlace (fault_counts fault)
fault_in_place true = next {tally = refused 9} (omega arith, omega arith) none
fault_in_place false = none

-- IN RANGE: no answer of a paper has a profile outside 1 to 124, and no refusal a number outside 1 to 19
pub in_range_lem : (paper : List ℕ) → Bytes paper → AllInPlace (paper_tallies paper)
in_range_lem paper bytes = by (paper-adds paper bytes) where
  one : (number : ℕ) → 1 ≤ number → number ≤ 19 → paper_tallies paper ≡ refused number ∷ [] → AllInPlace (paper_tallies paper)
  one number least most e = subst AllInPlace (sym e) (next {tally = refused number} (least, most) none)

  by : Adds paper → AllInPlace (paper_tallies paper)
  by (A.unread f e) = one 9 (omega arith) (omega arith) e
  by (A.not_set_up version body rest o n e) = one 1 (omega arith) (omega arith) e
  by (A.past_data version body rest o p e) = one 14 (omega arith) (omega arith) e
  by (A.heard a e) =
      let setup = setup_of paper in
      subst AllInPlace (sym e)
      (place_both (said_in_place setup [] (talk setup (commands_of paper)) (paper-fine paper bytes a)) (fault_in_place (faulty paper)))
