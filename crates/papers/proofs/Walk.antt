-- The conversation takes each record of a paper once, in order: what the walk over its bytes meets. Assumes nothing.
use mathlib.Core.Path.{◌≡◌, refl, sym, ap, ◌∙◌}
use mathlib.Core.Bool.{Bool, true, false, cond, ◌&&◌, and-true, and-false}
use mathlib.Core.List.{List, [], ◌∷◌, ◌++◌}
use Prim.Native.Nat.{ℕ, zero, suc, ◌+◌, ◌-◌, ◌*◌, ◌≤◌, ◌<◌}
use native.Mathlib.Omega.{arith}
use borrow.Author.Tests.{lt-leb, le-ltb, ltb-true, ltb-false, ne_eqb, eqb-true, eqb-false}
use lib.Dec.{eqb, ltb}
use lib.ListN.{length, take, drop, length-drop}
use lib.Seq.{drop-drop}
use Rattle.wire.specs.Wire.{byte, number}
use Rattle.wire.proofs.Numbers.{one as number_1}
use Rattle.calendar.specs.Calendar.{date_at}
use Rattle.cpace.specs.Cpace.{cvm_at, cashback_at}
use Rattle.refusal.specs.declared.Refusal.TheVariants.{Unreadable}
use Rattle.rules.specs.Rules.{Rules}
use Rattle.slot.specs.declared.Slots.{Slots}
use Rattle.shape.specs.declared.Family.{Family}
use Rattle.shape.specs.declared.Shape.{Shape}
use Rattle.paper.specs.declared.Next.{Next}
use Rattle.paper.specs.declared.Next.TheVariants.{Record, Fault, End as PaperEnd}
use Rattle.paper.specs.Paper.{next_at}
use Rattle.paper.specs.Walk.{part}
use Rattle.command.specs.Command.{command_of, selecting_of, start_selected, start_of, first_of, second_of}
use Rattle.script.specs.Script.{rules_after}
use Rattle.card.specs.Message.{Message}
use Rattle.records.specs.declared.Event.{Event}
use Rattle.records.specs.declared.Taken.{Taken}
use Rattle.records.specs.declared.Event.TheVariants.{End, Refused, Answered}
use Rattle.conversation.specs.Conversation.{taken_of, taken_writes}
use Rattle.conversation.specs.Events.{events_from}
use Rattle.demands.specs.Conversation.{Sitting, outcome_of, told as heard, run}
use Rattle.spelling.specs.Spelling.{Choice, by_name, by_file, Dates, undated, dated, CardFamily, cpa, cpace, Scripting, scripts_in}
use Rattle.spelling.specs.Spelling.{Manner, manner_in, cvm_of, cashback_of}
use Rattle.spelling.specs.Faults.{cut_in_length, cut_short_lem, no_kind}
use Rattle.spelling.specs.Sitting.{Read, sends, refuses, command_read, script_read, Lies, said_of, happened}
use Rattle.spelling.proofs.Shapes.{shift, next_drop, part_drop, next-broken}
use Rattle.spelling.proofs.Commands.{of, dating_of, family_of, read_by, not_start, Shows, cvm_read, cashback_read_lem}
use Rattle.spelling.proofs.Records.{commands-same, Stands}
use Rattle.spelling.proofs.Lines.{taken_as, taken_as_lem}
use Rattle.papers.specs.Papers.{Front, nothing, broken, one, front_by, front_of, Meaning, none, means, start_meant, shown_at, first_meant, second_meant}
use Rattle.papers.specs.Papers.{script_meant, meant, Walked, stopped, met, going_on, slots_at, walk_by, walk}
use Rattle.papers.specs.Talk.{ending, turns}
use Rattle.std.specs.Prelude.{Err, Option, Result}
use Rattle.command.specs.declared.Command.{Command}
use Rattle.refusal.specs.declared.Refusal.{Refusal}
use Rattle.shape.specs.declared.Span.{Span}

-- ---- the record at the front

abbrev front_in : List ℕ → Next → Front
front_in s PaperEnd = nothing
front_in s Fault = broken
front_in s (Record kind start end) = one kind (part s start end) (drop end s)

said : (high low kind : ℕ) (more : List ℕ) → number (high ∷ low ∷ kind ∷ more) 0 2 ≡ high * 256 + low
unfolding number
said high low kind more = omega arith

both_zero : (high low : ℕ) (more : List ℕ) → high * 256 + low ≡ 0 → high ∷ low ∷ more ≡ 0 ∷ 0 ∷ more
both_zero high low more e =
    let zero_high : high ≡ 0 = omega arith in
    let zero-low : low ≡ 0 = omega arith in
    cc

module _ (high low kind : ℕ) (more : List ℕ) where
  abbrev here : List ℕ
  here = high ∷ low ∷ kind ∷ more

  whole : (n : ℕ) → high * 256 + low ≡ suc n → ltb (length more) n ≡ false → next_at here 0 ≡ Record kind 3 (suc (suc (suc n)))
  unfolding next_at
  whole n e fits =
      let end : 2 + suc n ≡ suc (suc (suc n)) = omega arith in
      let room = ltb-false (length more) n fits in
      rw (said high low kind more, e, end)
      (simp (
        lt-leb (suc (suc (suc (length more)))) 0 (omega arith),
        ne_eqb (suc n) 0 (omega arith),
        le-ltb (suc (suc (suc (length more)))) (suc (suc (suc n))) (omega arith),
      ))

  by_room : (n : ℕ) → high * 256 + low ≡ suc n → (short : Bool) → ltb (length more) n ≡ short → front_by (suc n) kind more ≡ front_in here (next_at here 0)
  by_room n e true cut =
      let l = ltb-true (length more) n cut in
      rw (cut, next-broken here (cut_short_lem high low (kind ∷ more) refl (omega arith)))
  by_room n e false fits =
      let size : suc (suc (suc n)) - 3 ≡ n = omega arith in
      rw (whole n e fits, fits, size)

  by_size : (size : ℕ) → high * 256 + low ≡ size → front_by (high * 256 + low) kind more ≡ front_in here (next_at here 0)
  by_size zero e = rw (e, next-broken here (no_kind (kind ∷ more) (both_zero high low (kind ∷ more) e)))
  by_size (suc n) e = rw e (by_room n e (ltb (length more) n) refl)

front-is : (s : List ℕ) → front_of s ≡ front_in s (next_at s 0)
unfolding front_of next_at
front-is [] = refl
front-is (high ∷ []) = rw (next-broken (high ∷ []) (cut_in_length high refl))
front-is (high ∷ low ∷ []) = by (high * 256 + low) refl where
  by : (size : ℕ) → high * 256 + low ≡ size → broken ≡ front_in (high ∷ low ∷ []) (next_at (high ∷ low ∷ []) 0)
  by zero e = rw (next-broken (high ∷ low ∷ []) (no_kind [] (both_zero high low [] e)))
  by (suc n) e = rw (next-broken (high ∷ low ∷ []) (cut_short_lem high low [] refl (omega arith)))
front-is (high ∷ low ∷ kind ∷ more) = by_size high low kind more (high * 256 + low) refl

-- ---- the command in a record

abbrev as_read : Meaning → Read
as_read none = refuses Unreadable
as_read (means m) = sends m

if_so : (b : Bool) (read : Result Command Refusal) (m : Meaning) → command_read read ≡ as_read m
    → command_read (cond b read (Err Unreadable)) ≡ as_read (cond b m none)
if_so true read m e = e
if_so false read m e = refl

unless : (b : Bool) (read : Result Command Refusal) (m : Meaning) → command_read read ≡ as_read m
    → command_read (cond b (Err Unreadable) read) ≡ as_read (cond b none m)
unless true read m e = refl
unless false read m e = e

module _ (body : List ℕ) where
  start-meant : (choice : Choice) (dates : Dates) (family : CardFamily) (scripts : Scripting) (slots : Slots)
      → command_read (read_by (of choice dates family scripts) slots 2 body) ≡ as_read (start_meant choice family slots body)
  unfolding command_of selecting_of start_selected start_of
  start-meant by_name dates cpa scripts slots = if_so (eqb (length body) 1) _ _ refl
  start-meant by_name dates cpace scripts slots = if_so (eqb (length body) 2) _ _ refl
  start-meant (by_file file entries) dates cpa scripts slots = refl
  start-meant (by_file file entries) dates cpace scripts slots = unless (eqb (length body) 0) _ _ refl

  shown-meant : (at : ℕ) → (cvm_at body at ≡ cvm_of (shown_at at body)) × (cashback_at body (at + 3) ≡ cashback_of (shown_at at body))
  shown-meant at =
      let there : Shows body at (byte body at) (byte body (at + 1)) (byte body (at + 2)) (number body (at + 3) 6) =
      (number_1 body at, number_1 body (at + 1), number_1 body (at + 2), refl) in
      (cvm_read body at _ _ _ _ there, cashback_read_lem body at _ _ _ _ there)

  first-meant : (dates : Dates) (family : CardFamily)
      → command_read (command_of (dating_of dates) (family_of family) 3 body) ≡ as_read (first_meant dates family body)
  unfolding command_of first_of date_at
  first-meant undated cpa = if_so (eqb (length body) 12) _ _ refl
  first-meant dated cpa = if_so (eqb (length body) 15) _ _ refl
  first-meant undated cpace = let (cvm, cashback) = shown-meant 12 in rw (cvm, cashback) (if_so (eqb (length body) 21) _ _ refl)
  first-meant dated cpace = let (cvm, cashback) = shown-meant 15 in rw (cvm, cashback) (if_so (eqb (length body) 24) _ _ refl)

  second-meant : (dating : Option Span) (family : Family) → command_read (command_of dating family 4 body) ≡ as_read (second_meant body)
  unfolding command_of second_of
  second-meant dating family = if_so (eqb (length body) 8) _ _ refl

script-meant : (manner : Manner) (slots : Slots) (on : Bool) (body : List ℕ)
    → cond on (script_read body) (command_read (read_by manner slots 5 body)) ≡ as_read (script_meant (scripts_in on) body)
unfolding command_of
script-meant manner slots false body = ap command_read (not_start manner slots 5 body (λ e. omega arith))
script-meant manner slots true [] = refl
script-meant manner slots true (result ∷ template) = refl

-- what a record is read as, where scripts are on or not
abbrev read_as : (on : Bool) → Manner → Slots → (kind : ℕ) (body : List ℕ) → Read
read_as on manner slots kind body = cond (on && eqb kind 5) (script_read body) (command_read (read_by manner slots kind body))

meant-read : (on : Bool) (manner : Manner) → manner.scripts ≡ scripts_in on → (slots : Slots) (kind : ℕ) (body : List ℕ)
    → read_as on manner slots kind body ≡ as_read (meant manner slots kind body)
unfolding meant command_of
meant-read on manner scripts slots kind body = by (eqb kind 2) (eqb kind 3) (eqb kind 4) (eqb kind 5) refl refl refl refl where
  other : (k : ℕ) → (k ≡ 2 → ⊥)
      → command_read (read_by manner slots k body) ≡ command_read (command_of (dating_of manner.dates) (family_of manner.family) k body)
  other k n = ap command_read (not_start manner slots k body n)

  by : (two three four five : Bool) → eqb kind 2 ≡ two → eqb kind 3 ≡ three → eqb kind 4 ≡ four → eqb kind 5 ≡ five
      → read_as on manner slots kind body ≡ as_read (meant manner slots kind body)
  by true three four five e f g h =
      rw (eqb-true kind 2 e, and-false on) (start-meant body manner.choice manner.dates manner.family manner.scripts slots)
  by false true four five e f g h =
      rw (eqb-true kind 3 f, and-false on) (other 3 (λ z. omega arith) ∙ first-meant body manner.dates manner.family)
  by false false true five e f g h =
      rw (eqb-true kind 4 g, and-false on) (other 4 (λ z. omega arith) ∙ second-meant body (dating_of manner.dates) (family_of manner.family))
  by false false false true e f g h = rw (eqb-true kind 5 h, and-true on, scripts) (script-meant manner slots on body)
  by false false false false e f g h = rw (e, f, g, h, and-false on) (other kind (eqb-false kind 2 e) ∙ rw (e, f, g))

-- ---- one turn, and all of them

module _ (form : Shape) (s : List ℕ) (lies : Lies form.selecting s) where
  abbrev manner : Manner
  manner = manner_in form s

  -- what is taken at a place in a sitting, and the rules that it leaves
  abbrev taken : Sitting → (at : ℕ) → Taken
  taken sitting at = taken_of sitting.rules form sitting.state s at

  abbrev leaves : Sitting → (at : ℕ) → Rules
  leaves sitting at = rules_after sitting.rules (taken_writes form sitting.state s at)

  -- what the walk meets there
  abbrev Meets : Sitting → (at : ℕ) → ((Sitting → List ℕ → Walked) → Walked) → Type 0
  Meets sitting at is = (more : Sitting → List ℕ → Walked) → walk_by manner sitting (front_of (drop at s)) more ≡ is more

  -- and what the conversation takes there
  data Turn (sitting : Sitting) (at : ℕ) : Type 0 where
    over : Meets sitting at (λ more. stopped false) → (taken sitting at).event ≡ End → Turn sitting at
    fault : Meets sitting at (λ more. stopped true) → (taken sitting at).event ≡ Refused Unreadable → Turn sitting at
    command : (m : Message) (end : ℕ) → Meets sitting at (λ more. met m (more (heard sitting m) (drop end s)))
        → taken sitting at ≡ taken_as sitting.rules sitting.state end (sends m) → leaves sitting at ≡ (heard sitting m).rules → Turn sitting at

  module _ (sitting : Sitting) (at : ℕ) where
    abbrev slots : Slots
    slots = slots_at manner sitting

    abbrev rest : List ℕ
    rest = drop at s

    front : (next : Next) → next_at rest 0 ≡ next → front_of rest ≡ front_in rest next
    front next e = front-is rest ∙ ap (front_in rest) e

    place : (next : Next) → next_at rest 0 ≡ next → next_at s at ≡ shift at next
    place next e = next_drop s at ∙ ap (shift at) e

    -- a record stands there, and is read as what it means
    stands : (kind start end : ℕ) → next_at rest 0 ≡ Record kind start end → (m : Meaning) → meant manner slots kind (part rest start end) ≡ m
        → Stands form sitting.state.values s at (as_read m) (at + end)
    stands kind start end e m f =
        record {
          kind = kind;
          start = at + start;
          next = place (Record kind start end) e;
          is =
              rw (commands-same form sitting.state.values s lies kind (part s (at + start) (at + end)))
              (ap (read_as form.scripting manner slots kind) (part_drop s at start end)
              ∙ meant-read form.scripting manner refl slots kind (part rest start end)
              ∙ ap as_read f);
        }

    by_meaning : (kind start end : ℕ) → next_at rest 0 ≡ Record kind start end → (m : Meaning) → meant manner slots kind (part rest start end) ≡ m
        → Turn sitting at
    by_meaning kind start end e none f =
        let t = taken_as_lem form s lies sitting.rules sitting.state at _ _ (stands kind start end e none f) in
        fault (λ more. rw (front (Record kind start end) e, f)) (ap (λ (x : Taken). x.event) t.0)
    by_meaning kind start end e (means m) f =
        let t = taken_as_lem form s lies sitting.rules sitting.state at _ _ (stands kind start end e (means m) f) in
        command m (at + end) (λ more. rw (front (Record kind start end) e, f, drop-drop end at s)) t.0 (ap (rules_after sitting.rules) t.1)

    by_next : (next : Next) → next_at rest 0 ≡ next → Turn sitting at
    unfolding taken_of
    by_next PaperEnd e = over (λ more. rw (front PaperEnd e)) (rw (place PaperEnd e))
    by_next Fault e = fault (λ more. rw (front Fault e)) (rw (place Fault e))
    by_next (Record kind start end) e = by_meaning kind start end e (meant manner slots kind (part rest start end)) refl

    turn : Turn sitting at
    turn = by_next (next_at rest 0) refl

  -- THE EVENTS OF n TURNS ARE THOSE OF THE COMMANDS MET
  abbrev told : Walked → Sitting → List Event
  told walked sitting = happened sitting.rules sitting.state walked.commands ++ ending walked.fault

  abbrev Events : ℕ → Type 0
  Events n =
      (sitting : Sitting) (at : ℕ) → events_from n sitting.rules form sitting.state s at ≡ told (walk n manner sitting (drop at s)) sitting

  one_more_lem : (n : ℕ) (sitting : Sitting) (at : ℕ) → Turn sitting at → Events n
      → events_from (suc n) sitting.rules form sitting.state s at ≡ told (walk (suc n) manner sitting (drop at s)) sitting
  unfolding events_from walk happened
  one_more_lem n sitting at (over w t) then = rw (w (walk n manner), t)
  one_more_lem n sitting at (fault w t) then = rw (w (walk n manner), t)
  one_more_lem n sitting at (command m end w t l) then =
      rw (w (walk n manner), t, l)
      (ap (λ (more : List Event). Answered (said_of m) (outcome_of sitting m).answer ∷ more) (then (heard sitting m) end))

  pub walk-events : (n : ℕ) → Events n
  unfolding events_from walk happened
  walk-events zero sitting at = refl
  walk-events (suc n) sitting at = one_more_lem n sitting at (turn sitting at) (walk-events n)

  -- AND THE CARD AFTER ANY OF THEM IS THE ONE THAT HEARD THOSE BEFORE
  abbrev Card : ℕ → List Message → Type 0
  Card n before =
      (sitting : Sitting) (at : ℕ) (after : List Message) → (walk n manner sitting (drop at s)).commands ≡ before ++ after
      → turns (length before) sitting.rules form sitting.state s at ≡ (run sitting before).state

  not_met : {A : Type 0} (c : Message) (cs : List Message) → [] ≡ c ∷ cs → A
  not_met c cs e = let z : ◌≡◌ {A = ℕ} 0 1 = cc in absurd (omega arith)

  card_on : (n : ℕ) (c : Message) (before : List Message) → Card n before
      → (sitting : Sitting) (at : ℕ) (after : List Message) → (walk (suc n) manner sitting (drop at s)).commands ≡ c ∷ (before ++ after)
      → Turn sitting at → turns (suc (length before)) sitting.rules form sitting.state s at ≡ (run sitting (c ∷ before)).state
  unfolding turns run walk
  card_on n c before then sitting at after e (over w t) = not_met c (before ++ after) (ap (λ (x : Walked). x.commands) (sym (w (walk n manner))) ∙ e)
  card_on n c before then sitting at after e (fault w t) = not_met c (before ++ after) (ap (λ (x : Walked). x.commands) (sym (w (walk n manner))) ∙ e)
  card_on n c before then sitting at after e (command d end w t l) =
      let on = (walk n manner (heard sitting d) (drop end s)).commands in
      let all : d ∷ on ≡ c ∷ (before ++ after) = ap (λ (x : Walked). x.commands) (sym (w (walk n manner))) ∙ e in
      let same : d ≡ c = cc in
      let behind : on ≡ before ++ after = cc in
      (λ i. turns (length before) (l i) form (t i).state s (t i).at)
      ∙ then (heard sitting d) end after behind
      ∙ ap (λ (x : Message). (run (heard sitting x) before).state) same

  pub walk_cards : (n : ℕ) (before : List Message) → Card n before
  unfolding turns run walk
  walk_cards n [] sitting at after e = refl
  walk_cards zero (c ∷ before) sitting at after e = not_met c (before ++ after) e
  walk_cards (suc n) (c ∷ before) sitting at after e = card_on n c before (walk_cards n before) sitting at after e (turn sitting at)

-- ---- the walk ends: each record goes further, and as many steps as there are bytes say all there is to say

no_front : {A : Type 0} (kind : ℕ) (body behind : List ℕ) → broken ≡ one kind body behind → A
no_front kind body behind e = let z : ◌≡◌ {A = ℕ} 0 1 = cc in absurd (omega arith)

shorter : (s : List ℕ) (kind : ℕ) (body behind : List ℕ) → front_of s ≡ one kind body behind → length behind < length s
unfolding front_of
shorter [] kind body behind e = let z : ◌≡◌ {A = ℕ} 0 1 = cc in absurd (omega arith)
shorter (high ∷ []) kind body behind e = no_front kind body behind e
shorter (high ∷ low ∷ []) kind body behind e = no_front kind body behind e
shorter (high ∷ low ∷ k ∷ more) kind body behind e = by (high * 256 + low) e where
  by_room : (n : ℕ) (short : Bool) → cond short broken (one k (take n more) (drop n more)) ≡ one kind body behind → length behind < 3 + length more
  by_room n true e = no_front kind body behind e
  by_room n false e = let same : drop n more ≡ behind = cc in omega (arith, length-drop n more, ap length same)

  by : (size : ℕ) → front_by size k more ≡ one kind body behind → length behind < suc (suc (suc (length more)))
  by zero e = no_front kind body behind e
  by (suc n) e = let l = by_room n (ltb (length more) n) e in omega arith

module _ (manner : Manner) where
  settled-by : (n m : ℕ) (sitting : Sitting) (s : List ℕ) → length s ≤ suc n → (front : Front) → front_of s ≡ front
      → ((sitting : Sitting) (behind : List ℕ) → length behind ≤ n → walk m manner sitting behind ≡ walk n manner sitting behind)
      → walk_by manner sitting front (walk m manner) ≡ walk_by manner sitting front (walk n manner)
  settled-by n m sitting s l nothing e then = refl
  settled-by n m sitting s l broken e then = refl
  settled-by n m sitting s l (one kind body behind) e then = by (meant manner (slots_at manner sitting) kind body) where
    by : (meaning : Meaning)
        → going_on meaning (λ c. walk m manner (heard sitting c) behind) ≡ going_on meaning (λ c. walk n manner (heard sitting c) behind)
    by none = refl
    by (means c) = ap (met c) (then (heard sitting c) behind (omega (arith, shorter s kind body behind e)))

  pub walk-settled : (n m : ℕ) (sitting : Sitting) (s : List ℕ) → length s ≤ n → n ≤ m → walk m manner sitting s ≡ walk n manner sitting s
  unfolding walk front_of
  walk-settled zero zero sitting s l k = refl
  walk-settled zero (suc m) sitting [] l k = refl
  walk-settled zero (suc m) sitting (b ∷ s) l k = absurd (omega arith)
  walk-settled (suc n) zero sitting s l k = absurd (omega arith)
  walk-settled (suc n) (suc m) sitting s l k =
      settled-by n m sitting s l (front_of s) refl (λ after behind h. walk-settled n m after behind h (omega arith))
