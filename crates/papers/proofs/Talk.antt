-- What is said in a sitting, in order; and a sitting cut anywhere. Assumes nothing.
use mathlib.Core.Path.{◌≡◌, refl, sym, ap, subst, ◌∙◌}
use mathlib.Core.Bool.{Bool, true, false}
use mathlib.Core.List.{List, [], ◌∷◌, ◌++◌, append_assoc, append-nil}
use Prim.Native.Nat.{ℕ, suc}
use native.Mathlib.Omega.{arith}
use lib.ListN.{length}
use Rattle.command.specs.declared.Command.TheVariants.{Start, First, Second}
use Rattle.state.specs.declared.Answer.{Answer}
use Rattle.setup.specs.Setup.{read_setup}
use Rattle.fresh.specs.Fresh.{fresh_state}
use Rattle.card.specs.Message.{Message, StartCommand, FirstCommand, SecondCommand, ScriptCommand}
use Rattle.records.specs.declared.Event.{Event}
use Rattle.records.specs.declared.Event.TheVariants.{Answered}
use Rattle.records.specs.declared.Said.{Said}
use Rattle.records.specs.declared.Said.TheVariants.{Command, Script}
use Rattle.demands.specs.Setup.{Setup}
use Rattle.demands.specs.Conversation.{Exchange, Sitting, outcome_of, told, run, rules_by}
use Rattle.spelling.specs.Sitting.{said_of, happened}
use Rattle.papers.specs.Talk.{answered, all_answered, turned, talk, ending, commands_in, IsCommand, Plain}

-- ---- in order

turned_onto : (log others : List Exchange) → turned log others ≡ turned log [] ++ others
turned_onto [] others = refl
turned_onto (x ∷ log) others =
    turned_onto log (x ∷ others)
    ∙ sym (append_assoc (turned log []) (x ∷ []) others)
    ∙ ap (λ (l : List Exchange). l ++ others) (sym (turned_onto log (x ∷ [])))

pub answered_both : (xs ys : List Exchange) → all_answered (xs ++ ys) ≡ all_answered xs ++ all_answered ys
answered_both [] ys = refl
answered_both (x ∷ xs) ys = ap (λ (l : List Event). answered x ∷ l) (answered_both xs ys)

-- the exchange of one command
abbrev said : Sitting → Message → Exchange
said sitting c = record { command = c; answer = (outcome_of sitting c).answer }

run-answered : (sitting : Sitting) (commands : List Message)
    → all_answered (turned (run sitting commands).log []) ≡ all_answered (turned sitting.log []) ++ happened sitting.rules sitting.state commands
unfolding run happened
run-answered sitting [] = sym (append-nil (all_answered (turned sitting.log [])))
run-answered sitting (c ∷ cs) =
    let old = turned sitting.log [] in
    let more = happened (told sitting c).rules (told sitting c).state cs in
    run-answered (told sitting c) cs
    ∙ ap (λ (l : List Event). l ++ more) (ap all_answered (turned_onto sitting.log (said sitting c ∷ [])) ∙ answered_both old (said sitting c ∷ []))
    ∙ append_assoc (all_answered old) (answered (said sitting c) ∷ []) more

-- a sitting before its first command
abbrev pub fresh : Setup → Sitting
fresh setup =
    record { rules = rules_by setup; state = fresh_state (read_setup setup.bytes setup.tail setup.family setup.unnamed).fresh; log = [] }

-- THE TALK OF A SITTING, AS EVENTS
pub talk-is : (setup : Setup) (commands : List Message)
    → all_answered (talk setup commands) ≡ happened (rules_by setup) (fresh setup).state commands
unfolding talk
talk-is setup commands = run-answered (fresh setup) commands

-- ONE EXCHANGE FOR EACH COMMAND, in order
pub said_both : (xs ys : List Exchange) → commands_in (xs ++ ys) ≡ commands_in xs ++ commands_in ys
said_both [] ys = refl
said_both (x ∷ xs) ys = ap (λ (l : List Message). x.command ∷ l) (said_both xs ys)

run-said : (sitting : Sitting) (commands : List Message)
    → commands_in (turned (run sitting commands).log []) ≡ commands_in (turned sitting.log []) ++ commands
unfolding run
run-said sitting [] = sym (append-nil (commands_in (turned sitting.log [])))
run-said sitting (c ∷ cs) =
    let old = turned sitting.log [] in
    run-said (told sitting c) cs
    ∙ ap (λ (l : List Message). l ++ cs) (ap commands_in (turned_onto sitting.log (said sitting c ∷ [])) ∙ said_both old (said sitting c ∷ []))
    ∙ append_assoc (commands_in old) (c ∷ []) cs

pub talk-said : (setup : Setup) (commands : List Message) → commands_in (talk setup commands) ≡ commands
unfolding talk
talk-said setup commands = run-said (fresh setup) commands

pub said_length : (said : List Exchange) → length (commands_in said) ≡ length said
said_length [] = refl
said_length (x ∷ said) = ap suc (said_length said)

pub talk_length : (setup : Setup) (commands : List Message) → length (talk setup commands) ≡ length commands
talk_length setup commands = sym (said_length (talk setup commands)) ∙ ap length (talk-said setup commands)

-- ---- cut anywhere

pub run-one : (sitting : Sitting) (before : List Message) (c : Message) → run sitting (before ++ c ∷ []) ≡ told (run sitting before) c
unfolding run
run-one sitting [] c = refl
run-one sitting (b ∷ before) c = run-one (told sitting b) before c

-- what was said so far, and what happens behind it
pub record Cut (sitting : Sitting) (before : List Exchange) (left : List Message) (fault : Bool) (more : List Event) : Type 0 where
  pub log_is : (run sitting (commands_in before)).log ≡ turned before sitting.log
  pub more-is : happened (run sitting (commands_in before)).rules (run sitting (commands_in before)).state left ++ ending fault ≡ more

pub cut : (sitting : Sitting) (before : List Exchange) (left : List Message) (fault : Bool) (more : List Event)
    → happened sitting.rules sitting.state (commands_in before ++ left) ++ ending fault ≡ all_answered before ++ more → Cut sitting before left fault more
unfolding run happened
cut sitting [] left fault more e = record { log_is = refl; more-is = e }
cut sitting (x ∷ before) left fault more e =
    let c = x.command in
    let same : (outcome_of sitting c).answer ≡ x.answer = cc in
    let behind : happened (told sitting c).rules (told sitting c).state (commands_in before ++ left) ++ ending fault ≡ all_answered before ++ more = cc in
    let rest = cut (told sitting c) before left fault more behind in
    record {
      log_is = rest.log_is ∙ ap (λ (answer : Answer). turned before (record { command = c; answer = answer } ∷ sitting.log)) same;
      more-is = rest.more-is;
    }

-- the answer behind the cut
pub next-said : (sitting : Sitting) (c : Message) (left : List Message) (fault : Bool) (answer : Answer) (more : List Event)
    → happened sitting.rules sitting.state (c ∷ left) ++ ending fault ≡ Answered (said_of c) answer ∷ more → (outcome_of sitting c).answer ≡ answer
unfolding happened
next-said sitting c left fault answer more e = cc

-- ---- of a command an event tells all

message_of : Said → Message
message_of (Command (Start start)) = StartCommand start
message_of (Command (First first)) = FirstCommand first
message_of (Command (Second second)) = SecondCommand second
message_of Script = ScriptCommand 0 []

told_back : (m : Message) → IsCommand (said_of m) → message_of (said_of m) ≡ m
unfolding message_of
told_back (StartCommand start) h = refl
told_back (FirstCommand first) h = refl
told_back (SecondCommand second) h = refl
told_back (ScriptCommand result template) h = absurd h

-- SO WITHOUT SCRIPTS THE EVENTS ALONE SAY WHAT WAS SAID
pub plain-said : (sitting : Sitting) (commands : List Message) (fault : Bool) (before : List Exchange) (more : List Event) → Plain before
    → happened sitting.rules sitting.state commands ++ ending fault ≡ all_answered before ++ more
    → (left : List Message) × (commands ≡ commands_in before ++ left)
unfolding happened
plain-said sitting commands fault [] more p e = (commands, refl)
plain-said sitting [] true (x ∷ before) more p e = let z : ◌≡◌ {A = ℕ} 0 1 = cc in absurd (omega arith)
plain-said sitting [] false (x ∷ before) more p e = let z : ◌≡◌ {A = ℕ} 0 1 = cc in absurd (omega arith)
plain-said sitting (c ∷ cs) fault (x ∷ before) more p e =
    let said_same : said_of c ≡ said_of x.command = cc in
    let same : c ≡ x.command =
    sym (told_back c (subst IsCommand (sym said_same) p.0)) ∙ ap message_of said_same ∙ told_back x.command p.0 in
    let behind : happened (told sitting c).rules (told sitting c).state cs ++ ending fault ≡ all_answered before ++ more = cc in
    let rest = plain-said (told sitting c) cs fault before more p.1 behind in
    (rest.0, λ i. same i ∷ rest.1 i)
