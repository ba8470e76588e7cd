-- Every exchange of a sitting: what is taken is answered in its kind, and the IAD that goes out lies in the line's 32 bytes. Assumes nothing.
use mathlib.Core.Path.{◌≡◌, sym, subst}
use mathlib.Core.List.{List, [], ◌∷◌, ◌++◌, append_assoc, append-nil}
use Prim.Native.Nat.{ℕ, ◌+◌}
use lib.ListN.{length, replicate}
use Rattle.wire.specs.Wire.{number}
use Rattle.iad.specs.declared.Iad.{Iad}
use Rattle.iad.specs.Iad.{written}
use Rattle.readback.specs.WellFormed.{Writable, LaidOut}
use Rattle.state.specs.declared.Answer.TheVariants.{Given}
use Rattle.state.specs.declared.Kind.{Kind}
use Rattle.card.specs.Card.{answer_number}
use Rattle.card.specs.Message.{Message}
use Rattle.demands.specs.Setup.{Setup, AcceptedSetup}
use Rattle.demands.specs.Conversation.{Exchange, Sitting, run, sat, next, Spoken}
use Rattle.demands.specs.Due.{InKind}
use Rattle.demands.proofs.Refusal.{in_kind}
use Rattle.demands.proofs.Sendable.{written_out}
use Rattle.spelling.specs.Spelling.{Bytes}
use Rattle.spelling.proofs.Numbers.{bytes_drop}
use Rattle.papers.specs.Papers.{rest_in, setup_of, manner_of, Accepted, walked, commands_of}
use Rattle.papers.specs.Talk.{turned, talk}
use Rattle.papers.proofs.Setups.{good-setup}
use Rattle.papers.proofs.Starts.{heard_spoken}
use Rattle.papers.proofs.Talk.{fresh, run-one}

pub record Fine (exchange : Exchange) : Type 0 where
  pub taken : answer_number exchange.answer ≡ 0 → InKind exchange.command exchange.answer
  pub sent : (kind : Kind) (atc : ℕ) (iad : Iad) → exchange.answer ≡ Given kind atc iad
      → Writable iad × LaidOut iad (written iad (replicate 32 0))

pub data AllFine : List Exchange → Type 0 where
  none_said : AllFine []
  one-said : {exchange : Exchange} {more : List Exchange} → Fine exchange → AllFine more → AllFine (exchange ∷ more)

spoken_front : (before left : List Message) → Spoken (before ++ left) → Spoken before
spoken_front [] left spoken = tt
spoken_front (command ∷ before) left spoken = (spoken.0, spoken_front before left spoken.1)

module _ (setup : Setup) (good : AcceptedSetup setup) where
  said-fine : (before : List Message) → Spoken before → (command : Message)
      → Fine (record { command = command; answer = (next setup before command).answer })
  said-fine before spoken command =
      let sitting = sat setup before in
      record {
        taken = in_kind sitting.rules sitting.state command;
        sent = λ kind atc iad e. let (can, small, lies, formed) = written_out setup good before spoken command kind atc iad e in (can, lies);
      }

  fine-from : (before left : List Message) → Spoken (before ++ left) → AllFine (sat setup before).log → AllFine (sat setup (before ++ left)).log
  fine-from before [] spoken fine = subst (λ (l : List Message). AllFine (sat setup l).log) (sym (append-nil before)) fine
  fine-from before (command ∷ left) spoken fine =
      let same = append_assoc before (command ∷ []) left in
      let here = said-fine before (spoken_front before (command ∷ left) spoken) command in
      let then = subst (λ (s : Sitting). AllFine s.log) (sym (run-one (fresh setup) before command)) (one-said here fine) in
      subst (λ (l : List Message). AllFine (sat setup l).log) same (fine-from (before ++ command ∷ []) left (subst Spoken (sym same) spoken) then)

turned-fine : (log others : List Exchange) → AllFine log → AllFine others → AllFine (turned log others)
turned-fine [] others none_said fine = fine
turned-fine (exchange ∷ log) others (one-said here older) fine = turned-fine log (exchange ∷ others) older (one-said here fine)

-- ALL THAT IS SAID over an accepted set-up
pub talk-fine : (setup : Setup) → AcceptedSetup setup → (commands : List Message) → Spoken commands → AllFine (talk setup commands)
unfolding talk run
talk-fine setup good commands spoken = turned-fine (sat setup commands).log [] (fine-from setup good [] commands spoken none_said) none_said

-- and in a paper's sitting
module _ (paper : List ℕ) (bytes : Bytes paper) (a : Accepted paper) where
  spoken_there : Spoken (commands_of paper)
  unfolding walked run
  spoken_there =
      heard_spoken (manner_of paper) (length paper) (fresh (setup_of paper)) (rest_in paper) (bytes_drop (3 + number paper 1 2) paper bytes)
      (commands_of paper) [] (sym (append-nil (commands_of paper)))

  pub paper-fine : AllFine (talk (setup_of paper) (commands_of paper))
  paper-fine = talk-fine (setup_of paper) (good-setup paper a bytes) (commands_of paper) spoken_there
