-- No refusal ends a paper exactly where its set-up is accepted and each of its records is a command. Assumes nothing.
use mathlib.Core.Path.{◌≡◌, refl, sym, ap, ◌∙◌}
use mathlib.Core.Bool.{Bool, true, false, not}
use mathlib.Core.Logic.{◌↔◌}
use mathlib.Core.List.{List, [], ◌∷◌, ◌++◌}
use Prim.Native.Nat.{ℕ}
use native.Mathlib.Omega.{arith}
use lib.ListN.{length}
use Rattle.refusal.specs.declared.Refusal.{Refusal}
use Rattle.rules.specs.Word.{word_count}
use Rattle.records.specs.declared.Event.TheVariants.{Refused}
use Rattle.conversation.specs.Events.{events_of}
use Rattle.demands.specs.Conversation.{Exchange}
use Rattle.spelling.specs.Spelling.{Bytes}
use Rattle.papers.specs.Papers.{setup_of, Accepted, commands_of, faulty}
use Rattle.papers.specs.Talk.{all_answered, talk, ending, Heard, unread, not_set_up, past_data, heard}
use Rattle.papers.proofs.Events.{events-are, every_paper}
use Rattle.log_laws.specs.Spoken.{is_whole}

answered-whole : (said : List Exchange) (fault : Bool) → is_whole (all_answered said ++ ending fault) ≡ not fault
unfolding is_whole
answered-whole [] true = refl
answered-whole [] false = refl
answered-whole (one ∷ said) fault = answered-whole said fault

module _ (words paper : List ℕ) (lent : length words ≡ word_count) (bytes : Bytes paper) where
  accepted-whole : Accepted paper → is_whole (events_of words paper) ≡ not (faulty paper)
  unfolding is_whole
  accepted-whole a = ap is_whole (events-are words paper lent bytes a) ∙ answered-whole (talk (setup_of paper) (commands_of paper)) (faulty paper)

  refused_not : (refusal : Refusal) → events_of words paper ≡ Refused refusal ∷ [] → is_whole (events_of words paper) ≡ true → ⊥
  unfolding is_whole
  refused_not refusal e whole = let none : is_whole (events_of words paper) ≡ false = rw e in let z : ◌≡◌ {A = ℕ} 0 1 = cc in omega arith

  pub whole-exactly : (is_whole (events_of words paper) ≡ true) ↔ (Accepted paper × (faulty paper ≡ false))
  whole-exactly = (λ whole. to whole (every_paper words paper lent bytes), λ both. accepted-whole both.0 ∙ ap not both.1) where
    no_fault : (fault : Bool) → not fault ≡ true → fault ≡ false
    no_fault true e = sym e
    no_fault false e = refl

    to : is_whole (events_of words paper) ≡ true → Heard words paper → Accepted paper × (faulty paper ≡ false)
    to whole (unread fault e) = absurd (refused_not _ e whole)
    to whole (not_set_up version body rest o none_is refusal one e) = absurd (refused_not _ e whole)
    to whole (past_data version body rest o past e) = absurd (refused_not _ e whole)
    to whole (heard a e) = (a, no_fault (faulty paper) (sym (accepted-whole a) ∙ whole))
