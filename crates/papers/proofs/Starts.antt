-- Every command of a paper is what one of its records means; so a Start's profile is chosen as the paper says, a First has its date where it
-- says so, and a script stands only where scripts are on, its template of bytes as the paper is. Assumes nothing.
use mathlib.Core.Path.{◌≡◌, refl, ap, subst, ◌∙◌}
use mathlib.Core.Bool.{Bool, true, false, cond}
use mathlib.Core.List.{List, [], ◌∷◌, ◌++◌, append_assoc}
use Prim.Native.Nat.{ℕ, zero, suc, ◌+◌, ◌*◌}
use native.Mathlib.Omega.{arith}
use borrow.Author.Tests.{ne_eqb}
use lib.Dec.{eqb, ltb}
use lib.ListN.{length, take, drop}
use Rattle.wire.specs.Wire.{byte}
use Rattle.slot.specs.declared.Slots.{Slots}
use Rattle.auditor.specs.Template as Auditor
use Rattle.card.specs.Message.{Message, StartCommand, FirstCommand, SecondCommand, ScriptCommand}
use Rattle.spelling.specs.Spelling.{Bytes, Choice, by_name, by_file, Dates, undated, dated, CardFamily, cpa, cpace, Scripting, unscripted, scripted, Manner}
use Rattle.spelling.specs.Faults.{first_length}
use Rattle.demands.specs.Conversation.{Sitting, told, run, IsSpoken, Spoken}
use Rattle.spelling.proofs.Numbers.{byte_small, bytes_take, bytes_drop}
use Rattle.spelling.proofs.Commands.{of}
use Rattle.papers.specs.Papers.{Front, nothing, broken, one, front_by, front_of, Meaning, none, means, start_meant, first_meant, second_meant, script_meant}
use Rattle.papers.specs.Papers.{meant, going_on, slots_at, walk_by, walk, Chosen, Timed}

-- a record of bytes has a body of bytes, and bytes behind it
abbrev OfBytes : Front → Type 0
OfBytes nothing = Unit
OfBytes broken = Unit
OfBytes (one kind body behind) = Bytes body × Bytes behind

front_bytes : (s : List ℕ) → Bytes s → OfBytes (front_of s)
unfolding front_of
front_bytes [] h = tt
front_bytes (high ∷ []) h = tt
front_bytes (high ∷ low ∷ []) h = tt
front_bytes (high ∷ low ∷ kind ∷ more) h = by (high * 256 + low) where
  by_room : (n : ℕ) (short : Bool) → OfBytes (cond short broken (one kind (take n more) (drop n more)))
  by_room n true = tt
  by_room n false = (bytes_take n more h.1.1.1, bytes_drop n more h.1.1.1)

  by : (size : ℕ) → OfBytes (front_by size kind more)
  by zero = tt
  by (suc n) = by_room n (ltb (length more) n)

module _ (manner : Manner) where
  -- a record that means this command, by what entries may test
  pub record Met (slots : Slots) (c : Message) : Type 0 where
    pub kind : ℕ
    pub body : List ℕ
    pub bytes : Bytes body
    pub is : meant manner slots kind body ≡ means c

  abbrev AllMet : Sitting → List Message → Type 0
  AllMet sitting commands =
      (before : List Message) (c : Message) (after : List Message) → commands ≡ before ++ c ∷ after → Met (slots_at manner (run sitting before)) c

  none-met : (sitting : Sitting) → AllMet sitting []
  none-met sitting [] c after e = let z : ◌≡◌ {A = ℕ} 0 1 = cc in absurd (omega arith)
  none-met sitting (b ∷ before) c after e = let z : ◌≡◌ {A = ℕ} 0 1 = cc in absurd (omega arith)

  one-met : (sitting : Sitting) (d : Message) (commands : List Message) → Met (slots_at manner sitting) d → AllMet (told sitting d) commands
      → AllMet sitting (d ∷ commands)
  unfolding run
  one-met sitting d commands met then [] c after e = let same : d ≡ c = cc in subst (Met (slots_at manner sitting)) same met
  one-met sitting d commands met then (b ∷ before) c after e =
      let same : d ≡ b = cc in
      subst (λ (x : Message). AllMet (told sitting x) commands) same then before c after (cc)

  met_by : (n : ℕ) (sitting : Sitting) (front : Front) → OfBytes front
      → ((after : Sitting) (s : List ℕ) → Bytes s → AllMet after (walk n manner after s).commands)
      → AllMet sitting (walk_by manner sitting front (walk n manner)).commands
  met_by n sitting nothing h then = none-met sitting
  met_by n sitting broken h then = none-met sitting
  met_by n sitting (one kind body behind) h then = by (meant manner (slots_at manner sitting) kind body) refl where
    by : (m : Meaning) → meant manner (slots_at manner sitting) kind body ≡ m
        → AllMet sitting (going_on m (λ d. walk n manner (told sitting d) behind)).commands
    by none e = none-met sitting
    by (means d) e =
        one-met sitting d (walk n manner (told sitting d) behind).commands (record { kind = kind; body = body; bytes = h.0; is = e })
        (then (told sitting d) behind h.1)

  -- EVERY COMMAND IS WHAT A RECORD MEANS AT THE CARD THAT HEARD THOSE BEFORE IT
  pub all-met : (n : ℕ) (sitting : Sitting) (s : List ℕ) → Bytes s → AllMet sitting (walk n manner sitting s).commands
  unfolding walk
  all-met zero sitting s h = none-met sitting
  all-met (suc n) sitting s h = met_by n sitting (front_of s) (front_bytes s h) (all-met n)

-- ---- and so it is as its paper says

-- a Start's profile, a First's date, and where a script may stand and that its template is bytes
abbrev Right : Manner → Slots → Message → Type 0
Right manner slots (StartCommand start) = Chosen manner.choice manner.family slots start
Right manner slots (FirstCommand first) = Timed manner.dates first
Right manner slots (SecondCommand second) = Unit
Right manner slots (ScriptCommand result template) = (manner.scripts ≡ scripted) × Auditor.Bytes template

abbrev RightIn : Manner → Slots → Meaning → Type 0
RightIn manner slots none = Unit
RightIn manner slots (means command) = Right manner slots command

either : (manner : Manner) (slots : Slots) (b : Bool) (m : Meaning) → RightIn manner slots m → RightIn manner slots (cond b m none)
either manner slots true m right = right
either manner slots false m right = tt

start_right : (choice : Choice) (dates : Dates) (family : CardFamily) (scripts : Scripting) (slots : Slots) (body : List ℕ)
    → RightIn (of choice dates family scripts) slots (start_meant choice family slots body)
start_right by_name dates cpa scripts slots body = either (of by_name dates cpa scripts) slots (eqb (length body) 1) _ (byte body 0, refl)
start_right by_name dates cpace scripts slots body = either (of by_name dates cpace scripts) slots (eqb (length body) 2) _ (byte body 1, refl)
start_right (by_file file entries) dates cpa scripts slots body = (body, refl)
start_right (by_file file entries) dates cpace scripts slots [] = tt
start_right (by_file file entries) dates cpace scripts slots (interface ∷ terminal) =
    rw (ne_eqb (suc (length terminal)) 0 (λ e. omega arith)) (terminal, refl)

first_right : (choice : Choice) (dates : Dates) (family : CardFamily) (scripts : Scripting) (slots : Slots) (body : List ℕ)
    → RightIn (of choice dates family scripts) slots (first_meant dates family body)
first_right choice undated family scripts slots body =
    either (of choice undated family scripts) slots (eqb (length body) (first_length undated family)) _ refl
first_right choice dated family scripts slots body =
    either (of choice dated family scripts) slots (eqb (length body) (first_length dated family)) _
    (record { year = byte body 12; month = byte body 13; day = byte body 14 }, refl)

script_right : (choice : Choice) (dates : Dates) (family : CardFamily) (scripts : Scripting) (slots : Slots) (body : List ℕ) → Bytes body
    → RightIn (of choice dates family scripts) slots (script_meant scripts body)
script_right choice dates family unscripted slots body h = tt
script_right choice dates family scripted slots [] h = tt
script_right choice dates family scripted slots (result ∷ template) h = (refl, byte_small template h.1)

pub met_right : (manner : Manner) (slots : Slots) (c : Message) → Met manner slots c → Right manner slots c
unfolding meant
met_right manner slots c met =
    subst (RightIn manner slots) met.is (by (eqb met.kind 2) (eqb met.kind 3) (eqb met.kind 4) (eqb met.kind 5))
  where
    by : (two three four five : Bool) → RightIn manner slots
        (cond two (start_meant manner.choice manner.family slots met.body)
        (cond three (first_meant manner.dates manner.family met.body)
        (cond four (second_meant met.body) (cond five (script_meant manner.scripts met.body) none))))
    by true three four five = start_right manner.choice manner.dates manner.family manner.scripts slots met.body
    by false true four five = first_right manner.choice manner.dates manner.family manner.scripts slots met.body
    by false false true five = either manner slots (eqb (length met.body) 8) _ tt
    by false false false true = script_right manner.choice manner.dates manner.family manner.scripts slots met.body met.bytes
    by false false false false = tt

-- ---- what is said in a paper is bytes

pub met_spoken : (manner : Manner) (slots : Slots) (c : Message) → Met manner slots c → IsSpoken c
met_spoken manner slots c met = by c (met_right manner slots c met) where
  by : (m : Message) → Right manner slots m → IsSpoken m
  by (StartCommand start) right = tt
  by (FirstCommand first) right = tt
  by (SecondCommand second) right = tt
  by (ScriptCommand result template) right = right.1

each_spoken : (commands : List Message) → ((before : List Message) (c : Message) (after : List Message) → commands ≡ before ++ c ∷ after → IsSpoken c)
    → Spoken commands
each_spoken [] h = tt
each_spoken (c ∷ cs) h = (h [] c cs refl, each_spoken cs (λ before d after e. h (c ∷ before) d after (ap (λ (l : List Message). c ∷ l) e)))

-- THE TEMPLATES OF ALL THAT IS SAID BEFORE A PLACE
pub heard_spoken : (manner : Manner) (n : ℕ) (sitting : Sitting) (s : List ℕ) → Bytes s → (heard left : List Message)
    → (walk n manner sitting s).commands ≡ heard ++ left → Spoken heard
heard_spoken manner n sitting s h heard left whole =
    each_spoken heard (λ before c after e.
    met_spoken manner _ c (all-met manner n sitting s h before c (after ++ left)
    (whole ∙ ap (λ (l : List Message). l ++ left) e ∙ append_assoc before (c ∷ after) left)))
