-- What a paper adds to the sheet of its class (document 02, Ten), read off its sitting: what the answers' lines show, and the offline approvals as
-- the auditor of `demands` finds them. Nothing here keeps a sale, asks what an event adds, or fills a cell.
use Rattle.std.specs.Prelude.{◌≡◌, Bool, cond, List, [], ◌∷◌, ◌++◌, ℕ, ◌≤◌, eqb, replicate}
use Rattle.refusal.specs.Refusal.{refusal_number}
use Rattle.iad.specs.declared.Iad.{Iad}
use Rattle.iad.specs.Iad.{written}
use Rattle.readback.specs.WellFormed.{octet}
use Rattle.state.specs.declared.Answer.{Answer}
use Rattle.state.specs.declared.Answer.TheVariants.{Refused, Started, Given, Done}
use Rattle.state.specs.State.{cid_of}
use Rattle.demands.specs.Setup.{Setup}
use Rattle.demands.specs.Conversation.{Exchange}
use Rattle.demands.specs.Audit.{approves, bought}
use Rattle.rows.specs.Whole.{IsInRange, IsPast}
use Rattle.spelling.specs.Faults.{OpenFault, Opens}
use Rattle.papers.specs.Papers.{setup_of, Accepted, commands_of, faulty}
use Rattle.papers.specs.Talk.{talk}
use Rattle.tallies.specs.Tallies.{Tally, answered, refused, approved}
use Rattle.class_sheet.specs.ClassSheet.{paper_tallies}

-- A LINE: a cryptogram's has its CID, 40 of a TC, 00 of an AAC and 80 of an ARQC, and the IAD's 32 bytes, the eighteenth of which is the profile
abbrev pub kind_shown : (cid : ℕ) → ℕ
kind_shown cid = cond (eqb cid 0x40) 0 (cond (eqb cid 0x00) 1 2)

abbrev pub profile_shown : Iad → ℕ
profile_shown iad = octet (written iad (replicate 32 0)) 17

-- what it counts: a refusal by its number, which is never 0, or a cryptogram by profile and kind
abbrev pub line_counts : Answer → List Tally
line_counts (Refused refusal) = refused (refusal_number refusal) ∷ []
line_counts (Started atc visits) = []
line_counts (Given kind atc iad) = answered (profile_shown iad) (kind_shown (cid_of kind)) ∷ []
line_counts Done = []

-- AN OFFLINE APPROVAL adds the amount of the transaction's First, unconverted, in that First's currency
abbrev pub approval : Setup → (older : List Exchange) → Exchange → List Tally
approval setup older exchange =
    let purchase = bought setup (exchange ∷ older) in
    cond (approves exchange.command exchange.answer) (approved purchase.currency purchase.amount.0 ∷ []) []

-- ALL THAT IS SAID in a sitting, the oldest first, behind what was said before, the newest first
unfoldable pub added_by : Setup → (older said : List Exchange) → List Tally
added_by setup older [] = []
added_by setup older (exchange ∷ more) = (line_counts exchange.answer ++ approval setup older exchange) ++ added_by setup (exchange ∷ older) more

-- a fault's line, behind it
abbrev pub fault_counts : (fault : Bool) → List Tally
fault_counts fault = cond fault (refused 9 ∷ []) []

-- EVERY PAPER: one that does not open adds one 9; one whose set-up has a field out of its range one 1; one whose log reaches past its data one 14;
-- an accepted one what is said in its sitting
pub data Adds (paper : List ℕ) : Type 0 where
  unread : OpenFault paper → paper_tallies paper ≡ refused 9 ∷ [] → Adds paper
  not_set_up : (version : ℕ) (body rest : List ℕ) → Opens paper version body rest → (IsInRange version body → ⊥)
      → paper_tallies paper ≡ refused 1 ∷ [] → Adds paper
  past_data : (version : ℕ) (body rest : List ℕ) → Opens paper version body rest → IsPast version body
      → paper_tallies paper ≡ refused 14 ∷ [] → Adds paper
  heard : Accepted paper
      → paper_tallies paper ≡ added_by (setup_of paper) [] (talk (setup_of paper) (commands_of paper)) ++ fault_counts (faulty paper) → Adds paper

-- WHAT HAS A CELL: profiles 1 to 124, kinds 0 to 2, refusals 1 to 19
abbrev pub InPlace : Tally → Type 0
InPlace (answered profile kind) = (1 ≤ profile) × (profile ≤ 124) × (kind ≤ 2)
InPlace (refused number) = (1 ≤ number) × (number ≤ 19)
InPlace (approved currency amount) = Unit

pub data AllInPlace : List Tally → Type 0 where
  none : AllInPlace []
  next : {tally : Tally} {more : List Tally} → InPlace tally → AllInPlace more → AllInPlace (tally ∷ more)
