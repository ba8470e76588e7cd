-- Each turn writes a record's line; when nothing is left the text stands.
use Prim.Native.Nat.{◌-◌}
use lib.ListN.{length}
use Rattle.rules.specs.Rules.{rules_of}
use Rattle.conversation.specs.Events.{words_from}
use Rattle.transcript.specs.Transcript.{rest_of}
use Rattle.transcript.proofs.Going.{Going}
use Rattle.transcript.proofs.put_records.Given as goal

abbrev pub invariant-records : goal.invariant-records
invariant-records l =
    Going l.words l.shape l.paper (rest_of (rules_of l.initial.words) l.shape l.initial.state l.paper l.start 1)
    (words_from (length l.paper) l.initial.words l.shape l.initial.state l.paper l.start) l.initial.room l.to l.room l.state
    l.at l.end l.number

abbrev pub decreases-records : goal.decreases-records
decreases-records l = length l.paper - l.at
