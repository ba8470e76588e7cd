-- An issuer's script sent to a card: a ruling, then a performance (document 02, Twelve).
use Rattle.std.specs.Prelude.{ℕ, Bool, cond, List, [], eqb, ltb, Err, Ok, Result}
use Rattle.refusal.specs.declared.Refusal.TheVariants.{OutOfTurn, OutOfRange, Malformed, TooDeep}
use Rattle.state.specs.declared.Answer.TheVariants.{Done}
use Rattle.state.specs.declared.Phase.{Phase}
use Rattle.state.specs.declared.Phase.TheVariants.{Idle, Opened, Asked}
use Rattle.state.specs.declared.State.{State}
use Rattle.state.specs.declared.Outcome.{Outcome}
use Rattle.state.specs.Ruling.{Ruling, refuse, take, carried}
use Rattle.object.specs.Object.{read_template}
use Rattle.element.specs.declared.Write.{Write}
use Rattle.marks.specs.declared.Scripts.{Scripts}
use Rattle.script.specs.Script.{template_tried, ran_of}
use Rattle.object.specs.declared.Fault.{Fault}
use Rattle.object.specs.declared.Fault.TheVariants.{Malformed as NoTemplate}
use Rattle.object.specs.declared.Fault.TheVariants.{TooDeep as DeepTemplate}

-- 2 where First is due, 6 for a secure messaging result above 1, then 18 or 19 by its template. It goes on with whether the result is
-- "verified"
abbrev pub rule_reading : (verified : Bool) → Result Unit Fault → Ruling Bool
rule_reading verified (Ok done) = take verified
rule_reading verified (Err NoTemplate) = refuse Malformed
rule_reading verified (Err DeepTemplate) = refuse TooDeep

abbrev pub rule_script_fields : (result : ℕ) → (template : List ℕ) → Ruling Bool
rule_script_fields result template = cond (ltb 1 result) (refuse OutOfRange) (rule_reading (eqb result 1) (read_template template))

abbrev pub rule_script : Phase → (result : ℕ) → (template : List ℕ) → Ruling Bool
rule_script Idle result template = rule_script_fields result template
rule_script (Opened place) result template = refuse OutOfTurn
rule_script (Asked pending) result template = rule_script_fields result template

-- a script that is taken leaves all but values and what is kept of scripts; limits it writes into the rules
unfoldable pub script_performed : State → (template : List ℕ) → (verified : Bool) → Outcome
script_performed state template verified =
    let ran = ran_of state.values state.scripts verified template in
    record {
      state =
          record {
            values = ran.values;
            phase = state.phase;
            atc = state.atc;
            last = state.last;
            history = state.history;
            scripts = ran.scripts;
          };
      answer = Done;
    }

unfoldable pub script_taken : State → (result : ℕ) → (template : List ℕ) → Outcome
script_taken state result template = carried state (script_performed state template) (rule_script_fields result template)

unfoldable pub script_step : State → (result : ℕ) → (template : List ℕ) → Outcome
script_step state result template = carried state (script_performed state template) (rule_script state.phase result template)

-- what it writes; nothing where it is refused
abbrev pub writes_ruled : Scripts → (template : List ℕ) → Ruling Bool → List Write
writes_ruled scripts template (refuse refusal) = []
writes_ruled scripts template (take verified) = (template_tried verified scripts template).writes

unfoldable pub template_writes : State → (result : ℕ) → (template : List ℕ) → List Write
template_writes state result template = writes_ruled state.scripts template (rule_script_fields result template)

unfoldable pub script_writes : State → (result : ℕ) → (template : List ℕ) → List Write
script_writes state result template = writes_ruled state.scripts template (rule_script state.phase result template)
