-- What the template of an issuer script does to a card (request Twelve; CPA 18.8 and 20): its commands are tried in order until one fails.
use Rattle.std.specs.Prelude.{ℕ, Bool, ◌&&◌, not, cond, Option, None, Some}
use mathlib.Core.List.{List, [], ◌∷◌, ◌++◌, foldl}
use Rattle.rules.specs.declared.Values.{Values}
use Rattle.rules.specs.Rules.{Rules}
use Rattle.cursor.specs.Cursor.{commands_of}
use Rattle.element.specs.declared.Write.{Write}
use Rattle.put_data.specs.PutData.{writes_of}
pub use Rattle.writes.specs.Writes.{values_with, rules_with, words_with}
unfoldable pub use Rattle.writes.specs.Writes.{value_in}
use Rattle.marks.specs.declared.Scripts.{Scripts}
pub use Rattle.marks.specs.Marks.{count_of, has_failed, has_failed_here, rest_of}
unfoldable pub use Rattle.marks.specs.Marks.{kept, fresh_scripts, one_done, one_failed, started, heard, marks_of}
use Rattle.script.specs.declared.Ran.{Ran}

-- WRITES in their order
abbrev pub values_after : Values → List Write → Values
values_after values ws = foldl values_with values ws

abbrev pub rules_after : Rules → List Write → Rules
rules_after rules ws = foldl rules_with rules ws

abbrev pub words_after : List ℕ → List Write → List ℕ
words_after words ws = foldl words_with words ws

-- A COMMAND: what it writes where it is done; none where it fails, which it does too if the secure messaging result is not "verified", or if one
-- has already failed since the last accepted Start
unfoldable pub done : (verified : Bool) → Scripts → List ℕ → Option (List Write)
done verified scripts command = cond (verified && not (has_failed_here scripts)) (writes_of command) None

-- the writes of one that does not fail
abbrev pub given : Option (List Write) → List Write
given None = []
given (Some ws) = ws

-- THE COMMANDS in order until one fails, the rest not tried: what those done write, which stays, and what the card keeps of scripts
pub record Tried : Type 0 where
  pub writes : List Write
  pub scripts : Scripts

abbrev pub behind : List Write → Tried → Tried
behind ws t = record { writes = ws ++ t.writes; scripts = t.scripts }

-- the next command, and the rest where it is done
abbrev pub tried_next : (rest : Scripts → Tried) → Scripts → Option (List Write) → Tried
tried_next rest scripts (Some ws) = behind ws (rest (one_done scripts))
tried_next rest scripts None = record { writes = []; scripts = one_failed scripts }

unfoldable pub tried : (verified : Bool) → List (List ℕ) → Scripts → Tried
tried verified [] scripts = record { writes = []; scripts = scripts }
tried verified (c ∷ cs) scripts = tried_next (tried verified cs) scripts (done verified scripts c)

-- A TEMPLATE on a card
unfoldable pub template_tried : (verified : Bool) → Scripts → List ℕ → Tried
template_tried verified scripts template = tried verified (commands_of template) scripts

unfoldable pub ran_of : Values → Scripts → (verified : Bool) → List ℕ → Ran
ran_of values scripts verified template =
    record {
      values = values_after values (template_tried verified scripts template).writes;
      scripts = (template_tried verified scripts template).scripts;
    }

unfoldable pub rules_run : Rules → Scripts → (verified : Bool) → List ℕ → Rules
rules_run rules scripts verified template = rules_after rules (template_tried verified scripts template).writes

unfoldable pub words_run : List ℕ → Scripts → (verified : Bool) → List ℕ → List ℕ
words_run words scripts verified template = words_after words (template_tried verified scripts template).writes
