-- What an auditor reads of scripts is what the card keeps of them, and what it reads of their writes is what they wrote. Assumes nothing.
use mathlib.Core.Path.{◌≡◌, refl, sym, ap, ap₂, ◌∙◌, subst}
use mathlib.Core.Bool.{Bool, true, false, cond, not, ◌&&◌, or-true, or-false}
use mathlib.Core.List.{List, [], ◌∷◌, ◌++◌}
use Prim.Native.Nat.{ℕ, ◌+◌, ◌%◌, ◌<◌}
use native.Mathlib.Omega.{arith}
use lib.Dec.{eqb, lit<}
use Rattle.refusal.specs.declared.Refusal.{Refusal}
use Rattle.iad.specs.declared.Cvr.{Cvr}
use Rattle.rules.specs.declared.Place.{Place}
use Rattle.rules.specs.Rules.{Rules}
use Rattle.object.specs.Object.{read_template}
use Rattle.cursor.specs.Cursor.{commands_of}
use Rattle.element.specs.declared.Write.{Write}
use Rattle.put_data.specs.PutData.{writes_of}
use Rattle.auditor.specs.Template.{writes_in, Bytes, EachBytes, InRange}
use Rattle.auditor.proofs.Commands.{same-commands}
use Rattle.auditor.proofs.Writes.{same_writes_lem}
use Rattle.auditor.proofs.Ranges.{commands-bytes, writes_in_range}
use Rattle.marks.specs.declared.Scripts.{Scripts}
use Rattle.script.specs.Script.{has_failed_here, fresh_scripts, started, heard, done, one_done, one_failed, Tried, tried_next, tried, template_tried, ran_of}
use Rattle.marks.proofs.Marks.{Says, fresh-says, done-says, failed-says, started-says, heard-says}
use Rattle.command.specs.declared.First.{First}
use Rattle.command.specs.declared.Second.{Second}
use Rattle.purchase.specs.declared.Purchase.{Purchase}
use Rattle.state.specs.declared.Answer.TheVariants.{Refused}
use Rattle.state.specs.declared.Kind.{Kind}
use Rattle.state.specs.declared.Kind.TheVariants.{Aac, Tc, Arqc}
use Rattle.state.specs.declared.Pending.{Pending}
use Rattle.state.specs.declared.State.{State}
use Rattle.state.specs.declared.Outcome.{Outcome}
use Rattle.cycles.specs.Cycles.{dated}
use Rattle.first.specs.First.{first_performed, first_answered, settled, asked, concluded}
use Rattle.closing.specs.Closing.{closed}
use Rattle.second.specs.Second.{is_unable, unable_performed, verified_performed, failed_performed, absent_performed, second_performed}
use Rattle.state.specs.Ruling.{refused}
use Rattle.scripting.specs.Scripting.{script_performed}
use Rattle.card.specs.Message.{Message, StartCommand, FirstCommand, SecondCommand, ScriptCommand, message_writes}
use Rattle.demands.specs.Setup.{Setup, byte_at}
use Rattle.demands.specs.Conversation.{Exchange, IsSpoken, is_accepted}
use Rattle.demands.specs.Scripts.{Trial, first_tried, trial, Remembered, trial_of, with_trial, clears, remembered_by, remembered, wrote_by}
use Rattle.demands.proofs.Dated.{same-scripts}
use Rattle.demands.proofs.Step.{Did, refused_it, started_it, took_first, took_second, took_script}
use Rattle.std.specs.Prelude.{Ok, Option, None, Some}

-- the card's byte says what is remembered
pub record Keeps (memory : Remembered) (scripts : Scripts) : Type 0 where
  pub says : Says memory.count memory.failed memory.here 0 scripts
  pub below : memory.count < 16

-- ---- commands that are tried

append_in_range : (ws vs : List Write) → InRange ws → InRange vs → InRange (ws ++ vs)
unfolding InRange
append_in_range [] vs a b = b
append_in_range (w ∷ ws) vs a b = (a.0, append_in_range ws vs a.1 b)

-- what the card's trial comes to
pub record Agree (memory : Remembered) (t : Trial) (tried-it : Tried) : Type 0 where
  pub writes : tried-it.writes ≡ t.writes
  pub keeps : Keeps (with_trial memory t) tried-it.scripts
  pub in_range_lem : InRange t.writes

-- a memory, read otherwise
again : {memory : Remembered} {scripts : Scripts} {n : ℕ} {f h : Bool} → Keeps memory scripts → memory.count ≡ n → memory.failed ≡ f
    → memory.here ≡ h
    → Keeps (record { count = n; failed = f; here = h }) scripts
again {n = n} keeps count failed here =
    record {
      says =
          record {
            count = keeps.says.count ∙ count;
            failed = keeps.says.failed ∙ failed;
            here = keeps.says.here ∙ here;
            rest = keeps.says.rest;
          };
      below = subst (λ k. k < 16) count keeps.below;
    }

done_keeps : {memory : Remembered} {scripts : Scripts} → Keeps memory scripts
    → Keeps (record { count = (memory.count + 1) % 16; failed = memory.failed; here = memory.here }) (one_done scripts)
done_keeps {memory} {scripts} keeps =
    let s = done-says scripts in
    record {
      says =
          record {
            count = s.count ∙ ap (λ n. (n + 1) % 16) keeps.says.count;
            failed = s.failed ∙ keeps.says.failed;
            here = s.here ∙ keeps.says.here;
            rest = s.rest ∙ keeps.says.rest;
          };
      below = omega arith;
    }

fails_keeps : {memory : Remembered} {scripts : Scripts} → Keeps memory scripts
    → Keeps (record { count = memory.count; failed = true; here = true }) (one_failed scripts)
fails_keeps {memory} {scripts} keeps =
    let s = failed-says scripts in
    record {
      says = record { count = s.count ∙ keeps.says.count; failed = s.failed; here = s.here; rest = s.rest ∙ keeps.says.rest };
      below = keeps.below;
    }

not_some : {ws : List Write} → None ≡ Some ws → ⊥
not_some e = let z : ◌≡◌ {A = ℕ} 0 1 = cc in absurd (omega arith)

module _ (verified : Bool) where
  next_agree : (cs : List (List ℕ)) (memory : Remembered) (scripts : Scripts) → Keeps memory scripts
      → (o : Option (List Write)) → ((ws : List Write) → o ≡ Some ws → InRange ws)
      → ((then : Remembered) → Keeps then (one_done scripts) → Agree then (trial (verified && not then.here) cs) (tried verified cs (one_done scripts)))
      → Agree memory (first_tried o (trial (verified && not memory.here) cs)) (tried_next (tried verified cs) scripts o)
  unfolding InRange
  next_agree cs memory scripts keeps None ranges rest =
      let below = keeps.below in
      record {
        writes = refl;
        keeps = again (fails_keeps keeps) (omega arith) (sym (or-true memory.failed)) (sym (or-true memory.here));
        in_range_lem = tt;
      }
  next_agree cs memory scripts keeps (Some ws) ranges rest =
      let then : Remembered = record { count = (memory.count + 1) % 16; failed = memory.failed; here = memory.here } in
      let more = rest then (done_keeps keeps) in
      record {
        writes = ap (λ vs. ws ++ vs) more.writes;
        keeps = again more.keeps (omega arith) refl refl;
        in_range_lem = append_in_range ws _ (ranges ws refl) more.in_range_lem;
      }

  agree : (cs : List (List ℕ)) → EachBytes cs → (memory : Remembered) (scripts : Scripts) → Keeps memory scripts
      → Agree memory (trial (verified && not memory.here) cs) (tried verified cs scripts)
  unfolding trial tried done EachBytes InRange
  agree [] bytes memory scripts keeps =
      let below = keeps.below in
      record {
        writes = refl;
        keeps = again keeps (omega arith) (sym (or-false memory.failed)) (sym (or-false memory.here));
        in_range_lem = tt;
      }
  agree (c ∷ cs) bytes memory scripts keeps =
      let may : Bool = verified && not memory.here in
      let is : cond (verified && not (has_failed_here scripts)) (writes_of c) None ≡ cond may (writes_in c) None =
      simp (keeps.says.here, same_writes_lem c bytes.0) in
      subst (λ o. Agree memory (first_tried (cond may (writes_in c) None) (trial may cs)) (tried_next (tried verified cs) scripts o)) (sym is)
      (next_agree cs memory scripts keeps (cond may (writes_in c) None) (in_range_lem may) (λ then k. agree cs bytes.1 then (one_done scripts) k))
    where
      in_range_lem : (b : Bool) (ws : List Write) → cond b (writes_in c) None ≡ Some ws → InRange ws
      in_range_lem true ws e = writes_in_range c bytes.0 ws (sym (same_writes_lem c bytes.0) ∙ e)
      in_range_lem false ws e = absurd (not_some e)

-- ---- a template that is read
pub template_agrees : (result : ℕ) (template : List ℕ) → Bytes template → read_template template ≡ Ok tt → (memory : Remembered) (scripts : Scripts)
    → Keeps memory scripts
    → Agree memory (trial_of result template memory) (template_tried (eqb result 1) scripts template)
unfolding template_tried
template_agrees result template bytes sound memory scripts keeps =
    subst (λ cs. Agree memory (trial (eqb result 1 && not memory.here) cs) (tried (eqb result 1) (commands_of template) scripts))
    (sym (same-commands template bytes sound))
    (agree (eqb result 1) (commands_of template) (commands-bytes template bytes) memory scripts keeps)

-- ---- a step

heard_keeps : {memory : Remembered} {scripts : Scripts} → Keeps memory scripts
    → Keeps (record { count = memory.count; failed = memory.failed && memory.here; here = memory.here }) (heard scripts)
heard_keeps {memory} {scripts} keeps =
    let s = heard-says scripts in
    let k = keeps.says in
    record {
      says = record { count = s.count ∙ k.count; failed = s.failed ∙ ap₂ ◌&&◌ k.failed k.here; here = s.here ∙ k.here; rest = s.rest ∙ k.rest };
      below = keeps.below;
    }

started_keeps : {memory : Remembered} {scripts : Scripts} → Keeps memory scripts
    → Keeps (record { count = memory.count; failed = memory.failed; here = false }) (started scripts)
started_keeps {memory} {scripts} keeps =
    let s = started-says scripts in
    let k = keeps.says in
    record {
      says = record { count = s.count ∙ k.count; failed = s.failed ∙ k.failed; here = s.here; rest = s.rest ∙ k.rest };
      below = keeps.below;
    }

module _ (setup : Setup) (rules : Rules) (required : not rules.required ≡ eqb (byte_at setup 2) 0) (state : State) (log : List Exchange)
    (keeps : Keeps (remembered setup log) state.scripts) where
  abbrev memory : Remembered
  memory = remembered setup log

  -- what is remembered then
  abbrev Then : Message → Outcome → Type 0
  Then command outcome = Keeps (remembered_by setup command outcome.answer memory) outcome.state.scripts

  refused_then : (command : Message) (r : Refusal) → Then command (refused state r)
  refused_then (StartCommand start) r = keeps
  refused_then (FirstCommand first) r = keeps
  refused_then (SecondCommand second) r = keeps
  refused_then (ScriptCommand result template) r = keeps

  concluded_then : (first : First) (place : Place) (purchase : Purchase) (limits : ℕ) (cvr : Cvr) (kind : Kind)
      → Then (FirstCommand first) (concluded rules (dated rules state first.when) place purchase limits cvr kind)
  unfolding settled asked concluded
  concluded_then first place purchase limits cvr kind = by kind where
    still : Keeps memory (dated rules state first.when).scripts
    still = subst (Keeps memory) (sym (same-scripts rules state first.when)) keeps

    by : (kind : Kind) → Then (FirstCommand first) (concluded rules (dated rules state first.when) place purchase limits cvr kind)
    by Tc = still
    by Aac = still
    by Arqc = still

  second_then : (second : Second) (pending : Pending) → Then (SecondCommand second) (second_performed rules state second pending)
  unfolding second_performed unable_performed verified_performed failed_performed absent_performed closed
  second_then second pending = by (is_unable second.code) refl (eqb second.issuer 1) refl (eqb second.issuer 2) refl where
    cleared : Remembered
    cleared = record { count = memory.count; failed = memory.failed && memory.here; here = memory.here }

    absent : (r : Bool) → Keeps (cond (not r) cleared memory) (cond r state.scripts (heard state.scripts))
    absent true = keeps
    absent false = heard_keeps keeps

    by : (u : Bool) → is_unable second.code ≡ u → (v : Bool) → eqb second.issuer 1 ≡ v → (f : Bool) → eqb second.issuer 2 ≡ f
        → Then (SecondCommand second) (cond u (unable_performed rules state second.requested pending)
        (cond v (verified_performed rules state second pending)
        (cond f (failed_performed rules state pending) (absent_performed rules state second.requested pending))))
    by true u v p f q = rw u keeps
    by false u true p f q = rw (u, p) (heard_keeps keeps)
    by false u false p true q = rw (u, p, q) keeps
    by false u false p false q = rw (u, p, q) (subst (λ z. Keeps (cond z cleared memory) (cond rules.required state.scripts (heard state.scripts))) required (absent rules.required))

  pub did_remember : {command : Message} {outcome : Outcome} → IsSpoken command → Did rules state command outcome → Then command outcome
  unfolding first_performed first_answered script_performed ran_of
  did_remember {command} spoken (refused_it r wrote) = refused_then command r
  did_remember spoken (started_it start place holds) = started_keeps keeps
  did_remember spoken (took_first first place is type small day) = concluded_then first place _ _ _ _
  did_remember spoken (took_second second pending is type issuer) = second_then second pending
  did_remember spoken (took_script result template sound wrote) =
      (template_agrees result template spoken sound memory state.scripts keeps).keeps

  -- and what was written
  pub did_write : {command : Message} {outcome : Outcome} → IsSpoken command → Did rules state command outcome
      → message_writes state command ≡ wrote_by command outcome.answer memory
  unfolding message_writes script_performed
  did_write {command} spoken (refused_it r wrote) = wrote ∙ nothing command where
    nothing : (command : Message) → [] ≡ wrote_by command (Refused r) memory
    nothing (StartCommand start) = refl
    nothing (FirstCommand first) = refl
    nothing (SecondCommand second) = refl
    nothing (ScriptCommand result template) = refl
  did_write spoken (started_it start place holds) = refl
  did_write spoken (took_first first place is type small day) = refl
  did_write spoken (took_second second pending is type issuer) = refl
  did_write spoken (took_script result template sound wrote) =
      wrote ∙ (template_agrees result template spoken sound memory state.scripts keeps).writes

  pub did_in_range : {command : Message} {outcome : Outcome} → IsSpoken command → Did rules state command outcome
      → InRange (wrote_by command outcome.answer memory)
  unfolding InRange script_performed
  did_in_range {command} spoken (refused_it r wrote) = nothing command where
    nothing : (command : Message) → InRange (wrote_by command (Refused r) memory)
    nothing (StartCommand start) = tt
    nothing (FirstCommand first) = tt
    nothing (SecondCommand second) = tt
    nothing (ScriptCommand result template) = tt
  did_in_range spoken (started_it start place holds) = tt
  did_in_range spoken (took_first first place is type small day) = tt
  did_in_range spoken (took_second second pending is type issuer) = tt
  did_in_range spoken (took_script result template sound wrote) =
      (template_agrees result template spoken sound memory state.scripts keeps).in_range_lem

-- a fresh card's
pub fresh_keeps : (setup : Setup) → Keeps (remembered setup []) fresh_scripts
unfolding remembered
fresh_keeps setup = record { says = fresh-says; below = lit< tt }

-- the count that is remembered stays below 16
pub count-below : (setup : Setup) (log : List Exchange) → (remembered setup log).count < 16
unfolding remembered
count-below setup [] = lit< tt
count-below setup (exchange ∷ older) = by exchange.command (count-below setup older) where
  before : Remembered
  before = remembered setup older

  either : (b : Bool) (a c : Remembered) → a.count < 16 → c.count < 16 → (cond b a c).count < 16
  either true a c p q = p
  either false a c p q = q

  by : (command : Message) → before.count < 16 → (remembered_by setup command exchange.answer before).count < 16
  by (StartCommand start) below = either (is_accepted exchange.answer) _ _ below below
  by (FirstCommand first) below = below
  by (SecondCommand second) below = either (clears setup second exchange.answer) _ _ below below
  by (ScriptCommand result template) below = either (is_accepted exchange.answer) (with_trial before (trial_of result template before)) _ (omega arith) below
