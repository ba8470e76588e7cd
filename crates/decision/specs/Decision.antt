-- The decision of a First, and what follows from it (document 01, "First: the answer", with request One: declines at First count).
use Rattle.std.specs.Prelude.{ℕ, Bool, true, false, cond, ◌||◌, eqb}
use Rattle.iad.specs.declared.Cvr.{Cvr}
use Rattle.rules.specs.declared.Masks.{Masks}
use Rattle.rules.specs.declared.Place.{Place}
use Rattle.rules.specs.Rules.{Rules}
use Rattle.purchase.specs.declared.Purchase.{Purchase}
use Rattle.meters.specs.declared.Change.{Change}
use Rattle.meters.specs.Meters.{offline}
use Rattle.meters.specs.Meters.{applied}
use Rattle.checks.specs.Checks.{meets_mask}
use Rattle.state.specs.declared.Answer.TheVariants.{Given}
use Rattle.state.specs.declared.Kind.{Kind}
use Rattle.state.specs.declared.Kind.TheVariants.{Aac, Tc, Arqc}
use Rattle.state.specs.declared.Phase.TheVariants.{Idle, Asked}
use Rattle.state.specs.declared.State.{State}
use Rattle.state.specs.declared.Outcome.{Outcome}
use Rattle.state.specs.State.{uncompleted_in}
use Rattle.cryptogram.specs.Cryptogram.{sent_iad}

-- an offline-only terminal: type 13, 16, 23, 26 or 36 hex
abbrev pub is_offline_only : ℕ → Bool
is_offline_only terminal = eqb terminal 0x13 || eqb terminal 0x16 || eqb terminal 0x23 || eqb terminal 0x26 || eqb terminal 0x36

-- in order: AAC requested, AAC; ADR meets Decline, AAC; ARQC requested, ARQC; TC requested: on an offline-only terminal, AAC if ADR
-- meets Default; on any other, ARQC if ADR meets Online; else TC
unfoldable pub decision : ℕ → ℕ → Masks → ℕ → Kind
decision requested adr masks terminal =
    cond (eqb requested 0) Aac
    (cond (meets_mask adr masks.decline) Aac
    (cond (eqb requested 2) Arqc
    (cond (is_offline_only terminal)
    (cond (meets_mask adr masks.default) Aac Tc)
    (cond (meets_mask adr masks.online) Arqc Tc))))

-- a TC or an AAC moves the values and closes the transaction
unfoldable pub settled : Rules → State → Place → Cvr → Kind → Change → Outcome
settled rules state place cvr kind change =
    let values = applied rules place state.values change in
    record {
      state =
          record {
            values = values;
            phase = Idle;
            atc = state.atc;
            last = state.last;
            history = state.history;
            scripts = state.scripts;
          };
      answer = Given kind state.atc (sent_iad rules place values cvr);
    }

-- an ARQC moves no value and sets "last online not completed"
unfoldable pub asked : Rules → State → Place → Purchase → ℕ → Cvr → Outcome
asked rules state place purchase limits cvr =
    record {
      state =
          record {
            values = state.values;
            phase =
                Asked (record { purchase = purchase; limits = limits; place = place; history = state.history; scripts = state.scripts });
            atc = state.atc;
            last = state.last;
            history = uncompleted_in state.history;
            scripts = state.scripts;
          };
      answer = Given Arqc state.atc (sent_iad rules place state.values cvr);
    }

abbrev pub is_arqc : Kind → Bool
is_arqc Aac = false
is_arqc Tc = false
is_arqc Arqc = true

abbrev pub is_tc : Kind → Bool
is_tc Aac = false
is_tc Tc = true
is_tc Arqc = false

-- an ARQC leaves the transaction open; TC, an offline approval, and AAC, an offline decline, settle it
unfoldable pub concluded : Rules → State → Place → Purchase → ℕ → Cvr → Kind → Outcome
concluded rules state place purchase limits cvr kind =
    cond (is_arqc kind) (asked rules state place purchase limits cvr) (settled rules state place cvr kind (offline (is_tc kind) purchase))
