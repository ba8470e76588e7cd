-- Second GENERATE AC (document 01, "Second: the answer").
use Rattle.std.specs.Prelude.{ℕ, ◌/◌, ◌%◌, Bool, true, false, cond, not, ◌||◌, ◌&&◌, eqb, leb}
use Rattle.rules.specs.Rules.{Rules, profile_at}
use Rattle.meters.specs.Meters.{offline, applied}
use Rattle.checks.specs.Checks.{decision_bits, meets_mask}
use Rattle.state.specs.declared.History.{History}
use Rattle.state.specs.State.{failed_in, unable_in}
use Rattle.command.specs.declared.Second.{Second}
use Rattle.cryptogram.specs.declared.Issuer.{Issuer}
use Rattle.state.specs.declared.Pending.{Pending}
use Rattle.state.specs.declared.State.{State}
use Rattle.state.specs.declared.Outcome.{Outcome}
use Rattle.marks.specs.Marks.{heard}
use Rattle.cryptogram.specs.Cryptogram.{issuer_before}
use Rattle.closing.specs.Closing.{closed, recovered, ordered}

-- Y3 (5933) or Z3 (5A33)
abbrev pub is_unable : ℕ → Bool
is_unable code = eqb code 0x5933 || eqb code 0x5A33

-- First's ADR with bit 3 set, and the MTA, accumulator and counter checks repeated
abbrev pub unable_bits : Rules → State → Pending → ℕ
unable_bits rules state pending =
    decision_bits rules pending.place state.values pending.purchase (unable_in pending.history)

abbrev pub issuer_unable : History → Issuer
issuer_unable history = record { unperformed = true; failed = history.failed; unable = true }

-- AAC if requested or if ADR meets Default; else TC, an offline approval
unfoldable pub unable_performed : Rules → State → ℕ → Pending → Outcome
unable_performed rules state requested pending =
    let place = pending.place in
    let approves = not (eqb requested 0 || meets_mask (unable_bits rules state pending) (profile_at rules place).masks.default) in
    closed rules state.atc pending approves (applied rules place state.values (offline approves pending.purchase))
    state.last (unable_in state.history) state.scripts (issuer_unable pending.history)

-- CSU byte 2
abbrev pub update_byte : ℕ → ℕ
update_byte csu = csu / 65536 % 256

-- verified: history bits 0, 2, 3, 4 are cleared, "go online next" becomes CSU byte 2 b4; TC if requested and b8 is set. A script that failed in an
-- earlier transaction is forgotten
unfoldable pub verified_performed : Rules → State → Second → Pending → Outcome
verified_performed rules state second pending =
    let update = update_byte second.csu in
    let approves = eqb second.requested 1 && leb 128 update in
    closed rules state.atc pending approves (ordered rules pending.place state.values pending.purchase update)
    (recovered pending.purchase.timing approves state.last)
    (record { uncompleted = false; online = eqb (update / 8 % 2) 1; failed = false; unable = false; missing = false })
    (heard state.scripts)
    (record { unperformed = false; failed = false; unable = false })

-- failed: history bit 2 is set; AAC
unfoldable pub failed_performed : Rules → State → Pending → Outcome
failed_performed rules state pending =
    closed rules state.atc pending false state.values state.last (failed_in state.history) state.scripts
    (record { unperformed = (issuer_before pending.history).unperformed; failed = true; unable = false })

-- absent: history bit 4 is set; TC if requested and authentication isn't required; when it isn't required, bit 0 is cleared, and a script that
-- failed in an earlier transaction is forgotten
unfoldable pub absent_performed : Rules → State → ℕ → Pending → Outcome
absent_performed rules state requested pending =
    let history = state.history in
    let approves = eqb requested 1 && not rules.required in
    closed rules state.atc pending approves state.values (recovered pending.purchase.timing approves state.last)
    (record {
      uncompleted = history.uncompleted && rules.required;
      online = history.online;
      failed = history.failed;
      unable = history.unable;
      missing = true;
    })
    (cond rules.required state.scripts (heard state.scripts))
    (record { unperformed = true; failed = pending.history.failed; unable = false })

unfoldable pub second_performed : Rules → State → Second → Pending → Outcome
second_performed rules state second pending =
    cond (is_unable second.code) (unable_performed rules state second.requested pending)
    (cond (eqb second.issuer 1) (verified_performed rules state second pending)
    (cond (eqb second.issuer 2) (failed_performed rules state pending) (absent_performed rules state second.requested pending)))
