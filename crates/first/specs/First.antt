-- First GENERATE AC (document 01, "First: the answer", with requests One, declines at First count, and Five, a date comes with it).
use Rattle.std.specs.Prelude.{ℕ}
use Rattle.rules.specs.declared.Place.{Place}
use Rattle.rules.specs.Rules.{Rules, profile_at}
use Rattle.purchase.specs.declared.Timing.{Timing}
use Rattle.purchase.specs.declared.Purchase.{Purchase}
use Rattle.checks.specs.Checks.{decision_bits}
use Rattle.command.specs.declared.First.{First}
use Rattle.cycles.specs.Cycles.{timing_of, dated}
use Rattle.state.specs.declared.Kind.{Kind}
use Rattle.cryptogram.specs.declared.Later.TheVariants.{NotRequested}
use Rattle.state.specs.declared.State.{State}
use Rattle.state.specs.declared.Outcome.{Outcome}
use Rattle.cryptogram.specs.Cryptogram.{limits_byte, verification, issuer_before}
pub use Rattle.decision.specs.Decision.{is_offline_only, is_arqc, is_tc}
unfoldable pub use Rattle.decision.specs.Decision.{decision, settled, asked, concluded}

abbrev pub purchase_of : First → Timing → Purchase
purchase_of first timing =
    record { amount = first.amount; currency = first.currency; timing = timing; cvm = first.cvm; cashback = first.cashback }

abbrev pub first_bits : Rules → State → Place → First → Timing → ℕ
first_bits rules state place first timing = decision_bits rules place state.values (purchase_of first timing) state.history

abbrev pub first_kind : Rules → State → Place → First → Timing → Kind
first_kind rules state place first timing =
    decision first.requested (first_bits rules state place first timing) (profile_at rules place).masks first.terminal

-- the tests, the decision, the CVR, and what follows
unfoldable pub first_answered : Rules → State → First → Place → Timing → Outcome
first_answered rules state first place timing =
    let limits = limits_byte (first_bits rules state place first timing) in
    let kind = first_kind rules state place first timing in
    concluded rules state place (purchase_of first timing) limits
    (verification rules state.history limits state.scripts kind NotRequested (issuer_before state.history)) kind

-- before the tests, and whatever First answers, the cycles of its date begin
unfoldable pub first_performed : Rules → State → First → Place → Outcome
first_performed rules state first place =
    first_answered rules (dated rules state first.when) first place (timing_of state.last first.when)
