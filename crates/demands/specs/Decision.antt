-- The checks and First's decision as document 01 states them ("Start and the checks", "First: the answer"), with requests Five and Thirteen,
-- from the set-up, the values and the history; nothing here knows of a card's step or of the rules that it decoded.
use Rattle.std.specs.Prelude.{◌≡◌, ℕ, ◌+◌, ◌-◌, ◌/◌, ◌≤◌, Bool, true, false, ◌&&◌, ◌||◌, List, [], ◌∷◌, ◌++◌, ltb, eqb}
use Rattle.state.specs.declared.History.{History}
use Rattle.command.specs.declared.First.{First}
use Rattle.purchase.specs.declared.Timing.{Timing}
use Rattle.purchase.specs.declared.Timing.TheVariants.{Undated, InOrder, DateError}
use Rattle.purchase.specs.declared.Purchase.{Purchase}
use Rattle.state.specs.declared.Kind.{Kind}
use Rattle.state.specs.declared.Kind.TheVariants.{Aac, Tc, Arqc}
use Rattle.demands.specs.Setup.{Setup, byte_at, number_at, family_byte}
use Rattle.purchase.specs.Meter.{Meter, accumulator, counter, cyclic}
use Rattle.demands.specs.Audit.{is_on, is_active, is_included, takes_part, takes_up, limits_of, upper_of, Conversion, comes_to, over, none, converted}
use Rattle.demands.specs.Audit.{worth_to}

abbrev pub lower_of : Setup → (profile : ℕ) → Meter → ℕ
lower_of setup profile meter = (limits_of setup profile meter).lower

-- a value plus a converted amount exceeds a limit; this sum isn't stopped, and over exceeds every limit
abbrev pub exceeds_with : (limit value : ℕ) → Conversion → Bool
exceeds_with limit value (comes_to n) = ltb limit (value + n)
exceeds_with limit value over = true
exceeds_with limit value none = false

-- one that is active exceeds a limit if its value does, or, with "include this transaction" and an amount that converts, if value plus
-- converted amount does, unless it is closed to the purchase. A counter likewise, with 1 added. A cyclic accumulator likewise, but not in a date
-- error.
abbrev pub exceeds : Setup → (profile : ℕ) → Purchase → (value limit : ℕ) → Meter → Bool
exceeds setup profile purchase value limit meter =
    takes_part purchase meter
    && (is_active setup profile meter
    && (ltb limit value || (takes_up setup purchase meter && is_included setup profile meter && exceeds_with limit value (worth_to setup purchase meter))))

-- MTA is on (13) and the amount, converted to its currency (14), exceeds it (16); without a conversion it doesn't
abbrev pub exceeds_mta : Setup → (profile : ℕ) → Purchase → Bool
exceeds_mta setup profile purchase =
    eqb (byte_at setup (profile + 13)) 1 && exceeds_with (number_at setup (profile + 16) 8) 0 (converted setup purchase (number_at setup (profile + 14) 2))

abbrev pub each_of : (ℕ → Meter) → (Meter → Bool) → List Bool
each_of meter test = test (meter 0) ∷ test (meter 1) ∷ test (meter 2) ∷ test (meter 3) ∷ []

abbrev pub above_lower : Setup → (profile : ℕ) → Purchase → (Meter → ℕ) → Meter → Bool
above_lower setup profile purchase value meter = exceeds setup profile purchase (value meter) (lower_of setup profile meter) meter

abbrev pub above_upper : Setup → (profile : ℕ) → Purchase → (Meter → ℕ) → Meter → Bool
above_upper setup profile purchase value meter = exceeds setup profile purchase (value meter) (upper_of setup profile meter) meter

abbrev pub is_error : Timing → Bool
is_error Undated = false
is_error InOrder = false
is_error (DateError date) = true

-- the profile checks cashback (at 9 and 1 for each profile before it in the tail of version 05) and the purchase has some
abbrev pub finds_cashback : Setup → (profile : ℕ) → Purchase → Bool
finds_cashback setup profile purchase = eqb (family_byte setup (9 + (profile - 52) / 107)) 1 && purchase.cashback

-- house order, bit 0 upward; the cyclic accumulators, the date error and cashback at the end
unfoldable pub flags : Setup → (profile : ℕ) → Purchase → (Meter → ℕ) → History → List Bool
flags setup profile purchase value history =
    history.uncompleted ∷ history.online ∷ history.failed ∷ history.unable ∷ history.missing ∷ exceeds_mta setup profile purchase
    ∷ each_of accumulator (above_lower setup profile purchase value)
    ++ each_of accumulator (above_upper setup profile purchase value)
    ++ each_of counter (above_lower setup profile purchase value)
    ++ each_of counter (above_upper setup profile purchase value)
    ++ above_upper setup profile purchase value (cyclic 0) ∷ above_upper setup profile purchase value (cyclic 1) ∷ is_error purchase.timing
    ∷ finds_cashback setup profile purchase
    ∷ []

-- some flag that is set has its bit in the mask
abbrev pub meets : List Bool → ℕ → Bool
meets [] mask = false
meets (flag ∷ flags) mask = (flag && is_on mask 1) || meets flags (mask / 2)

abbrev pub is_offline_only : ℕ → Bool
is_offline_only terminal = eqb terminal 0x13 || eqb terminal 0x16 || eqb terminal 0x23 || eqb terminal 0x26 || eqb terminal 0x36

-- the seven cases, in order: what is requested (0 AAC, 1 TC, 2 ARQC), whether the masks are met, whether the terminal is offline-only
pub data Decides (requested : ℕ) (online decline default offline : Bool) : Kind → Type 0 where
  aac_requested : requested ≡ 0 → Decides requested online decline default offline Aac
  meets-decline : 1 ≤ requested → decline ≡ true → Decides requested online decline default offline Aac
  arqc_requested : requested ≡ 2 → decline ≡ false → Decides requested online decline default offline Arqc
  meets-default : requested ≡ 1 → decline ≡ false → offline ≡ true → default ≡ true → Decides requested online decline default offline Aac
  offline-approves : requested ≡ 1 → decline ≡ false → offline ≡ true → default ≡ false → Decides requested online decline default offline Tc
  meets-online : requested ≡ 1 → decline ≡ false → offline ≡ false → online ≡ true → Decides requested online decline default offline Arqc
  online-approves : requested ≡ 1 → decline ≡ false → offline ≡ false → online ≡ false → Decides requested online decline default offline Tc

-- the table over flags and the masks that stand in the bytes behind the profile's number: Online, Decline, Default
abbrev pub FirstAnswers : Setup → (profile : ℕ) → First → List Bool → Kind → Type 0
FirstAnswers setup profile first fs kind =
    Decides first.requested (meets fs (number_at setup (profile + 1) 4)) (meets fs (number_at setup (profile + 5) 4))
    (meets fs (number_at setup (profile + 9) 4)) (is_offline_only first.terminal) kind
