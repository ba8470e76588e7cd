-- Templates on one card, and what each leaves of it, by computation. Assumes nothing.
use mathlib.Core.Path.{◌≡◌, refl}
use mathlib.Core.Bool.{Bool, true, false}
use mathlib.Core.List.{List, [], ◌∷◌, ◌++◌, map}
use Prim.Native.Nat.{ℕ, zero, suc, ◌/◌, ◌%◌}
use Rattle.wire.specs.Wire.{number}
use Rattle.money.specs.declared.AccumulatorAmount.{AccumulatorAmount}
use Rattle.rules.specs.declared.Place.{Place}
use Rattle.rules.specs.declared.Place.TheVariants.{One, Two, Three, Four}
use Rattle.rules.specs.declared.Values.{Values}
use Rattle.rules.specs.Rules.{Rules, profile_of, blank_words, rules_of, accumulator_rule, counter_rule}
use Rattle.rules.specs.Limits.{with_accumulator_limits, with_counter_limits}
use Rattle.digits.specs.Digits.{are_pairs, pairs_value}
use Rattle.head.specs.Head as head
use Rattle.head.specs.Head.{value_size, head_formed, head_right}
use Rattle.cursor.specs.Cursor.{places_behind, places_from, cut, commands_of}
use Rattle.element.specs.Element.{length_size, length_at, value_written, limits_written, counts_written, meaning_of, head_size, element_size, element_meaning}
use Rattle.put_data.specs.PutData.{writes_by, is_put_data, list_place, mac_place, is_secured, elements_of, writes_of}
use Rattle.marks.specs.declared.Scripts.{Scripts}
use Rattle.script.specs.Script.{value_in, kept, fresh_scripts, one_done, one_failed, started, heard, marks_of, done, tried, template_tried, ran_of, rules_run}
use Rattle.script.proofs.Laws.{many_done}

-- n bytes, written as one number in hex
abbrev bytes : (n : ℕ) → ℕ → List ℕ
bytes zero x = []
bytes (suc n) x = bytes n (x / 256) ++ x % 256 ∷ []

abbrev amounts : List ℕ → List AccumulatorAmount
amounts = map (λ n. record { 0 = n })

-- the card: accumulators of 1, 2, 3, 4, and in no profile is anything active
abbrev start : Values
start = record { accumulators = amounts (1 ∷ 2 ∷ 3 ∷ 4 ∷ []); counters = 5 ∷ 6 ∷ 7 ∷ 8 ∷ []; cyclic = amounts (9 ∷ 10 ∷ []) }

-- the limits of accumulators 1 and 2 and of counter 1, in a profile
abbrev limits_in : Rules → Place → List ℕ
limits_in rules p =
    (accumulator_rule rules p 0).lower.0 ∷ (accumulator_rule rules p 0).upper.0
    ∷ (accumulator_rule rules p 1).lower.0 ∷ (accumulator_rule rules p 1).upper.0
    ∷ (counter_rule rules p 0).lower ∷ (counter_rule rules p 0).upper ∷ []

abbrev each : {A : Type 0} → (Place → A) → List A
each f = f One ∷ f Two ∷ f Three ∷ f Four ∷ []

-- a template of so many bytes, the result and what the card keeps before it; then what it leaves
pub record Row : Type 0 where
  pub size : ℕ
  pub hex : ℕ
  pub verified : Bool
  pub before : ℕ
  pub scripts : ℕ
  pub values : Values
  pub limits : List (List ℕ)

abbrev row : (size hex : ℕ) → (verified : Bool) → (before scripts : ℕ) → (accumulators limits : List ℕ) → Row
row size hex verified before scripts accumulators limits =
    record {
      size = size;
      hex = hex;
      verified = verified;
      before = before;
      scripts = scripts;
      values = record { accumulators = amounts accumulators; counters = start.counters; cyclic = start.cyclic };
      limits = each (λ p. limits);
    }

abbrev as_were : List ℕ
as_were = 1 ∷ 2 ∷ 3 ∷ 4 ∷ []

abbrev none : List ℕ
none = 0 ∷ 0 ∷ 0 ∷ 0 ∷ 0 ∷ 0 ∷ []

abbrev pub table : List Row
table =
    -- a value; limits of accumulator 2; limits of counter 1; all of them in one template
    row 26 0x711886160CDABF30118109DF01060000001234568E0411223344 true 0x00 0x10 (123456 ∷ 2 ∷ 3 ∷ 4 ∷ []) none
    ∷ row 32 0x721E861C0CDABF3017810FDF120C0000000050000000000100008E0411223344 true 0x00 0x10
    as_were (0 ∷ 0 ∷ 5000 ∷ 10000 ∷ 0 ∷ 0 ∷ [])
    ∷ row 22 0x711486120CDABF350D8105DF110207098E0411223344 true 0x00 0x10 as_were (0 ∷ 0 ∷ 0 ∷ 0 ∷ 7 ∷ 9 ∷ [])
    ∷ row 76 0x714A86160CDABF30118109DF01060000001234568E0411223344861C0CDABF3017810FDF110C0000002000000000003000008E041122334486120CDABF350D8105DF110207098E0411223344
    true 0x00 0x30 (123456 ∷ 2 ∷ 3 ∷ 4 ∷ []) (200000 ∷ 300000 ∷ 0 ∷ 0 ∷ 7 ∷ 9 ∷ [])
    -- one slot twice in a command: the last counts; a command without elements is done
    ∷ row 35 0x7121861F0CDABF301A8112DF0106000000000007DF01060000000000088E0411223344 true 0x00 0x10 (8 ∷ 2 ∷ 3 ∷ 4 ∷ []) none
    ∷ row 17 0x710F860D0CDABF300881008E0411223344 true 0x00 0x10 as_were none
    -- the second of three fails at its second element: what the first wrote stays, the third is not tried
    ∷ row 83 0x715186160CDABF30118109DF01060000000040008E0411223344861F0CDABF301A8112DF0106000000000007DF020600000000000A8E041122334486160CDABF30118109DF01060000000000098E0411223344
    true 0x00 0x19 (4000 ∷ 2 ∷ 3 ∷ 4 ∷ []) none
    -- not verified; one has failed in this transaction; one has failed in an earlier one
    ∷ row 26 0x711886160CDABF30118109DF01060000001234568E0411223344 false 0x00 0x09 as_were none
    ∷ row 26 0x711886160CDABF30118109DF01060000001234568E0411223344 true 0x59 0x59 as_were none
    ∷ row 26 0x711886160CDABF30118109DF01060000001234568E0411223344 true 0x58 0x68 (123456 ∷ 2 ∷ 3 ∷ 4 ∷ []) none
    -- 15 and one more; 15 and one that fails
    ∷ row 26 0x711886160CDABF30118109DF01060000001234568E0411223344 true 0xF0 0x00 (123456 ∷ 2 ∷ 3 ∷ 4 ∷ []) none
    ∷ row 4 0x71028600 true 0xF0 0xF9 as_were none
    -- no command
    ∷ row 2 0x7100 true 0x00 0x00 as_were none
    ∷ row 2 0x7200 false 0x00 0x00 as_were none
    ∷ []

pub run : Row → Row
run r =
    let template = bytes r.size r.hex in
    let before : Scripts = record { 0 = r.before } in
    let ran = ran_of start before r.verified template in
    record {
      size = r.size;
      hex = r.hex;
      verified = r.verified;
      before = r.before;
      scripts = ran.scripts.0;
      values = ran.values;
      limits = each (limits_in (rules_run (rules_of blank_words) before r.verified template));
    }

pub as_run : map run table ≡ table
unfolding run ran_of rules_run template_tried tried done kept one_done one_failed value_in commands_of cut places_from places_behind head_right head_formed value_size
    head.head_size head.length_size head.length_at number are_pairs pairs_value length_size length_at value_written limits_written counts_written meaning_of head_size element_size
    element_meaning writes_by is_put_data list_place mac_place is_secured elements_of writes_of rules_of profile_of with_accumulator_limits with_counter_limits
as_run = refl

-- CVR byte 4 after so many commands done, and after 15 and one that failed
pub shown : (map (λ n. marks_of (many_done n fresh_scripts)) (1 ∷ 15 ∷ 16 ∷ 17 ∷ []) ≡ 0x10 ∷ 0xF0 ∷ 0x00 ∷ 0x10 ∷ [])
    × (marks_of (one_failed (many_done 15 fresh_scripts)) ≡ 0xF8)
unfolding fresh_scripts many_done one_failed marks_of kept
shown = (refl, refl)

-- a byte; after a command done, one that failed, an accepted Start, an issuer that was heard; and CVR byte 4. The last has bits that no card has
abbrev pub bytes_of : ℕ → List ℕ
bytes_of n =
    let s : Scripts = record { 0 = n } in
    n ∷ (one_done s).0 ∷ (one_failed s).0 ∷ (started s).0 ∷ (heard s).0 ∷ marks_of s ∷ []

pub changed : map bytes_of (0x00 ∷ 0x50 ∷ 0x58 ∷ 0x59 ∷ 0xF9 ∷ 0xFF ∷ []) ≡
    (0x00 ∷ 0x10 ∷ 0x09 ∷ 0x00 ∷ 0x00 ∷ 0x00 ∷ [])
    ∷ (0x50 ∷ 0x60 ∷ 0x59 ∷ 0x50 ∷ 0x50 ∷ 0x50 ∷ [])
    ∷ (0x58 ∷ 0x68 ∷ 0x59 ∷ 0x58 ∷ 0x50 ∷ 0x58 ∷ [])
    ∷ (0x59 ∷ 0x69 ∷ 0x59 ∷ 0x58 ∷ 0x59 ∷ 0x58 ∷ [])
    ∷ (0xF9 ∷ 0x09 ∷ 0xF9 ∷ 0xF8 ∷ 0xF9 ∷ 0xF8 ∷ [])
    ∷ (0xFF ∷ 0x0F ∷ 0xFF ∷ 0xFE ∷ 0xFF ∷ 0xF8 ∷ [])
    ∷ []
unfolding one_done one_failed started heard marks_of kept
changed = refl
