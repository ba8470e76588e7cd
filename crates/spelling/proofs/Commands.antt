-- What a record's kind and body are: the spelling of what was sent, or a cause of refusal 9; and what the readers make of each. Assumes nothing.
use mathlib.Core.Path.{◌≡◌, refl, sym, ap, ◌∙◌}
use mathlib.Core.Bool.{Bool, true, false, cond, not, ◌&&◌}
use mathlib.Core.Logic.{◌⊎◌, inl, inr}
use mathlib.Core.List.{List, [], ◌∷◌, ◌++◌, append-nil}
use Prim.Native.Nat.{ℕ, zero, suc, ◌+◌, ◌-◌, ◌%◌, ◌^◌, ◌<◌, ◌≤◌}
use native.Mathlib.Omega.{arith}
use borrow.Author.Tests.{eq-eqb, ne_eqb, eqb-true, eqb-false}
use lib.Dec.{eqb}
use lib.ListN.{length, drop, drop_of_length-le, length-drop}
use lib.Seq.{drop-drop}
use Rattle.wire.specs.Wire.{byte, number}
use Rattle.wire.proofs.Numbers.{one}
use Rattle.calendar.specs.declared.Date.{Date}
use Rattle.calendar.specs.Calendar.{date_at}
use Rattle.cpace.specs.declared.Cvm.{Cvm}
use Rattle.cpace.specs.declared.Cvm.TheVariants.{OnlinePin, Signature, NoCvm}
use Rattle.cpace.specs.Cpace.{method_of, cvm_at, cashback_at}
use Rattle.refusal.specs.declared.Refusal.TheVariants.{Unreadable}
use Rattle.slot.specs.declared.Slots.{Slots}
use Rattle.shape.specs.declared.Family.{Family}
use Rattle.shape.specs.declared.Family.TheVariants.{Cpa, Cpace}
use Rattle.command.specs.declared.First.{First}
use Rattle.command.specs.declared.Second.{Second}
use Rattle.command.specs.Command.{plain_length, when_of, start_of, first_of, second_of, command_of, start_selected, selecting_of}
use Rattle.command.specs.Command as C
use Rattle.card.specs.Message.{FirstCommand, SecondCommand}
use Rattle.spelling.specs.Spelling.{Bytes, big, Interface, unsaid, on, Presented, unshown, shown, Sent, names, brings, first, first_on, second}
use Rattle.spelling.specs.Spelling.{script, kind_of, start_bytes, presented_bytes, first_bytes, date_bytes, body_of, Choice, by_name, by_file}
use Rattle.spelling.specs.Spelling.{Dates, undated, dated, CardFamily, cpa, cpace, Scripting, unscripted, scripted, Manner}
use Rattle.spelling.specs.Spelling.{FitFirst, FitDate, FitInterface, FitPresented, Fits}
use Rattle.spelling.specs.Spelling.{cvm_of, cashback_of, first_sent, stands_for}
use Rattle.spelling.specs.Faults.{start_length, first_length, last_kind}
use Rattle.spelling.specs.Sitting.{Read, sends, refuses, command_read, script_read}
use Rattle.spelling.proofs.Numbers.{no_bytes, number_small, bytes_drop, big-at, peel}
use Rattle.std.specs.Prelude.{Err, None, Option, Result, Some}
use Rattle.command.specs.declared.Command.{Command}
use Rattle.refusal.specs.declared.Refusal.{Refusal}
use Rattle.shape.specs.Shape.{span}
use Rattle.shape.specs.declared.Span.{Span}

abbrev pub of : Choice → Dates → CardFamily → Scripting → Manner
of choice dates family scripts = record { choice = choice; dates = dates; family = family; scripts = scripts }

-- what reads a record where profiles are chosen so, dates given so, and the card is of that family; where the tails stand is nothing to it
abbrev pub dating_of : Dates → Option Span
dating_of undated = None
dating_of dated = Some (span 0 0)

abbrev pub family_of : CardFamily → Family
family_of cpa = Cpa
family_of cpace = Cpace 0 0

abbrev read_as : Choice → Dates → CardFamily → Slots → ℕ → List ℕ → Result Command Refusal
read_as by_name dates family slots kind body = command_of (dating_of dates) (family_of family) kind body
read_as (by_file file entries) dates family slots kind body = selecting_of (dating_of dates) (family_of family) slots file entries kind body

abbrev pub read_by : Manner → Slots → ℕ → List ℕ → Result Command Refusal
read_by manner slots kind body = read_as manner.choice manner.dates manner.family slots kind body

-- and what it is read as: where scripts are on, one of kind 5 is a script
abbrev pub is_scripted : Scripting → Bool
is_scripted unscripted = false
is_scripted scripted = true

abbrev pub hears : Manner → Slots → ℕ → List ℕ → Read
hears manner slots kind body =
    cond (eqb kind 5 && is_scripted manner.scripts) (script_read body) (command_read (read_by manner slots kind body))

-- a Start aside, a record is read alike however profiles are chosen
pub not_start : (manner : Manner) (slots : Slots) (kind : ℕ) (body : List ℕ) → (kind ≡ 2 → ⊥)
    → read_by manner slots kind body ≡ command_of (dating_of manner.dates) (family_of manner.family) kind body
unfolding selecting_of
not_start manner slots kind body n = by manner.choice where
  by : (choice : Choice)
      → read_as choice manner.dates manner.family slots kind body ≡ command_of (dating_of manner.dates) (family_of manner.family) kind body
  by by_name = refl
  by (by_file file entries) = rw (ne_eqb kind 2 n)

-- ---- what is sent is read

date-is : {a b c x y z : ℕ} → a ≡ x → b ≡ y → c ≡ z
    → ◌≡◌ {A = Date} (record { year = a; month = b; day = c }) (record { year = x; month = y; day = z })
date-is p q r = λ i. record { year = p i; month = q i; day = r i }

abbrev first_as : (a b c d : ℕ) → Option Date → Cvm → Bool → First
first_as a b c d when cvm cashback =
    record { requested = a; amount = record { 0 = b }; currency = c; terminal = d; when = when; cvm = cvm; cashback = cashback }

first-is : {a b c d w x y z : ℕ} {m n : Option Date} {v u : Cvm} {k l : Bool} → a ≡ w → b ≡ x → c ≡ y → d ≡ z → m ≡ n → v ≡ u → k ≡ l
    → first_as a b c d m v k ≡ first_as w x y z n u l
first-is p q r s t e f = λ i. first_as (p i) (q i) (r i) (s i) (t i) (e i) (f i)

second_is : {a b c d w x y z : ℕ} → a ≡ w → b ≡ x → c ≡ y → d ≡ z
    → ◌≡◌ {A = Second} (record { requested = a; code = b; issuer = c; csu = d }) (record { requested = w; code = x; issuer = y; csu = z })
second_is p q r s = λ i. record { requested = p i; code = q i; issuer = r i; csu = s i }

as_byte : (s : List ℕ) (at n : ℕ) → number s at 1 ≡ n → byte s at ≡ n
as_byte s at n e = sym (one s at) ∙ e

module _ (a b c d : ℕ) where
  abbrev second_body : List ℕ
  second_body = big 1 a ++ big 2 b ++ big 1 c ++ big 4 d

  abbrev FirstIn : List ℕ → Type 0
  FirstIn s = (number s 0 1 ≡ a) × (number s 1 8 ≡ b) × (number s 9 2 ≡ c) × (number s 11 1 ≡ d)

  first_read : (behind : List ℕ) → FitFirst a b c d → FirstIn (first_bytes a b c d behind)
  unfolding big
  first_read behind h =
      let s = first_bytes a b c d behind in
      (big-at s 0 1 a _ refl h.0, big-at s 1 8 b _ refl h.1, big-at s 9 2 c _ refl h.2, big-at s 11 1 d behind refl h.3)

  second-read : a < 256 → b < 256 ^ 2 → c < 256 → d < 256 ^ 4
      → (number second_body 0 1 ≡ a) × (number second_body 1 2 ≡ b) × (number second_body 3 1 ≡ c) × (number second_body 4 4 ≡ d)
  unfolding big
  second-read ha hb hc hd =
      (big-at second_body 0 1 a _ refl ha, big-at second_body 1 2 b _ refl hb, big-at second_body 3 1 c _ refl hc, big-at second_body 4 4 d [] refl hd)

  -- the date behind a First's other fields
  date-read : (date : Date) (behind : List ℕ) → FitDate date
      → (number (first_bytes a b c d (date_bytes date ++ behind)) 12 1 ≡ date.year)
      × (number (first_bytes a b c d (date_bytes date ++ behind)) 13 1 ≡ date.month)
      × (number (first_bytes a b c d (date_bytes date ++ behind)) 14 1 ≡ date.day)
  unfolding big
  date-read date behind h =
      let s = first_bytes a b c d (date_bytes date ++ behind) in
      (big-at s 12 1 date.year _ refl h.0, big-at s 13 1 date.month _ refl h.1, big-at s 14 1 date.day behind refl h.2)

-- and what is presented behind them
abbrev pub Shows : List ℕ → (at r1 r2 r3 cashback : ℕ) → Type 0
Shows s at r1 r2 r3 cashback =
    (number s at 1 ≡ r1) × (number s (at + 1) 1 ≡ r2) × (number s (at + 2) 1 ≡ r3) × (number s (at + 3) 6 ≡ cashback)

module _ (s : List ℕ) (at r1 r2 r3 cashback : ℕ) where
  shown_read_lem : drop at s ≡ presented_bytes (shown r1 r2 r3 cashback) → FitPresented cpace (shown r1 r2 r3 cashback) → Shows s at r1 r2 r3 cashback
  unfolding big
  shown_read_lem e h =
      let past : (n : ℕ) → drop (at + n) s ≡ drop n (presented_bytes (shown r1 r2 r3 cashback)) = λ n. sym (drop-drop n at s) ∙ ap (drop n) e in (
        big-at s at 1 r1 _ e h.0,
        big-at s (at + 1) 1 r2 _ (past 1) h.1,
        big-at s (at + 2) 1 r3 _ (past 2) h.2,
        big-at s (at + 3) 6 cashback [] (past 3) h.3,
      )

  pub cvm_read : Shows s at r1 r2 r3 cashback → cvm_at s at ≡ cvm_of (shown r1 r2 r3 cashback)
  unfolding cvm_at
  cvm_read r = rw (as_byte s at r1 r.0, as_byte s (at + 2) r3 r.2) (by (eqb r3 0)) where
    by : (b : Bool) → cond b (method_of r1) NoCvm ≡ cond (b && eqb (r1 % 64) 0x02) OnlinePin (cond (b && eqb (r1 % 64) 0x1E) Signature NoCvm)
    by true = refl
    by false = refl

  pub cashback_read_lem : Shows s at r1 r2 r3 cashback → cashback_at s (at + 3) ≡ cashback_of (shown r1 r2 r3 cashback)
  unfolding cashback_at
  cashback_read_lem r = rw r.3 (by cashback) where
    by : (n : ℕ) → not (eqb n 0) ≡ cashback_of (shown r1 r2 r3 n)
    by zero = refl
    by (suc n) = rw (ne_eqb (suc n) 0 (λ e. omega arith))

module _ (dates : Dates) (s : List ℕ) where
  abbrev place : ℕ
  place = plain_length (dating_of dates)

  -- what is presented behind a First's other fields is read, and there is no more
  abbrev Presents : CardFamily → Presented → Type 0
  Presents family p =
      (length s ≡ C.first_length (dating_of dates) (family_of family)) × (C.cvm_of (dating_of dates) (family_of family) s ≡ cvm_of p)
      × (C.cashback_of (dating_of dates) (family_of family) s ≡ cashback_of p)

  presented_read : (family : CardFamily) (p : Presented) → drop place s ≡ presented_bytes p → length s ≡ place + length (presented_bytes p)
      → FitPresented family p → Presents family p
  unfolding big
  presented_read cpa unshown e l h = (omega (arith, l), refl, refl)
  presented_read cpa (shown r1 r2 r3 cashback) e l h = absurd h
  presented_read cpace unshown e l h = absurd h
  presented_read cpace (shown r1 r2 r3 cashback) e l h =
      let r = shown_read_lem s place r1 r2 r3 cashback e h in
      (l, cvm_read s place r1 r2 r3 cashback r, cashback_read_lem s place r1 r2 r3 cashback r)

  first_taken_lem : (family : CardFamily) (when : Option Date) (a b c d : ℕ) (p : Presented) → FirstIn a b c d s → when_of (dating_of dates) s ≡ when
      → Presents family p → command_read (command_of (dating_of dates) (family_of family) 3 s) ≡ sends (first_sent when a b c d p)
  unfolding command_of first_of
  first_taken_lem family when a b c d p r w q =
      rw (eq-eqb (length s) (C.first_length (dating_of dates) (family_of family)) q.0)
      (ap (λ (f : First). sends (FirstCommand f)) (first-is (as_byte s 0 a r.0) r.1 r.2 (as_byte s 11 d r.3) w q.1 q.2))

second-taken : (dating : Option Span) (family : Family) (a b c d : ℕ) → a < 256 → b < 256 ^ 2 → c < 256 → d < 256 ^ 4
    → command_read (command_of dating family 4 (second_body a b c d)) ≡ sends (SecondCommand (record { requested = a; code = b; issuer = c; csu = d }))
unfolding command_of second_of big
second-taken dating family a b c d ha hb hc hd =
    let r = second-read a b c d ha hb hc hd in
    ap (λ (f : Second). sends (SecondCommand f))
    (second_is (as_byte (second_body a b c d) 0 a r.0) r.1 (as_byte (second_body a b c d) 3 c r.2) r.3)

pub taken : (manner : Manner) (slots : Slots) (x : Sent) → Fits manner x → hears manner slots (kind_of x) (body_of x) ≡ sends (stands_for manner slots x)
unfolding Fits kind_of body_of stands_for command_of selecting_of start_selected start_of date_at big
taken manner slots x h = by manner.choice manner.dates manner.family manner.scripts x h where
  by : (choice : Choice) (dates : Dates) (family : CardFamily) (scripts : Scripting) (x : Sent) → Fits (of choice dates family scripts) x
      → hears (of choice dates family scripts) slots (kind_of x) (body_of x) ≡ sends (stands_for (of choice dates family scripts) slots x)
  by by_name dates cpa scripts (names unsaid profile) h = let small : profile % 256 ≡ profile = omega arith in rw small
  by by_name dates cpa scripts (names (on interface) profile) h = absurd h.0
  by by_name dates cpace scripts (names unsaid profile) h = absurd h.0
  by by_name dates cpace scripts (names (on interface) profile) h =
      let small : profile % 256 ≡ profile = omega arith in
      let little : interface % 256 ≡ interface = omega arith in
      rw (small, little)
  by by_name dates family scripts (brings interface terminal) h = absurd h
  by (by_file file entries) dates family scripts (names interface profile) h = absurd h
  by (by_file file entries) dates cpa scripts (brings unsaid terminal) h = refl
  by (by_file file entries) dates cpa scripts (brings (on interface) terminal) h = absurd h.0
  by (by_file file entries) dates cpace scripts (brings unsaid terminal) h = absurd h.0
  by (by_file file entries) dates cpace scripts (brings (on interface) terminal) h =
      let little : interface % 256 ≡ interface = omega arith in
      rw (little, ne_eqb (suc (length terminal)) 0 (λ e. omega arith))
  by choice dated family scripts (first a b c d p) h = absurd h
  by choice undated family scripts (first_on date a b c d p) h = absurd h
  by choice undated family scripts (first a b c d p) h =
      let s = first_bytes a b c d (presented_bytes p) in
      ap command_read (not_start (of choice undated family scripts) slots 3 s (λ e. omega arith))
      ∙ first_taken_lem undated s family None a b c d p (first_read a b c d (presented_bytes p) h.0) refl
      (presented_read undated s family p refl (omega arith) h.1)
  by choice dated family scripts (first_on date a b c d p) h =
      let behind = date_bytes date ++ presented_bytes p in
      let s = first_bytes a b c d behind in
      let t = date-read a b c d date (presented_bytes p) h.1 in
      ap command_read (not_start (of choice dated family scripts) slots 3 s (λ e. omega arith))
      ∙ first_taken_lem dated s family (Some date) a b c d p (first_read a b c d behind h.0)
      (ap Some (date-is (as_byte s 12 date.year t.0) (as_byte s 13 date.month t.1) (as_byte s 14 date.day t.2)))
      (presented_read dated s family p refl (omega arith) h.2)
  by choice dates family scripts (second a b c d) h =
      ap command_read (not_start (of choice dates family scripts) slots 4 (second_body a b c d) (λ e. omega arith))
      ∙ second-taken (dating_of dates) (family_of family) a b c d h.0 h.1 h.2 h.3
  by choice dates family unscripted (script result template) h = absurd h
  by choice dates family scripted (script result template) h = let small : result % 256 ≡ result = omega arith in rw small

-- ---- in one way

-- what would be sent to a card of a family: the interface before a Start's other bytes, and what a First presents from a place on
abbrev interface_from : CardFamily → List ℕ → Interface
interface_from cpa body = unsaid
interface_from cpace body = on (number body 0 1)

abbrev behind-from : CardFamily → List ℕ → List ℕ
behind-from cpa body = body
behind-from cpace body = drop 1 body

abbrev presented_from : CardFamily → (at : ℕ) → List ℕ → Presented
presented_from cpa at body = unshown
presented_from cpace at body = shown (number body at 1) (number body (at + 1) 1) (number body (at + 2) 1) (number body (at + 3) 6)

abbrev start-from : Choice → CardFamily → List ℕ → Sent
start-from by_name family body = names (interface_from family body) (number (behind-from family body) 0 1)
start-from (by_file file entries) family body = brings (interface_from family body) (behind-from family body)

abbrev first-from : Dates → CardFamily → List ℕ → Sent
first-from undated family body =
    first (number body 0 1) (number body 1 8) (number body 9 2) (number body 11 1) (presented_from family 12 body)
first-from dated family body =
    first_on (record { year = number body 12 1; month = number body 13 1; day = number body 14 1 })
    (number body 0 1) (number body 1 8) (number body 9 2) (number body 11 1) (presented_from family 15 body)

abbrev second_from : List ℕ → Sent
second_from body = second (number body 0 1) (number body 1 2) (number body 3 1) (number body 4 4)

abbrev script-from : List ℕ → Sent
script-from body = script (number body 0 1) (drop 1 body)

-- what kind and body are the spelling of
sent-from : Manner → ℕ → List ℕ → Sent
sent-from manner kind body =
    cond (eqb kind 3) (first-from manner.dates manner.family body)
    (cond (eqb kind 4) (second_from body) (cond (eqb kind 5) (script-from body) (start-from manner.choice manner.family body)))

start_back : (family : CardFamily) (interface : Interface) (behind : List ℕ) → FitInterface family interface
    → (interface_from family (start_bytes interface behind) ≡ interface) × (behind-from family (start_bytes interface behind) ≡ behind)
unfolding big
start_back cpa unsaid behind h = (refl, refl)
start_back cpa (on interface) behind h = absurd h
start_back cpace unsaid behind h = absurd h
start_back cpace (on interface) behind h = (ap on (big-at (start_bytes (on interface) behind) 0 1 interface behind refl h), refl)

presented_back : (family : CardFamily) (s : List ℕ) (at : ℕ) (p : Presented) → drop at s ≡ presented_bytes p → FitPresented family p
    → presented_from family at s ≡ p
presented_back cpa s at unshown e h = refl
presented_back cpa s at (shown r1 r2 r3 cashback) e h = absurd h
presented_back cpace s at unshown e h = absurd h
presented_back cpace s at (shown r1 r2 r3 cashback) e h = let r = shown_read_lem s at r1 r2 r3 cashback e h in cc

name-read : (profile : ℕ) → profile < 256 → number (big 1 profile) 0 1 ≡ profile
unfolding big
name-read profile h = big-at (big 1 profile) 0 1 profile [] refl h

back : (manner : Manner) (x : Sent) → Fits manner x → sent-from manner (kind_of x) (body_of x) ≡ x
unfolding Fits kind_of body_of sent-from big
back manner x h = by manner.choice manner.dates manner.scripts x h where
  by : (choice : Choice) (dates : Dates) (scripts : Scripting) (x : Sent) → Fits (of choice dates manner.family scripts) x
      → sent-from (of choice dates manner.family scripts) (kind_of x) (body_of x) ≡ x
  by by_name dates scripts (names interface profile) h =
      let r = start_back manner.family interface (big 1 profile) h.0 in
      let name = name-read profile h.1 in
      cc
  by by_name dates scripts (brings interface terminal) h = absurd h
  by (by_file file entries) dates scripts (names interface profile) h = absurd h
  by (by_file file entries) dates scripts (brings interface terminal) h = let r = start_back manner.family interface terminal h.0 in cc
  by choice undated scripts (first a b c d p) h =
      let r = first_read a b c d (presented_bytes p) h.0 in
      let q = presented_back manner.family (first_bytes a b c d (presented_bytes p)) 12 p refl h.1 in
      cc
  by choice dated scripts (first a b c d p) h = absurd h
  by choice undated scripts (first_on date a b c d p) h = absurd h
  by choice dated scripts (first_on date a b c d p) h =
      let behind = date_bytes date ++ presented_bytes p in
      let r = first_read a b c d behind h.0 in
      let t = date-read a b c d date (presented_bytes p) h.1 in
      let same = date-is t.0 t.1 t.2 in
      let q = presented_back manner.family (first_bytes a b c d behind) 15 p refl h.2 in
      cc
  by choice dates scripts (second a b c d) h = let r = second-read a b c d h.0 h.1 h.2 h.3 in cc
  by choice dates unscripted (script result template) h = absurd h
  by choice dates scripted (script result template) h =
      ap (λ (n : ℕ). script n template) (big-at (big 1 result ++ template) 0 1 result template refl h.0)

pub one-sent : (manner : Manner) (x y : Sent) → Fits manner x → Fits manner y → kind_of x ≡ kind_of y → body_of x ≡ body_of y → x ≡ y
one-sent manner x y h k p q = sym (back manner x h) ∙ rw (p, q) (back manner y k)

-- ---- what is read was sent

-- why kind and body are no command
pub data Wrong (manner : Manner) (kind : ℕ) (body : List ℕ) : Type 0 where
  a_setup : kind ≡ 1 → Wrong manner kind body
  no_command : (kind ≡ 0) ⊎ (last_kind manner.scripts < kind) → Wrong manner kind body
  bad_start : kind ≡ 2 → manner.choice ≡ by_name → (length body ≡ start_length manner.family → ⊥) → Wrong manner kind body
  bad_empty : kind ≡ 2 → body ≡ [] → manner.family ≡ cpace → Wrong manner kind body
  bad_first : kind ≡ 3 → (length body ≡ first_length manner.dates manner.family → ⊥) → Wrong manner kind body
  bad_second : kind ≡ 4 → (length body ≡ 8 → ⊥) → Wrong manner kind body
  bad_script : kind ≡ 5 → body ≡ [] → manner.scripts ≡ scripted → Wrong manner kind body

pub data Meaning (manner : Manner) (kind : ℕ) (body : List ℕ) : Type 0 where
  sent : (x : Sent) → Fits manner x → kind ≡ kind_of x → body ≡ body_of x → Meaning manner kind body
  wrong : Wrong manner kind body → Meaning manner kind body

-- the last kind that is known is 4 or 5
last-kind : (scripts : Scripting) → (4 ≤ last_kind scripts) × (last_kind scripts ≤ 5)
last-kind unscripted = (omega arith, omega arith)
last-kind scripted = (omega arith, omega arith)

-- how many bytes only a CPACE card is sent
abbrev interface_length : CardFamily → ℕ
interface_length cpa = 0
interface_length cpace = 1

abbrev presented_length : CardFamily → ℕ
presented_length cpa = 0
presented_length cpace = 9

start_is : (family : CardFamily) → start_length family ≡ interface_length family + 1
start_is cpa = refl
start_is cpace = refl

first_length_is : (dates : Dates) (family : CardFamily) → first_length dates family ≡ plain_length (dating_of dates) + presented_length family
first_length_is undated cpa = refl
first_length_is undated cpace = refl
first_length_is dated cpa = refl
first_length_is dated cpace = refl

name-there : (s : List ℕ) → Bytes s → length s ≡ 1 → s ≡ big 1 (number s 0 1)
name-there s bytes h = cc (peel s bytes 0 1 (omega arith), drop_of_length-le s {i = 1} (omega arith), append-nil (big 1 (number s 0 1)))

module _ (body : List ℕ) (bytes : Bytes body) where
  abbrev at : ℕ → ℕ → ℕ
  at place n = number body place n

  abbrev small : (place n : ℕ) → at place n < 256 ^ n
  small place n = number_small body bytes place n

  -- a Start's interface
  interface_fits : (family : CardFamily) → FitInterface family (interface_from family body)
  interface_fits cpa = tt
  interface_fits cpace = small 0 1

  start-there : (family : CardFamily) → interface_length family ≤ length body
      → body ≡ start_bytes (interface_from family body) (behind-from family body)
  start-there cpa h = refl
  start-there cpace h = peel body bytes 0 1 h

  behind-bytes : (family : CardFamily) → Bytes (behind-from family body)
  behind-bytes cpa = bytes
  behind-bytes cpace = bytes_drop 1 body bytes

  behind_length : (family : CardFamily) → length (behind-from family body) ≡ length body - interface_length family
  behind_length cpa = omega arith
  behind_length cpace = length-drop 1 body

  -- a First's fields
  abbrev first_there : List ℕ → List ℕ
  first_there behind = first_bytes (at 0 1) (at 1 8) (at 9 2) (at 11 1) behind

  fields-there : 12 ≤ length body → body ≡ first_there (drop 12 body)
  unfolding big
  fields-there h =
      cc (peel body bytes 0 1 (omega arith), peel body bytes 1 8 (omega arith), peel body bytes 9 2 (omega arith), peel body bytes 11 1 (omega arith))

  fields-small : FitFirst (at 0 1) (at 1 8) (at 9 2) (at 11 1)
  fields-small = (small 0 1, small 1 8, small 9 2, small 11 1)

  -- the date that would stand there
  abbrev date : Date
  date = record { year = at 12 1; month = at 13 1; day = at 14 1 }

  date-there : 15 ≤ length body → drop 12 body ≡ date_bytes date ++ drop 15 body
  unfolding big
  date-there h = cc (peel body bytes 12 1 (omega arith), peel body bytes 13 1 (omega arith), peel body bytes 14 1 (omega arith))

  -- and what would be presented
  presented_fits : (family : CardFamily) (from : ℕ) → FitPresented family (presented_from family from body)
  presented_fits cpa from = tt
  presented_fits cpace from = (small from 1, small (from + 1) 1, small (from + 2) 1, small (from + 3) 6)

  presented_there : (family : CardFamily) (from : ℕ) → length body ≡ from + presented_length family
      → drop from body ≡ presented_bytes (presented_from family from body)
  unfolding big
  presented_there cpa from h = drop_of_length-le body {i = from} (omega arith)
  presented_there cpace from h =
      let two : from + 1 + 1 ≡ from + 2 = omega arith in
      let three : from + 2 + 1 ≡ from + 3 = omega arith in
      cc (
        peel body bytes from 1 (omega arith),
        peel body bytes (from + 1) 1 (omega arith),
        peel body bytes (from + 2) 1 (omega arith),
        peel body bytes (from + 3) 6 (omega arith),
        drop_of_length-le body {i = from + 3 + 6} (omega arith),
      )

  second-there : length body ≡ 8 → body ≡ big 1 (at 0 1) ++ big 2 (at 1 2) ++ big 1 (at 3 1) ++ big 4 (at 4 4)
  unfolding big
  second-there h =
      cc (
        peel body bytes 0 1 (omega arith),
        peel body bytes 1 2 (omega arith),
        peel body bytes 3 1 (omega arith),
        peel body bytes 4 4 (omega arith),
        drop_of_length-le body {i = 8} (omega arith),
        append-nil (big 4 (at 4 4)),
      )

  start-means : (manner : Manner) → length body < 65535 → Meaning manner 2 body
  unfolding Fits kind_of body_of
  start-means manner sized = by manner.choice where
    by_length : (b : Bool) → eqb (length body) (start_length manner.family) ≡ b
        → Meaning (of by_name manner.dates manner.family manner.scripts) 2 body
    by_length true e =
        let family = manner.family in
        let behind = behind-from family body in
        let size : length body ≡ interface_length family + 1 = eqb-true (length body) (start_length family) e ∙ start_is family in
        let name : behind ≡ big 1 (number behind 0 1) = name-there behind (behind-bytes family) (behind_length family ∙ omega arith) in
        sent (start-from by_name family body) (interface_fits family, number_small behind (behind-bytes family) 0 1) refl
        (start-there family (omega arith) ∙ ap (start_bytes (interface_from family body)) name)
    by_length false e = wrong (bad_start refl refl (eqb-false (length body) (start_length manner.family) e))

    brought : (file : List ℕ) (entries : ℕ) (family : CardFamily) → interface_length family ≤ length body
        → Meaning (of (by_file file entries) manner.dates family manner.scripts) 2 body
    brought file entries family h =
        let is = start-there family h in
        sent (start-from (by_file file entries) family body) (interface_fits family, rw (← is) sized, behind-bytes family) refl is

    by-file : (file : List ℕ) (entries : ℕ) (family : CardFamily) (b : Bool) → eqb (length body) 0 ≡ b
        → Meaning (of (by_file file entries) manner.dates family manner.scripts) 2 body
    by-file file entries cpa b e = brought file entries cpa (omega arith)
    by-file file entries cpace true e = wrong (bad_empty refl (no_bytes body (omega (arith, eqb-true (length body) 0 e))) refl)
    by-file file entries cpace false e = brought file entries cpace (omega (arith, eqb-false (length body) 0 e))

    by : (choice : Choice) → Meaning (of choice manner.dates manner.family manner.scripts) 2 body
    by by_name = by_length (eqb (length body) (start_length manner.family)) refl
    by (by_file file entries) = by-file file entries manner.family (eqb (length body) 0) refl

  first-means : (manner : Manner) → Meaning manner 3 body
  unfolding Fits kind_of body_of
  first-means manner = by manner.dates manner.family (eqb (length body) (first_length manner.dates manner.family)) refl where
    by : (dates : Dates) (family : CardFamily) (b : Bool) → eqb (length body) (first_length dates family) ≡ b
        → Meaning (of manner.choice dates family manner.scripts) 3 body
    by undated family true e =
        let size : length body ≡ 12 + presented_length family = eqb-true (length body) (first_length undated family) e ∙ first_length_is undated family in
        sent (first-from undated family body) (fields-small, presented_fits family 12) refl
        (fields-there (omega arith) ∙ ap first_there (presented_there family 12 size))
    by dated family true e =
        let size : length body ≡ 15 + presented_length family = eqb-true (length body) (first_length dated family) e ∙ first_length_is dated family in
        sent (first-from dated family body) (fields-small, (small 12 1, small 13 1, small 14 1), presented_fits family 15) refl
        (fields-there (omega arith)
        ∙ ap first_there (date-there (omega arith) ∙ ap (λ (t : List ℕ). date_bytes date ++ t) (presented_there family 15 size)))
    by dates family false e = wrong (bad_first refl (eqb-false (length body) (first_length dates family) e))

  second-means : (manner : Manner) → Meaning manner 4 body
  unfolding Fits kind_of body_of
  second-means manner = by (eqb (length body) 8) refl where
    by : (b : Bool) → eqb (length body) 8 ≡ b → Meaning manner 4 body
    by true e = sent (second_from body) (small 0 1, small 1 2, small 3 1, small 4 4) refl (second-there (eqb-true (length body) 8 e))
    by false e = wrong (bad_second refl (eqb-false (length body) 8 e))

  script-means : (manner : Manner) → length body < 65535 → Meaning manner 5 body
  unfolding Fits kind_of body_of big
  script-means manner sized = by body bytes sized manner.scripts where
    by : (s : List ℕ) → Bytes s → length s < 65535 → (scripts : Scripting)
        → Meaning (of manner.choice manner.dates manner.family scripts) 5 s
    by s h l unscripted = wrong (no_command (inr (omega arith)))
    by [] h l scripted = wrong (bad_script refl refl refl)
    by (result ∷ template) h l scripted =
        let small : result ≡ result % 256 = omega arith in
        sent (script result template) (h.0, omega arith, h.1) refl (ap (λ (b : ℕ). b ∷ template) small)

  pub meaning : (manner : Manner) (kind : ℕ) → length body < 65535 → Meaning manner kind body
  meaning manner zero sized = wrong (no_command (inl refl))
  meaning manner (suc zero) sized = wrong (a_setup refl)
  meaning manner (suc (suc zero)) sized = start-means manner sized
  meaning manner (suc (suc (suc zero))) sized = first-means manner
  meaning manner (suc (suc (suc (suc zero)))) sized = second-means manner
  meaning manner (suc (suc (suc (suc (suc zero))))) sized = script-means manner sized
  meaning manner (suc (suc (suc (suc (suc (suc n)))))) sized = wrong (no_command (inr (omega (arith, (last-kind manner.scripts).1))))

-- ---- and what is wrong is refused

other : (manner : Manner) (slots : Slots) (kind : ℕ) (body : List ℕ) → (kind ≡ 2 → ⊥) → (kind ≡ 3 → ⊥) → (kind ≡ 4 → ⊥)
    → read_by manner slots kind body ≡ Err Unreadable
unfolding command_of
other manner slots kind body p q r = not_start manner slots kind body p ∙ simp (ne_eqb kind 2 p, ne_eqb kind 3 q, ne_eqb kind 4 r)

-- the lengths that the readers ask for
start-asked : (family : CardFamily) → C.start_length (family_of family) ≡ start_length family
start-asked cpa = refl
start-asked cpace = refl

pub first-asked : (dates : Dates) (family : CardFamily) → C.first_length (dating_of dates) (family_of family) ≡ first_length dates family
first-asked undated cpa = refl
first-asked undated cpace = refl
first-asked dated cpa = refl
first-asked dated cpace = refl

empty-refused : (choice : Choice) (dates : Dates) (slots : Slots) → read_as choice dates cpace slots 2 [] ≡ Err Unreadable
unfolding command_of selecting_of start_selected
empty-refused by_name dates slots = refl
empty-refused (by_file file entries) dates slots = refl

module _ (manner : Manner) (slots : Slots) (kind : ℕ) (body : List ℕ) where
  -- no script: above the last kind that is known there is none
  not_five : (kind ≡ 5 → ⊥) → (eqb kind 5 && is_scripted manner.scripts) ≡ false
  not_five n = rw (ne_eqb kind 5 n)

  beyond : (scripts : Scripting) → last_kind scripts < kind → (eqb kind 5 && is_scripted scripts) ≡ false
  beyond unscripted l = by (eqb kind 5) where
    by : (b : Bool) → (b && false) ≡ false
    by true = refl
    by false = refl
  beyond scripted l = rw (ne_eqb kind 5 (λ e. omega arith))

  -- and no command
  unheard : (eqb kind 5 && is_scripted manner.scripts) ≡ false → read_by manner slots kind body ≡ Err Unreadable
      → hears manner slots kind body ≡ refuses Unreadable
  unheard n e = rw (n, e)

  pub refused_wrong : Wrong manner kind body → hears manner slots kind body ≡ refuses Unreadable
  unfolding command_of
  refused_wrong (a_setup e) =
      unheard (not_five (λ h. omega arith)) (other manner slots kind body (λ h. omega arith) (λ h. omega arith) (λ h. omega arith))
  refused_wrong (no_command (inl e)) =
      unheard (not_five (λ h. omega arith)) (other manner slots kind body (λ h. omega arith) (λ h. omega arith) (λ h. omega arith))
  refused_wrong (no_command (inr l)) =
      let above : 4 < kind = omega (arith, (last-kind manner.scripts).0) in
      unheard (beyond manner.scripts l) (other manner slots kind body (λ h. omega arith) (λ h. omega arith) (λ h. omega arith))
  refused_wrong (bad_start e c n) =
      unheard (not_five (λ h. omega arith)) (rw (c, e, start-asked manner.family, ne_eqb (length body) (start_length manner.family) n))
  refused_wrong (bad_empty e z f) =
      unheard (not_five (λ h. omega arith)) (rw (e, z, f) (empty-refused manner.choice manner.dates slots))
  refused_wrong (bad_first e n) =
      unheard (not_five (λ h. omega arith))
      (not_start manner slots kind body (λ h. omega arith)
      ∙ rw (e, first-asked manner.dates manner.family, ne_eqb (length body) (first_length manner.dates manner.family) n))
  refused_wrong (bad_second e n) =
      unheard (not_five (λ h. omega arith)) (not_start manner slots kind body (λ h. omega arith) ∙ rw (e, ne_eqb (length body) 8 n))
  refused_wrong (bad_script e z f) = rw (e, z, f)
