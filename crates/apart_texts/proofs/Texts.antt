-- REQUEST FOURTEEN over whole texts: two papers that are the same but for what x starts from, and whose records spare x, have the same text, the lines
-- of their logs among it. The premise is on the one paper's run. Assumes nothing.
use mathlib.Core.Path.{◌≡◌, refl, sym, ap, ap₂, subst, ◌∙◌}
use mathlib.Core.Bool.{Bool, true, false, cond, not, ◌&&◌}
use mathlib.Core.Logic.{◌⊎◌, inl, inr}
use mathlib.Core.List.{List, [], ◌∷◌, ◌++◌}
use Prim.Native.Nat.{ℕ, zero, suc, ◌+◌, ◌-◌, ◌≤◌}
use native.Mathlib.Omega.{arith}
use lib.Dec.{eqb, leb, ltb}
use lib.ListN.{length, take, drop}
use Rattle.text.specs.Text.{joined, line}
use Rattle.hex_digits.specs.Hex.{hex}
use Rattle.numerals.specs.Numeral.{numeral}
use Rattle.rules.specs.Word.{word_count}
use Rattle.rules.specs.Rules.{Rules, rules_of}
use Rattle.purchase.specs.Meter.{Meter}
use Rattle.bodies.specs.Bodies.{is_cpace}
use Rattle.shape.specs.declared.Shape.{Shape}
use Rattle.script.specs.Script.{rules_after}
use Rattle.state.specs.declared.Phase.{Phase}
use Rattle.state.specs.declared.State.{State}
use Rattle.records.specs.declared.Event.{Event}
use Rattle.records.specs.declared.Event.TheVariants.{SetUp, End, Refused, Answered}
use Rattle.opening.specs.Opening.{begun_of, words_begun}
use Rattle.conversation.specs.Conversation.{taken_of, taken_writes}
use Rattle.ring.specs.declared.Record.{Record}
use Rattle.ring.specs.Ring.{slots_of}
use Rattle.journal.specs.Logged.{Seen, first_in, logged_in, turned}
use Rattle.log_tail.specs.LogTail.{switches_in}
use Rattle.log_fields.specs.declared.Form.{Form}
use Rattle.log_fields.specs.LogFields.{first_length, part_of, second_data, field_count, field_entry, field_in}
use Rattle.field.specs.Field.{field_of}
use Rattle.log_values.specs.LogValues.{purchase_text, answer_text}
use Rattle.log_lines.specs.LogLines.{field_texts, fields_text, values_text, word, log_line}
use Rattle.paper_log.specs.declared.Log.{Log}
use Rattle.paper_log.specs.Log.{tail_at, logging_in, no_logging, is_dated, form_of, tailed, log_of}
use Rattle.paper_text.specs.PaperText.{text_of}
use Rattle.spelling.specs.Spelling.{Bytes}
use Rattle.log_laws.specs.Spoken.{heard_of, seen_then, seen_from, is_whole}
use Rattle.log_laws.specs.Owed.{log_in, seen_in, logged_of, lines_from, newest_lines, whole_lines, log_owed}
use Rattle.log_laws.proofs.Text.{text-lines}
use Rattle.apart.specs.Alike.{Alike}
use Rattle.apart_papers.specs.Start.{IsSwitch, SamePapers}
use Rattle.apart_papers.specs.Spared.{going, SparedFrom, SparedBy}
use Rattle.apart_papers.proofs.Begun.{early, LateFile, LateLog, paper-begins}
use Rattle.apart_papers.proofs.Lines.{drop_late, taken-apart, writes-same, place-late, apart-events, apart-lines}
use Rattle.apart_texts.proofs.Placed.{Behind, AllBehind, take_behind, Asking, all-behind}
use Rattle.std.specs.Prelude.{None, Option, Some}
use Rattle.shape.specs.declared.Span.{Span}

-- where the conversation goes on, the rest is the same
seen_then_lem : (at : ℕ) (event : Event) (spared : Type 0) (a b : List Seen) → going event spared → (spared → a ≡ b) → seen_then at event a ≡ seen_then at event b
seen_then_lem at SetUp spared a b g h = h g
seen_then_lem at End spared a b g h = refl
seen_then_lem at (Refused refusal) spared a b g h = refl
seen_then_lem at (Answered said answer) spared a b g h =
    ap (λ (l : List Seen). record { said = heard_of said; at = at + 3; answer = answer } ∷ l) (h g)

-- no Second, no data of it; no tail, no byte of it
no_second : (paper : List ℕ) (kept : Record) → kept.second ≡ 0 → second_data paper kept ≡ []
unfolding part_of
no_second paper kept none = ap (λ (n : ℕ). part_of paper n (cond (not (eqb n 0)) 8 0)) none

no_tail : (paper : List ℕ) → tail_at paper 0 0 ≡ []
no_tail paper = by (leb 0 0 && leb 0 (length paper)) where
  by : (b : Bool) → cond b (take (0 - 0) (drop 0 paper)) [] ≡ []
  by true = refl
  by false = refl

module _ (x : Meter) (is : IsSwitch x) (p q : List ℕ) (same : SamePapers x p q) where
  -- ---- a line of the log reads First's body and Second's, which stand behind the head

  first-same : (at bytes : ℕ) → 56 ≤ at → part_of p at bytes ≡ part_of q at bytes
  unfolding part_of
  first-same at bytes h = ap (take bytes) (drop_late x is p q same at h)

  second-same : (kept : Record) → (kept.second ≡ 0) ⊎ (56 ≤ kept.second) → second_data p kept ≡ second_data q kept
  second-same kept (inl none) = no_second p kept none ∙ sym (no_second q kept none)
  second-same kept (inr h) = first-same kept.second _ h

  module _ (tail : List ℕ) (form : Form) where
    field-same : (kept : Record) → Behind kept → (i : ℕ) → field_in p tail form kept i ≡ field_in q tail form kept i
    unfolding field_in
    field-same kept behind i =
        let entry = field_entry tail form kept i in
        ap₂ (λ (first second : List ℕ). field_of first second entry.source entry.position entry.length)
        (first-same kept.first (first_length form) behind.first) (second-same kept behind.second)

    fields-same : (kept : Record) → Behind kept → (n : ℕ) → field_texts p tail form kept n ≡ field_texts q tail form kept n
    unfolding field_texts
    fields-same kept behind zero = refl
    fields-same kept behind (suc i) = ap₂ (λ (a b : List ℕ). a ++ hex b) (fields-same kept behind i) (field-same kept behind i)

    line_same : (k : ℕ) (kept : Record) → Behind kept → log_line k p tail form kept ≡ log_line k q tail form kept
    unfolding log_line values_text fields_text
    line_same k kept behind =
        ap₂ (λ (first fields : List ℕ).
        line word (numeral k ∷ (purchase_text first form.dated ++ (answer_text (switches_in tail) kept ++ fields)) ∷ []))
        (first-same kept.first (first_length form) behind.first) (fields-same kept behind (field_count tail form kept))

    lines_same : (number : ℕ) (logged : List Record) → AllBehind logged → lines_from p tail form number logged ≡ lines_from q tail form number logged
    unfolding lines_from
    lines_same number [] all = refl
    lines_same number (kept ∷ older) all =
        ap₂ (λ (one : List ℕ) (more : List (List ℕ)). one ∷ more) (line_same number kept all.0) (lines_same (number + 1) older all.1)

  -- ---- the log that the set-up describes

  tail-same : (start end : ℕ) → 56 ≤ start → tail_at p start end ≡ tail_at q start end
  tail-same start end h =
      ap₂ (λ (n : ℕ) (rest : List ℕ). cond (leb start end && leb end n) (take (end - start) rest) []) same.as_long (drop_late x is p q same start h)

  module _ (rules : Rules) (shape : Shape) where
    form-same : form_of shape p ≡ form_of shape q
    form-same =
        let count = early x is p q same 7 (omega arith) in
        λ i. record { profiles = count i; dated = is_dated shape.dating; cpace = is_cpace shape.family }

    log-same : (logging : Option Span) → LateLog logging → tailed rules shape p logging ≡ tailed rules shape q logging
    log-same None h = let form = form-same in λ i. record { logging = no_logging; form = form i; start = 0; end = 0 }
    log-same (Some part) h =
        let form = form-same in
        let tail = tail-same part.start part.end h in
        λ i. record { logging = logging_in rules (tail i); form = form i; start = part.start; end = part.end }

    log-tail-same : (logging : Option Span) → LateLog logging
        → tail_at p (tailed rules shape p logging).start (tailed rules shape p logging).end
        ≡ tail_at q (tailed rules shape p logging).start (tailed rules shape p logging).end
    log-tail-same None h = no_tail p ∙ sym (no_tail q)
    log-tail-same (Some part) h = tail-same part.start part.end h

  -- ---- the records that are answered, and where they stand

  module _ (shape : Shape) (file : LateFile shape.selecting) where
    seen_apart : (n : ℕ) (rules : Rules) (state other : State) (at : ℕ) → Alike x state other → 56 ≤ at → SparedFrom n rules shape state p at x
        → seen_from n rules shape state p at ≡ seen_from n rules shape other q at
    unfolding seen_from SparedFrom
    seen_apart zero rules state other at alike h spared = refl
    seen_apart (suc n) rules state other at alike h spared =
        let taken = taken_of rules shape state p at in
        let taken' = taken_of rules shape other q at in
        let one = taken-apart x is p q same shape file rules state other alike at h spared.0 in
        let then = rules_after rules (taken_writes shape state p at) in
        let writes = writes-same x is p q same shape file rules state other alike at h in
        let events = one.events in
        let places = one.places in
        let rest : seen_then at taken.event (seen_from n then shape taken'.state q taken.at)
        ≡ seen_then at taken'.event (seen_from n (rules_after rules (taken_writes shape other q at)) shape taken'.state q taken'.at) =
        λ i. seen_then at (events i) (seen_from n (rules_after rules (writes i)) shape taken'.state q (places i)) in
        seen_then_lem at taken.event (SparedFrom n then shape taken.state p taken.at x) (seen_from n then shape taken.state p taken.at)
        (seen_from n then shape taken'.state q taken.at) spared.1
        (λ more. seen_apart n then taken.state taken'.state taken.at one.states
        (place-late x is p q same shape file rules state other alike at h) more)
        ∙ rest

    stands-late : (rules : Rules) (state : State) (at : ℕ) → 56 ≤ at → 56 ≤ (taken_of rules shape state p at).at
    stands-late rules state at h = place-late x is p q same shape file rules state state refl at h

-- ---- whole papers

module _ (x : Meter) (is : IsSwitch x) (words p q : List ℕ) (same : SamePapers x p q) (accepted : (begun_of p).event ≡ SetUp)
    (other-accepted : (begun_of q).event ≡ SetUp) (spared : SparedBy words p x) where
  abbrev shape : Shape
  shape = (begun_of p).shape

  abbrev rules : Rules
  rules = rules_of (words_begun words p)

  seen_same : seen_in words p ≡ seen_in words q
  unfolding seen_in SparedBy
  seen_same =
      let a = begun_of p in
      let b = begun_of q in
      let begins = paper-begins x is words p q same accepted other-accepted in
      let l = same.as_long in
      let w = begins.words in
      let s = begins.shapes in
      let k = begins.places in
      let rest : seen_from (length p) (rules_of (words_begun words p)) a.shape b.state q a.at
      ≡ seen_from (length q) (rules_of (words_begun words q)) b.shape b.state q b.at =
      λ i. seen_from (l i) (rules_of (w i)) (s i) b.state q (k i) in
      seen_apart x is p q same a.shape begins.file (length p) (rules_of (words_begun words p)) a.state b.state a.at begins.states
      begins.behind spared
      ∙ rest

  log_in_same : log_in words p ≡ log_in words q
  unfolding log_in log_of
  log_in_same =
      let begins = paper-begins x is words p q same accepted other-accepted in
      let w = begins.words in
      let s = begins.shapes in
      let rest : tailed rules shape q shape.logging ≡ tailed (rules_of (words_begun words q)) (begun_of q).shape q (begun_of q).shape.logging =
      λ i. tailed (rules_of (w i)) (s i) q (s i).logging in
      log-same x is p q same rules shape shape.logging begins.log ∙ rest

  logged-same : logged_of words p ≡ logged_of words q
  unfolding logged_of
  logged-same = ap₂ (λ (log : Log) (seen : List Seen). logged_in log.logging (turned [] seen)) log_in_same seen_same

  logged-behind : AllBehind (logged_of words p)
  unfolding logged_of seen_in
  logged-behind =
      let a = begun_of p in
      let begins = paper-begins x is words p q same accepted other-accepted in
      all-behind (log_in words p).logging shape p (stands-late x is p q same shape begins.file) (length p) rules a.state a.at [] begins.behind
      (subst (λ (phase : Phase). Asking phase (first_in [])) (sym begins.idle) tt) (unfold logged_in in tt)

  log-tail : tail_at p (log_in words p).start (log_in words p).end ≡ tail_at q (log_in words p).start (log_in words p).end
  unfolding log_in log_of
  log-tail = log-tail-same x is p q same rules shape shape.logging (paper-begins x is words p q same accepted other-accepted).log

  newest-same : newest_lines (log_in words p) p (logged_of words p) ≡ newest_lines (log_in words q) q (logged_of words q)
  unfolding newest_lines
  newest-same =
      let log = log_in words p in
      let slots = slots_of log.logging.size in
      let logged = logged_of words p in
      let newest = take slots logged in
      let rest : newest_lines log q logged ≡ newest_lines (log_in words q) q (logged_of words q) =
      ap₂ (λ (these : Log) (those : List Record). newest_lines these q those) log_in_same logged-same in
      lines_same x is p q same (tail_at p log.start log.end) log.form 1 newest (take_behind slots logged logged-behind)
      ∙ ap (λ (tail : List ℕ). lines_from q tail log.form 1 newest) log-tail
      ∙ rest

  -- EQUAL LOGS, line by line
  pub apart-logs : log_owed words p ≡ log_owed words q
  unfolding log_owed whole_lines
  apart-logs =
      let version = early x is p q same 0 (omega arith) in
      let events = apart-events x is words p q same accepted other-accepted spared in
      let newest = newest-same in
      λ i. cond (ltb (version i) 7) [] (cond (is_whole (events i)) (newest i) [])

  -- EQUAL TEXTS, byte for byte
  pub apart_texts : length words ≡ word_count → Bytes p → Bytes q → text_of words p ≡ text_of words q
  apart_texts lent bytes other-bytes =
      text-lines words p lent bytes
      ∙ ap₂ (λ (lines log : List (List ℕ)). joined (lines ++ log)) (apart-lines x is words p q same accepted other-accepted spared) apart-logs
      ∙ sym (text-lines words q lent other-bytes)
