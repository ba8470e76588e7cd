-- A paper with records at its end logs what the paper without them logs, and then what the run of them logs. Assumes nothing.
use mathlib.Core.Path.{◌≡◌, refl, sym, ap, subst, ◌∙◌}
use mathlib.Core.Bool.{true}
use mathlib.Core.List.{List, [], ◌∷◌, ◌++◌}
use Prim.Native.Nat.{ℕ, zero, suc, ◌+◌, ◌≤◌}
use native.Mathlib.Nat.{add-zero}
use native.Mathlib.Omega.{arith}
use lib.ListN.{length, length-append}
use Rattle.rules.specs.Word.{word_count}
use Rattle.rules.specs.Rules.{Rules, rules_of}
use Rattle.shape.specs.declared.Shape.{Shape}
use Rattle.paper.specs.Paper.{open_paper}
use Rattle.begun.specs.declared.Begun.{Begun}
use Rattle.opening.specs.Opening.{opened_begun, begun_of, words_begun}
use Rattle.script.specs.Script.{rules_after}
use Rattle.state.specs.declared.State.{State}
use Rattle.records.specs.declared.Event.{Event}
use Rattle.records.specs.declared.Event.TheVariants.{SetUp, End, Refused, Answered}
use Rattle.conversation.specs.Conversation.{taken_of, taken_writes}
use Rattle.conversation.specs.Events.{following, events_from}
use Rattle.text.proofs.Each.{Each, none, more}
use Rattle.ring.specs.Ring.{no_records}
use Rattle.ring.proofs.Newest.{Newest}
use Rattle.journal.specs.declared.Logging.{Logging}
use Rattle.journal.specs.Logged.{Seen, heard_out, ring_through, logged_in, turned}
use Rattle.journal.proofs.Newest.{through_newest}
use Rattle.run_rule.proofs.Rulings.{done-is}
use Rattle.runs.specs.Runs.{records_in, is_run, Card, ruled_run}
use Rattle.run_laws.specs.Behind.{left_by, ReadWhole}
use Rattle.run_laws.proofs.Sitting.{Opens, opens, begun-same, words_same, within}
use Rattle.spelling.specs.Spelling.{Bytes}
use Rattle.log_laws.specs.Spoken.{seen_then, seen_from}
use Rattle.log_laws.specs.Owed.{log_in, seen_in, logged_of}
use Rattle.log_laws.proofs.Answers.{Told, records_of, paper-told}
use Rattle.run_log_laws.specs.RunSeen.{seen_over, ring_behind}
use Rattle.run_log_laws.proofs.Rings.{Readable, first_of, run-logs}
use Rattle.run_log_laws.proofs.Behind.{tail, front}
use Rattle.run_log_laws.proofs.Log.{tail_in, logging_same}
use Rattle.std.specs.Prelude.{Err, Ok, Result}
use Rattle.paper.specs.declared.Opened.{Opened}
use Rattle.refusal.specs.declared.Refusal.{Refusal}

-- ---- every answer of a paper can be read from its bytes

module _ (paper : List ℕ) (shape : Shape) where
  then_readable : (at : ℕ) (event : Event) (events : List Event) (seen : List Seen) → Each Told (following event events)
      → (Each Told events → Each Readable seen) → Each Readable (seen_then at event seen)
  then_readable at SetUp events seen (more told rest) then = absurd told
  then_readable at End events seen all then = none
  then_readable at (Refused refusal) events seen all then = none
  then_readable at (Answered said answer) events seen (more told rest) then = more told.0 (then rest)

  all_readable : (n : ℕ) (rules : Rules) (state : State) (at : ℕ) → Each Told (events_from n rules shape state paper at)
      → Each Readable (seen_from n rules shape state paper at)
  unfolding seen_from events_from
  all_readable zero rules state at all = none
  all_readable (suc n) rules state at all =
      let taken = taken_of rules shape state paper at in
      let after = rules_after rules (taken_writes shape state paper at) in
      then_readable at taken.event _ _ all (all_readable n after taken.state taken.at)

seen_readable : (words paper : List ℕ) → Each Told (records_of words paper) → Each Readable (seen_in words paper)
unfolding seen_in
seen_readable words paper told =
    let begun = begun_of paper in
    all_readable paper begun.shape (length paper) (rules_of (words_begun words paper)) begun.state begun.at told

-- ---- lists one behind the other

behind_too : {A : Type 0} {P : A → Type 0} (a : List A) {b : List A} → Each P (a ++ b) → Each P b
behind_too [] all = all
behind_too (x ∷ a) all = behind_too a (first_of all).1

through_both : (logging : Logging) (ring : List ℕ) (a b : List Seen) → ring_through logging ring (a ++ b) ≡ ring_through logging (ring_through logging ring a) b
unfolding ring_through
through_both logging ring [] b = refl
through_both logging ring (seen ∷ a) b = through_both logging (heard_out logging seen.said seen.at seen.answer ring) a b

-- ---- what is said in both together

module _ (words p r : List ℕ) (fits : length (p ++ r) ≤ 65536) (read : ReadWhole words p)
    (card : Card) (rules-are : card.rules ≡ (left_by words p).rules) (state-is : card.state ≡ (left_by words p).state) where
  abbrev begun : Begun
  begun = begun_of p

  abbrev rules : Rules
  rules = rules_of (words_begun words p)

  set_up_lem : begun.event ≡ SetUp
  unfolding ReadWhole
  set_up_lem = read.0

  module _ (version start end : ℕ) (o : Opens p version start end) where
    -- the set-up is the same
    begins : begun_of (p ++ r) ≡ begun
    begins = begun-same p r fits version start end o

    whole : is_run begun.shape r ≡ true → seen_in words (p ++ r) ≡ seen_in words p ++ seen_over begun.shape p card (length p) (records_in r)
    unfolding seen_in ReadWhole left_by is_run
    whole is =
        let in-it = within p version start end o read.0 in
        let long = length-append p r in
        let before = front p r begun.shape in-it.lies (length p) rules begun.state begun.at (omega arith) in-it.at_most read.1 in
        let seam = add-zero (length p) in
        let behind = tail p r begun.shape in-it.lies (length (p ++ r)) 0 card (omega (arith, long)) is in
        let from-here : seen_from (length (p ++ r)) (left_by words p).rules begun.shape (left_by words p).state (p ++ r) (length p)
        ≡ seen_from (length (p ++ r)) card.rules begun.shape card.state (p ++ r) (length p + 0) =
        rw (← rules-are, ← state-is, seam) in
        rw (begins, words_same p r fits version start end o words)
        (before
        ∙ ap (λ (more : List Seen). seen_from (length p) rules begun.shape begun.state p begun.at ++ more)
        (from-here ∙ behind ∙ ap (λ (k : ℕ). seen_over begun.shape p card k (records_in r)) seam))

    logging_is : (log_in words (p ++ r)).logging ≡ (log_in words p).logging
    unfolding log_in
    logging_is =
        rw (begins, words_same p r fits version start end o words) (logging_same p r rules begun.shape (tail_in p version start end o set_up_lem))

  pub record Opened-so : Type 0 where
    pub begun-is : (begun_of (p ++ r)).event ≡ SetUp
    pub logging_is : (log_in words (p ++ r)).logging ≡ (log_in words p).logging
    pub seen-is : is_run begun.shape r ≡ true → seen_in words (p ++ r) ≡ seen_in words p ++ seen_over begun.shape p card (length p) (records_in r)

  opened_so : Opened-so
  unfolding ReadWhole begun_of
  opened_so = by (open_paper p) refl where
    by : (opened : Result Opened Refusal) → open_paper p ≡ opened → Opened-so
    by (Err refusal) e = absurd (let z : ◌≡◌ {A = ℕ} 0 1 = (let f = ap (λ opened. (opened_begun p opened).event) (sym e) ∙ read.0 in cc) in omega arith)
    by (Ok opened) e =
        let o = opens p opened.version opened.start opened.end e in
        record {
          begun-is = ap (λ (b : Begun). b.event) (begins opened.version opened.start opened.end o) ∙ set_up_lem;
          logging_is = logging_is opened.version opened.start opened.end o;
          seen-is = whole opened.version opened.start opened.end o;
        }

  -- WHAT IS SAID IN THE PAPER, AND THEN IN THE RUN, lent the place where it begins
  pub seen-joined : is_run begun.shape r ≡ true → seen_in words (p ++ r) ≡ seen_in words p ++ seen_over begun.shape p card (length p) (records_in r)
  seen-joined = opened_so.seen-is

  -- ---- the ring

  module _ (lent : length words ≡ word_count) (bytes : Bytes (p ++ r)) (room : List ℕ) (n : ℕ)
      (done : ruled_run begun.shape r (length room) ≡ Ok n) (logging : Logging) where
    -- the ring of the paper, and behind it the run's
    abbrev pub both_rings : List ℕ
    both_rings = ring_behind begun.shape p logging card r (length p) room (ring_through logging no_records (seen_in words p))

    -- THE PAPER'S LOG AND THEN THE RUN'S IS THE LOG OF BOTH TOGETHER
    pub logs-joined : both_rings ≡ ring_through logging no_records (seen_in words (p ++ r))
    logs-joined =
        let seen = seen-joined (done-is begun.shape r (length room) n done).0 in
        let told = paper-told words (p ++ r) lent bytes opened_so.begun-is in
        let all = subst (Each Readable) seen (seen_readable words (p ++ r) told) in
        let legible = behind_too (seen_in words p) all in
        run-logs logging begun.shape p card r (length p) room (ring_through logging no_records (seen_in words p)) n done legible
        ∙ sym (through_both logging no_records (seen_in words p) _) ∙ ap (ring_through logging no_records) (sym seen)

    -- SO IT HAS THE NEWEST of the transactions that are logged in both
    pub joined-newest : Newest logging.size (logged_in logging (turned [] (seen_in words (p ++ r)))) both_rings
    joined-newest = rw logs-joined (through_newest logging (seen_in words (p ++ r)))

  -- AND WITH THE PAPER'S LOG the newest of those that both together log
  module _ (lent : length words ≡ word_count) (bytes : Bytes (p ++ r)) (room : List ℕ) (n : ℕ) (done : ruled_run begun.shape r (length room) ≡ Ok n) where
    pub joined-owed : Newest (log_in words p).logging.size (logged_of words (p ++ r)) (both_rings lent bytes room n done (log_in words p).logging)
    unfolding logged_of
    joined-owed =
        subst (λ (logging : Logging). Newest logging.size (logged_of words (p ++ r)) (both_rings lent bytes room n done logging)) opened_so.logging_is
        (joined-newest lent bytes room n done (log_in words (p ++ r)).logging)
