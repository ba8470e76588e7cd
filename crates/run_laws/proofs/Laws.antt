-- A run, by the records that it is made of: none, one, and two runs one behind the other, which leave one answer for every run; what is refused,
-- and what a refusal and an answer leave untouched. Assumes nothing.
use mathlib.Core.Path.{◌≡◌, refl, sym, ap, subst, ◌∙◌}
use mathlib.Core.Bool.{Bool, true, false, cond, ◌&&◌, and-false}
use mathlib.Core.List.{List, [], ◌∷◌, ◌++◌, append_assoc, append-nil}
use mathlib.Core.Logic.{◌⊎◌, inl, inr}
use Prim.Native.Nat.{ℕ, zero, suc, ◌+◌, ◌-◌, ◌*◌, ◌/◌, ◌%◌, ◌≤◌, ◌<◌}
use native.Mathlib.Omega.{arith}
use borrow.Author.Tests.{leb-true, leb-false, le-leb, lt-leb, lt-ltb, le-ltb, ltb-true, ltb-false, ne_eqb}
use lib.Dec.{leb, ltb}
use lib.ListN.{length, take, drop, replicate, length-append, length-drop}
use lib.Seq.{sets, sets-eq, take_all, take-append_seam, drop-append_seam, drop-drop, length-sets}
use Rattle.refusal.specs.declared.Refusal.{Refusal}
use Rattle.refusal.specs.declared.Refusal.TheVariants.{Unreadable, NoRoomForAnswers}
use Rattle.rules.specs.Rules.{Rules}
use Rattle.shape.specs.declared.Shape.{Shape}
use Rattle.wire.specs.Wire.{byte, number}
use Rattle.paper.specs.declared.Next.TheVariants.{Record, Fault, End}
use Rattle.paper.specs.Paper.{end_at, is_fault_at, next_at}
use Rattle.paper.specs.Walk.{Met, part, written, met_in, place_in}
use Rattle.paper.proofs.Walk.{Stopped, past_end, rests, walk_ends, walk-on}
use Rattle.iad.specs.declared.Iad.{Iad}
use Rattle.iad.specs.Iad.{is_writable, read_iad, write_iad, written as written_iad}
use Rattle.iad.proofs.RoundTrip.{written-size, whole}
use Rattle.state.specs.declared.State.{State}
use Rattle.state.specs.declared.Kind.{Kind}
use Rattle.state.specs.declared.Answer.{Answer}
use Rattle.state.specs.declared.Answer.TheVariants.{Refused as AnswerRefused, Started, Given, Done as AnswerDone}
use Rattle.records.specs.declared.Event.TheVariants.{Refused as EventRefused, Answered}
use Rattle.records.specs.Records.{record_taken, can_be_read}
use Rattle.records.proofs.Readable.{IsAnswered, Answers, answered_or_not}
use Rattle.answers.specs.Answers.{size, answer_bytes}
use Rattle.answers.proofs.Laws.{answer-size}
use Rattle.run_rule.proofs.Rulings.{done-is}
use Rattle.runs.specs.Runs.{records_in, stop_in, all_read, is_run, Card, answered_in, taken_by, card_behind, card_after, answers_to, ruled_run, unless, card_run, room_run, end_of}
use Rattle.run_laws.specs.Singly.{spelled}
use Rattle.std.specs.Prelude.{Err, Ok}
use Rattle.run_laws.proofs.Appended as Appended

pub end-is-past : (s : List ℕ) (at : ℕ) → next_at s at ≡ End → length s ≤ at
unfolding next_at
end-is-past s at = by (leb (length s) at) (is_fault_at s at) refl where
  by : (over fault : Bool) → leb (length s) at ≡ over → Appended.next over fault (byte s (at + 2)) (at + 3) (end_at s at) ≡ End → length s ≤ at
  by true fault o e = leb-true (length s) at o
  by false true o e = absurd (let z : ◌≡◌ {A = ℕ} 0 1 = cc in omega arith)
  by false false o e = absurd (let z : ◌≡◌ {A = ℕ} 0 1 = cc in omega arith)

pub both : (a b : Bool) → (a && b) ≡ true → (a ≡ true) × (b ≡ true)
both true b e = (refl, e)
both false b e = (e, absurd (let z : ◌≡◌ {A = ℕ} 0 1 = cc in omega arith))

pub spelled_is : (answer : Answer) → answer_bytes answer ≡ spelled answer
unfolding answer_bytes
spelled_is (AnswerRefused refusal) = refl
spelled_is (Started atc visits) = refl
spelled_is (Given kind atc iad) = refl
spelled_is AnswerDone = refl

-- reading the IAD of an answer gives its fields back
pub iad_back : (kind : Kind) (atc : ℕ) (iad : Iad) → is_writable iad ≡ true → read_iad (drop 4 (spelled (Given kind atc iad))) ≡ Ok iad
unfolding write_iad
iad_back kind atc iad e =
    let zeros : List ℕ = replicate 32 0 in
    let done : write_iad iad zeros ≡ (Ok tt) = rw e in
    let all = take_all 32 (written_iad iad zeros) (omega (arith, written-size iad)) in
    ap read_iad (sym all) ∙ ((whole iad zeros).0 done).0

module _ (shape : Shape) (paper : List ℕ) where
  -- ---- no record

  pub none : (card : Card) (room : List ℕ)
      → (ruled_run shape [] (length room) ≡ Ok 0) × (card_run shape paper card [] (length room) ≡ card) × (room_run shape paper card [] room ≡ room)
  unfolding ruled_run card_run room_run is_run met_in place_in all_read card_after answers_to
  none card room = let any = le-ltb (length room) 0 (omega arith) in rw (any) (refl, refl, refl)

  -- ---- answers of records

  pub one_answer : (card : Card) (met : Met) → can_be_read shape met.kind (length met.body) ≡ true
      → IsAnswered 0 (taken_by shape paper card met)
  one_answer card met can = rw can at (answered_or_not card.rules card.state 0 shape paper met.kind met.body)

  -- 36 bytes for each
  pub answers-size : (card : Card) (mets : List Met) → all_read shape mets ≡ true → length (answers_to shape paper card mets) ≡ size * length mets
  unfolding all_read answers_to
  answers-size card [] read = refl
  answers-size card (met ∷ more) read =
      let can = both (can_be_read shape met.kind (length met.body)) (all_read shape more) read in
      let is = one_answer card met can.0 in
      let rest = answers-size (card_behind shape paper card met) more can.1 in
      let here = ap (λ event. length (answered_in event)) is.event_is ∙ answer-size is.answer in
      length-append (answered_in (taken_by shape paper card met).event) (answers_to shape paper (card_behind shape paper card met) more)
      ∙ (omega (arith, here, rest))

  both_after : (card : Card) (a b : List Met)
      → (card_after shape paper card (a ++ b) ≡ card_after shape paper (card_after shape paper card a) b)
      × (answers_to shape paper card (a ++ b) ≡ answers_to shape paper card a ++ answers_to shape paper (card_after shape paper card a) b)
  unfolding card_after answers_to
  both_after card [] b = (refl, refl)
  both_after card (met ∷ a) b =
      let rest = both_after (card_behind shape paper card met) a b in
      let here = answered_in (taken_by shape paper card met).event in
      (rest.0, ap (λ l. here ++ l) rest.1 ∙ sym (append_assoc here (answers_to shape paper (card_behind shape paper card met) a) _))

  all_read_lem : (a b : List Met) → all_read shape (a ++ b) ≡ (all_read shape a && all_read shape b)
  unfolding all_read
  all_read_lem [] b = refl
  all_read_lem (met ∷ a) b = rw (all_read_lem a b) (assoc (can_be_read shape met.kind (length met.body)) (all_read shape a) (all_read shape b)) where
    assoc : (x y z : Bool) → (x && (y && z)) ≡ ((x && y) && z)
    assoc true y z = refl
    assoc false y z = refl

  -- ---- what is a run

  pub parts : (run : List ℕ) → is_run shape run ≡ true → (length run ≤ stop_in run) × (all_read shape (records_in run) ≡ true)
  unfolding is_run
  parts run e =
      let p = both (leb (length run) (stop_in run)) (all_read shape (records_in run)) e in
      (leb-true (length run) (stop_in run) p.0, p.1)

  carried : (run : List ℕ) (room : ℕ) → is_run shape run ≡ true → size * length (records_in run) ≤ room → ruled_run shape run room ≡ Ok (length (records_in run))
  unfolding ruled_run
  carried run room is fits = rw (is, le-ltb room (size * length (records_in run)) fits)

  -- the answers, and what stood behind them
  pub placed : (card : Card) (run room : List ℕ) → is_run shape run ≡ true → size * length (records_in run) ≤ length room
      → room_run shape paper card run room ≡ answers_to shape paper card (records_in run) ++ drop (size * length (records_in run)) room
  unfolding room_run
  placed card run room is fits =
      let answers = answers_to shape paper card (records_in run) in
      let long = answers-size card (records_in run) (parts run is).1 in
      rw (carried run (length room) is fits)
      (sets-eq answers room 0 (omega (arith, long)) ∙ ap (λ (n : ℕ). answers ++ drop n room) (let z : 0 + length answers ≡ size * length (records_in run) = omega (arith, long) in z))

  pub after : (card : Card) (run : List ℕ) (room : ℕ) → is_run shape run ≡ true → size * length (records_in run) ≤ room
      → card_run shape paper card run room ≡ card_after shape paper card (records_in run)
  unfolding card_run
  after card run room is fits = rw (carried run room is fits)

  -- ---- two runs, one behind the other

  module _ (a b : List ℕ) (is-a : is_run shape a ≡ true) where
    pub records-joined : records_in (a ++ b) ≡ records_in a ++ records_in b
    records-joined = (Appended.joined a b (parts a is-a).0).0

    pub run-joined : is_run shape (a ++ b) ≡ is_run shape b
    unfolding is_run
    run-joined =
        let ends = (Appended.joined a b (parts a is-a).0).1 in
        let read = ap (all_read shape) records-joined ∙ all_read_lem (records_in a) (records_in b) in
        ap (λ (n : ℕ). leb n (stop_in (a ++ b)) && all_read shape (records_in (a ++ b))) (length-append a b)
        ∙ ap (λ (n : ℕ). leb (length a + length b) n && all_read shape (records_in (a ++ b))) ends
        ∙ ap (λ t. t && all_read shape (records_in (a ++ b))) (Appended.leb_behind (length a) (length b) (stop_in b))
        ∙ ap (λ t. leb (length b) (stop_in b) && t) read
        ∙ ap (λ t. leb (length b) (stop_in b) && (t && all_read shape (records_in b))) (parts a is-a).1

    -- the run of both is the run of the one, and then of the other on the card that it left; their answers stand one behind the other
    module _ (card : Card) (room : List ℕ) (is_b : is_run shape b ≡ true) (fits : size * (length (records_in a) + length (records_in b)) ≤ length room) where
      abbrev done : ℕ
      done = size * length (records_in a)

      abbrev left : Card
      left = card_run shape paper card a (length room)

      counts : length (records_in (a ++ b)) ≡ length (records_in a) + length (records_in b)
      counts = ap length records-joined ∙ length-append (records_in a) (records_in b)

      pub joined : (ruled_run shape (a ++ b) (length room) ≡ Ok (length (records_in a) + length (records_in b)))
          × (card_run shape paper card (a ++ b) (length room) ≡ card_run shape paper left b (length room - done))
          × (room_run shape paper card (a ++ b) room
          ≡ take done (room_run shape paper card a room) ++ room_run shape paper left b (drop done (room_run shape paper card a room)))
      joined =
          let is = run-joined ∙ is_b in
          let all : size * length (records_in (a ++ b)) ≤ length room = omega (arith, counts) in
          let fits-a : done ≤ length room = omega arith in
          let first = after card a (length room) is-a fits-a in
          let split = both_after card (records_in a) (records_in b) in
          let A = answers_to shape paper card (records_in a) in
          let long = answers-size card (records_in a) (parts a is-a).1 in
          let here = placed card a room is-a fits-a in
          let rest : drop done (room_run shape paper card a room) ≡ drop done room =
          ap (λ l. drop done l) here ∙ ap (λ (n : ℕ). drop n (A ++ drop done room)) (sym long) ∙ drop-append_seam A (drop done room) in
          let front : take done (room_run shape paper card a room) ≡ A =
          ap (λ l. take done l) here ∙ ap (λ (n : ℕ). take n (A ++ drop done room)) (sym long) ∙ take-append_seam A (drop done room) in
          let behind = length-drop done room in
          let fits-b : size * length (records_in b) ≤ length (drop done room) = omega (arith, behind) in
          let B = answers_to shape paper left (records_in b) in
          let second = placed left b (drop done room) is_b fits-b in
          let to : done + size * length (records_in b) ≡ size * length (records_in (a ++ b)) = omega (arith, counts) in
          let far : drop (size * length (records_in b)) (drop done room) ≡ drop (size * length (records_in (a ++ b))) room =
          drop-drop (size * length (records_in b)) done room ∙ ap (λ (n : ℕ). drop n room) to in
          let whole : answers_to shape paper card (records_in (a ++ b)) ≡ A ++ B =
          ap (answers_to shape paper card) records-joined ∙ split.1 ∙ ap (λ c. A ++ answers_to shape paper c (records_in b)) (sym first) in (
            carried (a ++ b) (length room) is all ∙ ap Ok counts,
            after card (a ++ b) (length room) is all ∙ ap (card_after shape paper card) records-joined ∙ split.0
                ∙ ap (λ c. card_after shape paper c (records_in b)) (sym first) ∙ sym (after left b (length room - done) is_b (omega arith)),
            placed card (a ++ b) room is all ∙ ap (λ l. l ++ drop (size * length (records_in (a ++ b))) room) whole
                ∙ append_assoc A B (drop (size * length (records_in (a ++ b))) room)
                ∙ ap (λ l. A ++ (B ++ l)) (sym far) ∙ ap (λ l. A ++ l) (sym second)
                ∙ ap (λ l. l ++ room_run shape paper left b (drop done room)) (sym front)
                ∙ ap (λ l. take done (room_run shape paper card a room) ++ room_run shape paper left b l) (sym rest),
          )

  -- ---- one record

  module _ (met : Met) (short : length met.body + 1 < 65536) where
    abbrev body : List ℕ
    body = met.body

    abbrev bytes : List ℕ
    bytes = written met

    says : number bytes 0 2 ≡ length body + 1
    unfolding number
    says = omega arith

    stands : next_at bytes 0 ≡ Record met.kind 3 (3 + length body)
    unfolding next_at
    stands =
        let some = ne_eqb (number bytes 0 2) 0 (λ z. omega (arith, says)) in
        let whole = le-ltb (length bytes) (end_at bytes 0) (omega (arith, says)) in
        let no_fault : is_fault_at bytes 0 ≡ false = rw (some, whole) in
        Appended.same (lt-leb (length bytes) 0 (omega arith)) no_fault refl refl (omega (arith, says))

    alone : (records_in bytes ≡ met ∷ []) × (stop_in bytes ≡ length bytes)
    alone =
        let on = walk-on bytes 0 met.kind 3 (3 + length body) stands in
        let over = rests (length bytes) bytes (3 + length body) (inl (past_end bytes (3 + length body) (omega arith))) in
        let to : 3 + length body - 3 ≡ length body = omega arith in
        let is : part bytes 3 (3 + length body) ≡ body = ap (λ (n : ℕ). take n body) to ∙ take_all (length body) body (omega arith) in (
          on.0 ∙ ap (λ b. record { kind = met.kind; body = b } ∷ met_in (length bytes) bytes (3 + length body)) is ∙ ap (λ l. met ∷ l) over.0,
          on.1 ∙ over.1 ∙ (omega arith),
        )

    module _ (can : can_be_read shape met.kind (length body) ≡ true) where
      is_one : is_run shape bytes ≡ true
      unfolding is_run all_read
      is_one =
          let far = le-leb (length bytes) (stop_in bytes) (omega (arith, alone.1)) in
          rw (far, alone.0, can)

      -- it is answered, and the card is what the record leaves; the answer has its four fields, and those not given are zero
      pub single : (card : Card) (room : List ℕ) → 36 ≤ length room →
          let is = one_answer card met can in
          (ruled_run shape bytes (length room) ≡ Ok 1)
          × (card_run shape paper card bytes (length room) ≡ card_behind shape paper card met)
          × (room_run shape paper card bytes room ≡ spelled is.answer ++ drop 36 room)
      unfolding card_after answers_to
      single card room fits =
          let is = one_answer card met can in
          let count = ap length alone.0 in
          let fits_one : size * length (records_in bytes) ≤ length room = omega (arith, count) in
          let to : size * length (records_in bytes) ≡ 36 = omega (arith, count) in
          let bytes-are : answers_to shape paper card (records_in bytes) ≡ spelled is.answer =
          ap (answers_to shape paper card) alone.0 ∙ append-nil (answered_in (taken_by shape paper card met).event) ∙ ap answered_in is.event_is
          ∙ spelled_is is.answer in (
            carried bytes (length room) is_one fits_one ∙ ap Ok count,
            after card bytes (length room) is_one fits_one ∙ ap (card_after shape paper card) alone.0,
            placed card bytes room is_one fits_one ∙ ap (λ l. l ++ drop (size * length (records_in bytes)) room) bytes-are
                ∙ ap (λ (n : ℕ). spelled is.answer ++ drop n room) to,
          )

  -- ---- what is refused

  -- the walk meets what is no record: a length 0, or a record cut short
  abbrev pub Broken : (run : List ℕ) → Type 0
  Broken run = next_at run (stop_in run) ≡ Fault

  -- one of its records is refused by every card
  pub record Unread (run : List ℕ) : Type 0 where
    pub before : List Met
    pub met : Met
    pub behind : List Met
    pub stands : records_in run ≡ before ++ met ∷ behind
    pub refused : (rules : Rules) (state : State) (end : ℕ)
        → record_taken rules shape state paper met.kind met.body end ≡ record { state = state; at = end; event = EventRefused Unreadable }

  unread_among : (before mets : List Met) (run : List ℕ) → records_in run ≡ before ++ mets → all_read shape mets ≡ false → Unread run
  unfolding all_read
  unread_among before [] run is e = absurd (let z : ◌≡◌ {A = ℕ} 0 1 = cc in omega arith)
  unread_among before (met ∷ more) run is e =
      by (can_be_read shape met.kind (length met.body)) refl e (unread_among (before ++ met ∷ []) more run (is ∙ sym (append_assoc before (met ∷ []) more))) where
        by : (can : Bool) → can_be_read shape met.kind (length met.body) ≡ can → (can && all_read shape more) ≡ false
            → (all_read shape more ≡ false → Unread run) → Unread run
        by true c e rest = rest e
        by false c e rest =
            record {
              before = before;
              met = met;
              behind = more;
              stands = is;
              refused = λ rules state end. rw c at (answered_or_not rules state end shape paper met.kind met.body);
            }

  read_no_more : (before behind : List Met) (met : Met) → can_be_read shape met.kind (length met.body) ≡ false
      → all_read shape (before ++ met ∷ behind) ≡ false
  unfolding all_read
  read_no_more [] behind met c = rw c
  read_no_more (first ∷ before) behind met c = rw (read_no_more before behind met c) (and-false (can_be_read shape first.kind (length first.body)))

  module _ (run : List ℕ) where
    abbrev whole_is : Bool
    whole_is = leb (length run) (stop_in run)

    broken_if : whole_is ≡ false → Broken run
    broken_if e = let far = leb-false (length run) (stop_in run) e in at_stop (walk_ends (length run) run 0 (omega arith)) far where
      at_stop : Stopped run (stop_in run) → stop_in run < length run → Broken run
      at_stop (inl end) far = absurd (let past = end-is-past run (stop_in run) end in omega arith)
      at_stop (inr fault) far = fault

    if_broken : Broken run → whole_is ≡ false
    if_broken fault = by whole_is refl where
      by : (b : Bool) → leb (length run) (stop_in run) ≡ b → b ≡ false
      by true e = let over = past_end run (stop_in run) (leb-true (length run) (stop_in run) e) in absurd (let z : ◌≡◌ {A = ℕ} 0 1 = cc in omega arith)
      by false e = refl

    if_unread : Card → Unread run → all_read shape (records_in run) ≡ false
    if_unread card unread = ap (all_read shape) unread.stands ∙ read_no_more unread.before unread.behind unread.met not_read where
      by : (can : Bool) → Answers can card.state 0 (taken_by shape paper card unread.met) → can ≡ false
      by true is = let no_event = ap (λ t. t.event) (unread.refused card.rules card.state 0) in absurd (let z : ◌≡◌ {A = ℕ} 0 1 = cc in omega arith)
      by false is = refl

      not_read : can_be_read shape unread.met.kind (length unread.met.body) ≡ false
      not_read =
          by (can_be_read shape unread.met.kind (length unread.met.body))
          (answered_or_not card.rules card.state 0 shape paper unread.met.kind unread.met.body)

    -- refusal 9 exactly there
    module _ (room : ℕ) where
      pub nine : ruled_run shape run room ≡ Err Unreadable → Broken run ⊎ Unread run
      unfolding ruled_run is_run
      nine = by whole_is (all_read shape (records_in run)) refl refl where
        other : (b : Bool) → cond b (Err NoRoomForAnswers) (Ok (length (records_in run))) ≡ Err Unreadable → ⊥
        other true e = let z : ◌≡◌ {A = ℕ} 0 1 = cc in omega arith
        other false e = let z : ◌≡◌ {A = ℕ} 0 1 = cc in omega arith

        by : (all read : Bool) → leb (length run) (stop_in run) ≡ all → all_read shape (records_in run) ≡ read
            → cond (all && read) (cond (ltb room (size * length (records_in run))) (Err NoRoomForAnswers) (Ok (length (records_in run)))) (Err Unreadable)
            ≡ Err Unreadable → Broken run ⊎ Unread run
        by true true w r e = absurd (other (ltb room (size * length (records_in run))) e)
        by true false w r e = inr (unread_among [] (records_in run) run refl r)
        by false read w r e = inl (broken_if w)

      pub nine_back : Card → Broken run ⊎ Unread run → ruled_run shape run room ≡ Err Unreadable
      unfolding ruled_run is_run
      nine_back card (inl broken) = rw (if_broken broken)
      nine_back card (inr unread) = rw (if_unread card unread, and-false whole_is)

      -- where it is not 9: 17 exactly where the room is short, and otherwise every record is answered
      pub seventeen : (ruled_run shape run room ≡ Err Unreadable → ⊥)
          → (room < size * length (records_in run) → ruled_run shape run room ≡ Err NoRoomForAnswers)
          × (size * length (records_in run) ≤ room → ruled_run shape run room ≡ Ok (length (records_in run)))
      unfolding ruled_run
      seventeen not_nine = by (is_run shape run) not_nine where
        by : (b : Bool)
            → (cond b (cond (ltb room (size * length (records_in run))) (Err NoRoomForAnswers) (Ok (length (records_in run)))) (Err Unreadable)
            ≡ Err Unreadable → ⊥)
            → (room < size * length (records_in run)
            → cond b (cond (ltb room (size * length (records_in run))) (Err NoRoomForAnswers) (Ok (length (records_in run)))) (Err Unreadable)
            ≡ Err NoRoomForAnswers)
            × (size * length (records_in run) ≤ room
            → cond b (cond (ltb room (size * length (records_in run))) (Err NoRoomForAnswers) (Ok (length (records_in run)))) (Err Unreadable)
            ≡ Ok (length (records_in run)))
        by true n = (λ h. rw (lt-ltb room (size * length (records_in run)) h), λ h. rw (le-ltb room (size * length (records_in run)) h))
        by false n = absurd (n refl)

    -- ---- what stays

    module _ (card : Card) (room : List ℕ) where
      -- for a refusal the card and every byte of the room
      pub untouched : (refusal : Refusal) → ruled_run shape run (length room) ≡ Err refusal
          → (card_run shape paper card run (length room) ≡ card) × (room_run shape paper card run room ≡ room)
      unfolding card_run room_run
      untouched refusal e = rw e (refl, refl)

      -- behind the answers the room, whatever they are
      pub beyond : (n : ℕ) → ruled_run shape run (length room) ≡ Ok n → drop (36 * n) (room_run shape paper card run room) ≡ drop (36 * n) room
      beyond n e =
          let is = done-is shape run (length room) n e in
          let answers = answers_to shape paper card (records_in run) in
          let long = answers-size card (records_in run) (parts run is.0).1 in
          let to : 36 * n ≡ length answers = omega (arith, is.2, long) in
          let rest = drop (size * length (records_in run)) room in
          ap (drop (36 * n)) (placed card run room is.0 is.1) ∙ ap (λ (k : ℕ). drop k (answers ++ rest)) to ∙ drop-append_seam answers rest
          ∙ ap (λ (k : ℕ). drop k room) (let z : size * length (records_in run) ≡ 36 * n = omega (arith, is.2) in z)
