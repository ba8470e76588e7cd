-- Two papers whose set-ups are the same but for x's start: what they begin with. Assumes nothing.
use mathlib.Core.Path.{◌≡◌, refl, sym, ap, ap₂, subst, subst₂, ◌∙◌}
use mathlib.Core.Bool.{Bool, true, false, cond}
use mathlib.Core.Logic.{◌⊎◌, inl, inr}
use mathlib.Core.List.{List}
use Prim.Native.Nat.{ℕ, ◌+◌, ◌-◌, ◌≤◌, ◌<◌, min}
use native.Mathlib.Nat.{min-le_left, min-le_right}
use native.Mathlib.Omega.{arith}
use borrow.Author.Tests.{ltb-true, ltb-false}
use lib.Dec.{leb, ltb, eqb}
use lib.ListN.{length, take, drop, length-take, length-drop, get_or-eq_default}
use lib.Seq.{get_or-take, get_or-drop}
use Rattle.refusal.specs.declared.Refusal.TheVariants.{Unreadable, BadSetup}
use Rattle.wire.specs.Wire.{byte}
use Rattle.purchase.specs.Meter.{Meter, accumulator, counter, cyclic}
use Rattle.log_tail.specs.LogTail.{judged}
use Rattle.bodies.specs.Bodies.{first_length}
use Rattle.shape.specs.declared.Shape.{Shape}
use Rattle.shape.specs.Shape.{base_part, tail_part, family_part, shape_of, shape_at, selecting_at, span_at}
use Rattle.paper.specs.declared.Next.TheVariants.{Record, Fault, End}
use Rattle.paper.specs.Paper.{end_at, is_fault_at, next_at, is_unreadable, setup_in, open_paper}
use Rattle.paper.specs.Walk.{part}
use Rattle.setup.specs.declared.ReadSetup.{ReadSetup}
use Rattle.setup.specs.Setup.{fresh_in, no_card, is_accepted, read_setup, words_after}
use Rattle.fresh.specs.Fresh.{fresh_state}
use Rattle.state.specs.declared.Phase.TheVariants.{Idle}
use Rattle.records.specs.declared.Event.TheVariants.{SetUp}
use Rattle.begun.specs.declared.Begun.{Begun}
use Rattle.begun.specs.Begun.{set_up_event, base_begun, past_begun}
use Rattle.opening.specs.Opening.{log_found, log_judged, logged_begun, shaped_begun, setup_begun, opened_begun, begun_of, logged_words, shaped_words, setup_words}
use Rattle.opening.specs.Opening.{opened_words, words_begun}
use Rattle.apart.specs.Alike.{Alike}
use Rattle.apart_papers.specs.Start.{IsSwitch, start_at, start_length, SameBut, SameSetups, SamePapers}
use Rattle.apart_papers.proofs.Bytes.{Shared, shared, same_number}
use Rattle.apart_papers.proofs.Shapes.{LateSelecting, LateLogging, Late, shape_same, shape-late, cycles-same, family-same, log-part-same}
use Rattle.apart_papers.proofs.Fresh.{long, apart-fresh}
use Rattle.std.specs.Prelude.{Err, None, Ok, Option, Result, Some}
use Rattle.log_tail.specs.declared.Fault.{Fault as LogFault}
use Rattle.log_tail.specs.declared.Fault.TheVariants.{PastData}
use Rattle.log_tail.specs.declared.Fault.TheVariants.{Wrong}
use Rattle.paper.specs.declared.Opened.{Opened}
use Rattle.refusal.specs.declared.Refusal.{Refusal}
use Rattle.shape.specs.declared.SelectionFile.{SelectionFile}
use Rattle.shape.specs.declared.Span.{Span}

-- ---- a part of bytes that are the same but for some

take_same : (from size n : ℕ) (s t : List ℕ) → SameBut from size s t → SameBut from size (take n s) (take n t)
take_same from size n s t same =
    record { as_long = length-take n s ∙ ap (λ (m : ℕ). min n m) same.as_long ∙ sym (length-take n t); elsewhere = at }
  where
    cut : (l : List ℕ) (k : ℕ) → n ≤ k → byte (take n l) k ≡ 0
    cut l k h = get_or-eq_default (take n l) 0 {n = k} (omega (arith, length-take n l, min-le_left n (length l)))

    at : (k : ℕ) → (k < from) ⊎ (from + size ≤ k) → byte (take n s) k ≡ byte (take n t) k
    at k o = by (ltb k n) refl where
      by : (b : Bool) → ltb k n ≡ b → byte (take n s) k ≡ byte (take n t) k
      by true e = get_or-take n s k 0 (ltb-true k n e) ∙ same.elsewhere k o ∙ sym (get_or-take n t k 0 (ltb-true k n e))
      by false e = let h = ltb-false k n e in cut s k h ∙ sym (cut t k h)

drop_same : (from size n : ℕ) (s t : List ℕ) → SameBut (n + from) size s t → SameBut from size (drop n s) (drop n t)
drop_same from size n s t same =
    record { as_long = length-drop n s ∙ ap (λ (m : ℕ). m - n) same.as_long ∙ sym (length-drop n t); elsewhere = at }
  where
    onward : (k : ℕ) → (k < from) ⊎ (from + size ≤ k) → (n + k < n + from) ⊎ (n + from + size ≤ n + k)
    onward k (inl h) = inl (omega arith)
    onward k (inr h) = inr (omega arith)

    at : (k : ℕ) → (k < from) ⊎ (from + size ≤ k) → byte (drop n s) k ≡ byte (drop n t) k
    at k o = get_or-drop n s k 0 ∙ same.elsewhere (n + k) (onward k o) ∙ sym (get_or-drop n t k 0)

-- ---- the paper's first record

module _ (x : Meter) (is : IsSwitch x) (p q : List ℕ) (same : SamePapers x p q) where
  pub early : (k : ℕ) → k < 14 → byte p k ≡ byte q k
  early k h = by x is same where
    by : (y : Meter) → IsSwitch y → SamePapers y p q → byte p k ≡ byte q k
    by (accumulator i) l these = these.elsewhere k (inl (omega arith))
    by (counter i) l these = these.elsewhere k (inl (omega arith))
    by (cyclic i) l these = absurd l

  pub late : (k : ℕ) → 56 ≤ k → byte p k ≡ byte q k
  late k h = by x is same where
    by : (y : Meter) → IsSwitch y → SamePapers y p q → byte p k ≡ byte q k
    by (accumulator i) l these = these.elsewhere k (inr (omega arith))
    by (counter i) l these = these.elsewhere k (inr (omega arith))
    by (cyclic i) l these = absurd l

  pub next-same : (at : ℕ) → ((k : ℕ) → k < 3 → byte p (at + k) ≡ byte q (at + k)) → next_at p at ≡ next_at q at
  unfolding next_at
  next-same at h =
      let n = same_number p q at 2 (λ k l. h k (omega arith)) in
      rw (same.as_long, n, h 2 (omega arith))

  open_same : open_paper p ≡ open_paper q
  unfolding open_paper
  open_same = rw (same.as_long, early 0 (omega arith), next-same 1 (λ k h. early (1 + k) (omega arith)))

  -- the set-up's body stands at 4
  abbrev AtFour : Result Opened Refusal → Type 0
  AtFour (Err refusal) = Unit
  AtFour (Ok opened) = opened.start ≡ 4

  at-four : AtFour (open_paper p)
  unfolding open_paper next_at
  at-four = by (is_unreadable p) (leb (length p) 1) (is_fault_at p 1) where
    by_kind : (b : Bool) → AtFour (cond {A = Result Opened Refusal} b (Ok (record { version = byte p 0; start = 4; end = end_at p 1 })) (Err Unreadable))
    by_kind true = refl
    by_kind false = tt

    by : (a b c : Bool) → AtFour (cond a (Err Unreadable) (setup_in (byte p 0) (cond b End (cond c Fault (Record (byte p 3) 4 (end_at p 1))))))
    by true b c = tt
    by false true c = tt
    by false false true = tt
    by false false false = by_kind (eqb (byte p 3) 1)

-- ---- the set-up

-- the file stands behind the head, and so does the log's tail
abbrev pub LateFile : Option SelectionFile → Type 0
LateFile None = Unit
LateFile (Some part) = 56 ≤ part.start

abbrev pub LateLog : Option Span → Type 0
LateLog None = Unit
LateLog (Some part) = 56 ≤ part.start

pub record Begins (x : Meter) (a b : Begun) (v w : List ℕ) : Type 0 where
  pub shapes : a.shape ≡ b.shape
  pub places : a.at ≡ b.at
  pub states : Alike x a.state b.state
  pub words : v ≡ w
  pub file : LateFile a.shape.selecting
  pub log : LateLog a.shape.logging
  pub idle : a.state.phase ≡ Idle
  pub behind : 56 ≤ a.at

accepted_if : (shape : Shape) (base cycles family : List ℕ) (end : ℕ) → (base_begun shape base cycles family end).event ≡ SetUp
    → is_accepted base cycles family shape.unnamed ≡ true
unfolding base_begun read_setup
accepted_if shape base cycles family end = by (is_accepted base cycles family shape.unnamed) where
  read : Bool → ReadSetup
  read b = cond b (record { fresh = fresh_in base cycles; answer = Ok tt }) (record { fresh = no_card; answer = Err BadSetup })

  by : (b : Bool) → set_up_event (read b).answer ≡ SetUp → b ≡ true
  by true e = refl
  by false e = let z : ◌≡◌ {A = ℕ} 0 1 = cc in absurd (omega arith)

module _ (x : Meter) (is : IsSwitch x) (words s t : List ℕ) (same : SameSetups x s t) (version end : ℕ) (room : length s ≤ end - 4) where
  share : Shared s t
  share = shared x is s t same

  module _ (shape : Shape) (l : Late shape) where
    abbrev cycles : List ℕ
    cycles = tail_part shape.dating s

    abbrev family : List ℕ
    family = family_part shape.family s

    bases : SameSetups x (base_part shape s) (base_part shape t)
    bases = take_same (start_at x) (start_length x) shape.base s t same

    log-same : log_judged shape s ≡ log_judged shape t
    unfolding log_judged
    log-same = by shape.logging l.logging where
      by : (logging : Option Span) → LateLogging logging → log_found logging shape s ≡ log_found logging shape t
      by None h = refl
      by (Some part) h =
          ap₂ (λ (tail : List ℕ) (profiles : ℕ). judged tail profiles (first_length shape.dating shape.family))
          (log-part-same s t share version (Some part) h) (share.early 3 (omega arith))

    file-late : (selecting : Option SelectionFile) → LateSelecting selecting → LateFile (selecting_at 4 selecting)
    file-late None h = tt
    file-late (Some part) h = omega arith

    log-late : (logging : Option Span) → LateLogging logging → LateLog (span_at 4 logging)
    log-late None h = tt
    log-late (Some part) h = omega arith

    -- the base is read, and the log is judged
    abbrev base_from : Result Unit LogFault → (body : List ℕ) → Begun
    base_from log body =
        let base = base_part shape body in
        logged_begun log (is_accepted base cycles family shape.unnamed) end (base_begun (shape_at 4 shape) base cycles family end)

    by-log : (log : Result Unit LogFault)
        → (base_from log s).event ≡ SetUp → (base_from log t).event ≡ SetUp
        → Begins x (base_from log s) (base_from log t)
        (logged_words log words (words_after words (base_part shape s) cycles family shape.syllabus shape.unnamed))
        (logged_words log words (words_after words (base_part shape t) cycles family shape.syllabus shape.unnamed))
    unfolding base_begun past_begun
    by-log (Ok done) e f =
        let good = accepted_if (shape_at 4 shape) (base_part shape s) cycles family end e in
        let fine = accepted_if (shape_at 4 shape) (base_part shape t) cycles family end f in
        let fresh = apart-fresh x is (base_part shape s) (base_part shape t) bases cycles words family shape.syllabus shape.unnamed good fine in
        let base = long (base_part shape s) cycles family shape.unnamed good in
        record {
          shapes = refl;
          places = refl;
          states = fresh.1;
          words = fresh.0;
          file = file-late shape.selecting l.selecting;
          log = log-late shape.logging l.logging;
          idle = (unfold fresh_state in refl);
          behind = omega (arith, room, base, length-take shape.base s, min-le_right shape.base (length s));
        }
    by-log (Err Wrong) e f = let z : ◌≡◌ {A = ℕ} 0 1 = cc in absurd (omega arith)
    by-log (Err PastData) e f = let z : ◌≡◌ {A = ℕ} 0 1 = cc in absurd (omega arith)

    -- the other's tails are the same
    abbrev OtherBegun : Begun
    OtherBegun = shaped_begun t 4 end (Ok shape)

    other-begun : base_from (log_judged shape s) t ≡ OtherBegun
    other-begun =
        let j = log-same in
        let c = cycles-same s t share version shape.dating l.dating in
        let f = family-same s t share version shape.family l.family in
        λ i. logged_begun (j i) (is_accepted (base_part shape t) (c i) (f i) shape.unnamed) end (base_begun (shape_at 4 shape) (base_part shape t) (c i) (f i) end)

    other-words : logged_words (log_judged shape s) words (words_after words (base_part shape t) cycles family shape.syllabus shape.unnamed)
        ≡ shaped_words words t (Ok shape)
    other-words =
        let j = log-same in
        let c = cycles-same s t share version shape.dating l.dating in
        let f = family-same s t share version shape.family l.family in
        λ i. logged_words (j i) words (words_after words (base_part shape t) (c i) (f i) shape.syllabus shape.unnamed)

    taken-begins : (shaped_begun s 4 end (Ok shape)).event ≡ SetUp → OtherBegun.event ≡ SetUp
        → Begins x (shaped_begun s 4 end (Ok shape)) OtherBegun (shaped_words words s (Ok shape)) (shaped_words words t (Ok shape))
    taken-begins e f =
        let g = ap (λ (b : Begun). b.event) other-begun ∙ f in
        subst₂ (λ (b : Begun) (w : List ℕ). Begins x (shaped_begun s 4 end (Ok shape)) b (shaped_words words s (Ok shape)) w)
        other-begun other-words (by-log (log_judged shape s) e g)

  setup-begins : (setup_begun version s 4 end).event ≡ SetUp → (setup_begun version t 4 end).event ≡ SetUp
      → Begins x (setup_begun version s 4 end) (setup_begun version t 4 end) (setup_words words version s) (setup_words words version t)
  unfolding setup_begun setup_words
  setup-begins e f =
      subst (λ (read : Result Shape Refusal). (shaped_begun t 4 end read).event ≡ SetUp
      → Begins x (shaped_begun s 4 end (shape_of version s)) (shaped_begun t 4 end read) (shaped_words words s (shape_of version s)) (shaped_words words t read))
      (shape_same s t share version) (by (shape_of version s) refl e) f
    where
      by : (read : Result Shape Refusal) → shape_of version s ≡ read → (shaped_begun s 4 end read).event ≡ SetUp → (shaped_begun t 4 end read).event ≡ SetUp
          → Begins x (shaped_begun s 4 end read) (shaped_begun t 4 end read) (shaped_words words s read) (shaped_words words t read)
      by (Err refusal) r e f = let z : ◌≡◌ {A = ℕ} 0 1 = cc in absurd (omega arith)
      by (Ok shape) r e f = taken-begins shape (shape-late s t share version shape r) e f

-- TWO PAPERS whose set-ups are the same but for x's start, both accepted
pub paper-begins : (x : Meter) → IsSwitch x → (words p q : List ℕ) → SamePapers x p q → (begun_of p).event ≡ SetUp → (begun_of q).event ≡ SetUp
    → Begins x (begun_of p) (begun_of q) (words_begun words p) (words_begun words q)
unfolding begun_of words_begun
paper-begins x is words p q same e f =
    subst (λ (opened : Result Opened Refusal). (opened_begun q opened).event ≡ SetUp
    → Begins x (opened_begun p (open_paper p)) (opened_begun q opened) (opened_words words p (open_paper p)) (opened_words words q opened))
    (open_same x is p q same) (by (open_paper p) (at-four x is p q same) e) f
  where
    by : (opened : Result Opened Refusal) → AtFour x is p q same opened → (opened_begun p opened).event ≡ SetUp → (opened_begun q opened).event ≡ SetUp
        → Begins x (opened_begun p opened) (opened_begun q opened) (opened_words words p opened) (opened_words words q opened)
    by (Err refusal) four e f = let z : ◌≡◌ {A = ℕ} 0 1 = cc in absurd (omega arith)
    by (Ok opened) four e f = subst At (sym four) from-four e f where
      from : (start : ℕ) → Opened
      from start = record { version = opened.version; start = start; end = opened.end }

      At : (start : ℕ) → Type 0
      At start =
          (opened_begun p (Ok (from start))).event ≡ SetUp → (opened_begun q (Ok (from start))).event ≡ SetUp
          → Begins x (opened_begun p (Ok (from start))) (opened_begun q (Ok (from start)))
          (opened_words words p (Ok (from start))) (opened_words words q (Ok (from start)))

      from-four : At 4
      from-four e f =
          setup-begins x is words (part p 4 opened.end) (part q 4 opened.end)
          (take_same (start_at x) (start_length x) (opened.end - 4) (drop 4 p) (drop 4 q) (drop_same (start_at x) (start_length x) 4 p q same)) opened.version opened.end
          (omega (arith, length-take (opened.end - 4) (drop 4 p), min-le_left (opened.end - 4) (length (drop 4 p)))) e f
