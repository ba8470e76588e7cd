-- A paper's set-up (document 01, "The paper").
use Rattle.std.specs.Prelude.{ℕ, Bool, List, Err, None, Ok, Option, Result, Some}
use Rattle.refusal.specs.declared.Refusal.TheVariants.{BadSetup}
use Rattle.wire.specs.Wire.{byte}
use Rattle.setup.specs.Setup.{is_accepted, words_after}
use Rattle.log_tail.specs.LogTail.{judged}
use Rattle.bodies.specs.Bodies.{first_length}
use Rattle.shape.specs.declared.Shape.{Shape}
use Rattle.shape.specs.Shape.{base_part, tail_part, family_part, shape_of, shape_at}
use Rattle.paper.specs.Paper.{open_paper}
use Rattle.paper.specs.Walk.{part}
use Rattle.begun.specs.declared.Begun.{Begun}
use Rattle.begun.specs.Begun.{refused_at, base_begun, past_begun}
use Rattle.log_tail.specs.declared.Fault.{Fault}
use Rattle.log_tail.specs.declared.Fault.TheVariants.{PastData}
use Rattle.log_tail.specs.declared.Fault.TheVariants.{Wrong}
use Rattle.paper.specs.declared.Opened.{Opened}
use Rattle.refusal.specs.declared.Refusal.{Refusal}
use Rattle.shape.specs.declared.Span.{Span}

-- the log, where it is on (document 02, Eight): the ranges of its tail, and whether a table reaches past its data
abbrev pub log_found : Option Span → Shape → (body : List ℕ) → Result Unit Fault
log_found None shape body = Ok tt
log_found (Some part) shape body = judged (tail_part (Some part) body) (byte body 3) (first_length shape.dating shape.family)

unfoldable pub log_judged : Shape → (body : List ℕ) → Result Unit Fault
log_judged shape body = log_found shape.logging shape body

abbrev pub logged_begun : Result Unit Fault → (accepted : Bool) (end : ℕ) → Begun → Begun
logged_begun (Ok done) accepted end begun = begun
logged_begun (Err Wrong) accepted end begun = refused_at BadSetup end
logged_begun (Err PastData) accepted end begun = past_begun accepted end

-- it has the shape of its version, with its body at a place of the paper, a base, where dates are on a tail of cyclic accumulators, a CPACE
-- card's tail, and the log's
abbrev pub shaped_begun : (body : List ℕ) (place end : ℕ) → Result Shape Refusal → Begun
shaped_begun body place end (Err refusal) = refused_at refusal end
shaped_begun body place end (Ok shape) =
    let base = base_part shape body in
    let cycles = tail_part shape.dating body in
    let family = family_part shape.family body in
    logged_begun (log_judged shape body) (is_accepted base cycles family shape.unnamed) end (base_begun (shape_at place shape) base cycles family end)

unfoldable pub setup_begun : (version : ℕ) (body : List ℕ) (place end : ℕ) → Begun
setup_begun version body place end = shaped_begun body place end (shape_of version body)

abbrev pub opened_begun : (paper : List ℕ) → Result Opened Refusal → Begun
opened_begun paper (Err refusal) = refused_at refusal 0
opened_begun paper (Ok opened) = setup_begun opened.version (part paper opened.start opened.end) opened.start opened.end

unfoldable pub begun_of : (paper : List ℕ) → Begun
begun_of paper = opened_begun paper (open_paper paper)

abbrev pub logged_words : Result Unit Fault → (words then : List ℕ) → List ℕ
logged_words (Ok done) words then = then
logged_words (Err Wrong) words then = words
logged_words (Err PastData) words then = words

-- the lent words then hold the base's rules, by the paper's syllabus; where the set-up is refused they stay
abbrev pub shaped_words : (words body : List ℕ) → Result Shape Refusal → List ℕ
shaped_words words body (Err refusal) = words
shaped_words words body (Ok shape) =
    logged_words (log_judged shape body) words
    (words_after words (base_part shape body) (tail_part shape.dating body) (family_part shape.family body) shape.syllabus shape.unnamed)

unfoldable pub setup_words : (words : List ℕ) (version : ℕ) (body : List ℕ) → List ℕ
setup_words words version body = shaped_words words body (shape_of version body)

abbrev pub opened_words : (words paper : List ℕ) → Result Opened Refusal → List ℕ
opened_words words paper (Err refusal) = words
opened_words words paper (Ok opened) = setup_words words opened.version (part paper opened.start opened.end)

unfoldable pub words_begun : (words paper : List ℕ) → List ℕ
words_begun words paper = opened_words words paper (open_paper paper)
