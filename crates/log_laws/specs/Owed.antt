-- The log that a paper owes (document 02, Eight): the lines of its newest logged transactions, from its commands, their places and their answers.
use Rattle.std.specs.Prelude.{ℕ, ◌+◌, cond, List, [], ◌∷◌, ltb, length, take}
use Rattle.wire.specs.Wire.{byte}
use Rattle.rules.specs.Rules.{rules_of}
use Rattle.opening.specs.Opening.{begun_of, words_begun}
use Rattle.conversation.specs.Events.{events_of}
use Rattle.ring.specs.declared.Record.{Record}
use Rattle.ring.specs.Ring.{slots_of}
use Rattle.journal.specs.Logged.{Seen, logged_in, turned}
use Rattle.log_fields.specs.declared.Form.{Form}
use Rattle.log_lines.specs.LogLines.{log_line}
use Rattle.paper_log.specs.declared.Log.{Log}
use Rattle.paper_log.specs.Log.{tail_at, log_of}
use Rattle.log_laws.specs.Spoken.{seen_from, is_whole}

-- the log that a paper's set-up describes, with the words that the paper was lent
unfoldable pub log_in : (words paper : List ℕ) → Log
log_in words paper = log_of (rules_of (words_begun words paper)) (begun_of paper).shape paper

-- its records that are answered, the oldest first
unfoldable pub seen_in : (words paper : List ℕ) → List Seen
seen_in words paper =
    let begun = begun_of paper in
    seen_from (length paper) (rules_of (words_begun words paper)) begun.shape begun.state paper begun.at

-- THE TRANSACTIONS THAT ARE LOGGED, the newest first
unfoldable pub logged_of : (words paper : List ℕ) → List Record
logged_of words paper = logged_in (log_in words paper).logging (turned [] (seen_in words paper))

-- the lines of transactions, numbered from a number on
unfoldable pub lines_from : (paper tail : List ℕ) → Form → (number : ℕ) → List Record → List (List ℕ)
lines_from paper tail form number [] = []
lines_from paper tail form number (transaction ∷ older) =
    log_line number paper tail form transaction ∷ lines_from paper tail form (number + 1) older

-- of the newest, as many as the ring has slots, the newest being 1
unfoldable pub newest_lines : Log → (paper : List ℕ) → List Record → List (List ℕ)
newest_lines log paper logged =
    lines_from paper (tail_at paper log.start log.end) log.form 1 (take (slots_of log.logging.size) logged)

-- none where a refusal ended the paper
unfoldable pub whole_lines : (words paper : List ℕ) → List (List ℕ)
whole_lines words paper = cond (is_whole (events_of words paper)) (newest_lines (log_in words paper) paper (logged_of words paper)) []

-- THE LINES OF A PAPER'S LOG, from version 07 on
unfoldable pub log_owed : (words paper : List ℕ) → List (List ℕ)
log_owed words paper = cond (ltb (byte paper 0) 7) [] (whole_lines words paper)
