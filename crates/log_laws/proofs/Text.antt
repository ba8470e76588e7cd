-- THE TEXT OF EVERY PAPER: its lines, and behind them those of the log that it owes. Assumes nothing.
use mathlib.Core.Path.{◌≡◌, refl, sym, ap, ◌∙◌}
use mathlib.Core.Bool.{Bool, true, false, cond}
use mathlib.Core.List.{List, [], ◌∷◌, ◌++◌, append_assoc}
use Prim.Native.Nat.{ℕ, ◌<◌}
use borrow.Author.Tests.{lt-ltb}
use lib.Dec.{ltb}
use lib.ListN.{length}
use Rattle.wire.specs.Wire.{byte}
use Rattle.text.specs.Text.{joined}
use Rattle.refusal.specs.declared.Refusal.{Refusal}
use Rattle.rules.specs.Word.{word_count}
use Rattle.rules.specs.Rules.{rules_of, blank_words}
use Rattle.records.specs.declared.Event.TheVariants.{Refused}
use Rattle.opening.specs.Opening.{begun_of, words_begun}
use Rattle.conversation.specs.Events.{events_of}
use Rattle.lines.specs.Sitting.{sitting_lines}
use Rattle.paper_log.specs.Log.{log_of}
use Rattle.log_book.specs.Logbook.{shaped_behind}
use Rattle.spelling.specs.Spelling.{Bytes}
use Rattle.transcript.specs.Transcript.{transcript_of}
use Rattle.paper_text.specs.PaperText.{log_behind, text_of}
use Rattle.log_laws.specs.Spoken.{is_whole}
use Rattle.log_laws.specs.Owed.{log_in, logged_of, lines_from, newest_lines, whole_lines, log_owed}
use Rattle.log_laws.proofs.Log.{shaped_log}
use Rattle.std.specs.Prelude.{None}

-- below version 07 there is no log, whatever the lines are
pub no_log_below : (paper text : List ℕ) → byte paper 0 < 7 → log_behind paper text ≡ []
unfolding log_behind
no_log_below paper text h = rw (lt-ltb (byte paper 0) 7 h)

both_joined : (lines others : List (List ℕ)) → joined (lines ++ others) ≡ joined lines ++ joined others
unfolding joined
both_joined [] others = refl
both_joined (line ∷ lines) others =
    ap (λ (t : List ℕ). line ++ t) (both_joined lines others) ∙ sym (append_assoc line (joined lines) (joined others))

module _ (words paper : List ℕ) (lent : length words ≡ word_count) (bytes : Bytes paper) where
  abbrev log_text : List ℕ
  log_text = log_behind paper (transcript_of words paper)

  -- THE LOG OF EVERY PAPER IS THE ONE THAT IT OWES
  pub every_log : log_text ≡ joined (log_owed words paper)
  unfolding log_behind transcript_of log_owed
  every_log = by (ltb (byte paper 0) 7) where
    by : (older : Bool)
        → cond older []
        (shaped_behind (rules_of (words_begun blank_words paper)) (begun_of paper).shape paper (begun_of paper).at (joined (sitting_lines words paper)))
        ≡ joined (cond older [] (whole_lines words paper))
    by true = (unfold joined in refl)
    by false = shaped_log words paper lent bytes

  -- THE TEXT
  pub text-lines : text_of words paper ≡ joined (sitting_lines words paper ++ log_owed words paper)
  unfolding text_of transcript_of
  text-lines = ap (λ (t : List ℕ). joined (sitting_lines words paper) ++ t) every_log ∙ sym (both_joined (sitting_lines words paper) (log_owed words paper))

  -- VERSION 07, NOTHING HAVING ENDED THE PAPER: the newest of the transactions that are logged
  pub log-lines : byte paper 0 ≡ 7 → is_whole (events_of words paper) ≡ true
      → log_text ≡ joined (newest_lines (log_in words paper) paper (logged_of words paper))
  unfolding log_owed whole_lines
  log-lines seven whole = every_log ∙ rw (seven, whole)

  -- A REFUSAL THAT ENDED IT LEAVES NONE, the set-up's among them
  pub no_log_ended : is_whole (events_of words paper) ≡ false → log_text ≡ []
  unfolding log_owed whole_lines joined
  no_log_ended ended = every_log ∙ rw ended (by (ltb (byte paper 0) 7)) where
    by : (older : Bool) → joined (cond older [] []) ≡ []
    by true = refl
    by false = refl

  pub no_log_unset : (refusal : Refusal) → (begun_of paper).event ≡ Refused refusal → log_text ≡ []
  unfolding events_of is_whole
  no_log_unset refusal e = no_log_ended (rw e)

  -- and so does a ring of size 0, and a log that is off
  pub no_log_of_0 : (log_in words paper).logging.size ≡ 0 → log_text ≡ []
  unfolding log_owed whole_lines newest_lines lines_from joined
  no_log_of_0 none = every_log ∙ rw none (by (ltb (byte paper 0) 7) (is_whole (events_of words paper))) where
    by : (older whole : Bool) → joined (cond older [] (cond whole [] [])) ≡ []
    by true whole = refl
    by false true = refl
    by false false = refl

  pub no_log_off : (begun_of paper).shape.logging ≡ None → log_text ≡ []
  no_log_off off = no_log_of_0 (unfold log_in log_of in rw off)
