-- The lines of a paper (document 01, "A sitting in full"): the set-up's is 0, each command's is numbered one higher than the one before.
use Rattle.std.specs.Prelude.{Bool, cond, List, [], ◌∷◌, ◌++◌, ℕ, ◌+◌, length}
use Rattle.lines.specs.Lines.{refusal_line}
use Rattle.lines.specs.Sitting.{answer_line}
use Rattle.demands.specs.Conversation.{Exchange}
use Rattle.papers.specs.Papers.{setup_of, commands_of, faulty}
use Rattle.papers.specs.Talk.{talk}

-- the lines of the answers, with their numbers
abbrev pub answer_lines : (number : ℕ) → List Exchange → List (List ℕ)
answer_lines number [] = []
answer_lines number (exchange ∷ more) = answer_line number exchange.answer ∷ answer_lines (number + 1) more

-- a fault's line, behind all of them
abbrev pub ending_lines : (number : ℕ) (fault : Bool) → List (List ℕ)
ending_lines number fault = cond fault (refusal_line number 9 ∷ []) []

-- THE LINES OF AN ACCEPTED PAPER
abbrev pub lines_by : (paper : List ℕ) → List (List ℕ)
lines_by paper =
    refusal_line 0 0
    ∷ (answer_lines 1 (talk (setup_of paper) (commands_of paper)) ++ ending_lines (1 + length (commands_of paper)) (faulty paper))

-- the text: all lines, one behind the other
abbrev pub text : List (List ℕ) → List ℕ
text [] = []
text (line ∷ more) = line ++ text more
