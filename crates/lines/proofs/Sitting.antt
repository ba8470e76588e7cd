-- A sitting's lines are its events as lines. Assumes nothing.
use mathlib.Core.Path.{◌≡◌, refl}
use mathlib.Core.List.{List}
use Prim.Native.Nat.{ℕ}
use Rattle.conversation.specs.Events.{events_of}
use Rattle.lines.specs.Sitting.{lines_of, sitting_lines}

pub lines_of_events : (words paper : List ℕ) → sitting_lines words paper ≡ lines_of 0 (events_of words paper)
unfolding sitting_lines
lines_of_events words paper = refl
