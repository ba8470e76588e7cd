-- What stands next in a stack.
use Rattle.std.specs.Prelude.{ℕ}
use Rattle.intake.specs.declared.Next.{Next}
use Rattle.intake.specs.declared.Next.TheVariants.{Block, TooLong, End}

-- the bytes of it that stand at the front of the buffer
abbrev pub size_of : Next → ℕ
size_of (Block size) = size
size_of TooLong = 0
size_of End = 0
