-- The bytes that are there after a read, one that failed too.
use Rattle.std.specs.Prelude.{ℕ, Ok, Err, Result}
use Rattle.streams.specs.declared.Unread.{Unread}

abbrev pub there : Result ℕ Unread → ℕ
there (Ok filled) = filled
there (Err unread) = unread.filled
