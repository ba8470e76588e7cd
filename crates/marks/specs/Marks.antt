-- What a card keeps of issuer scripts (request Twelve; CPA 18.8 and 20), in one byte: b8 to b5 count the commands done, b4 says whether one failed,
-- b1 whether one failed since the last accepted Start. b3 and b2 are 0 on every card; where they are not, they stay
use Rattle.std.specs.Prelude.{ℕ, ◌+◌, ◌*◌, ◌/◌, ◌%◌, Bool, true, false, cond, ◌&&◌, ◌==◌}
use Rattle.marks.specs.declared.Scripts.{Scripts}

abbrev pub count_of : Scripts → ℕ
count_of scripts = scripts.0 / 16

abbrev pub has_failed : Scripts → Bool
has_failed scripts = scripts.0 / 8 % 2 == 1

abbrev pub has_failed_here : Scripts → Bool
has_failed_here scripts = scripts.0 % 2 == 1

abbrev pub rest_of : Scripts → ℕ
rest_of scripts = scripts.0 / 2 % 4

-- the byte of these
unfoldable pub kept : (count : ℕ) → (failed here : Bool) → (rest : ℕ) → Scripts
kept count failed here rest = record { 0 = count * 16 + cond failed 8 0 + rest * 2 + cond here 1 0 }

unfoldable pub fresh_scripts : Scripts
fresh_scripts = kept 0 false false 0

-- a command is done; one fails
unfoldable pub one_done : Scripts → Scripts
one_done scripts = kept ((count_of scripts + 1) % 16) (has_failed scripts) (has_failed_here scripts) (rest_of scripts)

unfoldable pub one_failed : Scripts → Scripts
one_failed scripts = kept (count_of scripts) true true (rest_of scripts)

-- an accepted Start
unfoldable pub started : Scripts → Scripts
started scripts = kept (count_of scripts) (has_failed scripts) false (rest_of scripts)

-- a Second that verified, or absent with authentication not required: failed is cleared if here is not set
unfoldable pub heard : Scripts → Scripts
heard scripts = kept (count_of scripts) (has_failed scripts && has_failed_here scripts) (has_failed_here scripts) (rest_of scripts)

-- CVR byte 4 of a First: b8 to b5 the count, b4 failed
unfoldable pub marks_of : Scripts → ℕ
marks_of scripts = (kept (count_of scripts) (has_failed scripts) false 0).0
