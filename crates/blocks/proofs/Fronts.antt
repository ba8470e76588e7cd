-- What stands at the front of the bytes at hand, case by case. Assumes nothing.
use mathlib.Core.Path.{◌≡◌}
use mathlib.Core.List.{List, []}
use Prim.Native.Nat.{ℕ, ◌+◌, ◌-◌, ◌≤◌, ◌<◌}
use borrow.Author.Tests.{lt-ltb, le-ltb}
use lib.ListN.{length}
use Rattle.blocks.specs.declared.Front.TheVariants.{Done, Paper}
use Rattle.blocks.specs.declared.Wants.TheVariants.{Turn}
use Rattle.blocks.specs.Blocks.{longest_paper, size_of, passing, waiting, said_by, room_by, front_of, front_room}

module _ (room : List ℕ) (to skip : ℕ) (input : List ℕ) where
  pub passed : 0 < skip
      → (front_of (length room) to skip input ≡ Done (said_by (length room) to skip (passing skip [] input)))
      × (front_room room to skip input ≡ room_by room to (passing skip [] input))
  unfolding front_of front_room
  passed some = let s = lt-ltb 0 skip some in (rw s, rw s)

  module _ (none : skip ≤ 0) where
    pub stays : front_room room to skip input ≡ room
    unfolding front_room
    stays = rw (le-ltb 0 skip none)

    pub no_length : length input < 4 → front_of (length room) to skip input ≡ Done (waiting 0 0 to)
    unfolding front_of
    no_length few = rw (le-ltb 0 skip none, lt-ltb (length input) 4 few)

    module _ (four : 4 ≤ length input) where
      pub too_long_lem : longest_paper < size_of input
          → front_of (length room) to skip input ≡ Done (record { taken = 4; skip = size_of input; end = to; wants = Turn })
      unfolding front_of
      too_long_lem long = rw (le-ltb 0 skip none, le-ltb (length input) 4 four, lt-ltb longest_paper (size_of input) long)

      module _ (fits : size_of input ≤ longest_paper) where
        pub no_paper : length input - 4 < size_of input → front_of (length room) to skip input ≡ Done (waiting 0 0 to)
        unfolding front_of
        no_paper few =
            rw (
              le-ltb 0 skip none,
              le-ltb (length input) 4 four,
              le-ltb longest_paper (size_of input) fits,
              lt-ltb (length input - 4) (size_of input) few,
            )

        pub whole : size_of input ≤ length input - 4 → front_of (length room) to skip input ≡ Paper (4 + size_of input)
        unfolding front_of
        whole there =
            rw (
              le-ltb 0 skip none,
              le-ltb (length input) 4 four,
              le-ltb longest_paper (size_of input) fits,
              le-ltb (length input - 4) (size_of input) there,
            )
