-- Each byte stands at its place.
use mathlib.Core.Path.{refl}
use Rattle.import.specs.Import.{bytes_of, new_bytes}
use Rattle.import.proofs.Bytes.{eight}
use Rattle.import.proofs.encode.Goals as goal

pub returns : goal.returns
unfolding new_bytes
returns c =
    simp (
      c.copy_from_slice.ensures.after,
      c.copy_from_slice-2.ensures.after,
      c.copy_from_slice-3.ensures.after,
      c.copy_from_slice-4.ensures.after,
      c.to_be_bytes.ensures,
      c.to_be_bytes-2.ensures,
      c.to_be_bytes-3.ensures,
      c.to_be_bytes-4.ensures,
      eight,
    )
    (unfold bytes_of in refl)
