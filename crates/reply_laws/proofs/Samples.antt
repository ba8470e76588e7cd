-- Lines of the sitting that document 01 prints, and others, read by computation: of a wrong reading the statements are then shown to be false. Assumes
-- nothing.
use mathlib.Core.Bool.{Bool, true, false, not, ◌&&◌}
use mathlib.Core.List.{List, [], ◌∷◌}
use Prim.Native.Nat.{ℕ}
use Prim.Native.Char.{code}
use Prim.Native.String.{String, [] as ε, ◌∷◌ as ◌⊳◌}
use lib.Dec.{T, eqb}
use Rattle.state.specs.State.{cid_of}
use Rattle.replies.specs.Replies.{place_of, before, behind, pair_at, decimal_from, cvr_in, reply_in, is_ending}
use Rattle.std.specs.Prelude.{None, Option, Some}
use Rattle.journal.specs.declared.Cryptogram.{Cryptogram}

-- a text's bytes
abbrev text : String → List ℕ
text ε = []
text (c ⊳ s) = code c ∷ text s

-- a reply gives a cryptogram of this CID, ATC, profile and CVR
abbrev gives : Option Cryptogram → (cid atc profile cvr : ℕ) → Bool
gives None cid atc profile cvr = false
gives (Some given) cid atc profile cvr =
    eqb (cid_of given.kind) cid && eqb given.atc atc && eqb given.profile profile && eqb given.cvr cvr

abbrev gives_none : Option Cryptogram → Bool
gives_none None = true
gives_none (Some given) = false

-- the first line of a text
abbrev heard : String → Option Cryptogram
heard s = reply_in (before 10 (text s))

abbrev ending : String → Bool
ending s = is_ending (before 10 (text s))

pub record Samples : Type 0 where
  pub tc : T (gives (heard "2 0 40 1 0FA501903000000000000000500001000F010000000000000000000000000000\n3 0 2\n") 0x40 1 1 0x90_30_00_00_00)
  pub arqc : T (gives (heard "4 0 80 2 0FA501A03020000000000000500001000F010000000000000000000000000000\n") 0x80 2 1 0xA0_30_20_00_00)
  pub aac : T (gives (heard "7 0 00 3 0FA501823130000000000000500102000F010000000000000000000000000000\n8 2\n") 0x00 3 1 0x82_31_30_00_00)
  pub start : T (gives_none (heard "3 0 2\n"))
  pub refusal : T (gives_none (heard "8 2\n"))
  -- refusal 9 ends a paper, whatever its record's number; no other refusal does, nor record 9
  pub ends : T (ending "9 9\n" && ending "12 9\n")
  pub goes_on_lem : T (not (ending "8 2\n") && not (ending "8 19\n"))
  pub ninth_goes_on : T (not (ending "9 0 3\n") && not (ending "9 2\n"))

pub samples : Samples
unfolding place_of before behind pair_at decimal_from cvr_in reply_in is_ending
samples =
    record {
      tc = tt;
      arqc = tt;
      aac = tt;
      start = tt;
      refusal = tt;
      ends = tt;
      goes_on_lem = tt;
      ninth_goes_on = tt;
    }
