-- The fields of a line, read from its text, are those that were written. Assumes nothing.
use mathlib.Core.Path.{◌≡◌, refl, sym, ◌∙◌}
use mathlib.Core.List.{List, [], ◌∷◌, append-nil}
use Prim.Native.Nat.{ℕ, zero, suc, ◌≤◌, ◌<◌}
use native.Mathlib.Omega.{arith}
use lib.ListN.{length, take, drop, replicate}
use Rattle.iad.specs.declared.Iad.{Iad}
use Rattle.iad.specs.Iad.{iad_bytes, write_iad, written}
use Rattle.hex_digits.specs.Hex.{hex_byte, hex}
use Rattle.lines.specs.Lines.{decimal, refusal_line, start_line, selected_line, cryptogram_line}
use Rattle.text.proofs.Each.{none, more}
use Rattle.hex_digits.proofs.Bytes.{hex-plain}
use Rattle.lines.proofs.Fields.{decimal-plain}
use Rattle.readback.specs.WellFormed.{Octets, Writable, OfBytes, LaidOut}
use Rattle.readback.specs.Fields.{Two, Three, Four, Five, fields_in}
use Rattle.readback.proofs.Octets.{octets}
use Rattle.readback.proofs.Words.{reads_words, says, spells}
use Rattle.readback.proofs.Leaves.{zeros, filled}

one-octet : (b : ℕ) → b < 256 → Octets (b ∷ [])
one-octet b h zero = h
one-octet b h (suc i) = omega arith

module _ (number : ℕ) (n : number < 100_000) where
  pub refusal_told : (refusal : ℕ) → refusal < 100_000 → fields_in (refusal_line number refusal) ≡ Two number refusal
  unfolding fields_in refusal_line
  refusal_told refusal r =
      let a = says number n in
      let b = says refusal r in
      let words = reads_words (decimal number) (decimal refusal ∷ []) (more (decimal-plain number) (more (decimal-plain refusal) none)) in
      rw (words, a.good, b.good, a.value, b.value)

  pub start-told : (atc : ℕ) → atc < 100_000 → fields_in (start_line number atc) ≡ Three number 0 atc
  unfolding fields_in start_line
  start-told atc t =
      let a = says number n in
      let z = says 0 (omega arith) in
      let b = says atc t in
      let plain = more (decimal-plain number) (more (decimal-plain 0) (more (decimal-plain atc) none)) in
      rw (reads_words (decimal number) (decimal 0 ∷ decimal atc ∷ []) plain, a.good, z.good, b.good, a.value, z.value, b.value)

  pub selected_told : (atc visits : ℕ) → atc < 100_000 → visits < 100_000 → fields_in (selected_line number atc visits) ≡ Four number 0 atc visits
  unfolding fields_in selected_line
  selected_told atc visits t v =
      let a = says number n in
      let z = says 0 (omega arith) in
      let b = says atc t in
      let c = says visits v in
      let plain = more (decimal-plain number) (more (decimal-plain 0) (more (decimal-plain atc) (more (decimal-plain visits) none))) in
      let words = reads_words (decimal number) (decimal 0 ∷ decimal atc ∷ decimal visits ∷ []) plain in
      rw (words, a.good, z.good, b.good, c.good, a.value, z.value, b.value, c.value)

  -- the IAD's word holds the bytes of the fields
  pub cryptogram-told : (cid atc : ℕ) (iad : Iad) (s : List ℕ) → cid < 256 → atc < 100_000 → Writable iad → OfBytes iad → LaidOut iad s
      → fields_in (cryptogram_line number cid atc iad) ≡ Five number 0 (cid ∷ []) atc s
  unfolding fields_in cryptogram_line hex
  cryptogram-told cid atc iad s c t w o l =
      let a = says number n in
      let z = says 0 (omega arith) in
      let k = spells (cid ∷ []) (one-octet cid c) in
      let b = says atc t in
      let i = spells s (octets iad s w o l) in
      let plain =
      more (decimal-plain number) (more (decimal-plain 0) (more (hex-plain (cid ∷ [])) (more (decimal-plain atc) (more (hex-plain s) none)))) in
      let words = reads_words (decimal number) (decimal 0 ∷ hex_byte cid ∷ decimal atc ∷ hex s ∷ []) plain in
      rw (filled iad s w l, words, a.good, z.good, k.good, b.good, i.good, a.value, z.value, k.bytes, b.value, i.bytes)
