-- One law for each tail: an older body with the byte 00 behind it is the newer one with the addition off. Assumes nothing.
use mathlib.Core.Path.{◌≡◌, refl, ap, subst, ◌∙◌}
use mathlib.Core.Bool.{Bool, true, false, cond}
use mathlib.Core.List.{List, [], ◌∷◌, ◌++◌}
use Prim.Native.Nat.{ℕ, zero, suc, ◌+◌}
use native.Mathlib.Omega.{arith}
use borrow.Author.Tests.{le-ltb, ltb-true, ltb-false, le-leb, lt-leb, leb-true, leb-false, eq-eqb, ne_eqb, eqb-true, eqb-false}
use lib.Dec.{eqb, ltb, leb, lit≤}
use lib.ListN.{length, length-append, get_or-eq_default}
use lib.Seq.{get_or-append_seam}
use Rattle.wire.specs.Wire.{byte}
use Rattle.refusal.specs.declared.Refusal.TheVariants.{BadSetup}
use Rattle.shape.specs.declared.Family.TheVariants.{Cpa, Cpace}
use Rattle.shape.specs.declared.Shape.{Shape}
use Rattle.shape.specs.Shape.{base_length, based, base_tail, entries_end, file_end, selects, selection_tail, follows, syllabus_tail}
use Rattle.shape.specs.Shape.{dates, dates_end, dating_tail, families, family_end, family_tail, scripts, scripting_tail}
use Rattle.shape.specs.Shape.{logs, log_end, logging_tail, behind, tails_of, whole, shape_of}
use Rattle.shape.proofs.Ends.{Ends, behind-ends, end-ends, switched_ends}
use Rattle.shape.proofs.Scripting.{off-before}
use Rattle.std.specs.Prelude.{Err, None, Ok, Option, Some}
use Rattle.shape.specs.Shape.{ended_at}
use Rattle.shape.specs.Shape.{span}
use Rattle.shape.specs.declared.Tails.{Tails}

-- a byte past the end reads as 0
pub same_byte : (body : List ℕ) (at : ℕ) → byte (body ++ 0 ∷ []) at ≡ byte body at
same_byte [] zero = refl
same_byte [] (suc at) = refl
same_byte (x ∷ body) zero = refl
same_byte (x ∷ body) (suc at) = same_byte body at

module _ (body : List ℕ) where
  abbrev newer : List ℕ
  newer = body ++ 0 ∷ []

  longer : length newer ≡ length body + 1
  longer = length-append body (0 ∷ [])

  same_entries : (at n : ℕ) → entries_end newer at n ≡ entries_end body at n
  unfolding entries_end
  same_entries at zero = refl
  same_entries at (suc n) = rw (same_entries at n, same_byte body (entries_end body at n))

  same-file : (at : ℕ) → file_end newer at ≡ file_end body at
  same-file at = ap (entries_end newer (at + 2)) (same_byte body (at + 1)) ∙ same_entries (at + 2) (byte body (at + 1))

  -- ---- tails of the two are the same, or they end past the older body

  data Near : Option Tails → Option Tails → Type 0 where
    same : {t : Option Tails} → Near t t
    past : (shape : Shape) → Near (ended_at shape (length body + 1)) None

  -- tails that end in a body, or past it
  near_end : (shape : Shape) (end : ℕ)
      → Near (cond (ltb (length body + 1) end) None (ended_at shape end)) (cond (ltb (length body) end) None (ended_at shape end))
  near_end shape end = by (ltb (length body) end) (ltb (length body + 1) end) refl refl where
    by : (older later : Bool) → ltb (length body) end ≡ older → ltb (length body + 1) end ≡ later
        → Near (cond later None (ended_at shape end)) (cond older None (ended_at shape end))
    by true true h k = same
    by true false h k =
        let one : length body + 1 ≡ end = omega (arith, ltb-true (length body) end h, ltb-false (length body + 1) end k) in
        subst (λ (at : ℕ). Near (ended_at shape at) None) one (past shape)
    by false true h k = absurd (omega (arith, ltb-false (length body) end h, ltb-true (length body + 1) end k))
    by false false h k = same

  near_base : Near (base_tail newer) (base_tail body)
  unfolding base_tail
  near_base = rw (same_byte body 3, same_byte body 4, longer) (near_end (based (base_length body)) (base_length body))

  -- a tail that is near by itself, and missing where nothing is left
  record Grows (tail : List ℕ → Shape → ℕ → Option Tails) : Type 0 where
    near : (shape : Shape) (at : ℕ) → Near (tail newer shape at) (tail body shape at)
    missing : (shape : Shape) → tail newer shape (length body + 1) ≡ None

  -- it is near behind what is near
  near_behind : (tail : List ℕ → Shape → ℕ → Option Tails) → Grows tail
      → {later older : Option Tails} → Near later older → Near (behind later (tail newer)) (behind older (tail body))
  near_behind tail grows {older = None} same = same
  near_behind tail grows {older = Some tails} same = grows.near tails.shape tails.at
  near_behind tail grows (past shape) = rw (grows.missing shape) same

  near_ended : {later older : Option Tails} → Near later older → (shape : Shape) (at : ℕ) → older ≡ ended_at shape at → later ≡ ended_at shape at
  near_ended same shape at e = e
  near_ended (past other) shape at e = cc

  -- what is taken whole ends where the body does
  taken-ended : (tails : Option Tails) (shape : Shape) → whole body tails ≡ Ok shape → tails ≡ ended_at shape (length body)
  taken-ended None shape e = cc
  taken-ended (Some tails) shape e = by (eqb tails.at (length body)) refl e where
    by : (b : Bool) → eqb tails.at (length body) ≡ b → cond b (Ok tails.shape) (Err BadSetup) ≡ Ok shape → (Some tails) ≡ ended_at shape (length body)
    by true h e =
        let said : tails.shape ≡ shape = cc in
        ap (λ (s : Shape). ended_at s tails.at) said ∙ ap (ended_at shape) (eqb-true tails.at (length body) h)
    by false h e = cc

  -- a tail with a switch: off, it ends behind the switch; on, as it says
  module _ (off : Shape → Shape) (on : List ℕ → Shape → ℕ → Option Tails) where
    abbrev switch_tail : List ℕ → Shape → ℕ → Option Tails
    switch_tail s shape at =
        cond (leb (length s) at) None (cond (eqb (byte s at) 0) (ended_at (off shape) (at + 1)) (cond (ltb 1 (byte s at)) None (on s shape at)))

    near_switch : (shape : Shape) (at : ℕ) → Near (on newer shape at) (on body shape at) → Near (switch_tail newer shape at) (switch_tail body shape at)
    near_switch shape at near =
        rw (same_byte body at, longer)
        (by near (leb (length body) at) (leb (length body + 1) at) refl refl (eqb (byte body at) 0) refl (ltb 1 (byte body at)))
      where
        by : {x y : Option Tails} → Near x y → (older later : Bool) → leb (length body) at ≡ older → leb (length body + 1) at ≡ later
            → (clear : Bool) → eqb (byte body at) 0 ≡ clear → (above : Bool)
            → Near (cond later None (cond clear (ended_at (off shape) (at + 1)) (cond above None x)))
            (cond older None (cond clear (ended_at (off shape) (at + 1)) (cond above None y)))
        by e true true h k clear z above = same
        by e true false h k true z above =
            let here : at ≡ length body = omega (arith, leb-true (length body) at h, leb-false (length body + 1) at k) in
            rw here (past (off shape))
        by e true false h k false z above =
            absurd (eqb-false (byte body at) 0 z (get_or-eq_default body 0 (leb-true (length body) at h)))
        by e false true h k clear z above = absurd (omega (arith, leb-false (length body) at h, leb-true (length body + 1) at k))
        by e false false h k true z above = same
        by e false false h k false z true = same
        by e false false h k false z false = e

    switch_grows : ((shape : Shape) (at : ℕ) → Near (on newer shape at) (on body shape at)) → Grows switch_tail
    switch_grows near =
        record {
          near = λ shape at. near_switch shape at (near shape at);
          missing = λ shape. rw (longer, le-leb (length body + 1) (length body + 1) (omega arith));
        }

    -- where the older body ends, it is the byte 00
    switch_clear : (shape : Shape) → switch_tail newer shape (length body) ≡ ended_at (off shape) (length body + 1)
    switch_clear shape = rw (longer, lt-leb (length body + 1) (length body) (omega arith), get_or-append_seam body 0 [] 0)

    -- behind what was taken it is off
    switch-off : (shape : Shape) {later older : Option Tails} → Near later older → whole body older ≡ Ok shape
        → whole newer (behind later (switch_tail newer)) ≡ Ok (off shape)
    switch-off shape near e =
        rw (near_ended near shape (length body) (taken-ended _ shape e), switch_clear shape, longer, eq-eqb (length body + 1) (length body + 1) refl)

  -- the selection, dates, the family and the log, where they are on
  abbrev file_on : List ℕ → Shape → ℕ → Option Tails
  file_on s shape at = cond (ltb (length s) (file_end s at)) None (ended_at (selects shape (at + 2) (file_end s at) (byte s (at + 1))) (file_end s at))

  abbrev dates_on : List ℕ → Shape → ℕ → Option Tails
  dates_on s shape at = cond (ltb (length s) (dates_end s at)) None (ended_at (dates shape (Some (span at (dates_end s at)))) (dates_end s at))

  abbrev family_on : List ℕ → Shape → ℕ → Option Tails
  family_on s shape at = cond (ltb (length s) (family_end s at)) None (ended_at (families shape (Cpace at (family_end s at))) (family_end s at))

  abbrev log_on : List ℕ → Shape → ℕ → Option Tails
  log_on s shape at = cond (ltb (length s) (log_end s at)) None (ended_at (logs shape (Some (span at (log_end s at)))) (log_end s at))

  -- ---- selection: behind a base that is the body stands the switch

  module _ (sized : length body ≡ base_length body) where
    base_older : base_tail body ≡ ended_at (based (length body)) (length body)
    unfolding base_tail
    base_older = rw (← sized, le-ltb (length body) (length body) (omega arith))

    base_newer : base_tail newer ≡ ended_at (based (length body)) (length body)
    unfolding base_tail
    base_newer = rw (same_byte body 3, same_byte body 4, longer, ← sized, le-ltb (length body + 1) (length body) (omega arith))

    -- SELECTION OFF
    pub selection-off : shape_of 2 newer ≡ shape_of 1 body
    unfolding shape_of tails_of selection_tail
    selection-off =
        rw (base_older, base_newer, switch_clear (λ shape. shape) file_on (based (length body)), longer)
        (rw (eq-eqb (length body) (length body) refl, eq-eqb (length body + 1) (length body + 1) refl))

  -- ---- the syllabus: behind the tails up to version 02 stands its byte

  near_selection : Grows selection_tail
  unfolding selection_tail
  near_selection =
      switch_grows (λ shape. shape) file_on
      (λ shape at. rw (same_byte body (at + 1), same_entries (at + 2) (byte body (at + 1)), longer) (near_end _ _))

  near_2 : Near (behind (base_tail newer) (selection_tail newer)) (behind (base_tail body) (selection_tail body))
  near_2 = near_behind selection_tail near_selection near_base

  -- 0 sets nothing
  abbrev Unset : (Shape → ℕ → Shape) → Shape → Type 0
  Unset sets shape = sets shape 0 ≡ shape

  -- a tail of one byte, 0 or 1, that sets something of a shape
  module _ (sets : Shape → ℕ → Shape) where
    abbrev byte_tail : List ℕ → Shape → ℕ → Option Tails
    byte_tail s shape at = cond (leb (length s) at) None (cond (ltb 1 (byte s at)) None (ended_at (sets shape (byte s at)) (at + 1)))

    near_byte : (shape : Shape) (at : ℕ) → Near (byte_tail newer shape at) (byte_tail body shape at)
    near_byte shape at =
        rw (same_byte body at, longer) (by (leb (length body) at) (leb (length body + 1) at) refl refl (ltb 1 (byte body at)) refl)
      where
        by : (older later : Bool) → leb (length body) at ≡ older → leb (length body + 1) at ≡ later → (above : Bool) → ltb 1 (byte body at) ≡ above
            → Near (cond later None (cond above None (ended_at (sets shape (byte body at)) (at + 1))))
            (cond older None (cond above None (ended_at (sets shape (byte body at)) (at + 1))))
        by true true h k above l = same
        by true false h k above l =
            let here : at ≡ length body = omega (arith, leb-true (length body) at h, leb-false (length body + 1) at k) in
            let none : byte body at ≡ 0 = get_or-eq_default body 0 (leb-true (length body) at h) in
            rw (← l, none, here) (past (sets shape 0))
        by false true h k above l = absurd (omega (arith, leb-false (length body) at h, leb-true (length body + 1) at k))
        by false false h k above l = same

    missing-byte : (shape : Shape) → byte_tail newer shape (length body + 1) ≡ None
    missing-byte shape = rw (longer, le-leb (length body + 1) (length body + 1) (omega arith))

    byte_grows : Grows byte_tail
    byte_grows = record { near = near_byte; missing = missing-byte }

    -- where the older body ends, it is the byte 00; elsewhere both are refused
    byte_last : (shape : Shape) (at : ℕ) → Unset sets shape → whole newer (byte_tail newer shape at) ≡ whole body (ended_at shape at)
    byte_last shape at z =
        rw (same_byte body at, longer) (by (eqb at (length body)) refl (leb (length body + 1) at) refl (ltb 1 (byte body at)) refl)
      where
        by : (ended : Bool) → eqb at (length body) ≡ ended → (missing : Bool) → leb (length body + 1) at ≡ missing
            → (above : Bool) → ltb 1 (byte body at) ≡ above
            → whole newer (cond missing None (cond above None (ended_at (sets shape (byte body at)) (at + 1))))
            ≡ cond ended (Ok shape) (Err BadSetup)
        by true h true k above l = absurd (omega (arith, eqb-true at (length body) h, leb-true (length body + 1) at k))
        by true h false k above l =
            let here = eqb-true at (length body) h in
            let none : byte body at ≡ 0 = get_or-eq_default body 0 (omega arith) in
            rw (← l, none, longer, eq-eqb (at + 1) (length body + 1) (omega arith)) (ap (λ (s : Shape). Ok s) z)
        by false h true k above l = refl
        by false h false k true l = refl
        by false h false k false l = rw (longer, ne_eqb (at + 1) (length body + 1) (λ e. eqb-false at (length body) h (omega arith)))

    last : {later older : Option Tails} → Near later older → Ends (Unset sets) older → whole newer (behind later (byte_tail newer)) ≡ whole body older
    last {older = None} same z = refl
    last {older = Some tails} same z = byte_last tails.shape tails.at z
    last (past shape) z = rw (missing-byte shape)

  -- up to version 02 no syllabus is set
  unset_base : Ends (Unset follows) (base_tail body)
  unfolding base_tail
  unset_base = end-ends body (Unset follows) (based (base_length body)) (base_length body) refl

  unset_selection : (shape : Shape) (at : ℕ) → Unset follows shape → Ends (Unset follows) (selection_tail body shape at)
  unfolding selection_tail
  unset_selection shape at z =
      let selected = ap (λ (s : Shape). selects s (at + 2) (file_end body at) (byte body (at + 1))) z in
      switched_ends body (Unset follows) at shape _ (file_end body at) z selected

  unset_2 : Ends (Unset follows) (behind (base_tail body) (selection_tail body))
  unset_2 = behind-ends (Unset follows) (Unset follows) (base_tail body) (selection_tail body) unset_selection unset_base

  -- SYLLABUS 0
  pub syllabus-off : shape_of 3 newer ≡ shape_of 2 body
  unfolding shape_of tails_of syllabus_tail
  syllabus-off = last follows near_2 unset_2

  -- ---- dates: a body that is taken ends with its syllabus, and behind it stands the switch

  near_syllabus : Grows syllabus_tail
  unfolding syllabus_tail
  near_syllabus = byte_grows follows

  near_3 : Near (tails_of 3 newer) (tails_of 3 body)
  unfolding tails_of
  near_3 = near_behind syllabus_tail near_syllabus near_2

  -- DATES OFF: the older shape, but that mask bits 22 to 24 are named
  pub dates-off : (shape : Shape) → shape_of 3 body ≡ Ok shape → shape_of 4 newer ≡ Ok (dates shape None)
  unfolding shape_of tails_of dating_tail
  dates-off shape e = switch-off (λ s. dates s None) dates_on shape near_3 e

  -- ---- the family: a body that is taken ends with its dates, and behind them stands the family

  near_dating : Grows dating_tail
  unfolding dating_tail
  near_dating = switch_grows (λ s. dates s None) dates_on (λ shape at. rw (same_byte body 3, longer) (near_end _ _))

  near_4 : Near (tails_of 4 newer) (tails_of 4 body)
  unfolding tails_of
  near_4 = near_behind dating_tail near_dating near_3

  -- A CPA CARD: the older shape, but that mask bit 25 is named
  pub family-off : (shape : Shape) → shape_of 4 body ≡ Ok shape → shape_of 5 newer ≡ Ok (families shape Cpa)
  unfolding shape_of tails_of family_tail
  family-off shape e = switch-off (λ s. families s Cpa) family_on shape near_4 e

  -- ---- scripts: behind the tails up to version 05 stands their byte

  near_family : Grows family_tail
  unfolding family_tail
  near_family = switch_grows (λ s. families s Cpa) family_on (λ shape at. rw (same_byte body 3, longer) (near_end _ _))

  near_5 : Near (tails_of 5 newer) (tails_of 5 body)
  unfolding tails_of
  near_5 = near_behind family_tail near_family near_4

  -- SCRIPTS OFF
  pub scripts-off : shape_of 6 newer ≡ shape_of 5 body
  unfolding shape_of tails_of scripting_tail
  scripts-off = last (λ shape b. scripts shape (eqb b 1)) near_5 (off-before body 5 (lit≤ tt))

  -- ---- the log: a body that is taken ends with its scripts, and behind them stands the switch

  near_scripting : Grows scripting_tail
  unfolding scripting_tail
  near_scripting = byte_grows (λ shape b. scripts shape (eqb b 1))

  near_6 : Near (tails_of 6 newer) (tails_of 6 body)
  unfolding tails_of
  near_6 = near_behind scripting_tail near_scripting near_5

  -- THE LOG OFF: the older shape
  pub log-off : (shape : Shape) → shape_of 6 body ≡ Ok shape → shape_of 7 newer ≡ Ok shape
  unfolding shape_of tails_of logging_tail
  log-off shape e = switch-off (λ s. s) log_on shape near_6 e
