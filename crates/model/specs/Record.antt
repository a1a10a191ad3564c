-- The decoding of a record. Definitions only.
use Rattle.std.specs.Prelude.{Bool, true, false, cond, not, ◌&&◌, List, [], ◌∷◌, ℕ, ◌+◌, ◌*◌, length, get_or, ltb, eqb, Option, None, Some}
use Rattle.model.specs.Steps.{first_true}
use Rattle.model.specs.declared.Step.{Step}
use Rattle.model.specs.declared.Step.TheVariants.{Spawn, Return, Steal, Sync, Read, Write, Fold}

-- what the bytes of a record are: a step, or nothing valid (refusal 7)
abbrev pub Decoded : Type 0
Decoded = Option Step

-- "bytes in files are little-endian": the number of the bytes, the lowest first
abbrev pub little : List ℕ → ℕ
little [] = 0
little (b ∷ bs) = b + 256 * little bs

-- is a field that this kind does not use other than zero?
unfoldable pub unused_set : ℕ → ℕ → ℕ → Bool
unused_set kind field value =
    cond (eqb kind 5) (not (eqb value 0))
    (cond (eqb kind 6) false (cond (not (eqb value 0)) (not (eqb kind 7)) (cond (eqb field 0) false (not (eqb kind 3) && not (eqb kind 7)))))

-- "Unused fields are zero."
abbrev pub valid_if : Bool → Step → Decoded
valid_if true s = Some s
valid_if false s = None

-- by "kind, worker, a 16-bit splitter (victim for steal), a 32-bit value (write only)". Refusal 7: "The kind is not 1 to 6, or
-- an unused field is not zero.", and "Refusal 7 lets kind 7 pass" (R-5): "Record kind 7 folds its value into the reducer named in
-- its splitter field"
unfoldable pub record_of : ℕ → ℕ → ℕ → ℕ → Decoded
record_of kind worker field value =
    first_true None (
    (eqb kind 1, valid_if (eqb field 0 && eqb value 0) (Spawn worker))
    ∷ (eqb kind 2, valid_if (eqb field 0 && eqb value 0) (Return worker))
    ∷ (eqb kind 3, valid_if (eqb value 0) (Steal worker field))
    ∷ (eqb kind 4, valid_if (eqb field 0 && eqb value 0) (Sync worker))
    ∷ (eqb kind 5, valid_if (eqb value 0) (Read worker field))
    ∷ (eqb kind 6, Some (Write worker field value))
    ∷ (eqb kind 7, Some (Fold worker field value))
    ∷ [])

-- "A record is 8 bytes": those from `at`. Fewer are no record (a tape that a call accepts has whole records only)
unfoldable pub decode_at : List ℕ → ℕ → Decoded
decode_at tape at =
    let kind = get_or tape at 0 in
    let worker = get_or tape (at + 1) 0 in
    let field = little (get_or tape (at + 2) 0 ∷ get_or tape (at + 3) 0 ∷ []) in
    let value = little (get_or tape (at + 4) 0 ∷ get_or tape (at + 5) 0 ∷ get_or tape (at + 6) 0 ∷ get_or tape (at + 7) 0 ∷ []) in
    let r = record_of kind worker field value in
    cond (ltb (length tape) (at + 8)) None r
