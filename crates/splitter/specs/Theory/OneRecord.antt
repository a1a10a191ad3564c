-- A step as a tape of one record: the record's bytes, and what the tape leaves and answers.
use Rattle.soundness.specs.Soundness.{Checked}
use Rattle.soundness.specs.declared.CheckError.{CheckError}
use Rattle.soundness.specs.declared.CheckError.TheVariants.{NoRoom}
use Rattle.std.specs.Prelude.{◌≡◌, List, [], ◌∷◌, ℕ, ◌+◌, ◌*◌, ◌/◌, ◌%◌, ◌^◌, ◌<◌, min, length, get_or, set, Err, Ok}
use Rattle.std.specs.Int.{w16, w32, to_le_bytes}
use Rattle.std.proofs.Math.Path.{refl}
use Rattle.std.proofs.Math.Logic.{inl, inr}
use Rattle.std.proofs.Math.Nat.{div-div-eq-div-mul}
use Rattle.std.proofs.Common.{arith}
use Rattle.words.specs.Tests.{decided}
use Rattle.model.specs.Record.{little, record_of, decode_at}
use Rattle.semantics.specs.Answers.{answer_words, both_words}
use Rattle.semantics.specs.Entries.{State, OutsideResult, TapeResult, core_of, checked_state, record_on, records_from, records_of, run_on, outside_checked, outside_with, outside_on, tape_checked, tape_with, tape_on, fits}
use Rattle.splitter.specs.OneRecord.{bytes_of, result_words}
use Rattle.soundness.specs.Layout.{two_words}

-- ---- the bytes

two_bytes : (x : ℕ) → x < 2 ^ 16 → little (x % 2 ^ 8 ∷ x / 2 ^ 8 % 2 ^ 8 ∷ []) ≡ x
two_bytes x h = omega arith

digits : (x y z u a b c d : ℕ) → x ≡ a + 256 * y → y ≡ b + 256 * z → z ≡ c + 256 * u → u ≡ d → little (a ∷ b ∷ c ∷ d ∷ []) ≡ x
digits x y z u a b c d ex ey ez eu = omega arith

four_bytes : (x : ℕ) → x < 2 ^ 32 → little (x % 2 ^ 8 ∷ x / 2 ^ 8 % 2 ^ 8 ∷ x / 2 ^ 16 % 2 ^ 8 ∷ x / 2 ^ 24 % 2 ^ 8 ∷ []) ≡ x
four_bytes x h =
    let a : x / 2 ^ 8 / 2 ^ 8 ≡ x / 2 ^ 16 = div-div-eq-div-mul x (2 ^ 8) (2 ^ 8) in
    let b : x / 2 ^ 16 / 2 ^ 8 ≡ x / 2 ^ 24 = div-div-eq-div-mul x (2 ^ 16) (2 ^ 8) in
    digits x (x / 2 ^ 8) (x / 2 ^ 16) (x / 2 ^ 24) _ _ _ _ (omega arith) (omega arith) (omega arith) (omega arith)

same_fields : {k k' w w' f f' v v' : ℕ} → k ≡ k' → w ≡ w' → f ≡ f' → v ≡ v' → record_of k w f v ≡ record_of k' w' f' v'
same_fields ek ew ef ev = λ i. record_of (ek i) (ew i) (ef i) (ev i)

bytes_decode : (k w x v : ℕ) → k < 2 ^ 8 → w < 2 ^ 8 → x < 2 ^ 16 → v < 2 ^ 32 → decode_at (bytes_of k w x v) 0 ≡ record_of k w x v
unfolding decode_at
bytes_decode k w x v hk hw hx hv = same_fields (omega arith) (omega arith) (two_bytes x hx) (four_bytes v hv)

pub record_made : (bytes : List ℕ) (kind w x v k' w' x' : ℕ) → v < 2 ^ 32 → k' ≡ min kind 255 → w' ≡ min w 255 → x' ≡ min x 65535
    → bytes ≡ bytes_of k' w' x' v → decode_at bytes 0 ≡ record_of (min kind 255) (min w 255) (min x 65535) v
record_made bytes kind w x v k' w' x' hv ek ew ex eb = rw (eb, ek, ew, ex) (bytes_decode (min kind 255) (min w 255) (min x 65535) v (omega arith) (omega arith) (omega arith) hv)

-- the bytes that the code makes of a field and of a value
pub bytes_made : (k w x v : ℕ) (fs vs : List ℕ) → k < 2 ^ 8 → w < 2 ^ 8 → fs ≡ to_le_bytes w16 x → vs ≡ to_le_bytes w32 v
    → k ∷ w ∷ get_or fs 0 0 ∷ get_or fs 1 0 ∷ get_or vs 0 0 ∷ get_or vs 1 0 ∷ get_or vs 2 0 ∷ get_or vs 3 0 ∷ [] ≡ bytes_of k w x v
bytes_made k w x v fs vs hk hw ef es =
    let ek : k ≡ k % 2 ^ 8 = omega arith in
    let ew : w ≡ w % 2 ^ 8 = omega arith in
    rw (ef, es) (λ i. ek i ∷ ew i ∷ x % 2 ^ 8 ∷ x / 2 ^ 8 % 2 ^ 8 ∷ v % 2 ^ 8 ∷ v / 2 ^ 8 % 2 ^ 8 ∷ v / 2 ^ 16 % 2 ^ 8 ∷ v / 2 ^ 24 % 2 ^ 8 ∷ [])

-- ---- a tape of one record

-- a tape leaves and answers what a step does
pub record Same (p : TapeResult) (o : OutsideResult) : Type 0 where
  pub state : p.state ≡ o.state
  pub pool : p.pool ≡ o.pool
  pub work : p.work ≡ o.work
  pub words : result_words p.result (get_or p.answers 0 0) (get_or p.answers 1 0) ≡ o.result

put_two : (rs : List ℕ) → length rs ≡ 2 → (a b : ℕ) → both_words (get_or (set (set rs 0 a) 1 b) 0 0, get_or (set (set rs 0 a) 1 b) 1 0) ≡ both_words (a, b)
put_two [] e a b = absurd (omega arith)
put_two (x ∷ []) e a b = absurd (omega arith)
put_two (x ∷ y ∷ l) e a b = refl

module _ (s : State) (ws ks bytes rs : List ℕ) (long : length bytes ≡ 8) (two : length rs ≡ 2) where
  one : records_of bytes ≡ decode_at bytes 0 ∷ []
  unfolding records_from
  one = rw long

  one_checked : (k : Checked) → Same (tape_checked two_words k s ws ks bytes rs) (outside_checked two_words k s ws ks (decode_at bytes 0))
  unfolding run_on
  one_checked (Err NoRoom) = record { state = refl; pool = refl; work = refl; words = refl }
  one_checked (Err CheckError.Unsound) = record { state = refl; pool = refl; work = refl; words = refl }
  one_checked (Ok k) =
      let o = record_on two_words (core_of s ws k) (decode_at bytes 0) in
      rw one (record { state = refl; pool = refl; work = refl; words = put_two rs two (answer_words o.answer).0 (answer_words o.answer).1 })

  one_record : Same (tape_with two_words s ws ks bytes rs) (outside_with two_words s ws ks (decode_at bytes 0))
  unfolding tape_with outside_with
  one_record = rw (long, two) (one_checked (checked_state two_words s ws ks))

  -- on all inputs: a part that has another length is refused alike
  pub one_step : Same (tape_on two_words s ws ks bytes rs) (outside_on two_words s ws ks (decode_at bytes 0))
  unfolding tape_on outside_on
  one_step = elim (decided (fits s)) [
    | inl e ↦ rw e one_record
    | inr e ↦ rw e (record { state = refl; pool = refl; work = refl; words = refl })
  ]
