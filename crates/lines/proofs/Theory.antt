-- What storing bytes one after another leaves.
use Rattle.std.specs.Prelude.{◌≡◌, refl, List, [], ◌∷◌, ◌++◌, ℕ, suc, ◌+◌, ◌≤◌, ◌<◌, length, take, drop, set, ltb}
use Rattle.std.proofs.Common.{sym, ap, ◌∙◌, inl, inr, append_assoc, add-one, arith, length-set, length-append, length-take-le, lt-ltb, le-ltb}
use Rattle.std.proofs.Math.Seq.{set_out, take-append_seam}
use Rattle.std.proofs.lemmas.List.Edits.{sets, sets-eq}
use Rattle.lines.specs.Output.{Buffer, store_byte, store_all, Stores, StoresUpTo, IsOutput}
use Rattle.lines.specs.Lines.{lines_of}
use Rattle.words.specs.Tests.{decided, lt_of}
-- Cut: the first 20,000 bytes of an input print what the whole prints. Returned, Reduced: when the totals are printed, and which they are (R-5)
pub mod Cut
pub mod Returned
pub mod Reduced

pub store_append : (o : Buffer) (xs ys : List ℕ) → store_all o (xs ++ ys) ≡ store_all (store_all o xs) ys
unfolding store_all
store_append o [] ys = refl
store_append o (x ∷ xs) ys = store_append (store_byte o x) xs ys

-- one list of bytes after another
pub stores_then : (o : List ℕ) (at : ℕ) {o' o'' : List ℕ} {to r : ℕ} (xs ys : List ℕ) → Stores o at xs o' to → Stores o' to ys o'' r → Stores o at (xs ++ ys) o'' r
stores_then o at xs ys e f = f ∙ ap (λ (p : Buffer). store_all p ys) e ∙ sym (store_append (o, at) xs ys)

-- a byte that fits, and one that does not
pub stores_byte : (o : List ℕ) (at b : ℕ) → at < length o → Stores o at (b ∷ []) (set o at b) (at + 1)
unfolding store_all store_byte
stores_byte o at b h = rw (lt-ltb at (length o) h) (ap (λ (k : ℕ). (set o at b, k)) (add-one at))

pub stores_none : (o : List ℕ) (at b : ℕ) → length o ≤ at → Stores o at (b ∷ []) o at
unfolding store_all store_byte
stores_none o at b h = rw (le-ltb at (length o) h, set_out o at b h)

-- ---- what is left of the buffer

store_length : (bs : List ℕ) (o : Buffer) → length (store_all o bs).0 ≡ length o.0
unfolding store_all store_byte
store_length [] o = refl
store_length (b ∷ bs) o = store_length bs (store_byte o b) ∙ length-set o.0 o.1 b

byte_within : (o : Buffer) (b : ℕ) → o.1 ≤ length o.0 → (store_byte o b).1 ≤ length o.0
unfolding store_byte
byte_within o b h = elim (decided (ltb o.1 (length o.0))) [
  | inl e ↦ rw e (lt_of e)
  | inr e ↦ rw e h
]

store_within : (bs : List ℕ) (o : Buffer) → o.1 ≤ length o.0 → (store_all o bs).1 ≤ length o.0
unfolding store_all
store_within [] o h = h
store_within (b ∷ bs) o h =
    let l : length (store_byte o b).0 ≡ length o.0 = store_length (b ∷ []) o in
    omega (arith, l, store_within bs (store_byte o b) (omega (arith, l, byte_within o b h)))

-- all of it fits
store_fits : (bs o : List ℕ) (at : ℕ) → at + length bs ≤ length o → store_all (o, at) bs ≡ (sets o at bs, at + length bs)
unfolding store_all store_byte
store_fits [] o at h = let e : at ≡ at + 0 = omega arith in ap (λ (k : ℕ). (o, k)) e
store_fits (b ∷ bs) o at h =
    rw (lt-ltb at (length o) (omega arith))
    (let e : suc at + length bs ≡ at + suc (length bs) = omega arith in
    store_fits bs (set o at b) (suc at) (omega (arith, length-set o at b)) ∙ ap (λ (k : ℕ). (sets (set o at b) (suc at) bs, k)) e)

pub is_output : {most : ℕ} (input old : List ℕ) {new : List ℕ} {r : ℕ} → most ≤ 49152 → StoresUpTo most old 0 (lines_of input) new r → IsOutput input old new r
is_output input old {new} {r} m s =
    let bs : List ℕ = lines_of input in
    let n : new ≡ (store_all (old, 0) bs).0 = ap (λ (p : Buffer). p.0) s.0 in
    let k : r ≡ (store_all (old, 0) bs).1 = ap (λ (p : Buffer). p.1) s.0 in
    let w : r ≤ length new = omega (arith, k, ap length n, store_length bs (old, 0), store_within bs (old, 0) (omega arith)) in
    record {
      stored = s.0;
      whole = λ h. whole_of bs old s.0 (omega (arith, s.1));
      within = w;
      counted = sym (length-take-le r new w);
    }
  where
    whole_of : (bs old : List ℕ) {new : List ℕ} {r : ℕ} → Stores old 0 bs new r → length bs ≤ length old → take r new ≡ bs
    whole_of bs old {new} {r} e h =
        let f : ◌≡◌ {A = Buffer} (new, r) (sets old 0 bs, 0 + length bs) = e ∙ store_fits bs old 0 (omega arith) in
        let z : 0 + length bs ≡ length bs = omega arith in
        let n : new ≡ bs ++ drop (0 + length bs) old = ap (λ (p : Buffer). p.0) f ∙ sets-eq bs old 0 (omega arith) in
        let k : r ≡ length bs = ap (λ (p : Buffer). p.1) f ∙ z in
        rw (n, k, z) (take-append_seam bs (drop (length bs) old))
