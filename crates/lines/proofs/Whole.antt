-- The output by whether the input is unfit; what a fit one says of its numbers; arrays of zeros.
use mathlib.Core.Path.{◌≡◌, refl, sym, ap, ◌∙◌}
use mathlib.Core.List.{List, [], ◌∷◌, ◌++◌}
use Prim.Native.Nat.{ℕ, zero, suc, ◌+◌, ◌-◌, ◌*◌, ◌/◌, ◌≤◌, ◌<◌}
use native.Mathlib.Omega.{arith}
use lib.ListN.{length, take, drop, replicate, length-drop, length-replicate}
use lib.Dec.{ltb}
use lib.Seq.{take_all}
use Rattle.words.specs.Tests.{neither, ge_of}
use Rattle.frames.specs.declared.Frame.{Frame}
use Rattle.frames.specs.Frames.{free_record}
use Rattle.semantics.specs.Entries.{zeros}
use mathlib.Core.Bool.{true, false, ◌||◌}
use Rattle.lines.specs.declared.text.Output.{Output}
use Rattle.lines.specs.Output.{store_all, Stores, Writes, WritesUpTo, IsOutput}
use Rattle.lines.proofs.Theory.{is_output}
use Rattle.lines.proofs.Writes.{writes_same, up_to_then}
use Rattle.lines.proofs.Sizes.{three_short}
use Rattle.lines.specs.Lines.{decimal, line, unfit_word, workers_in, splitters_in, nodes_in, numbers_at, records_start, records_in, unfit, run_lines, fit_lines, lines_of}

stored_from : {o p : Output} {old bs : List ℕ} → o.bytes.now ≡ old → o.at ≡ 0 → Writes o bs p → Stores old 0 bs p.bytes.now p.at
stored_from {bs = bs} b z w = w.stored ∙ (λ i. store_all (b i, z i) bs)

lines_unfit : (input : List ℕ) (n nodes : ℕ) → n ≡ splitters_in input → nodes ≡ nodes_in input → unfit (length input) n nodes ≡ true → lines_of input ≡ line (unfit_word ∷ [])
unfolding lines_of
lines_unfit input n nodes p q h = rw (← p, ← q, h)

pub output_unfit : (input old : List ℕ) (n nodes : ℕ) {new : List ℕ} {r : ℕ} {o p : Output} → n ≡ splitters_in input → nodes ≡ nodes_in input → unfit (length input) n nodes ≡ true
    → o.bytes.now ≡ old → o.at ≡ 0 → Writes o (line (unfit_word ∷ [])) p → new ≡ p.bytes.now → r ≡ p.at → IsOutput input old new r
output_unfit input old n nodes e f h b z w a k = is_output {most = 6} input old (omega arith) (rw (lines_unfit input n nodes e f h, a, k) (stored_from b z w, omega arith))

lines_fit : (input : List ℕ) (workers n nodes : ℕ) → workers ≡ workers_in input → n ≡ splitters_in input → nodes ≡ nodes_in input → unfit (length input) n nodes ≡ false
    → lines_of input ≡ line (decimal workers ∷ decimal n ∷ decimal nodes ∷ []) ++ fit_lines workers n nodes input
unfolding lines_of
lines_fit input workers n nodes w p q h = rw (← w, ← p, ← q, h)

pub output_fit : (input old : List ℕ) (workers n nodes : ℕ) {new : List ℕ} {r : ℕ} {o m p : Output} → workers ≡ workers_in input → n ≡ splitters_in input → nodes ≡ nodes_in input
    → unfit (length input) n nodes ≡ false → workers < 4294967296 → n < 4294967296 → nodes < 4294967296 → o.bytes.now ≡ old → o.at ≡ 0
    → Writes o (line (decimal workers ∷ decimal n ∷ decimal nodes ∷ [])) m → WritesUpTo 45127 m (fit_lines workers n nodes input) p
    → new ≡ p.bytes.now → r ≡ p.at → IsOutput input old new r
output_fit input old workers n nodes e f g h sw sn so b z s t a k =
    let w : WritesUpTo 45160 _ (line (decimal workers ∷ decimal n ∷ decimal nodes ∷ []) ++ fit_lines workers n nodes input) _ =
    up_to_then {a = 33} (s, three_short workers n nodes sw sn so) t in
    is_output {most = 45160} input old (omega arith) (rw (lines_fit input workers n nodes e f g h, a, k) (stored_from b z w.0, w.1))

pub fit_numbers : (size n nodes : ℕ) → unfit size n nodes ≡ false → (n ≤ 256) × (nodes ≤ 1024) × (records_start n ≤ size) × (size - records_start n ≤ 16384)
unfolding unfit
fit_numbers size n nodes h =
    let a = neither (ltb size 8) (ltb 256 n || (ltb 1024 nodes || (ltb size (records_start n) || ltb 16384 (size - records_start n)))) h in
    let b = neither (ltb 256 n) (ltb 1024 nodes || (ltb size (records_start n) || ltb 16384 (size - records_start n))) a.1 in
    let d = neither (ltb 1024 nodes) (ltb size (records_start n) || ltb 16384 (size - records_start n)) b.1 in
    let e = neither (ltb size (records_start n)) (ltb 16384 (size - records_start n)) d.1 in
    (ge_of b.0, ge_of d.0, ge_of e.0, ge_of e.1)

take-replicate : (k m : ℕ) → k ≤ m → take k (replicate {A = ℕ} m 0) ≡ replicate k 0
take-replicate zero m h = refl
take-replicate (suc k) zero h = absurd (omega arith)
take-replicate (suc k) (suc m) h = ap (λ (l : List ℕ). 0 ∷ l) (take-replicate k m (omega arith))

-- the slices that are lent have what the definition gives
fit_lines_lem : (workers n nodes : ℕ) (place : Frame) (input vs ws work records answers : List ℕ) → place ≡ free_record 0 → vs ≡ numbers_at n input 8 → ws ≡ replicate (2 * nodes) 0 → work ≡ replicate nodes 0
    → records ≡ records_in n input → answers ≡ replicate (2 * ((length input - records_start n) / 8)) 0
    → run_lines (zeros (replicate 64 place)) workers vs ws work records answers ≡ fit_lines workers n nodes input
unfolding fit_lines
fit_lines_lem workers n nodes place input vs ws work records answers z v p w r a = rw (z, v, p, w, r, a, length-drop)

pub length_part : (k m : ℕ) → k ≤ m → k ≡ length (take k (replicate {A = ℕ} m 0))
length_part k m h = sym (ap length (take-replicate k m h) ∙ length-replicate k 0)

-- the records of an input
abbrev pub records_of : ℕ → List ℕ → List ℕ
records_of n input = take (length input - records_start n) (drop (records_start n) input)

-- lent as parts of arrays of zeros, and the records as a part of the input
pub fit_written : {o p : Output} (workers n nodes : ℕ) (input vs : List ℕ) (place : Frame) (mp mw ma : ℕ) → vs ≡ numbers_at n input 8 → place ≡ free_record 0
    → 2 * nodes ≤ mp → nodes ≤ mw → 2 * ((length input - records_start n) / 8) ≤ ma
    → WritesUpTo (11 * length (take (2 * (length (records_of n input) / 8)) (replicate {A = ℕ} ma 0)) + 71) o
    (run_lines (zeros (replicate 64 place)) workers vs (take (2 * nodes) (replicate mp 0)) (take nodes (replicate mw 0)) (records_of n input)
    (take (2 * (length (records_of n input) / 8)) (replicate ma 0))) p
    → WritesUpTo (11 * ma + 71) o (fit_lines workers n nodes input) p
fit_written workers n nodes input vs place mp mw ma v z p w a s =
    let size : ℕ = length input - records_start n in
    let whole : records_of n input ≡ records_in n input = take_all size (records_in n input) (omega (arith, length-drop (records_start n) input)) in
    let long : length (records_of n input) ≡ size = ap length whole ∙ length-drop (records_start n) input in
    let m : 2 * (length (records_of n input) / 8) ≤ ma = rw long a in
    let answers : take (2 * (length (records_of n input) / 8)) (replicate {A = ℕ} ma 0) ≡ replicate (2 * (size / 8)) 0 =
    take-replicate (2 * (length (records_of n input) / 8)) ma m ∙ ap (λ (k : ℕ). replicate {A = ℕ} (2 * (k / 8)) 0) long in
    let e = fit_lines_lem workers n nodes place input vs _ _ _ _ z v (take-replicate (2 * nodes) mp p) (take-replicate nodes mw w) whole answers in
    (writes_same e s.0, omega (arith, s.1, ap length e, length_part (2 * (length (records_of n input) / 8)) ma m))
