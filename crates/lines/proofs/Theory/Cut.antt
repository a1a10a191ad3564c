-- An input of more than 17,416 bytes is unfit, whatever its bytes are. So a program that reads only the first 20,000 bytes of
-- its input prints the lines of the whole.
use Rattle.std.specs.Prelude.{◌≡◌, true, List, [], ◌∷◌, ℕ, ◌-◌, ◌<◌, ◌≤◌, length, take, ltb}
use Rattle.std.proofs.Common.{sym, ap, ◌∙◌, inl, inr, arith, length-take-le, take_all, lt-ltb, le-ltb}
use Rattle.words.specs.Tests.{decided, lt_of, ge_of}
use Rattle.lines.specs.Lines.{line, unfit_word, records_start, unfit, lines_of}
use Rattle.lines.specs.Output.{IsOutput}

-- 17,416 bytes are the header, 256 values and 16,384 bytes of records
long_unfit : (size n nodes : ℕ) → 17416 < size → unfit size n nodes ≡ true
unfolding unfit
long_unfit size n nodes h = rw (le-ltb size 8 (omega arith)) (elim (decided (ltb 256 n)) [
  | inl e ↦ rw e
  | inr e ↦ elim (decided (ltb 1024 nodes)) [
    | inl f ↦ rw (e, f)
    | inr f ↦
        let k : n ≤ 256 = ge_of e in
        rw (e, f, le-ltb size (records_start n) (omega arith), lt-ltb 16384 (size - records_start n) (omega arith))
  ]
])

pub long_lines : (input : List ℕ) → 17416 < length input → lines_of input ≡ line (unfit_word ∷ [])
unfolding lines_of
long_lines input h = rw (long_unfit (length input) _ _ h)

-- the first `most` bytes print what the whole input prints, if `most` is more than 17,416
pub cut_at : (most : ℕ) (input : List ℕ) → 17416 < most → lines_of (take most input) ≡ lines_of input
cut_at most input h = elim (decided (ltb most (length input))) [
  | inl e ↦
      let l : most < length input = lt_of e in
      long_lines (take most input) (omega (arith, length-take-le most input (omega arith))) ∙ sym (long_lines input (omega arith))
  | inr e ↦ ap lines_of (take_all most input (ge_of e))
]

-- splitrun's buffer
pub cut_same : (input : List ℕ) → lines_of (take 20000 input) ≡ lines_of input
cut_same input = cut_at 20000 input (omega arith)

-- The program's main lends 20,000 bytes to io::read_full and 49,152 to split_run, and writes the first r of these. Which bytes
-- a call out of Rattle reads is no contract's to say: if they are the first 20,000 of the input, main writes its lines.
pub main-writes : (input buffer : List ℕ) (got : ℕ) {old new : List ℕ} {r : ℕ} → take got buffer ≡ take 20000 input → 49152 ≤ length old
    → IsOutput (take got buffer) old new r → take r new ≡ lines_of input
main-writes input buffer got reads room o = o.whole room ∙ ap lines_of reads ∙ cut_same input
