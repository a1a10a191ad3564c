-- Zeros stored one after the other are a run of zeros.
use Rattle.std.proofs.Common.{◌≡◌, List, ℕ, zero, suc, ◌+◌, ◌≤◌, ◌++◌, length, set, take, drop, replicate, refl, sym, ◌∙◌, length-take, length-drop, drop-drop, append_assoc, arith}
use Rattle.std.proofs.lemmas.List.{length-replicate}
use Rattle.std.proofs.lemmas.List.Edits.{sets, sets-eq}
use Rattle.memory.specs.Memory.{zeroed_from, row_at}
use Rattle.memory.proofs.clear_row.Goals as goal

zeros_in_turn : (c : ℕ) (ms : List ℕ) (i : ℕ) → zeroed_from c ms i ≡ sets ms i (replicate c 0)
unfolding zeroed_from
zeros_in_turn zero ms i = refl
zeros_in_turn (suc c) ms i = zeros_in_turn c (set ms i 0) (suc i)

part_filled : (ms row : List ℕ) (i c k : ℕ) → k ≡ c → i + c ≤ length ms → row ≡ replicate (length (take k (drop i ms))) 0 → take i ms ++ (row ++ drop k (drop i ms)) ≡ zeroed_from c ms i
part_filled ms row i c k e h f =
    let n : length (take k (drop i ms)) ≡ c = omega (arith, length-take k (drop i ms), length-drop i ms) in
    let r : length {A = ℕ} (replicate c 0) ≡ c = length-replicate c 0 in
    sym (zeros_in_turn c ms i ∙ sets-eq (replicate c 0) ms i (omega (arith, r)) ∙ rw (f, n, r, e, drop-drop c i ms) (append_assoc (take i ms) (replicate c 0) (drop (i + c) ms)))

pub returns : goal.returns
returns c = part_filled c.args.memory.now c.fill.new.self (row_at c.args.w) 256 _ (omega arith) (omega (arith, c.told-memory, c.requires)) (c.fill.ensures.after (λ y e. e))
