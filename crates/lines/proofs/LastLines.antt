-- The lines after the answers: `free`, and R-5's `reduced`.
use mathlib.Core.Path.{◌≡◌, sym, ap, ◌∙◌}
use mathlib.Core.Bool.{Bool, true, false, cond}
use mathlib.Core.List.{List, [], ◌∷◌, ◌++◌}
use Prim.Native.Nat.{ℕ, ◌+◌, ◌<◌}
use native.Mathlib.Omega.{arith}
use lib.ListN.{length, get_or, drop}
use lib.Seq.{get_or-take, get_or-drop}
use Rattle.soundness.specs.Numbers.{head_count, total_count, numbers_in, totals_in}
use Rattle.soundness.specs.Soundness.{count_of_free}
use Rattle.soundness.specs.PackedTrees.{free_nodes}
use Rattle.lines.specs.Lines.{decimal, line, free_line, reduced_word, reduced_line}
use Rattle.lines.specs.declared.text.Output.{Output}
use Rattle.lines.specs.Output.{Writes, WritesUpTo}
use Rattle.lines.proofs.Writes.{writes_nothing, writes_same, up_to_then, up_to_same}
use Rattle.lines.proofs.Sizes.{free_short, four_short}
use Rattle.soundness.specs.Layout.{two_words}

-- the free nodes are counted by the numbers 2 and 3 of the state
pub free_written : {o p : Output} (ns ws : List ℕ) (nodes first free : ℕ) → nodes < 4294967296 → nodes ≡ get_or ns 2 0 → first ≡ get_or ns 3 0
    → free ≡ length (free_nodes nodes ws first) → Writes o (free_line free) p → WritesUpTo 19 o (free_line (count_of_free two_words (numbers_in ns) ws)) p
free_written ns ws nodes first free small n f e s = rw (← n, ← f) (writes_same (ap free_line e) s, free_short nodes ws first small)

-- the four words of the totals
total_at : (ns : List ℕ) (i : ℕ) → i < total_count → get_or (totals_in ns) i 0 ≡ get_or ns (head_count + i) 0
total_at ns i h = get_or-take total_count (drop head_count ns) i 0 h ∙ get_or-drop head_count ns i 0

reduced_same : (ns : List ℕ) (a b c d : ℕ) → a ≡ get_or ns 5 0 → b ≡ get_or ns 6 0 → c ≡ get_or ns 7 0 → d ≡ get_or ns 8 0
    → reduced_line (totals_in ns) ≡ (reduced_word ++ 32 ∷ []) ++ line (decimal a ∷ decimal b ∷ decimal c ∷ decimal d ∷ [])
reduced_same ns a b c d p q s t = rw (p, q, s, t, total_at ns 0 (omega arith), total_at ns 1 (omega arith), total_at ns 2 (omega arith), total_at ns 3 (omega arith))

module _ (ns : List ℕ) {returned : Bool} where
  pub reduced_none : {o : Output} → false ≡ returned → WritesUpTo 52 o (cond returned (reduced_line (totals_in ns)) []) o
  reduced_none {o} h = rw (← h) (writes_nothing o, omega arith)

  pub reduced_written : {o m p : Output} (x y z w : ℕ) → true ≡ returned → x ≡ get_or ns 5 0 → y ≡ get_or ns 6 0 → z ≡ get_or ns 7 0 → w ≡ get_or ns 8 0
      → x < 4294967296 → y < 4294967296 → z < 4294967296 → w < 4294967296
      → Writes o (reduced_word ++ 32 ∷ []) m → Writes m (line (decimal x ∷ decimal y ∷ decimal z ∷ decimal w ∷ [])) p
      → WritesUpTo 52 o (cond returned (reduced_line (totals_in ns)) []) p
  reduced_written x y z w h a b c d sx sy sz sw f g =
      let numbers : List ℕ = line (decimal x ∷ decimal y ∷ decimal z ∷ decimal w ∷ []) in
      rw (← h) (up_to_same (sym (reduced_same ns x y z w a b c d)) (up_to_then {a = 8} (f, omega arith) (g, four_short x y z w sx sy sz sw)))
