-- The numbers of a core that no step changes; a return keeps them, however many frames end with it.
use Rattle.std.specs.Prelude.{◌≡◌, Bool, cond, eqb}
use Rattle.std.proofs.Math.Path.{refl}
use Rattle.std.proofs.Common.{◌∙◌, inl, inr}
use Prim.Native.Nat.{ℕ, zero, suc}
use Rattle.words.specs.Tests.{decided}
use Rattle.frames.specs.Frames.{frame_at}
use Rattle.frames.specs.Deques.{size, bottom}
use Rattle.frames.specs.Steps.{ends_too}
use Rattle.semantics.specs.Core.{Core, StepResult, acting_in, end_at, upward, popped, end_bottom, return_on}
use Rattle.soundness.specs.Layout.{Layout}

pub record NumbersKept (c c' : Core) : Type 0 where
  pub workers : c'.head.numbers.workers ≡ c.head.numbers.workers
  pub splitters : c'.head.numbers.splitters ≡ c.head.numbers.splitters
  pub nodes : c'.head.numbers.nodes ≡ c.head.numbers.nodes
  pub height : c'.head.height ≡ c.head.height

kept_trans : {c d e : Core} → NumbersKept c d → NumbersKept d e → NumbersKept c e
kept_trans a b = record { workers = b.workers ∙ a.workers; splitters = b.splitters ∙ a.splitters; nodes = b.nodes ∙ a.nodes; height = b.height ∙ a.height }

-- the one result or the other
either_kept : (b : Bool) (c : Core) (x y : StepResult) → NumbersKept c x.core → NumbersKept c y.core → NumbersKept c (cond b x y).core
either_kept b c x y h k = elim (decided b) [ inl e ↦ rw e h | inr e ↦ rw e k ]

module _ (layout : Layout) where
  -- ---- a return

  end_at_kept : (c : Core) (p : ℕ) → NumbersKept c (end_at layout c p)
  unfolding end_at
  end_at_kept c p = record { workers = refl; splitters = refl; nodes = refl; height = refl }

  upward_kept : (d : ℕ) (c : Core) (w q : ℕ) → NumbersKept c (upward layout d c w q).core
  unfolding upward
  upward_kept zero c w q = record { workers = refl; splitters = refl; nodes = refl; height = refl }
  upward_kept (suc d) c w q =
      either_kept (ends_too (frame_at c.frames q)) c _ _ (kept_trans (end_at_kept c q) (upward_kept d (end_at layout c q) w (frame_at c.frames q).parent))
      (record { workers = refl; splitters = refl; nodes = refl; height = refl })

  end_bottom_kept : (c : Core) (w : ℕ) → NumbersKept c (end_bottom layout c w).core
  unfolding end_bottom
  end_bottom_kept c w =
      let c' : Core = end_at layout (popped c w) (bottom c.deques w) in
      let E : NumbersKept c c' = kept_trans (record { workers = refl; splitters = refl; nodes = refl; height = refl }) (end_at_kept (popped c w) (bottom c.deques w)) in
      either_kept (eqb (size c'.deques w) 0) c _ _ (kept_trans E (upward_kept (acting_in c w).depth c' w (acting_in c w).parent)) E

  pub returns_kept : (c : Core) (w : ℕ) → NumbersKept c (return_on layout c w).core
  unfolding return_on
  returns_kept c w =
      either_kept (eqb (acting_in c w).outstanding 0) c _ _ (end_bottom_kept c w) (record { workers = refl; splitters = refl; nodes = refl; height = refl })
