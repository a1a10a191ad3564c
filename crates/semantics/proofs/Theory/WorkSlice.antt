-- The check's answer and what it leaves in the work slice, taken together.
use Rattle.soundness.specs.Soundness.{Checked}
use Rattle.soundness.specs.declared.CheckError.{CheckError}
use Rattle.soundness.specs.declared.CheckError.TheVariants.{NoRoom}
use Rattle.std.specs.Prelude.{◌≡◌, Bool, true, false, cond, List, ℕ, leb, length, Err, Ok}
use Rattle.std.proofs.Common.{sym, ◌∙◌, arith}
use Rattle.std.proofs.Math.Logic.{inl, inr}
use Rattle.words.specs.Tests.{decided}
use Rattle.frames.specs.declared.Frame.{Frame}
use Rattle.soundness.specs.declared.Numbers.{Numbers}
use Rattle.soundness.specs.Soundness.{sound, count_of_free, checked, cleared}
use Rattle.soundness.specs.Layout.{Layout}

has_room : (p : Bool) (m : ℕ) → cond p (Ok m) (Err CheckError.Unsound) ≡ (Err NoRoom) → ⊥
has_room true m e = let z : ◌≡◌ {A = ℕ} 0 1 = cc in omega arith
has_room false m e = let z : ◌≡◌ {A = ℕ} 0 1 = cc in omega arith

module _ (layout : Layout) where
  module _ (s : Numbers) (ts ds : List ℕ) (fs : List Frame) (ws ks : List ℕ) where
    pub checked_room : leb s.nodes (length ks) ≡ true → checked layout s ts ds fs ws ks ≡ cond (sound layout s ts ds fs ws) (Ok (count_of_free layout s ws)) (Err CheckError.Unsound)
    unfolding checked
    checked_room e = rw e

    -- a work slice that is too short is left alone
    pub no_room_keeps : checked layout s ts ds fs ws ks ≡ (Err NoRoom) → cleared s.nodes ks ≡ ks
    unfolding cleared
    no_room_keeps e = elim (decided (leb s.nodes (length ks))) [
      | inl t ↦ absurd (has_room (sound layout s ts ds fs ws) (count_of_free layout s ws) (sym (checked_room t) ∙ e))
      | inr f ↦ rw f
    ]
