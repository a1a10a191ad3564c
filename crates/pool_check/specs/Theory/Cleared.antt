-- A cleared work slice: it begins with zeros, and depends only on the length and the words from N on.
use Rattle.std.specs.Prelude.{◌≡◌, false, List, ◌++◌, ℕ, ◌≤◌, ◌<◌, leb, length, get_or, drop, replicate}
use Rattle.std.proofs.Common.{◌∙◌, inl, inr, arith, le-leb, leb-true, length-append, length-drop, drop_at}
use Rattle.std.proofs.lemmas.List.{length-replicate, get_or-replicate}
use Rattle.std.proofs.Math.ListN.{get_or-append}
use Rattle.words.specs.Tests.{decided}
use Rattle.soundness.specs.Soundness.{cleared}
use Rattle.pool_check.specs.Theory.Ways.{Keeps, keeps_refl}

pub clear_yes : (N : ℕ) (w : List ℕ) → N ≤ length w → cleared N w ≡ replicate N 0 ++ drop N w
unfolding cleared
clear_yes N w h = rw (le-leb N (length w) h)

pub clear_no : (N : ℕ) (w : List ℕ) → leb N (length w) ≡ false → cleared N w ≡ w
unfolding cleared
clear_no N w h = rw h

pub clear_keeps : (N : ℕ) (w : List ℕ) → Keeps N w (cleared N w)
clear_keeps N w = elim (decided (leb N (length w))) [
  | inl e ↦ (
      let h : N ≤ length w = leb-true N (length w) e in
      rw (clear_yes N w h)
      (record { size = length-append (replicate N 0) (drop N w) ∙ omega (arith, length-replicate {A = ℕ} N 0, length-drop N w); rest = drop_at (replicate N 0) (drop N w) N (length-replicate N 0) }))
  | inr e ↦ rw (clear_no N w e) keeps_refl
]

pub clear_same : (N : ℕ) (w w' : List ℕ) → N ≤ length w → Keeps N w w' → cleared N w' ≡ cleared N w
clear_same N w w' h k = rw (clear_yes N w h, clear_yes N w' (omega (arith, k.size)), k.rest)

pub clear_zeros : (N : ℕ) (w : List ℕ) (x : ℕ) → N ≤ length w → x < N → get_or (cleared N w) x 0 ≡ 0
clear_zeros N w x h b = rw (clear_yes N w h) (get_or-append (replicate N 0) (drop N w) 0 x (omega (arith, length-replicate {A = ℕ} N 0)) ∙ get_or-replicate N x 0 0 b)
