-- A release as the code runs it: a node that lost a holder is freed, or kept. Over plain variables.
use mathlib.Core.Path.{◌≡◌, sym, ◌∙◌, subst}
use mathlib.Core.Bool.{Bool, true, false}
use mathlib.Core.List.{List}
use Prim.Native.Nat.{ℕ}
use Rattle.words.specs.Tests.{true≢false}
use Rattle.packed.specs.Pool.{release}
use Rattle.packed.specs.Links.{LetGo, Released}
use Rattle.packed.proofs.Laws.{parts₃}

-- its last holder let go: it is to be freed. n₀, n₁ and n₂ are the pool's nodes before, between and after
pub freed_now : (N l f k a n₀ n₁ n₂ : ℕ) (w w' : List ℕ) {w₁ : List ℕ} {f₁ k₁ : ℕ} (r : Bool) → r ≡ true → n₀ ≡ N → n₁ ≡ n₀ → LetGo r n₀ w w' a → n₂ ≡ n₁ → Released (release n₁ l w' f k a) w₁ f₁ k₁
    → (n₂ ≡ N) × Released (release N l w f k a) w₁ f₁ k₁
freed_now N l f k a n₀ n₁ n₂ w w' {w₁} {f₁} {k₁} true e p q g s R = (
  s ∙ q ∙ p,
  subst (λ v. Released (release N l v f k a) w₁ f₁ k₁) g.0 (subst (λ n. Released (release n l w' f k a) w₁ f₁ k₁) (q ∙ p) R),
)
freed_now N l f k a n₀ n₁ n₂ w w' false e p q g s R = absurd (true≢false (sym e))

-- it is held, or no node: its release is done
pub kept_now : (N l f k a n₀ n₁ : ℕ) (w w' : List ℕ) (r : Bool) → r ≡ false → n₀ ≡ N → n₁ ≡ n₀ → LetGo r n₀ w w' a → (n₁ ≡ N) × Released (release N l w f k a) w' f k
kept_now N l f k a n₀ n₁ w w' true e p q g = absurd (true≢false e)
kept_now N l f k a n₀ n₁ w w' false e p q g = (q ∙ p, subst (λ n. Released (release n l w f k a) w' f k) p (parts₃ (g l f k)))
