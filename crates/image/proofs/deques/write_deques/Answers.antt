use Rattle.std.proofs.Common.{ap, arith, drop, length, length-drop, length-take-le, refl, take, ℕ, ◌*◌, ◌+◌, ◌-◌, ◌∙◌, ◌≡◌}
use Rattle.soundness.specs.Numbers.{number_count}
use Rattle.image.proofs.Workers.{deque-stored, next-deque}
use Rattle.image.specs.Image.{deques_of}
use Rattle.image.specs.Inner.{put_words, sum_before}
use Rattle.image.proofs.deques.write_deques.Goals as goal

pub loop-w-init : goal.loop-w-init
unfolding deques_of put_words
loop-w-init c =
    let e : number_count ≡ number_count + 0 * (1 + c.args.k) = omega arith in
    (refl, c.requires.2 ∙ ap (sum_before c.args.target.now) e)

pub loop-w-preserved : goal.loop-w-preserved
loop-w-preserved c =
    let a = c.args in
    let l = c.loop-w in
    let at : ℕ = 257 * l.w in
    let n : at + (1 + a.k) - at ≡ 1 + a.k = omega arith in
    let long : length (take (at + (1 + a.k) - at) (drop at a.deques.now)) ≡ 1 + a.k = ap (λ (m : ℕ). length (take m (drop at a.deques.now))) n ∙ length-take-le (1 + a.k) (drop at a.deques.now) (omega (arith, length-drop at a.deques.now)) in (
      deque-stored a.target.now l.target _ a.deques.now a.k l.w c.requires.0 c.told-deques c.loop-w-test.true l.invariant.0
          (c.write_words-sum.ensures.stored ∙ ap (λ (m : ℕ). put_words l.target (number_count + l.w * (1 + a.k)) (take m (drop at a.deques.now))) n),
      c.write_words-sum.ensures.sum_after ∙ ap (sum_before _) (next-deque l.w a.k _ long),
    )
