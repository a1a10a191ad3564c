use Rattle.std.proofs.Common.{ap, arith, drop, length, length-drop, length-take-le, refl, replicate, take, ℕ, ◌*◌, ◌+◌, ◌-◌, ◌∙◌, ◌≡◌}
use Rattle.std.proofs.lemmas.List.Edits.{sets}
use Rattle.soundness.specs.Numbers.{number_count}
use Rattle.image.proofs.Ends.{part_put}
use Rattle.image.specs.Inner.{read_words}
use Rattle.image.proofs.Workers.{all-deques, deque-fits, deque_read, none_read}
use Rattle.image.proofs.deques.read_deques.Goals as goal

pub loop-w-init : goal.loop-w-init
loop-w-init c = none_read c.args.image.now c.requires.0 c.args.k c.requires.1 c.requires.2 _ (c.fill.ensures.after (λ y h. h) ∙ ap (λ (n : ℕ). replicate n 0) c.told-deques)

pub read_words-requires : goal.read_words-requires
read_words-requires c =
    let k = c.args.k in
    let at : ℕ = 257 * c.loop-w.w in
    let n : at + (1 + k) - at ≡ 1 + k = omega arith in
    let long : length (take (at + (1 + k) - at) (drop at c.loop-w.deques)) ≡ 1 + k =
    ap (λ (m : ℕ). length (take m (drop at c.loop-w.deques))) n ∙ length-take-le (1 + k) (drop at c.loop-w.deques) (omega (arith, length-drop at c.loop-w.deques)) in
    let f = deque-fits c.args.image.now c.requires.0 k c.requires.1 c.requires.2 c.loop-w.w _ c.loop-w-test.true refl in
    omega (arith, f, long)

pub loop-w-preserved : goal.loop-w-preserved
loop-w-preserved c =
    let a = c.args in
    let l = c.loop-w in
    let at : ℕ = 257 * l.w in
    let n : at + (1 + a.k) - at ≡ 1 + a.k = omega arith in
    let long : length (take (at + (1 + a.k) - at) (drop at l.deques)) ≡ 1 + a.k =
    ap (λ (m : ℕ). length (take m (drop at l.deques))) n ∙ length-take-le (1 + a.k) (drop at l.deques) (omega (arith, length-drop at l.deques)) in
    deque_read a.image.now c.requires.0 a.k c.requires.1 c.requires.2 l.w _ c.loop-w-test.true refl l.deques _ l.invariant
    (part_put l.deques c.read_words.new.to at (at + (1 + a.k) - at) (omega (arith, c.read_words.auto.to, long)) (omega arith)
    ∙ ap (sets l.deques at) (c.read_words.ensures ∙ ap (λ (m : ℕ). read_words m a.image.now (number_count + l.w * (1 + a.k))) long))

pub returns : goal.returns
returns c = all-deques c.args.image.now c.requires.0 c.args.k c.requires.1 c.requires.2 c.loop-w.deques c.loop-w.w (omega arith) c.loop-w.invariant
