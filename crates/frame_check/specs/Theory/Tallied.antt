-- What the tallies are: as long as before, and at each place, in a word, as many steps more as it was met.
use Rattle.std.specs.Prelude.{◌≡◌, refl, true, false, ◌&&◌, List, ℕ, zero, suc, ◌+◌, ◌*◌, ◌-◌, ◌%◌, ◌^◌, ◌<◌, length, get_or, eqb}
use Rattle.std.proofs.Common.{sym, ap, ◌∙◌, inl, inr, arith, length-set, get_or-set_same, get_or-set_other, eqb-true, eq-eqb, ne_eqb}
use Rattle.std.proofs.lemmas.List.{get_or-replicate}
use Rattle.words.specs.Basics.{none, plus, sum, how_many}
use Rattle.words.specs.Tests.{decided, true≢false}
use Rattle.frames.specs.declared.Frame.{Frame}
use Rattle.frames.specs.Widths.{max_places}
use Rattle.frames.specs.Frames.{frame_at}
use Rattle.frames.specs.Siblings.{live_child, eldest_to}
use Rattle.frames.specs.Deques.{size, place}
use Rattle.frame_check.specs.Algorithm.{child_step, deque_step, link_step, bump, tally, child_at, child_in, step_in, tally_deques, zeros}

pub length-bump : (step : ℕ) (ts : List ℕ) (p : ℕ) → length (bump step ts p) ≡ length ts
unfolding bump
length-bump step ts p = simp length-set

pub length-tally : (s : ℕ → ℕ) (n : ℕ) (f : ℕ → ℕ) (ts : List ℕ) → length (tally s n f ts) ≡ length ts
unfolding tally
length-tally s zero f ts = refl
length-tally s (suc n) f ts = length-bump (s n) (tally s n f ts) (f n) ∙ length-tally s n f ts

pub length-tally_deques : (n : ℕ) (ds ts : List ℕ) → length (tally_deques n ds ts) ≡ length ts
unfolding tally_deques
length-tally_deques zero ds ts = refl
length-tally_deques (suc w) ds ts = length-tally (λ k. deque_step) (size ds w) (place ds w) (tally_deques w ds ts) ∙ length-tally_deques w ds ts

-- ---- the word of place p after a step at q

pub bump_here : (step : ℕ) (ts : List ℕ) (q p : ℕ) → p < length ts → eqb q p ≡ true → get_or (bump step ts q) p 0 ≡ plus (get_or ts p 0) step
unfolding bump
bump_here step ts q p b e = let d : q ≡ p = eqb-true q p e in rw d (get_or-set_same ts p (plus (get_or ts p 0) step) 0 b)

pub bump_elsewhere : (step : ℕ) (ts : List ℕ) (q p : ℕ) → eqb q p ≡ false → get_or (bump step ts q) p 0 ≡ get_or ts p 0
unfolding bump
bump_elsewhere step ts q p e = get_or-set_other ts q p (plus (get_or ts q 0) step) 0 (λ d. true≢false (sym (eq-eqb q p (sym d)) ∙ e))

-- ---- places in deques

-- a step more, or none, in a word
step_more : {t : ℕ} (g h : ℕ) → t ≡ (g + deque_step * h) % 2 ^ 32 → plus t deque_step ≡ (g + deque_step * (h + 1)) % 2 ^ 32
step_more g h e = omega arith

step-none : {t : ℕ} (g h : ℕ) → t ≡ (g + deque_step * h) % 2 ^ 32 → t ≡ (g + deque_step * (h + 0)) % 2 ^ 32
step-none g h e = omega arith

tally_at : (n : ℕ) (f : ℕ → ℕ) (ts : List ℕ) (p : ℕ) → p < length ts → get_or ts p 0 < 2 ^ 32
    → get_or (tally (λ k. deque_step) n f ts) p 0 ≡ (get_or ts p 0 + deque_step * how_many n (λ k. eqb (f k) p)) % 2 ^ 32
unfolding tally
tally_at zero f ts p b w = omega arith
tally_at (suc n) f ts p b w =
    let us = tally (λ k. deque_step) n f ts in
    let r = tally_at n f ts p b w in
    elim (decided (eqb (f n) p)) [
      | inl e ↦ rw e (bump_here deque_step us (f n) p (omega (arith, length-tally (λ k. deque_step) n f ts)) e ∙ step_more (get_or ts p 0) (how_many n (λ k. eqb (f k) p)) r)
      | inr e ↦ rw e (bump_elsewhere deque_step us (f n) p e ∙ step-none (get_or ts p 0) (how_many n (λ k. eqb (f k) p)) r)
    ]

-- two of them, one after the other
steps_more : {t u : ℕ} (g a b : ℕ) → t ≡ (g + deque_step * a) % 2 ^ 32 → u ≡ (t + deque_step * b) % 2 ^ 32 → u ≡ (g + deque_step * (a + b)) % 2 ^ 32
steps_more g a b d e = omega arith

pub in_word : {t : ℕ} (a : ℕ) → t ≡ a % 2 ^ 32 → t < 2 ^ 32
in_word a e = omega arith

pub tally_deques_at : (n : ℕ) (ds ts : List ℕ) (p : ℕ) → p < length ts → get_or ts p 0 < 2 ^ 32
    → get_or (tally_deques n ds ts) p 0 ≡ (get_or ts p 0 + deque_step * sum n (λ w. how_many (size ds w) (λ k. eqb (place ds w k) p))) % 2 ^ 32
unfolding tally_deques
tally_deques_at zero ds ts p b w = omega arith
tally_deques_at (suc n) ds ts p b w =
    let seen : ℕ = sum n (λ v. how_many (size ds v) (λ k. eqb (place ds v k) p)) in
    let r = tally_deques_at n ds ts p b w in
    steps_more (get_or ts p 0) seen (how_many (size ds n) (λ k. eqb (place ds n k) p)) r
    (tally_at (size ds n) (place ds n) (tally_deques n ds ts) p (omega (arith, length-tally_deques n ds ts)) (in_word (get_or ts p 0 + deque_step * seen) r))

-- ---- children: how many, and what is left of their places less those that they name

child-counted : (f : Frame) (q : ℕ) → q < max_places → eqb (child_at f) q ≡ eqb f.live 1 && eqb f.parent q
child-counted f q b = elim (decided (eqb f.live 1)) [ inl e ↦ rw e | inr e ↦ rw e (ne_eqb none q (λ d. omega arith)) ]

-- a number in a word counts in steps as the number itself does
times-step : (a : ℕ) → (a % 2 ^ 32 * link_step % 2 ^ 32 + child_step) % 2 ^ 32 ≡ (1 + link_step * a) % 2 ^ 32
times-step a = omega arith

step-times : (k a : ℕ) → (k + link_step * suc (a % 2 ^ 32)) % 2 ^ 32 ≡ (k + link_step * suc a) % 2 ^ 32
step-times k a = omega arith

both_words_lem : (x y : ℕ) → (x % 2 ^ 32 + y % 2 ^ 32) % 2 ^ 32 ≡ (x + y) % 2 ^ 32
both_words_lem x y = omega arith

word_left : (x y : ℕ) → (x % 2 ^ 32 + y) % 2 ^ 32 ≡ (x + y) % 2 ^ 32
word_left x y = omega arith

more_links : (h e a c z : ℕ) → a ≡ c + z → h + link_step * suc e + (1 + link_step * a) ≡ h + 1 + link_step * suc (e + c + z)
more_links h e a c z d = omega arith

-- one child more, in a word: z is what the place that it names lacks to a word's end
child_more : {t : ℕ} (h e c z : ℕ) → t ≡ (h + link_step * suc e) % 2 ^ 32
    → (t + ((c + z) % 2 ^ 32 * link_step % 2 ^ 32 + child_step) % 2 ^ 32) % 2 ^ 32 ≡ (h + 1 + link_step * suc (((e + c) % 2 ^ 32 + z) % 2 ^ 32)) % 2 ^ 32
child_more h e c z d =
    rw (d, times-step (c + z), both_words_lem (h + link_step * suc e) (1 + link_step * (c + z)), word_left (e + c) z)
    (ap (λ x. x % 2 ^ 32) (more_links h e (c + z) c z refl) ∙ sym (step-times (h + 1) (e + c + z)))

child-none : {t : ℕ} (h e : ℕ) → t ≡ (h + link_step * suc e) % 2 ^ 32 → t ≡ (h + 0 + link_step * suc e) % 2 ^ 32
child-none h e d = omega arith

pub children_at : (n : ℕ) (fs : List Frame) (q : ℕ) → q < max_places
    → get_or (tally (step_in fs) n (child_in fs) zeros) q 0 ≡ (how_many n (live_child fs q) + link_step * suc (eldest_to n fs q)) % 2 ^ 32
unfolding tally eldest_to
children_at zero fs q b = get_or-replicate max_places q 0 0 b
children_at (suc n) fs q b =
    let us = tally (step_in fs) n (child_in fs) zeros in
    let r = children_at n fs q b in
    let k = child-counted (frame_at fs n) q b in
    elim (decided (live_child fs q n)) [
      | inl e ↦ rw e (bump_here (step_in fs n) us (child_in fs n) q (omega (arith, length-tally (step_in fs) n (child_in fs) zeros)) (k ∙ e) ∙ child_more (how_many n (live_child fs q)) (eldest_to n fs q) n (2 ^ 32 - (frame_at fs n).younger) r)
      | inr e ↦ rw e (bump_elsewhere (step_in fs n) us (child_in fs n) q (k ∙ e) ∙ child-none (how_many n (live_child fs q)) (eldest_to n fs q) r)
    ]
