-- Whether Main has returned, by the answer words: the two words at a place say so, or those after them.
use Rattle.std.specs.Prelude.{◌≡◌, true, false, List, ◌∷◌, ℕ, ◌+◌, ◌≤◌, ◌<◌, length, get_or, drop, ltb}
use Rattle.std.proofs.Common.{ap, ◌∙◌, inl, inr, add-one, arith, drop_of_length-le, drop-cons}
use Rattle.words.specs.Tests.{decided, lt_of, ge_of}
use Rattle.lines.specs.Lines.{is_end, main_returned}

pub drop_more : (bs : List ℕ) (i : ℕ) → i < length bs → drop i bs ≡ get_or bs i 0 ∷ drop (i + 1) bs
drop_more bs i h = rw (add-one, drop-cons bs i 0)

pub drop_two : (ws : List ℕ) (i : ℕ) → i + 1 < length ws → drop i ws ≡ get_or ws i 0 ∷ get_or ws (i + 1) 0 ∷ drop (i + 2) ws
drop_two ws i h =
    let e : i + 1 + 1 ≡ i + 2 = omega arith in
    drop_more ws i (omega arith) ∙ ap (λ (l : List ℕ). get_or ws i 0 ∷ l) (drop_more ws (i + 1) h ∙ ap (λ (k : ℕ). get_or ws (i + 1) 0 ∷ drop k ws) e)

-- the two words say so, or not
module _ (ws : List ℕ) (i : ℕ) (h : i + 1 < length ws) where
  pub returned_here : is_end (get_or ws i 0) (get_or ws (i + 1) 0) ≡ true → main_returned (drop i ws) ≡ true
  unfolding main_returned
  returned_here e = rw (drop_two ws i h, e)

  pub returned_turn : is_end (get_or ws i 0) (get_or ws (i + 1) 0) ≡ false → main_returned (drop (i + 2) ws) ≡ main_returned (drop i ws)
  unfolding main_returned
  returned_turn e = rw (drop_two ws i h, e)

pub returned_end : (ws : List ℕ) (i : ℕ) → length ws ≤ i + 1 → main_returned (drop i ws) ≡ false
unfolding main_returned
returned_end ws i h = elim (decided (ltb i (length ws))) [
  | inl e ↦ ap main_returned (drop_more ws i (lt_of e) ∙ ap (λ (l : List ℕ). get_or ws i 0 ∷ l) (drop_of_length-le ws h))
  | inr e ↦ ap main_returned (drop_of_length-le ws (ge_of e))
]
