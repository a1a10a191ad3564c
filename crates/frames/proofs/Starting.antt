-- The loop over the table at a start, over plain variables.
use Rattle.std.specs.Prelude.{◌≡◌, cond, List, ℕ, suc, ◌+◌, ◌-◌, ◌≤◌, ◌<◌, length, eqb}
use Rattle.std.proofs.Common.{sym, ap, ◌∙◌, eq-eqb, ne_eqb, arith}
use Rattle.words.specs.Basics.{none, plus}
use Rattle.frames.specs.declared.Frame.{Frame}
use Rattle.frames.specs.Widths.{max_places}
use Rattle.frames.specs.Frames.{set_frame, free_record, main_frame, init_places, init_frames}
use Rattle.frames.proofs.Theory.Cells.{plus_one}

-- the link of the free place p, in a table of so many places
abbrev pub Links : ℕ → ℕ → ℕ → Type 0
Links places p next = next ≡ cond (eqb (places - (p + 1)) 0) none (plus p 1)

pub links_on : (places p next : ℕ) → p + 1 < places → places ≤ max_places → next ≡ p + 1 → Links places p next
links_on places p next b m e =
    let s : p + 1 ≡ suc p = omega arith in
    e ∙ rw (ne_eqb (places - (p + 1)) 0 (λ z. omega arith)) (s ∙ sym (plus_one p (omega arith)))

pub links_none : (places p next : ℕ) → places ≤ p + 1 → next ≡ none → Links places p next
links_none places p next b e = e ∙ rw (eq-eqb (places - (p + 1)) 0 (omega arith))

pub places_turn : (fs gs : List Frame) (places p next : ℕ) (f : Frame) → p < places → places ≤ max_places → Links places p next → f ≡ free_record next → gs ≡ set_frame fs p f
    → init_places (places - (p + 1)) gs (p + 1) ≡ init_places (places - p) fs p
unfolding init_places
places_turn fs gs places p next f b m en ef eg =
    let e : places - p ≡ suc (places - (p + 1)) = omega arith in
    let s : p + 1 ≡ suc p = omega arith in
    ap (λ (k : ℕ). init_places (places - (p + 1)) gs k) (s ∙ sym (plus_one p (omega arith))) ∙ rw (eg, ef, en) (sym (ap (λ (n : ℕ). init_places n fs p) e))

pub places_end : (fs : List Frame) (places p : ℕ) → places ≤ p → init_places (places - p) fs p ≡ fs
unfolding init_places
places_end fs places p h = let e : places - p ≡ 0 = omega arith in ap (λ (n : ℕ). init_places n fs p) e

pub table_starts : (fs gs : List Frame) (m : Frame) → m ≡ main_frame 0 → gs ≡ set_frame fs 0 m → length gs ≡ length fs → init_places (length gs - 1) gs 1 ≡ init_frames fs
unfolding init_frames
table_starts fs gs m em eg l = rw (l, eg, em)

-- what the function needs of them
pub ruleset starting = (links_on, links_none, places_turn, places_end, table_starts)
