-- R-5, for the reader: "these links chain the live children of each frame, each once". Where the test of Soundness holds the links go from the eldest
-- child on to none, and each live child stands once among the places that they name, and nothing else does.
use Rattle.std.specs.Prelude.{◌≡◌, true, List, ℕ, ◌≤◌, ◌<◌, length}
use Rattle.words.specs.Basics.{none, Chain, count}
use Rattle.frames.specs.declared.Frame.{Frame}
use Rattle.frames.specs.Widths.{max_places}
use Rattle.frames.specs.Siblings.{head_or, younger}
use Rattle.frames.proofs.Theory.Siblings.{linked_is, children_has, children_in}
use Rattle.soundness.specs.Soundness.{is_child, siblings_linked}

pub each_once : (fs : List Frame) (q : ℕ) → length fs ≤ max_places → siblings_linked fs q ≡ true
    → (cs : List ℕ) × Chain (younger fs) (length fs) (head_or none cs) cs × ((c : ℕ) → c < length fs → is_child fs q c ≡ true → count c cs ≡ 1) × ((c : ℕ) → 0 < count c cs → is_child fs q c ≡ true)
each_once fs q few e =
    let r = (linked_is fs q few).0 e in
    (r.0, r.1.chain, children_has r.1, λ c o. (children_in r.1 c o).1)
