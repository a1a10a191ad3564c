-- The ends of a return, one after the other: each leaves the links of the frames that are left.
use Rattle.std.specs.Prelude.{◌≡◌, false, List}
use Rattle.model.specs.Machine.{Frame, Machine, live, has_child}
use Rattle.model.proofs.Theory.FrameTree.{FrameTree}
use Rattle.semantics.specs.Core.{Core}
use Rattle.semantics.proofs.Theory.Relation.{Trees, Relates, Links, Keeps}
use Rattle.semantics.proofs.Theory.LinksKept.{keeps_links}
use Rattle.semantics.proofs.Theory.LinksEnd.{links_end}
use Rattle.semantics.proofs.Theory.Viewed.{Ended}
use Rattle.soundness.specs.Layout.{Layout}

module _ (layout : Layout) where
  -- no more frames end, or g ends, which has no live child, and R are left
  pub data Turns (P : Trees) : (M : Machine) (c : Core) → Relates layout P M c → (M' : Machine) (c' : Core) → Relates layout P M' c' → Type 0 where
    stops : {M M' : Machine} {c c' : Core} {r : Relates layout P M c} {r' : Relates layout P M' c'} → Keeps layout r r' → Turns P M c r M' c' r'
    ends_then : {M M₁ M' : Machine} {c c₁ c' : Core} {r : Relates layout P M c} {r₁ : Relates layout P M₁ c₁} {r' : Relates layout P M' c'} (g : Frame) (R : List Frame) → FrameTree M → has_child g.name (live M) ≡ false
        → Ended layout r r₁ g R → Turns P M₁ c₁ r₁ M' c' r' → Turns P M c r M' c' r'

  abbrev pub EndsInTurn : {P : Trees} {M M' : Machine} {c c' : Core} → Relates layout P M c → Relates layout P M' c' → Type 0
  EndsInTurn {P} {M} {M'} {c} {c'} r r' = Turns P M c r M' c' r'

  pub turns_links : {P : Trees} {M M' : Machine} {c c' : Core} {r : Relates layout P M c} {r' : Relates layout P M' c'} → EndsInTurn r r' → Links c.frames r.at (live M) → Links c'.frames r'.at (live M')
  turns_links (stops K) L = keeps_links layout K L
  turns_links (ends_then {r = r} {r₁ = r₁} g R tree h E T) L = turns_links T (links_end layout r tree L g R E.before r₁ E h)
