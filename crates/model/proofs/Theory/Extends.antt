-- A history that has grown by writes of one frame.
use Rattle.std.specs.Prelude.{◌≡◌, refl, ◌⊎◌, [], ◌∷◌, ◌++◌, ℕ, suc, ◌/◌, ◌^◌, length, eqb}
use Rattle.std.proofs.Common.{sym, ap, ◌∙◌, inl, inr, append_assoc}
use Rattle.words.specs.Tests.{decided}
use Rattle.model.specs.History.{History, last_write}
use Rattle.model.specs.Machine.{Frame, depth}
use Rattle.model.specs.Steps.{write_event, written}

-- writes of a frame of depth d
abbrev pub WritesAt : ℕ → History → Type 0
WritesAt d [] = Unit {0}
WritesAt d (e ∷ o) = (length e.mark ≡ suc d) × WritesAt d o

-- the history h, and then writes of a frame of depth d
pub record Extends (d : ℕ) (h h' : History) : Type 0 where
  pub later : History
  pub split : h' ≡ later ++ h
  pub marked : WritesAt d later

pub writes-append : (d : ℕ) (o o' : History) → WritesAt d o → WritesAt d o' → WritesAt d (o ++ o')
writes-append d [] o' m m' = m'
writes-append d (e ∷ o) o' m m' = (m.0, writes-append d o o' m.1 m')

pub extends_same : (d : ℕ) (h : History) → Extends d h h
extends_same d h = record { later = []; split = refl; marked = tt }

pub extends_trans : {d : ℕ} {h h' h'' : History} → Extends d h h' → Extends d h' h'' → Extends d h h''
extends_trans {d} {h} a b = record {
  later = b.later ++ a.later;
  split = b.split ∙ ap (λ z. b.later ++ z) a.split ∙ sym (append_assoc b.later a.later h);
  marked = writes-append d b.later a.later b.marked a.marked;
}

pub extends_written : (q : Frame) (x v : ℕ) → Extends (depth q) q.history (written q x v).history
extends_written q x v = record { later = write_event q x ∷ []; split = refl; marked = (refl, tt) }

-- ---- the last write is the old one, or one of the new

pub last_extended : (l g d : ℕ) (o h : History) → WritesAt d o → (last_write l g (o ++ h) ≡ last_write l g h) ⊎ (length (last_write l g (o ++ h)) ≡ suc d)
last_extended l g d [] h m = inl refl
last_extended l g d (e ∷ o) h m =
    elim (decided (eqb (e.splitter / 2 ^ l) g)) [ inl s ↦ inr (rw s m.0) | inr s ↦ rw s (last_extended l g d o h m.1) ]

pub last_of_extended : (l g d : ℕ) {h h' : History} → Extends d h h' → (last_write l g h' ≡ last_write l g h) ⊎ (length (last_write l g h') ≡ suc d)
last_of_extended l g d {h} k = rw k.split (last_extended l g d k.later h k.marked)
