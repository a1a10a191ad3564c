-- R-5: "Each operation has an identity that changes nothing when combined on either side, and grouping never matters; show that law for
-- each pair and triple". Statements only; Theory proves them, through one shared argument.
use Rattle.std.specs.Prelude.{◌≡◌, ◌<◌}
use Rattle.reducers.specs.declared.Sum.{Sum}
use Rattle.reducers.specs.declared.Min.{Min}
use Rattle.reducers.specs.declared.Affine.{Affine}
use Rattle.reducers.specs.declared.View.{View}

-- of the views that are words
pub record Law (A : Type 0) (IsWord : A → Type 0) (identity : A) (join : A → A → A) : Type 0 where
  pub identity_word : IsWord identity
  pub join_word : (a b : A) → IsWord a → IsWord b → IsWord (join a b)
  pub left : (a : A) → IsWord a → join identity a ≡ a
  pub right : (a : A) → IsWord a → join a identity ≡ a
  pub grouping : (a b c : A) → IsWord a → IsWord b → IsWord c → join (join a b) c ≡ join a (join b c)

abbrev pub SumWord : Sum → Type 0
SumWord a = a.value < 4294967296

abbrev pub MinWord : Min → Type 0
MinWord a = a.value < 4294967296

abbrev pub AffineWord : Affine → Type 0
AffineWord a = (a.multiplier < 4294967296) × (a.addend < 4294967296)

abbrev pub ViewWord : View → Type 0
ViewWord w = SumWord w.sum × MinWord w.min × AffineWord w.affine
