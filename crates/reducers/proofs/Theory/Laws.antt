-- The law of each reducer and of views, for the definitions of specs/Reducers.
use Rattle.words.specs.Below.{plus_word}
use Rattle.reducers.specs.declared.Affine.{Affine}
use Rattle.reducers.specs.declared.View.{View}
use Rattle.reducers.specs.Law.{Law, AffineWord, ViewWord}
use Rattle.reducers.specs.Reducers.{identity_affine, join_affine, identity_view, join_view}
use Rattle.reducers.specs.Theory.Modulo.{affine_twice}
use Rattle.reducers.specs.Theory.Laws.{times_word, affine_law_by, view_law_by}
pub use Rattle.reducers.specs.Theory.Laws.{sum_law, min_law, view_eq}

pub affine_law : Law Affine AffineWord identity_affine join_affine
affine_law = affine_law_by join_affine (λ a b. (times_word _ _, plus_word _ _)) (λ a b x. affine_twice 4294967296 x a.multiplier a.addend b.multiplier b.addend)

pub view_law : Law View ViewWord identity_view join_view
view_law = view_law_by affine_law
