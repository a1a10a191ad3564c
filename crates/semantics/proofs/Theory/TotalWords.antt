-- R-5: the words of a view are those of each reducer's total: "the identity joined with the values folded into its reducer".
use Rattle.std.specs.Prelude.{◌≡◌, List}
use Rattle.reducers.specs.Reducers.{view_of, view_words}
use Rattle.reducers.proofs.Theory.Folds.{sum-total, min_total, affine_total}
use Rattle.model.specs.Views.{Folded}
use Rattle.semantics.specs.Demands.{total_words}

pub view_totals : (l : List Folded) → view_words (view_of l) ≡ total_words l
view_totals l = rw (sum-total l, min_total l, affine_total l)
