-- A number from 3 on folds nothing.
use Rattle.std.proofs.Common.{◌≡◌, ℕ, zero, suc, ◌<◌, refl, arith}
use Rattle.reducers.specs.declared.View.{View}
use Rattle.reducers.specs.Reducers.{fold_view}
use Rattle.reducers.proofs.View.fold_in.Goals as goal

fold_none : (w : View) (r v : ℕ) → 2 < r → w ≡ fold_view w r v
unfolding fold_view
fold_none w zero v h = absurd (omega arith)
fold_none w (suc zero) v h = absurd (omega arith)
fold_none w (suc (suc zero)) v h = absurd (omega arith)
fold_none w (suc (suc (suc r))) v h = refl

pub returns-in_default : goal.returns-in_default
returns-in_default c = fold_none c.args.self.now c.args.r c.args.v (omega (arith, c.in_default.ensures))
