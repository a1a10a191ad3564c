use mathlib.Core.Path.{◌∙◌, sym}
use Rattle.engine.proofs.Numbered.{some_refused}
use Rattle.engine.proofs.SaveLoad.{load_zeros}
use Rattle.engine.proofs.images.load_on.Goals as goal

pub returns-then-is_err-clause-loads : goal.returns-then-is_err-clause-loads
returns-then-is_err-clause-loads c =
    load_zeros _ _ _ _ _ _ _ _ _ _ c.read_image-result.ensures.reads (some_refused _ (sym c.is_err.ensures.value ∙ c.if-is_err.true)) _ _ _ c.clear.ensures.zero
