-- A deque that has frames.
use Rattle.frame_check.proofs.Laws.{fits_some}
use Rattle.frame_check.proofs.deques.deque_fits.Goals as goal

pub returns-else-n-eq0 : goal.returns-else-n-eq0
returns-else-n-eq0 c = fits_some c.args.workers c.args.places c.args.deques.now c.args.w c.size_at-n.ensures c.if-n-places.false c.if-n-eq0.false c.rest_zero-else-n-eq0.ensures
