-- What a host may ask. Definitions only.
use Rattle.std.specs.Prelude.{cond, ◌&&◌, List, ℕ, length, eqb, leb}
use Rattle.soundness.specs.Numbers.{number_count, numbers_in}
use Rattle.soundness.specs.Soundness.{count_of_free}
use Rattle.semantics.specs.Entries.{whole_nodes}
use Rattle.soundness.specs.Layout.{two_words}

-- the nodes on the free chain of the state with the numbers ns and the pool ws; 0 where ns have another length than they must have, or the pool
-- holds fewer nodes than they record
unfoldable pub free_on : List ℕ → List ℕ → ℕ
free_on ns ws = cond (eqb (length ns) number_count && leb (numbers_in ns).nodes (whole_nodes two_words ws)) (count_of_free two_words (numbers_in ns) ws) 0
