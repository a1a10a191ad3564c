-- The path from here on meets nodes only, and makes what the whole path makes.
use Rattle.std.proofs.Common.{◌≡◌}
use Rattle.packed.specs.Links.{CopyIn}
use Rattle.packed.specs.Pool.{copy_path}
use Rattle.packed.proofs.node_pool.Pool.copy_path.Given as goal

abbrev pub invariant-loop-l : goal.invariant-loop-l
invariant-loop-l l = record {
  nodes : l.self.nodes ≡ l.fn.self.nodes;
  same : l.self.words.ghost_name ≡ l.fn.self.words.ghost_name;
  meets : CopyIn l.self.nodes l.l l.self.words.now l.i l.from l.x;
  makes : copy_path l.l l.self.words.now l.i l.from l.x l.v ≡ copy_path l.level l.fn.self.words.now l.free l.old l.x l.v;
}
