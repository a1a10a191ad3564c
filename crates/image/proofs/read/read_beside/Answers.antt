-- The numbers, the deques, and the nodes.
use Rattle.std.proofs.Common.{ap, arith, length, length-take-le, take, ℕ, ◌*◌, ◌∙◌, ◌≡◌}
use Rattle.soundness.specs.Layout.{two_words}
use Rattle.image.proofs.Ends.{fits, nodes_read}
use Rattle.image.proofs.Theory.Promises.{whole_block}
use Rattle.image.proofs.Theory.Version.{two_version}
use Rattle.image.specs.Widths.{node_words, state_words}
use Rattle.image.proofs.read.read_beside.Goals as goal

pub places_in-places-requires : goal.places_in-places-requires
places_in-places-requires c = whole_block two_words two_version c.args.image.now c.requires.0

pub nodes_in-requires : goal.nodes_in-requires
nodes_in-requires c = whole_block two_words two_version c.args.image.now c.requires.0

pub read_words-requires : goal.read_words-requires
read_words-requires c =
    let n : ℕ = node_words * c.nodes_in.result in
    let l : length (take n c.args.pool.now) ≡ n = length-take-le n c.args.pool.now (omega (arith, c.requires.2, c.nodes_in.ensures)) in
    let f = fits c.args.image.now c.requires.0 c.state_words.result n (omega (arith, c.nodes_in.ensures, c.places_in-places.ensures, c.state_words.ensures.0)) in
    omega (arith, f, l)

pub returns : goal.returns
returns c =
    let n : ℕ = node_words * c.nodes_in.result in
    let l : length (take n c.args.pool.now) ≡ n = length-take-le n c.args.pool.now (omega (arith, c.requires.2, c.nodes_in.ensures)) in (
      c.read_numbers.ensures,
      c.read_deques.ensures,
      nodes_read c.args.image.now c.requires.0 c.args.pool.now _ c.state_words.result c.nodes_in.result _ (c.state_words.ensures.0 ∙ ap state_words c.places_in-places.ensures) c.nodes_in.ensures l c.read_words.ensures,
    )
