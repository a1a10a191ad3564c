use mathlib.Core.Path.{ap}
use Rattle.std.proofs.Common.{◌≡◌, List, ℕ}
use Rattle.frames.specs.declared.Frame.{Frame}
use Rattle.semantics.specs.Images.{LoadResult}
use Rattle.soundness.specs.Layout.{two_words}
use Rattle.image.proofs.Theory.Version.{two_version}
use Rattle.image.proofs.Theory.Promises.{whole_block}
use Rattle.engine.specs.Promises.{result_number, IsLoading}
use Rattle.engine.proofs.SaveLoad.{load_other, load_asks, read_room, load_read_lem, same_takes}
use Rattle.engine.proofs.images.read_good.Goals as goal

pub takes-requires : goal.takes-requires
takes-requires c = whole_block two_words two_version _ c.requires.0

pub nodes_in-requires : goal.nodes_in-requires
nodes_in-requires c = whole_block two_words two_version _ c.requires.0

pub returns-then-not-takes-clause-reads : goal.returns-then-not-takes-clause-reads
returns-then-not-takes-clause-reads c =
    let u = c.refuse_read.ensures in
    load_other _ _ _ _ _ _ c.requires.0 c.requires.1 _ (same_takes _ _ _ _ _ (ap (λ t. t.frames) c.shared.ensures.same) c.takes.ensures) c.if-not-takes.true _ _ _ _ (ap result_number u.0, u.1, u.2) _ c.nodes_in.ensures c.clear.ensures

pub read_parts-requires : goal.read_parts-requires
read_parts-requires c =
    let s = c.args.state.now in
    let a = load_asks s.numbers.now s.deques.now _ _ _ _ c.requires.0 c.requires.1 _ (same_takes _ _ _ _ _ (ap (λ t. t.frames) c.shared.ensures.same) c.takes.ensures) c.if-not-takes.false c.shared.ensures.fit in
    (a.0, a.2, a.3)

pub check_read-requires : goal.check_read-requires
check_read-requires c =
    let s = c.args.state.now in
    read_room s.numbers.now s.deques.now _ _ _ _ c.requires.0 c.requires.1 _ (same_takes _ _ _ _ _ (ap (λ t. t.frames) c.shared.ensures.same) c.takes.ensures) c.if-not-takes.false _ _ _ _ c.read_parts.ensures

-- the check keeps the words that were read
kept_words : (o : LoadResult) (ns ds ns' ds' : List ℕ) (fs : List Frame) (ws ks : List ℕ) (r : ℕ) → ns' ≡ ns → ds' ≡ ds → IsLoading o ns ds fs ws ks r → IsLoading o ns' ds' fs ws ks r
kept_words o ns ds ns' ds' fs ws ks r en ed l = rw (en, ed) l

pub returns-clause-reads : goal.returns-clause-reads
returns-clause-reads c =
    let s = c.args.state.now in
    let k = c.check_read in
    kept_words _ _ _ _ _ _ _ _ _ k.ensures.words.0 k.ensures.words.1 (load_read_lem s.numbers.now s.deques.now _ _ _ _ c.requires.0 c.requires.1 _ (same_takes _ _ _ _ _ (ap (λ t. t.frames) c.shared.ensures.same) c.takes.ensures) c.if-not-takes.false _ _ _ _ c.read_parts.ensures _ _ _ _ k.ensures.checks c.read_parts.auto.frames)
