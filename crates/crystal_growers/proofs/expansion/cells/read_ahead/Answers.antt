-- Each cell is read, and its arrows are looked at.
use Rattle.std.proofs.Common.{refl, ◌∙◌, ap, [], get_or}
use Rattle.crystal_cartan.specs.Types.{CartanType}
use Rattle.tensor_words.specs.Spaces.{SpaceType}
use Rattle.tensor_words.specs.Worlds.{WorldType}
use Rattle.shared_desk.specs.SharedDesks.{standing_of}
use Rattle.crystal_growers.proofs.DrawnCells.{expansions_none, goes_there, read_there, read_more}
use Rattle.crystal_growers.proofs.expansion.cells.read_ahead.Goals as goal

pub cells-init : goal.cells-init
cells-init c = record {
  expansions = expansions_none (standing_of c.args.desk.now) [] refl c.world.ensures.known.legal;
  rank = c.rank-rank.ensures.rank ∙ ap (λ (t : CartanType). t.rank) c.cartan.ensures.cartan ∙ ap (λ (s : SpaceType). s.cartan.rank) c.space.ensures.space ∙ ap (λ (w : WorldType). w.space.cartan.rank) c.world.ensures.value;
}

pub code_at-requires : goal.code_at-requires
code_at-requires c =
    read_there (standing_of c.args.desk.now) (standing_of c.cells.desk) (get_or c.args.cells.now c.cells.cell-index 0) (c.requires c.cells.cell-index 0 c.cells-test.true) c.cells.invariant.expansions

pub glance-requires-in-cells-clause-there : goal.glance-requires-in-cells-clause-there
glance-requires-in-cells-clause-there c =
    let there = read_there (standing_of c.args.desk.now) (standing_of c.cells.desk) (get_or c.args.cells.now c.cells.cell-index 0) (c.requires c.cells.cell-index 0 c.cells-test.true) c.cells.invariant.expansions in
    goes_there (standing_of c.code_at.new.self) (standing_of c.glance.new.self) (get_or c.args.cells.now c.cells.cell-index 0) 0 _
    (goes_there (standing_of c.cells.desk) (standing_of c.code_at.new.self) (get_or c.args.cells.now c.cells.cell-index 0) 0 [] there c.code_at.ensures.goes) c.glance.ensures.goes

pub cells-preserved : goal.cells-preserved
cells-preserved c = record {
  expansions = read_more (standing_of c.args.desk.now) (standing_of c.cells.desk) (standing_of c.code_at.new.self) (standing_of c.glance.new.self) (standing_of c.glance-in-cells.new.self)
      (get_or c.args.cells.now c.cells.cell-index 0) _ _ _ _ (c.requires c.cells.cell-index 0 c.cells-test.true) c.cells.invariant.expansions c.code_at.ensures.goes c.glance.ensures c.glance-in-cells.ensures;
  rank = c.cells.invariant.rank;
}
