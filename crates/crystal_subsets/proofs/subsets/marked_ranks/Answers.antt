use Rattle.crystal_subsets.specs.Marks.{is_marked}
use Rattle.crystal_subsets.proofs.RankLists.{rank_kept, rank_passed}
use Rattle.crystal_subsets.proofs.subsets.marked_ranks.Goals as goal
use Rattle.crystal_subsets.proofs.subsets.marked_ranks.Goals.{then-marks-rank+in_ok-insert, else-marks-rank}

pub ranks-preserved : goal.ranks-preserved
ranks-preserved c =
    let marked = is_marked c.args.marks.now in
    let n = c.ranks.rank in
    record {
      listed =
          elim c.if-marks-rank.branch [
            | then-marks-rank+in_ok-insert w ↦
                rw w.ranks-is
                (rank_kept marked n c.ranks.ranks.keys w.insert.new.self.keys w.if-marks-rank.true c.ranks.invariant.listed w.in_ok-insert.ensures.keys)
            | else-marks-rank w ↦ rw w.ranks-is (rank_passed marked n c.ranks.ranks.keys w.if-marks-rank.false c.ranks.invariant.listed)
          ];
      last = c.ranks.invariant.last;
    }
