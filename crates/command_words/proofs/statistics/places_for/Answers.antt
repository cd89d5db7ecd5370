-- The loop keeps what the words so far named.
use Rattle.std.proofs.Common.{◌≡◌, ◌++◌, ◌∷◌, [], inl, rules}
use Rattle.command_words.proofs.PlacesLemmas.{so_far_fault, so_far_more, so_far_none}
use Rattle.command_words.proofs.statistics.places_for.Goals as goal

pub loop-count-init : goal.loop-count-init
loop-count-init c = so_far_none c.args.names.now c.args.words.now c.new-chosen.result.items c.new-chosen.ensures.items

pub returns-in-Err : goal.returns-in-Err
returns-in-Err c =
    inl (so_far_fault c.args.names.now c.args.words.now c.loop-count.count c.loop-count-test.true c.place_at.result c.place_at.ensures c.loop-count.chosen.items c.in-Err.fault c.in-Err.is c.loop-count.invariant)

pub loop-count-preserved : goal.loop-count-preserved
loop-count-preserved c =
    let more = so_far_more c.args.names.now c.args.words.now c.loop-count.count c.loop-count-test.true c.place_at.result c.place_at.ensures c.loop-count.chosen.items c.in-Ok.place c.in-Ok.is c.loop-count.invariant in
    let added : c.push.new.self.items ≡ c.loop-count.chosen.items ++ c.in-Ok.place ∷ [] = search rules in
    rw added more
