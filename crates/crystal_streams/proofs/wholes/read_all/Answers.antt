use Rattle.std.proofs.Common.{rules, arith, length, ◌≤◌, ◌+◌, ◌-◌}
use Rattle.crystal_streams.proofs.Steps.{takes_more}
use Rattle.crystal_streams.proofs.wholes.read_all.Goals as goal

pub returns-in_err-extend_from_slice-in-Ok-clause-gone :
    goal.returns-in_err-extend_from_slice-in-Ok-clause-gone
returns-in_err-extend_from_slice-in-Ok-clause-gone g c =
    let within : length c.loop-chunk.bytes.items ≤ c.args.limit = search rules in
    let count : c.in-Ok.count ≤ c.args.limit + 1 - length c.loop-chunk.bytes.items = search rules in
    takes_more _ _ _ _ c.read.new.into c.args.limit _ c.in-Ok.count c.loop-chunk.invariant.gone c.in-Ok.ensures.bytes.0 within count (omega arith)
