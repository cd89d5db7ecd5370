use Rattle.std.proofs.Common.{◌≤◌, refl, length, take, [], arith}
use Rattle.std.proofs.lemmas.List.{take_all, length-take-le}
use Rattle.session_desk.proofs.Running.{asked_next, going_start, going_next, going_end}
use Rattle.session_desk.proofs.scripts.run_script.Goals as goal

pub commands-init : goal.commands-init
commands-init g c = record {
  going = going_start (g.D.Desk.standing c.args.desk.now) [] c.args.replies.now.items refl c.space-space.ensures.legal;
  count = omega arith;
  capacity = refl;
  last = c.len-place-end.ensures;
}

pub answer-reply-requires : goal.answer-reply-requires
answer-reply-requires g c =
    let kept = c.commands.invariant in
    let few : length (take c.commands.place c.args.script.now) ≤ c.commands.place = omega (arith, length-take-le c.commands.place c.args.script.now (omega (arith, kept.last))) in
    record {
      asked = asked_next (g.D.Desk.standing c.args.desk.now).world (g.D.Desk.standing c.commands.desk).world c.args.script.now c.commands.place c.at.result.now kept.going.goes.world c.requires.asked c.at.ensures.item;
      room = omega (arith, kept.going.goes.most, c.requires.room, kept.last);
    }

pub commands-preserved : goal.commands-preserved
commands-preserved g c =
    let kept = c.commands.invariant in
    record {
      going = going_next (g.D.Desk.standing c.args.desk.now) (g.D.Desk.standing c.commands.desk) (g.D.Desk.standing c.answer-reply.new.desk) c.args.script.now c.commands.place c.at.result.now
          c.args.replies.now.items c.commands.replies.items c.push_reserved.new.self.items c.answer-reply.result c.at.ensures.item c.push_reserved.ensures.items kept.going c.answer-reply.ensures;
      count = omega (arith, c.push_reserved.ensures.len, kept.count);
      capacity = let now = c.push_reserved.ensures.capacity in let before = kept.capacity in cc;
      last = kept.last;
    }

pub returns-clause-ran : goal.returns-clause-ran
returns-clause-ran g c =
    going_end (g.D.Desk.standing c.args.desk.now) (g.D.Desk.standing c.commands.desk) _ c.args.script.now _ _
    (take_all c.commands.place c.args.script.now (omega arith)) c.commands.invariant.going
