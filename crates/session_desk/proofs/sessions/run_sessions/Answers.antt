use Rattle.std.proofs.Common.{rules}
use Rattle.session_desk.proofs.AllRunning.{all_ran_on, room_on}
use Rattle.session_desk.proofs.Apart.{continues_on, others_on}
use Rattle.session_desk.proofs.sessions.run_sessions.Goals as goal

pub sessions-preserved : goal.sessions-preserved
sessions-preserved c = record {
  ran = all_ran_on c.args.desk.now.world c.sessions.desk.world c.sessions.desk.front c.run_session.new.desk.front c.args.scripts.now c.sessions.place c.at.result.now
      c.sessions.told.items c.push_reserved.new.self.items c.in_ok-replies.replies c.at.ensures.item c.sessions.invariant.world (search rules) c.sessions.invariant.ran
      c.in_ok-replies.ensures.ran c.run_session.ensures.others;
  world = search rules;
  begins = continues_on c.args.desk.now.front c.sessions.desk.front c.run_session.new.desk.front c.sessions.invariant.begins c.run_session.ensures.begins;
  room = room_on c.args.scripts.now c.sessions.place c.at.result.now c.args.desk.now.room c.sessions.desk.room c.run_session.new.desk.room c.requires.short c.at.ensures.item
      c.sessions.invariant.room c.run_session.ensures.room;
  others = others_on c.args.desk.now.front c.sessions.desk.front c.run_session.new.desk.front c.sessions.place c.sessions.invariant.others c.run_session.ensures.others;
  capacity = search rules;
  last = search rules;
}
