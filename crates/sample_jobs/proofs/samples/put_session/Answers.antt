use Rattle.std.proofs.Common.{◌≡◌, ◌∙◌, ap, arith}
use Rattle.sample_jobs.specs.Samples.{index_chosen, lowered}
use Rattle.sample_jobs.proofs.Writing.{session_begins, command_written, session_ends}
use Rattle.sample_jobs.proofs.samples.put_session.Goals as goal

pub commands-init : goal.commands-init
commands-init c =
    session_begins c.args.space.now c.args.start.now c.args.before c.args.text.now.items c.extend_from_slice.new.self.items
    c.in_ok-extend_from_slice.ensures.items c.requires

pub commands-preserved : goal.commands-preserved
commands-preserved c =
    let s = c.args.space.now in
    let index : c.index_chosen.result ≡ index_chosen s.cartan c.next_number-number.result =
    c.index_chosen.ensures.value ∙ ap (λ t. index_chosen t c.next_number-number.result) c.cartan.ensures.cartan in
    let moved : c.lowered-word.result ≡ lowered s (index_chosen s.cartan c.next_number-number.result) c.commands.word =
    c.lowered-word.ensures.value ∙ ap (λ i. lowered s i c.commands.word) index in
    command_written s c.args.start.now c.args.before c.args.text.now.items c.commands.text.items c.commands.word c.commands.number c.commands.counter
    c.command_line.result c.push_line.new.text.items c.lowered-word.result c.next_number-number.result
    c.commands.invariant c.next_number-number.ensures c.command_line.ensures c.in_ok-push_line.ensures moved c.lowered-word.ensures.word

pub returns-clause-text : goal.returns-clause-text
returns-clause-text c =
    session_ends c.args.space.now c.args.start.now c.args.before c.args.text.now.items c.commands.text.items c.commands.word c.commands.number c.commands.counter
    c.commands.invariant (omega arith)
