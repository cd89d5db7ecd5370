use Rattle.std.proofs.Common.{Ok, refl, ap}
use Rattle.answer_text.specs.Answers.{answer_bytes}
use Rattle.command_words.specs.declared.settings.Settings.{Settings}
use Rattle.crystal_shell.specs.Modes.{asks_for_job}
use Rattle.crystal_shell.proofs.Ends.{called_compared, called_counted, called_grown, called_sampled, called_widened, read_unasked}
use Rattle.crystal_shell.proofs.running.answer_settings.Goals as goal

pub returns-in_ok-grow-in-Grow-clause-called : goal.returns-in_ok-grow-in-Grow-clause-called
returns-in_ok-grow-in-Grow-clause-called g c =
    let a = c.in_ok-grow-in-Grow in
    called_grown _ (g.R.Source.left c.args.source.now) c.args.settings c.in-Grow.growers c.in-Grow.chosen c.in_ok-input-in-Grow.input
    a.field-0.status a.field-0.front a.field-0.held (answer_bytes a.field-0.answer) c.in-Grow.is c.in_ok-input-in-Grow.ensures.judged a.ensures.grows

pub returns-in_ok-sample-in-Sample-clause-called : goal.returns-in_ok-sample-in-Sample-clause-called
returns-in_ok-sample-in-Sample-clause-called g c =
    let a = c.in_ok-sample-in-Sample in
    called_sampled _ (g.R.Source.left c.args.source.now) c.args.settings c.in-Sample.growers c.in-Sample.number
    a.field-0.status a.field-0.front a.field-0.held (answer_bytes a.field-0.answer) c.in-Sample.is a.ensures.samples

pub returns-in_ok-sample-in-Sample-clause-read : goal.returns-in_ok-sample-in-Sample-clause-read
returns-in_ok-sample-in-Sample-clause-read g c =
    read_unasked g.R.Source.left g.R.Source.faults (Ok c.args.settings) c.args.source.now c.args.source.now _ _
    (ap (λ (s : Settings). asks_for_job (Ok s)) c.in-Sample.is) refl (λ failed. cc)

pub returns-in_ok-count-in-Census-clause-called : goal.returns-in_ok-count-in-Census-clause-called
returns-in_ok-count-in-Census-clause-called g c =
    let a = c.in_ok-count-in-Census in
    called_counted _ (g.R.Source.left c.args.source.now) c.args.settings c.in-Census.shape
    a.field-0.status a.field-0.front a.field-0.held (answer_bytes a.field-0.answer) c.in-Census.is a.ensures.unkept.0 a.ensures.unkept.1 a.ensures.counts

pub returns-in_ok-count-in-Census-clause-read : goal.returns-in_ok-count-in-Census-clause-read
returns-in_ok-count-in-Census-clause-read g c =
    read_unasked g.R.Source.left g.R.Source.faults (Ok c.args.settings) c.args.source.now c.args.source.now _ _
    (ap (λ (s : Settings). asks_for_job (Ok s)) c.in-Census.is) refl (λ failed. cc)

pub returns-in_ok-matched-in-Match-clause-called : goal.returns-in_ok-matched-in-Match-clause-called
returns-in_ok-matched-in-Match-clause-called g c =
    let a = c.in_ok-matched-in-Match in
    called_compared _ (g.R.Source.left c.args.source.now) c.args.settings c.in-Match.relabelling c.in_ok-input-in-Match.input
    a.field-0.status a.field-0.front a.field-0.held (answer_bytes a.field-0.answer) c.in-Match.is a.ensures.unkept.0 a.ensures.unkept.1 c.in_ok-input-in-Match.ensures.judged a.ensures.compares

pub returns-in_ok-widen-in-Wide-clause-called : goal.returns-in_ok-widen-in-Wide-clause-called
returns-in_ok-widen-in-Wide-clause-called g c =
    let a = c.in_ok-widen-in-Wide in
    called_widened _ (g.R.Source.left c.args.source.now) c.args.settings c.in-Wide.growers c.in_ok-input-in-Wide.input
    a.field-0.status a.field-0.front a.field-0.held (answer_bytes a.field-0.answer) c.in-Wide.is a.ensures.unkept.0 a.ensures.unkept.1 c.in_ok-input-in-Wide.ensures.judged a.ensures.widens
