use Rattle.std.proofs.Common.{◌∙◌, Option, ap, length, subst, sym}
use Rattle.canonical_graph.specs.Graphs.{FinishedType}
use Rattle.session_desk.proofs.JobScripts.{scripts_asked}
use Rattle.job_text.proofs.Starts.{starts_are_roots}
use Rattle.graph_runs.specs.Runs.{EndsRun}
use Rattle.crystal_shell.proofs.Histories.{asks_of, ended_graph, start_listed, told_are_printable}
use Rattle.crystal_shell.proofs.Cases.Grow.{full_grows, whole_grows}
use Rattle.crystal_shell.proofs.modes.grow.grow_job.Goals as goal

pub run_beside-requires-clause-rooted : goal.run_beside-requires-clause-rooted
run_beside-requires-clause-rooted g c = λ lifetimes outlive. starts_are_roots c.args.job c.requires.job

pub run_beside-requires-clause-asked : goal.run_beside-requires-clause-asked
run_beside-requires-clause-asked g c = λ lifetimes outlive. scripts_asked c.args.job c.requires.job

pub whole-requires-clause-start : goal.whole-requires-clause-start
whole-requires-clause-start g c =
    let ends = subst (λ (o : Option FinishedType). EndsRun c.args.job.world c.in_ok-told.field-0.front o) c.in-Some.is c.in_ok-told.ensures.ends in
    let graph = ended_graph c.args.job.world c.in_ok-told.field-0.front c.in-Some.graph ends in
    start_listed c.args.job c.in-Some.graph.codes c.at.result.now c.requires.job graph.list (c.at.ensures.value 0)

pub whole-requires-clause-asks : goal.whole-requires-clause-asks
whole-requires-clause-asks g c =
    let ends = subst (λ (o : Option FinishedType). EndsRun c.args.job.world c.in_ok-told.field-0.front o) c.in-Some.is c.in_ok-told.ensures.ends in
    let graph = ended_graph c.args.job.world c.in_ok-told.field-0.front c.in-Some.graph ends in
    asks_of c.in-Some.graph.space c.args.job.world.space c.args.job.asks graph.space c.requires.job.asks

pub returns-in-Some-clause-grows : goal.returns-in-Some-clause-grows
returns-in-Some-clause-grows g c =
    let ends = subst (λ (o : Option FinishedType). EndsRun c.args.job.world c.in_ok-told.field-0.front o) c.in-Some.is c.in_ok-told.ensures.ends in
    let w = c.in_ok-whole-in-Some in
    whole_grows _ c.args.places.now c.args.job c.in-Some.graph c.at.result.now c.in_ok-told.field-0.front c.in_ok-told.field-0.held c.in_ok-told.field-0.told.items
    w.whole c.in_ok-told.ensures.history ends c.in_ok-told.ensures.held (c.at.ensures.value 0) w.ensures.graph w.ensures.reports w.ensures.answers

pub returns-in-Some-clause-printable : goal.returns-in-Some-clause-printable
returns-in-Some-clause-printable g c =
    let ends = subst (λ (o : Option FinishedType). EndsRun c.args.job.world c.in_ok-told.field-0.front o) c.in-Some.is c.in_ok-told.ensures.ends in
    let graph = ended_graph c.args.job.world c.in_ok-told.field-0.front c.in-Some.graph ends in
    let w = c.in_ok-whole-in-Some in (
      told_are_printable c.space-space.result.now c.args.job.world.space (length c.args.job.scripts) c.in_ok-told.field-0.told.items c.in_ok-told.ensures.history.count
          c.requires.job.few_scripts c.space-space.ensures.space c.in_ok-told.ensures.printable,
      w.ensures.printable,
      ap (λ (f : FinishedType). f.space) w.ensures.graph ∙ graph.space ∙ sym c.space-space.ensures.space,
    )

pub returns-clause-grows : goal.returns-clause-grows
returns-clause-grows g c =
    let ends = subst (λ (o : Option FinishedType). EndsRun c.args.job.world c.in_ok-told.field-0.front o) c.in-None.is c.in_ok-told.ensures.ends in
    full_grows _ c.args.places.now c.args.job c.space-space.result.now c.in_ok-told.field-0.front c.in_ok-told.field-0.held c.in_ok-told.field-0.told.items
    c.in_ok-told.ensures.history ends c.in_ok-told.ensures.held c.space-space.ensures.space

pub returns-clause-printable : goal.returns-clause-printable
returns-clause-printable g c = (
  told_are_printable c.space-space.result.now c.args.job.world.space (length c.args.job.scripts) c.in_ok-told.field-0.told.items c.in_ok-told.ensures.history.count
      c.requires.job.few_scripts c.space-space.ensures.space c.in_ok-told.ensures.printable,
  tt,
  tt,
)
