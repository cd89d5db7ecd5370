use Rattle.std.proofs.Common.{◌≡◌, ◌∙◌, ap, Some, refl, sym, subst}
use Rattle.answer_text.specs.Answers.{IsPrintableAnswer}
use Rattle.answer_text.specs.declared.answers.Answer.TheVariants as answer
use Rattle.answer_text.specs.declared.answers.Counts.{Counts}
use Rattle.crystal_shell.proofs.Cases.Wide.{doubles, counts_printable, closed_widens, full_widens}
use Rattle.crystal_shell.proofs.modes.wide.widen_job.Goals as goal

pub returns-in-Closed-clause-widens : goal.returns-in-Closed-clause-widens
returns-in-Closed-clause-widens g c =
    let is = doubles c.args.job.now c.space.result.now c.in-Ok.space c.cells.result c.at-start.result.now _ c.space.ensures.space c.in-Ok.ensures.value.0 c.cells.ensures.cells (c.at-start.ensures.value 0) refl in
    let kind : c.cartan-cartan.result ≡ c.args.job.now.world.space.cartan = rw c.space.ensures.space at c.cartan-cartan.ensures.cartan in
    let a = c.without_history in
    closed_widens c.args.job.now _ c.cartan-cartan.result a.result.status a.result.answer is kind c.in-Closed.vertices c.in-Closed.arrows
    (rw c.in-Closed.is at c.in_ok-vertices.ensures) a.ensures.status
    (a.ensures.answer ∙ ap (λ (n : Counts). answer.Wide c.cartan-cartan.result (Some n)) c.counts_of-counts.ensures.counts)

pub returns-in-Closed-clause-printable : goal.returns-in-Closed-clause-printable
returns-in-Closed-clause-printable g c =
    let is = doubles c.args.job.now c.space.result.now c.in-Ok.space c.cells.result c.at-start.result.now _ c.space.ensures.space c.in-Ok.ensures.value.0 c.cells.ensures.cells (c.at-start.ensures.value 0) refl in
    let a = c.without_history in
    let told = a.ensures.answer ∙ ap (λ (n : Counts). answer.Wide c.cartan-cartan.result (Some n)) c.counts_of-counts.ensures.counts in
    subst IsPrintableAnswer (sym told)
    (counts_printable c.args.job.now _ c.requires.job is c.in-Closed.vertices c.in-Closed.arrows c.counts_of-counts.ensures.few (rw c.in-Closed.is at c.in_ok-vertices.ensures))

pub returns-in-Full-clause-widens : goal.returns-in-Full-clause-widens
returns-in-Full-clause-widens g c =
    let is = doubles c.args.job.now c.space.result.now c.in-Ok.space c.cells.result c.at-start.result.now _ c.space.ensures.space c.in-Ok.ensures.value.0 c.cells.ensures.cells (c.at-start.ensures.value 0) refl in
    let kind : c.cartan-cartan.result ≡ c.args.job.now.world.space.cartan = rw c.space.ensures.space at c.cartan-cartan.ensures.cartan in
    let a = c.without_history-in-Full in
    full_widens c.args.job.now _ c.cartan-cartan.result a.result.status a.result.answer is kind (rw c.in-Full.is at c.in_ok-vertices.ensures) a.ensures.status a.ensures.answer
