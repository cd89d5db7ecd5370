use Rattle.std.proofs.Common.{◌≡◌, Ok, IsErrOf, IsOk, map, string_bytes, ap, subst, Result}
use Rattle.answer_text.specs.Answers.{answer_bytes}
use Rattle.command_words.specs.declared.fault.WordsFault.{WordsFault}
use Rattle.command_words.specs.declared.settings.Settings.{Settings}
use Rattle.crystal_shell.specs.Runs.{HasRead}
use Rattle.crystal_shell.proofs.Words.{fault_through, settings_through}
use Rattle.crystal_shell.proofs.Ends.{called_as, called_refused, read_refused}
use Rattle.crystal_shell.specs.declared.outcomes.NoAnswer.TheVariants.{ReadFault}
use Rattle.crystal_shell.proofs.running.answer.Goals as goal

pub returns-in-Ok-clause-called : goal.returns-in-Ok-clause-called
returns-in-Ok-clause-called g c =
    let is = settings_through (λ b. (goal.Statistic-dyn g (b.vtable, b.value)).named b.value) (λ b. (goal.Statistic-dyn g (b.vtable, b.value)).reported b.value)
    c.as_slice.result.now c.args.stats.now.items (map string_bytes c.args.words.now) c.as_slice.ensures.value c.in-Ok.settings c.in-Ok.ensures.answer in
    called_as (map (λ b. record { name = (goal.Statistic-dyn g (b.vtable, b.value)).named b.value; reports = (goal.Statistic-dyn g (b.vtable, b.value)).reported b.value }) c.args.stats.now.items)
    (g.R.Source.left c.args.source.now) (Ok c.in-Ok.settings) _ c.answer_settings.result is c.answer_settings.ensures.called

pub returns-in-Ok-clause-read : goal.returns-in-Ok-clause-read
returns-in-Ok-clause-read g c =
    let is = settings_through (λ b. (goal.Statistic-dyn g (b.vtable, b.value)).named b.value) (λ b. (goal.Statistic-dyn g (b.vtable, b.value)).reported b.value)
    c.as_slice.result.now c.args.stats.now.items (map string_bytes c.args.words.now) c.as_slice.ensures.value c.in-Ok.settings c.in-Ok.ensures.answer in
    subst (λ (j : Result Settings WordsFault). HasRead g.R.Source.left g.R.Source.faults j c.args.source.now c.answer_settings.new.source
    (IsOk c.answer_settings.result) (IsErrOf c.answer_settings.result ReadFault)) is c.answer_settings.ensures.read

pub returns-in-Some-clause-called : goal.returns-in-Some-clause-called
returns-in-Some-clause-called g c =
    let is = fault_through (λ b. (goal.Statistic-dyn g (b.vtable, b.value)).named b.value) (λ b. (goal.Statistic-dyn g (b.vtable, b.value)).reported b.value)
    c.as_slice.result.now c.args.stats.now.items (map string_bytes c.args.words.now) c.as_slice.ensures.value c.in-Err.fault c.in-Some.number (cc) c.in-Err.ensures.answer in
    let a = c.refused_words in
    called_refused _ (g.R.Source.left c.args.source.now) _ c.in-Err.fault c.in-Some.number
    a.result.status a.result.front a.result.held (answer_bytes a.result.answer) is (cc) a.ensures.status a.ensures.unkept.0 a.ensures.unkept.1 (ap answer_bytes a.ensures.answer)

pub returns-in-Some-clause-read : goal.returns-in-Some-clause-read
returns-in-Some-clause-read g c =
    let is = fault_through (λ b. (goal.Statistic-dyn g (b.vtable, b.value)).named b.value) (λ b. (goal.Statistic-dyn g (b.vtable, b.value)).reported b.value)
    c.as_slice.result.now c.args.stats.now.items (map string_bytes c.args.words.now) c.as_slice.ensures.value c.in-Err.fault c.in-Some.number (cc) c.in-Err.ensures.answer in
    read_refused g.R.Source.left g.R.Source.faults c.in-Err.fault _ c.args.source.now c.refused_words.result ReadFault is
