use Rattle.std.proofs.Common.{◌≡◌, ◌-◌, ◌<◌, sym, subst, length, length-set, arith}
use Rattle.job_text.specs.Jobs.{IsCommand}
use Rattle.job_text.specs.Drafts.{last_script}
use Rattle.job_text.specs.DraftFields.{draft_seen}
use Rattle.job_text.proofs.OneMore.{scripts_with}
use Rattle.job_text.proofs.drafts.Draft.with_command.Goals as goal

pub invariant_of-draft : goal.invariant_of-draft
invariant_of-draft c =
    let scripts = c.draft.inside.scripts in
    let good : IsCommand c.draft.inside.space c.args.command = subst (λ d. IsCommand d.space c.args.command) (sym c.draft.view_is) c.requires.command in
    let room : length (last_script (draft_seen c.draft.inside)) < 4096 = subst (λ d. length (last_script d) < 4096) (sym c.draft.view_is) c.requires.room in
    let place : c.len-count.result - 1 ≡ length scripts.items - 1 = omega (arith, c.len-count.ensures, scripts.ok.0) in
    let within : c.len-count.result - 1 < length scripts.items = omega (arith, c.len-count.ensures, scripts.ok.0) in
    record {
      space = c.draft.invariant.space;
      top = c.draft.invariant.top;
      starts = c.draft.invariant.starts;
      few_starts = c.draft.invariant.few_starts;
      cells = c.draft.invariant.cells;
      scripts = scripts_with c.draft.inside.space scripts.items (c.len-count.result - 1) c.index_mut.result.now c.push.new.self c.args.command
          c.draft.invariant.scripts within place c.index_mut.ensures.value room good c.in_ok-push.ensures.pushed;
      few_scripts = omega (arith, length-set scripts.items (c.len-count.result - 1) c.push.new.self, c.draft.invariant.few_scripts);
      asks = c.draft.invariant.asks;
      few_asks = c.draft.invariant.few_asks;
    }
