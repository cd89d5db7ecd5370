use Rattle.std.proofs.Common.{◌∙◌, sym, ap, subst, [], ◌++◌, take, drop, rules}
use Rattle.std.proofs.lemmas.Result.{err_from_is_err_and}
use Rattle.crystal_cartan.specs.Weights.{IsSmall}
use Rattle.crystal_characters.specs.declared.tallies.Multiplicity.{Multiplicity}
use Rattle.crystal_streams.specs.Lines.{ended}
use Rattle.crystal_characters.specs.Reports.{multiplicity_text, multiplicity_lines}
use Rattle.crystal_characters.proofs.Lines.{stopped, lines_split, lines_more}
use Rattle.crystal_characters.proofs.character_tally.push_multiplicities.Goals as goal

any_multiplicity : Multiplicity
any_multiplicity = record { weight = []; times = 0 }

pub multiplicity_line-line-requires : goal.multiplicity_line-line-requires
multiplicity_line-line-requires c =
    subst IsSmall (sym (c.weight_at.ensures any_multiplicity)) (c.requires c.weights.k any_multiplicity (search rules))

pub returns-in_err-push_line : goal.returns-in_err-push_line
returns-in_err-push_line c =
    let p = err_from_is_err_and c.from_residual.result c.from_residual.ensures.1 in
    stopped (multiplicity_lines c.args.character.now) (multiplicity_lines (take c.weights.k c.args.character.now)) (multiplicity_lines (drop c.weights.k c.args.character.now))
    c.args.out.now.items c.push_line.new.text.items c.from_residual.result p.0 p.1
    (lines_split (λ m. ended (multiplicity_text m)) c.args.character.now c.weights.k) (c.in_err-push_line.ensures ∙ c.weights.invariant)

pub weights-preserved : goal.weights-preserved
weights-preserved c =
    lines_more (λ m. ended (multiplicity_text m)) c.args.character.now c.weights.k (record { weight = c.weight_at.result; times = c.times_at.result })
    c.args.out.now.items c.weights.out.items c.push_line.new.text.items (search rules) (search rules) c.weights.invariant
    (c.in_ok-push_line.ensures ∙ ap (λ t. c.weights.out.items ++ ended t) c.multiplicity_line-line.ensures.text)
