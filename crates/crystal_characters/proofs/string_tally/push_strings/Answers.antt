use Rattle.std.proofs.Common.{◌∙◌, ap, ◌+◌, ◌-◌, ◌++◌, arith}
use Rattle.std.specs.List.{flat_map, range_with_len}
use Rattle.std.proofs.lemmas.Result.{err_from_is_err_and}
use Rattle.crystal_streams.specs.Lines.{ended}
use Rattle.crystal_characters.specs.Reports.{string_text, string_lines}
use Rattle.crystal_characters.proofs.Lines.{stopped, indices_split, indices_more}
use Rattle.crystal_characters.proofs.string_tally.push_strings.Goals as goal

pub returns-in_err-push_line : goal.returns-in_err-push_line
returns-in_err-push_line c =
    let p = err_from_is_err_and c.from_residual.result c.from_residual.ensures.1 in
    stopped (string_lines c.args.items.now c.args.indices) (string_lines c.args.items.now c.indices.place)
    (flat_map (λ i. ended (string_text c.args.items.now i)) (range_with_len (1 + c.indices.place) (c.args.indices - c.indices.place)))
    c.args.out.now.items c.push_line.new.text.items c.from_residual.result p.0 p.1
    (indices_split (λ i. ended (string_text c.args.items.now i)) 1 c.indices.place (c.args.indices - c.indices.place) c.args.indices (omega arith))
    (c.in_err-push_line.ensures ∙ c.indices.invariant)

pub indices-preserved : goal.indices-preserved
indices-preserved c =
    indices_more (λ i. ended (string_text c.args.items.now i)) 1 c.indices.place (c.indices.place + 1)
    c.args.out.now.items c.indices.out.items c.push_line.new.text.items (omega arith) c.indices.invariant
    (c.in_ok-push_line.ensures ∙ ap (λ t. c.indices.out.items ++ ended t) c.string_line.ensures.text)
