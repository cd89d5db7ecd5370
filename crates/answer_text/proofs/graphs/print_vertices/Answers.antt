use Rattle.std.proofs.Common.{◌≡◌, ◌<◌, ◌∙◌, ap, ℕ, length, arith, get_or}
use Rattle.std.specs.List.{range_with_len}
use Rattle.std.proofs.lemmas.List.FromFn.{get_or-range_with_len, length-range_with_len}
use Rattle.answer_text.specs.Vertices.{vertex_text}
use Rattle.crystal_streams.specs.Lines.{ended}
use Rattle.answer_text.proofs.Loops.{each_more, each_stopped, each_all}
use Rattle.answer_text.proofs.Printed.{prints_nothing}
use Rattle.answer_text.proofs.graphs.print_vertices.Goals as goal

pub ranks-init : goal.ranks-init
ranks-init g c = prints_nothing tt _ _ _

pub ranks-preserved : goal.ranks-preserved
ranks-preserved g c =
    let text = λ (rank : ℕ). ended (vertex_text c.args.finished.now rank) in
    let below : c.ranks.rank < length (range_with_len 0 (length c.args.finished.now.codes)) = omega (arith, c.len-rank-end.ensures.len, length-range_with_len 0 (length c.args.finished.now.codes)) in
    let is = (let place : c.ranks.rank ≡ get_or (range_with_len 0 (length c.args.finished.now.codes)) c.ranks.rank 0 = omega (arith, get_or-range_with_len 0 (length c.args.finished.now.codes) c.ranks.rank 0 (omega (arith, c.len-rank-end.ensures.len))) in
    ap ended (c.vertex_line.ensures ∙ ap (vertex_text c.args.finished.now) place)) in
    each_more text (range_with_len 0 (length c.args.finished.now.codes)) c.ranks.rank 0 below is c.ranks.invariant c.in_ok-print_line.ensures

pub returns-in_err-print_line : goal.returns-in_err-print_line
returns-in_err-print_line g c =
    let text = λ (rank : ℕ). ended (vertex_text c.args.finished.now rank) in
    let below : c.ranks.rank < length (range_with_len 0 (length c.args.finished.now.codes)) = omega (arith, c.len-rank-end.ensures.len, length-range_with_len 0 (length c.args.finished.now.codes)) in
    let is = (let place : c.ranks.rank ≡ get_or (range_with_len 0 (length c.args.finished.now.codes)) c.ranks.rank 0 = omega (arith, get_or-range_with_len 0 (length c.args.finished.now.codes) c.ranks.rank 0 (omega (arith, c.len-rank-end.ensures.len))) in
    ap ended (c.vertex_line.ensures ∙ ap (vertex_text c.args.finished.now) place)) in
    each_stopped text (range_with_len 0 (length c.args.finished.now.codes)) c.ranks.rank 0 below is _ c.from_residual.ensures.1 c.ranks.invariant c.in_err-print_line.ensures

pub returns : goal.returns
returns g c = each_all (λ (rank : ℕ). ended (vertex_text c.args.finished.now rank)) (range_with_len 0 (length c.args.finished.now.codes)) c.ranks.rank (omega (arith, c.len-rank-end.ensures.len, length-range_with_len 0 (length c.args.finished.now.codes))) c.ranks.invariant
