use Rattle.answer_text.specs.Texts.{graph_part}
use Rattle.answer_text.proofs.Printed.{prints_then, prints_short, prints_failed}
use Rattle.answer_text.proofs.graphs.print_graph.Goals as goal

pub returns-in_err-print_sizes : goal.returns-in_err-print_sizes
unfolding graph_part
returns-in_err-print_sizes g c = prints_failed _ c.from_residual.ensures.1 (prints_short _ c.in_err-print_sizes.ensures)

pub returns : goal.returns
unfolding graph_part
returns g c = prints_then c.in_ok-print_sizes.ensures c.print_vertices.ensures
