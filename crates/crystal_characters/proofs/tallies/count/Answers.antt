use Rattle.std.proofs.Common.{◌∙◌, refl, rules}
use Rattle.crystal_characters.proofs.Counted.{count_at_last, count_behind, count_first}
use Rattle.crystal_characters.proofs.tallies.count.Goals as goal
use Rattle.crystal_characters.proofs.tallies.count.Goals.{else-len-gt0-via-then-len-gt0+else-is_eq, else-len-gt0-via-else-len-gt0}

pub returns-then-is_eq : goal.returns-then-is_eq
returns-then-is_eq c =
    count_at_last c.args.list.now.items c.args.weight.now _ c.len-len.result c.index.result.now c.index_mut.result.now c.compare.result c.is_eq.result
    c.requires.falling c.if-len-gt0.true (search rules) refl c.index.ensures c.index_mut.ensures.value c.compare.ensures c.is_eq.ensures c.if-is_eq.true

pub returns-in_ok-push : goal.returns-in_ok-push
returns-in_ok-push c = elim c.else-len-gt0.branch [
  | else-len-gt0-via-then-len-gt0+else-is_eq w ↦
      c.in_ok-push.ensures.items
      ∙ count_behind c.args.list.now.items c.args.weight.now _ c.len-len.result w.index.result.now w.compare.result w.is_eq.result
      c.requires.falling c.requires.least w.if-len-gt0.true (search rules) refl w.index.ensures w.compare.ensures w.is_eq.ensures w.if-is_eq.false
  | else-len-gt0-via-else-len-gt0 w ↦
      c.in_ok-push.ensures.items ∙ count_first c.args.list.now.items c.args.weight.now c.len-len.result (search rules) w.if-len-gt0.false
]
