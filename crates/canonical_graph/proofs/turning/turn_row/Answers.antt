use Rattle.std.proofs.Common.{◌≡◌, refl, ◌+◌, ◌*◌, ◌<◌, inl, inr, get_or, arith}
use Rattle.canonical_graph.proofs.Turned.{turn_one, turn_none}
use Rattle.canonical_graph.proofs.turning.turn_row.Goals as goal
use Rattle.canonical_graph.proofs.turning.turn_row.Goals.{then-target, else-target}

pub indices-preserved : goal.indices-preserved
indices-preserved c =
    let r = c.args.indices in
    let k = c.args.rank in
    let j = c.indices.j in
    let next : k * r + (j + 1) ≡ (k * r + j) + 1 = omega arith in
    record {
      turned = elim c.if-target.branch [
        | then-target w ↦
            let there : get_or c.args.entries.now (k * r + j) 0 < c.args.vertices = elim (c.requires.arrows.below k j c.requires.rank c.indices-test.true) [
              | inl none ↦ absurd (w.if-target.true none)
              | inr below ↦ below
            ] in
            rw (next, w.back-is)
            (turn_one r c.args.vertices (k * r + j) k j _ c.args.entries.now c.indices.back.items refl c.requires.rank c.indices-test.true refl there c.requires.arrows c.indices.invariant.turned)
        | else-target w ↦
            rw (next, w.back-is)
            (turn_none r c.args.vertices (k * r + j) k j _ c.args.entries.now c.indices.back.items refl c.indices-test.true refl w.if-target.false c.requires.arrows c.indices.invariant.turned)
      ];
      first = c.indices.invariant.first;
    }
