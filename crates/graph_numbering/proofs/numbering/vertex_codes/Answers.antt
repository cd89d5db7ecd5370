use Rattle.std.proofs.Common.{◌≡◌, ◌∙◌, ℕ, refl, sym, subst, Option, Some, None, vec_capacity, arith}
use Rattle.graph_history.specs.History.{state_of, vertex_at}
use Rattle.graph_rule.specs.Values.{SeatValue}
use Rattle.graph_numbering.proofs.VertexCodes.{IsCollecting, collects_empty, collects_more, codes_listed}
use Rattle.graph_numbering.proofs.numbering.vertex_codes.Goals as goal
use Rattle.graph_numbering.proofs.numbering.vertex_codes.Goals.{in-Some, in_default}

not_some : (o : Option ℕ) → ((x : ℕ) → o ≡ Some x → ⊥) → o ≡ None
not_some None other = refl
not_some (Some x) other = absurd (other x refl)

pub cells-preserved : goal.cells-preserved
cells-preserved c =
    let kept = c.cells.invariant in
    let front = c.args.seat.now.view.front in
    let cells = c.cells-cells.result in
    let value : c.code_in.result ≡ vertex_at (state_of front).vertices c.cells.cell =
    subst (λ (s : SeatValue). c.code_in.result ≡ vertex_at (state_of s.view.front).vertices c.cells.cell) kept.same c.code_in.ensures.value in
    record {
      same = c.code_in.ensures.same ∙ kept.same;
      collecting = elim c.match-code_in.branch [
        | in-Some w ↦
            rw w.codes-is (collects_more (state_of front) c.cells.cell c.cells.codes.items (vec_capacity c.cells.codes) cells kept.collecting w.in-Some.code w.push_reserved.new.self.items (vec_capacity w.push_reserved.new.self)
            (sym value ∙ w.in-Some.is) w.push_reserved.ensures.items w.push_reserved.ensures.capacity)
        | in_default w ↦
            rw w.codes-is (collects_empty (state_of front) c.cells.cell c.cells.codes.items (vec_capacity c.cells.codes) cells kept.collecting (sym value ∙ not_some c.code_in.result w.in_default.not-Some))
      ];
      last = kept.last;
    }

pub returns-clause-codes : goal.returns-clause-codes
returns-clause-codes c =
    let kept = c.cells.invariant in
    let v = c.args.seat.now.view in
    let ended : c.cells.cell ≡ c.cells-cells.result = omega arith in
    let collecting : IsCollecting (state_of v.front) v.world.cells c.cells.codes.items (vec_capacity c.cells.codes) v.world.cells =
    subst (λ (n : ℕ). IsCollecting (state_of v.front) n c.cells.codes.items (vec_capacity c.cells.codes) n) kept.last
    (subst (λ (n : ℕ). IsCollecting (state_of v.front) n c.cells.codes.items (vec_capacity c.cells.codes) c.cells-cells.result) ended kept.collecting) in
    codes_listed v.world v.front c.cells.codes.items c.sort_unstable.new.self.items c.dedup.new.self.items (vec_capacity c.cells.codes) c.reveal.ensures.known.legal collecting
    c.sort_unstable.ensures.permutation c.sort_unstable.ensures.sorted c.dedup.ensures.filtered
