use Rattle.std.proofs.Common.{◌≡◌, ◌-◌, ℕ, List, length, take, drop, min, arith, ap, sym, ◌∙◌}
use Rattle.std.proofs.lemmas.List.{take_rest, length-drop}
use Rattle.crystal_streams.proofs.Steps.{read_front, read_end}
use Rattle.crystal_streams.proofs.memory.MemorySourceSource.read.Goals as goal

pub returns-clause-bytes : goal.returns-clause-bytes
returns-clause-bytes c =
    let bytes : List ℕ = c.self.inside.bytes.items in
    let at : ℕ = c.self.inside.at in
    let rest : take (length c.deref-2.result.now - at) (drop at c.deref-2.result.now) ≡ drop at bytes
    = take_rest c.deref-2.result.now at ∙ ap (drop at) c.deref-2.ensures.value in
    let piece : c.copy_from_slice.new.self ≡ take c.min-count.result (drop at bytes)
    = c.copy_from_slice.ensures.after ∙ ap (take c.min-count.result) rest in
    let count : c.min-count.result ≡ min (min (length c.args.into.now) c.self.inside.most) (length bytes - at)
    = omega (arith, c.min-count.ensures, c.min.ensures, ap length rest, length-drop at bytes) in (
      sym (ap (λ s. s.left) c.self.view_is) ∙ read_front bytes _ _ at _ piece (omega (arith, count)),
      λ none some. read_end bytes at c.min-count.result (length c.args.into.now) c.self.inside.most count c.requires c.self.invariant.1 none,
    )
