use Rattle.std.proofs.Common.{sym, ◌∙◌}
use Rattle.spin_crystals.proofs.Lowering.{raise_made, raise_none, turn-whole, turned_element, size_of}
use Rattle.spin_crystals.proofs.Halves.{raise_keeps}
use Rattle.spin_crystals.specs.Signs.{vector_of}
use Rattle.spin_crystals.proofs.operators.raise.Goals as goal

pub returns-then-signs_of-turn-clause-value : goal.returns-then-signs_of-turn-clause-value
returns-then-signs_of-turn-clause-value c =
    sym (raise_none c.args.cartan c.args.i c.args.x c.new-turn.result c.new-turn.ensures.value c.new-turn.ensures.classical c.requires.kind c.requires.index c.requires.element (rw (← c.signs_of.ensures) c.if-signs_of-turn.true))

pub applied_to-requires-clause-whole : goal.applied_to-requires-clause-whole
applied_to-requires-clause-whole c =
    turn-whole c.args.cartan c.args.i c.new-turn.result c.new-turn.ensures.value c.new-turn.ensures.classical c.requires.kind c.requires.index

pub returns-clause-value : goal.returns-clause-value
returns-clause-value c =
    sym (raise_made c.args.cartan c.args.i c.args.x c.applied_to.result c.new-turn.result c.new-turn.ensures.value c.new-turn.ensures.classical c.requires.kind c.requires.index c.requires.element (sym c.signs_of.ensures ∙ c.if-signs_of-turn.false) c.applied_to.ensures.bits c.applied_to.ensures.size)

pub returns-clause-element : goal.returns-clause-element
returns-clause-element c =
    turned_element c.args.cartan c.args.i c.args.x c.applied_to.result c.new-turn.result c.new-turn.ensures.value c.new-turn.ensures.classical c.requires.kind c.requires.index c.requires.element c.applied_to.ensures.bits c.applied_to.ensures.size

pub returns-clause-half : goal.returns-clause-half
returns-clause-half c =
    raise_keeps c.args.cartan c.args.i (vector_of c.args.x) (vector_of c.applied_to.result) c.new-turn.ensures.classical c.requires.kind c.requires.index (size_of c.args.cartan c.args.x c.requires.element) (sym (returns-clause-value c))
