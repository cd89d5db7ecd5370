use Rattle.std.proofs.Common.{◌≡◌, ◌≤◌, take, replicate, arith}
use Rattle.std.proofs.lemmas.List.{take-replicate}
use Rattle.tensor_words.specs.declared.spaces.Factor.TheVariants.{Vector}
use Rattle.tableau_reading.specs.Shapes.{box_count}
use Rattle.tableau_reading.proofs.VectorSpaces.{vector_space_of}
use Rattle.tableau_reading.proofs.shapes.Shape.vector_space.Goals as goal

pub unreachable-requires : goal.unreachable-requires
unreachable-requires c =
    let made = vector_space_of c.args.self.now c.boxes.ensures.shape in
    let few : box_count c.args.self.now ≤ 40 = omega (arith, c.boxes.ensures.few) in
    let vectors : take c.boxes.result c.vectors.result ≡ replicate (box_count c.args.self.now) Vector =
    rw (c.vectors.ensures, c.boxes.ensures.boxes) (take-replicate (box_count c.args.self.now) 40 Vector few) in
    let exact = rw (c.cartan.ensures.cartan, vectors, made) at c.new.ensures.exact in
    cc

pub returns-clause-space : goal.returns-clause-space
returns-clause-space c =
    let made = vector_space_of c.args.self.now c.boxes.ensures.shape in
    let few : box_count c.args.self.now ≤ 40 = omega (arith, c.boxes.ensures.few) in
    let vectors : take c.boxes.result c.vectors.result ≡ replicate (box_count c.args.self.now) Vector =
    rw (c.vectors.ensures, c.boxes.ensures.boxes) (take-replicate (box_count c.args.self.now) 40 Vector few) in
    let exact = rw (c.cartan.ensures.cartan, vectors, made) at c.new.ensures.exact in
    cc
