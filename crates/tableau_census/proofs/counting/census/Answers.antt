use Rattle.std.proofs.Common.{◌≡◌, ◌∙◌, ap₂, sym, subst, ℕ, ◌-◌, ◌≤◌, length, List, ◌++◌, [], Err, rules, arith}
use Rattle.crystal_cartan.specs.declared.types.Kind.TheVariants.{A}
use Rattle.tableau_reading.specs.Shapes.{box_count}
use Rattle.tableau_census.specs.Listing.{completion_codes}
use Rattle.tableau_census.specs.Outcomes.{IsCompleted}
use Rattle.tableau_census.proofs.Theorem.{counted, not_counted}
use Rattle.tableau_census.proofs.counting.census.Goals as goal

pub returns-in-Ok : goal.returns-in-Ok
returns-in-Ok c =
    let kind : c.args.shape.now.cartan.kind ≡ A = search rules in
    let done : (c.complete.new.list.items ≡ c.new-list.result.items ++ completion_codes c.args.shape.now (box_count c.args.shape.now - 0) 0 c.top.result)
    × (length c.complete.new.list.items ≤ c.args.limit) = c.in-Ok.ensures in
    let all : box_count c.args.shape.now - 0 ≡ box_count c.args.shape.now = omega arith in
    let codes = ap₂ (λ n w. completion_codes c.args.shape.now n 0 w) all c.top.ensures.top in
    let is = c.of.ensures ∙ (done.0 ∙ ap₂ (λ xs ys. xs ++ ys) c.new-list.ensures.items codes) in
    counted c.args.shape.now c.args.limit c.of.result c.top.ensures.shape kind c.requires is
    (subst (λ (xs : List ℕ). length xs ≤ c.args.limit) (sym c.of.ensures) done.1)

pub returns-in-Err : goal.returns-in-Err
returns-in-Err c =
    let kind : c.args.shape.now.cartan.kind ≡ A = search rules in
    let fault : IsCompleted c.new-list.result.items (completion_codes c.args.shape.now (box_count c.args.shape.now - 0) 0 c.top.result) c.args.limit
    c.complete.new.list.items (Err c.in-Err.fault) = c.in-Err.ensures in
    let all : box_count c.args.shape.now - 0 ≡ box_count c.args.shape.now = omega arith in
    let codes = ap₂ (λ n w. completion_codes c.args.shape.now n 0 w) all c.top.ensures.top in
    let both = subst (λ (xs : List ℕ). IsCompleted xs (completion_codes c.args.shape.now (box_count c.args.shape.now - 0) 0 c.top.result) c.args.limit c.complete.new.list.items (Err c.in-Err.fault))
    c.new-list.ensures.items fault in
    not_counted c.args.shape.now c.args.limit c.in-Err.fault c.complete.new.list.items c.top.ensures.shape kind c.requires
    (subst (λ (ys : List ℕ). IsCompleted [] ys c.args.limit c.complete.new.list.items (Err c.in-Err.fault)) codes both)
