-- The next cell is a vertex and unpaid; it is drawn and paid for.
use Rattle.std.proofs.Common.{ℕ, sym, ap, subst, ◌+◌, ◌≤◌, take, ◌++◌, ◌∷◌, [], List, Some, None, Result, length, Contains, get_or, arith}
use Rattle.std.proofs.lemmas.List.{take_more, length-take}
use Rattle.graph_history.specs.History.{state_of, HasSome}
use Rattle.graph_rule.proofs.Views.{some_prefix}
use Rattle.crystal_growers.specs.declared.expansion.Spent.{Spent}
use Rattle.shared_desk.specs.SharedDesks.{standing_of}
use Rattle.crystal_growers.specs.Expansion.{Expanded, Expansions}
use Rattle.crystal_growers.proofs.DrawnCells.{only, expansions_one, expansions_full, expansions_then, expansions_within, pay_there}
use Rattle.crystal_growers.proofs.expansion.cells.expand_all.Goals as goal

pub cells-init : goal.cells-init
cells-init c = c.read_ahead.ensures

pub expand_both-requires-clause-there : goal.expand_both-requires-clause-there
expand_both-requires-clause-there c =
    some_prefix (standing_of c.args.desk.now).front (standing_of c.cells.desk).front (get_or c.args.cells.now c.cells.cell-index 0) (c.cells.invariant.goes.grows.more, c.cells.invariant.goes.grows.is)
    (c.requires.there c.cells.cell-index 0 c.cells-test.true)

pub pay_debt-requires-clause-unpaid : goal.pay_debt-requires-clause-unpaid
pay_debt-requires-clause-unpaid c =
    pay_there (standing_of c.args.desk.now) (standing_of c.cells.desk) (standing_of c.expand_both.new.desk) c.args.cells.now c.cells.cell-index c.requires.once c.cells-test.true c.cells.invariant
    (subst (λ (r : Result (Unit {0}) Spent). Expanded (standing_of c.cells.desk) (standing_of c.expand_both.new.desk) (get_or c.args.cells.now c.cells.cell-index 0) r) c.in-Ok.is c.expand_both.ensures)
    c.requires.unpaid

pub returns-in-Err : goal.returns-in-Err
returns-in-Err c =
    let cell : ℕ = get_or c.args.cells.now c.cells.cell-index 0 in
    let there : (d : ℕ) → Contains (cell ∷ []) d → HasSome (state_of (standing_of c.args.desk.now).front) d =
    λ d h. subst (λ (k : ℕ). HasSome (state_of (standing_of c.args.desk.now).front) k) (only cell d h) (c.requires.there c.cells.cell-index 0 c.cells-test.true) in
    let drawn = subst (λ (r : Result (Unit {0}) Spent). Expanded (standing_of c.cells.desk) (standing_of c.expand_both.new.desk) cell r) c.in-Err.is c.expand_both.ensures in
    let within : length (take c.cells.cell-index c.args.cells.now ++ cell ∷ []) ≤ length c.args.cells.now =
    let e = ap length (take_more c.args.cells.now c.cells.cell-index 0 c.cells-test.true) in let l = length-take (c.cells.cell-index + 1) c.args.cells.now in let b = c.cells-test.true in omega arith in
    expansions_within (standing_of c.args.desk.now) (standing_of c.expand_both.new.desk) (take c.cells.cell-index c.args.cells.now ++ cell ∷ []) c.args.cells.now c.in-Err.field-0.code within
    (expansions_then (standing_of c.args.desk.now) (standing_of c.cells.desk) (standing_of c.expand_both.new.desk) (take c.cells.cell-index c.args.cells.now) (cell ∷ []) (Some c.in-Err.field-0.code)
    c.cells.invariant (expansions_full (standing_of c.cells.desk) (standing_of c.expand_both.new.desk) cell c.in-Err.field-0 drawn) there)

pub cells-preserved : goal.cells-preserved
cells-preserved c =
    let cell : ℕ = get_or c.args.cells.now c.cells.cell-index 0 in
    let there : (d : ℕ) → Contains (cell ∷ []) d → HasSome (state_of (standing_of c.args.desk.now).front) d =
    λ d h. subst (λ (k : ℕ). HasSome (state_of (standing_of c.args.desk.now).front) k) (only cell d h) (c.requires.there c.cells.cell-index 0 c.cells-test.true) in
    let drawn = subst (λ (r : Result (Unit {0}) Spent). Expanded (standing_of c.cells.desk) (standing_of c.expand_both.new.desk) cell r) c.in-Ok.is c.expand_both.ensures in
    subst (λ (l : List ℕ). Expansions (standing_of c.args.desk.now) (standing_of c.pay_debt.new.self) l None) (sym (take_more c.args.cells.now c.cells.cell-index 0 c.cells-test.true))
    (expansions_then (standing_of c.args.desk.now) (standing_of c.cells.desk) (standing_of c.pay_debt.new.self) (take c.cells.cell-index c.args.cells.now) (cell ∷ []) None
    c.cells.invariant (expansions_one (standing_of c.cells.desk) (standing_of c.expand_both.new.desk) (standing_of c.pay_debt.new.self) cell drawn c.pay_debt.ensures) there)
