use Rattle.std.proofs.Common.{◌≡◌, ℕ, [], ◌∷◌, sym, subst, List, Contains, rules}
use Rattle.graph_history.specs.declared.event.Act.{Act}
use Rattle.graph_history.specs.declared.event.Act.TheVariants.{Owed}
use Rattle.graph_history.specs.declared.event.Origin.TheVariants.{Root}
use Rattle.graph_history.specs.declared.answer.Added.{Added}
use Rattle.graph_history.specs.declared.answer.Added.TheVariants.{New}
use Rattle.graph_history.specs.History.{state_of, HasVertex}
use Rattle.graph_history.specs.Desks.{IsEntry, Goes, met, spent, added, owed_met, owed_spent}
use Rattle.graph_history.specs.Plain.{PlainValue, standing_of}
use Rattle.graph_history.proofs.OwnActs.{added_there}
use Rattle.growth_tests.proofs.tests.growers.expand_plain.Goals as goal

-- the word has the cell of the answer
entered : (old new : PlainValue) (x t : ℕ) (r : Added) (acts : List Act) → r ≡ New t → IsEntry x Root r acts → Goes (standing_of old) (standing_of new) 1 acts → HasVertex (state_of new.front) t x
entered old new x t r acts is (met c) g = cc
entered old new x t r acts is spent g = cc
entered old new x t r acts is (added c) g =
    let same : c ≡ t = cc in subst (λ (d : ℕ). HasVertex (state_of new.front) d x) same (added_there old.world old.caller old.front new.front (Owed ∷ []) c x Root [] g.grows)
entered old new x t r acts is (owed_met c) g = cc
entered old new x t r acts is owed_spent g = cc

pub add-requires-clause-root : goal.add-requires-clause-root
add-requires-clause-root c =
    let has : Contains c.args.world.roots c.args.code = search rules in subst (λ (d : PlainValue). Contains d.world.roots c.args.code) (sym c.in_ok-desk.ensures) has

pub expand-requires-clause-there : goal.expand-requires-clause-there
expand-requires-clause-there c = (c.args.code, entered c.in_ok-desk.desk c.add.new.self c.args.code c.in-New.cell c.add.result c.add.ensures.acts c.in-New.is c.add.ensures.entry c.add.ensures.does.goes)
