use Rattle.std.proofs.Common.{sym, ◌∙◌}
use Rattle.tensor_words.specs.declared.spaces.Order.TheVariants.{Kashiwara}
use Rattle.tensor_words.proofs.Turned.{rule_in}
use Rattle.tensor_words.proofs.spaces.Space.by_rule_eps.Goals as goal

pub returns-in-Kashiwara-clause-value : goal.returns-in-Kashiwara-clause-value
returns-in-Kashiwara-clause-value c =
    c.phi_from.ensures.value ∙ sym (rule_in c.args.self.now c.args.i c.args.word.now Kashiwara (sym c.in-Kashiwara.is ∙ c.order.ensures)).phi
