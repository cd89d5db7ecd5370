use Rattle.std.proofs.Common.{sym, ◌∙◌}
use Rattle.std.proofs.lemmas.Iterator.Adapters.{option_map_id}
use Rattle.tensor_words.specs.declared.spaces.Order.TheVariants.{Kashiwara}
use Rattle.tensor_words.proofs.Turned.{rule_in}
use Rattle.tensor_words.proofs.spaces.Space.by_rule_lower.Goals as goal

pub returns-in-Kashiwara-clause-value : goal.returns-in-Kashiwara-clause-value
returns-in-Kashiwara-clause-value c =
    c.raise_from.ensures.value ∙ option_map_id _
    ∙ sym (rule_in c.args.self.now c.args.i c.args.word.now Kashiwara (sym c.in-Kashiwara.is ∙ c.order.ensures)).raise
