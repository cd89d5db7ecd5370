use Rattle.tensor_words.proofs.Walks.{component_list_is_unique}
use Rattle.tensor_words.proofs.laws.component_list_is_unique.Goals as goal

pub returns : goal.returns
returns c = component_list_is_unique
