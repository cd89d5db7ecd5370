use Rattle.tensor_words.proofs.Walks.{walks_agree}
use Rattle.tensor_words.proofs.laws.walks_agree.Goals as goal

pub returns : goal.returns
returns c = walks_agree
