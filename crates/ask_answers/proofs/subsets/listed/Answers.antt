use Rattle.std.proofs.Common.{rules, ◌≡◌, ◌∙◌, sym, ap, ◌++◌, ◌∷◌, [], take, arith}
use Rattle.std.proofs.lemmas.List.{take_more}
use Rattle.ask_answers.proofs.subsets.listed.Goals as goal

pub places-preserved : goal.places-preserved
places-preserved c =
    let pushed : c.push.new.self.items ≡ c.places.list.items ++ c.at.result.now ∷ [] = search rules in
    record {
      last = search rules;
      items =
          pushed ∙ ap (λ xs. xs ++ c.at.result.now ∷ []) c.places.invariant.items
          ∙ ap (λ x. take c.places.place c.args.indices.now ++ x ∷ []) (c.at.ensures.value 0)
          ∙ sym (take_more c.args.indices.now c.places.place 0 (omega arith));
    }
