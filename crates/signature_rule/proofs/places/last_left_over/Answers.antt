use Rattle.std.proofs.Common.{ℕ, cond, ltb, replicate, get_or, refl, ap, ◌∙◌}
use Rattle.std.proofs.lemmas.List.{get_or-replicate}
use Rattle.signature_rule.proofs.Vectors.{length-chosen, entry-chosen}
use Rattle.signature_rule.proofs.places.last_left_over.Goals as goal

pub returns-clause-size : goal.returns-clause-size
returns-clause-size c =
    length-chosen ltb c.args.unclosed c.args.closing (replicate 8 c.args.place) c.args.before c.fits-unclosed.0 c.fits-closing.0 refl c.fits-before.0

pub returns-clause-entries : goal.returns-clause-entries
returns-clause-entries c j lt =
    entry-chosen ltb c.args.unclosed c.args.closing (replicate 8 c.args.place) c.args.before c.fits-unclosed.0 c.fits-closing.0 refl c.fits-before.0 j lt
    ∙ ap (λ k. cond (ltb (get_or c.args.unclosed j 0) (get_or c.args.closing j 0)) k (get_or c.args.before j 0)) (get_or-replicate {A = ℕ} 8 j c.args.place 0 lt)
