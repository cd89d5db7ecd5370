use Rattle.std.proofs.Common.{◌≡◌, ℕ, List, length, cond, ltb, leb, replicate, get_or, refl, ap, ◌∙◌}
use Rattle.std.proofs.lemmas.List.{get_or-replicate}
use Rattle.signature_rule.proofs.Vectors.{chosen, length-chosen, entry-chosen}
use Rattle.signature_rule.proofs.places.first_open.Goals as goal

-- the factor's own first sign, at each entry
own : List ℕ → ℕ → List ℕ
own opening place = chosen ltb (replicate 8 0) opening (replicate 8 place) (replicate 8 255)

own_size : (opening : List ℕ) (place : ℕ) → length opening ≡ 8 → length (own opening place) ≡ 8
unfolding own
own_size opening place p = length-chosen ltb (replicate 8 0) opening (replicate 8 place) (replicate 8 255) refl p refl refl

pub returns-clause-size : goal.returns-clause-size
unfolding own
returns-clause-size c =
    length-chosen leb c.args.unclosed c.args.closing (own c.args.opening c.args.place) c.args.before c.fits-unclosed.0 c.fits-closing.0
    (own_size c.args.opening c.args.place c.fits-opening.0) c.fits-before.0

pub returns-clause-entries : goal.returns-clause-entries
unfolding own
returns-clause-entries c j lt =
    entry-chosen leb c.args.unclosed c.args.closing (own c.args.opening c.args.place) c.args.before c.fits-unclosed.0 c.fits-closing.0
    (own_size c.args.opening c.args.place c.fits-opening.0) c.fits-before.0 j lt
    ∙ ap (λ k. cond (leb (get_or c.args.unclosed j 0) (get_or c.args.closing j 0)) k (get_or c.args.before j 0))
    (entry-chosen ltb (replicate 8 0) c.args.opening (replicate 8 c.args.place) (replicate 8 255) refl c.fits-opening.0 refl refl j lt
    ∙ (λ i. cond (ltb (get_or-replicate {A = ℕ} 8 j 0 0 lt i) (get_or c.args.opening j 0)) (get_or-replicate {A = ℕ} 8 j c.args.place 0 lt i) (get_or-replicate {A = ℕ} 8 j 255 0 lt i)))
