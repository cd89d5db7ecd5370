-- Worked values of the definitions.
use Rattle.std.proofs.Common.{◌≡◌, refl, true, false, [], ◌∷◌}
use Rattle.crystal_cartan.specs.declared.types.Kind.TheVariants.{A, C, D}
use Rattle.crystal_match.specs.Relabelling.{starred, star_index, relabelled}
use Rattle.signature_rule.specs.ArrowOrder.{arrow_place}
use Rattle.crystal_match.specs.Search.{number_from}

star_of_a3 : star_index (record { kind = A; rank = 3 }) 1 ≡ 3
star_of_a3 = refl

star_of_c3 : star_index (record { kind = C; rank = 3 }) 1 ≡ 1
star_of_c3 = refl

star_of_d4 : star_index (record { kind = D; rank = 4 }) 3 ≡ 3
star_of_d4 = refl

first_star_of_d5 : star_index (record { kind = D; rank = 5 }) 4 ≡ 5
first_star_of_d5 = refl

second_star_of_d5 : star_index (record { kind = D; rank = 5 }) 5 ≡ 4
second_star_of_d5 = refl

third_star_of_d5 : star_index (record { kind = D; rank = 5 }) 3 ≡ 3
third_star_of_d5 = refl

-- f_1 of A_3 under the star is e_3
star_lowers : relabelled (starred (record { kind = A; rank = 3 })) (record { down = true; index = 1 }) ≡ record { down = false; index = 3 }
star_lowers = refl

-- e_1 stands behind f_1 and f_2
place_of_e1 : arrow_place 2 (record { down = false; index = 1 }) ≡ 2
place_of_e1 = refl

-- f_1 and then f_2, to the base 4 behind a 1
number_of_f1_f2 : number_from 2 1 (record { down = true; index = 1 } ∷ record { down = true; index = 2 } ∷ []) ≡ 17
number_of_f1_f2 = refl
