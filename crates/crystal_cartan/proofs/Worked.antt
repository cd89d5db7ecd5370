-- Worked values of the tables (Bump and Schilling, Crystal Bases, 2017, section 2.1 and its tables). Every coordinate is doubled.
use Rattle.std.proofs.Common.{ℕ, ◌≡◌, List, [], ◌∷◌, ℤ, pos, negsuc, refl, subst, sym}
use Rattle.crystal_cartan.specs.Types.{CartanType}
use Rattle.crystal_cartan.specs.Weights.{root, twice_pairing, reflection, IsPairing}
use Rattle.crystal_cartan.specs.declared.types.Kind.{Kind}
use Rattle.crystal_cartan.specs.declared.types.Kind.TheVariants.{A, B, C, D}

abbrev type_of : Kind → ℕ → CartanType
type_of k r = record { kind = k; rank = r }

-- e_2 - e_3
last_root_A_2 : root (type_of A 2) 2 ≡ pos 0 ∷ pos 2 ∷ negsuc 1 ∷ []
unfolding root
last_root_A_2 = refl

-- e_3
last_root_B_3 : root (type_of B 3) 3 ≡ pos 0 ∷ pos 0 ∷ pos 2 ∷ []
unfolding root
last_root_B_3 = refl

-- 2 e_3
last_root_C_3 : root (type_of C 3) 3 ≡ pos 0 ∷ pos 0 ∷ pos 4 ∷ []
unfolding root
last_root_C_3 = refl

-- e_3 + e_4
last_root_D_4 : root (type_of D 4) 4 ≡ pos 0 ∷ pos 0 ∷ pos 2 ∷ pos 2 ∷ []
unfolding root
last_root_D_4 = refl

-- e_1 - e_2
first_root_D_4 : root (type_of D 4) 1 ≡ pos 2 ∷ negsuc 1 ∷ pos 0 ∷ pos 0 ∷ []
unfolding root
first_root_D_4 = refl

-- s_2 takes (0, 1) to (0, -1)
reflection_C_2 : reflection (type_of C 2) (pos 0 ∷ pos 2 ∷ []) 2 ≡ pos 0 ∷ negsuc 1 ∷ []
unfolding reflection twice_pairing
reflection_C_2 = refl

-- s_2 keeps (1, 0)
kept_C_2 : reflection (type_of C 2) (pos 2 ∷ pos 0 ∷ []) 2 ≡ pos 2 ∷ pos 0 ∷ []
unfolding reflection twice_pairing
kept_C_2 = refl

-- the pairing of e_3 with the last coroot is 1
pairing_D_4 : IsPairing (type_of D 4) (pos 0 ∷ pos 0 ∷ pos 2 ∷ pos 0 ∷ []) 4 (pos 1)
unfolding twice_pairing
pairing_D_4 = refl

-- the pairing of the spin weight (1/2, 1/2) with the last coroot is 1
pairing_B_2 : IsPairing (type_of B 2) (pos 1 ∷ pos 1 ∷ []) 2 (pos 1)
unfolding twice_pairing
pairing_B_2 = refl

-- the pairing of the root of A_1 with its own coroot is 2
pub root_pairing_A_1 :
    (t : CartanType) (w : List ℤ) → t ≡ record { kind = A; rank = 1 } → w ≡ root t 1 → (p : ℤ) × IsPairing t w 1 p
unfolding root twice_pairing
root_pairing_A_1 t w is root_is =
    let P : CartanType → Type 0 = λ u. IsPairing u (root u 1) 1 (pos 2) in
    let Q : List ℤ → Type 0 = λ v. IsPairing t v 1 (pos 2) in
    (pos 2, subst Q (sym root_is) (subst P (sym is) refl))
