-- Crystal reflections: how a simple reflection of the Weyl group acts on a seminormal crystal (Bump and Schilling,
-- Crystal Bases, 2017, chapter 2).
use Rattle.std.specs.Prelude.{ℕ, ◌/◌, zero, suc, ◌≡◌, true, false, List, Option, Some, option_and_then, ℤ, pos, negsuc}
use Rattle.crystal_cartan.specs.Types.{HasIndex}
use Rattle.crystal_cartan.specs.Weights.{twice_pairing, reflection, IsWeight}
use Rattle.crystal_cartan.specs.declared.types.Arrow.{Arrow}
use Rattle.tensor_words.specs.Spaces.{SpaceType}
use Rattle.tensor_words.specs.Operators.{op}
use Rattle.canonical_graph.specs.Graphs.{FinishedType, IsFinished, code_at, rank_in}
use Rattle.crystal_characters.specs.Characters.{code_weight, multiplicity}

-- an operator applied n times to a code; none where some step gives zero
unfoldable pub repeated : SpaceType → Arrow → ℕ → ℕ → Option ℕ
repeated s a zero c = Some c
repeated s a (suc n) c = option_and_then (repeated s a n) (op s a c)

-- the same on the ranks of vertices
unfoldable pub repeated_rank : FinishedType → Arrow → ℕ → ℕ → Option ℕ
repeated_rank f a n rank = option_and_then (rank_in f.codes) (repeated f.space a n (code_at f rank))

-- the reflection of an element by twice the pairing of its weight with the simple coroot of index i:
-- f_i^k where the pairing k is not negative, else e_i^(-k)
abbrev pub reflected_by : SpaceType → ℕ → ℤ → ℕ → Option ℕ
reflected_by s i (pos n) c = repeated s (record { down = true; index = i }) (n / 2) c
reflected_by s i (negsuc n) c = repeated s (record { down = false; index = i }) (suc n / 2) c

-- the crystal reflection at i of the element with this code
unfoldable pub crystal_reflection : SpaceType → ℕ → ℕ → Option ℕ
crystal_reflection s i c = reflected_by s i (twice_pairing s.cartan (code_weight s c) i) c

-- the rank of the crystal reflection at i of a vertex
unfoldable pub reflection_rank : FinishedType → ℕ → ℕ → Option ℕ
reflection_rank f i rank = option_and_then (rank_in f.codes) (crystal_reflection f.space i (code_at f rank))

-- laws

-- a weight and its reflection have the same multiplicity
abbrev pub ReflectionsKeepMultiplicities : Type 0
ReflectionsKeepMultiplicities =
    (f : FinishedType) (i : ℕ) (w : List ℤ) → IsFinished f → HasIndex f.space.cartan i → IsWeight f.space.cartan w →
    multiplicity f (reflection f.space.cartan w i) ≡ multiplicity f w
