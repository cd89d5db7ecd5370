-- The tensor product rule in its two orders, by one recursion, for a word x ⊗ y of a first factor x and the rest y.
-- The standard order is that of Bump and Schilling, Crystal Bases (2017), section 2.3.
-- It speaks of any list of actions, one for each factor. Subtraction of natural numbers stops at 0, so a - b is max(0, a - b).
use Rattle.std.specs.Prelude.{ℕ, ◌+◌, ◌-◌, nat_le, nat_lt, if◌then◌else◌, List, [], ◌∷◌, map, Option, None}
use Rattle.std.specs.Option.{option_map}
use Rattle.crystal_cartan.specs.Crystals.{Action}
use Rattle.tensor_words.specs.declared.spaces.Factor.{Factor}
use Rattle.tensor_words.specs.declared.spaces.Order.{Order}
use Rattle.tensor_words.specs.declared.spaces.Order.TheVariants.{Standard, Kashiwara}
use Rattle.tensor_words.specs.Spaces.{SpaceType, base_action}

-- phi(x ⊗ y) = phi(x) + max(0, phi(y) - eps(x))
abbrev pub word_phi : {E : Type 0} → List (Action E) → List E → ℕ
word_phi [] w = 0
word_phi (act ∷ acts) [] = 0
word_phi (act ∷ acts) (x ∷ y) = act.phi x + (word_phi acts y - act.eps x)

-- eps(x ⊗ y) = eps(y) + max(0, eps(x) - phi(y))
abbrev pub word_eps : {E : Type 0} → List (Action E) → List E → ℕ
word_eps [] w = 0
word_eps (act ∷ acts) [] = 0
word_eps (act ∷ acts) (x ∷ y) = word_eps acts y + (act.eps x - word_phi acts y)

-- f(x ⊗ y) = f(x) ⊗ y if phi(y) ≤ eps(x), else x ⊗ f(y)
abbrev pub word_lower : {E : Type 0} → List (Action E) → List E → Option (List E)
word_lower [] w = None
word_lower (act ∷ acts) [] = None
word_lower (act ∷ acts) (x ∷ y) =
    if nat_le (word_phi acts y) (act.eps x) then option_map (λ z. z ∷ y) (act.lower x)
    else option_map (λ z. x ∷ z) (word_lower acts y)

-- e(x ⊗ y) = e(x) ⊗ y if phi(y) < eps(x), else x ⊗ e(y)
abbrev pub word_raise : {E : Type 0} → List (Action E) → List E → Option (List E)
word_raise [] w = None
word_raise (act ∷ acts) [] = None
word_raise (act ∷ acts) (x ∷ y) =
    if nat_lt (word_phi acts y) (act.eps x) then option_map (λ z. z ∷ y) (act.raise x)
    else option_map (λ z. x ∷ z) (word_raise acts y)

-- how one index acts on words whose factors have these actions, in the standard order
abbrev pub word_action : {E : Type 0} → List (Action E) → Action (List E)
word_action acts = record { eps = word_eps acts; phi = word_phi acts; lower = word_lower acts; raise = word_raise acts }

-- an action with its two operators, and their two lengths, exchanged
abbrev pub turned : {E : Type 0} → Action E → Action E
turned act = record { eps = act.phi; phi = act.eps; lower = act.raise; raise = act.lower }

-- an action, and the actions of all factors, as the standard order sees them: in Kashiwara's order they are turned
abbrev pub as_standard : {E : Type 0} → Order → Action E → Action E
as_standard Standard act = act
as_standard Kashiwara act = turned act

abbrev pub all_as_standard : {E : Type 0} → Order → List (Action E) → List (Action E)
all_as_standard Standard acts = acts
all_as_standard Kashiwara acts = map turned acts

-- How one index acts on words whose factors have these actions, in each order. Kashiwara's (Hong and Kang, Introduction to Quantum
-- Groups and Crystal Bases, 2002, section 4.4) is the standard one with the two operators, and their two lengths, exchanged at each
-- factor and on the word: f(x ⊗ y) = f(x) ⊗ y if eps(y) < phi(x), else x ⊗ f(y).
abbrev pub action_in : {E : Type 0} → Order → List (Action E) → Action (List E)
action_in o acts = as_standard o (word_action (all_as_standard o acts))

-- how the index i acts on each factor of a space, and on its words
abbrev pub factor_actions : SpaceType → ℕ → List (Action ℕ)
factor_actions s i = map (base_action s.cartan i) s.factors

unfoldable pub action : SpaceType → ℕ → Action (List ℕ)
action s i = action_in s.order (factor_actions s i)

-- how the index i acts on a factor, and on each of the factors, as the standard order sees them
abbrev pub seen_action : SpaceType → ℕ → Factor → Action ℕ
seen_action s i f = as_standard s.order (base_action s.cartan i f)

abbrev pub seen_actions : SpaceType → ℕ → List (Action ℕ)
seen_actions s i = map (seen_action s i) s.factors
