-- Crystals as lists of arrows (Bump and Schilling, Crystal Bases, 2017, section 2.2).
use Rattle.std.specs.Prelude.{ℕ, ◌+◌, ◌==◌, ◌&&◌, zero, suc, Bool, if◌then◌else◌, List, [], ◌∷◌, length, Option, Some, None}
use Rattle.std.specs.Option.{option_map, option_map_or}

-- an arrow of a crystal graph: the lowering operator of this index takes `from` to `to`
pub record Edge (E : Type 0) : Type 0 where
  pub from : E
  pub index : ℕ
  pub to : E

abbrev pub edge : {E : Type 0} → E → ℕ → E → Edge E
edge x i y = record { from = x; index = i; to = y }

-- where the arrow of index i from x leads
abbrev pub target : {E : Type 0} → (E → E → Bool) → List (Edge E) → ℕ → E → Option E
target same [] i x = None
target same (e ∷ es) i x = if (e.index == i) && same e.from x then Some e.to else target same es i x

-- where the arrow of index i that leads to x comes from
abbrev pub origin : {E : Type 0} → (E → E → Bool) → List (Edge E) → ℕ → E → Option E
origin same [] i x = None
origin same (e ∷ es) i x = if (e.index == i) && same e.to x then Some e.from else origin same es i x

-- how many steps follow each other from x, n at the most
abbrev pub times_taken : {E : Type 0} → (E → Option E) → ℕ → E → ℕ
times_taken step zero x = 0
times_taken step (suc n) x = option_map_or (λ y. times_taken step n y + 1) (step x) 0

-- how one index acts on the elements of a crystal: the lengths of the strings, lowering and raising
pub record Action (E : Type 0) : Type 0 where
  pub eps : E → ℕ
  pub phi : E → ℕ
  pub lower : E → Option E
  pub raise : E → Option E

-- how the index i acts in the crystal with these arrows: phi counts the arrows that follow each other from x,
-- eps those that lead to x one after another; no string is longer than the list
abbrev pub edge_action : {E : Type 0} → (E → E → Bool) → List (Edge E) → ℕ → Action E
edge_action same edges i = record {
  eps = times_taken (origin same edges i) (length edges);
  phi = times_taken (target same edges i) (length edges);
  lower = target same edges i;
  raise = origin same edges i;
}

-- the action carried over to the digits of the elements
abbrev pub carried : {E : Type 0} → (ℕ → E) → (E → ℕ) → Action E → Action ℕ
carried at digit_of act = record {
  eps = λ d. act.eps (at d);
  phi = λ d. act.phi (at d);
  lower = λ d. option_map digit_of (act.lower (at d));
  raise = λ d. option_map digit_of (act.raise (at d));
}
