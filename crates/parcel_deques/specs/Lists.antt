-- The same items in some order.
use Rattle.std.specs.Prelude.{ℕ, ◌+◌, ◌≡◌, List, [], ◌∷◌}

module _ {T : Type 0} where
  -- what the items of a list weigh together
  abbrev pub weigh : (T → ℕ) → List T → ℕ
  weigh h [] = 0
  weigh h (x ∷ xs) = h x + weigh h xs

  -- the same items, each as often: however the items are weighed, the lists weigh the same
  abbrev pub SameItems : List T → List T → Type 0
  SameItems xs ys = (h : T → ℕ) → weigh h xs ≡ weigh h ys
