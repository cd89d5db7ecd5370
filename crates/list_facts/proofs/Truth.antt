-- What a conjunction of two tests says of each. The rest is in std: and_from and and_parts, or_from and or_parts.
use Rattle.std.proofs.Common.{◌≡◌, refl, ◌&&◌, Bool, true, false}

pub first_true : (a b : Bool) → (a && b) ≡ true → a ≡ true
first_true true b h = refl
first_true false b h = cc

pub second_true : (a b : Bool) → (a && b) ≡ true → b ≡ true
second_true true b h = h
second_true false b h = cc
