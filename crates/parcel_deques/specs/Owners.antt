-- The owner's end of a deque, as the other modules see it.
use Rattle.std.specs.Prelude.{ℕ, ◌<◌, ◌≡◌, true, length}
use Rattle.parcel_deques.specs.declared.rule.Hand.{Hand}
use Rattle.parcel_deques.specs.Ends.{DequeId}

pub record OwnValue : Type 0 where
  pub deque : DequeId
  pub capacity : ℕ
  pub hand : Hand

-- it alone pushes, and has a share; its number is the deque's, and its count is how many slips were pushed
pub record IsOwner (number count : ℕ) (v : Hand) : Type 0 where
  pub pushes : v.pushes ≡ true
  pub live : 0 < v.share
  pub number_is : v.deque ≡ number
  pub count_is : length v.pushed ≡ count
