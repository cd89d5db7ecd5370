-- The slips of parcels, by their stakes and cells.
use Rattle.std.specs.Prelude.{ℕ, List, [], ◌∷◌, ◌++◌, Contains}
use Rattle.parcel_deques.specs.declared.parcel.Slip.{Slip}
use Rattle.parcel_deques.specs.Lists.{weigh}
use Rattle.parcel_deques.specs.Benches.{BenchValue}

-- the stakes of the slips together
abbrev pub slip_stakes : List Slip → ℕ
slip_stakes = weigh (λ (x : Slip). x.stake)

-- some slip has the cell
abbrev pub HasCell : List Slip → ℕ → Type 0
HasCell slips c = (x : Slip) × Contains slips x × Contains x.cells c

-- the slips that the benches pushed, bench by bench
abbrev pub all_pushed : List BenchValue → List Slip
all_pushed [] = []
all_pushed (b ∷ bs) = b.pushed ++ all_pushed bs
