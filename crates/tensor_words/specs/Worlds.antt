-- Worlds: a space, a number of cells, and the words that a graph grows from.
use Rattle.std.specs.Prelude.{ℕ, ◌+◌, ◌<◌, ◌≤◌, ◌==◌, ◌||◌, nat_lt, if◌then◌else◌, List, [], ◌∷◌, length, Option, Some, None, Result, Ok, Err, All}
use Rattle.std.specs.List.Sorted.{IsStrictlyIncreasing}
use Rattle.tensor_words.specs.Spaces.{SpaceType, IsSpace, size}
use Rattle.tensor_words.specs.declared.worlds.WorldFault.{WorldFault}
use Rattle.tensor_words.specs.declared.worlds.WorldFault.TheVariants.{CellsRange, NoRoot, NotAWord, NotAscending}

pub record WorldType : Type 0 where
  pub space : SpaceType
  pub cells : ℕ
  pub roots : List ℕ

-- a world has from one to 2^20 cells
abbrev pub most_cells : ℕ
most_cells = 1048576

-- the world is one of those that are taken
pub record IsWorld (w : WorldType) : Type 0 where
  pub space : IsSpace w.space
  pub some : 1 ≤ w.cells
  pub few : w.cells ≤ most_cells
  pub rooted : 0 < length w.roots
  pub ascending : IsStrictlyIncreasing w.roots
  pub words : All (λ c. c < size w.space) w.roots

-- the first place, counted from n on, whose code is not below the size
abbrev pub place_of_no_word : ℕ → ℕ → List ℕ → Option ℕ
place_of_no_word size n [] = None
place_of_no_word size n (c ∷ cs) = if nat_lt c size then place_of_no_word size (n + 1) cs else Some n

-- the first place, c standing at place n, whose code is not above the one before
abbrev pub place_of_no_rise_after : ℕ → ℕ → List ℕ → Option ℕ
place_of_no_rise_after n c [] = None
place_of_no_rise_after n c (d ∷ ds) = if nat_lt c d then place_of_no_rise_after (n + 1) d ds else Some (n + 1)

abbrev pub place_of_no_rise : List ℕ → Option ℕ
place_of_no_rise [] = None
place_of_no_rise (c ∷ cs) = place_of_no_rise_after 1 c cs

abbrev pub fault_or : Option WorldFault → Result WorldType WorldFault → Result WorldType WorldFault
fault_or (Some e) r = Err e
fault_or None r = r

abbrev pub no_word : Option ℕ → Option WorldFault
no_word (Some p) = Some (NotAWord p)
no_word None = None

abbrev pub no_rise : Option ℕ → Option WorldFault
no_rise (Some p) = Some (NotAscending p)
no_rise None = None

-- the world, or the first fault that applies
unfoldable pub world_of : SpaceType → ℕ → List ℕ → Result WorldType WorldFault
world_of s cells roots =
    if (cells == 0) || nat_lt most_cells cells then Err CellsRange
    else if length roots == 0 then Err NoRoot
    else fault_or (no_word (place_of_no_word (size s) 1 roots))
    (fault_or (no_rise (place_of_no_rise roots)) (Ok (record { space = s; cells = cells; roots = roots })))
