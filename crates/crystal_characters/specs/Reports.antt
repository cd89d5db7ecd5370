-- What statistics report of the items that they were fed. The items may be of several types.
use Rattle.std.specs.Prelude.{ℕ, ◌-◌, ◌==◌, ◌||◌, ◌≡◌, max, Bool, List, [], ◌∷◌, ◌++◌, map, filter, fold, length, take, slice_index, count_by, decimal, Result, OnOk}
use Rattle.std.specs.List.{range_with_len, flat_map, list_all}
use Rattle.crystal_streams.specs.Lines.{ended}
use Rattle.tableau_reading.specs.Texts.{weight_text}
use Rattle.text_pieces.specs.Pieces.{bar}
use Rattle.crystal_characters.specs.declared.items.Item.{Item}
use Rattle.crystal_characters.specs.declared.tallies.Multiplicity.{Multiplicity}
use Rattle.crystal_characters.specs.Characters.{tally}

-- the report `character`: a line `WEIGHT | TIMES` for each weight that occurs, falling
unfoldable pub multiplicity_text : Multiplicity → List ℕ
multiplicity_text m = weight_text m.weight ++ bar ++ decimal m.times

abbrev pub multiplicity_lines : List Multiplicity → List ℕ
multiplicity_lines ms = flat_map (λ m. ended (multiplicity_text m)) ms

unfoldable pub character_report : List Item → List ℕ
character_report items = multiplicity_lines (tally (map (λ x. x.weight) items))

-- eps_i and phi_i of an item
abbrev pub item_eps : ℕ → Item → ℕ
item_eps i x = slice_index x.eps (i - 1)

abbrev pub item_phi : ℕ → Item → ℕ
item_phi i x = slice_index x.phi (i - 1)

-- whether e_i gives zero on the item, and those of a list for which it does
abbrev pub is_head : ℕ → Item → Bool
is_head i x = item_eps i x == 0

abbrev pub heads : ℕ → List Item → List Item
heads i items = filter (is_head i) items

-- the greatest of some numbers, 0 where there is none
abbrev pub greatest : List ℕ → ℕ
greatest ns = fold max 0 ns

-- the report `strings`: for each index i of the first item's type a line `i | N | M`, where N items have eps_i = 0,
-- and M is the greatest phi_i of these
unfoldable pub string_text : List Item → ℕ → List ℕ
string_text items i = decimal i ++ bar ++ decimal (length (heads i items)) ++ bar ++ decimal (greatest (map (item_phi i) (heads i items)))

abbrev pub string_lines : List Item → ℕ → List ℕ
string_lines items n = flat_map (λ i. ended (string_text items i)) (range_with_len 1 n)

unfoldable pub string_report : List Item → List ℕ
string_report [] = []
string_report (x ∷ items) = string_lines (x ∷ items) x.cartan.rank

-- whether the item is at an end of its string of index i, and at every index of its type
abbrev pub is_end_at : Item → ℕ → Bool
is_end_at x i = (item_eps i x == 0) || (item_phi i x == 0)

abbrev pub is_end : Item → Bool
is_end x = list_all (is_end_at x) (range_with_len 1 x.cartan.rank)

-- the report `ends`: one line, the number of such items
unfoldable pub end_report : List Item → List ℕ
end_report items = ended (decimal (count_by is_end items))

-- a text is written behind what was there: all of it on Ok, else a part of it from its front
pub record Appends {T E : Type 0} (text old new : List ℕ) (r : Result T E) : Type 0 where
  pub whole : OnOk r (new ≡ old ++ text)
  pub part : ℕ
  pub front : new ≡ old ++ take part text
