-- The items of the vertices of a finished graph, as statistics are fed with them.
use Rattle.std.specs.Prelude.{ℕ, nat_le, nat_eq, if◌then◌else◌, List, [], map, length}
use Rattle.std.specs.List.{range_with_len, list_any}
use Rattle.crystal_cartan.specs.Weights.{IsWeight, IsSmall}
use Rattle.tensor_words.specs.TensorRule.{action}
use Rattle.canonical_graph.specs.Graphs.{FinishedType, code_at, vertex_word}
use Rattle.crystal_characters.specs.declared.items.Item.{Item}
use Rattle.crystal_characters.specs.Characters.{vertex_weight}

-- eps_i and phi_i of a vertex, and 0 past the rank of the type
abbrev pub vertex_eps : FinishedType → ℕ → ℕ → ℕ
vertex_eps f rank i = if nat_le i f.space.cartan.rank then (action f.space i).eps (vertex_word f rank) else 0

abbrev pub vertex_phi : FinishedType → ℕ → ℕ → ℕ
vertex_phi f rank i = if nat_le i f.space.cartan.rank then (action f.space i).phi (vertex_word f rank) else 0

-- the item of a vertex: eps and phi have the index i at place i - 1, for the indices 1 to 8
unfoldable pub item_at : FinishedType → ℕ → Item
item_at f rank = record {
  cartan = f.space.cartan;
  rank = rank;
  code = code_at f rank;
  weight = vertex_weight f rank;
  eps = map (vertex_eps f rank) (range_with_len 1 8);
  phi = map (vertex_phi f rank) (range_with_len 1 8);
}

-- the items of the first n vertices, and of all, in ascending rank
abbrev pub first_items : FinishedType → ℕ → List Item
first_items f n = map (item_at f) (range_with_len 0 n)

abbrev pub items_of : FinishedType → List Item
items_of f = first_items f (length f.codes)

-- of these items those with which the object at the place k is fed, where the objects at these places are chosen
abbrev pub items_for : List ℕ → ℕ → List Item → List Item
items_for places k items = if list_any (nat_eq k) places then items else []

-- the weight of the item has the size of its type, and doubled coordinates between -1,000 and 1,000
pub record IsFit (x : Item) : Type 0 where
  pub size : IsWeight x.cartan x.weight
  pub small : IsSmall x.weight
