-- Worked values of the definitions: small histories in A_1 over words of two letters.
use Rattle.std.proofs.Common.{◌≡◌, refl, sym, ap, ◌∙◌, ℕ, ◌==◌, ◌&&◌, ◌⊎◌, inl, inr, not, subst, Bool, true, false, true≢false, nat_eq, unwrap_or, List, [], ◌∷◌, Option, Some, None, Contains, ◌<◌, lit<, lit≤, arith}
use Rattle.std.proofs.lemmas.Grind.{common_steps}
use Rattle.crystal_cartan.specs.declared.types.Arrow.{Arrow}
use Rattle.crystal_cartan.specs.declared.types.Kind.TheVariants.{A}
use Rattle.vector_crystals.specs.Letters.{letters}
use Rattle.vector_crystals.specs.VectorCrystals.{vector_edges, letter_action, digit_action}
use Rattle.tensor_words.specs.declared.spaces.Factor.TheVariants.{Vector}
use Rattle.tensor_words.specs.Spaces.{SpaceType, tensor_space, base_size, base_action, size}
use Rattle.tensor_words.specs.Codes.{code_of, word_of}
use Rattle.tensor_words.specs.TensorRule.{action}
use Rattle.tensor_words.specs.Operators.{IsArrow, op}
use Rattle.tensor_words.specs.Worlds.{WorldType}
use Rattle.graph_history.specs.declared.event.Origin.TheVariants.{Root, By}
use Rattle.graph_history.specs.declared.event.Act.{Act}
use Rattle.graph_history.specs.declared.event.Act.TheVariants.{Added, Met, Missed, Spent, Drew, Saw, Blank, Owed, Settled, Tally}
use Rattle.graph_history.specs.declared.event.Event.{Event}
use Rattle.graph_history.specs.History.{Vertex, State, empty_state, vertex_at, are_drawn, IsWhole, MayAdd, IsLegal, calls}
use Rattle.graph_history.specs.Desks.{by}
use Rattle.graph_history.proofs.Counting.{whole_from}

-- the codes of 1 1, 1 2, 2 1, 2 2 are 0 to 3
abbrev words : SpaceType
words = tensor_space (record { kind = A; rank = 1 }) (Vector ∷ Vector ∷ [])

abbrev world_of_cells : ℕ → List ℕ → WorldType
world_of_cells cells roots = record { space = words; cells = cells; roots = roots }

abbrev f : Arrow
f = record { down = true; index = 1 }

abbrev e : Arrow
e = record { down = false; index = 1 }

f_is : IsArrow words f
f_is = record { index = record { low = lit≤ tt; high = lit≤ tt } }

e_is : IsArrow words e
e_is = record { index = record { low = lit≤ tt; high = lit≤ tt } }

size_is : size words ≡ 4
unfolding base_size
size_is = refl

-- f takes 1 1 to 1 2, and 1 2 to 2 2; e gives zero at 1 1; both give zero at 2 1
f_first : op words f 0 ≡ Some 1
unfolding op action base_action digit_action letter_action vector_edges letters base_size word_of code_of
f_first = refl

f_second : op words f 1 ≡ Some 3
unfolding op action base_action digit_action letter_action vector_edges letters base_size word_of code_of
f_second = refl

e_first : op words e 0 ≡ None
unfolding op action base_action digit_action letter_action vector_edges letters base_size word_of code_of
e_first = refl

f_alone : op words f 2 ≡ None
unfolding op action base_action digit_action letter_action vector_edges letters base_size word_of code_of
f_alone = refl

-- no vertex of the list has this code
abbrev lacks : List Vertex → ℕ → Bool
lacks [] x = true
lacks (v ∷ vs) x = not (v.code == x) && lacks vs x

lacking : (vs : List Vertex) (x c : ℕ) → lacks vs x ≡ true → vertex_at vs c ≡ Some x → ⊥
lacking [] x c h at = let at' : None ≡ Some x = at in cc
lacking (v ∷ vs) x c h at =
    let split : (v.code ≡ x → ⊥) × (lacks vs x ≡ true) = grind (arith, common_steps) in
    let here : (v.code ≡ x) ⊎ (vertex_at vs c ≡ Some x) = grind (arith, common_steps) in
    elim here [ inl same ↦ split.0 same | inr later ↦ lacking vs x c split.1 later ]

-- the vertex of 1 1 in the first cell
abbrev root : Vertex
root = record { cell = 0; code = 0 }

abbrev event : ℕ → Act → Event
event n a = record { caller = n; act = a }

-- the root 1 1 goes into the first cell of an empty state, and 2 1 into the second after it: a debt is owed before
first_root : (cells : ℕ) (roots : List ℕ) → 0 < cells → Contains roots 0 → MayAdd (world_of_cells cells roots) (record empty_state { debts = 1 }) 0 0 Root
unfolding base_size
first_root cells roots some rooted = record { word = lit< tt; fresh = λ c at. lacking [] 0 c refl at; cell = some; free = refl; origin = rooted; owed = lit< tt }

-- the graph with that root
abbrev one_root : State
one_root = record { vertices = root ∷ []; drawn = []; debts = 1 }

second_root : MayAdd (world_of_cells 4 (0 ∷ 2 ∷ [])) (record one_root { debts = 2 }) 1 2 Root
unfolding base_size are_drawn
second_root = record {
  word = lit< tt;
  fresh = λ c at. lacking (root ∷ []) 2 c refl at;
  cell = lit< tt;
  free = refl;
  origin = (1, lit< tt, refl);
  owed = lit< tt;
}

-- two sessions add one word: one finds it new, the other old
abbrev two_adds : List Event
two_adds = event 0 Owed ∷ event 0 (Added 0 0 Root) ∷ event 1 Owed ∷ event 1 (Added 1 2 Root) ∷ event 2 (Met 1 2) ∷ []

two_adds_legal : IsLegal (world_of_cells 4 (0 ∷ 2 ∷ [])) two_adds
unfolding IsLegal
two_adds_legal = (tt, (first_root 4 (0 ∷ 2 ∷ []) (lit< tt) (0, lit< tt, refl), (tt, (second_root, (refl, tt)))))

two_adds_calls : calls two_adds 2 ≡ by 2 (Met 1 2 ∷ [])
two_adds_calls = refl

-- a session finds the word that it added
own_write_legal : IsLegal (world_of_cells 4 (0 ∷ 2 ∷ [])) (event 0 Owed ∷ event 0 (Added 0 0 Root) ∷ event 1 Owed ∷ event 1 (Added 1 2 Root) ∷ event 1 (Met 1 2) ∷ [])
unfolding IsLegal
own_write_legal = (tt, (first_root 4 (0 ∷ 2 ∷ []) (lit< tt) (0, lit< tt, refl), (tt, (second_root, (refl, tt)))))

-- a session sees that an arrow is not drawn, and draws it while a grower has put in its target. The grower draws the
-- other arrow of the root, which is whole now, and pays for it: one debt is left, for the target
abbrev drawn_root : State
drawn_root = record {
  vertices = root ∷ record { cell = 1; code = 1 } ∷ [];
  drawn = record { cell = 0; arrow = f; to = Some 1 } ∷ record { cell = 0; arrow = e; to = None } ∷ [];
  debts = 2;
}

root_whole : IsWhole (world_of_cells 4 (0 ∷ [])) drawn_root 0
unfolding are_drawn
root_whole = whole_from (world_of_cells 4 (0 ∷ [])) drawn_root 0 refl

beside_growers_legal : IsLegal (world_of_cells 4 (0 ∷ [])) (
    event 0 Owed ∷ event 0 (Added 0 0 Root) ∷ event 1 (Met 0 0) ∷ event 1 (Blank 0 f) ∷ event 2 Owed ∷ event 2 (Added 1 1 (By 0 f))
    ∷ event 1 (Met 0 0) ∷ event 1 (Met 1 1) ∷ event 1 (Drew 0 f (Some 1)) ∷ event 2 (Drew 0 e None) ∷ event 2 (Settled (Some 0)) ∷ event 2 (Tally 1)
    ∷ event 1 (Saw 0 f (Some 1)) ∷ [])
unfolding IsLegal base_size are_drawn
beside_growers_legal = (
  tt,
  (
    first_root 4 (0 ∷ []) (lit< tt) (0, lit< tt, refl),
    (
      refl,
      (
        record { there = (0, refl); arrow = f_is; undrawn = refl },
        (
          tt,
          (
            record {
              word = lit< tt;
              fresh = λ c at. lacking (root ∷ []) 1 c refl at;
              cell = lit< tt;
              free = refl;
              origin = (0, refl, f_is, f_first);
              owed = lit< tt;
            },
            (
              refl,
              (
                refl,
                (
                  record { code = 0; there = refl; arrow = f_is; undrawn = refl; target = (1, f_first, refl) },
                  (
                    record { code = 0; there = refl; arrow = e_is; undrawn = refl; target = e_first },
                    (
                      record { spare = lit< tt; payable = ((0, refl), root_whole) },
                      (refl, (refl, tt)),
                    ),
                  ),
                ),
              ),
            ),
          ),
        ),
      ),
    ),
  ),
)

-- a word of another component is not found
other_component_legal : IsLegal (world_of_cells 4 (0 ∷ [])) (event 0 Owed ∷ event 0 (Added 0 0 Root) ∷ event 1 (Missed 2) ∷ event 1 (Missed 2) ∷ [])
unfolding IsLegal base_size
other_component_legal = (
  tt,
  (
    first_root 4 (0 ∷ []) (lit< tt) (0, lit< tt, refl),
    (
      record { word = lit< tt; fresh = λ c at. lacking (root ∷ []) 2 c refl at },
      (
        record { word = lit< tt; fresh = λ c at. lacking (root ∷ []) 2 c refl at },
        tt,
      ),
    ),
  ),
)

-- what is legal after the root, and what is not
abbrev after_root : ℕ → Act → Type 0
after_root cells act = IsLegal (world_of_cells cells (0 ∷ 2 ∷ [])) (event 0 Owed ∷ event 0 (Added 0 0 Root) ∷ event 1 act ∷ [])

-- a word is not new twice, and is not missed
twice_new : after_root 4 (Added 1 0 Root) → ⊥
unfolding IsLegal
twice_new legal = legal.1.1.0.fresh 0 refl

missed_vertex : after_root 4 (Missed 0) → ⊥
unfolding IsLegal
missed_vertex legal = legal.1.1.0.fresh 0 refl

-- nothing is put in before it is owed
no_debt : after_root 4 (Added 1 2 Root) → ⊥
unfolding IsLegal are_drawn
no_debt legal = let spare : 1 < 1 = legal.1.1.0.owed in omega arith

-- no debt is settled while it covers a vertex that is not whole
settled_early : after_root 4 (Settled None) → ⊥
unfolding IsLegal are_drawn
settled_early legal = let spare : 1 < 1 = legal.1.1.0.spare in omega arith

-- a tally tells all debts
tally_short : after_root 4 (Tally 0) → ⊥
unfolding IsLegal
tally_short legal = let none : ◌≡◌ {A = ℕ} 0 1 = legal.1.1.0 in omega arith

-- the cells are not spent while one is free
spent_early : after_root 4 (Spent 2) → ⊥
unfolding IsLegal
spent_early legal = let full : ◌≡◌ {A = ℕ} 1 4 = legal.1.1.0.full in omega arith

no_words : ◌≡◌ {A = Option ℕ} (Some 1) (Some 0) → ⊥
no_words h = true≢false (ap (λ (o : Option ℕ). nat_eq (unwrap_or o 0) 1) h)

-- an arrow does not lead to a cell with another word
wrong_target : after_root 4 (Drew 0 f (Some 0)) → ⊥
unfolding IsLegal
wrong_target legal =
    let may = legal.1.1.0 in
    let code : Some 0 ≡ Some may.code = may.there in
    let zero_code : 0 ≡ may.code = cc in
    let target : Some 0 ≡ Some may.target.0 = may.target.2 in
    let zero_target : 0 ≡ may.target.0 = cc in
    let leads : op words f 0 ≡ Some 0 = subst (λ (n : ℕ). op words f n ≡ Some 0) (sym zero_code) (may.target.1 ∙ sym target) in
    no_words (sym f_first ∙ leads)

-- an arrow that is drawn is not seen undrawn, nor with another target
abbrev after_arrow : Act → Type 0
after_arrow act = IsLegal (world_of_cells 4 (0 ∷ [])) (event 0 Owed ∷ event 0 (Added 0 0 Root) ∷ event 1 (Drew 0 e None) ∷ event 2 act ∷ [])

drawn_blank : after_arrow (Blank 0 e) → ⊥
unfolding IsLegal
drawn_blank legal = let undrawn : ◌≡◌ {A = Option (Option ℕ)} (Some None) None = legal.1.1.1.0.undrawn in cc

other_target : after_arrow (Saw 0 e (Some 0)) → ⊥
unfolding IsLegal
other_target legal = let seen : ◌≡◌ {A = Option (Option ℕ)} (Some None) (Some (Some 0)) = legal.1.1.1.0 in cc
