-- A legal history has no more vertices than cells, and a full one keeps its vertices.
use Rattle.std.proofs.Common.{◌≡◌, ap, subst, ◌∙◌, ℕ, ◌<◌, ◌≤◌, true, eqb-true, nat_eq, List, [], ◌∷◌, ◌++◌, length, append-nil, length-append, arith}
use Rattle.std.specs.List.{list_any}
use Rattle.std.proofs.lemmas.Map.Steps.{length-le_from_distinct_below}
use Rattle.std.proofs.lemmas.Map.Views.{Contains-from_any}
use Rattle.graph_history.specs.History.{Vertex, State, empty_state, state_of}
use Rattle.graph_history.specs.Laws.{VerticesFit, FullStays}
use Rattle.graph_history.proofs.Histories.{state_from-append, vertices_from}
use Rattle.graph_history.proofs.SoundStates.{sound}
use Rattle.graph_history.proofs.VertexLists.{keys, length-keys, key_at, distinct_keys}

abbrev cell : Vertex → ℕ
cell v = v.cell

pub vertices_fit : VerticesFit
vertices_fit w h legal =
    let S = (sound w h legal).simple in
    let few : length (keys cell (state_of h).vertices) ≤ w.cells = length-le_from_distinct_below (keys cell (state_of h).vertices) w.cells (distinct_keys cell (state_of h).vertices S.cells) below in
    let long = length-keys cell (state_of h).vertices in
    omega arith
  where
    below : (q : ℕ) → list_any (nat_eq q) (keys cell (state_of h).vertices) ≡ true → q < w.cells
    below q is =
        let found = key_at cell (state_of h).vertices q (Contains-from_any eqb-true q (keys cell (state_of h).vertices) is) in
        let S = sound w h legal in
        subst (λ (c : ℕ). c < w.cells) found.3 (S.below found.1.cell found.1.code (S.simple.vertex found.0 found.1 found.2))

-- no vertex comes where there are no more
no_more : (vs ws : List Vertex) → length (vs ++ ws) ≤ length vs → vs ++ ws ≡ vs
no_more vs [] short = append-nil vs
no_more vs (v ∷ ws) short = let long = length-append vs (v ∷ ws) in absurd (omega arith)

pub full_stays : FullStays
full_stays w f g legal full =
    let more = vertices_from (state_of f) g in
    let is : (state_of (f ++ g)).vertices ≡ (state_of f).vertices ++ more.0 = ap (λ (s : State). s.vertices) (state_from-append empty_state f g) ∙ more.1 in
    let fit = vertices_fit w (f ++ g) legal in
    let short : length ((state_of f).vertices ++ more.0) ≤ length (state_of f).vertices = let same = ap length is in omega arith in
    is ∙ no_more (state_of f).vertices more.0 short
