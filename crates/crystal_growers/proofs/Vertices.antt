-- How many vertices fronts have.
use Rattle.std.proofs.Common.{◌≡◌, sym, ap, ◌∙◌, ℕ, ◌<◌, ◌≤◌, List, [], ◌∷◌, ◌++◌, length, length-append, append-nil, arith}
use Rattle.graph_history.specs.declared.event.Event.{Event}
use Rattle.graph_history.specs.History.{Vertex, State, empty_state, state_of, vertex_at, HasSome}
use Rattle.graph_history.proofs.Histories.{state_from-append, vertices_from}
use Rattle.graph_rule.specs.Rule.{IsPrefix}

longer : (f h : List Event) → IsPrefix f h → (vs : List Vertex) × ((state_of h).vertices ≡ (state_of f).vertices ++ vs)
longer f h p = let r = vertices_from (state_of f) p.0 in (r.0, ap (λ (l : List Event). (state_of l).vertices) p.1 ∙ ap (λ (s : State). s.vertices) (state_from-append empty_state f p.0) ∙ r.1)

pub at_least : (f h : List Event) → IsPrefix f h → length (state_of f).vertices ≤ length (state_of h).vertices
at_least f h p = let r = longer f h p in let e = ap length r.1 ∙ length-append (state_of f).vertices r.0 in omega arith

pub more_than : (f h : List Event) (c : ℕ) → IsPrefix f h → (HasSome (state_of f) c → ⊥) → HasSome (state_of h) c → length (state_of f).vertices < length (state_of h).vertices
more_than f h c p none there = let r = longer f h p in by r.0 r.1
  where
    by : (vs : List Vertex) → (state_of h).vertices ≡ (state_of f).vertices ++ vs → length (state_of f).vertices < length (state_of h).vertices
    by [] e = absurd (none (there.0, ap (λ (l : List Vertex). vertex_at l c) (sym (e ∙ append-nil (state_of f).vertices)) ∙ there.1))
    by (v ∷ vs) e = let long = ap length e ∙ length-append (state_of f).vertices (v ∷ vs) in omega arith
