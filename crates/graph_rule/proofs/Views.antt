-- What stays in longer fronts, and further acts at the end of one.
use Rattle.std.proofs.Common.{◌≡◌, sym, subst, ℕ, List, ◌++◌}
use Rattle.tensor_words.specs.Worlds.{WorldType}
use Rattle.graph_history.specs.declared.event.Act.{Act}
use Rattle.graph_history.specs.declared.event.Event.{Event}
use Rattle.graph_history.specs.History.{State, empty_state, state_from, state_of, HasSome, IsWhole, LegalFrom, IsLegal}
use Rattle.graph_history.specs.Laws.{Stays}
use Rattle.graph_history.specs.Desks.{by}
use Rattle.graph_history.proofs.Histories.{state_from-append, stays_append, legal_both}
use Rattle.graph_rule.specs.Rule.{IsPrefix}

-- what a prefix has stays
pub stays_prefix : (f h : List Event) → IsPrefix f h → Stays (state_of f) (state_of h)
stays_prefix f h p = subst (λ (l : List Event). Stays (state_of f) (state_of l)) (sym p.1) (stays_append f p.0)

pub some_stays : (s t : State) (c : ℕ) → Stays s t → HasSome s c → HasSome t c
some_stays s t c p h = (h.0, p.vertices c h.0 h.1)

pub some_prefix : (f h : List Event) (c : ℕ) → IsPrefix f h → HasSome (state_of f) c → HasSome (state_of h) c
some_prefix f h c p there = some_stays (state_of f) (state_of h) c (stays_prefix f h p) there

pub whole_stays : (w : WorldType) (s t : State) (c : ℕ) → Stays s t → IsWhole w s c → IsWhole w t c
whole_stays w s t c p h = λ a is. let drawn = h a is in (drawn.0, p.arrows c a drawn.0 drawn.1)

-- further events are legal where they are legal in the state
pub legal_more : (w : WorldType) (h : List Event) (n : ℕ) (acts : List Act) → IsLegal w h → LegalFrom w (state_of h) (by n acts) → IsLegal w (h ++ by n acts)
unfolding IsLegal
legal_more w h n acts p q = legal_both w empty_state h (by n acts) p q

pub state_more : (h : List Event) (n : ℕ) (acts : List Act) → state_of (h ++ by n acts) ≡ state_from (state_of h) (by n acts)
state_more h n acts = state_from-append empty_state h (by n acts)
