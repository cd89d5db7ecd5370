-- States of histories: what a push leaves and adds, and how legality splits over an append.
use Rattle.std.proofs.Common.{◌≡◌, refl, sym, ap, ◌∙◌, ℕ, zero, suc, ◌==◌, ◌&&◌, ◌⊎◌, inl, inr, Bool, true, false, List, [], ◌∷◌, ◌++◌, length, slice_get, Option, Some, None, Contains, append-nil, append_assoc, arith}
use Rattle.std.proofs.lemmas.Grind.{common_steps}
use Rattle.crystal_cartan.specs.declared.types.Arrow.{Arrow}
use Rattle.tensor_words.specs.Worlds.{WorldType}
use Rattle.graph_history.specs.declared.event.Act.{Act}
use Rattle.graph_history.specs.declared.event.Act.TheVariants.{Added, Met, Missed, Spent, Drew, Saw, Blank, Owed, Settled, Tally}
use Rattle.graph_history.specs.declared.event.Event.{Event}
use Rattle.graph_history.specs.History.{Vertex, DrawnArrow, State, empty_state, after, state_from, state_of, vertex_at, target_at, same_way, same_arrow, HasVertex, IsLegalAct, LegalFrom, IsLegal}
use Rattle.graph_history.specs.Laws.{Stays}

-- a list with one more element
pub slice_get-push : {X : Type 0} (xs : List X) (y : X) (k : ℕ) (x : X) → slice_get (xs ++ y ∷ []) k ≡ Some x → (slice_get xs k ≡ Some x) ⊎ ((k ≡ length xs) × (y ≡ x))
slice_get-push [] y zero x h = inr (refl, cc)
slice_get-push [] y (suc k) x h = cc
slice_get-push (z ∷ xs) y zero x h = inl h
slice_get-push (z ∷ xs) y (suc k) x h =
    elim (slice_get-push xs y k x h) [ inl l ↦ inl l | inr r ↦ inr (omega (arith, r.0), r.1) ]

-- arrows
pub same_way-true : (a b : Bool) → same_way a b ≡ true → a ≡ b
same_way-true true true h = refl
same_way-true true false h = cc
same_way-true false true h = cc
same_way-true false false h = refl

pub same_way-self : (a : Bool) → same_way a a ≡ true
same_way-self true = refl
same_way-self false = refl

pub same_arrow-true : (a b : Arrow) → same_arrow a b ≡ true → a ≡ b
same_arrow-true a b h =
    let split : (a.index ≡ b.index) × (same_way a.down b.down ≡ true) = grind (arith, common_steps) in
    let way : a.down ≡ b.down = same_way-true a.down b.down split.1 in
    λ i. record { down = way i; index = split.0 i }

pub same_arrow-self : (a : Arrow) → same_arrow a a ≡ true
same_arrow-self a = let way = same_way-self a.down in grind (arith, common_steps)

-- the vertices of a longer list
pub vertex_at-front : (vs ws : List Vertex) (c x : ℕ) → vertex_at vs c ≡ Some x → vertex_at (vs ++ ws) c ≡ Some x
vertex_at-front [] ws c x h = cc
vertex_at-front (v ∷ vs) ws c x h = grind (arith, vertex_at-front vs ws c x)

pub vertex_at-push : (vs : List Vertex) (v : Vertex) (c x : ℕ) → vertex_at (vs ++ v ∷ []) c ≡ Some x → (vertex_at vs c ≡ Some x) ⊎ ((v.cell ≡ c) × (v.code ≡ x))
vertex_at-push [] v c x h = grind arith
vertex_at-push (u ∷ vs) v c x h = grind (arith, vertex_at-push vs v c x)

pub vertex_at-new : (vs : List Vertex) (v : Vertex) → vertex_at vs v.cell ≡ None → vertex_at (vs ++ v ∷ []) v.cell ≡ Some v.code
vertex_at-new [] v h = grind arith
vertex_at-new (u ∷ vs) v h = grind (arith, vertex_at-new vs v)

pub vertex_at-other : (vs : List Vertex) (v : Vertex) (c : ℕ) → (v.cell == c) ≡ false → vertex_at (vs ++ v ∷ []) c ≡ vertex_at vs c
vertex_at-other [] v c h = grind arith
vertex_at-other (u ∷ vs) v c h = grind (arith, vertex_at-other vs v c)

-- the arrows of a longer list
pub target_at-front : (ds es : List DrawnArrow) (c : ℕ) (a : Arrow) (t : Option ℕ) → target_at ds c a ≡ Some t → target_at (ds ++ es) c a ≡ Some t
target_at-front [] es c a t h = cc
target_at-front (d ∷ ds) es c a t h = grind (arith, target_at-front ds es c a t)

pub target_at-push : (ds : List DrawnArrow) (d : DrawnArrow) (c : ℕ) (a : Arrow) (t : Option ℕ) → target_at (ds ++ d ∷ []) c a ≡ Some t → (target_at ds c a ≡ Some t) ⊎ ((((d.cell == c) && same_arrow d.arrow a) ≡ true) × (d.to ≡ t))
target_at-push [] d c a t h = grind arith
target_at-push (e ∷ ds) d c a t h = grind (arith, target_at-push ds d c a t)

pub target_at-new : (ds : List DrawnArrow) (d : DrawnArrow) (c : ℕ) (a : Arrow) → ((d.cell == c) && same_arrow d.arrow a) ≡ true → target_at ds c a ≡ None → target_at (ds ++ d ∷ []) c a ≡ Some d.to
target_at-new [] d c a is h = grind arith
target_at-new (e ∷ ds) d c a is h = grind (arith, target_at-new ds d c a is)

pub target_at-other : (ds : List DrawnArrow) (d : DrawnArrow) (c : ℕ) (a : Arrow) → ((d.cell == c) && same_arrow d.arrow a) ≡ false → target_at (ds ++ d ∷ []) c a ≡ target_at ds c a
target_at-other [] d c a is = grind arith
target_at-other (e ∷ ds) d c a is = grind (arith, target_at-other ds d c a is)

pub same_edge : (c d : ℕ) (a b : Arrow) → ((c == d) && same_arrow a b) ≡ true → (c ≡ d) × (a ≡ b)
same_edge c d a b h =
    let split : (c ≡ d) × (same_arrow a b ≡ true) = grind (arith, common_steps) in (split.0, same_arrow-true a b split.1)

pub own_edge : (c d : ℕ) (a b : Arrow) → c ≡ d → a ≡ b → ((c == d) && same_arrow a b) ≡ true
own_edge c d a b e f =
    let own : same_arrow a b ≡ true = rw f (same_arrow-self b) in grind (arith, common_steps)

-- what is in a state stays in later ones
pub stays_on : (s t u : State) → Stays s t → Stays t u → Stays s u
stays_on s t u p q = record {
  vertices = λ c x h. q.vertices c x (p.vertices c x h);
  arrows = λ c a to h. q.arrows c a to (p.arrows c a to h);
}

pub stays_same : (s : State) → Stays s s
stays_same s = record { vertices = λ c x h. h; arrows = λ c a to h. h }

pub stays_after : (s : State) (act : Act) → Stays s (after s act)
stays_after s (Added c x o) = record { vertices = λ d y h. vertex_at-front s.vertices _ d y h; arrows = λ d a to h. h }
stays_after s (Met c x) = stays_same s
stays_after s (Missed x) = stays_same s
stays_after s (Spent x) = stays_same s
stays_after s (Drew c a t) = record { vertices = λ d y h. h; arrows = λ d b to h. target_at-front s.drawn _ d b to h }
stays_after s (Saw c a t) = stays_same s
stays_after s (Blank c a) = stays_same s
stays_after s Owed = record { vertices = λ c x h. h; arrows = λ c a to h. h }
stays_after s (Settled paid) = record { vertices = λ c x h. h; arrows = λ c a to h. h }
stays_after s (Tally n) = stays_same s

pub stays_from : (s : State) (es : List Event) → Stays s (state_from s es)
stays_from s [] = stays_same s
stays_from s (e ∷ es) = stays_on s (after s e.act) (state_from (after s e.act) es) (stays_after s e.act) (stays_from (after s e.act) es)

-- appended events
pub state_from-append : (s : State) (f g : List Event) → state_from s (f ++ g) ≡ state_from (state_from s f) g
state_from-append s [] g = refl
state_from-append s (e ∷ f) g = state_from-append (after s e.act) f g

pub stays_append : (f g : List Event) → Stays (state_of f) (state_of (f ++ g))
stays_append f g = rw (state_from-append empty_state f g) (stays_from (state_of f) g)

pub legal_both : (w : WorldType) (s : State) (f g : List Event) → LegalFrom w s f → LegalFrom w (state_from s f) g → LegalFrom w s (f ++ g)
legal_both w s [] g p q = q
legal_both w s (e ∷ f) g p q = (p.0, legal_both w (after s e.act) f g p.1 q)

pub legal_front : (w : WorldType) (s : State) (f g : List Event) → LegalFrom w s (f ++ g) → LegalFrom w s f
legal_front w s [] g p = tt
legal_front w s (e ∷ f) g p = (p.0, legal_front w (after s e.act) f g p.1)

pub legal_rest : (w : WorldType) (s : State) (f g : List Event) → LegalFrom w s (f ++ g) → LegalFrom w (state_from s f) g
legal_rest w s [] g p = p
legal_rest w s (e ∷ f) g p = legal_rest w (after s e.act) f g p.1

-- one more event
pub legal_push : (w : WorldType) (h : List Event) (e : Event) → IsLegal w h → IsLegalAct w (state_of h) e.act → IsLegal w (h ++ e ∷ [])
unfolding IsLegal
legal_push w h e p q = legal_both w empty_state h (e ∷ []) p (q, tt)

pub state_push : (h : List Event) (e : Event) → state_of (h ++ e ∷ []) ≡ after (state_of h) e.act
state_push h e = state_from-append empty_state h (e ∷ [])

pub legal_prefix : (w : WorldType) (f g : List Event) → IsLegal w (f ++ g) → IsLegal w f
unfolding IsLegal
legal_prefix w f g p = legal_front w empty_state f g p

pub legal_empty : (w : WorldType) → IsLegal w []
unfolding IsLegal
legal_empty w = tt

-- a cell has one code
pub one_code : (s : State) (c x y : ℕ) → HasVertex s c x → HasVertex s c y → x ≡ y
one_code s c x y p q = cc

-- an event of a list, and what stands before and after it
pub around : (h : List Event) (e : Event) → Contains h e → (f : List Event) × (g : List Event) × (h ≡ f ++ e ∷ g)
around [] e (k, below, is) = absurd (omega arith)
around (d ∷ h) e (zero, below, is) = ([], h, ap (λ (x : Event). x ∷ h) is)
around (d ∷ h) e (suc k, below, is) =
    let rest = around h e (k, omega arith, is) in (d ∷ rest.0, rest.1, ap (λ (l : List Event). d ∷ l) rest.2)

-- the vertices of a longer history
pub more_vertices : (s : State) (act : Act) → (vs : List Vertex) × ((after s act).vertices ≡ s.vertices ++ vs)
more_vertices s (Added c x o) = (record { cell = c; code = x } ∷ [], refl)
more_vertices s (Met c x) = ([], sym (append-nil s.vertices))
more_vertices s (Missed x) = ([], sym (append-nil s.vertices))
more_vertices s (Spent x) = ([], sym (append-nil s.vertices))
more_vertices s (Drew c a t) = ([], sym (append-nil s.vertices))
more_vertices s (Saw c a t) = ([], sym (append-nil s.vertices))
more_vertices s (Blank c a) = ([], sym (append-nil s.vertices))
more_vertices s Owed = ([], sym (append-nil s.vertices))
more_vertices s (Settled paid) = ([], sym (append-nil s.vertices))
more_vertices s (Tally n) = ([], sym (append-nil s.vertices))

pub vertices_from : (s : State) (es : List Event) → (vs : List Vertex) × ((state_from s es).vertices ≡ s.vertices ++ vs)
vertices_from s [] = ([], sym (append-nil s.vertices))
vertices_from s (e ∷ es) =
    let one = more_vertices s e.act in
    let rest = vertices_from (after s e.act) es in
    (one.0 ++ rest.0, rest.1 ∙ ap (λ (vs : List Vertex). vs ++ rest.0) one.1 ∙ append_assoc s.vertices one.0 rest.0)
