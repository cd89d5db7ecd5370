-- How a seat goes on.
use Rattle.std.proofs.Common.{◌≡◌, refl, sym, ap, subst, ◌∙◌, ℕ, List, [], ◌∷◌, ◌++◌, map, None, All, append_assoc}
use Rattle.std.proofs.lemmas.List.{append-nil, map-append}
use Rattle.std.proofs.lemmas.List.Elements.{All-nil, All-append, All-weaker}
use Rattle.graph_history.specs.declared.event.Act.{Act}
use Rattle.graph_history.specs.declared.event.Event.{Event}
use Rattle.graph_history.specs.History.{state_of, IsWhole}
use Rattle.graph_history.specs.Desks.{by}
use Rattle.graph_rule.proofs.Views.{stays_prefix, whole_stays}
use Rattle.shared_seats.proofs.Fronts.{prefix_self, prefix_on}
use Rattle.shared_seats.specs.Seats.{IsPrefix}
use Rattle.wide_words.specs.WideSpaces.{number}
use Rattle.wide_words.specs.WideHistory.{WideWorldType, flat}
use Rattle.wide_rule.specs.declared.dues.WideDues.{WideDues}
use Rattle.wide_rule.specs.Rule.{WideView, IsKnown}
use Rattle.wide_rule.specs.Told.{Advances}
use Rattle.wide_rule.specs.Values.{WideGraphValue, WideSeatValue}
use Rattle.wide_growth.specs.declared.drawing.OpenVertex.{OpenVertex}
use Rattle.wide_growth.specs.Drawing.{IsVertex, cells_in, AreWhole, IsReady, GoesOn}

-- what stays
pub vertex_later : (w : WideWorldType) (f h : List Event) (v : OpenVertex) → IsPrefix f h → IsVertex w f v → IsVertex w h v
vertex_later w f h v p is = record { word = is.word; there = (stays_prefix f h p).vertices v.cell (number w.space v.code) is.there }

pub vertices_later : (w : WideWorldType) (f h : List Event) (vs : List OpenVertex) → IsPrefix f h → All (IsVertex w f) vs → All (IsVertex w h) vs
vertices_later w f h vs p all = All-weaker (IsVertex w f) (IsVertex w h) (λ v is. vertex_later w f h v p is) vs all

pub whole_later : (w : WideWorldType) (f h : List Event) (c : ℕ) → IsPrefix f h → IsWhole (flat w) (state_of f) c → IsWhole (flat w) (state_of h) c
whole_later w f h c p whole = whole_stays (flat w) (state_of f) (state_of h) c (stays_prefix f h p) whole

pub all_whole_later : (w : WideWorldType) (f h : List Event) (vs : List OpenVertex) → IsPrefix f h → AreWhole w f vs → AreWhole w h vs
all_whole_later w f h vs p all =
    All-weaker (λ (v : OpenVertex). IsWhole (flat w) (state_of f) v.cell) (λ (v : OpenVertex). IsWhole (flat w) (state_of h) v.cell) (λ v is. whole_later w f h v.cell p is) vs all

pub cells_both : (xs ys : List OpenVertex) → cells_in (xs ++ ys) ≡ cells_in xs ++ cells_in ys
cells_both xs ys = map-append (λ (v : OpenVertex). v.cell) xs ys

-- a seat that did nothing
pub goes_none : (s : WideSeatValue) (list : List OpenVertex) → IsKnown s.view → s.view.dues.pending ≡ None → GoesOn s s list list
goes_none s list known idle = record {
  added = [];
  list = sym (append-nil list);
  table = refl;
  world = refl;
  stake = refl;
  left = refl;
  known = known;
  front = prefix_self s.view.front;
  owed = sym (append-nil s.view.dues.owed);
  idle = idle;
  vertices = All-nil (IsVertex s.view.world s.view.front);
}

-- a step that put in these vertices
pub goes_by : (a b : WideSeatValue) (acts : List Act) (dues : WideDues) (more before after : List OpenVertex) → after ≡ before ++ more → b.table ≡ a.table → Advances a.view b.view acts dues
    → dues.owed ≡ a.view.dues.owed ++ cells_in more → dues.pending ≡ None → All (IsVertex a.view.world b.view.front) more → GoesOn a b before after
goes_by a b acts dues more before after list table s owed idle vertices = record {
  added = more;
  list = list;
  table = table;
  world = ap (λ (v : WideView). v.world) s.is;
  stake = ap (λ (v : WideView). v.stake) s.is;
  left = ap (λ (v : WideView). v.left) s.is;
  known = s.known;
  front = (s.between ++ by a.view.number acts, ap (λ (v : WideView). v.front) s.is ∙ append_assoc a.view.front s.between (by a.view.number acts));
  owed = ap (λ (v : WideView). v.dues.owed) s.is ∙ owed;
  idle = ap (λ (v : WideView). v.dues.pending) s.is ∙ idle;
  vertices = vertices;
}

-- a step that put nothing in
pub goes_quiet : (a b : WideSeatValue) (acts : List Act) (dues : WideDues) (list : List OpenVertex) → b.table ≡ a.table → Advances a.view b.view acts dues
    → dues.owed ≡ a.view.dues.owed → dues.pending ≡ None → GoesOn a b list list
goes_quiet a b acts dues list table s owed idle =
    goes_by a b acts dues [] list list (sym (append-nil list)) table s (owed ∙ sym (append-nil a.view.dues.owed)) idle (All-nil (IsVertex a.view.world b.view.front))

-- one after another
pub goes_then : (a b c : WideSeatValue) (xs ys zs : List OpenVertex) → GoesOn a b xs ys → GoesOn b c ys zs → GoesOn a c xs zs
goes_then a b c xs ys zs g h = record {
  added = g.added ++ h.added;
  list = h.list ∙ ap (λ (l : List OpenVertex). l ++ h.added) g.list ∙ append_assoc xs g.added h.added;
  table = h.table ∙ g.table;
  world = h.world ∙ g.world;
  stake = h.stake ∙ g.stake;
  left = h.left ∙ g.left;
  known = h.known;
  front = prefix_on a.view.front b.view.front c.view.front g.front h.front;
  owed = h.owed ∙ ap (λ (l : List ℕ). l ++ cells_in h.added) g.owed ∙ append_assoc a.view.dues.owed (cells_in g.added) (cells_in h.added)
      ∙ ap (λ (l : List ℕ). a.view.dues.owed ++ l) (sym (cells_both g.added h.added));
  idle = h.idle;
  vertices = All-append (IsVertex a.view.world c.view.front) g.added h.added (vertices_later a.view.world b.view.front c.view.front g.added h.front g.vertices)
      (subst (λ (w : WideWorldType). All (IsVertex w c.view.front) h.added) g.world h.vertices);
}

pub ready_after : (g : WideGraphValue) (a b : WideSeatValue) (xs ys : List OpenVertex) → IsReady g a → GoesOn a b xs ys → IsReady g b
ready_after g a b xs ys ready goes = record { belongs = record { table = goes.table ∙ ready.belongs.table; world = goes.world ∙ ready.belongs.world }; idle = goes.idle }
