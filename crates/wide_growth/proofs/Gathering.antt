-- Growers that come back.
use Rattle.std.proofs.Common.{◌≡◌, refl, sym, ap, ap₂, subst, ◌∙◌, ℕ, zero, suc, ◌+◌, ◌-◌, ◌*◌, ◌<◌, ◌≤◌, List, [], ◌∷◌, ◌++◌, length, get_or, None, Result, Ok, Err, sum_by, All, append_assoc, arith}
use Rattle.std.specs.List.{remove}
use Rattle.std.proofs.lemmas.List.{append-nil, length-append}
use Rattle.std.proofs.lemmas.List.Sums.{sum_by-append, sum_by-le}
use Rattle.std.proofs.lemmas.List.Elements.{All-nil, All-append, All-from_get_or}
use Rattle.graph_history.specs.declared.event.Event.{Event}
use Rattle.graph_history.specs.History.{state_of, IsWhole}
use Rattle.shared_seats.proofs.Fronts.{prefix_self, prefix_on}
use Rattle.shared_seats.specs.Seats.{IsPrefix}
use Rattle.wide_words.specs.WideSpaces.{WideSpaceType}
use Rattle.wide_words.specs.WideHistory.{WideWorldType, IsWideWorld, flat}
use Rattle.wide_rule.specs.declared.dues.WideDues.{WideDues}
use Rattle.wide_rule.specs.Rule.{WideView, IsKnown}
use Rattle.wide_rule.specs.Told.{Advances}
use Rattle.wide_rule.specs.Parting.{both_dues, joined}
use Rattle.wide_rule.specs.Values.{WideGraphValue, WideSeatValue}
use Rattle.wide_growth.specs.declared.drawing.OpenVertex.{OpenVertex}
use Rattle.wide_growth.specs.declared.drawing.Stop.{Stop}
use Rattle.wide_growth.specs.declared.work.Share.{Share}
use Rattle.wide_growth.specs.Drawing.{IsVertex, cells_in, arrows_of, AreWhole, IsReady, IsStop}
use Rattle.wide_growth.specs.Rounds.{most_open, IsBack, AreBack, IsGathered}
use Rattle.wide_growth.proofs.Going.{vertices_later, all_whole_later, cells_both}
use Rattle.wide_growth.proofs.Counting.{arrows_of_few}

-- the growers of some vertices came back, and those of the others did not yet
pub record IsGathering (g : WideGraphValue) (first now : WideSeatValue) (waiting : List OpenVertex) (count : ℕ) (shares : List (Result Share Stop)) (added : List OpenVertex) (arrows : ℕ) : Type 0 where
  pub taken : List OpenVertex
  pub rest : List OpenVertex
  pub parts : waiting ≡ taken ++ rest
  pub back : AreBack g first.view.front rest shares
  pub gathered : IsGathered g first now taken (count - length shares) added arrows
  pub within : length shares ≤ count

pub gathering_none : (g : WideGraphValue) (s : WideSeatValue) (waiting : List OpenVertex) (shares : List (Result Share Stop)) (added : List OpenVertex) → IsReady g s → IsKnown s.view
    → AreBack g s.view.front waiting shares → added ≡ [] → IsGathering g s s waiting (length shares) shares added 0
gathering_none g s waiting shares added ready known back none = record {
  taken = [];
  rest = waiting;
  parts = refl;
  back = back;
  gathered = record {
    ready = ready;
    stake = omega arith;
    left = refl;
    known = known;
    front = prefix_self s.view.front;
    owed = sym (append-nil s.view.dues.owed) ∙ ap (λ (l : List OpenVertex). s.view.dues.owed ++ cells_in l) (sym none);
    vertices = subst (λ (l : List OpenVertex). All (IsVertex g.world s.view.front) l) (sym none) (All-nil (IsVertex g.world s.view.front));
    drawn = All-nil (λ (v : OpenVertex). IsWhole (flat g.world) (state_of s.view.front) v.cell);
    counted = refl;
  };
  within = omega arith;
}

-- the first of a list
pub first_of : {X : Type 0} (xs ys : List X) (x : X) → 0 < length xs → x ≡ get_or xs 0 x → ys ≡ remove xs 0 → xs ≡ x ∷ ys
first_of [] ys x some is rest = absurd (omega arith)
first_of (z ∷ zs) ys x some is rest = ap₂ (λ a l. a ∷ l) (sym is) (sym rest)

-- what the first one gives back
module _ (g : WideGraphValue) (front : List Event) (rest : List OpenVertex) (shares later : List (Result Share Stop)) (one : Result Share Stop) (is : shares ≡ one ∷ later) (back : AreBack g front rest shares) where
  pub first_back : (s : Share) → one ≡ Ok s
      → (part : List OpenVertex) × (left : List OpenVertex) × (rest ≡ part ++ left) × IsBack g front part s × AreBack g front left later
  first_back s ok = subst (λ (l : List (Result Share Stop)). AreBack g front rest l) (is ∙ ap (λ (r : Result Share Stop). r ∷ later) ok) back

  pub first_stops : (e : Stop) → one ≡ Err e → IsStop g.world e
  first_stops e err = subst (λ (l : List (Result Share Stop)). AreBack g front rest l) (is ∙ ap (λ (r : Result Share Stop). r ∷ later) err) back

-- how many arrows there are at most
pub few_arrows : (w : WideWorldType) (vs : List OpenVertex) → IsWideWorld w → sum_by (arrows_of w.space) vs ≤ length vs * 8
few_arrows w vs world = sum_by-le (arrows_of w.space) 8 vs (λ k d below. let few = arrows_of_few w.space (get_or vs k d) in let rank = world.space.high.cartan.high in omega arith)

-- a further grower comes back
module _ (g : WideGraphValue) (first mid now : WideSeatValue) (waiting : List OpenVertex) (count : ℕ) (shares later : List (Result Share Stop)) (added : List OpenVertex) (arrows : ℕ)
    (p : IsGathering g first mid waiting count shares added arrows) (s : Share) (is : shares ≡ Ok s ∷ later) where
  here : (part : List OpenVertex) × (left : List OpenVertex) × (p.rest ≡ part ++ left) × IsBack g first.view.front part s × AreBack g first.view.front left later
  here = subst (λ (l : List (Result Share Stop)). AreBack g first.view.front p.rest l) is p.back

  shorter : length shares ≡ length later + 1
  shorter = ap length is ∙ (omega arith)

  -- the sum of arrows is small
  pub few_more : IsWideWorld g.world → length waiting ≤ most_open → arrows + s.arrows ≤ most_open * 8
  few_more world few =
      let a = few_arrows g.world p.taken world in
      let b = few_arrows g.world here.0 world in
      let c = p.gathered.counted in
      let d = here.3.counted in
      let e = ap length p.parts ∙ length-append p.taken p.rest in
      let f = ap length here.2 ∙ length-append here.0 here.1 in
      omega arith

  pub gathering_next : now.table ≡ mid.table → Advances (joined mid.view s.seat.view) now.view [] (both_dues mid.view.dues s.seat.view.dues) → IsPrefix mid.view.front now.view.front
      → IsPrefix s.seat.view.front now.view.front → IsGathering g first now waiting count later (added ++ s.added.items) (arrows + s.arrows)
  gathering_next table step on from = record {
    taken = p.taken ++ here.0;
    rest = here.1;
    parts = p.parts ∙ ap (λ (l : List OpenVertex). p.taken ++ l) here.2 ∙ sym (append_assoc p.taken here.0 here.1);
    back = here.4;
    gathered = record {
      ready = record {
        belongs = record { table = table ∙ p.gathered.ready.belongs.table; world = ap (λ (v : WideView). v.world) step.is ∙ p.gathered.ready.belongs.world };
        idle = ap (λ (v : WideView). v.dues.pending) step.is ∙ p.gathered.ready.idle;
      };
      stake = stake;
      left = ap (λ (v : WideView). v.left) step.is ∙ p.gathered.left;
      known = step.known;
      front = prefix_on first.view.front mid.view.front now.view.front p.gathered.front on;
      owed = ap (λ (v : WideView). v.dues.owed) step.is ∙ ap₂ (λ (a b : List ℕ). a ++ b) p.gathered.owed here.3.owed ∙ append_assoc first.view.dues.owed (cells_in added) (cells_in s.added.items)
          ∙ ap (λ (l : List ℕ). first.view.dues.owed ++ l) (sym (cells_both added s.added.items));
      vertices = All-append (IsVertex g.world now.view.front) added s.added.items (vertices_later g.world mid.view.front now.view.front added on p.gathered.vertices)
          (vertices_later g.world s.seat.view.front now.view.front s.added.items from here.3.vertices);
      drawn = All-append (λ (v : OpenVertex). IsWhole (flat g.world) (state_of now.view.front) v.cell) p.taken here.0
          (all_whole_later g.world mid.view.front now.view.front p.taken on p.gathered.drawn) (all_whole_later g.world s.seat.view.front now.view.front here.0 from here.3.drawn);
      counted = ap₂ (λ a b. a + b) p.gathered.counted here.3.counted ∙ sym (sum_by-append (arrows_of g.world.space) p.taken here.0);
    };
    within = let l = shorter in let w = p.within in omega arith;
  }
    where
      stake : now.view.stake ≡ first.view.stake + (count - length later)
      stake =
          let a : now.view.stake ≡ mid.view.stake + s.seat.view.stake = ap (λ (v : WideView). v.stake) step.is in
          let b = p.gathered.stake in
          let c = here.3.stake in
          let l = shorter in
          let w = p.within in
          omega arith

-- all came back
pub gathered_all : (g : WideGraphValue) (first now : WideSeatValue) (waiting : List OpenVertex) (count : ℕ) (shares : List (Result Share Stop)) (added : List OpenVertex) (arrows : ℕ) → shares ≡ []
    → IsGathering g first now waiting count shares added arrows → IsGathered g first now waiting count added arrows
gathered_all g first now waiting count shares added arrows none p =
    subst (λ (n : ℕ). IsGathered g first now waiting n added arrows) all (subst (λ (l : List OpenVertex). IsGathered g first now l (count - length shares) added arrows) (sym taken) p.gathered)
  where
    empty : p.rest ≡ []
    empty = subst (λ (l : List (Result Share Stop)). AreBack g first.view.front p.rest l) none p.back

    taken : waiting ≡ p.taken
    taken = p.parts ∙ ap (λ (l : List OpenVertex). p.taken ++ l) empty ∙ append-nil p.taken

    all : count - length shares ≡ count
    all = let l : length shares ≡ 0 = ap length none in omega arith
