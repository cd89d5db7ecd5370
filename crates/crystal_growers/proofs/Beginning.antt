-- What a growth goes on with once it has begun.
use Rattle.std.proofs.Common.{◌≡◌, sym, ap, subst, ◌∙◌, ℕ, nat_eq, List, [], get_or, All, Contains}
use Rattle.std.specs.List.{IsDistinct}
use Rattle.std.proofs.lemmas.List.Elements.{All-weaker, All-contains, All-contains_itself, Contains-append_right}
use Rattle.graph_history.specs.declared.event.Event.{Event}
use Rattle.graph_history.specs.Views.{View}
use Rattle.graph_history.specs.History.{state_of, HasSome}
use Rattle.graph_rule.specs.Rule.{IsPrefix}
use Rattle.graph_rule.specs.Values.{GraphValue, SeatValue, Belongs}
use Rattle.graph_rule.proofs.Views.{some_prefix}
use Rattle.crystal_growers.specs.declared.grower.Start.{Start}
use Rattle.crystal_growers.specs.Drawing.{CanDraw, IsWaiting}
use Rattle.crystal_growers.specs.Gathering.{AreStarts}
use Rattle.crystal_growers.specs.Growth.{HasBegun}
use Rattle.crystal_growers.proofs.Parts.{rest_has, distinct_split}
use Rattle.crystal_growers.proofs.Waiting.{waits_none}

-- nothing waits at the seats of growers that begin
pub starts_free : {J : Type 0} (g : GraphValue) (front : List Event) (starts : List (Start J)) → AreStarts g front starts → All (λ (s : Start J). IsWaiting g [] s.seat × (s.bench.away ≡ [])) starts
starts_free g front starts are = λ k d below. let s = are.each k d below in (waits_none g (get_or starts k d).seat s.belongs s.known s.dues, s.apart.away)

-- the cells that were not loaded
module _ {J : Type 0} (g : GraphValue) (v m : SeatValue) (cells rest : List ℕ) (growers : ℕ) (starts : List (Start J)) (can : CanDraw g cells v) (b : HasBegun g v m cells rest growers starts) where
  in_rest : (c : ℕ) → Contains rest c → Contains cells c
  in_rest c h = subst (λ (l : List ℕ). Contains l c) (sym b.cells_are) (Contains-append_right b.loaded rest c h)

  apart : IsDistinct nat_eq b.loaded × IsDistinct nat_eq rest × ((c : ℕ) → Contains b.loaded c → Contains rest c → ⊥)
  apart = distinct_split b.loaded rest (subst (λ (l : List ℕ). IsDistinct nat_eq l) b.cells_are can.once)

  pub rest_once : IsDistinct nat_eq rest
  rest_once = apart.1

  pub rest_there : All (HasSome (state_of m.view.front)) rest
  rest_there = All-weaker (Contains rest) (HasSome (state_of m.view.front))
      (λ c h. subst (λ (x : View). HasSome (state_of x.front) c) (sym b.view) (All-contains (HasSome (state_of v.view.front)) cells c can.there (in_rest c h))) rest (All-contains_itself rest)

  pub rest_unpaid : (c : ℕ) → Contains rest c → Contains m.view.dues.unpaid c
  rest_unpaid c h = subst (λ (x : View). Contains x.dues.unpaid c) (sym b.view) (rest_has b.loaded v.view.dues.unpaid c (can.unpaid c (in_rest c h)) (λ there. apart.2 c there h))

  pub mid_belongs : Belongs m g
  mid_belongs = record { table = b.table ∙ can.belongs.table; world = ap (λ (x : View). x.world) b.view ∙ can.belongs.world }

  pub mid_pledge : m.view.dues.pledge ≡ 0
  mid_pledge = ap (λ (x : View). x.dues.pledge) b.view ∙ can.pledge

  pub mid_starts : AreStarts g m.view.front starts
  mid_starts = subst (λ (f : List Event). AreStarts g f starts) (sym (ap (λ (x : View). x.front) b.view)) b.starts_are

-- vertices stay
pub there_later : (f h : List Event) (cells : List ℕ) → IsPrefix f h → All (HasSome (state_of f)) cells → All (HasSome (state_of h)) cells
there_later f h cells on there = All-weaker (HasSome (state_of f)) (HasSome (state_of h)) (λ c some. some_prefix f h c on some) cells there
