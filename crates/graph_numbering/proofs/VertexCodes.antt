-- The codes of a settled seat's front, as an ascending list.
use Rattle.std.proofs.Common.{◌≡◌, sym, ap, subst, ◌∙◌, ℕ, ◌+◌, ◌<◌, ◌≤◌, ◌⊎◌, inl, inr, List, [], ◌∷◌, ◌++◌, length, length-append, Option, Some, None, Contains, below_more, arith}
use Rattle.std.specs.Prelude.{All}
use Rattle.std.specs.List.Retain.{IsFiltered, DiffersFromLast}
use Rattle.std.specs.List.Sorted.{IsPermutation, IsSorted}
use Rattle.std.specs.Ordering.{nat_cmp}
use Rattle.std.proofs.lemmas.List.Elements.{Contains-get_or, Contains-push, Contains-push_cases, Contains-append_left}
use Rattle.std.proofs.lemmas.List.Filters.{dedup_is}
use Rattle.std.proofs.lemmas.List.Kept.{Contains-dedup_nat, Contains-from_dedup}
use Rattle.std.proofs.lemmas.List.Sorted.{Contains-permutation, IsPermutation-sym}
use Rattle.std.proofs.lemmas.Map.Keys.{IsStrictlyIncreasing-dedup}
use Rattle.std.proofs.Math.Dec.{eqb}
use Rattle.crystal_cartan.specs.declared.types.Arrow.{Arrow}
use Rattle.tensor_words.specs.Spaces.{size}
use Rattle.tensor_words.specs.Operators.{op}
use Rattle.tensor_words.specs.Worlds.{WorldType}
use Rattle.graph_history.specs.declared.event.Event.{Event}
use Rattle.graph_history.specs.History.{State, state_of, vertex_at, HasVertex, HasCode, IsTarget, IsLegal, IsClosed}
use Rattle.graph_history.specs.Laws.{IsCodeList}
use Rattle.graph_history.proofs.Histories.{one_code}
use Rattle.graph_history.proofs.SoundStates.{sound}
use Rattle.canonical_graph.specs.Graphs.{IsClosedList}

-- the codes of the cells below one, in the order of their cells
pub record IsCollecting (s : State) (cell : ℕ) (codes : List ℕ) (capacity cells : ℕ) : Type 0 where
  pub fits : length codes ≤ cell
  pub room : cells ≤ capacity
  pub found : (x : ℕ) → Contains codes x → HasCode s x
  pub all : (c : ℕ) → c < cell → (x : ℕ) → HasVertex s c x → Contains codes x

pub collects_none : (s : State) (codes : List ℕ) (capacity cells : ℕ) → codes ≡ [] → cells ≤ capacity → IsCollecting s 0 codes capacity cells
collects_none s codes capacity cells none room = record {
  fits = let short = ap length none in omega arith;
  room = room;
  found = λ x has. let in_none : Contains {X = ℕ} [] x = subst (λ (l : List ℕ). Contains l x) none has in absurd (omega (arith, in_none.1));
  all = λ c below. absurd (omega arith);
}

module _ (s : State) (cell : ℕ) (codes : List ℕ) (capacity cells : ℕ) (k : IsCollecting s cell codes capacity cells) where
  pub collects_empty : vertex_at s.vertices cell ≡ None → IsCollecting s (cell + 1) codes capacity cells
  collects_empty none = record {
    fits = omega (arith, k.fits);
    room = k.room;
    found = k.found;
    all = below_more (λ c. (x : ℕ) → HasVertex s c x → Contains codes x) cell k.all (λ x there. cc);
  }

  pub collects_more : (code : ℕ) (more : List ℕ) (later : ℕ) → vertex_at s.vertices cell ≡ Some code → more ≡ codes ++ code ∷ [] → later ≡ capacity → IsCollecting s (cell + 1) more later cells
  collects_more code more later here is same = subst (λ (l : List ℕ). IsCollecting s (cell + 1) l later cells) (sym is) (record {
    fits = omega (arith, k.fits, length-append codes (code ∷ []));
    room = omega (arith, k.room, same);
    found = λ x has. found x (Contains-push_cases codes code x has);
    all = below_more (λ c. (x : ℕ) → HasVertex s c x → Contains (codes ++ code ∷ []) x) cell (λ c below x there. Contains-append_left codes (code ∷ []) x (k.all c below x there))
        (λ x there. let own : code ≡ x = cc in subst (λ (y : ℕ). Contains (codes ++ code ∷ []) y) own (Contains-push codes code));
  })
    where
      found : (x : ℕ) → Contains codes x ⊎ (code ≡ x) → HasCode s x
      found x (inl has) = k.found x has
      found x (inr same) = (cell, here ∙ ap (λ (y : ℕ). Some y) same)

-- sorted, each once
pub codes_listed : (w : WorldType) (h : List Event) (codes sorted once : List ℕ) (capacity : ℕ) → IsLegal w h → IsCollecting (state_of h) w.cells codes capacity w.cells
    → IsPermutation codes sorted → IsSorted nat_cmp sorted → IsFiltered (DiffersFromLast eqb) [] sorted once → IsCodeList (state_of h) once
codes_listed w h codes sorted once capacity legal k moved rise filtered =
    subst (λ (l : List ℕ). IsCodeList (state_of h) l) (sym (dedup_is eqb sorted once filtered)) (record {
      ascending = IsStrictlyIncreasing-dedup sorted rise;
      vertices = λ x has. k.found x (Contains-permutation sorted codes x (IsPermutation-sym codes sorted moved) (Contains-from_dedup eqb sorted x has));
      all = λ x there. Contains-dedup_nat sorted x (Contains-permutation codes sorted x moved (k.all there.0 ((sound w h legal).below there.0 x there.1) x there.1));
    })

-- a finished graph can be made of them
module _ (w : WorldType) (h : List Event) (codes : List ℕ) (legal : IsLegal w h) (list : IsCodeList (state_of h) codes) where
  pub codes_below : All (λ c. c < size w.space) codes
  codes_below = λ k d below.
      let code = Contains-get_or codes k d below in
      let there = list.vertices _ code in
      (sound w h legal).words there.0 _ there.1

  pub codes_closed : IsClosed w (state_of h) → IsClosedList w.space codes
  codes_closed closed = λ a c d has arrow leads.
      let there = list.vertices c has in
      let drawn = closed there.0 (c, there.1) a arrow in
      let target = (sound w h legal).simple.targets there.0 a drawn.0 drawn.1 in
      let same : target.0 ≡ c = one_code (state_of h) there.0 target.0 c target.1 there.1 in
      led d a c leads drawn.0 (subst (λ (y : ℕ). IsTarget w (state_of h) a y drawn.0) same target.2)
    where
      led : (d : ℕ) (a : Arrow) (c : ℕ) → op w.space a c ≡ Some d → (t : Option ℕ) → IsTarget w (state_of h) a c t → Contains codes d
      led d a c leads None none = cc
      led d a c leads (Some t) (x, is, there) = let same : x ≡ d = cc in list.all d (t, subst (λ (y : ℕ). HasVertex (state_of h) t y) same there)
