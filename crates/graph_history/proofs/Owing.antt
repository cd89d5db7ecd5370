-- Debts for unpaid cells.
use Rattle.std.proofs.Common.{◌≡◌, refl, sym, ap, subst, ◌∙◌, ℕ, ◌+◌, ◌-◌, ◌≤◌, ◌⊎◌, inl, inr, not, Bool, true, false, eqb-true, nat_eq, List, [], ◌∷◌, ◌++◌, length, Option, Some, None, Contains, length-append, arith}
use Rattle.std.specs.List.{IsDistinct}
use Rattle.std.proofs.lemmas.List.Elements.{Contains-push_cases, Contains-append_left, Contains-append_right}
use Rattle.std.proofs.lemmas.Map.Steps.{length-le_from_distinct_below}
use Rattle.list_facts.proofs.Lists.{filter_keeps}
use Rattle.crystal_cartan.specs.declared.types.Arrow.{Arrow}
use Rattle.tensor_words.specs.Worlds.{WorldType}
use Rattle.graph_history.specs.declared.event.Origin.{Origin}
use Rattle.graph_history.specs.declared.event.Origin.TheVariants.{Root, By}
use Rattle.graph_history.specs.declared.event.Act.{Act}
use Rattle.graph_history.specs.declared.event.Act.TheVariants.{Added, Drew}
use Rattle.graph_history.specs.declared.event.Event.{Event}
use Rattle.graph_history.specs.History.{State, empty_state, after, vertex_at, HasVertex, IsOrigin, IsWhole, HasSpareDebt}
use Rattle.graph_history.specs.Desks.{by, unpaid_then, unpaid_by, without}
use Rattle.graph_history.specs.Plain.{unpaid_from, unpaid_of, IsOwing}
use Rattle.graph_history.proofs.Histories.{stays_after, vertex_at-new, vertex_at-push}
use Rattle.graph_history.proofs.SoundStates.{IsSound}
use Rattle.graph_history.proofs.Counting.{unfinished_within}
use Rattle.graph_history.proofs.CellLists.{out_of, part_of, distinct_part, distinct_push, one_less}

-- unpaid cells after more events
pub unpaid_from-append : (cells : List ℕ) (f g : List Event) → unpaid_from cells (f ++ g) ≡ unpaid_from (unpaid_from cells f) g
unpaid_from-append cells [] g = refl
unpaid_from-append cells (e ∷ f) g = unpaid_from-append (unpaid_then cells e.act) f g

pub unpaid_push : (h : List Event) (e : Event) → unpaid_of (h ++ e ∷ []) ≡ unpaid_then (unpaid_of h) e.act
unpaid_push h e = unpaid_from-append [] h (e ∷ [])

unpaid_acts : (n : ℕ) (cells : List ℕ) (acts : List Act) → unpaid_from cells (by n acts) ≡ unpaid_by cells acts
unpaid_acts n cells [] = refl
unpaid_acts n cells (a ∷ acts) = unpaid_acts n (unpaid_then cells a) acts

pub unpaid_more : (n : ℕ) (h : List Event) (acts : List Act) → unpaid_of (h ++ by n acts) ≡ unpaid_by (unpaid_of h) acts
unpaid_more n h acts = unpaid_from-append [] h (by n acts) ∙ unpaid_acts n (unpaid_of h) acts

-- where words come from is no matter of debts
pub origin_debts : (w : WorldType) (s : State) (n x : ℕ) (o : Origin) → IsOrigin w s x o → IsOrigin w (record s { debts = n }) x o
origin_debts w s n x Root from = from
origin_debts w s n x (By c a) from = from

module _ (w : WorldType) where
  pub owing_none : IsOwing w empty_state []
  unfolding IsDistinct
  owing_none = record { counted = refl; once = tt; there = λ c among. absurd (omega (arith, among.1)); covered = λ c x h. cc }

  -- wholeness stays
  pub whole_after : (s : State) (act : Act) (c : ℕ) → IsWhole w s c → IsWhole w (after s act) c
  whole_after s act c whole a is = let drawn = whole a is in (drawn.0, (stays_after s act).arrows c a drawn.0 drawn.1)

  module _ (s : State) (cells : List ℕ) where
    pub owing_added : (c x : ℕ) (o : Origin) → IsOwing w s cells → vertex_at s.vertices c ≡ None
        → IsOwing w (after (record s { debts = s.debts + 1 }) (Added c x o)) (cells ++ c ∷ [])
    owing_added c x o O free = record {
      counted = ap (λ n. n + 1) O.counted ∙ sym (length-append cells (c ∷ []));
      once = distinct_push cells c O.once (λ among. let there = O.there c among in let e : None ≡ Some there.0 = sym free ∙ there.1 in cc);
      there = λ d among. elim (Contains-push_cases cells c d among) [
        | inl old ↦ let there = O.there d old in (there.0, (stays_after s (Added c x o)).vertices d there.0 there.1)
        | inr new ↦ (x, subst (λ (e : ℕ). vertex_at (s.vertices ++ record { cell = c; code = x } ∷ []) e ≡ Some x) new (vertex_at-new s.vertices (record { cell = c; code = x }) free))
      ];
      covered = λ d y there. elim (vertex_at-push s.vertices (record { cell = c; code = x }) d y there) [
        | inl old ↦ elim (O.covered d y old) [
          | inl whole ↦ inl whole
          | inr among ↦ inr (Contains-append_left cells (c ∷ []) d among)
        ]
        | inr new ↦ inr (Contains-append_right cells (c ∷ []) d (0, omega arith, new.0))
      ];
    }

    pub owing_drew : (c : ℕ) (a : Arrow) (t : Option ℕ) → IsOwing w s cells → IsOwing w (after s (Drew c a t)) cells
    owing_drew c a t O = record {
      counted = O.counted;
      once = O.once;
      there = O.there;
      covered = λ d x there. elim (O.covered d x there) [
        | inl whole ↦ inl (whole_after s (Drew c a t) d whole)
        | inr among ↦ inr among
      ];
    }

    -- a cell is paid for
    covered_without : (c : ℕ) → IsOwing w s cells → IsWhole w s c → (d x : ℕ) → HasVertex s d x → IsWhole w s d ⊎ Contains (without c cells) d
    covered_without c O whole d x there = by (nat_eq c d) refl
      where
        by : (b : Bool) → nat_eq c d ≡ b → IsWhole w s d ⊎ Contains (without c cells) d
        by true is = inl (subst (λ (e : ℕ). IsWhole w s e) (eqb-true c d is) whole)
        by false is = elim (O.covered d x there) [
          | inl other ↦ inl other
          | inr among ↦ inr (filter_keeps (λ e. not (nat_eq c e)) cells d among (ap not is))
        ]

    pub owing_settled : (c : ℕ) → IsOwing w s cells → Contains cells c → IsWhole w s c → IsOwing w (record s { debts = s.debts - 1 }) (without c cells)
    owing_settled c O among whole =
        let less : length (without c cells) + 1 ≡ length cells = one_less cells c O.once among in
        let all = O.counted in
        record {
          counted = omega arith;
          once = distinct_part (λ d. not (nat_eq c d)) cells O.once;
          there = λ d inside. O.there d (part_of (λ e. not (nat_eq c e)) cells d inside).0;
          covered = covered_without c O whole;
        }

    pub owing_spare : (c : ℕ) → IsSound w s → IsOwing w s cells → Contains cells c → IsWhole w s c → HasSpareDebt w s
    owing_spare c S O among whole =
        let less : length (without c cells) + 1 ≡ length cells = one_less cells c O.once among in
        let all = O.counted in
        let few = unfinished_within w s (without c cells) S (covered_without c O whole) in
        omega arith

    pub owing_few : IsSound w s → IsOwing w s cells → length cells ≤ w.cells
    owing_few S O = length-le_from_distinct_below cells w.cells O.once (λ q among. let there = O.there q (out_of cells q among) in S.below q there.0 there.1)
