-- A grower's parcels, one after another.
use Rattle.std.proofs.Common.{◌≡◌, sym, ap, subst, ◌∙◌, ℕ, ◌<◌, inl, inr, List, [], ◌∷◌, ◌++◌, Option, Some, None, Result, Ok, Err, Contains, append-nil}
use Rattle.graph_rule.specs.Rule.{IsKnown}
use Rattle.graph_rule.specs.Parting.{hand_left}
use Rattle.graph_rule.specs.Values.{GraphValue, SeatValue, Belongs}
use Rattle.graph_rule.proofs.Composing.{went_grows}
use Rattle.parcel_deques.specs.declared.parcel.Slip.{Slip}
use Rattle.parcel_deques.specs.Lists.{weigh, SameItems}
use Rattle.parcel_deques.specs.Benches.{BenchValue, FoundOwnEmpty}
use Rattle.crystal_growers.specs.declared.grower.Ending.{Ending}
use Rattle.crystal_growers.specs.declared.grower.Ending.TheVariants.{Done, Spent, NoMemory}
use Rattle.crystal_growers.specs.declared.grower.Ready.{Ready}
use Rattle.crystal_growers.specs.declared.grower.Stopped.{Stopped}
use Rattle.crystal_growers.specs.Drawing.{HasDrawn, IsWaiting}
use Rattle.crystal_growers.specs.Grower.{HasWorked, HasPushed, HasOffered, HasRun, IsWorking, HasSwept, GoesOn, HasStopped, HasFailed, IsParcelRun, IsOffered, IsDrawnBack, IsEndingOf}
use Rattle.crystal_growers.proofs.Histories.{never_added}
use Rattle.crystal_growers.proofs.Acting.{acted_then, acted_back, acted_drawn, acted_handed, owes_handed, works_none, works_then, works_drawn, offers_works}
use Rattle.crystal_growers.proofs.Serving.{served_none, served_then, served_taken, served_pushed}

-- cells were loaded as a parcel
pub offer_loaded : (g : GraphValue) (s now : SeatValue) (b next : BenchValue) (cells part : List ℕ) (x : Slip) → Belongs s g → s.view.dues.pledge ≡ 0 → now.table ≡ s.table → now.view ≡ hand_left 1 1 part s.view → IsKnown now.view → 1 < s.view.stake
    → HasPushed b next (x ∷ []) → x.stake ≡ 1 → ((c : ℕ) → Contains part c → Contains cells c) → HasOffered g s now b next cells
offer_loaded g s now b next cells part x belongs pledge table is known some pushed one within = record {
  given = x ∷ [];
  pushed = pushed;
  acted = acted_handed g s now x part belongs pledge table is known one some;
  owes = λ c h. elim (owes_handed s now part c is h) [ inl still ↦ inl still | inr here ↦ inr (within c here) ];
}

-- the parcel came back, and its seat joined again
pub offer_refused : (g : GraphValue) (s cut now : SeatValue) (b next : BenchValue) (cells part : List ℕ) (x : Slip) → Belongs s g → s.view.dues.pledge ≡ 0 → cut.table ≡ s.table → cut.view ≡ hand_left 1 1 part s.view → IsKnown cut.view → 1 < s.view.stake
    → next ≡ b → x.stake ≡ 1 → ((c : ℕ) → Contains part c → Contains cells c) → HasWorked g cut now (x ∷ []) [] → HasOffered g s now b next cells
offer_refused g s cut now b next cells part x belongs pledge table is known some same one within back = record {
  given = [];
  pushed = same ∙ (λ i. record b { pushed = sym (append-nil b.pushed) i });
  acted = acted_back g s now x (acted_then g s cut now [] (x ∷ []) (x ∷ []) [] (acted_handed g s cut x part belongs pledge table is known one some) back.acted);
  owes = λ c h. elim (owes_handed s cut part c is h) [ inl still ↦ inl (back.owes c (inl still)) | inr here ↦ inr (within c here) ];
}

-- a parcel was run: its seat joined, its cells were drawn, and those that were added offered
pub has_run : (g : GraphValue) (s mid d r : SeatValue) (b next : BenchValue) (x : Slip) (added : List ℕ) (full : Option ℕ) → HasWorked g s mid (x ∷ []) [] → HasDrawn x.cells mid d added full → HasOffered g d r b next added → HasRun g s r b next x
has_run g s mid d r b next x added full j h o = record {
  given = o.given;
  pushed = o.pushed;
  worked = record {
    acted = acted_then g s mid r (x ∷ []) [] [] o.given j.acted (acted_then g mid d r [] [] [] o.given (acted_drawn g mid d x.cells added full j.acted.belongs h) o.acted);
    owes = λ c k. elim (o.owes c ((works_drawn g mid d x.cells added full j.acted.belongs h).owes c (inl (j.owes c k)))) [ inl still ↦ still | inr new ↦ absurd (not_new c (j.owes c k) new) ];
  };
}
  where
    not_new : (c : ℕ) → Contains mid.view.dues.owed c → Contains added c → ⊥
    not_new c owed new =
        never_added mid.view.world mid.view.number mid.view.front d.view.front h.acts c (went_grows mid.view d.view h.acts d.view.dues h.worked.went) (subst (λ (l : List ℕ). Contains l c) h.listed new) (j.acted.known.dues.owed c owed)

-- for want of memory it was not drawn
pub has_joined : (g : GraphValue) (s mid : SeatValue) (b : BenchValue) (x : Slip) → HasWorked g s mid (x ∷ []) [] → HasRun g s mid b b x
has_joined g s mid b x j = record { given = []; pushed = λ i. record b { pushed = sym (append-nil b.pushed) i }; worked = j }

pub run_of : (g : GraphValue) (s mid d : SeatValue) (b next : BenchValue) (x : Slip) (added : List ℕ) (full : Option ℕ) (r : Result Ready Stopped) → HasWorked g s mid (x ∷ []) [] → HasDrawn x.cells mid d added full → IsOffered g d added b next r → IsParcelRun g s b next x r
run_of g s mid d b next x added full (Ok r) j h (offered, waits) = (has_run g s mid d r.seat b next x added full j h offered, waits)
run_of g s mid d b next x added full (Err r) j h (offered, failed) = (has_run g s mid d r.seat b next x added full j h offered, failed)

-- what came back was drawn besides
pub shared_of : (g : GraphValue) (d mid : SeatValue) (b next : BenchValue) (added : List ℕ) (r : Result Ready Stopped) → HasOffered g d mid b next added → IsDrawnBack g mid r → IsOffered g d added b next r
shared_of g d mid b next added (Ok r) o (worked, waits) = (offers_works g d mid r.seat b next added o worked, waits)
shared_of g d mid b next added (Err r) o (worked, failed) = (offers_works g d mid r.seat b next added o worked, failed)

-- work goes on
pub working_none : (g : GraphValue) (s : SeatValue) (b : BenchValue) → Belongs s g → IsKnown s.view → s.view.dues.pledge ≡ 0 → IsWorking g s s b b
working_none g s b belongs known pledge = record { got = []; given = []; worked = works_none g s belongs known pledge; served = served_none b }

module _ (g : GraphValue) (first s : SeatValue) (b0 b : BenchValue) (p : IsWorking g first s b0 b) where
  -- a parcel more was taken and run
  pub working_run : (r : SeatValue) (mid next : BenchValue) (x : Slip) → mid ≡ record b { taken = mid.taken; known = mid.known } → SameItems mid.taken (b.taken ++ x ∷ []) → HasRun g s r mid next x → IsWorking g first r b0 next
  working_run r mid next x is same h = record {
    got = p.got ++ x ∷ [];
    given = p.given ++ h.given;
    worked = works_then g first s r p.got p.given (x ∷ []) h.given p.worked h.worked;
    served = served_then b0 b next p.got p.given (x ∷ []) h.given p.served (served_then b mid next (x ∷ []) [] [] h.given (served_taken b mid x is same) (served_pushed mid next h.given h.pushed));
  }

  -- none was found
  pub working_known : (next : BenchValue) → next ≡ record b { taken = next.taken; known = next.known } → next.taken ≡ b.taken → Belongs s g → IsKnown s.view → s.view.dues.pledge ≡ 0 → IsWorking g first s b0 next
  working_known next is same belongs known pledge = record {
    got = p.got ++ [];
    given = p.given ++ [];
    worked = works_then g first s s p.got p.given [] [] p.worked (works_none g s belongs known pledge);
    served = served_then b0 b next p.got p.given [] [] p.served (record {
      is = is ∙ (λ i. record b { pushed = sym (append-nil b.pushed) i; taken = next.taken; known = next.known });
      taken = λ h. ap (λ (l : List Slip). weigh h l) (same ∙ sym (append-nil b.taken));
    });
  }

  -- the own deque was swept
  pub working_swept : (r : SeatValue) (next : BenchValue) → IsWorking g s r b next → IsWorking g first r b0 next
  working_swept r next q = record {
    got = p.got ++ q.got;
    given = p.given ++ q.given;
    worked = works_then g first s r p.got p.given q.got q.given p.worked q.worked;
    served = served_then b0 b next p.got p.given q.got q.given p.served q.served;
  }

pub swept_working : (g : GraphValue) (s r : SeatValue) (b next : BenchValue) → HasSwept g s r b next → IsWorking g s r b next
swept_working g s r b next h = record { got = h.got; given = []; worked = h.sweeping.worked; served = h.sweeping.served }

-- why it stops
pub none_stops : (g : GraphValue) (s : SeatValue) (b next : BenchValue) → IsWaiting g [] s → next ≡ record b { taken = next.taken; known = next.known } → next.taken ≡ b.taken → FoundOwnEmpty b → HasStopped g s next Done
none_stops g s b next free is same empty = (free, subst FoundOwnEmpty (sym (is ∙ (λ i. record b { taken = same i; known = next.known }))) empty)

pub failed_stops : (g : GraphValue) (s : SeatValue) (b : BenchValue) (e : Ending) → HasFailed s e → HasStopped g s b e
failed_stops g s b Done h = absurd h
failed_stops g s b (Spent x) h = h
failed_stops g s b NoMemory h = tt

pub swept_stops : (g : GraphValue) (s r : SeatValue) (b next : BenchValue) (full : Option ℕ) (e : Ending) → HasSwept g s r b next → GoesOn None g r full → IsEndingOf full e → HasStopped g r next e
swept_stops g s r b next None e h goes is = subst (λ (k : Ending). HasStopped g r next k) (sym is) (goes, h.empty)
swept_stops g s r b next (Some x) e h goes is = subst (λ (k : Ending). HasStopped g r next k) (sym is) goes
