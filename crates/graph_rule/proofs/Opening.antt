-- The table at the start: no event, and one seat that has everything.
use Rattle.std.proofs.Common.{◌≡◌, refl, ap, ◌∙◌, ℕ, ◌+◌, ◌<◌, nat_eq, List, [], ◌∷◌, length, get_or, replicate, slice_index, arith}
use Rattle.std.proofs.lemmas.List.{get_or-replicate, length-replicate}
use Rattle.list_facts.proofs.Lists.{nothing_in, none_twice}
use Rattle.tensor_words.specs.Worlds.{WorldType, IsWorld}
use Rattle.graph_history.specs.History.{empty_state, state_of, caller_of}
use Rattle.graph_history.specs.Notes.{no_dues}
use Rattle.graph_history.specs.ArrowRows.{edge_place}
use Rattle.graph_history.proofs.ArrowPlaces.{edge_fits}
use Rattle.graph_history.proofs.Histories.{legal_empty}
use Rattle.shared_seats.proofs.Opening.{first_sound, each, opens as seats_open}
use Rattle.graph_rule.specs.Layout.{word_count, IsLaid}
use Rattle.graph_rule.specs.Rule.{whole, IsDues, IsKnown, IsComplete, Owes, IsRunning}
use Rattle.graph_rule.specs.Parting.{first_view}
use Rattle.graph_rule.proofs.Sums.{due_live}

first_dues : (w : WorldType) → IsDues (state_of (first_view w).front) (first_view w).dues
first_dues w = record { owed = λ c has. absurd (nothing_in c has); among = λ c has. has; once = none_twice nat_eq; pledge = omega arith }

pub first_known : (w : WorldType) → IsWorld w → IsKnown (first_view w)
first_known w is = record { sound = first_sound whole caller_of w no_dues (omega arith); world = is; legal = legal_empty w; dues = first_dues w }

pub first_complete : (w : WorldType) → IsComplete (first_view w)
first_complete w all = record { vertices = λ c x there. cc; debts = refl }

module _ (w : WorldType) (is : IsWorld w) (words : List ℕ) (n : ℕ) (count : n ≡ word_count w) (zeros : words ≡ replicate n 0) where
  zero_at : (k : ℕ) → k < word_count w → slice_index words k ≡ 0
  zero_at k below = ap (λ (l : List ℕ). get_or l k 0) zeros ∙ get_or-replicate n k 0 0 (omega arith)

  laid_first : IsLaid w words empty_state
  laid_first = record {
    count = ap length zeros ∙ length-replicate n 0 ∙ count;
    debts = zero_at 0 (omega arith);
    cells = λ c below. zero_at (1 + c) (omega arith);
    edges = λ c a below arrow. let fits = edge_fits w w.cells c a below arrow in zero_at (1 + w.cells + edge_place w.space.cartan.rank c a) (omega arith);
  }

  pub opens : IsRunning w words (first_view w ∷ [])
  opens = record {
    history = [];
    seated = seats_open whole caller_of w no_dues (omega arith);
    payer = λ c. 0;
    world = is;
    legal = legal_empty w;
    laid = laid_first;
    placed = λ c x there. cc;
    owing = each whole caller_of w no_dues (omega arith) (λ id v. Owes (λ c. 0) id v) (record { dues = first_dues w; pays = λ c has. refl });
    counted = let d = due_live (first_view w) (omega arith) in omega arith;
    covered = λ c x there. cc;
  }
