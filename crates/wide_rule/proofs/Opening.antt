-- The table at the start: no event, and one seat that has everything.
use Rattle.std.proofs.Common.{◌≡◌, refl, ap, ◌∙◌, ℕ, ◌<◌, List, [], ◌∷◌, length, get_or, replicate, slice_index, Contains, arith}
use Rattle.std.proofs.lemmas.List.{get_or-replicate, length-replicate}
use Rattle.list_facts.proofs.Lists.{nothing_in}
use Rattle.graph_history.specs.History.{empty_state, state_of, HasSome, caller_of}
use Rattle.graph_history.proofs.ArrowPlaces.{edge_fits}
use Rattle.shared_seats.proofs.Opening.{first_sound, each, opens as seats_open}
use Rattle.wide_words.specs.WideHistory.{WideWorldType, IsWideWorld, flat}
use Rattle.wide_words.proofs.WideSound.{wide_empty}
use Rattle.wide_rule.specs.Layout.{cell_count, word_count, first_index, second_index, arrow_index, IsLaid, HasSeen}
use Rattle.wide_rule.specs.Rule.{whole, IsKnown, IsComplete, IsRunning, IsTrue}
use Rattle.wide_rule.specs.Parting.{nothing, first_view}
use Rattle.wide_rule.proofs.Sums.{due_live}

pub first_known : (w : WideWorldType) → IsWideWorld w → IsKnown (first_view w)
first_known w is = record { sound = first_sound whole caller_of w nothing (omega arith); world = is; legal = wide_empty w; owed = λ c has. absurd (nothing_in c has) }

pub first_complete : (w : WideWorldType) → IsComplete (first_view w)
first_complete w all = record { vertices = λ c x there. cc; counted = λ weigh. refl }

module _ (w : WideWorldType) (is : IsWideWorld w) (words : List ℕ) (n : ℕ) (count : n ≡ word_count w) (zeros : words ≡ replicate n 0) where
  zero_at : (k : ℕ) → k < word_count w → slice_index words k ≡ 0
  zero_at k below = ap (λ (l : List ℕ). get_or l k 0) zeros ∙ get_or-replicate n k 0 0 (omega arith)

  laid_first : IsLaid w words empty_state
  laid_first = record {
    count = ap length zeros ∙ length-replicate n 0 ∙ count;
    zero_word = zero_at 0 (omega arith);
    highs = λ c x there. cc;
    lows = λ c below. zero_at (second_index c) (omega arith);
    edges = λ c a below arrow. let fits = edge_fits (flat w) (cell_count w) c a below arrow in zero_at (arrow_index w c a) (omega arith);
  }

  pub opens : IsRunning w words (first_view w ∷ [])
  opens = record {
    history = [];
    seated = seats_open whole caller_of w nothing (omega arith);
    world = is;
    legal = wide_empty w;
    laid = laid_first;
    placed = λ c x there. cc;
    alone = λ c below some_word. absurd (some_word (zero_at (first_index c) (omega arith)));
    saw = each whole caller_of w nothing (omega arith) (λ k u. (c m : ℕ) → HasSeen u.dues.seen c m → IsTrue w words c m) (λ c m has. absurd (nothing_in _ has));
    owing = each whole caller_of w nothing (omega arith) (λ k u. (c : ℕ) → Contains u.dues.owed c → HasSome (state_of u.front) c) (λ c has. absurd (nothing_in c has));
    covered = λ c x there. cc;
    counted = λ weigh. let d = due_live weigh (first_view w) (omega arith) in omega arith;
  }
