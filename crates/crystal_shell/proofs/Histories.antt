-- Graphs and replies of a run, as they are printed.
use Rattle.std.proofs.Common.{◌≡◌, ℕ, ◌<◌, ◌≤◌, List, [], ◌++◌, length, get_or, slice_index, slice_index_or, All, Contains, Some, None, refl, sym, subst, arith}
use Rattle.std.specs.List.{flat_map}
use Rattle.std.proofs.lemmas.List.Elements.{Contains-append_left, Contains-get_or}
use Rattle.tensor_words.specs.Spaces.{SpaceType}
use Rattle.tensor_words.specs.Reach.{IsComponentList, Outnumber, walk}
use Rattle.tensor_words.specs.Worlds.{WorldType}
use Rattle.canonical_graph.specs.Graphs.{FinishedType}
use Rattle.graph_history.specs.declared.event.Event.{Event}
use Rattle.job_text.specs.declared.commands.Ask.{Ask}
use Rattle.job_text.specs.declared.jobs.Job.{Job}
use Rattle.job_text.specs.Jobs.{IsAsk, IsJob}
use Rattle.session_desk.specs.declared.reply.Reply.{Reply}
use Rattle.session_desk.specs.Texts.{IsPrintable}
use Rattle.answer_text.specs.Answers.{ArePrintable}
use Rattle.graph_runs.specs.Runs.{EndsRun, closed, spent}
use Rattle.job_text.proofs.Starts.{starts_are_roots}

-- the graph of a world: its component list, whose words fit the cells
pub record IsGraph (w : WorldType) (f : FinishedType) : Type 0 where
  pub space : f.space ≡ w.space
  pub list : IsComponentList w f.codes
  pub fits : Outnumber w → ⊥

pub ended_graph : (w : WorldType) (front : List Event) (f : FinishedType) → EndsRun w front (Some f) → IsGraph w f
ended_graph w front f (closed codes all listed list fits) = record { space = refl; list = list; fits = fits }

pub ended_full : (w : WorldType) (front : List Event) → EndsRun w front None → Outnumber w
ended_full w front (spent none more) = more

-- the first start is a vertex
pub start_listed : (j : Job) (codes : List ℕ) (x : ℕ) → IsJob j → IsComponentList j.world codes → x ≡ slice_index j.starts 0 → Contains codes x
unfolding walk
start_listed j codes x is list first =
    list.complete x (record {
      root = x;
      rooted = subst (λ (c : ℕ). Contains j.world.roots c) (sym first) (starts_are_roots j is 0 0 (omega (arith, is.started)));
      path = [];
      arrows = tt;
      leads = refl;
    })

-- the replies of a job can be printed
pub told_are_printable : (s space : SpaceType) (n : ℕ) (told : List (List Reply)) → length told ≡ n → n ≤ 16 → s ≡ space
    → ((k : ℕ) → k < n → All (IsPrintable space) (slice_index_or told k [])) → ArePrintable s told
told_are_printable s space n told count few here printable = record {
  few = omega (arith, count, few);
  printable = λ k below.
      let within : k < n = omega (arith, below, count) in
      subst (λ (t : SpaceType). All (IsPrintable t) (slice_index_or told k [])) (sym here) (printable k within);
}

pub asks_of : (s space : SpaceType) (asks : List Ask) → s ≡ space → All (IsAsk space) asks → All (IsAsk s) asks
asks_of s space asks here all = subst (λ (t : SpaceType). All (IsAsk t) asks) (sym here) all
