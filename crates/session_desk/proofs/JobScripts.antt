-- The scripts of a job ask what may be asked of its world.
use Rattle.std.proofs.Common.{◌≤◌, refl, sym, subst, zero, suc, List, [], ◌∷◌, ◌++◌, length, get_or, All, Contains, arith}
use Rattle.std.specs.List.{flat_map}
use Rattle.std.proofs.lemmas.List.Concat.{flat_map-cons}
use Rattle.std.proofs.lemmas.List.Elements.{Contains-append_left, Contains-append_right, Contains-get_or}
use Rattle.job_text.specs.declared.commands.Command.{Command}
use Rattle.job_text.specs.declared.commands.Command.TheVariants.{Add, Find, Look, Move, Wt, Eps, Phi, Done}
use Rattle.job_text.specs.declared.jobs.Job.{Job}
use Rattle.job_text.specs.Jobs.{IsCommand, IsJob, added_code, added_codes}
use Rattle.job_text.proofs.Ascending.{ascending_has}
use Rattle.session_desk.specs.Sessions.{IsAsked}

-- what one of the lists has, they have in turn
in_turn : {X Y : Type 0} (f : X → List Y) (xs : List X) (x : X) (y : Y) → Contains xs x → Contains (f x) y → Contains (flat_map f xs) y
in_turn f [] x y (k, below, is) inside = absurd (omega arith)
in_turn {Y = Y} f (z ∷ zs) x y (zero, below, is) inside =
    rw (flat_map-cons f z zs) (Contains-append_left (f z) (flat_map f zs) y (subst (λ w. Contains (f w) y) (sym is) inside))
in_turn f (z ∷ zs) x y (suc k, below, is) inside =
    rw (flat_map-cons f z zs) (Contains-append_right (f z) (flat_map f zs) y (in_turn f zs x y (k, omega arith, is) inside))

command_asked : (j : Job) (script : List Command) (c : Command) → IsJob j → Contains j.scripts script → Contains script c → IsCommand j.world.space c → IsAsked j.world c
command_asked j script (Add x) is among there fits =
    let own : Contains (added_codes script) x = in_turn added_code script (Add x) x there (zero, omega arith, refl) in
    subst (λ roots. Contains roots x) (sym is.roots) (ascending_has (j.starts ++ flat_map added_codes j.scripts) x
    (Contains-append_right j.starts (flat_map added_codes j.scripts) x (in_turn added_codes j.scripts script x among own)))
command_asked j script (Find x) is among there fits = fits
command_asked j script (Look a x) is among there fits = fits
command_asked j script (Move a x) is among there fits = fits
command_asked j script (Wt x) is among there fits = fits
command_asked j script (Eps i x) is among there fits = fits
command_asked j script (Phi i x) is among there fits = fits
command_asked j script Done is among there fits = tt

pub scripts_asked : (j : Job) → IsJob j → All (All (IsAsked j.world)) j.scripts
scripts_asked j is k d below m e within =
    command_asked j (get_or j.scripts k d) (get_or (get_or j.scripts k d) m e) is
    (Contains-get_or j.scripts k d below) (Contains-get_or (get_or j.scripts k d) m e within) ((is.scripts k d below).0 m e within)

pub scripts_short : (j : Job) → IsJob j → All (λ (script : List Command). length script ≤ 4096) j.scripts
scripts_short j is k d below = (is.scripts k d below).1
