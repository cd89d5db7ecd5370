use Rattle.std.proofs.Common.{ap}
use Rattle.crystal_cartan.specs.Types.{CartanType}
use Rattle.tensor_words.specs.Spaces.{SpaceType}
use Rattle.crystal_streams.specs.Lines.{ended}
use Rattle.answer_text.specs.Modes.{census_line}
use Rattle.answer_text.specs.Answers.{tableaux_part}
use Rattle.answer_text.proofs.Wholes.{census_is}
use Rattle.answer_text.proofs.Printed.{prints_as, prints_then, prints_short, prints_failed}
use Rattle.answer_text.proofs.censuses.print_census.Goals as goal

pub returns-in_err-print_census_head : goal.returns-in_err-print_census_head
returns-in_err-print_census_head g c =
    prints_failed _ c.from_residual.ensures.1
    (prints_as (census_is c.args.shape.now c.args.codes.now)
    (prints_short _ (prints_short _ (prints_as (ap (λ (t : CartanType). ended (census_line t)) c.cartan.ensures.cartan) c.in_err-print_census_head.ensures))))

pub returns-in_err-print_tableaux_or_full : goal.returns-in_err-print_tableaux_or_full
returns-in_err-print_tableaux_or_full g c =
    prints_failed _ c.from_residual-in_err-print_tableaux_or_full.ensures.1
    (prints_as (census_is c.args.shape.now c.args.codes.now)
    (prints_short _ (prints_then (prints_as (ap (λ (t : CartanType). ended (census_line t)) c.cartan.ensures.cartan) c.in_ok-print_census_head.ensures) (prints_as (ap (λ (s : SpaceType). tableaux_part s c.args.codes.now) c.space.ensures.space) c.in_err-print_tableaux_or_full.ensures))))

pub returns : goal.returns
returns g c =
    prints_as (census_is c.args.shape.now c.args.codes.now)
    (prints_then (prints_then (prints_as (ap (λ (t : CartanType). ended (census_line t)) c.cartan.ensures.cartan) c.in_ok-print_census_head.ensures) (prints_as (ap (λ (s : SpaceType). tableaux_part s c.args.codes.now) c.space.ensures.space) c.in_ok-print_tableaux_or_full.ensures)) c.print_end.ensures)
