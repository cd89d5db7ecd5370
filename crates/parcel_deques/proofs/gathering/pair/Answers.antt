-- First one bench takes over, then the other.
use Rattle.std.proofs.Common.{sym, ap, subst, ◌∙◌, ℕ, List, Contains}
use Rattle.parcel_deques.specs.Benches.{BenchValue}
use Rattle.parcel_deques.proofs.SwapSteps.{have_swapped}
use Rattle.parcel_deques.proofs.gathering.pair.Goals as goal

pub take_over-requires-2-clause-call : goal.take_over-requires-2-clause-call
take_over-requires-2-clause-call g c =
    ap (λ (b : BenchValue). b.call) c.take_over.ensures.one ∙ c.requires.call ∙ sym (ap (λ (b : BenchValue). b.call) c.take_over.ensures.other)

pub take_over-requires-2-clause-home : goal.take_over-requires-2-clause-home
take_over-requires-2-clause-home g c there =
    c.requires.two_home
    (subst (λ (n : ℕ). Contains c.args.two.now.home n) (ap (λ (b : BenchValue). b.number) c.take_over.ensures.one)
    (subst (λ (l : List ℕ). Contains l c.take_over.new.self.number) (ap (λ (b : BenchValue). b.home) c.take_over.ensures.other) there))

pub take_over-requires-2-clause-away : goal.take_over-requires-2-clause-away
take_over-requires-2-clause-away g c there =
    c.requires.one_away
    (subst (λ (n : ℕ). Contains c.args.one.now.away n) (ap (λ (b : BenchValue). b.number) c.take_over.ensures.other)
    (subst (λ (l : List ℕ). Contains l c.take_over.new.other.number) (ap (λ (b : BenchValue). b.away) c.take_over.ensures.one) there))

pub returns : goal.returns
returns g c =
    have_swapped c.args.one.now c.args.two.now c.take_over.new.self c.take_over.new.other c.take_over-2.new.other c.take_over-2.new.self
    (record { own = c.take_over.ensures.one; taken = c.take_over.ensures.taken; lent = c.take_over.ensures.other; away = c.take_over.ensures.away })
    (record { own = c.take_over-2.ensures.one; taken = c.take_over-2.ensures.taken; lent = c.take_over-2.ensures.other; away = c.take_over-2.ensures.away })
    c.requires.apart
