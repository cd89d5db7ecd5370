-- The first jobs have their parts.
use Rattle.std.proofs.Common.{◌≡◌, ◌≤◌, [], vec_capacity}
use Rattle.wide_growth.proofs.Dealing.{IsDealing}
use Rattle.wide_growth.proofs.deal.deal.Given as goal

abbrev pub invariant-workers : goal.invariant-workers
invariant-workers l = record {
  dealing : IsDealing l.graph l.fn.seat l.seat l.waiting l.rest l.worker l.jobs.items;
  all : l.worker ≡ l.growers → l.rest ≡ [];
  room : l.growers ≤ vec_capacity l.jobs;
}
