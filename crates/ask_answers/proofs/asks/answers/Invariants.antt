use Rattle.std.proofs.Common.{◌≡◌, ◌≤◌, length, take, vec_len, vec_capacity}
use Rattle.ask_answers.specs.Answers.{AreAnswers}
use Rattle.ask_answers.proofs.asks.answers.Given as goal

abbrev pub invariant-asks : goal.invariant-asks
invariant-asks l = record {
  last : l.place-end ≡ length l.asks;
  count : vec_len l.answers ≡ l.place;
  capacity : length l.asks ≤ vec_capacity l.answers;
  told : AreAnswers l.finished l.start (take l.place l.asks) l.answers.items;
}
