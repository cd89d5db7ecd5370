use Rattle.std.proofs.Common.{◌≡◌, ◌<◌, ◌^◌, drop}
use Rattle.std.specs.Char.{is_ascii_digit}
use Rattle.std.specs.List.{list_all}
use Rattle.text_pieces.specs.Numbers.{value_from}
use Rattle.text_pieces.proofs.numbers.read_digits.Given as goal

abbrev pub invariant-loop-byte : goal.invariant-loop-byte
invariant-loop-byte l = record {
  same : list_all is_ascii_digit (drop l.byte-index l.word) ≡ list_all is_ascii_digit l.word;
  value : value_from l.value (drop l.byte-index l.word) ≡ value_from 0 l.word;
  below : l.value < 10 ^ l.byte-index;
}
