use Rattle.std.proofs.Common.{◌<◌, ◌^◌}
use Rattle.tableau_reading.proofs.SignTexts.{IsReadTo}
use Rattle.tableau_reading.proofs.parsing.signs_of.Given as goal

abbrev pub invariant-signs : goal.invariant-signs
invariant-signs l = record {
  read : IsReadTo l.text l.byte-index l.bits;
  below : l.bits < 2 ^ l.byte-index;
}
