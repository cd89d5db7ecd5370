use Rattle.std.proofs.Common.{◌<◌, length, arith}
use Rattle.tableau_reading.specs.Texts.{tokens, word_text}
use Rattle.tableau_reading.proofs.Spacing.{print_begins, word_printed, print_ends, printed_length, blank_length}
use Rattle.tableau_reading.proofs.WordTexts.{text_short, length-tokens, token_at}
use Rattle.tableau_reading.proofs.printing.print_word.Goals as goal

pub places-init : goal.places-init
places-init c = record {
  printed = print_begins c.args.out.now (tokens c.args.space.now c.args.word.now);
  last = c.count-place-end.ensures.count;
  space = c.count-place-end.ensures.space;
}

pub print_blank-requires : goal.print_blank-requires
print_blank-requires c =
    let ts = tokens c.args.space.now c.args.word.now in
    omega (arith, printed_length c.args.out.now c.places.out c.places.place ts c.places.invariant.printed, text_short c.args.space.now c.args.word.now c.places.invariant.space c.requires.word)

pub print_token-requires-clause-room : goal.print_token-requires-clause-room
print_token-requires-clause-room c =
    let ts = tokens c.args.space.now c.args.word.now in
    let before = printed_length c.args.out.now c.places.out c.places.place ts c.places.invariant.printed in
    let short = text_short c.args.space.now c.args.word.now c.places.invariant.space c.requires.word in
    let blank = blank_length c.places.out c.print_blank.new.out c.places.place c.print_blank.ensures in
    omega (arith, before, short, blank)

pub places-preserved : goal.places-preserved
places-preserved c =
    let ts = tokens c.args.space.now c.args.word.now in
    let size = length-tokens c.args.space.now c.args.word.now c.requires.word in
    let here : c.places.place < length c.args.space.now.factors = omega (arith, c.places.invariant.last) in
    record {
      printed = word_printed c.args.out.now c.places.out c.print_blank.new.out c.print_token.new.out _ c.places.place ts
          (omega (arith, size, here)) (token_at c.args.space.now c.args.word.now c.places.place c.requires.word here)
          c.print_blank.ensures c.print_token.ensures c.places.invariant.printed;
      last = c.places.invariant.last;
      space = c.places.invariant.space;
    }

pub returns-clause-text : goal.returns-clause-text
unfolding word_text
returns-clause-text c =
    let ts = tokens c.args.space.now c.args.word.now in
    let size = length-tokens c.args.space.now c.args.word.now c.requires.word in
    print_ends c.args.out.now c.places.out c.places.place ts (omega (arith, size, c.places.invariant.last)) c.places.invariant.printed

pub returns-clause-fits : goal.returns-clause-fits
returns-clause-fits c =
    let ts = tokens c.args.space.now c.args.word.now in
    omega (arith, printed_length c.args.out.now c.places.out c.places.place ts c.places.invariant.printed, text_short c.args.space.now c.args.word.now c.places.invariant.space c.requires.word)
