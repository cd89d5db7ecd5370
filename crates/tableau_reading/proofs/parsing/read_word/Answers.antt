use Rattle.std.proofs.Common.{◌∙◌, ◌<◌, ◌≤◌, sym, ap, length, arith}
use Rattle.text_pieces.specs.Pieces.{words}
use Rattle.tensor_words.proofs.SpaceWords.{length_word}
use Rattle.tableau_reading.proofs.WordTexts.{word_read-whole, word_read-length}
use Rattle.tableau_reading.proofs.TokenSteps.{token_taken, token_refused, read_ends}
use Rattle.tableau_reading.proofs.parsing.read_word.Goals as goal

pub returns-then-count_words-from-clause-exact : goal.returns-then-count_words-from-clause-exact
returns-then-count_words-from-clause-exact c = word_read-length c.args.space.now (words c.args.text.now) (λ same. omega arith)

pub returns-in_default-token_digit-clause-exact : goal.returns-in_default-token_digit-clause-exact
returns-in_default-token_digit-clause-exact c =
    let whole = word_read-whole c.args.space.now (words c.args.text.now) (omega arith) in
    let here : c.places.place < length c.args.space.now.factors = omega arith in
    let digit = rw (c.cartan.ensures.cartan, c.factor-factor.ensures.factor) at c.token_digit.ensures.value in
    let fault = rw (c.factor-factor.ensures.factor, c.from-in_default-token_digit.ensures) at c.bad_token.ensures in
    token_refused c.args.space.now (words c.args.text.now) (words c.places.rest.now) (words c.in-Some.found.1.now) c.in-Some.found.0.now
    c.places.place c.places.word c.bad_token.result here c.in-Some.ensures.words (sym c.in_default-token_digit.is ∙ digit) fault c.places.invariant.read
    ∙ sym whole

pub places-preserved : goal.places-preserved
places-preserved c =
    let here : c.places.place < length c.args.space.now.factors = omega arith in
    let size = length_word c.args.space.now c.places.word c.places.invariant.word in
    let digit = rw (c.cartan.ensures.cartan, c.factor-factor.ensures.factor) at c.token_digit.ensures.value in
    let cut = ap (λ ws. length ws) c.in-Some.ensures.words in
    record {
      read = token_taken c.args.space.now (words c.args.text.now) (words c.places.rest.now) (words c.in-Some.found.1.now) c.in-Some.found.0.now
          c.places.place c.places.word c.put-word.result c.in-Some-token_digit.digit here (omega (arith, size, here)) c.in-Some.ensures.words
          (sym c.in-Some-token_digit.is ∙ digit) c.put-word.ensures.put c.places.invariant.read;
      left = omega (arith, cut, c.places.invariant.left);
      word = c.put-word.ensures.word;
    }

pub returns-clause-exact : goal.returns-clause-exact
returns-clause-exact c =
    let whole = word_read-whole c.args.space.now (words c.args.text.now) (omega arith) in
    let size = length_word c.args.space.now c.places.word c.places.invariant.word in
    let last : length c.args.space.now.factors ≤ c.places.place = omega arith in
    read_ends c.args.space.now (words c.args.text.now) (words c.places.rest.now) c.places.place c.places.word last (omega (arith, size, last)) c.places.invariant.read
    ∙ sym whole
