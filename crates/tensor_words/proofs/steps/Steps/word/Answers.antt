use Rattle.std.proofs.Common.{◌≡◌, refl, ◌<◌, ◌-◌, ◌*◌, length, take, get_or, sym, ap, subst, ◌∙◌, arith}
use Rattle.tensor_words.specs.Spaces.{SpaceType, sizes, size}
use Rattle.tensor_words.specs.Codes.{code_of, word_of}
use Rattle.tensor_words.proofs.PlaceValues.{IsDigitOf, value_positive, split_digit, split_more, split_end}
use Rattle.tensor_words.proofs.SpaceWords.{length_sizes, sizes_at, code_back, IsWord-word_of}
use Rattle.tensor_words.proofs.steps.Steps.word.Goals as goal

pub quotient-digit-requires-clause-some : goal.quotient-digit-requires-clause-some
quotient-digit-requires-clause-some c =
    let s : SpaceType = c.self.inside.space in
    let lt : c.places.place < length s.factors = omega arith in
    value_positive (sizes s) c.places.digits c.places.place c.places.rest c.args.code (get_or c.self.inside.values c.places.place 0)
    c.places.invariant (omega (arith, length_sizes s)) (c.self.invariant.1.each c.places.place lt)

pub overflow_cast-digits : goal.overflow_cast-digits
overflow_cast-digits c =
    let s : SpaceType = c.self.inside.space in
    let lt : c.places.place < length s.factors = omega arith in
    let digit : IsDigitOf (sizes s) c.places.place c.places.rest c.quotient-digit.result (get_or c.self.inside.values c.places.place 0) =
    split_digit (sizes s) c.places.digits c.places.place c.places.rest c.args.code c.quotient-digit.result (get_or c.self.inside.values c.places.place 0)
    c.places.invariant (omega (arith, length_sizes s)) (c.self.invariant.1.each c.places.place lt) c.quotient-digit.ensures in
    omega (arith, digit.below, sizes_at s c.places.place lt, c.self.invariant.0.wide c.places.place lt, c.self.invariant.0.some.1)

pub places-preserved : goal.places-preserved
places-preserved c =
    let s : SpaceType = c.self.inside.space in
    let lt : c.places.place < length s.factors = omega arith in
    split_more (sizes s) c.places.digits c.places.place c.places.rest c.args.code c.quotient-digit.result (get_or c.self.inside.values c.places.place 0)
    (c.places.rest - c.quotient-digit.result * get_or c.self.inside.values c.places.place 0)
    c.places.invariant (omega (arith, length_sizes s)) (c.self.invariant.1.each c.places.place lt) c.quotient-digit.ensures refl

pub returns : goal.returns
unfolding word_of
returns c =
    let s : SpaceType = c.self.inside.space in
    let same : s ≡ c.args.self.now = c.self.view_is in
    let below : c.args.code < size s = subst (λ (t : SpaceType). c.args.code < size t) (sym same) c.requires in
    let end = split_end (sizes s) c.places.digits c.places.place c.places.rest c.args.code (omega (arith, length_sizes s)) c.places.invariant in
    let at : c.count.result ≡ c.places.place = omega arith in
    let here : c.of_digits.result ≡ word_of s c.args.code = c.of_digits.ensures ∙ ap (λ n. take n c.places.digits) at ∙ end.1 in
    let value : c.of_digits.result ≡ word_of c.args.self.now c.args.code = here ∙ ap (λ (t : SpaceType). word_of t c.args.code) same in
    record {
      value = value;
      word = rw value (IsWord-word_of c.args.self.now c.args.code c.requires);
      code = sym (ap (code_of c.args.self.now) value ∙ code_back c.args.self.now c.args.code c.requires);
    }
