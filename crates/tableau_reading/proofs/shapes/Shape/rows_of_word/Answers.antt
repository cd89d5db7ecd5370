use Rattle.std.proofs.Common.{◌≡◌, ◌<◌, ◌∙◌, sym, ap, ap₂, subst, length, get_or, length-set, w8, to_z, of_z, arith, rules}
use Rattle.std.proofs.lemmas.Int.{to_z-of_z}
use Rattle.crystal_cartan.specs.Types.{CartanType}
use Rattle.vector_crystals.specs.Letters.{IsLetter, letter_at, letter_count}
use Rattle.tensor_words.specs.Spaces.{SpaceType, size_at}
use Rattle.tableau_reading.specs.Shapes.{box_count}
use Rattle.tableau_reading.specs.Fillings.{filling_word}
use Rattle.tableau_reading.proofs.VectorSpaces.{vector_size}
use Rattle.tableau_reading.proofs.FilledRows.{AreLettersOf, letters_more, letters_of_more, word_listed, word_again}
use Rattle.tableau_reading.proofs.shapes.Shape.rows_of_word.Goals as goal

pub letter_of_digit-requires : goal.letter_of_digit-requires
letter_of_digit-requires c =
    let s = c.args.self.now in
    let lt : c.places.place < box_count c.args.self.now = omega (arith, c.places.invariant.last) in
    let below = subst (λ (space : SpaceType). c.digit_in.result < size_at space c.places.place) c.places.invariant.space c.digit_in.ensures.below in
    let small : c.digit_in.result < letter_count c.args.self.now.cartan = omega (arith, below, vector_size s c.places.place lt) in
    subst (λ (t : CartanType). c.digit_in.result < letter_count t) (sym c.places.invariant.cartan) small

pub places-preserved : goal.places-preserved
places-preserved c =
    let s = c.args.self.now in
    let x = to_z w8 (of_z w8 c.letter_of_digit.result.0) in
    let plain : to_z w8 (of_z w8 c.letter_of_digit.result.0) ≡ c.letter_of_digit.result.0 = to_z-of_z w8 c.letter_of_digit.result.0 (search rules) in
    let few : c.places.place < length c.places.letters = omega (arith, c.places.invariant.size, c.boxes-place-end.ensures.few) in
    let here : to_z w8 (of_z w8 c.letter_of_digit.result.0) ≡ letter_at c.args.self.now.cartan (get_or c.args.word.now c.places.place 0) =
    plain ∙ (c.letter_of_digit.ensures.value ∙ ap₂ (λ (t : CartanType) d. letter_at t d) c.places.invariant.cartan c.digit_in.ensures.digit) in
    let good = subst (λ (t : CartanType). IsLetter t c.letter_of_digit.result.0) c.places.invariant.cartan c.letter_of_digit.ensures.letter in
    record {
      read = letters_of_more s.cartan c.places.place c.args.word.now c.places.letters x few here c.places.invariant.read;
      letters = letters_more s.cartan c.places.place c.places.letters x few (subst (IsLetter c.args.self.now.cartan) (sym plain) good) c.places.invariant.letters;
      size = length-set c.places.letters c.places.place x ∙ c.places.invariant.size;
      word = c.places.invariant.word;
      space = c.places.invariant.space;
      cartan = c.places.invariant.cartan;
      last = c.places.invariant.last;
      shape = c.places.invariant.shape;
    }

pub returns-clause-value : goal.returns-clause-value
returns-clause-value c =
    let s = c.args.self.now in
    let end : c.places.place ≡ box_count c.args.self.now = omega (arith, c.places.invariant.last) in
    let read = subst (λ n. AreLettersOf c.args.self.now.cartan n c.args.word.now c.places.letters) end c.places.invariant.read in
    word_listed s c.args.word.now c.places.letters c.places.invariant.shape read

pub returns-clause-back : goal.returns-clause-back
returns-clause-back c =
    let s = c.args.self.now in
    let end : c.places.place ≡ box_count c.args.self.now = omega (arith, c.places.invariant.last) in
    let read = subst (λ n. AreLettersOf c.args.self.now.cartan n c.args.word.now c.places.letters) end c.places.invariant.read in
    ap filling_word (word_listed s c.args.word.now c.places.letters c.places.invariant.shape read) ∙ word_again s c.args.word.now c.places.invariant.shape c.places.invariant.word
