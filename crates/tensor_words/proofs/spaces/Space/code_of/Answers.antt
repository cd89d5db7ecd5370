use Rattle.std.proofs.Common.{◌≡◌, ◌+◌, ◌*◌, ◌<◌, ◌≤◌, ◌^◌, length, ◌∙◌, ap, refl, arith}
use Rattle.tensor_words.specs.Spaces.{size}
use Rattle.tensor_words.specs.Codes.{code_of, word_of}
use Rattle.tensor_words.proofs.SpaceWords.{length_word, code_below, word_back, read_step, read_below, read_whole}
use Rattle.tensor_words.proofs.spaces.Space.code_of.Goals as goal

pub digit-requires : goal.digit-requires
digit-requires c = omega (arith, length_word c.args.self.now c.args.word.now c.requires)

pub overflow_mul-code : goal.overflow_mul-code
overflow_mul-code c =
    let below : c.loop-place.code * c.base_size.result + _ < size c.args.self.now =
    read_below c.args.self.now c.args.word.now c.loop-place.place c.loop-place.code c.base_size.result _ c.requires (omega arith) c.base_size.ensures.size refl c.loop-place.invariant in
    let narrow : size c.args.self.now ≤ 2 ^ 63 = c.base_size.ensures.space.narrow in
    omega arith

pub overflow_add-code : goal.overflow_add-code
overflow_add-code c =
    let below : c.loop-place.code * c.base_size.result + c.digit.result < size c.args.self.now =
    read_below c.args.self.now c.args.word.now c.loop-place.place c.loop-place.code c.base_size.result c.digit.result c.requires (omega arith) c.base_size.ensures.size c.digit.ensures c.loop-place.invariant in
    let narrow : size c.args.self.now ≤ 2 ^ 63 = c.base_size.ensures.space.narrow in
    omega arith

pub loop-place-preserved : goal.loop-place-preserved
loop-place-preserved c =
    read_step c.args.self.now c.args.word.now c.loop-place.place c.loop-place.code c.base_size.result c.digit.result c.requires (omega arith) c.base_size.ensures.size c.digit.ensures c.loop-place.invariant

pub returns : goal.returns
returns c =
    let all : length c.args.self.now.factors ≤ c.loop-place.place = omega arith in
    let value : c.loop-place.code ≡ code_of c.args.self.now c.args.word.now =
    read_whole c.args.self.now c.args.word.now c.loop-place.place c.loop-place.code c.requires all c.loop-place.invariant in
    record {
      value = value;
      below = rw value (code_below c.args.self.now c.args.word.now c.requires);
      back = ap (word_of c.args.self.now) value ∙ word_back c.args.self.now c.args.word.now c.requires;
    }
