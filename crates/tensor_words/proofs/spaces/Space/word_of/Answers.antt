use Rattle.std.proofs.Common.{◌≡◌, ◌-◌, ◌<◌, get_or, length, sym, ◌∙◌, ap, arith}
use Rattle.tensor_words.specs.Spaces.{sizes, size}
use Rattle.tensor_words.specs.Codes.{code_of, word_of}
use Rattle.tensor_words.proofs.Digits.{written_more, written_end}
use Rattle.tensor_words.proofs.SpaceWords.{length_sizes, sizes_at, code_back, IsWord-word_of}
use Rattle.tensor_words.proofs.spaces.Space.word_of.Goals as goal

pub base_size-size-requires : goal.base_size-size-requires
base_size-size-requires c = omega (arith, length_sizes c.args.self.now, c.loop-place.invariant.fits)

pub with-word-requires : goal.with-word-requires
with-word-requires c = omega (arith, length_sizes c.args.self.now, c.loop-place.invariant.fits, c.loop-place.invariant.size)

pub loop-place-preserved : goal.loop-place-preserved
loop-place-preserved c =
    let lt : c.loop-place.place - 1 < length c.args.self.now.factors = omega (arith, length_sizes c.args.self.now, c.loop-place.invariant.fits) in
    let size_is : c.base_size-size.result ≡ get_or (sizes c.args.self.now) (c.loop-place.place - 1) 0 =
    c.base_size-size.ensures.size ∙ sym (sizes_at c.args.self.now (c.loop-place.place - 1) lt) in
    rw c.with-word.ensures
    (written_more (sizes c.args.self.now) c.loop-place.word (c.loop-place.place - 1) c.loop-place.place c.loop-place.rest c.base_size-size.result c.args.code
    (omega arith) size_is (omega arith) (omega (arith, length_sizes c.args.self.now)) c.loop-place.invariant)

pub returns : goal.returns
unfolding word_of
returns c =
    let below : c.args.code < size c.args.self.now = omega arith in
    let value : c.loop-place.word ≡ word_of c.args.self.now c.args.code =
    written_end (sizes c.args.self.now) c.loop-place.word c.loop-place.place c.loop-place.rest c.args.code c.loop-place-test.false below c.loop-place.invariant in
    record {
      value = (below, value);
      word = rw value (IsWord-word_of c.args.self.now c.args.code below);
      back = ap (code_of c.args.self.now) value ∙ code_back c.args.self.now c.args.code below;
    }
