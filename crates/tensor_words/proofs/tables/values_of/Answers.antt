use Rattle.std.proofs.Common.{◌≡◌, ℕ, List, ◌+◌, ◌-◌, ◌*◌, ◌≤◌, ◌<◌, length, drop, set, get_or, ap, sym, ◌∙◌, inl, inr, arith, length-set}
use Rattle.std.proofs.lemmas.Bool.{cases_eq}
use Rattle.std.proofs.lemmas.Grind.{get_or-set_at}
use Rattle.std.proofs.lemmas.List.{get_or-set_other}
use Rattle.tensor_words.specs.Spaces.{SpaceType, sizes, size_at, product}
use Rattle.tensor_words.specs.Tables.{place_value}
use Rattle.tensor_words.proofs.PlaceValues.{value_more, value_fits}
use Rattle.tensor_words.proofs.tables.values_of.Goals as goal

-- the values from one place further on
filled :
    (s : SpaceType) (values : List ℕ) (j k v : ℕ) → j ≡ k + 1 → k < length values → v ≡ product (drop j (sizes s))
    → ((m : ℕ) → j ≤ m → m < length s.factors → get_or values m 0 ≡ place_value s m)
    → (m : ℕ) → k ≤ m → m < length s.factors → get_or (set values k v) m 0 ≡ place_value s m
filled s values j k v next lt value before m low high =
    elim (cases_eq m k) as (λ o. get_or (set values k v) m 0 ≡ place_value s m) [
      | inl here ↦ get_or-set_at values k m v 0 here lt ∙ value ∙ ap (λ n. product (drop n (sizes s))) (next ∙ ap (λ n. n + 1) (sym here))
      | inr other ↦ get_or-set_other values k m v 0 other ∙ before m (omega arith) high
    ]

pub overflow_mul-value : goal.overflow_mul-value
overflow_mul-value c =
    let next : c.places.place ≡ c.places.place - 1 + 1 = omega arith in
    let base : c.from-value.result ≡ size_at c.args.space.now (c.places.place - 1) = c.from-value.ensures ∙ c.base_size.ensures.size in
    let more : c.places.value * c.from-value.result ≡ product (drop (c.places.place - 1) (sizes c.args.space.now)) =
    value_more c.args.space.now c.places.place (c.places.place - 1) c.places.value c.from-value.result next (omega (arith, c.places.invariant.fits)) c.places.invariant.value base in
    omega (arith, more, value_fits c.args.space.now (c.places.place - 1) c.count-place.ensures.space)

pub places-preserved : goal.places-preserved
places-preserved c =
    let next : c.places.place ≡ c.places.place - 1 + 1 = omega arith in
    let base : c.from-value.result ≡ size_at c.args.space.now (c.places.place - 1) = c.from-value.ensures ∙ c.base_size.ensures.size in
    let few : length c.args.space.now.factors ≤ 40 = c.count-place.ensures.space.few in
    record {
      fits = omega (arith, c.places.invariant.fits);
      count = length-set c.places.values (c.places.place - 1) c.places.value ∙ c.places.invariant.count;
      value =
          value_more c.args.space.now c.places.place (c.places.place - 1) c.places.value c.from-value.result next (omega (arith, c.places.invariant.fits)) c.places.invariant.value base;
      each =
          filled c.args.space.now c.places.values c.places.place (c.places.place - 1) c.places.value next
          (omega (arith, c.places.invariant.fits, c.places.invariant.count, few)) c.places.invariant.value c.places.invariant.each;
    }
