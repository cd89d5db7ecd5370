-- The listing of a shape of type A is its census, and the component list of its top.
use Rattle.std.proofs.Common.{◌≡◌, sym, subst, ℕ, ◌+◌, ◌<◌, ◌≤◌, List, [], length, All, get_or, Contains, Err, arith}
use Rattle.std.specs.List.Sorted.{IsStrictlyIncreasing}
use Rattle.std.proofs.lemmas.List.Elements.{Contains-get_or}
use Rattle.std.proofs.lemmas.List.Kept.{AllPairs-from_increasing}
use Rattle.list_facts.proofs.Rising.{increasing, same_members}
use Rattle.crystal_cartan.specs.Types.{CartanType}
use Rattle.crystal_cartan.specs.declared.types.Kind.TheVariants.{A}
use Rattle.tensor_words.specs.declared.spaces.Order.TheVariants.{Standard}
use Rattle.tensor_words.specs.Spaces.{SpaceType, size}
use Rattle.tensor_words.specs.Codes.{word_of}
use Rattle.tensor_words.specs.Reach.{IsComponentList}
use Rattle.tensor_words.proofs.SpaceWords.{IsWord-word_of, word_back, code_back, code_below}
use Rattle.tensor_words.proofs.Walks.{component_list_is_unique}
use Rattle.tableau_reading.specs.Shapes.{ShapeType, tableau_shape, IsShape, shape_space, box_count}
use Rattle.tableau_reading.specs.Readings.{top_word}
use Rattle.tableau_reading.proofs.HighestTops.{top_is_word}
use Rattle.tableau_census.specs.Semistandard.{IsSemistandard, IsCensus}
use Rattle.tableau_census.specs.Components.{shape_world}
use Rattle.tableau_census.specs.Listing.{IsBounded, census_codes}
use Rattle.tableau_census.specs.Laws.{CensusIsComponent, CensusIsUnique, IsBeginning, BeginningsAreCompleted}
use Rattle.tableau_census.specs.declared.counting.CensusFault.{CensusFault}
use Rattle.tableau_census.specs.declared.counting.CensusFault.TheVariants.{NotTypeA, TooMany, NoMemory}
use Rattle.tableau_census.specs.Outcomes.{IsListed, IsCounted, IsCompleted}
use Rattle.tableau_census.proofs.ShapeWords.{length_of_word}
use Rattle.tableau_census.proofs.Bounded.{bounded, bounded_is_word, bounded_is_semistandard}
use Rattle.tableau_census.proofs.Listed.{Completes, listed, lists, ascends, completed}
use Rattle.tableau_census.proofs.Reached.{IsGood, reached_is_good, good_is_reached, of_standard, as_standard}
use Rattle.tableau_census.proofs.Letters.{IsSemistandardCode, code_from_filling, filling_from_code}

pub census_is_unique : CensusIsUnique
census_is_unique s xs ys p q =
    same_members xs ys (AllPairs-from_increasing xs p.ascending) (AllPairs-from_increasing ys q.ascending)
    (λ c there. q.complete c (p.sound c there)) (λ c there. p.complete c (q.sound c there))

module _ (t : CartanType) (rows : List ℕ) (h : IsShape (tableau_shape t rows)) (kind : t.kind ≡ A) where
  abbrev here : ShapeType
  here = tableau_shape t rows

  abbrev space : SpaceType
  space = shape_space here

  top_size : length (top_word here) ≡ box_count here
  top_size = length_of_word here (top_word here) (top_is_word here h)

  ascending : IsStrictlyIncreasing (census_codes here)
  ascending = increasing (census_codes here) (ascends t rows h (box_count here) 0 (top_word here) top_size (omega arith) (λ j less. absurd (omega arith)))

  code_listed : (c : ℕ) → Contains (census_codes here) c → IsSemistandardCode here c
  code_listed c there =
      let found = listed t rows h (box_count here) 0 c (top_word here) top_size (omega arith) there in
      let m = found.completes in
      record {
        word = found.word;
        lawful = bounded_is_word t rows h found.word m.size (λ k less. m.within k (omega arith) less);
        semistandard = bounded_is_semistandard t rows h found.word m.size (λ k less. m.within k (omega arith) less);
        code = found.code;
      }

  code_lists : (c : ℕ) → IsSemistandardCode here c → Contains (census_codes here) c
  code_lists c r =
      let m : Completes here 0 (top_word here) r.word = record {
        size = length_of_word here r.word r.lawful;
        same = λ j less. absurd (omega arith);
        within = λ j le less. bounded t rows h r.word r.lawful r.semistandard j less;
      } in
      subst (Contains (census_codes here)) r.code (lists t rows h (box_count here) 0 (top_word here) r.word top_size (omega arith) m)

  good_from_code : (c : ℕ) → IsSemistandardCode here c → IsGood t rows h kind c
  good_from_code c r = record {
    below = subst (λ n. n < size space) r.code (code_below space r.word r.lawful);
    reading = subst (λ n. IsSemistandard here (word_of space n)) r.code (subst (IsSemistandard here) (sym (word_back space r.word r.lawful)) r.semistandard);
  }

  code_from_good : (c : ℕ) → IsGood t rows h kind c → IsSemistandardCode here c
  code_from_good c g = record {
    word = word_of space c;
    lawful = IsWord-word_of space c g.below;
    semistandard = g.reading;
    code = code_back space c g.below;
  }

  listing_words : All (λ c. c < size space) (census_codes here)
  listing_words k d lt = (good_from_code (get_or (census_codes here) k d) (code_listed (get_or (census_codes here) k d) (Contains-get_or (census_codes here) k d lt))).below

  listing_is_component : (cells : ℕ) → IsComponentList (shape_world here cells) (census_codes here)
  listing_is_component cells = record {
    ascending = ascending;
    sound = λ c there. good_is_reached t rows h kind c (good_from_code c (code_listed c there));
    complete = λ c reached. code_lists c (code_from_good c (reached_is_good t rows h kind c reached));
  }

  listing_is_census : IsCensus here (census_codes here)
  listing_is_census = record {
    ascending = ascending;
    sound = λ c there. filling_from_code here c h kind (code_listed c there);
    complete = λ c r. code_lists c (code_from_filling here c kind r);
  }

census_has_words : (s : ShapeType) → IsShape s → s.cartan.kind ≡ A → s.order ≡ Standard → All (λ c. c < size (shape_space s)) (census_codes s)
census_has_words s h kind order =
    of_standard (λ x. All (λ c. c < size (shape_space x)) (census_codes x)) s order (listing_words s.cartan s.rows (as_standard IsShape s order h) kind)

listing_is_of_top : (s : ShapeType) (cells : ℕ) → IsShape s → s.cartan.kind ≡ A → s.order ≡ Standard → IsComponentList (shape_world s cells) (census_codes s)
listing_is_of_top s cells h kind order =
    of_standard (λ x. IsComponentList (shape_world x cells) (census_codes x)) s order (listing_is_component s.cartan s.rows (as_standard IsShape s order h) kind cells)

pub census_is_census : (s : ShapeType) → IsShape s → s.cartan.kind ≡ A → s.order ≡ Standard → IsCensus s (census_codes s)
census_is_census s h kind order = of_standard (λ x. IsCensus x (census_codes x)) s order (listing_is_census s.cartan s.rows (as_standard IsShape s order h) kind)

pub census_is_component : CensusIsComponent
census_is_component s cells codes classical =
    let component = listing_is_of_top s cells classical.shape classical.kind classical.order in
    let census = census_is_census s classical.shape classical.kind classical.order in (
      λ c. subst (IsComponentList (shape_world s cells)) (census_is_unique s (census_codes s) codes census c) component,
      λ c. subst (IsCensus s) (component_list_is_unique (shape_world s cells) (census_codes s) codes component c) census,
    )

pub beginnings_are_completed : BeginningsAreCompleted
beginnings_are_completed s k w classical =
    of_standard (λ x. length w ≡ box_count x → k ≤ box_count x → ((j : ℕ) → j < k → IsBounded x w j) → IsBeginning x k w) s classical.order
    (completed s.cartan s.rows (as_standard IsShape s classical.order classical.shape) k w classical.kind)

-- ---- what the census answers

pub counted : (s : ShapeType) (limit : ℕ) (codes : List ℕ) → IsShape s → s.cartan.kind ≡ A → s.order ≡ Standard → codes ≡ census_codes s → length codes ≤ limit
    → IsListed s limit codes
counted s limit codes h kind order is few = record {
  kind = kind;
  census = subst (IsCensus s) (sym is) (census_is_census s h kind order);
  component = λ cells. subst (IsComponentList (shape_world s cells)) (sym is) (listing_is_of_top s cells h kind order);
  words = subst (λ (xs : List ℕ). All (λ c. c < size (shape_space s)) xs) (sym is) (census_has_words s h kind order);
  few = few;
}

pub not_counted : (s : ShapeType) (limit : ℕ) (fault : CensusFault) (now : List ℕ) → IsShape s → s.cartan.kind ≡ A → s.order ≡ Standard
    → IsCompleted [] (census_codes s) limit now (Err fault) → IsCounted s limit (Err fault)
not_counted s limit NotTypeA now h kind order none = absurd none
not_counted s limit TooMany now h kind order many =
    record { kind = kind; codes = census_codes s; census = census_is_census s h kind order; many = omega arith }
not_counted s limit NoMemory now h kind order none = kind
