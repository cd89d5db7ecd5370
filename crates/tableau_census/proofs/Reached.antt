-- In type A what is reached from the top word of a shape is just the semistandard readings.
use Rattle.std.proofs.Common.{◌≡◌, ◌∙◌, refl, sym, ap, subst, ℕ, zero, suc, ◌+◌, ◌-◌, ◌≤◌, ◌<◌, Bool, true, false, List, [], ◌∷◌, ◌++◌, length, get_or, Contains, Some, None, ◌⊎◌, inl, inr, arith}
use Rattle.std.specs.Option.{option_map, option_and_then}
use Rattle.std.proofs.lemmas.Bool.{cases_lt}
use Rattle.std.proofs.lemmas.List.Elements.{Contains-get_or}
use Rattle.crystal_cartan.specs.Types.{CartanType, HasIndex}
use Rattle.crystal_cartan.specs.declared.types.Arrow.{Arrow}
use Rattle.crystal_cartan.specs.declared.types.Kind.TheVariants.{A}
use Rattle.vector_crystals.specs.Letters.{letter_count_of}
use Rattle.tensor_words.specs.declared.spaces.Order.TheVariants.{Standard}
use Rattle.tensor_words.specs.Spaces.{SpaceType, HasFactors, size}
use Rattle.tensor_words.specs.Codes.{IsWord, code_of, word_of}
use Rattle.tensor_words.specs.TensorRule as rule
use Rattle.tensor_words.specs.TensorRule.{factor_actions}
use Rattle.tensor_words.specs.Operators.{IsArrow, IsTop, step_of, acted, op}
use Rattle.tensor_words.specs.Reach.{IsPath, walk, IsReachedFrom}
use Rattle.tensor_words.proofs.Keeps.{mapped_some, operators_keep_words}
use Rattle.tensor_words.proofs.KeptWords.{raise_lowers_code}
use Rattle.tensor_words.proofs.SpaceWords.{word_back, code_back, code_below, IsWord-word_of}
use Rattle.tensor_words.proofs.Strings.{words_are_seminormal}
use Rattle.tensor_words.proofs.Walks.{reached_more}
use Rattle.tableau_reading.specs.Shapes.{ShapeType, tableau_shape, IsShape, shape_space, box_count}
use Rattle.tableau_reading.specs.Readings.{top_word}
use Rattle.tableau_reading.proofs.HighestTops.{top_is_word}
use Rattle.tableau_census.specs.Semistandard.{IsSemistandard}
use Rattle.tableau_census.specs.Laws.{OperatorsKeepSemistandard, OnlyTopIsHighest}
use Rattle.tableau_census.proofs.OpenPlaces.{Between, lowers, raises, no_eps}
use Rattle.tableau_census.proofs.VectorSteps.{word_steps}
use Rattle.tableau_reading.proofs.FilledRows.{digit_of_word}
use Rattle.tableau_census.proofs.ShapeWords.{shape_factors, length_of_word}
use Rattle.tableau_census.proofs.Kept.{lowered_kept, raised_kept}
use Rattle.tableau_census.proofs.Highest.{is_top, top_is_semistandard}

-- ---- in type A

module _ (t : CartanType) (rows : List ℕ) (h : IsShape (tableau_shape t rows)) (kind : t.kind ≡ A) where
  abbrev here : ShapeType
  here = tableau_shape t rows

  abbrev space : SpaceType
  space = shape_space here

  abbrev top_code : ℕ
  top_code = code_of space (top_word here)

  kept_at : (a : ℕ) (down : Bool) (v w : List ℕ) → a < t.rank → IsWord space w → IsSemistandard here w
      → step_of down (rule.action space (a + 1)) w ≡ Some v → IsSemistandard here v
  unfolding rule.action
  kept_at a true v w index word good made =
      let m = lowers a (factor_actions space (a + 1)) w v (word_steps here a w h kind index word) made in
      subst (IsSemistandard here) (sym m.now) (lowered_kept t rows h w (length_of_word here w word) good a m.place m.is_open m.within m.was)
  kept_at a false v w index word good made =
      let m = raises a (factor_actions space (a + 1)) w v (word_steps here a w h kind index word) made in
      subst (IsSemistandard here) (sym m.now) (raised_kept t rows h w (length_of_word here w word) good a m.place m.is_open m.within m.was)

  pub operator_keeps : (a : Arrow) (v w : List ℕ) → IsArrow space a → IsWord space w → IsSemistandard here w → acted space a w ≡ Some v → IsSemistandard here v
  operator_keeps a v w arrow word good made =
      let place : a.index ≡ a.index - 1 + 1 = omega (arith, arrow.index.low) in
      let moved : step_of a.down (rule.action space (a.index - 1 + 1)) w ≡ Some v = subst (λ i. step_of a.down (rule.action space i) w ≡ Some v) place made in
      kept_at (a.index - 1) a.down v w (omega (arith, arrow.index.low, arrow.index.high)) word good moved

  letters_few : letter_count_of t.kind t.rank ≡ t.rank + 1
  letters_few = rw kind refl

  closed_by_eps : (w : List ℕ) → IsWord space w → IsTop space w → (a q : ℕ) → a < t.rank → q < length w → get_or w q 0 ≡ a + 1 → Between w q (length w) a
  unfolding rule.action
  closed_by_eps w word top a q index lt is =
      no_eps a (factor_actions space (a + 1)) w q (word_steps here a w h kind index word) (top (a + 1) (record { low = omega arith; high = omega arith })) lt is

  pub highest_is_top : (w : List ℕ) → IsWord space w → IsSemistandard here w → IsTop space w → w ≡ top_word here
  highest_is_top w word good top =
      let long : length w ≡ box_count here = length_of_word here w word in
      is_top t rows h w long good t.rank (λ q lt. omega (arith, digit_of_word here w q word (omega arith), letters_few)) (closed_by_eps w word top)

  -- ---- codes

  -- the code is that of a semistandard reading
  pub record IsGood (c : ℕ) : Type 0 where
    pub below : c < size space
    pub reading : IsSemistandard here (word_of space c)

  factors : HasFactors space
  factors = shape_factors here h

  step_keeps : (a : Arrow) (c d : ℕ) → IsArrow space a → IsGood c → op space a c ≡ Some d → IsGood d
  unfolding op
  step_keeps a c d arrow good made =
      let m = mapped_some (code_of space) (acted space a (word_of space c)) d made in
      let own : IsWord space (word_of space c) = IsWord-word_of space c good.below in
      let word : IsWord space m.0 = operators_keep_words space a m.0 (word_of space c) factors arrow own m.1 in
      let back : word_of space d ≡ m.0 = ap (word_of space) (sym m.2) ∙ word_back space m.0 word in
      record {
        below = subst (λ (n : ℕ). n < size space) m.2 (code_below space m.0 word);
        reading = subst (IsSemistandard here) (sym back) (operator_keeps a m.0 (word_of space c) arrow own good.reading m.1);
      }

  walk_keeps : (path : List Arrow) (c d : ℕ) → IsPath space path → IsGood c → walk space path c ≡ Some d → IsGood d
  unfolding walk
  walk_keeps [] c d arrows good leads = let same : c ≡ d = cc in subst IsGood same good
  walk_keeps (a ∷ path) c d arrows good leads =
      elim (op space a c) as (λ o. op space a c ≡ o → option_and_then (walk space path) o ≡ Some d → IsGood d) [
        | None ↦ λ is none. cc
        | Some x ↦ λ is rest. walk_keeps path x d arrows.1 (step_keeps a c x arrows.0 good is) rest
      ] refl leads

  top_word_is_word : IsWord space (top_word here)
  top_word_is_word = top_is_word here h

  top_is_good : IsGood top_code
  top_is_good = record {
    below = code_below space (top_word here) top_word_is_word;
    reading = subst (IsSemistandard here) (sym (word_back space (top_word here) top_word_is_word)) (top_is_semistandard t rows h);
  }

  pub reached_is_good : (c : ℕ) → IsReachedFrom space (top_code ∷ []) c → IsGood c
  reached_is_good c r = walk_keeps r.path r.root c r.arrows (subst IsGood (single r.root r.rooted) top_is_good) r.leads
    where
      single : (x : ℕ) → Contains (top_code ∷ []) x → top_code ≡ x
      single x (zero, lt, e) = e
      single x (suc k, lt, e) = absurd (omega arith)

  -- ---- each semistandard reading is raised to the top

  record Raises (w : List ℕ) : Type 0 where
    index : ℕ
    has : HasIndex t index
    word : List ℕ
    raised : (rule.action space index).raise w ≡ Some word

  search_up_to : (n : ℕ) (w : List ℕ) → n ≤ t.rank → IsWord space w → ((i : ℕ) → HasIndex t i → i ≤ n → (rule.action space i).eps w ≡ 0) ⊎ Raises w
  search_up_to zero w le word = inl (λ i index few. absurd (omega (arith, index.low)))
  search_up_to (suc n) w le word = elim (search_up_to n w (omega arith) word) [
    | inr found ↦ inr found
    | inl none ↦ elim ((rule.action space (suc n)).raise w) as (λ o. (rule.action space (suc n)).raise w ≡ o → ((i : ℕ) → HasIndex t i → i ≤ suc n → (rule.action space i).eps w ≡ 0) ⊎ Raises w) [
      | Some v ↦ λ made. inr (record { index = suc n; has = here_index; word = v; raised = made })
      | None ↦ λ ends. inl (λ i index few. elim (cases_lt i (suc n)) [
        | inl less ↦ none i index (omega arith)
        | inr last ↦
            let same : suc n ≡ i = omega arith in
            subst (λ j. (rule.action space j).eps w ≡ 0) same ((words_are_seminormal space (suc n) w factors here_index word).raise_ends.0 ends)
      ])
    ] refl
  ]
    where
      here_index : HasIndex t (suc n)
      here_index = record { low = omega arith; high = le }

  lift_one : (c : ℕ) → IsGood c → (c ≡ top_code) ⊎ Raises (word_of space c)
  lift_one c good =
      let word : IsWord space (word_of space c) = IsWord-word_of space c good.below in
      elim (search_up_to t.rank (word_of space c) (omega arith) word) [
        | inr found ↦ inr found
        | inl none ↦
            let top : word_of space c ≡ top_word here = highest_is_top (word_of space c) word good.reading (λ i index. none i index index.high) in
            inl (sym (code_back space c good.below) ∙ ap (code_of space) top)
      ]

  top_reached : IsReachedFrom space (top_code ∷ []) top_code
  unfolding walk
  top_reached = record { root = top_code; rooted = Contains-get_or (top_code ∷ []) 0 0 (omega arith); path = []; arrows = tt; leads = refl }

  -- a reading is reached where the one that it is raised to is
  reach_raised : (c : ℕ) → IsGood c → Raises (word_of space c) → ((d : ℕ) → d < c → IsGood d → IsReachedFrom space (top_code ∷ []) d) → IsReachedFrom space (top_code ∷ []) c
  unfolding op
  reach_raised c good r below =
      let own : IsWord space (word_of space c) = IsWord-word_of space c good.below in
      let up : Arrow = record { down = false; index = r.index } in
      let back : Arrow = record { down = true; index = r.index } in
      let fits : IsArrow space up = record { index = r.has } in
      let word : IsWord space r.word = operators_keep_words space up r.word (word_of space c) factors fits own r.raised in
      let less : code_of space r.word < code_of space (word_of space c) = raise_lowers_code space r.index r.word (word_of space c) factors r.has own r.raised in
      let again : word_of space (code_of space r.word) ≡ r.word = word_back space r.word word in
      let same : code_of space (word_of space c) ≡ c = code_back space c good.below in
      let kept : IsGood (code_of space r.word) = record {
        below = code_below space r.word word;
        reading = subst (IsSemistandard here) (sym again) (operator_keeps up r.word (word_of space c) fits own good.reading r.raised);
      } in
      let lowered : (rule.action space r.index).lower r.word ≡ Some (word_of space c) =
      (words_are_seminormal space r.index (word_of space c) factors r.has own).lowered_back r.word r.raised in
      let leads : op space back (code_of space r.word) ≡ Some c =
      ap (λ u. option_map (code_of space) ((rule.action space r.index).lower u)) again ∙ (ap (option_map (code_of space)) lowered ∙ ap Some same) in
      reached_more space (top_code ∷ []) back (code_of space r.word) c (below (code_of space r.word) (omega arith) kept) (record { index = r.has }) leads

  reach : (n c : ℕ) → c < n → IsGood c → IsReachedFrom space (top_code ∷ []) c
  reach zero c lt good = absurd (omega arith)
  reach (suc n) c lt good = elim (lift_one c good) [
    | inl same ↦ subst (IsReachedFrom space (top_code ∷ [])) (sym same) top_reached
    | inr r ↦ reach_raised c good r (λ d less kept. reach n d (omega arith) kept)
  ]

  pub good_is_reached : (c : ℕ) → IsGood c → IsReachedFrom space (top_code ∷ []) c
  good_is_reached c good = reach (c + 1) c (omega arith) good

-- ---- the laws

-- what holds of the standard shape with the type and the rows of a shape in the standard order holds of that shape
pub of_standard : (P : ShapeType → Type 0) (s : ShapeType) → s.order ≡ Standard → P (tableau_shape s.cartan s.rows) → P s
of_standard P s order holds = subst (λ o. P (record { cartan = s.cartan; rows = s.rows; order = o })) (sym order) holds

pub as_standard : (P : ShapeType → Type 0) (s : ShapeType) → s.order ≡ Standard → P s → P (tableau_shape s.cartan s.rows)
as_standard P s order holds = subst (λ o. P (record { cartan = s.cartan; rows = s.rows; order = o })) order holds

pub operators_keep_semistandard : OperatorsKeepSemistandard
operators_keep_semistandard s a v w classical arrow =
    of_standard (λ x. IsWord (shape_space x) w → IsSemistandard x w → acted (shape_space x) a w ≡ Some v → IsSemistandard x v) s classical.order
    (operator_keeps s.cartan s.rows (as_standard IsShape s classical.order classical.shape) classical.kind a v w (record { index = arrow.index }))

pub only_top_is_highest : OnlyTopIsHighest
only_top_is_highest s w classical =
    of_standard (λ x. IsWord (shape_space x) w → IsSemistandard x w → IsTop (shape_space x) w → w ≡ top_word x) s classical.order
    (highest_is_top s.cartan s.rows (as_standard IsShape s classical.order classical.shape) classical.kind w)
