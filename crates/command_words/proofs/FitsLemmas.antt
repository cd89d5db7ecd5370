-- What every settings of accepted words keep: the range of the growers, and different places of names.
use Rattle.std.proofs.Common.{◌≡◌, ◌∙◌, ◌<◌, ◌≤◌, ◌||◌, ◌&&◌, ℕ, Bool, true, false, zero, suc, refl, sym, ap, subst, arith, List, [], ◌∷◌, ◌++◌, length, Option, Some, None, Result, Ok, Err, IfOk, codes, bytes_eq, nat_eq, get_or, leb-true, eqb-true, true≢false, cond, inl, inr}
use Rattle.std.specs.Str.Parse.{digits_value}
use Rattle.command_words.specs.declared.fault.WordsFault.TheVariants.{BadMatch, Dashed, UnknownMode}
use Rattle.std.specs.List.{AllByRecursion, IsDistinct, list_any}
use Rattle.std.proofs.lemmas.Bool.{and_parts, or_parts}
use Rattle.std.proofs.lemmas.List.Quantifiers.{position-Some}
use Rattle.std.proofs.lemmas.Slice.Eq.{bytes_eq-Decides}
use Rattle.std.proofs.lemmas.List.Folds.{list_any-append}
use Rattle.command_words.specs.Number.{is_between, is_numeral, number_in}
use Rattle.command_words.specs.Judge.{FitsNames, IsAnswer, Text, has_word, is_dashed, census_in, census_of, judge_census, judge_grow, judge_match, judge_mode, judge_plain, judge_sample, judge_wide, judge_words, grow_with, place_named, place_or_fault, places_named, row_numbers, sample_with, with_place}
use Rattle.command_words.specs.declared.fault.WordsFault.{WordsFault}
use Rattle.command_words.specs.declared.settings.Settings.{Settings}
use Rattle.command_words.specs.declared.settings.Settings.TheVariants.{Match}
use Rattle.command_words.specs.declared.settings.Relabelling.TheVariants.{Same, Star}
use Rattle.crystal_cartan.specs.Types.{CartanType, IsCartan}
use Rattle.crystal_cartan.specs.declared.types.Kind.TheVariants.{A}
use Rattle.command_words.proofs.ShapeLemmas.{shape_made}
use Rattle.tableau_reading.specs.Shapes.{ShapeType, shape_of}
use Rattle.tableau_reading.specs.declared.shapes.ShapeFault.{ShapeFault}

-- ---- one word

found : (b : Bool) (o : Option ℕ) (place : ℕ) → place_or_fault b o ≡ Ok place → (b ≡ false) × (o ≡ Some place)
found b None place is = absurd cc
found true (Some other) place is = absurd cc
found false (Some other) place is = (refl, cc)

place_facts : (names seen : List Text) (word : Text) (place : ℕ) → place_named names seen word ≡ Ok place
    → (place < length names) × (get_or names place [] ≡ word) × (has_word seen word ≡ false)
place_facts names seen word place is =
    let parts = found _ _ place is in
    let first = position-Some (λ name. bytes_eq name word) names place [] parts.1 in
    (first.0, (bytes_eq-Decides (get_or names place []) word).0 first.1, parts.0)

-- ---- all the further words

-- the place is one of the names, and of none that was seen
abbrev IsFresh : List Text → List Text → ℕ → Type 0
IsFresh names seen place = (place < length names) × (has_word seen (get_or names place []) ≡ false)

taken : (a : Result ℕ WordsFault) (b : Result (List ℕ) WordsFault) (places : List ℕ) → with_place a b ≡ Ok places
    → (first : ℕ) × (others : List ℕ) × (a ≡ Ok first) × (b ≡ Ok others) × (first ∷ others ≡ places)
taken (Err fault) b places is = absurd cc
taken (Ok first) (Err fault) places is = absurd cc
taken (Ok first) (Ok others) places is = (first, others, refl, refl, cc)

later : (names seen : List Text) (word : Text) (place : ℕ) (places : List ℕ) → get_or names place [] ≡ word → AllByRecursion (IsFresh names (seen ++ word ∷ [])) places
    → AllByRecursion (IsFresh names seen) places × AllByRecursion (λ other. nat_eq place other ≡ false) places
later names seen word place [] named fresh = (tt, tt)
later names seen word place (other ∷ places) named fresh =
    let rest = later names seen word place places named fresh.1 in
    let name = get_or names other [] in
    let parts = or_parts (has_word seen name) (has_word (word ∷ []) name) (sym (list_any-append (λ text. bytes_eq text name) seen (word ∷ [])) ∙ fresh.0.1) in
    let unlike : bytes_eq word name ≡ false = (or_parts _ _ parts.1).0 in
    let differs : (b : Bool) → nat_eq place other ≡ b → nat_eq place other ≡ false = λ b. elim b as (λ v. nat_eq place other ≡ v → nat_eq place other ≡ false) [
      | true ↦ λ same. absurd (true≢false (sym ((bytes_eq-Decides word name).1 (sym named ∙ ap (λ k. get_or names k []) (eqb-true place other same))) ∙ unlike))
      | false ↦ λ same. same
    ] in
    (((fresh.0.0, parts.0), rest.0), (differs _ refl, rest.1))

fresh_places : (names seen words : List Text) (places : List ℕ) → places_named names seen words ≡ Ok places
    → AllByRecursion (IsFresh names seen) places × IsDistinct nat_eq places
unfolding IsDistinct
fresh_places names seen [] places is =
    let none : [] ≡ places = cc in
    subst (λ ps. AllByRecursion (IsFresh names seen) ps × IsDistinct nat_eq ps) none (tt, tt)
fresh_places names seen (word ∷ words) places is =
    let parts = taken _ _ places is in
    let first = place_facts names seen word parts.0 parts.2 in
    let others = fresh_places names (seen ++ word ∷ []) words parts.1 parts.3 in
    let apart = later names seen word parts.0 parts.1 first.1 others.0 in
    subst (λ ps. AllByRecursion (IsFresh names seen) ps × IsDistinct nat_eq ps) parts.4 (((first.0, rw first.1 first.2), apart.0), (apart.1, others.1))

places_below : (names seen : List Text) (places : List ℕ) → AllByRecursion (IsFresh names seen) places → (k : ℕ) → k < length places → get_or places k 0 < length names
places_below names seen [] fresh k inside = absurd (omega arith)
places_below names seen (place ∷ places) fresh zero inside = fresh.0.0
places_below names seen (place ∷ places) fresh (suc k) inside = places_below names seen places fresh.1 k (omega arith)

-- ---- the settings

in_range : (most low high : ℕ) (text : Text) (n : ℕ) → number_in most low high text ≡ Some n → (low ≤ n) × (n ≤ high)
in_range most low high text n is = go (is_numeral most text && is_between low high (digits_value 10 text)) refl is
  where
    go : (b : Bool) → (is_numeral most text && is_between low high (digits_value 10 text)) ≡ b → cond b (Some (digits_value 10 text)) None ≡ Some n → (low ≤ n) × (n ≤ high)
    go false tested same = absurd cc
    go true tested same =
        let value : digits_value 10 text ≡ n = cc in
        let range = and_parts _ _ (and_parts _ _ tested).1 in
        (subst (λ m. low ≤ m) value (leb-true _ _ range.0), subst (λ m. m ≤ high) value (leb-true _ _ range.1))

abbrev IsRange : Option ℕ → Type 0
IsRange growers = (n : ℕ) → growers ≡ Some n → (1 ≤ n) × (n ≤ 16)

grow_fits : (names : List Text) (growers : Option ℕ) (more : List Text) → IsRange growers → IfOk (judge_grow names growers more) (FitsNames (length names))
grow_fits names None more range = tt
grow_fits names (Some n) more range = go (places_named names [] more) refl
  where
    go : (r : Result (List ℕ) WordsFault) → places_named names [] more ≡ r → IfOk (grow_with n r) (FitsNames (length names))
    go (Err fault) is = tt
    go (Ok places) is =
        let fresh = fresh_places names [] more places is in
        ((range n refl).0, (range n refl).1, record { distinct = fresh.1; below = places_below names [] places fresh.0 })

sample_fits : (count : ℕ) (growers : Option ℕ) (more : List Text) → IsRange growers → IfOk (judge_sample growers more) (FitsNames count)
sample_fits count None more range = tt
sample_fits count (Some n) [] range = tt
sample_fits count (Some n) (word ∷ []) range = go (number_in 10 0 4294967295 word)
  where
    go : (number : Option ℕ) → IfOk (sample_with n number) (FitsNames count)
    go None = tt
    go (Some number) = range n refl
sample_fits count (Some n) (word ∷ second ∷ more) range = tt

census_of_fits : (count : ℕ) (r : Result ShapeType ShapeFault) (t : CartanType) (rows : List ℕ) → IsCartan t → t.kind ≡ A → shape_of t rows ≡ r → IfOk (census_of r) (FitsNames count)
census_of_fits count (Err fault) t rows cartan kind is = tt
census_of_fits count (Ok shape) t rows cartan kind is =
    let made = shape_made t rows shape cartan is in
    (made.0, ap (λ (c : CartanType). c.kind) made.1 ∙ kind, made.2)

census_fits : (count : ℕ) (rank : Option ℕ) (rows : Option (List ℕ)) → ((n : ℕ) → rank ≡ Some n → (1 ≤ n) × (n ≤ 8)) → IfOk (census_in rank rows) (FitsNames count)
census_fits count None rows range = tt
census_fits count (Some n) None range = tt
census_fits count (Some n) (Some rows) range =
    census_of_fits count (shape_of (record { kind = A; rank = n }) rows) (record { kind = A; rank = n }) rows
    (record { low = (range n refl).0; high = (range n refl).1 }) refl refl

match_fits : (count : ℕ) (word : Text) (more : List Text) → IfOk (judge_match word more) (FitsNames count)
match_fits count word [] = go (bytes_eq word (codes "same")) (bytes_eq word (codes "star"))
  where
    go : (same star : Bool) → IfOk (cond same (Ok (Match Same)) (cond star (Ok (Match Star)) (Err BadMatch))) (FitsNames count)
    go true star = tt
    go false true = tt
    go false false = tt
match_fits count word (other ∷ more) = tt

wide_fits : (count : ℕ) (growers : Option ℕ) (more : List Text) → IsRange growers → IfOk (judge_wide growers more) (FitsNames count)
wide_fits count None more range = tt
wide_fits count (Some n) [] range = range n refl
wide_fits count (Some n) (word ∷ more) range = tt

mode_fits : (names : List Text) (mode second : Text) (more : List Text) → IfOk (judge_mode names mode second more) (FitsNames (length names))
mode_fits names mode second more = go (bytes_eq mode (codes "grow")) (bytes_eq mode (codes "sample")) (bytes_eq mode (codes "census")) (bytes_eq mode (codes "match")) (bytes_eq mode (codes "wide"))
  where
    go : (grows samples lists compares doubles : Bool) → IfOk (cond grows (judge_grow names (number_in 10 1 16 second) more) (cond samples (judge_sample (number_in 10 1 16 second) more)
        (cond lists (judge_census second more) (cond compares (judge_match second more)
        (cond doubles (judge_wide (number_in 10 1 16 second) more) (Err UnknownMode)))))) (FitsNames (length names))
    go true samples lists compares doubles = grow_fits names (number_in 10 1 16 second) more (in_range 10 1 16 second)
    go false true lists compares doubles = sample_fits (length names) (number_in 10 1 16 second) more (in_range 10 1 16 second)
    go false false true compares doubles = census_fits (length names) (number_in 9 1 8 second) (row_numbers more) (in_range 9 1 8 second)
    go false false false true doubles = match_fits (length names) second more
    go false false false false true = wide_fits (length names) (number_in 10 1 16 second) more (in_range 10 1 16 second)
    go false false false false false = tt

judged_fits : (words names : List Text) → IfOk (judge_words words names) (FitsNames (length names))
judged_fits words names = go (list_any is_dashed words) words
  where
    go : (dashed : Bool) (ws : List Text) → IfOk (cond dashed (Err Dashed) (judge_plain names ws)) (FitsNames (length names))
    go true ws = tt
    go false [] = tt
    go false (mode ∷ []) = tt
    go false (mode ∷ second ∷ more) = mode_fits names mode second more

pub answer_fits : (words names : List Text) (r : Result Settings WordsFault) (count : ℕ) → length names ≡ count → IsAnswer (judge_words words names) r → IfOk r (FitsNames count)
answer_fits words names r count many (inl is) = rw (is, ← many) (judged_fits words names)
answer_fits words names r count many (inr is) = rw is tt
