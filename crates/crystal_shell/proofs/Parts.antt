-- The names of statistics, and the reports of the chosen ones one after another.
use Rattle.std.proofs.Common.{◌≡◌, refl, sym, subst, ap, ap₂, ◌∙◌, ℕ, ◌+◌, ◌<◌, ◌≤◌, nat_eq, Bool, true, if◌then◌else◌, Contains, List, [], ◌∷◌, ◌++◌, length, map, take, slice_get, slice_index, slice_index_or, string_bytes, Option, Some, None}
use Rattle.std.specs.List.{list_any}
use Rattle.std.specs.Option.{option_map}
use Rattle.std.proofs.lemmas.Cmp.{nat_eq_equiv}
use Rattle.std.proofs.lemmas.List.{take_all, take_more}
use Rattle.std.proofs.lemmas.List.Elements.{Contains-get_or}
use Rattle.std.proofs.lemmas.Map.Views.{list_any-from_Contains}
use Rattle.std.proofs.lemmas.Option.{slice_get-map}
use Rattle.std.proofs.lemmas.Slice.Zip.{all_zipped_more}
use Rattle.answer_text.specs.Texts.{statistic_text}
use Rattle.answer_text.specs.Answers.{reports_text}
use Rattle.answer_text.specs.declared.answers.Report.{Report}
use Rattle.crystal_characters.specs.declared.items.Item.{Item}
use Rattle.crystal_characters.specs.Items.{items_for}
use Rattle.crystal_shell.specs.Statistics.{Reporter, names_of, part_of, statistics_text, IsReport, AreReports}

-- the names of all
names_of_kinds : {B : Type 0} (name : B → List ℕ) (reports : B → List Item → List ℕ) (bs : List B) → map name bs ≡ names_of (map (λ b. record { name = name b; reports = reports b }) bs)
names_of_kinds name reports [] = refl
names_of_kinds name reports (b ∷ bs) = ap (λ (l : List (List ℕ)). name b ∷ l) (names_of_kinds name reports bs)

pub names_all : {B : Type 0} (name : B → List ℕ) (reports : B → List Item → List ℕ) (bs : List B) (k : ℕ) (texts : List (List ℕ)) → texts ≡ map name (take k bs) → length bs ≤ k
    → texts ≡ names_of (map (λ b. record { name = name b; reports = reports b }) bs)
names_all name reports bs k texts so_far far = so_far ∙ ap (map name) (take_all k bs far) ∙ names_of_kinds name reports bs

-- one report more
pub report_more : {B : Type 0} (name : B → List ℕ) (reports : B → List Item → List ℕ) (bs : List B) (places : List ℕ) (k : ℕ) (items : List Item) (before after : List Report) (p : ℕ) (b : B)
    (r : Report) → k < length places → p ≡ slice_index places k → slice_get bs p ≡ Some b
    → AreReports (map (λ b. record { name = name b; reports = reports b }) bs) (take k places) items before → after ≡ before ++ r ∷ []
    → (string_bytes r.name ≡ name b) × (r.bytes.items ≡ reports b items)
    → AreReports (map (λ b. record { name = name b; reports = reports b }) bs) (take (k + 1) places) items after
report_more {B = B} name reports bs places k items before after p b r below this read so_far added own =
    let at : slice_get bs (slice_index places k) ≡ Some b = subst (λ (q : ℕ). slice_get bs q ≡ Some b) this read in
    let reporters : List Reporter = map (λ b. record { name = name b; reports = reports b }) bs in
    let here : slice_get reporters (slice_index places k) ≡ Some (record { name = name b; reports = reports b }) =
    slice_get-map (λ b. record { name = name b; reports = reports b }) bs (slice_index places k) ∙ ap (λ (o : Option B). option_map (λ b. record { name = name b; reports = reports b }) o) at in
    let is : IsReport (slice_get reporters (slice_index places k)) items r = subst (λ (o : Option Reporter). IsReport o items r) (sym here) own in
    let next : take (k + 1) places ≡ take k places ++ slice_index places k ∷ [] = take_more places k 0 below in
    rw (next, added) (all_zipped_more (λ place report. IsReport (slice_get reporters place) items report) (take k places) before (slice_index places k) r so_far is)

-- what a chosen statistic reports, which was fed nothing before
pub fed_report : {B : Type 0} (name : B → List ℕ) (reports : B → List Item → List ℕ) (fed : B → List Item) (olds news : List B) (places : List ℕ) (k p : ℕ) (items : List Item)
    (b : B) (r : Report) → k < length places → p ≡ slice_index places k → b ≡ slice_index_or news p b
    → name (slice_index_or news p b) ≡ name (slice_index_or olds p b)
    → reports (slice_index_or news p b) items ≡ reports (slice_index_or olds p b) items
    → fed (slice_index_or news p b) ≡ fed (slice_index_or olds p b) ++ items_for places p items → fed (slice_index_or olds p b) ≡ []
    → string_bytes r.name ≡ name b → r.bytes.items ≡ reports b (fed b)
    → (string_bytes r.name ≡ name (slice_index_or olds p b)) × (r.bytes.items ≡ reports (slice_index_or olds p b) items)
fed_report {B = B} name reports fed olds news places k p items b r below this at names rule given unfed own told =
    let chosen : list_any (nat_eq p) places ≡ true =
    list_any-from_Contains nat_eq_equiv p places (subst (λ (q : ℕ). Contains places q) (sym this) (Contains-get_or places k 0 below)) in
    let all : fed b ≡ items = ap fed at ∙ given ∙ ap (λ (xs : List Item). xs ++ items_for places p items) unfed ∙ ap (λ (c : Bool). if c then items else []) chosen in
    (own ∙ ap name at ∙ names, told ∙ ap (reports b) all ∙ ap (λ (x : B). reports x items) at ∙ rule)

-- the text of the reports of the statistics at these places
part_told : (o : Option Reporter) (items : List Item) (r : Report) → IsReport o items r → statistic_text (string_bytes r.name) r.bytes.items ≡ part_of o items
part_told None items r is = absurd is
part_told (Some reporter) items r (named, told) = ap₂ statistic_text named told

pub reports_told : (reporters : List Reporter) (places : List ℕ) (items : List Item) (reports : List Report) → AreReports reporters places items reports
    → reports_text reports ≡ statistics_text reporters places items
reports_told reporters [] items [] are = refl
reports_told reporters [] items (r ∷ reports) are = absurd are
reports_told reporters (p ∷ places) items [] are = absurd are
reports_told reporters (p ∷ places) items (r ∷ reports) (is, are) =
    ap₂ (λ xs ys. xs ++ ys) (part_told (slice_get reporters p) items r is) (reports_told reporters places items reports are)
