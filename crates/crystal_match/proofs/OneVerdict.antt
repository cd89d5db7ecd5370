-- A verdict on two pointed components is determined: the number of the pairs, or the walk that tells the marks apart.
use Rattle.std.proofs.Common.{arith, ◌≡◌, refl, sym, ap, ap₂, ◌∙◌, ℕ, ◌≤◌, Bool, true, false, ◌||◌, ◌&&◌, ◌==◌, nat_lt, List, [], ◌∷◌, length, map, IsTrue, eq-eqb}
use Rattle.std.proofs.lemmas.Bool.{and_from, ltb-false, or_left, or_right}
use Rattle.std.proofs.lemmas.List.{length-map}
use Rattle.std.proofs.lemmas.List.Kept.{AllPairs-from_increasing}
use Rattle.list_facts.proofs.Rising.{same_members}
use Rattle.crystal_cartan.specs.declared.types.Arrow.{Arrow}
use Rattle.tensor_words.specs.Codes.{is_before}
use Rattle.tensor_words.specs.Reach.{IsPath}
use Rattle.tensor_words.specs.Operators.{IsArrow}
use Rattle.signature_rule.specs.ArrowOrder.{arrow_place}
use Rattle.crystal_match.specs.Listings.{firsts}
use Rattle.crystal_match.specs.Matching.{AreSame, IsVerdict}
use Rattle.crystal_match.specs.Telling.{IsFirstTelling, PointedType}
use Rattle.crystal_match.specs.declared.comparing.Verdict.{Verdict}
use Rattle.crystal_match.specs.declared.comparing.Verdict.TheVariants.{Same, Differs}

pairs_as_many : (m : PointedType) (xs ys : List (ℕ × ℕ)) → AreSame m xs → AreSame m ys → length xs ≡ length ys
pairs_as_many m xs ys p q =
    let both : firsts xs ≡ firsts ys =
    same_members (firsts xs) (firsts ys) (AllPairs-from_increasing (firsts xs) p.matching.ascending) (AllPairs-from_increasing (firsts ys) q.matching.ascending)
    (λ c within. (q.matching.first c).1 ((p.matching.first c).0 within)) (λ c within. (p.matching.first c).1 ((q.matching.first c).0 within)) in
    sym (length-map xs (λ x. x.0)) ∙ ap length both ∙ length-map ys (λ x. x.0)

same_or_telling : (m : PointedType) (pairs : List (ℕ × ℕ)) (walk : List Arrow) → AreSame m pairs → IsFirstTelling m walk → ⊥
same_or_telling m pairs walk same first = same.never_apart walk first.tells

-- ---- the first walk

abbrev arrow_of : Bool → ℕ → Arrow
arrow_of down i = record { down = down; index = i }

place_same : (rank : ℕ) (down down' : Bool) (i j : ℕ) → 1 ≤ i → i ≤ rank → 1 ≤ j → j ≤ rank
    → arrow_place rank (record { down = down; index = i }) ≡ arrow_place rank (record { down = down'; index = j }) → arrow_of down i ≡ arrow_of down' j
place_same rank true true i j low high low' high' is =
    let same : i ≡ j = omega (arith, is) in ap (arrow_of true) same
place_same rank true false i j low high low' high' is = absurd (omega (arith, is))
place_same rank false true i j low high low' high' is = absurd (omega (arith, is))
place_same rank false false i j low high low' high' is =
    let same : i ≡ j = omega (arith, is) in ap (arrow_of false) same

not_below : (d e : ℕ) → (nat_lt d e ≡ true → ⊥) → e ≤ d
not_below d e never = go (nat_lt d e) refl
  where
    go : (b : Bool) → nat_lt d e ≡ b → e ≤ d
    go true is = absurd (never is)
    go false is = ltb-false d e is

head_same : (d e : ℕ) (r s : Bool) → ((nat_lt d e || ((d == e) && r)) ≡ true → ⊥) → ((nat_lt e d || ((e == d) && s)) ≡ true → ⊥)
    → (d ≡ e) × (r ≡ true → ⊥) × (s ≡ true → ⊥)
head_same d e r s never neither =
    let low : e ≤ d = not_below d e (λ is. never (or_left (nat_lt d e) ((d == e) && r) is)) in
    let high : d ≤ e = not_below e d (λ is. neither (or_left (nat_lt e d) ((e == d) && s) is)) in
    let same : d ≡ e = omega (arith, low, high) in (
      same,
      λ is. never (or_right (nat_lt d e) ((d == e) && r) (and_from (d == e) r (eq-eqb d e same) is)),
      λ is. neither (or_right (nat_lt e d) ((e == d) && s) (and_from (e == d) s (eq-eqb e d (sym same)) is)),
    )

neither_before : (rank : ℕ) (m : PointedType) (xs ys : List Arrow) → m.space.cartan.rank ≡ rank → length xs ≡ length ys → IsPath m.space xs → IsPath m.space ys
    → (IsTrue (is_before (map (arrow_place rank) xs) (map (arrow_place rank) ys)) → ⊥)
    → (IsTrue (is_before (map (arrow_place rank) ys) (map (arrow_place rank) xs)) → ⊥) → xs ≡ ys
neither_before rank m [] [] at many p q never neither = refl
neither_before rank m [] (b ∷ ys) at many p q never neither = absurd (omega (arith, many))
neither_before rank m (a ∷ xs) [] at many p q never neither = absurd (omega (arith, many))
neither_before rank m (a ∷ xs) (b ∷ ys) at many p q never neither =
    let places = λ (path : List Arrow). map (arrow_place rank) path in
    let head = head_same (arrow_place rank a) (arrow_place rank b) (is_before (places xs) (places ys)) (is_before (places ys) (places xs)) never neither in
    let first : a ≡ b = place_same rank a.down b.down a.index b.index p.0.index.low (rank_high a p.0) q.0.index.low (rank_high b q.0) head.0 in
    let rest : xs ≡ ys = neither_before rank m xs ys at (omega (arith, many)) p.1 q.1 head.1 head.2 in
    ap₂ (λ (x : Arrow) (l : List Arrow). x ∷ l) first rest
  where
    rank_high : (x : Arrow) → IsArrow m.space x → x.index ≤ rank
    rank_high x is = omega (arith, is.index.high, at)

walk_unique : (m : PointedType) (xs ys : List Arrow) → IsFirstTelling m xs → IsFirstTelling m ys → xs ≡ ys
walk_unique m xs ys p q =
    let many : length xs ≡ length ys = omega (arith, p.shortest ys q.tells, q.shortest xs p.tells) in
    neither_before m.space.cartan.rank m xs ys refl many p.tells.arrows q.tells.arrows (q.least xs p.tells many) (p.least ys q.tells (sym many))

-- ---- verdicts

-- both say the same: as many pairs, or one walk
abbrev pub SayTheSame : Verdict → Verdict → Type 0
SayTheSame (Same xs) (Same ys) = length xs ≡ length ys
SayTheSame (Same xs) (Differs walk) = ⊥
SayTheSame (Differs walk) (Same ys) = ⊥
SayTheSame (Differs xs) (Differs ys) = xs ≡ ys

pub verdicts_agree : (m : PointedType) (v w : Verdict) → IsVerdict m v → IsVerdict m w → SayTheSame v w
verdicts_agree m (Same xs) (Same ys) p q = pairs_as_many m xs ys p q
verdicts_agree m (Same xs) (Differs walk) p q = same_or_telling m xs walk p q
verdicts_agree m (Differs walk) (Same ys) p q = same_or_telling m ys walk q p
verdicts_agree m (Differs xs) (Differs ys) p q = walk_unique m xs ys p q
