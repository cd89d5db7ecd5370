-- The passes of a bench, and what they have taken.
use Rattle.std.proofs.Common.{◌≡◌, ◌≢◌, ◌∙◌, refl, sym, ap, subst, ℕ, zero, suc, ◌+◌, ◌<◌, ◌≤◌, ◌==◌, Bool, false, not, if◌then◌else◌, List, [], ◌∷◌, ◌++◌, map, length, set, Option, Some, None, arith}
use Rattle.std.specs.List.{slice_get, Contains, slice_index}
use Rattle.std.proofs.lemmas.Bool.{ne_eqb}
use Rattle.std.proofs.lemmas.List.{append-nil}
use Rattle.std.proofs.lemmas.List.Elements.{All-nil, All-append, All-weaker, filter-append, Contains-append_left, Contains-append_right}
use Rattle.std.proofs.lemmas.Option.{none-some, same_Some}
use Rattle.parcel_deques.specs.declared.parcel.Slip.{Slip}
use Rattle.parcel_deques.specs.declared.rule.Hand.{Hand}
use Rattle.parcel_deques.specs.Lists.{weigh}
use Rattle.parcel_deques.specs.Parcels.{AllOwned, IsOwned, AllBelow, owned_by, others_than}
use Rattle.parcel_deques.specs.Rule.{took}
use Rattle.parcel_deques.specs.Ends.{DequeId, EndValue, Took, SameEnd}
use Rattle.parcel_deques.specs.Benches.{pass_taken, passes_taken, gone, away_from, IsEnd}
use Rattle.parcel_deques.proofs.Weights.{weigh-append, weigh-push}
use Rattle.parcel_deques.proofs.Slips.{owned_same, owned_none, others_none, others_same}

-- the ends of a bench, from place k on
abbrev pub AreEnds : ℕ → ℕ → List EndValue → Type 0
AreEnds n k es = (j : ℕ) (e : EndValue) → slice_get es j ≡ Some e → IsEnd n (k + j) e

pub ends_here : (n : ℕ) (es : List EndValue) → ((j : ℕ) (e : EndValue) → slice_get es j ≡ Some e → IsEnd n j e) → AreEnds n 0 es
ends_here n es each j e at = subst (λ (i : ℕ). IsEnd n i e) (let z : j ≡ 0 + j = omega arith in z) (each j e at)

head_end : (n k : ℕ) (e : EndValue) (es : List EndValue) → AreEnds n k (e ∷ es) → IsEnd n k e
head_end n k e es ends = subst (λ (i : ℕ). IsEnd n i e) (let z : k + 0 ≡ k = omega arith in z) (ends 0 e refl)

tail_ends : (n k : ℕ) (e : EndValue) (es : List EndValue) → AreEnds n k (e ∷ es) → AreEnds n (suc k) es
tail_ends n k e es ends j f at = subst (λ (i : ℕ). IsEnd n i f) (let z : k + suc j ≡ suc k + j = omega arith in z) (ends (suc j) f at)

pub pass_owned : (n k : ℕ) (e : EndValue) → IsEnd n k e → AllOwned k (pass_taken e.pass)
pass_owned n k e is = by e.pass refl
  where
    by : (p : Option Hand) → e.pass ≡ p → AllOwned k (pass_taken p)
    by None at = All-nil (IsOwned k)
    by (Some v) at = (is.view v at).3

-- nobody below was robbed by these
pub passes_below : (n m k : ℕ) (es : List EndValue) → m < k → AreEnds n k es → owned_by m (passes_taken es) ≡ []
passes_below n m k [] low ends = refl
passes_below n m k (e ∷ es) low ends = filter-append (λ (x : Slip). x.tag.owner == m) (pass_taken e.pass) (passes_taken es)
    ∙ ap (λ (l : List Slip). l ++ owned_by m (passes_taken es)) (owned_none m k (pass_taken e.pass) (λ s. let t : k ≡ m = s in omega arith) (pass_owned n k e (head_end n k e es ends)))
    ∙ passes_below n m (suc k) es (omega arith) (tail_ends n k e es ends)

pub passes_at : (n k j : ℕ) (es : List EndValue) (e : EndValue) → slice_get es j ≡ Some e → AreEnds n k es → owned_by (k + j) (passes_taken es) ≡ pass_taken e.pass
passes_at n k j [] e at ends = absurd (none-some e at)
passes_at n k zero (f ∷ fs) e at ends = filter-append (λ (x : Slip). x.tag.owner == k + 0) (pass_taken f.pass) (passes_taken fs)
    ∙ (λ i. owned i ++ rest i)
    ∙ append-nil (pass_taken f.pass)
    ∙ ap (λ (g : EndValue). pass_taken g.pass) (same_Some f e at)
  where
    owned : owned_by (k + 0) (pass_taken f.pass) ≡ pass_taken f.pass
    owned = owned_same (k + 0) (pass_taken f.pass) (pass_owned n (k + 0) f (ends 0 f refl))

    rest : owned_by (k + 0) (passes_taken fs) ≡ []
    rest = passes_below n (k + 0) (suc k) fs (omega arith) (tail_ends n k f fs ends)
passes_at n k (suc j) (f ∷ fs) e at ends = filter-append (λ (x : Slip). x.tag.owner == k + suc j) (pass_taken f.pass) (passes_taken fs)
    ∙ ap (λ (l : List Slip). l ++ owned_by (k + suc j) (passes_taken fs)) (owned_none (k + suc j) k (pass_taken f.pass) (λ s. let t : k ≡ k + suc j = s in omega arith) (pass_owned n k f (head_end n k f fs ends)))
    ∙ ap (λ (m : ℕ). owned_by m (passes_taken fs)) (let z : k + suc j ≡ suc k + j = omega arith in z)
    ∙ passes_at n (suc k) j fs e at (tail_ends n k f fs ends)

pub others_below : (n m k : ℕ) (es : List EndValue) → m < k → AreEnds n k es → others_than m (passes_taken es) ≡ passes_taken es
others_below n m k [] low ends = refl
others_below n m k (e ∷ es) low ends = filter-append (λ (x : Slip). not (x.tag.owner == m)) (pass_taken e.pass) (passes_taken es)
    ∙ (let rest = others_below n m (suc k) es (omega arith) (tail_ends n k e es ends) in λ i. here i ++ rest i)
  where
    here : others_than m (pass_taken e.pass) ≡ pass_taken e.pass
    here = others_same m k (pass_taken e.pass) (λ s. let t : k ≡ m = s in omega arith) (pass_owned n k e (head_end n k e es ends))

-- without the slips of one deque: the passes but for the one there
pub others_at : (n k j : ℕ) (es : List EndValue) (e f : EndValue) → slice_get es j ≡ Some e → f.pass ≡ None → AreEnds n k es → others_than (k + j) (passes_taken es) ≡ passes_taken (set es j f)
others_at n k j [] e f at none ends = absurd (none-some e at)
others_at n k zero (d ∷ ds) e f at none ends = filter-append (λ (x : Slip). not (x.tag.owner == k + 0)) (pass_taken d.pass) (passes_taken ds)
    ∙ (λ i. here i ++ rest i) ∙ ap (λ (p : Option Hand). pass_taken p ++ passes_taken ds) (sym none)
  where
    here : others_than (k + 0) (pass_taken d.pass) ≡ []
    here = others_none (k + 0) (pass_taken d.pass) (pass_owned n (k + 0) d (ends 0 d refl))

    rest : others_than (k + 0) (passes_taken ds) ≡ passes_taken ds
    rest = others_below n (k + 0) (suc k) ds (omega arith) (tail_ends n k d ds ends)
others_at n k (suc j) (d ∷ ds) e f at none ends = filter-append (λ (x : Slip). not (x.tag.owner == k + suc j)) (pass_taken d.pass) (passes_taken ds)
    ∙ (let rest = ap (λ (m : ℕ). others_than m (passes_taken ds)) (let z : k + suc j ≡ suc k + j = omega arith in z) ∙ others_at n (suc k) j ds e f at none (tail_ends n k d ds ends) in λ i. here i ++ rest i)
  where
    here : others_than (k + suc j) (pass_taken d.pass) ≡ pass_taken d.pass
    here = others_same (k + suc j) k (pass_taken d.pass) (λ s. let t : k ≡ k + suc j = s in omega arith) (pass_owned n k d (head_end n k d ds ends))

-- all owners are places
pub passes_within : (n k most : ℕ) (es : List EndValue) → k + length es ≤ most → AreEnds n k es → AllBelow most (passes_taken es)
passes_within n k most [] few ends = All-nil (λ (x : Slip). x.tag.owner < most)
passes_within n k most (e ∷ es) few ends = All-append (λ (x : Slip). x.tag.owner < most) (pass_taken e.pass) (passes_taken es)
    (All-weaker (IsOwned k) (λ (x : Slip). x.tag.owner < most) (λ x is. let o : x.tag.owner ≡ k = is in omega arith) (pass_taken e.pass) (pass_owned n k e (head_end n k e es ends)))
    (passes_within n (suc k) most es (omega arith) (tail_ends n k e es ends))

-- the deques whose pass is away

-- with the same passes and deques, nothing else of the bench changes
abbrev pub IsLike : EndValue → EndValue → Type 0
IsLike d e = (e.deque ≡ d.deque) × ((k : ℕ) → gone k e.pass ≡ gone k d.pass)

pub gone_same : (d e : EndValue) → e.pass ≡ d.pass → (k : ℕ) → gone k e.pass ≡ gone k d.pass
gone_same d e same k = ap (gone k) same

abbrev pub AreLike : List EndValue → List EndValue → Type 0
AreLike old new = (length new ≡ length old) × ((k : ℕ) (d e : EndValue) → slice_get old k ≡ Some d → slice_get new k ≡ Some e → IsLike d e)

pub calls_like : (old new : List EndValue) → AreLike old new → map (λ (e : EndValue). e.deque) new ≡ map (λ (e : EndValue). e.deque) old
calls_like [] [] like = refl
calls_like [] (e ∷ es) like = absurd (let m : length (e ∷ es) ≡ 0 = like.0 in omega arith)
calls_like (d ∷ ds) [] like = absurd (let m : 0 ≡ length (d ∷ ds) = like.0 in omega arith)
calls_like (d ∷ ds) (e ∷ es) like = λ i. (like.1 0 d e refl refl).0 i ∷ calls_like ds es ((let m : suc (length es) ≡ suc (length ds) = like.0 in omega arith), λ k f g p q. like.1 (suc k) f g p q) i

pub away_like : (n k : ℕ) (old new : List EndValue) → AreLike old new → away_from n k new ≡ away_from n k old
away_like n k [] [] like = refl
away_like n k [] (e ∷ es) like = absurd (let m : length (e ∷ es) ≡ 0 = like.0 in omega arith)
away_like n k (d ∷ ds) [] like = absurd (let m : 0 ≡ length (d ∷ ds) = like.0 in omega arith)
away_like n k (d ∷ ds) (e ∷ es) like = λ i. (if k == n then [] else (like.1 0 d e refl refl).1 k i) ++ away_like n (suc k) ds es ((let m : suc (length es) ≡ suc (length ds) = like.0 in omega arith), λ j f g p q. like.1 (suc j) f g p q) i

-- where nothing is away, each other deque has its pass
pub has_pass : (n k j : ℕ) (es : List EndValue) (e : EndValue) → (Contains (away_from n k es) (k + j) → ⊥) → k + j ≢ n → slice_get es j ≡ Some e → (v : Hand) × (e.pass ≡ Some v)
has_pass n k j [] e here other at = absurd (none-some e at)
has_pass n k zero (f ∷ fs) e here other at = by f.pass refl
  where
    test : (k == n) ≡ false
    test = ne_eqb k n (λ s. other (let z : k ≡ n = s in omega arith))

    same : k ≡ k + 0
    same = omega arith

    by : (p : Option Hand) → f.pass ≡ p → (v : Hand) × (e.pass ≡ Some v)
    by None is = absurd (here (Contains-append_left (if k == n then [] else gone k f.pass) (away_from n (suc k) fs) (k + 0)
        (subst (λ (l : List ℕ). Contains l (k + 0)) (sym (ap (λ (b : Bool). if b then [] else gone k f.pass) test ∙ ap (gone k) is)) (0, omega arith, same))))
    by (Some v) is = (v, ap (λ (g : EndValue). g.pass) (same_Some e f (sym at)) ∙ is)
has_pass n k (suc j) (f ∷ fs) e here other at = has_pass n (suc k) j fs e
    (λ there. here (Contains-append_right (if k == n then [] else gone k f.pass) (away_from n (suc k) fs) (k + suc j) (subst (λ (m : ℕ). Contains (away_from n (suc k) fs) m) (let z : suc k + j ≡ k + suc j = omega arith in z) there)))
    (λ s. other (let z : suc k + j ≡ n = s in omega arith)) at

-- one more is away
pub away_more : (g : ℕ → ℕ) (n k j : ℕ) (es : List EndValue) (e f : EndValue) (v : Hand) → k + j ≢ n → slice_get es j ≡ Some e → e.pass ≡ Some v → f.pass ≡ None
    → weigh g (away_from n k (set es j f)) ≡ weigh g (away_from n k es) + g (k + j)
away_more g n k j [] e f v other at had none = absurd (none-some e at)
away_more g n k zero (d ∷ ds) e f v other at had none =
    let a = weigh-append g (if k == n then [] else gone k f.pass) (away_from n (suc k) ds) in
    let b = weigh-append g (if k == n then [] else gone k d.pass) (away_from n (suc k) ds) in
    let c : weigh g (if k == n then [] else gone k f.pass) ≡ g k + 0 = ap (λ (t : Bool). weigh g (if t then [] else gone k f.pass)) test ∙ ap (λ (p : Option Hand). weigh g (gone k p)) none in
    let z : weigh g (if k == n then [] else gone k d.pass) ≡ 0 = ap (λ (t : Bool). weigh g (if t then [] else gone k d.pass)) test ∙ ap (λ (p : Option Hand). weigh g (gone k p)) (ap (λ (h : EndValue). h.pass) (same_Some d e at) ∙ had) in
    let s : g (k + 0) ≡ g k = ap g (let y : k + 0 ≡ k = omega arith in y) in omega arith
  where
    test : (k == n) ≡ false
    test = ne_eqb k n (λ s. other (let y : k ≡ n = s in omega arith))
away_more g n k (suc j) (d ∷ ds) e f v other at had none =
    let a = weigh-append g (if k == n then [] else gone k d.pass) (away_from n (suc k) (set ds j f)) in
    let b = weigh-append g (if k == n then [] else gone k d.pass) (away_from n (suc k) ds) in
    let rest = away_more g n (suc k) j ds e f v (λ s. other (let z : suc k + j ≡ n = s in omega arith)) at had none in
    let s : g (k + suc j) ≡ g (suc k + j) = ap g (let y : k + suc j ≡ suc k + j = omega arith in y) in omega arith

-- what the passes have taken

pub passes_same : (old new : List EndValue) → length new ≡ length old → ((k : ℕ) (d e : EndValue) → slice_get old k ≡ Some d → slice_get new k ≡ Some e → e.pass ≡ d.pass) → passes_taken new ≡ passes_taken old
passes_same [] [] many same = refl
passes_same [] (e ∷ es) many same = absurd (let m : length (e ∷ es) ≡ 0 = many in omega arith)
passes_same (d ∷ ds) [] many same = absurd (let m : 0 ≡ length (d ∷ ds) = many in omega arith)
passes_same (d ∷ ds) (e ∷ es) many same = λ i. pass_taken (same 0 d e refl refl i) ++ passes_same ds es (let m : suc (length es) ≡ suc (length ds) = many in omega arith) (λ k f g p q. same (suc k) f g p q) i

pub passes_stole : (g : Slip → ℕ) (old new : List EndValue) (place : ℕ) (d e : EndValue) (x : Slip) → length new ≡ length old → slice_get old place ≡ Some d → slice_get new place ≡ Some e → Took d e x
    → ((k : ℕ) (a b : EndValue) → slice_get old k ≡ Some a → slice_get new k ≡ Some b → k ≢ place → SameEnd a b) → weigh g (passes_taken new) ≡ weigh g (passes_taken old) + g x
passes_stole g [] new place d e x many was now took others = absurd (none-some d was)
passes_stole g (a ∷ rest_old) [] place d e x many was now took others = absurd (none-some e now)
passes_stole g (a ∷ rest_old) (b ∷ rest_new) zero d e x many was now took others =
    let p = weigh-append g (pass_taken b.pass) (passes_taken rest_new) in
    let q = weigh-append g (pass_taken a.pass) (passes_taken rest_old) in
    let r : weigh g (pass_taken b.pass) ≡ weigh g (took.hand.taken ++ x ∷ []) = ap (λ (f : EndValue). weigh g (pass_taken f.pass)) (same_Some b e now) ∙ ap (λ (h : Option Hand). weigh g (pass_taken h)) took.now in
    let s : weigh g (pass_taken a.pass) ≡ weigh g took.hand.taken = ap (λ (f : EndValue). weigh g (pass_taken f.pass)) (same_Some a d was) ∙ ap (λ (h : Option Hand). weigh g (pass_taken h)) took.was in
    let t = weigh-push g took.hand.taken x in
    let u : weigh g (passes_taken rest_new) ≡ weigh g (passes_taken rest_old) = ap (weigh g) (passes_same rest_old rest_new (let m : suc (length rest_new) ≡ suc (length rest_old) = many in omega arith) (λ k f h i j. (others (suc k) f h i j (λ z. let y : suc k ≡ 0 = z in omega arith)).pass)) in omega arith
passes_stole g (a ∷ rest_old) (b ∷ rest_new) (suc place) d e x many was now took others =
    let p = weigh-append g (pass_taken b.pass) (passes_taken rest_new) in
    let q = weigh-append g (pass_taken a.pass) (passes_taken rest_old) in
    let r : weigh g (pass_taken b.pass) ≡ weigh g (pass_taken a.pass) = ap (λ (h : Option Hand). weigh g (pass_taken h)) (others 0 a b refl refl (λ z. let y : 0 ≡ suc place = z in omega arith)).pass in
    let rest = passes_stole g rest_old rest_new place d e x (let m : suc (length rest_new) ≡ suc (length rest_old) = many in omega arith) was now took (λ k f h i j other. others (suc k) f h i j (λ z. other (let y : suc k ≡ suc place = z in omega arith))) in omega arith

-- at a place of a list of numbers
pub known_at : (es : List EndValue) (k : ℕ) (e : EndValue) → slice_get es k ≡ Some e → slice_index (map (λ (d : EndValue). d.known) es) k ≡ e.known
known_at [] k e at = absurd (none-some e at)
known_at (f ∷ fs) zero e at = ap (λ (d : EndValue). d.known) (same_Some f e at)
known_at (f ∷ fs) (suc k) e at = known_at fs k e at

pub deque_at : (es fs : List EndValue) (k : ℕ) (e f : EndValue) → map (λ (d : EndValue). d.deque) fs ≡ map (λ (d : EndValue). d.deque) es → slice_get es k ≡ Some e → slice_get fs k ≡ Some f → f.deque ≡ e.deque
deque_at es fs k e f same p q = same_Some f.deque e.deque (sym (at fs k f q) ∙ ap (λ (l : List DequeId). slice_get l k) same ∙ at es k e p)
  where
    at : (ds : List EndValue) (i : ℕ) (d : EndValue) → slice_get ds i ≡ Some d → slice_get (map (λ (c : EndValue). c.deque) ds) i ≡ Some d.deque
    at [] i d is = absurd (none-some d is)
    at (c ∷ cs) zero d is = ap (λ (b : EndValue). Some b.deque) (same_Some c d is)
    at (c ∷ cs) (suc i) d is = at cs i d is
