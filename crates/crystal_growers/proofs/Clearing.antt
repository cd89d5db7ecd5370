-- What is left in all deques, taken by a seat.
use Rattle.std.proofs.Common.{◌≡◌, refl, sym, ap, subst, ◌∙◌, ℕ, ◌+◌, ◌<◌, ◌≤◌, ◌≢◌, List, [], ◌++◌, length, take, get_or, set, arith}
use Rattle.std.proofs.lemmas.List.{take_all, take_more, length-set, get_or-set_other}
use Rattle.graph_rule.specs.Values.{GraphValue, SeatValue}
use Rattle.parcel_deques.specs.declared.parcel.Slip.{Slip}
use Rattle.parcel_deques.specs.Lists.{weigh, SameItems}
use Rattle.parcel_deques.specs.Parcels.{owned_by}
use Rattle.parcel_deques.specs.Benches.{BenchValue, HasAll}
use Rattle.parcel_deques.specs.Gather.{all_taken}
use Rattle.parcel_deques.proofs.Weights.{weigh-append}
use Rattle.parcel_deques.proofs.Slips.{owned_same}
use Rattle.crystal_growers.specs.Slips.{all_pushed}
use Rattle.crystal_growers.specs.Grower.{HasWorked, HasSwept}
use Rattle.crystal_growers.specs.Gathering.{AreHome, HasCleared}
use Rattle.crystal_growers.proofs.Acting.{works_then}
use Rattle.crystal_growers.proofs.Collection.{pushed_push, taken_push}

-- all benches, one after another
pub record IsClearing (g : GraphValue) (first now : SeatValue) (old benches : List BenchValue) (place : ℕ) : Type 0 where
  pub got : List Slip
  pub worked : HasWorked g first now got []
  pub many : length benches ≡ length old
  pub rest : (i : ℕ) (d : BenchValue) → place ≤ i → get_or benches i d ≡ get_or old i d
  pub all : SameItems (all_taken (take place old) ++ got) (all_pushed (take place old))

pub clearing_none : (g : GraphValue) (first now : SeatValue) (benches : List BenchValue) → HasWorked g first now [] [] → IsClearing g first now benches benches 0
clearing_none g first now benches worked = record {
  got = [];
  worked = worked;
  many = refl;
  rest = λ i d low. refl;
  all = λ h. refl;
}

pub clearing_next : (g : GraphValue) (first mid now : SeatValue) (old benches : List BenchValue) (place : ℕ) (d b : BenchValue) → IsClearing g first mid old benches place → place < length old → AreHome old → HasSwept g mid now (get_or benches place d) b
    → IsClearing g first now old (set benches place b) (place + 1)
clearing_next g first mid now old benches place d b p below home s = record {
  got = p.got ++ s.got;
  worked = works_then g first mid now p.got [] s.got [] p.worked s.sweeping.worked;
  many = length-set benches place b ∙ p.many;
  rest = λ i e low. get_or-set_other benches place i b e (let ne : i ≢ place = omega arith in ne) ∙ p.rest i e (omega arith);
  all = λ h.
      let taken : weigh h (all_taken (take (place + 1) old)) ≡ weigh h (all_taken (take place old) ++ here.taken) = ap (λ (l : List Slip). weigh h l) (ap all_taken (take_more old place d below) ∙ taken_push (take place old) here) in
      let pushed : weigh h (all_pushed (take (place + 1) old)) ≡ weigh h (all_pushed (take place old) ++ here.pushed) = ap (λ (l : List Slip). weigh h l) (ap all_pushed (take_more old place d below) ∙ pushed_push (take place old) here) in
      let before = p.all h in
      let own = one h in
      let k = weigh-append h (all_taken (take (place + 1) old)) (p.got ++ s.got) in
      let l = weigh-append h p.got s.got in
      let m = weigh-append h (all_taken (take place old)) here.taken in
      let n = weigh-append h (all_pushed (take place old)) here.pushed in
      let o = weigh-append h (all_taken (take place old)) p.got in
      let q = weigh-append h here.taken s.got in
      omega arith;
}
  where
    here : BenchValue
    here = get_or old place d

    is : get_or benches place d ≡ here
    is = p.rest place d (omega arith)

    one : SameItems (here.taken ++ s.got) here.pushed
    one = λ h.
        let all = s.all (subst (λ (c : BenchValue). HasAll c) (sym is) (home place d below).0) h in
        let owned : owned_by (get_or benches place d).number (get_or benches place d).taken ≡ here.taken = ap (λ (c : BenchValue). owned_by c.number c.taken) is ∙ owned_same here.number here.taken (home place d below).1 in
        ap (λ (l : List Slip). weigh h (l ++ s.got)) (sym owned) ∙ all ∙ ap (λ (c : BenchValue). weigh h c.pushed) is

pub has_cleared : (g : GraphValue) (first now : SeatValue) (old benches : List BenchValue) (place : ℕ) → IsClearing g first now old benches place → length old ≤ place → HasCleared g first now old
has_cleared g first now old benches place p all = record {
  got = p.got;
  worked = p.worked;
  all = subst (λ (l : List BenchValue). SameItems (all_taken l ++ p.got) (all_pushed l)) (take_all place old all) p.all;
}
