-- Benches before any pass is brought home, while they work.
use Rattle.std.proofs.Common.{◌≡◌, sym, subst, ◌∙◌, ℕ, ◌<◌, ◌⊎◌, inl, inr, List, length, set, get_or, arith}
use Rattle.std.proofs.lemmas.Bool.{cases_eq}
use Rattle.std.proofs.lemmas.List.{length-set, get_or-set_same, get_or-set_other}
use Rattle.parcel_deques.specs.Benches.{BenchValue}
use Rattle.parcel_deques.specs.Making.{IsApart, AreApart, AreNew}

pub apart_new : (growers capacity : ℕ) (bs : List BenchValue) → AreNew growers capacity bs → AreApart bs
apart_new growers capacity bs n = record {
  call = n.call;
  long = n.long ∙ sym n.many;
  each = λ k d within. let many = n.many in (n.each k d (omega arith)).apart;
}

-- a bench does something that leaves these
pub apart_on : (bs : List BenchValue) (k : ℕ) (old b : BenchValue) → AreApart bs → k < length bs → old ≡ get_or bs k old
    → b.number ≡ old.number → b.call ≡ old.call → b.home ≡ old.home → b.away ≡ old.away → AreApart (set bs k b)
apart_on bs k old b a within is number call home away = record {
  call = a.call;
  long = a.long ∙ sym (length-set bs k b);
  each = λ j d in_list. by j d in_list (cases_eq j k);
}
  where
    here : IsApart a.call k old
    here = subst (λ (x : BenchValue). IsApart a.call k x) (sym is) (a.each k old within)

    moved : IsApart a.call k b
    moved = record { number = number ∙ here.number; call_is = call ∙ here.call_is; home = home ∙ here.home; away = away ∙ here.away }

    by : (j : ℕ) (d : BenchValue) → j < length (set bs k b) → (j ≡ k) ⊎ (j ≡ k → ⊥) → IsApart a.call j (get_or (set bs k b) j d)
    by j d in_list (inl same) =
        subst (λ (n : ℕ). IsApart a.call n (get_or (set bs k b) n d)) (sym same)
        (subst (λ (x : BenchValue). IsApart a.call k x) (sym (get_or-set_same bs k b d within)) moved)
    by j d in_list (inr differ) =
        let long = length-set bs k b in
        subst (λ (x : BenchValue). IsApart a.call j x) (sym (get_or-set_other bs k j b d differ)) (a.each j d (omega arith))
