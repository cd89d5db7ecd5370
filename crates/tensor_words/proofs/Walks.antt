-- Walks over codes and over words, and what is reached by them.
use Rattle.std.proofs.Common.{◌≡◌, refl, ◌∙◌, ℕ, List, [], ◌∷◌, ◌++◌, Contains, Some, None}
use Rattle.std.specs.Option.{option_map, option_and_then}
use Rattle.std.proofs.lemmas.List.Kept.{AllPairs-from_increasing}
use Rattle.list_facts.proofs.Rising.{same_members}
use Rattle.tensor_words.specs.Codes.{IsWord, code_of, word_of}
use Rattle.tensor_words.specs.Operators.{IsArrow, acted, op}
use Rattle.tensor_words.specs.Reach.{IsPath, walk, word_walk, IsReachedFrom, WalksAgree, ComponentListIsUnique}
use Rattle.tensor_words.proofs.CodeLaws.{codes_correspond}
use Rattle.tensor_words.proofs.Keeps.{operators_keep_words}
use Rattle.tensor_words.specs.Spaces.{SpaceType}
use Rattle.crystal_cartan.specs.declared.types.Arrow.{Arrow}

pub walks_agree : WalksAgree
unfolding walk word_walk op
walks_agree s [] c space path below = refl
walks_agree s (a ∷ path) c space arrows below =
    elim (acted s a (word_of s c)) as (λ o. acted s a (word_of s c) ≡ o
    → option_and_then (word_walk s path) o ≡ option_map (word_of s) (option_and_then (walk s path) (option_map (code_of s) o))) [
      | None ↦ λ is. refl
      | Some v ↦ λ is.
          let kept : IsWord s v = operators_keep_words s a v (word_of s c) space arrows.0 ((codes_correspond s space).0 c below).0 is in
          let codes = (codes_correspond s space).1 v kept in
          let rest : word_walk s path (word_of s (code_of s v)) ≡ option_map (word_of s) (walk s path (code_of s v)) =
          walks_agree s path (code_of s v) space arrows.1 codes.0 in
          rw codes.1 at rest
    ] refl

-- one arrow more at either end of a walk
pub walk-nil : (s : SpaceType) (c : ℕ) → walk s [] c ≡ Some c
unfolding walk
walk-nil s c = refl

pub walk-none : (s : SpaceType) (a : Arrow) (path : List Arrow) (c : ℕ) → op s a c ≡ None → walk s (a ∷ path) c ≡ None
unfolding walk
walk-none s a path c is = rw is refl

pub walk-cons : (s : SpaceType) (a : Arrow) (path : List Arrow) (c d : ℕ) → op s a c ≡ Some d → walk s (a ∷ path) c ≡ walk s path d
unfolding walk
walk-cons s a path c d is = rw is refl

pub walk-push : (s : SpaceType) (path : List Arrow) (a : Arrow) (c d : ℕ) → walk s path c ≡ Some d → walk s (path ++ a ∷ []) c ≡ op s a d
unfolding walk
walk-push s [] a c d is =
    let same : c ≡ d = cc in
    rw same (elim (op s a d) as (λ o. option_and_then (walk s []) o ≡ o) [ None ↦ refl | Some x ↦ refl ])
walk-push s (b ∷ path) a c d is =
    elim (op s b c) as (λ o. option_and_then (walk s path) o ≡ Some d → option_and_then (walk s (path ++ a ∷ [])) o ≡ op s a d) [
      | None ↦ λ none. cc
      | Some x ↦ λ rest. walk-push s path a x d rest
    ] is

pub walk_more : (s : SpaceType) (path : List Arrow) (a : Arrow) (c d e : ℕ) → walk s path c ≡ Some d → op s a d ≡ Some e → walk s (path ++ a ∷ []) c ≡ Some e
walk_more s path a c d e before leads = walk-push s path a c d before ∙ leads

pub path-push : (s : SpaceType) (path : List Arrow) (a : Arrow) → IsPath s path → IsArrow s a → IsPath s (path ++ a ∷ [])
path-push s [] a arrows fits = (fits, tt)
path-push s (b ∷ path) a arrows fits = (arrows.0, path-push s path a arrows.1 fits)

-- what is reached: the roots, and what an arrow leads to from there
pub root_reached : (s : SpaceType) (roots : List ℕ) (c : ℕ) → Contains roots c → IsReachedFrom s roots c
root_reached s roots c there = record { root = c; rooted = there; path = []; arrows = tt; leads = walk-nil s c }

pub reached_more : (s : SpaceType) (roots : List ℕ) (a : Arrow) (c d : ℕ) → IsReachedFrom s roots c → IsArrow s a → op s a c ≡ Some d → IsReachedFrom s roots d
reached_more s roots a c d r fits leads = record {
  root = r.root;
  rooted = r.rooted;
  path = r.path ++ a ∷ [];
  arrows = path-push s r.path a r.arrows fits;
  leads = walk_more s r.path a r.root c d r.leads leads;
}

pub component_list_is_unique : ComponentListIsUnique
component_list_is_unique w xs ys p q =
    same_members xs ys (AllPairs-from_increasing xs p.ascending) (AllPairs-from_increasing ys q.ascending)
    (λ c within. q.complete c (p.sound c within)) (λ c within. p.complete c (q.sound c within))
