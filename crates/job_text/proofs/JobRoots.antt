-- The roots of a draft make a world.
use Rattle.std.proofs.Common.{◌≡◌, ℕ, ◌*◌, ◌<◌, ◌≤◌, ◌==◌, ◌||◌, not, true, List, [], ◌∷◌, ◌++◌, length, length-append, All, Option, Some, None, IfSome, is_some, arith}
use Rattle.std.specs.List.{flat_map, sum_by}
use Rattle.std.specs.List.Sorted.{IsStrictlyIncreasing}
use Rattle.std.proofs.lemmas.Bool.Decides.{nat_tests}
use Rattle.std.proofs.lemmas.List.Concat.{flat_map-cons, length-flat_map}
use Rattle.std.proofs.lemmas.List.Elements.{All-append, All-cons, All-nil, All-tail}
use Rattle.std.proofs.lemmas.List.Sums.{sum_by-le}
use Rattle.tensor_words.specs.Spaces.{SpaceType, size}
use Rattle.job_text.specs.declared.commands.Command.{Command}
use Rattle.job_text.specs.declared.commands.Command.TheVariants.{Add, Find, Look, Move, Wt, Eps, Phi, Done}
use Rattle.job_text.specs.Jobs.{IsCommand, IsScript, added_code, added_codes, roots_of}
use Rattle.job_text.specs.Drafts.{Drafted, IsDraft, starts_from, starts_of}
use Rattle.job_text.proofs.Ascending.{ascending_rises, ascending_all, ascending_few, ascending_some}

all_in_turn : {X Y : Type 0} (P : Y → Type 0) (f : X → List Y) (xs : List X) → All (λ x. All P (f x)) xs → All P (flat_map f xs)
all_in_turn P f [] all = All-nil P
all_in_turn {X = X} P f (x ∷ xs) all =
    let Q : X → Type 0 = λ y. All P (f y) in
    rw (flat_map-cons f x xs) (All-append P (f x) (flat_map f xs) (all 0 x (omega arith)) (all_in_turn P f xs (All-tail Q x xs all)))

added_is_word : (s : SpaceType) (c : Command) → IsCommand s c → All (λ n. n < size s) (added_code c)
added_is_word s (Add c) good = All-cons (λ n. n < size s) c [] good (All-nil (λ n. n < size s))
added_is_word s (Find c) good = All-nil (λ n. n < size s)
added_is_word s (Look a c) good = All-nil (λ n. n < size s)
added_is_word s (Move a c) good = All-nil (λ n. n < size s)
added_is_word s (Wt c) good = All-nil (λ n. n < size s)
added_is_word s (Eps i c) good = All-nil (λ n. n < size s)
added_is_word s (Phi i c) good = All-nil (λ n. n < size s)
added_is_word s Done good = All-nil (λ n. n < size s)

script_adds_words : (s : SpaceType) (script : List Command) → IsScript s script → All (λ n. n < size s) (added_codes script)
script_adds_words s script good =
    all_in_turn (λ n. n < size s) added_code script (λ k c within. added_is_word s _ (good.0 k c within))

added_are_words : (s : SpaceType) (scripts : List (List Command)) → All (IsScript s) scripts → All (λ n. n < size s) (flat_map added_codes scripts)
added_are_words s scripts good =
    all_in_turn (λ n. n < size s) added_codes scripts (λ k script within. script_adds_words s _ (good k script within))

one_code : (c : Command) → length (added_code c) ≤ 1
one_code (Add c) = omega arith
one_code (Find c) = omega arith
one_code (Look a c) = omega arith
one_code (Move a c) = omega arith
one_code (Wt c) = omega arith
one_code (Eps i c) = omega arith
one_code (Phi i c) = omega arith
one_code Done = omega arith

script_adds_few : (script : List Command) → length (added_codes script) ≤ length script
script_adds_few script =
    omega (arith, length-flat_map added_code script, sum_by-le (λ (c : Command). length (added_code c)) 1 script (λ k c within. one_code _))

added_are_few : (s : SpaceType) (scripts : List (List Command)) → All (IsScript s) scripts → length scripts ≤ 16 → length (flat_map added_codes scripts) ≤ 65536
added_are_few s scripts good few =
    let sum : sum_by (λ (script : List Command). length (added_codes script)) scripts ≤ length scripts * 4096 =
    sum_by-le (λ (script : List Command). length (added_codes script)) 4096 scripts (λ k script within. few_of _ (good k script within)) in
    omega (arith, length-flat_map added_codes scripts, sum)
  where
    few_of : (script : List Command) → IsScript s script → length (added_codes script) ≤ 4096
    few_of script is = omega (arith, script_adds_few script, is.1)

starts_are_words : (s : SpaceType) (top : Option ℕ) (starts : List ℕ) → IfSome top (λ c. c < size s) → All (λ c. c < size s) starts →
    All (λ c. c < size s) (starts_from top starts)
starts_are_words s None starts first all = all
starts_are_words s (Some c) starts first all = All-cons (λ n. n < size s) c starts first all

starts_are_few : (top : Option ℕ) (starts : List ℕ) → length starts ≤ 256 → length (starts_from top starts) ≤ 257
starts_are_few None starts few = omega arith
starts_are_few (Some c) starts few = omega arith

starts_are_some : (top : Option ℕ) (starts : List ℕ) → (is_some top || not (length starts == 0)) ≡ true → 0 < length (starts_from top starts)
starts_are_some None starts some = grind (arith, nat_tests)
starts_are_some (Some c) starts some = omega arith

pub roots_some : (d : Drafted) → (is_some d.top || not (length d.starts == 0)) ≡ true → 0 < length (roots_of (starts_of d) d.scripts)
roots_some d some =
    ascending_some (starts_of d ++ flat_map added_codes d.scripts)
    (omega (arith, length-append (starts_of d) (flat_map added_codes d.scripts), starts_are_some d.top d.starts some))

pub roots_few : (d : Drafted) → IsDraft d → length (roots_of (starts_of d) d.scripts) ≤ 65793
roots_few d is =
    omega (
      arith,
      ascending_few (starts_of d ++ flat_map added_codes d.scripts),
      length-append (starts_of d) (flat_map added_codes d.scripts),
      starts_are_few d.top d.starts is.few_starts,
      added_are_few d.space d.scripts is.scripts is.few_scripts,
    )

pub roots_rise : (d : Drafted) → IsStrictlyIncreasing (roots_of (starts_of d) d.scripts)
roots_rise d = ascending_rises (starts_of d ++ flat_map added_codes d.scripts)

pub roots_words : (d : Drafted) → IsDraft d → All (λ c. c < size d.space) (roots_of (starts_of d) d.scripts)
roots_words d is =
    ascending_all (λ c. c < size d.space) (starts_of d ++ flat_map added_codes d.scripts)
    (All-append (λ c. c < size d.space) (starts_of d) (flat_map added_codes d.scripts)
    (starts_are_words d.space d.top d.starts is.top is.starts) (added_are_words d.space d.scripts is.scripts))
