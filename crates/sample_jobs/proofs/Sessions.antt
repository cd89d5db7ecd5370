-- The sessions of a sample, one after another.
use Rattle.std.proofs.Common.{◌≡◌, ◌∙◌, refl, sym, ap, ℕ, zero, suc, ◌+◌, ◌-◌, ◌≤◌, ◌<◌, nat_lt, Bool, true, List, [], ◌∷◌, ◌++◌, length, length-append, map, get_or, set, Some, None, unwrap_or, Ok, arith}
use Rattle.std.specs.Prelude.{codes}
use Rattle.std.specs.List.{list_all, range_with_len}
use Rattle.std.proofs.Math.Seq.{get_or-append_seam, set-append_seam}
use Rattle.std.proofs.lemmas.Bool.Decides.{nat_tests}
use Rattle.std.proofs.lemmas.List.FromFn.{map-range_with_len_more, length-map-range_with_len}
use Rattle.crystal_cartan.specs.Types.{CartanType, IsCartan, HasIndex}
use Rattle.tensor_words.specs.Spaces.{SpaceType, IsSpace}
use Rattle.tensor_words.specs.Codes.{IsWord, code_of}
use Rattle.tensor_words.specs.TensorRule.{action}
use Rattle.tensor_words.proofs.KeptWords.{factors_of_space}
use Rattle.tensor_words.proofs.Keeps.{lower_keeps}
use Rattle.tableau_reading.specs.Texts.{word_text}
use Rattle.job_text.specs.declared.commands.Command.{Command}
use Rattle.job_text.specs.declared.drafts.Stage.{Stage}
use Rattle.job_text.specs.declared.drafts.Stage.TheVariants.{Headed}
use Rattle.job_text.specs.declared.keys.JobPart.{JobPart}
use Rattle.job_text.specs.declared.keys.JobPart.TheVariants as part
use Rattle.job_text.specs.Rules.{rule_of, rule_of_key, table, is_part_between}
use Rattle.job_text.specs.Drafts.{Drafted, last_script, with_session, with_command}
use Rattle.job_text.specs.Judge.{line_made, worded, ruled, made, drafted, has_room}
use Rattle.sample_jobs.specs.Samples.{number_behind, kind_chosen, index_chosen, lowered, word_at, command_line, session_command, session_lines}
use Rattle.sample_jobs.proofs.Lines.{after_lines, after_append, is_plain}
use Rattle.sample_jobs.proofs.Texts.{word_text_is, index_text_is}
use Rattle.sample_jobs.proofs.Commands.{progress, by_words, command_of, command_taken, command_plain}
use Rattle.crystal_cartan.proofs.Ranks.{rank_positive}

-- ---- what a number chooses

pub index_has : (t : CartanType) (x : ℕ) → IsCartan t → HasIndex t (index_chosen t x)
unfolding index_chosen
index_has t x c = let some : 0 < t.rank = rank_positive t c in record { low = omega arith; high = omega arith }

pub lowered_kept : (s : SpaceType) (i : ℕ) (w : List ℕ) → IsSpace s → HasIndex s.cartan i → IsWord s w → IsWord s (lowered s i w)
lowered_kept s i w space index word =
    elim ((action s i).lower w) as (λ o. (action s i).lower w ≡ o → IsWord s (unwrap_or o w)) [
      | None ↦ λ is. word
      | Some v ↦ λ is. lower_keeps s i w v (factors_of_space s space) index word is
    ] refl

pub word_kept : (s : SpaceType) (start : List ℕ) (x k : ℕ) → IsSpace s → IsWord s start → IsWord s (word_at s start x k)
unfolding word_at
word_kept s start x zero space word = word
word_kept s start x (suc k) space word =
    lowered_kept s (index_chosen s.cartan (number_behind (suc k) x)) (word_at s start x k) space
    (index_has s.cartan (number_behind (suc k) x) space.cartan) (word_kept s start x k space word)

-- numbers go on
pub number_goes_on : (a b x : ℕ) → number_behind a (number_behind b x) ≡ number_behind (a + b) x
unfolding number_behind
number_goes_on zero b x = let same : b ≡ 0 + b = omega arith in ap (λ n. number_behind n x) same
number_goes_on (suc a) b x =
    let next : suc a + b ≡ suc (a + b) = omega arith in
    rw (next, number_goes_on a b x) refl

-- ---- the commands of a session

abbrev pub scripted : Drafted → List (List Command) → Drafted
scripted d scripts = record d { scripts = scripts }

last_place : (scripts : List (List Command)) (script : List Command) → length (scripts ++ script ∷ []) - 1 ≡ length scripts
last_place scripts script = omega (arith, length-append scripts (script ∷ []))

last_is : (d : Drafted) (scripts : List (List Command)) (script : List Command) → last_script (scripted d (scripts ++ script ∷ [])) ≡ script
last_is d scripts script =
    ap (λ k. get_or (scripts ++ script ∷ []) k []) (last_place scripts script) ∙ get_or-append_seam scripts script [] []

one_more : (d : Drafted) (scripts : List (List Command)) (script : List Command) (c : Command) →
    with_command (scripted d (scripts ++ script ∷ [])) c ≡ scripted d (scripts ++ (script ++ c ∷ []) ∷ [])
one_more d scripts script c =
    ap (scripted d)
    (ap (λ k. set (scripts ++ script ∷ []) k (last_script (scripted d (scripts ++ script ∷ [])) ++ c ∷ [])) (last_place scripts script)
    ∙ ap (λ (last : List Command). set (scripts ++ script ∷ []) (length scripts) (last ++ c ∷ [])) (last_is d scripts script)
    ∙ set-append_seam scripts script [] (script ++ c ∷ []))

-- a draft in a session whose last script this is
abbrev running : Drafted → List (List Command) → List Command → Stage
running d scripts script = Headed (progress part.Session (scripted d (scripts ++ script ∷ [])))

commands_lead : (d : Drafted) (scripts : List (List Command)) (line : ℕ → List ℕ) (command : ℕ → Command) (n : ℕ) → n ≤ 4096 →
    ((k : ℕ) (script : List Command) → length script < 4096 → line_made (line k) (running d scripts script) ≡ Ok (running d scripts (script ++ command k ∷ []))) →
    after_lines (map line (range_with_len 0 n)) (running d scripts []) ≡ Ok (running d scripts (map command (range_with_len 0 n)))
commands_lead d scripts line command zero few each = refl
commands_lead d scripts line command (suc n) few each =
    let next : suc n ≡ n + 1 = omega arith in
    let lines_more : map line (range_with_len 0 (suc n)) ≡ map line (range_with_len 0 n) ++ line n ∷ [] =
    ap (λ k. map line (range_with_len 0 k)) next ∙ map-range_with_len_more line 0 n n (omega arith) in
    let commands_more : map command (range_with_len 0 (suc n)) ≡ map command (range_with_len 0 n) ++ command n ∷ [] =
    ap (λ k. map command (range_with_len 0 k)) next ∙ map-range_with_len_more command 0 n n (omega arith) in
    let size : length (map command (range_with_len 0 n)) ≡ n = length-map-range_with_len command 0 n in
    let here = each n (map command (range_with_len 0 n)) (omega arith) in
    ap (λ lines. after_lines lines (running d scripts [])) lines_more
    ∙ after_append (map line (range_with_len 0 n)) (line n ∷ []) (running d scripts []) (running d scripts (map command (range_with_len 0 n)))
    (commands_lead d scripts line command n (omega arith) each)
    ∙ rw here refl
    ∙ ap (λ script. Ok (running d scripts script)) (sym commands_more)

-- the command that a number chooses
pub chosen_command : SpaceType → List ℕ → ℕ → ℕ → Command
chosen_command s start x k =
    command_of (kind_chosen (number_behind (suc k) x)) (index_chosen s.cartan (number_behind (suc k) x)) (code_of s (word_at s start x k))

session_command_taken : (d : Drafted) (scripts : List (List Command)) (start : List ℕ) (x k : ℕ) (script : List Command) → IsSpace d.space → IsWord d.space start →
    length script < 4096 →
    line_made (session_command d.space start x k) (running d scripts script) ≡ Ok (running d scripts (script ++ chosen_command d.space start x k ∷ []))
unfolding session_command command_line chosen_command
session_command_taken d scripts start x k script space word few =
    let s = d.space in
    let y = number_behind (suc k) x in
    let w = word_at s start x k in
    let text = word_text_is s w space (word_kept s start x k space word) in
    let room : nat_lt (length script) 4096 ≡ true = grind (arith, nat_tests) in
    let last : nat_lt (length (last_script (scripted d (scripts ++ script ∷ [])))) 4096 ≡ true = rw (last_is d scripts script) room in
    command_taken (scripted d (scripts ++ script ∷ [])) (kind_chosen y) (index_chosen s.cartan y) (code_of s w) (word_text s w) (record {
      index = index_text_is s (index_chosen s.cartan y) space.cartan (index_has s.cartan y space.cartan);
      printed = text.printed;
      short = text.short;
      read = text.read;
      some = text.some;
      room = last;
    })
    ∙ ap (λ e. Ok (Headed (progress part.Session e)))
    (one_more d scripts script (command_of (kind_chosen y) (index_chosen s.cartan y) (code_of s w)))

-- ---- one session

pub session_script : SpaceType → List ℕ → ℕ → List Command
session_script s start x = map (chosen_command s start x) (range_with_len 0 64)

pub script_length : (s : SpaceType) (start : List ℕ) (x : ℕ) → length (session_script s start x) ≡ 64
unfolding session_script
script_length s start x = length-map-range_with_len (chosen_command s start x) 0 64

session_worded : (p : JobPart) (d : Drafted) → is_part_between part.Head part.Session p ≡ true → nat_lt (length d.scripts) 16 ≡ true →
    worded (codes "session" ∷ []) (progress p d) ≡ Ok (progress part.Session (with_session d))
unfolding worded ruled rule_of rule_of_key table made drafted has_room
session_worded p d placed room = rw (placed, room) refl

pub session_leads : (p : JobPart) (d : Drafted) (scripts : List (List Command)) (start : List ℕ) (x : ℕ) → IsSpace d.space → IsWord d.space start →
    is_part_between part.Head part.Session p ≡ true → nat_lt (length scripts) 16 ≡ true →
    after_lines (session_lines d.space start x) (Headed (progress p (scripted d scripts)))
    ≡ Ok (Headed (progress part.Session (scripted d (scripts ++ session_script d.space start x ∷ []))))
unfolding session_lines session_script
session_leads p d scripts start x space word placed room =
    let first : line_made (codes "session") (Headed (progress p (scripted d scripts))) ≡ Ok (running d scripts []) =
    by_words (codes "session") (codes "session" ∷ []) (progress p (scripted d scripts)) (progress part.Session (scripted d (scripts ++ [] ∷ [])))
    refl refl (session_worded p (scripted d scripts) placed room) in
    rw first
    (commands_lead d scripts (session_command d.space start x) (chosen_command d.space start x) 64 (omega arith)
    (λ k script few. session_command_taken d scripts start x k script space word few))

-- four sessions behind a head
pub four_lead : (d : Drafted) (start : List ℕ) (x₀ x₁ x₂ x₃ : ℕ) → IsSpace d.space → IsWord d.space start →
    after_lines
    (session_lines d.space start x₀ ++ (session_lines d.space start x₁ ++ (session_lines d.space start x₂ ++ (session_lines d.space start x₃ ++ []))))
    (Headed (progress part.Head (scripted d [])))
    ≡ Ok (Headed (progress part.Session (scripted d
    (session_script d.space start x₀ ∷ session_script d.space start x₁ ∷ session_script d.space start x₂ ∷ session_script d.space start x₃ ∷ []))))
four_lead d start x₀ x₁ x₂ x₃ space word =
    let s = d.space in
    let L : ℕ → List (List ℕ) = λ (x : ℕ). session_lines s start x in
    let C : ℕ → List Command = λ (x : ℕ). session_script s start x in
    after_append (L x₀) (L x₁ ++ (L x₂ ++ (L x₃ ++ []))) (Headed (progress part.Head (scripted d []))) (Headed (progress part.Session (scripted d (C x₀ ∷ []))))
    (session_leads part.Head d [] start x₀ space word refl refl)
    ∙ after_append (L x₁) (L x₂ ++ (L x₃ ++ [])) (Headed (progress part.Session (scripted d (C x₀ ∷ [])))) (Headed (progress part.Session (scripted d (C x₀ ∷ C x₁ ∷ []))))
    (session_leads part.Session d (C x₀ ∷ []) start x₁ space word refl refl)
    ∙ after_append (L x₂) (L x₃ ++ []) (Headed (progress part.Session (scripted d (C x₀ ∷ C x₁ ∷ [])))) (Headed (progress part.Session (scripted d (C x₀ ∷ C x₁ ∷ C x₂ ∷ []))))
    (session_leads part.Session d (C x₀ ∷ C x₁ ∷ []) start x₂ space word refl refl)
    ∙ after_append (L x₃) [] (Headed (progress part.Session (scripted d (C x₀ ∷ C x₁ ∷ C x₂ ∷ [])))) (Headed (progress part.Session (scripted d (C x₀ ∷ C x₁ ∷ C x₂ ∷ C x₃ ∷ []))))
    (session_leads part.Session d (C x₀ ∷ C x₁ ∷ C x₂ ∷ []) start x₃ space word refl refl)

-- ---- the lines are plain

all_mapped : {X : Type 0} (test : X → Bool) (f : ℕ → X) (a n : ℕ) → ((k : ℕ) → test (f k) ≡ true) → list_all test (map f (range_with_len a n)) ≡ true
all_mapped test f a zero each = refl
all_mapped test f a (suc n) each = rw (each a, all_mapped test f (a + 1) n each) refl

session_command_plain : (s : SpaceType) (start : List ℕ) (x k : ℕ) → IsSpace s → IsWord s start → is_plain (session_command s start x k) ≡ true
unfolding session_command command_line
session_command_plain s start x k space word =
    let y = number_behind (suc k) x in
    let w = word_at s start x k in
    let text = word_text_is s w space (word_kept s start x k space word) in
    command_plain s (kind_chosen y) (index_chosen s.cartan y) (word_text s w)
    (index_text_is s (index_chosen s.cartan y) space.cartan (index_has s.cartan y space.cartan)) text.printed text.short

pub session_plain : (s : SpaceType) (start : List ℕ) (x : ℕ) → IsSpace s → IsWord s start → list_all is_plain (session_lines s start x) ≡ true
unfolding session_lines
session_plain s start x space word = all_mapped is_plain (session_command s start x) 0 64 (λ k. session_command_plain s start x k space word)

pub session_length : (s : SpaceType) (start : List ℕ) (x : ℕ) → length (session_lines s start x) ≡ 65
unfolding session_lines
session_length s start x = ap (λ n. suc n) (length-map-range_with_len (session_command s start x) 0 64)
