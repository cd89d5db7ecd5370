-- The command lines of a sample are taken, each as its command.
use Rattle.std.proofs.Common.{◌≡◌, ◌∙◌, refl, ap, ℕ, ◌≤◌, ◌==◌, nat_le, nat_lt, Bool, true, false, if◌then◌else◌, List, [], ◌∷◌, ◌++◌, length, length-append, append_assoc, Ok, arith}
use Rattle.std.specs.Prelude.{codes, decimal}
use Rattle.std.proofs.lemmas.Bool.{le-leb}
use Rattle.tensor_words.specs.Spaces.{SpaceType}
use Rattle.text_pieces.specs.Pieces.{is_word, words, are_printed}
use Rattle.text_pieces.proofs.Spaced.{word_before}
use Rattle.job_text.specs.declared.commands.Command.{Command}
use Rattle.job_text.specs.declared.commands.Command.TheVariants.{Find, Look, Move, Phi}
use Rattle.job_text.specs.declared.drafts.Progress.{Progress}
use Rattle.job_text.specs.declared.drafts.Stage.TheVariants.{Headed}
use Rattle.job_text.specs.declared.drafts.Known.TheVariants.{Begun}
use Rattle.job_text.specs.declared.keys.JobPart.{JobPart}
use Rattle.job_text.specs.declared.keys.JobPart.TheVariants as part
use Rattle.job_text.specs.declared.keys.Version.TheVariants.{One}
use Rattle.job_text.specs.Rules.{rule_of, rule_of_key, table}
use Rattle.job_text.specs.Drafts.{Drafted, last_script, with_command}
use Rattle.job_text.specs.Judge.{line_made, worded, ruled, made, drafted, has_room, coded, indexed, arrow}
use Rattle.sample_jobs.specs.Samples.{index_text, before_word}
use Rattle.sample_jobs.proofs.Texts.{printed_append, IsIndexText}
use Rattle.sample_jobs.proofs.Lines.{is_plain}

-- a draft in a part of a job of version 1
abbrev pub progress : JobPart → Drafted → Progress
progress p d = record { version = One; part = p; known = Begun d }

-- a line is judged by its words
pub by_words : (line : List ℕ) (ws : List (List ℕ)) (p q : Progress) → are_printed line ≡ true → words line ≡ ws → worded ws p ≡ Ok q →
    line_made line (Headed p) ≡ Ok (Headed q)
unfolding line_made
by_words line ws p q printed cut judged = rw (printed, cut, judged) refl

-- ---- the five kinds

find_worded : (d : Drafted) (args : List (List ℕ)) (c : ℕ) → nat_le 1 (length args) ≡ true → nat_lt (length (last_script d)) 4096 ≡ true →
    coded d.space args ≡ Ok c → worded (codes "find" ∷ args) (progress part.Session d) ≡ Ok (progress part.Session (with_command d (Find c)))
unfolding worded ruled rule_of rule_of_key table made drafted has_room
find_worded d args c some room read = rw (some, room, read) refl

look_worded : (d : Drafted) (number : List ℕ) (args : List (List ℕ)) (i c : ℕ) → nat_le 3 (length (codes "f" ∷ number ∷ args)) ≡ true →
    nat_lt (length (last_script d)) 4096 ≡ true → indexed d.space number ≡ Ok i → coded d.space args ≡ Ok c →
    worded (codes "look" ∷ codes "f" ∷ number ∷ args) (progress part.Session d) ≡ Ok (progress part.Session (with_command d (Look (arrow true i) c)))
unfolding worded ruled rule_of rule_of_key table made drafted has_room
look_worded d number args i c some room index read = rw (some, room, index, read) refl

-- a command of a key word, an index and a word is taken
abbrev IsWorded : List ℕ → (ℕ → ℕ → Command) → Type 0
IsWorded key command =
    (d : Drafted) (number : List ℕ) (args : List (List ℕ)) (i c : ℕ) → nat_le 2 (length (number ∷ args)) ≡ true →
    nat_lt (length (last_script d)) 4096 ≡ true → indexed d.space number ≡ Ok i → coded d.space args ≡ Ok c →
    worded (key ∷ number ∷ args) (progress part.Session d) ≡ Ok (progress part.Session (with_command d (command i c)))

lower_worded : IsWorded (codes "f") (λ i c. Move (arrow true i) c)
unfolding worded ruled rule_of rule_of_key table made drafted has_room
lower_worded d number args i c some room index read = rw (some, room, index, read) refl

raise_worded : IsWorded (codes "e") (λ i c. Move (arrow false i) c)
unfolding worded ruled rule_of rule_of_key table made drafted has_room
raise_worded d number args i c some room index read = rw (some, room, index, read) refl

phi_worded : IsWorded (codes "phi") (λ i c. Phi i c)
unfolding worded ruled rule_of rule_of_key table made drafted has_room
phi_worded d number args i c some room index read = rw (some, room, index, read) refl

-- ---- their lines

-- a key word, an index and a word
indexed_words : (key text : List ℕ) (i : ℕ) → is_word key ≡ true → is_word (decimal i) ≡ true →
    words ((key ++ 32 ∷ index_text i) ++ text) ≡ key ∷ decimal i ∷ words text
indexed_words key text i word index =
    ap words (append_assoc key (32 ∷ index_text i) text ∙ ap (λ rest. key ++ 32 ∷ rest) (append_assoc (decimal i) (32 ∷ []) text))
    ∙ word_before key (decimal i ++ 32 ∷ text) word
    ∙ ap (λ ws. key ∷ ws) (word_before (decimal i) text index)

indexed_printed : (key text : List ℕ) (i : ℕ) → are_printed key ≡ true → are_printed (decimal i) ≡ true → are_printed text ≡ true →
    are_printed ((key ++ 32 ∷ index_text i) ++ text) ≡ true
indexed_printed key text i word index printed =
    printed_append (key ++ 32 ∷ index_text i) text (printed_append key (32 ∷ index_text i) word (printed_append (decimal i) (32 ∷ []) index refl)) printed

-- what a line of a command needs: its index, its word, and room
pub record IsReady (d : Drafted) (i c : ℕ) (text : List ℕ) : Type 0 where
  pub index : IsIndexText d.space i (decimal i)
  pub printed : are_printed text ≡ true
  pub short : length text ≤ 126
  pub read : coded d.space (words text) ≡ Ok c
  pub some : 1 ≤ length (words text)
  pub room : nat_lt (length (last_script d)) 4096 ≡ true

abbrev TakenAs : Drafted → List ℕ → Command → Type 0
TakenAs d line command = line_made line (Headed (progress part.Session d)) ≡ Ok (Headed (progress part.Session (with_command d command)))

find_taken : (d : Drafted) (i c : ℕ) (text : List ℕ) → IsReady d i c text → TakenAs d (codes "find " ++ text) (Find c)
find_taken d i c text r =
    by_words (codes "find " ++ text) (codes "find" ∷ words text) (progress part.Session d) (progress part.Session (with_command d (Find c)))
    r.printed (word_before (codes "find") text refl) (find_worded d (words text) c (le-leb 1 (length (words text)) r.some) r.room r.read)

look_taken : (d : Drafted) (i c : ℕ) (text : List ℕ) → IsReady d i c text → TakenAs d ((codes "look f " ++ index_text i) ++ text) (Look (arrow true i) c)
look_taken d i c text r =
    by_words ((codes "look f " ++ index_text i) ++ text) (codes "look" ∷ codes "f" ∷ decimal i ∷ words text)
    (progress part.Session d) (progress part.Session (with_command d (Look (arrow true i) c)))
    (indexed_printed (codes "look f") text i refl r.index.printed r.printed)
    (word_before (codes "look") ((codes "f" ++ 32 ∷ index_text i) ++ text) refl
    ∙ ap (λ ws. codes "look" ∷ ws) (indexed_words (codes "f") text i refl r.index.word))
    (look_worded d (decimal i) (words text) i c (le-leb 3 (length (codes "f" ∷ decimal i ∷ words text)) (omega (arith, r.some))) r.room r.index.read r.read)

indexed_taken : (key : List ℕ) (command : ℕ → ℕ → Command) → is_word key ≡ true → are_printed key ≡ true → IsWorded key command →
    (d : Drafted) (i c : ℕ) (text : List ℕ) → IsReady d i c text → TakenAs d ((key ++ 32 ∷ index_text i) ++ text) (command i c)
indexed_taken key command word printed taken d i c text r =
    by_words ((key ++ 32 ∷ index_text i) ++ text) (key ∷ decimal i ∷ words text) (progress part.Session d) (progress part.Session (with_command d (command i c)))
    (indexed_printed key text i printed r.index.printed r.printed) (indexed_words key text i word r.index.word)
    (taken d (decimal i) (words text) i c (le-leb 2 (length (decimal i ∷ words text)) (omega (arith, r.some))) r.room r.index.read r.read)

-- ---- by kind

-- the command of a kind about an index and a word
pub command_of : ℕ → ℕ → ℕ → Command
command_of kind i c =
    if kind == 0 then Find c
    else if kind == 1 then Look (arrow true i) c
    else if kind == 2 then Move (arrow true i) c
    else if kind == 3 then Move (arrow false i) c
    else Phi i c

-- a command up to its word, by the tests of its kind
abbrev front : Bool → Bool → Bool → Bool → ℕ → List ℕ
front find look lower raise i =
    if find then codes "find "
    else if look then codes "look f " ++ index_text i
    else if lower then codes "f " ++ index_text i
    else if raise then codes "e " ++ index_text i
    else codes "phi " ++ index_text i

taken_by_tests : (find look lower raise : Bool) (d : Drafted) (i c : ℕ) (text : List ℕ) → IsReady d i c text →
    TakenAs d (front find look lower raise i ++ text)
    (if find then Find c else if look then Look (arrow true i) c else if lower then Move (arrow true i) c else if raise then Move (arrow false i) c else Phi i c)
taken_by_tests true look lower raise d i c text r = find_taken d i c text r
taken_by_tests false true lower raise d i c text r = look_taken d i c text r
taken_by_tests false false true raise d i c text r = indexed_taken (codes "f") (λ i c. Move (arrow true i) c) refl refl lower_worded d i c text r
taken_by_tests false false false true d i c text r = indexed_taken (codes "e") (λ i c. Move (arrow false i) c) refl refl raise_worded d i c text r
taken_by_tests false false false false d i c text r = indexed_taken (codes "phi") (λ i c. Phi i c) refl refl phi_worded d i c text r

pub command_taken : (d : Drafted) (kind i c : ℕ) (text : List ℕ) → IsReady d i c text → TakenAs d (before_word kind i ++ text) (command_of kind i c)
unfolding before_word command_of
command_taken d kind i c text r = taken_by_tests (kind == 0) (kind == 1) (kind == 2) (kind == 3) d i c text r

-- the line is plain
plain_front : (key text : List ℕ) (s : SpaceType) (i : ℕ) → are_printed key ≡ true → length key ≤ 7 → IsIndexText s i (decimal i) →
    are_printed text ≡ true → length text ≤ 126 → is_plain ((key ++ index_text i) ++ text) ≡ true
plain_front key text s i word few index printed short =
    let all : are_printed ((key ++ index_text i) ++ text) ≡ true =
    printed_append (key ++ index_text i) text (printed_append key (index_text i) word (printed_append (decimal i) (32 ∷ []) index.printed refl)) printed in
    let size : length ((key ++ index_text i) ++ text) ≤ 199 =
    omega (arith, length-append (key ++ index_text i) text, length-append key (index_text i), length-append (decimal i) (32 ∷ []), index.short) in
    let test : nat_le (length ((key ++ index_text i) ++ text)) 199 ≡ true = le-leb (length ((key ++ index_text i) ++ text)) 199 size in
    rw (all, test) refl

plain_find : (text : List ℕ) → are_printed text ≡ true → length text ≤ 126 → is_plain (codes "find " ++ text) ≡ true
plain_find text printed short =
    let size : length (codes "find " ++ text) ≤ 199 = omega arith in
    let test : nat_le (length (codes "find " ++ text)) 199 ≡ true = le-leb (length (codes "find " ++ text)) 199 size in
    rw (printed, test) refl

plain_by_tests : (find look lower raise : Bool) (s : SpaceType) (i : ℕ) (text : List ℕ) → IsIndexText s i (decimal i) → are_printed text ≡ true → length text ≤ 126 →
    is_plain (front find look lower raise i ++ text) ≡ true
plain_by_tests true look lower raise s i text index printed short = plain_find text printed short
plain_by_tests false true lower raise s i text index printed short = plain_front (codes "look f ") text s i refl (omega arith) index printed short
plain_by_tests false false true raise s i text index printed short = plain_front (codes "f ") text s i refl (omega arith) index printed short
plain_by_tests false false false true s i text index printed short = plain_front (codes "e ") text s i refl (omega arith) index printed short
plain_by_tests false false false false s i text index printed short = plain_front (codes "phi ") text s i refl (omega arith) index printed short

pub command_plain : (s : SpaceType) (kind i : ℕ) (text : List ℕ) → IsIndexText s i (decimal i) → are_printed text ≡ true → length text ≤ 126 →
    is_plain (before_word kind i ++ text) ≡ true
unfolding before_word
command_plain s kind i text index printed short = plain_by_tests (kind == 0) (kind == 1) (kind == 2) (kind == 3) s i text index printed short
