-- The table of key words.
use Rattle.std.specs.Prelude.{ℕ, ◌≡◌, ◌==◌, ◌&&◌, nat_le, Bool, true, false, if◌then◌else◌, List, [], ◌∷◌, Option, Some, None, codes, bytes_eq}
use Rattle.job_text.specs.declared.keys.Key.{Key}
use Rattle.job_text.specs.declared.keys.Key.TheVariants.{Typing, Order, Shape, Space, Start, Cells, Session, Add, Find, Wt}
use Rattle.job_text.specs.declared.keys.Key.TheVariants.{Lower, Raise, Look, Eps, Phi, Done, Demazure, Tops, Reflect}
use Rattle.job_text.specs.declared.keys.Version.{Version}
use Rattle.job_text.specs.declared.keys.Version.TheVariants.{One, Two}
use Rattle.job_text.specs.declared.keys.JobPart.{JobPart}
use Rattle.job_text.specs.declared.keys.JobPart.TheVariants as part
use Rattle.job_text.specs.declared.keys.WordsBehind.{WordsBehind}
use Rattle.job_text.specs.declared.keys.WordsBehind.TheVariants.{Exactly, AtLeast}
use Rattle.job_text.specs.declared.keys.KeyRule.{KeyRule}

-- a row of the table: a key word and its rule
pub record KeyRow : Type 0 where
  pub word : List ℕ
  pub rule : KeyRule

abbrev pub rule : Key → Version → WordsBehind → JobPart → JobPart → JobPart → KeyRule
rule key since count first last next = record { key = key; since = since; count = count; first = first; last = last; next = next }

-- the rule of a command that every version has, and of an ask
abbrev pub command_rule : Key → WordsBehind → KeyRule
command_rule key count = rule key One count part.Session part.Session part.Session

abbrev pub ask_rule : Key → WordsBehind → KeyRule
ask_rule key count = rule key One count part.Head part.Asks part.Asks

abbrev pub key_row : List ℕ → KeyRule → KeyRow
key_row word r = record { word = word; rule = r }

-- the key word, what it makes the line, the first version that has it, how many words follow it, the first and the
-- last part where it may stand, and the part behind the line
unfoldable pub table : List KeyRow
table =
    key_row (codes "type") (rule Typing One (Exactly 2) part.Opening part.Opening part.Typed)
    ∷ key_row (codes "order") (rule Order Two (Exactly 1) part.Typed part.Typed part.Typed)
    ∷ key_row (codes "shape") (rule Shape One (AtLeast 1) part.Typed part.Typed part.Head)
    ∷ key_row (codes "space") (rule Space One (AtLeast 1) part.Typed part.Typed part.Head)
    ∷ key_row (codes "start") (rule Start One (AtLeast 1) part.Head part.Head part.Head)
    ∷ key_row (codes "cells") (rule Cells One (Exactly 1) part.Head part.Head part.Head)
    ∷ key_row (codes "session") (rule Session One (Exactly 0) part.Head part.Session part.Session)
    ∷ key_row (codes "add") (command_rule Add (AtLeast 1))
    ∷ key_row (codes "find") (command_rule Find (AtLeast 1))
    ∷ key_row (codes "wt") (command_rule Wt (AtLeast 1))
    ∷ key_row (codes "f") (command_rule Lower (AtLeast 2))
    ∷ key_row (codes "e") (command_rule Raise (AtLeast 2))
    ∷ key_row (codes "eps") (command_rule Eps (AtLeast 2))
    ∷ key_row (codes "phi") (command_rule Phi (AtLeast 2))
    ∷ key_row (codes "look") (command_rule Look (AtLeast 3))
    ∷ key_row (codes "done") (rule Done Two (Exactly 0) part.Session part.Session part.Session)
    ∷ key_row (codes "demazure") (ask_rule Demazure (AtLeast 1))
    ∷ key_row (codes "tops") (ask_rule Tops (AtLeast 1))
    ∷ key_row (codes "reflect") (ask_rule Reflect (Exactly 1))
    ∷ []

abbrev pub rule_in : List KeyRow → List ℕ → Option KeyRule
rule_in [] word = None
rule_in (r ∷ rows) word = if bytes_eq word r.word then Some r.rule else rule_in rows word

-- the rule of a key word, whatever the version
unfoldable pub rule_of_key : List ℕ → Option KeyRule
rule_of_key word = rule_in table word

-- whether a job of this version has the key words that came with the version `since`
abbrev pub is_taken : Version → Version → Bool
is_taken One version = true
is_taken Two One = false
is_taken Two Two = true

abbrev pub taken_in : Version → Option KeyRule → Option KeyRule
taken_in version None = None
taken_in version (Some r) = if is_taken r.since version then Some r else None

-- the rule of a key word of this version
unfoldable pub rule_of : Version → List ℕ → Option KeyRule
rule_of version word = taken_in version (rule_of_key word)

-- whether so many words may follow
abbrev pub is_count : WordsBehind → ℕ → Bool
is_count (Exactly n) count = count == n
is_count (AtLeast n) count = nat_le n count

-- behind `demazure` stands one index at the least
abbrev pub HasIndices : KeyRule → Type 0
HasIndices rule = rule.key ≡ Demazure → rule.count ≡ AtLeast 1

-- the place of a part in the order of parts
abbrev pub part_place : JobPart → ℕ
part_place part.Opening = 0
part_place part.Typed = 1
part_place part.Head = 2
part_place part.Session = 3
part_place part.Asks = 4

-- whether a part is one of those from the first to the last
abbrev pub is_part_between : JobPart → JobPart → JobPart → Bool
is_part_between first last p = nat_le (part_place first) (part_place p) && nat_le (part_place p) (part_place last)
