-- The replies of a script, told from the events of its caller.
use Rattle.std.specs.Prelude.{ℕ, ◌==◌, ◌&&◌, Bool, true, false, if◌then◌else◌, List, [], ◌∷◌, Option, Some, None, ℤ}
use Rattle.std.specs.Option.{option_map, option_and_then}
use Rattle.crystal_cartan.specs.declared.types.Arrow.{Arrow}
use Rattle.tensor_words.specs.Spaces.{SpaceType, word_weight}
use Rattle.tensor_words.specs.Codes.{word_of}
use Rattle.tensor_words.specs.TensorRule.{action}
use Rattle.tensor_words.specs.Operators.{op}
use Rattle.graph_history.specs.declared.event.Origin.{Origin}
use Rattle.graph_history.specs.declared.event.Origin.TheVariants.{Root, By}
use Rattle.graph_history.specs.declared.event.Act.{Act}
use Rattle.graph_history.specs.declared.event.Act.TheVariants.{Added, Met, Missed, Spent, Drew, Saw, Blank, Owed, Settled, Tally}
use Rattle.graph_history.specs.declared.event.Event.{Event}
use Rattle.graph_history.specs.History.{same_arrow}
use Rattle.graph_history.specs.declared.answer.Added.{Added as AddedAnswer}
use Rattle.graph_history.specs.declared.answer.Added.TheVariants as added
use Rattle.job_text.specs.declared.commands.Command.{Command}
use Rattle.job_text.specs.declared.commands.Command.TheVariants.{Add, Find, Look, Move, Wt, Eps, Phi}
use Rattle.job_text.specs.declared.commands.Command.TheVariants as command
use Rattle.session_desk.specs.declared.reply.Reply.{Reply}
use Rattle.session_desk.specs.declared.reply.Reply.TheVariants.{New, Old, There, Absent, Undrawn, Zero, Word, Full, Number, Weight, Done, More}

-- a reply, and the events behind those that it was told from
abbrev pub Told : Type 0
Told = Option (Reply × List Event)

-- from the act of the first event
abbrev pub first : (Act → List Event → Told) → List Event → Told
first tell [] = None
first tell (e ∷ rest) = tell e.act rest

-- where a test holds: this reply; what is told further on
abbrev pub reply_if : Bool → Reply → List Event → Told
reply_if true reply rest = Some (reply, rest)
reply_if false reply rest = None

abbrev pub then_if : Bool → Told → Told
then_if true told = told
then_if false told = None

-- whether an act is about this cell and this arrow
abbrev pub is_at : ℕ → Arrow → ℕ → Arrow → Bool
is_at c a d b = (d == c) && same_arrow b a

-- whether an operator gives zero, and what is told of the word that it gives
abbrev pub is_zero : Option ℕ → Bool
is_zero None = true
is_zero (Some y) = false

abbrev pub of_word : Option ℕ → (ℕ → Told) → Told
of_word None tell = None
of_word (Some y) tell = tell y

-- whether a word comes in as a root, or by this arrow of this cell
abbrev pub is_root : Origin → Bool
is_root Root = true
is_root (By d b) = false

abbrev pub is_by : ℕ → Arrow → Origin → Bool
is_by c a Root = false
is_by c a (By d b) = is_at c a d b

-- the reply of a drawn arrow whose operator gives this
abbrev pub drawn_reply : Option ℕ → Reply
drawn_reply None = Zero
drawn_reply (Some y) = Word y

-- the replies to the answers of a desk
abbrev pub added_reply : AddedAnswer → Reply
added_reply (added.New c) = New
added_reply (added.Old c) = Old
added_reply added.Full = Full

abbrev pub found_reply : Option ℕ → Reply
found_reply (Some c) = There
found_reply None = Absent

-- a debt that is settled again, since nothing was put in for it
abbrev pub on_settled : (List Event → Told) → Act → List Event → Told
on_settled tell (Settled None) rest = tell rest
on_settled tell _ rest = None

-- an entry of the code x from an origin that the test takes, and what is told further on of its answer. The word is
-- there already; it is not there, and every cell is taken; or a debt is owed first, and settled where the word is not new
abbrev pub on_owed : (Origin → Bool) → ℕ → (AddedAnswer → List Event → Told) → Act → List Event → Told
on_owed from x tell (Added c y o) rest = then_if (y == x && from o) (tell (added.New c) rest)
on_owed from x tell (Met c y) rest = then_if (y == x) (first (on_settled (tell (added.Old c))) rest)
on_owed from x tell (Spent y) rest = then_if (y == x) (first (on_settled (tell added.Full)) rest)
on_owed from x tell _ rest = None

abbrev pub on_entry : (Origin → Bool) → ℕ → (AddedAnswer → List Event → Told) → Act → List Event → Told
on_entry from x tell (Met c y) rest = then_if (y == x) (tell (added.Old c) rest)
on_entry from x tell (Spent y) rest = then_if (y == x) (tell added.Full rest)
on_entry from x tell Owed rest = first (on_owed from x tell) rest
on_entry from x tell _ rest = None

-- `add` of the code x
abbrev pub on_add : ℕ → Act → List Event → Told
on_add x act rest = on_entry is_root x (λ answer behind. Some (added_reply answer, behind)) act rest

-- `find` of the code x
abbrev pub on_find : ℕ → Act → List Event → Told
on_find x (Met c y) rest = reply_if (y == x) There rest
on_find x (Missed y) rest = reply_if (y == x) Absent rest
on_find x _ rest = None

-- a command at the vertex of the code x: its cell is met first
abbrev pub at_vertex : ℕ → (ℕ → List Event → Told) → Act → List Event → Told
at_vertex x tell (Met c y) rest = then_if (y == x) (tell c rest)
at_vertex x tell (Missed y) rest = reply_if (y == x) Absent rest
at_vertex x tell _ rest = None

-- `look` at an arrow of the cell c, whose operator gives o
abbrev pub on_look : Option ℕ → ℕ → Arrow → Act → List Event → Told
on_look o c a (Saw d b t) rest = reply_if (is_at c a d b) (drawn_reply o) rest
on_look o c a (Blank d b) rest = reply_if (is_at c a d b) Undrawn rest
on_look o c a _ rest = None

-- a move to the code y, which is the vertex of the cell t: the arrow is drawn, or it was drawn already
abbrev pub on_target : ℕ → Arrow → ℕ → ℕ → Act → List Event → Told
on_target c a t y (Drew d b (Some u)) rest = reply_if (is_at c a d b && (u == t)) (Word y) rest
on_target c a t y (Saw d b (Some u)) rest = reply_if (is_at c a d b && (u == t)) (Word y) rest
on_target c a t y _ rest = None

-- behind the entry of the code y: there is no cell for it, or the arrow leads to its cell
abbrev pub behind_entry : ℕ → Arrow → ℕ → AddedAnswer → List Event → Told
behind_entry c a y (added.New t) rest = first (on_target c a t y) rest
behind_entry c a y (added.Old t) rest = first (on_target c a t y) rest
behind_entry c a y added.Full rest = Some (Full, rest)

-- a move along an arrow of the cell c, whose operator gives o: it was drawn already; it is drawn to zero; or the
-- word that the operator gives is put in first
abbrev pub on_move : Option ℕ → ℕ → Arrow → Act → List Event → Told
on_move o c a (Saw d b t) rest = reply_if (is_at c a d b) (drawn_reply o) rest
on_move o c a (Drew d b None) rest = reply_if (is_at c a d b && is_zero o) Zero rest
on_move o c a act rest = of_word o (λ y. on_entry (is_by c a) y (behind_entry c a y) act rest)

-- `done`: the debts are told, and the graph is closed where there is none
abbrev pub debts_reply : ℕ → Reply
debts_reply n = if n == 0 then Done else More

abbrev pub on_done : Act → List Event → Told
on_done (Tally n) rest = Some (debts_reply n, rest)
on_done _ rest = None

-- the weight of the word with a code, and the lengths of its strings at an index
unfoldable pub weight_at : SpaceType → ℕ → List ℤ
weight_at s x = word_weight s (word_of s x)

unfoldable pub eps_at : SpaceType → ℕ → ℕ → ℕ
eps_at s i x = (action s i).eps (word_of s x)

unfoldable pub phi_at : SpaceType → ℕ → ℕ → ℕ
phi_at s i x = (action s i).phi (word_of s x)

-- a command takes its events from the front, and leaves the others
abbrev pub told_of : SpaceType → Command → List Event → Told
told_of s (Add x) es = first (on_add x) es
told_of s (Find x) es = first (on_find x) es
told_of s (Look a x) es = first (at_vertex x (λ c rest. first (on_look (op s a x) c a) rest)) es
told_of s (Move a x) es = first (at_vertex x (λ c rest. first (on_move (op s a x) c a) rest)) es
told_of s (Wt x) es = Some (Weight (weight_at s x), es)
told_of s (Eps i x) es = Some (Number (eps_at s i x), es)
told_of s (Phi i x) es = Some (Number (phi_at s i x), es)
told_of s command.Done es = first on_done es

-- the replies of a script whose caller has just these events; None where they are not those of the script
abbrev pub replies : SpaceType → List Command → List Event → Option (List Reply)
replies s [] [] = Some []
replies s [] (e ∷ es) = None
replies s (k ∷ ks) es = option_and_then (λ told. option_map (λ rs. told.0 ∷ rs) (replies s ks told.1)) (told_of s k es)
