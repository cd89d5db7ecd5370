use Rattle.std.proofs.Common.{◌≡◌, ◌∙◌, sym, ap, subst, ℕ, ◌+◌, ◌-◌, ◌<◌, ◌≤◌, ◌∷◌, ◌++◌, Bool, true, false, if◌then◌else◌, List, [], length, get_or, Option, None, Contains, arith}
use Rattle.std.proofs.lemmas.List.{get_or_read}
use Rattle.std.proofs.lemmas.List.Elements.{Contains-get_or}
use Rattle.crystal_cartan.specs.Types.{HasIndex}
use Rattle.tensor_words.specs.Spaces.{size}
use Rattle.tensor_words.specs.Operators.{op}
use Rattle.plain_growth.specs.Growth.{Follows, noted_in}
use Rattle.plain_growth.specs.Marks.{AreMarks, IsMarked}
use Rattle.canonical_graph.specs.Tables.{arrow_to}
use Rattle.canonical_graph.proofs.Rows.{op_at}
use Rattle.plain_growth.proofs.Expanding.{expands_more, follows_unless, at_place, longer}
use Rattle.plain_growth.proofs.Noting.{next_on, adds_later}
use Rattle.plain_growth.proofs.Marking.{marks_grown, marks_noted}
use Rattle.plain_growth.proofs.growth.expand.Goals as goal

pub index-requires : goal.index-requires
index-requires c =
    let more : length c.args.growth.now.found ≤ length c.follow.new.self.found =
    longer c.args.growth.now.found c.indices.growth.found c.follow.new.self.found c.indices.invariant.expanded.more c.in_ok-note.ensures.follows.more c.indices.invariant.expanded.is
    c.in_ok-note.ensures.follows.is in
    omega (arith, more, c.requires.at, c.in_ok-note.ensures.known.size, c.in_ok-note-2.ensures.size)

pub indices-preserved : goal.indices-preserved
indices-preserved c =
    let s = c.args.steps.now in
    let n = c.indices.place in
    let code = c.at-code.result in
    let kept = c.indices.invariant in
    let mid = c.indices.growth.found in
    let half = c.follow.new.self.found in
    let new = c.follow-in-indices.new.self.found in
    let note = c.in_ok-note.note in
    let same : c.note.new.self.found ≡ half = c.in_ok-note-2.ensures.found in
    let space = c.cartan.ensures.space in
    let index : HasIndex s.cartan (n + 1) = record { low = omega arith; high = omega (arith, kept.last) } in
    let lt : code < size s = rw c.at-code.ensures c.requires.code in
    let low = c.lowered_code-lowered.ensures.value ∙ op_at s (arrow_to true (n + 1)) code c.word-word.result c.word-word.ensures.value in
    let high = op_at s (arrow_to false (n + 1)) code c.word-word.result c.word-word.ensures.value in
    let first = subst (λ (o : Option ℕ). Follows o mid half) low c.in_ok-note.ensures.follows in
    let here : code ≡ get_or half c.args.at 0 = at_place c.args.growth.now.found mid half kept.expanded.more first.more c.args.at code kept.expanded.is first.is c.requires.at c.at-code.ensures in
    let within : c.args.at < length half = omega (arith, c.requires.at, longer c.args.growth.now.found mid half kept.expanded.more first.more kept.expanded.is first.is) in
    let there : Contains half code = subst (λ x. Contains half x) (sym here) (Contains-get_or half c.args.at 0 within) in
    let grown = marks_grown s mid first.more half c.indices.growth.known.items c.follow.new.self.known.items first.is kept.known c.in_ok-note.ensures.known in
    let noted : noted_in half note ≡ op s (arrow_to true (n + 1)) code = c.in_ok-note.ensures.note ∙ low in
    let marked : AreMarks s half c.note.new.self.known.items =
    rw c.in_ok-note-2.ensures.known (marks_noted s (n + 1) n code note half c.follow.new.self.known.items space index (omega arith) lt there c.in_ok-note.ensures.placed noted grown) in
    let marks = c.note.new.self.known.items in
    let row : c.index.result.now ≡ get_or marks c.args.at [] = get_or_read marks c.args.at _ (omega (arith, marked.size, within)) c.index.ensures [] in
    let back : n + 1 - 1 ≡ n = omega arith in
    let raised : c.unknown_raise-raised.result ≡ (if get_or c.index.result.now n false then None else op s (arrow_to false (n + 1)) code) =
    c.unknown_raise-raised.ensures ∙ ap (λ (o : Option ℕ). if get_or c.index.result.now n false then None else o) high in
    let second : Follows (op s (arrow_to false (n + 1)) code) half new =
    follows_unless (get_or c.index.result.now n false) (op s (arrow_to false (n + 1)) code) half new
    (λ is x leads.
    let at : IsMarked marks c.args.at (n + 1 - 1) = ap (λ j. get_or (get_or marks c.args.at []) j false) back ∙ ap (λ (xs : List Bool). get_or xs n false) (sym row) ∙ is in
    marked.known c.args.at (n + 1) x within index at (rw here at leads))
    (subst (λ (xs : List ℕ). Follows (if get_or c.index.result.now n false then None else op s (arrow_to false (n + 1)) code) xs new) same
    (subst (λ (o : Option ℕ). Follows o c.note.new.self.found new) raised c.in_ok-follow.ensures.follows)) in
    let last = marks_grown s half second.more new c.note.new.self.known.items c.follow-in-indices.new.self.known.items second.is marked c.in_ok-follow.ensures.known in
    let later = c.in_ok-follow.ensures.lowered ∙ c.in_ok-note-2.ensures.lowered ∙ ap (λ (xs : List ℕ). xs ++ note ∷ []) c.in_ok-note.ensures.lowered in
    record {
      expanded = expands_more s n (n + 1) code c.args.growth.now.found mid half new space lt (omega arith) index kept.expanded first second;
      lowered =
          adds_later s (n + 1) code c.args.growth.now.found _ half second.more new _
          (next_on s n code note c.args.growth.now.found _ mid first.more half _ _ kept.lowered first.is c.in_ok-note.ensures.placed noted later) second.is;
      known = last;
      few = omega (arith, kept.few, c.in_ok-note.ensures.few, c.in_ok-follow.ensures.few, ap (λ (xs : List ℕ). length xs) same);
      last = kept.last;
      small = kept.small;
    }
