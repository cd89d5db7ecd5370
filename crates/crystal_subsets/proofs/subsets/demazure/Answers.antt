use Rattle.std.proofs.Common.{◌≡◌, ◌∙◌, ap, refl, ℕ, ◌-◌, ◌<◌, ◌↔◌, Contains, false, true, set, length, length-set, replicate, arith}
use Rattle.std.specs.List.Sorted.{IsStrictlyIncreasing}
use Rattle.std.proofs.lemmas.List.{drop_all, length-replicate}
use Rattle.std.proofs.lemmas.Result.{IfOk-weaker}
use Rattle.canonical_graph.specs.Graphs.{code_at}
use Rattle.canonical_graph.proofs.Ranks.{listed_code}
use Rattle.crystal_subsets.specs.DemazureSubsets.{Demazure}
use Rattle.crystal_subsets.specs.Marks.{marked_ranks}
use Rattle.crystal_subsets.proofs.MarkedSubsets.{AreMarked, start_marked, next_index, written_back, members_ascend, members_are, demazure_listed}
use Rattle.crystal_subsets.proofs.subsets.demazure.Goals as goal

pub indices-init : goal.indices-init
indices-init c =
    let marks = c.in_ok-marks.marks.items in
    let none = drop_all (length c.args.indices.now) c.args.indices.now (omega arith) in
    let plain : marks ≡ replicate (length c.args.finished.now.codes) false = rw c.len.ensures.len at (c.in_ok-marks.ensures.items_if_clones_equal (λ y same. same)) in
    record {
      size = length-set marks c.args.rank true ∙ ap length plain ∙ length-replicate (length c.args.finished.now.codes) false;
      within = omega arith;
      marked = rw none (start_marked c.args.finished.now c.args.rank marks (set marks c.args.rank true) c.len.ensures.finished c.requires.rank plain refl);
    }

pub indices-preserved : goal.indices-preserved
indices-preserved c =
    let f = c.args.finished.now in
    let kept = c.indices.invariant in
    let old = c.indices.marks.items in
    let new = c.lower_marks.new.marks in
    let same : c.deref_mut.result.now ≡ old = c.deref_mut.ensures.value in
    let size : length new ≡ length old = c.lower_marks.auto.marks ∙ ap length same in
    let back = written_back c.indices.marks.len old new size (omega (arith, ap length same, c.deref_mut.ensures.len)) in
    record {
      size = ap length back ∙ size ∙ kept.size;
      within = omega (arith, kept.within);
      marked =
          next_index f (code_at f c.args.rank) c.indices.place (c.indices.place - 1) c.args.indices.now old new _ c.len.ensures.finished
          (listed_code f c.args.rank c.requires.rank) c.requires.indices (omega arith) kept.within kept.marked (rw same at c.lower_marks.ensures) back;
    }

pub returns-clause-ascending : goal.returns-clause-ascending
returns-clause-ascending c =
    IfOk-weaker c.marked_ranks.result (λ ranks. ranks.keys ≡ marked_ranks c.deref.result.now) (λ ranks. IsStrictlyIncreasing ranks.keys)
    (λ ranks is. members_ascend c.deref.result.now ranks.keys is) c.marked_ranks.ensures

pub returns-clause-members : goal.returns-clause-members
returns-clause-members c =
    let f = c.args.finished.now in
    let same : c.deref.result.now ≡ c.indices.marks.items = c.deref.ensures.value in
    let start : c.indices.place ≡ 0 = omega arith in
    let marked : AreMarked f (code_at f c.args.rank) c.args.indices.now c.indices.marks.items = rw start at c.indices.invariant.marked in
    IfOk-weaker c.marked_ranks.result (λ ranks. ranks.keys ≡ marked_ranks c.deref.result.now)
    (λ ranks. (r : ℕ) → Contains ranks.keys r ↔ ((r < length f.codes) × Demazure f.space (code_at f c.args.rank) c.args.indices.now (code_at f r)))
    (λ ranks is. members_are f (code_at f c.args.rank) c.args.indices.now c.indices.marks.items ranks.keys c.indices.invariant.size marked (rw same at is))
    c.marked_ranks.ensures

pub returns-in_err-marks-clause-whole : goal.returns-in_err-marks-clause-whole
returns-in_err-marks-clause-whole c = λ x member.
    demazure_listed c.args.finished.now (code_at c.args.finished.now c.args.rank) c.args.indices.now x c.len.ensures.finished
    (listed_code c.args.finished.now c.args.rank c.requires.rank) c.requires.indices member

pub returns-clause-whole : goal.returns-clause-whole
returns-clause-whole c = λ x member.
    demazure_listed c.args.finished.now (code_at c.args.finished.now c.args.rank) c.args.indices.now x c.len.ensures.finished
    (listed_code c.args.finished.now c.args.rank c.requires.rank) c.requires.indices member
