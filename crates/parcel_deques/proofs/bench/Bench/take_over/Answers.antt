use Rattle.std.proofs.Common.{◌≡◌, ◌<◌, length, refl, Some, rules}
use Rattle.std.specs.List.{slice_get}
use Rattle.std.proofs.lemmas.Option.{slice_get_read}
use Rattle.parcel_deques.proofs.HomeSteps.{other_within, other_deque, over_bench, over_same, over_taken, other_bench, other_same, other_away}
use Rattle.parcel_deques.proofs.bench.Bench.take_over.Goals as goal

pub give-requires : goal.give-requires
give-requires g c = let below : c.number-number.result < length c.other.inside.ends.items = other_within c.self.inside.own c.self.inside.ends.items c.self.invariant c.args.self.now c.self.view_is c.other.inside.own c.other.inside.ends.items c.other.invariant c.args.other.now c.other.view_is c.requires.call c.requires.home c.requires.away c.number-number.result c.number-number.ensures.number in
    let there : slice_get c.other.inside.ends.items c.number-number.result ≡ Some c.index_mut.result.now = slice_get_read c.other.inside.ends.items (length c.other.inside.ends.items) c.number-number.result c.index_mut.result.now refl below (search rules) in
    other_deque c.self.inside.own c.self.inside.ends.items c.self.invariant c.args.self.now c.self.view_is c.other.inside.own c.other.inside.ends.items c.other.invariant c.args.other.now c.other.view_is c.requires.call c.requires.home c.requires.away c.number-number.result c.number-number.ensures.number c.index_mut.result.now there

pub invariant_of-self : goal.invariant_of-self
invariant_of-self g c = let below : c.number-number.result < length c.other.inside.ends.items = other_within c.self.inside.own c.self.inside.ends.items c.self.invariant c.args.self.now c.self.view_is c.other.inside.own c.other.inside.ends.items c.other.invariant c.args.other.now c.other.view_is c.requires.call c.requires.home c.requires.away c.number-number.result c.number-number.ensures.number in
    let there : slice_get c.other.inside.ends.items c.number-number.result ≡ Some c.index_mut.result.now = slice_get_read c.other.inside.ends.items (length c.other.inside.ends.items) c.number-number.result c.index_mut.result.now refl below (search rules) in
    over_bench c.self.inside.own c.self.inside.ends.items c.self.invariant c.args.self.now c.self.view_is c.other.inside.own c.other.inside.ends.items c.other.invariant c.args.other.now c.other.view_is c.requires.call c.requires.home c.requires.away c.number-number.result c.number-number.ensures.number c.index_mut.result.now there c.give.new.own c.give.new.self c.give.ensures.end c.give.ensures.own

pub invariant_of-other : goal.invariant_of-other
invariant_of-other g c = let below : c.number-number.result < length c.other.inside.ends.items = other_within c.self.inside.own c.self.inside.ends.items c.self.invariant c.args.self.now c.self.view_is c.other.inside.own c.other.inside.ends.items c.other.invariant c.args.other.now c.other.view_is c.requires.call c.requires.home c.requires.away c.number-number.result c.number-number.ensures.number in
    let there : slice_get c.other.inside.ends.items c.number-number.result ≡ Some c.index_mut.result.now = slice_get_read c.other.inside.ends.items (length c.other.inside.ends.items) c.number-number.result c.index_mut.result.now refl below (search rules) in
    other_bench c.self.inside.own c.self.inside.ends.items c.self.invariant c.args.self.now c.self.view_is c.other.inside.own c.other.inside.ends.items c.other.invariant c.args.other.now c.other.view_is c.requires.call c.requires.home c.requires.away c.number-number.result c.number-number.ensures.number c.index_mut.result.now there c.give.new.own c.give.new.self c.give.ensures.end c.give.ensures.own

pub returns-clause-one : goal.returns-clause-one
returns-clause-one g c = let below : c.number-number.result < length c.other.inside.ends.items = other_within c.self.inside.own c.self.inside.ends.items c.self.invariant c.args.self.now c.self.view_is c.other.inside.own c.other.inside.ends.items c.other.invariant c.args.other.now c.other.view_is c.requires.call c.requires.home c.requires.away c.number-number.result c.number-number.ensures.number in
    let there : slice_get c.other.inside.ends.items c.number-number.result ≡ Some c.index_mut.result.now = slice_get_read c.other.inside.ends.items (length c.other.inside.ends.items) c.number-number.result c.index_mut.result.now refl below (search rules) in
    over_same c.self.inside.own c.self.inside.ends.items c.self.invariant c.args.self.now c.self.view_is c.other.inside.own c.other.inside.ends.items c.other.invariant c.args.other.now c.other.view_is c.requires.call c.requires.home c.requires.away c.number-number.result c.number-number.ensures.number c.index_mut.result.now there c.give.new.own c.give.new.self c.give.ensures.end c.give.ensures.own

pub returns-clause-other : goal.returns-clause-other
returns-clause-other g c = let below : c.number-number.result < length c.other.inside.ends.items = other_within c.self.inside.own c.self.inside.ends.items c.self.invariant c.args.self.now c.self.view_is c.other.inside.own c.other.inside.ends.items c.other.invariant c.args.other.now c.other.view_is c.requires.call c.requires.home c.requires.away c.number-number.result c.number-number.ensures.number in
    let there : slice_get c.other.inside.ends.items c.number-number.result ≡ Some c.index_mut.result.now = slice_get_read c.other.inside.ends.items (length c.other.inside.ends.items) c.number-number.result c.index_mut.result.now refl below (search rules) in
    other_same c.self.inside.own c.self.inside.ends.items c.self.invariant c.args.self.now c.self.view_is c.other.inside.own c.other.inside.ends.items c.other.invariant c.args.other.now c.other.view_is c.requires.call c.requires.home c.requires.away c.number-number.result c.number-number.ensures.number c.index_mut.result.now there c.give.new.own c.give.new.self c.give.ensures.end c.give.ensures.own

pub returns-clause-taken : goal.returns-clause-taken
returns-clause-taken g c = let below : c.number-number.result < length c.other.inside.ends.items = other_within c.self.inside.own c.self.inside.ends.items c.self.invariant c.args.self.now c.self.view_is c.other.inside.own c.other.inside.ends.items c.other.invariant c.args.other.now c.other.view_is c.requires.call c.requires.home c.requires.away c.number-number.result c.number-number.ensures.number in
    let there : slice_get c.other.inside.ends.items c.number-number.result ≡ Some c.index_mut.result.now = slice_get_read c.other.inside.ends.items (length c.other.inside.ends.items) c.number-number.result c.index_mut.result.now refl below (search rules) in
    over_taken c.self.inside.own c.self.inside.ends.items c.self.invariant c.args.self.now c.self.view_is c.other.inside.own c.other.inside.ends.items c.other.invariant c.args.other.now c.other.view_is c.requires.call c.requires.home c.requires.away c.number-number.result c.number-number.ensures.number c.index_mut.result.now there c.give.new.own c.give.new.self c.give.ensures.end c.give.ensures.own

pub returns-clause-away : goal.returns-clause-away
returns-clause-away g c = let below : c.number-number.result < length c.other.inside.ends.items = other_within c.self.inside.own c.self.inside.ends.items c.self.invariant c.args.self.now c.self.view_is c.other.inside.own c.other.inside.ends.items c.other.invariant c.args.other.now c.other.view_is c.requires.call c.requires.home c.requires.away c.number-number.result c.number-number.ensures.number in
    let there : slice_get c.other.inside.ends.items c.number-number.result ≡ Some c.index_mut.result.now = slice_get_read c.other.inside.ends.items (length c.other.inside.ends.items) c.number-number.result c.index_mut.result.now refl below (search rules) in
    other_away c.self.inside.own c.self.inside.ends.items c.self.invariant c.args.self.now c.self.view_is c.other.inside.own c.other.inside.ends.items c.other.invariant c.args.other.now c.other.view_is c.requires.call c.requires.home c.requires.away c.number-number.result c.number-number.ensures.number c.index_mut.result.now there c.give.new.own c.give.new.self c.give.ensures.end c.give.ensures.own
