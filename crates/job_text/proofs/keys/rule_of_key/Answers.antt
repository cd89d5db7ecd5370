use Rattle.std.proofs.Common.{rules, ◌≡◌, refl, arith}
use Rattle.std.specs.Prelude.{codes}
use Rattle.std.proofs.lemmas.Slice.Eq.{text_from_reads}
use Rattle.job_text.specs.Rules.{rule_of_key, table}
use Rattle.job_text.proofs.keys.rule_of_key.Goals as goal

pub returns-in-order-clause-rule : goal.returns-in-order-clause-rule
unfolding rule_of_key table
returns-in-order-clause-rule c =
    let same : c.args.word.now ≡ codes "order" = text_from_reads c.args.word.now (codes "order") (omega arith) (search rules) in
    rw (same, c.key_rule-in-order.ensures) refl

pub returns-in-shape-clause-rule : goal.returns-in-shape-clause-rule
unfolding rule_of_key table
returns-in-shape-clause-rule c =
    let same : c.args.word.now ≡ codes "shape" = text_from_reads c.args.word.now (codes "shape") (omega arith) (search rules) in
    rw (same, c.key_rule-in-shape.ensures) refl

pub returns-in-space-clause-rule : goal.returns-in-space-clause-rule
unfolding rule_of_key table
returns-in-space-clause-rule c =
    let same : c.args.word.now ≡ codes "space" = text_from_reads c.args.word.now (codes "space") (omega arith) (search rules) in
    rw (same, c.key_rule-in-space.ensures) refl

pub returns-in-start-clause-rule : goal.returns-in-start-clause-rule
unfolding rule_of_key table
returns-in-start-clause-rule c =
    let same : c.args.word.now ≡ codes "start" = text_from_reads c.args.word.now (codes "start") (omega arith) (search rules) in
    rw (same, c.key_rule-in-start.ensures) refl

pub returns-in-cells-clause-rule : goal.returns-in-cells-clause-rule
unfolding rule_of_key table
returns-in-cells-clause-rule c =
    let same : c.args.word.now ≡ codes "cells" = text_from_reads c.args.word.now (codes "cells") (omega arith) (search rules) in
    rw (same, c.key_rule-in-cells.ensures) refl

pub returns-in-session-clause-rule : goal.returns-in-session-clause-rule
unfolding rule_of_key table
returns-in-session-clause-rule c =
    let same : c.args.word.now ≡ codes "session" = text_from_reads c.args.word.now (codes "session") (omega arith) (search rules) in
    rw (same, c.key_rule-in-session.ensures) refl

pub returns-in-reflect-clause-rule : goal.returns-in-reflect-clause-rule
unfolding rule_of_key table
returns-in-reflect-clause-rule c =
    let same : c.args.word.now ≡ codes "reflect" = text_from_reads c.args.word.now (codes "reflect") (omega arith) (search rules) in
    rw (same, c.ask_rule-in-reflect.ensures) refl

pub returns-in-demazure-clause-rule : goal.returns-in-demazure-clause-rule
unfolding rule_of_key table
returns-in-demazure-clause-rule c =
    let same : c.args.word.now ≡ codes "demazure" = text_from_reads c.args.word.now (codes "demazure") (omega arith) (search rules) in
    rw (same, c.ask_rule-in-demazure.ensures) refl
