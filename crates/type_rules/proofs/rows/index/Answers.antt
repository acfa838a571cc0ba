use Rattle.std.proofs.Common.{◌+◌, ◌∷◌, ◌++◌, length, drop, slice_index_or, sym, subst, ◌∙◌}
use Rattle.fut_typing.specs.Rules.{Rule}
use Rattle.type_graph.specs.Claims.{types_of}
use Rattle.type_rules.specs.declared.demand.Demand.TheVariants as demand
use Rattle.type_rules.specs.Demands.{All_allow}
use Rattle.type_rules.proofs.Adding.{on_ok, if_err}
use Rattle.type_rules.specs.Own.{All_own, Met_beside}
use Rattle.type_rules.specs.Lists.{all_sizes, index_demands}
use Rattle.fut_flat.specs.Terms.{Index}
use Rattle.type_rules.proofs.Taken.{taken, not_taken}
use Rattle.type_rules.proofs.Rules.{rule_adds, rule_nowhere, first_low, rest_low, index_list_own, index_list_allow, index_rule_to, index_rule_from, index_empty, index_whole, index_parts}
use Rattle.type_rules.proofs.rows.index.Goals as goal

pub returns-then-parts-lt1-clause-err : goal.returns-then-parts-lt1-clause-err
returns-then-parts-lt1-clause-err c = λ T told N pl K a p r. index_empty N c.args.places K a c.args.id c.args.parts.now c.args.what.now c.if-parts-lt1.true r

pub returns-then-not-takes-clause-err : goal.returns-then-not-takes-clause-err
returns-then-not-takes-clause-err c = λ T told N pl K a p r. not_taken c.takes.result c.takes.ensures c.if-not-takes.true (index_whole N c.args.places K a c.args.id c.args.parts.now c.args.what.now c.if-parts-lt1.false r).1

pub put_own-requires-clause-own : goal.put_own-requires-clause-own
put_own-requires-clause-own c = subst (λ ds. All_own c.args.table.now c.args.base (length c.args.nodes.now) (length c.args.what.now + 1 + (length c.args.what.now + 1)) ds) (sym (c.as_slice.ensures ∙ c.in-Ok.ensures.ok))
    (subst (λ n. All_own c.args.table.now c.args.base n (length c.args.what.now + 1 + (length c.args.what.now + 1)) (demand.Same (slice_index_or c.args.parts.now 0 0) c.len-own.result ∷ demand.Same c.args.id (c.len-own.result + (length c.args.what.now + 1)) ∷ (all_sizes (drop 1 c.args.parts.now) ++ index_demands c.args.places c.args.what.now c.len-own.result (c.len-own.result + (length c.args.what.now + 1))))) c.len-own.ensures (index_list_own c.args.table.now c.args.base c.len-own.result c.args.id (slice_index_or c.args.parts.now 0 0) (drop 1 c.args.parts.now) c.args.what.now c.args.places (rw c.len-own.ensures c.requires.base) c.requires.id (first_low c.args.base c.args.parts.now c.if-parts-lt1.false c.requires.parts) (rest_low c.args.base c.args.parts.now c.requires.parts)))

pub returns-clause-ok : goal.returns-clause-ok
returns-clause-ok c = on_ok c.put_own.result (λ h T told N. rule_adds T c.args.base c.as_slice.result.now (λ K a. Rule N c.args.places K (Index c.args.what.now) (a c.args.id) (a c.args.id) (types_of a c.args.parts.now)) c.args.nodes.now c.put_own.new.nodes
    (λ K a m. let p = index_rule_to c.args.table.now c.args.base c.len-own.result c.args.id (slice_index_or c.args.parts.now 0 0) (drop 1 c.args.parts.now) c.args.what.now c.args.places (rw c.len-own.ensures c.requires.base) c.requires.id (first_low c.args.base c.args.parts.now c.if-parts-lt1.false c.requires.parts) (rest_low c.args.base c.args.parts.now c.requires.parts) T.shapes N K a (subst (λ ds. Met_beside c.args.base ds T.shapes K a) (c.as_slice.ensures ∙ c.in-Ok.ensures.ok) m) in index_parts N c.args.places K a c.args.id c.args.parts.now c.args.what.now c.if-parts-lt1.false (taken c.takes.result c.takes.ensures c.if-not-takes.false) p.0 p.1)
    (λ K a r. let p = index_whole N c.args.places K a c.args.id c.args.parts.now c.args.what.now c.if-parts-lt1.false r in subst (λ ds. Met_beside c.args.base ds T.shapes K a) (sym (c.as_slice.ensures ∙ c.in-Ok.ensures.ok)) (index_rule_from c.args.table.now c.args.base c.len-own.result c.args.id (slice_index_or c.args.parts.now 0 0) (drop 1 c.args.parts.now) c.args.what.now c.args.places (rw c.len-own.ensures c.requires.base) c.requires.id (first_low c.args.base c.args.parts.now c.if-parts-lt1.false c.requires.parts) (rest_low c.args.base c.args.parts.now c.requires.parts) T.shapes N K a p.0 p.2))
    (λ home. subst (All_allow home) (sym (c.as_slice.ensures ∙ c.in-Ok.ensures.ok)) (index_list_allow c.args.table.now c.args.base c.len-own.result c.args.id (slice_index_or c.args.parts.now 0 0) (drop 1 c.args.parts.now) c.args.what.now c.args.places (rw c.len-own.ensures c.requires.base) c.requires.id (first_low c.args.base c.args.parts.now c.if-parts-lt1.false c.requires.parts) (rest_low c.args.base c.args.parts.now c.requires.parts) home))
    (h T told)) c.put_own.ensures.ok

pub returns-clause-err : goal.returns-clause-err
returns-clause-err c = if_err c.put_own.result (λ h T told N. rule_nowhere T c.args.base c.as_slice.result.now (λ K a. Rule N c.args.places K (Index c.args.what.now) (a c.args.id) (a c.args.id) (types_of a c.args.parts.now)) c.args.nodes.now c.put_own.new.nodes
    (λ K a m. let p = index_rule_to c.args.table.now c.args.base c.len-own.result c.args.id (slice_index_or c.args.parts.now 0 0) (drop 1 c.args.parts.now) c.args.what.now c.args.places (rw c.len-own.ensures c.requires.base) c.requires.id (first_low c.args.base c.args.parts.now c.if-parts-lt1.false c.requires.parts) (rest_low c.args.base c.args.parts.now c.requires.parts) T.shapes N K a (subst (λ ds. Met_beside c.args.base ds T.shapes K a) (c.as_slice.ensures ∙ c.in-Ok.ensures.ok) m) in index_parts N c.args.places K a c.args.id c.args.parts.now c.args.what.now c.if-parts-lt1.false (taken c.takes.result c.takes.ensures c.if-not-takes.false) p.0 p.1)
    (λ K a r. let p = index_whole N c.args.places K a c.args.id c.args.parts.now c.args.what.now c.if-parts-lt1.false r in subst (λ ds. Met_beside c.args.base ds T.shapes K a) (sym (c.as_slice.ensures ∙ c.in-Ok.ensures.ok)) (index_rule_from c.args.table.now c.args.base c.len-own.result c.args.id (slice_index_or c.args.parts.now 0 0) (drop 1 c.args.parts.now) c.args.what.now c.args.places (rw c.len-own.ensures c.requires.base) c.requires.id (first_low c.args.base c.args.parts.now c.if-parts-lt1.false c.requires.parts) (rest_low c.args.base c.args.parts.now c.requires.parts) T.shapes N K a p.0 p.2))
    (h T told)) c.put_own.ensures.err
