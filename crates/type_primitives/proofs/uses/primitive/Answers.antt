use Rattle.std.proofs.Common.{◌+◌, length, sym, subst, ◌∙◌}
use Rattle.fut_primitives.specs.Table.{written}
use Rattle.type_rules.specs.Demands.{All_allow}
use Rattle.type_rules.proofs.Adding.{on_ok, if_err}
use Rattle.type_rules.specs.Own.{All_own, Met_beside}
use Rattle.type_rules.proofs.Rules.{rule_adds, rule_nowhere}
use Rattle.type_primitives.specs.Uses.{Of_primitive, nodes, use_demands}
use Rattle.type_primitives.proofs.Using.{use_own, use_allow, use_to, use_from}
use Rattle.type_primitives.proofs.uses.primitive.Goals as goal

pub put_own-requires-clause-own : goal.put_own-requires-clause-own
put_own-requires-clause-own c = subst (λ ds. All_own c.args.table.now c.args.base (length c.args.nodes.now) c.in-Ok.listed.count ds) (sym (c.as_slice.ensures ∙ c.in-Ok.ensures.ok))
    (subst (λ many. All_own c.args.table.now c.args.base (length c.args.nodes.now) many (use_demands c.args.places c.len-first.result c.args.id c.args.name)) (sym c.in-Ok.ensures.count)
    (subst (λ n. All_own c.args.table.now c.args.base n (6 + nodes (written c.args.name)) (use_demands c.args.places c.len-first.result c.args.id c.args.name)) c.len-first.ensures
    (use_own c.args.places c.args.base c.len-first.result c.args.id c.args.name (rw c.len-first.ensures c.requires.base) c.requires.id c.args.table.now)))

pub returns-clause-ok : goal.returns-clause-ok
returns-clause-ok c = on_ok c.put_own.result (λ h T told. rule_adds T c.args.base c.as_slice.result.now (λ K a. Of_primitive c.args.places c.args.name K (a c.args.id)) c.args.nodes.now c.put_own.new.nodes
    (λ K a m. use_to c.args.places c.args.base c.len-first.result c.args.id c.args.name (rw c.len-first.ensures c.requires.base) c.requires.id T.shapes K a (subst (λ ds. Met_beside c.args.base ds T.shapes K a) (c.as_slice.ensures ∙ c.in-Ok.ensures.ok) m))
    (λ K a r. subst (λ ds. Met_beside c.args.base ds T.shapes K a) (sym (c.as_slice.ensures ∙ c.in-Ok.ensures.ok)) (use_from c.args.places c.args.base c.len-first.result c.args.id c.args.name (rw c.len-first.ensures c.requires.base) c.requires.id T.shapes K a r))
    (λ home. subst (All_allow home) (sym (c.as_slice.ensures ∙ c.in-Ok.ensures.ok)) (use_allow c.args.places c.args.base c.len-first.result c.args.id c.args.name (rw c.len-first.ensures c.requires.base) c.requires.id home))
    (h T told)) c.put_own.ensures.ok

pub returns-clause-err : goal.returns-clause-err
returns-clause-err c = if_err c.put_own.result (λ h T told. rule_nowhere T c.args.base c.as_slice.result.now (λ K a. Of_primitive c.args.places c.args.name K (a c.args.id)) c.args.nodes.now c.put_own.new.nodes
    (λ K a m. use_to c.args.places c.args.base c.len-first.result c.args.id c.args.name (rw c.len-first.ensures c.requires.base) c.requires.id T.shapes K a (subst (λ ds. Met_beside c.args.base ds T.shapes K a) (c.as_slice.ensures ∙ c.in-Ok.ensures.ok) m))
    (λ K a r. subst (λ ds. Met_beside c.args.base ds T.shapes K a) (sym (c.as_slice.ensures ∙ c.in-Ok.ensures.ok)) (use_from c.args.places c.args.base c.len-first.result c.args.id c.args.name (rw c.len-first.ensures c.requires.base) c.requires.id T.shapes K a r))
    (h T told)) c.put_own.ensures.err
