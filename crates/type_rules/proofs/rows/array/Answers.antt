use Rattle.std.proofs.Common.{◌∷◌, length, sym, subst, ◌∙◌}
use Rattle.fut_typing.specs.Rules.{Rule}
use Rattle.type_graph.specs.Claims.{types_of}
use Rattle.type_rules.specs.declared.demand.Demand.TheVariants as demand
use Rattle.type_rules.specs.Demands.{All_allow}
use Rattle.type_rules.proofs.Adding.{on_ok, if_err}
use Rattle.type_rules.specs.Own.{All_own, Met_beside}
use Rattle.type_rules.specs.Lists.{all_same}
use Rattle.fut_flat.specs.Terms.{Array_of}
use Rattle.type_rules.proofs.Rules.{rule_adds, rule_nowhere, array_own, array_allow, array_to, array_from}
use Rattle.type_rules.proofs.rows.array.Goals as goal

pub put_own-requires-clause-own : goal.put_own-requires-clause-own
put_own-requires-clause-own c = subst (λ ds. All_own c.args.table.now c.args.base (length c.args.nodes.now) 1 ds) (sym (c.as_slice.ensures ∙ c.in-Ok.ensures.ok))
    (subst (λ n. All_own c.args.table.now c.args.base n 1 (demand.Array c.args.id c.len-own.result ∷ demand.Has c.len-own.result c.args.places ∷ all_same c.len-own.result c.args.parts.now)) c.len-own.ensures
    (array_own c.args.table.now c.args.base c.len-own.result c.args.id c.args.parts.now c.args.places (rw c.len-own.ensures c.requires.base) c.requires.id c.requires.parts))

pub returns-clause-ok : goal.returns-clause-ok
returns-clause-ok c = on_ok c.put_own.result (λ h T told N. rule_adds T c.args.base c.as_slice.result.now (λ K a. Rule N c.args.places K Array_of (a c.args.id) (a c.args.id) (types_of a c.args.parts.now)) c.args.nodes.now c.put_own.new.nodes
    (λ K a m. array_to c.args.table.now c.args.base c.len-own.result c.args.id c.args.parts.now c.args.places (rw c.len-own.ensures c.requires.base) c.requires.id c.requires.parts T.shapes N K a (subst (λ ds. Met_beside c.args.base ds T.shapes K a) (c.as_slice.ensures ∙ c.in-Ok.ensures.ok) m))
    (λ K a r. subst (λ ds. Met_beside c.args.base ds T.shapes K a) (sym (c.as_slice.ensures ∙ c.in-Ok.ensures.ok)) (array_from c.args.table.now c.args.base c.len-own.result c.args.id c.args.parts.now c.args.places (rw c.len-own.ensures c.requires.base) c.requires.id c.requires.parts T.shapes N K a r))
    (λ home. subst (All_allow home) (sym (c.as_slice.ensures ∙ c.in-Ok.ensures.ok)) (array_allow c.args.table.now c.args.base c.len-own.result c.args.id c.args.parts.now c.args.places (rw c.len-own.ensures c.requires.base) c.requires.id c.requires.parts home))
    (h T told)) c.put_own.ensures.ok

pub returns-clause-err : goal.returns-clause-err
returns-clause-err c = if_err c.put_own.result (λ h T told N. rule_nowhere T c.args.base c.as_slice.result.now (λ K a. Rule N c.args.places K Array_of (a c.args.id) (a c.args.id) (types_of a c.args.parts.now)) c.args.nodes.now c.put_own.new.nodes
    (λ K a m. array_to c.args.table.now c.args.base c.len-own.result c.args.id c.args.parts.now c.args.places (rw c.len-own.ensures c.requires.base) c.requires.id c.requires.parts T.shapes N K a (subst (λ ds. Met_beside c.args.base ds T.shapes K a) (c.as_slice.ensures ∙ c.in-Ok.ensures.ok) m))
    (λ K a r. subst (λ ds. Met_beside c.args.base ds T.shapes K a) (sym (c.as_slice.ensures ∙ c.in-Ok.ensures.ok)) (array_from c.args.table.now c.args.base c.len-own.result c.args.id c.args.parts.now c.args.places (rw c.len-own.ensures c.requires.base) c.requires.id c.requires.parts T.shapes N K a r))
    (h T told)) c.put_own.ensures.err
