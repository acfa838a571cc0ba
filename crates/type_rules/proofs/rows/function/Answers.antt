use Rattle.std.proofs.Common.{◌≡◌, ◌+◌, ◌∷◌, length, sym, subst, ◌∙◌}
use Rattle.fut_typing.specs.Patterns.{arrows}
use Rattle.type_graph.specs.Claims.{types_of}
use Rattle.type_rules.specs.declared.demand.Demand.TheVariants as demand
use Rattle.type_rules.specs.Demands.{All_allow}
use Rattle.type_rules.proofs.Adding.{on_ok, if_err}
use Rattle.type_rules.specs.Own.{All_own, Met_beside}
use Rattle.type_rules.specs.Lists.{function_demands}
use Rattle.type_rules.proofs.Rules.{rule_adds, rule_nowhere, function_list_own, function_list_allow, function_rule_to, function_rule_from}
use Rattle.type_rules.proofs.rows.function.Goals as goal

pub put_own-requires-clause-own : goal.put_own-requires-clause-own
put_own-requires-clause-own c = subst (λ ds. All_own c.args.table.now c.args.base (length c.args.nodes.now) (length c.args.params.now + 1) ds) (sym (c.as_slice.ensures ∙ c.in-Ok.ensures.ok))
    (subst (λ n. All_own c.args.table.now c.args.base n (length c.args.params.now + 1) (demand.Same c.args.id c.len-own.result ∷ function_demands c.args.params.now c.args.body c.len-own.result)) c.len-own.ensures (function_list_own c.args.table.now c.args.base c.len-own.result c.args.id c.args.body c.args.params.now (rw c.len-own.ensures c.requires.base) c.requires.id c.requires.body c.requires.params))

pub returns-clause-ok : goal.returns-clause-ok
returns-clause-ok c = on_ok c.put_own.result (λ h T told. rule_adds T c.args.base c.as_slice.result.now (λ K a. a c.args.id ≡ arrows (types_of a c.args.params.now) (a c.args.body)) c.args.nodes.now c.put_own.new.nodes
    (λ K a m. function_rule_to c.args.table.now c.args.base c.len-own.result c.args.id c.args.body c.args.params.now (rw c.len-own.ensures c.requires.base) c.requires.id c.requires.body c.requires.params T.shapes K a (subst (λ ds. Met_beside c.args.base ds T.shapes K a) (c.as_slice.ensures ∙ c.in-Ok.ensures.ok) m))
    (λ K a r. subst (λ ds. Met_beside c.args.base ds T.shapes K a) (sym (c.as_slice.ensures ∙ c.in-Ok.ensures.ok)) (function_rule_from c.args.table.now c.args.base c.len-own.result c.args.id c.args.body c.args.params.now (rw c.len-own.ensures c.requires.base) c.requires.id c.requires.body c.requires.params T.shapes K a r))
    (λ home. subst (All_allow home) (sym (c.as_slice.ensures ∙ c.in-Ok.ensures.ok)) (function_list_allow c.args.table.now c.args.base c.len-own.result c.args.id c.args.body c.args.params.now (rw c.len-own.ensures c.requires.base) c.requires.id c.requires.body c.requires.params home))
    (h T told)) c.put_own.ensures.ok

pub returns-clause-err : goal.returns-clause-err
returns-clause-err c = if_err c.put_own.result (λ h T told. rule_nowhere T c.args.base c.as_slice.result.now (λ K a. a c.args.id ≡ arrows (types_of a c.args.params.now) (a c.args.body)) c.args.nodes.now c.put_own.new.nodes
    (λ K a m. function_rule_to c.args.table.now c.args.base c.len-own.result c.args.id c.args.body c.args.params.now (rw c.len-own.ensures c.requires.base) c.requires.id c.requires.body c.requires.params T.shapes K a (subst (λ ds. Met_beside c.args.base ds T.shapes K a) (c.as_slice.ensures ∙ c.in-Ok.ensures.ok) m))
    (λ K a r. subst (λ ds. Met_beside c.args.base ds T.shapes K a) (sym (c.as_slice.ensures ∙ c.in-Ok.ensures.ok)) (function_rule_from c.args.table.now c.args.base c.len-own.result c.args.id c.args.body c.args.params.now (rw c.len-own.ensures c.requires.base) c.requires.id c.requires.body c.requires.params T.shapes K a r))
    (h T told)) c.put_own.ensures.err
