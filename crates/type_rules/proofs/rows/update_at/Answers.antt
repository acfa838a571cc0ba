use Rattle.std.proofs.Common.{◌∷◌, length, drop, slice_index_or, sym, subst, ◌∙◌, arith}
use Rattle.fut_typing.specs.Rules.{Rule}
use Rattle.type_graph.specs.Claims.{types_of}
use Rattle.type_rules.specs.declared.demand.Demand.TheVariants as demand
use Rattle.type_rules.specs.Demands.{All_allow}
use Rattle.type_rules.proofs.Adding.{on_ok, if_err}
use Rattle.type_rules.specs.Own.{All_own, Met_beside}
use Rattle.type_rules.specs.Lists.{update_demands}
use Rattle.fut_flat.specs.Terms.{Update}
use Rattle.type_rules.proofs.Rules.{rule_adds, rule_nowhere, first_low, rest_low, long_rest, update_list_own, update_list_allow, update_rule_to, update_rule_from, update_empty, update_whole, update_parts}
use Rattle.type_rules.proofs.rows.update_at.Goals as goal

pub returns-then-parts-lt2-clause-err : goal.returns-then-parts-lt2-clause-err
returns-then-parts-lt2-clause-err c = λ T told N pl K a p r. update_empty N c.args.places K a c.args.id c.args.parts.now c.if-parts-lt2.true r

pub put_own-requires-clause-own : goal.put_own-requires-clause-own
put_own-requires-clause-own c = subst (λ ds. All_own c.args.table.now c.args.base (length c.args.nodes.now) (length c.args.parts.now) ds) (sym (c.as_slice.ensures ∙ c.in-Ok.ensures.ok))
    (subst (λ n. All_own c.args.table.now c.args.base n (length c.args.parts.now) (demand.Same c.args.id (slice_index_or c.args.parts.now 0 0) ∷ demand.Same (slice_index_or c.args.parts.now 0 0) c.len-own.result ∷ update_demands c.args.places (drop 1 c.args.parts.now) c.len-own.result)) c.len-own.ensures (update_list_own c.args.table.now c.args.base c.len-own.result (length c.args.parts.now) c.args.id (slice_index_or c.args.parts.now 0 0) (drop 1 c.args.parts.now) c.args.places (rw c.len-own.ensures c.requires.base) c.requires.id (first_low c.args.base c.args.parts.now (omega (arith, c.if-parts-lt2.false)) c.requires.parts) (rest_low c.args.base c.args.parts.now c.requires.parts) (omega (arith, long_rest c.args.parts.now, c.if-parts-lt2.false)) (omega (arith, long_rest c.args.parts.now, c.if-parts-lt2.false))))

pub returns-clause-ok : goal.returns-clause-ok
returns-clause-ok c = on_ok c.put_own.result (λ h T told N. rule_adds T c.args.base c.as_slice.result.now (λ K a. Rule N c.args.places K Update (a c.args.id) (a c.args.id) (types_of a c.args.parts.now)) c.args.nodes.now c.put_own.new.nodes
    (λ K a m. update_parts N c.args.places K a c.args.id c.args.parts.now c.if-parts-lt2.false (update_rule_to c.args.table.now c.args.base c.len-own.result (length c.args.parts.now) c.args.id (slice_index_or c.args.parts.now 0 0) (drop 1 c.args.parts.now) c.args.places (rw c.len-own.ensures c.requires.base) c.requires.id (first_low c.args.base c.args.parts.now (omega (arith, c.if-parts-lt2.false)) c.requires.parts) (rest_low c.args.base c.args.parts.now c.requires.parts) (omega (arith, long_rest c.args.parts.now, c.if-parts-lt2.false)) (omega (arith, long_rest c.args.parts.now, c.if-parts-lt2.false)) T.shapes N K a (subst (λ ds. Met_beside c.args.base ds T.shapes K a) (c.as_slice.ensures ∙ c.in-Ok.ensures.ok) m)))
    (λ K a r. let p = update_whole N c.args.places K a c.args.id c.args.parts.now c.if-parts-lt2.false r in subst (λ ds. Met_beside c.args.base ds T.shapes K a) (sym (c.as_slice.ensures ∙ c.in-Ok.ensures.ok)) (update_rule_from c.args.table.now c.args.base c.len-own.result (length c.args.parts.now) c.args.id (slice_index_or c.args.parts.now 0 0) (drop 1 c.args.parts.now) c.args.places (rw c.len-own.ensures c.requires.base) c.requires.id (first_low c.args.base c.args.parts.now (omega (arith, c.if-parts-lt2.false)) c.requires.parts) (rest_low c.args.base c.args.parts.now c.requires.parts) (omega (arith, long_rest c.args.parts.now, c.if-parts-lt2.false)) (omega (arith, long_rest c.args.parts.now, c.if-parts-lt2.false)) T.shapes N K a p.0 p.1))
    (λ home. subst (All_allow home) (sym (c.as_slice.ensures ∙ c.in-Ok.ensures.ok)) (update_list_allow c.args.table.now c.args.base c.len-own.result (length c.args.parts.now) c.args.id (slice_index_or c.args.parts.now 0 0) (drop 1 c.args.parts.now) c.args.places (rw c.len-own.ensures c.requires.base) c.requires.id (first_low c.args.base c.args.parts.now (omega (arith, c.if-parts-lt2.false)) c.requires.parts) (rest_low c.args.base c.args.parts.now c.requires.parts) (omega (arith, long_rest c.args.parts.now, c.if-parts-lt2.false)) (omega (arith, long_rest c.args.parts.now, c.if-parts-lt2.false)) home))
    (h T told)) c.put_own.ensures.ok

pub returns-clause-err : goal.returns-clause-err
returns-clause-err c = if_err c.put_own.result (λ h T told N. rule_nowhere T c.args.base c.as_slice.result.now (λ K a. Rule N c.args.places K Update (a c.args.id) (a c.args.id) (types_of a c.args.parts.now)) c.args.nodes.now c.put_own.new.nodes
    (λ K a m. update_parts N c.args.places K a c.args.id c.args.parts.now c.if-parts-lt2.false (update_rule_to c.args.table.now c.args.base c.len-own.result (length c.args.parts.now) c.args.id (slice_index_or c.args.parts.now 0 0) (drop 1 c.args.parts.now) c.args.places (rw c.len-own.ensures c.requires.base) c.requires.id (first_low c.args.base c.args.parts.now (omega (arith, c.if-parts-lt2.false)) c.requires.parts) (rest_low c.args.base c.args.parts.now c.requires.parts) (omega (arith, long_rest c.args.parts.now, c.if-parts-lt2.false)) (omega (arith, long_rest c.args.parts.now, c.if-parts-lt2.false)) T.shapes N K a (subst (λ ds. Met_beside c.args.base ds T.shapes K a) (c.as_slice.ensures ∙ c.in-Ok.ensures.ok) m)))
    (λ K a r. let p = update_whole N c.args.places K a c.args.id c.args.parts.now c.if-parts-lt2.false r in subst (λ ds. Met_beside c.args.base ds T.shapes K a) (sym (c.as_slice.ensures ∙ c.in-Ok.ensures.ok)) (update_rule_from c.args.table.now c.args.base c.len-own.result (length c.args.parts.now) c.args.id (slice_index_or c.args.parts.now 0 0) (drop 1 c.args.parts.now) c.args.places (rw c.len-own.ensures c.requires.base) c.requires.id (first_low c.args.base c.args.parts.now (omega (arith, c.if-parts-lt2.false)) c.requires.parts) (rest_low c.args.base c.args.parts.now c.requires.parts) (omega (arith, long_rest c.args.parts.now, c.if-parts-lt2.false)) (omega (arith, long_rest c.args.parts.now, c.if-parts-lt2.false)) T.shapes N K a p.0 p.1))
    (h T told)) c.put_own.ensures.err
