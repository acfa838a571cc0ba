use Rattle.std.proofs.Common.{◌≡◌}
use Rattle.fut_types.specs.declared.Head.TheVariants as head
use Rattle.fut_types.specs.Types.{Made}
use Rattle.type_graph.specs.Claims.{types_of}
use Rattle.type_rules.specs.Demands.{All_met, All_allow}
use Rattle.type_rules.proofs.Adding.{tells, adds_then, nowhere_as}
use Rattle.type_rules.proofs.Outcomes.{both_ok}
use Rattle.type_rules.proofs.Asking.{known_record}
use Rattle.type_rules.proofs.parts.put_parts.Goals as goal

pub assert_made-requires-clause-head : goal.assert_made-requires-clause-head
assert_made-requires-clause-head c = known_record c.args.table.now c.args.number c.requires.number

pub returns-in-Err-clause-err : goal.returns-in-Err-clause-err
returns-in-Err-clause-err c = tells c.in-Err.error (λ h T told. nowhere_as T c.args.base (λ K a. a c.args.id ≡ Made (head.Record c.args.number) (types_of a c.args.own.now)) (λ K a. (a c.args.id ≡ Made (head.Record c.args.number) (types_of a c.args.own.now)) × All_met T.shapes K a c.args.demands.now) c.args.nodes.now (λ K a r. r.0) (h T told)) c.in-Err.ensures.err

pub returns-clause-ok : goal.returns-clause-ok
returns-clause-ok c = both_ok c.put.result (λ x y T told. adds_then T c.args.base (λ K a. a c.args.id ≡ Made (head.Record c.args.number) (types_of a c.args.own.now)) (λ K a. All_met T.shapes K a c.args.demands.now) (λ K a. (a c.args.id ≡ Made (head.Record c.args.number) (types_of a c.args.own.now)) × All_met T.shapes K a c.args.demands.now)
    (λ home. Unit {0}) (λ home. All_allow home c.args.demands.now) (λ home. All_allow home c.args.demands.now) c.args.nodes.now c.assert_made.new.nodes c.put.new.nodes (c.in-Ok.ensures.ok T (x.told T told)) (y T told) (λ K a r. r) (λ K a p q. (p, q)) (λ home h. (tt, h))) c.put.ensures.extends c.put.ensures.ok
