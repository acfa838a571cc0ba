use Rattle.std.proofs.Common.{subst, length}
use Rattle.type_graph.specs.Claims.{Adds, Nowhere}
use Rattle.type_graph.proofs.Grown.{sound_inside}
use Rattle.type_rules.specs.Demands.{All_met, All_allow}
use Rattle.type_rules.proofs.Adding.{on_ok}
use Rattle.type_rules.proofs.Outcomes.{both_ok, both_err}
use Rattle.type_rules.proofs.Beside.{demands_below, beside_adds, beside_nowhere, freed_sound, freed_extends}
use Rattle.type_rules.proofs.own.put_own.Goals as goal

pub put-requires-clause-sound : goal.put-requires-clause-sound
put-requires-clause-sound c = freed_sound c.args.table.now c.args.count c.args.nodes.now c.push_own.new.nodes c.args.entries.now c.requires.sound c.in-Ok.ensures.ok

pub put-requires-clause-within : goal.put-requires-clause-within
put-requires-clause-within c = rw c.len-all.ensures (demands_below c.args.table.now c.args.base (length c.args.nodes.now) c.args.count (length c.push_own.new.nodes) c.args.demands.now c.requires.base c.in-Ok.ensures.ok.long c.requires.own)

pub returns-clause-extends : goal.returns-clause-extends
returns-clause-extends c = on_ok c.put.result (λ x. freed_extends c.args.table.now c.args.count c.args.nodes.now c.push_own.new.nodes c.put.new.nodes c.args.entries.now c.put.new.entries c.in-Ok.ensures.ok x) c.put.ensures.extends

pub returns-clause-ok : goal.returns-clause-ok
returns-clause-ok c = both_ok c.put.result (λ x h T told. beside_adds c.args.table.now T c.args.base c.args.count c.args.nodes.now c.push_own.new.nodes c.args.demands.now c.requires.base (sound_inside c.args.table.now c.args.nodes.now c.args.entries.now T c.requires.sound (x.told T told)) c.requires.sound.graph c.in-Ok.ensures.ok c.requires.own c.put.new.nodes
    (subst (λ n. Adds T n (λ K a. All_met T.shapes K a c.args.demands.now) (λ home. All_allow home c.args.demands.now) c.push_own.new.nodes c.put.new.nodes) c.len-all.ensures (h T told))) c.put.ensures.extends c.put.ensures.ok

pub returns-clause-err : goal.returns-clause-err
returns-clause-err c = both_err c.put.result (λ before h T told. beside_nowhere c.args.table.now T c.args.base c.args.count c.args.nodes.now c.push_own.new.nodes c.args.demands.now c.requires.base (sound_inside c.args.table.now c.args.nodes.now c.args.entries.now T c.requires.sound (before T told)) c.requires.sound.graph c.in-Ok.ensures.ok c.requires.own
    (subst (λ n. Nowhere T n (λ K a. All_met T.shapes K a c.args.demands.now) c.push_own.new.nodes) c.len-all.ensures (h T told))) c.put.ensures.before c.put.ensures.err
