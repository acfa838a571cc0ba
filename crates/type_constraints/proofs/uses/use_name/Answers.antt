use Rattle.type_rules.proofs.Adding.{on_ok, if_err}
use Rattle.type_primitives.specs.Uses.{Of_primitive}
use Rattle.type_scopes.proofs.Claiming.{claimed_graph, ok_both}
use Rattle.type_constraints.proofs.Forms.{anywhere}
use Rattle.type_constraints.proofs.Graphs.{refused_graph}
use Rattle.type_patterns.proofs.Asking.{err_both}
use Rattle.type_constraints.proofs.uses.use_name.Goals as goal

pub returns-in-Bound-clause-ok : goal.returns-in-Bound-clause-ok
returns-in-Bound-clause-ok c = rw c.in-Bound.is (on_ok c.constrain_name.result (λ f d. f c.args.setting.places d c.args.lo) c.constrain_name.ensures.ok)

pub returns-in-Bound-clause-err : goal.returns-in-Bound-clause-err
returns-in-Bound-clause-err c = rw c.in-Bound.is (if_err c.constrain_name.result (λ f d. f c.args.setting.places d c.args.lo) c.constrain_name.ensures.err)

pub returns-in-Prim-clause-ok : goal.returns-in-Prim-clause-ok
returns-in-Prim-clause-ok c = rw c.in-Prim.is (ok_both c.primitive.result (λ x f d. claimed_graph c.args.setting.places c.args.setting.base d c.args.lo (λ N scope K a. Of_primitive c.args.setting.places c.in-Prim.name K (a c.args.lo)) anywhere c.args.inference.now c.primitive.new.nodes c.primitive.new.entries c.requires.safe x (λ N T born E r told. f T told)) c.primitive.ensures.extends c.primitive.ensures.ok)

pub returns-in-Prim-clause-err : goal.returns-in-Prim-clause-err
returns-in-Prim-clause-err c = rw c.in-Prim.is (err_both c.primitive.result (λ un before d. refused_graph c.args.setting.places c.args.setting.base d c.args.lo (λ N scope K a. Of_primitive c.args.setting.places c.in-Prim.name K (a c.args.lo)) anywhere c.args.inference.now c.primitive.new.nodes c.primitive.new.entries c.requires.safe before (λ N T E told. un T told)) c.primitive.ensures.err c.primitive.ensures.before)
