use Rattle.fut_flat.specs.Erased.{texts}
use Rattle.fut_typing.specs.Names.{IsRecord}
use Rattle.type_graph.specs.Claims.{types_of}
use Rattle.type_rules.proofs.Adding.{on_ok, if_err}
use Rattle.type_patterns.proofs.Asking.{asked_claimed, unasked_refused}
use Rattle.type_patterns.proofs.fields.constrain_fields.Goals as goal

pub returns-clause-ok : goal.returns-clause-ok
returns-clause-ok c = on_ok c.ask_record_of.result (λ f places d from. asked_claimed places c.args.base (λ N scope K a. IsRecord N (texts c.args.names.now) (a c.args.number) (types_of a c.args.parts.now)) d from c.args.inference.now c.ask_record_of.new.inference (f places)) c.ask_record_of.ensures.ok

pub returns-clause-err : goal.returns-clause-err
returns-clause-err c = if_err c.ask_record_of.result (λ f places d from. unasked_refused places c.args.base (λ N scope K a. IsRecord N (texts c.args.names.now) (a c.args.number) (types_of a c.args.parts.now)) d from c.args.inference.now c.ask_record_of.new.inference (f places)) c.ask_record_of.ensures.err
