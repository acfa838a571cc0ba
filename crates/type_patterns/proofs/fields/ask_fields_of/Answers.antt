use Rattle.std.proofs.Common.{◌∙◌, ap, subst, List}
use Rattle.fut_ast.specs.Sorts.{Text}
use Rattle.fut_flat.specs.Erased.{texts}
use Rattle.fut_typing.specs.Names.{IsRecord}
use Rattle.type_graph.specs.Claims.{types_of}
use Rattle.type_rules.proofs.Adding.{on_ok, if_err}
use Rattle.type_patterns.specs.Asking.{Asked, Unasked}
use Rattle.type_patterns.proofs.fields.ask_fields_of.Goals as goal

pub returns-clause-ok : goal.returns-clause-ok
returns-clause-ok c = on_ok c.ask_record_of.result (λ f places. subst (λ (fs : List Text). Asked places c.args.base (λ N scope K a. IsRecord N fs (a c.args.node) (types_of a c.args.row.now)) c.args.inference.now c.ask_record_of.new.inference) (ap texts c.as_slice.ensures ∙ c.in-Ok.ensures.ok) (f places)) c.ask_record_of.ensures.ok

pub returns-clause-err : goal.returns-clause-err
returns-clause-err c = if_err c.ask_record_of.result (λ f places. subst (λ (fs : List Text). Unasked places c.args.base (λ N scope K a. IsRecord N fs (a c.args.node) (types_of a c.args.row.now)) c.args.inference.now c.ask_record_of.new.inference) (ap texts c.as_slice.ensures ∙ c.in-Ok.ensures.ok) (f places)) c.ask_record_of.ensures.err
