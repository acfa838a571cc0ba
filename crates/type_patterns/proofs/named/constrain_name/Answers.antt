use Rattle.type_rules.proofs.Adding.{on_ok, if_err}
use Rattle.type_patterns.specs.Asking.{Use_claim}
use Rattle.type_patterns.proofs.Asking.{asked_claimed, unasked_refused}
use Rattle.type_patterns.proofs.named.constrain_name.Goals as goal

pub returns-clause-ok : goal.returns-clause-ok
returns-clause-ok c = on_ok c.ask_use.result (λ f places d from. asked_claimed places c.args.base (Use_claim c.args.name c.args.lo) d from c.args.inference.now c.ask_use.new.inference (f places)) c.ask_use.ensures.ok

pub returns-clause-err : goal.returns-clause-err
returns-clause-err c = if_err c.ask_use.result (λ f places d from. unasked_refused places c.args.base (Use_claim c.args.name c.args.lo) d from c.args.inference.now c.ask_use.new.inference (f places)) c.ask_use.ensures.err
