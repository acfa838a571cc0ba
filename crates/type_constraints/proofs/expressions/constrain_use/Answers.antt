use Rattle.std.proofs.Common.{◌+◌, arith}
use Rattle.type_constraints.proofs.Ends.{end_err, end_next, end_ok}
use Rattle.type_constraints.proofs.Forms.{use_ok, use_err}
use Rattle.type_constraints.proofs.expressions.constrain_use.Goals as goal

pub returns : goal.returns
returns c = record {
  next = rw c.and.ensures (end_next _ c.use_name.result (c.args.lo + (1 + (c.args.before + c.args.before))) (omega arith));
  ok = rw c.and.ensures (end_ok c.use_name.result (c.args.lo + (1 + (c.args.before + c.args.before))) (use_ok c.args.setting.places c.args.setting.base c.args.setting.depth c.args.lo c.args.reference c.args.place c.args.before c.args.inference.now c.use_name.new.inference) c.use_name.ensures.ok);
  err = rw c.and.ensures (end_err c.use_name.result (c.args.lo + (1 + (c.args.before + c.args.before))) (use_err c.args.setting.places c.args.setting.base c.args.setting.depth c.args.lo c.args.reference c.args.place c.args.before c.args.inference.now c.use_name.new.inference) c.use_name.ensures.err);
}
