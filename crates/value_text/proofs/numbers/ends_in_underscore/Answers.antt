use Rattle.std.proofs.Common.{sym, arith, length, ◌-◌}
use Rattle.value_text.proofs.Values.{last_underscore}
use Rattle.value_text.proofs.numbers.ends_in_underscore.Goals as goal

pub returns-in-len1-up : goal.returns-in-len1-up
returns-in-len1-up c = sym (last_underscore c.args.digits.now (length c.args.digits.now - 1) (omega (arith, c.in-len1-up.len_at_least)))
