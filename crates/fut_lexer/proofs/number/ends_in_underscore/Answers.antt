use Rattle.std.proofs.Common.{sym, ap, ◌∙◌, arith, length, eqb, ◌-◌, ℕ}
use Rattle.std.proofs.lemmas.List.{get_or_read}
use Rattle.fut_lexer.proofs.Runs.{last_underscore}
use Rattle.fut_lexer.proofs.number.ends_in_underscore.Goals as goal

pub returns-in-len1-up : goal.returns-in-len1-up
returns-in-len1-up c =
    let r = get_or_read c.args.digits.now (length c.args.digits.now - 1) c.c-item.result (omega arith) c.c-item.is 0 in
    ap (λ (x : ℕ). eqb x 95) r ∙ sym (last_underscore c.args.digits.now (length c.args.digits.now - 1) (omega arith))
