use Rattle.std.proofs.Common.{◌≡◌, ◌++◌, OnOk, take, drop, length, ◌-◌, ap, subst, arith}
use Rattle.core_code.specs.Registers.{state}
use Rattle.core_steps.proofs.Repeating.{repeated_large, repeated_pushed}
use Rattle.core_steps.proofs.copies.glue_repeated.Goals as goal

pub returns-then-not-branch : goal.returns-then-not-branch
returns-then-not-branch c table =
    repeated_large c.args.row.now c.args.count c.args.mark c.args.place (state c.args.arrays.now table c.args.stack.now.items) (state c.args.arrays.now table c.args.stack.now.items)
    _ (ap (λ z. take (length z - c.args.mark) (drop c.args.mark z)) c.deref.ensures.value) (λ e. absurd (omega (arith, e, c.if-row-eq0.false))) c.too_large.result
    (rw c.if-not-branch.true at c.in_ok-within.ensures.told) c.too_large.ensures

pub returns : goal.returns
returns c table =
    repeated_pushed c.args.row.now c.args.count c.args.mark c.args.place (state c.args.arrays.now table c.args.stack.now.items) (state c.repeat_columns.new.arrays table c.push_words.new.stack.items)
    _ (ap (λ z. take (length z - c.args.mark) (drop c.args.mark z)) c.deref.ensures.value) (λ e. absurd (omega (arith, e, c.if-row-eq0.false)))
    c.in_ok-made.made c.truncate.new.self.items c.push_words.result (rw c.if-not-branch.false at c.in_ok-within.ensures.told) c.in_ok-made.ensures.told c.truncate.ensures.items
    (subst (λ z. OnOk c.push_words.result (c.push_words.new.stack.items ≡ c.truncate.new.self.items ++ z)) c.as_slice.ensures c.push_words.ensures.told) c.push_words.ensures.memory
