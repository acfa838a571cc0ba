-- Operands, behind which no slice begins.
use Rattle.std.proofs.Common.{sym, ◌∙◌, refl}
use Rattle.fut_grammar.specs.Phrases.{read_at}
use Rattle.parse_types.proofs.ReadLaws.{fails_as}
use Rattle.parse_atoms.specs.Parts.{target_at}
use Rattle.parse_atoms.proofs.ItemLaws.{target_is}
use Rattle.parse_atoms.proofs.written.TargetItemsReadItemHeldExp.item.Goals as goal

pub returns-in-Ok : goal.returns-in-Ok
unfolding target_at
returns-in-Ok g c = record { exact = rw (target_is (read_at c.args.inner) c.args.tokens.now, sym c.begins_exp_operand.ensures ∙ c.if-not-begins_exp_operand.true, c.in-Ok.ensures, c.refused.ensures) refl; low = tt }

pub returns-in-Err : goal.returns-in-Err
unfolding target_at
returns-in-Err g c = record { exact = fails_as c.in-Err.stop c.in-Err.ensures (λ f read. rw (target_is (read_at c.args.inner) c.args.tokens.now, sym c.begins_exp_operand.ensures ∙ c.if-not-begins_exp_operand.true, read) refl); low = tt }

pub returns-in-Err-read : goal.returns-in-Err-read
unfolding target_at
returns-in-Err-read g c = record { exact = fails_as c.in-Err-read.stop c.in-Err-read.ensures.exact (λ f read. rw (target_is (read_at c.args.inner) c.args.tokens.now, sym c.begins_exp_operand.ensures ∙ c.if-not-begins_exp_operand.false, read) refl); low = tt }

pub returns-in-Ok-without_form : goal.returns-in-Ok-without_form
unfolding target_at
returns-in-Ok-without_form g c = record { exact = rw (target_is (read_at c.args.inner) c.args.tokens.now, sym c.begins_exp_operand.ensures ∙ c.if-not-begins_exp_operand.false, c.in-Ok-read.ensures.exact, c.in-Ok-without_form.ensures) refl; low = c.in-Ok-read.ensures.low }

pub returns-in-Err-without_form : goal.returns-in-Err-without_form
unfolding target_at
returns-in-Err-without_form g c = record { exact = fails_as c.in-Err-without_form.stop c.in-Err-without_form.ensures (λ f read. rw (target_is (read_at c.args.inner) c.args.tokens.now, sym c.begins_exp_operand.ensures ∙ c.if-not-begins_exp_operand.false, c.in-Ok-read.ensures.exact, read) refl); low = tt }
