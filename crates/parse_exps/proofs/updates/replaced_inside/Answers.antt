-- A name, and what is replaced in the field behind the sign.
use Rattle.std.proofs.Common.{refl}
use Rattle.std.proofs.Math.Nat.{zero-max}
use Rattle.fut_token.specs.declared.token.Fixed.TheVariants as fixed
use Rattle.fut_ast.specs.Sorts.{Replacing}
use Rattle.fut_grammar.specs.Phrases.{phrases, read_at}
use Rattle.fut_grammar.specs.Reading.{expect, has_at, parts_at, sub_at}
use Rattle.parse_atoms.proofs.BehindLaws.{behind_fails}
use Rattle.parse_types.proofs.ReadLaws.{fails_as, low_as}
use Rattle.parse_exps.proofs.updates.replaced_inside.Goals as goal

pub returns-in-Err : goal.returns-in-Err
unfolding parts_at has_at sub_at phrases expect
returns-in-Err g c = record { exact = fails_as c.in-Err.stop c.in-Err.ensures (λ f read. rw read refl); low = tt }

pub returns-in-Err-without_form : goal.returns-in-Err-without_form
unfolding parts_at has_at sub_at phrases expect
returns-in-Err-without_form g c = record { exact = fails_as c.in-Err-without_form.stop c.in-Err-without_form.ensures (λ f read. rw (c.in-Ok.ensures, read) refl); low = tt }

pub returns-in-Err-read_behind : goal.returns-in-Err-read_behind
unfolding parts_at has_at sub_at phrases expect
returns-in-Err-read_behind g c = record { exact = behind_fails c.in-Err-read_behind.stop fixed.Dot (read_at c.args.inner Replacing) c.in-Ok.word.1.now c.in-Err-read_behind.ensures.exact (λ sign f read. rw (c.in-Ok.ensures, c.in-Ok-without_form.ensures, sign, read) refl) (λ none. rw (c.in-Ok.ensures, c.in-Ok-without_form.ensures, none) refl); low = tt }

pub returns-in-Ok-read_behind : goal.returns-in-Ok-read_behind
unfolding parts_at has_at sub_at phrases expect
returns-in-Ok-read_behind g c =
    let value = rw c.in-Ok-read_behind.ensures.sign at c.in-Ok-read_behind.ensures.exact in
    record { exact = rw (c.in-Ok.ensures, c.in-Ok-without_form.ensures, c.in-Ok-read_behind.ensures.sign, value, zero-max c.in-Ok-read_behind.found.height) (c.replacement_made.ensures.exact _ c.path_behind.ensures); low = low_as c.replacement_made.result c.replacement_made.ensures.low c.in-Ok-read_behind.ensures.low }
