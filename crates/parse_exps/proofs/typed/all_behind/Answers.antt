-- The end of a range, updates and types, one behind the other.
use Rattle.std.proofs.Common.{refl}
use Rattle.std.proofs.lemmas.Result.{err_from_is_err_and}
use Rattle.fut_grammar.specs.Phrases.{typed_behind, types_behind, updates_behind}
use Rattle.parse_types.proofs.ReadLaws.{fails_as}
use Rattle.parse_exps.proofs.typed.all_behind.Goals as goal

pub returns-in_err-range : goal.returns-in_err-range
unfolding typed_behind updates_behind types_behind
returns-in_err-range g c =
    let p = err_from_is_err_and c.from_residual.result c.from_residual.ensures.1 in
    record { exact = rw (p.1, p.2) (fails_as _ c.in_err-range.ensures.exact (λ f read. rw read refl)); low = rw p.1 tt }

pub returns-in_err-updated : goal.returns-in_err-updated
unfolding typed_behind updates_behind types_behind
returns-in_err-updated g c =
    let p = err_from_is_err_and c.from_residual-in_err-updated.result c.from_residual-in_err-updated.ensures.1 in
    record { exact = rw (p.1, p.2) (fails_as _ c.in_err-updated.ensures.exact (λ f read. rw (c.in_ok-range.ensures.exact, read) refl)); low = rw p.1 tt }

pub returns : goal.returns
unfolding typed_behind updates_behind types_behind
returns g c = record { exact = rw (c.in_ok-range.ensures.exact, c.in_ok-updated.ensures.exact) c.suffixes_behind-2.ensures.exact; low = c.suffixes_behind-2.ensures.low }
