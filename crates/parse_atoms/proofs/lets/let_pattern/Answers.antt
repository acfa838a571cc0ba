-- What stops a part stops the production.
use Rattle.std.proofs.Common.{◌≡◌, Bool, true, false, ◌&&◌, not, ◌≤◌, sym, refl, arith}
use Rattle.fut_token.specs.declared.token.Fixed.TheVariants as fixed
use Rattle.fut_ast.specs.Behind.{is_function_let, is_update_let}
use Rattle.fut_ast.specs.Sorts.{Whole}
use Rattle.fut_grammar.specs.Phrases.{items, read_at}
use Rattle.fut_grammar.specs.Reading.{expect, has_at, parts_at, row_at, sub_at}
use Rattle.parse_atoms.proofs.BehindLaws.{behind_fails}
use Rattle.parse_types.proofs.ReadLaws.{fails_as}
use Rattle.parse_atoms.proofs.lets.let_pattern.Goals as goal

neither : (a b : Bool) → a ≡ false → b ≡ false → (not a && not b) ≡ true
neither a b e f = rw (e, f) refl

pub returns-in-Err : goal.returns-in-Err
unfolding row_at parts_at has_at expect sub_at items
returns-in-Err g c = record { exact = fails_as c.in-Err.stop c.in-Err.ensures.exact (λ f read. rw (neither (is_update_let c.args.tokens.now) (is_function_let c.args.tokens.now) c.requires.no_update c.requires.no_function, read) refl); low = tt }

pub returns-in-Err-whole_pattern : goal.returns-in-Err-whole_pattern
unfolding row_at parts_at has_at expect sub_at items
returns-in-Err-whole_pattern g c = record { exact = fails_as c.in-Err-whole_pattern.stop c.in-Err-whole_pattern.ensures.exact (λ f read. rw (neither (is_update_let c.args.tokens.now) (is_function_let c.args.tokens.now) c.requires.no_update c.requires.no_function, c.in-Ok.ensures.exact, read) refl); low = tt }

pub returns-in-Err-read_behind : goal.returns-in-Err-read_behind
unfolding row_at parts_at has_at expect sub_at items
returns-in-Err-read_behind g c = record { exact = behind_fails c.in-Err-read_behind.stop fixed.Equal (read_at c.args.inner Whole) c.in-Ok-whole_pattern.pat.rest.now c.in-Err-read_behind.ensures.exact (λ sign f read. rw (neither (is_update_let c.args.tokens.now) (is_function_let c.args.tokens.now) c.requires.no_update c.requires.no_function, c.in-Ok.ensures.exact, c.in-Ok-whole_pattern.ensures.exact, sign, read) refl) (λ none. rw (neither (is_update_let c.args.tokens.now) (is_function_let c.args.tokens.now) c.requires.no_update c.requires.no_function, c.in-Ok.ensures.exact, c.in-Ok-whole_pattern.ensures.exact, none) refl); low = tt }

pub returns-in-Ok-read_behind : goal.returns-in-Ok-read_behind
unfolding row_at parts_at has_at expect sub_at items
returns-in-Ok-read_behind g c =
    let value = rw c.in-Ok-read_behind.ensures.sign at c.in-Ok-read_behind.ensures.exact in
    let low : c.greater-in-Ok-read_behind.result ≤ c.args.inner = omega (arith, c.greater.ensures, c.greater-in-Ok-read_behind.ensures, c.in-Ok.ensures.low, c.in-Ok-whole_pattern.ensures.low, c.in-Ok-read_behind.ensures.low) in
    record { exact = rw (neither (is_update_let c.args.tokens.now) (is_function_let c.args.tokens.now) c.requires.no_update c.requires.no_function, c.in-Ok.ensures.exact, c.in-Ok-whole_pattern.ensures.exact, c.in-Ok-read_behind.ensures.sign, value, sym c.greater.ensures, sym c.greater-in-Ok-read_behind.ensures) refl; low = low }
