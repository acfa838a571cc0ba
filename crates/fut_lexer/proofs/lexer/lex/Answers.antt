use Rattle.std.proofs.Common.{◌≡◌, ap, ◌∙◌, rules}
use Rattle.std.specs.Str.{chars}
use Rattle.std.proofs.lemmas.Str.{chars_from_encodes}
use Rattle.fut_lexer.proofs.Whole.{read_found, read_refused, read_in_order, bad_bytes}
use Rattle.fut_lexer.proofs.lexer.lex.Goals as goal

pub returns-in_ok-chars-in-Ok-clause-found : goal.returns-in_ok-chars-in-Ok-clause-found
returns-in_ok-chars-in-Ok-clause-found c =
    let e : c.deref.result.now ≡ chars c.in-Ok.good.now = search (rules, chars_from_encodes) in
    read_found c.args.file c.args.text.now c.deref.result.now c.in-Ok.ensures.cases.1 (e ∙ ap chars c.in-Ok.ensures.cases.0) c.read.result c.read.ensures

pub returns-in_ok-chars-in-Ok-clause-refused : goal.returns-in_ok-chars-in-Ok-clause-refused
returns-in_ok-chars-in-Ok-clause-refused c =
    let e : c.deref.result.now ≡ chars c.in-Ok.good.now = search (rules, chars_from_encodes) in
    read_refused c.args.file c.args.text.now c.deref.result.now c.in-Ok.ensures.cases.1 (e ∙ ap chars c.in-Ok.ensures.cases.0) c.read.result c.read.ensures

pub returns-in_ok-chars-in-Ok-clause-spans : goal.returns-in_ok-chars-in-Ok-clause-spans
returns-in_ok-chars-in-Ok-clause-spans c =
    let e : c.deref.result.now ≡ chars c.in-Ok.good.now = search (rules, chars_from_encodes) in
    read_in_order c.args.file c.args.text.now c.deref.result.now c.in-Ok.ensures.cases.1 (e ∙ ap chars c.in-Ok.ensures.cases.0) c.read.result c.read.ensures

pub returns-in_ok-end_of-in-Ok-from_utf8-clause-refused :
    goal.returns-in_ok-end_of-in-Ok-from_utf8-clause-refused
returns-in_ok-end_of-in-Ok-from_utf8-clause-refused c =
    bad_bytes c.args.file c.args.text.now c.in-Ok-from_utf8.good.now c.valid_up_to.result c.in_ok-end_of-in-Ok-from_utf8.field-0
    c.in-Err.ensures.cases.0 (c.valid_up_to.ensures ∙ c.in-Err.ensures.valid_len) c.in-Ok-from_utf8.ensures.cases.0 c.in_ok-end_of-in-Ok-from_utf8.ensures.ok
