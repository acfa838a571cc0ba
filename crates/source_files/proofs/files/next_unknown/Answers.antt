use Rattle.std.proofs.Common.{[], is_some, sym, ap, ◌∙◌}
use Rattle.elab_scopes.specs.Imports.{file_number}
use Rattle.module_state.specs.Written.{files_of}
use Rattle.source_files.proofs.Finding.{is_next, none_left, skips}
use Rattle.source_files.proofs.files.next_unknown.Goals as goal

pub loop-path-preserved : goal.loop-path-preserved
loop-path-preserved c = λ file r.
    let known = ap (λ l. is_some (file_number (files_of l) c.in-Some.path.now)) (sym c.as_slice.ensures.value) ∙ sym c.is_known.ensures ∙ c.if-not-is_known.false in
    skips file (files_of c.args.files.now.items) c.loop-path.pending c.pop.new.self c.in-Some.path c.in-Some.ensures known (c.loop-path.invariant file r)

pub returns-then-not-is_known : goal.returns-then-not-is_known
returns-then-not-is_known c = λ file r.
    let unknown = ap (λ l. is_some (file_number (files_of l) c.in-Some.path.now)) (sym c.as_slice.ensures.value) ∙ sym c.is_known.ensures ∙ c.if-not-is_known.true in
    is_next file (files_of c.args.files.now.items) c.loop-path.pending c.pop.new.self c.in-Some.path c.in-Some.ensures unknown (c.loop-path.invariant file r)

pub returns : goal.returns
returns c = λ file r. none_left file (files_of c.args.files.now.items) c.loop-path.pending [] c.in_default.ensures.0 (c.loop-path.invariant file r)
