use Rattle.std.proofs.Common.{sym, ap, ◌∙◌, arith}
use Rattle.std.specs.Str.{bytes_eq}
use Rattle.module_state.specs.declared.written.SourceFile.{SourceFile}
use Rattle.source_files.proofs.Finding.{found_file, no_file, other_file}
use Rattle.source_files.proofs.files.file_number.Goals as goal

pub loop-at-preserved : goal.loop-at-preserved
loop-at-preserved c =
    let other = ap (λ (f : SourceFile). bytes_eq f.path.now c.args.path.now) (sym c.index-files-at.is) ∙ sym c.has_path.ensures ∙ c.if-has_path.false in
    other_file c.args.files.now c.args.path.now c.loop-at.at c.index-files-at.result c.loop-at-test.true other c.loop-at.invariant

pub returns-then-has_path : goal.returns-then-has_path
returns-then-has_path c =
    let same = ap (λ (f : SourceFile). bytes_eq f.path.now c.args.path.now) (sym c.index-files-at.is) ∙ sym c.has_path.ensures ∙ c.if-has_path.true in
    found_file c.args.files.now c.args.path.now c.loop-at.at c.index-files-at.result c.loop-at-test.true same c.loop-at.invariant

pub returns : goal.returns
returns c = no_file c.args.files.now c.args.path.now c.loop-at.at (omega (arith, c.loop-at-test.false)) c.loop-at.invariant
