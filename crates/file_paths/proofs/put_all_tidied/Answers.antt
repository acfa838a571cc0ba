use Rattle.std.proofs.Common.{◌+◌, drop, ap, ◌∙◌, sym, arith, List}
use Rattle.std.specs.Borrow.{Bor}
use Rattle.std.proofs.lemmas.List.{at_drop_all, at_drop_more, reverse-reverse}
use Rattle.fut_ast.specs.Sorts.{Text}
use Rattle.fut_tree.specs.Names.{names}
use Rattle.elab_scopes.specs.Imports.{tidied}
use Rattle.file_paths.specs.Segments.{newest}
use Rattle.file_paths.proofs.Tidying.{tidied_more}
use Rattle.file_paths.proofs.put_all_tidied.Goals as goal

pub loop-segment-preserved : goal.loop-segment-preserved
loop-segment-preserved c =
    let xs = c.args.segments.now in let i = c.loop-segment.segment-index in
    let rest = names (drop (i + 1) xs) in
    ap (λ b. tidied b rest) c.in-Ok.ensures ∙ sym (tidied_more _ (newest c.loop-segment.path.items) rest) ∙ sym (at_drop_more (λ (l : List (Bor Text)). tidied (newest c.loop-segment.path.items) (names l)) xs i _ c.loop-segment-test.true) ∙ c.loop-segment.invariant

pub returns : goal.returns
unfolding tidied
returns c =
    let path = c.loop-segment.path.items in
    sym (reverse-reverse (names path)) ∙ sym (at_drop_all (λ (l : List (Bor Text)). tidied (newest path) (names l)) c.args.segments.now c.loop-segment.segment-index (omega (arith, c.loop-segment-test.false))) ∙ c.loop-segment.invariant
