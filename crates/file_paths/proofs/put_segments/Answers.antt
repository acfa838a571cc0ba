use Rattle.std.proofs.Common.{◌++◌, ap, ◌∙◌, arith}
use Rattle.std.specs.Borrow.{Bor}
use Rattle.std.proofs.lemmas.Iterator.Consumers.{YieldsList-at, YieldsList-end}
use Rattle.std.proofs.lemmas.Iterator.Splits.{YieldsList-from_str_split}
use Rattle.std.proofs.lemmas.List.{map-append}
use Rattle.fut_ast.specs.Sorts.{Text}
use Rattle.fut_tree.specs.Names.{names}
use Rattle.file_paths.proofs.Splitting.{splitting}
use Rattle.file_paths.proofs.put_segments.Goals as goal

pub returns : goal.returns
returns c =
    let s = c.split-segment-items.ensures in
    let all = YieldsList-at c.into_iter-segment-iterator.ensures.into_iter_gives (YieldsList-from_str_split 47 c.args.path.now (omega arith) s.text s.has_more s.pattern) in
    let t = YieldsList-end all c.loop-segment.yielded _ c.loop-segment.yielded_by _ _ c.in-None.is c.next.ensures.steps in
    ap names c.loop-segment.invariant ∙ map-append (λ (b : Bor Text). b.now) c.args.behind.now.items c.loop-segment.yielded ∙ ap (λ l. names c.args.behind.now.items ++ l) (t.0 ∙ splitting c.args.path.now)
