-- A lawful answer of files is the only one.
use Rattle.std.proofs.Common.{sym, subst, true}
use Rattle.fut_ast.specs.declared.node.Label.{Label}
use Rattle.fut_flat.specs.Sources.{Spelled}
use Rattle.fut_meaning.specs.Answers.{out_of}
use Rattle.fut_meaning.specs.Datums.{all_values}
use Rattle.fut_meaning.specs.Sources.{Outside, Source_means, source_names}
use Rattle.fut_meaning.specs.Meaning.{plain}
use Rattle.fut_meaning.proofs.Data.{answer_is_one}
use Rattle.fut_meaning.proofs.OneResult.{source_one_result}
use Rattle.fut_meaning.proofs.Tight.{loosest}
use Rattle.elab_laws.proofs.Deeper.{declared_once}
use Rattle.elab_laws.specs.Sourced.{source_of}
use Rattle.elab_laws.specs.Answers.{LawfulFilesHaveOneAnswer, TightFilesAllowNoMore}

pub lawful_files_have_one_answer : LawfulFilesHaveOneAnswer
lawful_files_have_one_answer files told budget entry arguments answer other words others tight x y =
    let same = subst (λ s. Source_means told (plain tight) budget (source_of s) entry (all_values arguments) (out_of other) others) (declared_once files y.0 x.0 y.1 x.1) y.2 in
    sym (answer_is_one Spelled Label Outside answer other (source_one_result told tight budget (source_of x.0) entry (all_values arguments) (out_of answer) (out_of other) words others x.2 same))

pub tight_files_allow_no_more : TightFilesAllowNoMore
tight_files_allow_no_more files told budget entry arguments answer words x =
    (x.0, x.1, loosest (source_names told) true budget entry (source_of x.0) (all_values arguments) (out_of answer) words x.2)
