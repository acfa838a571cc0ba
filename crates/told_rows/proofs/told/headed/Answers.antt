use Rattle.std.proofs.Common.{map, refl, ap, ◌∙◌}
use Rattle.fut_blocks.specs.Rows.{row_of, rows}
use Rattle.unfold.specs.Telling.{named_rows}
use Rattle.told_rows.proofs.ToldForms.{scalar_headed, tuple_headed, record_headed, array_headed, fun_headed, rigid_headed, abstract_headed}
use Rattle.told_rows.proofs.told.headed.Goals as goal

pub returns-in-Scalar : goal.returns-in-Scalar
returns-in-Scalar c = λ Z w. scalar_headed c.args.head (rows (map row_of c.args.parts.now)) (λ n. named_rows (Z.fields n) (rows (map row_of c.args.parts.now))) _ c.shape.result c.in-Scalar.is c.shape.ensures

pub returns-in-Tuple : goal.returns-in-Tuple
returns-in-Tuple c = λ Z w. tuple_headed c.args.head (rows (map row_of c.args.parts.now)) (λ n. named_rows (Z.fields n) (rows (map row_of c.args.parts.now))) c.args.parts c.shape-in-Tuple.result c.in-Tuple.is refl c.shape-in-Tuple.ensures

pub returns-in_ok-fields-in-Record : goal.returns-in_ok-fields-in-Record
returns-in_ok-fields-in-Record c = λ Z w. record_headed c.args.head (rows (map row_of c.args.parts.now)) (λ n. named_rows (Z.fields n) (rows (map row_of c.args.parts.now))) _ c.in_ok-fields-in-Record.fields c.shape-in-Record.result c.in-Record.is (c.in_ok-fields-in-Record.ensures ∙ ap (λ z. named_rows z (rows (map row_of c.args.parts.now))) (c.in_ok-names-in-Record.ensures Z w)) c.shape-in-Record.ensures

pub returns-in-Array : goal.returns-in-Array
returns-in-Array c = λ Z w. array_headed c.args.head (rows (map row_of c.args.parts.now)) (λ n. named_rows (Z.fields n) (rows (map row_of c.args.parts.now))) _ c.unknown.ensures c.in-Array.is

pub returns-in-Fun : goal.returns-in-Fun
returns-in-Fun c = λ Z w. fun_headed c.args.head (rows (map row_of c.args.parts.now)) (λ n. named_rows (Z.fields n) (rows (map row_of c.args.parts.now))) _ c.unknown-in-Fun.ensures c.in-Fun.is

pub returns-in-Rigid : goal.returns-in-Rigid
returns-in-Rigid c = λ Z w. rigid_headed c.args.head (rows (map row_of c.args.parts.now)) (λ n. named_rows (Z.fields n) (rows (map row_of c.args.parts.now))) _ c.unknown-in-Rigid.ensures _ _ c.in-Rigid.is

pub returns-in-Abstract : goal.returns-in-Abstract
returns-in-Abstract c = λ Z w. abstract_headed c.args.head (rows (map row_of c.args.parts.now)) (λ n. named_rows (Z.fields n) (rows (map row_of c.args.parts.now))) _ c.unknown-in-Abstract.ensures _ _ c.in-Abstract.is
