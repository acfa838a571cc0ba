use Rattle.size_arena.specs.Trees.{free_of, size_of}
use Rattle.told_rows.proofs.TakenForms.{function_heavier, function_said, function_not, scalar_says, tuple_says, record_says, primitive_says}
use Rattle.told_rows.proofs.taken.said_by.Goals as goal

pub returns-in-Some : goal.returns-in-Some
returns-in-Some c = record { says = λ Z w. function_said Z c.args.known.now (size_of c.args.tree.now) (free_of c.args.size) c.in-Function.function c.in-Function.is c.in_ok-own-in-Function.field-0 (c.in_ok-own-in-Function.ensures Z w) c.in-Some.own c.in-Some.is; lighter = function_heavier c.args.known.now c.in-Function.function c.in-Function.is }

pub returns-in-None : goal.returns-in-None
returns-in-None c = record { says = λ Z w. function_not Z c.args.known.now (size_of c.args.tree.now) (free_of c.args.size) c.in-Function.function c.in-Function.is c.in_ok-own-in-Function.field-0 (c.in_ok-own-in-Function.ensures Z w) c.in-None.is; lighter = tt }

pub returns-in-Scalar : goal.returns-in-Scalar
returns-in-Scalar c = record { says = λ Z w. scalar_says Z c.args.known.now (size_of c.args.tree.now) (free_of c.args.size) _ c.in-Scalar.is; lighter = tt }

pub returns-in-Tuple : goal.returns-in-Tuple
returns-in-Tuple c = record { says = λ Z w. tuple_says Z c.args.known.now (size_of c.args.tree.now) (free_of c.args.size) _ c.in-Tuple.is; lighter = tt }

pub returns-in-Record : goal.returns-in-Record
returns-in-Record c = record { says = λ Z w. record_says Z c.args.known.now (size_of c.args.tree.now) (free_of c.args.size) _ c.in-Record.is; lighter = tt }

pub returns-in-Primitive : goal.returns-in-Primitive
returns-in-Primitive c = record { says = λ Z w. primitive_says Z c.args.known.now (size_of c.args.tree.now) (free_of c.args.size) _ _ _ c.in-Primitive.is; lighter = tt }
