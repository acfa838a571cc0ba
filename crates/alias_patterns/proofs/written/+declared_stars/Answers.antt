use Rattle.std.proofs.Common.{rules, refl, ap, Some, None}
use Rattle.fut_aliases.specs.Aliases.{first_name_alone}
use Rattle.alias_program.specs.Program.{sub_of}
use Rattle.alias_types.specs.Kinds.{kinds_of}
use Rattle.fut_flat.specs.Erased.{type_of as written_type}
use Rattle.alias_patterns.specs.Wanted.{wanted_of}
use Rattle.alias_patterns.proofs.WrittenForms.{declares_act, declares_use, declares_lambda, declares_apply, declares_if, declares_loop, declares_body, declares_let}
use Rattle.alias_patterns.proofs.written.+declared_stars.Goals as goal

pub returns-in_ok-made-in-Some : goal.returns-in_ok-made-in-Some
returns-in_ok-made-in-Some t c = λ N k. declares_act first_name_alone N (kinds_of c.args.program.now.kinds.now) (sub_of c.args.program.now.types.now) c.args.node c.args.exp.now _ c.in-Strict.act c.in-Strict.mark c.in-Strict.parts (Some (written_type c.in-Some.written.now)) c.in-Strict.is c.in-Some.ensures (ap Some (c.in_ok-made-in-Some.ensures N k))

pub returns-in-None : goal.returns-in-None
returns-in-None t c = λ N k. declares_act first_name_alone N (kinds_of c.args.program.now.kinds.now) (sub_of c.args.program.now.types.now) c.args.node c.args.exp.now None c.in-Strict.act c.in-Strict.mark c.in-Strict.parts None c.in-Strict.is c.in-None.ensures refl

pub returns-in_ok-found-in-Lets : goal.returns-in_ok-found-in-Lets
returns-in_ok-found-in-Lets t c = λ N k. declares_body first_name_alone N (kinds_of c.args.program.now.kinds.now) (sub_of c.args.program.now.types.now) c.args.node c.args.exp.now (wanted_of c.in_ok-found-in-Lets.found) c.in-Lets.lets c.in-Lets.body c.in-Lets.is (search rules) (c.in_ok-found-in-Lets.ensures N k)

pub returns-then-not-is_empty : goal.returns-then-not-is_empty
returns-then-not-is_empty t c = λ N k. declares_let first_name_alone N (kinds_of c.args.program.now.kinds.now) (sub_of c.args.program.now.types.now) c.args.node c.args.exp.now None c.in-Lets.lets c.in-Lets.body c.in-Lets.is c.if-not-is_empty.ensures refl

pub returns-in-Use : goal.returns-in-Use
returns-in-Use t c = λ N k. declares_use first_name_alone N (kinds_of c.args.program.now.kinds.now) (sub_of c.args.program.now.types.now) c.args.node c.args.exp.now None _ _ c.in-Use.is refl

pub returns-in-Lambda : goal.returns-in-Lambda
returns-in-Lambda t c = λ N k. declares_lambda first_name_alone N (kinds_of c.args.program.now.kinds.now) (sub_of c.args.program.now.types.now) c.args.node c.args.exp.now None _ _ c.in-Lambda.is refl

pub returns-in-Apply : goal.returns-in-Apply
returns-in-Apply t c = λ N k. declares_apply first_name_alone N (kinds_of c.args.program.now.kinds.now) (sub_of c.args.program.now.types.now) c.args.node c.args.exp.now None _ _ c.in-Apply.is refl

pub returns-in-If : goal.returns-in-If
returns-in-If t c = λ N k. declares_if first_name_alone N (kinds_of c.args.program.now.kinds.now) (sub_of c.args.program.now.types.now) c.args.node c.args.exp.now None _ _ _ c.in-If.is refl

pub returns-in-Loop : goal.returns-in-Loop
returns-in-Loop t c = λ N k. declares_loop first_name_alone N (kinds_of c.args.program.now.kinds.now) (sub_of c.args.program.now.types.now) c.args.node c.args.exp.now None _ c.in-Loop.is refl
