use Rattle.std.proofs.Common.{◌≡◌, suc, ◌+◌, length, sym, ◌∙◌, subst, arith}
use Rattle.type_infer.specs.Reading.{Generally}
use Rattle.typed_programs.specs.Entries.{Parameters_are}
use Rattle.typed_programs.proofs.EntryTypes.{because, function_within, function_denies, parameters_none, parameters_more, no_parameter}
use Rattle.typed_programs.proofs.entries.params_of.Goals as goal

pub loop-init : goal.loop-init
loop-init c = record { within = c.requires.number; read = parameters_none (Generally c.args.inference.now.nodes) c.args.number c.args.params.now c.requires.none }

pub loop-preserved : goal.loop-preserved
loop-preserved c = let is = sym c.function_of.ensures ∙ c.in-Some.is in let one : suc c.in-Some.first ≡ c.in-Some.first + 1 = omega arith in record {
  within = function_within (length c.args.inference.now.nodes) c.loop.node c.general_type_at.result c.in-Some.first is c.general_type_at.ensures.within;
  read = subst (Parameters_are (Generally c.args.inference.now.nodes) c.args.number c.push_data.new.types) one
      (parameters_more (Generally c.args.inference.now.nodes) c.args.number c.loop.node c.in-Some.first c.loop.params c.push_data.new.types c.general_type_at.result c.loop.invariant.read c.general_type_at.ensures.made is c.in-Ok.ensures.ok);
}

pub returns-in-Err-clause-err : goal.returns-in-Err-clause-err
returns-in-Err-clause-err c = because c.in-Err.error
    (no_parameter (Generally c.args.inference.now.nodes) c.args.number c.loop.node c.in-Some.first c.loop.params c.general_type_at.result c.loop.invariant.read c.general_type_at.ensures.made (sym c.function_of.ensures ∙ c.in-Some.is)) c.in-Err.ensures.err

pub returns-in-None-clause-result : goal.returns-in-None-clause-result
returns-in-None-clause-result c = λ t h. function_denies (Generally c.args.inference.now.nodes) c.general_type_at.result (sym c.function_of.ensures ∙ c.in-None.is) t (c.general_type_at.ensures.made t h)
