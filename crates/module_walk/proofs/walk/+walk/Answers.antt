use Rattle.std.proofs.Common.{arith, ◌-◌, [], ◌∷◌, Ok, ap, cond, map, refl, sym, ◌∙◌}
use Rattle.fut_ast.specs.declared.module.ModExp.{out-ModExp}
use Rattle.fut_tree.specs.Mods.{decs_of}
use Rattle.fut_tree.specs.ModTypes.{label_of, params_of, specs_of, withs_of}
use Rattle.fut_tree.specs.Names.{all, maybe, names}
use Rattle.elab_scopes.specs.Imports.{imported_file, item}
use Rattle.elab_scopes.specs.Resolve.{after}
use Rattle.elab_scopes.specs.Scopes.{members, module_among, module_member, signature_among}
use Rattle.elab_scopes.specs.Declarations.{applied_to, arrow_met, as_module, bare, counted, declares, decs_with, given_by, hidden, import_of, in_body, looked_at, module_met, module_with, new_functor, new_module, no_names, nothing, of_another, refined, refined_met, result_of, sealed_by, seeing, shown, signature_met, signature_with, specs_with, the_body, walks, with_types, within}
use Rattle.elab_scopes.specs.Held.{module_ref_of}
use Rattle.elab_scopes.specs.Modules.{contents_of}
use Rattle.elab_scopes.specs.declared.meanings.Member.TheVariants as held_member
use Rattle.elab_scopes.specs.declared.modules.Contents.TheVariants as held_contents
use Rattle.module_state.specs.Standing.{alone, block_of, functor_of, given_of, giving_of, here_of, meeting_of, met_of, refuses, signature_of, specified_of, stops}
use Rattle.module_state.specs.Steps.{called_of, named_signature, new_signature, open_step}
use Rattle.module_state.specs.Written.{files_of}
use Rattle.module_state.proofs.Stands.{at_once, makes, told}
use Rattle.module_members.specs.Steps.{all_given, include_step}
use Rattle.module_members.proofs.Loops.{at_start, from_item, item_next, item_stops, row_ends}
use Rattle.module_members.proofs.Steps.{goes, halts, where_is}
use Rattle.module_walk.specs.Steps.{argument_applied, arrow_made, lambda_body, meeting_within, meets, opened_file, sealed_body}
use Rattle.module_walk.proofs.Laws.{applied_down, file_down, made_at_once, met_down, module_down}
use Rattle.module_walk.proofs.ModLaws.{another_does, apply_goes, argument_goes, arguments_left, arguments_more, arguments_none, counted_goes, decs_go, dry_counted, import_goes, lambda_does, lambda_goes, not_parametric, path_goes, seal_goes, too_many}
use Rattle.module_walk.proofs.SigLaws.{function_goes, module_spec_does, no_function, one_spec as spec_one, signature_there, specs_left, specs_more, specs_none}
use Rattle.module_walk.proofs.SigLaws as sig
use Rattle.module_walk.proofs.DecLaws.{decs_left, decs_more, decs_none, one_dec as dec_one}
use Rattle.module_walk.proofs.DecLaws as dec
use Rattle.module_walk.proofs.FileLaws.{file_goes, file_is_known, file_is_new, file_stops}
use Rattle.module_walk.proofs.walk.+walk.Goals as goal

pub module_of-returns-then-depth-eq0 : goal.module_of-returns-then-depth-eq0
module_of-returns-then-depth-eq0 t c = stops

pub module_of-returns : goal.module_of-returns
module_of-returns t c = module_down (files_of c.args.sources.files.now) _ (c.args.depth - 1) (omega (arith, c.if-depth-eq0.false)) (here_of c.args.here) c.args.exp.now c.form_of.ensures

pub met-returns-then-depth-eq0 : goal.met-returns-then-depth-eq0
met-returns-then-depth-eq0 t c = stops

pub met-returns : goal.met-returns
met-returns t c = met_down (files_of c.args.sources.files.now) _ (c.args.depth - 1) (omega (arith, c.if-depth-eq0.false)) (here_of c.args.here) (meeting_of c.args.meeting) c.args.ty.now c.met_by_form.ensures

pub applied-returns-then-depth-eq0 : goal.applied-returns-then-depth-eq0
applied-returns-then-depth-eq0 t c = stops

pub applied-returns-in-Some : goal.applied-returns-in-Some
applied-returns-in-Some t c = applied_down (files_of c.args.sources.files.now) _ (c.args.depth - 1) (omega (arith, c.if-depth-eq0.false)) (here_of c.args.here) c.args.number (functor_of c.in-Some.functor) (module_ref_of c.args.argument) c.in-Some.ensures c.argument_met.ensures

pub applied-returns-in-None : goal.applied-returns-in-None
applied-returns-in-None t c = stops

pub file_of-returns-then-depth-eq0 : goal.file_of-returns-then-depth-eq0
file_of-returns-then-depth-eq0 t c = stops

pub file_of-returns-in-Some : goal.file_of-returns-in-Some
file_of-returns-in-Some t c = file_down (files_of c.args.sources.files.now) _ (c.args.depth - 1) c.args.number (omega (arith, c.if-depth-eq0.false)) (file_is_known (files_of c.args.sources.files.now) (walks (files_of c.args.sources.files.now) (c.args.depth - 1)) c.args.number c.in-Some.module c.in-Some.ensures)

pub file_of-returns-in-None : goal.file_of-returns-in-None
file_of-returns-in-None t c = file_down (files_of c.args.sources.files.now) _ (c.args.depth - 1) c.args.number (omega (arith, c.if-depth-eq0.false)) (file_is_new (files_of c.args.sources.files.now) (walks (files_of c.args.sources.files.now) (c.args.depth - 1)) c.args.number c.in-None.ensures c.file_declared.ensures)

pub form_of-returns-in-Path : goal.form_of-returns-in-Path
form_of-returns-in-Path t c = path_goes (files_of c.args.sources.files.now) (walks (files_of c.args.sources.files.now) c.args.depth) (here_of c.args.here) c.exp.inside c.args.exp.now c.exp.view_is c.in-Path.path c.in-Path.is c.path_module.ensures

pub form_of-returns-in-Decs : goal.form_of-returns-in-Decs
form_of-returns-in-Decs t c = decs_go (files_of c.args.sources.files.now) (walks (files_of c.args.sources.files.now) c.args.depth) (here_of c.args.here) c.exp.inside c.args.exp.now c.exp.view_is c.in-Decs.decs c.in-Decs.is c.module_of_block.ensures

pub form_of-returns-in-Apply : goal.form_of-returns-in-Apply
form_of-returns-in-Apply t c = apply_goes (files_of c.args.sources.files.now) (walks (files_of c.args.sources.files.now) c.args.depth) (here_of c.args.here) c.exp.inside c.args.exp.now c.exp.view_is c.in-Apply.function c.in-Apply.given c.in-Apply.is c.application.ensures

pub form_of-returns-in-Import : goal.form_of-returns-in-Import
form_of-returns-in-Import t c = import_goes (files_of c.args.sources.files.now) (walks (files_of c.args.sources.files.now) c.args.depth) (here_of c.args.here) c.exp.inside c.args.exp.now c.exp.view_is c.in-Import.name c.in-Import.is c.imported.ensures

pub form_of-returns-in-Lambda : goal.form_of-returns-in-Lambda
form_of-returns-in-Lambda t c = lambda_goes (files_of c.args.sources.files.now) (walks (files_of c.args.sources.files.now) c.args.depth) (here_of c.args.here) c.exp.inside c.args.exp.now c.exp.view_is c.in-Lambda.label c.in-Lambda.bound c.in-Lambda.seal c.in-Lambda.body c.in-Lambda.is c.lambda.ensures

pub form_of-returns-in-Seal : goal.form_of-returns-in-Seal
form_of-returns-in-Seal t c = seal_goes (files_of c.args.sources.files.now) (walks (files_of c.args.sources.files.now) c.args.depth) (here_of c.args.here) c.exp.inside c.args.exp.now c.exp.view_is c.in-Seal.body c.in-Seal.ty c.in-Seal.is c.sealed_module.ensures

pub sealed_module-returns-in-Ok : goal.sealed_module-returns-in-Ok
sealed_module-returns-in-Ok t c = goes module_ref_of module_ref_of ((walks (files_of c.args.sources.files.now) c.args.depth).module_of (here_of c.args.here) c.args.body.now) (λ m. module_met (files_of c.args.sources.files.now) (walks (files_of c.args.sources.files.now) c.args.depth) (here_of c.args.here) (hidden m []) c.args.ty.now) c.in-Ok.is c.module_of.ensures c.module_met.ensures

pub sealed_module-returns-in-Err : goal.sealed_module-returns-in-Err
sealed_module-returns-in-Err t c = halts module_ref_of module_ref_of ((walks (files_of c.args.sources.files.now) c.args.depth).module_of (here_of c.args.here) c.args.body.now) (λ m. module_met (files_of c.args.sources.files.now) (walks (files_of c.args.sources.files.now) c.args.depth) (here_of c.args.here) (hidden m []) c.args.ty.now) c.in-Err.is c.module_of.ensures

pub sealed_body-returns-in-Ok : goal.sealed_body-returns-in-Ok
sealed_body-returns-in-Ok t c = goes module_ref_of module_ref_of ((walks (files_of c.args.sources.files.now) c.args.depth).module_of (here_of c.args.here) c.args.body.now) (sealed_by (files_of c.args.sources.files.now) (walks (files_of c.args.sources.files.now) c.args.depth) (here_of c.args.here) (maybe c.args.seal)) c.in-Ok.is c.module_of.ensures c.sealed_by.ensures

pub sealed_body-returns-in-Err : goal.sealed_body-returns-in-Err
sealed_body-returns-in-Err t c = halts module_ref_of module_ref_of ((walks (files_of c.args.sources.files.now) c.args.depth).module_of (here_of c.args.here) c.args.body.now) (sealed_by (files_of c.args.sources.files.now) (walks (files_of c.args.sources.files.now) c.args.depth) (here_of c.args.here) (maybe c.args.seal)) c.in-Err.is c.module_of.ensures

pub sealed_by-returns-in-Some : goal.sealed_by-returns-in-Some
sealed_by-returns-in-Some t c = where_is module_ref_of (λ o. sealed_by (files_of c.args.sources.files.now) (walks (files_of c.args.sources.files.now) c.args.depth) (here_of c.args.here) (maybe o) (module_ref_of c.args.made)) (sym c.in-Some.is) c.module_met.ensures

pub sealed_by-returns-in-None : goal.sealed_by-returns-in-None
sealed_by-returns-in-None t c = where_is module_ref_of (λ o. sealed_by (files_of c.args.sources.files.now) (walks (files_of c.args.sources.files.now) c.args.depth) (here_of c.args.here) (maybe o) (module_ref_of c.args.made)) (sym c.in-None.is) (at_once module_ref_of c.args.made c.args.state.now)

pub looked_at-returns-in-Some : goal.looked_at-returns-in-Some
looked_at-returns-in-Some t c = where_is contents_of (λ o. looked_at (files_of c.args.sources.files.now) (walks (files_of c.args.sources.files.now) c.args.depth) (here_of c.args.here) (maybe o)) (sym c.in-Some.is) c.met.ensures

pub looked_at-returns-in-Ok : goal.looked_at-returns-in-Ok
looked_at-returns-in-Ok t c = where_is contents_of (λ o. looked_at (files_of c.args.sources.files.now) (walks (files_of c.args.sources.files.now) c.args.depth) (here_of c.args.here) (maybe o)) (sym c.in-None.is) (made_at_once contents_of (held_contents.Members c.in-Ok.none) (members []) (ap members c.in-Ok.ensures))

pub looked_at-returns-in-Err : goal.looked_at-returns-in-Err
looked_at-returns-in-Err t c = stops

pub lambda-returns-in-Err : goal.lambda-returns-in-Err
lambda-returns-in-Err t c = lambda_does (files_of c.args.sources.files.now) (walks (files_of c.args.sources.files.now) c.args.depth) (here_of c.args.here) (label_of c.args.label) c.args.bound.now (maybe c.args.seal) c.args.body.now (halts module_ref_of module_ref_of (module_met (files_of c.args.sources.files.now) (walks (files_of c.args.sources.files.now) c.args.depth) (bare (here_of c.args.here)) nothing c.args.bound.now) (λ p s. after (looked_at (files_of c.args.sources.files.now) (walks (files_of c.args.sources.files.now) c.args.depth) (in_body (here_of c.args.here) c.args.label.name.now p (here_of c.args.here).names) (maybe c.args.seal) s) (λ x. lambda_body (files_of c.args.sources.files.now) (walks (files_of c.args.sources.files.now) c.args.depth) (here_of c.args.here) (in_body (here_of c.args.here) c.args.label.name.now p (here_of c.args.here).names) (label_of c.args.label) c.args.bound.now (maybe c.args.seal) c.args.body.now)) c.in-Err.is c.module_met.ensures)

pub lambda-returns-in-Err-in_body : goal.lambda-returns-in-Err-in_body
lambda-returns-in-Err-in_body t c = stops

pub lambda-returns-in-Ok-looked_at : goal.lambda-returns-in-Ok-looked_at
lambda-returns-in-Ok-looked_at t c = lambda_does (files_of c.args.sources.files.now) (walks (files_of c.args.sources.files.now) c.args.depth) (here_of c.args.here) (label_of c.args.label) c.args.bound.now (maybe c.args.seal) c.args.body.now (goes module_ref_of module_ref_of (module_met (files_of c.args.sources.files.now) (walks (files_of c.args.sources.files.now) c.args.depth) (bare (here_of c.args.here)) nothing c.args.bound.now) (λ p s. after (looked_at (files_of c.args.sources.files.now) (walks (files_of c.args.sources.files.now) c.args.depth) (in_body (here_of c.args.here) c.args.label.name.now p (here_of c.args.here).names) (maybe c.args.seal) s) (λ x. lambda_body (files_of c.args.sources.files.now) (walks (files_of c.args.sources.files.now) c.args.depth) (here_of c.args.here) (in_body (here_of c.args.here) c.args.label.name.now p (here_of c.args.here).names) (label_of c.args.label) c.args.bound.now (maybe c.args.seal) c.args.body.now)) c.in-Ok.is c.module_met.ensures
    (goes contents_of module_ref_of (looked_at (files_of c.args.sources.files.now) (walks (files_of c.args.sources.files.now) c.args.depth) (in_body (here_of c.args.here) c.args.label.name.now (module_ref_of c.in-Ok.parameter) (here_of c.args.here).names) (maybe c.args.seal)) (λ x. lambda_body (files_of c.args.sources.files.now) (walks (files_of c.args.sources.files.now) c.args.depth) (here_of c.args.here) (in_body (here_of c.args.here) c.args.label.name.now (module_ref_of c.in-Ok.parameter) (here_of c.args.here).names) (label_of c.args.label) c.args.bound.now (maybe c.args.seal) c.args.body.now) c.in-Ok-looked_at.is (where_is contents_of (λ i. looked_at (files_of c.args.sources.files.now) (walks (files_of c.args.sources.files.now) c.args.depth) i (maybe c.args.seal)) c.in-Ok-in_body.ensures.ok c.looked_at.ensures) (where_is module_ref_of (λ i. lambda_body (files_of c.args.sources.files.now) (walks (files_of c.args.sources.files.now) c.args.depth) (here_of c.args.here) i (label_of c.args.label) c.args.bound.now (maybe c.args.seal) c.args.body.now) c.in-Ok-in_body.ensures.ok c.lambda_body.ensures)))

pub lambda-returns-in-Err-looked_at : goal.lambda-returns-in-Err-looked_at
lambda-returns-in-Err-looked_at t c = lambda_does (files_of c.args.sources.files.now) (walks (files_of c.args.sources.files.now) c.args.depth) (here_of c.args.here) (label_of c.args.label) c.args.bound.now (maybe c.args.seal) c.args.body.now (goes module_ref_of module_ref_of (module_met (files_of c.args.sources.files.now) (walks (files_of c.args.sources.files.now) c.args.depth) (bare (here_of c.args.here)) nothing c.args.bound.now) (λ p s. after (looked_at (files_of c.args.sources.files.now) (walks (files_of c.args.sources.files.now) c.args.depth) (in_body (here_of c.args.here) c.args.label.name.now p (here_of c.args.here).names) (maybe c.args.seal) s) (λ x. lambda_body (files_of c.args.sources.files.now) (walks (files_of c.args.sources.files.now) c.args.depth) (here_of c.args.here) (in_body (here_of c.args.here) c.args.label.name.now p (here_of c.args.here).names) (label_of c.args.label) c.args.bound.now (maybe c.args.seal) c.args.body.now)) c.in-Ok.is c.module_met.ensures
    (halts contents_of module_ref_of (looked_at (files_of c.args.sources.files.now) (walks (files_of c.args.sources.files.now) c.args.depth) (in_body (here_of c.args.here) c.args.label.name.now (module_ref_of c.in-Ok.parameter) (here_of c.args.here).names) (maybe c.args.seal)) (λ x. lambda_body (files_of c.args.sources.files.now) (walks (files_of c.args.sources.files.now) c.args.depth) (here_of c.args.here) (in_body (here_of c.args.here) c.args.label.name.now (module_ref_of c.in-Ok.parameter) (here_of c.args.here).names) (label_of c.args.label) c.args.bound.now (maybe c.args.seal) c.args.body.now) c.in-Err-looked_at.is (where_is contents_of (λ i. looked_at (files_of c.args.sources.files.now) (walks (files_of c.args.sources.files.now) c.args.depth) i (maybe c.args.seal)) c.in-Ok-in_body.ensures.ok c.looked_at.ensures)))

pub lambda_body-returns-in-Err : goal.lambda_body-returns-in-Err
lambda_body-returns-in-Err t c = halts module_ref_of module_ref_of (sealed_body (files_of c.args.sources.files.now) (walks (files_of c.args.sources.files.now) c.args.depth) (bare (here_of c.args.inside)) (maybe c.args.seal) c.args.body.now) (λ b s. after (new_functor (record { file = c.args.here.file; parameter = c.args.label.name.now; bound = c.args.bound.now; names = c.args.here.names.now; gives = the_body (maybe c.args.seal) c.args.body.now; bare = b }) s) new_module) c.in-Err.is c.sealed_body.ensures

pub lambda_body-returns-in-Ok-new_functor : goal.lambda_body-returns-in-Ok-new_functor
lambda_body-returns-in-Ok-new_functor t c = goes module_ref_of module_ref_of (sealed_body (files_of c.args.sources.files.now) (walks (files_of c.args.sources.files.now) c.args.depth) (bare (here_of c.args.inside)) (maybe c.args.seal) c.args.body.now) (λ b s. after (new_functor (record { file = c.args.here.file; parameter = c.args.label.name.now; bound = c.args.bound.now; names = c.args.here.names.now; gives = the_body (maybe c.args.seal) c.args.body.now; bare = b }) s) new_module) c.in-Ok.is c.sealed_body.ensures (goes contents_of module_ref_of (new_functor (record { file = c.args.here.file; parameter = c.args.label.name.now; bound = c.args.bound.now; names = c.args.here.names.now; gives = the_body (maybe c.args.seal) c.args.body.now; bare = module_ref_of c.in-Ok.bare })) new_module c.in-Ok-new_functor.is c.new_functor.ensures c.new_module.ensures)

pub lambda_body-returns-in-Err-new_functor : goal.lambda_body-returns-in-Err-new_functor
lambda_body-returns-in-Err-new_functor t c = goes module_ref_of module_ref_of (sealed_body (files_of c.args.sources.files.now) (walks (files_of c.args.sources.files.now) c.args.depth) (bare (here_of c.args.inside)) (maybe c.args.seal) c.args.body.now) (λ b s. after (new_functor (record { file = c.args.here.file; parameter = c.args.label.name.now; bound = c.args.bound.now; names = c.args.here.names.now; gives = the_body (maybe c.args.seal) c.args.body.now; bare = b }) s) new_module) c.in-Ok.is c.sealed_body.ensures (halts contents_of module_ref_of (new_functor (record { file = c.args.here.file; parameter = c.args.label.name.now; bound = c.args.bound.now; names = c.args.here.names.now; gives = the_body (maybe c.args.seal) c.args.body.now; bare = module_ref_of c.in-Ok.bare })) new_module c.in-Err-new_functor.is c.new_functor.ensures)

pub application-returns-in-Ok : goal.application-returns-in-Ok
application-returns-in-Ok t c = goes module_ref_of module_ref_of ((walks (files_of c.args.sources.files.now) c.args.depth).module_of (here_of c.args.here) c.args.function.now) (applied_to (files_of c.args.sources.files.now) (walks (files_of c.args.sources.files.now) c.args.depth) (here_of c.args.here) (out-ModExp c.args.function.now).place (called_of c.args.function.now) (all c.args.given.now)) c.in-Ok.is c.module_of.ensures c.applied_to.ensures

pub application-returns-in-Err : goal.application-returns-in-Err
application-returns-in-Err t c = halts module_ref_of module_ref_of ((walks (files_of c.args.sources.files.now) c.args.depth).module_of (here_of c.args.here) c.args.function.now) (applied_to (files_of c.args.sources.files.now) (walks (files_of c.args.sources.files.now) c.args.depth) (here_of c.args.here) (out-ModExp c.args.function.now).place (called_of c.args.function.now) (all c.args.given.now)) c.in-Err.is c.module_of.ensures

pub applied_to-loop-argument-init : goal.applied_to-loop-argument-init
applied_to-loop-argument-init t c = at_start _ _

pub applied_to-loop-argument-preserved : goal.applied_to-loop-argument-preserved
applied_to-loop-argument-preserved t c = item_next (arguments_left (files_of c.args.sources.files.now) (walks (files_of c.args.sources.files.now) c.args.depth) (here_of c.args.here) c.args.function.now) (λ a. argument_applied (files_of c.args.sources.files.now) (walks (files_of c.args.sources.files.now) c.args.depth) (here_of c.args.here) c.args.function.now a.at.now) (arguments_more (files_of c.args.sources.files.now) (walks (files_of c.args.sources.files.now) c.args.depth) (here_of c.args.here) c.args.function.now) module_ref_of _ c.args.given.now c.loop-argument.argument-index c.argument-item.result (from_item c.args.given.now c.loop-argument.argument-index c.argument-item.result c.loop-argument-test.true c.argument-item.is) c.loop-argument.module c.in-Ok.next c.in-Ok.is c.argument_applied.ensures c.loop-argument.invariant

pub applied_to-returns-in-Err : goal.applied_to-returns-in-Err
applied_to-returns-in-Err t c = item_stops (arguments_left (files_of c.args.sources.files.now) (walks (files_of c.args.sources.files.now) c.args.depth) (here_of c.args.here) c.args.function.now) (λ a. argument_applied (files_of c.args.sources.files.now) (walks (files_of c.args.sources.files.now) c.args.depth) (here_of c.args.here) c.args.function.now a.at.now) (arguments_more (files_of c.args.sources.files.now) (walks (files_of c.args.sources.files.now) c.args.depth) (here_of c.args.here) c.args.function.now) module_ref_of _ c.args.given.now c.loop-argument.argument-index c.argument-item.result (from_item c.args.given.now c.loop-argument.argument-index c.argument-item.result c.loop-argument-test.true c.argument-item.is) module_ref_of c.loop-argument.module c.in-Err.is c.argument_applied.ensures c.loop-argument.invariant

pub applied_to-returns : goal.applied_to-returns
applied_to-returns t c = row_ends (arguments_left (files_of c.args.sources.files.now) (walks (files_of c.args.sources.files.now) c.args.depth) (here_of c.args.here) c.args.function.now) (λ m. m) (arguments_none (files_of c.args.sources.files.now) (walks (files_of c.args.sources.files.now) c.args.depth) (here_of c.args.here) c.args.function.now) module_ref_of module_ref_of _ c.args.given.now c.loop-argument.argument-index c.loop-argument.module c.loop-argument.module c.loop-argument-test.false refl c.loop-argument.invariant

pub argument_applied-returns-in-Ok : goal.argument_applied-returns-in-Ok
argument_applied-returns-in-Ok t c = not_parametric (files_of c.args.sources.files.now) (walks (files_of c.args.sources.files.now) c.args.depth) (here_of c.args.here) c.args.function.now c.args.argument.now (module_ref_of c.args.of) _ c.modules.ensures _ c.functor_in.ensures c.function.inside c.in-Ok.name c.in-None.is c.function.view_is c.in-Ok.ensures.ok

pub argument_applied-returns-in-Err : goal.argument_applied-returns-in-Err
argument_applied-returns-in-Err t c = stops

pub argument_applied-returns-in-Ok-module_of : goal.argument_applied-returns-in-Ok-module_of
argument_applied-returns-in-Ok-module_of t c = argument_goes (files_of c.args.sources.files.now) (walks (files_of c.args.sources.files.now) c.args.depth) (here_of c.args.here) c.args.function.now c.args.argument.now (module_ref_of c.args.of) _ c.modules.ensures _ c.functor_in.ensures c.in-Some.number c.in-Some.is (goes module_ref_of module_ref_of ((walks (files_of c.args.sources.files.now) c.args.depth).module_of (here_of c.args.here) c.args.argument.now) (counted (files_of c.args.sources.files.now) (walks (files_of c.args.sources.files.now) c.args.depth) c.args.here.live (here_of c.args.here) (out-ModExp c.args.argument.now).place c.in-Some.number) c.in-Ok-module_of.is c.module_of.ensures
    (where_is module_ref_of (λ v. counted (files_of c.args.sources.files.now) (walks (files_of c.args.sources.files.now) c.args.depth) c.args.here.live (here_of c.args.here) (out-ModExp v).place c.in-Some.number (module_ref_of c.in-Ok-module_of.made)) c.argument.view_is c.counted.ensures))

pub argument_applied-returns-in-Err-module_of : goal.argument_applied-returns-in-Err-module_of
argument_applied-returns-in-Err-module_of t c = argument_goes (files_of c.args.sources.files.now) (walks (files_of c.args.sources.files.now) c.args.depth) (here_of c.args.here) c.args.function.now c.args.argument.now (module_ref_of c.args.of) _ c.modules.ensures _ c.functor_in.ensures c.in-Some.number c.in-Some.is (halts module_ref_of module_ref_of ((walks (files_of c.args.sources.files.now) c.args.depth).module_of (here_of c.args.here) c.args.argument.now) (counted (files_of c.args.sources.files.now) (walks (files_of c.args.sources.files.now) c.args.depth) c.args.here.live (here_of c.args.here) (out-ModExp c.args.argument.now).place c.in-Some.number) c.in-Err-module_of.is c.module_of.ensures)

pub counted-returns-then-not-here : goal.counted-returns-then-not-here
counted-returns-then-not-here t c = dry_counted (files_of c.args.sources.files.now) (walks (files_of c.args.sources.files.now) c.args.depth) (here_of c.args.here) c.args.at c.args.number (module_ref_of c.args.argument) c.args.here.live c.if-not-here.true c.applied.ensures

pub counted-returns-then-state-ge-APPLICATIONS : goal.counted-returns-then-state-ge-APPLICATIONS
counted-returns-then-state-ge-APPLICATIONS t c = too_many (files_of c.args.sources.files.now) (walks (files_of c.args.sources.files.now) c.args.depth) (here_of c.args.here) c.args.at c.args.number (module_ref_of c.args.argument) c.args.here.live c.if-not-here.false c.if-state-ge-APPLICATIONS.true

pub counted-returns : goal.counted-returns
counted-returns t c = counted_goes (files_of c.args.sources.files.now) (walks (files_of c.args.sources.files.now) c.args.depth) (here_of c.args.here) c.args.at c.args.number (module_ref_of c.args.argument) c.args.here.live c.if-not-here.false c.if-state-ge-APPLICATIONS.false refl refl refl refl refl refl refl c.applied-2.ensures

pub argument_met-returns-then-not-here : goal.argument_met-returns-then-not-here
argument_met-returns-then-not-here t c = goes module_ref_of module_ref_of (module_met (files_of c.args.sources.files.now) (walks (files_of c.args.sources.files.now) c.args.depth) (seeing c.args.functor.names.now (here_of c.args.here)) (shown (module_ref_of c.args.argument) []) c.args.functor.bound.now) (result_of (files_of c.args.sources.files.now) (walks (files_of c.args.sources.files.now) c.args.depth) c.args.here.live (here_of c.args.here) (functor_of c.args.functor)) c.in-Ok.is c.module_met.ensures (where_is module_ref_of (λ l. result_of (files_of c.args.sources.files.now) (walks (files_of c.args.sources.files.now) c.args.depth) l (here_of c.args.here) (functor_of c.args.functor) (module_ref_of c.in-Ok.parameter)) (sym c.if-not-here.true) (at_once module_ref_of c.args.functor.bare c.module_met.new.state))

pub argument_met-returns-else-not-here : goal.argument_met-returns-else-not-here
argument_met-returns-else-not-here t c = goes module_ref_of module_ref_of (module_met (files_of c.args.sources.files.now) (walks (files_of c.args.sources.files.now) c.args.depth) (seeing c.args.functor.names.now (here_of c.args.here)) (shown (module_ref_of c.args.argument) []) c.args.functor.bound.now) (result_of (files_of c.args.sources.files.now) (walks (files_of c.args.sources.files.now) c.args.depth) c.args.here.live (here_of c.args.here) (functor_of c.args.functor)) c.in-Ok.is c.module_met.ensures (where_is module_ref_of (λ l. result_of (files_of c.args.sources.files.now) (walks (files_of c.args.sources.files.now) c.args.depth) l (here_of c.args.here) (functor_of c.args.functor) (module_ref_of c.in-Ok.parameter)) (sym c.if-not-here.false) c.given_by.ensures)

pub argument_met-returns-in-Err : goal.argument_met-returns-in-Err
argument_met-returns-in-Err t c = halts module_ref_of module_ref_of (module_met (files_of c.args.sources.files.now) (walks (files_of c.args.sources.files.now) c.args.depth) (seeing c.args.functor.names.now (here_of c.args.here)) (shown (module_ref_of c.args.argument) []) c.args.functor.bound.now) (result_of (files_of c.args.sources.files.now) (walks (files_of c.args.sources.files.now) c.args.depth) c.args.here.live (here_of c.args.here) (functor_of c.args.functor)) c.in-Err.is c.module_met.ensures

pub given_by-returns-in-Err : goal.given_by-returns-in-Err
given_by-returns-in-Err t c = stops

pub given_by-returns-in-Body : goal.given_by-returns-in-Body
given_by-returns-in-Body t c = where_is module_ref_of (λ g. given_by (files_of c.args.sources.files.now) (walks (files_of c.args.sources.files.now) c.args.depth) (here_of c.args.here) (functor_of c.args.functor) (giving_of g) (module_ref_of c.args.parameter)) (sym c.in-Body.is) (where_is module_ref_of (λ i. sealed_body (files_of c.args.sources.files.now) (walks (files_of c.args.sources.files.now) c.args.depth) i (maybe c.in-Body.seal) c.in-Body.body.now) c.in-Ok.ensures.ok c.sealed_body.ensures)

pub given_by-returns-in-Ok-applied : goal.given_by-returns-in-Ok-applied
given_by-returns-in-Ok-applied t c = where_is module_ref_of (λ g. given_by (files_of c.args.sources.files.now) (walks (files_of c.args.sources.files.now) c.args.depth) (here_of c.args.here) (functor_of c.args.functor) (giving_of g) (module_ref_of c.args.parameter)) (sym c.in-Another.is) (another_does (files_of c.args.sources.files.now) (walks (files_of c.args.sources.files.now) c.args.depth) (here_of c.args.here) (functor_of c.args.functor) (module_ref_of c.args.parameter) c.in-Another.number c.in-Another.hides c.in-Another.ty.now (goes module_ref_of module_ref_of ((walks (files_of c.args.sources.files.now) c.args.depth).applied (here_of c.args.here) c.in-Another.number (module_ref_of c.args.parameter)) (λ m. module_met (files_of c.args.sources.files.now) (walks (files_of c.args.sources.files.now) c.args.depth) (within (here_of c.args.here) (functor_of c.args.functor) (module_ref_of c.args.parameter)) (cond c.in-Another.hides (hidden m []) (shown m [])) c.in-Another.ty.now) c.in-Ok-applied.is c.applied.ensures
    (where_is module_ref_of (λ i. module_met (files_of c.args.sources.files.now) (walks (files_of c.args.sources.files.now) c.args.depth) i (cond c.in-Another.hides (hidden (module_ref_of c.in-Ok-applied.made) []) (shown (module_ref_of c.in-Ok-applied.made) [])) c.in-Another.ty.now) c.in-Ok.ensures.ok (where_is module_ref_of (λ m. module_met (files_of c.args.sources.files.now) (walks (files_of c.args.sources.files.now) c.args.depth) (here_of c.in-Ok.inside) m c.in-Another.ty.now) c.met_as-meeting.ensures c.module_met.ensures))))

pub given_by-returns-in-Err-applied : goal.given_by-returns-in-Err-applied
given_by-returns-in-Err-applied t c = where_is module_ref_of (λ g. given_by (files_of c.args.sources.files.now) (walks (files_of c.args.sources.files.now) c.args.depth) (here_of c.args.here) (functor_of c.args.functor) (giving_of g) (module_ref_of c.args.parameter)) (sym c.in-Another.is) (another_does (files_of c.args.sources.files.now) (walks (files_of c.args.sources.files.now) c.args.depth) (here_of c.args.here) (functor_of c.args.functor) (module_ref_of c.args.parameter) c.in-Another.number c.in-Another.hides c.in-Another.ty.now (halts module_ref_of module_ref_of ((walks (files_of c.args.sources.files.now) c.args.depth).applied (here_of c.args.here) c.in-Another.number (module_ref_of c.args.parameter)) (λ m. module_met (files_of c.args.sources.files.now) (walks (files_of c.args.sources.files.now) c.args.depth) (within (here_of c.args.here) (functor_of c.args.functor) (module_ref_of c.args.parameter)) (cond c.in-Another.hides (hidden m []) (shown m [])) c.in-Another.ty.now) c.in-Err-applied.is c.applied.ensures))

pub given_by-returns-in-Names : goal.given_by-returns-in-Names
given_by-returns-in-Names t c = where_is module_ref_of (λ g. given_by (files_of c.args.sources.files.now) (walks (files_of c.args.sources.files.now) c.args.depth) (here_of c.args.here) (functor_of c.args.functor) (giving_of g) (module_ref_of c.args.parameter)) (sym c.in-Names.is) (at_once module_ref_of c.args.functor.bare c.args.state.now)

pub module_met-returns-in-Ok : goal.module_met-returns-in-Ok
module_met-returns-in-Ok t c = goes contents_of module_ref_of ((walks (files_of c.args.sources.files.now) c.args.depth).met (here_of c.args.here) (meeting_of c.args.meeting) c.args.ty.now) new_module c.in-Ok.is c.met.ensures c.new_module.ensures

pub module_met-returns-in-Err : goal.module_met-returns-in-Err
module_met-returns-in-Err t c = halts contents_of module_ref_of ((walks (files_of c.args.sources.files.now) c.args.depth).met (here_of c.args.here) (meeting_of c.args.meeting) c.args.ty.now) new_module c.in-Err.is c.met.ensures

pub met_by_form-returns-in-Path : goal.met_by_form-returns-in-Path
met_by_form-returns-in-Path t c = sig.path_goes (files_of c.args.sources.files.now) (walks (files_of c.args.sources.files.now) c.args.depth) (here_of c.args.here) (meeting_of c.args.meeting) c.ty.inside c.args.ty.now c.ty.view_is c.in-Path.path c.in-Path.is c.signature_met.ensures

pub met_by_form-returns-in-Specs : goal.met_by_form-returns-in-Specs
met_by_form-returns-in-Specs t c = sig.specs_go (files_of c.args.sources.files.now) (walks (files_of c.args.sources.files.now) c.args.depth) (here_of c.args.here) (meeting_of c.args.meeting) c.ty.inside c.args.ty.now c.ty.view_is c.in-Specs.specs c.in-Specs.is c.specs_met.ensures

pub met_by_form-returns-in-With : goal.met_by_form-returns-in-With
met_by_form-returns-in-With t c = sig.with_goes (files_of c.args.sources.files.now) (walks (files_of c.args.sources.files.now) c.args.depth) (here_of c.args.here) (meeting_of c.args.meeting) c.ty.inside c.args.ty.now c.ty.view_is c.in-With.inner c.in-With.withs c.in-With.is c.with_met.ensures

pub met_by_form-returns-in-Arrow : goal.met_by_form-returns-in-Arrow
met_by_form-returns-in-Arrow t c = sig.arrow_goes (files_of c.args.sources.files.now) (walks (files_of c.args.sources.files.now) c.args.depth) (here_of c.args.here) (meeting_of c.args.meeting) c.ty.inside c.args.ty.now c.ty.view_is c.in-Arrow.label c.in-Arrow.bound c.in-Arrow.result c.in-Arrow.is c.arrow.ensures

pub signature_met-returns-in-Err : goal.signature_met-returns-in-Err
signature_met-returns-in-Err t c = halts (λ k. k) contents_of (named_signature (here_of c.args.here) c.args.at (names c.args.path.now)) (λ k s. signature_met (files_of c.args.sources.files.now) (walks (files_of c.args.sources.files.now) c.args.depth) (here_of c.args.here) (meeting_of c.args.meeting) (item s.signatures k) s) c.in-Err.is c.signature_named.ensures

pub signature_met-returns-in-Some : goal.signature_met-returns-in-Some
signature_met-returns-in-Some t c = goes (λ k. k) contents_of (named_signature (here_of c.args.here) c.args.at (names c.args.path.now)) (λ k s. signature_met (files_of c.args.sources.files.now) (walks (files_of c.args.sources.files.now) c.args.depth) (here_of c.args.here) (meeting_of c.args.meeting) (item s.signatures k) s) c.in-Ok.is c.signature_named.ensures (signature_there (files_of c.args.sources.files.now) (walks (files_of c.args.sources.files.now) c.args.depth) (here_of c.args.here) (meeting_of c.args.meeting) c.in-Ok.number (signature_of c.in-Some.signature) c.in-Some.ensures c.met.ensures)

pub signature_met-returns-in-None : goal.signature_met-returns-in-None
signature_met-returns-in-None t c = stops

pub specs_met-returns-in-Err : goal.specs_met-returns-in-Err
specs_met-returns-in-Err t c = stops

pub specs_met-returns-in-Ok-each_spec : goal.specs_met-returns-in-Ok-each_spec
specs_met-returns-in-Ok-each_spec t c = makes met_of contents_of (specs_with (files_of c.args.sources.files.now) (walks (files_of c.args.sources.files.now) c.args.depth) (here_of c.args.here) (meeting_of c.args.meeting) (specs_of c.args.specs.now) []) members (held_contents.Members c.in-Ok-each_spec.specified.met) refl (told met_of (specs_with (files_of c.args.sources.files.now) (walks (files_of c.args.sources.files.now) c.args.depth) (here_of c.args.here) (meeting_of c.args.meeting) (specs_of c.args.specs.now) []) c.in-Ok-each_spec.is (where_is met_of (λ l. specs_with (files_of c.args.sources.files.now) (walks (files_of c.args.sources.files.now) c.args.depth) (here_of c.args.here) (meeting_of c.args.meeting) (specs_of c.args.specs.now) l) c.in-Ok.ensures c.each_spec.ensures))

pub specs_met-returns-in-Err-each_spec : goal.specs_met-returns-in-Err-each_spec
specs_met-returns-in-Err-each_spec t c = halts met_of contents_of (specs_with (files_of c.args.sources.files.now) (walks (files_of c.args.sources.files.now) c.args.depth) (here_of c.args.here) (meeting_of c.args.meeting) (specs_of c.args.specs.now) []) (λ ms s. Ok (members ms, s)) c.in-Err-each_spec.is (where_is met_of (λ l. specs_with (files_of c.args.sources.files.now) (walks (files_of c.args.sources.files.now) c.args.depth) (here_of c.args.here) (meeting_of c.args.meeting) (specs_of c.args.specs.now) l) c.in-Ok.ensures c.each_spec.ensures)

pub each_spec-loop-spec-init : goal.each_spec-loop-spec-init
each_spec-loop-spec-init t c = at_start _ _

pub each_spec-loop-spec-preserved : goal.each_spec-loop-spec-preserved
each_spec-loop-spec-preserved t c = item_next (specs_left (files_of c.args.sources.files.now) (walks (files_of c.args.sources.files.now) c.args.depth) (here_of c.args.here) (meeting_of c.args.meeting)) (spec_one (files_of c.args.sources.files.now) (walks (files_of c.args.sources.files.now) c.args.depth) (here_of c.args.here) (meeting_of c.args.meeting)) (specs_more (files_of c.args.sources.files.now) (walks (files_of c.args.sources.files.now) c.args.depth) (here_of c.args.here) (meeting_of c.args.meeting)) specified_of _ c.args.specs.now c.loop-spec.spec-index c.spec-item.result (from_item c.args.specs.now c.loop-spec.spec-index c.spec-item.result c.loop-spec-test.true c.spec-item.is) c.loop-spec.before c.in-Ok.next c.in-Ok.is c.one_spec.ensures c.loop-spec.invariant

pub each_spec-returns-in-Err : goal.each_spec-returns-in-Err
each_spec-returns-in-Err t c = item_stops (specs_left (files_of c.args.sources.files.now) (walks (files_of c.args.sources.files.now) c.args.depth) (here_of c.args.here) (meeting_of c.args.meeting)) (spec_one (files_of c.args.sources.files.now) (walks (files_of c.args.sources.files.now) c.args.depth) (here_of c.args.here) (meeting_of c.args.meeting)) (specs_more (files_of c.args.sources.files.now) (walks (files_of c.args.sources.files.now) c.args.depth) (here_of c.args.here) (meeting_of c.args.meeting)) specified_of _ c.args.specs.now c.loop-spec.spec-index c.spec-item.result (from_item c.args.specs.now c.loop-spec.spec-index c.spec-item.result c.loop-spec-test.true c.spec-item.is) met_of c.loop-spec.before c.in-Err.is c.one_spec.ensures c.loop-spec.invariant

pub each_spec-returns : goal.each_spec-returns
each_spec-returns t c = row_ends (specs_left (files_of c.args.sources.files.now) (walks (files_of c.args.sources.files.now) c.args.depth) (here_of c.args.here) (meeting_of c.args.meeting)) (λ b. b.1) (specs_none (files_of c.args.sources.files.now) (walks (files_of c.args.sources.files.now) c.args.depth) (here_of c.args.here) (meeting_of c.args.meeting)) specified_of met_of _ c.args.specs.now c.loop-spec.spec-index c.loop-spec.before c.loop-spec.before c.loop-spec-test.false refl c.loop-spec.invariant

pub one_spec-returns-in-Value : goal.one_spec-returns-in-Value
one_spec-returns-in-Value t c = sig.value_goes (files_of c.args.sources.files.now) (walks (files_of c.args.sources.files.now) c.args.depth) (here_of c.args.here) (meeting_of c.args.meeting) c.args.before c.args.spec.now.form c.in-Value.label c.in-Value.heads c.in-Value.ty c.in-Value.is c.value_spec-made.ensures c.specified.ensures

pub one_spec-returns-in-TypeName : goal.one_spec-returns-in-TypeName
one_spec-returns-in-TypeName t c = sig.type_goes (files_of c.args.sources.files.now) (walks (files_of c.args.sources.files.now) c.args.depth) (here_of c.args.here) (meeting_of c.args.meeting) c.args.before c.args.spec.now.form c.in-TypeName.label c.in-TypeName.ty c.in-TypeName.is c.type_spec-made.ensures c.specified-in-TypeName.ensures

pub one_spec-returns-in-Module : goal.one_spec-returns-in-Module
one_spec-returns-in-Module t c = sig.module_goes (files_of c.args.sources.files.now) (walks (files_of c.args.sources.files.now) c.args.depth) (here_of c.args.here) (meeting_of c.args.meeting) c.args.before c.args.spec.now.form c.in-Module.label c.in-Module.ty c.in-Module.is c.module_spec-made.ensures c.specified-in-Module.ensures

pub one_spec-returns-in-Ok : goal.one_spec-returns-in-Ok
one_spec-returns-in-Ok t c = sig.include_goes (files_of c.args.sources.files.now) (walks (files_of c.args.sources.files.now) c.args.depth) (here_of c.args.here) (meeting_of c.args.meeting) c.args.before c.args.spec.now.form c.in-Include.ty c.in-Include.is (goes contents_of specified_of ((walks (files_of c.args.sources.files.now) c.args.depth).met (here_of c.args.here) (meeting_of c.args.meeting) c.in-Include.ty.now) (λ x. include_step c.in-Include.ty.now x (specified_of c.args.before)) c.in-Ok.is c.met.ensures (c.included.ensures c.met.new.state))

pub one_spec-returns-in-Err : goal.one_spec-returns-in-Err
one_spec-returns-in-Err t c = sig.include_goes (files_of c.args.sources.files.now) (walks (files_of c.args.sources.files.now) c.args.depth) (here_of c.args.here) (meeting_of c.args.meeting) c.args.before c.args.spec.now.form c.in-Include.ty c.in-Include.is (halts contents_of specified_of ((walks (files_of c.args.sources.files.now) c.args.depth).met (here_of c.args.here) (meeting_of c.args.meeting) c.in-Include.ty.now) (λ x. include_step c.in-Include.ty.now x (specified_of c.args.before)) c.in-Err.is c.met.ensures)

pub module_spec-returns-in-Err : goal.module_spec-returns-in-Err
module_spec-returns-in-Err t c = module_spec_does (files_of c.args.sources.files.now) (walks (files_of c.args.sources.files.now) c.args.depth) (here_of c.args.here) (meeting_of c.args.meeting) (label_of c.args.label) c.args.ty.now (halts meeting_of alone (meeting_within (label_of c.args.label) (meeting_of c.args.meeting)) (λ inner. as_module c.args.label.name.now (module_met (files_of c.args.sources.files.now) (walks (files_of c.args.sources.files.now) c.args.depth) (here_of c.args.here) inner c.args.ty.now)) c.in-Err.is c.meeting_within.ensures)

pub module_spec-returns-in-Ok-module_met : goal.module_spec-returns-in-Ok-module_met
module_spec-returns-in-Ok-module_met t c = module_spec_does (files_of c.args.sources.files.now) (walks (files_of c.args.sources.files.now) c.args.depth) (here_of c.args.here) (meeting_of c.args.meeting) (label_of c.args.label) c.args.ty.now (goes meeting_of alone (meeting_within (label_of c.args.label) (meeting_of c.args.meeting)) (λ inner. as_module c.args.label.name.now (module_met (files_of c.args.sources.files.now) (walks (files_of c.args.sources.files.now) c.args.depth) (here_of c.args.here) inner c.args.ty.now)) c.in-Ok.is c.meeting_within.ensures (makes module_ref_of alone (module_met (files_of c.args.sources.files.now) (walks (files_of c.args.sources.files.now) c.args.depth) (here_of c.args.here) (meeting_of c.in-Ok.inner) c.args.ty.now) (λ m. module_member c.args.label.name.now m ∷ []) (held_member.Module c.args.label.name c.in-Ok-module_met.made) refl (told module_ref_of (module_met (files_of c.args.sources.files.now) (walks (files_of c.args.sources.files.now) c.args.depth) (here_of c.args.here) (meeting_of c.in-Ok.inner) c.args.ty.now) c.in-Ok-module_met.is c.module_met.ensures)))

pub module_spec-returns-in-Err-module_met : goal.module_spec-returns-in-Err-module_met
module_spec-returns-in-Err-module_met t c = module_spec_does (files_of c.args.sources.files.now) (walks (files_of c.args.sources.files.now) c.args.depth) (here_of c.args.here) (meeting_of c.args.meeting) (label_of c.args.label) c.args.ty.now (goes meeting_of alone (meeting_within (label_of c.args.label) (meeting_of c.args.meeting)) (λ inner. as_module c.args.label.name.now (module_met (files_of c.args.sources.files.now) (walks (files_of c.args.sources.files.now) c.args.depth) (here_of c.args.here) inner c.args.ty.now)) c.in-Ok.is c.meeting_within.ensures (halts module_ref_of alone (module_met (files_of c.args.sources.files.now) (walks (files_of c.args.sources.files.now) c.args.depth) (here_of c.args.here) (meeting_of c.in-Ok.inner) c.args.ty.now) (λ m s. Ok (module_member c.args.label.name.now m ∷ [], s)) c.in-Err-module_met.is c.module_met.ensures))

pub with_met-returns-in-Err : goal.with_met-returns-in-Err
with_met-returns-in-Err t c = halts module_ref_of contents_of (module_met (files_of c.args.sources.files.now) (walks (files_of c.args.sources.files.now) c.args.depth) (bare (here_of c.args.here)) nothing c.args.ty.now) (λ m s. after (refined (bare (here_of c.args.here)) m (withs_of c.args.withs.now) s) (refined_met (files_of c.args.sources.files.now) (walks (files_of c.args.sources.files.now) c.args.depth) (here_of c.args.here) (meeting_of c.args.meeting) c.args.ty.now (withs_of c.args.withs.now))) c.in-Err.is c.module_met.ensures

pub with_met-returns-in-Ok-refined : goal.with_met-returns-in-Ok-refined
with_met-returns-in-Ok-refined t c = goes module_ref_of contents_of (module_met (files_of c.args.sources.files.now) (walks (files_of c.args.sources.files.now) c.args.depth) (bare (here_of c.args.here)) nothing c.args.ty.now) (λ m s. after (refined (bare (here_of c.args.here)) m (withs_of c.args.withs.now) s) (refined_met (files_of c.args.sources.files.now) (walks (files_of c.args.sources.files.now) c.args.depth) (here_of c.args.here) (meeting_of c.args.meeting) c.args.ty.now (withs_of c.args.withs.now))) c.in-Ok.is c.module_met.ensures (goes module_ref_of contents_of (refined (bare (here_of c.args.here)) (module_ref_of c.in-Ok.bare) (withs_of c.args.withs.now)) (refined_met (files_of c.args.sources.files.now) (walks (files_of c.args.sources.files.now) c.args.depth) (here_of c.args.here) (meeting_of c.args.meeting) c.args.ty.now (withs_of c.args.withs.now)) c.in-Ok-refined.is c.refined.ensures c.refined_met.ensures)

pub with_met-returns-in-Err-refined : goal.with_met-returns-in-Err-refined
with_met-returns-in-Err-refined t c = goes module_ref_of contents_of (module_met (files_of c.args.sources.files.now) (walks (files_of c.args.sources.files.now) c.args.depth) (bare (here_of c.args.here)) nothing c.args.ty.now) (λ m s. after (refined (bare (here_of c.args.here)) m (withs_of c.args.withs.now) s) (refined_met (files_of c.args.sources.files.now) (walks (files_of c.args.sources.files.now) c.args.depth) (here_of c.args.here) (meeting_of c.args.meeting) c.args.ty.now (withs_of c.args.withs.now))) c.in-Ok.is c.module_met.ensures (halts module_ref_of contents_of (refined (bare (here_of c.args.here)) (module_ref_of c.in-Ok.bare) (withs_of c.args.withs.now)) (refined_met (files_of c.args.sources.files.now) (walks (files_of c.args.sources.files.now) c.args.depth) (here_of c.args.here) (meeting_of c.args.meeting) c.args.ty.now (withs_of c.args.withs.now)) c.in-Err-refined.is c.refined.ensures)

pub refined_met-returns-in-Hidden : goal.refined_met-returns-in-Hidden
refined_met-returns-in-Hidden t c = where_is contents_of (λ m. refined_met (files_of c.args.sources.files.now) (walks (files_of c.args.sources.files.now) c.args.depth) (here_of c.args.here) (meeting_of m) c.args.ty.now (withs_of c.args.withs.now) (module_ref_of c.args.of)) (sym c.in-Hidden.is) c.given_met.ensures

pub refined_met-returns-in-Shown : goal.refined_met-returns-in-Shown
refined_met-returns-in-Shown t c = where_is contents_of (λ m. refined_met (files_of c.args.sources.files.now) (walks (files_of c.args.sources.files.now) c.args.depth) (here_of c.args.here) (meeting_of m) c.args.ty.now (withs_of c.args.withs.now) (module_ref_of c.args.of)) (sym c.in-Shown.is) c.given_met-in-Shown.ensures

pub refined_met-returns-in-Nothing : goal.refined_met-returns-in-Nothing
refined_met-returns-in-Nothing t c = where_is contents_of (λ m. refined_met (files_of c.args.sources.files.now) (walks (files_of c.args.sources.files.now) c.args.depth) (here_of c.args.here) (meeting_of m) c.args.ty.now (withs_of c.args.withs.now) (module_ref_of c.args.of)) (sym c.in-Nothing.is) c.module_contents.ensures

pub given_met-returns-in-Ok : goal.given_met-returns-in-Ok
given_met-returns-in-Ok t c = goes all_given contents_of (with_types (here_of c.args.here) (withs_of c.args.withs.now) (map given_of c.args.older.now)) (λ gs. (walks (files_of c.args.sources.files.now) c.args.depth).met (here_of c.args.here) (meets c.args.hides (module_ref_of c.args.of) gs) c.args.ty.now) c.in-Ok.is c.with_types.ensures (where_is contents_of (λ m. (walks (files_of c.args.sources.files.now) c.args.depth).met (here_of c.args.here) m c.args.ty.now) c.meets-meeting.ensures c.met.ensures)

pub given_met-returns-in-Err : goal.given_met-returns-in-Err
given_met-returns-in-Err t c = halts all_given contents_of (with_types (here_of c.args.here) (withs_of c.args.withs.now) (map given_of c.args.older.now)) (λ gs. (walks (files_of c.args.sources.files.now) c.args.depth).met (here_of c.args.here) (meets c.args.hides (module_ref_of c.args.of) gs) c.args.ty.now) c.in-Err.is c.with_types.ensures

pub arrow-returns-in-Ok : goal.arrow-returns-in-Ok
arrow-returns-in-Ok t c = goes module_ref_of contents_of (module_met (files_of c.args.sources.files.now) (walks (files_of c.args.sources.files.now) c.args.depth) (bare (here_of c.args.here)) nothing c.args.bound.now) (arrow_met (files_of c.args.sources.files.now) (walks (files_of c.args.sources.files.now) c.args.depth) (here_of c.args.here) (meeting_of c.args.meeting) (label_of c.args.label) c.args.bound.now c.args.target.now) c.in-Ok.is c.module_met.ensures c.arrow_met.ensures

pub arrow-returns-in-Err : goal.arrow-returns-in-Err
arrow-returns-in-Err t c = halts module_ref_of contents_of (module_met (files_of c.args.sources.files.now) (walks (files_of c.args.sources.files.now) c.args.depth) (bare (here_of c.args.here)) nothing c.args.bound.now) (arrow_met (files_of c.args.sources.files.now) (walks (files_of c.args.sources.files.now) c.args.depth) (here_of c.args.here) (meeting_of c.args.meeting) (label_of c.args.label) c.args.bound.now c.args.target.now) c.in-Err.is c.module_met.ensures

pub arrow_met-returns-in-Hidden : goal.arrow_met-returns-in-Hidden
arrow_met-returns-in-Hidden t c = where_is contents_of (λ m. arrow_met (files_of c.args.sources.files.now) (walks (files_of c.args.sources.files.now) c.args.depth) (here_of c.args.here) (meeting_of m) (label_of c.args.arrow.label) c.args.arrow.bound.now c.args.arrow.target.now (module_ref_of c.args.arrow.parameter)) (sym c.in-Hidden.is) c.function_of_met.ensures

pub arrow_met-returns-in-Shown : goal.arrow_met-returns-in-Shown
arrow_met-returns-in-Shown t c = where_is contents_of (λ m. arrow_met (files_of c.args.sources.files.now) (walks (files_of c.args.sources.files.now) c.args.depth) (here_of c.args.here) (meeting_of m) (label_of c.args.arrow.label) c.args.arrow.bound.now c.args.arrow.target.now (module_ref_of c.args.arrow.parameter)) (sym c.in-Shown.is) c.function_of_met-in-Shown.ensures

pub arrow_met-returns-in-Nothing : goal.arrow_met-returns-in-Nothing
arrow_met-returns-in-Nothing t c = where_is contents_of (λ m. arrow_met (files_of c.args.sources.files.now) (walks (files_of c.args.sources.files.now) c.args.depth) (here_of c.args.here) (meeting_of m) (label_of c.args.arrow.label) c.args.arrow.bound.now c.args.arrow.target.now (module_ref_of c.args.arrow.parameter)) (sym c.in-Nothing.is) c.arrow_made.ensures

pub function_of_met-returns-in-Some : goal.function_of_met-returns-in-Some
function_of_met-returns-in-Some t c = function_goes (files_of c.args.sources.files.now) (walks (files_of c.args.sources.files.now) c.args.depth) (here_of c.args.here) c.args.hides (module_ref_of c.args.of) c.args.arrow.label c.args.arrow.bound.now c.args.arrow.target.now (module_ref_of c.args.arrow.parameter) _ c.modules.ensures _ c.functor_in.ensures c.in-Some.number c.in-Some.is c.function_met.ensures

pub function_of_met-returns-in-None : goal.function_of_met-returns-in-None
function_of_met-returns-in-None t c = no_function (files_of c.args.sources.files.now) (walks (files_of c.args.sources.files.now) c.args.depth) (here_of c.args.here) c.args.hides (module_ref_of c.args.of) c.args.arrow.label c.args.arrow.bound.now c.args.arrow.target.now (module_ref_of c.args.arrow.parameter) _ c.modules.ensures _ c.functor_in.ensures c.in-None.is

pub function_met-returns-in-Ok : goal.function_met-returns-in-Ok
function_met-returns-in-Ok t c = goes module_ref_of contents_of ((walks (files_of c.args.sources.files.now) c.args.depth).applied (bare (here_of c.args.here)) c.args.number (module_ref_of c.args.arrow.parameter)) (λ r. arrow_made (files_of c.args.sources.files.now) (walks (files_of c.args.sources.files.now) c.args.depth) (here_of c.args.here) (of_another c.args.number c.args.hides c.args.arrow.target.now) (hidden r []) (label_of c.args.arrow.label) c.args.arrow.bound.now c.args.arrow.target.now (module_ref_of c.args.arrow.parameter)) c.in-Ok.is c.applied.ensures c.arrow_made.ensures

pub function_met-returns-in-Err : goal.function_met-returns-in-Err
function_met-returns-in-Err t c = halts module_ref_of contents_of ((walks (files_of c.args.sources.files.now) c.args.depth).applied (bare (here_of c.args.here)) c.args.number (module_ref_of c.args.arrow.parameter)) (λ r. arrow_made (files_of c.args.sources.files.now) (walks (files_of c.args.sources.files.now) c.args.depth) (here_of c.args.here) (of_another c.args.number c.args.hides c.args.arrow.target.now) (hidden r []) (label_of c.args.arrow.label) c.args.arrow.bound.now c.args.arrow.target.now (module_ref_of c.args.arrow.parameter)) c.in-Err.is c.applied.ensures

pub arrow_made-returns-in-Err : goal.arrow_made-returns-in-Err
arrow_made-returns-in-Err t c = stops

pub arrow_made-returns-in-Ok-module_met : goal.arrow_made-returns-in-Ok-module_met
arrow_made-returns-in-Ok-module_met t c = goes module_ref_of contents_of (module_met (files_of c.args.sources.files.now) (walks (files_of c.args.sources.files.now) c.args.depth) (in_body (bare (here_of c.args.here)) c.args.arrow.label.name.now (module_ref_of c.args.arrow.parameter) (here_of c.args.here).names) (meeting_of c.args.meeting) c.args.arrow.target.now) (λ m. new_functor (record { file = c.args.here.file; parameter = c.args.arrow.label.name.now; bound = c.args.arrow.bound.now; names = c.args.here.names.now; gives = giving_of c.args.gives; bare = m })) c.in-Ok-module_met.is (where_is module_ref_of (λ i. module_met (files_of c.args.sources.files.now) (walks (files_of c.args.sources.files.now) c.args.depth) i (meeting_of c.args.meeting) c.args.arrow.target.now) c.in-Ok.ensures.ok c.module_met.ensures) c.new_functor.ensures

pub arrow_made-returns-in-Err-module_met : goal.arrow_made-returns-in-Err-module_met
arrow_made-returns-in-Err-module_met t c = halts module_ref_of contents_of (module_met (files_of c.args.sources.files.now) (walks (files_of c.args.sources.files.now) c.args.depth) (in_body (bare (here_of c.args.here)) c.args.arrow.label.name.now (module_ref_of c.args.arrow.parameter) (here_of c.args.here).names) (meeting_of c.args.meeting) c.args.arrow.target.now) (λ m. new_functor (record { file = c.args.here.file; parameter = c.args.arrow.label.name.now; bound = c.args.arrow.bound.now; names = c.args.here.names.now; gives = giving_of c.args.gives; bare = m })) c.in-Err-module_met.is (where_is module_ref_of (λ i. module_met (files_of c.args.sources.files.now) (walks (files_of c.args.sources.files.now) c.args.depth) i (meeting_of c.args.meeting) c.args.arrow.target.now) c.in-Ok.ensures.ok c.module_met.ensures)

pub module_of_block-returns-in-Err : goal.module_of_block-returns-in-Err
module_of_block-returns-in-Err t c = stops

pub module_of_block-returns-in-Ok-each_dec : goal.module_of_block-returns-in-Ok-each_dec
module_of_block-returns-in-Ok-each_dec t c = goes block_of module_ref_of (decs_with (files_of c.args.sources.files.now) (walks (files_of c.args.sources.files.now) c.args.depth) (here_of c.args.here) c.args.is_top (decs_of c.args.decs.now) (no_names (here_of c.args.here).names)) (λ b. new_module (members b.exported)) c.in-Ok-each_dec.is (where_is block_of (λ l. decs_with (files_of c.args.sources.files.now) (walks (files_of c.args.sources.files.now) c.args.depth) (here_of c.args.here) c.args.is_top (decs_of c.args.decs.now) (record { names = c.args.here.names.now; exported = l; own = l })) c.in-Ok.ensures c.each_dec.ensures) c.new_module.ensures

pub module_of_block-returns-in-Err-each_dec : goal.module_of_block-returns-in-Err-each_dec
module_of_block-returns-in-Err-each_dec t c = halts block_of module_ref_of (decs_with (files_of c.args.sources.files.now) (walks (files_of c.args.sources.files.now) c.args.depth) (here_of c.args.here) c.args.is_top (decs_of c.args.decs.now) (no_names (here_of c.args.here).names)) (λ b. new_module (members b.exported)) c.in-Err-each_dec.is (where_is block_of (λ l. decs_with (files_of c.args.sources.files.now) (walks (files_of c.args.sources.files.now) c.args.depth) (here_of c.args.here) c.args.is_top (decs_of c.args.decs.now) (record { names = c.args.here.names.now; exported = l; own = l })) c.in-Ok.ensures c.each_dec.ensures)

pub each_dec-loop-dec-init : goal.each_dec-loop-dec-init
each_dec-loop-dec-init t c = at_start _ _

pub each_dec-loop-dec-preserved : goal.each_dec-loop-dec-preserved
each_dec-loop-dec-preserved t c = item_next (decs_left (files_of c.args.sources.files.now) (walks (files_of c.args.sources.files.now) c.args.depth) (here_of c.args.here) c.args.is_top) (dec_one (files_of c.args.sources.files.now) (walks (files_of c.args.sources.files.now) c.args.depth) (here_of c.args.here) c.args.is_top) (decs_more (files_of c.args.sources.files.now) (walks (files_of c.args.sources.files.now) c.args.depth) (here_of c.args.here) c.args.is_top) block_of _ c.args.decs.now c.loop-dec.dec-index c.dec-item.result (from_item c.args.decs.now c.loop-dec.dec-index c.dec-item.result c.loop-dec-test.true c.dec-item.is) c.loop-dec.block c.in-Ok.next c.in-Ok.is c.one_dec.ensures c.loop-dec.invariant

pub each_dec-returns-in-Err : goal.each_dec-returns-in-Err
each_dec-returns-in-Err t c = item_stops (decs_left (files_of c.args.sources.files.now) (walks (files_of c.args.sources.files.now) c.args.depth) (here_of c.args.here) c.args.is_top) (dec_one (files_of c.args.sources.files.now) (walks (files_of c.args.sources.files.now) c.args.depth) (here_of c.args.here) c.args.is_top) (decs_more (files_of c.args.sources.files.now) (walks (files_of c.args.sources.files.now) c.args.depth) (here_of c.args.here) c.args.is_top) block_of _ c.args.decs.now c.loop-dec.dec-index c.dec-item.result (from_item c.args.decs.now c.loop-dec.dec-index c.dec-item.result c.loop-dec-test.true c.dec-item.is) block_of c.loop-dec.block c.in-Err.is c.one_dec.ensures c.loop-dec.invariant

pub each_dec-returns : goal.each_dec-returns
each_dec-returns t c = row_ends (decs_left (files_of c.args.sources.files.now) (walks (files_of c.args.sources.files.now) c.args.depth) (here_of c.args.here) c.args.is_top) (λ b. b) (decs_none (files_of c.args.sources.files.now) (walks (files_of c.args.sources.files.now) c.args.depth) (here_of c.args.here) c.args.is_top) block_of block_of _ c.args.decs.now c.loop-dec.dec-index c.loop-dec.block c.loop-dec.block c.loop-dec-test.false refl c.loop-dec.invariant

pub one_dec-returns-in-Def : goal.one_dec-returns-in-Def
one_dec-returns-in-Def t c = dec.def_goes (files_of c.args.sources.files.now) (walks (files_of c.args.sources.files.now) c.args.depth) (here_of c.args.here) c.args.is_top c.args.dec.now.local c.args.dec.now.place (block_of c.args.block) c.args.dec.now.form c.in-Def.entry c.in-Def.label c.in-Def.heads c.in-Def.params c.in-Def.result c.in-Def.value c.may_begin-is_entry.result c.in-Def.is c.may_begin-is_entry.ensures c.value_dec.ensures

pub one_dec-returns-in-TypeName : goal.one_dec-returns-in-TypeName
one_dec-returns-in-TypeName t c = dec.type_goes (files_of c.args.sources.files.now) (walks (files_of c.args.sources.files.now) c.args.depth) (here_of c.args.here) c.args.is_top c.args.dec.now.local c.args.dec.now.place (block_of c.args.block) c.args.dec.now.form c.in-TypeName.label c.in-TypeName.heads c.in-TypeName.ty c.in-TypeName.is c.type_dec.ensures

pub one_dec-returns-then-is_module_again : goal.one_dec-returns-then-is_module_again
one_dec-returns-then-is_module_again t c = dec.module_goes (files_of c.args.sources.files.now) (walks (files_of c.args.sources.files.now) c.args.depth) (here_of c.args.here) c.args.is_top c.args.dec.now.local c.args.dec.now.place (block_of c.args.block) c.args.dec.now.form c.in-Module.label c.in-Module.params c.in-Module.seal c.in-Module.body c.in-Module.is (dec.once_again c.args.dec.now.local c.in-Module.label (module_among c.args.block.own.now c.in-Module.label.name.now) (declares c.args.dec.now.local (block_of c.args.block) (as_module c.in-Module.label.name.now (module_with (files_of c.args.sources.files.now) (walks (files_of c.args.sources.files.now) c.args.depth) (here_of c.args.here) c.args.dec.now.place (params_of c.in-Module.params.now) (maybe c.in-Module.seal) c.in-Module.body.now))) _ c.is_module_again.ensures c.twice.result c.if-is_module_again.true c.twice.ensures)

pub one_dec-returns-else-is_module_again : goal.one_dec-returns-else-is_module_again
one_dec-returns-else-is_module_again t c = dec.module_goes (files_of c.args.sources.files.now) (walks (files_of c.args.sources.files.now) c.args.depth) (here_of c.args.here) c.args.is_top c.args.dec.now.local c.args.dec.now.place (block_of c.args.block) c.args.dec.now.form c.in-Module.label c.in-Module.params c.in-Module.seal c.in-Module.body c.in-Module.is (dec.once_new c.args.dec.now.local c.in-Module.label (module_among c.args.block.own.now c.in-Module.label.name.now) (declares c.args.dec.now.local (block_of c.args.block) (as_module c.in-Module.label.name.now (module_with (files_of c.args.sources.files.now) (walks (files_of c.args.sources.files.now) c.args.depth) (here_of c.args.here) c.args.dec.now.place (params_of c.in-Module.params.now) (maybe c.in-Module.seal) c.in-Module.body.now))) _ c.is_module_again.ensures c.if-is_module_again.false (dec.module_brought c.args.dec.now.local c.args.block c.in-Module.label.name.now (module_with (files_of c.args.sources.files.now) (walks (files_of c.args.sources.files.now) c.args.depth) (here_of c.args.here) c.args.dec.now.place (params_of c.in-Module.params.now) (maybe c.in-Module.seal) c.in-Module.body.now) c.module_dec-made.ensures c.module_brought.ensures))

pub one_dec-returns-then-is_signature_again : goal.one_dec-returns-then-is_signature_again
one_dec-returns-then-is_signature_again t c = dec.signature_goes (files_of c.args.sources.files.now) (walks (files_of c.args.sources.files.now) c.args.depth) (here_of c.args.here) c.args.is_top c.args.dec.now.local c.args.dec.now.place (block_of c.args.block) c.args.dec.now.form c.in-ModType.label c.in-ModType.ty c.in-ModType.is (dec.once_again c.args.dec.now.local c.in-ModType.label (signature_among c.args.block.own.now c.in-ModType.label.name.now) (declares c.args.dec.now.local (block_of c.args.block) (signature_with (files_of c.args.sources.files.now) (walks (files_of c.args.sources.files.now) c.args.depth) (here_of c.args.here) c.in-ModType.label.name.now c.in-ModType.ty.now)) _ c.is_signature_again.ensures c.twice-then-is_signature_again.result c.if-is_signature_again.true c.twice-then-is_signature_again.ensures)

pub one_dec-returns-else-is_signature_again : goal.one_dec-returns-else-is_signature_again
one_dec-returns-else-is_signature_again t c = dec.signature_goes (files_of c.args.sources.files.now) (walks (files_of c.args.sources.files.now) c.args.depth) (here_of c.args.here) c.args.is_top c.args.dec.now.local c.args.dec.now.place (block_of c.args.block) c.args.dec.now.form c.in-ModType.label c.in-ModType.ty c.in-ModType.is (dec.once_new c.args.dec.now.local c.in-ModType.label (signature_among c.args.block.own.now c.in-ModType.label.name.now) (declares c.args.dec.now.local (block_of c.args.block) (signature_with (files_of c.args.sources.files.now) (walks (files_of c.args.sources.files.now) c.args.depth) (here_of c.args.here) c.in-ModType.label.name.now c.in-ModType.ty.now)) _ c.is_signature_again.ensures c.if-is_signature_again.false (dec.signature_brought c.args.dec.now.local c.args.block c.in-ModType.label.name.now (files_of c.args.sources.files.now) (walks (files_of c.args.sources.files.now) c.args.depth) (here_of c.args.here) c.in-ModType.ty.now c.signature_dec-made.ensures c.signature_brought.ensures))

pub one_dec-returns-in-Open : goal.one_dec-returns-in-Open
one_dec-returns-in-Open t c = dec.open_goes (files_of c.args.sources.files.now) (walks (files_of c.args.sources.files.now) c.args.depth) (here_of c.args.here) c.args.is_top c.args.dec.now.local c.args.dec.now.place (block_of c.args.block) c.args.dec.now.form c.in-Open.body c.in-Open.is c.open_dec.ensures

pub one_dec-returns-in-Import : goal.one_dec-returns-in-Import
one_dec-returns-in-Import t c = dec.import_goes (files_of c.args.sources.files.now) (walks (files_of c.args.sources.files.now) c.args.depth) (here_of c.args.here) c.args.is_top c.args.dec.now.local c.args.dec.now.place (block_of c.args.block) c.args.dec.now.form c.in-Import.name c.in-Import.is c.import_dec.ensures

pub module_dec-returns-in-Ok : goal.module_dec-returns-in-Ok
module_dec-returns-in-Ok t c = where_is module_ref_of (λ l. module_with (files_of c.args.sources.files.now) (walks (files_of c.args.sources.files.now) c.args.depth) (here_of c.args.here) c.args.at l (maybe c.args.seal) c.args.body.now) (sym (dec.no_params c.args.params.now c.in-empty.len_below)) (goes contents_of module_ref_of (looked_at (files_of c.args.sources.files.now) (walks (files_of c.args.sources.files.now) c.args.depth) (here_of c.args.here) (maybe c.args.seal)) (λ x. sealed_body (files_of c.args.sources.files.now) (walks (files_of c.args.sources.files.now) c.args.depth) (here_of c.args.here) (maybe c.args.seal) c.args.body.now) c.in-Ok.is c.looked_at.ensures c.sealed_body.ensures)

pub module_dec-returns-in-Err : goal.module_dec-returns-in-Err
module_dec-returns-in-Err t c = where_is module_ref_of (λ l. module_with (files_of c.args.sources.files.now) (walks (files_of c.args.sources.files.now) c.args.depth) (here_of c.args.here) c.args.at l (maybe c.args.seal) c.args.body.now) (sym (dec.no_params c.args.params.now c.in-empty.len_below)) (halts contents_of module_ref_of (looked_at (files_of c.args.sources.files.now) (walks (files_of c.args.sources.files.now) c.args.depth) (here_of c.args.here) (maybe c.args.seal)) (λ x. sealed_body (files_of c.args.sources.files.now) (walks (files_of c.args.sources.files.now) c.args.depth) (here_of c.args.here) (maybe c.args.seal) c.args.body.now) c.in-Err.is c.looked_at.ensures)

pub module_dec-returns-in-Ok-curried : goal.module_dec-returns-in-Ok-curried
module_dec-returns-in-Ok-curried t c = dec.params_go (files_of c.args.sources.files.now) (walks (files_of c.args.sources.files.now) c.args.depth) (here_of c.args.here) c.args.at (maybe c.args.seal) c.args.body.now c.args.params.now c.in-Ok-curried.function.now c.in-len1-up.len_at_least c.in-Ok-curried.ensures.ok c.module_of.ensures

pub module_dec-returns-in-Err-curried : goal.module_dec-returns-in-Err-curried
module_dec-returns-in-Err-curried t c = stops

pub signature_dec-returns-in-Ok : goal.signature_dec-returns-in-Ok
signature_dec-returns-in-Ok t c = goes contents_of (λ k. k) ((walks (files_of c.args.sources.files.now) c.args.depth).met (bare (here_of c.args.here)) nothing c.args.ty.now) (λ x. new_signature (record { tree = c.args.ty.now; names = c.args.here.names.now })) c.in-Ok.is c.met.ensures c.new_signature.ensures

pub signature_dec-returns-in-Err : goal.signature_dec-returns-in-Err
signature_dec-returns-in-Err t c = halts contents_of (λ k. k) ((walks (files_of c.args.sources.files.now) c.args.depth).met (bare (here_of c.args.here)) nothing c.args.ty.now) (λ x. new_signature (record { tree = c.args.ty.now; names = c.args.here.names.now })) c.in-Err.is c.met.ensures

pub open_dec-returns-in-Ok : goal.open_dec-returns-in-Ok
open_dec-returns-in-Ok t c = goes module_ref_of block_of ((walks (files_of c.args.sources.files.now) c.args.depth).module_of (here_of c.args.here) c.args.body.now) (λ n. open_step c.args.is_local c.args.body.now n (block_of c.args.block)) c.in-Ok.is c.module_of.ensures c.opened.ensures

pub open_dec-returns-in-Err : goal.open_dec-returns-in-Err
open_dec-returns-in-Err t c = halts module_ref_of block_of ((walks (files_of c.args.sources.files.now) c.args.depth).module_of (here_of c.args.here) c.args.body.now) (λ n. open_step c.args.is_local c.args.body.now n (block_of c.args.block)) c.in-Err.is c.module_of.ensures

pub import_dec-returns-in-Ok : goal.import_dec-returns-in-Ok
import_dec-returns-in-Ok t c = goes module_ref_of block_of (import_of (files_of c.args.sources.files.now) (walks (files_of c.args.sources.files.now) c.args.depth) c.args.at c.args.name.now (imported_file (files_of c.args.sources.files.now) c.args.here.file c.args.name.now)) (opened_file c.args.at c.args.name.now (block_of c.args.block)) c.in-Ok.is c.imported.ensures c.opened_file.ensures

pub import_dec-returns-in-Err : goal.import_dec-returns-in-Err
import_dec-returns-in-Err t c = halts module_ref_of block_of (import_of (files_of c.args.sources.files.now) (walks (files_of c.args.sources.files.now) c.args.depth) c.args.at c.args.name.now (imported_file (files_of c.args.sources.files.now) c.args.here.file c.args.name.now)) (opened_file c.args.at c.args.name.now (block_of c.args.block)) c.in-Err.is c.imported.ensures

pub imported-returns-in-Some : goal.imported-returns-in-Some
imported-returns-in-Some t c = where_is module_ref_of (λ o. import_of (files_of c.args.sources.files.now) (walks (files_of c.args.sources.files.now) c.args.depth) c.args.at c.args.name.now o) (sym c.in-Some.is ∙ c.in-Ok.ensures) c.file_of.ensures

pub imported-returns-in-None : goal.imported-returns-in-None
imported-returns-in-None t c = where_is module_ref_of (λ o. import_of (files_of c.args.sources.files.now) (walks (files_of c.args.sources.files.now) c.args.depth) c.args.at c.args.name.now o) (sym c.in-None.is ∙ c.in-Ok.ensures) (refuses (λ s st. refl))

pub imported-returns-in-Err : goal.imported-returns-in-Err
imported-returns-in-Err t c = stops

pub file_declared-returns-in-Ok : goal.file_declared-returns-in-Ok
file_declared-returns-in-Ok t c = file_goes (files_of c.args.sources.files.now) (walks (files_of c.args.sources.files.now) c.args.depth) c.args.number _ c.in-Ok.module c.file_decs-decs.ensures c.in-Ok.is c.module_of_block.ensures c.now_loaded.ensures

pub file_declared-returns-in-Err : goal.file_declared-returns-in-Err
file_declared-returns-in-Err t c = file_stops (files_of c.args.sources.files.now) (walks (files_of c.args.sources.files.now) c.args.depth) c.args.number _ c.in-Err.stop c.file_decs-decs.ensures c.in-Err.is c.module_of_block.ensures
