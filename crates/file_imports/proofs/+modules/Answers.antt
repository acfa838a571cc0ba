use Rattle.std.proofs.Common.{[], ◌∷◌}
use Rattle.fut_tree.specs.Names.{all, names}
use Rattle.fut_tree.specs.Mods.{dec_of, decs_of}
use Rattle.file_order.specs.Order.{imported_texts}
use Rattle.file_imports.specs.Texts.{decs_texts, module_texts, modules_texts}
use Rattle.file_imports.proofs.Rows.{both_grown, by_def, by_import, by_module, by_open, by_signature, by_type, grown, in_applied, in_block, in_import, in_lambda, in_path, in_sealed, nothing_grown}
use Rattle.file_imports.proofs.+modules.Goals as goal

pub put_module-returns-in-Path : goal.put_module-returns-in-Path
put_module-returns-in-Path t c = nothing_grown (names c.args.behind.now.items) (module_texts c.args.module.now) (in_path _ _ c.module.view_is _ c.in-Path.is)

pub put_module-returns-in-Decs : goal.put_module-returns-in-Decs
put_module-returns-in-Decs t c = grown c.put_decs.result (names c.put_decs.new.behind.items) (names c.args.behind.now.items) (decs_texts (decs_of c.in-Decs.decs.now)) (module_texts c.args.module.now) (in_block _ _ c.module.view_is _ c.in-Decs.is) c.put_decs.ensures

pub put_module-returns-in_ok-put_module-in-Apply : goal.put_module-returns-in_ok-put_module-in-Apply
put_module-returns-in_ok-put_module-in-Apply t c = both_grown c.put_modules.result (names c.put_modules.new.behind.items) (names c.put_module.new.behind.items) (names c.args.behind.now.items) (module_texts c.in-Apply.applied.now) (modules_texts (all c.in-Apply.given.now)) (module_texts c.args.module.now) (in_applied _ _ c.module.view_is _ _ c.in-Apply.is) c.in_ok-put_module-in-Apply.ensures c.put_modules.ensures

pub put_module-returns-in-Import : goal.put_module-returns-in-Import
put_module-returns-in-Import t c = grown c.put.result (names c.put.new.behind.items) (names c.args.behind.now.items) (c.in-Import.text.now ∷ []) (module_texts c.args.module.now) (in_import _ _ c.module.view_is _ c.in-Import.is) c.put.ensures

pub put_module-returns-in-Lambda : goal.put_module-returns-in-Lambda
put_module-returns-in-Lambda t c = grown c.put_module-in-Lambda.result (names c.put_module-in-Lambda.new.behind.items) (names c.args.behind.now.items) (module_texts c.in-Lambda.body.now) (module_texts c.args.module.now) (in_lambda _ _ c.module.view_is _ _ _ _ c.in-Lambda.is) c.put_module-in-Lambda.ensures

pub put_module-returns-in-Seal : goal.put_module-returns-in-Seal
put_module-returns-in-Seal t c = grown c.put_module-in-Seal.result (names c.put_module-in-Seal.new.behind.items) (names c.args.behind.now.items) (module_texts c.in-Seal.sealed.now) (module_texts c.args.module.now) (in_sealed _ _ c.module.view_is _ _ c.in-Seal.is) c.put_module-in-Seal.ensures

pub put_dec-returns-in-Module : goal.put_dec-returns-in-Module
put_dec-returns-in-Module t c = grown c.put_module.result (names c.put_module.new.behind.items) (names c.args.behind.now.items) (module_texts c.in-Module.module.now) (imported_texts (dec_of c.args.dec)) (by_module c.args.dec _ _ _ _ c.in-Module.is) c.put_module.ensures

pub put_dec-returns-in-Open : goal.put_dec-returns-in-Open
put_dec-returns-in-Open t c = grown c.put_module-in-Open.result (names c.put_module-in-Open.new.behind.items) (names c.args.behind.now.items) (module_texts c.in-Open.module.now) (imported_texts (dec_of c.args.dec)) (by_open c.args.dec _ c.in-Open.is) c.put_module-in-Open.ensures

pub put_dec-returns-in-Import : goal.put_dec-returns-in-Import
put_dec-returns-in-Import t c = grown c.put.result (names c.put.new.behind.items) (names c.args.behind.now.items) (c.in-Import.text.now ∷ []) (imported_texts (dec_of c.args.dec)) (by_import c.args.dec _ c.in-Import.is) c.put.ensures

pub put_dec-returns-in-Def : goal.put_dec-returns-in-Def
put_dec-returns-in-Def t c = nothing_grown (names c.args.behind.now.items) (imported_texts (dec_of c.args.dec)) (by_def c.args.dec _ _ _ _ _ _ c.in-Def.is)

pub put_dec-returns-in-TypeName : goal.put_dec-returns-in-TypeName
put_dec-returns-in-TypeName t c = nothing_grown (names c.args.behind.now.items) (imported_texts (dec_of c.args.dec)) (by_type c.args.dec _ _ _ c.in-TypeName.is)

pub put_dec-returns-in-ModType : goal.put_dec-returns-in-ModType
put_dec-returns-in-ModType t c = nothing_grown (names c.args.behind.now.items) (imported_texts (dec_of c.args.dec)) (by_signature c.args.dec _ _ c.in-ModType.is)
