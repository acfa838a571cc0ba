-- The texts that a module expression imports, in their order.
use Rattle.std.specs.Prelude.{List, map}
use Rattle.fut_ast.specs.declared.module.Dec.{Dec}
use Rattle.fut_ast.specs.declared.module.ModExp.{ModExp, fold-ModExp}
use Rattle.file_order.specs.Order.{Texts, all_texts, dec_form_texts, dec_texts, imported_texts, mod_form_texts, mod_texts}

unfoldable pub module_texts : ModExp → Texts
module_texts = fold-ModExp Texts Texts Texts Texts dec_form_texts mod_form_texts dec_texts mod_texts

abbrev pub decs_texts : List Dec → Texts
decs_texts ds = all_texts (map imported_texts ds)

abbrev pub modules_texts : List ModExp → Texts
modules_texts ms = all_texts (map module_texts ms)
