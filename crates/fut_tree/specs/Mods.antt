-- The module expression that a held one stands for.
use Rattle.std.specs.Prelude.{ℕ, List, map}
use Rattle.fut_ast.specs.declared.module.ModExp.{ModExp as PlainModExp, roll-ModExp, size-ModExp}
use Rattle.fut_ast.specs.declared.module.ModForm.{ModForm as PlainForm}
use Rattle.fut_ast.specs.declared.module.ModForm.TheVariants as form
use Rattle.fut_ast.specs.declared.module.Dec.{Dec as PlainDec, roll-Dec}
use Rattle.fut_ast.specs.declared.module.DecForm.{DecForm as PlainDecForm}
use Rattle.fut_ast.specs.declared.module.DecForm.TheVariants as dec
use Rattle.fut_tree.specs.declared.module.ModExp.TheInside.{Inside}
use Rattle.fut_tree.specs.declared.module.ModForm.{ModForm}
use Rattle.fut_tree.specs.declared.module.ModForm.TheVariants as held_form
use Rattle.fut_tree.specs.declared.module.Dec.{Dec}
use Rattle.fut_tree.specs.declared.module.DecForm.{DecForm}
use Rattle.fut_tree.specs.declared.module.DecForm.TheVariants as held_dec
use Rattle.fut_tree.specs.Names.{names, all, maybe}
use Rattle.fut_tree.specs.Pats.{heads_of}
use Rattle.fut_tree.specs.ModTypes.{label_of, params_of}

abbrev pub dec_form_of : DecForm → PlainDecForm
dec_form_of (held_dec.Def is_entry x heads ps t e) = dec.Def is_entry (label_of x) (heads_of heads.now) (all ps.now) (maybe t) e.now
dec_form_of (held_dec.TypeName x heads t) = dec.TypeName (label_of x) (heads_of heads.now) t.now
dec_form_of (held_dec.Module x ps t m) = dec.Module (label_of x) (params_of ps.now) (maybe t) m.now
dec_form_of (held_dec.ModType x t) = dec.ModType (label_of x) t.now
dec_form_of (held_dec.Open m) = dec.Open m.now
dec_form_of (held_dec.Import file) = dec.Import file.now

abbrev pub dec_of : Dec → PlainDec
dec_of d = roll-Dec (record { place = d.place; local = d.local; form = dec_form_of d.form })

abbrev pub decs_of : List Dec → List PlainDec
decs_of = map dec_of

abbrev pub mod_form_of : ModForm → PlainForm
mod_form_of (held_form.Path p) = form.Path (names p.now)
mod_form_of (held_form.Decs ds) = form.Decs (decs_of ds.now)
mod_form_of (held_form.Apply m ms) = form.Apply m.now (all ms.now)
mod_form_of (held_form.Import file) = form.Import file.now
mod_form_of (held_form.Lambda x t u m) = form.Lambda (label_of x) t.now (maybe u) m.now
mod_form_of (held_form.Seal m t) = form.Seal m.now t.now

abbrev pub mod_of : Inside → PlainModExp
mod_of m = roll-ModExp (record { place = m.place; form = mod_form_of m.form })

abbrev pub mod_size : PlainModExp → ℕ
mod_size = size-ModExp
