-- The texts of what is held, put behind others.
use Rattle.std.proofs.Common.{◌≡◌, [], ◌∷◌, ◌++◌, ap, sym, ◌∙◌, Result, OnOk}
use Rattle.std.proofs.lemmas.List.{append_assoc, append-nil}
use Rattle.std.proofs.lemmas.Result.{on_ok_weaker}
use Rattle.fut_ast.specs.declared.module.Dec.{roll-Dec}
use Rattle.fut_ast.specs.declared.module.ModExp.{ModExp as PlainModExp, roll-ModExp}
use Rattle.fut_tree.specs.declared.module.ModExp.TheInside.{Inside}
use Rattle.fut_tree.specs.declared.module.ModForm.{ModForm}
use Rattle.fut_tree.specs.declared.module.ModForm.TheVariants as held_form
use Rattle.fut_tree.specs.declared.module.Dec.{Dec}
use Rattle.fut_tree.specs.declared.module.DecForm.{DecForm}
use Rattle.fut_tree.specs.declared.module.DecForm.TheVariants as held_dec
use Rattle.fut_tree.specs.Names.{all, maybe, names}
use Rattle.fut_tree.specs.Pats.{heads_of}
use Rattle.fut_tree.specs.ModTypes.{label_of, params_of}
use Rattle.fut_tree.specs.Mods.{dec_form_of, dec_of, decs_of, mod_form_of, mod_of}
use Rattle.file_order.specs.Order.{Texts, imported_texts}
use Rattle.file_imports.specs.Texts.{decs_texts, module_texts, modules_texts}
use Rattle.file_imports.proofs.Forms.{applied_texts, block_texts, def_texts, import_texts, imported_by_dec, lambda_texts, named_texts, open_texts, path_texts, sealed_texts, signature_texts, type_texts}

-- what was put behind others is what is said
pub grown : {E : Type 0} (r : Result (Unit {0}) E) (new old a b : Texts) → b ≡ a → OnOk r (new ≡ old ++ a) → OnOk r (new ≡ old ++ b)
grown r new old a b e = on_ok_weaker r (λ h. h ∙ ap (λ x. old ++ x) (sym e))

pub nothing_grown : (old b : Texts) → b ≡ [] → old ≡ old ++ b
nothing_grown old b e = sym (ap (λ x. old ++ x) e ∙ append-nil old)

-- one row behind another
pub both_grown : {E : Type 0} (r : Result (Unit {0}) E) (new mid old a b c : Texts) → c ≡ a ++ b → mid ≡ old ++ a → OnOk r (new ≡ mid ++ b) → OnOk r (new ≡ old ++ c)
both_grown r new mid old a b c e m = on_ok_weaker r (λ h. h ∙ ap (λ x. x ++ b) m ∙ append_assoc old a b ∙ ap (λ x. old ++ x) (sym e))

module _ (m : Inside) (v : PlainModExp) (stands : mod_of m ≡ v) where
  as_form : (f : ModForm) → m.form ≡ f → module_texts v ≡ module_texts (roll-ModExp (record { place = m.place; form = mod_form_of f }))
  as_form f is = ap module_texts (sym stands ∙ ap (λ g. roll-ModExp (record { place = m.place; form = mod_form_of g })) is)

  pub in_path : (p : _) → m.form ≡ held_form.Path p → module_texts v ≡ []
  in_path p is = as_form (held_form.Path p) is ∙ path_texts m.place (names p.now)

  pub in_block : (ds : _) → m.form ≡ held_form.Decs ds → module_texts v ≡ decs_texts (decs_of ds.now)
  in_block ds is = as_form (held_form.Decs ds) is ∙ block_texts m.place (decs_of ds.now)

  pub in_applied : (f : _) (ms : _) → m.form ≡ held_form.Apply f ms → module_texts v ≡ module_texts f.now ++ modules_texts (all ms.now)
  in_applied f ms is = as_form (held_form.Apply f ms) is ∙ applied_texts m.place f.now (all ms.now)

  pub in_import : (x : _) → m.form ≡ held_form.Import x → module_texts v ≡ x.now ∷ []
  in_import x is = as_form (held_form.Import x) is ∙ import_texts m.place x.now

  pub in_lambda : (x : _) (t : _) (u : _) (b : _) → m.form ≡ held_form.Lambda x t u b → module_texts v ≡ module_texts b.now
  in_lambda x t u b is = as_form (held_form.Lambda x t u b) is ∙ lambda_texts m.place (label_of x) t.now (maybe u) b.now

  pub in_sealed : (b : _) (t : _) → m.form ≡ held_form.Seal b t → module_texts v ≡ module_texts b.now
  in_sealed b t is = as_form (held_form.Seal b t) is ∙ sealed_texts m.place b.now t.now

module _ (d : Dec) where
  as_dec : (f : DecForm) → d.form ≡ f → imported_texts (dec_of d) ≡ imported_texts (roll-Dec (record { place = d.place; local = d.local; form = dec_form_of f }))
  as_dec f is = ap (λ g. imported_texts (roll-Dec (record { place = d.place; local = d.local; form = dec_form_of g }))) is

  pub by_def : (is_entry : _) (x : _) (heads : _) (ps : _) (t : _) (e : _) → d.form ≡ held_dec.Def is_entry x heads ps t e → imported_texts (dec_of d) ≡ []
  by_def is_entry x heads ps t e is = as_dec (held_dec.Def is_entry x heads ps t e) is ∙ def_texts d.place d.local is_entry (label_of x) (heads_of heads.now) (all ps.now) (maybe t) e.now

  pub by_type : (x : _) (heads : _) (t : _) → d.form ≡ held_dec.TypeName x heads t → imported_texts (dec_of d) ≡ []
  by_type x heads t is = as_dec (held_dec.TypeName x heads t) is ∙ type_texts d.place d.local (label_of x) (heads_of heads.now) t.now

  pub by_module : (x : _) (ps : _) (t : _) (m : _) → d.form ≡ held_dec.Module x ps t m → imported_texts (dec_of d) ≡ module_texts m.now
  by_module x ps t m is = as_dec (held_dec.Module x ps t m) is ∙ named_texts d.place d.local (label_of x) (params_of ps.now) (maybe t) m.now

  pub by_signature : (x : _) (t : _) → d.form ≡ held_dec.ModType x t → imported_texts (dec_of d) ≡ []
  by_signature x t is = as_dec (held_dec.ModType x t) is ∙ signature_texts d.place d.local (label_of x) t.now

  pub by_open : (m : _) → d.form ≡ held_dec.Open m → imported_texts (dec_of d) ≡ module_texts m.now
  by_open m is = as_dec (held_dec.Open m) is ∙ open_texts d.place d.local m.now

  pub by_import : (x : _) → d.form ≡ held_dec.Import x → imported_texts (dec_of d) ≡ x.now ∷ []
  by_import x is = as_dec (held_dec.Import x) is ∙ imported_by_dec d.place d.local x.now
