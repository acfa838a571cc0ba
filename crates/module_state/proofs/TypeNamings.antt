-- How a module type is called that is refused.
use Rattle.std.proofs.Common.{codes, slice_index_or, ◌≡◌, ℕ, ◌-◌, ◌<◌, ◌≤◌, List, [], ◌∷◌, length, take, drop, Result, Ok, Err, IfOk, refl, sym, ap, ◌∙◌, arith}
use Rattle.std.proofs.lemmas.List.{take_all}
use Rattle.std.specs.Borrow.{Bor}
use Rattle.fut_ast.specs.Sorts.{Text}
use Rattle.fut_ast.specs.declared.module.ModType.{ModType as PlainModType}
use Rattle.fut_ast.specs.declared.module.ModTypeForm.{ModTypeForm-F, out-ModTypeForm}
use Rattle.fut_ast.specs.declared.module.ModTypeForm.TheVariants as form
use Rattle.fut_tree.specs.declared.module.ModType.TheInside.{Inside}
use Rattle.fut_tree.specs.declared.module.ModTypeForm.{ModTypeForm}
use Rattle.fut_tree.specs.declared.module.ModTypeForm.TheVariants as held_form
use Rattle.fut_tree.specs.Names.{names}
use Rattle.fut_tree.specs.ModTypes.{label_of, mtype_form_of, mtype_of, specs_of, withs_of}
use Rattle.elab_scopes.specs.Declarations.{SigLayer, joined, type_called}
use Rattle.module_state.specs.Steps.{type_called_of}

unfoldable pub type_layer : ModTypeForm → SigLayer
type_layer (held_form.Path p) = ModTypeForm-F.Path (names p.now)
type_layer (held_form.Specs ss) = ModTypeForm-F.Specs (specs_of ss.now)
type_layer (held_form.With t ws) = ModTypeForm-F.With t.now (withs_of ws.now)
type_layer (held_form.Arrow x t u) = ModTypeForm-F.Arrow (label_of x) t.now u.now

pub out_type : (f : ModTypeForm) → out-ModTypeForm (mtype_form_of f) ≡ type_layer f
unfolding type_layer
out_type (held_form.Path p) = form.outs-Path _
out_type (held_form.Specs ss) = form.outs-Specs _
out_type (held_form.With t ws) = form.outs-With _ _
out_type (held_form.Arrow x t u) = form.outs-Arrow _ _ _

type_as : (t : Inside) (v : PlainModType) (f : ModTypeForm) → mtype_of t ≡ v → t.form ≡ f → type_called (type_layer f) ≡ type_called_of v
type_as t v f stands is = sym (ap type_called_of (sym stands) ∙ ap type_called (out_type t.form) ∙ ap (λ g. type_called (type_layer g)) is)

path_called : (t : Inside) (v : PlainModType) → mtype_of t ≡ v → (p : Bor (List (Bor Text))) → t.form ≡ held_form.Path p → type_called (ModTypeForm-F.Path (names p.now)) ≡ type_called_of v
unfolding type_layer
path_called t v stands p is = type_as t v (held_form.Path p) stands is

no_names : (ps : List (Bor Text)) → length ps < 1 → codes "module type" ≡ type_called (ModTypeForm-F.Path (names ps))
no_names [] le = refl
no_names (q ∷ ps) le = absurd (omega (arith, le))

some_names : (ps : List (Bor Text)) (x : Bor Text) → 1 ≤ length ps → joined (slice_index_or ps 0 x).now (names (take (length ps - 1) (drop 1 ps))) ≡ type_called (ModTypeForm-F.Path (names ps))
some_names [] x le = absurd (omega (arith, le))
some_names (q ∷ ps) x le = ap (λ l. joined q.now (names l)) (take_all (length (q ∷ ps) - 1) ps (omega arith))

module _ (t : Inside) (v : PlainModType) (stands : mtype_of t ≡ v) where
  pub called_specs : (ss : _) → t.form ≡ held_form.Specs ss → codes "module type" ≡ type_called_of v
  unfolding type_layer
  called_specs ss is = type_as t v (held_form.Specs ss) stands is

  pub called_with : (u : _) (ws : _) → t.form ≡ held_form.With u ws → codes "module type" ≡ type_called_of v
  unfolding type_layer
  called_with u ws is = type_as t v (held_form.With u ws) stands is

  pub called_arrow : (x : _) (u : _) (w : _) → t.form ≡ held_form.Arrow x u w → codes "module type" ≡ type_called_of v
  unfolding type_layer
  called_arrow x u w is = type_as t v (held_form.Arrow x u w) stands is

  pub called_nothing : (p : Bor (List (Bor Text))) → t.form ≡ held_form.Path p → length p.now < 1 → codes "module type" ≡ type_called_of v
  called_nothing p is le = no_names p.now le ∙ path_called t v stands p is

  pub called_some : (p : Bor (List (Bor Text))) (x : Bor Text) {E : Type 0} (r : Result (Bor Text) E) → t.form ≡ held_form.Path p → 1 ≤ length p.now
      → IfOk r (λ y. y.now ≡ joined (slice_index_or p.now 0 x).now (names (take (length p.now - 1) (drop 1 p.now)))) → IfOk r (λ y. y.now ≡ type_called_of v)
  called_some p x (Ok y) is le e = e ∙ some_names p.now x le ∙ path_called t v stands p is
  called_some p x (Err e) is le i = i
