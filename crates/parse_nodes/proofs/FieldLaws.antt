-- A record with another value of a field inside a field.
use Rattle.std.proofs.Common.{◌≡◌, ◌≤◌, List, [], ◌∷◌, length, refl, sym, ap, ◌∙◌, arith}
use Rattle.std.specs.Borrow.{Bor}
use Rattle.fut_scalar.specs.declared.place.Place.{Place}
use Rattle.fut_ast.specs.declared.exp.Form.TheVariants as form
use Rattle.fut_ast.specs.Sorts.{Text, SourceExp}
use Rattle.fut_ast.specs.Nodes.{bound, exp_at, held_name, let_one, replaced, use_of}
use Rattle.fut_tree.specs.Names.{names}

module _ (from : Place) (f : Text) where
  abbrev pub with_inner : SourceExp → SourceExp → SourceExp
  with_inner r v = exp_at from (form.Lets (let_one (bound from held_name) r ∷ []) (exp_at from (form.Replace (use_of from held_name) f v)))

  abbrev pub the_field : SourceExp
  the_field = exp_at from (form.Path (held_name ∷ f ∷ []))

  inside : (r : SourceExp) (fs : List (Bor Text)) (e : SourceExp) → 1 ≤ length fs → replaced from r (f ∷ names fs) e ≡ with_inner r (replaced from the_field (names fs) e)
  inside r [] e le = absurd (omega arith)
  inside r (g ∷ fs) e le = refl

  pub replaced_inside : (r v g e : SourceExp) (fs : List (Bor Text)) → 1 ≤ length fs → g ≡ the_field → v ≡ replaced from g (names fs) e → with_inner r v ≡ replaced from r (f ∷ names fs) e
  replaced_inside r v g e fs le field value =
      ap (λ (x : SourceExp). with_inner r x) (value ∙ ap (λ (x : SourceExp). replaced from x (names fs) e) field) ∙ sym (inside r fs e le)
