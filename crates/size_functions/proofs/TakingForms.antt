-- The name of a parameter's value, form by form.
use Rattle.std.proofs.Common.{◌≡◌, ℕ, List, Option, Some, None, sym, ap, ◌∙◌}
use Rattle.std.specs.Borrow.{Bor}
use Rattle.fut_scalar.specs.declared.place.BindId.{BindId}
use Rattle.fut_flat.specs.declared.pat.Pat.{Pat}
use Rattle.fut_flat.specs.declared.pat.PatField.{PatField}
use Rattle.fut_flat.specs.declared.pat.PatForm.TheVariants as form
use Rattle.fut_flat.specs.declared.ty.TypeExp.{TypeExp}
use Rattle.fut_flat.specs.Erased.{FlatPattern, pattern_of}
use Rattle.fut_flat.proofs.ErasedPatterns.{pattern_bound, pattern_wild, pattern_tuple, pattern_record, pattern_typed}
use Rattle.fut_sizes.specs.Functions.{value_name}

module _ (p : Pat) where
  pub named_bound : (b : BindId) → p.form ≡ form.Bound b → Some b.0 ≡ value_name (pattern_of p)
  named_bound b is = sym (ap (λ (q : FlatPattern). value_name q) (pattern_bound p b is))

  pub named_wild : p.form ≡ form.Wild → None ≡ value_name (pattern_of p)
  named_wild is = sym (ap (λ (q : FlatPattern). value_name q) (pattern_wild p is))

  pub named_tuple : (ps : Bor (List Pat)) → p.form ≡ form.Tuple ps → None ≡ value_name (pattern_of p)
  named_tuple ps is = sym (ap (λ (q : FlatPattern). value_name q) (pattern_tuple p ps is))

  pub named_record : (fs : Bor (List PatField)) → p.form ≡ form.Record fs → None ≡ value_name (pattern_of p)
  named_record fs is = sym (ap (λ (q : FlatPattern). value_name q) (pattern_record p fs is))

  pub named_typed : (q : Bor Pat) (e : Bor TypeExp) (o : Option ℕ) → p.form ≡ form.Typed q e → o ≡ value_name (pattern_of q.now) → o ≡ value_name (pattern_of p)
  named_typed q e o is h = h ∙ sym (ap (λ (q : FlatPattern). value_name q) (pattern_typed p q e is))

pub ruleset named = (named_bound, named_wild, named_tuple, named_record, named_typed)
