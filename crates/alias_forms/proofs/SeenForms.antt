-- What refusals tell of terms, and values that stand whole.
use Rattle.std.proofs.Common.{◌≡◌, ℕ, [], Option, Some, None, refl, ap, ◌∙◌}
use Rattle.fut_aliases.specs.declared.refusals.Named.{Named}
use Rattle.fut_aliases.specs.Capturing.{or_function, or_name}
use Rattle.fut_flat.specs.Erased.{FlatTerm}
use Rattle.alias_applications.specs.Shown.{NamedAs}
use Rattle.fut_scalar.specs.declared.place.BindId.{BindId}
use Rattle.fut_types.specs.Types.{Ty}
use Rattle.fut_aliases.specs.Calls as definition
use Rattle.alias_program.specs.Parts.{part_of}
use Rattle.alias_program.specs.declared.parts.Part.{Part}
use Rattle.alias_values.specs.Trees.{type_of}
use Rattle.uniqueness.specs.Held.{held_of, helds_of}
use Rattle.alias_forms.specs.Seen.{Names_in}

-- what is told of a term, by the first name in it
pub told_named : {e : FlatTerm} {n : ℕ} {f g : Named} {name : Option Named} → Names_in e f name → g ≡ or_function name → NamedAs e (record { node = n; called = f; first_name = g })
told_named n e = record { called_so = n.called_so; first_so = e ∙ ap or_function n.first_so }

pub or_name_more : (a b c : Option Named) → or_name (or_name a b) c ≡ or_name a (or_name b c)
or_name_more (Some n) b c = refl
or_name_more None b c = refl

pub or_none : (a : Option Named) → or_name a None ≡ a
or_none (Some n) = refl
or_none None = refl

-- a part without arguments
pub part_is : (p : Part) {a : definition.Held} {m : Option BindId} {t : Ty} → held_of p.head ≡ a → p.name ≡ m → type_of p.ty.now ≡ t → p.arguments.now ≡ [] → part_of p ≡ record { head = a; name = m; type = t; arguments = [] }
part_is p {a = a} {m = m} {t = t} e f g l =
    ap (λ z. record { head = z; name = p.name; type = type_of p.ty.now; arguments = helds_of p.arguments.now }) e
    ∙ ap (λ z. record { head = a; name = z; type = type_of p.ty.now; arguments = helds_of p.arguments.now }) f
    ∙ ap (λ z. record { head = a; name = m; type = z; arguments = helds_of p.arguments.now }) g
    ∙ ap (λ z. record { head = a; name = m; type = t; arguments = helds_of z }) l
