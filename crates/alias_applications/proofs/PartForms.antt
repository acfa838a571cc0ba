-- Values that wait for other parts.
use Rattle.std.proofs.Common.{◌≡◌, ℕ, List, [], length, None, Ok, sym, ap, ◌∙◌}
use Rattle.std.specs.Borrow.{Bor}
use Rattle.fut_flat.specs.Erased.{FlatTerm}
use Rattle.fut_types.specs.Types.{Kinds}
use Rattle.fut_typing.specs.Names.{Names}
use Rattle.fut_aliases.specs.Aliases.{Naming}
use Rattle.fut_aliases.specs.Calls as definition
use Rattle.fut_aliases.specs.Looking.{held, whole}
use Rattle.fut_aliases.specs.Capturing.{called, first_name}
use Rattle.fut_aliases.specs.Steps.{Losses, then_do}
use Rattle.fut_aliases.specs.Values.{Value}
use Rattle.alias_values.specs.declared.trees.TypeTree.{TypeTree}
use Rattle.alias_values.specs.declared.trees.ValueTree.{ValueTree}
use Rattle.alias_values.specs.Trees.{type_of, value_of}
use Rattle.uniqueness.specs.Answers.{Grows, Stepped, stepped, no_memory}
use Rattle.uniqueness.specs.declared.held.Held.{Held}
use Rattle.uniqueness.specs.Held.{held_of, helds_of}
use Rattle.uniqueness.proofs.Growing.{grows_not}
use Rattle.alias_program.specs.Parts.{part_of}
use Rattle.alias_program.specs.Program.{sub_of}
use Rattle.alias_applications.specs.declared.parts.Told.{Told}
use Rattle.alias_applications.specs.Shown.{NamedAs}

module _ (e : FlatTerm) (t : Told) (ls : Losses) (n : NamedAs e t) where
  abbrev waiting : Value → definition.Held
  waiting v = record { node = t.node; called = called e; first_name = first_name e; value = v; losses = length ls }

  holds : (v : Bor ValueTree) (k : ℕ) → k ≡ length ls → held_of (record { node = t.node; called = t.called; first_name = t.first_name; value = v; losses = k }) ≡ waiting (value_of v.now)
  holds v k l =
      ap (λ z. record { node = t.node; called = z; first_name = t.first_name; value = value_of v.now; losses = k }) n.called_so
      ∙ ap (λ z. record { node = t.node; called = called e; first_name = z; value = value_of v.now; losses = k }) n.first_so
      ∙ ap (λ z. record { node = t.node; called = called e; first_name = first_name e; value = value_of v.now; losses = z }) l

  pub held_done : (v : Bor ValueTree) (k : ℕ) → k ≡ length ls → Stepped held_of (held e t.node (value_of v.now)) ls ls (Ok (record { node = t.node; called = t.called; first_name = t.first_name; value = v; losses = k }))
  held_done v k l = stepped (ap (λ z. Ok (record { result = z; losses = ls })) (sym (holds v k l))) (grows_not ls)

module _ (naming : Naming) (N : Names) (K : Kinds) (e : FlatTerm) (n : ℕ) (v : Value) (ls : Losses) (ts : List TypeTree) where
  pub whole_done : (a : Held) (ty : Bor TypeTree) (none : Bor (List Held)) → Stepped held_of (held e n v) ls ls (Ok a) → type_of ty.now ≡ sub_of ts n → none.now ≡ []
      → Stepped part_of (whole naming N K (sub_of ts) e n v) ls ls (Ok (record { head = a; name = None; ty = ty; arguments = none }))
  whole_done a ty none (stepped q g) t z = stepped
      (ap (λ r. then_do r (λ d. Ok (record { result = record { head = d.result; name = None; type = sub_of ts n; arguments = [] }; losses = d.losses }))) q
      ∙ ap (λ r. Ok (record { result = record { head = held_of a; name = None; type = r; arguments = [] }; losses = ls })) (sym t)
      ∙ ap (λ r. Ok (record { result = record { head = held_of a; name = None; type = type_of ty.now; arguments = helds_of r }; losses = ls })) (sym z)) (grows_not ls)

pub ruleset memory = (no_memory)
