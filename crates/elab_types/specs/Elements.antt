-- The parts of lists in types and patterns.
use Rattle.std.specs.Prelude.{Bool, true, false, List, Some, None, Result, Ok}
use Rattle.std.specs.Borrow.{Bor}
use Rattle.fut_ast.specs.Sorts.{Text, SourceType, SourcePat}
use Rattle.fut_scalar.specs.declared.place.Place.{Place}
use Rattle.fut_tree.specs.declared.held.Held.{Held}
use Rattle.fut_tree.specs.declared.ty.TypeArg.{TypeArg}
use Rattle.fut_tree.specs.declared.ty.TypeField.{TypeField}
use Rattle.fut_tree.specs.declared.pat.PatField.{PatField}
use Rattle.fut_tree.specs.declared.ty.TypeArg.TheVariants as held_arg
use Rattle.fut_tree.specs.Types.{maybe_size_of}
use Rattle.fut_flat.specs.declared.ty.TypeExp.{TypeExp as FlatTy}
use Rattle.fut_flat.specs.declared.ty.TypeField.{TypeField as FlatField}
use Rattle.fut_flat.specs.declared.pat.Pat.{Pat as FlatPat}
use Rattle.fut_flat.specs.declared.pat.PatField.{PatField as FlatPatField}
use Rattle.fut_flat.specs.Erased.{FlatType, FlatPattern, Argument, a_size, a_type}
use Rattle.fut_flat.specs.Sources.{WrittenType, source_size, source_type, source_pattern}
use Rattle.fut_flat.specs.Terms.{Type_use, Array_type, Unique_type, Arrow_type, Tuple_type, Record_type}
use Rattle.elab_scopes.specs.Scopes.{Scope}
use Rattle.elab_scopes.specs.Resolve.{Numbered, Naming, after, resolve_size, resolve_type, name_pattern}
use Rattle.elab_scopes.specs.Names.{Refusal}

unfoldable pub type_part : Held SourceType → Scope → List Text → Numbered FlatType
type_part h sc made = resolve_type (source_type h.at.now) sc made

unfoldable pub type_field_part : TypeField → Scope → List Text → Numbered (Text × FlatType)
type_field_part f sc made = after (resolve_type (source_type f.ty.now) sc made) (λ t made. Ok ((f.name.now, t), made))

-- a field of what its type was resolved to
abbrev pub field_with : Bor Text → Bor FlatTy → FlatField
field_with x t = record { name = x; ty = t.now }

unfoldable pub argument_part : Place → TypeArg → Scope → List Text → Numbered Argument
argument_part at (held_arg.Size s) sc made = after (resolve_size (source_size at (maybe_size_of s)) sc made) (λ s made. Ok (a_size s, made))
argument_part at (held_arg.Of t) sc made = after (resolve_type (source_type t.now) sc made) (λ t made. Ok (a_type t, made))

unfoldable pub pattern_part : Held SourcePat → Scope → Naming → Result (FlatPattern × Naming) Refusal
pattern_part h sc s = name_pattern (source_pattern h.at.now) sc s

unfoldable pub field_pattern : PatField → Scope → Naming → Result ((Text × FlatPattern) × Naming) Refusal
field_pattern f sc s = after (name_pattern (source_pattern f.pat.now) sc s) (λ p s. Ok ((f.name.now, p), s))

-- a field of what its pattern was named to
abbrev pub pattern_with : Bor Text → FlatPat → FlatPatField
pattern_with x p = record { name = x; pat = p }

-- a function's type whose parameter has a name
abbrev pub names_parameter : WrittenType → Bool
names_parameter (Type_use p given) = false
names_parameter (Array_type s t) = false
names_parameter (Unique_type t) = false
names_parameter (Arrow_type None t u) = false
names_parameter (Arrow_type (Some x) t u) = true
names_parameter (Tuple_type ts) = false
names_parameter (Record_type fs ts) = false
