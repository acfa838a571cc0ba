-- The type that a held type stands for.
use Rattle.std.specs.Prelude.{ℕ, List, map, Option, Some, None}
use Rattle.fut_ast.specs.Sorts.{Text, Path, SourceType}
use Rattle.fut_ast.specs.declared.ty.SizeExp.{SizeExp as PlainSize}
use Rattle.fut_ast.specs.declared.ty.SizeForm.{SizeForm as PlainSizeForm}
use Rattle.fut_ast.specs.declared.ty.SizeForm.TheVariants as size
use Rattle.fut_ast.specs.declared.ty.TypeExp.{roll-TypeExp, size-TypeExp}
use Rattle.fut_ast.specs.declared.ty.TypeForm.{TypeForm as PlainForm}
use Rattle.fut_ast.specs.declared.ty.TypeForm.TheVariants as form
use Rattle.fut_ast.specs.declared.ty.TypeArg.{TypeArg as PlainArg}
use Rattle.fut_ast.specs.declared.ty.TypeArg.TheVariants as arg
use Rattle.fut_tree.specs.declared.ty.SizeExp.{SizeExp}
use Rattle.fut_tree.specs.declared.ty.SizeForm.{SizeForm}
use Rattle.fut_tree.specs.declared.ty.SizeForm.TheVariants as held_size
use Rattle.fut_tree.specs.declared.ty.TypeExp.TheInside.{Inside}
use Rattle.fut_tree.specs.declared.ty.TypeForm.{TypeForm}
use Rattle.fut_tree.specs.declared.ty.TypeForm.TheVariants as held_form
use Rattle.fut_tree.specs.declared.ty.TypeArg.{TypeArg}
use Rattle.fut_tree.specs.declared.ty.TypeArg.TheVariants as held_arg
use Rattle.fut_tree.specs.declared.ty.TypeField.{TypeField}
use Rattle.fut_tree.specs.Names.{names, all}

abbrev pub size_form_of : SizeForm → PlainSizeForm
size_form_of (held_size.Path p) = size.Path (names p.now)
size_form_of (held_size.Const n) = size.Const n

abbrev pub size_of : SizeExp → PlainSize
size_of s = record { place = s.place; form = size_form_of s.form }

abbrev pub maybe_size_of : Option SizeExp → Option PlainSize
maybe_size_of None = None
maybe_size_of (Some s) = Some (size_of s)

abbrev pub arg_of : TypeArg → PlainArg
arg_of (held_arg.Size s) = arg.Size (maybe_size_of s)
arg_of (held_arg.Of t) = arg.Of t.now

abbrev pub args_of : List TypeArg → List (PlainArg)
args_of = map arg_of

abbrev pub type_fields : List TypeField → List (Text × SourceType)
type_fields = map (λ (f : TypeField). (f.name.now, f.ty.now))

abbrev pub type_form_of : TypeForm → PlainForm
type_form_of (held_form.Path p args) = form.Path (names p.now) (args_of args.now)
type_form_of (held_form.Array s t) = form.Array (maybe_size_of s) t.now
type_form_of (held_form.Unique t) = form.Unique t.now
type_form_of (held_form.Arrow t u) = form.Arrow t.now u.now
type_form_of (held_form.Named x t u) = form.Named x.now t.now u.now
type_form_of held_form.Unit = form.Unit
type_form_of (held_form.Tuple ts) = form.Tuple (all ts.now)
type_form_of (held_form.Record fs) = form.Record (type_fields fs.now)

abbrev pub type_of : Inside → SourceType
type_of t = roll-TypeExp (record { place = t.place; form = type_form_of t.form })

abbrev pub type_size : SourceType → ℕ
type_size = size-TypeExp
