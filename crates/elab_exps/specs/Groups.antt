-- Which function of the walk an expression goes to.
use Rattle.fut_ast.specs.Sorts.{Text, Path, SourceExp}
use Rattle.fut_ast.specs.declared.exp.Form.{Form-F, out-Form}
use Rattle.fut_tree.proofs.Layers.{Layer}
use Rattle.elab_exps.specs.declared.groups.Group.{Group}
use Rattle.elab_exps.specs.declared.groups.Group.TheVariants as group

abbrev pub group_in : Layer → Group
group_in (Form-F.Path p) = group.Applying
group_in (Form-F.Apply f e) = group.Applying
group_in (Form-F.If c a b) = group.Choosing
group_in (Form-F.Lambda ps t e) = group.Binding
group_in (Form-F.Lets bs e) = group.Binding
group_in (Form-F.Binary op a b) = group.Joining
group_in (Form-F.Loop sizes p e over body) = group.Looping
group_in (Form-F.Int n t) = group.Operating
group_in (Form-F.Bool b) = group.Operating
group_in Form-F.Unit = group.Operating
group_in (Form-F.Unary op a) = group.Operating
group_in (Form-F.Field e x) = group.Operating
group_in (Form-F.Ascribe e t) = group.Typed
group_in (Form-F.Coerce e t) = group.Typed
group_in (Form-F.Assert c e) = group.Choosing
group_in (Form-F.Replace r x e) = group.Operating
group_in (Form-F.Range e f end g) = group.Operating
group_in (Form-F.Tuple es) = group.Operating
group_in (Form-F.Array es) = group.Operating
group_in (Form-F.Record fs) = group.Gathering
group_in (Form-F.Index e ixs) = group.Gathering
group_in (Form-F.Update a es e) = group.Operating

unfoldable pub group_of : SourceExp → Group
group_of e = group_in (out-Form e.form)
