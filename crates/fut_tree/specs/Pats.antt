-- The pattern that a held pattern stands for.
use Rattle.std.specs.Prelude.{ℕ, List, map}
use Rattle.fut_ast.specs.Sorts.{Text, Path, SourcePat}
use Rattle.fut_ast.specs.declared.pat.Head.{Head as PlainHead}
use Rattle.fut_ast.specs.declared.pat.HeadForm.{HeadForm as PlainHeadForm}
use Rattle.fut_ast.specs.declared.pat.HeadForm.TheVariants as head
use Rattle.fut_ast.specs.declared.pat.Pat.{roll-Pat, size-Pat}
use Rattle.fut_ast.specs.declared.pat.PatForm.{PatForm as PlainForm}
use Rattle.fut_ast.specs.declared.pat.PatForm.TheVariants as form
use Rattle.fut_tree.specs.declared.pat.Head.{Head}
use Rattle.fut_tree.specs.declared.pat.HeadForm.{HeadForm}
use Rattle.fut_tree.specs.declared.pat.HeadForm.TheVariants as held_head
use Rattle.fut_tree.specs.declared.pat.Pat.TheInside.{Inside}
use Rattle.fut_tree.specs.declared.pat.PatForm.{PatForm}
use Rattle.fut_tree.specs.declared.pat.PatForm.TheVariants as held_form
use Rattle.fut_tree.specs.declared.pat.PatField.{PatField}
use Rattle.fut_tree.specs.Names.{all}

abbrev pub head_form_of : HeadForm → PlainHeadForm
head_form_of (held_head.Size x) = head.Size x.now
head_form_of (held_head.Var x lifted) = head.Var x.now lifted

abbrev pub head_of : Head → PlainHead
head_of h = record { place = h.place; form = head_form_of h.form }

abbrev pub heads_of : List Head → List PlainHead
heads_of = map head_of

abbrev pub pat_fields : List PatField → List (Text × SourcePat)
pat_fields = map (λ (f : PatField). (f.name.now, f.pat.now))

abbrev pub pat_form_of : PatForm → PlainForm
pat_form_of (held_form.Var x) = form.Var x.now
pat_form_of held_form.Wild = form.Wild
pat_form_of held_form.Unit = form.Unit
pat_form_of (held_form.Tuple ps) = form.Tuple (all ps.now)
pat_form_of (held_form.Record fs) = form.Record (pat_fields fs.now)
pat_form_of (held_form.Ascribe p t) = form.Ascribe p.now t.now

abbrev pub pat_of : Inside → SourcePat
pat_of p = roll-Pat (record { place = p.place; form = pat_form_of p.form })

abbrev pub pat_size : SourcePat → ℕ
pat_size = size-Pat
