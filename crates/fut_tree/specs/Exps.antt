-- The expression that a held expression stands for.
use Rattle.std.specs.Prelude.{ℕ, List, map}
use Rattle.fut_ast.specs.Sorts.{Text, Path, SourceExp}
use Rattle.fut_ast.specs.declared.exp.Exp.{roll-Exp, size-Exp}
use Rattle.fut_ast.specs.declared.exp.Form.{Form as PlainForm}
use Rattle.fut_ast.specs.declared.exp.Form.TheVariants as form
use Rattle.fut_ast.specs.declared.exp.Bind.{Bind as PlainBind, roll-Bind}
use Rattle.fut_ast.specs.declared.exp.LoopForm.{LoopForm as PlainLoop}
use Rattle.fut_ast.specs.declared.exp.LoopForm.TheVariants as loop_form
use Rattle.fut_ast.specs.declared.exp.Ix.{Ix as PlainIx}
use Rattle.fut_ast.specs.declared.exp.Ix.TheVariants as ix
use Rattle.fut_tree.specs.declared.exp.Exp.TheInside.{Inside}
use Rattle.fut_tree.specs.declared.exp.Form.{Form}
use Rattle.fut_tree.specs.declared.exp.Form.TheVariants as held_form
use Rattle.fut_tree.specs.declared.exp.ExpField.{ExpField}
use Rattle.fut_tree.specs.declared.exp.Bind.{Bind}
use Rattle.fut_tree.specs.declared.exp.LoopForm.{LoopForm}
use Rattle.fut_tree.specs.declared.exp.LoopForm.TheVariants as held_loop
use Rattle.fut_tree.specs.declared.exp.Ix.{Ix}
use Rattle.fut_tree.specs.declared.exp.Ix.TheVariants as held_ix
use Rattle.fut_tree.specs.Names.{names, all, maybe}
use Rattle.fut_tree.specs.Pats.{heads_of}

abbrev pub exp_fields : List ExpField → List (Text × SourceExp)
exp_fields = map (λ (f : ExpField). (f.name.now, f.exp.now))

abbrev pub bind_of : Bind → PlainBind
bind_of b = roll-Bind (record { sizes = names b.sizes.now; pat = b.pat.now; is_function = b.is_function; heads = heads_of b.heads.now; value = b.value.now })

abbrev pub binds_of : List Bind → List PlainBind
binds_of = map bind_of

abbrev pub loop_of : LoopForm → PlainLoop
loop_of (held_loop.For x e) = loop_form.For x.now e.now
loop_of (held_loop.ForIn p e) = loop_form.ForIn p.now e.now
loop_of (held_loop.While e) = loop_form.While e.now

abbrev pub ix_of : Ix → PlainIx
ix_of (held_ix.At e) = ix.At e.now
ix_of (held_ix.Slice e f) = ix.Slice (maybe e) (maybe f)
ix_of held_ix.Backwards = ix.Backwards

abbrev pub ixs_of : List Ix → List PlainIx
ixs_of = map ix_of

abbrev pub form_of : Form → PlainForm
form_of (held_form.Path p) = form.Path (names p.now)
form_of (held_form.Int n t) = form.Int n t
form_of (held_form.Bool b) = form.Bool b
form_of held_form.Unit = form.Unit
form_of (held_form.Tuple es) = form.Tuple (all es.now)
form_of (held_form.Record fs) = form.Record (exp_fields fs.now)
form_of (held_form.Array es) = form.Array (all es.now)
form_of (held_form.Apply f e) = form.Apply f.now e.now
form_of (held_form.Binary op a b) = form.Binary op a.now b.now
form_of (held_form.Unary op a) = form.Unary op a.now
form_of (held_form.Lambda ps t e) = form.Lambda (all ps.now) (maybe t) e.now
form_of (held_form.Lets bs e) = form.Lets (binds_of bs.now) e.now
form_of (held_form.If c a b) = form.If c.now a.now b.now
form_of (held_form.Loop sizes p e over body) = form.Loop (names sizes.now) p.now e.now (loop_of over.now) body.now
form_of (held_form.Index e ixs) = form.Index e.now (ixs_of ixs.now)
form_of (held_form.Field e x) = form.Field e.now x.now
form_of (held_form.Update a es e) = form.Update a.now (all es.now) e.now
form_of (held_form.Replace r x e) = form.Replace r.now x.now e.now
form_of (held_form.Ascribe e t) = form.Ascribe e.now t.now
form_of (held_form.Coerce e t) = form.Coerce e.now t.now
form_of (held_form.Assert c e) = form.Assert c.now e.now
form_of (held_form.Range e f end g) = form.Range e.now (maybe f) end g.now

abbrev pub exp_of : Inside → SourceExp
exp_of e = roll-Exp (record { place = e.place; mark = e.mark; form = form_of e.form })

abbrev pub exp_size : SourceExp → ℕ
exp_size = size-Exp
