-- One layer of the plain tree that a held expression stands for.
use Rattle.std.proofs.Common.{◌≡◌}
use Rattle.fut_ast.specs.Sorts.{Text, Path, SourceExp}
use Rattle.fut_ast.specs.declared.exp.Form.{Form as PlainForm, Form-F, out-Form}
use Rattle.fut_ast.specs.declared.exp.Form.TheVariants as form
use Rattle.fut_ast.specs.declared.exp.Bind.{Bind as PlainBind}
use Rattle.fut_ast.specs.declared.exp.LoopForm.{LoopForm as PlainLoop}
use Rattle.fut_ast.specs.declared.exp.Ix.{Ix as PlainIx}
use Rattle.fut_tree.specs.declared.exp.Form.{Form}
use Rattle.fut_tree.specs.declared.exp.Form.TheVariants as held_form
use Rattle.fut_tree.specs.Names.{names, all, maybe}
use Rattle.fut_tree.specs.Exps.{form_of, exp_fields, binds_of, loop_of, ixs_of}

abbrev pub Layer : Type 0
Layer = Form-F PlainForm PlainIx PlainLoop PlainBind SourceExp

abbrev pub layer_of : Form → Layer
layer_of (held_form.Path p) = Form-F.Path (names p.now)
layer_of (held_form.Int n t) = Form-F.Int n t
layer_of (held_form.Bool b) = Form-F.Bool b
layer_of held_form.Unit = Form-F.Unit
layer_of (held_form.Tuple es) = Form-F.Tuple (all es.now)
layer_of (held_form.Record fs) = Form-F.Record (exp_fields fs.now)
layer_of (held_form.Array es) = Form-F.Array (all es.now)
layer_of (held_form.Apply f e) = Form-F.Apply f.now e.now
layer_of (held_form.Binary op a b) = Form-F.Binary op a.now b.now
layer_of (held_form.Unary op a) = Form-F.Unary op a.now
layer_of (held_form.Lambda ps t e) = Form-F.Lambda (all ps.now) (maybe t) e.now
layer_of (held_form.Lets bs e) = Form-F.Lets (binds_of bs.now) e.now
layer_of (held_form.If c a b) = Form-F.If c.now a.now b.now
layer_of (held_form.Loop sizes p e over body) = Form-F.Loop (names sizes.now) p.now e.now (loop_of over.now) body.now
layer_of (held_form.Index e ixs) = Form-F.Index e.now (ixs_of ixs.now)
layer_of (held_form.Field e x) = Form-F.Field e.now x.now
layer_of (held_form.Update a es e) = Form-F.Update a.now (all es.now) e.now
layer_of (held_form.Replace r x e) = Form-F.Replace r.now x.now e.now
layer_of (held_form.Ascribe e t) = Form-F.Ascribe e.now t.now
layer_of (held_form.Coerce e t) = Form-F.Coerce e.now t.now
layer_of (held_form.Assert c e) = Form-F.Assert c.now e.now
layer_of (held_form.Range e f end g) = Form-F.Range e.now (maybe f) end g.now

pub out_form : (f : Form) → out-Form (form_of f) ≡ layer_of f
out_form (held_form.Path p) = form.outs-Path _
out_form (held_form.Int n t) = form.outs-Int _ _
out_form (held_form.Bool b) = form.outs-Bool _
out_form held_form.Unit = form.outs-Unit
out_form (held_form.Tuple es) = form.outs-Tuple _
out_form (held_form.Record fs) = form.outs-Record _
out_form (held_form.Array es) = form.outs-Array _
out_form (held_form.Apply f e) = form.outs-Apply _ _
out_form (held_form.Binary op a b) = form.outs-Binary _ _ _
out_form (held_form.Unary op a) = form.outs-Unary _ _
out_form (held_form.Lambda ps t e) = form.outs-Lambda _ _ _
out_form (held_form.Lets bs e) = form.outs-Lets _ _
out_form (held_form.If c a b) = form.outs-If _ _ _
out_form (held_form.Loop sizes p e over body) = form.outs-Loop _ _ _ _ _
out_form (held_form.Index e ixs) = form.outs-Index _ _
out_form (held_form.Field e x) = form.outs-Field _ _
out_form (held_form.Update a es e) = form.outs-Update _ _ _
out_form (held_form.Replace r x e) = form.outs-Replace _ _ _
out_form (held_form.Ascribe e t) = form.outs-Ascribe _ _
out_form (held_form.Coerce e t) = form.outs-Coerce _ _
out_form (held_form.Assert c e) = form.outs-Assert _ _
out_form (held_form.Range e f end g) = form.outs-Range _ _ _ _
