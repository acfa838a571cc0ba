-- The parts of a held expression are smaller than it.
use Rattle.std.specs.Prelude.{◌+◌, ◌≤◌, List, [], ◌∷◌, Some, None}
use Rattle.std.proofs.Common.{arith}
use Prim.Native.Nat.{max}
use denote.Param.Weighed.{most}
use Rattle.fut_ast.specs.Sorts.{Text, Path, SourceExp}
use Rattle.fut_ast.specs.declared.exp.Form.TheViews.{size-Form, size-Bind, size-LoopForm, size-Ix, size_roll-Exp, size_roll-Bind, sized-Tuple, sized-Record, sized-Array, sized-Apply, sized-Binary, sized-Unary, sized-Lambda, sized-Lets, sized-If, sized-Loop, sized-Index, sized-Field, sized-Update, sized-Replace, sized-Ascribe, sized-Coerce, sized-Assert, sized-Range, sized-At, sized-Slice, sized-For, sized-ForIn, sized-While, weight-Form-Tuple-0, weight-Form-Record-0, weight-Form-Lets-0, weight-Form-Index-1}
use Rattle.fut_tree.specs.declared.held.Held.{Held}
use Rattle.fut_tree.specs.declared.exp.Exp.TheInside.{Inside}
use Rattle.fut_tree.specs.declared.exp.Exp.TheDeep.{deep-Form, deep-ExpField, deep-Bind, deep-LoopForm, deep-Ix, deep-Exp}
use Rattle.fut_tree.specs.declared.exp.Form.{Form}
use Rattle.fut_tree.specs.declared.exp.Form.TheVariants as held_form
use Rattle.fut_tree.specs.declared.exp.ExpField.{ExpField}
use Rattle.fut_tree.specs.declared.exp.Bind.{Bind}
use Rattle.fut_tree.specs.declared.exp.LoopForm.{LoopForm}
use Rattle.fut_tree.specs.declared.exp.LoopForm.TheVariants as held_loop
use Rattle.fut_tree.specs.declared.exp.Ix.{Ix}
use Rattle.fut_tree.specs.declared.exp.Ix.TheVariants as held_ix
use Rattle.fut_tree.specs.Names.{names, all, maybe}
use Rattle.fut_tree.specs.Pats.{heads_of}
use Rattle.fut_tree.specs.Exps.{exp_fields, bind_of, binds_of, loop_of, ix_of, ixs_of, form_of, exp_of, exp_size}

pub exps_fall : (xs : List (Held SourceExp)) → most (λ (x : Held SourceExp). max (exp_size x.at.now + 1) 0) xs ≤ weight-Form-Tuple-0 (all xs) + 1
exps_fall [] = omega arith
exps_fall (x ∷ xs) = omega (arith, exps_fall xs)

pub exp_fields_fall : (xs : List ExpField) → most deep-ExpField xs ≤ weight-Form-Record-0 (exp_fields xs) + 1
exp_fields_fall [] = omega arith
exp_fields_fall (x ∷ xs) = omega (arith, exp_fields_fall xs)

pub bind_falls : (b : Bind) → deep-Bind b ≤ size-Bind (bind_of b)
bind_falls b = omega (arith, size_roll-Bind (record { sizes = names b.sizes.now; pat = b.pat.now; is_function = b.is_function; heads = heads_of b.heads.now; value = b.value.now }))

pub binds_fall : (xs : List Bind) → most deep-Bind xs ≤ weight-Form-Lets-0 (binds_of xs) + 1
binds_fall [] = omega arith
binds_fall (x ∷ xs) = omega (arith, bind_falls x, binds_fall xs)

pub loop_falls : (f : LoopForm) → deep-LoopForm f ≤ size-LoopForm (loop_of f)
loop_falls (held_loop.For x e) = omega (arith, sized-For x.now e.now)
loop_falls (held_loop.ForIn p e) = omega (arith, sized-ForIn p.now e.now)
loop_falls (held_loop.While e) = omega (arith, sized-While e.now)

pub ix_falls : (i : Ix) → deep-Ix i ≤ size-Ix (ix_of i)
ix_falls (held_ix.At e) = omega (arith, sized-At e.now)
ix_falls (held_ix.Slice None None) = omega (arith, sized-Slice None None)
ix_falls (held_ix.Slice None (Some f)) = omega (arith, sized-Slice None (Some f.now))
ix_falls (held_ix.Slice (Some e) None) = omega (arith, sized-Slice (Some e.now) None)
ix_falls (held_ix.Slice (Some e) (Some f)) = omega (arith, sized-Slice (Some e.now) (Some f.now))
ix_falls held_ix.Backwards = omega arith

pub ixs_fall : (xs : List Ix) → most deep-Ix xs ≤ weight-Form-Index-1 (ixs_of xs) + 1
ixs_fall [] = omega arith
ixs_fall (x ∷ xs) = omega (arith, ix_falls x, ixs_fall xs)

pub form_falls : (f : Form) → deep-Form f ≤ size-Form (form_of f)
form_falls (held_form.Path p) = omega arith
form_falls (held_form.Int n t) = omega arith
form_falls (held_form.Bool b) = omega arith
form_falls held_form.Unit = omega arith
form_falls (held_form.Tuple es) = omega (arith, sized-Tuple (all es.now), exps_fall es.now)
form_falls (held_form.Record fs) = omega (arith, sized-Record (exp_fields fs.now), exp_fields_fall fs.now)
form_falls (held_form.Array es) = omega (arith, sized-Array (all es.now), exps_fall es.now)
form_falls (held_form.Apply f e) = omega (arith, sized-Apply f.now e.now)
form_falls (held_form.Binary op a b) = omega (arith, sized-Binary op a.now b.now)
form_falls (held_form.Unary op a) = omega (arith, sized-Unary op a.now)
form_falls (held_form.Lambda ps t e) = omega (arith, sized-Lambda (all ps.now) (maybe t) e.now)
form_falls (held_form.Lets bs e) = omega (arith, sized-Lets (binds_of bs.now) e.now, binds_fall bs.now)
form_falls (held_form.If c a b) = omega (arith, sized-If c.now a.now b.now)
form_falls (held_form.Loop sizes p e over body) = omega (arith, sized-Loop (names sizes.now) p.now e.now (loop_of over.now) body.now, loop_falls over.now)
form_falls (held_form.Index e ixs) = omega (arith, sized-Index e.now (ixs_of ixs.now), ixs_fall ixs.now)
form_falls (held_form.Field e x) = omega (arith, sized-Field e.now x.now)
form_falls (held_form.Update a es e) = omega (arith, sized-Update a.now (all es.now) e.now, exps_fall es.now)
form_falls (held_form.Replace r x e) = omega (arith, sized-Replace r.now x.now e.now)
form_falls (held_form.Ascribe e t) = omega (arith, sized-Ascribe e.now t.now)
form_falls (held_form.Coerce e t) = omega (arith, sized-Coerce e.now t.now)
form_falls (held_form.Assert c e) = omega (arith, sized-Assert c.now e.now)
form_falls (held_form.Range e None end g) = omega (arith, sized-Range e.now None end g.now)
form_falls (held_form.Range e (Some f) end g) = omega (arith, sized-Range e.now (Some f.now) end g.now)

pub exp_falls : (e : Inside) → deep-Exp e ≤ exp_size (exp_of e)
exp_falls e = omega (arith, form_falls e.form, size_roll-Exp (record { place = e.place; mark = e.mark; form = form_of e.form }))
