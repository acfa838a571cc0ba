-- The group of a held expression.
use Rattle.std.proofs.Common.{◌≡◌, ap}
use Rattle.fut_tree.specs.declared.exp.Exp.TheInside.{Inside}
use Rattle.fut_tree.specs.Exps.{exp_of}
use Rattle.fut_tree.proofs.Layers.{layer_of, out_form}
use Rattle.elab_exps.specs.Groups.{group_in, group_of}

pub group_held : (e : Inside) → group_of (exp_of e) ≡ group_in (layer_of e.form)
unfolding group_of
group_held e = ap group_in (out_form e.form)
