use Rattle.module_state.proofs.TypeNamings.{called_arrow, called_nothing, called_some, called_specs, called_with}
use Rattle.module_state.proofs.naming.type_called.Goals as goal

pub returns-in-Specs-clause-ok : goal.returns-in-Specs-clause-ok
returns-in-Specs-clause-ok c = called_specs _ _ c.ty.view_is _ c.in-Specs.is

pub returns-in-With-clause-ok : goal.returns-in-With-clause-ok
returns-in-With-clause-ok c = called_with _ _ c.ty.view_is _ _ c.in-With.is

pub returns-in-Arrow-clause-ok : goal.returns-in-Arrow-clause-ok
returns-in-Arrow-clause-ok c = called_arrow _ _ c.ty.view_is _ _ _ c.in-Arrow.is

pub returns-in-empty-clause-ok : goal.returns-in-empty-clause-ok
returns-in-empty-clause-ok c = called_nothing _ _ c.ty.view_is _ c.in-Path.is c.in-empty.len_below

pub returns-in-len1-up-clause-ok : goal.returns-in-len1-up-clause-ok
returns-in-len1-up-clause-ok c = called_some _ _ c.ty.view_is _ _ _ c.in-Path.is c.in-len1-up.len_at_least c.joined.ensures.ok
