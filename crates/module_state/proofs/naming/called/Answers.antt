use Rattle.module_state.proofs.Namings.{called_apply, called_decs, called_import, called_lambda, called_nothing, called_some, called_seal}
use Rattle.module_state.proofs.naming.called.Goals as goal

pub returns-in-Decs-clause-ok : goal.returns-in-Decs-clause-ok
returns-in-Decs-clause-ok c = called_decs _ _ c.exp.view_is _ c.in-Decs.is

pub returns-in-Apply-clause-ok : goal.returns-in-Apply-clause-ok
returns-in-Apply-clause-ok c = called_apply _ _ c.exp.view_is _ _ c.in-Apply.is

pub returns-in-Import-clause-ok : goal.returns-in-Import-clause-ok
returns-in-Import-clause-ok c = called_import _ _ c.exp.view_is _ c.in-Import.is

pub returns-in-Lambda-clause-ok : goal.returns-in-Lambda-clause-ok
returns-in-Lambda-clause-ok c = called_lambda _ _ c.exp.view_is _ _ _ _ c.in-Lambda.is

pub returns-in-Seal-clause-ok : goal.returns-in-Seal-clause-ok
returns-in-Seal-clause-ok c = called_seal _ _ c.exp.view_is _ _ c.in-Seal.is

pub returns-in-empty-clause-ok : goal.returns-in-empty-clause-ok
returns-in-empty-clause-ok c = called_nothing _ _ c.exp.view_is _ c.in-Path.is c.in-empty.len_below

pub returns-in-len1-up-clause-ok : goal.returns-in-len1-up-clause-ok
returns-in-len1-up-clause-ok c = called_some _ _ c.exp.view_is _ _ _ c.in-Path.is c.in-len1-up.len_at_least c.joined.ensures.ok
