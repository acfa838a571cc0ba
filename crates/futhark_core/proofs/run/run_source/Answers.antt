use Rattle.std.proofs.Common.{[], refl, sym, subst, inl, inr}
use Rattle.std.specs.Prelude.{Ok}
use Rattle.elab_scopes.specs.Elaboration.{Elaborates}
use Rattle.module_elab.specs.Elaborated.{program_of as flat_of}
use Rattle.module_state.specs.Written.{files_of}
use Rattle.futhark_status.specs.declared.status.Why.TheVariants as why
use Rattle.futhark_core.specs.Private.Stages.{why_of}
use Rattle.futhark_core.proofs.RowLaws.{told_why}
use Rattle.futhark_core.proofs.run.run_source.Goals as goal

pub returns-in_default : goal.returns-in_default
returns-in_default g c = inr (record { reason = why.Memory; path = []; explains = refl; is = refl; input = refl; out = refl })

pub act-requires-clause-resolved : goal.act-requires-clause-resolved
act-requires-clause-resolved g c =
    let accepted = c.in-Ok-accept.ensures.accepted in
    let files = files_of c.in-Ok-accept.it.files.now in
    (files, subst (λ fs. Elaborates fs (Ok (flat_of c.in-Ok-accept.it.program.accepted.now.flat))) (sym accepted.files) accepted.acceptable.resolved.resolves.resolved)

pub returns-in-Ok-accept : goal.returns-in-Ok-accept
returns-in-Ok-accept g c =
    let accepted = c.in-Ok-accept.ensures.accepted in
    let files = files_of c.in-Ok-accept.it.files.now in
    inl (record {
      source = record { files = files; flat = c.in-Ok-accept.it.program.accepted.now.flat };
      accepted = record { same = c.in-Ok-accept.ensures.same; acceptable = accepted.acceptable; files = accepted.files };
      ended = c.act.ensures (record { files = files; flat = c.in-Ok-accept.it.program.accepted.now.flat }) refl refl
          (subst (λ fs. Elaborates fs (Ok (flat_of c.in-Ok-accept.it.program.accepted.now.flat))) (sym accepted.files) accepted.acceptable.resolved.resolves.resolved);
    })

pub returns : goal.returns
returns g c =
    inr (record {
      reason = why_of c.in-Err.refused.why;
      path = c.in-Err.refused.path;
      explains = told_why _ _ _ _ _ c.in-Err.ensures.refused;
      is = c.refused_status.ensures;
      input = refl;
      out = refl;
    })
