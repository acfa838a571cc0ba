use Rattle.std.proofs.Common.{[]}
use Rattle.value_text.proofs.ArgumentValues as laws
use Rattle.value_text.proofs.Formed.{are_read}
use Rattle.value_text.proofs.arguments.read_args.Goals as goal

pub values_for-requires : goal.values_for-requires
values_for-requires c = rw c.as_slice-3.ensures (are_read c.args.types.now 1 0 c.args.text.now c.in-Ok.values (rw c.as_slice.ensures at c.in-Ok.ensures.reads)).formed

pub returns-in-Ok-values_for-clause-typed : goal.returns-in-Ok-values_for-clause-typed
returns-in-Ok-values_for-clause-typed c = (are_read c.args.types.now 1 0 c.args.text.now c.in-Ok.values (rw c.as_slice.ensures at c.in-Ok.ensures.reads)).typed

pub returns-in-Ok-values_for-clause-formed : goal.returns-in-Ok-values_for-clause-formed
returns-in-Ok-values_for-clause-formed c = (are_read c.args.types.now 1 0 c.args.text.now c.in-Ok.values (rw c.as_slice.ensures at c.in-Ok.ensures.reads)).formed

pub returns-in-Ok-values_for-clause-light : goal.returns-in-Ok-values_for-clause-light
returns-in-Ok-values_for-clause-light c = (are_read c.args.types.now 1 0 c.args.text.now c.in-Ok.values (rw c.as_slice.ensures at c.in-Ok.ensures.reads)).light

pub returns-in-Err-values_for-clause-refused : goal.returns-in-Err-values_for-clause-refused
returns-in-Err-values_for-clause-refused c =
    let reads = rw c.as_slice.ensures at c.in-Ok.ensures.reads in
    let compared = rw (c.as_slice-2.ensures, c.as_slice-3.ensures) at c.in-Err-values_for.ensures.err in
    laws.explains c.args.types.now c.args.text.now c.in-Err-values_for.err (laws.clashed c.args.types.now c.args.text.now c.in-Ok.values reads c.in-Err-values_for.err (compared [] (λ name. laws.none_known c.new-known.result.entries name c.new-known.ensures.empty)))
