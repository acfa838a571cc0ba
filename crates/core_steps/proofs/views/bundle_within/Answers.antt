use Rattle.std.proofs.Common.{take, drop, length, ◌-◌, ap, arith}
use Rattle.core_steps.proofs.Indices.{within_ok}
use Rattle.core_steps.proofs.views.bundle_within.Goals as goal

pub returns-clause-told : goal.returns-clause-told
returns-clause-told c =
    within_ok c.args.table.now c.args.arrays.now.arrays c.args.atoms.now c.args.stack.now.items c.push_all.new.stack.items c.truncate.new.self.items _ c.len-mark.result c.in_ok-fits.fits
    (omega (arith, c.len-mark.ensures, c.args.stack.now.ok.0)) c.in_ok-push_all.ensures.told (ap (λ z. take (length z - c.len-mark.result) (drop c.len-mark.result z)) c.deref.ensures.value) c.in_ok-fits.ensures.told c.truncate.ensures.items
