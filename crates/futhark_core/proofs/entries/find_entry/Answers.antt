use Rattle.std.proofs.Common.{inr}
use Rattle.futhark_core.proofs.entries.find_entry.Goals as goal

pub returns-in-Ok-wanted_by-clause-ok : goal.returns-in-Ok-wanted_by-clause-ok
returns-in-Ok-wanted_by-clause-ok c = record {
  begins = c.in-Some.ensures.found;
  number = c.bind_of.ensures;
  unwritten = c.in-Ok.ensures.unwritten;
  usable = c.in-Ok.ensures.ok;
  wants = rw c.as_slice.ensures at c.in-Ok-wanted_by.ensures.ok;
}

pub returns-in-Err-Outside-wanted_by-clause-err : goal.returns-in-Err-Outside-wanted_by-clause-err
returns-in-Err-Outside-wanted_by-clause-err c =
    let none = rw (c.in-Err-Outside-wanted_by.field-0-is, c.as_slice.ensures) at c.in-Err-Outside-wanted_by.ensures.err in
    record {
      at = c.in-Some.at;
      begins = c.in-Some.ensures.found;
      none = inr (record { params = c.in-Ok.ty.params; tuple = c.in-Ok.ty.tuple; results = c.in-Ok.ty.results; usable = c.in-Ok.ensures.ok; none = none });
    }
