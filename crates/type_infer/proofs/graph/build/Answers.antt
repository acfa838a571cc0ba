use Rattle.std.proofs.Common.{sym, arith}
use Rattle.fut_typing.specs.Program.{program_of, program_numbers}
use Rattle.type_infer.specs.Definitions.{env_definitions}
use Rattle.type_infer.proofs.Beginning.{safe}
use Rattle.type_infer.proofs.Building.{graphs, lacks_types, keeps_numbers, lacks, keeps_numbers_refused}
use Rattle.type_infer.proofs.Results.{shows, shows_as}
use Rattle.type_infer.proofs.graph.build.Goals as goal

pub constrain_definitions-requires-clause-safe : goal.constrain_definitions-requires-clause-safe
constrain_definitions-requires-clause-safe c = rw c.len-base.ensures (safe c.args.homes.now c.args.inference.now c.begin.new.inference c.in-Ok.ensures.ok (omega (arith, c.if-base-ge4294967295.false, c.len-base.ensures)) c.requires.labels)

pub returns-in-Err-constrain_definitions-clause-err : goal.returns-in-Err-constrain_definitions-clause-err
returns-in-Err-constrain_definitions-clause-err c = shows_as c.in-Err-constrain_definitions.error (lacks c.args.places (program_of c.args.flat.now) c.args.homes.now c.args.inference.now c.begin.new.inference c.constrain_definitions.new.inference c.in-Ok.ensures.ok (omega (arith, c.if-base-ge4294967295.false, c.len-base.ensures)) c.requires.homes) (rw (sym c.len-base.ensures) c.in-Err-constrain_definitions.ensures.err)

pub returns-in-Err-constrain_definitions-clause-keeps_err : goal.returns-in-Err-constrain_definitions-clause-keeps_err
returns-in-Err-constrain_definitions-clause-keeps_err c = shows_as c.in-Err-constrain_definitions.error (keeps_numbers_refused c.args.places (program_of c.args.flat.now) c.args.homes.now c.args.inference.now c.begin.new.inference c.constrain_definitions.new.inference c.in-Ok.ensures.ok (omega (arith, c.if-base-ge4294967295.false, c.len-base.ensures)) c.requires.homes) (rw (sym c.len-base.ensures) c.in-Err-constrain_definitions.ensures.err)

pub returns-in-Ok-resolve-clause-ok : goal.returns-in-Ok-resolve-clause-ok
returns-in-Ok-resolve-clause-ok c = graphs c.args.places (program_of c.args.flat.now) c.args.homes.now c.args.inference.now c.begin.new.inference c.constrain_definitions.new.inference c.in-Ok.ensures.ok (omega (arith, c.if-base-ge4294967295.false, c.len-base.ensures)) c.requires.homes (program_numbers (program_of c.args.flat.now)) (env_definitions c.args.flat.now.definitions.now 0) (rw (sym c.len-base.ensures) c.in-Ok-constrain_definitions.ensures.ok) c.in-Ok-resolve.ensures.ok c.in-Ok-resolve.ensures.founded

pub returns-in-Ok-resolve-clause-keeps : goal.returns-in-Ok-resolve-clause-keeps
returns-in-Ok-resolve-clause-keeps c = keeps_numbers c.args.places (program_of c.args.flat.now) c.args.homes.now c.args.inference.now c.begin.new.inference c.constrain_definitions.new.inference c.in-Ok.ensures.ok (omega (arith, c.if-base-ge4294967295.false, c.len-base.ensures)) c.requires.homes (program_numbers (program_of c.args.flat.now)) (env_definitions c.args.flat.now.definitions.now 0) (rw (sym c.len-base.ensures) c.in-Ok-constrain_definitions.ensures.ok)

pub returns-in-Err-resolve-clause-err : goal.returns-in-Err-resolve-clause-err
returns-in-Err-resolve-clause-err c = shows c.refused.result c.in-Err-resolve.error c.refused.ensures.why (lacks_types c.args.places (program_of c.args.flat.now) c.args.homes.now c.args.inference.now c.begin.new.inference c.constrain_definitions.new.inference c.in-Ok.ensures.ok (omega (arith, c.if-base-ge4294967295.false, c.len-base.ensures)) c.requires.homes (program_numbers (program_of c.args.flat.now)) (env_definitions c.args.flat.now.definitions.now 0) (rw (sym c.len-base.ensures) c.in-Ok-constrain_definitions.ensures.ok)) c.in-Err-resolve.ensures.err

pub returns-in-Err-resolve-clause-keeps_err : goal.returns-in-Err-resolve-clause-keeps_err
returns-in-Err-resolve-clause-keeps_err c = shows c.refused.result c.in-Err-resolve.error c.refused.ensures.why (λ un. keeps_numbers c.args.places (program_of c.args.flat.now) c.args.homes.now c.args.inference.now c.begin.new.inference c.constrain_definitions.new.inference c.in-Ok.ensures.ok (omega (arith, c.if-base-ge4294967295.false, c.len-base.ensures)) c.requires.homes (program_numbers (program_of c.args.flat.now)) (env_definitions c.args.flat.now.definitions.now 0) (rw (sym c.len-base.ensures) c.in-Ok-constrain_definitions.ensures.ok)) c.in-Err-resolve.ensures.err
