use Rattle.std.proofs.Common.{◌≡◌, ◌+◌, ◌++◌, List, map, take, subst, refl}
use Rattle.fut_flat.specs.Numbers.{all_pattern_numbers}
use Rattle.fut_flat.specs.Erased.{FlatPattern, pattern_of, patterns}
use Rattle.fut_typing.specs.Homes.{At_home, env_patterns}
use Rattle.type_rules.proofs.Adding.{tells}
use Rattle.type_scopes.specs.Scopes.{Opened}
use Rattle.type_scopes.proofs.Binding.{map_more, room_in, take_all}
use Rattle.type_constraints.specs.Parts.{Parameters_claim, pattern_starts}
use Rattle.type_constraints.proofs.Depending.{depends_pattern}
use Rattle.type_constraints.proofs.Functions.{Row_open, open_none, open_more, open_refused}
use Rattle.type_patterns.proofs.Rows.{split_at}
use Rattle.type_constraints.proofs.patterns.constrain_parameters.Goals as goal

pub loop-param-init : goal.loop-param-init
loop-param-init c = open_none c.args.setting.places c.args.setting.base c.args.setting.depth c.args.lo c.args.begins.now c.args.inference.now c.requires.safe

pub constrain_pattern-requires-clause-room : goal.constrain_pattern-requires-clause-room
constrain_pattern-requires-clause-room c = room_in pattern_of c.args.params.now c.loop-param.param-index _ c.args.lo c.loop-param.at c.args.setting.base c.loop-param-test.true c.loop-param.invariant.next c.requires.room

pub returns-in-Err : goal.returns-in-Err
returns-in-Err c = record { next = tt; begins = tt; ok = tt; err = tt }

pub returns-in-Err-constrain_pattern : goal.returns-in-Err-constrain_pattern
returns-in-Err-constrain_pattern c = record {
  next = tt;
  begins = tt;
  ok = tt;
  err = (let w = split_at pattern_of c.args.params.now c.loop-param.param-index _ c.loop-param-test.true in
      tells c.in-Err-constrain_pattern.error (open_refused c.args.setting.places c.args.setting.base c.args.setting.depth c.args.lo c.loop-param.at (map pattern_of (take c.loop-param.param-index c.args.params.now)) _ c.args.begins.now c.loop-param.begins c.args.inference.now c.loop-param.inference c.constrain_pattern.new.inference c.constrain_pattern.new.inference c.loop-param.invariant
      (map pattern_of c.args.params.now) w.0 w.1) c.in-Err-constrain_pattern.ensures.err);
}

pub returns-in-Err-enter_pattern : goal.returns-in-Err-enter_pattern
returns-in-Err-enter_pattern c = record { next = tt; begins = tt; ok = tt; err = tt }

pub enter_pattern-requires-clause-safe : goal.enter_pattern-requires-clause-safe
enter_pattern-requires-clause-safe c = (c.in-Ok-constrain_pattern.ensures.ok 0).later.safe

pub enter_pattern-requires-clause-room : goal.enter_pattern-requires-clause-room
enter_pattern-requires-clause-room c = room_in pattern_of c.args.params.now c.loop-param.param-index _ c.args.lo c.loop-param.at c.args.setting.base c.loop-param-test.true c.loop-param.invariant.next c.requires.room

pub loop-param-preserved : goal.loop-param-preserved
loop-param-preserved c = subst (λ (l : List FlatPattern). Row_open c.args.setting.places c.args.setting.base c.args.setting.depth c.args.lo c.in-Ok-enter_pattern.next l c.args.begins.now c.push.new.self c.args.inference.now c.enter_pattern.new.inference) (map_more pattern_of c.args.params.now c.loop-param.param-index _ c.loop-param-test.true)
    (open_more c.args.setting.places c.args.setting.base c.args.setting.depth c.args.lo c.loop-param.at (map pattern_of (take c.loop-param.param-index c.args.params.now)) _ c.args.begins.now c.loop-param.begins c.args.inference.now c.loop-param.inference c.constrain_pattern.new.inference c.enter_pattern.new.inference c.loop-param.invariant
    c.in-Ok-enter_pattern.next c.push.new.self c.in-Ok.ensures.ok c.in-Ok-enter_pattern.ensures.next (depends_pattern c.args.setting.places _ _ _ refl) c.in-Ok-constrain_pattern.ensures.ok c.in-Ok-enter_pattern.ensures.ok)

pub returns : goal.returns
returns c = record {
  next = subst (λ l. c.loop-param.at ≡ c.args.lo + all_pattern_numbers (patterns (map pattern_of l))) (take_all c.args.params.now c.loop-param.param-index c.loop-param-test.false) c.loop-param.invariant.next;
  begins = subst (λ l. c.loop-param.begins ≡ c.args.begins.now ++ pattern_starts (patterns (map pattern_of l)) c.args.lo) (take_all c.args.params.now c.loop-param.param-index c.loop-param-test.false) c.loop-param.invariant.noted;
  ok = subst (λ l. Opened c.args.setting.places c.args.setting.base c.args.setting.depth c.args.lo (c.args.lo + all_pattern_numbers (patterns (map pattern_of l))) (Parameters_claim c.args.setting.places (patterns (map pattern_of l)) c.args.lo)
      (λ home. At_home home c.args.setting.depth c.args.lo (all_pattern_numbers (patterns (map pattern_of l)))) (env_patterns (patterns (map pattern_of l)) c.args.lo) c.args.inference.now c.loop-param.inference) (take_all c.args.params.now c.loop-param.param-index c.loop-param-test.false) c.loop-param.invariant.opened;
  err = tt;
}
