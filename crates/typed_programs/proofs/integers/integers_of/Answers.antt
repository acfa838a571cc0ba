use Rattle.std.proofs.Common.{◌≡◌, ◌+◌, length, sym, ◌∙◌, ap, arith}
use Rattle.std.proofs.lemmas.List.{length-append}
use Rattle.type_infer.specs.Reading.{Comes_to}
use Rattle.typed_programs.proofs.Reading.{integer_tells}
use Rattle.typed_programs.proofs.TypedLaws.{nodes_more}
use Rattle.typed_programs.proofs.integers.integers_of.Goals as goal

pub loop-node-preserved : goal.loop-node-preserved
loop-node-preserved c =
    let more : length c.push.new.self ≡ length c.loop-node.integers + 1 = ap length c.in-Ok.ensures.ok ∙ length-append c.loop-node.integers _ in record {
      long = omega (arith, more, c.loop-node.invariant.long);
      within = omega (arith, c.loop-node-test.true);
      told = nodes_more c.args.inference.now.nodes c.loop-node.integers c.push.new.self c.in-Some.integer c.loop-node.node c.loop-node.invariant.long c.in-Ok.ensures.ok c.loop-node.invariant.told
          (λ t h. integer_tells c.type_at.result c.in-Some.integer (sym c.integer_of.ensures ∙ c.in-Some.is) (Comes_to c.args.inference.now.nodes) t (c.type_at.ensures.made t h));
    }

pub returns-in-None-clause-err : goal.returns-in-None-clause-err
returns-in-None-clause-err c = record { node = c.loop-node.node; form = c.type_at.result; within = omega (arith, c.loop-node-test.true, c.len.ensures); made = c.type_at.ensures.made; none = sym c.integer_of.ensures ∙ c.in-None.is }
