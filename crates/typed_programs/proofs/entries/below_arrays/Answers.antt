use Rattle.std.proofs.Common.{ℕ, suc, ◌+◌, ◌≡◌, length, sym, ◌∙◌, subst, arith}
use Rattle.type_infer.specs.Reading.{Generally}
use Rattle.typed_programs.specs.Entries.{Levels_are}
use Rattle.typed_programs.proofs.EntryTypes.{level_within, levels_more, no_level}
use Rattle.typed_programs.proofs.entries.below_arrays.Goals as goal

suc_is : (n m : ℕ) → m ≡ n + 1 → suc n ≡ m
suc_is n m e = omega (arith, e)

pub returns-in-None-clause-last : goal.returns-in-None-clause-last
returns-in-None-clause-last c = no_level (Generally c.args.inference.now.nodes) c.loop.below.node c.general_type_at.result c.general_type_at.ensures.made (sym c.array_of.ensures ∙ c.in-None.is)

pub loop-preserved : goal.loop-preserved
loop-preserved c =
    let is = sym c.array_of.ensures ∙ c.in-Some.is in
    let one : suc c.loop.below.rank ≡ c.in-Some-checked_add.rank = suc_is c.loop.below.rank c.in-Some-checked_add.rank c.in-Some-checked_add.ensures.1 in record {
      within = level_within (length c.args.inference.now.nodes) c.loop.below.node c.general_type_at.result c.in-Some.rows is c.general_type_at.ensures.within;
      levels = subst (λ k. Levels_are (Generally c.args.inference.now.nodes) c.args.node k c.in-Some.rows) one
          (levels_more (Generally c.args.inference.now.nodes) c.args.node c.loop.below.rank c.loop.below.node c.in-Some.rows c.general_type_at.result c.loop.invariant.levels c.general_type_at.ensures.made is);
    }
