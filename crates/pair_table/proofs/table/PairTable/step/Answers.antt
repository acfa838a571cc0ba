use Rattle.std.proofs.Common.{rules, ◌∙◌, ap, sym}
use Rattle.pair_table.specs.Pairs.{op_of}
use Rattle.pair_table.proofs.Keeps.{does_keep}
use Rattle.pair_table.proofs.table.PairTable.step.Goals as goal

pub store-requires : goal.store-requires
store-requires c = let is = c.self.invariant.4 ∙ c.in-Store.is in (search rules, search rules, does_keep _ _ _ _ _ _ _ _ _ (λ n. ap (λ o. op_of o n c.args.word) (sym is)) (search rules) c.seat.invariant.1)

pub fetch_add-requires : goal.fetch_add-requires
fetch_add-requires c = let is = c.self.invariant.4 ∙ c.in-Add.is in (search rules, search rules, does_keep _ _ _ _ _ _ _ _ _ (λ n. ap (λ o. op_of o n c.args.word) (sym is)) (search rules) c.seat.invariant.1)

pub fetch_and-requires : goal.fetch_and-requires
fetch_and-requires c = let is = c.self.invariant.4 ∙ c.in-And.is in (search rules, search rules, does_keep _ _ _ _ _ _ _ _ _ (λ n. ap (λ o. op_of o n c.args.word) (sym is)) (search rules) c.seat.invariant.1)

pub fetch_or-requires : goal.fetch_or-requires
fetch_or-requires c = let is = c.self.invariant.4 ∙ c.in-Or.is in (search rules, search rules, does_keep _ _ _ _ _ _ _ _ _ (λ n. ap (λ o. op_of o n c.args.word) (sym is)) (search rules) c.seat.invariant.1)

pub fetch_xor-requires : goal.fetch_xor-requires
fetch_xor-requires c = let is = c.self.invariant.4 ∙ c.in-Xor.is in (search rules, search rules, does_keep _ _ _ _ _ _ _ _ _ (λ n. ap (λ o. op_of o n c.args.word) (sym is)) (search rules) c.seat.invariant.1)

pub fetch_max-requires : goal.fetch_max-requires
fetch_max-requires c = let is = c.self.invariant.4 ∙ c.in-Max.is in (search rules, search rules, does_keep _ _ _ _ _ _ _ _ _ (λ n. ap (λ o. op_of o n c.args.word) (sym is)) (search rules) c.seat.invariant.1)

pub fetch_min-requires : goal.fetch_min-requires
fetch_min-requires c = let is = c.self.invariant.4 ∙ c.in-Min.is in (search rules, search rules, does_keep _ _ _ _ _ _ _ _ _ (λ n. ap (λ o. op_of o n c.args.word) (sym is)) (search rules) c.seat.invariant.1)
