-- The end of a range, behind what nothing goes on with.
use Rattle.std.proofs.Common.{nat_lt, sym, ◌∙◌, refl}
use Rattle.fut_grammar.specs.Phrases.{phrases, read_at}
use Rattle.parse_atoms.proofs.SuffixLaws.{tested}
use Rattle.parse_exps.proofs.SuffixLaws.{no_range, range_by_step, range_full, range_to_end}
use Rattle.parse_exps.proofs.ranges.end_behind.Goals as goal

pub returns-then-not-goes_on_to_range : goal.returns-then-not-goes_on_to_range
returns-then-not-goes_on_to_range g c =
    record { exact = no_range (phrases (read_at c.args.inner)) c.args.inner c.args.at c.args.first.height c.args.first.rest.now (c.args.first.tree.exp.now, c.args.first.tree.ended) (sym c.goes_on_to_range.ensures ∙ c.if-not-goes_on_to_range.true); low = c.requires.room.1 }

pub returns-then-is_full : goal.returns-then-is_full
returns-then-is_full g c =
    let full = tested (nat_lt c.args.inner c.args.first.height) c.is_full.ensures.full c.goes_on_chain-goes_on.ensures c.if-is_full.true in
    record { exact = rw (c.too_high.ensures, c.goes_on_chain-goes_on.ensures) (range_full (phrases (read_at c.args.inner)) c.args.inner c.args.at c.args.first.height c.args.first.rest.now (c.args.first.tree.exp.now, c.args.first.tree.ended) (sym c.goes_on_to_range.ensures ∙ c.if-not-goes_on_to_range.false) full); low = tt }

pub end_by-requires : goal.end_by-requires
end_by-requires g c =
    λ k. ((refl, tt), (sym c.starts_with.ensures ∙ c.if-starts_with.true, (c.requires.law, (c.requires.room.0, c.is_full.ensures.free c.if-is_full.false))))

pub end_to-requires : goal.end_to-requires
end_to-requires g c = λ k. ((refl, tt), (c.requires.law, (c.requires.room.0, c.is_full.ensures.free c.if-is_full.false)))

pub returns-then-starts_with : goal.returns-then-starts_with
returns-then-starts_with g c =
    let free = tested (nat_lt c.args.inner c.args.first.height) c.is_full.ensures.full c.goes_on_chain-goes_on.ensures c.if-is_full.false in
    record { exact = rw (range_by_step (phrases (read_at c.args.inner)) c.args.inner c.args.at c.args.first.height c.args.first.rest.now (c.args.first.tree.exp.now, c.args.first.tree.ended) (sym c.starts_with.ensures ∙ c.if-starts_with.true) free) c.end_by.ensures.exact; low = c.end_by.ensures.low }

pub returns-else-starts_with : goal.returns-else-starts_with
returns-else-starts_with g c =
    let free = tested (nat_lt c.args.inner c.args.first.height) c.is_full.ensures.full c.goes_on_chain-goes_on.ensures c.if-is_full.false in
    record { exact = rw (range_to_end (phrases (read_at c.args.inner)) c.args.inner c.args.at c.args.first.height c.args.first.rest.now (c.args.first.tree.exp.now, c.args.first.tree.ended) (sym c.goes_on_to_range.ensures ∙ c.if-not-goes_on_to_range.false) (sym c.starts_with.ensures ∙ c.if-starts_with.false) free) c.end_to.ensures.exact; low = c.end_to.ensures.low }
