-- The turns of the loop are those of the reading.
use Rattle.std.proofs.Common.{sym, ◌∙◌, nat_lt, arith}
use Rattle.std.proofs.lemmas.Result.{err_from_is_err_and}
use Rattle.fut_grammar.proofs.Loops.{again_ends}
use Rattle.fut_grammar.proofs.Turns.{again_spent_any}
use Rattle.parse_atoms.proofs.SuffixLaws.{again_full, again_longer, again_stops, tested}
use Rattle.parse_atoms.proofs.suffixes.suffixes_behind.Goals as goal
use Rattle.parse_atoms.proofs.suffixes.suffixes_behind.Goals.{then-turns-eq0-via-then-turns-eq0, then-turns-eq0-via-else-turns-eq0+then-is_full}

pub returns-clause-exact : goal.returns-clause-exact
returns-clause-exact g c = again_ends _ _ g.R.ReadSuffix.sort g.R.ReadSuffix.test g.R.ReadSuffix.choose _ _ _ _ _ _ c.behind.invariant.0 (sym c.begins.ensures ∙ c.behind-test.false)

pub returns-then-turns-eq0-clause-exact : goal.returns-then-turns-eq0-clause-exact
returns-then-turns-eq0-clause-exact g c =
    let begun = sym c.begins.ensures ∙ c.behind-test.true in
    rw (c.too_high.ensures, c.goes_on_tighter-goes_on.ensures) (elim c.then-turns-eq0.branch [ then-turns-eq0-via-then-turns-eq0 w ↦ again_spent_any _ _ g.R.ReadSuffix.sort g.R.ReadSuffix.test g.R.ReadSuffix.choose _ _ _ _ _ _ c.behind.invariant.0 begun w.if-turns-eq0.true | then-turns-eq0-via-else-turns-eq0+then-is_full w ↦ again_full _ _ g.R.ReadSuffix.sort g.R.ReadSuffix.test g.R.ReadSuffix.choose _ _ _ _ _ _ c.behind.invariant.0 begun (omega (arith, w.if-turns-eq0.false)) (tested (nat_lt c.args.inner c.behind.found.height) w.is_full.ensures.full c.goes_on_tighter-goes_on.ensures w.if-is_full.true) ])

pub returns-in_err-found-clause-exact : goal.returns-in_err-found-clause-exact
returns-in_err-found-clause-exact g c =
    let p = err_from_is_err_and c.from_residual.result c.from_residual.ensures.1 in
    let begun = sym c.begins.ensures ∙ c.behind-test.true in
    let free = tested (nat_lt c.args.inner c.behind.found.height) c.is_full.ensures.full c.goes_on_tighter-goes_on.ensures c.if-is_full.false in
    rw (p.1, p.2) (again_stops _ _ g.R.ReadSuffix.sort g.R.ReadSuffix.test g.R.ReadSuffix.choose _ _ _ _ _ _ c.behind.invariant.0 begun (omega (arith, c.if-turns-eq0.false)) free _ c.in_err-found.ensures.exact)

pub behind-preserved : goal.behind-preserved
behind-preserved g c =
    let begun = sym c.begins.ensures ∙ c.behind-test.true in
    let free = tested (nat_lt c.args.inner c.behind.found.height) c.is_full.ensures.full c.goes_on_tighter-goes_on.ensures c.if-is_full.false in
    (again_longer _ _ g.R.ReadSuffix.sort g.R.ReadSuffix.test g.R.ReadSuffix.choose _ _ _ _ _ _ c.behind.invariant.0 begun (omega (arith, c.if-turns-eq0.false)) free _ c.in_ok-found.ensures.exact, omega (arith, c.in_ok-found.ensures.low))
