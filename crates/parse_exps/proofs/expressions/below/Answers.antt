-- By the sort; what is replaced in a record is one node higher as a sort of its own.
use Rattle.std.proofs.Common.{◌≡◌, ℕ, suc, true, List, sym, subst, refl}
use Rattle.fut_token.specs.declared.token.Token.{Token}
use Rattle.fut_ast.specs.Behind.{begins}
use Rattle.parse_atoms.specs.declared.tie.ExpSort.{ExpSort}
use Rattle.parse_atoms.specs.declared.tie.ExpSort.TheVariants as sort
use Rattle.parse_atoms.specs.Tie.{Answer, sort_of}
use Rattle.fut_grammar.specs.Phrases.{phrases, read_at, step}
use Rattle.parse_exps.specs.Steps.{Steps}
use Rattle.parse_exps.proofs.SuffixLaws.{replacing_as}
use Rattle.parse_exps.proofs.expressions.below.Goals as goal

as_sort : (t s : ExpSort) (d : ℕ) (ts : List Token) (r : Answer) → s ≡ t → Steps t d ts r → Steps s d ts r
as_sort t s d ts r is read = subst (λ (q : ExpSort). Steps q d ts r) (sym is) read

pub inside_below-requires : goal.inside_below-requires
inside_below-requires g c =
    λ k. ((refl, tt), (subst (λ (s : ExpSort). begins (sort_of s) c.args.tokens.now ≡ true) c.in-Inside.is c.requires.begun, (c.requires.law, c.requires.room)))

pub returns-in-Atom : goal.returns-in-Atom
unfolding step
returns-in-Atom g c = record { exact = as_sort sort.Atom c.args.sort c.args.inner c.args.tokens.now c.alone.result c.in-Atom.is (c.alone.ensures.exact _ c.atom_below.ensures.exact); low = c.alone.ensures.low _ c.atom_below.ensures.low }

pub returns-in-Unary : goal.returns-in-Unary
unfolding step
returns-in-Unary g c = record { exact = as_sort sort.Unary c.args.sort c.args.inner c.args.tokens.now c.alone-in-Unary.result c.in-Unary.is (c.alone-in-Unary.ensures.exact _ c.unary_below.ensures.exact); low = c.alone-in-Unary.ensures.low _ c.unary_below.ensures.low }

pub returns-in-Operands : goal.returns-in-Operands
unfolding step
returns-in-Operands g c = record { exact = as_sort (sort.Operands c.in-Operands.least) c.args.sort c.args.inner c.args.tokens.now c.alone-in-Operands.result c.in-Operands.is (c.alone-in-Operands.ensures.exact _ c.operands_below.ensures.exact); low = c.alone-in-Operands.ensures.low _ c.operands_below.ensures.low }

pub returns-in-Operand : goal.returns-in-Operand
unfolding step
returns-in-Operand g c = record { exact = as_sort (sort.Operand c.in-Operand.least) c.args.sort c.args.inner c.args.tokens.now c.alone-in-Operand.result c.in-Operand.is (c.alone-in-Operand.ensures.exact _ c.operand_below.ensures.exact); low = c.alone-in-Operand.ensures.low _ c.operand_below.ensures.low }

pub returns-in-Right : goal.returns-in-Right
unfolding step
returns-in-Right g c = record { exact = as_sort sort.Right c.args.sort c.args.inner c.args.tokens.now c.alone-in-Right.result c.in-Right.is (c.alone-in-Right.ensures.exact _ c.right_below.ensures.exact); low = c.alone-in-Right.ensures.low _ c.right_below.ensures.low }

pub returns-in-Whole : goal.returns-in-Whole
unfolding step
returns-in-Whole g c = record { exact = as_sort sort.Whole c.args.sort c.args.inner c.args.tokens.now c.alone-in-Whole.result c.in-Whole.is (c.alone-in-Whole.ensures.exact _ c.whole_below.ensures.exact); low = c.alone-in-Whole.ensures.low _ c.whole_below.ensures.low }

pub returns-in-Last : goal.returns-in-Last
unfolding step
returns-in-Last g c = record { exact = as_sort sort.Last c.args.sort c.args.inner c.args.tokens.now c.with_ending.result c.in-Last.is (c.with_ending.ensures.exact _ c.last_below.ensures.exact); low = c.with_ending.ensures.low _ c.last_below.ensures.low }

pub returns-in-Inside : goal.returns-in-Inside
unfolding step
returns-in-Inside g c = record { exact = as_sort sort.Inside c.args.sort c.args.inner c.args.tokens.now c.with_section.result c.in-Inside.is (c.with_section.ensures.exact _ c.inside_below.ensures.exact); low = c.with_section.ensures.low _ c.inside_below.ensures.low }

pub returns-in-Replacing : goal.returns-in-Replacing
unfolding step
returns-in-Replacing g c =
    let read : Steps sort.Replacing c.args.inner c.args.tokens.now c.with_path.result = rw (replacing_as (phrases (read_at c.args.inner)) (suc c.args.inner) c.args.tokens.now) (c.with_path.ensures.exact _ c.replacement.ensures.exact) in
    record { exact = as_sort sort.Replacing c.args.sort c.args.inner c.args.tokens.now c.with_path.result c.in-Replacing.is read; low = c.with_path.ensures.low }
