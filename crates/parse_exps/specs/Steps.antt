-- What is read of a sort, whatever goes on with it.
use Rattle.std.specs.Prelude.{ℕ, suc, List, Option, None, Ok}
use Rattle.fut_token.specs.declared.token.Fixed.{Fixed}
use Rattle.fut_token.specs.declared.token.Token.{Token}
use Rattle.fut_ast.specs.Sorts.{SourceExp, Atom, Unary, Operands, Operand, Right, Whole, Last, Inside, Replacing}
use Rattle.fut_tree.specs.Names.{names}
use Rattle.fut_grammar.specs.Reading.{◌>>=◌, Gives, Read}
use Rattle.fut_grammar.specs.Phrases.{phrases, read_at, step}
use Rattle.parse_types.specs.Found.{found_as}
use Rattle.parse_atoms.specs.declared.tie.ExpSort.{ExpSort}
use Rattle.parse_atoms.specs.declared.tie.ExpSort.TheVariants as sort
use Rattle.parse_atoms.specs.Tie.{Answer}

abbrev pub Steps : ExpSort → ℕ → List Token → Answer → Type 0
Steps sort.Atom d ts r = Gives (found_as (λ t. t.exp.now)) r (step (phrases (read_at d)) (suc d) Atom ts)
Steps sort.Unary d ts r = Gives (found_as (λ t. t.exp.now)) r (step (phrases (read_at d)) (suc d) Unary ts)
Steps (sort.Operands k) d ts r = Gives (found_as (λ t. t.exp.now)) r (step (phrases (read_at d)) (suc d) (Operands k) ts)
Steps (sort.Operand k) d ts r = Gives (found_as (λ t. t.exp.now)) r (step (phrases (read_at d)) (suc d) (Operand k) ts)
Steps sort.Right d ts r = Gives (found_as (λ t. t.exp.now)) r (step (phrases (read_at d)) (suc d) Right ts)
Steps sort.Whole d ts r = Gives (found_as (λ t. t.exp.now)) r (step (phrases (read_at d)) (suc d) Whole ts)
Steps sort.Last d ts r = Gives (found_as (λ t. (t.exp.now, t.ended))) r (step (phrases (read_at d)) (suc d) Last ts)
Steps sort.Inside d ts r = Gives (found_as (λ t. (t.exp.now, t.section))) r (step (phrases (read_at d)) (suc d) Inside ts)
Steps sort.Replacing d ts r = Gives (found_as (λ t. (names t.path.now, t.exp.now))) r (step (phrases (read_at d)) (suc d) Replacing ts)

-- any expression is first in parentheses as it is, with no operator of a section
abbrev pub inside_alone : Read SourceExp → Read (SourceExp × Option Fixed)
inside_alone r = r >>= λ y. Ok ((y.0, None), y.1, y.2)

-- the same tree under one node more
abbrev pub one_higher : {A : Type 0} → Read A → Read A
one_higher r = r >>= λ y. Ok (y.0, suc y.1, y.2)
