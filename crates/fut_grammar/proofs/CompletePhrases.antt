-- What is spelled as a phrase is read so.
use Rattle.std.proofs.Common.{◌≡◌, ℕ, zero, suc, ◌≤◌, ◌<◌, true, false, List}
use Rattle.fut_token.specs.declared.token.Token.{Token}
use Rattle.fut_ast.specs.Sorts.{Tree, Sort, Whole_type, Applied_type, Atomic_type, Type_name, Whole_pat, Atomic_pat, Base, Atom, App, Unary, Chain, Range, Updated, Typed, Last, Big, Whole, Operands, Operand, Right, Inside, Replacing, Whole_mod, Last_mod, Applied_mod, First_mod, Atomic_mod, Far_mod, Whole_mtype, Atomic_mtype, Far_mtype, Spec_item, Dec_item}
use Rattle.fut_ast.specs.Grammar.{Spells, Phrase, phrase}
use Rattle.fut_ast.specs.Behind.{begins, continues}
use Rattle.fut_grammar.specs.Reading.{Read}
use Rattle.fut_grammar.specs.Phrases.{phrases, step, read_at}
use Rattle.fut_grammar.proofs.Bools.{and_left}
use Rattle.fut_grammar.proofs.Post.{Gets, too_deep}
use Rattle.fut_grammar.proofs.Shorter.{node_high}
use Rattle.fut_grammar.proofs.Choices.{bounded_gets, node_sort, readable, when_true}
use Rattle.fut_grammar.proofs.CompleteItems.{phrases_gets}
use Rattle.fut_grammar.proofs.CompleteTypes.{applied_type_gets, atomic_pat_gets, atomic_type_gets, type_name_gets, whole_pat_gets, whole_type_gets}
use Rattle.fut_grammar.proofs.CompleteAtoms.{app_gets, atom_gets, base_gets, unary_gets}
use Rattle.fut_grammar.proofs.CompleteExps.{big_gets, chain_gets, inside_gets, last_gets, operand_gets, operands_gets, range_gets, replacing_gets, right_gets, typed_gets, updated_gets, whole_gets}
use Rattle.fut_grammar.proofs.CompleteMods.{applied_mod_gets, arrow_mtype_gets, atomic_mod_gets, atomic_mtype_gets, dec_gets, first_mod_gets, function_mod_gets, last_mod_gets, spec_gets, whole_mod_gets, whole_mtype_gets}

module _ (read : (n : Sort) → List Token → Read (Tree n)) (limit : ℕ) (given_read : (n : Sort) (p : Tree n) (h : ℕ) (ts rest : List Token) → readable n ≡ true → Phrase n p h ts rest → Gets (limit ≤ h) (read n ts) (p, h, rest)) where
  step_gets : (n : Sort) {p : Tree n} {h : ℕ} {ts rest : List Token} → node_sort n ≡ true → Spells n p h ts rest → continues n p rest ≡ false → Gets (limit < h) (step read limit n ts) (p, h, rest)
  unfolding step
  step_gets Whole_type i x q = whole_type_gets read limit given_read x q
  step_gets Applied_type i x q = applied_type_gets read limit given_read x
  step_gets Atomic_type i x q = atomic_type_gets read limit given_read x
  step_gets Type_name i x q = type_name_gets read limit given_read x
  step_gets Whole_pat i x q = whole_pat_gets read limit given_read x q
  step_gets Atomic_pat i x q = atomic_pat_gets read limit given_read x
  step_gets Base i x q = base_gets read limit given_read x
  step_gets Atom i x q = atom_gets read limit given_read x q
  step_gets App i x q = app_gets read limit given_read x q
  step_gets Unary i x q = unary_gets read limit given_read x q
  step_gets (Chain k) i x q = chain_gets read limit given_read k x q
  step_gets Range i x q = range_gets read limit given_read x q
  step_gets Updated i x q = updated_gets read limit given_read x q
  step_gets Typed i x q = typed_gets read limit given_read x q
  step_gets Last i x q = last_gets read limit given_read x q
  step_gets Big i x q = big_gets read limit given_read x q
  step_gets Whole i x q = whole_gets read limit given_read x
  step_gets (Operands k) i x q = operands_gets read limit given_read k x
  step_gets (Operand k) i x q = operand_gets read limit given_read k x
  step_gets Right i x q = right_gets read limit given_read x
  step_gets Inside i x q = inside_gets read limit given_read x
  step_gets Replacing i x q = replacing_gets read limit given_read x
  step_gets Whole_mod i x q = whole_mod_gets read limit given_read x
  step_gets Last_mod i x q = last_mod_gets read limit given_read x q
  step_gets Applied_mod i x q = applied_mod_gets read limit given_read x q
  step_gets First_mod i x q = first_mod_gets read limit given_read x
  step_gets Atomic_mod i x q = atomic_mod_gets read limit given_read x
  step_gets Far_mod i x q = function_mod_gets read limit given_read x
  step_gets (Whole_mtype b) i x q = whole_mtype_gets read limit given_read x q
  step_gets (Atomic_mtype b) i x q = atomic_mtype_gets read limit given_read x
  step_gets (Far_mtype b) i x q = arrow_mtype_gets read limit given_read x
  step_gets Spec_item i x q = spec_gets read limit given_read x
  step_gets Dec_item i x q = dec_gets read limit given_read x
  step_gets n i x q = absurd cc

-- up to a height of d nothing is too deep
pub complete : (d : ℕ) (n : Sort) (p : Tree n) (h : ℕ) (ts rest : List Token) → node_sort n ≡ true → Phrase n p h ts rest → Gets (d < h) (read_at d n ts) (p, h, rest)
unfolding read_at
complete zero n p h ts rest i (phrase b x q) = when_true (begins n ts) _ b (too_deep (node_high (and_left _ _ i) x))
complete (suc d) n p h ts rest i (phrase b x q) = bounded_gets n ts rest b q (step_gets (phrases (read_at d)) (suc d) (λ m v k us vs r y. phrases_gets (read_at d) (suc d) (complete d) m v k us vs r y) n i x q)
