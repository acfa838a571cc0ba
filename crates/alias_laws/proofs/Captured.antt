-- What a term names from outside, by the checker's sets and by whole ones.
use Rattle.std.proofs.Common.{Option}
use Rattle.fut_ast.specs.Sorts.{Text}
use Rattle.fut_scalar.specs.declared.place.BindId.{BindId}
use Rattle.fut_flat.specs.declared.prim.Ref.{Ref}
use Rattle.fut_flat.specs.declared.prim.Ref.TheVariants as ref
use Rattle.fut_flat.specs.Terms.{Operation, Integer, Truth, Tuple_of, Record_of, Array_of, Binary, Negate, Complement, Index, Project, Update, Replace, Ascribe, Coerce, Declared, Assert, Range, Use, Strict, Lambda, Apply, Let, If, Loop, Terms, no_term, term_and, Counted, Over, While}
use Rattle.fut_flat.specs.Erased.{FlatTerm, FlatTurns}
use Rattle.fut_typing.specs.Names.{Names}
use Rattle.fut_aliases.specs.Aliases.{Set}
use Rattle.fut_aliases.specs.Values.{Value}
use Rattle.fut_aliases.specs.Patterns.{Scope}
use Rattle.fut_aliases.specs.Capturing.{Capture, Path, Names_of, captures, capture_of, field_capture, one_field, capture, all_captured, turns_captured}
use Rattle.alias_laws.proofs.Worlds.{World, SetR, empties, unions}
use Rattle.alias_laws.proofs.Values.{ValueR, aliases_are, part_named_is}
use Rattle.alias_laws.proofs.Stepping.{plain}
use Rattle.alias_laws.proofs.Calling.{MaybeR, no_value_is, a_value_is, ScopeR}

data CaptureR (w : World) : Capture → Capture → Type 0 where
  paths : {v v' : Value} → ValueR (plain w) v v' → CaptureR w (Path v) (Path v')
  names : {s s' : Set} → SetR (plain w) s s' → CaptureR w (Names_of s) (Names_of s')

captures_are : {w : World} {c c' : Capture} → CaptureR w c c' → SetR (plain w) (captures c) (captures c')
captures_are (paths p) = aliases_are p
captures_are (names p) = p

capture_of_is : {w : World} {o o' : Option Value} → MaybeR w o o' → CaptureR w (capture_of o) (capture_of o')
capture_of_is {w} no_value_is = names (empties (plain w))
capture_of_is (a_value_is p) = paths p

field_is : {w : World} (N : Names) (f : Text) {c c' : Capture} → CaptureR w c c' → CaptureR w (field_capture N f c) (field_capture N f c')
field_is N f (paths p) = paths (part_named_is N f p)
field_is N f (names p) = names p

one_field_is : {w : World} (N : Names) (op : Operation Ref BindId) {c c' : Capture} → CaptureR w c c' → CaptureR w (one_field N op c) (one_field N op c')
one_field_is N (Project f) p = field_is N f p
one_field_is N Tuple_of p = names (captures_are p)
one_field_is N (Record_of fs) p = names (captures_are p)
one_field_is N (Index is) p = names (captures_are p)
one_field_is N Update p = names (captures_are p)
one_field_is N (Replace f) p = names (captures_are p)
one_field_is N (Ascribe e) p = names (captures_are p)
one_field_is N (Coerce e) p = names (captures_are p)
one_field_is N (Declared e) p = names (captures_are p)
one_field_is N (Integer c s) p = names (captures_are p)
one_field_is N (Truth b) p = names (captures_are p)
one_field_is N Array_of p = names (captures_are p)
one_field_is N (Binary op) p = names (captures_are p)
one_field_is N Negate p = names (captures_are p)
one_field_is N Complement p = names (captures_are p)
one_field_is N Assert p = names (captures_are p)
one_field_is N (Range stepped end) p = names (captures_are p)

module _ (N : Names) {w : World} {scope scope' : Scope} (s : ScopeR w scope scope') where
  mutual
    unfolding capture all_captured turns_captured

    capture_is : (e : FlatTerm) → CaptureR w (capture N scope e) (capture N scope' e)
    capture_is (Use (ref.Bound b) at k) = capture_of_is (s b.0)
    capture_is (Use (ref.Prim p) at k) = names (empties (plain w))
    capture_is (Use (ref.Scalar p) at k) = names (empties (plain w))
    capture_is (Strict op mark no_term) = names (empties (plain w))
    capture_is (Strict op mark (term_and t no_term)) = one_field_is N op (capture_is t)
    capture_is (Strict op mark (term_and t (term_and u ts))) = names (unions (captures_are (capture_is t)) (all_captured_are (term_and u ts)))
    capture_is (Lambda ps e) = names (captures_are (capture_is e))
    capture_is (Apply f e) = names (unions (captures_are (capture_is f)) (captures_are (capture_is e)))
    capture_is (Let b v e) = names (unions (captures_are (capture_is v)) (captures_are (capture_is e)))
    capture_is (If c t e) = names (unions (captures_are (capture_is c)) (unions (captures_are (capture_is t)) (captures_are (capture_is e))))
    capture_is (Loop mark sizes p first turns body) = names (unions (captures_are (capture_is first)) (unions (turns_captured_are turns) (captures_are (capture_is body))))

    all_captured_are : (ts : Terms Ref BindId) → SetR (plain w) (all_captured N scope ts) (all_captured N scope' ts)
    all_captured_are no_term = empties (plain w)
    all_captured_are (term_and t ts) = unions (captures_are (capture_is t)) (all_captured_are ts)

    turns_captured_are : (turns : FlatTurns) → SetR (plain w) (turns_captured N scope turns) (turns_captured N scope' turns)
    turns_captured_are (Counted i m) = captures_are (capture_is m)
    turns_captured_are (Over p e) = captures_are (capture_is e)
    turns_captured_are (While c) = captures_are (capture_is c)

  pub captured_are : (e : FlatTerm) → SetR (plain w) (captures (capture N scope e)) (captures (capture N scope' e))
  captured_are e = captures_are (capture_is e)
