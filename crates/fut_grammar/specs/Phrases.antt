-- Reading a phrase of each sort, over what reads those one deeper.
use Rattle.std.specs.Prelude.{ℕ, zero, suc, max, Bool, true, false, cond, ◌&&◌, ◌||◌, List, [], ◌∷◌, length, Option, Some, None, is_some, Result, Ok, Err, nat_lt, ◌==◌, if◌then◌else◌}
use Rattle.fut_token.specs.declared.token.Fixed.{Fixed}
use Rattle.fut_token.specs.declared.token.Fixed.TheVariants as fixed
use Rattle.fut_token.specs.declared.token.Token.{Token}
use Rattle.fut_ast.specs.declared.node.Spot.{Spot}
use Rattle.fut_ast.specs.declared.node.Ended.{Ended}
use Rattle.fut_ast.specs.declared.node.Ended.TheVariants as ending
use Rattle.fut_ast.specs.declared.exp.Form.TheVariants as form
use Rattle.fut_ast.specs.declared.module.Program.{Program}
use Rattle.fut_ast.specs.Tokens.{spot_of, tail, starts, is_word, is_int}
use Rattle.fut_ast.specs.Operators.{level, right_level, fits, fitting_from, fitting_at, behind_operator, any_operator, section_at}
use Rattle.fut_ast.specs.Sorts.{Tree, SourceExp, Ending, is_node, Sort, Whole_type, Applied_type, Atomic_type, Type_name, Type_argument, Type_field, Whole_pat, Atomic_pat, Pat_field, Head_item, Size_item, Base, Atom, App, Unary, Chain, Range, Updated, Typed, Last, Big, Body, Whole, Operands, Operand, Right, Inside, Replacing, Exp_field, Index_item, Named_item, Written_item, Let_item, Loop_item, Whole_mod, Last_mod, Applied_mod, First_mod, Atomic_mod, Far_mod, Mod_param, Whole_mtype, Atomic_mtype, Far_mtype, With_item, Spec_item, Dec_item, Dec_rest}
use Rattle.fut_ast.specs.Parts.{no_counter, function_let, update_let, Operator, Sub}
use Rattle.fut_ast.specs.Nodes.{exp_at, round_exp_of, left_section, joined}
use Rattle.fut_ast.specs.TypeRows.{named_arrow, unique, array_type, applied_name, unit_type, round_type, no_fields, fields, type_name, size_argument, name_argument, type_argument, type_field}
use Rattle.fut_ast.specs.PatRows.{pat_name, wild, unit_pat, round_pat, no_fields_pat, fields_pat, set_field, short_field, size_head, variable_head, size_name}
use Rattle.fut_ast.specs.ExpRows.{path, number, truth, falsity, unit, no_elements, elements, empty_record, record_of, bare_operator, operator_first, bare_fields, bare_index, set_exp, short_exp, last_replaced, further_replaced, from_index, to_index, backwards, named_from, named_to, named_backwards, written_index, assertion, negation, complement, if_else, function, loop, count, each, while, let_pattern, let_function, let_update}
use Rattle.fut_ast.specs.ModRows.{mod_path, mod_decs, round_mod, mod_function, mod_import, mod_param, mtype_path, mtype_specs, round_mtype, mtype_arrow, with_item, spec_value, spec_type, spec_module, spec_include, plain_dec, local_dec, dec_def, dec_let, dec_entry, dec_type, dec_module, dec_mtype, dec_open, dec_import}
use Rattle.fut_ast.specs.Rows.{of_type, of_pat, of_exp, of_mod, Suffix, arrow, pat_type, indexed, field_name, field_digits, applied, range_to, range_by, with_index, with_field, with_path, ascribed, coerced, applied_mod, sealed, with_types, Far, carry_far, whole, operands, near_operand, far_operand, near_right, far_right, whole_mod, far_mod, far_mtype}
use Rattle.fut_ast.specs.Behind.{begins, begins_argument, begins_atom, begins_operand, begins_named, begins_mod_argument, behind_atom, behind_app, goes_range, continues, goes_on, is_section, passes}
use Rattle.fut_grammar.specs.declared.fault.Fault.{Fault}
use Rattle.fut_grammar.specs.declared.fault.Fault.TheVariants.{TooDeep}
use Rattle.fut_grammar.specs.Reading.{◌>>=◌, Read, refuse, refuse_sort, expect, operator_taken, commas_at, many_at, parts_at, row_at, suffix_at}

-- a phrase as a part: a token that begins it stands at its beginning, and none that goes on with it behind it
unfoldable pub ended : (n : Sort) → Read (Tree n) → Read (Tree n)
ended n read = read >>= λ y. if continues n y.0 y.2 then Err (refuse y.2) else Ok y

unfoldable pub bounded : (n : Sort) → List Token → Read (Tree n) → Read (Tree n)
bounded n ts read = if begins n ts then ended n read else Err (refuse_sort n ts)

-- a phrase that reaches as far as the next tokens go on with it, as one of another sort
unfoldable pub far_at : {n m : Sort} → Far n m → Read (Tree m) → Read (Tree n)
far_at {m = m} e read = ended m read >>= λ y. Ok (carry_far e y.0, y.1, y.2)

-- ---- phrases that are no nodes

module _ (read : (n : Sort) → List Token → Read (Tree n)) where
  unfoldable pub type_argument_at : List Token → Read (Tree Type_argument)
  type_argument_at ts =
      if starts fixed.OpenBracket ts then row_at read (of_type size_argument) ts
      else (if is_word ts then row_at read (of_type name_argument) ts else row_at read (of_type type_argument) ts)

  unfoldable pub pat_field_at : List Token → Read (Tree Pat_field)
  pat_field_at ts = if starts fixed.Equal (tail ts) then row_at read (of_pat set_field) ts else row_at read (of_pat short_field) ts

  unfoldable pub head_at : List Token → Read (Tree Head_item)
  head_at ts = if starts fixed.OpenBracket ts then row_at read (of_pat size_head) ts else row_at read (of_pat variable_head) ts

  unfoldable pub exp_field_at : List Token → Read (Tree Exp_field)
  exp_field_at ts = if starts fixed.Equal (tail ts) then row_at read (of_exp set_exp) ts else row_at read (of_exp short_exp) ts

  unfoldable pub index_at : List Token → Read (Tree Index_item)
  index_at ts =
      if starts fixed.Colon ts then (if starts fixed.Colon (tail ts) then row_at read (of_exp backwards) ts else row_at read (of_exp to_index) ts)
      else row_at read (of_exp from_index) ts

  unfoldable pub named_at : List Token → Read (Tree Named_item)
  named_at ts =
      if starts fixed.Colon ts then (if starts fixed.Colon (tail ts) then row_at read (of_exp named_backwards) ts else row_at read (of_exp named_to) ts)
      else row_at read (of_exp named_from) ts

  unfoldable pub let_at : List Token → Read (Tree Let_item)
  let_at ts =
      if passes update_let ts then row_at read (of_exp let_update) ts
      else (if passes function_let ts then row_at read (of_exp let_function) ts else row_at read (of_exp let_pattern) ts)

  unfoldable pub loop_item_at : List Token → Read (Tree Loop_item)
  loop_item_at ts =
      if starts fixed.KeyWhile ts then row_at read (of_exp while) ts
      else (if passes no_counter (tail ts) then row_at read (of_exp each) ts else row_at read (of_exp count) ts)

  unfoldable pub module_at : List Token → Read (Tree Dec_rest)
  module_at ts = if starts fixed.KeyType (tail ts) then row_at read (of_mod dec_mtype) ts else row_at read (of_mod dec_module) ts

  unfoldable pub other_dec_at : List Token → Read (Tree Dec_rest)
  other_dec_at ts =
      if starts fixed.KeyType ts then row_at read (of_mod dec_type) ts
      else (if starts fixed.KeyModule ts then module_at ts
      else (if starts fixed.KeyOpen ts then row_at read (of_mod dec_open) ts else row_at read (of_mod dec_import) ts))

  unfoldable pub dec_rest_at : List Token → Read (Tree Dec_rest)
  dec_rest_at ts =
      if starts fixed.KeyDef ts then row_at read (of_mod dec_def) ts
      else (if starts fixed.KeyLet ts then row_at read (of_mod dec_let) ts
      else (if starts fixed.KeyEntry ts then row_at read (of_mod dec_entry) ts else other_dec_at ts))

  unfoldable pub flat_at : (n : Sort) → List Token → Read (Tree n)
  flat_at Type_argument ts = type_argument_at ts
  flat_at Type_field ts = row_at read (of_type type_field) ts
  flat_at Pat_field ts = pat_field_at ts
  flat_at Head_item ts = head_at ts
  flat_at Size_item ts = row_at read (of_pat size_name) ts
  flat_at Exp_field ts = exp_field_at ts
  flat_at Index_item ts = index_at ts
  flat_at Named_item ts = named_at ts
  flat_at Written_item ts = row_at read (of_exp written_index) ts
  flat_at Let_item ts = let_at ts
  flat_at Loop_item ts = loop_item_at ts
  flat_at Mod_param ts = row_at read (of_mod mod_param) ts
  flat_at (With_item b) ts = row_at read (of_mod (with_item b)) ts
  flat_at Dec_rest ts = dec_rest_at ts
  flat_at n ts = Err (refuse ts)

-- what reads the parts of a production, where inner reads the nodes in it: those that are no nodes are read at once
module _ (inner : (n : Sort) → List Token → Read (Tree n)) where
  unfoldable pub nodes : (n : Sort) → List Token → Read (Tree n)
  nodes n ts = cond (is_node n) (inner n ts) (Err (refuse ts))

  unfoldable pub items : (n : Sort) → List Token → Read (Tree n)
  items n ts = cond (is_node n) (inner n ts) (bounded n ts (flat_at nodes n ts))

  unfoldable pub phrases : (n : Sort) → List Token → Read (Tree n)
  phrases n ts = cond (is_node n) (inner n ts) (bounded n ts (flat_at items n ts))

-- ---- phrases that are nodes, or begin with one: for trees of a height up to the limit

-- by the operator that stands next
abbrev pub by_operator : {A : Type 0} → Option Fixed → Read A → (Fixed → Read A) → Read A
by_operator None stop go = stop
by_operator (Some o) stop go = go o

-- the operator that stands next between operands: the operator of a section, with ")" behind it, is none where it ends them
abbrev pub operator_between : (section_ends : Bool) → Ended → ℕ → List Token → Option Fixed
operator_between section_ends e k ts = if section_ends && is_some (section_at ts) then None else fitting_at e k ts

abbrev pub atom_suffix : List Token → Suffix Atom Atom
atom_suffix ts = if starts fixed.OpenBracket ts then indexed else (if starts fixed.Dot ts then field_name else field_digits)

abbrev pub with_suffix : List Token → Suffix Updated Updated
with_suffix ts = if starts fixed.OpenBracket (tail ts) then with_index else (if starts fixed.Dot (tail (tail ts)) then with_path else with_field)

abbrev pub goes_typed : List Token → Bool
goes_typed ts = starts fixed.Colon ts || starts fixed.ColonGreater ts

abbrev pub typed_suffix : List Token → Suffix Typed Typed
typed_suffix ts = if starts fixed.Colon ts then ascribed else coerced

module _ (read : (n : Sort) → List Token → Read (Tree n)) (limit : ℕ) where
  -- one suffix, if the test holds
  unfoldable pub once_at : {n m : Sort} → (test : List Token → Bool) → Suffix n m → Spot → (Tree m → Tree n) → Tree m → ℕ → List Token → Read (Tree n)
  once_at test s from same a h ts = if test ts then suffix_at read s limit from a h ts else Ok (same a, h, ts)

  -- suffixes, as long as the test holds
  unfoldable pub again_at : {n : Sort} → (test : List Token → Bool) → (List Token → Suffix n n) → Spot → (turns : ℕ) → Tree n → ℕ → List Token → Read (Tree n)
  again_at test choose from zero a h ts =
      if test ts then (if goes_on (choose ts) a ts then Err (refuse ts) else Err (TooDeep (length ts))) else Ok (a, h, ts)
  again_at test choose from (suc k) a h ts =
      if test ts then (suffix_at read (choose ts) limit from a h ts >>= λ y. again_at test choose from k y.0 y.1 y.2) else Ok (a, h, ts)

  -- types
  unfoldable pub atomic_type_at : List Token → Read (Tree Atomic_type)
  atomic_type_at ts =
      if starts fixed.OpenParen ts then (if starts fixed.CloseParen (tail ts) then row_at read (of_type unit_type) ts else row_at read (of_type round_type) ts)
      else (if starts fixed.CloseBrace (tail ts) then row_at read (of_type no_fields) ts else row_at read (of_type fields) ts)

  unfoldable pub applied_type_at : List Token → Read (Tree Applied_type)
  applied_type_at ts =
      if starts fixed.Star ts then row_at read (of_type unique) ts
      else (if starts fixed.OpenBracket ts then row_at read (of_type array_type) ts
      else (if is_word ts then row_at read (of_type applied_name) ts else atomic_type_at ts))

  abbrev pub begins_named_arrow : List Token → Bool
  begins_named_arrow ts = starts fixed.OpenParen ts && begins_named (tail ts)

  unfoldable pub whole_type_at : List Token → Read (Tree Whole_type)
  whole_type_at ts =
      if begins_named_arrow ts then row_at read (of_type named_arrow) ts
      else (applied_type_at ts >>= λ a. once_at (starts fixed.Arrow) arrow (spot_of ts) (λ t. t) a.0 a.1 a.2)

  -- patterns
  unfoldable pub atomic_pat_at : List Token → Read (Tree Atomic_pat)
  atomic_pat_at ts =
      if is_word ts then row_at read (of_pat pat_name) ts
      else (if starts fixed.Wildcard ts then row_at read (of_pat wild) ts
      else (if starts fixed.OpenParen ts then (if starts fixed.CloseParen (tail ts) then row_at read (of_pat unit_pat) ts else row_at read (of_pat round_pat) ts)
      else (if starts fixed.CloseBrace (tail ts) then row_at read (of_pat no_fields_pat) ts else row_at read (of_pat fields_pat) ts)))

  unfoldable pub whole_pat_at : List Token → Read (Tree Whole_pat)
  whole_pat_at ts = atomic_pat_at ts >>= λ a. once_at (starts fixed.Colon) pat_type (spot_of ts) (λ t. t) a.0 a.1 a.2

  -- parentheses of expressions that are no sections which begin with their operator
  unfoldable pub round_end : Spot → SourceExp → ℕ → List Token → Read SourceExp
  round_end at e h ts =
      if starts fixed.Comma ts then (commas_at read (length (tail ts)) Whole (max 0 h) (tail ts) >>= λ es. expect fixed.CloseParen es.2 >>= λ us. Ok (round_exp_of at.place (e ∷ es.0), suc es.1, us))
      else (expect fixed.CloseParen ts >>= λ us. Ok (round_exp_of at.place (e ∷ []), suc (max 0 h), us))

  unfoldable pub section_end : Fixed → Spot → SourceExp → ℕ → List Token → Read SourceExp
  section_end o at e h ts = operator_taken o ts >>= λ op. expect fixed.CloseParen op.1 >>= λ us. Ok (left_section o at.place e op.0.0.place op.0.1, suc (max 0 h), us)

  abbrev pub plain_end : Option Fixed → Spot → SourceExp → ℕ → List Token → Read SourceExp
  plain_end None at e h ts = round_end at e h ts
  plain_end (Some o) at e h ts = section_end o at e h ts

  unfoldable pub plain_at : List Token → Read SourceExp
  plain_at ts = read Inside (tail ts) >>= λ e. plain_end e.0.1 (spot_of ts) e.0.0 e.1 e.2

  -- sections that begin with their operator
  unfoldable pub operator_section_at : Fixed → List Token → Read SourceExp
  operator_section_at o ts =
      if starts fixed.CloseParen (behind_operator o (tail (tail ts))) then row_at read (of_exp (bare_operator o)) ts
      else row_at read (of_exp (operator_first o)) ts

  abbrev pub section_or_plain : Option Fixed → List Token → Read SourceExp
  section_or_plain None ts = plain_at ts
  section_or_plain (Some o) ts = if is_section (Some o) (tail (tail ts)) then operator_section_at o ts else plain_at ts

  unfoldable pub paren_at : List Token → Read SourceExp
  paren_at ts =
      if starts fixed.CloseParen (tail ts) then row_at read (of_exp unit) ts
      else (if starts fixed.Dot (tail ts) then (if starts fixed.OpenBracket (tail (tail ts)) then row_at read (of_exp bare_index) ts else row_at read (of_exp bare_fields) ts)
      else section_or_plain (any_operator (tail ts)) ts)

  unfoldable pub bracket_at : List Token → Read SourceExp
  bracket_at ts =
      if starts fixed.OpenBracket ts then (if starts fixed.CloseBracket (tail ts) then row_at read (of_exp no_elements) ts else row_at read (of_exp elements) ts)
      else (if starts fixed.CloseBrace (tail ts) then row_at read (of_exp empty_record) ts else row_at read (of_exp record_of) ts)

  unfoldable pub base_at : List Token → Read (Tree Base)
  base_at ts =
      if is_word ts then row_at read (of_exp path) ts
      else (if is_int ts then row_at read (of_exp number) ts
      else (if starts fixed.KeyTrue ts then row_at read (of_exp truth) ts
      else (if starts fixed.KeyFalse ts then row_at read (of_exp falsity) ts
      else (if starts fixed.OpenParen ts then paren_at ts else bracket_at ts))))

  unfoldable pub atom_at : List Token → Read (Tree Atom)
  atom_at ts = base_at ts >>= λ a. again_at behind_atom atom_suffix (spot_of ts) limit a.0 a.1 a.2

  unfoldable pub app_at : List Token → Read (Tree App)
  app_at ts = atom_at ts >>= λ a. again_at begins_argument (λ us. applied) (spot_of ts) limit a.0 a.1 a.2

  unfoldable pub unary_at : List Token → Read (Tree Unary)
  unary_at ts =
      if begins_atom ts then app_at ts
      else (if starts fixed.Minus ts then row_at read (of_exp negation) ts
      else (if starts fixed.Bang ts then row_at read (of_exp complement) ts else row_at read (of_exp assertion) ts))

  -- an operator behind what is as high as may be: its right operand would be too deep
  unfoldable pub operand_too_deep : {A : Type 0} → Fixed → List Token → Read A
  operand_too_deep o ts = operator_taken o ts >>= λ op. if begins (Operand (right_level o)) op.1 then Err (TooDeep (length op.1)) else Err (refuse op.1)

  -- one operator behind what was read, and its right operand
  unfoldable pub operation_at : ℕ → Fixed → Spot → Ending → ℕ → List Token → Read Ending
  operation_at k o from a h ts =
      if behind_app ts then Err (refuse ts)
      else (if nat_lt h limit then parts_at read true (Chain k) (Operator o ∷ Sub (Operand (right_level o)) ∷ []) (λ op b. (joined o from.place op.0.place op.1 a.0 b, ending.Operands (Some o))) h ts else operand_too_deep o ts)

  -- operators of a level or tighter, as long as they stand there and fit
  unfoldable pub operators_at : (section_ends : Bool) → ℕ → Spot → (turns : ℕ) → Ending → ℕ → List Token → Read Ending
  operators_at section_ends k from zero a h ts =
      by_operator (operator_between section_ends a.1 k ts) (Ok (a, h, ts)) (λ o. if behind_app ts then Err (refuse ts) else operand_too_deep o ts)
  operators_at section_ends k from (suc n) a h ts =
      by_operator (operator_between section_ends a.1 k ts) (Ok (a, h, ts)) (λ o. operation_at k o from a h ts >>= λ y. operators_at section_ends k from n y.0 y.1 y.2)

  unfoldable pub graded_at : (section_ends : Bool) → ℕ → List Token → Read Ending
  graded_at section_ends k ts = unary_at ts >>= λ a. operators_at section_ends k (spot_of ts) limit (a.0, ending.Operands None) a.1 a.2

  unfoldable pub chain_at : (k : ℕ) → List Token → Read (Tree (Chain k))
  chain_at k ts = graded_at false k ts

  unfoldable pub operands_at : (k : ℕ) → List Token → Read (Tree (Operands k))
  operands_at k ts = far_at (operands {k = k}) (chain_at k ts)

  -- behind operands: the end of a range, updates, types
  unfoldable pub range_behind : Spot → Ending → ℕ → List Token → Read (Tree Range)
  range_behind from a h ts =
      if starts fixed.DotDot ts then suffix_at read range_by limit from a h ts else once_at goes_range range_to from (λ e. e) a h ts

  unfoldable pub range_at : List Token → Read (Tree Range)
  range_at ts = chain_at 1 ts >>= λ a. range_behind (spot_of ts) a.0 a.1 a.2

  unfoldable pub updates_behind : Spot → Ending → ℕ → List Token → Read (Tree Updated)
  updates_behind from a h ts = again_at (starts fixed.KeyWith) with_suffix from limit a h ts

  unfoldable pub types_behind : Spot → Ending → ℕ → List Token → Read (Tree Typed)
  types_behind from a h ts = again_at goes_typed typed_suffix from limit a h ts

  unfoldable pub typed_behind : Spot → Ending → ℕ → List Token → Read (Tree Typed)
  typed_behind from a h ts = range_behind from a h ts >>= λ b. updates_behind from b.0 b.1 b.2 >>= λ u. types_behind from u.0 u.1 u.2

  unfoldable pub typed_at : List Token → Read (Tree Typed)
  typed_at ts = chain_at 1 ts >>= λ a. typed_behind (spot_of ts) a.0 a.1 a.2

  unfoldable pub updated_at : List Token → Read (Tree Updated)
  updated_at ts = range_at ts >>= λ a. updates_behind (spot_of ts) a.0 a.1 a.2

  -- what begins with a keyword and reaches far
  unfoldable pub form_at : List Token → Read (Tree Big)
  form_at ts =
      if starts fixed.KeyIf ts then row_at read (of_exp if_else) ts
      else (if starts fixed.Backslash ts then row_at read (of_exp function) ts else row_at read (of_exp loop) ts)

  unfoldable pub body_at : List Token → Read (Tree Body)
  body_at ts = if begins_operand ts then typed_at ts else form_at ts

  unfoldable pub row_of_lets : (turns : ℕ) → ℕ → List Token → Read (List (Tree Let_item))
  row_of_lets zero g ts = Err (refuse ts)
  row_of_lets (suc k) g ts =
      read Let_item ts >>= λ b. if starts fixed.KeyLet b.2 then (row_of_lets k (max g b.1) (tail b.2) >>= λ bs. Ok (b.0 ∷ bs.0, bs.1, bs.2))
      else (expect fixed.KeyIn b.2 >>= λ us. if starts fixed.KeyLet us then (row_of_lets k (max g b.1) (tail us) >>= λ bs. Ok (b.0 ∷ bs.0, bs.1, bs.2)) else Ok (b.0 ∷ [], max g b.1, us))

  unfoldable pub lets_at : List Token → Read (Tree Big)
  lets_at ts = row_of_lets (length ts) 0 (tail ts) >>= λ bs. body_at bs.2 >>= λ b. Ok ((exp_at (spot_of ts).place (form.Lets bs.0 b.0.0), b.0.1), max (suc bs.1) b.1, b.2)

  unfoldable pub big_at : List Token → Read (Tree Big)
  big_at ts = if starts fixed.KeyLet ts then lets_at ts else form_at ts

  unfoldable pub last_at : List Token → Read (Tree Last)
  last_at ts = if begins_operand ts then typed_at ts else big_at ts

  unfoldable pub whole_at : List Token → Read (Tree Whole)
  whole_at ts = far_at whole (last_at ts)

  unfoldable pub operand_at : (k : ℕ) → List Token → Read (Tree (Operand k))
  operand_at k ts = if begins_operand ts then far_at (near_operand {k = k}) (chain_at k ts) else far_at (far_operand {k = k}) (big_at ts)

  unfoldable pub right_at : List Token → Read (Tree Right)
  right_at ts = if begins_operand ts then far_at near_right (range_at ts) else far_at far_right (big_at ts)

  unfoldable pub replacing_at : List Token → Read (Tree Replacing)
  replacing_at ts = if starts fixed.Dot (tail ts) then row_at read (of_exp further_replaced) ts else row_at read (of_exp last_replaced) ts

  -- first in parentheses
  unfoldable pub inside_operand : Fixed → Ending → ℕ → List Token → List Token → Read (Tree Inside)
  inside_operand o a h ts us =
      if fits a.1 (suc (level o)) then (bounded (Operands (suc (level o))) ts (far_at (operands {k = suc (level o)}) (Ok (a, h, us))) >>= λ y. Ok ((y.0, Some o), y.1, y.2))
      else Err (refuse (behind_operator o (tail us)))

  unfoldable pub inside_whole : List Token → Read (Tree Last) → Read (Tree Inside)
  inside_whole ts read_last = bounded Whole ts (far_at whole read_last) >>= λ y. Ok ((y.0, None), y.1, y.2)

  unfoldable pub inside_at : List Token → Read (Tree Inside)
  inside_at ts =
      if begins_operand ts then (graded_at true 1 ts >>= λ a. by_operator (fitting_from a.0.1 (section_at a.2)) (inside_whole ts (typed_behind (spot_of ts) a.0 a.1 a.2)) (λ o. inside_operand o a.0 a.1 ts a.2))
      else inside_whole ts (big_at ts)

  -- modules
  unfoldable pub atomic_mod_at : List Token → Read (Tree Atomic_mod)
  atomic_mod_at ts =
      if is_word ts then row_at read (of_mod mod_path) ts
      else (if starts fixed.OpenBrace ts then row_at read (of_mod mod_decs) ts
      else (if starts fixed.OpenParen ts then row_at read (of_mod round_mod) ts else far_at far_mod (row_at read (of_mod mod_function) ts)))

  unfoldable pub first_mod_at : List Token → Read (Tree First_mod)
  first_mod_at ts = if starts fixed.KeyImport ts then row_at read (of_mod mod_import) ts else atomic_mod_at ts

  unfoldable pub applied_mod_at : List Token → Read (Tree Applied_mod)
  applied_mod_at ts = first_mod_at ts >>= λ a. once_at begins_mod_argument applied_mod (spot_of ts) (λ m. m) a.0 a.1 a.2

  unfoldable pub last_mod_at : List Token → Read (Tree Last_mod)
  last_mod_at ts = applied_mod_at ts >>= λ a. once_at (starts fixed.Colon) sealed (spot_of ts) (λ m. (m, false)) a.0 a.1 a.2

  unfoldable pub whole_mod_at : List Token → Read (Tree Whole_mod)
  whole_mod_at ts = far_at whole_mod (last_mod_at ts)

  -- module types
  unfoldable pub atomic_mtype_at : (b : Bool) → List Token → Read (Tree (Atomic_mtype b))
  atomic_mtype_at b ts =
      if is_word ts then row_at read (of_mod (mtype_path b)) ts
      else (if starts fixed.OpenBrace ts then row_at read (of_mod (mtype_specs b)) ts
      else (if begins_named (tail ts) then far_at (far_mtype b) (row_at read (of_mod (mtype_arrow b)) ts) else row_at read (of_mod (round_mtype b)) ts))

  unfoldable pub whole_mtype_at : (b : Bool) → List Token → Read (Tree (Whole_mtype b))
  whole_mtype_at b ts = atomic_mtype_at b ts >>= λ a. once_at (starts fixed.KeyWith) (with_types b) (spot_of ts) (λ t. t) a.0 a.1 a.2

  -- members and declarations
  unfoldable pub spec_at : List Token → Read (Tree Spec_item)
  spec_at ts =
      if starts fixed.KeyVal ts then row_at read (of_mod spec_value) ts
      else (if starts fixed.KeyType ts then row_at read (of_mod spec_type) ts
      else (if starts fixed.KeyModule ts then row_at read (of_mod spec_module) ts else row_at read (of_mod spec_include) ts))

  unfoldable pub dec_at : List Token → Read (Tree Dec_item)
  dec_at ts = if starts fixed.KeyLocal ts then row_at read (of_mod local_dec) ts else row_at read (of_mod plain_dec) ts

  unfoldable pub step : (n : Sort) → List Token → Read (Tree n)
  step Whole_type ts = whole_type_at ts
  step Applied_type ts = applied_type_at ts
  step Atomic_type ts = atomic_type_at ts
  step Type_name ts = row_at read (of_type type_name) ts
  step Whole_pat ts = whole_pat_at ts
  step Atomic_pat ts = atomic_pat_at ts
  step Base ts = base_at ts
  step Atom ts = atom_at ts
  step App ts = app_at ts
  step Unary ts = unary_at ts
  step (Chain k) ts = chain_at k ts
  step Range ts = range_at ts
  step Updated ts = updated_at ts
  step Typed ts = typed_at ts
  step Last ts = last_at ts
  step Big ts = big_at ts
  step Whole ts = whole_at ts
  step (Operands k) ts = operands_at k ts
  step (Operand k) ts = operand_at k ts
  step Right ts = right_at ts
  step Inside ts = inside_at ts
  step Replacing ts = replacing_at ts
  step Whole_mod ts = whole_mod_at ts
  step Last_mod ts = last_mod_at ts
  step Applied_mod ts = applied_mod_at ts
  step First_mod ts = first_mod_at ts
  step Atomic_mod ts = atomic_mod_at ts
  step Far_mod ts = row_at read (of_mod mod_function) ts
  step (Whole_mtype b) ts = whole_mtype_at b ts
  step (Atomic_mtype b) ts = atomic_mtype_at b ts
  step (Far_mtype b) ts = row_at read (of_mod (mtype_arrow b)) ts
  step Spec_item ts = spec_at ts
  step Dec_item ts = dec_at ts
  step n ts = Err (refuse ts)

-- a phrase of a height up to d
unfoldable pub read_at : (d : ℕ) → (n : Sort) → List Token → Read (Tree n)
read_at zero n ts = if begins n ts then Err (TooDeep (length ts)) else Err (refuse_sort n ts)
read_at (suc d) n ts = bounded n ts (step (phrases (read_at d)) (suc d) n ts)

-- all of the tokens
unfoldable pub program_at : List Token → Result (Program × ℕ) Fault
program_at ts = many_at (nodes (read_at 201)) (length ts) Dec_item 0 ts >>= λ ds. if length ds.2 == 0 then Ok (record { decs = ds.0 }, ds.1) else Err (refuse ds.2)
