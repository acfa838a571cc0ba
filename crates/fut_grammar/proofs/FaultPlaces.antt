-- Where a fault stands: what holds of the tokens that are read, and with any tokens of their tail, holds of those from the
-- fault on, and of those behind what was read.
use Rattle.std.proofs.Common.{◌≡◌, ℕ, zero, suc, max, Bool, true, false, cond, ◌||◌, eqb, ltb, leb, List, [], ◌∷◌, length, Option, Some, None, refl, sym, subst}
use Rattle.fut_scalar.specs.declared.scalar.IntType.{IntType}
use Rattle.fut_token.specs.declared.token.Fixed.{Fixed}
use Rattle.fut_token.specs.declared.token.Fixed.TheVariants as fixed
use Rattle.fut_token.specs.declared.token.TokenKind.{TokenKind}
use Rattle.fut_token.specs.declared.token.TokenKind.TheVariants as kind
use Rattle.fut_token.specs.declared.token.Token.{Token}
use Rattle.fut_ast.specs.declared.node.Spot.{Spot}
use Rattle.fut_ast.specs.declared.node.What.{What}
use Rattle.fut_ast.specs.declared.node.What.TheVariants as what
use Rattle.fut_ast.specs.declared.node.End.{End}
use Rattle.fut_ast.specs.declared.pat.Head.{Head}
use Rattle.fut_ast.specs.declared.ty.SizeExp.{SizeExp}
use Rattle.fut_ast.specs.Tokens.{is_fixed, spot_of, tail, starts, starts_tight, is_word, is_int, is_text}
use Rattle.fut_ast.specs.Operators.{level, right_level, fits, fitting_from, behind_operator, any_operator, section_at}
use Rattle.fut_ast.specs.declared.node.Ended.TheVariants as ending
use Rattle.fut_ast.specs.LeftOut.{begins_left_out, is_char, is_constructor}
use Rattle.fut_ast.specs.Nodes.{joined, has_wild}
use Rattle.fut_ast.specs.Sorts.{Tree, SourceExp, Ending, is_node, Sort, Whole_type, Applied_type, Atomic_type, Type_name, Type_argument, Type_field, Whole_pat, Atomic_pat, Pat_field, Head_item, Size_item, Base, Atom, App, Unary, Chain, Range, Updated, Typed, Last, Big, Whole, Operands, Operand, Right, Inside, Replacing, Exp_field, Index_item, Named_item, Written_item, Let_item, Loop_item, Whole_mod, Last_mod, Applied_mod, First_mod, Atomic_mod, Far_mod, Mod_param, Whole_mtype, Atomic_mtype, Far_mtype, With_item, Spec_item, Dec_item, Dec_rest, Text, Path}
use Rattle.fut_ast.specs.Parts.{Part, Look, Test, Sign, Tight, Word, Names, Number, One, Quoted, Digits, Variable, Size, Operator, Sub, Commas, Many, Several, Maybe, Optional, Upto, End_sign, Argument, Loop_start, Value, Builds, no_counter, function_let, update_let, without}
use Rattle.fut_ast.specs.Rows.{Row, parts, tree, Suffix, suffix_parts, suffix_tree, of_type, of_pat, of_exp, of_mod, arrow, pat_type, applied, range_to, range_by, applied_mod, sealed, with_types, Far, whole, operands, near_operand, far_operand, near_right, far_right, whole_mod, far_mod, far_mtype}
use Rattle.fut_ast.specs.TypeRows.{named_arrow, unique, array_type, applied_name, unit_type, round_type, no_fields, fields, type_name, size_argument, name_argument, type_argument, type_field}
use Rattle.fut_ast.specs.PatRows.{pat_name, wild, unit_pat, round_pat, no_fields_pat, fields_pat, set_field, short_field, size_head, variable_head, size_name}
use Rattle.fut_ast.specs.ExpRows.{path, number, truth, falsity, unit, no_elements, elements, empty_record, record_of, bare_operator, operator_first, bare_fields, bare_index, set_exp, short_exp, last_replaced, further_replaced, from_index, to_index, backwards, named_from, named_to, named_backwards, written_index, assertion, negation, complement, if_else, function, loop, count, each, while, let_pattern, let_function, let_update}
use Rattle.fut_ast.specs.ModRows.{mod_path, mod_decs, round_mod, mod_function, mod_import, mod_param, mtype_path, mtype_specs, round_mtype, mtype_arrow, with_item, spec_value, spec_type, spec_module, spec_include, plain_dec, local_dec, dec_def, dec_let, dec_entry, dec_type, dec_module, dec_mtype, dec_open, dec_import}
use Rattle.fut_ast.specs.Behind.{begins, begins_argument, begins_atom, begins_operand, begins_named, begins_mod_argument, behind_atom, behind_app, goes_range, continues, goes_on, is_section, passes}
use Rattle.fut_ast.specs.declared.module.Program.{Program}
use Rattle.fut_grammar.specs.declared.fault.Fault.{Fault}
use Rattle.fut_grammar.specs.declared.fault.Fault.TheVariants.{Syntax, TooDeep, LeftOut}
use Rattle.fut_grammar.specs.Reading.{Read, refuse_as, refuse, refuse_form, form_of_sort, refuse_sort, form_of_test, look_at, expect, word_from, word_at, number_from, number_at, text_from, text_at, digits_from, digits_at, variable_from, variable_at, names_at, path_at, size_left_out, refuse_behind_size, closed_size, size_at, backtick_at, operator_from, operator_taken, end_at, one_at, sub_at, commas_at, many_at, several_at, maybe_at, optional_at, upto_at, argument_at, start_at, has_at, parts_at, row_at, suffix_at}
use Rattle.fut_grammar.specs.Phrases.{ended, bounded, type_argument_at, pat_field_at, head_at, exp_field_at, index_at, named_at, let_at, loop_item_at, module_at, other_dec_at, dec_rest_at, flat_at, nodes, items, phrases, far_at, by_operator, operator_between, atom_suffix, with_suffix, goes_typed, typed_suffix, once_at, again_at, atomic_type_at, applied_type_at, whole_type_at, begins_named_arrow, atomic_pat_at, whole_pat_at, round_end, section_end, plain_end, plain_at, operator_section_at, section_or_plain, paren_at, bracket_at, base_at, atom_at, app_at, unary_at, operand_too_deep, operation_at, operators_at, graded_at, chain_at, operands_at, range_behind, range_at, updates_behind, types_behind, typed_behind, typed_at, updated_at, form_at, body_at, row_of_lets, lets_at, big_at, last_at, whole_at, operand_at, right_at, replacing_at, inside_operand, inside_whole, inside_at, atomic_mod_at, first_mod_at, applied_mod_at, last_mod_at, whole_mod_at, atomic_mtype_at, whole_mtype_at, spec_at, dec_at, step, read_at, program_at}
use Rattle.fut_grammar.proofs.Bools.{or_cases}
use Rattle.fut_grammar.proofs.Fixeds.{Starting, starting}
use Rattle.fut_grammar.proofs.Post.{Post, good, bad, post_bind, post_if}

-- a fault stands at the tokens that it counts, and a form that is left out begins with them
pub data At (W : List Token → Type 0) : Fault → Type 0 where
  syntax_at : (rest : List Token) → W rest → At W (Syntax (length rest))
  deep_at : (rest : List Token) → W rest → At W (TooDeep (length rest))
  left_out_at : (rest : List Token) (w : What) → W rest → begins_left_out w rest ≡ true → At W (LeftOut (length rest) w)

at_if : {W : List Token → Type 0} (b : Bool) {x y : Fault} → (b ≡ true → At W x) → (b ≡ false → At W y) → At W (cond b x y)
at_if true h k = h refl
at_if false h k = k refl

module _ (W : List Token → Type 0) (down : (ts : List Token) → W ts → W (tail ts)) where
  refuse_as_at : (other : Fault) (ts : List Token) → W ts → At W other → At W (refuse_as other ts)
  unfolding refuse_as
  refuse_as_at other ts w o =
      at_if (is_char ts) (λ e. left_out_at ts what.Character w e)
      (λ a. at_if (is_text ts) (λ e. left_out_at ts what.Text w e)
      (λ b. at_if (starts fixed.KeyMatch ts || starts fixed.KeyCase ts || is_constructor ts) (λ e. left_out_at ts what.SumType w e) (λ d. o)))

  refuse_at : (ts : List Token) → W ts → At W (refuse ts)
  unfolding refuse
  refuse_at ts w = refuse_as_at (Syntax (length ts)) ts w (syntax_at ts w)

  refuse_form_at : (o : Option What) (ts : List Token) → W ts → At W (refuse_form o ts)
  refuse_form_at None ts w = refuse_at ts w
  refuse_form_at (Some form) ts w = at_if (begins_left_out form ts) (λ e. left_out_at ts form w e) (λ d. refuse_at ts w)

  refuse_sort_at : (n : Sort) (ts : List Token) → W ts → At W (refuse_sort n ts)
  unfolding refuse_sort
  refuse_sort_at n ts w = refuse_form_at (form_of_sort n) ts w

  look : (c : Test) (ts : List Token) → W ts → Post (At W) (λ u. W ts) (look_at c ts)
  look c ts w = post_if (passes c ts) (λ e. good w) (λ e. bad (refuse_form_at (form_of_test c) ts w))

  -- ---- tokens

  expect_at : (f : Fixed) (ts : List Token) → W ts → Post (At W) W (expect f ts)
  unfolding expect
  expect_at f ts w = post_if (starts f ts) (λ e. good (down ts w)) (λ e. bad (refuse_at ts w))

  a_word : (ts : List Token) → W ts → Post (At W) (λ (y : Text × List Token). W y.1) (word_at ts)
  unfolding word_at
  a_word [] w = bad (refuse_at [] w)
  a_word (t ∷ us) w = go t.kind
    where
      go : (k : TokenKind) → Post (At W) (λ (y : Text × List Token). W y.1) (word_from k (t ∷ us) us)
      go (kind.Name x) = good (down (t ∷ us) w)
      go k = bad (refuse_at (t ∷ us) w)

  a_number : (ts : List Token) → W ts → Post (At W) (λ (y : (ℕ × Option IntType) × List Token). W y.1) (number_at ts)
  unfolding number_at
  a_number [] w = bad (refuse_at [] w)
  a_number (t ∷ us) w = go t.kind
    where
      go : (k : TokenKind) → Post (At W) (λ (y : (ℕ × Option IntType) × List Token). W y.1) (number_from k (t ∷ us) us)
      go (kind.Int v s) = good (down (t ∷ us) w)
      go k = bad (refuse_at (t ∷ us) w)

  a_text : (ts : List Token) → W ts → Post (At W) (λ (y : Text × List Token). W y.1) (text_at ts)
  unfolding text_at
  a_text [] w = bad (refuse_at [] w)
  a_text (t ∷ us) w = go t.kind
    where
      go : (k : TokenKind) → Post (At W) (λ (y : Text × List Token). W y.1) (text_from k (t ∷ us) us)
      go (kind.Text x) = good (down (t ∷ us) w)
      go k = bad (refuse_at (t ∷ us) w)

  some_digits : (ts : List Token) → W ts → Post (At W) (λ (y : Text × List Token). W y.1) (digits_at ts)
  unfolding digits_at
  some_digits [] w = bad (refuse_at [] w)
  some_digits (t ∷ us) w = go t.kind
    where
      go : (k : TokenKind) → Post (At W) (λ (y : Text × List Token). W y.1) (digits_from k (t ∷ us) us)
      go (kind.Field x) = good (down (t ∷ us) w)
      go k = bad (refuse_at (t ∷ us) w)

  a_variable : (ts : List Token) → W ts → Post (At W) (λ (y : Head × List Token). W y.1) (variable_at ts)
  unfolding variable_at
  a_variable [] w = bad (refuse_at [] w)
  a_variable (t ∷ us) w = go t.kind
    where
      go : (k : TokenKind) → Post (At W) (λ (y : Head × List Token). W y.1) (variable_from k (t ∷ us) us)
      go (kind.TypeVar l x) = good (down (t ∷ us) w)
      go k = bad (refuse_at (t ∷ us) w)

  some_names : (k : ℕ) (ts : List Token) → W ts → Post (At W) (λ (y : Path × List Token). W y.1) (names_at k ts)
  unfolding names_at
  some_names zero ts w = bad (refuse_at ts w)
  some_names (suc k) ts w = post_bind _ (a_word ts w) (λ x hx. post_bind _ (look (without what.LocalOpen) x.1 hx) (λ u hu. post_if (starts fixed.Dot x.1) (λ e. post_bind _ (some_names k (tail x.1) (down x.1 hx)) (λ xs hxs. good hxs)) (λ e. good hx)))

  a_path : (ts : List Token) → W ts → Post (At W) (λ (y : Path × List Token). W y.1) (path_at ts)
  unfolding path_at
  a_path ts w = some_names (length ts) ts w

  -- ---- sizes and operators

  no_size : (ts : List Token) → W ts → is_word ts ≡ false → is_int ts ≡ false → starts fixed.CloseBracket ts ≡ false → At W (size_left_out ts)
  no_size [] w a b d = syntax_at [] w
  no_size (t ∷ ts) w a b d = refuse_as_at _ (t ∷ ts) w (left_out_at (t ∷ ts) what.SizeExpression w (rw (a, b, d) refl))

  sign_is_no_size : (f : Fixed) (ts : List Token) → W ts → is_fixed fixed.CloseBracket f ≡ false → Starting f ts → At W (LeftOut (length ts) what.SizeExpression)
  sign_is_no_size f ts w n s =
      let P : List Token → Type 0 = λ us. W us → At W (LeftOut (length us) what.SizeExpression) in
      let other : begins_left_out what.SizeExpression (s.token ∷ tail ts) ≡ true = rw (s.kind, n) refl in
      subst P (sym s.is) (λ v. left_out_at (s.token ∷ tail ts) what.SizeExpression v other) w

  behind_size : (ts : List Token) → W ts → At W (refuse_behind_size ts)
  behind_size ts w =
      at_if (starts fixed.Plus ts || starts fixed.Minus ts || starts fixed.Star ts)
      (λ e. or_cases _ _ e
      (λ f. or_cases _ _ f (λ g. sign_is_no_size fixed.Plus ts w refl (starting fixed.Plus ts g)) (λ g. sign_is_no_size fixed.Minus ts w refl (starting fixed.Minus ts g)))
      (λ f. sign_is_no_size fixed.Star ts w refl (starting fixed.Star ts f)))
      (λ e. refuse_at ts w)

  closed : (size : SizeExp) (us : List Token) → W us → Post (At W) (λ (y : Option SizeExp × List Token). W y.1) (closed_size size us)
  closed size us w = post_if (starts fixed.CloseBracket us) (λ e. good w) (λ e. bad (behind_size us w))

  a_size : (ts : List Token) → W ts → Post (At W) (λ (y : Option SizeExp × List Token). W y.1) (size_at ts)
  unfolding size_at
  a_size ts w =
      post_if (starts fixed.CloseBracket ts) (λ e. good w)
      (λ a. post_if (is_word ts) (λ e. post_bind _ (a_path ts w) (λ xs hxs. closed _ xs.1 hxs))
      (λ b. post_if (is_int ts) (λ e. post_bind _ (a_number ts w) (λ v hv. closed _ v.1 hv))
      (λ d. bad (no_size ts w b d a))))

  from_operator : (o : Fixed) (at : Spot) (us : List Token) → W us → Post (At W) (λ (y : (Spot × Text) × List Token). W y.1) (operator_from o at us)
  unfolding backtick_at
  from_operator fixed.Backtick at us w = post_bind _ (a_word us w) (λ x hx. post_bind _ (expect_at fixed.Backtick x.1 hx) (λ vs hvs. good hvs))
  from_operator o at us w = good w

  an_operator : (o : Fixed) (ts : List Token) → W ts → Post (At W) (λ (y : (Spot × Text) × List Token). W y.1) (operator_taken o ts)
  unfolding operator_taken
  an_operator o ts w = post_bind _ (expect_at o ts w) (λ us hus. post_if (leb 1 (level o)) (λ e. from_operator o (spot_of ts) us hus) (λ e. bad (refuse_at ts w)))

  an_end : (ts : List Token) → W ts → Post (At W) (λ (y : End × List Token). W y.1) (end_at ts)
  unfolding end_at
  an_end ts w =
      post_if (starts fixed.DotDotLess ts) (λ e. good (down ts w))
      (λ a. post_if (starts fixed.DotDotGreater ts) (λ e. good (down ts w))
      (λ b. post_if (starts fixed.DotDotDot ts) (λ e. good (down ts w)) (λ d. bad (refuse_at ts w))))

  -- ---- parts

  module _ (read : (n : Sort) → List Token → Read (Tree n)) (given : (n : Sort) (ts : List Token) → W ts → Post (At W) (λ (y : Tree n × ℕ × List Token). W y.2) (read n ts)) where
    some_commas : (k : ℕ) (n : Sort) (g : ℕ) (ts : List Token) → W ts → Post (At W) (λ (y : List (Tree n) × ℕ × List Token). W y.2) (commas_at read k n g ts)
    unfolding commas_at
    some_commas zero n g ts w = bad (refuse_at ts w)
    some_commas (suc k) n g ts w =
        post_bind _ (given n ts w) (λ p hp. post_if (starts fixed.Comma p.2) (λ e. post_bind _ (some_commas k n (max g p.1) (tail p.2) (down p.2 hp)) (λ ps hps. good hps)) (λ e. good hp))

    some_many : (k : ℕ) (n : Sort) (g : ℕ) (ts : List Token) → W ts → Post (At W) (λ (y : List (Tree n) × ℕ × List Token). W y.2) (many_at read k n g ts)
    unfolding many_at
    some_many zero n g ts w = post_if (begins n ts) (λ e. bad (refuse_at ts w)) (λ e. good w)
    some_many (suc k) n g ts w =
        post_if (begins n ts) (λ e. post_bind _ (given n ts w) (λ p hp. post_bind _ (some_many k n (max g p.1) p.2 hp) (λ ps hps. good hps))) (λ e. good w)

    an_optional : (n : Sort) (g : ℕ) (ts : List Token) → W ts → Post (At W) (λ (y : Option (Tree n) × ℕ × List Token). W y.2) (optional_at read n g ts)
    unfolding optional_at
    an_optional n g ts w = post_if (begins n ts) (λ e. post_bind _ (given n ts w) (λ y hy. good hy)) (λ e. good w)

    a_part : (q : Part) (g : ℕ) (ts : List Token) → W ts → Post (At W) (λ (y : Value q × ℕ × List Token). W y.2) (has_at read q g ts)
    unfolding has_at sub_at several_at maybe_at upto_at argument_at start_at one_at
    a_part (Look c) g ts w = post_bind _ (look c ts w) (λ u hu. good hu)
    a_part (Sign f) g ts w = post_bind _ (expect_at f ts w) (λ us hus. good hus)
    a_part Tight g ts w = post_if (starts_tight ts) (λ e. good (down ts w)) (λ e. bad (refuse_at ts w))
    a_part Word g ts w = post_bind _ (a_word ts w) (λ x hx. good hx)
    a_part Names g ts w = post_bind _ (a_path ts w) (λ xs hxs. good hxs)
    a_part Number g ts w = post_bind _ (a_number ts w) (λ v hv. good hv)
    a_part One g ts w = post_bind _ (post_bind _ (a_number ts w) (λ v hv. post_if {P = W} (eqb v.0.0 1) (λ e. good hv) (λ e. bad (refuse_at ts w)))) (λ us hus. good hus)
    a_part Quoted g ts w = post_bind _ (a_text ts w) (λ x hx. good hx)
    a_part Digits g ts w = post_bind _ (some_digits ts w) (λ x hx. good hx)
    a_part Variable g ts w = post_bind _ (a_variable ts w) (λ x hx. good hx)
    a_part Size g ts w = post_bind _ (a_size ts w) (λ x hx. good hx)
    a_part (Operator o) g ts w = post_bind _ (an_operator o ts w) (λ x hx. good hx)
    a_part (Sub n) g ts w = post_bind _ (given n ts w) (λ y hy. good hy)
    a_part (Commas n) g ts w = some_commas (length ts) n g ts w
    a_part (Many n) g ts w = some_many (length ts) n g ts w
    a_part (Several n) g ts w = post_bind _ (given n ts w) (λ p hp. post_bind _ (some_many (length p.2) n (max g p.1) p.2 hp) (λ ps hps. good hps))
    a_part (Maybe f n) g ts w = post_if (starts f ts) (λ e. post_bind _ (given n (tail ts) (down ts w)) (λ y hy. good hy)) (λ e. good w)
    a_part (Optional n) g ts w = an_optional n g ts w
    a_part Upto g ts w = post_if (starts fixed.Colon ts) (λ e. post_bind _ (an_optional (Operands 1) g (tail ts) (down ts w)) (λ y hy. good hy)) (λ e. good w)
    a_part End_sign g ts w = post_bind _ (an_end ts w) (λ x hx. good hx)
    a_part Argument g ts w = post_if (begins_argument ts) (λ e. post_bind _ (given Atom ts w) (λ y hy. good hy)) (λ e. bad (refuse_at ts w))
    a_part Loop_start g ts w =
        post_bind _ (given Whole_pat ts w) (λ p hp. post_if (starts fixed.Equal p.2)
        (λ e. post_bind _ (given Whole (tail p.2) (down p.2 hp)) (λ v hv. good hv))
        (λ e. post_if (has_wild p.0) (λ x. bad (refuse_at p.2 hp)) (λ x. good hp)))

    all_parts : (up : Bool) (n : Sort) (ps : List Part) (b : Builds ps n) (g : ℕ) (ts : List Token) → W ts → Post (At W) (λ (y : Tree n × ℕ × List Token). W y.2) (parts_at read up n ps b g ts)
    unfolding parts_at
    all_parts up n [] b g ts w = good w
    all_parts up n (q ∷ ps) b g ts w = post_bind _ (a_part q g ts w) (λ y hy. all_parts up n ps (b y.0) y.1 y.2 hy)

    a_row : {n : Sort} (r : Row n) (ts : List Token) → W ts → Post (At W) (λ (y : Tree n × ℕ × List Token). W y.2) (row_at read r ts)
    unfolding row_at
    a_row {n} r ts w = all_parts (is_node n) n (parts r) (tree r (spot_of ts)) 0 ts w

    a_suffix : {n m : Sort} (s : Suffix n m) (limit : ℕ) (from : Spot) (a : Tree m) (g : ℕ) (ts : List Token) → W ts → Post (At W) (λ (y : Tree n × ℕ × List Token). W y.2) (suffix_at read s limit from a g ts)
    unfolding suffix_at
    a_suffix {n} s limit from a g ts w =
        post_if (goes_on s a ts) (λ e. bad (refuse_at ts w))
        (λ q. post_if (ltb g limit) (λ lt. all_parts true n (suffix_parts s) (suffix_tree s from (spot_of ts) a) g ts w) (λ ge. bad (deep_at ts w)))

    -- ---- phrases that are no nodes

    flat : (n : Sort) (ts : List Token) → W ts → Post (At W) (λ (y : Tree n × ℕ × List Token). W y.2) (flat_at read n ts)
    unfolding flat_at type_argument_at pat_field_at head_at exp_field_at index_at named_at let_at loop_item_at module_at other_dec_at dec_rest_at
    flat Type_argument ts w = post_if (starts fixed.OpenBracket ts) (λ e. a_row (of_type size_argument) ts w) (λ a. post_if (is_word ts) (λ e. a_row (of_type name_argument) ts w) (λ b. a_row (of_type type_argument) ts w))
    flat Type_field ts w = a_row (of_type type_field) ts w
    flat Pat_field ts w = post_if (starts fixed.Equal (tail ts)) (λ e. a_row (of_pat set_field) ts w) (λ a. a_row (of_pat short_field) ts w)
    flat Head_item ts w = post_if (starts fixed.OpenBracket ts) (λ e. a_row (of_pat size_head) ts w) (λ a. a_row (of_pat variable_head) ts w)
    flat Size_item ts w = a_row (of_pat size_name) ts w
    flat Exp_field ts w = post_if (starts fixed.Equal (tail ts)) (λ e. a_row (of_exp set_exp) ts w) (λ a. a_row (of_exp short_exp) ts w)
    flat Index_item ts w = post_if (starts fixed.Colon ts) (λ e. post_if (starts fixed.Colon (tail ts)) (λ f. a_row (of_exp backwards) ts w) (λ f. a_row (of_exp to_index) ts w)) (λ a. a_row (of_exp from_index) ts w)
    flat Named_item ts w = post_if (starts fixed.Colon ts) (λ e. post_if (starts fixed.Colon (tail ts)) (λ f. a_row (of_exp named_backwards) ts w) (λ f. a_row (of_exp named_to) ts w)) (λ a. a_row (of_exp named_from) ts w)
    flat Written_item ts w = a_row (of_exp written_index) ts w
    flat Let_item ts w = post_if (passes update_let ts) (λ e. a_row (of_exp let_update) ts w) (λ a. post_if (passes function_let ts) (λ e. a_row (of_exp let_function) ts w) (λ b. a_row (of_exp let_pattern) ts w))
    flat Loop_item ts w = post_if (starts fixed.KeyWhile ts) (λ e. a_row (of_exp while) ts w) (λ a. post_if (passes no_counter (tail ts)) (λ e. a_row (of_exp each) ts w) (λ b. a_row (of_exp count) ts w))
    flat Mod_param ts w = a_row (of_mod mod_param) ts w
    flat (With_item b) ts w = a_row (of_mod (with_item b)) ts w
    flat Dec_rest ts w =
        post_if (starts fixed.KeyDef ts) (λ e. a_row (of_mod dec_def) ts w)
        (λ a. post_if (starts fixed.KeyLet ts) (λ e. a_row (of_mod dec_let) ts w)
        (λ b. post_if (starts fixed.KeyEntry ts) (λ e. a_row (of_mod dec_entry) ts w)
        (λ f. post_if (starts fixed.KeyType ts) (λ e. a_row (of_mod dec_type) ts w)
        (λ g. post_if (starts fixed.KeyModule ts) (λ e. post_if (starts fixed.KeyType (tail ts)) (λ i. a_row (of_mod dec_mtype) ts w) (λ i. a_row (of_mod dec_module) ts w))
        (λ h. post_if (starts fixed.KeyOpen ts) (λ e. a_row (of_mod dec_open) ts w) (λ i. a_row (of_mod dec_import) ts w))))))
    flat n ts w = bad (refuse_at ts w)

  -- ---- the ends of a phrase

  an_ended : (n : Sort) {r : Read (Tree n)} → Post (At W) (λ (y : Tree n × ℕ × List Token). W y.2) r → Post (At W) (λ (y : Tree n × ℕ × List Token). W y.2) (ended n r)
  unfolding ended
  an_ended n x = post_bind _ x (λ y hy. post_if (continues n y.0 y.2) (λ e. bad (refuse_at y.2 hy)) (λ e. good hy))

  a_far : {n m : Sort} (e : Far n m) {r : Read (Tree m)} → Post (At W) (λ (y : Tree m × ℕ × List Token). W y.2) r → Post (At W) (λ (y : Tree n × ℕ × List Token). W y.2) (far_at e r)
  unfolding far_at
  a_far {m = m} e x = post_bind _ (an_ended m x) (λ y hy. good hy)

  a_bounded : (n : Sort) (ts : List Token) {r : Read (Tree n)} → W ts → Post (At W) (λ (y : Tree n × ℕ × List Token). W y.2) r → Post (At W) (λ (y : Tree n × ℕ × List Token). W y.2) (bounded n ts r)
  unfolding bounded
  a_bounded n ts w x = post_if (begins n ts) (λ e. an_ended n x) (λ e. bad (refuse_sort_at n ts w))

  by_next : {A : Type 0} (o : Option Fixed) {stop : Read A} {go : Fixed → Read A} → Post (At W) (λ (y : A × ℕ × List Token). W y.2) stop → ((p : Fixed) → Post (At W) (λ (y : A × ℕ × List Token). W y.2) (go p)) → Post (At W) (λ (y : A × ℕ × List Token). W y.2) (by_operator o stop go)
  by_next None h k = h
  by_next (Some p) h k = k p

  module _ (inner : (n : Sort) → List Token → Read (Tree n)) (given : (n : Sort) → is_node n ≡ true → (ts : List Token) → W ts → Post (At W) (λ (y : Tree n × ℕ × List Token). W y.2) (inner n ts)) where
    a_node : (n : Sort) (ts : List Token) → W ts → Post (At W) (λ (y : Tree n × ℕ × List Token). W y.2) (nodes inner n ts)
    unfolding nodes
    a_node n ts w = post_if (is_node n) (λ e. given n e ts w) (λ e. bad (refuse_at ts w))

    an_item : (n : Sort) (ts : List Token) → W ts → Post (At W) (λ (y : Tree n × ℕ × List Token). W y.2) (items inner n ts)
    unfolding items
    an_item n ts w = post_if (is_node n) (λ e. given n e ts w) (λ e. a_bounded n ts w (flat (nodes inner) a_node n ts w))

    a_phrase : (n : Sort) (ts : List Token) → W ts → Post (At W) (λ (y : Tree n × ℕ × List Token). W y.2) (phrases inner n ts)
    unfolding phrases
    a_phrase n ts w = post_if (is_node n) (λ e. given n e ts w) (λ e. a_bounded n ts w (flat (items inner) an_item n ts w))

  -- ---- phrases that are nodes

  module _ (read : (n : Sort) → List Token → Read (Tree n)) (limit : ℕ) (given : (n : Sort) (ts : List Token) → W ts → Post (At W) (λ (y : Tree n × ℕ × List Token). W y.2) (read n ts)) where
    by_row : {n : Sort} (r : Row n) (ts : List Token) → W ts → Post (At W) (λ (y : Tree n × ℕ × List Token). W y.2) (row_at read r ts)
    by_row r ts w = a_row read given r ts w

    once : {n m : Sort} (test : List Token → Bool) (s : Suffix n m) (from : Spot) (same : Tree m → Tree n) (a : Tree m) (h : ℕ) (ts : List Token) → W ts → Post (At W) (λ (y : Tree n × ℕ × List Token). W y.2) (once_at read limit test s from same a h ts)
    unfolding once_at
    once test s from same a h ts w = post_if (test ts) (λ e. a_suffix read given s limit from a h ts w) (λ e. good w)

    again : {n : Sort} (test : List Token → Bool) (choose : List Token → Suffix n n) (from : Spot) (k : ℕ) (a : Tree n) (h : ℕ) (ts : List Token) → W ts → Post (At W) (λ (y : Tree n × ℕ × List Token). W y.2) (again_at read limit test choose from k a h ts)
    unfolding again_at
    again test choose from zero a h ts w =
        post_if (test ts) (λ e. post_if (goes_on (choose ts) a ts) (λ f. bad (refuse_at ts w)) (λ f. bad (deep_at ts w))) (λ e. good w)
    again test choose from (suc k) a h ts w =
        post_if (test ts) (λ e. post_bind _ (a_suffix read given (choose ts) limit from a h ts w) (λ y hy. again test choose from k y.0 y.1 y.2 hy)) (λ e. good w)

    -- types and patterns
    atomic_type : (ts : List Token) → W ts → Post (At W) (λ (y : Tree Atomic_type × ℕ × List Token). W y.2) (atomic_type_at read limit ts)
    unfolding atomic_type_at
    atomic_type ts w =
        post_if (starts fixed.OpenParen ts) (λ e. post_if (starts fixed.CloseParen (tail ts)) (λ f. by_row (of_type unit_type) ts w) (λ f. by_row (of_type round_type) ts w))
        (λ e. post_if (starts fixed.CloseBrace (tail ts)) (λ f. by_row (of_type no_fields) ts w) (λ f. by_row (of_type fields) ts w))

    applied_type : (ts : List Token) → W ts → Post (At W) (λ (y : Tree Applied_type × ℕ × List Token). W y.2) (applied_type_at read limit ts)
    unfolding applied_type_at
    applied_type ts w =
        post_if (starts fixed.Star ts) (λ e. by_row (of_type unique) ts w)
        (λ a. post_if (starts fixed.OpenBracket ts) (λ e. by_row (of_type array_type) ts w)
        (λ b. post_if (is_word ts) (λ e. by_row (of_type applied_name) ts w) (λ f. atomic_type ts w)))

    whole_type : (ts : List Token) → W ts → Post (At W) (λ (y : Tree Whole_type × ℕ × List Token). W y.2) (whole_type_at read limit ts)
    unfolding whole_type_at
    whole_type ts w =
        post_if (begins_named_arrow read limit ts) (λ e. by_row (of_type named_arrow) ts w)
        (λ a. post_bind _ (applied_type ts w) (λ y hy. once (starts fixed.Arrow) arrow (spot_of ts) (λ t. t) y.0 y.1 y.2 hy))

    atomic_pat : (ts : List Token) → W ts → Post (At W) (λ (y : Tree Atomic_pat × ℕ × List Token). W y.2) (atomic_pat_at read limit ts)
    unfolding atomic_pat_at
    atomic_pat ts w =
        post_if (is_word ts) (λ e. by_row (of_pat pat_name) ts w)
        (λ a. post_if (starts fixed.Wildcard ts) (λ e. by_row (of_pat wild) ts w)
        (λ b. post_if (starts fixed.OpenParen ts) (λ e. post_if (starts fixed.CloseParen (tail ts)) (λ f. by_row (of_pat unit_pat) ts w) (λ f. by_row (of_pat round_pat) ts w))
        (λ f. post_if (starts fixed.CloseBrace (tail ts)) (λ g. by_row (of_pat no_fields_pat) ts w) (λ g. by_row (of_pat fields_pat) ts w))))

    whole_pat : (ts : List Token) → W ts → Post (At W) (λ (y : Tree Whole_pat × ℕ × List Token). W y.2) (whole_pat_at read limit ts)
    unfolding whole_pat_at
    whole_pat ts w = post_bind _ (atomic_pat ts w) (λ y hy. once (starts fixed.Colon) pat_type (spot_of ts) (λ t. t) y.0 y.1 y.2 hy)

    -- parentheses
    a_round_end : (at : Spot) (e : SourceExp) (h : ℕ) (ts : List Token) → W ts → Post (At W) (λ (y : SourceExp × ℕ × List Token). W y.2) (round_end read limit at e h ts)
    unfolding round_end
    a_round_end at e h ts w =
        post_if (starts fixed.Comma ts)
        (λ c. post_bind _ (some_commas read given (length (tail ts)) Whole (max 0 h) (tail ts) (down ts w)) (λ es hes. post_bind _ (expect_at fixed.CloseParen es.2 hes) (λ us hus. good hus)))
        (λ c. post_bind _ (expect_at fixed.CloseParen ts w) (λ us hus. good hus))

    a_section_end : (o : Fixed) (at : Spot) (e : SourceExp) (h : ℕ) (ts : List Token) → W ts → Post (At W) (λ (y : SourceExp × ℕ × List Token). W y.2) (section_end read limit o at e h ts)
    unfolding section_end
    a_section_end o at e h ts w = post_bind _ (an_operator o ts w) (λ op hop. post_bind _ (expect_at fixed.CloseParen op.1 hop) (λ us hus. good hus))

    a_plain_end : (o : Option Fixed) (at : Spot) (e : SourceExp) (h : ℕ) (ts : List Token) → W ts → Post (At W) (λ (y : SourceExp × ℕ × List Token). W y.2) (plain_end read limit o at e h ts)
    a_plain_end None at e h ts w = a_round_end at e h ts w
    a_plain_end (Some o) at e h ts w = a_section_end o at e h ts w

    plain : (ts : List Token) → W ts → Post (At W) (λ (y : SourceExp × ℕ × List Token). W y.2) (plain_at read limit ts)
    unfolding plain_at
    plain ts w = post_bind _ (given Inside (tail ts) (down ts w)) (λ e he. a_plain_end e.0.1 (spot_of ts) e.0.0 e.1 e.2 he)

    a_section_or_plain : (o : Option Fixed) (ts : List Token) → W ts → Post (At W) (λ (y : SourceExp × ℕ × List Token). W y.2) (section_or_plain read limit o ts)
    unfolding operator_section_at
    a_section_or_plain None ts w = plain ts w
    a_section_or_plain (Some o) ts w =
        post_if (is_section (Some o) (tail (tail ts)))
        (λ e. post_if (starts fixed.CloseParen (behind_operator o (tail (tail ts)))) (λ f. by_row (of_exp (bare_operator o)) ts w) (λ f. by_row (of_exp (operator_first o)) ts w))
        (λ e. plain ts w)

    paren : (ts : List Token) → W ts → Post (At W) (λ (y : SourceExp × ℕ × List Token). W y.2) (paren_at read limit ts)
    unfolding paren_at
    paren ts w =
        post_if (starts fixed.CloseParen (tail ts)) (λ e. by_row (of_exp unit) ts w)
        (λ a. post_if (starts fixed.Dot (tail ts)) (λ e. post_if (starts fixed.OpenBracket (tail (tail ts))) (λ f. by_row (of_exp bare_index) ts w) (λ f. by_row (of_exp bare_fields) ts w))
        (λ b. a_section_or_plain (any_operator (tail ts)) ts w))

    a_base : (ts : List Token) → W ts → Post (At W) (λ (y : Tree Base × ℕ × List Token). W y.2) (base_at read limit ts)
    unfolding base_at bracket_at
    a_base ts w =
        post_if (is_word ts) (λ e. by_row (of_exp path) ts w)
        (λ a. post_if (is_int ts) (λ e. by_row (of_exp number) ts w)
        (λ b. post_if (starts fixed.KeyTrue ts) (λ e. by_row (of_exp truth) ts w)
        (λ f. post_if (starts fixed.KeyFalse ts) (λ e. by_row (of_exp falsity) ts w)
        (λ g. post_if (starts fixed.OpenParen ts) (λ e. paren ts w)
        (λ h. post_if (starts fixed.OpenBracket ts)
        (λ e. post_if (starts fixed.CloseBracket (tail ts)) (λ i. by_row (of_exp no_elements) ts w) (λ i. by_row (of_exp elements) ts w))
        (λ e. post_if (starts fixed.CloseBrace (tail ts)) (λ i. by_row (of_exp empty_record) ts w) (λ i. by_row (of_exp record_of) ts w)))))))

    -- operands and operators
    an_atom : (ts : List Token) → W ts → Post (At W) (λ (y : Tree Atom × ℕ × List Token). W y.2) (atom_at read limit ts)
    unfolding atom_at
    an_atom ts w = post_bind _ (a_base ts w) (λ a ha. again behind_atom atom_suffix (spot_of ts) limit a.0 a.1 a.2 ha)

    an_app : (ts : List Token) → W ts → Post (At W) (λ (y : Tree App × ℕ × List Token). W y.2) (app_at read limit ts)
    unfolding app_at
    an_app ts w = post_bind _ (an_atom ts w) (λ a ha. again begins_argument (λ us. applied) (spot_of ts) limit a.0 a.1 a.2 ha)

    a_unary : (ts : List Token) → W ts → Post (At W) (λ (y : Tree Unary × ℕ × List Token). W y.2) (unary_at read limit ts)
    unfolding unary_at
    a_unary ts w =
        post_if (begins_atom ts) (λ e. an_app ts w)
        (λ a. post_if (starts fixed.Minus ts) (λ e. by_row (of_exp negation) ts w)
        (λ b. post_if (starts fixed.Bang ts) (λ e. by_row (of_exp complement) ts w) (λ f. by_row (of_exp assertion) ts w)))

    operand_deep : {A : Type 0} {P : A × ℕ × List Token → Type 0} (o : Fixed) (ts : List Token) → W ts → Post (At W) P (operand_too_deep read limit o ts)
    unfolding operand_too_deep
    operand_deep o ts w = post_bind _ (an_operator o ts w) (λ op hop. post_if (begins (Operand (right_level o)) op.1) (λ b. bad (deep_at op.1 hop)) (λ b. bad (refuse_at op.1 hop)))

    an_operation : (k : ℕ) (o : Fixed) (from : Spot) (a : Ending) (h : ℕ) (ts : List Token) → W ts → Post (At W) (λ (y : Ending × ℕ × List Token). W y.2) (operation_at read limit k o from a h ts)
    unfolding operation_at
    an_operation k o from a h ts w =
        post_if (behind_app ts) (λ f. bad (refuse_at ts w))
        (λ q. post_if (ltb h limit) (λ lt. all_parts read given true (Chain k) (Operator o ∷ Sub (Operand (right_level o)) ∷ []) (λ op b. (joined o from.place op.0.place op.1 a.0 b, ending.Operands (Some o))) h ts w) (λ ge. operand_deep o ts w))

    some_operators : (section_ends : Bool) (k : ℕ) (from : Spot) (n : ℕ) (a : Ending) (h : ℕ) (ts : List Token) → W ts → Post (At W) (λ (y : Ending × ℕ × List Token). W y.2) (operators_at read limit section_ends k from n a h ts)
    unfolding operators_at
    some_operators section_ends k from zero a h ts w = by_next (operator_between section_ends a.1 k ts) (good w) (λ o. post_if (behind_app ts) (λ g. bad (refuse_at ts w)) (λ g. operand_deep o ts w))
    some_operators section_ends k from (suc n) a h ts w =
        by_next (operator_between section_ends a.1 k ts) (good w) (λ o. post_bind _ (an_operation k o from a h ts w) (λ y hy. some_operators section_ends k from n y.0 y.1 y.2 hy))

    graded : (section_ends : Bool) (k : ℕ) (ts : List Token) → W ts → Post (At W) (λ (y : Ending × ℕ × List Token). W y.2) (graded_at read limit section_ends k ts)
    unfolding graded_at
    graded section_ends k ts w = post_bind _ (a_unary ts w) (λ a ha. some_operators section_ends k (spot_of ts) limit (a.0, ending.Operands None) a.1 a.2 ha)

    a_chain : (k : ℕ) (ts : List Token) → W ts → Post (At W) (λ (y : Ending × ℕ × List Token). W y.2) (chain_at read limit k ts)
    unfolding chain_at
    a_chain k ts w = graded false k ts w

    some_operands : (k : ℕ) (ts : List Token) → W ts → Post (At W) (λ (y : SourceExp × ℕ × List Token). W y.2) (operands_at read limit k ts)
    unfolding operands_at
    some_operands k ts w = a_far (operands {k = k}) (a_chain k ts w)

    -- behind operands
    a_range_behind : (from : Spot) (a : Ending) (h : ℕ) (ts : List Token) → W ts → Post (At W) (λ (y : Ending × ℕ × List Token). W y.2) (range_behind read limit from a h ts)
    unfolding range_behind
    a_range_behind from a h ts w = post_if (starts fixed.DotDot ts) (λ e. a_suffix read given range_by limit from a h ts w) (λ e. once goes_range range_to from (λ e. e) a h ts w)

    a_range : (ts : List Token) → W ts → Post (At W) (λ (y : Ending × ℕ × List Token). W y.2) (range_at read limit ts)
    unfolding range_at
    a_range ts w = post_bind _ (a_chain 1 ts w) (λ a ha. a_range_behind (spot_of ts) a.0 a.1 a.2 ha)

    some_updates : (from : Spot) (a : Ending) (h : ℕ) (ts : List Token) → W ts → Post (At W) (λ (y : Ending × ℕ × List Token). W y.2) (updates_behind read limit from a h ts)
    unfolding updates_behind
    some_updates from a h ts w = again (starts fixed.KeyWith) with_suffix from limit a h ts w

    some_types : (from : Spot) (a : Ending) (h : ℕ) (ts : List Token) → W ts → Post (At W) (λ (y : Ending × ℕ × List Token). W y.2) (types_behind read limit from a h ts)
    unfolding types_behind
    some_types from a h ts w = again goes_typed typed_suffix from limit a h ts w

    all_behind : (from : Spot) (a : Ending) (h : ℕ) (ts : List Token) → W ts → Post (At W) (λ (y : Ending × ℕ × List Token). W y.2) (typed_behind read limit from a h ts)
    unfolding typed_behind
    all_behind from a h ts w = post_bind _ (a_range_behind from a h ts w) (λ b hb. post_bind _ (some_updates from b.0 b.1 b.2 hb) (λ u hu. some_types from u.0 u.1 u.2 hu))

    a_typed : (ts : List Token) → W ts → Post (At W) (λ (y : Ending × ℕ × List Token). W y.2) (typed_at read limit ts)
    unfolding typed_at
    a_typed ts w = post_bind _ (a_chain 1 ts w) (λ a ha. all_behind (spot_of ts) a.0 a.1 a.2 ha)

    an_updated : (ts : List Token) → W ts → Post (At W) (λ (y : Ending × ℕ × List Token). W y.2) (updated_at read limit ts)
    unfolding updated_at
    an_updated ts w = post_bind _ (a_range ts w) (λ a ha. some_updates (spot_of ts) a.0 a.1 a.2 ha)

    -- what begins with a keyword
    a_form : (ts : List Token) → W ts → Post (At W) (λ (y : Ending × ℕ × List Token). W y.2) (form_at read limit ts)
    unfolding form_at
    a_form ts w =
        post_if (starts fixed.KeyIf ts) (λ e. by_row (of_exp if_else) ts w)
        (λ a. post_if (starts fixed.Backslash ts) (λ e. by_row (of_exp function) ts w) (λ b. by_row (of_exp loop) ts w))

    a_body : (ts : List Token) → W ts → Post (At W) (λ (y : Ending × ℕ × List Token). W y.2) (body_at read limit ts)
    unfolding body_at
    a_body ts w = post_if (begins_operand ts) (λ e. a_typed ts w) (λ e. a_form ts w)

    some_lets : (k : ℕ) (g : ℕ) (ts : List Token) → W ts → Post (At W) (λ (y : List (Tree Let_item) × ℕ × List Token). W y.2) (row_of_lets read limit k g ts)
    unfolding row_of_lets
    some_lets zero g ts w = bad (refuse_at ts w)
    some_lets (suc k) g ts w =
        post_bind _ (given Let_item ts w) (λ b hb. post_if (starts fixed.KeyLet b.2)
        (λ e. post_bind _ (some_lets k (max g b.1) (tail b.2) (down b.2 hb)) (λ bs hbs. good hbs))
        (λ e. post_bind _ (expect_at fixed.KeyIn b.2 hb) (λ us hus. post_if (starts fixed.KeyLet us) (λ f. post_bind _ (some_lets k (max g b.1) (tail us) (down us hus)) (λ bs hbs. good hbs)) (λ f. good hus))))

    lets : (ts : List Token) → W ts → Post (At W) (λ (y : Ending × ℕ × List Token). W y.2) (lets_at read limit ts)
    unfolding lets_at
    lets ts w = post_bind _ (some_lets (length ts) 0 (tail ts) (down ts w)) (λ bs hbs. post_bind _ (a_body bs.2 hbs) (λ b hb. good hb))

    a_big : (ts : List Token) → W ts → Post (At W) (λ (y : Ending × ℕ × List Token). W y.2) (big_at read limit ts)
    unfolding big_at
    a_big ts w = post_if (starts fixed.KeyLet ts) (λ e. lets ts w) (λ e. a_form ts w)

    a_last : (ts : List Token) → W ts → Post (At W) (λ (y : Ending × ℕ × List Token). W y.2) (last_at read limit ts)
    unfolding last_at
    a_last ts w = post_if (begins_operand ts) (λ e. a_typed ts w) (λ e. a_big ts w)

    a_whole : (ts : List Token) → W ts → Post (At W) (λ (y : SourceExp × ℕ × List Token). W y.2) (whole_at read limit ts)
    unfolding whole_at
    a_whole ts w = a_far whole (a_last ts w)

    an_operand : (k : ℕ) (ts : List Token) → W ts → Post (At W) (λ (y : SourceExp × ℕ × List Token). W y.2) (operand_at read limit k ts)
    unfolding operand_at
    an_operand k ts w = post_if (begins_operand ts) (λ e. a_far (near_operand {k = k}) (a_chain k ts w)) (λ e. a_far (far_operand {k = k}) (a_big ts w))

    a_right : (ts : List Token) → W ts → Post (At W) (λ (y : SourceExp × ℕ × List Token). W y.2) (right_at read limit ts)
    unfolding right_at
    a_right ts w = post_if (begins_operand ts) (λ e. a_far near_right (a_range ts w)) (λ e. a_far far_right (a_big ts w))

    a_replacing : (ts : List Token) → W ts → Post (At W) (λ (y : Tree Replacing × ℕ × List Token). W y.2) (replacing_at read limit ts)
    unfolding replacing_at
    a_replacing ts w = post_if (starts fixed.Dot (tail ts)) (λ e. by_row (of_exp further_replaced) ts w) (λ e. by_row (of_exp last_replaced) ts w)

    -- first in parentheses
    past_operator : (o : Fixed) (ts : List Token) → W ts → W (behind_operator o ts)
    past_operator fixed.Backtick ts w = down (tail ts) (down ts w)
    past_operator o ts w = w

    an_inside_operand : (o : Fixed) (a : Ending) (h : ℕ) (ts us : List Token) → W ts → W us → Post (At W) (λ (y : Tree Inside × ℕ × List Token). W y.2) (inside_operand read limit o a h ts us)
    unfolding inside_operand
    an_inside_operand o a h ts us w x =
        post_if (fits a.1 (suc (level o)))
        (λ f. post_bind _ (a_bounded (Operands (suc (level o))) ts w (a_far (operands {k = suc (level o)}) (good x))) (λ y hy. good hy))
        (λ f. bad (refuse_at _ (past_operator o (tail us) (down us x))))

    an_inside_whole : (ts : List Token) {r : Read Ending} → W ts → Post (At W) (λ (y : Ending × ℕ × List Token). W y.2) r → Post (At W) (λ (y : Tree Inside × ℕ × List Token). W y.2) (inside_whole read limit ts r)
    unfolding inside_whole
    an_inside_whole ts w x = post_bind _ (a_bounded Whole ts w (a_far whole x)) (λ y hy. good hy)

    an_inside : (ts : List Token) → W ts → Post (At W) (λ (y : Tree Inside × ℕ × List Token). W y.2) (inside_at read limit ts)
    unfolding inside_at
    an_inside ts w =
        post_if (begins_operand ts)
        (λ e. post_bind _ (graded true 1 ts w) (λ a ha. by_next (fitting_from a.0.1 (section_at a.2)) (an_inside_whole ts w (all_behind (spot_of ts) a.0 a.1 a.2 ha)) (λ o. an_inside_operand o a.0 a.1 ts a.2 w ha)))
        (λ e. an_inside_whole ts w (a_big ts w))

    -- modules and declarations
    atomic_mod : (ts : List Token) → W ts → Post (At W) (λ (y : Tree Atomic_mod × ℕ × List Token). W y.2) (atomic_mod_at read limit ts)
    unfolding atomic_mod_at
    atomic_mod ts w =
        post_if (is_word ts) (λ e. by_row (of_mod mod_path) ts w)
        (λ a. post_if (starts fixed.OpenBrace ts) (λ e. by_row (of_mod mod_decs) ts w)
        (λ b. post_if (starts fixed.OpenParen ts) (λ e. by_row (of_mod round_mod) ts w) (λ f. a_far far_mod (by_row (of_mod mod_function) ts w))))

    first_mod : (ts : List Token) → W ts → Post (At W) (λ (y : Tree First_mod × ℕ × List Token). W y.2) (first_mod_at read limit ts)
    unfolding first_mod_at
    first_mod ts w = post_if (starts fixed.KeyImport ts) (λ e. by_row (of_mod mod_import) ts w) (λ e. atomic_mod ts w)

    an_applied_mod : (ts : List Token) → W ts → Post (At W) (λ (y : Tree Applied_mod × ℕ × List Token). W y.2) (applied_mod_at read limit ts)
    unfolding applied_mod_at
    an_applied_mod ts w = post_bind _ (first_mod ts w) (λ a ha. once begins_mod_argument applied_mod (spot_of ts) (λ m. m) a.0 a.1 a.2 ha)

    a_last_mod : (ts : List Token) → W ts → Post (At W) (λ (y : Tree Last_mod × ℕ × List Token). W y.2) (last_mod_at read limit ts)
    unfolding last_mod_at
    a_last_mod ts w = post_bind _ (an_applied_mod ts w) (λ a ha. once (starts fixed.Colon) sealed (spot_of ts) (λ m. (m, false)) a.0 a.1 a.2 ha)

    a_whole_mod : (ts : List Token) → W ts → Post (At W) (λ (y : Tree Whole_mod × ℕ × List Token). W y.2) (whole_mod_at read limit ts)
    unfolding whole_mod_at
    a_whole_mod ts w = a_far whole_mod (a_last_mod ts w)

    atomic_mtype : (b : Bool) (ts : List Token) → W ts → Post (At W) (λ (y : Tree (Atomic_mtype b) × ℕ × List Token). W y.2) (atomic_mtype_at read limit b ts)
    unfolding atomic_mtype_at
    atomic_mtype b ts w =
        post_if (is_word ts) (λ e. by_row (of_mod (mtype_path b)) ts w)
        (λ a. post_if (starts fixed.OpenBrace ts) (λ e. by_row (of_mod (mtype_specs b)) ts w)
        (λ c. post_if (begins_named (tail ts)) (λ e. a_far (far_mtype b) (by_row (of_mod (mtype_arrow b)) ts w)) (λ e. by_row (of_mod (round_mtype b)) ts w)))

    whole_mtype : (b : Bool) (ts : List Token) → W ts → Post (At W) (λ (y : Tree (Whole_mtype b) × ℕ × List Token). W y.2) (whole_mtype_at read limit b ts)
    unfolding whole_mtype_at
    whole_mtype b ts w = post_bind _ (atomic_mtype b ts w) (λ a ha. once (starts fixed.KeyWith) (with_types b) (spot_of ts) (λ t. t) a.0 a.1 a.2 ha)

    a_spec : (ts : List Token) → W ts → Post (At W) (λ (y : Tree Spec_item × ℕ × List Token). W y.2) (spec_at read limit ts)
    unfolding spec_at
    a_spec ts w =
        post_if (starts fixed.KeyVal ts) (λ e. by_row (of_mod spec_value) ts w)
        (λ a. post_if (starts fixed.KeyType ts) (λ e. by_row (of_mod spec_type) ts w)
        (λ b. post_if (starts fixed.KeyModule ts) (λ e. by_row (of_mod spec_module) ts w) (λ f. by_row (of_mod spec_include) ts w)))

    a_dec : (ts : List Token) → W ts → Post (At W) (λ (y : Tree Dec_item × ℕ × List Token). W y.2) (dec_at read limit ts)
    unfolding dec_at
    a_dec ts w = post_if (starts fixed.KeyLocal ts) (λ e. by_row (of_mod local_dec) ts w) (λ e. by_row (of_mod plain_dec) ts w)

    one_step : (n : Sort) (ts : List Token) → W ts → Post (At W) (λ (y : Tree n × ℕ × List Token). W y.2) (step read limit n ts)
    unfolding step
    one_step Whole_type ts w = whole_type ts w
    one_step Applied_type ts w = applied_type ts w
    one_step Atomic_type ts w = atomic_type ts w
    one_step Type_name ts w = by_row (of_type type_name) ts w
    one_step Whole_pat ts w = whole_pat ts w
    one_step Atomic_pat ts w = atomic_pat ts w
    one_step Base ts w = a_base ts w
    one_step Atom ts w = an_atom ts w
    one_step App ts w = an_app ts w
    one_step Unary ts w = a_unary ts w
    one_step (Chain k) ts w = a_chain k ts w
    one_step Range ts w = a_range ts w
    one_step Updated ts w = an_updated ts w
    one_step Typed ts w = a_typed ts w
    one_step Last ts w = a_last ts w
    one_step Big ts w = a_big ts w
    one_step Whole ts w = a_whole ts w
    one_step (Operands k) ts w = some_operands k ts w
    one_step (Operand k) ts w = an_operand k ts w
    one_step Right ts w = a_right ts w
    one_step Inside ts w = an_inside ts w
    one_step Replacing ts w = a_replacing ts w
    one_step Whole_mod ts w = a_whole_mod ts w
    one_step Last_mod ts w = a_last_mod ts w
    one_step Applied_mod ts w = an_applied_mod ts w
    one_step First_mod ts w = first_mod ts w
    one_step Atomic_mod ts w = atomic_mod ts w
    one_step Far_mod ts w = by_row (of_mod mod_function) ts w
    one_step (Whole_mtype b) ts w = whole_mtype b ts w
    one_step (Atomic_mtype b) ts w = atomic_mtype b ts w
    one_step (Far_mtype b) ts w = by_row (of_mod (mtype_arrow b)) ts w
    one_step Spec_item ts w = a_spec ts w
    one_step Dec_item ts w = a_dec ts w
    one_step n ts w = bad (refuse_at ts w)

  reading : (d : ℕ) (n : Sort) → is_node n ≡ true → (ts : List Token) → W ts → Post (At W) (λ (y : Tree n × ℕ × List Token). W y.2) (read_at d n ts)
  unfolding read_at
  reading zero n i ts w = post_if (begins n ts) (λ e. bad (deep_at ts w)) (λ e. bad (refuse_sort_at n ts w))
  reading (suc d) n i ts w = a_bounded n ts w (one_step (phrases (read_at d)) (suc d) (a_phrase (read_at d) (reading d)) n ts w)

  pub faults : (ts : List Token) → W ts → Post (At W) (λ (x : Program × ℕ). Unit {0}) (program_at ts)
  unfolding program_at
  faults ts w =
      post_bind _ (some_many (nodes (read_at 201)) (a_node (read_at 201) (reading 201)) (length ts) Dec_item 0 ts w)
      (λ ds hds. post_if (eqb (length ds.2) 0) (λ e. good tt) (λ e. bad (refuse_at ds.2 hds)))
