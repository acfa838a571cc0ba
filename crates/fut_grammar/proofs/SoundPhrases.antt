-- What is read as a phrase is spelled so.
use Rattle.std.proofs.Common.{◌≡◌, ℕ, zero, suc, ◌+◌, ◌≤◌, ◌<◌, max, Bool, true, false, cond, ◌||◌, ◌&&◌, ltb, leb, List, [], ◌∷◌, length, Option, Some, None, Ok, Err, if◌then◌else◌, refl, sym, ap, subst, ◌∙◌, arith}
use Rattle.std.specs.Prelude.{is_some}
use Rattle.std.proofs.lemmas.Bool.{leb-true, le-leb, ltb-false}
use Rattle.fut_token.specs.declared.token.Fixed.{Fixed}
use Rattle.fut_token.specs.declared.token.Fixed.TheVariants as fixed
use Rattle.fut_token.specs.declared.token.TokenKind.{TokenKind}
use Rattle.fut_token.specs.declared.token.TokenKind.TheVariants as kind
use Rattle.fut_token.specs.declared.token.Token.{Token}
use Rattle.fut_ast.specs.Tokens.{spot, spot_of, tail, starts, starts_tight, is_word, is_int}
use Rattle.fut_ast.specs.Sorts.{Tree, SourceExp, Ending, is_node, Sort, Whole_type, Applied_type, Atomic_type, Type_name, Type_argument, Type_field, Whole_pat, Atomic_pat, Pat_field, Head_item, Size_item, Base, Atom, App, Unary, Chain, Range, Updated, Typed, Last, Big, Body, Whole, Operands, Operand, Right, Inside, Replacing, Exp_field, Index_item, Named_item, Written_item, Let_item, Loop_item, Whole_mod, Last_mod, Applied_mod, First_mod, Atomic_mod, Far_mod, Mod_param, Whole_mtype, Atomic_mtype, Far_mtype, With_item, Spec_item, Dec_item, Dec_rest}
use Rattle.fut_ast.specs.Parts.{Sign, Operator, Sub, Builds}
use Rattle.fut_ast.specs.Grammar.{Spells, row, suffix, pass, far, lets, body, no_operand, an_operand, Phrase, phrase, Lets, last_let, next_let, in_let, Parts, done, then_, Has, look, sign, sub, commas, last_item, next_item}
use Rattle.fut_ast.specs.TypeRows.{TypeRow, named_arrow, unique, array_type, applied_name, unit_type, round_type, no_fields, fields, type_name, size_argument, name_argument, type_argument, type_field}
use Rattle.fut_ast.specs.PatRows.{PatRow, pat_name, wild, unit_pat, round_pat, no_fields_pat, fields_pat, set_field, short_field, size_head, variable_head, size_name}
use Rattle.fut_ast.specs.ExpRows.{ExpRow, path, number, truth, falsity, unit, round, no_elements, elements, empty_record, record_of, bare_operator, operator_first, operator_last, bare_fields, bare_index, set_exp, short_exp, last_replaced, further_replaced, from_index, to_index, backwards, named_from, named_to, named_backwards, written_index, assertion, negation, complement, if_else, function, loop, count, each, while, let_pattern, let_function, let_update}
use Rattle.fut_ast.specs.ModRows.{ModRow, mod_path, mod_decs, round_mod, mod_function, mod_import, mod_param, mtype_path, mtype_specs, round_mtype, mtype_arrow, with_item, spec_value, spec_type, spec_module, spec_include, plain_dec, local_dec, dec_def, dec_let, dec_entry, dec_type, dec_module, dec_mtype, dec_open, dec_import}
use Rattle.fut_ast.specs.Rows.{of_type, of_pat, of_exp, of_mod, Suffix, arrow, pat_type, indexed, field_name, field_digits, applied, range_to, range_by, with_index, with_field, with_path, ascribed, coerced, applied_mod, sealed, with_types}
use Rattle.fut_ast.specs.declared.exp.Form.TheVariants as form
use Rattle.fut_ast.specs.Nodes.{exp_at, joined}
use Rattle.fut_ast.specs.Operators.{level, left_level, right_level, fits, fitting_from, fitting_at, behind_operator, operator_of, operator_from, operator_at, any_operator, section_at}
use Rattle.fut_ast.specs.declared.node.Ended.{Ended}
use Rattle.fut_ast.specs.declared.node.Ended.TheVariants as ending
use Rattle.fut_ast.specs.Parts.{plain_paren, no_counter, function_let, update_let}
use Rattle.fut_ast.specs.Rows.{Row, operation, plain_type, bracket_type, plain_pat, base, atom, application, unary, chain, range, updated, typed, big, first_mod, unapplied, unsealed, plain_mtype, Far, whole, operands, near_operand, far_operand, near_right, far_right, whole_mod, far_mod, far_mtype}
use Rattle.fut_ast.specs.Behind.{begins, begins_argument, begins_atom, begins_operand, begins_named, begins_mod_argument, begins_suffix, behind_atom, behind_app, goes_range, continues, goes_on, is_section, passes}
use Rattle.fut_ast.specs.Nesting.{inside, Deep, begun, in_row, in_suffix, behind, at_operand, in_pass, in_far, in_parens, in_inside, in_operands, in_last_body, in_lets, in_body, Deep_lets, in_let as deep_let, past_let, past_in_let, in_part, past_part, in_commas, past_item}
use Rattle.fut_grammar.specs.declared.fault.Fault.{Fault}
use Rattle.fut_grammar.specs.Reading.{◌>>=◌, Read, refuse, row_at}
use Rattle.fut_grammar.specs.Phrases.{ended, bounded, type_argument_at, pat_field_at, head_at, exp_field_at, index_at, named_at, let_at, loop_item_at, module_at, other_dec_at, dec_rest_at, flat_at, nodes, items, phrases, far_at, by_operator, operator_between, atom_suffix, with_suffix, goes_typed, typed_suffix, once_at, again_at, atomic_type_at, applied_type_at, whole_type_at, begins_named_arrow, atomic_pat_at, whole_pat_at, round_end, section_end, plain_end, plain_at, operator_section_at, section_or_plain, paren_at, bracket_at, base_at, atom_at, app_at, unary_at, operand_too_deep, operation_at, operators_at, graded_at, chain_at, operands_at, range_behind, range_at, updates_behind, types_behind, typed_behind, typed_at, updated_at, form_at, body_at, row_of_lets, lets_at, big_at, last_at, whole_at, operand_at, right_at, replacing_at, inside_operand, inside_whole, inside_at, atomic_mod_at, first_mod_at, applied_mod_at, last_mod_at, whole_mod_at, atomic_mtype_at, whole_mtype_at, spec_at, dec_at, step, read_at}
use Rattle.fut_grammar.proofs.Bools.{and_right, drop_left, drop_right}
use Rattle.fut_grammar.proofs.Fixeds.{Starting, starting, one_sign, sign_no_digits}
use Rattle.fut_grammar.proofs.Endings.{ends_so}
use Rattle.fut_grammar.proofs.Shorter.{parts_higher}
use Rattle.fut_grammar.proofs.Post.{Post, good, bad, post_bind, post_if, post_map, post_call, post_lift, Stands, deep_stands, lift, refused, refused_sort}
use Rattle.fut_grammar.proofs.SoundParts.{expect_post, operator_post, commas_post, parts_post, row_post, suffix_post, Made, made}

-- ---- the ends of a phrase

pub ended_post : {D : List Token → Type 0} (n : Sort) {P : Tree n × ℕ × List Token → Type 0} {r : Read (Tree n)} → Post (Stands D) P r → Post (Stands D) (λ (y : Tree n × ℕ × List Token). P y × (continues n y.0 y.2 ≡ false)) (ended n r)
unfolding ended
ended_post n x = post_bind _ x (λ y hy. post_if (continues n y.0 y.2) (λ e. bad (refused y.2)) (λ e. good (hy, e)))

pub bounded_post : {n : Sort} {D : List Token → Type 0} (ts : List Token) {r : Read (Tree n)} → Post (Stands D) (λ (y : Tree n × ℕ × List Token). Spells n y.0 y.1 ts y.2) r → Post (Stands D) (λ (y : Tree n × ℕ × List Token). Phrase n y.0 y.1 ts y.2) (bounded n ts r)
unfolding bounded
bounded_post {n} ts x = post_if (begins n ts) (λ e. post_map (ended_post n x) (λ y hy. phrase e hy.0 hy.1)) (λ e. bad (refused_sort n ts))

-- what holds of the tokens behind still holds
bounded_kept : {n : Sort} {D : List Token → Type 0} (P : List Token → Type 0) (ts : List Token) {r : Read (Tree n)} → Post (Stands D) (λ (y : Tree n × ℕ × List Token). Spells n y.0 y.1 ts y.2 × P y.2) r → Post (Stands D) (λ (y : Tree n × ℕ × List Token). Phrase n y.0 y.1 ts y.2 × P y.2) (bounded n ts r)
unfolding bounded
bounded_kept {n} P ts x = post_if (begins n ts) (λ e. post_map (ended_post n x) (λ y hy. (phrase e hy.0.0 hy.1, hy.0.1))) (λ e. bad (refused_sort n ts))

far_kept : {n m : Sort} {D : List Token → Type 0} (P : List Token → Type 0) (e : Far n m) (a : Tree m) (h : ℕ) (ts us : List Token) → Spells m a h ts us → P us → Post (Stands D) (λ (y : Tree n × ℕ × List Token). Spells n y.0 y.1 ts y.2 × P y.2) (far_at e (Ok (a, h, us)))
unfolding far_at ended
far_kept {m = m} {D = D} P e a h ts us x p =
    let whole : Post (Stands D) (λ (y : Tree m × ℕ × List Token). (Spells m y.0 y.1 ts y.2 × (continues m y.0 y.2 ≡ false)) × P y.2) (if continues m a us then Err (refuse us) else Ok (a, h, us)) = post_if (continues m a us) (λ q. bad (refused us)) (λ q. good ((x, q), p)) in
    post_bind _ whole (λ y hy. good (far e hy.0.0 hy.0.1, hy.1))

pub far_post : {n m : Sort} {d : ℕ} (e : Far n m) (ts : List Token) {r : Read (Tree m)} → Post (Stands (λ t. Deep d m ts t)) (λ (y : Tree m × ℕ × List Token). Spells m y.0 y.1 ts y.2) r → Post (Stands (λ t. Deep d n ts t)) (λ (y : Tree n × ℕ × List Token). Spells n y.0 y.1 ts y.2) (far_at e r)
unfolding far_at
far_post {m = m} e ts x = post_call (lift (λ r y. in_far e y)) _ (ended_post m x) (λ y hy. good (far e hy.0 hy.1))

post_operator : {A : Type 0} {E : Fault → Type 0} {P : A × ℕ × List Token → Type 0} (o : Option Fixed) {stop : Read A} {go : Fixed → Read A} → (o ≡ None → Post E P stop) → ((p : Fixed) → o ≡ Some p → Post E P (go p)) → Post E P (by_operator o stop go)
post_operator None h k = h refl
post_operator (Some p) h k = k p refl

-- ---- phrases that are no nodes

module _ (read : (n : Sort) → List Token → Read (Tree n)) (d : ℕ) (given_read : (n : Sort) (ts : List Token) → Post (Stands (λ r. Deep d n ts r)) (λ (y : Tree n × ℕ × List Token). Phrase n y.0 y.1 ts y.2) (read n ts)) where
  by_row : {n : Sort} (r : Row n) (ts : List Token) → Post (Stands (λ t. Deep (inside n d) n ts t)) (λ (y : Tree n × ℕ × List Token). Spells n y.0 y.1 ts y.2) (row_at read r ts)
  by_row r ts = row_post read d given_read r ts

  pub flat_post : (n : Sort) (ts : List Token) → Post (Stands (λ r. Deep d n ts r)) (λ (y : Tree n × ℕ × List Token). Spells n y.0 y.1 ts y.2) (flat_at read n ts)
  unfolding flat_at type_argument_at pat_field_at head_at exp_field_at index_at named_at let_at loop_item_at module_at other_dec_at dec_rest_at
  flat_post Type_argument ts = post_if (starts fixed.OpenBracket ts) (λ e. by_row (of_type size_argument) ts) (λ a. post_if (is_word ts) (λ e. by_row (of_type name_argument) ts) (λ b. by_row (of_type type_argument) ts))
  flat_post Type_field ts = by_row (of_type type_field) ts
  flat_post Pat_field ts = post_if (starts fixed.Equal (tail ts)) (λ e. by_row (of_pat set_field) ts) (λ a. by_row (of_pat short_field) ts)
  flat_post Head_item ts = post_if (starts fixed.OpenBracket ts) (λ e. by_row (of_pat size_head) ts) (λ a. by_row (of_pat variable_head) ts)
  flat_post Size_item ts = by_row (of_pat size_name) ts
  flat_post Exp_field ts = post_if (starts fixed.Equal (tail ts)) (λ e. by_row (of_exp set_exp) ts) (λ a. by_row (of_exp short_exp) ts)
  flat_post Index_item ts = post_if (starts fixed.Colon ts) (λ e. post_if (starts fixed.Colon (tail ts)) (λ f. by_row (of_exp backwards) ts) (λ f. by_row (of_exp to_index) ts)) (λ a. by_row (of_exp from_index) ts)
  flat_post Named_item ts = post_if (starts fixed.Colon ts) (λ e. post_if (starts fixed.Colon (tail ts)) (λ f. by_row (of_exp named_backwards) ts) (λ f. by_row (of_exp named_to) ts)) (λ a. by_row (of_exp named_from) ts)
  flat_post Written_item ts = by_row (of_exp written_index) ts
  flat_post Let_item ts = post_if (passes update_let ts) (λ e. by_row (of_exp let_update) ts) (λ a. post_if (passes function_let ts) (λ e. by_row (of_exp let_function) ts) (λ b. by_row (of_exp let_pattern) ts))
  flat_post Loop_item ts = post_if (starts fixed.KeyWhile ts) (λ e. by_row (of_exp while) ts) (λ a. post_if (passes no_counter (tail ts)) (λ e. by_row (of_exp each) ts) (λ b. by_row (of_exp count) ts))
  flat_post Mod_param ts = by_row (of_mod mod_param) ts
  flat_post (With_item b) ts = by_row (of_mod (with_item b)) ts
  flat_post Dec_rest ts =
      post_if (starts fixed.KeyDef ts) (λ e. by_row (of_mod dec_def) ts)
      (λ a. post_if (starts fixed.KeyLet ts) (λ e. by_row (of_mod dec_let) ts)
      (λ b. post_if (starts fixed.KeyEntry ts) (λ e. by_row (of_mod dec_entry) ts)
      (λ f. post_if (starts fixed.KeyType ts) (λ e. by_row (of_mod dec_type) ts)
      (λ g. post_if (starts fixed.KeyModule ts) (λ e. post_if (starts fixed.KeyType (tail ts)) (λ i. by_row (of_mod dec_mtype) ts) (λ i. by_row (of_mod dec_module) ts))
      (λ h. post_if (starts fixed.KeyOpen ts) (λ e. by_row (of_mod dec_open) ts) (λ i. by_row (of_mod dec_import) ts))))))
  flat_post n ts = bad (refused ts)

module _ (inner : (n : Sort) → List Token → Read (Tree n)) (d : ℕ) (given_inner : (n : Sort) → is_node n ≡ true → (ts : List Token) → Post (Stands (λ r. Deep d n ts r)) (λ (y : Tree n × ℕ × List Token). Phrase n y.0 y.1 ts y.2) (inner n ts)) where
  pub nodes_post : (n : Sort) (ts : List Token) → Post (Stands (λ r. Deep d n ts r)) (λ (y : Tree n × ℕ × List Token). Phrase n y.0 y.1 ts y.2) (nodes inner n ts)
  unfolding nodes
  nodes_post n ts = post_if (is_node n) (λ e. given_inner n e ts) (λ e. bad (refused ts))

  items_post : (n : Sort) (ts : List Token) → Post (Stands (λ r. Deep d n ts r)) (λ (y : Tree n × ℕ × List Token). Phrase n y.0 y.1 ts y.2) (items inner n ts)
  unfolding items
  items_post n ts = post_if (is_node n) (λ e. given_inner n e ts) (λ e. bounded_post ts (flat_post (nodes inner) d nodes_post n ts))

  pub phrases_post : (n : Sort) (ts : List Token) → Post (Stands (λ r. Deep d n ts r)) (λ (y : Tree n × ℕ × List Token). Phrase n y.0 y.1 ts y.2) (phrases inner n ts)
  unfolding phrases
  phrases_post n ts = post_if (is_node n) (λ e. given_inner n e ts) (λ e. bounded_post ts (flat_post (items inner) d items_post n ts))

-- ---- first in parentheses

pub data Inside_view : Tree Inside → ℕ → List Token → List Token → Type 0 where
  whole_view : {p : SourceExp} {h : ℕ} {ts rest : List Token} → Phrase Whole p h ts rest → Inside_view (p, None) h ts rest
  operand_view : {o : Fixed} {p : SourceExp} {h : ℕ} {ts rest : List Token} → section_at rest ≡ Some o → Phrase (Operands (suc (level o))) p h ts rest → Inside_view (p, Some o) h ts rest

no_type_row : TypeRow Inside → ⊥
no_type_row r = elim r [ ]

no_pat_row : PatRow Inside → ⊥
no_pat_row r = elim r [ ]

no_exp_row : ExpRow Inside → ⊥
no_exp_row r = elim r [ ]

no_mod_row : ModRow Inside → ⊥
no_mod_row r = elim r [ ]

inside_view : {v : Tree Inside} {h : ℕ} {ts rest : List Token} → Spells Inside v h ts rest → Inside_view v h ts rest
inside_view (no_operand x) = whole_view x
inside_view (an_operand s x) = operand_view s x
inside_view (row (of_type r) xs) = absurd (no_type_row r)
inside_view (row (of_pat r) xs) = absurd (no_pat_row r)
inside_view (row (of_exp r) xs) = absurd (no_exp_row r)
inside_view (row (of_mod r) xs) = absurd (no_mod_row r)
inside_view (suffix s x q xs) = elim s [ ]
inside_view (pass e x) = elim e [ ]
inside_view (far e x q) = elim e [ ]

-- ---- operators

fitting_is : (e : Ended) (p : Fixed) (o : Option Fixed) → fitting_from e o ≡ Some p → (o ≡ Some p) × (fits e (left_level p) ≡ true)
fitting_is e p None f = absurd cc
fitting_is e p (Some o) f = go (fits e (left_level o)) refl f
  where
    go : (b : Bool) → fits e (left_level o) ≡ b → cond b (Some o) None ≡ Some p → (Some o ≡ Some p) × (fits e (left_level p) ≡ true)
    go true t h =
        let s : o ≡ p = cc in
        (ap (λ q. Some q) s, subst (λ (q : Fixed). fits e (left_level q) ≡ true) s t)
    go false t h = absurd cc

module _ (k : ℕ) where
  from_level : (o p : Fixed) → operator_from k o ≡ Some p → k ≤ level p
  from_level o p e = go (leb 1 (level o) && leb k (level o)) refl e
    where
      go : (b : Bool) → (leb 1 (level o) && leb k (level o)) ≡ b → cond b (Some o) None ≡ Some p → k ≤ level p
      go true t h =
          let s : o ≡ p = cc in
          let P : Fixed → Type 0 = λ q. k ≤ level q in
          subst P s (leb-true _ _ (and_right (leb 1 (level o)) _ t))
      go false t h = absurd cc

  of_level : (q : TokenKind) (p : Fixed) → operator_of k q ≡ Some p → k ≤ level p
  of_level (kind.Fixed o) p e = from_level o p e
  of_level (kind.Name x) p e = absurd cc
  of_level (kind.Int v s) p e = absurd cc
  of_level (kind.TypeVar l x) p e = absurd cc
  of_level (kind.Char c) p e = absurd cc
  of_level (kind.Text x) p e = absurd cc
  of_level (kind.Field x) p e = absurd cc
  of_level (kind.Constructor x) p e = absurd cc

  pub operator_level : (p : Fixed) (ts : List Token) → operator_at k ts ≡ Some p → k ≤ level p
  operator_level p [] e = absurd cc
  operator_level p (t ∷ ts) e = of_level t.kind p e

  pub between_fits : (section_ends : Bool) (e : Ended) (p : Fixed) (ts : List Token) → operator_between section_ends e k ts ≡ Some p → (operator_at k ts ≡ Some p) × (fits e (left_level p) ≡ true)
  between_fits section_ends e p ts i = go (section_ends && is_some (section_at ts)) i
    where
      go : (b : Bool) → cond b None (fitting_at e k ts) ≡ Some p → (operator_at k ts ≡ Some p) × (fits e (left_level p) ≡ true)
      go true h = absurd cc
      go false h = fitting_is e p (operator_at k ts) h

-- what is read so far: how it ended tells with which levels it may stand on the left
record So_far (k : ℕ) (start : List Token) (a : Ending) (h : ℕ) (ts : List Token) : Type 0 where
  so_far : (m : ℕ) → fits a.1 m ≡ true → Spells (Chain m) a h start ts
  fit : fits a.1 k ≡ true

pub at_level : {k m : ℕ} {o : Fixed} {r : Sort} {b : Builds (Operator o ∷ Sub r ∷ []) (Chain k)} {p : Ending} {g h : ℕ} {ts rest : List Token} → Parts (Chain k) (Operator o ∷ Sub r ∷ []) b p g h ts rest → Parts (Chain m) (Operator o ∷ Sub r ∷ []) b p g h ts rest
at_level (then_ x (then_ y done)) = then_ x (then_ y done)

-- ---- phrases that are nodes

phrase_ends : {n : Sort} {p : Tree n} {h : ℕ} {ts us vs : List Token} → us ≡ vs → Phrase n p h ts us → Phrase n p h ts vs
phrase_ends {n} {p} {h} {ts} e d = subst (λ (xs : List Token). Phrase n p h ts xs) e d

close_sign : {f : Fixed} {g : ℕ} {ts us : List Token} → Starting f ts → us ≡ tail ts → Has (Sign f) (spot_of ts) g g ts us
close_sign {f} {g} {ts} s q =
    let P : List Token → Type 0 = λ xs. Has (Sign f) (spot_of xs) g g xs (tail xs) in
    subst (λ (xs : List Token). Has (Sign f) (spot_of ts) g g ts xs) (sym q) (subst P (sym s.is) (sign s.kind))

module _ (read : (n : Sort) → List Token → Read (Tree n)) (d : ℕ) (given_read : (n : Sort) (ts : List Token) → Post (Stands (λ r. Deep d n ts r)) (λ (y : Tree n × ℕ × List Token). Phrase n y.0 y.1 ts y.2) (read n ts)) where
  node_row : {n : Sort} (r : Row n) (ts : List Token) → Post (Stands (λ t. Deep (inside n d) n ts t)) (λ (y : Tree n × ℕ × List Token). Spells n y.0 y.1 ts y.2) (row_at read r ts)
  node_row r ts = row_post read d given_read r ts

  once_post : {n m : Sort} (test : List Token → Bool) (s : Suffix n m) (same : Tree m → Tree n) (a : Tree m) (h : ℕ) (start ts : List Token) → Spells m a h start ts → (Spells m a h start ts → Spells n (same a) h start ts) → (test ts ≡ true → begins_suffix s ts ≡ true) → Post (Stands (λ r. Deep (suc d) n start r)) (λ (y : Tree n × ℕ × List Token). Spells n y.0 y.1 start y.2) (once_at read (suc d) test s (spot_of start) same a h ts)
  unfolding once_at
  once_post test s same a h start ts x up on = post_if (test ts) (λ e. post_map (suffix_post read d given_read s a h start ts x (on e)) (λ y hy. hy.0)) (λ e. good (up x))

  again_post : {n : Sort} (test : List Token → Bool) (choose : List Token → Suffix n n) (start : List Token) → ((ts : List Token) → test ts ≡ true → begins_suffix (choose ts) ts ≡ true) → (k : ℕ) (a : Tree n) (h : ℕ) (ts : List Token) → Spells n a h start ts → suc d ≤ h + k → Post (Stands (λ r. Deep (suc d) n start r)) (λ (y : Tree n × ℕ × List Token). Spells n y.0 y.1 start y.2) (again_at read (suc d) test choose (spot_of start) k a h ts)
  unfolding again_at
  again_post test choose start on zero a h ts x le =
      post_if (test ts) (λ e. post_if (goes_on (choose ts) a ts) (λ f. bad (refused ts)) (λ f. bad (deep_stands ts (behind (choose ts) x f (on ts e) (omega arith))))) (λ e. good x)
  again_post test choose start on (suc k) a h ts x le =
      post_if (test ts) (λ e. post_bind _ (suffix_post read d given_read (choose ts) a h start ts x (on ts e)) (λ y hy. let up = hy.1 in again_post test choose start on k y.0 y.1 y.2 hy.0 (omega arith))) (λ e. good x)

  atom_begins : (us : List Token) → behind_atom us ≡ true → begins_suffix (atom_suffix us) us ≡ true
  atom_begins us e = go (starts fixed.OpenBracket us) (starts fixed.Dot us) refl refl
    where
      go : (b c : Bool) → starts fixed.OpenBracket us ≡ b → starts fixed.Dot us ≡ c → begins_suffix {n = Atom} {m = Atom} (cond b indexed (cond c field_name field_digits)) us ≡ true
      go true c f g = drop_right _ _ (drop_right _ _ e (sign_no_digits fixed.OpenBracket us f)) (one_sign fixed.Dot fixed.OpenBracket us refl f)
      go false true f g = g
      go false false f g = drop_left (starts_tight us || starts fixed.Dot us) _ e (rw (f, g) refl)

  with_begins : (us : List Token) → starts fixed.KeyWith us ≡ true → begins_suffix (with_suffix us) us ≡ true
  with_begins us e = go (starts fixed.OpenBracket (tail us)) (starts fixed.Dot (tail (tail us)))
    where
      go : (b c : Bool) → begins_suffix {n = Updated} {m = Updated} (cond b with_index (cond c with_path with_field)) us ≡ true
      go true c = e
      go false true = e
      go false false = e

  type_begins : (us : List Token) → goes_typed us ≡ true → begins_suffix (typed_suffix us) us ≡ true
  type_begins us e = go (starts fixed.Colon us) refl
    where
      go : (b : Bool) → starts fixed.Colon us ≡ b → begins_suffix {n = Typed} {m = Typed} (cond b ascribed coerced) us ≡ true
      go true f = f
      go false f = drop_left (starts fixed.Colon us) _ e f

  -- types
  atomic_type_post : (ts : List Token) → Post (Stands (λ r. Deep (suc d) Atomic_type ts r)) (λ (y : Tree Atomic_type × ℕ × List Token). Spells Atomic_type y.0 y.1 ts y.2) (atomic_type_at read (suc d) ts)
  unfolding atomic_type_at
  atomic_type_post ts =
      post_if (starts fixed.OpenParen ts) (λ e. post_if (starts fixed.CloseParen (tail ts)) (λ f. node_row (of_type unit_type) ts) (λ f. node_row (of_type round_type) ts))
      (λ e. post_if (starts fixed.CloseBrace (tail ts)) (λ f. node_row (of_type no_fields) ts) (λ f. node_row (of_type fields) ts))

  applied_type_post : (ts : List Token) → Post (Stands (λ r. Deep (suc d) Applied_type ts r)) (λ (y : Tree Applied_type × ℕ × List Token). Spells Applied_type y.0 y.1 ts y.2) (applied_type_at read (suc d) ts)
  unfolding applied_type_at
  applied_type_post ts =
      post_if (starts fixed.Star ts) (λ e. node_row (of_type unique) ts)
      (λ a. post_if (starts fixed.OpenBracket ts) (λ e. node_row (of_type array_type) ts)
      (λ b. post_if (is_word ts) (λ e. node_row (of_type applied_name) ts)
      (λ f. post_lift (lift (λ r x. in_pass bracket_type x)) (atomic_type_post ts) (λ y hy. pass bracket_type hy))))

  whole_type_post : (ts : List Token) → Post (Stands (λ r. Deep (suc d) Whole_type ts r)) (λ (y : Tree Whole_type × ℕ × List Token). Spells Whole_type y.0 y.1 ts y.2) (whole_type_at read (suc d) ts)
  unfolding whole_type_at
  whole_type_post ts =
      post_if (begins_named_arrow read (suc d) ts) (λ e. node_row (of_type named_arrow) ts)
      (λ a. post_call (lift (λ r x. in_pass plain_type x)) _ (applied_type_post ts) (λ y hy. once_post (starts fixed.Arrow) arrow (λ t. t) y.0 y.1 ts y.2 hy (λ x. pass plain_type x) (λ e. e)))

  -- patterns
  atomic_pat_post : (ts : List Token) → Post (Stands (λ r. Deep (suc d) Atomic_pat ts r)) (λ (y : Tree Atomic_pat × ℕ × List Token). Spells Atomic_pat y.0 y.1 ts y.2) (atomic_pat_at read (suc d) ts)
  unfolding atomic_pat_at
  atomic_pat_post ts =
      post_if (is_word ts) (λ e. node_row (of_pat pat_name) ts)
      (λ a. post_if (starts fixed.Wildcard ts) (λ e. node_row (of_pat wild) ts)
      (λ b. post_if (starts fixed.OpenParen ts) (λ e. post_if (starts fixed.CloseParen (tail ts)) (λ f. node_row (of_pat unit_pat) ts) (λ f. node_row (of_pat round_pat) ts))
      (λ f. post_if (starts fixed.CloseBrace (tail ts)) (λ g. node_row (of_pat no_fields_pat) ts) (λ g. node_row (of_pat fields_pat) ts))))

  whole_pat_post : (ts : List Token) → Post (Stands (λ r. Deep (suc d) Whole_pat ts r)) (λ (y : Tree Whole_pat × ℕ × List Token). Spells Whole_pat y.0 y.1 ts y.2) (whole_pat_at read (suc d) ts)
  unfolding whole_pat_at
  whole_pat_post ts = post_call (lift (λ r x. in_pass plain_pat x)) _ (atomic_pat_post ts) (λ y hy. once_post (starts fixed.Colon) pat_type (λ t. t) y.0 y.1 ts y.2 hy (λ x. pass plain_pat x) (λ e. e))

  -- parentheses
  round_end_post : (t : Token) (us : List Token) → t.kind ≡ kind.Fixed fixed.OpenParen → passes plain_paren us ≡ true → (e : SourceExp) (h : ℕ) (vs : List Token) → Phrase Whole e h us vs → Post (Stands (λ r. Deep (suc d) Base (t ∷ us) r)) (λ (y : SourceExp × ℕ × List Token). Spells Base y.0 y.1 (t ∷ us) y.2) (round_end read (suc d) (spot t) e h vs)
  unfolding round_end
  round_end_post t us k plain e h vs x =
      post_if (starts fixed.Comma vs)
      (λ c. let s = starting fixed.Comma vs c in let w = phrase_ends s.is x in
      post_call (lift (λ r z. in_row (of_exp round) (past_part (sign {g = 0} k) (past_part (look {g = 0} plain) (in_part (in_commas (past_item w s.kind z))))))) _ (commas_post read d given_read (length (tail vs)) Whole (max 0 h) (tail vs))
      (λ es hes. post_bind _ (expect_post fixed.CloseParen es.2) (λ ws hws. good (row (of_exp round) (then_ (sign k) (then_ (look plain) (then_ (commas (next_item w s.kind hes)) (then_ (close_sign hws.0 hws.1) done))))))))
      (λ c. post_bind _ (expect_post fixed.CloseParen vs) (λ ws hws. good (row (of_exp round) (then_ (sign k) (then_ (look plain) (then_ (commas (last_item x c)) (then_ (close_sign hws.0 hws.1) done)))))))

  section_end_post : (t : Token) (us : List Token) → t.kind ≡ kind.Fixed fixed.OpenParen → passes plain_paren us ≡ true → (o : Fixed) (e : SourceExp) (h : ℕ) (vs : List Token) → Phrase (Operands (suc (level o))) e h us vs → Post (Stands (λ r. Deep (suc d) Base (t ∷ us) r)) (λ (y : SourceExp × ℕ × List Token). Spells Base y.0 y.1 (t ∷ us) y.2) (section_end read (suc d) o (spot t) e h vs)
  unfolding section_end
  section_end_post t us k plain o e h vs x =
      post_bind _ (operator_post (max 0 h) o vs) (λ op hop. post_bind _ (expect_post fixed.CloseParen op.1) (λ ws hws. good (row (of_exp (operator_last o)) (then_ (sign k) (then_ (look plain) (then_ (sub x) (then_ hop (then_ (close_sign hws.0 hws.1) done))))))))

  plain_end_post : (t : Token) (us : List Token) → t.kind ≡ kind.Fixed fixed.OpenParen → passes plain_paren us ≡ true → (v : Tree Inside) (h : ℕ) (vs : List Token) → Phrase Inside v h us vs → Post (Stands (λ r. Deep (suc d) Base (t ∷ us) r)) (λ (y : SourceExp × ℕ × List Token). Spells Base y.0 y.1 (t ∷ us) y.2) (plain_end read (suc d) v.1 (spot t) v.0 h vs)
  plain_end_post t us k plain v h vs (phrase b x q) = go (inside_view x)
    where
      go : {v : Tree Inside} → Inside_view v h us vs → Post (Stands (λ r. Deep (suc d) Base (t ∷ us) r)) (λ (y : SourceExp × ℕ × List Token). Spells Base y.0 y.1 (t ∷ us) y.2) (plain_end read (suc d) v.1 (spot t) v.0 h vs)
      go (whole_view {p = p} w) = round_end_post t us k plain p h vs w
      go (operand_view {o = o} {p = p} s w) = section_end_post t us k plain o p h vs w

  plain_post : (t : Token) (us : List Token) → t.kind ≡ kind.Fixed fixed.OpenParen → passes plain_paren us ≡ true → Post (Stands (λ r. Deep (suc d) Base (t ∷ us) r)) (λ (y : SourceExp × ℕ × List Token). Spells Base y.0 y.1 (t ∷ us) y.2) (plain_at read (suc d) (t ∷ us))
  unfolding plain_at
  plain_post t us k plain = post_call (lift (λ r x. in_parens k plain x)) _ (given_read Inside us) (λ e he. plain_end_post t us k plain e.0 e.1 e.2 he)

  section_or_plain_post : (t : Token) (us : List Token) → t.kind ≡ kind.Fixed fixed.OpenParen → starts fixed.CloseParen us ≡ false → starts fixed.Dot us ≡ false → (o : Option Fixed) → any_operator us ≡ o → Post (Stands (λ r. Deep (suc d) Base (t ∷ us) r)) (λ (y : SourceExp × ℕ × List Token). Spells Base y.0 y.1 (t ∷ us) y.2) (section_or_plain read (suc d) o (t ∷ us))
  unfolding operator_section_at
  section_or_plain_post t us k c dot None e = plain_post t us k (rw (c, dot, e) refl)
  section_or_plain_post t us k c dot (Some o) e =
      post_if (is_section (Some o) (tail us))
      (λ f. post_if (starts fixed.CloseParen (behind_operator o (tail us))) (λ g. node_row (of_exp (bare_operator o)) (t ∷ us)) (λ g. node_row (of_exp (operator_first o)) (t ∷ us)))
      (λ f. plain_post t us k (rw (c, dot, e, f) refl))

  paren_post : (t : Token) (us : List Token) → t.kind ≡ kind.Fixed fixed.OpenParen → Post (Stands (λ r. Deep (suc d) Base (t ∷ us) r)) (λ (y : SourceExp × ℕ × List Token). Spells Base y.0 y.1 (t ∷ us) y.2) (paren_at read (suc d) (t ∷ us))
  unfolding paren_at
  paren_post t us k =
      post_if (starts fixed.CloseParen us) (λ e. node_row (of_exp unit) (t ∷ us))
      (λ a. post_if (starts fixed.Dot us) (λ e. post_if (starts fixed.OpenBracket (tail us)) (λ f. node_row (of_exp bare_index) (t ∷ us)) (λ f. node_row (of_exp bare_fields) (t ∷ us)))
      (λ b. section_or_plain_post t us k a b (any_operator us) refl))

  any_paren_post : (ts : List Token) → starts fixed.OpenParen ts ≡ true → Post (Stands (λ r. Deep (suc d) Base ts r)) (λ (y : SourceExp × ℕ × List Token). Spells Base y.0 y.1 ts y.2) (paren_at read (suc d) ts)
  any_paren_post ts e =
      let s = starting fixed.OpenParen ts e in
      subst (λ (xs : List Token). Post (Stands (λ r. Deep (suc d) Base xs r)) (λ (y : SourceExp × ℕ × List Token). Spells Base y.0 y.1 xs y.2) (paren_at read (suc d) xs)) (sym s.is) (paren_post s.token (tail ts) s.kind)

  base_post : (ts : List Token) → Post (Stands (λ r. Deep (suc d) Base ts r)) (λ (y : Tree Base × ℕ × List Token). Spells Base y.0 y.1 ts y.2) (base_at read (suc d) ts)
  unfolding base_at bracket_at
  base_post ts =
      post_if (is_word ts) (λ e. node_row (of_exp path) ts)
      (λ a. post_if (is_int ts) (λ e. node_row (of_exp number) ts)
      (λ b. post_if (starts fixed.KeyTrue ts) (λ e. node_row (of_exp truth) ts)
      (λ f. post_if (starts fixed.KeyFalse ts) (λ e. node_row (of_exp falsity) ts)
      (λ g. post_if (starts fixed.OpenParen ts) (λ e. any_paren_post ts e)
      (λ h. post_if (starts fixed.OpenBracket ts)
      (λ e. post_if (starts fixed.CloseBracket (tail ts)) (λ i. node_row (of_exp no_elements) ts) (λ i. node_row (of_exp elements) ts))
      (λ e. post_if (starts fixed.CloseBrace (tail ts)) (λ i. node_row (of_exp empty_record) ts) (λ i. node_row (of_exp record_of) ts)))))))

  atom_post : (ts : List Token) → Post (Stands (λ r. Deep (suc d) Atom ts r)) (λ (y : Tree Atom × ℕ × List Token). Spells Atom y.0 y.1 ts y.2) (atom_at read (suc d) ts)
  unfolding atom_at
  atom_post ts = post_call (lift (λ r x. in_pass base x)) _ (base_post ts) (λ a ha. again_post behind_atom atom_suffix ts atom_begins (suc d) a.0 a.1 a.2 (pass base ha) (omega arith))

  app_post : (ts : List Token) → Post (Stands (λ r. Deep (suc d) App ts r)) (λ (y : Tree App × ℕ × List Token). Spells App y.0 y.1 ts y.2) (app_at read (suc d) ts)
  unfolding app_at
  app_post ts = post_call (lift (λ r x. in_pass atom x)) _ (atom_post ts) (λ a ha. again_post begins_argument (λ us. applied) ts (λ us e. e) (suc d) a.0 a.1 a.2 (pass atom ha) (omega arith))

  unary_post : (ts : List Token) → Post (Stands (λ r. Deep (suc d) Unary ts r)) (λ (y : Tree Unary × ℕ × List Token). Spells Unary y.0 y.1 ts y.2) (unary_at read (suc d) ts)
  unfolding unary_at
  unary_post ts =
      post_if (begins_atom ts) (λ e. post_lift (lift (λ r x. in_pass application x)) (app_post ts) (λ y hy. pass application hy))
      (λ a. post_if (starts fixed.Minus ts) (λ e. node_row (of_exp negation) ts)
      (λ b. post_if (starts fixed.Bang ts) (λ e. node_row (of_exp complement) ts) (λ f. node_row (of_exp assertion) ts)))

  -- operators
  now_operands : {k : ℕ} (o : Fixed) {start ts : List Token} {a : Ending} {h : ℕ} (z : Ending × ℕ × List Token) → k ≤ level o → Spells (Chain (left_level o)) a h start ts → behind_app ts ≡ false → Made true (Chain k) (Operator o ∷ Sub (Operand (right_level o)) ∷ []) (λ op b. (joined o (spot_of start).place op.0.place op.1 a.0 b, ending.Operands (Some o))) h ts z → So_far k start z.0 z.1 z.2 × (h < z.1)
  now_operands {k} o z le x q (made xs) =
      let so = ends_so {n = Chain k} (λ e. e.1) xs (λ v w. refl) in
      let fit_at : (m : ℕ) → fits z.0.1 m ≡ leb m (level o) = λ m. ap (λ (e : Ended). fits e m) so in
      (record { so_far = λ m e. suffix (operation o (leb-true _ _ (sym (fit_at m) ∙ e))) x q (at_level xs); fit = fit_at k ∙ le-leb _ _ le }, let i = parts_higher xs in omega arith)

  operand_post_deep : {A : Type 0} {P : A × ℕ × List Token → Type 0} (k : ℕ) (o : Fixed) (start : List Token) (a : Ending) (h : ℕ) (ts : List Token) → k ≤ level o → Spells (Chain (left_level o)) a h start ts → behind_app ts ≡ false → suc d ≤ h → Post (Stands (λ r. Deep (suc d) (Chain k) start r)) P (operand_too_deep read (suc d) o ts)
  unfolding operand_too_deep
  operand_post_deep k o start a h ts le x q up =
      post_bind _ (operator_post h o ts) (λ op hop. post_if (begins (Operand (right_level o)) op.1) (λ b. bad (deep_stands op.1 (at_operand le x q hop b up))) (λ b. bad (refused op.1)))

  operation_post : (k : ℕ) (o : Fixed) (start : List Token) (a : Ending) (h : ℕ) (ts : List Token) → k ≤ level o → Spells (Chain (left_level o)) a h start ts → Post (Stands (λ r. Deep (suc d) (Chain k) start r)) (λ (y : Ending × ℕ × List Token). So_far k start y.0 y.1 y.2 × (h < y.1)) (operation_at read (suc d) k o (spot_of start) a h ts)
  unfolding operation_at
  operation_post k o start a h ts le x =
      post_if (behind_app ts) (λ f. bad (refused ts))
      (λ q. post_if (ltb h (suc d))
      (λ lt. post_lift (lift (λ r y. in_suffix (operation {k = k} o le) x y)) (parts_post read d given_read true (Chain k) (Operator o ∷ Sub (Operand (right_level o)) ∷ []) (λ op b. (joined o (spot_of start).place op.0.place op.1 a.0 b, ending.Operands (Some o))) h ts) (λ z hz. now_operands o z le x q hz))
      (λ ge. operand_post_deep k o start a h ts le x q (ltb-false _ _ ge)))

  operators_post : (section_ends : Bool) (k : ℕ) (start : List Token) (n : ℕ) (a : Ending) (h : ℕ) (ts : List Token) → So_far k start a h ts → suc d ≤ h + n → Post (Stands (λ r. Deep (suc d) (Chain k) start r)) (λ (y : Ending × ℕ × List Token). So_far k start y.0 y.1 y.2) (operators_at read (suc d) section_ends k (spot_of start) n a h ts)
  unfolding operators_at
  operators_post section_ends k start zero a h ts x le =
      post_operator (operator_between section_ends a.1 k ts) (λ e. good x)
      (λ o e. let i = between_fits k section_ends a.1 o ts e in
      post_if (behind_app ts) (λ f. bad (refused ts)) (λ q. operand_post_deep k o start a h ts (operator_level k o ts i.0) (x.so_far _ i.1) q (omega arith)))
  operators_post section_ends k start (suc n) a h ts x le =
      post_operator (operator_between section_ends a.1 k ts) (λ e. good x)
      (λ o e. let i = between_fits k section_ends a.1 o ts e in
      post_bind _ (operation_post k o start a h ts (operator_level k o ts i.0) (x.so_far _ i.1)) (λ y hy. let up = hy.1 in operators_post section_ends k start n y.0 y.1 y.2 hy.0 (omega arith)))

  graded_post : (section_ends : Bool) (k : ℕ) (ts : List Token) → Post (Stands (λ r. Deep (suc d) (Chain k) ts r)) (λ (y : Ending × ℕ × List Token). So_far k ts y.0 y.1 y.2) (graded_at read (suc d) section_ends k ts)
  unfolding graded_at
  graded_post section_ends k ts = post_call (lift (λ r x. in_pass unary x)) _ (unary_post ts) (λ a ha. operators_post section_ends k ts (suc d) (a.0, ending.Operands None) a.1 a.2 (record { so_far = λ m e. pass unary ha; fit = refl }) (omega arith))

  chain_post : (k : ℕ) (ts : List Token) → Post (Stands (λ r. Deep (suc d) (Chain k) ts r)) (λ (y : Ending × ℕ × List Token). Spells (Chain k) y.0 y.1 ts y.2) (chain_at read (suc d) k ts)
  unfolding chain_at
  chain_post k ts = post_map (graded_post false k ts) (λ a ha. ha.so_far k ha.fit)

  operands_post : (k : ℕ) (ts : List Token) → Post (Stands (λ r. Deep (suc d) (Operands k) ts r)) (λ (y : SourceExp × ℕ × List Token). Spells (Operands k) y.0 y.1 ts y.2) (operands_at read (suc d) k ts)
  unfolding operands_at
  operands_post k ts = far_post (operands {k = k}) ts (chain_post k ts)

  -- behind operands
  range_behind_post : (start : List Token) (a : Ending) (h : ℕ) (ts : List Token) → Spells (Chain 1) a h start ts → Post (Stands (λ r. Deep (suc d) Range start r)) (λ (y : Ending × ℕ × List Token). Spells Range y.0 y.1 start y.2) (range_behind read (suc d) (spot_of start) a h ts)
  unfolding range_behind
  range_behind_post start a h ts x =
      post_if (starts fixed.DotDot ts)
      (λ e. post_map (suffix_post read d given_read range_by a h start ts x e) (λ y hy. hy.0))
      (λ e. once_post goes_range range_to (λ e. e) a h start ts x (λ y. pass chain y) (λ f. f))

  range_post : (ts : List Token) → Post (Stands (λ r. Deep (suc d) Range ts r)) (λ (y : Ending × ℕ × List Token). Spells Range y.0 y.1 ts y.2) (range_at read (suc d) ts)
  unfolding range_at
  range_post ts = post_call (lift (λ r x. in_pass chain x)) _ (chain_post 1 ts) (λ a ha. range_behind_post ts a.0 a.1 a.2 ha)

  updates_post : (start : List Token) (a : Ending) (h : ℕ) (ts : List Token) → Spells Range a h start ts → Post (Stands (λ r. Deep (suc d) Updated start r)) (λ (y : Ending × ℕ × List Token). Spells Updated y.0 y.1 start y.2) (updates_behind read (suc d) (spot_of start) a h ts)
  unfolding updates_behind
  updates_post start a h ts x = again_post (starts fixed.KeyWith) with_suffix start with_begins (suc d) a h ts (pass range x) (omega arith)

  types_post : (start : List Token) (a : Ending) (h : ℕ) (ts : List Token) → Spells Updated a h start ts → Post (Stands (λ r. Deep (suc d) Typed start r)) (λ (y : Ending × ℕ × List Token). Spells Typed y.0 y.1 start y.2) (types_behind read (suc d) (spot_of start) a h ts)
  unfolding types_behind
  types_post start a h ts x = again_post goes_typed typed_suffix start type_begins (suc d) a h ts (pass updated x) (omega arith)

  typed_behind_post : (start : List Token) (a : Ending) (h : ℕ) (ts : List Token) → Spells (Chain 1) a h start ts → Post (Stands (λ r. Deep (suc d) Typed start r)) (λ (y : Ending × ℕ × List Token). Spells Typed y.0 y.1 start y.2) (typed_behind read (suc d) (spot_of start) a h ts)
  unfolding typed_behind
  typed_behind_post start a h ts x =
      post_call (lift (λ r y. in_pass updated (in_pass range y))) _ (range_behind_post start a h ts x)
      (λ b hb. post_call (lift (λ r y. in_pass updated y)) _ (updates_post start b.0 b.1 b.2 hb) (λ u hu. types_post start u.0 u.1 u.2 hu))

  typed_post : (ts : List Token) → Post (Stands (λ r. Deep (suc d) Typed ts r)) (λ (y : Ending × ℕ × List Token). Spells Typed y.0 y.1 ts y.2) (typed_at read (suc d) ts)
  unfolding typed_at
  typed_post ts = post_call (lift (λ r x. in_pass updated (in_pass range (in_pass chain x)))) _ (chain_post 1 ts) (λ a ha. typed_behind_post ts a.0 a.1 a.2 ha)

  updated_post : (ts : List Token) → Post (Stands (λ r. Deep (suc d) Updated ts r)) (λ (y : Ending × ℕ × List Token). Spells Updated y.0 y.1 ts y.2) (updated_at read (suc d) ts)
  unfolding updated_at
  updated_post ts = post_call (lift (λ r x. in_pass range x)) _ (range_post ts) (λ a ha. updates_post ts a.0 a.1 a.2 ha)

  -- what begins with a keyword
  form_post : (ts : List Token) → Post (Stands (λ r. Deep (suc d) Big ts r)) (λ (y : Ending × ℕ × List Token). Spells Big y.0 y.1 ts y.2) (form_at read (suc d) ts)
  unfolding form_at
  form_post ts =
      post_if (starts fixed.KeyIf ts) (λ e. node_row (of_exp if_else) ts)
      (λ a. post_if (starts fixed.Backslash ts) (λ e. node_row (of_exp function) ts) (λ b. node_row (of_exp loop) ts))

  body_post : (ts : List Token) → starts fixed.KeyLet ts ≡ false → Post (Stands (λ r. Deep (suc d) Body ts r)) (λ (y : Ending × ℕ × List Token). Spells Body y.0 y.1 ts y.2) (body_at read (suc d) ts)
  unfolding body_at
  body_post ts n =
      post_if (begins_operand ts)
      (λ e. post_lift (lift (λ r x. in_last_body (in_pass typed x))) (typed_post ts) (λ y hy. body n (pass typed hy)))
      (λ e. post_lift (lift (λ r x. in_last_body (in_pass big x))) (form_post ts) (λ y hy. body n (pass big hy)))

  -- rows of lets
  pub data Row_end (bs : List (Tree Let_item)) (g h : ℕ) (ts rest : List Token) : Type 0 where
    row_end : Lets bs g h ts rest → starts fixed.KeyLet rest ≡ false → Row_end bs g h ts rest

  next_row : {b : Tree Let_item} {bs : List (Tree Let_item)} {g k h : ℕ} {t : Token} {ts us rest : List Token} → Phrase Let_item b k ts (t ∷ us) → t.kind ≡ kind.Fixed fixed.KeyLet → Row_end bs (max g k) h us rest → Row_end (b ∷ bs) g h ts rest
  next_row x e (row_end xs n) = row_end (next_let x e xs) n

  in_row_end : {b : Tree Let_item} {bs : List (Tree Let_item)} {g k h : ℕ} {s t : Token} {ts us rest : List Token} → Phrase Let_item b k ts (s ∷ t ∷ us) → s.kind ≡ kind.Fixed fixed.KeyIn → t.kind ≡ kind.Fixed fixed.KeyLet → Row_end bs (max g k) h us rest → Row_end (b ∷ bs) g h ts rest
  in_row_end x e f (row_end xs n) = row_end (in_let x e f xs) n

  lets_post : (k : ℕ) (g : ℕ) (ts : List Token) → Post (Stands (λ r. Deep_lets d ts r)) (λ (y : List (Tree Let_item) × ℕ × List Token). Row_end y.0 g y.1 ts y.2) (row_of_lets read (suc d) k g ts)
  unfolding row_of_lets
  lets_post zero g ts = bad (refused ts)
  lets_post (suc k) g ts =
      post_call (lift (λ r x. deep_let x)) _ (given_read Let_item ts) (λ b hb. post_if (starts fixed.KeyLet b.2)
      (λ e. let s = starting fixed.KeyLet b.2 e in let w = phrase_ends s.is hb in
      post_call (lift (λ r x. past_let w s.kind x)) _ (lets_post k (max g b.1) (tail b.2)) (λ bs hbs. good (next_row w s.kind hbs)))
      (λ e. post_bind _ (expect_post fixed.KeyIn b.2) (λ us hus. let s = hus.0 in
      post_if (starts fixed.KeyLet us)
      (λ f. let t = starting fixed.KeyLet us f in
      let w = phrase_ends (s.is ∙ ap (λ (xs : List Token). s.token ∷ xs) (sym hus.1 ∙ t.is)) hb in
      post_call (lift (λ r x. past_in_let w s.kind t.kind x)) _ (lets_post k (max g b.1) (tail us)) (λ bs hbs. good (in_row_end w s.kind t.kind hbs)))
      (λ f. let w = phrase_ends (s.is ∙ ap (λ (xs : List Token). s.token ∷ xs) (sym hus.1)) hb in good (row_end (last_let w s.kind f) f)))))

  let_post : (t : Token) (us : List Token) → t.kind ≡ kind.Fixed fixed.KeyLet → Post (Stands (λ r. Deep (suc d) Big (t ∷ us) r)) (λ (y : Ending × ℕ × List Token). Spells Big y.0 y.1 (t ∷ us) y.2) (lets_at read (suc d) (t ∷ us))
  unfolding lets_at
  let_post t us k =
      post_call (lift (λ r x. in_lets k x)) _ (lets_post (length (t ∷ us)) 0 us) (λ bs hbs. after_row bs.0 bs.1 bs.2 hbs)
    where
      after_row : (bs : List (Tree Let_item)) (g : ℕ) (vs : List Token) → Row_end bs 0 g us vs → Post (Stands (λ r. Deep (suc d) Big (t ∷ us) r)) (λ (y : Ending × ℕ × List Token). Spells Big y.0 y.1 (t ∷ us) y.2) (body_at read (suc d) vs >>= λ b. Ok ((exp_at t.place (form.Lets bs b.0.0), b.0.1), max (suc g) b.1, b.2))
      after_row bs g vs (row_end xs n) = post_call (lift (λ r x. in_body k xs x)) _ (body_post vs n) (λ b hb. good (lets k xs hb))

  any_let_post : (ts : List Token) → starts fixed.KeyLet ts ≡ true → Post (Stands (λ r. Deep (suc d) Big ts r)) (λ (y : Ending × ℕ × List Token). Spells Big y.0 y.1 ts y.2) (lets_at read (suc d) ts)
  any_let_post ts e =
      let s = starting fixed.KeyLet ts e in
      subst (λ (xs : List Token). Post (Stands (λ r. Deep (suc d) Big xs r)) (λ (y : Ending × ℕ × List Token). Spells Big y.0 y.1 xs y.2) (lets_at read (suc d) xs)) (sym s.is) (let_post s.token (tail ts) s.kind)

  big_post : (ts : List Token) → Post (Stands (λ r. Deep (suc d) Big ts r)) (λ (y : Ending × ℕ × List Token). Spells Big y.0 y.1 ts y.2) (big_at read (suc d) ts)
  unfolding big_at
  big_post ts = post_if (starts fixed.KeyLet ts) (λ e. any_let_post ts e) (λ e. form_post ts)

  last_post : (ts : List Token) → Post (Stands (λ r. Deep (suc d) Last ts r)) (λ (y : Ending × ℕ × List Token). Spells Last y.0 y.1 ts y.2) (last_at read (suc d) ts)
  unfolding last_at
  last_post ts =
      post_if (begins_operand ts)
      (λ e. post_lift (lift (λ r x. in_pass typed x)) (typed_post ts) (λ y hy. pass typed hy))
      (λ e. post_lift (lift (λ r x. in_pass big x)) (big_post ts) (λ y hy. pass big hy))

  whole_post : (ts : List Token) → Post (Stands (λ r. Deep (suc d) Whole ts r)) (λ (y : SourceExp × ℕ × List Token). Spells Whole y.0 y.1 ts y.2) (whole_at read (suc d) ts)
  unfolding whole_at
  whole_post ts = far_post whole ts (last_post ts)

  operand_post : (k : ℕ) (ts : List Token) → Post (Stands (λ r. Deep (suc d) (Operand k) ts r)) (λ (y : SourceExp × ℕ × List Token). Spells (Operand k) y.0 y.1 ts y.2) (operand_at read (suc d) k ts)
  unfolding operand_at
  operand_post k ts = post_if (begins_operand ts) (λ e. far_post (near_operand {k = k}) ts (chain_post k ts)) (λ e. far_post (far_operand {k = k}) ts (big_post ts))

  right_post : (ts : List Token) → Post (Stands (λ r. Deep (suc d) Right ts r)) (λ (y : SourceExp × ℕ × List Token). Spells Right y.0 y.1 ts y.2) (right_at read (suc d) ts)
  unfolding right_at
  right_post ts = post_if (begins_operand ts) (λ e. far_post near_right ts (range_post ts)) (λ e. far_post far_right ts (big_post ts))

  replacing_post : (ts : List Token) → Post (Stands (λ r. Deep (suc d) Replacing ts r)) (λ (y : Tree Replacing × ℕ × List Token). Spells Replacing y.0 y.1 ts y.2) (replacing_at read (suc d) ts)
  unfolding replacing_at
  replacing_post ts = post_if (starts fixed.Dot (tail ts)) (λ e. node_row (of_exp further_replaced) ts) (λ e. node_row (of_exp last_replaced) ts)

  -- first in parentheses
  inside_whole_post : (ts : List Token) {r : Read Ending} → Post (Stands (λ t. Deep (suc d) Last ts t)) (λ (y : Ending × ℕ × List Token). Spells Last y.0 y.1 ts y.2) r → Post (Stands (λ t. Deep (suc d) Inside ts t)) (λ (y : Tree Inside × ℕ × List Token). Spells Inside y.0 y.1 ts y.2) (inside_whole read (suc d) ts r)
  unfolding inside_whole
  inside_whole_post ts x = post_call (lift (λ t y. in_inside y)) _ (bounded_post ts (far_post whole ts x)) (λ y hy. good (no_operand hy))

  inside_operand_post : (o : Fixed) (a : Ending) (h : ℕ) (ts us : List Token) → section_at us ≡ Some o → So_far 1 ts a h us → Post (Stands (λ t. Deep (suc d) Inside ts t)) (λ (y : Tree Inside × ℕ × List Token). Spells Inside y.0 y.1 ts y.2) (inside_operand read (suc d) o a h ts us)
  unfolding inside_operand
  inside_operand_post o a h ts us s x =
      post_if (fits a.1 (suc (level o)))
      (λ f. post_bind _ (bounded_kept (λ vs. section_at vs ≡ Some o) ts (far_kept (λ vs. section_at vs ≡ Some o) (operands {k = suc (level o)}) a h ts us (x.so_far _ f) s)) (λ y hy. good (an_operand hy.1 hy.0)))
      (λ f. bad (refused _))

  inside_post : (ts : List Token) → Post (Stands (λ r. Deep (suc d) Inside ts r)) (λ (y : Tree Inside × ℕ × List Token). Spells Inside y.0 y.1 ts y.2) (inside_at read (suc d) ts)
  unfolding inside_at
  inside_post ts =
      post_if (begins_operand ts)
      (λ e. post_call (lift (λ r x. in_operands (in_far (operands {k = 1}) x))) _ (graded_post true 1 ts) (λ a ha. post_operator (fitting_from a.0.1 (section_at a.2))
      (λ f. inside_whole_post ts (post_lift (lift (λ r x. in_pass typed x)) (typed_behind_post ts a.0 a.1 a.2 (ha.so_far 1 ha.fit)) (λ y hy. pass typed hy)))
      (λ o f. inside_operand_post o a.0 a.1 ts a.2 (fitting_is a.0.1 o (section_at a.2) f).0 ha)))
      (λ e. inside_whole_post ts (post_lift (lift (λ r x. in_pass big x)) (big_post ts) (λ y hy. pass big hy)))

  -- modules
  atomic_mod_post : (ts : List Token) → Post (Stands (λ r. Deep (suc d) Atomic_mod ts r)) (λ (y : Tree Atomic_mod × ℕ × List Token). Spells Atomic_mod y.0 y.1 ts y.2) (atomic_mod_at read (suc d) ts)
  unfolding atomic_mod_at
  atomic_mod_post ts =
      post_if (is_word ts) (λ e. node_row (of_mod mod_path) ts)
      (λ a. post_if (starts fixed.OpenBrace ts) (λ e. node_row (of_mod mod_decs) ts)
      (λ b. post_if (starts fixed.OpenParen ts) (λ e. node_row (of_mod round_mod) ts)
      (λ f. far_post far_mod ts (node_row (of_mod mod_function) ts))))

  first_mod_post : (ts : List Token) → Post (Stands (λ r. Deep (suc d) First_mod ts r)) (λ (y : Tree First_mod × ℕ × List Token). Spells First_mod y.0 y.1 ts y.2) (first_mod_at read (suc d) ts)
  unfolding first_mod_at
  first_mod_post ts =
      post_if (starts fixed.KeyImport ts) (λ e. node_row (of_mod mod_import) ts)
      (λ e. post_lift (lift (λ r x. in_pass first_mod x)) (atomic_mod_post ts) (λ y hy. pass first_mod hy))

  applied_mod_post : (ts : List Token) → Post (Stands (λ r. Deep (suc d) Applied_mod ts r)) (λ (y : Tree Applied_mod × ℕ × List Token). Spells Applied_mod y.0 y.1 ts y.2) (applied_mod_at read (suc d) ts)
  unfolding applied_mod_at
  applied_mod_post ts = post_call (lift (λ r x. in_pass unapplied x)) _ (first_mod_post ts) (λ a ha. once_post begins_mod_argument applied_mod (λ m. m) a.0 a.1 ts a.2 ha (λ x. pass unapplied x) (λ e. e))

  last_mod_post : (ts : List Token) → Post (Stands (λ r. Deep (suc d) Last_mod ts r)) (λ (y : Tree Last_mod × ℕ × List Token). Spells Last_mod y.0 y.1 ts y.2) (last_mod_at read (suc d) ts)
  unfolding last_mod_at
  last_mod_post ts = post_call (lift (λ r x. in_pass unsealed x)) _ (applied_mod_post ts) (λ a ha. once_post (starts fixed.Colon) sealed (λ m. (m, false)) a.0 a.1 ts a.2 ha (λ x. pass unsealed x) (λ e. e))

  whole_mod_post : (ts : List Token) → Post (Stands (λ r. Deep (suc d) Whole_mod ts r)) (λ (y : Tree Whole_mod × ℕ × List Token). Spells Whole_mod y.0 y.1 ts y.2) (whole_mod_at read (suc d) ts)
  unfolding whole_mod_at
  whole_mod_post ts = far_post whole_mod ts (last_mod_post ts)

  -- module types
  atomic_mtype_post : (b : Bool) (ts : List Token) → Post (Stands (λ r. Deep (suc d) (Atomic_mtype b) ts r)) (λ (y : Tree (Atomic_mtype b) × ℕ × List Token). Spells (Atomic_mtype b) y.0 y.1 ts y.2) (atomic_mtype_at read (suc d) b ts)
  unfolding atomic_mtype_at
  atomic_mtype_post b ts =
      post_if (is_word ts) (λ e. node_row (of_mod (mtype_path b)) ts)
      (λ a. post_if (starts fixed.OpenBrace ts) (λ e. node_row (of_mod (mtype_specs b)) ts)
      (λ c. post_if (begins_named (tail ts)) (λ e. far_post (far_mtype b) ts (node_row (of_mod (mtype_arrow b)) ts)) (λ e. node_row (of_mod (round_mtype b)) ts)))

  whole_mtype_post : (b : Bool) (ts : List Token) → Post (Stands (λ r. Deep (suc d) (Whole_mtype b) ts r)) (λ (y : Tree (Whole_mtype b) × ℕ × List Token). Spells (Whole_mtype b) y.0 y.1 ts y.2) (whole_mtype_at read (suc d) b ts)
  unfolding whole_mtype_at
  whole_mtype_post b ts = post_call (lift (λ r x. in_pass (plain_mtype b) x)) _ (atomic_mtype_post b ts) (λ a ha. once_post (starts fixed.KeyWith) (with_types b) (λ t. t) a.0 a.1 ts a.2 ha (λ x. pass (plain_mtype b) x) (λ e. e))

  spec_post : (ts : List Token) → Post (Stands (λ r. Deep (suc d) Spec_item ts r)) (λ (y : Tree Spec_item × ℕ × List Token). Spells Spec_item y.0 y.1 ts y.2) (spec_at read (suc d) ts)
  unfolding spec_at
  spec_post ts =
      post_if (starts fixed.KeyVal ts) (λ e. node_row (of_mod spec_value) ts)
      (λ a. post_if (starts fixed.KeyType ts) (λ e. node_row (of_mod spec_type) ts)
      (λ b. post_if (starts fixed.KeyModule ts) (λ e. node_row (of_mod spec_module) ts) (λ f. node_row (of_mod spec_include) ts)))

  dec_post : (ts : List Token) → Post (Stands (λ r. Deep (suc d) Dec_item ts r)) (λ (y : Tree Dec_item × ℕ × List Token). Spells Dec_item y.0 y.1 ts y.2) (dec_at read (suc d) ts)
  unfolding dec_at
  dec_post ts = post_if (starts fixed.KeyLocal ts) (λ e. node_row (of_mod local_dec) ts) (λ e. node_row (of_mod plain_dec) ts)

  step_post : (n : Sort) (ts : List Token) → Post (Stands (λ r. Deep (suc d) n ts r)) (λ (y : Tree n × ℕ × List Token). Spells n y.0 y.1 ts y.2) (step read (suc d) n ts)
  unfolding step
  step_post Whole_type ts = whole_type_post ts
  step_post Applied_type ts = applied_type_post ts
  step_post Atomic_type ts = atomic_type_post ts
  step_post Type_name ts = node_row (of_type type_name) ts
  step_post Whole_pat ts = whole_pat_post ts
  step_post Atomic_pat ts = atomic_pat_post ts
  step_post Base ts = base_post ts
  step_post Atom ts = atom_post ts
  step_post App ts = app_post ts
  step_post Unary ts = unary_post ts
  step_post (Chain k) ts = chain_post k ts
  step_post Range ts = range_post ts
  step_post Updated ts = updated_post ts
  step_post Typed ts = typed_post ts
  step_post Last ts = last_post ts
  step_post Big ts = big_post ts
  step_post Whole ts = whole_post ts
  step_post (Operands k) ts = operands_post k ts
  step_post (Operand k) ts = operand_post k ts
  step_post Right ts = right_post ts
  step_post Inside ts = inside_post ts
  step_post Replacing ts = replacing_post ts
  step_post Whole_mod ts = whole_mod_post ts
  step_post Last_mod ts = last_mod_post ts
  step_post Applied_mod ts = applied_mod_post ts
  step_post First_mod ts = first_mod_post ts
  step_post Atomic_mod ts = atomic_mod_post ts
  step_post Far_mod ts = node_row (of_mod mod_function) ts
  step_post (Whole_mtype b) ts = whole_mtype_post b ts
  step_post (Atomic_mtype b) ts = atomic_mtype_post b ts
  step_post (Far_mtype b) ts = node_row (of_mod (mtype_arrow b)) ts
  step_post Spec_item ts = spec_post ts
  step_post Dec_item ts = dec_post ts
  step_post n ts = bad (refused ts)

pub sound : (d : ℕ) (n : Sort) → is_node n ≡ true → (ts : List Token) → Post (Stands (λ r. Deep d n ts r)) (λ (y : Tree n × ℕ × List Token). Phrase n y.0 y.1 ts y.2) (read_at d n ts)
unfolding read_at
sound zero n i ts = post_if (begins n ts) (λ e. bad (deep_stands ts (begun i e))) (λ e. bad (refused_sort n ts))
sound (suc d) n i ts = bounded_post ts (step_post (phrases (read_at d)) d (phrases_post (read_at d) d (sound d)) n ts)
