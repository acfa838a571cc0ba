-- What is spelled as a phrase that is no node is read so.
use Rattle.std.proofs.Common.{◌≡◌, ℕ, ◌≤◌, Bool, true, false, cond, ◌||◌, ◌&&◌, not, List, Option, refl, ap, ◌∙◌}
use Rattle.fut_token.specs.declared.token.Fixed.TheVariants as fixed
use Rattle.fut_token.specs.declared.token.Token.{Token}
use Rattle.fut_ast.specs.Tokens.{spot_of, tail, starts, is_word}
use Rattle.fut_ast.specs.Sorts.{Tree, SourceExp, is_node, Sort, Type_argument, Type_field, Pat_field, Head_item, Size_item, Operands, Exp_field, Index_item, Named_item, Written_item, Let_item, Loop_item, Mod_param, With_item, Dec_rest}
use Rattle.fut_ast.specs.Parts.{Optional}
use Rattle.fut_ast.specs.Grammar.{raised, Spells, row, suffix, pass, far, Phrase, phrase, Parts, done, then_, Has, look, sign, word, variable, sub, absent, present}
use Rattle.fut_ast.specs.TypeRows.{size_argument, name_argument, type_argument, type_field}
use Rattle.fut_ast.specs.PatRows.{set_field, short_field, size_head, variable_head, size_name}
use Rattle.fut_ast.specs.ExpRows.{set_exp, short_exp, from_index, to_index, backwards, named_from, named_to, named_backwards, written_index, count, each, while, let_pattern, let_function, let_update}
use Rattle.fut_ast.specs.ModRows.{mod_param, with_item, dec_def, dec_let, dec_entry, dec_type, dec_module, dec_mtype, dec_open, dec_import}
use Rattle.fut_ast.specs.Rows.{of_type, of_pat, of_exp, of_mod}
use Rattle.fut_ast.specs.Parts.{no_counter, function_let, update_let}
use Rattle.fut_ast.specs.Rows.{Row, parts, tree}
use Rattle.fut_ast.specs.Behind.{begins_head, begins_pat, is_update_let, is_function_let, begins_atomic_type, begins_operand, continues, passes}
use Rattle.fut_grammar.specs.Reading.{Read, row_at}
use Rattle.fut_grammar.specs.Phrases.{bounded, type_argument_at, pat_field_at, head_at, exp_field_at, index_at, named_at, let_at, loop_item_at, module_at, other_dec_at, dec_rest_at, flat_at, nodes, items, phrases}
use Rattle.fut_grammar.proofs.Bools.{and_left, and_right, or_false_left, not_true}
use Rattle.fut_grammar.proofs.Post.{Gets}
use Rattle.fut_grammar.proofs.CompleteParts.{all_good, row_gets}
use Rattle.fut_grammar.proofs.Choices.{bounded_gets, either_sign, first_begins, node_simple, node_sort, not_starting, nothing_left, readable, simple, simple_readable, when_false, when_true, word_no_sign}

module _ (read : (n : Sort) → List Token → Read (Tree n)) (limit : ℕ) (given_read : (n : Sort) (p : Tree n) (h : ℕ) (ts rest : List Token) → node_sort n ≡ true → Phrase n p h ts rest → Gets (limit ≤ h) (read n ts) (p, h, rest)) where
  by_row : {n : Sort} (r : Row n) {p : Tree n} {h : ℕ} {ts rest : List Token} → all_good node_sort (parts r) ≡ true → Parts n (parts r) (tree r (spot_of ts)) p 0 h ts rest → Gets (limit ≤ h) (row_at read r ts) (p, raised (is_node n) h, rest)
  by_row r i xs = row_gets read limit node_sort given_read r i xs

  type_argument_gets : {p : Tree Type_argument} {h : ℕ} {ts rest : List Token} → Spells Type_argument p h ts rest → Gets (limit ≤ h) (type_argument_at read ts) (p, h, rest)
  unfolding type_argument_at
  type_argument_gets {ts = ts} (row (of_type size_argument) (then_ (sign e) xs)) = when_true (starts fixed.OpenBracket ts) _ (rw e refl) (by_row (of_type size_argument) refl (then_ (sign e) xs))
  type_argument_gets {ts = ts} (row (of_type name_argument) (then_ (sub x) xs)) = when_false (starts fixed.OpenBracket ts) _ (word_no_sign fixed.OpenBracket ts (first_begins x)) (when_true (is_word ts) _ (first_begins x) (by_row (of_type name_argument) refl (then_ (sub x) xs)))
  type_argument_gets {ts = ts} (row (of_type type_argument) (then_ (sub x) xs)) = when_false (starts fixed.OpenBracket ts) _ (not_starting fixed.OpenBracket begins_atomic_type ts (λ t us e. rw e refl) (first_begins x)) (when_false (is_word ts) _ (either_sign fixed.OpenParen fixed.OpenBrace ts (first_begins x)) (by_row (of_type type_argument) refl (then_ (sub x) xs)))
  type_argument_gets (row (of_pat r) xs) = elim r [ ]
  type_argument_gets (row (of_exp r) xs) = elim r [ ]
  type_argument_gets (row (of_mod r) xs) = elim r [ ]
  type_argument_gets (suffix s x q xs) = elim s [ ]
  type_argument_gets (pass e x) = elim e [ ]
  type_argument_gets (far e x q) = elim e [ ]

  type_field_gets : {p : Tree Type_field} {h : ℕ} {ts rest : List Token} → Spells Type_field p h ts rest → Gets (limit ≤ h) (row_at read (of_type type_field) ts) (p, h, rest)
  type_field_gets (row (of_type type_field) xs) = by_row (of_type type_field) refl xs
  type_field_gets (row (of_pat r) xs) = elim r [ ]
  type_field_gets (row (of_exp r) xs) = elim r [ ]
  type_field_gets (row (of_mod r) xs) = elim r [ ]
  type_field_gets (suffix s x q xs) = elim s [ ]
  type_field_gets (pass e x) = elim e [ ]
  type_field_gets (far e x q) = elim e [ ]

  pat_field_gets : {p : Tree Pat_field} {h : ℕ} {ts rest : List Token} → Spells Pat_field p h ts rest → starts fixed.Equal rest ≡ false → Gets (limit ≤ h) (pat_field_at read ts) (p, h, rest)
  unfolding pat_field_at
  pat_field_gets {ts = ts} (row (of_pat set_field) (then_ (word e) (then_ (sign f) xs))) w = when_true (starts fixed.Equal (tail ts)) _ (rw f refl) (by_row (of_pat set_field) refl (then_ (word e) (then_ (sign f) xs)))
  pat_field_gets {ts = ts} (row (of_pat short_field) (then_ (word e) done)) w = when_false (starts fixed.Equal (tail ts)) _ (w) (by_row (of_pat short_field) refl (then_ (word e) done))
  pat_field_gets (row (of_type r) xs) w = elim r [ ]
  pat_field_gets (row (of_exp r) xs) w = elim r [ ]
  pat_field_gets (row (of_mod r) xs) w = elim r [ ]
  pat_field_gets (suffix s x q xs) w = elim s [ ]
  pat_field_gets (pass e x) w = elim e [ ]
  pat_field_gets (far e x q) w = elim e [ ]

  head_gets : {p : Tree Head_item} {h : ℕ} {ts rest : List Token} → Spells Head_item p h ts rest → Gets (limit ≤ h) (head_at read ts) (p, h, rest)
  unfolding head_at
  head_gets {ts = ts} (row (of_pat size_head) (then_ (sign e) xs)) = when_true (starts fixed.OpenBracket ts) _ (rw e refl) (by_row (of_pat size_head) refl (then_ (sign e) xs))
  head_gets {ts = ts} (row (of_pat variable_head) (then_ (variable e) xs)) = when_false (starts fixed.OpenBracket ts) _ (rw e refl) (by_row (of_pat variable_head) refl (then_ (variable e) xs))
  head_gets (row (of_type r) xs) = elim r [ ]
  head_gets (row (of_exp r) xs) = elim r [ ]
  head_gets (row (of_mod r) xs) = elim r [ ]
  head_gets (suffix s x q xs) = elim s [ ]
  head_gets (pass e x) = elim e [ ]
  head_gets (far e x q) = elim e [ ]

  size_name_gets : {p : Tree Size_item} {h : ℕ} {ts rest : List Token} → Spells Size_item p h ts rest → Gets (limit ≤ h) (row_at read (of_pat size_name) ts) (p, h, rest)
  size_name_gets (row (of_pat size_name) xs) = by_row (of_pat size_name) refl xs
  size_name_gets (row (of_type r) xs) = elim r [ ]
  size_name_gets (row (of_exp r) xs) = elim r [ ]
  size_name_gets (row (of_mod r) xs) = elim r [ ]
  size_name_gets (suffix s x q xs) = elim s [ ]
  size_name_gets (pass e x) = elim e [ ]
  size_name_gets (far e x q) = elim e [ ]

  exp_field_gets : {p : Tree Exp_field} {h : ℕ} {ts rest : List Token} → Spells Exp_field p h ts rest → starts fixed.Equal rest ≡ false → Gets (limit ≤ h) (exp_field_at read ts) (p, h, rest)
  unfolding exp_field_at
  exp_field_gets {ts = ts} (row (of_exp set_exp) (then_ (word e) (then_ (sign f) xs))) w = when_true (starts fixed.Equal (tail ts)) _ (rw f refl) (by_row (of_exp set_exp) refl (then_ (word e) (then_ (sign f) xs)))
  exp_field_gets {ts = ts} (row (of_exp short_exp) (then_ (word e) xs)) w = when_false (starts fixed.Equal (tail ts)) _ (ap (λ (us : List Token). starts fixed.Equal us) (nothing_left xs) ∙ w) (by_row (of_exp short_exp) refl (then_ (word e) xs))
  exp_field_gets (row (of_type r) xs) w = elim r [ ]
  exp_field_gets (row (of_pat r) xs) w = elim r [ ]
  exp_field_gets (row (of_mod r) xs) w = elim r [ ]
  exp_field_gets (suffix s x q xs) w = elim s [ ]
  exp_field_gets (pass e x) w = elim e [ ]
  exp_field_gets (far e x q) w = elim e [ ]

  optional_no_colon : {v : Option SourceExp} {g h : ℕ} {ts rest : List Token} → Has (Optional (Operands 1)) v g h ts rest → (starts fixed.Colon rest || begins_operand rest) ≡ false → starts fixed.Colon ts ≡ false
  optional_no_colon (absent b) w = or_false_left _ _ w
  optional_no_colon {ts = ts} (present x) w = not_starting fixed.Colon begins_operand ts (λ t us e. rw e refl) (first_begins x)

  index_gets : {p : Tree Index_item} {h : ℕ} {ts rest : List Token} → Spells Index_item p h ts rest → (starts fixed.Colon rest || begins_operand rest) ≡ false → Gets (limit ≤ h) (index_at read ts) (p, h, rest)
  unfolding index_at
  index_gets {ts = ts} (row (of_exp backwards) (then_ (sign e) (then_ (look c) (then_ (sign f) xs)))) w = when_true (starts fixed.Colon ts) _ (rw e refl) (when_true (starts fixed.Colon (tail ts)) _ (rw f refl) (by_row (of_exp backwards) refl (then_ (sign e) (then_ (look c) (then_ (sign f) xs)))))
  index_gets {ts = ts} (row (of_exp to_index) (then_ (sign e) (then_ v (then_ (look c) done)))) w = when_true (starts fixed.Colon ts) _ (rw e refl) (when_false (starts fixed.Colon (tail ts)) _ (optional_no_colon v w) (by_row (of_exp to_index) refl (then_ (sign e) (then_ v (then_ (look c) done)))))
  index_gets {ts = ts} (row (of_exp from_index) (then_ (sub x) xs)) w = when_false (starts fixed.Colon ts) _ (not_starting fixed.Colon begins_operand ts (λ t us e. rw e refl) (first_begins x)) (by_row (of_exp from_index) refl (then_ (sub x) xs))
  index_gets (row (of_type r) xs) w = elim r [ ]
  index_gets (row (of_pat r) xs) w = elim r [ ]
  index_gets (row (of_mod r) xs) w = elim r [ ]
  index_gets (suffix s x q xs) w = elim s [ ]
  index_gets (pass e x) w = elim e [ ]
  index_gets (far e x q) w = elim e [ ]

  named_gets : {p : Tree Named_item} {h : ℕ} {ts rest : List Token} → Spells Named_item p h ts rest → (starts fixed.Colon rest || begins_operand rest) ≡ false → Gets (limit ≤ h) (named_at read ts) (p, h, rest)
  unfolding named_at
  named_gets {ts = ts} (row (of_exp named_backwards) (then_ (sign e) (then_ (look c) (then_ (sign f) xs)))) w = when_true (starts fixed.Colon ts) _ (rw e refl) (when_true (starts fixed.Colon (tail ts)) _ (rw f refl) (by_row (of_exp named_backwards) refl (then_ (sign e) (then_ (look c) (then_ (sign f) xs)))))
  named_gets {ts = ts} (row (of_exp named_to) (then_ (sign e) (then_ v (then_ (look c) done)))) w = when_true (starts fixed.Colon ts) _ (rw e refl) (when_false (starts fixed.Colon (tail ts)) _ (optional_no_colon v w) (by_row (of_exp named_to) refl (then_ (sign e) (then_ v (then_ (look c) done)))))
  named_gets {ts = ts} (row (of_exp named_from) (then_ (sub x) xs)) w = when_false (starts fixed.Colon ts) _ (not_starting fixed.Colon begins_operand ts (λ t us e. rw e refl) (first_begins x)) (by_row (of_exp named_from) refl (then_ (sub x) xs))
  named_gets (row (of_type r) xs) w = elim r [ ]
  named_gets (row (of_pat r) xs) w = elim r [ ]
  named_gets (row (of_mod r) xs) w = elim r [ ]
  named_gets (suffix s x q xs) w = elim s [ ]
  named_gets (pass e x) w = elim e [ ]
  named_gets (far e x q) w = elim e [ ]

  written_gets : {p : Tree Written_item} {h : ℕ} {ts rest : List Token} → Spells Written_item p h ts rest → Gets (limit ≤ h) (row_at read (of_exp written_index) ts) (p, h, rest)
  written_gets (row (of_exp written_index) xs) = by_row (of_exp written_index) refl xs
  written_gets (row (of_type r) xs) = elim r [ ]
  written_gets (row (of_pat r) xs) = elim r [ ]
  written_gets (row (of_mod r) xs) = elim r [ ]
  written_gets (suffix s x q xs) = elim s [ ]
  written_gets (pass e x) = elim e [ ]
  written_gets (far e x q) = elim e [ ]

  loop_item_gets : {p : Tree Loop_item} {h : ℕ} {ts rest : List Token} → Spells Loop_item p h ts rest → Gets (limit ≤ h) (loop_item_at read ts) (p, h, rest)
  unfolding loop_item_at
  loop_item_gets {ts = ts} (row (of_exp while) (then_ (sign e) xs)) = when_true (starts fixed.KeyWhile ts) _ (rw e refl) (by_row (of_exp while) refl (then_ (sign e) xs))
  loop_item_gets {ts = ts} (row (of_exp each) (then_ (sign e) (then_ (look c) xs))) = when_false (starts fixed.KeyWhile ts) _ (rw e refl) (when_true (passes no_counter (tail ts)) _ (c) (by_row (of_exp each) refl (then_ (sign e) (then_ (look c) xs))))
  loop_item_gets {ts = ts} (row (of_exp count) (then_ (sign e) (then_ (word w) (then_ (sign l) xs)))) = when_false (starts fixed.KeyWhile ts) _ (rw e refl) (when_false (passes no_counter (tail ts)) _ (rw (w, l) refl) (by_row (of_exp count) refl (then_ (sign e) (then_ (word w) (then_ (sign l) xs)))))
  loop_item_gets (row (of_type r) xs) = elim r [ ]
  loop_item_gets (row (of_pat r) xs) = elim r [ ]
  loop_item_gets (row (of_mod r) xs) = elim r [ ]
  loop_item_gets (suffix s x q xs) = elim s [ ]
  loop_item_gets (pass e x) = elim e [ ]
  loop_item_gets (far e x q) = elim e [ ]

  mod_param_gets : {p : Tree Mod_param} {h : ℕ} {ts rest : List Token} → Spells Mod_param p h ts rest → Gets (limit ≤ h) (row_at read (of_mod mod_param) ts) (p, h, rest)
  mod_param_gets (row (of_mod mod_param) xs) = by_row (of_mod mod_param) refl xs
  mod_param_gets (row (of_type r) xs) = elim r [ ]
  mod_param_gets (row (of_pat r) xs) = elim r [ ]
  mod_param_gets (row (of_exp r) xs) = elim r [ ]
  mod_param_gets (suffix s x q xs) = elim s [ ]
  mod_param_gets (pass e x) = elim e [ ]
  mod_param_gets (far e x q) = elim e [ ]

  with_item_gets : {b : Bool} {p : Tree (With_item b)} {h : ℕ} {ts rest : List Token} → Spells (With_item b) p h ts rest → Gets (limit ≤ h) (row_at read (of_mod (with_item b)) ts) (p, h, rest)
  with_item_gets (row (of_mod (with_item true)) xs) = by_row (of_mod (with_item true)) refl xs
  with_item_gets (row (of_mod (with_item false)) xs) = by_row (of_mod (with_item false)) refl xs
  with_item_gets (row (of_type r) xs) = elim r [ ]
  with_item_gets (row (of_pat r) xs) = elim r [ ]
  with_item_gets (row (of_exp r) xs) = elim r [ ]
  with_item_gets (suffix s x q xs) = elim s [ ]
  with_item_gets (pass e x) = elim e [ ]
  with_item_gets (far e x q) = elim e [ ]

  simple_gets : (n : Sort) (p : Tree n) (h : ℕ) (ts rest : List Token) → is_node n ≡ false → simple n ≡ true → Spells n p h ts rest → continues n p rest ≡ false → Gets (limit ≤ h) (flat_at read n ts) (p, h, rest)
  unfolding flat_at
  simple_gets Type_argument p h ts rest i s x q = type_argument_gets x
  simple_gets Type_field p h ts rest i s x q = type_field_gets x
  simple_gets Pat_field p h ts rest i s x q = pat_field_gets x q
  simple_gets Head_item p h ts rest i s x q = head_gets x
  simple_gets Size_item p h ts rest i s x q = size_name_gets x
  simple_gets Exp_field p h ts rest i s x q = exp_field_gets x q
  simple_gets Index_item p h ts rest i s x q = index_gets x q
  simple_gets Named_item p h ts rest i s x q = named_gets x q
  simple_gets Written_item p h ts rest i s x q = written_gets x
  simple_gets Let_item p h ts rest i s x q = absurd cc
  simple_gets Loop_item p h ts rest i s x q = loop_item_gets x
  simple_gets Mod_param p h ts rest i s x q = mod_param_gets x
  simple_gets (With_item b) p h ts rest i s x q = with_item_gets x
  simple_gets Dec_rest p h ts rest i s x q = absurd cc
  simple_gets n p h ts rest i s x q = absurd cc

module _ (read : (n : Sort) → List Token → Read (Tree n)) (limit : ℕ) (given_read : (n : Sort) (p : Tree n) (h : ℕ) (ts rest : List Token) → simple n ≡ true → Phrase n p h ts rest → Gets (limit ≤ h) (read n ts) (p, h, rest)) where
  simple_row : {n : Sort} (r : Row n) {p : Tree n} {h : ℕ} {ts rest : List Token} → all_good simple (parts r) ≡ true → Parts n (parts r) (tree r (spot_of ts)) p 0 h ts rest → Gets (limit ≤ h) (row_at read r ts) (p, raised (is_node n) h, rest)
  simple_row r i xs = row_gets read limit simple given_read r i xs

  let_gets : {p : Tree Let_item} {h : ℕ} {ts rest : List Token} → Spells Let_item p h ts rest → Gets (limit ≤ h) (let_at read ts) (p, h, rest)
  unfolding let_at
  let_gets {ts = ts} (row (of_exp let_update) (then_ (look c) xs)) = when_true (passes update_let ts) _ (c) (simple_row (of_exp let_update) refl (then_ (look c) xs))
  let_gets {ts = ts} (row (of_exp let_function) (then_ (look c) xs)) = when_false (passes update_let ts) _ (not_true _ (and_right (is_word ts && (begins_head (tail ts) || begins_pat (tail ts))) _ c)) (when_true (passes function_let ts) _ (c) (simple_row (of_exp let_function) refl (then_ (look c) xs)))
  let_gets {ts = ts} (row (of_exp let_pattern) (then_ (look c) xs)) = when_false (passes update_let ts) _ (not_true (is_update_let ts) (and_left _ _ c)) (when_false (passes function_let ts) _ (not_true (is_function_let ts) (and_right (not (is_update_let ts)) _ c)) (simple_row (of_exp let_pattern) refl (then_ (look c) xs)))
  let_gets (row (of_type r) xs) = elim r [ ]
  let_gets (row (of_pat r) xs) = elim r [ ]
  let_gets (row (of_mod r) xs) = elim r [ ]
  let_gets (suffix s x q xs) = elim s [ ]
  let_gets (pass e x) = elim e [ ]
  let_gets (far e x q) = elim e [ ]

  dec_rest_gets : {p : Tree Dec_rest} {h : ℕ} {ts rest : List Token} → Spells Dec_rest p h ts rest → Gets (limit ≤ h) (dec_rest_at read ts) (p, h, rest)
  unfolding dec_rest_at other_dec_at module_at
  dec_rest_gets {ts = ts} (row (of_mod dec_def) (then_ (sign e) xs)) = when_true (starts fixed.KeyDef ts) _ (rw e refl) (simple_row (of_mod dec_def) refl (then_ (sign e) xs))
  dec_rest_gets {ts = ts} (row (of_mod dec_let) (then_ (sign e) xs)) = when_false (starts fixed.KeyDef ts) _ (rw e refl) (when_true (starts fixed.KeyLet ts) _ (rw e refl) (simple_row (of_mod dec_let) refl (then_ (sign e) xs)))
  dec_rest_gets {ts = ts} (row (of_mod dec_entry) (then_ (sign e) xs)) = when_false (starts fixed.KeyDef ts) _ (rw e refl) (when_false (starts fixed.KeyLet ts) _ (rw e refl) (when_true (starts fixed.KeyEntry ts) _ (rw e refl) (simple_row (of_mod dec_entry) refl (then_ (sign e) xs))))
  dec_rest_gets {ts = ts} (row (of_mod dec_type) (then_ (sign e) xs)) = when_false (starts fixed.KeyDef ts) _ (rw e refl) (when_false (starts fixed.KeyLet ts) _ (rw e refl) (when_false (starts fixed.KeyEntry ts) _ (rw e refl) (when_true (starts fixed.KeyType ts) _ (rw e refl) (simple_row (of_mod dec_type) refl (then_ (sign e) xs)))))
  dec_rest_gets {ts = ts} (row (of_mod dec_module) (then_ (sign e) (then_ (word w) xs))) = when_false (starts fixed.KeyDef ts) _ (rw e refl) (when_false (starts fixed.KeyLet ts) _ (rw e refl) (when_false (starts fixed.KeyEntry ts) _ (rw e refl) (when_false (starts fixed.KeyType ts) _ (rw e refl) (when_true (starts fixed.KeyModule ts) _ (rw e refl) (when_false (starts fixed.KeyType (tail ts)) _ (rw w refl) (simple_row (of_mod dec_module) refl (then_ (sign e) (then_ (word w) xs))))))))
  dec_rest_gets {ts = ts} (row (of_mod dec_mtype) (then_ (sign e) (then_ (sign f) xs))) = when_false (starts fixed.KeyDef ts) _ (rw e refl) (when_false (starts fixed.KeyLet ts) _ (rw e refl) (when_false (starts fixed.KeyEntry ts) _ (rw e refl) (when_false (starts fixed.KeyType ts) _ (rw e refl) (when_true (starts fixed.KeyModule ts) _ (rw e refl) (when_true (starts fixed.KeyType (tail ts)) _ (rw f refl) (simple_row (of_mod dec_mtype) refl (then_ (sign e) (then_ (sign f) xs))))))))
  dec_rest_gets {ts = ts} (row (of_mod dec_open) (then_ (sign e) xs)) = when_false (starts fixed.KeyDef ts) _ (rw e refl) (when_false (starts fixed.KeyLet ts) _ (rw e refl) (when_false (starts fixed.KeyEntry ts) _ (rw e refl) (when_false (starts fixed.KeyType ts) _ (rw e refl) (when_false (starts fixed.KeyModule ts) _ (rw e refl) (when_true (starts fixed.KeyOpen ts) _ (rw e refl) (simple_row (of_mod dec_open) refl (then_ (sign e) xs)))))))
  dec_rest_gets {ts = ts} (row (of_mod dec_import) (then_ (sign e) xs)) = when_false (starts fixed.KeyDef ts) _ (rw e refl) (when_false (starts fixed.KeyLet ts) _ (rw e refl) (when_false (starts fixed.KeyEntry ts) _ (rw e refl) (when_false (starts fixed.KeyType ts) _ (rw e refl) (when_false (starts fixed.KeyModule ts) _ (rw e refl) (when_false (starts fixed.KeyOpen ts) _ (rw e refl) (simple_row (of_mod dec_import) refl (then_ (sign e) xs)))))))
  dec_rest_gets (row (of_type r) xs) = elim r [ ]
  dec_rest_gets (row (of_pat r) xs) = elim r [ ]
  dec_rest_gets (row (of_exp r) xs) = elim r [ ]
  dec_rest_gets (suffix s x q xs) = elim s [ ]
  dec_rest_gets (pass e x) = elim e [ ]
  dec_rest_gets (far e x q) = elim e [ ]

module _ (inner : (n : Sort) → List Token → Read (Tree n)) (limit : ℕ) (given_inner : (n : Sort) (p : Tree n) (h : ℕ) (ts rest : List Token) → node_sort n ≡ true → Phrase n p h ts rest → Gets (limit ≤ h) (inner n ts) (p, h, rest)) where
  is_node_of : (n : Sort) → node_sort n ≡ true → is_node n ≡ true
  is_node_of n e = and_left _ _ e

  pub nodes_gets : (n : Sort) (p : Tree n) (h : ℕ) (ts rest : List Token) → node_sort n ≡ true → Phrase n p h ts rest → Gets (limit ≤ h) (nodes inner n ts) (p, h, rest)
  unfolding nodes
  nodes_gets n p h ts rest i x = when_true (is_node n) _ (is_node_of n i) (given_inner n p h ts rest i x)

  as_node : (n : Sort) → simple n ≡ true → is_node n ≡ true → node_sort n ≡ true
  as_node n s i = let r = simple_readable n s in rw (i, r) refl

  bounded_of : {n : Sort} {p : Tree n} {h : ℕ} {ts rest : List Token} {r : Read (Tree n)} → Phrase n p h ts rest → (Spells n p h ts rest → continues n p rest ≡ false → Gets (limit ≤ h) r (p, h, rest)) → Gets (limit ≤ h) (bounded n ts r) (p, h, rest)
  bounded_of {n} {ts = ts} {rest} (phrase b x q) k = bounded_gets n ts rest b q (k x q)

  items_gets : (n : Sort) (p : Tree n) (h : ℕ) (ts rest : List Token) → simple n ≡ true → Phrase n p h ts rest → Gets (limit ≤ h) (items inner n ts) (p, h, rest)
  unfolding items
  items_gets n p h ts rest s x = go (is_node n) refl
    where
      go : (b : Bool) → is_node n ≡ b → Gets (limit ≤ h) (cond b (inner n ts) (bounded n ts (flat_at (nodes inner) n ts))) (p, h, rest)
      go true i = given_inner n p h ts rest (as_node n s i) x
      go false i = bounded_of x (λ y q. simple_gets (nodes inner) limit nodes_gets n p h ts rest i s y q)

  double_gets : (n : Sort) (p : Tree n) (h : ℕ) (ts rest : List Token) → is_node n ≡ false → simple n ≡ false → readable n ≡ true → Spells n p h ts rest → Gets (limit ≤ h) (flat_at (items inner) n ts) (p, h, rest)
  unfolding flat_at
  double_gets Let_item p h ts rest i s r x = let_gets (items inner) limit items_gets x
  double_gets Dec_rest p h ts rest i s r x = dec_rest_gets (items inner) limit items_gets x
  double_gets n p h ts rest i s r x = absurd cc

  pub phrases_gets : (n : Sort) (p : Tree n) (h : ℕ) (ts rest : List Token) → readable n ≡ true → Phrase n p h ts rest → Gets (limit ≤ h) (phrases inner n ts) (p, h, rest)
  unfolding phrases
  phrases_gets n p h ts rest r x = go (is_node n) refl
    where
      go : (b : Bool) → is_node n ≡ b → Gets (limit ≤ h) (cond b (inner n ts) (bounded n ts (flat_at (items inner) n ts))) (p, h, rest)
      go true i = given_inner n p h ts rest (rw (i, r) refl) x
      go false i = bounded_of x (λ y q. flat (simple n) refl y q)
        where
          flat : (c : Bool) → simple n ≡ c → Spells n p h ts rest → continues n p rest ≡ false → Gets (limit ≤ h) (flat_at (items inner) n ts) (p, h, rest)
          flat true s y q = simple_gets (items inner) limit (λ m a k us vs g z. items_gets m a k us vs (node_simple m g) z) n p h ts rest i s y q
          flat false s y q = double_gets n p h ts rest i s r y
