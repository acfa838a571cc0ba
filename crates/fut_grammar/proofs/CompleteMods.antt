-- What is spelled as a module, a module type, a member or a declaration is read so.
use Rattle.std.proofs.Common.{◌≡◌, ℕ, ◌≤◌, ◌<◌, Bool, true, false, List, refl, arith}
use Rattle.fut_token.specs.declared.token.Fixed.TheVariants as fixed
use Rattle.fut_token.specs.declared.token.Token.{Token}
use Rattle.fut_ast.specs.Tokens.{tail, starts, is_word}
use Rattle.fut_ast.specs.Sorts.{Tree, Sort, Whole_mod, Last_mod, Applied_mod, First_mod, Atomic_mod, Far_mod, Mod_param, Whole_mtype, Atomic_mtype, Far_mtype, With_item, Spec_item, Dec_item, Dec_rest}
use Rattle.fut_ast.specs.Grammar.{last_name, more_names, Spells, row, suffix, pass, far, Phrase, phrase, then_, look, sign, word, names, sub, several}
use Rattle.fut_ast.specs.ModRows.{mod_path, mod_decs, round_mod, mod_function, mod_import, mod_param, mtype_path, mtype_specs, round_mtype, mtype_arrow, spec_value, spec_type, spec_module, spec_include, plain_dec, local_dec}
use Rattle.fut_ast.specs.Rows.{of_type, of_pat, of_exp, of_mod, applied_mod, sealed, with_types}
use Rattle.fut_ast.specs.Rows.{first_mod, unapplied, unsealed, plain_mtype, whole_mod, far_mod, far_mtype}
use Rattle.fut_ast.specs.Behind.{begins, begins_named, begins_mod_argument, behind_mod, continues}
use Rattle.fut_grammar.specs.Reading.{Read, row_at}
use Rattle.fut_grammar.specs.Phrases.{atomic_mod_at, first_mod_at, applied_mod_at, last_mod_at, whole_mod_at, atomic_mtype_at, whole_mtype_at, spec_at, dec_at}
use Rattle.fut_grammar.proofs.Bools.{or_false_left, or_false_right, not_true}
use Rattle.fut_grammar.proofs.Post.{Gets, then_gets, as_part}
use Rattle.fut_grammar.proofs.Shorter.{many_higher, parts_higher}
use Rattle.fut_grammar.proofs.Choices.{far_gets, first_begins, first_is_word, not_starting, readable, when_false, when_true}
use Rattle.fut_grammar.proofs.CompleteSuffixes.{node_row, once_not, once_there}

module _ (read : (n : Sort) → List Token → Read (Tree n)) (limit : ℕ) (given_read : (n : Sort) (p : Tree n) (h : ℕ) (ts rest : List Token) → readable n ≡ true → Phrase n p h ts rest → Gets (limit ≤ h) (read n ts) (p, h, rest)) where
  -- modules
  far_mod_begins : {p : Tree Far_mod} {h : ℕ} {ts rest : List Token} → Spells Far_mod p h ts rest → begins_mod_argument ts ≡ true
  far_mod_begins (row (of_mod mod_function) (then_ (sign e) xs)) = rw e refl
  far_mod_begins (row (of_type r) xs) = elim r [ ]
  far_mod_begins (row (of_pat r) xs) = elim r [ ]
  far_mod_begins (row (of_exp r) xs) = elim r [ ]
  far_mod_begins (suffix s x q xs) = elim s [ ]
  far_mod_begins (pass e x) = elim e [ ]
  far_mod_begins (far e x q) = elim e [ ]

  far_mod_gets : {p : Tree Far_mod} {h : ℕ} {ts rest : List Token} → Spells Far_mod p h ts rest → continues Far_mod p rest ≡ false → Gets (limit < h) (atomic_mod_at read limit ts) (p.0, h, rest)
  unfolding atomic_mod_at
  far_mod_gets {ts = ts} (row (of_mod mod_function) (then_ (sign e) xs)) q = when_false (is_word ts) _ (rw e refl) (when_false (starts fixed.OpenBrace ts) _ (rw e refl) (when_false (starts fixed.OpenParen ts) _ (rw e refl) (far_gets far_mod q (node_row read limit given_read (of_mod mod_function) refl (then_ (sign e) xs)))))
  far_mod_gets (row (of_type r) xs) w = elim r [ ]
  far_mod_gets (row (of_pat r) xs) w = elim r [ ]
  far_mod_gets (row (of_exp r) xs) w = elim r [ ]
  far_mod_gets (suffix s x q xs) w = elim s [ ]
  far_mod_gets (pass e x) w = elim e [ ]
  far_mod_gets (far e x q) w = elim e [ ]

  atomic_mod_begins : {p : Tree Atomic_mod} {h : ℕ} {ts rest : List Token} → Spells Atomic_mod p h ts rest → begins_mod_argument ts ≡ true
  atomic_mod_begins (row (of_mod mod_path) (then_ (names (last_name e n)) xs)) = rw e refl
  atomic_mod_begins (row (of_mod mod_path) (then_ (names (more_names e f d)) xs)) = rw e refl
  atomic_mod_begins (row (of_mod mod_decs) (then_ (sign e) xs)) = rw e refl
  atomic_mod_begins (row (of_mod round_mod) (then_ (sign e) xs)) = rw e refl
  atomic_mod_begins (far far_mod x q) = far_mod_begins x
  atomic_mod_begins (row (of_type r) xs) = elim r [ ]
  atomic_mod_begins (row (of_pat r) xs) = elim r [ ]
  atomic_mod_begins (row (of_exp r) xs) = elim r [ ]
  atomic_mod_begins (suffix s x q xs) = elim s [ ]
  atomic_mod_begins (pass e x) = elim e [ ]

  pub atomic_mod_gets : {p : Tree Atomic_mod} {h : ℕ} {ts rest : List Token} → Spells Atomic_mod p h ts rest → Gets (limit < h) (atomic_mod_at read limit ts) (p, h, rest)
  unfolding atomic_mod_at
  atomic_mod_gets {ts = ts} (row (of_mod mod_path) (then_ (names d) xs)) = when_true (is_word ts) _ (first_is_word d) (node_row read limit given_read (of_mod mod_path) refl (then_ (names d) xs))
  atomic_mod_gets {ts = ts} (row (of_mod mod_decs) (then_ (sign e) xs)) = when_false (is_word ts) _ (rw e refl) (when_true (starts fixed.OpenBrace ts) _ (rw e refl) (node_row read limit given_read (of_mod mod_decs) refl (then_ (sign e) xs)))
  atomic_mod_gets {ts = ts} (row (of_mod round_mod) (then_ (sign e) xs)) = when_false (is_word ts) _ (rw e refl) (when_false (starts fixed.OpenBrace ts) _ (rw e refl) (when_true (starts fixed.OpenParen ts) _ (rw e refl) (node_row read limit given_read (of_mod round_mod) refl (then_ (sign e) xs))))
  atomic_mod_gets {ts = ts} (far far_mod x q) = far_mod_gets x q
  atomic_mod_gets (row (of_type r) xs) = elim r [ ]
  atomic_mod_gets (row (of_pat r) xs) = elim r [ ]
  atomic_mod_gets (row (of_exp r) xs) = elim r [ ]
  atomic_mod_gets (suffix s x q xs) = elim s [ ]
  atomic_mod_gets (pass e x) = elim e [ ]

  pub first_mod_gets : {p : Tree First_mod} {h : ℕ} {ts rest : List Token} → Spells First_mod p h ts rest → Gets (limit < h) (first_mod_at read limit ts) (p, h, rest)
  unfolding first_mod_at
  first_mod_gets {ts = ts} (row (of_mod mod_import) (then_ (sign e) xs)) = when_true (starts fixed.KeyImport ts) _ (rw e refl) (node_row read limit given_read (of_mod mod_import) refl (then_ (sign e) xs))
  first_mod_gets {ts = ts} (pass first_mod x) = when_false (starts fixed.KeyImport ts) _ (not_starting fixed.KeyImport begins_mod_argument ts (λ t us e. rw e refl) (atomic_mod_begins x)) (atomic_mod_gets x)
  first_mod_gets (row (of_type r) xs) = elim r [ ]
  first_mod_gets (row (of_pat r) xs) = elim r [ ]
  first_mod_gets (row (of_exp r) xs) = elim r [ ]
  first_mod_gets (suffix s x q xs) = elim s [ ]
  first_mod_gets (far e x q) = elim e [ ]

  pub applied_mod_gets : {p : Tree Applied_mod} {h : ℕ} {ts rest : List Token} → Spells Applied_mod p h ts rest → begins_mod_argument rest ≡ false → Gets (limit < h) (applied_mod_at read limit ts) (p, h, rest)
  unfolding applied_mod_at
  applied_mod_gets (suffix applied_mod x q (then_ (several y ys) xs)) w = let most = many_higher ys in let le = parts_higher xs in then_gets _ (as_part (first_mod_gets x) (omega arith)) (once_there read limit given_read begins_mod_argument applied_mod _ (λ m. m) _ (first_begins y) refl q (then_ (several y ys) xs))
  applied_mod_gets {rest = rest} (pass unapplied x) w = then_gets _ (first_mod_gets x) (once_not read limit given_read begins_mod_argument applied_mod _ (λ m. m) _ _ rest w)
  applied_mod_gets (row (of_type r) xs) w = elim r [ ]
  applied_mod_gets (row (of_pat r) xs) w = elim r [ ]
  applied_mod_gets (row (of_exp r) xs) w = elim r [ ]
  applied_mod_gets (row (of_mod r) xs) w = elim r [ ]
  applied_mod_gets (far e x q) w = elim e [ ]

  pub last_mod_gets : {p : Tree Last_mod} {h : ℕ} {ts rest : List Token} → Spells Last_mod p h ts rest → behind_mod p.1 rest ≡ false → Gets (limit < h) (last_mod_at read limit ts) (p, h, rest)
  unfolding last_mod_at
  last_mod_gets (suffix sealed x q (then_ (sign e) xs)) w = let le = parts_higher xs in then_gets _ (as_part (applied_mod_gets x q) (omega arith)) (once_there read limit given_read (starts fixed.Colon) sealed _ (λ m. (m, false)) _ (rw e refl) refl q (then_ (sign e) xs))
  last_mod_gets {rest = rest} (pass unsealed x) w = then_gets _ (applied_mod_gets x (or_false_left _ _ w)) (once_not read limit given_read (starts fixed.Colon) sealed _ (λ m. (m, false)) _ _ rest (or_false_right (begins_mod_argument rest) _ w))
  last_mod_gets (row (of_type r) xs) w = elim r [ ]
  last_mod_gets (row (of_pat r) xs) w = elim r [ ]
  last_mod_gets (row (of_exp r) xs) w = elim r [ ]
  last_mod_gets (row (of_mod r) xs) w = elim r [ ]
  last_mod_gets (far e x q) w = elim e [ ]

  pub whole_mod_gets : {p : Tree Whole_mod} {h : ℕ} {ts rest : List Token} → Spells Whole_mod p h ts rest → Gets (limit < h) (whole_mod_at read limit ts) (p, h, rest)
  unfolding whole_mod_at
  whole_mod_gets (far whole_mod x q) = far_gets whole_mod q (last_mod_gets x q)
  whole_mod_gets (row (of_type r) xs) = elim r [ ]
  whole_mod_gets (row (of_pat r) xs) = elim r [ ]
  whole_mod_gets (row (of_exp r) xs) = elim r [ ]
  whole_mod_gets (row (of_mod r) xs) = elim r [ ]
  whole_mod_gets (suffix s x q xs) = elim s [ ]
  whole_mod_gets (pass e x) = elim e [ ]

  -- module types
  param_spells : {p : Tree Mod_param} {h : ℕ} {ts rest : List Token} → Spells Mod_param p h ts rest → (is_word ts ≡ false) × (starts fixed.OpenBrace ts ≡ false) × (begins_named (tail ts) ≡ true)
  param_spells (row (of_mod mod_param) (then_ (sign e) (then_ (word f) (then_ (sign g) xs)))) = (rw e refl, rw e refl, rw (f, g) refl)
  param_spells (row (of_type r) xs) = elim r [ ]
  param_spells (row (of_pat r) xs) = elim r [ ]
  param_spells (row (of_exp r) xs) = elim r [ ]
  param_spells (suffix s x q xs) = elim s [ ]
  param_spells (pass e x) = elim e [ ]
  param_spells (far e x q) = elim e [ ]

  param_start : {p : Tree Mod_param} {h : ℕ} {ts rest : List Token} → Phrase Mod_param p h ts rest → (is_word ts ≡ false) × (starts fixed.OpenBrace ts ≡ false) × (begins_named (tail ts) ≡ true)
  param_start (phrase b x q) = param_spells x

  far_mtype_gets : {b : Bool} {p : Tree (Far_mtype b)} {h : ℕ} {ts rest : List Token} → Spells (Far_mtype b) p h ts rest → starts fixed.KeyWith rest ≡ false → Gets (limit < h) (atomic_mtype_at read limit b ts) (p, h, rest)
  unfolding atomic_mtype_at
  far_mtype_gets {ts = ts} (row (of_mod (mtype_arrow b)) (then_ (sub x) xs)) q = let s = param_start x in when_false (is_word ts) _ s.0 (when_false (starts fixed.OpenBrace ts) _ s.1 (when_true (begins_named (tail ts)) _ s.2 (far_gets (far_mtype b) q (node_row read limit given_read (of_mod (mtype_arrow b)) refl (then_ (sub x) xs)))))
  far_mtype_gets (row (of_type r) xs) w = elim r [ ]
  far_mtype_gets (row (of_pat r) xs) w = elim r [ ]
  far_mtype_gets (row (of_exp r) xs) w = elim r [ ]
  far_mtype_gets (suffix s x q xs) w = elim s [ ]
  far_mtype_gets (pass e x) w = elim e [ ]
  far_mtype_gets (far e x q) w = elim e [ ]

  pub atomic_mtype_gets : {b : Bool} {p : Tree (Atomic_mtype b)} {h : ℕ} {ts rest : List Token} → Spells (Atomic_mtype b) p h ts rest → Gets (limit < h) (atomic_mtype_at read limit b ts) (p, h, rest)
  unfolding atomic_mtype_at
  atomic_mtype_gets {ts = ts} (row (of_mod (mtype_path b)) (then_ (names d) xs)) = when_true (is_word ts) _ (first_is_word d) (node_row read limit given_read (of_mod (mtype_path b)) refl (then_ (names d) xs))
  atomic_mtype_gets {ts = ts} (row (of_mod (mtype_specs b)) (then_ (sign e) xs)) = when_false (is_word ts) _ (rw e refl) (when_true (starts fixed.OpenBrace ts) _ (rw e refl) (node_row read limit given_read (of_mod (mtype_specs b)) refl (then_ (sign e) xs)))
  atomic_mtype_gets {ts = ts} (row (of_mod (round_mtype b)) (then_ (sign e) (then_ (look c) xs))) = when_false (is_word ts) _ (rw e refl) (when_false (starts fixed.OpenBrace ts) _ (rw e refl) (when_false (begins_named (tail ts)) _ (not_true _ c) (node_row read limit given_read (of_mod (round_mtype b)) refl (then_ (sign e) (then_ (look c) xs)))))
  atomic_mtype_gets (far (far_mtype b) x q) = far_mtype_gets x q
  atomic_mtype_gets (row (of_type r) xs) = elim r [ ]
  atomic_mtype_gets (row (of_pat r) xs) = elim r [ ]
  atomic_mtype_gets (row (of_exp r) xs) = elim r [ ]
  atomic_mtype_gets (suffix s x q xs) = elim s [ ]
  atomic_mtype_gets (pass e x) = elim e [ ]

  with_begins : {b : Bool} {p : Tree (With_item b)} {h : ℕ} {ts rest : List Token} → Phrase (With_item b) p h ts rest → starts fixed.KeyWith ts ≡ true
  with_begins (phrase b x q) = b

  pub whole_mtype_gets : {b : Bool} {p : Tree (Whole_mtype b)} {h : ℕ} {ts rest : List Token} → Spells (Whole_mtype b) p h ts rest → starts fixed.KeyWith rest ≡ false → Gets (limit < h) (whole_mtype_at read limit b ts) (p, h, rest)
  unfolding whole_mtype_at
  whole_mtype_gets (suffix (with_types b) x q (then_ (several y ys) xs)) w = let most = many_higher ys in let le = parts_higher xs in then_gets _ (as_part (atomic_mtype_gets x) (omega arith)) (once_there read limit given_read (starts fixed.KeyWith) (with_types b) _ (λ t. t) _ (with_begins y) refl q (then_ (several y ys) xs))
  whole_mtype_gets {rest = rest} (pass (plain_mtype b) x) w = then_gets _ (atomic_mtype_gets x) (once_not read limit given_read (starts fixed.KeyWith) (with_types b) _ (λ t. t) _ _ rest w)
  whole_mtype_gets (row (of_type r) xs) w = elim r [ ]
  whole_mtype_gets (row (of_pat r) xs) w = elim r [ ]
  whole_mtype_gets (row (of_exp r) xs) w = elim r [ ]
  whole_mtype_gets (row (of_mod r) xs) w = elim r [ ]
  whole_mtype_gets (far e x q) w = elim e [ ]

  pub spec_gets : {p : Tree Spec_item} {h : ℕ} {ts rest : List Token} → Spells Spec_item p h ts rest → Gets (limit < h) (spec_at read limit ts) (p, h, rest)
  unfolding spec_at
  spec_gets {ts = ts} (row (of_mod spec_value) (then_ (sign e) xs)) = when_true (starts fixed.KeyVal ts) _ (rw e refl) (node_row read limit given_read (of_mod spec_value) refl (then_ (sign e) xs))
  spec_gets {ts = ts} (row (of_mod spec_type) (then_ (sign e) xs)) = when_false (starts fixed.KeyVal ts) _ (rw e refl) (when_true (starts fixed.KeyType ts) _ (rw e refl) (node_row read limit given_read (of_mod spec_type) refl (then_ (sign e) xs)))
  spec_gets {ts = ts} (row (of_mod spec_module) (then_ (sign e) xs)) = when_false (starts fixed.KeyVal ts) _ (rw e refl) (when_false (starts fixed.KeyType ts) _ (rw e refl) (when_true (starts fixed.KeyModule ts) _ (rw e refl) (node_row read limit given_read (of_mod spec_module) refl (then_ (sign e) xs))))
  spec_gets {ts = ts} (row (of_mod spec_include) (then_ (sign e) xs)) = when_false (starts fixed.KeyVal ts) _ (rw e refl) (when_false (starts fixed.KeyType ts) _ (rw e refl) (when_false (starts fixed.KeyModule ts) _ (rw e refl) (node_row read limit given_read (of_mod spec_include) refl (then_ (sign e) xs))))
  spec_gets (row (of_type r) xs) = elim r [ ]
  spec_gets (row (of_pat r) xs) = elim r [ ]
  spec_gets (row (of_exp r) xs) = elim r [ ]
  spec_gets (suffix s x q xs) = elim s [ ]
  spec_gets (pass e x) = elim e [ ]
  spec_gets (far e x q) = elim e [ ]

  pub dec_gets : {p : Tree Dec_item} {h : ℕ} {ts rest : List Token} → Spells Dec_item p h ts rest → Gets (limit < h) (dec_at read limit ts) (p, h, rest)
  unfolding dec_at
  dec_gets {ts = ts} (row (of_mod local_dec) (then_ (sign e) xs)) = when_true (starts fixed.KeyLocal ts) _ (rw e refl) (node_row read limit given_read (of_mod local_dec) refl (then_ (sign e) xs))
  dec_gets {ts = ts} (row (of_mod plain_dec) (then_ (sub x) xs)) = when_false (starts fixed.KeyLocal ts) _ (not_starting fixed.KeyLocal (begins Dec_rest) ts (λ t us e. rw e refl) (first_begins x)) (node_row read limit given_read (of_mod plain_dec) refl (then_ (sub x) xs))
  dec_gets (row (of_type r) xs) = elim r [ ]
  dec_gets (row (of_pat r) xs) = elim r [ ]
  dec_gets (row (of_exp r) xs) = elim r [ ]
  dec_gets (suffix s x q xs) = elim s [ ]
  dec_gets (pass e x) = elim e [ ]
  dec_gets (far e x q) = elim e [ ]

  pub function_mod_gets : {p : Tree Far_mod} {h : ℕ} {ts rest : List Token} → Spells Far_mod p h ts rest → Gets (limit < h) (row_at read (of_mod mod_function) ts) (p, h, rest)
  function_mod_gets (row (of_mod mod_function) xs) = node_row read limit given_read (of_mod mod_function) refl xs
  function_mod_gets (row (of_type r) xs) = elim r [ ]
  function_mod_gets (row (of_pat r) xs) = elim r [ ]
  function_mod_gets (row (of_exp r) xs) = elim r [ ]
  function_mod_gets (suffix s x q xs) = elim s [ ]
  function_mod_gets (pass e x) = elim e [ ]
  function_mod_gets (far e x q) = elim e [ ]

  pub arrow_mtype_gets : {b : Bool} {p : Tree (Far_mtype b)} {h : ℕ} {ts rest : List Token} → Spells (Far_mtype b) p h ts rest → Gets (limit < h) (row_at read (of_mod (mtype_arrow b)) ts) (p, h, rest)
  arrow_mtype_gets (row (of_mod (mtype_arrow b)) xs) = node_row read limit given_read (of_mod (mtype_arrow b)) refl xs
  arrow_mtype_gets (row (of_type r) xs) = elim r [ ]
  arrow_mtype_gets (row (of_pat r) xs) = elim r [ ]
  arrow_mtype_gets (row (of_exp r) xs) = elim r [ ]
  arrow_mtype_gets (suffix s x q xs) = elim s [ ]
  arrow_mtype_gets (pass e x) = elim e [ ]
  arrow_mtype_gets (far e x q) = elim e [ ]
