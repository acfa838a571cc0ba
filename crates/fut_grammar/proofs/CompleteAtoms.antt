-- What is spelled as an atom, an application or a negation is read so.
use Rattle.std.proofs.Common.{◌≡◌, ℕ, suc, ◌+◌, ◌≤◌, ◌<◌, max, Bool, true, false, ◌||◌, ◌&&◌, not, List, [], ◌∷◌, length, Option, Some, None, refl, sym, ap, subst, ◌∙◌, arith}
use Rattle.std.proofs.lemmas.Bool.{le-leb}
use Rattle.fut_token.specs.declared.token.Fixed.{Fixed}
use Rattle.fut_token.specs.declared.token.Fixed.TheVariants as fixed
use Rattle.fut_token.specs.declared.token.TokenKind.TheVariants as kind
use Rattle.fut_token.specs.declared.token.Token.{Token}
use Rattle.fut_ast.specs.declared.node.Spot.{Spot}
use Rattle.fut_ast.specs.Tokens.{spot_of, tail, starts, is_word, is_int}
use Rattle.fut_ast.specs.Sorts.{Tree, SourceExp, Sort, Base, Atom, App, Unary, Whole, Operands, Inside, Text}
use Rattle.fut_ast.specs.Parts.{Operator}
use Rattle.fut_ast.specs.Grammar.{last_name, more_names, Spells, row, suffix, pass, far, no_operand, an_operand, Phrase, phrase, Parts, done, then_, Has, look, sign, tight, names, digits, operator, named_operator, sub, commas, argument, Spells_commas, last_item, next_item}
use Rattle.fut_ast.specs.Grammar.{number as has_number}
use Rattle.fut_ast.specs.ExpRows.{path, number, truth, falsity, unit, round, no_elements, elements, empty_record, record_of, bare_operator, operator_first, operator_last, bare_fields, bare_index, assertion, negation, complement}
use Rattle.fut_ast.specs.Rows.{of_type, of_pat, of_exp, of_mod, indexed, field_name, field_digits, applied}
use Rattle.fut_ast.specs.Nodes.{round_exp_of, left_section}
use Rattle.fut_ast.specs.Operators.{level, behind_operator, is_whole, any_operator, section_at}
use Rattle.fut_ast.specs.Parts.{plain_paren}
use Rattle.fut_ast.specs.Rows.{base, atom, application}
use Rattle.fut_ast.specs.Behind.{begins, begins_argument, begins_atom, begins_operand, behind_atom, behind_app, is_section, passes}
use Rattle.fut_grammar.specs.Reading.{Read, operator_taken}
use Rattle.fut_grammar.specs.Phrases.{atom_suffix, again_at, round_end, section_end, plain_at, operator_section_at, section_or_plain, paren_at, bracket_at, base_at, atom_at, app_at, unary_at}
use Rattle.fut_ast.specs.Tokens.{is_fixed}
use Rattle.fut_grammar.proofs.Bools.{and_left, and_right, or_left, or_right, or_false_left, or_false_right, not_true}
use Rattle.fut_grammar.proofs.Fixeds.{starts_not, no_operator}
use Rattle.fut_grammar.proofs.Shorter.{commas_higher, parts_higher}
use Rattle.fut_grammar.proofs.Post.{Gets, gets, then_gets, as_part, one_higher}
use Rattle.fut_grammar.proofs.CompleteParts.{expect_gets, commas_gets, taken_of}
use Rattle.fut_grammar.proofs.Choices.{first_begins, first_is_word, first_item_begins, not_starting, readable, when_false, when_true, word_no_sign}
use Rattle.fut_grammar.proofs.CompleteSuffixes.{again_goes, again_stops, node_row}

module _ (read : (n : Sort) → List Token → Read (Tree n)) (limit : ℕ) (given_read : (n : Sort) (p : Tree n) (h : ℕ) (ts rest : List Token) → readable n ≡ true → Phrase n p h ts rest → Gets (limit ≤ h) (read n ts) (p, h, rest)) where
  -- operators and parentheses
  pub taken_gets : {high : Type 0} {o : Fixed} {v : Spot × Text} {g h : ℕ} {ts rest : List Token} → Has (Operator o) v g h ts rest → Gets high (operator_taken o ts) (v, rest)
  taken_gets x = taken_of x

  section_true : (o : Fixed) (ts : List Token) → starts fixed.CloseParen (behind_operator o ts) ≡ true → is_section (Some o) ts ≡ true
  section_true fixed.Minus ts e = e
  section_true o ts e = refl

  section_no_minus : (o : Fixed) (ts : List Token) → is_fixed fixed.Minus o ≡ false → is_section (Some o) ts ≡ true
  section_no_minus fixed.Minus ts e = absurd cc
  section_no_minus o ts e = refl

  any_is : {o : Fixed} {v : Spot × Text} {g h : ℕ} {ts rest : List Token} → Has (Operator o) v g h ts rest → any_operator ts ≡ Some o
  any_is {o} (operator e le n) = let b = le-leb 1 (level o) le in rw (e, b) refl
  any_is (named_operator e f g) = rw e refl

  plain_behind : (o : Fixed) (ts : List Token) → (o ≡ fixed.Backtick → ⊥) → behind_operator o ts ≡ ts
  plain_behind fixed.Backtick ts n = absurd (n refl)
  plain_behind o ts n = refl

  behind_is : {o : Fixed} {v : Spot × Text} {g h : ℕ} {ts rest : List Token} → Has (Operator o) v g h ts rest → behind_operator o (tail ts) ≡ rest
  behind_is {o} (operator {rest = rest} e le n) = plain_behind o rest n
  behind_is (named_operator e f g) = refl

  no_such : {o : Fixed} {v : Spot × Text} {g h : ℕ} {ts rest : List Token} (f : Fixed) → level f ≡ 0 → Has (Operator o) v g h ts rest → starts f ts ≡ false
  no_such {o} f z (operator {t = t} {rest = rest} e le n) = starts_not f o t rest e (no_operator f o z le)
  no_such f z (named_operator {s = s} {t = t} {u = u} {rest = rest} e x g) = starts_not f fixed.Backtick s (t ∷ u ∷ rest) e (no_operator f fixed.Backtick z (omega arith))

  minus_other : {o : Fixed} {v : Spot × Text} {g h : ℕ} {ts rest : List Token} → Has (Operator o) v g h ts rest → starts fixed.Minus ts ≡ false → is_fixed fixed.Minus o ≡ false
  minus_other {o} (operator {t = t} {rest = rest} e le n) m = go (is_fixed fixed.Minus o) refl
    where
      go : (b : Bool) → is_fixed fixed.Minus o ≡ b → b ≡ false
      go true k =
          let i : starts fixed.Minus (t ∷ rest) ≡ true = rw e k in
          absurd cc
      go false k = refl
  minus_other (named_operator e f g) m = refl

  plain_whole : (o : Fixed) (ts : List Token) → (o ≡ fixed.Backtick → ⊥) → is_whole o ts ≡ true
  plain_whole fixed.Backtick ts n = absurd (n refl)
  plain_whole o ts n = refl

  whole_is : {o : Fixed} {v : Spot × Text} {g h : ℕ} {ts rest : List Token} → Has (Operator o) v g h ts rest → is_whole o (tail ts) ≡ true
  whole_is {o} (operator {rest = rest} e le n) = plain_whole o rest n
  whole_is (named_operator e f g) = rw (f, g) refl

  pub section_of : {o : Fixed} {v : Spot × Text} {g h : ℕ} {ts rest : List Token} → Has (Operator o) v g h ts rest → starts fixed.CloseParen rest ≡ true → section_at ts ≡ Some o
  section_of {ts = ts} x c = let a = any_is x in let w = whole_is x in let b = behind_is x in rw a (rw w (rw b (rw c refl)))

  pub no_section_of : {o : Fixed} {v : Spot × Text} {g h : ℕ} {ts rest : List Token} → Has (Operator o) v g h ts rest → starts fixed.CloseParen rest ≡ false → section_at ts ≡ None
  no_section_of x c = let a = any_is x in let w = whole_is x in let b = behind_is x in rw a (rw w (rw b (rw c refl)))

  plain_facts : (ts : List Token) → passes plain_paren ts ≡ true → (starts fixed.CloseParen ts ≡ false) × (starts fixed.Dot ts ≡ false) × (is_section (any_operator ts) (tail ts) ≡ false)
  plain_facts ts c =
      let a = and_left (not (starts fixed.CloseParen ts) && not (starts fixed.Dot ts)) _ c in
      (not_true _ (and_left _ _ a), not_true _ (and_right (not (starts fixed.CloseParen ts)) _ a), not_true _ (and_right (not (starts fixed.CloseParen ts) && not (starts fixed.Dot ts)) _ c))

  plain_choice : {high : Type 0} (o : Option Fixed) (ts : List Token) {w : SourceExp × ℕ × List Token} → is_section o (tail (tail ts)) ≡ false → Gets high (plain_at read limit ts) w → Gets high (section_or_plain read limit o ts) w
  plain_choice None ts s x = x
  plain_choice (Some o) ts s x = when_false (is_section (Some o) (tail (tail ts))) _ s x

  section_choice : {high : Type 0} (o : Fixed) (q : Option Fixed) (ts : List Token) {w : SourceExp × ℕ × List Token} → q ≡ Some o → is_section (Some o) (tail (tail ts)) ≡ true → Gets high (operator_section_at read limit o ts) w → Gets high (section_or_plain read limit q ts) w
  section_choice o None ts e s x = absurd cc
  section_choice {high} o (Some p) ts {w = w} e s x =
      let i : p ≡ o = cc in
      let P : Fixed → Type 0 = λ r. Gets high (section_or_plain read limit (Some r) ts) w in
      subst P (sym i) (when_true (is_section (Some o) (tail (tail ts))) _ s x)

  paren_plain : {high : Type 0} (ts : List Token) {w : SourceExp × ℕ × List Token} → passes plain_paren (tail ts) ≡ true → Gets high (plain_at read limit ts) w → Gets high (paren_at read limit ts) w
  unfolding paren_at
  paren_plain ts c x = let f = plain_facts (tail ts) c in when_false (starts fixed.CloseParen (tail ts)) _ f.0 (when_false (starts fixed.Dot (tail ts)) _ f.1 (plain_choice (any_operator (tail ts)) ts f.2 x))

  paren_section : {high : Type 0} (o : Fixed) (ts : List Token) {w : SourceExp × ℕ × List Token} {v : Spot × Text} {g h : ℕ} {rest : List Token} → Has (Operator o) v g h (tail ts) rest → is_section (Some o) (tail (tail ts)) ≡ true → Gets high (operator_section_at read limit o ts) w → Gets high (paren_at read limit ts) w
  unfolding paren_at
  paren_section o ts x s y =
      when_false (starts fixed.CloseParen (tail ts)) _ (no_such fixed.CloseParen refl x) (when_false (starts fixed.Dot (tail ts)) _ (no_such fixed.Dot refl x) (section_choice o (any_operator (tail ts)) ts (any_is x) s y))

  inside_plain : {p : SourceExp} {k : ℕ} {ts rest : List Token} → Phrase Whole p k ts rest → Phrase Inside (p, None) k ts rest
  inside_plain (phrase b x q) = phrase b (no_operand (phrase b x q)) refl

  inside_section : {o : Fixed} {p : SourceExp} {k : ℕ} {ts rest : List Token} → section_at rest ≡ Some o → Phrase (Operands (suc (level o))) p k ts rest → Phrase Inside (p, Some o) k ts rest
  inside_section s (phrase b x q) = phrase (or_left _ _ b) (an_operand s (phrase b x q)) refl

  pub in_node : {n : Sort} {p : Tree n} {k : ℕ} {ts rest : List Token} → readable n ≡ true → Phrase n p k ts rest → Gets (limit < suc k) (read n ts) (p, k, rest)
  in_node {n} {p} {k} {ts} {rest} i x = one_higher (given_read n p k ts rest i x)

  round_gets : {es : List SourceExp} {g : ℕ} (t u : Token) {us rest : List Token} → Spells_commas Whole es 0 g us (u ∷ rest) → u.kind ≡ kind.Fixed fixed.CloseParen → Gets (limit < suc g) (plain_at read limit (t ∷ us)) (round_exp_of t.place es, suc g, rest)
  unfolding plain_at round_end
  round_gets t u {rest = rest} (last_item x n) f = then_gets _ (as_part (in_node refl (inside_plain x)) (omega arith)) (when_false (starts fixed.Comma (u ∷ rest)) _ n (then_gets _ (expect_gets _ _ f) gets))
  round_gets t u {rest = rest} (next_item {t = comma} {us = ws} x e xs) f =
      let le = commas_higher xs in
      then_gets _ (as_part (in_node refl (inside_plain x)) (omega arith)) (when_true (starts fixed.Comma (comma ∷ ws)) _ (rw e refl) (then_gets _ (one_higher (commas_gets read limit readable given_read (length ws) refl xs (omega arith))) (then_gets _ (expect_gets _ _ f) gets)))

  ends_parts : {n : Sort} {b p : Tree n} {g h : ℕ} {ts rest : List Token} (r : Read (Tree n)) → Parts n [] b p g h ts rest → Gets (limit < suc g) r (b, suc g, ts) → Gets (limit < suc h) r (p, suc h, rest)
  ends_parts r done x = x

  section_last : {o : Fixed} {e : SourceExp} {v : Spot × Text} {k g h : ℕ} (t u : Token) {us vs rest : List Token} → Phrase (Operands (suc (level o))) e k us vs → Has (Operator o) v g h vs (u ∷ rest) → u.kind ≡ kind.Fixed fixed.CloseParen → Gets (limit < suc (max 0 k)) (plain_at read limit (t ∷ us)) (left_section o t.place e v.0.place v.1, suc (max 0 k), rest)
  unfolding plain_at section_end
  section_last t u {rest = rest} x op f = then_gets _ (as_part (in_node refl (inside_section (section_of op (rw f refl)) x)) (omega arith)) (then_gets _ (taken_gets op) (then_gets _ (expect_gets _ _ f) gets))

  closes : {o : Fixed} {v : Spot × Text} {g h : ℕ} {ts rest : List Token} {b : Bool} → Has (Operator o) v g h ts rest → starts fixed.CloseParen rest ≡ b → starts fixed.CloseParen (behind_operator o (tail ts)) ≡ b
  closes x e = ap (λ (us : List Token). starts fixed.CloseParen us) (behind_is x) ∙ e

  higher : {p : SourceExp} {g h : ℕ} {r : Read SourceExp} {rest : List Token} → h ≡ g → Gets (limit < suc g) r (p, suc g, rest) → Gets (limit < suc h) r (p, suc h, rest)
  higher {p} {g} {h} {r} {rest} e x = subst (λ (k : ℕ). Gets (limit < suc k) r (p, suc k, rest)) (sym e) x

  operator_height : {o : Fixed} {v : Spot × Text} {g h : ℕ} {ts rest : List Token} → Has (Operator o) v g h ts rest → h ≡ g
  operator_height (operator e le n) = refl
  operator_height (named_operator e f g) = refl

  pub base_gets : {p : Tree Base} {h : ℕ} {ts rest : List Token} → Spells Base p h ts rest → Gets (limit < h) (base_at read limit ts) (p, h, rest)
  unfolding base_at bracket_at paren_at operator_section_at
  base_gets {ts = ts} (row (of_exp path) (then_ (names d) xs)) = when_true (is_word ts) _ (first_is_word d) (node_row read limit given_read (of_exp path) refl (then_ (names d) xs))
  base_gets {ts = ts} (row (of_exp number) (then_ (has_number e) xs)) = when_false (is_word ts) _ (rw e refl) (when_true (is_int ts) _ (rw e refl) (node_row read limit given_read (of_exp number) refl (then_ (has_number e) xs)))
  base_gets {ts = ts} (row (of_exp truth) (then_ (sign e) xs)) = when_false (is_word ts) _ (rw e refl) (when_false (is_int ts) _ (rw e refl) (when_true (starts fixed.KeyTrue ts) _ (rw e refl) (node_row read limit given_read (of_exp truth) refl (then_ (sign e) xs))))
  base_gets {ts = ts} (row (of_exp falsity) (then_ (sign e) xs)) = when_false (is_word ts) _ (rw e refl) (when_false (is_int ts) _ (rw e refl) (when_false (starts fixed.KeyTrue ts) _ (rw e refl) (when_true (starts fixed.KeyFalse ts) _ (rw e refl) (node_row read limit given_read (of_exp falsity) refl (then_ (sign e) xs)))))
  base_gets {ts = ts} (row (of_exp unit) (then_ (sign e) (then_ (sign f) xs))) = when_false (is_word ts) _ (rw e refl) (when_false (is_int ts) _ (rw e refl) (when_false (starts fixed.KeyTrue ts) _ (rw e refl) (when_false (starts fixed.KeyFalse ts) _ (rw e refl) (when_true (starts fixed.OpenParen ts) _ (rw e refl) (when_true (starts fixed.CloseParen (tail ts)) _ (rw f refl) (node_row read limit given_read (of_exp unit) refl (then_ (sign e) (then_ (sign f) xs))))))))
  base_gets {ts = ts} (row (of_exp round) (then_ (sign {t = t} e) (then_ (look c) (then_ (commas x) (then_ (sign {t = u} f) xs))))) = when_false (is_word ts) _ (rw e refl) (when_false (is_int ts) _ (rw e refl) (when_false (starts fixed.KeyTrue ts) _ (rw e refl) (when_false (starts fixed.KeyFalse ts) _ (rw e refl) (when_true (starts fixed.OpenParen ts) _ (rw e refl) (paren_plain ts c (ends_parts _ xs (round_gets t u x f)))))))
  base_gets {ts = ts} (row (of_exp no_elements) (then_ (sign e) (then_ (sign f) xs))) = when_false (is_word ts) _ (rw e refl) (when_false (is_int ts) _ (rw e refl) (when_false (starts fixed.KeyTrue ts) _ (rw e refl) (when_false (starts fixed.KeyFalse ts) _ (rw e refl) (when_false (starts fixed.OpenParen ts) _ (rw e refl) (when_true (starts fixed.OpenBracket ts) _ (rw e refl) (when_true (starts fixed.CloseBracket (tail ts)) _ (rw f refl) (node_row read limit given_read (of_exp no_elements) refl (then_ (sign e) (then_ (sign f) xs)))))))))
  base_gets {ts = ts} (row (of_exp elements) (then_ (sign e) (then_ (commas x) xs))) = when_false (is_word ts) _ (rw e refl) (when_false (is_int ts) _ (rw e refl) (when_false (starts fixed.KeyTrue ts) _ (rw e refl) (when_false (starts fixed.KeyFalse ts) _ (rw e refl) (when_false (starts fixed.OpenParen ts) _ (rw e refl) (when_true (starts fixed.OpenBracket ts) _ (rw e refl) (when_false (starts fixed.CloseBracket (tail ts)) _ (not_starting fixed.CloseBracket (begins Whole) (tail ts) (λ t us e. rw e refl) (first_item_begins x)) (node_row read limit given_read (of_exp elements) refl (then_ (sign e) (then_ (commas x) xs)))))))))
  base_gets {ts = ts} (row (of_exp empty_record) (then_ (sign e) (then_ (sign f) xs))) = when_false (is_word ts) _ (rw e refl) (when_false (is_int ts) _ (rw e refl) (when_false (starts fixed.KeyTrue ts) _ (rw e refl) (when_false (starts fixed.KeyFalse ts) _ (rw e refl) (when_false (starts fixed.OpenParen ts) _ (rw e refl) (when_false (starts fixed.OpenBracket ts) _ (rw e refl) (when_true (starts fixed.CloseBrace (tail ts)) _ (rw f refl) (node_row read limit given_read (of_exp empty_record) refl (then_ (sign e) (then_ (sign f) xs)))))))))
  base_gets {ts = ts} (row (of_exp record_of) (then_ (sign e) (then_ (commas x) xs))) = when_false (is_word ts) _ (rw e refl) (when_false (is_int ts) _ (rw e refl) (when_false (starts fixed.KeyTrue ts) _ (rw e refl) (when_false (starts fixed.KeyFalse ts) _ (rw e refl) (when_false (starts fixed.OpenParen ts) _ (rw e refl) (when_false (starts fixed.OpenBracket ts) _ (rw e refl) (when_false (starts fixed.CloseBrace (tail ts)) _ (word_no_sign fixed.CloseBrace (tail ts) (first_item_begins x)) (node_row read limit given_read (of_exp record_of) refl (then_ (sign e) (then_ (commas x) xs)))))))))
  base_gets {ts = ts} (row (of_exp (bare_operator o)) (then_ (sign e) (then_ x (then_ (sign f) xs)))) = when_false (is_word ts) _ (rw e refl) (when_false (is_int ts) _ (rw e refl) (when_false (starts fixed.KeyTrue ts) _ (rw e refl) (when_false (starts fixed.KeyFalse ts) _ (rw e refl) (when_true (starts fixed.OpenParen ts) _ (rw e refl) (paren_section o ts x (section_true o (tail (tail ts)) (closes x (rw f refl))) (when_true (starts fixed.CloseParen (behind_operator o (tail (tail ts)))) _ (closes x (rw f refl)) (node_row read limit given_read (of_exp (bare_operator o)) refl (then_ (sign e) (then_ x (then_ (sign f) xs))))))))))
  base_gets {ts = ts} (row (of_exp (operator_first o)) (then_ (sign e) (then_ (look c) (then_ x (then_ (sub {ts = vs} y) xs))))) = when_false (is_word ts) _ (rw e refl) (when_false (is_int ts) _ (rw e refl) (when_false (starts fixed.KeyTrue ts) _ (rw e refl) (when_false (starts fixed.KeyFalse ts) _ (rw e refl) (when_true (starts fixed.OpenParen ts) _ (rw e refl) (paren_section o ts x (section_no_minus o (tail (tail ts)) (minus_other x (not_true _ c))) (when_false (starts fixed.CloseParen (behind_operator o (tail (tail ts)))) _ (closes x (not_starting fixed.CloseParen begins_operand vs (λ t us e. rw e refl) (first_begins y))) (node_row read limit given_read (of_exp (operator_first o)) refl (then_ (sign e) (then_ (look c) (then_ x (then_ (sub y) xs)))))))))))
  base_gets {ts = ts} (row (of_exp (operator_last o)) (then_ (sign {t = t} e) (then_ (look c) (then_ (sub y) (then_ x (then_ (sign {t = u} f) xs)))))) = when_false (is_word ts) _ (rw e refl) (when_false (is_int ts) _ (rw e refl) (when_false (starts fixed.KeyTrue ts) _ (rw e refl) (when_false (starts fixed.KeyFalse ts) _ (rw e refl) (when_true (starts fixed.OpenParen ts) _ (rw e refl) (paren_plain ts c (ends_parts _ xs (higher (operator_height x) (section_last t u y x f))))))))
  base_gets {ts = ts} (row (of_exp bare_fields) (then_ (sign e) (then_ (look c) (then_ (sign f) (then_ (names d) xs))))) = when_false (is_word ts) _ (rw e refl) (when_false (is_int ts) _ (rw e refl) (when_false (starts fixed.KeyTrue ts) _ (rw e refl) (when_false (starts fixed.KeyFalse ts) _ (rw e refl) (when_true (starts fixed.OpenParen ts) _ (rw e refl) (when_false (starts fixed.CloseParen (tail ts)) _ (rw f refl) (when_true (starts fixed.Dot (tail ts)) _ (rw f refl) (when_false (starts fixed.OpenBracket (tail (tail ts))) _ (word_no_sign fixed.OpenBracket (tail (tail ts)) (first_is_word d)) (node_row read limit given_read (of_exp bare_fields) refl (then_ (sign e) (then_ (look c) (then_ (sign f) (then_ (names d) xs))))))))))))
  base_gets {ts = ts} (row (of_exp bare_index) (then_ (sign e) (then_ (sign f) (then_ (sign g) xs)))) = when_false (is_word ts) _ (rw e refl) (when_false (is_int ts) _ (rw e refl) (when_false (starts fixed.KeyTrue ts) _ (rw e refl) (when_false (starts fixed.KeyFalse ts) _ (rw e refl) (when_true (starts fixed.OpenParen ts) _ (rw e refl) (when_false (starts fixed.CloseParen (tail ts)) _ (rw f refl) (when_true (starts fixed.Dot (tail ts)) _ (rw f refl) (when_true (starts fixed.OpenBracket (tail (tail ts))) _ (rw g refl) (node_row read limit given_read (of_exp bare_index) refl (then_ (sign e) (then_ (sign f) (then_ (sign g) xs)))))))))))
  base_gets (row (of_type r) xs) = elim r [ ]
  base_gets (row (of_pat r) xs) = elim r [ ]
  base_gets (row (of_mod r) xs) = elim r [ ]
  base_gets (suffix s x q xs) = elim s [ ]
  base_gets (pass e x) = elim e [ ]
  base_gets (far e x q) = elim e [ ]

  base_begins : {p : Tree Base} {h : ℕ} {ts rest : List Token} → Spells Base p h ts rest → begins_atom ts ≡ true
  base_begins (row (of_exp path) (then_ (names (last_name e n)) xs)) = rw e refl
  base_begins (row (of_exp path) (then_ (names (more_names e f d)) xs)) = rw e refl
  base_begins (row (of_exp number) (then_ (has_number e) xs)) = rw e refl
  base_begins (row (of_exp truth) (then_ (sign e) xs)) = rw e refl
  base_begins (row (of_exp falsity) (then_ (sign e) xs)) = rw e refl
  base_begins (row (of_exp unit) (then_ (sign e) xs)) = rw e refl
  base_begins (row (of_exp round) (then_ (sign e) xs)) = rw e refl
  base_begins (row (of_exp no_elements) (then_ (sign {t = t} {rest = us} e) xs)) = or_right (begins_argument (t ∷ us)) _ (rw e refl)
  base_begins (row (of_exp elements) (then_ (sign {t = t} {rest = us} e) xs)) = or_right (begins_argument (t ∷ us)) _ (rw e refl)
  base_begins (row (of_exp empty_record) (then_ (sign e) xs)) = rw e refl
  base_begins (row (of_exp record_of) (then_ (sign e) xs)) = rw e refl
  base_begins (row (of_exp (bare_operator o)) (then_ (sign e) xs)) = rw e refl
  base_begins (row (of_exp (operator_first o)) (then_ (sign e) xs)) = rw e refl
  base_begins (row (of_exp (operator_last o)) (then_ (sign e) xs)) = rw e refl
  base_begins (row (of_exp bare_fields) (then_ (sign e) xs)) = rw e refl
  base_begins (row (of_exp bare_index) (then_ (sign e) xs)) = rw e refl
  base_begins (row (of_type r) xs) = elim r [ ]
  base_begins (row (of_pat r) xs) = elim r [ ]
  base_begins (row (of_mod r) xs) = elim r [ ]
  base_begins (suffix s x q xs) = elim s [ ]
  base_begins (pass e x) = elim e [ ]
  base_begins (far e x q) = elim e [ ]

  -- atoms and applications
  atom_then : {p : Tree Atom} {h j : ℕ} {ts us : List Token} {w : Tree Atom × ℕ × List Token} → Spells Atom p h ts us → h ≤ j → ((k : ℕ) → limit ≤ k + h → Gets (limit < j) (again_at read limit behind_atom atom_suffix (spot_of ts) k p h us) w) → Gets (limit < j) (atom_at read limit ts) w
  unfolding atom_at
  atom_then (pass base x) up more = then_gets _ (as_part (base_gets x) up) (more limit (omega arith))
  atom_then {p} {ts = ts} {us = rest} (suffix {a = a} {g = g} {h = h} {us = us} indexed x q (then_ (tight e f) xs)) up more = let le = parts_higher xs in atom_then x (omega arith) (again_goes read limit given_read behind_atom atom_suffix (spot_of ts) indexed a p g h us rest (rw (e, f) refl) (rw e refl) refl q (then_ (tight e f) xs) up more)
  atom_then {p} {ts = ts} {us = rest} (suffix {a = a} {g = g} {h = h} {us = us} field_name x q (then_ (look c) (then_ (sign e) xs))) up more = let le = parts_higher xs in atom_then x (omega arith) (again_goes read limit given_read behind_atom atom_suffix (spot_of ts) field_name a p g h us rest (rw e refl) (rw e refl) refl q (then_ (look c) (then_ (sign e) xs)) up more)
  atom_then {p} {ts = ts} {us = rest} (suffix {a = a} {g = g} {h = h} {us = us} field_digits x q (then_ (digits e) xs)) up more = let le = parts_higher xs in atom_then x (omega arith) (again_goes read limit given_read behind_atom atom_suffix (spot_of ts) field_digits a p g h us rest (rw e refl) (rw e refl) refl q (then_ (digits e) xs) up more)
  atom_then (row (of_type r) xs) up more = elim r [ ]
  atom_then (row (of_pat r) xs) up more = elim r [ ]
  atom_then (row (of_exp r) xs) up more = elim r [ ]
  atom_then (row (of_mod r) xs) up more = elim r [ ]
  atom_then (far e x q) up more = elim e [ ]

  pub atom_gets : {p : Tree Atom} {h : ℕ} {ts rest : List Token} → Spells Atom p h ts rest → behind_atom rest ≡ false → Gets (limit < h) (atom_at read limit ts) (p, h, rest)
  atom_gets {p} {h} {ts} {rest} x q = atom_then x (omega arith) (again_stops read limit given_read behind_atom atom_suffix (spot_of ts) p h rest q)

  app_then : {p : Tree App} {h j : ℕ} {ts us : List Token} {w : Tree App × ℕ × List Token} → Spells App p h ts us → behind_atom us ≡ false → h ≤ j → ((k : ℕ) → limit ≤ k + h → Gets (limit < j) (again_at read limit begins_argument (λ vs. applied) (spot_of ts) k p h us) w) → Gets (limit < j) (app_at read limit ts) w
  unfolding app_at
  app_then (pass atom x) q up more = then_gets _ (as_part (atom_gets x q) up) (more limit (omega arith))
  app_then {p} {ts = ts} {us = rest} (suffix {a = a} {g = g} {h = h} {us = us} applied x q (then_ (argument b y) xs)) w up more = let le = parts_higher xs in app_then x q (omega arith) (again_goes read limit given_read begins_argument (λ vs. applied) (spot_of ts) applied a p g h us rest b refl refl q (then_ (argument b y) xs) up more)
  app_then (row (of_type r) xs) q2 up more = elim r [ ]
  app_then (row (of_pat r) xs) q2 up more = elim r [ ]
  app_then (row (of_exp r) xs) q2 up more = elim r [ ]
  app_then (row (of_mod r) xs) q2 up more = elim r [ ]
  app_then (far e x q) q2 up more = elim e [ ]

  pub app_gets : {p : Tree App} {h : ℕ} {ts rest : List Token} → Spells App p h ts rest → behind_app rest ≡ false → Gets (limit < h) (app_at read limit ts) (p, h, rest)
  app_gets {p} {h} {ts} {rest} x q = app_then x (or_false_left _ _ q) (omega arith) (again_stops read limit given_read begins_argument (λ vs. applied) (spot_of ts) p h rest (or_false_right (behind_atom rest) _ q))

  atom_begins : {p : Tree Atom} {h : ℕ} {ts rest : List Token} → Spells Atom p h ts rest → begins_atom ts ≡ true
  atom_begins (pass base x) = base_begins x
  atom_begins (suffix indexed x q xs) = atom_begins x
  atom_begins (suffix field_name x q xs) = atom_begins x
  atom_begins (suffix field_digits x q xs) = atom_begins x
  atom_begins (row (of_type r) xs) = elim r [ ]
  atom_begins (row (of_pat r) xs) = elim r [ ]
  atom_begins (row (of_exp r) xs) = elim r [ ]
  atom_begins (row (of_mod r) xs) = elim r [ ]
  atom_begins (far e x q) = elim e [ ]

  app_begins : {p : Tree App} {h : ℕ} {ts rest : List Token} → Spells App p h ts rest → begins_atom ts ≡ true
  app_begins (pass atom x) = atom_begins x
  app_begins (suffix applied x q xs) = app_begins x
  app_begins (row (of_type r) xs) = elim r [ ]
  app_begins (row (of_pat r) xs) = elim r [ ]
  app_begins (row (of_exp r) xs) = elim r [ ]
  app_begins (row (of_mod r) xs) = elim r [ ]
  app_begins (far e x q) = elim e [ ]

  pub unary_gets : {p : Tree Unary} {h : ℕ} {ts rest : List Token} → Spells Unary p h ts rest → behind_app rest ≡ false → Gets (limit < h) (unary_at read limit ts) (p, h, rest)
  unfolding unary_at
  unary_gets {ts = ts} (pass application x) q = when_true (begins_atom ts) _ (app_begins x) (app_gets x q)
  unary_gets {ts = ts} (row (of_exp negation) (then_ (sign e) xs)) q = when_false (begins_atom ts) _ (rw e refl) (when_true (starts fixed.Minus ts) _ (rw e refl) (node_row read limit given_read (of_exp negation) refl (then_ (sign e) xs)))
  unary_gets {ts = ts} (row (of_exp complement) (then_ (sign e) xs)) q = when_false (begins_atom ts) _ (rw e refl) (when_false (starts fixed.Minus ts) _ (rw e refl) (when_true (starts fixed.Bang ts) _ (rw e refl) (node_row read limit given_read (of_exp complement) refl (then_ (sign e) xs))))
  unary_gets {ts = ts} (row (of_exp assertion) (then_ (sign e) xs)) q = when_false (begins_atom ts) _ (rw e refl) (when_false (starts fixed.Minus ts) _ (rw e refl) (when_false (starts fixed.Bang ts) _ (rw e refl) (node_row read limit given_read (of_exp assertion) refl (then_ (sign e) xs))))
  unary_gets (row (of_type r) xs) q2 = elim r [ ]
  unary_gets (row (of_pat r) xs) q2 = elim r [ ]
  unary_gets (row (of_mod r) xs) q2 = elim r [ ]
  unary_gets (suffix s x q xs) q2 = elim s [ ]
  unary_gets (far e x q) q2 = elim e [ ]

  pub unary_begins : {p : Tree Unary} {h : ℕ} {ts rest : List Token} → Spells Unary p h ts rest → begins_operand ts ≡ true
  unary_begins {ts = ts} (pass application x) = or_left (begins_atom ts || starts fixed.Minus ts || starts fixed.Bang ts) _ (or_left (begins_atom ts || starts fixed.Minus ts) _ (or_left (begins_atom ts) _ (app_begins x)))
  unary_begins (row (of_exp negation) (then_ (sign {t = t} {rest = us} e) xs)) = let ts = t ∷ us in or_left (begins_atom ts || starts fixed.Minus ts || starts fixed.Bang ts) _ (or_left (begins_atom ts || starts fixed.Minus ts) _ (or_right (begins_atom ts) _ (rw e refl)))
  unary_begins (row (of_exp complement) (then_ (sign {t = t} {rest = us} e) xs)) = let ts = t ∷ us in or_left (begins_atom ts || starts fixed.Minus ts || starts fixed.Bang ts) _ (or_right (begins_atom ts || starts fixed.Minus ts) _ (rw e refl))
  unary_begins (row (of_exp assertion) (then_ (sign {t = t} {rest = us} e) xs)) = let ts = t ∷ us in or_right (begins_atom ts || starts fixed.Minus ts || starts fixed.Bang ts) _ (rw e refl)
  unary_begins (row (of_type r) xs) = elim r [ ]
  unary_begins (row (of_pat r) xs) = elim r [ ]
  unary_begins (row (of_mod r) xs) = elim r [ ]
  unary_begins (suffix s x q xs) = elim s [ ]
  unary_begins (far e x q) = elim e [ ]
