-- What is spelled as a type or a pattern is read so.
use Rattle.std.proofs.Common.{◌≡◌, ℕ, ◌≤◌, ◌<◌, Bool, true, false, ◌&&◌, List, ◌∷◌, refl, sym, ap, ◌∙◌, arith}
use Rattle.fut_token.specs.declared.token.Fixed.{Fixed}
use Rattle.fut_token.specs.declared.token.Fixed.TheVariants as fixed
use Rattle.fut_token.specs.declared.token.TokenKind.TheVariants as kind
use Rattle.fut_token.specs.declared.token.Token.{Token}
use Rattle.fut_ast.specs.Tokens.{tail, starts, is_word, is_fixed}
use Rattle.fut_ast.specs.Sorts.{Tree, Path, Sort, Type_argument, Whole_type, Applied_type, Atomic_type, Type_name, Whole_pat, Atomic_pat}
use Rattle.fut_ast.specs.Grammar.{Spells_names, last_name, more_names, Spells, row, suffix, pass, far, Phrase, phrase, then_, look, sign, word, names, commas, many, Spells_commas, last_item, next_item, Spells_many, no_more, one_more}
use Rattle.fut_ast.specs.TypeRows.{named_arrow, unique, array_type, applied_name, unit_type, round_type, no_fields, fields, type_name}
use Rattle.fut_ast.specs.PatRows.{pat_name, wild, unit_pat, round_pat, no_fields_pat, fields_pat}
use Rattle.fut_ast.specs.Rows.{of_type, of_pat, of_exp, of_mod, arrow, pat_type}
use Rattle.fut_ast.specs.Rows.{plain_type, bracket_type, plain_pat}
use Rattle.fut_ast.specs.Behind.{begins_pat, begins_atomic_type, begins, begins_named}
use Rattle.fut_grammar.specs.Reading.{Read, row_at}
use Rattle.fut_grammar.specs.Phrases.{atomic_type_at, applied_type_at, whole_type_at, begins_named_arrow, atomic_pat_at, whole_pat_at}
use Rattle.fut_grammar.proofs.Bools.{and_left, and_right, and_false_left, and_false_right}
use Rattle.fut_grammar.proofs.Post.{Gets, then_gets, as_part}
use Rattle.fut_grammar.proofs.Shorter.{parts_higher}
use Rattle.fut_grammar.proofs.Choices.{either_sign, first_begins, first_is_word, first_item_begins, nothing_left, not_starting, readable, when_false, when_true, word_no_sign}
use Rattle.fut_grammar.proofs.CompleteSuffixes.{node_row, once_not, once_there}

module _ (read : (n : Sort) → List Token → Read (Tree n)) (limit : ℕ) (given_read : (n : Sort) (p : Tree n) (h : ℕ) (ts rest : List Token) → readable n ≡ true → Phrase n p h ts rest → Gets (limit ≤ h) (read n ts) (p, h, rest)) where
  -- types
  atomic_type_begins : {p : Tree Atomic_type} {h : ℕ} {ts rest : List Token} → Spells Atomic_type p h ts rest → begins_atomic_type ts ≡ true
  atomic_type_begins (row (of_type unit_type) (then_ (sign e) xs)) = rw e refl
  atomic_type_begins (row (of_type round_type) (then_ (sign e) xs)) = rw e refl
  atomic_type_begins (row (of_type no_fields) (then_ (sign e) xs)) = rw e refl
  atomic_type_begins (row (of_type fields) (then_ (sign e) xs)) = rw e refl
  atomic_type_begins (row (of_pat r) xs) = elim r [ ]
  atomic_type_begins (row (of_exp r) xs) = elim r [ ]
  atomic_type_begins (row (of_mod r) xs) = elim r [ ]
  atomic_type_begins (suffix s x q xs) = elim s [ ]
  atomic_type_begins (pass e x) = elim e [ ]
  atomic_type_begins (far e x q) = elim e [ ]

  pub atomic_type_gets : {p : Tree Atomic_type} {h : ℕ} {ts rest : List Token} → Spells Atomic_type p h ts rest → Gets (limit < h) (atomic_type_at read limit ts) (p, h, rest)
  unfolding atomic_type_at
  atomic_type_gets {ts = ts} (row (of_type unit_type) (then_ (sign e) (then_ (sign f) xs))) = when_true (starts fixed.OpenParen ts) _ (rw e refl) (when_true (starts fixed.CloseParen (tail ts)) _ (rw f refl) (node_row read limit given_read (of_type unit_type) refl (then_ (sign e) (then_ (sign f) xs))))
  atomic_type_gets {ts = ts} (row (of_type round_type) (then_ (sign e) (then_ (commas x) xs))) = when_true (starts fixed.OpenParen ts) _ (rw e refl) (when_false (starts fixed.CloseParen (tail ts)) _ (not_starting fixed.CloseParen (begins Whole_type) (tail ts) (λ t us e. rw e refl) (first_item_begins x)) (node_row read limit given_read (of_type round_type) refl (then_ (sign e) (then_ (commas x) xs))))
  atomic_type_gets {ts = ts} (row (of_type no_fields) (then_ (sign e) (then_ (sign f) xs))) = when_false (starts fixed.OpenParen ts) _ (rw e refl) (when_true (starts fixed.CloseBrace (tail ts)) _ (rw f refl) (node_row read limit given_read (of_type no_fields) refl (then_ (sign e) (then_ (sign f) xs))))
  atomic_type_gets {ts = ts} (row (of_type fields) (then_ (sign e) (then_ (commas x) xs))) = when_false (starts fixed.OpenParen ts) _ (rw e refl) (when_false (starts fixed.CloseBrace (tail ts)) _ (word_no_sign fixed.CloseBrace (tail ts) (first_item_begins x)) (node_row read limit given_read (of_type fields) refl (then_ (sign e) (then_ (commas x) xs))))
  atomic_type_gets (row (of_pat r) xs) = elim r [ ]
  atomic_type_gets (row (of_exp r) xs) = elim r [ ]
  atomic_type_gets (row (of_mod r) xs) = elim r [ ]
  atomic_type_gets (suffix s x q xs) = elim s [ ]
  atomic_type_gets (pass e x) = elim e [ ]
  atomic_type_gets (far e x q) = elim e [ ]

  pub applied_type_gets : {p : Tree Applied_type} {h : ℕ} {ts rest : List Token} → Spells Applied_type p h ts rest → Gets (limit < h) (applied_type_at read limit ts) (p, h, rest)
  unfolding applied_type_at
  applied_type_gets {ts = ts} (row (of_type unique) (then_ (sign e) xs)) = when_true (starts fixed.Star ts) _ (rw e refl) (node_row read limit given_read (of_type unique) refl (then_ (sign e) xs))
  applied_type_gets {ts = ts} (row (of_type array_type) (then_ (sign e) xs)) = when_false (starts fixed.Star ts) _ (rw e refl) (when_true (starts fixed.OpenBracket ts) _ (rw e refl) (node_row read limit given_read (of_type array_type) refl (then_ (sign e) xs)))
  applied_type_gets {ts = ts} (row (of_type applied_name) (then_ (names d) xs)) = when_false (starts fixed.Star ts) _ (word_no_sign fixed.Star ts (first_is_word d)) (when_false (starts fixed.OpenBracket ts) _ (word_no_sign fixed.OpenBracket ts (first_is_word d)) (when_true (is_word ts) _ (first_is_word d) (node_row read limit given_read (of_type applied_name) refl (then_ (names d) xs))))
  applied_type_gets {ts = ts} (pass bracket_type x) = when_false (starts fixed.Star ts) _ (not_starting fixed.Star begins_atomic_type ts (λ t us e. rw e refl) (atomic_type_begins x)) (when_false (starts fixed.OpenBracket ts) _ (not_starting fixed.OpenBracket begins_atomic_type ts (λ t us e. rw e refl) (atomic_type_begins x)) (when_false (is_word ts) _ (either_sign fixed.OpenParen fixed.OpenBrace ts (atomic_type_begins x)) (atomic_type_gets x)))
  applied_type_gets (row (of_pat r) xs) = elim r [ ]
  applied_type_gets (row (of_exp r) xs) = elim r [ ]
  applied_type_gets (row (of_mod r) xs) = elim r [ ]
  applied_type_gets (suffix s x q xs) = elim s [ ]
  applied_type_gets (far e x q) = elim e [ ]

  -- of a type that begins with a name before a ":", that name is all
  not_named : {f : Fixed} (t : Token) (us : List Token) → t.kind ≡ kind.Fixed f → begins_named (t ∷ us) ≡ true → ⊥
  not_named t us e n = let i : begins_named (t ∷ us) ≡ false = rw e refl in absurd cc

  ends_names : {xs : Path} {ts rest : List Token} → Spells_names xs ts rest → begins_named ts ≡ true → starts fixed.Colon rest ≡ true
  ends_names {rest = rest} (last_name {t = t} e d) n = and_right (is_word (t ∷ rest)) _ n
  ends_names (more_names {t = t} {dot = dot} {ts = ts} e f d) n = let i : begins_named (t ∷ dot ∷ ts) ≡ false = rw (e, f) refl in absurd cc

  ends_arguments : {args : List (Tree Type_argument)} {g h : ℕ} {ts rest : List Token} → Spells_many Type_argument args g h ts rest → starts fixed.Colon ts ≡ true → starts fixed.Colon rest ≡ true
  ends_arguments (no_more b) c = c
  ends_arguments {ts = ts} (one_more x xs) c =
      let i = not_starting fixed.Colon (begins Type_argument) ts (λ t us e. rw e refl) (first_begins x) in
      absurd cc

  ends_atomic : {p : Tree Atomic_type} {h : ℕ} {ts rest : List Token} → Spells Atomic_type p h ts rest → begins_named ts ≡ true → starts fixed.Colon rest ≡ true
  ends_atomic {ts = ts} x n = let i = either_sign fixed.OpenParen fixed.OpenBrace ts (atomic_type_begins x) in let j = and_left (is_word ts) _ n in absurd cc

  ends_applied : {p : Tree Applied_type} {h : ℕ} {ts rest : List Token} → Spells Applied_type p h ts rest → begins_named ts ≡ true → starts fixed.Colon rest ≡ true
  ends_applied (row (of_type unique) (then_ (sign {t = t} {rest = us} e) xs)) n = absurd (not_named t us e n)
  ends_applied (row (of_type array_type) (then_ (sign {t = t} {rest = us} e) xs)) n = absurd (not_named t us e n)
  ends_applied (row (of_type applied_name) (then_ (names d) (then_ (many m) (then_ (look c) xs)))) n = ap (λ (us : List Token). starts fixed.Colon us) (sym (nothing_left xs)) ∙ ends_arguments m (ends_names d n)
  ends_applied (pass bracket_type x) n = ends_atomic x n
  ends_applied (row (of_pat r) xs) n = elim r [ ]
  ends_applied (row (of_exp r) xs) n = elim r [ ]
  ends_applied (row (of_mod r) xs) n = elim r [ ]
  ends_applied (suffix s x q xs) n = elim s [ ]
  ends_applied (far e x q) n = elim e [ ]

  ends_type : {p : Tree Whole_type} {h : ℕ} {ts rest : List Token} → Spells Whole_type p h ts rest → begins_named ts ≡ true → starts fixed.Colon rest ≡ true
  ends_type (row (of_type named_arrow) (then_ (sign {t = t} {rest = us} e) xs)) n = absurd (not_named t us e n)
  ends_type (suffix arrow x q (then_ (sign {t = t} {rest = us} e) xs)) n =
      let i = ends_applied x n in
      let j : starts fixed.Colon (t ∷ us) ≡ false = rw e refl in
      absurd cc
  ends_type (pass plain_type x) n = ends_applied x n
  ends_type (row (of_pat r) xs) n = elim r [ ]
  ends_type (row (of_exp r) xs) n = elim r [ ]
  ends_type (row (of_mod r) xs) n = elim r [ ]
  ends_type (far e x q) n = elim e [ ]

  -- so types in parentheses are no parameter with a name
  unnamed_before : {p : Tree Whole_type} {h : ℕ} {f : Fixed} {t : Token} {ts us : List Token} → Phrase Whole_type p h ts (t ∷ us) → t.kind ≡ kind.Fixed f → is_fixed fixed.Colon f ≡ false → begins_named ts ≡ false
  unnamed_before {t = t} {ts = ts} {us = us} (phrase b x q) e c = go (begins_named ts) refl
    where
      go : (n : Bool) → begins_named ts ≡ n → n ≡ false
      go true i =
          let j = ends_type x i in
          let k : starts fixed.Colon (t ∷ us) ≡ false = rw (e, c) refl in
          absurd cc
      go false i = refl

  unnamed_commas : {ps : List (Tree Whole_type)} {g h : ℕ} {t : Token} {ts rest : List Token} → Spells_commas Whole_type ps g h ts (t ∷ rest) → t.kind ≡ kind.Fixed fixed.CloseParen → begins_named ts ≡ false
  unnamed_commas (last_item x n) f = unnamed_before x f refl
  unnamed_commas (next_item x e xs) f = unnamed_before x e refl

  unnamed_atomic : {p : Tree Atomic_type} {h : ℕ} {ts rest : List Token} → Spells Atomic_type p h ts rest → (starts fixed.OpenParen ts && begins_named (tail ts)) ≡ false
  unnamed_atomic (row (of_type unit_type) (then_ (sign e) (then_ (sign f) xs))) = rw (e, f) refl
  unnamed_atomic (row (of_type round_type) (then_ (sign e) (then_ (commas x) (then_ (sign f) xs)))) = and_false_right _ _ (unnamed_commas x f)
  unnamed_atomic (row (of_type no_fields) (then_ (sign e) xs)) = rw e refl
  unnamed_atomic (row (of_type fields) (then_ (sign e) xs)) = rw e refl
  unnamed_atomic (row (of_pat r) xs) = elim r [ ]
  unnamed_atomic (row (of_exp r) xs) = elim r [ ]
  unnamed_atomic (row (of_mod r) xs) = elim r [ ]
  unnamed_atomic (suffix s x q xs) = elim s [ ]
  unnamed_atomic (pass e x) = elim e [ ]
  unnamed_atomic (far e x q) = elim e [ ]

  unnamed_type : {p : Tree Applied_type} {h : ℕ} {ts rest : List Token} → Spells Applied_type p h ts rest → (starts fixed.OpenParen ts && begins_named (tail ts)) ≡ false
  unnamed_type (row (of_type unique) (then_ (sign e) xs)) = rw e refl
  unnamed_type (row (of_type array_type) (then_ (sign e) xs)) = rw e refl
  unnamed_type {ts = ts} (row (of_type applied_name) (then_ (names d) xs)) = and_false_left _ _ (word_no_sign fixed.OpenParen ts (first_is_word d))
  unnamed_type (pass bracket_type x) = unnamed_atomic x
  unnamed_type (row (of_pat r) xs) = elim r [ ]
  unnamed_type (row (of_exp r) xs) = elim r [ ]
  unnamed_type (row (of_mod r) xs) = elim r [ ]
  unnamed_type (suffix s x q xs) = elim s [ ]
  unnamed_type (far e x q) = elim e [ ]

  pub whole_type_gets : {p : Tree Whole_type} {h : ℕ} {ts rest : List Token} → Spells Whole_type p h ts rest → starts fixed.Arrow rest ≡ false → Gets (limit < h) (whole_type_at read limit ts) (p, h, rest)
  unfolding whole_type_at
  whole_type_gets {ts = ts} (row (of_type named_arrow) (then_ (sign e) (then_ (word f) (then_ (sign g) xs)))) w = when_true (begins_named_arrow read limit ts) _ (rw (e, f, g) refl) (node_row read limit given_read (of_type named_arrow) refl (then_ (sign e) (then_ (word f) (then_ (sign g) xs))))
  whole_type_gets {ts = ts} (suffix arrow x q (then_ (sign e) xs)) w = let le = parts_higher xs in when_false (begins_named_arrow read limit ts) _ (unnamed_type x) (then_gets _ (as_part (applied_type_gets x) (omega arith)) (once_there read limit given_read (starts fixed.Arrow) arrow _ (λ t. t) _ (rw e refl) refl q (then_ (sign e) xs)))
  whole_type_gets {ts = ts} {rest = rest} (pass plain_type x) w = when_false (begins_named_arrow read limit ts) _ (unnamed_type x) (then_gets _ (applied_type_gets x) (once_not read limit given_read (starts fixed.Arrow) arrow _ (λ t. t) _ _ rest w))
  whole_type_gets (row (of_pat r) xs) w = elim r [ ]
  whole_type_gets (row (of_exp r) xs) w = elim r [ ]
  whole_type_gets (row (of_mod r) xs) w = elim r [ ]
  whole_type_gets (far e x q) w = elim e [ ]

  pub type_name_gets : {p : Tree Type_name} {h : ℕ} {ts rest : List Token} → Spells Type_name p h ts rest → Gets (limit < h) (row_at read (of_type type_name) ts) (p, h, rest)
  type_name_gets (row (of_type type_name) xs) = node_row read limit given_read (of_type type_name) refl xs
  type_name_gets (row (of_pat r) xs) = elim r [ ]
  type_name_gets (row (of_exp r) xs) = elim r [ ]
  type_name_gets (row (of_mod r) xs) = elim r [ ]
  type_name_gets (suffix s x q xs) = elim s [ ]
  type_name_gets (pass e x) = elim e [ ]
  type_name_gets (far e x q) = elim e [ ]

  -- patterns
  pub atomic_pat_gets : {p : Tree Atomic_pat} {h : ℕ} {ts rest : List Token} → Spells Atomic_pat p h ts rest → Gets (limit < h) (atomic_pat_at read limit ts) (p, h, rest)
  unfolding atomic_pat_at
  atomic_pat_gets {ts = ts} (row (of_pat pat_name) (then_ (word e) xs)) = when_true (is_word ts) _ (rw e refl) (node_row read limit given_read (of_pat pat_name) refl (then_ (word e) xs))
  atomic_pat_gets {ts = ts} (row (of_pat wild) (then_ (sign e) xs)) = when_false (is_word ts) _ (rw e refl) (when_true (starts fixed.Wildcard ts) _ (rw e refl) (node_row read limit given_read (of_pat wild) refl (then_ (sign e) xs)))
  atomic_pat_gets {ts = ts} (row (of_pat unit_pat) (then_ (sign e) (then_ (sign f) xs))) = when_false (is_word ts) _ (rw e refl) (when_false (starts fixed.Wildcard ts) _ (rw e refl) (when_true (starts fixed.OpenParen ts) _ (rw e refl) (when_true (starts fixed.CloseParen (tail ts)) _ (rw f refl) (node_row read limit given_read (of_pat unit_pat) refl (then_ (sign e) (then_ (sign f) xs))))))
  atomic_pat_gets {ts = ts} (row (of_pat round_pat) (then_ (sign e) (then_ (commas x) xs))) = when_false (is_word ts) _ (rw e refl) (when_false (starts fixed.Wildcard ts) _ (rw e refl) (when_true (starts fixed.OpenParen ts) _ (rw e refl) (when_false (starts fixed.CloseParen (tail ts)) _ (not_starting fixed.CloseParen begins_pat (tail ts) (λ t us e. rw e refl) (first_item_begins x)) (node_row read limit given_read (of_pat round_pat) refl (then_ (sign e) (then_ (commas x) xs))))))
  atomic_pat_gets {ts = ts} (row (of_pat no_fields_pat) (then_ (sign e) (then_ (sign f) xs))) = when_false (is_word ts) _ (rw e refl) (when_false (starts fixed.Wildcard ts) _ (rw e refl) (when_false (starts fixed.OpenParen ts) _ (rw e refl) (when_true (starts fixed.CloseBrace (tail ts)) _ (rw f refl) (node_row read limit given_read (of_pat no_fields_pat) refl (then_ (sign e) (then_ (sign f) xs))))))
  atomic_pat_gets {ts = ts} (row (of_pat fields_pat) (then_ (sign e) (then_ (commas x) xs))) = when_false (is_word ts) _ (rw e refl) (when_false (starts fixed.Wildcard ts) _ (rw e refl) (when_false (starts fixed.OpenParen ts) _ (rw e refl) (when_false (starts fixed.CloseBrace (tail ts)) _ (word_no_sign fixed.CloseBrace (tail ts) (first_item_begins x)) (node_row read limit given_read (of_pat fields_pat) refl (then_ (sign e) (then_ (commas x) xs))))))
  atomic_pat_gets (row (of_type r) xs) = elim r [ ]
  atomic_pat_gets (row (of_exp r) xs) = elim r [ ]
  atomic_pat_gets (row (of_mod r) xs) = elim r [ ]
  atomic_pat_gets (suffix s x q xs) = elim s [ ]
  atomic_pat_gets (pass e x) = elim e [ ]
  atomic_pat_gets (far e x q) = elim e [ ]

  pub whole_pat_gets : {p : Tree Whole_pat} {h : ℕ} {ts rest : List Token} → Spells Whole_pat p h ts rest → starts fixed.Colon rest ≡ false → Gets (limit < h) (whole_pat_at read limit ts) (p, h, rest)
  unfolding whole_pat_at
  whole_pat_gets (suffix pat_type x q (then_ (sign e) xs)) w = let le = parts_higher xs in then_gets _ (as_part (atomic_pat_gets x) (omega arith)) (once_there read limit given_read (starts fixed.Colon) pat_type _ (λ t. t) _ (rw e refl) refl q (then_ (sign e) xs))
  whole_pat_gets {rest = rest} (pass plain_pat x) w = then_gets _ (atomic_pat_gets x) (once_not read limit given_read (starts fixed.Colon) pat_type _ (λ t. t) _ _ rest w)
  whole_pat_gets (row (of_type r) xs) w = elim r [ ]
  whole_pat_gets (row (of_pat r) xs) w = elim r [ ]
  whole_pat_gets (row (of_exp r) xs) w = elim r [ ]
  whole_pat_gets (row (of_mod r) xs) w = elim r [ ]
  whole_pat_gets (far e x q) w = elim e [ ]
