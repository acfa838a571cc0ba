-- What holds of tokens, and with any tokens of their tail, holds of those behind a phrase, and of those from a token on that
-- stands too deep.
use Rattle.std.proofs.Common.{ℕ, List, ◌∷◌}
use Rattle.fut_token.specs.declared.token.Token.{Token}
use Rattle.fut_ast.specs.Sorts.{Tree, Path, Sort, Let_item}
use Rattle.fut_ast.specs.Parts.{Part, Value, Builds}
use Rattle.fut_ast.specs.Grammar.{Spells_names, last_name, more_names, Spells, row, suffix, pass, far, lets, body, no_operand, an_operand, Phrase, phrase, Lets, last_let, next_let, in_let, Parts, done, then_, Has, look, sign, tight, word, names, number, one, quoted, digits, variable, no_size, path_size, constant_size, operator, named_operator, sub, commas, many, several, nothing, given, absent, present, no_upto, upto, end_of, argument, set_start, own_start, Spells_commas, last_item, next_item, Spells_many, no_more, one_more}
use Rattle.fut_ast.specs.Nesting.{Deep, begun, in_row, in_suffix, behind, at_operand, in_first, in_pass, in_far, in_parens, in_inside, in_operands, in_last_body, in_lets, in_body, Deep_lets, in_let as deep_let, past_let, past_in_let, Deep_parts, in_part, past_part, Deep_part, in_sub, in_commas, in_many, in_several, in_maybe, in_optional, in_upto, in_argument, in_pattern, in_start, Deep_commas, in_item, past_item, Deep_many, in_one, past_one}

module _ (W : List Token → Type 0) (down : (t : Token) (ts : List Token) → W (t ∷ ts) → W ts) where
  names_rest : {xs : Path} {ts rest : List Token} → Spells_names xs ts rest → W ts → W rest
  names_rest (last_name e n) w = down _ _ w
  names_rest (more_names e f d) w = names_rest d (down _ _ (down _ _ w))

  mutual
    spells_rest : {n : Sort} {p : Tree n} {h : ℕ} {ts rest : List Token} → Spells n p h ts rest → W ts → W rest
    spells_rest (row r xs) w = parts_rest xs w
    spells_rest (suffix s x q xs) w = parts_rest xs (spells_rest x w)
    spells_rest (pass e x) w = spells_rest x w
    spells_rest (far e x q) w = spells_rest x w
    spells_rest (lets e bs b) w = spells_rest b (lets_rest bs (down _ _ w))
    spells_rest (body e x) w = spells_rest x w
    spells_rest (no_operand x) w = phrase_rest x w
    spells_rest (an_operand e x) w = phrase_rest x w

    phrase_rest : {n : Sort} {p : Tree n} {h : ℕ} {ts rest : List Token} → Phrase n p h ts rest → W ts → W rest
    phrase_rest (phrase b x q) w = spells_rest x w

    lets_rest : {bs : List (Tree Let_item)} {g h : ℕ} {ts rest : List Token} → Lets bs g h ts rest → W ts → W rest
    lets_rest (last_let x e n) w = down _ _ (phrase_rest x w)
    lets_rest (next_let x e bs) w = lets_rest bs (down _ _ (phrase_rest x w))
    lets_rest (in_let x e f bs) w = lets_rest bs (down _ _ (down _ _ (phrase_rest x w)))

    parts_rest : {n : Sort} {ps : List Part} {b : Builds ps n} {p : Tree n} {g h : ℕ} {ts rest : List Token} → Parts n ps b p g h ts rest → W ts → W rest
    parts_rest done w = w
    parts_rest (then_ x xs) w = parts_rest xs (has_rest x w)

    has_rest : {q : Part} {v : Value q} {g h : ℕ} {ts rest : List Token} → Has q v g h ts rest → W ts → W rest
    has_rest (look e) w = w
    has_rest (sign e) w = down _ _ w
    has_rest (tight e f) w = down _ _ w
    has_rest (word e) w = down _ _ w
    has_rest (names d) w = names_rest d w
    has_rest (number e) w = down _ _ w
    has_rest (one e) w = down _ _ w
    has_rest (quoted e) w = down _ _ w
    has_rest (digits e) w = down _ _ w
    has_rest (variable e) w = down _ _ w
    has_rest (no_size e) w = w
    has_rest (path_size d e) w = names_rest d w
    has_rest (constant_size e f) w = down _ _ w
    has_rest (operator e le n) w = down _ _ w
    has_rest (named_operator e f g) w = down _ _ (down _ _ (down _ _ w))
    has_rest (sub x) w = phrase_rest x w
    has_rest (commas x) w = commas_rest x w
    has_rest (many x) w = many_rest x w
    has_rest (several x xs) w = many_rest xs (phrase_rest x w)
    has_rest (nothing e) w = w
    has_rest (given e x) w = phrase_rest x (down _ _ w)
    has_rest (absent e) w = w
    has_rest (present x) w = phrase_rest x w
    has_rest (no_upto e) w = w
    has_rest (upto e x) w = has_rest x (down _ _ w)
    has_rest (end_of e) w = down _ _ w
    has_rest (argument e x) w = phrase_rest x w
    has_rest (set_start x e y) w = phrase_rest y (down _ _ (phrase_rest x w))
    has_rest (own_start x e f) w = phrase_rest x w

    commas_rest : {n : Sort} {ps : List (Tree n)} {g h : ℕ} {ts rest : List Token} → Spells_commas n ps g h ts rest → W ts → W rest
    commas_rest (last_item x e) w = phrase_rest x w
    commas_rest (next_item x e xs) w = commas_rest xs (down _ _ (phrase_rest x w))

    many_rest : {n : Sort} {ps : List (Tree n)} {g h : ℕ} {ts rest : List Token} → Spells_many n ps g h ts rest → W ts → W rest
    many_rest (no_more e) w = w
    many_rest (one_more x xs) w = many_rest xs (phrase_rest x w)

  mutual
    deep_rest : {d : ℕ} {n : Sort} {ts rest : List Token} → Deep d n ts rest → W ts → W rest
    deep_rest (begun i b) w = w
    deep_rest (in_row r x) w = deep_parts x w
    deep_rest (in_suffix s a x) w = deep_parts x (spells_rest a w)
    deep_rest (behind s a q c le) w = spells_rest a w
    deep_rest (at_operand above a q op b le) w = has_rest op (spells_rest a w)
    deep_rest (in_first s x) w = deep_rest x w
    deep_rest (in_pass e x) w = deep_rest x w
    deep_rest (in_far e x) w = deep_rest x w
    deep_rest (in_parens e p x) w = deep_rest x (down _ _ w)
    deep_rest (in_inside x) w = deep_rest x w
    deep_rest (in_operands x) w = deep_rest x w
    deep_rest (in_last_body x) w = deep_rest x w
    deep_rest (in_lets e x) w = deep_lets x (down _ _ w)
    deep_rest (in_body e bs x) w = deep_rest x (lets_rest bs (down _ _ w))

    deep_lets : {d : ℕ} {ts rest : List Token} → Deep_lets d ts rest → W ts → W rest
    deep_lets (deep_let x) w = deep_rest x w
    deep_lets (past_let b e x) w = deep_lets x (down _ _ (phrase_rest b w))
    deep_lets (past_in_let b e f x) w = deep_lets x (down _ _ (down _ _ (phrase_rest b w)))

    deep_parts : {d : ℕ} {ps : List Part} {ts rest : List Token} → Deep_parts d ps ts rest → W ts → W rest
    deep_parts (in_part x) w = deep_part x w
    deep_parts (past_part v x) w = deep_parts x (has_rest v w)

    deep_part : {d : ℕ} {q : Part} {ts rest : List Token} → Deep_part d q ts rest → W ts → W rest
    deep_part (in_sub x) w = deep_rest x w
    deep_part (in_commas x) w = deep_commas x w
    deep_part (in_many x) w = deep_many x w
    deep_part (in_several x) w = deep_many x w
    deep_part (in_maybe e x) w = deep_rest x (down _ _ w)
    deep_part (in_optional x) w = deep_rest x w
    deep_part (in_upto e x) w = deep_rest x (down _ _ w)
    deep_part (in_argument x) w = deep_rest x w
    deep_part (in_pattern x) w = deep_rest x w
    deep_part (in_start p e x) w = deep_rest x (down _ _ (phrase_rest p w))

    deep_commas : {d : ℕ} {n : Sort} {ts rest : List Token} → Deep_commas d n ts rest → W ts → W rest
    deep_commas (in_item x) w = deep_rest x w
    deep_commas (past_item p e x) w = deep_commas x (down _ _ (phrase_rest p w))

    pub deep_many : {d : ℕ} {n : Sort} {ts rest : List Token} → Deep_many d n ts rest → W ts → W rest
    deep_many (in_one x) w = deep_rest x w
    deep_many (past_one p x) w = deep_many x (phrase_rest p w)
