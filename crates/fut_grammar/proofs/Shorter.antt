-- A phrase is not empty, and a whole is no lower than its parts.
use Rattle.std.proofs.Common.{◌⊎◌, inl, inr, ◌≡◌, ℕ, ◌≤◌, ◌<◌, Bool, true, false, ◌||◌, List, [], ◌∷◌, length, refl, arith}
use Rattle.fut_token.specs.declared.token.Token.{Token}
use Rattle.fut_ast.specs.Sorts.{Tree, Path, Sort, is_node, Let_item}
use Rattle.fut_ast.specs.Parts.{Part, Look, Size, Many, Maybe, Optional, Upto, Value, Builds}
use Rattle.fut_ast.specs.Rows.{Row, parts}
use Rattle.fut_ast.specs.Grammar.{Spells_names, last_name, more_names, Spells, row, suffix, pass, far, lets, body, no_operand, an_operand, Phrase, phrase, Lets, last_let, next_let, in_let, Parts, done, then_, Has, look, sign, tight, word, names, number, one, quoted, digits, variable, no_size, path_size, constant_size, operator, named_operator, sub, commas, many, several, nothing, given, absent, present, no_upto, upto, end_of, argument, set_start, own_start, Spells_commas, last_item, next_item, Spells_many, no_more, one_more}
use Rattle.fut_ast.specs.Rows.{of_type, of_pat, of_exp, of_mod}
use Rattle.fut_ast.specs.Rows.{Pass, plain_type, Far, far_mod}
use Rattle.fut_ast.specs.TypeRows.{TypeRow, type_parts, unique}
use Rattle.fut_ast.specs.PatRows.{PatRow, pat_parts, wild}
use Rattle.fut_ast.specs.ExpRows.{ExpRow, exp_parts, truth}
use Rattle.fut_ast.specs.ModRows.{ModRow, mod_parts, mod_path, with_item}

-- the part takes a token
abbrev pub solid : Part → Bool
solid (Look c) = false
solid Size = false
solid (Many n) = false
solid (Maybe f n) = false
solid (Optional n) = false
solid Upto = false
solid q = true

abbrev pub any_solid : List Part → Bool
any_solid [] = false
any_solid (q ∷ ps) = solid q || any_solid ps

solid_type : {n : Sort} (r : TypeRow n) → any_solid (type_parts r) ≡ true
solid_type unique = refl
solid_type r = refl

solid_pat : {n : Sort} (r : PatRow n) → any_solid (pat_parts r) ≡ true
solid_pat wild = refl
solid_pat r = refl

solid_exp : {n : Sort} (r : ExpRow n) → any_solid (exp_parts r) ≡ true
solid_exp truth = refl
solid_exp r = refl

solid_mod : {n : Sort} (r : ModRow n) → any_solid (mod_parts r) ≡ true
solid_mod mod_path = refl
solid_mod (with_item true) = refl
solid_mod (with_item false) = refl
solid_mod r = refl

solid_row : {n : Sort} (r : Row n) → any_solid (parts r) ≡ true
solid_row (of_type r) = solid_type r
solid_row (of_pat r) = solid_pat r
solid_row (of_exp r) = solid_exp r
solid_row (of_mod r) = solid_mod r

pub names_shorter : {xs : Path} {ts rest : List Token} → Spells_names xs ts rest → length rest < length ts
names_shorter (last_name e n) = omega arith
names_shorter (more_names e f d) = let i = names_shorter d in omega arith

one_of : (a b : Bool) → (a || b) ≡ true → (a ≡ true) ⊎ (b ≡ true)
one_of true b e = inl refl
one_of false b e = inr e

mutual
  pub shorter : {n : Sort} {p : Tree n} {h : ℕ} {ts rest : List Token} → Spells n p h ts rest → length rest < length ts
  shorter (row r xs) = parts_shorter xs (solid_row r)
  shorter (suffix s x q xs) = let i = shorter x in let j = parts_within xs in omega arith
  shorter (pass e x) = shorter x
  shorter (far e x q) = shorter x
  shorter (lets e bs b) = let i = lets_shorter bs in let j = shorter b in omega arith
  shorter (body e x) = shorter x
  shorter (no_operand x) = phrase_shorter x
  shorter (an_operand e x) = phrase_shorter x

  pub phrase_shorter : {n : Sort} {p : Tree n} {h : ℕ} {ts rest : List Token} → Phrase n p h ts rest → length rest < length ts
  phrase_shorter (phrase b x q) = shorter x

  pub lets_shorter : {bs : List (Tree Let_item)} {g h : ℕ} {ts rest : List Token} → Lets bs g h ts rest → length rest < length ts
  lets_shorter (last_let x e n) = let i = phrase_shorter x in omega arith
  lets_shorter (next_let x e bs) = let i = phrase_shorter x in let j = lets_shorter bs in omega arith
  lets_shorter (in_let x e f bs) = let i = phrase_shorter x in let j = lets_shorter bs in omega arith

  parts_within : {n : Sort} {ps : List Part} {b : Builds ps n} {p : Tree n} {g h : ℕ} {ts rest : List Token} → Parts n ps b p g h ts rest → length rest ≤ length ts
  parts_within done = omega arith
  parts_within (then_ x xs) = let i = has_within x in let j = parts_within xs in omega arith

  parts_shorter : {n : Sort} {ps : List Part} {b : Builds ps n} {p : Tree n} {g h : ℕ} {ts rest : List Token} → Parts n ps b p g h ts rest → any_solid ps ≡ true → length rest < length ts
  parts_shorter done e = absurd cc
  parts_shorter (then_ {q = q} {ps = ps} x xs) e = let i = has_within x in let j = parts_within xs in elim (one_of (solid q) (any_solid ps) e) [ inl s ↦ (let k = has_shorter x s in omega arith) | inr s ↦ (let k = parts_shorter xs s in omega arith) ]

  has_within : {q : Part} {v : Value q} {g h : ℕ} {ts rest : List Token} → Has q v g h ts rest → length rest ≤ length ts
  has_within (look e) = omega arith
  has_within (sign e) = omega arith
  has_within (tight e f) = omega arith
  has_within (word e) = omega arith
  has_within (names d) = let i = names_shorter d in omega arith
  has_within (number e) = omega arith
  has_within (one e) = omega arith
  has_within (quoted e) = omega arith
  has_within (digits e) = omega arith
  has_within (variable e) = omega arith
  has_within (no_size e) = omega arith
  has_within (path_size d e) = let i = names_shorter d in omega arith
  has_within (constant_size e f) = omega arith
  has_within (operator e le n) = omega arith
  has_within (named_operator e f g) = omega arith
  has_within (sub x) = let i = phrase_shorter x in omega arith
  has_within (commas x) = let i = commas_shorter x in omega arith
  has_within (many x) = many_within x
  has_within (several x xs) = let i = phrase_shorter x in let j = many_within xs in omega arith
  has_within (nothing e) = omega arith
  has_within (given e x) = let i = phrase_shorter x in omega arith
  has_within (absent e) = omega arith
  has_within (present x) = let i = phrase_shorter x in omega arith
  has_within (no_upto e) = omega arith
  has_within (upto e x) = let i = has_within x in omega arith
  has_within (end_of e) = omega arith
  has_within (argument e x) = let i = phrase_shorter x in omega arith
  has_within (set_start x e y) = let i = phrase_shorter x in let j = phrase_shorter y in omega arith
  has_within (own_start x e w) = let i = phrase_shorter x in omega arith

  has_shorter : {q : Part} {v : Value q} {g h : ℕ} {ts rest : List Token} → Has q v g h ts rest → solid q ≡ true → length rest < length ts
  has_shorter (look e) s = absurd cc
  has_shorter (sign e) s = omega arith
  has_shorter (tight e f) s = omega arith
  has_shorter (word e) s = omega arith
  has_shorter (names d) s = names_shorter d
  has_shorter (number e) s = omega arith
  has_shorter (one e) s = omega arith
  has_shorter (quoted e) s = omega arith
  has_shorter (digits e) s = omega arith
  has_shorter (variable e) s = omega arith
  has_shorter (no_size e) s = absurd cc
  has_shorter (path_size d e) s = absurd cc
  has_shorter (constant_size e f) s = absurd cc
  has_shorter (operator e le n) s = omega arith
  has_shorter (named_operator e f g) s = omega arith
  has_shorter (sub x) s = phrase_shorter x
  has_shorter (commas x) s = commas_shorter x
  has_shorter (many x) s = absurd cc
  has_shorter (several x xs) s = let i = phrase_shorter x in let j = many_within xs in omega arith
  has_shorter (nothing e) s = absurd cc
  has_shorter (given e x) s = absurd cc
  has_shorter (absent e) s = absurd cc
  has_shorter (present x) s = absurd cc
  has_shorter (no_upto e) s = absurd cc
  has_shorter (upto e x) s = absurd cc
  has_shorter (end_of e) s = omega arith
  has_shorter (argument e x) s = phrase_shorter x
  has_shorter (set_start x e y) s = let i = phrase_shorter x in let j = phrase_shorter y in omega arith
  has_shorter (own_start x e w) s = phrase_shorter x

  pub commas_shorter : {n : Sort} {ps : List (Tree n)} {g h : ℕ} {ts rest : List Token} → Spells_commas n ps g h ts rest → length rest < length ts
  commas_shorter (last_item x e) = phrase_shorter x
  commas_shorter (next_item x e xs) = let i = phrase_shorter x in let j = commas_shorter xs in omega arith

  pub many_within : {n : Sort} {ps : List (Tree n)} {g h : ℕ} {ts rest : List Token} → Spells_many n ps g h ts rest → length rest ≤ length ts
  many_within (no_more e) = omega arith
  many_within (one_more x xs) = let i = phrase_shorter x in let j = many_within xs in omega arith

-- ---- what stands before adds to the height

mutual
  has_higher : {q : Part} {v : Value q} {g h : ℕ} {ts rest : List Token} → Has q v g h ts rest → g ≤ h
  has_higher (look e) = omega arith
  has_higher (sign e) = omega arith
  has_higher (tight e f) = omega arith
  has_higher (word e) = omega arith
  has_higher (names d) = omega arith
  has_higher (number e) = omega arith
  has_higher (one e) = omega arith
  has_higher (quoted e) = omega arith
  has_higher (digits e) = omega arith
  has_higher (variable e) = omega arith
  has_higher (no_size e) = omega arith
  has_higher (path_size d e) = omega arith
  has_higher (constant_size e f) = omega arith
  has_higher (operator e le n) = omega arith
  has_higher (named_operator e f g) = omega arith
  has_higher (sub x) = omega arith
  has_higher (commas x) = commas_higher x
  has_higher (many x) = many_higher x
  has_higher (several x xs) = let j = many_higher xs in omega arith
  has_higher (nothing e) = omega arith
  has_higher (given e x) = omega arith
  has_higher (absent e) = omega arith
  has_higher (present x) = omega arith
  has_higher (no_upto e) = omega arith
  has_higher (upto e x) = has_higher x
  has_higher (end_of e) = omega arith
  has_higher (argument e x) = omega arith
  has_higher (set_start x e y) = omega arith
  has_higher (own_start x e w) = omega arith

  pub commas_higher : {n : Sort} {ps : List (Tree n)} {g h : ℕ} {ts rest : List Token} → Spells_commas n ps g h ts rest → g ≤ h
  commas_higher (last_item x e) = omega arith
  commas_higher (next_item x e xs) = let j = commas_higher xs in omega arith

  pub many_higher : {n : Sort} {ps : List (Tree n)} {g h : ℕ} {ts rest : List Token} → Spells_many n ps g h ts rest → g ≤ h
  many_higher (no_more e) = omega arith
  many_higher (one_more x xs) = let j = many_higher xs in omega arith

pub parts_higher : {n : Sort} {ps : List Part} {b : Builds ps n} {p : Tree n} {g h : ℕ} {ts rest : List Token} → Parts n ps b p g h ts rest → g ≤ h
parts_higher done = omega arith
parts_higher (then_ x xs) = let i = has_higher x in let j = parts_higher xs in omega arith

pub lets_higher : {bs : List (Tree Let_item)} {g h : ℕ} {ts rest : List Token} → Lets bs g h ts rest → g ≤ h
lets_higher (last_let x e n) = omega arith
lets_higher (next_let x e bs) = let j = lets_higher bs in omega arith
lets_higher (in_let x e f bs) = let j = lets_higher bs in omega arith

-- ---- a node has a height

first_node : {n m : Sort} → Pass n m → is_node m ≡ true
first_node plain_type = refl
first_node e = refl

far_first_node : {n m : Sort} → Far n m → is_node m ≡ true
far_first_node far_mod = refl
far_first_node e = refl

mutual
  pub node_high : {n : Sort} {p : Tree n} {h : ℕ} {ts rest : List Token} → is_node n ≡ true → Spells n p h ts rest → 0 < h
  node_high i (row r xs) = rw i (omega arith)
  node_high i (suffix s x q xs) = omega arith
  node_high i (pass e x) = node_high (first_node e) x
  node_high i (far e x q) = node_high (far_first_node e) x
  node_high i (lets e bs b) = omega arith
  node_high i (body e x) = node_high refl x
  node_high i (no_operand x) = phrase_high refl x
  node_high i (an_operand e x) = phrase_high refl x

  phrase_high : {n : Sort} {p : Tree n} {h : ℕ} {ts rest : List Token} → is_node n ≡ true → Phrase n p h ts rest → 0 < h
  phrase_high i (phrase b x q) = node_high i x
