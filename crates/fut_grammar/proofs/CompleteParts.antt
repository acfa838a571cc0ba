-- What is spelled as the parts of a production is read so.
use Rattle.std.proofs.Common.{◌≡◌, ℕ, zero, suc, ◌≤◌, ◌<◌, Bool, true, false, cond, ◌&&◌, ltb, List, [], ◌∷◌, length, Option, Some, Result, Ok, refl, arith}
use Rattle.std.proofs.lemmas.Bool.{le-leb, ltb-false}
use Rattle.fut_scalar.specs.declared.scalar.IntType.{IntType}
use Rattle.fut_token.specs.declared.token.Fixed.{Fixed}
use Rattle.fut_token.specs.declared.token.Fixed.TheVariants as fixed
use Rattle.fut_token.specs.declared.token.TokenKind.TheVariants as kind
use Rattle.fut_token.specs.declared.token.Token.{Token}
use Rattle.fut_ast.specs.declared.node.Spot.{Spot}
use Rattle.fut_ast.specs.declared.node.End.{End}
use Rattle.fut_ast.specs.declared.node.End.TheVariants as range_end
use Rattle.fut_ast.specs.declared.ty.SizeExp.{SizeExp}
use Rattle.fut_ast.specs.declared.ty.SizeForm.TheVariants as size_form
use Rattle.fut_ast.specs.Tokens.{spot, spot_of, starts}
use Rattle.fut_ast.specs.Operators.{level}
use Rattle.fut_ast.specs.Sorts.{Tree, Text, Path, is_node, Sort, Whole_pat, Atom, Operands, Whole}
use Rattle.fut_ast.specs.Parts.{Part, Size, Operator, Sub, Commas, Many, Several, Maybe, Optional, Upto, Argument, Loop_start, Value, Builds}
use Rattle.fut_ast.specs.Rows.{Row, parts, tree, Suffix, suffix_parts, suffix_tree}
use Rattle.fut_ast.specs.Behind.{goes_on}
use Rattle.fut_ast.specs.Grammar.{Spells_names, last_name, more_names, raised, end_sign, Phrase, Parts, done, then_, Has, look, sign, tight, word, names, number, one, quoted, digits, variable, no_size, path_size, constant_size, operator, named_operator, sub, commas, many, several, nothing, given, absent, present, no_upto, upto, end_of, argument, set_start, own_start, Spells_commas, last_item, next_item, Spells_many, no_more, one_more}
use Rattle.fut_grammar.specs.declared.fault.Fault.{Fault}
use Rattle.fut_grammar.specs.Reading.{Read, expect, word_at, number_at, text_at, digits_at, variable_at, names_at, path_at, size_at, backtick_at, operator_from, operator_taken, end_at, one_at, sub_at, commas_at, many_at, several_at, maybe_at, optional_at, upto_at, argument_at, start_at, flat_part, has_at, parts_at, row_at, suffix_at}
use Rattle.fut_grammar.proofs.Bools.{and_left, and_right}
use Rattle.fut_grammar.proofs.Choices.{first_begins, first_is_word}
use Rattle.fut_grammar.proofs.Fixeds.{is_itself}
use Rattle.fut_grammar.proofs.Post.{Gets, gets, too_deep, then_gets, as_part, one_higher}
use Rattle.fut_grammar.proofs.Shorter.{phrase_shorter, names_shorter, commas_higher, many_higher, parts_higher}

-- the part holds only phrases of sorts that pass the test
abbrev pub good_part : (Sort → Bool) → Part → Bool
good_part good (Sub n) = good n
good_part good (Commas n) = good n
good_part good (Many n) = good n
good_part good (Several n) = good n
good_part good (Maybe f n) = good n
good_part good (Optional n) = good n
good_part good Upto = good (Operands 1)
good_part good Argument = good Atom
good_part good Loop_start = good Whole_pat && good Whole
good_part good q = true

abbrev pub all_good : (Sort → Bool) → List Part → Bool
all_good good [] = true
all_good good (q ∷ ps) = good_part good q && all_good good ps

-- ---- tokens

pub expect_gets : {high : Type 0} {f : Fixed} (t : Token) (rest : List Token) → t.kind ≡ kind.Fixed f → Gets high (expect f (t ∷ rest)) rest
unfolding expect
expect_gets {f} t rest e = let i = is_itself f in rw (e, i) gets

word_gets : {high : Type 0} {x : Text} (t : Token) (rest : List Token) → t.kind ≡ kind.Name x → Gets high (word_at (t ∷ rest)) (x, rest)
unfolding word_at
word_gets t rest e = rw e gets

number_gets : {high : Type 0} {v : ℕ} {s : Option IntType} (t : Token) (rest : List Token) → t.kind ≡ kind.Int v s → Gets high (number_at (t ∷ rest)) ((v, s), rest)
unfolding number_at
number_gets t rest e = rw e gets

no_paren_first : {xs : Path} {ts rest : List Token} → Spells_names xs ts rest → starts fixed.OpenParen ts ≡ false
no_paren_first (last_name e n) = rw e refl
no_paren_first (more_names e f d) = rw e refl

names_gets : {high : Type 0} (k : ℕ) {xs : Path} {ts rest : List Token} → Spells_names xs ts rest → length ts ≤ k → Gets high (names_at k ts) (xs, rest)
unfolding names_at
names_gets zero d le = let i = names_shorter d in absurd (omega arith)
names_gets (suc k) (last_name e n) le = then_gets _ (word_gets _ _ e) (rw n gets)
names_gets (suc k) (more_names {ts = ts} e f d) le = let i = no_paren_first d in then_gets _ (word_gets _ _ e) (rw (f, i) (then_gets _ (names_gets k d (omega arith)) gets))

pub path_gets : {high : Type 0} {xs : Path} {ts rest : List Token} → Spells_names xs ts rest → Gets high (path_at ts) (xs, rest)
unfolding path_at
path_gets {ts = ts} d = names_gets (length ts) d (omega arith)

first_no_bracket : {xs : Path} {ts rest : List Token} → Spells_names xs ts rest → starts fixed.CloseBracket ts ≡ false
first_no_bracket (last_name e n) = rw e refl
first_no_bracket (more_names e f d) = rw e refl

size_gets : {high : Type 0} {v : Option SizeExp} {g h : ℕ} {ts rest : List Token} → Has Size v g h ts rest → Gets high (flat_part g (size_at ts)) (v, h, rest)
unfolding size_at
size_gets (no_size e) = rw e gets
size_gets (path_size d e) = let i = first_no_bracket d in let j = first_is_word d in rw (i, j) (then_gets _ (then_gets _ (path_gets d) (rw e gets)) gets)
size_gets (constant_size {v = v} {t = t} {rest = rest} e f) = rw e (then_gets {v = (Some (record { place = t.place; form = size_form.Const v }), rest)} _ (then_gets _ (number_gets _ _ refl) (rw f gets)) gets)

operator_from_gets : (o : Fixed) (at : Spot) (us : List Token) → (o ≡ fixed.Backtick → ⊥) → operator_from o at us ≡ Ok ((at, []), us)
operator_from_gets fixed.Backtick at us n = absurd (n refl)
operator_from_gets o at us n = refl

pub taken_of : {high : Type 0} {o : Fixed} {v : Spot × Text} {g h : ℕ} {ts rest : List Token} → Has (Operator o) v g h ts rest → Gets high (operator_taken o ts) (v, rest)
unfolding operator_taken backtick_at
taken_of {o} (operator {t = t} {rest = rest} e le n) = then_gets _ (expect_gets _ _ e) (let b = le-leb 1 (level o) le in let f = operator_from_gets o (spot t) rest n in rw (b, f) gets)
taken_of (named_operator e f h) = then_gets _ (expect_gets _ _ e) (then_gets _ (word_gets _ _ f) (then_gets _ (expect_gets _ _ h) gets))

operator_gets : {high : Type 0} {o : Fixed} {v : Spot × Text} {g h : ℕ} {ts rest : List Token} → Has (Operator o) v g h ts rest → Gets high (flat_part g (operator_taken o ts)) (v, h, rest)
operator_gets (operator e le n) = then_gets _ (taken_of {g = 0} (operator e le n)) gets
operator_gets (named_operator e f h) = then_gets _ (taken_of {g = 0} (named_operator e f h)) gets

end_gets : {high : Type 0} (e : End) {g : ℕ} (t : Token) (rest : List Token) → t.kind ≡ kind.Fixed (end_sign e) → Gets high (flat_part g (end_at (t ∷ rest))) (e, g, rest)
unfolding end_at
end_gets range_end.Below t rest e = rw e gets
end_gets range_end.Above t rest e = rw e gets
end_gets range_end.Through t rest e = rw e gets

-- ---- parts, over what reads phrases of a height below the limit

pub gets_if : {A high : Type 0} (b : Bool) {x y : Result A Fault} {v : A} → Gets high x v → (b ≡ false → Gets high y v) → Gets high (cond b x y) v
gets_if true h k = h
gets_if false h k = k refl

module _ (read : (n : Sort) → List Token → Read (Tree n)) (limit : ℕ) (good : Sort → Bool) (given_read : (n : Sort) (p : Tree n) (h : ℕ) (ts rest : List Token) → good n ≡ true → Phrase n p h ts rest → Gets (limit ≤ h) (read n ts) (p, h, rest)) where
  reads : {n : Sort} {p : Tree n} {k h : ℕ} {ts rest : List Token} → good n ≡ true → Phrase n p k ts rest → k ≤ h → Gets (limit ≤ h) (read n ts) (p, k, rest)
  reads {n} {p} {k} {ts = ts} {rest} i x le = as_part (given_read n p k ts rest i x) le

  pub commas_gets : (k : ℕ) {n : Sort} {ps : List (Tree n)} {g h : ℕ} {ts rest : List Token} → good n ≡ true → Spells_commas n ps g h ts rest → length ts ≤ k → Gets (limit ≤ h) (commas_at read k n g ts) (ps, h, rest)
  unfolding commas_at
  commas_gets zero i (last_item x c) le = let j = phrase_shorter x in absurd (omega arith)
  commas_gets zero i (next_item x e xs) le = let j = phrase_shorter x in absurd (omega arith)
  commas_gets (suc k) i (last_item x c) le = then_gets _ (reads i x (omega arith)) (rw c gets)
  commas_gets (suc k) i (next_item x e xs) le = let j = phrase_shorter x in let up = commas_higher xs in then_gets _ (reads i x (omega arith)) (rw e (then_gets _ (commas_gets k i xs (omega arith)) gets))

  pub many_gets : (k : ℕ) {n : Sort} {ps : List (Tree n)} {g h : ℕ} {ts rest : List Token} → good n ≡ true → Spells_many n ps g h ts rest → length ts ≤ k → Gets (limit ≤ h) (many_at read k n g ts) (ps, h, rest)
  unfolding many_at
  many_gets zero i (no_more b) le = rw b gets
  many_gets zero i (one_more x xs) le = let j = phrase_shorter x in absurd (omega arith)
  many_gets (suc k) i (no_more b) le = rw b gets
  many_gets (suc k) i (one_more x xs) le = let j = phrase_shorter x in let b = first_begins x in let up = many_higher xs in rw b (then_gets _ (reads i x (omega arith)) (then_gets _ (many_gets k i xs (omega arith)) gets))

  optional_gets : {n : Sort} {v : Option (Tree n)} {g h : ℕ} {ts rest : List Token} → good n ≡ true → Has (Optional n) v g h ts rest → Gets (limit ≤ h) (optional_at read n g ts) (v, h, rest)
  unfolding optional_at
  optional_gets i (absent b) = rw b gets
  optional_gets i (present x) = let b = first_begins x in rw b (then_gets _ (reads i x (omega arith)) gets)

  pub has_gets : {q : Part} {v : Value q} {g h : ℕ} {ts rest : List Token} → good_part good q ≡ true → Has q v g h ts rest → Gets (limit ≤ h) (has_at read q g ts) (v, h, rest)
  unfolding has_at sub_at several_at maybe_at upto_at argument_at start_at one_at text_at digits_at variable_at
  has_gets i (look e) = rw e gets
  has_gets i (sign e) = then_gets _ (expect_gets _ _ e) gets
  has_gets i (tight e f) = rw (e, f) gets
  has_gets i (word e) = then_gets _ (word_gets _ _ e) gets
  has_gets i (names d) = then_gets _ (path_gets d) gets
  has_gets i (number e) = then_gets _ (number_gets _ _ e) gets
  has_gets i (one e) = then_gets _ (then_gets _ (number_gets _ _ e) gets) gets
  has_gets i (quoted e) = rw e gets
  has_gets i (digits e) = rw e gets
  has_gets i (variable e) = rw e gets
  has_gets i (no_size e) = size_gets (no_size e)
  has_gets i (path_size d e) = size_gets (path_size d e)
  has_gets i (constant_size e f) = size_gets (constant_size e f)
  has_gets i (operator e le n) = operator_gets (operator e le n)
  has_gets i (named_operator e f h) = operator_gets (named_operator e f h)
  has_gets i (sub x) = then_gets _ (reads i x (omega arith)) gets
  has_gets {ts = ts} i (commas x) = commas_gets (length ts) i x (omega arith)
  has_gets {ts = ts} i (many x) = many_gets (length ts) i x (omega arith)
  has_gets i (several {us = us} x xs) = let up = many_higher xs in then_gets _ (reads i x (omega arith)) (then_gets _ (many_gets (length us) i xs (omega arith)) gets)
  has_gets i (nothing e) = rw e gets
  has_gets i (given {f = f} e x) = let c = is_itself f in rw (e, c) (then_gets _ (reads i x (omega arith)) gets)
  has_gets i (absent b) = optional_gets i (absent b)
  has_gets i (present x) = optional_gets i (present x)
  has_gets i (no_upto e) = rw e gets
  has_gets i (upto e x) = rw e (then_gets _ (optional_gets i x) gets)
  has_gets i (end_of {e = e} k) = end_gets e _ _ k
  has_gets i (argument e x) = rw e (then_gets _ (reads i x (omega arith)) gets)
  has_gets i (set_start x e y) = then_gets _ (reads (and_left _ _ i) x (omega arith)) (rw e (then_gets _ (reads (and_right (good Whole_pat) _ i) y (omega arith)) gets))
  has_gets i (own_start x e w) = then_gets _ (reads (and_left _ _ i) x (omega arith)) (rw (e, w) gets)

  pub parts_gets : (up : Bool) {n : Sort} {ps : List Part} {b : Builds ps n} {p : Tree n} {g h : ℕ} {ts rest : List Token} → all_good good ps ≡ true → Parts n ps b p g h ts rest → Gets (limit ≤ h) (parts_at read up n ps b g ts) (p, raised up h, rest)
  unfolding parts_at
  parts_gets up i done = gets
  parts_gets up i (then_ {q = q} x xs) = then_gets _ (as_part (has_gets (and_left _ _ i) x) (parts_higher xs)) (parts_gets up (and_right (good_part good q) _ i) xs)

  pub row_gets : {n : Sort} (r : Row n) {p : Tree n} {h : ℕ} {ts rest : List Token} → all_good good (parts r) ≡ true → Parts n (parts r) (tree r (spot_of ts)) p 0 h ts rest → Gets (limit ≤ h) (row_at read r ts) (p, raised (is_node n) h, rest)
  unfolding row_at
  row_gets {n} r i xs = parts_gets (is_node n) i xs

  pub suffix_gets : {n m : Sort} (s : Suffix n m) (from : Spot) (a : Tree m) {p : Tree n} {g h : ℕ} {us rest : List Token} → all_good good (suffix_parts s) ≡ true → goes_on s a us ≡ false → Parts n (suffix_parts s) (suffix_tree s from (spot_of us) a) p g h us rest → Gets (limit < suc h) (suffix_at read s limit from a g us) (p, suc h, rest)
  unfolding suffix_at
  suffix_gets s from a {g = g} i q xs = let le = parts_higher xs in rw q (gets_if (ltb g limit) (one_higher (parts_gets true i xs)) (λ e. let over = ltb-false g limit e in too_deep (omega arith)))
