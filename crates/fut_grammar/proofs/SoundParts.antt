-- What is read of the parts of a production is spelled so.
use Rattle.std.proofs.Common.{◌≡◌, ℕ, zero, suc, ◌≤◌, ◌<◌, max, Bool, true, false, ◌||◌, eqb, ltb, leb, List, [], ◌∷◌, length, Option, Some, refl, sym, ap, subst, ◌∙◌, arith}
use Rattle.std.proofs.lemmas.Bool.{eqb-true, leb-true, ltb-false}
use Rattle.fut_scalar.specs.declared.scalar.IntType.{IntType}
use Rattle.fut_token.specs.declared.token.Fixed.{Fixed}
use Rattle.fut_token.specs.declared.token.Fixed.TheVariants as fixed
use Rattle.fut_token.specs.declared.token.TokenKind.{TokenKind}
use Rattle.fut_token.specs.declared.token.TokenKind.TheVariants as kind
use Rattle.fut_token.specs.declared.token.Token.{Token}
use Rattle.fut_ast.specs.declared.node.Spot.{Spot}
use Rattle.fut_ast.specs.declared.node.What.TheVariants as what
use Rattle.fut_ast.specs.declared.node.End.{End}
use Rattle.fut_ast.specs.declared.node.End.TheVariants as range_end
use Rattle.fut_ast.specs.declared.pat.Head.{Head}
use Rattle.fut_ast.specs.declared.ty.SizeExp.{SizeExp}
use Rattle.fut_ast.specs.declared.ty.SizeForm.TheVariants as size_form
use Rattle.fut_ast.specs.Tokens.{is_fixed, spot, spot_of, tail, starts, starts_tight, is_tight, is_word, is_int}
use Rattle.fut_ast.specs.Operators.{level}
use Rattle.fut_ast.specs.Sorts.{Tree, Text, Path, SourceExp, is_node, Sort, Whole_pat, Atom, Operands, Whole}
use Rattle.fut_ast.specs.Parts.{Part, Look, without, Sign, Tight, Word, Names, Number, One, Quoted, Digits, Variable, Size, Operator, Sub, Commas, Many, Several, Maybe, Optional, Upto, End_sign, Argument, Loop_start, Value, Builds}
use Rattle.fut_ast.specs.Nodes.{has_wild}
use Rattle.fut_ast.specs.Rows.{Row, parts, tree, Suffix, suffix_parts, suffix_tree}
use Rattle.fut_ast.specs.Behind.{begins, begins_argument, begins_suffix, goes_on}
use Rattle.fut_ast.specs.Grammar.{Spells_names, last_name, more_names, raised, end_sign, Spells, row, suffix, Phrase, Parts, done, then_, Has, look, sign, tight, word, names, number, one, quoted, digits, variable, no_size, path_size, constant_size, operator, named_operator, sub, commas, many, several, nothing, given, absent, present, no_upto, upto, end_of, argument, set_start, own_start, Spells_commas, last_item, next_item, Spells_many, no_more, one_more}
use Rattle.fut_ast.specs.Nesting.{inside, Deep, in_row, in_suffix, behind, Deep_parts, in_part, past_part, Deep_part, in_sub, in_commas, in_many, in_several, in_maybe, in_optional, in_upto, in_argument, in_pattern, in_start, Deep_commas, in_item, past_item, Deep_many, in_one, past_one}
use Rattle.fut_ast.specs.LeftOut.{begins_left_out}
use Rattle.fut_grammar.specs.declared.fault.Fault.TheVariants.{LeftOut}
use Rattle.fut_grammar.specs.Reading.{Read, expect, word_from, word_at, number_from, number_at, text_from, text_at, digits_from, digits_at, variable_from, variable_at, names_at, path_at, size_left_out, refuse_behind_size, closed_size, size_at, backtick_at, operator_from, operator_taken, end_at, one_at, sub_at, commas_at, many_at, several_at, maybe_at, optional_at, upto_at, argument_at, start_at, has_at, parts_at, row_at, suffix_at}
use Rattle.fut_grammar.proofs.Bools.{and_left, and_right, or_cases}
use Rattle.fut_grammar.proofs.Fixeds.{Starting, starting}
use Rattle.fut_grammar.proofs.Shorter.{parts_higher}
use Rattle.fut_grammar.proofs.Post.{Post, good, bad, post_bind, post_if, post_map, post_call, post_lift, Stands, syntax_stands, deep_stands, left_out_stands, lift, stands_if, refused_as, refused, look_post}

-- ---- tokens

pub data Takes_name (x : Text) : List Token → List Token → Type 0 where
  takes_name : {t : Token} {rest : List Token} → t.kind ≡ kind.Name x → Takes_name x (t ∷ rest) rest

pub data Takes_number (v : ℕ × Option IntType) : List Token → List Token → Type 0 where
  takes_number : {t : Token} {rest : List Token} → t.kind ≡ kind.Int v.0 v.1 → Takes_number v (t ∷ rest) rest

pub expect_post : {D : List Token → Type 0} (f : Fixed) (ts : List Token) → Post (Stands D) (λ us. Starting f ts × (us ≡ tail ts)) (expect f ts)
unfolding expect
expect_post f ts = post_if (starts f ts) (λ e. good (starting f ts e, refl)) (λ e. bad (refused ts))

pub word_post : {D : List Token → Type 0} (ts : List Token) → Post (Stands D) (λ (y : Text × List Token). Takes_name y.0 ts y.1) (word_at ts)
unfolding word_at
word_post [] = bad (refused [])
word_post {D} (t ∷ us) = go t.kind refl
  where
    go : (k : TokenKind) → t.kind ≡ k → Post (Stands D) (λ (y : Text × List Token). Takes_name y.0 (t ∷ us) y.1) (word_from k (t ∷ us) us)
    go (kind.Name x) e = good (takes_name e)
    go k e = bad (refused (t ∷ us))

pub number_post : {D : List Token → Type 0} (ts : List Token) → Post (Stands D) (λ (y : (ℕ × Option IntType) × List Token). Takes_number y.0 ts y.1) (number_at ts)
unfolding number_at
number_post [] = bad (refused [])
number_post {D} (t ∷ us) = go t.kind refl
  where
    go : (k : TokenKind) → t.kind ≡ k → Post (Stands D) (λ (y : (ℕ × Option IntType) × List Token). Takes_number y.0 (t ∷ us) y.1) (number_from k (t ∷ us) us)
    go (kind.Int v s) e = good (takes_number e)
    go k e = bad (refused (t ∷ us))

pub text_post : {D : List Token → Type 0} (g : ℕ) (ts : List Token) → Post (Stands D) (λ (y : Text × List Token). Has Quoted y.0 g g ts y.1) (text_at ts)
unfolding text_at
text_post g [] = bad (refused [])
text_post {D} g (t ∷ us) = go t.kind refl
  where
    go : (k : TokenKind) → t.kind ≡ k → Post (Stands D) (λ (y : Text × List Token). Has Quoted y.0 g g (t ∷ us) y.1) (text_from k (t ∷ us) us)
    go (kind.Text x) e = good (quoted e)
    go k e = bad (refused (t ∷ us))

pub digits_post : {D : List Token → Type 0} (g : ℕ) (ts : List Token) → Post (Stands D) (λ (y : Text × List Token). Has Digits (spot_of ts, y.0) g g ts y.1) (digits_at ts)
unfolding digits_at
digits_post g [] = bad (refused [])
digits_post {D} g (t ∷ us) = go t.kind refl
  where
    go : (k : TokenKind) → t.kind ≡ k → Post (Stands D) (λ (y : Text × List Token). Has Digits (spot_of (t ∷ us), y.0) g g (t ∷ us) y.1) (digits_from k (t ∷ us) us)
    go (kind.Field x) e = good (digits e)
    go k e = bad (refused (t ∷ us))

pub variable_post : {D : List Token → Type 0} (g : ℕ) (ts : List Token) → Post (Stands D) (λ (y : Head × List Token). Has Variable y.0 g g ts y.1) (variable_at ts)
unfolding variable_at
variable_post g [] = bad (refused [])
variable_post {D} g (t ∷ us) = go t.kind refl
  where
    go : (k : TokenKind) → t.kind ≡ k → Post (Stands D) (λ (y : Head × List Token). Has Variable y.0 g g (t ∷ us) y.1) (variable_from k (t ∷ us) us)
    go (kind.TypeVar l x) e = good (variable e)
    go k e = bad (refused (t ∷ us))

one_name : {x : Text} {ts us : List Token} → Takes_name x ts us → starts fixed.Dot us ≡ false → Spells_names (x ∷ []) ts us
one_name (takes_name e) n = last_name e n

further_names : {x : Text} {xs : Path} {ts us rest : List Token} → Takes_name x ts us → Starting fixed.Dot us → Spells_names xs (tail us) rest → Spells_names (x ∷ xs) ts rest
further_names {x} {xs} {rest = rest} (takes_name {t = t} e) s r = subst (λ (vs : List Token). Spells_names (x ∷ xs) (t ∷ vs) rest) (sym s.is) (more_names e s.kind r)

pub names_post : {D : List Token → Type 0} (k : ℕ) (ts : List Token) → Post (Stands D) (λ (y : Path × List Token). Spells_names y.0 ts y.1) (names_at k ts)
unfolding names_at
names_post zero ts = bad (refused ts)
names_post (suc k) ts =
    post_bind _ (word_post ts) (λ x hx. post_bind _ (look_post (without what.LocalOpen) x.1) (λ u hu. post_if (starts fixed.Dot x.1)
    (λ e. post_bind _ (names_post k (tail x.1)) (λ xs hxs. good (further_names hx (starting fixed.Dot x.1 e) hxs))) (λ e. good (one_name hx e))))

pub path_post : {D : List Token → Type 0} (ts : List Token) → Post (Stands D) (λ (y : Path × List Token). Spells_names y.0 ts y.1) (path_at ts)
unfolding path_at
path_post ts = names_post (length ts) ts

-- ---- sizes and operators

left_out_size : {D : List Token → Type 0} (ts : List Token) → is_word ts ≡ false → is_int ts ≡ false → starts fixed.CloseBracket ts ≡ false → Stands D (size_left_out ts)
left_out_size [] a b d = syntax_stands
left_out_size (t ∷ ts) a b d = refused_as (t ∷ ts) (left_out_stands (t ∷ ts) what.SizeExpression (rw (a, b, d) refl))

sign_is_no_size : {D : List Token → Type 0} (f : Fixed) (ts : List Token) → is_fixed fixed.CloseBracket f ≡ false → Starting f ts → Stands D (LeftOut (length ts) what.SizeExpression)
sign_is_no_size {D} f ts n s =
    let other : begins_left_out what.SizeExpression (s.token ∷ tail ts) ≡ true = rw (s.kind, n) refl in
    subst (λ (us : List Token). Stands D (LeftOut (length us) what.SizeExpression)) (sym s.is) (left_out_stands (s.token ∷ tail ts) what.SizeExpression other)

behind_size : {D : List Token → Type 0} (ts : List Token) → Stands D (refuse_behind_size ts)
behind_size ts =
    stands_if (starts fixed.Plus ts || starts fixed.Minus ts || starts fixed.Star ts)
    (λ e. or_cases _ _ e
    (λ f. or_cases _ _ f
    (λ g. sign_is_no_size fixed.Plus ts refl (starting fixed.Plus ts g))
    (λ g. sign_is_no_size fixed.Minus ts refl (starting fixed.Minus ts g)))
    (λ f. sign_is_no_size fixed.Star ts refl (starting fixed.Star ts f)))
    (λ e. refused ts)

closed_post : {D : List Token → Type 0} (size : SizeExp) (us : List Token) → Post (Stands D) (λ (y : Option SizeExp × List Token). (y.0 ≡ Some size) × (y.1 ≡ us) × (starts fixed.CloseBracket us ≡ true)) (closed_size size us)
closed_post size us = post_if (starts fixed.CloseBracket us) (λ e. good (refl, refl, e)) (λ e. bad (behind_size us))

size_is : {g : ℕ} {s : SizeExp} {r : Option SizeExp} {ts us rest : List Token} → Has Size (Some s) g g ts us → r ≡ Some s → rest ≡ us → Has Size r g g ts rest
size_is {g} {s} {ts = ts} {rest = rest} h e f = subst (λ (v : Option SizeExp). Has Size v g g ts rest) (sym e) (let P : List Token → Type 0 = λ vs. Has Size (Some s) g g ts vs in subst P (sym f) h)

a_constant : {g : ℕ} {v : ℕ × Option IntType} {ts us : List Token} → Takes_number v ts us → starts fixed.CloseBracket us ≡ true → Has Size (Some (record { place = (spot_of ts).place; form = size_form.Const v.0 })) g g ts us
a_constant (takes_number e) c = constant_size e c

pub size_post : {D : List Token → Type 0} (g : ℕ) (ts : List Token) → Post (Stands D) (λ (y : Option SizeExp × List Token). Has Size y.0 g g ts y.1) (size_at ts)
unfolding size_at
size_post g ts =
    post_if (starts fixed.CloseBracket ts) (λ e. good (no_size e))
    (λ a. post_if (is_word ts) (λ e. post_bind _ (path_post ts) (λ xs hxs. post_map (closed_post _ xs.1) (λ y hy. size_is (path_size hxs hy.2) hy.0 hy.1)))
    (λ b. post_if (is_int ts) (λ e. post_bind _ (number_post ts) (λ v hv. post_map (closed_post _ v.1) (λ y hy. size_is (a_constant hv hy.2) hy.0 hy.1)))
    (λ d. bad (left_out_size ts b d a))))

backticked : {x : Text} {g : ℕ} {ts us vs rest : List Token} → Starting fixed.Backtick ts → us ≡ tail ts → Takes_name x us vs → Starting fixed.Backtick vs → rest ≡ tail vs → Has (Operator fixed.Backtick) (spot_of us, x) g g ts rest
backticked {x} {g} {ts} {rest = rest} s q (takes_name {t = t} e) r p =
    let whole : ts ≡ s.token ∷ t ∷ r.token ∷ rest = s.is ∙ ap (λ (xs : List Token). s.token ∷ xs) (sym q ∙ ap (λ (xs : List Token). t ∷ xs) (r.is ∙ ap (λ (xs : List Token). r.token ∷ xs) (sym p))) in
    subst (λ (xs : List Token). Has (Operator fixed.Backtick) (spot t, x) g g xs rest) (sym whole) (named_operator s.kind e r.kind)

backtick_post : {D : List Token → Type 0} (g : ℕ) (ts us : List Token) → Starting fixed.Backtick ts → us ≡ tail ts → Post (Stands D) (λ (y : (Spot × Text) × List Token). Has (Operator fixed.Backtick) y.0 g g ts y.1) (backtick_at us)
unfolding backtick_at
backtick_post g ts us s q = post_bind _ (word_post us) (λ x hx. post_bind _ (expect_post fixed.Backtick x.1) (λ vs hvs. good (backticked s q hx hvs.0 hvs.1)))

plain_operator : {o : Fixed} {g : ℕ} {ts us : List Token} → Starting o ts → us ≡ tail ts → 1 ≤ level o → (o ≡ fixed.Backtick → ⊥) → Has (Operator o) (spot_of ts, []) g g ts us
plain_operator {o} {g} {ts} {us} s q le n =
    let P : List Token → Type 0 = λ xs. Has (Operator o) (spot_of xs, []) g g xs (tail xs) in
    subst (λ (xs : List Token). Has (Operator o) (spot_of ts, []) g g ts xs) (sym q) (subst P (sym s.is) (operator s.kind le n))

operator_from_post : {D : List Token → Type 0} (o : Fixed) (g : ℕ) (ts us : List Token) → Starting o ts → us ≡ tail ts → 1 ≤ level o → Post (Stands D) (λ (y : (Spot × Text) × List Token). Has (Operator o) y.0 g g ts y.1) (operator_from o (spot_of ts) us)
operator_from_post fixed.Backtick g ts us s q le = backtick_post g ts us s q
operator_from_post o g ts us s q le = good (plain_operator s q le (λ e. cc))

pub operator_post : {D : List Token → Type 0} (g : ℕ) (o : Fixed) (ts : List Token) → Post (Stands D) (λ (y : (Spot × Text) × List Token). Has (Operator o) y.0 g g ts y.1) (operator_taken o ts)
unfolding operator_taken
operator_post g o ts = post_bind _ (expect_post o ts) (λ us hus. post_if (leb 1 (level o)) (λ e. operator_from_post o g ts us hus.0 hus.1 (leb-true _ _ e)) (λ e. bad (refused ts)))

an_end : {e : End} {g : ℕ} {ts : List Token} → Starting (end_sign e) ts → Has End_sign e g g ts (tail ts)
an_end {e} {g} {ts} s = subst (λ (us : List Token). Has End_sign e g g us (tail us)) (sym s.is) (end_of s.kind)

pub end_post : {D : List Token → Type 0} (g : ℕ) (ts : List Token) → Post (Stands D) (λ (y : End × List Token). Has End_sign y.0 g g ts y.1) (end_at ts)
unfolding end_at
end_post g ts =
    post_if (starts fixed.DotDotLess ts) (λ e. good (an_end {e = range_end.Below} (starting fixed.DotDotLess ts e)))
    (λ a. post_if (starts fixed.DotDotGreater ts) (λ e. good (an_end {e = range_end.Above} (starting fixed.DotDotGreater ts e)))
    (λ b. post_if (starts fixed.DotDotDot ts) (λ e. good (an_end {e = range_end.Through} (starting fixed.DotDotDot ts e)))
    (λ d. bad (refused ts))))

-- ---- parts

ends : {n : Sort} {p : Tree n} {h : ℕ} {ts us vs : List Token} → us ≡ vs → Phrase n p h ts us → Phrase n p h ts vs
ends {n} {p} {h} {ts} e d = subst (λ (xs : List Token). Phrase n p h ts xs) e d

a_sign : {f : Fixed} {g : ℕ} {ts us : List Token} → Starting f ts → us ≡ tail ts → Has (Sign f) (spot_of ts) g g ts us
a_sign {f} {g} {ts} s q =
    let P : List Token → Type 0 = λ xs. Has (Sign f) (spot_of xs) g g xs (tail xs) in
    subst (λ (xs : List Token). Has (Sign f) (spot_of ts) g g ts xs) (sym q) (subst P (sym s.is) (sign s.kind))

a_word : {x : Text} {g : ℕ} {ts us : List Token} → Takes_name x ts us → Has Word (spot_of ts, x) g g ts us
a_word (takes_name e) = word e

a_number : {v : ℕ × Option IntType} {g : ℕ} {ts us : List Token} → Takes_number v ts us → Has Number v g g ts us
a_number (takes_number e) = number e

a_one : {v : ℕ × Option IntType} {g : ℕ} {ts us : List Token} → v.0 ≡ 1 → Takes_number v ts us → Has One (spot_of ts) g g ts us
a_one {v} i (takes_number e) = one {s = v.1} (e ∙ ap (λ (n : ℕ). kind.Int n v.1) i)

a_tight : {g : ℕ} {ts : List Token} → Starting fixed.OpenBracket ts → is_tight ts ≡ true → Has Tight (spot_of ts) g g ts (tail ts)
a_tight {g} {ts} s i =
    let P : List Token → Type 0 = λ xs. is_tight xs ≡ true → Has Tight (spot_of xs) g g xs (tail xs) in
    subst P (sym s.is) (λ j. tight s.kind j) i

a_given : {f : Fixed} {n : Sort} {p : Tree n} {g k : ℕ} {ts rest : List Token} → Starting f ts → Phrase n p k (tail ts) rest → Has (Maybe f n) (Some p) g (max g k) ts rest
a_given {f} {n} {p} {g} {k} {ts} {rest} s d = subst (λ (xs : List Token). Has (Maybe f n) (Some p) g (max g k) xs rest) (sym s.is) (given s.kind d)

an_upto : {e : Option SourceExp} {g h : ℕ} {ts rest : List Token} → Starting fixed.Colon ts → Has (Optional (Operands 1)) e g h (tail ts) rest → Has Upto (Some (spot_of ts, e)) g h ts rest
an_upto {e} {g} {h} {ts} {rest} s d = subst (λ (xs : List Token). Has Upto (Some (spot_of xs, e)) g h xs rest) (sym s.is) (upto s.kind d)

deep_in : {f : Fixed} {n : Sort} {d : ℕ} {ts rest : List Token} → Starting f ts → Deep d n (tail ts) rest → Deep_part d (Maybe f n) ts rest
deep_in {f} {n} {d} {ts} {rest} s x = subst (λ (xs : List Token). Deep_part d (Maybe f n) xs rest) (sym s.is) (in_maybe s.kind x)

deep_upto : {d : ℕ} {ts rest : List Token} → Starting fixed.Colon ts → Deep d (Operands 1) (tail ts) rest → Deep_part d Upto ts rest
deep_upto {d} {ts} {rest} s x = subst (λ (xs : List Token). Deep_part d Upto xs rest) (sym s.is) (in_upto s.kind x)

-- of a production, up being whether it is a node
pub data Made (up : Bool) (n : Sort) (ps : List Part) (b : Builds ps n) (g : ℕ) (ts : List Token) : Tree n × ℕ × List Token → Type 0 where
  made : {p : Tree n} {h : ℕ} {rest : List Token} → Parts n ps b p g h ts rest → Made up n ps b g ts (p, raised up h, rest)

more_made : {up : Bool} {n : Sort} {q : Part} {ps : List Part} {b : Builds (q ∷ ps) n} {v : Value q} {g k : ℕ} {ts us : List Token} (z : Tree n × ℕ × List Token) → Has q v g k ts us → Made up n ps (b v) k us z → Made up n (q ∷ ps) b g ts z
more_made z x (made xs) = made (then_ x xs)

a_row : {n : Sort} (r : Row n) {ts : List Token} (z : Tree n × ℕ × List Token) → Made (is_node n) n (parts r) (tree r (spot_of ts)) 0 ts z → Spells n z.0 z.1 ts z.2
a_row r z (made xs) = row r xs

pub a_suffix : {n m : Sort} (s : Suffix n m) {a : Tree m} {g : ℕ} {start ts : List Token} (z : Tree n × ℕ × List Token) → Spells m a g start ts → goes_on s a ts ≡ false → Made true n (suffix_parts s) (suffix_tree s (spot_of start) (spot_of ts) a) g ts z → Spells n z.0 z.1 start z.2 × (g < z.1)
a_suffix s z x q (made xs) = (suffix s x q xs, let i = parts_higher xs in omega arith)

module _ (read : (n : Sort) → List Token → Read (Tree n)) (d : ℕ) (given_sub : (n : Sort) (ts : List Token) → Post (Stands (λ r. Deep d n ts r)) (λ (y : Tree n × ℕ × List Token). Phrase n y.0 y.1 ts y.2) (read n ts)) where
  pub commas_post : (k : ℕ) (n : Sort) (g : ℕ) (ts : List Token) → Post (Stands (λ r. Deep_commas d n ts r)) (λ (y : List (Tree n) × ℕ × List Token). Spells_commas n y.0 g y.1 ts y.2) (commas_at read k n g ts)
  unfolding commas_at
  commas_post zero n g ts = bad (refused ts)
  commas_post (suc k) n g ts =
      post_call (lift (λ r x. in_item x)) _ (given_sub n ts) (λ p hp. post_if (starts fixed.Comma p.2)
      (λ e. let s = starting fixed.Comma p.2 e in let w = ends s.is hp in post_call (lift (λ r x. past_item w s.kind x)) _ (commas_post k n (max g p.1) (tail p.2)) (λ ps hps. good (next_item w s.kind hps)))
      (λ e. good (last_item hp e)))

  pub many_post : (k : ℕ) (n : Sort) (g : ℕ) (ts : List Token) → Post (Stands (λ r. Deep_many d n ts r)) (λ (y : List (Tree n) × ℕ × List Token). Spells_many n y.0 g y.1 ts y.2) (many_at read k n g ts)
  unfolding many_at
  many_post zero n g ts = post_if (begins n ts) (λ e. bad (refused ts)) (λ e. good (no_more e))
  many_post (suc k) n g ts =
      post_if (begins n ts) (λ e. post_call (lift (λ r x. in_one x)) _ (given_sub n ts) (λ p hp. post_call (lift (λ r x. past_one hp x)) _ (many_post k n (max g p.1) p.2) (λ ps hps. good (one_more hp hps)))) (λ e. good (no_more e))

  optional_post : (n : Sort) (g : ℕ) (ts : List Token) → Post (Stands (λ r. Deep d n ts r)) (λ (y : Option (Tree n) × ℕ × List Token). Has (Optional n) y.0 g y.1 ts y.2) (optional_at read n g ts)
  unfolding optional_at
  optional_post n g ts = post_if (begins n ts) (λ e. post_bind _ (given_sub n ts) (λ y hy. good (present hy))) (λ e. good (absent e))

  pub has_post : (q : Part) (g : ℕ) (ts : List Token) → Post (Stands (λ r. Deep_part d q ts r)) (λ (y : Value q × ℕ × List Token). Has q y.0 g y.1 ts y.2) (has_at read q g ts)
  unfolding has_at sub_at several_at maybe_at upto_at argument_at start_at one_at
  has_post (Look c) g ts = post_bind _ (look_post c ts) (λ u e. good (look e))
  has_post (Sign f) g ts = post_bind _ (expect_post f ts) (λ us hus. good (a_sign hus.0 hus.1))
  has_post Tight g ts = post_if (starts_tight ts) (λ e. good (a_tight (starting fixed.OpenBracket ts (and_left _ _ e)) (and_right (starts fixed.OpenBracket ts) _ e))) (λ e. bad (refused ts))
  has_post Word g ts = post_bind _ (word_post ts) (λ x hx. good (a_word hx))
  has_post Names g ts = post_bind _ (path_post ts) (λ xs hxs. good (names hxs))
  has_post Number g ts = post_bind _ (number_post ts) (λ v hv. good (a_number hv))
  has_post One g ts = post_bind _ (post_bind _ (number_post ts) (λ v hv. post_if (eqb v.0.0 1) (λ e. good (a_one {g = g} (eqb-true _ _ e) hv)) (λ e. bad (refused ts)))) (λ us hus. good hus)
  has_post Quoted g ts = post_bind _ (text_post g ts) (λ x hx. good hx)
  has_post Digits g ts = post_bind _ (digits_post g ts) (λ x hx. good hx)
  has_post Variable g ts = post_bind _ (variable_post g ts) (λ x hx. good hx)
  has_post Size g ts = post_bind _ (size_post g ts) (λ x hx. good hx)
  has_post (Operator o) g ts = post_bind _ (operator_post g o ts) (λ x hx. good hx)
  has_post (Sub n) g ts = post_call (lift (λ r x. in_sub x)) _ (given_sub n ts) (λ y hy. good (sub hy))
  has_post (Commas n) g ts = post_lift (lift (λ r x. in_commas x)) (commas_post (length ts) n g ts) (λ y hy. commas hy)
  has_post (Many n) g ts = post_lift (lift (λ r x. in_many x)) (many_post (length ts) n g ts) (λ y hy. many hy)
  has_post (Several n) g ts = post_call (lift (λ r x. in_several (in_one x))) _ (given_sub n ts) (λ p hp. post_call (lift (λ r x. in_several (past_one hp x))) _ (many_post (length p.2) n (max g p.1) p.2) (λ ps hps. good (several hp hps)))
  has_post (Maybe f n) g ts = post_if (starts f ts) (λ e. let s = starting f ts e in post_call (lift (λ r x. deep_in s x)) _ (given_sub n (tail ts)) (λ y hy. good (a_given s hy))) (λ e. good (nothing e))
  has_post (Optional n) g ts = post_lift (lift (λ r x. in_optional x)) (optional_post n g ts) (λ y hy. hy)
  has_post Upto g ts = post_if (starts fixed.Colon ts) (λ e. let s = starting fixed.Colon ts e in post_call (lift (λ r x. deep_upto s x)) _ (optional_post (Operands 1) g (tail ts)) (λ y hy. good (an_upto s hy))) (λ e. good (no_upto e))
  has_post End_sign g ts = post_bind _ (end_post g ts) (λ x hx. good hx)
  has_post Argument g ts = post_if (begins_argument ts) (λ e. post_call (lift (λ r x. in_argument x)) _ (given_sub Atom ts) (λ y hy. good (argument e hy))) (λ e. bad (refused ts))
  has_post Loop_start g ts =
      post_call (lift (λ r x. in_pattern x)) _ (given_sub Whole_pat ts) (λ p hp. post_if (starts fixed.Equal p.2)
      (λ e. let s = starting fixed.Equal p.2 e in let w = ends s.is hp in post_call (lift (λ r x. in_start w s.kind x)) _ (given_sub Whole (tail p.2)) (λ v hv. good (set_start w s.kind hv)))
      (λ e. post_if (has_wild p.0) (λ w. bad (refused p.2)) (λ w. good (own_start hp e w))))

  pub parts_post : (up : Bool) (n : Sort) (ps : List Part) (b : Builds ps n) (g : ℕ) (ts : List Token) → Post (Stands (λ r. Deep_parts d ps ts r)) (Made up n ps b g ts) (parts_at read up n ps b g ts)
  unfolding parts_at
  parts_post up n [] b g ts = good (made done)
  parts_post up n (q ∷ ps) b g ts = post_call (lift (λ r x. in_part x)) _ (has_post q g ts) (λ y hy. post_lift (lift (λ r x. past_part hy x)) (parts_post up n ps (b y.0) y.1 y.2) (λ z hz. more_made z hy hz))

  pub row_post : {n : Sort} (r : Row n) (ts : List Token) → Post (Stands (λ t. Deep (inside n d) n ts t)) (λ (y : Tree n × ℕ × List Token). Spells n y.0 y.1 ts y.2) (row_at read r ts)
  unfolding row_at
  row_post {n} r ts = post_lift (lift (λ t x. in_row r x)) (parts_post (is_node n) n (parts r) (tree r (spot_of ts)) 0 ts) (λ z hz. a_row r z hz)

  pub suffix_post : {n m : Sort} (s : Suffix n m) (a : Tree m) (g : ℕ) (start ts : List Token) → Spells m a g start ts → begins_suffix s ts ≡ true → Post (Stands (λ t. Deep (suc d) n start t)) (λ (y : Tree n × ℕ × List Token). Spells n y.0 y.1 start y.2 × (g < y.1)) (suffix_at read s (suc d) (spot_of start) a g ts)
  unfolding suffix_at
  suffix_post {n} s a g start ts x on =
      post_if (goes_on s a ts) (λ e. bad (refused ts))
      (λ q. post_if (ltb g (suc d))
      (λ lt. post_lift (lift (λ t y. in_suffix s x y)) (parts_post true n (suffix_parts s) (suffix_tree s (spot_of start) (spot_of ts) a) g ts) (λ z hz. a_suffix s z x q hz))
      (λ ge. bad (deep_stands ts (behind s x q on (ltb-false _ _ ge)))))
