-- Each front but a refusal has a character at least, and moving over characters leaves room for the rest.
use Rattle.std.proofs.Common.{◌≡◌, ℕ, zero, suc, ◌+◌, ◌*◌, ◌≤◌, ◌<◌, ◌^◌, Bool, true, false, cond, eqb, ltb, List, [], ◌∷◌, length, take, drop, Option, Some, None, refl, arith, length-drop}
use Rattle.std.specs.List.{prefix_len}
use Rattle.std.specs.Char.{len_utf8}
use Rattle.std.proofs.lemmas.List.{length-take}
use Rattle.std.proofs.lemmas.Str.{len_utf8_bounds}
use Rattle.std.specs.Prelude.{◌&&◌}
use Rattle.std.proofs.lemmas.Bool.{eqb-true}
use Rattle.fut_scalar.specs.declared.scalar.IntType.{IntType}
use Rattle.fut_token.specs.declared.token.Fixed.{Fixed}
use Rattle.fut_token.specs.declared.token.Lift.{Lift}
use Rattle.fut_token.specs.declared.token.Lift.TheVariants as lift
use Rattle.fut_token.specs.declared.token.TokenKind.{TokenKind}
use Rattle.name_characters.specs.Names.{starts_name}
use Rattle.fut_lexer.specs.declared.front.Front.{Front}
use Rattle.fut_lexer.specs.declared.front.Front.TheVariants as front
use Rattle.fut_lexer.specs.declared.number.Base.{Base}
use Rattle.fut_lexer.specs.declared.number.Base.TheVariants as base
use Rattle.fut_lexer.specs.declared.position.Position.{Position}
use Rattle.fut_lexer.specs.Words.{is_blank, is_digit, suffix_of, symbol_1, symbol_2, symbol_3}
use Rattle.fut_lexer.specs.Numbers.{is_digit_of, is_in_number, value, ends_in_underscore}
use Rattle.fut_lexer.specs.Private.FrontReading.{word_len, name_len, with_suffix, integer_in, integer_at, type_variable, type_variable_at, quote_at, attribute, hash_at, text_at, symbol_or, symbol_at, line_len, field_at, sign_at, front_at}
use Rattle.fut_lexer.specs.Numbers.{is_float, begins_in, starts_digit}
use Rattle.fut_lexer.specs.Words.{is_in_text, begins_with}
use Rattle.fut_lexer.specs.Rules.{close_len}
use Rattle.fut_lexer.specs.Positions.{HasRoom, moved, behind_char}

-- it takes a character at least
pub data Moves : Front → Type 0 where
  gap : {n : ℕ} → 0 < n → Moves (front.Gap n)
  attribute_on : {n : ℕ} → 0 < n → Moves (front.Attribute n)
  token : {k : TokenKind} {n : ℕ} → 0 < n → Moves (front.Token k n)
  bad : Moves front.Bad
  float : Moves front.Float

either : (b : Bool) {x y : Front} → (b ≡ true → Moves x) → (b ≡ false → Moves y) → Moves (cond b x y)
either true f g = f refl
either false f g = g refl

suffix_moves : (v n w : ℕ) (s : Option IntType) → 0 < n → Moves (with_suffix v n w s)
suffix_moves v n zero s lt = token lt
suffix_moves v n (suc w) None lt = bad
suffix_moves v n (suc w) (Some s) lt = token (omega arith)

integer_in_moves : (b : Base) (skip : ℕ) (text : List ℕ) → 0 < skip + prefix_len (is_in_number b) (drop skip text) → Moves (integer_in b skip text)
unfolding integer_in
integer_in_moves b skip text lt =
    let inner = drop skip text in
    let run = prefix_len (is_in_number b) inner in
    let rest = drop run inner in
    let v = value b (take run inner) in
    either (ends_in_underscore (take run inner)) (λ e. bad) (λ e. either (is_float b rest) (λ f. float) (λ f. either (ltb v (2 ^ 64))
    (λ g. suffix_moves v (skip + run) (word_len rest) (suffix_of (take (word_len rest) rest)) lt) (λ g. bad)))

digit_run : (c : ℕ) (cs : List ℕ) → is_digit c ≡ true → 0 < prefix_len (is_in_number base.Decimal) (c ∷ cs)
unfolding is_in_number is_digit_of
digit_run c cs e = rw e (omega arith)

integer_moves : (c : ℕ) (cs : List ℕ) → is_digit c ≡ true → Moves (integer_at (c ∷ cs))
unfolding integer_at
integer_moves c cs d = either (begins_in 120 base.Hexadecimal (c ∷ cs)) (λ e. integer_in_moves base.Hexadecimal 2 (c ∷ cs) (omega arith)) (λ e. either (begins_in 98 base.Binary (c ∷ cs)) (λ f. integer_in_moves base.Binary 2 (c ∷ cs) (omega arith)) (λ f. integer_in_moves base.Decimal 0 (c ∷ cs) (let i = digit_run c cs d in omega (arith, i))))

variable_moves : (l : Lift) (n : ℕ) (text : List ℕ) → 0 < n → Moves (type_variable l n text)
variable_moves l n text lt = either (ltb 0 (name_len text)) (λ e. token (omega arith)) (λ e. bad)

variable_at_moves : (text : List ℕ) → Moves (type_variable_at text)
unfolding type_variable_at
variable_at_moves [] = bad
variable_at_moves (c ∷ cs) = either (eqb c 94) (λ e. variable_moves lift.Lifted 2 cs (omega arith)) (λ e. either (eqb c 126) (λ f. variable_moves lift.SizeLifted 2 cs (omega arith)) (λ f. variable_moves lift.Plain 1 (c ∷ cs) (omega arith)))

quote_moves : (text : List ℕ) → Moves (quote_at text)
unfolding quote_at
quote_moves [] = bad
quote_moves (c ∷ []) = variable_at_moves (c ∷ [])
quote_moves (c ∷ d ∷ cs) = either (eqb d 39) (λ e. token (omega arith)) (λ e. variable_at_moves (c ∷ d ∷ cs))

attribute_moves : (o : Option ℕ) → Moves (attribute o)
attribute_moves None = bad
attribute_moves (Some n) = attribute_on (omega arith)

hash_moves : (text : List ℕ) → Moves (hash_at text)
unfolding hash_at
hash_moves [] = bad
hash_moves (c ∷ cs) = either (eqb c 91) (λ e. attribute_moves (close_len 0 0 (c ∷ cs))) (λ e. either (ltb 0 (name_len (c ∷ cs))) (λ f. token (omega arith)) (λ f. bad))

text_moves : (text : List ℕ) → Moves (text_at text)
unfolding text_at
text_moves text = either (begins_with 34 (drop (prefix_len is_in_text text) text)) (λ e. token (omega arith)) (λ e. bad)

symbol_or_moves : (n : ℕ) (o : Option Fixed) {x : Front} → 0 < n → Moves x → Moves (symbol_or n o x)
symbol_or_moves n None lt m = m
symbol_or_moves n (Some f) lt m = token lt

symbol_moves : (text : List ℕ) → Moves (symbol_at text)
unfolding symbol_at
symbol_moves [] = bad
symbol_moves (a ∷ []) = symbol_or_moves 1 (symbol_1 a) (omega arith) bad
symbol_moves (a ∷ b ∷ []) = symbol_or_moves 2 (symbol_2 a b) (omega arith) (symbol_or_moves 1 (symbol_1 a) (omega arith) bad)
symbol_moves (a ∷ b ∷ c ∷ cs) = symbol_or_moves 3 (symbol_3 a b c) (omega arith) (symbol_or_moves 2 (symbol_2 a b) (omega arith) (symbol_or_moves 1 (symbol_1 a) (omega arith) bad))

line_moves : (c : ℕ) (cs : List ℕ) → eqb c 45 && begins_with 45 cs ≡ true → 0 < line_len (c ∷ cs)
line_moves c cs e = go (eqb c 45) refl e
  where
    go : (b : Bool) → eqb c 45 ≡ b → b && begins_with 45 cs ≡ true → 0 < line_len (c ∷ cs)
    go true f g = let s : c ≡ 45 = eqb-true _ _ f in rw s (omega arith)
    go false f g = absurd cc

sign_moves : (joined : Bool) (text : List ℕ) → Moves (sign_at joined text)
unfolding sign_at field_at
sign_moves joined [] = bad
sign_moves joined (c ∷ cs) = either (eqb c 45 && begins_with 45 cs) (λ e. gap (line_moves c cs e)) (λ e. either (eqb c 46 && joined && starts_digit base.Decimal cs) (λ f. token (omega arith)) (λ f. symbol_moves (c ∷ cs)))

word_moves : (c : ℕ) (cs : List ℕ) → starts_name c ≡ true → 0 < word_len (c ∷ cs)
word_moves c cs e = rw e (omega arith)

pub front_moves : (joined : Bool) (text : List ℕ) → Moves (front_at joined text)
unfolding front_at
front_moves joined [] = bad
front_moves joined (c ∷ cs) =
    either (is_blank c) (λ e. gap (omega arith)) (λ e. either (starts_name c) (λ f. token (word_moves c cs f)) (λ f. either (is_digit c) (λ g. integer_moves c cs g)
    (λ g. either (eqb c 39) (λ h. quote_moves cs) (λ h. either (eqb c 35) (λ i. hash_moves cs) (λ i. either (eqb c 34) (λ j. text_moves cs) (λ j. sign_moves joined (c ∷ cs)))))))

-- ---- room

room_step : (p : Position) (c n : ℕ) → HasRoom p (suc n) → HasRoom (behind_char p c) n
room_step p c n r = go (eqb c 10)
  where
    b : (1 ≤ len_utf8 c) × (len_utf8 c ≤ 4)
    b = len_utf8_bounds c

    go : (t : Bool) → (p.at + len_utf8 c + 4 * n ≤ 16777216) × (cond t (p.line + 1) p.line + n ≤ 4194305) × (cond t 1 (p.column + 1) + n ≤ 4194305)
    go true = (omega (arith, r.0, b), omega (arith, r.1), omega (arith, r.1, r.2))
    go false = (omega (arith, r.0, b), omega (arith, r.1), omega (arith, r.2))

pub room_moved : (p : Position) (cs : List ℕ) (n : ℕ) → HasRoom p (length cs + n) → HasRoom (moved p cs) n
room_moved p [] n r = (omega (arith, r.0), omega (arith, r.1), omega (arith, r.2))
room_moved p (c ∷ cs) n r = room_moved (behind_char p c) cs n (room_step p c (length cs + n) (omega (arith, r.0), omega (arith, r.1), omega (arith, r.2)))

-- over the first characters of a text
pub room_over : (p : Position) (n : ℕ) (text : List ℕ) → HasRoom p (length text) → HasRoom p (length (take n text)) × HasRoom (moved p (take n text)) (length (drop n text))
room_over p n text r =
    let e : length (take n text) + length (drop n text) ≡ length text = omega (arith, length-take n text, length-drop n text) in
    ((omega (arith, r.0, e), omega (arith, r.1, e), omega (arith, r.2, e)), room_moved p (take n text) (length (drop n text)) (rw e r))
