-- What stands at the front of a text by a rule is what is read there.
use Rattle.std.proofs.Common.{◌≡◌, ℕ, zero, suc, ◌+◌, ◌≤◌, ◌<◌, ◌^◌, Bool, true, false, cond, eqb, ltb, List, [], ◌∷◌, length, take, drop, Option, Some, None, refl, sym, ap, subst, ◌∙◌, arith}
use Rattle.std.specs.Prelude.{not, ◌&&◌, ◌||◌}
use Rattle.std.specs.List.{list_all, prefix_len}
use Rattle.std.specs.Str.{encode_utf8_all}
use Rattle.std.proofs.lemmas.Bool.{eqb-true, lt-ltb}
use Rattle.std.proofs.lemmas.Bool.Decides.{nat_tests}
use Rattle.std.proofs.Math.Numerals.{one-add}
use Rattle.fut_scalar.specs.declared.scalar.IntType.{IntType}
use Rattle.fut_token.specs.declared.token.Fixed.{Fixed}
use Rattle.fut_token.specs.declared.token.Lift.{Lift}
use Rattle.fut_token.specs.declared.token.Lift.TheVariants as lift
use Rattle.fut_token.specs.declared.token.TokenKind.TheVariants as kind
use Rattle.fut_token.specs.Spelling.{text_of}
use Rattle.name_characters.specs.Names.{goes_on_name, starts_name}
use Rattle.fut_lexer.specs.declared.front.Front.{Front}
use Rattle.fut_lexer.specs.declared.front.Front.TheVariants as front
use Rattle.fut_lexer.specs.declared.number.Base.{Base}
use Rattle.fut_lexer.specs.declared.number.Base.TheVariants as base
use Rattle.fut_lexer.specs.Words.{begins, is_blank, is_digit, keyword, suffix_of, same, first_spelled, symbols_1, symbols_2, symbols_3, symbol_1, symbol_2, symbol_3}
use Rattle.fut_lexer.specs.Numbers.{is_in_number, value}
use Rattle.fut_lexer.specs.Private.FrontReading.{word_len, word_kind, name_len, with_suffix, integer_in, integer_at, type_variable, type_variable_at, quote_at, attribute, hash_at, text_at, field_at, sign_at, front_at}
use Rattle.fut_lexer.specs.Numbers.{is_float, begins_in, starts_digit}
use Rattle.fut_lexer.specs.Words.{is_in_text}
use Rattle.fut_lexer.specs.Rules.{close_len}
use Rattle.fut_lexer.specs.Rules as rules
use Rattle.fut_lexer.specs.Rules.{Run, Word, Named, Prefix, Digits, is_character, begins_comment, begins_field, Longest, Stands}
use Rattle.fut_lexer.proofs.FrontsSound.{and_left, and_right, none_no_some, Most, most, none, most_symbol, starts_is}

-- ---- runs and words

pub run_len : (p : ℕ → Bool) (n : ℕ) (cs : List ℕ) → Run p n cs → prefix_len p cs ≡ n
run_len p zero [] r = refl
run_len p zero (c ∷ cs) r = rw r.ends refl
run_len p (suc n) [] r = let i : suc n ≤ 0 = r.within in absurd (omega arith)
run_len p (suc n) (c ∷ cs) r =
    let i : suc n ≤ suc (length cs) = r.within in
    let e : p c ≡ true = and_left _ _ r.all in
    let rest : Run p n cs = record { within = omega arith; all = and_right (p c) _ r.all; ends = r.ends } in
    rw (e, one-add) (ap (λ (m : ℕ). suc m) (run_len p n cs rest))

word_is : (n : ℕ) (cs : List ℕ) → Word n cs → word_len cs ≡ n
word_is n cs (rules.word {c} {n = m} {cs = ds} s r) = rw s (ap (λ (k : ℕ). 1 + k) (run_len goes_on_name m ds r))

word_some : (n : ℕ) (cs : List ℕ) → Word n cs → 0 < n
word_some n cs (rules.word s r) = omega arith

word_none : (cs : List ℕ) → begins starts_name cs ≡ false → word_len cs ≡ 0
word_none [] e = refl
word_none (c ∷ cs) e = rw e refl

named_is : (n : ℕ) (cs : List ℕ) → Named n cs → name_len cs ≡ n
unfolding name_len
named_is n cs m = rw (word_is n cs m.spelled, m.own) refl

-- ---- first characters

false_true : false ≡ true → ⊥
false_true e = cc

not_char : (c k : ℕ) → starts_name c ≡ true → starts_name k ≡ false → eqb c k ≡ false
not_char c k s e = go (eqb c k) refl
  where
    go : (b : Bool) → eqb c k ≡ b → b ≡ false
    go true h = absurd (false_true (sym e ∙ ap starts_name (sym (eqb-true c k h)) ∙ s))
    go false h = refl

name_no_blank : (c : ℕ) → starts_name c ≡ true → is_blank c ≡ false
unfolding starts_name
name_no_blank c s = rw (not_char c 32 s refl, not_char c 9 s refl, not_char c 10 s refl, not_char c 13 s refl) refl

digit_no_blank : (c : ℕ) → is_digit c ≡ true → is_blank c ≡ false
digit_no_blank c d = grind (arith, nat_tests)

digit_no_name : (c : ℕ) → is_digit c ≡ true → starts_name c ≡ false
unfolding starts_name
digit_no_name c d = grind (arith, nat_tests)

-- characters that begin symbols
abbrev pub odd : ℕ → Bool
odd c = not (is_blank c || starts_name c || is_digit c || eqb c 39 || eqb c 35 || eqb c 34)

odd_at : (a n : ℕ) → odd n ≡ true → eqb a n ≡ true → odd a ≡ true
odd_at a n o e = ap odd (eqb-true a n e) ∙ o

same_first : (c : ℕ) (cs ds : List ℕ) → begins odd ds ≡ true → same (c ∷ cs) ds ≡ true → odd c ≡ true
same_first c cs [] o e = absurd cc
same_first c cs (d ∷ ds) o e = odd_at c d o (and_left _ _ e)

spelled_odd : (c : ℕ) (cs : List ℕ) (s : Fixed) (fs : List Fixed) → list_all (λ f. begins odd (text_of f)) fs ≡ true → first_spelled (c ∷ cs) fs ≡ Some s → odd c ≡ true
spelled_odd c cs s [] o h = absurd cc
spelled_odd c cs s (f ∷ fs) o h = go (same (c ∷ cs) (text_of f)) refl (λ k. spelled_odd c cs s fs (and_right _ _ o) k) h
  where
    go : (b : Bool) → same (c ∷ cs) (text_of f) ≡ b → (first_spelled (c ∷ cs) fs ≡ Some s → odd c ≡ true) → cond b (Some f) (first_spelled (c ∷ cs) fs) ≡ Some s → odd c ≡ true
    go true t i k = same_first c cs (text_of f) (and_left _ _ o) t
    go false t i k = i k

symbol_odd : (c : ℕ) (cs : List ℕ) (s : Fixed) → rules.symbol_of (c ∷ cs) ≡ Some s → odd c ≡ true
unfolding starts_name symbol_1 symbol_2 symbol_3
symbol_odd c [] s e = spelled_odd c [] s symbols_1 refl e
symbol_odd c (b ∷ []) s e = spelled_odd c (b ∷ []) s symbols_2 refl e
symbol_odd c (b ∷ d ∷ []) s e = spelled_odd c (b ∷ d ∷ []) s symbols_3 refl e
symbol_odd c (b ∷ d ∷ f ∷ cs) s e = absurd cc

some_same : {s t : Fixed} (o : Option Fixed) → o ≡ Some s → o ≡ Some t → s ≡ t
some_same o e f = cc

symbol_same : (f : Fixed) (n : ℕ) (text : List ℕ) → Longest f n text → {g : Front} → Most text g → g ≡ front.Token (kind.Fixed f) n
symbol_same f n text l (most {f = g} {n = m} k) =
    let a : n ≤ m = k.most n f l.within l.spelled in
    let b : m ≤ n = l.most m g k.within k.spelled in
    let e : m ≡ n = omega arith in
    let P : ℕ → Type 0 = λ i. rules.symbol_of (take i text) ≡ Some g in
    let s : g ≡ f = some_same (rules.symbol_of (take n text)) (subst P e k.spelled) l.spelled in
    ap (λ (x : Fixed). front.Token (kind.Fixed x) m) s ∙ ap (λ (i : ℕ). front.Token (kind.Fixed f) i) e
symbol_same f n text l (none h) = absurd (h n f l.spelled)

-- ---- what is read, by the first character

module _ (joined : Bool) where
  front_word : (c : ℕ) (cs : List ℕ) → starts_name c ≡ true → front_at joined (c ∷ cs) ≡ (let n = word_len (c ∷ cs) in front.Token (word_kind (keyword (take n (c ∷ cs))) (take n (c ∷ cs))) n)
  unfolding front_at
  front_word c cs e = rw (name_no_blank c e, e) refl

  front_digit : (c : ℕ) (cs : List ℕ) → is_digit c ≡ true → front_at joined (c ∷ cs) ≡ integer_at (c ∷ cs)
  unfolding front_at
  front_digit c cs e = rw (digit_no_blank c e, digit_no_name c e, e) refl

  front_sign : (c : ℕ) (cs : List ℕ) → odd c ≡ true → front_at joined (c ∷ cs) ≡ sign_at joined (c ∷ cs)
  unfolding front_at
  front_sign c cs o = go (is_blank c) refl (starts_name c) refl (is_digit c) refl (eqb c 39) refl (eqb c 35) refl (eqb c 34) refl o
    where
      go : (a : Bool) → is_blank c ≡ a → (b : Bool) → starts_name c ≡ b → (d : Bool) → is_digit c ≡ d → (e : Bool) → eqb c 39 ≡ e → (f : Bool) → eqb c 35 ≡ f → (g : Bool) → eqb c 34 ≡ g
          → not (a || b || d || e || f || g) ≡ true → front_at joined (c ∷ cs) ≡ sign_at joined (c ∷ cs)
      go false p false q false r false s false t false u o = rw (p, q, r, s, t, u) refl
      go false p false q false r false s false t true u o = absurd cc
      go false p false q false r false s true t g u o = absurd cc
      go false p false q false r true s f t g u o = absurd cc
      go false p false q true r e s f t g u o = absurd cc
      go false p true q d r e s f t g u o = absurd cc
      go true p b q d r e s f t g u o = absurd cc

  of_word : (n : ℕ) (text : List ℕ) → Word n text → (o : Option Fixed) → keyword (take n text) ≡ o → front_at joined text ≡ front.Token (word_kind o (take n text)) n
  of_word n text (rules.word {c} {n = m} {cs} s r) o e =
      front_word c cs s ∙ ap (λ (i : ℕ). front.Token (word_kind (keyword (take i (c ∷ cs))) (take i (c ∷ cs))) i) (word_is n (c ∷ cs) (rules.word s r))
      ∙ ap (λ (q : Option Fixed). front.Token (word_kind q (take (1 + m) (c ∷ cs))) (1 + m)) e

  quote_plain : (cs : List ℕ) → is_character cs ≡ false → quote_at cs ≡ type_variable_at cs
  unfolding quote_at type_variable_at
  quote_plain [] e = refl
  quote_plain (c ∷ []) e = refl
  quote_plain (c ∷ d ∷ cs) e = rw e refl

  variable_is : (l : Lift) (before n : ℕ) (cs : List ℕ) → Named n cs → type_variable l before cs ≡ front.Token (kind.TypeVar l (encode_utf8_all (take n cs))) (before + n)
  variable_is l before n cs m = rw (named_is n cs m, lt-ltb _ _ (word_some n cs m.spelled)) refl

  plain_is : (n : ℕ) (cs : List ℕ) → Word n cs → type_variable_at cs ≡ type_variable lift.Plain 1 cs
  unfolding type_variable_at starts_name
  plain_is n cs (rules.word {c} {n = m} {cs = ds} s r) = rw (not_char c 94 s refl, not_char c 126 s refl) refl

  constructed_is : (n : ℕ) (cs : List ℕ) → Named n cs → Word n cs → hash_at cs ≡ front.Token (kind.Constructor (encode_utf8_all (take n cs))) (1 + n)
  unfolding hash_at starts_name
  constructed_is n cs m (rules.word {c} {n = k} {cs = ds} s r) = rw (not_char c 91 s refl) (rw (named_is n (c ∷ ds) m, lt-ltb _ _ (word_some n (c ∷ ds) m.spelled)) refl)

  lifted_is : (cs : List ℕ) → type_variable_at (94 ∷ cs) ≡ type_variable lift.Lifted 2 cs
  unfolding type_variable_at
  lifted_is cs = refl

  size_lifted_is : (cs : List ℕ) → type_variable_at (126 ∷ cs) ≡ type_variable lift.SizeLifted 2 cs
  unfolding type_variable_at
  size_lifted_is cs = refl

  character_is : (c : ℕ) (cs : List ℕ) → quote_at (c ∷ 39 ∷ cs) ≡ front.Token (kind.Char c) 3
  unfolding quote_at
  character_is c cs = refl

  attribute_is : (n : ℕ) (cs : List ℕ) → close_len 0 0 (91 ∷ cs) ≡ Some n → hash_at (91 ∷ cs) ≡ front.Attribute (1 + n)
  unfolding hash_at
  attribute_is n cs e = ap attribute e

  field_is : (n : ℕ) (cs : List ℕ) → joined ≡ true → begins is_digit cs ≡ true → Run is_digit n cs → sign_at joined (46 ∷ cs) ≡ front.Token (kind.Field (encode_utf8_all (take n cs))) (1 + n)
  unfolding sign_at field_at
  field_is n cs j e r = rw (j, starts_is joined cs, e, run_len is_digit n cs r) refl

  of_symbol : (g : Fixed) (n : ℕ) (us : List ℕ) → Longest g n us → begins_comment us ≡ false → begins_field joined us ≡ false → front_at joined us ≡ front.Token (kind.Fixed g) n
  unfolding sign_at
  of_symbol g zero [] l e h = absurd (none_no_some refl l.spelled)
  of_symbol g (suc n) [] l e h = absurd (none_no_some refl l.spelled)
  of_symbol g zero (c ∷ cs) l e h = absurd (none_no_some refl l.spelled)
  of_symbol g (suc n) (c ∷ cs) l e h =
      front_sign c cs (symbol_odd c (take n cs) g l.spelled)
      ∙ rw (e, ap (λ (b : Bool). eqb c 46 && joined && b) (starts_is joined cs) ∙ h) (symbol_same g (suc n) (c ∷ cs) l (most_symbol (c ∷ cs)))

  -- ---- integers

  no_hexadecimal : (z x : ℕ) (cs : List ℕ) → begins_in 98 base.Binary (z ∷ x ∷ cs) ≡ true → begins_in 120 base.Hexadecimal (z ∷ x ∷ cs) ≡ false
  no_hexadecimal z x cs e =
      let h : x ≡ 98 = eqb-true x 98 (and_right (eqb z 48) _ (and_left _ _ e)) in
      rw h (no_letter (eqb z 48) (starts_digit base.Hexadecimal cs))
    where
      no_letter : (a b : Bool) → a && false && b ≡ false
      no_letter true b = refl
      no_letter false b = refl

  of_prefix : (b : Base) (skip : ℕ) (text : List ℕ) → Prefix b skip text → front_at joined text ≡ integer_in b skip text
  unfolding integer_at
  of_prefix b skip [] (rules.hexadecimal e) = absurd cc
  of_prefix b skip (z ∷ []) (rules.hexadecimal e) = absurd cc
  of_prefix b skip (z ∷ x ∷ cs) (rules.hexadecimal e) = front_digit z (x ∷ cs) (ap is_digit (eqb-true z 48 (and_left _ _ (and_left _ _ e)))) ∙ rw e refl
  of_prefix b skip [] (rules.binary e) = absurd cc
  of_prefix b skip (z ∷ []) (rules.binary e) = absurd cc
  of_prefix b skip (z ∷ x ∷ cs) (rules.binary e) = front_digit z (x ∷ cs) (ap is_digit (eqb-true z 48 (and_left _ _ (and_left _ _ e)))) ∙ rw (no_hexadecimal z x cs e, e) refl
  of_prefix b skip [] (rules.decimal d e f) = absurd cc
  of_prefix b skip (c ∷ cs) (rules.decimal d e f) = front_digit c cs d ∙ rw (e, f) refl

  suffix_is : (v n m : ℕ) (s : IntType) → 0 < m → with_suffix v n m (Some s) ≡ front.Token (kind.Int v (Some s)) (n + m)
  suffix_is v n zero s lt = absurd (omega arith)
  suffix_is v n (suc m) s lt = refl

  of_digits : (b : Base) (skip n : ℕ) (text : List ℕ) → Digits b skip n text → let digits = take n (drop skip text) in let rest = drop n (drop skip text) in
      integer_in b skip text ≡ cond (is_float b rest) front.Float (cond (ltb (value b digits) (2 ^ 64)) (with_suffix (value b digits) (skip + n) (word_len rest) (suffix_of (take (word_len rest) rest))) front.Bad)
  unfolding integer_in
  of_digits b skip n text d = rw (run_len (is_in_number b) n (drop skip text) d.run, d.last) refl

  -- ---- all rules

  pub stands_is : (text : List ℕ) (f : Front) → Stands joined text f → front_at joined text ≡ f
  unfolding front_at starts_name sign_at text_at
  stands_is text f (rules.blanks {c} {n} {cs} e r) = rw e (ap (λ (m : ℕ). front.Gap (1 + m)) (run_len is_blank n cs r))
  stands_is text f (rules.comment {n} {cs} r) = ap (λ (m : ℕ). front.Gap m) (run_len (λ c. not (eqb c 10)) n (45 ∷ 45 ∷ cs) r)
  stands_is text f (rules.attribute {n} {cs} e) = attribute_is n cs e
  stands_is text f (rules.name {n} {text = us} m) = of_word n us m.spelled None m.own
  stands_is text f (rules.keyword_or_wildcard {f = g} {n} {text = us} w e) = of_word n us w (Some g) e
  stands_is text f (rules.character {c} {cs}) = character_is c cs
  stands_is text f (rules.variable {n} {cs} e m) = quote_plain cs e ∙ plain_is n cs m.spelled ∙ variable_is lift.Plain 1 n cs m
  stands_is text f (rules.lifted {n} {cs} e m) = quote_plain (94 ∷ cs) e ∙ lifted_is cs ∙ variable_is lift.Lifted 2 n cs m
  stands_is text f (rules.size_lifted {n} {cs} e m) = quote_plain (126 ∷ cs) e ∙ size_lifted_is cs ∙ variable_is lift.SizeLifted 2 n cs m
  stands_is text f (rules.constructed {n} {cs} m) = constructed_is n cs m m.spelled
  stands_is text f (rules.text {n} {cs} r e) = rw (run_len is_in_text n cs r, e) refl
  stands_is text f (rules.field {n} {cs} j e r) = field_is n cs j e r
  stands_is text f (rules.integer {b} {skip} {n} {text = us} d g v w) = of_prefix b skip us d.prefix ∙ of_digits b skip n us d ∙ rw (g, lt-ltb _ _ v, word_none (drop n (drop skip us)) w) refl
  stands_is text f (rules.suffixed {b} {skip} {n} {m} {s} {text = us} d g v w e) =
      of_prefix b skip us d.prefix ∙ of_digits b skip n us d ∙ rw (g, lt-ltb _ _ v, word_is m (drop n (drop skip us)) w, e) (suffix_is (value b (take n (drop skip us))) (skip + n) m s (word_some m _ w))
  stands_is text f (rules.float {b} {skip} {n} {text = us} d g) = of_prefix b skip us d.prefix ∙ of_digits b skip n us d ∙ rw g refl
  stands_is text f (rules.symbol {f = g} {n} {text = us} l e h) = of_symbol g n us l e h
