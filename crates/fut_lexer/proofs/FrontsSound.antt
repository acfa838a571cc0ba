-- What is read at the front of a text stands there by a rule.
use Rattle.std.proofs.Common.{◌≡◌, ℕ, zero, suc, ◌+◌, ◌≤◌, ◌<◌, ◌^◌, Bool, true, false, cond, eqb, ltb, List, [], ◌∷◌, length, take, drop, Option, Some, None, refl, sym, ap, subst, ◌∙◌, arith}
use Rattle.std.specs.Prelude.{not, ◌&&◌}
use Rattle.std.specs.List.{list_all, prefix_len}
use Rattle.std.proofs.lemmas.Bool.{eqb-true, ltb-true}
use Rattle.std.proofs.lemmas.List.Sums.{prefix_len-le-length}
use Rattle.std.proofs.lemmas.List.{length-take}
use Rattle.std.proofs.Math.Numerals.{one-add}
use Rattle.fut_scalar.specs.declared.scalar.IntType.{IntType}
use Rattle.fut_token.specs.declared.token.Fixed.{Fixed}
use Rattle.fut_token.specs.declared.token.Lift.TheVariants as lift
use Rattle.fut_token.specs.declared.token.TokenKind.TheVariants as kind
use Rattle.name_characters.specs.Names.{goes_on_name, starts_name}
use Rattle.fut_lexer.specs.declared.front.Front.{Front}
use Rattle.fut_lexer.specs.declared.front.Front.TheVariants as front
use Rattle.fut_lexer.specs.declared.number.Base.{Base}
use Rattle.fut_lexer.specs.declared.number.Base.TheVariants as base
use Rattle.fut_lexer.specs.Words.{begins, is_blank, is_digit, keyword, suffix_of, symbol_1, symbol_2, symbol_3}
use Rattle.fut_lexer.specs.Numbers.{is_digit_of, is_in_number, value, ends_in_underscore}
use Rattle.fut_lexer.specs.Private.FrontReading.{word_len, word_kind, is_none, name_len, with_suffix, integer_in, integer_at, type_variable, type_variable_at, quote_at, attribute, hash_at, text_at, symbol_or, symbol_at, line_len, field_at, sign_at, front_at}
use Rattle.fut_lexer.specs.Numbers.{is_float, begins_in, starts_digit}
use Rattle.fut_lexer.specs.Words.{is_in_text, begins_with}
use Rattle.fut_lexer.specs.Rules.{close_len}
use Rattle.fut_lexer.specs.Rules as rules
use Rattle.fut_lexer.specs.Rules.{Run, Word, Named, Prefix, Digits, is_character, begins_comment, begins_field, Longest, Stands}

-- a rule gives it, or it is bad
pub data Right (joined : Bool) (text : List ℕ) : Front → Type 0 where
  good : {f : Front} → Stands joined text f → Right joined text f
  bad : Right joined text front.Bad

either : {joined : Bool} {text : List ℕ} (b : Bool) {x y : Front} → (b ≡ true → Right joined text x) → (b ≡ false → Right joined text y) → Right joined text (cond b x y)
either true f g = f refl
either false f g = g refl

pub and_left : (a b : Bool) → a && b ≡ true → a ≡ true
and_left true b e = refl
and_left false b e = absurd cc

pub and_right : (a b : Bool) → a && b ≡ true → b ≡ true
and_right true b e = e
and_right false b e = absurd cc

-- ---- runs

run_all : (p : ℕ → Bool) (cs : List ℕ) → list_all p (take (prefix_len p cs) cs) ≡ true
run_all p [] = refl
run_all p (c ∷ cs) = go (p c) refl (run_all p cs)
  where
    go : (b : Bool) → p c ≡ b → list_all p (take (prefix_len p cs) cs) ≡ true → list_all p (take (cond b (1 + prefix_len p cs) 0) (c ∷ cs)) ≡ true
    go true e i = rw (one-add, e) i
    go false e i = refl

run_ends : (p : ℕ → Bool) (cs : List ℕ) → begins p (drop (prefix_len p cs) cs) ≡ false
run_ends p [] = refl
run_ends p (c ∷ cs) = go (p c) refl (run_ends p cs)
  where
    go : (b : Bool) → p c ≡ b → begins p (drop (prefix_len p cs) cs) ≡ false → begins p (drop (cond b (1 + prefix_len p cs) 0) (c ∷ cs)) ≡ false
    go true e i = rw one-add i
    go false e i = e

pub a_run : (p : ℕ → Bool) (cs : List ℕ) → Run p (prefix_len p cs) cs
a_run p cs = record { within = prefix_len-le-length p cs; all = run_all p cs; ends = run_ends p cs }

-- ---- words

pub a_word : (cs : List ℕ) → 0 < word_len cs → Word (word_len cs) cs
a_word [] lt = absurd (omega arith)
a_word (c ∷ cs) lt = go (starts_name c) refl lt
  where
    go : (b : Bool) → starts_name c ≡ b → 0 < cond b (1 + prefix_len goes_on_name cs) 0 → Word (cond b (1 + prefix_len goes_on_name cs) 0) (c ∷ cs)
    go true e lt = rules.word e (a_run goes_on_name cs)
    go false e lt = absurd (omega arith)

is_none_true : (o : Option Fixed) → is_none o ≡ true → o ≡ None
is_none_true None e = refl
is_none_true (Some f) e = absurd cc

a_name : (cs : List ℕ) → ltb 0 (name_len cs) ≡ true → Named (name_len cs) cs
unfolding name_len
a_name cs e = go (is_none (keyword (take (word_len cs) cs))) refl (ltb-true _ _ e)
  where
    go : (b : Bool) → is_none (keyword (take (word_len cs) cs)) ≡ b → 0 < cond b (word_len cs) 0 → Named (cond b (word_len cs) 0) cs
    go true e lt = record { spelled = a_word cs lt; own = is_none_true _ e }
    go false e lt = absurd (omega arith)

-- ---- symbols

pub none_no_some : {A : Type 0} {x : A} {o : Option A} → o ≡ None → o ≡ Some x → ⊥
none_no_some e f = cc

symbol_short : (cs : List ℕ) (s : Fixed) → rules.symbol_of cs ≡ Some s → length cs ≤ 3
symbol_short [] s e = absurd cc
symbol_short (a ∷ []) s e = omega arith
symbol_short (a ∷ b ∷ []) s e = omega arith
symbol_short (a ∷ b ∷ c ∷ []) s e = omega arith
symbol_short (a ∷ b ∷ c ∷ d ∷ cs) s e = absurd cc

-- the longest symbol, or there is none
pub data Most (text : List ℕ) : Front → Type 0 where
  most : {f : Fixed} {n : ℕ} → Longest f n text → Most text (front.Token (kind.Fixed f) n)
  none : ((m : ℕ) (s : Fixed) → rules.symbol_of (take m text) ≡ Some s → ⊥) → Most text front.Bad

most_1 : (a : ℕ) → Most (a ∷ []) (symbol_or 1 (symbol_1 a) front.Bad)
most_1 a = go (symbol_1 a) refl
  where
    go : (o : Option Fixed) → symbol_1 a ≡ o → Most (a ∷ []) (symbol_or 1 o front.Bad)
    go (Some s) e = most (record { within = omega arith; spelled = e; most = λ m t le f. le })
    go None e = none (elim [ zero ↦ λ t f. absurd cc | suc zero ↦ λ t f. none_no_some e f | suc (suc m) ↦ λ t f. none_no_some e f ])

most_2 : (a b : ℕ) → Most (a ∷ b ∷ []) (symbol_or 2 (symbol_2 a b) (symbol_or 1 (symbol_1 a) front.Bad))
most_2 a b = go (symbol_2 a b) refl (symbol_1 a) refl
  where
    go : (o : Option Fixed) → symbol_2 a b ≡ o → (p : Option Fixed) → symbol_1 a ≡ p → Most (a ∷ b ∷ []) (symbol_or 2 o (symbol_or 1 p front.Bad))
    go (Some s) e p f = most (record { within = omega arith; spelled = e; most = λ m t le g. le })
    go None e (Some s) f = most (record { within = omega arith; spelled = f; most = elim [ zero ↦ λ t le g. omega arith | suc zero ↦ λ t le g. omega arith | suc (suc zero) ↦ λ t le g. absurd (none_no_some e g) | suc (suc (suc m)) ↦ λ t le g. absurd (none_no_some e g) ] })
    go None e None f = none (elim [ zero ↦ λ t g. absurd cc | suc zero ↦ λ t g. none_no_some f g | suc (suc zero) ↦ λ t g. none_no_some e g | suc (suc (suc m)) ↦ λ t g. none_no_some e g ])

within_two : (a b c : ℕ) (cs : List ℕ) → symbol_3 a b c ≡ None → (m : ℕ) (t : Fixed) → rules.symbol_of (take m (a ∷ b ∷ c ∷ cs)) ≡ Some t → m ≤ 2
within_two a b c cs e zero t h = omega arith
within_two a b c cs e (suc zero) t h = omega arith
within_two a b c cs e (suc (suc zero)) t h = omega arith
within_two a b c cs e (suc (suc (suc zero))) t h = absurd (none_no_some e h)
within_two a b c [] e (suc (suc (suc (suc m)))) t h = absurd (none_no_some e h)
within_two a b c (d ∷ cs) e (suc (suc (suc (suc m)))) t h = absurd cc

within_one : (a b c : ℕ) (cs : List ℕ) → symbol_2 a b ≡ None → (m : ℕ) (t : Fixed) → m ≤ 2 → rules.symbol_of (take m (a ∷ b ∷ c ∷ cs)) ≡ Some t → m ≤ 1
within_one a b c cs e zero t le h = omega arith
within_one a b c cs e (suc zero) t le h = omega arith
within_one a b c cs e (suc (suc zero)) t le h = absurd (none_no_some e h)
within_one a b c cs e (suc (suc (suc m))) t le h = absurd (omega arith)

at_none : (a b c : ℕ) (cs : List ℕ) → symbol_1 a ≡ None → (m : ℕ) (t : Fixed) → m ≤ 1 → rules.symbol_of (take m (a ∷ b ∷ c ∷ cs)) ≡ Some t → ⊥
at_none a b c cs e zero t le h = absurd cc
at_none a b c cs e (suc zero) t le h = none_no_some e h
at_none a b c cs e (suc (suc m)) t le h = absurd (omega arith)

most_3 : (a b c : ℕ) (cs : List ℕ) → Most (a ∷ b ∷ c ∷ cs) (symbol_or 3 (symbol_3 a b c) (symbol_or 2 (symbol_2 a b) (symbol_or 1 (symbol_1 a) front.Bad)))
most_3 a b c cs = go (symbol_3 a b c) refl (symbol_2 a b) refl (symbol_1 a) refl
  where
    go : (o : Option Fixed) → symbol_3 a b c ≡ o → (p : Option Fixed) → symbol_2 a b ≡ p → (q : Option Fixed) → symbol_1 a ≡ q → Most (a ∷ b ∷ c ∷ cs) (symbol_or 3 o (symbol_or 2 p (symbol_or 1 q front.Bad)))
    go (Some s) e p f q g = most (record { within = omega arith; spelled = e; most = λ m t le h. let i = symbol_short (take m (a ∷ b ∷ c ∷ cs)) t h in omega (arith, length-take m (a ∷ b ∷ c ∷ cs)) })
    go None e (Some s) f q g = most (record { within = omega arith; spelled = f; most = λ m t le h. let k = within_two a b c cs e m t h in omega arith })
    go None e None f (Some s) g = most (record { within = omega arith; spelled = g; most = λ m t le h. let k = within_two a b c cs e m t h in within_one a b c cs f m t k h })
    go None e None f None g = none (λ m t h. let k = within_two a b c cs e m t h in let l = within_one a b c cs f m t k h in at_none a b c cs g m t l h)

pub most_symbol : (text : List ℕ) → Most text (symbol_at text)
unfolding symbol_at
most_symbol [] = none (elim [ zero ↦ λ t f. absurd cc | suc m ↦ λ t f. absurd cc ])
most_symbol (a ∷ []) = most_1 a
most_symbol (a ∷ b ∷ []) = most_2 a b
most_symbol (a ∷ b ∷ c ∷ cs) = most_3 a b c cs

symbol_right : (joined : Bool) (text : List ℕ) → begins_comment text ≡ false → begins_field joined text ≡ false → {f : Front} → Most text f → Right joined text f
symbol_right joined text e g (most l) = good (rules.symbol l e g)
symbol_right joined text e g (none h) = bad

-- ---- what a quote, a `#`, a double quote, a hyphen or a point begins

module _ (joined : Bool) where
  -- with a known first character
  at_char : (c k : ℕ) (cs : List ℕ) {f : Front} → eqb c k ≡ true → Right joined (k ∷ cs) f → Right joined (c ∷ cs) f
  at_char c k cs {f} e r =
      let P : ℕ → Type 0 = λ d. Right joined (d ∷ cs) f in
      subst P (sym (eqb-true c k e)) r

  variable_right : (cs : List ℕ) → is_character cs ≡ false → Right joined (39 ∷ cs) (type_variable_at cs)
  unfolding type_variable_at
  variable_right [] e = bad
  variable_right (c ∷ cs) e = either (eqb c 94) (λ g. lifted g) (λ g. either (eqb c 126) (λ h. size_lifted h) (λ h. either (ltb 0 (name_len (c ∷ cs))) (λ i. good (rules.variable e (a_name (c ∷ cs) i))) (λ i. bad)))
    where
      lifted : eqb c 94 ≡ true → Right joined (39 ∷ c ∷ cs) (type_variable lift.Lifted 2 cs)
      lifted g =
          let P : ℕ → Type 0 = λ d. is_character (d ∷ cs) ≡ false → Right joined (39 ∷ d ∷ cs) (type_variable lift.Lifted 2 cs) in
          subst P (sym (eqb-true c 94 g)) (λ q. either (ltb 0 (name_len cs)) (λ i. good (rules.lifted q (a_name cs i))) (λ i. bad)) e

      size_lifted : eqb c 126 ≡ true → Right joined (39 ∷ c ∷ cs) (type_variable lift.SizeLifted 2 cs)
      size_lifted g =
          let P : ℕ → Type 0 = λ d. is_character (d ∷ cs) ≡ false → Right joined (39 ∷ d ∷ cs) (type_variable lift.SizeLifted 2 cs) in
          subst P (sym (eqb-true c 126 g)) (λ q. either (ltb 0 (name_len cs)) (λ i. good (rules.size_lifted q (a_name cs i))) (λ i. bad)) e

  quote_right : (cs : List ℕ) → Right joined (39 ∷ cs) (quote_at cs)
  unfolding quote_at
  quote_right [] = bad
  quote_right (c ∷ []) = variable_right (c ∷ []) refl
  quote_right (c ∷ d ∷ cs) = either (eqb d 39) (λ e. char e) (λ e. variable_right (c ∷ d ∷ cs) e)
    where
      char : eqb d 39 ≡ true → Right joined (39 ∷ c ∷ d ∷ cs) (front.Token (kind.Char c) 3)
      char e =
          let P : ℕ → Type 0 = λ x. Right joined (39 ∷ c ∷ x ∷ cs) (front.Token (kind.Char c) 3) in
          subst P (sym (eqb-true d 39 e)) (good rules.character)

  attribute_right : (cs : List ℕ) (o : Option ℕ) → close_len 0 0 (91 ∷ cs) ≡ o → Right joined (35 ∷ 91 ∷ cs) (attribute o)
  attribute_right cs None e = bad
  attribute_right cs (Some n) e = good (rules.attribute e)

  hash_right : (cs : List ℕ) → Right joined (35 ∷ cs) (hash_at cs)
  unfolding hash_at
  hash_right [] = bad
  hash_right (c ∷ cs) = either (eqb c 91) (λ e. bracket e) (λ e. either (ltb 0 (name_len (c ∷ cs))) (λ i. good (rules.constructed (a_name (c ∷ cs) i))) (λ i. bad))
    where
      bracket : eqb c 91 ≡ true → Right joined (35 ∷ c ∷ cs) (attribute (close_len 0 0 (c ∷ cs)))
      bracket e =
          let P : ℕ → Type 0 = λ x. Right joined (35 ∷ x ∷ cs) (attribute (close_len 0 0 (x ∷ cs))) in
          subst P (sym (eqb-true c 91 e)) (attribute_right cs (close_len 0 0 (91 ∷ cs)) refl)

  text_right : (cs : List ℕ) → Right joined (34 ∷ cs) (text_at cs)
  unfolding text_at
  text_right cs = either (begins_with 34 (drop (prefix_len is_in_text cs) cs)) (λ e. good (rules.text (a_run is_in_text cs) e)) (λ e. bad)

  comment_right : (c : ℕ) (cs : List ℕ) → eqb c 45 && begins_with 45 cs ≡ true → Right joined (c ∷ cs) (front.Gap (line_len (c ∷ cs)))
  comment_right c [] e = absurd (false_true (sym (and_false (eqb c 45)) ∙ e))
    where
      false_true : false ≡ true → ⊥
      false_true e = cc

      and_false : (b : Bool) → b && false ≡ false
      and_false true = refl
      and_false false = refl
  comment_right c (d ∷ cs) e =
      let P : ℕ → Type 0 = λ x. Right joined (x ∷ d ∷ cs) (front.Gap (line_len (x ∷ d ∷ cs))) in
      let Q : ℕ → Type 0 = λ x. Right joined (45 ∷ x ∷ cs) (front.Gap (line_len (45 ∷ x ∷ cs))) in
      subst P (sym (eqb-true c 45 (and_left _ _ e))) (subst Q (sym (eqb-true d 45 (and_right _ _ e))) (good (rules.comment (a_run (λ x. not (eqb x 10)) (45 ∷ 45 ∷ cs)))))

  pub starts_is : (cs : List ℕ) → starts_digit base.Decimal cs ≡ begins is_digit cs
  unfolding is_digit_of
  starts_is [] = refl
  starts_is (c ∷ cs) = refl

  field_right : (c : ℕ) (cs : List ℕ) → eqb c 46 && joined && starts_digit base.Decimal cs ≡ true → Right joined (c ∷ cs) (field_at cs)
  unfolding field_at
  field_right c cs e = at_char c 46 cs (and_left _ _ (and_left _ _ e)) (good (rules.field (and_right (eqb c 46) joined (and_left _ _ e)) (sym (starts_is cs) ∙ and_right (eqb c 46 && joined) _ e) (a_run is_digit cs)))

  sign_right : (cs : List ℕ) → Right joined cs (sign_at joined cs)
  unfolding sign_at
  sign_right [] = bad
  sign_right (c ∷ cs) = either (eqb c 45 && begins_with 45 cs) (λ e. comment_right c cs e) (λ e. either (eqb c 46 && joined && starts_digit base.Decimal cs) (λ g. field_right c cs g) (λ g. symbol_right joined (c ∷ cs) e (ap (λ (b : Bool). eqb c 46 && joined && b) (sym (starts_is cs)) ∙ g) (most_symbol (c ∷ cs))))

  -- ---- integers

  suffix_right : {b : Base} {skip n : ℕ} {text : List ℕ} → Digits b skip n text → is_float b (drop n (drop skip text)) ≡ false → value b (take n (drop skip text)) < 2 ^ 64
      → (w : ℕ) → word_len (drop n (drop skip text)) ≡ w → (o : Option IntType) → suffix_of (take w (drop n (drop skip text))) ≡ o → Right joined text (with_suffix (value b (take n (drop skip text))) (skip + n) w o)
  suffix_right {b} {skip} {n} {text} d f v zero e o s = good (rules.integer d f v (no_word (drop n (drop skip text)) e))
    where
      no_word : (cs : List ℕ) → word_len cs ≡ 0 → begins starts_name cs ≡ false
      no_word [] e = refl
      no_word (c ∷ cs) e = go (starts_name c) refl e
        where
          go : (b : Bool) → starts_name c ≡ b → cond b (1 + prefix_len goes_on_name cs) 0 ≡ 0 → starts_name c ≡ false
          go true g h = absurd (omega arith)
          go false g h = g
  suffix_right d f v (suc w) e None s = bad
  suffix_right {b} {skip} {n} {text} d f v (suc w) e (Some i) s =
      let P : ℕ → Type 0 = λ m. Word m (drop n (drop skip text)) in
      good (rules.suffixed d f v (subst P e (a_word (drop n (drop skip text)) (rw e (omega arith)))) s)

  integer_in_right : (b : Base) (skip : ℕ) (text : List ℕ) → Prefix b skip text → Right joined text (integer_in b skip text)
  unfolding integer_in
  integer_in_right b skip text p =
      let inner = drop skip text in
      let run = prefix_len (is_in_number b) inner in
      let rest = drop run inner in
      let v = value b (take run inner) in
      either (ends_in_underscore (take run inner)) (λ e. bad) (λ e.
      let d : Digits b skip run text = record { prefix = p; run = a_run (is_in_number b) inner; last = e } in
      either (is_float b rest) (λ f. good (rules.float d f)) (λ f. either (ltb v (2 ^ 64))
      (λ g. suffix_right d f (ltb-true _ _ g) (word_len rest) refl (suffix_of (take (word_len rest) rest)) refl) (λ g. bad)))

  integer_right : (c : ℕ) (cs : List ℕ) → is_digit c ≡ true → Right joined (c ∷ cs) (integer_at (c ∷ cs))
  unfolding integer_at
  integer_right c cs d = either (begins_in 120 base.Hexadecimal (c ∷ cs)) (λ e. integer_in_right base.Hexadecimal 2 (c ∷ cs) (rules.hexadecimal e)) (λ e.
      either (begins_in 98 base.Binary (c ∷ cs)) (λ f. integer_in_right base.Binary 2 (c ∷ cs) (rules.binary f)) (λ f. integer_in_right base.Decimal 0 (c ∷ cs) (rules.decimal d e f)))

  word_right : (n : ℕ) (text : List ℕ) → Word n text → (o : Option Fixed) → keyword (take n text) ≡ o → Right joined text (front.Token (word_kind o (take n text)) n)
  word_right n text w None e = good (rules.name (record { spelled = w; own = e }))
  word_right n text w (Some f) e = good (rules.keyword_or_wildcard w e)

  word_moves : (c : ℕ) (cs : List ℕ) → starts_name c ≡ true → 0 < word_len (c ∷ cs)
  word_moves c cs e = rw e (omega arith)

  pub front_right : (text : List ℕ) → Right joined text (front_at joined text)
  unfolding front_at
  front_right [] = bad
  front_right (c ∷ cs) =
      either (is_blank c) (λ e. good (rules.blanks e (a_run is_blank cs))) (λ e. either (starts_name c) (λ f. word_right (word_len (c ∷ cs)) (c ∷ cs) (a_word (c ∷ cs) (word_moves c cs f)) _ refl)
      (λ f. either (is_digit c) (λ g. integer_right c cs g) (λ g. either (eqb c 39) (λ h. at_char c 39 cs h (quote_right cs)) (λ h. either (eqb c 35) (λ i. at_char c 35 cs i (hash_right cs))
      (λ i. either (eqb c 34) (λ j. at_char c 34 cs j (text_right cs)) (λ j. sign_right (c ∷ cs)))))))
