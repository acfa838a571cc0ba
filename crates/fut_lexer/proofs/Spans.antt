-- The tokens of a text stand in order, each where its bytes spell it.
use Rattle.std.proofs.Common.{◌≡◌, ℕ, zero, suc, ◌+◌, ◌-◌, ◌≤◌, ◌<◌, Bool, true, false, cond, eqb, List, [], ◌∷◌, ◌++◌, length, take, drop, Some, None, refl, sym, ap, subst, ◌∙◌, arith, append_assoc, length-append}
use Rattle.std.specs.Prelude.{codes}
use Rattle.std.specs.Str.{encode_utf8_all}
use Rattle.std.specs.Char.{len_utf8}
use Rattle.std.proofs.lemmas.Bool.{eqb-true}
use Rattle.std.proofs.lemmas.List.{append-nil, take-append-drop, length-take}
use Rattle.std.proofs.lemmas.Str.{encodes-append, length-encode, length-le-encodes}
use Rattle.std.proofs.Math.Numerals.{one-add}
use Rattle.std.proofs.Math.Seq.{drop-append_seam, take-append_seam}
use Rattle.std.proofs.Math.Utf8.{encode}
use Rattle.fut_scalar.specs.declared.scalar.IntType.{IntType}
use Rattle.fut_scalar.specs.declared.scalar.IntType.TheVariants as int
use Rattle.fut_token.specs.Spelling.{text_of}
use Rattle.fut_token.specs.declared.token.Fixed.{Fixed}
use Rattle.fut_token.specs.declared.token.Fixed.TheVariants as fixed
use Rattle.fut_token.specs.declared.token.Token.{Token}
use Rattle.fut_token.specs.declared.token.TokenKind.{TokenKind}
use Rattle.fut_token.specs.declared.token.TokenKind.TheVariants as kind
use Rattle.fut_lexer.specs.declared.front.Front.{Front}
use Rattle.fut_lexer.specs.declared.front.Front.TheVariants as front
use Rattle.fut_lexer.specs.declared.number.Base.{Base}
use Rattle.fut_lexer.specs.declared.position.Position.{Position}
use Rattle.fut_lexer.specs.Words.{begins_with, same, first_spelled, keywords, keyword, suffix_of, symbols_1, symbols_2, symbols_3, symbol_1, symbol_2, symbol_3}
use Rattle.fut_lexer.specs.Numbers.{value}
use Rattle.fut_lexer.specs.Rules as rules
use Rattle.fut_lexer.specs.Rules.{symbol_of, Prefix, Digits, Stands}
use Rattle.fut_lexer.specs.Positions.{moved}
use Rattle.fut_lexer.specs.Scanned.{Tokens, finish, gap, attribute, token}
use Rattle.fut_lexer.specs.Spans.{prefix_text, suffix_text, SpelledBy, InOrder}
use Rattle.fut_lexer.proofs.FrontsSound.{and_left, and_right}
use Rattle.fut_lexer.proofs.Moves as moves
use Rattle.fut_lexer.proofs.Moves.{Moves, front_moves}
use Rattle.fut_lexer.proofs.FrontsComplete.{stands_is}
use Rattle.fut_lexer.proofs.Fronts.{none_at_end}

-- ---- words and symbols

pub same_is : (cs ds : List ℕ) → same cs ds ≡ true → cs ≡ ds
same_is [] [] e = refl
same_is [] (d ∷ ds) e = absurd cc
same_is (c ∷ cs) [] e = absurd cc
same_is (c ∷ cs) (d ∷ ds) e = ap (λ (x : ℕ). x ∷ cs) (eqb-true c d (and_left _ _ e)) ∙ ap (λ (us : List ℕ). d ∷ us) (same_is cs ds (and_right (eqb c d) _ e))

some_is : {f g : Fixed} → Some f ≡ Some g → f ≡ g
some_is e = cc

spelled_is : (cs : List ℕ) (fs : List Fixed) (f : Fixed) → first_spelled cs fs ≡ Some f → cs ≡ text_of f
spelled_is cs [] f e = absurd cc
spelled_is cs (g ∷ fs) f e = go (same cs (text_of g)) refl (λ h. spelled_is cs fs f h) e
  where
    go : (b : Bool) → same cs (text_of g) ≡ b → (first_spelled cs fs ≡ Some f → cs ≡ text_of f) → cond b (Some g) (first_spelled cs fs) ≡ Some f → cs ≡ text_of f
    go true s h e = same_is cs (text_of g) s ∙ ap text_of (some_is e)
    go false s h e = h e

keyword_is : (cs : List ℕ) (f : Fixed) → keyword cs ≡ Some f → cs ≡ text_of f
unfolding keyword
keyword_is cs f e = spelled_is cs keywords f e

symbol_is : (cs : List ℕ) (f : Fixed) → symbol_of cs ≡ Some f → cs ≡ text_of f
unfolding symbol_1 symbol_2 symbol_3
symbol_is [] f e = absurd cc
symbol_is (a ∷ []) f e = spelled_is (a ∷ []) symbols_1 f e
symbol_is (a ∷ b ∷ []) f e = spelled_is (a ∷ b ∷ []) symbols_2 f e
symbol_is (a ∷ b ∷ c ∷ []) f e = spelled_is (a ∷ b ∷ c ∷ []) symbols_3 f e
symbol_is (a ∷ b ∷ c ∷ d ∷ cs) f e = absurd cc

-- keywords and symbols are ASCII
ascii : (f : Fixed) → encode_utf8_all (text_of f) ≡ text_of f
unfolding encode
ascii fixed.KeyDef = refl
ascii fixed.KeyLet = refl
ascii fixed.KeyEntry = refl
ascii fixed.KeyIn = refl
ascii fixed.KeyIf = refl
ascii fixed.KeyThen = refl
ascii fixed.KeyElse = refl
ascii fixed.KeyLoop = refl
ascii fixed.KeyFor = refl
ascii fixed.KeyWhile = refl
ascii fixed.KeyDo = refl
ascii fixed.KeyWith = refl
ascii fixed.KeyAssert = refl
ascii fixed.KeyType = refl
ascii fixed.KeyModule = refl
ascii fixed.KeyOpen = refl
ascii fixed.KeyLocal = refl
ascii fixed.KeyInclude = refl
ascii fixed.KeyImport = refl
ascii fixed.KeyVal = refl
ascii fixed.KeyTrue = refl
ascii fixed.KeyFalse = refl
ascii fixed.KeyMatch = refl
ascii fixed.KeyCase = refl
ascii fixed.Wildcard = refl
ascii fixed.Plus = refl
ascii fixed.Minus = refl
ascii fixed.Star = refl
ascii fixed.Slash = refl
ascii fixed.Percent = refl
ascii fixed.SlashSlash = refl
ascii fixed.PercentPercent = refl
ascii fixed.StarStar = refl
ascii fixed.EqualEqual = refl
ascii fixed.BangEqual = refl
ascii fixed.Less = refl
ascii fixed.LessEqual = refl
ascii fixed.Greater = refl
ascii fixed.GreaterEqual = refl
ascii fixed.AndAnd = refl
ascii fixed.OrOr = refl
ascii fixed.And = refl
ascii fixed.Or = refl
ascii fixed.Caret = refl
ascii fixed.ShiftLeft = refl
ascii fixed.ShiftRight = refl
ascii fixed.PipeRight = refl
ascii fixed.PipeLeft = refl
ascii fixed.ComposeRight = refl
ascii fixed.ComposeLeft = refl
ascii fixed.Equal = refl
ascii fixed.Arrow = refl
ascii fixed.Backslash = refl
ascii fixed.OpenParen = refl
ascii fixed.CloseParen = refl
ascii fixed.OpenBracket = refl
ascii fixed.CloseBracket = refl
ascii fixed.OpenBrace = refl
ascii fixed.CloseBrace = refl
ascii fixed.Comma = refl
ascii fixed.Colon = refl
ascii fixed.ColonGreater = refl
ascii fixed.Dot = refl
ascii fixed.DotDot = refl
ascii fixed.DotDotLess = refl
ascii fixed.DotDotGreater = refl
ascii fixed.DotDotDot = refl
ascii fixed.Bang = refl
ascii fixed.Question = refl
ascii fixed.Tilde = refl
ascii fixed.Backtick = refl

type_is : (cs : List ℕ) (s : IntType) → suffix_of cs ≡ Some s → cs ≡ suffix_text (Some s)
unfolding suffix_of
type_is cs s e = go (same cs (codes "i8")) refl (same cs (codes "i16")) refl (same cs (codes "i32")) refl (same cs (codes "i64")) refl
    (same cs (codes "u8")) refl (same cs (codes "u16")) refl (same cs (codes "u32")) refl (same cs (codes "u64")) refl e
  where
    is : {t : IntType} → Some t ≡ Some s → cs ≡ suffix_text (Some t) → cs ≡ suffix_text (Some s)
    is {t} e h =
        let q : t ≡ s = cc in
        h ∙ ap (λ (i : IntType). suffix_text (Some i)) q

    go : (a : Bool) → same cs (codes "i8") ≡ a → (b : Bool) → same cs (codes "i16") ≡ b → (c : Bool) → same cs (codes "i32") ≡ c → (d : Bool) → same cs (codes "i64") ≡ d
        → (f : Bool) → same cs (codes "u8") ≡ f → (g : Bool) → same cs (codes "u16") ≡ g → (h : Bool) → same cs (codes "u32") ≡ h → (i : Bool) → same cs (codes "u64") ≡ i
        → cond a (Some int.I8) (cond b (Some int.I16) (cond c (Some int.I32) (cond d (Some int.I64) (cond f (Some int.U8) (cond g (Some int.U16) (cond h (Some int.U32) (cond i (Some int.U64) None))))))) ≡ Some s
        → cs ≡ suffix_text (Some s)
    go true p b q c r d t f u g v h w i x e = is e (same_is cs (codes "i8") p)
    go false p true q c r d t f u g v h w i x e = is e (same_is cs (codes "i16") q)
    go false p false q true r d t f u g v h w i x e = is e (same_is cs (codes "i32") r)
    go false p false q false r true t f u g v h w i x e = is e (same_is cs (codes "i64") t)
    go false p false q false r false t true u g v h w i x e = is e (same_is cs (codes "u8") u)
    go false p false q false r false t false u true v h w i x e = is e (same_is cs (codes "u16") v)
    go false p false q false r false t false u false v true w i x e = is e (same_is cs (codes "u32") w)
    go false p false q false r false t false u false v false w true x e = is e (same_is cs (codes "u64") x)
    go false p false q false r false t false u false v false w false x e = absurd cc

-- ---- a token is spelled by its characters

abbrev no_chars : List ℕ
no_chars = []

take_nil : (m : ℕ) → take m no_chars ≡ []
take_nil zero = refl
take_nil (suc m) = refl

take_sum : (n m : ℕ) (cs : List ℕ) → take (n + m) cs ≡ take n cs ++ take m (drop n cs)
take_sum zero m cs = let e : zero + m ≡ m = omega arith in ap (λ (k : ℕ). take k cs) e
take_sum (suc n) m [] = take_nil (suc n + m) ∙ sym (take_nil m)
take_sum (suc n) m (c ∷ cs) = let e : suc n + m ≡ suc (n + m) = omega arith in rw e (ap (λ (us : List ℕ). c ∷ us) (take_sum n m cs))

drop_nil : (m : ℕ) → drop m no_chars ≡ []
drop_nil zero = refl
drop_nil (suc m) = refl

drop_sum : (n m : ℕ) (cs : List ℕ) → drop (n + m) cs ≡ drop m (drop n cs)
drop_sum zero m cs = let e : zero + m ≡ m = omega arith in ap (λ (k : ℕ). drop k cs) e
drop_sum (suc n) m [] = drop_nil (suc n + m) ∙ sym (drop_nil m)
drop_sum (suc n) m (c ∷ cs) = let e : suc n + m ≡ suc (n + m) = omega arith in rw e (drop_sum n m cs)

take_next : (n k : ℕ) (cs : List ℕ) → begins_with k (drop n cs) ≡ true → take (1 + n) cs ≡ take n cs ++ k ∷ []
take_next zero k [] e = absurd cc
take_next zero k (c ∷ cs) e = ap (λ (x : ℕ). x ∷ []) (eqb-true c k e)
take_next (suc n) k [] e = absurd cc
take_next (suc n) k (c ∷ cs) e = let q : 1 + suc n ≡ suc (1 + n) = omega arith in rw q (ap (λ (us : List ℕ). c ∷ us) (take_next n k cs e))

prefix_is : (b : Base) (skip : ℕ) (text : List ℕ) → Prefix b skip text → take skip text ≡ prefix_text b
prefix_is b skip [] (rules.hexadecimal e) = absurd cc
prefix_is b skip (z ∷ []) (rules.hexadecimal e) = absurd cc
prefix_is b skip (z ∷ x ∷ cs) (rules.hexadecimal e) = ap (λ (y : ℕ). y ∷ x ∷ []) (eqb-true z 48 (and_left _ _ (and_left _ _ e))) ∙ ap (λ (y : ℕ). 48 ∷ y ∷ []) (eqb-true x 120 (and_right (eqb z 48) _ (and_left _ _ e)))
prefix_is b skip [] (rules.binary e) = absurd cc
prefix_is b skip (z ∷ []) (rules.binary e) = absurd cc
prefix_is b skip (z ∷ x ∷ cs) (rules.binary e) = ap (λ (y : ℕ). y ∷ x ∷ []) (eqb-true z 48 (and_left _ _ (and_left _ _ e))) ∙ ap (λ (y : ℕ). 48 ∷ y ∷ []) (eqb-true x 98 (and_right (eqb z 48) _ (and_left _ _ e)))
prefix_is b skip text (rules.decimal d e f) = refl

abbrev pub Spelled : List ℕ → Front → Type 0
Spelled text (front.Token k n) = SpelledBy k (encode_utf8_all (take n text))
Spelled text f = Unit {0}

digits_spell : (b : Base) (skip n : ℕ) (text : List ℕ) → Digits b skip n text → SpelledBy (kind.Int (value b (take n (drop skip text))) None) (encode_utf8_all (take (skip + n) text))
unfolding SpelledBy
digits_spell b skip n text d =
    let digits = take n (drop skip text) in
    let e : take (skip + n) text ≡ prefix_text b ++ (digits ++ []) = take_sum skip n text ∙ ap (λ (us : List ℕ). us ++ digits) (prefix_is b skip text d.prefix) ∙ ap (λ (us : List ℕ). prefix_text b ++ us) (sym (append-nil digits)) in
    (b, digits, record { all = d.run.all; counted = refl }, ap encode_utf8_all e)

suffix_spells : (b : Base) (skip n m : ℕ) (s : IntType) (text : List ℕ) → Digits b skip n text → suffix_of (take m (drop n (drop skip text))) ≡ Some s
    → SpelledBy (kind.Int (value b (take n (drop skip text))) (Some s)) (encode_utf8_all (take ((skip + n) + m) text))
unfolding SpelledBy
suffix_spells b skip n m s text d h =
    let digits = take n (drop skip text) in
    let front_is : take (skip + n) text ≡ prefix_text b ++ digits = take_sum skip n text ∙ ap (λ (us : List ℕ). us ++ digits) (prefix_is b skip text d.prefix) in
    let word_is : take m (drop (skip + n) text) ≡ suffix_text (Some s) = ap (take m) (drop_sum skip n text) ∙ type_is (take m (drop n (drop skip text))) s h in
    let e : take ((skip + n) + m) text ≡ prefix_text b ++ (digits ++ suffix_text (Some s)) =
    take_sum (skip + n) m text ∙ ap (λ (us : List ℕ). us ++ take m (drop (skip + n) text)) front_is ∙ ap (λ (us : List ℕ). (prefix_text b ++ digits) ++ us) word_is
    ∙ append_assoc (prefix_text b) digits (suffix_text (Some s)) in
    (b, digits, record { all = d.run.all; counted = refl }, ap encode_utf8_all e)

pub stands_spelled : (joined : Bool) (text : List ℕ) (f : Front) → Stands joined text f → Spelled text f
unfolding SpelledBy encode
stands_spelled joined text f (rules.blanks e r) = tt
stands_spelled joined text f (rules.comment r) = tt
stands_spelled joined text f (rules.attribute e) = tt
stands_spelled joined text f (rules.name m) = refl
stands_spelled joined text f (rules.keyword_or_wildcard {f = g} {n} w e) = ap encode_utf8_all (keyword_is (take n text) g e) ∙ ascii g
stands_spelled joined text f rules.character = refl
stands_spelled joined text f (rules.variable {n} {cs} e m) = rw one-add refl
stands_spelled joined text f (rules.lifted {n} {cs} e m) = let q : 2 + n ≡ suc (suc n) = omega arith in rw q refl
stands_spelled joined text f (rules.size_lifted {n} {cs} e m) = let q : 2 + n ≡ suc (suc n) = omega arith in rw q refl
stands_spelled joined text f (rules.constructed {n} {cs} m) = rw one-add refl
stands_spelled joined text f (rules.text {n} {cs} r e) =
    let q : 2 + n ≡ suc (1 + n) = omega arith in
    rw (q, take_next n 34 cs e) (ap (λ (us : List ℕ). 34 ∷ us) (encodes-append (take n cs) (34 ∷ [])))
stands_spelled joined text f (rules.field {n} {cs} j e r) = rw one-add refl
stands_spelled joined text f (rules.integer {b} {skip} {n} {text = us} d g v w) = digits_spell b skip n us d
stands_spelled joined text f (rules.suffixed {b} {skip} {n} {m} {s} {text = us} d g v w e) = suffix_spells b skip n m s us d e
stands_spelled joined text f (rules.float d g) = tt
stands_spelled joined text f (rules.symbol {f = g} {n} l e h) = ap encode_utf8_all (symbol_is (take n text) g l.spelled) ∙ ascii g

-- ---- positions in bytes

moved_at : (p : Position) (cs : List ℕ) → (moved p cs).at ≡ p.at + length (encode_utf8_all cs)
moved_at p [] = omega arith
moved_at p (c ∷ cs) = let i = moved_at (record { at = p.at + len_utf8 c; line = cond (eqb c 10) (p.line + 1) p.line; column = cond (eqb c 10) 1 (p.column + 1) }) cs in omega (arith, i, length-append (encode c) (encode_utf8_all cs), length-encode c)

whole : (before : List ℕ) (n : ℕ) (text : List ℕ) → (before ++ encode_utf8_all (take n text)) ++ encode_utf8_all (drop n text) ≡ before ++ encode_utf8_all text
whole before n text = append_assoc before (encode_utf8_all (take n text)) (encode_utf8_all (drop n text)) ∙ ap (λ (us : List ℕ). before ++ us) (sym (encodes-append (take n text) (drop n text)) ∙ ap encode_utf8_all (take-append-drop n text))

slice : (before x y : List ℕ) (i j : ℕ) → length before ≡ i → length x ≡ j → take j (drop i (before ++ (x ++ y))) ≡ x
slice before x y i j e g = rw (← e, drop-append_seam before (x ++ y), ← g) (take-append_seam x y)

weaken : (text : List ℕ) (from to : ℕ) (ts : List Token) → from ≤ to → InOrder text to ts → InOrder text from ts
unfolding InOrder
weaken text from to [] le h = omega (arith, le, h)
weaken text from to (t ∷ ts) le h = (omega (arith, le, h.0), h.1, h.2, h.3)

token_n : {f : Front} {k : TokenKind} {n : ℕ} → Moves f → f ≡ front.Token k n → 0 < n
token_n (moves.gap q) e = absurd cc
token_n (moves.attribute_on q) e = absurd cc
token_n (moves.token q) e = let s = token_is e in omega (arith, s, q)
  where
    token_is : {k l : TokenKind} {a b : ℕ} → front.Token k a ≡ front.Token l b → a ≡ b
    token_is e = cc
token_n moves.bad e = absurd cc
token_n moves.float e = absurd cc

some_bytes : (joined : Bool) (text : List ℕ) (k : TokenKind) (n : ℕ) → Stands joined text (front.Token k n) → 0 < length (encode_utf8_all (take n text))
some_bytes joined [] k n s = absurd (none_at_end s)
some_bytes joined (c ∷ cs) k n s =
    let lt : 0 < n = token_n (front_moves joined (c ∷ cs)) (stands_is joined (c ∷ cs) (front.Token k n) s) in
    omega (arith, lt, length-take n (c ∷ cs), length-le-encodes (take n (c ∷ cs)))

module _ (file : ℕ) where
  behind : (before : List ℕ) (p : Position) (n : ℕ) (text : List ℕ) (ts : List Token) → length before ≡ p.at
      → InOrder ((before ++ encode_utf8_all (take n text)) ++ encode_utf8_all (drop n text)) (moved p (take n text)).at ts → InOrder (before ++ encode_utf8_all text) (moved p (take n text)).at ts
  behind before p n text ts e h =
      let P : List ℕ → Type 0 = λ us. InOrder us (moved p (take n text)).at ts in
      subst P (whole before n text) h

  longer : (before : List ℕ) (p : Position) (n : ℕ) (text : List ℕ) → length before ≡ p.at → length (before ++ encode_utf8_all (take n text)) ≡ (moved p (take n text)).at
  longer before p n text e = omega (arith, e, moved_at p (take n text), length-append before (encode_utf8_all (take n text)))

  later : (p : Position) (n : ℕ) (text : List ℕ) → p.at ≤ (moved p (take n text)).at
  later p n text = omega (arith, moved_at p (take n text))

  pub in_order : {p : Position} {tight joined : Bool} {text : List ℕ} {ts : List Token} → Tokens file p tight joined text ts → (before : List ℕ) → length before ≡ p.at → InOrder (before ++ encode_utf8_all text) p.at ts
  unfolding InOrder
  in_order finish before e = omega (arith, e, length-append before [])
  in_order (gap {p = p} {text = text} {ts} {n} s r) before e =
      weaken (before ++ encode_utf8_all text) p.at (moved p (take n text)).at ts (later p n text) (behind before p n text ts e (in_order r (before ++ encode_utf8_all (take n text)) (longer before p n text e)))
  in_order (attribute {p = p} {text = text} {ts} {n} s r) before e =
      weaken (before ++ encode_utf8_all text) p.at (moved p (take n text)).at ts (later p n text) (behind before p n text ts e (in_order r (before ++ encode_utf8_all (take n text)) (longer before p n text e)))
  in_order (token {p = p} {joined = joined} {text = text} {ts} {k} {n} s r) before e =
      let x = encode_utf8_all (take n text) in
      let y = encode_utf8_all (drop n text) in
      let q = (moved p (take n text)).at in
      let w : before ++ encode_utf8_all text ≡ before ++ (x ++ y) = ap (λ (us : List ℕ). before ++ us) (ap encode_utf8_all (sym (take-append-drop n text)) ∙ encodes-append (take n text) (drop n text)) in
      let c : take (q - p.at) (drop p.at (before ++ encode_utf8_all text)) ≡ x = ap (λ (us : List ℕ). take (q - p.at) (drop p.at us)) w ∙ slice before x y p.at (q - p.at) e (omega (arith, moved_at p (take n text))) in (
        omega arith,
        omega (arith, moved_at p (take n text), some_bytes joined text k n s),
        rw c (stands_spelled joined text (front.Token k n) s),
        behind before p n text ts e (in_order r (before ++ x) (longer before p n text e)),
      )
