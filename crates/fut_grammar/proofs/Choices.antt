-- Choices of the reader, and the tokens that phrases begin with.
use Rattle.std.proofs.Common.{◌≡◌, ℕ, Bool, true, false, cond, ◌||◌, ◌&&◌, List, [], ◌∷◌, Result, Ok, Err, refl, ap, ◌∙◌}
use Rattle.fut_token.specs.declared.token.Fixed.{Fixed}
use Rattle.fut_token.specs.declared.token.TokenKind.{TokenKind}
use Rattle.fut_token.specs.declared.token.TokenKind.TheVariants as kind
use Rattle.fut_token.specs.declared.token.Token.{Token}
use Rattle.fut_ast.specs.Tokens.{tail, starts, is_word}
use Rattle.fut_ast.specs.Sorts.{Tree, Text, Path, is_node, Sort, Body, Let_item, Dec_rest}
use Rattle.fut_ast.specs.Grammar.{Spells_names, last_name, more_names, Phrase, phrase, Parts, done, Spells_commas, last_item, next_item}
use Rattle.fut_ast.specs.Rows.{Suffix, arrow}
use Rattle.fut_ast.specs.Rows.{Pass, plain_type, Far, carry_far, far_mod}
use Rattle.fut_ast.specs.Behind.{begins, continues}
use Rattle.fut_grammar.specs.declared.fault.Fault.{Fault}
use Rattle.fut_grammar.specs.Reading.{◌>>=◌, Read}
use Rattle.fut_grammar.specs.Phrases.{ended, bounded, far_at}
use Rattle.fut_ast.specs.Tokens.{kind_is_fixed, kind_is_word}
use Rattle.fut_grammar.proofs.Fixeds.{starting}
use Rattle.fut_grammar.proofs.Post.{Gets, gets, too_deep, then_gets}

-- ---- which sorts are read

abbrev pub readable : Sort → Bool
readable Body = false
readable n = true

-- sorts whose parts are all nodes
abbrev pub simple : Sort → Bool
simple Body = false
simple Let_item = false
simple Dec_rest = false
simple n = true

abbrev pub node_sort : Sort → Bool
node_sort n = is_node n && readable n

pub simple_readable : (n : Sort) → simple n ≡ true → readable n ≡ true
simple_readable Body e = absurd cc
simple_readable n e = refl

pub node_simple : (n : Sort) → node_sort n ≡ true → simple n ≡ true
node_simple Body e = absurd cc
node_simple Let_item e = absurd cc
node_simple Dec_rest e = absurd cc
node_simple n e = refl

-- ---- choices

-- what is read in two steps, and then a third
pub bind_gets : {A B C high : Type 0} (r : Result A Fault) {v : B} {w : C} (f : A → Result B Fault) (g : B → Result C Fault) → Gets high (r >>= f) v → Gets high (g v) w → Gets high (r >>= λ a. f a >>= g) w
bind_gets (Ok a) f g x y = then_gets g x y
bind_gets (Err e) f g (too_deep i) y = too_deep i

pub assoc_gets : {A B C high : Type 0} {r : Result A Fault} {v : A} {w : C} (f : A → Result B Fault) (g : B → Result C Fault) → Gets high r v → Gets high (f v >>= g) w → Gets high ((r >>= f) >>= g) w
assoc_gets f g gets y = y
assoc_gets f g (too_deep i) y = too_deep i

pub when_true : {A high : Type 0} (b : Bool) {x : Result A Fault} (y : Result A Fault) {v : A} → b ≡ true → Gets high x v → Gets high (cond b x y) v
when_true true y e h = h
when_true false y e h = absurd cc

pub when_false : {A high : Type 0} (b : Bool) (x : Result A Fault) {y : Result A Fault} {v : A} → b ≡ false → Gets high y v → Gets high (cond b x y) v
when_false true x e h = absurd cc
when_false false x e h = h

pub ended_gets : {high : Type 0} (n : Sort) {r : Read (Tree n)} {p : Tree n} {h : ℕ} {rest : List Token} → continues n p rest ≡ false → Gets high r (p, h, rest) → Gets high (ended n r) (p, h, rest)
unfolding ended
ended_gets n {p = p} {rest = rest} q x = then_gets _ x (when_false (continues n p rest) _ q gets)

pub bounded_gets : (n : Sort) (ts rest : List Token) {high : Type 0} {r : Read (Tree n)} {p : Tree n} {h : ℕ} → begins n ts ≡ true → continues n p rest ≡ false → Gets high r (p, h, rest) → Gets high (bounded n ts r) (p, h, rest)
unfolding bounded
bounded_gets n ts rest b q x = when_true (begins n ts) _ b (ended_gets n q x)

pub far_gets : {n m : Sort} {high : Type 0} (e : Far n m) {r : Read (Tree m)} {p : Tree m} {h : ℕ} {rest : List Token} → continues m p rest ≡ false → Gets high r (p, h, rest) → Gets high (far_at e r) (carry_far e p, h, rest)
unfolding far_at
far_gets {m = m} e q x = then_gets _ (ended_gets m q x) gets

-- a test on a token that begins no such phrase
pub not_starting : (f : Fixed) (begin : List Token → Bool) (ts : List Token) → ((t : Token) (us : List Token) → t.kind ≡ kind.Fixed f → begin (t ∷ us) ≡ false) → begin ts ≡ true → starts f ts ≡ false
not_starting f begin ts none b = go (starts f ts) refl
  where
    go : (c : Bool) → starts f ts ≡ c → c ≡ false
    go true e =
        let s = starting f ts e in
        let n = none s.token (tail ts) s.kind in
        let m : begin ts ≡ false = ap begin s.is ∙ n in
        absurd cc
    go false e = refl

-- ---- phrases that are no nodes

pub nothing_left : {n : Sort} {b p : Tree n} {g h : ℕ} {ts rest : List Token} → Parts n [] b p g h ts rest → ts ≡ rest
nothing_left done = refl

pub suffix_node : {n m : Sort} → Suffix n m → is_node n ≡ true
suffix_node arrow = refl
suffix_node s = refl

pub pass_node : {n m : Sort} → Pass n m → is_node n ≡ true
pass_node plain_type = refl
pass_node e = refl

pub far_node : {n m : Sort} → Far n m → is_node n ≡ true
far_node far_mod = refl
far_node e = refl

pub first_begins : {n : Sort} {p : Tree n} {h : ℕ} {ts rest : List Token} → Phrase n p h ts rest → begins n ts ≡ true
first_begins (phrase b x q) = b

pub first_item_begins : {n : Sort} {ps : List (Tree n)} {g h : ℕ} {ts rest : List Token} → Spells_commas n ps g h ts rest → begins n ts ≡ true
first_item_begins (last_item x e) = first_begins x
first_item_begins (next_item x e xs) = first_begins x

pub first_is_word : {xs : Path} {ts rest : List Token} → Spells_names xs ts rest → is_word ts ≡ true
first_is_word (last_name e n) = rw e refl
first_is_word (more_names e f d) = rw e refl

pub word_is_no_sign : (f : Fixed) (k : TokenKind) → kind_is_word k ≡ true → kind_is_fixed f k ≡ false
word_is_no_sign f (kind.Name x) e = refl
word_is_no_sign f (kind.Fixed g) e = absurd cc
word_is_no_sign f (kind.Int v s) e = absurd cc
word_is_no_sign f (kind.TypeVar l x) e = absurd cc
word_is_no_sign f (kind.Char c) e = absurd cc
word_is_no_sign f (kind.Text x) e = absurd cc
word_is_no_sign f (kind.Field x) e = absurd cc
word_is_no_sign f (kind.Constructor x) e = absurd cc

pub word_no_sign : (f : Fixed) (ts : List Token) → is_word ts ≡ true → starts f ts ≡ false
word_no_sign f [] e = absurd cc
word_no_sign f (t ∷ ts) e = word_is_no_sign f t.kind e

-- no name stands where such a phrase begins
pub not_word_kind : (begin : TokenKind → Bool) (k : TokenKind) → ((x : Text) → begin (kind.Name x) ≡ false) → begin k ≡ true → kind_is_word k ≡ false
not_word_kind begin (kind.Name x) none b = let n = none x in absurd cc
not_word_kind begin (kind.Fixed g) none b = refl
not_word_kind begin (kind.Int v s) none b = refl
not_word_kind begin (kind.TypeVar l x) none b = refl
not_word_kind begin (kind.Char c) none b = refl
not_word_kind begin (kind.Text x) none b = refl
not_word_kind begin (kind.Field x) none b = refl
not_word_kind begin (kind.Constructor x) none b = refl

pub either_sign : (f g : Fixed) (ts : List Token) → (starts f ts || starts g ts) ≡ true → is_word ts ≡ false
either_sign f g [] e = refl
either_sign f g (t ∷ ts) e = not_word_kind (λ k. kind_is_fixed f k || kind_is_fixed g k) t.kind (λ x. refl) e
