-- What holds of what was read, and of a fault.
use Rattle.std.proofs.Common.{◌≡◌, ℕ, suc, ◌≤◌, ◌<◌, Bool, true, false, cond, ◌||◌, List, length, Option, Some, None, Result, Ok, Err, refl, arith}
use Rattle.fut_token.specs.declared.token.Fixed.TheVariants as fixed
use Rattle.fut_token.specs.declared.token.Token.{Token}
use Rattle.fut_ast.specs.declared.node.What.{What}
use Rattle.fut_ast.specs.declared.node.What.TheVariants as what
use Rattle.fut_ast.specs.Tokens.{starts, is_text}
use Rattle.fut_ast.specs.LeftOut.{begins_left_out, is_char, is_constructor}
use Rattle.fut_ast.specs.Sorts.{Sort}
use Rattle.fut_ast.specs.Parts.{Test}
use Rattle.fut_ast.specs.Behind.{passes}
use Rattle.fut_grammar.specs.declared.fault.Fault.{Fault}
use Rattle.fut_grammar.specs.declared.fault.Fault.TheVariants.{Syntax, TooDeep, LeftOut}
use Rattle.fut_grammar.specs.Reading.{◌>>=◌, refuse_as, refuse, refuse_form, form_of_sort, refuse_sort, form_of_test, look_at}

pub data Post {A : Type 0} (E : Fault → Type 0) (P : A → Type 0) : Result A Fault → Type 0 where
  good : {x : A} → P x → Post E P (Ok x)
  bad : {e : Fault} → E e → Post E P (Err e)

pub post_bind : {A B : Type 0} {E : Fault → Type 0} {P : A → Type 0} {Q : B → Type 0} {r : Result A Fault} (f : A → Result B Fault) → Post E P r → ((y : A) → P y → Post E Q (f y)) → Post E Q (r >>= f)
post_bind f (good {x = x} h) k = k x h
post_bind f (bad h) k = bad h

pub post_if : {A : Type 0} {E : Fault → Type 0} {P : A → Type 0} (b : Bool) {x y : Result A Fault} → (b ≡ true → Post E P x) → (b ≡ false → Post E P y) → Post E P (cond b x y)
post_if true h k = h refl
post_if false h k = k refl

pub post_map : {A : Type 0} {E : Fault → Type 0} {P Q : A → Type 0} {r : Result A Fault} → Post E P r → ((y : A) → P y → Q y) → Post E Q r
post_map (good {x = x} h) k = good (k x h)
post_map (bad h) k = bad h

pub post_call : {A B : Type 0} {E F : Fault → Type 0} {P : A → Type 0} {Q : B → Type 0} {r : Result A Fault} → ((e : Fault) → E e → F e) → (f : A → Result B Fault) → Post E P r → ((y : A) → P y → Post F Q (f y)) → Post F Q (r >>= f)
post_call l f (good {x = x} h) k = k x h
post_call l f (bad {e = e} h) k = bad (l e h)

pub post_lift : {A : Type 0} {E F : Fault → Type 0} {P Q : A → Type 0} {r : Result A Fault} → ((e : Fault) → E e → F e) → Post E P r → ((y : A) → P y → Q y) → Post F Q r
post_lift l (good {x = x} h) k = good (k x h)
post_lift l (bad {e = e} h) k = bad (l e h)

-- ---- faults of sound reading

-- where a syntax error stands nothing is claimed; a token stands too deep as D says; a form that is left out begins
pub data Stands (D : List Token → Type 0) : Fault → Type 0 where
  syntax_stands : {k : ℕ} → Stands D (Syntax k)
  deep_stands : (rest : List Token) → D rest → Stands D (TooDeep (length rest))
  left_out_stands : (rest : List Token) (w : What) → begins_left_out w rest ≡ true → Stands D (LeftOut (length rest) w)

pub lift : {D F : List Token → Type 0} → ((rest : List Token) → D rest → F rest) → (e : Fault) → Stands D e → Stands F e
lift k e syntax_stands = syntax_stands
lift k e (deep_stands rest d) = deep_stands rest (k rest d)
lift k e (left_out_stands rest w b) = left_out_stands rest w b

pub stands_if : {D : List Token → Type 0} (b : Bool) {x y : Fault} → (b ≡ true → Stands D x) → (b ≡ false → Stands D y) → Stands D (cond b x y)
stands_if true h k = h refl
stands_if false h k = k refl

pub refused_as : {D : List Token → Type 0} {other : Fault} (ts : List Token) → Stands D other → Stands D (refuse_as other ts)
unfolding refuse_as
refused_as ts s =
    stands_if (is_char ts) (λ e. left_out_stands ts what.Character e)
    (λ d1. stands_if (is_text ts) (λ e. left_out_stands ts what.Text e)
    (λ d2. stands_if (starts fixed.KeyMatch ts || starts fixed.KeyCase ts || is_constructor ts) (λ e. left_out_stands ts what.SumType e) (λ d3. s)))

pub refused : {D : List Token → Type 0} (ts : List Token) → Stands D (refuse ts)
unfolding refuse
refused ts = refused_as ts syntax_stands

refused_form : {D : List Token → Type 0} (o : Option What) (ts : List Token) → Stands D (refuse_form o ts)
refused_form None ts = refused ts
refused_form (Some w) ts = stands_if (begins_left_out w ts) (λ e. left_out_stands ts w e) (λ d. refused ts)

pub refused_sort : {D : List Token → Type 0} (n : Sort) (ts : List Token) → Stands D (refuse_sort n ts)
unfolding refuse_sort
refused_sort n ts = refused_form (form_of_sort n) ts

pub look_post : {D : List Token → Type 0} (c : Test) (ts : List Token) → Post (Stands D) (λ u. passes c ts ≡ true) (look_at c ts)
look_post c ts = post_if (passes c ts) (λ e. good e) (λ e. bad (refused_form (form_of_test c) ts))

-- ---- complete reading

-- just this is read, or it is too deep, which it may be only where it is too high
pub data Gets {A : Type 0} (high : Type 0) : Result A Fault → A → Type 0 where
  gets : {v : A} → Gets high (Ok v) v
  too_deep : {k : ℕ} {v : A} → high → Gets high (Err (TooDeep k)) v

pub then_gets : {A B high : Type 0} {r : Result A Fault} {v : A} {w : B} (f : A → Result B Fault) → Gets high r v → Gets high (f v) w → Gets high (r >>= f) w
then_gets f gets k = k
then_gets f (too_deep i) k = too_deep i

-- where a part is too high, so is the whole
pub as_part : {A : Type 0} {r : Result A Fault} {v : A} {limit g h : ℕ} → Gets (limit ≤ g) r v → g ≤ h → Gets (limit ≤ h) r v
as_part gets le = gets
as_part (too_deep i) le = too_deep (omega arith)

-- a node is one higher than its parts
pub one_higher : {A : Type 0} {r : Result A Fault} {v : A} {limit h : ℕ} → Gets (limit ≤ h) r v → Gets (limit < suc h) r v
one_higher gets = gets
one_higher (too_deep i) = too_deep (omega arith)
