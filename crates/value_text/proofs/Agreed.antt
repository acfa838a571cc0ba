-- What is known of names, by the code and by the definition.
use Rattle.std.proofs.Common.{◌≡◌, ◌+◌, ◌<◌, ◌≤◌, ◌^◌, ℕ, ℤ, List, [], ◌∷◌, length, drop, get_or, refl, sym, ap, ◌∙◌, arith, subst}
use Rattle.std.specs.Prelude.{Bool, true, false, cond, ◌==◌, pos, Some, None, Result, Ok, Err}
use Rattle.std.specs.Int.{w64, cast_signed}
use Rattle.std.proofs.lemmas.Int.{ints}
use Rattle.fut_scalar.specs.declared.place.BindId.{BindId}
use Rattle.fut_scalar.specs.declared.sizes.ArgType.{ArgType}
use Rattle.fut_scalar.specs.declared.sizes.Dim.{Dim}
use Rattle.fut_value.specs.Values.{first_word}
use Rattle.fut_value.specs.declared.value.Value.{Value}
use Rattle.std.proofs.lemmas.List.{drop_all, drop_more}
use Rattle.value_text.proofs.Rows.{carry}
use Rattle.fut_scalar.specs.declared.sizes.Dim.TheVariants as dim
use Rattle.value_text.specs.Agreeing.{Agrees, Clashes, Goes_on, Names, Stands}
use Rattle.value_text.specs.Arrays.{and_then}
use Rattle.value_text.specs.Gives.{Refused_so}
use Rattle.value_text.specs.Sizes.{Known, agreed, for_name, is_size, named_value, size_for, sizes_for, value_for, values_for}
use Rattle.value_text.specs.declared.reading.TextErr.{TextErr}
use Rattle.value_text.specs.declared.reading.TextErr.TheVariants as text

-- ---- sizes

pub same_pos : (n have : ℕ) (test : Bool) → test ≡ (n == have) → test ≡ is_size (pos n) have
same_pos n have test e = e

pub ruleset is_same = (same_pos)

pub given : (old new : Names) (list : Known) (name : ℕ) (value : ℤ) → ((q : ℕ) → new q ≡ cond (name == q) (Some value) (old q)) → Stands old list → Stands new ((name, value) ∷ list)
given old new list name value h s = λ q. ap (cond (name == q) (Some value)) (s q) ∙ sym (h q)

pub ruleset stands = (given)

module _ (names : Names) (param have : ℕ) (want : ℤ) where
  kept : (sized : Known → Result Known TextErr) (list : Known) → Stands names list → sized list ≡ agreed param have want list → is_size want have ≡ true → Goes_on names (sized list)
  kept sized list s e h = record { list = list; is = e ∙ ap (λ t. cond t (Ok list) (Err (text.SizeClash param have want))) h; stands = s }

  refused : (x : Result Known TextErr) (list : Known) → x ≡ agreed param have want list → is_size want have ≡ false → x ≡ Err (text.SizeClash param have want)
  refused x list e h = e ∙ ap (λ t. cond t (Ok list) (Err (text.SizeClash param have want))) h

  pub const_ok : (d : Dim) (n : ℕ) → d ≡ dim.Const n → want ≡ cast_signed w64 n → is_size want have ≡ true → Agrees names names (size_for param d have)
  const_ok d n e w h = λ list s. kept (size_for param d have) list s (ap (λ x. size_for param x have list) e ∙ ap (λ z. agreed param have z list) (sym w)) h

  pub const_err : (d : Dim) (n : ℕ) (err : TextErr) → d ≡ dim.Const n → want ≡ cast_signed w64 n → is_size want have ≡ false → err ≡ text.SizeClash param have want → Clashes names (size_for param d have) err
  const_err d n err e w h k = λ list s. subst (Refused_so (size_for param d have list)) (sym k) (refused (size_for param d have list) list (ap (λ x. size_for param x have list) e ∙ ap (λ z. agreed param have z list) (sym w)) h)

  named : (d : Dim) (name : BindId) (list : Known) → d ≡ dim.Name name → names name.0 ≡ Some want → Stands names list → size_for param d have list ≡ agreed param have want list
  named d name list e f s = ap (λ x. size_for param x have list) e ∙ ap (for_name param have name.0 list) (s name.0 ∙ f)

  pub name_ok : (d : Dim) (name : BindId) → d ≡ dim.Name name → names name.0 ≡ Some want → is_size want have ≡ true → Agrees names names (size_for param d have)
  name_ok d name e f h = λ list s. kept (size_for param d have) list s (named d name list e f s) h

  pub name_err : (d : Dim) (name : BindId) (err : TextErr) → d ≡ dim.Name name → names name.0 ≡ Some want → is_size want have ≡ false → err ≡ text.SizeClash param have want → Clashes names (size_for param d have) err
  name_err d name err e f h k = λ list s. subst (Refused_so (size_for param d have list)) (sym k) (refused (size_for param d have list) list (named d name list e f s) h)

pub name_new : (old new : Names) (param have : ℕ) (d : Dim) (name : BindId) (value : ℤ) → d ≡ dim.Name name → old name.0 ≡ None → value ≡ cast_signed w64 have → have < 2 ^ 63
    → ((list : Known) → Stands old list → Stands new ((name.0, value) ∷ list)) → Agrees old new (size_for param d have)
name_new old new param have d name value e f v l h = λ list s. record {
  list = (name.0, value) ∷ list;
  is = ap (λ x. size_for param x have list) e ∙ ap (for_name param have name.0 list) (s name.0 ∙ f) ∙ ap (λ z. Ok ((name.0, z) ∷ list)) (sym (v ∙ below have l));
  stands = h list s;
}
  where
    below : (n : ℕ) → n < 2 ^ 63 → cast_signed w64 n ≡ pos n
    below n h = omega (arith, ints)

pub no_name : (names : Names) (param have : ℕ) (d : Dim) → ((list : Known) → size_for param d have list ≡ Ok list) → Agrees names names (size_for param d have)
no_name names param have d h = λ list s. record { list = list; is = h list; stands = s }

pub ruleset one_size = (const_ok, const_err, name_ok, name_err, name_new, no_name)

-- ---- one after the other

pub next_is : {A : Type 0} (xs : List A) (i : ℕ) (x d : A) → i < length xs → x ≡ get_or xs i d → drop i xs ≡ x ∷ drop (i + 1) xs
next_is xs i x d h e = drop_more xs i d h ∙ ap (λ y. y ∷ drop (i + 1) xs) (sym e)

-- what is left to compare, with what is known so far, is the rest of the whole
pub record Goes (names : Names) (whole : Result Known TextErr) (rest : Known → Result Known TextErr) : Type 0 where
  pub list : Known
  pub stands : Stands names list
  pub same : rest list ≡ whole

pub begins : (names : Names) (whole : Known → Result Known TextErr) (list : Known) → Stands names list → Goes names (whole list) whole
begins names whole list s = record { list = list; stands = s; same = refl }

module _ (names : Names) (whole : Result Known TextErr) (rest : Known → Result Known TextErr) (g : Goes names whole rest) where
  pub ends : ((k : Known) → rest k ≡ Ok k) → Goes_on names whole
  ends h = record { list = g.list; is = sym g.same ∙ h g.list; stands = g.stands }

  module _ (one rest2 : Known → Result Known TextErr) (h : (k : Known) → rest k ≡ and_then (one k) rest2) where
    pub step : (names2 : Names) → Agrees names names2 one → Goes names2 whole rest2
    step names2 agrees =
        let a = agrees g.list g.stands in
        record { list = a.list; stands = a.stands; same = sym (ap (λ r. and_then r rest2) a.is) ∙ sym (h g.list) ∙ g.same }

    pub clash : (err : TextErr) → Clashes names one err → Refused_so whole err
    clash err c = carry (one g.list) whole (λ e k. sym g.same ∙ h g.list ∙ ap (λ r. and_then r rest2) k) err (c g.list g.stands)

no_sizes : (param : ℕ) (ds : List Dim) (known : Known) → sizes_for param ds [] known ≡ Ok known
no_sizes param [] known = refl
no_sizes param (d ∷ ds) known = refl

module _ (param at : ℕ) (dims : List Dim) (sizes : List ℕ) where
  pub sizes_done : length sizes ≤ at → (known : Known) → sizes_for param (drop at dims) (drop at sizes) known ≡ Ok known
  sizes_done l known = ap (λ ns. sizes_for param (drop at dims) ns known) (drop_all at sizes l) ∙ no_sizes param (drop at dims) known

  pub dims_done : length dims ≤ at → (known : Known) → sizes_for param (drop at dims) (drop at sizes) known ≡ Ok known
  dims_done l known = ap (λ ds. sizes_for param ds (drop at sizes) known) (drop_all at dims l)

  pub sizes_step : (d : Dim) (n : ℕ) → drop at dims ≡ d ∷ drop (at + 1) dims → drop at sizes ≡ n ∷ drop (at + 1) sizes
      → (known : Known) → sizes_for param (drop at dims) (drop at sizes) known ≡ and_then (size_for param d n known) (sizes_for param (drop (at + 1) dims) (drop (at + 1) sizes))
  sizes_step d n e f known = ap (λ ds. sizes_for param ds (drop at sizes) known) e ∙ ap (λ ns. sizes_for param (d ∷ drop (at + 1) dims) ns known) f

no_values : (param : ℕ) (ts : List ArgType) (known : Known) → values_for param ts [] known ≡ Ok known
no_values param [] known = refl
no_values param (t ∷ ts) known = refl

module _ (param at : ℕ) (types : List ArgType) (values : List Value) where
  pub values_done : length values ≤ at → (known : Known) → values_for param (drop at types) (drop at values) known ≡ Ok known
  values_done l known = ap (λ vs. values_for param (drop at types) vs known) (drop_all at values l) ∙ no_values param (drop at types) known

  pub types_done : length types ≤ at → (known : Known) → values_for param (drop at types) (drop at values) known ≡ Ok known
  types_done l known = ap (λ ts. values_for param ts (drop at values) known) (drop_all at types l)

  pub values_step : (t : ArgType) (v : Value) → drop at types ≡ t ∷ drop (at + 1) types → drop at values ≡ v ∷ drop (at + 1) values
      → (known : Known) → values_for param (drop at types) (drop at values) known ≡ and_then (value_for param t v known) (values_for (param + 1) (drop (at + 1) types) (drop (at + 1) values))
  values_step t v e f known = ap (λ ts. values_for param ts (drop at values) known) e ∙ ap (λ vs. values_for param (t ∷ drop (at + 1) types) vs known) f

-- sizes, and then the name's value
pub value_agrees : (old names new : Names) (param : ℕ) (wanted : ArgType) (value : Value) → Agrees old names (sizes_for param wanted.dims value.shape.sizes)
    → Agrees names new (λ list. Ok (named_value wanted.elem wanted.dims wanted.name (cast_signed w64 (first_word value.words)) list)) → Agrees old new (value_for param wanted value)
value_agrees old names new param wanted value f g = λ list s.
    let a = f list s in
    let b = g a.list a.stands in
    record { list = b.list; is = ap (λ r. and_then r (λ more. Ok (named_value wanted.elem wanted.dims wanted.name (cast_signed w64 (first_word value.words)) more))) a.is ∙ b.is; stands = b.stands }

pub value_clashes : (old : Names) (param : ℕ) (wanted : ArgType) (value : Value) (err : TextErr) → Clashes old (sizes_for param wanted.dims value.shape.sizes) err → Clashes old (value_for param wanted value) err
value_clashes old param wanted value err c = λ list s.
    carry (sizes_for param wanted.dims value.shape.sizes list) (value_for param wanted value list) (λ e k. ap (λ r. and_then r (λ more. Ok (named_value wanted.elem wanted.dims wanted.name (cast_signed w64 (first_word value.words)) more))) k) err (c list s)
