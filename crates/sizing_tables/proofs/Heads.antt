-- Names of sizes, one more at a time.
use Rattle.std.proofs.Common.{◌≡◌, ℕ, zero, suc, ◌+◌, ◌<◌, ◌≤◌, List, [], ◌∷◌, ◌++◌, Bool, length, take, slice_index_or, refl, sym, ◌∙◌, ap, arith, append_assoc}
use Rattle.fut_scalar.specs.declared.place.BindId.{BindId}
use Rattle.fut_flat.specs.declared.pat.Head.{Head}
use Rattle.fut_flat.specs.declared.pat.HeadForm.TheVariants as form
use Rattle.fut_flat.specs.Erased.{parameters, parameter_form}
use Rattle.fut_flat.specs.Terms.{Parameter, Size_parameter, Type_parameter}
use Rattle.sizing_tables.specs.Bound.{bind_numbers, size_numbers}
use Rattle.sizing_tables.specs.Noted.{Noted}
use Rattle.sizing_tables.specs.declared.noting.Noting.{Noting}
use Rattle.sizing_tables.proofs.Lists.{none_yet, taken_all, then, told_as}

one_more : (i : ℕ) → suc i ≡ i + 1
one_more i = omega arith

sizes_taken : (bs : List BindId) (i : ℕ) (d : BindId) → i < length bs → bind_numbers (take i bs) ++ (slice_index_or bs i d).0 ∷ [] ≡ bind_numbers (take (suc i) bs)
sizes_taken [] i d lt = absurd (omega (arith, lt))
sizes_taken (b ∷ bs) zero d lt = refl
sizes_taken (b ∷ bs) (suc i) d lt = ap (λ l. b.0 ∷ l) (sizes_taken bs i d (omega (arith, lt)))

module _ {s m t : Noting} where
  pub size_noted : (bs : List BindId) (i : ℕ) (d : BindId) → i < length bs → Noted s m [] (bind_numbers (take i bs)) → Noted m t [] ((slice_index_or bs i d).0 ∷ []) → Noted s t [] (bind_numbers (take (i + 1) bs))
  size_noted bs i d lt p q = told_as refl (sizes_taken bs i d lt ∙ ap (λ n. bind_numbers (take n bs)) (one_more i)) (then p q)

pub all_sizes_noted : {s t : Noting} (bs : List BindId) (i : ℕ) → length bs ≤ i → Noted s t [] (bind_numbers (take i bs)) → Noted s t [] (bind_numbers bs)
all_sizes_noted bs i le p = told_as refl (ap bind_numbers (taken_all bs i le)) p

-- ---- size parameters among heads

first_head : (p : Parameter BindId) (ps : List (Parameter BindId)) → size_numbers (p ∷ ps) ≡ size_numbers (p ∷ []) ++ size_numbers ps
unfolding size_numbers
first_head (Size_parameter b) ps = refl
first_head (Type_parameter b lifted) ps = refl

heads_taken : (hs : List Head) (i : ℕ) (d : Head) → i < length hs → size_numbers (parameters (take i hs)) ++ size_numbers (parameters (slice_index_or hs i d ∷ [])) ≡ size_numbers (parameters (take (suc i) hs))
unfolding size_numbers
heads_taken [] i d lt = absurd (omega (arith, lt))
heads_taken (h ∷ hs) zero d lt = refl
heads_taken (h ∷ hs) (suc i) d lt =
    ap (λ l. l ++ size_numbers (parameters (slice_index_or hs i d ∷ []))) (first_head (parameter_form h.form) (parameters (take i hs)))
    ∙ append_assoc (size_numbers (parameters (h ∷ []))) (size_numbers (parameters (take i hs))) (size_numbers (parameters (slice_index_or hs i d ∷ [])))
    ∙ ap (λ l. size_numbers (parameters (h ∷ [])) ++ l) (heads_taken hs i d (omega (arith, lt)))
    ∙ sym (first_head (parameter_form h.form) (parameters (take (suc i) hs)))

form_size : (h : Head) (b : BindId) → h.form ≡ form.Size b → size_numbers (parameters (h ∷ [])) ≡ b.0 ∷ []
unfolding size_numbers
form_size h b is = ap (λ f. size_numbers (parameter_form f ∷ [])) is

form_type : (h : Head) (b : BindId) (lifted : Bool) → h.form ≡ form.Var b lifted → size_numbers (parameters (h ∷ [])) ≡ []
unfolding size_numbers
form_type h b lifted is = ap (λ f. size_numbers (parameter_form f ∷ [])) is

taken_so : (hs : List Head) (i : ℕ) (d : Head) → i < length hs → size_numbers (parameters (take i hs)) ++ size_numbers (parameters (slice_index_or hs i d ∷ [])) ≡ size_numbers (parameters (take (i + 1) hs))
taken_so hs i d lt = heads_taken hs i d lt ∙ ap (λ n. size_numbers (parameters (take n hs))) (one_more i)

pub size_head : {s t : Noting} (h : Head) (b : BindId) → h.form ≡ form.Size b → Noted s t [] (b.0 ∷ []) → Noted s t [] (size_numbers (parameters (h ∷ [])))
size_head h b is p = told_as refl (sym (form_size h b is)) p

pub type_head : (s : Noting) (h : Head) (b : BindId) (lifted : Bool) → h.form ≡ form.Var b lifted → Noted s s [] (size_numbers (parameters (h ∷ [])))
type_head s h b lifted is = told_as refl (sym (form_type h b lifted is)) (none_yet s)

pub no_heads : (s : Noting) → Noted s s [] (size_numbers [])
unfolding size_numbers
no_heads s = none_yet s

pub head_noted : {s m t : Noting} (hs : List Head) (i : ℕ) (d : Head) → i < length hs → Noted s m [] (size_numbers (parameters (take i hs))) → Noted m t [] (size_numbers (parameters (slice_index_or hs i d ∷ []))) → Noted s t [] (size_numbers (parameters (take (i + 1) hs)))
head_noted hs i d lt p q = told_as refl (taken_so hs i d lt) (then p q)

pub all_heads_noted : {s t : Noting} (hs : List Head) (i : ℕ) → length hs ≤ i → Noted s t [] (size_numbers (parameters (take i hs))) → Noted s t [] (size_numbers (parameters hs))
all_heads_noted hs i le p = told_as refl (ap (λ l. size_numbers (parameters l)) (taken_all hs i le)) p
