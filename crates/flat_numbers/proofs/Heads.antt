-- Type parameters among the heads of a definition.
use Rattle.std.proofs.Common.{◌≡◌, ℕ, zero, suc, ◌+◌, ◌<◌, Bool, true, false, List, [], ◌∷◌, ◌++◌, length, take, slice_index_or, refl, ◌∙◌, ap, subst, arith}
use Rattle.std.proofs.Math.Seq.{take-suc}
use Rattle.fut_scalar.specs.declared.place.BindId.{BindId}
use Rattle.fut_flat.specs.declared.pat.Head.{Head}
use Rattle.fut_flat.specs.declared.pat.HeadForm.{HeadForm}
use Rattle.fut_flat.specs.declared.pat.HeadForm.TheVariants as head
use Rattle.fut_flat.specs.Terms.{Parameter}
use Rattle.fut_flat.specs.Erased.{parameter_form, parameters}
use Rattle.fut_typing.specs.Free.{has_types}

more_types : (f : HeadForm) (ps : List (Parameter BindId)) → has_types ps ≡ true → has_types (parameter_form f ∷ ps) ≡ true
more_types (head.Size b) ps h = h
more_types (head.Var b lifted) ps h = refl

pub found : (hs : List Head) (i : ℕ) (d : Head) (b : BindId) (lifted : Bool) → i < length hs → (slice_index_or hs i d).form ≡ head.Var b lifted → has_types (parameters hs) ≡ true
found [] i d b lifted lt is = absurd (omega arith)
found (h ∷ hs) zero d b lifted lt is = ap (λ f. has_types (parameter_form f ∷ parameters hs)) is
found (h ∷ hs) (suc i) d b lifted lt is = more_types h.form (parameters hs) (found hs i d b lifted (omega arith) is)

append_size : (hs : List Head) (h : Head) (b : BindId) → h.form ≡ head.Size b → has_types (parameters hs) ≡ false → has_types (parameters (hs ++ h ∷ [])) ≡ false
append_size [] h b is none = ap (λ x. has_types (parameter_form x ∷ [])) is
append_size (g ∷ hs) h b is none = step g.form (parameters hs) (parameters (hs ++ h ∷ [])) (append_size hs h b is) none
  where
    step : (f : HeadForm) (ps qs : List (Parameter BindId)) → (has_types ps ≡ false → has_types qs ≡ false) → has_types (parameter_form f ∷ ps) ≡ false → has_types (parameter_form f ∷ qs) ≡ false
    step (head.Size b) ps qs next h = next h
    step (head.Var b lifted) ps qs next h = absurd cc

pub none_more : (hs : List Head) (i : ℕ) (d : Head) (b : BindId) → i < length hs → (slice_index_or hs i d).form ≡ head.Size b → has_types (parameters (take i hs)) ≡ false → has_types (parameters (take (i + 1) hs)) ≡ false
none_more hs i d b lt is none = let one_more : suc i ≡ i + 1 = omega arith in subst (λ n. has_types (parameters (take n hs)) ≡ false) one_more
    (ap (λ l. has_types (parameters l)) (take-suc hs i d lt) ∙ append_size (take i hs) (slice_index_or hs i d) b is none)
