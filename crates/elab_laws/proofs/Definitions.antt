-- A flat definition stands for that of the file, as it is resolved.
use Rattle.std.proofs.Common.{◌≡◌, ℕ, suc, ◌≤◌, List, [], Bool, Option, Ok, refl, sym, ap, ◌∙◌, subst, arith, length}
use Rattle.fut_ast.specs.Sorts.{Text}
use Rattle.fut_ast.specs.declared.pat.Head.{Head}
use Rattle.fut_flat.specs.Sources.{SourceTerm, source_parameters}
use Rattle.elab_scopes.specs.Scopes.{Scope, world_of, enter}
use Rattle.elab_scopes.specs.Resolve.{next, with_text, number_heads}
use Rattle.elab_scopes.specs.Programs.{FlatDefinition, define}
use Rattle.fut_meaning.specs.Found.{Sizing}
use Rattle.fut_meaning.specs.Sources.{Outside}
use Rattle.fut_meaning.specs.Uses.{Parameter_sizes}
use Rattle.fut_meaning.specs.Resolved.{Locals, Resolved, Sizes_hide}
use Rattle.elab_laws.proofs.Told.{Told}
use Rattle.elab_laws.proofs.OwnSizes.{reads_hiding, sizes_hide}
use Rattle.elab_laws.specs.Sourced.{outside_of, hiding}
use Rattle.elab_laws.proofs.Readings.{any_number, World_under, Reads, reads_outside, entered, reads_entered}
use Rattle.elab_laws.proofs.Grown.{went, ok_part, ok_rest, More, more_text}
use Rattle.elab_laws.proofs.Terms.{term_so, heads_more, heads_local}

pub record Defined_so (z : Option Sizing) (outside : Outside) (made m : List Text) (d : FlatDefinition) (value : SourceTerm) : Type 0 where
  pub bind : d.bind.0 ≡ length made
  pub more : suc (length made) ≤ length m
  pub upto : ℕ
  pub locals : Locals
  pub hide : Sizes_hide z (suc (length made)) outside locals upto
  pub resolved : Resolved upto locals outside value d.value

pub define_so : (z : Option Sizing) (file : ℕ) (is_entry : Bool) (x : Text) (heads : List Head) (value : SourceTerm) (sc : Scope) (made m : List Text) (d : FlatDefinition) → World_under any_number (world_of sc) → Parameter_sizes z d.parameters → Told value → define file is_entry x heads value sc made ≡ Ok (d, m) → Defined_so z (hiding (source_parameters heads) (outside_of sc)) made m d value
unfolding define
define_so z file is_entry x heads value sc made m d u s p e =
    went _ _ _ e (λ h o i g. went _ _ _ g (λ v l j q.
    let hs = source_parameters heads in
    let numbered = number_heads hs (with_text made x) in
    let same : numbered.0 ≡ h = ok_part i in
    let le : More (with_text made x) o = subst (λ z. More (with_text made x) z) (ok_rest i) (heads_more hs (with_text made x)) in
    let rd : Reads (enter h.1 sc) (entered numbered.0.1 []) (hiding hs (outside_of sc)) = subst (λ z. Reads (enter z.1 sc) (entered numbered.0.1 []) (hiding hs (outside_of sc))) same (reads_hiding hs (with_text made x) (reads_entered numbered.0.1 (heads_local hs (with_text made x)) (reads_outside sc u))) in
    let y = term_so value (enter h.1 sc) o l v (entered numbered.0.1 []) (hiding hs (outside_of sc)) p rd j in
    let sized : Parameter_sizes z numbered.0.0 = subst (Parameter_sizes z) (sym (ap (λ w. w.0) same ∙ ap (λ w. w.parameters) (ok_part q))) s in
    let hidden : Sizes_hide z (suc (length made)) (hiding hs (outside_of sc)) (entered numbered.0.1 []) (length o) = subst (λ w. Sizes_hide z (suc (length made)) (hiding hs (outside_of sc)) (entered numbered.0.1 []) (length w)) (ok_rest i) (sizes_hide hs (with_text made x) (outside_of sc) (omega (arith, more_text made x)) sized) in
    subst (λ w. Defined_so z (hiding hs (outside_of sc)) made m w value) (ok_part q)
    (subst (λ w. Defined_so z (hiding hs (outside_of sc)) made w (record { bind = next made; parameters = h.0; value = v; is_entry = is_entry; file = file }) value) (ok_rest q)
    (record { bind = refl; more = omega (arith, more_text made x, le, y.more); upto = length o; locals = entered numbered.0.1 []; hide = hidden; resolved = y.resolved }))))
