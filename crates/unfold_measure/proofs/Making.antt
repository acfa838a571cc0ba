-- What is known of values that are made.
use Rattle.std.proofs.Common.{◌≡◌, List, map, Option, Some, Ok, Err, sym, ap, ◌∙◌, subst}
use Rattle.std.specs.Prelude.{Result, IfOk, IfErr}
use Rattle.std.specs.Borrow.{Bor}
use Rattle.fut_flat.specs.declared.prim.Primitive.{Primitive}
use Rattle.fut_meaning.specs.Knowns.{Known, Known_primitive}
use Rattle.unfold_measure.specs.declared.known.Known.{Known as Held_known}
use Rattle.unfold_measure.specs.declared.known.KnownForm.{KnownForm}
use Rattle.unfold_measure.specs.declared.known.KnownForm.TheVariants as form
use Rattle.unfold_measure.specs.declared.known.Closure.{Closure}
use Rattle.unfold_measure.specs.declared.stop.Stop.{Stop}
use Rattle.unfold_measure.specs.declared.stop.Stop.TheVariants.{Memory}
use Rattle.unfold_measure.specs.Answers.{Known_to, known_is, no_memory_to_know}
use Rattle.unfold_measure.specs.Held.{known_of, closure_of, knowns}
use Rattle.unfold_measure.proofs.Mirror.{known_closure, known_primitive}

-- what stands in the arena, or refuses for want of memory alone
pub made_known : {w : Option Known} {r : Result Held_known Stop} (f : KnownForm) → ((s : Held_known) → s.form.now ≡ f → w ≡ Some (known_of s)) → IfOk r (λ s. s.form.now ≡ f) → IfErr r (λ e. e ≡ Memory) → Known_to w r
made_known {r = Ok s} f g h h' = known_is (g s h)
made_known {w = w} {r = Err s} f g h h' = subst (λ z. Known_to w (Err z)) (sym h') no_memory_to_know

pub known_made : {w : Option Known} {k : Known} {r : Result Held_known Stop} → w ≡ Some k → IfOk r (λ s. known_of s ≡ k) → IfErr r (λ e. e ≡ Memory) → Known_to w r
known_made {r = Ok s} e h h' = known_is (e ∙ ap Some (sym h))
known_made {w = w} {r = Err s} e h h' = subst (λ z. Known_to w (Err z)) (sym h') no_memory_to_know

pub function_made : {k : Known} (r : Result Held_known Stop) (c : Bor Closure) → closure_of c.now ≡ k → IfOk r (λ s. s.form.now ≡ form.Function c) → IfOk r (λ s. known_of s ≡ k)
function_made (Ok s) c e h = known_closure s c h ∙ e
function_made (Err s) c e h = tt

pub primitive_made : {k : Known} (r : Result Held_known Stop) (p : Primitive) (ss : Bor (List Held_known)) → Known_primitive p (knowns (map known_of ss.now)) ≡ k → IfOk r (λ s. s.form.now ≡ form.Primitive p ss) → IfOk r (λ s. known_of s ≡ k)
primitive_made (Ok s) p ss e h = known_primitive s p ss h ∙ e
primitive_made (Err s) p ss e h = tt

pub known_gives : {w : Option Known} {s : Held_known} → Known_to w (Ok s) → Some (known_of s) ≡ w
known_gives (known_is q) = sym q

-- what is read from a list is what stands there
pub same_known : {w : Option Known} {s s' : Held_known} → s' ≡ s → Known_to w (Ok s) → Known_to w (Ok s')
same_known {w = w} e h = subst (λ z. Known_to w (Ok z)) (sym e) h
