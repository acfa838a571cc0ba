-- Names that are used.
use Rattle.std.proofs.Common.{◌≡◌, ℕ, refl, sym, ◌∙◌, ap, Result, Ok, Err}
use Rattle.std.specs.Borrow.{Bor}
use Rattle.fut_scalar.specs.declared.place.Place.{Place}
use Rattle.fut_flat.specs.declared.exp.Exp.{Exp as Flat}
use Rattle.fut_flat.specs.Terms.{Use}
use Rattle.fut_flat.specs.Erased.{texts}
use Rattle.fut_flat.specs.Sources.{Spelled}
use Rattle.elab_scopes.specs.declared.values.Found.{Found as HeldFound}
use Rattle.elab_scopes.specs.declared.refusal.Refusal.{Refusal as HeldRefusal}
use Rattle.elab_scopes.specs.declared.refusal.Stop.{Stop}
use Rattle.elab_scopes.specs.declared.refusal.Stop.TheVariants as stop
use Rattle.elab_scopes.specs.declared.table.Names.{Names}
use Rattle.elab_scopes.specs.Scopes.{value_of}
use Rattle.elab_scopes.specs.Resolve.{projected, resolve, use_found}
use Rattle.elab_scopes.specs.Table.{scope_of, made_of}
use Rattle.elab_scopes.specs.Answers.{viewed, found_of, modules_before, Went, went, refused, no_memory}
use Rattle.elab_nodes.specs.Built.{Built0, built0, no_memory0}
use Rattle.elab_nodes.specs.Held.{held_term}

pub used_went : (at : Place) (p : Spelled) (k : ℕ) (s : Names) (n m : ℕ) (f : HeldFound) (c : Result (Bor Flat) Stop) → viewed (found_of n) (Ok f) ≡ value_of (scope_of s) p → m ≡ modules_before n f.fields.now
    → Built0 (λ x. held_term x ≡ projected at (Use f.names at m) (texts f.fields.now)) c → Went held_term (resolve (Use p at k)) s s c
unfolding resolve
used_went at p k s n m f _ is count (built0 eq) = went (ap (use_found at (made_of s)) (sym is) ∙ (λ i. Ok (projected at (Use f.names at (sym count i)) (texts f.fields.now), made_of s)) ∙ λ i. Ok (sym eq i, made_of s)) refl
used_went at p k s n m f _ is count no_memory0 = no_memory

pub use_refused : (at : Place) (p : Spelled) (k : ℕ) (s : Names) (n : ℕ) (e : HeldRefusal) → viewed (found_of n) (Err e) ≡ value_of (scope_of s) p → Went held_term (resolve (Use p at k)) s s (Err (stop.Refused e))
unfolding resolve
use_refused at p k s n e is = refused (ap (use_found at (made_of s)) (sym is))

pub use_stops : (at : Place) (p : Spelled) (k : ℕ) (s : Names) → Went held_term (resolve (Use p at k)) s s (Err stop.Memory)
use_stops at p k s = no_memory

pub ruleset use_rules = (used_went, use_refused, use_stops)
