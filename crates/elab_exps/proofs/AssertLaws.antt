-- Assertions: the condition is resolved, and then what it guards.
use Rattle.std.proofs.Common.{◌≡◌, List, Result, Ok, Err, refl, ◌∙◌, ap, subst}
use Rattle.std.specs.Borrow.{Bor}
use Rattle.fut_scalar.specs.declared.place.Place.{Place}
use Rattle.fut_ast.specs.Sorts.{Text}
use Rattle.fut_flat.specs.declared.exp.Exp.{Exp as Flat}
use Rattle.fut_flat.specs.Erased.{FlatTerm}
use Rattle.fut_flat.specs.Sources.{SourceTerm, one}
use Rattle.fut_flat.specs.Terms.{nameless, Assert, Strict, Let, no_term, term_and}
use Rattle.elab_scopes.specs.Answers.{Went, went, refused, no_memory, viewed}
use Rattle.elab_scopes.specs.Resolve.{Numbered, after, led_by, name_pattern, number_heads, number_sizes, resolve, resolve_pattern, section_name}
use Rattle.elab_scopes.specs.Scopes.{Scope, enter}
use Rattle.elab_scopes.specs.Table.{scope_of, made_of}
use Rattle.elab_scopes.specs.declared.refusal.Refusal.{Refusal as HeldRefusal}
use Rattle.elab_scopes.specs.declared.refusal.Stop.{Stop}
use Rattle.elab_scopes.specs.declared.table.Names.{Names}
use Rattle.elab_nodes.specs.Built.{Built2, first_of_two, no_memory2}
use Rattle.elab_nodes.specs.Held.{held_term}
use Rattle.elab_nodes.proofs.Steps.{of_two}
use Rattle.elab_exps.specs.Sections.{led, looked}
use Rattle.elab_exps.proofs.SectionLaws.{led_bound, led_refused}

asserts : (c e : SourceTerm) (mark : Place) (sc : Scope) (m : List Text) → resolve (Let nameless (Strict Assert mark (one c)) e) sc m ≡ led_by (section_name e) sc (after (resolve c sc m) (λ c m. after (resolve e sc m) (λ e m. Ok (Let nameless (Strict Assert mark (term_and c no_term)) e, m))))
unfolding resolve after enter number_sizes number_heads resolve_pattern name_pattern
asserts c e mark sc m = ap (led_by (section_name e) sc) (behind (resolve c sc m))
  where
    behind : (q : Numbered FlatTerm)
        → after (after (after q (λ t m. after (Ok (no_term, m)) (λ ts m. Ok (term_and t ts, m)))) (λ ts m. after (Ok (Assert, m)) (λ o m. Ok (Strict o mark ts, m)))) (λ v m. after (resolve e sc m) (λ e m. Ok (Let nameless v e, m)))
        ≡ after q (λ c m. after (resolve e sc m) (λ e m. Ok (Let nameless (Strict Assert mark (term_and c no_term)) e, m)))
    behind (Ok (t, m)) = refl
    behind (Err x) = refl

went_here : {does does' : Scope → List Text → Numbered FlatTerm} {s t : Names} {r : Result (Bor Flat) Stop} → does (scope_of s) (made_of s) ≡ does' (scope_of s) (made_of s) → Went held_term does' s t r → Went held_term does s t r
went_here is (went gives same) = went (is ∙ gives) same
went_here is (refused gives) = refused (is ∙ gives)
went_here is no_memory = no_memory

pub assert_went : (c e : SourceTerm) (mark : Place) (s t u : Names) (l : Result (Unit {0}) HeldRefusal) (x x' y d : Result (Bor Flat) Stop) → viewed (λ u. u) l ≡ looked (section_name e) (scope_of s)
    → Went held_term (resolve c) s t x → x' ≡ led l x → Went held_term (resolve e) t u y
    → Built2 (λ c e w. held_term w ≡ Let nameless (Strict Assert mark (term_and (held_term c) no_term)) (held_term e)) x' y d → Went held_term (resolve (Let nameless (Strict Assert mark (one c)) e)) s u d
assert_went c e mark s t u (Ok z) x x' y d is p same q w =
    went_here (asserts c e mark (scope_of s) (made_of s) ∙ led_bound (section_name e) (scope_of s) _ z is)
    (of_two (λ c e. Let nameless (Strict Assert mark (term_and c no_term)) e) p q (subst (λ r. Built2 (λ c e w. held_term w ≡ Let nameless (Strict Assert mark (term_and (held_term c) no_term)) (held_term e)) r y d) same w))
assert_went c e mark s t u (Err z) x x' y d is p same q w = stops (subst (λ r. Built2 (λ c e w. held_term w ≡ Let nameless (Strict Assert mark (term_and (held_term c) no_term)) (held_term e)) r y d) same w)
  where
    stops : {d : Result (Bor Flat) Stop} → Built2 (λ c e w. held_term w ≡ Let nameless (Strict Assert mark (term_and (held_term c) no_term)) (held_term e)) (led (Err z) x) y d → Went held_term (resolve (Let nameless (Strict Assert mark (one c)) e)) s u d
    stops first_of_two = refused (asserts c e mark (scope_of s) (made_of s) ∙ led_refused (section_name e) (scope_of s) _ _ is)
    stops no_memory2 = no_memory
