-- The values of definitions.
use Rattle.std.proofs.Common.{◌≡◌, ℕ, ◌<◌, arith, List, [], ◌∷◌, map, length, refl, sym, subst, Option, Result}
use Rattle.std.specs.Borrow.{Bor}
use Rattle.fut_ast.specs.Sorts.{SourcePat, SourceType, SourceExp}
use Rattle.fut_tree.specs.declared.held.Held.{Held}
use Rattle.fut_tree.specs.Names.{all, maybe}
use Rattle.fut_flat.specs.declared.exp.Exp.{Exp as FlatExp}
use Rattle.fut_flat.specs.declared.pat.Pat.{Pat as FlatPat}
use Rattle.fut_flat.specs.Terms.{Lambda}
use Rattle.fut_flat.specs.Erased.{pattern_of, patterns as flat_patterns}
use Rattle.fut_flat.specs.Sources.{declared, patterns, placed, source_pattern}
use Rattle.elab_scopes.specs.declared.refusal.Stop.{Stop}
use Rattle.elab_scopes.specs.declared.table.Names.{Names}
use Rattle.elab_scopes.specs.Resolve.{resolve, resolve_parameters}
use Rattle.elab_scopes.specs.Programs.{definition_term}
use Rattle.elab_scopes.specs.Table.{made_of, outside, scope_of}
use Rattle.elab_scopes.specs.Answers.{Entered, Went}
use Rattle.elab_nodes.specs.Built.{Built2}
use Rattle.elab_nodes.specs.Held.{held_term}
use Rattle.elab_types.specs.Bindings.{parameters_of}
use Rattle.elab_exps.proofs.ExpLaws.{lambda_went}

pub value_none : (hs : List (Held SourcePat)) (t : Option (Bor SourceType)) (e : SourceExp) (s u : Names) (r : Result (Bor FlatExp) Stop) → hs ≡ []
    → Went held_term (resolve (declared (maybe t) (placed e))) s u r → Went held_term (resolve (definition_term (all hs) (maybe t) e)) s u r
value_none hs t e s u r is w = subst (λ hs. Went held_term (resolve (definition_term (all hs) (maybe t) e)) s u r) (sym is) w

is_function : (hs : List (Held SourcePat)) (t : Option (Bor SourceType)) (e : SourceExp) → 0 < length hs → definition_term (all hs) (maybe t) e ≡ Lambda (patterns (map source_pattern (all hs))) (declared (maybe t) (placed e))
is_function [] t e some = absurd (omega (arith, some))
is_function (h ∷ more) t e some = refl

pub value_some : (hs : List (Held SourcePat)) (t : Option (Bor SourceType)) (e : SourceExp) (s u v w : Names) (h : ℕ) (a : Result (Bor (List FlatPat)) Stop) (b c : Result (Bor FlatExp) Stop) → 0 < length hs
    → Entered (λ (ps : Bor (List FlatPat)). parameters_of ps.now) (resolve_parameters (patterns (map source_pattern (all hs))) (scope_of s) (made_of s)) u a → Went held_term (resolve (declared (maybe t) (placed e))) u v b
    → h ≡ length (scope_of s) → scope_of w ≡ outside h (scope_of v) → made_of w ≡ made_of v
    → Built2 (λ (ps : Bor (List FlatPat)) e x. held_term x ≡ Lambda (flat_patterns (map pattern_of ps.now)) (held_term e)) a b c → Went held_term (resolve (definition_term (all hs) (maybe t) e)) s w c
value_some hs t e s u v w h a b c some params body stood out mk q =
    subst (λ x. Went held_term (resolve x) s w c) (sym (is_function hs t e some)) (lambda_went (all hs) (declared (maybe t) (placed e)) s u v w h a b c params body stood out mk q)
