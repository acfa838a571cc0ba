-- Resolving a term binds each new number once.
use Rattle.std.proofs.Common.{◌≡◌, ℕ, ◌++◌, List, [], ◌∷◌, Result, Ok, Err, refl, sym, ap, subst, length}
use Rattle.fut_scalar.specs.declared.place.BindId.{BindId}
use Rattle.fut_scalar.specs.declared.place.Place.{Place}
use Rattle.fut_ast.specs.Sorts.{Text, Path}
use Rattle.fut_ast.specs.declared.node.Label.{Label}
use Rattle.fut_flat.specs.declared.prim.Ref.{Ref}
use Rattle.fut_flat.specs.Erased.{FlatTerm, FlatTurns}
use Rattle.fut_flat.specs.Sources.{Spelled, SourceTerm, SourceTurns}
use Rattle.fut_flat.specs.Terms.{Project, Use, Strict, Lambda, Apply, Let, If, Loop, Terms, no_term, term_and, Counted, Over, While}
use Rattle.elab_scopes.specs.Names.{Refusal}
use Rattle.elab_scopes.specs.Scopes.{Scope, enter, Found, value_of}
use Rattle.elab_scopes.specs.Resolve.{Numbered, with_text, Bound, is_declared, projected, section_name, use_found, resolve, resolve_all, resolve_turns, stands_behind}
use Rattle.elab_laws.proofs.Grown.{led_so, went, more_text}
use Rattle.elab_laws.proofs.Terms.{either_order}
use Rattle.elab_laws.specs.Binders.{term_binders, all_term_binders, turns_binders}
use Rattle.elab_laws.proofs.Filled.{Filled, fill_none, fill_one, fill_both, fill_back, fill_end}
use Rattle.elab_laws.proofs.Parts.{whole_filled, parameters_filled, sizes_filled, heads_filled, operation_filled}

projected_binds : (at : Place) (e : FlatTerm) (fs : Path) → term_binders e ≡ [] → term_binders (projected at e fs) ≡ []
unfolding projected
projected_binds at e [] none = none
projected_binds at e (f ∷ fs) none = projected_binds at (Strict (Project f) at (term_and e no_term)) fs (ap (λ l. l ++ []) none)

use_filled : (at : Place) (made made' : List Text) (r : Result Found Refusal) (u : FlatTerm) → use_found at made r ≡ Ok (u, made') → Filled (length made) (length made') (term_binders u)
use_filled at made made' (Ok f) u e = fill_end term_binders length (subst (Filled (length made) (length made)) (sym (projected_binds at (Use f.names at f.modules) f.fields refl)) (fill_none refl)) e
use_filled at made made' (Err x) u e = absurd (let z : ◌≡◌ {A = Numbered FlatTerm} (Err x) (Ok (u, made')) = e in cc)

abbrev turn_binders : Bound FlatTurns → List ℕ
turn_binders b = turns_binders b.0

mutual
  unfolding resolve resolve_all resolve_turns

  pub term_filled : (t : SourceTerm) (sc : Scope) (made made' : List Text) (u : FlatTerm) → resolve t sc made ≡ Ok (u, made') → Filled (length made) (length made') (term_binders u)
  term_filled (Use p at k) sc made made' u e = use_filled at made made' (value_of sc p) u e
  term_filled (Strict o mark ts) sc made made' u e =
      either_order (is_declared o) e
      (λ g. went _ _ _ g (λ a m h w. went _ _ _ w (λ us l i q.
      fill_end term_binders length (fill_both (operation_filled o sc made m a h) (all_filled ts sc m l us i)) q)))
      (λ g. went _ _ _ g (λ us m h w. went _ _ _ w (λ a l i q.
      fill_end term_binders length (fill_back (all_filled ts sc made m us h) (operation_filled o sc m l a i)) q)))
  term_filled (Lambda ps body) sc made made' u e =
      went _ _ _ e (λ a m h g. went _ _ _ g (λ b l i q.
      fill_end term_binders length (fill_both (parameters_filled ps sc made m a h) (term_filled body a.1 m l b i)) q))
  term_filled (Apply f a) sc made made' u e =
      either_order (stands_behind f) e
      (λ g. went _ _ _ g (λ b m h w. went _ _ _ w (λ c l i q.
      fill_end term_binders length (fill_back (term_filled a sc made m b h) (term_filled f sc m l c i)) q)))
      (λ g. went _ _ _ g (λ c m h w. went _ _ _ w (λ b l i q.
      fill_end term_binders length (fill_both (term_filled f sc made m c h) (term_filled a sc m l b i)) q)))
  term_filled (Let b v body) sc made made' u e =
      led_so (section_name body) sc _ _ e (λ g0. went _ _ _ g0 (λ s m1 h1 g1. went _ _ _ g1 (λ p m2 h2 g2. went _ _ _ g2 (λ hs m3 h3 g3. went _ _ _ g3 (λ v' m4 h4 g4. went _ _ _ g4 (λ e' m5 h5 q.
      fill_end term_binders length
      (fill_both (sizes_filled b.sizes made m1 s h1)
      (fill_both (whole_filled b.pattern (enter s.1 sc) m1 m2 p h2)
      (fill_both (heads_filled b.parameters m2 m3 hs h3)
      (fill_both (term_filled v (enter hs.1 sc) m3 m4 v' h4)
      (term_filled body (enter p.1 (enter s.1 sc)) m4 m5 e' h5))))) q))))))
  term_filled (If c a b) sc made made' u e =
      went _ _ _ e (λ c' m h w. went _ _ _ w (λ a' l i w'. went _ _ _ w' (λ b' k j q.
      fill_end term_binders length (fill_both (term_filled c sc made m c' h) (fill_both (term_filled a sc m l a' i) (term_filled b sc l k b' j))) q)))
  term_filled (Loop mark sizes p first turns body) sc made made' u e =
      went _ _ _ e (λ s m1 h1 g1. went _ _ _ g1 (λ p' m2 h2 g2. went _ _ _ g2 (λ f m3 h3 g3. went _ _ _ g3 (λ t m4 h4 g4. went _ _ _ g4 (λ b m5 h5 q.
      fill_end term_binders length
      (fill_both (sizes_filled sizes made m1 s h1)
      (fill_both (whole_filled p (enter s.1 sc) m1 m2 p' h2)
      (fill_both (term_filled first sc m2 m3 f h3)
      (fill_both (turns_filled turns sc (enter p'.1 (enter s.1 sc)) m3 m4 t h4)
      (term_filled body (enter t.1 (enter p'.1 (enter s.1 sc))) m4 m5 b h5))))) q)))))

  all_filled : (ts : Terms Spelled Label) (sc : Scope) (made made' : List Text) (us : Terms Ref BindId) → resolve_all ts sc made ≡ Ok (us, made') → Filled (length made) (length made') (all_term_binders us)
  all_filled no_term sc made made' us e = fill_end all_term_binders length (fill_none refl) e
  all_filled (term_and t ts) sc made made' us e =
      went _ _ _ e (λ a m h w. went _ _ _ w (λ b l i q.
      fill_end all_term_binders length (fill_both (term_filled t sc made m a h) (all_filled ts sc m l b i)) q))

  turns_filled : (ts : SourceTurns) (out inner : Scope) (made made' : List Text) (b : Bound FlatTurns) → resolve_turns ts out inner made ≡ Ok (b, made') → Filled (length made) (length made') (turns_binders b.0)
  turns_filled (Counted x n) out inner made made' b e =
      went _ _ _ e (λ a m h q. fill_end turn_binders length (fill_both (fill_one (more_text made x.name)) (term_filled n out (with_text made x.name) m a h)) q)
  turns_filled (Over p a) out inner made made' b e =
      went _ _ _ e (λ p' m h w. went _ _ _ w (λ a' l i q.
      fill_end turn_binders length (fill_both (whole_filled p inner made m p' h) (term_filled a out m l a' i)) q))
  turns_filled (While c) out inner made made' b e =
      went _ _ _ e (λ a m h q. fill_end turn_binders length (term_filled c inner made m a h) q)
