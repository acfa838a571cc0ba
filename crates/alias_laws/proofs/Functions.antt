-- Functions by the checker's sets and by whole ones.
use Rattle.std.proofs.Common.{ℕ, ◌+◌, false, Option, Ok, inr, arith}
use Rattle.fut_scalar.specs.declared.place.BindId.{BindId}
use Rattle.fut_flat.specs.declared.prim.Ref.{Ref}
use Rattle.fut_flat.specs.Terms.{Patterns, Lambda}
use Rattle.fut_flat.specs.Numbers.{all_pattern_numbers, numbers}
use Rattle.fut_flat.specs.Erased.{FlatTerm}
use Rattle.fut_types.specs.Types.{Sub, Kinds}
use Rattle.fut_typing.specs.Names.{Names}
use Rattle.fut_aliases.specs.declared.refusals.Named.TheVariants.{ByAlias}
use Rattle.fut_aliases.specs.declared.refusals.Spot.TheVariants.{First}
use Rattle.fut_aliases.specs.Aliases.{Naming, Set, with_alias, first_name_alone}
use Rattle.fut_aliases.specs.Stars.{Stars}
use Rattle.fut_aliases.specs.Values.{Function}
use Rattle.fut_aliases.specs.Steps.{Losses, Step, and_then, apart}
use Rattle.fut_aliases.specs.Patterns.{Scope}
use Rattle.fut_aliases.specs.Capturing.{capture, captures}
use Rattle.fut_aliases.specs.Calls.{Here, Part}
use Rattle.fut_aliases.specs.Looking.{function_stars, body_node, in_body, body_wanted, body_stars, give_back, capture_fits, whole, by_itself, looked}
use Rattle.alias_laws.proofs.Worlds.{unions, set_on, grows_not}
use Rattle.alias_laws.proofs.Values.{functions_are}
use Rattle.alias_laws.proofs.Losing.{losses_on, all_lost, lost_same}
use Rattle.alias_laws.proofs.Since.{since_now}
use Rattle.alias_laws.proofs.Stepping.{only_these, free_apart, free_part, gone, plain, avoiding_less, losses_where, gone_before, unlost, AnswerR, done, then_are, then_from, demand_then, in_world, Any}
use Rattle.alias_laws.proofs.Calling.{HereR, here_is, no_loss, set_new}
use Rattle.alias_laws.proofs.Captured.{captured_are}
use Rattle.alias_laws.proofs.Parameters.{parameters_are}
use Rattle.alias_laws.proofs.Finishing.{here_on, whole_is}
use Rattle.alias_laws.proofs.Forms.{give_back_is}
use Rattle.alias_laws.proofs.Looks.{has_number, Looks, alone_is}

module _ (N : Names) (K : Kinds) (types : Sub) where
  pub lambda_is_alike : (ps : Patterns Ref BindId) (e : FlatTerm) (lo : ℕ) (x : Option Stars) → Looks N K types e (body_node with_alias N K types ps lo) (body_wanted with_alias N K types ps e lo x) → Looks N K types (Lambda ps e) lo x
  unfolding looked
  lambda_is_alike ps e lo x look asked w h h' ls ls' fr (here_is {scope} {scope'} {fixed} {fixed'} {l = lf} {f = ff} sc fx) l = let ne = has_number e in
      then_from (1 + lo) (1 + lo + all_pattern_numbers ps + numbers e) lo (λ z. caught with_alias o) (λ z. caught first_name_alone o') (omega arith) (omega arith) (omega arith)
      body_is (λ w2 z z' ms ms' g o2 l2 s q.
      let c = set_on (avoiding_less g (λ a k. k)) (captured_are N sc e) in
      demand_then asked (λ y. made with_alias scope) (λ y. made first_name_alone scope') (λ k. lost_same (all_lost (named scope) (losses_where (λ a. false) l2)) c ByAlias (First lo)) (λ k.
      whole_is N K types (Lambda ps e) lo l2 s (functions_are (set_new (plain w2) (gone asked ls) c (λ a i. gone_before s a (unlost asked ms a (λ y. no_loss ms ByAlias (First lo) (named scope) (k y) a i)))))))
    where
      named : Scope → Set
      named scope = captures (capture N scope e)

      made : Naming → Scope → Step Part
      made naming scope = whole naming N K types (Lambda ps e) lo (Function (captures (capture N scope e)) (function_stars naming N K types ps (1 + lo) (body_stars naming N K types ps e lo x)))

      caught : Naming → Here → Step Part
      caught naming h = and_then (capture_fits naming N K types h lo (captures (capture N h.scope e))) (λ y. made naming h.scope)

      o : Here
      o = record { scope = scope; fixed = fixed; loop_from = lf; function_from = ff; asked = asked }

      o' : Here
      o' = record { scope = scope'; fixed = fixed'; loop_from = lf; function_from = ff; asked = asked }

      inside : Naming → Here → Step (Unit {0})
      inside naming h = and_then (by_itself naming N K types e (body_node naming N K types ps lo) (in_body naming N K types ps lo h) (looked naming N K types e (body_node naming N K types ps lo) (in_body naming N K types ps lo h) (body_wanted naming N K types ps e lo x))) (λ a. give_back naming N K types (in_body naming N K types ps lo h) (body_stars naming N K types ps e lo x) a)

      body_is : AnswerR asked w (1 + lo) (1 + lo + all_pattern_numbers ps + numbers e) ls Any (apart (inside with_alias o) ls) (apart (inside first_name_alone o') ls')
      body_is = let ne = has_number e in let kp = parameters_are N types K ps (1 + lo) (free_part w (omega arith) (omega arith) fr) sc in
          let here : HereR kp.binds.world asked (in_body with_alias N K types ps lo o) (in_body first_name_alone N K types ps lo o') = here_is kp.binds.scopes (unions kp.keeps (set_on (avoiding_less kp.binds.grows (λ a k. k)) fx)) in
          let lp = losses_on kp.binds.grows l in
          in_world kp.binds.grows kp.binds.only (omega arith) (omega arith)
          (then_are (1 + lo + all_pattern_numbers ps + numbers e) (1 + lo) (λ (r : Unit {0}) (os : Losses). Ok (record { result = r; losses = ls })) (λ (r : Unit {0}) (os : Losses). Ok (record { result = r; losses = ls' })) (omega arith) (omega arith)
          (then_from {lo = 1 + lo} {hi = 1 + lo + all_pattern_numbers ps + numbers e} {base = ls} (body_node with_alias N K types ps lo) (body_node with_alias N K types ps lo + numbers e) (1 + lo) (λ a. give_back with_alias N K types (in_body with_alias N K types ps lo o) (body_stars with_alias N K types ps e lo x) a) (λ a. give_back first_name_alone N K types (in_body first_name_alone N K types ps lo o') (body_stars first_name_alone N K types ps e lo x) a) (omega arith) (omega arith) (omega arith)
          (alone_is N K types e (body_node with_alias N K types ps lo) (body_wanted with_alias N K types ps e lo x) look asked kp.binds.world (in_body with_alias N K types ps lo o) (in_body first_name_alone N K types ps lo o') ls ls' (free_apart kp.binds.only (inr (omega arith)) (free_part w (omega arith) (omega arith) fr)) here lp) (λ w3 a a' ms ms' g o3 l3 s q.
          give_back_is N K types (body_stars with_alias N K types ps e lo x) (here_on g here) l3 s q)) (λ w3 r r' ms ms' g o3 l3 s q.
          done w3 (grows_not w3) (only_these w3 _ _) (losses_on g lp) (λ k. since_now w3 ls) tt))
