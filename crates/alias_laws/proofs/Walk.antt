-- The walk by the checker's sets and by whole ones, form by form.
use Rattle.std.proofs.Common.{◌≡◌, ℕ, suc, ◌+◌, Bool, true, false, ◌&&◌, List, [], ◌∷◌, Option, Some, None, Ok, inl, inr, refl, sym, subst, arith}
use Rattle.fut_ast.specs.Sorts.{Text}
use Rattle.fut_scalar.specs.declared.place.BindId.{BindId}
use Rattle.fut_scalar.specs.declared.place.Place.{Place}
use Rattle.fut_flat.specs.declared.prim.Ref.{Ref}
use Rattle.fut_flat.specs.declared.prim.Ref.TheVariants as ref
use Rattle.fut_flat.specs.Terms.{Binding, Operation, Integer, Truth, Tuple_of, Record_of, Array_of, Binary, Negate, Complement, Index, Project, Update, Replace, Ascribe, Coerce, Declared, Assert, Range, Use, Strict, Lambda, Apply, Let, If, Loop, Terms, no_term, term_and, Counted, Over, While}
use Rattle.fut_flat.specs.Numbers.{pattern_numbers, own_numbers, numbers, all_numbers}
use Rattle.fut_flat.specs.Erased.{FlatTerm, FlatTurns, FlatType}
use Rattle.fut_types.specs.Types.{Sub, Kinds}
use Rattle.fut_typing.specs.Names.{Names}
use Rattle.fut_aliases.specs.Aliases.{Naming, with_alias, first_name_alone}
use Rattle.fut_aliases.specs.Stars.{Stars, primitive_stars, written_stars}
use Rattle.fut_aliases.specs.Values.{Value, unite}
use Rattle.fut_aliases.specs.Steps.{then_do, Losses, lose_all, Step, give, and_then, either_of}
use Rattle.fut_aliases.specs.Calls.{Here, Held, Part}
use Rattle.fut_aliases.specs.Operations.{operation, ascribe}
use Rattle.fut_aliases.specs.Looking.{part_of, wanted_parameter, or_plain, let_fits, whole, by_itself, projected, ready, with_argument, wanted_part, value_node, turns_node, turn_node, body_node, body_wanted, behind_let, looked, all_looked}
use Rattle.alias_laws.proofs.Worlds.{World, empties, set_on, Grows, grows_not, grows_on}
use Rattle.alias_laws.proofs.Values.{ValueR, value_on, unite_is, of_type_is, with_stars_is}
use Rattle.alias_laws.proofs.Losing.{LossesR, losses_on, loses_all}
use Rattle.alias_laws.proofs.Since.{Since, since_now, since_grows, since_on, since_either}
use Rattle.alias_laws.proofs.Stepping.{only_these, Free, free_apart, free_part, avoiding, gone, plain, avoiding_less, AnswerR, done, HeldR, HeldsR, no_parts, more_parts, held_on, helds_on, held_value, held_before, helds_before, helds_together, value_before, then_are, then_from, in_world, wider}
use Rattle.alias_laws.proofs.Calling.{HereR, here_is, PartR, a_name, a_part, ReadyR, is_ready, ValueIs}
use Rattle.alias_laws.proofs.Finishing.{PartIs, here_on, held_now, own_new, whole_is}
use Rattle.alias_laws.proofs.Binding.{bound_is, scope_on}
use Rattle.alias_laws.proofs.Operating.{operation_is, ascribe_is}
use Rattle.alias_laws.proofs.Forms.{use_value_is, projected_is, ready_is, wanted_same, let_fits_is}
use Rattle.alias_laws.proofs.Looks.{has_number, Looks, alone_is}
use Rattle.alias_laws.proofs.Functions.{lambda_is_alike}
use Rattle.alias_laws.proofs.Turning.{Turns_look}
use Rattle.alias_laws.proofs.Loops.{loop_is_alike}

-- a name's value, which nothing is asked of yet
plain_value : (w : World) (asked : Bool) {v v' : Value} → ValueR (plain w) v v' → ValueR (avoiding w (gone asked [])) v v'
plain_value w asked p = value_on (avoiding_less (grows_not w) (λ a h. nothing_gone asked)) p
  where
    nothing_gone : (b : Bool) → (b && false) ≡ false
    nothing_gone true = refl
    nothing_gone false = refl

abbrev HeldsIs : Bool → Losses → World → Losses → List Held → List Held → Type 0
HeldsIs asked base w ls as_well as_well' = HeldsR w asked base ls as_well as_well'

module _ (N : Names) (K : Kinds) (types : Sub) where
  use_is_alike : (r : Ref) (at : Place) (k lo : ℕ) (x : Option Stars) → Looks N K types (Use r at k) lo x
  unfolding looked
  use_is_alike (ref.Bound b) at k lo x asked w h h' ls ls' f (here_is sc fx) l = done w (grows_not w) (only_these w lo _) l (λ e. since_now w ls) (a_name b (held_now l (plain_value w asked (use_value_is N K types lo sc (ref.Bound b)))))
  use_is_alike (ref.Prim p) at k lo x asked w h h' ls ls' f (here_is sc fx) l = done w (grows_not w) (only_these w lo _) l (λ e. since_now w ls) (a_part (held_now l (with_stars_is K (empties (avoiding w (gone asked ls))) (primitive_stars p) (types lo))) no_parts)
  use_is_alike (ref.Scalar p) at k lo x asked w h h' ls ls' f (here_is sc fx) l = done w (grows_not w) (only_these w lo _) l (λ e. since_now w ls) (a_part (held_now l (of_type_is K (empties (avoiding w (gone asked ls))) (types lo))) no_parts)

  with_argument_is : {w w2 : World} {asked : Bool} {base ls ms : Losses} {p p' : Part} {a a' : Held} → Grows w w2 → (asked ≡ true → Since w base ls) → (asked ≡ true → Since w2 ls ms) → ReadyR w asked base ls p p' → HeldR w2 asked ls ms a a'
      → PartR w2 asked base ms (with_argument with_alias N K types p a) (with_argument first_name_alone N K types p' a')
  with_argument_is g s t (is_ready fs ps) q = a_part (held_on g t fs) (helds_together (helds_on g t ps) (more_parts (held_before s q) no_parts))

  apply_is_alike : (f e : FlatTerm) (lo : ℕ) (x : Option Stars) → Looks N K types f (1 + lo) None → ((y : Option Stars) → Looks N K types e (1 + lo + numbers f) y) → Looks N K types (Apply f e) lo x
  unfolding looked
  apply_is_alike f e lo x looks_f looks_e asked w h h' ls ls' fr here l =
      let nf = has_number f in let ne = has_number e in
      then_are (1 + lo + numbers f) lo (λ p. and_then (ready with_alias N K types h f (1 + lo) p) (λ q. argument with_alias h q)) (λ p. and_then (ready first_name_alone N K types h' f (1 + lo) p) (λ q. argument first_name_alone h' q)) (omega arith) (omega arith)
      (wider (omega arith) (omega arith) (looks_f asked w h h' ls ls' (free_part w (omega arith) (omega arith) fr) here l)) (λ w2 p p' ms ms' g o l2 s q.
      then_are (1 + lo + numbers f) (1 + lo + numbers f) (λ q. argument with_alias h q) (λ q. argument first_name_alone h' q) (omega arith) (omega arith)
      (ready_is N K types {lo = lo} {hi = 1 + lo + numbers f} f (1 + lo) (omega arith) (omega arith) (own_new asked (1 + lo) l (fr (1 + lo) (omega arith) (omega arith))) (here_on g here) l2 s q) (λ w3 q q' ns ns' g3 o3 l3 s3 r.
      subst (λ y. AnswerR asked w3 (1 + lo + numbers f) (lo + numbers (Apply f e)) ls (PartIs asked ls) (argument with_alias h q ns) (wanting first_name_alone h' q' y ns')) (sym (wanted_same N K types r))
      (then_are (1 + lo + numbers f + numbers e) (1 + lo + numbers f) (λ a. give (with_argument with_alias N K types q a)) (λ a. give (with_argument first_name_alone N K types q' a)) (omega arith) (omega arith)
      (alone_is N K types e (1 + lo + numbers f) (wanted_parameter q) (looks_e (wanted_parameter q)) asked w3 h h' ns ns' (free_apart o3 (inr (omega arith)) (free_apart o (inr (omega arith)) (free_part w (omega arith) (omega arith) fr))) (here_on (grows_on g g3) here) l3) (λ w4 a a' os os' g4 o4 l4 s4 y.
      done w4 (grows_not w4) (only_these w4 _ _) l4 (λ e. since_on (since_grows g4 (s3 e)) (s4 e)) (with_argument_is g4 s3 s4 r y)))))
    where
      wanting : Naming → Here → Part → Option Stars → Step Part
      wanting naming h q y = and_then (by_itself naming N K types e (1 + lo + numbers f) h (looked naming N K types e (1 + lo + numbers f) h y)) (λ a. give (with_argument naming N K types q a))

      argument : Naming → Here → Part → Step Part
      argument naming h q = and_then (by_itself naming N K types e (1 + lo + numbers f) h (looked naming N K types e (1 + lo + numbers f) h (wanted_parameter q))) (λ a. give (with_argument naming N K types q a))

  -- ---- operations

  -- parts one behind another
  All_look : Terms Ref BindId → ℕ → (ℕ → Option Stars) → ℕ → Type 0
  All_look ts lo x i = (asked : Bool) (w : World) (h h' : Here) (ls ls' : Losses) → Free w lo (lo + all_numbers ts) → HereR w asked h h' → LossesR w ls ls'
      → AnswerR asked w lo (lo + all_numbers ts) ls (HeldsIs asked ls) (all_looked with_alias N K types ts lo h x i ls) (all_looked first_name_alone N K types ts lo h' x i ls')

  one_more : (t : FlatTerm) (ts : Terms Ref BindId) (lo : ℕ) (x : ℕ → Option Stars) (i : ℕ) → Looks N K types t lo (x i) → All_look ts (lo + numbers t) x (suc i) → All_look (term_and t ts) lo x i
  unfolding All_look all_looked
  one_more t ts lo x i look looks asked w h h' ls ls' fr here l =
      then_are (lo + numbers t) (lo + numbers t) (λ a. and_then (all_looked with_alias N K types ts (lo + numbers t) h x (suc i)) (λ more_of. give (a ∷ more_of))) (λ a. and_then (all_looked first_name_alone N K types ts (lo + numbers t) h' x (suc i)) (λ more_of. give (a ∷ more_of))) (omega arith) (omega arith)
      (alone_is N K types t lo (x i) look asked w h h' ls ls' (free_part w (omega arith) (omega arith) fr) here l) (λ w2 a a' ms ms' g o l2 s q.
      then_are (lo + numbers t + all_numbers ts) (lo + numbers t) (λ more_of. give (a ∷ more_of)) (λ more_of. give (a' ∷ more_of)) (omega arith) (omega arith)
      (looks asked w2 h h' ms ms' (free_apart o (inr (omega arith)) (free_part w (omega arith) (omega arith) fr)) (here_on g here) l2) (λ w3 as_well as_well' ns ns' g3 o3 l3 s3 qs.
      done w3 (grows_not w3) (only_these w3 _ _) l3 (λ e. since_on (since_grows g3 (s e)) (s3 e)) (more_parts (held_on g3 s3 q) (helds_before s qs))))

  no_more : (lo : ℕ) (x : ℕ → Option Stars) (i : ℕ) → All_look no_term lo x i
  unfolding All_look all_looked
  no_more lo x i asked w h h' ls ls' fr here l = done w (grows_not w) (only_these w lo _) l (λ e. since_now w ls) no_parts

  abbrev own_of : Operation Ref BindId → ℕ
  own_of op = own_numbers op

  -- an operation over its parts
  operated : Naming → Operation Ref BindId → Place → Terms Ref BindId → ℕ → Here → Option Stars → Step Part
  operated naming op mark ts lo h x = and_then (all_looked naming N K types ts (lo + own_of op) h (wanted_part naming N K types op lo x) 0) (λ parts. and_then (operation N K types h op lo mark parts) (λ v. whole naming N K types (Strict op mark ts) lo v))

  operated_is : (op : Operation Ref BindId) (mark : Place) (ts : Terms Ref BindId) (lo : ℕ) (x : Option Stars) → All_look ts (lo + own_of op) (wanted_part with_alias N K types op lo x) 0
      → (asked : Bool) (w : World) (h h' : Here) (ls ls' : Losses) → Free w lo (lo + numbers (Strict op mark ts)) → HereR w asked h h' → LossesR w ls ls'
      → AnswerR asked w lo (lo + numbers (Strict op mark ts)) ls (PartIs asked ls) (operated with_alias op mark ts lo h x ls) (operated first_name_alone op mark ts lo h' x ls')
  unfolding All_look operated
  operated_is op mark ts lo x looks asked w h h' ls ls' fr here l =
      then_are (lo + own_numbers op + all_numbers ts) lo (λ parts. and_then (operation N K types h op lo mark parts) (λ v. whole with_alias N K types (Strict op mark ts) lo v)) (λ parts. and_then (operation N K types h' op lo mark parts) (λ v. whole first_name_alone N K types (Strict op mark ts) lo v)) (omega arith) (omega arith)
      (wider (omega arith) (omega arith) (looks asked w h h' ls ls' (free_part w (omega arith) (omega arith) fr) here l)) (λ w2 parts parts' ms ms' g o l2 s q.
      then_are (lo + numbers (Strict op mark ts)) lo (λ v. whole with_alias N K types (Strict op mark ts) lo v) (λ v. whole first_name_alone N K types (Strict op mark ts) lo v) (omega arith) (omega arith)
      (operation_is N K types op lo mark (here_on g here) l2 s q) (λ w3 v v' ns ns' g3 o3 l3 s3 y. whole_is N K types (Strict op mark ts) lo l3 s3 y))

  project_is_alike : (f : Text) (mark : Place) (t : FlatTerm) (lo : ℕ) (x : Option Stars) → Looks N K types t (2 + lo) None → Looks N K types (Strict (Project f) mark (term_and t no_term)) lo x
  unfolding looked
  project_is_alike f mark t lo x look asked w h h' ls ls' fr here l = let n = has_number t in
      then_are (2 + lo + numbers t) lo (λ p. projected with_alias N K types h (Strict (Project f) mark (term_and t no_term)) f lo p) (λ p. projected first_name_alone N K types h' (Strict (Project f) mark (term_and t no_term)) f lo p) (omega arith) (omega arith)
      (wider (omega arith) (omega arith) (look asked w h h' ls ls' (free_part w (omega arith) (omega arith) fr) here l)) (λ w2 p p' ms ms' g o l2 s q.
      projected_is N K types (Strict (Project f) mark (term_and t no_term)) f lo (omega arith) (omega arith) (own_new asked (2 + lo) l (fr (2 + lo) (omega arith) (omega arith))) (here_on g here) l2 s q)

  declared_is_alike : (d : FlatType) (mark : Place) (t : FlatTerm) (lo : ℕ) (x : Option Stars) → ((y : Option Stars) → Looks N K types t (1 + lo) y) → Looks N K types (Strict (Declared d) mark (term_and t no_term)) lo x
  unfolding looked
  declared_is_alike d mark t lo x look asked w h h' ls ls' fr here l = let n = has_number t in
      then_are (1 + lo + numbers t) lo (λ a. and_then (ascribe h (or_plain x (written_stars N false d (types lo))) a) (λ v. whole with_alias N K types t lo v)) (λ a. and_then (ascribe h' (or_plain x (written_stars N false d (types lo))) a) (λ v. whole first_name_alone N K types t lo v)) (omega arith) (omega arith)
      (wider (omega arith) (omega arith) (alone_is N K types t (1 + lo) (Some (or_plain x (written_stars N false d (types lo)))) (look _) asked w h h' ls ls' (free_part w (omega arith) (omega arith) fr) here l)) (λ w2 a a' ms ms' g o l2 s q.
      then_are (1 + lo + numbers t) lo (λ v. whole with_alias N K types t lo v) (λ v. whole first_name_alone N K types t lo v) (omega arith) (omega arith)
      (ascribe_is (or_plain x (written_stars N false d (types lo))) (here_on g here) l2 s q) (λ w3 v v' ns ns' g3 o3 l3 s3 y. whole_is N K types t lo l3 s3 y))

  -- ---- lets

  let_is_alike : (b : Binding Ref BindId) (v e : FlatTerm) (lo : ℕ) (x : Option Stars) → Looks N K types v (value_node with_alias N K types b.pattern lo) None → Looks N K types e (value_node with_alias N K types b.pattern lo + numbers v) x → Looks N K types (Let b v e) lo x
  unfolding looked
  let_is_alike b v e lo x look_v look_e asked w h h' ls ls' fr (here_is {scope} {scope'} {fixed} {fixed'} {l = lf} {f = ff} sc fx) l = let nv = has_number v in let ne = has_number e in
      then_from vn (vn + numbers v) lo (λ a. and_then (let_fits with_alias N K types o b.pattern (1 + lo) a) (λ z. rest with_alias o a)) (λ a. and_then (let_fits first_name_alone N K types o' b.pattern (1 + lo) a) (λ z. rest first_name_alone o' a)) (omega arith) (omega arith) (omega arith)
      (alone_is N K types v vn None look_v asked w o o' ls ls' (free_part w (omega arith) (omega arith) fr) here l) (λ w2 a a' ms ms' g o2 l2 s q.
      then_from (1 + lo) (1 + lo) lo (λ z. rest with_alias o a) (λ z. rest first_name_alone o' a') (omega arith) (omega arith) (omega arith)
      (let_fits_is N K types b.pattern (1 + lo) (here_on g here) l2 s q) (λ w3 z z' ns ns' g3 o3 l3 s3 y.
      bound_rest w3 a a' ns ns' (grows_on g g3) (free_apart o3 (inr (omega arith)) (free_apart o2 (inl (omega arith)) (free_part w (omega arith) (omega arith) fr))) (free_apart o3 (inr (omega arith)) (free_apart o2 (inr (omega arith)) (free_part w (omega arith) (omega arith) fr))) l3 s3 (value_on (avoiding_less g3 (λ c k. refl)) (held_value q))))
    where
      o : Here
      o = record { scope = scope; fixed = fixed; loop_from = lf; function_from = ff; asked = asked }

      o' : Here
      o' = record { scope = scope'; fixed = fixed'; loop_from = lf; function_from = ff; asked = asked }

      here : HereR w asked o o'
      here = here_is sc fx

      vn : ℕ
      vn = 1 + lo + pattern_numbers b.pattern

      rest : Naming → Here → Held → Step Part
      rest naming o a = and_then (by_itself naming N K types e (vn + numbers v) (behind_let naming N K types b lo a o) (looked naming N K types e (vn + numbers v) (behind_let naming N K types b lo a o) x)) (λ r. give (part_of r None (types lo)))

      bound_rest : (w3 : World) (a a' : Held) (ns ns' : Losses) → Grows w w3 → Free w3 (1 + lo) (1 + lo + pattern_numbers b.pattern) → Free w3 (vn + numbers v) (vn + numbers v + numbers e) → LossesR w3 ns ns' → (asked ≡ true → Since w3 ls ns) → ValueR (plain w3) a.value a'.value
          → AnswerR asked w3 lo (lo + numbers (Let b v e)) ls (PartIs asked ls) (rest with_alias o a ns) (rest first_name_alone o' a' ns')
      bound_rest w3 a a' ns ns' g f1 f2 l3 s3 y = let nv = has_number v in let ne = has_number e in let bs = bound_is N types false b.pattern (1 + lo) f1 y (scope_on g sc) in
          in_world bs.grows bs.only (omega arith) (omega arith)
          (then_from (vn + numbers v) (vn + numbers v + numbers e) lo (λ r. give (part_of r None (types lo))) (λ r. give (part_of r None (types lo))) (omega arith) (omega arith) (omega arith)
          (alone_is N K types e (vn + numbers v) x look_e asked bs.world (behind_let with_alias N K types b lo a o) (behind_let first_name_alone N K types b lo a' o') ns ns' (free_apart bs.only (inr (omega arith)) f2) (here_is bs.scopes (set_on (avoiding_less (grows_on g bs.grows) (λ c k. k)) fx)) (losses_on bs.grows l3)) (λ w5 r r' os os' g5 o5 l5 s5 z.
          done w5 (grows_not w5) (only_these w5 _ _) l5 (λ k. since_on (since_grows (grows_on bs.grows g5) (s3 k)) (s5 k)) (a_part (held_before (λ k. s3 k) z) no_parts)))

  -- ---- branches

  if_is_alike : (c t e : FlatTerm) (lo : ℕ) (x : Option Stars) → Looks N K types c (1 + lo) None → Looks N K types t (1 + lo + numbers c) None → Looks N K types e (1 + lo + numbers c + numbers t) None → Looks N K types (If c t e) lo x
  unfolding looked
  if_is_alike c t e lo x look_c look_t look_e asked w h h' ls ls' fr here l = let nc = has_number c in let nt = has_number t in let ne = has_number e in
      then_are (1 + lo + numbers c) lo (λ z. and_then (both with_alias h) (λ v. whole with_alias N K types (If c t e) lo v)) (λ z. and_then (both first_name_alone h') (λ v. whole first_name_alone N K types (If c t e) lo v)) (omega arith) (omega arith)
      (wider (omega arith) (omega arith) (alone_is N K types c (1 + lo) None look_c asked w h h' ls ls' (free_part w (omega arith) (omega arith) fr) here l)) (λ w2 y y' ms ms' g o l2 s q.
      then_from (1 + lo + numbers c) hi lo (λ v. whole with_alias N K types (If c t e) lo v) (λ v. whole first_name_alone N K types (If c t e) lo v) (omega arith) (omega arith) (omega arith)
      (both_are w2 ms ms' (here_on g here) (free_apart o (inr (omega arith)) (free_part w (omega arith) (omega arith) fr)) (free_apart o (inr (omega arith)) (free_part w (omega arith) (omega arith) fr)) l2) (λ w3 v v' ns ns' g3 o3 l3 s3 z.
      whole_is N K types (If c t e) lo l3 (λ k. since_on (since_grows g3 (s k)) (s3 k)) (value_before (λ k. since_grows g3 (s k)) z)))
    where
      hi : ℕ
      hi = lo + numbers (If c t e)

      both : Naming → Here → Step Value
      both naming h = either_of (λ (a : Held) (b : Held). unite a.value b.value) (by_itself naming N K types t (1 + lo + numbers c) h (looked naming N K types t (1 + lo + numbers c) h None)) (by_itself naming N K types e (1 + lo + numbers c + numbers t) h (looked naming N K types e (1 + lo + numbers c + numbers t) h None))

      second : Naming → Here → Losses → Held → Step Value
      second naming h ms a ns = then_do (by_itself naming N K types e (1 + lo + numbers c + numbers t) h (looked naming N K types e (1 + lo + numbers c + numbers t) h None) ms) (λ d. Ok (record { result = unite a.value d.result.value; losses = lose_all d.losses ns }))

      both_are : (w2 : World) (ms ms' : Losses) → HereR w2 asked h h' → Free w2 (1 + lo + numbers c) (1 + lo + numbers c + numbers t) → Free w2 (1 + lo + numbers c + numbers t) hi → LossesR w2 ms ms'
          → AnswerR asked w2 (1 + lo + numbers c) hi ms (ValueIs asked ms) (both with_alias h ms) (both first_name_alone h' ms')
      both_are w2 ms ms' here f1 f2 l2 = let nt = has_number t in let ne = has_number e in
          then_are (1 + lo + numbers c + numbers t) (1 + lo + numbers c + numbers t) (second with_alias h ms) (second first_name_alone h' ms') (omega arith) (omega arith)
          (alone_is N K types t (1 + lo + numbers c) None look_t asked w2 h h' ms ms' f1 here l2) (λ w3 a a' ns ns' g o l3 s q.
          then_are (1 + lo + numbers c + numbers t + numbers e) (1 + lo + numbers c + numbers t) (λ (d : Held) (os : Losses). Ok (record { result = unite a.value d.value; losses = lose_all os ns })) (λ (d : Held) (os : Losses). Ok (record { result = unite a'.value d.value; losses = lose_all os ns' })) (omega arith) (omega arith)
          (alone_is N K types e (1 + lo + numbers c + numbers t) None look_e asked w3 h h' ms ms' (free_part w3 (omega arith) (omega arith) (free_apart o (inr (omega arith)) f2)) (here_on g here) (losses_on g l2)) (λ w4 d d' os os' g4 o4 l4 s4 r.
          done w4 (grows_not w4) (only_these w4 _ _) (loses_all l4 (losses_on g4 l3)) (λ k. since_either (since_grows g4 (s k)) (s4 k)) (unite_is (value_on (avoiding_less g4 (λ c k. k)) (held_value q)) (held_value r))))

  -- ---- the walk

  mutual
    unfolding looked All_look operated

    pub looked_is : (e : FlatTerm) (lo : ℕ) (x : Option Stars) → Looks N K types e lo x
    looked_is (Use r at k) lo x = use_is_alike r at k lo x
    looked_is (Apply f e) lo x = apply_is_alike f e lo x (looked_is f (1 + lo) None) (λ y. looked_is e (1 + lo + numbers f) y)
    looked_is (Let b v e) lo x = let_is_alike b v e lo x (looked_is v (value_node with_alias N K types b.pattern lo) None) (looked_is e (value_node with_alias N K types b.pattern lo + numbers v) x)
    looked_is (If c t e) lo x = if_is_alike c t e lo x (looked_is c (1 + lo) None) (looked_is t (1 + lo + numbers c) None) (looked_is e (1 + lo + numbers c + numbers t) None)
    looked_is (Lambda ps e) lo x = lambda_is_alike N K types ps e lo x (looked_is e (body_node with_alias N K types ps lo) (body_wanted with_alias N K types ps e lo x))
    looked_is (Loop mark sizes p first turns body) lo x = loop_is_alike N K types mark sizes p first turns body lo x (looked_is first (value_node with_alias N K types p lo) None) (turns_look turns (turns_node with_alias N K types p first lo)) (looked_is body (turn_node with_alias N K types p first turns lo) None)
    looked_is (Strict (Integer c k) mark ts) lo x = operated_is (Integer c k) mark ts lo x (all_looked_is ts (lo + own_of (Integer c k)) (wanted_part with_alias N K types (Integer c k) lo x) 0)
    looked_is (Strict (Truth b) mark ts) lo x = operated_is (Truth b) mark ts lo x (all_looked_is ts (lo + own_of (Truth b)) (wanted_part with_alias N K types (Truth b) lo x) 0)
    looked_is (Strict Tuple_of mark ts) lo x = operated_is Tuple_of mark ts lo x (all_looked_is ts (lo + own_of Tuple_of) (wanted_part with_alias N K types Tuple_of lo x) 0)
    looked_is (Strict (Record_of fs) mark ts) lo x = operated_is (Record_of fs) mark ts lo x (all_looked_is ts (lo + own_of (Record_of fs)) (wanted_part with_alias N K types (Record_of fs) lo x) 0)
    looked_is (Strict Array_of mark ts) lo x = operated_is Array_of mark ts lo x (all_looked_is ts (lo + own_of Array_of) (wanted_part with_alias N K types Array_of lo x) 0)
    looked_is (Strict (Binary op) mark ts) lo x = operated_is (Binary op) mark ts lo x (all_looked_is ts (lo + own_of (Binary op)) (wanted_part with_alias N K types (Binary op) lo x) 0)
    looked_is (Strict Negate mark ts) lo x = operated_is Negate mark ts lo x (all_looked_is ts (lo + own_of Negate) (wanted_part with_alias N K types Negate lo x) 0)
    looked_is (Strict Complement mark ts) lo x = operated_is Complement mark ts lo x (all_looked_is ts (lo + own_of Complement) (wanted_part with_alias N K types Complement lo x) 0)
    looked_is (Strict (Index is) mark ts) lo x = operated_is (Index is) mark ts lo x (all_looked_is ts (lo + own_of (Index is)) (wanted_part with_alias N K types (Index is) lo x) 0)
    looked_is (Strict Update mark ts) lo x = operated_is Update mark ts lo x (all_looked_is ts (lo + own_of Update) (wanted_part with_alias N K types Update lo x) 0)
    looked_is (Strict (Replace f) mark ts) lo x = operated_is (Replace f) mark ts lo x (all_looked_is ts (lo + own_of (Replace f)) (wanted_part with_alias N K types (Replace f) lo x) 0)
    looked_is (Strict (Ascribe d) mark ts) lo x = operated_is (Ascribe d) mark ts lo x (all_looked_is ts (lo + own_of (Ascribe d)) (wanted_part with_alias N K types (Ascribe d) lo x) 0)
    looked_is (Strict (Coerce d) mark ts) lo x = operated_is (Coerce d) mark ts lo x (all_looked_is ts (lo + own_of (Coerce d)) (wanted_part with_alias N K types (Coerce d) lo x) 0)
    looked_is (Strict Assert mark ts) lo x = operated_is Assert mark ts lo x (all_looked_is ts (lo + own_of Assert) (wanted_part with_alias N K types Assert lo x) 0)
    looked_is (Strict (Range stepped end) mark ts) lo x = operated_is (Range stepped end) mark ts lo x (all_looked_is ts (lo + own_of (Range stepped end)) (wanted_part with_alias N K types (Range stepped end) lo x) 0)
    looked_is (Strict (Project f) mark no_term) lo x = operated_is (Project f) mark no_term lo x (all_looked_is no_term (lo + own_of (Project f)) (wanted_part with_alias N K types (Project f) lo x) 0)
    looked_is (Strict (Project f) mark (term_and t no_term)) lo x = project_is_alike f mark t lo x (looked_is t (2 + lo) None)
    looked_is (Strict (Project f) mark (term_and t (term_and u ts))) lo x = operated_is (Project f) mark (term_and t (term_and u ts)) lo x (all_looked_is (term_and t (term_and u ts)) (lo + own_of (Project f)) (wanted_part with_alias N K types (Project f) lo x) 0)
    looked_is (Strict (Declared d) mark no_term) lo x = operated_is (Declared d) mark no_term lo x (all_looked_is no_term (lo + own_of (Declared d)) (wanted_part with_alias N K types (Declared d) lo x) 0)
    looked_is (Strict (Declared d) mark (term_and t no_term)) lo x = declared_is_alike d mark t lo x (λ y. looked_is t (1 + lo) y)
    looked_is (Strict (Declared d) mark (term_and t (term_and u ts))) lo x = operated_is (Declared d) mark (term_and t (term_and u ts)) lo x (all_looked_is (term_and t (term_and u ts)) (lo + own_of (Declared d)) (wanted_part with_alias N K types (Declared d) lo x) 0)

    all_looked_is : (ts : Terms Ref BindId) (lo : ℕ) (x : ℕ → Option Stars) (i : ℕ) → All_look ts lo x i
    all_looked_is no_term lo x i = no_more lo x i
    all_looked_is (term_and t ts) lo x i = one_more t ts lo x i (looked_is t lo (x i)) (all_looked_is ts (lo + numbers t) x (suc i))

    turns_look : (turns : FlatTurns) (lo : ℕ) → Turns_look N K types turns lo
    turns_look (Counted i m) lo = looked_is m (1 + lo) None
    turns_look (Over p e) lo = looked_is e (lo + pattern_numbers p) None
    turns_look (While c) lo = looked_is c lo None
