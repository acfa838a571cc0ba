-- Two typings of a term, one with the own types of parameters and one with what is chosen for them, give a third: of each
-- reading of the types that are lifted from them, if it leaves the types of the parameters that the term declares as they are.
use Rattle.std.proofs.Common.{◌≡◌, ℕ, ◌+◌, ◌≤◌, ◌<◌, refl, sym, ◌∙◌, ap, subst, arith, Bool, true, false, List, [], ◌∷◌, Some}
use mathlib.Core.Logic.{inl, inr}
use Rattle.fut_scalar.specs.declared.place.BindId.{BindId}
use Rattle.fut_flat.specs.declared.prim.Ref.{Ref}
use Rattle.fut_flat.specs.Terms.{Patterns, Parameter, Size_parameter, Type_parameter, Operation, Use, Strict, Lambda, Apply, Let, If, Loop, Terms, no_term, term_and, Counted, Over, While}
use Rattle.fut_flat.specs.Numbers.{pattern_numbers, all_pattern_numbers, own_numbers, numbers, turn_numbers}
use Rattle.fut_flat.specs.Erased.{FlatTerm, FlatTurns}
use Rattle.fut_types.specs.declared.Kind.{Kind}
use Rattle.fut_types.specs.declared.Kind.TheVariants as kind
use Rattle.fut_types.specs.declared.Head.TheVariants as head
use Rattle.fut_types.specs.Types.{Ty, Var, Made, none, Sub, Kinds}
use Rattle.fut_typing.specs.Names.{Names}
use Rattle.fut_typing.specs.Scopes.{Uses, Scope, with_sizes, the_one}
use Rattle.fut_typing.specs.Rules.{Rule}
use Rattle.fut_typing.specs.Patterns.{arrows, pattern_types, with_pattern, with_patterns, with_parameters}
use Rattle.fut_typing.specs.Free.{is_within}
use Rattle.fut_typing.specs.Generalised.{parameter_kind, Suits, own_types, Scheme, Variant, Reused, Generalised}
use Rattle.fut_typing.specs.Typing.{FlatBinding, term_types, operand, Function_name, with_turns, let_scheme, Let_typed, let_uses, with_let, Typed, All_typed, Turns_typed}
use Rattle.fut_typing.specs.Program.{Defined, definition_scheme, Definitions_typed}
use Rattle.fut_typing.specs.Declared.{Is_parameter, Declares, Some_declare, Turns_declare, Parameter_in}
use Rattle.fut_typing.proofs.Ranges.{within_yes}
use Rattle.fut_typing.proofs.Local.{AllLocal, local_parameters, local_all_ones}
use Rattle.fut_typing.proofs.Cong.{mixed, mixed_free, mixed_outside, Depends, within_no}
use Rattle.fut_typing.proofs.Programs.{definition_depends}
use Rattle.fut_typing.proofs.Locals.{up_to, let_depends, body_local, carried_local, turned_local}
use Rattle.fut_typing.proofs.Exact.{behind_local}
use Rattle.fut_typing.proofs.Readings.{Reading, image, Suited, read_kind, Extends, extends_more, extends_self, limit, read_same, plain}
unfoldable use Rattle.fut_typing.proofs.Readings.{read, read_all}
use Rattle.fut_typing.proofs.Follows.{read_arrows, read_patterns, read_array, rule_follows}
use Rattle.fut_typing.proofs.Instances.{parameter_limit, limit_below, below_limit, chosen_limit, chosen_below, kind_for, raised, raised_suited, raised_extends, new_suit, new_read, parameter_below, own_rigid, Good, good_more}
unfoldable use Rattle.fut_typing.proofs.Instances.{new_types}
use Rattle.fut_typing.proofs.Typings.{read_terms}
use Rattle.typing_laws.proofs.Lifted.{lifted_own, lifted_other, lifted_new}
unfoldable use Rattle.typing_laws.proofs.Lifted.{lifted, all_lifted}
use Rattle.typing_laws.proofs.Pairs as pairs
use Rattle.typing_laws.proofs.Joins as joins

module _ (N : Names) (places : Kind) (ps : List (Parameter BindId)) (c : Sub) (F0 G : ℕ) (over : F0 ≤ G) (wide : parameter_limit ps ≤ G) (one_label : (l l' i : ℕ) → N.shapes.position l ≡ Some i → N.shapes.position l' ≡ Some i → l ≡ l') (K : Kinds)
    (D : ℕ → Type 0) (low : (n : ℕ) → D n → n < F0) (apart : (n : ℕ) → D n → Is_parameter ps n → ⊥) where
  abbrev pub lift : Ty → Ty → Ty
  lift = pairs.lift N places ps c F0 G over wide

  abbrev pub two : Sub → Sub → Sub
  two = pairs.two N places ps c F0 G over wide

  abbrev pub Uses_join : Reading → ℕ → Uses → Uses → Uses → Type 0
  Uses_join = joins.Uses_join N places ps c F0 G over wide one_label K

  abbrev pub Joins : Reading → ℕ → Scope → Scope → Scope → Type 0
  Joins = joins.Joins N places ps c F0 G over wide one_label K

  abbrev pub Good_for : Reading → ℕ → Type 0
  Good_for = Good places K K D F0 low

  -- ---- what is chosen for the parameters of definitions
  abbrev pub Chosen : List (Parameter BindId) → Sub → Sub → Sub → Reading → ℕ → Type 0
  Chosen qs x y z J H = (n : ℕ) → Is_parameter qs n → (L : Reading) → Extends H J L → read L (lift (x n) (y n)) ≡ z n

  chosen_read : (qs : List (Parameter BindId)) (x y : Sub) (J : Reading) (H : ℕ) → chosen_limit (two x y) qs ≤ H → Chosen qs x y (image J (two x y)) J H
  chosen_read qs x y J H le n i L e = let z : limit (lift (x n) (y n)) ≤ chosen_limit (two x y) qs = chosen_below (two x y) qs n i in read_same H J L e (lift (x n) (y n)) (omega arith)

  pub chosen_own : (qs : List (Parameter BindId)) (I : Reading) (F : ℕ) → Good_for I F → ((n : ℕ) → Is_parameter qs n → D n) → Chosen qs (own_types places qs) (own_types places qs) (own_types places qs) I F
  unfolding read
  chosen_own qs I F g into n i L e =
      let w = own_rigid places qs n i in let d : D n = into n i in let lt : n < F0 = low n d in let more : F0 ≤ F = g.over in
      (λ j. read L (lift (w.1 j) (w.1 j))) ∙ ap (read L) (lifted_other N.shapes places ps c F0 G over wide n w.0 lt (apart n d)) ∙ e.own n w.0 (omega arith) ∙ g.plain n w.0 d ∙ sym w.1

  -- the parameters' own types are lifted to themselves, by each reading that leaves them as they are
  pub own_chosen : (I : Reading) (F : ℕ) → Extends G (plain (λ n. Var n)) I → G ≤ F → Chosen ps (own_types places ps) c (own_types places ps) I F
  unfolding read
  own_chosen I F ground le n i L e = let w = own_rigid places ps n i in let lt : n < parameter_limit ps = parameter_below ps n i in
      ap (read L) (lifted_own N.shapes places ps c F0 G over wide n i) ∙ ap (read L) w.1 ∙ (extends_more G F (plain (λ n. Var n)) I L le ground e).own n w.0 (omega arith) ∙ sym w.1

  suits_two : (qs : List (Parameter BindId)) (I : Reading) (x y : Sub) → Suited K K I → Suits places K x qs → Suits places K y qs → Suits places K (image I (two x y)) qs
  suits_two [] I x y suited h h' = h
  suits_two (Size_parameter b ∷ qs) I x y suited h h' = suits_two qs I x y suited h h'
  suits_two (Type_parameter b l ∷ qs) I x y suited h h' = (read_kind K K I suited (parameter_kind places l) (lift (x b.0) (y b.0)) (pairs.lift_kind N places ps c F0 G over wide K (parameter_kind places l) (x b.0) (y b.0) h.0 h'.0), suits_two qs I x y suited h.1 h'.1)

  -- new types are lifted to new ones
  new_lifted : (qs : List (Parameter BindId)) (from : ℕ) (I : Reading) (z : Sub) (n : ℕ) → G ≤ from → lift (new_types places qs from I z n) (new_types places qs from I z n) ≡ new_types places qs (from + G) I z n
  unfolding new_types
  new_lifted qs from I z n le = lifted_new N.shapes places ps c F0 G over wide (from + n) (kind_for places qs n) (omega arith) ∙ ap (λ m. Made (head.Rigid m (kind_for places qs n)) none) (let e : from + n + G ≡ from + G + n = omega arith in e)

  -- ---- definitions
  module _ (I : Reading) (F : ℕ) (good : Good_for I F) (qs : List (Parameter BindId)) (first many : ℕ) (free : ℕ → Bool) (left right typed : Sub → Kinds → Sub → Type 0)
      (dep : Depends (λ n. n < first) (record { parameters = qs; first = first; many = many; free = free; typed = typed }))
      (move : (x y z : Sub) (J : Reading) (H : ℕ) → Good_for J H → F ≤ H → Extends F I J → Chosen qs x y z J H → (a b : Sub) → left x K a → right y K b → typed z K (image J (two a b))) where
    abbrev pub ls : Scheme
    ls = record { parameters = qs; first = first; many = many; free = free; typed = left }

    abbrev pub rs : Scheme
    rs = record { parameters = qs; first = first; many = many; free = free; typed = right }

    abbrev pub s : Scheme
    s = record { parameters = qs; first = first; many = many; free = free; typed = typed }

    pub reused_joins : (at : ℕ) → Uses_join I F (Reused places ls at) (Reused places rs at) (Reused places s at)
    reused_joins at J suited e a b t t' u u' =
        let x : Sub = u.0 in let y : Sub = u'.0 in let v = u.2.0 in let v' = u'.2.0 in let H : ℕ = F + chosen_limit (two x y) qs in (
          image J (two x y),
          suits_two qs J x y suited u.1 u'.1,
          (
            record {
              other = image J (two v.other v'.other);
              outside = λ n out. joins.equal N places ps c F0 G over wide one_label K J (v.other n) (a n) (v'.other n) (b n) (v.outside n out) (v'.outside n out);
              kept = λ n p q f. joins.equal N places ps c F0 G over wide one_label K J (v.other n) (a n) (v'.other n) (b n) (v.kept n p q f) (v'.kept n p q f);
              typed = move x y (image J (two x y)) J H (good_more places K K D F0 low I J F H good suited e (omega arith)) (omega arith) e (chosen_read qs x y J H (omega arith)) v.other v'.other v.typed v'.typed;
            },
            joins.equal N places ps c F0 G over wide one_label K J t (v.other at) t' (v'.other at) u.2.1 u'.2.1,
          ),
        )

    pub generalised_joins : (a b : Sub) → typed (own_types places qs) K (image I (two a b)) → ((x : Sub) → Suits places K x qs → Variant ls x K a) → ((x : Sub) → Suits places K x qs → Variant rs x K b) → Generalised places s K (image I (two a b))
    generalised_joins a b h g g' = (h, λ z suits. variant z suits)
      where
        variant : (z : Sub) → Suits places K z qs → Variant s z K (image I (two a b))
        variant z suits =
            let from : ℕ = F + G + limit_below (two a b) (first + many) in
            let H : ℕ = from + G + parameter_limit qs in
            let J : Reading = raised places qs (from + G) I z in
            let suited : Suited K K J = raised_suited places qs (from + G) I z K K good.suited suits in
            let e : Extends F I J = raised_extends places qs (from + G) I z F (omega arith) in
            let high : Extends from I J = raised_extends places qs (from + G) I z from (omega arith) in
            let new : Sub = new_types places qs from I z in
            let v : Variant ls new K a = g new (new_suit places qs from I z K) in
            let v' : Variant rs new K b = g' new (new_suit places qs from I z K) in
            let old : (n : ℕ) → n < first + many → read J (two a b n) ≡ read I (two a b n) = λ n lt. (let y : limit (two a b n) ≤ limit_below (two a b) (first + many) = below_limit (two a b) (first + many) n lt in read_same from I J high (two a b n) (omega arith)) in
            let inside : ℕ → Bool = is_within first many in record {
              other = mixed inside (λ n. true) (image J (two v.other v'.other)) (image I (two a b));
              outside = λ n out. mixed_outside inside (λ n. true) (image J (two v.other v'.other)) (image I (two a b)) n (within_no first many n out);
              kept = λ n p q f. mixed_free inside (λ n. true) (image J (two v.other v'.other)) (image I (two a b)) n (within_yes first many n p q) refl ∙ joins.equal N places ps c F0 G over wide one_label K J (v.other n) (a n) (v'.other n) (b n) (v.kept n p q f) (v'.kept n p q f) ∙ old n q;
              typed = dep z K (image J (two v.other v'.other)) (mixed inside (λ n. true) (image J (two v.other v'.other)) (image I (two a b)))
                  (λ n. elim [
                    | inl lt ↦ joins.equal N places ps c F0 G over wide one_label K J (v.other n) (a n) (v'.other n) (b n) (v.outside n (inl lt)) (v'.outside n (inl lt)) ∙ old n (omega arith) ∙ sym (mixed_outside inside (λ n. true) (image J (two v.other v'.other)) (image I (two a b)) n (within_no first many n (inl lt)))
                    | inr i ↦ sym (mixed_free inside (λ n. true) (image J (two v.other v'.other)) (image I (two a b)) n (within_yes first many n i.0 i.1) refl)
                  ])
                  (move new new z J H (good_more places K K D F0 low I J F H good suited e (omega arith)) (omega arith) e
                  (λ n i L f. let y : n < parameter_limit qs = parameter_below qs n i in ap (read L) (new_lifted qs from I z n (omega arith)) ∙ new_read places qs (from + G) I z H L n (omega arith) f) v.other v'.other v.typed v'.typed);
            }

  -- ---- terms
  let_joins : (f : Bool) (named : Type 0) (l r s : Scheme) (a b z : Sub) → (l.typed (own_types places l.parameters) K a → r.typed (own_types places r.parameters) K b → s.typed (own_types places s.parameters) K z) → (Generalised places l K a → Generalised places r K b → Generalised places s K z)
      → Let_typed N places f named l K a → Let_typed N places f named r K b → Let_typed N places f named s K z
  let_joins true named l r s a b z typed all h h' = (h.0, all h.1 h'.1)
  let_joins false named l r s a b z typed all h h' = typed h h'

  let_uses_join : (I : Reading) (F : ℕ) (f : Bool) (l r s : Scheme) (at : ℕ) → Uses_join I F (Reused places l at) (Reused places r at) (Reused places s at) → Uses_join I F (let_uses N places f l at) (let_uses N places f r at) (let_uses N places f s at)
  let_uses_join I F true l r s at h = h
  let_uses_join I F false l r s at h = joins.one_joins N places ps c F0 G over wide one_label K I F at

  -- ---- operations and functions
  pub operation_both : (o : Operation Ref BindId) (ts : Terms Ref BindId) (lo : ℕ) (I : Reading) → Suited K K I → (a b : Sub) → Rule N places K o (a lo) (a (operand o lo)) (term_types a ts (lo + own_numbers o)) → Rule N places K o (b lo) (b (operand o lo)) (term_types b ts (lo + own_numbers o))
      → Rule N places K o (read I (lift (a lo) (b lo))) (read I (lift (a (operand o lo)) (b (operand o lo)))) (term_types (image I (two a b)) ts (lo + own_numbers o))
  operation_both o ts lo I suited a b h h' = subst (Rule N places K o (read I (lift (a lo) (b lo))) (read I (lift (a (operand o lo)) (b (operand o lo))))) (sym (read_terms I (two a b) ts (lo + own_numbers o)))
      (rule_follows N places K K I suited o (lift (a lo) (b lo)) (lift (a (operand o lo)) (b (operand o lo))) (term_types (two a b) ts (lo + own_numbers o))
      (pairs.lift_rule N places ps c F0 G over wide K one_label a b o ts (lo + own_numbers o) (a lo) (a (operand o lo)) (b lo) (b (operand o lo)) h h'))

  pub function_both : (qs : Patterns Ref BindId) (lo at : ℕ) (I : Reading) (a b : Sub) → a lo ≡ arrows (pattern_types a qs (1 + lo)) (a at) → b lo ≡ arrows (pattern_types b qs (1 + lo)) (b at)
      → read I (lift (a lo) (b lo)) ≡ arrows (pattern_types (image I (two a b)) qs (1 + lo)) (read I (lift (a at) (b at)))
  function_both qs lo at I a b h h' = joins.equal N places ps c F0 G over wide one_label K I (a lo) _ (b lo) _ h h' ∙ ap (read I) (pairs.lift_arrows N places ps c F0 G over wide a b qs (1 + lo) (a at) (b at)) ∙ read_arrows I (pattern_types (two a b) qs (1 + lo)) (lift (a at) (b at)) ∙ ap (λ ts. arrows ts (read I (lift (a at) (b at)))) (sym (read_patterns I (two a b) qs (1 + lo)))

  -- ---- lets
  module _ (d : FlatBinding) (v : FlatTerm) (lo : ℕ) (I : Reading) (F : ℕ) (l r s : Scope) where
    abbrev pub let_of : Scope → Scheme
    let_of q = let_scheme N places d v lo q (Typed N places v (1 + lo + pattern_numbers d.pattern))

    -- what is lifted from its value's typings is lifted from its own
    pub let_move : Joins I F l r s
        → ((x y z : Sub) (J : Reading) (H : ℕ) → Good_for J H → Joins J H (with_parameters d.parameters x l) (with_parameters d.parameters y r) (with_parameters d.parameters z s) → (a b : Sub)
        → Typed N places v (1 + lo + pattern_numbers d.pattern) (with_parameters d.parameters x l) K a → Typed N places v (1 + lo + pattern_numbers d.pattern) (with_parameters d.parameters y r) K b → Typed N places v (1 + lo + pattern_numbers d.pattern) (with_parameters d.parameters z s) K (image J (two a b)))
        → (x y z : Sub) (J : Reading) (H : ℕ) → Good_for J H → F ≤ H → Extends F I J → Chosen d.parameters x y z J H → (a b : Sub) → (let_of l).typed x K a → (let_of r).typed y K b → (let_of s).typed z K (image J (two a b))
    let_move j value x y z J H goodJ le ext chosen a b t t' = let further : Joins J H l r s = joins.joins_more N places ps c F0 G over wide one_label K I J F H l r s le ext j in (
      (
        joins.pattern_joins N places ps c F0 G over wide one_label K J goodJ.suited H d.pattern (1 + lo) (with_sizes d.sizes l) (with_sizes d.sizes r) (with_sizes d.sizes s) (joins.joins_sizes N places ps c F0 G over wide one_label K J H d.sizes l r s further) a b t.0.0 t'.0.0,
        value x y z J H goodJ (joins.joins_parameters N places ps c F0 G over wide one_label K J H d.parameters x y z l r s chosen further) a b t.0.1 t'.0.1,
      ),
      joins.equal N places ps c F0 G over wide one_label K J _ _ _ _ t.1 t'.1,
    )

    pub let_names : ((n : ℕ) → 1 + lo ≤ n → n < 1 + lo + pattern_numbers d.pattern → Uses_join I F (Reused places (let_of l) n) (Reused places (let_of r) n) (Reused places (let_of s) n)) → Joins I F l r s
        → Joins I F (with_let N places d lo l (let_of l)) (with_let N places d lo r (let_of r)) (with_let N places d lo s (let_of s))
    let_names used j = joins.joins_pattern N places ps c F0 G over wide one_label K I F (let_uses N places d.is_function (let_of l)) (let_uses N places d.is_function (let_of r)) (let_uses N places d.is_function (let_of s)) d.pattern (1 + lo) (with_sizes d.sizes l) (with_sizes d.sizes r) (with_sizes d.sizes s)
        (λ n p q. let_uses_join I F d.is_function (let_of l) (let_of r) (let_of s) n (used n p q)) (joins.joins_sizes N places ps c F0 G over wide one_label K I F d.sizes l r s j)

    module _ (good : Good_for I F) (local : AllLocal (λ n. n < lo) s) (right : Sub → Kinds → Sub → Type 0)
        (move : (x y z : Sub) (J : Reading) (H : ℕ) → Good_for J H → F ≤ H → Extends F I J → Chosen d.parameters x y z J H → (a b : Sub) → (let_of l).typed x K a → right y K b → (let_of s).typed z K (image J (two a b))) where
      abbrev pub right_of : Scheme
      right_of = record { parameters = d.parameters; first = 1 + lo; many = pattern_numbers d.pattern + numbers v; free = (let_of s).free; typed = right }

      pub let_used : (n : ℕ) → Uses_join I F (Reused places (let_of l) n) (Reused places right_of n) (Reused places (let_of s) n)
      let_used = reused_joins I F good d.parameters (1 + lo) (pattern_numbers d.pattern + numbers v) (let_of s).free (let_of l).typed right (let_of s).typed (let_depends N places (λ n. n < 1 + lo) d v lo s (up_to N places lo (1 + lo) s (omega arith) local)) move

      pub let_pair : ((n : ℕ) → Is_parameter d.parameters n → D n) → (a b : Sub) → Let_typed N places d.is_function (Function_name d.sizes d.pattern) (let_of l) K a → Let_typed N places d.is_function (Function_name d.sizes d.pattern) right_of K b → Let_typed N places d.is_function (Function_name d.sizes d.pattern) (let_of s) K (image I (two a b))
      let_pair into a b =
          let own = move (own_types places d.parameters) (own_types places d.parameters) (own_types places d.parameters) I F good (omega arith) (extends_self F I) (chosen_own d.parameters I F good into) a b in
          let_joins d.is_function (Function_name d.sizes d.pattern) (let_of l) right_of (let_of s) a b (image I (two a b)) own
          (λ x y. generalised_joins I F good d.parameters (1 + lo) (pattern_numbers d.pattern + numbers v) (let_of s).free (let_of l).typed right (let_of s).typed (let_depends N places (λ n. n < 1 + lo) d v lo s (up_to N places lo (1 + lo) s (omega arith) local)) move a b (own x.0 y.0) x.1 y.1)

  mutual
    unfolding read lifted

    pub both : (t : FlatTerm) (lo : ℕ) (I : Reading) (F : ℕ) → Good_for I F → ((n : ℕ) → Declares t n → D n) → (l r s : Scope) → AllLocal (λ n. n < lo) s → Joins I F l r s → (a b : Sub) → Typed N places t lo l K a → Typed N places t lo r K b → Typed N places t lo s K (image I (two a b))
    both (Use x at k) lo I F good few l r s local j a b h h' = joins.used_joins N places ps c F0 G over wide one_label K I good.suited F l r s j a b x (a lo) (b lo) h h'
    both (Strict o mark ts) lo I F good few l r s local j a b h h' = (
      all_both ts (lo + own_numbers o) I F good few l r s (up_to N places lo (lo + own_numbers o) s (omega arith) local) j a b h.0 h'.0,
      operation_both o ts lo I good.suited a b h.1 h'.1,
      joins.written_joins N places ps c F0 G over wide one_label K I good.suited F o l r s j a b (a lo) (b lo) h.2 h'.2,
    )
    both (Lambda qs e) lo I F good few l r s local j a b h h' = let at : ℕ = 1 + lo + all_pattern_numbers qs in (
      (
        joins.parameters_join N places ps c F0 G over wide one_label K I good.suited F qs (1 + lo) l r s j a b h.0.0 h'.0.0,
        both e at I F good few (with_patterns the_one qs (1 + lo) l) (with_patterns the_one qs (1 + lo) r) (with_patterns the_one qs (1 + lo) s) (local_all_ones (λ n. n < at) qs (1 + lo) s (λ n p q. q) (up_to N places lo at s (omega arith) local)) (joins.joins_all_ones N places ps c F0 G over wide one_label K I F qs (1 + lo) l r s j) a b h.0.1 h'.0.1,
      ),
      function_both qs lo at I a b h.1 h'.1,
    )
    both (Apply g e) lo I F good few l r s local j a b h h' = (
      (
        both g (1 + lo) I F good (λ n i. few n (inl i)) l r s (up_to N places lo (1 + lo) s (omega arith) local) j a b h.0.0 h'.0.0,
        both e (1 + lo + numbers g) I F good (λ n i. few n (inr i)) l r s (up_to N places lo (1 + lo + numbers g) s (omega arith) local) j a b h.0.1 h'.0.1,
      ),
      joins.equal N places ps c F0 G over wide one_label K I _ _ _ _ h.1 h'.1,
    )
    both (Let d v e) lo I F good few l r s local j a b h h' =
        let at : ℕ = 1 + lo + pattern_numbers d.pattern in
        let move = let_move d v lo I F l r s j (λ x y z J H goodJ more a b. both v at J H goodJ (λ n i. few n (inr (inl i))) (with_parameters d.parameters x l) (with_parameters d.parameters y r) (with_parameters d.parameters z s) (local_parameters (λ n. n < at) d.parameters z s (up_to N places lo at s (omega arith) local)) more a b) in
        let right : Sub → Kinds → Sub → Type 0 = (let_of d v lo I F l r s r).typed in (
          (
            let_pair d v lo I F l r s good local right move (λ n i. few n (inl i)) a b h.0.0 h'.0.0,
            both e (at + numbers v) I F good (λ n i. few n (inr (inr i))) (with_let N places d lo l (let_of d v lo I F l r s l)) (with_let N places d lo r (let_of d v lo I F l r s r)) (with_let N places d lo s (let_of d v lo I F l r s s))
                (body_local N places (λ n. n < at + numbers v) d v lo s (up_to N places lo (at + numbers v) s (omega arith) local) (λ n e k. let k1 : n < 1 + lo + (pattern_numbers d.pattern + numbers v) = k.0.1 in omega arith) (λ n e p q. omega arith))
                (let_names d v lo I F l r s (λ n p q. let_used d v lo I F l r s good local right move n) j) a b h.0.1 h'.0.1,
          ),
          joins.equal N places ps c F0 G over wide one_label K I _ _ _ _ h.1 h'.1,
        )
    both (If x t e) lo I F good few l r s local j a b h h' = (
      (
        (
          both x (1 + lo) I F good (λ n i. few n (inl i)) l r s (up_to N places lo (1 + lo) s (omega arith) local) j a b h.0.0.0 h'.0.0.0,
          both t (1 + lo + numbers x) I F good (λ n i. few n (inr (inl i))) l r s (up_to N places lo (1 + lo + numbers x) s (omega arith) local) j a b h.0.0.1 h'.0.0.1,
        ),
        both e (1 + lo + numbers x + numbers t) I F good (λ n i. few n (inr (inr i))) l r s (up_to N places lo (1 + lo + numbers x + numbers t) s (omega arith) local) j a b h.0.1 h'.0.1,
      ),
      joins.equal N places ps c F0 G over wide one_label K I _ _ _ _ h.1 h'.1,
      joins.equal N places ps c F0 G over wide one_label K I _ _ _ _ h.2 h'.2,
      joins.equal N places ps c F0 G over wide one_label K I _ _ _ _ h.3 h'.3,
      read_kind K K I good.suited places (lift (a lo) (b lo)) (pairs.lift_kind N places ps c F0 G over wide K places (a lo) (b lo) h.4 h'.4),
    )
    both (Loop mark sizes p first turns body) lo I F good few l r s local j a b h h' =
        let at_first : ℕ = 1 + lo + pattern_numbers p in
        let at_turns : ℕ = at_first + numbers first in
        let at_body : ℕ = at_turns + turn_numbers turns in
        let li : Scope = with_pattern the_one p (1 + lo) (with_sizes sizes l) in
        let ri : Scope = with_pattern the_one p (1 + lo) (with_sizes sizes r) in
        let si : Scope = with_pattern the_one p (1 + lo) (with_sizes sizes s) in
        let sized : Joins I F (with_sizes sizes l) (with_sizes sizes r) (with_sizes sizes s) = joins.joins_sizes N places ps c F0 G over wide one_label K I F sizes l r s j in
        let carried : Joins I F li ri si = joins.joins_ones N places ps c F0 G over wide one_label K I F p (1 + lo) (with_sizes sizes l) (with_sizes sizes r) (with_sizes sizes s) sized in (
          (
            (
              (
                (
                  joins.pattern_joins N places ps c F0 G over wide one_label K I good.suited F p (1 + lo) (with_sizes sizes l) (with_sizes sizes r) (with_sizes sizes s) sized a b h.0.0.0.0.0 h'.0.0.0.0.0,
                  both first at_first I F good (λ n i. few n (inl i)) l r s (up_to N places lo at_first s (omega arith) local) j a b h.0.0.0.0.1 h'.0.0.0.0.1,
                ),
                joins.equal N places ps c F0 G over wide one_label K I _ _ _ _ h.0.0.0.1 h'.0.0.0.1,
              ),
              turns_both turns at_turns I F good (λ n i. few n (inr (inl i))) l r s li ri si (up_to N places lo at_turns s (omega arith) local) (carried_local N places mark sizes p first turns body lo s local (λ n. n < at_turns) (λ n lt. omega arith)) j carried a b h.0.0.1 h'.0.0.1,
            ),
            both body at_body I F good (λ n i. few n (inr (inr i))) (with_turns turns at_turns li) (with_turns turns at_turns ri) (with_turns turns at_turns si) (turned_local N places mark sizes p first turns body lo s local (λ n. n < at_body) (λ n lt. lt)) (joins.joins_turns N places ps c F0 G over wide one_label K I F turns at_turns li ri si carried) a b h.0.1 h'.0.1,
          ),
          joins.equal N places ps c F0 G over wide one_label K I _ _ _ _ h.1 h'.1,
          joins.equal N places ps c F0 G over wide one_label K I _ _ _ _ h.2 h'.2,
          read_kind K K I good.suited places (lift (a lo) (b lo)) (pairs.lift_kind N places ps c F0 G over wide K places (a lo) (b lo) h.3 h'.3),
        )

    pub all_both : (ts : Terms Ref BindId) (lo : ℕ) (I : Reading) (F : ℕ) → Good_for I F → ((n : ℕ) → Some_declare ts n → D n) → (l r s : Scope) → AllLocal (λ n. n < lo) s → Joins I F l r s → (a b : Sub) → All_typed N places ts lo l K a → All_typed N places ts lo r K b → All_typed N places ts lo s K (image I (two a b))
    all_both no_term lo I F good few l r s local j a b h h' = h
    all_both (term_and t ts) lo I F good few l r s local j a b h h' = (
      both t lo I F good (λ n i. few n (inl i)) l r s local j a b h.0 h'.0,
      all_both ts (lo + numbers t) I F good (λ n i. few n (inr i)) l r s (up_to N places lo (lo + numbers t) s (omega arith) local) j a b h.1 h'.1,
    )

    pub turns_both : (t : FlatTurns) (lo : ℕ) (I : Reading) (F : ℕ) → Good_for I F → ((n : ℕ) → Turns_declare t n → D n) → (l r s li ri si : Scope) → AllLocal (λ n. n < lo) s → AllLocal (λ n. n < lo) si → Joins I F l r s → Joins I F li ri si → (a b : Sub)
        → Turns_typed N places t lo l li K a → Turns_typed N places t lo r ri K b → Turns_typed N places t lo s si K (image I (two a b))
    turns_both (Counted i n) lo I F good few l r s li ri si local locali j ji a b h h' = (
      both n (1 + lo) I F good few l r s (up_to N places lo (1 + lo) s (omega arith) local) j a b h.0 h'.0,
      joins.equal N places ps c F0 G over wide one_label K I _ _ _ _ h.1 h'.1,
      read_kind K K I good.suited kind.Integer (lift (a lo) (b lo)) (pairs.lift_kind N places ps c F0 G over wide K kind.Integer (a lo) (b lo) h.2 h'.2),
    )
    turns_both (Over p e) lo I F good few l r s li ri si local locali j ji a b h h' = let at : ℕ = lo + pattern_numbers p in (
      (
        joins.pattern_joins N places ps c F0 G over wide one_label K I good.suited F p lo li ri si ji a b h.0.0 h'.0.0,
        both e at I F good few l r s (up_to N places lo at s (omega arith) local) j a b h.0.1 h'.0.1,
      ),
      read_array N places K K I good.suited (lift (a at) (b at)) (lift (a lo) (b lo)) (pairs.lift_array N places ps c F0 G over wide K (a at) (a lo) (b at) (b lo) h.1 h'.1),
    )
    turns_both (While t) lo I F good few l r s li ri si local locali j ji a b h h' = (both t lo I F good few li ri si locali ji a b h.0 h'.0, joins.equal N places ps c F0 G over wide one_label K I _ _ _ _ h.1 h'.1)

  -- ---- definitions of a program
  pub definition_both : (I : Reading) (F : ℕ) (d : Defined) (lo : ℕ) (l r s : Scope) → ((n : ℕ) → Declares d.value n → D n) → AllLocal (λ n. n < lo) s → Joins I F l r s
      → (x y z : Sub) (J : Reading) (H : ℕ) → Good_for J H → F ≤ H → Extends F I J → Chosen d.parameters x y z J H → (a b : Sub)
      → (definition_scheme N places d lo l).typed x K a → (definition_scheme N places d lo r).typed y K b → (definition_scheme N places d lo s).typed z K (image J (two a b))
  unfolding read lifted
  definition_both I F d lo l r s few local j x y z J H good le ext chosen a b t t' = let at : ℕ = lo + pattern_numbers d.name in let further : Joins J H l r s = joins.joins_more N places ps c F0 G over wide one_label K I J F H l r s le ext j in (
    (
      joins.pattern_joins N places ps c F0 G over wide one_label K J good.suited H d.name lo l r s further a b t.0.0 t'.0.0,
      both d.value at J H good few (with_parameters d.parameters x l) (with_parameters d.parameters y r) (with_parameters d.parameters z s) (local_parameters (λ n. n < at) d.parameters z s (up_to N places lo at s (omega arith) local))
          (joins.joins_parameters N places ps c F0 G over wide one_label K J H d.parameters x y z l r s chosen further) a b t.0.1 t'.0.1,
    ),
    joins.equal N places ps c F0 G over wide one_label K J _ _ _ _ t.1 t'.1,
  )

  module _ (I : Reading) (F : ℕ) (good : Good_for I F) where
    pub definition_used : (d : Defined) (lo : ℕ) (l r s : Scope) → ((n : ℕ) → Declares d.value n → D n) → AllLocal (λ n. n < lo) s → Joins I F l r s
        → (n : ℕ) → Uses_join I F (Reused places (definition_scheme N places d lo l) n) (Reused places (definition_scheme N places d lo r) n) (Reused places (definition_scheme N places d lo s) n)
    definition_used d lo l r s few local j =
        let ls : Scheme = definition_scheme N places d lo l in
        let rs : Scheme = definition_scheme N places d lo r in
        let ss : Scheme = definition_scheme N places d lo s in
        reused_joins I F good d.parameters lo (pattern_numbers d.name + numbers d.value) ss.free ls.typed rs.typed ss.typed (definition_depends N places (λ n. n < lo) d lo s local) (definition_both I F d lo l r s few local j)

    pub behind_joins : (d : Defined) (lo : ℕ) (l r s : Scope) → ((n : ℕ) → Declares d.value n → D n) → AllLocal (λ n. n < lo) s → Joins I F l r s
        → Joins I F (with_pattern (Reused places (definition_scheme N places d lo l)) d.name lo l) (with_pattern (Reused places (definition_scheme N places d lo r)) d.name lo r) (with_pattern (Reused places (definition_scheme N places d lo s)) d.name lo s)
    behind_joins d lo l r s few local j = joins.joins_pattern N places ps c F0 G over wide one_label K I F (Reused places (definition_scheme N places d lo l)) (Reused places (definition_scheme N places d lo r)) (Reused places (definition_scheme N places d lo s)) d.name lo l r s
        (λ n p q. definition_used d lo l r s few local j n) j

    -- where its parameters are given so, it is generalised
    pub definition_joins : (d : Defined) (lo : ℕ) (l r s : Scope) → ((n : ℕ) → Declares d.value n → D n) → AllLocal (λ n. n < lo) s → Joins I F l r s → (x y : Sub) → Chosen d.parameters x y (own_types places d.parameters) I F → (a b : Sub)
        → (definition_scheme N places d lo l).typed x K a → (definition_scheme N places d lo r).typed y K b → ((z : Sub) → Suits places K z d.parameters → Variant (definition_scheme N places d lo l) z K a) → ((z : Sub) → Suits places K z d.parameters → Variant (definition_scheme N places d lo r) z K b)
        → Generalised places (definition_scheme N places d lo s) K (image I (two a b))
    definition_joins d lo l r s few local j x y chosen a b t t' g g' =
        let ls : Scheme = definition_scheme N places d lo l in
        let rs : Scheme = definition_scheme N places d lo r in
        let ss : Scheme = definition_scheme N places d lo s in
        generalised_joins I F good d.parameters lo (pattern_numbers d.name + numbers d.value) ss.free ls.typed rs.typed ss.typed (definition_depends N places (λ n. n < lo) d lo s local) (definition_both I F d lo l r s few local j) a b
        (definition_both I F d lo l r s few local j x y (own_types places d.parameters) I F good (omega arith) (extends_self F I) chosen a b t t') g g'

    -- of definitions none of whose parameters is among those that are read otherwise
    pub definitions_both : (ds : List Defined) (lo : ℕ) (l r s : Scope) → ((n : ℕ) → Parameter_in ds n → D n) → AllLocal (λ n. n < lo) s → Joins I F l r s → (a b : Sub)
        → Definitions_typed N places ds lo l K a → Definitions_typed N places ds lo r K b → Definitions_typed N places ds lo s K (image I (two a b))
    definitions_both [] lo l r s few local j a b h h' = h
    definitions_both (d ∷ ds) lo l r s few local j a b h h' = let own : Sub = own_types places d.parameters in (
      definition_joins d lo l r s (λ n i. few n (inr (inl i))) local j own own (chosen_own d.parameters I F good (λ n i. few n (inl i))) a b h.0.0 h'.0.0 h.0.1 h'.0.1,
      definitions_both ds (lo + (pattern_numbers d.name + numbers d.value)) (with_pattern (Reused places (definition_scheme N places d lo l)) d.name lo l) (with_pattern (Reused places (definition_scheme N places d lo r)) d.name lo r) (with_pattern (Reused places (definition_scheme N places d lo s)) d.name lo s)
          (λ n i. few n (inr (inr i))) (behind_local N places d lo s local) (behind_joins d lo l r s (λ n i. few n (inr (inl i))) local j) a b h.1 h'.1,
    )
