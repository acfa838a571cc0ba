-- Applications: a function, and one argument after another.
use Rattle.std.proofs.Common.{◌≡◌, ℕ, zero, suc, ◌+◌, ◌≤◌, Bool, false, List, [], ◌∷◌, ◌++◌, length, drop, Option, None, Result, Ok, Err, refl, sym, ap, ◌∙◌, subst, arith, append-nil}
use Rattle.std.proofs.lemmas.List.{append_assoc}
use Rattle.std.specs.Borrow.{Bor}
use Rattle.fut_flat.specs.declared.exp.Exp.{Exp}
use Rattle.fut_flat.specs.Terms.{Apply}
use Rattle.fut_flat.specs.Numbers.{numbers}
use Rattle.fut_flat.specs.Erased.{FlatTerm, term_of}
use Rattle.fut_types.specs.Types.{Sub}
use Rattle.fut_typing.specs.Names.{Names}
use Rattle.sized_types.specs.Sizes.{Size}
use Rattle.fut_sizes.specs.Applications.{Argument, Part, Applied, Want, Met}
use Rattle.fut_sizes.specs.Matching as matching
use Rattle.fut_sizes.specs.Matching.{nothing_found}
use Rattle.fut_sizes.specs.Scopes.{Scope}
use Rattle.fut_sizes.specs.Sizing.{sized, as_argument, with_argument}
use Rattle.fut_sizes.specs.Steps.{State, Step, give, and_then}
use Rattle.alias_parts.specs.Known.{Knows}
use Rattle.size_arena.specs.declared.agreeing.SizeErr.{SizeErr}
use Rattle.size_arena.specs.declared.trees.SizeTree.{SizeTree}
use Rattle.size_arena.specs.Trees.{size_of}
use Rattle.size_program.specs.declared.maps.NumberMap.{NumberMap}
use Rattle.size_program.specs.declared.program.Program.{Program}
use Rattle.size_program.specs.declared.tables.Tables.{Tables}
use Rattle.size_program.specs.Answers.{Steps, Takes}
use Rattle.size_program.specs.Tables.{In_scope}
use Rattle.size_program.proofs.StepLaws.{given, regrouped, steps_then, steps_stop}
use Rattle.size_slots.specs.declared.slots.Found.{Found}
use Rattle.size_applying.specs.declared.arguments.Argument as arguments
use Rattle.size_applying.specs.declared.arguments.Part as parts
use Rattle.size_applying.specs.declared.arguments.Part.TheVariants as part
use Rattle.size_applying.specs.Wanted.{Are_arguments, Each, Is_argument, Is_part, Waits, is_applied, is_waiting, none_each, one_each}
use Rattle.size_forms.specs.declared.walked.Given.{Given}
use Rattle.size_forms.specs.Shown.{argument_is}
use Rattle.size_forms.specs.Walked.{argument_sized, part_sized}
use Rattle.size_forms.proofs.StepForms.{then_same, same_takes, takes_then, takes_stop}
use Rattle.size_walk.specs.Walked.{Has_arguments, has_applied, has_waiting, Lambda_met, applied_to}
use Rattle.size_walk.proofs.Joining.{halted}

pub each_more : {A B : Type 0} (R : A → B → Type 0) {xs : List A} {ys : List B} → Each R xs ys → (x : A) (y : B) → R x y → Each R (xs ++ x ∷ []) (ys ++ y ∷ [])
each_more R none_each x y r = one_each r none_each
each_more R (one_each z zs) x y r = one_each z (each_more R zs x y r)

-- ---- the arguments that a part has

module _ (N : Names) (types : Sub) where
  pub has_none : {q : parts.Part} {p : Part} → Is_part N types q p → Has_arguments N types q [] p
  has_none (is_applied {t = t} {regular = regular} {xs = given_to} {given = given} each) = has_applied (subst (λ z. Are_arguments N types z given) (sym (append-nil given_to.now)) each)
  has_none (is_waiting waits) = has_waiting waits

  has_one_by : (u : Bor SizeTree) (r : Bool) (given_to : Bor (List arguments.Argument)) (xs : List Argument) (t : Size) (regular : Bool) (x : arguments.Argument) (a : Argument) → Is_argument N types x a → Are_arguments N types given_to.now xs → Applied (size_of u.now) r xs ≡ Applied t regular []
      → Has_arguments N types (part.Applied u r given_to) (x ∷ []) (Applied t regular (a ∷ []))
  has_one_by u r given_to xs t regular x a so each is = subst (λ z. Has_arguments N types (part.Applied u r given_to) (x ∷ []) z) (same xs is) (has_applied (subst (λ z. Are_arguments N types (given_to.now ++ x ∷ []) (z ++ a ∷ [])) (none xs is) (each_more (Is_argument N types) each x a so)))
    where
      none : (xs : List Argument) → Applied (size_of u.now) r xs ≡ Applied t regular [] → xs ≡ []
      none xs is = cc

      same : (xs : List Argument) → Applied (size_of u.now) r xs ≡ Applied t regular [] → Applied (size_of u.now) r (a ∷ []) ≡ Applied t regular (a ∷ [])
      same xs is = cc

  -- a part that has none gets its first
  pub has_one : {q : parts.Part} {p : Part} (t : Size) (regular : Bool) → Is_part N types q p → p ≡ Applied t regular [] → (x : arguments.Argument) (a : Argument) → Is_argument N types x a → Has_arguments N types q (x ∷ []) (Applied t regular (a ∷ []))
  has_one t regular (is_applied {t = u} {regular = r} {xs = given_to} {given = xs} each) is x a so = has_one_by u r given_to xs t regular x a so each is
  has_one t regular (is_waiting waits) is x a so = cc

  -- ---- one argument more

  module _ (q : parts.Part) (p : Part) (olds : List arguments.Argument) (has : Has_arguments N types q olds p) (x : arguments.Argument) (a : Argument) (so : Is_argument N types x a) (f g : Tables) where
    pub give_applied : (t : Bor SizeTree) (regular : Bool) (given_to : Bor (List arguments.Argument)) → q ≡ part.Applied t regular given_to → (news : List arguments.Argument) → news ≡ olds ++ x ∷ [] → Steps (λ r. Has_arguments N types r news) (with_argument N types p a) f f (Ok q)
    give_applied t regular given_to is news more = by_has has is more
      where
        by_has : {q : parts.Part} {p : Part} {olds : List arguments.Argument} → Has_arguments N types q olds p → q ≡ part.Applied t regular given_to → news ≡ olds ++ x ∷ [] → Steps (λ r. Has_arguments N types r news) (with_argument N types p a) f f (Ok q)
        by_has (has_applied {t = u} {regular = r} {xs = bs} {more = os} {given = gs} each) is more = given (λ y. Has_arguments N types y news) (part.Applied u r bs) (Applied (size_of u.now) r (gs ++ a ∷ [])) f
            (has_applied (subst (λ z. Are_arguments N types z (gs ++ a ∷ [])) (append_assoc bs.now os (x ∷ []) ∙ ap (λ z. bs.now ++ z) (sym more)) (each_more (Is_argument N types) each x a so)))
        by_has (has_waiting waits) is more = cc

    module _ (e : Bor Exp) (n : ℕ) (names : Bor NumberMap) (bs : Bor (List ℕ)) (is : q ≡ part.Waiting e n names bs) (behind : Found) (r : Result (Bor SizeTree) SizeErr)
        (alone : (h : Option Want → matching.Found → Step Met) → Waits N types e.now n names.now bs.now h → Steps (Lambda_met behind) (h None nothing_found) f g r) where
      by_waiting : {D : Type 0} (Q : D → Part → Type 0) (s : Result D SizeErr) → ((h : Option Want → matching.Found → Step Met) → Steps (Lambda_met behind) (h None nothing_found) f g r → Steps Q (and_then (h None nothing_found) (λ (m : Met). give (Applied m.size false (a ∷ [])))) f g s) → Steps Q (with_argument N types p a) f g s
      by_waiting Q s rest = by_has has is
        where
          Waits_in : parts.Part → (Option Want → matching.Found → Step Met) → Type 0
          Waits_in (part.Waiting x i m cs) h = Waits N types x.now i m.now cs.now h
          Waits_in (part.Applied t regular xs) h = Unit {0}

          by_has : {q : parts.Part} {p : Part} {olds : List arguments.Argument} → Has_arguments N types q olds p → q ≡ part.Waiting e n names bs → Steps Q (with_argument N types p a) f g s
          by_has (has_applied each) is = cc
          by_has (has_waiting {f = h} waits) is = rest h (alone h (subst (λ (z : parts.Part). Waits_in z h) is waits))

      pub give_stops : (y : SizeErr) → r ≡ Err y → {D : Type 0} (Q : D → Part → Type 0) → Steps Q (with_argument N types p a) f g (Err y)
      give_stops y is Q = by_waiting Q (Err y) (λ h first. steps_stop (Lambda_met behind) Q (h None nothing_found) (λ (m : Met). give (Applied m.size false (a ∷ []))) f g g r y is first)

      pub give_waiting : (t : Bor SizeTree) → r ≡ Ok t → (news : List arguments.Argument) → news ≡ x ∷ [] → (z : parts.Part) → Is_part N types z (Applied (size_of t.now) false []) → Steps (λ y. Has_arguments N types y news) (with_argument N types p a) f g (Ok z)
      give_waiting t is news only z part = by_waiting (λ y. Has_arguments N types y news) (Ok z) (λ h first. steps_then (Lambda_met behind) (λ y. Has_arguments N types y news) (h None nothing_found) (λ (m : Met). give (Applied m.size false (a ∷ []))) f g g r t (Ok z) is first
          (λ (m : Met) met. given (λ y. Has_arguments N types y news) z (Applied m.size false (a ∷ [])) g
          (subst (λ c. Has_arguments N types z news (Applied c false (a ∷ []))) (sym met.size) (subst (λ c. Has_arguments N types z c (Applied (size_of t.now) false (a ∷ []))) (sym only) (has_one (size_of t.now) false part refl x a so)))))

-- ---- the equation of applications

module _ (N : Names) (types : Sub) (scope : Scope) where
  abbrev apply_next : FlatTerm → ℕ → Part → Step Part
  apply_next e i part = and_then (argument_sized types e i N scope) (λ a. with_argument N types part a)

  pub apply_is : (f e : FlatTerm) (bs : List ℕ) (n m i : ℕ) (s : State) → m ≡ 1 + n → i ≡ m + numbers f → sized N types (Apply f e) bs n scope s ≡ and_then (part_sized types f [] m N scope) (apply_next e i) s
  unfolding sized
  apply_is f e bs n m i s a b = rw (b, a) (then_same (sized N types f [] (1 + n) scope) (λ part. and_then (sized N types e [] (1 + n + numbers f) scope) (λ given. and_then (as_argument N types (1 + n + numbers f) e given) (λ a. with_argument N types part a))) (apply_next e (1 + n + numbers f))
      (λ part t. sym (regrouped (sized N types e [] (1 + n + numbers f) scope) (λ given. as_argument N types (1 + n + numbers f) e given) (λ a. with_argument N types part a) t)) s)

-- the size names of a head are not chosen by an application
pub apply_heads : {B : Type 0} (R : Names → B → Part → Type 0) (types : Sub) (p : Program) (names : NumberMap) (f e : FlatTerm) (bs : List ℕ) (n : ℕ) (old new : Tables) (r : Result B SizeErr) → Takes R p names (part_sized types (Apply f e) [] n) old new r → Takes R p names (part_sized types (Apply f e) bs n) old new r
unfolding sized
apply_heads R types p names f e bs n old new r x = x

module _ (types : Sub) (p : Program) (names : NumberMap) where
  -- what code has of a function that has got arguments
  abbrev pub function_is : List arguments.Argument → Names → parts.Part → Part → Type 0
  function_is xs N q y = Has_arguments N types q xs y

  module _ (f e : FlatTerm) (n m i : ℕ) (at : m ≡ 1 + n) (behind : i ≡ m + numbers f) (g h k : Tables) where
    as_apply : {B : Type 0} (R : Names → B → Part → Type 0) (r : Result B SizeErr) → Takes R p names (λ N scope. and_then (part_sized types f [] m N scope) (apply_next N types scope e i)) g k r → Takes R p names (part_sized types (Apply f e) [] n) g k r
    as_apply R r x = same_takes R p names (λ N scope. and_then (part_sized types f [] m N scope) (apply_next N types scope e i)) (part_sized types (Apply f e) [] n) g k r (λ N scope s. sym (apply_is N types scope f e [] n m i s at behind)) x

    module _ {B C : Type 0} (R : Names → B → Part → Type 0) (Q : Names → C → Part → Type 0) where
      pub function_stops : (x : SizeErr) → Takes R p names (part_sized types f [] m) g h (Err x) → Takes Q p names (part_sized types (Apply f e) [] n) g k (Err x)
      function_stops x first = as_apply Q (Err x) (takes_stop R Q p names (part_sized types f [] m) (λ N scope. apply_next N types scope e i) g h k (Err x) x refl first)

      module _ (z : B) (first : Takes R p names (part_sized types f [] m) g h (Ok z)) where
        function_then : (r : Result C SizeErr) → ((N : Names) (scope : Scope) → Knows p.names N → In_scope names scope → (y : Part) → R N z y → Steps (Q N) (apply_next N types scope e i y) h k r) → Takes Q p names (part_sized types (Apply f e) [] n) g k r
        function_then r rest = as_apply Q r (takes_then R Q p names (part_sized types f [] m) (λ N scope. apply_next N types scope e i) g h k (Ok z) z r refl first rest)

        pub argument_refused_there : (x : SizeErr) (l : Tables) → Takes (argument_is types) p names (argument_sized types e i) h l (Err x) → Takes Q p names (part_sized types (Apply f e) [] n) g k (Err x)
        argument_refused_there x l second = function_then (Err x) (λ N scope knows within y is. steps_stop (argument_is types N) (Q N) (argument_sized types e i N scope) (λ a. with_argument N types y a) h l k (Err x) x refl (second.takes N scope knows within))

        pub argument_given : (b : Given) (l : Tables) (r : Result C SizeErr) → Takes (argument_is types) p names (argument_sized types e i) h l (Ok b) → ((N : Names) → Knows p.names N → (y : Part) → R N z y → (a : Argument) → Is_argument N types b.argument a → Steps (Q N) (with_argument N types y a) l k r)
            → Takes Q p names (part_sized types (Apply f e) [] n) g k r
        argument_given b l r second rest = function_then r (λ N scope knows within y is. steps_then (argument_is types N) (Q N) (argument_sized types e i N scope) (λ a. with_argument N types y a) h l k (Ok b) b r refl (second.takes N scope knows within) (λ a so. rest N knows y is a so))

  -- ---- a refusal within an application is that of the whole

  module _ {B C : Type 0} (R : Names → B → Part → Type 0) (Q : Names → C → Part → Type 0) (h : FlatTerm) (f g : Tables) (x : SizeErr) where
    pub spine_stops : (es : List FlatTerm) (i lo : ℕ) → i ≤ length es → Takes R p names (part_sized types (applied_to h (drop i es)) [] (lo + i)) f g (Err x) → Takes Q p names (part_sized types (applied_to h es) [] lo) f g (Err x)
    spine_stops es zero lo l first = record { takes = λ N scope knows within. halted (R N) (Q N) (sized N types (applied_to h es) [] lo scope) f g x g (subst (λ z. Steps (R N) (sized N types (applied_to h es) [] z scope) f g (Err x)) (omega arith) (first.takes N scope knows within)) }
    spine_stops [] (suc i) lo l first = absurd (omega (arith, l))
    spine_stops (e ∷ es) (suc i) lo l first = function_stops (applied_to h es) e lo (suc lo) (suc lo + numbers (applied_to h es)) (omega arith) refl f g g R Q x
        (relaxed (spine_stops es i (suc lo) (omega (arith, l)) (subst (λ z. Takes R p names (part_sized types (applied_to h (drop i es)) [] z) f g (Err x)) (omega arith) first)))
      where
        relaxed : Takes Q p names (part_sized types (applied_to h es) [] (suc lo)) f g (Err x) → Takes R p names (part_sized types (applied_to h es) [] (suc lo)) f g (Err x)
        relaxed y = record { takes = λ N scope knows within. halted (Q N) (R N) (sized N types (applied_to h es) [] (suc lo) scope) f g x g (y.takes N scope knows within) }

  -- ---- how far the arguments are given

  -- those from one on, of the list that begins with the last
  pub record Given_so_far (h : FlatTerm) (es : List FlatTerm) (lo : ℕ) (f : Tables) (left : ℕ) (q : parts.Part) (xs : List arguments.Argument) (next : ℕ) (g : Tables) : Type 0 where
    pub sized_so : Takes (function_is xs) p names (part_sized types (applied_to h (drop left es)) [] (lo + left)) f g (Ok q)
    pub number : next ≡ lo + left + numbers (applied_to h (drop left es))
    pub within : left ≤ length es

pub apply_part : {B : Type 0} (R : Names → B → Part → Type 0) (types : Sub) (p : Program) (names : NumberMap) (x : Exp) (f e : FlatTerm) (bs : List ℕ) (n : ℕ) (old new : Tables) (r : Result B SizeErr) → term_of x ≡ Apply f e → Takes R p names (part_sized types (term_of x) [] n) old new r → Takes R p names (part_sized types (term_of x) bs n) old new r
apply_part R types p names x f e bs n old new r is first = subst (λ z. Takes R p names (part_sized types z bs n) old new r) (sym is) (apply_heads R types p names f e bs n old new r (subst (λ z. Takes R p names (part_sized types z [] n) old new r) is first))
