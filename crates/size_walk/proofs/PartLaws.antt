-- Terms that may be applied: by themselves, as arguments, and with one argument more.
use Rattle.std.proofs.Common.{◌≡◌, ℕ, Bool, false, List, [], ◌∷◌, length, Option, Some, None, Result, Ok, Err, refl, sym, subst}
use Rattle.std.specs.Borrow.{Bor}
use Rattle.fut_flat.specs.declared.exp.Exp.{Exp}
use Rattle.fut_flat.specs.Erased.{FlatTerm}
use Rattle.fut_types.specs.Types.{Sub}
use Rattle.fut_typing.specs.Names.{Names}
use Rattle.sized_types.specs.Sizes.{Size}
use Rattle.fut_sizes.specs.Applications.{Argument, Early, Late, Part, Applied, Waiting, Want, Met}
use Rattle.fut_sizes.specs.Matching as matching
use Rattle.fut_sizes.specs.Matching.{nothing_found}
use Rattle.fut_sizes.specs.Scopes.{Scope}
use Rattle.fut_sizes.specs.Sizing.{finished, as_argument, wanted_as}
use Rattle.fut_sizes.specs.Steps.{Step, give, and_then, note}
use Rattle.alias_parts.specs.Known.{Knows}
use Rattle.size_arena.specs.declared.agreeing.SizeErr.{SizeErr}
use Rattle.size_arena.specs.declared.trees.SizeTree.{SizeTree}
use Rattle.size_arena.specs.Trees.{size_of}
use Rattle.size_program.specs.declared.maps.NumberMap.{NumberMap}
use Rattle.size_program.specs.declared.program.Program.{Program}
use Rattle.size_program.specs.declared.tables.Tables.{Tables}
use Rattle.size_program.specs.Answers.{Steps, Takes}
use Rattle.size_program.proofs.StepLaws.{given, steps_then, steps_stop}
use Rattle.size_slots.specs.declared.slots.Found.{Found}
use Rattle.size_slots.specs.Held.{Holds}
use Rattle.size_applying.specs.declared.arguments.Argument as arguments
use Rattle.size_applying.specs.declared.arguments.Argument.TheVariants as argument
use Rattle.size_applying.specs.declared.arguments.Part as parts
use Rattle.size_applying.specs.declared.arguments.Part.TheVariants as part
use Rattle.size_applying.specs.Wanted.{Are_arguments, Is_argument, Is_part, Waits, is_applied, is_early, is_waiting, none_each, one_each}
use Rattle.size_forms.specs.declared.walked.Walked.{Walked}
use Rattle.size_forms.specs.Shown.{argument_is, part_is, tree_is, whole_is}
use Rattle.size_forms.specs.Walked.{argument_sized, part_sized, whole_sized}
use Rattle.size_forms.proofs.StepForms.{takes_then, takes_stop}
use Rattle.size_walk.specs.Walked.{Lambda_met, unapplied_argument}
use Rattle.size_walk.proofs.Joining.{halted, reformed, retold}

-- ---- a part of code

module _ (N : Names) (types : Sub) where
  pub when_applied : {q : parts.Part} {p : Part} → Is_part N types q p → (t : Bor SizeTree) (regular : Bool) (given_to : Bor (List arguments.Argument)) → q ≡ part.Applied t regular given_to → (P : Part → Type 0)
      → ((given : List Argument) → Are_arguments N types given_to.now given → P (Applied (size_of t.now) regular given)) → P p
  when_applied (is_applied {t = u} {regular = r} {xs = bs} {given = given} each) t regular given_to is P h = subst P (same u r bs is) (h given (subst (λ (z : Bor (List arguments.Argument)). Are_arguments N types z.now given) (same_list u r bs is) each))
    where
      same : (u : Bor SizeTree) (r : Bool) (bs : Bor (List arguments.Argument)) → part.Applied u r bs ≡ part.Applied t regular given_to → Applied (size_of t.now) regular given ≡ Applied (size_of u.now) r given
      same u r bs is = cc

      same_list : (u : Bor SizeTree) (r : Bool) (bs : Bor (List arguments.Argument)) → part.Applied u r bs ≡ part.Applied t regular given_to → bs ≡ given_to
      same_list u r bs is = cc
  when_applied (is_waiting w) t regular given_to is P h = cc

  pub when_waiting : {q : parts.Part} {p : Part} → Is_part N types q p → (e : Bor Exp) (n : ℕ) (names : Bor NumberMap) (bs : Bor (List ℕ)) → q ≡ part.Waiting e n names bs → (P : Part → Type 0)
      → ((f : Option Want → matching.Found → Step Met) → Waits N types e.now n names.now bs.now f → P (Waiting f)) → P p
  when_waiting (is_applied each) e n names bs is P h = cc
  when_waiting (is_waiting {e = x} {n = i} {names = m} {bs = cs} {f = f} w) e n names bs is P h = h f (moved x i m cs is w)
    where
      moved : (x : Bor Exp) (i : ℕ) (m : Bor NumberMap) (cs : Bor (List ℕ)) → part.Waiting x i m cs ≡ part.Waiting e n names bs → Waits N types x.now i m.now cs.now f → Waits N types e.now n names.now bs.now f
      moved x i m cs is w = subst (λ (z : Bor (List ℕ)). Waits N types e.now n names.now z.now f) (of_heads is) (subst (λ (z : Bor NumberMap). Waits N types e.now n z.now cs.now f) (of_names is) (subst (λ z. Waits N types e.now z m.now cs.now f) (of_node is) (subst (λ (z : Bor Exp). Waits N types z.now i m.now cs.now f) (of_exp is) w)))
        where
          of_exp : part.Waiting x i m cs ≡ part.Waiting e n names bs → x ≡ e
          of_exp is = cc

          of_node : part.Waiting x i m cs ≡ part.Waiting e n names bs → i ≡ n
          of_node is = cc

          of_names : part.Waiting x i m cs ≡ part.Waiting e n names bs → m ≡ names
          of_names is = cc

          of_heads : part.Waiting x i m cs ≡ part.Waiting e n names bs → cs ≡ bs
          of_heads is = cc

-- ---- a term by itself

module _ (types : Sub) (p : Program) (names : NumberMap) (e : FlatTerm) (bs : List ℕ) (n : ℕ) where
  abbrev whole_next : Names → Scope → Part → Step Size
  whole_next N scope part = finished N types n part

  pub whole_stops : (x : SizeErr) (f g h : Tables) → Takes (part_is types) p names (part_sized types e bs n) f g (Err x) → Takes whole_is p names (whole_sized types e bs n) f h (Err x)
  whole_stops x f g h first = takes_stop (part_is types) whole_is p names (part_sized types e bs n) whole_next f g h (Err x) x refl first

  module _ (w : Walked) (f g h : Tables) (first : Takes (part_is types) p names (part_sized types e bs n) f g (Ok w)) where
    pub whole_refused : (x : SizeErr) → ((N : Names) → Knows p.names N → (y : Part) → Is_part N types w.part y → Steps tree_is (finished N types n y) g h (Err x)) → Takes whole_is p names (whole_sized types e bs n) f h (Err x)
    whole_refused x rest = takes_then (part_is types) whole_is p names (part_sized types e bs n) whole_next f g h (Ok w) w (Err x) refl first (λ N scope knows within y is. halted tree_is (whole_is N) (finished N types n y) g h x h (rest N knows y is))

    pub whole_done : (t : Bor SizeTree) (next : ℕ) → ((N : Names) → Knows p.names N → (y : Part) → Is_part N types w.part y → Steps tree_is (finished N types n y) g h (Ok t)) → Takes whole_is p names (whole_sized types e bs n) f h (Ok (record { size = t; next = next }))
    whole_done t next rest = takes_then (part_is types) whole_is p names (part_sized types e bs n) whole_next f g h (Ok w) w (Ok (record { size = t; next = next })) refl first
        (λ N scope knows within y is. retold tree_is (whole_is N) (finished N types n y) g h t (record { size = t; next = next }) (λ a same. same) (rest N knows y is))

-- ---- a term given_to an argument

module _ (types : Sub) (p : Program) (names : NumberMap) (e : FlatTerm) (n : ℕ) where
  abbrev argument_next : Names → Scope → Part → Step Argument
  argument_next N scope part = as_argument N types n e part

  pub argument_stops : (x : SizeErr) (f g h : Tables) → Takes (part_is types) p names (part_sized types e [] n) f g (Err x) → Takes (argument_is types) p names (argument_sized types e n) f h (Err x)
  argument_stops x f g h first = takes_stop (part_is types) (argument_is types) p names (part_sized types e [] n) argument_next f g h (Err x) x refl first

  module _ (w : Walked) (f g h : Tables) (first : Takes (part_is types) p names (part_sized types e [] n) f g (Ok w)) where
    pub argument_refused : (x : SizeErr) → ((N : Names) → Knows p.names N → (y : Part) → Is_part N types w.part y → Steps (Is_argument N types) (as_argument N types n e y) g h (Err x)) → Takes (argument_is types) p names (argument_sized types e n) f h (Err x)
    argument_refused x rest = takes_then (part_is types) (argument_is types) p names (part_sized types e [] n) argument_next f g h (Ok w) w (Err x) refl first (λ N scope knows within y is. halted (Is_argument N types) (argument_is types N) (as_argument N types n e y) g h x h (rest N knows y is))

    pub argument_done : (a : arguments.Argument) (next : ℕ) → ((N : Names) → Knows p.names N → (y : Part) → Is_part N types w.part y → Steps (Is_argument N types) (as_argument N types n e y) g h (Ok a)) → Takes (argument_is types) p names (argument_sized types e n) f h (Ok (record { argument = a; next = next }))
    argument_done a next rest = takes_then (part_is types) (argument_is types) p names (part_sized types e [] n) argument_next f g h (Ok w) w (Ok (record { argument = a; next = next })) refl first
        (λ N scope knows within y is. retold (Is_argument N types) (argument_is types N) (as_argument N types n e y) g h a (record { argument = a; next = next }) (λ b same. same) (rest N knows y is))

module _ (N : Names) (types : Sub) (e : FlatTerm) (n : ℕ) (f g : Tables) where
  -- applied to nothing
  pub unapplied_is : {q : parts.Part} {p : Part} → Is_part N types q p → (t : Bor SizeTree) (regular : Bool) (given_to : Bor (List arguments.Argument)) → q ≡ part.Applied t regular given_to → length given_to.now ≡ 0 → (r : Result arguments.Argument SizeErr)
      → Steps (Is_argument N types) (unapplied_argument n e (size_of t.now)) f g r → Steps (Is_argument N types) (as_argument N types n e p) f g r
  unapplied_is q t regular given_to is none r x = when_applied N types q t regular given_to is (λ z. Steps (Is_argument N types) (as_argument N types n e z) f g r) (λ given each. by_none given given_to.now none each)
    where
      by_none : (given : List Argument) (xs : List arguments.Argument) → length xs ≡ 0 → Are_arguments N types xs given → Steps (Is_argument N types) (as_argument N types n e (Applied (size_of t.now) regular given)) f g r
      by_none given [] none none_each = x
      by_none given (y ∷ ys) none each = cc

  -- applied to something, it is finished first
  abbrev early_of : Size → Argument
  early_of u = Early n None false u

  module _ {q : parts.Part} {p : Part} (so : Is_part N types q p) (t : Bor SizeTree) (regular : Bool) (given_to : Bor (List arguments.Argument)) (is : q ≡ part.Applied t regular given_to) (some : length given_to.now ≡ 0 → ⊥) where
    by_some : {D : Type 0} (R : D → Argument → Type 0) (r : Result D SizeErr) → Steps R (and_then (finished N types n p) (λ u. give (early_of u))) f g r → Steps R (as_argument N types n e p) f g r
    by_some R r = when_applied N types so t regular given_to is (λ z. Steps R (and_then (finished N types n z) (λ u. give (early_of u))) f g r → Steps R (as_argument N types n e z) f g r) (λ given each. by_each given given_to.now some each)
      where
        by_each : (given : List Argument) (xs : List arguments.Argument) → (length xs ≡ 0 → ⊥) → Are_arguments N types xs given → Steps R (and_then (finished N types n (Applied (size_of t.now) regular given)) (λ u. give (early_of u))) f g r → Steps R (as_argument N types n e (Applied (size_of t.now) regular given)) f g r
        by_each given [] some none_each x = elim (some refl) [ ]
        by_each given (y ∷ ys) some (one_each z zs) x = x

    pub whole_argument_stops : (x : SizeErr) → Steps tree_is (finished N types n p) f g (Err x) → Steps (Is_argument N types) (as_argument N types n e p) f g (Err x)
    whole_argument_stops x first = by_some (Is_argument N types) (Err x) (steps_stop tree_is (Is_argument N types) (finished N types n p) (λ u. give (early_of u)) f g g (Err x) x refl first)

    pub whole_argument : (u : Bor SizeTree) → Steps tree_is (finished N types n p) f g (Ok u) → Steps (Is_argument N types) (as_argument N types n e p) f g (Ok (argument.Early n None false u))
    whole_argument u first = by_some (Is_argument N types) (Ok (argument.Early n None false u)) (reformed tree_is (Is_argument N types) (finished N types n p) early_of f g u (argument.Early n None false u) (λ s same. subst (λ z. Is_argument N types (argument.Early n None false u) (early_of z)) (sym same) is_early) first)

  -- a lambda waits
  pub late_is : {q : parts.Part} {p : Part} → Is_part N types q p → (x : Bor Exp) (m : ℕ) (names : Bor NumberMap) (bs : Bor (List ℕ)) → q ≡ part.Waiting x m names bs → (a : arguments.Argument)
      → ((h : Option Want → matching.Found → Step Met) → Waits N types x.now m names.now bs.now h → Is_argument N types a (Late n h)) → Steps (Is_argument N types) (as_argument N types n e p) f f (Ok a)
  late_is so x m names bs is a late = when_waiting N types so x m names bs is (λ z. Steps (Is_argument N types) (as_argument N types n e z) f f (Ok a)) (λ h waits. given (Is_argument N types) a (Late n h) f (late h waits))

-- ---- a lambda by itself

module _ (N : Names) (types : Sub) {q : parts.Part} {p : Part} (so : Is_part N types q p) (x : Bor Exp) (m : ℕ) (names : Bor NumberMap) (bs : Bor (List ℕ)) (is : q ≡ part.Waiting x m names bs) (table behind : Found) (nothing : Holds table nothing_found) where
  -- of which nothing is wanted
  abbrev pub Alone : Tables → Tables → Result (Bor SizeTree) SizeErr → Type 0
  Alone f g k = (h : Option Want → matching.Found → Step Met) → Waits N types x.now m names.now bs.now h → (σ : matching.Found) → Holds table σ → Steps (Lambda_met behind) (h None σ) f g k

  pub lambda_alone_stops : (n : ℕ) (y : SizeErr) (f g h : Tables) → Alone f g (Err y) → Steps tree_is (finished N types n p) f h (Err y)
  lambda_alone_stops n y f g h alone = when_waiting N types so x m names bs is (λ z. Steps tree_is (finished N types n z) f h (Err y))
      (λ w waits. steps_stop (Lambda_met behind) tree_is (w None nothing_found) (λ (k : Met). note n k.size) f g h (Err y) y refl (alone w waits nothing_found nothing))

  pub lambda_alone : (n : ℕ) (t : Bor SizeTree) (f g h : Tables) (r : Result (Unit {0}) SizeErr) → Alone f g (Ok t) → Steps (λ u y. y ≡ size_of t.now) (note n (size_of t.now)) g h r → {D : Type 0} (Q : D → Size → Type 0) (s : Result D SizeErr)
      → (Steps (λ (u : Unit {0}) y. y ≡ size_of t.now) (note n (size_of t.now)) g h r → Steps Q (note n (size_of t.now)) g h s) → Steps Q (finished N types n p) f h s
  lambda_alone n t f g h r alone noted Q s back = when_waiting N types so x m names bs is (λ z. Steps Q (finished N types n z) f h s)
      (λ w waits. steps_then (Lambda_met behind) Q (w None nothing_found) (λ (k : Met). note n k.size) f g h (Ok t) t s refl (alone w waits nothing_found nothing)
      (λ (k : Met) met. subst (λ z. Steps Q (note n z) g h s) (sym met.size) (back noted)))

  -- of which a type is wanted
  abbrev pub Wanted : Option Want → Tables → Tables → Result (Bor SizeTree) SizeErr → Type 0
  Wanted w f g k = (h : Option Want → matching.Found → Step Met) → Waits N types x.now m names.now bs.now h → (σ : matching.Found) → Holds table σ → Steps (Lambda_met behind) (h w σ) f g k

  pub lambda_wanted : (n : ℕ) (t : Size) (f g : Tables) (r : Result (Bor SizeTree) SizeErr) → Wanted (Some (record { node = n; is_regular = false; size = t })) f g r → Steps tree_is (wanted_as N types n t p) f g r
  lambda_wanted n t f g r wanted = when_waiting N types so x m names bs is (λ z. Steps tree_is (wanted_as N types n t z) f g r) (λ w waits. by_result w waits r (wanted w waits nothing_found nothing))
    where
      by_result : (w : Option Want → matching.Found → Step Met) → Waits N types x.now m names.now bs.now w → (r : Result (Bor SizeTree) SizeErr) → Steps (Lambda_met behind) (w (Some (record { node = n; is_regular = false; size = t })) nothing_found) f g r → Steps tree_is (wanted_as N types n t (Waiting w)) f g r
      by_result w waits (Ok u) first = reformed (Lambda_met behind) tree_is (w (Some (record { node = n; is_regular = false; size = t })) nothing_found) (λ (k : Met). k.size) f g u u (λ (k : Met) met. met.size) first
      by_result w waits (Err y) first = steps_stop (Lambda_met behind) tree_is (w (Some (record { node = n; is_regular = false; size = t })) nothing_found) (λ (k : Met). give k.size) f g g (Err y) y refl first

pub not_wanted : (N : Names) (types : Sub) {q : parts.Part} {p : Part} → Is_part N types q p → (t : Bor SizeTree) (regular : Bool) (given_to : Bor (List arguments.Argument)) → q ≡ part.Applied t regular given_to → (n : ℕ) (u : Bor SizeTree) (f : Tables) → Steps tree_is (wanted_as N types n (size_of u.now) p) f f (Ok u)
not_wanted N types so t regular given_to is n u f = when_applied N types so t regular given_to is (λ z. Steps tree_is (wanted_as N types n (size_of u.now) z) f f (Ok u)) (λ given_to each. given tree_is u (size_of u.now) f refl)

-- what is said of each function that is applied to arguments, or of each lambda that waits
module _ (N : Names) (types : Sub) {B : Type 0} {A : Type 0} (R : B → A → Type 0) (go : Part → Step A) where
  pub for_applied : {f g : Tables} {r : Result B SizeErr} {q : parts.Part} {p : Part} → Is_part N types q p → (t : Bor SizeTree) (regular : Bool) (xs : Bor (List arguments.Argument)) → q ≡ part.Applied t regular xs
      → ((given : List Argument) → Are_arguments N types xs.now given → Steps R (go (Applied (size_of t.now) regular given)) f g r) → Steps R (go p) f g r
  for_applied {f = f} {g = g} {r = r} so t regular xs is h = when_applied N types so t regular xs is (λ z. Steps R (go z) f g r) h

  pub for_waiting : {f g : Tables} {r : Result B SizeErr} {q : parts.Part} {p : Part} → Is_part N types q p → (e : Bor Exp) (n : ℕ) (names : Bor NumberMap) (bs : Bor (List ℕ)) → q ≡ part.Waiting e n names bs
      → ((h : Option Want → matching.Found → Step Met) → Waits N types e.now n names.now bs.now h → Steps R (go (Waiting h)) f g r) → Steps R (go p) f g r
  for_waiting {f = f} {g = g} {r = r} so e n names bs is h = when_waiting N types so e n names bs is (λ z. Steps R (go z) f g r) h
