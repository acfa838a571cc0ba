-- Where unfolding comes to a place from which there is no way on: a name is not found, an operation does not take its parts,
-- what is applied is no function, a pattern has not the form of the value, or a function is where data has to be. What stands
-- before the place has been unfolded. No typed program comes to such a place.
use Rattle.std.specs.Prelude.{◌≡◌, ℕ, ◌+◌, ◌++◌, List, [], ◌∷◌, map, Bool, true, false, Option, None, Some, length, nat_lt}
use Rattle.fut_scalar.specs.declared.place.BindId.{BindId}
use Rattle.fut_scalar.specs.declared.place.Place.{Place}
use Rattle.fut_scalar.specs.declared.scalar.IntType.{IntType}
use Rattle.fut_scalar.specs.declared.scalar.ScalarType.{ScalarType}
use Rattle.fut_flat.specs.declared.prim.Primitive.{Primitive}
use Rattle.fut_flat.specs.declared.prim.Ref.{Ref}
use Rattle.fut_flat.specs.declared.prim.Ref.TheVariants as ref
use Rattle.fut_flat.specs.Erased.{FlatTerm, FlatPattern, FlatTurns}
use Rattle.fut_flat.specs.Numbers.{pattern_numbers, own_numbers, numbers, turn_numbers}
use Rattle.fut_flat.specs.Terms.{Patterns, no_pattern, pattern_and, Operation, Binding, Use, Strict, Apply, Let, If, Loop, Terms, term_and, Counted, Over, While}
use Rattle.fut_meaning.specs.Flats.{FlatTop, is_flat_use}
use Rattle.fut_meaning.specs.Datums.{takes}
use Rattle.fut_meaning.specs.Found.{Told, Sizing}
use Rattle.fut_meaning.specs.Meaning.{first_node}
use Rattle.fut_meaning.specs.Operations.{parameters_of, arity, is_of_scalars}
use Rattle.fut_meaning.specs.Programs.{is_reached, name_node}
use Rattle.fut_blocks.specs.declared.block.Atom.{Atom}
use Rattle.fut_blocks.specs.Meaning.{look}
use Rattle.fut_blocks.specs.Rows.{Row, Size_test}
use Rattle.unfold.specs.Knowns.{Known, Scalar_known, Tuple_known, Function_known, Primitive_known, Knowns, no_known, Scope, nothing_seen, name_and, Tops, listed, find}
use Rattle.unfold.specs.Shapes.{Shape, Shapes, Laid, All_laid}
use Rattle.unfold.specs.Telling.{size_used, enter}
use Rattle.unfold.specs.Unfolding.{Bindings, named, Binds, Operates, Primitive_operates, Packs_all, data_known, function_known, Unfolds, Unfold_all, Applies, Applies_all}
use Rattle.unfold.specs.Programs.{seeing, Definitions_unfold}

abbrev pub No_scalar : Known → Type 0
No_scalar s = (u : Atom) → s ≡ Scalar_known u → ⊥

-- of another shape
abbrev pub Not_laid : Shape → Known → Type 0
Not_laid h s = (us : List Atom) → Laid h s us [] → ⊥

-- of no shape: it is or holds a function
abbrev pub No_data : Known → Type 0
No_data s = (h : Shape) → Not_laid h s

abbrev pub is_function : Known → Bool
is_function (Function_known (pattern_and p ps) e lo sc) = true
is_function (Primitive_known p at ss) = true
is_function s = false

-- with some steps
abbrev pub Binds_to : Option Sizing → ℕ → FlatPattern → Known → Scope → Scope → Type 0
Binds_to sizes q p s sc inner = (n : ℕ) × (bs : Bindings) × (m : ℕ) × Binds sizes q p s sc n bs inner m

-- the value has not the form of the pattern
abbrev pub Not_bound : FlatPattern → Known → Type 0
Not_bound p s = (sizes : Option Sizing) (q : ℕ) (sc inner : Scope) → Binds_to sizes q p s sc inner → ⊥

-- the parts have not the forms that the operation takes
abbrev pub No_operation : IntType → Operation Ref BindId → Place → List Known → Type 0
No_operation t o at ss = (row : Row) (test : Option Size_test) (n n' : ℕ) (bs : Bindings) (s : Known) → Operates row test t o at ss n bs s n' → ⊥

abbrev pub No_primitive : Primitive → Place → List Known → Type 0
No_primitive p at ss = (n n' : ℕ) (bs : Bindings) (s : Known) → Primitive_operates p at ss n bs s n' → ⊥

-- the arguments of a primitive on arrays are not those of its parameters: one is or holds a function that has to be data
abbrev pub No_arguments : Primitive → List Known → Type 0
No_arguments p ss = (us : List Known) (n n' : ℕ) (bs : Bindings) (ws : List Atom) → data_known (parameters_of p) ss ≡ Some us → Packs_all us n bs ws n' → ⊥

-- what is known of the function of a primitive with these arguments
abbrev pub the_function : Primitive → List Known → Known
the_function p ss = function_known (parameters_of p) ss (Tuple_known no_known)

-- what is known of a loop's value in a turn: it has the shape of the first one
pub data Carried (told : Told) (tops : Tops) (sc : Scope) (lo : ℕ) (p : FlatPattern) (first : FlatTerm) : Shape → Known → Type 0 where
  carried : {n n' : ℕ} {bs : Bindings} {h : Shape} {s r : Known} {us ws : List Atom} → Unfolds told tops sc (1 + lo + pattern_numbers p) first n bs s n' → Laid h s us [] → Laid h r ws [] → Carried told tops sc lo p first h r

-- the names of a turn, for the names that the pattern binds; how many turns there are has been unfolded outside of the loop
pub data Turn_names (told : Told) (tops : Tops) (sc inside : Scope) (at : ℕ) : FlatTurns → Scope → Type 0 where
  turn_counted : {n n' : ℕ} {i : BindId} {count : FlatTerm} {bs : Bindings} {u : Atom} (y : ℕ) → Unfolds told tops sc (1 + at) count n bs (Scalar_known u) n' → Turn_names told tops sc inside at (Counted i count) (name_and i (named y) (enter told.sizes at (named y) inside))
  turn_row : {inner : Scope} {n n' : ℕ} {q : FlatPattern} {rows : FlatTerm} {bs : Bindings} {u : Atom} (y : ℕ) → Unfolds told tops sc (at + pattern_numbers q) rows n bs (Scalar_known u) n' → Binds_to told.sizes at q (named y) inside inner → Turn_names told tops sc inside at (Over q rows) inner
  turn_tested : {test : FlatTerm} → Turn_names told tops sc inside at (While test) inside

-- a term, whose nodes are numbered from a number on
mutual
  pub data Stuck (told : Told) (tops : Tops) : Scope → ℕ → FlatTerm → Type 0 where
    no_such_name : {sc : Scope} {lo k : ℕ} {b : BindId} {at : Place} → size_used told.sizes sc b.0 ≡ None → find tops sc b.0 ≡ None → Stuck told tops sc lo (Use (ref.Bound b) at k)
    type_name : {sc : Scope} {lo k : ℕ} {t : ScalarType} {at : Place} → Stuck told tops sc lo (Use (ref.Scalar t) at k)
    stuck_parts : {sc : Scope} {lo : ℕ} {o : Operation Ref BindId} {mark : Place} {ts : Terms Ref BindId} → Stuck_all told tops sc (lo + own_numbers o) ts → Stuck told tops sc lo (Strict o mark ts)
    no_operation : {sc : Scope} {lo n n' : ℕ} {o : Operation Ref BindId} {mark : Place} {ts : Terms Ref BindId} {bs : Bindings} {ss : List Known} → Unfold_all told tops sc (lo + own_numbers o) ts n bs ss n' → No_operation (told.integer_at lo) o mark ss → Stuck told tops sc lo (Strict o mark ts)
    stuck_function : {sc : Scope} {lo : ℕ} {f e : FlatTerm} → Stuck told tops sc (1 + lo) f → Stuck told tops sc lo (Apply f e)
    stuck_argument : {sc : Scope} {lo n n' : ℕ} {f e : FlatTerm} {bs : Bindings} {h : Known} → Unfolds told tops sc (1 + lo) f n bs h n' → Stuck told tops sc (1 + lo + numbers f) e → Stuck told tops sc lo (Apply f e)
    stuck_application : {sc : Scope} {lo n n1 n2 : ℕ} {f e : FlatTerm} {bs cs : Bindings} {h s : Known} → Unfolds told tops sc (1 + lo) f n bs h n1 → Unfolds told tops sc (1 + lo + numbers f) e n1 cs s n2 → Stuck_run told tops h s → Stuck told tops sc lo (Apply f e)
    stuck_value : {sc : Scope} {lo : ℕ} {b : Binding Ref BindId} {v e : FlatTerm} → Stuck told tops sc (1 + lo + pattern_numbers b.pattern) v → Stuck told tops sc lo (Let b v e)
    no_pattern_of : {sc : Scope} {lo n n' : ℕ} {b : Binding Ref BindId} {v e : FlatTerm} {bs : Bindings} {s : Known} → Unfolds told tops sc (1 + lo + pattern_numbers b.pattern) v n bs s n' → Not_bound b.pattern s → Stuck told tops sc lo (Let b v e)
    stuck_behind : {sc inner : Scope} {lo n n' : ℕ} {b : Binding Ref BindId} {v e : FlatTerm} {bs : Bindings} {s : Known} → Unfolds told tops sc (1 + lo + pattern_numbers b.pattern) v n bs s n' → Binds_to told.sizes (1 + lo) b.pattern s sc inner → Stuck told tops inner (1 + lo + pattern_numbers b.pattern + numbers v) e → Stuck told tops sc lo (Let b v e)
    stuck_condition : {sc : Scope} {lo : ℕ} {c a b : FlatTerm} → Stuck told tops sc (1 + lo) c → Stuck told tops sc lo (If c a b)
    no_condition : {sc : Scope} {lo n n' : ℕ} {c a b : FlatTerm} {bs : Bindings} {s : Known} → Unfolds told tops sc (1 + lo) c n bs s n' → No_scalar s → Stuck told tops sc lo (If c a b)
    stuck_then : {sc : Scope} {lo n n' : ℕ} {c a b : FlatTerm} {bs : Bindings} {s : Known} → Unfolds told tops sc (1 + lo) c n bs s n' → Stuck told tops sc (1 + lo + numbers c) a → Stuck told tops sc lo (If c a b)
    then_function : {sc : Scope} {lo n n' : ℕ} {c a b : FlatTerm} {bs : Bindings} {s : Known} → Unfolds told tops sc (1 + lo + numbers c) a n bs s n' → No_data s → Stuck told tops sc lo (If c a b)
    stuck_else : {sc : Scope} {lo n n' : ℕ} {c a b : FlatTerm} {bs : Bindings} {s : Known} → Unfolds told tops sc (1 + lo + numbers c) a n bs s n' → Stuck told tops sc (1 + lo + numbers c + numbers a) b → Stuck told tops sc lo (If c a b)
    else_function : {sc : Scope} {lo n n' : ℕ} {c a b : FlatTerm} {bs : Bindings} {s : Known} → Unfolds told tops sc (1 + lo + numbers c + numbers a) b n bs s n' → No_data s → Stuck told tops sc lo (If c a b)
    stuck_first : {sc : Scope} {lo : ℕ} {mark : Place} {sizes : List BindId} {p : FlatPattern} {first body : FlatTerm} {turns : FlatTurns} → Stuck told tops sc (1 + lo + pattern_numbers p) first → Stuck told tops sc lo (Loop mark sizes p first turns body)
    first_function : {sc : Scope} {lo n n' : ℕ} {mark : Place} {sizes : List BindId} {p : FlatPattern} {first body : FlatTerm} {turns : FlatTurns} {bs : Bindings} {s : Known} → Unfolds told tops sc (1 + lo + pattern_numbers p) first n bs s n' → No_data s → Stuck told tops sc lo (Loop mark sizes p first turns body)
    stuck_turns : {sc : Scope} {lo n n' : ℕ} {mark : Place} {sizes : List BindId} {p : FlatPattern} {first body : FlatTerm} {turns : FlatTurns} {bs : Bindings} {s : Known} → Unfolds told tops sc (1 + lo + pattern_numbers p) first n bs s n' → Stuck_turns told tops sc (1 + lo + pattern_numbers p + numbers first) turns → Stuck told tops sc lo (Loop mark sizes p first turns body)
    no_turn : {sc : Scope} {lo : ℕ} {mark : Place} {sizes : List BindId} {p : FlatPattern} {first body : FlatTerm} {turns : FlatTurns} {h : Shape} {r : Known} → Carried told tops sc lo p first h r → Not_bound p r → Stuck told tops sc lo (Loop mark sizes p first turns body)
    no_row : {sc inside : Scope} {lo y : ℕ} {mark : Place} {sizes : List BindId} {p q : FlatPattern} {first rows body : FlatTerm} {h : Shape} {r : Known} → Carried told tops sc lo p first h r → Binds_to told.sizes (1 + lo) p r sc inside → Not_bound q (named y) → Stuck told tops sc lo (Loop mark sizes p first (Over q rows) body)
    stuck_test : {sc inner : Scope} {lo : ℕ} {mark : Place} {sizes : List BindId} {p : FlatPattern} {first test body : FlatTerm} {h : Shape} {r : Known} → Carried told tops sc lo p first h r → Binds_to told.sizes (1 + lo) p r sc inner → Stuck told tops inner (1 + lo + pattern_numbers p + numbers first) test → Stuck told tops sc lo (Loop mark sizes p first (While test) body)
    no_test : {sc inner : Scope} {lo n n' : ℕ} {mark : Place} {sizes : List BindId} {p : FlatPattern} {first test body : FlatTerm} {bs : Bindings} {h : Shape} {r s : Known} → Carried told tops sc lo p first h r → Binds_to told.sizes (1 + lo) p r sc inner → Unfolds told tops inner (1 + lo + pattern_numbers p + numbers first) test n bs s n' → No_scalar s
        → Stuck told tops sc lo (Loop mark sizes p first (While test) body)
    stuck_body : {sc inside inner : Scope} {lo : ℕ} {mark : Place} {sizes : List BindId} {p : FlatPattern} {first body : FlatTerm} {turns : FlatTurns} {h : Shape} {r : Known} → Carried told tops sc lo p first h r → Binds_to told.sizes (1 + lo) p r sc inside → Turn_names told tops sc inside (1 + lo + pattern_numbers p + numbers first) turns inner
        → Stuck told tops inner (1 + lo + pattern_numbers p + numbers first + turn_numbers turns) body → Stuck told tops sc lo (Loop mark sizes p first turns body)
    -- a turn gives a function
    turn_function : {sc inside inner : Scope} {lo n n' : ℕ} {mark : Place} {sizes : List BindId} {p : FlatPattern} {first body : FlatTerm} {turns : FlatTurns} {bs : Bindings} {h : Shape} {r s : Known} → Carried told tops sc lo p first h r → Binds_to told.sizes (1 + lo) p r sc inside → Turn_names told tops sc inside (1 + lo + pattern_numbers p + numbers first) turns inner
        → Unfolds told tops inner (1 + lo + pattern_numbers p + numbers first + turn_numbers turns) body n bs s n' → No_data s → Stuck told tops sc lo (Loop mark sizes p first turns body)

  -- terms from left to right
  pub data Stuck_all (told : Told) (tops : Tops) : Scope → ℕ → Terms Ref BindId → Type 0 where
    stuck_here : {sc : Scope} {lo : ℕ} {t : FlatTerm} {ts : Terms Ref BindId} → Stuck told tops sc lo t → Stuck_all told tops sc lo (term_and t ts)
    stuck_later : {sc : Scope} {lo n n' : ℕ} {t : FlatTerm} {ts : Terms Ref BindId} {bs : Bindings} {s : Known} → Unfolds told tops sc lo t n bs s n' → Stuck_all told tops sc (lo + numbers t) ts → Stuck_all told tops sc lo (term_and t ts)

  -- what says how many turns there are, outside of the loop
  pub data Stuck_turns (told : Told) (tops : Tops) : Scope → ℕ → FlatTurns → Type 0 where
    stuck_count : {sc : Scope} {at : ℕ} {i : BindId} {count : FlatTerm} → Stuck told tops sc (1 + at) count → Stuck_turns told tops sc at (Counted i count)
    no_count : {sc : Scope} {at n n' : ℕ} {i : BindId} {count : FlatTerm} {bs : Bindings} {s : Known} → Unfolds told tops sc (1 + at) count n bs s n' → No_scalar s → Stuck_turns told tops sc at (Counted i count)
    stuck_rows : {sc : Scope} {at : ℕ} {q : FlatPattern} {rows : FlatTerm} → Stuck told tops sc (at + pattern_numbers q) rows → Stuck_turns told tops sc at (Over q rows)
    no_rows : {sc : Scope} {at n n' : ℕ} {q : FlatPattern} {rows : FlatTerm} {bs : Bindings} {s : Known} → Unfolds told tops sc (at + pattern_numbers q) rows n bs s n' → No_scalar s → Stuck_turns told tops sc at (Over q rows)

  -- the application of what is known to an argument
  pub data Stuck_run (told : Told) (tops : Tops) : Known → Known → Type 0 where
    no_function : {h s : Known} → is_function h ≡ false → Stuck_run told tops h s
    no_parameter : {sc : Scope} {p : FlatPattern} {ps : Patterns Ref BindId} {e : FlatTerm} {lo : ℕ} {s : Known} → Not_bound p s → Stuck_run told tops (Function_known (pattern_and p ps) e lo sc) s
    stuck_result : {sc inner : Scope} {p : FlatPattern} {e : FlatTerm} {lo : ℕ} {s : Known} → Binds_to told.sizes (first_node (pattern_and p no_pattern) lo) p s sc inner → Stuck told tops inner lo e → Stuck_run told tops (Function_known (pattern_and p no_pattern) e lo sc) s
    no_primitive : {p : Primitive} {at : Place} {ss : Knowns} {s : Known} → nat_lt (length (listed ss ++ s ∷ [])) (arity p) ≡ false → is_of_scalars p ≡ true → No_primitive p at (listed ss ++ s ∷ []) → Stuck_run told tops (Primitive_known p at ss) s
    no_arguments : {p : Primitive} {at : Place} {ss : Knowns} {s : Known} → nat_lt (length (listed ss ++ s ∷ [])) (arity p) ≡ false → is_of_scalars p ≡ false → No_arguments p (listed ss ++ s ∷ []) → Stuck_run told tops (Primitive_known p at ss) s
    -- the function of a primitive on arrays, on names for its arguments
    stuck_job : {p : Primitive} {at : Place} {ss : Knowns} {s : Known} (xs : List ℕ) → nat_lt (length (listed ss ++ s ∷ [])) (arity p) ≡ false → is_of_scalars p ≡ false → length xs ≡ takes (parameters_of p) → Stuck_runs told tops (map named xs) (the_function p (listed ss ++ s ∷ [])) → Stuck_run told tops (Primitive_known p at ss) s
    job_function : {p : Primitive} {at : Place} {ss : Knowns} {s r : Known} {n n' : ℕ} {bs : Bindings} (xs : List ℕ) → nat_lt (length (listed ss ++ s ∷ [])) (arity p) ≡ false → is_of_scalars p ≡ false → length xs ≡ takes (parameters_of p) → Applies_all told tops (map named xs) (the_function p (listed ss ++ s ∷ [])) n bs r n' → No_data r → Stuck_run told tops (Primitive_known p at ss) s

  -- a function applied to arguments, one after the other
  pub data Stuck_runs (told : Told) (tops : Tops) : List Known → Known → Type 0 where
    stuck_run : {s f : Known} {ss : List Known} → Stuck_run told tops f s → Stuck_runs told tops (s ∷ ss) f
    stuck_on : {s f g : Known} {ss : List Known} {n n' : ℕ} {bs : Bindings} → Applies told tops f s n bs g n' → Stuck_runs told tops ss g → Stuck_runs told tops (s ∷ ss) f

-- the definitions that are reached, in their order
pub data Definitions_stuck (told : Told) (entry : ℕ) : Scope → Tops → List FlatTop → Type 0 where
  stuck_definition : {seen : Scope} {tops : Tops} {d : FlatTop} {ds : List FlatTop} → is_reached is_flat_use told.sizes entry ds d.number ≡ true → Stuck told tops seen d.first d.value → Definitions_stuck told entry seen tops (d ∷ ds)
  stuck_next : {seen : Scope} {tops : Tops} {d : FlatTop} {ds : List FlatTop} {n n' : ℕ} {bs : Bindings} {s : Known} → is_reached is_flat_use told.sizes entry ds d.number ≡ true → Unfolds told tops seen d.first d.value n bs s n' → Definitions_stuck told entry (seeing told.sizes (name_node d) s seen) ((d.number, s) ∷ tops) ds → Definitions_stuck told entry seen tops (d ∷ ds)
  stuck_other : {seen : Scope} {tops : Tops} {d : FlatTop} {ds : List FlatTop} → is_reached is_flat_use told.sizes entry ds d.number ≡ false → Definitions_stuck told entry seen tops ds → Definitions_stuck told entry seen tops (d ∷ ds)

-- a program from an entry on, whose parameters are data of these shapes
pub data Program_stuck (told : Told) (ds : List FlatTop) (entry : ℕ) (hs : Shapes) : Type 0 where
  in_definitions : Definitions_stuck told entry nothing_seen [] ds → Program_stuck told ds entry hs
  no_entry : {tops : Tops} {n n' : ℕ} {bs : Bindings} → Definitions_unfold told entry nothing_seen [] ds n bs tops n' → look tops entry ≡ None → Program_stuck told ds entry hs
  in_entry : {tops : Tops} {n n' : ℕ} {bs : Bindings} {f : Known} {arguments : Knowns} {us : List Atom} → Definitions_unfold told entry nothing_seen [] ds n bs tops n' → look tops entry ≡ Some f → All_laid hs arguments us [] → Stuck_runs told tops (listed arguments) f → Program_stuck told ds entry hs
  -- the result is or holds a function
  no_result : {tops : Tops} {n n1 n2 : ℕ} {bs cs : Bindings} {f s : Known} {arguments : Knowns} {us : List Atom} → Definitions_unfold told entry nothing_seen [] ds n bs tops n1 → look tops entry ≡ Some f → All_laid hs arguments us [] → Applies_all told tops (listed arguments) f n1 cs s n2 → No_data s → Program_stuck told ds entry hs
