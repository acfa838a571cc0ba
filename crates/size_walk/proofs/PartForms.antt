-- Parts that are made where no term is gone into.
use Rattle.std.proofs.Common.{◌≡◌, ℕ, Bool, true, false, cond, List, [], ◌∷◌, length, map, Option, Some, None, Result, Ok, Err, refl, sym, ap, ◌∙◌, subst}
use Rattle.std.specs.Borrow.{Bor}
use Rattle.fut_scalar.specs.declared.place.BindId.{BindId}
use Rattle.fut_scalar.specs.declared.place.Place.{Place}
use Rattle.fut_flat.specs.declared.exp.Exp.{Exp}
use Rattle.fut_flat.specs.declared.exp.Let.{Let}
use Rattle.fut_flat.specs.declared.prim.Ref.{Ref}
use Rattle.fut_flat.specs.Terms.{Lambda, Operation, Patterns, Terms, Use}
use Rattle.fut_flat.specs.Erased.{FlatTerm, term_of}
use Rattle.fut_flat.proofs.ErasedForms.{row_of}
use Rattle.fut_types.specs.Types.{Sub}
use Rattle.fut_typing.specs.Names.{Names}
use Rattle.sized_types.specs.Sizes.{Size, Sizes}
use Rattle.fut_sizes.specs.Applications.{Argument, Early, Late, Met, Part, Want, is_use, named_value, whole}
use Rattle.fut_sizes.specs.Matching as matching
use Rattle.fut_sizes.specs.Operations.{operation}
use Rattle.fut_sizes.specs.Scopes.{Scope}
use Rattle.fut_sizes.specs.Sizing.{second_noted, sized, use_of}
use Rattle.fut_sizes.specs.Steps.{Step, give, and_then, note}
use Rattle.size_arena.specs.declared.agreeing.SizeErr.{SizeErr}
use Rattle.size_arena.specs.declared.agreeing.SizeErr.TheVariants as size_err
use Rattle.size_arena.specs.declared.dims.Free as frees
use Rattle.size_arena.specs.declared.trees.SizeTree.{SizeTree}
use Rattle.size_arena.specs.Trees.{size_of}
use Rattle.size_program.specs.declared.maps.NumberMap.{NumberMap}
use Rattle.size_program.specs.declared.program.Program.{Program}
use Rattle.size_program.specs.declared.tables.Tables.{Tables}
use Rattle.size_program.specs.Answers.{Answers, runs, Steps, Takes}
use Rattle.size_program.specs.Program.{sub_of}
use Rattle.size_program.specs.Tables.{In_scope}
use Rattle.size_program.proofs.StepLaws.{ask_stop, ask_then, given, out_of_memory, same_step, steps_stop, steps_then}
use Rattle.size_operations.specs.Values.{free_held}
use Rattle.size_applying.specs.declared.arguments.Argument as arguments
use Rattle.size_applying.specs.declared.arguments.Argument.TheVariants as argument
use Rattle.size_applying.specs.declared.arguments.Part as parts
use Rattle.size_applying.specs.declared.arguments.Part.TheVariants as part
use Rattle.size_applying.specs.Wanted.{Are_arguments, Is_argument, Is_part, Waits, is_applied, is_early, is_late, is_waiting, none_each, value_of}
use Rattle.size_forms.specs.Lets.{behind_heads}
use Rattle.size_forms.specs.Shown.{part_is}
use Rattle.size_forms.specs.Walked.{part_sized}
use Rattle.size_forms.proofs.StepForms.{memory, same_takes}
use Rattle.size_forms.proofs.WalkLaws.{use_is}
use Rattle.size_walk.specs.Walked.{operated_on, unapplied_argument}

-- ---- wholes

pub whole_is_part : (N : Names) (types : Sub) (t : Bor SizeTree) (xs : Bor (List arguments.Argument)) → xs.now ≡ [] → Is_part N types (part.Applied t false xs) (whole (size_of t.now))
whole_is_part N types t xs none = is_applied (subst (λ z. Each_argument z) (sym none) none_each)
  where
    Each_argument : List arguments.Argument → Type 0
    Each_argument z = Are_arguments N types z []

pub ruleset wholes = (whole_is_part)

-- ---- uses

module _ (types : Sub) (p : Program) (names : NumberMap) (r : Ref) (at : Place) (k : ℕ) (bs : List ℕ) (n : ℕ) (f : Tables) where
  pub used : (q : parts.Part) (next : ℕ) → ((N : Names) (scope : Scope) → In_scope names scope → Is_part N types q (use_of N types n scope r)) → Takes (part_is types) p names (part_sized types (Use r at k) bs n) f f (Ok (record { part = q; next = next }))
  used q next so = same_takes (part_is types) p names (λ N scope. give (use_of N types n scope r)) (part_sized types (Use r at k) bs n) f f (Ok (record { part = q; next = next })) (λ N scope s. sym (use_is N types scope r at k bs n s))
      (record { takes = λ N scope knows within. given (part_is types N) (record { part = q; next = next }) (use_of N types n scope r) f (so N scope within) })

  use_memory : Takes (part_is types) p names (part_sized types (Use r at k) bs n) f f (Err size_err.Memory)
  use_memory = memory (part_is types) p names (part_sized types (Use r at k) bs n) f f

pub ruleset uses = (used, memory)

-- ---- arguments

-- two ways to say what a size is worth
pub same_value : (d : Option frees.Free) → free_held d ≡ value_of d
same_value (Some d) = refl
same_value None = refl

module _ (N : Names) (types : Sub) (e : FlatTerm) (n : ℕ) (t : Bor SizeTree) (d : Option frees.Free) (value : free_held d ≡ named_value e) where
  worth : value_of d ≡ named_value e
  worth = sym (same_value d) ∙ value

  early_as : (b : Bool) → b ≡ is_use e → (u : Size) → u ≡ size_of t.now → Is_argument N types (argument.Early n d b t) (Early n (named_value e) (is_use e) u)
  early_as b used_so u same = subst (λ z. Is_argument N types (argument.Early n d b t) z) (ap (λ z. Early n z b (size_of t.now)) worth ∙ ap (λ z. Early n (named_value e) z (size_of t.now)) used_so ∙ ap (Early n (named_value e) (is_use e)) (sym same)) is_early

  pub use_stays : (f : Tables) → true ≡ is_use e → Steps (Is_argument N types) (unapplied_argument n e (size_of t.now)) f f (Ok (argument.Early n d true t))
  use_stays f used_so = same_step (Is_argument N types) (give (Early n (named_value e) (is_use e) (size_of t.now))) (unapplied_argument n e (size_of t.now)) f f (Ok (argument.Early n d true t))
      (λ s. ap (λ z. and_then (cond z (give (size_of t.now)) (note n (size_of t.now))) (λ u. give (Early n (named_value e) (is_use e) u)) s) used_so) (given (Is_argument N types) (argument.Early n d true t) (Early n (named_value e) (is_use e) (size_of t.now)) f (early_as true used_so (size_of t.now) refl))

  module _ (f g : Tables) (used_so : false ≡ is_use e) where
    as_noted : {B : Type 0} (R : B → Argument → Type 0) (r : Result B SizeErr) → Steps R (and_then (note n (size_of t.now)) (λ u. give (Early n (named_value e) (is_use e) u))) f g r → Steps R (unapplied_argument n e (size_of t.now)) f g r
    as_noted R r x = same_step R (and_then (note n (size_of t.now)) (λ u. give (Early n (named_value e) (is_use e) u))) (unapplied_argument n e (size_of t.now)) f g r (λ s. ap (λ z. and_then (cond z (give (size_of t.now)) (note n (size_of t.now))) (λ u. give (Early n (named_value e) (is_use e) u)) s) used_so) x

    pub noted_argument : (o : Result (Unit {0}) SizeErr) (u : Unit {0}) → o ≡ Ok u → Steps (λ (z : Unit {0}) y. y ≡ size_of t.now) (note n (size_of t.now)) f g o → Steps (Is_argument N types) (unapplied_argument n e (size_of t.now)) f g (Ok (argument.Early n d false t))
    noted_argument o u is first = as_noted (Is_argument N types) (Ok (argument.Early n d false t)) (steps_then (λ (z : Unit {0}) y. y ≡ size_of t.now) (Is_argument N types) (note n (size_of t.now)) (λ u. give (Early n (named_value e) (is_use e) u)) f g g o u (Ok (argument.Early n d false t)) is first
        (λ y same. given (Is_argument N types) (argument.Early n d false t) (Early n (named_value e) (is_use e) y) g (early_as false used_so y same)))

    pub not_noted : (o : Result (Unit {0}) SizeErr) (x : SizeErr) → o ≡ Err x → Steps (λ (z : Unit {0}) y. y ≡ size_of t.now) (note n (size_of t.now)) f g o → Steps (Is_argument N types) (unapplied_argument n e (size_of t.now)) f g (Err x)
    not_noted o x is first = as_noted (Is_argument N types) (Err x) (steps_stop (λ (z : Unit {0}) y. y ≡ size_of t.now) (Is_argument N types) (note n (size_of t.now)) (λ u. give (Early n (named_value e) (is_use e) u)) f g g o x is first)

pub ruleset unapplieds = (use_stays, noted_argument, not_noted)

late_waits : (N : Names) (types : Sub) (e : Bor Exp) (m n : ℕ) (names : Bor NumberMap) (bs : Bor (List ℕ)) (f : Option Want → matching.Found → Step Met) → m ≡ n → length bs.now ≡ 0 → Waits N types e.now m names.now bs.now f → Is_argument N types (argument.Late e m names) (Late n f)
late_waits N types e m n names bs f same none waits = subst (λ z. Is_argument N types (argument.Late e m names) (Late z f)) same (is_late (subst (λ z. Waits N types e.now m names.now z f) (nothing bs.now none) waits))
  where
    nothing : (xs : List ℕ) → length xs ≡ 0 → xs ≡ []
    nothing [] none = refl
    nothing (x ∷ xs) none = cc

pub late_given : (N : Names) (types : Sub) (e : Bor Exp) (m n : ℕ) (names : Bor NumberMap) (bs : Bor (List ℕ)) (f : Option Want → matching.Found → Step Met) (t : Tables) → m ≡ n → length bs.now ≡ 0 → Waits N types e.now m names.now bs.now f → Steps (Is_argument N types) (give (Late n f)) t t (Ok (argument.Late e m names))
late_given N types e m n names bs f t same none waits = given (Is_argument N types) (argument.Late e m names) (Late n f) t (late_waits N types e m n names bs f same none waits)

pub ruleset lates = (late_given, out_of_memory)

-- a lambda waits
pub lambda_part : (p : Program) (f : Tables) (ps : Patterns Ref BindId) (e : FlatTerm) (x : Bor Exp) (n : ℕ) (names : Bor NumberMap) (bs : Bor (List ℕ)) (next : ℕ) → term_of x.now ≡ Lambda ps e → Takes (part_is (sub_of p.types.now)) p names.now (part_sized (sub_of p.types.now) (term_of x.now) bs.now n) f f (Ok (record { part = part.Waiting x n names bs; next = next }))
unfolding sized
lambda_part p f ps e x n names bs next is = record {
  takes = λ N scope knows within. record {
    steps = λ s stands. runs s (ap (λ z. sized N (sub_of p.types.now) z bs.now n scope s) is) (is_waiting (record { scope = scope; in_scope = within; sized_so = λ t. ap (λ z. sized N (sub_of p.types.now) z bs.now n scope t) is })) stands;
  };
}

pub ruleset waits = (lambda_part, memory)

-- ---- operations

abbrev pub told_whole : Bor SizeTree → Part → Type 0
told_whole t y = y ≡ whole (size_of t.now)

module _ (N : Names) (types : Sub) (o : Operation Ref BindId) (ts : Terms Ref BindId) (n first : ℕ) (us : Sizes) (f g : Tables) (k : Result (Bor SizeTree) SizeErr) (operates : Answers (λ (t : Bor SizeTree) y. y ≡ size_of t.now) (operation N types o n first ts us) k) where
  abbrev noted_then : Size → Step Part
  noted_then t = and_then (second_noted N types o n us) (λ z. give (whole t))

  pub operation_stops : (x : SizeErr) → k ≡ Err x → Steps told_whole (operated_on N types o ts n first us) f g (Err x)
  operation_stops x is = ask_stop (λ (t : Bor SizeTree) y. y ≡ size_of t.now) told_whole (operation N types o n first ts us) noted_then f g k x is operates

  module _ (t : Bor SizeTree) (is : k ≡ Ok t) (j : Result (Unit {0}) SizeErr) (notes : Steps (λ u y. y ≡ u) (second_noted N types o n us) f g j) where
    pub second_stops : (x : SizeErr) → j ≡ Err x → Steps told_whole (operated_on N types o ts n first us) f g (Err x)
    second_stops x so = ask_then (λ (t : Bor SizeTree) y. y ≡ size_of t.now) told_whole (operation N types o n first ts us) noted_then f g k t (Err x) is operates
        (λ y same. steps_stop (λ (u : Unit {0}) y. y ≡ u) told_whole (second_noted N types o n us) (λ z. give (whole y)) f g g j x so notes)

    pub operated : (u : Unit {0}) → j ≡ Ok u → Steps told_whole (operated_on N types o ts n first us) f g (Ok t)
    operated u so = ask_then (λ (t : Bor SizeTree) y. y ≡ size_of t.now) told_whole (operation N types o n first ts us) noted_then f g k t (Ok t) is operates
        (λ y same. steps_then (λ (u : Unit {0}) y. y ≡ u) told_whole (second_noted N types o n us) (λ z. give (whole y)) f g g j u (Ok t) so notes (λ z done. given told_whole t (whole y) g (ap whole same)))

pub ruleset operates = (operation_stops, second_stops, operated, out_of_memory)

-- ---- size names behind lets

pub heads_stay : (ls : List Let) (bs : List ℕ) → length ls ≡ 0 → bs ≡ behind_heads (map row_of ls) bs
heads_stay [] bs none = refl
heads_stay (l ∷ ls) bs none = cc

pub heads_gone : (ls : List Let) (bs cs : List ℕ) → (length ls ≡ 0 → ⊥) → cs ≡ [] → cs ≡ behind_heads (map row_of ls) bs
heads_gone [] bs cs some none = elim (some refl) [ ]
heads_gone (l ∷ ls) bs cs some none = none

pub ruleset heads = (heads_stay, heads_gone)
