-- A program that elaboration makes has a sizing, which is right about the names of sizes.
use Rattle.std.proofs.Common.{◌≡◌, ℕ, ◌+◌, ◌≤◌, List, [], ◌∷◌, ◌++◌, Bool, true, false, cond, nat_eq, map, flat_map, length, Option, Some, None, refl, sym, ap, ◌∙◌, subst, arith}
use Rattle.std.specs.List.{Contains}
use Rattle.std.proofs.lemmas.Bool.Decides.{nat_tests}
use Rattle.std.proofs.lemmas.List.Sums.{sum_by-cons}
use Rattle.fut_ast.specs.Sorts.{Text}
use Rattle.fut_flat.specs.declared.program.Definition.{Definition}
use Rattle.fut_flat.specs.declared.program.Flat.{Flat}
use Rattle.fut_meaning.specs.Found.{Sizing}
use Rattle.fut_typing.specs.Names.{Names}
use Rattle.fut_typing.specs.Program.{defined, program_of}
use Rattle.elab_laws.specs.Binders.{definition_binders}
use Rattle.elab_laws.specs.OnceClaims.{defined_of, definitions_of}
use Rattle.elab_laws.specs.Used.{Definitions_bound, Definitions_are_no_sizes}
use Rattle.elab_laws.proofs.Programs.{each_is_bound_once}
use Rattle.elab_laws.proofs.Times.{times, once}
use Rattle.elab_laws.proofs.Uses.{uses_are_told}
use Rattle.module_elab.specs.Elaborated.{definition_of, program_of as flat_of}
use Rattle.type_soundness.specs.Formed.{Definitions_apart}
use Rattle.sizing_tables.specs.Bound.{is_among, program_names, program_sizes, size_numbers, sizes_of}
use Rattle.sizing_tables.specs.Claims.{Is_resolved, SizingIsThere, SizingIsTold}
use Rattle.sizing_tables.specs.Told.{label_texts, sizing_of}
use Rattle.sizing_tables.proofs.Apart.{Each_size, Each_other, size_left, size_right, definitions_apart, bound, bound_parameters}
use Rattle.sizing_tables.specs.Containing.{here, there}
use Rattle.sizing_tables.proofs.Homes.{home_is}
use Rattle.sizing_tables.proofs.Once.{bound_in, bound_times, program_once}

-- ---- each number is bound once

same_definitions : (ds : List Definition) → map defined_of (map definition_of ds) ≡ map defined ds
same_definitions [] = refl
same_definitions (d ∷ ds) = ap (λ l. defined d ∷ l) (same_definitions ds)

few : (flat : Flat) → Is_resolved flat → (n : ℕ) → bound_times n (program_names (program_of flat)) + times n (program_sizes (program_of flat)) ≤ 1
few flat r n =
    let each = once (length (flat_of flat).names) (flat_map definition_binders (definitions_of (flat_of flat))) (each_is_bound_once r.0 (flat_of flat) r.1) n in
    let all : times n (flat_map definition_binders (program_of flat)) ≤ 1 = subst (λ l. times n (flat_map definition_binders l) ≤ 1) (same_definitions flat.definitions.now) each in
    omega (arith, program_once n (program_of flat), all)

-- ---- there is a sizing

texts_are : (N : Names) (ls : List ℕ) (named : (l : ℕ) → Contains ls l → (s : Text) × (l ≡ N.label s)) → map N.label (label_texts N ls named) ≡ ls
texts_are N [] named = refl
texts_are N (l ∷ ls) named = (λ i. (sym (named l (here l ls)).1 i) ∷ texts_are N ls (λ k c. named k (there l ls k c)) i)

pub sizing_is_there : SizingIsThere
unfolding sizing_of
sizing_is_there flat r N names sizes = record {
  nodes = λ n. refl;
  homes = λ q o g b. home_is b (program_names (program_of flat)) (let f = few flat r b in omega (arith, f)) q o g;
  fields = λ n. texts_are N (N.shapes.fields n) (names.named n);
  are_sizes = λ k. refl;
  used = λ node. refl;
}

-- ---- which is right about the names of sizes

among_first : (k n : ℕ) (ns : List ℕ) → nat_eq n k ≡ true → is_among k (n ∷ ns) ≡ true
unfolding is_among
among_first k n ns e = ap (λ b. cond b true (is_among k ns)) e

among_more : (k n : ℕ) (ns : List ℕ) → is_among k ns ≡ true → is_among k (n ∷ ns) ≡ true
unfolding is_among
among_more k n ns h = by (nat_eq n k)
  where
    by : (b : Bool) → cond b true (is_among k ns) ≡ true
    by true = refl
    by false = h

all_among : (S : ℕ → Bool) (ns : List ℕ) → ((k : ℕ) → is_among k ns ≡ true → S k ≡ true) → Each_size S ns
all_among S [] h = tt
all_among S (n ∷ ns) h = (h n (among_first n n ns (let e : n ≡ n = refl in grind (arith, nat_tests))), all_among S ns (λ k a. h k (among_more k n ns a)))

not_among : (k : ℕ) (ns : List ℕ) → times k ns ≡ 0 → is_among k ns ≡ false
unfolding is_among
not_among k [] none = refl
not_among k (n ∷ ns) none = by (nat_eq n k) refl (not_among k ns (let y = sum_by-cons (λ m. cond (nat_eq k m) 1 0) n ns in omega (arith, y, none)))
  where
    by : (b : Bool) → nat_eq n k ≡ b → is_among k ns ≡ false → cond b true (is_among k ns) ≡ false
    by true e f = absurd (let z : nat_eq k n ≡ true = grind (arith, nat_tests) in let y = sum_by-cons (λ m. cond (nat_eq k m) 1 0) n ns in let x : ◌≡◌ {A = ℕ} (cond (nat_eq k n) 1 0) 1 = ap (λ b. cond b 1 0) z in omega (arith, y, x, none))
    by false e f = f

others : (S : ℕ → Bool) (os : List (Option ℕ)) → ((b : ℕ) → 1 ≤ bound_times b os → S b ≡ false) → Each_other S os
unfolding bound_in
others S [] h = tt
others S (None ∷ os) h = others S os h
others S (Some b ∷ os) h = (
  h b (let y = sum_by-cons (λ m. cond (nat_eq b m) 1 0) b (bound_in os) in let z : nat_eq b b ≡ true = (let e : b ≡ b = refl in grind (arith, nat_tests)) in let x : ◌≡◌ {A = ℕ} (cond (nat_eq b b) 1 0) 1 = ap (λ b. cond b 1 0) z in omega (arith, y, x)),
  others S os (λ c s. h c (let y = sum_by-cons (λ m. cond (nat_eq c m) 1 0) b (bound_in os) in omega (arith, y, s))),
)

module _ (Z : Sizing) where
  all_definitions_bound : (ds : List Definition) → Each_size Z.is_size (program_sizes (map defined ds)) → Definitions_bound (Some Z) (map definition_of ds)
  unfolding program_sizes
  all_definitions_bound [] s = tt
  all_definitions_bound (d ∷ ds) s =
      let e = defined d in
      let s1 = size_left Z.is_size (size_numbers e.parameters ++ sizes_of e.value) (program_sizes (map defined ds)) s in (
        bound_parameters Z e.parameters (size_left Z.is_size (size_numbers e.parameters) (sizes_of e.value) s1),
        bound Z e.value (size_right Z.is_size (size_numbers e.parameters) (sizes_of e.value) s1),
        all_definitions_bound ds (size_right Z.is_size (size_numbers e.parameters ++ sizes_of e.value) (program_sizes (map defined ds)) s),
      )

are_no_sizes : (S : ℕ → Bool) (ds : List Definition) → Definitions_apart S (map defined ds) → Definitions_are_no_sizes S (map definition_of ds)
are_no_sizes S [] a = tt
are_no_sizes S (d ∷ ds) a = (a.0.1, are_no_sizes S ds a.2)

pub sizing_is_told : SizingIsTold
sizing_is_told flat r N sizes Z is =
    let each = all_among Z.is_size (program_sizes (program_of flat)) (λ k a. is.are_sizes k ∙ a) in
    let other = others Z.is_size (program_names (program_of flat)) (λ b s. is.are_sizes b ∙ not_among b (program_sizes (program_of flat)) (let f = few flat r b in omega (arith, f, s))) in (
      uses_are_told r.0 (flat_of flat) r.1 Z (all_definitions_bound Z flat.definitions.now each) (are_no_sizes Z.is_size flat.definitions.now (definitions_apart Z.is_size (program_of flat) each other)) is.used,
      definitions_apart Z.is_size (program_of flat) each other,
    )
