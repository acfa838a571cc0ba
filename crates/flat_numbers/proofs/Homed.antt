-- The list of homes has one for each number, and they are those of the definition.
use Rattle.std.proofs.Common.{◌≡◌, ◌≢◌, ℕ, zero, suc, ◌+◌, ◌≤◌, ◌<◌, List, [], ◌∷◌, ◌++◌, map, length, replicate, slice_index_or, refl, sym, ◌∙◌, ap, subst, arith, false, Result, Ok, Err, IfOk}
use mathlib.Core.Logic.{◌⊎◌, inl, inr}
use native.Mathlib.Decide.{ℕ_discrete}
use Rattle.std.specs.List.{flat_map}
use Rattle.std.proofs.lemmas.List.{length-append, length-replicate, replicate-append-replicate}
use Rattle.fut_scalar.specs.declared.place.BindId.{BindId}
use Rattle.fut_flat.specs.declared.prim.Ref.{Ref}
use Rattle.fut_flat.specs.declared.program.Definition.{Definition}
use Rattle.fut_flat.specs.Terms.{Use, Strict, Lambda, Apply, Let, If, Loop, Terms, no_term, term_and, Counted, Over, While}
use Rattle.fut_flat.specs.Numbers.{pattern_numbers, all_pattern_numbers, own_numbers, numbers, all_numbers, turn_numbers}
use Rattle.fut_flat.specs.Erased.{FlatTerm, FlatTurns, parameters, term_of}
use Rattle.fut_typing.specs.Free.{has_types, is_written, differs}
use Rattle.fut_typing.specs.Homes.{At_home, Homed, All_homed, Turns_homed, home_in, depth_if, written_if}
use Rattle.fut_typing.specs.Program.{Defined, defined, program_numbers}
use Rattle.flat_numbers.specs.Listed.{one, homes_of, all_homes, turn_homes, value_homes, program_homes, Program_homed, AreHomes}
use Rattle.flat_numbers.specs.Trees.{exp_homes, definition_homes}
use Rattle.flat_numbers.specs.Noted.{Noted, full, noted}
use Rattle.flat_numbers.specs.declared.home_noting.Noting.{Noting}
use Rattle.fut_scalar.specs.declared.memory.NoMemory.{NoMemory}

two : (xs ys : List ℕ) (m n : ℕ) → length xs ≡ m → length ys ≡ n → length (xs ++ ys) ≡ m + n
two xs ys m n e f = length-append xs ys ∙ (λ i. e i + f i)

mutual
  unfolding homes_of

  pub long : (d w : ℕ) (t : FlatTerm) → length (homes_of d w t) ≡ numbers t
  long d w (Use r at k) = length-replicate (1 + (k + k)) d
  long d w (Strict o mark ts) = two (replicate (own_numbers o) (home_in (differs o) d w)) (all_homes d w ts) (own_numbers o) (all_numbers ts) (length-replicate (own_numbers o) (home_in (differs o) d w)) (long_all d w ts)
  long d w (Lambda ps e) = two (one d ++ replicate (all_pattern_numbers ps) d) (homes_of d w e) (1 + all_pattern_numbers ps) (numbers e) (two (one d) (replicate (all_pattern_numbers ps) d) 1 (all_pattern_numbers ps) refl (length-replicate (all_pattern_numbers ps) d)) (long d w e)
  long d w (Apply f e) = two (one d ++ homes_of d w f) (homes_of d w e) (1 + numbers f) (numbers e) (two (one d) (homes_of d w f) 1 (numbers f) refl (long d w f)) (long d w e)
  long d w (Let b v e) = two ((one d ++ replicate (pattern_numbers b.pattern) (depth_if b.is_function d)) ++ homes_of (depth_if b.is_function d) (written_if (is_written b) (1 + d) w) v) (homes_of d w e) (1 + pattern_numbers b.pattern + numbers v) (numbers e)
      (two (one d ++ replicate (pattern_numbers b.pattern) (depth_if b.is_function d)) (homes_of (depth_if b.is_function d) (written_if (is_written b) (1 + d) w) v) (1 + pattern_numbers b.pattern) (numbers v)
      (two (one d) (replicate (pattern_numbers b.pattern) (depth_if b.is_function d)) 1 (pattern_numbers b.pattern) refl (length-replicate (pattern_numbers b.pattern) (depth_if b.is_function d))) (long (depth_if b.is_function d) (written_if (is_written b) (1 + d) w) v)) (long d w e)
  long d w (If c t e) = two ((one d ++ homes_of d w c) ++ homes_of d w t) (homes_of d w e) (1 + numbers c + numbers t) (numbers e) (two (one d ++ homes_of d w c) (homes_of d w t) (1 + numbers c) (numbers t) (two (one d) (homes_of d w c) 1 (numbers c) refl (long d w c)) (long d w t)) (long d w e)
  long d w (Loop mark sizes p first turns body) = two (((one d ++ replicate (pattern_numbers p) d) ++ homes_of d w first) ++ turn_homes d w turns) (homes_of d w body) (1 + pattern_numbers p + numbers first + turn_numbers turns) (numbers body)
      (two ((one d ++ replicate (pattern_numbers p) d) ++ homes_of d w first) (turn_homes d w turns) (1 + pattern_numbers p + numbers first) (turn_numbers turns)
      (two (one d ++ replicate (pattern_numbers p) d) (homes_of d w first) (1 + pattern_numbers p) (numbers first) (two (one d) (replicate (pattern_numbers p) d) 1 (pattern_numbers p) refl (length-replicate (pattern_numbers p) d)) (long d w first)) (long_turns d w turns)) (long d w body)

  long_all : (d w : ℕ) (ts : Terms Ref BindId) → length (all_homes d w ts) ≡ all_numbers ts
  long_all d w no_term = refl
  long_all d w (term_and t ts) = two (homes_of d w t) (all_homes d w ts) (numbers t) (all_numbers ts) (long d w t) (long_all d w ts)

  long_turns : (d w : ℕ) (t : FlatTurns) → length (turn_homes d w t) ≡ turn_numbers t
  long_turns d w (Counted i n) = two (one d) (homes_of d w n) 1 (numbers n) refl (long d w n)
  long_turns d w (Over p e) = two (replicate (pattern_numbers p) d) (homes_of d w e) (pattern_numbers p) (numbers e) (length-replicate (pattern_numbers p) d) (long d w e)
  long_turns d w (While c) = long d w c

module _ (home : ℕ → ℕ) where
  -- the numbers from lo on have these homes
  abbrev At : ℕ → List ℕ → Type 0
  At lo [] = Unit {0}
  At lo (x ∷ xs) = (home lo ≡ x) × At (1 + lo) xs

  left : (lo : ℕ) (xs ys : List ℕ) → At lo (xs ++ ys) → At lo xs
  left lo [] ys h = tt
  left lo (x ∷ xs) ys h = (h.0, left (1 + lo) xs ys h.1)

  right : (lo m : ℕ) (xs ys : List ℕ) → m ≡ lo + length xs → At lo (xs ++ ys) → At m ys
  right lo m [] ys e h = subst (λ n. At n ys) (let z : lo ≡ m = omega arith in z) h
  right lo m (x ∷ xs) ys e h = right (1 + lo) m xs ys (omega arith) h.1

  same : (lo n d : ℕ) → At lo (replicate n d) → At_home home d lo n
  same lo zero d h m p q = absurd (omega arith)
  same lo (suc n) d h m p q = elim (here_or lo m p) as (λ x. home m ≡ d) [ inl e ↦ ap home e ∙ h.0 | inr r ↦ same (1 + lo) n d h.1 m r (omega arith) ]
    where
      apart : (lo m : ℕ) → lo ≤ m → m ≢ lo → 1 + lo ≤ m
      apart lo m p ne = omega arith

      here_or : (lo m : ℕ) → lo ≤ m → (m ≡ lo) ⊎ (1 + lo ≤ m)
      here_or lo m p = elim (ℕ_discrete m lo) as (λ x. (m ≡ lo) ⊎ (1 + lo ≤ m)) [ yes e ↦ inl e | no ne ↦ inr (apart lo m p ne) ]

  -- one home and so many more, then the rest
  first_same : (lo n d : ℕ) → At lo (one d ++ replicate n d) → At_home home d lo (1 + n)
  first_same lo n d h = same lo (1 + n) d (subst (At lo) (replicate-append-replicate 1 n d) h)

  mutual
    unfolding homes_of

    pub listed : (d w : ℕ) (t : FlatTerm) (lo : ℕ) → At lo (homes_of d w t) → Homed home d w t lo
    listed d w (Use r at k) lo h = same lo (1 + (k + k)) d h
    listed d w (Strict o mark ts) lo h = let own : List ℕ = replicate (own_numbers o) (home_in (differs o) d w) in let l : length own ≡ own_numbers o = length-replicate (own_numbers o) (home_in (differs o) d w) in
        (same lo (own_numbers o) (home_in (differs o) d w) (left lo own (all_homes d w ts) h), listed_all d w ts (lo + own_numbers o) (right lo (lo + own_numbers o) own (all_homes d w ts) (omega arith) h))
    listed d w (Lambda ps e) lo h = let x : List ℕ = one d ++ replicate (all_pattern_numbers ps) d in let l : length x ≡ 1 + all_pattern_numbers ps = two (one d) (replicate (all_pattern_numbers ps) d) 1 (all_pattern_numbers ps) refl (length-replicate (all_pattern_numbers ps) d) in
        (first_same lo (all_pattern_numbers ps) d (left lo x (homes_of d w e) h), listed d w e (1 + lo + all_pattern_numbers ps) (right lo (1 + lo + all_pattern_numbers ps) x (homes_of d w e) (omega arith) h))
    listed d w (Apply f e) lo h = let x : List ℕ = one d ++ homes_of d w f in let l : length x ≡ 1 + numbers f = two (one d) (homes_of d w f) 1 (numbers f) refl (long d w f) in let hx = left lo x (homes_of d w e) h in
        (hx.0, listed d w f (1 + lo) hx.1, listed d w e (1 + lo + numbers f) (right lo (1 + lo + numbers f) x (homes_of d w e) (omega arith) h))
    listed d w (Let b v e) lo h = let p : ℕ = pattern_numbers b.pattern in let deep : ℕ = depth_if b.is_function d in let u : ℕ = written_if (is_written b) (1 + d) w in
        let z : List ℕ = replicate p deep in let lz : length z ≡ p = length-replicate p deep in
        let y : List ℕ = one d ++ z in let ly : length y ≡ 1 + p = two (one d) z 1 p refl lz in
        let x : List ℕ = y ++ homes_of deep u v in let l : length x ≡ 1 + p + numbers v = two y (homes_of deep u v) (1 + p) (numbers v) ly (long deep u v) in
        let hx = left lo x (homes_of d w e) h in let hy = left lo y (homes_of deep u v) hx in
        (hy.0, same (1 + lo) p deep hy.1, listed deep u v (1 + lo + p) (right lo (1 + lo + p) y (homes_of deep u v) (omega arith) hx), listed d w e (1 + lo + p + numbers v) (right lo (1 + lo + p + numbers v) x (homes_of d w e) (omega arith) h))
    listed d w (If c t e) lo h = let y : List ℕ = one d ++ homes_of d w c in let ly : length y ≡ 1 + numbers c = two (one d) (homes_of d w c) 1 (numbers c) refl (long d w c) in
        let x : List ℕ = y ++ homes_of d w t in let l : length x ≡ 1 + numbers c + numbers t = two y (homes_of d w t) (1 + numbers c) (numbers t) ly (long d w t) in
        let hx = left lo x (homes_of d w e) h in let hy = left lo y (homes_of d w t) hx in
        (hy.0, listed d w c (1 + lo) hy.1, listed d w t (1 + lo + numbers c) (right lo (1 + lo + numbers c) y (homes_of d w t) (omega arith) hx), listed d w e (1 + lo + numbers c + numbers t) (right lo (1 + lo + numbers c + numbers t) x (homes_of d w e) (omega arith) h))
    listed d w (Loop mark sizes p first turns body) lo h = let q : ℕ = pattern_numbers p in
        let z : List ℕ = one d ++ replicate q d in let lz : length z ≡ 1 + q = two (one d) (replicate q d) 1 q refl (length-replicate q d) in
        let y : List ℕ = z ++ homes_of d w first in let ly : length y ≡ 1 + q + numbers first = two z (homes_of d w first) (1 + q) (numbers first) lz (long d w first) in
        let x : List ℕ = y ++ turn_homes d w turns in let l : length x ≡ 1 + q + numbers first + turn_numbers turns = two y (turn_homes d w turns) (1 + q + numbers first) (turn_numbers turns) ly (long_turns d w turns) in
        let hx = left lo x (homes_of d w body) h in let hy = left lo y (turn_homes d w turns) hx in let hz = left lo z (homes_of d w first) hy in (
          first_same lo q d hz,
          listed d w first (1 + lo + q) (right lo (1 + lo + q) z (homes_of d w first) (omega arith) hy),
          listed_turns d w turns (1 + lo + q + numbers first) (right lo (1 + lo + q + numbers first) y (turn_homes d w turns) (omega arith) hx),
          listed d w body (1 + lo + q + numbers first + turn_numbers turns) (right lo (1 + lo + q + numbers first + turn_numbers turns) x (homes_of d w body) (omega arith) h),
        )

    listed_all : (d w : ℕ) (ts : Terms Ref BindId) (lo : ℕ) → At lo (all_homes d w ts) → All_homed home d w ts lo
    listed_all d w no_term lo h = tt
    listed_all d w (term_and t ts) lo h = let l : length (homes_of d w t) ≡ numbers t = long d w t in (listed d w t lo (left lo (homes_of d w t) (all_homes d w ts) h), listed_all d w ts (lo + numbers t) (right lo (lo + numbers t) (homes_of d w t) (all_homes d w ts) (omega arith) h))

    listed_turns : (d w : ℕ) (t : FlatTurns) (lo : ℕ) → At lo (turn_homes d w t) → Turns_homed home d w t lo
    listed_turns d w (Counted i n) lo h = (h.0, listed d w n (1 + lo) h.1)
    listed_turns d w (Over p e) lo h = let l : length (replicate (pattern_numbers p) d) ≡ pattern_numbers p = length-replicate (pattern_numbers p) d in
        (same lo (pattern_numbers p) d (left lo (replicate (pattern_numbers p) d) (homes_of d w e) h), listed d w e (lo + pattern_numbers p) (right lo (lo + pattern_numbers p) (replicate (pattern_numbers p) d) (homes_of d w e) (omega arith) h))
    listed_turns d w (While c) lo h = listed d w c lo h

  -- a program
  program_listed : (ds : List Defined) (lo : ℕ) → At lo (program_homes ds) → Program_homed home ds lo
  unfolding program_homes
  program_listed [] lo h = tt
  program_listed (d ∷ ds) lo h = let p : ℕ = pattern_numbers d.name in let z : List ℕ = replicate p 1 in let lz : length z ≡ p = length-replicate p 1 in
      let y : List ℕ = z ++ value_homes d in let ly : length y ≡ p + numbers d.value = two z (value_homes d) p (numbers d.value) lz (long 1 (written_if (has_types d.parameters) 1 0) d.value) in let hy = left lo y (program_homes ds) h in
      (same lo p 1 (left lo z (value_homes d) hy), listed 1 (written_if (has_types d.parameters) 1 0) d.value (lo + p) (right lo (lo + p) z (value_homes d) (omega arith) hy), program_listed ds (lo + (p + numbers d.value)) (right lo (lo + (p + numbers d.value)) y (program_homes ds) (omega arith) h))

  all_at : (homes : List ℕ) (lo : ℕ) → ((n : ℕ) → n < length homes → home (lo + n) ≡ slice_index_or homes n 0) → At lo homes
  all_at [] lo h = tt
  all_at (x ∷ xs) lo h = ((let e : lo + 0 ≡ lo = omega arith in sym (ap home e) ∙ h 0 (omega arith)), all_at xs (1 + lo) (λ n lt. (let e : 1 + lo + n ≡ lo + suc n = omega arith in ap home e ∙ h (suc n) (omega arith))))

program_long : (ds : List Defined) → length (program_homes ds) ≡ program_numbers ds
unfolding program_homes
program_long [] = refl
program_long (d ∷ ds) = two (replicate (pattern_numbers d.name) 1 ++ value_homes d) (program_homes ds) (pattern_numbers d.name + numbers d.value) (program_numbers ds) (two (replicate (pattern_numbers d.name) 1) (value_homes d) (pattern_numbers d.name) (numbers d.value) (length-replicate (pattern_numbers d.name) 1) (long 1 (written_if (has_types d.parameters) 1 0) d.value)) (program_long ds)

definitions_are : (ds : List Definition) → flat_map definition_homes ds ≡ program_homes (map defined ds)
unfolding definition_homes exp_homes program_homes
definitions_are [] = refl
definitions_are (d ∷ ds) = ap (λ l. (one 1 ++ homes_of 1 (written_if (has_types (parameters d.heads.now)) 1 0) (term_of d.value.now)) ++ l) (definitions_are ds)

pub are_homes : (ds : List Definition) (homes : List ℕ) → homes ≡ [] ++ flat_map definition_homes ds → AreHomes homes (map defined ds)
are_homes ds homes is = let e : homes ≡ program_homes (map defined ds) = is ∙ definitions_are ds in record {
  long = ap length e ∙ program_long (map defined ds);
  homed = λ home h. program_listed home (map defined ds) 0 (subst (At home 0) e (all_at home homes 0 (λ n lt. (let z : 0 + n ≡ n = omega arith in ap home z ∙ h n lt))));
}

pub noted_homes : (ds : List Definition) (s t : Noting) (r : Result (List ℕ) NoMemory) → s.homes ≡ [] → Noted s t (flat_map definition_homes ds) → IfOk r (λ homes. (homes ≡ t.homes) × (t.is_full ≡ false)) → IfOk r (λ homes. AreHomes homes (map defined ds))
noted_homes ds s t (Ok homes) none (noted p e) is = are_homes ds homes (is.0 ∙ e ∙ ap (λ l. l ++ flat_map definition_homes ds) none)
noted_homes ds s t (Ok homes) none (full p) is = absurd cc
noted_homes ds s t (Err e) none n is = tt
