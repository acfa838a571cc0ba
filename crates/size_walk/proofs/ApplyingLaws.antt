-- A function is given its arguments, one after another.
use Rattle.std.proofs.Common.{◌≡◌, ℕ, zero, suc, ◌+◌, ◌<◌, List, [], ◌∷◌, length, get_or, drop, Ok, Err, refl, sym, ap, ◌∙◌, subst, arith}
use Rattle.std.specs.Borrow.{Bor}
use Rattle.fut_flat.specs.declared.exp.Exp.{Exp}
use Rattle.fut_flat.specs.Terms.{Apply}
use Rattle.fut_flat.specs.Numbers.{numbers}
use Rattle.fut_flat.specs.Erased.{FlatTerm, term_of}
use Rattle.fut_types.specs.Types.{Sub}
use Rattle.fut_typing.specs.Names.{Names}
use Rattle.fut_sizes.specs.Applications.{Argument, Part}
use Rattle.fut_sizes.specs.Sizing.{sized, with_argument}
use Rattle.alias_parts.specs.Known.{Knows}
use Rattle.size_arena.specs.declared.agreeing.SizeErr.{SizeErr}
use Rattle.size_arena.proofs.Parts.{drop_past}
use Rattle.size_program.specs.declared.maps.NumberMap.{NumberMap}
use Rattle.size_program.specs.declared.program.Program.{Program}
use Rattle.size_program.specs.declared.tables.Tables.{Tables}
use Rattle.size_program.specs.Answers.{Steps, Takes}
use Rattle.size_applying.specs.declared.arguments.Argument as arguments
use Rattle.size_applying.specs.declared.arguments.Part as parts
use Rattle.size_applying.specs.Wanted.{Is_argument, Is_part}
use Rattle.size_forms.specs.declared.walked.Given.{Given}
use Rattle.size_forms.specs.declared.walked.Walked.{Walked}
use Rattle.size_forms.specs.Shown.{argument_is, part_is}
use Rattle.size_forms.specs.Walked.{argument_sized, part_sized}
use Rattle.size_walk.specs.Walked.{Has_arguments, applied_to, terms_of}
use Rattle.size_walk.proofs.Joining.{retold}
use Rattle.size_walk.proofs.SpineLaws.{Given_so_far, argument_given, argument_refused_there, function_is, has_none, spine_stops}

-- the argument at a place, and those behind it
term_at : (xs : List (Bor Exp)) (i : ℕ) (x : Bor Exp) → i < length xs → drop i (terms_of xs) ≡ term_of (get_or xs i x).now ∷ drop (suc i) (terms_of xs)
term_at [] i x l = absurd (omega (arith, l))
term_at (y ∷ ys) zero x l = refl
term_at (y ∷ ys) (suc i) x l = term_at ys i x (omega (arith, l))

terms_length : (xs : List (Bor Exp)) → length (terms_of xs) ≡ length xs
terms_length [] = refl
terms_length (x ∷ xs) = ap suc (terms_length xs)

module _ (types : Sub) (p : Program) (names : NumberMap) (h : FlatTerm) (xs : List (Bor Exp)) (lo : ℕ) (f : Tables) where
  abbrev So_far : ℕ → parts.Part → List arguments.Argument → ℕ → Tables → Type 0
  So_far left q as_given next g = Given_so_far types p names h (terms_of xs) lo f left q as_given next g

  all_left : (left : ℕ) → left ≡ length xs → drop left (terms_of xs) ≡ []
  all_left left all = drop_past (terms_of xs) left (let a = terms_length xs in omega (arith, all, a))

  pub given_begins : (g : Tables) (w : Walked) (left first : ℕ) (ys : List arguments.Argument) → left ≡ length xs → ys ≡ [] → first ≡ lo + left → Takes (part_is types) p names (part_sized types h [] first) f g (Ok w) → w.next ≡ first + numbers h → So_far left w.part ys w.next g
  given_begins g w left first ys all none at sized_so number = record {
    sized_so = subst (λ z. Takes (function_is types p names z) p names (part_sized types (applied_to h (drop left (terms_of xs))) [] (lo + left)) f g (Ok w.part)) (sym none)
        (subst (λ z. Takes (function_is types p names []) p names (part_sized types (applied_to h z) [] (lo + left)) f g (Ok w.part)) (sym (all_left left all))
        (subst (λ z. Takes (function_is types p names []) p names (part_sized types h [] z) f g (Ok w.part)) at begun));
    number = number ∙ ap (λ z. z + numbers h) at ∙ ap (λ z. lo + left + numbers (applied_to h z)) (sym (all_left left all));
    within = let a = terms_length xs in omega (arith, all, a);
  }
    where
      begun : Takes (function_is types p names []) p names (part_sized types h [] first) f g (Ok w.part)
      begun = record { takes = λ N scope knows within. retold (part_is types N) (function_is types p names [] N) (sized N types h [] first scope) f g w w.part (λ y so. has_none N types so) (sized_so.takes N scope knows within) }

  pub head_stops : (whole : FlatTerm) (g k : Tables) (left first : ℕ) (x : SizeErr) → whole ≡ applied_to h (terms_of xs) → left ≡ length xs → first ≡ lo + left → Takes (part_is types) p names (part_sized types h [] first) f g (Err x) → Takes (part_is types) p names (part_sized types whole [] lo) f g (Err x)
  head_stops whole g k left first x is all at stops = subst (λ z. Takes (part_is types) p names (part_sized types z [] lo) f g (Err x)) (sym is) (spine_stops types p names (part_is types) (part_is types) h f g x (terms_of xs) left lo (let a = terms_length xs in omega (arith, all, a))
      (subst (λ z. Takes (part_is types) p names (part_sized types (applied_to h z) [] (lo + left)) f g (Err x)) (sym (all_left left all)) (subst (λ z. Takes (part_is types) p names (part_sized types h [] z) f g (Err x)) at stops)))

  module _ (left less : ℕ) (q : parts.Part) (ys : List arguments.Argument) (next : ℕ) (g : Tables) (so_far : So_far left q ys next g) (one : left ≡ suc less) (x : Bor Exp) where
    abbrev the_term : FlatTerm
    the_term = term_of (get_or xs less x).now

    there : less < length xs
    there = let a = terms_length xs in omega (arith, so_far.within, one, a)

    here : drop less (terms_of xs) ≡ the_term ∷ drop left (terms_of xs)
    here = term_at xs less x there ∙ ap (λ z. the_term ∷ drop z (terms_of xs)) (sym one)

    apart : applied_to h (drop less (terms_of xs)) ≡ Apply (applied_to h (drop left (terms_of xs))) the_term
    apart = ap (applied_to h) here

    stops_there : {B : Type 0} (R : Names → B → Part → Type 0) (whole : FlatTerm) (k : Tables) (y : SizeErr) → whole ≡ applied_to h (terms_of xs) → Takes R p names (part_sized types (Apply (applied_to h (drop left (terms_of xs))) the_term) [] (lo + less)) f k (Err y) → Takes (part_is types) p names (part_sized types whole [] lo) f k (Err y)
    stops_there R whole k y is stops = subst (λ z. Takes (part_is types) p names (part_sized types z [] lo) f k (Err y)) (sym is) (spine_stops types p names R (part_is types) h f k y (terms_of xs) less lo (let a = terms_length xs in let b = there in omega (arith, a, b))
        (subst (λ z. Takes R p names (part_sized types z [] (lo + less)) f k (Err y)) (sym apart) stops))

    pub argument_stops_there : (whole : FlatTerm) (k : Tables) (y : SizeErr) → whole ≡ applied_to h (terms_of xs) → Takes (argument_is types) p names (argument_sized types the_term next) g k (Err y) → Takes (part_is types) p names (part_sized types whole [] lo) f k (Err y)
    argument_stops_there whole k y is stops = stops_there (part_is types) whole k y is (argument_refused_there types p names (applied_to h (drop left (terms_of xs))) the_term (lo + less) (lo + left) next (omega (arith, one)) so_far.number f g k (function_is types p names ys) (part_is types) q so_far.sized_so y k stops)

    module _ (b : Given) (k : Tables) (second : Takes (argument_is types) p names (argument_sized types the_term next) g k (Ok b)) where
      pub give_stops_there : (whole : FlatTerm) (l : Tables) (y : SizeErr) (zs : List arguments.Argument) → whole ≡ applied_to h (terms_of xs) → ((N : Names) → Knows p.names N → (c : Part) → Has_arguments N types q ys c → (a : Argument) → Is_argument N types b.argument a → Steps (λ r. Has_arguments N types r zs) (with_argument N types c a) k l (Err y))
          → Takes (part_is types) p names (part_sized types whole [] lo) f l (Err y)
      give_stops_there whole l y zs is gives = stops_there (function_is types p names zs) whole l y is (argument_given types p names (applied_to h (drop left (terms_of xs))) the_term (lo + less) (lo + left) next (omega (arith, one)) so_far.number f g l (function_is types p names ys) (function_is types p names zs) q so_far.sized_so b k (Err y) second gives)

      pub given_goes : (r : parts.Part) (zs : List arguments.Argument) (l : Tables) → b.next ≡ next + numbers the_term → ((N : Names) → Knows p.names N → (c : Part) → Has_arguments N types q ys c → (a : Argument) → Is_argument N types b.argument a → Steps (λ r. Has_arguments N types r zs) (with_argument N types c a) k l (Ok r))
          → So_far less r zs b.next l
      given_goes r zs l number gives = record {
        sized_so = subst (λ z. Takes (function_is types p names zs) p names (part_sized types z [] (lo + less)) f l (Ok r)) (sym apart) (argument_given types p names (applied_to h (drop left (terms_of xs))) the_term (lo + less) (lo + left) next (omega (arith, one)) so_far.number f g l (function_is types p names ys) (function_is types p names zs) q so_far.sized_so b k (Ok r) second gives);
        number = number ∙ ap (λ z. z + numbers the_term) so_far.number ∙ omega (arith, one) ∙ ap (λ z. lo + less + numbers z) (sym apart);
        within = let a = terms_length xs in let b = there in omega (arith, a, b);
      }

  module _ (left : ℕ) (q : parts.Part) (ys : List arguments.Argument) (next : ℕ) (g : Tables) (so_far : So_far left q ys next g) (none : left ≡ 0) where
    pub given_ends : (whole : FlatTerm) (w : Walked) → whole ≡ applied_to h (terms_of xs) → ((N : Names) (c : Part) → Has_arguments N types q ys c → Is_part N types w.part c) → Takes (part_is types) p names (part_sized types whole [] lo) f g (Ok w)
    given_ends whole w is gathers = record {
      takes = λ N scope knows within. subst (λ z. Steps (part_is types N) (sized N types z [] lo scope) f g (Ok w)) (sym is)
          (subst (λ z. Steps (part_is types N) (sized N types (applied_to h (terms_of xs)) [] z scope) f g (Ok w)) (omega (arith, none))
          (subst (λ z. Steps (part_is types N) (sized N types (applied_to h (drop z (terms_of xs))) [] (lo + left) scope) f g (Ok w)) none
          (retold (function_is types p names ys N) (part_is types N) (sized N types (applied_to h (drop left (terms_of xs))) [] (lo + left) scope) f g q w (λ y has. gathers N y has) (so_far.sized_so.takes N scope knows within))));
    }

    pub given_number : (whole : FlatTerm) → whole ≡ applied_to h (terms_of xs) → next ≡ lo + numbers whole
    given_number whole is = so_far.number ∙ ap (λ z. lo + left + numbers (applied_to h (drop z (terms_of xs)))) none ∙ omega (arith, none) ∙ ap (λ z. lo + numbers z) (sym is)
