-- Compositions, from the answers for their functions and their lambda.
use Rattle.std.proofs.Common.{◌≡◌, ℕ, ◌+◌, Bool, List, [], Some, Result, Ok, Err, refl, sym, ap, ◌∙◌, subst}
use Rattle.std.specs.Borrow.{Bor}
use Rattle.fut_flat.specs.Terms.{Let}
use Rattle.fut_flat.specs.Erased.{FlatTerm, Row}
use Rattle.fut_types.specs.Types.{Sub}
use Rattle.fut_typing.specs.Names.{Names}
use Rattle.sized_types.specs.Sizes.{Size}
use Rattle.fut_sizes.specs.Applications.{Argument, Part, whole}
use Rattle.fut_sizes.specs.Compositions.{composition}
use Rattle.fut_sizes.specs.Scopes.{Scope}
use Rattle.fut_sizes.specs.Sizing.{composition_met, sized, wanted_as}
use Rattle.fut_sizes.specs.Steps.{Step, give, and_then, note}
use Rattle.alias_parts.specs.Known.{Knows}
use Rattle.size_arena.specs.declared.agreeing.SizeErr.{SizeErr}
use Rattle.size_arena.specs.declared.trees.SizeTree.{SizeTree}
use Rattle.size_arena.specs.Trees.{size_of}
use Rattle.size_program.specs.declared.maps.NumberMap.{NumberMap}
use Rattle.size_program.specs.declared.program.Program.{Program}
use Rattle.size_program.specs.declared.tables.Tables.{Tables}
use Rattle.size_program.specs.Answers.{Steps, Going, Takes}
use Rattle.size_program.specs.Tables.{In_scope}
use Rattle.size_program.proofs.StepLaws.{steps_then, steps_stop}
use Rattle.size_applying.specs.Wanted.{Is_argument, Is_part}
use Rattle.size_forms.specs.declared.walked.Given.{Given}
use Rattle.size_forms.specs.declared.walked.Walked.{Walked}
use Rattle.size_forms.specs.Compositions.{composition_entered, lambda_at, second_at}
use Rattle.size_forms.specs.Shown.{argument_is, part_is, tree_is}
use Rattle.size_forms.specs.Walked.{argument_sized, part_sized}
use Rattle.size_forms.proofs.ComposeLaws.{compose_is, lambda_next, met_next, second_next, wanted_next}
use Rattle.size_forms.proofs.StepForms.{same_takes, takes_then, takes_stop}

-- what is known behind the names of both functions
abbrev pub known_there : Names → Bor NumberMap → Scope → Type 0
known_there N m scope = In_scope m.now scope

module _ (types : Sub) (p : Program) (names : NumberMap) (l m : Row) (e : FlatTerm) (left_first : Bool) (bs : List ℕ) (n i j k : ℕ) (is : composition l.0 (Let m.0 m.1 e) ≡ Some left_first) (first_at : i ≡ 2 + n) (value_at : j ≡ 2 + second_at l n) (lambda : k ≡ lambda_at l m n) (f : Tables) where
  abbrev composed_going : Going Part
  composed_going = part_sized types (Let l.0 l.1 (Let m.0 m.1 e)) bs n

  abbrev after_left : Names → Scope → Argument → Step Part
  after_left N scope = second_next N types l m e left_first n scope

  abbrev after_right : Names → Scope → Argument → Argument → Step Part
  after_right N scope = met_next N types l m e left_first n scope

  abbrev after_met : Names → Scope → Size → Step Part
  after_met N scope t = and_then (composition_entered types l m n N scope) (lambda_next N types l m e left_first n t)

  abbrev after_lambda : Names → Size → Part → Step Part
  after_lambda N t = wanted_next N types l m e left_first n t

  as_composed : {B : Type 0} (R : Names → B → Part → Type 0) (h : Tables) (r : Result B SizeErr) → Takes R p names (λ N scope. and_then (argument_sized types l.1 i N scope) (after_left N scope)) f h r → Takes R p names composed_going f h r
  as_composed R h r x = same_takes R p names (λ N scope. and_then (argument_sized types l.1 i N scope) (after_left N scope)) composed_going f h r
      (λ N scope s. sym (compose_is N types l m e left_first n bs scope s is ∙ ap (λ z. and_then (argument_sized types l.1 z N scope) (after_left N scope) s) (sym first_at))) x

  module _ {B : Type 0} (R : Names → B → Part → Type 0) where
    pub left_stops : (x : SizeErr) (g h : Tables) → Takes (argument_is types) p names (argument_sized types l.1 i) f g (Err x) → Takes R p names composed_going f h (Err x)
    left_stops x g h first = as_composed R h (Err x) (takes_stop (argument_is types) R p names (argument_sized types l.1 i) after_left f g h (Err x) x refl first)

    module _ (left : Given) (g : Tables) (first : Takes (argument_is types) p names (argument_sized types l.1 i) f g (Ok left)) where
      left_then : (h : Tables) (r : Result B SizeErr) → ((N : Names) (scope : Scope) → Knows p.names N → In_scope names scope → (a : Argument) → Is_argument N types left.argument a → Steps (R N) (after_left N scope a) g h r) → Takes R p names composed_going f h r
      left_then h r rest = as_composed R h r (takes_then (argument_is types) R p names (argument_sized types l.1 i) after_left f g h (Ok left) left r refl first rest)

      second_there : {h : Tables} {r : Result Given SizeErr} → Takes (argument_is types) p names (argument_sized types m.1 j) g h r → (N : Names) (scope : Scope) → Knows p.names N → In_scope names scope → Steps (argument_is types N) (argument_sized types m.1 (2 + second_at l n) N scope) g h r
      second_there {h = h} {r = r} second N scope knows within = subst (λ z. Steps (argument_is types N) (argument_sized types m.1 z N scope) g h r) value_at (second.takes N scope knows within)

      pub right_stops : (x : SizeErr) (h o : Tables) → Takes (argument_is types) p names (argument_sized types m.1 j) g h (Err x) → Takes R p names composed_going f o (Err x)
      right_stops x h o second = left_then o (Err x) (λ N scope knows within a so. steps_stop (argument_is types N) (R N) (argument_sized types m.1 (2 + second_at l n) N scope) (after_right N scope a) g h o (Err x) x refl (second_there second N scope knows within))

      module _ (right : Given) (h : Tables) (second : Takes (argument_is types) p names (argument_sized types m.1 j) g h (Ok right)) where
        abbrev Composing : Tables → Result (Bor SizeTree) SizeErr → Type 0
        Composing o r = (N : Names) → Knows p.names N → (a b : Argument) → Is_argument N types left.argument a → Is_argument N types right.argument b → Steps tree_is (composition_met N types n left_first a b k) h o r

        right_then : (o : Tables) (r : Result B SizeErr) → ((N : Names) (scope : Scope) → Knows p.names N → In_scope names scope → (a b : Argument) → Is_argument N types left.argument a → Is_argument N types right.argument b → Steps (R N) (after_right N scope a b) h o r) → Takes R p names composed_going f o r
        right_then o r rest = left_then o r (λ N scope knows within a so. steps_then (argument_is types N) (R N) (argument_sized types m.1 (2 + second_at l n) N scope) (after_right N scope a) g h o (Ok right) right r refl (second_there second N scope knows within) (λ b also. rest N scope knows within a b so also))

        met_there : {o : Tables} {r : Result (Bor SizeTree) SizeErr} → Composing o r → (N : Names) → Knows p.names N → (a b : Argument) → Is_argument N types left.argument a → Is_argument N types right.argument b → Steps tree_is (composition_met N types n left_first a b (lambda_at l m n)) h o r
        met_there {o = o} {r = r} met N knows a b so also = subst (λ z. Steps tree_is (composition_met N types n left_first a b z) h o r) lambda (met N knows a b so also)

        pub met_stops : (x : SizeErr) (o q : Tables) → Composing o (Err x) → Takes R p names composed_going f q (Err x)
        met_stops x o q met = right_then q (Err x) (λ N scope knows within a b so also. steps_stop tree_is (R N) (composition_met N types n left_first a b (lambda_at l m n)) (after_met N scope) h o q (Err x) x refl (met_there met N knows a b so also))

        module _ (t : Bor SizeTree) (o : Tables) (met : Composing o (Ok t)) where
          met_then : (q : Tables) (r : Result B SizeErr) → ((N : Names) (scope : Scope) → Knows p.names N → In_scope names scope → Steps (R N) (after_met N scope (size_of t.now)) o q r) → Takes R p names composed_going f q r
          met_then q r rest = right_then q r (λ N scope knows within a b so also. steps_then tree_is (R N) (composition_met N types n left_first a b (lambda_at l m n)) (after_met N scope) h o q (Ok t) t r refl (met_there met N knows a b so also)
              (λ u same. subst (λ z. Steps (R N) (after_met N scope z) o q r) (sym same) (rest N scope knows within)))

          pub entering_stops : (x : SizeErr) (q s : Tables) → Takes known_there p names (composition_entered types l m n) o q (Err x) → Takes R p names composed_going f s (Err x)
          entering_stops x q s third = met_then s (Err x) (λ N scope knows within. steps_stop (known_there N) (R N) (composition_entered types l m n N scope) (lambda_next N types l m e left_first n (size_of t.now)) o q s (Err x) x refl (third.takes N scope knows within))

          module _ (inside : Bor NumberMap) (q : Tables) (third : Takes known_there p names (composition_entered types l m n) o q (Ok inside)) where
            entered_then : (s : Tables) (r : Result B SizeErr) → ((N : Names) → Knows p.names N → (inner : Scope) → In_scope inside.now inner → Steps (R N) (lambda_next N types l m e left_first n (size_of t.now) inner) q s r) → Takes R p names composed_going f s r
            entered_then s r rest = met_then s r (λ N scope knows within. steps_then (known_there N) (R N) (composition_entered types l m n N scope) (lambda_next N types l m e left_first n (size_of t.now)) o q s (Ok inside) inside r refl (third.takes N scope knows within) (λ inner in_inner. rest N knows inner in_inner))

            lambda_there : {s : Tables} {r : Result Walked SizeErr} → Takes (part_is types) p inside.now (part_sized types e [] k) q s r → (N : Names) → Knows p.names N → (inner : Scope) → In_scope inside.now inner → Steps (part_is types N) (sized N types e [] (lambda_at l m n) inner) q s r
            lambda_there {s = s} {r = r} fourth N knows inner in_inner = subst (λ z. Steps (part_is types N) (sized N types e [] z inner) q s r) lambda (fourth.takes N inner knows in_inner)

            pub lambda_stops : (x : SizeErr) (s v : Tables) → Takes (part_is types) p inside.now (part_sized types e [] k) q s (Err x) → Takes R p names composed_going f v (Err x)
            lambda_stops x s v fourth = entered_then v (Err x) (λ N knows inner in_inner. steps_stop (part_is types N) (R N) (sized N types e [] (lambda_at l m n) inner) (after_lambda N (size_of t.now)) q s v (Err x) x refl (lambda_there fourth N knows inner in_inner))

            module _ (w : Walked) (s : Tables) (fourth : Takes (part_is types) p inside.now (part_sized types e [] k) q s (Ok w)) where
              abbrev Wanting : Tables → Result (Bor SizeTree) SizeErr → Type 0
              Wanting v r = (N : Names) → Knows p.names N → (y : Part) → Is_part N types w.part y → Steps tree_is (wanted_as N types k (size_of t.now) y) s v r

              lambda_then : (v : Tables) (r : Result B SizeErr) → ((N : Names) → Knows p.names N → (y : Part) → Is_part N types w.part y → Steps (R N) (after_lambda N (size_of t.now) y) s v r) → Takes R p names composed_going f v r
              lambda_then v r rest = entered_then v r (λ N knows inner in_inner. steps_then (part_is types N) (R N) (sized N types e [] (lambda_at l m n) inner) (after_lambda N (size_of t.now)) q s v (Ok w) w r refl (lambda_there fourth N knows inner in_inner) (λ y so. rest N knows y so))

              abbrev noting : Size → Step Part
              noting u = and_then (note (second_at l n) u) (λ z. give (whole z))

              wanted_there : {v : Tables} {r : Result (Bor SizeTree) SizeErr} → Wanting v r → (N : Names) → Knows p.names N → (y : Part) → Is_part N types w.part y → Steps tree_is (wanted_as N types (lambda_at l m n) (size_of t.now) y) s v r
              wanted_there {v = v} {r = r} fifth N knows y so = subst (λ z. Steps tree_is (wanted_as N types z (size_of t.now) y) s v r) lambda (fifth N knows y so)

              pub wanted_stops : (x : SizeErr) (v z : Tables) → Wanting v (Err x) → Takes R p names composed_going f z (Err x)
              wanted_stops x v z fifth = lambda_then z (Err x) (λ N knows y so. steps_stop tree_is (R N) (wanted_as N types (lambda_at l m n) (size_of t.now) y) noting s v z (Err x) x refl (wanted_there fifth N knows y so))

              pub wanted_then : (u : Bor SizeTree) (v z : Tables) (r : Result B SizeErr) → Wanting v (Ok u) → ((N : Names) → Steps (R N) (noting (size_of u.now)) v z r) → Takes R p names composed_going f z r
              wanted_then u v z r fifth rest = lambda_then z r (λ N knows y so. steps_then tree_is (R N) (wanted_as N types (lambda_at l m n) (size_of t.now) y) noting s v z (Ok u) u r refl (wanted_there fifth N knows y so)
                  (λ a same. subst (λ b. Steps (R N) (noting b) v z r) (sym same) (rest N)))
