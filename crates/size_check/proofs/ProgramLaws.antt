-- Definitions one after another, and a whole program.
use Rattle.std.proofs.Common.{◌≡◌, ℕ, ◌+◌, ◌<◌, ◌≤◌, List, ◌∷◌, length, get_or, drop, map, None, Result, Ok, Err, refl, sym, ap, ◌∙◌, subst, add-one}
use Rattle.std.proofs.Math.Seq.{drop-cons}
use Rattle.fut_flat.specs.declared.program.Definition.{Definition}
use Rattle.fut_flat.specs.Numbers.{pattern_numbers, numbers}
use Rattle.fut_types.specs.Types.{Sub}
use Rattle.fut_typing.specs.Names.{Names}
use Rattle.fut_typing.specs.Program.{Defined, defined}
use Rattle.fut_sizes.specs.Agreeing.{Answer, then_do}
use Rattle.fut_sizes.specs.Programs.{definition_sized, definitions_sized, no_state, sizing}
use Rattle.fut_sizes.specs.Scopes.{Scope, nothing}
use Rattle.fut_sizes.specs.Steps.{Done, Step, and_then}
use Rattle.alias_parts.specs.Known.{Knows}
use Rattle.size_arena.specs.declared.agreeing.SizeErr.{SizeErr}
use Rattle.size_arena.specs.declared.agreeing.SizeErr.TheVariants as size_err
use Rattle.size_arena.proofs.Parts.{drop_past}
use Rattle.size_program.specs.declared.maps.NumberMap.{NumberMap}
use Rattle.size_program.specs.declared.program.Program.{Program}
use Rattle.size_program.specs.declared.tables.Tables.{Tables}
use Rattle.size_program.specs.Answers.{Answers, answers, refuses, no_memory, Runs, runs, refused, no_memory_left, Steps, Takes}
use Rattle.size_program.specs.Maps.{entry_of}
use Rattle.size_program.specs.Tables.{In_scope, Stands, known_of}
use Rattle.size_program.proofs.StepLaws.{err_in, given, ok_in, ran, steps_stop}
use Rattle.size_walk.proofs.Leading.{Leads, leads_on, leads_start, leads_to, then_leads}
use Rattle.size_check.specs.declared.definitions.Behind.{Behind}
use Rattle.size_check.specs.Checked.{behind_is, defined_going, nodes_are}

-- a map without names knows what no scope knows
pub knows_nothing : (names : NumberMap) → ((n : ℕ) → entry_of names n ≡ None) → In_scope names nothing
knows_nothing names none = record { known = λ b. sym (ap known_of (none b)) }

module _ (types : Sub) (p : Program) (ds : List Definition) (f : Tables) where
  abbrev left_over : ℕ → ℕ → Names → Scope → Step Scope
  left_over i at N scope = definitions_sized N types (map defined (drop i ds)) at scope

  -- so many definitions are sized, and this is behind them
  pub record Sized_so_far (i : ℕ) (b : Behind) (g : Tables) : Type 0 where
    pub goes : (N : Names) → Knows p.names N → Leads (behind_is N b) (definitions_sized N types (map defined ds) 0 nothing) (left_over i b.at N) f g

  pub none_sized : (b : Behind) → In_scope b.names.now nothing → b.at ≡ 0 → Sized_so_far 0 b f
  none_sized b within at = record {
    goes = λ N knows. subst (λ n. Leads (behind_is N b) (definitions_sized N types (map defined ds) 0 nothing) (left_over 0 n N) f f) (sym at)
        (leads_start (behind_is N b) (left_over 0 0 N) nothing within f);
  }

  module _ (i : ℕ) (b : Behind) (g : Tables) (so_far : Sized_so_far i b g) where
    module _ (e : Definition) (l : i < length ds) where
      abbrev one : Defined
      one = defined (get_or ds i e)

      abbrev next_left : Names → Scope → Step Scope
      next_left N inner = left_over (i + 1) (b.at + (pattern_numbers one.name + numbers one.value)) N inner

      one_first : (N : Names) (scope : Scope) → left_over i b.at N scope ≡ and_then (definition_sized N types one b.at scope) (next_left N)
      one_first N scope = ap (λ z. definitions_sized N types (map defined z) b.at scope) (drop-cons ds i e l ∙ ap (λ j. get_or ds i e ∷ drop j ds) (sym (add-one i)))

      pub one_refused : (N : Names) → Knows p.names N → (x : SizeErr) (h : Tables) → Takes behind_is p b.names.now (defined_going types one b.at) g h (Err x) → Steps (behind_is N) (definitions_sized N types (map defined ds) 0 nothing) f h (Err x)
      one_refused N knows x h first = leads_to (behind_is N b) (left_over i b.at N) (definitions_sized N types (map defined ds) 0 nothing) f g h (so_far.goes N knows) (behind_is N) (Err x)
          (λ scope within. subst (λ z. Steps (behind_is N) z g h (Err x)) (sym (one_first N scope))
          (steps_stop (behind_is N) (behind_is N) (definition_sized N types one b.at scope) (next_left N) g h h (Err x) x refl (first.takes N scope knows within)))

      pub one_more : (c : Behind) (h : Tables) → Takes behind_is p b.names.now (defined_going types one b.at) g h (Ok c) → c.at ≡ b.at + (pattern_numbers one.name + numbers one.value) → Sized_so_far (i + 1) c h
      one_more c h first at = record {
        goes = λ N knows. leads_on (behind_is N b) (left_over i b.at N) (definitions_sized N types (map defined ds) 0 nothing) f g h (so_far.goes N knows) (behind_is N c) (left_over (i + 1) c.at N)
            (λ scope within. subst (λ z. Leads (behind_is N c) z (left_over (i + 1) c.at N) g h) (sym (one_first N scope))
            (then_leads (behind_is N) (definition_sized N types one b.at scope) (next_left N) (behind_is N c) (left_over (i + 1) c.at N) g h h (Ok c) c refl (first.takes N scope knows within)
            (λ inner so. subst (λ n. Leads (behind_is N c) (left_over (i + 1) n N inner) (left_over (i + 1) c.at N) h h) at
            (leads_start (behind_is N c) (left_over (i + 1) c.at N) inner so h))));
      }

    pub all_done : (N : Names) → Knows p.names N → length ds ≤ i → Steps (behind_is N) (definitions_sized N types (map defined ds) 0 nothing) f g (Ok b)
    all_done N knows l = leads_to (behind_is N b) (left_over i b.at N) (definitions_sized N types (map defined ds) 0 nothing) f g g (so_far.goes N knows) (behind_is N) (Ok b)
        (λ scope within. subst (λ z. Steps (behind_is N) (definitions_sized N types (map defined z) b.at scope) g g (Ok b)) (sym (drop_past ds i l)) (given (behind_is N) b scope g within))

  -- from no state, what is answered for the program
  module _ (N : Names) (stands : Stands f no_state) (g : Tables) where
    pub program_sized : (b : Behind) → Steps (behind_is N) (definitions_sized N types (map defined ds) 0 nothing) f g (Ok b) → Answers nodes_are (sizing N types (map defined ds)) (Ok g)
    unfolding sizing
    program_sized b all =
        let d = ran (behind_is N) (definitions_sized N types (map defined ds) 0 nothing no_state) g (Ok b) (all.steps no_state stands) b refl in
        answers (ap (λ z. then_do z (λ d. Ok d.state.nodes)) d.is) (λ n. d.stands.nodes n)

    pub program_refused : (x : SizeErr) → Steps (behind_is N) (definitions_sized N types (map defined ds) 0 nothing) f g (Err x) → Answers nodes_are (sizing N types (map defined ds)) (Err x)
    unfolding sizing
    program_refused x all = by_first (all.steps no_state stands) refl
      where
        never : (y : Behind) → ok_in _ SizeErr y ≡ Err x → ⊥
        never y e = cc

        other : (y : SizeErr) → err_in Behind SizeErr y ≡ Err x → err_in Tables SizeErr y ≡ Err x
        other y e = cc

        by_first : {a : Answer (Done Scope)} {k : Result Behind SizeErr} → Runs (behind_is N) a g k → k ≡ Err x → Answers nodes_are (then_do a (λ d. Ok d.state.nodes)) (Err x)
        by_first (runs {x = y} s q r there) is = elim (never y is) [ ]
        by_first {a = a} (refused {e = y} q) is = subst (λ z. Answers nodes_are (then_do a (λ d. Ok d.state.nodes)) z) (other (size_err.Refused y) is) (refuses (ap (λ z. then_do z (λ d. Ok d.state.nodes)) q))
        by_first {a = a} no_memory_left is = subst (λ z. Answers nodes_are (then_do a (λ d. Ok d.state.nodes)) z) (other size_err.Memory is) no_memory
