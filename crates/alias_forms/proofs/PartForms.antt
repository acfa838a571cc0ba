-- The parts of an operation, one after another.
use Rattle.std.proofs.Common.{◌≡◌, ℕ, suc, ◌+◌, ◌<◌, ◌≤◌, List, [], ◌∷◌, ◌++◌, map, length, get_or, drop, Option, None, Ok, Err, refl, sym, ap, ◌∙◌, arith, append-nil, add-one}
use Rattle.fut_flat.specs.declared.exp.Exp.{Exp}
use Rattle.fut_flat.specs.Erased.{term_of, terms}
use Rattle.fut_flat.specs.Numbers.{numbers, all_numbers}
use Rattle.fut_types.specs.Types.{Kinds, Sub}
use Rattle.fut_typing.specs.Names.{Names}
use Rattle.fut_aliases.specs.Aliases.{Naming}
use Rattle.fut_aliases.specs.declared.refusals.Named.{Named}
use Rattle.fut_aliases.specs.Calls as definition
use Rattle.fut_aliases.specs.Calls.{Here}
use Rattle.fut_aliases.specs.Capturing.{name_in, or_name}
use Rattle.fut_aliases.specs.Looking.{all_looked}
use Rattle.fut_aliases.specs.Stars.{Stars}
use Rattle.fut_aliases.specs.Steps.{Answer, Done, Losses, Step, and_then, give, then_do}
use Rattle.alias_values.proofs.Rows.{one_more, drop_past}
use Rattle.uniqueness.specs.Answers.{Grows, Stepped, stepped, refused, no_memory}
use Rattle.uniqueness.specs.declared.held.Held.{Held}
use Rattle.uniqueness.specs.declared.held.Stop.{Stop}
use Rattle.uniqueness.specs.Held.{held_of, helds_of}
use Rattle.uniqueness.proofs.Growing.{grows_not}
use Rattle.alias_forms.specs.declared.seen.Found.{Found}
use Rattle.alias_forms.specs.declared.seen.FoundParts.{FoundParts}
use Rattle.alias_forms.specs.Seen.{AllEnd, FoundEnds, held_found, parts_found}
use Rattle.alias_forms.proofs.Binding.{gave, grew, grows_on}
use Rattle.alias_forms.proofs.SeenForms.{or_name_more, or_none}
use Rattle.alias_forms.proofs.WalkForms.{alone}

helds_more : (xs : List Held) (b : Held) (r : List definition.Held) → helds_of xs ++ held_of b ∷ r ≡ helds_of (xs ++ b ∷ []) ++ r
helds_more [] b r = refl
helds_more (y ∷ xs) b r = ap (λ z. held_of y ∷ z) (helds_more xs b r)

length_more : (xs : List Held) (b : Held) → length (xs ++ b ∷ []) ≡ suc (length xs)
length_more [] b = refl
length_more (y ∷ xs) b = ap suc (length_more xs b)

module _ (naming : Naming) (K : Kinds) (types : Sub) (Known : Names → Type 0) (wanted : Names → ℕ → Option Stars) (es : List Exp) (at : ℕ) (h : Here) (old : Losses) where
  abbrev rest_at : Names → ℕ → ℕ → Step (List definition.Held)
  rest_at N next i = all_looked naming N K types (terms (map term_of (drop i es))) next h (wanted N) i

  abbrev behind_made : List Held → Done (List definition.Held) → Answer (Done (List definition.Held))
  behind_made made d = give (helds_of made ++ d.result) d.losses

  -- so many parts are there
  pub record Walking (now : Losses) (made : List Held) (next : ℕ) (name : Option Named) (i : ℕ) : Type 0 where
    pub steps : (N : Names) → Known N → all_looked naming N K types (terms (map term_of es)) at h (wanted N) 0 old ≡ then_do (rest_at N next i now) (behind_made made)
    pub grows : (N : Names) → Known N → Grows old now
    pub first : or_name name (name_in (terms (map term_of (drop i es)))) ≡ name_in (terms (map term_of es))
    pub passed : next + all_numbers (terms (map term_of (drop i es))) ≡ at + all_numbers (terms (map term_of es))
    pub many : length made ≡ i

  unchanged : (x : Answer (Done (List definition.Held))) → x ≡ then_do x (behind_made [])
  unchanged (Ok d) = refl
  unchanged (Err e) = refl

  pub walk_begins : Walking old [] at None 0
  walk_begins = record { steps = λ N k. unchanged (all_looked naming N K types (terms (map term_of es)) at h (wanted N) 0 old); grows = λ N k. grows_not old; first = refl; passed = refl; many = refl }

  module _ (now : Losses) (made : List Held) (next : ℕ) (name : Option Named) (i : ℕ) (walking : Walking now made next name i) (x : Exp) (l : i < length es) where
    abbrev one_of : Names → Option Stars → Step definition.Held
    one_of N w = alone naming N K types (term_of (get_or es i x)) next h w

    abbrev then_rest : Names → definition.Held → Step (List definition.Held)
    then_rest N a = and_then (rest_at N (next + numbers (term_of (get_or es i x))) (i + 1)) (λ more_of. give (a ∷ more_of))

    one_step : (N : Names) → rest_at N next i ≡ and_then (one_of N (wanted N i)) (then_rest N)
    unfolding all_looked terms
    one_step N = ap (λ z. all_looked naming N K types (terms (map term_of z)) next h (wanted N) i) (one_more es i x l) ∙ ap (λ k. and_then (one_of N (wanted N i)) (λ a. and_then (all_looked naming N K types (terms (map term_of (drop (i + 1) es))) (next + numbers (term_of (get_or es i x))) h (wanted N) k) (λ more_of. give (a ∷ more_of)))) (sym (add-one i))

    one_then : (N : Names) → Known N → all_looked naming N K types (terms (map term_of es)) at h (wanted N) 0 old ≡ then_do (then_do (one_of N (wanted N i) now) (λ a. then_rest N a.result a.losses)) (behind_made made)
    one_then N k = walking.steps N k ∙ ap (λ (m : Step (List definition.Held)). then_do (m now) (behind_made made)) (one_step N)

    module _ (also : Option Stars) where
      pub walk_stops : {after end : Losses} {s : Stop} (N : Names) → Known N → also ≡ wanted N i → Stepped held_found (one_of N also) now after (Err s) → Stepped parts_found (all_looked naming N K types (terms (map term_of es)) at h (wanted N) 0) old end (Err s)
      walk_stops N k e (refused q) = refused (one_then N k ∙ ap (λ w. then_do (then_do (one_of N w now) (λ a. then_rest N a.result a.losses)) (behind_made made)) (sym e) ∙ ap (λ z. then_do (then_do z (λ a. then_rest N a.result a.losses)) (behind_made made)) q)
      walk_stops N k e no_memory = no_memory

      regroup : (f : Found) (y : Answer (Done (List definition.Held))) → then_do (then_do y (λ d. give (held_found f ∷ d.result) d.losses)) (behind_made made) ≡ then_do y (behind_made (made ++ f.held ∷ []))
      regroup f (Ok d) = ap (λ z. Ok (record { result = z; losses = d.losses })) (helds_more made f.held d.result)
      regroup f (Err e) = refl

      pub walk_goes : (after : Losses) (f : Found) (longer : List Held) (later : Option Named) → ((N : Names) → Known N → also ≡ wanted N i) → ((N : Names) → Known N → Stepped held_found (one_of N also) now after (Ok f)) → FoundEnds (term_of (get_or es i x)) next f → longer ≡ made ++ f.held ∷ [] → later ≡ or_name name f.first_name → Walking after longer f.after later (i + 1)
      unfolding terms name_in
      walk_goes after f longer later w u ends g n = record {
        steps = λ N k. one_then N k ∙ ap (λ v. then_do (then_do (one_of N v now) (λ a. then_rest N a.result a.losses)) (behind_made made)) (sym (w N k))
            ∙ ap (λ z. then_do (then_do z (λ a. then_rest N a.result a.losses)) (behind_made made)) (gave (u N k))
            ∙ regroup f (rest_at N (next + numbers (term_of (get_or es i x))) (i + 1) after)
            ∙ ap (λ z. then_do (rest_at N (next + numbers (term_of (get_or es i x))) (i + 1) after) (behind_made z)) (sym g)
            ∙ ap (λ k. then_do (rest_at N k (i + 1) after) (behind_made longer)) (sym ends.next);
        grows = λ N k. grows_on old now after (walking.grows N k) (grew (u N k));
        first = ap (λ z. or_name z (name_in (terms (map term_of (drop (i + 1) es))))) n ∙ or_name_more name f.first_name (name_in (terms (map term_of (drop (i + 1) es)))) ∙ ap (λ z. or_name name (or_name z (name_in (terms (map term_of (drop (i + 1) es)))))) ends.named.first_so ∙ ap (λ z. or_name name (name_in (terms (map term_of z)))) (sym (one_more es i x l)) ∙ walking.first;
        passed = omega (arith, ends.next, walking.passed, ap (λ z. all_numbers (terms (map term_of z))) (one_more es i x l));
        many = ap length g ∙ length_more made f.held ∙ ap suc walking.many ∙ sym (add-one i);
      }

  module _ (now : Losses) (made : List Held) (next : ℕ) (name : Option Named) (i : ℕ) (walking : Walking now made next name i) (l : length es ≤ i) (p : FoundParts) (parts_are : p.parts.now ≡ made) where
    pub walk_ends : (N : Names) → Known N → Stepped parts_found (all_looked naming N K types (terms (map term_of es)) at h (wanted N) 0) old now (Ok p)
    unfolding all_looked terms
    walk_ends N k = stepped (walking.steps N k ∙ ap (λ z. then_do (all_looked naming N K types (terms (map term_of z)) next h (wanted N) i now) (behind_made made)) (drop_past es i l)
        ∙ ap (λ z. Ok (record { result = z; losses = now })) (append-nil (helds_of made) ∙ ap helds_of (sym parts_are))) (walking.grows N k)

    pub walk_ends_at : p.first_name ≡ name → p.after ≡ next → AllEnd (terms (map term_of es)) at p
    unfolding terms name_in
    walk_ends_at f g = record {
      first = f ∙ sym (or_none name) ∙ ap (λ z. or_name name (name_in (terms (map term_of z)))) (sym (drop_past es i l)) ∙ walking.first;
      next = omega (arith, g, walking.passed, ap (λ z. all_numbers (terms (map term_of z))) (drop_past es i l));
    }
