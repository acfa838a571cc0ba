-- The lets of a row, one after another.
use Rattle.std.proofs.Common.{◌≡◌, ℕ, ◌+◌, ◌<◌, ◌≤◌, List, map, length, get_or, drop, None, Ok, Err, sym, ap, ◌∙◌}
use Rattle.fut_flat.specs.declared.exp.Let.{Let}
use Rattle.fut_flat.proofs.ErasedForms.{row_of}
use Rattle.fut_types.specs.Types.{Kinds, Sub}
use Rattle.fut_typing.specs.Names.{Names}
use Rattle.fut_aliases.specs.Aliases.{Naming}
use Rattle.fut_aliases.specs.Calls as definition
use Rattle.fut_aliases.specs.Capturing.{or_name, some_name}
use Rattle.fut_aliases.specs.Steps.{Losses, Step, and_then, then_do}
use Rattle.alias_values.proofs.Rows.{one_more, drop_past}
use Rattle.uniqueness.specs.Answers.{Grows, Stepped, stepped, refused, no_memory}
use Rattle.uniqueness.specs.declared.held.Here.{Here}
use Rattle.uniqueness.specs.declared.held.Stop.{Stop}
use Rattle.uniqueness.proofs.Growing.{grows_not}
use Rattle.alias_forms.specs.declared.seen.Inside.{Inside}
use Rattle.alias_forms.specs.Rows.{behind_row, behind_rows, let_looked, row_looked, row_name}
use Rattle.alias_forms.specs.Seen.{InsideEnds, inside_of}
use Rattle.alias_forms.proofs.Binding.{gave, grew, grows_on}
use Rattle.alias_forms.proofs.SeenForms.{or_name_more, or_none}

module _ (naming : Naming) (K : Kinds) (types : Sub) (Known : Names → Type 0) (here : Here) (ls : List Let) (at : ℕ) (h : definition.Here) (old : Losses) where
  pub record Going_on (now : Losses) (inside : Inside) (i : ℕ) : Type 0 where
    pub steps : (N : Names) → Known N → row_looked naming N K types (map row_of (drop 1 ls)) at h old ≡ row_looked naming N K types (map row_of (drop i ls)) inside.after (inside_of here inside) now
    pub grows : (N : Names) → Known N → Grows old now
    pub first : or_name inside.first_name (row_name (map row_of (drop i ls))) ≡ row_name (map row_of (drop 1 ls))
    pub passed : behind_rows (map row_of (drop i ls)) inside.after ≡ behind_rows (map row_of (drop 1 ls)) at

  pub row_begins : (i : Inside) → i.after ≡ at → i.first_name ≡ None → inside_of here i ≡ h → Going_on old i 1
  row_begins i e f g = record { steps = λ N k. ap (λ z. row_looked naming N K types (map row_of (drop 1 ls)) at z old) (sym g) ∙ ap (λ n. row_looked naming N K types (map row_of (drop 1 ls)) n (inside_of here i) old) (sym e); grows = λ N k. grows_not old; first = ap (λ z. or_name z (row_name (map row_of (drop 1 ls)))) f; passed = ap (behind_rows (map row_of (drop 1 ls))) e }

  module _ (now after : Losses) (inside : Inside) (i : ℕ) (going : Going_on now inside i) (x : Let) (l : i < length ls) where
    one_let : (N : Names) → row_looked naming N K types (map row_of (drop i ls)) inside.after (inside_of here inside) ≡ and_then (let_looked naming N K types (row_of (get_or ls i x)) inside.after (inside_of here inside)) (λ j. row_looked naming N K types (map row_of (drop (i + 1) ls)) (behind_row (row_of (get_or ls i x)) inside.after) j)
    unfolding row_looked
    one_let N = ap (λ z. row_looked naming N K types (map row_of z) inside.after (inside_of here inside)) (one_more ls i x l)

    pub row_stops : {end : Losses} {s : Stop} (N : Names) → Known N → Stepped (inside_of here) (let_looked naming N K types (row_of (get_or ls i x)) inside.after (inside_of here inside)) now after (Err s) → Stepped (inside_of here) (row_looked naming N K types (map row_of (drop 1 ls)) at h) old end (Err s)
    row_stops N k (refused q) = refused (going.steps N k ∙ ap (λ (m : Step definition.Here). m now) (one_let N) ∙ ap (λ z. then_do z (λ j. row_looked naming N K types (map row_of (drop (i + 1) ls)) (behind_row (row_of (get_or ls i x)) inside.after) j.result j.losses)) q)
    row_stops N k no_memory = no_memory

    pub row_goes : (behind later : Inside) → ((N : Names) → Known N → Stepped (inside_of here) (let_looked naming N K types (row_of (get_or ls i x)) inside.after (inside_of here inside)) now after (Ok behind)) → InsideEnds (some_name (row_of (get_or ls i x)).1) (behind_row (row_of (get_or ls i x)) inside.after) behind → inside_of here later ≡ inside_of here behind → later.first_name ≡ or_name inside.first_name behind.first_name → later.after ≡ behind.after → Going_on after later (i + 1)
    unfolding row_name behind_rows
    row_goes behind later u ends g n e = record {
      steps = λ N k. going.steps N k ∙ ap (λ (m : Step definition.Here). m now) (one_let N) ∙ ap (λ z. then_do z (λ j. row_looked naming N K types (map row_of (drop (i + 1) ls)) (behind_row (row_of (get_or ls i x)) inside.after) j.result j.losses)) (gave (u N k))
          ∙ ap (λ z. row_looked naming N K types (map row_of (drop (i + 1) ls)) z (inside_of here behind) after) (sym (e ∙ ends.behind)) ∙ ap (λ z. row_looked naming N K types (map row_of (drop (i + 1) ls)) later.after z after) (sym g);
      grows = λ N k. grows_on old now after (going.grows N k) (grew (u N k));
      first = ap (λ z. or_name z (row_name (map row_of (drop (i + 1) ls)))) n ∙ or_name_more inside.first_name behind.first_name (row_name (map row_of (drop (i + 1) ls))) ∙ ap (λ z. or_name inside.first_name (or_name z (row_name (map row_of (drop (i + 1) ls))))) ends.first ∙ ap (λ z. or_name inside.first_name (row_name (map row_of z))) (sym (one_more ls i x l)) ∙ going.first;
      passed = ap (behind_rows (map row_of (drop (i + 1) ls))) (e ∙ ends.behind) ∙ ap (λ z. behind_rows (map row_of z) inside.after) (sym (one_more ls i x l)) ∙ going.passed;
    }

  module _ (now : Losses) (inside : Inside) (i : ℕ) (going : Going_on now inside i) (l : length ls ≤ i) where
    pub row_ends : (N : Names) → Known N → Stepped (inside_of here) (row_looked naming N K types (map row_of (drop 1 ls)) at h) old now (Ok inside)
    unfolding row_looked
    row_ends N k = stepped (going.steps N k ∙ ap (λ z. row_looked naming N K types (map row_of z) inside.after (inside_of here inside) now) (drop_past ls i l)) (going.grows N k)

    pub row_ends_at : InsideEnds (row_name (map row_of (drop 1 ls))) (behind_rows (map row_of (drop 1 ls)) at) inside
    unfolding row_name behind_rows
    row_ends_at = record { first = sym (or_none inside.first_name) ∙ ap (λ z. or_name inside.first_name (row_name (map row_of z))) (sym (drop_past ls i l)) ∙ going.first; behind = ap (λ z. behind_rows (map row_of z) inside.after) (sym (drop_past ls i l)) ∙ going.passed }
