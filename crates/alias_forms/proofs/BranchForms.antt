-- Both branches of an `if`.
use Rattle.std.proofs.Common.{◌≡◌, ℕ, length, take, take_at, [], ◌∷◌, ◌++◌, Ok, Err, refl, sym, ap, ◌∙◌, subst}
use Rattle.std.specs.Borrow.{Bor}
use Rattle.fut_aliases.specs.Calls as definition
use Rattle.fut_aliases.specs.Steps.{Losses, Step, behind, either_of, lose_all, then_do}
use Rattle.fut_aliases.specs.Values.{Value, unite}
use Rattle.alias_applications.specs.Shown.{shown_value}
use Rattle.alias_values.specs.declared.trees.ValueTree.{ValueTree}
use Rattle.alias_values.specs.Trees.{value_of}
use Rattle.uniqueness.specs.Answers.{Grows, Stepped, stepped, refused, no_memory}
use Rattle.uniqueness.specs.declared.held.Stop.{Stop}
use Rattle.uniqueness.proofs.Growing.{lose_all_grows}
use Rattle.alias_forms.specs.declared.seen.Found.{Found}
use Rattle.alias_forms.specs.Seen.{held_found}
use Rattle.alias_forms.proofs.Binding.{gave, grew, grows_on}

behind_grown : (ls q : Losses) → behind (length ls) (ls ++ q) ≡ q
behind_grown [] q = refl
behind_grown (l ∷ ls) q = behind_grown ls q

-- what was consumed before, and what came behind it
pub joined_is : (old : Losses) {mid later : Losses} {before : ℕ} → Grows old mid → before ≡ length old → later ≡ behind before mid → old ++ later ≡ mid
joined_is old {mid = mid} (q, e) b l = ap (λ z. old ++ z) (l ∙ ap (λ n. behind n mid) b ∙ ap (behind (length old)) e ∙ behind_grown old q) ∙ sym e

-- what came behind it is put back
pub back_is : {old mid new : Losses} {before : ℕ} → Grows old mid → before ≡ length old → new ≡ take before mid → new ≡ old
back_is {old = old} {mid = mid} (q, g) b e = e ∙ ap (λ n. take n mid) b ∙ ap (take (length old)) g ∙ take_at old q (length old) refl

module _ (m n : Step definition.Held) (ls : Losses) where
  abbrev both : Step Value
  both = either_of (λ (a b : definition.Held). unite a.value b.value) m n

  pub one_stops : {end new : Losses} {s : Stop} → Stepped held_found m ls end (Err s) → Stepped shown_value both ls new (Err s)
  one_stops (refused q) = refused (ap (λ z. then_do z (λ d. then_do (n ls) (λ e. Ok (record { result = unite d.result.value e.result.value; losses = lose_all e.losses d.losses })))) q)
  one_stops no_memory = no_memory

  module _ {mid end : Losses} {before : ℕ} {one : Found} (b : before ≡ length ls) (p : mid ≡ take before end) (first : Stepped held_found m ls end (Ok one)) where
    mid_is : mid ≡ ls
    mid_is = back_is (grew first) b p

    pub other_stops : {old new : Losses} {s : Stop} → Stepped held_found n mid old (Err s) → Stepped shown_value both ls new (Err s)
    other_stops (refused q) = refused (ap (λ z. then_do z (λ d. then_do (n ls) (λ e. Ok (record { result = unite d.result.value e.result.value; losses = lose_all e.losses d.losses })))) (gave first) ∙ ap (λ z. then_do z (λ e. Ok (record { result = unite (held_found one).value e.result.value; losses = lose_all e.losses end }))) (ap n (sym mid_is) ∙ q))
    other_stops no_memory = no_memory

    pub both_done : {old back new consumed also : Losses} {other : Found} {v : Bor ValueTree} → Stepped held_found n mid old (Ok other) → consumed ≡ behind before end → also ≡ behind before old → back ≡ take before old → ((x y : Losses) → Grows back x → Grows back y → consumed ≡ behind (length back) x → also ≡ behind (length back) y → new ≡ lose_all y x) → value_of v.now ≡ unite (held_found one).value (held_found other).value → Stepped shown_value both ls new (Ok v)
    both_done {old = old} {back = back} {new = new} {other = other} {v = v} second c d k join u = stepped (ap (λ z. then_do z (λ d. then_do (n ls) (λ e. Ok (record { result = unite d.result.value e.result.value; losses = lose_all e.losses d.losses })))) (gave first) ∙ ap (λ z. then_do z (λ e. Ok (record { result = unite (held_found one).value e.result.value; losses = lose_all e.losses end }))) (ap n (sym mid_is) ∙ gave second)
        ∙ ap (λ z. Ok (record { result = z; losses = lose_all old end })) (sym u) ∙ ap (λ z. Ok (record { result = value_of v.now; losses = z })) (sym new_is)) (subst (Grows ls) (sym new_is) (grows_on ls end (lose_all old end) (grew first) (lose_all_grows old end)))
      where
        after : Grows ls old
        after = subst (λ z. Grows z old) mid_is (grew second)

        back_ls : back ≡ ls
        back_ls = back_is after b k

        length_is : before ≡ length back
        length_is = b ∙ ap length (sym back_ls)

        new_is : new ≡ lose_all old end
        new_is = join end old (subst (λ z. Grows z end) (sym back_ls) (grew first)) (subst (λ z. Grows z old) (sym back_ls) after) (c ∙ ap (λ n. behind n end) length_is) (d ∙ ap (λ n. behind n old) length_is)
