-- New names for components, one after the other.
use Rattle.std.proofs.Common.{◌≡◌, ℕ, suc, ◌++◌, List, [], ◌∷◌, map, length, Ok, Err, refl, sym, ap, ◌∙◌, subst, arith}
use Rattle.std.specs.Borrow.{Bor}
use Rattle.std.proofs.lemmas.List.{map-append}
use Rattle.fut_blocks.proofs.Layers.{binding_of-made}
use Rattle.fut_blocks.specs.Numbered.{Upward}
use Rattle.fut_blocks.specs.Plain.{Action, action_of, binding_of}
use Rattle.fut_blocks.specs.declared.block.Act.{Act}
use Rattle.fut_blocks.specs.declared.block.Atom.TheVariants as atom
use Rattle.fut_blocks.specs.declared.block.Step.{roll-Step}
use Rattle.unfold.proofs.Mirror.{known_scalar}
use Rattle.unfold.specs.Held.{known_of}
use Rattle.unfold.specs.Unfolding.{Bindings, step, named}
use Rattle.unfold.specs.declared.known.Known.{Known as Held_known}
use Rattle.unfold.specs.declared.known.KnownForm.TheVariants as form
use Rattle.unfold_parts.specs.Answers.{answered, unanswered, Named_as, named_as, not_named, Pushed, pushed, not_pushed, Newly_named, newly_named, not_newly_named, Opened, opened, Opened_to}
use Rattle.unfold_parts.specs.Refused.{no_memory}
use Rattle.unfold_parts.specs.declared.new_names.Named.{Named}
use Rattle.unfold_parts.specs.declared.refusal.Refusal.{Refusal}

upward_more : (n m : ℕ) (xs : List ℕ) → Upward n xs m → Upward n (xs ++ m ∷ []) (suc m)
upward_more n m [] le = (le, omega arith)
upward_more n m (x ∷ xs) (le, up) = (le, upward_more (suc x) m xs up)

-- as many names as components so far
pub record Names_so_far (n next : ℕ) (names : List ℕ) (ss : List Held_known) (before now : Bindings) : Type 0 where
  pub upward : Upward n names next
  pub knowns : map known_of ss ≡ map named names
  pub steps : now ≡ before

pub names_start : (n : ℕ) (before : Bindings) → Names_so_far n n [] [] before before
names_start n before = record { upward = omega arith; knowns = refl; steps = refl }

pub names_on : (n mid next x : ℕ) (xs xs' : List ℕ) (ss ss' : List Held_known) (s : Held_known) (before between after : Bindings) → Names_so_far n mid xs ss before between → Named_as mid next (Ok x) → after ≡ between → xs' ≡ xs ++ x ∷ [] → s.form ≡ form.Scalar (atom.Name x) → ss' ≡ ss ++ s ∷ [] → Names_so_far n next xs' ss' before after
names_on n mid next x xs xs' ss ss' s before between after h (named_as e) same q is k = record {
  upward = subst (λ z. Upward n z next) (sym q) (subst (Upward n (xs ++ mid ∷ [])) (sym e) (upward_more n mid xs h.upward));
  knowns = ap (map known_of) k ∙ map-append known_of ss (s ∷ []) ∙ ap (λ z. z ++ known_of s ∷ []) h.knowns ∙ ap (λ z. map named xs ++ z ∷ []) (known_scalar s (atom.Name mid) is) ∙ sym (map-append named xs (mid ∷ [])) ∙ ap (map named) (sym q);
  steps = same ∙ h.steps;
}

pub names_end : (count n next : ℕ) (xs : List ℕ) (ss : List Held_known) (before now : Bindings) (r : Named) → Names_so_far n next xs ss before now → length xs ≡ count → r.names.now ≡ xs → r.knowns.now ≡ ss → Newly_named count n next (Ok r)
names_end count n next xs ss before now r h e q k = newly_named record {
  upward = subst (λ z. Upward n z next) (sym q) h.upward;
  many = ap length q ∙ e;
  knowns = ap (map known_of) k ∙ h.knowns ∙ ap (map named) (sym q);
}

pub names_err : {m m' : ℕ} (count n next : ℕ) (x : Refusal) → Named_as m m' (Err x) → Newly_named count n next (Err x)
names_err count n next _ not_named = not_newly_named

-- the step that gives them
pub opened_is : (a : Act) (count n next : ℕ) (before between after : Bindings) (r : Named) (names : Bor (List ℕ)) (given : Bor (List Held_known)) (u : Unit {0}) (later : ℕ) → Newly_named count n next (Ok r) → between ≡ before → names.now ≡ r.names.now → given.now ≡ r.knowns.now → Pushed (binding_of (roll-Step record { names = names; act = a })) between after (Ok u) → later ≡ next → Opened_to (action_of a) count n before after later (Ok given)
opened_is a count n next before between after r names given u later (newly_named h) same i j (pushed q) k =
    answered (step r.names.now (action_of a)) (q ∙ ap (λ z. z ++ binding_of (roll-Step record { names = names; act = a }) ∷ []) same ∙ ap (λ z. before ++ z ∷ []) (binding_of-made (record { names = names; act = a }) ∙ ap (λ z. (z, action_of a)) i))
    (subst (λ z. Opened (action_of a) count n (step r.names.now (action_of a)) (map known_of z) later) (sym j) (subst (Opened (action_of a) count n (step r.names.now (action_of a)) (map known_of r.knowns.now)) (sym k) (opened h)))

module _ (a : Action) (count n next : ℕ) (before after : Bindings) where
  pub unopened : {m later : ℕ} (x : Refusal) → Newly_named m n later (Err x) → Opened_to a count n before after next (Err x)
  unopened _ not_newly_named = unanswered no_memory

  pub unpushed : {s : List ℕ × Action} {between behind : Bindings} (x : Refusal) → Pushed s between behind (Err x) → Opened_to a count n before after next (Err x)
  unpushed _ not_pushed = unanswered no_memory
