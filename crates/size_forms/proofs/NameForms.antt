-- What is known of a name where it is used.
use Rattle.std.proofs.Common.{◌≡◌, ℕ, Bool, true, false, Some, None, Result, Ok, Err, sym, ap, ◌∙◌}
use Rattle.std.specs.Prelude.{IfOk}
use Rattle.std.specs.Borrow.{Bor}
use Rattle.fut_scalar.specs.declared.memory.NoMemory.{NoMemory}
use Rattle.fut_types.specs.Types.{Sub}
use Rattle.fut_typing.specs.Names.{Names}
use Rattle.fut_sizes.specs.Agreeing.{no_size_of, of_type}
use Rattle.fut_sizes.specs.Scopes.{Scope, used}
use Rattle.fut_sizes.specs.Sizing.{use_known}
use Rattle.size_arena.specs.declared.trees.SizeTree.{SizeTree}
use Rattle.size_arena.specs.Trees.{size_of}
use Rattle.size_program.specs.Maps.{entry_of}
use Rattle.size_program.specs.Tables.{In_scope, known_of}
use Rattle.size_program.specs.declared.maps.Known.{Known}
use Rattle.size_program.specs.declared.maps.NumberMap.{NumberMap}

abbrev pub Tree_made : Type 0
Tree_made = Result (Bor SizeTree) NoMemory

module _ (names : NumberMap) (types : Sub) (b n : ℕ) where
  -- what is said of a use of the name
  abbrev pub Is_known : Tree_made → Type 0
  Is_known r = (N : Names) (scope : Scope) → In_scope names scope → IfOk r (λ made. size_of made.now ≡ use_known N types n (scope b))

  pub name_unknown : (r : Tree_made) → None ≡ entry_of names b → IfOk r (λ made. size_of made.now ≡ of_type (no_size_of n) 0 (types n)) → Is_known r
  name_unknown (Ok made) e plain N scope within = plain ∙ ap (use_known N types n) (ap known_of e ∙ sym (within.known b))
  name_unknown (Err x) e plain N scope within = tt

  known_is : (k : Bor Known) (g : Bool) → Some k ≡ entry_of names b → k.now.is_general ≡ g → (scope : Scope) → In_scope names scope → scope b ≡ Some (record { size = size_of k.now.size.now; is_general = g })
  known_is k g e h scope within = within.known b ∙ sym (ap known_of e) ∙ ap (λ z. Some (record { size = size_of k.now.size.now; is_general = z })) h

  pub name_plain : (k : Bor Known) → Some k ≡ entry_of names b → k.now.is_general ≡ false → Is_known (Ok k.now.size)
  name_plain k e h N scope within = sym (ap (use_known N types n) (known_is k false e h scope within))

  pub name_general : (k : Bor Known) (r : Tree_made) → Some k ≡ entry_of names b → k.now.is_general ≡ true → IfOk r (λ made. size_of made.now ≡ used n (types n) (size_of k.now.size.now)) → Is_known r
  name_general k (Ok made) e h given N scope within = given ∙ sym (ap (use_known N types n) (known_is k true e h scope within))
  name_general k (Err x) e h given N scope within = tt

pub ruleset bound_names = (name_unknown, name_plain, name_general)
