-- The type of a function is that of its arrows.
use Rattle.std.proofs.Common.{◌≡◌, ℕ, List, [], ◌∷◌, Ok, Err, refl, ap, ◌∙◌}
use Rattle.std.specs.Prelude.{IfOk}
use Rattle.sized_types.specs.Sizes.{Size}
use Rattle.fut_sizes.specs.Functions.{Taking, arrow, chosen_by, function_size, without}
use Rattle.size_arena.specs.Trees.{size_of}
use Rattle.size_functions.specs.Arrows.{Arrow, all_over, arrows_for}
use Rattle.size_functions.proofs.ArrowForms.{Tree_made}

arrows_size : (bs : List ℕ) (from to : ℕ) (ps : List Taking) (r : Size) → all_over from to (arrows_for bs ps) r ≡ function_size bs from to ps r
unfolding function_size all_over
arrows_size bs from to [] r = refl
arrows_size bs from to (p ∷ []) r = refl
arrows_size bs from to (p ∷ q ∷ ps) r = ap (arrow (chosen_by bs p) p []) (arrows_size (without (chosen_by bs p) bs) from to (q ∷ ps) r)

pub function_made : (bs : List ℕ) (from to : ℕ) (ps : List Taking) (r : Size) (arrows : List Arrow) (o : Tree_made) → arrows ≡ arrows_for bs ps → IfOk o (λ m. size_of m.now ≡ all_over from to arrows r) → IfOk o (λ m. size_of m.now ≡ function_size bs from to ps r)
function_made bs from to ps r arrows (Ok m) e h = h ∙ ap (λ z. all_over from to z r) e ∙ arrows_size bs from to ps r
function_made bs from to ps r arrows (Err x) e h = tt

pub ruleset functions = (function_made)
